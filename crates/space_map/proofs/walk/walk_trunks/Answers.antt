use Rattle.std.proofs.Common.{◌≡◌, ◌+◌, ◌-◌, ◌<◌, suc, length, ap, sym, subst, ◌∙◌, arith}
use Rattle.db_format.specs.Pages.{Pages}
use Rattle.db_format.specs.Seen.{marked, open_count}
use Rattle.space_map.specs.Walk.{IsFreeWalkAt, IsStopped}
use Rattle.space_map.proofs.TrunkLemmas.{walk_done, walk_over, room, number_since}
use Rattle.btree_walk.proofs.CauseLemmas.{given_later, rose_later}
use Rattle.space_map.proofs.walk.walk_trunks.Goals as goal

pub returns-then-n-eq0-clause-on : goal.returns-then-n-eq0-clause-on
returns-then-n-eq0-clause-on g c told all taken at =
    let pages : Pages = g.S.PageSource.plain c.args.source.now in
    walk_done pages all taken (c.pages-count.result - c.loop-turn.turn) c.loop-turn.found (marked c.loop-turn.seen) (marked c.loop-turn.free)
    (subst (λ n. IsFreeWalkAt pages all taken (c.pages-count.result - c.loop-turn.turn) n c.loop-turn.found (marked c.loop-turn.seen) (marked c.loop-turn.free)) c.if-n-eq0.true
    (c.loop-turn.invariant.on told all taken
    (subst (λ k. IsFreeWalkAt pages all taken k c.args.first 0 (marked c.args.seen.now) (marked c.args.free.now)) (sym c.pages-count.ensures) at)))

pub returns-then-n-eq0-2-clause-on : goal.returns-then-n-eq0-2-clause-on
returns-then-n-eq0-2-clause-on g c told all taken at =
    let pages : Pages = g.S.PageSource.plain c.args.source.now in
    walk_done pages all taken (c.pages-count.result - c.loop-turn.turn) c.loop-turn.found (marked c.loop-turn.seen) (marked c.loop-turn.free)
    (subst (λ n. IsFreeWalkAt pages all taken (c.pages-count.result - c.loop-turn.turn) n c.loop-turn.found (marked c.loop-turn.seen) (marked c.loop-turn.free)) c.if-n-eq0-2.true
    (c.loop-turn.invariant.on told all taken
    (subst (λ k. IsFreeWalkAt pages all taken k c.args.first 0 (marked c.args.seen.now) (marked c.args.free.now)) (sym c.pages-count.ensures) at)))

pub returns-else-n-eq0-2-clause-on : goal.returns-else-n-eq0-2-clause-on
returns-else-n-eq0-2-clause-on g c told all taken at =
    let pages : Pages = g.S.PageSource.plain c.args.source.now in
    let none : c.pages-count.result - c.loop-turn.turn ≡ 0 = omega arith in
    walk_over pages all taken g.S.PageSource.refuses c.loop-turn.n c.loop-turn.found (marked c.loop-turn.seen) (marked c.loop-turn.free) c.if-n-eq0-2.false
    (subst (λ k. IsFreeWalkAt pages all taken k c.loop-turn.n c.loop-turn.found (marked c.loop-turn.seen) (marked c.loop-turn.free)) none
    (c.loop-turn.invariant.on told all taken
    (subst (λ k. IsFreeWalkAt pages all taken k c.args.first 0 (marked c.args.seen.now) (marked c.args.free.now)) (sym c.pages-count.ensures) at)))

pub returns-in-Err-clause-on : goal.returns-in-Err-clause-on
returns-in-Err-clause-on g c told all taken at =
    let pages : Pages = g.S.PageSource.plain c.args.source.now in
    let same : g.S.PageSource.plain c.loop-turn.source ≡ pages = g.met.S.PageSource.same_pages c.args.source.now c.loop-turn.source c.loop-turn.invariant.read told in
    let more : c.pages-count.result - c.loop-turn.turn ≡ suc (c.pages-count.result - (c.loop-turn.turn + 1)) = let less = c.loop-turn-test.true in omega arith in
    subst (λ p. IsStopped g.S.PageSource.refuses p all taken (marked c.visit_trunk.new.seen) c.in-Err.stop) same
    (c.in-Err.ensures.on told all taken (c.pages-count.result - (c.loop-turn.turn + 1)) c.loop-turn.found
    (subst (λ p. IsFreeWalkAt p all taken (suc (c.pages-count.result - (c.loop-turn.turn + 1))) c.loop-turn.n c.loop-turn.found (marked c.loop-turn.seen) (marked c.loop-turn.free)) (sym same)
    (subst (λ k. IsFreeWalkAt pages all taken k c.loop-turn.n c.loop-turn.found (marked c.loop-turn.seen) (marked c.loop-turn.free)) more
    (c.loop-turn.invariant.on told all taken
    (subst (λ k. IsFreeWalkAt pages all taken k c.args.first 0 (marked c.args.seen.now) (marked c.args.free.now)) (sym c.pages-count.ensures) at)))))

pub returns-in-Err-clause-given : goal.returns-in-Err-clause-given
returns-in-Err-clause-given g c =
    given_later g.S.PageSource.only_read g.S.PageSource.plain g.S.PageSource.refuses c.args.source.now c.loop-turn.source c.in-Err.stop g.met.S.PageSource.transitive
    (g.met.S.PageSource.same_count c.args.source.now c.loop-turn.source c.loop-turn.invariant.read) c.loop-turn.invariant.read c.in-Err.ensures.given

pub returns-in-Err-clause-fault : goal.returns-in-Err-clause-fault
returns-in-Err-clause-fault g c failed =
    rose_later (g.S.PageSource.faults c.args.source.now) (g.S.PageSource.faults c.loop-turn.source) (g.S.PageSource.faults c.visit_trunk.new.source)
    (g.met.S.PageSource.later c.args.source.now c.loop-turn.source c.loop-turn.invariant.read) (c.in-Err.ensures.fault failed)

pub overflow_add-found : goal.overflow_add-found
overflow_add-found g c =
    let before : c.loop-turn.found + open_count c.loop-turn.seen ≡ open_count c.args.seen.now = c.loop-turn.invariant.less in
    let fewer : open_count c.visit_trunk.new.seen + (1 + c.in-Ok.trunk.size) ≡ open_count c.loop-turn.seen = c.in-Ok.ensures.less in
    let counted : length c.args.seen.now ≡ c.pages-count.result + 1 = c.requires.seen ∙ ap (λ k. k + 1) (sym c.pages-count.ensures) in
    let left : open_count c.args.seen.now < open_count c.visit_trunk.new.seen + length c.args.seen.now =
    room c.args.seen.now c.visit_trunk.new.seen (omega arith) (c.in-Ok.ensures.seen_length ∙ c.loop-turn.invariant.seen_length) (c.in-Ok.ensures.zero ∙ c.loop-turn.invariant.zero)
    in
    omega arith

pub overflow_add-found-in-Ok : goal.overflow_add-found-in-Ok
overflow_add-found-in-Ok g c =
    let before : c.loop-turn.found + open_count c.loop-turn.seen ≡ open_count c.args.seen.now = c.loop-turn.invariant.less in
    let fewer : open_count c.visit_trunk.new.seen + (1 + c.in-Ok.trunk.size) ≡ open_count c.loop-turn.seen = c.in-Ok.ensures.less in
    let counted : length c.args.seen.now ≡ c.pages-count.result + 1 = c.requires.seen ∙ ap (λ k. k + 1) (sym c.pages-count.ensures) in
    let left : open_count c.args.seen.now < open_count c.visit_trunk.new.seen + length c.args.seen.now =
    room c.args.seen.now c.visit_trunk.new.seen (omega arith) (c.in-Ok.ensures.seen_length ∙ c.loop-turn.invariant.seen_length) (c.in-Ok.ensures.zero ∙ c.loop-turn.invariant.zero)
    in
    omega arith

pub loop-turn-preserved : goal.loop-turn-preserved
loop-turn-preserved g c =
    let pages : Pages = g.S.PageSource.plain c.args.source.now in
    record {
      read = g.met.S.PageSource.transitive c.args.source.now c.loop-turn.source c.visit_trunk.new.source c.loop-turn.invariant.read c.in-Ok.ensures.reads;
      pins = c.in-Ok.ensures.pins ∙ c.loop-turn.invariant.pins;
      seen_length = c.in-Ok.ensures.seen_length ∙ c.loop-turn.invariant.seen_length;
      free_length = c.in-Ok.ensures.free_length ∙ c.loop-turn.invariant.free_length;
      number = number_since (g.S.PageSource.plain c.loop-turn.source) pages c.in-Ok.trunk.next (g.met.S.PageSource.same_count c.args.source.now c.loop-turn.source c.loop-turn.invariant.read) c.in-Ok.ensures.next;
      kept = λ n h. c.in-Ok.ensures.kept n (c.loop-turn.invariant.kept n h);
      zero = c.in-Ok.ensures.zero ∙ c.loop-turn.invariant.zero;
      less =
          let before : c.loop-turn.found + open_count c.loop-turn.seen ≡ open_count c.args.seen.now = c.loop-turn.invariant.less in
          let fewer : open_count c.visit_trunk.new.seen + (1 + c.in-Ok.trunk.size) ≡ open_count c.loop-turn.seen = c.in-Ok.ensures.less in
          omega arith;
      on = λ told all taken at.
          let same : g.S.PageSource.plain c.loop-turn.source ≡ pages = g.met.S.PageSource.same_pages c.args.source.now c.loop-turn.source c.loop-turn.invariant.read told in
          let more : c.pages-count.result - c.loop-turn.turn ≡ suc (c.pages-count.result - (c.loop-turn.turn + 1)) = let less = c.loop-turn-test.true in omega arith in
          subst (λ p. IsFreeWalkAt p all taken (c.pages-count.result - (c.loop-turn.turn + 1)) c.in-Ok.trunk.next (c.loop-turn.found + (1 + c.in-Ok.trunk.size)) (marked c.visit_trunk.new.seen) (marked c.visit_trunk.new.free)) same
          (c.in-Ok.ensures.on told all taken (c.pages-count.result - (c.loop-turn.turn + 1)) c.loop-turn.found
          (subst (λ p. IsFreeWalkAt p all taken (suc (c.pages-count.result - (c.loop-turn.turn + 1))) c.loop-turn.n c.loop-turn.found (marked c.loop-turn.seen) (marked c.loop-turn.free)) (sym same)
          (subst (λ k. IsFreeWalkAt pages all taken k c.loop-turn.n c.loop-turn.found (marked c.loop-turn.seen) (marked c.loop-turn.free)) more
          (c.loop-turn.invariant.on told all taken at))));
    }
