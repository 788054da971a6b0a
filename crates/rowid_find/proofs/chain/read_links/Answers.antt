use Rattle.std.proofs.Common.{◌≡◌, ◌+◌, ◌-◌, suc, ℕ, List, drop, ◌++◌, true, ap, sym, subst, ◌∙◌, arith, refl}
use Rattle.db_format.specs.Bytes.{u32_at}
use Rattle.db_format.specs.Pages.{Pages}
use Rattle.btree_model.specs.Range.{is_in_range}
use Rattle.btree_walk.proofs.CauseLemmas.{given_later, named_is_page}
use Rattle.btree_walk.proofs.ChainLemmas.{cut_all}
use Rattle.db_format.specs.Seen.{marked}
use Rattle.rowid_find.specs.Search.{Met, IsNotLoaded, IsOnChain}
use Rattle.rowid_find.proofs.ChainSteps.{chain_done, chain_long, chain_next, chain_out, chain_refused, chain_short, chain_start, chain_starved}
use Rattle.rowid_find.proofs.chain.read_links.Goals as goal

-- the same with another count of pages that are left
counted_as : (pages : Pages) (needed start first holder n : ℕ) (local got : List ℕ) (s t : Met) {more left : ℕ} → more ≡ left
    → IsOnChain pages needed start first more holder n local got s t → IsOnChain pages needed start first left holder n local got s t
counted_as pages needed start first holder n local got s t {more} {left} is at =
    subst (λ k. IsOnChain pages needed start first k holder n local got s t) is at

pub loop-turn-init : goal.loop-turn-init
loop-turn-init g c =
    record {
      reads = g.met.S.PageSource.reflexive c.args.source.now.source.now;
      same = refl;
      pins = refl;
      seen = refl;
      once = omega arith;
      on = λ told. let e : c.args.needed - 0 ≡ c.args.needed = omega arith in
          rw e (chain_start (g.S.PageSource.plain c.args.source.now.source.now) c.args.needed c.args.start c.args.first c.args.payload.now.items (record { reads = c.args.source.now.reads; marks = marked c.args.seen.now }));
    }

pub returns-then-n-eq0-clause-on : goal.returns-then-n-eq0-clause-on
returns-then-n-eq0-clause-on g c told =
    let less = c.loop-turn-test.true in
    let more : c.args.needed - c.loop-turn.turn ≡ suc (c.args.needed - (c.loop-turn.turn + 1)) = omega arith in
    chain_short (g.S.PageSource.plain c.args.source.now.source.now) c.args.needed c.args.start c.args.first c.args.payload.now.items (record { reads = c.args.source.now.reads; marks = marked c.args.seen.now })
    (c.args.needed - (c.loop-turn.turn + 1)) c.loop-turn.holder c.loop-turn.n c.loop-turn.payload.items (record { reads = c.loop-turn.source.reads; marks = marked c.loop-turn.seen })
    (counted_as _ _ _ _ _ _ _ _ _ _ more (c.loop-turn.invariant.on told)) g.S.PageSource.refuses c.if-n-eq0.true

pub returns-then-not-is_in_range-clause-on : goal.returns-then-not-is_in_range-clause-on
returns-then-not-is_in_range-clause-on g c told =
    let less = c.loop-turn-test.true in
    let more : c.args.needed - c.loop-turn.turn ≡ suc (c.args.needed - (c.loop-turn.turn + 1)) = omega arith in
    chain_out (g.S.PageSource.plain c.args.source.now.source.now) c.args.needed c.args.start c.args.first c.args.payload.now.items (record { reads = c.args.source.now.reads; marks = marked c.args.seen.now })
    (c.args.needed - (c.loop-turn.turn + 1)) c.loop-turn.holder c.loop-turn.n c.loop-turn.payload.items (record { reads = c.loop-turn.source.reads; marks = marked c.loop-turn.seen })
    (counted_as _ _ _ _ _ _ _ _ _ _ more (c.loop-turn.invariant.on told)) g.S.PageSource.refuses
    c.if-n-eq0.false (sym (c.if-not-is_in_range.ensures.value (g.S.PageSource.plain c.args.source.now.source.now) (sym c.pages-count.ensures)))

pub returns-in-Err-clause-on : goal.returns-in-Err-clause-on
returns-in-Err-clause-on g c told =
    let same : g.S.PageSource.plain c.loop-turn.source.source.now ≡ g.S.PageSource.plain c.args.source.now.source.now =
    g.met.S.PageSource.same_pages c.args.source.now.source.now c.loop-turn.source.source.now c.loop-turn.invariant.reads told in
    let less = c.loop-turn-test.true in
    let more : c.args.needed - c.loop-turn.turn ≡ suc (c.args.needed - (c.loop-turn.turn + 1)) = omega arith in
    let range : is_in_range (g.S.PageSource.plain c.args.source.now.source.now) c.loop-turn.n ≡ true =
    sym (c.if-not-is_in_range.ensures.value (g.S.PageSource.plain c.args.source.now.source.now) (sym c.pages-count.ensures)) in
    chain_refused (g.S.PageSource.plain c.args.source.now.source.now) c.args.needed c.args.start c.args.first c.args.payload.now.items (record { reads = c.args.source.now.reads; marks = marked c.args.seen.now })
    (c.args.needed - (c.loop-turn.turn + 1)) c.loop-turn.holder c.loop-turn.n c.loop-turn.payload.items (record { reads = c.loop-turn.source.reads; marks = marked c.loop-turn.seen })
    (counted_as _ _ _ _ _ _ _ _ _ _ more (c.loop-turn.invariant.on told)) c.if-n-eq0.false range
    g.S.PageSource.refuses (record { reads = c.load_new.new.source.reads; marks = marked c.load_new.new.seen }) c.in-Err.ensures.counted c.in-Err.error
    (subst (λ p. IsNotLoaded g.S.PageSource.refuses p c.loop-turn.n (record { reads = c.loop-turn.source.reads; marks = marked c.loop-turn.seen }) c.load_new.new.source.reads c.in-Err.error) same c.in-Err.ensures.refused)
    (named_is_page (g.S.PageSource.plain c.args.source.now.source.now) c.loop-turn.n range)

pub returns-in-Err-extend_from_slice-clause-on : goal.returns-in-Err-extend_from_slice-clause-on
returns-in-Err-extend_from_slice-clause-on g c told =
    let same : g.S.PageSource.plain c.loop-turn.source.source.now ≡ g.S.PageSource.plain c.args.source.now.source.now =
    g.met.S.PageSource.same_pages c.args.source.now.source.now c.loop-turn.source.source.now c.loop-turn.invariant.reads told in
    let less = c.loop-turn-test.true in
    let more : c.args.needed - c.loop-turn.turn ≡ suc (c.args.needed - (c.loop-turn.turn + 1)) = omega arith in
    chain_starved (g.S.PageSource.plain c.args.source.now.source.now) c.args.needed c.args.start c.args.first c.args.payload.now.items (record { reads = c.args.source.now.reads; marks = marked c.args.seen.now })
    _ _ _ _ (record { reads = c.load_new.new.source.reads; marks = marked c.load_new.new.seen })
    (chain_next (g.S.PageSource.plain c.args.source.now.source.now) c.args.needed c.args.start c.args.first c.args.payload.now.items (record { reads = c.args.source.now.reads; marks = marked c.args.seen.now })
    (c.args.needed - (c.loop-turn.turn + 1)) c.loop-turn.holder c.loop-turn.n c.loop-turn.payload.items (record { reads = c.loop-turn.source.reads; marks = marked c.loop-turn.seen })
    (counted_as _ _ _ _ _ _ _ _ _ _ more (c.loop-turn.invariant.on told)) c.if-n-eq0.false
    (sym (c.if-not-is_in_range.ensures.value (g.S.PageSource.plain c.args.source.now.source.now) (sym c.pages-count.ensures)))
    (record { reads = c.load_new.new.source.reads; marks = marked c.load_new.new.seen }) c.in-Ok.ensures.counted c.in-Ok.ensures.fresh c.in-Ok.ensures.marks (sym (ap (λ (p : Pages). p.accepts c.loop-turn.n) same) ∙ c.in-Ok.ensures.accepted told))
    g.S.PageSource.refuses

pub loop-turn-preserved : goal.loop-turn-preserved
loop-turn-preserved g c =
    record {
      reads = g.met.S.PageSource.transitive c.args.source.now.source.now c.loop-turn.source.source.now c.load_new.new.source.source.now c.loop-turn.invariant.reads c.in-Ok.ensures.reads.0;
      same = c.in-Ok.ensures.reads.1 ∙ c.loop-turn.invariant.same;
      pins = c.in-Ok.ensures.pins ∙ c.loop-turn.invariant.pins;
      seen = c.in-Ok.ensures.length ∙ c.loop-turn.invariant.seen;
      once = let before = c.loop-turn.invariant.once in let more = c.in-Ok.ensures.once in omega (arith, before, more);
      on = λ told.
          let same : g.S.PageSource.plain c.loop-turn.source.source.now ≡ g.S.PageSource.plain c.args.source.now.source.now =
          g.met.S.PageSource.same_pages c.args.source.now.source.now c.loop-turn.source.source.now c.loop-turn.invariant.reads told in
          let less = c.loop-turn-test.true in
          let more : c.args.needed - c.loop-turn.turn ≡ suc (c.args.needed - (c.loop-turn.turn + 1)) = omega arith in
          let body : c.loaded-bytes.result.now ≡ (g.S.PageSource.plain c.args.source.now.source.now).page c.loop-turn.n =
          c.loaded-bytes.ensures ∙ c.in-Ok.ensures.told told ∙ ap (λ (p : Pages). p.page c.loop-turn.n) same in
          let next : c.u32_at-n.result ≡ u32_at ((g.S.PageSource.plain c.args.source.now.source.now).page c.loop-turn.n) 0 =
          c.u32_at-n.ensures ∙ ap (λ l. u32_at l 0) body in
          let grown : c.extend_from_slice.new.self.items ≡ c.loop-turn.payload.items ++ drop 4 ((g.S.PageSource.plain c.args.source.now.source.now).page c.loop-turn.n) =
          c.in-Ok-extend_from_slice.ensures.items ∙ ap (λ l. c.loop-turn.payload.items ++ l) (cut_all 4 c.loaded-bytes.result.now)
          ∙ ap (λ l. c.loop-turn.payload.items ++ drop 4 l) body in
          rw (next, grown)
          (chain_next (g.S.PageSource.plain c.args.source.now.source.now) c.args.needed c.args.start c.args.first c.args.payload.now.items (record { reads = c.args.source.now.reads; marks = marked c.args.seen.now })
          (c.args.needed - (c.loop-turn.turn + 1)) c.loop-turn.holder c.loop-turn.n c.loop-turn.payload.items (record { reads = c.loop-turn.source.reads; marks = marked c.loop-turn.seen })
          (counted_as _ _ _ _ _ _ _ _ _ _ more (c.loop-turn.invariant.on told)) c.if-n-eq0.false
          (sym (c.if-not-is_in_range.ensures.value (g.S.PageSource.plain c.args.source.now.source.now) (sym c.pages-count.ensures)))
          (record { reads = c.load_new.new.source.reads; marks = marked c.load_new.new.seen }) c.in-Ok.ensures.counted c.in-Ok.ensures.fresh c.in-Ok.ensures.marks (sym (ap (λ (p : Pages). p.accepts c.loop-turn.n) same) ∙ c.in-Ok.ensures.accepted told));
    }

pub returns-then-n-eq0-2-clause-on : goal.returns-then-n-eq0-2-clause-on
returns-then-n-eq0-2-clause-on g c told =
    let none : c.args.needed - c.loop-turn.turn ≡ 0 = omega arith in
    chain_done (g.S.PageSource.plain c.args.source.now.source.now) c.args.needed c.args.start c.args.first c.args.payload.now.items (record { reads = c.args.source.now.reads; marks = marked c.args.seen.now })
    c.loop-turn.holder c.loop-turn.n c.loop-turn.payload.items (record { reads = c.loop-turn.source.reads; marks = marked c.loop-turn.seen })
    (counted_as _ _ _ _ _ _ _ _ _ _ none (c.loop-turn.invariant.on told)) c.if-n-eq0-2.true

pub returns-else-n-eq0-2-clause-on : goal.returns-else-n-eq0-2-clause-on
returns-else-n-eq0-2-clause-on g c told =
    let none : c.args.needed - c.loop-turn.turn ≡ 0 = omega arith in
    chain_long (g.S.PageSource.plain c.args.source.now.source.now) c.args.needed c.args.start c.args.first c.args.payload.now.items (record { reads = c.args.source.now.reads; marks = marked c.args.seen.now })
    c.loop-turn.holder c.loop-turn.n c.loop-turn.payload.items (record { reads = c.loop-turn.source.reads; marks = marked c.loop-turn.seen })
    (counted_as _ _ _ _ _ _ _ _ _ _ none (c.loop-turn.invariant.on told)) g.S.PageSource.refuses c.if-n-eq0-2.false

pub returns-in-Err-clause-reads : goal.returns-in-Err-clause-reads
returns-in-Err-clause-reads g c = (
  g.met.S.PageSource.transitive c.args.source.now.source.now c.loop-turn.source.source.now c.load_new.new.source.source.now c.loop-turn.invariant.reads c.in-Err.ensures.reads.0,
  c.in-Err.ensures.reads.1 ∙ c.loop-turn.invariant.same,
)

pub returns-in-Err-clause-given : goal.returns-in-Err-clause-given
returns-in-Err-clause-given g c =
    given_later g.S.PageSource.only_read g.S.PageSource.plain g.S.PageSource.refuses c.args.source.now.source.now c.loop-turn.source.source.now c.in-Err.error g.met.S.PageSource.transitive
    (g.met.S.PageSource.same_count c.args.source.now.source.now c.loop-turn.source.source.now c.loop-turn.invariant.reads) c.loop-turn.invariant.reads c.in-Err.ensures.given
