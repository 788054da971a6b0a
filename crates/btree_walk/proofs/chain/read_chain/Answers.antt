use Rattle.std.proofs.Common.{◌≡◌, ◌+◌, ◌-◌, suc, not, true, drop, ◌++◌, ◌∷◌, [], ap, sym, subst, ◌∙◌, arith, refl}
use Rattle.db_format.specs.Bytes.{u32_at}
use Rattle.db_format.specs.Seen.{marked, open_count}
use Rattle.btree_walk.specs.Chain.{IsLinked}
use Rattle.btree_walk.proofs.ChainLemmas.{cut_all, chain_start, chain_done, chain_long, chain_short, chain_out, chain_twice, chain_placed, chain_refused, chain_on, chain_marked, chain_marked_link}
use Rattle.btree_walk.proofs.CauseLemmas.{named_is_page}
use Rattle.btree_walk.proofs.MarkLemmas.{keeps_also}
use Rattle.btree_model.specs.Range.{is_in_range}
use Rattle.btree_walk.proofs.chain.read_chain.Goals as goal

pub loop-turn-init : goal.loop-turn-init
loop-turn-init g c =
    record {
      reads = g.met.S.PageSource.reflexive c.args.source.now;
      kept = λ n marks. marks;
      pins = refl;
      seen_length = refl;
      fewer = omega arith;
      on = λ told taken met marks. let e : c.args.needed - 0 ≡ c.args.needed = omega arith in rw e (chain_start _ taken met c.args.needed c.args.start c.args.first c.args.payload.now.items _ marks);
    }

pub returns-then-n-eq0-clause-on : goal.returns-then-n-eq0-clause-on
returns-then-n-eq0-clause-on g c told taken met marks =
    let less = c.loop-turn-test.true in
    let more : c.args.needed - c.loop-turn.turn ≡ suc (c.args.needed - (c.loop-turn.turn + 1)) = omega arith in
    chain_short (g.S.PageSource.plain c.args.source.now) taken met c.args.needed c.args.start c.args.first c.args.payload.now.items (marked c.args.seen.now) marks
    (c.args.needed - (c.loop-turn.turn + 1)) c.loop-turn.holder c.loop-turn.n c.loop-turn.payload.items (marked c.loop-turn.seen)
    (subst (λ k. IsLinked (g.S.PageSource.plain c.args.source.now) taken met c.args.needed c.args.start c.args.first k c.loop-turn.holder c.loop-turn.n c.args.payload.now.items c.loop-turn.payload.items (marked c.args.seen.now) (marked c.loop-turn.seen)) more
    (c.loop-turn.invariant.on told taken met marks))
    c.if-n-eq0.true

pub returns-then-not-is_in_range-clause-on : goal.returns-then-not-is_in_range-clause-on
returns-then-not-is_in_range-clause-on g c told taken met marks =
    let less = c.loop-turn-test.true in
    let more : c.args.needed - c.loop-turn.turn ≡ suc (c.args.needed - (c.loop-turn.turn + 1)) = omega arith in
    chain_out (g.S.PageSource.plain c.args.source.now) taken met c.args.needed c.args.start c.args.first c.args.payload.now.items (marked c.args.seen.now) marks
    (c.args.needed - (c.loop-turn.turn + 1)) c.loop-turn.holder c.loop-turn.n c.loop-turn.payload.items (marked c.loop-turn.seen)
    (subst (λ k. IsLinked (g.S.PageSource.plain c.args.source.now) taken met c.args.needed c.args.start c.args.first k c.loop-turn.holder c.loop-turn.n c.args.payload.now.items c.loop-turn.payload.items (marked c.args.seen.now) (marked c.loop-turn.seen)) more
    (c.loop-turn.invariant.on told taken met marks))
    c.if-n-eq0.false (sym (c.if-not-is_in_range.ensures.value (g.S.PageSource.plain c.args.source.now) (sym c.pages-count.ensures)))

pub returns-then-not-mark-clause-on : goal.returns-then-not-mark-clause-on
returns-then-not-mark-clause-on g c told taken met marks =
    let less = c.loop-turn-test.true in
    let more : c.args.needed - c.loop-turn.turn ≡ suc (c.args.needed - (c.loop-turn.turn + 1)) = omega arith in
    chain_twice (g.S.PageSource.plain c.args.source.now) taken met c.args.needed c.args.start c.args.first c.args.payload.now.items (marked c.args.seen.now) marks
    (c.args.needed - (c.loop-turn.turn + 1)) c.loop-turn.holder c.loop-turn.n c.loop-turn.payload.items (marked c.loop-turn.seen)
    (subst (λ k. IsLinked (g.S.PageSource.plain c.args.source.now) taken met c.args.needed c.args.start c.args.first k c.loop-turn.holder c.loop-turn.n c.args.payload.now.items c.loop-turn.payload.items (marked c.args.seen.now) (marked c.loop-turn.seen)) more
    (c.loop-turn.invariant.on told taken met marks))
    c.if-n-eq0.false (sym (c.if-not-is_in_range.ensures.value (g.S.PageSource.plain c.args.source.now) (sym c.pages-count.ensures)))
    (c.mark.ensures.fresh ∙ ap not c.if-not-mark.true)

pub returns-in-Err-clause-on : goal.returns-in-Err-clause-on
returns-in-Err-clause-on g c told taken met marks =
    let same : g.S.PageSource.plain c.loop-turn.source ≡ g.S.PageSource.plain c.args.source.now = g.met.S.PageSource.same_pages c.args.source.now c.loop-turn.source c.loop-turn.invariant.reads told in
    let less = c.loop-turn-test.true in
    let more : c.args.needed - c.loop-turn.turn ≡ suc (c.args.needed - (c.loop-turn.turn + 1)) = omega arith in
    let at : IsLinked (g.S.PageSource.plain c.args.source.now) taken met c.args.needed c.args.start c.args.first (suc (c.args.needed - (c.loop-turn.turn + 1))) c.loop-turn.holder c.loop-turn.n c.args.payload.now.items c.loop-turn.payload.items (marked c.args.seen.now) (marked c.loop-turn.seen) =
    subst (λ k. IsLinked (g.S.PageSource.plain c.args.source.now) taken met c.args.needed c.args.start c.args.first k c.loop-turn.holder c.loop-turn.n c.args.payload.now.items c.loop-turn.payload.items (marked c.args.seen.now) (marked c.loop-turn.seen)) more
    (c.loop-turn.invariant.on told taken met marks)
    in
    let range : is_in_range (g.S.PageSource.plain c.args.source.now) c.loop-turn.n ≡ true = sym (c.if-not-is_in_range.ensures.value (g.S.PageSource.plain c.args.source.now) (sym c.pages-count.ensures)) in
    record {
      page = c.loop-turn.n;
      range = named_is_page (g.S.PageSource.plain c.args.source.now) c.loop-turn.n range;
      placed = chain_placed (g.S.PageSource.plain c.args.source.now) taken met c.args.needed c.args.start c.args.first c.args.payload.now.items (marked c.args.seen.now) marks
          (c.args.needed - (c.loop-turn.turn + 1)) c.loop-turn.holder c.loop-turn.n c.loop-turn.payload.items (marked c.loop-turn.seen) at c.if-n-eq0.false range;
      refused = subst (λ p. g.S.PageSource.refuses p c.loop-turn.n c.in-Err.refusal) same c.in-Err.ensures.refused;
      listed = chain_refused (g.S.PageSource.plain c.args.source.now) taken met c.args.needed c.args.start c.args.first c.args.payload.now.items (marked c.args.seen.now) marks
          (c.args.needed - (c.loop-turn.turn + 1)) c.loop-turn.holder c.loop-turn.n c.loop-turn.payload.items (marked c.loop-turn.seen) at c.if-n-eq0.false range
          (c.mark.ensures.fresh ∙ ap not c.if-not-mark.false);
    }

pub loop-turn-preserved : goal.loop-turn-preserved
loop-turn-preserved g c =
    record {
      reads = g.met.S.PageSource.transitive c.args.source.now c.loop-turn.source c.load.new.self c.loop-turn.invariant.reads c.in-Ok.ensures.reads;
      kept = λ n was. keeps_also (c.loop-turn.n ∷ []) (marked c.loop-turn.seen) (marked c.mark.new.self) c.mark.ensures.after n (c.loop-turn.invariant.kept n was);
      pins = c.in-Ok.ensures.pins ∙ c.loop-turn.invariant.pins;
      seen_length = c.mark.ensures.length ∙ c.loop-turn.invariant.seen_length;
      fewer = let one : open_count c.mark.new.self + 1 ≡ open_count c.loop-turn.seen = c.mark.ensures.count c.if-not-mark.false in let before = c.loop-turn.invariant.fewer in omega arith;
      on = λ told taken met marks.
          let same : g.S.PageSource.plain c.loop-turn.source ≡ g.S.PageSource.plain c.args.source.now = g.met.S.PageSource.same_pages c.args.source.now c.loop-turn.source c.loop-turn.invariant.reads told in
          let less = c.loop-turn-test.true in
          let more : c.args.needed - c.loop-turn.turn ≡ suc (c.args.needed - (c.loop-turn.turn + 1)) = omega arith in
          let body : c.loaded-bytes.result.now ≡ (g.S.PageSource.plain c.args.source.now).page c.loop-turn.n = c.loaded-bytes.ensures ∙ c.in-Ok.ensures.told told ∙ ap (λ p. p.page c.loop-turn.n) same in
          let next : c.u32_at-n.result ≡ u32_at ((g.S.PageSource.plain c.args.source.now).page c.loop-turn.n) 0 = c.u32_at-n.ensures ∙ ap (λ l. u32_at l 0) body in
          let grown : c.extend_from_slice.new.self.items ≡ c.loop-turn.payload.items ++ drop 4 ((g.S.PageSource.plain c.args.source.now).page c.loop-turn.n) = c.in-Ok-extend_from_slice.ensures.items ∙ ap (λ l. c.loop-turn.payload.items ++ l) (cut_all 4 c.loaded-bytes.result.now) ∙ ap (λ l. c.loop-turn.payload.items ++ drop 4 l) body in
          rw (next, grown, c.mark.ensures.after)
          (chain_on (g.S.PageSource.plain c.args.source.now) taken met c.args.needed c.args.start c.args.first c.args.payload.now.items (marked c.args.seen.now) marks
          (c.args.needed - (c.loop-turn.turn + 1)) c.loop-turn.holder c.loop-turn.n c.loop-turn.payload.items (marked c.loop-turn.seen)
          (subst (λ k. IsLinked (g.S.PageSource.plain c.args.source.now) taken met c.args.needed c.args.start c.args.first k c.loop-turn.holder c.loop-turn.n c.args.payload.now.items c.loop-turn.payload.items (marked c.args.seen.now) (marked c.loop-turn.seen)) more
          (c.loop-turn.invariant.on told taken met marks))
          c.if-n-eq0.false (sym (c.if-not-is_in_range.ensures.value (g.S.PageSource.plain c.args.source.now) (sym c.pages-count.ensures)))
          (c.mark.ensures.fresh ∙ ap not c.if-not-mark.false)
          (sym (ap (λ p. p.accepts c.loop-turn.n) same) ∙ c.in-Ok.ensures.accepted told));
    }

pub returns-then-n-eq0-2-clause-on : goal.returns-then-n-eq0-2-clause-on
returns-then-n-eq0-2-clause-on g c told taken met marks =
    let none : c.args.needed - c.loop-turn.turn ≡ 0 = omega arith in
    chain_done (g.S.PageSource.plain c.args.source.now) taken met c.args.needed c.args.start c.args.first c.args.payload.now.items (marked c.args.seen.now) marks
    c.loop-turn.holder c.loop-turn.n c.loop-turn.payload.items (marked c.loop-turn.seen)
    (subst (λ k. IsLinked (g.S.PageSource.plain c.args.source.now) taken met c.args.needed c.args.start c.args.first k c.loop-turn.holder c.loop-turn.n c.args.payload.now.items c.loop-turn.payload.items (marked c.args.seen.now) (marked c.loop-turn.seen)) none
    (c.loop-turn.invariant.on told taken met marks))
    c.if-n-eq0-2.true

pub returns-else-n-eq0-2-clause-on : goal.returns-else-n-eq0-2-clause-on
returns-else-n-eq0-2-clause-on g c told taken met marks =
    let none : c.args.needed - c.loop-turn.turn ≡ 0 = omega arith in
    chain_long (g.S.PageSource.plain c.args.source.now) taken met c.args.needed c.args.start c.args.first c.args.payload.now.items (marked c.args.seen.now) marks
    c.loop-turn.holder c.loop-turn.n c.loop-turn.payload.items (marked c.loop-turn.seen)
    (subst (λ k. IsLinked (g.S.PageSource.plain c.args.source.now) taken met c.args.needed c.args.start c.args.first k c.loop-turn.holder c.loop-turn.n c.args.payload.now.items c.loop-turn.payload.items (marked c.args.seen.now) (marked c.loop-turn.seen)) none
    (c.loop-turn.invariant.on told taken met marks))
    c.if-n-eq0-2.false

pub returns-then-n-eq0-clause-marks : goal.returns-then-n-eq0-clause-marks
returns-then-n-eq0-clause-marks g c told taken met marks =
    chain_marked (g.S.PageSource.plain c.args.source.now) taken met c.args.needed c.args.start c.args.first c.args.payload.now.items (marked c.args.seen.now) marks (c.args.needed - c.loop-turn.turn) c.loop-turn.holder c.loop-turn.n c.loop-turn.payload.items (marked c.loop-turn.seen) (c.loop-turn.invariant.on told taken met marks)

pub returns-then-not-is_in_range-clause-marks : goal.returns-then-not-is_in_range-clause-marks
returns-then-not-is_in_range-clause-marks g c told taken met marks =
    chain_marked (g.S.PageSource.plain c.args.source.now) taken met c.args.needed c.args.start c.args.first c.args.payload.now.items (marked c.args.seen.now) marks (c.args.needed - c.loop-turn.turn) c.loop-turn.holder c.loop-turn.n c.loop-turn.payload.items (marked c.loop-turn.seen) (c.loop-turn.invariant.on told taken met marks)

pub returns-then-not-mark-clause-marks : goal.returns-then-not-mark-clause-marks
returns-then-not-mark-clause-marks g c told taken met marks =
    let less = c.loop-turn-test.true in
    let more : c.args.needed - c.loop-turn.turn ≡ suc (c.args.needed - (c.loop-turn.turn + 1)) = omega arith in
    let at : IsLinked (g.S.PageSource.plain c.args.source.now) taken met c.args.needed c.args.start c.args.first (suc (c.args.needed - (c.loop-turn.turn + 1))) c.loop-turn.holder c.loop-turn.n c.args.payload.now.items c.loop-turn.payload.items (marked c.args.seen.now) (marked c.loop-turn.seen) =
    subst (λ k. IsLinked (g.S.PageSource.plain c.args.source.now) taken met c.args.needed c.args.start c.args.first (k) c.loop-turn.holder c.loop-turn.n c.args.payload.now.items c.loop-turn.payload.items (marked c.args.seen.now) (marked c.loop-turn.seen)) more (c.loop-turn.invariant.on told taken met marks)
    in
    rw c.mark.ensures.after
    (chain_marked_link (g.S.PageSource.plain c.args.source.now) taken met c.args.needed c.args.start c.args.first c.args.payload.now.items (marked c.args.seen.now) marks (c.args.needed - (c.loop-turn.turn + 1)) c.loop-turn.holder c.loop-turn.n c.loop-turn.payload.items (marked c.loop-turn.seen) at c.if-n-eq0.false (sym (c.if-not-is_in_range.ensures.value (g.S.PageSource.plain c.args.source.now) (sym c.pages-count.ensures))))

pub returns-in-Err-clause-marks : goal.returns-in-Err-clause-marks
returns-in-Err-clause-marks g c told taken met marks =
    let less = c.loop-turn-test.true in
    let more : c.args.needed - c.loop-turn.turn ≡ suc (c.args.needed - (c.loop-turn.turn + 1)) = omega arith in
    let at : IsLinked (g.S.PageSource.plain c.args.source.now) taken met c.args.needed c.args.start c.args.first (suc (c.args.needed - (c.loop-turn.turn + 1))) c.loop-turn.holder c.loop-turn.n c.args.payload.now.items c.loop-turn.payload.items (marked c.args.seen.now) (marked c.loop-turn.seen) =
    subst (λ k. IsLinked (g.S.PageSource.plain c.args.source.now) taken met c.args.needed c.args.start c.args.first (k) c.loop-turn.holder c.loop-turn.n c.args.payload.now.items c.loop-turn.payload.items (marked c.args.seen.now) (marked c.loop-turn.seen)) more (c.loop-turn.invariant.on told taken met marks)
    in
    rw c.mark.ensures.after
    (chain_marked_link (g.S.PageSource.plain c.args.source.now) taken met c.args.needed c.args.start c.args.first c.args.payload.now.items (marked c.args.seen.now) marks (c.args.needed - (c.loop-turn.turn + 1)) c.loop-turn.holder c.loop-turn.n c.loop-turn.payload.items (marked c.loop-turn.seen) at c.if-n-eq0.false (sym (c.if-not-is_in_range.ensures.value (g.S.PageSource.plain c.args.source.now) (sym c.pages-count.ensures))))

pub returns-in-Err-extend_from_slice-clause-marks : goal.returns-in-Err-extend_from_slice-clause-marks
returns-in-Err-extend_from_slice-clause-marks g c told taken met marks =
    let less = c.loop-turn-test.true in
    let more : c.args.needed - c.loop-turn.turn ≡ suc (c.args.needed - (c.loop-turn.turn + 1)) = omega arith in
    let at : IsLinked (g.S.PageSource.plain c.args.source.now) taken met c.args.needed c.args.start c.args.first (suc (c.args.needed - (c.loop-turn.turn + 1))) c.loop-turn.holder c.loop-turn.n c.args.payload.now.items c.loop-turn.payload.items (marked c.args.seen.now) (marked c.loop-turn.seen) =
    subst (λ k. IsLinked (g.S.PageSource.plain c.args.source.now) taken met c.args.needed c.args.start c.args.first (k) c.loop-turn.holder c.loop-turn.n c.args.payload.now.items c.loop-turn.payload.items (marked c.args.seen.now) (marked c.loop-turn.seen)) more (c.loop-turn.invariant.on told taken met marks)
    in
    rw c.mark.ensures.after
    (chain_marked_link (g.S.PageSource.plain c.args.source.now) taken met c.args.needed c.args.start c.args.first c.args.payload.now.items (marked c.args.seen.now) marks (c.args.needed - (c.loop-turn.turn + 1)) c.loop-turn.holder c.loop-turn.n c.loop-turn.payload.items (marked c.loop-turn.seen) at c.if-n-eq0.false (sym (c.if-not-is_in_range.ensures.value (g.S.PageSource.plain c.args.source.now) (sym c.pages-count.ensures))))

pub returns-else-n-eq0-2-clause-marks : goal.returns-else-n-eq0-2-clause-marks
returns-else-n-eq0-2-clause-marks g c told taken met marks =
    chain_marked (g.S.PageSource.plain c.args.source.now) taken met c.args.needed c.args.start c.args.first c.args.payload.now.items (marked c.args.seen.now) marks (c.args.needed - c.loop-turn.turn) c.loop-turn.holder c.loop-turn.n c.loop-turn.payload.items (marked c.loop-turn.seen) (c.loop-turn.invariant.on told taken met marks)

pub returns-then-not-mark-clause-kept : goal.returns-then-not-mark-clause-kept
returns-then-not-mark-clause-kept g c = λ n was. keeps_also (c.loop-turn.n ∷ []) (marked c.loop-turn.seen) (marked c.mark.new.self) c.mark.ensures.after n (c.loop-turn.invariant.kept n was)

pub returns-in-Err-clause-kept : goal.returns-in-Err-clause-kept
returns-in-Err-clause-kept g c = λ n was. keeps_also (c.loop-turn.n ∷ []) (marked c.loop-turn.seen) (marked c.mark.new.self) c.mark.ensures.after n (c.loop-turn.invariant.kept n was)

pub returns-in-Err-extend_from_slice-clause-kept : goal.returns-in-Err-extend_from_slice-clause-kept
returns-in-Err-extend_from_slice-clause-kept g c = λ n was. keeps_also (c.loop-turn.n ∷ []) (marked c.loop-turn.seen) (marked c.mark.new.self) c.mark.ensures.after n (c.loop-turn.invariant.kept n was)
