use Rattle.std.proofs.Common.{◌≡◌, ℕ, List, ◌+◌, ◌≤◌, not, [], ◌∷◌, length, ap, sym, subst, ◌∙◌, arith}
use Rattle.db_format.specs.Pages.{Pages}
use Rattle.db_format.specs.Seen.{marked}
use Rattle.btree_model.specs.Freelist.{numbers_at}
use Rattle.btree_walk.specs.Causes.{IsMarked}
use Rattle.space_map.specs.Walk.{IsInside, IsTrunk, IsLeafTwice}
use Rattle.btree_walk.proofs.MarkLemmas.{keeps_also}
use Rattle.space_map.proofs.TrunkLemmas.{trunk_refused, trunk_marks, trunk_twice, trunk_open, trunk_closed, trunk_room, leaf_marked, leaf_low, zero_on, page_in}
use Rattle.space_map.proofs.walk.visit_trunk.Goals as goal

pub returns-then-not-mark-clause-on : goal.returns-then-not-mark-clause-on
returns-then-not-mark-clause-on g c told all taken fuel found at =
    record {
      first = trunk_twice _ all taken fuel c.args.n found (marked c.args.seen.now) (marked c.args.free.now) at c.requires.low (c.mark.ensures.fresh ∙ ap not c.if-not-mark.true);
      marks = subst (λ t. IsMarked all taken t) (sym c.mark.ensures.after) (trunk_marks _ all taken fuel c.args.n found (marked c.args.seen.now) (marked c.args.free.now) at c.requires.low);
    }

pub returns-then-not-mark-clause-kept : goal.returns-then-not-mark-clause-kept
returns-then-not-mark-clause-kept g c = keeps_also (c.args.n ∷ []) _ _ c.mark.ensures.after

pub returns-then-not-mark-clause-zero : goal.returns-then-not-mark-clause-zero
returns-then-not-mark-clause-zero g c = ap (λ t. t 0) c.mark.ensures.after ∙ zero_on c.args.n (marked c.args.seen.now) c.requires.low

pub returns-in-Err-clause-on : goal.returns-in-Err-clause-on
returns-in-Err-clause-on g c told all taken fuel found at =
    record {
      first = trunk_refused (g.S.PageSource.plain c.args.source.now) all taken fuel c.args.n found (marked c.args.seen.now) (marked c.args.free.now) at c.requires.low
          g.S.PageSource.refuses c.in-Err.refusal c.requires.high c.in-Err.ensures.refused (c.mark.ensures.fresh ∙ ap not c.if-not-mark.false);
      marks = subst (λ t. IsMarked all taken t) (sym c.mark.ensures.after) (trunk_marks _ all taken fuel c.args.n found (marked c.args.seen.now) (marked c.args.free.now) at c.requires.low);
    }

pub returns-in-Err-clause-given : goal.returns-in-Err-clause-given
returns-in-Err-clause-given g c =
    record {
      state = c.args.source.now;
      since = g.met.S.PageSource.reflexive c.args.source.now;
      page = c.args.n;
      range = let low : 2 ≤ c.args.n = c.requires.low in page_in (g.S.PageSource.plain c.args.source.now) c.args.n (omega arith) c.requires.high;
      refused = c.in-Err.ensures.refused;
    }

pub returns-in-Err-clause-kept : goal.returns-in-Err-clause-kept
returns-in-Err-clause-kept g c = keeps_also (c.args.n ∷ []) _ _ c.mark.ensures.after

pub returns-in-Err-clause-zero : goal.returns-in-Err-clause-zero
returns-in-Err-clause-zero g c = ap (λ t. t 0) c.mark.ensures.after ∙ zero_on c.args.n (marked c.args.seen.now) c.requires.low

pub take_leaves-requires-clause-fits : goal.take_leaves-requires-clause-fits
take_leaves-requires-clause-fits g c =
    let pages : Pages = g.S.PageSource.plain c.args.source.now in
    let bytes : List ℕ = c.loaded-bytes.result.now in
    let whole : pages.usable ≡ length bytes = sym (ap length c.loaded-bytes.ensures ∙ c.in-Ok.ensures.size) in
    trunk_room pages bytes c.in-Some.trunk (c.in-Some.ensures pages (sym c.pages-count.ensures) whole) whole c.in-Ok.ensures.usable.least

pub take_leaves-requires-clause-low : goal.take_leaves-requires-clause-low
take_leaves-requires-clause-low g c i more =
    let pages : Pages = g.S.PageSource.plain c.args.source.now in
    let bytes : List ℕ = c.loaded-bytes.result.now in
    let whole : pages.usable ≡ length bytes = sym (ap length c.loaded-bytes.ensures ∙ c.in-Ok.ensures.size) in
    leaf_low pages bytes c.in-Some.trunk i (c.in-Some.ensures pages (sym c.pages-count.ensures) whole) more

pub take_leaves-requires-clause-high : goal.take_leaves-requires-clause-high
take_leaves-requires-clause-high g c i more =
    let pages : Pages = g.S.PageSource.plain c.args.source.now in
    let bytes : List ℕ = c.loaded-bytes.result.now in
    let whole : pages.usable ≡ length bytes = sym (ap length c.loaded-bytes.ensures ∙ c.in-Ok.ensures.size) in
    leaf_marked pages bytes c.in-Some.trunk (length c.mark.new.self) i (c.in-Some.ensures pages (sym c.pages-count.ensures) whole)
    (c.mark.ensures.length ∙ c.requires.seen) more

pub returns-in-None-clause-on : goal.returns-in-None-clause-on
returns-in-None-clause-on g c told all taken fuel found at =
    let pages : Pages = g.S.PageSource.plain c.args.source.now in
    let bytes : List ℕ = c.loaded-bytes.result.now in
    let whole : pages.usable ≡ length bytes = sym (ap length c.loaded-bytes.ensures ∙ c.in-Ok.ensures.size) in
    record {
      first = trunk_closed pages all taken fuel c.args.n found (marked c.args.seen.now) (marked c.args.free.now) at c.requires.low bytes (c.loaded-bytes.ensures ∙ c.in-Ok.ensures.told told)
          (c.in-None.ensures pages (sym c.pages-count.ensures) whole) (c.mark.ensures.fresh ∙ ap not c.if-not-mark.false) (c.in-Ok.ensures.accepted told);
      marks = subst (λ t. IsMarked all taken t) (sym c.mark.ensures.after) (trunk_marks _ all taken fuel c.args.n found (marked c.args.seen.now) (marked c.args.free.now) at c.requires.low);
    }

pub returns-in-None-clause-kept : goal.returns-in-None-clause-kept
returns-in-None-clause-kept g c = keeps_also (c.args.n ∷ []) _ _ c.mark.ensures.after

pub returns-in-None-clause-zero : goal.returns-in-None-clause-zero
returns-in-None-clause-zero g c = ap (λ t. t 0) c.mark.ensures.after ∙ zero_on c.args.n (marked c.args.seen.now) c.requires.low

pub returns-in-Err-take_leaves-clause-on : goal.returns-in-Err-take_leaves-clause-on
returns-in-Err-take_leaves-clause-on g c told all taken fuel found at =
    let pages : Pages = g.S.PageSource.plain c.args.source.now in
    let bytes : List ℕ = c.loaded-bytes.result.now in
    let whole : pages.usable ≡ length bytes = sym (ap length c.loaded-bytes.ensures ∙ c.in-Ok.ensures.size) in
    let twice : IsLeafTwice all taken (marked c.take_leaves.new.seen) c.in-Err-take_leaves.leaf =
    c.in-Err-take_leaves.ensures.on pages all taken fuel c.in-Some.trunk.next (found + 1)
    (subst (λ t. IsInside pages all taken fuel c.in-Some.trunk.next (numbers_at bytes 8 c.in-Some.trunk.size) (found + 1) t (marked c.args.free.now)) (sym c.mark.ensures.after)
    (trunk_open pages all taken fuel c.args.n found (marked c.args.seen.now) (marked c.args.free.now) at c.requires.low bytes c.in-Some.trunk (c.loaded-bytes.ensures ∙ c.in-Ok.ensures.told told)
    (c.in-Some.ensures pages (sym c.pages-count.ensures) whole) (c.mark.ensures.fresh ∙ ap not c.if-not-mark.false) (c.in-Ok.ensures.accepted told)))
    in
    record { first = twice.first; marks = twice.marks }

pub returns-in-Err-take_leaves-clause-kept : goal.returns-in-Err-take_leaves-clause-kept
returns-in-Err-take_leaves-clause-kept g c n h = c.in-Err-take_leaves.ensures.kept n (keeps_also (c.args.n ∷ []) _ _ c.mark.ensures.after n h)

pub returns-in-Ok-take_leaves-clause-kept : goal.returns-in-Ok-take_leaves-clause-kept
returns-in-Ok-take_leaves-clause-kept g c n h = c.in-Ok-take_leaves.ensures.kept n (keeps_also (c.args.n ∷ []) _ _ c.mark.ensures.after n h)

pub returns-in-Ok-take_leaves-clause-next : goal.returns-in-Ok-take_leaves-clause-next
returns-in-Ok-take_leaves-clause-next g c =
    let pages : Pages = g.S.PageSource.plain c.args.source.now in
    let bytes : List ℕ = c.loaded-bytes.result.now in
    let whole : pages.usable ≡ length bytes = sym (ap length c.loaded-bytes.ensures ∙ c.in-Ok.ensures.size) in
    let is : IsTrunk pages bytes c.in-Some.trunk = c.in-Some.ensures pages (sym c.pages-count.ensures) whole in
    is.number

pub returns-in-Ok-take_leaves-clause-on : goal.returns-in-Ok-take_leaves-clause-on
returns-in-Ok-take_leaves-clause-on g c told all taken fuel found at =
    let pages : Pages = g.S.PageSource.plain c.args.source.now in
    let bytes : List ℕ = c.loaded-bytes.result.now in
    let whole : pages.usable ≡ length bytes = sym (ap length c.loaded-bytes.ensures ∙ c.in-Ok.ensures.size) in
    let e : found + (1 + c.in-Some.trunk.size) ≡ found + 1 + c.in-Some.trunk.size = omega arith in
    rw e
    (c.in-Ok-take_leaves.ensures.on pages all taken fuel c.in-Some.trunk.next (found + 1)
    (subst (λ t. IsInside pages all taken fuel c.in-Some.trunk.next (numbers_at bytes 8 c.in-Some.trunk.size) (found + 1) t (marked c.args.free.now)) (sym c.mark.ensures.after)
    (trunk_open pages all taken fuel c.args.n found (marked c.args.seen.now) (marked c.args.free.now) at c.requires.low bytes c.in-Some.trunk (c.loaded-bytes.ensures ∙ c.in-Ok.ensures.told told)
    (c.in-Some.ensures pages (sym c.pages-count.ensures) whole) (c.mark.ensures.fresh ∙ ap not c.if-not-mark.false) (c.in-Ok.ensures.accepted told))))

pub returns-in-Err-take_leaves-clause-zero : goal.returns-in-Err-take_leaves-clause-zero
returns-in-Err-take_leaves-clause-zero g c =
    c.in-Err-take_leaves.ensures.zero ∙ ap (λ t. t 0) c.mark.ensures.after ∙ zero_on c.args.n (marked c.args.seen.now) c.requires.low

pub returns-in-Ok-take_leaves-clause-zero : goal.returns-in-Ok-take_leaves-clause-zero
returns-in-Ok-take_leaves-clause-zero g c =
    c.in-Ok-take_leaves.ensures.zero ∙ ap (λ t. t 0) c.mark.ensures.after ∙ zero_on c.args.n (marked c.args.seen.now) c.requires.low
