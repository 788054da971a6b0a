use Rattle.std.proofs.Common.{rules, ◌≡◌, ◌≤◌, ◌+◌, ◌*◌, inl, inr, [], length, ℕ, arith, suc, false, List, ◌∷◌, ap, sym, subst, ◌∙◌, ◌++◌}
use Rattle.load_model.specs.Open.{at_height}
use Rattle.load_model.specs.Stands.{OpenPagesStand}
use Rattle.btree_page.specs.Kind.{family_of}
use Rattle.bulk_load.specs.declared.pair.Pair.{Pair}
use Rattle.bulk_load.specs.declared.level.Level.{Level}
use Rattle.bulk_load.specs.Level.{AreNamed}
use Rattle.bulk_load.specs.Levels.{opened}
use Rattle.bulk_load.specs.Own.{Covers, only}
use Rattle.bulk_load.proofs.PutLemmas.{covers_before, covers_behind}
use Rattle.bulk_load.proofs.SettleLemmas.{family_up}
use Rattle.bulk_load.proofs.LevelLemmas.{next_is, IsNext}
use Rattle.bulk_load.proofs.DrainLemmas.{drain_false, drain_true}
use Rattle.bulk_load.specs.Count.{CanEnd}
use Rattle.bulk_load.specs.Volume.{price, sizes, volumes}
use Rattle.bulk_load.proofs.CountLemmas.{closed_can}
use Rattle.std.proofs.lemmas.Result.{on_ok_weaker}
use Rattle.bulk_load.proofs.VolumeLemmas.{paid_then, price_le, spent_then}
use Rattle.bulk_load.proofs.levels.+drain.Goals as goal

pub settle-requires-clause-next : goal.settle-requires-clause-next
settle-requires-clause-next g t c =
    let usable : ℕ = (g.P.PageOut.pages c.args.out.now).usable in
    let named : AreNamed usable (c.in-Some.first ∷ c.take_oldest.new.waiting.items) = subst (λ l. AreNamed usable l) c.in-Some.ensures c.requires.ready.named in
    c.next_size-more.ensures.most usable (omega (arith, named.0.short)) named.1

pub returns-in-Ok-false-clause-drained : goal.returns-in-Ok-false-clause-drained
returns-in-Ok-false-clause-drained g t c start well own covers todo todos h back last pushed up hold above st =
    let old = only own (g.P.PageOut.pages c.args.out.now) in
    let mid = only own (g.P.PageOut.pages c.settle.new.out) in
    let here = c.args.level.now.page.kind in
    let rest : List Pair = c.take_oldest.new.waiting.items in
    let level : Level = record { page = c.settle.new.page; waiting = c.take_oldest.new.waiting } in
    let next : IsNext mid c.settle.new.page c.settle.new.pair rest old.usable here h (opened (suc h) todos) back last pushed c.in-Ok-false.field-0 =
    next_is old mid c.args.level.now.page c.settle.new.page c.args.level.now.waiting.items rest c.in-Some.first c.settle.new.pair c.in-Ok-false.field-0 hold.cells hold.between todo h (opened (suc h) todos) back last pushed
    (c.in-Ok-false.ensures.settled start well own (covers_before _ own _ _ _ c.drain-in-Ok-false.ensures.keeps.count covers)) c.in-Some.ensures hold.has hold.pairs hold.is
    (subst (λ f. OpenPagesStand old f last (opened (suc h) todos ++ (at_height h todo ++ back)) pushed) (ap family_of (sym up) ∙ family_up here) st)
    in
    drain_false mid (only own (g.P.PageOut.pages c.drain-in-Ok-false.new.out)) level c.drain-in-Ok-false.new.level c.args.above.now.items c.drain-in-Ok-false.new.above.items c.settle.new.pair old.usable c.args.kind here c.drain-in-Ok-false.result
    todos h back last pushed c.in-Ok-false.field-0 (c.drain-in-Ok-false.ensures.drained start (c.in-Ok-false.ensures.follows.told start well) own (covers_behind _ own _ _ _ c.in-Ok-false.ensures.keeps.count covers)) c.in-Ok-false.ensures.keeps.size c.in-Ok-false.ensures.shape.kind up above c.in-Ok-false.field-0-test next

pub returns-in_ok-climb-in-Ok-true-clause-drained : goal.returns-in_ok-climb-in-Ok-true-clause-drained
returns-in_ok-climb-in-Ok-true-clause-drained g t c start well own covers todo todos h back last pushed up hold above st =
    let p = g.P.PageOut.pages in
    let first : Covers false own (p c.args.out.now) (p c.climb.new.out) = covers_before false own _ _ (p c.drain.new.out) c.drain.ensures.keeps.count covers in
    let behind : Covers false own (p c.settle.new.out) (p c.drain.new.out) = covers_behind false own (p c.args.out.now) _ _ c.in-Ok-true.ensures.keeps.count covers in
    let later : Covers false own (p c.climb.new.out) (p c.drain.new.out) = covers_behind false own (p c.settle.new.out) _ _ c.in_ok-climb-in-Ok-true.ensures.keeps.count behind in
    let old = only own (g.P.PageOut.pages c.args.out.now) in
    let mid = only own (g.P.PageOut.pages c.settle.new.out) in
    let here = c.args.level.now.page.kind in
    let rest : List Pair = c.take_oldest.new.waiting.items in
    let level : Level = record { page = c.settle.new.page; waiting = c.take_oldest.new.waiting } in
    let next : IsNext mid c.settle.new.page c.settle.new.pair rest old.usable here h (opened (suc h) todos) back last pushed c.in-Ok-true.field-0 =
    next_is old mid c.args.level.now.page c.settle.new.page c.args.level.now.waiting.items rest c.in-Some.first c.settle.new.pair c.in-Ok-true.field-0 hold.cells hold.between todo h (opened (suc h) todos) back last pushed
    (c.in-Ok-true.ensures.settled start well own (covers_before _ own _ _ _ c.in_ok-climb-in-Ok-true.ensures.keeps.count first)) c.in-Some.ensures hold.has hold.pairs hold.is
    (subst (λ f. OpenPagesStand old f last (opened (suc h) todos ++ (at_height h todo ++ back)) pushed) (ap family_of (sym up) ∙ family_up here) st)
    in
    drain_true mid (only own (g.P.PageOut.pages c.climb.new.out)) (only own (g.P.PageOut.pages c.drain.new.out)) level c.drain.new.level c.args.above.now.items c.climb.new.levels.items c.drain.new.above.items c.settle.new.pair old.usable c.args.kind here c.drain.result
    todos h back last pushed c.in-Ok-true.field-0 (c.in_ok-climb-in-Ok-true.ensures.climbed start (c.in-Ok-true.ensures.follows.told start well) own (covers_behind _ own _ _ _ c.in-Ok-true.ensures.keeps.count first))
    (c.drain.ensures.drained start (c.in_ok-climb-in-Ok-true.ensures.follows.told start (c.in-Ok-true.ensures.follows.told start well)) own later) c.in-Ok-true.ensures.keeps.size
    (c.in_ok-climb-in-Ok-true.ensures.keeps.size ∙ c.in-Ok-true.ensures.keeps.size)
    c.in-Ok-true.ensures.shape.kind up above c.in-Ok-true.field-0-test next

pub returns-in_ok-climb-in-Ok-true-clause-filled : goal.returns-in_ok-climb-in-Ok-true-clause-filled
returns-in_ok-climb-in-Ok-true-clause-filled g t c can some =
    let rest : List Pair = c.take_oldest.new.waiting.items in
    let first : Pair = c.in-Some.first in
    let page = c.args.level.now.page in
    let none : rest ≡ [] → c.next_size-more.result ≡ 0 =
    λ e. let most : 3 * c.next_size-more.result + 12 ≤ 12 = c.next_size-more.ensures.most 12 (omega arith) (subst (AreNamed 12) (sym e) tt) in omega arith in
    let left : CanEnd c.settle.new.page rest × (1 ≤ length rest) =
    closed_can page c.settle.new.page first rest (subst (CanEnd page) c.in-Some.ensures can) (c.in-Ok-true.ensures.emptied c.in-Ok-true.field-0-test)
    (λ last fits. elim fits [
      | inl empty ↦ let no : c.in-Ok-true.field-0 ≡ false = c.in-Ok-true.ensures.empty empty in search rules
      | inr room ↦
          let zero : c.next_size-more.result ≡ 0 = none last in
          let no : c.in-Ok-true.field-0 ≡ false = c.in-Ok-true.ensures.fits (omega arith) in
          search rules
    ])
    in
    c.drain.ensures.filled left.0 (omega (arith, left.1))

pub returns-in-Err-clause-spent : goal.returns-in-Err-clause-spent
returns-in-Err-clause-spent g t c =
    let p = g.P.PageOut.pages in
    let usable : ℕ = (p c.args.out.now).usable in
    let one : (p c.settle.new.out).count ≤ (p c.args.out.now).count + 1 = c.in-Err.ensures.refused in
    let paid : price usable (p c.settle.new.out).count ≤ price usable ((p c.args.out.now).count + length c.args.level.now.waiting.items + 1) =
    price_le usable (p c.settle.new.out).count ((p c.args.out.now).count + length c.args.level.now.waiting.items + 1) (omega arith) in
    omega arith

pub returns-in-Ok-false-clause-spent : goal.returns-in-Ok-false-clause-spent
returns-in-Ok-false-clause-spent g t c =
    let p = g.P.PageOut.pages in
    let usable : ℕ = (p c.args.out.now).usable in
    let old : ℕ = (p c.args.out.now).count in
    let mid : ℕ = (p c.settle.new.out).count in
    let new : ℕ = (p c.drain-in-Ok-false.new.out).count in
    let rest : List Pair = c.take_oldest.new.waiting.items in
    let first : Pair = c.in-Some.first in
    let up : ℕ = volumes c.args.above.now.items in
    let many : length c.args.level.now.waiting.items ≡ length rest + 1 = ap length c.in-Some.ensures ∙ omega arith in
    let bytes : sizes c.args.level.now.waiting.items ≡ length first.cell.items + 2 + sizes rest = ap sizes c.in-Some.ensures in
    let none : mid ≤ old + 1 = search rules in
    let here : price usable mid ≤ price usable (old + 1) = price_le usable mid (old + 1) none in
    let later : price usable new ≤ price usable (mid + length rest + 1) + (6 * sizes rest + up) =
    subst (λ u. price u new ≤ price u (mid + length rest + 1) + (6 * sizes rest + up)) c.in-Ok-false.ensures.keeps.size c.drain-in-Ok-false.ensures.spent in
    let all : price usable new + 0 ≤ price usable (old + length c.args.level.now.waiting.items + 1) + (up + 6 * sizes rest + 0) =
    spent_then usable old mid new (length c.args.level.now.waiting.items) (length rest) 0 0 0 (up + 6 * sizes rest) many (omega arith) (omega arith) in
    omega arith

pub returns-in_ok-climb-in-Ok-true-clause-spent : goal.returns-in_ok-climb-in-Ok-true-clause-spent
returns-in_ok-climb-in-Ok-true-clause-spent g t c =
    let p = g.P.PageOut.pages in
    let usable : ℕ = (p c.args.out.now).usable in
    let old : ℕ = (p c.args.out.now).count in
    let mid : ℕ = (p c.climb.new.out).count in
    let new : ℕ = (p c.drain.new.out).count in
    let rest : List Pair = c.take_oldest.new.waiting.items in
    let first : Pair = c.in-Some.first in
    let a : ℕ = volumes c.climb.new.levels.items in
    let b : ℕ = volumes c.args.above.now.items + 6 * (length first.cell.items + 2) in
    let many : length c.args.level.now.waiting.items ≡ length rest + 1 = ap length c.in-Some.ensures ∙ omega arith in
    let bytes : sizes c.args.level.now.waiting.items ≡ length first.cell.items + 2 + sizes rest = ap sizes c.in-Some.ensures in
    let here : price usable mid + a ≤ price usable (old + 1) + b = search rules in
    let same : (p c.climb.new.out).usable ≡ usable = c.in_ok-climb-in-Ok-true.ensures.keeps.size ∙ c.in-Ok-true.ensures.keeps.size in
    let later : price usable new ≤ price usable (mid + length rest + 1) + (6 * sizes rest + a) =
    subst (λ u. price u new ≤ price u (mid + length rest + 1) + (6 * sizes rest + a)) same c.drain.ensures.spent in
    let all : price usable new + 0 ≤ price usable (old + length c.args.level.now.waiting.items + 1) + (6 * sizes rest + b) =
    spent_then usable old mid new (length c.args.level.now.waiting.items) (length rest) a b 0 (6 * sizes rest) many here (omega arith) in
    omega arith

pub returns-in_ok-climb-in-Ok-true-clause-paid : goal.returns-in_ok-climb-in-Ok-true-clause-paid
returns-in_ok-climb-in-Ok-true-clause-paid g t c =
    let p = g.P.PageOut.pages in
    let usable : ℕ = (p c.args.out.now).usable in
    let old : ℕ = (p c.args.out.now).count in
    let mid : ℕ = (p c.climb.new.out).count in
    let new : ℕ = (p c.drain.new.out).count in
    let rest : List Pair = c.take_oldest.new.waiting.items in
    let first : Pair = c.in-Some.first in
    let up : ℕ = volumes c.drain.new.above.items in
    let a : ℕ = volumes c.climb.new.levels.items in
    let b : ℕ = volumes c.args.above.now.items + 6 * (length first.cell.items + 2) in
    let many : length c.args.level.now.waiting.items ≡ length rest + 1 = ap length c.in-Some.ensures ∙ omega arith in
    let bytes : sizes c.args.level.now.waiting.items ≡ length first.cell.items + 2 + sizes rest = ap sizes c.in-Some.ensures in
    let here : price usable mid + a ≤ price usable (old + 1) + b = search rules in
    let same : (p c.climb.new.out).usable ≡ usable = c.in_ok-climb-in-Ok-true.ensures.keeps.size ∙ c.in-Ok-true.ensures.keeps.size in
    on_ok_weaker c.drain.result
    (λ (later : price (p c.climb.new.out).usable new + up ≤ price (p c.climb.new.out).usable (mid + length rest) + (6 * sizes rest + a)).
    let there : price usable new + up ≤ price usable (mid + length rest) + (6 * sizes rest + a) =
    subst (λ u. price u new + up ≤ price u (mid + length rest) + (6 * sizes rest + a)) same later in
    let all : price usable new + up ≤ price usable (old + length c.args.level.now.waiting.items) + (6 * sizes rest + b) =
    paid_then usable old mid new (length c.args.level.now.waiting.items) (length rest) a b up (6 * sizes rest) many here (omega arith) in
    omega arith)
    c.drain.ensures.paid

pub returns-in_err-climb-in-Ok-true-clause-spent : goal.returns-in_err-climb-in-Ok-true-clause-spent
returns-in_err-climb-in-Ok-true-clause-spent g t c =
    let p = g.P.PageOut.pages in
    let usable : ℕ = (p c.args.out.now).usable in
    let old : ℕ = (p c.args.out.now).count in
    let rest : List Pair = c.take_oldest.new.waiting.items in
    let first : Pair = c.in-Some.first in
    let many : length c.args.level.now.waiting.items ≡ length rest + 1 = ap length c.in-Some.ensures ∙ omega arith in
    let bytes : sizes c.args.level.now.waiting.items ≡ length first.cell.items + 2 + sizes rest = ap sizes c.in-Some.ensures in
    let here : price usable (p c.climb.new.out).count ≤ price usable (old + 1 + 1) + (volumes c.args.above.now.items + 6 * (length first.cell.items + 2)) = search rules in
    let most : price usable (old + 1 + 1) ≤ price usable (old + length c.args.level.now.waiting.items + 1) = price_le usable (old + 1 + 1) (old + length c.args.level.now.waiting.items + 1) (omega arith) in
    omega arith
