use Rattle.std.proofs.Common.{◌≡◌, ◌≤◌, ◌+◌, ◌-◌, ◌*◌, ◌^◌, inl, inr, length, List, ℕ, suc, Bool, true, false, [], ◌∷◌, ◌++◌, ap, sym, subst, ◌∙◌, arith}
use Rattle.std.proofs.lemmas.Bool.{cases_lt}
use Rattle.std.proofs.lemmas.Result.{on_ok_weaker}
use Rattle.db_format.specs.Pages.{Pages}
use Rattle.btree_page.specs.declared.kind.Kind.{Kind}
use Rattle.btree_page.specs.Kind.{family_of, is_interior}
use Rattle.btree_page.specs.Step.{child, steps}
use Rattle.load_model.specs.Open.{at_height}
use Rattle.load_model.specs.Stands.{OpenPagesStand}
use Rattle.page_build.specs.Written.{right_child}
use Rattle.bulk_load.specs.declared.level.Level.{Level}
use Rattle.bulk_load.specs.Close.{HasCells}
use Rattle.bulk_load.specs.Level.{HoldsLevel}
use Rattle.bulk_load.specs.Levels.{HoldLevels, IsDrained, opened}
use Rattle.bulk_load.specs.Settle.{up_kind}
use Rattle.bulk_load.specs.Own.{Covers, only}
use Rattle.bulk_load.specs.Count.{AreBack, held, load}
use Rattle.bulk_load.specs.Depth.{AreLevelsShort, closed_below}
use Rattle.bulk_load.specs.Volume.{level_volume, price, sizes, volumes}
use Rattle.bulk_load.proofs.CountLemmas.{back_can, back_some, can_few, held_none}
use Rattle.bulk_load.proofs.DepthLemmas.{power_more}
use Rattle.bulk_load.proofs.VolumeLemmas.{price_le, price_then}
use Rattle.bulk_load.proofs.EndLemmas.{IsNextLevel, end_is, last_page, next_level}
use Rattle.bulk_load.proofs.PutLemmas.{covers_before, covers_behind, follows_all, keeps_after, keeps_more}
use Rattle.bulk_load.proofs.SettleLemmas.{up_interior}
use Rattle.bulk_load.proofs.ending.+end_levels.Goals as goal

pub returns-in_default-clause-tree : goal.returns-in_default-clause-tree
returns-in_default-clause-tree g t c start well own covers todo todos h last pushed low up hold holds st =
    let old : Pages = only own (g.P.PageOut.pages c.args.out.now) in
    let mid : Pages = only own (g.P.PageOut.pages c.drain.new.out) in
    let here : Kind = c.args.level.now.page.kind in
    let kind : Kind = c.args.kind in
    let level : Level = c.drain.new.level in
    let same : level.page.kind ≡ here = c.in_ok-drain.ensures.kind in
    let d : IsDrained mid level c.drain.new.above.items old.usable kind h (at_height h (steps [] (right_child here c.args.below))) last pushed =
    c.in_ok-drain.ensures.drained start well own (covers_before _ own _ _ _ c.put_root.ensures.keeps.count covers) todo todos h (at_height h (steps [] (right_child here c.args.below))) last pushed up hold holds st in
    let ready : OpenPagesStand mid (family_of kind) last (at_height h (steps d.cells (right_child here c.args.below))) pushed =
    last_page mid c.drain.new.above.items old.usable kind here d.cells d.rest.todos h c.args.below last pushed c.in_default.ensures.0 d.rest.hold d.rest.stands in
    c.put_root.ensures.tree start (c.in_ok-drain.ensures.follows.told start well) own (covers_behind _ own _ _ _ c.in_ok-drain.ensures.keeps.count covers) d.cells h last pushed (omega arith) (ap up_kind same ∙ up)
    (subst (λ u. HasCells level.page u d.cells) (sym c.in_ok-drain.ensures.keeps.size) d.has)
    (subst (λ k. OpenPagesStand mid (family_of kind) last (at_height h (steps d.cells (right_child k c.args.below))) pushed) (sym same) ready)

pub returns-in_default-clause-follows : goal.returns-in_default-clause-follows
returns-in_default-clause-follows g t c =
    let p = g.P.PageOut in
    on_ok_weaker c.put_root.result
    (follows_all p.pages p.limit p.faults p.well c.args.at_one c.args.out.now c.drain.new.out c.put_root.new.out c.in_ok-drain.ensures.follows)
    c.put_root.ensures.follows

pub returns-clause-tree : goal.returns-clause-tree
returns-clause-tree g t c start well own covers todo todos h last pushed low up hold holds st =
    let old : Pages = only own (g.P.PageOut.pages c.args.out.now) in
    let mid : Pages = only own (g.P.PageOut.pages c.drain.new.out) in
    let new : Pages = only own (g.P.PageOut.pages c.close.new.out) in
    let p = g.P.PageOut.pages in
    let at_one : Bool = c.args.at_one in
    let first : Covers false own (p c.args.out.now) (p c.close.new.out) = covers_before at_one own _ _ (p c.end_levels.new.out) c.end_levels.ensures.keeps.count covers in
    let behind : Covers at_one own (p c.drain.new.out) (p c.end_levels.new.out) = covers_behind at_one own (p c.args.out.now) _ _ c.in_ok-drain.ensures.keeps.count covers in
    let later : Covers at_one own (p c.close.new.out) (p c.end_levels.new.out) = covers_behind at_one own (p c.drain.new.out) _ _ c.in-Ok.ensures.keeps.count behind in
    let here : Kind = c.args.level.now.page.kind in
    let kind : Kind = c.args.kind in
    let level : Level = c.drain.new.level in
    let m : ℕ = c.in-Ok.m in
    let inner : is_interior kind ≡ true = subst (λ k. is_interior k ≡ true) up (up_interior here) in
    let d : IsDrained mid level c.drain.new.above.items old.usable kind h (at_height h (steps [] (right_child here c.args.below))) last pushed =
    c.in_ok-drain.ensures.drained start well own (covers_before _ own _ _ _ c.in-Ok.ensures.keeps.count first) todo todos h (at_height h (steps [] (right_child here c.args.below))) last pushed up hold holds st in
    let told = c.in_ok-drain.ensures.follows.told start well in
    let closed : OpenPagesStand new (family_of kind) last (opened (suc h) d.rest.todos ++ (record { height = suc h; leads = child m } ∷ [])) pushed =
    end_is mid new level.page here kind old.usable c.args.below m d.cells (opened (suc h) d.rest.todos) h last pushed (c.in-Ok.ensures.closed start told own (covers_behind _ own _ _ _ c.in_ok-drain.ensures.keeps.count first))
    c.in_ok-drain.ensures.kind up c.in_ok-drain.ensures.keeps.size d.has d.rest.stands in
    let n : IsNextLevel new c.in-Some.next c.take_lowest.new.levels.items old.usable kind (suc h) m last pushed =
    next_level new c.in-Some.next c.drain.new.above.items c.take_lowest.new.levels.items old.usable kind d.rest.todos (suc h) m last pushed c.in-Some.ensures inner d.rest.hold closed in
    let size : new.usable ≡ old.usable = c.in-Ok.ensures.keeps.size ∙ c.in_ok-drain.ensures.keeps.size in
    let less : suc h + (c.args.left - 1) ≤ 18 = omega (arith, c.if-left-eq0.false) in
    c.end_levels.ensures.tree start (c.in-Ok.ensures.follows.told start told) own later n.todo n.todos (suc h) last pushed less n.is_kind
    (subst (λ u. HoldsLevel c.in-Some.next u n.todo) (sym size) n.hold) (subst (λ u. HoldLevels c.take_lowest.new.levels.items u kind n.todos) (sym size) n.holds) n.stands

pub returns-in-Err-clause-keeps : goal.returns-in-Err-clause-keeps
returns-in-Err-clause-keeps g t c =
    let p = g.P.PageOut in
    keeps_more p.pages p.limit p.faults p.well c.args.at_one c.args.out.now c.close.new.out
    (keeps_after p.pages p.limit p.faults p.well false c.args.out.now c.drain.new.out c.close.new.out c.in_ok-drain.ensures.follows c.in-Err.ensures.keeps)

pub returns-clause-keeps : goal.returns-clause-keeps
returns-clause-keeps g t c =
    let p = g.P.PageOut in
    keeps_after p.pages p.limit p.faults p.well c.args.at_one c.args.out.now c.drain.new.out c.end_levels.new.out c.in_ok-drain.ensures.follows
    (keeps_after p.pages p.limit p.faults p.well c.args.at_one c.drain.new.out c.close.new.out c.end_levels.new.out c.in-Ok.ensures.follows c.end_levels.ensures.keeps)

pub returns-clause-follows : goal.returns-clause-follows
returns-clause-follows g t c =
    let p = g.P.PageOut in
    on_ok_weaker c.end_levels.result
    (λ f. follows_all p.pages p.limit p.faults p.well c.args.at_one c.args.out.now c.drain.new.out c.end_levels.new.out c.in_ok-drain.ensures.follows
    (follows_all p.pages p.limit p.faults p.well c.args.at_one c.drain.new.out c.close.new.out c.end_levels.new.out c.in-Ok.ensures.follows f))
    c.end_levels.ensures.follows

pub returns-clause-fresh : goal.returns-clause-fresh
returns-clause-fresh g t c =
    let p = g.met.P.PageOut in
    p.joins c.args.out.now c.drain.new.out c.end_levels.new.out c.in_ok-drain.ensures.fresh
    (p.joins c.drain.new.out c.close.new.out c.end_levels.new.out c.in-Ok.ensures.fresh c.end_levels.ensures.fresh)

pub returns-clause-count : goal.returns-clause-count
returns-clause-count g t c can back some =
    let p = g.P.PageOut.pages in
    let drained = c.in_ok-drain.ensures in
    let next : Level = c.in-Some.next in
    let rest : List Level = c.take_lowest.new.levels.items in
    let parts : c.drain.new.above.items ≡ next ∷ rest = c.in-Some.ensures in
    let backs : AreBack (next ∷ rest) = subst AreBack parts (drained.back back) in
    let more : 1 ≤ load next = back_some next backs.0 in
    let holds : held c.drain.new.above.items ≡ load next + held rest = ap held parts in
    let counted : (p c.drain.new.out).count + (load c.drain.new.level + held c.drain.new.above.items) ≤ (p c.args.out.now).count + (load c.args.level.now + held c.args.above.now.items) = drained.count in
    let later : (p c.args.out.now).count ≤ (p c.drain.new.out).count = drained.keeps.count in
    let one : (p c.close.new.out).count ≡ (p c.drain.new.out).count + 1 = c.in-Ok.ensures.one in
    let filled : 1 ≤ load c.drain.new.level =
    elim (cases_lt 0 (load c.args.level.now)) [
      | inl begun ↦ let cells : 1 ≤ length c.drain.new.level.page.cells = drained.filled can begun in omega arith
      | inr empty ↦
          elim some [
            | inl begun ↦ absurd (omega arith)
            | inr none ↦ let nothing_held : held c.args.above.now.items ≡ 0 = held_none c.args.above.now.items none in absurd (omega arith)
          ]
    ] in
    let rest_counted = c.end_levels.ensures.count (back_can next.page next.waiting.items backs.0) backs.1 (inl more) in
    omega (arith, rest_counted)

pub returns-in_default-clause-spent : goal.returns-in_default-clause-spent
returns-in_default-clause-spent g t c can back =
    let p = g.P.PageOut.pages in
    let usable : ℕ = (p c.args.out.now).usable in
    let held : ℕ = 6 * sizes c.args.level.now.waiting.items + volumes c.args.above.now.items in
    let few : length c.args.level.now.waiting.items ≤ 2 = can_few c.args.level.now.page c.args.level.now.waiting.items can in
    let one : (p c.put_root.new.out).count ≤ (p c.drain.new.out).count + 1 = c.put_root.ensures.count in
    let here : price usable (p c.drain.new.out).count + volumes c.drain.new.above.items ≤ price usable ((p c.args.out.now).count + length c.args.level.now.waiting.items) + held =
    c.in_ok-drain.ensures.paid in
    let most : price usable (p c.put_root.new.out).count ≤ price usable ((p c.drain.new.out).count + 1) = price_le usable (p c.put_root.new.out).count ((p c.drain.new.out).count + 1) one in
    price_then usable (p c.args.out.now).count (p c.drain.new.out).count (p c.put_root.new.out).count (length c.args.level.now.waiting.items) 1 (3 * c.args.left + 3)
    (volumes c.drain.new.above.items) held here (omega arith) (omega arith)

pub returns-then-left-eq0-clause-spent : goal.returns-then-left-eq0-clause-spent
returns-then-left-eq0-clause-spent g t c can back =
    let p = g.P.PageOut.pages in
    let usable : ℕ = (p c.args.out.now).usable in
    let held : ℕ = 6 * sizes c.args.level.now.waiting.items + volumes c.args.above.now.items in
    let few : length c.args.level.now.waiting.items ≤ 2 = can_few c.args.level.now.page c.args.level.now.waiting.items can in
    let here : price usable (p c.drain.new.out).count + volumes c.drain.new.above.items ≤ price usable ((p c.args.out.now).count + length c.args.level.now.waiting.items) + held =
    c.in_ok-drain.ensures.paid in
    let most : price usable (p c.drain.new.out).count ≤ price usable ((p c.drain.new.out).count + 1) = price_le usable (p c.drain.new.out).count ((p c.drain.new.out).count + 1) (omega arith) in
    price_then usable (p c.args.out.now).count (p c.drain.new.out).count (p c.drain.new.out).count (length c.args.level.now.waiting.items) 1 (3 * c.args.left + 3)
    (volumes c.drain.new.above.items) held here (omega arith) (omega arith)

pub returns-in-Err-clause-spent : goal.returns-in-Err-clause-spent
returns-in-Err-clause-spent g t c can back =
    let p = g.P.PageOut.pages in
    let usable : ℕ = (p c.args.out.now).usable in
    let held : ℕ = 6 * sizes c.args.level.now.waiting.items + volumes c.args.above.now.items in
    let few : length c.args.level.now.waiting.items ≤ 2 = can_few c.args.level.now.page c.args.level.now.waiting.items can in
    let one : (p c.close.new.out).count ≤ (p c.drain.new.out).count + 1 = c.in-Err.ensures.refused in
    let here : price usable (p c.drain.new.out).count + volumes c.drain.new.above.items ≤ price usable ((p c.args.out.now).count + length c.args.level.now.waiting.items) + held =
    c.in_ok-drain.ensures.paid in
    let most : price usable (p c.close.new.out).count ≤ price usable ((p c.drain.new.out).count + 1) = price_le usable (p c.close.new.out).count ((p c.drain.new.out).count + 1) one in
    price_then usable (p c.args.out.now).count (p c.drain.new.out).count (p c.close.new.out).count (length c.args.level.now.waiting.items) 1 (3 * c.args.left + 3)
    (volumes c.drain.new.above.items) held here (omega arith) (omega arith)

pub returns-clause-spent : goal.returns-clause-spent
returns-clause-spent g t c can back =
    let p = g.P.PageOut.pages in
    let usable : ℕ = (p c.args.out.now).usable in
    let held : ℕ = 6 * sizes c.args.level.now.waiting.items + volumes c.args.above.now.items in
    let next : Level = c.in-Some.next in
    let rest : List Level = c.take_lowest.new.levels.items in
    let parts : c.drain.new.above.items ≡ next ∷ rest = c.in-Some.ensures in
    let backs : AreBack (next ∷ rest) = subst AreBack parts (c.in_ok-drain.ensures.back back) in
    let left_over : ℕ = 6 * sizes next.waiting.items + volumes rest in
    let same : volumes c.drain.new.above.items ≡ level_volume next + volumes rest = ap volumes parts in
    let few : length c.args.level.now.waiting.items ≤ 2 = can_few c.args.level.now.page c.args.level.now.waiting.items can in
    let drained : price usable (p c.drain.new.out).count + volumes c.drain.new.above.items ≤ price usable ((p c.args.out.now).count + length c.args.level.now.waiting.items) + held =
    c.in_ok-drain.ensures.paid in
    let here : price usable (p c.drain.new.out).count + left_over ≤ price usable ((p c.args.out.now).count + length c.args.level.now.waiting.items) + held = omega arith in
    let size : (p c.close.new.out).usable ≡ usable = c.in-Ok.ensures.keeps.size ∙ c.in_ok-drain.ensures.keeps.size in
    let one : (p c.close.new.out).count ≡ (p c.drain.new.out).count + 1 = c.in-Ok.ensures.one in
    let many : ℕ = 3 * (c.args.left - 1) + 3 in
    let ended : price (p c.close.new.out).usable (p c.end_levels.new.out).count ≤ price (p c.close.new.out).usable ((p c.close.new.out).count + many) + left_over =
    c.end_levels.ensures.spent (back_can next.page next.waiting.items backs.0) backs.1 in
    let at : (p c.close.new.out).count + many ≡ (p c.drain.new.out).count + (many + 1) = omega arith in
    let later : price usable (p c.end_levels.new.out).count ≤ price usable ((p c.drain.new.out).count + (many + 1)) + left_over =
    subst (λ n. price usable (p c.end_levels.new.out).count ≤ price usable n + left_over) at
    (subst (λ u. price u (p c.end_levels.new.out).count ≤ price u ((p c.close.new.out).count + many) + left_over) size ended) in
    price_then usable (p c.args.out.now).count (p c.drain.new.out).count (p c.end_levels.new.out).count (length c.args.level.now.waiting.items) (many + 1) (3 * c.args.left + 3)
    left_over held here later (omega (arith, c.if-left-eq0.false))

pub returns-clause-deep : goal.returns-clause-deep
returns-clause-deep g t c may short back found =
    let p = g.P.PageOut.pages in
    let usable : ℕ = (p c.args.out.now).usable in
    let next : Level = c.in-Some.next in
    let rest : List Level = c.take_lowest.new.levels.items in
    let parts : c.drain.new.above.items ≡ next ∷ rest = c.in-Some.ensures in
    let backs : AreBack (next ∷ rest) = subst AreBack parts (c.in_ok-drain.ensures.back back) in
    let size : (p c.close.new.out).usable ≡ usable = c.in-Ok.ensures.keeps.size ∙ c.in_ok-drain.ensures.keeps.size in
    let shorts : AreLevelsShort (p c.close.new.out).usable (next ∷ rest) = subst (λ u. AreLevelsShort u (next ∷ rest)) (sym size) (subst (AreLevelsShort usable) parts (c.in_ok-drain.ensures.short short)) in
    let drained : load c.drain.new.level + 3 * closed_below c.drain.new.above.items ≤ load c.args.level.now + 3 * closed_below c.args.above.now.items = c.in_ok-drain.ensures.deep may short in
    let below : closed_below c.drain.new.above.items ≡ load next + 3 * closed_below rest = ap closed_below parts in
    let later : 3 ^ (c.args.left - 1 + 1) ≤ load next + 3 * closed_below rest = c.end_levels.ensures.deep (inr shorts.0) shorts.1 backs.1 found in
    let less : c.args.left - 1 + 1 ≡ c.args.left = omega (arith, c.if-left-eq0.false) in
    let left : 3 ^ c.args.left ≤ load next + 3 * closed_below rest = subst (λ n. 3 ^ n ≤ load next + 3 * closed_below rest) less later in
    let more : 3 ^ (c.args.left + 1) ≡ 3 * 3 ^ c.args.left = power_more c.args.left in
    omega arith
