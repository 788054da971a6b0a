use Rattle.std.proofs.Common.{◌≡◌, ◌≤◌, ℕ, suc, [], ◌∷◌, Some, true, ap, sym, subst, ◌∙◌, arith}
use Rattle.db_format.specs.Pages.{Pages}
use Rattle.btree_page.specs.declared.kind.Kind.{Kind}
use Rattle.btree_page.specs.Kind.{family_of, is_interior}
use Rattle.btree_page.specs.Page.{Node}
use Rattle.btree_page.specs.Step.{child, steps}
use Rattle.load_model.specs.Open.{at_height}
use Rattle.load_model.specs.Stands.{OpenPagesStand}
use Rattle.load_model.proofs.RootLemmas.{lone_root, lone_whole, root_tree, root_whole}
use Rattle.page_build.specs.Draft.{as_first}
use Rattle.page_build.specs.Written.{right_child}
use Rattle.bulk_load.specs.Close.{HasCells, IsRoot}
use Rattle.bulk_load.specs.Found.{HasTree}
use Rattle.bulk_load.specs.Own.{only}
use Rattle.bulk_load.proofs.PutLemmas.{covers_before, covers_behind}
use Rattle.bulk_load.proofs.EndLemmas.{closed_tree}
use Rattle.bulk_load.proofs.SettleLemmas.{family_up, right_is, up_interior}
use Rattle.bulk_load.proofs.root.put_at_one.Goals as goal

pub returns-in-Ok-clause-tree : goal.returns-in-Ok-clause-tree
returns-in-Ok-clause-tree g c start well own covers cells h last pushed low up has st =
    let old : Pages = only own (g.P.PageOut.pages c.args.out.now) in
    let new : Pages = only own (g.P.PageOut.pages c.put_first.new.out) in
    let page = c.args.page.now in
    let kind : Kind = c.args.kind in
    let fam : family_of page.kind ≡ family_of kind = sym (family_up page.kind) ∙ ap family_of up in
    let moved : c.make_first.new.self ≡ as_first page = c.make_first.ensures in
    let first : HasCells (as_first page) old.usable cells = record { size = has.size; written = has.written } in
    let one : Node = record { kind = page.kind; cells = cells; right = right_child page.kind c.args.right } in
    let root : IsRoot old new 1 one =
    subst (λ k. IsRoot old new 1 (record { kind = k; cells = cells; right = right_child k c.args.right })) (ap (λ d. d.kind) moved)
    (c.in-Ok.ensures.root start well own covers cells (subst (λ d. HasCells d old.usable cells) (sym moved) first)) in
    let least : h ≤ 19 = omega arith in
    let ready : OpenPagesStand old (family_of page.kind) last (at_height h (steps cells (right_child page.kind c.args.right))) pushed =
    subst (λ f. OpenPagesStand old f last (at_height h (steps cells (right_child page.kind c.args.right))) pushed) (sym fam) st in
    subst (λ f. HasTree new f 1 pushed) fam
    (record {
      lists = root_tree old new (family_of page.kind) last pushed h 1 one root.put root.reads least ready;
      whole = root_whole old new (family_of page.kind) last pushed h 1 one root.put root.reads least ready;
    })

pub returns-in-Ok-put_first-clause-tree : goal.returns-in-Ok-put_first-clause-tree
returns-in-Ok-put_first-clause-tree g c start well own covers cells h last pushed low up has st =
    let old : Pages = only own (g.P.PageOut.pages c.args.out.now) in
    let mid : Pages = only own (g.P.PageOut.pages c.close.new.out) in
    let new : Pages = only own (g.P.PageOut.pages c.put_first-2.new.out) in
    let page = c.args.page.now in
    let kind : Kind = c.args.kind in
    let m : ℕ = c.in-Ok-close.m in
    let first = c.in-Ok-new.first in
    let inner : is_interior kind ≡ true = subst (λ k. is_interior k ≡ true) up (up_interior page.kind) in
    let told = c.in-Ok-close.ensures.follows.told start well in
    let closed : OpenPagesStand mid (family_of kind) last (record { height = suc h; leads = child m } ∷ []) pushed =
    closed_tree old mid page kind old.usable c.args.right m cells h last pushed (c.in-Ok-close.ensures.closed start well own (covers_before _ own _ _ _ c.in-Ok-put_first.ensures.keeps.count covers)) up has low st in
    let is_kind : first.kind ≡ kind = ap (λ d. d.kind) c.in-Ok-new.ensures in
    let none : first.cells ≡ [] = ap (λ d. d.cells) c.in-Ok-new.ensures in
    let size : first.usable ≡ mid.usable = ap (λ d. d.usable) c.in-Ok-new.ensures ∙ c.usable.ensures.value in
    let empty : HasCells first mid.usable [] = record { size = size; written = rw none tt } in
    let root : IsRoot mid new 1 (record { kind = kind; cells = []; right = Some m }) =
    subst (λ r. IsRoot mid new 1 (record { kind = kind; cells = []; right = r })) (right_is kind m inner)
    (subst (λ k. IsRoot mid new 1 (record { kind = k; cells = []; right = right_child k m })) is_kind (c.in-Ok-put_first.ensures.root start told own (covers_behind _ own _ _ _ c.in-Ok-close.ensures.keeps.count covers) [] empty)) in
    let least : suc h ≤ 19 = omega arith in
    record {
      lists = lone_root mid new (family_of kind) kind last pushed (suc h) m root.put root.reads least closed;
      whole = lone_whole mid new (family_of kind) kind last pushed (suc h) m root.put root.reads least closed;
    }
