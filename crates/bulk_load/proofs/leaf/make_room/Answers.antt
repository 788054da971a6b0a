use Rattle.std.proofs.Common.{ℕ, List, [], ◌∷◌, ◌++◌, Some, None, ap, sym, subst, ◌∙◌}
use Rattle.std.proofs.lemmas.List.{append_assoc, append-nil}
use Rattle.db_format.specs.Pages.{Pages}
use Rattle.btree_page.specs.declared.kind.Family.TheVariants.{Table}
use Rattle.btree_page.specs.Kind.{family_of}
use Rattle.btree_page.specs.Step.{child, divider, steps}
use Rattle.load_model.specs.Open.{Open, at_height}
use Rattle.load_model.specs.Stands.{OpenPagesStand}
use Rattle.load_model.proofs.EntryLemmas.{key_stands}
use Rattle.page_build.specs.Written.{right_child}
use Rattle.bulk_load.specs.Close.{HasCells}
use Rattle.bulk_load.specs.Own.{only}
use Rattle.bulk_load.proofs.SettleLemmas.{cells_none}
use Rattle.bulk_load.proofs.leaf.make_room.Goals as goal

pub returns-clause-room : goal.returns-clause-room
returns-clause-room g c start well own covers k cells front pushed has st =
    let old : Pages = only own (g.P.PageOut.pages c.args.out.now) in
    let new : Pages = only own (g.P.PageOut.pages c.close.new.out) in
    let m : ℕ = c.in_ok-m.m in
    let kind = c.args.leaf.now.kind in
    let one : List Open = record { height = 1; leads = child m } ∷ [] in
    let ready : OpenPagesStand old (family_of kind) (Some k) (front ++ (at_height 0 (steps cells (right_child kind 0)) ++ [])) pushed =
    subst (λ q. OpenPagesStand old (family_of q) (Some k) (front ++ (at_height 0 (steps cells (right_child q 0)) ++ [])) pushed) (sym c.requires.kind)
    (subst (λ l. OpenPagesStand old Table (Some k) (front ++ l) pushed) (sym (append-nil (at_height 0 (steps cells None)))) st)
    in
    let closed : OpenPagesStand new Table (Some k) (front ++ one) pushed =
    subst (λ q. OpenPagesStand new (family_of q) (Some k) (front ++ one) pushed) c.requires.kind (c.in_ok-m.ensures.closed start well own covers cells 0 front [] (Some k) pushed has ready)
    in (
      subst (λ d. HasCells d old.usable []) (sym c.clear.ensures)
          (cells_none c.close.new.page old.usable (ap (λ d. d.usable) c.in_ok-m.ensures.same ∙ c.requires.size)),
      subst (λ l. OpenPagesStand new Table (Some k) l pushed) (append_assoc front one (record { height = 1; leads = divider k } ∷ []))
          (key_stands new Table k (front ++ one) pushed 1 closed),
    )
