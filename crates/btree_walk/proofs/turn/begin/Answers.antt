use Rattle.std.proofs.Common.{◌≡◌, true, not, None, Err, [], ◌∷◌, Contains, ap, refl, subst, ◌∙◌}
use Rattle.db_format.specs.Seen.{marked}
use Rattle.db_format.specs.Pages.{also}
use Rattle.db_format.specs.declared.defect.Defect.TheVariants.{PageTwice}
use Rattle.btree_page.specs.declared.kind.Family.{Family}
use Rattle.btree_model.specs.Finding.{faults}
use Rattle.btree_model.specs.Tree.{tree_walk}
use Rattle.btree_walk.specs.declared.error.WalkError.TheVariants.{Source}
use Rattle.btree_walk.specs.Causes.{IsAmong, IsMarked}
use Rattle.btree_walk.specs.Cursor.{walked_family}
use Rattle.btree_walk.specs.Turn.{IsInside, IsNode, IsNodeOpened}
use Rattle.btree_walk.proofs.CauseLemmas.{given_later}
use Rattle.btree_walk.proofs.PathLemmas.{number_is_page}
use Rattle.btree_walk.proofs.TurnLemmas.{start_marked, start_on, start_shut, start_stop}
use Rattle.btree_walk.proofs.MarkLemmas.{keeps_also}
use Rattle.btree_walk.proofs.turn.begin.Goals as goal

pub returns-then-not-mark-clause-on : goal.returns-then-not-mark-clause-on
returns-then-not-mark-clause-on g c told taken given at =
    let family : Family = walked_family (g.S.PageSource.plain c.args.source.now) c.args.cursor.now in
    subst (λ t. Contains (faults (tree_walk (g.S.PageSource.plain c.args.source.now) family t c.args.cursor.now.root)) (PageTwice c.args.cursor.now.root)) at.marks
    (start_stop (g.S.PageSource.plain c.args.source.now) family c.args.cursor.now.root (marked c.args.seen.now) (PageTwice c.args.cursor.now.root) true
    (c.mark.ensures.fresh ∙ ap not c.if-not-mark.true) refl)

pub returns-in-Err-clause-on : goal.returns-in-Err-clause-on
returns-in-Err-clause-on g c told taken given at =
    let family : Family = walked_family (g.S.PageSource.plain c.args.source.now) c.args.cursor.now in
    subst (λ t. IsAmong g.S.PageSource.refuses (g.S.PageSource.plain c.args.source.now) (tree_walk (g.S.PageSource.plain c.args.source.now) family t c.args.cursor.now.root) (Source c.in-Err.refusal)) at.marks
    (start_shut (g.S.PageSource.plain c.args.source.now) family c.args.cursor.now.root (marked c.args.seen.now) g.S.PageSource.refuses (Source c.in-Err.refusal)
    (c.mark.ensures.fresh ∙ ap not c.if-not-mark.false)
    (number_is_page (g.S.PageSource.plain c.args.source.now) c.args.cursor.now.root c.requires.ready.low c.requires.ready.high)
    c.in-Err.ensures.refused)

pub returns-in-Err-open_page-clause-given : goal.returns-in-Err-open_page-clause-given
returns-in-Err-open_page-clause-given g c =
    given_later g.S.PageSource.only_read g.S.PageSource.plain g.S.PageSource.refuses c.args.source.now c.choose_family.new.source c.in-Err-open_page.error g.met.S.PageSource.transitive
    (g.met.S.PageSource.same_count c.args.source.now c.choose_family.new.source c.in-Ok.ensures.reads) c.in-Ok.ensures.reads c.in-Err-open_page.ensures.given

pub returns-in-Err-open_page-clause-on : goal.returns-in-Err-open_page-clause-on
returns-in-Err-open_page-clause-on g c told taken given at =
    let family : Family = walked_family (g.S.PageSource.plain c.args.source.now) c.args.cursor.now in
    let same : g.S.PageSource.plain c.choose_family.new.source ≡ g.S.PageSource.plain c.args.source.now =
    g.met.S.PageSource.same_pages c.args.source.now c.choose_family.new.source c.in-Ok.ensures.reads told
    in
    subst (λ t. IsAmong g.S.PageSource.refuses (g.S.PageSource.plain c.args.source.now) (tree_walk (g.S.PageSource.plain c.args.source.now) family t c.args.cursor.now.root) c.in-Err-open_page.error) at.marks
    (start_shut (g.S.PageSource.plain c.args.source.now) family c.args.cursor.now.root (marked c.args.seen.now) g.S.PageSource.refuses c.in-Err-open_page.error
    (c.mark.ensures.fresh ∙ ap not c.if-not-mark.false)
    (number_is_page (g.S.PageSource.plain c.args.source.now) c.args.cursor.now.root c.requires.ready.low c.requires.ready.high)
    (subst (λ f. IsNodeOpened g.S.PageSource.refuses (g.S.PageSource.plain c.args.source.now) f c.args.cursor.now.root (Err c.in-Err-open_page.error)) (c.in-Ok.ensures.value told)
    (subst (λ p. IsNodeOpened g.S.PageSource.refuses p c.in-Ok.family c.args.cursor.now.root (Err c.in-Err-open_page.error)) same (c.in-Err-open_page.ensures.opened told))))

pub returns-in-Ok-open_page-clause-on : goal.returns-in-Ok-open_page-clause-on
returns-in-Ok-open_page-clause-on g c told taken given at =
    let same : g.S.PageSource.plain c.choose_family.new.source ≡ g.S.PageSource.plain c.args.source.now =
    g.met.S.PageSource.same_pages c.args.source.now c.choose_family.new.source c.in-Ok.ensures.reads told
    in
    let node : IsNode (g.S.PageSource.plain c.args.source.now) c.in-Ok.family c.args.cursor.now.root =
    subst (λ p. IsNode p c.in-Ok.family c.args.cursor.now.root) same (c.in-Ok-open_page.ensures.opened told)
    in
    record {
      family = c.in-Ok.ensures.value told;
      walking = rw (c.push.ensures, at.path, at.floor, at.last, at.gave, c.mark.ensures.after)
          (subst (λ t. IsInside (g.S.PageSource.plain c.args.source.now) c.in-Ok.family c.args.cursor.now.root t [] (record { page = c.args.cursor.now.root; done = 0 } ∷ []) None None c.args.cursor.now.last_page (also (c.args.cursor.now.root ∷ []) (marked c.args.seen.now))) at.marks
          (start_on (g.S.PageSource.plain c.args.source.now) c.in-Ok.family c.args.cursor.now.root (marked c.args.seen.now) c.args.cursor.now.last_page (c.mark.ensures.fresh ∙ ap not c.if-not-mark.false) node));
    }

pub returns-then-not-mark-clause-marks : goal.returns-then-not-mark-clause-marks
returns-then-not-mark-clause-marks g c told taken given at =
    rw c.mark.ensures.after
    (subst (λ t. IsMarked (tree_walk (g.S.PageSource.plain c.args.source.now) (walked_family (g.S.PageSource.plain c.args.source.now) c.args.cursor.now) t c.args.cursor.now.root) t (also (c.args.cursor.now.root ∷ []) (marked c.args.seen.now))) at.marks
    (start_marked (g.S.PageSource.plain c.args.source.now) (walked_family (g.S.PageSource.plain c.args.source.now) c.args.cursor.now) c.args.cursor.now.root (marked c.args.seen.now)))

pub returns-in-Err-clause-marks : goal.returns-in-Err-clause-marks
returns-in-Err-clause-marks g c told taken given at =
    rw c.mark.ensures.after
    (subst (λ t. IsMarked (tree_walk (g.S.PageSource.plain c.args.source.now) (walked_family (g.S.PageSource.plain c.args.source.now) c.args.cursor.now) t c.args.cursor.now.root) t (also (c.args.cursor.now.root ∷ []) (marked c.args.seen.now))) at.marks
    (start_marked (g.S.PageSource.plain c.args.source.now) (walked_family (g.S.PageSource.plain c.args.source.now) c.args.cursor.now) c.args.cursor.now.root (marked c.args.seen.now)))

pub returns-in-Err-open_page-clause-marks : goal.returns-in-Err-open_page-clause-marks
returns-in-Err-open_page-clause-marks g c told taken given at =
    rw c.mark.ensures.after
    (subst (λ t. IsMarked (tree_walk (g.S.PageSource.plain c.args.source.now) (walked_family (g.S.PageSource.plain c.args.source.now) c.args.cursor.now) t c.args.cursor.now.root) t (also (c.args.cursor.now.root ∷ []) (marked c.args.seen.now))) at.marks
    (start_marked (g.S.PageSource.plain c.args.source.now) (walked_family (g.S.PageSource.plain c.args.source.now) c.args.cursor.now) c.args.cursor.now.root (marked c.args.seen.now)))

pub returns-then-not-mark-clause-kept : goal.returns-then-not-mark-clause-kept
returns-then-not-mark-clause-kept g c = keeps_also (c.args.cursor.now.root ∷ []) (marked c.args.seen.now) (marked c.mark.new.self) c.mark.ensures.after

pub returns-in-Err-clause-kept : goal.returns-in-Err-clause-kept
returns-in-Err-clause-kept g c = keeps_also (c.args.cursor.now.root ∷ []) (marked c.args.seen.now) (marked c.mark.new.self) c.mark.ensures.after

pub returns-in-Err-open_page-clause-kept : goal.returns-in-Err-open_page-clause-kept
returns-in-Err-open_page-clause-kept g c = keeps_also (c.args.cursor.now.root ∷ []) (marked c.args.seen.now) (marked c.mark.new.self) c.mark.ensures.after

pub returns-in-Ok-open_page-clause-kept : goal.returns-in-Ok-open_page-clause-kept
returns-in-Ok-open_page-clause-kept g c = keeps_also (c.args.cursor.now.root ∷ []) (marked c.args.seen.now) (marked c.mark.new.self) c.mark.ensures.after
