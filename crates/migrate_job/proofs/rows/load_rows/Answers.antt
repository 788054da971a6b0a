use Rattle.std.proofs.Common.{◌≡◌, ◌≤◌, ◌+◌, ◌^◌, ℕ, List, [], Err, true, false, arith, ap, sym, subst, ◌∙◌}
use Rattle.btree_page.specs.declared.kind.Family.TheVariants.{Table}
use Rattle.btree_page.specs.declared.kind.Family.{Family}
use Rattle.btree_model.specs.Content.{Entry}
use Rattle.bulk_load.specs.Depth.{IsShallow}
use Rattle.bulk_load.specs.Few.{TookFew, load_pages}
use Rattle.bulk_load.specs.Found.{HasTree}
use Rattle.bulk_load.specs.Out.{Follows, KeepsPages}
use Rattle.bulk_load.specs.Loader.{family_of_loader}
use Rattle.bulk_load.specs.Own.{Covers, only}
use Rattle.bulk_load.proofs.PutLemmas.{covers_before, covers_behind, follows_all, keeps_after}
use Rattle.migrate_job.specs.Copied.{new_entries}
use Rattle.migrate_job.proofs.LoadLaws.{cause_since, is_refused}
use Rattle.migrate_job.proofs.rows.load_rows.Goals as goal

pub returns-in-Ok-finish-clause-tree : goal.returns-in-Ok-finish-clause-tree
returns-in-Ok-finish-clause-tree g c start well own covers =
    let p = g.P.PageOut.pages in
    let listed = new_entries c.args.rows.now c.args.roots.now in
    let pushed = c.in_ok-push_rows.ensures in
    let end = c.in-Ok-finish.ensures in
    let at_one : c.push_rows.new.loader.at_one ≡ true = pushed.at_one ∙ c.in-Ok.ensures.at_one in
    let first : Covers false own (p c.args.out.now) (p c.push_rows.new.out) =
    covers_before true own _ _ (p c.finish.new.out) end.keeps.count covers.covers in
    let last : Covers true own (p c.push_rows.new.out) (p c.finish.new.out) = covers_behind true own (p c.args.out.now) _ _ pushed.keeps.count covers.covers in
    subst (λ root. HasTree (only own (p c.finish.new.out)) Table root listed) (end.one at_one)
    (subst (λ family. HasTree (only own (p c.finish.new.out)) family c.in-Ok-finish.field-0 listed) pushed.family
    (end.tree start (pushed.follows.told start well) own
    (subst (λ first. Covers first own (p c.push_rows.new.out) (p c.finish.new.out)) (sym at_one) last) listed
    (pushed.loaded start well own first (c.in-Ok.ensures.empty (only own (p c.args.out.now)) (sym c.usable.ensures.value) covers.none))))

pub returns-in-Ok-finish-clause-follows : goal.returns-in-Ok-finish-clause-follows
returns-in-Ok-finish-clause-follows g c =
    let p = g.P.PageOut in
    let pushed = c.in_ok-push_rows.ensures in
    let at_one : c.push_rows.new.loader.at_one ≡ true = pushed.at_one ∙ c.in-Ok.ensures.at_one in
    follows_all p.pages p.limit p.faults p.well true c.args.out.now c.push_rows.new.out c.finish.new.out pushed.follows
    (subst (λ first. Follows p.pages p.limit p.faults p.well first c.push_rows.new.out c.finish.new.out) at_one c.in-Ok-finish.ensures.follows)

pub returns-in-Err-finish-clause-keeps : goal.returns-in-Err-finish-clause-keeps
returns-in-Err-finish-clause-keeps g c =
    let p = g.P.PageOut in
    let pushed = c.in_ok-push_rows.ensures in
    let at_one : c.push_rows.new.loader.at_one ≡ true = pushed.at_one ∙ c.in-Ok.ensures.at_one in
    keeps_after p.pages p.limit p.faults p.well true c.args.out.now c.push_rows.new.out c.finish.new.out pushed.follows
    (subst (λ first. KeepsPages p.pages p.limit p.faults p.well first c.push_rows.new.out c.finish.new.out) at_one c.in-Err-finish.ensures.keeps)

pub returns-in-Err-finish-clause-asked : goal.returns-in-Err-finish-clause-asked
returns-in-Err-finish-clause-asked g c limit is =
    let pages = g.P.PageOut.pages in
    let listed : List Entry = new_entries c.args.rows.now c.args.roots.now in
    let from : ℕ = (pages c.args.out.now).count in
    let size : ℕ = (pages c.args.out.now).usable in
    let later : ℕ = (pages c.push_rows.new.out).usable in
    let count : ℕ = (pages c.push_rows.new.out).count in
    let loader = c.push_rows.new.loader in
    let pushed = c.in_ok-push_rows.ensures in
    let none : TookFew Table size from [] from c.in-Ok.loader = subst (λ u. TookFew Table u from [] from c.in-Ok.loader) c.usable.ensures.value (c.in-Ok.ensures.none from) in
    let took : TookFew Table size from listed count loader = pushed.pushed from none in
    let same : later ≡ size = pushed.follows.keeps.size in
    let asked : (pages c.finish.new.out).count + 1 ≤ from + load_pages (family_of_loader loader) later listed =
    c.in-Err-finish.ensures.asked from listed
    (subst (λ (f : Family). TookFew f later from listed count loader) (sym pushed.family) (subst (λ u. TookFew Table u from listed count loader) (sym same) took))
    (is_refused c.in-Err-finish.error limit is) in
    subst (λ (f : Family). (pages c.finish.new.out).count + 1 ≤ from + load_pages f size listed) pushed.family
    (subst (λ u. (pages c.finish.new.out).count + 1 ≤ from + load_pages (family_of_loader loader) u listed) same asked)

pub returns-in-Err-finish-clause-cause : goal.returns-in-Err-finish-clause-cause
returns-in-Err-finish-clause-cause g c =
    let p = g.P.PageOut in
    let from : ℕ = (p.pages c.args.out.now).count in
    let size : ℕ = (p.pages c.args.out.now).usable in
    let there = p.pages c.push_rows.new.out in
    let loader = c.push_rows.new.loader in
    let pushed = c.in_ok-push_rows.ensures in
    let keeps = pushed.follows.keeps in
    let none : TookFew Table size from [] from c.in-Ok.loader = subst (λ u. TookFew Table u from [] from c.in-Ok.loader) c.usable.ensures.value (c.in-Ok.ensures.none from) in
    let shallow : IsShallow there.usable from there.count loader = subst (λ (u : ℕ). IsShallow u from there.count loader) (sym keeps.size) (pushed.pushed from none).shallow in
    let later : there.count ≤ (p.pages c.finish.new.out).count = c.in-Err-finish.ensures.keeps.count in
    cause_since p.pages p.limit p.faults c.args.out.now c.push_rows.new.out c.finish.new.out c.in-Err-finish.error keeps.limit_is keeps.disk keeps.entropy c.in-Err-finish.ensures.cause
    (λ is. let many : 2 ^ 28 + from ≤ there.count = c.in-Err-finish.ensures.deep from shallow (ap Err is) in omega arith)
