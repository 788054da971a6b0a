use Rattle.std.proofs.Common.{◌≡◌, ◌⊎◌, ⊎_elim, inl, inr, sym, subst, ◌∙◌}
use Rattle.db_format.specs.Pages.{Pages, nothing}
use Rattle.btree_page.specs.declared.kind.Family.TheVariants.{Table, Index}
use Rattle.btree_model.specs.Finding.{entries}
use Rattle.btree_model.specs.Tree.{root_family, tree_walk}
use Rattle.btree_walk.specs.Causes.{IsAmong}
use Rattle.btree_walk.proofs.CauseLemmas.{given_later}
use Rattle.index_check.specs.Agree.{owners, rowids}
use Rattle.index_check.specs.Checked.{IsIndexAgreement}
use Rattle.index_report.proofs.JudgeSteps.{beside_read, same_agreement, shut, walked}
use Rattle.index_report.proofs.judge.judge_beside.Goals as goal

pub returns-in-Err-clause-found : goal.returns-in-Err-clause-found
returns-in-Err-clause-found g c told =
    inl (shut g.S.PageSource.refuses (g.S.PageSource.plain c.args.source.now) c.args.table c.in-Err.refusal c.requires.table_low c.requires.table_high c.in-Err.ensures.refused)

pub returns-in-Err-check_index-clause-found : goal.returns-in-Err-check_index-clause-found
returns-in-Err-check_index-clause-found g c told =
    let pages : Pages = g.S.PageSource.plain c.args.source.now in
    let same : g.S.PageSource.plain c.tree_family.new.source ≡ pages = g.met.S.PageSource.same_pages c.args.source.now c.tree_family.new.source c.in-Ok-Table.ensures.reads told in
    let family : Table ≡ root_family c.args.table (pages.page c.args.table) = sym c.in-Ok-Table.field-0-is ∙ c.in-Ok-Table.ensures.value told in
    let stops : IsAmong g.S.PageSource.refuses pages (tree_walk pages Table nothing c.args.table) c.in-Err-check_index.error
    ⊎ IsAmong g.S.PageSource.refuses pages (tree_walk pages Index nothing c.args.root) c.in-Err-check_index.error =
    subst (λ (p : Pages). IsAmong g.S.PageSource.refuses p (tree_walk p Table nothing c.args.table) c.in-Err-check_index.error
    ⊎ IsAmong g.S.PageSource.refuses p (tree_walk p Index nothing c.args.root) c.in-Err-check_index.error) same (c.in-Err-check_index.ensures.found told) in
    ⊎_elim (λ among. inl (walked g.S.PageSource.refuses pages c.args.table Table c.in-Err-check_index.error (sym family) among))
    (λ among. inr (walked g.S.PageSource.refuses pages c.args.root Index c.in-Err-check_index.error (c.requires.index told) among)) stops

pub returns-in-Err-check_index-clause-given : goal.returns-in-Err-check_index-clause-given
returns-in-Err-check_index-clause-given g c =
    given_later g.S.PageSource.only_read g.S.PageSource.plain g.S.PageSource.refuses c.args.source.now c.tree_family.new.source c.in-Err-check_index.error g.met.S.PageSource.transitive
    (g.met.S.PageSource.same_count c.args.source.now c.tree_family.new.source c.in-Ok-Table.ensures.reads) c.in-Ok-Table.ensures.reads c.in-Err-check_index.ensures.given

pub returns-in-Ok-clause-found : goal.returns-in-Ok-clause-found
returns-in-Ok-clause-found g c told =
    let pages : Pages = g.S.PageSource.plain c.args.source.now in
    let same : g.S.PageSource.plain c.tree_family.new.source ≡ pages = g.met.S.PageSource.same_pages c.args.source.now c.tree_family.new.source c.in-Ok-Table.ensures.reads told in
    let family : Table ≡ root_family c.args.table (pages.page c.args.table) = sym c.in-Ok-Table.field-0-is ∙ c.in-Ok-Table.ensures.value told in
    let has : IsIndexAgreement (tree_walk pages Table nothing c.args.table) (tree_walk pages Index nothing c.args.root) c.in-Ok.found =
    subst (λ (p : Pages). IsIndexAgreement (tree_walk p Table nothing c.args.table) (tree_walk p Index nothing c.args.root) c.in-Ok.found) same (c.in-Ok.ensures.found told) in
    beside_read pages c.args.root c.args.row.now c.args.table family (sym c.in-Ok-true.field-0-test ∙ c.in-Ok-true.ensures) c.in-Ok.found
    (same_agreement (rowids (entries (tree_walk pages Table nothing c.args.table))) (owners (entries (tree_walk pages Index nothing c.args.root))) c.in-Ok.found has.is)
