use Rattle.std.proofs.Common.{◌≡◌, ◌≤◌, ℕ, inl, refl, arith, sym, subst, ◌∙◌}
use Rattle.db_format.specs.Pages.{Pages}
use Rattle.btree_page.specs.declared.kind.Family.TheVariants.{Index}
use Rattle.btree_model.specs.Tree.{root_family}
use Rattle.btree_walk.proofs.CauseLemmas.{if_given_later}
use Rattle.index_report.specs.Verdicts.{IsJudgedBeside, column}
use Rattle.index_report.proofs.JudgeSteps.{judged_beside, shut, table_high}
use Rattle.index_report.proofs.judge.judge.Goals as goal

pub returns-in-Err-clause-found : goal.returns-in-Err-clause-found
returns-in-Err-clause-found g c told =
    let pages : Pages = g.S.PageSource.plain c.args.source.now in
    let low : 1 ≤ c.args.root = omega (arith, c.if-root-eq0.false) in
    record {
      tree = c.args.root;
      some = c.if-root-eq0.false;
      listed = inl refl;
      stop = shut g.S.PageSource.refuses pages c.args.root c.in-Err.refusal low c.requires.root c.in-Err.ensures.refused;
    }

pub judge_beside-requires-clause-table_high : goal.judge_beside-requires-clause-table_high
judge_beside-requires-clause-table_high g c =
    let before : ℕ = (g.S.PageSource.plain c.args.source.now).count in
    let same = g.met.S.PageSource.same_count c.args.source.now c.tree_family.new.source c.in-Ok-Index.ensures.reads in
    let high = table_high c.args.rows.now (column c.args.row.now 2) before c.requires.high in
    subst (λ (n : ℕ). c.table_root-table.result ≤ n) (sym same) (subst (λ (n : ℕ). n ≤ before) (sym c.table_root-table.ensures) high)

pub returns-clause-found : goal.returns-clause-found
returns-clause-found g c told =
    let pages : Pages = g.S.PageSource.plain c.args.source.now in
    let same : g.S.PageSource.plain c.tree_family.new.source ≡ pages = g.met.S.PageSource.same_pages c.args.source.now c.tree_family.new.source c.in-Ok-Index.ensures.reads told in
    let family : Index ≡ root_family c.args.root (pages.page c.args.root) = sym c.in-Ok-Index.field-0-is ∙ c.in-Ok-Index.ensures.value told in
    judged_beside pages c.args.rows.now c.args.root c.args.row.now c.if-root-eq0.false family c.table_root-table.result c.table_root-table.ensures
    g.S.PageSource.refuses c.judge_beside.result c.if-table-eq0.false
    (subst (λ (p : Pages). IsJudgedBeside g.S.PageSource.refuses p c.table_root-table.result c.args.root c.args.row.now c.judge_beside.result) same (c.judge_beside.ensures.found told))

pub returns-clause-given : goal.returns-clause-given
returns-clause-given g c =
    if_given_later g.S.PageSource.only_read g.S.PageSource.plain g.S.PageSource.refuses c.args.source.now c.tree_family.new.source c.judge_beside.result g.met.S.PageSource.transitive
    (g.met.S.PageSource.same_count c.args.source.now c.tree_family.new.source c.in-Ok-Index.ensures.reads) c.in-Ok-Index.ensures.reads c.judge_beside.ensures.given
