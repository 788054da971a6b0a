use Rattle.std.proofs.Common.{◌≤◌, ◌++◌, ℕ, [], ◌∷◌, length, take, ap, ◌∙◌, arith}
use Rattle.db_format.specs.Value.{datum_of}
use Rattle.db_format.specs.Values.{values_left}
use Rattle.migrate_job.specs.Copied.{row_values}
use Rattle.migrate_job.proofs.RowLaws.{left_after, none_left, row_more, row_whole}
use Rattle.migrate_job.proofs.row.pieces_with_root.Goals as goal

pub returns-in_default : goal.returns-in_default
returns-in_default c =
    c.loop-column.invariant.1
    ∙ row_whole c.loop-column.column c.args.root c.args.old.now c.requires
    (none_left c.loop-column.column c.args.old.now (values_left c.loop-column.values) c.loop-column.invariant.0 c.in_default.ensures.steps.0)

pub loop-column-preserved : goal.loop-column-preserved
loop-column-preserved c =
    let n : ℕ = c.loop-column.column in (
      left_after n c.args.old.now (values_left c.loop-column.values) (values_left c.next.new.self) (datum_of c.in-Some.value) c.loop-column.invariant.0 c.in-Some.ensures.steps,
      c.in_ok-push.ensures.ok ∙ ap (λ l. l ++ datum_of c.root_or_value.result ∷ []) c.loop-column.invariant.1
          ∙ ap (λ v. take n (row_values c.args.root c.args.old.now) ++ v ∷ []) c.root_or_value.ensures
          ∙ row_more n c.args.root c.args.old.now (values_left c.loop-column.values) (values_left c.next.new.self) (datum_of c.in-Some.value) c.requires c.loop-column.invariant.0 c.in-Some.ensures.steps,
    )

pub returns : goal.returns
returns c =
    let whole : length c.args.old.now ≤ c.loop-column.column = omega (arith, c.loop-column-test.false, c.columns-column-end.ensures) in
    c.loop-column.invariant.1 ∙ row_whole c.loop-column.column c.args.root c.args.old.now c.requires whole
