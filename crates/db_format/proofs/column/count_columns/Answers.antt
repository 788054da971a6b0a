use Rattle.std.proofs.Common.{◌≡◌, length, sym, ◌∙◌, add-zero}
use Rattle.std.proofs.lemmas.Bool.{eqb-true}
use Rattle.db_format.proofs.RecordLemmas.{values_in-end}
use Rattle.db_format.proofs.column.count_columns.Goals as goal

pub returns : goal.returns
returns c =
    let none : length c.columns.later_types.now ≡ 0 = eqb-true _ _ (sym c.is_empty.ensures ∙ c.columns-test.false) in
    sym (rw (values_in-end c.columns.later_types.now c.columns.later_body.now none, add-zero) at c.columns.invariant.same)
