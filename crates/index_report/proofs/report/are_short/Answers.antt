use Rattle.std.proofs.Common.{◌≤◌, length, rules, arith, subst}
use Rattle.std.specs.List.{All}
use Rattle.std.proofs.lemmas.List.{take_all}
use Rattle.std.proofs.lemmas.List.Elements.{All-more}
use Rattle.db_format.specs.Record.{longest_payload}
use Rattle.schema_map.specs.declared.schema.SchemaRow.{SchemaRow}
use Rattle.index_report.proofs.report.are_short.Goals as goal

pub loop-row-init : goal.loop-row-init
loop-row-init c = λ k d less. absurd (omega (arith, less))

pub loop-row-preserved : goal.loop-row-preserved
loop-row-preserved c =
    let short : length c.row-item.result.payload ≤ longest_payload = search rules in
    All-more (λ (row : SchemaRow). length row.payload ≤ longest_payload) c.args.rows.now c.loop-row.row-index c.row-item.result c.loop-row-test.true c.loop-row.invariant
    (subst (λ (row : SchemaRow). length row.payload ≤ longest_payload) c.row-item.is short)

pub returns : goal.returns
returns c = λ yes.
    subst (All (λ (row : SchemaRow). length row.payload ≤ longest_payload)) (take_all c.loop-row.row-index c.args.rows.now c.loop-row-test.false) c.loop-row.invariant
