use Rattle.std.proofs.Common.{◌≤◌, sym, subst, length, arith}
use Rattle.std.proofs.lemmas.Result.{IfOk-weaker}
use Rattle.btree_page.specs.Payload.{max_payload}
use Rattle.db_maker.proofs.RowLaws.{schema_short}
use Rattle.db_maker.proofs.schema.schema_row.Goals as goal

pub returns-clause-short : goal.returns-clause-short
returns-clause-short c =
    IfOk-weaker c.schema_record.result _ _ (λ row is. subst (λ l. length l ≤ max_payload) (sym is)
    (schema_short c.args.kind.now c.args.name.now c.args.table.now c.args.sql.now c.args.root (omega (arith, c.ranges.root.fits)) c.requires.small))
    c.schema_record.ensures
