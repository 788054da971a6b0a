use Rattle.std.proofs.Common.{◌≡◌, ◌<◌, ◌^◌, length, arith}
use Rattle.std.proofs.lemmas.Grind.{common_steps}
use Rattle.db_format.specs.Row.{record_bytes, types_written, values_held}
use Rattle.db_format.proofs.RelationLemmas.{columns-IsRecordOf}
use Rattle.db_format.proofs.RowLemmas.{IsRecordOf-record_bytes}
use Rattle.db_format.proofs.row.write_row.Goals as goal

bytes : (c : goal.In_ok-append-3) → c.append-3.new.out.items ≡ record_bytes c.args.pieces.now
bytes c = grind (arith, common_steps)

is_record : goal.returns-clause-is_record
is_record c =
    let values = values_held c.pieces.inside.types.items c.pieces.inside.body.items in
    let short : length (types_written values) < 2 ^ 63 = rw (← c.pieces.invariant.types_are) (omega arith) in
    rw (bytes c, ← c.pieces.view_is) (IsRecordOf-record_bytes values c.pieces.invariant.storable short)

pub returns-clause-is_record : goal.returns-clause-is_record
returns-clause-is_record c = is_record c

pub returns-clause-reads_back : goal.returns-clause-reads_back
returns-clause-reads_back c = columns-IsRecordOf _ _ (is_record c)
