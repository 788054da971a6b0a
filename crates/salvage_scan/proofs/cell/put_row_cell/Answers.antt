use Rattle.std.proofs.Common.{◌≡◌, ◌++◌, ◌∷◌, [], ℤ, None, if◌then◌else◌, ap, subst, ◌∙◌}
use Rattle.std.proofs.lemmas.Int.{to_z-of_z}
use mir.Syntax.{w64}
use Rattle.btree_page.specs.Cell.{StoredCell}
use Rattle.db_format.specs.Record.{columns}
use Rattle.salvage_scan.specs.Chain.{IsPayloadRead}
use Rattle.salvage_scan.specs.Salvage.{Line, file_pages, payload_line, row_line}
use Rattle.salvage_scan.specs.Scan.{IsSalvaged}
use Rattle.salvage_scan.specs.Text.{counts_shown}
use Rattle.salvage_scan.proofs.ChainSteps.{payload_line_is}
use Rattle.salvage_scan.proofs.ScanSteps.{disk_cause, none_put, out_causes}
use Rattle.salvage_scan.proofs.cell.put_row_cell.Goals as goal

pub returns-in-Err-clause-on : goal.returns-in-Err-clause-on
returns-in-Err-clause-on g c told =
    none_put g.K.Sink.tells
    (payload_line (file_pages c.args.codec.now (g.D.Disk.reads c.args.disk.now)) c.args.n c.args.rowid (record { size = c.args.length; local = c.args.local.now; first = c.args.first }) ∷ [])
    (record { taken = g.K.Sink.taken c.args.out.now; waits = c.args.scan.now.line; counts = counts_shown c.args.scan.now.counts })

pub returns-in-Err-read_payload-clause-on : goal.returns-in-Err-read_payload-clause-on
returns-in-Err-read_payload-clause-on g c told =
    none_put g.K.Sink.tells
    (payload_line (file_pages c.args.codec.now (g.D.Disk.reads c.args.disk.now)) c.args.n c.args.rowid (record { size = c.args.length; local = c.args.local.now; first = c.args.first }) ∷ [])
    (record { taken = g.K.Sink.taken c.args.out.now; waits = c.args.scan.now.line; counts = counts_shown c.args.scan.now.counts })

pub returns-in-Err-read_payload-clause-cause : goal.returns-in-Err-read_payload-clause-cause
returns-in-Err-read_payload-clause-cause g c =
    disk_cause (g.D.Disk.faults c.args.disk.now) (g.D.Disk.faults c.read_payload.new.disk) (g.K.Sink.faults c.args.out.now) (g.K.Sink.faults c.args.out.now)
    c.in-Err-read_payload.error c.in-Err-read_payload.ensures.cause

pub returns-in-Ok-read_payload-clause-on : goal.returns-in-Ok-read_payload-clause-on
returns-in-Ok-read_payload-clause-on g c told =
    let stored : StoredCell = record { size = c.args.length; local = c.args.local.now; first = c.args.first } in
    let body : c.extend_from_slice.new.self.items ≡ c.args.local.now = c.in-Ok.ensures.items ∙ ap (λ l. l ++ c.args.local.now) c.clear.ensures.items in
    let read = subst (λ l. IsPayloadRead (file_pages c.args.codec.now (g.D.Disk.reads c.args.disk.now)) (record { size = c.args.length; local = l; first = c.args.first }) c.in-Ok-read_payload.whole c.read_payload.new.payload.items)
    body (c.in-Ok-read_payload.ensures.on told) in
    let line : row_line c.args.n c.args.rowid (if c.in-Ok-read_payload.whole then columns c.read_payload.new.payload.items else None)
    ≡ payload_line (file_pages c.args.codec.now (g.D.Disk.reads c.args.disk.now)) c.args.n c.args.rowid stored =
    payload_line_is (file_pages c.args.codec.now (g.D.Disk.reads c.args.disk.now)) c.args.n c.args.rowid stored c.in-Ok-read_payload.whole c.read_payload.new.payload.items read in
    let named = ap (λ (z : ℤ). row_line c.args.n z (if c.in-Ok-read_payload.whole then columns c.read_payload.new.payload.items else None)) (to_z-of_z w64 c.args.rowid c.ranges.rowid) in
    subst (λ (l : Line). IsSalvaged g.K.Sink.tells (l ∷ [])
    (record { taken = g.K.Sink.taken c.args.out.now; waits = c.args.scan.now.line; counts = counts_shown c.args.scan.now.counts })
    (record { taken = g.K.Sink.taken c.put_payload.new.out; waits = c.put_payload.new.scan.line; counts = counts_shown c.put_payload.new.scan.counts }) c.put_payload.result)
    (named ∙ line) c.put_payload.ensures.on

pub returns-in-Ok-read_payload-clause-cause : goal.returns-in-Ok-read_payload-clause-cause
returns-in-Ok-read_payload-clause-cause g c =
    out_causes (g.D.Disk.faults c.args.disk.now) (g.D.Disk.faults c.read_payload.new.disk) (g.K.Sink.faults c.args.out.now) (g.K.Sink.faults c.put_payload.new.out)
    c.put_payload.result c.put_payload.ensures.cause
