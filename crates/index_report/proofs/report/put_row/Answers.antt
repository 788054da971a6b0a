use Rattle.export_rows.proofs.TreeText.{none_put}
use Rattle.index_report.specs.Report.{payload_text, payload_verdicts}
use Rattle.index_report.proofs.report.put_row.Goals as goal

pub returns-in-Err-clause-part : goal.returns-in-Err-clause-part
returns-in-Err-clause-part g c told t =
    none_put (payload_text c.args.payload.now (payload_verdicts (g.S.PageSource.plain c.args.source.now) c.args.rows.now c.args.root c.args.payload.now)) (g.K.Sink.taken c.args.out.now) c.args.line.now
