use Rattle.std.proofs.Common.{◌++◌, List, [], ℕ, ap, ◌∙◌}
use Rattle.std.proofs.lemmas.List.{append-nil}
use Rattle.row_text.proofs.Moving.{cut, restated, restated_part, then, then_part}
use Rattle.export_rows.proofs.TreeText.{all_put, from_empty, none_put, part_from_empty}
use Rattle.index_report.specs.Lines.{last_line}
use Rattle.index_report.specs.Report.{found_of, lines_of}
use Rattle.index_report.specs.declared.summary.Summary.{Summary}
use Rattle.index_report.proofs.report.put_report.Goals as goal

pub returns-then-not-are_short-clause-part : goal.returns-then-not-are_short-clause-part
returns-then-not-are_short-clause-part g c told t = none_put (lines_of (g.S.PageSource.plain c.args.source.now) c.args.rows.now) (g.K.Sink.taken c.args.out.now) []

pub returns-in-Err-clause-part : goal.returns-in-Err-clause-part
returns-in-Err-clause-part g c told t =
    part_from_empty c.requires.empty (cut (last_line (found_of (g.S.PageSource.plain c.args.source.now) c.args.rows.now)) (c.in-Err.ensures.part told t))

pub returns-in-Err-put_last-clause-part : goal.returns-in-Err-put_last-clause-part
returns-in-Err-put_last-clause-part g c told t =
    let last = ap (λ (found : Summary). last_line found) (c.in-Ok.ensures.found told) in
    then_part (from_empty c.requires.empty (c.in-Ok.ensures.text told t)) (restated_part last (c.in-Err-put_last.ensures.part t))

pub returns-in-Err-flush-clause-part : goal.returns-in-Err-flush-clause-part
returns-in-Err-flush-clause-part g c told t =
    let last = ap (λ (found : Summary). last_line found) (c.in-Ok.ensures.found told) in
    restated_part (append-nil (lines_of (g.S.PageSource.plain c.args.source.now) c.args.rows.now))
    (then_part (then (from_empty c.requires.empty (c.in-Ok.ensures.text told t)) (restated last (c.in-Ok-put_last.ensures.done t))) (c.in-Err-flush.ensures.part t))

pub returns-in-Ok-flush-clause-text : goal.returns-in-Ok-flush-clause-text
returns-in-Ok-flush-clause-text g c told t =
    let last = ap (λ (found : Summary). last_line found) (c.in-Ok.ensures.found told) in
    let moved = then (then (from_empty c.requires.empty (c.in-Ok.ensures.text told t)) (restated last (c.in-Ok-put_last.ensures.done t))) (c.in-Ok-flush.ensures.done t) in
    all_put c.in-Ok-flush.ensures.empty moved
    ∙ ap (λ (l : List ℕ). g.K.Sink.taken c.args.out.now ++ l) (append-nil (lines_of (g.S.PageSource.plain c.args.source.now) c.args.rows.now))
