use Rattle.std.proofs.Common.{◌++◌, List, ℕ, ap, ◌∙◌}
use Rattle.std.proofs.lemmas.List.{append-nil}
use Rattle.export_rows.specs.Lines.{database_line, end_line, kept_of}
use Rattle.export_rows.specs.Schema.{schema_rows_text}
use Rattle.row_text.proofs.Moving.{cut, restated_part, then, then_part}
use Rattle.export_rows.proofs.TreeText.{all_put, from_empty, part_from_empty}
use Rattle.export_rows.proofs.content.put_content.Goals as goal

pub returns-in-Err-clause-part : goal.returns-in-Err-clause-part
returns-in-Err-clause-part g c told t =
    let database = database_line (kept_of c.args.header.now) in
    let rows = schema_rows_text (g.S.PageSource.plain c.args.source.now) c.args.rows.now in
    part_from_empty c.requires.empty (cut end_line (cut rows (c.in-Err.ensures.part t)))

pub returns-in-Err-put_items-clause-part : goal.returns-in-Err-put_items-clause-part
returns-in-Err-put_items-clause-part g c told t =
    cut end_line (then_part (from_empty c.requires.empty (c.in-Ok.ensures.done t)) (c.in-Err-put_items.ensures.part told t))

pub returns-in-Err-put_end-clause-part : goal.returns-in-Err-put_end-clause-part
returns-in-Err-put_end-clause-part g c told t =
    then_part (then (from_empty c.requires.empty (c.in-Ok.ensures.done t)) (c.in-Ok-put_items.ensures.text told t)) (c.in-Err-put_end.ensures.part t)

pub returns-in-Err-flush-clause-part : goal.returns-in-Err-flush-clause-part
returns-in-Err-flush-clause-part g c told t =
    restated_part (append-nil (database_line (kept_of c.args.header.now) ++ schema_rows_text (g.S.PageSource.plain c.args.source.now) c.args.rows.now ++ end_line))
    (then_part (then (then (from_empty c.requires.empty (c.in-Ok.ensures.done t)) (c.in-Ok-put_items.ensures.text told t)) (c.in-Ok-put_end.ensures.done t)) (c.in-Err-flush.ensures.part t))

pub returns-in-Ok-flush-clause-text : goal.returns-in-Ok-flush-clause-text
returns-in-Ok-flush-clause-text g c told t =
    let moved = then (then (then (from_empty c.requires.empty (c.in-Ok.ensures.done t)) (c.in-Ok-put_items.ensures.text told t)) (c.in-Ok-put_end.ensures.done t)) (c.in-Ok-flush.ensures.done t) in
    all_put c.in-Ok-flush.ensures.empty moved
    ∙ ap (λ (l : List ℕ). g.K.Sink.taken c.args.out.now ++ l) (append-nil (database_line (kept_of c.args.header.now) ++ schema_rows_text (g.S.PageSource.plain c.args.source.now) c.args.rows.now ++ end_line))
