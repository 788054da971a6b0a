use Rattle.std.proofs.Common.{drop, ap, sym, ◌∙◌}
use Rattle.std.proofs.lemmas.List.{take_rest}
use Rattle.db_format.proofs.RecordLemmas.{columns-cut, columns-short, columns-long, columns-split, some-counted, none-counted}
use Rattle.db_format.proofs.RelationLemmas.{IsRecordOf-columns, no_record, same_record}
use Rattle.db_format.proofs.record.RecordView.read.Goals as goal
use Rattle.db_format.proofs.record.RecordView.read.Goals.{then-size-first-via-then-size-first, then-size-first-via-else-size-first+then-size-payload}

cut : goal.returns-in_default-clause-read
cut c = columns-cut c.args.payload.now (sym c.in_default.ensures.read)

pub returns-in_default-clause-read : goal.returns-in_default-clause-read
returns-in_default-clause-read c = cut c

pub returns-in_default-clause-no_record : goal.returns-in_default-clause-no_record
returns-in_default-clause-no_record c = no_record c.args.payload.now (cut c)

outside : goal.returns-then-size-first-clause-read
outside c =
    elim c.then-size-first.branch [
      | then-size-first-via-then-size-first w ↦
          columns-short c.args.payload.now c.in-Some.size c.in-Some.first (sym c.in-Some.ensures.read) w.if-size-first.true
      | then-size-first-via-else-size-first+then-size-payload w ↦
          columns-long c.args.payload.now c.in-Some.size c.in-Some.first (sym c.in-Some.ensures.read) w.if-size-first.false w.if-size-payload.true
    ]

pub returns-then-size-first-clause-read : goal.returns-then-size-first-clause-read
returns-then-size-first-clause-read c = outside c

pub returns-then-size-first-clause-no_record : goal.returns-then-size-first-clause-no_record
returns-then-size-first-clause-no_record c = no_record c.args.payload.now (outside c)

held : goal.returns-in-Some-count_columns-clause-read
held c =
    let header = c.split_at.result.0.now in
    columns-split c.args.payload.now _ _ c.in-Some.size c.in-Some.first (sym c.in-Some.ensures.read) c.if-size-first.false
    c.if-size-payload.false (take_rest header c.in-Some.first ∙ ap (drop c.in-Some.first) c.split_at.ensures.front) c.split_at.ensures.back
    ∙ some-counted _ c.in-Some-count_columns.count c.in-Some-count_columns.ensures

pub returns-in-Some-count_columns-clause-read : goal.returns-in-Some-count_columns-clause-read
returns-in-Some-count_columns-clause-read c = held c

pub returns-in-Some-count_columns-clause-is_record : goal.returns-in-Some-count_columns-clause-is_record
returns-in-Some-count_columns-clause-is_record c = IsRecordOf-columns c.args.payload.now _ (held c)

pub returns-in-Some-count_columns-clause-only : goal.returns-in-Some-count_columns-clause-only
returns-in-Some-count_columns-clause-only c = same_record c.args.payload.now _ (held c)

bad : goal.returns-in-None-clause-read
bad c =
    let header = c.split_at.result.0.now in
    columns-split c.args.payload.now _ _ c.in-Some.size c.in-Some.first (sym c.in-Some.ensures.read) c.if-size-first.false
    c.if-size-payload.false (take_rest header c.in-Some.first ∙ ap (drop c.in-Some.first) c.split_at.ensures.front) c.split_at.ensures.back
    ∙ none-counted _ c.in-None.ensures

pub returns-in-None-clause-read : goal.returns-in-None-clause-read
returns-in-None-clause-read c = bad c

pub returns-in-None-clause-no_record : goal.returns-in-None-clause-no_record
returns-in-None-clause-no_record c = no_record c.args.payload.now (bad c)
