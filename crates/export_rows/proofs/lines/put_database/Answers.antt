use Rattle.std.proofs.Common.{◌≡◌, ◌++◌, List, ℕ, ap, ◌∙◌, append_assoc}
use Rattle.std.specs.Prelude.{codes, decimal}
use Rattle.export_rows.specs.Lines.{database_line, kept_of}
use Rattle.row_text.proofs.Moving.{at_exit, cut, then, waits}
use Rattle.export_rows.proofs.lines.put_database.Goals as goal

pub returns-in_err-make_room-clause-part : goal.returns-in_err-make_room-clause-part
returns-in_err-make_room-clause-part g c =
    at_exit c.from_residual.result (λ told. cut (database_line (kept_of c.args.header.now)) (c.in_err-make_room.ensures.part told))

regroup : (w a1 d1 a2 d2 a3 d3 a4 d4 a5 d5 a6 d6 a7 d7 e : List ℕ)
    → ((((((((w ++ a1 ++ d1 ++ a2 ++ d2 ++ a3 ++ d3 ++ a4 ++ d4) ++ a5) ++ d5) ++ a6) ++ d6) ++ a7) ++ d7) ++ e)
    ≡ w ++ (a1 ++ d1 ++ a2 ++ d2 ++ a3 ++ d3 ++ a4 ++ d4 ++ a5 ++ d5 ++ a6 ++ d6 ++ a7 ++ d7 ++ e)
regroup w a1 d1 a2 d2 a3 d3 a4 d4 a5 d5 a6 d6 a7 d7 e = simp append_assoc

pub returns-clause-done : goal.returns-clause-done
returns-clause-done g c = λ told.
    let header = c.args.header.now in
    then (c.in_ok-make_room.ensures.done told) (
    waits (g.K.Sink.taken c.make_room.new.out) (
    c.push_names.ensures
    ∙ ap (λ (l : List ℕ). l ++ codes " user-version " ++ decimal header.user_version ++ codes " application-id " ++ decimal header.application_id ++ codes " sqlite " ++ decimal header.sqlite_number ++ codes "\n") c.push_schema_fields.ensures.text
    ∙ regroup c.make_room.new.self (codes "database cookie ") (decimal header.cookie) (codes " format ") (decimal header.format)
    (codes " cache ") (decimal header.cache) (codes " encoding ") (decimal header.encoding) (codes " user-version ") (decimal header.user_version)
    (codes " application-id ") (decimal header.application_id) (codes " sqlite ") (decimal header.sqlite_number) (codes "\n")
    )
    )
