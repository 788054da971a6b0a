use Rattle.std.proofs.Common.{[], ◌∷◌, pos, ap, ◌∙◌}
use Rattle.std.proofs.lemmas.Result.{IfOk-weaker}
use Rattle.db_format.specs.Row.{record_bytes}
use Rattle.db_format.specs.Value.Datum.{null, int, text, blob}
use Rattle.db_maker.specs.Rows.{data_bytes, item_name}
use Rattle.db_maker.proofs.rows.item_row.Goals as goal

pub returns : goal.returns
returns c =
    let i = c.args.i in
    IfOk-weaker c.item_record.result _ _ (λ row is. is
    ∙ ap (λ name. record_bytes (null ∷ text name ∷ blob c.deref.result.now ∷ int (pos c.data_len.result) ∷ [])) c.item_name-name.ensures
    ∙ ap (λ bytes. record_bytes (null ∷ text (item_name i) ∷ blob bytes ∷ int (pos c.data_len.result) ∷ [])) (c.deref.ensures.value ∙ c.in_ok-bytes.ensures)
    ∙ ap (λ len. record_bytes (null ∷ text (item_name i) ∷ blob (data_bytes i) ∷ int (pos len) ∷ [])) c.data_len.ensures)
    c.item_record.ensures
