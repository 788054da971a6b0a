use Rattle.std.proofs.Common.{◌≤◌, [], ◌∷◌, pos, length, ap, sym, subst, ◌∙◌, arith}
use Rattle.std.proofs.lemmas.Result.{IfOk-weaker}
use Rattle.btree_page.specs.Payload.{max_payload}
use Rattle.db_format.specs.Row.{record_bytes}
use Rattle.db_format.specs.Value.Datum.{int, text}
use Rattle.db_maker.specs.declared.part.Part.TheVariants.{Items, Names, Codes}
use Rattle.db_maker.specs.Parts.{entry_in}
use Rattle.db_maker.proofs.EntryLaws.{entry_short}
use Rattle.db_maker.proofs.rows.payload.Goals as goal

pub returns-in-Items-clause-short : goal.returns-in-Items-clause-short
returns-in-Items-clause-short c =
    IfOk-weaker c.item_row.result _ _ (λ row is. subst (λ l. length l ≤ max_payload) (sym is) (entry_short Items c.args.i (omega (arith, c.ranges.i.fits)))) c.item_row.ensures

pub returns-in-Names-clause-value : goal.returns-in-Names-clause-value
returns-in-Names-clause-value c =
    IfOk-weaker c.named_row.result _ _ (λ row is. is ∙ ap (λ name. record_bytes (text name ∷ int (pos c.args.i) ∷ [])) c.item_name.ensures
    ∙ ap (λ part. (entry_in part c.args.i).payload) (sym c.in-Names.is)) c.named_row.ensures

pub returns-in-Names-clause-short : goal.returns-in-Names-clause-short
returns-in-Names-clause-short c =
    IfOk-weaker c.named_row.result _ _ (λ row is. subst (λ l. length l ≤ max_payload)
    (sym (is ∙ ap (λ name. record_bytes (text name ∷ int (pos c.args.i) ∷ [])) c.item_name.ensures)) (entry_short Names c.args.i (omega (arith, c.ranges.i.fits)))) c.named_row.ensures

pub returns-in-Codes-clause-value : goal.returns-in-Codes-clause-value
returns-in-Codes-clause-value c =
    IfOk-weaker c.named_row-in-Codes.result _ _ (λ row is. is ∙ ap (λ name. record_bytes (text name ∷ int (pos c.args.i) ∷ [])) c.code_name.ensures
    ∙ ap (λ part. (entry_in part c.args.i).payload) (sym c.in-Codes.is)) c.named_row-in-Codes.ensures

pub returns-in-Codes-clause-short : goal.returns-in-Codes-clause-short
returns-in-Codes-clause-short c =
    IfOk-weaker c.named_row-in-Codes.result _ _ (λ row is. subst (λ l. length l ≤ max_payload)
    (sym (is ∙ ap (λ name. record_bytes (text name ∷ int (pos c.args.i) ∷ [])) c.code_name.ensures)) (entry_short Codes c.args.i (omega (arith, c.ranges.i.fits)))) c.named_row-in-Codes.ensures
