use Rattle.std.proofs.Common.{◌≡◌, ◌++◌, ◌≤◌, List, ℕ, length, take, drop, sym, ap, ◌∙◌}
use Rattle.std.proofs.lemmas.List.{take-append-drop}
use Rattle.std.proofs.lemmas.Result.{on_err_weaker}
use Rattle.text_lines.specs.Text.{PutsPart}
use Rattle.text_lines.proofs.text.Text.put.Goals as goal

-- the first bytes of a line are a part of it
first_bytes : {line bytes before after : List ℕ} → bytes ≡ line → (n : ℕ) × (n ≤ length bytes) × (after ≡ before ++ take n bytes) → PutsPart line before after
first_bytes {line} {bytes} {before} same some = record {
  put = take some.0 line;
  rest = drop some.0 line;
  whole = sym (take-append-drop some.0 line);
  appended = some.2 ∙ ap (λ (l : List ℕ). before ++ take some.0 l) same;
}

pub returns-clause-part : goal.returns-clause-part
returns-clause-part g c = on_err_weaker c.put_all.result (λ failed told. first_bytes c.as_bytes.ensures (failed told)) c.put_all.ensures.failed
