use Rattle.std.proofs.Common.{◌++◌, ◌∷◌, [], ℕ, List, codes, decimal, sym, ap, ◌∙◌, append_assoc}
use Rattle.session_play.proofs.answer.tag_refused_line.Goals as goal

pub returns : goal.returns
returns c =
    c.push_around.ensures.text
    ∙ (ap (λ (start : List ℕ). start ++ (codes "page " ++ (decimal c.from.result ++ codes ": tag refused\n"))) c.new-text.ensures
    ∙ (ap (λ (n : ℕ). codes "page " ++ (decimal n ++ codes ": tag refused\n")) c.from.ensures
    ∙ ap (λ (t : List ℕ). codes "page " ++ t) (sym (append_assoc (decimal c.args.page) (codes ": tag refused") (10 ∷ [])))))
