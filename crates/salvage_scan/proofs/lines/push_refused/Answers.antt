use Rattle.std.proofs.Common.{◌≡◌, ℕ, List, ◌++◌, codes, decimal, ap, ◌∙◌, append_assoc}
use Rattle.salvage_scan.proofs.lines.push_refused.Goals as goal

regroup : (a b d e f : List ℕ) → ((a ++ b) ++ d) ++ (e ++ f) ≡ a ++ ((b ++ (d ++ e)) ++ f)
regroup a b d e f = simp append_assoc

pub returns : goal.returns
returns c =
    c.push-2.ensures ∙ ap (λ (l : List ℕ). l ++ codes ": tag refused\n") (c.push_number.ensures.text ∙ ap (λ (l : List ℕ). l ++ decimal c.args.n) c.push.ensures)
    ∙ regroup c.args.line.now (codes "page ") (decimal c.args.n) (codes ": tag refused") (codes "\n")
