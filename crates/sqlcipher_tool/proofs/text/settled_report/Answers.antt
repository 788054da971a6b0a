use Rattle.std.proofs.Common.{◌≡◌, ◌++◌, List, [], ◌∷◌, ℕ, codes, decimal, refl, ap, ◌∙◌, append_assoc}
use Rattle.sqlcipher_tool.proofs.text.settled_report.Goals as goal

-- two numbers between three texts, of which the last ends with a line feed
joined : (settled f frames m maps feed : List ℕ) → (((settled ++ (f ++ frames)) ++ m) ++ (maps ++ feed)) ≡ (settled ++ (f ++ (frames ++ (m ++ maps)))) ++ feed
joined settled f frames m maps feed = simp append_assoc refl

pub returns : goal.returns
returns c =
    let f = decimal c.args.frames in
    let m = decimal c.args.maps in
    c.push.ensures
    ∙ ap (λ (l : List ℕ). l ++ codes " map pages\n") (c.push_number.ensures.text
    ∙ ap (λ (l : List ℕ). l ++ m) (c.push_around.ensures.text ∙ ap (λ (l : List ℕ). l ++ (codes "settled: " ++ (f ++ codes " log frames, "))) c.new-text.ensures))
    ∙ joined (codes "settled: ") f (codes " log frames, ") m (codes " map pages") (10 ∷ [])
