use Rattle.std.proofs.Common.{◌≡◌, ◌++◌, List, [], ◌∷◌, ℕ, codes, decimal, refl, ap, ◌∙◌, append_assoc}
use Rattle.sqlcipher_tool.proofs.text.verify_report.Goals as goal

-- four numbers between five texts, of which the last ends with a line feed
joined : (ok t trees r entries f free u unused feed : List ℕ)
    → ((((ok ++ (t ++ trees)) ++ r) ++ (entries ++ (f ++ free))) ++ u) ++ (unused ++ feed)
    ≡ (ok ++ (t ++ (trees ++ (r ++ (entries ++ (f ++ (free ++ (u ++ unused)))))))) ++ feed
joined ok t trees r entries f free u unused feed = simp append_assoc refl

pub returns : goal.returns
returns c =
    let t = decimal c.args.trees in
    let r = decimal c.args.rows in
    let f = decimal c.args.free in
    let u = decimal c.args.unused in
    c.push.ensures
    ∙ ap (λ (l : List ℕ). l ++ codes " unused pages\n") (c.push_number-2.ensures.text
    ∙ ap (λ (l : List ℕ). l ++ u) (c.push_around-2.ensures.text
    ∙ ap (λ (l : List ℕ). l ++ (codes " entries, " ++ (f ++ codes " free pages, "))) (c.push_number.ensures.text
    ∙ ap (λ (l : List ℕ). l ++ r) (c.push_around.ensures.text ∙ ap (λ (l : List ℕ). l ++ (codes "ok: " ++ (t ++ codes " trees, "))) c.new-text.ensures))))
    ∙ joined (codes "ok: ") t (codes " trees, ") r (codes " entries, ") f (codes " free pages, ") u (codes " unused pages") (10 ∷ [])
