use Rattle.std.proofs.Common.{◌≡◌, ◌+◌, ◌-◌, ◌≤◌, List, ℕ, [], ◌++◌, length, take, drop, refl, ap, sym, ◌∙◌, arith}
use Rattle.std.proofs.lemmas.List.{append_assoc, length-replicate, length-take-le}
use Rattle.page_build.specs.Draft.{laid}
use Rattle.page_build.proofs.Append.{laid_mid, zeros_of}
use Rattle.page_build.proofs.builder.move_head.Goals as goal

pub returns : goal.returns
returns c =
    let old : List ℕ = c.args.page.now.items in
    let end : ℕ = c.args.end in
    let whole : end - 0 ≡ end = omega arith in
    let room : 100 + end ≤ length old = c.requires in
    let copied : c.copy_within.new.self.items ≡ (take 100 old ++ take (end - 0) old) ++ drop (100 + (end - 0)) old = c.copy_within.ensures.items in
    let shape : (take 100 old ++ take (end - 0) old) ++ drop (100 + (end - 0)) old ≡ take 100 old ++ (take end old ++ drop (100 + end) old) =
    ap (λ n. (take 100 old ++ take n old) ++ drop (100 + n) old) whole ∙ append_assoc (take 100 old) (take end old) (drop (100 + end) old) in
    let long : length (take 100 old) ≡ 100 = length-take-le 100 old (omega arith) in
    let zeros : length (zeros_of 100) ≡ 100 = length-replicate {A = ℕ} 100 0 in
    c.lay.ensures ∙ ap (laid 0 (zeros_of 100)) (copied ∙ shape)
    ∙ laid_mid [] (take 100 old) (take end old ++ drop (100 + end) old) (zeros_of 100) 0 refl (long ∙ sym zeros)
