use Rattle.std.proofs.Common.{◌≡◌, ◌∙◌, ◌++◌, ℕ, Bool, false, List, [], ap, sym, arith}
use Rattle.std.specs.Prelude.{◌==◌, codes, decimal, if◌then◌else◌}
use Rattle.std.proofs.lemmas.Bool.Decides.{nat_tests}
use Rattle.std.proofs.lemmas.List.{append_assoc}
use Rattle.profile_word.proofs.wording.push_header.Goals as goal

-- the setting, pushed as its name and its number
pushed : (before named after : List ℕ) (n printed : ℕ) → (n ≡ 0 → ⊥) → named ≡ before ++ codes ":plain-header=" → after ≡ named ++ decimal printed → printed ≡ n
    → after ≡ before ++ (if n == 0 then [] else codes ":plain-header=" ++ decimal n)
pushed before named after n printed some is_named is_after is_printed =
    let given : (n == 0) ≡ false = grind (arith, nat_tests, some) in
    is_after
    ∙ (λ t. is_named t ++ decimal (is_printed t))
    ∙ append_assoc before (codes ":plain-header=") (decimal n)
    ∙ sym (ap (λ (b : Bool). before ++ (if b then [] else codes ":plain-header=" ++ decimal n)) given)

pub returns-clause-word : goal.returns-clause-word
returns-clause-word c =
    pushed c.args.text.now c.push.new.self c.push_number.new.self c.args.profile.now.plain_header c.from.result c.if-profile-eq0.false c.push.ensures c.push_number.ensures.text c.from.ensures
