use Rattle.std.proofs.Common.{◌≡◌, ◌∙◌, ◌+◌, ℕ, List, length, take, Option, ap, sym, arith}
use Rattle.std.specs.Option.{option_and_then}
use Rattle.profile_word.specs.declared.word.Settings.{Settings}
use Rattle.profile_word.specs.Parts.{first_part, parts_from}
use Rattle.profile_word.specs.Word.{profile_from, profile_named, settings_of}
use Rattle.profile_word.proofs.Listing.{maybe_listed, named_parts}
use Rattle.profile_word.proofs.PartLaws.{first_taken}
use Rattle.profile_word.proofs.word.profile_of_bytes.Goals as goal

-- what the first part names, with the settings of the others, is what the word names
by_parts : (word : List ℕ) (end : ℕ) (given : Option Settings) → end ≡ 0 + length (first_part word) → given ≡ settings_of (parts_from word (end + 1))
    → option_and_then (profile_from (take end word)) given ≡ profile_named word
by_parts word end given ends is =
    let long : end ≡ length (first_part word) = omega (arith, ends) in
    let first : take end word ≡ first_part word = ap (λ (k : ℕ). take k word) long ∙ first_taken word in
    (λ t. option_and_then (profile_from (first t)) ((is ∙ ap (λ (k : ℕ). settings_of (parts_from word (k + 1))) long) t)) ∙ sym (named_parts word)

pub returns-in_default-clause-value : goal.returns-in_default-clause-value
returns-in_default-clause-value c =
    ap (option_and_then (profile_from (take c.part_end-end.result c.args.word.now))) (sym c.in_default.is)
    ∙ by_parts c.args.word.now c.part_end-end.result c.settings_from.result c.part_end-end.ensures.end c.settings_from.ensures

pub returns-clause-value : goal.returns-clause-value
returns-clause-value c =
    c.profile_from.ensures
    ∙ ap (option_and_then (profile_from (take c.part_end-end.result c.args.word.now))) (sym c.in-Some.is)
    ∙ by_parts c.args.word.now c.part_end-end.result c.settings_from.result c.part_end-end.ensures.end c.settings_from.ensures

pub returns-clause-listed : goal.returns-clause-listed
returns-clause-listed c = maybe_listed c.profile_from.result c.args.word.now (returns-clause-value c)
