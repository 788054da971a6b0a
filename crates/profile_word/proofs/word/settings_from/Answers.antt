use Rattle.std.proofs.Common.{◌∙◌, ◌+◌, ◌-◌, List, ℕ, take, drop, ap, sym, arith}
use Rattle.std.specs.Option.{option_and_then}
use Rattle.profile_word.specs.Parts.{parts_from}
use Rattle.profile_word.proofs.Gathering.{none_before, none_left, one_given, one_refused, with_parts}
use Rattle.profile_word.proofs.PartLaws.{parts_here, parts_over}
use Rattle.profile_word.proofs.word.settings_from.Goals as goal

pub parts-init : goal.parts-init
parts-init c = record { within = c.requires; same = none_before (parts_from c.args.word.now c.args.from) }

pub returns-in_default : goal.returns-in_default
returns-in_default c =
    let word = c.args.word.now in
    let end = c.part_end-end.result in
    let s = c.parts.settings in
    sym (one_refused (take (end - c.parts.at) (drop c.parts.at word)) (parts_from word (end + 1)) s (sym c.setting_of.ensures ∙ c.in_default.is))
    ∙ sym (ap (λ (l : List (List ℕ)). with_parts l s) (parts_here word c.parts.at end (omega (arith, c.parts-test.true)) c.part_end-end.ensures.end))
    ∙ c.parts.invariant.same

pub returns-in_default-with_setting : goal.returns-in_default-with_setting
returns-in_default-with_setting c =
    let word = c.args.word.now in
    let end = c.part_end-end.result in
    let s = c.parts.settings in
    let later = parts_from word (end + 1) in
    sym (ap (option_and_then (with_parts later)) (sym c.with_setting.ensures ∙ c.in_default-with_setting.is))
    ∙ sym (one_given (take (end - c.parts.at) (drop c.parts.at word)) later s c.in-Some.setting (sym c.setting_of.ensures ∙ c.in-Some.is))
    ∙ sym (ap (λ (l : List (List ℕ)). with_parts l s) (parts_here word c.parts.at end (omega (arith, c.parts-test.true)) c.part_end-end.ensures.end))
    ∙ c.parts.invariant.same

pub parts-preserved : goal.parts-preserved
parts-preserved c =
    let word = c.args.word.now in
    let end = c.part_end-end.result in
    let s = c.parts.settings in
    let later = parts_from word (end + 1) in
    record {
      within = omega (arith, c.part_end-end.ensures.within);
      same = sym (ap (option_and_then (with_parts later)) (sym c.with_setting.ensures ∙ c.in-Some-with_setting.is))
          ∙ sym (one_given (take (end - c.parts.at) (drop c.parts.at word)) later s c.in-Some.setting (sym c.setting_of.ensures ∙ c.in-Some.is))
          ∙ sym (ap (λ (l : List (List ℕ)). with_parts l s) (parts_here word c.parts.at end (omega (arith, c.parts-test.true)) c.part_end-end.ensures.end))
          ∙ c.parts.invariant.same;
    }

pub returns : goal.returns
returns c =
    let s = c.parts.settings in
    sym (none_left s)
    ∙ sym (ap (λ (l : List (List ℕ)). with_parts l s) (parts_over c.args.word.now c.parts.at (omega (arith, c.parts-test.false))))
    ∙ c.parts.invariant.same
