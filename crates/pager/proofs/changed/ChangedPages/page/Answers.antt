use Rattle.std.proofs.Common.{◌≡◌, ◌∙◌, ◌<◌, ℕ, List, Option, Some, None, true, is_some, length, slice_index, sym, ap, subst, rules}
use Rattle.std.proofs.lemmas.List.{get_or_default}
use Rattle.page_cache.specs.Pages.{held_bytes, is_held}
use Rattle.pager.specs.Changed.{Changed, is_listed}
use Rattle.pager.proofs.ChangedLemmas.{is_there, listed_at, never, page_is}
use Rattle.pager.proofs.Filling.{held_sized}
use Rattle.pager.proofs.changed.ChangedPages.page.Goals as goal

pub returns-in-Some-clause-size : goal.returns-in-Some-clause-size
returns-in-Some-clause-size c =
    let n = c.index-n.result.now in
    let held = c.self.inside.cache.held in
    let there : held_bytes n held ≡ Some c.in-Some.page.now = search rules in
    let is : is_held n held ≡ true = sym (is_there n held) ∙ ap (λ (o : Option (List ℕ)). is_some o) there in
    ap (λ (l : List ℕ). length l) (sym (page_is n c.in-Some.page.now held there))
    ∙ held_sized c.self.inside.cache.usable n held is c.is_held-held.ensures.sound.sized
    ∙ ap (λ (v : Changed). v.usable) c.self.view_is

pub returns-in-None-clause-size : goal.returns-in-None-clause-size
returns-in-None-clause-size c =
    let n = c.index-n.result.now in
    let held = c.self.inside.cache.held in
    let numbers = c.self.inside.numbers.items in
    let gone : held_bytes n held ≡ None = search rules in
    let within = subst (λ (v : Changed). c.args.k < length v.numbers) (sym c.self.view_is) c.requires in
    let number : n ≡ slice_index numbers c.args.k = c.index-n.ensures ∙ get_or_default numbers c.args.k n 0 within in
    let listed : is_listed n numbers ≡ true = subst (λ (m : ℕ). is_listed m numbers ≡ true) (sym number) (listed_at c.args.k numbers within) in
    let is : is_held n held ≡ true = sym (c.self.invariant.0.named n) ∙ listed in
    absurd (never (held_bytes n held) gone (is_there n held ∙ is))
