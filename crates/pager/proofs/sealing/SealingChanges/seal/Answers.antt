use Rattle.std.proofs.Common.{◌≡◌, ℕ, true, take, ap, sym, subst, ◌∙◌}
use Rattle.std.specs.Prelude.{slice_index}
use Rattle.page_cache.specs.Pages.{is_held}
use Rattle.pager.specs.Changed.{is_listed}
use Rattle.pager.specs.Held.{bytes_of_page}
use Rattle.pager.proofs.ChangedLemmas.{listed_at}
use Rattle.pager.proofs.sealing.SealingChanges.seal.Goals as goal

pub seal_page-requires-clause-magic : goal.seal_page-requires-clause-magic
seal_page-requires-clause-magic c = λ one ciphered.
    let changed = c.args.self.now.changed.now in
    let is : slice_index changed.numbers c.args.k ≡ 1 = sym c.number-n.ensures.value ∙ one in
    let held : is_held 1 changed.held ≡ true =
    sym (c.number-n.ensures.listing.named 1)
    ∙ subst (λ (m : ℕ). is_listed m changed.numbers ≡ true) is (listed_at c.args.k changed.numbers c.requires.index) in
    ap (take 16) c.page.ensures.value
    ∙ ap (λ (m : ℕ). take 16 (bytes_of_page m changed.held)) is
    ∙ c.args.self.now.begins ciphered held
