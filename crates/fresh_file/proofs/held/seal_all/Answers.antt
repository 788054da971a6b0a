use Rattle.std.proofs.Common.{◌≡◌, ◌∙◌, ◌≤◌, ◌+◌, ◌*◌, ℕ, List, length, take, ap, subst, arith}
use Rattle.std.specs.Prelude.{slice_index}
use Rattle.cipher_profile.specs.Profile.{IsListed, usable}
use Rattle.page_codec.specs.Pages.{nth_page, sealed_page}
use Rattle.page_codec.proofs.PageFacts.{ends_by, length-page}
use Rattle.fresh_file.proofs.HeldLaws.{sealed_as}
use Rattle.fresh_file.proofs.held.seal_all.Goals as goal

pub returns-clause-sealed : goal.returns-clause-sealed
returns-clause-sealed c k less =
    let keys = c.args.codec.now in
    let numbers : List ℕ = c.args.numbers.now in
    let room : List ℕ = c.args.room.now in
    let laid : List ℕ = c.copy_from_slice.new.self in
    let stored : List ℕ = c.seal_pages.new.pages in
    let n : ℕ = slice_index numbers k in
    let size : ℕ = keys.profile.page_size in
    let same : laid ≡ room = c.copy_from_slice.ensures.after in
    let ends : size * k + size ≤ size * length numbers = ends_by size k (length numbers) less in
    sealed_as keys n (nth_page size room k) (nth_page size stored k) (subst IsListed c.profile.ensures.value c.profile.ensures.listed) (c.requires.numbers k 0 less)
    (length-page size k room (omega (arith, ends, c.requires.room)))
    (length-page size k stored (omega (arith, ends, c.requires.room, c.requires.size, c.seal_pages.ensures.size, ap (λ (l : List ℕ). length l) same)))
    (c.seal_pages.ensures.value k less ∙ ap (λ (l : List ℕ). sealed_page keys n (nth_page size l k)) same)
    (c.seal_pages.ensures.accepted k less)
    (c.seal_pages.ensures.opens_to k less ∙ ap (λ (l : List ℕ). take (usable keys.profile) (nth_page size l k)) same)
