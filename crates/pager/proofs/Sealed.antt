-- Changed pages that are sealed side by side.
use Rattle.std.proofs.Common.{◌≡◌, ◌∙◌, ◌≤◌, ◌+◌, ◌-◌, ◌*◌, ℕ, inl, inr, true, false, List, length, take, drop, IsTrue, sym, ap, subst, arith}
use Rattle.std.specs.Prelude.{All, slice_index}
use Rattle.std.proofs.lemmas.Bool.{cases_lt}
use Rattle.std.proofs.lemmas.List.{drop_at, get_or_default, take-take, take_at}
use Rattle.std.proofs.lemmas.Slice.{between_is}
use Rattle.cipher_profile.specs.Profile.{IsListed, usable}
use Rattle.cipher_profile.specs.declared.profile.Profile.{Profile}
use Rattle.cipher_profile.proofs.Layouts.{IsListed-laid_out}
use Rattle.page_cache.specs.Pages.{is_held}
use Rattle.page_codec.specs.Page.{FileKeys, accepts, opened, sealed}
use Rattle.page_codec.specs.Pages.{nth_page, sealed_page}
use Rattle.pager.specs.Changed.{Changed, IsLaid, IsListing, IsPageSealed, draw_of, is_listed}
use Rattle.pager.specs.Held.{bytes_of_page}
use Rattle.pager.proofs.ChangedLemmas.{listed_at}

-- a page has room for its content and its reserve, and for nothing else
pub listed_whole : (p : Profile) → IsListed p → usable p + p.reserve ≡ p.page_size
listed_whole p listed = let content = (IsListed-laid_out p listed).content in omega (arith, content)

-- where page 1 is not held, it is none of the changed pages
pub from_two : (c : Changed) → IsListing c → is_held 1 c.held ≡ false → All (λ n. 2 ≤ n) c.numbers
from_two c listing others k d less =
    let n : ℕ = slice_index c.numbers k in
    subst (λ (m : ℕ). 2 ≤ m) (sym (get_or_default c.numbers k d 0 less)) (elim (cases_lt 1 n) as (λ _. 2 ≤ n) [
      | inl lt ↦ omega (arith, lt)
      | inr le ↦ absurd (not_first (omega (arith, le, (listing.in_range k less).0)))
    ])
  where
    not_first : slice_index c.numbers k ≡ 1 → ⊥
    not_first same =
        let there : is_listed 1 c.numbers ≡ true = subst (λ (m : ℕ). is_listed m c.numbers ≡ true) same (listed_at k c.numbers less) in
        let held : is_held 1 c.held ≡ true = sym (listing.named 1) ∙ there in
        cc

-- a page that lay where it was sealed is the changed page, sealed with its draw
pub sealed_laid : (keys : FileKeys) (c : Changed) (draws page stored : List ℕ) (k : ℕ) → IsLaid keys c draws k page
    → stored ≡ sealed_page keys (slice_index c.numbers k) page → length stored ≡ keys.profile.page_size
    → IsTrue (accepts keys (slice_index c.numbers k) stored) → opened keys (slice_index c.numbers k) stored ≡ take (usable keys.profile) page
    → IsPageSealed keys c draws k stored
sealed_laid keys c draws page stored k laid is size accepted opens =
    let n : ℕ = slice_index c.numbers k in
    let u : ℕ = usable keys.profile in
    let plain : List ℕ = bytes_of_page n c.held in
    let draw : List ℕ = draw_of keys.profile.reserve draws k in
    let front : take u page ≡ plain = ap (take u) laid.is ∙ take_at plain draw u laid.plain in
    let back : drop u page ≡ draw = ap (drop u) laid.is ∙ drop_at plain draw u laid.plain in
    record {
      is = is ∙ (λ i. sealed keys n (front i) (back i));
      size = size;
      accepted = accepted;
      opens_to = opens ∙ front;
      plain = laid.plain;
    }

-- a page of the front part of the room
page_in_front : (size k many : ℕ) (room pages : List ℕ) → take many room ≡ pages → size * k + size ≤ many → nth_page size room k ≡ nth_page size pages k
page_in_front size k many room pages is within =
    let from : ℕ = size * k in
    let whole : from + size - from ≡ size = omega arith in
    ap (λ (n : ℕ). take n (drop from room)) (sym whole)
    ∙ between_is room from (from + size)
    ∙ ap (drop from) (sym (take-take (from + size) many room within) ∙ ap (take (from + size)) is)
    ∙ sym (between_is pages from (from + size))
    ∙ ap (λ (n : ℕ). take n (drop from pages)) whole
