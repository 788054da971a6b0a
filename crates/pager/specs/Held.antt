-- What the frames of a pager hold. A frame has the length of a stored page, and the plain page is in front, in place of the ciphertext.
use Rattle.std.specs.Prelude.{ℕ, ◌≡◌, true, List, [], ◌∷◌, ◌⊎◌, length, take, unwrap_or, None, Some}
use Rattle.std.specs.List.{AllByRecursion, AllByRecursion-prop}
use Rattle.std.proofs.Props.{props}
use Rattle.cipher_profile.specs.declared.profile.Profile.{Profile}
use Rattle.cipher_profile.specs.Profile.{usable}
use Rattle.page_codec.specs.Page.{FileKeys, accepts, opened}
use Rattle.page_cache.specs.Pages.{Page, HeldPages, held_page, held_bytes, pins_at, last_unpinned, without, fresh_frame}
use Rattle.pager.specs.File.{page_stored}

-- a held page is accepted, and its plain page is in front
pub record IsPageOpened (keys : FileKeys) (file : List ℕ) (page : Page) : Type 0 where
  pub accepted : accepts keys page.number (page_stored keys file page.number) ≡ true
  pub plain : take (usable keys.profile) page.bytes ≡ opened keys page.number (page_stored keys file page.number)

-- each held page is
abbrev pub AreOpened : FileKeys → List ℕ → List Page → Type 0
AreOpened keys file held = AllByRecursion (IsPageOpened keys file) held

-- it has one proof at most
pub AreOpened-prop : (keys : FileKeys) (file : List ℕ) (held : List Page) → IsProp (AreOpened keys file held)
AreOpened-prop keys file held = AllByRecursion-prop (IsPageOpened keys file) (λ page. hlevel props) held

-- the bytes of page n, none where it is not held
abbrev pub bytes_of_page : ℕ → List Page → List ℕ
bytes_of_page n held = unwrap_or (held_bytes n held) []

-- the plain page n, which is in front of its frame, none where it is not held
abbrev pub plain_of_page : Profile → ℕ → List Page → List ℕ
plain_of_page profile n held = take (usable profile) (bytes_of_page n held)

-- how often each page is pinned
abbrev pub pins_of : List Page → ℕ → ℕ
pins_of held n = pins_at n held

-- every frame holds a page with a pin
pub record IsAllPinned (cache : HeldPages) : Type 0 where
  pub full : length cache.held ≡ cache.frames
  pub pinned : last_unpinned cache.held ≡ None

-- page n has a frame of zeros, and at most one other page has left, which had no pin
pub record HasRoom (n : ℕ) (old new : HeldPages) : Type 0 where
  pub rest : List Page
  pub placed : new ≡ record old { held = fresh_frame n old.usable ∷ rest }
  pub others : (rest ≡ old.held) ⊎ ((victim : ℕ) × (last_unpinned old.held ≡ Some victim) × (rest ≡ without victim old.held))
  pub absent : held_page n rest ≡ None
