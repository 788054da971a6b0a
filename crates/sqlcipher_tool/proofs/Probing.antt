-- The profiles that a file is tried with, one after another.
use Rattle.std.proofs.Common.{◌≡◌, ◌+◌, ◌<◌, ℕ, zero, suc, Bool, true, false, List, [], ◌∷◌, length, take, Some, None, refl, ap, sym, subst, ◌∙◌, arith}
use Rattle.std.specs.List.{list_all}
use Rattle.std.specs.Prelude.{◌&&◌, ◌≤◌, not, find, nat_le, slice_get, if◌then◌else◌}
use Rattle.std.proofs.lemmas.Bool.Decides.{nat_tests}
use Rattle.cipher_profile.specs.declared.keys.PageKeys.{PageKeys}
use Rattle.cipher_profile.specs.declared.keys.Secret.{Secret}
use Rattle.cipher_profile.specs.declared.profile.Profile.{Profile}
use Rattle.cipher_profile.specs.Keys.{page_keys}
use Rattle.cipher_profile.specs.Profile.{is_clear}
use Rattle.profile_word.specs.Tried.{probed_profiles}
use Rattle.page_codec.specs.Page.{FileKeys, fits, keys_of, salt_of}
use Rattle.pager.specs.File.{first_page}
use Rattle.btree_model.proofs.UnmarkedLemmas.{and_left, and_right}
use Rattle.sqlcipher_tool.specs.Probe.{first_fitting, fits_file, is_fitting}
use Rattle.sqlcipher_tool.proofs.FirstBytes.{hidden_salt}
use Rattle.sqlcipher_tool.proofs.Numbers.{true_le}

-- a file that is shorter than a page of any profile fits none
beyond : (size len : ℕ) → len < size → nat_le size len ≡ false
beyond size len less = grind (arith, nat_tests)

short_unfit : (secret : Secret) (file : List ℕ) (profile : Profile) → 1024 ≤ profile.page_size → length file < 1024 → is_fitting secret file profile ≡ false
short_unfit secret file profile large short =
    ap (λ (b : Bool). b && fits (keys_of profile secret file) (first_page profile file)) (beyond profile.page_size (length file) (omega (arith, large, short)))

-- keys that were derived for the file's salt are those that are asked of it
pub fits_so : (profile : Profile) (secret : Secret) (salt file mid : List ℕ) (keys : PageKeys) (codec : FileKeys) (found : Bool) → is_clear profile ≡ false
    → codec ≡ record { profile = profile; keys = keys; salt = salt } → keys ≡ page_keys profile secret salt → salt ≡ salt_of file → mid ≡ file
    → found ≡ fits_file codec mid → is_fitting secret file profile ≡ found
fits_so profile secret salt file mid keys codec found hidden made derived its stays is =
    sym (is
    ∙ ap (λ (l : List ℕ). fits_file codec l) stays
    ∙ ap (λ (k : FileKeys). fits_file k file) made
    ∙ ap (λ (k : PageKeys). fits_file (record { profile = profile; keys = k; salt = salt }) file) derived
    ∙ ap (λ (l : List ℕ). fits_file (record { profile = profile; keys = page_keys profile secret l; salt = l }) file) (its ∙ hidden_salt profile file hidden))

module _ (test : Profile → Bool) where
  -- none of the first so many passes, and the next does not either
  none_more : (xs : List Profile) (k : ℕ) (x : Profile) → slice_get xs k ≡ Some x → test x ≡ false → find test (take k xs) ≡ None
      → find test (take (suc k) xs) ≡ None
  none_more [] k x is fails none = refl
  none_more (first ∷ xs) zero x is fails none = next (test first) (ap test (given first x is) ∙ fails)
    where
      given : (a b : Profile) → Some a ≡ Some b → a ≡ b
      given a b same = cc same

      next : (b : Bool) → b ≡ false → (if b then Some first else None) ≡ None
      next true same = cc
      next false same = refl
  none_more (first ∷ xs) (suc k) x is fails none = passed (test first) none (none_more xs k x is fails)
    where
      passed : (b : Bool) → (if b then Some first else find test (take k xs)) ≡ None → (find test (take k xs) ≡ None → find test (take (suc k) xs) ≡ None)
          → (if b then Some first else find test (take (suc k) xs)) ≡ None
      passed true some more = cc
      passed false rest more = more rest

  -- none of the first so many passes, and the next does
  found_here : (xs : List Profile) (k : ℕ) (x : Profile) → slice_get xs k ≡ Some x → test x ≡ true → find test (take k xs) ≡ None
      → find test xs ≡ Some x
  found_here [] k x is passes none = cc
  found_here (first ∷ xs) zero x is passes none = next (test first) (ap test (given first x is) ∙ passes)
    where
      given : (a b : Profile) → Some a ≡ Some b → a ≡ b
      given a b same = cc same

      next : (b : Bool) → b ≡ true → (if b then Some first else find test xs) ≡ Some x
      next true same = is
      next false same = cc
  found_here (first ∷ xs) (suc k) x is passes none = passed (test first) none (found_here xs k x is passes)
    where
      passed : (b : Bool) → (if b then Some first else find test (take k xs)) ≡ None → (find test (take k xs) ≡ None → find test xs ≡ Some x)
          → (if b then Some first else find test xs) ≡ Some x
      passed true some more = cc
      passed false rest more = more rest

  -- none passes
  none_passes : (xs : List Profile) → ((k : ℕ) (x : Profile) → slice_get xs k ≡ Some x → test x ≡ false) → find test xs ≡ None
  none_passes [] fail = refl
  none_passes (first ∷ xs) fail = next (test first) (fail zero first refl) (none_passes xs (λ k x at. fail (suc k) x at))
    where
      next : (b : Bool) → b ≡ false → find test xs ≡ None → (if b then Some first else find test xs) ≡ None
      next true same rest = cc
      next false same rest = rest

  -- what holds of each profile of a list holds of one that stands in it
  all_hold : (xs : List Profile) → list_all test xs ≡ true → (k : ℕ) (x : Profile) → slice_get xs k ≡ Some x → test x ≡ true
  all_hold [] all k x at = cc
  all_hold (first ∷ xs) all zero x at = ap test (sym (given first x at)) ∙ and_left (test first) (list_all test xs) all
    where
      given : (a b : Profile) → Some a ≡ Some b → a ≡ b
      given a b same = cc same
  all_hold (first ∷ xs) all (suc k) x at = all_hold xs (and_right (test first) (list_all test xs) all) k x at

-- ---- the first that fits

-- each of them has pages of 1,024 bytes or more
pub large_each : (k : ℕ) (x : Profile) → slice_get probed_profiles k ≡ Some x → 1024 ≤ x.page_size
large_each k x at = true_le 1024 x.page_size (all_hold (λ (p : Profile). nat_le 1024 p.page_size) probed_profiles refl k x at)

-- and their files begin with a salt
pub hidden_each : (k : ℕ) (x : Profile) → slice_get probed_profiles k ≡ Some x → is_clear x ≡ false
hidden_each k x at = by_plain (is_clear x) (all_hold (λ (p : Profile). not (is_clear p)) probed_profiles refl k x at)
  where
    by_plain : (b : Bool) → not b ≡ true → b ≡ false
    by_plain true is = cc
    by_plain false is = refl

pub none_yet : (secret : Secret) (file : List ℕ) (k : ℕ) (x : Profile) → slice_get probed_profiles k ≡ Some x → is_fitting secret file x ≡ false
    → find (is_fitting secret file) (take k probed_profiles) ≡ None → find (is_fitting secret file) (take (k + 1) probed_profiles) ≡ None
none_yet secret file k x at fails none =
    let next : suc k ≡ k + 1 = omega arith in
    subst (λ (n : ℕ). find (is_fitting secret file) (take n probed_profiles) ≡ None) next (none_more (is_fitting secret file) probed_profiles k x at fails none)

pub fits_first : (secret : Secret) (file : List ℕ) (k : ℕ) (x : Profile) → slice_get probed_profiles k ≡ Some x → is_fitting secret file x ≡ true
    → find (is_fitting secret file) (take k probed_profiles) ≡ None → Some x ≡ first_fitting secret file
unfolding first_fitting
fits_first secret file k x at passes none = sym (found_here (is_fitting secret file) probed_profiles k x at passes none)

pub none_fits : (secret : Secret) (file : List ℕ) (tried : ℕ) → tried ≡ 15 → find (is_fitting secret file) (take tried probed_profiles) ≡ None
    → None ≡ first_fitting secret file
unfolding first_fitting
none_fits secret file tried all none = sym (subst (λ (n : ℕ). find (is_fitting secret file) (take n probed_profiles) ≡ None) all none)

pub short_fits_none : (secret : Secret) (file : List ℕ) → length file < 1024 → None ≡ first_fitting secret file
unfolding first_fitting
short_fits_none secret file short =
    sym (none_passes (is_fitting secret file) probed_profiles (λ k x at. short_unfit secret file x (large_each k x at) short))
