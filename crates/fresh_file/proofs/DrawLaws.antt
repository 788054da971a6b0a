-- The keys of a file with a drawn salt, and what its pages were sealed with after it.
use Rattle.std.proofs.Common.{◌≡◌, inl, inr, ⊎_elim, ◌≤◌, ◌+◌, ◌-◌, ℕ, Bool, List, ◌++◌, length, take, drop, arith, ap, sym, subst, refl, ◌∙◌, length-append}
use Rattle.std.specs.Io.{StartsWith}
use Rattle.std.proofs.Math.Seq.{drop-append-add, drop-append_seam}
use Rattle.std.proofs.lemmas.List.{append_assoc, take-append-drop, take_at}
use Rattle.std.specs.Prelude.{true, false, if◌then◌else◌}
use Rattle.cipher_profile.specs.Profile.{is_clear}
use Rattle.cipher_profile.specs.declared.keys.Secret.{Secret}
use Rattle.cipher_profile.specs.declared.profile.Profile.{Profile}
use Rattle.page_codec.specs.Page.{FileKeys, keys_of, keys_with_salt, magic, salt_of}
use Rattle.fresh_file.specs.Sealed.{IsSealedWith}
use Rattle.pager.specs.File.{whole_pages}
use Rattle.pager.specs.Pages.{is_page_number}
use Rattle.atomic_commit.specs.Draws.{OwnDraws}
use Rattle.fresh_file.specs.Draws.{AreOwnDraws, HasDraws, HasOwnDraws, HasSaltAndDraws}
use Rattle.fresh_file.specs.Salted.{IsSalted}

-- the keys with the salt of a file are that file's
pub keys_are : (profile : Profile) (secret : Secret) (salt file : List ℕ) (keys : FileKeys) → keys ≡ keys_with_salt profile secret salt
    → (is_clear profile ≡ true → salt ≡ magic) → salt_of file ≡ keys.salt → keys ≡ keys_of profile secret file
keys_are profile secret salt file keys is plainly begins =
    is ∙ ap (λ (l : List ℕ). keys_with_salt profile secret l) (by_kind (is_clear profile) refl)
  where
    by_kind : (clear : Bool) → is_clear profile ≡ clear → salt ≡ (if clear then magic else salt_of file)
    by_kind true clear = plainly clear
    by_kind false hidden = sym (begins ∙ ap (λ (k : FileKeys). k.salt) is)

-- what is said under the keys of a file's salt is said under those that the secret gives for it
pub told_as : (profile : Profile) (secret : Secret) (salt : List ℕ) (is_under : FileKeys → List ℕ → Type 0) (keys : FileKeys) → keys ≡ keys_with_salt profile secret salt
    → (is_clear profile ≡ true → salt ≡ magic) → (file : List ℕ) → IsSalted keys (is_under keys) file → is_under (keys_of profile secret file) file
told_as profile secret salt is_under keys is plainly file salted =
    subst (λ (k : FileKeys). is_under k file) (keys_are profile secret salt file keys is plainly salted.salt) salted.is_new

-- ---- draws, without those from before

drop_more : (at : ℕ) (before more : List ℕ) → length before ≤ at → drop at (before ++ more) ≡ drop (at - length before) more
drop_more at before more le =
    let e : at ≡ length before + (at - length before) = omega (arith, le) in
    ap (λ (k : ℕ). drop k (before ++ more)) e ∙ drop-append-add before more (at - length before)

own_after : (reserve from : ℕ) (before more : List ℕ) (sealed : ℕ → Bool) (seals : ℕ → List ℕ → Type 0)
    → OwnDraws reserve (length before + from) (before ++ more) sealed seals → OwnDraws reserve from more sealed seals
own_after reserve from before more sealed seals own = record {
  place = λ n. own.place n - length before;
  later = λ n has. omega (arith, own.later n has);
  within = λ n has. omega (arith, own.later n has, own.within n has, length-append before more);
  is_sealed = λ n has.
      subst (seals n) (ap (λ (l : List ℕ). take reserve l) (drop_more (own.place n) before more (omega (arith, own.later n has)))) (own.is_sealed n has);
  apart = λ m n other has_m has_n.
      ⊎_elim (λ (le : own.place m + reserve ≤ own.place n). inl (omega (arith, le, own.later m has_m, own.later n has_n)))
      (λ (le : own.place n + reserve ≤ own.place m). inr (omega (arith, le, own.later m has_m, own.later n has_n))) (own.apart m n other has_m has_n);
}

-- the salt of a file that holds one was drawn first, and where it holds none nothing was
pub drawn_with : (keys : FileKeys) (file salt before mid after : List ℕ) → length salt ≡ 16 → keys.salt ≡ salt → salt_of file ≡ keys.salt
    → (is_clear keys.profile ≡ false → mid ≡ before ++ salt) → (is_clear keys.profile ≡ true → mid ≡ before) → StartsWith after mid
    → AreOwnDraws keys file (length mid) after → HasOwnDraws keys file (drop (length before) after)
drawn_with keys file salt before mid after long is begins drew bare grown own ciphered = by_kind (is_clear keys.profile) refl
  where
    rest : List ℕ
    rest = drop (length mid) after

    drawn : List ℕ
    drawn = drop (length before) after

    unsalted : mid ≡ before → AreOwnDraws keys file 0 drawn
    unsalted none =
        let mid_long : length mid ≡ length before + 0 = omega (arith, ap (λ (l : List ℕ). length l) none) in
        let after_is : after ≡ before ++ rest = sym (take-append-drop (length mid) after) ∙ ap (λ (l : List ℕ). l ++ rest) (grown ∙ none) in
        let drawn_is : drawn ≡ rest = ap (λ (l : List ℕ). drop (length before) l) after_is ∙ drop-append_seam before rest in
        let all_is : after ≡ before ++ drawn = after_is ∙ ap (λ (l : List ℕ). before ++ l) (sym drawn_is) in
        own_after keys.profile.reserve 0 before drawn (is_page_number (whole_pages keys.profile file)) (IsSealedWith keys file)
        (subst (λ (l : List ℕ). AreOwnDraws keys file (length before + 0) l) all_is (subst (λ (k : ℕ). AreOwnDraws keys file k after) mid_long own))

    salted : mid ≡ before ++ salt → HasSaltAndDraws keys file drawn
    salted first =
        let mid_long : length mid ≡ length before + 16 = omega (arith, long, ap (λ (l : List ℕ). length l) first, length-append before salt) in
        let after_is : after ≡ before ++ (salt ++ rest) =
        sym (take-append-drop (length mid) after) ∙ ap (λ (l : List ℕ). l ++ rest) (grown ∙ first) ∙ append_assoc before salt rest in
        let drawn_is : drawn ≡ salt ++ rest = ap (λ (l : List ℕ). drop (length before) l) after_is ∙ drop-append_seam before (salt ++ rest) in
        let all_is : after ≡ before ++ drawn = after_is ∙ ap (λ (l : List ℕ). before ++ l) (sym drawn_is) in
        record {
          enough = omega (arith, long, ap (λ (l : List ℕ). length l) drawn_is, length-append salt rest);
          salt = begins ∙ is ∙ sym (ap (λ (l : List ℕ). take 16 l) drawn_is ∙ take_at salt rest 16 long);
          pages = own_after keys.profile.reserve 16 before drawn (is_page_number (whole_pages keys.profile file)) (IsSealedWith keys file)
              (subst (λ (l : List ℕ). AreOwnDraws keys file (length before + 16) l) all_is (subst (λ (k : ℕ). AreOwnDraws keys file k after) mid_long own));
        }

    by_kind : (clear : Bool) → is_clear keys.profile ≡ clear → HasDraws clear keys file drawn
    by_kind true clear = unsalted (bare clear)
    by_kind false hidden = salted (drew hidden)

-- a file that is that one begins with its salt
pub salt_is : (keys : FileKeys) (is_new : List ℕ → Type 0) (main file : List ℕ) → main ≡ file → IsSalted keys is_new file → salt_of main ≡ keys.salt
salt_is keys is_new main file is salted = ap (λ (l : List ℕ). salt_of l) is ∙ salted.salt
