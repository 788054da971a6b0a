-- What a transaction left that sealed pages anew, page 1 with the header that it had: all pages are there, the first bytes stay, and a
-- length counts as many pages as before.
use Rattle.std.proofs.Common.{◌≡◌, ℕ, ◌-◌, ◌*◌, ◌≤◌, ◌&&◌, Bool, true, false, List, length, take, drop, None, Result, if◌then◌else◌, refl, sym, ap, subst, ◌∙◌, arith, length-take}
use Rattle.std.specs.Prelude.{nat_lt}
use Rattle.std.proofs.lemmas.List.{take-take}
use Rattle.cipher_profile.specs.Profile.{IsLaidOut, is_plain}
use Rattle.cipher_profile.specs.declared.profile.Profile.{Profile}
use Rattle.db_format.specs.Header.{header_read_as}
use Rattle.db_format.specs.declared.header.Header.{Header}
use Rattle.db_format.specs.declared.header.HeaderRefusal.{HeaderRefusal}
use Rattle.page_codec.specs.Page.{FileKeys, opened, salt_of}
use Rattle.page_codec.proofs.Parts.{opened_plain_file}
use Rattle.page_codec.proofs.Salt.{salt_stands}
use Rattle.pager.specs.Base.{base_of}
use Rattle.pager.specs.Changed.{same_layout}
use Rattle.pager.specs.Database.{count_by, counted}
use Rattle.pager.specs.File.{page_stored}
use Rattle.pager.specs.Pages.{is_page_number}
use Rattle.pager.specs.UnderWay.{HasNewPages}
use Rattle.pager.proofs.BatchLemmas.{number_is}
use Rattle.pager.proofs.Cutting.{last_whole, one_page, page_whole}
use Rattle.pager.proofs.Headers.{header_same}
use Rattle.pager.proofs.TxnLemmas.{layout_same, setting_same}
use Rattle.atomic_commit.specs.Database.{stored_page}
use Rattle.atomic_commit.specs.Draws.{drawn_at}

-- a file that is plain under the new keys was so under the old ones: an encrypted page has a reserve
pub plain_alike : (read write : Profile) → IsLaidOut read → IsLaidOut write → (write.page_size ≡ read.page_size) × (write.reserve ≡ read.reserve)
    → is_plain write ≡ true → is_plain read ≡ true
plain_alike read write read_laid write_laid same plain = by_kind (is_plain read) refl
  where
    by_kind : (b : Bool) → is_plain read ≡ b → b ≡ true
    by_kind true is = refl
    by_kind false ciphered = absurd (omega (arith, read_laid.room ciphered, read_laid.whole, write_laid.unreserved plain, same.1))

-- the first bytes of a file are those of its page 1
pub starts : (size : ℕ) (file : List ℕ) → 16 ≤ size → take 16 file ≡ take 16 (stored_page size 1 file)
starts size file within =
    sym (take-take 16 size file within)
    ∙ ap (λ (at : ℕ). take 16 (take size (drop at file))) {x = 0} {y = (1 - 1) * size} (omega arith)

-- The pages that were touched are sealed under the new keys. Page 1 is one of them, and keeps its header, or the new keys are the old ones.
module _ (keys write : FileKeys) (count : ℕ) (old : List ℕ) (touched : ℕ → Bool) (plain : ℕ → List ℕ) (tells : Bool) (before after main : List ℕ)
    (layout : same_layout keys write ≡ true) (some : 1 ≤ count) (room : 100 ≤ keys.profile.page_size) (long : count * keys.profile.page_size ≤ length old)
    (laid_out : IsLaidOut write.profile)
    (kept : touched 1 ≡ true → take 100 (plain 1) ≡ take 100 (opened keys 1 (page_stored keys old 1))) (same : touched 1 ≡ false → write ≡ keys)
    (has : HasNewPages (record { base = base_of keys old count; drawn = before }) write touched plain tells after main) where
  size_is : (write.profile.page_size ≡ keys.profile.page_size) × (write.profile.reserve ≡ keys.profile.reserve)
  size_is = layout_same keys write layout

  first : is_page_number count 1 ≡ true
  first = number_is count 1 (omega arith) some

  pub main_long : count * keys.profile.page_size ≤ length main
  main_long =
      subst (λ (s : ℕ). count * s ≤ length main) size_is.0
      (last_whole count write.profile.page_size main some (omega (arith, size_is.0, room)) (by_touch (touched count) refl))
    where
      last : is_page_number count count ≡ true
      last = number_is count count some (omega arith)

      by_touch : (b : Bool) → touched count ≡ b → length (page_stored write main count) ≡ write.profile.page_size
      by_touch true is = has.whole count last is
      by_touch false is =
          ap length (has.others count last is)
          ∙ page_whole count write.profile.page_size old some (subst (λ (s : ℕ). count * s ≤ length old) (sym size_is.0) long)

  -- page 1 of an encrypted file, sealed anew, begins with the new codec's salt
  pub new_salt : length write.salt ≡ 16 → is_plain write.profile ≡ false → touched 1 ≡ true → take 16 main ≡ write.salt
  new_salt salt_long ciphered anew =
      starts write.profile.page_size main (omega (arith, size_is.0, room))
      ∙ ap (take 16) (has.own.is_sealed 1 (ap (λ (b : Bool). b && touched 1) first ∙ anew))
      ∙ salt_stands write (plain 1) (drawn_at write.profile.reserve (has.own.place 1) has.draws) laid_out ciphered salt_long

  -- so a file that began with it begins with it still; of a plain one the first bytes are in the header
  pub main_salt : (is_plain write.profile ≡ false → write.salt ≡ salt_of old) → (is_plain write.profile ≡ true → is_plain keys.profile ≡ true) → take 16 main ≡ salt_of old
  main_salt salt alike = by_touch (touched 1) refl
    where
      salt_long : length (salt_of old) ≡ 16
      salt_long = let each = one_page count keys.profile.page_size some in omega (arith, length-take 16 old, each, room, long)

      begins : take 16 main ≡ take 16 (page_stored write main 1)
      begins = starts write.profile.page_size main (omega (arith, size_is.0, room))

      old_starts : take 16 (page_stored keys old 1) ≡ salt_of old
      old_starts = sym (starts keys.profile.page_size old (omega (arith, room)))

      shorter : (l : List ℕ) → take 16 (take 100 l) ≡ take 16 l
      shorter l = take-take 16 100 l (omega arith)

      by_kind : (b : Bool) → is_plain write.profile ≡ b → touched 1 ≡ true → take 16 main ≡ salt_of old
      by_kind true is anew =
          begins ∙ ap (take 16) (sym (opened_plain_file write 1 (page_stored write main 1) is) ∙ has.opens 1 first anew)
          ∙ sym (shorter (plain 1)) ∙ ap (take 16) (kept anew) ∙ shorter (opened keys 1 (page_stored keys old 1))
          ∙ ap (take 16) (opened_plain_file keys 1 (page_stored keys old 1) (alike is)) ∙ old_starts
      by_kind false ciphered anew = new_salt (ap length (salt ciphered) ∙ salt_long) ciphered anew ∙ salt ciphered

      by_touch : (b : Bool) → touched 1 ≡ b → take 16 main ≡ salt_of old
      by_touch true anew = by_kind (is_plain write.profile) refl anew
      by_touch false is = begins ∙ ap (take 16) (has.others 1 first is) ∙ sym (starts write.profile.page_size old (omega (arith, size_is.0, room)))

  pub counts_same : (len : ℕ) → count_by write (page_stored write main 1) len ≡ count_by keys (page_stored keys old 1) len
  counts_same len = by_touch (touched 1) refl
    where
      new_first : List ℕ
      new_first = opened write 1 (page_stored write main 1)

      by_touch : (b : Bool) → touched 1 ≡ b → count_by write (page_stored write main 1) len ≡ count_by keys (page_stored keys old 1) len
      by_touch true anew =
          ap (λ (s : ℕ). if nat_lt len s then None else counted len (header_read_as write.profile.reads_log new_first s write.profile.reserve)) size_is.0
          ∙ ap (λ (r : ℕ). if nat_lt len keys.profile.page_size then None else counted len (header_read_as write.profile.reads_log new_first keys.profile.page_size r)) size_is.1
          ∙ ap (λ (b : Bool). if nat_lt len keys.profile.page_size then None else counted len (header_read_as b new_first keys.profile.page_size keys.profile.reserve)) (setting_same keys write layout)
          ∙ ap (λ (h : Result Header HeaderRefusal). if nat_lt len keys.profile.page_size then None else counted len h)
          (header_same new_first (opened keys 1 (page_stored keys old 1)) (ap (take 100) (has.opens 1 first anew) ∙ kept anew) keys.profile.reads_log keys.profile.page_size keys.profile.reserve)
      by_touch false is =
          ap (λ (page : List ℕ). count_by write page len) (has.others 1 first is)
          ∙ ap (λ (k : FileKeys). count_by k (page_stored k old 1) len) (same is)
