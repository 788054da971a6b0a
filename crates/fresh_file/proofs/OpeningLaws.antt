-- A finished file opens, with the header that was written, and has the pages that were put.
use Rattle.std.proofs.Common.{◌≡◌, ◌≤◌, ◌-◌, ◌*◌, ◌^◌, ◌==◌, ℕ, Bool, true, false, List, [], ◌∷◌, ◌++◌, length, take, drop, Option, Some, Ok, arith, rules, ap, refl, sym, subst, ◌∙◌}
use Rattle.std.specs.Prelude.{◌&&◌, ◌||◌, IsTrue, nat_lt, if◌then◌else◌}
use Rattle.std.specs.Int.{w16, to_be_bytes}
use Rattle.std.specs.Str.{bytes_eq}
use Rattle.std.proofs.Math.Nat.{div-eq_of_eq-mul_left, div-mul-le_self, mul-le-mul_right}
use Rattle.std.proofs.lemmas.Bool.Decides.{nat_tests}
use Rattle.std.proofs.lemmas.List.{take-take}
use Rattle.std.proofs.lemmas.Slice.Eq.{bytes_eq-Decides}
use Rattle.bulk_load.specs.Headed.{IsHeaded}
use Rattle.cipher_profile.specs.Profile.{IsListed, is_clear, is_plain, usable}
use Rattle.cipher_profile.specs.declared.profile.Profile.{Profile}
use Rattle.db_format.specs.Count.{count_of_pages, largest_database, size_counts}
use Rattle.db_format.specs.Header.{header_bytes, header_read, stored_page_size}
use Rattle.db_format.specs.Pages.{Pages}
use Rattle.db_format.specs.declared.header.Header.{Header}
use Rattle.db_format.proofs.HeaderLemmas.{header_read-as}
use Rattle.page_codec.specs.Page.{FileKeys, accepts, bears_sign, begins_with_magic, fits, magic, opened}
use Rattle.page_codec.proofs.Parts.{opened_plain_file}
use Rattle.pager.specs.File.{first_page, page_stored, whole_pages}
use Rattle.pager.specs.Opening.{file_header, file_opened}
use Rattle.pager.specs.Pages.{is_page_number, opened_pages}
use Rattle.pager.proofs.BatchLemmas.{number_is}
use Rattle.pager.proofs.TxnLemmas.{listed_large}
use Rattle.atomic_commit.specs.Draws.{OwnDraws}
use Rattle.fresh_file.specs.Draws.{AreOwnDraws}
use Rattle.fresh_file.specs.Fresh.{IsFinished, fresh_contents, sized_page}
use Rattle.fresh_file.specs.Sealed.{IsSealedWith}
use Rattle.fresh_file.specs.State.{most_pages}
use Rattle.fresh_file.proofs.HeadedLaws.{finished_headed}

-- ---- tests

count_is : (h : Header) (len : ℕ) → size_counts h ≡ true → nat_lt largest_database (h.size_field * h.page_size) ≡ false
    → nat_lt len (h.size_field * h.page_size) ≡ false → count_of_pages h len ≡ Ok h.size_field
count_is h len counts small whole = rw (counts, small, whole) refl

opens_by : (keys : FileKeys) (file : List ℕ) (h : Header) (n : ℕ) → (length file == 0) ≡ false → nat_lt (length file) keys.profile.page_size ≡ false
    → fits keys (first_page keys.profile file) ≡ true → file_header keys file ≡ Ok h → count_of_pages h (length file) ≡ Ok n
    → file_opened keys file ≡ Ok (record { header = h; count = n })
opens_by keys file h n some long fit read counts = rw (some, long, fit, read, counts) refl

counted : (h : Header) → 1 ≤ h.size_field → h.change ≡ h.valid_for → size_counts h ≡ true
counted h one same = grind (arith, nat_tests, one, same)

not_below : (a b : ℕ) → b ≤ a → nat_lt a b ≡ false
not_below a b le = search (rules, le)

not_none : (n : ℕ) → 1 ≤ n → (n == 0) ≡ false
not_none n one = grind (arith, nat_tests, one)

yes : {A : Type 0} (b : Bool) (x y : A) → b ≡ true → (if b then x else y) ≡ x
yes true x y is = refl
yes false x y is = cc

both : (a b : Bool) → a ≡ true → b ≡ true → (a && b) ≡ true
both a b is too = cc

-- ---- a header in front of any rest of page 1

-- it is read as it is alone
read_in_front : (h : Header) (rest : List ℕ) (size reserve : ℕ) → header_read (header_bytes h ++ rest) size reserve ≡ header_read (header_bytes h) size reserve
read_in_front h rest size reserve = refl

-- what says that these are pages of a profile
sign_of : Profile → ℕ → ℕ → Bool
sign_of profile size reserve =
    bytes_eq (to_be_bytes w16 (stored_page_size size)) (to_be_bytes w16 (stored_page_size profile.page_size))
    && bytes_eq (reserve ∷ 64 ∷ 32 ∷ 32 ∷ []) (profile.reserve ∷ 64 ∷ 32 ∷ 32 ∷ [])

sign_in_front : (profile : Profile) (h : Header) (rest : List ℕ) → bears_sign profile (header_bytes h ++ rest) ≡ sign_of profile h.page_size h.reserve
unfolding sign_of
sign_in_front profile h rest = refl

same_bytes : (xs : List ℕ) → bytes_eq xs xs ≡ true
same_bytes xs = (bytes_eq-Decides xs xs).1 refl

own_sign : (profile : Profile) → sign_of profile profile.page_size profile.reserve ≡ true
unfolding sign_of
own_sign profile = both _ _ (same_bytes (to_be_bytes w16 (stored_page_size profile.page_size))) (same_bytes (profile.reserve ∷ 64 ∷ 32 ∷ 32 ∷ []))

-- the header is that of a file of this profile
pub record IsHeaderFor (profile : Profile) (header : Header) : Type 0 where
  pub page_size : header.page_size ≡ profile.page_size
  pub reserve : header.reserve ≡ profile.reserve
  pub counts : header.change ≡ header.valid_for

-- the key fits an encrypted file by the tag, or by the sign of a profile without tags
abbrev Fits : Header → List ℕ → Bool → Profile → Type 0
Fits header rest accepted profile =
    is_plain profile ≡ false → IsHeaderFor profile header → (if profile.tag_len == 0 then bears_sign profile (header_bytes header ++ rest) else accepted) ≡ true

signed : (profile : Profile) (header : Header) (rest : List ℕ) → header.page_size ≡ profile.page_size → header.reserve ≡ profile.reserve
    → bears_sign profile (header_bytes header ++ rest) ≡ true
signed profile header rest size reserve =
    sign_in_front profile header rest ∙ ap (λ (n : ℕ). sign_of profile n header.reserve) size ∙ ap (sign_of profile profile.page_size) reserve ∙ own_sign profile

key_fits : (header : Header) (rest : List ℕ) (accepted : Bool) (profile : Profile) → accepted ≡ true → Fits header rest accepted profile
key_fits header rest accepted profile yes = λ ciphered for. by_tag (profile.tag_len == 0) for
  where
    by_tag : (none : Bool) → IsHeaderFor profile header → (if none then bears_sign profile (header_bytes header ++ rest) else accepted) ≡ true
    by_tag true for = signed profile header rest for.page_size for.reserve
    by_tag false for = yes

-- a file with a plain header is one whose page 1 begins as it is stored
clear_headed : (profile : Profile) → nat_lt 0 profile.plain_header ≡ true → is_clear profile ≡ true
clear_headed profile some = by_plain (is_plain profile)
  where
    by_plain : (b : Bool) → (b || nat_lt 0 profile.plain_header) ≡ true
    by_plain true = refl
    by_plain false = some

-- a plain file by the magic, with which each header begins
magic_in_front : (h : Header) (rest : List ℕ) → bytes_eq (take 16 (header_bytes h ++ rest)) magic ≡ true
magic_in_front h rest = refl

-- ---- the pages of a finished file

module _ (keys : FileKeys) (header : Header) (start : ℕ) (pages : Pages) (draws_tell : Bool) (fresh : Option (List ℕ)) (drawn : List ℕ) (listed : IsListed keys.profile)
    (done : IsFinished keys header pages start draws_tell fresh drawn) (one : 1 ≤ pages.count) where
  abbrev file : List ℕ
  file = done.file

  abbrev count : ℕ
  count = pages.count

  abbrev new_header : Header
  new_header = sized_page header count

  abbrev head : List ℕ
  head = header_bytes new_header

  abbrev rest : List ℕ
  rest = drop (length head) (pages.page 1)

  abbrev plain_1 : List ℕ
  plain_1 = opened keys 1 (page_stored keys file 1)

  size : 512 ≤ keys.profile.page_size
  size = listed_large keys.profile listed

  first : plain_1 ≡ head ++ rest
  first = done.first

  pub accepted : (n : ℕ) → is_page_number count n ≡ true → accepts keys n (page_stored keys file n) ≡ true
  accepted n is = (done.sealed n is).1.accepted

  one_is : is_page_number count 1 ≡ true
  one_is = number_is count 1 (omega arith) one

  module _ (for : IsHeaderFor keys.profile header) (read : header_read (header_bytes (sized_page header pages.count)) header.page_size header.reserve ≡ Ok (sized_page header pages.count))
      (most : pages.count ≤ most_pages keys.profile) where
    fit : fits keys (page_stored keys file 1) ≡ true
    fit = by_kind (is_plain keys.profile) refl
      where
        stored : List ℕ
        stored = page_stored keys file 1

        stored_starts : take 16 stored ≡ take 16 file
        stored_starts =
            ap (λ (at : ℕ). take 16 (take keys.profile.page_size (drop at file))) {x = (1 - 1) * keys.profile.page_size} {y = 0} (omega arith)
            ∙ take-take 16 keys.profile.page_size file (omega (arith, size))

        by_header : (headed : Bool) → nat_lt 0 keys.profile.plain_header ≡ headed
            → (if headed then begins_with_magic stored && accepts keys 1 stored else accepts keys 1 stored) ≡ true
        by_header true some =
            both (begins_with_magic stored) (accepts keys 1 stored)
            (ap (λ (l : List ℕ). bytes_eq l magic) (stored_starts ∙ done.clear (clear_headed keys.profile some)) ∙ same_bytes magic)
            (accepted 1 one_is)
        by_header false none = accepted 1 one_is

        by_kind : (plain : Bool) → is_plain keys.profile ≡ plain
            → (if plain then begins_with_magic stored else (if keys.profile.tag_len == 0 then bears_sign keys.profile (opened keys 1 stored)
            else (if nat_lt 0 keys.profile.plain_header then begins_with_magic stored && accepts keys 1 stored else accepts keys 1 stored))) ≡ true
        by_kind true plain =
            ap (λ (l : List ℕ). bytes_eq (take 16 l) magic) (sym (opened_plain_file keys 1 stored plain) ∙ first) ∙ magic_in_front new_header rest
        by_kind false ciphered =
            ap (λ (l : List ℕ). if keys.profile.tag_len == 0 then bears_sign keys.profile l
            else (if nat_lt 0 keys.profile.plain_header then begins_with_magic stored && accepts keys 1 stored else accepts keys 1 stored)) first
            ∙ key_fits new_header rest (if nat_lt 0 keys.profile.plain_header then begins_with_magic stored && accepts keys 1 stored else accepts keys 1 stored)
            keys.profile (by_header (nat_lt 0 keys.profile.plain_header) refl) ciphered
            (record { page_size = for.page_size; reserve = for.reserve; counts = for.counts })

    is_read : file_header keys file ≡ Ok new_header
    is_read =
        header_read-as keys.profile.reads_log plain_1 keys.profile.page_size keys.profile.reserve new_header (
        ap (λ (l : List ℕ). header_read l keys.profile.page_size keys.profile.reserve) first
        ∙ read_in_front new_header rest keys.profile.page_size keys.profile.reserve
        ∙ ap (λ (n : ℕ). header_read head n keys.profile.reserve) (sym for.page_size)
        ∙ ap (λ (n : ℕ). header_read head header.page_size n) (sym for.reserve)
        ∙ read)

    bytes_few : count * keys.profile.page_size ≤ 2 ^ 30
    bytes_few = omega (arith, mul-le-mul_right keys.profile.page_size most, div-mul-le_self (2 ^ 30) keys.profile.page_size)

    sized_few : count * new_header.page_size ≡ count * keys.profile.page_size
    sized_few = ap (λ (n : ℕ). count * n) for.page_size

    pub opens : file_opened keys file ≡ Ok (record { header = sized_page header pages.count; count = pages.count })
    opens =
        let long : keys.profile.page_size ≤ length file = omega (arith, (done.sealed 1 one_is).1.whole) in
        opens_by keys file new_header count
        (not_none (length file) (omega (arith, long, size)))
        (not_below (length file) keys.profile.page_size long)
        fit is_read
        (count_is new_header (length file) (counted new_header one for.counts)
        (not_below largest_database (count * new_header.page_size) (omega (arith, bytes_few, sized_few)))
        (not_below (length file) (count * new_header.page_size) (omega (arith, done.size, sized_few))))

  -- as the pages that were put, with the header in front of page 1
  module _ (usable_is : pages.usable ≡ usable keys.profile) where
    abbrev file_pages : Pages
    file_pages = opened_pages keys file count

    is_lent : (n : ℕ) → is_page_number count n ≡ true → IsTrue (accepts keys n (page_stored keys file n)) → file_pages.accepts n ≡ true
    is_lent n is accepted = both (is_page_number count n) (accepts keys n (page_stored keys file n)) is accepted

    pub is_headed : IsHeaded (header_bytes (sized_page header pages.count)) pages (opened_pages keys done.file pages.count)
    is_headed =
        finished_headed keys header pages start draws_tell fresh drawn done file_pages one refl (sym usable_is)
        (λ n is. yes (is_page_number count n) (opened keys n (page_stored keys file n)) [] is) is_lent

  -- and what they were sealed with
  whole : whole_pages keys.profile file ≡ count
  whole = div-eq_of_eq-mul_left (omega (arith, size)) done.size

  pub own_draws : IsTrue draws_tell → (there : List ℕ) → fresh ≡ Some there → AreOwnDraws keys there start drawn
  own_draws tell there is =
      subst (λ (l : List ℕ). AreOwnDraws keys l start drawn) (same_file (sym done.is ∙ is))
      (subst (λ (n : ℕ). OwnDraws keys.profile.reserve start drawn (is_page_number n) (IsSealedWith keys file)) (sym whole) (done.own tell))
    where
      same_file : Some file ≡ Some there → file ≡ there
      same_file same = ap fresh_contents same
