-- What a transaction leaves that changed page 1, and pages of a test beside it.
use Rattle.std.proofs.Common.{◌≡◌, ◌⊎◌, ⊎_elim, inl, inr, ◌==◌, ◌≤◌, ◌<◌, ◌+◌, ◌-◌, ◌*◌, ◌^◌, ◌++◌, ℕ, suc, zero, Bool, true, false, IsTrue, List, length, take, drop, Some, Result, Ok, refl, sym, ap, subst, ◌∙◌, arith, rules, length-append, length-take, length-drop}
use Rattle.std.proofs.lemmas.List.{length-take-le}
use Rattle.std.specs.Cmp.Derive.{both_true}
use Rattle.std.specs.Int.{w32, to_be_bytes}
use Rattle.cipher_profile.specs.Profile.{IsListed, is_plain, usable}
use Rattle.cipher_profile.proofs.Layouts.{IsListed-laid_out}
use Rattle.cipher_profile.specs.declared.profile.Profile.{Profile}
use Rattle.db_format.specs.Bytes.{u32_at}
use Rattle.db_format.specs.Count.{count_of_pages, largest_database}
use Rattle.db_format.specs.Header.{header_fields, header_read_as}
use Rattle.db_format.specs.declared.header.Header.{Header}
use Rattle.db_format.specs.declared.header.HeaderRefusal.{HeaderRefusal}
use Rattle.page_codec.specs.Page.{FileKeys, accepts, opened, salt_of}
use Rattle.pager.specs.Changed.{with_bytes}
use Rattle.pager.specs.Database.{count_by, counted, ok_count}
use Rattle.pager.specs.File.{page_stored}
use Rattle.pager.specs.Pages.{is_page_number}
use Rattle.pager.specs.UnderWay.{HasNewPages}
use Rattle.pager.proofs.BatchLemmas.{number_is}
use Rattle.pager.proofs.Resealed.{starts}
use Rattle.page_codec.proofs.Parts.{opened_plain_file}
use Rattle.page_codec.proofs.Salt.{salt_stands}
use Rattle.rekey_job.specs.Draws.{FileDraws}
use Rattle.sqlcipher_tool.specs.FirstPage.{IsFirstChanged, IsHarmless, changed_page, next_change, with_field}
use Rattle.sqlcipher_tool.proofs.Databases.{counted_pages, start_of}
use Rattle.sqlcipher_tool.proofs.FileDraws.{file_draws}
use Rattle.sqlcipher_tool.proofs.FirstBytes.{changed_first}
use Rattle.sqlcipher_tool.proofs.OpenedParts.{IsOpen, header_size, open_count}
use Rattle.sqlcipher_tool.proofs.ChangedFields.{bytes_length, changed_count, changed_read}

-- ---- lengths

pub short_stays : (at : ℕ) (bytes page : List ℕ) → at + length bytes ≤ 96 → length page < 100 → length (with_bytes at bytes page) < 100
short_stays at bytes page to short = omega (
  arith,
  short,
  to,
  length-append (take at page) (bytes ++ drop (at + length bytes) page),
  length-append bytes (drop (at + length bytes) page),
  length-take at page,
  length-drop (at + length bytes) page,
)

order : (a b : ℕ) → (a < b) ⊎ (b ≤ a)
order a b = search arith

pub short_or_long : (page : List ℕ) → (length page < 100) ⊎ (100 ≤ length page)
short_or_long page = order (length page) 100

-- a page is long that was changed to a long one
pub long_before : (at : ℕ) (bytes : List ℕ) (count change : ℕ) (plain : List ℕ) → at + length bytes ≤ 92
    → 100 ≤ length (with_field 92 change (with_field 28 count (with_field 24 change (with_bytes at bytes plain)))) → 100 ≤ length plain
long_before at bytes count change plain to long = ⊎_elim
    (λ (short : length plain < 100).
    let one = short_stays at bytes plain (omega (arith, to)) short in
    let two = short_stays 24 (to_be_bytes w32 change) (with_bytes at bytes plain) (omega arith) one in
    let three = short_stays 28 (to_be_bytes w32 count) (with_field 24 change (with_bytes at bytes plain)) (omega arith) two in
    absurd (omega (arith, long, short_stays 92 (to_be_bytes w32 change) (with_field 28 count (with_field 24 change (with_bytes at bytes plain))) (omega arith) three)))
    (λ long. long) (order (length plain) 100)

pub count_few : (n size : ℕ) → 120 ≤ size → n * size ≤ largest_database → n < 2 ^ 32
count_few n size some small =
    let each : n ≤ n * size = Rattle.std.proofs.Math.Nat.le-mul_of_pos_right {m = size} n (omega (arith, some)) in
    let within : n * size ≤ 1073741824 = small in
    omega (arith, each, within)

one_page : (n size len : ℕ) → 1 ≤ n → n * size ≤ len → size ≤ len
one_page n size len some there =
    let each : size ≤ size * n = Rattle.std.proofs.Math.Nat.le-mul_of_pos_right {m = n} size (omega (arith, some)) in
    omega (arith, each, there, Rattle.std.proofs.Math.Nat.mul_comm size n)

-- a page 1 that is read and counts
pub count_read : (keys : FileKeys) (first : List ℕ) (len : ℕ) → keys.profile.page_size ≤ len → (h : Header) (n : ℕ)
    → header_read_as keys.profile.reads_log (opened keys 1 first) keys.profile.page_size keys.profile.reserve ≡ Ok h → count_of_pages h len ≡ Ok n → count_by keys first len ≡ Some n
count_read keys first len long h n read counts =
    let enough : Rattle.std.specs.Prelude.nat_lt len keys.profile.page_size ≡ false = more len keys.profile.page_size long in
    rw enough (ap (λ (r : Result Header HeaderRefusal). counted len r) read ∙ ap ok_count counts)
  where
    more : (a b : ℕ) → b ≤ a → Rattle.std.specs.Prelude.nat_lt a b ≡ false
    more a b le = search (rules, le)

-- a file whose page 1 is whole, and whose other pages are whole or those of a whole file, has all of them
all_long : (keys : FileKeys) (n : ℕ) (file main : List ℕ) → 1 ≤ n → 1 ≤ keys.profile.page_size → n * keys.profile.page_size ≤ length file
    → length (page_stored keys main 1) ≡ keys.profile.page_size
    → ((m : ℕ) → 2 ≤ m → m ≤ n → (length (page_stored keys main m) ≡ keys.profile.page_size) ⊎ (page_stored keys main m ≡ page_stored keys file m)) → n * keys.profile.page_size ≤ length main
all_long keys n file main some sized within first each = ⊎_elim
    (λ (single : n ≡ 1). subst (λ (k : ℕ). k * keys.profile.page_size ≤ length main) (sym single) (last_long keys 1 main first (omega arith) sized))
    (λ (more : 2 ≤ n). last_long keys n main (⊎_elim (λ is. is) (λ same. ap length same ∙ whole keys n file some within) (each n more (omega arith))) some sized) (which n some)
  where
    which : (n : ℕ) → 1 ≤ n → (n ≡ 1) ⊎ (2 ≤ n)
    which n some = search (arith, some)

    pages_before : (n size : ℕ) → 1 ≤ n → (n - 1) * size + size ≡ n * size
    pages_before zero size some = absurd (omega (arith, some))
    pages_before (suc m) size some =
        let last : suc m - 1 ≡ m = omega arith in
        ap (λ (k : ℕ). k * size + size) last ∙ sym (Rattle.std.proofs.Math.Nat.suc-mul m size)

    whole : (keys : FileKeys) (n : ℕ) (file : List ℕ) → 1 ≤ n → n * keys.profile.page_size ≤ length file → length (page_stored keys file n) ≡ keys.profile.page_size
    whole keys n file some within = omega (
      arith,
      within,
      pages_before n keys.profile.page_size some,
      length-take keys.profile.page_size (drop ((n - 1) * keys.profile.page_size) file),
      length-drop ((n - 1) * keys.profile.page_size) file,
    )

    last_long : (keys : FileKeys) (n : ℕ) (main : List ℕ) → length (page_stored keys main n) ≡ keys.profile.page_size → 1 ≤ n → 1 ≤ keys.profile.page_size → n * keys.profile.page_size ≤ length main
    last_long keys n main is some sized = omega (
      arith,
      is,
      sized,
      pages_before n keys.profile.page_size some,
      length-take keys.profile.page_size (drop ((n - 1) * keys.profile.page_size) main),
      length-drop ((n - 1) * keys.profile.page_size) main,
    )

-- ---- the changed file

-- Another page may stand for page 1: it is as long, begins alike, and is read where that is.
pub record StandsFor (profile : Profile) (plain base : List ℕ) : Type 0 where
  pub long : 100 ≤ length base → 100 ≤ length plain
  pub begins : 100 ≤ length plain → take 16 base ≡ take 16 plain
  pub reads : (header : Header) → 100 ≤ length plain → header_read_as profile.reads_log plain profile.page_size profile.reserve ≡ Ok header
      → (other : Header) × (header_read_as profile.reads_log base profile.page_size profile.reserve ≡ Ok other)

-- A file that opens, and what a transaction leaves of it that changed the pages of this test, page 1 to what `base` becomes.
module _ (keys : FileKeys) (at : ℕ) (bytes : List ℕ) (harmless : IsHarmless keys.profile at bytes) (n : ℕ) (file : List ℕ) (header : Header) (is_open : IsOpen keys file header n) (some : 1 ≤ n)
    (salt : keys.salt ≡ salt_of file) (room : 120 ≤ usable keys.profile) (listed : IsListed keys.profile)
    (base : List ℕ) (change : ℕ) (fits : change < 2 ^ 32) (stands : StandsFor keys.profile (opened keys 1 (page_stored keys file 1)) base) (mine : ℕ → Bool) (first_mine : mine 1 ≡ true)
    (touched : ℕ → Bool) (pages : ℕ → List ℕ) (tells : Bool) (before after main : List ℕ)
    (is_page : pages 1 ≡ with_field 92 change (with_field 28 n (with_field 24 change (with_bytes at bytes base))))
    (among : (m : ℕ) → is_page_number n m ≡ true → touched m ≡ mine m)
    (new : HasNewPages (start_of keys file n before) keys touched pages tells after main) where
  abbrev plain : List ℕ
  plain = opened keys 1 (page_stored keys file 1)

  abbrev first : List ℕ
  first = page_stored keys main 1

  numbered : is_page_number n 1 ≡ true
  numbered = number_is n 1 (omega arith) some

  touches : (m : ℕ) → is_page_number n m ≡ true → mine m ≡ true → touched m ≡ true
  touches m num is = among m num ∙ is

  is_touched : touched 1 ≡ true
  is_touched = touches 1 numbered first_mine

  pub first_changed : opened keys 1 first ≡ with_field 92 change (with_field 28 n (with_field 24 change (with_bytes at bytes base)))
  first_changed = new.opens 1 numbered is_touched ∙ is_page

  -- each page of the test is accepted, and opens to what was written
  pub all_accepted : (m : ℕ) → is_page_number n m ≡ true → mine m ≡ true → accepts keys m (page_stored keys main m) ≡ true
  all_accepted m num is = new.accepted m num (touches m num is)

  pub all_opened : (m : ℕ) → is_page_number n m ≡ true → mine m ≡ true → opened keys m (page_stored keys main m) ≡ pages m
  all_opened m num is = new.opens m num (touches m num is)

  long_base : 100 ≤ length base
  long_base = long_before at bytes n change base harmless.high (omega (arith, room, new.sizes 1 numbered is_touched, ap length is_page))

  pub long_plain : 100 ≤ length plain
  long_plain = stands.long long_base

  abbrev one : List ℕ
  one = with_bytes at bytes base

  long_one : 100 ≤ length one
  long_one = omega (arith, long_base, harmless.high, bytes_length at bytes base (omega (arith, long_base, harmless.high)))

  sized : (header_fields plain ≡ header) × (header.page_size ≡ keys.profile.page_size)
  sized = header_size keys.profile.reads_log plain keys.profile.page_size keys.profile.reserve header is_open.read

  -- the page with the bytes is read
  reads : (other : Header) × (header_read_as keys.profile.reads_log one keys.profile.page_size keys.profile.reserve ≡ Ok other)
  reads = let is = stands.reads header long_plain is_open.read in harmless.reads base is.0 long_base is.1

  size_one : reads.0.page_size ≡ header.page_size
  size_one = (header_size keys.profile.reads_log one keys.profile.page_size keys.profile.reserve reads.0 reads.1).1 ∙ sym sized.1

  small : n * header.page_size ≤ largest_database
  small = (counted_pages header (length file) n is_open.counts).small

  size_some : 120 ≤ keys.profile.page_size
  size_some = omega (arith, room)

  few : n < 2 ^ 32
  few = count_few n header.page_size (omega (arith, size_some, sized.1)) small

  -- the new page 1 counts as many pages in each file that has them
  pub counts_all : (len : ℕ) → n * keys.profile.page_size ≤ len → count_by keys first len ≡ Some n
  counts_all len there =
      let read = ap (λ (page : List ℕ). header_read_as keys.profile.reads_log page keys.profile.page_size keys.profile.reserve) first_changed
      ∙ changed_read keys.profile.reads_log n change keys.profile.page_size keys.profile.reserve one reads.0 long_one few fits reads.1 in
      let counts = changed_count keys.profile.reads_log n change keys.profile.page_size keys.profile.reserve one reads.0 long_one few fits reads.1
      len some (subst (λ (k : ℕ). n * k ≤ largest_database) (sym size_one) small) (subst (λ (k : ℕ). n * k ≤ len) (sym (size_one ∙ sized.1)) there) in
      let enough : keys.profile.page_size ≤ len = one_page n keys.profile.page_size len some there in
      count_read keys first len enough _ n read counts

  -- all other pages stay
  pub others_stay : (m : ℕ) → 1 ≤ m → m ≤ n → mine m ≡ false → page_stored keys main m ≡ page_stored keys file m
  others_stay m from to other = let num = number_is n m from to in new.others m num (among m num ∙ other)

  within : n * keys.profile.page_size ≤ length file
  within = subst (λ (k : ℕ). n * k ≤ length file) sized.1 (counted_pages header (length file) n is_open.counts).within

  each_whole : (m : ℕ) → 2 ≤ m → m ≤ n → (length (page_stored keys main m) ≡ keys.profile.page_size) ⊎ (page_stored keys main m ≡ page_stored keys file m)
  each_whole m from to = by (mine m) refl
    where
      low : 1 ≤ m
      low = omega (arith, from)

      by : (b : Bool) → mine m ≡ b → (length (page_stored keys main m) ≡ keys.profile.page_size) ⊎ (page_stored keys main m ≡ page_stored keys file m)
      by true is = let num = number_is n m low to in inl (new.whole m num (touches m num is))
      by false is = inr (others_stay m low to is)

  -- and the new file has all pages
  pub all_there : n * keys.profile.page_size ≤ length main
  all_there = all_long keys n file main some (omega (arith, size_some)) within (new.whole 1 numbered is_touched) each_whole

  salt_long : length keys.salt ≡ 16
  salt_long = ap length salt ∙ length-take-le 16 file (omega (arith, is_open.long, size_some))

  salt_stays : salt_of main ≡ keys.salt
  salt_stays = starts keys.profile.page_size main (omega (arith, size_some)) ∙ by_kind (is_plain keys.profile) refl
    where
      by_kind : (b : Bool) → is_plain keys.profile ≡ b → take 16 first ≡ keys.salt
      by_kind false ciphered =
          ap (take 16) (new.own.is_sealed 1 (both_true numbered is_touched))
          ∙ salt_stands keys (pages 1) _ (IsListed-laid_out keys.profile listed) ciphered salt_long
      -- the first bytes of a plain file are in the header, and stay
      by_kind true is =
          ap (take 16) (sym (opened_plain_file keys 1 first is) ∙ first_changed)
          ∙ (changed_first at bytes n change base harmless.low harmless.high long_base
          ∙ (stands.begins long_plain
          ∙ (ap (take 16) (opened_plain_file keys 1 (page_stored keys file 1) is)
          ∙ (sym (starts keys.profile.page_size file (omega (arith, size_some))) ∙ sym salt))))

  pub same_salt : salt_of main ≡ salt_of file
  same_salt = salt_stays ∙ salt

  -- the pages of the test have bytes of their own of those that were drawn
  pub draws_own : ((m : ℕ) → mine m ≡ true → is_page_number n m ≡ true) → IsTrue tells → FileDraws keys main mine 0 (drop (length before) after)
  draws_own within told =
      file_draws (start_of keys file n before) keys touched pages tells after main new told mine (λ m is. let num = within m is in (num, touches m num is))

-- ---- page 1 alone

-- a page stands for itself
pub itself : (profile : Profile) (page : List ℕ) → StandsFor profile page page
itself profile page = record { long = λ long. long; begins = λ long. refl; reads = λ header long is. (header, is) }

-- page 1 alone was changed
module _ (keys : FileKeys) (at : ℕ) (bytes : List ℕ) (harmless : IsHarmless keys.profile at bytes) (n : ℕ) (file : List ℕ) (header : Header) (is_open : IsOpen keys file header n) (some : 1 ≤ n)
    (salt : keys.salt ≡ salt_of file) (room : 120 ≤ usable keys.profile) (listed : IsListed keys.profile)
    (touched : ℕ → Bool) (pages : ℕ → List ℕ) (tells : Bool) (before after main : List ℕ)
    (is_page : pages 1 ≡ changed_page at bytes n (opened keys 1 (page_stored keys file 1)))
    (alone : (m : ℕ) → is_page_number n m ≡ true → touched m ≡ (m == 1))
    (new : HasNewPages (start_of keys file n before) keys touched pages tells after main) where
  abbrev stood : List ℕ
  stood = opened keys 1 (page_stored keys file 1)

  abbrev change : ℕ
  change = next_change (u32_at stood 24)

  fits : change < 2 ^ 32
  fits = Rattle.std.proofs.Math.Nat.mod-lt (u32_at stood 24 + 1) (omega arith)

  abbrev is_first : ℕ → Bool
  is_first m = m == 1

  pub new_count : (len : ℕ) → n * keys.profile.page_size ≤ len → count_by keys (page_stored keys main 1) len ≡ Some n
  new_count len there =
      counts_all keys at bytes harmless n file header is_open some salt room listed stood change fits (itself keys.profile stood) is_first refl touched pages tells before after main is_page alone new len there

  pub new_long : n * keys.profile.page_size ≤ length main
  new_long = all_there keys at bytes harmless n file header is_open some salt room listed stood change fits (itself keys.profile stood) is_first refl touched pages tells before after main is_page alone new

  pub is_changed : IsFirstChanged keys at bytes file main
  is_changed = record {
    count = n;
    was = open_count keys file header n is_open;
    header = long_plain keys at bytes harmless n file header is_open some salt room listed stood change fits (itself keys.profile stood) is_first refl touched pages tells before after main is_page alone new;
    is = new_count (length main) new_long;
    salt = same_salt keys at bytes harmless n file header is_open some salt room listed stood change fits (itself keys.profile stood) is_first refl touched pages tells before after main is_page alone new;
    first = first_changed keys at bytes harmless n file header is_open some salt room listed stood change fits (itself keys.profile stood) is_first refl touched pages tells before after main is_page alone new;
    accepted = all_accepted keys at bytes harmless n file header is_open some salt room listed stood change fits (itself keys.profile stood) is_first refl touched pages tells before after main is_page alone new 1 (number_is n 1 (omega arith) some) refl;
    others = λ m from to.
        others_stay keys at bytes harmless n file header is_open some salt room listed stood change fits (itself keys.profile stood) is_first refl touched pages tells before after main is_page alone new m (omega (arith, from)) to (not_one m from);
  }
    where
      not_one : (m : ℕ) → 2 ≤ m → (m == 1) ≡ false
      not_one m from = search (rules, from)

  -- its page 1 has bytes of its own of those that were drawn
  pub own_draws : IsTrue tells → FileDraws keys main is_first 0 (drop (length before) after)
  own_draws told =
      draws_own keys at bytes harmless n file header is_open some salt room listed stood change fits (itself keys.profile stood) is_first refl touched pages tells before after main is_page alone new
      (λ m is. ap (is_page_number n) (is_one m is) ∙ number_is n 1 (omega arith) some) told
    where
      is_one : (m : ℕ) → (m == 1) ≡ true → m ≡ 1
      is_one m is = search rules
