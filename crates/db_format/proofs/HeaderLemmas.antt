-- A header that is written is read back.
use Rattle.std.proofs.Common.{◌≡◌, ◌≤◌, ◌<◌, ◌^◌, ℕ, Bool, true, false, List, [], ◌∷◌, Ok, arith, ◌∙◌, ap, refl}
use Rattle.std.proofs.lemmas.Bool.{and_parts}
use Rattle.std.proofs.lemmas.Bool.Decides.{nat_tests}
use Rattle.std.specs.Int.{w16, w32, to_be_bytes}
use Rattle.std.specs.Prelude.{◌&&◌, not}
use Rattle.std.proofs.lemmas.Nat.{from_be_bytes-to_be_bytes_2, from_be_bytes-to_be_bytes_4}
use Rattle.db_format.specs.Bytes.{u8_at, u16_at, u32_at}
use Rattle.db_format.specs.Header.{IsPageSize, header_bytes, header_fields, header_read, header_read_as, header_rules, header_rules_as, page_size_of, stored_page_size}
use Rattle.db_format.specs.Rules.{Rule, unless_broken}
use Rattle.db_format.specs.declared.header.Header.{Header}

-- the number in two bytes that were written
u16_at-to_be_bytes : (n : ℕ) → n < 2 ^ 16 → u16_at (to_be_bytes w16 n) 0 ≡ n
u16_at-to_be_bytes n fits = omega (arith, from_be_bytes-to_be_bytes_2 n fits)

-- the number in four bytes that were written
u32_at-to_be_bytes : (n : ℕ) → n < 2 ^ 32 → u32_at (to_be_bytes w32 n) 0 ≡ n
u32_at-to_be_bytes n fits = omega (arith, from_be_bytes-to_be_bytes_4 n fits)

-- the fields of four bytes are numbers of 32 bits
pub record FitsWords (header : Header) : Type 0 where
  pub change : header.change < 2 ^ 32
  pub size_field : header.size_field < 2 ^ 32
  pub first_trunk : header.first_trunk < 2 ^ 32
  pub free_count : header.free_count < 2 ^ 32
  pub cookie : header.cookie < 2 ^ 32
  pub format : header.format < 2 ^ 32
  pub cache : header.cache < 2 ^ 32
  pub encoding : header.encoding < 2 ^ 32
  pub user_version : header.user_version < 2 ^ 32
  pub application_id : header.application_id < 2 ^ 32
  pub valid_for : header.valid_for < 2 ^ 32
  pub sqlite_number : header.sqlite_number < 2 ^ 32

page_size_of-stored : (size : ℕ) → 512 ≤ size → page_size_of (stored_page_size size) ≡ size
page_size_of-stored size least = grind (arith, nat_tests)

stored_page_size-fits : (size : ℕ) → size ≤ 65536 → stored_page_size size < 2 ^ 16
stored_page_size-fits size most = grind (arith, nat_tests)

-- the page size in the bytes of a header
page_size-written : (header : Header) → IsPageSize header.page_size
    → page_size_of (u16_at (header_bytes header) 16) ≡ header.page_size
page_size-written header sized =
    let stored = u16_at-to_be_bytes (stored_page_size header.page_size) (stored_page_size-fits header.page_size sized.most) in
    ap page_size_of stored ∙ page_size_of-stored header.page_size sized.least

-- the bytes hold the fields of this header, and what the rules of reading ask for
record Holds (plain : List ℕ) (header : Header) : Type 0 where
  page_size : page_size_of (u16_at plain 16) ≡ header.page_size
  write_version : u8_at plain 18 ≡ 1
  read_version : u8_at plain 19 ≡ 1
  reserve : u8_at plain 20 ≡ header.reserve
  greatest : u8_at plain 21 ≡ 64
  least : u8_at plain 22 ≡ 32
  leaf : u8_at plain 23 ≡ 32
  largest_root : u32_at plain 52 ≡ 0
  change : u32_at plain 24 ≡ header.change
  size_field : u32_at plain 28 ≡ header.size_field
  first_trunk : u32_at plain 32 ≡ header.first_trunk
  free_count : u32_at plain 36 ≡ header.free_count
  cookie : u32_at plain 40 ≡ header.cookie
  format : u32_at plain 44 ≡ header.format
  cache : u32_at plain 48 ≡ header.cache
  encoding : u32_at plain 56 ≡ header.encoding
  user_version : u32_at plain 60 ≡ header.user_version
  application_id : u32_at plain 68 ≡ header.application_id
  valid_for : u32_at plain 92 ≡ header.valid_for
  sqlite_number : u32_at plain 96 ≡ header.sqlite_number

header_fields-held : (plain : List ℕ) (header : Header) → Holds plain header → header_fields plain ≡ header
header_fields-held plain header held =
    rw (held.page_size, held.reserve, held.change, held.size_field, held.first_trunk, held.free_count, held.cookie, held.format, held.cache, held.encoding, held.user_version, held.application_id, held.valid_for, held.sqlite_number) refl

header_read-held : (plain : List ℕ) (header : Header) → Holds plain header → header.format ≤ 4 → header.encoding ≤ 3
    → header_read plain header.page_size header.reserve ≡ Ok header
header_read-held plain header held format encoding =
    let fields = header_fields-held plain header held in
    grind (arith, nat_tests)

header_bytes-hold : (header : Header) → IsPageSize header.page_size → FitsWords header → Holds (header_bytes header) header
header_bytes-hold header sized fits = record {
  page_size = page_size-written header sized;
  write_version = refl;
  read_version = refl;
  reserve = refl;
  greatest = refl;
  least = refl;
  leaf = refl;
  largest_root = refl;
  change = u32_at-to_be_bytes header.change fits.change;
  size_field = u32_at-to_be_bytes header.size_field fits.size_field;
  first_trunk = u32_at-to_be_bytes header.first_trunk fits.first_trunk;
  free_count = u32_at-to_be_bytes header.free_count fits.free_count;
  cookie = u32_at-to_be_bytes header.cookie fits.cookie;
  format = u32_at-to_be_bytes header.format fits.format;
  cache = u32_at-to_be_bytes header.cache fits.cache;
  encoding = u32_at-to_be_bytes header.encoding fits.encoding;
  user_version = u32_at-to_be_bytes header.user_version fits.user_version;
  application_id = u32_at-to_be_bytes header.application_id fits.application_id;
  valid_for = u32_at-to_be_bytes header.valid_for fits.valid_for;
  sqlite_number = u32_at-to_be_bytes header.sqlite_number fits.sqlite_number;
}

pub header_read-header_bytes : (header : Header) → IsPageSize header.page_size → FitsWords header
    → header.format ≤ 4 → header.encoding ≤ 3
    → header_read (header_bytes header) header.page_size header.reserve ≡ Ok header
header_read-header_bytes header sized fits format encoding =
    header_read-held (header_bytes header) header (header_bytes-hold header sized fits) format encoding

-- ---- where marks pass

-- each rule of the second list is broken only where the one in its place is
abbrev IsMilder : {E : Type 0} → List (Rule E) → List (Rule E) → Type 0
IsMilder [] new = new ≡ []
IsMilder ((a, e) ∷ old) [] = ⊥
IsMilder ((a, e) ∷ old) ((b, f) ∷ new) = (b ≡ true → a ≡ true) × IsMilder old new

milder_read : {E V : Type 0} (old new : List (Rule E)) (value : V) (v : V) → IsMilder old new
    → unless_broken old value ≡ Ok v → unless_broken new value ≡ Ok v
milder_read [] new value v none is = rw none is
milder_read ((a, e) ∷ old) [] value v milder is = absurd milder
milder_read ((true, e) ∷ old) ((b, f) ∷ new) value v milder is = cc is
milder_read ((false, e) ∷ old) ((true, f) ∷ new) value v milder is = cc (milder.0 refl)
milder_read ((false, e) ∷ old) ((false, f) ∷ new) value v milder is = milder_read old new value v milder.1 is

broken_too : (a : Bool) → a ≡ true → a ≡ true
broken_too a broken = broken

never : (a : Bool) → false ≡ true → a ≡ true
never a none = cc none

-- a version that is refused where marks pass is refused where they don't
version_too : (two other : Bool) → (not two && other) ≡ true → other ≡ true
version_too two other both = (and_parts (not two) other both).1

-- a header that is read where marks do not pass is the one that is read where they do
pub header_read-passes : (plain : List ℕ) (size reserve : ℕ) (h : Header) → header_read plain size reserve ≡ Ok h → header_read_as true plain size reserve ≡ Ok h
header_read-passes plain size reserve h is =
    milder_read (header_rules plain size reserve) (header_rules_as true plain size reserve) (header_fields plain) h (
      broken_too _,
      (
        never _,
        (
          version_too _ _,
          (
            never _,
            (
              version_too _ _,
              (broken_too _, (broken_too _, (broken_too _, (broken_too _, (broken_too _, (never _, (broken_too _, refl))))))),
            ),
          ),
        ),
      ),
    ) is

-- and so it is, whether marks pass or not
pub header_read-as : (passes : Bool) (plain : List ℕ) (size reserve : ℕ) (h : Header) → header_read plain size reserve ≡ Ok h → header_read_as passes plain size reserve ≡ Ok h
header_read-as true plain size reserve h is = header_read-passes plain size reserve h is
header_read-as false plain size reserve h is = is
