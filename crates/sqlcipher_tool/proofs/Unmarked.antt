-- A page 1 without the marks of WAL mode and of auto-vacuum is read whether marks pass or not, and keys with the setting and without it are
-- otherwise the same.
use Rattle.std.proofs.Common.{◌≡◌, inl, inr, ◌==◌, ◌≤◌, ◌<◌, ◌+◌, ◌&&◌, not, ℕ, suc, zero, Bool, true, false, List, [], ◌∷◌, length, map, Option, Some, None, Result, Ok, refl, sym, ap, subst, ◌∙◌, arith}
use Rattle.std.specs.List.{range_with_len, slice_index_or}
use Rattle.std.specs.Prelude.{if◌then◌else◌, nat_lt, slice_get, slice_index, unwrap_or}
use Rattle.cipher_profile.specs.Profile.{set_log}
use Rattle.cipher_profile.specs.declared.keys.Secret.{Secret}
use Rattle.cipher_profile.specs.declared.keys.Secret.TheVariants.{Raw, Pass, SaltedRaw, SaltedPass, NoKey}
use Rattle.cipher_profile.specs.declared.profile.Profile.{Profile}
use Rattle.db_format.proofs.HeaderLemmas.{header_read-as}
use Rattle.db_format.specs.Bytes.{u8_at, u16_at, u32_at}
use Rattle.db_format.specs.Header.{at_most, header_fields, header_read, header_read_as, header_rules, header_rules_as, is_version, must_be, page_size_of}
use Rattle.db_format.specs.Rules.{Rule, unless_broken}
use Rattle.db_format.specs.declared.header.Header.{Header}
use Rattle.db_format.specs.declared.header.HeaderRefusal.{HeaderRefusal}
use Rattle.db_format.specs.declared.header.HeaderRefusal.TheVariants.{HeaderFault, WalMode, AutoVacuum}
use Rattle.edge_model.specs.Files.{Files}
use Rattle.page_codec.specs.Page.{FileKeys, accepts, deciphered, fits, keys_of, opened}
use Rattle.pager.specs.Changed.{with_bytes}
use Rattle.pager.specs.Database.{Stored, count_of, counted, database, stored_by, stored_pages, uncounted}
use Rattle.pager.specs.File.{page_stored}
use Rattle.pager.specs.Opening.{Opened, file_opened, first_broken, length_rules, unless, with_header}
use Rattle.pager.specs.declared.opening.OpenError.{OpenError}
use Rattle.pager.specs.declared.opening.OpenError.TheVariants.{KeyRefused}
use Rattle.sqlcipher_tool.specs.FirstPage.{IsHarmless}
use Rattle.sqlcipher_tool.specs.Holding.{HoldsOnly, held_by}
use Rattle.sqlcipher_tool.specs.Maps.{first_plain, has_maps, versions, versions_at}
use Rattle.sqlcipher_tool.specs.Settle.{keys_set}
use Rattle.sqlcipher_tool.proofs.ChangedFields.{byte_is, byte_kept, bytes_length, field_kept, none_broken}

-- ---- the header

-- without marks the rules are the same, whether they pass or not
pub unmarked_read : (plain : List ℕ) (size reserve : ℕ) (h : Header) → u8_at plain 18 ≡ 1 → u8_at plain 19 ≡ 1 → has_maps plain ≡ false
    → header_read_as true plain size reserve ≡ Ok h → header_read plain size reserve ≡ Ok h
unmarked_read plain size reserve h first second none is = ap (λ (rules : List (Rule HeaderRefusal)). unless_broken rules (header_fields plain)) same ∙ is
  where
    same : header_rules_as false plain size reserve ≡ header_rules_as true plain size reserve
    same = rw (first, second, none) refl

behind : {V E : Type 0} (rule : Rule E) (later : List (Rule E)) (v : V) (x : V) → unless_broken (rule ∷ later) v ≡ Ok x → unless_broken later v ≡ Ok x
behind (true, e) later v x is = cc
behind (false, e) later v x is = is

-- rules that are not broken, of which four become others that are not
others_kept : {V E : Type 0} (a : Bool) (e b d f g : E) (one two three four : Rule E) (later : List (Rule E)) (v x w : V)
    → unless_broken ((a, e) ∷ one ∷ two ∷ three ∷ four ∷ later) v ≡ Ok x → unless_broken ((a, e) ∷ (false, b) ∷ (false, d) ∷ (false, f) ∷ (false, g) ∷ later) w ≡ Ok w
others_kept true e b d f g one two three four later v x w is = cc
others_kept false e b d f g one two three four later v x w is =
    (none_broken later v x w (behind four later v x (behind three (four ∷ later) v x (behind two (three ∷ four ∷ later) v x (behind one (two ∷ three ∷ four ∷ later) v x is))))).1

-- where marks pass, a page that is read is read with other versions
module _ (plain : List ℕ) (long : 100 ≤ length plain) where
  abbrev pub unmarked : List ℕ
  unmarked = with_bytes versions_at versions plain

  enough : versions_at + length versions ≤ length plain
  enough = omega (arith, long)

  pub unmarked_length : length unmarked ≡ length plain
  unmarked_length = bytes_length versions_at versions plain enough

  pub first_version : u8_at unmarked 18 ≡ 1
  first_version = byte_is versions_at versions plain enough 0 (omega arith)

  pub second_version : u8_at unmarked 19 ≡ 1
  second_version = byte_is versions_at versions plain enough 1 (omega arith)

  low : (k : ℕ) → k < 18 → slice_index unmarked k ≡ slice_index plain k
  low k less = byte_kept versions_at versions plain enough k (inl less)

  pub high : (k : ℕ) → 20 ≤ k → slice_index unmarked k ≡ slice_index plain k
  high k more = byte_kept versions_at versions plain enough k (inr more)

  pub field : (k : ℕ) → 20 ≤ k → u32_at unmarked k ≡ u32_at plain k
  field k more = field_kept versions_at versions plain enough k (inr more)

  pub maps_kept : has_maps unmarked ≡ has_maps plain
  maps_kept = ap (λ (n : ℕ). not (n == 0)) (field 52 (omega arith))

  abbrev later : List ℕ → ℕ → List (Rule HeaderRefusal)
  later p reserve =
      must_be p 20 reserve ∷ must_be p 21 64 ∷ must_be p 22 32 ∷ must_be p 23 32 ∷ at_most p 44 4
      ∷ (not true && not (u32_at p 52 == 0), AutoVacuum) ∷ at_most p 56 3 ∷ []

  rules_are : (size reserve : ℕ) → header_rules_as true unmarked size reserve
      ≡ (not (page_size_of (u16_at plain 16) == size), HeaderFault 16 (u16_at plain 16))
      ∷ (false, WalMode) ∷ (false, HeaderFault 18 1) ∷ (false, WalMode) ∷ (false, HeaderFault 19 1) ∷ later plain reserve
  rules_are size reserve =
      let b16 = low 16 (omega arith) in
      let b17 = low 17 (omega arith) in
      let b20 = high 20 (omega arith) in
      let b21 = high 21 (omega arith) in
      let b22 = high 22 (omega arith) in
      let b23 = high 23 (omega arith) in
      let f44 = field 44 (omega arith) in
      let f56 = field 56 (omega arith) in
      rw (b16, b17, first_version, second_version, b20, b21, b22, b23, f44, f56) refl

  pub versions_read : (size reserve : ℕ) (h : Header) → header_read_as true plain size reserve ≡ Ok h → header_read_as true unmarked size reserve ≡ Ok (header_fields unmarked)
  versions_read size reserve h is =
      ap (λ (rules : List (Rule HeaderRefusal)). unless_broken rules (header_fields unmarked)) (rules_are size reserve)
      ∙ others_kept (not (page_size_of (u16_at plain 16) == size)) (HeaderFault 16 (u16_at plain 16)) WalMode (HeaderFault 18 1) WalMode (HeaderFault 19 1)
      (not true && u8_at plain 18 == 2, WalMode) (is_version true plain 18) (not true && u8_at plain 19 == 2, WalMode) (is_version true plain 19) (later plain reserve) (header_fields plain) h (header_fields unmarked) is

-- so these versions may stand there
pub versions_harmless : (profile : Profile) → profile.reads_log ≡ true → IsHarmless profile versions_at versions
versions_harmless profile passes = record {
  low = omega arith;
  high = omega arith;
  reads = λ plain header long is. (
    header_fields (unmarked plain long),
    subst (λ (b : Bool). header_read_as b (unmarked plain long) profile.page_size profile.reserve ≡ Ok (header_fields (unmarked plain long))) (sym passes)
        (versions_read plain long profile.page_size profile.reserve header
        (subst (λ (b : Bool). header_read_as b plain profile.page_size profile.reserve ≡ Ok header) passes is)),
  );
}

-- ---- the keys

pub keys_set_of : (passes other : Bool) (profile : Profile) (secret : Secret) (file : List ℕ)
    → keys_set passes (keys_of (set_log other profile) secret file) ≡ keys_of (set_log passes profile) secret file
keys_set_of passes other profile (Raw key) file = refl
keys_set_of passes other profile (Pass passphrase) file = refl
keys_set_of passes other profile (SaltedRaw key salt) file = refl
keys_set_of passes other profile (SaltedPass passphrase salt) file = refl
keys_set_of passes other profile NoKey file = refl

pub opened_set : (passes : Bool) (keys : FileKeys) (n : ℕ) (stored : List ℕ) → opened (keys_set passes keys) n stored ≡ opened keys n stored
unfolding opened deciphered
opened_set passes keys n stored = refl

pub accepts_set : (passes : Bool) (keys : FileKeys) (n : ℕ) (stored : List ℕ) → accepts (keys_set passes keys) n stored ≡ accepts keys n stored
unfolding accepts
accepts_set passes keys n stored = refl

pub fits_set : (passes : Bool) (keys : FileKeys) (first : List ℕ) → fits (keys_set passes keys) first ≡ fits keys first
unfolding accepts opened deciphered
fits_set passes keys first = refl

-- a file that opens by all rules opens with the setting and without it
pub file_set : (passes : Bool) (keys : FileKeys) (file : List ℕ) (h : Header) → header_read (first_plain keys file) keys.profile.page_size keys.profile.reserve ≡ Ok h
    → file_opened (keys_set passes keys) file ≡ file_opened keys file
file_set passes keys file h is =
    let size = keys.profile.page_size in
    let reserve = keys.profile.reserve in
    let first = page_stored keys file 1 in
    let now : header_read_as passes (opened (keys_set passes keys) 1 first) size reserve ≡ Ok h =
    ap (λ (page : List ℕ). header_read_as passes page size reserve) (opened_set passes keys 1 first) ∙ header_read-as passes (first_plain keys file) size reserve h is in
    let was : header_read_as keys.profile.reads_log (opened keys 1 first) size reserve ≡ Ok h = header_read-as keys.profile.reads_log (first_plain keys file) size reserve h is in
    let by : Bool → Result Header HeaderRefusal → Result Opened OpenError = λ fit header.
    unless (first_broken (length_rules size file)) (unless (first_broken ((not fit, KeyRefused) ∷ [])) (with_header (length file) header)) in
    ap (λ (b : Bool). by b (header_read_as passes (opened (keys_set passes keys) 1 first) size reserve)) (fits_set passes keys first)
    ∙ ap (λ (r : Result Header HeaderRefusal). by (fits keys first) r) (now ∙ sym was)

-- where it does, it has no pointer-map pages
pub no_maps : (plain : List ℕ) (size reserve : ℕ) (h : Header) → header_read plain size reserve ≡ Ok h → has_maps plain ≡ false
no_maps plain size reserve h is = unbroken (header_rules plain size reserve) (header_fields plain) h is 10 (has_maps plain, AutoVacuum) refl
  where
    same : {E : Type 0} (a b : Rule E) → Some a ≡ Some b → a ≡ b
    same a b is = ap (λ o. unwrap_or o a) is

    unbroken : {V E : Type 0} (rules : List (Rule E)) (v x : V) → unless_broken rules v ≡ Ok x → (k : ℕ) (rule : Rule E) → slice_get rules k ≡ Some rule → rule.0 ≡ false
    unbroken [] v x is k rule there = cc
    unbroken ((true, e) ∷ later) v x is k rule there = cc
    unbroken ((false, e) ∷ later) v x is zero rule there = ap (λ (r : Rule _). r.0) (sym (same (false, e) rule there))
    unbroken ((false, e) ∷ later) v x is (suc k) rule there = unbroken later v x is k rule there

-- ---- the database

module _ (passes : Bool) (keys : FileKeys) where
  -- a page 1 that is read by all counts as many pages
  pub count_set : (file : List ℕ) (h : Header) → header_read (first_plain keys file) keys.profile.page_size keys.profile.reserve ≡ Ok h
      → count_of (keys_set passes keys) file ≡ count_of keys file
  count_set file h is =
      let size = keys.profile.page_size in
      let reserve = keys.profile.reserve in
      let plain = first_plain keys file in
      let now : header_read_as passes (opened (keys_set passes keys) 1 (page_stored keys file 1)) size reserve ≡ Ok h =
      ap (λ (page : List ℕ). header_read_as passes page size reserve) (opened_set passes keys 1 (page_stored keys file 1)) ∙ header_read-as passes plain size reserve h is in
      let was = header_read-as keys.profile.reads_log plain size reserve h is in
      ap (λ (r : Result Header HeaderRefusal). if nat_lt (length file) size then None else counted (length file) r) (now ∙ sym was)

  first_listed : (one two : ℕ → List ℕ) (m n : ℕ) → 1 ≤ n → map one (range_with_len 1 m) ≡ map two (range_with_len 1 n) → one 1 ≡ two 1
  first_listed one two m zero some same = absurd (omega (arith, some))
  first_listed one two zero (suc n) some same = cc
  first_listed one two (suc m) (suc n) some same = ap (λ (l : List (List ℕ)). slice_index_or l 0 []) same

  listed : (other file : List ℕ) (n : ℕ) (o : Option ℕ) → stored_by keys other o ≡ stored_pages (map (page_stored keys file) (range_with_len 1 n))
      → (m : ℕ) × (o ≡ Some m) × (map (page_stored keys other) (range_with_len 1 m) ≡ map (page_stored keys file) (range_with_len 1 n))
  listed other file n None is = cc
  listed other file n (Some m) is = (m, refl, pages_same is)
    where
      pages_in : Stored → List (List ℕ)
      pages_in (stored_pages pages) = pages
      pages_in (uncounted bytes) = []

      pages_same : {a b : List (List ℕ)} → stored_pages a ≡ stored_pages b → a ≡ b
      pages_same same = ap pages_in same

  -- files of one database under these keys are of one under the others, where page 1 is read by all
  pub database_set : (other file : List ℕ) (n : ℕ) (h : Header) → 1 ≤ n → count_of keys file ≡ Some n
      → header_read (first_plain keys file) keys.profile.page_size keys.profile.reserve ≡ Ok h → database keys other ≡ database keys file
      → database (keys_set passes keys) other ≡ database (keys_set passes keys) file
  database_set other file n h some counts is same =
      let by = listed other file n (count_of keys other) (same ∙ ap (stored_by keys file) counts) in
      let first = first_listed (page_stored keys other) (page_stored keys file) by.0 n some by.2 in
      let other_read : header_read (first_plain keys other) keys.profile.page_size keys.profile.reserve ≡ Ok h =
      ap (λ (page : List ℕ). header_read (opened keys 1 page) keys.profile.page_size keys.profile.reserve) first ∙ is in
      ap (stored_by (keys_set passes keys) other) (count_set other h other_read) ∙ (same ∙ sym (ap (stored_by (keys_set passes keys) file) (count_set file h is)))

  pub holds_set : (file : List ℕ) (n : ℕ) (h : Header) (image : Files) → 1 ≤ n → count_of keys file ≡ Some n
      → header_read (first_plain keys file) keys.profile.page_size keys.profile.reserve ≡ Ok h → HoldsOnly (held_by keys file) image
      → HoldsOnly (held_by (keys_set passes keys) file) image
  holds_set file n h image some counts is holds = record {
    some = holds.some;
    only = λ other to. database_set other file n h some counts is (holds.only other to);
  }
