-- The fields of a changed page 1, and the header that is read of it.
use Rattle.std.proofs.Common.{◌≡◌, ◌⊎◌, ⊎_elim, inl, inr, ◌==◌, ◌≤◌, ◌<◌, ◌+◌, ◌-◌, ◌*◌, ◌^◌, ◌%◌, ◌/◌, ◌&&◌, not, ℕ, Bool, true, false, List, [], ◌∷◌, ◌++◌, length, take, drop, Ok, refl, sym, ap, subst, ◌∙◌, arith, rules, length-append, length-take, length-drop}
use Rattle.std.specs.Prelude.{slice_index, if◌then◌else◌, nat_lt}
use Rattle.std.specs.Int.{w32, to_be_bytes}
use Rattle.std.proofs.Math.ListN.{get_or-append}
use Rattle.std.proofs.lemmas.List.{get_or-append_right, get_or-take, get_or-drop}
use Rattle.std.proofs.lemmas.Nat.{from_be_bytes-to_be_bytes_4}
use Rattle.db_format.specs.Bytes.{u32_at}
use Rattle.db_format.specs.Count.{count_of_pages, largest_database, page_count, size_counts}
use Rattle.db_format.specs.Header.{header_fields, header_read_as, header_rules_as}
use Rattle.db_format.specs.Rules.{Rule, unless_broken}
use Rattle.db_format.specs.declared.count.CountRefusal.{CountRefusal}
use Rattle.db_format.specs.declared.count.CountRefusal.TheVariants.{Ragged, TooLarge, Short}
use Rattle.db_format.specs.declared.header.Header.{Header}
use Rattle.db_format.specs.declared.header.HeaderRefusal.{HeaderRefusal}
use Rattle.pager.specs.Changed.{with_bytes}
use Rattle.sqlcipher_tool.specs.FirstPage.{with_field}
use Rattle.sqlcipher_tool.proofs.Numbers.{no_more}

-- ---- bytes at an offset

module _ (at : ℕ) (bytes page : List ℕ) (long : at + length bytes ≤ length page) where
  pub bytes_length : length (with_bytes at bytes page) ≡ length page
  bytes_length = omega (
    arith,
    long,
    length-append (take at page) (bytes ++ drop (at + length bytes) page),
    length-append bytes (drop (at + length bytes) page),
    length-take at page,
    length-drop (at + length bytes) page,
  )

  taken : length (take at page) ≡ at
  taken = omega (arith, long, length-take at page)

  -- a byte before them or behind them stays
  pub byte_kept : (k : ℕ) → (k < at) ⊎ (at + length bytes ≤ k) → slice_index (with_bytes at bytes page) k ≡ slice_index page k
  byte_kept k apart = ⊎_elim
      (λ (before : k < at).
      get_or-append (take at page) (bytes ++ drop (at + length bytes) page) 0 k (omega (arith, before, taken)) ∙ get_or-take at page k 0 before)
      (λ (behind : at + length bytes ≤ k).
      get_or-append_right (take at page) (bytes ++ drop (at + length bytes) page) at k 0 taken (omega (arith, behind))
      ∙ (get_or-append_right bytes (drop (at + length bytes) page) (length bytes) (k - at) 0 refl (omega (arith, behind))
      ∙ (get_or-drop (at + length bytes) page (k - at - length bytes) 0
      ∙ ap (λ (i : ℕ). slice_index page i) (omega (arith, behind))))) apart

  pub byte_is : (i : ℕ) → i < length bytes → slice_index (with_bytes at bytes page) (at + i) ≡ slice_index bytes i
  byte_is i less =
      get_or-append_right (take at page) (bytes ++ drop (at + length bytes) page) at (at + i) 0 taken (omega arith)
      ∙ (ap (λ (k : ℕ). slice_index (bytes ++ drop (at + length bytes) page) k) (omega arith)
      ∙ get_or-append bytes (drop (at + length bytes) page) 0 i less)

  -- another field keeps its number
  pub field_kept : (k : ℕ) → (k + 4 ≤ at) ⊎ (at + length bytes ≤ k) → u32_at (with_bytes at bytes page) k ≡ u32_at page k
  field_kept k apart = omega (
    arith,
    byte_kept k (⊎_elim (λ (before : k + 4 ≤ at). inl (omega (arith, before))) (λ (behind : at + length bytes ≤ k). inr behind) apart),
    byte_kept (k + 1) (beside 1 (omega arith)),
    byte_kept (k + 2) (beside 2 (omega arith)),
    byte_kept (k + 2 + 1) (⊎_elim (λ (before : k + 4 ≤ at). inl (omega (arith, before))) (λ (behind : at + length bytes ≤ k). inr (omega (arith, behind))) apart),
  )
    where
      beside : (i : ℕ) → i < 4 → (k + i < at) ⊎ (at + length bytes ≤ k + i)
      beside i less = ⊎_elim (λ (before : k + 4 ≤ at). inl (omega (arith, before, less))) (λ (behind : at + length bytes ≤ k). inr (omega (arith, behind))) apart

-- ---- one field

module _ (at value : ℕ) (page : List ℕ) (long : at + 4 ≤ length page) where
  pub field_length : length (with_field at value page) ≡ length page
  field_length = bytes_length at (to_be_bytes w32 value) page long

  pub field_byte : (k : ℕ) → (k < at) ⊎ (at + 4 ≤ k) → slice_index (with_field at value page) k ≡ slice_index page k
  field_byte k apart = byte_kept at (to_be_bytes w32 value) page long k apart

  byte_of : (i : ℕ) → i < 4 → slice_index (with_field at value page) (at + i) ≡ slice_index (to_be_bytes w32 value) i
  byte_of i less = byte_is at (to_be_bytes w32 value) page long i less

  -- the field holds the number
  pub field_is : value < 2 ^ 32 → u32_at (with_field at value page) at ≡ value
  field_is fits = let here : at + 0 ≡ at = omega arith in let last : at + 3 ≡ at + 2 + 1 = omega arith in omega (
    arith,
    subst (λ (k : ℕ). slice_index (with_field at value page) k ≡ slice_index (to_be_bytes w32 value) 0) here (byte_of 0 (omega arith)),
    byte_of 1 (omega arith),
    byte_of 2 (omega arith),
    subst (λ (k : ℕ). slice_index (with_field at value page) k ≡ slice_index (to_be_bytes w32 value) 3) last (byte_of 3 (omega arith)),
    from_be_bytes-to_be_bytes_4 value fits,
  )

  -- and another field its own
  pub other_kept : (k : ℕ) → (k + 4 ≤ at) ⊎ (at + 4 ≤ k) → u32_at (with_field at value page) k ≡ u32_at page k
  other_kept k apart = field_kept at (to_be_bytes w32 value) page long k apart

-- ---- the header

-- where no rule is broken, there is a value, whatever it is
pub none_broken : {V W E : Type 0} (rules : List (Rule E)) (v x : V) (w : W) → unless_broken rules v ≡ Ok x → (v ≡ x) × (unless_broken rules w ≡ Ok w)
none_broken [] v x w is = (cc, refl)
none_broken ((true, refusal) ∷ later) v x w is = cc
none_broken ((false, refusal) ∷ later) v x w is = none_broken later v x w is

pub rules_same : (passes : Bool) (a b : List ℕ) (size reserve : ℕ) → slice_index a 16 ≡ slice_index b 16 → slice_index a 17 ≡ slice_index b 17 → slice_index a 18 ≡ slice_index b 18
    → slice_index a 19 ≡ slice_index b 19 → slice_index a 20 ≡ slice_index b 20 → slice_index a 21 ≡ slice_index b 21 → slice_index a 22 ≡ slice_index b 22
    → slice_index a 23 ≡ slice_index b 23 → u32_at a 44 ≡ u32_at b 44 → u32_at a 52 ≡ u32_at b 52 → u32_at a 56 ≡ u32_at b 56
    → header_rules_as passes a size reserve ≡ header_rules_as passes b size reserve
rules_same passes a b size reserve b16 b17 b18 b19 b20 b21 b22 b23 f44 f52 f56 = rw (b16, b17, b18, b19, b20, b21, b22, b23, f44, f52, f56) refl

-- a size field that counts
counted_by : (h : Header) (len count : ℕ) → 1 ≤ count → h.size_field ≡ count → h.change ≡ h.valid_for → count * h.page_size ≤ largest_database
    → count * h.page_size ≤ len → count_of_pages h len ≡ Ok count
counted_by h len count some size same small there =
    let counts : size_counts h ≡ true = size_is h count some size same in
    let pages : page_count h len ≡ count = ap (λ (b : Bool). if b then h.size_field else len / h.page_size) counts ∙ size in
    let ragged : (not (size_counts h) && not (len % h.page_size == 0)) ≡ false = ap (λ (b : Bool). not b && not (len % h.page_size == 0)) counts in
    let small_is : nat_lt largest_database (page_count h len * h.page_size) ≡ false = rw pages (no_more largest_database (count * h.page_size) small) in
    let there_is : nat_lt len (page_count h len * h.page_size) ≡ false = rw pages (no_more len (count * h.page_size) there) in
    unbroken _ _ _ (Ragged len) (TooLarge (page_count h len)) (Short len) (page_count h len) ragged small_is there_is ∙ ap (λ (n : ℕ). Ok n) pages
  where
    size_is : (h : Header) (count : ℕ) → 1 ≤ count → h.size_field ≡ count → h.change ≡ h.valid_for → size_counts h ≡ true
    size_is h count some size same = search (rules, some, size, same)

    unbroken : (a b c : Bool) (x y z : CountRefusal) (v : ℕ) → a ≡ false → b ≡ false → c ≡ false → unless_broken ((a, x) ∷ (b, y) ∷ (c, z) ∷ []) v ≡ Ok v
    unbroken a b c x y z v no_a no_b no_c = rw (no_a, no_b, no_c) refl

-- ---- the fields of a changed page

-- behind other bytes, which left the page `one`
module _ (count change : ℕ) (one : List ℕ) (long : 100 ≤ length one) (few : count < 2 ^ 32) (fits : change < 2 ^ 32) where
  abbrev two : List ℕ
  two = with_field 24 change one

  abbrev three : List ℕ
  three = with_field 28 count two

  abbrev pub changed : List ℕ
  changed = with_field 92 change three

  long_two : length two ≡ length one
  long_two = field_length 24 change one (omega (arith, long))

  long_three : length three ≡ length one
  long_three = field_length 28 count two (omega (arith, long, long_two)) ∙ long_two

  pub changed_length : length changed ≡ length one
  changed_length = field_length 92 change three (omega (arith, long, long_three)) ∙ long_three

  -- a byte that is in none of the three stays
  pub changed_byte : (k : ℕ) → (k < 24) ⊎ ((32 ≤ k) × (k < 92)) → slice_index changed k ≡ slice_index one k
  changed_byte k outside =
      field_byte 92 change three (omega (arith, long, long_three)) k (inl (⊎_elim (λ (low : k < 24). omega (arith, low)) (λ mid. omega (arith, mid.1)) outside))
      ∙ (field_byte 28 count two (omega (arith, long, long_two)) k (⊎_elim (λ (low : k < 24). inl (omega (arith, low))) (λ mid. inr (omega (arith, mid.0))) outside)
      ∙ field_byte 24 change one (omega (arith, long)) k (⊎_elim (λ (low : k < 24). inl (omega (arith, low))) (λ mid. inr (omega (arith, mid.0))) outside))

  pub changed_change : u32_at changed 24 ≡ change
  changed_change =
      other_kept 92 change three (omega (arith, long, long_three)) 24 (inl (omega arith))
      ∙ (other_kept 28 count two (omega (arith, long, long_two)) 24 (inl (omega arith)) ∙ field_is 24 change one (omega (arith, long)) fits)

  pub changed_size : u32_at changed 28 ≡ count
  changed_size = other_kept 92 change three (omega (arith, long, long_three)) 28 (inl (omega arith)) ∙ field_is 28 count two (omega (arith, long, long_two)) few

  pub changed_valid : u32_at changed 92 ≡ change
  changed_valid = field_is 92 change three (omega (arith, long, long_three)) fits

  pub field_outside : (k : ℕ) → (32 ≤ k) × (k + 4 ≤ 92) → u32_at changed k ≡ u32_at one k
  field_outside k mid = omega (
    arith,
    changed_byte k (inr (mid.0, omega (arith, mid.1))),
    changed_byte (k + 1) (inr (omega (arith, mid.0), omega (arith, mid.1))),
    changed_byte (k + 2) (inr (omega (arith, mid.0), omega (arith, mid.1))),
    changed_byte (k + 2 + 1) (inr (omega (arith, mid.0), omega (arith, mid.1))),
  )

  -- the rules of the header look at none of the fields
  pub changed_rules : (passes : Bool) (size reserve : ℕ) → header_rules_as passes changed size reserve ≡ header_rules_as passes one size reserve
  changed_rules passes size reserve =
      let b16 = changed_byte 16 (inl (omega arith)) in
      let b17 = changed_byte 17 (inl (omega arith)) in
      let b18 = changed_byte 18 (inl (omega arith)) in
      let b19 = changed_byte 19 (inl (omega arith)) in
      let b20 = changed_byte 20 (inl (omega arith)) in
      let b21 = changed_byte 21 (inl (omega arith)) in
      let b22 = changed_byte 22 (inl (omega arith)) in
      let b23 = changed_byte 23 (inl (omega arith)) in
      let f44 = field_outside 44 (omega arith, omega arith) in
      let f52 = field_outside 52 (omega arith, omega arith) in
      let f56 = field_outside 56 (omega arith, omega arith) in
      rules_same passes changed one size reserve b16 b17 b18 b19 b20 b21 b22 b23 f44 f52 f56

  pub same_page_size : (header_fields changed).page_size ≡ (header_fields one).page_size
  same_page_size = rw (changed_byte 16 (inl (omega arith)), changed_byte 17 (inl (omega arith))) refl

-- ---- the header and the count of pages

module _ (passes : Bool) (count change size reserve : ℕ) (one : List ℕ) (header : Header) (long : 100 ≤ length one) (few : count < 2 ^ 32) (fits : change < 2 ^ 32)
    (was : header_read_as passes one size reserve ≡ Ok header) where
  abbrev page : List ℕ
  page = changed count change one long few fits

  past : (header_fields one ≡ header) × (unless_broken (header_rules_as passes one size reserve) (header_fields page) ≡ Ok (header_fields page))
  past = none_broken (header_rules_as passes one size reserve) (header_fields one) header (header_fields page) was

  -- the changed page is read
  pub changed_read : header_read_as passes page size reserve ≡ Ok (header_fields page)
  changed_read =
      ap (λ (rules : List (Rule HeaderRefusal)). unless_broken rules (header_fields page)) (changed_rules count change one long few fits passes size reserve)
      ∙ past.1

  page_size_is : (header_fields page).page_size ≡ header.page_size
  page_size_is = same_page_size count change one long few fits ∙ ap (λ (h : Header). h.page_size) past.0

  -- and its pages are counted by the size field, where the file has them
  pub changed_count : (len : ℕ) → 1 ≤ count → count * header.page_size ≤ largest_database → count * header.page_size ≤ len
      → count_of_pages (header_fields page) len ≡ Ok count
  changed_count len some small there =
      counted_by (header_fields page) len count some (changed_size count change one long few fits)
      (changed_change count change one long few fits ∙ sym (changed_valid count change one long few fits))
      (subst (λ (k : ℕ). count * k ≤ largest_database) (sym page_size_is) small) (subst (λ (k : ℕ). count * k ≤ len) (sym page_size_is) there)
