-- Page 1 without map pages: it stands for page 1 as it was, and its fields.
use Rattle.std.proofs.Common.{◌≡◌, ◌⊎◌, ⊎_elim, inl, inr, ◌≤◌, ◌<◌, ◌+◌, ◌%◌, ◌^◌, ℕ, Bool, true, List, length, take, Ok, refl, sym, ap, subst, ◌∙◌, arith}
use Rattle.std.specs.Prelude.{slice_index}
use Rattle.std.specs.Int.{w32, to_be_bytes}
use Rattle.cipher_profile.specs.declared.profile.Profile.{Profile}
use Rattle.db_format.specs.Bytes.{u32_at}
use Rattle.db_format.specs.Header.{header_fields, header_read_as, header_rules_as}
use Rattle.db_format.specs.Rules.{Rule, unless_broken}
use Rattle.db_format.specs.declared.header.Header.{Header}
use Rattle.db_format.specs.declared.header.HeaderRefusal.{HeaderRefusal}
use Rattle.map_pages.specs.Maps.{map_count}
use Rattle.map_pages.specs.Trunks.{trunk_from}
use Rattle.sqlcipher_tool.specs.FirstPage.{with_field}
use Rattle.sqlcipher_tool.specs.Maps.{without_maps}
use Rattle.sqlcipher_tool.proofs.ChangedFields.{field_byte, field_is, field_length, none_broken, other_kept}
use Rattle.sqlcipher_tool.proofs.ChangedPages.{StandsFor, short_or_long, short_stays}
use Rattle.sqlcipher_tool.proofs.FirstBytes.{bytes_first}

module _ (usable count : ℕ) (plain : List ℕ) where
  abbrev first : ℕ
  first = trunk_from usable (map_count usable count) (u32_at plain 32) 0

  abbrev free : ℕ
  free = (u32_at plain 36 + map_count usable count) % 2 ^ 32

  abbrev one : List ℕ
  one = with_field 32 first plain

  abbrev two : List ℕ
  two = with_field 36 free one

  abbrev three : List ℕ
  three = with_field 52 0 two

  abbrev pub freed : List ℕ
  freed = without_maps usable count plain

  -- it is long where the page was
  pub freed_long : 100 ≤ length freed → 100 ≤ length plain
  freed_long long = ⊎_elim
      (λ (short : length plain < 100).
      let a = short_stays 32 (to_be_bytes w32 first) plain (omega arith) short in
      let b = short_stays 36 (to_be_bytes w32 free) one (omega arith) a in
      let c = short_stays 52 (to_be_bytes w32 0) two (omega arith) b in
      let d = short_stays 64 (to_be_bytes w32 0) three (omega arith) c in
      absurd (omega (arith, long, d)))
      (λ long. long) (short_or_long plain)

  module _ (long : 100 ≤ length plain) where
    long_one : length one ≡ length plain
    long_one = field_length 32 first plain (omega (arith, long))

    long_two : length two ≡ length plain
    long_two = field_length 36 free one (omega (arith, long, long_one)) ∙ long_one

    long_three : length three ≡ length plain
    long_three = field_length 52 0 two (omega (arith, long, long_two)) ∙ long_two

    pub freed_length : length freed ≡ length plain
    freed_length = field_length 64 0 three (omega (arith, long, long_three)) ∙ long_three

    at_one : 32 + 4 ≤ length plain
    at_one = omega (arith, long)

    at_two : 36 + 4 ≤ length one
    at_two = omega (arith, long, long_one)

    at_three : 52 + 4 ≤ length two
    at_three = omega (arith, long, long_two)

    at_four : 64 + 4 ≤ length three
    at_four = omega (arith, long, long_three)

    -- a byte of none of the four fields stays
    pub freed_byte : (k : ℕ) → (k < 32) ⊎ (68 ≤ k) → slice_index freed k ≡ slice_index plain k
    freed_byte k apart =
        field_byte 64 0 three at_four k (⊎_elim (λ (low : k < 32). inl (omega (arith, low))) (λ (high : 68 ≤ k). inr (omega (arith, high))) apart)
        ∙ (field_byte 52 0 two at_three k (⊎_elim (λ (low : k < 32). inl (omega (arith, low))) (λ (high : 68 ≤ k). inr (omega (arith, high))) apart)
        ∙ (field_byte 36 free one at_two k (⊎_elim (λ (low : k < 32). inl (omega (arith, low))) (λ (high : 68 ≤ k). inr (omega (arith, high))) apart)
        ∙ field_byte 32 first plain at_one k (⊎_elim (λ (low : k < 32). inl (omega (arith, low))) (λ (high : 68 ≤ k). inr (omega (arith, high))) apart)))

    -- and so does another field of four bytes
    pub freed_other : (k : ℕ) → (k + 4 ≤ 32) ⊎ (40 ≤ k) → (k + 4 ≤ 52) ⊎ (56 ≤ k) → (k + 4 ≤ 64) ⊎ (68 ≤ k) → u32_at freed k ≡ u32_at plain k
    freed_other k low mid high =
        other_kept 64 0 three at_four k high
        ∙ (other_kept 52 0 two at_three k mid
        ∙ (other_kept 36 free one at_two k (⊎_elim (λ (less : k + 4 ≤ 32). inl (omega (arith, less))) (λ more. inr more) low)
        ∙ other_kept 32 first plain at_one k (⊎_elim (λ less. inl less) (λ (more : 40 ≤ k). inr (omega (arith, more))) low)))

    pub freed_trunk : first < 2 ^ 32 → u32_at freed 32 ≡ first
    freed_trunk small =
        other_kept 64 0 three at_four 32 (inl (omega arith))
        ∙ (other_kept 52 0 two at_three 32 (inl (omega arith))
        ∙ (other_kept 36 free one at_two 32 (inl (omega arith)) ∙ field_is 32 first plain at_one small))

    pub freed_count : u32_at freed 36 ≡ free
    freed_count =
        let small : free < 2 ^ 32 = Rattle.std.proofs.Math.Nat.mod-lt (u32_at plain 36 + map_count usable count) (omega arith) in
        other_kept 64 0 three at_four 36 (inl (omega arith))
        ∙ (other_kept 52 0 two at_three 36 (inl (omega arith)) ∙ field_is 36 free one at_two small)

    pub freed_root : u32_at freed 52 ≡ 0
    freed_root = other_kept 64 0 three at_four 52 (inl (omega arith)) ∙ field_is 52 0 two at_three (omega arith)

    pub freed_begins : take 16 freed ≡ take 16 plain
    freed_begins =
        bytes_first 64 (to_be_bytes w32 0) three (omega arith) (omega (arith, at_four))
        ∙ (bytes_first 52 (to_be_bytes w32 0) two (omega arith) (omega (arith, at_three))
        ∙ (bytes_first 36 (to_be_bytes w32 free) one (omega arith) (omega (arith, at_two))
        ∙ bytes_first 32 (to_be_bytes w32 first) plain (omega arith) (omega (arith, at_one))))

    rules_pass : (size reserve : ℕ) → header_rules_as true freed size reserve ≡ header_rules_as true plain size reserve
    rules_pass size reserve =
        let b16 = freed_byte 16 (inl (omega arith)) in
        let b17 = freed_byte 17 (inl (omega arith)) in
        let b18 = freed_byte 18 (inl (omega arith)) in
        let b19 = freed_byte 19 (inl (omega arith)) in
        let b20 = freed_byte 20 (inl (omega arith)) in
        let b21 = freed_byte 21 (inl (omega arith)) in
        let b22 = freed_byte 22 (inl (omega arith)) in
        let b23 = freed_byte 23 (inl (omega arith)) in
        let f44 = freed_other 44 (inr (omega arith)) (inl (omega arith)) (inl (omega arith)) in
        let f56 = freed_other 56 (inr (omega arith)) (inr (omega arith)) (inl (omega arith)) in
        rw (b16, b17, b18, b19, b20, b21, b22, b23, f44, f56) refl

    -- where marks pass, it is read as the page was
    pub freed_read : (size reserve : ℕ) (h : Header) → header_read_as true plain size reserve ≡ Ok h → header_read_as true freed size reserve ≡ Ok (header_fields freed)
    freed_read size reserve h is =
        ap (λ (rules : List (Rule HeaderRefusal)). unless_broken rules (header_fields freed)) (rules_pass size reserve)
        ∙ (none_broken (header_rules_as true plain size reserve) (header_fields plain) h (header_fields freed) is).1

-- so it stands for the page
pub freed_stands : (usable count : ℕ) (profile : Profile) (plain : List ℕ) → profile.reads_log ≡ true → StandsFor profile plain (without_maps usable count plain)
freed_stands usable count profile plain passes = record {
  long = freed_long usable count plain;
  begins = freed_begins usable count plain;
  reads = λ header long is. (
    header_fields (freed usable count plain),
    subst (λ (b : Bool). header_read_as b (freed usable count plain) profile.page_size profile.reserve ≡ Ok (header_fields (freed usable count plain))) (sym passes)
        (freed_read usable count plain long profile.page_size profile.reserve header
        (subst (λ (b : Bool). header_read_as b plain profile.page_size profile.reserve ≡ Ok header) passes is)),
  );
}
