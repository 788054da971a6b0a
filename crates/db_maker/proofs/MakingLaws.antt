-- Four trees that are loaded one after another, each on the numbers that it took.
use Rattle.std.proofs.Common.{◌≡◌, ◌≤◌, ◌<◌, ℕ, ◌^◌, ◌&&◌, ◌||◌, ◌==◌, Bool, true, false, refl, arith}
use Rattle.std.specs.Prelude.{nat_le}
use Rattle.db_format.specs.Pages.{Pages, Test}
use Rattle.btree_page.specs.declared.kind.Family.TheVariants.{Table, Index}
use Rattle.bulk_load.specs.Out.{AreAllPut, Faults, Follows, KeepsPages, is_new}
use Rattle.bulk_load.specs.Own.{between, only}
use Rattle.bulk_load.proofs.PutLemmas.{follows_all, still_free}
use Rattle.db_maker.specs.declared.part.Part.TheVariants.{Items, Names, Codes}
use Rattle.bulk_load.specs.Found.{HasTree, IsTightBehind}
use Rattle.db_maker.specs.Made.{HasPart, IsFilled}
use Rattle.db_maker.specs.Parts.{entries_in, schema_entries}
use Rattle.db_maker.proofs.DatabaseLaws.{AreApart, database_is, database_tight}
use Rattle.bulk_load.proofs.FoundLemmas.{tree_kept}
use Rattle.bulk_load.proofs.TakenLemmas.{between_same, earlier_from_schema, in_range, later_apart, low_of, of_schema, root_own, schema_in}

-- ---- each number was taken by one of four

one_of_five : (p q r s t : Bool) → (p ≡ false → q ≡ false → r ≡ false → s ≡ false → t ≡ false → ⊥) → ((p || q) || (r || (s || (t || false)))) ≡ true
one_of_five true q r s t h = refl
one_of_five false true r s t h = refl
one_of_five false false true s t h = refl
one_of_five false false false true t h = refl
one_of_five false false false false true h = refl
one_of_five false false false false false h = absurd (h refl refl refl refl refl)

at_most : (n e : ℕ) → (nat_le 1 n && nat_le n e) ≡ true → n ≤ e
at_most n e is = grind arith

below : (d e n : ℕ) → n ≤ e → between d e n ≡ false → n ≤ d
below d e n most other = grind arith

first_page : (n a e : ℕ) → a ≡ 1 → n ≤ a → (nat_le 1 n && nat_le n e) ≡ true → (n == 1) ≡ false → ⊥
first_page n a e one most is other = grind arith

none_left : (a b c d e n : ℕ) → a ≡ 1 → (nat_le 1 n && nat_le n e) ≡ true → (n == 1) ≡ false → between d e n ≡ false → between a b n ≡ false
    → between b c n ≡ false → between c d n ≡ false → ⊥
none_left a b c d e n one is other in_e in_b in_c in_d =
    first_page n a e one (below a b n (below b c n (below c d n (below d e n (at_most n e is) in_e) in_d) in_c) in_b) is other

-- ---- four loads

module _ {S : Type 0} (pages : S → Pages) (limit : S → ℕ) (faults : S → Faults) (well : ℕ → S → Type 0) where
  pub all_follow : (a b c d e : S) → Follows pages limit faults well false a b → Follows pages limit faults well false b c → Follows pages limit faults well false c d
      → Follows pages limit faults well true d e → Follows pages limit faults well true a e
  all_follow a b c d e ab bc cd de =
      follows_all pages limit faults well true a b e ab (follows_all pages limit faults well true b c e bc (follows_all pages limit faults well true c d e cd de))

  -- page 1 is put by the last of them
  pub none_first : (a b c d : S) → 1 ≤ (pages a).count → KeepsPages pages limit faults well false a b → KeepsPages pages limit faults well false b c
      → KeepsPages pages limit faults well false c d → (pages a).accepts 1 ≡ false → (pages d).accepts 1 ≡ false
  none_first a b c d some ab bc cd free =
      let one : (pages a).count ≤ (pages b).count = ab.count in
      let two : (pages b).count ≤ (pages c).count = bc.count in
      still_free pages limit faults well c d (omega arith) cd (still_free pages limit faults well b c (omega arith) bc (still_free pages limit faults well a b some ab free))

  -- what the four loads came to
  module _ (a b c d e : S) (start : ℕ) (well_a : well start a) (some : 1 ≤ (pages a).count) (ab : Follows pages limit faults well false a b)
      (bc : Follows pages limit faults well false b c) (cd : Follows pages limit faults well false c d) (de : KeepsPages pages limit faults well true d e)
      (rows items names codes_root : ℕ) (few : rows < 2 ^ 32) (items_few : items < 2 ^ 32) (names_few : names < 2 ^ 32) (codes_few : codes_root < 2 ^ 32)
      (t : HasPart (only (is_new (pages a) (pages b)) (pages b)) Items items rows) (u : HasPart (only (is_new (pages b) (pages c)) (pages c)) Names names rows)
      (v : HasPart (only (is_new (pages c) (pages d)) (pages d)) Codes codes_root rows)
      (w : HasTree (only (of_schema (pages d) (pages e)) (pages e)) Table 1 (schema_entries items names codes_root)) where
    apart : AreApart (pages e) rows items names codes_root (is_new (pages a) (pages b)) (is_new (pages b) (pages c)) (is_new (pages c) (pages d)) (of_schema (pages d) (pages e))
    apart =
        let well_b = ab.told start well_a in
        let well_c = bc.told start well_b in
        let well_d = cd.told start well_c in
        let one : (pages a).count ≤ (pages b).count = ab.keeps.count in
        let two : (pages b).count ≤ (pages c).count = bc.keeps.count in
        let three : (pages c).count ≤ (pages d).count = cd.keeps.count in
        let four : (pages d).count ≤ (pages e).count = de.count in
        let own_t : Test = is_new (pages a) (pages b) in
        let own_u : Test = is_new (pages b) (pages c) in
        let own_v : Test = is_new (pages c) (pages d) in
        let kept = tree_kept pages limit faults well in
        let same = between_same pages limit faults well in
        let at_t : own_t items ≡ true = root_own (pages b) own_t Table items (entries_in Items rows) t in
        let at_u : own_u names ≡ true = root_own (pages c) own_u Index names (entries_in Names rows) u in
        let at_v : own_v codes_root ≡ true = root_own (pages d) own_v Index codes_root (entries_in Codes rows) v in
        record {
          has_items = kept own_t true d e start well_d de (same true d e de (pages a).count (pages b).count some (omega arith)) Table items (entries_in Items rows)
              (kept own_t false c d start well_c cd.keeps (same false c d cd.keeps (pages a).count (pages b).count some (omega arith)) Table items (entries_in Items rows)
              (kept own_t false b c start well_b bc.keeps (same false b c bc.keeps (pages a).count (pages b).count some (omega arith)) Table items (entries_in Items rows) t));
          has_names = kept own_u true d e start well_d de (same true d e de (pages b).count (pages c).count (omega arith) (omega arith)) Index names (entries_in Names rows)
              (kept own_u false c d start well_c cd.keeps (same false c d cd.keeps (pages b).count (pages c).count (omega arith) (omega arith)) Index names (entries_in Names rows) u);
          has_codes = kept own_v true d e start well_d de (same true d e de (pages c).count (pages d).count (omega arith) (omega arith)) Index codes_root (entries_in Codes rows) v;
          has_schema = w;
          items_named = record { low = low_of (pages a).count (pages b).count items some at_t; small = omega arith; range = in_range (pages a).count (pages b).count (pages e).count items some (omega arith) at_t };
          names_named = record { low = low_of (pages b).count (pages c).count names (omega arith) at_u; small = omega arith; range = in_range (pages b).count (pages c).count (pages e).count names (omega arith) (omega arith) at_u };
          codes_named = record { low = low_of (pages c).count (pages d).count codes_root (omega arith) at_v; small = omega arith; range = in_range (pages c).count (pages d).count (pages e).count codes_root (omega arith) (omega arith) at_v };
          items_from_schema = λ n is. earlier_from_schema (pages a).count (pages b).count (pages d).count (pages e).count n some (omega arith) is;
          names_from_schema = λ n is. earlier_from_schema (pages b).count (pages c).count (pages d).count (pages e).count n (omega arith) (omega arith) is;
          codes_from_schema = λ n is. earlier_from_schema (pages c).count (pages d).count (pages d).count (pages e).count n (omega arith) (omega arith) is;
          names_from_items = λ n is. later_apart (pages a).count (pages b).count (pages b).count (pages c).count n (omega arith) is;
          codes_from_items = λ n is. later_apart (pages a).count (pages b).count (pages c).count (pages d).count n two is;
          codes_from_names = λ n is. later_apart (pages b).count (pages c).count (pages c).count (pages d).count n (omega arith) is;
          some = omega arith;
          items_within = λ n is. in_range (pages a).count (pages b).count (pages e).count n some (omega arith) is;
          names_within = λ n is. in_range (pages b).count (pages c).count (pages e).count n (omega arith) (omega arith) is;
          codes_within = λ n is. in_range (pages c).count (pages d).count (pages e).count n (omega arith) (omega arith) is;
          schema_within = λ n is other. schema_in (pages d).count (pages e).count n (omega arith) is other;
        }

    pub made_of : IsFilled (pages e) rows
    made_of =
        database_is (pages e) rows items names codes_root (is_new (pages a) (pages b)) (is_new (pages b) (pages c)) (is_new (pages c) (pages d)) (of_schema (pages d) (pages e)) apart few

    -- where no number had been taken before, each was taken by one of them
    pub tight_of : (pages a).count ≡ 1 → AreAllPut (pages e) → IsTightBehind (pages e)
    tight_of first put =
        database_tight (pages e) rows items names codes_root (is_new (pages a) (pages b)) (is_new (pages b) (pages c)) (is_new (pages c) (pages d)) (of_schema (pages d) (pages e)) apart few put
        (λ n is.
        one_of_five (n == 1) (is_new (pages d) (pages e) n) (is_new (pages a) (pages b) n) (is_new (pages b) (pages c) n) (is_new (pages c) (pages d) n)
        (none_left (pages a).count (pages b).count (pages c).count (pages d).count (pages e).count n first is))
