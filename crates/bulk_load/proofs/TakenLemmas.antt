-- Trees that are loaded one after another, each on the numbers that it took.
use Rattle.std.proofs.Common.{◌≡◌, ◌≤◌, ℕ, Bool, true, false, List, ◌&&◌, ◌||◌, ◌==◌, refl, ap, sym, ◌∙◌, arith}
use Rattle.std.specs.Prelude.{nat_le, nat_lt}
use Rattle.std.proofs.lemmas.Bool.{eqb-true}
use Rattle.db_format.specs.Pages.{Pages, Test}
use Rattle.load_model.specs.Stands.{IsNonePut}
use Rattle.btree_page.specs.declared.kind.Family.{Family}
use Rattle.btree_model.specs.Content.{Entry}
use Rattle.btree_model.specs.Walk.{walk}
use Rattle.btree_model.proofs.ContextLemmas.{and_left}
use Rattle.bulk_load.specs.Found.{HasTree}
use Rattle.bulk_load.specs.Out.{Faults, KeepsPages, is_new}
use Rattle.bulk_load.specs.Own.{CoversNew, between, only}
use Rattle.bulk_load.proofs.FoundLemmas.{IsFound, found_of}

-- the root of a tree is one of its pages
pub root_own : (pages : Pages) (own : Test) (family : Family) (root : ℕ) (listed : List Entry) → HasTree (only own pages) family root listed → own root ≡ true
unfolding walk
root_own pages own family root listed has = first_own (found_of pages own family root listed has)
  where
    first_own : IsFound (only own pages) own family root listed → own root ≡ true
    first_own f = and_left (own root) _ f.within

pub later_apart : (a b c d n : ℕ) → b ≤ c → between c d n ≡ true → between a b n ≡ false
later_apart a b c d n le is = grind arith

pub schema_in : (a b n : ℕ) → 1 ≤ a → (n == 1 || between a b n) ≡ true → (n == 1) ≡ false → (nat_le 2 n && nat_le n b) ≡ true
schema_in a b n some is other = grind arith

pub earlier_from_schema : (a b c d n : ℕ) → 1 ≤ a → b ≤ c → between a b n ≡ true → (n == 1 || between c d n) ≡ false
earlier_from_schema a b c d n some le is = grind arith

pub in_range : (a b c n : ℕ) → 1 ≤ a → b ≤ c → between a b n ≡ true → (nat_le 2 n && nat_le n c) ≡ true
in_range a b c n some le is = grind arith

pub low_of : (a b n : ℕ) → 1 ≤ a → between a b n ≡ true → 2 ≤ n
low_of a b n some is = grind arith

or_right : (a b : Bool) → b ≡ true → (a || b) ≡ true
or_right true b h = refl
or_right false b h = h

and_none : (a b : Bool) → (a ≡ true → b ≡ false) → (a && b) ≡ false
and_none true b h = h refl
and_none false b h = refl

-- what a part took, where no page had been put
pub took : (old new : Pages) → ((k : ℕ) → is_new old new k ≡ true → old.accepts k ≡ false) → CoversNew false (is_new old new) old new
took old new free = record {
  covers = record { taken = λ k h. h; one = λ no. cc };
  none = λ k. and_none (is_new old new k) (old.accepts k) (free k);
}

-- and what the schema took, with page 1
abbrev pub of_schema : Pages → Pages → Test
of_schema old new n = n == 1 || is_new old new n

pub took_first : (old new : Pages) → ((k : ℕ) → is_new old new k ≡ true → old.accepts k ≡ false) → old.accepts 1 ≡ false
    → CoversNew true (of_schema old new) old new
took_first old new free first = record {
  covers = record { taken = λ k h. or_right (k == 1) _ h; one = λ yes. refl };
  none = λ k. and_none (of_schema old new k) (old.accepts k) (none_at k (k == 1) refl);
}
  where
    none_at : (k : ℕ) (b : Bool) → (k == 1) ≡ b → of_schema old new k ≡ true → old.accepts k ≡ false
    none_at k true one h = ap old.accepts (eqb-true k 1 one) ∙ first
    none_at k false other h = free k (sym (ap (λ b. b || is_new old new k) other) ∙ h)

-- ---- what stays as it was

not_first : (low high n : ℕ) → 1 ≤ low → between low high n ≡ true → (n == 1) ≡ false
not_first low high n some is = grind arith

not_taken : (low high a b n : ℕ) → high ≤ a → between low high n ≡ true → (nat_lt a n && nat_le n b) ≡ false
not_taken low high a b n most is = grind arith

first_none : (first b : Bool) → b ≡ false → (first && b) ≡ false
first_none true b h = h
first_none false b h = refl

-- at a number that was taken before nothing is put
pub between_same : {S : Type 0} (pages : S → Pages) (limit : S → ℕ) (faults : S → Faults) (well : ℕ → S → Type 0) (first : Bool) (a b : S)
    → KeepsPages pages limit faults well first a b → (low high : ℕ) → 1 ≤ low → high ≤ (pages a).count
    → (n : ℕ) → between low high n ≡ true → (pages b).accepts n ≡ (pages a).accepts n
between_same pages limit faults well first a b kept low high some most n is =
    kept.others n (first_none first (n == 1) (not_first low high n some is)) (not_taken low high (pages a).count (pages b).count n most is)

first_old : (a b : ℕ) → 1 ≤ a → (nat_lt a 1 && nat_le 1 b) ≡ false
first_old a b some = grind arith

-- what the schema took after other trees, where no page had been put before them
module _ {S : Type 0} {pages : S → Pages} {limit : S → ℕ} {faults : S → Faults} {well : ℕ → S → Type 0} {a b : S} (kept : KeepsPages pages limit faults well false a b)
    (some : 1 ≤ (pages a).count) (none : IsNonePut (pages a)) where
  pub took_after : (last : Pages) → CoversNew true (of_schema (pages b) last) (pages b) last
  took_after last =
      took_first (pages b) last
      (λ k new. kept.others k refl (later_apart (pages a).count (pages b).count (pages b).count last.count k (omega arith) new) ∙ none k)
      (kept.others 1 refl (first_old (pages a).count (pages b).count some) ∙ none 1)
