-- Entries that are pushed one after another.
use Rattle.std.proofs.Common.{◌≡◌, ◌≤◌, ◌<◌, ℕ, zero, suc, ◌+◌, ◌%◌, ℤ, pos, false, List, [], ◌∷◌, ◌++◌, Option, Some, None, map, refl, ap, sym, ◌∙◌, arith}
use Rattle.std.specs.Prelude.{int_le, sum}
use Rattle.std.specs.List.{range_with_len}
use Rattle.std.specs.Option.{option_map_or}
use Rattle.std.proofs.lemmas.List.{map-append}
use Rattle.std.proofs.lemmas.List.Sums.{sum_by-append}
use Rattle.db_format.specs.Pages.{Pages, Test}
use Rattle.load_model.specs.Stands.{is_at_most}
use Rattle.bulk_load.specs.Loader.{IsLoader, Loaded, family_of_loader}
use Rattle.bulk_load.specs.Out.{Faults, Follows}
use Rattle.bulk_load.specs.Few.{TookFew}
use Rattle.bulk_load.specs.Own.{Covers, only}
use Rattle.bulk_load.specs.declared.loader.Loader.{Loader}
use Rattle.db_maker.specs.declared.part.Part.{Part}
use Rattle.db_maker.specs.declared.part.Part.TheVariants.{Items, Names, Codes}
use Rattle.db_maker.specs.Parts.{entries_in, entry_in, family_in}
use Rattle.db_maker.specs.Rows.{data_byte, data_len, total_len}
use Rattle.btree_model.specs.Content.{last_after}

range_more : (a n : ℕ) → range_with_len a (suc n) ≡ range_with_len a n ++ (a + n) ∷ []
range_more a zero = let none : a ≡ a + 0 = omega arith in ap (λ k. k ∷ []) none
range_more a (suc n) =
    let next : a + 1 + n ≡ a + suc n = omega arith in
    ap (λ l. a ∷ l) (range_more (a + 1) n ∙ ap (λ k. range_with_len (a + 1) n ++ k ∷ []) next)

next_is : (n : ℕ) → suc n ≡ n + 1
next_is n = omega arith

-- what is listed of the numbers from `a` on grows by one at its end
pub listed_more : {X : Type 0} (f : ℕ → X) (a n : ℕ) → map f (range_with_len a (n + 1)) ≡ map f (range_with_len a n) ++ f (a + n) ∷ []
listed_more f a n =
    ap (λ k. map f (range_with_len a k)) (sym (next_is n)) ∙ ap (map f) (range_more a n) ∙ map-append f (range_with_len a n) ((a + n) ∷ [])

pub entries_more : (part : Part) (n : ℕ) → entries_in part n ++ entry_in part (n + 1) ∷ [] ≡ entries_in part (n + 1)
entries_more part n =
    let next : 1 + n ≡ n + 1 = omega arith in
    sym (listed_more (entry_in part) 1 n ∙ ap (λ k. entries_in part n ++ entry_in part k ∷ []) next)

pub data_more : (i n : ℕ) → map (data_byte i) (range_with_len 0 n) ++ data_byte i n ∷ [] ≡ map (data_byte i) (range_with_len 0 (n + 1))
data_more i n =
    let none : 0 + n ≡ n = omega arith in
    sym (listed_more (data_byte i) 0 n ∙ ap (λ k. map (data_byte i) (range_with_len 0 n) ++ data_byte i k ∷ []) none)

pub total_more : (n : ℕ) → total_len n + data_len (n + 1) ≡ total_len (n + 1)
total_more n =
    let next : 1 + n ≡ n + 1 = omega arith in
    ap (λ k. total_len n + data_len k) (sym next) ∙ ap (λ k. total_len n + k) (one (data_len (1 + n)))
    ∙ sym (ap sum (listed_more data_len 1 n) ∙ sum_both (map data_len (range_with_len 1 n)) (data_len (1 + n) ∷ []))
  where
    one : (k : ℕ) → k ≡ sum (k ∷ [])
    one k = omega arith

    sum_both : (xs ys : List ℕ) → sum (xs ++ ys) ≡ sum xs + sum ys
    sum_both xs ys = sum_by-append (λ k. k) xs ys

pub data_most : (i : ℕ) → data_len i ≤ 4500
data_most i = let few : i % 10 < 10 = omega arith in omega arith

-- the last rowid after so many entries
abbrev pub last_of : Part → ℕ → Option ℤ
last_of Items zero = None
last_of Items (suc n) = Some (pos (suc n))
last_of Names n = None
last_of Codes n = None

pub last_start : (part : Part) → last_of part 0 ≡ None
last_start Items = refl
last_start Names = refl
last_start Codes = refl

pub last_next : (part : Part) (n : ℕ) → last_after (last_of part n) (entry_in part (n + 1)).rowid ≡ last_of part (n + 1)
last_next Items n = ap (λ k. Some (pos k)) (sym (next_is n)) ∙ ap (last_of Items) (next_is n)
last_next Names n = refl
last_next Codes n = refl

above : (n : ℕ) → int_le (pos (suc n + 1)) (pos (suc n)) ≡ false
above n = grind arith

pub next_above : (part : Part) (n : ℕ) → option_map_or (is_at_most (last_of part n)) (entry_in part (n + 1)).rowid false ≡ false
next_above Items zero = refl
next_above Items (suc n) = above n
next_above Names n = refl
next_above Codes n = refl

-- so many entries were pushed
pub record IsPushed {S : Type 0} (pages : S → Pages) (limit : S → ℕ) (faults : S → Faults) (well : ℕ → S → Type 0) (only_fresh : S → S → Type 0)
    (part : Part) (old new : S) (before after : Loader) (count : ℕ) : Type 0 where
  pub loaded : (start : ℕ) → well start old → (own : Test) → Covers false own (pages old) (pages new)
      → Loaded (only own (pages old)) before [] → Loaded (only own (pages new)) after (entries_in part count)
  pub ready : IsLoader after (pages new).usable
  pub family : family_of_loader after ≡ family_in part
  pub at_one : after.at_one ≡ before.at_one
  pub last : after.last ≡ last_of part count
  pub follows : Follows pages limit faults well false old new
  pub fresh : only_fresh old new
  pub few : TookFew (family_in part) (pages old).usable (pages old).count [] (pages old).count before
      → TookFew (family_in part) (pages old).usable (pages old).count (entries_in part count) (pages new).count after
