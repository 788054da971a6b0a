-- The pages of a load, added up.
use Rattle.std.proofs.Common.{◌≡◌, ◌≤◌, ◌+◌, ◌-◌, ◌*◌, ◌/◌, ℕ, true, List, [], ◌∷◌, ◌++◌, length, map, ap, ◌∙◌, arith, length-append, inl, inr}
use Rattle.std.specs.Prelude.{Err, IfErr, Ok, OnErr, OnOk, Result, min, sum}
use Rattle.std.proofs.Math.Nat.{div-mul-le_self, le-div_iff_mul-le, le-min, min-le_left, min-le_right}
use Rattle.std.proofs.lemmas.Nat.{le-div}
use Rattle.std.proofs.lemmas.Bool.{cases_lt}
use Rattle.std.proofs.lemmas.List.{map-append}
use Rattle.std.proofs.lemmas.List.Sums.{sum_by-append}
use Rattle.btree_page.specs.declared.kind.Family.{Family}
use Rattle.btree_model.specs.Content.{Entry}
use Rattle.bulk_load.specs.declared.loader.Loader.{Loader}
use Rattle.bulk_load.specs.Bound.{chain_pages, entry_weight, tree_pages, weights}
use Rattle.bulk_load.specs.Count.{overflow_pages, weight}
use Rattle.bulk_load.specs.Depth.{IsShallow}
use Rattle.bulk_load.specs.Few.{TookFew, load_pages}
use Rattle.bulk_load.specs.Out.{is_load_refusal}
use Rattle.bulk_load.specs.declared.error.LoadError.{LoadError}
use Rattle.bulk_load.specs.Volume.{price, volume}
use Rattle.bulk_load.proofs.VolumeLemmas.{price_le, price_more}

sum_append : (f : Entry → ℕ) (xs ys : List Entry) → sum (map f (xs ++ ys)) ≡ sum (map f xs) + sum (map f ys)
sum_append f xs ys = ap sum (map-append f xs ys) ∙ sum_by-append (λ k. k) (map f xs) (map f ys)

sum_more : (f : Entry → ℕ) (entries : List Entry) (entry : Entry) → sum (map f (entries ++ entry ∷ [])) ≡ sum (map f entries) + f entry
sum_more f entries entry = sum_append f entries (entry ∷ []) ∙ ap (λ n. sum (map f entries) + n) (one (f entry))
  where
    one : (n : ℕ) → sum (n ∷ []) ≡ n
    one n = omega arith

-- one entry more
module _ (family : Family) (usable : ℕ) (entries : List Entry) (entry : Entry) where
  chains_more : chain_pages family usable (entries ++ entry ∷ []) ≡ chain_pages family usable entries + overflow_pages family usable (length entry.payload)
  chains_more = sum_more (λ e. overflow_pages family usable (length e.payload)) entries entry

  weights_more : weights family usable (entries ++ entry ∷ []) ≡ weights family usable entries + entry_weight family usable entry
  weights_more = sum_more (entry_weight family usable) entries entry

  entries_more : length (entries ++ entry ∷ []) ≡ length entries + 1
  entries_more = length-append entries (entry ∷ [])

  -- the count after a push
  module _ (from old new : ℕ) (before : Loader) (few : TookFew family usable from entries old before) where
    -- after Ok
    pub took_more : (after : Loader) → IsShallow usable from new after
        → new + weight after ≤ old + (weight before + 2 + overflow_pages family usable (length entry.payload))
        → price usable new + volume after ≤ price usable (old + overflow_pages family usable (length entry.payload)) + (volume before + 6 * entry_weight family usable entry)
        → TookFew family usable from (entries ++ entry ∷ []) new after
    took_more after shallow count paid =
        let chain : ℕ = overflow_pages family usable (length entry.payload) in
        let chains : ℕ = chain_pages family usable entries in
        let a : chain_pages family usable (entries ++ entry ∷ []) ≡ chains + chain = chains_more in
        let b : weights family usable (entries ++ entry ∷ []) ≡ weights family usable entries + entry_weight family usable entry = weights_more in
        let c : length (entries ++ entry ∷ []) ≡ length entries + 1 = entries_more in
        let one : price usable (old + chain) ≡ price usable old + price usable chain = price_more usable old chain in
        let two : price usable (from + chain_pages family usable (entries ++ entry ∷ [])) ≡ price usable (from + chains + chain) = ap (price usable) (omega arith) in
        let three : price usable (from + chains + chain) ≡ price usable (from + chains) + price usable chain = price_more usable (from + chains) chain in
        let held : price usable old + volume before ≤ price usable (from + chains) + 6 * weights family usable entries = few.paid in
        let counted : old + weight before ≤ from + (2 * length entries + chains) = few.count in
        record { shallow = shallow; count = omega arith; paid = omega arith }

    -- the same of an answer
    pub took_ok : {A E : Type 0} (r : Result A E) (after : Loader) → OnOk r (IsShallow usable from new after)
        → OnOk r (new + weight after ≤ old + (weight before + 2 + overflow_pages family usable (length entry.payload)))
        → OnOk r (price usable new + volume after ≤ price usable (old + overflow_pages family usable (length entry.payload)) + (volume before + 6 * entry_weight family usable entry))
        → OnOk r (TookFew family usable from (entries ++ entry ∷ []) new after)
    took_ok (Ok x) after shallow count paid = took_more after shallow count paid
    took_ok (Err e) after shallow count paid = tt

pub took_none : (family : Family) (usable from : ℕ) (loader : Loader) → IsShallow usable from from loader → weight loader ≡ 0 → volume loader ≡ 0
    → TookFew family usable from [] from loader
took_none family usable from loader shallow light void =
    let none : price usable from ≡ price usable (from + 0) = ap (price usable) (omega arith) in
    record { shallow = shallow; count = omega arith; paid = omega arith }

-- where both bounds hold, the lesser does; 64 pages more are free
pub few_pages : (family : Family) (usable from to : ℕ) (entries : List Entry) (more : ℕ) → 1 ≤ usable → more ≤ 64
    → to ≤ from + (2 * length entries + chain_pages family usable entries + 1)
    → price usable to ≤ price usable (from + chain_pages family usable entries + more) + 6 * weights family usable entries
    → to ≤ from + load_pages family usable entries
few_pages family usable from to entries more some few count paid =
    let chains : ℕ = chain_pages family usable entries in
    let w : ℕ = weights family usable entries in
    let over : ℕ = to - (from + chains) in
    let least : over ≤ 2 * length entries + 1 = omega arith in
    let most : over ≤ 3 * w / usable + 64 =
    elim (cases_lt (from + chains + more) to) [
      | inl above ↦
          let rest : ℕ = to - (from + chains + more) in
          let split : to ≡ from + chains + more + rest = omega arith in
          let whole : price usable to ≡ price usable (from + chains + more) + price usable rest = ap (price usable) split ∙ price_more usable (from + chains + more) rest in
          let times : rest * usable ≡ usable * rest = omega arith in
          let bytes : rest * usable ≤ 3 * w = omega arith in
          let divided : rest ≤ 3 * w / usable = (le-div_iff_mul-le {k = usable} {x = rest} {y = 3 * w} (omega arith)).1 bytes in
          omega arith
      | inr below ↦ omega arith
    ] in
    let both : over ≤ tree_pages family usable entries = le-min least most in
    omega arith

-- so after the pushes that were answered by Ok
pub few_pushed : (family : Family) (usable from to : ℕ) (entries : List Entry) (loader : Loader) → 1 ≤ usable → TookFew family usable from entries to loader
    → to ≤ from + load_pages family usable entries
few_pushed family usable from to entries loader some few =
    let counted : to + weight loader ≤ from + (2 * length entries + chain_pages family usable entries) = few.count in
    let paid : price usable to + volume loader ≤ price usable (from + chain_pages family usable entries) + 6 * weights family usable entries = few.paid in
    let none : price usable (from + chain_pages family usable entries) ≡ price usable (from + chain_pages family usable entries + 0) = ap (price usable) (omega arith) in
    few_pages family usable from to entries 0 some (omega arith) (omega arith) (omega arith)

-- and at the end
pub few_ended : (family : Family) (usable from old new : ℕ) (entries : List Entry) (loader : Loader) → 1 ≤ usable → TookFew family usable from entries old loader
    → new ≤ old + (weight loader + 1) → price usable new ≤ price usable (old + 57) + volume loader → new ≤ from + load_pages family usable entries
few_ended family usable from old new entries loader some few count paid =
    let chains : ℕ = chain_pages family usable entries in
    let counted : old + weight loader ≤ from + (2 * length entries + chains) = few.count in
    let held : price usable old + volume loader ≤ price usable (from + chains) + 6 * weights family usable entries = few.paid in
    let one : price usable (old + 57) ≡ price usable old + price usable 57 = price_more usable old 57 in
    let two : price usable (from + chains + 57) ≡ price usable (from + chains) + price usable 57 = price_more usable (from + chains) 57 in
    few_pages family usable from new entries 57 some (omega arith) (omega arith) (omega arith)

-- where a page was refused, one more was asked for
pub few_asked : (family : Family) (usable from old new : ℕ) (entries : List Entry) (loader : Loader) → 1 ≤ usable → TookFew family usable from entries old loader
    → new ≤ old + weight loader → price usable new ≤ price usable (old + 57) + volume loader → new + 1 ≤ from + load_pages family usable entries
few_asked family usable from old new entries loader some few count paid =
    let chains : ℕ = chain_pages family usable entries in
    let counted : old + weight loader ≤ from + (2 * length entries + chains) = few.count in
    let held : price usable old + volume loader ≤ price usable (from + chains) + 6 * weights family usable entries = few.paid in
    let one : price usable (old + 57) ≡ price usable old + price usable 57 = price_more usable old 57 in
    let two : price usable (from + chains + 58) ≡ price usable (from + chains) + price usable 58 = price_more usable (from + chains) 58 in
    let three : price usable 58 ≡ price usable 57 + price usable 1 = price_more usable 57 1 in
    let four : price usable (new + 1) ≡ price usable new + price usable 1 = price_more usable new 1 in
    few_pages family usable from (new + 1) entries 58 some (omega arith) (omega arith) (omega arith)

-- and where the last push was refused
pub few_refused : (family : Family) (usable from old new : ℕ) (entries : List Entry) (entry : Entry) (loader : Loader) → 1 ≤ usable → TookFew family usable from entries old loader
    → new ≤ old + (weight loader + overflow_pages family usable (length entry.payload) + 2)
    → price usable new ≤ price usable (old + overflow_pages family usable (length entry.payload) + 1) + (volume loader + 6 * entry_weight family usable entry)
    → new + 1 ≤ from + load_pages family usable (entries ++ entry ∷ [])
few_refused family usable from old new entries entry loader some few count paid =
    let chain : ℕ = overflow_pages family usable (length entry.payload) in
    let chains : ℕ = chain_pages family usable entries in
    let a : chain_pages family usable (entries ++ entry ∷ []) ≡ chains + chain = chains_more family usable entries entry in
    let b : weights family usable (entries ++ entry ∷ []) ≡ weights family usable entries + entry_weight family usable entry = weights_more family usable entries entry in
    let c : length (entries ++ entry ∷ []) ≡ length entries + 1 = entries_more family usable entries entry in
    let counted : old + weight loader ≤ from + (2 * length entries + chains) = few.count in
    let held : price usable old + volume loader ≤ price usable (from + chains) + 6 * weights family usable entries = few.paid in
    let one : price usable (old + chain + 1) ≡ price usable (old + (chain + 1)) = ap (price usable) (omega arith) in
    let two : price usable (old + (chain + 1)) ≡ price usable old + price usable (chain + 1) = price_more usable old (chain + 1) in
    let three : price usable (from + chain_pages family usable (entries ++ entry ∷ []) + 2) ≡ price usable (from + chains + (chain + 2)) = ap (price usable) (omega arith) in
    let four : price usable (from + chains + (chain + 2)) ≡ price usable (from + chains) + price usable (chain + 2) = price_more usable (from + chains) (chain + 2) in
    let five : price usable (chain + 2) ≡ price usable (chain + 1 + 1) = ap (price usable) (omega arith) in
    let six : price usable (chain + 1 + 1) ≡ price usable (chain + 1) + price usable 1 = price_more usable (chain + 1) 1 in
    let seven : price usable (new + 1) ≡ price usable new + price usable 1 = price_more usable new 1 in
    few_pages family usable from (new + 1) (entries ++ entry ∷ []) 2 some (omega arith) (omega arith) (omega arith)

pub few_err : {A E : Type 0} (r : Result A E) (family : Family) (usable from old new : ℕ) (entries : List Entry) (entry : Entry) (loader : Loader) (some : ℕ) → 1 ≤ usable → some ≤ 2
    → TookFew family usable from entries old loader
    → OnErr r (new ≤ old + (weight loader + overflow_pages family usable (length entry.payload) + some))
    → OnErr r (price usable new ≤ price usable (old + overflow_pages family usable (length entry.payload) + 1) + (volume loader + 6 * entry_weight family usable entry))
    → OnErr r (new + 1 ≤ from + load_pages family usable (entries ++ entry ∷ []))
few_err (Ok x) family usable from old new entries entry loader some large two few count paid = tt
few_err (Err e) family usable from old new entries entry loader some large two few count paid =
    few_refused family usable from old new entries entry loader large few (omega (arith, count)) paid

-- and where the entry was not asked for
pub few_late : (family : Family) (usable from old : ℕ) (entries : List Entry) (entry : Entry) (loader : Loader) → 1 ≤ usable → TookFew family usable from entries old loader
    → old + 1 ≤ from + load_pages family usable (entries ++ entry ∷ [])
few_late family usable from old entries entry loader large few =
    let most : price usable old ≤ price usable (old + overflow_pages family usable (length entry.payload) + 1) =
    price_le usable old (old + overflow_pages family usable (length entry.payload) + 1) (omega arith) in
    few_refused family usable from old old entries entry loader large few (omega arith) (omega arith)

-- more entries want no fewer pages
pub load_pages-more : (family : Family) (usable : ℕ) (entries more : List Entry) → 1 ≤ usable → load_pages family usable entries ≤ load_pages family usable (entries ++ more)
load_pages-more family usable entries more large =
    let chains : chain_pages family usable (entries ++ more) ≡ chain_pages family usable entries + chain_pages family usable more =
    sum_append (λ e. overflow_pages family usable (length e.payload)) entries more in
    let bytes : weights family usable (entries ++ more) ≡ weights family usable entries + weights family usable more = sum_append (entry_weight family usable) entries more in
    let many : length (entries ++ more) ≡ length entries + length more = length-append entries more in
    let a : ℕ = 2 * length entries + 1 in
    let b : ℕ = 3 * weights family usable entries / usable + 64 in
    let first : min a b ≤ a = min-le_left a b in
    let second : min a b ≤ b = min-le_right a b in
    let whole : 3 * weights family usable entries / usable ≤ 3 * weights family usable (entries ++ more) / usable =
    le-div (3 * weights family usable entries / usable) (3 * weights family usable (entries ++ more)) usable (omega arith)
    (omega (arith, div-mul-le_self (3 * weights family usable entries) usable, bytes)) in
    let trees : tree_pages family usable entries ≤ tree_pages family usable (entries ++ more) = le-min (omega arith) (omega arith) in
    omega arith

-- an answer that tells of a refused page
pub asked_as : {A Q R : Type 0} (r : Result A LoadError) → (Q → R) → IfErr r (λ e. is_load_refusal e ≡ true → Q) → IfErr r (λ e. is_load_refusal e ≡ true → R)
asked_as (Ok x) f h = tt
asked_as (Err e) f h = λ p. f (h p)

pub asked_all : {A R : Type 0} (r : Result A LoadError) → R → IfErr r (λ e. is_load_refusal e ≡ true → R)
asked_all (Ok x) h = tt
asked_all (Err e) h = λ p. h
