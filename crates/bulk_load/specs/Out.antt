-- Where pages are put: what its calls change, and why they fail.
use Rattle.std.specs.Prelude.{ℕ, ◌≡◌, ◌+◌, ◌≤◌, ◌⊎◌, ◌==◌, ◌&&◌, Bool, true, false, List, nat_le, nat_lt}
use Rattle.db_format.specs.Pages.{Pages, is_page}
use Rattle.db_format.specs.Source.{Rose}
use Rattle.btree_model.specs.Range.{is_in_range}
use Rattle.load_model.specs.Stands.{IsPut}
use Rattle.bulk_load.specs.declared.error.LoadError.{LoadError}
use Rattle.bulk_load.specs.declared.error.LoadError.TheVariants.{RowidOrder, Out, OutOfMemory, TooDeep}
use Rattle.bulk_load.specs.declared.out.OutError.{OutError}
use Rattle.bulk_load.specs.declared.out.OutError.TheVariants.{TooManyPages, DiskFault, EntropyFault}

-- how often the disk and the entropy have failed
pub record Faults : Type 0 where
  pub disk : ℕ
  pub entropy : ℕ

-- the same numbers were taken, and the same were put
pub record SameNumbers (old new : Pages) : Type 0 where
  pub count : new.count ≡ old.count
  pub size : new.usable ≡ old.usable
  pub accepts : (k : ℕ) → new.accepts k ≡ old.accepts k

-- n is the next number; nothing was put there
pub record IsNumberTaken (old new : Pages) (n : ℕ) : Type 0 where
  pub count : new.count ≡ old.count + 1
  pub next : n ≡ new.count
  pub low : 2 ≤ n
  pub free : new.accepts n ≡ false
  pub size : new.usable ≡ old.usable
  pub accepts : (k : ℕ) → new.accepts k ≡ old.accepts k

-- of the numbers that were put n alone may have changed
pub record MarksAt (old new : Pages) (n : ℕ) : Type 0 where
  pub count : new.count ≡ old.count
  pub size : new.usable ≡ old.usable
  pub others : (k : ℕ) → (n == k) ≡ false → new.accepts k ≡ old.accepts k
  pub stays : old.accepts n ≡ true → new.accepts n ≡ true

-- every page but n reads as before
abbrev pub SameBut : Pages → Pages → ℕ → Type 0
SameBut old new n = (k : ℕ) → (n == k) ≡ false → new.page k ≡ old.page k

-- each page was put
abbrev pub AreAllPut : Pages → Type 0
AreAllPut pages = (n : ℕ) → is_page pages n ≡ true → pages.accepts n ≡ true

-- k was taken between the two
abbrev pub is_new : Pages → Pages → ℕ → Bool
is_new old new k = nat_lt old.count k && nat_le k new.count

-- Whatever was answered: each page that was put before is put still, and only numbers that were taken in between were put, with
-- `first` also page 1. At none of those numbers a page had been put before. Where the pages are told, those that were put before read as they did.
pub record KeepsPages {S : Type 0} (pages : S → Pages) (limit : S → ℕ) (faults : S → Faults) (well : ℕ → S → Type 0) (first : Bool) (old new : S) : Type 0 where
  pub size : (pages new).usable ≡ (pages old).usable
  pub count : (pages old).count ≤ (pages new).count
  pub put : (k : ℕ) → (pages old).accepts k ≡ true → (pages new).accepts k ≡ true
  pub others : (k : ℕ) → (first && k == 1) ≡ false → is_new (pages old) (pages new) k ≡ false → (pages new).accepts k ≡ (pages old).accepts k
  pub free : (k : ℕ) → is_new (pages old) (pages new) k ≡ true → (pages old).accepts k ≡ false
  pub page : (start : ℕ) → well start old → (k : ℕ) → (pages old).accepts k ≡ true → (pages new).page k ≡ (pages old).page k
  pub limit_is : limit new ≡ limit old
  pub disk : (faults old).disk ≤ (faults new).disk
  pub entropy : (faults old).entropy ≤ (faults new).entropy

-- After Ok besides: each number that was taken in between was put, with `first` also page 1, and the pages are still told.
pub record Follows {S : Type 0} (pages : S → Pages) (limit : S → ℕ) (faults : S → Faults) (well : ℕ → S → Type 0) (first : Bool) (old new : S) : Type 0 where
  pub keeps : KeepsPages pages limit faults well first old new
  pub puts : (k : ℕ) → is_new (pages old) (pages new) k ≡ true → (pages new).accepts k ≡ true
  pub puts_first : first ≡ true → (pages new).accepts 1 ≡ true
  pub told : (start : ℕ) → well start old → well start new

-- no page was taken: all numbers were given
abbrev pub is_refusal : OutError → Bool
is_refusal (TooManyPages limit) = true
is_refusal DiskFault = false
is_refusal EntropyFault = false

abbrev pub is_load_refusal : LoadError → Bool
is_load_refusal (Out why) = is_refusal why
is_load_refusal RowidOrder = false
is_load_refusal OutOfMemory = false
is_load_refusal TooDeep = false

-- why no page was taken or put: all numbers were given, or a count of failures rose
abbrev pub HasCause : {S : Type 0} → (S → Pages) → (S → ℕ) → (S → Faults) → S → S → OutError → Type 0
HasCause pages limit faults old new (TooManyPages at_most) = (at_most ≡ limit old) × (limit old ≤ (pages new).count)
HasCause pages limit faults old new DiskFault = Rose (faults old).disk (faults new).disk
HasCause pages limit faults old new EntropyFault = Rose (faults old).entropy (faults new).entropy

-- these bytes were put at n, where nothing was put before; it is told so
pub record IsPutAs (old new : Pages) (n : ℕ) (bytes : List ℕ) : Type 0 where
  pub put : IsPut old new n
  pub range : is_in_range new n ≡ true
  pub low : 2 ≤ n
  pub here : new.page n ≡ bytes

-- the same for an entry that is pushed: want of memory is free, and the order of rowids is told apart
abbrev pub HasLoadCause : {S : Type 0} → (S → Pages) → (S → ℕ) → (S → Faults) → S → S → LoadError → Type 0
HasLoadCause pages limit faults old new RowidOrder = ⊥
HasLoadCause pages limit faults old new (Out why) = HasCause pages limit faults old new why
HasLoadCause pages limit faults old new OutOfMemory = Unit {0}
HasLoadCause pages limit faults old new TooDeep = ⊥

-- and for the end of a tree, which alone may find it too deep
abbrev pub HasEndCause : {S : Type 0} → (S → Pages) → (S → ℕ) → (S → Faults) → S → S → LoadError → Type 0
HasEndCause pages limit faults old new why = (why ≡ TooDeep) ⊎ HasLoadCause pages limit faults old new why
