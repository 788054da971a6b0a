-- The rule of rowids, kept by the greatest rowid or key and by the last rowid.
use Rattle.std.specs.Prelude.{◌≡◌, ℕ, ℤ, Bool, true, false, List, [], Option, Some, None, int_le, int_lt, if◌then◌else◌, ⊤}
use Rattle.std.specs.List.{Contains, list_any}
use Rattle.db_format.specs.declared.defect.Defect.TheVariants.{RowidOrder}
use Rattle.btree_model.specs.Finding.{Finding, entries, keys, faults}
use Rattle.btree_model.specs.Walk.{late_faults}

-- the last rowid is above this key
abbrev pub late_of : Option ℤ → ℤ → Bool
late_of None key = false
late_of (Some rowid) key = int_lt key rowid

abbrev pub low_by : Option ℤ → ℤ → Bool
low_by None rowid = false
low_by (Some most) rowid = int_le rowid most

-- the rowid is not above the greatest rowid or key
abbrev pub low_of : Option ℤ → Option ℤ → Bool
low_of floor None = false
low_of floor (Some rowid) = low_by floor rowid

-- the greatest rowid or key after this key
abbrev pub raised_of : Option ℤ → ℤ → Option ℤ
raised_of None key = Some key
raised_of (Some most) key = if int_le key most then Some most else Some key

-- the page of an entry where it has a rowid, or the one before
abbrev pub page_after : ℕ → Option ℤ → ℕ → ℕ
page_after last None page = last
page_after last (Some rowid) page = page

-- the rowid, if there are both, is greater than the last
abbrev pub IsAfter : Option ℤ → Option ℤ → Type 0
IsAfter None rowid = ⊤
IsAfter (Some last) None = ⊤
IsAfter (Some last) (Some rowid) = int_lt last rowid ≡ true

-- the last rowid is at most the floor
abbrev pub IsCovered : Option ℤ → Option ℤ → Type 0
IsCovered None floor = ⊤
IsCovered (Some last) floor = low_by floor last ≡ true

-- `floor` is the greatest rowid or key that was met, and `last` the last rowid, of an entry on this page
pub record IsOrdered (floor last : Option ℤ) (page : ℕ) (met : List Finding) : Type 0 where
  pub low : (rowid : ℤ) → list_any (λ k. int_le rowid k) (keys met) ≡ low_by floor rowid
  pub timely : (key : ℤ) → late_of last key ≡ false → late_faults key (entries met) ≡ []
  pub late : (key : ℤ) → late_of last key ≡ true → Contains (faults (late_faults key (entries met))) (RowidOrder page)
