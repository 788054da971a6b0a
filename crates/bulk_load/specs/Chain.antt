-- A chain of overflow pages that was put.
use Rattle.std.specs.Prelude.{ℕ, ℤ, ◌≡◌, ◌+◌, ◌-◌, ◌*◌, ◌<◌, ◌≤◌, ◌⊎◌, ◌==◌, if◌then◌else◌, Option, true, false, List, [], ◌++◌, length, drop}
use Rattle.std.specs.List.{list_any}
use Rattle.db_format.specs.Bytes.{u32_at}
use Rattle.db_format.specs.Pages.{Pages, Test}
use Rattle.btree_model.specs.Range.{is_in_range}
use Rattle.btree_page.specs.declared.kind.Family.{Family}
use Rattle.btree_model.specs.Content.{Entry}
use Rattle.bulk_load.specs.Count.{pages_for}
use Rattle.bulk_load.specs.Out.{Faults, Follows}
use Rattle.bulk_load.specs.Own.{Covers, only}
use Rattle.load_model.specs.Open.{Open, open_found}
use Rattle.load_model.specs.Stands.{IsPut, IsLinks, OpenPagesStand, StandsBut}

-- page n was put: it names the next page, and has these bytes and then any others
pub record IsLink (old new : Pages) (n next : ℕ) (piece : List ℕ) : Type 0 where
  pub put : IsPut old new n
  pub range : is_in_range new n ≡ true
  pub names : u32_at (new.page n) 0 ≡ next
  pub rest : List ℕ
  pub bytes : drop 4 (new.page n) ≡ piece ++ rest
  pub long : length piece + length rest + 4 ≡ old.usable

-- these bytes were put as a chain from page n on, on new pages alone, to which nothing leads yet; what other open pages stand for stays
pub record IsPutChain (old new : Pages) (n : ℕ) (bytes : List ℕ) : Type 0 where
  pub more : ℕ
  pub ns : List ℕ
  pub pad : List ℕ
  pub links : IsLinks new more n ns (bytes ++ pad)
  pub first : (more ≡ 0) ⊎ (is_in_range new n ≡ true)
  pub count : more * (old.usable - 4) ≡ length bytes + length pad
  pub short : length pad < old.usable - 4
  pub size : new.usable ≡ old.usable
  pub fresh : list_any old.accepts ns ≡ false
  pub stays : (n : ℕ) → old.accepts n ≡ true → new.accepts n ≡ true
  pub keeps : (family : Family) (last : Option ℤ) (todo : List Open) (pushed : List Entry) → OpenPagesStand old family last todo pushed → StandsBut ns new family last todo pushed
  pub same : (family : Family) (last : Option ℤ) (todo : List Open) (pushed : List Entry) → OpenPagesStand old family last todo pushed → (slack : ℕ) → open_found new family slack [] todo ≡ open_found old family slack [] todo

-- A chain is put from its end: the bytes from `end` on stand, and what is left is `left` bytes and some whole pages. `only_fresh` is the
-- relation of what else may change.
pub record IsPutting {S : Type 0} (pages : S → Pages) (limit : S → ℕ) (faults : S → Faults) (well : ℕ → S → Type 0) (only_fresh : S → S → Type 0)
    (old new : S) (next : ℕ) (rest page : List ℕ) (size end left : ℕ) : Type 0 where
  pub chain : (start : ℕ) → well start old → (own : Test) → Covers false own (pages old) (pages new)
      → IsPutChain (only own (pages old)) (only own (pages new)) next (drop end rest)
  pub within : end ≤ length rest
  pub page_size : length page ≡ (pages old).usable
  pub whole : ℕ
  pub multiple : end ≡ whole * size + left
  pub small : left < size
  pub taken : (pages new).count + (whole + (if left == 0 then 0 else 1)) ≡ (pages old).count + pages_for size (length rest)
  pub part : (left ≡ 0) ⊎ (end ≡ length rest)
  pub begun : ((next ≡ 0) × (end ≡ length rest)) ⊎ ((2 ≤ next) × (end < length rest))
  pub follows : Follows pages limit faults well false old new
  pub fresh : only_fresh old new
