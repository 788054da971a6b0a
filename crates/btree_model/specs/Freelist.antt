-- The freelist (Database File Format, section 1.5): each trunk page, its leaves in order, then the next trunk.
use Rattle.std.specs.Prelude.{ℕ, zero, suc, ◌+◌, ◌-◌, ◌/◌, Bool, true, false, not, List, [], ◌∷◌, ◌++◌, length, nat_le, ◌==◌, ◌&&◌, ◌||◌, if◌then◌else◌}
use Rattle.std.specs.List.{list_all}
use Rattle.db_format.specs.declared.defect.Defect.TheVariants.{TrunkFault, FreeCount, PageTwice}
use Rattle.db_format.specs.Bytes.{u32_at}
use Rattle.db_format.specs.Pages.{Pages, Test}
use Rattle.btree_model.specs.Range.{is_in_range}
use Rattle.btree_model.specs.Walk.{is_met}
use Rattle.btree_model.specs.Finding.{Finding, place, leaf, fault, refused, places, is_sound}

-- header fields 32 and 36 of page 1
abbrev pub first_trunk : Pages → ℕ
first_trunk pages = u32_at (pages.page 1) 32

abbrev pub free_field : Pages → ℕ
free_field pages = u32_at (pages.page 1) 36

abbrev pub next_trunk : List ℕ → ℕ
next_trunk bytes = u32_at bytes 0

-- the `more` page numbers from `at` on
abbrev pub numbers_at : List ℕ → ℕ → ℕ → List ℕ
numbers_at bytes at zero = []
numbers_at bytes at (suc more) = u32_at bytes at ∷ numbers_at bytes (at + 4) more

abbrev pub leaf_numbers : List ℕ → List ℕ
leaf_numbers bytes = numbers_at bytes 8 (u32_at bytes 4)

-- not more leaves than fit, and each number in range
abbrev pub is_trunk : Pages → List ℕ → Bool
is_trunk pages bytes =
    nat_le (u32_at bytes 4) (pages.usable / 4 - 2) && (next_trunk bytes == 0 || is_in_range pages (next_trunk bytes))
    && list_all (is_in_range pages) (leaf_numbers bytes)

-- the leaves of a trunk
abbrev pub leaves_of : Test → List Finding → List ℕ → List Finding
leaves_of taken met [] = []
leaves_of taken met (n ∷ ns) =
    leaf n ∷ ((if is_met taken met n then fault (PageTwice n) ∷ [] else []) ++ leaves_of taken (met ++ leaf n ∷ []) ns)

-- page n, with no earlier place and accepted: is it a trunk, and what follows its leaves
abbrev pub trunk_found : Test → List Finding → ℕ → List ℕ → Bool → (List Finding → List Finding) → List Finding
trunk_found taken met n bytes false after = fault (TrunkFault n) ∷ []
trunk_found taken met n bytes true after =
    let found = leaves_of taken (met ++ place n ∷ []) (leaf_numbers bytes) in found ++ after (met ++ place n ∷ found)

abbrev pub visit_trunk : Pages → Test → List Finding → ℕ → Bool → Bool → (List Finding → List Finding) → List Finding
visit_trunk pages taken met n true accepted after = fault (PageTwice n) ∷ []
visit_trunk pages taken met n false false after = refused n ∷ []
visit_trunk pages taken met n false true after = trunk_found taken met n (pages.page n) (is_trunk pages (pages.page n)) after

-- the trunks from the number n on, 0 at the end. At most `fuel` are walked, the count of pages: of more trunks than there
-- are pages one is met twice, and the walk has ended there
abbrev pub trunks : Pages → Test → ℕ → ℕ → List Finding → List Finding
trunks pages taken zero n met = if n == 0 then [] else place n ∷ (fault (PageTwice n) ∷ [])
trunks pages taken (suc fuel) n met =
    if n == 0 then []
    else place n ∷ visit_trunk pages taken met n (is_met taken met n) (pages.accepts n) (trunks pages taken fuel (next_trunk (pages.page n)))

-- a first trunk that is out of range is a fault of page 1
abbrev pub lists_of : Pages → Test → List Finding
lists_of pages taken =
    if first_trunk pages == 0 || is_in_range pages (first_trunk pages)
    then trunks pages taken pages.count (first_trunk pages) []
    else fault (TrunkFault 1) ∷ []

-- the freelist as a part: the count in the header is looked at where the walk ends well
abbrev pub freelist_walk : Pages → Test → List Finding
freelist_walk pages taken =
    let found = lists_of pages taken in
    found ++ (if is_sound found && not (length (places found) == free_field pages)
    then fault (FreeCount (free_field pages) (length (places found))) ∷ [] else [])
