-- A tree as a part of a database, and a freelist without a page.
use Rattle.std.proofs.Common.{◌≡◌, ◌≤◌, ℕ, zero, suc, ◌+◌, ◌*◌, Bool, true, false, not, List, [], ◌∷◌, ◌++◌, ◌||◌, ◌&&◌, ◌==◌, Option, Some, None, Ok, Err, if◌then◌else◌, map, length, drop, refl, ap, sym, ◌∙◌, arith}
use Rattle.std.specs.Prelude.{is_some, slice_index}
use Rattle.std.specs.List.{list_all, list_any}
use Rattle.std.proofs.lemmas.List.{append-nil, get_or_append_left}
use Rattle.db_format.specs.Bytes.{u16_at, u32_at}
use Rattle.db_format.specs.declared.defect.Defect.TheVariants.{FreeCount, TrunkFault}
use Rattle.db_format.specs.Pages.{Pages, Test, nothing}
use Rattle.db_format.specs.Record.{columns}
use Rattle.db_format.specs.Value.{Datum}
use Rattle.btree_page.specs.declared.kind.Family.{Family}
use Rattle.btree_page.specs.declared.kind.Family.TheVariants.{Table, Index}
use Rattle.btree_page.specs.declared.kind.Kind.{Kind}
use Rattle.btree_page.specs.declared.page.PageFault.TheVariants.{BadKind}
use Rattle.btree_page.specs.Kind.{family_of, kind_at, same_family}
use Rattle.btree_page.specs.Page.{is_of, read_page}
use Rattle.btree_model.specs.Content.{Entry, entry_of}
use Rattle.btree_model.specs.Finding.{Finding, Row, entries, fault, is_sound, places}
use Rattle.btree_model.specs.Freelist.{first_trunk, free_field, freelist_walk, lists_of, trunks}
use Rattle.btree_model.specs.Range.{is_in_range}
use Rattle.btree_model.specs.Records.{record_fault, record_faults, tree_part}
use Rattle.btree_model.specs.Rest.{AreUnmarked}
use Rattle.btree_model.specs.Tree.{family_or_index, root_family, tree_walk}
use Rattle.btree_model.proofs.ContextLemmas.{and_left, and_right}
use Rattle.btree_model.proofs.UnmarkedLemmas.{tree_walk_stays}
use Rattle.bulk_load.specs.Found.{HasNoFreelist, is_record}
use Rattle.bulk_load.specs.Headed.{IsHeaded}
use Rattle.bulk_load.proofs.HeadedLemmas.{IsRead, root_read}
use Rattle.bulk_load.proofs.FoundLemmas.{IsFound}

-- ---- a tree

no_fault : (n : ℕ) (values : Option (List Datum)) → is_some values ≡ true → record_fault n values ≡ []
no_fault n (Some values) has = refl
no_fault n None has = cc

no_record_faults : (rows : List Row) → list_all is_record (map entry_of rows) ≡ true → record_faults rows ≡ []
no_record_faults [] has = refl
no_record_faults (row ∷ rows) has =
    ap (λ l. l ++ record_faults rows) (no_fault row.page (columns row.payload) (and_left _ _ has)) ∙ no_record_faults rows (and_right _ _ has)

-- a tree whose entries are records, and none of whose pages has a place in an earlier part
pub part_is : (pages : Pages) (own : Test) (family : Family) (root : ℕ) (listed : List Entry) (taken : Test) → IsFound pages own family root listed
    → list_all is_record listed ≡ true → AreUnmarked taken (places (tree_walk pages family nothing root))
    → tree_part pages family taken root ≡ tree_walk pages family nothing root
part_is pages own family root listed taken f records unmarked =
    let found : List Finding = tree_walk pages family nothing root in
    ap (λ walked. walked ++ record_faults (entries walked)) (tree_walk_stays pages family root taken f.sound unmarked)
    ∙ ap (λ l. found ++ l) (no_record_faults (entries found) (ap (list_all is_record) f.gives ∙ records)) ∙ append-nil found

family_same : (family other : Family) → same_family family other ≡ true → other ≡ family
family_same Table Table same = refl
family_same Table Index same = cc
family_same Index Table same = cc
family_same Index Index same = refl

family_is : (family : Family) (kind : Option Kind) → is_of family kind ≡ true → family_or_index kind ≡ family
family_is family None is = cc
family_is family (Some kind) is = family_same family (family_of kind) is

-- the kind of its root is of its family
pub root_is_of : (pages : Pages) (own : Test) (family : Family) (root : ℕ) (listed : List Entry) → IsFound pages own family root listed
    → root_family root (pages.page root) ≡ family
root_is_of pages own family root listed f = family_is family (kind_at root (pages.page root)) (by_test (is_of family (kind_at root (pages.page root))) refl)
  where
    r : IsRead pages family root
    r = root_read pages family root f.sound

    by_test : (b : Bool) → is_of family (kind_at root (pages.page root)) ≡ b → is_of family (kind_at root (pages.page root)) ≡ true
    by_test true is = is
    by_test false is =
        let no : Err BadKind ≡ Ok r.one = sym (ap (λ b. if b then read_page root (pages.page root) else Err BadKind) is) ∙ r.reads in cc

-- ---- places

-- where each of these numbers passes the one test, and none that does passes the other
pub none_of : (own taken : Test) (ns : List ℕ) → ((n : ℕ) → own n ≡ true → taken n ≡ false) → list_all own ns ≡ true → list_any taken ns ≡ false
none_of own taken [] apart all = refl
none_of own taken (n ∷ ns) apart all = ap (λ b. b || list_any taken ns) (apart n (and_left _ _ all)) ∙ none_of own taken ns apart (and_right _ _ all)

-- ---- the header

u32_front : (head rest : List ℕ) (k : ℕ) → k + 4 ≤ length head → u32_at (head ++ rest) k ≡ u32_at head k
u32_front head rest k fits =
    ap (λ a. a * 65536 + u16_at (head ++ rest) (k + 2)) (two k (omega arith)) ∙ ap (λ a. u16_at head k * 65536 + a) (two (k + 2) (omega arith))
  where
    two : (j : ℕ) → j + 2 ≤ length head → u16_at (head ++ rest) j ≡ u16_at head j
    two j within =
        ap (λ a. a * 256 + slice_index (head ++ rest) (j + 1)) (get_or_append_left head rest 0 j (omega arith))
        ∙ ap (λ a. slice_index head j * 256 + a) (get_or_append_left head rest 0 (j + 1) (omega arith))

-- a field of the header is that of page 1
pub field_is : (head : List ℕ) (pages whole : Pages) → IsHeaded head pages whole → (k : ℕ) → length head ≡ 100 → k ≤ 96 → u32_at (whole.page 1) k ≡ u32_at head k
field_is head pages whole headed k long low = ap (λ l. u32_at l k) headed.first ∙ u32_front head (drop (length head) (pages.page 1)) k (omega arith)

no_trunk : (pages : Pages) (fuel : ℕ) → trunks pages nothing fuel 0 [] ≡ []
no_trunk pages zero = refl
no_trunk pages (suc fuel) = refl

no_lists : (pages : Pages) → first_trunk pages ≡ 0 → lists_of pages nothing ≡ []
no_lists pages none =
    ap (λ n. if n == 0 || is_in_range pages n then trunks pages nothing pages.count n [] else fault (TrunkFault 1) ∷ []) none ∙ no_trunk pages pages.count

no_freelist : (pages : Pages) → first_trunk pages ≡ 0 → free_field pages ≡ 0 → freelist_walk pages nothing ≡ []
no_freelist pages none zero_field =
    ap
    (λ found. found ++ (if is_sound found && not (length (places found) == free_field pages)
    then fault (FreeCount (free_field pages) (length (places found))) ∷ [] else []))
    (no_lists pages none)
    ∙ ap (λ n. if not (0 == n) then fault (FreeCount n 0) ∷ [] else []) zero_field

pub nothing_free : (head : List ℕ) (pages whole : Pages) → HasNoFreelist head → IsHeaded head pages whole → freelist_walk whole nothing ≡ []
nothing_free head pages whole is headed =
    no_freelist whole (field_is head pages whole headed 32 is.long (omega arith) ∙ is.trunk) (field_is head pages whole headed 36 is.long (omega arith) ∙ is.count)
