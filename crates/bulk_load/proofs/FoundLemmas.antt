-- A tree of a loader's own pages, among other pages and beside a header.
use Rattle.std.proofs.Common.{◌≡◌, ℕ, ◌≤◌, Bool, true, false, List, [], ◌∷◌, ◌&&◌, ◌==◌, Some, None, map, if◌then◌else◌, length, refl, ap, sym, ◌∙◌, arith}
use Rattle.std.specs.Prelude.{nat_le, unwrap_or}
use Rattle.std.specs.List.{list_all, list_any}
use Rattle.std.specs.Option.{option_map}
use Rattle.std.specs.Cmp.Derive.{both_true}
use Rattle.btree_page.specs.declared.kind.Family.{Family}
use Rattle.btree_page.specs.declared.kind.Family.TheVariants.{Table}
use Rattle.db_format.specs.Pages.{Pages, Test, nothing}
use Rattle.btree_model.specs.Range.{is_in_range}
use Rattle.btree_model.specs.Content.{Entry, entry_of}
use Rattle.btree_model.specs.Finding.{Finding, place, leaf, entry, key, fault, refused, entries, is_sound, places}
use Rattle.btree_model.specs.Tree.{tree_walk, max_path}
use Rattle.btree_model.proofs.AcceptedLemmas.{are_accepted, walk_accepted}
use Rattle.btree_model.proofs.ContextLemmas.{and_left, and_right}
use Rattle.btree_model.proofs.KeptLemmas.{AreSame, IsSamePage, walk_kept}
use Rattle.bulk_load.specs.Found.{HasTree, Within}
use Rattle.bulk_load.specs.Headed.{IsHeaded}
use Rattle.bulk_load.specs.Out.{Faults, KeepsPages}
use Rattle.bulk_load.specs.Own.{only}
use Rattle.bulk_load.proofs.HeadedLemmas.{tree_headed}

-- ---- the walk over other pages, the same where they were accepted

same_places : (old new : Pages) → ((n : ℕ) → old.accepts n ≡ true → IsSamePage old new n) → (found : List Finding) → are_accepted false old.accepts found ≡ true → AreSame old new (places found)
same_places old new same [] has = tt
same_places old new same (place n ∷ rest) has = (same n (and_left _ _ has), same_places old new same rest (and_right _ _ has))
same_places old new same (leaf n ∷ rest) has = cc
same_places old new same (entry row ∷ rest) has = same_places old new same rest has
same_places old new same (key k ∷ rest) has = same_places old new same rest has
same_places old new same (fault d ∷ rest) has = same_places old new same rest has
same_places old new same (refused n ∷ rest) has = same_places old new same rest has

range_stays : (old new : Pages) → old.count ≤ new.count → (n : ℕ) → is_in_range old n ≡ true → is_in_range new n ≡ true
range_stays old new le n is = grind (arith, le, is)

walk_stays : (old new : Pages) → new.usable ≡ old.usable → old.count ≤ new.count → ((n : ℕ) → old.accepts n ≡ true → IsSamePage old new n)
    → (family : Family) (root : ℕ) → is_sound (tree_walk old family nothing root) ≡ true → tree_walk new family nothing root ≡ tree_walk old family nothing root
walk_stays old new size le same family root sound =
    walk_kept old new size (range_stays old new le) family nothing max_path [] root sound
    (same_places old new same (tree_walk old family nothing root) (walk_accepted false old nothing family max_path [] root sound))

-- ---- what is known of a tree

-- the tree has no defect, lists these entries, and stands on pages for which the test holds
pub record IsFound (pages : Pages) (own : Test) (family : Family) (root : ℕ) (listed : List Entry) : Type 0 where
  pub sound : is_sound (tree_walk pages family nothing root) ≡ true
  pub gives : map entry_of (entries (tree_walk pages family nothing root)) ≡ listed
  pub within : list_all own (places (tree_walk pages family nothing root)) ≡ true

own_places : (own accepts : Test) (found : List Finding) → are_accepted false (λ n. own n && accepts n) found ≡ true → list_all own (places found) ≡ true
own_places own accepts [] has = refl
own_places own accepts (place n ∷ rest) has = both_true (and_left (own n) _ (and_left _ _ has)) (own_places own accepts rest (and_right _ _ has))
own_places own accepts (leaf n ∷ rest) has = cc
own_places own accepts (entry row ∷ rest) has = own_places own accepts rest has
own_places own accepts (key k ∷ rest) has = own_places own accepts rest has
own_places own accepts (fault d ∷ rest) has = own_places own accepts rest has
own_places own accepts (refused n ∷ rest) has = own_places own accepts rest has

pub found_of : (pages : Pages) (own : Test) (family : Family) (root : ℕ) (listed : List Entry) → HasTree (only own pages) family root listed
    → IsFound (only own pages) own family root listed
found_of pages own family root listed has = go (is_sound found) refl has.lists
  where
    found : List Finding
    found = tree_walk (only own pages) family nothing root

    go : (sound : Bool) → is_sound found ≡ sound → option_map (map entry_of) (if sound then Some (entries found) else None) ≡ Some listed
        → IsFound (only own pages) own family root listed
    go true is given = record {
      sound = is;
      gives = ap (λ o. unwrap_or o []) given;
      within = own_places own pages.accepts found (walk_accepted false (only own pages) nothing family max_path [] root is);
    }
    go false is given = cc

found_same : (old new : Pages) (own : Test) (family : Family) (root : ℕ) (listed : List Entry) → tree_walk new family nothing root ≡ tree_walk old family nothing root
    → IsFound old own family root listed → IsFound new own family root listed
found_same old new own family root listed same f = record {
  sound = ap is_sound same ∙ f.sound;
  gives = ap (λ walked. map entry_of (entries walked)) same ∙ f.gives;
  within = ap (λ walked. list_all own (places walked)) same ∙ f.within;
}

page_in : (count n : ℕ) → (nat_le 2 n && nat_le n count) ≡ true → (nat_le 1 n && nat_le n count) ≡ true
page_in count n h = grind arith

pub range_same : (head : List ℕ) (pages whole : Pages) → IsHeaded head pages whole → (n : ℕ) → is_in_range pages n ≡ true → is_in_range whole n ≡ true
range_same head pages whole headed n h = ap (λ c. nat_le 2 n && nat_le n c) headed.count ∙ h

module _ (head : List ℕ) (pages whole : Pages) (headed : IsHeaded head pages whole) (own : Test) where
  same_page : (n : ℕ) → (only own pages).accepts n ≡ true → is_in_range pages n ≡ true → IsSamePage (only own pages) whole n
  same_page n put range = record { bytes = headed.others n range; accepted = headed.accepted n (page_in pages.count n range) }

  -- among all pages, with a header in front of page 1: the walk of a tree that does not stand on page 1
  walk_beside : (family : Family) (root : ℕ) (listed : List Entry) → Within pages own → HasTree (only own pages) family root listed
      → tree_walk whole family nothing root ≡ tree_walk (only own pages) family nothing root
  walk_beside family root listed within has =
      walk_stays (only own pages) whole headed.usable (omega (arith, headed.count)) (λ n put. same_page n put (within n (and_left (own n) _ put))) family root
      (found_of pages own family root listed has).sound

  pub found_beside : (family : Family) (root : ℕ) (listed : List Entry) → Within pages own → HasTree (only own pages) family root listed
      → IsFound whole own family root listed
  found_beside family root listed within has =
      found_same (only own pages) whole own family root listed (walk_beside family root listed within has) (found_of pages own family root listed has)

  -- and of the schema, whose root is page 1
  walk_headed : (listed : List Entry) → length head ≡ 100 → 1 ≤ pages.count → ((n : ℕ) → own n ≡ true → (n == 1) ≡ false → is_in_range pages n ≡ true)
      → HasTree (only own pages) Table 1 listed → tree_walk whole Table nothing 1 ≡ tree_walk (only own pages) Table nothing 1
  walk_headed listed long some within has =
      tree_headed head (only own pages) whole Table long headed.usable (range_same head pages whole headed) headed.first (headed.accepted 1 (first_page pages.count some))
      (λ n put other. same_page n put (within n (and_left (own n) _ put) other)) (found_of pages own Table 1 listed has).sound
    where
      first_page : (count : ℕ) → 1 ≤ count → (nat_le 1 1 && nat_le 1 count) ≡ true
      first_page count some = grind arith

  pub found_headed : (listed : List Entry) → length head ≡ 100 → 1 ≤ pages.count → ((n : ℕ) → own n ≡ true → (n == 1) ≡ false → is_in_range pages n ≡ true)
      → HasTree (only own pages) Table 1 listed → IsFound whole own Table 1 listed
  found_headed listed long some within has =
      found_same (only own pages) whole own Table 1 listed (walk_headed listed long some within has) (found_of pages own Table 1 listed has)

  -- each of its own pages that was put is one of its places there
  pub placed_beside : (family : Family) (root : ℕ) (listed : List Entry) → Within pages own → HasTree (only own pages) family root listed
      → (n : ℕ) → own n ≡ true → pages.accepts n ≡ true → list_any (λ m. m == n) (places (tree_walk whole family nothing root)) ≡ true
  placed_beside family root listed within has n mine put =
      ap (λ walked. list_any (λ m. m == n) (places walked)) (walk_beside family root listed within has) ∙ has.whole n (both_true mine put)

  pub placed_headed : (listed : List Entry) → length head ≡ 100 → 1 ≤ pages.count → ((n : ℕ) → own n ≡ true → (n == 1) ≡ false → is_in_range pages n ≡ true)
      → HasTree (only own pages) Table 1 listed → (n : ℕ) → own n ≡ true → pages.accepts n ≡ true
      → list_any (λ m. m == n) (places (tree_walk whole Table nothing 1)) ≡ true
  placed_headed listed long some within has n mine put =
      ap (λ walked. list_any (λ m. m == n) (places walked)) (walk_headed listed long some within has) ∙ has.whole n (both_true mine put)

-- a tree stays, whatever is put beside it: no number of its own was taken in between
module _ {S : Type 0} (pages : S → Pages) (limit : S → ℕ) (faults : S → Faults) (well : ℕ → S → Type 0) where
  pub tree_kept : (own : Test) (first : Bool) (a b : S) (start : ℕ) → well start a → KeepsPages pages limit faults well first a b
      → ((n : ℕ) → own n ≡ true → (pages b).accepts n ≡ (pages a).accepts n)
      → (family : Family) (root : ℕ) (listed : List Entry) → HasTree (only own (pages a)) family root listed → HasTree (only own (pages b)) family root listed
  tree_kept own first a b start told kept others family root listed has =
      let old : Pages = only own (pages a) in
      let new : Pages = only own (pages b) in
      let f : IsFound old own family root listed = found_of (pages a) own family root listed has in
      let walked : tree_walk new family nothing root ≡ tree_walk old family nothing root =
      walk_stays old new kept.size kept.count (λ n put. record {
        bytes = kept.page start told n (and_right (own n) _ put);
        accepted = both_true (and_left (own n) _ put) (kept.put n (and_right (own n) _ put));
      }) family root f.sound in
      let g : IsFound new own family root listed = found_same old new own family root listed walked f in
      record {
        lists = ap (λ sound. option_map (map entry_of) (if sound then Some (entries (tree_walk new family nothing root)) else None)) g.sound ∙ ap (λ l. Some l) g.gives;
        whole = λ n put.
            ap (λ found. list_any (λ m. m == n) (places found)) walked
            ∙ has.whole n (both_true (and_left (own n) _ put) (sym (others n (and_left (own n) _ put)) ∙ and_right (own n) _ put));
      }
