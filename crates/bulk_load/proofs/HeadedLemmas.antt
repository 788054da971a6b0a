-- The tree from page 1 is the same whatever database header stands in front.
use Rattle.std.proofs.Common.{◌≡◌, ◌≤◌, ℕ, ◌+◌, ◌-◌, ◌*◌, ◌/◌, Bool, true, false, not, List, [], ◌∷◌, ◌++◌, ◌||◌, ◌&&◌, ◌==◌, Option, Some, None, Result, Ok, Err, if◌then◌else◌, length, take, drop, map, refl, ap, sym, ◌∙◌, arith, length-append, length-drop}
use Rattle.std.specs.Prelude.{nat_le, nat_lt, slice_index, is_none}
use Rattle.std.specs.List.{filter_map, position_or_len, range_with_len, list_any}
use Rattle.std.proofs.Math.Path.{fun_ext}
use Rattle.std.proofs.Math.Seq.{drop-append-add}
use Rattle.std.proofs.lemmas.Bool.{eqb-true}
use Rattle.std.proofs.lemmas.List.{length-take-le, take-append-drop}
use Rattle.db_format.specs.Bytes.{u8_at, u16_at, u32_at}
use Rattle.db_format.specs.Pages.{Pages, nothing}
use Rattle.btree_page.specs.declared.kind.Family.{Family}
use Rattle.btree_page.specs.declared.kind.Kind.{Kind}
use Rattle.btree_page.specs.declared.page.PageFault.{PageFault}
use Rattle.btree_page.specs.declared.page.PageFault.TheVariants.{BadKind, BadCell}
use Rattle.btree_page.specs.Cell.{Cell, cell_of}
use Rattle.btree_page.specs.Kind.{is_interior, kind_at, kind_of}
use Rattle.btree_page.specs.Page.{Node, array_end, array_start, cell_at, cell_count, cells_at, first_lost, header_len, is_of, node_at, read_any, read_kind, read_node, right_at}
use Rattle.btree_page.specs.Step.{steps}
use Rattle.btree_model.specs.Range.{is_in_range}
use Rattle.btree_model.specs.Finding.{Finding, place, leaf, entry, key, fault, refused, is_sound, places}
use Rattle.btree_model.specs.Tree.{max_path, tree_walk}
use Rattle.btree_model.specs.Walk.{inside, is_met, steps_of, visit, walk}
use Rattle.btree_model.proofs.AcceptedLemmas.{are_accepted, walk_accepted}
use Rattle.btree_model.proofs.ContextLemmas.{and_left, and_right}
use Rattle.btree_model.proofs.KeptLemmas.{AreSame, IsSamePage, steps_kept, walk_kept}
use Rattle.btree_model.proofs.ProperLemmas.{are_proper, walk_proper}
use Rattle.load_model.proofs.AlikeLemmas.{met-append}
use Rattle.load_model.proofs.OpenLemmas.{page_walk}
use Rattle.page_build.proofs.Append.{index_after, u16_after}

-- ---- one page

-- a page 1, and the same with another header in front
module _ (head page : List ℕ) (long : length head ≡ 100) (enough : 100 ≤ length page) where
  abbrev other : List ℕ
  other = head ++ drop (length head) page

  abbrev rest : List ℕ
  rest = drop (length head) page

  split : page ≡ take (length head) page ++ rest
  split = sym (take-append-drop (length head) page)

  front : length (take (length head) page) ≡ 100
  front = length-take-le (length head) page (omega arith) ∙ long

  same_length : length other ≡ length page
  same_length =
      let a : length other ≡ length head + length rest = length-append head rest in
      let b : length rest ≡ length page - length head = length-drop (length head) page in
      omega arith

  same_u8 : u8_at other 100 ≡ u8_at page 100
  same_u8 =
      ap (λ k. slice_index other k) (sum_is (length head) long) ∙ index_after head rest 0
      ∙ sym (ap (λ l. slice_index l 100) split ∙ ap (λ k. slice_index (take (length head) page ++ rest) k) (sum_is (length (take (length head) page)) front)
      ∙ index_after (take (length head) page) rest 0)
    where
      sum_is : (n : ℕ) → n ≡ 100 → 100 ≡ n + 0
      sum_is n h = omega arith

  same_u16 : (k : ℕ) → 100 ≤ k → u16_at other k ≡ u16_at page k
  same_u16 k h =
      u16_after head rest k (k - 100) (omega arith)
      ∙ sym (ap (λ l. u16_at l k) split ∙ u16_after (take (length head) page) rest k (k - 100) (behind (length (take (length head) page)) front))
    where
      behind : (n : ℕ) → n ≡ 100 → k ≡ n + (k - 100)
      behind n is = omega arith

  same_u32 : (k : ℕ) → 100 ≤ k → u32_at other k ≡ u32_at page k
  same_u32 k h = ap (λ a. a * 65536 + u16_at other (k + 2)) (same_u16 k h) ∙ ap (λ a. u16_at page k * 65536 + a) (same_u16 (k + 2) (omega arith))

  same_drop : (k : ℕ) → 100 ≤ k → drop k other ≡ drop k page
  same_drop k h =
      ap (λ n. drop n other) (behind (length head) long) ∙ drop-append-add head rest (k - 100)
      ∙ sym (ap (drop k) split ∙ ap (λ n. drop n (take (length head) page ++ rest)) (behind (length (take (length head) page)) front)
      ∙ drop-append-add (take (length head) page) rest (k - 100))
    where
      behind : (n : ℕ) → n ≡ 100 → k ≡ n + (k - 100)
      behind n is = omega arith

  same_count : cell_count other 100 ≡ cell_count page 100
  same_count = same_u16 103 (omega arith)

  same_kind : kind_at 1 other ≡ kind_at 1 page
  same_kind = ap kind_of same_u8

  module _ (kind : Kind) where
    -- the cell at an offset, on a page of this size whose array of offsets ends so
    abbrev cell_from : ℕ → ℕ → ℕ → List ℕ → Option Cell
    cell_from size end offset bytes = if nat_le end offset && nat_lt offset size then cell_of kind size (drop offset bytes) else None

    behind_array : (n : ℕ) → 100 ≤ 100 + header_len kind + n
    behind_array n = omega arith

    cell_same : (index : ℕ) → cell_at kind other 100 index ≡ cell_at kind page 100 index
    cell_same index =
        let at : ℕ = array_start kind 100 + 2 * index in
        let end : ℕ = array_end kind page 100 in
        let offset : ℕ = u16_at page at in
        ap (λ s. cell_from s (array_end kind other 100) (u16_at other at) other) same_length
        ∙ ap (λ n. cell_from (length page) (array_start kind 100 + 2 * n) (u16_at other at) other) same_count
        ∙ ap (λ o. cell_from (length page) end o other) (same_u16 at (behind_array (2 * index)))
        ∙ at_offset offset (nat_le end offset && nat_lt offset (length page)) refl
      where
        past : (end offset size : ℕ) → 100 ≤ end → (nat_le end offset && nat_lt offset size) ≡ true → 100 ≤ offset
        past end offset size h is = grind arith

        at_offset : (offset : ℕ) (b : Bool) → (nat_le (array_end kind page 100) offset && nat_lt offset (length page)) ≡ b
            → cell_from (length page) (array_end kind page 100) offset other ≡ cell_from (length page) (array_end kind page 100) offset page
        at_offset offset false is = ap (λ b. if b then cell_of kind (length page) (drop offset other) else None) is ∙ sym (ap (λ b. if b then cell_of kind (length page) (drop offset page) else None) is)
        at_offset offset true is =
            ap (λ l. if nat_le (array_end kind page 100) offset && nat_lt offset (length page) then cell_of kind (length page) l else None)
            (same_drop offset (past (array_end kind page 100) offset (length page) (behind_array (2 * cell_count page 100)) is))

    same_cells : cells_at kind other 100 ≡ cells_at kind page 100
    same_cells =
        ap (λ f. map f (range_with_len 0 (cell_count other 100))) (fun_ext cell_same)
        ∙ ap (λ n. map (cell_at kind page 100) (range_with_len 0 n)) same_count

    same_right : right_at kind other 100 ≡ right_at kind page 100
    same_right = ap (λ n. if is_interior kind then Some n else None) (same_u32 108 (omega arith))

    -- what a page of this size reads as, of which this is known
    abbrev reading : ℕ → ℕ → List (Option Cell) → Option ℕ → Result Node PageFault
    reading size count cells right =
        if nat_lt size (array_start kind 100 + 2 * count) then Err (BadCell ((size - array_start kind 100) / 2))
        else if nat_lt (position_or_len is_none cells) count then Err (BadCell (position_or_len is_none cells))
        else Ok (record { kind = kind; cells = filter_map (λ cell. cell) cells; right = right })

    kind_same : read_kind other 100 kind ≡ read_kind page 100 kind
    kind_same =
        ap (λ s. reading s (cell_count other 100) (cells_at kind other 100) (right_at kind other 100)) same_length
        ∙ ap (λ n. reading (length page) n (cells_at kind other 100) (right_at kind other 100)) same_count
        ∙ ap (λ l. reading (length page) (cell_count page 100) l (right_at kind other 100)) same_cells
        ∙ ap (λ r. reading (length page) (cell_count page 100) (cells_at kind page 100) r) same_right

  any_same : (kind : Option Kind) → read_any other 100 kind ≡ read_any page 100 kind
  any_same None = refl
  any_same (Some kind) = kind_same kind

  node_same : (family : Family) → read_node family 1 other ≡ read_node family 1 page
  node_same family =
      ap (λ k. if is_of family k then read_any other 100 k else Err BadKind) same_kind
      ∙ ap (λ r. if is_of family (kind_at 1 page) then r else Err BadKind) (any_same (kind_at 1 page))

-- a page 1 that can be read has a header
reads_long : (family : Family) (page : List ℕ) (one : Node) → read_node family 1 page ≡ Ok one → 100 ≤ length page
reads_long family page one reads = by_family (is_of family (kind_at 1 page)) refl reads
  where
    by_size : (kind : Kind) (b : Bool) → nat_lt (length page) (array_end kind page 100) ≡ b
        → (if b then Err (BadCell ((length page - array_start kind 100) / 2)) else if nat_lt (first_lost kind page 100) (cell_count page 100)
        then Err (BadCell (first_lost kind page 100)) else Ok (node_at kind page 100)) ≡ Ok one → 100 ≤ length page
    by_size kind true is h = cc
    by_size kind false is h = least (header_len kind) (2 * cell_count page 100) (length page) is
      where
        least : (a b n : ℕ) → nat_lt n (100 + a + b) ≡ false → 100 ≤ n
        least a b n h = grind arith

    by_kind : (kind : Option Kind) → read_any page 100 kind ≡ Ok one → 100 ≤ length page
    by_kind None h = cc
    by_kind (Some kind) h = by_size kind (nat_lt (length page) (array_end kind page 100)) refl h

    by_family : (b : Bool) → is_of family (kind_at 1 page) ≡ b → read_node family 1 page ≡ Ok one → 100 ≤ length page
    by_family true is h = by_kind (kind_at 1 page) (sym (ap (λ b. if b then read_any page 100 (kind_at 1 page) else Err BadKind) is) ∙ h)
    by_family false is h = let no : Err BadKind ≡ Ok one = sym (ap (λ b. if b then read_any page 100 (kind_at 1 page) else Err BadKind) is) ∙ h in cc

-- ---- the tree

-- the root of a tree without a defect is accepted and read
pub record IsRead (pages : Pages) (family : Family) (root : ℕ) : Type 0 where
  pub accepted : pages.accepts root ≡ true
  pub one : Node
  pub reads : read_node family root (pages.page root) ≡ Ok one

pub root_read : (pages : Pages) (family : Family) (root : ℕ) → is_sound (tree_walk pages family nothing root) ≡ true → IsRead pages family root
unfolding walk
root_read pages family root sound = by_accepted (pages.accepts root) refl sound
  where
    by_reading : (reading : Result Node PageFault) → pages.accepts root ≡ true → read_node family root (pages.page root) ≡ reading
        → is_sound (inside pages nothing (walk pages family nothing 19) [] root reading) ≡ true → IsRead pages family root
    by_reading (Ok one) accepted is h = record { accepted = accepted; one = one; reads = is }
    by_reading (Err why) accepted is h = cc

    by_accepted : (b : Bool) → pages.accepts root ≡ b → is_sound (visit pages family nothing (walk pages family nothing 19) [] root false b) ≡ true → IsRead pages family root
    by_accepted true is h = by_reading (read_node family root (pages.page root)) is refl h
    by_accepted false is h = cc

differs : (met : List Finding) (n : ℕ) → is_met nothing met 1 ≡ true → not (is_met nothing met n) ≡ true → (n == 1) ≡ false
differs met n one new = by_case (n == 1) refl
  where
    by_case : (b : Bool) → (n == 1) ≡ b → (n == 1) ≡ false
    by_case false is = is
    by_case true is = let no : not true ≡ true = sym (ap (λ b. not b) (ap (is_met nothing met) (eqb-true n 1 is) ∙ one)) ∙ new in cc

-- behind page 1 no place is page 1, so each of them is the same
module _ (old new : Pages) (same : (n : ℕ) → old.accepts n ≡ true → (n == 1) ≡ false → IsSamePage old new n) where
  still : (met : List Finding) (x : Finding) → is_met nothing met 1 ≡ true → is_met nothing (met ++ x ∷ []) 1 ≡ true
  still met x one = met-append nothing met (x ∷ []) 1 ∙ ap (λ b. b || list_any (λ m. m == 1) (places (x ∷ []))) one

  same_behind : (met found : List Finding) → is_met nothing met 1 ≡ true → are_proper nothing met found ≡ true
      → are_accepted false old.accepts found ≡ true → AreSame old new (places found)
  same_behind met [] one proper accepted = tt
  same_behind met (place n ∷ xs) one proper accepted = (
    same n (and_left _ _ accepted) (differs met n one (and_left _ _ proper)),
    same_behind (met ++ place n ∷ []) xs (still met (place n) one) (and_right _ _ proper) (and_right _ _ accepted),
  )
  same_behind met (leaf n ∷ xs) one proper accepted = cc
  same_behind met (entry row ∷ xs) one proper accepted = same_behind (met ++ entry row ∷ []) xs (still met (entry row) one) (and_right _ _ proper) accepted
  same_behind met (key k ∷ xs) one proper accepted = same_behind (met ++ key k ∷ []) xs (still met (key k) one) proper accepted
  same_behind met (fault d ∷ xs) one proper accepted = same_behind (met ++ fault d ∷ []) xs (still met (fault d) one) proper accepted
  same_behind met (refused n ∷ xs) one proper accepted = same_behind (met ++ refused n ∷ []) xs (still met (refused n) one) proper accepted

-- the walk from page 1 does not look at the header
pub tree_headed : (head : List ℕ) (old new : Pages) (family : Family) → length head ≡ 100 → new.usable ≡ old.usable
    → ((n : ℕ) → is_in_range old n ≡ true → is_in_range new n ≡ true) → new.page 1 ≡ head ++ drop (length head) (old.page 1) → new.accepts 1 ≡ true
    → ((n : ℕ) → old.accepts n ≡ true → (n == 1) ≡ false → IsSamePage old new n) → is_sound (tree_walk old family nothing 1) ≡ true
    → tree_walk new family nothing 1 ≡ tree_walk old family nothing 1
tree_headed head old new family long size range first lent same sound =
    let r : IsRead old family 1 = root_read old family 1 sound in
    let todo = steps r.one.cells r.one.right in
    let found : List Finding = steps_of old nothing (walk old family nothing 19) (place 1 ∷ []) 1 todo in
    let is : tree_walk old family nothing 1 ≡ place 1 ∷ found = page_walk old family 0 19 [] 1 r.one refl r.accepted r.reads in
    let reads : read_node family 1 (new.page 1) ≡ Ok r.one =
    ap (read_node family 1) first ∙ node_same head (old.page 1) long (reads_long family (old.page 1) r.one r.reads) family ∙ r.reads in
    let proper : are_proper nothing [] (place 1 ∷ found) ≡ true = ap (are_proper nothing []) (sym is) ∙ walk_proper old nothing family max_path [] 1 sound in
    let accepted : are_accepted false old.accepts (place 1 ∷ found) ≡ true =
    ap (are_accepted false old.accepts) (sym is) ∙ walk_accepted false old nothing family max_path [] 1 sound in
    page_walk new family 0 19 [] 1 r.one refl lent reads
    ∙ ap (λ l. place 1 ∷ l)
    (steps_kept old new size range nothing (walk old family nothing 19) (walk new family nothing 19)
    (λ met c. walk_kept old new size range family nothing 19 met c) todo (place 1 ∷ []) 1 (ap is_sound (sym is) ∙ sound)
    (same_behind old new same (place 1 ∷ []) found refl proper (and_right _ _ accepted)))
    ∙ sym is
