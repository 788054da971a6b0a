-- Pages that read as a node, and what their cells are.
use Rattle.std.proofs.Common.{◌≡◌, ◌∙◌, ℕ, suc, ◌<◌, ◌≤◌, Bool, true, false, List, [], ◌∷◌, length, map, get_or, slice_get, Option, Some, None, Ok, Err, arith, refl, sym, ap}
use Rattle.std.specs.Prelude.{is_none, nat_lt, not}
use Rattle.std.specs.List.{filter_map}
use Rattle.std.specs.Option.{option_map}
use Rattle.std.proofs.lemmas.Bool.{ltb-true, ltb-false, le-ltb, lt-ltb}
use Rattle.std.proofs.lemmas.List.{length-map}
use Rattle.std.proofs.lemmas.List.FromFn.{length-map-range_with_len, get_or-map-range_with_len}
use Rattle.std.proofs.lemmas.List.Sums.{fails_before_first, position_or_len_is, prefix_len-le-length}
use Rattle.std.proofs.lemmas.Option.{slice_get-map, slice_get-get_or}
use Rattle.btree_page.specs.Kind.{header_at, kind_at}
use Rattle.btree_page.specs.Page.{Node, array_end, cell_at, cell_count, cells_at, first_lost, node_at, read_any, read_kind, read_page}
use Rattle.btree_page.specs.declared.kind.Kind.{Kind}
use Rattle.btree_page.specs.declared.page.PageFault.TheVariants.{BadCell}

-- what is there, of a list in which all is there
all_there : {X : Type 0} (xs : List (Option X)) → ((k : ℕ) → k < length xs → is_none (get_or xs k None) ≡ false)
    → map Some (filter_map (λ x. x) xs) ≡ xs
all_there [] there = refl
all_there (None ∷ xs) there = absurd (let h : true ≡ false = there 0 (omega arith) in cc)
all_there (Some x ∷ xs) there = ap (λ rest. Some x ∷ rest) (all_there xs (λ k below. there (suc k) (omega arith)))

some_some : {X : Type 0} (o p : Option X) → option_map Some o ≡ Some p → is_none p ≡ false → o ≡ p
some_some None p is there = cc
some_some (Some x) p is there = cc

module _ (kind : Kind) (bytes : List ℕ) (header : ℕ) where
  pub count-cells_at : length (cells_at kind bytes header) ≡ cell_count bytes header
  count-cells_at = length-map-range_with_len (cell_at kind bytes header) 0 (cell_count bytes header)

  get-cells_at : (i : ℕ) → i < cell_count bytes header → get_or (cells_at kind bytes header) i None ≡ cell_at kind bytes header i
  get-cells_at i below = get_or-map-range_with_len (cell_at kind bytes header) 0 (cell_count bytes header) i i None below (omega arith)

  -- the cells up to one that is lost
  pub first_lost-is : (i : ℕ) → i < cell_count bytes header → ((k : ℕ) → k < i → is_none (cell_at kind bytes header k) ≡ false)
      → cell_at kind bytes header i ≡ None → first_lost kind bytes header ≡ i
  first_lost-is i below there lost =
      let size : length (cells_at kind bytes header) ≡ cell_count bytes header = count-cells_at in
      position_or_len_is is_none (cells_at kind bytes header) i None (omega arith)
      (λ k before. ap is_none (get-cells_at k (omega arith)) ∙ there k before)
      (λ _. ap is_none (get-cells_at i below ∙ lost))

  pub first_lost-none : ((k : ℕ) → k < cell_count bytes header → is_none (cell_at kind bytes header k) ≡ false)
      → first_lost kind bytes header ≡ cell_count bytes header
  first_lost-none there =
      let size : length (cells_at kind bytes header) ≡ cell_count bytes header = count-cells_at in
      position_or_len_is is_none (cells_at kind bytes header) (cell_count bytes header) None (omega arith)
      (λ k before. ap is_none (get-cells_at k before) ∙ there k before)
      (λ past. absurd (omega arith))

  -- a page without a lost cell
  module _ (whole : first_lost kind bytes header ≡ cell_count bytes header) where
    pub is_there : (i : ℕ) → i < cell_count bytes header → is_none (cell_at kind bytes header i) ≡ false
    is_there i below =
        ap is_none (sym (get-cells_at i below)) ∙ fails_before_first is_none (cells_at kind bytes header) i None (rw whole below)

    listed : map Some (node_at kind bytes header).cells ≡ cells_at kind bytes header
    listed =
        let size : length (cells_at kind bytes header) ≡ cell_count bytes header = count-cells_at in
        all_there (cells_at kind bytes header) (λ k below. ap is_none (get-cells_at k (omega arith)) ∙ is_there k (omega arith))

    pub count-cells : length (node_at kind bytes header).cells ≡ cell_count bytes header
    count-cells = sym (length-map (node_at kind bytes header).cells Some) ∙ ap length listed ∙ count-cells_at

    pub cell-node : (i : ℕ) → i < cell_count bytes header → slice_get (node_at kind bytes header).cells i ≡ cell_at kind bytes header i
    cell-node i below =
        let size : length (cells_at kind bytes header) ≡ cell_count bytes header = count-cells_at in
        some_some _ _
        (sym (slice_get-map Some (node_at kind bytes header).cells i) ∙ ap (λ cells. slice_get cells i) listed
        ∙ slice_get-get_or (cells_at kind bytes header) i None (omega arith) ∙ ap Some (get-cells_at i below))
        (is_there i below)

-- how a page of this kind reads, whose array lies on it
module _ (n : ℕ) (plain bytes : List ℕ) (header : ℕ) (kind : Kind) (same : bytes ≡ plain) (place : header ≡ header_at n)
    (kind_is : kind_at n plain ≡ Some kind) where
  by_kind : read_page n plain ≡ read_kind bytes header kind
  by_kind = ap (read_any plain (header_at n)) kind_is ∙ ap (λ h. read_kind plain h kind) (sym place) ∙ ap (λ b. read_kind b header kind) (sym same)

  module _ (inside : array_end kind bytes header ≤ length bytes) where
    on_page : nat_lt (length bytes) (array_end kind bytes header) ≡ false
    on_page = le-ltb (length bytes) (array_end kind bytes header) inside

    pub reads_whole : first_lost kind bytes header ≡ cell_count bytes header → read_page n plain ≡ Ok (node_at kind bytes header)
    reads_whole whole =
        let all : nat_lt (first_lost kind bytes header) (cell_count bytes header) ≡ false =
        le-ltb (first_lost kind bytes header) (cell_count bytes header) (omega arith) in
        by_kind ∙ rw (on_page, all) refl

    pub reads_lost : (i : ℕ) → first_lost kind bytes header ≡ i → i < cell_count bytes header → read_page n plain ≡ Err (BadCell i)
    reads_lost i lost below =
        let some : nat_lt (first_lost kind bytes header) (cell_count bytes header) ≡ true =
        lt-ltb (first_lost kind bytes header) (cell_count bytes header) (omega arith) in
        by_kind ∙ rw (on_page, some, lost) refl

    -- a page that reads has no lost cell
    none_lost : (page : Node) (b : Bool) → nat_lt (first_lost kind bytes header) (cell_count bytes header) ≡ b
        → read_page n plain ≡ Ok page → first_lost kind bytes header ≡ cell_count bytes header
    none_lost page true less reads =
        absurd (let lost = reads_lost _ refl (ltb-true _ _ less) in cc)
    none_lost page false less reads =
        let most = prefix_len-le-length (λ cell. not (is_none cell)) (cells_at kind bytes header) in
        let size : length (cells_at kind bytes header) ≡ cell_count bytes header = count-cells_at kind bytes header in
        let least = ltb-false (first_lost kind bytes header) (cell_count bytes header) less in
        omega (arith, most, least, size)

    pub whole : (page : Node) → read_page n plain ≡ Ok page → first_lost kind bytes header ≡ cell_count bytes header
    whole page reads = none_lost page _ refl reads

    pub node_is : (page : Node) → read_page n plain ≡ Ok page → node_at kind bytes header ≡ page
    node_is page reads = let all = reads_whole (whole page reads) in cc
