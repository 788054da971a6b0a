-- A page that was written reads as its cells.
use Rattle.std.proofs.Common.{◌≡◌, ◌≤◌, ◌<◌, ℕ, suc, ◌+◌, ◌-◌, ◌*◌, ◌/◌, Bool, true, false, List, [], ◌∷◌, ◌++◌, length, map, drop, replicate, Some, None, Ok, Err, if◌then◌else◌, refl, ap, sym, subst, ◌∙◌, arith, length-append}
use Rattle.std.specs.Prelude.{is_none, nat_le, nat_lt, ◌&&◌}
use Rattle.std.specs.List.{filter_map, position_or_len, range_with_len}
use Rattle.std.proofs.lemmas.List.{append_assoc, append-nil, length-replicate}
use Rattle.std.proofs.Math.Seq.{drop-append_seam}
use Rattle.db_format.specs.Bytes.{u8_at, u16_at}
use Rattle.btree_page.specs.declared.kind.Kind.{Kind}
use Rattle.btree_page.specs.declared.kind.Kind.TheVariants.{IndexInterior, TableInterior, IndexLeaf, TableLeaf}
use Rattle.btree_page.specs.declared.page.PageFault.TheVariants.{BadKind, BadCell}
use Rattle.btree_page.specs.Cell.{Cell, cell_of}
use Rattle.btree_page.specs.Kind.{family_of, header_at, kind_at, kind_of}
use Rattle.btree_page.specs.Page.{Node, array_end, array_start, cell_at, cell_count, cells_at, first_lost, header_len, is_of, node_at, read_any, read_node, read_page, right_at}
use Rattle.page_build.specs.Written.{AreWritten, IsCellWritten, are_long, joined_cells, kind_byte, offsets, page_bytes, page_head, right_child, two_bytes, used}
use Rattle.page_build.proofs.Append.{four_back, index_after, length-offsets, two_back, u16_after, u32_after}

if_then : {A : Type 0} (b : Bool) (x y : A) → b ≡ true → (if b then x else y) ≡ x
if_then true x y h = refl
if_then false x y h = cc

if_else : {A : Type 0} (b : Bool) (x y : A) → b ≡ false → (if b then x else y) ≡ y
if_else true x y h = cc
if_else false x y h = refl

on_page : (a b c : ℕ) → a ≤ b → b < c → (nat_le a b && nat_lt b c) ≡ true
on_page a b c h g = grind arith

not_below : (a b : ℕ) → a ≤ b → nat_lt b a ≡ false
not_below a b h = grind arith

long_first : (c : List ℕ) (cells : List (List ℕ)) → are_long (c ∷ cells) ≡ true → 4 ≤ length c
long_first c cells h = grind arith

long_rest : (c : List ℕ) (cells : List (List ℕ)) → are_long (c ∷ cells) ≡ true → are_long cells ≡ true
long_rest c cells h = second (nat_le 4 (length c)) (are_long cells) h
  where
    second : (a b : Bool) → (a && b) ≡ true → b ≡ true
    second true b h = h
    second false b h = cc

-- the cells of a page whose array of offsets begins behind its header
module _ (kind : Kind) (usable header : ℕ) (bytes : List ℕ) (size : length bytes ≡ usable) where
  one_back : (off i : ℕ) (front raw suf : List ℕ) (cell : Cell) → IsCellWritten kind usable raw cell → bytes ≡ front ++ (raw ++ suf)
      → length front ≡ off → u16_at bytes (array_start kind header + 2 * i) ≡ off → array_end kind bytes header ≤ off → off < usable
      → cell_at kind bytes header i ≡ Some cell
  one_back off i front raw suf cell written is long reads low high =
      ap (λ o. if nat_le (array_end kind bytes header) o && nat_lt o (length bytes) then cell_of kind (length bytes) (drop o bytes) else None) reads
      ∙ if_then (nat_le (array_end kind bytes header) off && nat_lt off (length bytes)) (cell_of kind (length bytes) (drop off bytes)) None
      (on_page (array_end kind bytes header) off (length bytes) low (omega arith))
      ∙ ap (λ u. cell_of kind u (drop off bytes)) size
      ∙ ap (λ l. cell_of kind usable l) (ap (drop off) is ∙ ap (λ k. drop k (front ++ (raw ++ suf))) (sym long) ∙ drop-append_seam front (raw ++ suf))
      ∙ written.reads suf

  pub cells_back : (raws : List (List ℕ)) (cells : List Cell) (pre mid suf : List ℕ) (i end : ℕ)
      → AreWritten kind usable raws cells → are_long raws ≡ true → bytes ≡ pre ++ (offsets end raws ++ (mid ++ (joined_cells raws ++ suf)))
      → array_start kind header + 2 * i ≡ length pre → end + length suf ≡ usable
      → array_end kind bytes header ≤ length (pre ++ (offsets end raws ++ mid))
      → map (cell_at kind bytes header) (range_with_len i (length raws)) ≡ map Some cells
  cells_back [] [] pre mid suf i end written long is at ended low = refl
  cells_back [] (cell ∷ cells) pre mid suf i end written long is at ended low = absurd written
  cells_back (raw ∷ raws) [] pre mid suf i end written long is at ended low = absurd written
  cells_back (raw ∷ raws) (cell ∷ cells) pre mid suf i end written long is at ended low =
      let off : ℕ = end - length raw in
      let four : 4 ≤ length raw = long_first raw raws long in
      let front : List ℕ = pre ++ (two_bytes off ++ (offsets off raws ++ (mid ++ joined_cells raws))) in
      let split : bytes ≡ front ++ (raw ++ suf) = is ∙ simp append_assoc refl in
      let sizes : length bytes ≡ length front + (length raw + length suf) =
      ap length split ∙ length-append front (raw ++ suf) ∙ ap (λ n. length front + n) (length-append raw suf) in
      let front_is : length front ≡ off = omega arith in
      let reads : u16_at bytes (array_start kind header + 2 * i) ≡ off =
      ap (λ l. u16_at l (array_start kind header + 2 * i)) is
      ∙ u16_after pre (two_bytes off ++ (offsets off raws ++ (mid ++ ((joined_cells raws ++ raw) ++ suf)))) (array_start kind header + 2 * i) 0 (omega arith)
      ∙ two_back off (offsets off raws ++ (mid ++ ((joined_cells raws ++ raw) ++ suf)))
      in
      let low_front : length front ≡ length (pre ++ (offsets end (raw ∷ raws) ++ mid)) + length (joined_cells raws) =
      ap length (sym (append_assoc pre (offsets end (raw ∷ raws) ++ mid) (joined_cells raws)
      ∙ ap (λ l. pre ++ l) (append_assoc (offsets end (raw ∷ raws)) mid (joined_cells raws))))
      ∙ length-append (pre ++ (offsets end (raw ∷ raws) ++ mid)) (joined_cells raws)
      in
      let whole : bytes ≡ (pre ++ two_bytes off) ++ (offsets off raws ++ (mid ++ (joined_cells raws ++ (raw ++ suf)))) = is ∙ simp append_assoc refl in
      let next : array_start kind header + 2 * (i + 1) ≡ length (pre ++ two_bytes off) =
      plus_two (array_start kind header) i (length pre) at ∙ sym (length-append pre (two_bytes off)) in
      let both : length (raw ++ suf) ≡ length raw + length suf = length-append raw suf in
      let same : pre ++ (two_bytes off ++ (offsets off raws ++ mid)) ≡ (pre ++ two_bytes off) ++ (offsets off raws ++ mid) = simp append_assoc refl in
      let later : map (cell_at kind bytes header) (range_with_len (i + 1) (length raws)) ≡ map Some cells =
      cells_back raws cells (pre ++ two_bytes off) mid (raw ++ suf) (i + 1) off written.1 (long_rest raw raws long) whole next (omega arith)
      (subst (λ l. array_end kind bytes header ≤ length l) same low) in
      ap (λ c. c ∷ map (cell_at kind bytes header) (range_with_len (i + 1) (length raws)))
      (one_back off i front raw suf cell written.0 split front_is reads (omega arith) (omega arith))
      ∙ ap (λ l. Some cell ∷ l) later
    where
      plus_two : (a i p : ℕ) → a + 2 * i ≡ p → a + 2 * (i + 1) ≡ p + 2
      plus_two a i p h = omega arith

none_lost : (cells : List Cell) → position_or_len is_none (map Some cells) ≡ length cells
none_lost [] = refl
none_lost (c ∷ cells) = let rest : position_or_len is_none (map Some cells) ≡ length cells = none_lost cells in omega arith

all_there : (cells : List Cell) → filter_map (λ c. c) (map Some cells) ≡ cells
all_there [] = refl
all_there (c ∷ cells) = ap (λ l. c ∷ l) (all_there cells)

as_many : (kind : Kind) (usable : ℕ) (raws : List (List ℕ)) (cells : List Cell) → AreWritten kind usable raws cells → length cells ≡ length raws
as_many kind usable [] [] h = refl
as_many kind usable [] (c ∷ cells) h = absurd h
as_many kind usable (r ∷ raws) [] h = absurd h
as_many kind usable (r ∷ raws) (c ∷ cells) h = ap suc (as_many kind usable raws cells h.1)

pub length-page_head : (kind : Kind) (count start right : ℕ) → length (page_head kind count start right) ≡ header_len kind
length-page_head TableLeaf count start right = refl
length-page_head IndexLeaf count start right = refl
length-page_head TableInterior count start right = refl
length-page_head IndexInterior count start right = refl

kind_back : (kind : Kind) → kind_of (kind_byte kind) ≡ Some kind
kind_back TableLeaf = refl
kind_back IndexLeaf = refl
kind_back TableInterior = refl
kind_back IndexInterior = refl

of_family : (kind : Kind) → is_of (family_of kind) (Some kind) ≡ true
of_family TableLeaf = refl
of_family IndexLeaf = refl
of_family TableInterior = refl
of_family IndexInterior = refl

right_back : (kind : Kind) (count start right header : ℕ) (pre rest : List ℕ) → length pre ≡ header
    → right_at kind (pre ++ (page_head kind count start right ++ rest)) header ≡ right_child kind right
right_back TableLeaf count start right header pre rest is = refl
right_back IndexLeaf count start right header pre rest is = refl
right_back TableInterior count start right header pre rest is =
    ap Some (u32_after pre (page_head TableInterior count start right ++ rest) (header + 8) 8 (omega arith) ∙ four_back right rest)
right_back IndexInterior count start right header pre rest is =
    ap Some (u32_after pre (page_head IndexInterior count start right ++ rest) (header + 8) 8 (omega arith) ∙ four_back right rest)

-- the page with these bytes in front
module _ (usable : ℕ) (front : List ℕ) (kind : Kind) (right : ℕ) (raws : List (List ℕ)) where
  abbrev head : List ℕ
  head = page_head kind (length raws) (usable - length (joined_cells raws)) right

  abbrev gap : List ℕ
  gap = replicate (usable - used (length front) kind raws) 0

  abbrev behind : List ℕ
  behind = offsets usable raws ++ (gap ++ joined_cells raws)

  abbrev bytes : List ℕ
  bytes = page_bytes usable front kind right raws

  pub length-page_bytes : used (length front) kind raws ≤ usable → length bytes ≡ usable
  length-page_bytes fits =
      let two : length head ≡ header_len kind = length-page_head kind (length raws) (usable - length (joined_cells raws)) right in
      let three : length (offsets usable raws) ≡ 2 * length raws = length-offsets usable raws in
      let four : length gap ≡ usable - used (length front) kind raws = length-replicate (usable - used (length front) kind raws) 0 in
      let a : length (gap ++ joined_cells raws) ≡ length gap + length (joined_cells raws) = length-append gap (joined_cells raws) in
      let b : length behind ≡ length (offsets usable raws) + length (gap ++ joined_cells raws) = length-append (offsets usable raws) (gap ++ joined_cells raws) in
      let c : length (head ++ behind) ≡ length head + length behind = length-append head behind in
      let d : length bytes ≡ length front + length (head ++ behind) = length-append front (head ++ behind) in
      sum_is (length front) (length head) (length (offsets usable raws)) (length gap) (length (joined_cells raws)) (length (gap ++ joined_cells raws)) (length behind) (length (head ++ behind)) (length bytes) two three four a b c d
    where
      sum_is : (f h o g c gc be hb by : ℕ) → h ≡ header_len kind → o ≡ 2 * length raws → g ≡ usable - used (length front) kind raws
          → gc ≡ g + length (joined_cells raws) → be ≡ o + gc → hb ≡ h + be → by ≡ length front + hb → by ≡ usable
      sum_is f h o g c gc be hb by p q r s t u v = omega arith

  module _ (n : ℕ) (cells : List Cell) (placed : length front ≡ header_at n) (written : AreWritten kind usable raws cells)
      (long : are_long raws ≡ true) (fits : used (length front) kind raws ≤ usable) where
    size : length bytes ≡ usable
    size = length-page_bytes fits

    kind_is : kind_at n bytes ≡ Some kind
    kind_is =
        ap kind_of (ap (λ h. u8_at bytes h) (sym placed ∙ plus_zero (length front)) ∙ index_after front (head ++ behind) 0) ∙ kind_back kind
      where
        plus_zero : (k : ℕ) → k ≡ k + 0
        plus_zero k = omega arith

    count_is : cell_count bytes (header_at n) ≡ length raws
    count_is = u16_after front (head ++ behind) (header_at n + 3) 3 (ap (λ k. k + 3) (sym placed)) ∙ two_back (length raws) []

    pre_length : array_start kind (header_at n) + 2 * 0 ≡ length (front ++ head)
    pre_length =
        let two : length head ≡ header_len kind = length-page_head kind (length raws) (usable - length (joined_cells raws)) right in
        let both : length (front ++ head) ≡ length front + length head = length-append front head in
        omega arith

    split : bytes ≡ (front ++ head) ++ (offsets usable raws ++ (gap ++ (joined_cells raws ++ [])))
    split = sym (append_assoc front head behind) ∙ ap (λ l. (front ++ head) ++ (offsets usable raws ++ (gap ++ l))) (sym (append-nil (joined_cells raws)))

    ends_is : array_end kind bytes (header_at n) ≡ header_at n + header_len kind + 2 * length raws
    ends_is = ap (λ k. array_start kind (header_at n) + 2 * k) count_is

    low : array_end kind bytes (header_at n) ≤ length ((front ++ head) ++ (offsets usable raws ++ gap))
    low =
        let a : length ((front ++ head) ++ (offsets usable raws ++ gap)) ≡ length (front ++ head) + length (offsets usable raws ++ gap) = length-append (front ++ head) (offsets usable raws ++ gap) in
        let b : length (offsets usable raws ++ gap) ≡ length (offsets usable raws) + length gap = length-append (offsets usable raws) gap in
        let c : length (offsets usable raws) ≡ 2 * length raws = length-offsets usable raws in
        let e = ends_is in
        let p = pre_length in
        omega arith

    listed : cells_at kind bytes (header_at n) ≡ map Some cells
    listed =
        ap (λ k. map (cell_at kind bytes (header_at n)) (range_with_len 0 k)) count_is
        ∙ cells_back kind usable (header_at n) bytes size raws cells (front ++ head) gap [] 0 usable written long split pre_length (omega arith) low

    lost_is : first_lost kind bytes (header_at n) ≡ length raws
    lost_is = ap (λ l. position_or_len is_none l) listed ∙ none_lost cells ∙ as_many kind usable raws cells written

    abbrev page : Node
    page = record { kind = kind; cells = cells; right = right_child kind right }

    node_is : node_at kind bytes (header_at n) ≡ page
    node_is =
        ap (λ l. record { kind = kind; cells = l; right = right_at kind bytes (header_at n) }) (ap (filter_map (λ c. c)) listed ∙ all_there cells)
        ∙ ap (λ r. record { kind = kind; cells = cells; right = r })
        (right_back kind (length raws) (usable - length (joined_cells raws)) right (header_at n) front behind placed)

    -- the page reads as exactly these cells and this right child
    pub page_back : read_page n bytes ≡ Ok page
    page_back =
        let ends = ends_is in
        let sized = size in
        ap (read_any bytes (header_at n)) kind_is
        ∙ if_else (nat_lt (length bytes) (array_end kind bytes (header_at n))) (Err (BadCell ((length bytes - array_start kind (header_at n)) / 2)))
        (if nat_lt (first_lost kind bytes (header_at n)) (cell_count bytes (header_at n)) then Err (BadCell (first_lost kind bytes (header_at n))) else Ok (node_at kind bytes (header_at n)))
        (not_below (array_end kind bytes (header_at n)) (length bytes) (omega arith))
        ∙ if_else (nat_lt (first_lost kind bytes (header_at n)) (cell_count bytes (header_at n))) (Err (BadCell (first_lost kind bytes (header_at n)))) (Ok (node_at kind bytes (header_at n)))
        (ap (λ k. nat_lt k (cell_count bytes (header_at n))) lost_is ∙ ap (nat_lt (length raws)) count_is ∙ not_below (length raws) (length raws) (omega arith))
        ∙ ap Ok node_is

    -- and so as a page of its family
    pub node_back : read_node (family_of kind) n bytes ≡ Ok page
    node_back =
        if_then (is_of (family_of kind) (kind_at n bytes)) (read_page n bytes) (Err BadKind) (ap (is_of (family_of kind)) kind_is ∙ of_family kind)
        ∙ page_back
