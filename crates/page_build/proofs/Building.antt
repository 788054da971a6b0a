-- A page that is built: a cell is added, the header written, and its bytes are those of its cells.
use Rattle.std.proofs.Common.{◌≡◌, ◌≤◌, ℕ, ◌+◌, ◌-◌, ◌*◌, List, [], ◌∷◌, ◌++◌, length, take, drop, refl, ap, sym, subst, ◌∙◌, arith, true, false, Ok, length-append, length-drop}
use Rattle.std.specs.Prelude.{nat_le, ◌&&◌}
use Rattle.std.proofs.lemmas.List.{append_assoc, append-nil, length-replicate, length-take-le}
use Rattle.std.proofs.Math.Seq.{drop-append_seam}
use Rattle.db_format.specs.Bytes.{u16_at}
use Rattle.db_format.specs.Pages.{IsUsable}
use Rattle.btree_page.specs.declared.kind.Kind.{Kind}
use Rattle.btree_page.specs.declared.kind.Kind.TheVariants.{IndexInterior, TableInterior, IndexLeaf, TableLeaf}
use Rattle.btree_page.specs.Cell.{Cell}
use Rattle.btree_page.specs.Kind.{family_of, header_at}
use Rattle.btree_page.specs.Page.{array_start, header_len, read_node, read_page}
use Rattle.page_build.specs.Draft.{IsBuilt, cells_in, draft_of, laid, with_cell}
use Rattle.page_build.specs.Written.{AreWritten, are_long, joined_cells, offsets, padded, page_bytes, page_head, right_child, two_bytes, used}
use Rattle.page_build.proofs.ReadBack.{length-page_head, node_back, page_back}
use Rattle.page_build.proofs.Append.{content-more, laid_mid, length-content-more, length-offsets, length-padded, offsets-more, take_front, two_back, u16_after, zeros-append, zeros_of}

pub header_len-most : (kind : Kind) → header_len kind ≤ 12
header_len-most TableLeaf = omega arith
header_len-most IndexLeaf = omega arith
header_len-most TableInterior = omega arith
header_len-most IndexInterior = omega arith

-- ---- the cells of a page are read off it

cut_out : (front cell suf : List ℕ) (from end : ℕ) → from ≡ length front → end ≡ length front + length cell
    → drop from (take end (front ++ (cell ++ suf))) ≡ cell
cut_out front cell suf from end is ends =
    ap (λ l. drop from (take end l)) (sym (append_assoc front cell suf))
    ∙ ap (λ n. drop from (take n ((front ++ cell) ++ suf))) (ends ∙ sym (length-append front cell))
    ∙ ap (drop from) (take_front (front ++ cell) suf) ∙ ap (λ n. drop n (front ++ cell)) is ∙ drop-append_seam front cell

pub cells_in-page : (cells : List (List ℕ)) (page pre mid suf : List ℕ) (at end : ℕ)
    → page ≡ pre ++ (offsets end cells ++ (mid ++ (joined_cells cells ++ suf))) → at ≡ length pre → end + length suf ≡ length page
    → cells_in page at end (length cells) ≡ cells
cells_in-page [] page pre mid suf at end is placed ended = refl
cells_in-page (cell ∷ cells) page pre mid suf at end is placed ended =
    let off : ℕ = end - length cell in
    let front : List ℕ = pre ++ (two_bytes off ++ (offsets off cells ++ (mid ++ joined_cells cells))) in
    let split : page ≡ front ++ (cell ++ suf) = is ∙ simp append_assoc refl in
    let long : length page ≡ length front + (length cell + length suf) =
    ap length split ∙ length-append front (cell ++ suf) ∙ ap (λ n. length front + n) (length-append cell suf) in
    let offset : u16_at page at ≡ off =
    ap (λ l. u16_at l at) is
    ∙ u16_after pre (two_bytes off ++ (offsets off cells ++ (mid ++ ((joined_cells cells ++ cell) ++ suf)))) at 0 (omega arith)
    ∙ two_back off (offsets off cells ++ (mid ++ ((joined_cells cells ++ cell) ++ suf)))
    in
    let whole : page ≡ (pre ++ two_bytes off) ++ (offsets off cells ++ (mid ++ (joined_cells cells ++ (cell ++ suf)))) =
    is ∙ simp append_assoc refl in
    let next : at + 2 ≡ length (pre ++ two_bytes off) = ap (λ n. n + 2) placed ∙ sym (length-append pre (two_bytes off)) in
    let both : length (cell ++ suf) ≡ length cell + length suf = length-append cell suf in
    let later : cells_in page (at + 2) off (length cells) ≡ cells =
    cells_in-page cells page (pre ++ two_bytes off) mid (cell ++ suf) (at + 2) off whole next (omega arith) in
    ap (λ n. drop n (take end page) ∷ cells_in page (at + 2) n (length cells)) offset
    ∙ ap (λ l. drop off (take end l) ∷ cells_in page (at + 2) off (length cells)) split
    ∙ ap (λ c. c ∷ cells_in page (at + 2) off (length cells)) (cut_out front cell suf off end (omega arith) (omega arith))
    ∙ ap (λ l. cell ∷ l) later

-- ---- what a draft is

-- the bytes of the header are any
module _ (page : List ℕ) (kind : Kind) (header : ℕ) where
  head_of : (head rest : List ℕ) → page ≡ zeros_of header ++ (head ++ rest) → length head ≡ header_len kind
      → take (header_len kind) (drop header page) ≡ head
  head_of head rest is long =
      ap (λ l. take (header_len kind) (drop header l)) is
      ∙ ap (λ n. take (header_len kind) (drop n (zeros_of header ++ (head ++ rest)))) (sym (length-replicate header 0))
      ∙ ap (take (header_len kind)) (drop-append_seam (zeros_of header) (head ++ rest))
      ∙ ap (λ n. take n (head ++ rest)) (sym long) ∙ take_front head rest

  with_head : (head rest : List ℕ) → page ≡ zeros_of header ++ (head ++ rest) → length head ≡ header_len kind
      → page ≡ zeros_of header ++ (take (header_len kind) (drop header page) ++ rest)
  with_head head rest is long = is ∙ ap (λ l. zeros_of header ++ (l ++ rest)) (sym (head_of head rest is long))

  -- a page of zeros has no cell
  pub blank_built : (usable start : ℕ) → IsUsable usable → header ≤ 100 → page ≡ zeros_of usable → start ≡ length page
      → IsBuilt page kind header 0 start []
  blank_built usable start sized low is ends =
      let few : header_len kind ≤ 12 = header_len-most kind in
      let least : 480 ≤ usable = sized.least in
      let long : length page ≡ usable = ap length is ∙ length-replicate usable 0 in
      let free : ℕ = length page - used header kind [] in
      let parts : usable ≡ header + (header_len kind + free) = omega arith in
      record {
        usable = subst IsUsable (sym long) sized;
        first = low;
        bytes =
            with_head (zeros_of (header_len kind)) ([] ++ (zeros_of free ++ []))
            (is ∙ ap zeros_of parts ∙ zeros-append header (header_len kind + free)
            ∙ ap (λ l. zeros_of header ++ l) (zeros-append (header_len kind) free ∙ ap (λ l. zeros_of (header_len kind) ++ l) (sym (append-nil (zeros_of free)))))
            (length-replicate (header_len kind) 0);
        count_is = refl;
        start_is = omega arith;
        fits = omega arith;
        long = refl;
      }

  module _ (count start : ℕ) (cells : List (List ℕ)) (built : IsBuilt page kind header count start cells) where
    abbrev old_head : List ℕ
    old_head = take (header_len kind) (drop header page)

    abbrev gap : ℕ
    gap = length page - used header kind cells

    abbrev behind : List ℕ
    behind = offsets (length page) cells ++ (zeros_of gap ++ joined_cells cells)

    pub head_long : length old_head ≡ header_len kind
    head_long =
        let few : header_len kind ≤ 12 = header_len-most kind in
        let least : 480 ≤ length page = built.usable.least in
        let low : header ≤ 100 = built.first in
        let rest : length (drop header page) ≡ length page - header = length-drop header page in
        length-take-le (header_len kind) (drop header page) (omega arith)

    -- the cells of its draft are these
    pub cells_are : cells_in page (array_start kind header) (length page) count ≡ cells
    cells_are =
        let front : length (zeros_of header ++ old_head) ≡ header + header_len kind =
        length-append (zeros_of header) old_head ∙ ap (λ n. n + length old_head) (length-replicate header 0)
        ∙ ap (λ n. header + n) head_long in
        ap (cells_in page (array_start kind header) (length page)) built.count_is
        ∙ cells_in-page cells page (zeros_of header ++ old_head) (zeros_of gap) [] (array_start kind header) (length page)
        (built.bytes ∙ sym (append_assoc (zeros_of header) old_head behind)
        ∙ ap (λ l. (zeros_of header ++ old_head) ++ (offsets (length page) cells ++ (zeros_of gap ++ l))) (sym (append-nil (joined_cells cells))))
        (sym front) (omega arith)

    -- and so it is a draft
    pub drafted : IsBuilt page kind header count start (draft_of page kind header count).cells
    drafted = subst (IsBuilt page kind header count start) (sym cells_are) built

long_more : (cells : List (List ℕ)) (cell : List ℕ) → are_long cells ≡ true → 4 ≤ length cell → are_long (cells ++ cell ∷ []) ≡ true
long_more [] cell h low = grind arith
long_more (c ∷ cells) cell h low = and_both (nat_le 4 (length c)) (are_long cells) (are_long (cells ++ cell ∷ [])) h (λ t. long_more cells cell t low)
  where
    and_both : (a b d : Rattle.std.proofs.Common.Bool) → (a && b) ≡ true → (b ≡ true → d ≡ true) → (a && d) ≡ true
    and_both true b d h f = f h
    and_both false b d h f = cc

-- ---- a cell is added

-- the cell below the others, its offset behind theirs
pub add_page : (usable header base : ℕ) (cells : List (List ℕ)) (cell zeros head : List ℕ) (from at gap less : ℕ)
    → length zeros ≡ header → length head ≡ base → gap ≡ 2 + (less + (length cell + (4 - length cell)))
    → usable ≡ header + base + 2 * length cells + gap + length (joined_cells cells)
    → from ≡ usable - length (joined_cells cells) - length (padded cell) → at ≡ header + base + 2 * length cells
    → laid at (two_bytes from) (laid from cell (zeros ++ (head ++ (offsets usable cells ++ (zeros_of gap ++ joined_cells cells)))))
    ≡ zeros ++ (head ++ (offsets usable (cells ++ padded cell ∷ []) ++ (zeros_of less ++ joined_cells (cells ++ padded cell ∷ []))))
add_page usable header base cells cell zeros head from at gap less is_zeros is_head is_gap whole is_from is_at =
    let order : List ℕ = offsets usable cells in
    let pad : List ℕ = zeros_of (4 - length cell) in
    let hole : List ℕ = zeros_of (length cell) in
    let front : List ℕ = zeros ++ (head ++ (order ++ (zeros_of 2 ++ zeros_of less))) in
    let parts : zeros_of gap ≡ zeros_of 2 ++ (zeros_of less ++ (hole ++ pad)) =
    ap (λ n. zeros_of n) is_gap ∙ zeros-append 2 (less + (length cell + (4 - length cell)))
    ∙ ap (λ l. zeros_of 2 ++ l) (zeros-append less (length cell + (4 - length cell)) ∙ ap (λ l. zeros_of less ++ l) (zeros-append (length cell) (4 - length cell)))
    in
    let split : zeros ++ (head ++ (order ++ (zeros_of gap ++ joined_cells cells))) ≡ front ++ (hole ++ (pad ++ joined_cells cells)) =
    ap (λ l. zeros ++ (head ++ (order ++ (l ++ joined_cells cells)))) parts ∙ simp append_assoc refl
    in
    let sizes : length front ≡ header + (base + (2 * length cells + (2 + less))) =
    length-append zeros (head ++ (order ++ (zeros_of 2 ++ zeros_of less)))
    ∙ ap (λ n. n + length (head ++ (order ++ (zeros_of 2 ++ zeros_of less)))) is_zeros
    ∙ ap (λ n. header + n)
    (length-append head (order ++ (zeros_of 2 ++ zeros_of less)) ∙ ap (λ n. n + length (order ++ (zeros_of 2 ++ zeros_of less))) is_head
    ∙ ap (λ n. base + n)
    (length-append order (zeros_of 2 ++ zeros_of less) ∙ ap (λ n. n + length (zeros_of 2 ++ zeros_of less)) (length-offsets usable cells)
    ∙ ap (λ n. 2 * length cells + n) (length-append (zeros_of 2) (zeros_of less) ∙ ap (λ n. 2 + n) (length-replicate less 0))))
    in
    let long : length (padded cell) ≡ length cell + (4 - length cell) = length-padded cell in
    let first : laid from cell (front ++ (hole ++ (pad ++ joined_cells cells))) ≡ front ++ (cell ++ (pad ++ joined_cells cells)) =
    laid_mid front hole (pad ++ joined_cells cells) cell from (omega arith) (length-replicate (length cell) 0)
    in
    let before : List ℕ = zeros ++ (head ++ order) in
    let long_before : length before ≡ header + (base + 2 * length cells) =
    length-append zeros (head ++ order) ∙ ap (λ n. n + length (head ++ order)) is_zeros
    ∙ ap (λ n. header + n) (length-append head order ∙ ap (λ n. n + length order) is_head ∙ ap (λ n. base + n) (length-offsets usable cells))
    in
    let again : front ++ (cell ++ (pad ++ joined_cells cells)) ≡ before ++ (zeros_of 2 ++ (zeros_of less ++ (cell ++ (pad ++ joined_cells cells)))) = simp append_assoc refl in
    let second : laid at (two_bytes from) (before ++ (zeros_of 2 ++ (zeros_of less ++ (cell ++ (pad ++ joined_cells cells)))))
    ≡ before ++ (two_bytes from ++ (zeros_of less ++ (cell ++ (pad ++ joined_cells cells)))) =
    laid_mid before (zeros_of 2) (zeros_of less ++ (cell ++ (pad ++ joined_cells cells))) (two_bytes from) at (omega arith) refl
    in
    ap (λ l. laid at (two_bytes from) (laid from cell l)) split ∙ ap (laid at (two_bytes from)) (first ∙ again) ∙ second
    ∙ ap (λ n. before ++ (two_bytes n ++ (zeros_of less ++ (cell ++ (pad ++ joined_cells cells))))) is_from
    ∙ rw (offsets-more usable cells (padded cell), content-more cells (padded cell)) (simp append_assoc refl)

length-laid : (at : ℕ) (piece page : List ℕ) → at + length piece ≤ length page → length (laid at piece page) ≡ length page
length-laid at piece page fits =
    let rest : length (drop (at + length piece) page) ≡ length page - (at + length piece) = length-drop (at + length piece) page in
    let front : length (take at page) ≡ at = length-take-le at page (omega arith) in
    length-append (take at page) (piece ++ drop (at + length piece) page)
    ∙ ap (λ n. length (take at page) + n) (length-append piece (drop (at + length piece) page)) ∙ sum_is (length (take at page)) (length (drop (at + length piece) page)) front rest
  where
    sum_is : (a b : ℕ) → a ≡ at → b ≡ length page - (at + length piece) → a + (length piece + b) ≡ length page
    sum_is a b p q = omega arith

module _ (page new : List ℕ) (kind : Kind) (header count start : ℕ) (cells : List (List ℕ)) (cell : List ℕ) (taken from at : ℕ)
    (built : IsBuilt page kind header count start cells) (is_taken : taken ≡ length cell + (4 - length cell))
    (room : taken + 2 ≤ length page - used header kind cells) (is_from : from ≡ start - taken)
    (is_at : at ≡ header + header_len kind + 2 * count) (is_new : new ≡ laid at (two_bytes from) (laid from cell page)) where
  abbrev added : List (List ℕ)
  added = cells ++ padded cell ∷ []

  count_more : length added ≡ length cells + 1
  count_more = length-append cells (padded cell ∷ [])

  content_more : length (joined_cells added) ≡ taken + length (joined_cells cells)
  content_more = length-content-more cells (padded cell) ∙ ap (λ n. n + length (joined_cells cells)) (length-padded cell ∙ sym is_taken)

  pub same_size : length new ≡ length page
  same_size =
      let counted = built.count_is in
      let ends = built.start_is in
      let fits = built.fits in
      let one : length (laid from cell page) ≡ length page = length-laid from cell page (omega arith) in
      ap length is_new ∙ length-laid at (two_bytes from) (laid from cell page) (omega arith) ∙ one

  pub add_built : IsBuilt new kind header (count + 1) from added
  add_built =
      let counted = built.count_is in
      let ends = built.start_is in
      let fits = built.fits in
      let more = count_more in
      let longer = content_more in
      let size = same_size in
      let pad : length (padded cell) ≡ length cell + (4 - length cell) = length-padded cell in
      let least : 4 ≤ length (padded cell) = omega arith in
      let less : ℕ = length page - used header kind added in
      let head : List ℕ = take (header_len kind) (drop header page) in
      let head_is : length head ≡ header_len kind = head_long page kind header count start cells built in
      let whole : new ≡ zeros_of header ++ (head ++ (offsets (length page) added ++ (zeros_of less ++ joined_cells added))) =
      is_new ∙ ap (λ l. laid at (two_bytes from) (laid from cell l)) built.bytes
      ∙ add_page (length page) header (header_len kind) cells cell (zeros_of header) head from at (length page - used header kind cells) less
      (length-replicate header 0) head_is (omega arith) (omega arith) (omega arith) (omega arith)
      in
      record {
        usable = subst IsUsable (sym size) built.usable;
        first = built.first;
        bytes =
            subst (λ u. new ≡ zeros_of header ++ (take (header_len kind) (drop header new) ++ (offsets u added ++ (zeros_of (u - used header kind added) ++ joined_cells added))))
            (sym size)
            (with_head new kind header head (offsets (length page) added ++ (zeros_of less ++ joined_cells added)) whole head_is);
        count_is = omega arith;
        start_is = omega arith;
        fits = omega arith;
        long = long_more cells (padded cell) built.long least;
      }

  -- the draft with the cell
  pub added_draft : draft_of new kind header (count + 1)
      ≡ with_cell (record { usable = length page; header = header; kind = kind; cells = cells }) cell
  added_draft =
      ap (λ l. record { usable = length new; header = header; kind = kind; cells = l }) (cells_are new kind header (count + 1) from added add_built)
      ∙ ap (λ u. record { usable = u; header = header; kind = kind; cells = added }) same_size

-- ---- the header is written

module _ (page new : List ℕ) (kind : Kind) (header count start right : ℕ) (cells : List (List ℕ)) (built : IsBuilt page kind header count start cells)
    (is_new : new ≡ laid header (page_head kind count start right) page) where
  abbrev head_bytes : List ℕ
  head_bytes = page_head kind count start right

  abbrev rest_bytes : List ℕ
  rest_bytes = offsets (length page) cells ++ (zeros_of (length page - used header kind cells) ++ joined_cells cells)

  head_size : length head_bytes ≡ header_len kind
  head_size = length-page_head kind count start right

  pub headed : new ≡ zeros_of header ++ (head_bytes ++ rest_bytes)
  headed =
      is_new ∙ ap (laid header head_bytes) built.bytes
      ∙ laid_mid (zeros_of header) (take (header_len kind) (drop header page)) rest_bytes head_bytes header (sym (length-replicate header 0))
      (head_long page kind header count start cells built ∙ sym head_size)

  pub headed_size : length new ≡ length page
  headed_size =
      let few : header_len kind ≤ 12 = header_len-most kind in
      let least : 480 ≤ length page = built.usable.least in
      let low : header ≤ 100 = built.first in
      let long = head_size in
      ap length is_new ∙ length-laid header head_bytes page (omega arith)

  pub headed_built : IsBuilt new kind header count start cells
  headed_built =
      let size = headed_size in
      let ends = built.start_is in
      let fits = built.fits in
      record {
        usable = subst IsUsable (sym size) built.usable;
        first = built.first;
        bytes =
            subst (λ u. new ≡ zeros_of header ++ (take (header_len kind) (drop header new) ++ (offsets u cells ++ (zeros_of (u - used header kind cells) ++ joined_cells cells))))
            (sym size) (with_head new kind header head_bytes rest_bytes headed head_size);
        count_is = built.count_is;
        start_is = omega arith;
        fits = omega arith;
        long = built.long;
      }

  -- these are the bytes of the page
  pub headed_page : new ≡ page_bytes (length page) (zeros_of header) kind right cells
  headed_page =
      let ends = built.start_is in
      let begin : start ≡ length page - length (joined_cells cells) = omega arith in
      headed
      ∙ ap (λ n. zeros_of header ++ (page_head kind n start right ++ rest_bytes)) built.count_is
      ∙ ap (λ n. zeros_of header ++ (page_head kind (length cells) n right ++ rest_bytes)) begin
      ∙ ap (λ n. zeros_of header ++ (page_head kind (length cells) (length page - length (joined_cells cells)) right
      ++ (offsets (length page) cells ++ (zeros_of (length page - used n kind cells) ++ joined_cells cells)))) (sym (length-replicate header 0))

  -- the draft is the same
  pub headed_draft : draft_of new kind header count ≡ draft_of page kind header count
  headed_draft =
      ap (λ l. record { usable = length new; header = header; kind = kind; cells = l })
      (cells_are new kind header count start cells headed_built ∙ sym (cells_are page kind header count start cells built))
      ∙ ap (λ u. record { usable = u; header = header; kind = kind; cells = (draft_of page kind header count).cells }) headed_size

  -- and it reads so
  pub headed_reads : (n : ℕ) (shown : List Cell) → header ≡ header_at n → AreWritten kind (length page) cells shown
      → read_page n new ≡ Ok (record { kind = kind; cells = shown; right = right_child kind right })
  headed_reads n shown placed written =
      let fits : used (length (zeros_of header)) kind cells ≤ length page = subst (λ h. used h kind cells ≤ length page) (sym (length-replicate header 0)) built.fits in
      ap (read_page n) headed_page
      ∙ page_back (length page) (zeros_of header) kind right cells n shown (length-replicate header 0 ∙ placed) written built.long fits

  pub headed_opens : (n : ℕ) (shown : List Cell) → header ≡ header_at n → AreWritten kind (length page) cells shown
      → read_node (family_of kind) n new ≡ Ok (record { kind = kind; cells = shown; right = right_child kind right })
  headed_opens n shown placed written =
      let fits : used (length (zeros_of header)) kind cells ≤ length page = subst (λ h. used h kind cells ≤ length page) (sym (length-replicate header 0)) built.fits in
      ap (read_node (family_of kind) n) headed_page
      ∙ node_back (length page) (zeros_of header) kind right cells n shown (length-replicate header 0 ∙ placed) written built.long fits

-- ---- the page header moves behind the first 100 bytes

module _ (page new : List ℕ) (kind : Kind) (count start end : ℕ) (cells : List (List ℕ)) (built : IsBuilt page kind 0 count start cells)
    (room : 100 ≤ length page - used 0 kind cells) (ends : end ≡ header_len kind + 2 * count)
    (is_new : new ≡ zeros_of 100 ++ (take end page ++ drop (100 + end) page)) where
  abbrev own_head : List ℕ
  own_head = take (header_len kind) (drop 0 page)

  abbrev less : ℕ
  less = length page - used 0 kind cells - 100

  abbrev front : List ℕ
  front = own_head ++ offsets (length page) cells

  front_long : length front ≡ end
  front_long =
      let head : length own_head ≡ header_len kind = head_long page kind 0 count start cells built in
      let order : length (offsets (length page) cells) ≡ 2 * length cells = length-offsets (length page) cells in
      let both : length front ≡ length own_head + length (offsets (length page) cells) = length-append own_head (offsets (length page) cells) in
      let counted = built.count_is in
      omega arith

  parted : page ≡ front ++ (zeros_of 100 ++ (zeros_of less ++ joined_cells cells))
  parted =
      let all : length page - used 0 kind cells ≡ 100 + less = omega arith in
      built.bytes
      ∙ ap (λ l. own_head ++ (offsets (length page) cells ++ (l ++ joined_cells cells))) (ap zeros_of all ∙ zeros-append 100 less)
      ∙ simp append_assoc refl

  taken_front : take end page ≡ front
  taken_front = ap (take end) parted ∙ ap (λ n. take n (front ++ (zeros_of 100 ++ (zeros_of less ++ joined_cells cells)))) (sym front_long)
      ∙ take_front front (zeros_of 100 ++ (zeros_of less ++ joined_cells cells))

  left_behind : drop (100 + end) page ≡ zeros_of less ++ joined_cells cells
  left_behind =
      let place : 100 + end ≡ length (front ++ zeros_of 100) =
      let both : length (front ++ zeros_of 100) ≡ length front + length (zeros_of 100) = length-append front (zeros_of 100) in
      let many : length (zeros_of 100) ≡ 100 = length-replicate {A = ℕ} 100 0 in
      let long = front_long in omega arith in
      ap (drop (100 + end)) (parted ∙ sym (append_assoc front (zeros_of 100) (zeros_of less ++ joined_cells cells)))
      ∙ ap (λ n. drop n ((front ++ zeros_of 100) ++ (zeros_of less ++ joined_cells cells))) place
      ∙ drop-append_seam (front ++ zeros_of 100) (zeros_of less ++ joined_cells cells)

  moved : new ≡ zeros_of 100 ++ (own_head ++ (offsets (length page) cells ++ (zeros_of less ++ joined_cells cells)))
  moved =
      is_new ∙ ap (λ l. zeros_of 100 ++ (l ++ drop (100 + end) page)) taken_front ∙ ap (λ l. zeros_of 100 ++ (front ++ l)) left_behind
      ∙ ap (λ l. zeros_of 100 ++ l) (append_assoc own_head (offsets (length page) cells) (zeros_of less ++ joined_cells cells))

  first_size : length new ≡ length page
  first_size =
      let counted = built.count_is in
      let many : length (zeros_of 100) ≡ 100 = length-replicate {A = ℕ} 100 0 in
      let a : length (take end page) ≡ end = ap length taken_front ∙ front_long in
      let b : length (drop (100 + end) page) ≡ length page - (100 + end) = length-drop (100 + end) page in
      let c : length (take end page ++ drop (100 + end) page) ≡ length (take end page) + length (drop (100 + end) page) = length-append (take end page) (drop (100 + end) page) in
      let d : length new ≡ length (zeros_of 100) + length (take end page ++ drop (100 + end) page) =
      ap length is_new ∙ length-append (zeros_of 100) (take end page ++ drop (100 + end) page) in
      omega arith

  pub first_built : IsBuilt new kind 100 count start cells
  first_built =
      let size = first_size in
      let lies = built.start_is in
      let fits = built.fits in
      let gone : less ≡ length page - used 100 kind cells = omega arith in
      record {
        usable = subst IsUsable (sym size) built.usable;
        first = omega arith;
        bytes =
            subst (λ u. new ≡ zeros_of 100 ++ (take (header_len kind) (drop 100 new) ++ (offsets u cells ++ (zeros_of (u - used 100 kind cells) ++ joined_cells cells))))
            (sym size)
            (with_head new kind 100 own_head (offsets (length page) cells ++ (zeros_of (length page - used 100 kind cells) ++ joined_cells cells))
            (moved ∙ ap (λ n. zeros_of 100 ++ (own_head ++ (offsets (length page) cells ++ (zeros_of n ++ joined_cells cells)))) gone)
            (head_long page kind 0 count start cells built));
        count_is = built.count_is;
        start_is = omega arith;
        fits = omega arith;
        long = built.long;
      }

  pub first_draft : draft_of new kind 100 count ≡ record { usable = length page; header = 100; kind = kind; cells = cells }
  first_draft =
      ap (λ l. record { usable = length new; header = 100; kind = kind; cells = l }) (cells_are new kind 100 count start cells first_built)
      ∙ ap (λ u. record { usable = u; header = 100; kind = kind; cells = cells }) first_size
