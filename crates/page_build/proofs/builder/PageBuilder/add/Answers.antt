use Rattle.std.proofs.Common.{◌≡◌, ℕ, ◌+◌, ◌*◌, ◌-◌, ◌≤◌, max, List, length, refl, ap, sym, subst, ◌∙◌, arith}
use Rattle.btree_page.specs.Page.{header_len}
use Rattle.page_build.specs.Draft.{draft_of, laid, room_of, with_cell}
use Rattle.page_build.specs.Written.{two_bytes}
use Rattle.page_build.proofs.Building.{add_built, added_draft, drafted}
use Rattle.page_build.proofs.builder.PageBuilder.add.Goals.{then-cell-lt4, else-cell-lt4}
use Rattle.page_build.proofs.builder.PageBuilder.add.Goals as goal

-- what the two calls of `lay` leave
record Lays (c : goal.After-self-2-1) (page : List ℕ) (start header count base room : ℕ) (cell : List ℕ) : Type 0 where
  taken : c.if-cell-lt4.from ≡ length cell + (4 - length cell)
  fits : c.if-cell-lt4.from + 2 ≤ room
  at : c.self.inside.header + c.header_len.result + 2 * c.self.inside.count ≡ header + base + 2 * count
  new : c.lay-2.new.page.items ≡ laid (c.self.inside.header + c.header_len.result + 2 * c.self.inside.count) (two_bytes (start - c.if-cell-lt4.from)) (laid (start - c.if-cell-lt4.from) cell page)

lays : (c : goal.After-self-2-1) → Lays c c.self.inside.page.items c.self.inside.start c.self.inside.header c.self.inside.count (header_len c.self.inside.kind)
    (room_of (draft_of c.self.inside.page.items c.self.inside.kind c.self.inside.header c.self.inside.count)) c.args.cell.now
lays c =
    let a = c.self.inside in
    let room : max 4 (length c.args.cell.now) + 2 ≤ room_of (draft_of a.page.items a.kind a.header a.count) =
    subst (λ d. max 4 (length c.args.cell.now) + 2 ≤ room_of d) (sym c.self.view_is) c.requires in
    record {
      taken = elim c.if-cell-lt4.branch [ then-cell-lt4 w ↦ omega arith | else-cell-lt4 w ↦ omega arith ];
      fits = elim c.if-cell-lt4.branch [ then-cell-lt4 w ↦ omega arith | else-cell-lt4 w ↦ omega arith ];
      at = ap (λ n. a.header + n + 2 * a.count) c.header_len.ensures.value;
      new =
          c.lay-2.ensures
          ∙ ap (λ l. laid (a.header + c.header_len.result + 2 * a.count) l c.lay.new.page.items) c.two_bytes.ensures
          ∙ ap (laid (a.header + c.header_len.result + 2 * a.count) (two_bytes (a.start - c.if-cell-lt4.from))) c.lay.ensures;
    }

pub invariant_of-self : goal.invariant_of-self
invariant_of-self c =
    let a = c.self.inside in
    let l = lays c in
    let cells : List (List ℕ) = (draft_of a.page.items a.kind a.header a.count).cells in
    drafted c.lay-2.new.page.items a.kind a.header (a.count + 1) (a.start - c.if-cell-lt4.from) _
    (add_built a.page.items c.lay-2.new.page.items a.kind a.header a.count a.start cells c.args.cell.now c.if-cell-lt4.from (a.start - c.if-cell-lt4.from)
    (a.header + c.header_len.result + 2 * a.count) c.self.invariant l.taken l.fits refl l.at l.new)

pub returns : goal.returns
returns c =
    let a = c.self.inside in
    let l = lays c in
    let cells : List (List ℕ) = (draft_of a.page.items a.kind a.header a.count).cells in
    added_draft a.page.items c.lay-2.new.page.items a.kind a.header a.count a.start cells c.args.cell.now c.if-cell-lt4.from (a.start - c.if-cell-lt4.from)
    (a.header + c.header_len.result + 2 * a.count) c.self.invariant l.taken l.fits refl l.at l.new
    ∙ ap (λ d. with_cell d c.args.cell.now) c.self.view_is
