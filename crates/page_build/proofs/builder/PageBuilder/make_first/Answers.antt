use Rattle.std.proofs.Common.{◌≡◌, ◌+◌, ◌*◌, ◌-◌, ◌≤◌, ℕ, List, ap, sym, subst, length, ◌∙◌}
use Rattle.btree_page.specs.Page.{header_len}
use Rattle.page_build.specs.Draft.{IsBuilt, as_first, draft_of, room_of}
use Rattle.page_build.specs.Written.{used}
use Rattle.page_build.proofs.Building.{drafted, first_built, first_draft}
use Rattle.page_build.proofs.builder.PageBuilder.make_first.Goals as goal

-- the page before its header moves
record Plain (c : goal.After-self-1) : Type 0 where
  none : c.self.inside.header ≡ 0
  built : IsBuilt c.self.inside.page.items c.self.inside.kind 0 c.self.inside.count c.self.inside.start (draft_of c.self.inside.page.items c.self.inside.kind 0 c.self.inside.count).cells
  room : 100 ≤ length c.self.inside.page.items - used 0 c.self.inside.kind (draft_of c.self.inside.page.items c.self.inside.kind 0 c.self.inside.count).cells
  ends : c.header_len.result + 2 * c.self.inside.count ≡ header_len c.self.inside.kind + 2 * c.self.inside.count

plain : (c : goal.After-self-1) → Plain c
plain c =
    let a = c.self.inside in
    let none : a.header ≡ 0 = ap (λ d. d.header) c.self.view_is ∙ c.requires.plain in
    record {
      none = none;
      built = subst (λ h. IsBuilt a.page.items a.kind h a.count a.start (draft_of a.page.items a.kind h a.count).cells) none c.self.invariant;
      room =
          subst (λ h. 100 ≤ room_of (draft_of a.page.items a.kind h a.count)) none
          (subst (λ d. 100 ≤ room_of d) (sym c.self.view_is) c.requires.room);
      ends = ap (λ n. n + 2 * a.count) c.header_len.ensures.value;
    }

pub invariant_of-self : goal.invariant_of-self
invariant_of-self c =
    let a = c.self.inside in
    let p = plain c in
    let cells : List (List ℕ) = (draft_of a.page.items a.kind 0 a.count).cells in
    drafted c.move_head.new.page.items a.kind 100 a.count a.start cells
    (first_built a.page.items c.move_head.new.page.items a.kind a.count a.start (c.header_len.result + 2 * a.count) cells p.built p.room p.ends c.move_head.ensures)

pub returns : goal.returns
returns c =
    let a = c.self.inside in
    let p = plain c in
    let cells : List (List ℕ) = (draft_of a.page.items a.kind 0 a.count).cells in
    first_draft a.page.items c.move_head.new.page.items a.kind a.count a.start (c.header_len.result + 2 * a.count) cells p.built p.room p.ends c.move_head.ensures
    ∙ ap (λ h. as_first (draft_of a.page.items a.kind h a.count)) (sym p.none)
    ∙ ap as_first c.self.view_is
