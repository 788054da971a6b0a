use Rattle.std.proofs.Common.{◌≡◌, ℕ, List, refl, ap, sym, subst, ◌∙◌, length, Ok}
use Rattle.btree_page.specs.Cell.{Cell}
use Rattle.btree_page.specs.Kind.{family_of, header_at}
use Rattle.btree_page.specs.Page.{read_node, read_page}
use Rattle.page_build.specs.Draft.{Draft, draft_of, finished}
use Rattle.page_build.specs.Written.{AreWritten, right_child}
use Rattle.page_build.proofs.Building.{headed_draft, headed_page, headed_opens, headed_reads, headed_built, headed_size, drafted}
use Rattle.page_build.proofs.builder.PageBuilder.finish.Goals as goal

pub invariant_of-self : goal.invariant_of-self
invariant_of-self c =
    let a = c.self.inside in
    let cells : List (List ℕ) = (draft_of a.page.items a.kind a.header a.count).cells in
    drafted c.write_head.new.page.items a.kind a.header a.count a.start cells
    (headed_built a.page.items c.write_head.new.page.items a.kind a.header a.count a.start c.args.right cells c.self.invariant c.write_head.ensures)

-- what is said of the page that was drafted
abbrev Says : Draft → ℕ → List ℕ → Type 0
Says draft right bytes =
    (cells : List Cell) (n : ℕ) → draft.header ≡ header_at n → AreWritten draft.kind draft.usable draft.cells cells
    → read_page n bytes ≡ Ok (record { kind = draft.kind; cells = cells; right = right_child draft.kind right })

abbrev Opens : Draft → ℕ → List ℕ → Type 0
Opens draft right bytes =
    (cells : List Cell) (n : ℕ) → draft.header ≡ header_at n → AreWritten draft.kind draft.usable draft.cells cells
    → read_node (family_of draft.kind) n bytes ≡ Ok (record { kind = draft.kind; cells = cells; right = right_child draft.kind right })

pub returns : goal.returns
returns c =
    let a = c.self.inside in
    let new : List ℕ = c.write_head.new.page.items in
    let draft : Draft = draft_of a.page.items a.kind a.header a.count in
    let same : c.deref.result.now ≡ new = c.deref.ensures.value in (
      (refl, λ _. tt, headed_draft a.page.items new a.kind a.header a.count a.start c.args.right draft.cells c.self.invariant c.write_head.ensures ∙ c.self.view_is),
      record {
        after_borrow = tt;
        page =
            same ∙ headed_page a.page.items new a.kind a.header a.count a.start c.args.right draft.cells c.self.invariant c.write_head.ensures
            ∙ ap (λ d. finished d c.args.right) c.self.view_is;
        size =
            ap length same ∙ headed_size a.page.items new a.kind a.header a.count a.start c.args.right draft.cells c.self.invariant c.write_head.ensures
            ∙ ap (λ d. d.usable) c.self.view_is;
        reads =
            subst (λ b. Says c.args.self.now c.args.right b) (sym same)
            (subst (λ d. Says d c.args.right new) c.self.view_is
            (λ cells n placed written. headed_reads a.page.items new a.kind a.header a.count a.start c.args.right draft.cells c.self.invariant c.write_head.ensures n cells placed written));
        opens =
            subst (λ b. Opens c.args.self.now c.args.right b) (sym same)
            (subst (λ d. Opens d c.args.right new) c.self.view_is
            (λ cells n placed written. headed_opens a.page.items new a.kind a.header a.count a.start c.args.right draft.cells c.self.invariant c.write_head.ensures n cells placed written));
      },
    )
