use Rattle.std.proofs.Common.{◌≡◌, ℕ, List, [], ◌∷◌, ◌++◌, ◌+◌, ◌/◌, ◌%◌, Bool, true, false, ◌≤◌, length, if◌then◌else◌, refl, ap, sym, ◌∙◌, arith}
use Rattle.std.proofs.lemmas.List.{append-nil}
use Rattle.btree_page.specs.Kind.{is_interior}
use Rattle.page_build.specs.Draft.{laid}
use Rattle.page_build.specs.Written.{four_bytes, leaf_head}
use Rattle.page_build.proofs.Append.{laid_twice}
use Rattle.page_build.proofs.builder.write_head.Goals as goal

-- the right child stands behind the rest on an interior page
with_child : (b : Bool) (head four : List ℕ) → b ≡ true → head ++ four ≡ head ++ (if b then four else [])
with_child true head four h = refl
with_child false head four h = cc

without_child : (b : Bool) (head four : List ℕ) → b ≡ false → head ≡ head ++ (if b then four else [])
without_child true head four h = cc
without_child false head four h = sym (append-nil head)

pub returns-then-is_interior : goal.returns-then-is_interior
returns-then-is_interior c =
    let inner : is_interior c.args.kind ≡ true = sym c.is_interior.ensures ∙ c.if-is_interior.true in
    let place : c.args.header + 8 + 4 ≤ length c.args.page.now.items = omega arith in
    c.lay-then-is_interior.ensures
    ∙ ap (λ l. laid (c.args.header + 8) l c.lay.new.page.items) c.four_bytes.ensures
    ∙ ap (laid (c.args.header + 8) (four_bytes c.args.right))
    (c.lay.ensures ∙ ap (λ l. laid c.args.header l c.args.page.now.items) c.leaf_head.ensures)
    ∙ laid_twice c.args.header (leaf_head c.args.kind c.args.count c.args.start) (four_bytes c.args.right) c.args.page.now.items place
    ∙ ap (λ l. laid c.args.header l c.args.page.now.items) (with_child (is_interior c.args.kind) (leaf_head c.args.kind c.args.count c.args.start) (four_bytes c.args.right) inner)

pub returns-else-is_interior : goal.returns-else-is_interior
returns-else-is_interior c =
    let leaf : is_interior c.args.kind ≡ false = sym c.is_interior.ensures ∙ c.if-is_interior.false in
    c.lay.ensures ∙ ap (λ l. laid c.args.header l c.args.page.now.items) c.leaf_head.ensures
    ∙ ap (λ l. laid c.args.header l c.args.page.now.items) (without_child (is_interior c.args.kind) (leaf_head c.args.kind c.args.count c.args.start) (four_bytes c.args.right) leaf)
