-- A whole tree (Database File Format, section 1.6).
use Rattle.std.specs.Prelude.{ℕ, List, [], Option, Some, None, if◌then◌else◌}
use Rattle.btree_page.specs.declared.kind.Family.{Family}
use Rattle.db_format.specs.Pages.{Pages, Test, nothing}
use Rattle.btree_page.specs.declared.kind.Family.TheVariants.{Index}
use Rattle.btree_page.specs.declared.kind.Kind.{Kind}
use Rattle.btree_page.specs.Kind.{family_of, kind_at}
use Rattle.btree_model.specs.Finding.{Row, Finding, entries, is_sound}
use Rattle.btree_model.specs.Walk.{walk}

-- the family of the kind of a root; a page of no kind is one of neither family, whichever is asked for
abbrev pub family_or_index : Option Kind → Family
family_or_index None = Index
family_or_index (Some kind) = family_of kind

-- the family of the tree that has page n, with these bytes, as its root
abbrev pub root_family : ℕ → List ℕ → Family
root_family n bytes = family_or_index (kind_at n bytes)

-- a path has at most so many pages
abbrev pub max_path : ℕ
max_path = 20

-- the walk of the tree with this root, where `taken` holds for the pages of the earlier parts
abbrev pub tree_walk : Pages → Family → Test → ℕ → List Finding
tree_walk pages family taken root = walk pages family taken max_path [] root

-- the entries of a tree, each with the page of its cell; none where the tree, looked at alone, has a defect
abbrev pub tree : Pages → Family → ℕ → Option (List Row)
tree pages family root =
    let found = tree_walk pages family nothing root in if is_sound found then Some (entries found) else None
