-- The leaves of the freelist, whose bytes hold no content (Database File Format, section 1.5).
use Rattle.std.specs.Prelude.{ℕ, ◌==◌, Bool, List, [], replicate, if◌then◌else◌}
use Rattle.std.specs.List.{list_any}
use Rattle.db_format.specs.Pages.{Pages, nothing}
use Rattle.btree_model.specs.Finding.{is_sound, leaves}
use Rattle.btree_model.specs.Freelist.{freelist_walk}

-- the leaves, none where the freelist has a defect
abbrev pub free_leaves : Pages → List ℕ
free_leaves pages = let found = freelist_walk pages nothing in if is_sound found then leaves found else []

abbrev pub is_leaf : Pages → ℕ → Bool
is_leaf pages n = list_any (λ m. m == n) (free_leaves pages)

-- a leaf of the freelist stands as zeros
abbrev pub with_zeros : Pages → Pages
with_zeros pages = record {
  count = pages.count;
  usable = pages.usable;
  page = λ n. if is_leaf pages n then replicate pages.usable 0 else pages.page n;
  accepts = pages.accepts;
}
