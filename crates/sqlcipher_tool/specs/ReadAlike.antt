-- Pages that read alike as a database: all but page 1 are the same, and page 1 is the same page of a tree, with the same fields of the freelist and
-- of what is held. Its other fields may differ.
use Rattle.std.specs.Prelude.{◌≡◌, ◌==◌, ℕ, false}
use Rattle.btree_model.specs.Content.{kept_fields}
use Rattle.btree_model.specs.Freelist.{first_trunk, free_field}
use Rattle.btree_page.specs.Kind.{kind_at}
use Rattle.btree_page.specs.Page.{read_node}
use Rattle.btree_page.specs.declared.kind.Family.{Family}
use Rattle.db_format.specs.Pages.{Pages}

pub record AreReadAlike (old new : Pages) : Type 0 where
  pub count : new.count ≡ old.count
  pub usable : new.usable ≡ old.usable
  pub accepted : (n : ℕ) → new.accepts n ≡ old.accepts n
  pub page : (n : ℕ) → (n == 1) ≡ false → new.page n ≡ old.page n
  pub node : (family : Family) → read_node family 1 (new.page 1) ≡ read_node family 1 (old.page 1)
  pub kind : kind_at 1 (new.page 1) ≡ kind_at 1 (old.page 1)
  pub trunk : first_trunk new ≡ first_trunk old
  pub free : free_field new ≡ free_field old
  pub kept : kept_fields (new.page 1) ≡ kept_fields (old.page 1)
