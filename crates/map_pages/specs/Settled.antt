-- Pages whose map pages went onto the freelist, and what they are as a database.
use Rattle.std.specs.Prelude.{◌≡◌, ◌==◌, ◌<◌, ◌+◌, ◌^◌, ◌||◌, ℕ, true, false, ◌++◌, drop}
use Rattle.std.specs.List.{list_any}
use Rattle.btree_model.specs.Content.{content, kept_fields}
use Rattle.btree_model.specs.Finding.{leaves}
use Rattle.btree_model.specs.Freelist.{first_trunk, free_field, freelist_walk}
use Rattle.btree_model.specs.Parts.{all_places, counts, is_database, parts}
use Rattle.btree_model.specs.Plain.{is_leaf, with_zeros}
use Rattle.btree_model.specs.Rest.{AreUnmarked}
use Rattle.btree_page.specs.Kind.{kind_at}
use Rattle.btree_page.specs.Page.{read_node}
use Rattle.btree_page.specs.declared.kind.Family.{Family}
use Rattle.db_format.specs.Pages.{Pages, nothing}
use Rattle.map_pages.specs.Maps.{is_map, map_number, maps_of}
use Rattle.map_pages.specs.Trunks.{findings_from, is_new_trunk, map_trunk, trunk_from}

-- The new pages are the old ones, with the map pages on the freelist. Page 1 is the same page of a tree, with the same fields of what is held.
-- The new trunks are accepted; of the leaves nothing is said, since nobody reads them.
pub record AreSettled (old new : Pages) : Type 0 where
  pub count : new.count ≡ old.count
  pub usable : new.usable ≡ old.usable
  pub node : (family : Family) → read_node family 1 (new.page 1) ≡ read_node family 1 (old.page 1)
  pub kind : kind_at 1 (new.page 1) ≡ kind_at 1 (old.page 1)
  pub kept : kept_fields (new.page 1) ≡ kept_fields (old.page 1)
  pub first : first_trunk new ≡ trunk_from old.usable (maps_of old) (first_trunk old) 0
  pub free : free_field new ≡ free_field old + maps_of old
  pub trunk : (k : ℕ) → k < maps_of old → is_new_trunk old.usable k ≡ true
      → new.page (map_number old.usable k) ≡ map_trunk old.usable (maps_of old) (first_trunk old) k
  pub lent : (k : ℕ) → k < maps_of old → is_new_trunk old.usable k ≡ true → new.accepts (map_number old.usable k) ≡ true
  pub page : (n : ℕ) → (n == 1) ≡ false → is_map old n ≡ false → new.page n ≡ old.page n
  pub accepted : (n : ℕ) → is_map old n ≡ false → new.accepts n ≡ old.accepts n

-- The database has no defect, and no part of it has a place on a map page: neither a tree nor the freelist.
pub record CanBeSettled (pages : Pages) : Type 0 where
  pub few : pages.count < 2 ^ 32
  pub sound : is_database pages ≡ true
  pub unmet : AreUnmarked (is_map pages) (all_places (parts pages))

-- As a database the new pages are the old ones: they have no defect, and the same schema, trees and content, whether leaves of the freelist
-- stand as zeros or not. Their freelist is the map pages and then the old one; so many fewer pages have no place.
pub record IsSameDatabase (old new : Pages) : Type 0 where
  pub sound : is_database new ≡ true
  pub freelist : freelist_walk new nothing ≡ findings_from old.usable 0 (maps_of old) ++ freelist_walk old nothing
  pub others : drop 1 (parts new) ≡ drop 1 (parts old)
  pub held : content new ≡ content old
  pub plain : content (with_zeros new) ≡ content (with_zeros old)
  pub leaf : (n : ℕ) → is_leaf new n ≡ (list_any (λ m. m == n) (leaves (findings_from old.usable 0 (maps_of old))) || is_leaf old n)
  pub trees : (counts new).trees ≡ (counts old).trees
  pub rows : (counts new).rows ≡ (counts old).rows
  pub free : (counts new).free ≡ (counts old).free + maps_of old
  pub unused : (counts new).unused + maps_of old ≡ (counts old).unused
