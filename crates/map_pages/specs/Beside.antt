-- Pages of which the map pages are kept back, and a walk of them.
use Rattle.std.specs.Prelude.{◌≡◌, ◌⊎◌, ◌&&◌, ◌==◌, ℕ, Bool, true, false, not, Result, Ok, Err}
use Rattle.std.specs.List.{list_any}
use Rattle.db_format.specs.Pages.{Pages, nothing}
use Rattle.btree_model.specs.Finding.{leaves}
use Rattle.btree_model.specs.Freelist.{freelist_walk}
use Rattle.btree_model.specs.Parts.{is_database, parts}
use Rattle.btree_walk.specs.declared.error.WalkError.{WalkError}
use Rattle.btree_walk.specs.declared.error.WalkError.TheVariants.{Defect, Source, OutOfMemory}
use Rattle.map_pages.specs.Maps.{is_map}
use Rattle.map_pages.specs.Settled.{CanBeSettled}
use Rattle.map_pages.specs.declared.beside.MapRefusal.{MapRefusal}
use Rattle.map_pages.specs.declared.beside.MapRefusal.TheVariants.{MapPage, Refused}
use Rattle.schema_map.specs.Census.{IsWhole}
use Rattle.schema_map.specs.Parts.{IsEarliest}
use Rattle.schema_map.specs.declared.counts.Census.{Census}

-- the same pages, of which no map page is accepted
abbrev pub without_maps : Pages → Pages
without_maps pages = record {
  count = pages.count;
  usable = pages.usable;
  page = pages.page;
  accepts = λ n. pages.accepts n && not (is_map pages n);
}

-- Why such a page was not given: it is a map page, or the source of all pages refused it.
abbrev pub RefusesBeside : {R : Type 0} → (Pages → ℕ → R → Type 0) → Pages → ℕ → MapRefusal R → Type 0
RefusesBeside refuses pages n (MapPage page) = (page ≡ n) × (is_map pages n ≡ true)
RefusesBeside refuses pages n (Refused refusal) = (inner : Pages) × (pages ≡ without_maps inner) × refuses inner n refusal

-- the refusal says that the device failed
abbrev pub is_fault_beside : {R : Type 0} → (R → Bool) → MapRefusal R → Bool
is_fault_beside is_fault (MapPage page) = false
is_fault_beside is_fault (Refused refusal) = is_fault refusal

-- a map page is a leaf of the freelist of these pages, which have no defect
pub record IsMapLeaf (pages : Pages) (n : ℕ) : Type 0 where
  pub sound : is_database pages ≡ true
  pub map : is_map pages n ≡ true
  pub leaf : list_any (λ m. m == n) (leaves (freelist_walk pages nothing)) ≡ true

abbrev pub IsLeafStop : {R : Type 0} → Pages → WalkError (MapRefusal R) → Type 0
IsLeafStop pages (Source (MapPage n)) = IsMapLeaf pages n
IsLeafStop pages (Source (Refused refusal)) = ⊥
IsLeafStop pages (Defect defect) = ⊥
IsLeafStop pages OutOfMemory = ⊥

-- What a census came to that asks for no map page. After Ok the database has no defect, and none of its parts a place on a map page. Else it is
-- what a census of the pages without the map pages stops at, or a map page that is a leaf of the freelist.
abbrev pub IsCensusBeside : {R : Type 0} → (Pages → ℕ → R → Type 0) → Pages → Result Census (WalkError (MapRefusal R)) → Type 0
IsCensusBeside refuses pages (Ok census) = IsWhole pages census × CanBeSettled pages
IsCensusBeside refuses pages (Err error) =
    IsEarliest (RefusesBeside refuses) (without_maps pages) (parts (without_maps pages)) error ⊎ IsLeafStop (without_maps pages) error
