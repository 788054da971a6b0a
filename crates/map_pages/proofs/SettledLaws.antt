-- The settled pages as a database: their parts, counts, leaves and content.
use Rattle.std.proofs.Common.{◌≡◌, ℕ, ◌+◌, ◌-◌, ◌<◌, Bool, true, false, ◌&&◌, ◌||◌, ◌==◌, if◌then◌else◌, List, [], ◌∷◌, ◌++◌, length, map, replicate, refl, sym, ◌∙◌, ap, subst, arith, length-append}
use Rattle.std.specs.Prelude.{drop, sum}
use Rattle.std.specs.List.{list_all, list_any}
use Rattle.std.proofs.lemmas.Bool.{eqb-true}
use Rattle.std.proofs.lemmas.List.Folds.{list_any-append}
use Rattle.btree_page.specs.Kind.{kind_at}
use Rattle.btree_page.specs.Page.{read_node}
use Rattle.btree_page.specs.declared.kind.Family.TheVariants.{Table}
use Rattle.db_format.specs.Bytes.{u32_at}
use Rattle.db_format.specs.Pages.{Pages, Test, also, nothing}
use Rattle.btree_model.specs.Content.{kept_fields}
use Rattle.btree_model.specs.Finding.{Finding, entries, is_sound, leaves, places}
use Rattle.btree_model.specs.Freelist.{first_trunk, freelist_walk}
use Rattle.btree_model.specs.Parts.{all_places, counts, is_database, parts, trees_of}
use Rattle.btree_model.specs.Plain.{is_leaf, with_zeros}
use Rattle.btree_model.specs.Records.{tree_part}
use Rattle.btree_model.specs.Rest.{AreUnmarked}
use Rattle.btree_model.specs.Schema.{schema_faults, schema_part}
use Rattle.btree_model.proofs.FindingLemmas.{places-append}
use Rattle.btree_model.proofs.LeafLemmas.{in_leaves, is_in, no_leaf}
use Rattle.btree_model.proofs.PlainLemmas.{leaf_is, zeros_same}
use Rattle.btree_model.proofs.UnmarkedLemmas.{and_right, or_left, or_right, sound_left}
use Rattle.schema_map.proofs.SoundParts.{schema_sound}
use Rattle.schema_map.proofs.TreesLemmas.{root_unmet}
use Rattle.schema_map.proofs.WholeLemmas.{free_entries}
use Rattle.map_pages.specs.Maps.{is_map, map_number, maps_of}
use Rattle.map_pages.specs.Settled.{AreSettled, CanBeSettled, IsSameDatabase}
use Rattle.map_pages.specs.Trunks.{findings_from, is_new_trunk, map_trunk, numbers_from, trunk_from}
use Rattle.map_pages.proofs.Counted.{left, left_same, maps_counted, with_maps}
use Rattle.map_pages.proofs.FreeCount.{free_sound, free_unmet}
use Rattle.map_pages.proofs.FreeLaws.{free_is, new_free_sound}
use Rattle.map_pages.proofs.Freed.{length_from, no_map_leaf, number_is, places_from, trunk_no_leaf}
use Rattle.map_pages.proofs.TreeLaws.{content_same, parts_new}

-- a page of the test is none of these, where none of these is
unmet_at : (extra : Test) (ns : List ℕ) (m : ℕ) → list_any extra ns ≡ false → extra m ≡ true → is_in ns m ≡ false
unmet_at extra [] m none is = refl
unmet_at extra (n ∷ ns) m none is = by (n == m) refl (unmet_at extra ns m (or_right (extra n) _ none) is)
  where
    by : (b : Bool) → (n == m) ≡ b → is_in ns m ≡ false → (b || is_in ns m) ≡ false
    by true same later = let one : extra n ≡ true = ap extra (eqb-true n m same) ∙ is in let other : extra n ≡ false = or_left (extra n) _ none in cc
    by false same later = later

or_group : (a b c : Bool) → ((a || b) || c) ≡ (a || (b || c))
or_group true b c = refl
or_group false b c = refl

or_both : (a b : Bool) → a ≡ false → b ≡ false → (a || b) ≡ false
or_both true b p q = p
or_both false b p q = q

-- a page that is no leaf stands as it is
zero_page : (pages : Pages) (n : ℕ) → is_leaf pages n ≡ false → (with_zeros pages).page n ≡ pages.page n
zero_page pages n none = ap (λ (b : Bool). if b then replicate pages.usable 0 else pages.page n) none

-- page 1 is no leaf
first_no_leaf : (pages : Pages) → is_database pages ≡ true → is_sound (freelist_walk pages nothing) ≡ true → is_leaf pages 1 ≡ false
first_no_leaf pages sound free =
    let taken : Test = also (places (freelist_walk pages nothing)) nothing in
    let part : List Finding = tree_part pages Table taken 1 in
    let apart : taken 1 ≡ false = root_unmet pages Table taken 1 (sound_left part (schema_faults pages (entries part)) (schema_sound pages sound)) in
    leaf_is pages 1 free ∙ no_leaf (freelist_walk pages nothing) 1 (or_left (is_in (places (freelist_walk pages nothing)) 1) false apart)

module _ (old new : Pages) (can : CanBeSettled old) (all : AreSettled old new) where
  abbrev before : List Finding
  before = findings_from old.usable 0 (maps_of old)

  abbrev free : List Finding
  free = freelist_walk old nothing

  abbrev now : List Finding
  now = freelist_walk new nothing

  abbrev schema : List Finding
  schema = schema_part old (also (places free) nothing)

  abbrev others : List (List Finding)
  others = schema ∷ trees_of old (also (places free) nothing) schema

  sound_new : is_database new ≡ true
  sound_new =
      ap (list_all is_sound) (parts_new old new can all)
      ∙ ap (λ (b : Bool). b && list_all is_sound others) (new_free_sound old new can all)
      ∙ and_right (is_sound free) (list_all is_sound others) can.sound

  -- ---- leaves

  leaf_new : (n : ℕ) → is_leaf new n ≡ (is_in (leaves before) n || is_leaf old n)
  leaf_new n =
      leaf_is new n (new_free_sound old new can all)
      ∙ ap (λ (l : List Finding). is_in (leaves l) n) (free_is old new can all)
      ∙ in_leaves before free n
      ∙ ap (λ (b : Bool). is_in (leaves before) n || b) (sym (leaf_is old n (free_sound old can)))

  leaf_same : (n : ℕ) → is_map old n ≡ false → is_leaf new n ≡ is_leaf old n
  leaf_same n none = leaf_new n ∙ ap (λ (b : Bool). b || is_leaf old n) (no_map_leaf old n none)

  trunk_is_none : (k : ℕ) → k < maps_of old → is_new_trunk old.usable k ≡ true → is_leaf new (map_number old.usable k) ≡ false
  trunk_is_none k less is =
      leaf_new (map_number old.usable k)
      ∙ or_both _ _ (trunk_no_leaf old.usable 0 (maps_of old) k is)
      (leaf_is old (map_number old.usable k) (free_sound old can)
      ∙ no_leaf free (map_number old.usable k) (unmet_at (is_map old) (places free) (map_number old.usable k) (free_unmet old can) (number_is old k less)))

  -- ---- with zeros for leaves they are settled too

  zeros_can : CanBeSettled (with_zeros old)
  zeros_can = record {
    few = can.few;
    sound = ap (list_all is_sound) (zeros_same old) ∙ can.sound;
    unmet = subst (λ (l : List (List Finding)). AreUnmarked (is_map old) (all_places l)) (sym (zeros_same old)) can.unmet;
  }

  first_old : (with_zeros old).page 1 ≡ old.page 1
  first_old = zero_page old 1 (first_no_leaf old can.sound (free_sound old can))

  first_new : (with_zeros new).page 1 ≡ new.page 1
  first_new = zero_page new 1 (first_no_leaf new sound_new (new_free_sound old new can all))

  trunk_old : first_trunk (with_zeros old) ≡ first_trunk old
  trunk_old = ap (λ (bytes : List ℕ). u32_at bytes 32) first_old

  zeros_settled : AreSettled (with_zeros old) (with_zeros new)
  zeros_settled = record {
    count = all.count;
    usable = all.usable;
    node = λ family. ap (read_node family 1) first_new ∙ all.node family ∙ sym (ap (read_node family 1) first_old);
    kind = ap (kind_at 1) first_new ∙ all.kind ∙ sym (ap (kind_at 1) first_old);
    kept = ap kept_fields first_new ∙ all.kept ∙ sym (ap kept_fields first_old);
    first = ap (λ (bytes : List ℕ). u32_at bytes 32) first_new ∙ all.first ∙ ap (λ (m : ℕ). trunk_from old.usable (maps_of old) m 0) (sym trunk_old);
    free = ap (λ (bytes : List ℕ). u32_at bytes 36) first_new ∙ all.free ∙ ap (λ (m : ℕ). m + maps_of old) (sym (ap (λ (bytes : List ℕ). u32_at bytes 36) first_old));
    trunk = λ k less is.
        zero_page new (map_number old.usable k) (trunk_is_none k less is) ∙ all.trunk k less is
        ∙ ap (λ (m : ℕ). map_trunk old.usable (maps_of old) m k) (sym trunk_old);
    lent = all.lent;
    page = λ n other none.
        ap (λ (b : Bool). if b then replicate new.usable 0 else new.page n) (leaf_same n none)
        ∙ ap (λ (u : ℕ). if is_leaf old n then replicate u 0 else new.page n) all.usable
        ∙ ap (λ (bytes : List ℕ). if is_leaf old n then replicate old.usable 0 else bytes) (all.page n other none);
    accepted = all.accepted;
  }

  -- ---- counts

  rows_new : (counts new).rows ≡ (counts old).rows
  rows_new =
      ap (λ (l : List (List Finding)). sum (map (λ part. length (entries part)) l)) (parts_new old new can all)
      ∙ ap (λ (l : List _). sum (length l ∷ map (λ part. length (entries part)) others)) (free_entries new nothing ∙ sym (free_entries old nothing))

  free_new : (counts new).free ≡ (counts old).free + maps_of old
  free_new =
      let joined : length (places now) ≡ length (places before ++ places free) =
      ap (λ (l : List Finding). length (places l)) (free_is old new can all) ∙ ap length (places-append before free) in
      let one = length_from old.usable 0 (maps_of old) in
      let both = length-append (places before) (places free) in
      omega (arith, joined, one, both)

  -- the places of the new parts are the map pages and those of the old ones
  place_new : (n : ℕ) → is_in (all_places (parts new)) n ≡ (is_in (numbers_from old.usable 0 (maps_of old)) n || is_in (all_places (parts old)) n)
  place_new n =
      ap (λ (l : List (List Finding)). is_in (all_places l) n) (parts_new old new can all)
      ∙ ap (λ (l : List Finding). is_in (places l ++ all_places others) n) (free_is old new can all)
      ∙ ap (λ (l : List ℕ). is_in (l ++ all_places others) n) (places-append before free ∙ ap (λ (l : List ℕ). l ++ places free) (places_from old.usable 0 (maps_of old)))
      ∙ list_any-append (λ m. m == n) (numbers_from old.usable 0 (maps_of old) ++ places free) (all_places others)
      ∙ ap (λ (b : Bool). b || is_in (all_places others) n) (list_any-append (λ m. m == n) (numbers_from old.usable 0 (maps_of old)) (places free))
      ∙ or_group (is_in (numbers_from old.usable 0 (maps_of old)) n) (is_in (places free) n) (is_in (all_places others) n)
      ∙ ap (λ (b : Bool). is_in (numbers_from old.usable 0 (maps_of old)) n || b) (sym (list_any-append (λ m. m == n) (places free) (all_places others)))

  unused_new : (counts new).unused + maps_of old ≡ (counts old).unused
  unused_new =
      let was : Test = λ n. is_in (all_places (parts old)) n in
      let apart : (k : ℕ) → k < maps_of old → was (map_number old.usable k) ≡ false =
      λ k less. unmet_at (is_map old) (all_places (parts old)) (map_number old.usable k) can.unmet (number_is old k less) in
      let counted = maps_counted old can.few was apart (maps_of old) (omega arith) in
      let same : left (λ n. is_in (all_places (parts new)) n) 1 new.count ≡ left (with_maps old can.few was apart (maps_of old)) 1 old.count =
      ap (λ (c : ℕ). left (λ n. is_in (all_places (parts new)) n) 1 c) all.count ∙ left_same _ _ 1 old.count (λ k low high. place_new k) in
      omega (arith, counted, same)

  pub same_database : IsSameDatabase old new
  same_database = record {
    sound = sound_new;
    freelist = free_is old new can all;
    others = ap (drop 1) (parts_new old new can all);
    held = content_same old new can all;
    plain = content_same (with_zeros old) (with_zeros new) zeros_can zeros_settled;
    leaf = leaf_new;
    trees = ap (λ (l : List (List Finding)). length l - 1) (parts_new old new can all);
    rows = rows_new;
    free = free_new;
    unused = unused_new;
  }
