-- All parts of a database.
use Rattle.std.proofs.Common.{◌≡◌, ℕ, zero, suc, ◌+◌, ◌-◌, ◌<◌, ◌≤◌, Bool, true, false, not, List, [], ◌∷◌, ◌++◌, ◌||◌, ◌&&◌, ◌==◌, map, length, slice_get, Some, cond, if◌then◌else◌, arith, refl, ap, sym, subst, ◌∙◌}
use Rattle.std.specs.Prelude.{count_by}
use Rattle.std.specs.List.{Contains, list_any, list_all, range_with_len}
use Rattle.std.proofs.Math.Bool.{or-false}
use Rattle.std.proofs.Math.Path.{fun_ext}
use Rattle.std.proofs.lemmas.List.Sums.{sum_by-cons}
use Rattle.db_format.specs.declared.defect.Defect.{Defect}
use Rattle.db_format.specs.declared.defect.Defect.TheVariants.{PageTwice, TrunkFault, FreeCount}
use Rattle.btree_model.specs.Range.{is_in_range}
use Rattle.db_format.specs.Pages.{Pages, Test, nothing, also}
use Rattle.db_format.specs.Seen.{marked}
use Rattle.btree_page.specs.declared.kind.Family.TheVariants.{Table}
use Rattle.btree_model.specs.Finding.{Finding, place, leaf, fault, places, entries, faults, is_sound}
use Rattle.btree_model.specs.Freelist.{freelist_walk, leaves_of, lists_of, trunks, visit_trunk, trunk_found, is_trunk, leaf_numbers, next_trunk, first_trunk, free_field}
use Rattle.btree_model.specs.Parts.{all_places, counts, is_database, parts, trees_from, trees_of}
use Rattle.btree_model.specs.Records.{tree_part}
use Rattle.btree_model.specs.Schema.{roots, schema_faults, schema_part}
use Rattle.btree_model.specs.Walk.{is_met}
use Rattle.btree_model.proofs.FindingLemmas.{also-append, entries-append, places-append}
use Rattle.btree_model.proofs.UnmarkedLemmas.{sound_left}
use Rattle.btree_walk.specs.Causes.{IsAmong}
use Rattle.btree_walk.specs.declared.error.WalkError.{WalkError}
use Rattle.btree_walk.specs.declared.error.WalkError.TheVariants.{Defect as Found, Source, OutOfMemory}
use Rattle.space_map.specs.Walk.{IsFirst}
use Rattle.btree_walk.proofs.MarkLemmas.{keeps_also}
use Rattle.space_map.proofs.TrunkLemmas.{also_front}
use Rattle.schema_map.specs.Census.{IsCensusBegun, free_part, schema_after}
use Rattle.schema_map.specs.Parts.{AreSound, IsEarliest, open_pages}
use Rattle.schema_map.specs.Schema.{IsSchema, schema_row, tree_roots}
use Rattle.schema_map.specs.Started.{FreeMarks}
use Rattle.schema_map.specs.declared.schema.SchemaRow.{SchemaRow}
use Rattle.schema_map.proofs.TreesLemmas.{pages_strict, root_placed, root_unmet, stop_here, stop_next}

-- ---- the freelist has no entries

twice_entries : (b : Bool) (n : ℕ) (more : List Finding) → entries more ≡ [] → entries ((if b then fault (PageTwice n) ∷ [] else []) ++ more) ≡ []
twice_entries true n more none = none
twice_entries false n more none = none

leaves_entries : (taken : Test) (met : List Finding) (ns : List ℕ) → entries (leaves_of taken met ns) ≡ []
leaves_entries taken met [] = refl
leaves_entries taken met (n ∷ ns) = twice_entries (is_met taken met n) n (leaves_of taken (met ++ leaf n ∷ []) ns) (leaves_entries taken (met ++ leaf n ∷ []) ns)

module _ (pages : Pages) (taken : Test) where
  trunk_entries : (met : List Finding) (n : ℕ) (bytes : List ℕ) (b : Bool) (after : List Finding → List Finding) → ((l : List Finding) → entries (after l) ≡ [])
      → entries (trunk_found taken met n bytes b after) ≡ []
  trunk_entries met n bytes false after none = refl
  trunk_entries met n bytes true after none =
      let found : List Finding = leaves_of taken (met ++ place n ∷ []) (leaf_numbers bytes) in
      entries-append found (after (met ++ place n ∷ found))
      ∙ ap (λ l. l ++ entries (after (met ++ place n ∷ found))) (leaves_entries taken (met ++ place n ∷ []) (leaf_numbers bytes)) ∙ none (met ++ place n ∷ found)

  visit_entries : (met : List Finding) (n : ℕ) (m accepted : Bool) (after : List Finding → List Finding) → ((l : List Finding) → entries (after l) ≡ [])
      → entries (visit_trunk pages taken met n m accepted after) ≡ []
  visit_entries met n true accepted after none = refl
  visit_entries met n false false after none = refl
  visit_entries met n false true after none = trunk_entries met n (pages.page n) (is_trunk pages (pages.page n)) after none

  if_entries : (b : Bool) (one other : List Finding) → entries one ≡ [] → entries other ≡ [] → entries (if b then one else other) ≡ []
  if_entries true one other h k = h
  if_entries false one other h k = k

  trunks_entries : (fuel n : ℕ) (met : List Finding) → entries (trunks pages taken fuel n met) ≡ []
  trunks_entries zero n met = if_entries (n == 0) [] (place n ∷ (fault (PageTwice n) ∷ [])) refl refl
  trunks_entries (suc fuel) n met =
      if_entries (n == 0) [] _ refl
      (visit_entries met n (is_met taken met n) (pages.accepts n) (trunks pages taken fuel (next_trunk (pages.page n))) (λ l. trunks_entries fuel (next_trunk (pages.page n)) l))

  pub free_entries : entries (freelist_walk pages taken) ≡ []
  free_entries =
      entries-append (lists_of pages taken) _
      ∙ ap (λ l. l ++ entries (if is_sound (lists_of pages taken) && not (length (places (lists_of pages taken)) == free_field pages)
      then fault (FreeCount (free_field pages) (length (places (lists_of pages taken)))) ∷ [] else []))
      (if_entries (first_trunk pages == 0 || is_in_range pages (first_trunk pages)) _ (fault (TrunkFault 1) ∷ []) (trunks_entries pages.count (first_trunk pages) []) refl)
      ∙ if_entries (is_sound (lists_of pages taken) && not (length (places (lists_of pages taken)) == free_field pages)) (fault (FreeCount (free_field pages) (length (places (lists_of pages taken)))) ∷ []) [] refl refl

-- ---- a first defect is one of all

got_first : (ds : List Defect) (d : Defect) → slice_get ds 0 ≡ Some d → Contains ds d
got_first [] d h = cc
got_first (e ∷ ds) d h = let is : e ≡ d = cc in (0, omega arith, is)

pub first_among : {R : Type 0} (refuses : Pages → ℕ → R → Type 0) (pages : Pages) (all : List Finding) (error : WalkError R) → IsFirst refuses pages all error → IsAmong refuses pages all error
first_among refuses pages all (Found d) h = got_first (faults all) d h
first_among refuses pages all (Source r) h = h
first_among refuses pages all OutOfMemory h = tt

-- ---- how the parts join

none_more : (m n : ℕ) → n ≡ 0 → m ≡ n + m
none_more m n h = omega arith

also_joined : (xs ys : List Finding) (test : Test) (n : ℕ) → also (places xs) test n ≡ true → also (places (xs ++ ys)) test n ≡ true
also_joined xs ys test n h =
    ap (λ ns. also ns test n) (places-append xs ys) ∙ also_front (places xs) (places ys) test n h

-- the parts after the freelist, and after the schema
abbrev trees_after : Pages → List (List Finding)
trees_after pages = trees_of pages (also (places (free_part pages)) nothing) (schema_after pages)

abbrev parts_after : Pages → List (List Finding)
parts_after pages = schema_after pages ∷ trees_after pages

module _ (pages : Pages) where
  pub free_stop : {R : Type 0} (refuses : Pages → ℕ → R → Type 0) (error : WalkError R) → IsFirst refuses pages (free_part pages) error → IsEarliest refuses pages (parts pages) error
  free_stop refuses error h = stop_here (free_part pages) (parts_after pages) refuses pages error (first_among refuses pages (free_part pages) error h)

  module _ (started : FreeMarks) (begun : IsCensusBegun pages started) where
    schema_is : schema_part pages (marked started.marks) ≡ schema_after pages
    schema_is = ap (schema_part pages) begun.marks

    pub schema_stop : {R : Type 0} (refuses : Pages → ℕ → R → Type 0) (error : WalkError R) → IsAmong refuses pages (schema_part pages (marked started.marks)) error
        → IsEarliest refuses pages (parts pages) error
    schema_stop refuses error h =
        stop_next (free_part pages) (parts_after pages) refuses pages error begun.sound
        (stop_here (schema_after pages) (trees_after pages) refuses pages error (subst (λ l. IsAmong refuses pages l error) schema_is h))

    module _ (middle : List Bool) (rows : List SchemaRow) (is : IsSchema (schema_part pages (marked started.marks)) started.marks middle rows) where
      schema_sound : is_sound (schema_after pages) ≡ true
      schema_sound = ap is_sound (sym schema_is) ∙ is.part.sound

      middle_marks : marked middle ≡ also (places (schema_after pages)) (also (places (free_part pages)) nothing)
      middle_marks = is.part.marks ∙ ap (λ l. also (places l) (marked started.marks)) schema_is ∙ ap (also (places (schema_after pages))) begun.marks

      trees_are : trees_from pages (marked middle) (tree_roots rows) ≡ trees_after pages
      trees_are =
          ap (λ t. trees_from pages t (tree_roots rows)) middle_marks
          ∙ ap (trees_from pages (also (places (schema_after pages)) (also (places (free_part pages)) nothing))) (is.roots_are ∙ ap (λ l. roots (entries l)) schema_is)
          ∙ rw schema_sound refl

      pub trees_stop : {R : Type 0} (refuses : Pages → ℕ → R → Type 0) (error : WalkError R) → IsEarliest refuses pages (trees_from pages (marked middle) (tree_roots rows)) error
          → IsEarliest refuses pages (parts pages) error
      trees_stop refuses error h =
          stop_next (free_part pages) (parts_after pages) refuses pages error begun.sound
          (stop_next (schema_after pages) (trees_after pages) refuses pages error schema_sound (subst (λ ps. IsEarliest refuses pages ps error) trees_are h))

      -- page 1 is the schema's own
      pub schema_own : length middle ≡ length started.marks → 1 < length started.marks → 1 + open_pages middle ≤ open_pages started.marks
      schema_own same some =
          let part : List Finding = tree_part pages Table (marked started.marks) 1 in
          let more : List Finding = schema_faults pages (entries part) in
          pages_strict started.marks middle 1 same (keeps_also (places (part ++ more)) (marked started.marks) (marked middle) is.part.marks) (omega arith) some
          (root_unmet pages Table (marked started.marks) 1 (sound_left part more is.part.sound))
          (ap (λ t. t 1) is.part.marks ∙ also_joined part more (marked started.marks) 1 (root_placed pages Table (marked started.marks) 1))

      module _ (new : List Bool) (count entered : ℕ) (all : AreSound (trees_from pages (marked middle) (tree_roots rows)) middle new count entered) where
        sound : AreSound (trees_after pages) middle new count entered
        sound = subst (λ ps. AreSound ps middle new count entered) trees_are all

        -- the marks are the places of all parts
        marks : marked new ≡ also (all_places (parts pages)) nothing
        marks =
            sound.marks ∙ ap (also (all_places (trees_after pages))) middle_marks
            ∙ sym (also-append (places (schema_after pages)) (all_places (trees_after pages)) (also (places (free_part pages)) nothing))
            ∙ sym (also-append (places (free_part pages)) _ nothing)

        pub unused_is : (unused : ℕ) → unused ≡ count_by (λ n. not (marked new n)) (range_with_len 1 pages.count) → unused ≡ (counts pages).unused
        unused_is unused h =
            h ∙ ap (λ (test : Test). count_by (λ n. not (test n)) (range_with_len 1 pages.count))
            (marks ∙ fun_ext (λ n. or-false (list_any (λ m. m == n) (all_places (parts pages)))))

        pub database : is_database pages ≡ true
        database = ap (λ b. b && (is_sound (schema_after pages) && list_all is_sound (trees_after pages))) begun.sound
            ∙ ap (λ b. b && list_all is_sound (trees_after pages)) schema_sound ∙ sound.sound

        pub trees_counted : count + 1 ≡ (counts pages).trees
        trees_counted =
            let counted : count ≡ length (trees_after pages) = sound.counted in
            omega arith

        pub rows_counted : length rows + entered ≡ (counts pages).rows
        rows_counted =
            ap (λ k. k + entered) (is.part.count ∙ ap (λ l. length (entries l)) schema_is)
            ∙ ap (λ k. length (entries (schema_after pages)) + k) sound.given
            ∙ sym (sum_by-cons (λ x. x) (length (entries (schema_after pages))) (map (λ part. length (entries part)) (trees_after pages)))
            ∙ none_more _ (length (entries (free_part pages))) (ap length (free_entries pages nothing))
            ∙ sym (sum_by-cons (λ x. x) (length (entries (free_part pages))) (map (λ part. length (entries part)) (parts_after pages)))

        pub schema_rows : rows ≡ map schema_row (entries (schema_after pages))
        schema_rows = is.rows_are ∙ ap (λ l. map schema_row (entries l)) schema_is

-- ---- pages without a mark, counted one by one

module _ (test : Test) (u n count total : ℕ) (less : n < count)
    (before : u + count_by (λ m. not (test m)) (range_with_len (n + 1) (count - n)) ≡ total) where
  next_page : count_by (λ m. not (test m)) (range_with_len (n + 1) (count - n)) ≡ cond (not (test (n + 1))) 1 0 + count_by (λ m. not (test m)) (range_with_len (n + 1 + 1) (count - (n + 1)))
  next_page =
      let more : count - n ≡ suc (count - (n + 1)) = omega arith in
      ap (λ k. count_by (λ m. not (test m)) (range_with_len (n + 1) k)) more
      ∙ sum_by-cons (λ m. cond (not (test m)) 1 0) (n + 1) (range_with_len (n + 1 + 1) (count - (n + 1)))

  pub page_marked : test (n + 1) ≡ true → u + count_by (λ m. not (test m)) (range_with_len (n + 1 + 1) (count - (n + 1))) ≡ total
  page_marked is =
      let e : count_by (λ m. not (test m)) (range_with_len (n + 1) (count - n)) ≡ 0 + count_by (λ m. not (test m)) (range_with_len (n + 1 + 1) (count - (n + 1))) =
      next_page ∙ ap (λ (b : Bool). cond (not b) 1 0 + count_by (λ m. not (test m)) (range_with_len (n + 1 + 1) (count - (n + 1)))) is
      in
      omega arith

  pub page_unmarked : test (n + 1) ≡ false → u + 1 + count_by (λ m. not (test m)) (range_with_len (n + 1 + 1) (count - (n + 1))) ≡ total
  page_unmarked is =
      let e : count_by (λ m. not (test m)) (range_with_len (n + 1) (count - n)) ≡ 1 + count_by (λ m. not (test m)) (range_with_len (n + 1 + 1) (count - (n + 1))) =
      next_page ∙ ap (λ (b : Bool). cond (not b) 1 0 + count_by (λ m. not (test m)) (range_with_len (n + 1 + 1) (count - (n + 1)))) is
      in
      omega arith
