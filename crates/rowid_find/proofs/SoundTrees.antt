-- In a tree without a defect the rows that are met on the way to a range are those of the range.
use Rattle.std.proofs.Common.{◌≡◌, ◌≤◌, ◌+◌, ℕ, zero, suc, ℤ, pos, negsuc, Bool, true, false, not, List, [], ◌∷◌, ◌++◌, ◌&&◌, ◌||◌, ◌==◌, Option, Some, None, Result, Ok, Err, if◌then◌else◌, arith, refl, ap, sym, subst, ◌∙◌}
use Rattle.std.proofs.Common.{inl, inr}
use Rattle.std.specs.Prelude.{int_le, int_lt}
use Rattle.std.specs.List.{list_any}
use Rattle.std.specs.Option.{option_map_or}
use Rattle.std.proofs.lemmas.List.{append_assoc, append-nil}
use Rattle.std.proofs.lemmas.List.Elements.{filter-append}
use Rattle.std.proofs.lemmas.List.Folds.{list_any-append}
use Rattle.db_format.specs.declared.defect.Defect.{Defect}
use Rattle.db_format.specs.declared.defect.Defect.TheVariants.{RowidOrder, PageTwice, ChainLong, ChainShort, ChildOutOfRange}
use Rattle.db_format.specs.Bytes.{u32_at}
use Rattle.db_format.specs.Pages.{Pages, nothing}
use Rattle.db_format.specs.Record.{columns}
use Rattle.db_format.specs.Value.{Datum}
use Rattle.btree_page.specs.declared.kind.Family.TheVariants.{Table}
use Rattle.btree_page.specs.declared.page.PageFault.{PageFault}
use Rattle.btree_page.specs.Cell.{Cell, StoredCell, table_leaf, table_interior, index_leaf, index_interior}
use Rattle.btree_page.specs.Page.{Node, read_node}
use Rattle.btree_page.specs.Step.{Step, child, divider, entry as cell, steps}
use Rattle.btree_model.specs.Finding.{Row, Finding, place, leaf, entry, key, fault, refused, keys, places, entries, is_sound}
use Rattle.btree_model.specs.Range.{is_in_range}
use Rattle.btree_model.specs.Records.{record_fault, record_faults, tree_part}
use Rattle.btree_model.specs.Tree.{max_path, tree_walk}
use Rattle.btree_model.specs.Walk.{Below, chain, chain_of, given, inside, is_met, late_faults, link, links_needed, order_faults, step, steps_of, too_deep, visit, walk}
use Rattle.btree_model.proofs.FindingLemmas.{entries-append, sound_both}
use Rattle.btree_model.proofs.ProperLemmas.{are_proper, is_above, is_proper, keys-append, late_proper, walk_proper}
use Rattle.btree_model.proofs.UnmarkedLemmas.{and_left, and_right, sound_left, sound_right}
use Rattle.rowid_find.proofs.OnceLemmas.{one_if, proper_times, times, times_both}
use Rattle.rowid_find.proofs.TablePages.{table_page}
use Rattle.rowid_find.specs.Found.{is_row_between, rows_between}
use Rattle.rowid_find.specs.Reach.{all_steps, chain_findings, links_of, one_step, page_steps, reach, row_at, row_found, row_of_cell}
use Rattle.rowid_find.specs.TablePage.{IsTablePage, are_keys, are_rows}
use Rattle.rowid_find.specs.Wanted.{children_to, is_between, wanted}

-- ---- numbers

-- r is above k, and k is at least high
past_high : (high k r : ℤ) → int_le high k ≡ true → int_le r k ≡ false → int_le r high ≡ false
past_high (pos h) (pos k) (pos r) p q = grind arith
past_high (pos h) (pos k) (negsuc r) p q = grind arith
past_high (pos h) (negsuc k) (pos r) p q = grind arith
past_high (pos h) (negsuc k) (negsuc r) p q = grind arith
past_high (negsuc h) (pos k) (pos r) p q = grind arith
past_high (negsuc h) (pos k) (negsuc r) p q = grind arith
past_high (negsuc h) (negsuc k) (pos r) p q = grind arith
past_high (negsuc h) (negsuc k) (negsuc r) p q = grind arith

-- r is not above k, and k is below low
before_low : (low k r : ℤ) → int_le low k ≡ false → int_lt k r ≡ false → int_le low r ≡ false
before_low (pos l) (pos k) (pos r) p q = grind arith
before_low (pos l) (pos k) (negsuc r) p q = grind arith
before_low (pos l) (negsuc k) (pos r) p q = grind arith
before_low (pos l) (negsuc k) (negsuc r) p q = grind arith
before_low (negsuc l) (pos k) (pos r) p q = grind arith
before_low (negsuc l) (pos k) (negsuc r) p q = grind arith
before_low (negsuc l) (negsuc k) (pos r) p q = grind arith
before_low (negsuc l) (negsuc k) (negsuc r) p q = grind arith

no_such : false ≡ true → ⊥
no_such is = cc

and_no : (a b : Bool) → b ≡ false → (a && b) ≡ false
and_no true b is = is
and_no false b is = refl

-- ---- records, and lists in two parts

-- each payload is a record
abbrev are_records : List Row → Type 0
are_records rows = is_sound (record_faults rows) ≡ true

records-append : (xs ys : List Row) → record_faults (xs ++ ys) ≡ record_faults xs ++ record_faults ys
records-append [] ys = refl
records-append (row ∷ xs) ys =
    ap (λ l. record_fault row.page (columns row.payload) ++ l) (records-append xs ys)
    ∙ sym (append_assoc (record_fault row.page (columns row.payload)) (record_faults xs) (record_faults ys))

records_left : (xs ys : List Finding) → are_records (entries (xs ++ ys)) → are_records (entries xs)
records_left xs ys all =
    sound_left (record_faults (entries xs)) (record_faults (entries ys))
    (sym (ap is_sound (ap record_faults (entries-append xs ys) ∙ records-append (entries xs) (entries ys))) ∙ all)

records_right : (xs ys : List Finding) → are_records (entries (xs ++ ys)) → are_records (entries ys)
records_right xs ys all =
    sound_right (record_faults (entries xs)) (record_faults (entries ys))
    (sym (ap is_sound (ap record_faults (entries-append xs ys) ∙ records-append (entries xs) (entries ys))) ∙ all)

and_again : (a b c : Bool) → (a && (b && c)) ≡ (a && b && c)
and_again true b c = refl
and_again false b c = refl

proper-append : (met xs ys : List Finding) → are_proper nothing met (xs ++ ys) ≡ (are_proper nothing met xs && are_proper nothing (met ++ xs) ys)
proper-append met [] ys = ap (λ m. are_proper nothing m ys) (sym (append-nil met))
proper-append met (x ∷ xs) ys =
    ap (λ b. is_proper nothing met x && b)
    (proper-append (met ++ x ∷ []) xs ys
    ∙ ap (λ m. are_proper nothing (met ++ x ∷ []) xs && are_proper nothing m ys) (append_assoc met (x ∷ []) xs))
    ∙ and_again (is_proper nothing met x) (are_proper nothing (met ++ x ∷ []) xs) (are_proper nothing (met ++ x ∷ xs) ys)

proper_left : (met xs ys : List Finding) → are_proper nothing met (xs ++ ys) ≡ true → are_proper nothing met xs ≡ true
proper_left met xs ys h = and_left _ _ (sym (proper-append met xs ys) ∙ h)

proper_right : (met xs ys : List Finding) → are_proper nothing met (xs ++ ys) ≡ true → are_proper nothing (met ++ xs) ys ≡ true
proper_right met xs ys h = and_right _ _ (sym (proper-append met xs ys) ∙ h)

-- findings of a walk: no defect, no rowid out of order, each payload a record
record IsGood (met found : List Finding) : Type 0 where
  sound : is_sound found ≡ true
  proper : are_proper nothing met found ≡ true
  records : are_records (entries found)

good_left : (met xs ys : List Finding) → IsGood met (xs ++ ys) → IsGood met xs
good_left met xs ys good =
    record { sound = sound_left xs ys good.sound; proper = proper_left met xs ys good.proper; records = records_left xs ys good.records }

good_right : (met xs ys : List Finding) → IsGood met (xs ++ ys) → IsGood (met ++ xs) ys
good_right met xs ys good =
    record { sound = sound_right xs ys good.sound; proper = proper_right met xs ys good.proper; records = records_right xs ys good.records }

-- ---- the overflow pages of one payload

record IsBare (found : List Finding) : Type 0 where
  sound : is_sound found ≡ true
  rowless : entries found ≡ []

-- of a chain of the walk, and of the same one on the way to a range
record AreBare (theirs mine : List Finding) : Type 0 where
  walked : IsBare theirs
  met : IsBare mine
  same : places mine ≡ places theirs

-- a link whose page is new and accepted
link_bare : (n : ℕ) (m a : Bool) (after mine : List Finding) → is_sound (link n m a after) ≡ true
    → (is_sound after ≡ true → AreBare after mine)
    → AreBare (link n m a after) (place n ∷ (if a then mine else refused n ∷ []))
link_bare n true a after mine sound on = cc
link_bare n false false after mine sound on = cc
link_bare n false true after mine sound on =
    let both = on sound in
    record {
      walked = record { sound = both.walked.sound; rowless = both.walked.rowless };
      met = record { sound = both.met.sound; rowless = both.met.rowless };
      same = ap (λ l. n ∷ l) both.same;
    }

-- where either there is a defect, or the same findings
unless : (b : Bool) (d : Defect) (theirs mine : List Finding) → is_sound (if b then fault d ∷ [] else theirs) ≡ true
    → (is_sound theirs ≡ true → AreBare theirs mine)
    → AreBare (if b then fault d ∷ [] else theirs) (if b then fault d ∷ [] else mine)
unless true d theirs mine sound on = cc
unless false d theirs mine sound on = on sound

only_if : (b : Bool) (d : Defect) (theirs mine : List Finding) → is_sound (if b then theirs else fault d ∷ []) ≡ true
    → (is_sound theirs ≡ true → AreBare theirs mine)
    → AreBare (if b then theirs else fault d ∷ []) (if b then mine else fault d ∷ [])
only_if true d theirs mine sound on = on sound
only_if false d theirs mine sound on = cc

no_findings : IsBare []
no_findings = record { sound = refl; rowless = refl }

none_there : AreBare [] []
none_there = record { walked = no_findings; met = no_findings; same = refl }

module _ (pages : Pages) where
  chain_bare : (met : List Finding) (more holder n : ℕ) → is_sound (chain pages nothing met more holder n) ≡ true
      → AreBare (chain pages nothing met more holder n) (chain_findings pages more holder n)
  chain_bare met zero holder n sound = only_if (n == 0) (ChainLong holder) [] [] sound (λ s. none_there)
  chain_bare met (suc more) holder n sound =
      unless (n == 0) (ChainShort holder) _ _ sound (λ s.
      only_if (is_in_range pages n) (ChildOutOfRange holder) _ _ s (λ t.
      link_bare n (is_met nothing met n) (pages.accepts n) _ _ t (chain_bare (met ++ place n ∷ []) more n (u32_at (pages.page n) 0))))

  needs : (met : List Finding) (n : ℕ) (stored : StoredCell) (b : Bool)
      → is_sound (if b then [] else (if stored.first == 0 then fault (ChildOutOfRange n) ∷ [] else chain pages nothing met (links_needed pages.usable stored) n stored.first)) ≡ true
      → AreBare (if b then [] else (if stored.first == 0 then fault (ChildOutOfRange n) ∷ [] else chain pages nothing met (links_needed pages.usable stored) n stored.first))
      (if b then [] else (if stored.first == 0 then fault (ChildOutOfRange n) ∷ [] else chain_findings pages (links_needed pages.usable stored) n stored.first))
  needs met n stored true sound = none_there
  needs met n stored false sound =
      unless (stored.first == 0) (ChildOutOfRange n) _ _ sound (chain_bare met (links_needed pages.usable stored) n stored.first)

  chain_of_bare : (met : List Finding) (n : ℕ) (stored : StoredCell) → is_sound (chain_of pages nothing met n stored) ≡ true
      → AreBare (chain_of pages nothing met n stored) (links_of pages n stored)
  chain_of_bare met n stored = needs met n stored (links_needed pages.usable stored == 0)

-- ---- one row

-- the rows met are those of the range, there is no defect, and no page comes more often
pub record IsSame (low high : ℤ) (mine theirs : List Finding) : Type 0 where
  pub sound : is_sound mine ≡ true
  pub rows : entries mine ≡ rows_between low high (entries theirs)
  pub few : (k : ℕ) → times k (places mine) ≤ times k (places theirs)

more_by : (a b c : ℕ) → b ≤ c → a + b ≤ a + c
more_by a b c p = omega (arith, p)

order_none : (n : ℕ) (b : Bool) → is_sound (if b then fault (RowidOrder n) ∷ [] else []) ≡ true → (if b then fault (RowidOrder n) ∷ [] else []) ≡ []
order_none n true sound = cc
order_none n false sound = refl

-- a row whose payload is a record is met
recorded : (row : Row) (read : Option (List Datum)) → is_sound (record_fault row.page read ++ []) ≡ true → row_found row read ≡ entry row ∷ []
recorded row None sound = cc
recorded row (Some values) sound = refl

module _ (low high : ℤ) where
  between-append : (xs ys : List Row) → rows_between low high (xs ++ ys) ≡ rows_between low high xs ++ rows_between low high ys
  between-append xs ys = filter-append (is_row_between low high) xs ys

  same_both : (a b x y : List Finding) → IsSame low high a x → IsSame low high b y → IsSame low high (a ++ b) (x ++ y)
  same_both a b x y first next =
      record {
        sound = sound_both a b first.sound next.sound;
        rows =
            entries-append a b ∙ ap (λ l. l ++ entries b) first.rows ∙ ap (λ l. rows_between low high (entries x) ++ l) next.rows
            ∙ sym (between-append (entries x) (entries y)) ∙ ap (rows_between low high) (sym (entries-append x y));
        few = λ k.
            let mine = times_both k a b in
            let theirs = times_both k x y in
            let one = first.few k in
            let other = next.few k in
            omega (arith, mine, theirs, one, other);
      }

  same_empty : IsSame low high [] []
  same_empty = record { sound = refl; rows = refl; few = λ k. omega arith }

  -- none of these rows is in the range
  same_none : (theirs : List Finding) → rows_between low high (entries theirs) ≡ [] → IsSame low high [] theirs
  same_none theirs none = record { sound = refl; rows = sym none; few = λ k. omega arith }

  one_kept : (row : Row) (b : Bool) → is_row_between low high row ≡ b → rows_between low high (row ∷ []) ≡ (if b then row ∷ [] else [])
  one_kept row true is = rw is refl
  one_kept row false is = rw is refl

  module _ (pages : Pages) where
    -- a row of the walk, as it is met where it is in the range
    row_same : (met : List Finding) (n : ℕ) (r : ℤ) (stored : StoredCell) → IsGood met (given pages nothing met n (Some r) stored)
        → (is_sound (row_of_cell pages n (Some r) stored) ≡ true) × (entries (row_of_cell pages n (Some r) stored) ≡ row_at pages n (Some r) stored ∷ [])
        × (entries (given pages nothing met n (Some r) stored) ≡ row_at pages n (Some r) stored ∷ [])
        × ((k : ℕ) → times k (places (row_of_cell pages n (Some r) stored)) ≤ times k (places (given pages nothing met n (Some r) stored)))
    row_same met n r stored good =
        let row : Row = row_at pages n (Some r) stored in
        let found : List Finding = chain_of pages nothing met n stored in
        let order : List Finding = order_faults met n (Some r) in
        let last : List Finding = if is_sound found then entry row ∷ [] else [] in
        let ordered : order ≡ [] = order_none n (list_any (λ k. int_le r k) (keys met)) (sound_left order (found ++ last) good.sound) in
        let chained : is_sound found ≡ true = sound_left found last (sound_right order (found ++ last) good.sound) in
        let bare = chain_of_bare pages met n stored chained in
        let given_is : entries (order ++ (found ++ last)) ≡ row ∷ [] =
        ap (λ l. entries (l ++ (found ++ last))) ordered ∙ entries-append found last ∙ ap (λ l. l ++ entries last) bare.walked.rowless
        ∙ ap (λ (b : Bool). entries (if b then entry row ∷ [] else [])) chained in
        let whole : row_found row (columns row.payload) ≡ entry row ∷ [] = recorded row (columns row.payload) (subst are_records given_is good.records) in
        let here : row_of_cell pages n (Some r) stored ≡ links_of pages n stored ++ entry row ∷ [] =
        ap (λ (b : Bool). links_of pages n stored ++ (if b then row_found row (columns row.payload) else [])) bare.met.sound
        ∙ ap (λ l. links_of pages n stored ++ l) whole in (
          ap is_sound here ∙ sound_both (links_of pages n stored) (entry row ∷ []) bare.met.sound refl,
          ap entries here ∙ entries-append (links_of pages n stored) (entry row ∷ []) ∙ ap (λ l. l ++ row ∷ []) bare.met.rowless,
          given_is,
          λ k.
              let here_too : times k (places (row_of_cell pages n (Some r) stored)) ≡ times k (places (links_of pages n stored ++ entry row ∷ [])) = ap (λ l. times k (places l)) here in
              let mine = times_both k (links_of pages n stored) (entry row ∷ []) in
              let same : times k (places (links_of pages n stored)) ≡ times k (places found) = ap (times k) bare.same in
              let theirs = times_both k order (found ++ last) in
              let behind = times_both k found last in
              omega (arith, here_too, mine, same, theirs, behind),
        )

    -- ---- a leaf

    -- a row that is wanted or not
    row_or_none : (below : ℕ → List Finding) (n : ℕ) (r : ℤ) (stored : StoredCell) (rest : List Step) (b : Bool)
        → all_steps pages below n (if b then cell (Some r) stored ∷ rest else rest) ≡ (if b then row_of_cell pages n (Some r) stored else []) ++ all_steps pages below n rest
    row_or_none below n r stored rest true = refl
    row_or_none below n r stored rest false = refl

    row_if : (met : List Finding) (n : ℕ) (r : ℤ) (stored : StoredCell) (b : Bool) → is_between low high r ≡ b → IsGood met (given pages nothing met n (Some r) stored)
        → IsSame low high (if b then row_of_cell pages n (Some r) stored else []) (given pages nothing met n (Some r) stored)
    row_if met n r stored true is good =
        let same = row_same met n r stored good in
        record {
          sound = same.0;
          rows = same.1 ∙ sym (one_kept (row_at pages n (Some r) stored) true is) ∙ ap (rows_between low high) (sym same.2);
          few = same.3;
        }
    row_if met n r stored false is good =
        let same = row_same met n r stored good in
        record {
          sound = refl;
          rows = sym (one_kept (row_at pages n (Some r) stored) false is) ∙ ap (rows_between low high) (sym same.2);
          few = λ k. omega arith;
        }

    leaf_same : (mine : ℕ → List Finding) (below : Below) (met : List Finding) (n : ℕ) (cells : List Cell) → are_rows cells ≡ true
        → IsGood met (steps_of pages nothing below met n (steps cells None))
        → IsSame low high (all_steps pages mine n (wanted low high cells None)) (steps_of pages nothing below met n (steps cells None))
    leaf_same mine below met n [] rows good = same_empty
    leaf_same mine below met n (table_interior left k ∷ cells) rows good = cc
    leaf_same mine below met n (index_leaf stored ∷ cells) rows good = cc
    leaf_same mine below met n (index_interior left stored ∷ cells) rows good = cc
    leaf_same mine below met n (table_leaf r stored ∷ cells) rows good =
        let found : List Finding = given pages nothing met n (Some r) stored in
        let rest : List Finding = steps_of pages nothing below (met ++ found) n (steps cells None) in
        subst (λ l. IsSame low high l (found ++ rest)) (sym (row_or_none mine n r stored (wanted low high cells None) (is_between low high r)))
        (same_both _ _ found rest (row_if met n r stored (is_between low high r) refl (good_left met found rest good))
        (leaf_same mine below (met ++ found) n cells rows (good_right met found rest good)))

    -- ---- an interior page

    -- one of the rowids and keys that were met is at least k
    abbrev IsUnder : ℤ → List Finding → Type 0
    IsUnder k met = (r : ℤ) → int_le r k ≡ true → list_any (λ x. int_le r x) (keys met) ≡ true

    or_true_left : (a b : Bool) → a ≡ true → (a || b) ≡ true
    or_true_left true b is = refl
    or_true_left false b is = cc

    under_more : (k : ℤ) (met more : List Finding) → IsUnder k met → IsUnder k (met ++ more)
    under_more k met more under r le =
        ap (list_any (λ x. int_le r x)) (keys-append met more) ∙ list_any-append (λ x. int_le r x) (keys met) (keys more)
        ∙ or_true_left _ _ (under r le)

    or_true_right : (a b : Bool) → b ≡ true → (a || b) ≡ true
    or_true_right true b is = refl
    or_true_right false b is = is

    under_key : (k : ℤ) (met : List Finding) → IsUnder k (met ++ key k ∷ [])
    under_key k met r le =
        ap (list_any (λ x. int_le r x)) (keys-append met (key k ∷ [])) ∙ list_any-append (λ x. int_le r x) (keys met) (k ∷ [])
        ∙ or_true_right _ _ (ap (λ b. b || false) le)

    above_by : (k r : ℤ) (met : List Finding) (b : Bool) → int_le r k ≡ b → IsUnder k met → is_above (keys met) (Some r) ≡ true → int_le r k ≡ false
    above_by k r met true is under above = let yes : list_any (λ x. int_le r x) (keys met) ≡ true = under r is in absurd (no_such (sym (ap not yes) ∙ above))
    above_by k r met false is under above = is

    row_past : (k : ℤ) (met : List Finding) (rowid : Option ℤ) → int_le high k ≡ true → IsUnder k met → is_above (keys met) rowid ≡ true
        → option_map_or (λ r. is_between low high r) rowid false ≡ false
    row_past k met None le under above = refl
    row_past k met (Some r) le under above = and_no (int_le low r) (int_le r high) (past_high high k r le (above_by k r met (int_le r k) refl under above))

    not_row : (row : Row) (rows : List Row) → is_row_between low high row ≡ false → rows_between low high rows ≡ [] → rows_between low high (row ∷ rows) ≡ []
    not_row row rows is none = rw is none

    -- rows behind a key that is at least `high` are out of the range
    above_all : (k : ℤ) (met found : List Finding) → int_le high k ≡ true → IsUnder k met → are_proper nothing met found ≡ true
        → rows_between low high (entries found) ≡ []
    above_all k met [] le under proper = refl
    above_all k met (place n ∷ found) le under proper =
        above_all k (met ++ place n ∷ []) found le (under_more k met (place n ∷ []) under) (and_right (is_proper nothing met (place n)) _ proper)
    above_all k met (leaf n ∷ found) le under proper =
        above_all k (met ++ leaf n ∷ []) found le (under_more k met (leaf n ∷ []) under) (and_right (is_proper nothing met (leaf n)) _ proper)
    above_all k met (key j ∷ found) le under proper =
        above_all k (met ++ key j ∷ []) found le (under_more k met (key j ∷ []) under) (and_right (is_proper nothing met (key j)) _ proper)
    above_all k met (fault d ∷ found) le under proper =
        above_all k (met ++ fault d ∷ []) found le (under_more k met (fault d ∷ []) under) (and_right (is_proper nothing met (fault d)) _ proper)
    above_all k met (refused n ∷ found) le under proper =
        above_all k (met ++ refused n ∷ []) found le (under_more k met (refused n ∷ []) under) (and_right (is_proper nothing met (refused n)) _ proper)
    above_all k met (entry row ∷ found) le under proper =
        not_row row (entries found) (row_past k met row.rowid le under (and_left (is_proper nothing met (entry row)) _ proper))
        (above_all k (met ++ entry row ∷ []) found le (under_more k met (entry row ∷ []) under) (and_right (is_proper nothing met (entry row)) _ proper))

    -- rows before a key that is below `low` are out of the range
    late_row : (n : ℕ) (b : Bool) (rest : List Finding) → (if b then fault (RowidOrder n) ∷ [] else []) ++ rest ≡ [] → (b ≡ false) × (rest ≡ [])
    late_row n true rest none = cc
    late_row n false rest none = (refl, none)

    row_before : (k : ℤ) (rowid : Option ℤ) → int_le low k ≡ false → option_map_or (λ r. int_lt k r) rowid false ≡ false
        → option_map_or (λ r. is_between low high r) rowid false ≡ false
    row_before k None lt late = refl
    row_before k (Some r) lt late = ap (λ b. b && int_le r high) (before_low low k r lt late)

    late_out : (k : ℤ) (rows : List Row) → int_le low k ≡ false → late_faults k rows ≡ [] → rows_between low high rows ≡ []
    late_out k [] lt none = refl
    late_out k (row ∷ rows) lt none =
        let first = late_row row.page (option_map_or (λ r. int_lt k r) row.rowid false) (late_faults k rows) none in
        not_row row rows (row_before k row.rowid lt first.0) (late_out k rows lt first.1)

    late_right : (k : ℤ) (xs ys : List Row) → late_faults k (xs ++ ys) ≡ [] → late_faults k ys ≡ []
    late_right k [] ys none = none
    late_right k (row ∷ xs) ys none =
        late_right k xs ys (late_row row.page (option_map_or (λ r. int_lt k r) row.rowid false) (late_faults k (xs ++ ys)) none).1

    module _ (mine : ℕ → List Finding) (below : Below)
        (each : (met : List Finding) (c : ℕ) → IsGood met (below met c) → IsSame low high (mine c) (below met c)) where
      child_by : (met : List Finding) (n c : ℕ) (b : Bool) → IsGood met (if b then below met c else fault (ChildOutOfRange n) ∷ [])
          → IsSame low high (if b then mine c else fault (ChildOutOfRange n) ∷ []) (if b then below met c else fault (ChildOutOfRange n) ∷ [])
      child_by met n c true good = each met c good
      child_by met n c false good = absurd (no_such good.sound)

      child_same : (met : List Finding) (n c : ℕ) → IsGood met (step pages nothing below met n (child c))
          → IsSame low high (one_step pages mine n (child c)) (step pages nothing below met n (child c))
      child_same met n c good = child_by met n c (is_in_range pages c) good

      -- the key between two children
      key_is : (met : List Finding) (n : ℕ) (k : ℤ) → IsGood met (step pages nothing below met n (divider k)) → step pages nothing below met n (divider k) ≡ key k ∷ []
      key_is met n k good = ap (λ l. key k ∷ l) (late_proper pages nothing met k (entries met) good.sound)

      -- behind a child whose key is at least `high` there is no row of the range
      past_same : (k : ℤ) (met rest : List Finding) → int_le high k ≡ true → IsGood met (key k ∷ rest) → IsSame low high [] (key k ∷ rest)
      past_same k met rest le good =
          same_none (key k ∷ rest)
          (above_all k (met ++ key k ∷ []) rest le (under_key k met) (and_right (is_proper nothing met (key k)) _ good.proper))

      -- the children behind a first one
      next_same : (met : List Finding) (n : ℕ) (k : ℤ) (cells : List Cell) (right : ℕ) (b : Bool) → int_le high k ≡ b → (between rest : List Finding) → between ≡ key k ∷ []
          → IsGood met (between ++ rest) → IsSame low high (all_steps pages mine n (children_to high cells (Some right))) rest
          → IsSame low high (all_steps pages mine n (if b then [] else children_to high cells (Some right))) (between ++ rest)
      next_same met n k cells right true le between rest is good on =
          subst (λ l. IsSame low high [] (l ++ rest)) (sym is) (past_same k met rest le (subst (λ l. IsGood met (l ++ rest)) is good))
      next_same met n k cells right false le between rest is good on =
          subst (λ l. IsSame low high (all_steps pages mine n (children_to high cells (Some right))) (l ++ rest)) (sym is) (record { sound = on.sound; rows = on.rows; few = on.few })

      to_same : (met : List Finding) (n : ℕ) (cells : List Cell) (right : ℕ) → are_keys cells ≡ true
          → IsGood met (steps_of pages nothing below met n (steps cells (Some right)))
          → IsSame low high (all_steps pages mine n (children_to high cells (Some right))) (steps_of pages nothing below met n (steps cells (Some right)))
      to_same met n [] right keyed good =
          let found : List Finding = step pages nothing below met n (child right) in
          same_both (one_step pages mine n (child right)) [] found [] (child_same met n right (good_left met found [] good)) same_empty
      to_same met n (table_leaf rowid stored ∷ cells) right keyed good = cc
      to_same met n (index_leaf stored ∷ cells) right keyed good = cc
      to_same met n (index_interior left stored ∷ cells) right keyed good = cc
      to_same met n (table_interior left k ∷ cells) right keyed good =
          let found : List Finding = step pages nothing below met n (child left) in
          let between : List Finding = step pages nothing below (met ++ found) n (divider k) in
          let rest : List Finding = steps_of pages nothing below ((met ++ found) ++ between) n (steps cells (Some right)) in
          let behind : IsGood (met ++ found) (between ++ rest) = good_right met found (between ++ rest) good in
          same_both (one_step pages mine n (child left)) _ found (between ++ rest) (child_same met n left (good_left met found (between ++ rest) good))
          (next_same (met ++ found) n k cells right (int_le high k) refl between rest (key_is (met ++ found) n k (good_left (met ++ found) between rest behind)) behind
          (to_same ((met ++ found) ++ between) n cells right keyed (good_right (met ++ found) between rest behind)))

      first_same : (met : List Finding) (n left : ℕ) (k : ℤ) (cells : List Cell) (right : ℕ) (b : Bool) → int_le low k ≡ b
          → (found between rest : List Finding) → between ≡ key k ∷ [] → late_faults k (entries found) ≡ []
          → IsSame low high (all_steps pages mine n (wanted low high cells (Some right))) rest
          → IsSame low high (all_steps pages mine n (children_to high (table_interior left k ∷ cells) (Some right))) (found ++ (between ++ rest))
          → IsSame low high (all_steps pages mine n (if b then children_to high (table_interior left k ∷ cells) (Some right) else wanted low high cells (Some right))) (found ++ (between ++ rest))
      first_same met n left k cells right false lt found between rest is none on whole =
          same_both [] _ found (between ++ rest) (same_none found (late_out k (entries found) lt none))
          (subst (λ l. IsSame low high (all_steps pages mine n (wanted low high cells (Some right))) (l ++ rest)) (sym is) (record { sound = on.sound; rows = on.rows; few = on.few }))
      first_same met n left k cells right true lt found between rest is none on whole = whole

      -- a page whose first children may be before the range
      inner_same : (met : List Finding) (n : ℕ) (cells : List Cell) (right : ℕ) → are_keys cells ≡ true
          → IsGood met (steps_of pages nothing below met n (steps cells (Some right)))
          → IsSame low high (all_steps pages mine n (wanted low high cells (Some right))) (steps_of pages nothing below met n (steps cells (Some right)))
      inner_same met n [] right keyed good = to_same met n [] right keyed good
      inner_same met n (table_leaf rowid stored ∷ cells) right keyed good = cc
      inner_same met n (index_leaf stored ∷ cells) right keyed good = cc
      inner_same met n (index_interior left stored ∷ cells) right keyed good = cc
      inner_same met n (table_interior left k ∷ cells) right keyed good =
          let found : List Finding = step pages nothing below met n (child left) in
          let between : List Finding = step pages nothing below (met ++ found) n (divider k) in
          let rest : List Finding = steps_of pages nothing below ((met ++ found) ++ between) n (steps cells (Some right)) in
          let behind : IsGood (met ++ found) (between ++ rest) = good_right met found (between ++ rest) good in
          first_same met n left k cells right (int_le low k) refl found between rest (key_is (met ++ found) n k (good_left (met ++ found) between rest behind))
          (late_right k (entries met) (entries found)
          (ap (late_faults k) (sym (entries-append met found)) ∙ late_proper pages nothing (met ++ found) k (entries (met ++ found)) (good_left (met ++ found) between rest behind).sound))
          (inner_same ((met ++ found) ++ between) n cells right keyed (good_right (met ++ found) between rest behind))
          (to_same met n (table_interior left k ∷ cells) right keyed good)

      -- ---- one page

      page_same : (met : List Finding) (n : ℕ) (page : Node) → IsTablePage page → IsGood met (steps_of pages nothing below met n (steps page.cells page.right))
          → IsSame low high (all_steps pages mine n (wanted low high page.cells page.right)) (steps_of pages nothing below met n (steps page.cells page.right))
      page_same met n page (inl outer) good =
          subst (λ o. IsSame low high (all_steps pages mine n (wanted low high page.cells o)) (steps_of pages nothing below met n (steps page.cells o))) (sym outer.1)
          (leaf_same mine below met n page.cells outer.0 (subst (λ o. IsGood met (steps_of pages nothing below met n (steps page.cells o))) outer.1 good))
      page_same met n page (inr inner) good =
          subst (λ o. IsSame low high (all_steps pages mine n (wanted low high page.cells o)) (steps_of pages nothing below met n (steps page.cells o))) (sym inner.1.1)
          (inner_same met n page.cells inner.1.0 inner.0 (subst (λ o. IsGood met (steps_of pages nothing below met n (steps page.cells o))) inner.1.1 good))

      -- the findings of a page in a walk, and on the way to a range
      theirs_of : (met : List Finding) (n : ℕ) (m a : Bool) → Result Node PageFault → List Finding
      theirs_of met n true a read = fault (PageTwice n) ∷ []
      theirs_of met n false false read = refused n ∷ []
      theirs_of met n false true read = inside pages nothing below met n read

      theirs_are : (met : List Finding) (n : ℕ) (m a : Bool) → visit pages Table nothing below met n m a ≡ theirs_of met n m a (read_node Table n (pages.page n))
      unfolding theirs_of
      theirs_are met n true a = refl
      theirs_are met n false false = refl
      theirs_are met n false true = refl

      visit_by : (met : List Finding) (n : ℕ) (m a : Bool) (read : Result Node PageFault) → read_node Table n (pages.page n) ≡ read
          → IsGood met (place n ∷ theirs_of met n m a read)
          → IsSame low high (place n ∷ (if a then page_steps pages low high mine n read else refused n ∷ [])) (place n ∷ theirs_of met n m a read)
      unfolding theirs_of
      visit_by met n true a read is good = absurd (no_such good.sound)
      visit_by met n false false read is good = absurd (no_such good.sound)
      visit_by met n false true (Err why) is good = absurd (no_such good.sound)
      visit_by met n false true (Ok page) is good =
          let same = page_same (met ++ place n ∷ []) n page (table_page n (pages.page n) page is)
          (good_right met (place n ∷ []) (steps_of pages nothing below (met ++ place n ∷ []) n (steps page.cells page.right)) good) in
          record { sound = same.sound; rows = same.rows; few = λ k. more_by (one_if (n == k)) _ _ (same.few k) }

      visit_same : (met : List Finding) (n : ℕ) → IsGood met (place n ∷ visit pages Table nothing below met n (is_met nothing met n) (pages.accepts n))
          → IsSame low high (place n ∷ (if pages.accepts n then page_steps pages low high mine n (read_node Table n (pages.page n)) else refused n ∷ []))
          (place n ∷ visit pages Table nothing below met n (is_met nothing met n) (pages.accepts n))
      visit_same met n good =
          let are = theirs_are met n (is_met nothing met n) (pages.accepts n) in
          subst (λ l. IsSame low high (place n ∷ (if pages.accepts n then page_steps pages low high mine n (read_node Table n (pages.page n)) else refused n ∷ [])) (place n ∷ l)) (sym are)
          (visit_by met n (is_met nothing met n) (pages.accepts n) (read_node Table n (pages.page n)) refl (subst (λ l. IsGood met (place n ∷ l)) are good))

    -- ---- a tree

    deep_bad : (met : List Finding) (n : ℕ) (m : Bool) → IsGood met (place n ∷ too_deep n m) → ⊥
    deep_bad met n true good = no_such good.sound
    deep_bad met n false good = no_such good.sound

    walk_same : (left : ℕ) (met : List Finding) (n : ℕ) → IsGood met (walk pages Table nothing left met n)
        → IsSame low high (reach pages low high left n) (walk pages Table nothing left met n)
    unfolding walk reach
    walk_same zero met n good = absurd (deep_bad met n (is_met nothing met n) good)
    walk_same (suc left) met n good =
        visit_same (reach pages low high left) (walk pages Table nothing left) (walk_same left) met n good

    -- what is met on the way to the range
    pub sound_tree : (root : ℕ) → is_sound (tree_part pages Table nothing root) ≡ true
        → IsSame low high (reach pages low high max_path root) (tree_walk pages Table nothing root)
    sound_tree root sound =
        let found : List Finding = tree_walk pages Table nothing root in
        let walked : is_sound found ≡ true = sound_left found (record_faults (entries found)) sound in
        walk_same max_path [] root
        (record {
          sound = walked;
          proper = walk_proper pages nothing Table max_path [] root walked;
          records = sound_right found (record_faults (entries found)) sound;
        })

    -- in such a tree each page comes once
    pub tree_times : (root : ℕ) → is_sound (tree_part pages Table nothing root) ≡ true → (k : ℕ) → times k (places (tree_walk pages Table nothing root)) ≤ 1
    tree_times root sound =
        let found : List Finding = tree_walk pages Table nothing root in
        proper_times found (walk_proper pages nothing Table max_path [] root (sound_left found (record_faults (entries found)) sound))
