-- A walk without a defect is the same after other findings, where no place of it is among theirs, its rowids are above
-- their rowids and keys, and its keys are not below their rowids.
use Rattle.std.proofs.Common.{◌≡◌, ℕ, zero, suc, ℤ, Bool, true, false, not, List, [], ◌∷◌, ◌++◌, ◌||◌, ◌&&◌, ◌==◌, Option, Some, None, Result, Ok, Err, if◌then◌else◌, refl, ap, sym, ◌∙◌}
use Rattle.std.specs.Prelude.{int_le, int_lt}
use Rattle.std.specs.Option.{option_map_or}
use Rattle.std.specs.List.{list_any}
use Rattle.std.proofs.Math.Bool.{or_assoc}
use Rattle.std.proofs.lemmas.List.{append_assoc}
use Rattle.std.proofs.lemmas.List.Folds.{list_any-append}
use Rattle.btree_page.specs.declared.kind.Family.{Family}
use Rattle.db_format.specs.declared.defect.Defect.TheVariants.{RowidOrder}
use Rattle.db_format.specs.Bytes.{u32_at}
use Rattle.btree_page.specs.Cell.{StoredCell}
use Rattle.btree_page.specs.Page.{Node, read_node}
use Rattle.btree_page.specs.declared.page.PageFault.{PageFault}
use Rattle.db_format.specs.Pages.{Pages, Test}
use Rattle.btree_model.specs.Range.{is_in_range}
use Rattle.btree_model.specs.Finding.{Row, Finding, place, leaf, entry, key, fault, refused, places, entries, keys, is_sound}
use Rattle.btree_page.specs.Step.{Step, child, divider, entry as cell, steps}
use Rattle.btree_model.specs.Walk.{is_met, step, steps_of, walk, visit, inside, given, chain, chain_of, payload_of, links_needed, order_faults, late_faults, too_deep, Below}
use Rattle.btree_model.specs.Rest.{AreUnmarked}
use Rattle.btree_model.proofs.FindingLemmas.{places-append, entries-append}
use Rattle.btree_model.proofs.UnmarkedLemmas.{Stays, sound_left, sound_right, unmarked_left, unmarked_right, stays_same, if_stays, link_stays, or_left, or_right}
use Rattle.btree_model.proofs.ProperLemmas.{is_above, keys-append, late_proper}

-- these findings may come after those
abbrev pub fits : List Finding → List Finding → Bool
fits pre [] = true
fits pre (entry row ∷ xs) = is_above (keys pre) row.rowid && fits pre xs
fits pre (key k ∷ xs) = is_sound (late_faults k (entries pre)) && fits pre xs
fits pre (place n ∷ xs) = fits pre xs
fits pre (leaf n ∷ xs) = fits pre xs
fits pre (fault d ∷ xs) = fits pre xs
fits pre (refused n ∷ xs) = fits pre xs

pub and_left : (a b : Bool) → (a && b) ≡ true → a ≡ true
and_left true b h = refl
and_left false b h = h

pub and_right : (a b : Bool) → (a && b) ≡ true → b ≡ true
and_right true b h = h
and_right false b h = cc

fits_left : (pre xs ys : List Finding) → fits pre (xs ++ ys) ≡ true → fits pre xs ≡ true
fits_left pre [] ys h = refl
fits_left pre (place n ∷ xs) ys h = fits_left pre xs ys h
fits_left pre (leaf n ∷ xs) ys h = fits_left pre xs ys h
fits_left pre (fault d ∷ xs) ys h = fits_left pre xs ys h
fits_left pre (refused n ∷ xs) ys h = fits_left pre xs ys h
fits_left pre (entry row ∷ xs) ys h =
    ap (λ b. b && fits pre xs) (and_left (is_above (keys pre) row.rowid) _ h) ∙ fits_left pre xs ys (and_right (is_above (keys pre) row.rowid) _ h)
fits_left pre (key k ∷ xs) ys h =
    ap (λ b. b && fits pre xs) (and_left (is_sound (late_faults k (entries pre))) _ h) ∙ fits_left pre xs ys (and_right (is_sound (late_faults k (entries pre))) _ h)

fits_right : (pre xs ys : List Finding) → fits pre (xs ++ ys) ≡ true → fits pre ys ≡ true
fits_right pre [] ys h = h
fits_right pre (place n ∷ xs) ys h = fits_right pre xs ys h
fits_right pre (leaf n ∷ xs) ys h = fits_right pre xs ys h
fits_right pre (fault d ∷ xs) ys h = fits_right pre xs ys h
fits_right pre (refused n ∷ xs) ys h = fits_right pre xs ys h
fits_right pre (entry row ∷ xs) ys h = fits_right pre xs ys (and_right (is_above (keys pre) row.rowid) _ h)
fits_right pre (key k ∷ xs) ys h = fits_right pre xs ys (and_right (is_sound (late_faults k (entries pre))) _ h)

late-append : (k : ℤ) (xs ys : List Row) → late_faults k (xs ++ ys) ≡ late_faults k xs ++ late_faults k ys
late-append k [] ys = refl
late-append k (row ∷ xs) ys =
    let first : List Finding = if option_map_or (λ rowid. int_lt k rowid) row.rowid false then fault (RowidOrder row.page) ∷ [] else [] in
    ap (λ l. first ++ l) (late-append k xs ys) ∙ sym (append_assoc first (late_faults k xs) (late_faults k ys))

not_true : (b : Bool) → not b ≡ true → b ≡ false
not_true true h = cc
not_true false h = refl

order_same : (pre met : List Finding) (n : ℕ) (rowid : Option ℤ) → is_above (keys pre) rowid ≡ true → order_faults (pre ++ met) n rowid ≡ order_faults met n rowid
order_same pre met n None h = refl
order_same pre met n (Some rowid) h =
    ap (λ b. if b then fault (RowidOrder n) ∷ [] else [])
    (ap (list_any (λ k. int_le rowid k)) (keys-append pre met) ∙ list_any-append (λ k. int_le rowid k) (keys pre) (keys met)
    ∙ ap (λ b. b || list_any (λ k. int_le rowid k) (keys met)) (not_true _ h))

module _ (pages : Pages) (taken : Test) (pre : List Finding) where
  -- page n has a place among those findings
  abbrev in_pre : Test
  in_pre n = list_any (λ m. m == n) (places pre)

  met_pre : (met : List Finding) (n : ℕ) → is_met taken (pre ++ met) n ≡ (in_pre n || is_met taken met n)
  met_pre met n =
      ap (λ b. b || taken n) (ap (list_any (λ m. m == n)) (places-append pre met) ∙ list_any-append (λ m. m == n) (places pre) (places met))
      ∙ or_assoc (in_pre n) (list_any (λ m. m == n) (places met)) (taken n)

  abbrev Shifts : List Finding → List Finding → Type 0
  Shifts found again = is_sound found ≡ true → AreUnmarked in_pre (places found) → fits pre found ≡ true → again ≡ found

  from_stays : (found again : List Finding) → Stays in_pre found again → Shifts found again
  from_stays found again p sound unmarked fit = p sound unmarked

  append_shifts : (one one' other other' : List Finding) → Shifts one one' → (one' ≡ one → Shifts other other') → Shifts (one ++ other) (one' ++ other')
  append_shifts one one' other other' p q sound unmarked fit =
      let first : one' ≡ one = p (sound_left one other sound) (unmarked_left in_pre one other unmarked) (fits_left pre one other fit) in
      ap (λ l. l ++ other') first
      ∙ ap (λ l. one ++ l) (q first (sound_right one other sound) (unmarked_right in_pre one other unmarked) (fits_right pre one other fit))

  if_shifts : (c : Bool) (one one' other other' : List Finding) → Shifts one one' → Shifts other other' → Shifts (if c then one else other) (if c then one' else other')
  if_shifts true one one' other other' p q = p
  if_shifts false one one' other other' p q = q

  chain_shifts : (met : List Finding) (more holder n : ℕ) → Stays in_pre (chain pages taken met more holder n) (chain pages taken (pre ++ met) more holder n)
  chain_shifts met zero holder n = stays_same in_pre _
  chain_shifts met (suc more) holder n =
      if_stays in_pre (n == 0) _ _ _ _ (stays_same in_pre _)
      (if_stays in_pre (is_in_range pages n) _ _ _ _
      (rw (met_pre met n, append_assoc pre met (place n ∷ []))
      (link_stays in_pre n (in_pre n) (is_met taken met n) (pages.accepts n) _ _ refl (chain_shifts (met ++ place n ∷ []) more n (u32_at (pages.page n) 0))))
      (stays_same in_pre _))

  chain_of_shifts : (met : List Finding) (n : ℕ) (stored : StoredCell) → Stays in_pre (chain_of pages taken met n stored) (chain_of pages taken (pre ++ met) n stored)
  chain_of_shifts met n stored =
      if_stays in_pre (links_needed pages.usable stored == 0) _ _ _ _ (stays_same in_pre _)
      (if_stays in_pre (stored.first == 0) _ _ _ _ (stays_same in_pre _) (chain_shifts met (links_needed pages.usable stored) n stored.first))

  -- the entry behind a sound chain is there, so its rowid fits
  rowid_fits : (row : Row) (b : Bool) → b ≡ true → fits pre (if b then entry row ∷ [] else []) ≡ true → is_above (keys pre) row.rowid ≡ true
  rowid_fits row true is h = and_left _ _ h
  rowid_fits row false is h = cc

  given_shifts : (met : List Finding) (n : ℕ) (rowid : Option ℤ) (stored : StoredCell) → Shifts (given pages taken met n rowid stored) (given pages taken (pre ++ met) n rowid stored)
  given_shifts met n rowid stored sound unmarked fit =
      let first : List Finding = order_faults met n rowid in
      let found : List Finding = chain_of pages taken met n stored in
      let row : Row = record { rowid = rowid; payload = payload_of pages stored; page = n } in
      let last : List Finding = if is_sound found then entry row ∷ [] else [] in
      let behind : is_sound (found ++ last) ≡ true = sound_right first (found ++ last) sound in
      let free : AreUnmarked in_pre (places (found ++ last)) = unmarked_right in_pre first (found ++ last) unmarked in
      let chains : chain_of pages taken (pre ++ met) n stored ≡ found =
      chain_of_shifts met n stored (sound_left found last behind) (unmarked_left in_pre found last free)
      in
      let above : is_above (keys pre) rowid ≡ true =
      rowid_fits row (is_sound found) (sound_left found last behind) (fits_right pre found last (fits_right pre first (found ++ last) fit))
      in
      rw (order_same pre met n rowid above, chains) refl

  divider_shifts : (met : List Finding) (k : ℤ) → Shifts (key k ∷ late_faults k (entries met)) (key k ∷ late_faults k (entries (pre ++ met)))
  divider_shifts met k sound unmarked fit =
      ap (λ l. key k ∷ l)
      (ap (late_faults k) (entries-append pre met) ∙ late-append k (entries pre) (entries met)
      ∙ ap (λ l. l ++ late_faults k (entries met)) (late_proper pages taken met k (entries pre) (and_left _ _ fit)))

  module _ (below : Below) (shifts_below : (met : List Finding) (c : ℕ) → Shifts (below met c) (below (pre ++ met) c)) where
    step_shifts : (met : List Finding) (n : ℕ) (s : Step) → Shifts (step pages taken below met n s) (step pages taken below (pre ++ met) n s)
    step_shifts met n (child c) = if_shifts (is_in_range pages c) _ _ _ _ (shifts_below met c) (λ sound unmarked fit. refl)
    step_shifts met n (divider k) = divider_shifts met k
    step_shifts met n (cell rowid stored) = given_shifts met n rowid stored

    steps_shifts : (todo : List Step) (met : List Finding) (n : ℕ) → Shifts (steps_of pages taken below met n todo) (steps_of pages taken below (pre ++ met) n todo)
    steps_shifts [] met n = λ sound unmarked fit. refl
    steps_shifts (s ∷ todo) met n =
        append_shifts (step pages taken below met n s) _ _ _ (step_shifts met n s) (λ first.
        rw (first, append_assoc pre met (step pages taken below met n s)) (steps_shifts todo (met ++ step pages taken below met n s) n))

    inside_shifts : (met : List Finding) (n : ℕ) (reading : Result Node PageFault) → Shifts (inside pages taken below met n reading) (inside pages taken below (pre ++ met) n reading)
    inside_shifts met n (Err why) = λ sound unmarked fit. refl
    inside_shifts met n (Ok page) =
        rw (append_assoc pre met (place n ∷ [])) (steps_shifts (steps page.cells page.right) (met ++ place n ∷ []) n)

    visit_shifts : (family : Family) (met : List Finding) (n : ℕ) (e m accepted : Bool) → in_pre n ≡ e
        → Shifts (place n ∷ visit pages family taken below met n m accepted) (place n ∷ visit pages family taken below (pre ++ met) n (e || m) accepted)
    visit_shifts family met n true m accepted is sound unmarked fit = let no : true ≡ false = sym is ∙ or_left _ _ unmarked in cc
    visit_shifts family met n false true accepted is sound unmarked fit = cc
    visit_shifts family met n false false false is sound unmarked fit = cc
    visit_shifts family met n false false true is sound unmarked fit =
        ap (λ l. place n ∷ l) (inside_shifts met n (read_node family n (pages.page n)) sound (or_right _ _ unmarked) fit)

  deep_shifts : (n : ℕ) (e m : Bool) → in_pre n ≡ e → Shifts (place n ∷ too_deep n m) (place n ∷ too_deep n (e || m))
  deep_shifts n true m is sound unmarked fit = let no : true ≡ false = sym is ∙ or_left _ _ unmarked in cc
  deep_shifts n false true is sound unmarked fit = cc
  deep_shifts n false false is sound unmarked fit = cc

  -- a walk without a defect is the same after findings that it fits
  pub walk_shifts : (family : Family) (left : ℕ) (met : List Finding) (n : ℕ) → Shifts (walk pages family taken left met n) (walk pages family taken left (pre ++ met) n)
  unfolding walk
  walk_shifts family zero met n = rw (met_pre met n) (deep_shifts n (in_pre n) (is_met taken met n) refl)
  walk_shifts family (suc left) met n =
      rw (met_pre met n)
      (visit_shifts (walk pages family taken left) (walk_shifts family left) family met n (in_pre n) (is_met taken met n) (pages.accepts n) refl)
