-- In a walk without a defect no page is met twice, and each rowid is above the rowids and keys before it.
use Rattle.std.proofs.Common.{◌≡◌, ℕ, zero, suc, ℤ, Bool, true, false, not, List, [], ◌∷◌, ◌++◌, ◌&&◌, ◌==◌, Option, Some, None, Result, Ok, Err, if◌then◌else◌, refl, ap, sym, ◌∙◌}
use Rattle.std.specs.Prelude.{int_le}
use Rattle.std.specs.List.{list_any}
use Rattle.std.specs.Option.{option_to_list}
use Rattle.std.proofs.lemmas.List.{append_assoc, append-nil}
use Rattle.btree_page.specs.declared.kind.Family.{Family}
use Rattle.db_format.specs.declared.defect.Defect.TheVariants.{RowidOrder}
use Rattle.db_format.specs.Bytes.{u32_at}
use Rattle.btree_page.specs.Cell.{StoredCell}
use Rattle.btree_page.specs.Page.{Node, read_node}
use Rattle.btree_page.specs.declared.page.PageFault.{PageFault}
use Rattle.db_format.specs.Pages.{Pages, Test}
use Rattle.btree_model.specs.Range.{is_in_range}
use Rattle.btree_model.specs.Finding.{Row, Finding, place, leaf, entry, key, fault, refused, keys, entries, is_sound}
use Rattle.btree_page.specs.Step.{Step, child, divider, entry as cell, steps}
use Rattle.btree_model.specs.Walk.{is_met, step, steps_of, walk, visit, chain, link, chain_of, given, payload_of, links_needed, order_faults, late_faults, too_deep, Below}
use Rattle.btree_model.proofs.UnmarkedLemmas.{sound_left, sound_right}

-- the rowid is above all these
abbrev pub is_above : List ℤ → Option ℤ → Bool
is_above ks None = true
is_above ks (Some rowid) = not (list_any (λ k. int_le rowid k) ks)

-- what a finding owes to those before it
abbrev pub is_proper : Test → List Finding → Finding → Bool
is_proper taken met (place n) = not (is_met taken met n)
is_proper taken met (leaf n) = not (is_met taken met n)
is_proper taken met (entry row) = is_above (keys met) row.rowid
is_proper taken met (key k) = true
is_proper taken met (fault d) = true
is_proper taken met (refused n) = true

-- each finding is so after those before it
abbrev pub are_proper : Test → List Finding → List Finding → Bool
are_proper taken met [] = true
are_proper taken met (x ∷ xs) = is_proper taken met x && are_proper taken (met ++ x ∷ []) xs

and_again : (a b c : Bool) → (a && (b && c)) ≡ (a && b && c)
and_again true b c = refl
and_again false b c = refl

proper-append : (taken : Test) (met xs ys : List Finding)
    → are_proper taken met (xs ++ ys) ≡ (are_proper taken met xs && are_proper taken (met ++ xs) ys)
proper-append taken met [] ys = ap (λ m. are_proper taken m ys) (sym (append-nil met))
proper-append taken met (x ∷ xs) ys =
    ap (λ b. is_proper taken met x && b)
    (proper-append taken (met ++ x ∷ []) xs ys
    ∙ ap (λ m. are_proper taken (met ++ x ∷ []) xs && are_proper taken m ys) (append_assoc met (x ∷ []) xs))
    ∙ and_again (is_proper taken met x) (are_proper taken (met ++ x ∷ []) xs) (are_proper taken (met ++ x ∷ xs) ys)

-- sound findings are proper
abbrev Proper : Test → List Finding → List Finding → Type 0
Proper taken met found = is_sound found ≡ true → are_proper taken met found ≡ true

append_proper : (taken : Test) (met xs ys : List Finding) → Proper taken met xs → Proper taken (met ++ xs) ys → Proper taken met (xs ++ ys)
append_proper taken met xs ys p q sound =
    proper-append taken met xs ys ∙ ap (λ b. b && are_proper taken (met ++ xs) ys) (p (sound_left xs ys sound)) ∙ q (sound_right xs ys sound)

if_proper : (taken : Test) (met : List Finding) (c : Bool) (one other : List Finding) → Proper taken met one → Proper taken met other
    → Proper taken met (if c then one else other)
if_proper taken met true one other p q = p
if_proper taken met false one other p q = q

-- a page with no earlier place, and what follows it
place_proper : (taken : Test) (met : List Finding) (n : ℕ) (m : Bool) (after : List Finding) → is_met taken met n ≡ m → m ≡ false
    → are_proper taken (met ++ place n ∷ []) after ≡ true → are_proper taken met (place n ∷ after) ≡ true
place_proper taken met n m after is fresh h = ap (λ b. not b && are_proper taken (met ++ place n ∷ []) after) (is ∙ fresh) ∙ h

pub keys-append : (xs ys : List Finding) → keys (xs ++ ys) ≡ keys xs ++ keys ys
keys-append [] ys = refl
keys-append (place n ∷ xs) ys = keys-append xs ys
keys-append (leaf n ∷ xs) ys = keys-append xs ys
keys-append (fault d ∷ xs) ys = keys-append xs ys
keys-append (refused n ∷ xs) ys = keys-append xs ys
keys-append (key k ∷ xs) ys = ap (λ l. k ∷ l) (keys-append xs ys)
keys-append (entry row ∷ xs) ys = ap (λ l. option_to_list row.rowid ++ l) (keys-append xs ys) ∙ sym (append_assoc (option_to_list row.rowid) (keys xs) (keys ys))

if_no_keys : (c : Bool) (one other : List Finding) → keys one ≡ [] → keys other ≡ [] → keys (if c then one else other) ≡ []
if_no_keys true one other p q = p
if_no_keys false one other p q = q

link_no_keys : (n : ℕ) (m accepted : Bool) (after : List Finding) → keys after ≡ [] → keys (link n m accepted after) ≡ []
link_no_keys n true accepted after p = refl
link_no_keys n false false after p = refl
link_no_keys n false true after p = p

below_none : (n : ℕ) (b : Bool) → is_sound (if b then fault (RowidOrder n) ∷ [] else []) ≡ true
    → ((if b then fault (RowidOrder n) ∷ [] else []) ≡ []) × (not b ≡ true)
below_none n true sound = cc
below_none n false sound = (refl, refl)

late_none : (after : List Finding) (b : Bool) (n : ℕ) → is_sound ((if b then fault (RowidOrder n) ∷ [] else []) ++ after) ≡ true
    → (is_sound after ≡ true → after ≡ []) → (if b then fault (RowidOrder n) ∷ [] else []) ++ after ≡ []
late_none after true n sound p = cc
late_none after false n sound p = p sound

bad_sound : false ≡ true → ⊥
bad_sound h = cc

order_proper : (met : List Finding) (n : ℕ) (rowid : Option ℤ) → is_sound (order_faults met n rowid) ≡ true
    → (order_faults met n rowid ≡ []) × (is_above (keys met) rowid ≡ true)
order_proper met n None sound = (refl, refl)
order_proper met n (Some rowid) sound = below_none n (list_any (λ k. int_le rowid k) (keys met)) sound

module _ (pages : Pages) (taken : Test) where
  chain_no_keys : (met : List Finding) (more holder n : ℕ) → keys (chain pages taken met more holder n) ≡ []
  chain_no_keys met zero holder n = if_no_keys (n == 0) _ _ refl refl
  chain_no_keys met (suc more) holder n =
      if_no_keys (n == 0) _ _ refl
      (if_no_keys (is_in_range pages n) _ _
      (link_no_keys n (is_met taken met n) (pages.accepts n) _ (chain_no_keys (met ++ place n ∷ []) more n (u32_at (pages.page n) 0))) refl)

  chain_of_no_keys : (met : List Finding) (n : ℕ) (stored : StoredCell) → keys (chain_of pages taken met n stored) ≡ []
  chain_of_no_keys met n stored =
      if_no_keys (links_needed pages.usable stored == 0) _ _ refl
      (if_no_keys (stored.first == 0) _ _ refl (chain_no_keys met (links_needed pages.usable stored) n stored.first))

  link_proper : (met : List Finding) (n : ℕ) (m accepted : Bool) (after : List Finding) → is_met taken met n ≡ m
      → Proper taken (met ++ place n ∷ []) after → Proper taken met (link n m accepted after)
  link_proper met n true accepted after is p sound = cc
  link_proper met n false false after is p sound = cc
  link_proper met n false true after is p sound = place_proper taken met n false after is refl (p sound)

  chain_proper : (met : List Finding) (more holder n : ℕ) → Proper taken met (chain pages taken met more holder n)
  chain_proper met zero holder n = if_proper taken met (n == 0) _ _ (λ sound. refl) (λ sound. refl)
  chain_proper met (suc more) holder n =
      if_proper taken met (n == 0) _ _ (λ sound. refl)
      (if_proper taken met (is_in_range pages n) _ _
      (link_proper met n (is_met taken met n) (pages.accepts n) _ refl (chain_proper (met ++ place n ∷ []) more n (u32_at (pages.page n) 0)))
      (λ sound. refl))

  chain_of_proper : (met : List Finding) (n : ℕ) (stored : StoredCell) → Proper taken met (chain_of pages taken met n stored)
  chain_of_proper met n stored =
      if_proper taken met (links_needed pages.usable stored == 0) _ _ (λ sound. refl)
      (if_proper taken met (stored.first == 0) _ _ (λ sound. refl) (chain_proper met (links_needed pages.usable stored) n stored.first))

  last_proper : (met found : List Finding) (row : Row) (b : Bool) → keys found ≡ [] → is_above (keys met) row.rowid ≡ true
      → are_proper taken (met ++ found) (if b then entry row ∷ [] else []) ≡ true
  last_proper met found row false none above = refl
  last_proper met found row true none above =
      let same : keys (met ++ found) ≡ keys met = keys-append met found ∙ ap (λ l. keys met ++ l) none ∙ append-nil (keys met) in
      ap (λ ks. is_above ks row.rowid && true) same ∙ ap (λ b. b && true) above

  given_proper : (met : List Finding) (n : ℕ) (rowid : Option ℤ) (stored : StoredCell) → Proper taken met (given pages taken met n rowid stored)
  given_proper met n rowid stored sound =
      let found : List Finding = chain_of pages taken met n stored in
      let row : Row = record { rowid = rowid; payload = payload_of pages stored; page = n } in
      let last : List Finding = if is_sound found then entry row ∷ [] else [] in
      let order : (order_faults met n rowid ≡ []) × (is_above (keys met) rowid ≡ true) =
      order_proper met n rowid (sound_left (order_faults met n rowid) (found ++ last) sound)
      in
      let behind : is_sound (found ++ last) ≡ true = sound_right (order_faults met n rowid) (found ++ last) sound in
      ap (λ l. are_proper taken met (l ++ (found ++ last))) order.0
      ∙ append_proper taken met found last (chain_of_proper met n stored)
      (λ s. last_proper met found row (is_sound found) (chain_of_no_keys met n stored) order.1) behind

  pub late_proper : (met : List Finding) (k : ℤ) (rows : List Row) → is_sound (late_faults k rows) ≡ true → late_faults k rows ≡ []
  late_proper met k [] sound = refl
  late_proper met k (row ∷ rows) sound = late_none (late_faults k rows) _ row.page sound (late_proper met k rows)

  module _ (below : Below) (proper_below : (met : List Finding) (c : ℕ) → Proper taken met (below met c)) where
    step_proper : (met : List Finding) (n : ℕ) (s : Step) → Proper taken met (step pages taken below met n s)
    step_proper met n (child c) = if_proper taken met (is_in_range pages c) _ _ (proper_below met c) (λ sound. refl)
    step_proper met n (divider k) = λ sound. ap (λ l. are_proper taken met (key k ∷ l)) (late_proper met k (entries met) sound)
    step_proper met n (cell rowid stored) = given_proper met n rowid stored

    steps_proper : (todo : List Step) (met : List Finding) (n : ℕ) → Proper taken met (steps_of pages taken below met n todo)
    steps_proper [] met n = λ sound. refl
    steps_proper (s ∷ todo) met n =
        append_proper taken met (step pages taken below met n s) _ (step_proper met n s) (steps_proper todo (met ++ step pages taken below met n s) n)

    visit_proper : (family : Family) (met : List Finding) (n : ℕ) (m accepted : Bool) (reading : Result Node PageFault) → is_met taken met n ≡ m
        → read_node family n (pages.page n) ≡ reading → Proper taken met (place n ∷ visit pages family taken below met n m accepted)
    visit_proper family met n true accepted reading is reads = λ sound. cc
    visit_proper family met n false false reading is reads = λ sound. cc
    visit_proper family met n false true (Err why) is reads = λ sound. absurd (bad_sound (rw reads at sound))
    visit_proper family met n false true (Ok page) is reads =
        rw reads (λ sound. place_proper taken met n false (steps_of pages taken below (met ++ place n ∷ []) n (steps page.cells page.right)) is refl (steps_proper (steps page.cells page.right) (met ++ place n ∷ []) n sound))

  deep_proper : (met : List Finding) (n : ℕ) (m : Bool) → Proper taken met (place n ∷ too_deep n m)
  deep_proper met n true sound = cc
  deep_proper met n false sound = cc

  -- a walk without a defect meets no page twice, and its rowids ascend
  pub walk_proper : (family : Family) (left : ℕ) (met : List Finding) (n : ℕ) → Proper taken met (walk pages family taken left met n)
  unfolding walk
  walk_proper family zero met n = deep_proper met n (is_met taken met n)
  walk_proper family (suc left) met n =
      visit_proper (walk pages family taken left) (walk_proper family left) family met n (is_met taken met n) (pages.accepts n) _ refl refl
