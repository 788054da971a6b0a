-- A walk without a defect is the same over other pages, where these are the same at its places.
use Rattle.std.proofs.Common.{◌≡◌, ℕ, zero, suc, ℤ, Bool, true, false, List, [], ◌∷◌, ◌++◌, ◌==◌, drop, take, Option, Result, Ok, Err, if◌then◌else◌, refl, ap, sym, subst, ◌∙◌}
use Rattle.std.proofs.Math.Dec.{eqb-suc-zero}
use Rattle.btree_page.specs.declared.kind.Family.{Family}
use Rattle.db_format.specs.declared.defect.Defect.{Defect}
use Rattle.db_format.specs.declared.defect.Defect.TheVariants.{ChildOutOfRange}
use Rattle.db_format.specs.Bytes.{u32_at}
use Rattle.btree_page.specs.Cell.{StoredCell}
use Rattle.btree_page.specs.Page.{Node, read_node}
use Rattle.btree_page.specs.declared.page.PageFault.{PageFault}
use Rattle.db_format.specs.Pages.{Pages, Test}
use Rattle.btree_model.specs.Range.{is_in_range}
use Rattle.btree_model.specs.Finding.{Finding, place, entry, fault, places, is_sound}
use Rattle.btree_page.specs.Step.{Step, child, divider, entry as cell, steps}
use Rattle.btree_model.specs.Walk.{is_met, step, steps_of, walk, visit, inside, chain, link, chain_of, given, chain_bytes, payload_of, links_needed, order_faults, Below}
use Rattle.btree_model.proofs.FindingLemmas.{places-append}
use Rattle.btree_model.proofs.UnmarkedLemmas.{sound_left, sound_right}

-- the page with this number is the same, and accepted
pub record IsSamePage (old new : Pages) (n : ℕ) : Type 0 where
  pub bytes : new.page n ≡ old.page n
  pub accepted : new.accepts n ≡ true

abbrev pub AreSame : Pages → Pages → List ℕ → Type 0
AreSame old new [] = Unit {0}
AreSame old new (n ∷ ns) = IsSamePage old new n × AreSame old new ns

module _ (old new : Pages) (usable : new.usable ≡ old.usable)
    (range : (n : ℕ) → is_in_range old n ≡ true → is_in_range new n ≡ true) where
  same_left : (xs ys : List ℕ) → AreSame old new (xs ++ ys) → AreSame old new xs
  same_left [] ys h = tt
  same_left (x ∷ xs) ys h = (h.0, same_left xs ys h.1)

  same_right : (xs ys : List ℕ) → AreSame old new (xs ++ ys) → AreSame old new ys
  same_right [] ys h = h
  same_right (x ∷ xs) ys h = same_right xs ys h.1

  -- the findings stay the same
  abbrev pub Kept : List Finding → List Finding → Type 0
  Kept found again = is_sound found ≡ true → AreSame old new (places found) → again ≡ found

  pub kept_same : (found : List Finding) → Kept found found
  kept_same found sound same = refl

  if_kept : (c : Bool) (one one' other other' : List Finding) → Kept one one' → Kept other other' → Kept (if c then one else other) (if c then one' else other')
  if_kept true one one' other other' p q = p
  if_kept false one one' other other' p q = q

  pub append_kept : (one one' other other' : List Finding) → Kept one one' → (one' ≡ one → Kept other other') → Kept (one ++ other) (one' ++ other')
  append_kept one one' other other' p q sound same =
      let both : AreSame old new (places one ++ places other) = rw (sym (places-append one other)) same in
      let first : one' ≡ one = p (sound_left one other sound) (same_left (places one) (places other) both) in
      ap (λ l. l ++ other') first ∙ ap (λ l. one ++ l) (q first (sound_right one other sound) (same_right (places one) (places other) both))

  -- a number that is in range stays so, and where it is not there is a defect
  range_kept : (n : ℕ) (c : Bool) (d : Defect) (found again : List Finding) → is_in_range old n ≡ c → Kept found again
      → Kept (if c then found else fault d ∷ []) (if is_in_range new n then again else fault d ∷ [])
  range_kept n true d found again is p = rw (range n is) p
  range_kept n false d found again is p = λ sound same. cc

  link_kept : (n : ℕ) (m accepted : Bool) (found again : List Finding) → (IsSamePage old new n → Kept found again)
      → Kept (link n m accepted found) (link n m (new.accepts n) again)
  link_kept n true accepted found again p sound same = cc
  link_kept n false false found again p sound same = cc
  link_kept n false true found again p sound same = rw same.0.accepted (ap (λ l. place n ∷ l) (p same.0 sound same.1))

  pub chain_kept : (taken : Test) (met : List Finding) (more holder n : ℕ) → Kept (chain old taken met more holder n) (chain new taken met more holder n)
  chain_kept taken met zero holder n = kept_same _
  chain_kept taken met (suc more) holder n =
      if_kept (n == 0) _ _ _ _ (kept_same _)
      (range_kept n (is_in_range old n) _ _ _ refl
      (link_kept n (is_met taken met n) (old.accepts n) _ _ (λ page.
      rw page.bytes (chain_kept taken (met ++ place n ∷ []) more n (u32_at (old.page n) 0)))))

  -- the bytes of a chain without a defect
  abbrev pub SameBytes : ℕ → ℕ → List Finding → Type 0
  SameBytes more n found = is_sound found ≡ true → AreSame old new (places found) → chain_bytes new more n ≡ chain_bytes old more n

  link_bytes : (more n : ℕ) (m accepted : Bool) (after : List Finding) → (IsSamePage old new n → SameBytes more (u32_at (old.page n) 0) after)
      → SameBytes (suc more) n (link n m accepted after)
  link_bytes more n true accepted after p sound same = cc
  link_bytes more n false false after p sound same = cc
  link_bytes more n false true after p sound same = rw same.0.bytes (ap (λ l. drop 4 (old.page n) ++ l) (p same.0 sound same.1))

  if_bytes : (more n : ℕ) (c : Bool) (one other : List Finding) → SameBytes more n one → SameBytes more n other → SameBytes more n (if c then one else other)
  if_bytes more n true one other p q = p
  if_bytes more n false one other p q = q

  pub chain_bytes_kept : (taken : Test) (met : List Finding) (more holder n : ℕ) → SameBytes more n (chain old taken met more holder n)
  chain_bytes_kept taken met zero holder n = λ sound same. refl
  chain_bytes_kept taken met (suc more) holder n =
      if_bytes (suc more) n (n == 0) _ _ (λ sound same. cc)
      (if_bytes (suc more) n (is_in_range old n) _ _
      (link_bytes more n (is_met taken met n) (old.accepts n) _ (λ page. chain_bytes_kept taken (met ++ place n ∷ []) more n (u32_at (old.page n) 0)))
      (λ sound same. cc))

  links_same : (stored : StoredCell) → links_needed new.usable stored ≡ links_needed old.usable stored
  links_same stored = ap (λ u. links_needed u stored) usable

  chain_of_kept : (taken : Test) (met : List Finding) (n : ℕ) (stored : StoredCell) → Kept (chain_of old taken met n stored) (chain_of new taken met n stored)
  chain_of_kept taken met n stored =
      subst
      (λ k. Kept (chain_of old taken met n stored)
      (if k == 0 then [] else (if stored.first == 0 then fault (ChildOutOfRange n) ∷ [] else chain new taken met k n stored.first)))
      (sym (links_same stored))
      (if_kept (links_needed old.usable stored == 0) _ _ _ _ (kept_same _)
      (if_kept (stored.first == 0) _ _ _ _ (kept_same _) (chain_kept taken met (links_needed old.usable stored) n stored.first)))

  no_links : (links first n : ℕ) (one : List Finding) → SameBytes links first one
      → SameBytes links first (if links == 0 then [] else (if first == 0 then fault (ChildOutOfRange n) ∷ [] else one))
  no_links zero first n one p = λ sound same. refl
  no_links (suc links) first n one p =
      let some : (suc links == 0) ≡ false = eqb-suc-zero links in rw some (if_bytes (suc links) first (first == 0) _ _ (λ sound same. cc) p)

  payload_kept : (taken : Test) (met : List Finding) (n : ℕ) (stored : StoredCell) → is_sound (chain_of old taken met n stored) ≡ true
      → AreSame old new (places (chain_of old taken met n stored)) → payload_of new stored ≡ payload_of old stored
  payload_kept taken met n stored sound same =
      ap (λ k. take stored.size (stored.local ++ chain_bytes new k stored.first)) (links_same stored)
      ∙ ap (λ l. take stored.size (stored.local ++ l))
      (no_links (links_needed old.usable stored) stored.first n _ (chain_bytes_kept taken met (links_needed old.usable stored) n stored.first) sound same)

  given_kept : (taken : Test) (met : List Finding) (n : ℕ) (rowid : Option ℤ) (stored : StoredCell)
      → Kept (given old taken met n rowid stored) (given new taken met n rowid stored)
  given_kept taken met n rowid stored sound same =
      let first : List Finding = order_faults met n rowid in
      let found : List Finding = chain_of old taken met n stored in
      let last : List Finding = if is_sound found then entry (record { rowid = rowid; payload = payload_of old stored; page = n }) ∷ [] else [] in
      let behind : is_sound (found ++ last) ≡ true = sound_right first (found ++ last) sound in
      let same_behind : AreSame old new (places found ++ places last) =
      rw (sym (places-append found last)) (same_right (places first) (places (found ++ last)) (rw (sym (places-append first (found ++ last))) same))
      in
      let chains : chain_of new taken met n stored ≡ found = chain_of_kept taken met n stored (sound_left found last behind) (same_left (places found) (places last) same_behind) in
      let bytes : payload_of new stored ≡ payload_of old stored =
      payload_kept taken met n stored (sound_left found last behind) (same_left (places found) (places last) same_behind)
      in
      rw (chains, bytes) refl

  module _ (taken : Test) (below again : Below) (same_below : (met : List Finding) (c : ℕ) → Kept (below met c) (again met c)) where
    pub step_kept : (met : List Finding) (n : ℕ) (s : Step) → Kept (step old taken below met n s) (step new taken again met n s)
    step_kept met n (child c) = range_kept c (is_in_range old c) _ _ _ refl (same_below met c)
    step_kept met n (divider k) = kept_same _
    step_kept met n (cell rowid stored) = given_kept taken met n rowid stored

    pub steps_kept : (todo : List Step) (met : List Finding) (n : ℕ) → Kept (steps_of old taken below met n todo) (steps_of new taken again met n todo)
    steps_kept [] met n = kept_same _
    steps_kept (s ∷ todo) met n =
        append_kept (step old taken below met n s) _ _ _ (step_kept met n s) (λ first. rw first (steps_kept todo (met ++ step old taken below met n s) n))

    inside_kept : (met : List Finding) (n : ℕ) (reading : Result Node PageFault) → Kept (inside old taken below met n reading) (inside new taken again met n reading)
    inside_kept met n (Err why) = kept_same _
    inside_kept met n (Ok page) = steps_kept (steps page.cells page.right) (met ++ place n ∷ []) n

    visit_kept : (family : Family) (met : List Finding) (n : ℕ) (m accepted : Bool)
        → Kept (place n ∷ visit old family taken below met n m accepted) (place n ∷ visit new family taken again met n m (new.accepts n))
    visit_kept family met n true accepted sound same = cc
    visit_kept family met n false false sound same = cc
    visit_kept family met n false true sound same =
        rw (same.0.accepted, same.0.bytes) (ap (λ l. place n ∷ l) (inside_kept met n (read_node family n (old.page n)) sound same.1))

  -- the walk of a tree without a defect is the same over the new pages
  pub walk_kept : (family : Family) (taken : Test) (left : ℕ) (met : List Finding) (n : ℕ)
      → Kept (walk old family taken left met n) (walk new family taken left met n)
  unfolding walk
  walk_kept family taken zero met n = kept_same _
  walk_kept family taken (suc left) met n =
      visit_kept taken (walk old family taken left) (walk new family taken left) (walk_kept family taken left) family met n (is_met taken met n) (old.accepts n)
