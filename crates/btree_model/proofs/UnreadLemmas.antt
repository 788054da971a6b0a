-- A walk reads no page that has a place in an earlier part.
use Rattle.std.proofs.Common.{◌≡◌, ℕ, zero, suc, ℤ, Bool, true, false, List, [], ◌∷◌, ◌++◌, ◌==◌, drop, take, Option, Result, Ok, Err, if◌then◌else◌, refl, ap, ◌∙◌}
use Rattle.std.specs.Prelude.{◌&&◌, nat_le}
use Rattle.std.proofs.Math.Dec.{eqb-suc-zero}
use Rattle.btree_page.specs.declared.kind.Family.{Family}
use Rattle.db_format.specs.declared.defect.Defect.TheVariants.{ChildOutOfRange, ChainShort}
use Rattle.db_format.specs.Bytes.{u32_at}
use Rattle.btree_page.specs.Cell.{StoredCell}
use Rattle.btree_page.specs.Page.{Node, read_node}
use Rattle.btree_page.specs.declared.page.PageFault.{PageFault}
use Rattle.db_format.specs.Pages.{Pages, Test}
use Rattle.btree_model.specs.Range.{is_in_range}
use Rattle.btree_model.specs.Finding.{Finding, place, entry, fault, is_sound}
use Rattle.btree_page.specs.Step.{Step, child, divider, entry as cell, steps}
use Rattle.btree_model.specs.Walk.{is_met, step, steps_of, walk, visit, inside, chain, link, chain_of, given, chain_bytes, payload_of, links_needed, order_faults, Below}
use Rattle.btree_model.proofs.UnmarkedLemmas.{or_right}

-- the page with this number is the same
pub record IsAlike (old new : Pages) (n : ℕ) : Type 0 where
  pub bytes : new.page n ≡ old.page n
  pub accepted : new.accepts n ≡ old.accepts n

-- all pages are but those of the test, and there are as many of the same length
pub record AreAlikeBut (taken : Test) (old new : Pages) : Type 0 where
  pub count : new.count ≡ old.count
  pub usable : new.usable ≡ old.usable
  pub alike : (n : ℕ) → taken n ≡ false → IsAlike old new n

pub same_range : (taken : Test) (old new : Pages) → AreAlikeBut taken old new → (n : ℕ) → is_in_range new n ≡ is_in_range old n
same_range taken old new all n = ap (λ c. nat_le 2 n && nat_le n c) all.count

if_same : (b : Bool) (one one' other : List Finding) → (b ≡ true → one' ≡ one) → (if b then one' else other) ≡ (if b then one else other)
if_same true one one' other same = same refl
if_same false one one' other same = refl

link_same : (n : ℕ) (m accepted accepted' : Bool) (after after' : List Finding) → (m ≡ false → (accepted' ≡ accepted) × (after' ≡ after))
    → link n m accepted' after' ≡ link n m accepted after
link_same n true accepted accepted' after after' same = refl
link_same n false accepted accepted' after after' same =
    let both = same refl in ap (λ a. link n false a after') both.0 ∙ ap (λ l. link n false accepted l) both.1

module _ (taken : Test) (old new : Pages) (all : AreAlikeBut taken old new) where
  -- a page with no earlier place is the same
  unmet : (met : List Finding) (n : ℕ) → is_met taken met n ≡ false → IsAlike old new n
  unmet met n fresh = all.alike n (or_right _ _ fresh)

  chain_same : (met : List Finding) (more holder n : ℕ) → chain new taken met more holder n ≡ chain old taken met more holder n
  chain_same met zero holder n = refl
  chain_same met (suc more) holder n =
      rw (same_range taken old new all n)
      (ap (λ l. if n == 0 then fault (ChainShort holder) ∷ [] else (if is_in_range old n then l else fault (ChildOutOfRange holder) ∷ []))
      (link_same n (is_met taken met n) (old.accepts n) (new.accepts n) _ _ (λ fresh. (
        (unmet met n fresh).accepted,
        ap (λ bytes. chain new taken (met ++ place n ∷ []) more n (u32_at bytes 0)) (unmet met n fresh).bytes
            ∙ chain_same (met ++ place n ∷ []) more n (u32_at (old.page n) 0),
      ))))

  -- the bytes of a chain without a defect
  abbrev SameBytes : ℕ → ℕ → List Finding → Type 0
  SameBytes more n found = is_sound found ≡ true → chain_bytes new more n ≡ chain_bytes old more n

  link_bytes : (more n : ℕ) (m accepted : Bool) (after : List Finding) → (m ≡ false → new.page n ≡ old.page n)
      → SameBytes more (u32_at (old.page n) 0) after → SameBytes (suc more) n (link n m accepted after)
  link_bytes more n true accepted after page p sound = cc
  link_bytes more n false false after page p sound = cc
  link_bytes more n false true after page p sound = rw (page refl) (ap (λ l. drop 4 (old.page n) ++ l) (p sound))

  if_bytes : (more n : ℕ) (c : Bool) (one other : List Finding) → SameBytes more n one → SameBytes more n other → SameBytes more n (if c then one else other)
  if_bytes more n true one other p q = p
  if_bytes more n false one other p q = q

  chain_bytes_same : (met : List Finding) (more holder n : ℕ) → SameBytes more n (chain old taken met more holder n)
  chain_bytes_same met zero holder n = λ sound. refl
  chain_bytes_same met (suc more) holder n =
      if_bytes (suc more) n (n == 0) _ _ (λ sound. cc)
      (if_bytes (suc more) n (is_in_range old n) _ _
      (link_bytes more n (is_met taken met n) (old.accepts n) _ (λ fresh. (unmet met n fresh).bytes)
      (chain_bytes_same (met ++ place n ∷ []) more n (u32_at (old.page n) 0)))
      (λ sound. cc))

  links_same : (stored : StoredCell) → links_needed new.usable stored ≡ links_needed old.usable stored
  links_same stored = ap (λ u. links_needed u stored) all.usable

  chain_of_same : (met : List Finding) (n : ℕ) (stored : StoredCell) → chain_of new taken met n stored ≡ chain_of old taken met n stored
  chain_of_same met n stored =
      rw (links_same stored)
      (ap (λ l. if links_needed old.usable stored == 0 then [] else (if stored.first == 0 then fault (ChildOutOfRange n) ∷ [] else l))
      (chain_same met (links_needed old.usable stored) n stored.first))

  no_links : (links first n : ℕ) (one : List Finding) → SameBytes links first one
      → SameBytes links first (if links == 0 then [] else (if first == 0 then fault (ChildOutOfRange n) ∷ [] else one))
  no_links zero first n one p = λ sound. refl
  no_links (suc links) first n one p =
      let some : (suc links == 0) ≡ false = eqb-suc-zero links in rw some (if_bytes (suc links) first (first == 0) _ _ (λ sound. cc) p)

  payload_same : (met : List Finding) (n : ℕ) (stored : StoredCell) → is_sound (chain_of old taken met n stored) ≡ true
      → payload_of new stored ≡ payload_of old stored
  payload_same met n stored sound =
      ap (λ k. take stored.size (stored.local ++ chain_bytes new k stored.first)) (links_same stored)
      ∙ ap (λ l. take stored.size (stored.local ++ l))
      (no_links (links_needed old.usable stored) stored.first n _ (chain_bytes_same met (links_needed old.usable stored) n stored.first) sound)

  given_same : (met : List Finding) (n : ℕ) (rowid : Option ℤ) (stored : StoredCell) → given new taken met n rowid stored ≡ given old taken met n rowid stored
  given_same met n rowid stored =
      let found = chain_of old taken met n stored in
      rw (chain_of_same met n stored)
      (ap (λ l. order_faults met n rowid ++ (found ++ l))
      (if_same (is_sound found) _ _ [] (λ sound. ap (λ bytes. entry (record { rowid = rowid; payload = bytes; page = n }) ∷ []) (payload_same met n stored sound))))

  module _ (below again : Below) (same_below : (met : List Finding) (c : ℕ) → again met c ≡ below met c) where
    step_same : (met : List Finding) (n : ℕ) (s : Step) → step new taken again met n s ≡ step old taken below met n s
    step_same met n (child c) =
        rw (same_range taken old new all c) (ap (λ l. if is_in_range old c then l else fault (ChildOutOfRange n) ∷ []) (same_below met c))
    step_same met n (divider k) = refl
    step_same met n (cell rowid stored) = given_same met n rowid stored

    steps_same : (todo : List Step) (met : List Finding) (n : ℕ) → steps_of new taken again met n todo ≡ steps_of old taken below met n todo
    steps_same [] met n = refl
    steps_same (s ∷ todo) met n =
        rw (step_same met n s)
        (ap (λ l. step old taken below met n s ++ l) (steps_same todo (met ++ step old taken below met n s) n))

    inside_same : (met : List Finding) (n : ℕ) (reading : Result Node PageFault) → inside new taken again met n reading ≡ inside old taken below met n reading
    inside_same met n (Err why) = refl
    inside_same met n (Ok page) = steps_same (steps page.cells page.right) (met ++ place n ∷ []) n

    visit_same : (family : Family) (met : List Finding) (n : ℕ) (m accepted accepted' : Bool)
        → (m ≡ false → (accepted' ≡ accepted) × (new.page n ≡ old.page n))
        → visit new family taken again met n m accepted' ≡ visit old family taken below met n m accepted
    visit_same family met n true accepted accepted' same = refl
    visit_same family met n false false accepted' same = rw (same refl).0 refl
    visit_same family met n false true accepted' same =
        rw ((same refl).0, (same refl).1) (inside_same met n (read_node family n (old.page n)))

  -- the walk of a tree is the same over the new pages, defects included
  pub walk_same : (family : Family) (left : ℕ) (met : List Finding) (n : ℕ) → walk new family taken left met n ≡ walk old family taken left met n
  unfolding walk
  walk_same family zero met n = refl
  walk_same family (suc left) met n =
      ap (λ l. place n ∷ l)
      (visit_same (walk old family taken left) (walk new family taken left) (walk_same family left) family met n (is_met taken met n)
      (old.accepts n) (new.accepts n) (λ fresh. ((unmet met n fresh).accepted, (unmet met n fresh).bytes)))
