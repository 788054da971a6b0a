-- A walk without a defect is the same where no page has a place in an earlier part.
use Rattle.std.proofs.Common.{◌≡◌, ℕ, zero, suc, Bool, true, false, List, [], ◌∷◌, ◌++◌, ◌||◌, ◌==◌, Result, Ok, Err, if◌then◌else◌, refl, ap, sym, ◌∙◌}
use Rattle.std.proofs.Math.Bool.{or_assoc, or_comm, or-false}
use Rattle.std.proofs.Math.Path.{fun_ext}
use Rattle.std.specs.List.{list_any}
use Rattle.btree_page.specs.declared.kind.Family.{Family}
use Rattle.db_format.specs.Bytes.{u32_at}
use Rattle.btree_page.specs.Cell.{StoredCell}
use Rattle.btree_page.specs.Page.{Node, read_node}
use Rattle.btree_page.specs.declared.page.PageFault.{PageFault}
use Rattle.db_format.specs.Pages.{Pages, Test, nothing}
use Rattle.btree_model.specs.Range.{is_in_range}
use Rattle.btree_model.specs.Finding.{Finding, place, places, is_sound}
use Rattle.btree_page.specs.Step.{Step, child, divider, entry as cell, steps}
use Rattle.btree_model.specs.Walk.{is_met, step, steps_of, walk, visit, inside, chain, link, chain_of, links_needed, order_faults, too_deep, Below}
use Rattle.btree_model.specs.Tree.{tree_walk}
use Rattle.btree_model.proofs.UnmarkedLemmas.{both, sound_left, sound_right}

met_both : (extra taken : Test) (met : List Finding) (n : ℕ) → is_met (both extra taken) met n ≡ (extra n || is_met taken met n)
met_both extra taken met n =
    sym (or_assoc (list_any (λ m. m == n) (places met)) (extra n) (taken n))
    ∙ ap (λ b. b || taken n) (or_comm (list_any (λ m. m == n) (places met)) (extra n))
    ∙ or_assoc (extra n) (list_any (λ m. m == n) (places met)) (taken n)

-- findings under more marks, where they are sound, are those under fewer
abbrev Drops : List Finding → List Finding → Type 0
Drops found again = is_sound again ≡ true → again ≡ found

drops_same : (found : List Finding) → Drops found found
drops_same found sound = refl

if_drops : (c : Bool) (one one' other other' : List Finding) → Drops one one' → Drops other other'
    → Drops (if c then one else other) (if c then one' else other')
if_drops true one one' other other' p q = p
if_drops false one one' other other' p q = q

append_drops : (one one' other other' : List Finding) → Drops one one' → (one' ≡ one → Drops other other') → Drops (one ++ other) (one' ++ other')
append_drops one one' other other' p q sound =
    let first : one' ≡ one = p (sound_left one' other' sound) in
    ap (λ l. l ++ other') first ∙ ap (λ l. one ++ l) (q first (sound_right one' other' sound))

link_drops : (n : ℕ) (e m accepted : Bool) (found again : List Finding) → Drops found again → Drops (link n m accepted found) (link n (e || m) accepted again)
link_drops n true true true found again same sound = cc
link_drops n true true false found again same sound = cc
link_drops n true false true found again same sound = cc
link_drops n true false false found again same sound = cc
link_drops n false true true found again same sound = cc
link_drops n false true false found again same sound = cc
link_drops n false false false found again same sound = cc
link_drops n false false true found again same sound = ap (λ l. place n ∷ l) (same sound)

module _ (pages : Pages) (extra taken : Test) where
  chain_drops : (met : List Finding) (more holder n : ℕ) → Drops (chain pages taken met more holder n) (chain pages (both extra taken) met more holder n)
  chain_drops met zero holder n = drops_same _
  chain_drops met (suc more) holder n =
      if_drops (n == 0) _ _ _ _ (drops_same _)
      (if_drops (is_in_range pages n) _ _ _ _
      (rw (met_both extra taken met n)
      (link_drops n (extra n) (is_met taken met n) (pages.accepts n) _ _ (chain_drops (met ++ place n ∷ []) more n (u32_at (pages.page n) 0))))
      (drops_same _))

  chain_of_drops : (met : List Finding) (n : ℕ) (stored : StoredCell) → Drops (chain_of pages taken met n stored) (chain_of pages (both extra taken) met n stored)
  chain_of_drops met n stored =
      if_drops (links_needed pages.usable stored == 0) _ _ _ _ (drops_same _)
      (if_drops (stored.first == 0) _ _ _ _ (drops_same _) (chain_drops met (links_needed pages.usable stored) n stored.first))

  -- the walks of the pages below are such findings
  abbrev BelowDrops : Below → Below → Type 0
  BelowDrops below again = (met : List Finding) (c : ℕ) → Drops (below met c) (again met c)

  module _ (below again : Below) (same : BelowDrops below again) where
    step_drops : (met : List Finding) (n : ℕ) (s : Step) → Drops (step pages taken below met n s) (step pages (both extra taken) again met n s)
    step_drops met n (child c) = if_drops (is_in_range pages c) _ _ _ _ (same met c) (drops_same _)
    step_drops met n (divider k) = drops_same _
    step_drops met n (cell rowid stored) =
        append_drops (order_faults met n rowid) _ _ _ (drops_same _) (λ first.
        append_drops (chain_of pages taken met n stored) _ _ _ (chain_of_drops met n stored) (λ read. rw read (drops_same _)))

    steps_drops : (todo : List Step) (met : List Finding) (n : ℕ)
        → Drops (steps_of pages taken below met n todo) (steps_of pages (both extra taken) again met n todo)
    steps_drops [] met n = drops_same _
    steps_drops (s ∷ todo) met n =
        append_drops (step pages taken below met n s) _ _ _ (step_drops met n s) (λ first. rw first (steps_drops todo (met ++ step pages taken below met n s) n))

    inside_drops : (met : List Finding) (n : ℕ) (reading : Result Node PageFault)
        → Drops (inside pages taken below met n reading) (inside pages (both extra taken) again met n reading)
    inside_drops met n (Err why) = drops_same _
    inside_drops met n (Ok page) = steps_drops (steps page.cells page.right) (met ++ place n ∷ []) n

    visit_drops : (family : Family) (met : List Finding) (n : ℕ) (e m accepted : Bool)
        → Drops (place n ∷ visit pages family taken below met n m accepted) (place n ∷ visit pages family (both extra taken) again met n (e || m) accepted)
    visit_drops family met n true true true sound = cc
    visit_drops family met n true true false sound = cc
    visit_drops family met n true false true sound = cc
    visit_drops family met n true false false sound = cc
    visit_drops family met n false true true sound = cc
    visit_drops family met n false true false sound = cc
    visit_drops family met n false false false sound = cc
    visit_drops family met n false false true sound =
        ap (λ l. place n ∷ l) (inside_drops met n (read_node family n (pages.page n)) sound)

  deep_drops : (n : ℕ) (e m : Bool) → Drops (place n ∷ too_deep n m) (place n ∷ too_deep n (e || m))
  deep_drops n true true sound = cc
  deep_drops n true false sound = cc
  deep_drops n false true sound = cc
  deep_drops n false false sound = cc

  walk_drops : (family : Family) (left : ℕ) (met : List Finding) (n : ℕ)
      → Drops (walk pages family taken left met n) (walk pages family (both extra taken) left met n)
  unfolding walk
  walk_drops family zero met n = rw (met_both extra taken met n) (deep_drops n (extra n) (is_met taken met n))
  walk_drops family (suc left) met n =
      rw (met_both extra taken met n)
      (visit_drops (walk pages family taken left) (walk pages family (both extra taken) left) (walk_drops family left) family met n (extra n) (is_met taken met n) (pages.accepts n))

-- a tree without a defect after earlier parts is the same by itself
pub alone_as_after : (pages : Pages) (family : Family) (root : ℕ) (taken : Test) → is_sound (tree_walk pages family taken root) ≡ true
    → tree_walk pages family taken root ≡ tree_walk pages family nothing root
alone_as_after pages family root taken sound =
    let more : tree_walk pages family taken root ≡ tree_walk pages family (both taken nothing) root =
    ap (λ t. tree_walk pages family t root) (fun_ext (λ n. sym (or-false (taken n)))) in
    more ∙ walk_drops pages taken nothing family 20 [] root (ap is_sound (sym more) ∙ sound)
