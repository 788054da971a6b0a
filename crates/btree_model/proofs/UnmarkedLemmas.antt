-- A walk without a defect is the same where more pages have a place in an earlier part, if none of its own does.
use Rattle.std.proofs.Common.{◌≡◌, ℕ, zero, suc, Bool, true, false, List, [], ◌∷◌, ◌++◌, ◌||◌, ◌&&◌, ◌==◌, Result, Ok, Err, if◌then◌else◌, refl, ap, sym, ◌∙◌}
use Rattle.std.proofs.Math.Bool.{or_assoc, or_comm, or-false}
use Rattle.std.proofs.Math.Path.{fun_ext}
use Rattle.std.specs.List.{list_any}
use Rattle.std.proofs.lemmas.List.Folds.{list_any-append}
use Rattle.btree_page.specs.declared.kind.Family.{Family}
use Rattle.db_format.specs.Bytes.{u32_at}
use Rattle.btree_page.specs.Cell.{StoredCell}
use Rattle.btree_page.specs.Page.{Node, read_node}
use Rattle.btree_page.specs.declared.page.PageFault.{PageFault}
use Rattle.db_format.specs.Pages.{Pages, Test, nothing}
use Rattle.btree_model.specs.Range.{is_in_range}
use Rattle.btree_model.specs.Finding.{Finding, place, places, is_sound}
use Rattle.btree_page.specs.Step.{Step, child, divider, entry as cell, steps}
use Rattle.btree_model.specs.Walk.{is_met, step, steps_of, walk, visit, inside, chain, link, chain_of, links_needed, order_faults, too_deep, Below}
use Rattle.btree_model.specs.Tree.{tree_walk}
use Rattle.btree_model.specs.Rest.{AreUnmarked}
use Rattle.btree_model.proofs.FindingLemmas.{places-append, is_sound-append}

-- either test
abbrev pub both : Test → Test → Test
both extra taken n = extra n || taken n

-- a page has an earlier place where it has one without the further pages, or is one of them
met_both : (extra taken : Test) (met : List Finding) (n : ℕ) → is_met (both extra taken) met n ≡ (extra n || is_met taken met n)
met_both extra taken met n =
    sym (or_assoc (list_any (λ m. m == n) (places met)) (extra n) (taken n))
    ∙ ap (λ b. b || taken n) (or_comm (list_any (λ m. m == n) (places met)) (extra n))
    ∙ or_assoc (extra n) (list_any (λ m. m == n) (places met)) (taken n)

pub and_left : (a b : Bool) → (a && b) ≡ true → a ≡ true
and_left true b h = refl
and_left false b h = h

pub and_right : (a b : Bool) → (a && b) ≡ true → b ≡ true
and_right true b h = h
and_right false b h = cc

pub or_left : (a b : Bool) → (a || b) ≡ false → a ≡ false
or_left false b h = refl
or_left true b h = h

pub or_right : (a b : Bool) → (a || b) ≡ false → b ≡ false
or_right false b h = h
or_right true b h = cc

pub sound_left : (xs ys : List Finding) → is_sound (xs ++ ys) ≡ true → is_sound xs ≡ true
sound_left xs ys h = and_left (is_sound xs) (is_sound ys) (sym (is_sound-append xs ys) ∙ h)

pub sound_right : (xs ys : List Finding) → is_sound (xs ++ ys) ≡ true → is_sound ys ≡ true
sound_right xs ys h = and_right (is_sound xs) (is_sound ys) (sym (is_sound-append xs ys) ∙ h)

marks_of_both : (extra : Test) (xs ys : List Finding) → AreUnmarked extra (places (xs ++ ys))
    → (list_any extra (places xs) || list_any extra (places ys)) ≡ false
marks_of_both extra xs ys h = sym (list_any-append extra (places xs) (places ys)) ∙ ap (list_any extra) (sym (places-append xs ys)) ∙ h

pub unmarked_left : (extra : Test) (xs ys : List Finding) → AreUnmarked extra (places (xs ++ ys)) → AreUnmarked extra (places xs)
unmarked_left extra xs ys h = or_left _ _ (marks_of_both extra xs ys h)

pub unmarked_right : (extra : Test) (xs ys : List Finding) → AreUnmarked extra (places (xs ++ ys)) → AreUnmarked extra (places ys)
unmarked_right extra xs ys h = or_right _ _ (marks_of_both extra xs ys h)

-- the findings stay the same under more marks
abbrev pub Stays : Test → List Finding → List Finding → Type 0
Stays extra found again = is_sound found ≡ true → AreUnmarked extra (places found) → again ≡ found

pub stays_same : (extra : Test) (found : List Finding) → Stays extra found found
stays_same extra found sound unmarked = refl

pub if_stays : (extra : Test) (c : Bool) (one one' other other' : List Finding) → Stays extra one one' → Stays extra other other'
    → Stays extra (if c then one else other) (if c then one' else other')
if_stays extra true one one' other other' p q = p
if_stays extra false one one' other other' p q = q

append_stays : (extra : Test) (one one' other other' : List Finding) → Stays extra one one'
    → (one' ≡ one → Stays extra other other') → Stays extra (one ++ other) (one' ++ other')
append_stays extra one one' other other' p q sound unmarked =
    let first : one' ≡ one = p (sound_left one other sound) (unmarked_left extra one other unmarked) in
    ap (λ l. l ++ other') first ∙ ap (λ l. one ++ l) (q first (sound_right one other sound) (unmarked_right extra one other unmarked))

-- `e` says that page n is one of the further pages, `m` that it has an earlier place without them
pub link_stays : (extra : Test) (n : ℕ) (e m accepted : Bool) (found again : List Finding) → extra n ≡ e → Stays extra found again
    → Stays extra (link n m accepted found) (link n (e || m) accepted again)
link_stays extra n true true accepted found again is same sound unmarked = cc
link_stays extra n true false false found again is same sound unmarked = cc
link_stays extra n true false true found again is same sound unmarked = let no : true ≡ false = sym is ∙ or_left _ _ unmarked in cc
link_stays extra n false true accepted found again is same sound unmarked = cc
link_stays extra n false false false found again is same sound unmarked = cc
link_stays extra n false false true found again is same sound unmarked = ap (λ l. place n ∷ l) (same sound (or_right _ _ unmarked))

module _ (pages : Pages) (extra taken : Test) where
  chain_stays : (met : List Finding) (more holder n : ℕ) → Stays extra (chain pages taken met more holder n) (chain pages (both extra taken) met more holder n)
  chain_stays met zero holder n = stays_same extra _
  chain_stays met (suc more) holder n =
      if_stays extra (n == 0) _ _ _ _ (stays_same extra _)
      (if_stays extra (is_in_range pages n) _ _ _ _
      (rw (met_both extra taken met n)
      (link_stays extra n (extra n) (is_met taken met n) (pages.accepts n) _ _ refl (chain_stays (met ++ place n ∷ []) more n (u32_at (pages.page n) 0))))
      (stays_same extra _))

  chain_of_stays : (met : List Finding) (n : ℕ) (stored : StoredCell) → Stays extra (chain_of pages taken met n stored) (chain_of pages (both extra taken) met n stored)
  chain_of_stays met n stored =
      if_stays extra (links_needed pages.usable stored == 0) _ _ _ _ (stays_same extra _)
      (if_stays extra (stored.first == 0) _ _ _ _ (stays_same extra _) (chain_stays met (links_needed pages.usable stored) n stored.first))

  -- the walks of the pages below stay
  abbrev BelowStays : Below → Below → Type 0
  BelowStays below again = (met : List Finding) (c : ℕ) → Stays extra (below met c) (again met c)

  module _ (below again : Below) (same : BelowStays below again) where
    step_stays : (met : List Finding) (n : ℕ) (s : Step) → Stays extra (step pages taken below met n s) (step pages (both extra taken) again met n s)
    step_stays met n (child c) = if_stays extra (is_in_range pages c) _ _ _ _ (same met c) (stays_same extra _)
    step_stays met n (divider k) = stays_same extra _
    step_stays met n (cell rowid stored) =
        append_stays extra (order_faults met n rowid) _ _ _ (stays_same extra _) (λ first.
        append_stays extra (chain_of pages taken met n stored) _ _ _ (chain_of_stays met n stored) (λ read. rw read (stays_same extra _)))

    steps_stays : (todo : List Step) (met : List Finding) (n : ℕ)
        → Stays extra (steps_of pages taken below met n todo) (steps_of pages (both extra taken) again met n todo)
    steps_stays [] met n = stays_same extra _
    steps_stays (s ∷ todo) met n =
        append_stays extra (step pages taken below met n s) _ _ _ (step_stays met n s) (λ first. rw first (steps_stays todo (met ++ step pages taken below met n s) n))

    inside_stays : (met : List Finding) (n : ℕ) (reading : Result Node PageFault)
        → Stays extra (inside pages taken below met n reading) (inside pages (both extra taken) again met n reading)
    inside_stays met n (Err why) = stays_same extra _
    inside_stays met n (Ok page) = steps_stays (steps page.cells page.right) (met ++ place n ∷ []) n

    visit_stays : (family : Family) (met : List Finding) (n : ℕ) (e m accepted : Bool) → extra n ≡ e
        → Stays extra (place n ∷ visit pages family taken below met n m accepted) (place n ∷ visit pages family (both extra taken) again met n (e || m) accepted)
    visit_stays family met n true m accepted is sound unmarked = let no : true ≡ false = sym is ∙ or_left _ _ unmarked in cc
    visit_stays family met n false true accepted is sound unmarked = cc
    visit_stays family met n false false false is sound unmarked = cc
    visit_stays family met n false false true is sound unmarked =
        ap (λ l. place n ∷ l) (inside_stays met n (read_node family n (pages.page n)) sound (or_right _ _ unmarked))

  deep_stays : (n : ℕ) (e m : Bool) → extra n ≡ e → Stays extra (place n ∷ too_deep n m) (place n ∷ too_deep n (e || m))
  deep_stays n true m is sound unmarked = let no : true ≡ false = sym is ∙ or_left _ _ unmarked in cc
  deep_stays n false true is sound unmarked = cc
  deep_stays n false false is sound unmarked = cc

  -- a walk without a defect stays the same under more marks that none of its places has
  pub walk_stays : (family : Family) (left : ℕ) (met : List Finding) (n : ℕ)
      → Stays extra (walk pages family taken left met n) (walk pages family (both extra taken) left met n)
  unfolding walk
  walk_stays family zero met n = rw (met_both extra taken met n) (deep_stays n (extra n) (is_met taken met n) refl)
  walk_stays family (suc left) met n =
      rw (met_both extra taken met n)
      (visit_stays (walk pages family taken left) (walk pages family (both extra taken) left) (walk_stays family left) family met n (extra n) (is_met taken met n) (pages.accepts n) refl)

-- a tree that is a list is walked alike where none of its pages has a place in an earlier part
pub tree_walk_stays : (pages : Pages) (family : Family) (root : ℕ) (taken : Test) → is_sound (tree_walk pages family nothing root) ≡ true
    → AreUnmarked taken (places (tree_walk pages family nothing root)) → tree_walk pages family taken root ≡ tree_walk pages family nothing root
tree_walk_stays pages family root taken sound unmarked =
    ap (λ t. tree_walk pages family t root) (fun_ext (λ n. sym (or-false (taken n)))) ∙ walk_stays pages taken nothing family 20 [] root sound unmarked
