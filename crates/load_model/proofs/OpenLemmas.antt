-- The open pages of a loader: what a put page changes, and what closing a page changes.
use Rattle.std.proofs.Common.{◌≡◌, ℕ, suc, true, false, List, [], ◌∷◌, ◌++◌, ◌||◌, ◌==◌, if◌then◌else◌, Ok, map, refl, ap, sym, subst, ◌∙◌}
use Rattle.std.proofs.Math.Bool.{or-false, or_comm}
use Rattle.std.proofs.lemmas.List.{append_assoc, append-nil}
use Rattle.btree_page.specs.declared.kind.Family.{Family}
use Rattle.db_format.specs.declared.defect.Defect.TheVariants.{ChildOutOfRange}
use Rattle.btree_page.specs.Page.{Node, read_node}
use Rattle.db_format.specs.Pages.{Pages, Test, nothing}
use Rattle.btree_model.specs.Range.{is_in_range}
use Rattle.btree_model.specs.Finding.{Finding, place, fault, places, entries, keys, is_sound}
use Rattle.btree_model.specs.Walk.{is_met, step, steps_of, walk, Below}
use Rattle.btree_page.specs.Step.{Step, child, steps}
use Rattle.btree_model.specs.Rest.{AreUnmarked}
use Rattle.btree_model.proofs.FindingLemmas.{entries-append}
use Rattle.btree_model.proofs.UnmarkedLemmas.{sound_left, sound_right, unmarked_left, unmarked_right}
use Rattle.btree_model.proofs.ProperLemmas.{keys-append}
use Rattle.btree_model.proofs.KeptLemmas.{Kept, kept_same, append_kept, step_kept, walk_kept}
use Rattle.load_model.specs.Open.{Open, raise, open_found, at_height, plain}
use Rattle.load_model.proofs.PlainLemmas.{plain-append}
use Rattle.load_model.proofs.AlikeLemmas.{IsLonger, longer-append, met-append, Alike, append_alike, step_alike, steps_alike, walk_alike}

module _ (pages : Pages) (family : Family) (slack : ℕ) where
  pub open-append : (met : List Finding) (xs ys : List Open)
      → open_found pages family slack met (xs ++ ys)
      ≡ open_found pages family slack met xs ++ open_found pages family slack (met ++ open_found pages family slack met xs) ys
  open-append met [] ys = ap (λ m. open_found pages family slack m ys) (sym (append-nil met))
  open-append met (o ∷ xs) ys =
      let found : List Finding = step pages nothing (walk pages family nothing (raise slack o.height)) met 0 o.leads in
      ap (λ l. found ++ l)
      (open-append (met ++ found) xs ys
      ∙ ap (λ m. open_found pages family slack (met ++ found) xs ++ open_found pages family slack m ys) (append_assoc met found (open_found pages family slack (met ++ found) xs)))
      ∙ sym (append_assoc found (open_found pages family slack (met ++ found) xs) (open_found pages family slack (met ++ (found ++ open_found pages family slack (met ++ found) xs)) ys))

  -- the steps of one page
  pub open_level : (met : List Finding) (h : ℕ) (todo : List Step)
      → open_found pages family slack met (at_height h todo) ≡ steps_of pages nothing (walk pages family nothing (raise slack h)) met 0 todo
  open_level met h [] = refl
  open_level met h (s ∷ todo) =
      let found : List Finding = step pages nothing (walk pages family nothing (raise slack h)) met 0 s in
      ap (λ l. found ++ l) (open_level (met ++ found) h todo)

  -- after other findings with the same keys and rowids, and with places that these steps don't meet
  pub open_alike : (extra : Test) (todo : List Open) (met again : List Finding) → IsLonger nothing extra met again
      → Alike extra (open_found pages family slack met todo) (open_found pages family slack again todo)
  open_alike extra [] met again h = λ sound unmarked. refl
  open_alike extra (o ∷ todo) met again h =
      append_alike extra (step pages nothing (walk pages family nothing (raise slack o.height)) met 0 o.leads) _ _ _
      (step_alike pages nothing extra (walk pages family nothing (raise slack o.height)) (λ met again c h. walk_alike pages nothing extra family (raise slack o.height) met again c h)
      met again h 0 0 o.leads)
      (λ first. open_alike extra todo _ _ (longer-append nothing extra met again _ _ h first))

  -- one place more
  pub longer_by : (met : List Finding) (m : ℕ) → IsLonger nothing (λ n. m == n) met (met ++ place m ∷ [])
  longer_by met m = record {
    met_as = λ n. met-append nothing met (place m ∷ []) n ∙ ap (λ b. is_met nothing met n || b) (or-false (m == n)) ∙ or_comm (is_met nothing met n) (m == n);
    keys_as = keys-append met (place m ∷ []) ∙ append-nil (keys met);
    rowids_as = ap (map (λ row. row.rowid)) (entries-append met (place m ∷ []) ∙ append-nil (entries met));
  }

  -- a page without an earlier place, which reads so
  pub page_walk : (left : ℕ) (met : List Finding) (m : ℕ) (one : Node) → is_met nothing met m ≡ false → pages.accepts m ≡ true
      → read_node family m (pages.page m) ≡ Ok one
      → walk pages family nothing (suc left) met m
      ≡ place m ∷ steps_of pages nothing (walk pages family nothing left) (met ++ place m ∷ []) m (steps one.cells one.right)
  unfolding walk
  page_walk left met m one new accepted reads = rw (new, accepted, reads) refl

  -- what closing a page changes: the steps of page m, in the midst of others, against the one step to that page
  pub contract : (front back : List Open) (h m : ℕ) (one : Node) → is_in_range pages m ≡ true → pages.accepts m ≡ true
      → read_node family m (pages.page m) ≡ Ok one
      → is_sound (open_found pages family slack [] (front ++ (at_height h (steps one.cells one.right) ++ back))) ≡ true
      → AreUnmarked (λ n. m == n) (places (open_found pages family slack [] (front ++ (at_height h (steps one.cells one.right) ++ back))))
      → is_met nothing (open_found pages family slack [] front) m ≡ false
      → plain (open_found pages family slack [] (front ++ (record { height = suc h; leads = child m } ∷ back)))
      ≡ plain (open_found pages family slack [] front
      ++ (place m ∷ open_found pages family slack (open_found pages family slack [] front) (at_height h (steps one.cells one.right) ++ back)))
  contract front back h m one range accepted reads sound unmarked new =
      let todo : List Step = steps one.cells one.right in
      let before : List Finding = open_found pages family slack [] front in
      let below : Below = walk pages family nothing (raise slack h) in
      let own : List Finding = open_found pages family slack before (at_height h todo) in
      let after : List Finding = open_found pages family slack (before ++ own) back in
      let both : open_found pages family slack [] (front ++ (at_height h todo ++ back)) ≡ before ++ (own ++ after) =
      open-append [] front (at_height h todo ++ back) ∙ ap (λ l. before ++ l) (open-append before (at_height h todo) back)
      in
      let sound_both : is_sound (before ++ (own ++ after)) ≡ true = ap is_sound (sym both) ∙ sound in
      let free_both : AreUnmarked (λ n. m == n) (places (before ++ (own ++ after))) = subst (λ l. AreUnmarked (λ n. m == n) (places l)) both unmarked in
      let sound_after : is_sound (own ++ after) ≡ true = sound_right before (own ++ after) sound_both in
      let free_after : AreUnmarked (λ n. m == n) (places (own ++ after)) = unmarked_right (λ n. m == n) before (own ++ after) free_both in
      let own' : List Finding = steps_of pages nothing below (before ++ place m ∷ []) m todo in
      let alike : plain own' ≡ plain own =
      steps_alike pages nothing (λ n. m == n) below (λ met again c longer. walk_alike pages nothing (λ n. m == n) family (raise slack h) met again c longer) todo before
      (before ++ place m ∷ []) (longer_by before m) 0 m
      (ap is_sound (sym (open_level before h todo)) ∙ sound_left own after sound_after)
      (subst (λ l. AreUnmarked (λ n. m == n) (places l)) (open_level before h todo) (unmarked_left (λ n. m == n) own after free_after))
      ∙ ap plain (sym (open_level before h todo))
      in
      let longer : IsLonger nothing (λ n. m == n) (before ++ own) (before ++ (place m ∷ own')) =
      subst (λ l. IsLonger nothing (λ n. m == n) (before ++ own) l) (append_assoc before (place m ∷ []) own')
      (longer-append nothing (λ n. m == n) before (before ++ place m ∷ []) own own' (longer_by before m) alike)
      in
      let after' : List Finding = open_found pages family slack (before ++ (place m ∷ own')) back in
      let later : plain after' ≡ plain after =
      open_alike (λ n. m == n) back (before ++ own) (before ++ (place m ∷ own')) longer (sound_right own after sound_after)
      (unmarked_right (λ n. m == n) own after free_after)
      in
      let it : open_found pages family slack [] (front ++ (record { height = suc h; leads = child m } ∷ back)) ≡ before ++ ((place m ∷ own') ++ after') =
      open-append [] front (record { height = suc h; leads = child m } ∷ back)
      ∙ ap (λ l. before ++ (l ++ open_found pages family slack (before ++ l) back))
      (ap (λ b. if b then walk pages family nothing (suc (raise slack h)) before m else fault (ChildOutOfRange 0) ∷ []) range
      ∙ page_walk (raise slack h) before m one new accepted reads)
      in
      ap plain it ∙ plain-append before ((place m ∷ own') ++ after')
      ∙ ap (λ l. plain before ++ (place m ∷ l)) (plain-append own' after' ∙ ap (λ l. l ++ plain after') alike ∙ ap (λ l. plain own ++ l) later ∙ sym (plain-append own after)
      ∙ ap plain (sym (open-append before (at_height h todo) back)))
      ∙ sym (plain-append before (place m ∷ open_found pages family slack before (at_height h todo ++ back)))

-- other pages, the same at the places that are met
module _ (old new : Pages) (usable : new.usable ≡ old.usable)
    (range : (n : ℕ) → is_in_range old n ≡ true → is_in_range new n ≡ true) (family : Family) (slack : ℕ) where
  pub open_kept : (todo : List Open) (met : List Finding)
      → Kept old new usable range (open_found old family slack met todo) (open_found new family slack met todo)
  open_kept [] met = kept_same old new usable range _
  open_kept (o ∷ todo) met =
      append_kept old new usable range (step old nothing (walk old family nothing (raise slack o.height)) met 0 o.leads) _ _ _
      (step_kept old new usable range nothing (walk old family nothing (raise slack o.height)) (walk new family nothing (raise slack o.height))
      (walk_kept old new usable range family nothing (raise slack o.height)) met 0 o.leads)
      (λ first. rw first (open_kept todo (met ++ step old nothing (walk old family nothing (raise slack o.height)) met 0 o.leads)))
