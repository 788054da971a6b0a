-- The rowids of a table without a defect rise.
use Rattle.std.proofs.Common.{◌≡◌, ℕ, ℤ, Bool, true, false, not, ◌||◌, List, [], ◌∷◌, ◌++◌, Option, Some, None, arith, refl, ap, sym, subst, ◌∙◌}
use Rattle.std.specs.Prelude.{int_le, int_lt, option_to_list}
use Rattle.std.specs.List.{list_any}
use Rattle.std.proofs.lemmas.Int.{ints}
use Rattle.std.proofs.lemmas.List.{append_assoc, append-nil}
use Rattle.std.proofs.lemmas.List.Concat.{flat_map-append}
use Rattle.std.proofs.lemmas.List.Folds.{list_any-append}
use Rattle.db_format.specs.Pages.{Pages, nothing}
use Rattle.btree_page.specs.declared.kind.Family.TheVariants.{Table}
use Rattle.btree_model.specs.Finding.{Row, Finding, place, leaf, entry, key, fault, refused, entries, is_sound, keys}
use Rattle.btree_model.specs.Tree.{max_path, tree_walk}
use Rattle.btree_model.proofs.FindingLemmas.{entries-append}
use Rattle.btree_model.proofs.ProperLemmas.{are_proper, is_above, is_proper, keys-append, walk_proper}
use Rattle.btree_model.proofs.UnmarkedLemmas.{and_left, and_right}
use Rattle.btree_walk.specs.Order.{IsAfter}
use Rattle.index_check.specs.Agree.{rowids}
use Rattle.index_check.specs.Checked.{IsRising}
use Rattle.index_check.proofs.RiseLemmas.{EndsIn, ends, rises}

-- ---- above all of some numbers

neither : (a b : Bool) → not (a || b) ≡ true → (not a ≡ true) × (not b ≡ true)
neither true b is = cc
neither false b is = (refl, is)

above_both : (ks ls : List ℤ) (next : ℤ) → is_above (ks ++ ls) (Some next) ≡ true → (is_above ks (Some next) ≡ true) × (is_above ls (Some next) ≡ true)
above_both ks ls next above =
    neither (list_any (λ k. int_le next k) ks) (list_any (λ k. int_le next k) ls) (ap not (sym (list_any-append (λ k. int_le next k) ks ls)) ∙ above)

refuted : (b : Bool) → not (b || false) ≡ true → b ≡ false
refuted true is = cc
refuted false is = refl

lower : (r next : ℤ) → int_le next r ≡ false → int_lt r next ≡ true
lower r next is = grind (arith, ints)

above_one : (r next : ℤ) → is_above (r ∷ []) (Some next) ≡ true → int_lt r next ≡ true
above_one r next above = lower r next (refuted (int_le next r) above)

-- ---- what was met

-- the rowids that were met rise and end so, and what is above all keys that were met is behind the last of them
record Rises (met : List Finding) (last : Option ℤ) : Type 0 where
  up : IsRising (rowids (entries met))
  at_end : EndsIn (rowids (entries met)) last
  after : (next : ℤ) → is_above (keys met) (Some next) ≡ true → IsAfter last (Some next)

-- no rowid more
same_on : (met more : List Finding) (last : Option ℤ) (extra : List ℤ) → rowids (entries more) ≡ rowids (entries met) → keys more ≡ keys met ++ extra → Rises met last → Rises more last
same_on met more last extra rows ks so = record {
  up = subst IsRising (sym rows) so.up;
  at_end = subst (λ (l : List ℤ). EndsIn l last) (sym rows) so.at_end;
  after = λ next above. so.after next (above_both (keys met) extra next (subst (λ (l : List ℤ). is_above l (Some next) ≡ true) ks above)).0;
}

-- no entry more
bare_on : (met : List Finding) (x : Finding) (last : Option ℤ) → entries (x ∷ []) ≡ [] → Rises met last → Rises (met ++ x ∷ []) last
bare_on met x last none so =
    same_on met (met ++ x ∷ []) last (keys (x ∷ []))
    (ap rowids (entries-append met (x ∷ []) ∙ ap (λ (l : List Row). entries met ++ l) none ∙ append-nil (entries met))) (keys-append met (x ∷ [])) so

rowids_more : (met : List Finding) (row : Row) → rowids (entries (met ++ entry row ∷ [])) ≡ rowids (entries met) ++ option_to_list row.rowid
rowids_more met row =
    ap rowids (entries-append met (entry row ∷ [])) ∙ flat_map-append (λ (r : Row). option_to_list r.rowid) (entries met) (row ∷ [])
    ∙ ap (λ (l : List ℤ). rowids (entries met) ++ l) (append-nil (option_to_list row.rowid))

keys_more : (met : List Finding) (row : Row) → keys (met ++ entry row ∷ []) ≡ keys met ++ option_to_list row.rowid
keys_more met row = keys-append met (entry row ∷ []) ∙ ap (λ (l : List ℤ). keys met ++ l) (append-nil (option_to_list row.rowid))

-- an entry more
entry_on : (met : List Finding) (row : Row) (last rowid : Option ℤ) → row.rowid ≡ rowid → Rises met last → is_above (keys met) row.rowid ≡ true
    → (end : Option ℤ) × Rises (met ++ entry row ∷ []) end
entry_on met row last None is so above = (
  last,
  same_on met (met ++ entry row ∷ []) last []
      (rowids_more met row ∙ ap (λ (o : Option ℤ). rowids (entries met) ++ option_to_list o) is ∙ append-nil (rowids (entries met)))
      (keys_more met row ∙ ap (λ (o : Option ℤ). keys met ++ option_to_list o) is) so,
)
entry_on met row last (Some r) is so above =
    let rows : rowids (entries (met ++ entry row ∷ [])) ≡ rowids (entries met) ++ r ∷ [] = rowids_more met row ∙ ap (λ (o : Option ℤ). rowids (entries met) ++ option_to_list o) is in
    let ks : keys (met ++ entry row ∷ []) ≡ keys met ++ r ∷ [] = keys_more met row ∙ ap (λ (o : Option ℤ). keys met ++ option_to_list o) is in
    let next : IsAfter last (Some r) = so.after r (subst (λ (o : Option ℤ). is_above (keys met) o ≡ true) is above) in (
      Some r,
      record {
        up = subst IsRising (sym rows) (rises (rowids (entries met)) last r so.up so.at_end next);
        at_end = subst (λ (l : List ℤ). EndsIn l (Some r)) (sym rows) (ends (rowids (entries met)) last r so.at_end next);
        after = λ later higher. above_one r later (above_both (keys met) (r ∷ []) later (subst (λ (l : List ℤ). is_above l (Some later) ≡ true) ks higher)).1;
      },
    )

one_on : (met : List Finding) (x : Finding) (last : Option ℤ) → Rises met last → is_proper nothing met x ≡ true → (end : Option ℤ) × Rises (met ++ x ∷ []) end
one_on met (place n) last so proper = (last, bare_on met (place n) last refl so)
one_on met (leaf n) last so proper = (last, bare_on met (leaf n) last refl so)
one_on met (key k) last so proper = (last, bare_on met (key k) last refl so)
one_on met (fault d) last so proper = (last, bare_on met (fault d) last refl so)
one_on met (refused n) last so proper = (last, bare_on met (refused n) last refl so)
one_on met (entry row) last so proper = entry_on met row last row.rowid refl so proper

all_on : (found met : List Finding) (last : Option ℤ) → Rises met last → are_proper nothing met found ≡ true → IsRising (rowids (entries (met ++ found)))
all_on [] met last so proper = subst (λ (l : List Finding). IsRising (rowids (entries l))) (sym (append-nil met)) so.up
all_on (x ∷ found) met last so proper =
    let next = one_on met x last so (and_left (is_proper nothing met x) (are_proper nothing (met ++ x ∷ []) found) proper) in
    subst (λ (l : List Finding). IsRising (rowids (entries l))) (append_assoc met (x ∷ []) found)
    (all_on found (met ++ x ∷ []) next.0 next.1 (and_right (is_proper nothing met x) (are_proper nothing (met ++ x ∷ []) found) proper))

pub table_rises : (pages : Pages) (root : ℕ) → is_sound (tree_walk pages Table nothing root) ≡ true → IsRising (rowids (entries (tree_walk pages Table nothing root)))
table_rises pages root sound =
    all_on (tree_walk pages Table nothing root) [] None (record { up = λ i j d below less. absurd (omega (arith, less)); at_end = refl; after = λ next above. tt })
    (walk_proper pages nothing Table max_path [] root sound)
