-- A search of a tree without a defect puts the rows of the range.
use Rattle.std.proofs.Common.{◌≡◌, ◌≤◌, arith, ◌⊎◌, inl, inr, ℕ, ℤ, Bool, true, false, List, [], ◌∷◌, ◌++◌, length, Result, Ok, Err, if◌then◌else◌, refl, ap, sym, subst, ◌∙◌, append_assoc}
use Rattle.std.specs.Prelude.{int_lt}
use Rattle.std.proofs.lemmas.List.{append-nil}
use Rattle.db_format.specs.declared.defect.Defect.{Defect as FormatDefect}
use Rattle.db_format.specs.Pages.{Pages, nothing}
use Rattle.btree_page.specs.declared.kind.Family.TheVariants.{Table}
use Rattle.btree_model.specs.Finding.{Row, Finding, fault, entries, is_sound}
use Rattle.btree_model.specs.Records.{tree_part}
use Rattle.btree_model.specs.Tree.{max_path, tree_walk}
use Rattle.btree_model.proofs.UnmarkedLemmas.{sound_right}
use Rattle.btree_walk.specs.declared.error.WalkError.TheVariants.{Defect, Source, OutOfMemory}
use Rattle.row_text.specs.Out.{MovesPart}
use Rattle.rowid_find.specs.declared.error.FindError.{FindError}
use Rattle.rowid_find.specs.declared.error.FindError.TheVariants.{Walk, OutputFault}
use Rattle.rowid_find.specs.Found.{found_rows, rows_between}
use Rattle.rowid_find.specs.Lines.{count_line, found_report, found_rows_text}
use Rattle.rowid_find.specs.Reach.{reach, reach_all}
use Rattle.rowid_find.specs.Search.{AreRowsFound, IsSoundFound}
use Rattle.rowid_find.proofs.SearchSteps.{text_both}
use Rattle.rowid_find.specs.Once.{once}
use Rattle.rowid_find.proofs.OnceLemmas.{once_all}
use Rattle.rowid_find.proofs.SoundTrees.{sound_tree, tree_times}

-- without a defect, and these rows
pub record IsRows (found : List Finding) (rows : List Row) : Type 0 where
  pub sound : is_sound found ≡ true
  pub are : entries found ≡ rows

le_trans : {a b c : ℕ} → a ≤ b → b ≤ c → a ≤ c
le_trans p q = omega (arith, p, q)

range_rows : (pages : Pages) (root : ℕ) (low high : ℤ) (b : Bool) → is_sound (tree_part pages Table nothing root) ≡ true
    → IsRows (once nothing (if b then [] else reach pages low high max_path root)) (if b then [] else rows_between low high (entries (tree_walk pages Table nothing root)))
range_rows pages root low high true sound = record { sound = refl; are = refl }
range_rows pages root low high false sound =
    let same = sound_tree low high pages root sound in
    let all : once nothing (reach pages low high max_path root) ≡ reach pages low high max_path root =
    once_all (reach pages low high max_path root) (λ k. le_trans (same.few k) (tree_times low high pages root sound k)) in
    record { sound = ap is_sound all ∙ same.sound; are = ap entries all ∙ same.rows }

-- a search of a tree without a defect meets none, and the rows of the range
pub sound_reach : (pages : Pages) (root : ℕ) (low high : ℤ) → is_sound (tree_part pages Table nothing root) ≡ true
    → IsRows (reach_all pages low high root) (found_rows pages root low high)
sound_reach pages root low high sound = range_rows pages root low high (int_lt high low) sound

bad_sound : false ≡ true → ⊥
bad_sound is = cc

module _ (tells : Bool) (before after : List ℕ) (all : List Finding) (rows : List Row) (good : IsRows all rows) where
  -- the rows among the first findings, and the others
  parts : (found more : List Finding) → all ≡ found ++ more → found_rows_text rows ≡ found_rows_text (entries found) ++ found_rows_text (entries more)
  parts found more whole =
      ap found_rows_text (sym good.are ∙ ap entries whole) ∙ sym (text_both found more)

  -- the first rows were put
  first_rows : (found more : List Finding) → all ≡ found ++ more → after ≡ before ++ found_rows_text (entries found) → MovesPart (found_report rows) before [] after
  first_rows found more whole put =
      record {
        lost = found_rows_text (entries more) ++ count_line (length rows);
        moves = record {
          put = found_rows_text (entries found);
          given = put;
          whole =
              ap (λ l. l ++ count_line (length rows)) (parts found more whole)
              ∙ append_assoc (found_rows_text (entries found)) (found_rows_text (entries more)) (count_line (length rows));
        };
      }

  -- a part of them was
  some_rows : (found more : List Finding) → all ≡ found ++ more → MovesPart (found_rows_text (entries found) ++ []) before [] after
      → MovesPart (found_report rows) before [] after
  some_rows found more whole part =
      let left : List ℕ = found_rows_text (entries more) ++ count_line (length rows) in
      record {
        lost = part.lost ++ left;
        moves = record {
          put = part.moves.put;
          given = part.moves.given;
          whole =
              ap (λ l. l ++ count_line (length rows)) (parts found more whole)
              ∙ append_assoc (found_rows_text (entries found)) (found_rows_text (entries more)) (count_line (length rows))
              ∙ ap (λ l. l ++ left) (sym (append-nil (found_rows_text (entries found))) ∙ part.moves.whole)
              ∙ append_assoc part.moves.put part.lost left;
        };
      }

  cut_rows : (found more : List Finding) (last : List ℕ) → all ≡ found ++ more → (last ≡ []) ⊎ ((more ≡ []) × (last ≡ count_line (length (entries found))))
      → MovesPart (found_rows_text (entries found) ++ last) before [] after → MovesPart (found_report rows) before [] after
  cut_rows found more last whole (inl none) part =
      some_rows found more whole (subst (λ l. MovesPart (found_rows_text (entries found) ++ l) before [] after) none part)
  cut_rows found more last whole (inr ends) part =
      let are : entries found ≡ rows = sym (ap entries (whole ∙ ap (λ l. found ++ l) ends.0 ∙ append-nil found)) ∙ good.are in
      subst (λ l. MovesPart l before [] after) (ap (λ l. found_rows_text (entries found) ++ l) ends.1 ∙ ap found_report are) part

  no_defect : (found more later : List Finding) (d : FormatDefect) → all ≡ found ++ more → more ≡ fault d ∷ later → ⊥
  no_defect found more later d whole next =
      bad_sound (sound_right found (fault d ∷ later) (sym (ap is_sound (whole ∙ ap (λ l. found ++ l) next)) ∙ good.sound))

  sound_by : {R : Type 0} (refuses : Pages → ℕ → R → Type 0) (pages : Pages) (reads later : ℕ) (result : Result ℕ (FindError R))
      → AreRowsFound refuses pages tells all before after reads later result → IsSoundFound tells rows before after result
  sound_by refuses pages reads later (Ok count) at =
      (at.count ∙ ap length good.are, λ told. at.text told ∙ ap (λ l. before ++ found_report l) good.are)
  sound_by refuses pages reads later (Err (Walk (Defect d))) at = no_defect at.found at.more at.cause.0 d at.whole at.cause.1
  sound_by refuses pages reads later (Err (Walk (Source refusal))) at = λ told. first_rows at.found at.more at.whole (at.text told)
  sound_by refuses pages reads later (Err (Walk OutOfMemory)) at = λ told. first_rows at.found at.more at.whole (at.text told)
  sound_by refuses pages reads later (Err OutputFault) at = λ told. cut_rows at.found at.more at.last at.whole at.ends (at.text told)

pub sound_found : {R : Type 0} (refuses : Pages → ℕ → R → Type 0) (pages : Pages) (root : ℕ) (low high : ℤ) (tells : Bool) (before after : List ℕ) (reads later : ℕ)
    (result : Result ℕ (FindError R)) → is_sound (tree_part pages Table nothing root) ≡ true
    → AreRowsFound refuses pages tells (reach_all pages low high root) before after reads later result
    → IsSoundFound tells (found_rows pages root low high) before after result
sound_found refuses pages root low high tells before after reads later result sound at =
    sound_by tells before after (reach_all pages low high root) (found_rows pages root low high) (range_rows pages root low high (int_lt high low) sound)
    refuses pages reads later result at
