-- Lines that are put where there is something to say.
use Rattle.std.proofs.Common.{◌≡◌, ◌≢◌, ◌==◌, ℕ, Bool, true, false, List, [], if◌then◌else◌, refl, sym, ◌∙◌, append_assoc}
use Rattle.std.specs.Prelude.{◌++◌, codes, decimal}
use Rattle.std.proofs.lemmas.Bool.{ne_eqb}
use Rattle.std.proofs.lemmas.List.{append-nil}
use Rattle.db_format.specs.Value.{Datum}
use Rattle.row_text.specs.Out.{Moves}
use Rattle.row_text.proofs.Moving.{waits}
use Rattle.index_check.specs.declared.rowids.Rowids.{Rowids}
use Rattle.index_report.specs.Lines.{count_line, head, last_line, least_text, rowids_line}
use Rattle.index_report.specs.declared.summary.Summary.{Summary}
use Rattle.text_lines.specs.Text.{line}

none_if : (n : ℕ) (text : List ℕ) → n ≡ 0 → [] ≡ (if n == 0 then [] else text)
none_if n text is = rw is refl

pub first_if : {A : Type 0} (n : ℕ) (x y : A) → n ≡ 0 → x ≡ (if n == 0 then x else y)
first_if n x y is = rw is refl

second_by : {A : Type 0} (b : Bool) (x y : A) → b ≡ false → y ≡ (if b then x else y)
second_by true x y is = cc
second_by false x y is = refl

pub second_if : {A : Type 0} (n : ℕ) (x y : A) → n ≢ 0 → y ≡ (if n == 0 then x else y)
second_if n x y some = second_by (n == 0) x y (ne_eqb n 0 some)

-- nothing is put
nothing : (before waiting : List ℕ) → Moves [] before waiting before waiting
nothing before waiting = waits before (sym (append-nil waiting))

module _ (name : Datum) (what : List ℕ) (found : Rowids) where
  pub some_rowids : found.count ≢ 0 → line (head name ++ decimal found.count ++ what ++ least_text found.least) ≡ rowids_line name what found
  some_rowids some = second_if found.count [] (line (head name ++ decimal found.count ++ what ++ least_text found.least)) some

module _ (name : Datum) (what : List ℕ) (count : ℕ) where
  pub some_count : count ≢ 0 → line (head name ++ decimal count ++ what) ≡ count_line name what count
  some_count some = second_if count [] (line (head name ++ decimal count ++ what)) some

ok_pieces : (a b c d e f g n : List ℕ) → (((a ++ b) ++ (c ++ d)) ++ (e ++ f)) ++ (g ++ n) ≡ ((((((a ++ b) ++ c) ++ d) ++ e) ++ f) ++ g) ++ n
ok_pieces a b c d e f g n = simp append_assoc

differ_pieces : (a b c d n : List ℕ) → ((a ++ b) ++ (c ++ d)) ++ n ≡ (((a ++ b) ++ c) ++ d) ++ n
differ_pieces a b c d n = simp append_assoc

module _ (found : Summary) where
  abbrev ok : List ℕ
  ok = line (codes "ok: " ++ decimal found.checked ++ codes " indexes, " ++ decimal found.entries ++ codes " entries, " ++ decimal found.unchecked ++ codes " not checked")

  abbrev differ : List ℕ
  differ = line (codes "indexes differ: " ++ decimal found.differing ++ codes " of " ++ decimal found.checked)

  pub ok_line : found.differing ≡ 0
      → (((codes "ok: " ++ decimal found.checked) ++ (codes " indexes, " ++ decimal found.entries)) ++ (codes " entries, " ++ decimal found.unchecked)) ++ codes " not checked\n" ≡ last_line found
  ok_line none =
      ok_pieces (codes "ok: ") (decimal found.checked) (codes " indexes, ") (decimal found.entries) (codes " entries, ") (decimal found.unchecked) (codes " not checked") (codes "\n")
      ∙ first_if found.differing ok differ none

  pub differ_line : found.differing ≢ 0
      → ((codes "indexes differ: " ++ decimal found.differing) ++ (codes " of " ++ decimal found.checked)) ++ codes "\n" ≡ last_line found
  differ_line some =
      differ_pieces (codes "indexes differ: ") (decimal found.differing) (codes " of ") (decimal found.checked) (codes "\n")
      ∙ second_if found.differing ok differ some
