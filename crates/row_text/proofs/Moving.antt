-- Text that moves to a sink in steps.
use Rattle.std.proofs.Common.{◌≡◌, ℕ, List, [], ◌++◌, Result, Ok, Err, OnErr, sym, ap, ◌∙◌, append_assoc}
use Rattle.std.proofs.lemmas.List.{append-nil}
use Rattle.row_text.specs.Out.{Moves, MovesPart}

-- the sink is given nothing, and the text waits behind what waited
pub waits : {text waiting left : List ℕ} (before : List ℕ) → left ≡ waiting ++ text → Moves text before waiting before left
waits before is = record { put = []; given = sym (append-nil before); whole = sym is }

-- one text after another
pub then : {a c b0 w0 b1 w1 b2 w2 : List ℕ} → Moves a b0 w0 b1 w1 → Moves c b1 w1 b2 w2 → Moves (a ++ c) b0 w0 b2 w2
then {a} {c} {b0} {w0} {b1} {w1} {b2} {w2} first second =
    record {
      put = first.put ++ second.put;
      given = second.given ∙ ap (λ (l : List ℕ). l ++ second.put) first.given ∙ append_assoc b0 first.put second.put;
      whole =
          sym (append_assoc w0 a c)
          ∙ ap (λ (l : List ℕ). l ++ c) first.whole
          ∙ append_assoc first.put w1 c
          ∙ ap (λ (l : List ℕ). first.put ++ l) second.whole
          ∙ sym (append_assoc first.put second.put w2);
    }

-- a failure after a text that was moved
pub then_part : {a c b0 w0 b1 w1 b2 : List ℕ} → Moves a b0 w0 b1 w1 → MovesPart c b1 w1 b2 → MovesPart (a ++ c) b0 w0 b2
then_part first second = record { lost = second.lost; moves = then first second.moves }

-- a failure before further text
pub cut : {a b0 w0 b1 : List ℕ} (c : List ℕ) → MovesPart a b0 w0 b1 → MovesPart (a ++ c) b0 w0 b1
cut {a} {b0} {w0} {b1} c first =
    record {
      lost = first.lost ++ c;
      moves = record {
        put = first.moves.put;
        given = first.moves.given;
        whole =
            sym (append_assoc w0 a c) ∙ ap (λ (l : List ℕ). l ++ c) first.moves.whole ∙ append_assoc first.moves.put first.lost c;
      };
    }

-- the same text in another form
pub restated : {a c b0 w0 b1 w1 : List ℕ} → a ≡ c → Moves a b0 w0 b1 w1 → Moves c b0 w0 b1 w1
restated {a} {c} {b0} {w0} {b1} {w1} is moved =
    record { put = moved.put; given = moved.given; whole = ap (λ (l : List ℕ). w0 ++ l) (sym is) ∙ moved.whole }

pub restated_part : {a c b0 w0 b1 : List ℕ} → a ≡ c → MovesPart a b0 w0 b1 → MovesPart c b0 w0 b1
restated_part is part = record { lost = part.lost; moves = restated is part.moves }

-- where the text that is left is moved as well, the whole text is
abbrev pub Completes : List ℕ → List ℕ → List ℕ → List ℕ → List ℕ → List ℕ → Type 0
Completes left text b0 w0 b1 w1 = (b2 w2 : List ℕ) → Moves left b1 w1 b2 w2 → Moves text b0 w0 b2 w2

-- a part of what is left was moved
pub completes_more : (left piece later text b0 w0 b1 w1 b2 w2 : List ℕ) → left ≡ piece ++ later
    → Completes left text b0 w0 b1 w1 → Moves piece b1 w1 b2 w2 → Completes later text b0 w0 b2 w2
completes_more left piece later text b0 w0 b1 w1 b2 w2 is rest moved b3 w3 more =
    rest b3 w3 (rw is (then moved more))

-- none is left
pub completes_all : (left text b0 w0 b1 w1 : List ℕ) → left ≡ [] → Completes left text b0 w0 b1 w1 → Moves text b0 w0 b1 w1
completes_all left text b0 w0 b1 w1 none rest = rest b1 w1 (waits b1 (rw none (sym (append-nil w1))))

-- a failure in what is left
pub completes_part : (left text b0 w0 b1 w1 b2 : List ℕ) → Completes left text b0 w0 b1 w1 → MovesPart left b1 w1 b2 → MovesPart text b0 w0 b2
completes_part left text b0 w0 b1 w1 b2 rest part =
    record { lost = part.lost; moves = rest b2 part.lost part.moves }

-- what holds at every answer holds at an error
pub at_exit : {T E P : Type 0} (r : Result T E) → P → OnErr r P
at_exit (Ok x) p = tt
at_exit (Err e) p = p
