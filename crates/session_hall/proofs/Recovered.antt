-- What a recovery leaves is settled.
use Rattle.std.proofs.Common.{◌≡◌, ◌⊎◌, ◌<◌, ◌∙◌, ℕ, List, [], ◌∷◌, length, Option, Some, None, Result, Ok, Err, inl, inr, refl, sym, ap, subst, arith}
use Rattle.std.specs.Prelude.{IsTrue, unwrap_or}
use Rattle.edge_model.specs.Files.{Files, bytes_of}
use Rattle.edge_model.specs.Images.{Each}
use Rattle.edge_model.specs.Files.{main_of}
use Rattle.rollback_journal.specs.Recovery.{HasByte, IsPlaybackDone, IsSettled as IsRecovered, answer_of, answer_to, changes_nothing}
use Rattle.rollback_journal.specs.declared.recovery.Recovery.{Recovery}
use Rattle.rollback_journal.specs.declared.recovery.Recovery.TheVariants.{Nothing}
use Rattle.rollback_journal.specs.declared.recovery.RecoverError.{RecoverError}
use Rattle.rollback_journal.specs.declared.recovery.RecoverError.TheVariants.{DiskFault, OutOfMemory}
use Rattle.session_hall.specs.Kept.{IsHallSettled}

-- the answer was the one that is due
due : (r : Result Recovery RecoverError) (did : Recovery) (answer : Result Recovery RecoverError) → r ≡ Ok did
    → (r ≡ answer) ⊎ (r ≡ Err DiskFault) ⊎ (r ≡ Err OutOfMemory) → r ≡ answer
due r did answer ok (inl is) = is
due r did answer ok (inr (inl is)) = absurd (differ did DiskFault (sym ok ∙ is))
  where
    differ : (a : Recovery) (b : RecoverError) → ◌≡◌ {A = Result Recovery RecoverError} (Ok a) (Err b) → ⊥
    differ a b is = cc
due r did answer ok (inr (inr is)) = absurd (differ did OutOfMemory (sym ok ∙ is))
  where
    differ : (a : Recovery) (b : RecoverError) → ◌≡◌ {A = Result Recovery RecoverError} (Ok a) (Err b) → ⊥
    differ a b is = cc

-- beside a Main without a byte nothing is recovered
nothing_due : (size : ℕ) (j : Option (List ℕ)) → answer_of size (Some []) j ≡ Ok Nothing
nothing_due size None = refl
nothing_due size (Some j) = refl

pub recovered_settled : (size : ℕ) (old now : Files) (images : Files → Type 0) (r : Result Recovery RecoverError) (did : Recovery) → r ≡ Ok did
    → (r ≡ answer_to size old) ⊎ (r ≡ Err DiskFault) ⊎ (r ≡ Err OutOfMemory)
    → (HasByte (bytes_of old.main) → Each images (IsPlaybackDone size (bytes_of old.main) (bytes_of old.journal)))
    → Each images (IsRecovered now) → (IsTrue (changes_nothing r) → now ≡ old) → images now → IsHallSettled now images
recovered_settled size old now images r did ok answer done settled same here = record {
  stands = λ c left. record { main = (settled c left).main; journal = (settled c left).journal };
  alone = alone (bytes_of old.main) refl;
}
  where
    nothing : (m : Option (List ℕ)) → bytes_of old.main ≡ m → answer_of size m (bytes_of old.journal) ≡ Ok Nothing → unwrap_or m [] ≡ [] → 0 < length (main_of now) → ⊥
    nothing m is none empty byte =
        let r_is : r ≡ Ok Nothing = due r did (answer_to size old) ok answer ∙ (ap (λ (x : Option (List ℕ)). answer_of size x (bytes_of old.journal)) is ∙ none) in
        let still : now ≡ old = same (subst (λ (x : Result Recovery RecoverError). IsTrue (changes_nothing x)) (sym r_is) refl) in
        let no_byte : main_of now ≡ [] = ap main_of still ∙ (ap (λ (x : Option (List ℕ)). unwrap_or x []) is ∙ empty) in
        omega (arith, byte, ap length no_byte)

    alone : (m : Option (List ℕ)) → bytes_of old.main ≡ m → 0 < length (main_of now) → now.journal ≡ None
    alone None is byte = absurd (nothing None is refl refl byte)
    alone (Some []) is byte = absurd (nothing (Some []) is (nothing_due size (bytes_of old.journal)) refl byte)
    alone (Some (b ∷ bs)) is byte =
        let some : HasByte (bytes_of old.main) = subst HasByte (sym is) (has b bs) in
        let is_done : IsPlaybackDone size (Some (b ∷ bs)) (bytes_of old.journal) now = subst (λ (x : Option (List ℕ)). IsPlaybackDone size x (bytes_of old.journal) now) is (done some now here) in
        is_done.1
      where
        has : (b : ℕ) (bs : List ℕ) → HasByte (Some (b ∷ bs))
        has b bs = omega arith
