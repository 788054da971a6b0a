-- What a call on Main leaves in the images while a hot journal stands beside it.
use Rattle.std.proofs.Common.{◌≡◌, ◌⊎◌, inl, inr, ℕ, ◌<◌, ◌≤◌, true, List, length, Option, Some, None, refl, sym, ◌∙◌, ap, subst, arith}
use Rattle.edge_model.specs.Files.{File, Files, number_of, bytes_of, with_file_bytes, contents, main_of}
use Rattle.edge_model.specs.Images.{MayStep, Changes, IsNumbered}
use Rattle.edge_model.specs.declared.role.Role.TheVariants.{Main}
use Rattle.journal_format.specs.Header.{page_size_at}
use Rattle.std.specs.Prelude.{IsFalse}
use Rattle.journal_format.specs.Segments.{is_hot, names_super, played}
use Rattle.rollback_journal.specs.Laying.{IsPartly}
use Rattle.rollback_journal.specs.Recovery.{HasByte, IsHeld, KeepsRecovered, end_of}
use Rattle.rollback_journal.specs.Playing.{journal_of, IsPlayedHot, IsInPlay}
use Rattle.rollback_journal.proofs.Laid.{partly_at_first}
use Rattle.rollback_journal.proofs.Kept.{keeps_partly, hot_too}

pub some_contents : (file : Option File) → HasByte (bytes_of file) → bytes_of file ≡ Some (contents file)
some_contents None has = absurd has
some_contents (Some file) has = refl

pub has_byte : (file : Option File) → HasByte (bytes_of file) → 0 < length (contents file)
has_byte None has = absurd has
has_byte (Some file) has = has

pub makes_byte : (file : Option File) (bytes : List ℕ) → bytes_of file ≡ Some bytes → 0 < length bytes → HasByte (bytes_of file)
makes_byte file bytes is some = subst (λ (b : Option (List ℕ)). HasByte b) (sym is) some

-- the bytes after a step on the file
pub step_bytes : (step : List ℕ → List ℕ → Type 0) (now old new : Option File) → MayStep step now old new → HasByte (bytes_of old)
    → (bytes_of new ≡ Some (contents new)) × ((contents new ≡ contents old) ⊎ step (contents old) (contents new))
step_bytes step now old new (inl same) has =
    (subst (λ (f : Option File). bytes_of f ≡ Some (contents f)) (sym same) (some_contents old has), inl (ap contents same))
step_bytes step now old new (inr s) has = (
  ap bytes_of s.is ∙ ap (λ (f : Option File). Some (contents f)) (sym s.is),
  inr (subst (λ (b : List ℕ). step b (contents new)) (sym (ap contents s.was)) (subst (λ (b : List ℕ). step s.before b) (sym (ap contents s.is)) s.took)),
)

pub step_number : (step : List ℕ → List ℕ → Type 0) (now old new : Option File) → MayStep step now old new → number_of new ≡ number_of old
step_number step now old new (inl same) = ap number_of same
step_number step now old new (inr s) = ap number_of s.is ∙ sym (ap number_of s.was)

pub main_fresh : (step : List ℕ → List ℕ → Type 0) (next : ℕ) (now d c : Files) → IsNumbered next d → IsHeld now d → Changes Main step now d c
    → c.fresh ≡ d.fresh
main_fresh step next now d c numbered held changes = go changes.2
  where
    go : MayStep step now.main d.fresh c.fresh → c.fresh ≡ d.fresh
    go (inl same) = same
    go (inr s) = absurd (numbered.main_fresh s.number (held.names.main ∙ s.is_now) (ap number_of s.was))

pub main_partly : (size : ℕ) (step : List ℕ → List ℕ → Type 0) (now d c : Files)
    → ((a b : List ℕ) → step a b → IsPartly size (end_of size (journal_of d)) (played size (journal_of d)) a b)
    → IsInPlay size now d → Changes Main step now d c → IsPartly size (end_of size (journal_of d)) (played size (journal_of d)) (main_of d) (main_of c)
main_partly size step now d c partly play changes = go (step_bytes step now.main d.main c.main changes.0 play.taken.main).1
  where
    go : (contents c.main ≡ contents d.main) ⊎ step (contents d.main) (contents c.main)
        → IsPartly size (end_of size (journal_of d)) (played size (journal_of d)) (main_of d) (main_of c)
    go (inl same) = subst (λ (b : List ℕ). IsPartly size (end_of size (journal_of d)) (played size (journal_of d)) (main_of d) b) (sym same)
        (partly_at_first size (end_of size (journal_of d)) (played size (journal_of d)) (main_of d))
    go (inr took) = partly (main_of d) (main_of c) took

-- a step on Main that lays a part of an image, or cuts, keeps what is recovered
pub main_keeps : (size next : ℕ) (step : List ℕ → List ℕ → Type 0) (now d c : Files) → 0 < size
    → ((a b : List ℕ) → step a b → IsPartly size (end_of size (journal_of d)) (played size (journal_of d)) a b)
    → IsInPlay size now d → IsNumbered next d → Changes Main step now d c → KeepsRecovered size d c
main_keeps size next step now d c some partly play numbered changes =
    keeps_partly size (main_of d) (main_of c) (journal_of d) d c some play.taken.hot play.taken.page_size play.taken.no_super
    (some_contents d.main play.taken.main) (some_contents d.journal play.taken.journal)
    (step_bytes step now.main d.main c.main changes.0 play.taken.main).0 (ap bytes_of changes.1 ∙ some_contents d.journal play.taken.journal)
    (main_fresh step next now d c numbered play.held changes)
    (main_partly size step now d c partly play changes)

pub main_held : (step : List ℕ → List ℕ → Type 0) (next : ℕ) (now new d c : Files) → number_of new.main ≡ number_of now.main
    → new.journal ≡ now.journal → new.fresh ≡ now.fresh → IsNumbered next d → IsHeld now d → Changes Main step now d c → IsHeld new c
main_held step next now new d c main journal fresh numbered held changes = record {
  journal = changes.1 ∙ held.journal ∙ sym journal;
  names = record {
    main = step_number step now.main d.main c.main changes.0 ∙ held.names.main ∙ sym main;
    journal = ap number_of (changes.1 ∙ held.journal ∙ sym journal);
    fresh = ap number_of (main_fresh step next now d c numbered held changes) ∙ held.names.fresh ∙ sym (ap number_of fresh);
  };
}

-- where Main keeps a byte, the journal is taken as before
pub main_taken : (size : ℕ) (step : List ℕ → List ℕ → Type 0) (now d c : Files) → ((a b : List ℕ) → step a b → length a ≤ length b) → IsPlayedHot size d
    → Changes Main step now d c → IsPlayedHot size c
main_taken size step now d c longer taken changes =
    let bytes = step_bytes step now.main d.main c.main changes.0 taken.main in
    let some : 0 < length (contents c.main) = go bytes.1 in
    record {
      main = makes_byte c.main (contents c.main) bytes.0 some;
      journal = subst (λ (f : Option File). HasByte (bytes_of f)) (sym changes.1) taken.journal;
      hot = subst (λ (f : Option File). is_hot (main_of c) (contents f) ≡ true) (sym changes.1) (hot_too (main_of d) (main_of c) (journal_of d) taken.hot some);
      page_size = ap (λ (f : Option File). page_size_at 0 (contents f)) changes.1 ∙ taken.page_size;
      no_super = subst (λ (f : Option File). IsFalse (names_super (contents f))) (sym changes.1) taken.no_super;
    }
  where
    go : (contents c.main ≡ contents d.main) ⊎ step (contents d.main) (contents c.main) → 0 < length (contents c.main)
    go (inl same) = let was = has_byte d.main taken.main in omega (arith, ap length same)
    go (inr took) = let was = has_byte d.main taken.main in omega (arith, longer (contents d.main) (contents c.main) took)

pub with_number : (change : List ℕ → List ℕ) (file : Option File) → number_of (with_file_bytes change file) ≡ number_of file
with_number change None = refl
with_number change (Some file) = refl
