-- Main after a playback.
use Rattle.std.proofs.Common.{◌≡◌, ◌≢◌, ◌⊎◌, inl, inr, ℕ, ◌<◌, true, false, List, take, Option, Some, None, refl, sym, ◌∙◌, ap, subst}
use Rattle.std.specs.Prelude.{IsFalse}
use Rattle.edge_model.specs.Files.{File, Files, bytes_of, contents, main_of}
use Rattle.journal_format.specs.Header.{has_header, page_size_at}
use Rattle.journal_format.specs.Segments.{is_hot, names_super, played}
use Rattle.rollback_journal.specs.Laying.{laid, PlaysTo}
use Rattle.rollback_journal.specs.Recovery.{RecoversTo, HasByte, end_of}
use Rattle.rollback_journal.specs.Playing.{journal_of, IsPlayedHot}
use Rattle.rollback_journal.specs.Closing.{IsLaidBack}
use Rattle.rollback_journal.proofs.Played.{either}
use Rattle.rollback_journal.proofs.Laid.{plays_zeros, plays_again}
use Rattle.rollback_journal.proofs.Kept.{to_hot, to_cold, played_sized}
use Rattle.rollback_journal.proofs.MainSteps.{some_contents}
use Rattle.rollback_journal.proofs.Closed.{hot_header}

pub there_contents : (file : Option File) → file ≢ None → bytes_of file ≡ Some (contents file)
there_contents None there = absurd (there refl)
there_contents (Some file) there = refl

pub has_there : (file : Option File) → HasByte (bytes_of file) → file ≢ None
has_there None has = absurd has
has_there (Some file) has = λ is. cc

abbrev pub IsTakenBy : ℕ → List ℕ → Type 0
IsTakenBy size journal = (page_size_at 0 journal ≡ size) × IsFalse (names_super journal)

-- what was played is recovered to itself
pub played_stays : (size : ℕ) (main journal file : List ℕ) → 0 < size → IsTakenBy size journal
    → file ≡ take (end_of size journal) (laid size (played size journal) main) → RecoversTo size (Some file) (Some journal) file
played_stays size main journal file some taken is = go (either (is_hot file journal))
  where
    go : (is_hot file journal ≡ true) ⊎ (is_hot file journal ≡ false) → RecoversTo size (Some file) (Some journal) file
    go (inl hot) = to_hot size file journal file hot (record {
      page_size = taken.0;
      no_super = taken.1;
      plays = plays_again size (end_of size journal) (played size journal) main file some (played_sized size journal)
          (subst (λ (f : List ℕ). PlaysTo size (end_of size journal) (played size journal) main f) (sym is) (plays_zeros size (end_of size journal) (played size journal) main some (played_sized size journal)));
    })
    go (inr cold) = to_cold size file journal file cold refl

pub laid_back : (size : ℕ) (old new : Files) → 0 < size → IsPlayedHot size old → new.journal ≡ old.journal → new.main ≢ None
    → main_of new ≡ take (end_of size (journal_of old)) (laid size (played size (journal_of old)) (main_of old)) → IsLaidBack size new
laid_back size old new some taken journal there main = record {
  main = there_contents new.main there;
  journal = journal_new ∙ ap (λ (f : Option File). Some (contents f)) (sym journal);
  header = ap (λ (f : Option File). has_header 0 (contents f)) journal ∙ hot_header (main_of old) (journal_of old) taken.hot;
  same = subst (λ (x : Option (List ℕ)). RecoversTo size x (bytes_of new.journal) (main_of new)) (sym (there_contents new.main there))
      (subst (λ (x : Option (List ℕ)). RecoversTo size (Some (main_of new)) x (main_of new)) (sym journal_new) (played_stays size (main_of old) (journal_of old) (main_of new) some (taken.page_size, taken.no_super) main));
}
  where
    journal_new : bytes_of new.journal ≡ Some (journal_of old)
    journal_new = ap bytes_of journal ∙ some_contents old.journal taken.journal
