-- The laws of a writer, at the writer of a rollback journal.
use Rattle.std.proofs.Common.{◌≡◌, ◌⊎◌, inl, inr, ℕ, suc, zero, take, Option, refl, sym, ap, subst}
use Rattle.edge_model.specs.Files.{File, Files, bytes_of, contents}
use Rattle.journal_format.specs.Segments.{played}
use Rattle.rollback_journal.specs.Playing.{journal_of}
use Rattle.rollback_journal.specs.declared.stage.Stage.{Stage}
use Rattle.rollback_journal.specs.declared.stage.Stage.TheVariants.{Filling, Opened}
use Rattle.rollback_journal.specs.Writing.{Writing, IsLeft, IsLeftBeside, PlaysFirst, PlaysAt, safe_at, safe_records, earlier_records}
use Rattle.rollback_journal.proofs.Beside.{left_plays}
use Rattle.atomic_commit.specs.Journals.{PlaysJust}

-- In each image the journal plays the records behind open gates, and no others.
pub left_just : (w : Writing) (now c : Files) → IsLeft w now.journal → IsLeftBeside w now.journal c.journal →
    (w.stage ≡ Filling) ⊎ (w.stage ≡ Opened) →
    PlaysJust w.page_size w.initial (safe_records w (journal_of now)) (bytes_of c.journal)
left_just w now c left beside stage = go stage
  where
    plays : PlaysAt w.stage w (contents now.journal) (bytes_of c.journal)
    plays = left_plays w now.journal c.journal left beside

    first : (n : ℕ) → w.at ≡ n →
        PlaysFirst n w.page_size w.initial (earlier_records w (journal_of now)) (bytes_of c.journal) →
        PlaysJust w.page_size w.initial (earlier_records w (journal_of now)) (bytes_of c.journal)
    first zero is none = inr (ap (λ (n : ℕ). played w.page_size (take n (journal_of now))) is, none)
    first (suc n) is some = inl some

    go : (w.stage ≡ Filling) ⊎ (w.stage ≡ Opened) →
        PlaysJust w.page_size w.initial (safe_records w (journal_of now)) (bytes_of c.journal)
    go (inl is) =
        subst (λ (s : Stage). PlaysJust w.page_size w.initial (safe_at s w (journal_of now)) (bytes_of c.journal)) (sym is)
        (first w.at refl (subst (λ (s : Stage). PlaysAt s w (contents now.journal) (bytes_of c.journal)) is plays))
    go (inr is) =
        subst (λ (s : Stage). PlaysJust w.page_size w.initial (safe_at s w (journal_of now)) (bytes_of c.journal)) (sym is)
        (inl (subst (λ (s : Stage). PlaysAt s w (contents now.journal) (bytes_of c.journal)) is plays))

-- Main and Fresh do not count.
pub moved_left : (w : Writing) (now new : Files) → IsLeft w now.journal → new.journal ≡ now.journal → IsLeft w new.journal
moved_left w now new left same = subst (λ (f : Option File). IsLeft w f) (sym same) left

pub moved_beside : (w : Writing) (now new d c : Files) → IsLeftBeside w now.journal d.journal → new.journal ≡ now.journal →
    c.journal ≡ d.journal → IsLeftBeside w new.journal c.journal
moved_beside w now new d c beside same other = subst (λ (f : Option File). IsLeftBeside w f c.journal) (sym same) (subst
    (λ (f : Option File). IsLeftBeside w now.journal f) (sym other) beside)
