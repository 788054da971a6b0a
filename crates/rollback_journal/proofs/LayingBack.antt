-- The writer's own journal is played back: what each image has for it, and what stands after it.
use Rattle.std.proofs.Common.{◌≡◌, ◌⊎◌, inl, inr, ℕ, zero, suc, ◌*◌, ◌-◌, ◌<◌, ◌≤◌, List, length, Option, Some, None, refl, sym, ◌∙◌, ap, subst, arith}
use Rattle.std.proofs.Math.Nat.{mul-pos}
use Rattle.edge_model.specs.Files.{File, Files, bytes_of, contents, main_of}
use Rattle.journal_format.specs.Header.{initial_at, page_size_at}
use Rattle.journal_format.specs.Records.{Record}
use Rattle.journal_format.specs.Segments.{is_hot, names_super, played}
use Rattle.std.specs.Prelude.{IsFalse}
use Rattle.rollback_journal.specs.Recovery.{HasByte, IsHeld}
use Rattle.rollback_journal.specs.Playing.{journal_of, IsInPlay}
use Rattle.rollback_journal.specs.declared.stage.Stage.{Stage}
use Rattle.rollback_journal.specs.declared.stage.Stage.TheVariants.{New, Filling, Opened, Closed}
use Rattle.rollback_journal.specs.Plays.{Plays}
use Rattle.rollback_journal.specs.Writing.{Writing, IsSmall, safe_at, safe_records, earlier_records, IsWriterAt, IsLeft, IsLeftBeside, WriterStands, PlaysFirst, PlaysAt}
use Rattle.rollback_journal.proofs.Beside.{left_plays}

filling_not : ◌≡◌ {A = Stage} Filling Opened → ⊥
filling_not e = cc

-- a file with these bytes has them
pub contents_are : (file : Option File) (bytes : List ℕ) → bytes_of file ≡ Some bytes → contents file ≡ bytes
contents_are None bytes is = absurd (none_not is)
  where
    none_not : ◌≡◌ {A = Option (List ℕ)} None (Some bytes) → ⊥
    none_not e = cc
contents_are (Some file) bytes is = cc

pub gives_byte : (file : Option File) → 0 < length (contents file) → HasByte (bytes_of file)
gives_byte None some = absurd (omega arith)
gives_byte (Some file) some = some

-- Where a gate was opened, each image plays the records behind open gates.
pub begun_plays : (w : Writing) (now image : Option File) → IsLeft w now → IsLeftBeside w now image → (0 < w.at) ⊎ (w.stage ≡ Opened) → (w.stage ≡ Filling) ⊎ (w.stage ≡ Opened)
    → Plays w.page_size w.initial (safe_records w (contents now)) (bytes_of image)
begun_plays w now image left beside began stage = go stage began
  where
    plays : PlaysAt w.stage w (contents now) (bytes_of image)
    plays = left_plays w now image left beside

    first : (n : ℕ) → 0 < n → (records : List Record) → PlaysFirst n w.page_size w.initial records (bytes_of image) → Plays w.page_size w.initial records (bytes_of image)
    first zero some records is = absurd (omega arith)
    first (suc n) some records is = is

    go : (w.stage ≡ Filling) ⊎ (w.stage ≡ Opened) → (0 < w.at) ⊎ (w.stage ≡ Opened) → Plays w.page_size w.initial (safe_records w (contents now)) (bytes_of image)
    go (inr is) began =
        subst (λ (s : Stage). Plays w.page_size w.initial (safe_at s w (contents now)) (bytes_of image)) (sym is)
        (subst (λ (s : Stage). PlaysAt s w (contents now) (bytes_of image)) is plays)
    go (inl is) (inl some) =
        subst (λ (s : Stage). Plays w.page_size w.initial (safe_at s w (contents now)) (bytes_of image)) (sym is)
        (first w.at some (earlier_records w (contents now)) (subst (λ (s : Stage). PlaysAt s w (contents now) (bytes_of image)) is plays))
    go (inl is) (inr other) = absurd (filling_not (sym is ∙ other))

module _ (w : Writing) (now : Files) (images : Files → Type 0) (stands : WriterStands w now images) (began : (0 < w.at) ⊎ (w.stage ≡ Opened)) (stage : (w.stage ≡ Filling) ⊎ (w.stage ≡ Opened)) where
  -- the database has a page
  some_page : 0 < w.initial
  some_page = go stage began stands.read.is_at
    where
      small : IsSmall w
      small = stands.read.small

      go : (w.stage ≡ Filling) ⊎ (w.stage ≡ Opened) → (0 < w.at) ⊎ (w.stage ≡ Opened) → IsWriterAt w.stage w (contents now.journal) → 0 < w.initial
      go (inr is) began at =
          let opened = subst (λ (s : Stage). IsWriterAt s w (contents now.journal)) is at in
          omega (arith, opened.some, small.count, small.total)
      go (inl is) (inl some) at = at_pos (w.total - w.count) refl some
        where
          at_pos : (n : ℕ) → w.total - w.count ≡ n → 0 < w.at → 0 < w.initial
          at_pos zero e some = absurd (omega (arith, some, small.at, ap (λ (k : ℕ). k * 131072) e))
          at_pos (suc n) e some = omega (arith, e, small.total)
      go (inl is) (inr other) at = absurd (filling_not (sym is ∙ other))

  journal_byte : 0 < length (contents now.journal)
  journal_byte = go w.stage stands.read.is_at
    where
      go : (s : Stage) → IsWriterAt s w (contents now.journal) → 0 < length (contents now.journal)
      go New at = absurd at
      go Filling at = omega (arith, at.written.within)
      go Opened at = omega (arith, at.written.within)
      go Closed at = at.within

  -- each image that has the journal as it reads is in play
  pub in_play : (c : Files) → images c → w.initial * w.page_size ≤ length (contents c.main) → IsHeld now c → IsInPlay w.page_size now c
  in_play c here long held = record {
    held = held;
    taken = record {
      main = gives_byte c.main main_byte;
      journal = gives_byte c.journal (subst (λ (f : Option File). 0 < length (contents f)) (sym held.journal) journal_byte);
      hot = ap (λ (j : List ℕ). is_hot (main_of c) j) is ∙ plays.hot (main_of c) main_byte;
      page_size = ap (λ (j : List ℕ). page_size_at 0 j) is ∙ plays.page_size;
      no_super = subst (λ (j : List ℕ). IsFalse (names_super j)) (sym is) plays.no_super;
    };
  }
    where
      plays : Plays w.page_size w.initial (safe_records w (contents now.journal)) (bytes_of c.journal)
      plays = begun_plays w now.journal c.journal stands.read (stands.beside c here) began stage

      is : journal_of c ≡ plays.bytes
      is = contents_are c.journal plays.bytes plays.there

      main_byte : 0 < length (main_of c)
      main_byte = let small = stands.read.small in omega (arith, long, mul-pos some_page (let p : 0 < w.page_size = omega (arith, small.size_low) in p))

  module _ (here : images now) where
    now_plays : Plays w.page_size w.initial (safe_records w (contents now.journal)) (bytes_of now.journal)
    now_plays = begun_plays w now.journal now.journal stands.read (stands.beside now here) began stage

    now_is : journal_of now ≡ now_plays.bytes
    now_is = contents_are now.journal now_plays.bytes now_plays.there

    -- what is read plays the records behind open gates
    pub now_played : played w.page_size (journal_of now) ≡ safe_records w (contents now.journal)
    now_played = ap (λ (j : List ℕ). played w.page_size j) now_is ∙ now_plays.plays

    pub now_initial : initial_at 0 (journal_of now) ≡ w.initial
    now_initial = ap (λ (j : List ℕ). initial_at 0 j) now_is ∙ now_plays.pages
