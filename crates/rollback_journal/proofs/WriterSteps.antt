-- What each call leaves of the images.
use Rattle.std.proofs.Common.{◌≡◌, ◌≢◌, ◌⊎◌, inl, inr, ⊎_elim, ℕ, suc, zero, ◌+◌, ◌-◌, ◌%◌, ◌<◌, ◌≤◌, true, false, ◌==◌, List, [], ◌∷◌, ◌++◌, length, take, drop, get_or, Option, Some, None, refl, sym, ◌∙◌, ap, subst, arith}
use Rattle.edge_model.specs.Files.{File, Files, bytes_of, number_of, with_file_bytes, written, Torn, created, removed, contents}
use Rattle.edge_model.specs.Images.{From, MayStep, Changes, Renames, HasSynced}
use Rattle.edge_model.specs.declared.role.Role.TheVariants.{Journal}
use Rattle.journal_format.specs.Header.{has_header}
use Rattle.journal_format.specs.Records.{Record, journal_record_bytes}
use Rattle.journal_format.specs.Segments.{is_hot}
use Rattle.rollback_journal.proofs.Played.{either, eq_is}
use Rattle.rollback_journal.proofs.SegmentSteps.{no_header}
use Rattle.rollback_journal.proofs.Closed.{no_header_cold, hot_header, gate_torn}
use Rattle.rollback_journal.proofs.MainSteps.{step_number, with_number}
use Rattle.rollback_journal.specs.declared.stage.Stage.{Stage}
use Rattle.rollback_journal.specs.declared.stage.Stage.TheVariants.{New, Filling, Opened, Closed}
use Rattle.rollback_journal.specs.Plays.{Plays, PlaysNone, SameOthers, PlaysAsBefore, PlaysAsBeforeOrAll, PlaysAsBeforeOrNone}
use Rattle.rollback_journal.specs.Writing.{Writing, end_at, next_at, with_stage, with_record, with_segment, earlier_records, all_records, IsJournalOpened, IsFilling, IsJournalShut, IsWriterAt, IsLeft, HasFront, BesideAt, IsLeftBeside, WriterStands, PlaysFirst, PlaysAt, sector_of, IsJournalHeaded}
use Rattle.rollback_journal.proofs.Fronts.{torn_front}
use Rattle.rollback_journal.proofs.Beside.{other_closed, filling_plays, opened_plays, there_of, left_plays, keeps_alike, as_before_none, as_before_joins, front_step}
use Rattle.rollback_journal.proofs.WriterCalls.{small_stage, small_record, small_segment, full_length, append_front, append_filling, append_records, headed_filling, headed_records, headed_is, gate_opened, gate_records, gate_torn_is, begun_filling, begun_all, shut_is}

-- a file with other bytes
pub with_contents : (change : List ℕ → List ℕ) (file : Option File) → bytes_of file ≡ Some (contents file) → contents (with_file_bytes change file) ≡ change (contents file)
with_contents change None there = absurd (none_not there)
  where
    none_not : ◌≡◌ {A = Option (List ℕ)} None (Some []) → ⊥
    none_not is = cc
with_contents change (Some file) there = refl

pub with_there : (change : List ℕ → List ℕ) (file : Option File) → bytes_of file ≡ Some (contents file) → bytes_of (with_file_bytes change file) ≡ Some (contents (with_file_bytes change file))
with_there change file there = there_of file (with_file_bytes change file) (with_number change file) there

pub there_is : (file new : Option File) → new ≡ file → bytes_of file ≡ Some (contents file) → bytes_of new ≡ Some (contents new)
there_is file new is there = subst (λ (f : Option File). bytes_of f ≡ Some (contents f)) (sym is) there

pub front_to : (k : ℕ) (old new image : Option File) → number_of new ≡ number_of old → take k (contents new) ≡ take k (contents old) → HasFront k old image → HasFront k new image
front_to k old new image number bytes has = record { number = has.number ∙ sym number; bytes = has.bytes ∙ sym bytes }

pub front_all : (k : ℕ) (now image : Option File) → image ≡ now → HasFront k now image
front_all k now image is = record { number = ap number_of is; bytes = ap (λ (f : Option File). take k (contents f)) is }

-- the journal after a write of it
module _ (at : ℕ) (bytes : List ℕ) (old new : Option File) (done : new ≡ with_file_bytes (written at bytes) old) (there : bytes_of old ≡ Some (contents old)) where
  pub wrote_there : bytes_of new ≡ Some (contents new)
  wrote_there = there_is (with_file_bytes (written at bytes) old) new done (with_there (written at bytes) old there)

  pub wrote_contents : contents new ≡ written at bytes (contents old)
  wrote_contents = ap contents done ∙ with_contents (written at bytes) old there

  pub wrote_number : number_of new ≡ number_of old
  wrote_number = ap number_of done ∙ with_number (written at bytes) old

-- the image has the synced file
pub synced_journal : (at n : ℕ) (old new d c : Files) → number_of new.journal ≡ number_of old.journal → number_of d.journal ≡ number_of old.journal → Changes Journal (Torn at n) old d c → HasSynced Journal new c → c.journal ≡ new.journal
synced_journal at n old new d c number is changes synced = synced.journal (step_number (Torn at n) old.journal d.journal c.journal changes.1 ∙ is ∙ sym number)

pub others_of : (at n : ℕ) (old d c : Files) → Changes Journal (Torn at n) old d c → SameOthers d c
others_of at n old d c changes = record { main = changes.0; fresh = changes.2 }

pub is_filling : (w : Writing) (journal : Option File) → w.stage ≡ Filling → IsLeft w journal → IsFilling w (contents journal)
is_filling w journal stage left = subst (λ (s : Stage). IsWriterAt s w (contents journal)) stage left.is_at

pub is_opened : (w : Writing) (journal : Option File) → w.stage ≡ Opened → IsLeft w journal → IsJournalOpened w (contents journal)
is_opened w journal stage left = subst (λ (s : Stage). IsWriterAt s w (contents journal)) stage left.is_at

pub beside_filling : (w : Writing) (now image : Option File) → w.stage ≡ Filling → IsLeftBeside w now image → HasFront (w.at + 1) now image
beside_filling w now image stage beside = subst (λ (s : Stage). BesideAt s w.at now image) stage beside

pub beside_opened : (w : Writing) (now image : Option File) → w.stage ≡ Opened → IsLeftBeside w now image → image ≡ now
beside_opened w now image stage beside = subst (λ (s : Stage). BesideAt s w.at now image) stage beside

-- the present gate is closed
module _ (w : Writing) (old : Files) (images : Files → Type 0) (stage : w.stage ≡ Filling) (stands : WriterStands w old images) where
  abbrev J : List ℕ
  J = contents old.journal

  filling : IsFilling w (contents old.journal)
  filling = is_filling w old.journal stage stands.read

  pub front_in : (d : Files) → images d → HasFront (w.at + 1) old.journal d.journal
  front_in d here = beside_filling w old.journal d.journal stage (stands.beside d here)

  pub front_plays : (image : Option File) → HasFront (w.at + 1) old.journal image → PlaysFirst w.at w.page_size w.initial (earlier_records w (contents old.journal)) (bytes_of image)
  front_plays image has =
      subst (λ (s : Stage). PlaysAt s w (contents old.journal) (bytes_of image)) stage
      (left_plays w old.journal image stands.read (subst (λ (s : Stage). BesideAt s w.at old.journal image) (sym stage) has))

  pub behind_front : (at n : ℕ) (d c : Files) → images d → w.at + 1 ≤ at → Changes Journal (Torn at n) old d c → HasFront (w.at + 1) old.journal c.journal
  behind_front at n d c here low changes = let within = filling.written.within in front_step (w.at + 1) at n old.journal old.journal d.journal c.journal (omega (arith, within)) low (front_in d here) changes.1

  pub behind_keeps : (at n : ℕ) (d c : Files) → images d → w.at + 1 ≤ at → Changes Journal (Torn at n) old d c → PlaysAsBefore w.page_size d c
  behind_keeps at n d c here low changes =
      keeps_alike w.page_size w.initial w.at (earlier_records w (contents old.journal)) d c (others_of at n old d c changes) (front_plays d.journal (front_in d here)) (front_plays c.journal (behind_front at n d c here low changes))

  -- one record more
  module _ (n : ℕ) (image : List ℕ) (one : 1 ≤ n) (most : n ≤ w.initial) (size : length image ≡ w.page_size) (room : w.total < w.initial) (new : Files) (done : new.journal ≡ with_file_bytes (written (end_at w) (journal_record_bytes w.nonce n image)) old.journal) where
    appended : contents new.journal ≡ written (end_at w) (journal_record_bytes w.nonce n image) (contents old.journal)
    appended = wrote_contents (end_at w) (journal_record_bytes w.nonce n image) old.journal new.journal done stands.read.there

    pub appended_records : all_records (with_record w) (contents new.journal) ≡ all_records w (contents old.journal) ++ record { page = n; image = image } ∷ []
    appended_records = ap (λ (l : List ℕ). all_records (with_record w) l) appended ∙ append_records w (contents old.journal) image n stands.read.small filling one most size

    pub appended_stands : (after : Files → Type 0) → ((c : Files) → after c → From (Changes Journal (Torn (end_at w) (length (journal_record_bytes w.nonce n image))) old) images c) → WriterStands (with_record w) new after
    appended_stands after from = record {
      read = record {
        small = small_record w stands.read.small room;
        there = wrote_there (end_at w) (journal_record_bytes w.nonce n image) old.journal new.journal done stands.read.there;
        is_at = subst (λ (l : List ℕ). IsFilling (with_record w) l) (sym appended) (append_filling w (contents old.journal) image n stands.read.small filling one most size);
      };
      beside = λ c here.
          let was = from c here in
          front_to (w.at + 1) old.journal new.journal c.journal (wrote_number (end_at w) (journal_record_bytes w.nonce n image) old.journal new.journal done stands.read.there)
          (ap (λ (l : List ℕ). take (w.at + 1) l) appended ∙ append_front w (contents old.journal) image n stands.read.small filling one most size)
          (behind_front (end_at w) (length (journal_record_bytes w.nonce n image)) was.0 c was.1 (omega arith) was.2);
    }

  -- the header but its first byte, synced
  module _ (tail : List ℕ) (tail_is : tail ≡ drop 1 (sector_of w)) (some : 0 < w.count) (new : Files) (done : new.journal ≡ with_file_bytes (written (w.at + 1) tail) old.journal) where
    head_contents : contents new.journal ≡ written (w.at + 1) tail (contents old.journal)
    head_contents = wrote_contents (w.at + 1) tail old.journal new.journal done stands.read.there

    pub head_all : all_records w (contents new.journal) ≡ all_records w (contents old.journal)
    head_all = ap (λ (l : List ℕ). all_records w l) head_contents ∙ headed_records w (contents old.journal) tail stands.read.small filling some tail_is

    pub head_is_there : IsJournalHeaded w (contents new.journal)
    head_is_there = subst (λ (l : List ℕ). IsJournalHeaded w l) (sym head_contents) (headed_is w (contents old.journal) tail stands.read.small filling some tail_is)

    pub head_synced : (c : Files) → From (Changes Journal (Torn (w.at + 1) (length tail)) old) images c → HasSynced Journal new c → c.journal ≡ new.journal
    head_synced c from synced = synced_journal (w.at + 1) (length tail) old new from.0 c (wrote_number (w.at + 1) tail old.journal new.journal done stands.read.there) (front_in from.0 from.1).number from.2 synced

    pub head_stands : (after : Files → Type 0) → ((c : Files) → after c → c.journal ≡ new.journal) → WriterStands w new after
    head_stands after whole = record {
      read = record {
        small = stands.read.small;
        there = wrote_there (w.at + 1) tail old.journal new.journal done stands.read.there;
        is_at = subst (λ (s : Stage). IsWriterAt s w (contents new.journal)) (sym stage) (subst (λ (l : List ℕ). IsFilling w l) (sym head_contents) (headed_filling w (contents old.journal) tail stands.read.small filling some tail_is));
      };
      beside = λ c here. subst (λ (s : Stage). BesideAt s w.at new.journal c.journal) (sym stage) (front_all (w.at + 1) new.journal c.journal (whole c here));
    }

  -- the gate
  module _ (headed : IsJournalHeaded w (contents old.journal)) (whole : (d : Files) → images d → d.journal ≡ old.journal) (some : 0 < w.count) where
    pub gate_middle : (d c : Files) → images d → Changes Journal (Torn w.at 1) old d c → PlaysAsBeforeOrAll w.page_size w.initial (all_records w (contents old.journal)) d c
    gate_middle d c here changes = go changes.1
      where
        same : SameOthers d c
        same = others_of w.at 1 old d c changes

        as_before : PlaysFirst w.at w.page_size w.initial (earlier_records w (contents old.journal)) (bytes_of c.journal) → PlaysAsBeforeOrAll w.page_size w.initial (all_records w (contents old.journal)) d c
        as_before plays = record { same = same; plays = inl (keeps_alike w.page_size w.initial w.at (earlier_records w (contents old.journal)) d c same (front_plays d.journal (front_in d here)) plays).recovers }

        not_is : (n : ℕ) → (n == 217) ≡ false → n ≢ 217
        not_is n is = λ e. let f : (217 == 217) ≡ false = subst (λ (k : ℕ). (k == 217) ≡ false) e is in cc

        by_byte : (after : List ℕ) → Torn w.at 1 (contents old.journal) after → bytes_of c.journal ≡ Some after → (get_or after w.at 0 == 217) ≡ true ⊎ (get_or after w.at 0 == 217) ≡ false → PlaysAsBeforeOrAll w.page_size w.initial (all_records w (contents old.journal)) d c
        by_byte after torn is (inl begins) =
            let now = gate_torn_is w (contents old.journal) stands.read.small filling some headed after torn (eq_is (get_or after w.at 0) 217 begins) in
            let opened = gate_opened w (contents old.journal) stands.read.small filling some headed in
            let all = opened_plays (with_stage Opened w) (written w.at (217 ∷ []) (contents old.journal)) (written w.at (217 ∷ []) (contents old.journal)) (small_stage Opened w stands.read.small) opened refl (omega (arith, opened.written.ends, high (end_at w))) in
            record {
              same = same;
              plays = inr (subst (λ (j : Option (List ℕ)). Plays w.page_size w.initial (all_records w (contents old.journal)) j) (sym (is ∙ ap (λ (l : List ℕ). Some l) now))
                  (subst (λ (rs : List Record). Plays w.page_size w.initial rs (Some (written w.at (217 ∷ []) (contents old.journal)))) (gate_records w (contents old.journal) stands.read.small filling some headed) all));
            }
          where
            high : (n : ℕ) → n ≤ n + (512 - n % 512) % 512
            high n = omega arith
        by_byte after torn is (inr shut) =
            let within = filling.written.within in
            as_before (subst (λ (j : Option (List ℕ)). PlaysFirst w.at w.page_size w.initial (earlier_records w (contents old.journal)) j) (sym is)
            (filling_plays w (contents old.journal) after stands.read.small filling.written (torn_front w.at w.at 1 (contents old.journal) after torn (omega arith) (omega (arith, within))) (other_closed w.at after (not_is (get_or after w.at 0) shut))))

        go : MayStep (Torn w.at 1) old.journal d.journal c.journal → PlaysAsBeforeOrAll w.page_size w.initial (all_records w (contents old.journal)) d c
        go (inl stays) = as_before (front_plays c.journal (front_all (w.at + 1) old.journal c.journal (stays ∙ whole d here)))
        go (inr s) =
            let before : s.before ≡ contents old.journal = sym (ap contents s.was) ∙ ap contents (whole d here) in
            by_byte s.after (subst (λ (l : List ℕ). Torn w.at 1 l s.after) before s.took) (ap bytes_of s.is) (either (get_or s.after w.at 0 == 217))

    module _ (new : Files) (done : new.journal ≡ with_file_bytes (written w.at (217 ∷ [])) old.journal) where
      gate_contents : contents new.journal ≡ written w.at (217 ∷ []) (contents old.journal)
      gate_contents = wrote_contents w.at (217 ∷ []) old.journal new.journal done stands.read.there

      pub gate_all : all_records w (contents new.journal) ≡ all_records w (contents old.journal)
      gate_all = ap (λ (l : List ℕ). all_records w l) gate_contents ∙ gate_records w (contents old.journal) stands.read.small filling some headed

      pub gate_stands : (after : Files → Type 0) → ((c : Files) → after c → From (Changes Journal (Torn w.at 1) old) images c) → ((c : Files) → after c → HasSynced Journal new c) → WriterStands (with_stage Opened w) new after
      gate_stands after from synced = record {
        read = record {
          small = small_stage Opened w stands.read.small;
          there = wrote_there w.at (217 ∷ []) old.journal new.journal done stands.read.there;
          is_at = subst (λ (l : List ℕ). IsJournalOpened (with_stage Opened w) l) (sym gate_contents) (gate_opened w (contents old.journal) stands.read.small filling some headed);
        };
        beside = λ c here.
            let was = from c here in
            synced_journal w.at 1 old new was.0 c (wrote_number w.at (217 ∷ []) old.journal new.journal done stands.read.there) (ap number_of (whole was.0 was.1)) was.2 (synced c here);
      }

-- the present gate is open
module _ (w : Writing) (old : Files) (images : Files → Type 0) (stage : w.stage ≡ Opened) (stands : WriterStands w old images) where
  opened : IsJournalOpened w (contents old.journal)
  opened = is_opened w old.journal stage stands.read

  all_in : (d : Files) → images d → d.journal ≡ old.journal
  all_in d here = beside_opened w old.journal d.journal stage (stands.beside d here)

  high_next : (n : ℕ) → n ≤ n + (512 - n % 512) % 512
  high_next n = omega arith

  long_is : length (contents old.journal) ≡ end_at w
  long_is = full_length w (contents old.journal) opened.written opened.some

  all_plays : (other : List ℕ) (image : Option File) → bytes_of image ≡ Some other → take (end_at w) other ≡ take (end_at w) (contents old.journal) → length other < next_at w + 28 → Plays w.page_size w.initial (all_records w (contents old.journal)) (bytes_of image)
  all_plays other image is same short = subst (λ (j : Option (List ℕ)). Plays w.page_size w.initial (all_records w (contents old.journal)) j) (sym is) (opened_plays w (contents old.journal) other stands.read.small opened same short)

  -- a further segment is begun
  pub begin_keeps : (d c : Files) → images d → Changes Journal (Torn (next_at w) 1) old d c → PlaysAsBefore w.page_size d c
  begin_keeps d c here changes =
      keeps_alike w.page_size w.initial 1 (all_records w (contents old.journal)) d c (others_of (next_at w) 1 old d c changes) (whole d.journal (all_in d here)) (go changes.1)
    where
      whole : (image : Option File) → image ≡ old.journal → Plays w.page_size w.initial (all_records w (contents old.journal)) (bytes_of image)
      whole image is = all_plays (contents old.journal) image (ap bytes_of is ∙ stands.read.there) refl (omega (arith, long_is, high_next (end_at w)))

      go : MayStep (Torn (next_at w) 1) old.journal d.journal c.journal → Plays w.page_size w.initial (all_records w (contents old.journal)) (bytes_of c.journal)
      go (inl stays) = whole c.journal (stays ∙ all_in d here)
      go (inr s) =
          let before : s.before ≡ contents old.journal = sym (ap contents s.was) ∙ ap contents (all_in d here) in
          let torn : Torn (next_at w) 1 (contents old.journal) s.after = subst (λ (l : List ℕ). Torn (next_at w) 1 l s.after) before s.took in
          all_plays s.after c.journal (ap bytes_of s.is) (torn_front (end_at w) (next_at w) 1 (contents old.journal) s.after torn (high_next (end_at w)) (omega (arith, long_is))) (omega (arith, torn.no_longer, long_is, high_next (end_at w)))

  module _ (new : Files) (done : new.journal ≡ with_file_bytes (written (next_at w) (0 ∷ [])) old.journal) where
    begun_contents : contents new.journal ≡ written (next_at w) (0 ∷ []) (contents old.journal)
    begun_contents = wrote_contents (next_at w) (0 ∷ []) old.journal new.journal done stands.read.there

    pub begun_same : all_records (with_segment w) (contents new.journal) ≡ all_records w (contents old.journal)
    begun_same = ap (λ (l : List ℕ). all_records (with_segment w) l) begun_contents ∙ begun_all w (contents old.journal) stands.read.small opened

    pub begun_stands : (after : Files → Type 0) → ((c : Files) → after c → From (Changes Journal (Torn (next_at w) 1) old) images c) → ((c : Files) → after c → HasSynced Journal new c) → WriterStands (with_segment w) new after
    begun_stands after from synced = record {
      read = record {
        small = small_segment w stands.read.small opened.some;
        there = wrote_there (next_at w) (0 ∷ []) old.journal new.journal done stands.read.there;
        is_at = subst (λ (l : List ℕ). IsFilling (with_segment w) l) (sym begun_contents) (begun_filling w (contents old.journal) stands.read.small opened);
      };
      beside = λ c here.
          let was = from c here in
          front_all (next_at w + 1) new.journal c.journal
          (synced_journal (next_at w) 1 old new was.0 c (wrote_number (next_at w) (0 ∷ []) old.journal new.journal done stands.read.there) (ap number_of (all_in was.0 was.1)) was.2 (synced c here));
    }

-- A first header is there and is closed: as before, or cold.
module _ (size initial : ℕ) (records : List Record) (old d c : Files) (plays : Plays size initial records (bytes_of d.journal)) where
  pub shut_middle : Changes Journal (Torn 0 1) old d c → PlaysAsBeforeOrNone size d c
  shut_middle changes = go changes.1
    where
      same : SameOthers d c
      same = others_of 0 1 old d c changes

      as_before : Plays size initial records (bytes_of c.journal) → PlaysAsBeforeOrNone size d c
      as_before still = record { same = same; plays = inl (keeps_alike size initial 1 records d c same plays still).recovers }

      by_header : (before after : List ℕ) → bytes_of d.journal ≡ Some before → bytes_of c.journal ≡ Some after → Torn 0 1 before after → (has_header 0 after ≡ true) ⊎ (has_header 0 after ≡ false) → PlaysAsBeforeOrNone size d c
      by_header before after was is torn (inl has) =
          let headed : has_header 0 before ≡ true = hot_header (0 ∷ []) before (hot_of before was) in
          let e : after ≡ before = gate_torn before after headed torn has in
          as_before (subst (λ (j : Option (List ℕ)). Plays size initial records j) (was ∙ ap (λ (l : List ℕ). Some l) (sym e) ∙ sym is) plays)
        where
          some_same : (a b : List ℕ) → ◌≡◌ {A = Option (List ℕ)} (Some a) (Some b) → a ≡ b
          some_same a b e = cc

          hot_of : (bytes : List ℕ) → bytes_of d.journal ≡ Some bytes → is_hot (0 ∷ []) bytes ≡ true
          hot_of bytes e = ap (λ (l : List ℕ). is_hot (0 ∷ []) l) (some_same bytes plays.bytes (sym e ∙ plays.there)) ∙ plays.hot (0 ∷ []) (omega arith)
      by_header before after was is torn (inr none) =
          record { same = same; plays = inr (subst (λ (j : Option (List ℕ)). PlaysNone j) (sym is) (λ main. no_header_cold main after none)) }

      go : MayStep (Torn 0 1) old.journal d.journal c.journal → PlaysAsBeforeOrNone size d c
      go (inl stays) = as_before (subst (λ (f : Option File). Plays size initial records (bytes_of f)) (sym stays) plays)
      go (inr s) = by_header s.before s.after (ap bytes_of s.was) (ap bytes_of s.is) s.took (either (has_header 0 s.after))

-- the journal is closed
module _ (w : Writing) (old : Files) (images : Files → Type 0) (stands : WriterStands w old images) where
  -- no gate was opened, and nothing is written
  pub never_opened : w.stage ≡ Filling → w.at ≡ 0 → WriterStands (with_stage Closed w) old images
  never_opened stage first = record {
    read = record {
      small = small_stage Closed w stands.read.small;
      there = stands.read.there;
      is_at =
          let is = is_filling w old.journal stage stands.read in
          record { within = omega (arith, is.written.within); gate = ap (λ (n : ℕ). get_or (contents old.journal) n 0) (sym first) ∙ is.gate };
    };
    beside = λ c here. subst (λ (n : ℕ). HasFront (n + 1) old.journal c.journal) first (beside_filling w old.journal c.journal stage (stands.beside c here));
  }

  within_of : (s : Stage) → IsWriterAt s w (contents old.journal) → 0 < length (contents old.journal)
  within_of New is = absurd is
  within_of Filling is = omega (arith, is.written.within)
  within_of Opened is = omega (arith, is.written.within)
  within_of Closed is = is.within

  number_in : (d : Files) → images d → number_of d.journal ≡ number_of old.journal
  number_in d here = go w.stage (stands.beside d here)
    where
      go : (s : Stage) → BesideAt s w.at old.journal d.journal → number_of d.journal ≡ number_of old.journal
      go New at = absurd at
      go Filling at = at.number
      go Opened at = ap number_of at
      go Closed at = at.number

  pub shut_stands : (new : Files) → new.journal ≡ with_file_bytes (written 0 (0 ∷ [])) old.journal → (after : Files → Type 0) → ((c : Files) → after c → From (Changes Journal (Torn 0 1) old) images c) → ((c : Files) → after c → HasSynced Journal new c) → WriterStands (with_stage Closed w) new after
  shut_stands new done after from synced = record {
    read = record {
      small = small_stage Closed w stands.read.small;
      there = wrote_there 0 (0 ∷ []) old.journal new.journal done stands.read.there;
      is_at = subst (λ (l : List ℕ). IsJournalShut l) (sym (wrote_contents 0 (0 ∷ []) old.journal new.journal done stands.read.there)) (shut_is (contents old.journal) (within_of w.stage stands.read.is_at));
    };
    beside = λ c here.
        let was = from c here in
        front_all 1 new.journal c.journal (synced_journal 0 1 old new was.0 c (wrote_number 0 (0 ∷ []) old.journal new.journal done stands.read.there) (number_in was.0 was.1) was.2 (synced c here));
  }

  -- where some gate was opened, the first header is there
  pub open_plays : (0 < w.at) ⊎ (w.stage ≡ Opened) → (w.stage ≡ Filling) ⊎ (w.stage ≡ Opened) → (d : Files) → images d → (records : List Record) × Plays w.page_size w.initial records (bytes_of d.journal)
  open_plays began stage d here = go stage began
    where
      plays : PlaysAt w.stage w (contents old.journal) (bytes_of d.journal)
      plays = left_plays w old.journal d.journal stands.read (stands.beside d here)

      first : (n : ℕ) → 0 < n → (records : List Record) → PlaysFirst n w.page_size w.initial records (bytes_of d.journal) → Plays w.page_size w.initial records (bytes_of d.journal)
      first zero some records is = absurd (omega arith)
      first (suc n) some records is = is

      go : (w.stage ≡ Filling) ⊎ (w.stage ≡ Opened) → (0 < w.at) ⊎ (w.stage ≡ Opened) → (records : List Record) × Plays w.page_size w.initial records (bytes_of d.journal)
      go (inr is) began = (all_records w (contents old.journal), subst (λ (s : Stage). PlaysAt s w (contents old.journal) (bytes_of d.journal)) is plays)
      go (inl is) (inl some) = (earlier_records w (contents old.journal), first w.at some (earlier_records w (contents old.journal)) (subst (λ (s : Stage). PlaysAt s w (contents old.journal) (bytes_of d.journal)) is plays))
      go (inl is) (inr other) = absurd (filling_not (sym is ∙ other))
        where
          filling_not : ◌≡◌ {A = Stage} Filling Opened → ⊥
          filling_not e = cc

  pub shut_keeps : (0 < w.at) ⊎ (w.stage ≡ Opened) → (w.stage ≡ Filling) ⊎ (w.stage ≡ Opened) → (d c : Files) → images d → Changes Journal (Torn 0 1) old d c → PlaysAsBeforeOrNone w.page_size d c
  shut_keeps began stage d c here changes = let was = open_plays began stage d here in shut_middle w.page_size w.initial was.0 old d c was.1 changes

  -- a closed journal is cold in each image
  pub closed_cold : w.stage ≡ Closed → (d : Files) → images d → PlaysNone (bytes_of d.journal)
  closed_cold stage d here = subst (λ (s : Stage). PlaysAt s w (contents old.journal) (bytes_of d.journal)) stage (left_plays w old.journal d.journal stands.read (stands.beside d here))

  pub remove_keeps : w.stage ≡ Closed → (d c : Files) → images d → Renames (removed Journal) old d c → PlaysAsBefore w.page_size d c
  remove_keeps stage d c here (inl stays) = subst (λ (f : Files). PlaysAsBefore w.page_size d f) (sym stays) (as_before_none w.page_size d)
  remove_keeps stage d c here (inr gone) =
      keeps_alike w.page_size w.initial 0 [] d c (record { main = ap (λ (f : Files). f.main) gone.1; fresh = ap (λ (f : Files). f.fresh) gone.1 }) (closed_cold stage d here)
      (subst (λ (f : Files). PlaysNone (bytes_of f.journal)) (sym gone.1) tt)

pub or_all : (size initial : ℕ) (records : List Record) (a b : Files) → PlaysAsBefore size a b → PlaysAsBeforeOrAll size initial records a b
or_all size initial records a b one = record { same = one.same; plays = inl one.recovers }

pub before_or_all : (size initial : ℕ) (records : List Record) (a b c : Files) → PlaysAsBefore size a b → PlaysAsBeforeOrAll size initial records b c → PlaysAsBeforeOrAll size initial records a c
before_or_all size initial records a b c one two = record {
  same = record { main = two.same.main ∙ one.same.main; fresh = two.same.fresh ∙ one.same.fresh };
  plays = ⊎_elim (λ keeps. inl (as_before_joins size a b c one (record { same = two.same; recovers = keeps })).recovers) (λ all. inr all) two.plays;
}

-- a journal of fewer than 28 bytes, or none
abbrev pub IsShort : Option (List ℕ) → Type 0
IsShort None = Unit {0}
IsShort (Some journal) = length journal < 28

short_none : (journal : Option (List ℕ)) → IsShort journal → PlaysNone journal
short_none None short = tt
short_none (Some journal) short = λ main. no_header_cold main journal (no_header 0 journal (omega arith))

short_keeps : (size : ℕ) (d c : Files) → SameOthers d c → IsShort (bytes_of d.journal) → IsShort (bytes_of c.journal) → PlaysAsBefore size d c
short_keeps size d c same one two = keeps_alike size 0 0 [] d c same (short_none (bytes_of d.journal) one) (short_none (bytes_of c.journal) two)

none_short : (file : Option File) → file ≡ None → IsShort (bytes_of file)
none_short file is = subst (λ (f : Option File). IsShort (bytes_of f)) (sym is) tt

-- a journal is made
pub created_short : (number : ℕ) (now d c : Files) → d.journal ≡ None → Renames (created Journal number) now d c → IsShort (bytes_of c.journal)
created_short number now d c none (inl same) = none_short c.journal (ap (λ (f : Files). f.journal) same ∙ none)
created_short number now d c none (inr made) = subst (λ (f : Files). IsShort (bytes_of f.journal)) (sym made.1) (omega arith)

pub created_keeps : (size number : ℕ) (now d c : Files) → d.journal ≡ None → Renames (created Journal number) now d c → PlaysAsBefore size d c
created_keeps size number now d c none step = short_keeps size d c (same step) (none_short d.journal none) (created_short number now d c none step)
  where
    same : Renames (created Journal number) now d c → SameOthers d c
    same (inl is) = record { main = ap (λ (f : Files). f.main) is; fresh = ap (λ (f : Files). f.fresh) is }
    same (inr made) = record { main = ap (λ (f : Files). f.main) made.1; fresh = ap (λ (f : Files). f.fresh) made.1 }

-- its first byte is written
pub first_keeps : (size : ℕ) (now d c : Files) → IsShort (bytes_of d.journal) → Changes Journal (Torn 0 1) now d c → PlaysAsBefore size d c
first_keeps size now d c short changes = short_keeps size d c (others_of 0 1 now d c changes) short (go changes.1)
  where
    go : MayStep (Torn 0 1) now.journal d.journal c.journal → IsShort (bytes_of c.journal)
    go (inl same) = subst (λ (f : Option File). IsShort (bytes_of f)) (sym same) short
    go (inr s) =
        let before : length s.before < 28 = subst (λ (f : Option File). IsShort (bytes_of f)) s.was short in
        subst (λ (f : Option File). IsShort (bytes_of f)) (sym s.is) (omega (arith, s.took.no_longer, before))
