-- What the images of a journal play while it is written.
use Rattle.std.proofs.Common.{◌≡◌, ◌≢◌, ◌⊎◌, inl, inr, ⊎_elim, ℕ, suc, zero, ◌+◌, ◌-◌, ◌*◌, ◌%◌, ◌<◌, ◌≤◌, true, false, List, [], ◌∷◌, ◌++◌, length, take, drop, get_or, Option, Some, None, refl, sym, ◌∙◌, ap, subst, arith}
use Rattle.std.proofs.lemmas.List.{append-nil, get_or-drop}
use Rattle.edge_model.specs.Files.{File, Files, bytes_of, number_of, Torn, contents}
use Rattle.edge_model.specs.Images.{MayStep}
use Rattle.journal_format.specs.Header.{is_header, has_header, initial_at}
use Rattle.journal_format.specs.Records.{Record}
use Rattle.journal_format.specs.Segments.{is_hot, played}
use Rattle.rollback_journal.specs.Laying.{PlaysTo}
use Rattle.rollback_journal.specs.Recovery.{RecoversTo}
use Rattle.rollback_journal.specs.Playing.{pending, places_at}
use Rattle.rollback_journal.proofs.Played.{either}
use Rattle.rollback_journal.proofs.Kept.{from_hot, to_hot, from_cold, to_cold, hot_byte}
use Rattle.rollback_journal.proofs.Closed.{header_first, no_header_cold}
use Rattle.rollback_journal.proofs.MainSteps.{step_number}
use Rattle.rollback_journal.proofs.SegmentSteps.{no_header, segment_none}
use Rattle.rollback_journal.specs.declared.stage.Stage.{Stage}
use Rattle.rollback_journal.specs.declared.stage.Stage.TheVariants.{New, Filling, Opened, Closed}
use Rattle.rollback_journal.specs.Plays.{Plays, PlaysNone, SameOthers, PlaysAsBefore}
use Rattle.rollback_journal.specs.Writing.{Writing, IsSmall, end_at, next_at, earlier_records, all_records, IsJournalWritten, IsJournalOpened, IsWriterAt, IsLeft, HasFront, BesideAt, IsLeftBeside, PlaysFirst, PlaysAt}
use Rattle.rollback_journal.proofs.Fronts.{front_of, index_same, front_long, torn_front}
use Rattle.rollback_journal.proofs.WrittenSegments.{own_same, plays_of, opened_leads}

-- where another byte stands, no header begins
pub other_closed : (at : ℕ) (journal : List ℕ) → get_or journal at 0 ≢ 217 → has_header at journal ≡ false
other_closed at journal other = go (drop at journal) (get_or-drop at journal 0 0 ∙ ap (λ (n : ℕ). get_or journal n 0) (let e : at + 0 ≡ at = omega arith in e))
  where
    go : (l : List ℕ) → get_or l 0 0 ≡ get_or journal at 0 → is_header (take 28 l) ≡ false
    go [] is = refl
    go (x ∷ xs) is = ⊎_elim (λ has. absurd (other (sym is ∙ header_first x xs has))) (λ no. no) (either (has_header 0 (x ∷ xs)))

pub zero_closed : (at : ℕ) (journal : List ℕ) → get_or journal at 0 ≡ 0 → has_header at journal ≡ false
zero_closed at journal zero_is = other_closed at journal (λ is. let e : 0 ≡ 217 = sym zero_is ∙ is in cc)

-- no header, and so nothing more
pub leads_end : (size at : ℕ) (records : List Record) (journal : List ℕ) → has_header at journal ≡ false → played size journal ≡ records ++ pending size journal (places_at size journal at) → played size journal ≡ records
leads_end size at records journal none is = is ∙ ap (λ (rs : List Record). records ++ rs) (segment_none size at journal none) ∙ append-nil records

-- a closed gate: each journal with the front up to it plays the earlier records
pub filling_plays : (w : Writing) (journal other : List ℕ) → IsSmall w → IsJournalWritten w journal → take w.at other ≡ take w.at journal → has_header w.at other ≡ false → PlaysFirst w.at w.page_size w.initial (earlier_records w journal) (Some other)
filling_plays w journal other small written same none = go w.at refl
  where
    go : (n : ℕ) → w.at ≡ n → PlaysFirst n w.page_size w.initial (earlier_records w journal) (Some other)
    go zero is = λ main. no_header_cold main other (subst (λ (n : ℕ). has_header n other ≡ false) is none)
    go (suc n) is =
        plays_of w.page_size w.initial (earlier_records w journal) other (own_same w.page_size w.initial w.at other journal (omega (arith, small.boundary)) same (written.own (omega arith)))
        (leads_end w.page_size w.at (earlier_records w journal) other none (written.leads other same))

rounded_high : (n : ℕ) → n ≤ n + (512 - n % 512) % 512
rounded_high n = omega arith

-- an open gate: each journal with the front up to the records' end, and nothing much behind it, plays all records
pub opened_plays : (w : Writing) (journal other : List ℕ) → IsSmall w → IsJournalOpened w journal → take (end_at w) other ≡ take (end_at w) journal → length other < next_at w + 28 → Plays w.page_size w.initial (all_records w journal) (Some other)
opened_plays w journal other small opened same short =
    plays_of w.page_size w.initial (all_records w journal) other (own_same w.page_size w.initial (end_at w) other journal (omega arith) same opened.first)
    (leads_end w.page_size (next_at w) (all_records w journal) other (no_header (next_at w) other short) (opened_leads w journal small opened other same))

none_not : (bytes : List ℕ) → ◌≡◌ {A = Option (List ℕ)} None (Some bytes) → ⊥
none_not bytes is = cc

none_no : (n : ℕ) → ◌≡◌ {A = Option ℕ} None (Some n) → ⊥
none_no n is = cc

-- the bytes of an image that has the file
pub there_of : (now image : Option File) → number_of image ≡ number_of now → bytes_of now ≡ Some (contents now) → bytes_of image ≡ Some (contents image)
there_of None None same there = absurd (none_not [] there)
there_of (Some file) None same there = absurd (none_no file.number same)
there_of now (Some file) same there = refl

pub plays_there : (file : Option File) (P : Option (List ℕ) → Type 0) → bytes_of file ≡ Some (contents file) → P (Some (contents file)) → P (bytes_of file)
plays_there file P there is = subst P (sym there) is

-- What an image plays, by the stage.
pub left_plays : (w : Writing) (now image : Option File) → IsLeft w now → IsLeftBeside w now image → PlaysAt w.stage w (contents now) (bytes_of image)
left_plays w now image left beside = go w.stage left.is_at beside
  where
    go : (s : Stage) → IsWriterAt s w (contents now) → BesideAt s w.at now image → PlaysAt s w (contents now) (bytes_of image)
    go New is at = absurd at
    go Filling is at =
        let front = front_of w.at (w.at + 1) (contents image) (contents now) (omega arith) at.bytes in
        let gate = index_same w.at (w.at + 1) (contents image) (contents now) at.bytes (omega arith) ∙ is.gate in
        plays_there image (λ j. PlaysFirst w.at w.page_size w.initial (earlier_records w (contents now)) j) (there_of now image at.number left.there)
        (filling_plays w (contents now) (contents image) left.small is.written front (zero_closed w.at (contents image) gate))
    go Opened is at =
        subst (λ (f : Option File). Plays w.page_size w.initial (all_records w (contents now)) (bytes_of f)) (sym at)
        (plays_there now (λ j. Plays w.page_size w.initial (all_records w (contents now)) j) left.there
        (opened_plays w (contents now) (contents now) left.small is refl (omega (arith, is.written.ends, rounded_high (end_at w)))))
    go Closed is at =
        let gate = index_same 0 1 (contents image) (contents now) at.bytes (omega arith) ∙ is.gate in
        plays_there image (λ j. PlaysNone j) (there_of now image at.number left.there) (λ main. no_header_cold main (contents image) (zero_closed 0 (contents image) gate))

-- Two journals that play the same: beside one Main, all that one is recovered to, so is the other.
plays_alike : (size initial : ℕ) (records : List Record) (main : List ℕ) (one two : Option (List ℕ)) (file : List ℕ) → Plays size initial records one → Plays size initial records two → RecoversTo size (Some main) one file → RecoversTo size (Some main) two file
plays_alike size initial records main one two file p q is =
    subst (λ (j : Option (List ℕ)). RecoversTo size (Some main) j file) (sym q.there) (go (subst (λ (j : Option (List ℕ)). RecoversTo size (Some main) j file) p.there is) (either (is_hot main p.bytes)) (either (is_hot main q.bytes)))
  where
    go : RecoversTo size (Some main) (Some p.bytes) file → (is_hot main p.bytes ≡ true) ⊎ (is_hot main p.bytes ≡ false) → (is_hot main q.bytes ≡ true) ⊎ (is_hot main q.bytes ≡ false) → RecoversTo size (Some main) (Some q.bytes) file
    go was (inl hot) still =
        let played_is = from_hot size main p.bytes file hot was in
        to_hot size main q.bytes file (q.hot main (hot_byte main p.bytes hot)) (record {
          page_size = q.page_size;
          no_super = q.no_super;
          plays = subst (λ (n : ℕ). PlaysTo size (n * size) (played size q.bytes) main file) (p.pages ∙ sym q.pages)
              (subst (λ (rs : List Record). PlaysTo size (initial_at 0 p.bytes * size) rs main file) (p.plays ∙ sym q.plays) played_is.plays);
        })
    go was (inr cold) (inl hot) = absurd (let e = p.hot main (hot_byte main q.bytes hot) in cc)
    go was (inr cold) (inr still) = to_cold size main q.bytes file still (from_cold size main p.bytes file cold was)

none_to : (size : ℕ) (main : List ℕ) (journal : Option (List ℕ)) (file : List ℕ) → PlaysNone journal → RecoversTo size (Some main) journal file → file ≡ main
none_to size main None file none is = is
none_to size main (Some journal) file none is = from_cold size main journal file (none main) is

none_from : (size : ℕ) (main : List ℕ) (journal : Option (List ℕ)) (file : List ℕ) → PlaysNone journal → file ≡ main → RecoversTo size (Some main) journal file
none_from size main None file none is = is
none_from size main (Some journal) file none is = to_cold size main journal file (none main) is

recovers_alike : (size initial at : ℕ) (records : List Record) (main one two : Option (List ℕ)) (file : List ℕ) → PlaysFirst at size initial records one → PlaysFirst at size initial records two → RecoversTo size main one file → RecoversTo size main two file
recovers_alike size initial at records None one two file p q is = is
recovers_alike size initial zero records (Some main) one two file p q is = none_from size main two file q (none_to size main one file p is)
recovers_alike size initial (suc at) records (Some main) one two file p q is = plays_alike size initial records main one two file p q is

-- beside one Main, images whose journals play the same are recovered alike
pub keeps_alike : (size initial at : ℕ) (records : List Record) (d c : Files) → SameOthers d c → PlaysFirst at size initial records (bytes_of d.journal) → PlaysFirst at size initial records (bytes_of c.journal) → PlaysAsBefore size d c
keeps_alike size initial at records d c same p q = record {
  same = same;
  recovers = record {
    no_other = λ file is. recovers_alike size initial at records (bytes_of d.main) (bytes_of c.journal) (bytes_of d.journal) file q p (subst (λ (m : Option File). RecoversTo size (bytes_of m) (bytes_of c.journal) file) same.main is);
    still = λ file is. (file, subst (λ (m : Option File). RecoversTo size (bytes_of m) (bytes_of c.journal) file) (sym same.main) (recovers_alike size initial at records (bytes_of d.main) (bytes_of d.journal) (bytes_of c.journal) file p q is));
    fresh = same.fresh;
  };
}

pub as_before_none : (size : ℕ) (d : Files) → PlaysAsBefore size d d
as_before_none size d = record { same = record { main = refl; fresh = refl }; recovers = record { no_other = λ file is. is; still = λ file is. (file, is); fresh = refl } }

pub as_before_joins : (size : ℕ) (a b c : Files) → PlaysAsBefore size a b → PlaysAsBefore size b c → PlaysAsBefore size a c
as_before_joins size a b c one two = record {
  same = record { main = two.same.main ∙ one.same.main; fresh = two.same.fresh ∙ one.same.fresh };
  recovers = record {
    no_other = λ file is. one.recovers.no_other file (two.recovers.no_other file is);
    still = λ file is. let mid = one.recovers.still file is in two.recovers.still mid.0 mid.1;
    fresh = two.recovers.fresh ∙ one.recovers.fresh;
  };
}

-- a write behind the front leaves it
pub front_step : (front at n : ℕ) (now new d c : Option File) → front ≤ length (contents now) → front ≤ at → HasFront front now d → MayStep (Torn at n) new d c → HasFront front now c
front_step front at n now new d c long low has (inl same) = subst (λ (f : Option File). HasFront front now f) (sym same) has
front_step front at n now new d c long low has (inr s) =
    let was : contents d ≡ s.before = ap contents s.was in
    let is : contents c ≡ s.after = ap contents s.is in
    record {
      number = step_number (Torn at n) new d c (inr s) ∙ has.number;
      bytes = ap (λ (l : List ℕ). take front l) is
          ∙ torn_front front at n s.before s.after s.took low (subst (λ (l : List ℕ). front ≤ length l) was (front_long front (contents d) (contents now) has.bytes long))
          ∙ ap (λ (l : List ℕ). take front l) (sym was)
          ∙ has.bytes;
    }
