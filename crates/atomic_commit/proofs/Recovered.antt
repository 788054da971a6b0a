-- From the facts, each image recovers to the old database.
use Rattle.std.proofs.Common.{◌≡◌, ◌⊎◌, inl, inr, ⊎_elim, ℕ, ◌+◌, ◌-◌, ◌*◌, ◌<◌, ◌≤◌, List, [], ◌∷◌, ◌++◌, length, take, drop, get_or, Option, Some, None, refl, sym, ◌∙◌, ap, subst, arith, length-append, length-drop}
use Rattle.std.proofs.lemmas.List.{get_or-take, get_or-drop, length-take}
use Rattle.std.proofs.Math.ListN.{get_or-append}
use Rattle.edge_model.specs.Files.{File, Files, bytes_of, written, contents, main_of}
use Rattle.edge_model.specs.Bytes.{torn_written}
use Rattle.journal_format.specs.Records.{Record}
use Rattle.journal_format.specs.Segments.{played}
use Rattle.rollback_journal.specs.Laying.{page_start, laid, IsGivenByte, AreSized, PlaysTo}
use Rattle.rollback_journal.specs.Recovery.{RecoversTo, Recovers}
use Rattle.rollback_journal.proofs.Laid.{written_byte, laid_reach, plays_zeros}
use Rattle.rollback_journal.proofs.Played.{page_end}
use Rattle.rollback_journal.proofs.Kept.{from_hot, to_hot, from_cold, to_cold}
use Rattle.std.proofs.Math.Nat.{mul-pos}
use Rattle.atomic_commit.specs.Database.{Base, stored_page, old_pages, IsDatabase, HoldsOld}
use Rattle.atomic_commit.specs.Journals.{PlaysJust}
use Rattle.rollback_journal.specs.Plays.{Plays, PlaysNone}
use Rattle.atomic_commit.specs.Facts.{AreOld, HasPages, DiffersBehind, IsBase, IsGuarded, Facts}
use Rattle.atomic_commit.proofs.Pages.{same_pages}

order : (a b : ℕ) → (a < b) ⊎ (b ≤ a)
order a b = search arith

old_size : (base : Base) (n : ℕ) → IsBase base → 1 ≤ n → n ≤ base.pages → length (stored_page base.size n base.start) ≡ base.size
old_size base n is one le = omega (arith, length-take base.size (drop (page_start base.size n) base.start), length-drop (page_start base.size n) base.start, page_end base.size n base.pages one le, is.within)

-- the records of old bytes are whole pages of the database
pub old_sized : (base : Base) (records : List Record) → IsBase base → AreOld base records → AreSized base.size (base.pages * base.size) records
old_sized base [] is old = tt
old_sized base (entry ∷ rest) is old = (ap length old.2 ∙ old_size base entry.page is old.0 old.1, page_end base.size entry.page base.pages old.0 old.1, old_sized base rest is old.3)

-- a byte of the image is the byte of the start
old_byte : (base : Base) (n i : ℕ) → page_start base.size n ≤ i → i < page_start base.size n + base.size → get_or (stored_page base.size n base.start) (i - page_start base.size n) 0 ≡ get_or base.start i 0
old_byte base n i from to =
    get_or-take base.size (drop (page_start base.size n) base.start) (i - page_start base.size n) 0 (omega arith)
    ∙ get_or-drop (page_start base.size n) base.start (i - page_start base.size n) 0
    ∙ ap (λ (k : ℕ). get_or base.start k 0) (let e : page_start base.size n + (i - page_start base.size n) ≡ i = omega arith in e)

-- an old image laid over a file: the byte is the old one where it was, and where the image gives it
one_laid : (base : Base) (entry : Record) (file : List ℕ) (i : ℕ) → length entry.image ≡ base.size → entry.image ≡ stored_page base.size entry.page base.start → i < length file
    → ((page_start base.size entry.page ≤ i) × (i < page_start base.size entry.page + base.size)) ⊎ (get_or file i 0 ≡ get_or base.start i 0)
    → get_or (written (page_start base.size entry.page) entry.image file) i 0 ≡ get_or base.start i 0
one_laid base entry file i sized old in_file (inl here) =
    written_byte (page_start base.size entry.page) entry.image file i here.0 (omega (arith, here.1, sized))
    ∙ ap (λ (l : List ℕ). get_or l (i - page_start base.size entry.page) 0) old
    ∙ old_byte base entry.page i here.0 here.1
one_laid base entry file i sized old in_file (inr same) = go (order i (page_start base.size entry.page)) (order i (page_start base.size entry.page + base.size))
  where
    go : (i < page_start base.size entry.page) ⊎ (page_start base.size entry.page ≤ i) → (i < page_start base.size entry.page + base.size) ⊎ (page_start base.size entry.page + base.size ≤ i)
        → get_or (written (page_start base.size entry.page) entry.image file) i 0 ≡ get_or base.start i 0
    go (inl before) any = (torn_written (page_start base.size entry.page) entry.image file).below i in_file before ∙ same
    go (inr from) (inl to) =
        written_byte (page_start base.size entry.page) entry.image file i from (omega (arith, to, sized))
        ∙ ap (λ (l : List ℕ). get_or l (i - page_start base.size entry.page) 0) old
        ∙ old_byte base entry.page i from to
    go (inr from) (inr behind) = (torn_written (page_start base.size entry.page) entry.image file).above i in_file (omega (arith, behind, sized)) ∙ same

-- old images laid over a file: so for all of them, however often a page has one
pub laid_old : (base : Base) (records : List Record) (file : List ℕ) (i : ℕ) → IsBase base → AreOld base records → i < length file → IsGivenByte base.size records i ⊎ (get_or file i 0 ≡ get_or base.start i 0)
    → get_or (laid base.size records file) i 0 ≡ get_or base.start i 0
laid_old base [] file i is old in_file (inl given) = absurd given
laid_old base [] file i is old in_file (inr same) = same
laid_old base (entry ∷ rest) file i is old in_file given =
    laid_old base rest (written (page_start base.size entry.page) entry.image file) i is old.3 (omega (arith, in_file, (torn_written (page_start base.size entry.page) entry.image file).no_shorter)) (go given)
  where
    sized : length entry.image ≡ base.size
    sized = ap length old.2 ∙ old_size base entry.page is old.0 old.1

    go : IsGivenByte base.size (entry ∷ rest) i ⊎ (get_or file i 0 ≡ get_or base.start i 0)
        → IsGivenByte base.size rest i ⊎ (get_or (written (page_start base.size entry.page) entry.image file) i 0 ≡ get_or base.start i 0)
    go (inl (inl here)) = inr (one_laid base entry file i sized old.2 in_file (inl here))
    go (inl (inr later)) = inl later
    go (inr same) = inr (one_laid base entry file i sized old.2 in_file (inr same))

-- what such a Main is played to
played_old : (base : Base) (records : List Record) (main file : List ℕ) → IsBase base → AreOld base records → HasPages base main → DiffersBehind base records main
    → PlaysTo base.size (base.pages * base.size) records main file → IsDatabase base (old_pages base) file
played_old base records main file is old pages differs plays = record {
  pages_are = same_pages base.size base.pages file base.start (omega (arith, size_is)) is.within (λ i lt.
      ap (λ (l : List ℕ). get_or l i 0) plays.is
      ∙ get_or-take (base.pages * base.size) (laid base.size records (main ++ plays.fill)) i 0 lt
      ∙ laid_old base records (main ++ plays.fill) i is old (omega (arith, lt, long))
      (⊎_elim (λ given. inl given) (λ same. inr (get_or-append main plays.fill 0 i (omega (arith, lt, pages.long)) ∙ same)) (differs i lt)));
  counted = ap base.counts size_is ∙ is.whole;
}
  where
    long : base.pages * base.size ≤ length (main ++ plays.fill)
    long = omega (arith, length-append main plays.fill, pages.long)

    size_is : length file ≡ base.pages * base.size
    size_is =
        ap length plays.is
        ∙ (let e : length (take (base.pages * base.size) (laid base.size records (main ++ plays.fill))) ≡ base.pages * base.size =
        omega (arith, length-take (base.pages * base.size) (laid base.size records (main ++ plays.fill)), laid_reach base.size (base.pages * base.size) records (main ++ plays.fill) is.size (old_sized base records is old), long) in e)

pub some_main : (file : Option File) → 0 < length (contents file) → bytes_of file ≡ Some (contents file)
some_main None some = absurd (omega (arith, some))
some_main (Some file) some = refl

from_image : (size : ℕ) (image : Files) (main : List ℕ) (journal : Option (List ℕ)) (file : List ℕ) → bytes_of image.main ≡ Some main → bytes_of image.journal ≡ journal → Recovers size image file → RecoversTo size (Some main) journal file
from_image size image main journal file m j is = subst (λ (x : Option (List ℕ)). RecoversTo size x journal file) m (subst (λ (x : Option (List ℕ)). RecoversTo size (bytes_of image.main) x file) j is)

to_image : (size : ℕ) (image : Files) (main : List ℕ) (journal : Option (List ℕ)) (file : List ℕ) → bytes_of image.main ≡ Some main → bytes_of image.journal ≡ journal → RecoversTo size (Some main) journal file → Recovers size image file
to_image size image main journal file m j is = subst (λ (x : Option (List ℕ)). RecoversTo size (bytes_of image.main) x file) (sym j) (subst (λ (x : Option (List ℕ)). RecoversTo size x journal file) (sym m) is)

nothing_given : (size i : ℕ) {A : Type 0} → IsGivenByte size [] i ⊎ A → A
nothing_given size i (inl given) = absurd given
nothing_given size i (inr a) = a

-- beside no journal, or a cold one, an image recovers to its Main
pub main_alone : (size : ℕ) (image : Files) → bytes_of image.main ≡ Some (main_of image) → PlaysNone (bytes_of image.journal) → Recovers size image (main_of image) × ((file : List ℕ) → Recovers size image file → file ≡ main_of image)
main_alone size image main_is none = go (bytes_of image.journal) refl none
  where
    go : (journal : Option (List ℕ)) → bytes_of image.journal ≡ journal → PlaysNone journal → Recovers size image (main_of image) × ((file : List ℕ) → Recovers size image file → file ≡ main_of image)
    go None is none = (to_image size image (main_of image) None (main_of image) main_is is refl, λ file recovers. from_image size image (main_of image) None file main_is is recovers)
    go (Some journal) is none = (
      to_image size image (main_of image) (Some journal) (main_of image) main_is is (to_cold size (main_of image) journal (main_of image) (none (main_of image)) refl),
      λ file recovers. from_cold size (main_of image) journal file (none (main_of image)) (from_image size image (main_of image) (Some journal) file main_is is recovers),
    )

-- the first of two lists of records
pub old_front : (base : Base) (some more : List Record) → AreOld base (some ++ more) → AreOld base some
old_front base [] more old = tt
old_front base (entry ∷ rest) more old = (old.0, old.1, old.2, old_front base rest more old.3)

module _ (base : Base) (records : List Record) (image : Files) (is : IsBase base) (old : AreOld base records) (guarded : IsGuarded base records image) where
  main_long : 0 < length (main_of image)
  main_long = omega (arith, guarded.pages.long, mul-pos is.pages is.size)

  main_is : bytes_of image.main ≡ Some (main_of image)
  main_is = some_main image.main main_long

  -- where a hot journal plays them
  hot_old : (p : Plays base.size base.pages records (bytes_of image.journal)) (file : List ℕ) → Recovers base.size image file → IsDatabase base (old_pages base) file
  hot_old p file recovers =
      let is_played = from_hot base.size (main_of image) p.bytes file (p.hot (main_of image) main_long) (from_image base.size image (main_of image) (Some p.bytes) file main_is p.there recovers) in
      played_old base records (main_of image) file is old guarded.pages guarded.differs
      (subst (λ (rs : List Record). PlaysTo base.size (base.pages * base.size) rs (main_of image) file) p.plays (subst (λ (n : ℕ). PlaysTo base.size (n * base.size) (played base.size p.bytes) (main_of image) file) p.pages is_played.plays))

  hot_some : (p : Plays base.size base.pages records (bytes_of image.journal)) → (file : List ℕ) × Recovers base.size image file
  hot_some p =
      let zeros = plays_zeros base.size (base.pages * base.size) records (main_of image) is.size (old_sized base records is old) in
      let file = take (base.pages * base.size) (laid base.size records (main_of image)) in (
        file,
        to_image base.size image (main_of image) (Some p.bytes) file main_is p.there (to_hot base.size (main_of image) p.bytes file (p.hot (main_of image) main_long) (record {
          page_size = p.page_size;
          no_super = p.no_super;
          plays = subst (λ (n : ℕ). PlaysTo base.size (n * base.size) (played base.size p.bytes) (main_of image) file) (sym p.pages) (subst (λ (rs : List Record). PlaysTo base.size (base.pages * base.size) rs (main_of image) file) (sym p.plays) zeros);
        })),
      )

  -- where no journal is played, nothing differs
  cold_old : records ≡ [] → IsDatabase base (old_pages base) (main_of image)
  cold_old none = record {
    pages_are = same_pages base.size base.pages (main_of image) base.start guarded.pages.long is.within (λ i lt. nothing_given base.size i (differs_none i lt));
    counted = guarded.pages.counted;
  }
    where
      differs_none : (i : ℕ) → i < base.pages * base.size → IsGivenByte base.size [] i ⊎ (get_or (main_of image) i 0 ≡ get_or base.start i 0)
      differs_none i lt = subst (λ (rs : List Record). IsGivenByte base.size rs i ⊎ (get_or (main_of image) i 0 ≡ get_or base.start i 0)) none (guarded.differs i lt)

  -- the old database is recovered of an image with the facts
  pub holds_old : HoldsOld base image
  holds_old = by_journal guarded.plays
    where
      by_journal : PlaysJust base.size base.pages records (bytes_of image.journal) → HoldsOld base image
      by_journal (inl p) = record { some = hot_some p; only = hot_old p }
      by_journal (inr cold) =
          let alone = main_alone base.size image main_is cold.1 in
          record { some = (main_of image, alone.0); only = λ file recovers. subst (λ (f : List ℕ). IsDatabase base (old_pages base) f) (sym (alone.1 file recovers)) (cold_old cold.0) }

-- The one theorem: from the facts, each image recovers to the old database.
pub facts_hold_old : (base : Base) (safe waiting : List Record) (now : Files) (images : Files → Type 0) → Facts base safe waiting now images → (c : Files) → images c → HoldsOld base c
facts_hold_old base safe waiting now images facts c here = holds_old base safe c facts.base_is (old_front base safe waiting facts.old_bytes) (facts.guarded c here)
