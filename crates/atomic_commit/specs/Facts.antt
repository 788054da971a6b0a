-- What a transaction keeps from the making of its journal to the closing of it. No codec is named: all of it is of stored
-- bytes.
use Rattle.std.specs.Prelude.{ℕ, ◌*◌, ◌≡◌, ◌≢◌, ◌⊎◌, ◌<◌, ◌≤◌, true, List, [], ◌∷◌, ◌++◌, length, get_or, None}
use Rattle.edge_model.specs.Files.{Files, bytes_of, number_of, main_of}
use Rattle.journal_format.specs.Records.{Record}
use Rattle.rollback_journal.specs.Laying.{IsGivenByte}
use Rattle.rollback_journal.specs.Playing.{journal_of}
use Rattle.atomic_commit.specs.Database.{Base, stored_page, HoldsOld}
use Rattle.atomic_commit.specs.Journals.{PlaysJust}

-- each record is of a page of the database, and holds the stored bytes that the page had at the start
abbrev pub AreOld : Base → List Record → Type 0
AreOld base [] = Unit {0}
AreOld base (entry ∷ rest) = (1 ≤ entry.page) × (entry.page ≤ base.pages)
    × (entry.image ≡ stored_page base.size entry.page base.start) × AreOld base rest

-- no record is of this page
abbrev pub HasNone : ℕ → List Record → Type 0
HasNone page [] = Unit {0}
HasNone page (entry ∷ rest) = (entry.page ≢ page) × HasNone page rest

-- no page has two records
abbrev pub HaveOneEach : List Record → Type 0
HaveOneEach [] = Unit {0}
HaveOneEach (entry ∷ rest) = HasNone entry.page rest × HaveOneEach rest

-- one of the records is of this page
abbrev pub HasRecord : ℕ → List Record → Type 0
HasRecord page [] = ⊥
HasRecord page (entry ∷ rest) = (entry.page ≡ page) ⊎ HasRecord page rest

-- numbers that hold of a transaction whatever the disk tells
pub record IsBase (base : Base) : Type 0 where
  pub size : 0 < base.size
  pub pages : 0 < base.pages
  pub within : base.pages * base.size ≤ length base.start
  pub whole : base.counts (base.pages * base.size) ≡ true

-- Main has all pages, and a length at which these are all
pub record HasPages (base : Base) (main : List ℕ) : Type 0 where
  pub long : base.pages * base.size ≤ length main
  pub counted : base.counts (length main) ≡ true

-- each byte that differs from the start is given by one of these records
abbrev pub DiffersBehind : Base → List Record → List ℕ → Type 0
DiffersBehind base records main = (i : ℕ) → i < base.pages * base.size →
    IsGivenByte base.size records i ⊎ (get_or main i 0 ≡ get_or base.start i 0)

-- An image from which the old database is recovered: facts 2, 3 and 4 of one image.
pub record IsGuarded (base : Base) (records : List Record) (image : Files) : Type 0 where
  pub pages : HasPages base (main_of image)
  pub differs : DiffersBehind base records (main_of image)
  pub plays : PlaysJust base.size base.pages records (bytes_of image.journal)

-- The facts. `safe` are the records behind open gates, `waiting` those behind the closed one.
pub record Facts (base : Base) (safe waiting : List Record) (now : Files) (images : Files → Type 0) : Type 0 where
  pub base_is : IsBase base
  -- each record holds what its page had, and no page has two
  pub old_bytes : AreOld base (safe ++ waiting)
  pub one_each : HaveOneEach (safe ++ waiting)
  -- each image has all pages; a byte that differs stands in a page whose record is behind an open gate; the journal plays those
  -- records
  pub guarded : (c : Files) → images c → IsGuarded base safe c
  -- Main is one file under one name: what is written to it now is written to it in each image
  pub same_file : (c : Files) → images c → number_of c.main ≡ number_of now.main

-- the facts of the journal as it reads, by a writer's two lists
abbrev pub HasFacts : Base → (List ℕ → List Record) → (List ℕ → List Record) → Files → (Files → Type 0) → Type 0
HasFacts base safe waiting now images = Facts base (safe (journal_of now)) (waiting (journal_of now)) now images

-- Before the journal is made: no image has one, and each holds the database.
pub record IsCommitBegun (base : Base) (images : Files → Type 0) : Type 0 where
  pub base_is : IsBase base
  pub no_journal : (c : Files) → images c → c.journal ≡ None
  pub holds : (c : Files) → images c → HoldsOld base c

-- Fresh is as it was
abbrev pub SameFresh : Files → Files → Type 0
SameFresh old new = new.fresh ≡ old.fresh
