-- Which databases the images of a disk hold.
use Rattle.std.specs.Prelude.{◌≡◌, ◌⊎◌, ℕ, List, [], ◌∷◌}
use Rattle.edge_model.specs.Files.{Files}
use Rattle.page_codec.specs.Page.{FileKeys}
use Rattle.rollback_journal.specs.Recovery.{Recovers}
use Rattle.pager.specs.Database.{Stored, database}
use Rattle.session_play.specs.Moments.{DiskTold, disk_told}

-- a database, and the keys under which it is one
pub record Held : Type 0 where
  pub keys : FileKeys
  pub stored : Stored

-- the image recovers to some file, and each such file has this database
pub record HoldsOnly (held : Held) (image : Files) : Type 0 where
  pub some : (file : List ℕ) × Recovers held.keys.profile.page_size image file
  pub only : (file : List ℕ) → Recovers held.keys.profile.page_size image file → database held.keys file ≡ held.stored

-- the database of this file under its keys
abbrev pub held_by : FileKeys → List ℕ → Held
held_by keys file = record { keys = keys; stored = database keys file }

-- the image holds one of these alone
abbrev pub HoldsOneOf : List Held → Files → Type 0
HoldsOneOf [] image = ⊥
HoldsOneOf (held ∷ more) image = HoldsOnly held image ⊎ HoldsOneOf more image

-- all are of pages of this size
abbrev pub AreOfSize : ℕ → List Held → Type 0
AreOfSize size [] = Unit {0}
AreOfSize size (held ∷ more) = (held.keys.profile.page_size ≡ size) × AreOfSize size more

-- A run as its disk shows it: what is read before and after it, what a crash might leave at the start, at the exit, and at
-- some moment from the start on.
pub record DiskRun : Type 1 where
  pub before : Files
  pub after : Files
  pub at_start : Files → Type 0
  pub at_exit : Files → Type 0
  pub ever : Files → Type 0
  -- the disk itself, from its first value to its last, and what it tells
  pub device : Type 0
  pub told : DiskTold device
  pub from : device
  pub to : device

abbrev pub disk_run : {D : Type 0} → (D → Files) → (D → Files → Type 0) → (D → ℕ) → (D → ℕ → Files → Type 0) → D → D → DiskRun
disk_run {D} reads images moment since old new = record {
  before = reads old;
  after = reads new;
  at_start = images old;
  at_exit = images new;
  ever = since new (moment old);
  device = D;
  told = disk_told reads images moment since;
  from = old;
  to = new;
}
