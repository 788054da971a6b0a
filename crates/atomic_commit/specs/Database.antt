-- A database is the list of its stored pages. An image holds one where it recovers to no file with other pages.
use Rattle.std.specs.Prelude.{ℕ, zero, suc, ◌≡◌, ◌⊎◌, Bool, true, List, [], ◌∷◌, length, take, drop, Option, None}
use Rattle.edge_model.specs.Files.{File, Files, contents}
use Rattle.rollback_journal.specs.Laying.{page_start}
use Rattle.rollback_journal.specs.Recovery.{Recovers}

-- so many stored pages from the start of a file on
abbrev pub stored_pages : ℕ → ℕ → List ℕ → List (List ℕ)
stored_pages size zero file = []
stored_pages size (suc n) file = take size file ∷ stored_pages size n (drop size file)

-- the stored page with a number; pages are numbered from 1
abbrev pub stored_page : ℕ → ℕ → List ℕ → List ℕ
stored_page size n file = take size (drop (page_start size n) file)

-- What a transaction starts from: the size of a page, how many pages there are, and Main as it reads. `counts` says at
-- which lengths a file that begins with the same page 1 has so many pages.
pub record Base : Type 0 where
  pub size : ℕ
  pub pages : ℕ
  pub start : List ℕ
  pub counts : ℕ → Bool

abbrev pub old_pages : Base → List (List ℕ)
old_pages base = stored_pages base.size base.pages base.start

-- the file has exactly these pages
pub record IsDatabase (base : Base) (db : List (List ℕ)) (file : List ℕ) : Type 0 where
  pub pages_are : stored_pages base.size base.pages file ≡ db
  pub counted : base.counts (length file) ≡ true

-- the image recovers to some file, and each such file has exactly these pages
pub record HoldsPages (base : Base) (db : List (List ℕ)) (image : Files) : Type 0 where
  pub some : (file : List ℕ) × Recovers base.size image file
  pub only : (file : List ℕ) → Recovers base.size image file → IsDatabase base db file

-- the database from before
abbrev pub HoldsOld : Base → Files → Type 0
HoldsOld base image = HoldsPages base (old_pages base) image

-- the database from before, or this one
abbrev pub HoldsEither : Base → List (List ℕ) → Files → Type 0
HoldsEither base db image = HoldsOld base image ⊎ HoldsPages base db image

-- after a commit: Main is this file, no journal is there, and its pages alone are recovered
pub record IsAfterCommit (base : Base) (main : Option File) (image : Files) : Type 0 where
  pub main_is : image.main ≡ main
  pub no_journal : image.journal ≡ None
  pub holds : HoldsPages base (stored_pages base.size base.pages (contents main)) image
