-- A new file in the place of Main.
use Rattle.std.specs.Prelude.{◌≡◌, ◌⊎◌, ℕ, List, Option, Some, None}
use Rattle.edge_model.specs.Files.{File, Files, bytes_of}
use Rattle.fresh_disk.specs.OnlyFresh.{IsOld}

-- Main is this file, and Journal is as in one of these images
pub record IsPublished (images : Files → Type 0) (file : Option File) (image : Files) : Type 0 where
  pub was : Files
  pub is_image : images was
  pub main : image.main ≡ file
  pub journal : image.journal ≡ was.journal

abbrev pub IsOldOrPublished : (Files → Type 0) → Option File → Files → Type 0
IsOldOrPublished images file image = IsOld images image ⊎ IsPublished images file image

-- Main has exactly these bytes, and there is no Journal: so these bytes are what the image recovers to
pub record IsAlone (bytes : List ℕ) (image : Files) : Type 0 where
  pub main : bytes_of image.main ≡ Some bytes
  pub journal : image.journal ≡ None

-- the old files, or the new one
abbrev pub IsOldOrNew : (Files → Type 0) → List ℕ → Files → Type 0
IsOldOrNew images bytes image = IsOld images image ⊎ IsAlone bytes image
