-- Where no image at the start has a Main or a Journal: what a run leaves that may put a new file there.
use Rattle.std.specs.Prelude.{◌≡◌, ◌⊎◌, ℕ, List, Option, Some, None}
use Rattle.edge_model.specs.Files.{File, Files, bytes_of}
use Rattle.edge_model.specs.Images.{Each, LeavesOnly}
use Rattle.edge_model.specs.Moments.{weaker}
use Rattle.fresh_disk.specs.OnlyFresh.{IsOld}
use Rattle.fresh_disk.specs.Published.{IsAlone, IsOldOrPublished, IsPublished}
use Rattle.fresh_disk.specs.Place.{TakesPlace, LeavesOld, MayTakePlace}
use Rattle.std.proofs.Common.{inl, inr, ap, ◌∙◌}

-- the image has neither
pub record HasNeither (image : Files) : Type 0 where
  pub main : image.main ≡ None
  pub journal : image.journal ≡ None

-- no Main, or this file as Main and no Journal
abbrev pub IsNoneOrNew : List ℕ → Files → Type 0
IsNoneOrNew file image = (image.main ≡ None) ⊎ IsAlone file image

old_is_none : (images : Files → Type 0) → Each images HasNeither → (image : Files) → IsOld images image → image.main ≡ None
old_is_none images free image from = from.2.main ∙ (free from.0 from.1).main

published_is_new : (images : Files → Type 0) → Each images HasNeither → (file : File) (image : Files) → IsPublished images (Some file) image → IsAlone file.bytes image
published_is_new images free file image at =
    record { main = ap (λ (f : Option File). bytes_of f) at.main; journal = at.journal ∙ (free at.was at.is_image).journal }

none_or_new : (images : Files → Type 0) → Each images HasNeither → (file : File) (image : Files) → IsOldOrPublished images (Some file) image → IsNoneOrNew file.bytes image
none_or_new images free file image (inl from) = inl (old_is_none images free image from)
none_or_new images free file image (inr at) = inr (published_is_new images free file image at)

module _ {D : Type 0} {images : D → Files → Type 0} {moment : D → ℕ} {since : D → ℕ → Files → Type 0} {old new : D} (free : Each (images old) HasNeither) where
  -- at each moment an image has none, or the one new file and no journal
  pub may_be : {is_new : List ℕ → Type 0} → (may : MayTakePlace images moment since is_new old new) → LeavesOnly moment since old new (IsNoneOrNew may.file.bytes)
  may_be may = weaker (none_or_new (images old) free may.file) may.any_moment

  module _ {reads : D → Files} where
    -- at no moment an image has a Main
    pub never : LeavesOld reads images moment since old new → LeavesOnly moment since old new (λ image. image.main ≡ None)
    never stays = weaker (old_is_none (images old) free) stays.any_moment

    -- at the end each image has that file and no journal
    pub is_at_exit : {is_new : List ℕ → Type 0} → (there : TakesPlace reads images moment since is_new old new) → Each (images new) (IsAlone there.may.file.bytes)
    is_at_exit there image now = published_is_new (images old) free there.may.file image (there.at_exit image now)
