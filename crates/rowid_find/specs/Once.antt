-- Pages that are met once.
use Rattle.std.specs.Prelude.{ℕ, Bool, true, not, ◌&&◌, List, [], ◌∷◌, if◌then◌else◌}
use Rattle.db_format.specs.declared.defect.Defect.TheVariants.{PageTwice}
use Rattle.db_format.specs.Pages.{Test, also}
use Rattle.btree_model.specs.Finding.{Finding, place, leaf, entry, key, fault, refused}

-- none of these pages was met before, and none of them comes twice
abbrev pub are_new : Test → List ℕ → Bool
are_new met [] = true
are_new met (n ∷ ns) = not (met n) && are_new (also (n ∷ []) met) ns

-- These findings, up to a page that was met before: that is a defect, and nothing comes behind it.
abbrev pub once : Test → List Finding → List Finding
once met [] = []
once met (place n ∷ rest) = place n ∷ (if met n then fault (PageTwice n) ∷ [] else once (also (n ∷ []) met) rest)
once met (leaf n ∷ rest) = leaf n ∷ (if met n then fault (PageTwice n) ∷ [] else once (also (n ∷ []) met) rest)
once met (entry row ∷ rest) = entry row ∷ once met rest
once met (key k ∷ rest) = key k ∷ once met rest
once met (fault d ∷ rest) = fault d ∷ once met rest
once met (refused n ∷ rest) = refused n ∷ once met rest
