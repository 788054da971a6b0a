-- The pins of a path.
use Rattle.std.specs.Prelude.{ℕ, List, ◌==◌, count_by}
use Rattle.btree_walk.specs.declared.path.Frame.{Frame}

-- each page of the path has one pin, and no other page has any
abbrev pub path_pins : List Frame → ℕ → ℕ
path_pins frames n = count_by (λ (frame : Frame). n == frame.page) frames
