use Rattle.std.proofs.Common.{◌≡◌, ℕ, ◌≤◌, ◌+◌, length}
use Rattle.std.specs.HashMap.{spare}
use Rattle.std.specs.Option.{option_or}
use Rattle.page_cache.specs.Index.{named, room}
use Rattle.page_cache.specs.Frames.{HaveDistinctPages, frame_at}
use Rattle.page_cache.proofs.index.Index.rebuild.Given as goal

abbrev pub invariant-loop-frame : goal.invariant-loop-frame
invariant-loop-frame l =
    (goal.iterator-loop-frame).can_next l.frame-iterator ×
    (goal.iterator-loop-frame).is_finite l.frame-iterator ×
    HaveDistinctPages l.frame-iterator ×
    (room l.initial.self.frames ≤ room l.self.frames) ×
    (room l.initial.self.frames + length l.frame-iterator ≤ spare l.self.frames + length l.fn.table.entries) ×
    ((m : ℕ) → frame_at m l.fn.table.entries ≡ option_or (frame_at m l.frame-iterator) (named l.self.frames m))
