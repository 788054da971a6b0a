-- The calls of a disk in memory, gone through again.
use Rattle.std.specs.Prelude.{◌≡◌, List}
use Rattle.edge_model.specs.Files.{Files}
use Rattle.edge_memory.specs.Log.{reads_after}
use Rattle.edge_memory.specs.Picks.{bare_after, lost_after, torn_after}
use Rattle.edge_memory.specs.Image.{image_files}
use Rattle.edge_memory.specs.declared.mem_disk.contents.Call.{Call}
use Rattle.edge_memory.specs.declared.mem_disk.replay.Replay.{Replay}

-- after these calls, the newest first
pub record IsAfter (start : Files) (calls : List Call) (replay : Replay) : Type 0 where
  pub now : image_files replay.now ≡ reads_after start calls
  pub bare : image_files replay.bare ≡ bare_after start calls
  pub lost : image_files replay.lost ≡ lost_after start calls
  pub torn : image_files replay.torn ≡ torn_after start calls
