-- What contracts see of a disk in memory.
use Rattle.std.specs.Prelude.{◌≡◌, ℕ, Bool, false, List}
use Rattle.edge_model.specs.Files.{Files}
use Rattle.edge_memory.specs.Gate.{CallCounts, IsCounted}
use Rattle.edge_memory.specs.Log.{files_of, next_number, reads_after, ImagesAfter, newest_first}
use Rattle.edge_memory.specs.Picks.{picked}
use Rattle.edge_memory.specs.declared.mem_disk.contents.Call.{Call}
use Rattle.edge_memory.specs.declared.mem_disk.MemDisk.{MemDisk}
use Rattle.edge_memory.specs.declared.pick.ImagePick.{ImagePick}

-- the files at the start, and the calls that were done since, the newest first
pub record History : Type 0 where
  pub start : Files
  pub calls : List Call

abbrev pub mem_history : MemDisk → History
mem_history m = record { start = files_of m.store.start; calls = newest_first m.store.calls.items }

-- which calls fail, and how often that and want of memory came
abbrev pub mem_counts : MemDisk → CallCounts
mem_counts m = m.gate

-- its member `faults`
abbrev pub mem_faults : MemDisk → ℕ
mem_faults m = m.gate.faults

-- its member `reads`
abbrev pub mem_reads : MemDisk → Files
mem_reads m = reads_after (files_of m.store.start) (newest_first m.store.calls.items)

-- its member `images`
abbrev pub mem_images : MemDisk → Files → Type 0
mem_images m = ImagesAfter (files_of m.store.start) (newest_first m.store.calls.items)

-- its member `next`
abbrev pub mem_next : MemDisk → ℕ
mem_next m = next_number m.store.calls.items

-- the image that is asked for
abbrev pub mem_picked : ImagePick → MemDisk → Files
mem_picked pick m = picked pick (files_of m.store.start) (newest_first m.store.calls.items)

-- A call is counted. Where it was not done, what is read, the images and the past are as they were.
pub record IsCalled (done : Bool) (old new : MemDisk) : Type 0 where
  pub counts : IsCounted done (mem_counts old) (mem_counts new)
  pub not_done : done ≡ false → mem_history new ≡ mem_history old
