-- What contracts see of a system in memory.
use Rattle.std.specs.Prelude.{ℕ, Bool, List, length}
use Rattle.edge_memory.specs.Gate.{CallCounts}
use Rattle.edge_model.specs.Files.{Files}
use Rattle.system_calls.specs.System.{Names, System}
use Rattle.call_memory.specs.Folder.{State, names_of, state_of, system_in}
use Rattle.call_memory.specs.Log.{state_after, ImagesAfter, newest_first}
use Rattle.call_memory.specs.declared.done.Done.{Done}
use Rattle.call_memory.specs.declared.mem_calls.MemCalls.{MemCalls}

-- what it has, from which its members follow: the start and the changes since, the newest first, what is open, and whether a sync has failed
pub record History : Type 0 where
  pub start : State
  pub changes : List Done
  pub places : Names
  pub is_spoilt : Bool

abbrev pub mem_history : MemCalls → History
mem_history m =
    record { start = state_of m.store.start; changes = newest_first m.store.log.items; places = names_of m.store.places; is_spoilt = m.store.is_spoilt }

-- its names, and the bytes of each file
abbrev pub mem_state : MemCalls → State
mem_state m = state_after (state_of m.store.start) (newest_first m.store.log.items)

-- its member `system`
abbrev pub mem_system : MemCalls → System
mem_system m = system_in (mem_state m) (names_of m.store.places)

-- its member `images`
abbrev pub mem_images : MemCalls → Files → Type 0
mem_images m = ImagesAfter (state_of m.store.start) (newest_first m.store.log.items)

-- its member `next`
abbrev pub mem_next : MemCalls → ℕ
mem_next m = length (mem_state m).lists

-- its member `moment`
abbrev pub mem_changes : MemCalls → ℕ
mem_changes m = length m.store.log.items

-- its member `is_spoilt`
abbrev pub mem_is_spoilt : MemCalls → Bool
mem_is_spoilt m = m.store.is_spoilt

-- which calls fail, and how often that and want of memory came
abbrev pub mem_counts : MemCalls → CallCounts
mem_counts m = m.gate
