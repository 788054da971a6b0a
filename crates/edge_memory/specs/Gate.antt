-- Which calls of an object in memory fail, and what it counts. Each count stands still at the end of a `u64`.
use Rattle.std.specs.Prelude.{◌≡◌, ◌==◌, ◌||◌, ◌++◌, ℕ, ◌+◌, ◌-◌, ◌^◌, min, Bool, false, List, map, Option, Some, None, nat_lt, if◌then◌else◌, IsTrue}
use Rattle.std.specs.List.{list_any}

-- the calls so far, the last one that passes, and the numbers of those that are to fail; the first call is number 1
pub record Plan : Type 0 where
  pub calls : ℕ
  pub stop : Option ℕ
  pub failing : List ℕ

-- the number of the k-th call from now on
abbrev pub call_number : Plan → ℕ → ℕ
call_number plan k = min (plan.calls + k) (2 ^ 64 - 1)

abbrev pub is_past : Option ℕ → ℕ → Bool
is_past None call = false
is_past (Some last) call = nat_lt last call

-- the next call is listed, or past the stop
abbrev pub is_next_due : Plan → Bool
is_next_due plan = is_past plan.stop (call_number plan 1) || list_any (λ n. n == call_number plan 1) plan.failing

-- one call more
abbrev pub called : Plan → Plan
called plan = record plan { calls = call_number plan 1 }

-- so many calls pass, and after them none
abbrev pub stopping : ℕ → Plan → Plan
stopping calls plan = record plan { stop = Some (call_number plan calls) }

-- these calls are to fail as well, counted from the next one as 1
abbrev pub listing : List ℕ → Plan → Plan
listing calls plan = record plan { failing = plan.failing ++ map (λ k. call_number plan k) calls }

-- what an object in memory counts: its calls, those that failed, and how often memory was refused
pub record CallCounts : Type 0 where
  pub plan : Plan
  pub faults : ℕ
  pub starved : ℕ

-- no call so far, and these to fail
abbrev pub at_first : List ℕ → CallCounts
at_first failing = record { plan = record { calls = 0; stop = None; failing = failing }; faults = 0; starved = 0 }

-- A call is counted, and a fault exactly where it was not done. One that was done was not refused memory.
pub record IsCounted (done : Bool) (old new : CallCounts) : Type 0 where
  pub call : new.plan ≡ called old.plan
  pub faults : new.faults ≡ (if done then old.faults else min (old.faults + 1) (2 ^ 64 - 1))
  pub starved : IsTrue done → new.starved ≡ old.starved
