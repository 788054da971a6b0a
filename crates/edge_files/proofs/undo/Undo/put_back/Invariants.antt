use Rattle.std.proofs.Common.{◌≡◌, IsTrue, true}
use Rattle.edge_files.specs.Pair.{OnlyMain}
use Rattle.edge_files.specs.Parts.{main_bytes}
use Rattle.edge_files.specs.PutBack.{AllTakenBack, IsTakenBack, MayBeTakenBack, OnlyWithin}
use Rattle.edge_files.proofs.undo.Undo.put_back.Given as goal

abbrev pub invariant-loop-turn : goal.invariant-loop-turn
invariant-loop-turn g l =
    IsTrue g.C.Calls.tells
    → OnlyMain (g.C.Calls.system l.initial.calls) (g.C.Calls.system l.calls)
    × OnlyWithin l.self.writes.items (main_bytes (g.C.Calls.system l.initial.calls)) (main_bytes (g.C.Calls.system l.calls))
    × AllTakenBack MayBeTakenBack l.self l.turn (main_bytes (g.C.Calls.system l.initial.calls)) (main_bytes (g.C.Calls.system l.calls))
    × (l.is_done ≡ true → AllTakenBack IsTakenBack l.self l.turn (main_bytes (g.C.Calls.system l.initial.calls)) (main_bytes (g.C.Calls.system l.calls)))
