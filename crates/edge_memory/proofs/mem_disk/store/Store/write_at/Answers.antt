use Rattle.std.proofs.Common.{◌≡◌, Result, Ok, Err, OnOk, rules}
use Rattle.edge_memory.proofs.mem_disk.store.Store.write_at.Goals as goal

whatever : {T E : Type 0} {P : Type 0} (r : Result T E) → P → OnOk r P
whatever (Ok x) p = p
whatever (Err e) p = search rules

pub returns-else-is_err-clause-ok : goal.returns-else-is_err-clause-ok
returns-else-is_err-clause-ok c =
    let same : c.in-Ok.copy.items ≡ c.args.bytes.now = search rules in
    whatever c.write_role-outcome.result (c.in-Ok.copy, same, c.in_ok-note.ensures.ok)
