use Rattle.std.proofs.Common.{◌≡◌, length}
use Rattle.bench_loops.proofs.chains.decrypt_by_tables.Given as goal

abbrev pub invariant-decryption : goal.invariant-decryption
invariant-decryption l = length l.text ≡ length l.fn.text
