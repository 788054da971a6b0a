use Rattle.std.proofs.Common.{◌≡◌, ◌+◌, ◌*◌, ◌-◌, ◌≤◌, ℕ, List, length, take, drop, sym, ap, ◌∙◌, arith, slice_index}
use Rattle.std.proofs.Math.Nat.{add-mul, mul_comm}
use Rattle.edge_model.specs.Files.{main_of}
use Rattle.pager.proofs.AheadLemmas.{run_stored}
use Rattle.pager.proofs.ahead.read_run.Goals as goal

pub returns-in-Ok-clause-told : goal.returns-in-Ok-clause-told
returns-in-Ok-clause-told g c = λ yes told.
    let main : List ℕ = main_of (g.D.Disk.reads c.args.disk.now) in
    let size : ℕ = c.args.size in
    let numbers : List ℕ = c.args.numbers.now in
    let count : ℕ = length numbers in
    let n : ℕ = slice_index numbers 0 in
    let read : List ℕ = c.read_main.new.bytes in
    let some : 2 ≤ n = c.requires.readable 0 (omega (arith, c.requires.run.0)) in
    let last : slice_index numbers (count - 1) ≡ n + (count - 1) = c.requires.run.1 (count - 1) (omega (arith, c.requires.run.0)) in
    let end : slice_index numbers (count - 1) ≡ n + count - 1 = omega (arith, last, c.requires.run.0) in
    let place : slice_index numbers (count - 1) * size ≡ (n + count - 1) * size = ap (λ (m : ℕ). m * size) end in
    let whole : slice_index numbers (count - 1) * size ≤ length main = c.requires.whole told (count - 1) (omega (arith, c.requires.run.0)) in
    let long : length read ≡ count * size = c.read_main.auto.bytes ∙ c.requires.long ∙ mul_comm size count in
    let next : (n - 1) + count ≡ n + count - 1 = omega (arith, some) in
    let sum : (n - 1) * size + count * size ≡ (n + count - 1) * size = sym (add-mul (n - 1) count size) ∙ ap (λ (m : ℕ). m * size) next in
    let is = c.in-Ok.ensures.told told (omega (arith, long, sum, place, whole)) ∙ (λ t. take (long t) (drop ((n - 1) * size) main)) in
    run_stored size numbers n count read main (omega (arith, some)) c.requires.run.1 is
