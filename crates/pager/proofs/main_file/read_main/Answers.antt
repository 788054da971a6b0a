use Rattle.std.proofs.Common.{◌≡◌, ◌+◌, ◌≤◌, ℕ, length, take, drop, arith, sym, ap, ◌∙◌}
use Rattle.std.proofs.Math.Seq.{take-length}
use Rattle.edge_model.specs.Files.{main_of}
use Rattle.pager.proofs.WholeReads.{all_read, bytes_read}
use Rattle.pager.proofs.main_file.read_main.Goals as goal

pub returns-clause-told : goal.returns-clause-told
returns-clause-told g c = λ told whole.
    let files = g.D.Disk.reads c.args.disk.now in
    let bytes = c.loop-i.bytes in
    let count = c.in_ok-count.count in
    let size = length c.args.bytes.now in
    let read = c.in_ok-count.ensures.told told in
    let long : length bytes ≡ size = c.loop-i.auto.bytes ∙ c.read_at.auto.buf in
    let within : c.args.at + size ≤ length (main_of files) = omega (arith, long, whole) in
    let all = all_read files.main c.args.at size count c.read_at.new.buf read within in
    let full : length bytes ≡ count = omega (arith, long, all, c.in_ok-count.ensures.count) in
    sym (ap (λ (k : ℕ). take k bytes) (sym full) ∙ take-length bytes)
    ∙ c.loop-i.invariant ∙ bytes_read files.main c.args.at size count c.read_at.new.buf read
    ∙ ap (λ (k : ℕ). take k (drop c.args.at (main_of files))) (sym long)
