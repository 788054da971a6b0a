use Rattle.std.proofs.Common.{◌≡◌, ◌≤◌, ℕ, ◌∙◌, List, length, take, replicate, ap, arith, sym}
use Rattle.std.proofs.lemmas.List.{length-take, length-replicate}
use lib.Pointwise.{bytes_decides}
use Rattle.edge_model.specs.Files.{read_from}
use Rattle.edge_files.specs.Parts.{main_bytes}
use Rattle.edge_files.proofs.PutBack.{part_all}
use Rattle.edge_files.proofs.undo.stands.Goals as goal

pub returns : goal.returns
returns g c = record {
  told = λ told.
      let file = main_bytes (g.C.Calls.system c.args.calls.now) in
      let room : List ℕ = replicate 65536 0 in
      let few : length c.args.bytes.now ≤ length room = omega (arith, c.if-bytes-gt-PAGE.false, length-replicate {A = ℕ} 65536 0) in
      let asked : c.part_mut-found.result.now ≡ take (length c.args.bytes.now) room = c.part_mut-found.ensures ∙ part_all room (length c.args.bytes.now) few in
      let long : length c.part_mut-found.result.now ≡ length c.args.bytes.now =
      omega (arith, ap (λ (l : List ℕ). length l) asked, few, length-take (length c.args.bytes.now) room) in
      let within : c.in_ok-count.count ≤ length c.read_full.new.buf = omega (arith, c.in_ok-count.ensures.count, c.read_full.auto.buf) in
      let read : c.part.result.now ≡ read_from c.args.at (length c.args.bytes.now) file =
      c.part.ensures ∙ part_all c.read_full.new.buf c.in_ok-count.count within ∙ c.in_ok-count.ensures.told told
      ∙ ap (λ (n : ℕ). read_from c.args.at n file) long in
      let decides = bytes_decides c.part.result.now c.args.bytes.now in
      (λ is. sym read ∙ decides.0 (sym c.eq.ensures ∙ is), λ stands. c.eq.ensures ∙ decides.1 (read ∙ stands));
}
