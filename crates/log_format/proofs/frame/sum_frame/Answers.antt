use Rattle.std.proofs.Common.{ℕ, List, ◌∙◌, ◌-◌, length, drop, ap, arith, length-drop}
use Rattle.std.proofs.lemmas.List.{take_all}
use Rattle.log_format.specs.Sums.{log_sum}
use Rattle.log_format.specs.Frames.{frame_sum}
use Rattle.log_format.proofs.frame.sum_frame.Goals as goal

pub returns : goal.returns
unfolding frame_sum
returns c =
    c.checksum.ensures
    ∙ ap (λ (l : List ℕ). log_sum c.args.is_big c.checksum-head.result l)
    (take_all (length c.args.bytes.now - 24) (drop 24 c.args.bytes.now) (omega (arith, length-drop 24 c.args.bytes.now)))
    ∙ ap (λ (s : _). log_sum c.args.is_big s (drop 24 c.args.bytes.now)) c.checksum-head.ensures
