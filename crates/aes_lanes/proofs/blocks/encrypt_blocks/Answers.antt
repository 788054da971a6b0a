use Rattle.std.proofs.Common.{ℕ, List, ap, ◌∙◌, arith}
use Rattle.aes_block.specs.Aes.{key_expansion, xor_bytes}
use Rattle.aes_block.specs.Blocks.{block_at}
use Rattle.aes_lanes.specs.States.{state_in}
use Rattle.aes_lanes.proofs.RoundFacts.{begun, ended, one_more}
use Rattle.aes_lanes.proofs.blocks.encrypt_blocks.Goals as goal

pub rounds-init : goal.rounds-init
rounds-init c = record {
  lanes = c.add_key-s.ensures.lanes;
  blocks = λ j hj. begun (key_expansion c.args.aes.now 52) (block_at c.args.text.now j) _ _
      (c.add_key-s.ensures.blocks j hj ∙ ap (λ (l : List ℕ). xor_bytes l c.round_key.result)
      (c.states.ensures.blocks j hj)) c.round_key.ensures;
}

pub rounds-preserved : goal.rounds-preserved
rounds-preserved c = record {
  lanes = c.round-s.ensures.lanes;
  blocks = λ j hj. one_more (key_expansion c.args.aes.now 52) (block_at c.args.text.now j) (state_in c.rounds.s j) _ _ c.rounds.i
      (c.rounds.invariant.blocks j hj) (c.round-s.ensures.blocks j hj) c.round_key-in-rounds.ensures;
}

pub returns : goal.returns
returns c j hj =
    c.vectors.ensures j hj
    ∙ ended c.args.aes.now (block_at c.args.text.now j) (state_in c.rounds.s j) _ _ c.rounds.i (omega arith)
    (c.rounds.invariant.blocks j hj) (c.last_round.ensures.blocks j hj) c.round_key-2.ensures
