use Rattle.std.proofs.Common.{ℕ, List, ap, ◌∙◌, arith}
use Rattle.aes_block.specs.Aes.{key_expansion, xor_bytes}
use Rattle.aes_block.specs.Blocks.{block_at}
use Rattle.aes_lanes.specs.States.{state_in}
use Rattle.aes_lanes.proofs.RoundFacts.{first_step, last_step, next_step}
use Rattle.aes_lanes.proofs.blocks.decrypt_blocks.Goals as goal

pub rounds-init : goal.rounds-init
rounds-init c = record {
  lanes = c.add_key-s.ensures.lanes;
  blocks = λ j hj. first_step c.args.aes.now (block_at c.args.text.now j) _ _
      (c.add_key-s.ensures.blocks j hj ∙ ap (λ (l : List ℕ). xor_bytes l c.round_key.result)
      (c.states.ensures.blocks j hj)) c.round_key.ensures;
}

pub rounds-preserved : goal.rounds-preserved
rounds-preserved c = record {
  lanes = c.inv_round-s.ensures.lanes;
  blocks = λ j hj. next_step (key_expansion c.args.aes.now 52) (state_in c.rounds.s j) _ _ c.rounds.i (omega arith)
      (c.inv_round-s.ensures.blocks j hj) c.round_key-in-rounds.ensures
      ∙ c.rounds.invariant.blocks j hj;
}

pub returns : goal.returns
returns c j hj =
    c.vectors.ensures j hj
    ∙ last_step (key_expansion c.args.aes.now 52) (state_in c.rounds.s j) _ _ c.rounds.i (omega arith)
    (c.inv_start.ensures.blocks j hj) c.round_key-2.ensures
    ∙ c.rounds.invariant.blocks j hj
