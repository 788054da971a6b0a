use Rattle.std.proofs.Common.{◌≡◌, ◌≢◌, ◌++◌, ◌<◌, List, ℕ, ◌+◌, length, drop, sym, ap, ◌∙◌, arith}
use Rattle.std.specs.Prelude.{codes}
use Rattle.std.proofs.lemmas.List.{length-append}
use Rattle.std.proofs.lemmas.Bool.{eqb-true, eqb-false}
use Rattle.db_format.proofs.Escapes.{escaped_end, escape_turn}
use Rattle.row_text.proofs.line_out.LineOut.push_escaped.Goals as goal

pub returns-then-is_empty : goal.returns-then-is_empty
returns-then-is_empty c =
    let left = c.loop-left.left.now in
    let run = c.plain_run.result in
    let none : length (drop run left) ≡ 0 = ap length (sym c.split_at.ensures.back) ∙ eqb-true _ 0 (sym c.if-is_empty.ensures) in
    c.push.ensures
    ∙ ap (λ (l : List ℕ). c.loop-left.self ++ l) (c.split_at.ensures.front ∙ sym (escaped_end left run c.plain_run.ensures.plain none))
    ∙ c.loop-left.invariant.whole

pub loop-left-preserved : goal.loop-left-preserved
loop-left-preserved c =
    let left = c.loop-left.left.now in
    let run = c.plain_run.result in
    let some : length c.split_at.result.1.now ≢ 0 = eqb-false _ 0 (sym c.if-is_empty.ensures) in
    let within : run < length left = omega (arith, c.split_at.ensures.back_len) in
    record {
      whole = escape_turn _ c.loop-left.self left c.split_at.result.0.now c.split_at.result.1.now c.split_at-in-loop-left.result.0.now
          c.split_at-in-loop-left.result.1.now c.push.new.self c.push-in-loop-left.new.self c.push_hex.new.self run c.loop-left.invariant.whole
          c.split_at.ensures.front c.split_at.ensures.back c.split_at-in-loop-left.ensures.front c.split_at-in-loop-left.ensures.back
          c.push.ensures c.push-in-loop-left.ensures c.push_hex.ensures.text c.plain_run.ensures.plain within (c.plain_run.ensures.end within);
      room =
          let first : length c.push.new.self ≡ length c.loop-left.self + length c.split_at.result.0.now =
          ap length c.push.ensures ∙ length-append c.loop-left.self c.split_at.result.0.now in
          let second : length c.push-in-loop-left.new.self ≡ length c.push.new.self + 2 =
          ap length c.push-in-loop-left.ensures ∙ length-append c.push.new.self (codes "\\x") in
          omega (
            arith,
            c.push_hex.ensures.twice,
            c.split_at.ensures.front_len,
            c.split_at.ensures.back_len,
            c.split_at-in-loop-left.ensures.front_len,
            c.split_at-in-loop-left.ensures.back_len,
          );
    }
