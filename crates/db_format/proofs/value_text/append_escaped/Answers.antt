use Rattle.std.proofs.Common.{◌≡◌, ◌≢◌, ◌++◌, ◌<◌, List, ℕ, length, drop, sym, ap, ◌∙◌, arith}
use Rattle.std.proofs.Transfers.{starts_with_trans}
use Rattle.std.proofs.lemmas.Bool.{eqb-true, eqb-false}
use Rattle.db_format.proofs.Escapes.{escaped_end, escape_turn}
use Rattle.db_format.proofs.value_text.append_escaped.Goals as goal

pub returns-then-is_empty-clause-done : goal.returns-then-is_empty-clause-done
returns-then-is_empty-clause-done c =
    let left = c.loop-left.left.now in
    let run = c.plain_run.result in
    let none : length (drop run left) ≡ 0 = ap length (sym c.split_at.ensures.back) ∙ eqb-true _ 0 (sym c.if-is_empty.ensures) in
    c.in_ok-append.ensures.done
    ∙ ap (λ (l : List ℕ). c.loop-left.out.items ++ l) (c.split_at.ensures.front ∙ sym (escaped_end left run c.plain_run.ensures.plain none))
    ∙ c.loop-left.invariant.whole

pub loop-left-preserved : goal.loop-left-preserved
loop-left-preserved c =
    let left = c.loop-left.left.now in
    let run = c.plain_run.result in
    let some : length c.split_at.result.1.now ≢ 0 = eqb-false _ 0 (sym c.if-is_empty.ensures) in
    let within : run < length left = omega (arith, c.split_at.ensures.back_len) in
    record {
      begins =
          starts_with_trans _ c.append-in-loop-left.new.out.items c.args.out.now.items c.in_ok-append_hex.ensures.begins
          (starts_with_trans _ c.append.new.out.items _ c.in_ok-append-2.ensures.begins
          (starts_with_trans _ c.loop-left.out.items _ c.in_ok-append.ensures.begins c.loop-left.invariant.begins));
      whole = escape_turn _ c.loop-left.out.items left c.split_at.result.0.now c.split_at.result.1.now c.split_at-in-loop-left.result.0.now
          c.split_at-in-loop-left.result.1.now c.append.new.out.items c.append-in-loop-left.new.out.items c.append_hex.new.out.items run
          c.loop-left.invariant.whole c.split_at.ensures.front c.split_at.ensures.back c.split_at-in-loop-left.ensures.front
          c.split_at-in-loop-left.ensures.back c.in_ok-append.ensures.done c.in_ok-append-2.ensures.done c.in_ok-append_hex.ensures.done
          c.plain_run.ensures.plain within (c.plain_run.ensures.end within);
    }
