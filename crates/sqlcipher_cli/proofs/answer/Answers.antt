use Rattle.std.proofs.Common.{◌≡◌, ℕ, List, map, string_bytes, subst, ◌∙◌, ap}
use Rattle.sqlcipher_tool.specs.Words.{texts}
use Rattle.sqlcipher_cli.specs.Exit.{EndsOn}
use Rattle.sqlcipher_cli.proofs.Endings.{starves}
use Rattle.sqlcipher_cli.proofs.answer.Goals as goal

pub returns-in-Ok : goal.returns-in-Ok
returns-in-Ok c =
    let same : texts c.as_slice.result.now ≡ map string_bytes c.args.words.now = ap texts c.as_slice.ensures.value ∙ c.in-Ok.ensures in
    subst (λ (words : List (List ℕ)). EndsOn words c.carry_out.result) same c.carry_out.ensures

pub returns-in-Err : goal.returns-in-Err
returns-in-Err c = starves (map string_bytes c.args.words.now) c.out_of_memory.result c.out_of_memory.ensures
