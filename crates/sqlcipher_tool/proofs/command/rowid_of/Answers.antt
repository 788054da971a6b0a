use Rattle.std.proofs.Common.{◌≡◌, ◌==◌, ◌≤◌, ℤ, length, true, false, rules, sym, subst, ◌∙◌}
use mir.Val.{SFits, of_z, to_z}
use mir.Syntax.{w64}
use Rattle.std.specs.Prelude.{slice_index}
use Rattle.std.proofs.lemmas.Int.{to_z-of_z}
use Rattle.sqlcipher_tool.proofs.Rowids.{most_long, most_minus, most_plain, no_rowid, rowid_is}
use Rattle.sqlcipher_tool.proofs.command.rowid_of.Goals as goal
use Rattle.sqlcipher_tool.proofs.command.rowid_of.Goals.{then-bytes-eq45, else-bytes-eq45}

pub returns-in-Ok : goal.returns-in-Ok
returns-in-Ok c =
    let plain : (slice_index c.args.word.now 0 == 43) ≡ false = search rules in
    let few : length c.args.word.now ≤ most_long c.args.word.now =
    elim c.if-bytes-eq45.branch [
      | then-bytes-eq45 v ↦ (let minus : (slice_index c.args.word.now 0 == 45) ≡ true = search rules in let le : length c.args.word.now ≤ 20 = search rules in most_minus c.args.word.now minus le)
      | else-bytes-eq45 v ↦ (let none : (slice_index c.args.word.now 0 == 45) ≡ false = search rules in let le : length c.args.word.now ≤ 19 = search rules in most_plain c.args.word.now none le)
    ]
    in
    let ok = c.in-Ok.ensures.value.0 in
    rowid_is c.args.word.now (to_z w64 (of_z w64 c.in-Ok.number)) few plain ok.0 (to_z-of_z w64 c.in-Ok.number (subst (λ (z : ℤ). SFits w64 z) (sym ok.1) ok.0.1) ∙ ok.1)

pub returns-in-Err : goal.returns-in-Err
returns-in-Err c =
    let plain : (slice_index c.args.word.now 0 == 43) ≡ false = search rules in
    no_rowid c.args.word.now plain c.in-Err.ensures.value.0
