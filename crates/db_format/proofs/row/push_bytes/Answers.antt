use Rattle.std.proofs.Common.{◌≡◌, ◌-◌, ◌++◌, take, drop, ap, ◌∙◌, arith, to_z-of_z}
use Rattle.std.proofs.lemmas.Result.{IfOk-weaker}
use Rattle.std.proofs.lemmas.List.{take_rest}
use Rattle.std.specs.Int.{w64, cast_unsigned, bytes_high_first}
use Rattle.db_format.specs.Serial.{size_of}
use Rattle.db_format.specs.Row.{integer_type}
use Rattle.db_format.proofs.SerialLemmas.{last_bytes}
use Rattle.db_format.proofs.row.push_bytes.Goals as goal

pub returns-in-Int-clause-ok : goal.returns-in-Int-clause-ok
returns-in-Int-clause-ok c =
    let n = c.in-Int.number in
    let size : c.integer_size-size.result ≡ size_of (integer_type n) = grind (arith, to_z-of_z) in
    let bits : c.cast_unsigned.result ≡ cast_unsigned w64 n = grind (arith, to_z-of_z) in
    let all : c.u64_bytes.result ≡ bytes_high_first 8 (cast_unsigned w64 n) = c.u64_bytes.ensures ∙ ap (bytes_high_first 8) bits in
    let part : take (8 - (8 - c.integer_size-size.result)) (drop (8 - c.integer_size-size.result) c.u64_bytes.result)
    ≡ bytes_high_first (size_of (integer_type n)) (cast_unsigned w64 n) =
    rw (all, size) (take_rest (bytes_high_first 8 (cast_unsigned w64 n)) (8 - size_of (integer_type n)) ∙ last_bytes (size_of (integer_type n)) (cast_unsigned w64 n) (omega arith)) in
    rw c.in-Int.is (IfOk-weaker c.append.result _ _ (λ _ out. out ∙ ap (λ x. c.args.body.now.items ++ x) part) c.append.ensures.ok)
