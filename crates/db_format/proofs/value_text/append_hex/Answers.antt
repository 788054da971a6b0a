use Rattle.std.proofs.Common.{◌≡◌, ◌∙◌, ◌≤◌, ◌++◌, ℕ, List, length, take, arith, ap}
use Rattle.std.specs.List.{flat_map}
use Rattle.std.proofs.lemmas.List.{take_all}
use Rattle.hex.specs.Hex.{encode_lower}
use Rattle.db_format.proofs.TextLemmas.{each_hex, hex_of}
use Rattle.db_format.proofs.value_text.append_hex.Goals as goal

pub returns-clause-done : goal.returns-clause-done
returns-clause-done c =
    let bytes = c.args.bytes.now in
    let past : length bytes ≤ c.loop-byte.byte-index = omega arith in
    let all : flat_map hex_of (take c.loop-byte.byte-index bytes) ≡ encode_lower bytes =
    ap (flat_map hex_of) (take_all c.loop-byte.byte-index bytes past) ∙ each_hex bytes in
    c.loop-byte.invariant.whole ∙ ap (λ (l : List ℕ). c.args.out.now.items ++ l) all
