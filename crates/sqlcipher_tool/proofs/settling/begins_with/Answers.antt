use Rattle.std.proofs.Common.{◌≡◌, ◌≤◌, ◌+◌, ℕ, Bool, drop, length, take, if◌then◌else◌, sym, ap, ◌∙◌, arith, rules}
use lib.Pointwise.{bytes_decides}
use Rattle.edge_model.specs.Files.{main_of}
use Rattle.page_codec.specs.Page.{magic, salt_of}
use Rattle.sqlcipher_tool.proofs.settling.begins_with.Goals as goal

pub returns-clause-told : goal.returns-clause-told
returns-clause-told g c = λ told same.
    let main = main_of (g.D.Disk.reads c.args.disk.now) in
    let bytes = c.read_main.new.bytes in
    let sixteen : length bytes ≡ 16 = search rules in
    let fits : 0 + length bytes ≤ length main = omega (arith, sixteen, c.requires.long told) in
    let first : bytes ≡ salt_of main = c.in_ok-read_main.ensures.told told fits ∙ ap (λ (n : ℕ). take n (drop 0 main)) sixteen in
    let equal = (bytes_decides c.as_slice.result.now c.as_slice-2.result.now).0 (sym c.eq-2.ensures ∙ same) in
    ap (λ (clear : Bool). if clear then magic else salt_of main) (sym c.is_clear.ensures ∙ c.if-is_clear.false)
    ∙ (sym first ∙ (sym c.as_slice.ensures ∙ (equal ∙ c.as_slice-2.ensures)))
