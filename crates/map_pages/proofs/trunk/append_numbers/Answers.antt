use Rattle.std.proofs.Common.{◌+◌, ◌++◌, ap, arith, append_assoc, sym, ◌∙◌, List, ℕ}
use Rattle.std.specs.Int.{w32, to_be_bytes}
use Rattle.std.specs.Prelude.{flat_map}
use Rattle.map_pages.specs.Maps.{map_number}
use Rattle.map_pages.specs.Trunks.{numbers_from}
use Rattle.map_pages.proofs.Heads.{bytes_more}
use Rattle.map_pages.proofs.TrunkPages.{number_small}
use Rattle.map_pages.proofs.trunk.append_numbers.Goals as goal

pub map_number-requires : goal.map_number-requires
map_number-requires c = number_small c.args.usable c.args.count c.ranges.count.fits (c.args.k + c.loop-i.i) (omega (arith, c.requires, c.loop-i-test.true))

pub loop-i-preserved : goal.loop-i-preserved
loop-i-preserved c =
    let before : List ℕ = c.args.page.now.items in
    let numbers : List ℕ = flat_map (to_be_bytes w32) (numbers_from c.args.usable c.args.k c.loop-i.i) in
    c.in_ok-append.ensures
    ∙ ap (λ (l : List ℕ). l ++ c.u32_bytes.result) c.loop-i.invariant
    ∙ ap (λ (l : List ℕ). (before ++ numbers) ++ l) (c.u32_bytes.ensures ∙ ap (to_be_bytes w32) c.map_number.ensures)
    ∙ append_assoc before numbers (to_be_bytes w32 (map_number c.args.usable (c.args.k + c.loop-i.i)))
    ∙ ap (λ (l : List ℕ). before ++ l) (sym (bytes_more c.args.usable c.args.k c.loop-i.i))
