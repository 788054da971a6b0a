use Rattle.std.proofs.Common.{arith, sym}
use Rattle.std.proofs.lemmas.List.{length-take-le}
use Rattle.page_codec.proofs.codec.Codec.of_file.Goals as goal

pub slice_bounds-copy_from_slice-end-then-not-is_clear : goal.slice_bounds-copy_from_slice-end-then-not-is_clear
slice_bounds-copy_from_slice-end-then-not-is_clear c =
    let least = c.usable-usable.ensures.laid_out.least in
    let long = length-take-le 16 c.args.page_1.now (omega (arith, c.requires.size, least)) in
    omega (arith, c.requires.size, least, long)

pub copy_from_slice-requires : goal.copy_from_slice-requires
copy_from_slice-requires c = sym (length-take-le 16 c.args.page_1.now (omega (arith, c.requires.size, c.usable-usable.ensures.laid_out.least)))
