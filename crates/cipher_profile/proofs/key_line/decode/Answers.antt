use Rattle.std.proofs.Common.{length}
use Rattle.cipher_profile.proofs.Literals.{digits_decode}
use Rattle.cipher_profile.proofs.key_line.decode.Goals as goal

pub unwrap-requires : goal.unwrap-requires
unwrap-requires c =
    let decoded = digits_decode c.args.text.now (length c.args.bytes.now) c.requires.long c.requires.digits in
    let read = rw decoded at c.decode_to_slice.ensures.value in
    rw read.0

pub returns-clause-bytes : goal.returns-clause-bytes
returns-clause-bytes c =
    let decoded = digits_decode c.args.text.now (length c.args.bytes.now) c.requires.long c.requires.digits in
    let read = rw decoded at c.decode_to_slice.ensures.value in
    read.1
