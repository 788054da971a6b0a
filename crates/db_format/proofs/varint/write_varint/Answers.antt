use Rattle.std.proofs.Common.{◌≡◌, length, drop, arith, ◌∙◌}
use Rattle.std.proofs.Math.Seq.{take-append_seam}
use Rattle.db_format.specs.Varint.{varint_bytes, varint_size}
use Rattle.db_format.proofs.VarintLemmas.{IsVarintOf-varint_bytes, length-varint_bytes, varint_bytes-put, varint_size-le}
use Rattle.db_format.proofs.varint.write_varint.Goals as goal

put : goal.returns-clause-bytes
put c =
    let size : c.varint_size-size.result ≡ varint_size c.args.value = c.varint_size-size.ensures.size in
    let values = c.last_values-values.ensures.values in
    c.write_leading.ensures
    ∙ varint_bytes-put c.args.value c.varint_size-size.result c.last_values-values.result c.args.out.now
    size (rw size at values) (omega arith)

pub returns-clause-bytes : goal.returns-clause-bytes
returns-clause-bytes c = put c

pub returns-clause-size : goal.returns-clause-size
returns-clause-size c = omega (arith, length-varint_bytes c.args.value)

pub returns-clause-reads_back : goal.returns-clause-reads_back
returns-clause-reads_back c =
    let size : c.varint_size-size.result ≡ length (varint_bytes c.args.value) = omega (arith, length-varint_bytes c.args.value) in
    rw (put c, size, take-append_seam (varint_bytes c.args.value) (drop (length (varint_bytes c.args.value)) c.args.out.now))
    (IsVarintOf-varint_bytes c.args.value (omega arith))

pub returns-clause-shortest : goal.returns-clause-shortest
returns-clause-shortest c bytes is = omega (arith, varint_size-le bytes c.args.value is)
