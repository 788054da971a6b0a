use Rattle.std.proofs.Common.{arith}
use Rattle.db_format.proofs.VarintLemmas.{power-fits, varint-cut, varint-nine, varint-short}
use Rattle.db_format.proofs.varint.read_varint.Goals as goal

pub returns-then-at-clause-read : goal.returns-then-at-clause-read
returns-then-at-clause-read c =
    varint-nine c.args.bytes.now c.loop-at.at c.loop-at.high c.if-at.true c.loop-at-test.true c.loop-at.invariant.more c.loop-at.invariant.value

pub overflow_mul-result-then-byte-lt128 : goal.overflow_mul-result-then-byte-lt128
overflow_mul-result-then-byte-lt128 c = omega (arith, power-fits c.loop-at.at c.loop-at.invariant.few)

pub overflow_add-result-then-byte-lt128 : goal.overflow_add-result-then-byte-lt128
overflow_add-result-then-byte-lt128 c = omega (arith, power-fits c.loop-at.at c.loop-at.invariant.few)

pub returns-then-byte-lt128-clause-read : goal.returns-then-byte-lt128-clause-read
returns-then-byte-lt128-clause-read c =
    varint-short c.args.bytes.now c.loop-at.at c.loop-at.high (omega arith) c.loop-at-test.true c.loop-at.invariant.more
    c.if-byte-lt128.true c.loop-at.invariant.value

pub overflow_mul-high : goal.overflow_mul-high
overflow_mul-high c = omega (arith, power-fits c.loop-at.at c.loop-at.invariant.few)

pub overflow_add-high : goal.overflow_add-high
overflow_add-high c = omega (arith, power-fits c.loop-at.at c.loop-at.invariant.few)

pub returns-clause-read : goal.returns-clause-read
returns-clause-read c =
    varint-cut c.args.bytes.now c.loop-at.at c.loop-at.invariant.few (omega arith) c.loop-at.invariant.more
