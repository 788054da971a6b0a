use Rattle.std.proofs.Common.{◌≡◌, lit<, [], ◌++◌, length, take, drop, sym, ◌∙◌, ap, arith, length-append}
use Rattle.std.proofs.lemmas.List.{length-take}
use Rattle.cipher_profile.specs.KeyLine.{first_line}
use Rattle.cipher_profile.proofs.Lines.{after_line_ended, after_line_long, first_line_fed, line_of_ended, line_of_long}
use Rattle.cipher_profile.proofs.key_line.take_line.Goals as goal

-- Nothing is left, so the line ends here.
pub returns-else-at-eq0-clause-told : goal.returns-else-at-eq0-clause-told
returns-else-at-eq0-clause-told g c = λ tells.
    let old = g.K.Source.left c.args.source.now in
    let left = g.K.Source.left c.loop-at.source in
    let so_far = c.loop-at.invariant in
    let none = (c.in-Ok.ensures.end tells (lit< tt)).0 c.if-count-eq0.true in
    line_of_ended old left c.loop-at.line c.loop-at.at (omega arith) (omega arith) (omega (arith, so_far.sized))
    (so_far.line tells) (ap first_line none)

pub returns-else-at-eq0-clause-rest : goal.returns-else-at-eq0-clause-rest
returns-else-at-eq0-clause-rest g c = λ tells.
    let old = g.K.Source.left c.args.source.now in
    let left = g.K.Source.left c.loop-at.source in
    let later = g.K.Source.left c.take.new.self in
    let so_far = c.loop-at.invariant in
    let none : left ≡ [] = (c.in-Ok.ensures.end tells (lit< tt)).0 c.if-count-eq0.true in
    let still : [] ≡ later = sym none ∙ c.in-Ok.ensures.told tells ∙ rw c.if-count-eq0.true in
    let same : drop 1 left ≡ later = ap (drop 1) none ∙ still in
    sym same
    ∙ after_line_ended old left c.loop-at.line c.loop-at.at (omega arith) (omega (arith, so_far.sized)) (so_far.line tells)
    (ap first_line none) (so_far.rest tells)

-- The byte is a line feed.
pub returns-then-byte-eq10-clause-rest : goal.returns-then-byte-eq10-clause-rest
returns-then-byte-eq10-clause-rest g c = λ tells.
    let old = g.K.Source.left c.args.source.now in
    let left = g.K.Source.left c.loop-at.source in
    let later = g.K.Source.left c.take.new.self in
    let so_far = c.loop-at.invariant in
    let one : c.in-Ok.count ≡ 1 = omega (arith, c.in-Ok.ensures.count) in
    let told : left ≡ take 1 c.take.new.buf ++ later = rw one at (c.in-Ok.ensures.told tells) in
    let fed = first_line_fed left later c.take.new.buf (omega arith) c.if-byte-eq10.true told in
    sym fed.1
    ∙ after_line_ended old left c.loop-at.line c.loop-at.at (omega arith) (omega (arith, so_far.sized)) (so_far.line tells)
    fed.0 (so_far.rest tells)

-- The buffer is full.
pub returns-clause-told : goal.returns-clause-told
returns-clause-told g c = λ tells.
    let old = g.K.Source.left c.args.source.now in
    let so_far = c.loop-at.invariant in
    let taken = take c.loop-at.at c.loop-at.line in
    let whole = length-append taken (first_line (g.K.Source.left c.loop-at.source)) in
    let full = length-take c.loop-at.at c.loop-at.line in
    line_of_long old (omega (arith, ap length (so_far.line tells), whole, full, so_far.sized))

pub returns-clause-rest : goal.returns-clause-rest
returns-clause-rest g c = λ tells.
    let old = g.K.Source.left c.args.source.now in
    let left = g.K.Source.left c.loop-at.source in
    let so_far = c.loop-at.invariant in
    let taken = take c.loop-at.at c.loop-at.line in
    let whole = length-append taken (first_line left) in
    let full = length-take c.loop-at.at c.loop-at.line in
    let end : c.loop-at.at ≡ 1025 = omega arith in
    let rest : left ≡ drop 1025 old = rw end at (so_far.rest tells) in
    after_line_long old left (omega (arith, ap length (so_far.line tells), whole, full, so_far.sized)) rest
