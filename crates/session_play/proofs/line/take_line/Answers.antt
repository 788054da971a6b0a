use Rattle.std.proofs.Common.{◌≡◌, ◌≤◌, lit<, ℕ, List, [], ◌++◌, length, take, drop, sym, ◌∙◌, ap, arith, ◌+◌, length-append, length-drop}
use Rattle.std.proofs.lemmas.List.{length-take}
use Rattle.cipher_profile.specs.KeyLine.{first_line}
use Rattle.cipher_profile.proofs.Lines.{first_line_fed}
use Rattle.session_play.specs.Script.{script_lines}
use Rattle.session_play.proofs.ScriptText.{first_within, line_ended, lines_split}
use Rattle.session_play.proofs.line.take_line.Goals as goal

-- a list that has something behind its first bytes has a byte
has_some : (at : ℕ) (old left : List ℕ) → left ≡ drop at old → 1 ≤ length left → 1 ≤ length old
has_some at old left is some = omega (arith, ap length is, length-drop at old)

-- Nothing is left, and no byte was taken.
pub returns-then-at-eq0-clause-found : goal.returns-then-at-eq0-clause-found
returns-then-at-eq0-clause-found g c = λ tells.
    let old = g.K.Source.left c.args.source.now in
    let left = g.K.Source.left c.loop-at.source in
    let none : left ≡ [] = (c.in-Ok.ensures.end tells (lit< tt)).0 c.if-count-eq0.true in
    let start : c.loop-at.at ≡ 0 = omega arith in
    let same : left ≡ old = c.loop-at.invariant.rest tells ∙ ap (λ (n : ℕ). drop n old) start in
    (sym same ∙ none, sym (sym none ∙ (c.in-Ok.ensures.told tells ∙ rw c.if-count-eq0.true)))

-- Nothing is left, so the line ends here.
pub returns-else-at-eq0-clause-found : goal.returns-else-at-eq0-clause-found
returns-else-at-eq0-clause-found g c = λ tells.
    let old = g.K.Source.left c.args.source.now in
    let left = g.K.Source.left c.loop-at.source in
    let later = g.K.Source.left c.take.new.self in
    let so_far = c.loop-at.invariant in
    let none : left ≡ [] = (c.in-Ok.ensures.end tells (lit< tt)).0 c.if-count-eq0.true in
    let still : [] ≡ later = sym none ∙ (c.in-Ok.ensures.told tells ∙ rw c.if-count-eq0.true) in
    let next : drop 1 left ≡ later = ap (drop 1) none ∙ still in
    let empty : first_line left ≡ [] = ap first_line none in
    let long : length (first_line old) ≡ c.loop-at.at =
    omega (arith, ap length (so_far.line tells), length-append (take c.loop-at.at c.loop-at.line) (first_line left), length-take c.loop-at.at c.loop-at.line, ap length empty, so_far.sized) in
    let some : 1 ≤ length old = first_within old (omega (arith, long)) in
    line_ended old left later c.loop-at.line c.loop-at.at some (omega (arith, so_far.sized)) (so_far.line tells) empty (so_far.rest tells) next

-- The byte is a line feed.
pub returns-then-byte-eq10-clause-found : goal.returns-then-byte-eq10-clause-found
returns-then-byte-eq10-clause-found g c = λ tells.
    let old = g.K.Source.left c.args.source.now in
    let left = g.K.Source.left c.loop-at.source in
    let later = g.K.Source.left c.take.new.self in
    let so_far = c.loop-at.invariant in
    let one : c.in-Ok.count ≡ 1 = omega (arith, c.in-Ok.ensures.count) in
    let told : left ≡ take 1 c.take.new.buf ++ later = rw one at (c.in-Ok.ensures.told tells) in
    let fed = first_line_fed left later c.take.new.buf (omega arith) c.if-byte-eq10.true told in
    let some : 1 ≤ length left = omega (arith, ap length told, length-append (take 1 c.take.new.buf) later, length-take 1 c.take.new.buf) in
    line_ended old left later c.loop-at.line c.loop-at.at (has_some c.loop-at.at old left (so_far.rest tells) some) (omega (arith, so_far.sized)) (so_far.line tells)
    fed.0 (so_far.rest tells) fed.1

-- The buffer is full.
pub returns-clause-found : goal.returns-clause-found
returns-clause-found g c = λ tells.
    let old = g.K.Source.left c.args.source.now in
    let left = g.K.Source.left c.loop-at.source in
    let so_far = c.loop-at.invariant in
    let long : 1101 ≤ length (first_line old) =
    omega (arith, ap length (so_far.line tells), length-append (take c.loop-at.at c.loop-at.line) (first_line left), length-take c.loop-at.at c.loop-at.line, so_far.sized) in
    (first_line old, script_lines (drop (length (first_line old) + 1) old), lines_split old (first_within old (omega (arith, long))), omega (arith, long))
