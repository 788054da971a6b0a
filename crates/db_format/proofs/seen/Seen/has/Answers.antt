use Rattle.std.proofs.Common.{◌∙◌, sym}
use Rattle.db_format.proofs.SeenLemmas.{room, has_bit, past}
use Rattle.db_format.proofs.seen.Seen.has.Goals as goal

pub bit-requires : goal.bit-requires
bit-requires c =
    room c.self.inside c.args.self.now c.self.view_is c.args.n c.deref.result.now c.deref.ensures.value c.if-n-self.false c.self.invariant

pub returns-then-n-self : goal.returns-then-n-self
returns-then-n-self c = sym (past c.self.inside c.args.self.now c.self.view_is c.args.n c.if-n-self.true)

pub returns : goal.returns
returns c =
    c.bit.ensures ∙ has_bit c.self.inside c.args.self.now c.self.view_is c.args.n c.deref.result.now c.deref.ensures.value c.if-n-self.false
