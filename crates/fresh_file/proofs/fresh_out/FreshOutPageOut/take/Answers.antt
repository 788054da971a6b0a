use Rattle.std.proofs.Common.{◌∙◌, ◌+◌, List, ℕ, ap, arith}
use Rattle.db_format.specs.Seen.{marked}
use Rattle.fresh_file.specs.Fresh.{fresh_page}
use Rattle.fresh_file.specs.State.{page_as_held}
use Rattle.fresh_file.proofs.HeldLaws.{once_as, page_as}
use Rattle.fresh_file.proofs.fresh_out.FreshOutPageOut.take.Goals as goal

pub returns-clause-well : goal.returns-clause-well
returns-clause-well g c start was =
    let old = c.args.self.now.state.now in
    let new = c.take.new.self in
    let same = c.take.ensures in
    once_as old.codec new.codec old.held new.held old.put new.put same.codec same.held same.put (old.taken + 1) (new.taken + 1) start _ _ _ _ (omega (arith, same.more)) was

pub returns-clause-told : goal.returns-clause-told
returns-clause-told g c start was k =
    let old = c.args.self.now.state.now in
    let new = c.take.new.self in
    let same = c.take.ensures in
    let fresh = g.T.Side.fresh c.args.self.now.side.now in
    ap (λ (l : List ℕ). fresh_page new.codec l (marked new.put) (page_as_held new.codec new.held) fresh k) same.first.1
    ∙ page_as old.codec new.codec old.held new.held old.put new.put same.codec same.held same.put old.first.items fresh k
