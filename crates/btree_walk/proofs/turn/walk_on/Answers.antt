use Rattle.std.proofs.Common.{sym, subst, ◌≡◌}
use Rattle.db_format.specs.Seen.{marked}
use Rattle.btree_model.specs.Tree.{tree_walk}
use Rattle.btree_walk.specs.Causes.{IsAmong, IsMarked}
use Rattle.btree_walk.specs.Cursor.{IsWalking}
use Rattle.btree_walk.proofs.CauseLemmas.{given_later}
use Rattle.btree_walk.proofs.turn.walk_on.Goals as goal

pub returns-in-Err-clause-given : goal.returns-in-Err-clause-given
returns-in-Err-clause-given g c =
    given_later g.S.PageSource.only_read g.S.PageSource.plain g.S.PageSource.refuses c.args.source.now c.loop-cursor.source c.in-Err.error g.met.S.PageSource.transitive
    (g.met.S.PageSource.same_count c.args.source.now c.loop-cursor.source c.loop-cursor.invariant.reads) c.loop-cursor.invariant.reads c.in-Err.ensures.given

pub returns-in-Err-clause-on : goal.returns-in-Err-clause-on
returns-in-Err-clause-on g c told taken given at =
    let same : g.S.PageSource.plain c.loop-cursor.source ≡ g.S.PageSource.plain c.args.source.now =
    g.met.S.PageSource.same_pages c.args.source.now c.loop-cursor.source c.loop-cursor.invariant.reads told
    in
    subst (λ r. IsAmong g.S.PageSource.refuses (g.S.PageSource.plain c.args.source.now) (tree_walk (g.S.PageSource.plain c.args.source.now) c.args.cursor.now.family taken r) c.in-Err.error) c.loop-cursor.invariant.same.root
    (subst (λ f. IsAmong g.S.PageSource.refuses (g.S.PageSource.plain c.args.source.now) (tree_walk (g.S.PageSource.plain c.args.source.now) f taken c.loop-cursor.cursor.root) c.in-Err.error) c.loop-cursor.invariant.same.family
    (subst (λ p. IsAmong g.S.PageSource.refuses p (tree_walk p c.loop-cursor.cursor.family taken c.loop-cursor.cursor.root) c.in-Err.error) same
    (c.in-Err.ensures.on told taken given
    (subst (λ p. IsWalking p taken given c.loop-cursor.cursor (marked c.loop-cursor.seen)) (sym same) (c.loop-cursor.invariant.on told taken given at)))))

pub returns-in-Err-clause-marks : goal.returns-in-Err-clause-marks
returns-in-Err-clause-marks g c told taken given at =
    let same : g.S.PageSource.plain c.loop-cursor.source ≡ g.S.PageSource.plain c.args.source.now =
    g.met.S.PageSource.same_pages c.args.source.now c.loop-cursor.source c.loop-cursor.invariant.reads told
    in
    subst (λ r. IsMarked (tree_walk (g.S.PageSource.plain c.args.source.now) c.args.cursor.now.family taken r) taken (marked c.take_turn.new.seen)) c.loop-cursor.invariant.same.root
    (subst (λ f. IsMarked (tree_walk (g.S.PageSource.plain c.args.source.now) f taken c.loop-cursor.cursor.root) taken (marked c.take_turn.new.seen)) c.loop-cursor.invariant.same.family
    (subst (λ p. IsMarked (tree_walk p c.loop-cursor.cursor.family taken c.loop-cursor.cursor.root) taken (marked c.take_turn.new.seen)) same
    (c.in-Err.ensures.marks told taken given
    (subst (λ p. IsWalking p taken given c.loop-cursor.cursor (marked c.loop-cursor.seen)) (sym same) (c.loop-cursor.invariant.on told taken given at)))))
