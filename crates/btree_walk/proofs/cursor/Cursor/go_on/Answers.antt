use Rattle.std.proofs.Common.{◌≡◌, MatchResult, sym, subst}
use Rattle.db_format.specs.Seen.{marked}
use Rattle.btree_model.specs.Tree.{tree_walk}
use Rattle.btree_walk.specs.Causes.{IsAmong, IsMarked}
use Rattle.btree_walk.specs.Cursor.{IsAtStage, IsCursorBegun, IsUnmoved, IsWalking, given_then, row_of}
use Rattle.btree_walk.proofs.CauseLemmas.{if_err_map, if_given_later}
use Rattle.btree_walk.proofs.CursorLemmas.{advanced, of_family, walked_same}
use Rattle.btree_walk.proofs.cursor.Cursor.go_on.Goals as goal

pub returns-in-Ok-clause-given : goal.returns-in-Ok-clause-given
returns-in-Ok-clause-given g c =
    if_given_later g.S.PageSource.only_read g.S.PageSource.plain g.S.PageSource.refuses c.args.source.now c.begin.new.source c.walk_on.result g.met.S.PageSource.transitive
    (g.met.S.PageSource.same_count c.args.source.now c.begin.new.source c.in-Ok.ensures.reads) c.in-Ok.ensures.reads c.walk_on.ensures.given

pub returns-in-Ok-clause-on : goal.returns-in-Ok-clause-on
returns-in-Ok-clause-on g c told taken given at =
    let same : g.S.PageSource.plain c.begin.new.source ≡ g.S.PageSource.plain c.args.source.now =
    g.met.S.PageSource.same_pages c.args.source.now c.begin.new.source c.in-Ok.ensures.reads told
    in
    let new : IsUnmoved taken given c.args.self.now (marked c.args.seen.now) =
    subst (λ s. IsAtStage s (g.S.PageSource.plain c.args.source.now) taken given c.args.self.now (marked c.args.seen.now)) c.in-New.is at
    in
    let begun : IsCursorBegun (g.S.PageSource.plain c.args.source.now) taken given c.begin.new.cursor (marked c.begin.new.seen) = c.in-Ok.ensures.on told taken given new in
    advanced g.S.PageSource.refuses (g.S.PageSource.plain c.args.source.now) taken given c.begin.new.cursor c.walk_on.new.cursor (marked c.begin.new.seen) (marked c.walk_on.new.seen)
    c.walk_on.ensures.same c.in-Ok.ensures.begun begun c.walk_on.result
    (subst (λ p. MatchResult c.walk_on.result (λ more. IsWalking p taken (given_then given (row_of c.walk_on.new.cursor) more) c.walk_on.new.cursor (marked c.walk_on.new.seen)) (IsAmong g.S.PageSource.refuses p (tree_walk p c.begin.new.cursor.family taken c.begin.new.cursor.root))) same
    (c.walk_on.ensures.on told taken given
    (subst (λ p. IsWalking p taken given c.begin.new.cursor (marked c.begin.new.seen)) (sym same) begun.walking)))
    c.walk_on.ensures.end

pub returns-in-Inside-clause-on : goal.returns-in-Inside-clause-on
returns-in-Inside-clause-on g c told taken given at =
    let begun : IsCursorBegun (g.S.PageSource.plain c.args.source.now) taken given c.args.self.now (marked c.args.seen.now) =
    subst (λ s. IsAtStage s (g.S.PageSource.plain c.args.source.now) taken given c.args.self.now (marked c.args.seen.now)) c.in-Inside.is at
    in
    advanced g.S.PageSource.refuses (g.S.PageSource.plain c.args.source.now) taken given c.args.self.now c.walk_on-in-Inside.new.cursor (marked c.args.seen.now) (marked c.walk_on-in-Inside.new.seen)
    c.walk_on-in-Inside.ensures.same c.in-Inside.is begun c.walk_on-in-Inside.result (c.walk_on-in-Inside.ensures.on told taken given begun.walking) c.walk_on-in-Inside.ensures.end

pub returns-in-Err-clause-marks : goal.returns-in-Err-clause-marks
returns-in-Err-clause-marks g c told taken given at =
    c.in-Err.ensures.marks told taken given (subst (λ s. IsAtStage s (g.S.PageSource.plain c.args.source.now) taken given c.args.self.now (marked c.args.seen.now)) c.in-New.is at)

pub returns-in-Ok-clause-marks : goal.returns-in-Ok-clause-marks
returns-in-Ok-clause-marks g c =
    if_err_map _ _ c.walk_on.result (λ error marks told taken given at.
    let same : g.S.PageSource.plain c.begin.new.source ≡ g.S.PageSource.plain c.args.source.now =
    g.met.S.PageSource.same_pages c.args.source.now c.begin.new.source c.in-Ok.ensures.reads told
    in
    let new : IsUnmoved taken given c.args.self.now (marked c.args.seen.now) =
    subst (λ s. IsAtStage s (g.S.PageSource.plain c.args.source.now) taken given c.args.self.now (marked c.args.seen.now)) c.in-New.is at
    in
    let begun : IsCursorBegun (g.S.PageSource.plain c.args.source.now) taken given c.begin.new.cursor (marked c.begin.new.seen) = c.in-Ok.ensures.on told taken given new in
    subst (λ l. IsMarked l taken (marked c.walk_on.new.seen)) (walked_same (g.S.PageSource.plain c.args.source.now) taken c.args.self.now c.begin.new.cursor c.in-Ok.ensures.same)
    (subst (λ l. IsMarked l taken (marked c.walk_on.new.seen)) (sym (of_family (g.S.PageSource.plain c.args.source.now) taken given c.begin.new.cursor (marked c.begin.new.seen) begun))
    (subst (λ p. IsMarked (tree_walk p c.begin.new.cursor.family taken c.begin.new.cursor.root) taken (marked c.walk_on.new.seen)) same
    (marks told taken given (subst (λ p. IsWalking p taken given c.begin.new.cursor (marked c.begin.new.seen)) (sym same) begun.walking)))))
    c.walk_on.ensures.marks

pub returns-in-Inside-clause-marks : goal.returns-in-Inside-clause-marks
returns-in-Inside-clause-marks g c =
    if_err_map _ _ c.walk_on-in-Inside.result (λ error marks told taken given at.
    let begun : IsCursorBegun (g.S.PageSource.plain c.args.source.now) taken given c.args.self.now (marked c.args.seen.now) =
    subst (λ s. IsAtStage s (g.S.PageSource.plain c.args.source.now) taken given c.args.self.now (marked c.args.seen.now)) c.in-Inside.is at
    in
    subst (λ l. IsMarked l taken (marked c.walk_on-in-Inside.new.seen)) (sym (of_family (g.S.PageSource.plain c.args.source.now) taken given c.args.self.now (marked c.args.seen.now) begun))
    (marks told taken given begun.walking))
    c.walk_on-in-Inside.ensures.marks
