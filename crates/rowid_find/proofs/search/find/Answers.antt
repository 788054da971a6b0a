use Rattle.std.proofs.Common.{subst}
use Rattle.rowid_find.specs.Reach.{reach_all}
use Rattle.rowid_find.specs.Search.{AreRowsFound}
use Rattle.rowid_find.proofs.Bounds.{one_rowid}
use Rattle.rowid_find.proofs.SoundFound.{sound_found}
use Rattle.rowid_find.proofs.WantedSteps.{passed2}
use Rattle.rowid_find.proofs.search.find.Goals as goal

pub returns-clause-on : goal.returns-clause-on
returns-clause-on g c told =
    let found : AreRowsFound g.S.PageSource.refuses (g.S.PageSource.plain c.args.source.now.source.now) g.K.Sink.tells (reach_all (g.S.PageSource.plain c.args.source.now.source.now) c.args.low c.args.high c.args.root) (g.K.Sink.taken c.args.out.now) (g.K.Sink.taken c.find_rows.new.out) c.args.source.now.reads c.find_rows.new.source.reads c.find_rows.result =
    subst (λ l. AreRowsFound g.S.PageSource.refuses (g.S.PageSource.plain c.args.source.now.source.now) g.K.Sink.tells l (g.K.Sink.taken c.args.out.now) (g.K.Sink.taken c.find_rows.new.out) c.args.source.now.reads c.find_rows.new.source.reads c.find_rows.result)
    (passed2 (λ a b. reach_all (g.S.PageSource.plain c.args.source.now.source.now) a b c.args.root) c.args.low c.args.high c.ranges.low c.ranges.high) (c.find_rows.ensures.on told) in
    found

pub returns-clause-sound : goal.returns-clause-sound
returns-clause-sound g c told sound =
    let found : AreRowsFound g.S.PageSource.refuses (g.S.PageSource.plain c.args.source.now.source.now) g.K.Sink.tells (reach_all (g.S.PageSource.plain c.args.source.now.source.now) c.args.low c.args.high c.args.root) (g.K.Sink.taken c.args.out.now) (g.K.Sink.taken c.find_rows.new.out) c.args.source.now.reads c.find_rows.new.source.reads c.find_rows.result =
    subst (λ l. AreRowsFound g.S.PageSource.refuses (g.S.PageSource.plain c.args.source.now.source.now) g.K.Sink.tells l (g.K.Sink.taken c.args.out.now) (g.K.Sink.taken c.find_rows.new.out) c.args.source.now.reads c.find_rows.new.source.reads c.find_rows.result)
    (passed2 (λ a b. reach_all (g.S.PageSource.plain c.args.source.now.source.now) a b c.args.root) c.args.low c.args.high c.ranges.low c.ranges.high) (c.find_rows.ensures.on told) in
    sound_found g.S.PageSource.refuses (g.S.PageSource.plain c.args.source.now.source.now) c.args.root c.args.low c.args.high g.K.Sink.tells (g.K.Sink.taken c.args.out.now) (g.K.Sink.taken c.find_rows.new.out)
    c.args.source.now.reads c.find_rows.new.source.reads c.find_rows.result sound found

pub returns-clause-few : goal.returns-clause-few
returns-clause-few g c told same =
    let found : AreRowsFound g.S.PageSource.refuses (g.S.PageSource.plain c.args.source.now.source.now) g.K.Sink.tells (reach_all (g.S.PageSource.plain c.args.source.now.source.now) c.args.low c.args.high c.args.root) (g.K.Sink.taken c.args.out.now) (g.K.Sink.taken c.find_rows.new.out) c.args.source.now.reads c.find_rows.new.source.reads c.find_rows.result =
    subst (λ l. AreRowsFound g.S.PageSource.refuses (g.S.PageSource.plain c.args.source.now.source.now) g.K.Sink.tells l (g.K.Sink.taken c.args.out.now) (g.K.Sink.taken c.find_rows.new.out) c.args.source.now.reads c.find_rows.new.source.reads c.find_rows.result)
    (passed2 (λ a b. reach_all (g.S.PageSource.plain c.args.source.now.source.now) a b c.args.root) c.args.low c.args.high c.ranges.low c.ranges.high) (c.find_rows.ensures.on told) in
    one_rowid g.S.PageSource.refuses (g.S.PageSource.plain c.args.source.now.source.now) c.args.low c.args.high c.args.root g.K.Sink.tells (g.K.Sink.taken c.args.out.now) (g.K.Sink.taken c.find_rows.new.out)
    c.args.source.now.reads c.find_rows.new.source.reads c.find_rows.result same found
