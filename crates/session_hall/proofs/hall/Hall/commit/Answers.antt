use Rattle.std.proofs.Common.{◌≡◌, ◌∙◌, ◌<◌, true, length, inl, sym, ap, subst, arith}
use Rattle.edge_model.specs.Moments.{started}
use Rattle.edge_model.specs.Files.{main_of}
use Rattle.session_hall.specs.Commit.{Commitment, CommitsTo}
use Rattle.session_hall.specs.Draws.{CommitDraws, TellsDraws}
use Rattle.session_hall.specs.Kept.{IsSessionSound, StandsAsRead}
use Rattle.session_hall.specs.Locks.{is_holding}
use Rattle.session_hall.specs.Machine.{state}
use Rattle.session_hall.specs.Session.{Session, session_at}
use Rattle.session_hall.proofs.Answers.{commit_answered, commit_draws, commit_leaves}
use Rattle.session_hall.proofs.Places.{at_place}
use Rattle.session_hall.proofs.Sound.{read_leaves, writing_holds}
use Rattle.session_hall.proofs.hall.Hall.commit.Goals as goal

pub returns-then-not-may_commit-clause-any_moment : goal.returns-then-not-may_commit-clause-any_moment
returns-then-not-may_commit-clause-any_moment g c = λ told.
    let d = g.D.Disk in
    let s = c.args.self.now in
    inl (started g.met.D.Disk.only_now s.disk.now (StandsAsRead (d.reads s.disk.now)) (c.requires.kept told).settled.stands)

pub returns-then-other_has-clause-any_moment : goal.returns-then-other_has-clause-any_moment
returns-then-other_has-clause-any_moment g c = λ told.
    let d = g.D.Disk in
    let s = c.args.self.now in
    inl (started g.met.D.Disk.only_now s.disk.now (StandsAsRead (d.reads s.disk.now)) (c.requires.kept told).settled.stands)

pub commit_session-answer-requires-clause-sound : goal.commit_session-answer-requires-clause-sound
commit_session-answer-requires-clause-sound g c = λ told.
    let s = c.args.self.now in
    let xs = s.sessions.items in
    let i = c.args.i in
    let file = main_of (g.D.Disk.reads s.disk.now) in
    let small : i < length xs = omega (arith, c.requires.number, s.many) in
    subst (IsSessionSound file) (sym (at_place xs i c.index_mut-2.result.now small c.index_mut-2.ensures.value)) ((c.requires.kept told).sound.each i small)

pub commit_session-answer-requires-clause-holds : goal.commit_session-answer-requires-clause-holds
commit_session-answer-requires-clause-holds g c =
    let s = c.args.self.now in
    let xs = s.sessions.items in
    let i = c.args.i in
    let small : i < length xs = omega (arith, c.requires.number, s.many) in
    subst (λ (x : Session). is_holding x.lock ≡ true) (sym (at_place xs i c.index_mut-2.result.now small c.index_mut-2.ensures.value))
    (writing_holds (session_at xs i).lock (sym c.may_commit.ensures ∙ c.if-not-may_commit.false))

pub returns-clause-told : goal.returns-clause-told
returns-clause-told g c = λ told.
    let d = g.D.Disk in
    let s = c.args.self.now in
    let xs = s.sessions.items in
    let i = c.args.i in
    let small : i < length xs = omega (arith, c.requires.number, s.many) in
    let done = c.commit_session-answer in
    commit_answered (state (d.reads s.disk.now) s.layout xs s.page) i done.result (main_of (d.reads done.new.disk)) done.new.session
    (sym c.may_commit.ensures ∙ c.if-not-may_commit.false) (c.other_has.ensures.no c.if-other_has.false)
    (subst (λ (x : Session). CommitsTo x (main_of (d.reads s.disk.now)) done.result (main_of (d.reads done.new.disk)) done.new.session)
    (at_place xs i c.index_mut-2.result.now small c.index_mut-2.ensures.value) (done.ensures.told told))

pub returns-clause-any_moment : goal.returns-clause-any_moment
returns-clause-any_moment g c = λ told.
    let d = g.D.Disk in
    let s = c.args.self.now in
    let xs = s.sessions.items in
    let i = c.args.i in
    let small : i < length xs = omega (arith, c.requires.number, s.many) in
    let done = c.commit_session-answer in
    commit_leaves d.reads d.moment d.since (session_at xs i) (TellsDraws g.E.Entropy.tells s.layout) (g.E.Entropy.drawn s.entropy.now) (g.E.Entropy.drawn done.new.entropy) s.disk.now done.new.disk done.result done.new.session
    (subst (λ (x : Session). CommitsTo x (main_of (d.reads s.disk.now)) done.result (main_of (d.reads done.new.disk)) done.new.session)
    (at_place xs i c.index_mut-2.result.now small c.index_mut-2.ensures.value) (done.ensures.told told))
    (λ is. read_leaves d.reads d.images d.moment d.since g.met.D.Disk.counts_now g.met.D.Disk.only_now s.disk.now done.new.disk (c.requires.kept told).settled (done.ensures.no_memory is told).1)
    (subst (λ (x : Session). Commitment d.moment d.since x (main_of (d.reads s.disk.now)) (TellsDraws g.E.Entropy.tells s.layout) (g.E.Entropy.drawn s.entropy.now) (g.E.Entropy.drawn done.new.entropy) s.disk.now done.new.disk)
    (at_place xs i c.index_mut-2.result.now small c.index_mut-2.ensures.value) (done.ensures.any_moment told))

pub returns-clause-drawn : goal.returns-clause-drawn
returns-clause-drawn g c = λ told draws.
    let d = g.D.Disk in
    let e = g.E.Entropy in
    let s = c.args.self.now in
    let xs = s.sessions.items in
    let i = c.args.i in
    let small : i < length xs = omega (arith, c.requires.number, s.many) in
    let done = c.commit_session-answer in
    subst (λ (x : Session). CommitDraws s.layout done.result x (main_of (d.reads done.new.disk)) (e.drawn s.entropy.now) (e.drawn done.new.entropy))
    (at_place xs i c.index_mut-2.result.now small c.index_mut-2.ensures.value)
    (commit_draws s.layout done.result c.index_mut-2.result.now done.new.session (main_of (d.reads s.disk.now)) (main_of (d.reads done.new.disk)) (e.drawn s.entropy.now) (e.drawn done.new.entropy)
    (done.ensures.told told) (λ is ciphered. done.ensures.drawn ciphered is told draws) (λ plain. ap e.drawn (done.ensures.undrawn plain).0) (λ is. ap e.drawn (done.ensures.no_memory is told).0))
