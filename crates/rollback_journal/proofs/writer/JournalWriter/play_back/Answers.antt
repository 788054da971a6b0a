use Rattle.std.proofs.Common.{ℕ, List, sym, ◌∙◌, ap, subst}
use Rattle.edge_model.specs.Files.{Files, main_of}
use Rattle.edge_model.specs.Images.{From, LeavesOnly}
use Rattle.edge_model.specs.Moments.{started_from, goes_less, then_from}
use Rattle.journal_format.specs.Records.{Record}
use Rattle.journal_format.specs.Segments.{played}
use Rattle.rollback_journal.specs.Laying.{laid}
use Rattle.rollback_journal.specs.Recovery.{KeepsRecovered}
use Rattle.rollback_journal.specs.Playing.{journal_of, IsInPlay}
use Rattle.rollback_journal.proofs.Kept.{keeps_none, keeps_joins}
use Rattle.rollback_journal.specs.Writing.{Writing}
use Rattle.rollback_journal.proofs.LayingBack.{in_play, now_played}
use Rattle.rollback_journal.proofs.writer.JournalWriter.play_back.Goals as goal

pub play-requires-clause-in_play : goal.play-requires-clause-in_play
play-requires-clause-in_play g c told f here =
    let w = c.args.self.now in
    let old = g.D.Disk.reads c.args.disk.now in
    let was = (c.length.ensures.crash told).no_more f here in
    subst (λ (n : ℕ). IsInPlay n (g.D.Disk.reads c.length.new.self) f) (sym (ap (λ (s : Writing). s.page_size) c.self.view_is))
    (subst (λ (x : Files). IsInPlay w.page_size x f) (sym (c.length.ensures.same told))
    (in_play w old (g.D.Disk.images c.args.disk.now) (c.requires.stands told) c.requires.begun c.requires.stage f was (c.requires.pages told f was) (c.requires.held told f was)))

pub returns-in_err-play-clause-any_moment : goal.returns-in_err-play-clause-any_moment
returns-in_err-play-clause-any_moment g c told =
    let size = c.args.self.now.page_size in
    let start = started_from g.met.D.Disk.only_now c.args.disk.now (KeepsRecovered size) (keeps_none size) in
    let measured = goes_less g.met.D.Disk.counts_now start (c.length.ensures.time told) (c.length.ensures.crash told).no_more in
    then_from g.met.D.Disk.counts_now (keeps_joins size) measured
    (subst (λ (n : ℕ). LeavesOnly g.D.Disk.moment g.D.Disk.since c.length.new.self c.play.new.disk (From (KeepsRecovered n) (g.D.Disk.images c.length.new.self))) (ap (λ (s : Writing). s.page_size) c.self.view_is) (c.play.ensures.any_moment told))

pub returns-clause-laid : goal.returns-clause-laid
returns-clause-laid g c told =
    let w = c.args.self.now in
    let old = g.D.Disk.reads c.args.disk.now in
    let mid = g.D.Disk.reads c.length.new.self in
    c.in_ok-play.ensures.laid told
    ∙ ap (λ (n : ℕ). laid n (played n (journal_of mid)) (main_of mid)) (ap (λ (s : Writing). s.page_size) c.self.view_is)
    ∙ ap (λ (x : Files). laid w.page_size (played w.page_size (journal_of x)) (main_of x)) (c.length.ensures.same told)
    ∙ ap (λ (rs : List Record). laid w.page_size rs (main_of old)) (now_played w old (g.D.Disk.images c.args.disk.now) (c.requires.stands told) c.requires.begun c.requires.stage (g.met.D.Disk.reads_now c.args.disk.now))

pub returns-clause-any_moment : goal.returns-clause-any_moment
returns-clause-any_moment g c told =
    let size = c.args.self.now.page_size in
    let start = started_from g.met.D.Disk.only_now c.args.disk.now (KeepsRecovered size) (keeps_none size) in
    let measured = goes_less g.met.D.Disk.counts_now start (c.length.ensures.time told) (c.length.ensures.crash told).no_more in
    then_from g.met.D.Disk.counts_now (keeps_joins size) measured
    (subst (λ (n : ℕ). LeavesOnly g.D.Disk.moment g.D.Disk.since c.length.new.self c.play.new.disk (From (KeepsRecovered n) (g.D.Disk.images c.length.new.self))) (ap (λ (s : Writing). s.page_size) c.self.view_is) (c.play.ensures.any_moment told))
