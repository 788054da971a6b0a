use Rattle.std.proofs.Common.{◌≡◌, ◌*◌, ℕ, List, ◌∙◌, ap, take}
use Rattle.edge_model.specs.Moments.{then_from}
use Rattle.rollback_journal.specs.Recovery.{end_of}
use Rattle.rollback_journal.specs.Playing.{journal_of}
use Rattle.rollback_journal.proofs.Kept.{keeps_joins}
use Rattle.rollback_journal.proofs.LaidBack.{laid_back}
use Rattle.rollback_journal.proofs.recovery.lay_back.Goals as goal
use Rattle.edge_model.specs.Files.{contents, main_of}

pub returns-in_err-finish_main-clause-any_moment : goal.returns-in_err-finish_main-clause-any_moment
returns-in_err-finish_main-clause-any_moment g c told =
    then_from g.met.D.Disk.counts_now (keeps_joins c.args.reading.now.page_size) (c.play.ensures.any_moment told) (c.finish_main.ensures.any_moment told)

pub close_gate-requires-clause-laid_back : goal.close_gate-requires-clause-laid_back
close_gate-requires-clause-laid_back g c told =
    let old = g.D.Disk.reads c.args.disk.now in
    let read = c.requires.read told in
    let j : journal_of (g.D.Disk.reads c.play.new.disk) ≡ journal_of old = ap contents (c.in_ok-records.ensures.journal told) in
    let size = c.args.reading.now.page_size in
    laid_back size old (g.D.Disk.reads c.finish_main.new.disk) c.requires.reading.page_low (c.requires.taken told)
    (c.in_ok-finish_main.ensures.journal told ∙ c.in_ok-records.ensures.journal told) (c.in_ok-finish_main.ensures.there told)
    (c.in_ok-finish_main.ensures.main told
    ∙ ap (λ (n : ℕ). take (n * size) (main_of (g.D.Disk.reads c.play.new.disk))) read.initial
    ∙ ap (λ (l : List ℕ). take (end_of size (journal_of old)) l) (c.in_ok-records.ensures.laid told))

pub returns-in_err-close_gate-clause-any_moment : goal.returns-in_err-close_gate-clause-any_moment
returns-in_err-close_gate-clause-any_moment g c told =
    then_from g.met.D.Disk.counts_now (keeps_joins c.args.reading.now.page_size)
    (then_from g.met.D.Disk.counts_now (keeps_joins c.args.reading.now.page_size) (c.play.ensures.any_moment told) (c.finish_main.ensures.any_moment told))
    (c.close_gate.ensures.any_moment told)

pub returns-clause-any_moment : goal.returns-clause-any_moment
returns-clause-any_moment g c told =
    then_from g.met.D.Disk.counts_now (keeps_joins c.args.reading.now.page_size)
    (then_from g.met.D.Disk.counts_now (keeps_joins c.args.reading.now.page_size) (c.play.ensures.any_moment told) (c.finish_main.ensures.any_moment told))
    (c.close_gate.ensures.any_moment told)
