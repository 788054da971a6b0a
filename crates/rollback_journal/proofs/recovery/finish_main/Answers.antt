use Rattle.std.proofs.Common.{◌≡◌, ℕ, List, sym, ◌∙◌, ap, subst}
use Rattle.edge_model.specs.Files.{Files, number_of, Shorter, contents}
use Rattle.edge_model.specs.Moments.{started_from, goes_from, goes_less}
use Rattle.journal_format.specs.Segments.{played}
use Rattle.rollback_journal.specs.Laying.{IsPartly}
use Rattle.rollback_journal.specs.Recovery.{KeepsRecovered, end_of}
use Rattle.rollback_journal.specs.Playing.{journal_of}
use Rattle.rollback_journal.proofs.Kept.{keeps_none, keeps_joins}
use Rattle.rollback_journal.proofs.Laid.{partly_cut, partly_at_first}
use Rattle.rollback_journal.proofs.MainSteps.{main_keeps, main_held, with_number}
use Rattle.rollback_journal.proofs.recovery.finish_main.Goals as goal

cut_partly : (size end : ℕ) (j k : List ℕ) → end ≡ end_of size j → k ≡ j → (a b : List ℕ) → Shorter end a b → IsPartly size (end_of size k) (played size k) a b
cut_partly size end j k is same a b cut =
    partly_cut size (end_of size k) (played size k) a a b (partly_at_first size (end_of size k) (played size k) a)
    (subst (λ (n : ℕ). Shorter n a b) (is ∙ ap (λ (l : List ℕ). end_of size l) (sym same)) cut)

pub returns-in_err-cut-clause-any_moment : goal.returns-in_err-cut-clause-any_moment
returns-in_err-cut-clause-any_moment g c told =
    let now = g.D.Disk.reads c.args.disk.now in
    goes_from g.met.D.Disk.counts_now (keeps_joins c.args.page_size)
    (λ d f here step.
    let play = c.requires.in_play told d here in
    main_keeps c.args.page_size _ _ now d f c.requires.size
    (cut_partly c.args.page_size c.args.end (journal_of now) (journal_of d) (c.requires.end told) (ap contents play.held.journal)) play
    (g.met.D.Disk.numbered c.args.disk.now d here) step)
    (started_from g.met.D.Disk.only_now c.args.disk.now (KeepsRecovered c.args.page_size) (keeps_none c.args.page_size)) (c.cut.ensures.time told)
    (c.cut.ensures.crash told)

pub returns-clause-any_moment : goal.returns-clause-any_moment
returns-clause-any_moment g c told =
    let now = g.D.Disk.reads c.args.disk.now in
    goes_less g.met.D.Disk.counts_now (goes_from g.met.D.Disk.counts_now (keeps_joins c.args.page_size)
    (λ d f here step.
    let play = c.requires.in_play told d here in
    main_keeps c.args.page_size _ _ now d f c.requires.size
    (cut_partly c.args.page_size c.args.end (journal_of now) (journal_of d) (c.requires.end told) (ap contents play.held.journal)) play
    (g.met.D.Disk.numbered c.args.disk.now d here) step)
    (started_from g.met.D.Disk.only_now c.args.disk.now (KeepsRecovered c.args.page_size) (keeps_none c.args.page_size)) (c.cut.ensures.time told)
    (c.cut.ensures.crash told))
    (c.sync.ensures.time told) (c.sync.ensures.crash told)

pub returns-clause-settled : goal.returns-clause-settled
returns-clause-settled g c told f left =
    let now = g.D.Disk.reads c.args.disk.now in
    let same = c.sync.ensures.same told in
    let done = same ∙ c.in_ok-cut.ensures.done told in
    let synced = c.in_ok-sync.ensures.done told f left in
    let from = c.cut.ensures.crash told f (c.sync.ensures.crash told f left) in
    let play = c.requires.in_play told from.0 from.1 in
    let held = main_held _ _ now (g.D.Disk.reads c.sync.new.self) from.0 f (ap (λ (x : Files). number_of x.main) done ∙ with_number _ now.main)
    (ap (λ (x : Files). x.journal) done) (ap (λ (x : Files). x.fresh) done)
    (g.met.D.Disk.numbered c.args.disk.now from.0 from.1) play.held from.2 in
    record {
      main = synced.main (held.names.main ∙ ap (λ (x : Files). number_of x.main) same) ∙ sym (ap (λ (x : Files). x.main) same);
      journal = held.journal;
      names = held.names;
    }

pub returns-in_err-sync-clause-any_moment : goal.returns-in_err-sync-clause-any_moment
returns-in_err-sync-clause-any_moment g c told =
    let now = g.D.Disk.reads c.args.disk.now in
    goes_less g.met.D.Disk.counts_now (goes_from g.met.D.Disk.counts_now (keeps_joins c.args.page_size)
    (λ d f here step.
    let play = c.requires.in_play told d here in
    main_keeps c.args.page_size _ _ now d f c.requires.size
    (cut_partly c.args.page_size c.args.end (journal_of now) (journal_of d) (c.requires.end told) (ap contents play.held.journal)) play
    (g.met.D.Disk.numbered c.args.disk.now d here) step)
    (started_from g.met.D.Disk.only_now c.args.disk.now (KeepsRecovered c.args.page_size) (keeps_none c.args.page_size)) (c.cut.ensures.time told)
    (c.cut.ensures.crash told))
    (c.sync.ensures.time told) (c.sync.ensures.crash told)
