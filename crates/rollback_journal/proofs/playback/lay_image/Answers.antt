use Rattle.std.proofs.Common.{◌≡◌, ◌-◌, ◌*◌, ℕ, List, sym, ◌∙◌, ap, subst, refl}
use Rattle.edge_model.specs.Files.{Files, number_of, contents}
use Rattle.edge_model.specs.Moments.{started_from, goes_from}
use Rattle.journal_format.specs.Records.{Record}
use Rattle.journal_format.specs.Segments.{played}
use Rattle.rollback_journal.specs.Laying.{page_start, IsOneOf}
use Rattle.rollback_journal.specs.Recovery.{KeepsRecovered, end_of}
use Rattle.rollback_journal.specs.Playing.{journal_of}
use Rattle.rollback_journal.proofs.Kept.{keeps_none, keeps_joins}
use Rattle.rollback_journal.proofs.Laid.{partly_torn, partly_at_first}
use Rattle.rollback_journal.proofs.MainSteps.{main_keeps, main_held, main_taken, with_number}
use Rattle.rollback_journal.proofs.playback.lay_image.Goals as goal

pub returns-in_err-write_at-clause-any_moment : goal.returns-in_err-write_at-clause-any_moment
returns-in_err-write_at-clause-any_moment g c told =
    let now = g.D.Disk.reads c.args.disk.now in
    let entry : Record = record { page = c.args.page; image = c.args.image.now } in
    let one : IsOneOf c.args.page_size entry (played c.args.page_size (journal_of now)) = c.requires.one told in
    let at_is : (c.args.page - 1) * c.args.page_size ≡ page_start c.args.page_size c.args.page = refl in
    goes_from g.met.D.Disk.counts_now (keeps_joins c.args.page_size)
    (λ d f here step.
    let play = c.requires.in_play told d here in
    let same : journal_of d ≡ journal_of now = ap contents play.held.journal in
    main_keeps c.args.page_size _ _ now d f c.requires.size.0
    (λ a b torn. partly_torn c.args.page_size (end_of c.args.page_size (journal_of d)) (played c.args.page_size (journal_of d)) entry a a b
    (subst (λ (j : List ℕ). IsOneOf c.args.page_size entry (played c.args.page_size j)) (sym same) one) c.requires.size.2
    (partly_at_first c.args.page_size (end_of c.args.page_size (journal_of d)) (played c.args.page_size (journal_of d)) a) torn)
    play (g.met.D.Disk.numbered c.args.disk.now d here) step)
    (started_from g.met.D.Disk.only_now c.args.disk.now (KeepsRecovered c.args.page_size) (keeps_none c.args.page_size)) (c.write_at.ensures.time told)
    (c.write_at.ensures.crash told)

pub returns-clause-any_moment : goal.returns-clause-any_moment
returns-clause-any_moment g c told =
    let now = g.D.Disk.reads c.args.disk.now in
    let entry : Record = record { page = c.args.page; image = c.args.image.now } in
    let one : IsOneOf c.args.page_size entry (played c.args.page_size (journal_of now)) = c.requires.one told in
    let at_is : (c.args.page - 1) * c.args.page_size ≡ page_start c.args.page_size c.args.page = refl in
    goes_from g.met.D.Disk.counts_now (keeps_joins c.args.page_size)
    (λ d f here step.
    let play = c.requires.in_play told d here in
    let same : journal_of d ≡ journal_of now = ap contents play.held.journal in
    main_keeps c.args.page_size _ _ now d f c.requires.size.0
    (λ a b torn. partly_torn c.args.page_size (end_of c.args.page_size (journal_of d)) (played c.args.page_size (journal_of d)) entry a a b
    (subst (λ (j : List ℕ). IsOneOf c.args.page_size entry (played c.args.page_size j)) (sym same) one) c.requires.size.2
    (partly_at_first c.args.page_size (end_of c.args.page_size (journal_of d)) (played c.args.page_size (journal_of d)) a) torn)
    play (g.met.D.Disk.numbered c.args.disk.now d here) step)
    (started_from g.met.D.Disk.only_now c.args.disk.now (KeepsRecovered c.args.page_size) (keeps_none c.args.page_size)) (c.write_at.ensures.time told)
    (c.write_at.ensures.crash told)

pub returns-clause-in_play : goal.returns-clause-in_play
returns-clause-in_play g c told f left =
    let now = g.D.Disk.reads c.args.disk.now in
    let done = c.in_ok-write_at.ensures.done told in
    let from = c.write_at.ensures.crash told f left in
    let play = c.requires.in_play told from.0 from.1 in
    record {
      held = main_held _ _ now _ from.0 f (ap (λ (x : Files). number_of x.main) done ∙ with_number _ now.main) (ap (λ (x : Files). x.journal) done)
          (ap (λ (x : Files). x.fresh) done) (g.met.D.Disk.numbered c.args.disk.now from.0 from.1) play.held from.2;
      taken = main_taken c.args.page_size _ now from.0 f (λ a b torn. torn.no_shorter) play.taken from.2;
    }
