use Rattle.std.proofs.Common.{◌∙◌, ◌≢◌, sym, ap, subst}
use Rattle.db_format.specs.Pages.{Test}
use Rattle.db_format.specs.Seen.{marked}
use Rattle.edge_model.specs.Files.{main_of}
use Rattle.pager.specs.Pages.{opened_pages}
use Rattle.pager.proofs.BatchLemmas.{number_in}
use Rattle.rekey_job.specs.Stops.{IsRekeyShown}
use Rattle.rekey_job.specs.declared.error.RekeyError.{RekeyError}
use Rattle.rekey_job.specs.declared.error.RekeyError.TheVariants.{LayoutDiffers, EntropyFault}
use Rattle.rekey_job.proofs.Checked.{all_met, leaves_are}
use Rattle.rekey_job.proofs.Stopped.{reading_error, tags_shown}
use Rattle.rekey_job.proofs.check.check_others.Goals as goal

pub returns-then-unused-eq0-clause-clean : goal.returns-then-unused-eq0-clause-clean
returns-then-unused-eq0-clause-clean g c told =
    let p = c.args.pager.now in
    all_met (opened_pages p.codec (main_of (g.D.Disk.reads p.disk.now)) p.count) c.args.census (c.requires.whole told) c.if-unused-eq0.true

pub returns-then-unused-eq0-clause-leaves : goal.returns-then-unused-eq0-clause-leaves
returns-then-unused-eq0-clause-leaves g c told n =
    let p = c.args.pager.now in
    ap (λ (t : Test). t n) (leaves_are (opened_pages p.codec (main_of (g.D.Disk.reads p.disk.now)) p.count) c.args.census (c.requires.whole told))

pub returns-in-Ok-clause-clean : goal.returns-in-Ok-clause-clean
returns-in-Ok-clause-clean g c told =
    let p = c.args.pager.now in
    let pages = opened_pages p.codec (main_of (g.D.Disk.reads p.disk.now)) p.count in
    let whole = c.requires.whole told in
    record {
      sound = whole.sound;
      accepted = λ n range used.
          let within = number_in p.count n range in
          c.in-Ok.ensures.accepted told n within.0 within.1 (ap (λ (t : Test). t n) (leaves_are pages c.args.census whole) ∙ used);
    }

pub returns-in-Ok-clause-leaves : goal.returns-in-Ok-clause-leaves
returns-in-Ok-clause-leaves g c told n =
    let p = c.args.pager.now in
    ap (λ (t : Test). t n) (leaves_are (opened_pages p.codec (main_of (g.D.Disk.reads p.disk.now)) p.count) c.args.census (c.requires.whole told))

pub returns-clause-shown : goal.returns-clause-shown
returns-clause-shown g c told =
    let p = c.args.pager.now in
    let pages = opened_pages p.codec (main_of (g.D.Disk.reads p.disk.now)) p.count in
    let whole = c.requires.whole told in
    subst (λ (e : RekeyError). IsRekeyShown pages e) (sym c.read_error.ensures)
    (tags_shown pages (marked c.args.census.leaves.leaves) c.in-Err.error whole.sound (leaves_are pages c.args.census whole)
    (λ n is. c.in-Err.ensures.refused n is told))

pub returns-clause-reading : goal.returns-clause-reading
returns-clause-reading g c = subst (λ (e : RekeyError). (e ≢ LayoutDiffers) × (e ≢ EntropyFault)) (sym c.read_error.ensures) (reading_error c.in-Err.error c.in-Err.ensures.read)
