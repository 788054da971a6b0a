use Rattle.std.proofs.Common.{◌≡◌, ◌+◌, ◌∙◌, ap, arith, subst, sym}
use Rattle.db_format.specs.Pages.{Pages}
use Rattle.db_format.specs.Seen.{marked}
use Rattle.edge_model.specs.Files.{main_of}
use Rattle.pager.specs.Causes.{MayRefuse}
use Rattle.pager.specs.Pages.{opened_pages}
use Rattle.pager.specs.Reads.{disk_then_read, then_untouched}
use Rattle.pager.proofs.BatchLemmas.{number_is}
use Rattle.pager.proofs.Refusals.{read_refusal}
use Rattle.rekey_job.proofs.Stopped.{accepted_more, first_refused}
use Rattle.rekey_job.proofs.check.check_tags.Goals as goal

pub returns-in-Err-clause-read : goal.returns-in-Err-clause-read
returns-in-Err-clause-read g c =
    let p = c.loop-done.pager in
    let n = c.loop-done.done + 1 in
    read_refusal g.D.Disk.tells (opened_pages p.codec (main_of (g.D.Disk.reads p.disk.now)) p.count) n c.in-Err.error
    (number_is p.count n (omega arith) (omega (arith, c.loop-done.invariant.count))) c.in-Err.ensures.refused.1

pub returns-in-Err-clause-refused : goal.returns-in-Err-clause-refused
returns-in-Err-clause-refused g c = λ n is told.
    let p = c.loop-done.pager in
    let old = c.args.pager.now in
    let before = c.loop-done.invariant in
    let stays = (before.disk.only_read told).stays in
    let pages : Pages = opened_pages old.codec (main_of (g.D.Disk.reads old.disk.now)) old.count in
    let same : opened_pages p.codec (main_of (g.D.Disk.reads p.disk.now)) p.count ≡ pages =
    (λ t. opened_pages (before.codec t) (main_of (stays t)) (before.count t)) in
    first_refused g.D.Disk.tells pages (marked c.args.leaves.now.leaves) c.loop-done.done c.in-Err.error (before.accepted told)
    c.in-Err.ensures.refused.0
    (subst (λ (l : Pages). MayRefuse g.D.Disk.tells l (c.loop-done.done + 1) c.in-Err.error) same c.in-Err.ensures.refused.1) n is told

pub loop-done-preserved : goal.loop-done-preserved
loop-done-preserved g c =
    let p = c.loop-done.pager in
    let old = c.args.pager.now in
    let before = c.loop-done.invariant in
    let pages : Pages = opened_pages old.codec (main_of (g.D.Disk.reads old.disk.now)) old.count in
    record {
      accepted = λ told.
          let stays = (before.disk.only_read told).stays in
          let same : opened_pages p.codec (main_of (g.D.Disk.reads p.disk.now)) p.count ≡ pages =
          (λ t. opened_pages (before.codec t) (main_of (stays t)) (before.count t)) in
          accepted_more pages (marked c.args.leaves.now.leaves) c.loop-done.done (before.accepted told)
          (λ used. ap (λ (l : Pages). l.accepts (c.loop-done.done + 1)) (sym same) ∙ c.in-Ok.ensures.accepted told used);
      disk = disk_then_read before.disk c.check_tag.ensures.disk;
      entropy = then_untouched before.entropy c.check_tag.ensures.entropy;
      codec = c.check_tag.ensures.file.0 ∙ before.codec;
      count = c.check_tag.ensures.file.1 ∙ before.count;
    }

pub returns-clause-accepted : goal.returns-clause-accepted
returns-clause-accepted g c = λ told n some most used.
    c.loop-done.invariant.accepted told n some (omega (arith, most, c.loop-done-test.false, c.loop-done.auto.done-end, c.pages-pages.ensures)) used
