use Rattle.std.proofs.Common.{◌≡◌, ◌≤◌, ◌+◌, arith, ap, sym, subst, ◌∙◌}
use Rattle.db_format.specs.Pages.{Pages}
use Rattle.edge_model.specs.Files.{Files}
use Rattle.pager.specs.Reads.{not_read, then_read}
use Rattle.salvage_scan.specs.Salvage.{file_pages}
use Rattle.salvage_scan.proofs.PageSteps.{all_refused, is_accepted, none_refused, one_more_refused}
use Rattle.salvage_scan.proofs.salvaging.has_accepted.Goals as goal

pub loop-done-init : goal.loop-done-init
loop-done-init g c =
    record {
      rooms = c.requires.rooms;
      later = omega arith;
      only_read = λ told. not_read c.args.disk.now;
      refused = λ told. none_refused (file_pages c.args.codec.now (g.D.Disk.reads c.args.disk.now));
    }

pub open-requires-clause-high : goal.open-requires-clause-high
open-requires-clause-high g c told =
    let same : g.D.Disk.reads c.loop-done.disk ≡ g.D.Disk.reads c.args.disk.now = (c.loop-done.invariant.only_read told).stays in
    let all = c.requires.pages told in
    let less = c.loop-done-test.true in
    subst (λ (files : Files). c.loop-done.done + 1 ≤ (file_pages c.args.codec.now files).count) (sym same) (omega (arith, all, less))

pub returns-in-Ok-true-clause-some : goal.returns-in-Ok-true-clause-some
returns-in-Ok-true-clause-some g c is told tagged =
    let pages : Pages = file_pages c.args.codec.now (g.D.Disk.reads c.args.disk.now) in
    let same : g.D.Disk.reads c.loop-done.disk ≡ g.D.Disk.reads c.args.disk.now = (c.loop-done.invariant.only_read told).stays in
    let all = c.requires.pages told in
    let less = c.loop-done-test.true in
    is_accepted pages (c.loop-done.done + 1) (omega arith) (omega (arith, all, less))
    (ap (λ (files : Files). (file_pages c.args.codec.now files).accepts (c.loop-done.done + 1)) (sym same) ∙ sym (c.in-Ok-true.ensures.accepted told) ∙ c.in-Ok-true.field-0-test)

pub loop-done-preserved : goal.loop-done-preserved
loop-done-preserved g c =
    record {
      rooms = c.in-Ok-false.ensures.rooms;
      later = let before = c.loop-done.invariant.later in let more = c.in-Ok-false.ensures.cause.later in omega (arith, before, more);
      only_read = λ told. then_read (c.loop-done.invariant.only_read told) (c.in-Ok-false.ensures.only_read told);
      refused = λ told.
          let same : g.D.Disk.reads c.loop-done.disk ≡ g.D.Disk.reads c.args.disk.now = (c.loop-done.invariant.only_read told).stays in
          one_more_refused (file_pages c.args.codec.now (g.D.Disk.reads c.args.disk.now)) c.loop-done.done (c.loop-done.invariant.refused told)
          (ap (λ (files : Files). (file_pages c.args.codec.now files).accepts (c.loop-done.done + 1)) (sym same) ∙ sym (c.in-Ok-false.ensures.accepted told) ∙ c.in-Ok-false.field-0-test);
    }

pub returns-clause-none : goal.returns-clause-none
returns-clause-none g c not told =
    let past = c.loop-done-test.false in
    let all = c.requires.pages told in
    all_refused (file_pages c.args.codec.now (g.D.Disk.reads c.args.disk.now)) c.loop-done.done (omega (arith, past, all)) (c.loop-done.invariant.refused told)

pub returns-in-Err-clause-only_read : goal.returns-in-Err-clause-only_read
returns-in-Err-clause-only_read g c told = then_read (c.loop-done.invariant.only_read told) (c.in-Err.ensures.only_read told)

pub returns-in-Ok-true-clause-only_read : goal.returns-in-Ok-true-clause-only_read
returns-in-Ok-true-clause-only_read g c told = then_read (c.loop-done.invariant.only_read told) (c.in-Ok-true.ensures.only_read told)
