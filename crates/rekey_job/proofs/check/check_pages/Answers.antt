use Rattle.std.proofs.Common.{◌≡◌, ℕ, sym, subst}
use Rattle.std.proofs.lemmas.Result.{IfOk-weaker}
use Rattle.btree_model.specs.Plain.{is_leaf}
use Rattle.db_format.specs.Pages.{Pages}
use Rattle.db_format.specs.Seen.{marked}
use Rattle.pager.specs.Reads.{disk_then_read}
use Rattle.pager.proofs.UnderWayLemmas.{ok_map}
use Rattle.schema_map.specs.Census.{IsWhole}
use Rattle.rekey_job.specs.Stops.{AreClean}
use Rattle.rekey_job.proofs.Stopped.{given_stop, pages_same}
use Rattle.rekey_job.proofs.check.check_pages.Goals as goal

pub check_others-requires : goal.check_others-requires
check_others-requires g c =
    let p = c.args.pager.now in
    let q = c.census.new.source in
    let read = c.in-Ok.ensures.reads in
    record {
      whole = λ told. subst (λ (x : Pages). IsWhole x c.in-Ok.census)
          (sym (pages_same p.codec q.codec (g.D.Disk.reads p.disk.now) (g.D.Disk.reads q.disk.now) p.count q.count read.2 (read.0.only_read told).stays read.4))
          (c.in-Ok.ensures.found told);
    }

pub returns-in-Ok-clause-clean : goal.returns-in-Ok-clause-clean
returns-in-Ok-clause-clean g c =
    let p = c.args.pager.now in
    let q = c.census.new.source in
    let read = c.in-Ok.ensures.reads in
    ok_map c.check_others.result c.check_others.ensures.clean (λ clean told. subst AreClean
    (pages_same p.codec q.codec (g.D.Disk.reads p.disk.now) (g.D.Disk.reads q.disk.now) p.count q.count read.2 (read.0.only_read told).stays read.4)
    (clean told))

pub returns-in-Ok-clause-leaves : goal.returns-in-Ok-clause-leaves
returns-in-Ok-clause-leaves g c =
    let p = c.args.pager.now in
    let q = c.census.new.source in
    let read = c.in-Ok.ensures.reads in
    IfOk-weaker c.check_others.result _ _ (λ leaves are told. subst (λ (x : Pages). (n : ℕ) → marked leaves.leaves n ≡ is_leaf x n)
    (pages_same p.codec q.codec (g.D.Disk.reads p.disk.now) (g.D.Disk.reads q.disk.now) p.count q.count read.2 (read.0.only_read told).stays read.4)
    (are told)) c.check_others.ensures.leaves

pub returns-in-Ok-clause-disk : goal.returns-in-Ok-clause-disk
returns-in-Ok-clause-disk g c = disk_then_read c.in-Ok.ensures.reads.0 c.check_others.ensures.disk

pub walk_error-requires : goal.walk_error-requires
walk_error-requires g c = given_stop g.D.Disk.tells _ _ _ c.in-Err.error (λ s t read. read.4) c.in-Err.ensures.given
