use Rattle.edge_model.specs.Moments.{weaker, started_from, goes_from, goes_less, then_from}
use Rattle.rollback_journal.specs.Plays.{PlaysAsBefore}
use Rattle.rollback_journal.proofs.Beside.{as_before_none, as_before_joins}
use Rattle.rollback_journal.proofs.WriterSteps.{created_short, created_keeps, first_keeps}
use Rattle.rollback_journal.proofs.writer.make_file.Goals as goal

pub returns-in_err-create-clause-any_moment : goal.returns-in_err-create-clause-any_moment
returns-in_err-create-clause-any_moment g c told =
    let size = c.args.page_size in
    let old = g.D.Disk.reads c.args.disk.now in
    let none = c.requires.none told in
    let start = started_from g.met.D.Disk.only_now c.args.disk.now (PlaysAsBefore size) (as_before_none size) in
    let made = goes_from g.met.D.Disk.counts_now (as_before_joins size) (λ d f here step. created_keeps size (g.D.Disk.next c.args.disk.now) old d f (none d here) step) start (c.create.ensures.time told) (c.create.ensures.crash told) in
    made

pub returns-in_err-put-clause-any_moment : goal.returns-in_err-put-clause-any_moment
returns-in_err-put-clause-any_moment g c told =
    let size = c.args.page_size in
    let old = g.D.Disk.reads c.args.disk.now in
    let none = c.requires.none told in
    let start = started_from g.met.D.Disk.only_now c.args.disk.now (PlaysAsBefore size) (as_before_none size) in
    let made = goes_from g.met.D.Disk.counts_now (as_before_joins size) (λ d f here step. created_keeps size (g.D.Disk.next c.args.disk.now) old d f (none d here) step) start (c.create.ensures.time told) (c.create.ensures.crash told) in
    let wrote = then_from g.met.D.Disk.counts_now (as_before_joins size) made
    (weaker (λ f from.
    let was = c.create.ensures.crash told from.0 from.1 in
    (from.0, from.1, first_keeps size (g.D.Disk.reads c.create.new.self) from.0 f (created_short (g.D.Disk.next c.args.disk.now) old was.0 from.0 (none was.0 was.1) was.2) from.2))
    (c.put.ensures.any_moment told)) in
    wrote

pub returns-clause-any_moment : goal.returns-clause-any_moment
returns-clause-any_moment g c told =
    let size = c.args.page_size in
    let old = g.D.Disk.reads c.args.disk.now in
    let none = c.requires.none told in
    let start = started_from g.met.D.Disk.only_now c.args.disk.now (PlaysAsBefore size) (as_before_none size) in
    let made = goes_from g.met.D.Disk.counts_now (as_before_joins size) (λ d f here step. created_keeps size (g.D.Disk.next c.args.disk.now) old d f (none d here) step) start (c.create.ensures.time told) (c.create.ensures.crash told) in
    let wrote = then_from g.met.D.Disk.counts_now (as_before_joins size) made
    (weaker (λ f from.
    let was = c.create.ensures.crash told from.0 from.1 in
    (from.0, from.1, first_keeps size (g.D.Disk.reads c.create.new.self) from.0 f (created_short (g.D.Disk.next c.args.disk.now) old was.0 from.0 (none was.0 was.1) was.2) from.2))
    (c.put.ensures.any_moment told)) in
    goes_less g.met.D.Disk.counts_now wrote (c.sync_folder.ensures.time told) (c.sync_folder.ensures.crash told)
