use Rattle.std.proofs.Common.{inl, refl, length}
use Rattle.edge_model.specs.Files.{Torn}
use Rattle.edge_model.specs.Images.{From, Changes}
use Rattle.edge_model.specs.Moments.{started, goes_on, goes_less}
use Rattle.edge_model.specs.declared.role.Role.TheVariants.{Journal}
use Rattle.rollback_journal.proofs.put.put.Goals as goal

pub returns-in_err-write_at-clause-any_moment : goal.returns-in_err-write_at-clause-any_moment
returns-in_err-write_at-clause-any_moment g c told =
    let start = started g.met.D.Disk.only_now c.args.disk.now (From (Changes Journal (Torn c.args.at (length c.args.bytes.now)) (g.D.Disk.reads c.args.disk.now)) (g.D.Disk.images c.args.disk.now)) (λ d here. (d, here, (refl, inl refl, refl))) in
    goes_on start (c.write_at.ensures.time told) (c.write_at.ensures.crash told)

pub returns-clause-any_moment : goal.returns-clause-any_moment
returns-clause-any_moment g c told =
    let start = started g.met.D.Disk.only_now c.args.disk.now (From (Changes Journal (Torn c.args.at (length c.args.bytes.now)) (g.D.Disk.reads c.args.disk.now)) (g.D.Disk.images c.args.disk.now)) (λ d here. (d, here, (refl, inl refl, refl))) in
    goes_less g.met.D.Disk.counts_now (goes_on start (c.write_at.ensures.time told) (c.write_at.ensures.crash told)) (c.sync.ensures.time told) (c.sync.ensures.crash told)
