use Rattle.std.proofs.Common.{◌<◌, length, arith}
use Rattle.edge_model.specs.Files.{main_of}
use Rattle.sqlcipher_tool.proofs.Probing.{short_fits_none}
use Rattle.sqlcipher_tool.proofs.probe.find_profile.Goals as goal

pub returns-then-short-clause-told : goal.returns-then-short-clause-told
returns-then-short-clause-told g c = λ told.
    let main = main_of (g.D.Disk.reads c.args.disk.now) in
    let short : length main < 1024 = omega (arith, c.requires told) in
    short_fits_none c.args.secret.now main short
