use Rattle.std.proofs.Common.{inr, ℕ, IsTrue, List, length, sym, subst}
use Rattle.fresh_file.specs.Draws.{AreOwnDraws}
use Rattle.fresh_disk.proofs.PlaceLaws.{drawn_beside, takes_place, main_is, may_take}
use Rattle.make_job.proofs.MadeLaws.{no_journal}
use Rattle.make_job.specs.Written.{IsMadeWith}
use Rattle.make_job.proofs.publishing.publish_rows.Goals as goal

pub publish-requires : goal.publish-requires
publish-requires g c = record { synced = λ told. (c.in_ok-made.ensures.beside told).synced }

pub returns-in-Ok-clause-made : goal.returns-in-Ok-clause-made
returns-in-Ok-clause-made g c told =
    let disk = g.D.Disk in
    let made = c.in_ok-made.ensures in
    takes_place disk.reads disk.images disk.moment disk.since g.met.D.Disk.only_now g.met.D.Disk.counts_now (IsMadeWith c.args.codec c.args.rows) c.args.disk.now c.write_beside.new.disk c.publish.new.disk
    (made.beside told) (made.old told) (no_journal (disk.reads c.args.disk.now) (c.requires.free told)) (c.in-Ok.ensures.reads told) (c.in-Ok.ensures.done told) (c.in-Ok.ensures.any_moment told)

pub returns-in-Ok-clause-own_draws : goal.returns-in-Ok-clause-own_draws
returns-in-Ok-clause-own_draws g c told tell =
    let disk = g.D.Disk in
    let made = c.in_ok-made.ensures in
    let written = made.beside told in
    subst (λ (file : List ℕ). AreOwnDraws c.args.codec file (length (g.E.Entropy.drawn c.args.entropy.now)) (g.E.Entropy.drawn c.write_beside.new.entropy))
    (sym (main_is disk.reads disk.images disk.moment disk.since g.met.D.Disk.only_now g.met.D.Disk.counts_now (IsMadeWith c.args.codec c.args.rows) c.args.disk.now c.write_beside.new.disk c.publish.new.disk
    written (made.old told) (c.in-Ok.ensures.reads told)))
    (made.own_draws told tell written.file written.is)

pub returns-in-Ok-clause-any_moment : goal.returns-in-Ok-clause-any_moment
returns-in-Ok-clause-any_moment g c told =
    let disk = g.D.Disk in
    let n = g.E.Entropy in
    let made = c.in_ok-made.ensures in
    let own : List ℕ → Type 0 = λ file. IsTrue n.tells → AreOwnDraws c.args.codec file (length (n.drawn c.args.entropy.now)) (n.drawn c.write_beside.new.entropy) in
    let written = drawn_beside disk.reads disk.images (IsMadeWith c.args.codec c.args.rows) own c.write_beside.new.disk (made.beside told) (λ file is tell. made.own_draws told tell file is) in
    inr (may_take disk.reads disk.images disk.moment disk.since g.met.D.Disk.only_now g.met.D.Disk.counts_now (λ file. IsMadeWith c.args.codec c.args.rows file × own file) c.args.disk.now c.write_beside.new.disk c.publish.new.disk
    written (made.old told) (c.in-Ok.ensures.any_moment told))

pub returns-in-Err-clause-any_moment : goal.returns-in-Err-clause-any_moment
returns-in-Err-clause-any_moment g c told =
    let disk = g.D.Disk in
    let n = g.E.Entropy in
    let made = c.in_ok-made.ensures in
    let own : List ℕ → Type 0 = λ file. IsTrue n.tells → AreOwnDraws c.args.codec file (length (n.drawn c.args.entropy.now)) (n.drawn c.write_beside.new.entropy) in
    let written = drawn_beside disk.reads disk.images (IsMadeWith c.args.codec c.args.rows) own c.write_beside.new.disk (made.beside told) (λ file is tell. made.own_draws told tell file is) in
    inr (may_take disk.reads disk.images disk.moment disk.since g.met.D.Disk.only_now g.met.D.Disk.counts_now (λ file. IsMadeWith c.args.codec c.args.rows file × own file) c.args.disk.now c.write_beside.new.disk c.publish.new.disk
    written (made.old told) (c.publish.ensures.any_moment told))
