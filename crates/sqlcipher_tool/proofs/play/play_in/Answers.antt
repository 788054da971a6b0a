use Rattle.std.proofs.Common.{◌≡◌, refl, sym, subst}
use Rattle.atomic_commit.specs.Facts.{SameFresh}
use Rattle.edge_model.specs.Images.{From, LeavesOnly}
use Rattle.session_hall.specs.Machine.{state}
use Rattle.sqlcipher_tool.proofs.play.play_in.Goals as goal

pub returns-clause-played : goal.returns-clause-played
returns-clause-played g c =
    let d = g.D.Disk in
    let hall = c.play-played.new.hall in
    let end : c.close-disk.result.0.now ≡ hall.disk.now = c.close-disk.ensures.disk.1 in
    let bytes : c.close-disk.result.1.now ≡ hall.entropy.now = c.close-disk.ensures.entropy.1 in
    rw (end, bytes) (record {
      last = state (d.reads hall.disk.now) hall.layout hall.sessions.items hall.page;
      is_main = λ told. refl;
      plays = c.play-played.ensures.played;
      settled = λ goes told. (c.play-played.ensures.kept told (c.play-played.ensures.up goes)).settled;
      taken = c.play-played.ensures.taken;
    })

pub returns-clause-fresh : goal.returns-clause-fresh
returns-clause-fresh g c = λ told.
    let d = g.D.Disk in
    subst (λ (y : _). LeavesOnly d.moment d.since c.args.hall.disk.now y (From SameFresh (d.images c.args.hall.disk.now))) (sym c.close-disk.ensures.disk.1) (c.play-played.ensures.fresh told)
