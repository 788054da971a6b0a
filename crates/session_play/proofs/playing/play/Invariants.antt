use Rattle.std.proofs.Common.{◌≡◌, ◌≤◌, ℕ, true, false, IsTrue, drop}
use Rattle.cipher_profile.specs.Profile.{is_plain}
use Rattle.atomic_commit.specs.Facts.{SameFresh}
use Rattle.edge_model.specs.Images.{From, LeavesOnly}
use Rattle.session_hall.specs.Kept.{IsHallKept}
use Rattle.session_hall.specs.Machine.{state}
use Rattle.session_play.specs.Moments.{disk_told}
use Rattle.session_play.proofs.Progress.{IsPlaying}
use Rattle.session_play.proofs.playing.play.Given as goal

-- So many lines were carried out, and no step failed.
abbrev pub invariant-loop-carried : goal.invariant-loop-carried
invariant-loop-carried g l =
    let d = g.D.Disk in
    let left = g.K.Source.left in
    let old = l.initial.hall in
    let now = l.hall in
    record {
      playing : IsPlaying l.layout g.K.Source.tells g.S.Sink.tells d.tells g.E.Entropy.tells (LeavesOnly d.moment d.since old.disk.now now.disk.now) (disk_told d.reads d.images d.moment d.since) old.disk.now now.disk.now (left l.initial.input) (left l.input) (g.S.Sink.taken l.initial.out) (g.S.Sink.taken l.out)
          (g.E.Entropy.drawn old.entropy.now) (g.E.Entropy.drawn now.entropy.now) (state (d.reads old.disk.now) old.layout old.sessions.items old.page) (state (d.reads now.disk.now) now.layout now.sessions.items now.page) l.carried;
      up : now.is_down ≡ false;
      fresh : IsTrue d.tells → LeavesOnly d.moment d.since old.disk.now now.disk.now (From SameFresh (d.images old.disk.now));
      kept : IsTrue d.tells → IsHallKept (d.reads now.disk.now) (d.images now.disk.now) now.sessions.items;
      taken : IsTrue g.K.Source.tells → (n : ℕ) × (left l.input ≡ drop n (left l.initial.input));
      input_later : g.K.Source.faults l.initial.input ≤ g.K.Source.faults l.input;
      output_later : g.S.Sink.faults l.initial.out ≤ g.S.Sink.faults l.out;
      disk_later : d.faults old.disk.now ≤ d.faults now.disk.now;
      entropy_later : g.E.Entropy.faults old.entropy.now ≤ g.E.Entropy.faults now.entropy.now;
      layout : now.layout ≡ old.layout;
      undrawn : is_plain old.layout ≡ true → now.entropy.now ≡ old.entropy.now;
      disk_name : now.disk.ghost_name ≡ old.disk.ghost_name;
      entropy_name : now.entropy.ghost_name ≡ old.entropy.ghost_name;
    }
