use Rattle.std.proofs.Common.{◌≡◌, ◌≤◌, take, None, IsTrue}
use Rattle.std.specs.Prelude.{find}
use Rattle.cipher_profile.specs.Keys.{page_keys}
use Rattle.profile_word.specs.Tried.{probed_profiles}
use Rattle.edge_model.specs.OnlyRead.{OnlyRead}
use Rattle.edge_model.specs.Files.{main_of}
use Rattle.sqlcipher_tool.specs.Probe.{is_fitting}
use Rattle.sqlcipher_tool.proofs.probe.find_with_salt.Given as goal

-- The keys are those of the profile that was tried last, and none of the profiles so far fits.
abbrev pub invariant-loop-tried : goal.invariant-loop-tried
invariant-loop-tried g l = record {
  known : l.keys ≡ page_keys l.known l.secret l.salt;
  none : IsTrue g.D.Disk.tells → find (is_fitting l.secret (main_of (g.D.Disk.reads l.initial.disk))) (take l.tried probed_profiles) ≡ None;
  only_read : IsTrue g.D.Disk.tells → OnlyRead g.D.Disk.reads g.D.Disk.images g.D.Disk.moment g.D.Disk.since l.initial.disk l.disk;
  later : g.D.Disk.faults l.initial.disk ≤ g.D.Disk.faults l.disk;
}
