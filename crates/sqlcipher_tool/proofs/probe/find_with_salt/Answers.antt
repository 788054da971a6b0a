use Rattle.std.proofs.Common.{◌≡◌, ◌∙◌, true, false, IsTrue, sym, ap, arith, rules}
use Rattle.edge_model.specs.Files.{Files, main_of}
use Rattle.pager.specs.Reads.{then_read}
use Rattle.sqlcipher_tool.specs.Probe.{is_fitting}
use Rattle.sqlcipher_tool.proofs.Probing.{hidden_each, fits_first, fits_so, none_fits, none_yet}
use Rattle.sqlcipher_tool.proofs.probe.find_with_salt.Goals as goal

-- the file of each profile that is tried begins with a salt
pub new-codec-requires-clause-clear : goal.new-codec-requires-clause-clear
new-codec-requires-clause-clear g c = λ clear.
    let never : true ≡ false = sym clear ∙ hidden_each c.loop-tried.tried c.profile_after-profile.result c.profile_after-profile.ensures.value in
    cc

pub loop-tried-preserved : goal.loop-tried-preserved
loop-tried-preserved g c =
    let main = main_of (g.D.Disk.reads c.args.disk.now) in
    let mid = main_of (g.D.Disk.reads c.loop-tried.disk) in
    let profile = c.profile_after-profile.result in
    let fails : IsTrue g.D.Disk.tells → is_fitting c.args.secret.now main profile ≡ false = λ told.
    fits_so profile c.args.secret.now c.args.salt.now main mid c.derive_beside-keys.result c.new-codec.result c.in_ok-fits.fits (hidden_each c.loop-tried.tried profile c.profile_after-profile.ensures.value) c.new-codec.ensures c.derive_beside-keys.ensures
    (c.requires.salt told) (ap (λ (files : Files). main_of files) (c.loop-tried.invariant.only_read told).stays) (c.in_ok-fits.ensures.told told) ∙ c.if-fits.false in
    record {
      known = c.derive_beside-keys.ensures;
      none = λ told. none_yet c.args.secret.now main c.loop-tried.tried profile c.profile_after-profile.ensures.value (fails told) (c.loop-tried.invariant.none told);
      only_read = λ told. then_read (c.loop-tried.invariant.only_read told) (c.fits_main.ensures.only_read told);
      later = search rules;
    }

pub returns-then-fits-clause-told : goal.returns-then-fits-clause-told
returns-then-fits-clause-told g c = λ told.
    let main = main_of (g.D.Disk.reads c.args.disk.now) in
    let mid = main_of (g.D.Disk.reads c.loop-tried.disk) in
    let profile = c.profile_after-profile.result in
    let passes : is_fitting c.args.secret.now main profile ≡ true =
    fits_so profile c.args.secret.now c.args.salt.now main mid c.derive_beside-keys.result c.new-codec.result c.in_ok-fits.fits (hidden_each c.loop-tried.tried profile c.profile_after-profile.ensures.value) c.new-codec.ensures c.derive_beside-keys.ensures
    (c.requires.salt told) (ap (λ (files : Files). main_of files) (c.loop-tried.invariant.only_read told).stays) (c.in_ok-fits.ensures.told told) ∙ c.if-fits.true in
    fits_first c.args.secret.now main c.loop-tried.tried profile c.profile_after-profile.ensures.value passes (c.loop-tried.invariant.none told)

pub returns-clause-told : goal.returns-clause-told
returns-clause-told g c = λ told.
    none_fits c.args.secret.now (main_of (g.D.Disk.reads c.args.disk.now)) c.loop-tried.tried (omega arith) (c.loop-tried.invariant.none told)
