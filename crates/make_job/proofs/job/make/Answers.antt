use Rattle.std.proofs.Common.{rules, length, drop, ap, sym, subst, ◌∙◌}
use Rattle.cipher_profile.specs.Profile.{is_clear}
use Rattle.edge_model.specs.Files.{Files, main_of}
use Rattle.page_codec.specs.Page.{FileKeys}
use Rattle.fresh_file.specs.Draws.{HasOwnDraws}
use Rattle.fresh_file.proofs.DrawLaws.{drawn_with, keys_are, salt_is, told_as}
use Rattle.fresh_disk.proofs.RunLaws.{either_then, err_then, old_then, read_leaves, takes_then}
use Rattle.make_job.specs.Made.{IsMadeUnder}
use Rattle.make_job.proofs.job.make.Goals as goal

pub returns-in_err-made-clause-any_moment : goal.returns-in_err-made-clause-any_moment
returns-in_err-made-clause-any_moment g c told =
    let d = g.D.Disk in
    let n = g.E.Entropy in
    let met = g.met.D.Disk in
    let old = c.args.disk.now in
    let mid = c.look_for_files.new.disk in
    let keys = c.of_secret-codec.result in
    let salt = c.in_ok-salt.salt in
    let before = n.drawn c.args.entropy.now in
    let after = n.drawn c.publish_rows.new.entropy in
    let first = read_leaves d.reads d.images d.moment d.since met.only_now met.counts_now old mid (c.look_for_files.ensures.read told) in
    either_then d.reads d.images d.moment d.since met.only_now met.counts_now old mid c.publish_rows.new.disk first _ _
    (λ file has. (
      told_as c.args.profile c.args.secret.now salt (λ k l. IsMadeUnder k c.args.rows l) keys c.of_secret-codec.ensures c.in_ok-salt.ensures.clear file has.0,
      λ tell. subst (λ (k : FileKeys). HasOwnDraws k file (drop (length before) after))
          (keys_are c.args.profile c.args.secret.now salt file keys c.of_secret-codec.ensures c.in_ok-salt.ensures.clear has.0.salt)
          (drawn_with keys file salt before (n.drawn c.new_salt.new.entropy) after (search rules) (ap (λ (k : FileKeys). k.salt) c.of_secret-codec.ensures) has.0.salt
          (λ hidden. c.in_ok-salt.ensures.drawn (sym (ap (λ (k : FileKeys). is_clear k.profile) c.of_secret-codec.ensures) ∙ hidden) tell)
          (λ clear. c.in_ok-salt.ensures.undrawn (sym (ap (λ (k : FileKeys). is_clear k.profile) c.of_secret-codec.ensures) ∙ clear)) (c.publish_rows.ensures.grown tell) (has.1 tell)),
    )) (c.publish_rows.ensures.any_moment told)

pub returns-in_err-made-clause-only_old : goal.returns-in_err-made-clause-only_old
returns-in_err-made-clause-only_old g c =
    let d = g.D.Disk in
    let met = g.met.D.Disk in
    let old = c.args.disk.now in
    let mid = c.look_for_files.new.disk in
    err_then c.publish_rows.result c.from_residual-in_err-made.result (search rules)
    (λ e stays other told.
    let first = read_leaves d.reads d.images d.moment d.since met.only_now met.counts_now old mid (c.look_for_files.ensures.read told) in
    old_then d.reads d.images d.moment d.since met.only_now met.counts_now old mid c.publish_rows.new.disk first (stays other told))
    c.publish_rows.ensures.only_old

pub returns-clause-made : goal.returns-clause-made
returns-clause-made g c told =
    let d = g.D.Disk in
    let old = c.args.disk.now in
    let mid = c.look_for_files.new.disk in
    let new = c.publish_rows.new.disk in
    let first = read_leaves d.reads d.images d.moment d.since g.met.D.Disk.only_now g.met.D.Disk.counts_now old mid (c.look_for_files.ensures.read told) in
    takes_then d.reads d.images d.moment d.since g.met.D.Disk.only_now g.met.D.Disk.counts_now old mid new first _ _
    (told_as c.args.profile c.args.secret.now c.in_ok-salt.salt (λ k file. IsMadeUnder k c.args.rows file) c.of_secret-codec.result c.of_secret-codec.ensures c.in_ok-salt.ensures.clear) (c.in_ok-made.ensures.made told)

pub returns-clause-own_draws : goal.returns-clause-own_draws
returns-clause-own_draws g c told tell =
    let d = g.D.Disk in
    let drawn = g.E.Entropy.drawn in
    let new = c.publish_rows.new.disk in
    let there = c.in_ok-made.ensures.made told in
    let keys = c.of_secret-codec.result in
    let main = main_of (d.reads new) in
    let begins = salt_is keys (IsMadeUnder keys c.args.rows) main there.may.file.bytes (ap (λ (files : Files). main_of files) there.reads_so) there.may.is in
    subst (λ (k : FileKeys). HasOwnDraws k main (drop (length (drawn c.args.entropy.now)) (drawn c.publish_rows.new.entropy)))
    (keys_are c.args.profile c.args.secret.now c.in_ok-salt.salt main keys c.of_secret-codec.ensures c.in_ok-salt.ensures.clear begins)
    (drawn_with keys main c.in_ok-salt.salt (drawn c.args.entropy.now) (drawn c.new_salt.new.entropy) (drawn c.publish_rows.new.entropy) (search rules)
    (ap (λ (k : FileKeys). k.salt) c.of_secret-codec.ensures) begins (λ hidden. c.in_ok-salt.ensures.drawn (sym (ap (λ (k : FileKeys). is_clear k.profile) c.of_secret-codec.ensures) ∙ hidden) tell)
    (λ clear. c.in_ok-salt.ensures.undrawn (sym (ap (λ (k : FileKeys). is_clear k.profile) c.of_secret-codec.ensures) ∙ clear)) (c.in_ok-made.ensures.grown tell) (c.in_ok-made.ensures.own_draws told tell))

pub returns-clause-any_moment : goal.returns-clause-any_moment
returns-clause-any_moment g c told =
    let d = g.D.Disk in
    let n = g.E.Entropy in
    let met = g.met.D.Disk in
    let old = c.args.disk.now in
    let mid = c.look_for_files.new.disk in
    let keys = c.of_secret-codec.result in
    let salt = c.in_ok-salt.salt in
    let before = n.drawn c.args.entropy.now in
    let after = n.drawn c.publish_rows.new.entropy in
    let first = read_leaves d.reads d.images d.moment d.since met.only_now met.counts_now old mid (c.look_for_files.ensures.read told) in
    either_then d.reads d.images d.moment d.since met.only_now met.counts_now old mid c.publish_rows.new.disk first _ _
    (λ file has. (
      told_as c.args.profile c.args.secret.now salt (λ k l. IsMadeUnder k c.args.rows l) keys c.of_secret-codec.ensures c.in_ok-salt.ensures.clear file has.0,
      λ tell. subst (λ (k : FileKeys). HasOwnDraws k file (drop (length before) after))
          (keys_are c.args.profile c.args.secret.now salt file keys c.of_secret-codec.ensures c.in_ok-salt.ensures.clear has.0.salt)
          (drawn_with keys file salt before (n.drawn c.new_salt.new.entropy) after (search rules) (ap (λ (k : FileKeys). k.salt) c.of_secret-codec.ensures) has.0.salt
          (λ hidden. c.in_ok-salt.ensures.drawn (sym (ap (λ (k : FileKeys). is_clear k.profile) c.of_secret-codec.ensures) ∙ hidden) tell)
          (λ clear. c.in_ok-salt.ensures.undrawn (sym (ap (λ (k : FileKeys). is_clear k.profile) c.of_secret-codec.ensures) ∙ clear)) (c.publish_rows.ensures.grown tell) (has.1 tell)),
    )) (c.publish_rows.ensures.any_moment told)
