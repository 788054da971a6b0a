use Rattle.std.proofs.Common.{◌≡◌, inl, inr, ◌∙◌, ℕ, IsTrue, List, length, drop, ap, subst, sym}
use Rattle.fresh_disk.specs.OnlyFresh.{IsFreshSynced}
use Rattle.fresh_disk.specs.Place.{LeavesOld}
use Rattle.fresh_disk.specs.Published.{IsOldOrPublished, IsPublished}
use Rattle.edge_model.specs.Files.{bytes_of, renamed, main_of}
use Rattle.edge_model.specs.Images.{Each, LeavesOnly}
use Rattle.fresh_file.specs.Draws.{HasOwnDraws}
use Rattle.fresh_disk.proofs.PlaceLaws.{drawn_beside, main_is, may_take, takes_place}
use Rattle.migrate_job.specs.Migrated.{IsMigrated}
use Rattle.migrate_job.proofs.BesideLaws.{left_beside}
use Rattle.page_codec.specs.Page.{keys_of}
use Rattle.pager.specs.Pages.{opened_pages}
use Rattle.migrate_job.proofs.job.migrate.Goals as goal

pub publish-requires : goal.publish-requires
publish-requires g c =
    record {
      synced = λ told.
          subst (λ x. IsFreshSynced (g.D.Disk.images x) (g.D.Disk.reads x)) (sym c.into_parts-disk.ensures.disk.1) (c.in-Ok.ensures.written told).synced;
    }

pub returns-in-Ok-publish-clause-migrated : goal.returns-in-Ok-publish-clause-migrated
returns-in-Ok-publish-clause-migrated g c told =
    let d = g.D.Disk in
    let p = c.args.pager in
    let mid = c.write_new.new.pager.disk.now in
    let new = c.publish.new.disk in
    let moved = c.into_parts-disk.ensures.disk.1 in
    takes_place d.reads d.images d.moment d.since g.met.D.Disk.only_now g.met.D.Disk.counts_now
    (IsMigrated c.args.profile c.args.secret.now p.header (opened_pages p.codec (main_of (d.reads p.disk.now)) p.count)) p.disk.now mid new
    (c.in-Ok.ensures.written told) (left_beside d.reads d.images d.moment d.since told c.write_new.ensures.beside)
    (c.requires.alone told (d.reads p.disk.now) (g.met.D.Disk.reads_now p.disk.now))
    (subst (λ x. d.reads new ≡ renamed (d.reads x)) moved (c.in-Ok-publish.ensures.reads told))
    (subst (λ x. Each (d.images new) (IsPublished (d.images x) (d.reads x).fresh)) moved (c.in-Ok-publish.ensures.done told))
    (subst (λ x. LeavesOnly d.moment d.since x new (IsOldOrPublished (d.images x) (d.reads x).fresh)) moved (c.in-Ok-publish.ensures.any_moment told))

pub returns-in-Ok-publish-clause-counts : goal.returns-in-Ok-publish-clause-counts
returns-in-Ok-publish-clause-counts g c told =
    let d = g.D.Disk in
    let p = c.args.pager in
    let mid = c.write_new.new.pager.disk.now in
    let new = c.publish.new.disk in
    let written = c.in-Ok.ensures.written told in
    ap (λ (l : List ℕ). length l)
    (main_is d.reads d.images d.moment d.since g.met.D.Disk.only_now g.met.D.Disk.counts_now
    (IsMigrated c.args.profile c.args.secret.now p.header (opened_pages p.codec (main_of (d.reads p.disk.now)) p.count)) p.disk.now mid new
    written (left_beside d.reads d.images d.moment d.since told c.write_new.ensures.beside)
    (subst (λ x. d.reads new ≡ renamed (d.reads x)) c.into_parts-disk.ensures.disk.1 (c.in-Ok-publish.ensures.reads told)))
    ∙ c.in-Ok.ensures.size told written.file.bytes (ap (λ (f : _). bytes_of f) written.is)

pub returns-in-Ok-publish-clause-own_draws : goal.returns-in-Ok-publish-clause-own_draws
returns-in-Ok-publish-clause-own_draws g c told tell =
    let d = g.D.Disk in
    let drawn = g.E.Entropy.drawn in
    let p = c.args.pager in
    let mid = c.write_new.new.pager.disk.now in
    let new = c.publish.new.disk in
    let written = c.in-Ok.ensures.written told in
    subst (λ (file : List ℕ). HasOwnDraws (keys_of c.args.profile c.args.secret.now file) file (drop (length (drawn p.entropy.now)) (drawn c.into_parts-disk.result.1.now)))
    (sym (main_is d.reads d.images d.moment d.since g.met.D.Disk.only_now g.met.D.Disk.counts_now
    (IsMigrated c.args.profile c.args.secret.now p.header (opened_pages p.codec (main_of (d.reads p.disk.now)) p.count)) p.disk.now mid new
    written (left_beside d.reads d.images d.moment d.since told c.write_new.ensures.beside)
    (subst (λ x. d.reads new ≡ renamed (d.reads x)) c.into_parts-disk.ensures.disk.1 (c.in-Ok-publish.ensures.reads told))))
    (subst (λ x. HasOwnDraws (keys_of c.args.profile c.args.secret.now written.file.bytes) written.file.bytes (drop (length (drawn p.entropy.now)) (drawn x)))
    (sym c.into_parts-disk.ensures.entropy.1) (c.in-Ok.ensures.own_draws told tell written.file.bytes (ap (λ (f : _). bytes_of f) written.is)))

pub returns-in-Ok-publish-clause-any_moment : goal.returns-in-Ok-publish-clause-any_moment
returns-in-Ok-publish-clause-any_moment g c told =
    let d = g.D.Disk in
    let n = g.E.Entropy in
    let p = c.args.pager in
    let mid = c.write_new.new.pager.disk.now in
    let new = c.publish.new.disk in
    let before = n.drawn p.entropy.now in
    let pages = opened_pages p.codec (main_of (d.reads p.disk.now)) p.count in
    let own : List ℕ → Type 0 = λ file. IsTrue n.tells → HasOwnDraws (keys_of c.args.profile c.args.secret.now file) file (drop (length before) (n.drawn c.into_parts-disk.result.1.now)) in
    let written = drawn_beside d.reads d.images (IsMigrated c.args.profile c.args.secret.now p.header pages) own mid (c.in-Ok.ensures.written told)
    (λ file is tell. subst (λ x. HasOwnDraws (keys_of c.args.profile c.args.secret.now file.bytes) file.bytes (drop (length before) (n.drawn x)))
    (sym c.into_parts-disk.ensures.entropy.1) (c.in-Ok.ensures.own_draws told tell file.bytes (ap (λ (f : _). bytes_of f) is))) in
    inr (may_take d.reads d.images d.moment d.since g.met.D.Disk.only_now g.met.D.Disk.counts_now
    (λ file. IsMigrated c.args.profile c.args.secret.now p.header pages file × own file) p.disk.now mid new
    written (left_beside d.reads d.images d.moment d.since told c.write_new.ensures.beside)
    (subst (λ x. LeavesOnly d.moment d.since x new (IsOldOrPublished (d.images x) (d.reads x).fresh)) c.into_parts-disk.ensures.disk.1 (c.publish.ensures.any_moment told)))

pub returns-in-Err-publish-clause-any_moment : goal.returns-in-Err-publish-clause-any_moment
returns-in-Err-publish-clause-any_moment g c told =
    let d = g.D.Disk in
    let n = g.E.Entropy in
    let p = c.args.pager in
    let mid = c.write_new.new.pager.disk.now in
    let new = c.publish.new.disk in
    let before = n.drawn p.entropy.now in
    let pages = opened_pages p.codec (main_of (d.reads p.disk.now)) p.count in
    let own : List ℕ → Type 0 = λ file. IsTrue n.tells → HasOwnDraws (keys_of c.args.profile c.args.secret.now file) file (drop (length before) (n.drawn c.into_parts-disk.result.1.now)) in
    let written = drawn_beside d.reads d.images (IsMigrated c.args.profile c.args.secret.now p.header pages) own mid (c.in-Ok.ensures.written told)
    (λ file is tell. subst (λ x. HasOwnDraws (keys_of c.args.profile c.args.secret.now file.bytes) file.bytes (drop (length before) (n.drawn x)))
    (sym c.into_parts-disk.ensures.entropy.1) (c.in-Ok.ensures.own_draws told tell file.bytes (ap (λ (f : _). bytes_of f) is))) in
    inr (may_take d.reads d.images d.moment d.since g.met.D.Disk.only_now g.met.D.Disk.counts_now
    (λ file. IsMigrated c.args.profile c.args.secret.now p.header pages file × own file) p.disk.now mid new
    written (left_beside d.reads d.images d.moment d.since told c.write_new.ensures.beside)
    (subst (λ x. LeavesOnly d.moment d.since x new (IsOldOrPublished (d.images x) (d.reads x).fresh)) c.into_parts-disk.ensures.disk.1 (c.publish.ensures.any_moment told)))

pub returns-in-Err-clause-any_moment : goal.returns-in-Err-clause-any_moment
returns-in-Err-clause-any_moment g c told =
    let d = g.D.Disk in
    let p = c.args.pager in
    inl (subst (λ x. LeavesOld d.reads d.images d.moment d.since p.disk.now x) (sym c.into_parts-disk-in-Err.ensures.disk.1)
    (left_beside d.reads d.images d.moment d.since told c.write_new.ensures.beside))

pub returns-in-Err-clause-only_old : goal.returns-in-Err-clause-only_old
returns-in-Err-clause-only_old g c other told =
    let d = g.D.Disk in
    let p = c.args.pager in
    subst (λ x. LeavesOld d.reads d.images d.moment d.since p.disk.now x) (sym c.into_parts-disk-in-Err.ensures.disk.1)
    (left_beside d.reads d.images d.moment d.since told c.write_new.ensures.beside)
