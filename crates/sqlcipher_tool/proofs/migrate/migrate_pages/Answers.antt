use Rattle.std.proofs.Common.{◌≡◌, inr, ◌*◌, ◌≤◌, ℕ, List, drop, length, IsTrue, Some, Ok, Err, sym, ap, subst, ◌∙◌, arith}
use Rattle.cipher_profile.specs.Profile.{IsListed}
use Rattle.cipher_profile.proofs.Layouts.{IsListed-laid_out}
use Rattle.cipher_profile.specs.declared.profile.Profile.{Profile}
use Rattle.fresh_disk.specs.Place.{LeavesOld}
use Rattle.edge_model.specs.Files.{Files, main_of}
use Rattle.fresh_file.specs.Draws.{HasOwnDraws}
use Rattle.migrate_job.specs.Migrated.{IsMigrated}
use Rattle.migrate_job.specs.Stops.{IsMigrateShown}
use Rattle.migrate_job.specs.declared.error.MigrateError.TheVariants.{DiskFault as DiskFails}
use Rattle.page_codec.specs.Page.{keys_of}
use Rattle.pager.specs.Opening.{Opened}
use Rattle.pager.specs.Pages.{opened_pages}
use Rattle.page_plan.proofs.Results.{err_at}
use Rattle.sqlcipher_tool.specs.Answer.{done}
use Rattle.sqlcipher_tool.specs.Change.{IsLateChange, KeepsOrCommits, change_answer, change_status}
use Rattle.sqlcipher_tool.specs.Holding.{HoldsOnly, held_by}
use Rattle.sqlcipher_tool.specs.Migrate.{IsMigratedSo}
use Rattle.sqlcipher_tool.specs.Renewal.{WithDraws, pages_under}
use Rattle.sqlcipher_tool.specs.declared.opening.ChangeError.{ChangeError}
use Rattle.edge_model.specs.Moments.{at_exit}
use Rattle.sqlcipher_tool.specs.Behind.{IsRefusedChange}
use Rattle.sqlcipher_tool.proofs.Behind.{migrate_undisturbed}
use Rattle.sqlcipher_tool.proofs.Changing.{said_so}
use Rattle.sqlcipher_tool.proofs.Making.{place_with}
use Rattle.sqlcipher_tool.proofs.MigratedFile.{migrated_so}
use Rattle.sqlcipher_tool.proofs.Migrating.{migrate_late, migrated_count, migrated_due, migrated_there, stopped_migrate, unmigrated_due, was_done}
use Rattle.sqlcipher_tool.proofs.Stamping.{was_ok}
use Rattle.sqlcipher_tool.proofs.VerifiedFile.{opened_header}
use Rattle.sqlcipher_tool.proofs.migrate.migrate_pages.Goals as goal

page_some : (p : Profile) → IsListed p → 1 ≤ p.page_size
page_some p listed = let least = (IsListed-laid_out p listed).least in omega (arith, least)

pub migrate-disk-requires-clause-alone : goal.migrate-disk-requires-clause-alone
migrate-disk-requires-clause-alone g c = λ told image now. (c.requires.alone told image now).journal

pub migrate-disk-requires-clause-header : goal.migrate-disk-requires-clause-header
migrate-disk-requires-clause-header g c = λ told.
    let p = c.args.pager in
    opened_header p.codec (main_of (g.D.Disk.reads p.disk.now)) p.header p.count (c.requires.opened told) p.some

pub returns-in-Ok-clause-told : goal.returns-in-Ok-clause-told
returns-in-Ok-clause-told g c = λ told answer is.
    let d = g.D.Disk in
    let p = c.args.pager in
    let file = main_of (d.reads p.disk.now) in
    let pages = opened_pages p.codec file p.count in
    let main = main_of (d.reads c.migrate-disk.result.0.now) in
    let there = was_ok c.migrate-disk.result.2 c.in-Ok.pages c.in-Ok.is c.migrate-disk.ensures.migrated told in
    let whole : IsMigrated c.args.profile c.args.secret.now p.header pages main =
    subst (λ (l : List ℕ). IsMigrated c.args.profile c.args.secret.now p.header pages l) (sym (ap (λ (files : Files). main_of files) there.reads_so)) there.may.is in
    let counts = was_done (λ (n : ℕ). IsTrue d.tells → length main ≡ n * c.args.profile.page_size) c.migrate-disk.result.2 c.in-Ok.pages c.in-Ok.is c.migrate-disk.ensures.counts told in
    migrated_due c.args.profile (pages_under c.args.profile c.args.secret.now main) c.in-Ok.pages pages answer whole.sound
    (migrated_count (keys_of c.args.profile c.args.secret.now main) p.header pages main c.in-Ok.pages (page_some c.args.profile c.requires.listed) whole counts)
    (sym (ap (λ (l : List ℕ). Some (done l)) c.migrated_report.ensures) ∙ is)

pub returns-in-Ok-clause-safely : goal.returns-in-Ok-clause-safely
returns-in-Ok-clause-safely g c = λ told.
    let d = g.D.Disk in
    let p = c.args.pager in
    let file = main_of (d.reads p.disk.now) in
    let opened : Opened = record { header = p.header; count = p.count } in
    let end = c.migrate-disk.result.0.now in
    let own : List ℕ → Type 0 = λ n. HasOwnDraws (keys_of c.args.profile c.args.secret.now n) n (drop (length (g.E.Entropy.drawn p.entropy.now)) (g.E.Entropy.drawn c.migrate-disk.result.1.now)) in
    let there = was_ok c.migrate-disk.result.2 c.in-Ok.pages c.in-Ok.is c.migrate-disk.ensures.migrated told in
    said_so d.reads d.images d.moment d.since g.met.D.Disk.counts_now g.met.D.Disk.only_now (change_status (Ok c.migrated_report.result))
    (λ n is. (migrated_so p.codec (keys_of c.args.profile c.args.secret.now n) file n opened (c.requires.opened told) is.0, is.1)) (λ n is image has. has)
    (inr (migrated_there d.reads d.images d.moment d.since g.met.D.Disk.counts_now g.met.D.Disk.only_now p.codec file c.args.profile c.args.secret.now p.disk.now end (c.requires.alone told)
    (place_with (λ n. IsTrue g.E.Entropy.tells → own n) there (λ drawing. was_ok c.migrate-disk.result.2 c.in-Ok.pages c.in-Ok.is c.migrate-disk.ensures.own_draws told drawing))))

pub returns-in-Ok-clause-own_draws : goal.returns-in-Ok-clause-own_draws
returns-in-Ok-clause-own_draws g c = λ told drawing. was_ok c.migrate-disk.result.2 c.in-Ok.pages c.in-Ok.is c.migrate-disk.ensures.own_draws told drawing

pub returns-in-Err-clause-told : goal.returns-in-Err-clause-told
returns-in-Err-clause-told g c = λ told answer is.
    let d = g.D.Disk in
    let p = c.args.pager in
    let pages = opened_pages p.codec (main_of (d.reads p.disk.now)) p.count in
    let main = main_of (d.reads c.migrate-disk.result.0.now) in
    unmigrated_due c.args.profile (pages_under c.args.profile c.args.secret.now main) pages c.in-Err.error answer
    (err_at (λ e. IsTrue d.tells → IsMigrateShown c.args.profile pages e) c.migrate-disk.result.2 c.in-Err.error c.in-Err.is c.migrate-disk.ensures.shown told)
    (λ limit same. c.migrate-disk.ensures.limit limit (c.in-Err.is ∙ ap (λ e. Err e) same))
    (ap (λ (error : ChangeError). change_answer (Err error)) (sym c.migrate_error.ensures) ∙ is)

pub returns-in-Err-clause-safely : goal.returns-in-Err-clause-safely
returns-in-Err-clause-safely g c = λ told.
    let d = g.D.Disk in
    let p = c.args.pager in
    let file = main_of (d.reads p.disk.now) in
    let opened : Opened = record { header = p.header; count = p.count } in
    let own : List ℕ → Type 0 = λ n. HasOwnDraws (keys_of c.args.profile c.args.secret.now n) n (drop (length (g.E.Entropy.drawn p.entropy.now)) (g.E.Entropy.drawn c.migrate-disk.result.1.now)) in
    let end = c.migrate-disk.result.0.now in
    subst (λ (error : ChangeError). KeepsOrCommits d.reads d.images d.moment d.since (change_status (Err error))
    (WithDraws (λ n. IsMigratedSo p.codec (keys_of c.args.profile c.args.secret.now n) file n) g.E.Entropy.tells own) (HoldsOnly (held_by p.codec file))
    (λ n. HoldsOnly (held_by (keys_of c.args.profile c.args.secret.now n) n)) p.disk.now end) (sym c.migrate_error.ensures)
    (said_so d.reads d.images d.moment d.since g.met.D.Disk.counts_now g.met.D.Disk.only_now _
    (λ n is. (migrated_so p.codec (keys_of c.args.profile c.args.secret.now n) file n opened (c.requires.opened told) is.0, is.1)) (λ n is image has. has)
    (stopped_migrate d.reads d.images d.moment d.since g.met.D.Disk.counts_now g.met.D.Disk.only_now p.codec file c.args.profile c.args.secret.now p.disk.now end (c.requires.alone told) c.in-Err.error
    (λ other. err_at (λ e. (e ≡ DiskFails → ⊥) → IsTrue d.tells → LeavesOld d.reads d.images d.moment d.since p.disk.now end) c.migrate-disk.result.2 c.in-Err.error c.in-Err.is c.migrate-disk.ensures.only_old other told)
    (c.migrate-disk.ensures.any_moment told)))

pub returns-in-Err-clause-late : goal.returns-in-Err-clause-late
returns-in-Err-clause-late g c = subst (λ (error : ChangeError). IsLateChange error) (sym c.migrate_error.ensures) (migrate_late c.in-Err.error)

pub returns-in-Ok-clause-fresh_gone : goal.returns-in-Ok-clause-fresh_gone
returns-in-Ok-clause-fresh_gone g c = λ told.
    ap (λ (files : Files). files.fresh) (was_ok c.migrate-disk.result.2 c.in-Ok.pages c.in-Ok.is c.migrate-disk.ensures.migrated told).reads_so

pub returns-in-Err-clause-stays : goal.returns-in-Err-clause-stays
returns-in-Err-clause-stays g c = λ refused told.
    let d = g.D.Disk in
    let p = c.args.pager in
    let end = c.migrate-disk.result.0.now in
    let other = migrate_undisturbed c.in-Err.error (subst IsRefusedChange c.migrate_error.ensures refused) in
    at_exit g.met.D.Disk.counts_now (err_at (λ e. (e ≡ DiskFails → ⊥) → IsTrue d.tells → LeavesOld d.reads d.images d.moment d.since p.disk.now end)
    c.migrate-disk.result.2 c.in-Err.error c.in-Err.is c.migrate-disk.ensures.only_old other told).any_moment
