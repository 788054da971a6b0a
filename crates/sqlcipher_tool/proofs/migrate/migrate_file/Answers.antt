use Rattle.std.proofs.Common.{◌≡◌, inl, ℕ, List, drop, length, Result, sym, ap, subst, ◌∙◌, arith, rules}
use Rattle.std.specs.List.{Contains}
use Rattle.edge_model.specs.Causes.{Rose}
use Rattle.edge_model.specs.Files.{Files, main_of}
use Rattle.edge_model.specs.Images.{LeavesOnly}
use Rattle.fresh_file.specs.Draws.{HasOwnDraws}
use Rattle.fresh_disk.specs.Published.{IsAlone}
use Rattle.page_codec.specs.Page.{FileKeys, keys_of}
use Rattle.pager.specs.Opening.{Opened}
use Rattle.pager.specs.Pages.{opened_pages}
use Rattle.pager.specs.declared.opening.OpenError.{OpenError}
use Rattle.pager.proofs.UnreadLemmas.{no_held_pins}
use Rattle.sqlcipher_tool.specs.Change.{KeepsOrCommits, change_status}
use Rattle.sqlcipher_tool.specs.Holding.{HoldsOnly, held_by}
use Rattle.sqlcipher_tool.specs.Migrate.{IsMigratedSo, migrate_due}
use Rattle.sqlcipher_tool.specs.Opening.{opened_with}
use Rattle.sqlcipher_tool.specs.Renewal.{WithDraws, pages_under}
use Rattle.sqlcipher_tool.specs.Verify.{opened_answers}
use Rattle.sqlcipher_tool.specs.Behind.{IsRefusedChange}
use Rattle.sqlcipher_tool.proofs.Behind.{after_read, read_stays}
use Rattle.sqlcipher_tool.proofs.Changing.{after_old, read_only, stop_not_done}
use Rattle.sqlcipher_tool.proofs.OpenedParts.{open_parts}
use Rattle.sqlcipher_tool.proofs.VerifiedFile.{unopened_due}
use Rattle.sqlcipher_tool.proofs.LeftAlone.{is_opened}
use Rattle.sqlcipher_tool.proofs.migrate.migrate_file.Goals as goal

pub returns-in-Err-clause-told : goal.returns-in-Err-clause-told
returns-in-Err-clause-told g c = λ told answer is.
    let file = main_of (g.D.Disk.reads c.args.disk.now) in
    let count = pages_under c.args.new c.args.second.now (main_of (g.D.Disk.reads c.open_main.new.disk)) in
    unopened_due (opened_with c.args.old c.args.first.now file) (λ n. migrate_due c.args.new count (opened_pages (keys_of c.args.old c.args.first.now file) file n)) c.in-Err.stop (c.in-Err.ensures.stop told) answer is

pub returns-in-Err-clause-safely : goal.returns-in-Err-clause-safely
returns-in-Err-clause-safely g c = λ told start.
    let d = g.D.Disk in
    inl (record {
      any_moment = read_only d.reads d.images d.moment d.since g.met.D.Disk.counts_now g.met.D.Disk.only_now start (c.open_main.ensures.only_read told);
      not_done = stop_not_done c.in-Err.stop;
    })

pub migrate_pages-disk-requires-clause-unpinned : goal.migrate_pages-disk-requires-clause-unpinned
migrate_pages-disk-requires-clause-unpinned g c = no_held_pins c.into_pager-pager.result.cache.held c.into_pager-pager.ensures.unread.0

pub migrate_pages-disk-requires-clause-alone : goal.migrate_pages-disk-requires-clause-alone
migrate_pages-disk-requires-clause-alone g c = λ told image now.
    let d = g.D.Disk in
    let read = c.open_main.ensures.only_read told in
    let file = main_of (d.reads c.args.disk.now) in
    let keys = keys_of c.args.old c.args.first.now file in
    let made = c.into_pager-pager.ensures.disk.1 in
    let opened = open_parts keys file _ _ (c.in-Ok.ensures.opens told) in
    let at_first = read.same_images.no_more image (subst (λ (x : _). d.images x image) made now) in
    subst (λ (x : _). IsAlone (main_of (d.reads x)) image) (sym made)
    (subst (λ (files : Files). IsAlone (main_of files) image) (sym read.stays) (c.requires.alone told opened.long image at_first))

pub returns-clause-told : goal.returns-clause-told
returns-clause-told g c = λ told answer is.
    let d = g.D.Disk in
    let p = c.into_pager-pager.result in
    let end = c.migrate_pages-disk.result.0.now in
    let file = main_of (d.reads c.args.disk.now) in
    let keys = keys_of c.args.old c.args.first.now file in
    let count = pages_under c.args.new c.args.second.now (main_of (d.reads end)) in
    let codec : p.codec ≡ keys = c.into_pager-pager.ensures.file.0 ∙ c.in-Ok.ensures.codec told in
    let same : main_of (d.reads p.disk.now) ≡ file = ap (λ (x : _). main_of (d.reads x)) c.into_pager-pager.ensures.disk.1 ∙ ap (λ (files : Files). main_of files) (c.open_main.ensures.only_read told).stays in
    let one = subst (λ (k : FileKeys). Contains (migrate_due c.args.new count (opened_pages k (main_of (d.reads p.disk.now)) p.count)) answer) codec (c.migrate_pages-disk.ensures.told told answer is) in
    let two = subst (λ (l : List ℕ). Contains (migrate_due c.args.new count (opened_pages keys l p.count)) answer) same one in
    let three = subst (λ (n : ℕ). Contains (migrate_due c.args.new count (opened_pages keys file n)) answer) c.into_pager-pager.ensures.file.2 two in
    let last : c.disk-1.given.0 ≡ end = search rules in
    rw last (subst (λ (o : Result Opened OpenError). Contains (opened_answers o (λ n. migrate_due c.args.new count (opened_pages keys file n))) answer) (sym (c.in-Ok.ensures.opens told)) three)

pub returns-clause-safely : goal.returns-clause-safely
returns-clause-safely g c = λ told start.
    let d = g.D.Disk in
    let p = c.into_pager-pager.result in
    let read = c.open_main.ensures.only_read told in
    let made = c.into_pager-pager.ensures.disk.1 in
    let file = main_of (d.reads c.args.disk.now) in
    let keys = keys_of c.args.old c.args.first.now file in
    let status = change_status c.migrate_pages-disk.result.2 in
    let end = c.migrate_pages-disk.result.0.now in
    let n = g.E.Entropy in
    let after = n.drawn c.migrate_pages-disk.result.1.now in
    let drawn_by : List ℕ → List ℕ → Type 0 = λ before m. HasOwnDraws (keys_of c.args.new c.args.second.now m) m (drop (length before) after) in
    let codec : p.codec ≡ keys = c.into_pager-pager.ensures.file.0 ∙ c.in-Ok.ensures.codec told in
    let same : main_of (d.reads p.disk.now) ≡ file = ap (λ (x : _). main_of (d.reads x)) made ∙ ap (λ (files : Files). main_of files) read.stays in
    let one = subst (λ (k : FileKeys). KeepsOrCommits d.reads d.images d.moment d.since status (WithDraws (λ m. IsMigratedSo k (keys_of c.args.new c.args.second.now m) (main_of (d.reads p.disk.now)) m) n.tells (drawn_by (n.drawn p.entropy.now)))
    (HoldsOnly (held_by k (main_of (d.reads p.disk.now)))) (λ m. HoldsOnly (held_by (keys_of c.args.new c.args.second.now m) m)) p.disk.now end) codec (c.migrate_pages-disk.ensures.safely told) in
    let two = subst (λ (l : List ℕ). KeepsOrCommits d.reads d.images d.moment d.since status (WithDraws (λ m. IsMigratedSo keys (keys_of c.args.new c.args.second.now m) l m) n.tells (drawn_by (n.drawn p.entropy.now)))
    (HoldsOnly (held_by keys l)) (λ m. HoldsOnly (held_by (keys_of c.args.new c.args.second.now m) m)) p.disk.now end) same one in
    let three = subst (λ (x : _). KeepsOrCommits d.reads d.images d.moment d.since status (WithDraws (λ m. IsMigratedSo keys (keys_of c.args.new c.args.second.now m) file m) n.tells (drawn_by (n.drawn x)))
    (HoldsOnly (held_by keys file)) (λ m. HoldsOnly (held_by (keys_of c.args.new c.args.second.now m) m)) p.disk.now end) c.into_pager-pager.ensures.entropy.1 two in
    let first : LeavesOnly d.moment d.since c.args.disk.now p.disk.now (HoldsOnly (held_by keys file)) =
    rw made (read_only d.reads d.images d.moment d.since g.met.D.Disk.counts_now g.met.D.Disk.only_now start read) in
    let last : c.disk-1.given.0 ≡ end = search rules in
    let drawn_last : c.entropy-1.given.0 ≡ c.migrate_pages-disk.result.1.now = search rules in
    rw (last, drawn_last) (after_old d.reads d.images d.moment d.since g.met.D.Disk.counts_now g.met.D.Disk.only_now status first three)

pub returns-clause-own_draws : goal.returns-clause-own_draws
returns-clause-own_draws g c =
    let last : c.disk-1.given.0 ≡ c.migrate_pages-disk.result.0.now = search rules in
    let drawn_last : c.entropy-1.given.0 ≡ c.migrate_pages-disk.result.1.now = search rules in
    rw (last, drawn_last, sym c.into_pager-pager.ensures.entropy.1) c.migrate_pages-disk.ensures.own_draws

pub returns-clause-disk_later : goal.returns-clause-disk_later
returns-clause-disk_later g c =
    let last : c.disk-1.given.0 ≡ c.migrate_pages-disk.result.0.now = search rules in
    rw last (omega (arith, c.open_main.ensures.later, ap g.D.Disk.faults c.into_pager-pager.ensures.disk.1, c.migrate_pages-disk.ensures.disk_later))

pub returns-clause-entropy_later : goal.returns-clause-entropy_later
returns-clause-entropy_later g c =
    let last : c.entropy-1.given.0 ≡ c.migrate_pages-disk.result.1.now = search rules in
    rw last (omega (arith, ap g.E.Entropy.faults c.into_pager-pager.ensures.entropy.1, c.migrate_pages-disk.ensures.entropy_later))

pub returns-clause-entropy_fault : goal.returns-clause-entropy_fault
returns-clause-entropy_fault g c = λ is.
    let after = c.migrate_pages-disk.result.1.now in
    let last : c.entropy-1.given.0 ≡ after = search rules in
    rw last (subst (λ (x : _). Rose (g.E.Entropy.faults x) (g.E.Entropy.faults after)) c.into_pager-pager.ensures.entropy.1 (c.migrate_pages-disk.ensures.entropy_fault is))

pub returns-in-Err-clause-unopened : goal.returns-in-Err-clause-unopened
returns-in-Err-clause-unopened g c = λ told err. c.open_main.ensures.only_read told

pub returns-clause-unopened : goal.returns-clause-unopened
returns-clause-unopened g c = λ told err. is_opened _ _ (c.in-Ok.ensures.opens told) err

pub returns-clause-fresh_gone : goal.returns-clause-fresh_gone
returns-clause-fresh_gone g c =
    let last : c.disk-1.given.0 ≡ c.migrate_pages-disk.result.0.now = search rules in
    rw last c.migrate_pages-disk.ensures.fresh_gone

pub returns-in-Err-clause-stays : goal.returns-in-Err-clause-stays
returns-in-Err-clause-stays g c = λ refused told. read_stays (c.open_main.ensures.only_read told)

pub returns-clause-stays : goal.returns-clause-stays
returns-clause-stays g c =
    let d = g.D.Disk in
    let made = c.into_pager-pager.ensures.disk.1 in
    let last : c.disk-1.given.0 ≡ c.migrate_pages-disk.result.0.now = search rules in
    rw last (after_read IsRefusedChange (d.images c.migrate_pages-disk.result.0.now) c.migrate_pages-disk.result.2
    (λ told image now. (c.open_main.ensures.only_read told).same_images.no_more image (subst (λ (x : _). d.images x image) made now)) c.migrate_pages-disk.ensures.stays)
