use Rattle.std.proofs.Common.{◌≡◌, ◌≤◌, ◌+◌, ◌++◌, ◌∷◌, ℕ, [], map, true, false, Ok, arith, ap, sym, subst, ◌∙◌}
use Rattle.db_format.specs.Pages.{Pages}
use Rattle.db_format.specs.Seen.{marked}
use Rattle.edge_model.specs.Files.{bytes_of, main_of}
use Rattle.btree_model.specs.Content.{entry_of}
use Rattle.btree_model.specs.Finding.{Row, entries}
use Rattle.btree_walk.specs.Cursor.{IsAdvanced, IsNext, row_of, walked, walked_family}
use Rattle.btree_walk.proofs.CursorLemmas.{walked_same}
use Rattle.bulk_load.specs.Few.{TookFew, load_pages}
use Rattle.cipher_profile.specs.Profile.{usable}
use Rattle.migrate_job.proofs.FewLaws.{asks_one, few_at, few_before, walk_asks}
use Rattle.bulk_load.specs.Loader.{Loaded, family_of_loader, is_for}
use Rattle.bulk_load.specs.Own.{Covers, only}
use Rattle.bulk_load.proofs.PutLemmas.{follows_all, keeps_after}
use Rattle.fresh_file.specs.State.{fresh_pages}
use Rattle.pager.specs.Beside.{beside_joins, read_beside}
use Rattle.pager.specs.Causes.{MayRefuse}
use Rattle.pager.specs.Pages.{opened_pages}
use Rattle.migrate_job.specs.Copying.{IsTargetWell, asked_by, beside_main, target_faults, target_limit, target_pages}
use Rattle.migrate_job.proofs.FamilyLaws.{given_is_for}
use Rattle.migrate_job.proofs.TargetLaws.{follows_along, follows_read, fresh_read, keeps_along, late_of_walk, moved_one, well_read}
use Rattle.migrate_job.proofs.WalkStops.{given_stop}
use Rattle.migrate_job.proofs.copying.copy_next.Goals as goal

pub walk_error-requires : goal.walk_error-requires
walk_error-requires g c = given_stop g.D.Disk.tells _ _ _ c.in-Err.error (λ s t read. read.4) c.in-Err.ensures.given

pub returns-in-Ok-clause-pushed : goal.returns-in-Ok-clause-pushed
returns-in-Ok-clause-pushed g c start was own covers pushed loaded =
    let read = c.in-Ok-true.ensures.reads in
    let same = fresh_read read.0 was.told in
    let to = fresh_pages c.push_entry.new.fresh (bytes_of (g.D.Disk.reads c.push_entry.new.side.disk.now).fresh) in
    subst (λ (row : Row). Loaded (only own to) c.push_entry.new.loader (pushed ++ entry_of row ∷ [])) c.entry-entry.ensures
    (c.in-Ok.ensures.pushed start (well_read g.E.Entropy.tells g.E.Entropy.drawn read.0 read.1 c.args.fresh.now start was) own
    (moved_one (λ file. Covers false own (fresh_pages c.args.fresh.now file) to) (bytes_of (g.D.Disk.reads c.args.pager.now.disk.now).fresh) (bytes_of (g.D.Disk.reads c.advance.new.source.disk.now).fresh) same covers) pushed
    (moved_one (λ file. Loaded (only own (fresh_pages c.args.fresh.now file)) c.args.loader.now pushed) (bytes_of (g.D.Disk.reads c.args.pager.now.disk.now).fresh) (bytes_of (g.D.Disk.reads c.advance.new.source.disk.now).fresh) same loaded))

pub returns-in-Ok-clause-keeps : goal.returns-in-Ok-clause-keeps
returns-in-Ok-clause-keeps g c =
    let read = c.in-Ok-true.ensures.reads in
    let d = g.D.Disk in
    let e = g.E.Entropy in
    keeps_after (target_pages (λ out. bytes_of (d.reads out.disk).fresh)) target_limit (target_faults (λ out. d.faults out.disk) (λ out. e.faults out.entropy))
    (IsTargetWell d.tells e.tells (λ out. bytes_of (d.reads out.disk).fresh) (λ out. e.drawn out.entropy)) false
    (beside_main c.args.fresh.now c.args.pager.now.disk.now c.args.pager.now.entropy.now) (beside_main c.args.fresh.now c.advance.new.source.disk.now c.advance.new.source.entropy.now)
    (beside_main c.push_entry.new.fresh c.push_entry.new.side.disk.now c.push_entry.new.side.entropy.now)
    (follows_read e.tells e.drawn read.0 read.1 e.faults c.args.fresh.now)
    (keeps_along d.tells e.tells (λ out. bytes_of (d.reads out.disk).fresh) (λ out. e.drawn out.entropy) (λ out. d.faults out.disk) (λ out. e.faults out.entropy)
    (λ s. record { state = s.state; side = record { disk = s.side.disk.now; entropy = s.side.entropy.now } })
    (record { state = c.args.fresh.now; side = c.advance.new.source }) (record { state = c.push_entry.new.fresh; side = c.push_entry.new.side }) c.in-Ok.ensures.keeps)

pub returns-in-Ok-clause-follows : goal.returns-in-Ok-clause-follows
returns-in-Ok-clause-follows g c =
    let read = c.in-Ok-true.ensures.reads in
    let d = g.D.Disk in
    let e = g.E.Entropy in
    follows_all (target_pages (λ out. bytes_of (d.reads out.disk).fresh)) target_limit (target_faults (λ out. d.faults out.disk) (λ out. e.faults out.entropy))
    (IsTargetWell d.tells e.tells (λ out. bytes_of (d.reads out.disk).fresh) (λ out. e.drawn out.entropy)) false
    (beside_main c.args.fresh.now c.args.pager.now.disk.now c.args.pager.now.entropy.now) (beside_main c.args.fresh.now c.advance.new.source.disk.now c.advance.new.source.entropy.now)
    (beside_main c.push_entry.new.fresh c.push_entry.new.side.disk.now c.push_entry.new.side.entropy.now)
    (follows_read e.tells e.drawn read.0 read.1 e.faults c.args.fresh.now)
    (follows_along d.tells e.tells (λ out. bytes_of (d.reads out.disk).fresh) (λ out. e.drawn out.entropy) (λ out. d.faults out.disk) (λ out. e.faults out.entropy)
    (λ s. record { state = s.state; side = record { disk = s.side.disk.now; entropy = s.side.entropy.now } })
    (record { state = c.args.fresh.now; side = c.advance.new.source }) (record { state = c.push_entry.new.fresh; side = c.push_entry.new.side }) c.in-Ok.ensures.follows)

pub returns-in-Ok-clause-beside : goal.returns-in-Ok-clause-beside
returns-in-Ok-clause-beside g c =
    let read = c.in-Ok-true.ensures.reads in
    beside_joins g.met.D.Disk.counts_now (read_beside g.met.D.Disk.only_now g.met.D.Disk.counts_now read.0 read.1) c.in-Ok.ensures.kept.0

pub returns-in-Err-push_entry-clause-of_walk : goal.returns-in-Err-push_entry-clause-of_walk
returns-in-Err-push_entry-clause-of_walk g c told taken given at family =
    let before : Pages = opened_pages c.args.pager.now.codec (main_of (g.D.Disk.reads c.args.pager.now.disk.now)) c.args.pager.now.count in
    let cursor = c.args.cursor.now in
    let row : Row = row_of c.advance.new.self in
    let next : IsNext before taken given c.advance.new.self (marked c.advance.new.seen) row =
    subst (λ m. IsAdvanced (MayRefuse g.D.Disk.tells) before taken given c.advance.new.self (marked c.advance.new.seen) (Ok m)) c.in-Ok-true.field-0-test (c.in-Ok-true.ensures.on told taken given at) in
    let order : entries (walked before taken cursor) ≡ given ++ row ∷ next.more = ap entries (sym (walked_same before taken cursor c.advance.new.self c.in-Ok-true.ensures.same)) ∙ next.order in
    let own : is_for (walked_family before cursor) row.rowid ≡ true = given_is_for before taken (walked_family before cursor) cursor.root given next.more row order in
    late_of_walk (walked before taken cursor) c.in-Err-push_entry.error
    (c.in-Err-push_entry.ensures.late
    (ap (λ (shown : Row). is_for (family_of_loader c.args.loader.now) shown.rowid) c.entry-entry.ensures ∙ ap (λ f. is_for f row.rowid) family ∙ own))

pub returns-in-Err-push_entry-clause-keeps : goal.returns-in-Err-push_entry-clause-keeps
returns-in-Err-push_entry-clause-keeps g c =
    let read = c.in-Ok-true.ensures.reads in
    let d = g.D.Disk in
    let e = g.E.Entropy in
    keeps_after (target_pages (λ out. bytes_of (d.reads out.disk).fresh)) target_limit (target_faults (λ out. d.faults out.disk) (λ out. e.faults out.entropy))
    (IsTargetWell d.tells e.tells (λ out. bytes_of (d.reads out.disk).fresh) (λ out. e.drawn out.entropy)) false
    (beside_main c.args.fresh.now c.args.pager.now.disk.now c.args.pager.now.entropy.now) (beside_main c.args.fresh.now c.advance.new.source.disk.now c.advance.new.source.entropy.now)
    (beside_main c.push_entry.new.fresh c.push_entry.new.side.disk.now c.push_entry.new.side.entropy.now)
    (follows_read e.tells e.drawn read.0 read.1 e.faults c.args.fresh.now)
    (keeps_along d.tells e.tells (λ out. bytes_of (d.reads out.disk).fresh) (λ out. e.drawn out.entropy) (λ out. d.faults out.disk) (λ out. e.faults out.entropy)
    (λ s. record { state = s.state; side = record { disk = s.side.disk.now; entropy = s.side.entropy.now } })
    (record { state = c.args.fresh.now; side = c.advance.new.source }) (record { state = c.push_entry.new.fresh; side = c.push_entry.new.side }) c.in-Err-push_entry.ensures.keeps)

pub returns-in-Err-push_entry-clause-beside : goal.returns-in-Err-push_entry-clause-beside
returns-in-Err-push_entry-clause-beside g c =
    let read = c.in-Ok-true.ensures.reads in
    beside_joins g.met.D.Disk.counts_now (read_beside g.met.D.Disk.only_now g.met.D.Disk.counts_now read.0 read.1) c.in-Err-push_entry.ensures.kept.0

pub returns-in-Err-clause-beside : goal.returns-in-Err-clause-beside
returns-in-Err-clause-beside g c =
    let read = c.in-Err.ensures.reads in read_beside g.met.D.Disk.only_now g.met.D.Disk.counts_now read.0 read.1

pub returns-in-Ok-false-clause-beside : goal.returns-in-Ok-false-clause-beside
returns-in-Ok-false-clause-beside g c =
    let read = c.in-Ok-false.ensures.reads in read_beside g.met.D.Disk.only_now g.met.D.Disk.counts_now read.0 read.1

pub returns-in-Ok-clause-took : goal.returns-in-Ok-clause-took
returns-in-Ok-clause-took g c from list few =
    subst
    (λ (row : Row). TookFew (family_of_loader c.args.loader.now) (usable c.args.fresh.now.codec.profile) from (list ++ entry_of row ∷ []) (c.push_entry.new.fresh.taken + 1) c.push_entry.new.loader)
    c.entry-entry.ensures (c.in-Ok.ensures.took from list few)

pub returns-in-Ok-false-clause-took : goal.returns-in-Ok-false-clause-took
returns-in-Ok-false-clause-took g c from list few = few

pub returns-in-Err-clause-few : goal.returns-in-Err-clause-few
returns-in-Err-clause-few g c told taken given more at order from few =
    let least = c.requires.loader.usable_is.least in
    let none : asked_by c.walk_error.result ≡ 0 = ap asked_by c.walk_error.ensures ∙ walk_asks c.in-Err.error in
    let held = few_before (family_of_loader c.args.loader.now) (usable c.args.fresh.now.codec.profile) from (c.args.fresh.now.taken + 1) _ given more c.args.loader.now (omega arith) order few in
    omega arith

pub returns-in-Err-push_entry-clause-few : goal.returns-in-Err-push_entry-clause-few
returns-in-Err-push_entry-clause-few g c told taken given more at order from few =
    let before : Pages = opened_pages c.args.pager.now.codec (main_of (g.D.Disk.reads c.args.pager.now.disk.now)) c.args.pager.now.count in
    let cursor = c.args.cursor.now in
    let row : Row = row_of c.advance.new.self in
    let family = family_of_loader c.args.loader.now in
    let size : ℕ = usable c.args.fresh.now.codec.profile in
    let next : IsNext before taken given c.advance.new.self (marked c.advance.new.seen) row =
    subst (λ m. IsAdvanced (MayRefuse g.D.Disk.tells) before taken given c.advance.new.self (marked c.advance.new.seen) (Ok m)) c.in-Ok-true.field-0-test (c.in-Ok-true.ensures.on told taken given at) in
    let rows : entries (walked before taken cursor) ≡ given ++ row ∷ next.more = ap entries (sym (walked_same before taken cursor c.advance.new.self c.in-Ok-true.ensures.same)) ∙ next.order in
    let asked : asked_by c.in-Err-push_entry.error ≤ 1 = asks_one c.in-Err-push_entry.error in
    let least = c.requires.loader.usable_is.least in
    let bound : c.push_entry.new.fresh.taken + 1 + 1 ≤ from + load_pages family size (map entry_of given ++ entry_of row ∷ []) =
    subst (λ (shown : Row). c.push_entry.new.fresh.taken + 1 + 1 ≤ from + load_pages family size (map entry_of given ++ entry_of shown ∷ [])) c.entry-entry.ensures
    (c.in-Err-push_entry.ensures.few from (map entry_of given) few) in
    let whole = few_at family size from (c.push_entry.new.fresh.taken + 1 + 1) (entries (walked before taken cursor)) given next.more row (omega arith) rows bound in
    omega arith

pub returns-in-Err-clause-keeps : goal.returns-in-Err-clause-keeps
returns-in-Err-clause-keeps g c =
    let read = c.in-Err.ensures.reads in
    let e = g.E.Entropy in
    (follows_read e.tells e.drawn read.0 read.1 e.faults c.args.fresh.now).keeps

pub returns-in-Ok-false-clause-keeps : goal.returns-in-Ok-false-clause-keeps
returns-in-Ok-false-clause-keeps g c =
    let read = c.in-Ok-false.ensures.reads in
    let e = g.E.Entropy in
    (follows_read e.tells e.drawn read.0 read.1 e.faults c.args.fresh.now).keeps

pub returns-in-Ok-false-clause-follows : goal.returns-in-Ok-false-clause-follows
returns-in-Ok-false-clause-follows g c =
    let read = c.in-Ok-false.ensures.reads in
    let e = g.E.Entropy in
    follows_read e.tells e.drawn read.0 read.1 e.faults c.args.fresh.now
