use Rattle.std.proofs.Common.{◌≡◌, ◌≤◌, ◌∙◌, ℕ, List, length, drop, true, false, map, ap, subst, sym}
use Rattle.std.specs.List.{All}
use Rattle.std.proofs.lemmas.Result.{IfErr-weaker}
use Rattle.btree_model.specs.Finding.{entries}
use Rattle.btree_model.specs.Parts.{is_database}
use Rattle.btree_walk.proofs.CauseLemmas.{rose_later}
use Rattle.db_format.specs.Header.{header_fields}
use Rattle.edge_model.specs.Files.{Files, main_of}
use Rattle.fresh_file.specs.Draws.{HasOwnDraws}
use Rattle.migrate_job.specs.Migrated.{IsMigrated}
use Rattle.migrate_job.specs.Stops.{IsMigrateShown}
use Rattle.migrate_job.proofs.CheckedLaws.{found_shown}
use Rattle.migrate_job.proofs.BesideLaws.{beside_as, migrated_as, pages_beside}
use Rattle.pager.proofs.UnderWayLemmas.{ok_map}
use Rattle.page_codec.specs.Page.{keys_of}
use Rattle.pager.specs.Beside.{beside_joins, read_beside}
use Rattle.pager.specs.Pages.{opened_pages}
use Rattle.schema_map.specs.Census.{schema_after}
use Rattle.schema_map.specs.Schema.{schema_row}
use Rattle.migrate_job.proofs.job.write_new.Goals as goal

pub returns-in-Err-clause-shown : goal.returns-in-Err-clause-shown
returns-in-Err-clause-shown g c told =
    let p = c.args.pager.now in
    found_shown c.args.profile (opened_pages p.codec (main_of (g.D.Disk.reads p.disk.now)) p.count) c.in-Err.error (c.in-Err.ensures.found told)

pub returns-in-Err-clause-beside : goal.returns-in-Err-clause-beside
returns-in-Err-clause-beside g c = read_beside g.met.D.Disk.only_now g.met.D.Disk.counts_now c.check_database.ensures.disk c.check_database.ensures.entropy

pub write_beside-requires : goal.write_beside-requires
write_beside-requires g c =
    let d = g.D.Disk in
    let p = c.args.pager.now in
    let q = c.check_database.new.pager in
    let checked = c.in-Ok.ensures in
    let pages = opened_pages p.codec (main_of (d.reads p.disk.now)) p.count in
    let now = opened_pages q.codec (main_of (d.reads q.disk.now)) q.count in
    record {
      listed = c.requires.listed;
      unpinned = checked.unpinned;
      header = λ told.
          let same : now ≡ pages = pages_beside p.codec q.codec (d.reads p.disk.now) (d.reads q.disk.now) p.count q.count checked.file.0
          (ap (λ (f : Files). f.main) (checked.disk.only_read told).stays) checked.file.2 in
          checked.file.1 ∙ c.requires.header told ∙ ap (λ x. header_fields (x.page 1)) (sym same);
      roots = subst (λ n. All (λ row. row.root ≤ n) c.in-Ok.schema) (sym checked.file.2) checked.roots;
      sound = λ told.
          let same : now ≡ pages = pages_beside p.codec q.codec (d.reads p.disk.now) (d.reads q.disk.now) p.count q.count checked.file.0
          (ap (λ (f : Files). f.main) (checked.disk.only_read told).stays) checked.file.2 in
          subst (λ x. is_database x ≡ true) (sym same) (checked.sound told);
      schema = λ told.
          let same : now ≡ pages = pages_beside p.codec q.codec (d.reads p.disk.now) (d.reads q.disk.now) p.count q.count checked.file.0
          (ap (λ (f : Files). f.main) (checked.disk.only_read told).stays) checked.file.2 in
          subst (λ x. c.in-Ok.schema ≡ map schema_row (entries (schema_after x))) (sym same) (checked.schema told);
    }

pub returns-clause-written : goal.returns-clause-written
returns-clause-written g c =
    let d = g.D.Disk in
    let p = c.args.pager.now in
    let q = c.check_database.new.pager in
    let r = c.write_beside.new.pager in
    let checked = c.in-Ok.ensures in
    let pages = opened_pages p.codec (main_of (d.reads p.disk.now)) p.count in
    let now = opened_pages q.codec (main_of (d.reads q.disk.now)) q.count in
    let profile = c.args.profile in
    let secret = c.args.secret.now in
    ok_map c.write_beside.result c.write_beside.ensures.written (λ written told.
    let same : now ≡ pages = pages_beside p.codec q.codec (d.reads p.disk.now) (d.reads q.disk.now) p.count q.count checked.file.0
    (ap (λ (f : Files). f.main) (checked.disk.only_read told).stays) checked.file.2 in
    beside_as d.reads d.images (IsMigrated profile secret q.header now) (IsMigrated profile secret p.header pages) r.disk.now
    (migrated_as profile secret p.header q.header pages now checked.file.1 same) (written told))

pub returns-clause-own_draws : goal.returns-clause-own_draws
returns-clause-own_draws g c =
    let drawn = g.E.Entropy.drawn in
    ok_map c.write_beside.result c.write_beside.ensures.own_draws (λ own told tell file is.
    subst (λ (before : List ℕ). HasOwnDraws (keys_of c.args.profile c.args.secret.now file) file (drop (length before) (drawn c.write_beside.new.pager.entropy.now)))
    (ap drawn c.check_database.ensures.entropy.value) (own told tell file is))

pub returns-clause-shown : goal.returns-clause-shown
returns-clause-shown g c =
    let d = g.D.Disk in
    let p = c.args.pager.now in
    let q = c.check_database.new.pager in
    let checked = c.in-Ok.ensures in
    let pages = opened_pages p.codec (main_of (d.reads p.disk.now)) p.count in
    let now = opened_pages q.codec (main_of (d.reads q.disk.now)) q.count in
    IfErr-weaker c.write_beside.result _ _ (λ e shown told.
    let same : now ≡ pages = pages_beside p.codec q.codec (d.reads p.disk.now) (d.reads q.disk.now) p.count q.count checked.file.0
    (ap (λ (f : Files). f.main) (checked.disk.only_read told).stays) checked.file.2 in
    subst (λ x. IsMigrateShown c.args.profile x e) same (shown told).1)
    c.write_beside.ensures.shown

pub returns-clause-early : goal.returns-clause-early
returns-clause-early g c =
    IfErr-weaker c.write_beside.result _ _ (λ e shown early told. let no : true ≡ false = sym early ∙ (shown told).0 in cc) c.write_beside.ensures.shown

pub returns-clause-disk_fault : goal.returns-clause-disk_fault
returns-clause-disk_fault g c is =
    let faults = g.D.Disk.faults in
    rose_later (faults c.args.pager.now.disk.now) (faults c.check_database.new.pager.disk.now) (faults c.write_beside.new.pager.disk.now) c.check_database.ensures.disk.later
    (c.write_beside.ensures.disk_fault is)

pub returns-clause-beside : goal.returns-clause-beside
returns-clause-beside g c =
    beside_joins g.met.D.Disk.counts_now (read_beside g.met.D.Disk.only_now g.met.D.Disk.counts_now c.check_database.ensures.disk c.check_database.ensures.entropy)
    c.write_beside.ensures.beside
