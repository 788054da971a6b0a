use Rattle.std.proofs.Common.{◌≡◌, ◌≤◌, ◌∙◌, ◌*◌, rules, arith, true, map, ap, refl, subst, sym}
use Rattle.std.specs.List.{All}
use Rattle.std.proofs.lemmas.Result.{IfErr-weaker, IfOk-weaker}
use Rattle.btree_model.specs.Finding.{entries}
use Rattle.btree_model.specs.Parts.{is_database}
use Rattle.btree_walk.proofs.CauseLemmas.{rose_later}
use Rattle.db_format.specs.Header.{header_fields}
use Rattle.edge_model.specs.Files.{bytes_of, main_of}
use Rattle.fresh_file.proofs.DrawLaws.{told_as}
use Rattle.fresh_disk.proofs.PlaceLaws.{beside}
use Rattle.fresh_file.specs.Salted.{IsSalted}
use Rattle.fresh_file.specs.State.{most_pages}
use Rattle.migrate_job.specs.Migrated.{IsMigrated, IsMigratedUnder}
use Rattle.migrate_job.specs.Stops.{IsMigrateShown}
use Rattle.migrate_job.proofs.BesideLaws.{beside_as, migrated_as, ok_both, own_as, pages_beside, written_salt}
use Rattle.pager.specs.Beside.{beside_joins}
use Rattle.pager.specs.Pages.{opened_pages}
use Rattle.schema_map.specs.Census.{schema_after}
use Rattle.schema_map.specs.Schema.{schema_row}
use Rattle.migrate_job.proofs.renewing.write_beside.Goals as goal

pub write_database-requires : goal.write_database-requires
write_database-requires g c =
    let d = g.D.Disk in
    let p = c.args.pager.now in
    let q = c.new_salt.new.pager in
    let drew = c.new_salt.ensures in
    let pages = opened_pages p.codec (main_of (d.reads p.disk.now)) p.count in
    let now = opened_pages q.codec (main_of (d.reads q.disk.now)) q.count in
    record {
      unpinned = search (rules, c.requires.unpinned);
      header = λ told.
          let same : now ≡ pages = pages_beside p.codec q.codec (d.reads p.disk.now) (d.reads q.disk.now) p.count q.count drew.file.0 (drew.beside.only_fresh told).main drew.file.2 in
          drew.file.1 ∙ c.requires.header told ∙ ap (λ x. header_fields (x.page 1)) (sym same);
      roots = subst (λ n. All (λ row. row.root ≤ n) c.args.schema.now) (sym drew.file.2) c.requires.roots;
      sound = λ told.
          let same : now ≡ pages = pages_beside p.codec q.codec (d.reads p.disk.now) (d.reads q.disk.now) p.count q.count drew.file.0 (drew.beside.only_fresh told).main drew.file.2 in
          subst (λ x. is_database x ≡ true) (sym same) (c.requires.sound told);
      schema = λ told.
          let same : now ≡ pages = pages_beside p.codec q.codec (d.reads p.disk.now) (d.reads q.disk.now) p.count q.count drew.file.0 (drew.beside.only_fresh told).main drew.file.2 in
          subst (λ x. c.args.schema.now ≡ map schema_row (entries (schema_after x))) (sym same) (c.requires.schema told);
    }

pub returns-clause-written : goal.returns-clause-written
returns-clause-written g c =
    let d = g.D.Disk in
    let p = c.args.pager.now in
    let q = c.new_salt.new.pager in
    let r = c.write_database.new.pager in
    let drew = c.new_salt.ensures in
    let pages = opened_pages p.codec (main_of (d.reads p.disk.now)) p.count in
    let now = opened_pages q.codec (main_of (d.reads q.disk.now)) q.count in
    let profile = c.args.profile in
    let secret = c.args.secret.now in
    let keys = c.of_secret-codec.result in
    ok_both c.write_database.result
    (λ written synced told.
    let same : now ≡ pages = pages_beside p.codec q.codec (d.reads p.disk.now) (d.reads q.disk.now) p.count q.count drew.file.0 (drew.beside.only_fresh told).main drew.file.2 in
    beside_as d.reads d.images (IsSalted keys (IsMigratedUnder keys q.header now)) (IsMigrated profile secret p.header pages) r.disk.now
    (λ file salted. migrated_as profile secret p.header q.header pages now drew.file.1 same file
    (told_as profile secret c.in-Ok.salt (λ k l. IsMigratedUnder k q.header now l) keys c.of_secret-codec.ensures c.in-Ok.ensures.clear file salted))
    (beside d.reads d.images (IsSalted keys (IsMigratedUnder keys q.header now)) r.disk.now r.disk.now refl (written told) (synced told)))
    c.write_database.ensures.written c.write_database.ensures.synced

pub returns-clause-size : goal.returns-clause-size
returns-clause-size g c =
    IfOk-weaker c.write_database.result _ _ (λ count sized told file is. sized told file is ∙ ap (λ k. count * k.profile.page_size) c.of_secret-codec.ensures) c.write_database.ensures.size

pub returns-clause-own_draws : goal.returns-clause-own_draws
returns-clause-own_draws g c =
    let d = g.D.Disk in
    let drawn = g.E.Entropy.drawn in
    let q = c.new_salt.new.pager in
    let r = c.write_database.new.pager in
    let keys = c.of_secret-codec.result in
    let now = opened_pages q.codec (main_of (d.reads q.disk.now)) q.count in
    ok_both c.write_database.result
    (λ written own told tell file is.
    own_as c.args.profile c.args.secret.now c.in-Ok.salt keys file (drawn c.args.pager.now.entropy.now) (drawn q.entropy.now) (drawn r.entropy.now) c.of_secret-codec.ensures c.in-Ok.ensures.clear (search rules)
    (written_salt keys (IsMigratedUnder keys q.header now) (bytes_of (d.reads r.disk.now).fresh) file (written told) is)
    (λ hidden. c.in-Ok.ensures.drawn hidden tell) (λ clear. c.in-Ok.ensures.undrawn clear) (c.write_database.ensures.beside.drawn_on tell) (own told tell file is))
    c.write_database.ensures.written c.write_database.ensures.own_draws

pub returns-clause-shown : goal.returns-clause-shown
returns-clause-shown g c =
    let d = g.D.Disk in
    let p = c.args.pager.now in
    let q = c.new_salt.new.pager in
    let drew = c.new_salt.ensures in
    let pages = opened_pages p.codec (main_of (d.reads p.disk.now)) p.count in
    let now = opened_pages q.codec (main_of (d.reads q.disk.now)) q.count in
    IfErr-weaker c.write_database.result _ _ (λ e shown told.
    let same : now ≡ pages = pages_beside p.codec q.codec (d.reads p.disk.now) (d.reads q.disk.now) p.count q.count drew.file.0 (drew.beside.only_fresh told).main drew.file.2 in
    ((shown told).0, subst (λ x. IsMigrateShown c.args.profile x e) same (subst (λ k. IsMigrateShown k.profile now e) c.of_secret-codec.ensures (shown told).1)))
    c.write_database.ensures.shown

pub returns-clause-limit : goal.returns-clause-limit
returns-clause-limit g c limit is = c.write_database.ensures.limit limit is ∙ ap (λ k. most_pages k.profile) c.of_secret-codec.ensures

pub returns-clause-disk_fault : goal.returns-clause-disk_fault
returns-clause-disk_fault g c is =
    let faults = g.D.Disk.faults in
    rose_later (faults c.args.pager.now.disk.now) (faults c.new_salt.new.pager.disk.now) (faults c.write_database.new.pager.disk.now) (search (rules, arith)) (c.write_database.ensures.disk_fault is)

pub returns-clause-entropy_fault : goal.returns-clause-entropy_fault
returns-clause-entropy_fault g c is =
    let faults = g.E.Entropy.faults in
    rose_later (faults c.args.pager.now.entropy.now) (faults c.new_salt.new.pager.entropy.now) (faults c.write_database.new.pager.entropy.now) c.new_salt.ensures.entropy_later
    (c.write_database.ensures.entropy_fault is)

pub returns-clause-beside : goal.returns-clause-beside
returns-clause-beside g c = beside_joins g.met.D.Disk.counts_now c.new_salt.ensures.beside c.write_database.ensures.beside
