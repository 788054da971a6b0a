use Rattle.std.proofs.Common.{◌≡◌, ◌≤◌, ◌∙◌, Err, rules, arith, true, length, map, ap, subst, sym}
use Rattle.std.specs.List.{All}
use Rattle.btree_model.specs.Content.{content}
use Rattle.btree_model.specs.Finding.{entries}
use Rattle.btree_model.specs.Parts.{is_database}
use Rattle.btree_walk.proofs.CauseLemmas.{rose_later}
use Rattle.bulk_load.specs.Found.{HoldsItems}
use Rattle.cipher_profile.specs.Profile.{IsListed}
use Rattle.edge_model.specs.Files.{bytes_of, main_of}
use Rattle.fresh_file.specs.State.{most_pages, fresh_pages}
use Rattle.migrate_job.proofs.BesideLaws.{few_as, late_shown, pages_beside}
use Rattle.migrate_job.proofs.MigratedLaws.{drawn_for, sized_as, written}
use Rattle.page_codec.specs.Page.{FileKeys}
use Rattle.pager.specs.Beside.{beside_joins}
use Rattle.pager.specs.Pages.{opened_pages}
use Rattle.schema_map.specs.Census.{schema_after}
use Rattle.schema_map.specs.Schema.{schema_row}
use Rattle.migrate_job.proofs.renewing.write_database.Goals as goal

pub copy_database-requires-clause-roots : goal.copy_database-requires-clause-roots
copy_database-requires-clause-roots g c =
    subst (λ n. All (λ row. row.root ≤ n) c.args.schema.now) (sym c.in-Ok.ensures.kept.3) c.requires.roots

pub returns-in-Err-clause-shown : goal.returns-in-Err-clause-shown
returns-in-Err-clause-shown g c told =
    let d = g.D.Disk in
    let p = c.args.pager.now in
    let q = c.start.new.side in
    let kept = c.in-Ok.ensures.kept in
    let pages = opened_pages p.codec (main_of (d.reads p.disk.now)) p.count in
    let now = opened_pages q.codec (main_of (d.reads q.disk.now)) q.count in
    let same : now ≡ pages = pages_beside p.codec q.codec (d.reads p.disk.now) (d.reads q.disk.now) p.count q.count kept.1 (kept.0.only_fresh told).main kept.3 in
    let sound = subst (λ x. is_database x ≡ true) (sym same) (c.requires.sound told) in
    let schema = subst (λ x. c.args.schema.now ≡ map schema_row (entries (schema_after x))) (sym same) (c.requires.schema told) in
    let copy = c.in-Err in
    let state = c.in-Ok.state in
    let same_codec : state.codec ≡ c.args.codec = c.in-Ok.ensures.codec in
    let listed : IsListed state.codec.profile =
    subst (λ (k : FileKeys). IsListed k.profile) (sym same_codec) (subst (λ x. IsListed x) c.profile.ensures.value c.profile.ensures.listed) in
    let most : state.limit ≡ most_pages state.codec.profile = c.in-Ok.ensures.limit ∙ ap (λ (k : FileKeys). most_pages k.profile) (sym same_codec) in
    late_shown c.args.codec.profile pages copy.error (copy.ensures.late told sound schema) (c.requires.sound told)
    (λ limit is. few_as pages now c.args.codec c.in-Ok.state.codec c.in-Ok.state.limit same c.in-Ok.ensures.codec c.in-Ok.ensures.limit
    (copy.ensures.few (length (g.E.Entropy.drawn p.entropy.now)) (c.in-Ok.ensures.well told) listed most sound schema limit (search (rules, is))))

pub returns-in-Err-clause-limit : goal.returns-in-Err-clause-limit
returns-in-Err-clause-limit g c limit is = c.in-Err.ensures.limit limit (search (rules, is)) ∙ c.in-Ok.ensures.limit

pub returns-in-Err-clause-beside : goal.returns-in-Err-clause-beside
returns-in-Err-clause-beside g c = beside_joins g.met.D.Disk.counts_now c.in-Ok.ensures.kept.0 c.in-Err.ensures.beside

pub returns-in-Ok-finish-clause-written : goal.returns-in-Ok-finish-clause-written
returns-in-Ok-finish-clause-written g c told =
    let d = g.D.Disk in
    let p = c.args.pager.now in
    let q = c.start.new.side in
    let r = c.copy_database.new.pager in
    let state = c.copy_database.new.state in
    let kept = c.in-Ok.ensures.kept in
    let start = length (g.E.Entropy.drawn p.entropy.now) in
    let pages = opened_pages p.codec (main_of (d.reads p.disk.now)) p.count in
    let now = opened_pages q.codec (main_of (d.reads q.disk.now)) q.count in
    let same : now ≡ pages = pages_beside p.codec q.codec (d.reads p.disk.now) (d.reads q.disk.now) p.count q.count kept.1 (kept.0.only_fresh told).main kept.3 in
    let sound = subst (λ x. is_database x ≡ true) (sym same) (c.requires.sound told) in
    let schema = subst (λ x. c.args.schema.now ≡ map schema_row (entries (schema_after x))) (sym same) (c.requires.schema told) in
    let copy = c.in-Ok-copy_database.ensures in
    let well = c.in-Ok.ensures.well told in
    written c.args.codec p.header c.new_header-header.result pages state start g.E.Entropy.tells (bytes_of (d.reads r.disk.now).fresh) _ _ (subst (λ x. IsListed x) c.profile.ensures.value c.profile.ensures.listed)
    (copy.same.0 ∙ c.in-Ok.ensures.codec) (copy.same.1 ∙ c.in-Ok.ensures.limit) (search rules) (c.in-Ok-finish.ensures.file start (copy.well start well))
    c.finish.ensures.reads_back (c.requires.header told) (c.requires.sound told)
    (subst (λ x. HoldsItems (fresh_pages state (bytes_of (d.reads r.disk.now).fresh)) (content x).rows) same (copy.copied start well sound schema)) (copy.tight start well sound schema)

pub returns-in-Ok-finish-clause-size : goal.returns-in-Ok-finish-clause-size
returns-in-Ok-finish-clause-size g c told =
    let d = g.D.Disk in
    let p = c.args.pager.now in
    let r = c.copy_database.new.pager in
    let state = c.copy_database.new.state in
    let start = length (g.E.Entropy.drawn p.entropy.now) in
    let pages = opened_pages p.codec (main_of (d.reads p.disk.now)) p.count in
    let copy = c.in-Ok-copy_database.ensures in
    sized_as c.args.codec p.header c.new_header-header.result pages state start g.E.Entropy.tells (bytes_of (d.reads r.disk.now).fresh) _ _ (subst (λ x. IsListed x) c.profile.ensures.value c.profile.ensures.listed)
    (copy.same.0 ∙ c.in-Ok.ensures.codec) (copy.same.1 ∙ c.in-Ok.ensures.limit) (search rules) (c.in-Ok-finish.ensures.file start (copy.well start (c.in-Ok.ensures.well told)))
    c.in-Ok-finish.count c.in-Ok-finish.ensures.count

pub returns-in-Ok-finish-clause-own_draws : goal.returns-in-Ok-finish-clause-own_draws
returns-in-Ok-finish-clause-own_draws g c told tell =
    let d = g.D.Disk in
    let p = c.args.pager.now in
    let r = c.copy_database.new.pager in
    let state = c.copy_database.new.state in
    let start = length (g.E.Entropy.drawn p.entropy.now) in
    let pages = opened_pages p.codec (main_of (d.reads p.disk.now)) p.count in
    let copy = c.in-Ok-copy_database.ensures in
    drawn_for c.args.codec p.header c.new_header-header.result pages state start g.E.Entropy.tells (bytes_of (d.reads r.disk.now).fresh) _ _ (subst (λ x. IsListed x) c.profile.ensures.value c.profile.ensures.listed)
    (copy.same.0 ∙ c.in-Ok.ensures.codec) (copy.same.1 ∙ c.in-Ok.ensures.limit) (search rules) (c.in-Ok-finish.ensures.file start (copy.well start (c.in-Ok.ensures.well told)))
    tell

pub returns-in-Ok-finish-clause-beside : goal.returns-in-Ok-finish-clause-beside
returns-in-Ok-finish-clause-beside g c =
    let counts = g.met.D.Disk.counts_now in
    beside_joins counts (beside_joins counts c.in-Ok.ensures.kept.0 c.copy_database.ensures.beside) c.finish.ensures.kept.0

pub returns-in-Err-DiskFault-finish-clause-disk_fault : goal.returns-in-Err-DiskFault-finish-clause-disk_fault
returns-in-Err-DiskFault-finish-clause-disk_fault g c is =
    let faults = g.D.Disk.faults in
    let first = faults c.args.pager.now.disk.now in
    let mid = faults c.start.new.side.disk.now in
    let last = faults c.copy_database.new.pager.disk.now in
    let end = faults c.finish.new.side.disk.now in
    rose_later first mid end c.in-Ok.ensures.disk_later (rose_later mid last end c.copy_database.ensures.disk_later (c.in-Err-DiskFault-finish.ensures.disk (ap (λ e. Err e) c.in-Err-DiskFault-finish.field-0-is)))

pub returns-in-Err-DiskFault-finish-clause-beside : goal.returns-in-Err-DiskFault-finish-clause-beside
returns-in-Err-DiskFault-finish-clause-beside g c =
    let counts = g.met.D.Disk.counts_now in
    beside_joins counts (beside_joins counts c.in-Ok.ensures.kept.0 c.copy_database.ensures.beside) c.finish.ensures.kept.0

pub returns-clause-entropy_fault : goal.returns-clause-entropy_fault
returns-clause-entropy_fault g c is =
    let faults = g.E.Entropy.faults in
    let first = faults c.args.pager.now.entropy.now in
    let last = faults c.copy_database.new.pager.entropy.now in
    let end = faults c.finish.new.side.entropy.now in
    rose_later first last end (search (rules, arith)) (c.in-Err-EntropyFault.ensures.entropy (ap (λ e. Err e) c.in-Err-EntropyFault.field-0-is))

pub returns-clause-beside : goal.returns-clause-beside
returns-clause-beside g c =
    let counts = g.met.D.Disk.counts_now in
    beside_joins counts (beside_joins counts c.in-Ok.ensures.kept.0 c.copy_database.ensures.beside) c.finish.ensures.kept.0
