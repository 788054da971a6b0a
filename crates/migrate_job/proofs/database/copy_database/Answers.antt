use Rattle.std.proofs.Common.{◌≡◌, ◌≤◌, ◌+◌, ◌*◌, ◌^◌, rules, ℕ, List, true, ap, refl, sym, subst, ◌∙◌, arith}
use Rattle.std.specs.Prelude.{◌⊎◌}
use Rattle.std.specs.List.{All}
use Rattle.std.proofs.lemmas.Result.{on_ok_weaker}
use Rattle.db_format.specs.Pages.{Pages}
use Rattle.edge_model.specs.Files.{bytes_of, main_of}
use Rattle.btree_model.specs.Content.{content}
use Rattle.btree_page.specs.declared.kind.Family.TheVariants.{Table}
use Rattle.bulk_load.specs.Found.{HasTree, HoldsItems, IsTightBehind}
use Rattle.bulk_load.specs.Out.{AreAllPut}
use Rattle.bulk_load.specs.Own.{only}
use Rattle.bulk_load.proofs.PutLemmas.{all_put_then, on_ok_both, still_free}
use Rattle.bulk_load.proofs.TakenLemmas.{of_schema, took_after}
use Rattle.bulk_load.specs.Few.{load_pages}
use Rattle.cipher_profile.specs.Profile.{usable}
use Rattle.fresh_file.specs.State.{fresh_pages}
use Rattle.pager.specs.Beside.{beside_joins}
use Rattle.pager.specs.Pages.{opened_pages}
use Rattle.schema_map.specs.declared.schema.SchemaRow.{SchemaRow}
use Rattle.migrate_job.specs.Copied.{AreCopied, AreRenamed, HasLongRow, IsSoundRow, new_entries, trees_most}
use Rattle.migrate_job.specs.Copying.{IsTargetWell, Outside, beside_main, target_faults, target_limit, target_pages}
use Rattle.migrate_job.proofs.AskedLaws.{listed_usable, room_of, schema_asked, trees_asked}
use Rattle.migrate_job.proofs.CopiedLaws.{copied_holds, copied_kept, copied_tight}
use Rattle.migrate_job.proofs.SoundRows.{items_kept, rows_sound}
use Rattle.migrate_job.proofs.TargetLaws.{moved}
use Rattle.migrate_job.proofs.database.copy_database.Goals as goal

pub load_schema-requires-clause-free : goal.load_schema-requires-clause-free
load_schema-requires-clause-free g c =
    let d = g.D.Disk in
    let e = g.E.Entropy in
    still_free (target_pages (λ (out : Outside g.row.D.Denot g.row.E.Denot). bytes_of (d.reads out.disk).fresh)) target_limit
    (target_faults (λ (out : Outside g.row.D.Denot g.row.E.Denot). d.faults out.disk) (λ out. e.faults out.entropy))
    (IsTargetWell d.tells e.tells (λ (out : Outside g.row.D.Denot g.row.E.Denot). bytes_of (d.reads out.disk).fresh) (λ out. e.drawn out.entropy))
    (beside_main c.args.state.now c.args.pager.now.disk.now c.args.pager.now.entropy.now)
    (beside_main c.copy_trees.new.state c.copy_trees.new.pager.disk.now c.copy_trees.new.pager.entropy.now)
    (omega arith) c.in-Ok.ensures.keeps (c.requires.none.1 1)

pub returns-in-Ok-clause-well : goal.returns-in-Ok-clause-well
returns-in-Ok-clause-well g c start was =
    on_ok_weaker c.load_schema.result (λ follows. follows.told start (c.in-Ok.ensures.follows.told start was)) c.load_schema.ensures.follows

pub returns-in-Ok-clause-beside : goal.returns-in-Ok-clause-beside
returns-in-Ok-clause-beside g c = beside_joins g.met.D.Disk.counts_now c.in-Ok.ensures.beside c.load_schema.ensures.kept.0

pub returns-in-Err-clause-late : goal.returns-in-Err-clause-late
returns-in-Err-clause-late g c told sound is =
    let before : Pages = opened_pages c.args.pager.now.codec (main_of (g.D.Disk.reads c.args.pager.now.disk.now)) c.args.pager.now.count in
    c.in-Err.ensures.late told (rows_sound before sound c.rows-rows.result.now (c.rows-rows.ensures ∙ is))

pub returns-in-Ok-clause-copied : goal.returns-in-Ok-clause-copied
returns-in-Ok-clause-copied g c start was sound is =
    let d = g.D.Disk in
    let before : Pages = opened_pages c.args.pager.now.codec (main_of (d.reads c.args.pager.now.disk.now)) c.args.pager.now.count in
    let first : Pages = fresh_pages c.args.state.now (bytes_of (d.reads c.args.pager.now.disk.now).fresh) in
    let middle : Pages = fresh_pages c.copy_trees.new.state (bytes_of (d.reads c.copy_trees.new.pager.disk.now).fresh) in
    let last : Pages = fresh_pages c.load_schema.new.state (bytes_of (d.reads c.load_schema.new.side.disk.now).fresh) in
    let rows : List SchemaRow = c.rows-rows.result.now in
    let roots : List ℕ = c.in-Ok.roots.items in
    let schema = c.rows-rows.ensures ∙ is in
    let well = c.in-Ok.ensures.follows.told start was in
    let known : All (IsSoundRow before) rows = rows_sound before sound rows schema in
    let least : 1 ≤ first.count = omega arith in
    let copied : AreCopied before middle first.count middle.count rows roots = c.in-Ok.ensures.trees start was in
    let has = c.load_schema.ensures.tree start well (of_schema middle last) (took_after c.in-Ok.ensures.keeps least c.requires.none.1 last) in
    on_ok_both c.load_schema.result
    (λ follows. λ (whole : middle.count ≤ last.count → AreCopied before last first.count middle.count rows roots → HoldsItems last (content before).rows). whole follows.keeps.count
    (copied_kept _ _ _ _ before true _ _ start well follows.keeps first.count middle.count least (omega arith) rows roots copied))
    c.load_schema.ensures.follows
    (on_ok_both c.load_schema.result
    (λ tree renamed. λ (more : middle.count ≤ last.count) (are : AreCopied before last first.count middle.count rows roots).
    subst (HoldsItems last) (items_kept before sound rows schema)
    (copied_holds before middle last first.count rows roots least more are known
    (subst (λ l. AreRenamed rows l) c.deref.ensures.value renamed)
    (subst (λ l. HasTree (only (of_schema middle last) last) Table 1 (new_entries rows l)) c.deref.ensures.value tree)))
    has c.load_schema.ensures.renamed)

pub returns-in-Ok-clause-tight : goal.returns-in-Ok-clause-tight
returns-in-Ok-clause-tight g c start was sound is =
    let d = g.D.Disk in
    let before : Pages = opened_pages c.args.pager.now.codec (main_of (d.reads c.args.pager.now.disk.now)) c.args.pager.now.count in
    let first : Pages = fresh_pages c.args.state.now (bytes_of (d.reads c.args.pager.now.disk.now).fresh) in
    let middle : Pages = fresh_pages c.copy_trees.new.state (bytes_of (d.reads c.copy_trees.new.pager.disk.now).fresh) in
    let last : Pages = fresh_pages c.load_schema.new.state (bytes_of (d.reads c.load_schema.new.side.disk.now).fresh) in
    let rows : List SchemaRow = c.rows-rows.result.now in
    let roots : List ℕ = c.in-Ok.roots.items in
    let schema = c.rows-rows.ensures ∙ is in
    let well = c.in-Ok.ensures.follows.told start was in
    let known : All (IsSoundRow before) rows = rows_sound before sound rows schema in
    let there : middle ≡ middle = refl in
    let least : 1 ≤ first.count = omega arith in
    let copied : AreCopied before middle first.count middle.count rows roots = c.in-Ok.ensures.trees start was in
    let has = c.load_schema.ensures.tree start well (of_schema middle last) (took_after c.in-Ok.ensures.keeps least c.requires.none.1 last) in
    on_ok_both c.load_schema.result
    (λ follows. λ (whole : middle.count ≤ last.count → AreCopied before last first.count middle.count rows roots → AreAllPut last → IsTightBehind last). whole follows.keeps.count
    (copied_kept _ _ _ _ before true _ _ start well follows.keeps first.count middle.count least (omega arith) rows roots copied)
    (all_put_then c.in-Ok.ensures.follows follows there c.requires.none.0))
    c.load_schema.ensures.follows
    (on_ok_both c.load_schema.result
    (λ tree renamed. λ (more : middle.count ≤ last.count) (are : AreCopied before last first.count middle.count rows roots) (put : AreAllPut last).
    copied_tight before middle last first.count rows roots least more are known
    (subst (λ l. AreRenamed rows l) c.deref.ensures.value renamed)
    (subst (λ l. HasTree (only (of_schema middle last) last) Table 1 (new_entries rows l)) c.deref.ensures.value tree) c.requires.none.0 put)
    has c.load_schema.ensures.renamed)

pub returns-in-Ok-clause-whole : goal.returns-in-Ok-clause-whole
returns-in-Ok-clause-whole g c =
    let middle : Pages = fresh_pages c.copy_trees.new.state (bytes_of (g.D.Disk.reads c.copy_trees.new.pager.disk.now).fresh) in
    let there : middle ≡ middle = refl in
    on_ok_weaker c.load_schema.result (λ follows. all_put_then c.in-Ok.ensures.follows follows there c.requires.none.0) c.load_schema.ensures.follows

pub returns-in-Err-clause-few : goal.returns-in-Err-clause-few
returns-in-Err-clause-few g c start was listed most sound is limit stopped =
    let before : Pages = opened_pages c.args.pager.now.codec (main_of (g.D.Disk.reads c.args.pager.now.disk.now)) c.args.pager.now.count in
    let rows : List SchemaRow = c.rows-rows.result.now in
    let size : ℕ = usable c.args.state.now.codec.profile in
    let none : c.args.state.now.taken ≡ 0 = omega (arith, c.requires.none.0) in
    let asked : c.args.state.now.limit ≤ c.args.state.now.taken + trees_most before size rows = c.in-Err.ensures.asked limit (search (rules, stopped)) was.told in
    trees_asked before size c.args.state.now.limit sound rows (c.rows-rows.ensures ∙ is) (omega (arith, none, asked))

pub returns-in-Ok-clause-few : goal.returns-in-Ok-clause-few
returns-in-Ok-clause-few g c start was listed most sound is limit stopped =
    let d = g.D.Disk in
    let state = c.args.state.now in
    let mid = c.copy_trees.new.state in
    let before : Pages = opened_pages c.args.pager.now.codec (main_of (d.reads c.args.pager.now.disk.now)) c.args.pager.now.count in
    let middle : Pages = fresh_pages mid (bytes_of (d.reads c.copy_trees.new.pager.disk.now).fresh) in
    let rows : List SchemaRow = c.rows-rows.result.now in
    let roots : List ℕ = c.in-Ok.roots.items in
    let size : ℕ = usable state.codec.profile in
    let tree = c.in-Ok.ensures in
    let none : state.taken ≡ 0 = omega (arith, c.requires.none.0) in
    let taken : mid.taken ≤ state.taken + trees_most before size rows = tree.few was.told in
    let same_size : usable mid.codec.profile ≡ size = ap (λ codec. usable codec.profile) tree.codec in
    let why : HasLongRow rows roots ⊎ (state.limit ≤ mid.taken + load_pages Table size (new_entries rows roots)) =
    subst (λ l. HasLongRow rows l ⊎ (state.limit ≤ mid.taken + load_pages Table size (new_entries rows l))) c.deref.ensures.value
    (moved (λ u n. HasLongRow rows c.deref.result.now ⊎ (n ≤ mid.taken + load_pages Table u (new_entries rows c.deref.result.now))) (usable mid.codec.profile) size mid.limit state.limit
    (sym same_size) (sym tree.follows.keeps.limit_is) (c.load_schema.ensures.asked limit stopped)) in
    let room : state.limit * size ≤ 2 ^ 30 = subst (λ n. n * size ≤ 2 ^ 30) (sym most) (room_of state.codec.profile) in
    schema_asked before size state.limit sound rows (c.rows-rows.ensures ∙ is) middle (state.taken + 1) mid.taken roots (tree.trees start was) (omega arith) (omega (arith, none, taken))
    (listed_usable state.codec.profile listed) room why
