use Rattle.std.proofs.Common.{rules, ◌≡◌, ◌≤◌, ◌+◌, ◌++◌, ◌∷◌, [], ℕ, false, length, length-append, take, ap, sym, subst, ◌∙◌, arith}
use Rattle.std.specs.Prelude.{slice_index_or}
use Rattle.std.proofs.lemmas.List.{take_all, take_more}
use Rattle.db_format.specs.Pages.{Pages}
use Rattle.edge_model.specs.Files.{bytes_of, main_of}
use Rattle.bulk_load.proofs.PutLemmas.{follows_all, keeps_after}
use Rattle.cipher_profile.specs.Profile.{usable}
use Rattle.fresh_file.specs.State.{fresh_pages}
use Rattle.pager.specs.Beside.{beside_joins}
use Rattle.pager.specs.Pages.{opened_pages}
use Rattle.schema_map.specs.declared.schema.SchemaRow.{SchemaRow}
use Rattle.migrate_job.specs.Copied.{AreCopied, IsCopiedTree, IsRooted, IsSoundRow, tree_most, trees_most}
use Rattle.migrate_job.specs.Copying.{IsTargetWell, Outside, beside_main, target_faults, target_limit, target_pages}
use Rattle.migrate_job.proofs.AskedLaws.{most_more, most_of_first}
use Rattle.migrate_job.proofs.BeforeLaws.{before_same}
use Rattle.migrate_job.proofs.CopiedLaws.{copied_kept, copied_more}
use Rattle.migrate_job.proofs.TargetLaws.{moved}
use Rattle.migrate_job.proofs.database.copy_trees.Goals as goal

pub returns-in-Err-clause-late : goal.returns-in-Err-clause-late
returns-in-Err-clause-late g c told sound =
    let d = g.D.Disk in
    let i = c.loop-i.invariant in
    let before : Pages = opened_pages c.args.pager.now.codec (main_of (d.reads c.args.pager.now.disk.now)) c.args.pager.now.count in
    let now : Pages = opened_pages c.loop-i.pager.codec (main_of (d.reads c.loop-i.pager.disk.now)) c.loop-i.pager.count in
    let same : now ≡ before = before_same _ _ c.args.pager.now.codec c.loop-i.pager.codec c.args.pager.now.count c.loop-i.pager.count (i.beside.only_fresh told) i.file.0 i.file.2 in
    let row : SchemaRow = slice_index_or c.args.rows.now c.loop-i.i c.index-rows-i.result in
    let known : IsSoundRow before row = sound c.loop-i.i c.index-rows-i.result c.loop-i-test.true in
    c.in-Err.ensures.late told known.values (subst (λ (p : Pages). IsRooted p known.values row.root) (sym same) known.rooted)

pub returns-in-Err-clause-keeps : goal.returns-in-Err-clause-keeps
returns-in-Err-clause-keeps g c =
    let d = g.D.Disk in
    let e = g.E.Entropy in
    keeps_after (target_pages (λ out. bytes_of (d.reads out.disk).fresh)) target_limit (target_faults (λ out. d.faults out.disk) (λ out. e.faults out.entropy))
    (IsTargetWell d.tells e.tells (λ out. bytes_of (d.reads out.disk).fresh) (λ out. e.drawn out.entropy)) false
    (beside_main c.args.state.now c.args.pager.now.disk.now c.args.pager.now.entropy.now) (beside_main c.loop-i.state c.loop-i.pager.disk.now c.loop-i.pager.entropy.now)
    (beside_main c.copy_row.new.state c.copy_row.new.pager.disk.now c.copy_row.new.pager.entropy.now) c.loop-i.invariant.follows c.in-Err.ensures.keeps

pub returns-in-Err-clause-beside : goal.returns-in-Err-clause-beside
returns-in-Err-clause-beside g c = beside_joins g.met.D.Disk.counts_now c.loop-i.invariant.beside c.in-Err.ensures.beside

pub returns-in-Err-push-clause-keeps : goal.returns-in-Err-push-clause-keeps
returns-in-Err-push-clause-keeps g c =
    let d = g.D.Disk in
    let e = g.E.Entropy in
    keeps_after (target_pages (λ out. bytes_of (d.reads out.disk).fresh)) target_limit (target_faults (λ out. d.faults out.disk) (λ out. e.faults out.entropy))
    (IsTargetWell d.tells e.tells (λ out. bytes_of (d.reads out.disk).fresh) (λ out. e.drawn out.entropy)) false
    (beside_main c.args.state.now c.args.pager.now.disk.now c.args.pager.now.entropy.now) (beside_main c.loop-i.state c.loop-i.pager.disk.now c.loop-i.pager.entropy.now)
    (beside_main c.copy_row.new.state c.copy_row.new.pager.disk.now c.copy_row.new.pager.entropy.now) c.loop-i.invariant.follows c.in-Ok.ensures.keeps

pub returns-in-Err-push-clause-beside : goal.returns-in-Err-push-clause-beside
returns-in-Err-push-clause-beside g c = beside_joins g.met.D.Disk.counts_now c.loop-i.invariant.beside c.in-Ok.ensures.beside

pub loop-i-preserved : goal.loop-i-preserved
loop-i-preserved g c =
    let d = g.D.Disk in
    let e = g.E.Entropy in
    let n : ℕ = c.loop-i.i in
    let i = c.loop-i.invariant in
    let tree = c.in-Ok.ensures in
    let row : SchemaRow = slice_index_or c.args.rows.now n c.index-rows-i.result in
    let pages = target_pages (λ (out : Outside g.row.D.Denot g.row.E.Denot). bytes_of (d.reads out.disk).fresh) in
    let faults = target_faults (λ (out : Outside g.row.D.Denot g.row.E.Denot). d.faults out.disk) (λ out. e.faults out.entropy) in
    let well = IsTargetWell d.tells e.tells (λ (out : Outside g.row.D.Denot g.row.E.Denot). bytes_of (d.reads out.disk).fresh) (λ out. e.drawn out.entropy) in
    let first = beside_main c.args.state.now c.args.pager.now.disk.now c.args.pager.now.entropy.now in
    let from = beside_main c.loop-i.state c.loop-i.pager.disk.now c.loop-i.pager.entropy.now in
    let to = beside_main c.copy_row.new.state c.copy_row.new.pager.disk.now c.copy_row.new.pager.entropy.now in
    let before : Pages = opened_pages c.args.pager.now.codec (main_of (d.reads c.args.pager.now.disk.now)) c.args.pager.now.count in
    let now : Pages = opened_pages c.loop-i.pager.codec (main_of (d.reads c.loop-i.pager.disk.now)) c.loop-i.pager.count in
    record {
      each = ap length c.in-Ok-push.ensures.items ∙ length-append c.loop-i.roots.items (c.in-Ok.root ∷ []) ∙ ap (λ k. k + 1) i.each;
      trees = λ start was.
          let same : now ≡ before = before_same _ _ c.args.pager.now.codec c.loop-i.pager.codec c.args.pager.now.count c.loop-i.pager.count (i.beside.only_fresh was.told) i.file.0 i.file.2 in
          let told = i.follows.told start was in
          let one : IsCopiedTree before (pages to) (pages from).count (pages to).count row.root c.in-Ok.root =
          subst (λ (p : Pages). IsCopiedTree p (pages to) (pages from).count (pages to).count row.root c.in-Ok.root) same (tree.tree start told) in
          let earlier : AreCopied before (pages to) (pages first).count (pages from).count (take n c.args.rows.now) c.loop-i.roots.items =
          copied_kept pages target_limit faults well before false from to start told tree.keeps (pages first).count (pages from).count (omega arith) (omega arith) (take n c.args.rows.now)
          c.loop-i.roots.items (i.trees start was) in
          subst (λ rows. AreCopied before (pages to) (pages first).count (pages to).count rows c.push.new.self.items)
          (sym (take_more c.args.rows.now n c.index-rows-i.result c.loop-i-test.true))
          (subst (λ roots. AreCopied before (pages to) (pages first).count (pages to).count (take n c.args.rows.now ++ row ∷ []) roots) (sym c.in-Ok-push.ensures.items)
          (copied_more before (pages to) (pages first).count (pages from).count (pages to).count (take n c.args.rows.now) c.loop-i.roots.items row c.in-Ok.root earlier tree.keeps.count one));
      few = λ told.
          let same : now ≡ before = before_same _ _ c.args.pager.now.codec c.loop-i.pager.codec c.args.pager.now.count c.loop-i.pager.count (i.beside.only_fresh told) i.file.0 i.file.2 in
          let size : ℕ = usable c.args.state.now.codec.profile in
          let one : c.copy_row.new.state.taken ≤ c.loop-i.state.taken + tree_most before size row.root =
          moved (λ p u. c.copy_row.new.state.taken ≤ c.loop-i.state.taken + tree_most p u row.root) now before (usable c.loop-i.state.codec.profile) size (sym same)
          (sym (ap (λ codec. usable codec.profile) i.codec)) (tree.few told) in
          let more : trees_most before size (take (n + 1) c.args.rows.now) ≡ trees_most before size (take n c.args.rows.now) + tree_most before size row.root =
          most_more before size c.args.rows.now n c.index-rows-i.result c.loop-i-test.true in
          omega (arith, i.few told, one, more);
      follows = follows_all pages target_limit faults well false first from to i.follows tree.follows;
      codec = tree.codec ∙ i.codec;
      unpinned = tree.unpinned;
      beside = beside_joins g.met.D.Disk.counts_now i.beside tree.beside;
      file = (tree.file.0 ∙ i.file.0, tree.file.1 ∙ i.file.1, tree.file.2 ∙ i.file.2);
    }

pub returns-clause-trees : goal.returns-clause-trees
returns-clause-trees g c start was =
    let d = g.D.Disk in
    let n : ℕ = c.loop-i.i in
    let before : Pages = opened_pages c.args.pager.now.codec (main_of (d.reads c.args.pager.now.disk.now)) c.args.pager.now.count in
    let first : Pages = fresh_pages c.args.state.now (bytes_of (d.reads c.args.pager.now.disk.now).fresh) in
    let last : Pages = fresh_pages c.loop-i.state (bytes_of (d.reads c.loop-i.pager.disk.now).fresh) in
    let whole : n ≡ length c.args.rows.now = omega (arith, c.loop-i-test.false, c.loop-i.auto.i-end) in
    let all : take n c.args.rows.now ≡ c.args.rows.now = take_all n c.args.rows.now (omega (arith, whole)) in
    subst (λ rows. AreCopied before last first.count last.count rows c.loop-i.roots.items) all (c.loop-i.invariant.trees start was)

pub returns-clause-few : goal.returns-clause-few
returns-clause-few g c told =
    let n : ℕ = c.loop-i.i in
    let before : Pages = opened_pages c.args.pager.now.codec (main_of (g.D.Disk.reads c.args.pager.now.disk.now)) c.args.pager.now.count in
    let whole : n ≡ length c.args.rows.now = omega (arith, c.loop-i-test.false, c.loop-i.auto.i-end) in
    let all : take n c.args.rows.now ≡ c.args.rows.now = take_all n c.args.rows.now (omega (arith, whole)) in
    subst (λ rows. c.loop-i.state.taken ≤ c.args.state.now.taken + trees_most before (usable c.args.state.now.codec.profile) rows) all (c.loop-i.invariant.few told)

pub returns-in-Err-clause-asked : goal.returns-in-Err-clause-asked
returns-in-Err-clause-asked g c limit is told =
    let d = g.D.Disk in
    let n : ℕ = c.loop-i.i in
    let i = c.loop-i.invariant in
    let before : Pages = opened_pages c.args.pager.now.codec (main_of (d.reads c.args.pager.now.disk.now)) c.args.pager.now.count in
    let now : Pages = opened_pages c.loop-i.pager.codec (main_of (d.reads c.loop-i.pager.disk.now)) c.loop-i.pager.count in
    let same : now ≡ before = before_same _ _ c.args.pager.now.codec c.loop-i.pager.codec c.args.pager.now.count c.loop-i.pager.count (i.beside.only_fresh told) i.file.0 i.file.2 in
    let row : SchemaRow = slice_index_or c.args.rows.now n c.index-rows-i.result in
    let size : ℕ = usable c.args.state.now.codec.profile in
    let kept : c.loop-i.state.limit ≡ c.args.state.now.limit = i.follows.keeps.limit_is in
    let one : c.loop-i.state.limit ≤ c.loop-i.state.taken + tree_most before size row.root =
    moved (λ p u. c.loop-i.state.limit ≤ c.loop-i.state.taken + tree_most p u row.root) now before (usable c.loop-i.state.codec.profile) size (sym same)
    (sym (ap (λ codec. usable codec.profile) i.codec)) (c.in-Err.ensures.asked limit (search (rules, is)) told) in
    let more : trees_most before size (take (n + 1) c.args.rows.now) ≡ trees_most before size (take n c.args.rows.now) + tree_most before size row.root =
    most_more before size c.args.rows.now n c.index-rows-i.result c.loop-i-test.true in
    let first : trees_most before size (take (n + 1) c.args.rows.now) ≤ trees_most before size c.args.rows.now = most_of_first before size c.args.rows.now (n + 1) in
    omega (arith, i.few told, kept, one, more, first)
