use Rattle.std.proofs.Common.{◌≡◌, ◌≤◌, ◌+◌, ℕ, arith, subst}
use Rattle.std.proofs.lemmas.Result.{IfErr-weaker, IfOk-weaker}
use Rattle.db_format.specs.Pages.{Pages}
use Rattle.edge_model.specs.Files.{bytes_of, main_of}
use Rattle.btree_model.specs.Tree.{root_family}
use Rattle.bulk_load.specs.Few.{load_pages}
use Rattle.bulk_load.specs.Own.{between}
use Rattle.bulk_load.proofs.TakenLemmas.{took}
use Rattle.cipher_profile.specs.Profile.{usable}
use Rattle.fresh_file.specs.State.{fresh_pages}
use Rattle.pager.specs.Pages.{opened_pages}
use Rattle.migrate_job.specs.Copied.{old_entries}
use Rattle.migrate_job.proofs.AskedLaws.{most_there}
use Rattle.migrate_job.proofs.CopiedLaws.{copied_tree, rooted_sound}
use Rattle.migrate_job.proofs.database.copy_row.Goals as goal

pub returns-clause-tree : goal.returns-clause-tree
returns-clause-tree g c start well =
    let d = g.D.Disk in
    let before = opened_pages c.args.pager.now.codec (main_of (d.reads c.args.pager.now.disk.now)) c.args.pager.now.count in
    let old = fresh_pages c.args.state.now (bytes_of (d.reads c.args.pager.now.disk.now).fresh) in
    let new = fresh_pages c.copy_tree.new.state (bytes_of (d.reads c.copy_tree.new.pager.disk.now).fresh) in
    let some : c.args.root ≡ 0 → ⊥ = λ none. grind (arith, none, c.if-root-eq0.false) in
    IfOk-weaker c.copy_tree.result _ _ (λ root has. copied_tree before new old.count new.count c.args.root root some has)
    (c.copy_tree.ensures.tree start well (between old.count new.count) (took old new c.copy_tree.ensures.keeps.free))

pub returns-clause-late : goal.returns-clause-late
returns-clause-late g c =
    let before = opened_pages c.args.pager.now.codec (main_of (g.D.Disk.reads c.args.pager.now.disk.now)) c.args.pager.now.count in
    let some : c.args.root ≡ 0 → ⊥ = λ none. grind (arith, none, c.if-root-eq0.false) in
    IfErr-weaker c.copy_tree.result _ _ (λ error late told values rooted. late told (rooted_sound before values c.args.root some rooted)) c.copy_tree.ensures.late

pub returns-clause-few : goal.returns-clause-few
returns-clause-few g c told =
    let root : ℕ = c.args.root in
    let size : ℕ = usable c.args.state.now.codec.profile in
    let before : Pages = opened_pages c.args.pager.now.codec (main_of (g.D.Disk.reads c.args.pager.now.disk.now)) c.args.pager.now.count in
    let some : root ≡ 0 → ⊥ = λ none. grind (arith, none, c.if-root-eq0.false) in
    let few : c.copy_tree.new.state.taken ≤ c.args.state.now.taken + load_pages (root_family root (before.page root)) size (old_entries before root) = c.copy_tree.ensures.few told in
    subst (λ n. c.copy_tree.new.state.taken ≤ c.args.state.now.taken + n) (most_there before size root some) few

pub returns-clause-asked : goal.returns-clause-asked
returns-clause-asked g c limit is told =
    let root : ℕ = c.args.root in
    let size : ℕ = usable c.args.state.now.codec.profile in
    let before : Pages = opened_pages c.args.pager.now.codec (main_of (g.D.Disk.reads c.args.pager.now.disk.now)) c.args.pager.now.count in
    let some : root ≡ 0 → ⊥ = λ none. grind (arith, none, c.if-root-eq0.false) in
    let full : c.args.state.now.limit ≤ c.copy_tree.new.state.taken + 1 = (c.copy_tree.ensures.limit limit is).1 in
    let asked : c.copy_tree.new.state.taken + 1 ≤ c.args.state.now.taken + load_pages (root_family root (before.page root)) size (old_entries before root) = c.copy_tree.ensures.asked limit is told in
    subst (λ n. c.args.state.now.limit ≤ c.args.state.now.taken + n) (most_there before size root some) (omega (arith, full, asked))

pub returns-clause-limit : goal.returns-clause-limit
returns-clause-limit g c limit is = (c.copy_tree.ensures.limit limit is).0
