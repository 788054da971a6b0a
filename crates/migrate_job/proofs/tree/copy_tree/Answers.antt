use Rattle.std.proofs.Common.{◌≡◌, ◌≤◌, ◌+◌, ℕ, true, false, map, IfOk, refl, sym, subst}
use Rattle.std.specs.Prelude.{IsTrue}
use Rattle.db_format.specs.Pages.{Pages, nothing}
use Rattle.edge_model.specs.Files.{bytes_of, main_of}
use Rattle.btree_model.specs.Content.{entry_of}
use Rattle.btree_model.specs.Finding.{entries, is_sound}
use Rattle.btree_model.specs.Tree.{root_family, tree_walk}
use Rattle.btree_walk.specs.declared.error.WalkError.TheVariants.{Source}
use Rattle.btree_walk.proofs.CauseLemmas.{if_err_map}
use Rattle.btree_walk.proofs.PathLemmas.{number_is_page}
use Rattle.btree_walk.proofs.TurnLemmas.{start_shut}
use Rattle.bulk_load.specs.Found.{HasTree}
use Rattle.bulk_load.specs.Few.{load_pages}
use Rattle.cipher_profile.specs.Profile.{usable}
use Rattle.migrate_job.specs.declared.error.MigrateError.TheVariants.{TooManyPages}
use Rattle.migrate_job.proofs.FewLaws.{if_err_at}
use Rattle.bulk_load.specs.Own.{CoversNew, only}
use Rattle.bulk_load.proofs.PutLemmas.{follows_all, keeps_after}
use Rattle.fresh_file.specs.State.{fresh_pages}
use Rattle.pager.specs.Beside.{beside_joins, read_beside}
use Rattle.pager.specs.Causes.{MayRefuse}
use Rattle.pager.specs.Pages.{opened_pages}
use Rattle.migrate_job.specs.Copying.{IsOfWalk, IsTargetWell, asked_by, beside_main, target_faults, target_limit, target_pages}
use Rattle.migrate_job.specs.Stops.{is_early_stop}
use Rattle.migrate_job.proofs.CopyLaws.{before_same, on_ok_map, refused_of_walk, sound_late}
use Rattle.migrate_job.proofs.TargetLaws.{follows_read, fresh_read, moved_one, well_read}
use Rattle.migrate_job.proofs.tree.copy_tree.Goals as goal
use Rattle.pager.proofs.Refusals.{read_refusal}

pub returns-in-Ok-clause-tree : goal.returns-in-Ok-clause-tree
returns-in-Ok-clause-tree g c start was own covers =
    let d = g.D.Disk in
    let e = g.E.Entropy in
    let read = c.in-Ok.ensures.reads in
    let pager = c.args.pager.now in
    let mid = c.tree_family.new.source in
    let root = c.args.root in
    let before : Pages = opened_pages pager.codec (main_of (d.reads pager.disk.now)) pager.count in
    let now : Pages = opened_pages mid.codec (main_of (d.reads mid.disk.now)) mid.count in
    let beside = read_beside {draws_tell = e.tells} {drawn = e.drawn} g.met.D.Disk.only_now g.met.D.Disk.counts_now read.0 read.1 in
    let same : now ≡ before = before_same pager.codec mid.codec (d.reads pager.disk.now) (d.reads mid.disk.now) pager.count mid.count read.2 (beside.only_fresh was.told) read.4 in
    let new : Pages = fresh_pages c.copy_family.new.state (bytes_of (d.reads c.copy_family.new.pager.disk.now).fresh) in
    subst (λ f. IfOk c.copy_family.result (λ new_root. HasTree (only own new) f new_root (map entry_of (entries (tree_walk before f nothing root))))) (c.in-Ok.ensures.value was.told)
    (subst (λ p. IfOk c.copy_family.result (λ new_root. HasTree (only own new) c.in-Ok.family new_root (map entry_of (entries (tree_walk p c.in-Ok.family nothing root))))) same
    (c.copy_family.ensures.tree start (well_read e.tells e.drawn read.0 read.1 c.args.state.now start was) own
    (moved_one (λ file. CoversNew false own (fresh_pages c.args.state.now file) new) (bytes_of (d.reads pager.disk.now).fresh) (bytes_of (d.reads mid.disk.now).fresh) (fresh_read read.0 was.told) covers)))

pub returns-in-Ok-clause-late : goal.returns-in-Ok-clause-late
returns-in-Ok-clause-late g c =
    let d = g.D.Disk in
    let e = g.E.Entropy in
    let read = c.in-Ok.ensures.reads in
    let pager = c.args.pager.now in
    let mid = c.tree_family.new.source in
    let root = c.args.root in
    let before : Pages = opened_pages pager.codec (main_of (d.reads pager.disk.now)) pager.count in
    let now : Pages = opened_pages mid.codec (main_of (d.reads mid.disk.now)) mid.count in
    let beside = read_beside {draws_tell = e.tells} {drawn = e.drawn} g.met.D.Disk.only_now g.met.D.Disk.counts_now read.0 read.1 in
    if_err_map (λ error. IsTrue d.tells → IsOfWalk (tree_walk now c.in-Ok.family nothing root) error)
    (λ error. IsTrue d.tells → is_sound (tree_walk before (root_family root (before.page root)) nothing root) ≡ true → is_early_stop error ≡ false) c.copy_family.result
    (λ error of told sound.
    let same : now ≡ before = before_same pager.codec mid.codec (d.reads pager.disk.now) (d.reads mid.disk.now) pager.count mid.count read.2 (beside.only_fresh told) read.4 in
    sound_late (tree_walk before (root_family root (before.page root)) nothing root) error sound
    (subst (λ f. IsOfWalk (tree_walk before f nothing root) error) (c.in-Ok.ensures.value told)
    (subst (λ p. IsOfWalk (tree_walk p c.in-Ok.family nothing root) error) same (of told)))) c.copy_family.ensures.cause

pub returns-in-Ok-clause-keeps : goal.returns-in-Ok-clause-keeps
returns-in-Ok-clause-keeps g c =
    let d = g.D.Disk in
    let e = g.E.Entropy in
    let read = c.in-Ok.ensures.reads in
    let first = c.args.pager.now in
    let mid = c.tree_family.new.source in
    let to = c.copy_family.new in
    keeps_after (target_pages (λ out. bytes_of (d.reads out.disk).fresh)) target_limit (target_faults (λ out. d.faults out.disk) (λ out. e.faults out.entropy))
    (IsTargetWell d.tells e.tells (λ out. bytes_of (d.reads out.disk).fresh) (λ out. e.drawn out.entropy)) false
    (beside_main c.args.state.now first.disk.now first.entropy.now) (beside_main c.args.state.now mid.disk.now mid.entropy.now) (beside_main to.state to.pager.disk.now to.pager.entropy.now)
    (follows_read e.tells e.drawn read.0 read.1 e.faults c.args.state.now) c.copy_family.ensures.keeps

pub returns-in-Ok-clause-follows : goal.returns-in-Ok-clause-follows
returns-in-Ok-clause-follows g c =
    let d = g.D.Disk in
    let e = g.E.Entropy in
    let read = c.in-Ok.ensures.reads in
    let first = c.args.pager.now in
    let mid = c.tree_family.new.source in
    let to = c.copy_family.new in
    on_ok_map c.copy_family.result
    (λ copied. follows_all (target_pages (λ out. bytes_of (d.reads out.disk).fresh)) target_limit (target_faults (λ out. d.faults out.disk) (λ out. e.faults out.entropy))
    (IsTargetWell d.tells e.tells (λ out. bytes_of (d.reads out.disk).fresh) (λ out. e.drawn out.entropy)) false
    (beside_main c.args.state.now first.disk.now first.entropy.now) (beside_main c.args.state.now mid.disk.now mid.entropy.now) (beside_main to.state to.pager.disk.now to.pager.entropy.now)
    (follows_read e.tells e.drawn read.0 read.1 e.faults c.args.state.now) copied)
    c.copy_family.ensures.follows

pub returns-in-Ok-clause-beside : goal.returns-in-Ok-clause-beside
returns-in-Ok-clause-beside g c =
    let read = c.in-Ok.ensures.reads in
    beside_joins g.met.D.Disk.counts_now (read_beside g.met.D.Disk.only_now g.met.D.Disk.counts_now read.0 read.1) c.copy_family.ensures.beside

pub page_error-requires : goal.page_error-requires
page_error-requires g c =
    let pager = c.args.pager.now in
    let before : Pages = opened_pages pager.codec (main_of (g.D.Disk.reads pager.disk.now)) pager.count in
    read_refusal g.D.Disk.tells before c.args.root c.in-Err.refusal (number_is_page before c.args.root c.requires.low c.requires.high) c.in-Err.ensures.refused

pub returns-in-Err-clause-cause : goal.returns-in-Err-clause-cause
returns-in-Err-clause-cause g c told =
    let pager = c.args.pager.now in
    let root = c.args.root in
    let before : Pages = opened_pages pager.codec (main_of (g.D.Disk.reads pager.disk.now)) pager.count in
    let all = tree_walk before (root_family root (before.page root)) nothing root in
    subst (IsOfWalk all) (sym c.page_error.ensures)
    (refused_of_walk g.D.Disk.tells before all c.in-Err.refusal told
    (start_shut before (root_family root (before.page root)) root nothing (MayRefuse g.D.Disk.tells) (Source c.in-Err.refusal) refl (number_is_page before root c.requires.low c.requires.high) c.in-Err.ensures.refused))

pub returns-in-Err-clause-late : goal.returns-in-Err-clause-late
returns-in-Err-clause-late g c told sound =
    let pager = c.args.pager.now in
    let root = c.args.root in
    let before : Pages = opened_pages pager.codec (main_of (g.D.Disk.reads pager.disk.now)) pager.count in
    let all = tree_walk before (root_family root (before.page root)) nothing root in
    sound_late all c.page_error.result sound
    (subst (IsOfWalk all) (sym c.page_error.ensures)
    (refused_of_walk g.D.Disk.tells before all c.in-Err.refusal told
    (start_shut before (root_family root (before.page root)) root nothing (MayRefuse g.D.Disk.tells) (Source c.in-Err.refusal) refl (number_is_page before root c.requires.low c.requires.high) c.in-Err.ensures.refused)))

pub returns-in-Ok-clause-few : goal.returns-in-Ok-clause-few
returns-in-Ok-clause-few g c told =
    let d = g.D.Disk in
    let e = g.E.Entropy in
    let read = c.in-Ok.ensures.reads in
    let pager = c.args.pager.now in
    let mid = c.tree_family.new.source in
    let root = c.args.root in
    let size : ℕ = usable c.args.state.now.codec.profile in
    let before : Pages = opened_pages pager.codec (main_of (d.reads pager.disk.now)) pager.count in
    let now : Pages = opened_pages mid.codec (main_of (d.reads mid.disk.now)) mid.count in
    let beside = read_beside {draws_tell = e.tells} {drawn = e.drawn} g.met.D.Disk.only_now g.met.D.Disk.counts_now read.0 read.1 in
    let same : now ≡ before = before_same pager.codec mid.codec (d.reads pager.disk.now) (d.reads mid.disk.now) pager.count mid.count read.2 (beside.only_fresh told) read.4 in
    let to : ℕ = c.copy_family.new.state.taken in
    let start : ℕ = c.args.state.now.taken in
    subst (λ f. to ≤ start + load_pages f size (map entry_of (entries (tree_walk before f nothing root)))) (c.in-Ok.ensures.value told)
    (subst (λ p. to ≤ start + load_pages c.in-Ok.family size (map entry_of (entries (tree_walk p c.in-Ok.family nothing root)))) same (c.copy_family.ensures.few told))

pub returns-in-Ok-clause-asked : goal.returns-in-Ok-clause-asked
returns-in-Ok-clause-asked g c limit is told =
    let d = g.D.Disk in
    let e = g.E.Entropy in
    let read = c.in-Ok.ensures.reads in
    let pager = c.args.pager.now in
    let mid = c.tree_family.new.source in
    let root = c.args.root in
    let size : ℕ = usable c.args.state.now.codec.profile in
    let before : Pages = opened_pages pager.codec (main_of (d.reads pager.disk.now)) pager.count in
    let now : Pages = opened_pages mid.codec (main_of (d.reads mid.disk.now)) mid.count in
    let beside = read_beside {draws_tell = e.tells} {drawn = e.drawn} g.met.D.Disk.only_now g.met.D.Disk.counts_now read.0 read.1 in
    let same : now ≡ before = before_same pager.codec mid.codec (d.reads pager.disk.now) (d.reads mid.disk.now) pager.count mid.count read.2 (beside.only_fresh told) read.4 in
    let to : ℕ = c.copy_family.new.state.taken in
    let start : ℕ = c.args.state.now.taken in
    subst (λ f. to + 1 ≤ start + load_pages f size (map entry_of (entries (tree_walk before f nothing root)))) (c.in-Ok.ensures.value told)
    (subst (λ p. to + 1 ≤ start + load_pages c.in-Ok.family size (map entry_of (entries (tree_walk p c.in-Ok.family nothing root)))) same
    (if_err_at c.copy_family.result (TooManyPages limit)
    (λ error. IsTrue d.tells → to + asked_by error ≤ start + load_pages c.in-Ok.family size (map entry_of (entries (tree_walk now c.in-Ok.family nothing root)))) is c.copy_family.ensures.asked told))

pub returns-in-Err-clause-keeps : goal.returns-in-Err-clause-keeps
returns-in-Err-clause-keeps g c =
    let e = g.E.Entropy in
    let read = c.in-Err.ensures.reads in
    (follows_read e.tells e.drawn read.0 read.1 e.faults c.args.state.now).keeps
