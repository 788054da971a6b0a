use Rattle.std.proofs.Common.{◌≡◌, ◌≤◌, ◌+◌, ℕ, arith, refl, true, false, [], List, map, Some, IfOk, ap, sym, subst, ◌∙◌}
use Rattle.std.specs.Prelude.{IsTrue}
use Rattle.db_format.specs.Pages.{Pages, nothing}
use Rattle.db_format.specs.Seen.{marked}
use Rattle.edge_model.specs.Files.{bytes_of, main_of}
use Rattle.btree_model.specs.Content.{Entry, entry_of}
use Rattle.btree_model.specs.Finding.{entries, is_sound}
use Rattle.btree_model.specs.Tree.{tree_walk}
use Rattle.btree_walk.specs.Cursor.{IsCursorAt, walked}
use Rattle.btree_walk.proofs.CursorLemmas.{at_made, ready_made}
use Rattle.bulk_load.specs.Depth.{IsShallow}
use Rattle.bulk_load.specs.Few.{TookFew, load_pages}
use Rattle.bulk_load.proofs.DepthLemmas.{shallow_since}
use Rattle.bulk_load.specs.Loader.{Loaded, family_of_loader}
use Rattle.cipher_profile.specs.Profile.{usable}
use Rattle.btree_walk.proofs.CauseLemmas.{if_err_map}
use Rattle.migrate_job.proofs.FewLaws.{if_err_told}
use Rattle.bulk_load.specs.Found.{HasTree}
use Rattle.bulk_load.specs.Own.{only}
use Rattle.bulk_load.proofs.PutLemmas.{covers_before, covers_behind, follows_all, keeps_after}
use Rattle.fresh_file.specs.State.{fresh_pages}
use Rattle.pager.specs.Beside.{beside_joins}
use Rattle.pager.specs.Held.{pins_of}
use Rattle.pager.specs.Pages.{opened_pages}
use Rattle.migrate_job.specs.Copying.{IsOfWalk, IsTargetWell, asked_by, beside_main, target_faults, target_limit, target_pages}
use Rattle.migrate_job.proofs.CopyLaws.{family_of_asked, on_ok, on_ok_map, walked_of}
use Rattle.migrate_job.proofs.TargetLaws.{follows_along, keeps_along, moved}
use Rattle.migrate_job.proofs.tree.copy_family.Goals as goal

pub copy_entries-requires-clause-cursor : goal.copy_entries-requires-clause-cursor
copy_entries-requires-clause-cursor g c =
    ready_made c.args.root (Some c.args.family) c.in-Ok-of_family.cursor c.in-Ok-of_family.ensures c.args.pager.now.count (pins_of c.args.pager.now.cache.held) c.in-Ok.seen
    c.requires.low c.requires.high (c.in-Ok.ensures.length ∙ ap (λ k. k + 1) c.pages-pages.ensures) c.requires.unpinned

pub returns-in-Err-copy_entries-clause-cause : goal.returns-in-Err-copy_entries-clause-cause
returns-in-Err-copy_entries-clause-cause g c told =
    let before : Pages = opened_pages c.args.pager.now.codec (main_of (g.D.Disk.reads c.args.pager.now.disk.now)) c.args.pager.now.count in
    let cursor = c.in-Ok-of_family.cursor in
    let made = c.in-Ok-of_family.ensures in
    let at : IsCursorAt before nothing [] cursor (marked c.in-Ok.seen) =
    subst (λ m. IsCursorAt before nothing [] cursor m) (sym c.in-Ok.ensures.none) (at_made c.args.root (Some c.args.family) cursor made before nothing) in
    subst (λ l. IsOfWalk l c.in-Err-copy_entries.error) (walked_of before nothing cursor c.args.root c.args.family made.root_is made.asked_is)
    (c.in-Err-copy_entries.ensures.of_walk told nothing [] at (c.in-Ok-new_loader.ensures.family ∙ sym (family_of_asked before cursor c.args.family made.asked_is)))

pub returns-clause-tree : goal.returns-clause-tree
returns-clause-tree g c start was own covers =
    let d = g.D.Disk in
    let pager = c.args.pager.now in
    let before : Pages = opened_pages pager.codec (main_of (d.reads pager.disk.now)) pager.count in
    let cursor = c.in-Ok-of_family.cursor in
    let made = c.in-Ok-of_family.ensures in
    let copied = c.in-Ok-copy_entries.ensures in
    let finished = c.finish_tree.ensures in
    let at : IsCursorAt before nothing [] cursor (marked c.in-Ok.seen) =
    subst (λ m. IsCursorAt before nothing [] cursor m) (sym c.in-Ok.ensures.none) (at_made c.args.root (Some c.args.family) cursor made before nothing) in
    let old : Pages = fresh_pages c.args.state.now (bytes_of (d.reads pager.disk.now).fresh) in
    let mid : Pages = fresh_pages c.copy_entries.new.state (bytes_of (d.reads c.copy_entries.new.pager.disk.now).fresh) in
    let new : Pages = fresh_pages c.finish_tree.new.state (bytes_of (d.reads c.finish_tree.new.side.disk.now).fresh) in
    let loaded : Loaded (only own mid) c.copy_entries.new.loader (map entry_of (entries (walked before nothing cursor))) =
    copied.loaded start was own (covers_before false own old mid new finished.keeps.count covers.covers) nothing [] at
    (c.in-Ok-new_loader.ensures.empty (only own old) (sym c.usable.ensures.value) covers.none) in
    subst (λ l. IfOk c.finish_tree.result (λ root. HasTree (only own new) c.args.family root (map entry_of (entries l))))
    (walked_of before nothing cursor c.args.root c.args.family made.root_is made.asked_is)
    (subst (λ family. IfOk c.finish_tree.result (λ root. HasTree (only own new) family root (map entry_of (entries (walked before nothing cursor)))))
    (copied.family ∙ c.in-Ok-new_loader.ensures.family)
    (finished.tree start (copied.follows.told start was) own (covers_behind false own old mid new copied.follows.keeps.count covers.covers) (map entry_of (entries (walked before nothing cursor))) loaded))

pub returns-clause-sound : goal.returns-clause-sound
returns-clause-sound g c =
    let pager = c.args.pager.now in
    let before : Pages = opened_pages pager.codec (main_of (g.D.Disk.reads pager.disk.now)) pager.count in
    let cursor = c.in-Ok-of_family.cursor in
    let made = c.in-Ok-of_family.ensures in
    let at : IsCursorAt before nothing [] cursor (marked c.in-Ok.seen) =
    subst (λ m. IsCursorAt before nothing [] cursor m) (sym c.in-Ok.ensures.none) (at_made c.args.root (Some c.args.family) cursor made before nothing) in
    on_ok c.finish_tree.result (IsTrue g.D.Disk.tells → is_sound (tree_walk before c.args.family nothing c.args.root) ≡ true)
    (λ told. ap is_sound (sym (walked_of before nothing cursor c.args.root c.args.family made.root_is made.asked_is)) ∙ c.in-Ok-copy_entries.ensures.sound told nothing [] at)

pub returns-clause-keeps : goal.returns-clause-keeps
returns-clause-keeps g c =
    let d = g.D.Disk in
    let e = g.E.Entropy in
    let first = c.args.pager.now in
    let mid = c.copy_entries.new.pager in
    let to = c.finish_tree.new in
    keeps_after (target_pages (λ out. bytes_of (d.reads out.disk).fresh)) target_limit (target_faults (λ out. d.faults out.disk) (λ out. e.faults out.entropy))
    (IsTargetWell d.tells e.tells (λ out. bytes_of (d.reads out.disk).fresh) (λ out. e.drawn out.entropy)) false
    (beside_main c.args.state.now first.disk.now first.entropy.now) (beside_main c.copy_entries.new.state mid.disk.now mid.entropy.now) (beside_main to.state to.side.disk.now to.side.entropy.now)
    c.in-Ok-copy_entries.ensures.follows
    (keeps_along d.tells e.tells (λ out. bytes_of (d.reads out.disk).fresh) (λ out. e.drawn out.entropy) (λ out. d.faults out.disk) (λ out. e.faults out.entropy)
    (λ s. record { state = s.state; side = record { disk = s.side.disk.now; entropy = s.side.entropy.now } })
    (record { state = c.copy_entries.new.state; side = mid }) (record { state = to.state; side = to.side }) c.finish_tree.ensures.keeps)

pub returns-clause-follows : goal.returns-clause-follows
returns-clause-follows g c =
    let d = g.D.Disk in
    let e = g.E.Entropy in
    let first = c.args.pager.now in
    let mid = c.copy_entries.new.pager in
    let to = c.finish_tree.new in
    on_ok_map c.finish_tree.result
    (λ finished. follows_all (target_pages (λ out. bytes_of (d.reads out.disk).fresh)) target_limit (target_faults (λ out. d.faults out.disk) (λ out. e.faults out.entropy))
    (IsTargetWell d.tells e.tells (λ out. bytes_of (d.reads out.disk).fresh) (λ out. e.drawn out.entropy)) false
    (beside_main c.args.state.now first.disk.now first.entropy.now) (beside_main c.copy_entries.new.state mid.disk.now mid.entropy.now) (beside_main to.state to.side.disk.now to.side.entropy.now)
    c.in-Ok-copy_entries.ensures.follows
    (follows_along d.tells e.tells (λ out. bytes_of (d.reads out.disk).fresh) (λ out. e.drawn out.entropy) (λ out. d.faults out.disk) (λ out. e.faults out.entropy)
    (λ s. record { state = s.state; side = record { disk = s.side.disk.now; entropy = s.side.entropy.now } })
    (record { state = c.copy_entries.new.state; side = mid }) (record { state = to.state; side = to.side }) finished))
    c.finish_tree.ensures.follows

pub returns-clause-beside : goal.returns-clause-beside
returns-clause-beside g c = beside_joins g.met.D.Disk.counts_now c.in-Ok-copy_entries.ensures.beside c.finish_tree.ensures.kept.0

pub returns-in-Err-copy_entries-clause-few : goal.returns-in-Err-copy_entries-clause-few
returns-in-Err-copy_entries-clause-few g c told =
    let pager = c.args.pager.now in
    let before : Pages = opened_pages pager.codec (main_of (g.D.Disk.reads pager.disk.now)) pager.count in
    let cursor = c.in-Ok-of_family.cursor in
    let made = c.in-Ok-of_family.ensures in
    let at : IsCursorAt before nothing [] cursor (marked c.in-Ok.seen) =
    subst (λ m. IsCursorAt before nothing [] cursor m) (sym c.in-Ok.ensures.none) (at_made c.args.root (Some c.args.family) cursor made before nothing) in
    let loader = c.in-Ok-new_loader.loader in
    let size : ℕ = usable c.args.state.now.codec.profile in
    let from : ℕ = c.args.state.now.taken + 1 in
    let none : TookFew (family_of_loader loader) size from [] from loader =
    moved (λ f u. TookFew f u from [] from loader) c.args.family (family_of_loader loader) c.usable.result size c.in-Ok-new_loader.ensures.family (sym c.usable.ensures.value)
    (c.in-Ok-new_loader.ensures.none from) in
    let walk = walked_of before nothing cursor c.args.root c.args.family made.root_is made.asked_is in
    let error = c.in-Err-copy_entries.error in
    let to : ℕ = c.copy_entries.new.state.taken in
    let few : to + 1 + asked_by error ≤ from + load_pages c.args.family size (map entry_of (entries (tree_walk before c.args.family nothing c.args.root))) =
    subst (λ l. to + 1 + asked_by error ≤ from + load_pages c.args.family size (map entry_of (entries l))) walk
    (subst (λ f. to + 1 + asked_by error ≤ from + load_pages f size (map entry_of (entries (walked before nothing cursor)))) c.in-Ok-new_loader.ensures.family
    (c.in-Err-copy_entries.ensures.few told nothing [] (entries (walked before nothing cursor)) at refl from none)) in
    omega arith

pub returns-in-Err-copy_entries-clause-asked : goal.returns-in-Err-copy_entries-clause-asked
returns-in-Err-copy_entries-clause-asked g c told =
    let pager = c.args.pager.now in
    let before : Pages = opened_pages pager.codec (main_of (g.D.Disk.reads pager.disk.now)) pager.count in
    let cursor = c.in-Ok-of_family.cursor in
    let made = c.in-Ok-of_family.ensures in
    let at : IsCursorAt before nothing [] cursor (marked c.in-Ok.seen) =
    subst (λ m. IsCursorAt before nothing [] cursor m) (sym c.in-Ok.ensures.none) (at_made c.args.root (Some c.args.family) cursor made before nothing) in
    let loader = c.in-Ok-new_loader.loader in
    let size : ℕ = usable c.args.state.now.codec.profile in
    let from : ℕ = c.args.state.now.taken + 1 in
    let none : TookFew (family_of_loader loader) size from [] from loader =
    moved (λ f u. TookFew f u from [] from loader) c.args.family (family_of_loader loader) c.usable.result size c.in-Ok-new_loader.ensures.family (sym c.usable.ensures.value)
    (c.in-Ok-new_loader.ensures.none from) in
    let walk = walked_of before nothing cursor c.args.root c.args.family made.root_is made.asked_is in
    let error = c.in-Err-copy_entries.error in
    let to : ℕ = c.copy_entries.new.state.taken in
    let few : to + 1 + asked_by error ≤ from + load_pages c.args.family size (map entry_of (entries (tree_walk before c.args.family nothing c.args.root))) =
    subst (λ l. to + 1 + asked_by error ≤ from + load_pages c.args.family size (map entry_of (entries l))) walk
    (subst (λ f. to + 1 + asked_by error ≤ from + load_pages f size (map entry_of (entries (walked before nothing cursor)))) c.in-Ok-new_loader.ensures.family
    (c.in-Err-copy_entries.ensures.few told nothing [] (entries (walked before nothing cursor)) at refl from none)) in
    omega arith

pub returns-clause-few : goal.returns-clause-few
returns-clause-few g c told =
    let pager = c.args.pager.now in
    let before : Pages = opened_pages pager.codec (main_of (g.D.Disk.reads pager.disk.now)) pager.count in
    let cursor = c.in-Ok-of_family.cursor in
    let made = c.in-Ok-of_family.ensures in
    let at : IsCursorAt before nothing [] cursor (marked c.in-Ok.seen) =
    subst (λ m. IsCursorAt before nothing [] cursor m) (sym c.in-Ok.ensures.none) (at_made c.args.root (Some c.args.family) cursor made before nothing) in
    let loader = c.in-Ok-new_loader.loader in
    let size : ℕ = usable c.args.state.now.codec.profile in
    let from : ℕ = c.args.state.now.taken + 1 in
    let none : TookFew (family_of_loader loader) size from [] from loader =
    moved (λ f u. TookFew f u from [] from loader) c.args.family (family_of_loader loader) c.usable.result size c.in-Ok-new_loader.ensures.family (sym c.usable.ensures.value)
    (c.in-Ok-new_loader.ensures.none from) in
    let walk = walked_of before nothing cursor c.args.root c.args.family made.root_is made.asked_is in
    let copied = c.in-Ok-copy_entries.ensures in
    let mid = c.copy_entries.new in
    let list : List Entry = map entry_of (entries (walked before nothing cursor)) in
    let same_size : usable mid.state.codec.profile ≡ size = ap (λ codec. usable codec.profile) copied.codec in
    let took : TookFew (family_of_loader mid.loader) (usable mid.state.codec.profile) from list (mid.state.taken + 1) mid.loader =
    moved (λ f u. TookFew f u from list (mid.state.taken + 1) mid.loader) (family_of_loader loader) (family_of_loader mid.loader) size (usable mid.state.codec.profile) copied.family same_size
    (copied.took told nothing [] (entries (walked before nothing cursor)) at refl from none) in
    let to : ℕ = c.finish_tree.new.state.taken in
    let few : to + 1 ≤ from + load_pages c.args.family size (map entry_of (entries (tree_walk before c.args.family nothing c.args.root))) =
    subst (λ l. to + 1 ≤ from + load_pages c.args.family size (map entry_of (entries l))) walk
    (moved (λ f u. to + 1 ≤ from + load_pages f u list) (family_of_loader mid.loader) c.args.family (usable mid.state.codec.profile) size
    (sym (copied.family ∙ c.in-Ok-new_loader.ensures.family)) (sym same_size) (c.finish_tree.ensures.few from list took)) in
    omega arith

pub returns-clause-asked : goal.returns-clause-asked
returns-clause-asked g c =
    let result = c.finish_tree.result in
    let start : ℕ = c.args.state.now.taken in
    let bound = load_pages c.args.family (usable c.args.state.now.codec.profile)
    (map entry_of (entries (tree_walk (opened_pages c.args.pager.now.codec (main_of (g.D.Disk.reads c.args.pager.now.disk.now)) c.args.pager.now.count) c.args.family nothing c.args.root))) in
    if_err_told result (IsTrue g.D.Disk.tells) (λ error. c.finish_tree.new.state.taken + asked_by error ≤ start + bound) (λ told.
    let pager = c.args.pager.now in
    let before : Pages = opened_pages pager.codec (main_of (g.D.Disk.reads pager.disk.now)) pager.count in
    let cursor = c.in-Ok-of_family.cursor in
    let made = c.in-Ok-of_family.ensures in
    let at : IsCursorAt before nothing [] cursor (marked c.in-Ok.seen) =
    subst (λ m. IsCursorAt before nothing [] cursor m) (sym c.in-Ok.ensures.none) (at_made c.args.root (Some c.args.family) cursor made before nothing) in
    let loader = c.in-Ok-new_loader.loader in
    let size : ℕ = usable c.args.state.now.codec.profile in
    let from : ℕ = c.args.state.now.taken + 1 in
    let none : TookFew (family_of_loader loader) size from [] from loader =
    moved (λ f u. TookFew f u from [] from loader) c.args.family (family_of_loader loader) c.usable.result size c.in-Ok-new_loader.ensures.family (sym c.usable.ensures.value)
    (c.in-Ok-new_loader.ensures.none from) in
    let walk = walked_of before nothing cursor c.args.root c.args.family made.root_is made.asked_is in
    let copied = c.in-Ok-copy_entries.ensures in
    let mid = c.copy_entries.new in
    let list : List Entry = map entry_of (entries (walked before nothing cursor)) in
    let same_size : usable mid.state.codec.profile ≡ size = ap (λ codec. usable codec.profile) copied.codec in
    let took : TookFew (family_of_loader mid.loader) (usable mid.state.codec.profile) from list (mid.state.taken + 1) mid.loader =
    moved (λ f u. TookFew f u from list (mid.state.taken + 1) mid.loader) (family_of_loader loader) (family_of_loader mid.loader) size (usable mid.state.codec.profile) copied.family same_size
    (copied.took told nothing [] (entries (walked before nothing cursor)) at refl from none) in
    let to : ℕ = c.finish_tree.new.state.taken in
    if_err_map (λ error. to + 1 + asked_by error ≤ from + load_pages (family_of_loader mid.loader) (usable mid.state.codec.profile) list) (λ error. to + asked_by error ≤ start + bound) result
    (λ error held.
    let few : to + 1 + asked_by error ≤ from + load_pages c.args.family size (map entry_of (entries (tree_walk before c.args.family nothing c.args.root))) =
    subst (λ l. to + 1 + asked_by error ≤ from + load_pages c.args.family size (map entry_of (entries l))) walk
    (moved (λ f u. to + 1 + asked_by error ≤ from + load_pages f u list) (family_of_loader mid.loader) c.args.family (usable mid.state.codec.profile) size
    (sym (copied.family ∙ c.in-Ok-new_loader.ensures.family)) (sym same_size) held) in
    omega arith)
    (c.finish_tree.ensures.asked from list took))

pub finish_tree-requires-clause-shallow : goal.finish_tree-requires-clause-shallow
finish_tree-requires-clause-shallow g c =
    let from : ℕ = c.args.state.now.taken + 1 in
    let size : ℕ = usable c.args.state.now.codec.profile in
    let copied = c.in-Ok-copy_entries.ensures in
    let loader = c.copy_entries.new.loader in
    let state = c.copy_entries.new.state in
    let none : IsShallow size from from c.in-Ok-new_loader.loader = subst (λ (u : ℕ). IsShallow u from from c.in-Ok-new_loader.loader) c.usable.ensures.value (c.in-Ok-new_loader.ensures.shallow from) in
    let here : IsShallow size 0 (state.taken + 1) loader = shallow_since size from 0 (state.taken + 1) loader (omega arith) (copied.shallow from none) in
    subst (λ codec. IsShallow (usable codec.profile) 0 (state.taken + 1) loader) (sym copied.codec) here
