use Rattle.std.proofs.Common.{◌≡◌, ◌≤◌, ◌+◌, ◌++◌, ◌∷◌, ℕ, [], false, map, Ok, ap, refl, sym, subst, ◌∙◌}
use Rattle.db_format.specs.Pages.{Pages}
use Rattle.db_format.specs.Seen.{marked}
use Rattle.edge_model.specs.Files.{bytes_of, main_of}
use Rattle.cipher_profile.specs.Profile.{usable}
use Rattle.btree_model.specs.Content.{entry_of}
use Rattle.btree_model.specs.Finding.{Row, entries, is_sound}
use Rattle.btree_walk.specs.Cursor.{IsAdvanced, IsCursorAt, IsEnd, IsNext, row_of, walked, walked_family}
use Rattle.btree_walk.proofs.CursorLemmas.{walked_same}
use Rattle.bulk_load.specs.Depth.{IsShallow}
use Rattle.bulk_load.specs.Few.{TookFew, load_pages}
use Rattle.bulk_load.specs.Loader.{IsLoader, Loaded, family_of_loader}
use Rattle.std.proofs.lemmas.List.{append_assoc}
use Rattle.migrate_job.proofs.TargetLaws.{moved}
use Rattle.bulk_load.specs.Own.{only}
use Rattle.bulk_load.proofs.PutLemmas.{covers_before, covers_behind, follows_all, follows_same, keeps_after}
use Rattle.fresh_file.specs.State.{fresh_pages}
use Rattle.pager.specs.Beside.{beside_joins, beside_stays}
use Rattle.pager.specs.Causes.{MayRefuse}
use Rattle.pager.specs.Pages.{opened_pages}
use Rattle.migrate_job.specs.declared.error.MigrateError.TheVariants.{DiskFault, EntropyFault, TooManyPages}
use Rattle.migrate_job.specs.Copying.{IsOfWalk, IsTargetWell, asked_by, beside_main, pushed_then, target_faults, target_limit, target_pages}
use Rattle.migrate_job.proofs.CopyLaws.{before_same, entries_then, err_again, family_same, rose_since}
use Rattle.migrate_job.proofs.tree.copy_entries.Goals as goal

pub entries-init : goal.entries-init
entries-init g c =
    let d = g.D.Disk in
    let e = g.E.Entropy in
    record {
      ready = c.requires.cursor;
      loader = c.requires.loader;
      last = c.requires.last;
      same_tree = record { root = refl; asked = refl };
      family = refl;
      at_one = refl;
      codec = refl;
      beside = beside_stays g.met.D.Disk.only_now c.args.pager.now.disk c.args.pager.now.entropy;
      same_codec = refl;
      same_header = refl;
      same_count = refl;
      follows = follows_same (target_pages (λ out. bytes_of (d.reads out.disk).fresh)) target_limit (target_faults (λ out. d.faults out.disk) (λ out. e.faults out.entropy))
          (IsTargetWell d.tells e.tells (λ out. bytes_of (d.reads out.disk).fresh) (λ out. e.drawn out.entropy)) (beside_main c.args.state.now c.args.pager.now.disk.now c.args.pager.now.entropy.now);
      on = λ told taken given at. record { given = given; at = at; loaded = λ start was own covers loaded. loaded };
      shallow = λ from shallow. shallow;
      few = λ told taken given more at order from few. record { given = given; more = more; at = at; order = order; took = few };
    }

pub entries-preserved : goal.entries-preserved
entries-preserved g c =
    let d = g.D.Disk in
    let e = g.E.Entropy in
    let i = c.entries.invariant in
    let n = c.in-Ok-true.ensures in
    let first = c.args.pager.now in
    let pager = c.entries.pager in
    let to = c.copy_next.new in
    record {
      ready = n.cursor;
      loader = subst (λ codec. IsLoader to.loader (usable codec.profile)) i.codec n.loader;
      last = n.last;
      same_tree = record { root = n.same_tree.root ∙ i.same_tree.root; asked = n.same_tree.asked ∙ i.same_tree.asked };
      family = n.family ∙ i.family;
      at_one = n.at_one ∙ i.at_one;
      codec = n.codec ∙ i.codec;
      beside = beside_joins g.met.D.Disk.counts_now i.beside n.beside;
      same_codec = n.file.0 ∙ i.same_codec;
      same_header = n.file.1 ∙ i.same_header;
      same_count = n.file.2 ∙ i.same_count;
      follows = follows_all (target_pages (λ out. bytes_of (d.reads out.disk).fresh)) target_limit (target_faults (λ out. d.faults out.disk) (λ out. e.faults out.entropy))
          (IsTargetWell d.tells e.tells (λ out. bytes_of (d.reads out.disk).fresh) (λ out. e.drawn out.entropy)) false
          (beside_main c.args.state.now first.disk.now first.entropy.now) (beside_main c.entries.state pager.disk.now pager.entropy.now) (beside_main to.fresh to.pager.disk.now to.pager.entropy.now)
          i.follows n.follows;
      on = λ told taken given at.
          let before : Pages = opened_pages first.codec (main_of (d.reads first.disk.now)) first.count in
          let now : Pages = opened_pages pager.codec (main_of (d.reads pager.disk.now)) pager.count in
          let same : now ≡ before = before_same first.codec pager.codec (d.reads first.disk.now) (d.reads pager.disk.now) first.count pager.count i.same_codec (i.beside.only_fresh told) i.same_count in
          let so = i.on told taken given at in
          let row : Row = row_of to.cursor in
          let next : IsNext before taken so.given to.cursor (marked to.seen) row =
          subst (λ p. IsNext p taken so.given to.cursor (marked to.seen) row) same
          (subst (λ m. IsAdvanced (MayRefuse d.tells) now taken so.given to.cursor (marked to.seen) (Ok m)) c.in-Ok-true.field-0-test
          (n.advanced told taken so.given (subst (λ p. IsCursorAt p taken so.given c.entries.cursor (marked c.entries.seen)) (sym same) so.at))) in
          record {
            given = so.given ++ row ∷ [];
            at = next.at;
            loaded = λ start was own covers loaded.
                let old : Pages = fresh_pages c.args.state.now (bytes_of (d.reads first.disk.now).fresh) in
                let mid : Pages = fresh_pages c.entries.state (bytes_of (d.reads pager.disk.now).fresh) in
                let new : Pages = fresh_pages to.fresh (bytes_of (d.reads to.pager.disk.now).fresh) in
                subst (λ l. Loaded (only own new) to.loader l) (entries_then so.given row)
                (subst (λ m. Loaded (only own new) to.loader (pushed_then (map entry_of so.given) row m)) c.in-Ok-true.field-0-test
                (n.pushed start (i.follows.told start was) own (covers_behind false own old mid new i.follows.keeps.count covers) (map entry_of so.given)
                (so.loaded start was own (covers_before false own old mid new n.follows.keeps.count covers) loaded)));
          };
      shallow = λ from shallow.
          subst (λ codec. IsShallow (usable codec.profile) from (to.fresh.taken + 1) to.loader) i.codec
          (n.shallow from (subst (λ codec. IsShallow (usable codec.profile) from (c.entries.state.taken + 1) c.entries.loader) (sym i.codec) (i.shallow from shallow)));
      few = λ told taken given more at order from few.
          let before : Pages = opened_pages first.codec (main_of (d.reads first.disk.now)) first.count in
          let now : Pages = opened_pages pager.codec (main_of (d.reads pager.disk.now)) pager.count in
          let same : now ≡ before = before_same first.codec pager.codec (d.reads first.disk.now) (d.reads pager.disk.now) first.count pager.count i.same_codec (i.beside.only_fresh told) i.same_count in
          let so = i.few told taken given more at order from few in
          let row : Row = row_of to.cursor in
          let family = family_of_loader c.args.loader.now in
          let size : ℕ = usable c.args.state.now.codec.profile in
          let same_size : usable c.entries.state.codec.profile ≡ size = ap (λ codec. usable codec.profile) i.codec in
          let next : IsNext before taken so.given to.cursor (marked to.seen) row =
          subst (λ p. IsNext p taken so.given to.cursor (marked to.seen) row) same
          (subst (λ m. IsAdvanced (MayRefuse d.tells) now taken so.given to.cursor (marked to.seen) (Ok m)) c.in-Ok-true.field-0-test
          (n.advanced told taken so.given (subst (λ p. IsCursorAt p taken so.given c.entries.cursor (marked c.entries.seen)) (sym same) so.at))) in
          record {
            given = so.given ++ row ∷ [];
            more = next.more;
            at = next.at;
            order = next.order ∙ sym (append_assoc so.given (row ∷ []) next.more);
            took =
                subst (λ l. TookFew family size from l (to.fresh.taken + 1) to.loader) (entries_then so.given row)
                (subst (λ m. TookFew family size from (pushed_then (map entry_of so.given) row m) (to.fresh.taken + 1) to.loader) c.in-Ok-true.field-0-test
                (moved (λ f u. TookFew f u from (pushed_then (map entry_of so.given) row c.in-Ok-true.field-0) (to.fresh.taken + 1) to.loader)
                (family_of_loader c.entries.loader) family (usable c.entries.state.codec.profile) size (sym i.family) (sym same_size)
                (n.took from (map entry_of so.given)
                (moved (λ f u. TookFew f u from (map entry_of so.given) (c.entries.state.taken + 1) c.entries.loader)
                family (family_of_loader c.entries.loader) size (usable c.entries.state.codec.profile) i.family same_size so.took))));
          };
    }

pub returns-in-Ok-false-clause-loaded : goal.returns-in-Ok-false-clause-loaded
returns-in-Ok-false-clause-loaded g c start was own covers taken given at loaded =
    let d = g.D.Disk in
    let i = c.entries.invariant in
    let n = c.in-Ok-false.ensures in
    let first = c.args.pager.now in
    let pager = c.entries.pager in
    let to = c.copy_next.new in
    let before : Pages = opened_pages first.codec (main_of (d.reads first.disk.now)) first.count in
    let now : Pages = opened_pages pager.codec (main_of (d.reads pager.disk.now)) pager.count in
    let same : now ≡ before = before_same first.codec pager.codec (d.reads first.disk.now) (d.reads pager.disk.now) first.count pager.count i.same_codec (i.beside.only_fresh was.told) i.same_count in
    let so = i.on was.told taken given at in
    let row : Row = row_of to.cursor in
    let end : IsEnd before taken so.given to.cursor (marked to.seen) =
    subst (λ p. IsEnd p taken so.given to.cursor (marked to.seen)) same
    (subst (λ m. IsAdvanced (MayRefuse d.tells) now taken so.given to.cursor (marked to.seen) (Ok m)) c.in-Ok-false.field-0-test
    (n.advanced was.told taken so.given (subst (λ p. IsCursorAt p taken so.given c.entries.cursor (marked c.entries.seen)) (sym same) so.at))) in
    let walk = walked_same before taken c.args.cursor.now to.cursor (record { root = n.same_tree.root ∙ i.same_tree.root; asked = n.same_tree.asked ∙ i.same_tree.asked }) in
    let old : Pages = fresh_pages c.args.state.now (bytes_of (d.reads first.disk.now).fresh) in
    let mid : Pages = fresh_pages c.entries.state (bytes_of (d.reads pager.disk.now).fresh) in
    let new : Pages = fresh_pages to.fresh (bytes_of (d.reads to.pager.disk.now).fresh) in
    subst (λ rows. Loaded (only own new) to.loader (map entry_of rows)) (sym end.whole ∙ ap entries walk)
    (subst (λ m. Loaded (only own new) to.loader (pushed_then (map entry_of so.given) row m)) c.in-Ok-false.field-0-test
    (n.pushed start (i.follows.told start was) own (covers_behind false own old mid new i.follows.keeps.count covers) (map entry_of so.given)
    (so.loaded start was own (covers_before false own old mid new n.follows.keeps.count covers) loaded)))

pub returns-in-Ok-false-clause-sound : goal.returns-in-Ok-false-clause-sound
returns-in-Ok-false-clause-sound g c told taken given at =
    let d = g.D.Disk in
    let i = c.entries.invariant in
    let n = c.in-Ok-false.ensures in
    let first = c.args.pager.now in
    let pager = c.entries.pager in
    let to = c.copy_next.new in
    let before : Pages = opened_pages first.codec (main_of (d.reads first.disk.now)) first.count in
    let now : Pages = opened_pages pager.codec (main_of (d.reads pager.disk.now)) pager.count in
    let same : now ≡ before = before_same first.codec pager.codec (d.reads first.disk.now) (d.reads pager.disk.now) first.count pager.count i.same_codec (i.beside.only_fresh told) i.same_count in
    let so = i.on told taken given at in
    let end : IsEnd before taken so.given to.cursor (marked to.seen) =
    subst (λ p. IsEnd p taken so.given to.cursor (marked to.seen)) same
    (subst (λ m. IsAdvanced (MayRefuse d.tells) now taken so.given to.cursor (marked to.seen) (Ok m)) c.in-Ok-false.field-0-test
    (n.advanced told taken so.given (subst (λ p. IsCursorAt p taken so.given c.entries.cursor (marked c.entries.seen)) (sym same) so.at))) in
    let walk = walked_same before taken c.args.cursor.now to.cursor (record { root = n.same_tree.root ∙ i.same_tree.root; asked = n.same_tree.asked ∙ i.same_tree.asked }) in
    ap is_sound (sym walk) ∙ end.sound

pub returns-in-Ok-false-clause-follows : goal.returns-in-Ok-false-clause-follows
returns-in-Ok-false-clause-follows g c =
    let d = g.D.Disk in
    let e = g.E.Entropy in
    let first = c.args.pager.now in
    let pager = c.entries.pager in
    let to = c.copy_next.new in
    follows_all (target_pages (λ out. bytes_of (d.reads out.disk).fresh)) target_limit (target_faults (λ out. d.faults out.disk) (λ out. e.faults out.entropy))
    (IsTargetWell d.tells e.tells (λ out. bytes_of (d.reads out.disk).fresh) (λ out. e.drawn out.entropy)) false
    (beside_main c.args.state.now first.disk.now first.entropy.now) (beside_main c.entries.state pager.disk.now pager.entropy.now) (beside_main to.fresh to.pager.disk.now to.pager.entropy.now)
    c.entries.invariant.follows c.in-Ok-false.ensures.follows

pub returns-in-Ok-false-clause-keeps : goal.returns-in-Ok-false-clause-keeps
returns-in-Ok-false-clause-keeps g c = (returns-in-Ok-false-clause-follows g c).keeps

pub returns-in-Ok-false-clause-beside : goal.returns-in-Ok-false-clause-beside
returns-in-Ok-false-clause-beside g c = beside_joins g.met.D.Disk.counts_now c.entries.invariant.beside c.in-Ok-false.ensures.beside

pub returns-in-Err-clause-of_walk : goal.returns-in-Err-clause-of_walk
returns-in-Err-clause-of_walk g c told taken given at family =
    let d = g.D.Disk in
    let i = c.entries.invariant in
    let first = c.args.pager.now in
    let pager = c.entries.pager in
    let before : Pages = opened_pages first.codec (main_of (d.reads first.disk.now)) first.count in
    let now : Pages = opened_pages pager.codec (main_of (d.reads pager.disk.now)) pager.count in
    let same : now ≡ before = before_same first.codec pager.codec (d.reads first.disk.now) (d.reads pager.disk.now) first.count pager.count i.same_codec (i.beside.only_fresh told) i.same_count in
    let so = i.on told taken given at in
    let cursor = c.args.cursor.now in
    subst (λ l. IsOfWalk l c.in-Err.error) (walked_same before taken cursor c.entries.cursor i.same_tree)
    (subst (λ p. IsOfWalk (walked p taken c.entries.cursor) c.in-Err.error) same
    (c.in-Err.ensures.of_walk told taken so.given (subst (λ p. IsCursorAt p taken so.given c.entries.cursor (marked c.entries.seen)) (sym same) so.at)
    (i.family ∙ family ∙ sym (family_same before cursor c.entries.cursor i.same_tree) ∙ ap (λ p. walked_family p c.entries.cursor) (sym same))))

pub returns-in-Err-clause-limit : goal.returns-in-Err-clause-limit
returns-in-Err-clause-limit g c limit is =
    let most = c.in-Err.ensures.limit limit (err_again c.in-Err.error (TooManyPages limit) is) in
    let same = c.entries.invariant.follows.keeps.limit_is in (most.0 ∙ same, subst (λ m. m ≤ c.copy_next.new.fresh.taken + 1) same most.1)

pub returns-in-Err-clause-disk_fault : goal.returns-in-Err-clause-disk_fault
returns-in-Err-clause-disk_fault g c is = rose_since _ _ _ c.entries.invariant.follows.keeps.disk (c.in-Err.ensures.disk_fault (err_again c.in-Err.error DiskFault is))

pub returns-in-Err-clause-entropy_fault : goal.returns-in-Err-clause-entropy_fault
returns-in-Err-clause-entropy_fault g c is = rose_since _ _ _ c.entries.invariant.follows.keeps.entropy (c.in-Err.ensures.entropy_fault (err_again c.in-Err.error EntropyFault is))

pub returns-in-Err-clause-keeps : goal.returns-in-Err-clause-keeps
returns-in-Err-clause-keeps g c =
    let d = g.D.Disk in
    let e = g.E.Entropy in
    let first = c.args.pager.now in
    let pager = c.entries.pager in
    let to = c.copy_next.new in
    keeps_after (target_pages (λ out. bytes_of (d.reads out.disk).fresh)) target_limit (target_faults (λ out. d.faults out.disk) (λ out. e.faults out.entropy))
    (IsTargetWell d.tells e.tells (λ out. bytes_of (d.reads out.disk).fresh) (λ out. e.drawn out.entropy)) false
    (beside_main c.args.state.now first.disk.now first.entropy.now) (beside_main c.entries.state pager.disk.now pager.entropy.now) (beside_main to.fresh to.pager.disk.now to.pager.entropy.now)
    c.entries.invariant.follows c.in-Err.ensures.keeps

pub returns-in-Err-clause-beside : goal.returns-in-Err-clause-beside
returns-in-Err-clause-beside g c = beside_joins g.met.D.Disk.counts_now c.entries.invariant.beside c.in-Err.ensures.beside

pub returns-in-Ok-false-clause-took : goal.returns-in-Ok-false-clause-took
returns-in-Ok-false-clause-took g c told taken given more at order from few =
    let d = g.D.Disk in
    let i = c.entries.invariant in
    let n = c.in-Ok-false.ensures in
    let first = c.args.pager.now in
    let pager = c.entries.pager in
    let to = c.copy_next.new in
    let before : Pages = opened_pages first.codec (main_of (d.reads first.disk.now)) first.count in
    let now : Pages = opened_pages pager.codec (main_of (d.reads pager.disk.now)) pager.count in
    let same : now ≡ before = before_same first.codec pager.codec (d.reads first.disk.now) (d.reads pager.disk.now) first.count pager.count i.same_codec (i.beside.only_fresh told) i.same_count in
    let so = i.few told taken given more at order from few in
    let row : Row = row_of to.cursor in
    let family = family_of_loader c.args.loader.now in
    let size : ℕ = usable c.args.state.now.codec.profile in
    let same_size : usable c.entries.state.codec.profile ≡ size = ap (λ codec. usable codec.profile) i.codec in
    let end : IsEnd before taken so.given to.cursor (marked to.seen) =
    subst (λ p. IsEnd p taken so.given to.cursor (marked to.seen)) same
    (subst (λ m. IsAdvanced (MayRefuse d.tells) now taken so.given to.cursor (marked to.seen) (Ok m)) c.in-Ok-false.field-0-test
    (n.advanced told taken so.given (subst (λ p. IsCursorAt p taken so.given c.entries.cursor (marked c.entries.seen)) (sym same) so.at))) in
    let walk = walked_same before taken c.args.cursor.now to.cursor (record { root = n.same_tree.root ∙ i.same_tree.root; asked = n.same_tree.asked ∙ i.same_tree.asked }) in
    subst (λ rows. TookFew family size from (map entry_of rows) (to.fresh.taken + 1) to.loader) (sym end.whole ∙ ap entries walk)
    (subst (λ m. TookFew family size from (pushed_then (map entry_of so.given) row m) (to.fresh.taken + 1) to.loader) c.in-Ok-false.field-0-test
    (moved (λ f u. TookFew f u from (pushed_then (map entry_of so.given) row c.in-Ok-false.field-0) (to.fresh.taken + 1) to.loader)
    (family_of_loader c.entries.loader) family (usable c.entries.state.codec.profile) size (sym i.family) (sym same_size)
    (n.took from (map entry_of so.given)
    (moved (λ f u. TookFew f u from (map entry_of so.given) (c.entries.state.taken + 1) c.entries.loader)
    family (family_of_loader c.entries.loader) size (usable c.entries.state.codec.profile) i.family same_size so.took))))

pub returns-in-Err-clause-few : goal.returns-in-Err-clause-few
returns-in-Err-clause-few g c told taken given more at order from few =
    let d = g.D.Disk in
    let i = c.entries.invariant in
    let first = c.args.pager.now in
    let pager = c.entries.pager in
    let to = c.copy_next.new in
    let before : Pages = opened_pages first.codec (main_of (d.reads first.disk.now)) first.count in
    let now : Pages = opened_pages pager.codec (main_of (d.reads pager.disk.now)) pager.count in
    let same : now ≡ before = before_same first.codec pager.codec (d.reads first.disk.now) (d.reads pager.disk.now) first.count pager.count i.same_codec (i.beside.only_fresh told) i.same_count in
    let so = i.few told taken given more at order from few in
    let family = family_of_loader c.args.loader.now in
    let size : ℕ = usable c.args.state.now.codec.profile in
    let same_size : usable c.entries.state.codec.profile ≡ size = ap (λ codec. usable codec.profile) i.codec in
    subst (λ l. to.fresh.taken + 1 + asked_by c.in-Err.error ≤ from + load_pages family size (map entry_of (entries l))) (walked_same before taken c.args.cursor.now c.entries.cursor i.same_tree)
    (subst (λ p. to.fresh.taken + 1 + asked_by c.in-Err.error ≤ from + load_pages family size (map entry_of (entries (walked p taken c.entries.cursor)))) same
    (moved (λ f u. to.fresh.taken + 1 + asked_by c.in-Err.error ≤ from + load_pages f u (map entry_of (entries (walked now taken c.entries.cursor))))
    (family_of_loader c.entries.loader) family (usable c.entries.state.codec.profile) size (sym i.family) (sym same_size)
    (c.in-Err.ensures.few told taken so.given so.more (subst (λ p. IsCursorAt p taken so.given c.entries.cursor (marked c.entries.seen)) (sym same) so.at)
    (ap (λ p. entries (walked p taken c.entries.cursor)) same ∙ so.order) from
    (moved (λ f u. TookFew f u from (map entry_of so.given) (c.entries.state.taken + 1) c.entries.loader)
    family (family_of_loader c.entries.loader) size (usable c.entries.state.codec.profile) i.family same_size so.took))))

pub returns-in-Ok-false-clause-shallow : goal.returns-in-Ok-false-clause-shallow
returns-in-Ok-false-clause-shallow g c from shallow =
    let i = c.entries.invariant in
    let to = c.copy_next.new in
    subst (λ codec. IsShallow (usable codec.profile) from (to.fresh.taken + 1) to.loader) i.codec
    (c.in-Ok-false.ensures.shallow from (subst (λ codec. IsShallow (usable codec.profile) from (c.entries.state.taken + 1) c.entries.loader) (sym i.codec) (i.shallow from shallow)))
