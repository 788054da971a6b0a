use Rattle.std.proofs.Common.{◌≡◌, ◌+◌, ◌%◌, ◌^◌, ⊎_elim, inl, inr, ℕ, Bool, true, List, drop, length, Result, Ok, Err, refl, sym, ap, subst, ◌∙◌, arith, rules}
use Rattle.edge_model.specs.Files.{main_of}
use Rattle.edge_model.specs.Images.{From, LeavesOnly}
use Rattle.edge_model.specs.Moments.{and_then, started_from, then_from}
use Rattle.cipher_profile.specs.Profile.{usable}
use Rattle.page_codec.specs.Page.{FileKeys}
use Rattle.db_format.specs.declared.header.Header.{Header}
use Rattle.map_pages.specs.Maps.{map_count}
use Rattle.map_pages.specs.Trunks.{trunk_from}
use Rattle.pager.specs.Changed.{same_layout, with_bytes}
use Rattle.pager.specs.Pages.{is_page_number}
use Rattle.pager.specs.UnderWay.{HasNewPages, is_touched, seen_pages}
use Rattle.pager.proofs.UnderWayLemmas.{same_main}
use Rattle.atomic_commit.specs.declared.committing.CommitFault.TheVariants.{DiskFault as Failed, EntropyFault as Undrawn}
use Rattle.atomic_commit.specs.Commit.{LeavesChanged}
use Rattle.atomic_commit.specs.Database.{HoldsOld}
use Rattle.atomic_commit.specs.Facts.{SameFresh}
use Rattle.rekey_job.specs.Draws.{FileDraws}
use Rattle.sqlcipher_tool.specs.Change.{KeepsOrCommits, change_status}
use Rattle.sqlcipher_tool.specs.FirstPage.{next_change, with_field}
use Rattle.sqlcipher_tool.specs.Holding.{HoldsOnly, held_by}
use Rattle.sqlcipher_tool.specs.Maps.{AreMapsFreed, is_rewritten, versions, versions_at}
use Rattle.sqlcipher_tool.specs.Opening.{page_count_of}
use Rattle.sqlcipher_tool.specs.Renewal.{WithDraws}
use Rattle.settle_job.specs.declared.trunks.TrunkError.{TrunkError}
use Rattle.sqlcipher_tool.specs.declared.opening.ChangeError.{ChangeError}
use Rattle.sqlcipher_tool.specs.declared.opening.ChangeError.TheVariants.{EntropyFault as EntropyFails}
use Rattle.sqlcipher_tool.specs.declared.status.Status.TheVariants.{Done, DiskFault, OutOfMemory, EntropyFault}
use Rattle.sqlcipher_tool.proofs.Changing.{error_not_done}
use Rattle.sqlcipher_tool.proofs.Committed.{begun, unbegun, unended, unwritten}
use Rattle.sqlcipher_tool.proofs.FreedFile.{AreWritten, are_written, done, draws, failed, freed_is}
use Rattle.sqlcipher_tool.proofs.Stamping.{SeesFirst, differ, layout_same, page_faults, page_late, sees_first, was_ok}
use Rattle.sqlcipher_tool.proofs.maps.free_maps.Goals as goal

memory_not_done : OutOfMemory ≡ Done → ⊥
memory_not_done is = cc

entropy_not_done : EntropyFault ≡ Done → ⊥
entropy_not_done is = cc

-- a new file, sealed with bytes that were drawn behind the first
abbrev IsNewBy : FileKeys → List ℕ → Bool → List ℕ → List ℕ → List ℕ → Type 0
IsNewBy keys file tells after before =
    WithDraws (AreMapsFreed keys keys file) tells (λ main. FileDraws keys main (is_rewritten (usable keys.profile) (page_count_of keys main)) 0 (drop (length before) after))

-- the conditions, by their places: base, base_is, sizes, drawn, write, listed, salt, opened, alone, passes, maps
pub begin-requires : goal.begin-requires
begin-requires g c κs within =
    let d = g.D.Disk in
    let p = c.args.pager in
    let r = c.requires.1.1 in (
      within.0,
      (
        within.1,
        (
          (omega arith, omega arith),
          (
            r.1.1.0,
            (
              r.1.1.1.0,
              λ told. begun d.reads d.images d.moment d.since g.met.D.Disk.counts_now g.met.D.Disk.only_now p.codec (main_of (d.reads p.disk.now)) p.header p.count (r.1.1.1.1.1.1.1.0 told) p.some
                  g.start (r.0 told) p.disk.now p.disk.now p.disk.now (r.1.1.1.1.1.1.1.1.0 told) r.1.0,
            ),
          ),
        ),
      ),
    )

pub begin_error-requires : goal.begin_error-requires
begin_error-requires g c =
    let p = c.args.pager in
    let same : c.args.write ≡ p.codec = c.requires.1.1.1.1.1.1.0 in
    λ is. differ (sym (layout_same p.codec) ∙ (ap (λ (k : FileKeys). same_layout p.codec k) (sym same) ∙ c.in-Err.ensures.layout is))

pub returns-in-Err-clause-safely : goal.returns-in-Err-clause-safely
returns-in-Err-clause-safely g c = λ told.
    let d = g.D.Disk in
    let p = c.args.pager in
    let r = c.requires.1.1 in
    let same = c.into_parts-disk.ensures.disk.1 ∙ c.in-Err.ensures.back.1 in
    inl (unbegun d.reads d.images d.moment d.since g.met.D.Disk.counts_now g.met.D.Disk.only_now p.codec (main_of (d.reads p.disk.now)) p.header p.count (r.1.1.1.1.1.1.1.0 told) p.some
    g.start (r.0 told) p.disk.now p.disk.now c.into_parts-disk.result.0.now (r.1.1.1.1.1.1.1.1.0 told) (change_status (Err c.begin_error.result))
    (subst (λ (error : ChangeError). change_status (Err error) ≡ Done → ⊥) (sym c.begin_error.ensures) memory_not_done) same)

pub returns-in-Err-clause-fresh : goal.returns-in-Err-clause-fresh
returns-in-Err-clause-fresh g c = λ told.
    let d = g.D.Disk in
    let p = c.args.pager in
    let same = c.into_parts-disk.ensures.disk.1 ∙ c.in-Err.ensures.back.1 in
    subst (λ (x : _). LeavesOnly d.moment d.since p.disk.now x (From SameFresh (d.images p.disk.now))) (sym same) (started_from g.met.D.Disk.only_now p.disk.now SameFresh (λ image. refl))

pub returns-in-Err-write_first-clause-told : goal.returns-in-Err-write_first-clause-told
returns-in-Err-write_first-clause-told g c = λ told.
    let d = g.D.Disk in
    let p = c.args.pager in
    let r = c.requires.1.1 in
    let t = c.in-Ok.txn in
    let e = c.in-Ok.ensures in
    let file = main_of (d.reads p.disk.now) in
    let main = sym (same_main (d.reads t.disk.now)) ∙ ap (λ (x : _). main_of (d.reads x)) e.disk.1 in
    let sees : SeesFirst p.codec file (seen_pages t.read t.write (main_of (d.reads t.disk.now)) t.count t.written t.changed.held) =
    sees_first p.codec t.read t.write file (main_of (d.reads t.disk.now)) p.header p.count t.count t.written t.changed.held e.file.0 main e.file.2 e.unchanged.0 (e.untouched 1) p.some r.1.1.1.1.1.0 (r.1.1.1.1.1.1.1.0 told) in
    let n = g.E.Entropy in
    let txn = c.write_first.new.txn in
    inl (page_faults d.tells (seen_pages t.read t.write (main_of (d.reads t.disk.now)) t.count t.written t.changed.held)
    (d.faults t.disk.now) (d.faults txn.disk.now) (n.faults t.entropy.now) (n.faults txn.entropy.now) c.in-Err-write_first.error c.page_error.result c.in-Err-write_first.ensures.refused c.page_error.ensures told sees.accepted)

pub returns-in-Err-write_first-clause-safely : goal.returns-in-Err-write_first-clause-safely
returns-in-Err-write_first-clause-safely g c = λ told.
    let d = g.D.Disk in
    let p = c.args.pager in
    let r = c.requires.1.1 in
    let run = subst (λ (x : _). LeavesOnly d.moment d.since x c.write_first.new.txn.disk.now (HoldsOld g.start.base)) c.in-Ok.ensures.disk.1 (c.write_first.ensures.any_moment told) in
    let last = c.into_parts-disk-in-Err-write_first in
    inl (unended d.reads d.images d.moment d.since g.met.D.Disk.counts_now g.met.D.Disk.only_now p.codec (main_of (d.reads p.disk.now)) p.header p.count (r.1.1.1.1.1.1.1.0 told) p.some
    g.start (r.0 told) p.disk.now c.write_first.new.txn.disk.now last.result.0.now (r.1.1.1.1.1.1.1.1.0 told) run (change_status (Err c.page_error.result))
    (error_not_done c.page_error.result) last.ensures.disk.1)

pub returns-in-Err-write_first-clause-fresh : goal.returns-in-Err-write_first-clause-fresh
returns-in-Err-write_first-clause-fresh g c = λ told.
    let d = g.D.Disk in
    let p = c.args.pager in
    let last = c.into_parts-disk-in-Err-write_first in
    let run = subst (λ (x : _). LeavesOnly d.moment d.since x c.write_first.new.txn.disk.now (From SameFresh (d.images x))) c.in-Ok.ensures.disk.1 (c.write_first.ensures.fresh told) in
    subst (λ (x : _). LeavesOnly d.moment d.since p.disk.now x (From SameFresh (d.images p.disk.now))) (sym last.ensures.disk.1) run

pub returns-in-Err-write_first-clause-late : goal.returns-in-Err-write_first-clause-late
returns-in-Err-write_first-clause-late g c = page_late c.in-Err-write_first.error c.page_error.result c.page_error.ensures

-- page 1 as it was written, by the sizes
abbrev first_page_by : ℕ → ℕ → Header → List ℕ → List ℕ
first_page_by u pages fields seen =
    with_field 92 (next_change fields.change) (with_field 28 pages (with_field 24 (next_change fields.change) (with_bytes versions_at versions
    (with_field 64 0 (with_field 52 0 (with_field 36 ((fields.free_count + map_count u pages) % 2 ^ 32) (with_field 32 (trunk_from u (map_count u pages) fields.first_trunk 0) seen)))))))

-- a trunk was not written
pub give_up-disk-requires : goal.give_up-disk-requires
give_up-disk-requires g c κs within =
    let r = c.requires.1.1 in
    let e = c.in-Ok.ensures in
    let keys = c.put_trunks.ensures.file.1 ∙ (c.write_first.ensures.file.1 ∙ (e.file.1 ∙ r.1.1.1.1.0)) in
    let failed = c.in-Err-put_trunks.ensures in (
      within.0,
      (
        within.1,
        (
          (ap (λ (k : FileKeys). k.profile.page_size) keys ∙ r.1.1.0.0, c.put_trunks.ensures.file.2 ∙ (c.write_first.ensures.file.2 ∙ (e.file.2 ∙ r.1.1.0.1))),
          (r.1.0, (failed.still, (failed.still_under_way, (failed.refused, failed.failed)))),
        ),
      ),
    )

pub returns-in-Err-put_trunks-clause-told : goal.returns-in-Err-put_trunks-clause-told
returns-in-Err-put_trunks-clause-told g c = λ told. inl (c.give_up-disk.ensures.told told)

the_stop : {T : Type 0} → Result T ChangeError → ChangeError
the_stop (Ok done) = EntropyFails
the_stop (Err stop) = stop

pub returns-in-Err-put_trunks-clause-disk_fault : goal.returns-in-Err-put_trunks-clause-disk_fault
unfolding the_stop
returns-in-Err-put_trunks-clause-disk_fault g c = λ is.
    let start = ap g.D.Disk.faults c.in-Ok.ensures.disk.1 in
    let first = c.write_first.ensures.later.0 in
    let next = c.put_trunks.ensures.later.0 in
    ⊎_elim
    (λ same. let rose = c.put_trunks.ensures.disk_fault (c.in-Err-put_trunks.is ∙ ap (λ (e : TrunkError). Err e) same) in omega (arith, start, first, rose, c.give_up-disk.ensures.later))
    (λ rose. omega (arith, start, first, next, rose))
    (c.give_up-disk.ensures.disk_fault (ap the_stop is))

pub returns-in-Err-put_trunks-clause-entropy_fault : goal.returns-in-Err-put_trunks-clause-entropy_fault
unfolding the_stop
returns-in-Err-put_trunks-clause-entropy_fault g c = λ is.
    let same = c.give_up-disk.ensures.entropy_fault (ap the_stop is) in
    let rose = c.put_trunks.ensures.entropy_fault (c.in-Err-put_trunks.is ∙ ap (λ (e : TrunkError). Err e) same) in
    omega (arith, ap g.E.Entropy.faults c.in-Ok.ensures.entropy.1, c.write_first.ensures.later.1, rose, ap g.E.Entropy.faults c.give_up-disk.ensures.entropy.1)

pub returns-in-Err-put_trunks-clause-safely : goal.returns-in-Err-put_trunks-clause-safely
returns-in-Err-put_trunks-clause-safely g c = λ told.
    let d = g.D.Disk in
    let p = c.args.pager in
    let r = c.requires.1.1 in
    let mid = c.write_first.new.txn in
    let txn = c.put_trunks.new.txn in
    let run = and_then (subst (λ (x : _). LeavesOnly d.moment d.since x mid.disk.now (HoldsOld g.start.base)) c.in-Ok.ensures.disk.1 (c.write_first.ensures.any_moment told)) (c.put_trunks.ensures.any_moment told) in
    let last = c.give_up-disk in
    inl (⊎_elim
    (λ same. unended d.reads d.images d.moment d.since g.met.D.Disk.counts_now g.met.D.Disk.only_now p.codec (main_of (d.reads p.disk.now)) p.header p.count (r.1.1.1.1.1.1.1.0 told) p.some
    g.start (r.0 told) p.disk.now txn.disk.now last.result.0.now (r.1.1.1.1.1.1.1.1.0 told) run (change_status (Err last.result.2)) (error_not_done last.result.2) same)
    (λ back. unwritten d.reads d.images d.moment d.since g.met.D.Disk.counts_now g.met.D.Disk.only_now p.codec (main_of (d.reads p.disk.now)) p.header p.count (r.1.1.1.1.1.1.1.0 told) p.some
    g.start (r.0 told) p.disk.now txn.disk.now last.result.0.now (r.1.1.1.1.1.1.1.1.0 told) run (change_status (Err last.result.2)) (error_not_done last.result.2) back.0)
    (last.ensures.left told))

pub returns-in-Err-put_trunks-clause-fresh : goal.returns-in-Err-put_trunks-clause-fresh
returns-in-Err-put_trunks-clause-fresh g c = λ told.
    let d = g.D.Disk in
    let p = c.args.pager in
    let run = then_from g.met.D.Disk.counts_now (λ a b e ab be. be ∙ ab)
    (subst (λ (x : _). LeavesOnly d.moment d.since x c.write_first.new.txn.disk.now (From SameFresh (d.images x))) c.in-Ok.ensures.disk.1 (c.write_first.ensures.fresh told)) (c.put_trunks.ensures.fresh told) in
    let last = c.give_up-disk in
    ⊎_elim (λ same. subst (λ (x : _). LeavesOnly d.moment d.since p.disk.now x (From SameFresh (d.images p.disk.now))) (sym same) run)
    (λ back. then_from g.met.D.Disk.counts_now (λ a b e ab be. be ∙ ab) run back.1) (last.ensures.left told)

pub returns-in-Ok-done-clause-safely : goal.returns-in-Ok-done-clause-safely
returns-in-Ok-done-clause-safely g c = λ told.
    let d = g.D.Disk in
    let p = c.args.pager in
    let r = c.requires.1.1 in
    let t = c.in-Ok.txn in
    let e = c.in-Ok.ensures in
    let file = main_of (d.reads p.disk.now) in
    let main = sym (same_main (d.reads t.disk.now)) ∙ ap (λ (x : _). main_of (d.reads x)) e.disk.1 in
    let sees : SeesFirst p.codec file (seen_pages t.read t.write (main_of (d.reads t.disk.now)) t.count t.written t.changed.held) =
    sees_first p.codec t.read t.write file (main_of (d.reads t.disk.now)) p.header p.count t.count t.written t.changed.held e.file.0 main e.file.2 e.unchanged.0 (e.untouched 1) p.some r.1.1.1.1.1.0 (r.1.1.1.1.1.1.1.0 told) in
    let mid = c.write_first.new.txn in
    let txn = c.put_trunks.new.txn in
    let run = and_then (subst (λ (x : _). LeavesOnly d.moment d.since x mid.disk.now (HoldsOld g.start.base)) c.in-Ok.ensures.disk.1 (c.write_first.ensures.any_moment told)) (c.put_trunks.ensures.any_moment told) in
    let keys : txn.write ≡ p.codec = c.put_trunks.ensures.file.1 ∙ (c.write_first.ensures.file.1 ∙ (e.file.1 ∙ r.1.1.1.1.0)) in
    let mid_keys : mid.write ≡ p.codec = c.write_first.ensures.file.1 ∙ (e.file.1 ∙ r.1.1.1.1.0) in
    let was_keys : t.write ≡ p.codec = e.file.1 ∙ r.1.1.1.1.0 in
    let touched = is_touched txn.written txn.changed.held in
    let seen = (seen_pages txn.read txn.write (main_of (d.reads txn.disk.now)) txn.count txn.written txn.changed.held).page in
    let first_seen = (seen_pages mid.read mid.write (main_of (d.reads mid.disk.now)) mid.count mid.written mid.changed.held).page in
    let put = c.in-Ok-put_trunks.ensures in
    let first = c.in-Ok-write_first.ensures in
    let stood = (seen_pages t.read t.write (main_of (d.reads t.disk.now)) t.count t.written t.changed.held).page 1 in
    let size : usable t.write.profile ≡ usable p.codec.profile = ap (λ (k : FileKeys). usable k.profile) was_keys in
    let page = first.changed told ∙ (ap (λ (u : ℕ). first_page_by u t.count c.header.result.now stood) size ∙ freed_is p.codec file stood p.header c.header.result.now p.count t.count (usable p.codec.profile) (r.1.1.1.1.1.1.1.0 told) sees.page c.header.ensures e.file.2) in
    let written : AreWritten p.codec file p.count touched seen =
    are_written p.codec file p.header c.header.result.now p.count (usable mid.write.profile) mid.count touched (is_touched mid.written mid.changed.held) (is_touched t.written t.changed.held) seen first_seen (r.1.1.1.1.1.1.1.0 told) p.some
    (ap (λ (k : FileKeys). usable k.profile) mid_keys) (c.write_first.ensures.file.2 ∙ e.file.2) c.header.ensures page e.untouched
    (λ m num. first.touched m (subst (λ (k : ℕ). is_page_number k m ≡ true) c.write_first.ensures.file.2 num)) (put.trunks told) (put.others told) put.touched put.untouched in
    let end = c.end-disk.result.0.now in
    let now = main_of (d.reads end) in
    let after = g.E.Entropy.drawn c.end-disk.result.1.now in
    let has = subst (λ (k : FileKeys). HasNewPages g.start k touched seen g.E.Entropy.tells after now) keys (was_ok c.end-disk.result.2 c.in-Ok-done.field-0 c.in-Ok-done.is c.end-disk.ensures.changed told) in
    subst (λ (l : List ℕ). KeepsOrCommits d.reads d.images d.moment d.since Done (IsNewBy p.codec file g.E.Entropy.tells after l)
    (HoldsOnly (held_by p.codec file)) (λ m. HoldsOnly (held_by p.codec m)) p.disk.now end) r.1.1.1.0
    (inr (done d.reads d.images d.moment d.since g.met.D.Disk.counts_now g.met.D.Disk.only_now p.codec file p.header p.count (r.1.1.1.1.1.1.1.0 told) p.some
    g.start (r.0 told) p.disk.now txn.disk.now end (r.1.1.1.1.1.1.1.1.0 told) run r.1.1.1.1.1.1.1.1.1.0 (r.1.1.1.1.1.1.1.1.1.1 told) (r.1.1.1.1.1.1.0 told) r.1.1.1.1.1.0 touched seen g.E.Entropy.tells after written has
    (was_ok c.end-disk.result.2 c.in-Ok-done.field-0 c.in-Ok-done.is c.end-disk.ensures.new told)
    (was_ok c.end-disk.result.2 c.in-Ok-done.field-0 c.in-Ok-done.is c.end-disk.ensures.one_new told)))

pub returns-in-Ok-done-clause-own_draws : goal.returns-in-Ok-done-clause-own_draws
returns-in-Ok-done-clause-own_draws g c = λ told drawing.
    let d = g.D.Disk in
    let p = c.args.pager in
    let r = c.requires.1.1 in
    let t = c.in-Ok.txn in
    let e = c.in-Ok.ensures in
    let file = main_of (d.reads p.disk.now) in
    let main = sym (same_main (d.reads t.disk.now)) ∙ ap (λ (x : _). main_of (d.reads x)) e.disk.1 in
    let sees : SeesFirst p.codec file (seen_pages t.read t.write (main_of (d.reads t.disk.now)) t.count t.written t.changed.held) =
    sees_first p.codec t.read t.write file (main_of (d.reads t.disk.now)) p.header p.count t.count t.written t.changed.held e.file.0 main e.file.2 e.unchanged.0 (e.untouched 1) p.some r.1.1.1.1.1.0 (r.1.1.1.1.1.1.1.0 told) in
    let mid = c.write_first.new.txn in
    let txn = c.put_trunks.new.txn in
    let run = and_then (subst (λ (x : _). LeavesOnly d.moment d.since x mid.disk.now (HoldsOld g.start.base)) c.in-Ok.ensures.disk.1 (c.write_first.ensures.any_moment told)) (c.put_trunks.ensures.any_moment told) in
    let keys : txn.write ≡ p.codec = c.put_trunks.ensures.file.1 ∙ (c.write_first.ensures.file.1 ∙ (e.file.1 ∙ r.1.1.1.1.0)) in
    let mid_keys : mid.write ≡ p.codec = c.write_first.ensures.file.1 ∙ (e.file.1 ∙ r.1.1.1.1.0) in
    let was_keys : t.write ≡ p.codec = e.file.1 ∙ r.1.1.1.1.0 in
    let touched = is_touched txn.written txn.changed.held in
    let seen = (seen_pages txn.read txn.write (main_of (d.reads txn.disk.now)) txn.count txn.written txn.changed.held).page in
    let first_seen = (seen_pages mid.read mid.write (main_of (d.reads mid.disk.now)) mid.count mid.written mid.changed.held).page in
    let put = c.in-Ok-put_trunks.ensures in
    let first = c.in-Ok-write_first.ensures in
    let stood = (seen_pages t.read t.write (main_of (d.reads t.disk.now)) t.count t.written t.changed.held).page 1 in
    let size : usable t.write.profile ≡ usable p.codec.profile = ap (λ (k : FileKeys). usable k.profile) was_keys in
    let page = first.changed told ∙ (ap (λ (u : ℕ). first_page_by u t.count c.header.result.now stood) size ∙ freed_is p.codec file stood p.header c.header.result.now p.count t.count (usable p.codec.profile) (r.1.1.1.1.1.1.1.0 told) sees.page c.header.ensures e.file.2) in
    let written : AreWritten p.codec file p.count touched seen =
    are_written p.codec file p.header c.header.result.now p.count (usable mid.write.profile) mid.count touched (is_touched mid.written mid.changed.held) (is_touched t.written t.changed.held) seen first_seen (r.1.1.1.1.1.1.1.0 told) p.some
    (ap (λ (k : FileKeys). usable k.profile) mid_keys) (c.write_first.ensures.file.2 ∙ e.file.2) c.header.ensures page e.untouched
    (λ m num. first.touched m (subst (λ (k : ℕ). is_page_number k m ≡ true) c.write_first.ensures.file.2 num)) (put.trunks told) (put.others told) put.touched put.untouched in
    let end = c.end-disk.result.0.now in
    let now = main_of (d.reads end) in
    let after = g.E.Entropy.drawn c.end-disk.result.1.now in
    let has = subst (λ (k : FileKeys). HasNewPages g.start k touched seen g.E.Entropy.tells after now) keys (was_ok c.end-disk.result.2 c.in-Ok-done.field-0 c.in-Ok-done.is c.end-disk.ensures.changed told) in
    subst (λ (l : List ℕ). FileDraws p.codec now (is_rewritten (usable p.codec.profile) (page_count_of p.codec now)) 0 (drop (length l) after)) r.1.1.1.0
    (draws d.reads d.images d.moment d.since g.met.D.Disk.counts_now g.met.D.Disk.only_now p.codec file p.header p.count (r.1.1.1.1.1.1.1.0 told) p.some
    g.start (r.0 told) p.disk.now txn.disk.now end (r.1.1.1.1.1.1.1.1.0 told) run r.1.1.1.1.1.1.1.1.1.0 (r.1.1.1.1.1.1.1.1.1.1 told) (r.1.1.1.1.1.1.0 told) r.1.1.1.1.1.0 touched seen g.E.Entropy.tells after written drawing has)

pub returns-in-Err-DiskFault-clause-safely : goal.returns-in-Err-DiskFault-clause-safely
returns-in-Err-DiskFault-clause-safely g c = λ told.
    let d = g.D.Disk in
    let p = c.args.pager in
    let r = c.requires.1.1 in
    let t = c.in-Ok.txn in
    let e = c.in-Ok.ensures in
    let file = main_of (d.reads p.disk.now) in
    let main = sym (same_main (d.reads t.disk.now)) ∙ ap (λ (x : _). main_of (d.reads x)) e.disk.1 in
    let sees : SeesFirst p.codec file (seen_pages t.read t.write (main_of (d.reads t.disk.now)) t.count t.written t.changed.held) =
    sees_first p.codec t.read t.write file (main_of (d.reads t.disk.now)) p.header p.count t.count t.written t.changed.held e.file.0 main e.file.2 e.unchanged.0 (e.untouched 1) p.some r.1.1.1.1.1.0 (r.1.1.1.1.1.1.1.0 told) in
    let mid = c.write_first.new.txn in
    let txn = c.put_trunks.new.txn in
    let run = and_then (subst (λ (x : _). LeavesOnly d.moment d.since x mid.disk.now (HoldsOld g.start.base)) c.in-Ok.ensures.disk.1 (c.write_first.ensures.any_moment told)) (c.put_trunks.ensures.any_moment told) in
    let keys : txn.write ≡ p.codec = c.put_trunks.ensures.file.1 ∙ (c.write_first.ensures.file.1 ∙ (e.file.1 ∙ r.1.1.1.1.0)) in
    let mid_keys : mid.write ≡ p.codec = c.write_first.ensures.file.1 ∙ (e.file.1 ∙ r.1.1.1.1.0) in
    let was_keys : t.write ≡ p.codec = e.file.1 ∙ r.1.1.1.1.0 in
    let touched = is_touched txn.written txn.changed.held in
    let seen = (seen_pages txn.read txn.write (main_of (d.reads txn.disk.now)) txn.count txn.written txn.changed.held).page in
    let first_seen = (seen_pages mid.read mid.write (main_of (d.reads mid.disk.now)) mid.count mid.written mid.changed.held).page in
    let put = c.in-Ok-put_trunks.ensures in
    let first = c.in-Ok-write_first.ensures in
    let stood = (seen_pages t.read t.write (main_of (d.reads t.disk.now)) t.count t.written t.changed.held).page 1 in
    let size : usable t.write.profile ≡ usable p.codec.profile = ap (λ (k : FileKeys). usable k.profile) was_keys in
    let page = first.changed told ∙ (ap (λ (u : ℕ). first_page_by u t.count c.header.result.now stood) size ∙ freed_is p.codec file stood p.header c.header.result.now p.count t.count (usable p.codec.profile) (r.1.1.1.1.1.1.1.0 told) sees.page c.header.ensures e.file.2) in
    let written : AreWritten p.codec file p.count touched seen =
    are_written p.codec file p.header c.header.result.now p.count (usable mid.write.profile) mid.count touched (is_touched mid.written mid.changed.held) (is_touched t.written t.changed.held) seen first_seen (r.1.1.1.1.1.1.1.0 told) p.some
    (ap (λ (k : FileKeys). usable k.profile) mid_keys) (c.write_first.ensures.file.2 ∙ e.file.2) c.header.ensures page e.untouched
    (λ m num. first.touched m (subst (λ (k : ℕ). is_page_number k m ≡ true) c.write_first.ensures.file.2 num)) (put.trunks told) (put.others told) put.touched put.untouched in
    let end = c.end-disk.result.0.now in
    let now = main_of (d.reads end) in
    let after = g.E.Entropy.drawn c.end-disk.result.1.now in
    let next = subst (λ (k : FileKeys). LeavesChanged d.moment d.since g.start.base (HasNewPages g.start k touched seen g.E.Entropy.tells after) txn.disk.now end) keys (c.end-disk.ensures.any_moment told) in
    subst (λ (l : List ℕ). KeepsOrCommits d.reads d.images d.moment d.since DiskFault (IsNewBy p.codec file g.E.Entropy.tells after l)
    (HoldsOnly (held_by p.codec file)) (λ m. HoldsOnly (held_by p.codec m)) p.disk.now end) r.1.1.1.0
    (failed d.reads d.images d.moment d.since g.met.D.Disk.counts_now g.met.D.Disk.only_now p.codec file p.header p.count (r.1.1.1.1.1.1.1.0 told) p.some
    g.start (r.0 told) p.disk.now txn.disk.now end (r.1.1.1.1.1.1.1.1.0 told) run r.1.1.1.1.1.1.1.1.1.0 (r.1.1.1.1.1.1.1.1.1.1 told) (r.1.1.1.1.1.1.0 told) r.1.1.1.1.1.0 touched seen g.E.Entropy.tells after written next)

pub returns-in-Err-EntropyFault-clause-safely : goal.returns-in-Err-EntropyFault-clause-safely
returns-in-Err-EntropyFault-clause-safely g c = λ told.
    let d = g.D.Disk in
    let p = c.args.pager in
    let r = c.requires.1.1 in
    let mid = c.write_first.new.txn in
    let txn = c.put_trunks.new.txn in
    let run = and_then (subst (λ (x : _). LeavesOnly d.moment d.since x mid.disk.now (HoldsOld g.start.base)) c.in-Ok.ensures.disk.1 (c.write_first.ensures.any_moment told)) (c.put_trunks.ensures.any_moment told) in
    let end = c.end-disk.result.0.now in
    let is : c.end-disk.result.2 ≡ Err Undrawn = search rules in
    inl (unwritten d.reads d.images d.moment d.since g.met.D.Disk.counts_now g.met.D.Disk.only_now p.codec (main_of (d.reads p.disk.now)) p.header p.count (r.1.1.1.1.1.1.1.0 told) p.some
    g.start (r.0 told) p.disk.now txn.disk.now end (r.1.1.1.1.1.1.1.1.0 told) run EntropyFault entropy_not_done (c.end-disk.ensures.only_old is told))

pub returns-in-Ok-done-clause-fresh : goal.returns-in-Ok-done-clause-fresh
returns-in-Ok-done-clause-fresh g c = λ told.
    let d = g.D.Disk in
    let run = then_from g.met.D.Disk.counts_now (λ a b e ab be. be ∙ ab)
    (subst (λ (x : _). LeavesOnly d.moment d.since x c.write_first.new.txn.disk.now (From SameFresh (d.images x))) c.in-Ok.ensures.disk.1 (c.write_first.ensures.fresh told)) (c.put_trunks.ensures.fresh told) in
    then_from g.met.D.Disk.counts_now (λ a b e ab be. be ∙ ab) run (c.end-disk.ensures.fresh told)

pub returns-in-Err-DiskFault-clause-fresh : goal.returns-in-Err-DiskFault-clause-fresh
returns-in-Err-DiskFault-clause-fresh g c = λ told.
    let d = g.D.Disk in
    let run = then_from g.met.D.Disk.counts_now (λ a b e ab be. be ∙ ab)
    (subst (λ (x : _). LeavesOnly d.moment d.since x c.write_first.new.txn.disk.now (From SameFresh (d.images x))) c.in-Ok.ensures.disk.1 (c.write_first.ensures.fresh told)) (c.put_trunks.ensures.fresh told) in
    then_from g.met.D.Disk.counts_now (λ a b e ab be. be ∙ ab) run (c.end-disk.ensures.fresh told)

pub returns-in-Err-EntropyFault-clause-fresh : goal.returns-in-Err-EntropyFault-clause-fresh
returns-in-Err-EntropyFault-clause-fresh g c = λ told.
    let d = g.D.Disk in
    let run = then_from g.met.D.Disk.counts_now (λ a b e ab be. be ∙ ab)
    (subst (λ (x : _). LeavesOnly d.moment d.since x c.write_first.new.txn.disk.now (From SameFresh (d.images x))) c.in-Ok.ensures.disk.1 (c.write_first.ensures.fresh told)) (c.put_trunks.ensures.fresh told) in
    then_from g.met.D.Disk.counts_now (λ a b e ab be. be ∙ ab) run (c.end-disk.ensures.fresh told)

pub returns-in-Err-DiskFault-clause-disk_fault : goal.returns-in-Err-DiskFault-clause-disk_fault
returns-in-Err-DiskFault-clause-disk_fault g c = λ is.
    let same : c.end-disk.result.2 ≡ Err Failed = search rules in
    omega (arith, ap g.D.Disk.faults c.in-Ok.ensures.disk.1, c.write_first.ensures.later.0, c.put_trunks.ensures.later.0, c.end-disk.ensures.disk_fault same)

pub returns-in-Err-EntropyFault-clause-entropy_fault : goal.returns-in-Err-EntropyFault-clause-entropy_fault
returns-in-Err-EntropyFault-clause-entropy_fault g c = λ is.
    let same : c.end-disk.result.2 ≡ Err Undrawn = search rules in
    omega (arith, ap g.E.Entropy.faults c.in-Ok.ensures.entropy.1, c.write_first.ensures.later.1, c.put_trunks.ensures.later.1, c.end-disk.ensures.entropy_fault same)
