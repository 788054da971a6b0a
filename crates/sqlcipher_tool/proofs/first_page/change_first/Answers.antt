use Rattle.std.proofs.Common.{◌≡◌, ◌==◌, inl, inr, ℕ, Bool, true, List, drop, length, Err, refl, sym, ap, subst, ◌∙◌, arith, rules}
use Rattle.edge_model.specs.Images.{From, LeavesOnly}
use Rattle.edge_model.specs.Moments.{started_from, then_from}
use Rattle.page_codec.specs.Page.{FileKeys}
use Rattle.pager.specs.Changed.{same_layout}
use Rattle.edge_model.specs.Files.{main_of}
use Rattle.pager.specs.Pages.{is_page_number}
use Rattle.pager.specs.UnderWay.{HasNewPages, is_touched, seen_pages}
use Rattle.pager.proofs.UnderWayLemmas.{same_main}
use Rattle.atomic_commit.specs.declared.committing.CommitFault.TheVariants.{EntropyFault as Undrawn}
use Rattle.atomic_commit.specs.Commit.{LeavesChanged}
use Rattle.atomic_commit.specs.Database.{HoldsOld}
use Rattle.atomic_commit.specs.Facts.{SameFresh}
use Rattle.sqlcipher_tool.specs.Change.{KeepsOrCommits, change_status}
use Rattle.sqlcipher_tool.specs.Holding.{HoldsOnly, held_by}
use Rattle.sqlcipher_tool.specs.Renewal.{WithDraws}
use Rattle.sqlcipher_tool.specs.FirstPage.{IsFirstChanged}
use Rattle.rekey_job.specs.Draws.{FileDraws}
use Rattle.sqlcipher_tool.specs.declared.opening.ChangeError.{ChangeError}
use Rattle.sqlcipher_tool.specs.declared.status.Status.TheVariants.{Done, DiskFault, OutOfMemory, EntropyFault}
use Rattle.sqlcipher_tool.proofs.Committed.{begun, unbegun, unended, unwritten}
use Rattle.sqlcipher_tool.proofs.Stamping.{SeesFirst, done, draws, failed, one_alone, page_faults, page_is, page_late, sees_first, was_ok, differ, layout_same}
use Rattle.sqlcipher_tool.proofs.first_page.change_first.Goals as goal
use Rattle.sqlcipher_tool.proofs.Changing.{error_not_done}

memory_not_done : OutOfMemory ≡ Done → ⊥
memory_not_done is = cc

entropy_not_done : EntropyFault ≡ Done → ⊥
entropy_not_done is = cc

-- a changed file, sealed with bytes that were drawn behind the first
abbrev IsNewBy : FileKeys → ℕ → List ℕ → List ℕ → Bool → List ℕ → List ℕ → List ℕ → Type 0
IsNewBy keys at bytes file tells after before = WithDraws (IsFirstChanged keys at bytes file) tells (λ main. FileDraws keys main (λ m. m == 1) 0 (drop (length before) after))

-- the conditions, by their places: base, base_is, sizes, drawn, write, listed, salt, opened, alone
pub begin-requires : goal.begin-requires
begin-requires g c κs within =
    let d = g.D.Disk in
    let p = c.args.pager in
    let r = c.requires.1.1 in (
      within.0,
      (
        within.1,
        (
          (omega arith, omega arith),
          (
            r.1.1.0,
            (
              r.1.1.1.0,
              λ told. begun d.reads d.images d.moment d.since g.met.D.Disk.counts_now g.met.D.Disk.only_now p.codec (main_of (d.reads p.disk.now)) p.header p.count (r.1.1.1.1.1.1.1.0 told) p.some
                  g.start (r.0 told) p.disk.now p.disk.now p.disk.now (r.1.1.1.1.1.1.1.1.0 told) r.1.0,
            ),
          ),
        ),
      ),
    )

pub begin_error-requires : goal.begin_error-requires
begin_error-requires g c =
    let p = c.args.pager in
    let same : c.args.write ≡ p.codec = c.requires.1.1.1.1.1.1.0 in
    λ is. differ (sym (layout_same p.codec) ∙ (ap (λ (k : FileKeys). same_layout p.codec k) (sym same) ∙ c.in-Err.ensures.layout is))

pub returns-in-Err-clause-safely : goal.returns-in-Err-clause-safely
returns-in-Err-clause-safely g c = λ told.
    let d = g.D.Disk in
    let p = c.args.pager in
    let r = c.requires.1.1 in
    let same = c.into_parts-disk.ensures.disk.1 ∙ c.in-Err.ensures.back.1 in
    inl (unbegun d.reads d.images d.moment d.since g.met.D.Disk.counts_now g.met.D.Disk.only_now p.codec (main_of (d.reads p.disk.now)) p.header p.count (r.1.1.1.1.1.1.1.0 told) p.some
    g.start (r.0 told) p.disk.now p.disk.now c.into_parts-disk.result.0.now (r.1.1.1.1.1.1.1.1.0 told) (change_status (Err c.begin_error.result))
    (subst (λ (error : ChangeError). change_status (Err error) ≡ Done → ⊥) (sym c.begin_error.ensures) memory_not_done) same)

pub returns-in-Err-clause-fresh : goal.returns-in-Err-clause-fresh
returns-in-Err-clause-fresh g c = λ told.
    let d = g.D.Disk in
    let p = c.args.pager in
    let same = c.into_parts-disk.ensures.disk.1 ∙ c.in-Err.ensures.back.1 in
    subst (λ (x : _). LeavesOnly d.moment d.since p.disk.now x (From SameFresh (d.images p.disk.now))) (sym same) (started_from g.met.D.Disk.only_now p.disk.now SameFresh (λ image. refl))

pub returns-in-Err-write_fields-clause-told : goal.returns-in-Err-write_fields-clause-told
returns-in-Err-write_fields-clause-told g c = λ told.
    let d = g.D.Disk in
    let p = c.args.pager in
    let r = c.requires.1.1 in
    let t = c.in-Ok.txn in
    let e = c.in-Ok.ensures in
    let file = main_of (d.reads p.disk.now) in
    let main = sym (same_main (d.reads t.disk.now)) ∙ ap (λ (x : _). main_of (d.reads x)) e.disk.1 in
    let sees : SeesFirst p.codec file (seen_pages t.read t.write (main_of (d.reads t.disk.now)) t.count t.written t.changed.held) =
    sees_first p.codec t.read t.write file (main_of (d.reads t.disk.now)) p.header p.count t.count t.written t.changed.held e.file.0 main e.file.2 e.unchanged.0 (e.untouched 1) p.some r.1.1.1.1.1.0 (r.1.1.1.1.1.1.1.0 told) in
    let n = g.E.Entropy in
    let txn = c.write_fields.new.txn in
    inl (page_faults d.tells (seen_pages t.read t.write (main_of (d.reads t.disk.now)) t.count t.written t.changed.held)
    (d.faults t.disk.now) (d.faults txn.disk.now) (n.faults t.entropy.now) (n.faults txn.entropy.now) c.in-Err-write_fields.error c.page_error.result c.in-Err-write_fields.ensures.refused c.page_error.ensures told sees.accepted)

pub returns-in-Err-write_fields-clause-safely : goal.returns-in-Err-write_fields-clause-safely
returns-in-Err-write_fields-clause-safely g c = λ told.
    let d = g.D.Disk in
    let p = c.args.pager in
    let r = c.requires.1.1 in
    let run = subst (λ (x : _). LeavesOnly d.moment d.since x c.write_fields.new.txn.disk.now (HoldsOld g.start.base)) c.in-Ok.ensures.disk.1 (c.write_fields.ensures.any_moment told) in
    let last = c.into_parts-disk-in-Err-write_fields in
    inl (unended d.reads d.images d.moment d.since g.met.D.Disk.counts_now g.met.D.Disk.only_now p.codec (main_of (d.reads p.disk.now)) p.header p.count (r.1.1.1.1.1.1.1.0 told) p.some
    g.start (r.0 told) p.disk.now c.write_fields.new.txn.disk.now last.result.0.now (r.1.1.1.1.1.1.1.1.0 told) run (change_status (Err c.page_error.result))
    (error_not_done c.page_error.result) last.ensures.disk.1)

pub returns-in-Err-write_fields-clause-fresh : goal.returns-in-Err-write_fields-clause-fresh
returns-in-Err-write_fields-clause-fresh g c = λ told.
    let d = g.D.Disk in
    let p = c.args.pager in
    let last = c.into_parts-disk-in-Err-write_fields in
    let run = subst (λ (x : _). LeavesOnly d.moment d.since x c.write_fields.new.txn.disk.now (From SameFresh (d.images x))) c.in-Ok.ensures.disk.1 (c.write_fields.ensures.fresh told) in
    subst (λ (x : _). LeavesOnly d.moment d.since p.disk.now x (From SameFresh (d.images p.disk.now))) (sym last.ensures.disk.1) run

pub returns-in-Err-write_fields-clause-late : goal.returns-in-Err-write_fields-clause-late
returns-in-Err-write_fields-clause-late g c = page_late c.in-Err-write_fields.error c.page_error.result c.page_error.ensures

pub returns-in-Ok-done-clause-safely : goal.returns-in-Ok-done-clause-safely
returns-in-Ok-done-clause-safely g c = λ told.
    let d = g.D.Disk in
    let p = c.args.pager in
    let r = c.requires.1.1 in
    let t = c.in-Ok.txn in
    let e = c.in-Ok.ensures in
    let file = main_of (d.reads p.disk.now) in
    let main = sym (same_main (d.reads t.disk.now)) ∙ ap (λ (x : _). main_of (d.reads x)) e.disk.1 in
    let sees : SeesFirst p.codec file (seen_pages t.read t.write (main_of (d.reads t.disk.now)) t.count t.written t.changed.held) =
    sees_first p.codec t.read t.write file (main_of (d.reads t.disk.now)) p.header p.count t.count t.written t.changed.held e.file.0 main e.file.2 e.unchanged.0 (e.untouched 1) p.some r.1.1.1.1.1.0 (r.1.1.1.1.1.1.1.0 told) in
    let txn = c.write_fields.new.txn in
    let keys : txn.write ≡ p.codec = c.write_fields.ensures.file.1 ∙ (e.file.1 ∙ r.1.1.1.1.0) in
    let touched = is_touched txn.written txn.changed.held in
    let seen = (seen_pages txn.read txn.write (main_of (d.reads txn.disk.now)) txn.count txn.written txn.changed.held).page in
    let stamped = c.in_default.ensures in
    let page = stamped.changed told ∙ page_is p.codec file _ p.header c.header.result.now p.count c.pages-pages.result _ c.args.at c.args.bytes.now (r.1.1.1.1.1.1.1.0 told) sees.page c.header.ensures refl c.pages-pages.ensures in
    let one : (m : ℕ) → is_page_number p.count m ≡ true → touched m ≡ (m == 1) = λ m num.
    stamped.touched m (subst (λ (k : ℕ). is_page_number k m ≡ true) (sym e.file.2) num) ∙ one_alone m (is_touched t.written t.changed.held m) (e.untouched m) in
    let run = subst (λ (x : _). LeavesOnly d.moment d.since x txn.disk.now (HoldsOld g.start.base)) e.disk.1 (c.write_fields.ensures.any_moment told) in
    let end = c.end-disk.result.0.now in
    let now = main_of (d.reads end) in
    let after = g.E.Entropy.drawn c.end-disk.result.1.now in
    let has = subst (λ (k : FileKeys). HasNewPages g.start k touched seen g.E.Entropy.tells after now) keys (was_ok c.end-disk.result.2 c.in-Ok-done.field-0 c.in-Ok-done.is c.end-disk.ensures.changed told) in
    subst (λ (l : List ℕ). KeepsOrCommits d.reads d.images d.moment d.since Done (IsNewBy p.codec c.args.at c.args.bytes.now file g.E.Entropy.tells after l)
    (HoldsOnly (held_by p.codec file)) (λ m. HoldsOnly (held_by p.codec m)) p.disk.now end) r.1.1.1.0
    (inr (done d.reads d.images d.moment d.since g.met.D.Disk.counts_now g.met.D.Disk.only_now p.codec file p.header p.count (r.1.1.1.1.1.1.1.0 told) p.some
    g.start (r.0 told) p.disk.now txn.disk.now end (r.1.1.1.1.1.1.1.1.0 told) run c.args.at c.args.bytes.now r.1.1.1.1.1.1.1.1.1 (r.1.1.1.1.1.1.0 told) r.1.1.1.1.1.0 touched seen g.E.Entropy.tells after page one has
    (was_ok c.end-disk.result.2 c.in-Ok-done.field-0 c.in-Ok-done.is c.end-disk.ensures.new told)
    (was_ok c.end-disk.result.2 c.in-Ok-done.field-0 c.in-Ok-done.is c.end-disk.ensures.one_new told)))

pub returns-in-Ok-done-clause-own_draws : goal.returns-in-Ok-done-clause-own_draws
returns-in-Ok-done-clause-own_draws g c = λ told drawing.
    let d = g.D.Disk in
    let p = c.args.pager in
    let r = c.requires.1.1 in
    let t = c.in-Ok.txn in
    let e = c.in-Ok.ensures in
    let file = main_of (d.reads p.disk.now) in
    let main = sym (same_main (d.reads t.disk.now)) ∙ ap (λ (x : _). main_of (d.reads x)) e.disk.1 in
    let sees : SeesFirst p.codec file (seen_pages t.read t.write (main_of (d.reads t.disk.now)) t.count t.written t.changed.held) =
    sees_first p.codec t.read t.write file (main_of (d.reads t.disk.now)) p.header p.count t.count t.written t.changed.held e.file.0 main e.file.2 e.unchanged.0 (e.untouched 1) p.some r.1.1.1.1.1.0 (r.1.1.1.1.1.1.1.0 told) in
    let txn = c.write_fields.new.txn in
    let keys : txn.write ≡ p.codec = c.write_fields.ensures.file.1 ∙ (e.file.1 ∙ r.1.1.1.1.0) in
    let touched = is_touched txn.written txn.changed.held in
    let seen = (seen_pages txn.read txn.write (main_of (d.reads txn.disk.now)) txn.count txn.written txn.changed.held).page in
    let stamped = c.in_default.ensures in
    let page = stamped.changed told ∙ page_is p.codec file _ p.header c.header.result.now p.count c.pages-pages.result _ c.args.at c.args.bytes.now (r.1.1.1.1.1.1.1.0 told) sees.page c.header.ensures refl c.pages-pages.ensures in
    let one : (m : ℕ) → is_page_number p.count m ≡ true → touched m ≡ (m == 1) = λ m num.
    stamped.touched m (subst (λ (k : ℕ). is_page_number k m ≡ true) (sym e.file.2) num) ∙ one_alone m (is_touched t.written t.changed.held m) (e.untouched m) in
    let run = subst (λ (x : _). LeavesOnly d.moment d.since x txn.disk.now (HoldsOld g.start.base)) e.disk.1 (c.write_fields.ensures.any_moment told) in
    let end = c.end-disk.result.0.now in
    let now = main_of (d.reads end) in
    let after = g.E.Entropy.drawn c.end-disk.result.1.now in
    let has = subst (λ (k : FileKeys). HasNewPages g.start k touched seen g.E.Entropy.tells after now) keys (was_ok c.end-disk.result.2 c.in-Ok-done.field-0 c.in-Ok-done.is c.end-disk.ensures.changed told) in
    subst (λ (l : List ℕ). FileDraws p.codec (main_of (d.reads end)) (λ m. m == 1) 0 (drop (length l) after)) r.1.1.1.0
    (draws d.reads d.images d.moment d.since g.met.D.Disk.counts_now g.met.D.Disk.only_now p.codec file p.header p.count (r.1.1.1.1.1.1.1.0 told) p.some
    g.start (r.0 told) p.disk.now txn.disk.now end (r.1.1.1.1.1.1.1.1.0 told) run c.args.at c.args.bytes.now r.1.1.1.1.1.1.1.1.1 (r.1.1.1.1.1.1.0 told) r.1.1.1.1.1.0 touched seen g.E.Entropy.tells after page one drawing has)

pub returns-in-Err-DiskFault-clause-safely : goal.returns-in-Err-DiskFault-clause-safely
returns-in-Err-DiskFault-clause-safely g c = λ told.
    let d = g.D.Disk in
    let p = c.args.pager in
    let r = c.requires.1.1 in
    let t = c.in-Ok.txn in
    let e = c.in-Ok.ensures in
    let file = main_of (d.reads p.disk.now) in
    let main = sym (same_main (d.reads t.disk.now)) ∙ ap (λ (x : _). main_of (d.reads x)) e.disk.1 in
    let sees : SeesFirst p.codec file (seen_pages t.read t.write (main_of (d.reads t.disk.now)) t.count t.written t.changed.held) =
    sees_first p.codec t.read t.write file (main_of (d.reads t.disk.now)) p.header p.count t.count t.written t.changed.held e.file.0 main e.file.2 e.unchanged.0 (e.untouched 1) p.some r.1.1.1.1.1.0 (r.1.1.1.1.1.1.1.0 told) in
    let txn = c.write_fields.new.txn in
    let keys : txn.write ≡ p.codec = c.write_fields.ensures.file.1 ∙ (e.file.1 ∙ r.1.1.1.1.0) in
    let touched = is_touched txn.written txn.changed.held in
    let seen = (seen_pages txn.read txn.write (main_of (d.reads txn.disk.now)) txn.count txn.written txn.changed.held).page in
    let stamped = c.in_default.ensures in
    let page = stamped.changed told ∙ page_is p.codec file _ p.header c.header.result.now p.count c.pages-pages.result _ c.args.at c.args.bytes.now (r.1.1.1.1.1.1.1.0 told) sees.page c.header.ensures refl c.pages-pages.ensures in
    let one : (m : ℕ) → is_page_number p.count m ≡ true → touched m ≡ (m == 1) = λ m num.
    stamped.touched m (subst (λ (k : ℕ). is_page_number k m ≡ true) (sym e.file.2) num) ∙ one_alone m (is_touched t.written t.changed.held m) (e.untouched m) in
    let run = subst (λ (x : _). LeavesOnly d.moment d.since x txn.disk.now (HoldsOld g.start.base)) e.disk.1 (c.write_fields.ensures.any_moment told) in
    let end = c.end-disk.result.0.now in
    let now = main_of (d.reads end) in
    let after = g.E.Entropy.drawn c.end-disk.result.1.now in
    let next = subst (λ (k : FileKeys). LeavesChanged d.moment d.since g.start.base (HasNewPages g.start k touched seen g.E.Entropy.tells after) txn.disk.now end) keys (c.end-disk.ensures.any_moment told) in
    subst (λ (l : List ℕ). KeepsOrCommits d.reads d.images d.moment d.since DiskFault (IsNewBy p.codec c.args.at c.args.bytes.now file g.E.Entropy.tells after l)
    (HoldsOnly (held_by p.codec file)) (λ m. HoldsOnly (held_by p.codec m)) p.disk.now end) r.1.1.1.0
    (failed d.reads d.images d.moment d.since g.met.D.Disk.counts_now g.met.D.Disk.only_now p.codec file p.header p.count (r.1.1.1.1.1.1.1.0 told) p.some
    g.start (r.0 told) p.disk.now txn.disk.now end (r.1.1.1.1.1.1.1.1.0 told) run c.args.at c.args.bytes.now r.1.1.1.1.1.1.1.1.1 (r.1.1.1.1.1.1.0 told) r.1.1.1.1.1.0 touched seen g.E.Entropy.tells after page one next)

pub returns-in-Err-EntropyFault-clause-safely : goal.returns-in-Err-EntropyFault-clause-safely
returns-in-Err-EntropyFault-clause-safely g c = λ told.
    let d = g.D.Disk in
    let p = c.args.pager in
    let r = c.requires.1.1 in
    let txn = c.write_fields.new.txn in
    let run = subst (λ (x : _). LeavesOnly d.moment d.since x txn.disk.now (HoldsOld g.start.base)) c.in-Ok.ensures.disk.1 (c.write_fields.ensures.any_moment told) in
    let end = c.end-disk.result.0.now in
    let is : c.end-disk.result.2 ≡ Err Undrawn = search rules in
    inl (unwritten d.reads d.images d.moment d.since g.met.D.Disk.counts_now g.met.D.Disk.only_now p.codec (main_of (d.reads p.disk.now)) p.header p.count (r.1.1.1.1.1.1.1.0 told) p.some
    g.start (r.0 told) p.disk.now txn.disk.now end (r.1.1.1.1.1.1.1.1.0 told) run EntropyFault entropy_not_done (c.end-disk.ensures.only_old is told))

pub returns-in-Ok-done-clause-fresh : goal.returns-in-Ok-done-clause-fresh
returns-in-Ok-done-clause-fresh g c = λ told.
    let d = g.D.Disk in
    let run = subst (λ (x : _). LeavesOnly d.moment d.since x c.write_fields.new.txn.disk.now (From SameFresh (d.images x))) c.in-Ok.ensures.disk.1 (c.write_fields.ensures.fresh told) in
    then_from g.met.D.Disk.counts_now (λ a b e ab be. be ∙ ab) run (c.end-disk.ensures.fresh told)

pub returns-in-Err-DiskFault-clause-fresh : goal.returns-in-Err-DiskFault-clause-fresh
returns-in-Err-DiskFault-clause-fresh g c = λ told.
    let d = g.D.Disk in
    let run = subst (λ (x : _). LeavesOnly d.moment d.since x c.write_fields.new.txn.disk.now (From SameFresh (d.images x))) c.in-Ok.ensures.disk.1 (c.write_fields.ensures.fresh told) in
    then_from g.met.D.Disk.counts_now (λ a b e ab be. be ∙ ab) run (c.end-disk.ensures.fresh told)

pub returns-in-Err-EntropyFault-clause-fresh : goal.returns-in-Err-EntropyFault-clause-fresh
returns-in-Err-EntropyFault-clause-fresh g c = λ told.
    let d = g.D.Disk in
    let run = subst (λ (x : _). LeavesOnly d.moment d.since x c.write_fields.new.txn.disk.now (From SameFresh (d.images x))) c.in-Ok.ensures.disk.1 (c.write_fields.ensures.fresh told) in
    then_from g.met.D.Disk.counts_now (λ a b e ab be. be ∙ ab) run (c.end-disk.ensures.fresh told)
