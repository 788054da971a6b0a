use Rattle.std.proofs.Common.{◌≡◌, inl, ◌≤◌, ℕ, true, false, IsTrue, length, drop, Err, refl, sym, ap, subst, ◌∙◌, rules}
use Rattle.edge_model.specs.Causes.{Rose}
use Rattle.edge_model.specs.Images.{Each, From, LeavesOnly}
use Rattle.edge_model.specs.Moments.{and_then, then_from, weaker}
use Rattle.edge_model.specs.OnlyRead.{OnlyRead}
use Rattle.btree_model.specs.Plain.{is_leaf}
use Rattle.db_format.specs.Seen.{marked}
use Rattle.page_codec.specs.Page.{FileKeys, salt_of}
use Rattle.pager.specs.Base.{base_of}
use Rattle.pager.specs.Changed.{same_layout}
use Rattle.edge_model.specs.Files.{main_of}
use Rattle.pager.specs.Pages.{is_page_number, opened_pages}
use Rattle.pager.specs.Reads.{not_read}
use Rattle.pager.proofs.UnderWayLemmas.{ok_map}
use Rattle.atomic_commit.specs.Commit.{IsCommitted, LeavesChanged}
use Rattle.atomic_commit.specs.Database.{HoldsEither, HoldsOld, stored_pages}
use Rattle.atomic_commit.specs.Facts.{IsCommitBegun, SameFresh}
use Rattle.rekey_job.specs.Draws.{FileDraws}
use Rattle.rekey_job.specs.Rekeyed.{IsRekeyed}
use Rattle.rekey_job.specs.Stops.{AreClean}
use Rattle.rekey_job.specs.declared.error.RekeyError.{RekeyError}
use Rattle.rekey_job.specs.declared.error.RekeyError.TheVariants.{DiskFault}
use Rattle.atomic_commit.proofs.Behind.{then_changed}
use Rattle.rekey_job.proofs.Committed.{by_names, late_show, late_unwritten, read_begun, same_error, while_read}
use Rattle.rekey_job.proofs.job.rekey.Goals as goal

pub returns-in-Ok-clause-rekeyed : goal.returns-in-Ok-clause-rekeyed
returns-in-Ok-clause-rekeyed g c =
    let p = c.args.pager in
    let q = c.check_pages.new.pager in
    let end = c.rekey_clean.result.0.now in
    let file = c.check_pages.ensures.file in
    ok_map c.rekey_clean.result.2 c.rekey_clean.ensures.rekeyed (λ is told. by_names (λ k f n. IsRekeyed k c.args.write n f (main_of (g.D.Disk.reads end)))
    p.codec q.codec (g.D.Disk.reads p.disk.now) (g.D.Disk.reads q.disk.now) p.count q.count file.0 (c.check_pages.ensures.disk.only_read told).stays file.1 (is told))

pub returns-in-Ok-clause-own_draws : goal.returns-in-Ok-clause-own_draws
returns-in-Ok-clause-own_draws g c =
    let q = c.check_pages.new.pager in
    let main = main_of (g.D.Disk.reads c.rekey_clean.result.0.now) in
    let after = g.E.Entropy.drawn c.rekey_clean.result.1.now in
    ok_map c.rekey_clean.result.2 c.rekey_clean.ensures.own_draws (λ own told drawing.
    subst (λ (n : ℕ). FileDraws c.args.write main (is_page_number n) 0 (drop (length (g.E.Entropy.drawn c.args.pager.entropy.now)) after)) c.check_pages.ensures.file.1
    (subst (λ (e : _). FileDraws c.args.write main (is_page_number q.count) 0 (drop (length (g.E.Entropy.drawn e)) after)) c.check_pages.ensures.entropy.value (own told drawing)))

pub returns-in-Ok-clause-new : goal.returns-in-Ok-clause-new
returns-in-Ok-clause-new g c =
    let p = c.args.pager in
    let q = c.check_pages.new.pager in
    let end = c.rekey_clean.result.0.now in
    let file = c.check_pages.ensures.file in
    ok_map c.rekey_clean.result.2 c.rekey_clean.ensures.new (λ new told. by_names (λ k f n. Each (g.D.Disk.images end) (IsCommitted (base_of k f n) (main_of (g.D.Disk.reads end))))
    p.codec q.codec (g.D.Disk.reads p.disk.now) (g.D.Disk.reads q.disk.now) p.count q.count file.0 (c.check_pages.ensures.disk.only_read told).stays file.1 (new told))

pub returns-in-Ok-clause-any_moment : goal.returns-in-Ok-clause-any_moment
returns-in-Ok-clause-any_moment g c told =
    let d = g.D.Disk in
    let p = c.args.pager in
    let q = c.check_pages.new.pager in
    let end = c.rekey_clean.result.0.now in
    let file = c.check_pages.ensures.file in
    let read = c.check_pages.ensures.disk.only_read told in
    let base = base_of p.codec (main_of (d.reads p.disk.now)) p.count in
    let after = g.E.Entropy.drawn c.rekey_clean.result.1.now in
    let drawn = drop (length (g.E.Entropy.drawn p.entropy.now)) after in
    let clean = subst (λ (e : _). LeavesChanged d.moment d.since (base_of q.codec (main_of (d.reads q.disk.now)) q.count)
    (λ main. IsRekeyed q.codec c.args.write q.count (main_of (d.reads q.disk.now)) main × (IsTrue g.E.Entropy.tells → FileDraws c.args.write main (is_page_number q.count) 0 (drop (length (g.E.Entropy.drawn e)) after))) q.disk.now end)
    c.check_pages.ensures.entropy.value (c.rekey_clean.ensures.any_moment told) in
    then_changed (while_read d.reads d.images d.moment d.since g.met.D.Disk.counts_now g.met.D.Disk.only_now (HoldsOld base) p.disk.now q.disk.now (c.requires.begun told).holds read)
    (by_names (λ k f n. LeavesChanged d.moment d.since (base_of k f n) (λ main. IsRekeyed k c.args.write n f main × (IsTrue g.E.Entropy.tells → FileDraws c.args.write main (is_page_number n) 0 drawn)) q.disk.now end)
    p.codec q.codec (d.reads p.disk.now) (d.reads q.disk.now) p.count q.count file.0 read.stays file.1 clean)

pub returns-in-Ok-clause-one_new : goal.returns-in-Ok-clause-one_new
returns-in-Ok-clause-one_new g c =
    let d = g.D.Disk in
    let p = c.args.pager in
    let q = c.check_pages.new.pager in
    let end = c.rekey_clean.result.0.now in
    let file = c.check_pages.ensures.file in
    let base = base_of p.codec (main_of (d.reads p.disk.now)) p.count in
    ok_map c.rekey_clean.result.2 c.rekey_clean.ensures.one_new (λ one told.
    let read = c.check_pages.ensures.disk.only_read told in
    and_then (weaker (λ image holds. inl holds) (while_read d.reads d.images d.moment d.since g.met.D.Disk.counts_now g.met.D.Disk.only_now (HoldsOld base) p.disk.now q.disk.now (c.requires.begun told).holds read))
    (by_names (λ k f n. LeavesOnly d.moment d.since q.disk.now end (HoldsEither (base_of k f n) (stored_pages k.profile.page_size n (main_of (d.reads end)))))
    p.codec q.codec (d.reads p.disk.now) (d.reads q.disk.now) p.count q.count file.0 read.stays file.1 (one told)))

pub returns-in-Ok-clause-only_old : goal.returns-in-Ok-clause-only_old
returns-in-Ok-clause-only_old g c is told =
    let d = g.D.Disk in
    let p = c.args.pager in
    let q = c.check_pages.new.pager in
    let end = c.rekey_clean.result.0.now in
    let file = c.check_pages.ensures.file in
    let read = c.check_pages.ensures.disk.only_read told in
    let base = base_of p.codec (main_of (d.reads p.disk.now)) p.count in
    and_then (while_read d.reads d.images d.moment d.since g.met.D.Disk.counts_now g.met.D.Disk.only_now (HoldsOld base) p.disk.now q.disk.now (c.requires.begun told).holds read)
    (by_names (λ k f n. LeavesOnly d.moment d.since q.disk.now end (HoldsOld (base_of k f n)))
    p.codec q.codec (d.reads p.disk.now) (d.reads q.disk.now) p.count q.count file.0 read.stays file.1 (c.rekey_clean.ensures.only_old is told))

pub returns-in-Ok-clause-fresh : goal.returns-in-Ok-clause-fresh
returns-in-Ok-clause-fresh g c told =
    let d = g.D.Disk in
    let p = c.args.pager in
    then_from g.met.D.Disk.counts_now (λ a b e ab be. be ∙ ab)
    (while_read d.reads d.images d.moment d.since g.met.D.Disk.counts_now g.met.D.Disk.only_now (From SameFresh (d.images p.disk.now)) p.disk.now c.check_pages.new.pager.disk.now (λ image now. (image, now, refl))
    (c.check_pages.ensures.disk.only_read told)) (c.rekey_clean.ensures.fresh told)

pub returns-in-Ok-clause-shown : goal.returns-in-Ok-clause-shown
returns-in-Ok-clause-shown g c =
    let p = c.args.pager in
    late_show g.D.Disk.tells (opened_pages p.codec (main_of (g.D.Disk.reads p.disk.now)) p.count) c.rekey_clean.result.2 c.rekey_clean.ensures.late

pub returns-in-Ok-clause-unwritten : goal.returns-in-Ok-clause-unwritten
returns-in-Ok-clause-unwritten g c =
    let d = g.D.Disk in
    let p = c.args.pager in
    let end = c.rekey_clean.result.0.now in
    late_unwritten d.tells (OnlyRead d.reads d.images d.moment d.since p.disk.now end × (c.rekey_clean.result.1.now ≡ p.entropy.now)) c.rekey_clean.result.2 c.rekey_clean.ensures.late (λ is told.
    let same = c.rekey_clean.ensures.unwritten is told in
    (subst (λ (x : _). OnlyRead d.reads d.images d.moment d.since p.disk.now x) (sym same.0) (c.check_pages.ensures.disk.only_read told), same.1 ∙ c.check_pages.ensures.entropy.value))

pub returns-in-Ok-clause-entropy_fault : goal.returns-in-Ok-clause-entropy_fault
returns-in-Ok-clause-entropy_fault g c is =
    subst (λ (e : _). Rose (g.E.Entropy.faults e) (g.E.Entropy.faults c.rekey_clean.result.1.now)) c.check_pages.ensures.entropy.value (c.rekey_clean.ensures.entropy_fault is)

pub returns-in-Ok-clause-entropy_later : goal.returns-in-Ok-clause-entropy_later
returns-in-Ok-clause-entropy_later g c =
    subst (λ (e : _). g.E.Entropy.faults e ≤ g.E.Entropy.faults c.rekey_clean.result.1.now) c.check_pages.ensures.entropy.value c.rekey_clean.ensures.entropy_later

pub rekey_clean-requires : goal.rekey_clean-requires
rekey_clean-requires g c =
    let d = g.D.Disk in
    let p = c.args.pager in
    let q = c.check_pages.new.pager in
    let e = c.check_pages.ensures in
    let yes : same_layout p.codec c.args.write ≡ true = search (rules, c.codec.ensures, c.is_same_layout.ensures, c.if-not-is_same_layout.false) in
    record {
      layout = subst (λ (k : FileKeys). same_layout k c.args.write ≡ true) (sym e.file.0) yes;
      salt = λ told plain. by_names (λ k f n. c.args.write.salt ≡ salt_of f) q.codec p.codec (d.reads q.disk.now) (d.reads p.disk.now) q.count p.count
          (sym e.file.0) (sym (e.disk.only_read told).stays) (sym e.file.1) (c.requires.salt told plain);
      begun = λ told. read_begun (base_of q.codec (main_of (d.reads q.disk.now)) q.count) (d.images p.disk.now) (d.images q.disk.now) (e.disk.only_read told).same_images
          (by_names (λ k f n. IsCommitBegun (base_of k f n) (d.images p.disk.now)) q.codec p.codec (d.reads q.disk.now) (d.reads p.disk.now) q.count p.count
          (sym e.file.0) (sym (e.disk.only_read told).stays) (sym e.file.1) (c.requires.begun told));
      clean = λ told. by_names (λ k f n. AreClean (opened_pages k f n)) q.codec p.codec (d.reads q.disk.now) (d.reads p.disk.now) q.count p.count
          (sym e.file.0) (sym (e.disk.only_read told).stays) (sym e.file.1) (c.in-Ok.ensures.clean told);
      leaves = λ told. by_names (λ k f n. (m : ℕ) → marked c.in-Ok.leaves.leaves m ≡ is_leaf (opened_pages k f n) m) q.codec p.codec (d.reads q.disk.now) (d.reads p.disk.now) q.count p.count
          (sym e.file.0) (sym (e.disk.only_read told).stays) (sym e.file.1) (c.in-Ok.ensures.leaves told);
    }

pub returns-in-Ok-clause-differs : goal.returns-in-Ok-clause-differs
returns-in-Ok-clause-differs g c other =
    let yes : same_layout c.args.pager.codec c.args.write ≡ true = search (rules, c.codec.ensures, c.is_same_layout.ensures, c.if-not-is_same_layout.false) in
    let never : true ≡ false = sym yes ∙ other in cc

pub returns-in-Err-clause-differs : goal.returns-in-Err-clause-differs
returns-in-Err-clause-differs g c other =
    let yes : same_layout c.args.pager.codec c.args.write ≡ true = search (rules, c.codec.ensures, c.is_same_layout.ensures, c.if-not-is_same_layout.false) in
    let never : true ≡ false = sym yes ∙ other in cc

pub returns-in-Err-clause-any_moment : goal.returns-in-Err-clause-any_moment
returns-in-Err-clause-any_moment g c told =
    let d = g.D.Disk in
    let p = c.args.pager in
    inl (subst (λ (x : _). LeavesOnly d.moment d.since p.disk.now x (HoldsOld (base_of p.codec (main_of (d.reads p.disk.now)) p.count))) (sym c.into_parts-disk-in-Err.ensures.disk.1)
    (while_read d.reads d.images d.moment d.since g.met.D.Disk.counts_now g.met.D.Disk.only_now (HoldsOld (base_of p.codec (main_of (d.reads p.disk.now)) p.count)) p.disk.now c.check_pages.new.pager.disk.now (c.requires.begun told).holds (c.check_pages.ensures.disk.only_read told)))

pub returns-in-Err-clause-fresh : goal.returns-in-Err-clause-fresh
returns-in-Err-clause-fresh g c told =
    let d = g.D.Disk in
    let p = c.args.pager in
    subst (λ (x : _). LeavesOnly d.moment d.since p.disk.now x (From SameFresh (d.images p.disk.now))) (sym c.into_parts-disk-in-Err.ensures.disk.1)
    (while_read d.reads d.images d.moment d.since g.met.D.Disk.counts_now g.met.D.Disk.only_now (From SameFresh (d.images p.disk.now)) p.disk.now c.check_pages.new.pager.disk.now (λ image now. (image, now, refl)) (c.check_pages.ensures.disk.only_read told))

pub returns-in-Err-clause-unwritten : goal.returns-in-Err-clause-unwritten
returns-in-Err-clause-unwritten g c is told =
    let d = g.D.Disk in
    let p = c.args.pager in (
      subst (λ (x : _). OnlyRead d.reads d.images d.moment d.since p.disk.now x) (sym c.into_parts-disk-in-Err.ensures.disk.1) (c.check_pages.ensures.disk.only_read told),
      c.into_parts-disk-in-Err.ensures.entropy.1 ∙ c.check_pages.ensures.entropy.value,
    )

pub returns-in-Err-clause-disk_fault : goal.returns-in-Err-clause-disk_fault
returns-in-Err-clause-disk_fault g c is = subst (λ (x : _). Rose (g.D.Disk.faults c.args.pager.disk.now) (g.D.Disk.faults x)) (sym c.into_parts-disk-in-Err.ensures.disk.1) (c.in-Err.ensures.fault (ap (λ (e : RekeyError). Err e) (same_error c.in-Err.error DiskFault is)))

pub returns-then-not-is_same_layout-clause-any_moment : goal.returns-then-not-is_same_layout-clause-any_moment
returns-then-not-is_same_layout-clause-any_moment g c told =
    let d = g.D.Disk in
    let p = c.args.pager in
    inl (subst (λ (x : _). LeavesOnly d.moment d.since p.disk.now x (HoldsOld (base_of p.codec (main_of (d.reads p.disk.now)) p.count))) (sym c.into_parts-disk.ensures.disk.1)
    (while_read d.reads d.images d.moment d.since g.met.D.Disk.counts_now g.met.D.Disk.only_now (HoldsOld (base_of p.codec (main_of (d.reads p.disk.now)) p.count)) p.disk.now p.disk.now (c.requires.begun told).holds (not_read p.disk.now)))

pub returns-then-not-is_same_layout-clause-fresh : goal.returns-then-not-is_same_layout-clause-fresh
returns-then-not-is_same_layout-clause-fresh g c told =
    let d = g.D.Disk in
    let p = c.args.pager in
    subst (λ (x : _). LeavesOnly d.moment d.since p.disk.now x (From SameFresh (d.images p.disk.now))) (sym c.into_parts-disk.ensures.disk.1)
    (while_read d.reads d.images d.moment d.since g.met.D.Disk.counts_now g.met.D.Disk.only_now (From SameFresh (d.images p.disk.now)) p.disk.now p.disk.now (λ image now. (image, now, refl)) (not_read p.disk.now))

pub returns-then-not-is_same_layout-clause-unwritten : goal.returns-then-not-is_same_layout-clause-unwritten
returns-then-not-is_same_layout-clause-unwritten g c is told =
    let d = g.D.Disk in
    let p = c.args.pager in
    (subst (λ (x : _). OnlyRead d.reads d.images d.moment d.since p.disk.now x) (sym c.into_parts-disk.ensures.disk.1) (not_read p.disk.now), c.into_parts-disk.ensures.entropy.1)
