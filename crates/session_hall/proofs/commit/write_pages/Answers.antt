use Rattle.std.proofs.Common.{◌≡◌, ◌∙◌, ◌≤◌, inl, ⊎_elim, ℕ, true, IsTrue, length, Some, Err, refl, sym, ap, subst, arith, rules}
use Rattle.std.proofs.lemmas.Result.{on_ok_weaker}
use Rattle.atomic_commit.specs.Commit.{LeavesChanged}
use Rattle.atomic_commit.specs.Database.{HoldsOld}
use Rattle.atomic_commit.specs.Facts.{SameFresh}
use Rattle.cipher_profile.proofs.Layouts.{IsListed-laid_out}
use Rattle.cipher_profile.specs.Profile.{IsListed, usable}
use Rattle.cipher_profile.specs.declared.profile.Profile.{Profile}
use Rattle.edge_model.specs.Files.{Files, main_of}
use Rattle.edge_model.specs.Images.{From, LeavesOnly}
use Rattle.edge_model.specs.OnlyRead.{OnlyRead}
use Rattle.page_codec.specs.Page.{FileKeys, accepts}
use Rattle.pager.specs.File.{page_stored}
use Rattle.pager.specs.Pages.{is_page_number, opened_pages}
use Rattle.pager.specs.Opening.{IsRefusedBy, file_opened}
use Rattle.pager.specs.Reads.{then_read}
use Rattle.session_hall.specs.Commit.{Commitment, StopsCommit, base_by, put_over}
use Rattle.session_hall.specs.Draws.{HasDrawn}
use Rattle.session_hall.specs.Kept.{IsHallSettled}
use Rattle.session_hall.specs.Key.{codec_of}
use Rattle.session_hall.specs.Machine.{HasSessionChanges, is_sealed, opened_by, counted_pages, write_access}
use Rattle.session_hall.specs.Session.{Session}
use Rattle.session_hall.specs.Writing.{HasWritten}
use Rattle.session_hall.specs.declared.step.Answer.{Answer}
use Rattle.session_hall.proofs.Committed.{change_stops, old_read, refused_stops}
use Rattle.session_hall.proofs.Committing.{all_old, begun, done, done_draws, moments, still_accepted}
use Rattle.session_hall.proofs.Counting.{counted_open, open_long}
use Rattle.session_hall.proofs.Fresh.{read_fresh, then_fresh}
use Rattle.session_hall.proofs.Sound.{read_settled}
use Rattle.pager.proofs.Bases.{any_base, base_sizes, is_base}
use Rattle.session_hall.proofs.Standing.{base_begins, each_settled, settled_bare}
use Rattle.session_hall.proofs.Written.{err_case, ok_both}
use Rattle.session_hall.proofs.commit.write_pages.Goals as goal

pub returns-in_default-clause-any_moment : goal.returns-in_default-clause-any_moment
returns-in_default-clause-any_moment g c = λ told.
    let d = g.D.Disk in
    let x = c.args.session.now in
    let old = c.args.disk.now in
    let file = main_of (d.reads old) in
    inl (old_read d.reads d.images d.moment d.since g.met.D.Disk.counts_now g.met.D.Disk.only_now x old c.codecs.new.disk (c.requires.settled told) ((c.requires.sound told).opens c.requires.holds) (c.codecs.ensures.only_read told))

pub read-requires : goal.read-requires
read-requires g c =
    let d = g.D.Disk in
    let mid = c.codecs.new.disk in
    record {
      frames = (omega arith, omega arith);
      recovered = λ told byte. settled_bare (d.reads mid) (d.images mid) (read_settled (c.codecs.ensures.only_read told) (c.requires.settled told)) byte;
    }

pub returns-in-Err-clause-stopped : goal.returns-in-Err-clause-stopped
returns-in-Err-clause-stopped g c = λ told.
    let d = g.D.Disk in
    let x = c.args.session.now in
    let old = c.args.disk.now in
    let file = main_of (d.reads old) in
    let listed : IsListed x.access.profile = subst IsListed c.in-Ok.ensures.profiles.0 c.in-Ok.ensures.listed.0 in
    let new = c.read.new.disk in
    let opens = (c.requires.sound told).opens c.requires.holds in
    let was = counted_open (opened_by x.access file) x.pages opens in
    let whole = open_long (codec_of x.access file) file x.pages opens in
    let large = (IsListed-laid_out x.access.profile listed).least in
    let long : 16 ≤ length file = omega (arith, whole, large) in
    let refused : IsRefusedBy (opened_by x.access file) c.in-Err.error =
    subst (λ (k : FileKeys). IsRefusedBy (file_opened k file) c.in-Err.error) (c.in-Ok.ensures.read told long)
    (subst (λ (fs : Files). IsRefusedBy (file_opened c.in-Ok.read (main_of fs)) c.in-Err.error) (c.codecs.ensures.only_read told).stays (c.in-Err.ensures.refused told)) in
    subst (λ (a : Answer). StopsCommit d.reads d.images d.moment d.since old new a) (sym c.open_answer.ensures.value)
    (refused_stops d.reads d.images d.moment d.since old new (opened_by x.access file) (record { header = was.0; count = x.pages }) c.in-Err.error was.1 refused
    (then_read (c.codecs.ensures.only_read told) (c.read.ensures.only_read told)))

pub returns-in-Err-clause-any_moment : goal.returns-in-Err-clause-any_moment
returns-in-Err-clause-any_moment g c = λ told.
    let d = g.D.Disk in
    let x = c.args.session.now in
    let old = c.args.disk.now in
    let file = main_of (d.reads old) in
    inl (old_read d.reads d.images d.moment d.since g.met.D.Disk.counts_now g.met.D.Disk.only_now x old c.read.new.disk (c.requires.settled told) ((c.requires.sound told).opens c.requires.holds)
    (then_read (c.codecs.ensures.only_read told) (c.read.ensures.only_read told)))

-- the conditions, by their places: sizes, drawn, base_is, begun, usable, accepted
pub write_changes-disk-requires : goal.write_changes-disk-requires
write_changes-disk-requires g c κs within =
    let d = g.D.Disk in
    let x = c.args.session.now in
    let old = c.args.disk.now in
    let file = main_of (d.reads old) in
    let listed : IsListed x.access.profile = subst IsListed c.in-Ok.ensures.profiles.0 c.in-Ok.ensures.listed.0 in
    let write_listed : IsListed (write_access x).profile = subst IsListed c.in-Ok.ensures.profiles.1 c.in-Ok.ensures.listed.1 in
    let p = c.into_pager-pager.result in
    let e = c.into_pager-pager.ensures in
    let codec_is : p.codec ≡ c.in-Ok.read = e.file.0 ∙ c.in-Ok-read.ensures.codec in
    let counts : IsTrue d.tells → counted_pages (file_opened p.codec (main_of (d.reads p.disk.now))) ≡ Some p.count =
    λ told. ap (λ (k : FileKeys). counted_pages (file_opened k (main_of (d.reads p.disk.now)))) codec_is
    ∙ ap (λ (y : _). counted_pages (file_opened c.in-Ok.read (main_of (d.reads y)))) e.disk.1
    ∙ ap (λ (fs : Files). counted_pages (file_opened c.in-Ok.read (main_of fs))) (c.read.ensures.only_read told).stays
    ∙ ap counted_pages (c.in-Ok-read.ensures.opens told)
    ∙ ap (λ (n : ℕ). Some n) (sym e.file.2) in
    let run : IsTrue d.tells → OnlyRead d.reads d.images d.moment d.since old p.disk.now =
    λ told. subst (λ (y : _). OnlyRead d.reads d.images d.moment d.since old y) (sym e.disk.1) (then_read (c.codecs.ensures.only_read told) (c.read.ensures.only_read told)) in
    let profile_is : p.codec.profile ≡ x.access.profile = ap (λ (k : FileKeys). k.profile) codec_is ∙ c.in-Ok.ensures.profiles.0 in
    let least = (IsListed-laid_out x.access.profile listed).least in
    let large : 512 ≤ p.codec.profile.page_size = subst (λ (f : Profile). 512 ≤ f.page_size) (sym profile_is) least in (
      within.0,
      (
        within.1,
        (
          base_sizes d.tells p.codec (main_of (d.reads p.disk.now)) p.count,
          (
            refl,
            (
              is_base d.tells p.codec (main_of (d.reads p.disk.now)) p.count (omega (arith, large)) e.some (λ told. base_begins p.codec (main_of (d.reads p.disk.now)) p.count (counts told) large e.some),
              (
                λ told. begun d.reads d.images d.moment d.since g.met.D.Disk.counts_now g.met.D.Disk.only_now d.tells told x old p.disk.now (c.requires.settled told) (c.requires.sound told) c.requires.holds
                    c.sizes.ensures listed write_listed p.codec c.in-Ok.write p.count e.some (λ l. codec_is ∙ c.in-Ok.ensures.read told l) (λ l. c.in-Ok.ensures.write told l) (counts told) (run told),
                (
                  ap usable (profile_is ∙ ap (λ (s : Session). s.access.profile) (sym c.codecs.ensures.same)),
                  λ told. subst (λ (s : Session). (n : ℕ) → is_page_number p.count n ≡ true → is_sealed s n ≡ true
                      → accepts p.codec n (page_stored p.codec (any_base d.tells p.codec (main_of (d.reads p.disk.now)) p.count).start n) ≡ true) (sym c.codecs.ensures.same)
                      (still_accepted d.reads d.images d.moment d.since g.met.D.Disk.counts_now g.met.D.Disk.only_now d.tells told x old p.disk.now (c.requires.settled told) (c.requires.sound told) c.requires.holds
                      c.sizes.ensures listed write_listed p.codec c.in-Ok.write p.count e.some (λ l. codec_is ∙ c.in-Ok.ensures.read told l) (λ l. c.in-Ok.ensures.write told l) (counts told) (run told)),
                ),
              ),
            ),
          ),
        ),
      ),
    )

pub returns-clause-committed : goal.returns-clause-committed
returns-clause-committed g c =
    let d = g.D.Disk in
    let x = c.args.session.now in
    let old = c.args.disk.now in
    let file = main_of (d.reads old) in
    let listed : IsListed x.access.profile = subst IsListed c.in-Ok.ensures.profiles.0 c.in-Ok.ensures.listed.0 in
    let write_listed : IsListed (write_access x).profile = subst IsListed c.in-Ok.ensures.profiles.1 c.in-Ok.ensures.listed.1 in
    let p = c.into_pager-pager.result in
    let e = c.into_pager-pager.ensures in
    let codec_is : p.codec ≡ c.in-Ok.read = e.file.0 ∙ c.in-Ok-read.ensures.codec in
    let counts : IsTrue d.tells → counted_pages (file_opened p.codec (main_of (d.reads p.disk.now))) ≡ Some p.count =
    λ told. ap (λ (k : FileKeys). counted_pages (file_opened k (main_of (d.reads p.disk.now)))) codec_is
    ∙ ap (λ (y : _). counted_pages (file_opened c.in-Ok.read (main_of (d.reads y)))) e.disk.1
    ∙ ap (λ (fs : Files). counted_pages (file_opened c.in-Ok.read (main_of fs))) (c.read.ensures.only_read told).stays
    ∙ ap counted_pages (c.in-Ok-read.ensures.opens told)
    ∙ ap (λ (n : ℕ). Some n) (sym e.file.2) in
    let run : IsTrue d.tells → OnlyRead d.reads d.images d.moment d.since old p.disk.now =
    λ told. subst (λ (y : _). OnlyRead d.reads d.images d.moment d.since old y) (sym e.disk.1) (then_read (c.codecs.ensures.only_read told) (c.read.ensures.only_read told)) in
    let w = c.write_changes-disk in
    let end = w.result.0.now in
    let last : c.disk-1.given.0 ≡ end = search rules in
    ok_both w.result.2 (λ changed new told. subst (λ (y : _). HasSessionChanges x file (main_of (d.reads y))) (sym last)
    (done d.reads d.images d.moment d.since g.met.D.Disk.counts_now g.met.D.Disk.only_now d.tells told x old p.disk.now (c.requires.settled told) (c.requires.sound told) c.requires.holds
    c.sizes.ensures listed write_listed p.codec c.in-Ok.write p.count e.some (λ l. codec_is ∙ c.in-Ok.ensures.read told l) (λ l. c.in-Ok.ensures.write told l) (counts told) (run told) g.E.Entropy.tells (g.E.Entropy.drawn p.entropy.now) (g.E.Entropy.drawn w.result.1.now)
    (d.reads end) (d.images end) (g.met.D.Disk.reads_now end) (subst (λ (s : Session). HasWritten (record { base = any_base d.tells p.codec (main_of (d.reads p.disk.now)) p.count; drawn = g.E.Entropy.drawn p.entropy.now }) p.codec c.in-Ok.write s
    (λ n. put_over s n ((opened_pages p.codec (main_of (d.reads p.disk.now)) p.count).page n)) g.E.Entropy.tells (g.E.Entropy.drawn w.result.1.now) (main_of (d.reads end))) c.codecs.ensures.same (changed told)) (new told))) w.ensures.changed w.ensures.new

pub returns-clause-stopped : goal.returns-clause-stopped
returns-clause-stopped g c =
    let d = g.D.Disk in
    let x = c.args.session.now in
    let old = c.args.disk.now in
    let file = main_of (d.reads old) in
    let listed : IsListed x.access.profile = subst IsListed c.in-Ok.ensures.profiles.0 c.in-Ok.ensures.listed.0 in
    let write_listed : IsListed (write_access x).profile = subst IsListed c.in-Ok.ensures.profiles.1 c.in-Ok.ensures.listed.1 in
    let p = c.into_pager-pager.result in
    let e = c.into_pager-pager.ensures in
    let codec_is : p.codec ≡ c.in-Ok.read = e.file.0 ∙ c.in-Ok-read.ensures.codec in
    let counts : IsTrue d.tells → counted_pages (file_opened p.codec (main_of (d.reads p.disk.now))) ≡ Some p.count =
    λ told. ap (λ (k : FileKeys). counted_pages (file_opened k (main_of (d.reads p.disk.now)))) codec_is
    ∙ ap (λ (y : _). counted_pages (file_opened c.in-Ok.read (main_of (d.reads y)))) e.disk.1
    ∙ ap (λ (fs : Files). counted_pages (file_opened c.in-Ok.read (main_of fs))) (c.read.ensures.only_read told).stays
    ∙ ap counted_pages (c.in-Ok-read.ensures.opens told)
    ∙ ap (λ (n : ℕ). Some n) (sym e.file.2) in
    let run : IsTrue d.tells → OnlyRead d.reads d.images d.moment d.since old p.disk.now =
    λ told. subst (λ (y : _). OnlyRead d.reads d.images d.moment d.since old y) (sym e.disk.1) (then_read (c.codecs.ensures.only_read told) (c.read.ensures.only_read told)) in
    let w = c.write_changes-disk in
    let end = w.result.0.now in
    let last : c.disk-1.given.0 ≡ end = search rules in
    err_case _ _ w.result.2 (λ answer is stopped told. change_stops d.reads d.images d.moment d.since old c.disk-1.given.0 answer (stopped told)
    (λ memory. subst (λ (y : _). OnlyRead d.reads d.images d.moment d.since old y) (sym (last ∙ (w.ensures.unwritten (is ∙ ap (λ (a : Answer). Err a) memory) told).0)) (run told))) w.ensures.stopped

pub returns-clause-any_moment : goal.returns-clause-any_moment
returns-clause-any_moment g c = λ told.
    let d = g.D.Disk in
    let x = c.args.session.now in
    let old = c.args.disk.now in
    let file = main_of (d.reads old) in
    let listed : IsListed x.access.profile = subst IsListed c.in-Ok.ensures.profiles.0 c.in-Ok.ensures.listed.0 in
    let write_listed : IsListed (write_access x).profile = subst IsListed c.in-Ok.ensures.profiles.1 c.in-Ok.ensures.listed.1 in
    let p = c.into_pager-pager.result in
    let e = c.into_pager-pager.ensures in
    let codec_is : p.codec ≡ c.in-Ok.read = e.file.0 ∙ c.in-Ok-read.ensures.codec in
    let counts : IsTrue d.tells → counted_pages (file_opened p.codec (main_of (d.reads p.disk.now))) ≡ Some p.count =
    λ told. ap (λ (k : FileKeys). counted_pages (file_opened k (main_of (d.reads p.disk.now)))) codec_is
    ∙ ap (λ (y : _). counted_pages (file_opened c.in-Ok.read (main_of (d.reads y)))) e.disk.1
    ∙ ap (λ (fs : Files). counted_pages (file_opened c.in-Ok.read (main_of fs))) (c.read.ensures.only_read told).stays
    ∙ ap counted_pages (c.in-Ok-read.ensures.opens told)
    ∙ ap (λ (n : ℕ). Some n) (sym e.file.2) in
    let run : IsTrue d.tells → OnlyRead d.reads d.images d.moment d.since old p.disk.now =
    λ told. subst (λ (y : _). OnlyRead d.reads d.images d.moment d.since old y) (sym e.disk.1) (then_read (c.codecs.ensures.only_read told) (c.read.ensures.only_read told)) in
    let w = c.write_changes-disk in
    let end = w.result.0.now in
    let last : c.disk-1.given.0 ≡ end = search rules in
    let bytes : c.entropy-1.given.0 ≡ w.result.1.now = search rules in
    subst (λ (y : _). Commitment d.moment d.since x file (IsTrue g.E.Entropy.tells) (g.E.Entropy.drawn c.args.entropy.now) (g.E.Entropy.drawn c.entropy-1.given.0) old y) (sym last)
    (subst (λ (b : _). Commitment d.moment d.since x file (IsTrue g.E.Entropy.tells) (g.E.Entropy.drawn c.args.entropy.now) (g.E.Entropy.drawn b) old end) (sym bytes)
    (subst (λ (b : _). Commitment d.moment d.since x file (IsTrue g.E.Entropy.tells) (g.E.Entropy.drawn b) (g.E.Entropy.drawn w.result.1.now) old end) e.entropy.1
    (moments d.reads d.images d.moment d.since g.met.D.Disk.counts_now g.met.D.Disk.only_now d.tells told x old p.disk.now (c.requires.settled told) (c.requires.sound told) c.requires.holds
    c.sizes.ensures listed write_listed p.codec c.in-Ok.write p.count e.some (λ l. codec_is ∙ c.in-Ok.ensures.read told l) (λ l. c.in-Ok.ensures.write told l) (counts told) (run told) g.E.Entropy.tells (g.E.Entropy.drawn p.entropy.now) (g.E.Entropy.drawn w.result.1.now)
    end (subst (λ (s : Session). LeavesChanged d.moment d.since (any_base d.tells p.codec (main_of (d.reads p.disk.now)) p.count)
    (λ main. HasWritten (record { base = any_base d.tells p.codec (main_of (d.reads p.disk.now)) p.count; drawn = g.E.Entropy.drawn p.entropy.now }) p.codec c.in-Ok.write s
    (λ n. put_over s n ((opened_pages p.codec (main_of (d.reads p.disk.now)) p.count).page n)) g.E.Entropy.tells (g.E.Entropy.drawn w.result.1.now) main) p.disk.now end) c.codecs.ensures.same (w.ensures.any_moment told)))))

pub returns-in-Err-clause-fresh : goal.returns-in-Err-clause-fresh
returns-in-Err-clause-fresh g c = λ told.
    let d = g.D.Disk in
    read_fresh d.images d.moment d.since g.met.D.Disk.counts_now g.met.D.Disk.only_now (then_read (c.codecs.ensures.only_read told) (c.read.ensures.only_read told))

pub returns-in_default-clause-fresh : goal.returns-in_default-clause-fresh
returns-in_default-clause-fresh g c = λ told.
    let d = g.D.Disk in
    read_fresh d.images d.moment d.since g.met.D.Disk.counts_now g.met.D.Disk.only_now (c.codecs.ensures.only_read told)

pub returns-clause-fresh : goal.returns-clause-fresh
returns-clause-fresh g c = λ told.
    let d = g.D.Disk in
    let old = c.args.disk.now in
    let p = c.into_pager-pager.result in
    let e = c.into_pager-pager.ensures in
    let run : OnlyRead d.reads d.images d.moment d.since old p.disk.now =
    subst (λ (y : _). OnlyRead d.reads d.images d.moment d.since old y) (sym e.disk.1) (then_read (c.codecs.ensures.only_read told) (c.read.ensures.only_read told)) in
    let w = c.write_changes-disk in
    let last : c.disk-1.given.0 ≡ w.result.0.now = search rules in
    subst (λ (y : _). LeavesOnly d.moment d.since old y (From SameFresh (d.images old))) (sym last)
    (then_fresh g.met.D.Disk.counts_now (read_fresh d.images d.moment d.since g.met.D.Disk.counts_now g.met.D.Disk.only_now run) (w.ensures.fresh told))

pub returns-clause-only_old : goal.returns-clause-only_old
returns-clause-only_old g c = λ is told.
    let d = g.D.Disk in
    let x = c.args.session.now in
    let old = c.args.disk.now in
    let file = main_of (d.reads old) in
    let listed : IsListed x.access.profile = subst IsListed c.in-Ok.ensures.profiles.0 c.in-Ok.ensures.listed.0 in
    let write_listed : IsListed (write_access x).profile = subst IsListed c.in-Ok.ensures.profiles.1 c.in-Ok.ensures.listed.1 in
    let p = c.into_pager-pager.result in
    let e = c.into_pager-pager.ensures in
    let codec_is : p.codec ≡ c.in-Ok.read = e.file.0 ∙ c.in-Ok-read.ensures.codec in
    let counts : IsTrue d.tells → counted_pages (file_opened p.codec (main_of (d.reads p.disk.now))) ≡ Some p.count =
    λ told. ap (λ (k : FileKeys). counted_pages (file_opened k (main_of (d.reads p.disk.now)))) codec_is
    ∙ ap (λ (y : _). counted_pages (file_opened c.in-Ok.read (main_of (d.reads y)))) e.disk.1
    ∙ ap (λ (fs : Files). counted_pages (file_opened c.in-Ok.read (main_of fs))) (c.read.ensures.only_read told).stays
    ∙ ap counted_pages (c.in-Ok-read.ensures.opens told)
    ∙ ap (λ (n : ℕ). Some n) (sym e.file.2) in
    let run : IsTrue d.tells → OnlyRead d.reads d.images d.moment d.since old p.disk.now =
    λ told. subst (λ (y : _). OnlyRead d.reads d.images d.moment d.since old y) (sym e.disk.1) (then_read (c.codecs.ensures.only_read told) (c.read.ensures.only_read told)) in
    let w = c.write_changes-disk in
    let end = w.result.0.now in
    let last : c.disk-1.given.0 ≡ end = search rules in
    subst (λ (y : _). LeavesOnly d.moment d.since old y (HoldsOld (base_by x file))) (sym last)
    (all_old d.reads d.images d.moment d.since g.met.D.Disk.counts_now g.met.D.Disk.only_now d.tells told x old p.disk.now (c.requires.settled told) (c.requires.sound told) c.requires.holds
    c.sizes.ensures listed write_listed p.codec c.in-Ok.write p.count e.some (λ l. codec_is ∙ c.in-Ok.ensures.read told l) (λ l. c.in-Ok.ensures.write told l) (counts told) (run told)
    end (w.ensures.only_old is told))

pub returns-clause-drawn : goal.returns-clause-drawn
returns-clause-drawn g c =
    let d = g.D.Disk in
    let x = c.args.session.now in
    let old = c.args.disk.now in
    let file = main_of (d.reads old) in
    let listed : IsListed x.access.profile = subst IsListed c.in-Ok.ensures.profiles.0 c.in-Ok.ensures.listed.0 in
    let write_listed : IsListed (write_access x).profile = subst IsListed c.in-Ok.ensures.profiles.1 c.in-Ok.ensures.listed.1 in
    let p = c.into_pager-pager.result in
    let e = c.into_pager-pager.ensures in
    let codec_is : p.codec ≡ c.in-Ok.read = e.file.0 ∙ c.in-Ok-read.ensures.codec in
    let counts : IsTrue d.tells → counted_pages (file_opened p.codec (main_of (d.reads p.disk.now))) ≡ Some p.count =
    λ told. ap (λ (k : FileKeys). counted_pages (file_opened k (main_of (d.reads p.disk.now)))) codec_is
    ∙ ap (λ (y : _). counted_pages (file_opened c.in-Ok.read (main_of (d.reads y)))) e.disk.1
    ∙ ap (λ (fs : Files). counted_pages (file_opened c.in-Ok.read (main_of fs))) (c.read.ensures.only_read told).stays
    ∙ ap counted_pages (c.in-Ok-read.ensures.opens told)
    ∙ ap (λ (n : ℕ). Some n) (sym e.file.2) in
    let run : IsTrue d.tells → OnlyRead d.reads d.images d.moment d.since old p.disk.now =
    λ told. subst (λ (y : _). OnlyRead d.reads d.images d.moment d.since old y) (sym e.disk.1) (then_read (c.codecs.ensures.only_read told) (c.read.ensures.only_read told)) in
    let w = c.write_changes-disk in
    let end = w.result.0.now in
    let last : c.disk-1.given.0 ≡ end = search rules in
    let bytes : c.entropy-1.given.0 ≡ w.result.1.now = search rules in
    on_ok_weaker w.result.2 (λ changed told draws.
    subst (λ (y : _). HasDrawn x (main_of (d.reads y)) (g.E.Entropy.drawn c.args.entropy.now) (g.E.Entropy.drawn c.entropy-1.given.0)) (sym last)
    (subst (λ (b : _). HasDrawn x (main_of (d.reads end)) (g.E.Entropy.drawn c.args.entropy.now) (g.E.Entropy.drawn b)) (sym bytes)
    (subst (λ (b : _). HasDrawn x (main_of (d.reads end)) (g.E.Entropy.drawn b) (g.E.Entropy.drawn w.result.1.now)) e.entropy.1
    (done_draws d.reads d.images d.moment d.since g.met.D.Disk.counts_now g.met.D.Disk.only_now d.tells told x old p.disk.now (c.requires.settled told) (c.requires.sound told) c.requires.holds
    c.sizes.ensures listed write_listed p.codec c.in-Ok.write p.count e.some (λ l. codec_is ∙ c.in-Ok.ensures.read told l) (λ l. c.in-Ok.ensures.write told l) (counts told) (run told) g.E.Entropy.tells (g.E.Entropy.drawn p.entropy.now) (g.E.Entropy.drawn w.result.1.now)
    (main_of (d.reads end)) (subst (λ (s : Session). HasWritten (record { base = any_base d.tells p.codec (main_of (d.reads p.disk.now)) p.count; drawn = g.E.Entropy.drawn p.entropy.now }) p.codec c.in-Ok.write s
    (λ n. put_over s n ((opened_pages p.codec (main_of (d.reads p.disk.now)) p.count).page n)) g.E.Entropy.tells (g.E.Entropy.drawn w.result.1.now) (main_of (d.reads end))) c.codecs.ensures.same (changed told)) draws)))) w.ensures.changed

pub returns-clause-settled : goal.returns-clause-settled
returns-clause-settled g c =
    let d = g.D.Disk in
    let old = c.args.disk.now in
    let p = c.into_pager-pager.result in
    let e = c.into_pager-pager.ensures in
    let run : IsTrue d.tells → OnlyRead d.reads d.images d.moment d.since old p.disk.now =
    λ told. subst (λ (y : _). OnlyRead d.reads d.images d.moment d.since old y) (sym e.disk.1) (then_read (c.codecs.ensures.only_read told) (c.read.ensures.only_read told)) in
    let w = c.write_changes-disk in
    let end = w.result.0.now in
    let last : c.disk-1.given.0 ≡ end = search rules in
    ok_both w.result.2 (λ settled new told. subst (λ (y : _). IsHallSettled (d.reads y) (d.images y)) (sym last)
    (⊎_elim (λ read. read_settled (then_read (run told) read) (c.requires.settled told))
    (λ each. each_settled (d.reads end) (d.images end) (g.met.D.Disk.reads_now end) each (λ image here. (new told image here).1)) (settled told))) w.ensures.settled w.ensures.new

pub returns-clause-no_memory : goal.returns-clause-no_memory
returns-clause-no_memory g c is told =
    let w = c.write_changes-disk in
    let bytes : c.entropy-1.given.0 ≡ w.result.1.now = search rules in
    bytes ∙ (w.ensures.unwritten is told).1 ∙ c.into_pager-pager.ensures.entropy.1
