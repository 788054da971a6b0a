use Rattle.std.proofs.Common.{◌≡◌, ◌==◌, ◌<◌, ◌∙◌, ℕ, Bool, true, false, List, if◌then◌else◌, length, take, ap, sym, subst, refl}
use Rattle.edge_model.specs.Files.{Files, main_of}
use Rattle.cipher_profile.specs.declared.profile.Profile.{Profile}
use Rattle.cipher_profile.specs.Profile.{IsListed, is_plain}
use Rattle.cipher_profile.proofs.Layouts.{IsListed-laid_out}
use Rattle.page_codec.specs.Page.{FileKeys}
use Rattle.pager.proofs.TxnLemmas.{ciphered_alike}
use Rattle.pager.specs.Changed.{Changed}
use Rattle.pager.specs.Pages.{is_page_number}
use Rattle.pager.specs.Reads.{disk_then_read, then_untouched, untouched_read}
use Rattle.pager.specs.UnderWay.{is_touched, seen_pages}
use Rattle.edge_model.specs.Images.{From, LeavesOnly}
use Rattle.edge_model.specs.Moments.{started, started_from, goes_less, and_then, then_from}
use Rattle.atomic_commit.specs.Database.{HoldsOld}
use Rattle.atomic_commit.specs.Facts.{SameFresh}
use Rattle.atomic_commit.specs.Marks.{marked_count}
use Rattle.atomic_commit.proofs.Batched.{batches_hold_old}
use Rattle.pager.proofs.BatchLemmas.{number_is}
use Rattle.pager.proofs.UnderWayLemmas.{put_same, same_at, seen_as, seen_begins, seen_put, touched_put}
use Rattle.pager.proofs.txn.Txn.take_in.Goals as goal

-- the conditions, by their places: number, free, sizes, ready, under_way
pub returns-in_err-read_in-clause-any_moment : goal.returns-in_err-read_in-clause-any_moment
returns-in_err-read_in-clause-any_moment g c told =
    let only = c.read_in.ensures.disk.only_read told in
    let read = goes_less g.met.D.Disk.counts_now (started g.met.D.Disk.only_now c.args.self.now.disk.now (HoldsOld g.start.base) (λ d here. batches_hold_old g.start.base _ _ _ _ _ _ _ (c.requires.1.1.1.1.1.1 told).batches d here)) only.time only.same_images.no_more in
    read

pub returns-in_err-make_room-clause-any_moment : goal.returns-in_err-make_room-clause-any_moment
returns-in_err-make_room-clause-any_moment g c told =
    let only = c.read_in.ensures.disk.only_read told in
    let read = goes_less g.met.D.Disk.counts_now (started g.met.D.Disk.only_now c.args.self.now.disk.now (HoldsOld g.start.base) (λ d here. batches_hold_old g.start.base _ _ _ _ _ _ _ (c.requires.1.1.1.1.1.1 told).batches d here)) only.time only.same_images.no_more in
    and_then read (c.make_room.ensures.any_moment told)

pub returns-clause-any_moment : goal.returns-clause-any_moment
returns-clause-any_moment g c told =
    let only = c.read_in.ensures.disk.only_read told in
    let read = goes_less g.met.D.Disk.counts_now (started g.met.D.Disk.only_now c.args.self.now.disk.now (HoldsOld g.start.base) (λ d here. batches_hold_old g.start.base _ _ _ _ _ _ _ (c.requires.1.1.1.1.1.1 told).batches d here)) only.time only.same_images.no_more in
    subst (λ (d : g.row.D.Denot). LeavesOnly g.D.Disk.moment g.D.Disk.since c.args.self.now.disk.now d (HoldsOld g.start.base)) (sym c.place.ensures.disk.value) (and_then read (c.make_room.ensures.any_moment told))

pub returns-in_err-read_in-clause-fresh : goal.returns-in_err-read_in-clause-fresh
returns-in_err-read_in-clause-fresh g c told =
    let only = c.read_in.ensures.disk.only_read told in
    goes_less g.met.D.Disk.counts_now (started_from g.met.D.Disk.only_now c.args.self.now.disk.now SameFresh (λ d. refl)) only.time only.same_images.no_more

pub returns-in_err-make_room-clause-fresh : goal.returns-in_err-make_room-clause-fresh
returns-in_err-make_room-clause-fresh g c told =
    let only = c.read_in.ensures.disk.only_read told in
    let read = goes_less g.met.D.Disk.counts_now (started_from g.met.D.Disk.only_now c.args.self.now.disk.now SameFresh (λ d. refl)) only.time only.same_images.no_more in
    then_from g.met.D.Disk.counts_now (λ a b d ab bd. bd ∙ ab) read (c.make_room.ensures.fresh told)

pub returns-clause-fresh : goal.returns-clause-fresh
returns-clause-fresh g c told =
    let only = c.read_in.ensures.disk.only_read told in
    let read = goes_less g.met.D.Disk.counts_now (started_from g.met.D.Disk.only_now c.args.self.now.disk.now SameFresh (λ d. refl)) only.time only.same_images.no_more in
    subst (λ (d : g.row.D.Denot). LeavesOnly g.D.Disk.moment g.D.Disk.since c.args.self.now.disk.now d (From SameFresh (g.D.Disk.images c.args.self.now.disk.now))) (sym c.place.ensures.disk.value)
    (then_from g.met.D.Disk.counts_now (λ a b d ab bd. bd ∙ ab) read (c.make_room.ensures.fresh told))

pub returns-clause-seen : goal.returns-clause-seen
returns-clause-seen g c told m =
    let r = c.requires.1.1 in
    let s = c.args.self.now in
    let q = c.read_in.new.self in
    let mid = c.make_room.new.self in
    let n = c.args.n in
    let page = c.in_ok-make_room.ensures.plain ∙ c.in_ok-read_in.ensures.told told in
    let listed_read = subst (λ (p : Profile). IsListed p) c.profile-read.ensures.value c.profile-read.ensures.listed in
    let listed_write = subst (λ (p : Profile). IsListed p) c.profile-write.ensures.value c.profile-write.ensures.listed in
    let encrypted = ciphered_alike s.read.profile s.write.profile listed_read listed_write s.layout.0 s.layout.1 in
    let written : mid.write ≡ s.write = c.make_room.ensures.file.1 ∙ c.read_in.ensures.file.1 in
    let bytes = c.place.ensures.bytes (λ is ciphered. ap (λ (l : List ℕ). take 16 l) page ∙ seen_begins s.read s.write _ s.count n s.written s.changed.held
    (IsListed-laid_out s.read.profile listed_read) (IsListed-laid_out s.write.profile listed_write)
    (encrypted (subst (λ (k : FileKeys). is_plain k.profile ≡ false) written ciphered)) (subst (λ (k : FileKeys). is_plain k.profile ≡ false) written ciphered) is (number_is s.count n r.0.0 r.0.1) r.1.0) in
    let p = c.place.new.self in
    let file : main_of (g.D.Disk.reads p.disk.now) ≡ main_of (g.D.Disk.reads mid.disk.now) = ap (λ (d : g.row.D.Denot). main_of (g.D.Disk.reads d)) c.place.ensures.disk.value in
    seen_put p.read p.write (main_of (g.D.Disk.reads p.disk.now)) p.count p.written mid.changed.held p.changed.held n mid.plain.items bytes m
    ∙ put_same m n mid.plain.items _ _ _ page
    (seen_as mid.read p.read mid.write p.write (main_of (g.D.Disk.reads mid.disk.now)) (main_of (g.D.Disk.reads p.disk.now)) mid.count p.count mid.written p.written mid.changed.held m
    c.place.ensures.file.0 c.place.ensures.file.1 file c.place.ensures.file.2 c.place.ensures.kept.3
    ∙ c.in_ok-make_room.ensures.seen told m
    ∙ seen_as s.read q.read s.write q.write (main_of (g.D.Disk.reads s.disk.now)) (main_of (g.D.Disk.reads q.disk.now)) s.count q.count s.written q.written q.changed.held m
    c.read_in.ensures.file.0 c.read_in.ensures.file.1 (ap (λ (f : Files). main_of f) (c.read_in.ensures.disk.only_read told).stays) c.read_in.ensures.file.2 c.read_in.ensures.kept.3
    ∙ ap (λ (v : Changed). (seen_pages s.read s.write (main_of (g.D.Disk.reads s.disk.now)) s.count s.written v.held).page m) c.read_in.ensures.kept.0)
    ∙ same_at (λ (k : ℕ). (seen_pages s.read s.write (main_of (g.D.Disk.reads s.disk.now)) s.count s.written s.changed.held).page k) m n

pub returns-clause-touched : goal.returns-clause-touched
returns-clause-touched g c m num =
    let s = c.args.self.now in
    let q = c.read_in.new.self in
    let mid = c.make_room.new.self in
    let p = c.place.new.self in
    let was : is_touched q.written q.changed.held m ≡ is_touched s.written s.changed.held m =
    ap (λ (ms : List Bool). is_touched ms q.changed.held m) c.read_in.ensures.kept.3 ∙ ap (λ (v : Changed). is_touched s.written v.held m) c.read_in.ensures.kept.0 in
    let made = c.in_ok-make_room.ensures.touched m (subst (λ (k : ℕ). is_page_number k m ≡ true) (sym c.read_in.ensures.file.2) num) in
    ap (λ (ms : List Bool). is_touched ms p.changed.held m) c.place.ensures.kept.3
    ∙ touched_put mid.written mid.changed.held p.changed.held c.args.n c.place.ensures.listed m
    ∙ ap (λ (b : Bool). if m == c.args.n then true else b) (made ∙ was)

pub returns-in_err-make_room-clause-unwritten : goal.returns-in_err-make_room-clause-unwritten
returns-in_err-make_room-clause-unwritten g c room =
    let free = subst (λ (v : Changed). length v.numbers < v.frames) (sym c.read_in.ensures.kept.0) room in
    let made = c.make_room.ensures.unwritten free in (
      made.0 ∙ c.read_in.ensures.kept.1,
      made.1 ∙ c.read_in.ensures.kept.2,
      disk_then_read c.read_in.ensures.disk (untouched_read made.2),
      then_untouched c.read_in.ensures.entropy made.3,
      made.4 ∙ c.read_in.ensures.kept.3,
    )

pub returns-clause-unwritten : goal.returns-clause-unwritten
returns-clause-unwritten g c room =
    let free = subst (λ (v : Changed). length v.numbers < v.frames) (sym c.read_in.ensures.kept.0) room in
    let made = c.make_room.ensures.unwritten free in (
      c.place.ensures.kept.0 ∙ made.0 ∙ c.read_in.ensures.kept.1,
      c.place.ensures.kept.1 ∙ made.1 ∙ c.read_in.ensures.kept.2,
      disk_then_read c.read_in.ensures.disk (untouched_read (then_untouched made.2 c.place.ensures.disk)),
      then_untouched c.read_in.ensures.entropy (then_untouched made.3 c.place.ensures.entropy),
      c.place.ensures.kept.3 ∙ made.4 ∙ c.read_in.ensures.kept.3,
    )

pub returns-clause-unrecorded : goal.returns-clause-unrecorded
returns-clause-unrecorded g c none =
    let made = c.in_ok-make_room.ensures.unrecorded (ap marked_count (sym c.place.ensures.kept.0) ∙ none) in (
      c.place.ensures.kept.0 ∙ made.0 ∙ c.read_in.ensures.kept.1,
      disk_then_read c.read_in.ensures.disk (untouched_read (then_untouched made.1 c.place.ensures.disk)),
    )
