use Rattle.edge_model.specs.Moments.{started}
use Rattle.atomic_commit.specs.Database.{HoldsOld}
use Rattle.atomic_commit.proofs.Batched.{batches_hold_old}
use Rattle.std.proofs.Common.{◌∙◌, ◌||◌, ◌==◌, ℕ, Bool, true, if◌then◌else◌, replicate, ap, sym}
use Rattle.cipher_profile.specs.Profile.{usable}
use Rattle.page_codec.specs.Page.{FileKeys}
use Rattle.atomic_commit.specs.Marks.{is_marked}
use Rattle.pager.specs.Reads.{untouched_read}
use Rattle.pager.proofs.TxnLemmas.{magic_other}
use Rattle.pager.proofs.UnderWayLemmas.{held_again, held_put, put_same, seen_put, touched_again, touched_put}
use Rattle.pager.proofs.txn.Txn.page_zero.Goals as goal

-- the conditions, by their places: other, sizes, ready, under_way
pub returns-then-n-eq0-clause-any_moment : goal.returns-then-n-eq0-clause-any_moment
returns-then-n-eq0-clause-any_moment g c told = started g.met.D.Disk.only_now c.args.self.now.disk.now (HoldsOld g.start.base) (λ d here. batches_hold_old g.start.base _ _ _ _ _ _ _ (c.requires.1.1.1.1.1 told).batches d here)

pub returns-then-has-clause-any_moment : goal.returns-then-has-clause-any_moment
returns-then-has-clause-any_moment g c told = started g.met.D.Disk.only_now c.args.self.now.disk.now (HoldsOld g.start.base) (λ d here. batches_hold_old g.start.base _ _ _ _ _ _ _ (c.requires.1.1.1.1.1 told).batches d here)

pub invariant_of-self-2-clause-begins : goal.invariant_of-self-2-clause-begins
invariant_of-self-2-clause-begins g c = λ ciphered. magic_other c.args.n _ c.make_room.new.self.changed.held c.add.new.self.held c.requires.1.1.0 c.add.ensures.bytes (c.make_room.new.self.begins ciphered)

pub returns-clause-zeros : goal.returns-clause-zeros
returns-clause-zeros g c told m =
    let mid = c.make_room.new.self in
    seen_put mid.read mid.write _ mid.count mid.written mid.changed.held c.add.new.self.held c.args.n (replicate mid.changed.usable 0) c.add.ensures.bytes m
    ∙ put_same m c.args.n _ _ _ _ (ap (λ (k : ℕ). replicate k 0) (mid.fits.0 ∙ ap (λ (w : FileKeys). usable w.profile) c.make_room.ensures.file.1)) (c.in_ok-make_room.ensures.seen told m)

pub returns-then-has-clause-touched : goal.returns-then-has-clause-touched
returns-then-has-clause-touched g c m num =
    let s = c.args.self.now in
    let held = sym c.has.ensures.value ∙ c.if-has.true in
    ap (λ (b : Bool). b || is_marked m s.written) (held_again s.changed.held c.clear.new.self.held c.args.n _ held c.clear.ensures.bytes m)
    ∙ touched_again s.written s.changed.held c.args.n held m

pub returns-clause-touched : goal.returns-clause-touched
returns-clause-touched g c m num =
    let s = c.args.self.now in
    let mid = c.make_room.new.self in
    touched_put mid.written mid.changed.held c.add.new.self.held c.args.n (held_put mid.changed.held c.add.new.self.held c.args.n _ c.add.ensures.bytes) m
    ∙ ap (λ (b : Bool). if m == c.args.n then true else b) (c.in_ok-make_room.ensures.touched m num)

pub returns-in_err-make_room-clause-unwritten : goal.returns-in_err-make_room-clause-unwritten
returns-in_err-make_room-clause-unwritten g c room =
    let made = c.make_room.ensures.unwritten room in (made.0, made.1, untouched_read made.2, made.3, made.4)

pub returns-clause-unwritten : goal.returns-clause-unwritten
returns-clause-unwritten g c room =
    let made = c.make_room.ensures.unwritten room in (made.0, made.1, untouched_read made.2, made.3, made.4)

pub returns-clause-unrecorded : goal.returns-clause-unrecorded
returns-clause-unrecorded g c none =
    let made = c.in_ok-make_room.ensures.unrecorded none in (made.0, untouched_read made.1)
