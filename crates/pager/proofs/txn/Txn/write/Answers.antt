use Rattle.edge_model.specs.Moments.{started}
use Rattle.atomic_commit.specs.Database.{HoldsOld}
use Rattle.atomic_commit.proofs.Batched.{batches_hold_old}
use Rattle.std.proofs.Common.{◌∙◌, ◌||◌, ℕ, Bool, List, ap, refl, sym}
use Rattle.pager.specs.Changed.{with_bytes}
use Rattle.atomic_commit.specs.Marks.{is_marked}
use Rattle.edge_model.specs.Files.{main_of}
use Rattle.pager.proofs.TxnLemmas.{magic_put}
use Rattle.pager.proofs.UnderWayLemmas.{held_again, put_same, seen_held, seen_put, touched_again}
use Rattle.pager.proofs.txn.Txn.write.Goals as goal

-- the conditions, by their places: within, first, sizes, ready, under_way
pub returns-then-n-eq0-clause-any_moment : goal.returns-then-n-eq0-clause-any_moment
returns-then-n-eq0-clause-any_moment g c told = started g.met.D.Disk.only_now c.args.self.now.disk.now (HoldsOld g.start.base) (λ d here. batches_hold_old g.start.base _ _ _ _ _ _ _ (c.requires.1.1.1.1.1.1 told).batches d here)

pub returns-then-has-clause-any_moment : goal.returns-then-has-clause-any_moment
returns-then-has-clause-any_moment g c told = started g.met.D.Disk.only_now c.args.self.now.disk.now (HoldsOld g.start.base) (λ d here. batches_hold_old g.start.base _ _ _ _ _ _ _ (c.requires.1.1.1.1.1.1 told).batches d here)

pub invariant_of-self-clause-begins : goal.invariant_of-self-clause-begins
invariant_of-self-clause-begins g c = λ ciphered. magic_put c.args.n c.args.at c.args.bytes.now c.args.self.now.changed.held c.put.new.self.held c.requires.1.1.1.0 (sym c.has.ensures.value ∙ c.if-has.true) c.put.ensures.bytes (c.args.self.now.begins ciphered)

pub returns-then-has-clause-changed : goal.returns-then-has-clause-changed
returns-then-has-clause-changed g c told m =
    let s = c.args.self.now in
    let held = sym c.has.ensures.value ∙ c.if-has.true in
    seen_put s.read s.write _ s.count s.written s.changed.held c.put.new.self.held c.args.n _ c.put.ensures.bytes m
    ∙ put_same m c.args.n _ _ _ _ (ap (λ (l : List ℕ). with_bytes c.args.at c.args.bytes.now l) (seen_held s.read s.write (main_of (g.D.Disk.reads s.disk.now)) s.count s.written s.changed.held c.args.n held)) refl

pub invariant_of-self-2-clause-begins : goal.invariant_of-self-2-clause-begins
invariant_of-self-2-clause-begins g c = λ ciphered. magic_put c.args.n c.args.at c.args.bytes.now c.take_in.new.self.changed.held c.put-2.new.self.held c.requires.1.1.1.0 c.in_ok-take_in.ensures.held c.put-2.ensures.bytes (c.take_in.new.self.begins ciphered)

pub returns-clause-changed : goal.returns-clause-changed
returns-clause-changed g c told m =
    let mid = c.take_in.new.self in
    seen_put mid.read mid.write _ mid.count mid.written mid.changed.held c.put-2.new.self.held c.args.n _ c.put-2.ensures.bytes m
    ∙ put_same m c.args.n _ _ _ _ (ap (λ (l : List ℕ). with_bytes c.args.at c.args.bytes.now l)
    (seen_held mid.read mid.write (main_of (g.D.Disk.reads mid.disk.now)) mid.count mid.written mid.changed.held c.args.n c.in_ok-take_in.ensures.held ∙ c.in_ok-take_in.ensures.seen told c.args.n)) (c.in_ok-take_in.ensures.seen told m)

pub returns-then-has-clause-touched : goal.returns-then-has-clause-touched
returns-then-has-clause-touched g c m num =
    let s = c.args.self.now in
    let held = sym c.has.ensures.value ∙ c.if-has.true in
    ap (λ (b : Bool). b || is_marked m s.written) (held_again s.changed.held c.put.new.self.held c.args.n _ held c.put.ensures.bytes m)
    ∙ touched_again s.written s.changed.held c.args.n held m

pub returns-clause-touched : goal.returns-clause-touched
returns-clause-touched g c m num =
    let mid = c.take_in.new.self in
    ap (λ (b : Bool). b || is_marked m mid.written) (held_again mid.changed.held c.put-2.new.self.held c.args.n _ c.in_ok-take_in.ensures.held c.put-2.ensures.bytes m)
    ∙ c.in_ok-take_in.ensures.touched m num
