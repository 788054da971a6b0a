use Rattle.std.proofs.Common.{◌≡◌, ◌∙◌, ◌+◌, ◌++◌, ℕ, suc, List, ap, sym, subst, arith, rules}
use Rattle.db_format.specs.Seen.{marked}
use Rattle.page_codec.specs.Pages.{nth_page}
use Rattle.fresh_file.specs.Added.{AreSame}
use Rattle.fresh_file.specs.Fresh.{fresh_contents, fresh_page}
use Rattle.fresh_file.specs.Held.{held_or, plain_at}
use Rattle.fresh_file.specs.Sealed.{plain_page}
use Rattle.fresh_file.specs.State.{page_as_held}
use Rattle.fresh_file.proofs.FreshLaws.{also_here, mark_others, page_here, taken_next, written_back, written_is}
use Rattle.fresh_file.proofs.HeldLaws.{once_more, page_marks, page_moves, reads_added, reads_others}
use Rattle.fresh_file.proofs.state.FreshState.hold.Goals as goal

pub returns-clause-well : goal.returns-clause-well
returns-clause-well g c start was =
    let s = c.args.self.now in
    let held = s.held in
    let new = c.add.new.self in
    let added = c.add.ensures.added in
    let size : ℕ = s.codec.profile.page_size in
    let draw : List ℕ = c.draw_for.new.draw in
    let drawn : c.deref.result.now ≡ draw = c.deref.ensures.value ∙ written_is s.draw.len draw s.draw.items (search rules) in
    once_more s.codec held.numbers.items held.room.items new.numbers.items new.room.items held.count c.args.n c.args.plain.now draw c.requires.size added.number
    (ap (λ (z : ℕ). nth_page z new.room.items held.count) (sym s.held_size) ∙ added.here ∙ ap (λ (l : List ℕ). c.args.plain.now ++ l) drawn)
    (subst (λ (z : ℕ). AreSame z held.count held.numbers.items held.room.items new.numbers.items new.room.items) s.held_size added.others)
    _ _ _ start _ _ _ _ _ _ c.requires.taken c.mark.ensures.after c.draw_for.ensures.same c.in_ok-draw_for.ensures.own was new.count (added.count ∙ (let e : held.count + 1 ≡ suc held.count = omega arith in e))

pub returns-clause-here : goal.returns-clause-here
returns-clause-here g c =
    let s = c.args.self.now in
    let held = s.held in
    let new = c.add.new.self in
    let added = c.add.ensures.added in
    let n = c.args.n in
    let size : ℕ = s.codec.profile.page_size in
    let after = g.T.Side.fresh c.draw_for.new.side in
    let draw : List ℕ = c.deref.result.now in
    let many : new.count ≡ suc held.count = added.count ∙ (let e : held.count + 1 ≡ suc held.count = omega arith in e) in
    let base = plain_page s.codec n (fresh_contents after) in
    page_here s.codec s.first.items (marked c.mark.new.self) (page_as_held s.codec new) after n (λ low. absurd (omega (arith, low, c.requires.number)))
    (ap (λ t. t n) c.mark.ensures.after ∙ also_here n (marked s.put))
    ∙ ap (λ (h : ℕ). held_or new.numbers.items (plain_at s.codec new.room.items) h n base) many
    ∙ reads_added s.codec held.numbers.items held.room.items new.numbers.items new.room.items held.count n c.args.plain.now draw c.requires.size added.number
    (ap (λ (z : ℕ). nth_page z new.room.items held.count) (sym s.held_size) ∙ added.here)
    (subst (λ (z : ℕ). AreSame z held.count held.numbers.items held.room.items new.numbers.items new.room.items) s.held_size added.others) base

pub returns-clause-others : goal.returns-clause-others
returns-clause-others g c told k apart =
    let s = c.args.self.now in
    let held = s.held in
    let new = c.add.new.self in
    let added = c.add.ensures.added in
    let n = c.args.n in
    let fresh = g.T.Side.fresh c.args.side.now in
    let after = g.T.Side.fresh c.draw_for.new.side in
    let draw : List ℕ = c.deref.result.now in
    let many : new.count ≡ suc held.count = added.count ∙ (let e : held.count + 1 ≡ suc held.count = omega arith in e) in
    let base = plain_page s.codec k (fresh_contents after) in
    page_marks s.codec s.first.items (marked s.put) (marked c.mark.new.self) (page_as_held s.codec new) after k (mark_others (marked s.put) (marked c.mark.new.self) n k c.mark.ensures.after apart)
    ∙ page_moves s.codec s.first.items (marked s.put) (page_as_held s.codec held) (page_as_held s.codec new) fresh after k (λ has.
    ap (λ (h : ℕ). held_or new.numbers.items (plain_at s.codec new.room.items) h k base) many
    ∙ reads_others s.codec held.numbers.items held.room.items new.numbers.items new.room.items held.count n c.args.plain.now draw c.requires.size added.number
    (ap (λ (z : ℕ). nth_page z new.room.items held.count) (sym s.held_size) ∙ added.here)
    (subst (λ (z : ℕ). AreSame z held.count held.numbers.items held.room.items new.numbers.items new.room.items) s.held_size added.others) k apart base
    ∙ ap (λ o. page_as_held s.codec held k (plain_page s.codec k (fresh_contents o))) (c.draw_for.ensures.same told))

pub returns-in_err-draw_for-clause-others : goal.returns-in_err-draw_for-clause-others
returns-in_err-draw_for-clause-others g c told k apart =
    let s = c.args.self.now in
    ap (λ o. fresh_page s.codec s.first.items (marked s.put) (page_as_held s.codec s.held) o k) (c.draw_for.ensures.same told)

pub invariant_of-self-2-clause-put_taken : goal.invariant_of-self-2-clause-put_taken
invariant_of-self-2-clause-put_taken g c = taken_next _ _ c.args.n _ c.mark.ensures.after c.requires.taken c.args.self.now.put_taken

pub invariant_of-self-2-clause-draw_size : goal.invariant_of-self-2-clause-draw_size
invariant_of-self-2-clause-draw_size g c =
    written_back c.args.self.now.draw.len c.draw_for.new.draw c.args.self.now.draw.items (search rules) ∙ search rules
