use Rattle.std.proofs.Common.{rules, arith, ◌≡◌, ◌∙◌, sym, ap, refl, ℕ, List, [], Some, false, length, replicate, cond, nat_eq}
use Rattle.std.proofs.lemmas.List.{get_or_default, get_or-set_same, length-set}
use Rattle.page_cache.specs.declared.table.Held.{Held}
use Rattle.page_cache.proofs.FreeLast.{all_shown}
use Rattle.page_cache.proofs.CallerLemmas.{not_held}
use Rattle.page_cache.proofs.Effects as effects
use Rattle.page_cache.proofs.cache.Cache.claim.Goals as goal

pub returns-in_default-clause-full : goal.returns-in_default-clause-full
returns-in_default-clause-full c =
    λ _. rw (sym c.self.view_is) (all_shown c.self.inside.store.items c.self.inside.table.entries c.self.invariant.last (sym c.free_frame.ensures.value ∙ c.in_default.is) ∙ c.self.invariant.full)

pub index_mut-requires : goal.index_mut-requires
index_mut-requires c =
    let inside = effects.free_in_store c.self.inside.store.items c.self.inside.table.entries c.in-Some.frame (sym c.free_frame.ensures.value ∙ c.in-Some.is) c.free_frame.ensures.valid.0 c.self.inside.usable c.self.inside.table.cap c.self.inside.index.frames c.self.invariant in search rules

pub make_room-requires-clause-room : goal.make_room-requires-clause-room
make_room-requires-clause-room c =
    (effects.some_frame c.self.inside.store.items c.self.inside.table.entries c.in-Some.frame (sym c.free_frame.ensures.value ∙ c.in-Some.is) c.free_frame.ensures.valid.0, rw c.self.invariant.full c.self.invariant.roomy)

pub invariant_of-self : goal.invariant_of-self
invariant_of-self c =
    let inside = effects.free_in_store c.self.inside.store.items c.self.inside.table.entries c.in-Some.frame (sym c.free_frame.ensures.value ∙ c.in-Some.is) c.free_frame.ensures.valid.0 c.self.inside.usable c.self.inside.table.cap c.self.inside.index.frames c.self.invariant in
    let size = ap length (c.index_mut.ensures.value ∙ get_or_default c.self.inside.store.items c.in-Some.frame c.index_mut.result.now [] inside) ∙ effects.free_size c.self.inside.store.items c.self.inside.table.entries c.in-Some.frame (sym c.free_frame.ensures.value ∙ c.in-Some.is) c.free_frame.ensures.valid.0 c.self.inside.usable c.self.inside.table.cap c.self.inside.index.frames c.self.invariant in
    let cleared : c.clear.new.self ≡ replicate c.self.inside.usable 0 = c.clear.ensures ∙ ap (λ m. replicate m 0) size in
    let entries = effects.on_ok c.put-was.result (c.put-was.ensures.succeeds (effects.free_there c.self.inside.store.items c.self.inside.table.entries c.in-Some.frame (sym c.free_frame.ensures.value ∙ c.in-Some.is) c.free_frame.ensures.valid.0)) c.put-was.ensures.entries in
    let g : Held = record { page = c.args.n; pins = 0; dirty = false } in
    let bs : List ℕ = replicate c.self.inside.usable 0 in
    let asked = not_held c.args.n _ (rw (sym c.self.view_is) at c.requires) in
    rw entries (rw cleared (effects.tied_placed c.self.inside.store.items c.self.inside.table.entries c.in-Some.frame (sym c.free_frame.ensures.value ∙ c.in-Some.is) c.free_frame.ensures.valid.0 c.self.inside.usable c.self.inside.table.cap c.self.inside.index.frames c.self.invariant c.set.new.self.frames c.args.n g bs refl (effects.length_zeros c.self.inside.usable) (effects.absent_back c.self.inside.store.items c.args.n c.self.inside.table.entries asked)
    (λ m. c.set.ensures.named m ∙ ap (λ o. cond (nat_eq c.args.n m) (Some c.in-Some.frame) o) (c.make_room.ensures.names m)) (let first = c.make_room.ensures.room in let second = c.set.ensures.room in omega arith)))

pub returns-clause-placed : goal.returns-clause-placed
returns-clause-placed c =
    let inside = effects.free_in_store c.self.inside.store.items c.self.inside.table.entries c.in-Some.frame (sym c.free_frame.ensures.value ∙ c.in-Some.is) c.free_frame.ensures.valid.0 c.self.inside.usable c.self.inside.table.cap c.self.inside.index.frames c.self.invariant in
    let size = ap length (c.index_mut.ensures.value ∙ get_or_default c.self.inside.store.items c.in-Some.frame c.index_mut.result.now [] inside) ∙ effects.free_size c.self.inside.store.items c.self.inside.table.entries c.in-Some.frame (sym c.free_frame.ensures.value ∙ c.in-Some.is) c.free_frame.ensures.valid.0 c.self.inside.usable c.self.inside.table.cap c.self.inside.index.frames c.self.invariant in
    let cleared : c.clear.new.self ≡ replicate c.self.inside.usable 0 = c.clear.ensures ∙ ap (λ m. replicate m 0) size in
    let entries = effects.on_ok c.put-was.result (c.put-was.ensures.succeeds (effects.free_there c.self.inside.store.items c.self.inside.table.entries c.in-Some.frame (sym c.free_frame.ensures.value ∙ c.in-Some.is) c.free_frame.ensures.valid.0)) c.put-was.ensures.entries in
    let g : Held = record { page = c.args.n; pins = 0; dirty = false } in
    let bs : List ℕ = replicate c.self.inside.usable 0 in
    λ _. rw (sym c.self.view_is) (rw entries (rw cleared (rw (effects.shows_placed c.self.inside.store.items c.self.inside.table.entries c.in-Some.frame (sym c.free_frame.ensures.value ∙ c.in-Some.is) c.free_frame.ensures.valid.0 c.self.inside.usable c.self.inside.table.cap c.self.inside.index.frames c.self.invariant g bs) (rw (get_or-set_same c.self.inside.store.items c.in-Some.frame bs [] inside) (rw (length-set c.self.inside.store.items c.in-Some.frame bs) refl)))))

pub returns-clause-free : goal.returns-clause-free
returns-clause-free c =
    λ _. rw (sym c.self.view_is) (rw (sym c.self.invariant.full) (effects.some_free c.self.inside.store.items c.self.inside.table.entries c.in-Some.frame (sym c.free_frame.ensures.value ∙ c.in-Some.is) c.free_frame.ensures.valid.0))
