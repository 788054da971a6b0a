use Rattle.std.proofs.Common.{Some, rules, ◌∙◌, sym, ap, refl, [], length}
use Rattle.std.proofs.lemmas.List.{get_or_default, length-set}
use Rattle.page_cache.specs.Lending.{laid_over}
use Rattle.page_cache.specs.Cache.{written_over}
use Rattle.page_cache.proofs.Effects as effects
use Rattle.page_cache.proofs.cache.Cache.at_mut.Goals as goal

pub unwrap-frame-requires : goal.unwrap-frame-requires
unwrap-frame-requires c =
    let held = rw (sym c.self.view_is) at c.requires in
    let x = effects.found_of c.self.inside.store.items c.self.inside.table.entries c.args.n held in
    rw c.frame_of.ensures.value (effects.frame_there c.args.n c.self.inside.table.entries x.0 x.1)

pub index_mut-requires : goal.index_mut-requires
index_mut-requires c =
    let x = effects.at_frame c.args.n c.unwrap-frame.result c.self.inside.table.entries (sym c.frame_of.ensures.value ∙ c.unwrap-frame.ensures) in
    let inside = effects.in_store c.self.inside.store.items c.self.inside.table.entries c.args.n c.unwrap-frame.result x.0 x.1 c.self.inside.usable c.self.inside.index.frames c.self.invariant c.frame_of.ensures.valid.0 in
    search rules

pub returns : goal.returns
returns c =
    let x = effects.at_frame c.args.n c.unwrap-frame.result c.self.inside.table.entries (sym c.frame_of.ensures.value ∙ c.unwrap-frame.ensures) in
    let inside = effects.in_store c.self.inside.store.items c.self.inside.table.entries c.args.n c.unwrap-frame.result x.0 x.1 c.self.inside.usable c.self.inside.index.frames c.self.invariant c.frame_of.ensures.valid.0 in
    let now = c.index_mut.ensures.value ∙ get_or_default c.self.inside.store.items c.unwrap-frame.result c.index_mut.result.now [] inside in (
      (refl, λ w. rw (sym c.self.view_is) (rw (effects.shows_written c.self.inside.store.items c.self.inside.table.entries c.args.n c.unwrap-frame.result x.0 x.1 c.self.inside.usable c.self.inside.index.frames c.self.invariant c.frame_of.ensures.valid.0 (laid_over c.index_mut.result.now w) (written_over w) (effects.written_same c.self.inside.store.items c.unwrap-frame.result x.0 c.index_mut.result.now w now inside)) (rw (length-set c.self.inside.store.items c.unwrap-frame.result (laid_over c.index_mut.result.now w)) refl))),
      record {
        writes_back = tt;
        value = rw (sym c.self.view_is) (rw (effects.page_held c.self.inside.store.items c.self.inside.table.entries c.args.n c.unwrap-frame.result x.0 x.1) (ap Some (sym (c.bytes_mut.ensures.value ∙ now))));
        size = rw (sym c.self.view_is) (ap length (c.bytes_mut.ensures.value ∙ now) ∙ effects.right_size c.self.inside.store.items c.self.inside.table.entries c.args.n c.unwrap-frame.result x.0 x.1 c.self.inside.usable c.self.inside.index.frames c.self.invariant c.frame_of.ensures.valid.0);
      },
    )

pub invariant_of-self-lent : goal.invariant_of-self-lent
invariant_of-self-lent c w =
    let x = effects.at_frame c.args.n c.unwrap-frame.result c.self.inside.table.entries (sym c.frame_of.ensures.value ∙ c.unwrap-frame.ensures) in
    let inside = effects.in_store c.self.inside.store.items c.self.inside.table.entries c.args.n c.unwrap-frame.result x.0 x.1 c.self.inside.usable c.self.inside.index.frames c.self.invariant c.frame_of.ensures.valid.0 in
    let now = c.index_mut.ensures.value ∙ get_or_default c.self.inside.store.items c.unwrap-frame.result c.index_mut.result.now [] inside in
    effects.tied_written c.self.inside.store.items c.self.inside.table.entries c.args.n c.unwrap-frame.result x.0 x.1 c.self.inside.usable c.self.inside.index.frames c.self.invariant c.frame_of.ensures.valid.0 (laid_over c.index_mut.result.now w) (effects.length_laid_over c.index_mut.result.now w ∙ (ap length now ∙ effects.right_size c.self.inside.store.items c.self.inside.table.entries c.args.n c.unwrap-frame.result x.0 x.1 c.self.inside.usable c.self.inside.index.frames c.self.invariant c.frame_of.ensures.valid.0))
