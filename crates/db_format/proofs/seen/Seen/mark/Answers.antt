use Rattle.std.proofs.Common.{◌≡◌, ◌∙◌, ◌+◌, true, false, not, Bool, length, length-set, slice_set, refl, ap, sym}
use Rattle.std.proofs.lemmas.List.{with_items_is}
use Rattle.db_format.specs.Seen.{marked, open_count, bits_from}
use Rattle.db_format.proofs.SeenLemmas.{within, room, has_bit, set_view, marked_set, open_set}
use Rattle.db_format.proofs.seen.Seen.mark.Goals as goal
use Rattle.db_format.proofs.seen.Seen.mark.Goals.{After-self-1}

twice : (b : Bool) → not (not b) ≡ b
twice true = refl
twice false = refl

opened : (b : Bool) → not b ≡ true → b ≡ false
opened true h = cc
opened false h = refl

pub bit-fresh-requires : goal.bit-fresh-requires
bit-fresh-requires c =
    room c.self.inside c.args.self.now c.self.view_is c.args.n c.deref.result.now c.deref.ensures.value
    (within c.self.inside c.args.self.now c.self.view_is c.args.n c.requires) c.self.invariant

pub set_bit-requires : goal.set_bit-requires
set_bit-requires c =
    room c.self.inside c.args.self.now c.self.view_is c.args.n c.deref_mut.result.now c.deref_mut.ensures.value
    (within c.self.inside c.args.self.now c.self.view_is c.args.n c.requires) c.self.invariant

-- the bit before the call is the mark
bit_is : (c : After-self-1) → c.bit-fresh.result ≡ marked c.args.self.now c.args.n
bit_is c =
    c.bit-fresh.ensures
    ∙ has_bit c.self.inside c.args.self.now c.self.view_is c.args.n c.deref.result.now c.deref.ensures.value
    (within c.self.inside c.args.self.now c.self.view_is c.args.n c.requires)

-- the bits after the call are the marks with one set
set_is : (c : After-self-1) → bits_from c.set_bit.new.bytes 0 c.self.inside.size ≡ slice_set c.args.self.now c.args.n true
set_is c =
    set_view c.self.inside c.args.self.now c.self.view_is c.args.n c.deref_mut.result.now c.set_bit.new.bytes c.deref_mut.ensures.value
    (within c.self.inside c.args.self.now c.self.view_is c.args.n c.requires) c.set_bit.ensures.here c.set_bit.ensures.others

-- they stand in the vector
stored : (c : After-self-1) → length c.set_bit.new.bytes ≡ c.self.inside.bytes.len
stored c = c.set_bit.auto.bytes ∙ ap length c.deref_mut.ensures.value ∙ sym c.self.inside.bytes.ok.0

pub returns-clause-fresh : goal.returns-clause-fresh
returns-clause-fresh c = sym (twice c.bit-fresh.result ∙ bit_is c)

pub returns-clause-after : goal.returns-clause-after
returns-clause-after c =
    ap (λ l. marked (bits_from l 0 c.self.inside.size)) (with_items_is c.self.inside.bytes c.set_bit.new.bytes (stored c))
    ∙ ap marked (set_is c) ∙ marked_set c.args.self.now c.args.n c.requires

pub returns-clause-count : goal.returns-clause-count
returns-clause-count c fresh =
    ap (λ l. open_count (bits_from l 0 c.self.inside.size) + 1) (with_items_is c.self.inside.bytes c.set_bit.new.bytes (stored c))
    ∙ ap (λ l. open_count l + 1) (set_is c)
    ∙ open_set c.args.self.now c.args.n c.requires (sym (bit_is c) ∙ opened c.bit-fresh.result fresh)

pub returns-clause-length : goal.returns-clause-length
returns-clause-length c =
    ap (λ l. length (bits_from l 0 c.self.inside.size)) (with_items_is c.self.inside.bytes c.set_bit.new.bytes (stored c))
    ∙ ap length (set_is c) ∙ length-set c.args.self.now c.args.n true
