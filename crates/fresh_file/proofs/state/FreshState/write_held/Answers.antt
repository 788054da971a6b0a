use Rattle.std.proofs.Common.{◌≡◌, ◌∙◌, ◌+◌, ℕ, List, Option, refl, sym, subst}
use Rattle.db_format.specs.Seen.{marked}
use Rattle.fresh_file.specs.Fresh.{IsWell, fresh_contents}
use Rattle.fresh_file.specs.Held.{held_or, plain_at, settled}
use Rattle.fresh_file.specs.Sealed.{plain_page}
use Rattle.fresh_file.specs.State.{page_as_held}
use Rattle.fresh_file.proofs.HeldLaws.{cut_as, done_as, once_written, page_moves, reads_settled, reads_torn, sealings}
use Rattle.fresh_file.proofs.state.FreshState.write_held.Goals as goal

pub returns-clause-well : goal.returns-clause-well
returns-clause-well g c start was =
    let side = g.T.Side in
    let s = c.args.self.now in
    let held = s.held in
    let new = c.seal.new.self in
    let fresh = side.fresh c.args.side.now in
    let sealing = sealings s.codec held.numbers.items held.room.items new.stored.items held.count c.seal.ensures.sealed in
    let done : side.fresh c.write.new.side ≡ settled s.codec held.numbers.items held.room.items held.count fresh =
    c.in_ok-write.ensures.done was.told
    ∙ done_as s.codec held.numbers.items held.room.items new.stored.items new.numbers.items held.count new.count new.size (c.seal.ensures.same.0 ∙ s.held_size) c.seal.ensures.held.0 c.seal.ensures.same.1
    c.seal.ensures.sealed fresh in
    subst (λ (o : Option (List ℕ)). IsWell s.codec (marked s.put) (s.taken + 1) start side.tells side.draws_tell o (side.drawn c.write.new.side)) (sym done)
    (subst (λ (l : List ℕ). IsWell s.codec (marked s.put) (s.taken + 1) start side.tells side.draws_tell (settled s.codec held.numbers.items held.room.items held.count fresh) l) (sym c.write.ensures.drawn)
    (was.well sealing))

pub returns-clause-none_held : goal.returns-clause-none_held
returns-clause-none_held g c start was = once_written _ _ _ _ _ _ _ _ _ _ _ refl (returns-clause-well g c start was)

pub returns-clause-pages : goal.returns-clause-pages
returns-clause-pages g c start was k =
    let side = g.T.Side in
    let s = c.args.self.now in
    let held = s.held in
    let new = c.seal.new.self in
    let fresh = side.fresh c.args.side.now in
    let after = side.fresh c.write.new.side in
    let sealing = sealings s.codec held.numbers.items held.room.items new.stored.items held.count c.seal.ensures.sealed in
    let done : after ≡ settled s.codec held.numbers.items held.room.items held.count fresh =
    c.in_ok-write.ensures.done was.told
    ∙ done_as s.codec held.numbers.items held.room.items new.stored.items new.numbers.items held.count new.count new.size (c.seal.ensures.same.0 ∙ s.held_size) c.seal.ensures.held.0 c.seal.ensures.same.1
    c.seal.ensures.sealed fresh in
    page_moves s.codec s.first.items (marked s.put) (page_as_held s.codec held) (λ n other. other) fresh after k
    (λ has. reads_settled s.codec held.numbers.items held.room.items held.count sealing fresh after was.file was.is k (λ none. was.whole k has none) done)

pub returns-in_err-write-clause-pages : goal.returns-in_err-write-clause-pages
returns-in_err-write-clause-pages g c start was k =
    let side = g.T.Side in
    let s = c.args.self.now in
    let held = s.held in
    let new = c.seal.new.self in
    let fresh = side.fresh c.args.side.now in
    let after = side.fresh c.write.new.side in
    let sealing = sealings s.codec held.numbers.items held.room.items new.stored.items held.count c.seal.ensures.sealed in
    let cut =
    cut_as s.codec held.numbers.items held.room.items new.stored.items new.numbers.items held.count new.count new.size (c.seal.ensures.same.0 ∙ s.held_size) c.seal.ensures.held.0 c.seal.ensures.same.1
    c.seal.ensures.sealed fresh after (c.in_err-write.ensures.torn was.told) in
    page_moves s.codec s.first.items (marked s.put) (page_as_held s.codec held) (page_as_held s.codec new) fresh after k
    (λ has. (λ i. held_or (c.seal.ensures.held.0 i) (plain_at s.codec (c.seal.ensures.held.1 i)) (c.seal.ensures.same.1 i) k (plain_page s.codec k (fresh_contents after)))
    ∙ reads_torn s.codec held.numbers.items held.room.items held.count sealing fresh after was.file was.is k (λ none. was.whole k has none) cut.at cut.within cut.torn)
