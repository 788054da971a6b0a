use Rattle.std.proofs.Common.{◌≡◌, ℕ, ap, arith}
use Rattle.db_format.specs.Source.{pin_count}
use Rattle.tree_tests.proofs.source.pages_in_memory_are_lent_and_pinned.Goals as goal

pub pinned_byte-requires : goal.pinned_byte-requires
pinned_byte-requires g c =
    let none : pin_count c.in-Ok.source.pins.items 2 ≡ 0 = ap (λ (pins : ℕ → ℕ). pins 2) c.in-Ok.ensures.unpinned in
    omega (arith, none)
