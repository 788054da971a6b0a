-- A page that is closed.
use Rattle.std.proofs.Common.{◌≡◌, ◌≤◌, ℕ, Bool, true, false, ◌==◌, if◌then◌else◌, refl, ap, arith}
use Rattle.btree_page.specs.Kind.{header_at}

pub not_first : (n : ℕ) → 2 ≤ n → header_at n ≡ 0
not_first n h = first (n == 1) refl
  where
    differs : (n == 1) ≡ true → n ≡ 1
    differs e = grind arith

    first : (b : Bool) → (n == 1) ≡ b → header_at n ≡ 0
    first false is = ap (λ b. if b then 100 else 0) is
    first true is = let one : n ≡ 1 = differs is in absurd (omega arith)
