-- The bytes that pages were sealed with, among those that were drawn. A page of a profile is sealed with `reserve` bytes.
use Rattle.std.specs.Prelude.{ℕ, ◌≡◌, ◌≢◌, ◌⊎◌, ◌+◌, ◌≤◌, Bool, true, List, length, take, drop}

-- so many of the drawn bytes, from an offset on
abbrev pub drawn_at : ℕ → ℕ → List ℕ → List ℕ
drawn_at reserve at drawn = take reserve (drop at drawn)

-- Each page that was sealed was sealed with bytes that stand together in what was drawn from an offset on, and the ranges of
-- two pages share no byte. `seals n draw` says that the page with this number is as sealed with this draw.
pub record OwnDraws (reserve from : ℕ) (drawn : List ℕ) (sealed : ℕ → Bool) (seals : ℕ → List ℕ → Type 0) : Type 0 where
  pub place : ℕ → ℕ
  pub later : (n : ℕ) → sealed n ≡ true → from ≤ place n
  pub within : (n : ℕ) → sealed n ≡ true → place n + reserve ≤ length drawn
  pub is_sealed : (n : ℕ) → sealed n ≡ true → seals n (drawn_at reserve (place n) drawn)
  pub apart : (m n : ℕ) → m ≢ n → sealed m ≡ true → sealed n ≡ true →
      (place m + reserve ≤ place n) ⊎ (place n + reserve ≤ place m)
