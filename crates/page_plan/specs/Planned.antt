-- What a plan makes of the pages.
use Rattle.std.specs.Prelude.{ℕ, Bool, List, if◌then◌else◌}

-- page n behind the plan, out of what it was: the pages that the plan does not write stay
abbrev pub planned : (ℕ → Bool) → (ℕ → List ℕ → List ℕ) → ℕ → List ℕ → List ℕ
planned writes becomes n page = if writes n then becomes n page else page
