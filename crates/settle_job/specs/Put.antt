-- A page that is filled anew, and which pages become trunks.
use Rattle.std.specs.Prelude.{◌≡◌, ◌==◌, ◌<◌, ◌-◌, ℕ, true, false, List, ◌++◌, length, replicate}
use Rattle.map_pages.specs.Maps.{map_number}
use Rattle.map_pages.specs.Trunks.{is_new_trunk}

-- a page of so many bytes: these, and zeros behind them
abbrev pub filled : ℕ → List ℕ → List ℕ
filled usable bytes = bytes ++ replicate (usable - length bytes) 0

-- page m becomes none of the trunks among the first so many map pages
abbrev pub IsNoTrunk : ℕ → ℕ → ℕ → Type 0
IsNoTrunk usable maps m = (k : ℕ) → k < maps → is_new_trunk usable k ≡ true → (m == map_number usable k) ≡ false
