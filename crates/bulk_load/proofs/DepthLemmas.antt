-- Pages of short cells.
use Rattle.std.proofs.Common.{◌≡◌, ◌≤◌, ◌<◌, ◌+◌, ◌-◌, ◌*◌, ◌^◌, ℕ, List, [], ◌∷◌, ◌++◌, length, replicate, Result, Ok, Err, OnOk, ap, subst, sym, ◌∙◌, arith, length-append}
use Rattle.std.proofs.Math.Nat.{pow-succ'}
use Rattle.std.proofs.lemmas.List.{length-replicate}
use Rattle.page_build.specs.Draft.{Draft, with_cell}
use Rattle.page_build.specs.Written.{joined_cells, padded}
use Rattle.bulk_load.specs.declared.loader.Loader.{Loader}
use Rattle.bulk_load.specs.Count.{KeepsBack}
use Rattle.bulk_load.specs.Depth.{AreShort, IsShallow, KeepsShort, closed_below}
use Rattle.bulk_load.specs.Volume.{filled}

pub short_more : (usable : ℕ) (cells : List (List ℕ)) (cell : List ℕ) → AreShort usable cells → 3 * (length cell + 2) + 12 ≤ usable → AreShort usable (cells ++ cell ∷ [])
short_more usable [] cell short one = (one, tt)
short_more usable (c ∷ cells) cell short one = (short.0, short_more usable cells cell short.1 one)

-- a pair's cell, without the child on a leaf
pub short_pair : (usable : ℕ) (page new : Draft) (cell : List ℕ) (len skip : ℕ) → AreShort usable page.cells → new ≡ with_cell page cell → length cell ≡ len - skip
    → 4 ≤ len → 3 * (len + 2) + 12 ≤ usable → AreShort usable new.cells
short_pair usable page new cell len skip short is size least one =
    let long : length (padded cell) ≡ length cell + (4 - length cell) =
    length-append cell (replicate (4 - length cell) 0) ∙ ap (λ n. length cell + n) (length-replicate (4 - length cell) 0) in
    subst (λ d. AreShort usable d.cells) (sym is) (short_more usable page.cells (padded cell) short (omega arith))

-- a page of short cells is more than a third full only with two
pub wide_page : (usable : ℕ) (page : Draft) → 12 ≤ usable → AreShort usable page.cells → usable < 3 * filled page + 12 → 2 ≤ length page.cells
wide_page usable page large short full = go page.cells short full
  where
    go : (cells : List (List ℕ)) → AreShort usable cells → usable < 3 * (2 * length cells + length (joined_cells cells)) + 12 → 2 ≤ length cells
    go [] short full = absurd (omega arith)
    go (c ∷ []) short full = let one : 3 * (length c + 2) + 12 ≤ usable = short.0 in absurd (omega arith)
    go (c ∷ (d ∷ cells)) short full = omega arith

pub power_more : (n : ℕ) → 3 ^ (n + 1) ≡ 3 * 3 ^ n
power_more n = ap (λ k. 3 ^ k) (omega arith) ∙ pow-succ' 3 n

-- an answer after which the levels hold no more than was closed since
pub shallow_ok : {A E : Type 0} (r : Result A E) (usable from old new : ℕ) (before after : Loader) → IsShallow usable from old before
    → OnOk r (KeepsBack after) → OnOk r (KeepsShort usable after)
    → OnOk r (closed_below after.levels.items + old ≤ closed_below before.levels.items + new) → OnOk r (IsShallow usable from new after)
shallow_ok (Ok x) usable from old new before after shallow back short deep =
    let held : closed_below before.levels.items + from ≤ old = shallow.closed in
    record { back = back; short = short; closed = omega arith }
shallow_ok (Err e) usable from old new before after shallow back short deep = tt

-- the count rose from a lower number too
pub shallow_since : (usable from less to : ℕ) (loader : Loader) → less ≤ from → IsShallow usable from to loader → IsShallow usable less to loader
shallow_since usable from less to loader le shallow =
    let held : closed_below loader.levels.items + from ≤ to = shallow.closed in
    record { back = shallow.back; short = shallow.short; closed = omega arith }
