-- What the open pages hold, in bytes.
use Rattle.std.proofs.Common.{◌≡◌, ◌≤◌, ◌+◌, ◌-◌, ◌*◌, max, ℕ, suc, List, [], ◌∷◌, ◌++◌, length, replicate, refl, ap, ◌∙◌, arith, length-append}
use Rattle.std.proofs.lemmas.List.{length-replicate}
use Rattle.btree_page.specs.declared.kind.Kind.{Kind}
use Rattle.btree_page.specs.declared.kind.Kind.TheVariants.{IndexInterior, IndexLeaf, TableInterior, TableLeaf}
use Rattle.page_build.specs.Draft.{Draft, with_cell}
use Rattle.page_build.specs.Written.{joined_cells, padded}
use Rattle.page_build.proofs.Append.{content-more}
use Rattle.bulk_load.specs.declared.pair.Pair.{Pair}
use Rattle.bulk_load.specs.declared.level.Level.{Level}
use Rattle.bulk_load.specs.declared.loader.Loader.{Loader}
use Rattle.bulk_load.specs.Count.{LeafIsBack}
use Rattle.bulk_load.specs.Volume.{filled, leaf_volume, level_volume, price, sizes, volume, volumes}

pub price_more : (usable m n : ℕ) → price usable (m + n) ≡ price usable m + price usable n
price_more usable m n = omega arith

max_is : (n : ℕ) → max 4 n ≡ n + (4 - n)
max_is n = grind arith

-- a cell takes its bytes, of which there are four at least, and two for its offset
pub filled_more : (draft : Draft) (cell : List ℕ) → filled (with_cell draft cell) ≡ filled draft + (max 4 (length cell) + 2)
filled_more draft cell =
    let c : List ℕ = padded cell in
    let many : length (draft.cells ++ c ∷ []) ≡ length draft.cells + 1 = length-append draft.cells (c ∷ []) in
    let bytes : length (joined_cells (draft.cells ++ c ∷ [])) ≡ length c + length (joined_cells draft.cells) = ap length (content-more draft.cells c) ∙ length-append c (joined_cells draft.cells) in
    let long : length c ≡ length cell + (4 - length cell) =
    length-append cell (replicate (4 - length cell) 0) ∙ ap (λ n. length cell + n) (length-replicate (4 - length cell) 0) in
    let most : max 4 (length cell) ≡ length cell + (4 - length cell) = max_is (length cell) in
    omega arith

-- the same of a pair's cell, without the child on a leaf
pub filled_pair : (page new : Draft) (cell : List ℕ) (len skip : ℕ) → new ≡ with_cell page cell → length cell ≡ len - skip → 4 ≤ len → filled new ≤ filled page + (len + 2)
filled_pair page new cell len skip is size least =
    let more : filled new ≡ filled page + (max 4 (length cell) + 2) = ap filled is ∙ filled_more page cell in
    let most : max 4 (length cell) ≡ length cell + (4 - length cell) = max_is (length cell) in
    omega arith

pub filled_none : (page : Draft) → length page.cells ≡ 0 → filled page ≡ 0
filled_none page none = go page.cells none
  where
    go : (cells : List (List ℕ)) → length cells ≡ 0 → 2 * length cells + length (joined_cells cells) ≡ 0
    go [] none = refl
    go (c ∷ cells) none = let more : suc (length cells) ≡ 0 = none in absurd (omega arith)

pub sizes_more : (pairs : List Pair) (pair : Pair) → sizes (pairs ++ pair ∷ []) ≡ sizes pairs + (length pair.cell.items + 2)
sizes_more [] pair = omega arith
sizes_more (p ∷ pairs) pair = let rest : sizes (pairs ++ pair ∷ []) ≡ sizes pairs + (length pair.cell.items + 2) = sizes_more pairs pair in omega arith

-- what was added at the end waits
pub sizes_pushed : (before after : List Pair) (pair : Pair) → after ≡ before ++ pair ∷ [] → sizes after ≡ sizes before + (length pair.cell.items + 2)
sizes_pushed before after pair is = ap sizes is ∙ sizes_more before pair

-- more pages cost more
pub price_le : (usable m n : ℕ) → m ≤ n → price usable m ≤ price usable n
price_le usable m n few =
    let split : n ≡ m + (n - m) = omega arith in
    let same : price usable n ≡ price usable m + price usable (n - m) = ap (price usable) split ∙ price_more usable m (n - m) in
    omega arith

-- a page more for the first that waits, then one for each of the rest
pub spent_then : (usable old mid new waiting rest a b c d : ℕ) → waiting ≡ rest + 1 → price usable mid + a ≤ price usable (old + 1) + b
    → price usable new + c ≤ price usable (mid + rest + 1) + (d + a) → price usable new + c ≤ price usable (old + waiting + 1) + (d + b)
spent_then usable old mid new waiting rest a b c d one here later =
    let same : price usable (old + waiting + 1) ≡ price usable (old + 1 + (rest + 1)) = ap (price usable) (omega arith) in
    let first : price usable (old + 1 + (rest + 1)) ≡ price usable (old + 1) + price usable (rest + 1) = price_more usable (old + 1) (rest + 1) in
    let shape : price usable (mid + rest + 1) ≡ price usable (mid + (rest + 1)) = ap (price usable) (omega arith) in
    let then : price usable (mid + (rest + 1)) ≡ price usable mid + price usable (rest + 1) = price_more usable mid (rest + 1) in
    omega arith

pub paid_then : (usable old mid new waiting rest a b c d : ℕ) → waiting ≡ rest + 1 → price usable mid + a ≤ price usable (old + 1) + b
    → price usable new + c ≤ price usable (mid + rest) + (d + a) → price usable new + c ≤ price usable (old + waiting) + (d + b)
paid_then usable old mid new waiting rest a b c d one here later =
    let same : price usable (old + waiting) ≡ price usable (old + 1 + rest) = ap (price usable) (omega arith) in
    let first : price usable (old + 1 + rest) ≡ price usable (old + 1) + price usable rest = price_more usable (old + 1) rest in
    let then : price usable (mid + rest) ≡ price usable mid + price usable rest = price_more usable mid rest in
    omega arith

-- some pages, and then others
pub price_then : (usable old mid new some more all a b : ℕ) → price usable mid + a ≤ price usable (old + some) + b
    → price usable new ≤ price usable (mid + more) + a → some + more ≤ all → price usable new ≤ price usable (old + all) + b
price_then usable old mid new some more all a b here later few =
    let first : price usable (old + some) ≡ price usable old + price usable some = price_more usable old some in
    let second : price usable (mid + more) ≡ price usable mid + price usable more = price_more usable mid more in
    let both : price usable (some + more) ≡ price usable some + price usable more = price_more usable some more in
    let most : price usable (some + more) ≤ price usable all = price_le usable (some + more) all few in
    let whole : price usable (old + all) ≡ price usable old + price usable all = price_more usable old all in
    omega arith

pub volume_table : (loader : Loader) → loader.leaf.page.kind ≡ TableLeaf → volume loader ≡ 3 * filled loader.leaf.page + volumes loader.levels.items
volume_table loader is = ap (λ k. leaf_volume k loader.leaf + volumes loader.levels.items) is

pub volume_index : (loader : Loader) → loader.leaf.page.kind ≡ IndexLeaf → volume loader ≡ level_volume loader.leaf + volumes loader.levels.items
volume_index loader is = ap (λ k. leaf_volume k loader.leaf + volumes loader.levels.items) is

-- what waits is a part of it
pub volume_least : (loader : Loader) → LeafIsBack loader.leaf.page.kind loader.leaf.page loader.leaf.waiting.items
    → 6 * sizes loader.leaf.waiting.items + volumes loader.levels.items ≤ volume loader
volume_least loader back = go loader.leaf.page.kind back
  where
    none : (waiting : List Pair) → length waiting ≡ 0 → sizes waiting ≡ 0
    none [] empty = refl
    none (p ∷ pairs) empty = let more : suc (length pairs) ≡ 0 = empty in absurd (omega arith)

    go : (kind : Kind) → LeafIsBack kind loader.leaf.page loader.leaf.waiting.items
        → 6 * sizes loader.leaf.waiting.items + volumes loader.levels.items ≤ leaf_volume kind loader.leaf + volumes loader.levels.items
    go TableLeaf empty = let zero : sizes loader.leaf.waiting.items ≡ 0 = none loader.leaf.waiting.items empty in omega arith
    go IndexLeaf back = omega arith
    go TableInterior back = absurd back
    go IndexInterior back = absurd back

pub leaf_index : (level : Level) → level.page.kind ≡ IndexLeaf → leaf_volume level.page.kind level ≡ level_volume level
leaf_index level is = ap (λ k. leaf_volume k level) is

-- a row more on the leaf
pub row_volume : (level after : Level) (levels : List Level) (raw : List ℕ) (n : ℕ) → level.page.kind ≡ TableLeaf → after.page ≡ with_cell level.page raw → length raw ≡ n
    → leaf_volume after.page.kind after + volumes levels ≡ leaf_volume level.page.kind level + volumes levels + 3 * (max 4 n + 2)
row_volume level after levels raw n is added long =
    let old : leaf_volume level.page.kind level ≡ 3 * filled level.page = ap (λ k. leaf_volume k level) is in
    let new : leaf_volume after.page.kind after ≡ 3 * filled after.page = ap (λ k. leaf_volume k after) (ap (λ (d : Draft). d.kind) added ∙ is) in
    let more : filled after.page ≡ filled level.page + (max 4 (length raw) + 2) = ap filled added ∙ filled_more level.page raw in
    let same : max 4 (length raw) ≡ max 4 n = ap (max 4) long in
    omega arith
