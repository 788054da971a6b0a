-- The pages of a made tree, added up.
use Rattle.std.proofs.Common.{◌≡◌, ◌≤◌, ◌+◌, ℕ, zero, suc, [], ◌∷◌, subst, arith}
use Rattle.bulk_load.specs.Few.{load_pages}
use Rattle.bulk_load.proofs.FewLemmas.{load_pages-more}
use Rattle.db_maker.specs.declared.part.Part.{Part}
use Rattle.db_maker.specs.Pages.{part_pages}
use Rattle.db_maker.specs.Parts.{entries_in, entry_in, family_in}
use Rattle.db_maker.proofs.LoadLaws.{entries_more}

pub part_pages-one : (usable : ℕ) (part : Part) (n : ℕ) → 1 ≤ usable → part_pages usable part n ≤ part_pages usable part (n + 1)
part_pages-one usable part n large =
    subst (λ l. part_pages usable part n ≤ load_pages (family_in part) usable l) (entries_more part n) (load_pages-more (family_in part) usable (entries_in part n) (entry_in part (n + 1) ∷ []) large)

-- more rows want no fewer pages
pub part_pages-more : (usable : ℕ) (part : Part) (n more : ℕ) → 1 ≤ usable → part_pages usable part n ≤ part_pages usable part (n + more)
part_pages-more usable part n zero large = subst (λ k. part_pages usable part n ≤ part_pages usable part k) (same n) (least (part_pages usable part n))
  where
    same : (n : ℕ) → n ≡ n + 0
    same n = omega arith

    least : (n : ℕ) → n ≤ n
    least n = omega arith
part_pages-more usable part n (suc more) large =
    let before : part_pages usable part n ≤ part_pages usable part (n + more) = part_pages-more usable part n more large in
    let one : part_pages usable part (n + more) ≤ part_pages usable part (n + more + 1) = part_pages-one usable part (n + more) large in
    let shape : n + more + 1 ≡ n + suc more = omega arith in
    let all : part_pages usable part n ≤ part_pages usable part (n + more + 1) = omega arith in
    subst (λ k. part_pages usable part n ≤ part_pages usable part k) shape all
