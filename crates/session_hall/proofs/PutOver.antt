-- What a session puts over a page.
use Rattle.std.proofs.Common.{◌≡◌, ℕ, ◌+◌, ◌≤◌, List, [], ◌++◌, length, take, drop, ap, ◌∙◌, arith, append-nil, length-append, length-take, length-drop}
use Rattle.std.proofs.lemmas.List.{drop_all, take-append-drop}
use Rattle.pager.specs.Changed.{with_bytes}

-- the changed part over a page that begins alike and is no longer is the changed page
pub put_back_is : (at : ℕ) (new old : List ℕ) → at ≤ length new → take at old ≡ take at new → length (with_bytes at (drop at new) old) ≡ length new
    → with_bytes at (drop at new) old ≡ new
put_back_is at new old within begins sized =
    ap (λ (l : List ℕ). take at old ++ (drop at new ++ l)) none ∙ ap (λ (l : List ℕ). take at old ++ l) (append-nil (drop at new))
    ∙ ap (λ (l : List ℕ). l ++ drop at new) begins ∙ take-append-drop at new
  where
    rest : ℕ
    rest = at + length (drop at new)

    small : length old ≤ rest
    small = omega (
      arith,
      within,
      sized,
      length-append (take at old) (drop at new ++ drop rest old),
      length-append (drop at new) (drop rest old),
      length-take at old,
      length-drop at new,
      length-drop rest old,
    )

    none : drop rest old ≡ []
    none = drop_all rest old small
