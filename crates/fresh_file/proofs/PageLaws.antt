-- A page that is written, whole or in part: what stands in the file then.
use Rattle.std.proofs.Common.{IsTrue, ◌≡◌, ◌≢◌, ◌⊎◌, inl, inr, ℕ, suc, zero, ◌+◌, ◌-◌, ◌*◌, ◌<◌, ◌≤◌, List, length, take, drop, sym, ◌∙◌, ap, subst, arith, length-drop}
use Rattle.std.proofs.lemmas.List.{length-take}
use Rattle.std.proofs.Math.Nat.{suc-mul, mul-le-mul_right}
use Rattle.edge_model.specs.Files.{written, Torn}
use Rattle.edge_model.specs.Bytes.{torn_written}
use Rattle.edge_model.proofs.Ranges.{written_here, torn_elsewhere}
use Rattle.page_codec.specs.Page.{FileKeys, accepts, opened, sealed, stored_page}
use Rattle.fresh_file.specs.Sealed.{IsSealedWith, IsSealing, plain_page}

order : (a b : ℕ) → (a < b) ⊎ (b ≤ a)
order a b = search arith

-- a page's end
pub page_end : (size n : ℕ) → 1 ≤ n → (n - 1) * size + size ≡ n * size
page_end size zero one = absurd (omega (arith, one))
page_end size (suc n) one = let e : suc n - 1 ≡ n = omega arith in omega (arith, ap (λ (k : ℕ). k * size) e, suc-mul n size)

page_before : (size p n : ℕ) → 1 ≤ p → p < n → (p - 1) * size + size ≤ (n - 1) * size
page_before size p n one lt = omega (arith, page_end size p one, mul-le-mul_right size (let k : p ≤ n - 1 = omega (arith, lt) in k))

-- two pages share no byte
pages_apart : (size p n : ℕ) → 1 ≤ p → 1 ≤ n → p ≢ n → ((p - 1) * size + size ≤ (n - 1) * size) ⊎ ((n - 1) * size + size ≤ (p - 1) * size)
pages_apart size p n one_p one_n other = go (order p n) (order n p)
  where
    go : (p < n) ⊎ (n ≤ p) → (n < p) ⊎ (p ≤ n) → ((p - 1) * size + size ≤ (n - 1) * size) ⊎ ((n - 1) * size + size ≤ (p - 1) * size)
    go (inl lt) any = inl (page_before size p n one_p lt)
    go (inr le) (inl lt) = inr (page_before size n p one_n lt)
    go (inr le) (inr ge) = absurd (other (let e : p ≡ n = omega (arith, le, ge) in e))

-- a write to page n leaves page p
pub page_stays : (size p n : ℕ) (old new : List ℕ) → 1 ≤ p → 1 ≤ n → p * size ≤ length old → p ≢ n → Torn ((n - 1) * size) size old new
    → stored_page size p new ≡ stored_page size p old
page_stays size p n old new one_p one_n whole other torn =
    torn_elsewhere ((n - 1) * size) size ((p - 1) * size) size old new torn (omega (arith, page_end size p one_p, whole)) (pages_apart size p n one_p one_n other)

pub torn_page : (size n : ℕ) (bytes file : List ℕ) → length bytes ≡ size → Torn ((n - 1) * size) size file (written ((n - 1) * size) bytes file)
torn_page size n bytes file sized = subst (λ (k : ℕ). Torn ((n - 1) * size) k file (written ((n - 1) * size) bytes file)) sized (torn_written ((n - 1) * size) bytes file)

pub page_is : (size n : ℕ) (bytes file : List ℕ) → length bytes ≡ size → stored_page size n (written ((n - 1) * size) bytes file) ≡ bytes
page_is size n bytes file sized = ap (λ (k : ℕ). take k (drop ((n - 1) * size) (written ((n - 1) * size) bytes file))) (sym sized) ∙ written_here ((n - 1) * size) bytes file

whole_range : (at n : ℕ) (file bytes : List ℕ) → take n (drop at file) ≡ bytes → length bytes ≡ n → 0 < n → at + n ≤ length file
whole_range at n file bytes is sized some =
    let e : length (take n (drop at file)) ≡ n = ap (λ (l : List ℕ). length l) is ∙ sized in
    omega (arith, e, length-take n (drop at file), length-drop at file, some)

-- a page that stood sealed still does
pub sealed_stays : (keys : FileKeys) (p n : ℕ) (draw old new : List ℕ) → 1 ≤ n → p ≢ n → Torn ((n - 1) * keys.profile.page_size) keys.profile.page_size old new
    → IsSealedWith keys old p draw → IsSealedWith keys new p draw
sealed_stays keys p n draw old new one other torn was =
    let same = page_stays keys.profile.page_size p n old new was.numbered one was.whole other torn in
    record {
      numbered = was.numbered;
      whole = omega (arith, was.whole, torn.no_shorter);
      size = was.size;
      page = same ∙ was.page ∙ ap (λ (l : List ℕ). sealed keys p (opened keys p l) draw) (sym same);
      accepted = subst (λ (l : List ℕ). IsTrue (accepts keys p l)) (sym same) was.accepted;
    }

module _ (keys : FileKeys) (n : ℕ) (plain draw file : List ℕ) (sealing : IsSealing keys n plain draw) where
  abbrev size : ℕ
  size = keys.profile.page_size

  abbrev new_file : List ℕ
  new_file = written ((n - 1) * size) (sealed keys n plain draw) file

  here : stored_page size n new_file ≡ sealed keys n plain draw
  here = page_is size n (sealed keys n plain draw) file sealing.size

  -- it opens to the plain page
  pub opens_here : plain_page keys n new_file ≡ plain
  opens_here = ap (λ (l : List ℕ). opened keys n l) here ∙ sealing.opens

  -- and stands sealed
  pub sealed_here : IsSealedWith keys new_file n draw
  sealed_here = record {
    numbered = sealing.numbered;
    whole = omega (arith, page_end size n sealing.numbered, whole_range ((n - 1) * size) size new_file (sealed keys n plain draw) here sealing.size sealing.some);
    size = sealing.drawn;
    page = here ∙ ap (λ (l : List ℕ). sealed keys n l draw) (sym opens_here);
    accepted = subst (λ (l : List ℕ). IsTrue (accepts keys n l)) (sym here) sealing.accepted;
  }
