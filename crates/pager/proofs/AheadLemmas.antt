-- Pages that were read together.
use Rattle.std.proofs.Common.{◌≡◌, ◌+◌, ◌*◌, ◌-◌, ◌<◌, ◌≤◌, ℕ, true, false, List, ◌++◌, length, take, drop, sym, ap, ◌∙◌, arith, subst}
use Rattle.std.specs.Prelude.{Bool, slice_index, slice_index_or}
use Rattle.std.proofs.Math.Nat.{add-mul, mul-le-mul_right, mul_comm}
use Rattle.std.proofs.lemmas.List.{drop-append-le, drop-drop, drop-take, length-drop, take-append-le, take-take}
use Rattle.page_codec.specs.Page.{FileKeys, stored_page}
use Rattle.page_codec.specs.Pages.{nth_page}
use Rattle.pager.specs.Ahead.{AreReadAhead, AreStored, IsReadAhead}

-- a page of a run that was read is the page of the file
pub page_of_run : (size n count i : ℕ) (new main : List ℕ) → 1 ≤ n → i < count
    → new ≡ take (count * size) (drop ((n - 1) * size) main) → nth_page size new i ≡ stored_page size (n + i) main
page_of_run size n count i new main some less read =
    let start : ℕ = n - 1 in
    let few : (i + 1) * size ≤ count * size = mul-le-mul_right size (omega arith) in
    let next : (i + 1) * size ≡ i * size + 1 * size = add-mul i 1 size in
    let rest : ℕ = count * size - i * size in
    let whole : i * size + rest ≡ count * size = omega (arith, few, next) in
    let within : size ≤ rest = omega (arith, few, next) in
    let at : start * size + i * size ≡ (n + i - 1) * size =
    sym (add-mul start i size) ∙ ap (λ (m : ℕ). m * size) (omega (arith, some)) in
    ap (λ (m : ℕ). take size (drop m new)) (mul_comm size i)
    ∙ ap (λ (l : List ℕ). take size (drop (i * size) l)) read
    ∙ ap (λ (m : ℕ). take size (drop (i * size) (take m (drop (start * size) main)))) (sym whole)
    ∙ ap (take size) (drop-take (i * size) rest (drop (start * size) main))
    ∙ take-take size rest (drop (i * size) (drop (start * size) main)) within
    ∙ ap (take size) (drop-drop (i * size) (start * size) main)
    ∙ ap (λ (m : ℕ). take size (drop m main)) at

-- a page that is there is that of the file
pub page_ahead : (keys : FileKeys) (file numbers : List ℕ) (count : ℕ) (held : List Bool) (pages : List ℕ) (n i size : ℕ) (page : List ℕ)
    → AreReadAhead keys file numbers count held pages → i < count → slice_index_or held i false ≡ true → slice_index numbers i ≡ n
    → size ≡ keys.profile.page_size → page ≡ nth_page size pages i → IsReadAhead keys file n page
page_ahead keys file numbers count held pages n i size page ahead less is there long same =
    let whole : nth_page keys.profile.page_size pages i ≡ page = ap (λ (m : ℕ). nth_page m pages i) (sym long) ∙ sym same in
    subst (λ (m : ℕ). IsReadAhead keys file m page) there
    (subst (λ (l : List ℕ). IsReadAhead keys file (slice_index numbers i) l) whole (ahead i less is))

-- pages of a run that was read in one call are those of the file
pub run_stored : (size : ℕ) (numbers : List ℕ) (n count : ℕ) (new main : List ℕ) → 1 ≤ n
    → ((i : ℕ) → i < count → slice_index numbers i ≡ n + i) → new ≡ take (count * size) (drop ((n - 1) * size) main)
    → AreStored size main numbers count new
run_stored size numbers n count new main some is read i less =
    page_of_run size n count i new main some less read ∙ ap (λ (m : ℕ). stored_page size m main) (sym (is i less))

-- a page that stands in front of other bytes
pub page_in_front : (size i : ℕ) (pages rest : List ℕ) → size * i + size ≤ length pages → nth_page size (pages ++ rest) i ≡ nth_page size pages i
page_in_front size i pages rest within =
    ap (take size) (drop-append-le (size * i) pages rest (omega (arith, within)))
    ∙ take-append-le size (drop (size * i) pages) rest (omega (arith, within, length-drop (size * i) pages))
