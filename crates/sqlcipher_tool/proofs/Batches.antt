-- Pages that are read and checked several at once.
use Rattle.std.proofs.Common.{◌≡◌, ◌+◌, ◌*◌, ◌-◌, ◌<◌, ◌≤◌, ℕ, List, length, take, drop, sym, ap, ◌∙◌, arith}
use Rattle.std.specs.Prelude.{Bool, false, slice_index_or}
use Rattle.std.proofs.Math.Nat.{add-mul, mul-le-mul_right, mul_comm}
use Rattle.std.proofs.lemmas.List.{drop-drop, drop-take, take-take}
use Rattle.page_codec.specs.Page.{FileKeys, accepts, stored_page}
use Rattle.page_codec.specs.Pages.{nth_page}
use Rattle.sqlcipher_tool.specs.Tags.{AreKnown, refused_page, refused_unless}

-- a page of a batch that was read is the page of the file
pub page_of_batch : (size start count n : ℕ) (new main : List ℕ) → start ≤ n → n < start + count
    → new ≡ take (count * size) (drop (start * size) main) → nth_page size new (n - start) ≡ stored_page size (n + 1) main
page_of_batch size start count n new main from to read =
    let place : ℕ = n - start in
    let parts : start + place ≡ n = omega arith in
    let few : (place + 1) * size ≤ count * size = mul-le-mul_right size (omega arith) in
    let next : (place + 1) * size ≡ place * size + 1 * size = add-mul place 1 size in
    let rest : ℕ = count * size - place * size in
    let whole : place * size + rest ≡ count * size = omega (arith, few, next) in
    let within : size ≤ rest = omega (arith, few, next) in
    let at : start * size + place * size ≡ (n + 1 - 1) * size =
    sym (add-mul start place size) ∙ ap (λ (m : ℕ). m * size) (omega (arith, parts)) in
    ap (λ (m : ℕ). take size (drop m new)) (mul_comm size place)
    ∙ ap (λ (l : List ℕ). take size (drop (place * size) l)) read
    ∙ ap (λ (m : ℕ). take size (drop (place * size) (take m (drop (start * size) main)))) (sym whole)
    ∙ ap (take size) (drop-take (place * size) rest (drop (start * size) main))
    ∙ take-take size rest (drop (place * size) (drop (start * size) main)) within
    ∙ ap (take size) (drop-drop (place * size) (start * size) main)
    ∙ ap (λ (m : ℕ). take size (drop m main)) at

-- the batch that was read is known
pub batch_known : (keys : FileKeys) (pages start count : ℕ) (new main : List ℕ) (told : List Bool) → start + count ≤ pages
    → length new ≡ count * keys.profile.page_size → pages * keys.profile.page_size ≤ length main
    → (start * keys.profile.page_size + length new ≤ length main → new ≡ take (length new) (drop (start * keys.profile.page_size) main))
    → ((i : ℕ) → i < count → slice_index_or told i false ≡ accepts keys (start + 1 + i) (nth_page keys.profile.page_size new i))
    → AreKnown keys start (start + count) told main
batch_known keys pages start count new main told few long whole read is n from to =
    let size : ℕ = keys.profile.page_size in
    let within : (start + count) * size ≤ pages * size = mul-le-mul_right size few in
    let split : (start + count) * size ≡ start * size + count * size = add-mul start count size in
    let front : new ≡ take (count * size) (drop (start * size) main) =
    read (omega (arith, within, split, long, whole)) ∙ ap (λ (m : ℕ). take m (drop (start * size) main)) long in
    let number : start + 1 + (n - start) ≡ n + 1 = omega arith in
    is (n - start) (omega arith)
    ∙ (λ t. accepts keys (number t) (page_of_batch size start count n new main from to front t))

-- what is known of a page, as it is printed
pub known_page : (keys : FileKeys) (start end n place : ℕ) (held : List Bool) (main mid : List ℕ) → place ≡ n - start → mid ≡ main → start ≤ n → n < end
    → AreKnown keys start end held mid → refused_unless (slice_index_or held place false) (n + 1) ≡ refused_page keys main (n + 1)
known_page keys start end n place held main mid at stays from to known =
    ap (λ (k : ℕ). refused_unless (slice_index_or held k false) (n + 1)) at
    ∙ ap (λ (holds : Bool). refused_unless holds (n + 1)) (known n from to)
    ∙ ap (λ (l : List ℕ). refused_page keys l (n + 1)) stays
