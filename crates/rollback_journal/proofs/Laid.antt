-- What is laid over a file again gives the same file.
use Rattle.std.proofs.Common.{◌≡◌, ◌⊎◌, inl, inr, ⊎_elim, ℕ, ◌+◌, ◌-◌, ◌<◌, ◌≤◌, min, max, List, [], ◌∷◌, ◌++◌, length, take, drop, replicate, get_or, refl, sym, ◌∙◌, ap, arith, length-append, length-drop}
use Rattle.std.proofs.lemmas.List.{ext_get_or, get_or-take, get_or-drop, length-take, get_or-append_right, get_or_past, get_or-replicate, length-replicate, append-nil}
use Rattle.std.proofs.Math.ListN.{get_or-append}
use Rattle.edge_model.specs.Files.{filled_to, written, Torn, Shorter}
use Rattle.edge_model.specs.Bytes.{torn_written, spliced_below, spliced_above, length-filled, length-spliced}
use Rattle.edge_model.proofs.Ranges.{written_here}
use Rattle.journal_format.specs.Records.{Record}
use Rattle.rollback_journal.specs.Laying.{page_start, laid, reach, IsGivenByte, IsOneOf, AreSized, PlaysTo, IsPartly}

order : (a b : ℕ) → (a < b) ⊎ (b ≤ a)
order a b = search arith

-- a byte of what was written
pub written_byte : (at : ℕ) (bytes old : List ℕ) (i : ℕ) → at ≤ i → i < at + length bytes → get_or (written at bytes old) i 0 ≡ get_or bytes (i - at) 0
written_byte at bytes old i from to =
    let e : at + (i - at) ≡ i = omega arith in
    let small : i - at < length bytes = omega arith in
    ap (λ (k : ℕ). get_or (written at bytes old) k 0) (sym e)
    ∙ sym (get_or-drop at (written at bytes old) (i - at) 0)
    ∙ sym (get_or-take (length bytes) (drop at (written at bytes old)) (i - at) 0 small)
    ∙ ap (λ (l : List ℕ). get_or l (i - at) 0) (written_here at bytes old)

-- where two files agree before an image is laid, or the image gives the byte, they agree after it
written_same : (at : ℕ) (bytes a b : List ℕ) (i : ℕ) → i < length a → i < length b → ((at ≤ i) × (i < at + length bytes)) ⊎ (get_or a i 0 ≡ get_or b i 0)
    → get_or (written at bytes a) i 0 ≡ get_or (written at bytes b) i 0
written_same at bytes a b i in_a in_b (inl here) = written_byte at bytes a i here.0 here.1 ∙ sym (written_byte at bytes b i here.0 here.1)
written_same at bytes a b i in_a in_b (inr same) = go (order i at) (order i (at + length bytes))
  where
    go : (i < at) ⊎ (at ≤ i) → (i < at + length bytes) ⊎ (at + length bytes ≤ i) → get_or (written at bytes a) i 0 ≡ get_or (written at bytes b) i 0
    go (inl before) any = (torn_written at bytes a).below i in_a before ∙ same ∙ sym ((torn_written at bytes b).below i in_b before)
    go (inr from) (inl to) = written_byte at bytes a i from to ∙ sym (written_byte at bytes b i from to)
    go (inr from) (inr behind) = (torn_written at bytes a).above i in_a behind ∙ same ∙ sym ((torn_written at bytes b).above i in_b behind)

longer : (at : ℕ) (bytes old : List ℕ) → length old ≤ length (written at bytes old)
longer at bytes old = (torn_written at bytes old).no_shorter

pub laid_same : (size end : ℕ) (records : List Record) (a b : List ℕ) (i : ℕ) → AreSized size end records → i < length a → i < length b
    → IsGivenByte size records i ⊎ (get_or a i 0 ≡ get_or b i 0)
    → get_or (laid size records a) i 0 ≡ get_or (laid size records b) i 0
laid_same size end [] a b i sized in_a in_b (inl given) = absurd given
laid_same size end [] a b i sized in_a in_b (inr same) = same
laid_same size end (entry ∷ rest) a b i sized in_a in_b given =
    let at = page_start size entry.page in
    laid_same size end rest (written at entry.image a) (written at entry.image b) i sized.2 (omega (arith, longer at entry.image a))
    (omega (arith, longer at entry.image b)) (go given)
  where
    go : IsGivenByte size (entry ∷ rest) i ⊎ (get_or a i 0 ≡ get_or b i 0)
        → IsGivenByte size rest i ⊎
        (get_or (written (page_start size entry.page) entry.image a) i 0 ≡ get_or (written (page_start size entry.page) entry.image b) i 0)
    go (inl (inl here)) = inr (written_same (page_start size entry.page) entry.image a b i in_a in_b (inl (here.0, omega (arith, here.1, sized.0))))
    go (inl (inr later)) = inl later
    go (inr same) = inr (written_same (page_start size entry.page) entry.image a b i in_a in_b (inr same))

-- over a file that is long enough the length stays
pub laid_length : (size end : ℕ) (records : List Record) (file : List ℕ) → AreSized size end records → reach size records ≤ length file
    → length (laid size records file) ≡ length file
laid_length size end [] file sized long = refl
laid_length size end (entry ∷ rest) file sized long =
    let at = page_start size entry.page in
    let torn = torn_written at entry.image file in
    let one : length (written at entry.image file) ≡ length file = omega (arith, torn.no_shorter, torn.no_longer, sized.0, long) in
    laid_length size end rest (written at entry.image file) sized.2 (omega (arith, one, long)) ∙ one

pub reach_end : (size end : ℕ) (records : List Record) → AreSized size end records → reach size records ≤ end
reach_end size end [] sized = omega arith
reach_end size end (entry ∷ rest) sized = omega (arith, sized.1, reach_end size end rest sized.2)

-- what stood behind Main's end, as far as the images reach
abbrev fill_of : ℕ → List Record → List ℕ → List ℕ → List ℕ
fill_of size records main base = take (reach size records - length main) (drop (length main) base)

fill_length : (size : ℕ) (records : List Record) (main base : List ℕ) → reach size records ≤ length base
    → length (fill_of size records main base) ≡ reach size records - length main
fill_length size records main base long = omega
    (arith, length-take (reach size records - length main) (drop (length main) base), length-drop (length main) base, long)

filled_byte : (size end : ℕ) (records : List Record) (main now fill : List ℕ) (i : ℕ) → IsPartly size end records main now → i < end
    → i < length main + (reach size records - length main)
    → IsGivenByte size records i ⊎ (get_or (now ++ fill) i 0 ≡ get_or (main ++ fill_of size records main (now ++ fill)) i 0)
filled_byte size end records main now fill i partly low within = go (order i (length main))
  where
    go : (i < length main) ⊎ (length main ≤ i)
        → IsGivenByte size records i ⊎ (get_or (now ++ fill) i 0 ≡ get_or (main ++ fill_of size records main (now ++ fill)) i 0)
    go (inl front) =
        ⊎_elim (λ given. inl given)
        (λ same. inr (get_or-append now fill 0 i (omega (arith, partly.no_shorter)) ∙ same ∙ sym (get_or-append main (fill_of size records main (now ++ fill)) 0 i front)))
        (partly.kept i front low)
    go (inr behind) = inr (sym (
        get_or-append_right main (fill_of size records main (now ++ fill)) (length main) i 0 refl behind
        ∙ get_or-take (reach size records - length main) (drop (length main) (now ++ fill)) (i - length main) 0 (omega arith)
        ∙ get_or-drop (length main) (now ++ fill) (i - length main) 0
        ∙ ap (λ (k : ℕ). get_or (now ++ fill) k 0) (let e : length main + (i - length main) ≡ i = omega arith in e)
        ))

-- two files that differ only where images are laid, or behind the end
pub laid_cut : (size end : ℕ) (records : List Record) (a b : List ℕ) → AreSized size end records → reach size records ≤ length a
    → reach size records ≤ length b → min end (length a) ≡ min end (length b)
    → ((i : ℕ) → i < end → i < length b → IsGivenByte size records i ⊎ (get_or a i 0 ≡ get_or b i 0)) → take end (laid size records a) ≡ take end
    (laid size records b)
laid_cut size end records a b sized long_a long_b same each =
    let la = length-take end (laid size records a) in
    let lb = length-take end (laid size records b) in
    let fa = laid_length size end records a sized long_a in
    let fb = laid_length size end records b sized long_b in
    ext_get_or 0 (take end (laid size records a)) (take end (laid size records b)) (omega (arith, la, lb, fa, fb, same)) (λ i lt.
    let low : i < end = omega (arith, la, lt) in
    let in_a : i < length a = omega (arith, la, lt, fa) in
    let in_b : i < length b = omega (arith, la, lt, fa, same) in
    get_or-take end (laid size records a) i 0 low
    ∙ laid_same size end records a b i sized in_a in_b (each i low in_b)
    ∙ sym (get_or-take end (laid size records b) i 0 low))

-- Whatever part of the images was laid over Main, and however far it was cut: what it is played to now, it was played to before.
pub plays_as_before : (size end : ℕ) (records : List Record) (main now file : List ℕ) → AreSized size end records → IsPartly size end records main now
    → PlaysTo size end records now file → PlaysTo size end records main file
plays_as_before size end records main now file sized partly plays =
    let base : List ℕ = now ++ plays.fill in
    let long : length (now ++ plays.fill) ≡ max (length now) (reach size records) = omega (arith, length-append now plays.fill, plays.fills) in
    let fills = fill_length size records main (now ++ plays.fill) (omega (arith, long)) in
    let all : length (main ++ fill_of size records main (now ++ plays.fill)) ≡ max (length main) (reach size records) = omega
    (arith, length-append main (fill_of size records main (now ++ plays.fill)), fills) in
    let last = reach_end size end records sized in
    record {
      fill = fill_of size records main (now ++ plays.fill);
      fills = fills;
      is = plays.is
          ∙ laid_cut size end records (now ++ plays.fill) (main ++ fill_of size records main (now ++ plays.fill)) sized (omega (arith, long))
          (omega (arith, all)) (omega (arith, long, all, last, partly.no_shorter, partly.no_longer))
          (λ i low within. filled_byte size end records main now plays.fill i partly low (omega (arith, within, all)));
    }

-- Main as it was, a write of one of the images that a crash may tear, and a cut
pub partly_at_first : (size end : ℕ) (records : List Record) (main : List ℕ) → IsPartly size end records main main
partly_at_first size end records main = record { no_shorter = omega arith; no_longer = omega arith; kept = λ i lt low. inr refl }

pub partly_torn : (size end : ℕ) (records : List Record) (entry : Record) (main d c : List ℕ) → IsOneOf size entry records → length entry.image ≡ size
    → IsPartly size end records main d
    → Torn (page_start size entry.page) (length entry.image) d c → IsPartly size end records main c
partly_torn size end records entry main d c one sized partly torn = record {
  no_shorter = omega (arith, partly.no_shorter, torn.no_shorter);
  no_longer = omega (arith, partly.no_longer, torn.no_longer, one.reached, sized);
  kept = λ i lt low. go i lt low (order i (page_start size entry.page)) (order i (page_start size entry.page + size));
}
  where
    go : (i : ℕ) → i < length main → i < end → (i < page_start size entry.page) ⊎ (page_start size entry.page ≤ i)
        → (i < page_start size entry.page + size) ⊎ (page_start size entry.page + size ≤ i)
        → IsGivenByte size records i ⊎ (get_or c i 0 ≡ get_or main i 0)
    go i lt low (inl before) any = ⊎_elim (λ given. inl given) (λ same. inr (torn.below i (omega (arith, partly.no_shorter)) before ∙ same))
        (partly.kept i lt low)
    go i lt low (inr from) (inl to) = inl (one.given i from to)
    go i lt low (inr from) (inr behind) = ⊎_elim (λ given. inl given)
        (λ same. inr (torn.above i (omega (arith, partly.no_shorter)) (omega (arith, behind, sized)) ∙ same)) (partly.kept i lt low)

pub partly_cut : (size end : ℕ) (records : List Record) (main d c : List ℕ) → IsPartly size end records main d → Shorter end d c
    → IsPartly size end records main c
partly_cut size end records main d c partly cut = record {
  no_shorter = omega (arith, partly.no_shorter, cut.no_shorter);
  no_longer = omega (arith, partly.no_longer, cut.no_longer);
  kept = λ i lt low. ⊎_elim (λ given. inl given) (λ same. inr (cut.below i (omega (arith, partly.no_shorter, cut.no_shorter)) low ∙ same))
      (partly.kept i lt low);
}

-- at any place, past the end too, where a byte reads as 0
filled_any : (end : ℕ) (old : List ℕ) (i : ℕ) → get_or (filled_to end old) i 0 ≡ get_or old i 0
filled_any end old i = go (order i (length old)) (order i (length old + (end - length old)))
  where
    go : (i < length old) ⊎ (length old ≤ i) → (i < length old + (end - length old)) ⊎ (length old + (end - length old) ≤ i)
        → get_or (filled_to end old) i 0 ≡ get_or old i 0
    go (inl lt) any = get_or-append old (replicate (end - length old) 0) 0 i lt
    go (inr le) (inl small) =
        get_or-append_right old (replicate (end - length old) 0) (length old) i 0 refl le
        ∙ get_or-replicate {A = ℕ} (end - length old) (i - length old) 0 0 (omega arith)
        ∙ sym (get_or_past old i 0 le)
    go (inr le) (inr past) = get_or_past (filled_to end old) i 0
        (omega (arith, length-append old (replicate (end - length old) 0), length-replicate {A = ℕ} (end - length old) 0))
        ∙ sym (get_or_past old i 0 le)

written_outside : (at : ℕ) (bytes old : List ℕ) (i : ℕ) → (i < at) ⊎ (at + length bytes ≤ i) → get_or (written at bytes old) i 0 ≡ get_or old i 0
written_outside at [] old i out = refl
written_outside at (byte ∷ bytes) old i (inl before) =
    spliced_below at (byte ∷ bytes) (filled_to (at + length (byte ∷ bytes)) old) i (omega (arith, length-filled (at + length (byte ∷ bytes)) old)) before
    ∙ filled_any (at + length (byte ∷ bytes)) old i
written_outside at (byte ∷ bytes) old i (inr behind) =
    spliced_above at (byte ∷ bytes) (filled_to (at + length (byte ∷ bytes)) old) i (omega (arith, length-filled (at + length (byte ∷ bytes)) old)) behind
    ∙ filled_any (at + length (byte ∷ bytes)) old i

written_any : (at : ℕ) (bytes a b : List ℕ) (i : ℕ) → get_or a i 0 ≡ get_or b i 0 → get_or (written at bytes a) i 0 ≡ get_or (written at bytes b) i 0
written_any at bytes a b i same = go (order i at) (order i (at + length bytes))
  where
    go : (i < at) ⊎ (at ≤ i) → (i < at + length bytes) ⊎ (at + length bytes ≤ i) → get_or (written at bytes a) i 0 ≡ get_or (written at bytes b) i 0
    go (inl before) any = written_outside at bytes a i (inl before) ∙ same ∙ sym (written_outside at bytes b i (inl before))
    go (inr from) (inl to) = written_byte at bytes a i from to ∙ sym (written_byte at bytes b i from to)
    go (inr from) (inr behind) = written_outside at bytes a i (inr behind) ∙ same ∙ sym (written_outside at bytes b i (inr behind))

laid_any : (size : ℕ) (records : List Record) (a b : List ℕ) (i : ℕ) → get_or a i 0 ≡ get_or b i 0
    → get_or (laid size records a) i 0 ≡ get_or (laid size records b) i 0
laid_any size [] a b i same = same
laid_any size (entry ∷ rest) a b i same = laid_any size rest (written (page_start size entry.page) entry.image a)
    (written (page_start size entry.page) entry.image b) i (written_any (page_start size entry.page) entry.image a b i same)

length-written : (at : ℕ) (bytes old : List ℕ) → 0 < length bytes → length (written at bytes old) ≡ max (length old) (at + length bytes)
length-written at [] old some = absurd (omega (arith, some))
length-written at (byte ∷ bytes) old some =
    let end = length-filled (at + length (byte ∷ bytes)) old in
    length-spliced at (byte ∷ bytes) (filled_to (at + length (byte ∷ bytes)) old) (omega (arith, end)) ∙ end

pub laid_reach : (size end : ℕ) (records : List Record) (file : List ℕ) → 0 < size → AreSized size end records
    → length (laid size records file) ≡ max (length file) (reach size records)
laid_reach size end [] file some sized = omega arith
laid_reach size end (entry ∷ rest) file some sized =
    let one = length-written (page_start size entry.page) entry.image file (omega (arith, some, sized.0)) in
    omega (arith, laid_reach size end rest (written (page_start size entry.page) entry.image file) some sized.2, one, sized.0)

-- what no image gives stays
pub laid_keeps : (size end : ℕ) (records : List Record) (file : List ℕ) (i : ℕ) → AreSized size end records
    → IsGivenByte size records i ⊎ (get_or (laid size records file) i 0 ≡ get_or file i 0)
laid_keeps size end [] file i sized = inr refl
laid_keeps size end (entry ∷ rest) file i sized = go (order i (page_start size entry.page)) (order i (page_start size entry.page + size))
    (laid_keeps size end rest (written (page_start size entry.page) entry.image file) i sized.2)
  where
    go : (i < page_start size entry.page) ⊎ (page_start size entry.page ≤ i) → (i < page_start size entry.page + size) ⊎ (page_start size entry.page + size ≤ i)
        → IsGivenByte size rest i ⊎
        (get_or (laid size rest (written (page_start size entry.page) entry.image file)) i 0 ≡ get_or (written (page_start size entry.page) entry.image file) i 0)
        → IsGivenByte size (entry ∷ rest) i ⊎ (get_or (laid size (entry ∷ rest) file) i 0 ≡ get_or file i 0)
    go before to (inl given) = inl (inr given)
    go (inl before) to (inr same) = inr (same ∙ written_outside (page_start size entry.page) entry.image file i (inl before))
    go (inr from) (inl to) (inr same) = inl (inl (from, to))
    go (inr from) (inr behind) (inr same) = inr (same ∙ written_outside (page_start size entry.page) entry.image file i (inr (omega (arith, behind, sized.0))))

abbrev zeros : ℕ → List Record → List ℕ → List ℕ
zeros size records main = replicate (reach size records - length main) 0

-- with zeros for the free bytes, this is the images laid over Main itself
pub plays_zeros : (size end : ℕ) (records : List Record) (main : List ℕ) → 0 < size → AreSized size end records
    → PlaysTo size end records main (take end (laid size records main))
plays_zeros size end records main some sized = record {
  fill = zeros size records main;
  fills = length-replicate {A = ℕ} (reach size records - length main) 0;
  is = ap (λ (l : List ℕ). take end l) same;
}
  where
    same : laid size records main ≡ laid size records (main ++ zeros size records main)
    same =
        let la = laid_reach size end records main some sized in
        let lb = laid_reach size end records (main ++ zeros size records main) some sized in
        let lc = length-append main (zeros size records main) in
        let lz = length-replicate {A = ℕ} (reach size records - length main) 0 in
        ext_get_or 0 (laid size records main) (laid size records (main ++ zeros size records main)) (omega (arith, la, lb, lc, lz))
        (λ i lt. laid_any size records main (main ++ zeros size records main) i (sym (
        ap (λ (n : ℕ). get_or (main ++ replicate n 0) i 0)
        (let e : reach size records - length main ≡ length main + (reach size records - length main) - length main = omega arith in e)
        ∙ filled_any (length main + (reach size records - length main)) main i
        )))

-- what was played stays when it is played again
pub plays_again : (size end : ℕ) (records : List Record) (main file : List ℕ) → 0 < size → AreSized size end records
    → PlaysTo size end records main file → PlaysTo size end records file file
plays_again size end records main file some sized plays =
    let base : List ℕ = main ++ plays.fill in
    let long : length (main ++ plays.fill) ≡ max (length main) (reach size records) = omega (arith, length-append main plays.fill, plays.fills) in
    let last = reach_end size end records sized in
    let whole : length (laid size records (main ++ plays.fill)) ≡ max (length main) (reach size records) = omega
    (arith, laid_reach size end records (main ++ plays.fill) some sized, long) in
    let size_is : length (take end (laid size records (main ++ plays.fill))) ≡ min end (max (length main) (reach size records)) = omega
    (arith, length-take end (laid size records (main ++ plays.fill)), whole) in
    let file_size : length file ≡ min end (max (length main) (reach size records)) = ap length plays.is ∙ size_is in
    record {
      fill = [];
      fills = omega (arith, file_size, last);
      is = plays.is
          ∙ sym
          (laid_cut size end records (take end (laid size records (main ++ plays.fill))) (main ++ plays.fill) sized (omega (arith, size_is, last)) (omega (arith, long)) (omega (arith, size_is, long))
          (λ i low within. ⊎_elim (λ given. inl given) (λ same. inr (get_or-take end (laid size records (main ++ plays.fill)) i 0 low ∙ same)) (laid_keeps size end records (main ++ plays.fill) i sized)))
          ∙ ap (λ (l : List ℕ). take end (laid size records l))
          (sym (append-nil (take end (laid size records (main ++ plays.fill)))) ∙ ap (λ (l : List ℕ). l ++ []) (sym plays.is));
    }
