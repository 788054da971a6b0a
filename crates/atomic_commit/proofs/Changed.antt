-- Changed pages, one after another.
use Rattle.std.proofs.Common.{◌≡◌, ◌≢◌, ◌⊎◌, inl, inr, ⊎_elim, ℕ, suc, zero, ◌+◌, ◌-◌, ◌*◌, ◌<◌, ◌≤◌, List, [], ◌∷◌, ◌++◌, length, take, drop, sym, ◌∙◌, ap, subst, arith, length-drop}
use Rattle.std.specs.Prelude.{slice_index}
use Rattle.std.proofs.lemmas.List.{ext_get_or, get_or-take, get_or-drop, length-take}
use Rattle.std.proofs.Math.Nat.{suc-mul, mul-le-mul_right}
use Rattle.edge_model.specs.Files.{written}
use Rattle.edge_model.proofs.Ranges.{written_here, written_elsewhere}
use Rattle.journal_format.specs.Records.{Record}
use Rattle.rollback_journal.specs.Laying.{page_start}
use Rattle.rollback_journal.proofs.Played.{page_end}
use Rattle.atomic_commit.specs.Database.{Base, stored_page, stored_pages, old_pages}
use Rattle.atomic_commit.specs.Facts.{HasRecord, IsBase}
use Rattle.atomic_commit.specs.Commit.{AreChanges, IsChanged}
use Rattle.atomic_commit.proofs.Pages.{same_bytes}

order : (a b : ℕ) → (a < b) ⊎ (b ≤ a)
order a b = search arith

pub has_more : (n : ℕ) (records : List Record) (entry : Record) → HasRecord n records → HasRecord n (records ++ entry ∷ [])
has_more n [] entry has = absurd has
has_more n (first ∷ rest) entry (inl same) = inl same
has_more n (first ∷ rest) entry (inr later) = inr (has_more n rest entry later)

pub has_last : (n : ℕ) (records : List Record) (entry : Record) → entry.page ≡ n → HasRecord n (records ++ entry ∷ [])
has_last n [] entry same = inl same
has_last n (first ∷ rest) entry same = inr (has_last n rest entry same)

-- two pages share no byte
page_before : (size p n : ℕ) → 1 ≤ p → p < n → page_start size p + size ≤ page_start size n
page_before size zero n one lt = absurd (omega (arith, one))
page_before size (suc p) n one lt =
    let e : suc p - 1 ≡ p = omega arith in
    omega (arith, ap (λ (k : ℕ). k * size) e, suc-mul p size, mul-le-mul_right size (let k : suc p ≤ n - 1 = omega (arith, lt) in k))

pages_apart : (size p n : ℕ) → 1 ≤ p → 1 ≤ n → p ≢ n → (page_start size p + size ≤ page_start size n) ⊎ (page_start size n + size ≤ page_start size p)
pages_apart size p n one_p one_n other = go (order p n) (order n p)
  where
    go : (p < n) ⊎ (n ≤ p) → (n < p) ⊎ (p ≤ n) → (page_start size p + size ≤ page_start size n) ⊎ (page_start size n + size ≤ page_start size p)
    go (inl lt) any = inl (page_before size p n one_p lt)
    go (inr le) (inl lt) = inr (page_before size n p one_n lt)
    go (inr le) (inr ge) = absurd (other (let e : p ≡ n = omega (arith, le, ge) in e))

-- a page that is written leaves the others
pub page_stays : (base : Base) (p n : ℕ) (bytes main : List ℕ) → 1 ≤ p → p ≤ base.pages → 1 ≤ n → length bytes ≡ base.size → base.pages * base.size ≤ length main → p ≢ n
    → stored_page base.size p (written (page_start base.size n) bytes main) ≡ stored_page base.size p main
page_stays base p n bytes main one le one_n sized long other =
    written_elsewhere (page_start base.size n) (page_start base.size p) base.size bytes main (omega (arith, page_end base.size p base.pages one le, long))
    (⊎_elim (λ before. inl before) (λ behind. inr (omega (arith, behind, sized))) (pages_apart base.size p n one one_n other))

-- one change more
pub changed_next : (base : Base) (numbers : List ℕ) (seals : ℕ → List ℕ → Type 0) (k n : ℕ) (bytes main after : List ℕ) → AreChanges base.pages numbers → k < length numbers → n ≡ slice_index numbers k → length bytes ≡ base.size
    → base.pages * base.size ≤ length main → seals k bytes → after ≡ written (page_start base.size n) bytes main → IsChanged base numbers seals k main → IsChanged base numbers seals (k + 1) after
changed_next base numbers seals k n bytes main after changes lt number sized long sealed is changed = record {
  sealed = λ j below. go j below (order j k);
  others = λ p one le none.
      ap (λ (l : List ℕ). stored_page base.size p l) is
      ∙ page_stays base p n bytes main one le one_n sized long (λ same. none k (omega arith) (sym number ∙ sym same))
      ∙ changed.others p one le (λ j below. none j (omega arith));
}
  where
    one_n : 1 ≤ n
    one_n = omega (arith, number, (changes.in_range k lt).0)

    go : (j : ℕ) → j < k + 1 → (j < k) ⊎ (k ≤ j) → seals j (stored_page base.size (slice_index numbers j) after)
    go j below (inl small) =
        let range = changes.in_range j (omega (arith, small, lt)) in
        let apart : slice_index numbers j ≢ n = λ same. changes.apart j k small lt (same ∙ number) in
        subst (seals j) (sym (ap (λ (l : List ℕ). stored_page base.size (slice_index numbers j) l) is ∙ page_stays base (slice_index numbers j) n bytes main range.0 range.1 one_n sized long apart)) (changed.sealed j small)
    go j below (inr le) =
        let same : k ≡ j = omega arith in
        let here : stored_page base.size n after ≡ bytes = ap (λ (l : List ℕ). stored_page base.size n l) is ∙ ap (λ (s : ℕ). take s (drop (page_start base.size n) (written (page_start base.size n) bytes main))) (sym sized) ∙ written_here (page_start base.size n) bytes main in
        subst (λ (i : ℕ). seals i (stored_page base.size (slice_index numbers i) after)) same (subst (seals k) (sym (ap (λ (p : ℕ). stored_page base.size p after) (sym number) ∙ here)) sealed)

-- before the first change: the pages are those of the start
pub changed_none : (base : Base) (numbers : List ℕ) (seals : ℕ → List ℕ → Type 0) (main : List ℕ) → IsBase base → base.pages * base.size ≤ length main → stored_pages base.size base.pages main ≡ old_pages base → IsChanged base numbers seals 0 main
changed_none base numbers seals main is long same = record {
  sealed = λ k lt. absurd (omega (arith, lt));
  others = λ n one le none. same_page n one le;
}
  where
    same_page : (n : ℕ) → 1 ≤ n → n ≤ base.pages → stored_page base.size n main ≡ stored_page base.size n base.start
    same_page n one le =
        let end = page_end base.size n base.pages one le in
        let within = is.within in
        ext_get_or 0 (stored_page base.size n main) (stored_page base.size n base.start)
        (omega (arith, length-take base.size (drop (page_start base.size n) main), length-drop (page_start base.size n) main, length-take base.size (drop (page_start base.size n) base.start), length-drop (page_start base.size n) base.start, end, long, within))
        (λ i lt.
        let small : i < base.size = omega (arith, lt, length-take base.size (drop (page_start base.size n) main)) in
        get_or-take base.size (drop (page_start base.size n) main) i 0 small
        ∙ get_or-drop (page_start base.size n) main i 0
        ∙ same_bytes base.size base.pages main base.start same (page_start base.size n + i) (omega (arith, small, end))
        ∙ sym (get_or-drop (page_start base.size n) base.start i 0)
        ∙ sym (get_or-take base.size (drop (page_start base.size n) base.start) i 0 small))

-- the same changes, said with another source of them
pub changed_moved : (base : Base) (some more : List ℕ) (old new : ℕ → List ℕ → Type 0) (k : ℕ) (main : List ℕ) → more ≡ some → ((j : ℕ) (stored : List ℕ) → old j stored → new j stored) → IsChanged base some old k main → IsChanged base more new k main
changed_moved base some more old new k main same gives changed = record {
  sealed = λ j lt. gives j (stored_page base.size (slice_index more j) main) (subst (λ (l : List ℕ). old j (stored_page base.size (slice_index l j) main)) (sym same) (changed.sealed j lt));
  others = λ n one le none. changed.others n one le (λ j lt is. none j lt (ap (λ (l : List ℕ). slice_index l j) same ∙ is));
}
