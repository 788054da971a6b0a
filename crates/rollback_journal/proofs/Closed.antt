-- What closing and removing a journal leaves in the images.
use Rattle.std.proofs.Common.{◌≡◌, ◌⊎◌, inl, inr, ℕ, suc, ◌+◌, ◌-◌, Bool, true, false, ◌&&◌, nat_le, nat_lt, nat_eq, List, [], ◌∷◌, ◌++◌, length, replicate, Option, Some, None, refl, sym, ◌∙◌, ap, subst, arith}
use Rattle.std.proofs.lemmas.List.{append-nil, ext_get_or}
use Rattle.edge_model.specs.Files.{Files, bytes_of, written, removed, Torn, main_of}
use Rattle.edge_model.specs.Images.{MayStep, Changes, Renames}
use Rattle.edge_model.specs.declared.role.Role.TheVariants.{Journal}
use Rattle.journal_format.specs.Header.{head_at, has_header, sector_at, is_sector}
use Rattle.journal_format.specs.Segments.{is_hot}
use Rattle.rollback_journal.specs.Recovery.{IsSettled, KeepsRecovered, RecoversTo}
use Rattle.rollback_journal.specs.Playing.{journal_of}
use Rattle.rollback_journal.specs.Closing.{IsLaidBack, IsCold}
use Rattle.rollback_journal.proofs.Played.{either, and_first, and_second, eq_is}
use Rattle.rollback_journal.proofs.Kept.{from_cold, to_cold, keeps_none}

pub keeps_bytes : (size : ℕ) (d c : Files) (md jd mc jc : Option (List ℕ)) → bytes_of d.main ≡ md → bytes_of d.journal ≡ jd → bytes_of c.main ≡ mc
    → bytes_of c.journal ≡ jc → c.fresh ≡ d.fresh
    → ((file : List ℕ) → RecoversTo size mc jc file → RecoversTo size md jd file) →
    ((file : List ℕ) → RecoversTo size md jd file → (other : List ℕ) × RecoversTo size mc jc other) → KeepsRecovered size d c
keeps_bytes size d c md jd mc jc dm dj cm cj fresh back forth = record {
  no_other = λ file is. from md jd (bytes_of d.main) (bytes_of d.journal) (sym dm) (sym dj) file
      (back file (from (bytes_of c.main) (bytes_of c.journal) mc jc cm cj file is));
  still = λ file is. let other = forth file (from (bytes_of d.main) (bytes_of d.journal) md jd dm dj file is) in
      (other.0, from mc jc (bytes_of c.main) (bytes_of c.journal) (sym cm) (sym cj) other.0 other.1);
  fresh = fresh;
}
  where
    from : (m j m' j' : Option (List ℕ)) → m ≡ m' → j ≡ j' → (file : List ℕ) → RecoversTo size m j file → RecoversTo size m' j' file
    from m j m' j' em ej file is = subst (λ (x : Option (List ℕ)). RecoversTo size m' x file) ej
        (subst (λ (x : Option (List ℕ)). RecoversTo size x j file) em is)

torn_tail : (x y : ℕ) (xs ys : List ℕ) → Torn 0 1 (x ∷ xs) (y ∷ ys) → ys ≡ xs
torn_tail x y xs ys torn =
    let long : length ys ≡ length xs = omega (arith, torn.no_shorter, torn.no_longer) in
    ext_get_or 0 ys xs long (λ i lt. torn.above (suc i) (omega arith) (omega arith))

-- a header begins with d9
pub header_first : (x : ℕ) (xs : List ℕ) → has_header 0 (x ∷ xs) ≡ true → x ≡ 217
header_first x xs has = eq_is x 217 (and_first (nat_eq x 217) _ (and_second (nat_le 28 (length (head_at 0 (x ∷ xs)))) _ has))

-- a torn first byte leaves the journal as it is, or with no header
pub gate_torn : (old new : List ℕ) → has_header 0 old ≡ true → Torn 0 1 old new → has_header 0 new ≡ true → new ≡ old
gate_torn [] new has torn still = absurd (let e : false ≡ true = has in cc)
gate_torn (x ∷ xs) [] has torn still = absurd (let e : false ≡ true = still in cc)
gate_torn (x ∷ xs) (y ∷ ys) has torn still =
    ap (λ (l : List ℕ). y ∷ l) (torn_tail x y xs ys torn) ∙ ap (λ (n : ℕ). n ∷ xs) (header_first y ys still ∙ sym (header_first x xs has))

pub no_header_cold : (main journal : List ℕ) → has_header 0 journal ≡ false → is_hot main journal ≡ false
no_header_cold main journal none = go (nat_lt 0 (length main)) (has_header 0 journal) (is_sector (sector_at 0 journal)) none
  where
    go : (a b c : Bool) → b ≡ false → (a && b && c) ≡ false
    go true b c is = cc
    go false b c is = refl

pub hot_header : (main journal : List ℕ) → is_hot main journal ≡ true → has_header 0 journal ≡ true
hot_header main journal hot = and_second (nat_lt 0 (length main)) (has_header 0 journal) (and_first _ (is_sector (sector_at 0 journal)) hot)

-- Main stands as it is recovered. Then a journal whose first byte is torn is recovered to it still.
pub gate_back : (size : ℕ) (main old new file : List ℕ) → has_header 0 old ≡ true → Torn 0 1 old new → RecoversTo size (Some main) (Some old) main
    → RecoversTo size (Some main) (Some new) file → RecoversTo size (Some main) (Some old) file
gate_back size main old new file has torn same is = go (either (is_hot main new))
  where
    go : (is_hot main new ≡ true) ⊎ (is_hot main new ≡ false) → RecoversTo size (Some main) (Some old) file
    go (inl hot) = subst (λ (j : List ℕ). RecoversTo size (Some main) (Some j) file) (gate_torn old new has torn (hot_header main new hot)) is
    go (inr cold) = subst (λ (f : List ℕ). RecoversTo size (Some main) (Some old) f) (sym (from_cold size main new file cold is)) same

pub gate_forth : (size : ℕ) (main old new file : List ℕ) → has_header 0 old ≡ true → Torn 0 1 old new → RecoversTo size (Some main) (Some old) file
    → (other : List ℕ) × RecoversTo size (Some main) (Some new) other
gate_forth size main old new file has torn is = go (either (is_hot main new))
  where
    go : (is_hot main new ≡ true) ⊎ (is_hot main new ≡ false) → (other : List ℕ) × RecoversTo size (Some main) (Some new) other
    go (inl hot) = (file, subst (λ (j : List ℕ). RecoversTo size (Some main) (Some j) file) (sym (gate_torn old new has torn (hot_header main new hot))) is)
    go (inr cold) = (main, to_cold size main new main cold refl)

pub gate_keeps : (size : ℕ) (now d c : Files) → IsSettled now d → IsLaidBack size now → Changes Journal (Torn 0 1) now d c → KeepsRecovered size d c
gate_keeps size now d c settled back changes = go changes.1
  where
    main_d : bytes_of d.main ≡ Some (main_of now)
    main_d = ap bytes_of settled.main ∙ back.main

    journal_d : bytes_of d.journal ≡ Some (journal_of now)
    journal_d = ap bytes_of settled.journal ∙ back.journal

    same : RecoversTo size (Some (main_of now)) (Some (journal_of now)) (main_of now)
    same = subst (λ (x : Option (List ℕ)). RecoversTo size (Some (main_of now)) x (main_of now)) back.journal
        (subst (λ (x : Option (List ℕ)). RecoversTo size x (bytes_of now.journal) (main_of now)) back.main back.same)

    go : MayStep (Torn 0 1) now.journal d.journal c.journal → KeepsRecovered size d c
    go (inl stays) = keeps_bytes size d c (Some (main_of now)) (Some (journal_of now)) (Some (main_of now)) (Some (journal_of now)) main_d journal_d
        (ap bytes_of changes.0 ∙ main_d) (ap bytes_of stays ∙ journal_d) changes.2 (λ file is. is) (λ file is. (file, is))
    go (inr s) =
        let before : s.before ≡ journal_of now = cc (ap bytes_of s.was, journal_d) in
        let torn : Torn 0 1 (journal_of now) s.after = subst (λ (l : List ℕ). Torn 0 1 l s.after) before s.took in
        keeps_bytes size d c (Some (main_of now)) (Some (journal_of now)) (Some (main_of now)) (Some s.after) main_d journal_d
        (ap bytes_of changes.0 ∙ main_d) (ap bytes_of s.is) changes.2
        (λ file is. gate_back size (main_of now) (journal_of now) s.after file back.header torn same is)
        (λ file is. gate_forth size (main_of now) (journal_of now) s.after file back.header torn is)

-- a journal with 0 as its first byte has no header
pub zero_closed : (journal : List ℕ) → has_header 0 journal ≡ true → has_header 0 (written 0 (0 ∷ []) journal) ≡ false
zero_closed [] has = absurd (let e : false ≡ true = has in cc)
zero_closed (x ∷ xs) has = ap (λ (l : List ℕ). has_header 0 (0 ∷ l)) tail ∙ and_no (nat_le 28 (length (head_at 0 (0 ∷ xs))))
  where
    none : 0 + 1 - length (x ∷ xs) ≡ 0
    none = omega arith

    tail : xs ++ replicate (0 + 1 - length (x ∷ xs)) 0 ≡ xs
    tail = ap (λ (n : ℕ). xs ++ replicate n 0) none ∙ append-nil xs

    and_no : (a : Bool) → (a && false) ≡ false
    and_no true = refl
    and_no false = refl

pub drop_keeps : (size : ℕ) (now d c : Files) → IsSettled now d → IsCold now → Renames (removed Journal) now d c → KeepsRecovered size d c
drop_keeps size now d c settled cold (inl stays) = subst (λ (x : Files). KeepsRecovered size d x) (sym stays) (keeps_none size d)
drop_keeps size now d c settled cold (inr gone) =
    keeps_bytes size d c (Some (main_of now)) (Some (journal_of now)) (Some (main_of now)) None main_d (ap bytes_of settled.journal ∙ cold.journal)
    (ap (λ (x : Files). bytes_of x.main) gone.1 ∙ main_d) (ap (λ (x : Files). bytes_of x.journal) gone.1) (ap (λ (x : Files). x.fresh) gone.1)
    (λ file is. to_cold size (main_of now) (journal_of now) file cold.cold is)
    (λ file is. (main_of now, refl))
  where
    main_d : bytes_of d.main ≡ Some (main_of now)
    main_d = ap bytes_of settled.main ∙ cold.main

pub removed_settled : (now d c : Files) → IsSettled now d → Renames (removed Journal) now d c → c.main ≡ now.main
removed_settled now d c settled (inl stays) = ap (λ (x : Files). x.main) stays ∙ settled.main
removed_settled now d c settled (inr gone) = ap (λ (x : Files). x.main) gone.1 ∙ settled.main
