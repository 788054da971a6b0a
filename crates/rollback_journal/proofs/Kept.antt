-- Steps that keep what an image recovers to.
use Rattle.std.proofs.Common.{◌≡◌, ◌⊎◌, inl, inr, ℕ, suc, zero, ◌<◌, Bool, true, false, ◌&&◌, nat_lt, List, length, take, Option, Some, refl, sym, ◌∙◌, ap, subst, arith}
use Rattle.std.specs.Prelude.{MatchBool, IsFalse}
use Rattle.std.proofs.lemmas.List.{nil_from_length}
use Rattle.std.proofs.lemmas.Bool.Decides.{nat_tests}
use Rattle.edge_model.specs.Files.{Files, bytes_of}
use Rattle.journal_format.specs.Header.{page_size_at}
use Rattle.journal_format.specs.Segments.{is_hot, names_super, played, record_places}
use Rattle.rollback_journal.specs.Laying.{laid, AreSized, PlaysTo, IsPartly}
use Rattle.rollback_journal.specs.Recovery.{end_of, IsPlayed, RecoversTo, Recovers, RecoversOnlyTo, KeepsRecovered}
use Rattle.rollback_journal.proofs.Laid.{plays_as_before, plays_zeros}
use Rattle.rollback_journal.proofs.Played.{either, pending_sized}

and_third : (a b c : Bool) → (a && b && c) ≡ true → (a ≡ true) × (b ≡ true) × (c ≡ true)
and_third true true true all = (refl, refl, refl)
and_third true true false all = cc
and_third true false c all = cc
and_third false b c all = cc

and_all : (a b c : Bool) → a ≡ true → b ≡ true → c ≡ true → (a && b && c) ≡ true
and_all a b c p q r = cc

lt_is : (n : ℕ) → nat_lt 0 n ≡ true → 0 < n
lt_is n is = grind (arith, nat_tests)

lt_makes : (n : ℕ) → 0 < n → nat_lt 0 n ≡ true
lt_makes n lt = grind (arith, nat_tests)

-- a journal that is hot for one Main is hot for each that has a byte
pub hot_too : (main now journal : List ℕ) → is_hot main journal ≡ true → 0 < length now → is_hot now journal ≡ true
hot_too main now journal hot some = let parts = and_third _ _ _ hot in and_all _ _ _ (lt_makes (length now) some) parts.1 parts.2

pub hot_byte : (main journal : List ℕ) → is_hot main journal ≡ true → 0 < length main
hot_byte main journal hot = lt_is (length main) (and_third _ _ _ hot).0

cold_nil : (main now journal : List ℕ) → is_hot main journal ≡ true → is_hot now journal ≡ false → length now ≡ 0
cold_nil main now journal hot cold = go (length now) refl
  where
    go : (n : ℕ) → length now ≡ n → length now ≡ 0
    go zero is = is
    go (suc n) is = let e = hot_too main now journal hot (omega arith) in cc

-- what a hot journal that is taken plays Main to
pub from_hot : (size : ℕ) (main journal file : List ℕ) → is_hot main journal ≡ true → RecoversTo size (Some main) (Some journal) file
    → IsPlayed size main journal file
from_hot size main journal file hot is = subst (λ (b : Bool). MatchBool b (IsPlayed size main journal file) (file ≡ main)) hot is

pub to_hot : (size : ℕ) (main journal file : List ℕ) → is_hot main journal ≡ true → IsPlayed size main journal file
    → RecoversTo size (Some main) (Some journal) file
to_hot size main journal file hot is = subst (λ (b : Bool). MatchBool b (IsPlayed size main journal file) (file ≡ main)) (sym hot) is

pub from_cold : (size : ℕ) (main journal file : List ℕ) → is_hot main journal ≡ false → RecoversTo size (Some main) (Some journal) file → file ≡ main
from_cold size main journal file cold is = subst (λ (b : Bool). MatchBool b (IsPlayed size main journal file) (file ≡ main)) cold is

pub to_cold : (size : ℕ) (main journal file : List ℕ) → is_hot main journal ≡ false → file ≡ main → RecoversTo size (Some main) (Some journal) file
to_cold size main journal file cold is = subst (λ (b : Bool). MatchBool b (IsPlayed size main journal file) (file ≡ main)) (sym cold) is

pub played_sized : (size : ℕ) (journal : List ℕ) → AreSized size (end_of size journal) (played size journal)
played_sized size journal = pending_sized size journal (record_places size journal)

-- The journal is hot and taken. Then what is laid over Main of it, in any part, is recovered as before.
pub partly_no_other : (size : ℕ) (main now journal file : List ℕ) → 0 < size → is_hot main journal ≡ true → page_size_at 0 journal ≡ size
    → IsFalse (names_super journal)
    → IsPartly size (end_of size journal) (played size journal) main now → RecoversTo size (Some now) (Some journal) file → RecoversTo size
    (Some main) (Some journal) file
partly_no_other size main now journal file some hot sizes no_super partly is = to_hot size main journal file hot (go (either (is_hot now journal)))
  where
    go : (is_hot now journal ≡ true) ⊎ (is_hot now journal ≡ false) → IsPlayed size main journal file
    go (inl still) = record {
      page_size = sizes;
      no_super = no_super;
      plays = plays_as_before size (end_of size journal) (played size journal) main now file (played_sized size journal) partly
          (from_hot size now journal file still is).plays;
    }
    go (inr cold) =
        let gone = cold_nil main now journal hot cold in
        let byte = hot_byte main journal hot in
        let zero_end : end_of size journal ≡ 0 = omega (arith, partly.no_shorter, gone, byte) in
        let plays = plays_zeros size (end_of size journal) (played size journal) main some (played_sized size journal) in
        let nil : take (end_of size journal) (laid size (played size journal) main) ≡ file =
        ap (λ (n : ℕ). take n (laid size (played size journal) main)) zero_end ∙ sym (from_cold size now journal file cold is ∙ nil_from_length now gone) in
        record { page_size = sizes; no_super = no_super; plays = subst (λ (l : List ℕ). PlaysTo size (end_of size journal) (played size journal) main l) nil plays }

pub partly_still : (size : ℕ) (now journal : List ℕ) → 0 < size → page_size_at 0 journal ≡ size → IsFalse (names_super journal)
    → (other : List ℕ) × RecoversTo size (Some now) (Some journal) other
partly_still size now journal some sizes no_super = go (either (is_hot now journal))
  where
    go : (is_hot now journal ≡ true) ⊎ (is_hot now journal ≡ false) → (other : List ℕ) × RecoversTo size (Some now) (Some journal) other
    go (inl still) = (
      take (end_of size journal) (laid size (played size journal) now),
      to_hot size now journal _ still
          (record { page_size = sizes; no_super = no_super; plays = plays_zeros size (end_of size journal) (played size journal) now some (played_sized size journal) }),
    )
    go (inr cold) = (now, to_cold size now journal now cold refl)

pub keeps_none : (size : ℕ) (d : Files) → KeepsRecovered size d d
keeps_none size d = record { no_other = λ file is. is; still = λ file is. (file, is); fresh = refl }

pub keeps_joins : (size : ℕ) (a b c : Files) → KeepsRecovered size a b → KeepsRecovered size b c → KeepsRecovered size a c
keeps_joins size a b c one two = record {
  no_other = λ file is. one.no_other file (two.no_other file is);
  still = λ file is. let mid = one.still file is in two.still mid.0 mid.1;
  fresh = two.fresh ∙ one.fresh;
}

-- what is kept is kept of every set of files
pub keeps_only : (size : ℕ) (set : List ℕ → Bool) (d c : Files) → KeepsRecovered size d c → RecoversOnlyTo size set d → RecoversOnlyTo size set c
keeps_only size set d c keeps held = record { some = keeps.still held.some.0 held.some.1; only = λ file is. held.only file (keeps.no_other file is) }

-- the same, of images
pub keeps_partly : (size : ℕ) (main now journal : List ℕ) (d c : Files) → 0 < size → is_hot main journal ≡ true → page_size_at 0 journal ≡ size
    → IsFalse (names_super journal)
    → bytes_of d.main ≡ Some main → bytes_of d.journal ≡ Some journal → bytes_of c.main ≡ Some now → bytes_of c.journal ≡ Some journal → c.fresh ≡ d.fresh
    → IsPartly size (end_of size journal) (played size journal) main now → KeepsRecovered size d c
keeps_partly size main now journal d c some hot sizes no_super main_d journal_d main_c journal_c fresh partly = record {
  no_other = λ file is. to_d file (partly_no_other size main now journal file some hot sizes no_super partly (from_c file is));
  still = λ file is. let other = partly_still size now journal some sizes no_super in (other.0, to_c other.0 other.1);
  fresh = fresh;
}
  where
    to_d : (file : List ℕ) → RecoversTo size (Some main) (Some journal) file → Recovers size d file
    to_d file is = subst (λ (j : Option (List ℕ)). RecoversTo size (bytes_of d.main) j file) (sym journal_d)
        (subst (λ (m : Option (List ℕ)). RecoversTo size m (Some journal) file) (sym main_d) is)

    to_c : (file : List ℕ) → RecoversTo size (Some now) (Some journal) file → Recovers size c file
    to_c file is = subst (λ (j : Option (List ℕ)). RecoversTo size (bytes_of c.main) j file) (sym journal_c)
        (subst (λ (m : Option (List ℕ)). RecoversTo size m (Some journal) file) (sym main_c) is)

    from_c : (file : List ℕ) → Recovers size c file → RecoversTo size (Some now) (Some journal) file
    from_c file is = subst (λ (m : Option (List ℕ)). RecoversTo size m (Some journal) file) main_c
        (subst (λ (j : Option (List ℕ)). RecoversTo size (bytes_of c.main) j file) journal_c is)
