-- The pages that a transaction changed were sealed with bytes of their own.
use Rattle.std.proofs.Common.{◌≡◌, ◌&&◌, ℕ, Bool, true, List, IsTrue, length, drop, sym, ap, subst, ◌∙◌}
use Rattle.std.proofs.Math.Seq.{drop-append_seam}
use Rattle.std.specs.Cmp.Derive.{both_true}
use Rattle.db_format.specs.Pages.{Test}
use Rattle.page_codec.specs.Page.{FileKeys, sealed}
use Rattle.pager.specs.Pages.{is_page_number}
use Rattle.pager.specs.UnderWay.{HasNewPages, Start}
use Rattle.atomic_commit.specs.Draws.{drawn_at}
use Rattle.rekey_job.specs.Draws.{AreDrawn, FileDraws}

pub file_draws : (start : Start) (keys : FileKeys) (touched : ℕ → Bool) (plain : ℕ → List ℕ) (tells : Bool) (drawn main : List ℕ) → HasNewPages start keys touched plain tells drawn main
    → IsTrue tells → (pages : Test) → ((n : ℕ) → pages n ≡ true → (is_page_number start.base.pages n ≡ true) × (touched n ≡ true))
    → FileDraws keys main pages 0 (drop (length start.drawn) drawn)
file_draws start keys touched plain tells drawn main has told pages changed = λ ciphered. subst (λ (l : List ℕ). AreDrawn keys main pages 0 l) (sym since) (record {
  place = has.own.place;
  later = λ n is. has.own.later n (sealed_so n is);
  within = λ n is. has.own.within n (sealed_so n is);
  is_sealed = λ n is. has.own.is_sealed n (sealed_so n is)
      ∙ ap (λ (l : List ℕ). sealed keys n l (drawn_at keys.profile.reserve (has.own.place n) has.draws)) (sym (has.opens n (changed n is).0 (changed n is).1));
  apart = λ m n other is_m is_n. has.own.apart m n other (sealed_so m is_m) (sealed_so n is_n);
})
  where
    since : drop (length start.drawn) drawn ≡ has.draws
    since = ap (λ (l : List ℕ). drop (length start.drawn) l) (has.since told) ∙ drop-append_seam start.drawn has.draws

    sealed_so : (n : ℕ) → pages n ≡ true → (is_page_number start.base.pages n && touched n) ≡ true
    sealed_so n is = both_true (changed n is).0 (changed n is).1
