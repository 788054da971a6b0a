-- Causes that are handed on.
use Rattle.std.proofs.Common.{◌≡◌, ◌≤◌, ℕ, zero, suc, true, Result, Ok, Err, IfErr, ◌&&◌, arith, subst}
use Rattle.std.specs.Prelude.{nat_le}
use Rattle.db_format.specs.Pages.{Pages, is_page}
use Rattle.db_format.specs.Source.{Rose}
use Rattle.btree_model.specs.Range.{is_in_range}
use Rattle.btree_walk.specs.Causes.{IsGivenBy}
use Rattle.btree_walk.specs.declared.error.WalkError.{WalkError}
use Rattle.btree_walk.specs.declared.error.WalkError.TheVariants.{Defect, Source, OutOfMemory}

-- a page stays one where the count stays
pub page_stays : (old new : Pages) (n : ℕ) → new.count ≡ old.count → is_page new n ≡ true → is_page old n ≡ true
page_stays old new n same is = subst (λ k. (nat_le 1 n && nat_le n k) ≡ true) same is

-- a number that a page may name is one of a page
two_or_more : (n : ℕ) → nat_le 2 n ≡ true → nat_le 1 n ≡ true
two_or_more zero h = cc
two_or_more (suc n) h = grind arith

pub named_is_page : (pages : Pages) (n : ℕ) → is_in_range pages n ≡ true → is_page pages n ≡ true
named_is_page pages n named = grind (arith, named)

-- what was given after a state that was only read was given after the first one too
pub given_later : {T R : Type 0} (read : T → T → Type 0) (plain : T → Pages) (refuses : Pages → ℕ → R → Type 0) (before middle : T) (error : WalkError R)
    → ((s t u : T) → read s t → read t u → read s u) → (plain middle).count ≡ (plain before).count → read before middle
    → IsGivenBy read plain refuses middle error → IsGivenBy read plain refuses before error
given_later read plain refuses before middle (Defect defect) on same first given = tt
given_later read plain refuses before middle (Source refusal) on same first given =
    record {
      state = given.state;
      since = on before middle given.state first given.since;
      page = given.page;
      range = page_stays (plain before) (plain middle) given.page same given.range;
      refused = given.refused;
    }
given_later read plain refuses before middle OutOfMemory on same first given = tt

pub if_given_later : {T R A : Type 0} (read : T → T → Type 0) (plain : T → Pages) (refuses : Pages → ℕ → R → Type 0) (before middle : T) (result : Result A (WalkError R))
    → ((s t u : T) → read s t → read t u → read s u) → (plain middle).count ≡ (plain before).count → read before middle
    → IfErr result (IsGivenBy read plain refuses middle) → IfErr result (IsGivenBy read plain refuses before)
if_given_later read plain refuses before middle (Ok value) on same first given = tt
if_given_later read plain refuses before middle (Err error) on same first given = given_later read plain refuses before middle error on same first given

-- what holds of an error
pub if_err_map : {A E : Type 0} (P Q : E → Type 0) (result : Result A E) → ((error : E) → P error → Q error) → IfErr result P → IfErr result Q
if_err_map P Q (Ok value) more held = tt
if_err_map P Q (Err error) more held = more error held

-- a count that rose after a later state rose after the first one too
pub rose_later : (before middle now : ℕ) → before ≤ middle → Rose middle now → Rose before now
rose_later before middle now less rose = omega arith
