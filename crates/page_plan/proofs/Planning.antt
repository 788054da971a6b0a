-- A loop that writes the pages of a plan: what is seen and touched so far.
use Rattle.std.proofs.Common.{◌≡◌, ℕ, ◌+◌, ◌==◌, ◌&&◌, ◌||◌, Bool, true, false, List, [], ◌++◌, length, take, drop, if◌then◌else◌, refl, sym, ap, subst, ◌∙◌, arith, rules}
use Rattle.std.proofs.lemmas.List.{take-append-drop}
use Rattle.std.proofs.lemmas.Bool.{eqb-true}
use Rattle.edge_model.specs.Files.{Files, main_of}
use Rattle.page_cache.specs.Pages.{Page}
use Rattle.page_codec.specs.Page.{FileKeys, sealed}
use Rattle.pager.specs.Changed.{with_bytes}
use Rattle.pager.specs.File.{page_stored}
use Rattle.pager.specs.Pages.{is_page_number, opened_pages}
use Rattle.pager.specs.UnderWay.{HasNewPages, Start, is_touched, seen_pages}
use Rattle.pager.proofs.BatchLemmas.{and_true}
use Rattle.pager.proofs.UnderWayLemmas.{same_at}
use Rattle.atomic_commit.specs.Draws.{drawn_at}
use Rattle.atomic_commit.specs.Marks.{is_marked}
use Rattle.page_plan.specs.Planned.{planned}
use Rattle.page_plan.proofs.Accepting.{and_both}

-- ---- one page

-- no bytes over a page leave it as it is
pub written_none : (at : ℕ) (page : List ℕ) → with_bytes at [] page ≡ page
written_none at page = ap (λ (i : ℕ). take at page ++ drop i page) {x = at + 0} {y = at} (omega arith) ∙ take-append-drop at page

-- what is planned of a page that is not written, and of one that is
pub planned_not : (writes : ℕ → Bool) (becomes : ℕ → List ℕ → List ℕ) (n : ℕ) (page : List ℕ) → writes n ≡ false → planned writes becomes n page ≡ page
planned_not writes becomes n page is = ap (λ (b : Bool). if b then becomes n page else page) is

pub planned_is : (writes : ℕ → Bool) (becomes : ℕ → List ℕ → List ℕ) (n : ℕ) (page : List ℕ) → writes n ≡ true → planned writes becomes n page ≡ becomes n page
planned_is writes becomes n page is = ap (λ (b : Bool). if b then becomes n page else page) is

-- where page n was made zeros, and then these bytes were put over them
module _ (m n at : ℕ) (bytes zeros : List ℕ) (old mid : ℕ → List ℕ) (made : (k : ℕ) → mid k ≡ (if k == n then zeros else old k)) where
  pub over_zeros : (if m == n then with_bytes at bytes (mid n) else mid m) ≡ (if m == n then with_bytes at bytes zeros else old m)
  over_zeros = by_number (m == n) refl
    where
      self : (k : ℕ) → (k == k) ≡ true
      self k = search rules

      by_number : (b : Bool) → (m == n) ≡ b → (if m == n then with_bytes at bytes (mid n) else mid m) ≡ (if m == n then with_bytes at bytes zeros else old m)
      by_number true same =
          ap (λ (b : Bool). if b then with_bytes at bytes (mid n) else mid m) same
          ∙ ap (with_bytes at bytes) (made n ∙ ap (λ (b : Bool). if b then zeros else old n) (self n))
          ∙ sym (ap (λ (b : Bool). if b then with_bytes at bytes zeros else old m) same)
      by_number false other =
          ap (λ (b : Bool). if b then with_bytes at bytes (mid n) else mid m) other
          ∙ made m ∙ ap (λ (b : Bool). if b then zeros else old m) other ∙ sym (ap (λ (b : Bool). if b then with_bytes at bytes zeros else old m) other)

-- what was touched twice was touched
pub touched_twice : (b one : Bool) → (if b then true else (if b then true else one)) ≡ (if b then true else one)
touched_twice true one = refl
touched_twice false one = refl

-- where page n alone was written
pub one_written : (m n : ℕ) (new old : List ℕ) (page : ℕ → List ℕ) → new ≡ old → (if m == n then new else page m) ≡ (if m == n then old else page m)
one_written m n new old page is = ap (λ (l : List ℕ). if m == n then l else page m) is

-- nothing was
pub none_written : (writes : ℕ → Bool) (becomes : ℕ → List ℕ → List ℕ) (m n : ℕ) (page : ℕ → List ℕ) → writes n ≡ false
    → page m ≡ (if m == n then planned writes becomes n (page n) else page m)
none_written writes becomes m n page is =
    sym (same_at page m n) ∙ ap (λ (l : List ℕ). if m == n then l else page m) (sym (planned_not writes becomes n (page n) is))

-- page n is sealed anew, and so is each that was
pub one_touched : (m n : ℕ) (sealed : Bool) (old : ℕ → Bool) → sealed ≡ true → (if m == n then true else old m) ≡ (if m == n then sealed || old n else old m)
one_touched m n sealed old is = ap (λ (b : Bool). if m == n then b || old n else old m) (sym is)

pub none_touched : (m n : ℕ) (sealed : Bool) (old : ℕ → Bool) → sealed ≡ false → old m ≡ (if m == n then sealed || old n else old m)
none_touched m n sealed old is =
    by_number (m == n) refl ∙ ap (λ (b : Bool). if m == n then b || old n else old m) (sym is)
  where
    by_number : (b : Bool) → (m == n) ≡ b → old m ≡ (if m == n then old n else old m)
    by_number true same = ap old (eqb-true m n same) ∙ sym (ap (λ (b : Bool). if b then old n else old m) same)
    by_number false other = sym (ap (λ (b : Bool). if b then old n else old m) other)

pub or_nothing : (b : Bool) → b ≡ (b || false)
or_nothing true = refl
or_nothing false = refl

-- ---- the end

-- new pages by other words
pub new_as : (start : Start) (keys : FileKeys) (touched writes : ℕ → Bool) (plain new : ℕ → List ℕ) (tells : Bool) (drawn main : List ℕ)
    → ((n : ℕ) → is_page_number start.base.pages n ≡ true → touched n ≡ writes n) → ((n : ℕ) → is_page_number start.base.pages n ≡ true → writes n ≡ true → plain n ≡ new n)
    → HasNewPages start keys touched plain tells drawn main → HasNewPages start keys writes new tells drawn main
new_as start keys touched writes plain new tells drawn main all same has = record {
  draws = has.draws;
  since = has.since;
  own = record {
    place = has.own.place;
    later = λ n is. has.own.later n (sealed_too n is);
    within = λ n is. has.own.within n (sealed_too n is);
    is_sealed = λ n is. subst (λ (l : List ℕ). page_stored keys main n ≡ sealed keys n l (drawn_at keys.profile.reserve (has.own.place n) has.draws)) (same n (and_true (is_page_number start.base.pages n) (writes n) is).0 (and_true (is_page_number start.base.pages n) (writes n) is).1) (has.own.is_sealed n (sealed_too n is));
    apart = λ m n other is_m is_n. has.own.apart m n other (sealed_too m is_m) (sealed_too n is_n);
  };
  whole = λ n num is. has.whole n num (all n num ∙ is);
  sizes = λ n num is. ap length (sym (same n num is)) ∙ has.sizes n num (all n num ∙ is);
  accepted = λ n num is. has.accepted n num (all n num ∙ is);
  opens = λ n num is. has.opens n num (all n num ∙ is) ∙ same n num is;
  others = λ n num is. has.others n num (all n num ∙ is);
}
  where
    sealed_too : (n : ℕ) → (is_page_number start.base.pages n && writes n) ≡ true → (is_page_number start.base.pages n && touched n) ≡ true
    sealed_too n is =
        let two = and_true (is_page_number start.base.pages n) (writes n) is in
        and_both (is_page_number start.base.pages n) (touched n) two.0 (all n two.0 ∙ two.1)

-- ---- the start

-- nothing is touched yet
pub untouched_seen : (read write : FileKeys) (file : List ℕ) (count n : ℕ) (marks : List Bool) (held : List Page) → held ≡ [] → is_touched marks held n ≡ false
    → (seen_pages read write file count marks held).page n ≡ (opened_pages read file count).page n
untouched_seen read write file count n marks held none untouched =
    let unmarked : is_marked n marks ≡ false = subst (λ (h : List Page). is_touched marks h n ≡ false) none untouched in
    ap (λ (h : List Page). (seen_pages read write file count marks h).page n) none
    ∙ ap (λ (b : Bool). (opened_pages (if b then write else read) file count).page n) unmarked

-- what was written in a transaction that began with this file
pub from_begun : (start : Start) (keys write : FileKeys) (writes : ℕ → Bool) (becomes : ℕ → List ℕ → List ℕ) (files : Files) (count : ℕ) (keys_now write_now : FileKeys) (files_now : Files) (count_now : ℕ)
    (marks : List Bool) (held : List Page) (tells : Bool) (drawn main : List ℕ)
    → keys_now ≡ keys → write_now ≡ write → files_now ≡ files → count_now ≡ count → held ≡ [] → ((n : ℕ) → is_touched marks held n ≡ false)
    → HasNewPages start write_now writes (λ n. becomes n ((seen_pages keys_now write_now (main_of files_now) count_now marks held).page n)) tells drawn main
    → HasNewPages start write writes (λ n. becomes n ((opened_pages keys (main_of files) count).page n)) tells drawn main
from_begun start keys write writes becomes files count keys_now write_now files_now count_now marks held tells drawn main k w f c none untouched has =
    let new : ℕ → List ℕ = λ n. becomes n ((opened_pages keys (main_of files) count).page n) in
    let path : (n : ℕ) → (seen_pages keys_now write_now (main_of files_now) count_now marks held).page n ≡ (opened_pages keys (main_of files) count).page n =
    λ n. untouched_seen keys_now write_now (main_of files_now) count_now n marks held none (untouched n)
    ∙ ap (λ (x : FileKeys). (opened_pages x (main_of files_now) count_now).page n) k
    ∙ ap (λ (x : Files). (opened_pages keys (main_of x) count_now).page n) f
    ∙ ap (λ (x : ℕ). (opened_pages keys (main_of files) x).page n) c in
    subst (λ (x : FileKeys). HasNewPages start x writes new tells drawn main) w
    (new_as start write_now writes writes (λ n. becomes n ((seen_pages keys_now write_now (main_of files_now) count_now marks held).page n)) new tells drawn main
    (λ n num. refl) (λ n num is. ap (becomes n) (path n)) has)
