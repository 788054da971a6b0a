-- Main after a batch of changed pages: each is sealed with bytes of its own, and all other pages are as they were.
use Rattle.std.proofs.Common.{◌≡◌, ◌≢◌, ◌⊎◌, inl, inr, ℕ, suc, zero, ◌+◌, ◌*◌, ◌<◌, ◌≤◌, ◌&&◌, Bool, true, false, List, ◌++◌, length, take, drop, sym, ◌∙◌, ap, subst, arith, rules, length-append, append_assoc}
use Rattle.std.specs.Prelude.{slice_index}
use Rattle.std.proofs.Math.Nat.{suc-mul, mul-le-mul_right}
use Rattle.std.proofs.Math.Seq.{drop-append-add}
use Rattle.cipher_profile.specs.Profile.{usable}
use Rattle.page_codec.specs.Page.{FileKeys, accepts, opened, sealed}
use Rattle.pager.specs.Changed.{Changed, IsDrawn, IsPageSealed, draw_of}
use Rattle.pager.specs.File.{page_stored}
use Rattle.pager.specs.Held.{bytes_of_page}
use Rattle.pager.specs.Pages.{is_page_number}
use Rattle.pager.specs.UnderWay.{HasNewPages, Start}
use Rattle.atomic_commit.specs.Batches.{IsBatchWritten}
use Rattle.atomic_commit.specs.Commit.{AreChanges}
use Rattle.atomic_commit.specs.Database.{stored_page}
use Rattle.atomic_commit.specs.Draws.{drawn_at}
use Rattle.atomic_commit.specs.Marks.{is_marked}
use Rattle.atomic_commit.proofs.OwnDraws.{same_or, draw_stays}

order : (a b : ℕ) → (a < b) ⊎ (b ≤ a)
order a b = search arith

not_both : (b : Bool) → b ≡ true → b ≡ false → ⊥
not_both b is not = cc

pub and_true : (a b : Bool) → (a && b) ≡ true → (a ≡ true) × (b ≡ true)
and_true a b is = search (rules, is)

pub number_in : (count n : ℕ) → is_page_number count n ≡ true → (1 ≤ n) × (n ≤ count)
number_in count n is = search (rules, is)

pub number_is : (count n : ℕ) → 1 ≤ n → n ≤ count → is_page_number count n ≡ true
number_is count n one le = search (rules, one, le)

-- a number is at one of the first places of the list, or at none
abbrev pub Found : ℕ → List ℕ → ℕ → Type 0
Found n numbers done = ((k : ℕ) × (k < done) × (slice_index numbers k ≡ n)) ⊎ ((k : ℕ) → k < done → slice_index numbers k ≢ n)

pub find : (n : ℕ) (numbers : List ℕ) (done : ℕ) → Found n numbers done
find n numbers zero = inr (λ k lt. absurd (omega (arith, lt)))
find n numbers (suc done) = go (find n numbers done) (same_or (slice_index numbers done) n)
  where
    step : ((k : ℕ) → k < done → slice_index numbers k ≢ n) → slice_index numbers done ≢ n → (k : ℕ) → k < suc done → (k < done) ⊎ (done ≤ k) → slice_index numbers k ≢ n
    step none other k lt (inl small) = none k small
    step none other k lt (inr le) = subst (λ (i : ℕ). slice_index numbers i ≢ n) (let e : done ≡ k = omega (arith, lt, le) in e) other

    go : Found n numbers done → (slice_index numbers done ≡ n) ⊎ (slice_index numbers done ≢ n) → Found n numbers (suc done)
    go (inl before) any = inl (before.0, omega (arith, before.1), before.2)
    go (inr none) (inl is) = inl (done, omega arith, is)
    go (inr none) (inr other) = inr (λ k lt. step none other k lt (order k done))

-- the k-th of so many ranges
range_in : (reserve k count : ℕ) → k < count → k * reserve + reserve ≤ count * reserve
range_in reserve k count lt = omega (arith, suc-mul k reserve, mul-le-mul_right reserve (let e : suc k ≤ count = omega (arith, lt) in e))

drawn_last : (reserve i : ℕ) (before draws : List ℕ) → drawn_at reserve (length before + i) (before ++ draws) ≡ take reserve (drop i draws)
drawn_last reserve i before draws =
    ap (λ (l : List ℕ). take reserve l) (drop-append-add before draws i)

module _ (start : Start) (keys : FileKeys) (marks : List Bool) (c : Changed) (draws : List ℕ) (tells : Bool) (drawn after main new : List ℕ) (touched : ℕ → Bool) (plain : ℕ → List ℕ)
    (size : keys.profile.page_size ≡ start.base.size) (changes : AreChanges start.base.pages c.numbers)
    (listed : (k : ℕ) → k < length c.numbers → touched (slice_index c.numbers k) ≡ true)
    (unlisted : (n : ℕ) → 1 ≤ n → ((k : ℕ) → k < length c.numbers → slice_index c.numbers k ≢ n) → touched n ≡ is_marked n marks)
    (bytes : (k : ℕ) → k < length c.numbers → plain (slice_index c.numbers k) ≡ bytes_of_page (slice_index c.numbers k) c.held)
    (stays : (n : ℕ) → is_page_number start.base.pages n ≡ true → ((k : ℕ) → k < length c.numbers → slice_index c.numbers k ≢ n) → is_marked n marks ≡ true → plain n ≡ opened keys n (page_stored keys main n))
    (written : IsBatchWritten start.base main c.numbers (IsPageSealed keys c draws) (length c.numbers) new)
    (got : IsDrawn tells drawn after (length c.numbers * keys.profile.reserve) draws)
    (old : HasNewPages start keys (λ n. is_marked n marks) (λ n. opened keys n (page_stored keys main n)) tells drawn main) where
  abbrev many : ℕ
  many = length c.numbers

  abbrev reserve : ℕ
  reserve = keys.profile.reserve

  abbrev Apart : ℕ → Type 0
  Apart n = (k : ℕ) → k < many → slice_index c.numbers k ≢ n

  at_listed : (k : ℕ) → k < many → IsPageSealed keys c draws k (page_stored keys new (slice_index c.numbers k))
  at_listed k lt = subst (λ (s : ℕ). IsPageSealed keys c draws k (stored_page s (slice_index c.numbers k) new)) (sym size) (written.sealed k lt)

  same : (n : ℕ) → is_page_number start.base.pages n ≡ true → Apart n → page_stored keys new n ≡ page_stored keys main n
  same n num none =
      let range = number_in start.base.pages n num in
      subst (λ (s : ℕ). stored_page s n new ≡ stored_page s n main) (sym size) (written.others n range.0 range.1 none)

  was : (n : ℕ) → is_page_number start.base.pages n ≡ true → Apart n → (b : Bool) → touched n ≡ b → is_marked n marks ≡ b
  was n num none b is = sym (unlisted n (number_in start.base.pages n num).0 none) ∙ is

  accepted : (n : ℕ) → is_page_number start.base.pages n ≡ true → touched n ≡ true → Found n c.numbers many → accepts keys n (page_stored keys new n) ≡ true
  accepted n num is (inl at) = subst (λ (p : ℕ). accepts keys p (page_stored keys new p) ≡ true) at.2 (at_listed at.0 at.1).accepted
  accepted n num is (inr none) = ap (λ (l : List ℕ). accepts keys n l) (same n num none) ∙ old.accepted n num (was n num none true is)

  whole : (n : ℕ) → is_page_number start.base.pages n ≡ true → touched n ≡ true → Found n c.numbers many → length (page_stored keys new n) ≡ keys.profile.page_size
  whole n num is (inl at) = subst (λ (p : ℕ). length (page_stored keys new p) ≡ keys.profile.page_size) at.2 (at_listed at.0 at.1).size
  whole n num is (inr none) = ap length (same n num none) ∙ old.whole n num (was n num none true is)

  sizes : (n : ℕ) → is_page_number start.base.pages n ≡ true → touched n ≡ true → Found n c.numbers many → length (plain n) ≡ usable keys.profile
  sizes n num is (inl at) = subst (λ (p : ℕ). length (plain p) ≡ usable keys.profile) at.2 (ap length (bytes at.0 at.1) ∙ (at_listed at.0 at.1).plain)
  sizes n num is (inr none) = ap length (stays n num none (was n num none true is)) ∙ old.sizes n num (was n num none true is)

  opens : (n : ℕ) → is_page_number start.base.pages n ≡ true → touched n ≡ true → Found n c.numbers many → opened keys n (page_stored keys new n) ≡ plain n
  opens n num is (inl at) = subst (λ (p : ℕ). opened keys p (page_stored keys new p) ≡ plain p) at.2 ((at_listed at.0 at.1).opens_to ∙ sym (bytes at.0 at.1))
  opens n num is (inr none) = ap (λ (l : List ℕ). opened keys n l) (same n num none) ∙ sym (stays n num none (was n num none true is))

  others : (n : ℕ) → is_page_number start.base.pages n ≡ true → touched n ≡ false → Found n c.numbers many → page_stored keys new n ≡ page_stored keys start.base.start n
  others n num is (inl at) = absurd (not_both (touched n) (subst (λ (p : ℕ). touched p ≡ true) at.2 (listed at.0 at.1)) is)
  others n num is (inr none) = same n num none ∙ old.others n num (was n num none false is)

  -- where the draw of each page is
  abbrev place_by : (n : ℕ) → Found n c.numbers many → ℕ
  place_by n (inl at) = length old.draws + at.0 * reserve
  place_by n (inr none) = old.own.place n

  abbrev is_new : ℕ → Bool
  is_new n = is_page_number start.base.pages n && touched n

  still : (n : ℕ) → is_new n ≡ true → Apart n → (is_page_number start.base.pages n && is_marked n marks) ≡ true
  still n is none =
      let both = and_true (is_page_number start.base.pages n) (touched n) is in
      ap (λ (b : Bool). b && is_marked n marks) both.0 ∙ was n both.0 none true both.1

  within : (n : ℕ) → is_new n ≡ true → (f : Found n c.numbers many) → place_by n f + reserve ≤ length (old.draws ++ draws)
  within n is (inl at) = omega (arith, range_in reserve at.0 many at.1, got.many, length-append old.draws draws)
  within n is (inr none) = omega (arith, old.own.within n (still n is none), length-append old.draws draws)

  is_sealed : (n : ℕ) → is_new n ≡ true → (f : Found n c.numbers many) → page_stored keys new n ≡ sealed keys n (plain n) (drawn_at reserve (place_by n f) (old.draws ++ draws))
  is_sealed n is (inl at) =
      subst (λ (p : ℕ). page_stored keys new p ≡ sealed keys p (plain p) (drawn_at reserve (length old.draws + at.0 * reserve) (old.draws ++ draws))) at.2
      ((at_listed at.0 at.1).is
      ∙ ap (λ (l : List ℕ). sealed keys (slice_index c.numbers at.0) l (draw_of reserve draws at.0)) (sym (bytes at.0 at.1))
      ∙ ap (λ (l : List ℕ). sealed keys (slice_index c.numbers at.0) (plain (slice_index c.numbers at.0)) l) (sym (drawn_last reserve (at.0 * reserve) old.draws draws)))
  is_sealed n is (inr none) =
      let both = and_true (is_page_number start.base.pages n) (touched n) is in
      let marked = still n is none in
      same n both.0 none
      ∙ old.own.is_sealed n marked
      ∙ ap (λ (l : List ℕ). sealed keys n l (drawn_at reserve (old.own.place n) old.draws)) (sym (stays n both.0 none (was n both.0 none true both.1)))
      ∙ ap (λ (l : List ℕ). sealed keys n (plain n) l) (sym (draw_stays reserve (old.own.place n) old.draws draws (old.own.within n marked)))

  apart_by : (j k : ℕ) → (j < k) ⊎ (k ≤ j) → j ≢ k → ((length old.draws + j * reserve) + reserve ≤ length old.draws + k * reserve) ⊎ ((length old.draws + k * reserve) + reserve ≤ length old.draws + j * reserve)
  apart_by j k (inl lt) other = inl (omega (arith, range_in reserve j k lt))
  apart_by j k (inr le) other = inr (omega (arith, range_in reserve k j (let e : k < j = omega (arith, le, other) in e)))

  apart : (m n : ℕ) → m ≢ n → is_new m ≡ true → is_new n ≡ true → (f : Found m c.numbers many) → (g : Found n c.numbers many) → (place_by m f + reserve ≤ place_by n g) ⊎ (place_by n g + reserve ≤ place_by m f)
  apart m n other is_m is_n (inl f) (inl g) = apart_by f.0 g.0 (order f.0 g.0) (λ e. other (sym f.2 ∙ ap (λ (i : ℕ). slice_index c.numbers i) e ∙ g.2))
  apart m n other is_m is_n (inl f) (inr none) = inr (omega (arith, old.own.within n (still n is_n none)))
  apart m n other is_m is_n (inr none) (inl g) = inl (omega (arith, old.own.within m (still m is_m none)))
  apart m n other is_m is_n (inr none) (inr too) = old.own.apart m n other (still m is_m none) (still n is_n too)

  pub batch_pages : HasNewPages start keys touched plain tells after new
  batch_pages = record {
    draws = old.draws ++ draws;
    since = λ told. got.told told ∙ ap (λ (l : List ℕ). l ++ draws) (old.since told) ∙ append_assoc start.drawn old.draws draws;
    own = record {
      place = λ n. place_by n (find n c.numbers many);
      later = λ n is. omega arith;
      within = λ n is. within n is (find n c.numbers many);
      is_sealed = λ n is. is_sealed n is (find n c.numbers many);
      apart = λ m n other is_m is_n. apart m n other is_m is_n (find m c.numbers many) (find n c.numbers many);
    };
    whole = λ n num is. whole n num is (find n c.numbers many);
    sizes = λ n num is. sizes n num is (find n c.numbers many);
    accepted = λ n num is. accepted n num is (find n c.numbers many);
    opens = λ n num is. opens n num is (find n c.numbers many);
    others = λ n num is. others n num is (find n c.numbers many);
  }
