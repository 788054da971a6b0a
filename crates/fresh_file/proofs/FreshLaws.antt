-- A new file, and one page more in it.
use Rattle.std.proofs.Common.{IsTrue, ◌≡◌, ◌≢◌, ◌⊎◌, inl, inr, ℕ, ◌+◌, ◌-◌, ◌*◌, ◌==◌, ◌≤◌, Bool, true, false, List, [], ◌∷◌, ◌++◌, length, take, drop, Option, Some, None, refl, sym, ◌∙◌, ap, subst, arith, rules, length-append, if◌then◌else◌}
use Rattle.std.specs.Option.{option_map}
use Rattle.std.specs.Prelude.{nat_le, nat_lt, ◌&&◌, ◌||◌}
use Rattle.std.proofs.lemmas.Bool.{eqb-true, eqb-false}
use Rattle.std.proofs.lemmas.Bool.Decides.{nat_tests}
use Rattle.std.proofs.lemmas.List.{length-take, take-append-le, take_at}
use Rattle.std.proofs.Math.Nat.{mul-le-mul_right}
use Rattle.edge_model.specs.Files.{written, Torn}
use Rattle.fresh_disk.specs.Torn.{MayTear}
use Rattle.cipher_profile.specs.Profile.{IsLaidOut, is_clear}
use Rattle.page_codec.specs.Page.{FileKeys, magic, opened, salt_of, sealed}
use Rattle.db_format.specs.declared.header.Header.{Header}
use Rattle.db_format.specs.Header.{header_bytes}
use Rattle.db_format.specs.Pages.{Pages, Test, also, is_page, nothing}
use Rattle.db_format.specs.Seen.{marked}
use Rattle.page_build.specs.Draft.{laid}
use Rattle.bulk_load.specs.Out.{AreAllPut}
use Rattle.atomic_commit.specs.Draws.{OwnDraws}
use Rattle.atomic_commit.proofs.OwnDraws.{own_next, own_none, same_or}
use Rattle.fresh_file.specs.Sealed.{IsSealed, IsSealedWith, IsSealing, plain_page}
use Rattle.fresh_file.specs.declared.state.FreshState.{FreshState}
use Rattle.fresh_file.specs.State.{fresh_pages}
use Rattle.fresh_file.specs.Fresh.{IsFinished, IsOwned, IsPaged, IsWell, fresh_contents, fresh_page, sized_page, with_head}
use Rattle.fresh_file.proofs.SaltLaws.{salt_first}
use Rattle.fresh_file.proofs.PageLaws.{opens_here, page_end, page_stays, sealed_here, sealed_stays, torn_page}

-- ---- marks

pub also_here : (n : ℕ) (put : Test) → also (n ∷ []) put n ≡ true
also_here n put = grind (arith, nat_tests)

pub also_more : (n m : ℕ) (put : Test) → m ≢ n → also (n ∷ []) put m ≡ put m
also_more n m put other = grind (arith, nat_tests, other)

page_range : (pages : Pages) (n : ℕ) → is_page pages n ≡ true → (1 ≤ n) × (n ≤ pages.count)
page_range pages n is = (grind (arith, nat_tests, is), grind (arith, nat_tests, is))

-- ---- one page more

module _ (keys : FileKeys) (put : Test) (n : ℕ) (plain draw : List ℕ) (fresh after : Option (List ℕ)) (sealing : IsSealing keys n plain draw)
    (is : after ≡ option_map (written ((n - 1) * keys.profile.page_size) (sealed keys n plain draw)) fresh) where
  abbrev size : ℕ
  size = keys.profile.page_size

  abbrev change : List ℕ → List ℕ
  change = written ((n - 1) * size) (sealed keys n plain draw)

  torn : (file : List ℕ) → Torn ((n - 1) * size) size file (change file)
  torn file = torn_page size n (sealed keys n plain draw) file sealing.size

  after_is : (file : List ℕ) → fresh ≡ Some file → after ≡ Some (change file)
  after_is file was = is ∙ ap (λ (o : Option (List ℕ)). option_map change o) was

  before_is : (file : List ℕ) → after ≡ Some file → (old : List ℕ) × (fresh ≡ Some old) × (file ≡ change old)
  before_is file now = go fresh refl
    where
      go : (o : Option (List ℕ)) → fresh ≡ o → (old : List ℕ) × (fresh ≡ Some old) × (file ≡ change old)
      go None was = absurd (no_file (is ∙ ap (λ (o : Option (List ℕ)). option_map change o) was) now)
        where
          no_file : after ≡ None → after ≡ Some file → ⊥
          no_file none some = search rules
      go (Some old) was = (old, was, ap fresh_contents (sym now ∙ after_is old was))

  sealed_next : (file : List ℕ) → ((m : ℕ) → put m ≡ true → IsSealed keys file m) → (m : ℕ) → also (n ∷ []) put m ≡ true → IsSealed keys (change file) m
  sealed_next file was m has = go (same_or m n)
    where
      go : (m ≡ n) ⊎ (m ≢ n) → IsSealed keys (change file) m
      go (inl same) = (draw, subst (λ (k : ℕ). IsSealedWith keys (change file) k draw) (sym same) (sealed_here keys n plain draw file sealing))
      go (inr other) =
          let old = was m (sym (also_more n m put other) ∙ has) in
          (old.0, sealed_stays keys m n old.0 file (change file) sealing.numbered other (torn file) old.1)

  pub paged_next : (count : ℕ) → n ≤ count → IsPaged keys put count fresh → IsPaged keys (also (n ∷ []) put) count after
  paged_next count le was = record {
    file = change was.file;
    is = after_is was.file was.is;
    sealed = sealed_next was.file was.sealed;
    short = omega (arith, (torn was.file).no_longer, was.short, page_end size n sealing.numbered, mul-le-mul_right size le);
  }

  pub owned_next : (start : ℕ) (drawn now : List ℕ) → now ≡ drawn ++ draw → IsOwned keys put start fresh drawn → IsOwned keys (also (n ∷ []) put) start after now
  owned_next start drawn now grown was = record {
    begun = omega (arith, was.begun, ap (λ (l : List ℕ). length l) grown, length-append drawn draw);
    own = λ file there. own file there;
  }
    where
      own : (file : List ℕ) → after ≡ Some file → OwnDraws keys.profile.reserve start now (also (n ∷ []) put) (IsSealedWith keys file)
      own file there =
          let old = before_is file there in
          subst (λ (l : List ℕ). OwnDraws keys.profile.reserve start now (also (n ∷ []) put) (IsSealedWith keys l)) (sym old.2)
          (subst (λ (l : List ℕ). OwnDraws keys.profile.reserve start l (also (n ∷ []) put) (IsSealedWith keys (change old.0))) (sym grown)
          (own_next keys.profile.reserve start drawn draw n put (also (n ∷ []) put) (IsSealedWith keys old.0) (IsSealedWith keys (change old.0)) was.begun sealing.drawn
          (sealed_here keys n plain draw old.0 sealing)
          (λ m other has. sym (also_more n m put other) ∙ has)
          (λ m with other seals. sealed_stays keys m n with old.0 (change old.0) sealing.numbered other (torn old.0) seals)
          (was.own old.0 old.1)))

  pub well_next : (count start : ℕ) (tells draws_tell : Bool) (drawn now : List ℕ) → n ≤ count → (IsTrue draws_tell → now ≡ drawn ++ draw)
      → IsWell keys put count start tells draws_tell fresh drawn → IsWell keys (also (n ∷ []) put) count start tells draws_tell after now
  well_next count start tells draws_tell drawn now le grown was =
      record { told = was.told; paged = paged_next count le was.paged; owned = λ tell. owned_next start drawn now (grown tell) (was.owned tell) }

  pub here_next : (count : ℕ) → IsPaged keys put count fresh → plain_page keys n (fresh_contents after) ≡ plain
  here_next count was =
      ap (λ (o : Option (List ℕ)). plain_page keys n (fresh_contents o)) (after_is was.file was.is) ∙ opens_here keys n plain draw was.file sealing

-- ---- the other pages, whatever became of a write to page n

pub others_stay : (keys : FileKeys) (put : Test) (count n : ℕ) (fresh after : Option (List ℕ)) → 1 ≤ n → MayTear ((n - 1) * keys.profile.page_size) keys.profile.page_size fresh after
    → IsPaged keys put count fresh → (m : ℕ) → put m ≡ true → m ≢ n → plain_page keys m (fresh_contents after) ≡ plain_page keys m (fresh_contents fresh)
others_stay keys put count n fresh after one (inl same) was m has other = ap (λ (o : Option (List ℕ)). plain_page keys m (fresh_contents o)) same
others_stay keys put count n fresh after one (inr torn) was m has other =
    let stood = (was.sealed m has).1 in
    let old : was.file ≡ torn.before = ap fresh_contents (sym was.is ∙ torn.was) in
    let whole = subst (λ (l : List ℕ). m * keys.profile.page_size ≤ length l) old stood.whole in
    ap (λ (o : Option (List ℕ)). plain_page keys m (fresh_contents o)) torn.is
    ∙ ap (λ (l : List ℕ). opened keys m l) (page_stays keys.profile.page_size m n torn.before torn.after stood.numbered one whole other torn.torn)
    ∙ sym (ap (λ (o : Option (List ℕ)). plain_page keys m (fresh_contents o)) torn.was)

-- what is read of a page that was put, but of page 1
pub page_here : (keys : FileKeys) (first : List ℕ) (put : Test) (held : ℕ → List ℕ → List ℕ) (fresh : Option (List ℕ)) (n : ℕ) → (n ≡ 1 → ⊥) → put n ≡ true
    → fresh_page keys first put held fresh n ≡ held n (plain_page keys n (fresh_contents fresh))
page_here keys first put held fresh n high has = go (n == 1) (put n) refl has
  where
    go : (a b : Bool) → (n == 1) ≡ a → b ≡ true
        → (if a then first else (if b then held n (plain_page keys n (fresh_contents fresh)) else [])) ≡ held n (plain_page keys n (fresh_contents fresh))
    go true b low at = absurd (high (eqb-true n 1 low))
    go false true low at = refl
    go false false low at = absurd (search rules)

-- ---- before the first page

none_marked : (put : Test) → put ≡ nothing → (n : ℕ) → put n ≡ true → ⊥
none_marked put none n has = let e : false ≡ true = sym (ap (λ (t : Test). t n) none) ∙ has in search rules

pub none_taken : (put : Test) (count : ℕ) → put ≡ nothing → (n : ℕ) → put n ≡ true → n ≤ count
none_taken put count none n has = absurd (none_marked put none n has)

pub none_accepted : (first : Bool) (put : Test) → first ≡ false → put ≡ nothing → (n : ℕ) → (if n == 1 then first else put n) ≡ false
none_accepted first put none_first none n = ap (λ (b : Bool). if n == 1 then b else put n) none_first ∙ go (n == 1)
  where
    go : (b : Bool) → (if b then false else put n) ≡ false
    go true = refl
    go false = ap (λ (t : Test). t n) none

pub well_none : (keys : FileKeys) (put : Test) (count start : ℕ) (tells draws_tell : Bool) (fresh : Option (List ℕ)) (drawn : List ℕ) → put ≡ nothing → start ≤ length drawn
    → IsTrue tells → fresh ≡ Some [] → IsWell keys put count start tells draws_tell fresh drawn
well_none keys put count start tells draws_tell fresh drawn none begun told is = record {
  told = told;
  paged = record { file = []; is = is; sealed = λ n has. absurd (none_marked put none n has); short = omega arith };
  owned = λ tell. record { begun = begun; own = λ file there. own_none keys.profile.reserve start drawn put (IsSealedWith keys file) (λ n. ap (λ (t : Test). t n) none) };
}

-- ---- numbers

-- a number that was put was taken
pub taken_next : (put other : Test) (n count : ℕ) → other ≡ also (n ∷ []) put → n ≤ count → ((m : ℕ) → put m ≡ true → m ≤ count) → (m : ℕ) → other m ≡ true → m ≤ count
taken_next put other n count same le was m has = go (same_or m n)
  where
    go : (m ≡ n) ⊎ (m ≢ n) → m ≤ count
    go (inl at) = subst (λ (k : ℕ). k ≤ count) (sym at) le
    go (inr off) = was m (sym (also_more n m put off) ∙ sym (ap (λ (t : Test). t m) same) ∙ has)

-- what is accepted once page n is put
pub accepts_here : (first : Bool) (put other : Test) (n : ℕ) → 2 ≤ n → other ≡ also (n ∷ []) put → (if n == 1 then first else other n) ≡ true
accepts_here first put other n high same = go (n == 1) refl
  where
    go : (b : Bool) → (n == 1) ≡ b → (if b then first else other n) ≡ true
    go true low = absurd (let e : n ≡ 1 = eqb-true n 1 low in omega (arith, e, high))
    go false low = ap (λ (t : Test). t n) same ∙ also_here n put

differs : (n k : ℕ) → (n == k) ≡ false → k ≢ n
differs n k apart same = eqb-false n k apart (sym same)

pub mark_others : (put other : Test) (n k : ℕ) → other ≡ also (n ∷ []) put → (n == k) ≡ false → other k ≡ put k
mark_others put other n k same apart = ap (λ (t : Test). t k) same ∙ also_more n k put (differs n k apart)

pub accepts_others : (first : Bool) (put other : Test) (n k : ℕ) → other ≡ also (n ∷ []) put → (n == k) ≡ false
    → (if k == 1 then first else other k) ≡ (if k == 1 then first else put k)
accepts_others first put other n k same apart = ap (λ (b : Bool). if k == 1 then first else b) (mark_others put other n k same apart)

-- ---- the end

-- where each page was put, each number above 1 has its mark
pub all_marked : (first : Bool) (put : Test) (count : ℕ) → ((n : ℕ) → (nat_le 1 n && nat_le n count) ≡ true → (if n == 1 then first else put n) ≡ true)
    → (n : ℕ) → 2 ≤ n → n ≤ count → put n ≡ true
all_marked first put count all n high le = sym (ap (λ b. if b then first else put n) (above_one n high)) ∙ all n (within n high le)
  where
    above_one : (k : ℕ) → 2 ≤ k → (k == 1) ≡ false
    above_one k h = grind (arith, nat_tests, h)

    within : (k : ℕ) → 2 ≤ k → k ≤ count → (nat_le 1 k && nat_le k count) ≡ true
    within k h g = grind (arith, nat_tests, h, g)

-- so are two pages
pub two_put : (state : FreshState) (fresh : Option (List ℕ)) → state.taken ≡ 1 → state.has_first ≡ true → marked state.put 2 ≡ true → AreAllPut (fresh_pages state fresh)
two_put state fresh taken first second n is = by_first (n == 1) refl
  where
    is_two : (k p : ℕ) → p ≡ 1 → (nat_le 1 k && nat_le k (p + 1)) ≡ true → (k == 1) ≡ false → k ≡ 2
    is_two k p one inside other = grind (arith, nat_tests)

    by_first : (b : Bool) → (n == 1) ≡ b → (if n == 1 then state.has_first else marked state.put n) ≡ true
    by_first true one = ap (λ b. if b then state.has_first else marked state.put n) one ∙ first
    by_first false other =
        ap (λ b. if b then state.has_first else marked state.put n) other ∙ ap (marked state.put) (is_two n state.taken taken is other) ∙ second

pub head_first : (head rest bytes magic : List ℕ) → length head ≡ 100 → bytes ≡ head ++ rest → take 16 head ≡ magic → take 16 bytes ≡ magic
head_first head rest bytes magic sized_page is begins = ap (λ (l : List ℕ). take 16 l) is ∙ take-append-le 16 head rest (omega (arith, sized_page)) ∙ begins

-- a page with a header in front begins with the magic
header_first : (h : Header) (page : List ℕ) → take 16 (with_head (header_bytes h) page) ≡ magic
header_first h page = refl

-- own draws of fewer pages
own_fewer : (reserve start : ℕ) (drawn : List ℕ) (put other : Test) (seals : ℕ → List ℕ → Type 0) → ((n : ℕ) → other n ≡ true → put n ≡ true)
    → OwnDraws reserve start drawn put seals → OwnDraws reserve start drawn other seals
own_fewer reserve start drawn put other seals fewer own = record {
  place = own.place;
  later = λ n has. own.later n (fewer n has);
  within = λ n has. own.within n (fewer n has);
  is_sealed = λ n has. own.is_sealed n (fewer n has);
  apart = λ m n other_page has_m has_n. own.apart m n other_page (fewer m has_m) (fewer n has_n);
}

module _ (keys : FileKeys) (header : Header) (page : ℕ → List ℕ) (head : List ℕ) (put accepts : Test) (count usable start : ℕ) (tells draws_tell : Bool) (mid after : Option (List ℕ)) (drawn now : List ℕ) (one : 1 ≤ count)
    (well : IsWell keys (also (1 ∷ []) put) count start tells draws_tell mid drawn)
    (here : plain_page keys 1 (fresh_contents mid) ≡ with_head head (page 1))
    (stays : (m : ℕ) → put m ≡ true → (m ≡ 1 → ⊥) → plain_page keys m (fresh_contents mid) ≡ page m)
    (is_head : head ≡ header_bytes (sized_page header count))
    (all : (n : ℕ) → 2 ≤ n → n ≤ count → put n ≡ true)
    (salt : length keys.salt ≡ 16) (room : 16 ≤ keys.profile.page_size) (plainly : is_clear keys.profile ≡ true → keys.salt ≡ magic) (laid_out : IsLaidOut keys.profile)
    (same : after ≡ mid) (no_draw : now ≡ drawn) where
  abbrev pages : Pages
  pages = record { count = count; usable = usable; page = page; accepts = accepts }

  put_of : (n : ℕ) → is_page pages n ≡ true → also (1 ∷ []) put n ≡ true
  put_of n is = go (same_or n 1)
    where
      range : (1 ≤ n) × (n ≤ count)
      range = page_range pages n is

      go : (n ≡ 1) ⊎ (n ≢ 1) → also (1 ∷ []) put n ≡ true
      go (inl at) = subst (λ (k : ℕ). also (1 ∷ []) put k ≡ true) (sym at) (also_here 1 put)
      go (inr off) = also_more 1 n put off ∙ all n (omega (arith, range.0, off)) range.1

  file_is : fresh_contents mid ≡ well.paged.file
  file_is = ap fresh_contents well.paged.is

  last_put : also (1 ∷ []) put count ≡ true
  last_put = put_of count (whole_range count one)
    where
      whole_range : (n : ℕ) → 1 ≤ n → (nat_le 1 n && nat_le n n) ≡ true
      whole_range n le = grind (arith, nat_tests, le)

  begins : salt_of well.paged.file ≡ keys.salt
  begins = salt_first keys well.paged.file (well.paged.sealed 1 (also_here 1 put)) laid_out salt room
      (λ plain. ap (λ (l : List ℕ). take 16 (plain_page keys 1 l)) (sym file_is) ∙ ap (λ (l : List ℕ). take 16 l) here
      ∙ ap (λ (l : List ℕ). take 16 (with_head l (page 1))) is_head ∙ header_first (sized_page header count) (page 1)
      ∙ sym (plainly (ap (λ (b : Bool). b || nat_lt 0 keys.profile.plain_header) plain)))

  pub finished : IsFinished keys header pages start draws_tell after now
  finished = record {
    file = well.paged.file;
    is = same ∙ well.paged.is;
    salt = begins;
    clear = λ clear. begins ∙ plainly clear;
    size = omega (arith, (well.paged.sealed count last_put).1.whole, well.paged.short);
    sealed = λ n is. well.paged.sealed n (put_of n is);
    first = ap (λ (l : List ℕ). plain_page keys 1 l) (sym file_is) ∙ here ∙ ap (λ (l : List ℕ). with_head l (page 1)) is_head;
    others = λ n high le.
        ap (λ (l : List ℕ). plain_page keys n l) (sym file_is)
        ∙ stays n (all n high le) (λ low. absurd (omega (arith, low, high)));
    own = λ tell.
        subst (λ (l : List ℕ). OwnDraws keys.profile.reserve start l (is_page pages) (IsSealedWith keys well.paged.file)) (sym no_draw)
        (own_fewer keys.profile.reserve start drawn (also (1 ∷ []) put) (is_page pages) (IsSealedWith keys well.paged.file) put_of ((well.owned tell).own well.paged.file well.paged.is));
  }

-- ---- bytes

pub laid_start : (head page : List ℕ) → laid 0 head page ≡ with_head head page
laid_start head page = ap (λ (k : ℕ). head ++ drop k page) (let e : 0 + length head ≡ length head = omega arith in e)

-- what is written back over as many bytes is all there is
pub written_is : (n : ℕ) (new old : List ℕ) → length new ≡ n → take n (new ++ drop (length new) old) ≡ new
written_is n new old sized_page = take_at new (drop (length new) old) n sized_page

-- as many bytes are written back as there were
pub written_back : (n : ℕ) (new old : List ℕ) → length new ≡ n → length (take n (new ++ drop (length new) old)) ≡ n
written_back n new old sized_page = omega (arith, length-take n (new ++ drop (length new) old), length-append new (drop (length new) old), sized_page)
