-- A transaction under way: how it begins, what a call that only reads leaves, and what is seen after a batch.
use Rattle.std.proofs.Common.{◌≡◌, ◌≢◌, ◌⊎◌, inl, inr, ℕ, suc, zero, ◌-◌, ◌*◌, ◌<◌, ◌≤◌, ◌==◌, ◌&&◌, ◌||◌, Bool, true, false, List, [], ◌∷◌, ◌++◌, length, take, drop, replicate, Option, Some, None, Result, Ok, Err, OnOk, is_some, refl, sym, ◌∙◌, ap, subst, arith, append-nil, if◌then◌else◌}
use Rattle.std.specs.Prelude.{get_or, slice_index, unwrap_or}
use Rattle.std.proofs.Math.Nat.{mul-le-mul_right}
use Rattle.std.proofs.Math.Seq.{take-append_seam}
use Rattle.std.proofs.lemmas.List.{take-append-drop, get_or-replicate}
use Rattle.edge_model.specs.Files.{File, Files, bytes_of as bytes_of_file, contents, main_of}
use Rattle.journal_format.specs.Records.{Record}
use Rattle.page_cache.specs.Pages.{Page, held_bytes, is_held}
use Rattle.page_codec.specs.Page.{FileKeys, magic, opened}
use Rattle.pager.specs.Changed.{Changed, IsDrawn, IsListing, IsPageSealed, is_listed, with_bytes}
use Rattle.pager.specs.File.{page_stored}
use Rattle.pager.specs.Held.{bytes_of_page}
use Rattle.pager.specs.Pages.{is_page_number, opened_pages}
use Rattle.pager.specs.UnderWay.{HasNewPages, IsUnderWay, Start, is_touched, keys_at, seen_pages}
use Rattle.pager.proofs.BatchLemmas.{Found, find, batch_pages, number_in, number_is}
use Rattle.pager.proofs.ChangedLemmas.{is_there, listed_at, page_is}
use Rattle.pager.proofs.Filling.{same_number}
use Rattle.page_codec.proofs.Salt.{opened_begins}
use Rattle.rollback_journal.specs.Writing.{Writing}
use Rattle.atomic_commit.specs.Batches.{HasBatches, HasMarked, IsBatchWritten}
use Rattle.atomic_commit.specs.Commit.{AreChanges}
use Rattle.atomic_commit.specs.Database.{Base, stored_page}
use Rattle.atomic_commit.specs.Facts.{Facts, IsCommitBegun}
use Rattle.cipher_profile.specs.Profile.{IsLaidOut, is_plain}
use Rattle.atomic_commit.specs.Marks.{is_marked, marked_count}
use Rattle.atomic_commit.proofs.Batched.{none_or_some, batches_first, count_none}
use Rattle.atomic_commit.proofs.Changed.{changed_none}
use Rattle.atomic_commit.proofs.Kept.{begun_pages}
use Rattle.atomic_commit.proofs.OwnDraws.{own_none}

not_both : (b : Bool) → b ≡ true → b ≡ false → ⊥
not_both b is not = cc

-- ---- fewer images, and the same bytes

facts_less : (base : Base) (safe waiting : List Record) (now : Files) (images fewer : Files → Type 0) → ((c : Files) → fewer c → images c) → Facts base safe waiting now images → Facts base safe waiting now fewer
facts_less base safe waiting now images fewer less f = record {
  base_is = f.base_is;
  old_bytes = f.old_bytes;
  one_each = f.one_each;
  guarded = λ c here. f.guarded c (less c here);
  same_file = λ c here. f.same_file c (less c here);
}

batches_less : (base : Base) (marks : List Bool) (safe waiting : List ℕ → List Record) (left : Files → Type 0) (beside : Files → Files → Type 0) (now : Files) (images fewer : Files → Type 0)
    → ((c : Files) → fewer c → images c) → HasBatches base marks safe waiting left beside now images → HasBatches base marks safe waiting left beside now fewer
batches_less base marks safe waiting left beside now images fewer less has = record {
  begun = λ none. let b = has.begun none in record { base_is = b.base_is; no_journal = λ c here. b.no_journal c (less c here); holds = λ c here. b.holds c (less c here) };
  facts = λ some. facts_less base _ _ now images fewer less (has.facts some);
  journal = λ some. ((has.journal some).0, λ c here. (has.journal some).1 c (less c here));
  recorded = has.recorded;
}

pub under_way_read : (start : Start) (keys : FileKeys) (recorded written : List Bool) (w : Writing) (now new : Files) (images fewer : Files → Type 0) (tells : Bool) (drawn : List ℕ)
    → new ≡ now → ((c : Files) → fewer c → images c) → IsUnderWay start keys recorded written w now images tells drawn → IsUnderWay start keys recorded written w new fewer tells drawn
under_way_read start keys recorded written w now new images fewer tells drawn same less way =
    subst (λ (f : Files). IsUnderWay start keys recorded written w f fewer tells drawn) (sym same)
    (record { batches = batches_less start.base recorded _ _ _ _ now images fewer less way.batches; pages = way.pages })

-- Main has all pages
pub batches_long : (base : Base) (marks : List Bool) (safe waiting : List ℕ → List Record) (left : Files → Type 0) (beside : Files → Files → Type 0) (now : Files) (images : Files → Type 0)
    → images now → HasBatches base marks safe waiting left beside now images → base.pages * base.size ≤ length (main_of now)
batches_long base marks safe waiting left beside now images here has = go (none_or_some (marked_count marks))
  where
    go : (marked_count marks ≡ 0) ⊎ (0 < marked_count marks) → base.pages * base.size ≤ length (main_of now)
    go (inl none) = (begun_pages base images now (has.begun none) here).0.long
    go (inr some) = ((has.facts some).guarded now here).pages.long

-- ---- the beginning

unmarked : (pages n : ℕ) → is_page_number pages n ≡ true → is_marked n (replicate pages false) ≡ false
unmarked pages n num = let range = number_in pages n num in get_or-replicate pages (n - 1) false false (omega (arith, range.0, range.1))

none_marked : (pages i : ℕ) → get_or (replicate pages false) i false ≡ false
none_marked zero i = refl
none_marked (suc pages) zero = refl
none_marked (suc pages) (suc i) = none_marked pages i

-- no page is changed
pub none_touched : (pages n : ℕ) (marks : List Bool) (held : List Page) → marks ≡ replicate pages false → held ≡ [] → is_touched marks held n ≡ false
none_touched pages n marks held unmarked free =
    ap (λ (ms : List Bool). is_touched ms held n) unmarked
    ∙ ap (λ (hs : List Page). is_touched (replicate pages false) hs n) free
    ∙ none_marked pages (n - 1)

none_sealed : (b m : Bool) → (b ≡ true → m ≡ false) → (b && m) ≡ false
none_sealed true m none = none refl
none_sealed false m none = refl

-- nothing was changed, and nothing drawn
pub new_none : (start : Start) (keys : FileKeys) (plain : ℕ → List ℕ) (tells : Bool) (drawn main : List ℕ) → keys.profile.page_size ≡ start.base.size → start.drawn ≡ drawn
    → ((n : ℕ) → is_page_number start.base.pages n ≡ true → stored_page start.base.size n main ≡ stored_page start.base.size n start.base.start)
    → HasNewPages start keys (λ n. is_marked n (replicate start.base.pages false)) plain tells drawn main
new_none start keys plain tells drawn main size same others = record {
  draws = [];
  since = λ told. sym same ∙ sym (append-nil start.drawn);
  own = own_none keys.profile.reserve 0 [] _ _ (λ n. none_sealed (is_page_number start.base.pages n) (is_marked n (replicate start.base.pages false)) (unmarked start.base.pages n));
  whole = λ n num is. absurd (not_both _ is (unmarked start.base.pages n num));
  sizes = λ n num is. absurd (not_both _ is (unmarked start.base.pages n num));
  accepted = λ n num is. absurd (not_both _ is (unmarked start.base.pages n num));
  opens = λ n num is. absurd (not_both _ is (unmarked start.base.pages n num));
  others = λ n num is. subst (λ (s : ℕ). stored_page s n main ≡ stored_page s n start.base.start) (sym size) (others n num);
}

pub under_way_first : (start : Start) (keys : FileKeys) (w : Writing) (now : Files) (images : Files → Type 0) (tells : Bool) (drawn : List ℕ) → keys.profile.page_size ≡ start.base.size → start.drawn ≡ drawn
    → images now → IsCommitBegun start.base images → IsUnderWay start keys (replicate start.base.pages false) (replicate start.base.pages false) w now images tells drawn
under_way_first start keys w now images tells drawn size same here begun = record {
  batches = batches_first start.base (replicate start.base.pages false) _ _ _ _ now images (count_none start.base.pages) begun;
  pages = new_none start keys _ tells drawn (main_of now) size same (λ n num.
      let range = number_in start.base.pages n num in
      let pages = begun_pages start.base images now begun here in
      (changed_none start.base [] (λ k stored. Unit {0}) (main_of now) begun.base_is pages.0.long pages.1).others n range.0 range.1 (λ k lt. absurd (omega (arith, lt))));
}

-- ---- held pages, by their place in the list

found_of : (n : ℕ) (ms : List ℕ) → is_listed n ms ≡ true → (k : ℕ) × (k < length ms) × (slice_index ms k ≡ n)
found_of n [] is = absurd (not_both false is refl)
found_of n (m ∷ ms) is = (elim (m == n) as (λ b. (m == n) ≡ b → (if b then true else is_listed n ms) ≡ true → (k : ℕ) × (k < length (m ∷ ms)) × (slice_index (m ∷ ms) k ≡ n)) [
  | true ↦ λ t listed. (0, omega arith, same_number m n t)
  | false ↦ λ t listed. let rest = found_of n ms listed in (suc rest.0, omega (arith, rest.1), rest.2)
]) refl is

pub held_listed : (c : Changed) (k : ℕ) → IsListing c → k < length c.numbers → is_held (slice_index c.numbers k) c.held ≡ true
held_listed c k listing lt = sym (listing.named (slice_index c.numbers k)) ∙ listed_at k c.numbers lt

pub free_unlisted : (c : Changed) (n : ℕ) → IsListing c → ((k : ℕ) → k < length c.numbers → slice_index c.numbers k ≢ n) → is_held n c.held ≡ false
free_unlisted c n listing none = go (is_held n c.held) refl
  where
    go : (b : Bool) → is_held n c.held ≡ b → is_held n c.held ≡ false
    go false is = is
    go true is = absurd (let at = found_of n c.numbers (listing.named n ∙ is) in none at.0 at.1 at.2)

-- a batch changes no page that was not changed
pub touched_after : (pages : ℕ) (marks after : List Bool) (c : Changed) → IsListing c → HasMarked c.numbers (length c.numbers) marks after → (n : ℕ) → is_page_number pages n ≡ true
    → is_touched after [] n ≡ is_touched marks c.held n
touched_after pages marks after c listing has n num = go (find n c.numbers (length c.numbers))
  where
    go : Found n c.numbers (length c.numbers) → is_touched after [] n ≡ is_touched marks c.held n
    go (inl at) = subst (λ (p : ℕ). is_touched after [] p ≡ is_touched marks c.held p) at.2
        (has.marked at.0 at.1 ∙ sym (ap (λ (b : Bool). b || is_marked (slice_index c.numbers at.0) marks) (held_listed c at.0 listing at.1)))
    go (inr none) = has.others n (number_in pages n num).0 none ∙ sym (ap (λ (b : Bool). b || is_marked n marks) (free_unlisted c n listing none))

some_or : (o : Option (List ℕ)) (x : List ℕ) → is_some o ≡ true → unwrap_or o x ≡ unwrap_or o []
some_or None x some = absurd (not_both false some refl)
some_or (Some y) x some = refl

none_or : (o : Option (List ℕ)) (x : List ℕ) → is_some o ≡ false → unwrap_or o x ≡ x
none_or None x none = refl
none_or (Some y) x none = absurd (not_both true refl none)

-- a page that a frame holds is its bytes
pub held_or : (n : ℕ) (held : List Page) (x : List ℕ) → is_held n held ≡ true → unwrap_or (held_bytes n held) x ≡ bytes_of_page n held
held_or n held x is = some_or (held_bytes n held) x (is_there n held ∙ is)

-- and one that none holds is what it is else
pub free_or : (n : ℕ) (held : List Page) (x : List ℕ) → is_held n held ≡ false → unwrap_or (held_bytes n held) x ≡ x
free_or n held x is = none_or (held_bytes n held) x (is_there n held ∙ is)

pub opened_at : (keys : FileKeys) (file : List ℕ) (count n : ℕ) → is_page_number count n ≡ true → (opened_pages keys file count).page n ≡ opened keys n (page_stored keys file n)
opened_at keys file count n num = ap (λ (b : Bool). if b then opened keys n (page_stored keys file n) else []) num

-- ---- what is seen after a batch

module _ (start : Start) (read write : FileKeys) (marks : List Bool) (c : Changed) (draws main new : List ℕ) (layout : write.profile.page_size ≡ read.profile.page_size) (size : write.profile.page_size ≡ start.base.size)
    (listing : IsListing c) (changes : AreChanges start.base.pages c.numbers) (written : IsBatchWritten start.base main c.numbers (IsPageSealed write c draws) (length c.numbers) new) where
  abbrev Apart : ℕ → Type 0
  Apart n = (k : ℕ) → k < length c.numbers → slice_index c.numbers k ≢ n

  at_listed : (k : ℕ) → k < length c.numbers → IsPageSealed write c draws k (page_stored write new (slice_index c.numbers k))
  at_listed k lt = subst (λ (s : ℕ). IsPageSealed write c draws k (stored_page s (slice_index c.numbers k) new)) (sym size) (written.sealed k lt)

  same : (keys : FileKeys) (n : ℕ) → keys.profile.page_size ≡ start.base.size → is_page_number start.base.pages n ≡ true → Apart n → page_stored keys new n ≡ page_stored keys main n
  same keys n sized num none =
      let range = number_in start.base.pages n num in
      subst (λ (s : ℕ). stored_page s n new ≡ stored_page s n main) (sym sized) (written.others n range.0 range.1 none)

  at_size : (b : Bool) → (if b then write else read).profile.page_size ≡ start.base.size
  at_size true = size
  at_size false = sym layout ∙ size

  module _ (after : List Bool) (has : HasMarked c.numbers (length c.numbers) marks after) where
    seen_at : (n : ℕ) → is_page_number start.base.pages n ≡ true → Found n c.numbers (length c.numbers)
        → (seen_pages read write new start.base.pages after []).page n ≡ (seen_pages read write main start.base.pages marks c.held).page n
    seen_at n num (inl at) = subst (λ (p : ℕ). (seen_pages read write new start.base.pages after []).page p ≡ (seen_pages read write main start.base.pages marks c.held).page p) at.2 (
        let p = slice_index c.numbers at.0 in
        let range = changes.in_range at.0 at.1 in
        opened_at (keys_at read write after p) new start.base.pages p (number_is start.base.pages p range.0 range.1)
        ∙ ap (λ (b : Bool). opened (if b then write else read) p (page_stored (if b then write else read) new p)) (has.marked at.0 at.1)
        ∙ (at_listed at.0 at.1).opens_to
        ∙ sym (held_or p c.held _ (held_listed c at.0 listing at.1))
        )
    seen_at n num (inr none) =
        let range = number_in start.base.pages n num in
        opened_at (keys_at read write after n) new start.base.pages n num
        ∙ ap (λ (b : Bool). opened (if b then write else read) n (page_stored (if b then write else read) new n)) (has.others n range.0 none)
        ∙ ap (λ (l : List ℕ). opened (keys_at read write marks n) n l) (same (keys_at read write marks n) n (at_size (is_marked n marks)) num none)
        ∙ sym (opened_at (keys_at read write marks n) main start.base.pages n num)
        ∙ sym (free_or n c.held _ (free_unlisted c n listing none))

    unnumbered : (n : ℕ) → is_page_number start.base.pages n ≡ false → Apart n
    unnumbered n not k lt is =
        let range = changes.in_range k lt in
        not_both (is_page_number start.base.pages n) (subst (λ (p : ℕ). is_page_number start.base.pages p ≡ true) is (number_is start.base.pages (slice_index c.numbers k) range.0 range.1)) not

    pub seen_after : (n : ℕ) → (seen_pages read write new start.base.pages after []).page n ≡ (seen_pages read write main start.base.pages marks c.held).page n
    seen_after n = go (is_page_number start.base.pages n) refl
      where
        go : (b : Bool) → is_page_number start.base.pages n ≡ b → (seen_pages read write new start.base.pages after []).page n ≡ (seen_pages read write main start.base.pages marks c.held).page n
        go true num = seen_at n num (find n c.numbers (length c.numbers))
        go false not =
            ap (λ (b : Bool). if b then opened (keys_at read write after n) n (page_stored (keys_at read write after n) new n) else []) not
            ∙ sym (ap (λ (b : Bool). if b then opened (keys_at read write marks n) n (page_stored (keys_at read write marks n) main n) else []) not)
            ∙ sym (free_or n c.held _ (free_unlisted c n listing (unnumbered n not)))

    -- the pages of the batch are in Main as they were changed last
    pub pages_after : (tells : Bool) (drawn later : List ℕ) → IsDrawn tells drawn later (length c.numbers * write.profile.reserve) draws
        → HasNewPages start write (λ n. is_marked n marks) (λ n. opened write n (page_stored write main n)) tells drawn main
        → HasNewPages start write (λ n. is_marked n after) (λ n. opened write n (page_stored write new n)) tells later new
    pages_after tells drawn later got old =
        batch_pages start write marks c draws tells drawn later main new (λ n. is_marked n after) (λ n. opened write n (page_stored write new n)) size changes
        has.marked (λ n one none. has.others n one none) (λ k lt. (at_listed k lt).opens_to)
        (λ n num none is. ap (λ (l : List ℕ). opened write n l) (same write n size num none)) written got old

  -- and so they are at the end
  pub pages_ended : (tells : Bool) (drawn later : List ℕ) → IsDrawn tells drawn later (length c.numbers * write.profile.reserve) draws
      → HasNewPages start write (λ n. is_marked n marks) (λ n. opened write n (page_stored write main n)) tells drawn main
      → HasNewPages start write (is_touched marks c.held) (λ n. (seen_pages read write main start.base.pages marks c.held).page n) tells later new
  pages_ended tells drawn later got old =
      batch_pages start write marks c draws tells drawn later main new (is_touched marks c.held) (λ n. (seen_pages read write main start.base.pages marks c.held).page n) size changes
      (λ k lt. ap (λ (b : Bool). b || is_marked (slice_index c.numbers k) marks) (held_listed c k listing lt))
      (λ n one none. ap (λ (b : Bool). b || is_marked n marks) (free_unlisted c n listing none))
      (λ k lt. held_or (slice_index c.numbers k) c.held _ (held_listed c k listing lt))
      (λ n num none is.
      free_or n c.held _ (free_unlisted c n listing none)
      ∙ opened_at (keys_at read write marks n) main start.base.pages n num
      ∙ ap (λ (b : Bool). opened (if b then write else read) n (page_stored (if b then write else read) main n)) is) written got old

-- ---- reading a page

-- both words for the bytes of Main
of_file : (o : Option File) → unwrap_or (bytes_of_file o) [] ≡ contents o
of_file None = refl
of_file (Some f) = refl

pub same_main : (f : Files) → main_of f ≡ main_of f
same_main f = of_file f.main

-- Main has page n
pub there_page : (n size pages : ℕ) (base : Base) (main : List ℕ) → n ≤ pages → pages ≡ base.pages → size ≡ base.size → base.pages * base.size ≤ length main → n * size ≤ length main
there_page n size pages base main le same sized long =
    let up : n * size ≤ pages * size = mul-le-mul_right size le in
    let is : pages * size ≡ base.pages * base.size = ap (λ (p : ℕ). p * size) same ∙ ap (λ (s : ℕ). base.pages * s) sized in
    omega (arith, up, is, long)

-- a buffer that is filled whole
pub laid_whole : (len : ℕ) (new old : List ℕ) → length new ≡ len → take len (new ++ drop (length new) old) ≡ new
laid_whole len new old is = ap (λ (k : ℕ). take k (new ++ drop (length new) old)) (sym is) ∙ take-append_seam new (drop (length new) old)

-- page n as the transaction sees it, where no frame holds it
pub seen_free : (read write : FileKeys) (file : List ℕ) (count n : ℕ) (marks : List Bool) (held : List Page) (b : Bool) → is_page_number count n ≡ true → is_held n held ≡ false → is_marked n marks ≡ b
    → opened (if b then write else read) n (page_stored (if b then write else read) file n) ≡ (seen_pages read write file count marks held).page n
seen_free read write file count n marks held b num free is =
    ap (λ (x : Bool). opened (if x then write else read) n (page_stored (if x then write else read) file n)) (sym is)
    ∙ sym (opened_at (keys_at read write marks n) file count n num)
    ∙ sym (free_or n held _ free)

-- ---- one page is changed

pub seen_put : (read write : FileKeys) (file : List ℕ) (count : ℕ) (marks : List Bool) (old new : List Page) (n : ℕ) (w : List ℕ) → ((m : ℕ) → held_bytes m new ≡ (if m == n then Some w else held_bytes m old)) → (m : ℕ)
    → (seen_pages read write file count marks new).page m ≡ (if m == n then w else (seen_pages read write file count marks old).page m)
seen_put read write file count marks old new n w put m =
    ap (λ (o : Option (List ℕ)). unwrap_or o ((opened_pages (keys_at read write marks m) file count).page m)) (put m)
    ∙ (elim (m == n) as (λ b. unwrap_or (if b then Some w else held_bytes m old) ((opened_pages (keys_at read write marks m) file count).page m) ≡ (if b then w else (seen_pages read write file count marks old).page m)) [
      | true ↦ refl
      | false ↦ refl
    ])

-- a frame holds it, and every other page as before
pub held_put : (old new : List Page) (n : ℕ) (w : List ℕ) → ((m : ℕ) → held_bytes m new ≡ (if m == n then Some w else held_bytes m old)) → (m : ℕ) → is_held m new ≡ (if m == n then true else is_held m old)
held_put old new n w put m =
    sym (is_there m new)
    ∙ ap is_some (put m)
    ∙ ((elim (m == n) as (λ b. is_some (if b then Some w else held_bytes m old) ≡ (if b then true else is_held m old)) [
      | true ↦ refl
      | false ↦ is_there m old
    ]))

-- and one that it held before
pub held_again : (old new : List Page) (n : ℕ) (w : List ℕ) → is_held n old ≡ true → ((m : ℕ) → held_bytes m new ≡ (if m == n then Some w else held_bytes m old)) → (m : ℕ) → is_held m new ≡ is_held m old
held_again old new n w held put m =
    held_put old new n w put m
    ∙ ((elim (m == n) as (λ b. (m == n) ≡ b → (if b then true else is_held m old) ≡ is_held m old) [
      | true ↦ λ t. sym (ap (λ (k : ℕ). is_held k old) (same_number m n t) ∙ held)
      | false ↦ λ t. refl
    ]) refl)

-- so it is changed from now on
pub touched_put : (marks : List Bool) (old new : List Page) (n : ℕ) → ((m : ℕ) → is_held m new ≡ (if m == n then true else is_held m old)) → (m : ℕ)
    → is_touched marks new m ≡ (if m == n then true else is_touched marks old m)
touched_put marks old new n put m =
    ap (λ (b : Bool). b || is_marked m marks) (put m)
    ∙ (elim (m == n) as (λ b. ((if b then true else is_held m old) || is_marked m marks) ≡ (if b then true else is_touched marks old m)) [
      | true ↦ refl
      | false ↦ refl
    ])

-- where it was before, nothing else is changed
pub touched_again : (marks : List Bool) (held : List Page) (n : ℕ) → is_held n held ≡ true → (m : ℕ) → is_touched marks held m ≡ (if m == n then true else is_touched marks held m)
touched_again marks held n is m = (elim (m == n) as (λ b. (m == n) ≡ b → is_touched marks held m ≡ (if b then true else is_touched marks held m)) [
  | true ↦ λ t. ap (λ (b : Bool). b || is_marked m marks) (ap (λ (k : ℕ). is_held k held) (same_number m n t) ∙ is)
  | false ↦ λ t. refl
]) refl

-- what is put is what is seen there, or what replaces it
pub put_same : (m n : ℕ) (w x y z : List ℕ) → w ≡ x → y ≡ z → (if m == n then w else y) ≡ (if m == n then x else z)
put_same m n w x y z same other = ap (λ (l : List ℕ). if m == n then l else y) same ∙ ap (λ (l : List ℕ). if m == n then x else l) other

-- page 1 of an encrypted file begins as each database does
keys_ciphered : (read write : FileKeys) (marks : List Bool) (n : ℕ) → is_plain read.profile ≡ false → is_plain write.profile ≡ false
    → is_plain (keys_at read write marks n).profile ≡ false
keys_ciphered read write marks n old new = either (is_marked n marks)
  where
    either : (b : Bool) → is_plain (if b then write else read).profile ≡ false
    either true = new
    either false = old

keys_laid_out : (read write : FileKeys) (marks : List Bool) (n : ℕ) → IsLaidOut read.profile → IsLaidOut write.profile → IsLaidOut (keys_at read write marks n).profile
keys_laid_out read write marks n old new = either (is_marked n marks)
  where
    either : (b : Bool) → IsLaidOut (if b then write else read).profile
    either true = new
    either false = old

pub seen_begins : (read write : FileKeys) (file : List ℕ) (count n : ℕ) (marks : List Bool) (held : List Page) → IsLaidOut read.profile → IsLaidOut write.profile
    → is_plain read.profile ≡ false → is_plain write.profile ≡ false → n ≡ 1 → is_page_number count n ≡ true → is_held n held ≡ false
    → take 16 ((seen_pages read write file count marks held).page n) ≡ magic
seen_begins read write file count n marks held old_laid new_laid old new is num free =
    ap (λ (l : List ℕ). take 16 l) (free_or n held _ free ∙ opened_at (keys_at read write marks n) file count n num)
    ∙ subst (λ (k : ℕ). take 16 (opened (keys_at read write marks k) k (page_stored (keys_at read write marks k) file k)) ≡ magic) (sym is)
    (opened_begins (keys_at read write marks 1) (page_stored (keys_at read write marks 1) file 1) (keys_laid_out read write marks 1 old_laid new_laid) (keys_ciphered read write marks 1 old new))

magic_whole : (plain : List ℕ) → take 16 plain ≡ magic → with_bytes 0 magic plain ≡ plain
magic_whole plain begins = ap (λ (l : List ℕ). l ++ drop 16 plain) (sym begins) ∙ take-append-drop 16 plain

-- its first bytes are put over it
pub first_put : (n : ℕ) (plain : List ℕ) (old mid new : List Page) → n ≡ 1 → take 16 plain ≡ magic → ((m : ℕ) → held_bytes m mid ≡ (if m == n then Some plain else held_bytes m old))
    → ((m : ℕ) → held_bytes m new ≡ (if m == 1 then Some (with_bytes 0 magic (bytes_of_page 1 mid)) else held_bytes m mid)) → (m : ℕ) → held_bytes m new ≡ (if m == n then Some plain else held_bytes m old)
first_put n plain old mid new is begins bring put m =
    let here : held_bytes 1 mid ≡ Some plain = bring 1 ∙ ap (λ (k : ℕ). if 1 == k then Some plain else held_bytes 1 old) is in
    let whole : with_bytes 0 magic (bytes_of_page 1 mid) ≡ plain = ap (λ (l : List ℕ). with_bytes 0 magic l) (page_is 1 plain mid here) ∙ magic_whole plain begins in
    put m
    ∙ ((elim (m == 1) as (λ b. (m == 1) ≡ b → (if b then Some (with_bytes 0 magic (bytes_of_page 1 mid)) else held_bytes m mid) ≡ (if m == n then Some plain else held_bytes m old)) [
      | true ↦ λ t. ap (λ (l : List ℕ). Some l) whole ∙ sym (ap (λ (b : Bool). if b then Some plain else held_bytes m old) (ap (λ (k : ℕ). m == k) is ∙ t))
      | false ↦ λ t. bring m
    ]) refl)

pub ok_map : {T E : Type 0} {A B : Type 0} (r : Result T E) → OnOk r A → (A → B) → OnOk r B
ok_map (Ok x) a f = f a
ok_map (Err e) a f = a

pub ok_map_two : {T E : Type 0} {A B C : Type 0} (r : Result T E) → OnOk r A → OnOk r B → (A → B → C) → OnOk r C
ok_map_two (Ok x) a b f = f a b
ok_map_two (Err e) a b f = a

pub seen_held : (read write : FileKeys) (file : List ℕ) (count : ℕ) (marks : List Bool) (held : List Page) (n : ℕ) → is_held n held ≡ true → bytes_of_page n held ≡ (seen_pages read write file count marks held).page n
seen_held read write file count marks held n is = sym (held_or n held ((opened_pages (keys_at read write marks n) file count).page n) is)

-- the same pages, by other names
pub seen_as : (read read_now write write_now : FileKeys) (file file_now : List ℕ) (count count_now : ℕ) (marks marks_now : List Bool) (held : List Page) (m : ℕ)
    → read_now ≡ read → write_now ≡ write → file_now ≡ file → count_now ≡ count → marks_now ≡ marks
    → (seen_pages read_now write_now file_now count_now marks_now held).page m ≡ (seen_pages read write file count marks held).page m
seen_as read read_now write write_now file file_now count count_now marks marks_now held m r w f c k =
    ap (λ (x : FileKeys). (seen_pages x write_now file_now count_now marks_now held).page m) r
    ∙ ap (λ (x : FileKeys). (seen_pages read x file_now count_now marks_now held).page m) w
    ∙ ap (λ (x : List ℕ). (seen_pages read write x count_now marks_now held).page m) f
    ∙ ap (λ (x : ℕ). (seen_pages read write file x marks_now held).page m) c
    ∙ ap (λ (x : List Bool). (seen_pages read write file count x held).page m) k

pub zero_times : (n : ℕ) → 0 * n ≡ 0
zero_times n = omega arith

-- the page at a number is what it is
pub same_at : (x : ℕ → List ℕ) (m n : ℕ) → (if m == n then x n else x m) ≡ x m
same_at x m n = (elim (m == n) as (λ b. (m == n) ≡ b → (if b then x n else x m) ≡ x m) [
  | true ↦ λ t. ap x (sym (same_number m n t))
  | false ↦ λ t. refl
]) refl
