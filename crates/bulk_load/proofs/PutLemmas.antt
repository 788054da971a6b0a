-- What puts keep, one after another.
use Rattle.std.proofs.Common.{◌≡◌, ◌≤◌, ℕ, ◌+◌, Bool, true, false, List, ◌==◌, ◌&&◌, Result, Ok, Err, OnOk, refl, ap, sym, ◌∙◌, arith}
use Rattle.std.specs.Prelude.{nat_le, nat_lt}
use Rattle.std.proofs.lemmas.Bool.{eqb-true}
use Rattle.std.specs.Cmp.Derive.{both_true}
use Rattle.db_format.specs.Pages.{Pages, Test}
use Rattle.load_model.specs.Stands.{IsPut}
use Rattle.bulk_load.specs.Out.{AreAllPut, Faults, Follows, IsPutAs, IsNumberTaken, KeepsPages, MarksAt, SameBut, is_new}
use Rattle.bulk_load.specs.Own.{Covers, only}

new_left : (a b c k : ℕ) → a ≤ b → b ≤ c → (nat_lt a k && nat_le k c) ≡ false → (nat_lt a k && nat_le k b) ≡ false
new_left a b c k h g old = grind arith

new_right : (a b c k : ℕ) → a ≤ b → b ≤ c → (nat_lt a k && nat_le k c) ≡ false → (nat_lt b k && nat_le k c) ≡ false
new_right a b c k h g old = grind arith

new_either : (a b c k : ℕ) → (nat_lt a k && nat_le k c) ≡ true → (nat_lt a k && nat_le k b) ≡ false → (nat_lt b k && nat_le k c) ≡ true
new_either a b c k new left = grind arith

new_none : (a k : ℕ) → (nat_lt a k && nat_le k a) ≡ false
new_none a k = grind arith

new_one : (a k : ℕ) → (nat_lt a k && nat_le k (a + 1)) ≡ true → k ≡ a + 1
new_one a k h = grind arith

old_one : (a n k : ℕ) → n ≡ a + 1 → (nat_lt a k && nat_le k (a + 1)) ≡ false → (n == k) ≡ false
old_one a n k is h = grind arith

le_and : (a b c d : ℕ) → a ≤ b → c ≤ d → (nat_le a b && nat_le c d) ≡ true
le_and a b c d h g = grind arith

new_more_left : (a b c k : ℕ) → b ≤ c → (nat_lt a k && nat_le k b) ≡ true → (nat_lt a k && nat_le k c) ≡ true
new_more_left a b c k h new = grind arith

new_more_right : (a b c k : ℕ) → a ≤ b → (nat_lt b k && nat_le k c) ≡ true → (nat_lt a k && nat_le k c) ≡ true
new_more_right a b c k h new = grind arith

new_here : (a c n : ℕ) → c ≡ a + 1 → n ≡ c → (nat_lt a n && nat_le n c) ≡ true
new_here a c n one is = grind arith

later_new : (m p q k : ℕ) → m ≡ 1 → (nat_le 1 k && nat_le k q) ≡ true → (k == 1) ≡ false → (nat_lt m k && nat_le k p) ≡ false → (nat_lt p k && nat_le k q) ≡ true
later_new m p q k one inside other old = grind arith

-- a test that covers a stretch covers its parts
pub covers_before : (first : Bool) (own : Test) (a b c : Pages) → b.count ≤ c.count → Covers first own a c → Covers false own a b
covers_before first own a b c le covers =
    record { taken = λ k new. covers.taken k (new_more_left a.count b.count c.count k le new); one = λ no. cc }

pub covers_behind : (first : Bool) (own : Test) (a b c : Pages) → a.count ≤ b.count → Covers first own a c → Covers first own b c
covers_behind first own a b c le covers =
    record { taken = λ k new. covers.taken k (new_more_right a.count b.count c.count k le new); one = covers.one }

pub covers_taken : (first : Bool) (own : Test) (a b : Pages) → Covers first own a b → Covers false own a b
covers_taken first own a b covers = record { taken = covers.taken; one = λ no. cc }

fails_too : (b c : Bool) → c ≡ false → (b && c) ≡ false
fails_too true c h = h
fails_too false c h = refl

-- a page of one's own was put
pub put_own : (own : Test) (old new : Pages) (n : ℕ) → own n ≡ true → IsPut old new n → IsPut (only own old) (only own new) n
put_own own old new n mine put = record {
  fresh = fails_too (own n) (old.accepts n) put.fresh;
  put = both_true mine put.put;
  size = put.size;
  range = put.range;
  stays = put.stays;
  stays_put = λ k other. ap (λ b. own k && b) (put.stays_put k other);
}

-- what was not put later was not put before
pub unput : (old mid : Pages) (n : ℕ) → ((k : ℕ) → old.accepts k ≡ true → mid.accepts k ≡ true) → mid.accepts n ≡ false → old.accepts n ≡ false
unput old mid n keep h = here (old.accepts n) refl
  where
    here : (b : Bool) → old.accepts n ≡ b → old.accepts n ≡ false
    here false is = is
    here true is = let no : true ≡ false = sym (keep n is) ∙ h in cc

module _ {S : Type 0} (pages : S → Pages) (limit : S → ℕ) (faults : S → Faults) (well : ℕ → S → Type 0) where
  pub keeps_same : (a : S) → KeepsPages pages limit faults well false a a
  keeps_same a = record {
    size = refl;
    count = omega arith;
    put = λ k h. h;
    others = λ k free h. refl;
    free = λ k h. let no : true ≡ false = sym h ∙ new_none (pages a).count k in cc;
    page = λ start w k h. refl;
    limit_is = refl;
    disk = omega arith;
    entropy = omega arith;
  }

  pub keeps_after : (first : Bool) (a b c : S) → Follows pages limit faults well false a b → KeepsPages pages limit faults well first b c
      → KeepsPages pages limit faults well first a c
  keeps_after first a b c f k = record {
    size = k.size ∙ f.keeps.size;
    count = let one = f.keeps.count in let two = k.count in omega arith;
    put = λ n h. k.put n (f.keeps.put n h);
    others = λ n free h.
        k.others n free (new_right (pages a).count (pages b).count (pages c).count n f.keeps.count k.count h)
        ∙ f.keeps.others n refl (new_left (pages a).count (pages b).count (pages c).count n f.keeps.count k.count h);
    free = λ n h. free_at n h (is_new (pages a) (pages b) n) refl;
    page = λ start w n h. k.page start (f.told start w) n (f.keeps.put n h) ∙ f.keeps.page start w n h;
    limit_is = k.limit_is ∙ f.keeps.limit_is;
    disk = let one = f.keeps.disk in let two = k.disk in omega arith;
    entropy = let one = f.keeps.entropy in let two = k.entropy in omega arith;
  }
    where
      free_at : (n : ℕ) → is_new (pages a) (pages c) n ≡ true → (b' : Bool) → is_new (pages a) (pages b) n ≡ b' → (pages a).accepts n ≡ false
      free_at n h true is = f.keeps.free n is
      free_at n h false is =
          unput (pages a) (pages b) n f.keeps.put (k.free n (new_either (pages a).count (pages b).count (pages c).count n h is))

  pub follows_same : (a : S) → Follows pages limit faults well false a a
  follows_same a = record {
    keeps = keeps_same a;
    puts = λ k h. let no : true ≡ false = sym h ∙ new_none (pages a).count k in cc;
    puts_first = λ h. cc;
    told = λ start w. w;
  }

  pub follows_all : (first : Bool) (a b c : S) → Follows pages limit faults well false a b → Follows pages limit faults well first b c
      → Follows pages limit faults well first a c
  follows_all first a b c f g = record {
    keeps = keeps_after first a b c f g.keeps;
    puts = λ n h. at_n n h (is_new (pages a) (pages b) n) refl;
    puts_first = g.puts_first;
    told = λ start w. g.told start (f.told start w);
  }
    where
      at_n : (n : ℕ) → is_new (pages a) (pages c) n ≡ true → (b' : Bool) → is_new (pages a) (pages b) n ≡ b' → (pages c).accepts n ≡ true
      at_n n h true is = g.keeps.put n (f.puts n is)
      at_n n h false is = g.puts n (new_either (pages a).count (pages b).count (pages c).count n h is)

  -- page 1 may have been put besides
  pub keeps_more : (first : Bool) (a b : S) → KeepsPages pages limit faults well false a b → KeepsPages pages limit faults well first a b
  keeps_more first a b k = record {
    size = k.size;
    count = k.count;
    put = k.put;
    others = λ n free h. k.others n refl h;
    free = k.free;
    page = k.page;
    limit_is = k.limit_is;
    disk = k.disk;
    entropy = k.entropy;
  }

  -- page 1 is put, or was not
  module _ (a b : S) (marks : MarksAt (pages a) (pages b) 1) (free : (pages a).accepts 1 ≡ false) where
    other_put : (k : ℕ) → (pages a).accepts k ≡ true → (1 == k) ≡ false
    other_put k h = by_case (1 == k) refl
      where
        by_case : (e : Bool) → (1 == k) ≡ e → (1 == k) ≡ false
        by_case false is = is
        by_case true is = let no : true ≡ false = sym h ∙ ap (pages a).accepts (sym (eqb-true 1 k is)) ∙ free in cc

    pub first_keeps : ((start : ℕ) → well start a → SameBut (pages a) (pages b) 1) → limit b ≡ limit a
        → (faults a).disk ≤ (faults b).disk → (faults a).entropy ≤ (faults b).entropy → KeepsPages pages limit faults well true a b
    first_keeps told limits disk entropy =
        let same : (pages b).count ≡ (pages a).count = marks.count in
        record {
          size = marks.size;
          count = omega arith;
          put = λ k h. marks.others k (other_put k h) ∙ h;
          others = λ k differs h. marks.others k (flip k differs);
          free = λ k h. let no : true ≡ false = sym h ∙ ap (λ m. nat_lt (pages a).count k && nat_le k m) same ∙ new_none (pages a).count k in cc;
          page = λ start w k h. told start w k (other_put k h);
          limit_is = limits;
          disk = disk;
          entropy = entropy;
        }
      where
        flip : (k : ℕ) → (true && k == 1) ≡ false → (1 == k) ≡ false
        flip k h = grind arith

    -- no number was taken
    pub first_puts : (k : ℕ) → is_new (pages a) (pages b) k ≡ true → (pages b).accepts k ≡ true
    first_puts k h =
        let no : true ≡ false = sym h ∙ ap (λ m. nat_lt (pages a).count k && nat_le k m) marks.count ∙ new_none (pages a).count k in cc

    pub first_put : (own : Test) → Covers true own (pages a) (pages b) → SameBut (pages a) (pages b) 1 → (pages b).accepts 1 ≡ true
        → IsPut (only own (pages a)) (only own (pages b)) 1
    first_put own covers told put = put_own own (pages a) (pages b) 1 (covers.one refl) (record {
      fresh = free;
      put = put;
      size = marks.size;
      range = λ n h. ap (λ m. nat_le 2 n && nat_le n m) marks.count ∙ h;
      stays = told;
      stays_put = marks.others;
    })

  -- page 1 is as it was
  pub still_free : (a b : S) → 1 ≤ (pages a).count → KeepsPages pages limit faults well false a b → (pages a).accepts 1 ≡ false → (pages b).accepts 1 ≡ false
  still_free a b some k free = k.others 1 refl (not_new (pages a).count (pages b).count some) ∙ free
    where
      not_new : (m p : ℕ) → 1 ≤ m → (nat_lt m 1 && nat_le 1 p) ≡ false
      not_new m p h = grind arith

  -- where no number had been taken before: each page was put
  pub all_put : (a b : S) → (pages a).count ≡ 1 → Follows pages limit faults well true a b → AreAllPut (pages b)
  all_put a b none f n is = by_first (n == 1) refl
    where
      later : (m p k : ℕ) → m ≡ 1 → (nat_le 1 k && nat_le k p) ≡ true → (k == 1) ≡ false → (nat_lt m k && nat_le k p) ≡ true
      later m p k one inside other = grind arith

      by_first : (e : Bool) → (n == 1) ≡ e → (pages b).accepts n ≡ true
      by_first true one = ap (pages b).accepts (eqb-true n 1 one) ∙ f.puts_first refl
      by_first false other = f.puts n (later (pages a).count (pages b).count n none is other)

  -- a number was given, and a page was put there or was not
  module _ (a b c : S) (n : ℕ) (taken : IsNumberTaken (pages a) (pages b) n) (marks : MarksAt (pages b) (pages c) n)
      (told_taken : (start : ℕ) → well start a → (k : ℕ) → (pages b).page k ≡ (pages a).page k)
      (told : (start : ℕ) → well start b → SameBut (pages b) (pages c) n) (well_taken : (start : ℕ) → well start a → well start b) where
    differs : (k : ℕ) → (pages a).accepts k ≡ true → (n == k) ≡ false
    differs k h = by_case (n == k) refl
      where
        by_case : (e : Bool) → (n == k) ≡ e → (n == k) ≡ false
        by_case false is = is
        by_case true is =
            let no : true ≡ false = sym h ∙ sym (taken.accepts k) ∙ ap (pages b).accepts (sym (eqb-true n k is)) ∙ taken.free in cc

    pub next_keeps : limit b ≡ limit a → limit c ≡ limit b → (faults a).disk ≤ (faults b).disk → (faults b).disk ≤ (faults c).disk
        → (faults a).entropy ≤ (faults b).entropy → (faults b).entropy ≤ (faults c).entropy → KeepsPages pages limit faults well false a c
    next_keeps limits limits' disk disk' entropy entropy' =
        let one = taken.count in
        let same = marks.count in
        let is = taken.next in
        record {
          size = marks.size ∙ taken.size;
          count = omega arith;
          put = λ k h. marks.others k (differs k h) ∙ taken.accepts k ∙ h;
          others = λ k free h.
              marks.others k (old_one (pages a).count n k (is ∙ one) (ap (λ m. nat_lt (pages a).count k && nat_le k m) (sym (same ∙ one)) ∙ h)) ∙ taken.accepts k;
          free = λ k h.
              let here : k ≡ (pages a).count + 1 = new_one (pages a).count k (ap (λ m. nat_lt (pages a).count k && nat_le k m) (sym (same ∙ one)) ∙ h) in
              sym (taken.accepts k) ∙ ap (pages b).accepts (here ∙ sym (is ∙ one)) ∙ taken.free;
          page = λ start w k h. told start (well_taken start w) k (differs k h) ∙ told_taken start w k;
          limit_is = limits' ∙ limits;
          disk = omega arith;
          entropy = omega arith;
        }

    pub next_puts : (pages c).accepts n ≡ true → (k : ℕ) → is_new (pages a) (pages c) k ≡ true → (pages c).accepts k ≡ true
    next_puts put k h =
        let here : k ≡ (pages a).count + 1 =
        new_one (pages a).count k (ap (λ m. nat_lt (pages a).count k && nat_le k m) (sym (marks.count ∙ taken.count)) ∙ h) in
        ap (pages c).accepts (here ∙ sym (taken.next ∙ taken.count)) ∙ put

    pub next_put : (start : ℕ) → well start a → (own : Test) → Covers false own (pages a) (pages c) → (bytes : List ℕ) → (pages c).accepts n ≡ true
        → (pages c).page n ≡ bytes → IsPutAs (only own (pages a)) (only own (pages c)) n bytes
    next_put start w own covers bytes put here =
        let one = taken.count in
        let same = marks.count in
        let is = taken.next in
        let mine : own n ≡ true = covers.taken n (new_here (pages a).count (pages c).count n (omega arith) (omega arith)) in
        record {
          put = put_own own (pages a) (pages c) n mine (record {
            fresh = sym (taken.accepts n) ∙ taken.free;
            put = put;
            size = marks.size ∙ taken.size;
            range = λ k h. wider k (pages a).count (pages c).count (omega arith) h;
            stays = λ k other. told start (well_taken start w) k other ∙ told_taken start w k;
            stays_put = λ k other. marks.others k other ∙ taken.accepts k;
          });
          range = le_and 2 n n (pages c).count taken.low (omega arith);
          low = taken.low;
          here = here;
        }
      where
        wider : (k m p : ℕ) → m ≤ p → (nat_le 2 k && nat_le k m) ≡ true → (nat_le 2 k && nat_le k p) ≡ true
        wider k m p g h = grind arith

-- the same of two stretches, the second of which is told of other values
module _ {S T : Type 0} {pages : S → Pages} {limit : S → ℕ} {faults : S → Faults} {well : ℕ → S → Type 0} {a b : S}
    {pages' : T → Pages} {limit' : T → ℕ} {faults' : T → Faults} {well' : ℕ → T → Type 0} {c d : T}
    (f : Follows pages limit faults well false a b) (g : Follows pages' limit' faults' well' true c d) (same : pages' c ≡ pages b) (none : (pages a).count ≡ 1) where
  pub all_put_then : AreAllPut (pages' d)
  all_put_then n is = by_first (n == 1) refl
    where
      by_stretch : (n == 1) ≡ false → (e : Bool) → is_new (pages a) (pages b) n ≡ e → (pages' d).accepts n ≡ true
      by_stretch other true new = g.keeps.put n (ap (λ p. p.accepts n) same ∙ f.puts n new)
      by_stretch other false old =
          g.puts n (ap (λ p. nat_lt p.count n && nat_le n (pages' d).count) same ∙ later_new (pages a).count (pages b).count (pages' d).count n none is other old)

      by_first : (e : Bool) → (n == 1) ≡ e → (pages' d).accepts n ≡ true
      by_first true one = ap (pages' d).accepts (eqb-true n 1 one) ∙ g.puts_first refl
      by_first false other = by_stretch other (is_new (pages a) (pages b) n) refl

pub on_ok_both : {T E A B C : Type 0} (r : Result T E) → (A → B → C) → OnOk r A → OnOk r B → OnOk r C
on_ok_both (Ok x) f a b = f a b
on_ok_both (Err e) f a b = tt
