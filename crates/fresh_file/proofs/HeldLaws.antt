-- Pages that are held back: one more of them, and what the file is once they were written, all or in part.
use Rattle.std.proofs.Common.{IsTrue, ◌≡◌, ◌⊎◌, inl, inr, ℕ, zero, suc, ◌+◌, ◌-◌, ◌*◌, ◌==◌, ◌<◌, ◌≤◌, Bool, true, false, List, [], ◌∷◌, ◌++◌, length, take, drop, Option, Some, refl, sym, ◌∙◌, ap, subst, arith, rules, if◌then◌else◌, length-drop}
use Rattle.std.specs.Prelude.{slice_index}
use Rattle.std.specs.Option.{option_map}
use Rattle.std.proofs.lemmas.Bool.{cases_lt, eqb-true, eqb-false}
use Rattle.std.proofs.lemmas.Bool.Decides.{nat_tests}
use Rattle.std.proofs.lemmas.List.{drop_at, take_at}
use Rattle.std.proofs.Math.Nat.{mul-le-mul_right}
use Rattle.cipher_profile.specs.Profile.{IsListed, usable}
use Rattle.cipher_profile.specs.declared.profile.Profile.{Profile}
use Rattle.cipher_profile.proofs.Layouts.{IsListed-laid_out}
use Rattle.edge_model.specs.Files.{written, Torn}
use Rattle.fresh_disk.specs.Torn.{MayTear}
use Rattle.db_format.specs.Pages.{Test, also}
use Rattle.db_format.specs.Seen.{marked}
use Rattle.page_codec.specs.Page.{FileKeys, accepts, opened, sealed}
use Rattle.page_codec.specs.Pages.{nth_page, sealed_page}
use Rattle.pager.proofs.TxnLemmas.{listed_large}
use Rattle.fresh_file.specs.Added.{AreSame}
use Rattle.fresh_file.specs.Fresh.{IsWell, fresh_contents, fresh_page}
use Rattle.fresh_file.specs.Held.{AreSealing, IsCutShort, IsSealedAs, IsWellOnce, draw_at, held_or, is_among, plain_at, sealed_at, settled, with_pages}
use Rattle.fresh_file.specs.Sealed.{IsSealing, plain_page}
use Rattle.fresh_file.specs.State.{page_as_held}
use Rattle.fresh_file.specs.declared.held.HeldPages.{HeldPages}
use Rattle.fresh_file.proofs.FreshLaws.{also_more, well_next}
use Rattle.fresh_file.proofs.PageLaws.{opens_here, page_stays, sealed_here, torn_page}

either : (b : Bool) → (b ≡ true) ⊎ (b ≡ false)
either true = inl refl
either false = inr refl

-- ---- the same numbers and bytes

module _ (numbers other : List ℕ) (page page' : ℕ → List ℕ) where
  abbrev Same : ℕ → Type 0
  Same k = (j : ℕ) → j < k → (slice_index other j ≡ slice_index numbers j) × (page' j ≡ page j)

  fewer : (k : ℕ) → Same (suc k) → Same k
  fewer k same j lt = same j (omega (arith, lt))

  pub with_same : (size k : ℕ) (fresh : Option (List ℕ)) → Same k → with_pages size other page' k fresh ≡ with_pages size numbers page k fresh
  with_same size zero fresh same = refl
  with_same size (suc k) fresh same =
      let here = same k (omega arith) in
      (λ i. option_map (written ((here.0 i - 1) * size) (here.1 i)) (with_same size k fresh (fewer k same) i))

  pub among_same : (k n : ℕ) → Same k → is_among other k n ≡ is_among numbers k n
  among_same zero n same = refl
  among_same (suc k) n same =
      let here = same k (omega arith) in
      (λ i. if here.0 i == n then true else among_same k n (fewer k same) i)

  pub held_same : (k n : ℕ) (base : List ℕ) → Same k → held_or other page' k n base ≡ held_or numbers page k n base
  held_same zero n base same = refl
  held_same (suc k) n base same =
      let here = same k (omega arith) in
      (λ i. if here.0 i == n then here.1 i else held_same k n base (fewer k same) i)

-- ---- a number that is among them, or is not

module _ (numbers : List ℕ) (page : ℕ → List ℕ) where
  -- which other bytes there are does not matter for one that is
  pub held_any : (k n : ℕ) (base other : List ℕ) → is_among numbers k n ≡ true → held_or numbers page k n base ≡ held_or numbers page k n other
  held_any zero n base other is = absurd (search rules)
  held_any (suc k) n base other is = go (slice_index numbers k == n) is (λ has. held_any k n base other has)
    where
      go : (b : Bool) → (if b then true else is_among numbers k n) ≡ true
          → (is_among numbers k n ≡ true → held_or numbers page k n base ≡ held_or numbers page k n other)
          → (if b then page k else held_or numbers page k n base) ≡ (if b then page k else held_or numbers page k n other)
      go true is earlier = refl
      go false is earlier = earlier is

  -- one that is not is none of the first
  pub among_none : (k n : ℕ) → is_among numbers k n ≡ false → (j : ℕ) → j < k → (slice_index numbers j == n) ≡ false
  among_none zero n not j lt = absurd (omega (arith, lt))
  among_none (suc k) n not j lt = go (slice_index numbers k == n) refl not (λ none less. among_none k n none j less)
    where
      go : (b : Bool) → (slice_index numbers k == n) ≡ b → (if b then true else is_among numbers k n) ≡ false
          → (is_among numbers k n ≡ false → j < k → (slice_index numbers j == n) ≡ false) → (slice_index numbers j == n) ≡ false
      go true is none earlier = absurd (search rules)
      go false is none earlier = elim (cases_lt j k) as (λ _. (slice_index numbers j == n) ≡ false) [
        | inl less ↦ earlier none less
        | inr more ↦ let e : k ≡ j = omega (arith, lt, more) in subst (λ (i : ℕ). (slice_index numbers i == n) ≡ false) e is
      ]

  pub held_none : (k n : ℕ) (base : List ℕ) → ((j : ℕ) → j < k → (slice_index numbers j == n) ≡ false) → held_or numbers page k n base ≡ base
  held_none zero n base none = refl
  held_none (suc k) n base none =
      ap (λ (b : Bool). if b then page k else held_or numbers page k n base) (none k (omega arith)) ∙ held_none k n base (λ j lt. none j (omega (arith, lt)))

-- ---- the file once the first of them were written

-- a page that is one of them, or stands in the file
abbrev pub IsThere : FileKeys → List ℕ → ℕ → List ℕ → ℕ → Type 0
IsThere keys numbers k file n = is_among numbers k n ≡ false → (1 ≤ n) × (n * keys.profile.page_size ≤ length file)

-- The file is there, such a page is whole in it, and opens to what was held of it, or else to what it opened to before.
pub record IsOver (keys : FileKeys) (numbers room : List ℕ) (k : ℕ) (fresh : Option (List ℕ)) (file : List ℕ) : Type 0 where
  pub after : List ℕ
  pub is : settled keys numbers room k fresh ≡ Some after
  pub whole : (n : ℕ) → IsThere keys numbers k file n → (1 ≤ n) × (n * keys.profile.page_size ≤ length after)
  pub opens : (n : ℕ) → IsThere keys numbers k file n → plain_page keys n after ≡ held_or numbers (plain_at keys room) k n (plain_page keys n file)

module _ (keys : FileKeys) (numbers room : List ℕ) (k : ℕ) (fresh : Option (List ℕ)) (file : List ℕ)
    (sealing : IsSealing keys (slice_index numbers k) (plain_at keys room k) (draw_at keys room k)) (was : IsOver keys numbers room k fresh file) where
  abbrev size : ℕ
  size = keys.profile.page_size

  abbrev at : ℕ
  at = slice_index numbers k

  abbrev change : List ℕ → List ℕ
  change = written ((at - 1) * size) (sealed_at keys numbers room k)

  torn : Torn ((at - 1) * size) size was.after (change was.after)
  torn = torn_page size at (sealed_at keys numbers room k) was.after sealing.size

  there_before : (n : ℕ) → (at == n) ≡ false → IsThere keys numbers (suc k) file n → IsThere keys numbers k file n
  there_before n other there none = there (ap (λ (b : Bool). if b then true else is_among numbers k n) other ∙ none)

  whole_next : (n : ℕ) → (b : Bool) → (at == n) ≡ b → IsThere keys numbers (suc k) file n → (1 ≤ n) × (n * size ≤ length (change was.after))
  whole_next n true same there =
      let e : at ≡ n = eqb-true at n same in
      subst (λ (m : ℕ). (1 ≤ m) × (m * size ≤ length (change was.after))) e
      (sealing.numbered, (sealed_here keys at (plain_at keys room k) (draw_at keys room k) was.after sealing).whole)
  whole_next n false other there =
      let before = was.whole n (there_before n other there) in
      (before.0, omega (arith, before.1, torn.no_shorter))

  opens_next : (n : ℕ) → (b : Bool) → (at == n) ≡ b → IsThere keys numbers (suc k) file n
      → plain_page keys n (change was.after) ≡ held_or numbers (plain_at keys room) (suc k) n (plain_page keys n file)
  opens_next n true same there =
      let e : at ≡ n = eqb-true at n same in
      ap (λ (m : ℕ). plain_page keys m (change was.after)) (sym e)
      ∙ opens_here keys at (plain_at keys room k) (draw_at keys room k) was.after sealing
      ∙ ap (λ (b : Bool). if b then plain_at keys room k else held_or numbers (plain_at keys room) k n (plain_page keys n file)) (sym same)
  opens_next n false other there =
      let before = was.whole n (there_before n other there) in
      ap (λ (l : List ℕ). opened keys n l)
      (page_stays size n at was.after (change was.after) before.0 sealing.numbered before.1 (λ same. eqb-false at n other (sym same)) torn)
      ∙ was.opens n (there_before n other there)
      ∙ ap (λ (b : Bool). if b then plain_at keys room k else held_or numbers (plain_at keys room) k n (plain_page keys n file)) (sym other)

  over_next : IsOver keys numbers room (suc k) fresh file
  over_next = record {
    after = change was.after;
    is = ap (λ (o : Option (List ℕ)). option_map change o) was.is;
    whole = λ n there. whole_next n (at == n) refl there;
    opens = λ n there. opens_next n (at == n) refl there;
  }

pub over : (keys : FileKeys) (numbers room : List ℕ) (k : ℕ) → AreSealing keys numbers room k → (fresh : Option (List ℕ)) (file : List ℕ) → fresh ≡ Some file
    → IsOver keys numbers room k fresh file
over keys numbers room zero sealing fresh file is =
    record { after = file; is = is; whole = λ n there. there refl; opens = λ n there. refl }
over keys numbers room (suc k) sealing fresh file is =
    over_next keys numbers room k fresh file (sealing k (omega arith)) (over keys numbers room k (λ j lt. sealing j (omega (arith, lt))) fresh file is)

-- ---- held pages, sealed

pub sealings : (keys : FileKeys) (numbers room stored : List ℕ) (held : ℕ)
    → ((k : ℕ) → k < held → IsSealedAs keys (slice_index numbers k) (nth_page keys.profile.page_size room k) (nth_page keys.profile.page_size stored k))
    → AreSealing keys numbers room held
sealings keys numbers room stored held each k lt = (each k lt).sealing

-- the stored pages that are written are those
pub stored_same : (keys : FileKeys) (numbers room stored : List ℕ) (held : ℕ)
    → ((k : ℕ) → k < held → IsSealedAs keys (slice_index numbers k) (nth_page keys.profile.page_size room k) (nth_page keys.profile.page_size stored k))
    → (k : ℕ) → k ≤ held → (fresh : Option (List ℕ))
    → with_pages keys.profile.page_size numbers (λ j. nth_page keys.profile.page_size stored j) k fresh ≡ settled keys numbers room k fresh
stored_same keys numbers room stored held each k le fresh =
    with_same numbers numbers (sealed_at keys numbers room) (λ j. nth_page keys.profile.page_size stored j) keys.profile.page_size k fresh
    (λ j lt. (refl, (each j (omega (arith, lt, le))).is))

-- the same of equal lists and counts
module _ (keys : FileKeys) (numbers room stored new_numbers : List ℕ) (held count size : ℕ) (wide : size ≡ keys.profile.page_size) (equal : new_numbers ≡ numbers) (many : count ≡ held)
    (each : (k : ℕ) → k < held → IsSealedAs keys (slice_index numbers k) (nth_page keys.profile.page_size room k) (nth_page keys.profile.page_size stored k)) (fresh : Option (List ℕ)) where
  pub done_as : with_pages size new_numbers (λ k. nth_page size stored k) count fresh ≡ settled keys numbers room held fresh
  done_as =
      (λ i. with_pages (wide i) (equal i) (λ k. nth_page (wide i) stored k) (many i) fresh)
      ∙ stored_same keys numbers room stored held each held (omega arith) fresh

  pub cut_as : (after : Option (List ℕ)) → IsCutShort size new_numbers (λ k. nth_page size stored k) count fresh after
      → IsCutShort keys.profile.page_size numbers (sealed_at keys numbers room) held fresh after
  cut_as after cut =
      let page_size = keys.profile.page_size in
      let here : IsCutShort page_size numbers (λ k. nth_page page_size stored k) held fresh after =
      subst (λ (z : ℕ). IsCutShort z numbers (λ k. nth_page z stored k) held fresh after) wide
      (subst (λ (l : List ℕ). IsCutShort size l (λ k. nth_page size stored k) held fresh after) equal
      (subst (λ (h : ℕ). IsCutShort size new_numbers (λ k. nth_page size stored k) h fresh after) many cut)) in
      record {
        at = here.at;
        within = here.within;
        torn = subst (λ (o : Option (List ℕ)). MayTear ((slice_index numbers here.at - 1) * page_size) page_size o after)
            (stored_same keys numbers room stored held each here.at (omega (arith, here.within)) fresh) here.torn;
      }

-- ---- what a page reads as

pub page_moves : (keys : FileKeys) (first : List ℕ) (put : Test) (held held' : ℕ → List ℕ → List ℕ) (fresh after : Option (List ℕ)) (n : ℕ)
    → (put n ≡ true → held' n (plain_page keys n (fresh_contents after)) ≡ held n (plain_page keys n (fresh_contents fresh)))
    → fresh_page keys first put held' after n ≡ fresh_page keys first put held fresh n
page_moves keys first put held held' fresh after n same = go (n == 1) (put n) refl
  where
    go : (a b : Bool) → put n ≡ b
        → (if a then first else (if b then held' n (plain_page keys n (fresh_contents after)) else [])) ≡ (if a then first else (if b then held n (plain_page keys n (fresh_contents fresh)) else []))
    go true b has = refl
    go false true has = same has
    go false false has = refl

pub page_marks : (keys : FileKeys) (first : List ℕ) (put other : Test) (held : ℕ → List ℕ → List ℕ) (fresh : Option (List ℕ)) (n : ℕ) → other n ≡ put n
    → fresh_page keys first other held fresh n ≡ fresh_page keys first put held fresh n
page_marks keys first put other held fresh n same =
    ap (λ (b : Bool). if n == 1 then first else (if b then held n (plain_page keys n (fresh_contents fresh)) else [])) same

module _ (keys : FileKeys) (numbers room : List ℕ) (held : ℕ) (sealing : AreSealing keys numbers room held) (fresh after : Option (List ℕ)) (file : List ℕ) (is : fresh ≡ Some file)
    (n : ℕ) (there : IsThere keys numbers held file n) where
  -- once all were written, a page reads in the file as it did before
  pub reads_settled : after ≡ settled keys numbers room held fresh
      → plain_page keys n (fresh_contents after) ≡ held_or numbers (plain_at keys room) held n (plain_page keys n (fresh_contents fresh))
  reads_settled done =
      let all = over keys numbers room held sealing fresh file is in
      ap (λ (o : Option (List ℕ)). plain_page keys n (fresh_contents o)) (done ∙ all.is)
      ∙ all.opens n there
      ∙ ap (λ (o : Option (List ℕ)). held_or numbers (plain_at keys room) held n (plain_page keys n (fresh_contents o))) (sym is)

  module _ (k : ℕ) (less : k < held) (tears : MayTear ((slice_index numbers k - 1) * keys.profile.page_size) keys.profile.page_size (settled keys numbers room k fresh) after) where
    some : IsOver keys numbers room k fresh file
    some = over keys numbers room k (λ j lt. sealing j (omega (arith, lt, less))) fresh file is

    module _ (none : is_among numbers held n ≡ false) where
      others : (j : ℕ) → j < held → (slice_index numbers j == n) ≡ false
      others = among_none numbers (plain_at keys room) held n none

      stands : plain_page keys n some.after ≡ plain_page keys n file
      stands =
          some.opens n (λ _. there none)
          ∙ held_none numbers (plain_at keys room) k n (plain_page keys n file) (λ j lt. others j (omega (arith, lt, less)))

      by_tear : MayTear ((slice_index numbers k - 1) * keys.profile.page_size) keys.profile.page_size (settled keys numbers room k fresh) after → plain_page keys n (fresh_contents after) ≡ plain_page keys n some.after
      by_tear (inl same) = ap (λ (o : Option (List ℕ)). plain_page keys n (fresh_contents o)) (same ∙ some.is)
      by_tear (inr torn) =
          let old : some.after ≡ torn.before = ap fresh_contents (sym some.is ∙ torn.was) in
          let there_now = some.whole n (λ _. there none) in
          let whole = subst (λ (l : List ℕ). n * keys.profile.page_size ≤ length l) old there_now.1 in
          ap (λ (o : Option (List ℕ)). plain_page keys n (fresh_contents o)) torn.is
          ∙ ap (λ (l : List ℕ). opened keys n l)
          (page_stays keys.profile.page_size n (slice_index numbers k) torn.before torn.after there_now.0 (sealing k less).numbered whole (λ same. eqb-false _ n (others k less) (sym same)) torn.torn)
          ∙ ap (λ (l : List ℕ). plain_page keys n l) (sym old)

      elsewhere : plain_page keys n (fresh_contents after) ≡ plain_page keys n (fresh_contents fresh)
      elsewhere = by_tear tears ∙ stands ∙ ap (λ (o : Option (List ℕ)). plain_page keys n (fresh_contents o)) (sym is)

    -- and so it does as long as they are held, wherever their writing ended
    pub reads_torn : held_or numbers (plain_at keys room) held n (plain_page keys n (fresh_contents after)) ≡ held_or numbers (plain_at keys room) held n (plain_page keys n (fresh_contents fresh))
    reads_torn = go (either (is_among numbers held n))
      where
        go : (is_among numbers held n ≡ true) ⊎ (is_among numbers held n ≡ false)
            → held_or numbers (plain_at keys room) held n (plain_page keys n (fresh_contents after)) ≡ held_or numbers (plain_at keys room) held n (plain_page keys n (fresh_contents fresh))
        go (inl has) = held_any numbers (plain_at keys room) held n _ _ has
        go (inr none) = ap (λ (l : List ℕ). held_or numbers (plain_at keys room) held n l) (elsewhere none)

-- ---- nothing is held

pub once_written : (keys : FileKeys) (numbers room : List ℕ) (held : ℕ) (put : Test) (count start : ℕ) (tells draws_tell : Bool) (fresh : Option (List ℕ)) (drawn : List ℕ) → held ≡ 0
    → IsWell keys put count start tells draws_tell fresh drawn → IsWellOnce keys numbers room held put count start tells draws_tell fresh drawn
once_written keys numbers room held put count start tells draws_tell fresh drawn none was =
    subst (λ (h : ℕ). IsWellOnce keys numbers room h put count start tells draws_tell fresh drawn) (sym none) (record {
      told = was.told;
      file = was.paged.file;
      is = was.paged.is;
      whole = λ n has _. let stood = (was.paged.sealed n has).1 in (stood.numbered, stood.whole);
      well = λ sealing. was;
    })

-- ---- more numbers were taken

well_grows : (keys : FileKeys) (put : Test) (count more start : ℕ) (tells draws_tell : Bool) (fresh : Option (List ℕ)) (drawn : List ℕ) → count ≤ more
    → IsWell keys put count start tells draws_tell fresh drawn → IsWell keys put more start tells draws_tell fresh drawn
well_grows keys put count more start tells draws_tell fresh drawn le was = record {
  told = was.told;
  paged = record { file = was.paged.file; is = was.paged.is; sealed = was.paged.sealed; short = omega (arith, was.paged.short, mul-le-mul_right keys.profile.page_size le) };
  owned = was.owned;
}

-- the same pages are held and were put, and no fewer numbers were taken
module _ (keys new_keys : FileKeys) (held new_held : HeldPages) (put new_put : List Bool) (same_keys : new_keys ≡ keys) (same_held : new_held ≡ held) (same_put : new_put ≡ put) where
  pub once_as : (count more start : ℕ) (tells draws_tell : Bool) (fresh : Option (List ℕ)) (drawn : List ℕ) → count ≤ more
      → IsWellOnce keys held.numbers.items held.room.items held.count (marked put) count start tells draws_tell fresh drawn
      → IsWellOnce new_keys new_held.numbers.items new_held.room.items new_held.count (marked new_put) more start tells draws_tell fresh drawn
  once_as count more start tells draws_tell fresh drawn le was =
      subst (λ (k : FileKeys). IsWellOnce k new_held.numbers.items new_held.room.items new_held.count (marked new_put) more start tells draws_tell fresh drawn) (sym same_keys)
      (subst (λ (h : HeldPages). IsWellOnce keys h.numbers.items h.room.items h.count (marked new_put) more start tells draws_tell fresh drawn) (sym same_held)
      (subst (λ (m : List Bool). IsWellOnce keys held.numbers.items held.room.items held.count (marked m) more start tells draws_tell fresh drawn) (sym same_put) (record {
        told = was.told;
        file = was.file;
        is = was.is;
        whole = was.whole;
        well = λ sealing. well_grows keys (marked put) count more start tells draws_tell _ drawn le (was.well sealing);
      })))

  pub page_as : (first : List ℕ) (fresh : Option (List ℕ)) (n : ℕ)
      → fresh_page new_keys first (marked new_put) (page_as_held new_keys new_held) fresh n ≡ fresh_page keys first (marked put) (page_as_held keys held) fresh n
  page_as first fresh n = (λ i. fresh_page (same_keys i) first (marked (same_put i)) (page_as_held (same_keys i) (same_held i)) fresh n)

-- whatever page 1 is, the others read as they did
pub page_but_first : (keys : FileKeys) (first last : List ℕ) (put : Test) (held : ℕ → List ℕ → List ℕ) (fresh : Option (List ℕ)) (n k : ℕ) → n ≡ 1 → (n == k) ≡ false
    → fresh_page keys last put held fresh k ≡ fresh_page keys first put held fresh k
page_but_first keys first last put held fresh n k one apart =
    let other : (k == 1) ≡ false = turned n k one apart in
    ap (λ (b : Bool). if b then last else read) other ∙ sym (ap (λ (b : Bool). if b then first else read) other)
  where
    turned : (a b : ℕ) → a ≡ 1 → (a == b) ≡ false → (b == 1) ≡ false
    turned a b one apart = grind (arith, nat_tests, one, apart)

    read : List ℕ
    read = if put k then held k (plain_page keys k (fresh_contents fresh)) else []

-- ---- one more is held

module _ (keys : FileKeys) (numbers room new_numbers new_room : List ℕ) (held n : ℕ) (plain draw : List ℕ) (long : length plain ≡ usable keys.profile)
    (number : slice_index new_numbers held ≡ n) (here : nth_page keys.profile.page_size new_room held ≡ plain ++ draw)
    (others : AreSame keys.profile.page_size held numbers room new_numbers new_room) where
  abbrev page_size : ℕ
  page_size = keys.profile.page_size

  abbrev u : ℕ
  u = usable keys.profile

  plain_is : plain_at keys new_room held ≡ plain
  plain_is = ap (λ (l : List ℕ). take u l) here ∙ take_at plain draw u long

  draw_is : draw_at keys new_room held ≡ draw
  draw_is = ap (λ (l : List ℕ). drop u l) here ∙ drop_at plain draw u long

  found : (slice_index new_numbers held == n) ≡ true
  found = equal (slice_index new_numbers held) n number
    where
      equal : (a b : ℕ) → a ≡ b → (a == b) ≡ true
      equal a b same = grind (arith, nat_tests, same)

  apart : (k : ℕ) → (n == k) ≡ false → (slice_index new_numbers held == k) ≡ false
  apart k other = ap (λ (m : ℕ). m == k) number ∙ other

  -- it reads as it was put, whatever stands in the file
  pub reads_added : (base : List ℕ) → held_or new_numbers (plain_at keys new_room) (suc held) n base ≡ plain
  reads_added base =
      ap (λ (b : Bool). if b then plain_at keys new_room held else held_or new_numbers (plain_at keys new_room) held n base) found ∙ plain_is

  plains : (j : ℕ) → j < held → (slice_index new_numbers j ≡ slice_index numbers j) × (plain_at keys new_room j ≡ plain_at keys room j)
  plains j lt = ((others j lt).0, ap (λ (l : List ℕ). take u l) (others j lt).1)

  seals : (j : ℕ) → j < held → (slice_index new_numbers j ≡ slice_index numbers j) × (sealed_at keys new_numbers new_room j ≡ sealed_at keys numbers room j)
  seals j lt =
      let same = others j lt in
      (same.0, (λ i. sealed_page keys (same.0 i) (same.1 i)))

  -- and the others as before
  pub reads_others : (k : ℕ) → (n == k) ≡ false → (base : List ℕ)
      → held_or new_numbers (plain_at keys new_room) (suc held) k base ≡ held_or numbers (plain_at keys room) held k base
  reads_others k other base =
      ap (λ (b : Bool). if b then plain_at keys new_room held else held_or new_numbers (plain_at keys new_room) held k base) (apart k other)
      ∙ held_same numbers new_numbers (plain_at keys room) (plain_at keys new_room) held k base plains

  before : AreSealing keys new_numbers new_room (suc held) → AreSealing keys numbers room held
  before sealing k lt =
      let same = others k lt in
      let now = sealing k (omega (arith, lt)) in
      subst (λ (page : List ℕ). IsSealing keys (slice_index numbers k) (take u page) (drop u page)) same.1
      (subst (λ (m : ℕ). IsSealing keys m (plain_at keys new_room k) (draw_at keys new_room k)) same.0 now)

  this : AreSealing keys new_numbers new_room (suc held) → IsSealing keys n plain draw
  this sealing =
      let now = sealing held (omega arith) in
      subst (λ (l : List ℕ). IsSealing keys n plain l) draw_is
      (subst (λ (l : List ℕ). IsSealing keys n l (draw_at keys new_room held)) plain_is
      (subst (λ (m : ℕ). IsSealing keys m (plain_at keys new_room held) (draw_at keys new_room held)) number now))

  settles : (fresh : Option (List ℕ)) → settled keys new_numbers new_room (suc held) fresh
      ≡ option_map (written ((n - 1) * page_size) (sealed keys n plain draw)) (settled keys numbers room held fresh)
  settles fresh =
      let same = with_same numbers new_numbers (sealed_at keys numbers room) (sealed_at keys new_numbers new_room) page_size held fresh seals in
      (λ i. option_map (written ((number i - 1) * page_size) (sealed keys (number i) (plain_is i) (draw_is i))) (same i))

  module _ (put other : Test) (count start : ℕ) (tells draws_tell : Bool) (fresh after : Option (List ℕ)) (drawn now : List ℕ) (le : n ≤ count)
      (marks : other ≡ also (n ∷ []) put) (stays : IsTrue tells → after ≡ fresh) (grown : IsTrue draws_tell → now ≡ drawn ++ draw)
      (was : IsWellOnce keys numbers room held put count start tells draws_tell fresh drawn) where
    put_before : (k : ℕ) → (n == k) ≡ false → other k ≡ put k
    put_before k apart = ap (λ (t : Test). t k) marks ∙ also_more n k put (λ same. eqb-false n k apart (sym same))

    whole_still : (k : ℕ) → (b : Bool) → (n == k) ≡ b → other k ≡ true → is_among new_numbers (suc held) k ≡ false → (1 ≤ k) × (k * page_size ≤ length was.file)
    whole_still k true same has none =
        let among : is_among new_numbers (suc held) k ≡ true = ap (λ (b : Bool). if b then true else is_among new_numbers held k) (ap (λ (m : ℕ). m == k) number ∙ same) in
        absurd (let e : true ≡ false = sym among ∙ none in search rules)
    whole_still k false other_page has none =
        was.whole k (sym (put_before k other_page) ∙ has)
        (sym (among_same numbers new_numbers (plain_at keys room) (plain_at keys new_room) held k plains)
        ∙ ap (λ (b : Bool). if b then true else is_among new_numbers held k) (sym (apart k other_page)) ∙ none)

    next : AreSealing keys new_numbers new_room (suc held) → IsWell keys other count start tells draws_tell (settled keys new_numbers new_room (suc held) after) now
    next sealing =
        subst (λ (o : Option (List ℕ)). IsWell keys other count start tells draws_tell (settled keys new_numbers new_room (suc held) o) now) (sym (stays was.told))
        (subst (λ (t : Test). IsWell keys t count start tells draws_tell (settled keys new_numbers new_room (suc held) fresh) now) (sym marks)
        (well_next keys put n plain draw (settled keys numbers room held fresh) (settled keys new_numbers new_room (suc held) fresh) (this sealing) (settles fresh)
        count start tells draws_tell drawn now le grown (was.well (before sealing))))

    pub once_more : (more : ℕ) → more ≡ suc held → IsWellOnce keys new_numbers new_room more other count start tells draws_tell after now
    once_more more is =
        subst (λ (h : ℕ). IsWellOnce keys new_numbers new_room h other count start tells draws_tell after now) (sym is) (record {
          told = was.told;
          file = was.file;
          is = stays was.told ∙ was.is;
          whole = λ k has none. whole_still k (n == k) refl has none;
          well = next;
        })

-- ---- one page that is sealed

listed_whole : (p : Profile) → IsListed p → usable p + p.reserve ≡ p.page_size
listed_whole p listed = let content = (IsListed-laid_out p listed).content in omega (arith, content)

pub sealed_as : (keys : FileKeys) (n : ℕ) (page stored : List ℕ) → IsListed keys.profile → 2 ≤ n → length page ≡ keys.profile.page_size
    → length stored ≡ keys.profile.page_size → stored ≡ sealed_page keys n page → IsTrue (accepts keys n stored)
    → opened keys n stored ≡ take (usable keys.profile) page → IsSealedAs keys n page stored
sealed_as keys n page stored listed low long sized is accepted opens =
    let large : 512 ≤ keys.profile.page_size = listed_large keys.profile listed in
    record {
      is = is;
      sealing = record {
        numbered = omega (arith, low);
        some = omega (arith, large);
        drawn = omega (arith, length-drop (usable keys.profile) page, long, listed_whole keys.profile listed);
        size = ap (λ (l : List ℕ). length l) (sym is) ∙ sized;
        opens = ap (λ (l : List ℕ). opened keys n l) (sym is) ∙ opens;
        accepted = subst (λ (l : List ℕ). IsTrue (accepts keys n l)) is accepted;
      };
    }
