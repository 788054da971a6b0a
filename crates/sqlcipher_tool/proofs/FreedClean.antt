-- A file whose map pages went onto the freelist is clean where the old one was, and holds the same.
use Rattle.std.proofs.Common.{◌≡◌, ◌⊎◌, ⊎_elim, inl, inr, ◌==◌, ◌≤◌, ◌<◌, ◌+◌, ◌-◌, ◌/◌, ◌^◌, ◌&&◌, ◌||◌, not, ℕ, zero, suc, Bool, true, false, List, [], ◌∷◌, Some, length, take, if◌then◌else◌, refl, sym, ap, subst, ◌∙◌, arith, rules}
use Rattle.std.proofs.lemmas.Bool.{eq-eqb}
use Rattle.std.proofs.Math.Nat.{mod-eq_of_lt}
use Rattle.std.specs.List.{Contains, list_any}
use Rattle.std.specs.Prelude.{get_or, nat_le}
use Rattle.btree_model.proofs.UnmarkedLemmas.{and_left, and_right}
use Rattle.btree_model.specs.Content.{content, kept_fields}
use Rattle.btree_model.specs.Finding.{leaves}
use Rattle.btree_model.specs.Freelist.{first_trunk, free_field}
use Rattle.btree_model.specs.Plain.{is_leaf, with_zeros}
use Rattle.btree_model.specs.Range.{is_in_range}
use Rattle.btree_page.specs.Kind.{kind_at}
use Rattle.btree_page.specs.Page.{read_node}
use Rattle.btree_page.specs.declared.kind.Family.{Family}
use Rattle.cipher_profile.specs.Profile.{IsListed, usable}
use Rattle.cipher_profile.specs.declared.profile.Profile.{Profile}
use Rattle.cipher_profile.proofs.Layouts.{IsListed-laid_out}
use Rattle.db_format.specs.Bytes.{u32_at}
use Rattle.db_format.specs.Pages.{Pages}
use Rattle.map_pages.specs.Maps.{is_map, is_map_page, map_count, map_number, maps_of, span}
use Rattle.map_pages.specs.Settled.{AreSettled, CanBeSettled, IsSameDatabase}
use Rattle.map_pages.specs.Trunks.{findings_from, is_new_trunk, map_trunk, trunk_from}
use Rattle.map_pages.proofs.FreeCount.{free_few, free_sound}
use Rattle.map_pages.proofs.Freed.{no_map_leaf}
use Rattle.map_pages.proofs.MapLaws.{either, eq_is, le_is, numbers_all}
use Rattle.map_pages.proofs.OldFree.{first_well}
use Rattle.map_pages.proofs.SettledLaws.{same_database}
use Rattle.map_pages.proofs.TrunkPages.{from_well, names_well}
use Rattle.page_codec.specs.Page.{FileKeys, accepts, bears_sign, fits, opened}
use Rattle.pager.specs.Database.{count_of}
use Rattle.pager.specs.File.{page_stored}
use Rattle.pager.specs.Pages.{is_page_number, opened_pages}
use Rattle.pager.proofs.BatchLemmas.{number_is}
use Rattle.sqlcipher_tool.specs.FirstPage.{next_change}
use Rattle.sqlcipher_tool.specs.Maps.{AreMapsFreed, first_plain, freed_page, has_maps, is_rewritten, without_maps}
use Rattle.sqlcipher_tool.specs.Plain.{IsClean, is_left, refused_in_use}
use Rattle.sqlcipher_tool.specs.Settle.{keys_set}
use Rattle.sqlcipher_tool.specs.Settling.{CanLoseMaps}
use Rattle.pager.proofs.Resealed.{starts}
use Rattle.sqlcipher_tool.proofs.FirstNode.{first_kind_same, first_page_same}
use Rattle.sqlcipher_tool.proofs.MapsPage.{freed_byte, freed_count, freed_length, freed_other, freed_trunk}
use Rattle.sqlcipher_tool.proofs.Numbers.{true_le}
use Rattle.sqlcipher_tool.proofs.Rewritten.{rewritten_within, trunk_rewritten}
use Rattle.sqlcipher_tool.proofs.Rekeying.{number_among}
use Rattle.sqlcipher_tool.proofs.OpenedParts.{fits_accepts}
use Rattle.sqlcipher_tool.proofs.SettledClean.{fits_too, page_field, page_kept, page_kind, page_node, page_sign, sign_same}
use Rattle.sqlcipher_tool.proofs.SettledFile.{first_page_of}
use Rattle.sqlcipher_tool.proofs.Unmarked.{accepts_set, fits_set, opened_set}
use Rattle.sqlcipher_tool.proofs.Verified.{none_where, some_is}

differ : true ≡ false → ⊥
differ is = cc

-- ---- page 1

module _ (u count : ℕ) (plain : List ℕ) (long : 100 ≤ length plain) (few : count < 2 ^ 32) where
  abbrev base : List ℕ
  base = without_maps u count plain

  abbrev change : ℕ
  change = next_change (u32_at plain 24)

  within : change < 2 ^ 32
  within = Rattle.std.proofs.Math.Nat.mod-lt (u32_at plain 24 + 1) (omega arith)

  long_base : 100 ≤ length base
  long_base = omega (arith, long, freed_length u count plain long)

  high_same : (k : ℕ) → 100 ≤ k → get_or base k 0 ≡ get_or plain k 0
  high_same k more = freed_byte u count plain long k (inr (omega (arith, more)))

  pub node_same : (family : Family) → read_node family 1 (freed_page u count plain) ≡ read_node family 1 plain
  node_same family =
      page_node count change base long_base few within family ∙ first_page_same base plain (freed_length u count plain long) high_same family

  pub kind_same : kind_at 1 (freed_page u count plain) ≡ kind_at 1 plain
  kind_same = page_kind count change base long_base few within ∙ first_kind_same base plain (freed_length u count plain long) high_same

  field_same : (k : ℕ) → (40 ≤ k) → (k + 4 ≤ 52) ⊎ (56 ≤ k) → (k + 4 ≤ 64) ⊎ (68 ≤ k) → u32_at base k ≡ u32_at plain k
  field_same k more mid high = freed_other u count plain long k (inr more) mid high

  pub kept_same : kept_fields (freed_page u count plain) ≡ kept_fields plain
  kept_same =
      let f40 = field_same 40 (omega arith) (inl (omega arith)) (inl (omega arith)) in
      let f44 = field_same 44 (omega arith) (inl (omega arith)) (inl (omega arith)) in
      let f48 = field_same 48 (omega arith) (inl (omega arith)) (inl (omega arith)) in
      let f56 = field_same 56 (omega arith) (inr (omega arith)) (inl (omega arith)) in
      let f60 = field_same 60 (omega arith) (inr (omega arith)) (inl (omega arith)) in
      let f68 = field_same 68 (omega arith) (inr (omega arith)) (inr (omega arith)) in
      let f96 = field_same 96 (omega arith) (inr (omega arith)) (inr (omega arith)) in
      page_kept count change base long_base few within ∙ (λ i. f40 i ∷ f44 i ∷ f48 i ∷ f56 i ∷ f60 i ∷ f68 i ∷ f96 i ∷ [])

  pub trunk_is : trunk_from u (map_count u count) (u32_at plain 32) 0 < 2 ^ 32 → u32_at (freed_page u count plain) 32 ≡ trunk_from u (map_count u count) (u32_at plain 32) 0
  trunk_is small = page_field count change base long_base few within 32 (omega arith) (omega arith) ∙ freed_trunk u count plain long small

  pub count_is : u32_at plain 36 + map_count u count < 2 ^ 32 → u32_at (freed_page u count plain) 36 ≡ u32_at plain 36 + map_count u count
  count_is small = page_field count change base long_base few within 36 (omega arith) (omega arith) ∙ (freed_count u count plain long ∙ mod-eq_of_lt small)

  pub sign_is : (profile : Profile) → bears_sign profile (freed_page u count plain) ≡ bears_sign profile plain
  sign_is profile =
      page_sign count change base long_base few within profile
      ∙ sign_same profile base plain (freed_length u count plain long)
      (λ k more less. freed_byte u count plain long k (inl (omega (arith, less)))) (λ k more less. freed_byte u count plain long k (inl (omega (arith, less))))

-- ---- the leaves

-- a map page that is no trunk is one of the new leaves
listed_leaf : (usable n a k : ℕ) → a ≤ k → k < a + n → is_new_trunk usable k ≡ false → list_any (λ m. m == map_number usable k) (leaves (findings_from usable a n)) ≡ true
listed_leaf usable zero a k low high none = absurd (omega (arith, low, high))
listed_leaf usable (suc n) a k low high none = ⊎_elim
    (λ (here : (a == k) ≡ true). subst (λ (i : ℕ). list_any (λ m. m == map_number usable i) (leaves (findings_from usable a (suc n))) ≡ true) (eq_is a k here) (at_head a (is_new_trunk usable a) refl (ap (is_new_trunk usable) (eq_is a k here) ∙ none)))
    (λ (other : (a == k) ≡ false). behind (is_new_trunk usable a) refl (listed_leaf usable n (a + 1) k (later other) (omega (arith, high)) none))
    (either (a == k))
  where
    later : (a == k) ≡ false → a + 1 ≤ k
    later other = search (rules, other, low)

    at_head : (a : ℕ) (t : Bool) → is_new_trunk usable a ≡ t → is_new_trunk usable a ≡ false → list_any (λ m. m == map_number usable a) (leaves (findings_from usable a (suc n))) ≡ true
    at_head a true is not = absurd (differ (sym is ∙ not))
    at_head a false is not = rw is (ap (λ (b : Bool). b || list_any (λ m. m == map_number usable a) (leaves (findings_from usable (a + 1) n))) (eq-eqb (map_number usable a) (map_number usable a) refl))

    behind : (t : Bool) → is_new_trunk usable a ≡ t → list_any (λ m. m == map_number usable k) (leaves (findings_from usable (a + 1) n)) ≡ true
        → list_any (λ m. m == map_number usable k) (leaves (findings_from usable a (suc n))) ≡ true
    behind true is rest = rw is rest
    behind false is rest = rw is (or_right (map_number usable a == map_number usable k) _ rest)
      where
        or_right : (a b : Bool) → b ≡ true → (a || b) ≡ true
        or_right true b is = refl
        or_right false b is = is

-- ---- the file

module _ (passes : Bool) (keys : FileKeys) (before after : List ℕ) (listed : IsListed keys.profile) (few_pages : (n : ℕ) → count_of keys before ≡ Some n → n < 2 ^ 32)
    (from : AreMapsFreed keys (keys_set passes keys) before after) (clean : IsClean keys before) (may : CanLoseMaps (opened_pages keys before clean.opens.count)) where
  abbrev now : FileKeys
  now = keys_set passes keys

  abbrev count : ℕ
  count = from.count

  abbrev u : ℕ
  u = usable keys.profile

  abbrev plain : List ℕ
  plain = first_plain keys before

  abbrev old : Pages
  old = opened_pages keys before count

  abbrev new : Pages
  new = opened_pages now after count

  few : count < 2 ^ 32
  few = few_pages count from.was

  same_count : clean.opens.count ≡ count
  same_count = some_is clean.opens.count count (sym clean.opens.is_count ∙ from.was)

  can : CanBeSettled old
  can = ⊎_elim
      (λ (none : has_maps ((opened_pages keys before clean.opens.count).page 1) ≡ false).
      absurd (differ (sym from.there ∙ (ap has_maps (sym (first_page_of keys before count from.some)) ∙ (ap (λ (n : ℕ). has_maps ((opened_pages keys before n).page 1)) (sym same_count) ∙ none)))))
      (λ can. subst (λ (n : ℕ). CanBeSettled (opened_pages keys before n)) same_count can) may

  first_old : old.page 1 ≡ plain
  first_old = first_page_of keys before count from.some

  first_new : new.page 1 ≡ freed_page u count plain
  first_new = first_page_of now after count from.some ∙ from.first

  -- what is read of page 1
  at_first : {A : Type 0} (f : List ℕ → A) → f (freed_page u count plain) ≡ f plain → f (new.page 1) ≡ f (old.page 1)
  at_first f same = ap f first_new ∙ (same ∙ sym (ap f first_old))

  room : free_field old + maps_of old ≤ old.count
  room = free_few old can

  named_small : (n : ℕ) → names_well old n ≡ true → n < 2 ^ 32
  named_small n well = ⊎_elim
      (λ (none : (n == 0) ≡ true). omega (arith, eq_is n 0 none))
      (λ (some : (n == 0) ≡ false).
      let range = ap (λ (b : Bool). b || is_in_range old n) (sym some) ∙ well in
      omega (arith, le_is n count (and_right (nat_le 2 n) (nat_le n count) range), few))
      (either (n == 0))

  small_first : trunk_from u (map_count u count) (u32_at plain 32) 0 < 2 ^ 32
  small_first =
      subst (λ (l : List ℕ). trunk_from u (map_count u count) (u32_at l 32) 0 < 2 ^ 32) first_old
      (named_small (trunk_from u (maps_of old) (first_trunk old) 0) (from_well old few (first_trunk old) 0 (first_well old (free_sound old can))))

  by_number : (n : ℕ) (b : Bool) → is_page_number count n ≡ b → is_rewritten u count n ≡ false
      → (if b then opened now n (page_stored now after n) else []) ≡ (if b then opened keys n (page_stored keys before n) else [])
  by_number n false is other = refl
  by_number n true is other =
      let low : 1 ≤ n = true_le 1 n (and_left (nat_le 1 n) (nat_le n count) is) in
      let high : n ≤ count = true_le n count (and_right (nat_le 1 n) (nat_le n count) is) in
      ap (opened now n) (from.others n low high other) ∙ opened_set passes keys n (page_stored keys before n)

  accept_by : (n : ℕ) (b : Bool) → is_page_number count n ≡ b → is_rewritten u count n ≡ false → (b && accepts now n (page_stored now after n)) ≡ (b && accepts keys n (page_stored keys before n))
  accept_by n false is other = refl
  accept_by n true is other =
      let low : 1 ≤ n = true_le 1 n (and_left (nat_le 1 n) (nat_le n count) is) in
      let high : n ≤ count = true_le n count (and_right (nat_le 1 n) (nat_le n count) is) in
      ap (accepts now n) (from.others n low high other) ∙ accepts_set passes keys n (page_stored keys before n)

  -- a page that is none of the map pages, and not page 1, stays
  stays_if : (n : ℕ) → (n == 1) ≡ false → is_map old n ≡ false → is_rewritten u count n ≡ false
  stays_if n other none =
      ap (λ (b : Bool). b || ((is_map_page u n && nat_le n count) && is_new_trunk u ((n - 2) / span u))) other
      ∙ ap (λ (b : Bool). b && is_new_trunk u ((n - 2) / span u)) none

  accepted_here : (n : ℕ) → is_rewritten u count n ≡ true → new.accepts n ≡ true
  accepted_here n is =
      let num = rewritten_within u count n from.some is in
      let low : 1 ≤ n = true_le 1 n (and_left (nat_le 1 n) (nat_le n count) num) in
      let high : n ≤ count = true_le n count (and_right (nat_le 1 n) (nat_le n count) num) in
      ap (λ (b : Bool). b && accepts now n (page_stored now after n)) num ∙ from.accepted n low high is

  first_accepts : old.accepts 1 ≡ true
  first_accepts = ap (λ (b : Bool). b && accepts keys 1 (page_stored keys before 1)) (number_is count 1 (omega arith) from.some) ∙ fits_accepts keys (page_stored keys before 1) listed clean.opens.fit

  accepted_same : (n : ℕ) → is_map old n ≡ false → new.accepts n ≡ old.accepts n
  accepted_same n none = ⊎_elim
      (λ (one : (n == 1) ≡ true). ap new.accepts (eq_is n 1 one) ∙ (accepted_here 1 refl ∙ (sym first_accepts ∙ ap old.accepts (sym (eq_is n 1 one)))))
      (λ (other : (n == 1) ≡ false). accept_by n (is_page_number count n) refl (stays_if n other none)) (either (n == 1))

  settled : AreSettled old new
  settled = record {
    count = refl;
    usable = refl;
    node = λ family. at_first (read_node family 1) (node_same u count plain from.header few family);
    kind = at_first (kind_at 1) (kind_same u count plain from.header few);
    kept = at_first kept_fields (kept_same u count plain from.header few);
    first = ap (λ (l : List ℕ). u32_at l 32) first_new
        ∙ (trunk_is u count plain from.header few small_first ∙ ap (λ (l : List ℕ). trunk_from u (map_count u count) (u32_at l 32) 0) (sym first_old));
    free = ap (λ (l : List ℕ). u32_at l 36) first_new
        ∙ (count_is u count plain from.header few (omega (arith, room, few, ap (λ (l : List ℕ). u32_at l 36) first_old)) ∙ ap (λ (l : List ℕ). u32_at l 36 + map_count u count) (sym first_old));
    trunk = λ k less is.
        ap (λ (b : Bool). if b then opened now (map_number u k) (page_stored now after (map_number u k)) else []) (rewritten_within u count (map_number u k) from.some (trunk_rewritten u count k less is))
        ∙ (from.trunk k less is ∙ ap (λ (l : List ℕ). map_trunk u (map_count u count) (u32_at l 32) k) (sym first_old));
    lent = λ k less is. accepted_here (map_number u k) (trunk_rewritten u count k less is);
    page = λ n other none. by_number n (is_page_number count n) refl (stays_if n other none);
    accepted = accepted_same;
  }

  same : IsSameDatabase old new
  same = same_database old new can settled

  -- a page that is left was left before
  left_before : (n : ℕ) → is_left new (is_leaf new) n ≡ true → is_left old (is_leaf old) n ≡ true
  left_before n left = ⊎_elim by_map (λ (none : is_map old n ≡ false). other none) (either (is_map old n))
    where
      free : Bool
      free = list_any (λ m. m == n) (leaves (findings_from u 0 (maps_of old)))

      leaf_is : (b : Bool) → free ≡ b → is_leaf new n ≡ (b || is_leaf old n)
      leaf_is b is = same.leaf n ∙ ap (λ (c : Bool). c || is_leaf old n) is

      other : is_map old n ≡ false → is_left old (is_leaf old) n ≡ true
      other none =
          sym (ap (λ (b : Bool). not b && not (new.accepts n)) (leaf_is false (no_map_leaf old n none)) ∙ ap (λ (b : Bool). not (is_leaf old n) && not b) (accepted_same n none)) ∙ left

      never : (b : Bool) → b ≡ true → (not b && not (new.accepts n)) ≡ true → ⊥
      never true is left = cc
      never false is left = cc

      never_refused : (b c : Bool) → c ≡ true → (not b && not c) ≡ true → ⊥
      never_refused true true is left = cc
      never_refused false true is left = cc
      never_refused b false is left = cc

      by_map : is_map old n ≡ true → is_left old (is_leaf old) n ≡ true
      by_map is =
          let here = numbers_all u count n (and_left (is_map_page u n) (nat_le n count) is) (le_is n count (and_right (is_map_page u n) (nat_le n count) is)) in
          let k : ℕ = (n - 2) / span u in
          ⊎_elim
          (λ (trunk : is_new_trunk u k ≡ true).
          absurd (never_refused (is_leaf new n) (new.accepts n) (accepted_here n (ap (is_rewritten u count) here.0 ∙ trunk_rewritten u count k here.1 trunk)) left))
          (λ (leaf : is_new_trunk u k ≡ false).
          let among : free ≡ true = ap (λ (m : ℕ). list_any (λ i. i == m) (leaves (findings_from u 0 (maps_of old)))) here.0 ∙ listed_leaf u (maps_of old) 0 k (omega arith) (omega (arith, here.1)) leaf in
          absurd (never (is_leaf new n) (leaf_is true among) left))
          (either (is_new_trunk u k))

  refused_none : refused_in_use new ≡ []
  refused_none = none_where (is_left new (is_leaf new)) count (λ i less. ⊎_elim
      (λ (left : is_left new (is_leaf new) (1 + i) ≡ true). absurd (in_none (1 + i) (number_among (is_left old (is_leaf old)) count (1 + i) (omega arith) (omega (arith, less)) (left_before (1 + i) left))))
      (λ no. no) (either (is_left new (is_leaf new) (1 + i))))
    where
      was_none : refused_in_use old ≡ []
      was_none = subst (λ (n : ℕ). refused_in_use (opened_pages keys before n) ≡ []) same_count clean.accepted

      in_none : (n : ℕ) → Contains (refused_in_use old) n → ⊥
      in_none n there = none_in n (subst (λ (l : List ℕ). Contains l n) was_none there)
        where
          none_in : (n : ℕ) → Contains [] n → ⊥
          none_in n there = omega (arith, there.1)

  size_some : 16 ≤ keys.profile.page_size
  size_some = let least = (IsListed-laid_out keys.profile listed).least in omega (arith, least)

  begins : take 16 (page_stored keys after 1) ≡ take 16 (page_stored keys before 1)
  begins = sym (starts keys.profile.page_size after size_some) ∙ (from.salt ∙ starts keys.profile.page_size before size_some)

  sign : bears_sign keys.profile (opened keys 1 (page_stored keys after 1)) ≡ bears_sign keys.profile plain
  sign = ap (bears_sign keys.profile) (sym (opened_set passes keys 1 (page_stored keys after 1)) ∙ from.first) ∙ sign_is u count plain from.header few keys.profile

  fits_now : fits now (page_stored now after 1) ≡ true
  fits_now =
      fits_set passes keys (page_stored keys after 1)
      ∙ fits_too keys (page_stored keys before 1) (page_stored keys after 1) begins sign
      (sym (accepts_set passes keys 1 (page_stored keys after 1)) ∙ from.accepted 1 (omega arith) from.some refl) clean.opens.fit

  pub freed_clean : (is : IsClean now after) × (is.held ≡ clean.held)
  freed_clean = (
    record {
      held = clean.held;
      opens = record {
        fit = fits_now;
        count = count;
        is_count = from.is;
        sound = same.sound;
        is = same.plain ∙ subst (λ (n : ℕ). content (with_zeros (opened_pages keys before n)) ≡ clean.held) same_count clean.opens.is;
      };
      accepted = refused_none;
    },
    refl,
  )
