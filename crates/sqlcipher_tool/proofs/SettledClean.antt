-- A settled file is clean where the old one was, and holds the same.
use Rattle.std.proofs.Common.{◌≡◌, inl, inr, ◌==◌, ◌≤◌, ◌<◌, ◌+◌, ◌-◌, ◌^◌, ◌&&◌, not, ℕ, zero, suc, Bool, true, false, List, [], ◌∷◌, length, take, drop, Option, Some, None, Result, Ok, Err, if◌then◌else◌, refl, sym, ap, subst, ◌∙◌, arith, length-take, length-drop}
use Rattle.std.proofs.Math.Path.{fun_ext}
use Rattle.std.proofs.lemmas.List.{ext_get_or, get_or-drop, get_or-take}
use Rattle.std.specs.List.{list_all, list_any}
use Rattle.std.specs.Int.{to_be_bytes, w16}
use Rattle.std.specs.Prelude.{get_or, nat_le, nat_lt, replicate, slice_index, slice_range}
use Rattle.std.specs.Str.{bytes_eq}
use Rattle.std.proofs.lemmas.Bool.{eqb-true}
use Rattle.btree_model.proofs.UnmarkedLemmas.{and_left, and_right}
use Rattle.btree_model.specs.Content.{content, kept_fields}
use Rattle.btree_model.specs.Finding.{Finding, is_sound, leaves}
use Rattle.btree_model.specs.Parts.{is_database}
use Rattle.btree_model.specs.Plain.{is_leaf, with_zeros}
use Rattle.btree_page.specs.Kind.{kind_at}
use Rattle.btree_page.specs.Page.{read_node}
use Rattle.btree_page.specs.declared.kind.Family.{Family}
use Rattle.cipher_profile.proofs.Layouts.{IsListed-laid_out}
use Rattle.cipher_profile.specs.Profile.{IsListed, is_plain}
use Rattle.cipher_profile.specs.declared.profile.Profile.{Profile}
use Rattle.db_format.specs.Bytes.{u32_at}
use Rattle.db_format.specs.Count.{count_of_pages}
use Rattle.db_format.specs.declared.count.CountRefusal.{CountRefusal}
use Rattle.db_format.specs.declared.header.Header.{Header}
use Rattle.db_format.specs.declared.header.HeaderRefusal.{HeaderRefusal}
use Rattle.db_format.specs.Pages.{Pages, nothing}
use Rattle.page_codec.specs.Page.{FileKeys, accepts, bears_sign, begins_with_magic, deciphered, fits, magic, opened}
use Rattle.pager.specs.Database.{count_of, counted, ok_count}
use Rattle.pager.specs.File.{page_stored}
use Rattle.pager.specs.Pages.{is_page_number, opened_pages}
use Rattle.sqlcipher_tool.specs.FirstPage.{next_change, with_field}
use Rattle.sqlcipher_tool.specs.Plain.{IsClean, is_left, refused_in_use}
use Rattle.sqlcipher_tool.specs.ReadAlike.{AreReadAlike}
use Rattle.sqlcipher_tool.specs.Maps.{first_plain, versions, versions_at}
use Rattle.sqlcipher_tool.specs.Settle.{IsUnmarked, keys_set}
use Rattle.sqlcipher_tool.specs.Tags.{numbers_where}
use Rattle.sqlcipher_tool.proofs.ChangedFields.{byte_kept, changed_byte, changed_length, field_byte, field_length, field_outside}
use Rattle.sqlcipher_tool.proofs.ChangedPages.{count_few}
use Rattle.sqlcipher_tool.proofs.Databases.{counted_pages}
use Rattle.pager.proofs.Resealed.{starts}
use Rattle.sqlcipher_tool.proofs.FirstNode.{first_kind_same, first_page_same}
use Rattle.sqlcipher_tool.proofs.Numbers.{true_le}
use Rattle.sqlcipher_tool.proofs.OpenedParts.{ciphered_fits, fits_accepts, header_size, keyed, plain_fits}
use Rattle.sqlcipher_tool.proofs.ReadAlike.{content_same, freelist_same, parts_same}
use Rattle.sqlcipher_tool.proofs.Unmarked.{accepts_set, field, fits_set, high, opened_set, unmarked, unmarked_length}
use Rattle.sqlcipher_tool.proofs.Verified.{some_is}

-- ---- pages that read alike

module _ (old new : Pages) (all : AreReadAlike old new) where
  leaf_same : (n : ℕ) → is_leaf new n ≡ is_leaf old n
  leaf_same n = ap (λ (found : List Finding). list_any (λ m. m == n) (if is_sound found then leaves found else [])) (freelist_same old new all nothing)

  zeros_at : (n : ℕ) → (with_zeros new).page n ≡ (if is_leaf old n then replicate old.usable 0 else new.page n)
  zeros_at n =
      ap (λ (b : Bool). if b then replicate new.usable 0 else new.page n) (leaf_same n)
      ∙ ap (λ (u : ℕ). if is_leaf old n then replicate u 0 else new.page n) all.usable

  by_leaf : {A : Type 0} (f : List ℕ → A) (b : Bool) (zeros one other : List ℕ) → f other ≡ f one → f (if b then zeros else other) ≡ f (if b then zeros else one)
  by_leaf f true zeros one other same = refl
  by_leaf f false zeros one other same = same

  -- what is read of a page is read of it among those with zeros
  at_page : {A : Type 0} (f : List ℕ → A) (n : ℕ) → f (new.page n) ≡ f (old.page n) → f ((with_zeros new).page n) ≡ f ((with_zeros old).page n)
  at_page f n same = ap f (zeros_at n) ∙ by_leaf f (is_leaf old n) (replicate old.usable 0) (old.page n) (new.page n) same

  zeros_alike : AreReadAlike (with_zeros old) (with_zeros new)
  zeros_alike = record {
    count = all.count;
    usable = all.usable;
    accepted = all.accepted;
    page = λ n other. at_page (λ (bytes : List ℕ). bytes) n (all.page n other);
    node = λ family. at_page (read_node family 1) 1 (all.node family);
    kind = at_page (kind_at 1) 1 all.kind;
    trunk = at_page (λ (bytes : List ℕ). u32_at bytes 32) 1 all.trunk;
    free = at_page (λ (bytes : List ℕ). u32_at bytes 36) 1 all.free;
    kept = at_page kept_fields 1 all.kept;
  }

  pub held_same : content (with_zeros new) ≡ content (with_zeros old)
  held_same = content_same (with_zeros old) (with_zeros new) zeros_alike

  pub sound_same : is_database new ≡ is_database old
  sound_same = ap (list_all is_sound) (parts_same old new all)

  pub refused_same : refused_in_use new ≡ refused_in_use old
  refused_same =
      ap (λ (c : ℕ). numbers_where (is_left new (is_leaf new)) c) all.count
      ∙ ap (λ (test : ℕ → Bool). numbers_where test old.count) (fun_ext (λ n.
      ap (λ (b : Bool). not b && not (new.accepts n)) (leaf_same n) ∙ ap (λ (b : Bool). not (is_leaf old n) && not b) (all.accepted n)))

-- ---- files whose pages do

-- what `IsClean` says of a file with so many pages
pub clean_alike : (old_keys new_keys : FileKeys) (before after : List ℕ) (count : ℕ) → AreReadAlike (opened_pages old_keys before count) (opened_pages new_keys after count)
    → count_of old_keys before ≡ Some count → count_of new_keys after ≡ Some count → fits new_keys (page_stored new_keys after 1) ≡ true
    → (clean : IsClean old_keys before) → (now : IsClean new_keys after) × (now.held ≡ clean.held)
clean_alike old_keys new_keys before after count alike was is fit clean =
    let old = opened_pages old_keys before count in
    let new = opened_pages new_keys after count in
    let same : clean.opens.count ≡ count = some_is clean.opens.count count (sym clean.opens.is_count ∙ was) in
    let sound = subst (λ (n : ℕ). is_database (opened_pages old_keys before n) ≡ true) same clean.opens.sound in
    let holds = subst (λ (n : ℕ). content (with_zeros (opened_pages old_keys before n)) ≡ clean.held) same clean.opens.is in
    let accepted = subst (λ (n : ℕ). refused_in_use (opened_pages old_keys before n) ≡ []) same clean.accepted in (
      record {
        held = clean.held;
        opens = record {
          fit = fit;
          count = count;
          is_count = is;
          sound = sound_same old new alike ∙ sound;
          is = held_same old new alike ∙ holds;
        };
        accepted = refused_same old new alike ∙ accepted;
      },
      refl,
    )

-- bytes between two offsets are the same where each is
between_same : (a b : List ℕ) (i j : ℕ) → length a ≡ length b → ((k : ℕ) → i ≤ k → k < j → get_or a k 0 ≡ get_or b k 0) → slice_range a i j ≡ slice_range b i j
between_same a b i j long same =
    ext_get_or 0 (slice_range a i j) (slice_range b i j)
    (omega (arith, long, length-take (j - i) (drop i a), length-take (j - i) (drop i b), length-drop i a, length-drop i b))
    (λ k less.
    let within : k < j - i = omega (arith, less, length-take (j - i) (drop i a)) in
    get_or-take (j - i) (drop i a) k 0 within ∙ (get_or-drop i a k 0 ∙ (same (i + k) (omega arith) (omega (arith, within)) ∙ sym (get_or-take (j - i) (drop i b) k 0 within ∙ get_or-drop i b k 0))))

-- a sign is that of each page 1 with the same bytes around the versions
pub sign_same : (profile : Profile) (a b : List ℕ) → length a ≡ length b → ((k : ℕ) → 16 ≤ k → k < 18 → get_or a k 0 ≡ get_or b k 0) → ((k : ℕ) → 20 ≤ k → k < 24 → get_or a k 0 ≡ get_or b k 0)
    → bears_sign profile a ≡ bears_sign profile b
sign_same profile a b long size rest =
    let named : List ℕ = to_be_bytes w16 (if profile.page_size == 65536 then 1 else profile.page_size) in
    let others : List ℕ = profile.reserve ∷ 64 ∷ 32 ∷ 32 ∷ [] in
    ap (λ (l : List ℕ). bytes_eq l named && bytes_eq (slice_range a 20 24) others) (between_same a b 16 18 long size)
    ∙ ap (λ (l : List ℕ). bytes_eq (slice_range b 16 18) named && bytes_eq l others) (between_same a b 20 24 long rest)

-- the key fits the new page 1 too
pub fits_too : (keys : FileKeys) (old new : List ℕ) → take 16 new ≡ take 16 old → bears_sign keys.profile (opened keys 1 new) ≡ bears_sign keys.profile (opened keys 1 old) → accepts keys 1 new ≡ true
    → fits keys old ≡ true → fits keys new ≡ true
fits_too keys old new begins sign accepted fit = by_plain (is_plain keys.profile) refl
  where
    keyed_too : (headed a b d e : Bool) → d ≡ a → e ≡ true → (if headed then a && b else b) ≡ true → (if headed then d && e else e) ≡ true
    keyed_too true true b d e begun accepted is = ap (λ (x : Bool). x && e) begun ∙ accepted
    keyed_too true false b d e begun accepted is = cc
    keyed_too false a b d e begun accepted is = accepted

    begun : begins_with_magic new ≡ begins_with_magic old
    begun = ap (λ (l : List ℕ). bytes_eq l magic) begins

    by_tag : (b : Bool) → (if b then bears_sign keys.profile (opened keys 1 old) else keyed keys old) ≡ true → (if b then bears_sign keys.profile (opened keys 1 new) else keyed keys new) ≡ true
    by_tag true is = sign ∙ is
    by_tag false is = keyed_too (nat_lt 0 keys.profile.plain_header) (begins_with_magic old) (accepts keys 1 old) (begins_with_magic new) (accepts keys 1 new) begun accepted is

    by_plain : (b : Bool) → is_plain keys.profile ≡ b → fits keys new ≡ true
    by_plain true plain = plain_fits keys new plain ∙ (begun ∙ (sym (plain_fits keys old plain) ∙ fit))
    by_plain false ciphered = ciphered_fits keys new ciphered ∙ by_tag (keys.profile.tag_len == 0) (sym (ciphered_fits keys old ciphered) ∙ fit)

-- ---- page 1 of the settled file

module _ (count change : ℕ) (plain : List ℕ) (long : 100 ≤ length plain) (few : count < 2 ^ 32) (within : change < 2 ^ 32) where
  abbrev one : List ℕ
  one = unmarked plain long

  abbrev pub settled_page : List ℕ
  settled_page = with_field 92 change (with_field 28 count (with_field 24 change one))

  long_one : 100 ≤ length one
  long_one = omega (arith, long, unmarked_length plain long)

  pub page_long : length settled_page ≡ length plain
  page_long = changed_length count change one long_one few within ∙ unmarked_length plain long

  enough : versions_at + length versions ≤ length plain
  enough = omega (arith, long)

  pub page_low : (k : ℕ) → k < 18 → slice_index settled_page k ≡ slice_index plain k
  page_low k less = changed_byte count change one long_one few within k (inl (omega (arith, less))) ∙ byte_kept versions_at versions plain enough k (inl less)

  pub page_mid : (k : ℕ) → 20 ≤ k → k < 24 → slice_index settled_page k ≡ slice_index plain k
  page_mid k more less = changed_byte count change one long_one few within k (inl less) ∙ high plain long k more

  pub page_field : (k : ℕ) → 32 ≤ k → k + 4 ≤ 92 → u32_at settled_page k ≡ u32_at plain k
  page_field k more less = field_outside count change one long_one few within k (more, less) ∙ field plain long k (omega (arith, more))

  pub page_behind : (k : ℕ) → 96 ≤ k → slice_index settled_page k ≡ slice_index plain k
  page_behind k more =
      let two = with_field 24 change one in
      let three = with_field 28 count two in
      let two_long : length two ≡ length one = field_length 24 change one (omega (arith, long_one)) in
      let three_long : length three ≡ length two = field_length 28 count two (omega (arith, long_one, two_long)) in
      field_byte 92 change three (omega (arith, long_one, two_long, three_long)) k (inr more)
      ∙ (field_byte 28 count two (omega (arith, long_one, two_long)) k (inr (omega (arith, more)))
      ∙ (field_byte 24 change one (omega (arith, long_one)) k (inr (omega (arith, more))) ∙ high plain long k (omega (arith, more))))

  last_field : u32_at settled_page 96 ≡ u32_at plain 96
  last_field = omega (arith, page_behind 96 (omega arith), page_behind 97 (omega arith), page_behind 98 (omega arith), page_behind 99 (omega arith))

  pub page_kept : kept_fields settled_page ≡ kept_fields plain
  page_kept =
      let f40 = page_field 40 (omega arith) (omega arith) in
      let f44 = page_field 44 (omega arith) (omega arith) in
      let f48 = page_field 48 (omega arith) (omega arith) in
      let f56 = page_field 56 (omega arith) (omega arith) in
      let f60 = page_field 60 (omega arith) (omega arith) in
      let f68 = page_field 68 (omega arith) (omega arith) in
      λ i. f40 i ∷ f44 i ∷ f48 i ∷ f56 i ∷ f60 i ∷ f68 i ∷ last_field i ∷ []

  high_same : (k : ℕ) → 100 ≤ k → get_or settled_page k 0 ≡ get_or plain k 0
  high_same k more = page_behind k (omega (arith, more))

  pub page_node : (family : Family) → read_node family 1 settled_page ≡ read_node family 1 plain
  page_node family = first_page_same settled_page plain page_long high_same family

  pub page_kind : kind_at 1 settled_page ≡ kind_at 1 plain
  page_kind = first_kind_same settled_page plain page_long high_same

  pub page_sign : (profile : Profile) → bears_sign profile settled_page ≡ bears_sign profile plain
  page_sign profile = sign_same profile settled_page plain page_long (λ k more less. page_low k less) page_mid

-- ---- the settled file

pub other_than : (n : ℕ) → (n == 1) ≡ false → 1 ≤ n → 2 ≤ n
other_than zero is some = absurd (omega (arith, some))
other_than (suc zero) is some = cc
other_than (suc (suc n)) is some = omega arith

-- with or without the setting the pages are the same
pub pages_set : (passes : Bool) (keys : FileKeys) (file : List ℕ) (count : ℕ) → opened_pages (keys_set passes keys) file count ≡ opened_pages keys file count
unfolding accepts opened deciphered
pages_set passes keys file count = refl

pub themselves : (pages : Pages) → AreReadAlike pages pages
themselves pages = record {
  count = refl;
  usable = refl;
  accepted = λ n. refl;
  page = λ n other. refl;
  node = λ family. refl;
  kind = refl;
  trunk = refl;
  free = refl;
  kept = refl;
}

-- a page 1 that was changed so, and other pages that stay
module _ (passes : Bool) (keys : FileKeys) (before after : List ℕ) (listed : IsListed keys.profile) (fit : fits keys (page_stored keys before 1) ≡ true) (few_pages : (n : ℕ) → count_of keys before ≡ Some n → n < 2 ^ 32)
    (from : IsUnmarked keys (keys_set passes keys) before after) where
  abbrev now : FileKeys
  now = keys_set passes keys

  abbrev count : ℕ
  count = from.count

  abbrev plain_before : List ℕ
  plain_before = first_plain keys before

  few : count < 2 ^ 32
  few = few_pages count from.was

  abbrev change : ℕ
  change = next_change (u32_at plain_before 24)

  within : change < 2 ^ 32
  within = Rattle.std.proofs.Math.Nat.mod-lt (u32_at plain_before 24 + 1) (omega arith)

  abbrev old : Pages
  old = opened_pages keys before count

  abbrev new : Pages
  new = opened_pages now after count

  stays : (n : ℕ) → 2 ≤ n → n ≤ count → page_stored keys after n ≡ page_stored keys before n
  stays n low high = from.others n low high

  by_number : (n : ℕ) (b : Bool) → is_page_number count n ≡ b → (n == 1) ≡ false
      → (if b then opened now n (page_stored keys after n) else []) ≡ (if b then opened keys n (page_stored keys before n) else [])
  by_number n false is other = refl
  by_number n true is other =
      let low : 1 ≤ n = true_le 1 n (and_left (nat_le 1 n) (nat_le n count) is) in
      let high : n ≤ count = true_le n count (and_right (nat_le 1 n) (nat_le n count) is) in
      ap (opened now n) (stays n (other_than n other low) high) ∙ opened_set passes keys n (page_stored keys before n)

  accept_by : (n : ℕ) (b : Bool) → is_page_number count n ≡ b → (n == 1) ≡ false → (b && accepts now n (page_stored keys after n)) ≡ (b && accepts keys n (page_stored keys before n))
  accept_by n false is other = refl
  accept_by n true is other =
      let low : 1 ≤ n = true_le 1 n (and_left (nat_le 1 n) (nat_le n count) is) in
      let high : n ≤ count = true_le n count (and_right (nat_le 1 n) (nat_le n count) is) in
      ap (accepts now n) (stays n (other_than n other low) high) ∙ accepts_set passes keys n (page_stored keys before n)

  accept_same : (n : ℕ) (b : Bool) → (n == 1) ≡ b → new.accepts n ≡ old.accepts n
  accept_same n false other = accept_by n (is_page_number count n) refl other
  accept_same n true is =
      ap (λ (m : ℕ). is_page_number count m && accepts now m (page_stored keys after m)) (eqb-true n 1 is)
      ∙ ap (λ (b : Bool). is_page_number count 1 && b) (from.accepted ∙ sym (fits_accepts keys (page_stored keys before 1) listed fit))
      ∙ sym (ap (λ (m : ℕ). is_page_number count m && accepts keys m (page_stored keys before m)) (eqb-true n 1 is))

  -- what is read of page 1
  at_first : {A : Type 0} (f : List ℕ → A) → f (settled_page count change plain_before from.header few within) ≡ f plain_before → f (new.page 1) ≡ f (old.page 1)
  at_first f same = by (is_page_number count 1)
    where
      by : (b : Bool) → f (if b then opened now 1 (page_stored keys after 1) else []) ≡ f (if b then opened keys 1 (page_stored keys before 1) else [])
      by true = ap f from.first ∙ same
      by false = refl

  alike : AreReadAlike old new
  alike = record {
    count = refl;
    usable = refl;
    accepted = λ n. accept_same n (n == 1) refl;
    page = λ n other. by_number n (is_page_number count n) refl other;
    node = λ family. at_first (read_node family 1) (page_node count change plain_before from.header few within family);
    kind = at_first (kind_at 1) (page_kind count change plain_before from.header few within);
    trunk = at_first (λ (bytes : List ℕ). u32_at bytes 32) (page_field count change plain_before from.header few within 32 (omega arith) (omega arith));
    free = at_first (λ (bytes : List ℕ). u32_at bytes 36) (page_field count change plain_before from.header few within 36 (omega arith) (omega arith));
    kept = at_first kept_fields (page_kept count change plain_before from.header few within);
  }

  size_some : 16 ≤ keys.profile.page_size
  size_some = let least = (IsListed-laid_out keys.profile listed).least in omega (arith, least)

  begins : take 16 (page_stored keys after 1) ≡ take 16 (page_stored keys before 1)
  begins = sym (starts keys.profile.page_size after size_some) ∙ (from.salt ∙ starts keys.profile.page_size before size_some)

  sign : bears_sign keys.profile (opened keys 1 (page_stored keys after 1)) ≡ bears_sign keys.profile (opened keys 1 (page_stored keys before 1))
  sign =
      ap (bears_sign keys.profile) (sym (opened_set passes keys 1 (page_stored keys after 1)) ∙ from.first) ∙ page_sign count change plain_before from.header few within keys.profile

  fits_now : fits now (page_stored keys after 1) ≡ true
  fits_now =
      fits_set passes keys (page_stored keys after 1)
      ∙ fits_too keys (page_stored keys before 1) (page_stored keys after 1) begins sign (sym (accepts_set passes keys 1 (page_stored keys after 1)) ∙ from.accepted) fit

  pub clean_now : (clean : IsClean keys before) → (is : IsClean now after) × (is.held ≡ clean.held)
  clean_now clean = clean_alike keys now before after count alike from.was from.is fits_now clean

-- the count of a file is below 2^32
counted_so : (len : ℕ) (r : Result Header HeaderRefusal) (n : ℕ) → counted len r ≡ Some n → (h : Header) × (r ≡ Ok h) × (count_of_pages h len ≡ Ok n)
counted_so len (Err refusal) n is = cc
counted_so len (Ok h) n is = (h, refl, by_count (count_of_pages h len) is)
  where
    by_count : (c : Result ℕ CountRefusal) → ok_count c ≡ Some n → c ≡ Ok n
    by_count (Ok m) is = ap (λ (k : ℕ). Ok k) (some_is m n is)
    by_count (Err refusal) is = cc

pub few_pages : (keys : FileKeys) (file : List ℕ) (n : ℕ) → IsListed keys.profile → count_of keys file ≡ Some n → n < 2 ^ 32
few_pages keys file n listed is =
    let by = counted_so (length file) _ n (not_short (nat_lt (length file) keys.profile.page_size) _ is) in
    let least = (IsListed-laid_out keys.profile listed).least in
    let sized = header_size keys.profile.reads_log (first_plain keys file) keys.profile.page_size keys.profile.reserve by.0 by.1 in
    count_few n by.0.page_size (omega (arith, least, sized.1)) (counted_pages by.0 (length file) n by.2).small
  where
    not_short : (b : Bool) (o : Option ℕ) → (if b then None else o) ≡ Some n → o ≡ Some n
    not_short true o is = cc
    not_short false o is = is
