-- The old file of a rekeyed one was clean, and the new one opens under the new keys to its content.
use Rattle.std.proofs.Common.{◌≡◌, ◌≤◌, ◌==◌, ◌&&◌, ◌-◌, ◌+◌, ◌*◌, ◌<◌, ◌/◌, ◌%◌, not, ℕ, zero, suc, Bool, true, false, List, [], ◌∷◌, length, map, take, Some, None, Result, Ok, Err, refl, sym, ap, subst, ◌∙◌, arith, rules, if◌then◌else◌}
use Rattle.std.specs.Prelude.{◌||◌, nat_lt, replicate, slice_range}
use Rattle.std.specs.Int.{w16, to_be_bytes}
use Rattle.std.specs.List.{Contains, list_any, range_with_len}
use Rattle.std.specs.Str.{bytes_eq}
use Rattle.std.proofs.lemmas.Slice.Eq.{bytes_eq-Decides}
use Rattle.std.proofs.Math.Nat.{div-add-mod, mod-lt}
use Rattle.std.proofs.Math.Path.{fun_ext}
use Rattle.btree_model.specs.Finding.{is_sound, leaves}
use Rattle.btree_model.specs.Freelist.{freelist_walk}
use Rattle.btree_model.specs.Parts.{is_database}
use Rattle.btree_model.specs.Plain.{is_leaf, with_zeros}
use Rattle.btree_model.proofs.UnmarkedLemmas.{and_left}
use Rattle.cipher_profile.specs.Profile.{IsListed, is_clear, is_plain}
use Rattle.cipher_profile.proofs.Layouts.{IsListed-laid_out, reserve_untagged, untagged_reserve}
use Rattle.cipher_profile.specs.declared.keys.Secret.{Secret}
use Rattle.cipher_profile.specs.declared.profile.Profile.{Profile}
use Rattle.db_format.specs.Count.{count_of_pages, size_counts}
use Rattle.db_format.specs.Header.{header_read_as}
use Rattle.db_format.specs.Pages.{Pages, nothing}
use Rattle.db_format.specs.declared.count.CountRefusal.{CountRefusal}
use Rattle.db_format.specs.declared.header.Header.{Header}
use Rattle.db_format.specs.declared.header.HeaderRefusal.{HeaderRefusal}
use Rattle.page_codec.specs.Page.{FileKeys, accepts, bears_sign, begins_with_magic, fits, keys_of, magic, opened, salt_of}
use Rattle.pager.specs.Database.{count_by, count_of, counted, ok_count}
use Rattle.pager.specs.File.{page_stored}
use Rattle.pager.specs.Pages.{is_page_number, opened_pages}
use Rattle.pager.proofs.BatchLemmas.{number_is}
use Rattle.pager.proofs.Resealed.{plain_alike, starts}
use Rattle.rekey_job.specs.Rekeyed.{IsRekeyed}
use Rattle.rekey_job.specs.Stops.{AreClean}
use Rattle.sqlcipher_tool.specs.Plain.{HaveSamePages, IsClean, Opens, content_of, is_left, refused_in_use}
use Rattle.sqlcipher_tool.specs.Renewal.{IsRekeyedSo}
use Rattle.sqlcipher_tool.proofs.Databases.{counted_pages}
use Rattle.sqlcipher_tool.proofs.OpenedParts.{ciphered_fits, header_size, keyed, keyed_of, plain_fits}
use Rattle.sqlcipher_tool.proofs.Rekeying.{clean_accepted, number_among}
use Rattle.sqlcipher_tool.proofs.SamePages.{free_same, in_use_same, opens_same}
use Rattle.sqlcipher_tool.proofs.Verified.{some_is}
use Rattle.sqlcipher_tool.proofs.Numbers.{no_less}

-- ---- a file that has a count has a page

counted_some : (h : Header) (len n : ℕ) → 1 ≤ h.page_size → h.page_size ≤ len → count_of_pages h len ≡ Ok n → 1 ≤ n
counted_some h len n size long is = subst (λ (k : ℕ). 1 ≤ k) (counted_pages h len n is).counts
    ((elim (size_counts h) as (λ b. size_counts h ≡ b → 1 ≤ (if b then h.size_field else len / h.page_size)) [
      | true ↦ λ t. field_some h t
      | false ↦ λ t. pages_some len h.page_size size long
    ]) refl)
  where
    field_some : (h : Header) → size_counts h ≡ true → 1 ≤ h.size_field
    field_some h t = search (rules, t)

    pages_some : (len size : ℕ) → 1 ≤ size → size ≤ len → 1 ≤ len / size
    pages_some len size some long = one_at_least size len (len / size) (len % size) (div-add-mod len size) (mod-lt len some) long
      where
        one_at_least : (size len q r : ℕ) → size * q + r ≡ len → r < size → size ≤ len → 1 ≤ q
        one_at_least size len zero r is less long = absurd (omega (arith, is, less, long))
        one_at_least size len (suc q) r is less long = omega arith

-- what a count says of page 1
record HasHeader (keys : FileKeys) (first : List ℕ) (len n : ℕ) : Type 0 where
  long : keys.profile.page_size ≤ len
  header : Header
  read : header_read_as keys.profile.reads_log (opened keys 1 first) keys.profile.page_size keys.profile.reserve ≡ Ok header
  counts : count_of_pages header len ≡ Ok n

has_header : (keys : FileKeys) (first : List ℕ) (len n : ℕ) → count_by keys first len ≡ Some n → HasHeader keys first len n
has_header keys first len n is = by_length (nat_lt len keys.profile.page_size) refl (header_read_as keys.profile.reads_log (opened keys 1 first) keys.profile.page_size keys.profile.reserve) refl is
  where
    by_count : (header : Header) (c : Result ℕ CountRefusal) → ok_count c ≡ Some n → c ≡ Ok n
    by_count header (Ok m) is = ap (λ (k : ℕ). Ok k) (some_is m n is)
    by_count header (Err refusal) is = cc

    by_length : (b : Bool) → nat_lt len keys.profile.page_size ≡ b → (r : Result Header HeaderRefusal) → header_read_as keys.profile.reads_log (opened keys 1 first) keys.profile.page_size keys.profile.reserve ≡ r
        → (if b then None else counted len r) ≡ Some n → HasHeader keys first len n
    by_length true less r read is = cc
    by_length false less (Err refusal) read is = cc
    by_length false less (Ok header) read is = record { long = no_less len keys.profile.page_size less; header = header; read = read; counts = by_count header (count_of_pages header len) is }

pub count_some : (keys : FileKeys) (file : List ℕ) (n : ℕ) → 1 ≤ keys.profile.page_size → count_of keys file ≡ Some n → 1 ≤ n
count_some keys file n size is =
    let has = has_header keys (page_stored keys file 1) (length file) n is in
    let same = (header_size keys.profile.reads_log (opened keys 1 (page_stored keys file 1)) keys.profile.page_size keys.profile.reserve has.header has.read).1 in
    counted_some has.header (length file) n (subst (λ (k : ℕ). 1 ≤ k) (sym same) size) (subst (λ (k : ℕ). k ≤ length file) (sym same) has.long) has.counts

-- ---- a file whose pages are clean

clean_file : (keys : FileKeys) (file : List ℕ) (count : ℕ) → fits keys (page_stored keys file 1) ≡ true → count_of keys file ≡ Some count
    → AreClean (opened_pages keys file count) → IsClean keys file
clean_file keys file count fit counts clean = record {
  held = content_of keys file count;
  opens = record { fit = fit; count = count; is_count = counts; sound = clean.sound; is = refl };
  accepted = clean_accepted (opened_pages keys file count) clean;
}

-- ---- the same database

module _ (old_keys new_keys : FileKeys) (count : ℕ) (old new : List ℕ) (old_listed : IsListed old_keys.profile) (new_listed : IsListed new_keys.profile)
    (sizes : new_keys.profile.page_size ≡ old_keys.profile.page_size) (reserves : new_keys.profile.reserve ≡ old_keys.profile.reserve)
    (plainly : is_clear new_keys.profile ≡ true → new_keys.salt ≡ magic) (rekeyed : IsRekeyed old_keys new_keys count old new) (clean : IsClean old_keys old) where
  abbrev before : Pages
  before = opened_pages old_keys old count

  abbrev after : Pages
  after = opened_pages new_keys new count

  same_counts : clean.opens.count ≡ count
  same_counts = some_is clean.opens.count count (sym clean.opens.is_count ∙ rekeyed.was)

  whole : is_database before ≡ true
  whole = subst (λ (n : ℕ). is_database (opened_pages old_keys old n) ≡ true) same_counts clean.opens.sound

  none_refused : refused_in_use before ≡ []
  none_refused = subst (λ (n : ℕ). refused_in_use (opened_pages old_keys old n) ≡ []) same_counts clean.accepted

  free_sound : is_sound (freelist_walk before nothing) ≡ true
  free_sound = and_left (is_sound (freelist_walk before nothing)) _ whole

  same_usable : after.usable ≡ before.usable
  same_usable = ap (λ (s : ℕ). s - new_keys.profile.reserve) sizes ∙ ap (λ (r : ℕ). old_keys.profile.page_size - r) reserves

  -- ---- the pages in use

  was_accepted : (n : ℕ) → is_page_number count n ≡ true → is_leaf before n ≡ false → before.accepts n ≡ true
  was_accepted n num none = by_accepts (before.accepts n) refl
    where
      in_range : (count n : ℕ) → is_page_number count n ≡ true → (1 ≤ n) × (n ≤ count)
      in_range count n is = search (rules, is)

      left : (leaf accepted : Bool) → leaf ≡ false → accepted ≡ false → (not leaf && not accepted) ≡ true
      left leaf accepted one two = rw (one, two) refl

      empty : {xs : List ℕ} → xs ≡ [] → Contains xs n → ⊥
      empty {xs} is has = omega (arith, has.1, ap length is)

      by_accepts : (b : Bool) → before.accepts n ≡ b → before.accepts n ≡ true
      by_accepts true is = is
      by_accepts false is =
          let range = in_range count n num in
          absurd (empty none_refused (number_among (is_left before (is_leaf before)) count n range.0 range.1 (left (is_leaf before n) (before.accepts n) none is)))

  same_page : (n : ℕ) → is_leaf before n ≡ false → after.page n ≡ before.page n
  same_page n none = by_number (is_page_number count n) refl
    where
      by_number : (b : Bool) → is_page_number count n ≡ b → after.page n ≡ before.page n
      by_number true num =
          ap (λ (b : Bool). if b then opened new_keys n (page_stored new_keys new n) else []) num
          ∙ rekeyed.plain n num
          ∙ ap (λ (b : Bool). if b then replicate before.usable 0 else before.page n) none
      by_number false num =
          ap (λ (b : Bool). if b then opened new_keys n (page_stored new_keys new n) else []) num
          ∙ sym (ap (λ (b : Bool). if b then opened old_keys n (page_stored old_keys old n) else []) num)

  same_accepts : (n : ℕ) → is_leaf before n ≡ false → after.accepts n ≡ before.accepts n
  same_accepts n none = by_number (is_page_number count n) refl
    where
      by_number : (b : Bool) → is_page_number count n ≡ b → after.accepts n ≡ before.accepts n
      by_number true num =
          ap (λ (b : Bool). b && accepts new_keys n (page_stored new_keys new n)) num
          ∙ rekeyed.accepted n num
          ∙ sym (was_accepted n num none)
      by_number false num =
          ap (λ (b : Bool). b && accepts new_keys n (page_stored new_keys new n)) num
          ∙ sym (ap (λ (b : Bool). b && accepts old_keys n (page_stored old_keys old n)) num)

  same_leaf : (n : ℕ) → is_leaf after n ≡ is_leaf before n
  same_leaf n =
      let all = in_use_same before after free_sound (record { count = refl; usable = same_usable; page = same_page; accepted = same_accepts }) in
      ap (λ found. list_any (λ m. m == n) (if is_sound found then leaves found else [])) (free_same before after all)

  -- ---- all plain pages

  same_plain : (n : ℕ) → (with_zeros after).page n ≡ (with_zeros before).page n
  same_plain n =
      ap (λ (b : Bool). if b then replicate after.usable 0 else after.page n) (same_leaf n)
      ∙ ((elim (is_leaf before n) as (λ b. is_leaf before n ≡ b → (if b then replicate after.usable 0 else after.page n) ≡ (if b then replicate before.usable 0 else before.page n)) [
        | true ↦ λ t. ap (λ (u : ℕ). replicate u 0) same_usable
        | false ↦ λ t. same_page n t
      ]) refl)

  same_pages : HaveSamePages count old_keys old new_keys new
  same_pages = record {
    old_count = rekeyed.was;
    new_count = rekeyed.is;
    usable = same_usable;
    plain = ap (λ (page : ℕ → List ℕ). map page (range_with_len 1 count)) (fun_ext same_plain);
    accepted = same_accepts;
  }

  -- ---- the key

  -- of two profiles of one layout both have tags or none has
  same_tags : new_keys.profile.tag_len ≡ 0 → old_keys.profile.tag_len ≡ 0
  same_tags none = untagged old_keys.profile new_keys.profile old_listed new_listed reserves none
    where
      untagged : (old new : Profile) → IsListed old → IsListed new → new.reserve ≡ old.reserve → new.tag_len ≡ 0 → old.tag_len ≡ 0
      untagged old new old_listed new_listed same none =
          let few = untagged_reserve new new_listed none in
          reserve_untagged old old_listed (omega (arith, same, few))

  -- and the same sign, which is of the sizes alone
  same_sign : (plain : List ℕ) → bears_sign new_keys.profile plain ≡ bears_sign old_keys.profile plain
  same_sign plain =
      (λ t. bytes_eq (slice_range plain 16 18) (to_be_bytes w16 (if sizes t == 65536 then 1 else sizes t))
      && bytes_eq (slice_range plain 20 24) (reserves t ∷ 64 ∷ 32 ∷ 32 ∷ []))

  fit : fits new_keys (page_stored new_keys new 1) ≡ true
  fit = by_plain (is_plain new_keys.profile) refl
    where
      is_zero : (a : ℕ) → (a == 0) ≡ true → a ≡ 0
      is_zero a is = search rules

      zero_is : (a : ℕ) → a ≡ 0 → (a == 0) ≡ true
      zero_is a is = search (rules, is)

      least : (p : Profile) → IsListed p → 16 ≤ p.page_size
      least p listed = let least = (IsListed-laid_out p listed).least in omega (arith, least)

      some_pages : 1 ≤ count
      some_pages = count_some old_keys old count (omega (arith, least old_keys.profile old_listed)) rekeyed.was

      first : is_page_number count 1 ≡ true
      first = number_is count 1 (omega arith) some_pages

      large : 16 ≤ new_keys.profile.page_size
      large = let least = (IsListed-laid_out new_keys.profile new_listed).least in omega (arith, least)

      -- where it holds no salt the magic stands for that, with which the file begins
      begins : is_clear new_keys.profile ≡ true → begins_with_magic (page_stored new_keys new 1) ≡ true
      begins clear =
          (bytes_eq-Decides (take 16 (page_stored new_keys new 1)) magic).1 (sym (starts new_keys.profile.page_size new large) ∙ rekeyed.salt ∙ plainly clear)

      by_tag : (b : Bool) → (new_keys.profile.tag_len == 0) ≡ b → is_plain new_keys.profile ≡ false → is_plain old_keys.profile ≡ false → fits new_keys (page_stored new_keys new 1) ≡ true
      by_tag true none ciphered was_ciphered =
          let old_none = zero_is old_keys.profile.tag_len (same_tags (is_zero new_keys.profile.tag_len none)) in
          ciphered_fits new_keys (page_stored new_keys new 1) ciphered
          ∙ ap (λ (b : Bool). if b then bears_sign new_keys.profile (opened new_keys 1 (page_stored new_keys new 1)) else keyed new_keys (page_stored new_keys new 1)) none
          ∙ same_sign (opened new_keys 1 (page_stored new_keys new 1))
          ∙ ap (bears_sign old_keys.profile) rekeyed.first
          ∙ sym (ap (λ (b : Bool). if b then bears_sign old_keys.profile (opened old_keys 1 (page_stored old_keys old 1)) else keyed old_keys (page_stored old_keys old 1)) old_none)
          ∙ sym (ciphered_fits old_keys (page_stored old_keys old 1) was_ciphered)
          ∙ clean.opens.fit
      by_tag false some ciphered was_ciphered =
          ciphered_fits new_keys (page_stored new_keys new 1) ciphered
          ∙ ap (λ (b : Bool). if b then bears_sign new_keys.profile (opened new_keys 1 (page_stored new_keys new 1)) else keyed new_keys (page_stored new_keys new 1)) some
          ∙ keyed_of new_keys (page_stored new_keys new 1) begins (rekeyed.accepted 1 first)

      -- both files are plain, or none is
      by_plain : (b : Bool) → is_plain new_keys.profile ≡ b → fits new_keys (page_stored new_keys new 1) ≡ true
      by_plain true plain = plain_fits new_keys (page_stored new_keys new 1) plain ∙ begins (ap (λ (b : Bool). b || nat_lt 0 new_keys.profile.plain_header) plain)
      by_plain false ciphered = by_tag (new_keys.profile.tag_len == 0) refl ciphered (was (is_plain old_keys.profile) refl)
        where
          alike : is_plain old_keys.profile ≡ true → is_plain new_keys.profile ≡ true
          alike = plain_alike new_keys.profile old_keys.profile (IsListed-laid_out new_keys.profile new_listed) (IsListed-laid_out old_keys.profile old_listed) (sym sizes, sym reserves)

          was : (b : Bool) → is_plain old_keys.profile ≡ b → is_plain old_keys.profile ≡ false
          was false is = is
          was true is = absurd (differ (sym (alike is) ∙ ciphered))
            where
              differ : true ≡ false → ⊥
              differ is = cc

  opens_renewed : Opens new_keys new clean.held
  opens_renewed = opens_same count old_keys new_keys old new clean.held same_pages fit clean.opens

pub rekeyed_opens : (old_keys new_keys : FileKeys) (count : ℕ) (old new : List ℕ) → IsListed old_keys.profile → IsListed new_keys.profile
    → new_keys.profile.page_size ≡ old_keys.profile.page_size → new_keys.profile.reserve ≡ old_keys.profile.reserve
    → (is_clear new_keys.profile ≡ true → new_keys.salt ≡ magic)
    → fits old_keys (page_stored old_keys old 1) ≡ true → IsRekeyed old_keys new_keys count old new → (clean : IsClean old_keys old) × Opens new_keys new clean.held
rekeyed_opens old_keys new_keys count old new old_listed new_listed sizes reserves plainly fit rekeyed =
    let clean = clean_file old_keys old count fit rekeyed.was rekeyed.clean in
    (clean, opens_renewed old_keys new_keys count old new old_listed new_listed sizes reserves plainly rekeyed clean)

-- the magic stands for the salt of a file that holds none
pub magic_stands : (profile : Profile) (secret : Secret) (file : List ℕ) → is_clear profile ≡ true → (keys_of profile secret file).salt ≡ magic
magic_stands profile secret file clear = ap (λ (b : Bool). if b then magic else salt_of file) clear

-- all that is said of the new file
pub rekeyed_so : (old_keys : FileKeys) (profile : Profile) (secret : Secret) (count : ℕ) (salt old new : List ℕ) → IsListed old_keys.profile → IsListed profile
    → profile.page_size ≡ old_keys.profile.page_size → profile.reserve ≡ old_keys.profile.reserve → fits old_keys (page_stored old_keys old 1) ≡ true
    → IsRekeyed old_keys (keys_of profile secret new) count old new → salt_of new ≡ salt → IsRekeyedSo old_keys (keys_of profile secret new) salt old new
rekeyed_so old_keys profile secret count salt old new old_listed new_listed sizes reserves fit rekeyed begins =
    let both = rekeyed_opens old_keys (keys_of profile secret new) count old new old_listed new_listed sizes reserves (magic_stands profile secret new) fit rekeyed in
    record { clean = both.0; opens = both.1; count = count; rekeyed = rekeyed; begins = begins }
