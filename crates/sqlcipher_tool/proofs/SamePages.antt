-- Two files with the same plain pages, of which the same are accepted, are one database.
use Rattle.std.proofs.Common.{◌≡◌, ℕ, ◌-◌, ◌≤◌, ◌==◌, Bool, true, false, List, [], ◌∷◌, if◌then◌else◌, refl, ap, sym, subst, ◌∙◌, arith}
use Rattle.std.specs.Prelude.{nat_le, replicate}
use Rattle.std.specs.List.{list_all, list_any}
use Rattle.std.proofs.Math.ListN.{get_or}
use Rattle.std.proofs.Math.Path.{fun_ext}
use Rattle.std.proofs.lemmas.List.FromFn.{get_or-map-range_with_len}
use Rattle.db_format.specs.Pages.{Pages, nothing}
use Rattle.btree_model.specs.Content.{Content, content}
use Rattle.btree_model.specs.Finding.{Finding, is_sound, leaves}
use Rattle.btree_model.specs.Freelist.{freelist_walk}
use Rattle.btree_model.specs.Parts.{is_database, parts}
use Rattle.btree_model.specs.Plain.{is_leaf, with_zeros}
use Rattle.btree_model.proofs.PlainLemmas.{leaf_is}
use Rattle.btree_model.proofs.UnmarkedLemmas.{and_left, and_right}
use Rattle.btree_model.proofs.UnreadLemmas.{AreAlikeBut}
use Rattle.btree_model.proofs.WholeLemmas.{parts_same}
use Rattle.page_codec.specs.Page.{FileKeys, fits, opened}
use Rattle.pager.specs.File.{page_stored}
use Rattle.pager.specs.Pages.{is_page_number, opened_pages}
use Rattle.schema_map.proofs.SoundParts.{free}
use Rattle.export_rows.proofs.Zeros.{content_alike, no_free_leaf, zeros_content}
use Rattle.sqlcipher_tool.specs.Plain.{HaveSamePages, IsSameInUse, Opens}
use Rattle.sqlcipher_tool.proofs.Verified.{some_is}
use Rattle.sqlcipher_tool.proofs.Numbers.{true_le}

-- the parts are the same over pages that differ at leaves alone
pub in_use_same : (old new : Pages) → is_sound (freelist_walk old nothing) ≡ true → IsSameInUse old new → parts new ≡ parts old
in_use_same old new sound same = parts_same old new sound (record {
  count = same.count;
  usable = same.usable;
  alike = λ n kept. record {
    bytes = same.page n (leaf_is old n sound ∙ kept);
    accepted = same.accepted n (leaf_is old n sound ∙ kept);
  };
})

first_part : List (List Finding) → List Finding
first_part [] = []
first_part (part ∷ rest) = part

-- the freelist is the first part
pub free_same : (old new : Pages) → parts new ≡ parts old → freelist_walk new nothing ≡ freelist_walk old nothing
unfolding first_part
free_same old new all = ap first_part all

if_both : (b : Bool) (bytes : List ℕ) → (if b then (if b then bytes else []) else []) ≡ (if b then bytes else [])
if_both true bytes = refl
if_both false bytes = refl

-- these pages, with other bytes
with_page : Pages → (ℕ → List ℕ) → Pages
with_page pages page = record { count = pages.count; usable = pages.usable; page = page; accepts = pages.accepts }

module _ (keys : FileKeys) (file : List ℕ) (count : ℕ) where
  abbrev pages : Pages
  pages = opened_pages keys file count

  -- the plain pages, and none out of range
  plain : ℕ → List ℕ
  plain n = if is_page_number count n then (with_zeros pages).page n else []

  plain_of : (n : ℕ) → is_leaf pages n ≡ false → plain n ≡ pages.page n
  unfolding plain
  plain_of n none =
      ap (λ b. if is_page_number count n then (if b then replicate pages.usable 0 else pages.page n) else []) none
      ∙ if_both (is_page_number count n) (opened keys n (page_stored keys file n))

  -- no page is a leaf of a freelist with a defect
  no_leaves : (n : ℕ) → is_sound (freelist_walk pages nothing) ≡ false → is_leaf pages n ≡ false
  no_leaves n broken = ap (λ b. list_any (λ m. m == n) (if b then leaves (freelist_walk pages nothing) else [])) broken

  plain_by : (sound : Bool) → is_sound (freelist_walk pages nothing) ≡ sound → parts (with_page pages plain) ≡ parts pages
  unfolding with_page
  plain_by true is = in_use_same pages (with_page pages plain) is (record {
    count = refl;
    usable = refl;
    page = plain_of;
    accepted = λ n none. refl;
  })
  plain_by false is = ap (λ page. parts (with_page pages page)) (fun_ext (λ n. plain_of n (no_leaves n is)))

  plain_parts : parts (with_page pages plain) ≡ parts pages
  plain_parts = plain_by (is_sound (freelist_walk pages nothing)) refl

module _ (count : ℕ) (old_keys new_keys : FileKeys) (old new : List ℕ) (same : HaveSamePages count old_keys old new_keys new) where
  abbrev before : Pages
  before = opened_pages old_keys old count

  abbrev after : Pages
  after = opened_pages new_keys new count

  plain_at : (n : ℕ) → 1 ≤ n → n ≤ count → (with_zeros after).page n ≡ (with_zeros before).page n
  plain_at n low high =
      sym (get_or-map-range_with_len (with_zeros after).page 1 count (n - 1) n [] (omega arith) (omega arith))
      ∙ ap (λ l. get_or l (n - 1) []) same.plain
      ∙ get_or-map-range_with_len (with_zeros before).page 1 count (n - 1) n [] (omega arith) (omega arith)

  -- out of range no page has a byte in either file
  by_number : (n : ℕ) (b : Bool) → is_page_number count n ≡ b → is_leaf before n ≡ false → plain new_keys new count n ≡ before.page n
  unfolding plain
  by_number n true is none =
      let low : 1 ≤ n = true_le 1 n (and_left (nat_le 1 n) (nat_le n count) is) in
      let high : n ≤ count = true_le n count (and_right (nat_le 1 n) (nat_le n count) is) in
      ap (λ b. if b then (with_zeros after).page n else []) is
      ∙ plain_at n low high
      ∙ ap (λ b. if b then replicate before.usable 0 else before.page n) none
  by_number n false is none =
      ap (λ b. if b then (with_zeros after).page n else []) is
      ∙ sym (ap (λ b. if b then opened old_keys n (page_stored old_keys old n) else []) is)

  pub same_parts : is_sound (freelist_walk before nothing) ≡ true → parts after ≡ parts before
  unfolding with_page
  same_parts sound =
      sym (plain_parts new_keys new count)
      ∙ clipped sound
    where
      clipped : is_sound (freelist_walk before nothing) ≡ true → parts (with_page after (plain new_keys new count)) ≡ parts before
      clipped sound = in_use_same before (with_page after (plain new_keys new count)) sound (record {
        count = refl;
        usable = same.usable;
        page = λ n none. by_number n (is_page_number count n) refl none;
        accepted = same.accepted;
      })

  same_leaf : parts after ≡ parts before → (n : ℕ) → is_leaf after n ≡ is_leaf before n
  same_leaf all n = ap (λ found. list_any (λ m. m == n) (if is_sound found then leaves found else [])) (free_same before after all)

  -- the pages in use are the same
  pub in_use_alike : is_sound (freelist_walk before nothing) ≡ true → (n : ℕ) → is_leaf before n ≡ false → after.page n ≡ before.page n
  in_use_alike sound n none =
      sym (plain_of new_keys new count n (same_leaf (same_parts sound) n ∙ none)) ∙ by_number n (is_page_number count n) refl none

-- what `Opens` says of a file with so many pages
pub opens_same : (count : ℕ) (old_keys new_keys : FileKeys) (old new : List ℕ) (held : Content) → HaveSamePages count old_keys old new_keys new
    → fits new_keys (page_stored new_keys new 1) ≡ true → Opens old_keys old held → Opens new_keys new held
opens_same count old_keys new_keys old new held same fit opens =
    let before = opened_pages old_keys old count in
    let is : opens.count ≡ count = some_is opens.count count (sym opens.is_count ∙ same.old_count) in
    let whole : is_database before ≡ true = subst (λ (n : ℕ). is_database (opened_pages old_keys old n) ≡ true) is opens.sound in
    let kept : content (with_zeros before) ≡ held = subst (λ (n : ℕ). content (with_zeros (opened_pages old_keys old n)) ≡ held) is opens.is in
    let after = opened_pages new_keys new count in
    let sound : is_sound (freelist_walk before nothing) ≡ true = and_left (is_sound (freelist_walk before nothing)) _ whole in
    let all : parts after ≡ parts before = same_parts count old_keys new_keys old new same sound in
    let same_sound : is_database after ≡ true = ap (list_all is_sound) all ∙ whole in
    let alike : AreAlikeBut (free before) before after = record {
      count = refl;
      usable = same.usable;
      alike = λ n no_place. record {
        bytes = in_use_alike count old_keys new_keys old new same sound n (no_free_leaf before whole n no_place);
        accepted = same.accepted n (no_free_leaf before whole n no_place);
      };
    } in
    record {
      fit = fit;
      count = count;
      is_count = same.new_count;
      sound = same_sound;
      is = zeros_content after same_sound ∙ content_alike before after whole alike ∙ sym (zeros_content before whole) ∙ kept;
    }
