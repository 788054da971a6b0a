-- A database as a transaction names it, by its stored pages, and as the tool does, by its keys too.
use Rattle.std.proofs.Common.{◌≡◌, ◌==◌, ◌≤◌, ◌+◌, ◌-◌, ◌*◌, ◌/◌, ◌%◌, ◌&&◌, not, ℕ, suc, zero, Bool, true, false, List, [], ◌∷◌, length, map, take, drop, Option, Some, Ok, refl, sym, ap, subst, ◌∙◌, arith, rules}
use Rattle.std.specs.Prelude.{if◌then◌else◌, nat_lt, replicate, IsTrue}
use Rattle.std.specs.List.{range_with_len, slice_index_or}
use Rattle.std.proofs.lemmas.List.{drop-drop, length-replicate}
use Rattle.std.proofs.Math.Nat.{mul-div_cancel, mul-mod_left}
use Rattle.db_format.specs.Count.{count_of_pages, largest_database, page_count, size_counts}
use Rattle.db_format.specs.Rules.{unless_broken}
use Rattle.db_format.specs.declared.count.CountRefusal.{CountRefusal}
use Rattle.db_format.specs.declared.count.CountRefusal.TheVariants.{Ragged, TooLarge, Short}
use Rattle.db_format.specs.declared.header.Header.{Header}
use Rattle.fresh_disk.specs.Published.{IsAlone}
use Rattle.edge_model.specs.Files.{File, Files, bytes_of}
use Rattle.page_codec.specs.Page.{FileKeys, stored_page}
use Rattle.pager.specs.Database.{stored_pages as with_pages, count_by, count_of, database, stored_by}
use Rattle.pager.specs.Base.{base_of, is_some_of}
use Rattle.pager.specs.File.{page_stored}
use Rattle.pager.specs.UnderWay.{Start}
use Rattle.rollback_journal.specs.Recovery.{Recovers, RecoversTo}
use Rattle.atomic_commit.specs.Database.{Base, stored_pages, IsDatabase, HoldsOld, HoldsPages}
use Rattle.atomic_commit.specs.Facts.{IsBase}
use Rattle.pager.proofs.Bases.{some_is}
use Rattle.sqlcipher_tool.specs.Holding.{HoldsOnly, held_by}
use Rattle.sqlcipher_tool.proofs.Numbers.{no_less, no_more}

-- ---- pages

pages_from : (size n k : ℕ) (file : List ℕ)
    → stored_pages size n (drop (k * size) file) ≡ map (λ m. stored_page size m file) (range_with_len (k + 1) n)
pages_from size zero k file = refl
pages_from size (suc n) k file =
    let here : k ≡ k + 1 - 1 = omega arith in
    let next : drop size (drop (k * size) file) ≡ drop ((k + 1) * size) file =
    drop-drop size (k * size) file ∙ ap (λ (at : ℕ). drop at file) (omega arith) in
    ap (λ (i : ℕ). take size (drop (i * size) file) ∷ stored_pages size n (drop size (drop (k * size) file))) here
    ∙ (ap (λ (l : List ℕ). stored_page size (k + 1) file ∷ stored_pages size n l) next
    ∙ ap (λ (l : List (List ℕ)). stored_page size (k + 1) file ∷ l) (pages_from size n (k + 1) file))

pub pages_listed : (keys : FileKeys) (n : ℕ) (file : List ℕ)
    → stored_pages keys.profile.page_size n file ≡ map (page_stored keys file) (range_with_len 1 n)
pages_listed keys n file =
    ap (λ (at : ℕ). stored_pages keys.profile.page_size n (drop at file)) {x = 0} {y = 0 * keys.profile.page_size} (omega arith)
    ∙ pages_from keys.profile.page_size n 0 file

first_of_pages : (keys : FileKeys) (n : ℕ) (file : List ℕ) → 1 ≤ n
    → slice_index_or (map (page_stored keys file) (range_with_len 1 n)) 0 [] ≡ page_stored keys file 1
first_of_pages keys zero file some = absurd (omega (arith, some))
first_of_pages keys (suc n) file some = refl

-- files with the same stored pages, as many by the one's page 1 and the other's length, are one database
pub same_database : (keys : FileKeys) (file other : List ℕ) (n : ℕ) → 1 ≤ n → count_of keys file ≡ Some n
    → count_by keys (page_stored keys file 1) (length other) ≡ Some n
    → stored_pages keys.profile.page_size n other ≡ stored_pages keys.profile.page_size n file
    → database keys other ≡ database keys file
same_database keys file other n some is_counted still same =
    ap (stored_by keys other) other_count ∙ (ap with_pages lists ∙ sym (ap (stored_by keys file) is_counted))
  where
    lists : map (page_stored keys other) (range_with_len 1 n) ≡ map (page_stored keys file) (range_with_len 1 n)
    lists = sym (pages_listed keys n other) ∙ (same ∙ pages_listed keys n file)

    first : page_stored keys other 1 ≡ page_stored keys file 1
    first = sym (first_of_pages keys n other some)
        ∙ (ap (λ (l : List (List ℕ)). slice_index_or l 0 []) lists ∙ first_of_pages keys n file some)

    other_count : count_of keys other ≡ Some n
    other_count = ap (λ (page : List ℕ). count_by keys page (length other)) first ∙ still

-- ---- the count of pages

passed : (a b c : Bool) (x y z : CountRefusal) (v n : ℕ) → unless_broken ((a, x) ∷ (b, y) ∷ (c, z) ∷ []) v ≡ Ok n
    → (a ≡ false) × (b ≡ false) × (c ≡ false) × (v ≡ n)
passed true b c x y z v n is = cc
passed false true c x y z v n is = cc
passed false false true x y z v n is = cc
passed false false false x y z v n is = (refl, refl, refl, cc)

unbroken : (a b c : Bool) (x y z : CountRefusal) (v : ℕ) → a ≡ false → b ≡ false → c ≡ false
    → unless_broken ((a, x) ∷ (b, y) ∷ (c, z) ∷ []) v ≡ Ok v
unbroken a b c x y z v no_a no_b no_c = rw (no_a, no_b, no_c) refl

is_zero : (a : ℕ) → a ≡ 0 → (a == 0) ≡ true
is_zero a is = rw is refl

-- what a count of pages says
pub record IsCounted (h : Header) (len n : ℕ) : Type 0 where
  pub small : n * h.page_size ≤ largest_database
  pub within : n * h.page_size ≤ len
  pub counts : page_count h len ≡ n

pub counted_pages : (h : Header) (len n : ℕ) → count_of_pages h len ≡ Ok n → IsCounted h len n
counted_pages h len n is =
    let pages = page_count h len in
    let past = passed (not (size_counts h) && not (len % h.page_size == 0)) (nat_lt largest_database (pages * h.page_size)) (nat_lt len (pages * h.page_size))
    (Ragged len) (TooLarge pages) (Short len) pages n is in record {
      small = subst (λ (k : ℕ). k * h.page_size ≤ largest_database) past.3 (no_less largest_database (pages * h.page_size) past.1);
      within = subst (λ (k : ℕ). k * h.page_size ≤ len) past.3 (no_less len (pages * h.page_size) past.2);
      counts = past.3;
    }

-- a file of just its pages has as many
pub whole_count : (h : Header) (len n : ℕ) → 1 ≤ h.page_size → count_of_pages h len ≡ Ok n → count_of_pages h (n * h.page_size) ≡ Ok n
whole_count h len n size is =
    unbroken _ _ _ (Ragged whole) (TooLarge (page_count h whole)) (Short whole) (page_count h whole) not_ragged not_large not_short ∙ ap (λ (k : ℕ). Ok k) same
  where
    whole : ℕ
    whole = n * h.page_size

    is_counted : IsCounted h len n
    is_counted = counted_pages h len n is

    same : page_count h whole ≡ n
    same = (elim (size_counts h) as (λ b. (if b then h.size_field else len / h.page_size) ≡ n → (if b then h.size_field else n * h.page_size / h.page_size) ≡ n) [
      | true ↦ λ counts. counts
      | false ↦ λ counts. mul-div_cancel n {n = h.page_size} size
    ]) is_counted.counts

    not_ragged : (not (size_counts h) && not (whole % h.page_size == 0)) ≡ false
    not_ragged = (elim (size_counts h) as (λ b. (not b && not (whole % h.page_size == 0)) ≡ false) [
      | true ↦ refl
      | false ↦ ap not (is_zero (whole % h.page_size) (mul-mod_left n h.page_size))
    ])

    not_large : nat_lt largest_database (page_count h whole * h.page_size) ≡ false
    not_large = no_more largest_database (page_count h whole * h.page_size) (subst (λ (k : ℕ). k * h.page_size ≤ largest_database) (sym same) is_counted.small)

    not_short : nat_lt whole (page_count h whole * h.page_size) ≡ false
    not_short = no_more whole (page_count h whole * h.page_size) (subst (λ (k : ℕ). k * h.page_size ≤ whole) (sym same) (omega arith))

-- ---- what a transaction starts from

pub is_some_is : (n : ℕ) (o : Option ℕ) → o ≡ Some n → is_some_of n o ≡ true
is_some_is n o is = rw is (itself n)
  where
    itself : (a : ℕ) → (a == a) ≡ true
    itself a = search rules

-- of a file that may not be told
abbrev pub any_base : Bool → FileKeys → List ℕ → ℕ → Base
any_base tells keys file n = record {
  size = keys.profile.page_size;
  pages = n;
  start = if tells then file else replicate (n * keys.profile.page_size) 0;
  counts = λ len. if tells then is_some_of n (count_by keys (page_stored keys file 1) len) else true;
}

-- after so much was drawn
abbrev pub start_of : FileKeys → List ℕ → ℕ → List ℕ → Start
start_of keys file n drawn = record { base = base_of keys file n; drawn = drawn }

pub told_base : (tells : Bool) (keys : FileKeys) (file : List ℕ) (n : ℕ) → IsTrue tells → any_base tells keys file n ≡ base_of keys file n
told_base tells keys file n told = ap (λ (b : Bool). any_base b keys file n) told

pub is_base : (tells : Bool) (keys : FileKeys) (file : List ℕ) (n : ℕ) → 1 ≤ keys.profile.page_size → 1 ≤ n
    → (IsTrue tells → (n * keys.profile.page_size ≤ length file) × (count_by keys (page_stored keys file 1) (n * keys.profile.page_size) ≡ Some n))
    → IsBase (any_base tells keys file n)
is_base true keys file n size some told = record {
  size = size;
  pages = some;
  within = (told refl).0;
  whole = is_some_is n (count_by keys (page_stored keys file 1) (n * keys.profile.page_size)) (told refl).1;
}
is_base false keys file n size some told = record {
  size = size;
  pages = some;
  within = omega (arith, length-replicate {A = ℕ} (n * keys.profile.page_size) 0);
  whole = refl;
}

-- an image with Main alone recovers to it, and to no other file
pub alone_recovers : (size : ℕ) (file : List ℕ) (image : Files) → IsAlone file image → Recovers size image file
alone_recovers size file image alone = subst (λ (m : Option (List ℕ)). RecoversTo size m (bytes_of image.journal) file) (sym alone.main)
    (subst (λ (j : Option File). RecoversTo size (Some file) (bytes_of j) file) (sym alone.journal) refl)

pub alone_only : (size : ℕ) (file other : List ℕ) (image : Files) → IsAlone file image → Recovers size image other → other ≡ file
alone_only size file other image alone to = subst (λ (j : Option File). RecoversTo size (Some file) (bytes_of j) other) alone.journal
    (subst (λ (m : Option (List ℕ)). RecoversTo size m (bytes_of image.journal) other) alone.main to)

-- so it holds the database of that file
pub alone_holds : (keys : FileKeys) (file : List ℕ) (image : Files) → IsAlone file image → HoldsOnly (held_by keys file) image
alone_holds keys file image alone = record {
  some = (file, alone_recovers keys.profile.page_size file image alone);
  only = λ other to. ap (database keys) (alone_only keys.profile.page_size file other image alone to);
}

-- and its pages
pub alone_old : (keys : FileKeys) (file : List ℕ) (n : ℕ) (image : Files) → count_of keys file ≡ Some n → IsAlone file image → HoldsOld (base_of keys file n) image
alone_old keys file n image is alone = record {
  some = (file, alone_recovers keys.profile.page_size file image alone);
  only = λ other to. subst (λ (f : List ℕ). IsDatabase (base_of keys file n) (stored_pages keys.profile.page_size n file) f) (sym (alone_only keys.profile.page_size file other image alone to))
      (record { pages_are = refl; counted = is_some_is n (count_of keys file) is });
}

-- an image that holds the old pages holds the old database
pub holds_old : (keys : FileKeys) (file : List ℕ) (n : ℕ) (image : Files) → 1 ≤ n → count_of keys file ≡ Some n → HoldsOld (base_of keys file n) image
    → HoldsOnly (held_by keys file) image
holds_old keys file n image some is holds = record {
  some = holds.some;
  only = λ other to.
      let db = holds.only other to in same_database keys file other n some is (some_is n (count_by keys (page_stored keys file 1) (length other)) db.counted) db.pages_are;
}

-- an image that holds the new pages holds the new database, where the new page 1 counts them in each file that has them
pub holds_new : (keys : FileKeys) (file new : List ℕ) (n : ℕ) (image : Files) → 1 ≤ n
    → ((len : ℕ) → n * keys.profile.page_size ≤ len → count_by keys (page_stored keys new 1) len ≡ Some n)
    → n * keys.profile.page_size ≤ length new
    → HoldsPages (base_of keys file n) (stored_pages keys.profile.page_size n new) image
    → HoldsOnly (held_by keys new) image
holds_new keys file new n image some counts long holds = record {
  some = holds.some;
  only = λ other to.
      let db = holds.only other to in
      same_database keys new other n some (counts (length new) long)
      (counts (length other) (Rattle.atomic_commit.proofs.Pages.pages_long keys.profile.page_size n other new long db.pages_are)) db.pages_are;
}
