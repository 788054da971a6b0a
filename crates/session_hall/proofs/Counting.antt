-- What is known of a file that opens to a count of pages.
use Rattle.std.proofs.Common.{◌≡◌, ◌==◌, ◌*◌, ◌/◌, ◌%◌, ◌&&◌, ◌≤◌, ◌<◌, if◌then◌else◌, ℕ, Bool, true, false, not, List, [], ◌∷◌, length, take, Option, Some, None, Result, Ok, Err, refl, sym, ap, subst, ◌∙◌, arith, rules}
use Rattle.std.proofs.Math.Nat.{mul-div_cancel, mul-le-mul_right, mul-mod_left}
use Rattle.std.specs.Prelude.{nat_lt, ◌||◌}
use Rattle.std.proofs.lemmas.Bool.Decides.{nat_tests}
use Rattle.std.proofs.lemmas.Slice.Eq.{bytes_eq-Decides}
use Rattle.cipher_profile.specs.Profile.{IsLaidOut, is_clear, is_plain}
use Rattle.db_format.specs.Bytes.{u16_at}
use Rattle.db_format.specs.Count.{count_of_pages, largest_database, page_count as pages_by, size_counts}
use Rattle.db_format.specs.Header.{header_fields, header_read_as, header_rules_as, page_size_of}
use Rattle.db_format.specs.Rules.{Rule, unless_broken}
use Rattle.db_format.specs.declared.count.CountRefusal.{CountRefusal}
use Rattle.db_format.specs.declared.count.CountRefusal.TheVariants.{Ragged, TooLarge, Short as LengthShort}
use Rattle.db_format.specs.declared.header.Header.{Header}
use Rattle.db_format.specs.declared.header.HeaderRefusal.{HeaderRefusal}
use Rattle.db_format.specs.declared.header.HeaderRefusal.TheVariants.{HeaderFault}
use Rattle.page_codec.specs.Page.{FileKeys, accepts, begins_with_magic, fits, magic, opened}
use Rattle.pager.specs.File.{first_page, page_stored}
use Rattle.pager.specs.Opening.{Opened, file_header, file_opened, first_broken, key_rules, length_rules, unless, with_count, with_header}
use Rattle.pager.specs.Database.{count_by, count_of, counted, ok_count}
use Rattle.pager.specs.declared.opening.OpenError.{OpenError}
use Rattle.pager.specs.declared.opening.OpenError.TheVariants.{Empty, KeyRefused, Short}
use Rattle.pager.proofs.OpeningLemmas.{opened_whole}
use Rattle.session_hall.specs.Machine.{counted_pages}
use Rattle.pager.proofs.Cutting.{one_page}

not_not : (a : Bool) → not a ≡ false → a ≡ true
not_not true h = refl
not_not false h = cc

past : (o : Option OpenError) (r : Result Opened OpenError) (x : Opened) → unless o r ≡ Ok x → r ≡ Ok x
past None r x is = is
past (Some error) r x is = cc

with_its_count : (header : Header) (c : Result ℕ CountRefusal) (x : Opened) → with_count header c ≡ Ok x → header ≡ x.header
with_its_count header (Ok n) x is = cc
with_its_count header (Err refusal) x is = cc

with_both : (len : ℕ) (r : Result Header HeaderRefusal) (x : Opened) → with_header len r ≡ Ok x → r ≡ Ok x.header
with_both len (Ok header) x is = ap (λ (h : Header). Ok h) (with_its_count header (count_of_pages header len) x is)
with_both len (Err refusal) x is = cc

-- its header is read
header_of : (keys : FileKeys) (file : List ℕ) (x : Opened) → file_opened keys file ≡ Ok x → file_header keys file ≡ Ok x.header
header_of keys file x is =
    with_both (length file) (file_header keys file) x
    (past (first_broken (key_rules keys file)) _ x (past (first_broken (length_rules keys.profile.page_size file)) _ x is))

none_broken : {V E : Type 0} (rules : List (Rule E)) (v x : V) → unless_broken rules v ≡ Ok x → v ≡ x
none_broken [] v x is = cc
none_broken ((true, refusal) ∷ later) v x is = cc
none_broken ((false, refusal) ∷ later) v x is = none_broken later v x is

-- the page size in it is that of the keys
header_size : (passes : Bool) (plain : List ℕ) (size reserve : ℕ) (h : Header) → header_read_as passes plain size reserve ≡ Ok h → h.page_size ≡ size
header_size passes plain size reserve h is =
    let fields = none_broken (header_rules_as passes plain size reserve) (header_fields plain) h is in
    let first = first_passed (not (page_size_of (u16_at plain 16) == size)) (HeaderFault 16 (u16_at plain 16)) (later_of (header_rules_as passes plain size reserve)) (header_fields plain) h is in
    ap (λ (h : Header). h.page_size) (sym fields) ∙ same (page_size_of (u16_at plain 16)) size (not_not (page_size_of (u16_at plain 16) == size) first)
  where
    later_of : List (Rule HeaderRefusal) → List (Rule HeaderRefusal)
    later_of [] = []
    later_of (rule ∷ later) = later

    first_passed : {V E : Type 0} (b : Bool) (e : E) (later : List (Rule E)) (v x : V) → unless_broken ((b, e) ∷ later) v ≡ Ok x → b ≡ false
    first_passed true e later v x is = cc
    first_passed false e later v x is = refl

    same : (a b : ℕ) → (a == b) ≡ true → a ≡ b
    same a b is = search rules

-- what a file opened to that has so many pages
pub counted_open : (r : Result Opened OpenError) (n : ℕ) → counted_pages r ≡ Some n → (header : Header) × (r ≡ Ok (record { header = header; count = n }))
counted_open (Ok opened) n is = (opened.header, ap (λ (k : ℕ). Ok (record { header = opened.header; count = k })) (some_is opened.count n is))
  where
    some_is : (a b : ℕ) → Some a ≡ Some b → a ≡ b
    some_is a b is = cc
counted_open (Err error) n is = cc

-- the file has all of its pages
pub count_whole : (keys : FileKeys) (file : List ℕ) (n : ℕ) → counted_pages (file_opened keys file) ≡ Some n → n * keys.profile.page_size ≤ length file
count_whole keys file n is =
    let was = counted_open (file_opened keys file) n is in
    opened_whole keys file was.0 n was.1
    (header_size keys.profile.reads_log (opened keys 1 (first_page keys.profile file)) keys.profile.page_size keys.profile.reserve was.0
    (header_of keys file (record { header = was.0; count = n }) was.1))

-- and each of them
pub page_there : (keys : FileKeys) (file : List ℕ) (n m : ℕ) → counted_pages (file_opened keys file) ≡ Some n → m ≤ n → m * keys.profile.page_size ≤ length file
page_there keys file n m is le =
    let each : m * keys.profile.page_size ≤ n * keys.profile.page_size = mul-le-mul_right keys.profile.page_size le in
    omega (arith, each, count_whole keys file n is)

-- ---- its count, by page 1 and its length

both_past : (o : Option OpenError) (r : Result Opened OpenError) (x : Opened) → unless o r ≡ Ok x → (o ≡ None) × (r ≡ Ok x)
both_past None r x is = (refl, is)
both_past (Some error) r x is = cc

second_of : (a b : Bool) (x y : OpenError) → first_broken ((a, x) ∷ (b, y) ∷ []) ≡ None → b ≡ false
second_of true b x y is = cc
second_of false true x y is = cc
second_of false false x y is = refl

counts_of : (header : Header) (c : Result ℕ CountRefusal) (x : Opened) → with_count header c ≡ Ok x → c ≡ Ok x.count
counts_of header (Ok n) x is = cc
counts_of header (Err refusal) x is = cc

with_counts : (len : ℕ) (r : Result Header HeaderRefusal) (x : Opened) → with_header len r ≡ Ok x → count_of_pages x.header len ≡ Ok x.count
with_counts len (Ok header) x is =
    ap (λ (h : Header). count_of_pages h len) (sym (with_its_count header (count_of_pages header len) x is)) ∙ counts_of header (count_of_pages header len) x is
with_counts len (Err refusal) x is = cc

pub open_count : (keys : FileKeys) (file : List ℕ) (n : ℕ) → counted_pages (file_opened keys file) ≡ Some n → count_of keys file ≡ Some n
open_count keys file n is =
    let was = counted_open (file_opened keys file) n is in
    let x : Opened = record { header = was.0; count = n } in
    let size = keys.profile.page_size in
    let lengths = both_past (first_broken (length_rules size file)) _ x was.1 in
    let key = both_past (first_broken (key_rules keys file)) _ x lengths.1 in
    let long : nat_lt (length file) size ≡ false = second_of (length file == 0) (nat_lt (length file) size) Empty (Short (length file)) lengths.0 in
    rw long (ap (λ (r : Result Header HeaderRefusal). counted (length file) r) (header_of keys file x was.1) ∙ ap ok_count (with_counts (length file) (file_header keys file) x key.1))

-- its key fits
pub open_fits : (keys : FileKeys) (file : List ℕ) (n : ℕ) → counted_pages (file_opened keys file) ≡ Some n → fits keys (first_page keys.profile file) ≡ true
open_fits keys file n is =
    let was = counted_open (file_opened keys file) n is in
    let x : Opened = record { header = was.0; count = n } in
    let lengths = both_past (first_broken (length_rules keys.profile.page_size file)) _ x was.1 in
    let key = both_past (first_broken (key_rules keys file)) _ x lengths.1 in
    not_not (fits keys (first_page keys.profile file)) (only_of (not (fits keys (first_page keys.profile file))) KeyRefused key.0)
  where
    only_of : (a : Bool) (e : OpenError) → first_broken ((a, e) ∷ []) ≡ None → a ≡ false
    only_of true e is = cc
    only_of false e is = refl

-- a file that holds no salt begins with the magic, where its key fits
pub clear_magic : (keys : FileKeys) (first : List ℕ) → IsLaidOut keys.profile → is_clear keys.profile ≡ true → fits keys first ≡ true → take 16 first ≡ magic
clear_magic keys first laid_out clear fit = (bytes_eq-Decides (take 16 first) magic).0 (by_plain (is_plain keys.profile) refl)
  where
    is_some : (a : ℕ) → 0 < a → (a == 0) ≡ false
    is_some a some = grind (arith, nat_tests, some)

    less : (a b : ℕ) → nat_lt a b ≡ true → a < b
    less a b is = search rules

    first_both : (a b : Bool) → (a && b) ≡ true → a ≡ true
    first_both true b is = refl
    first_both false b is = is

    by_plain : (b : Bool) → is_plain keys.profile ≡ b → begins_with_magic first ≡ true
    by_plain true plain = let is : fits keys first ≡ begins_with_magic first = rw plain refl in sym is ∙ fit
    by_plain false ciphered =
        let headed : nat_lt 0 keys.profile.plain_header ≡ true = ap (λ (b : Bool). b || nat_lt 0 keys.profile.plain_header) (sym ciphered) ∙ clear in
        let tagged : (keys.profile.tag_len == 0) ≡ false = is_some keys.profile.tag_len (laid_out.header_tagged (less 0 keys.profile.plain_header headed)) in
        let is : fits keys first ≡ (begins_with_magic first && accepts keys 1 first) = rw (ciphered, tagged, headed) refl in
        first_both (begins_with_magic first) (accepts keys 1 first) (sym is ∙ fit)

first_of : (a b : Bool) (x y : OpenError) → first_broken ((a, x) ∷ (b, y) ∷ []) ≡ None → a ≡ false
first_of true b x y is = cc
first_of false b x y is = refl

-- it has a byte
pub open_some : (keys : FileKeys) (file : List ℕ) (n : ℕ) → counted_pages (file_opened keys file) ≡ Some n → 0 < length file
open_some keys file n is =
    let was = counted_open (file_opened keys file) n is in
    let lengths = both_past (first_broken (length_rules keys.profile.page_size file)) _ (record { header = was.0; count = n }) was.1 in
    above (length file) (first_of (length file == 0) (nat_lt (length file) keys.profile.page_size) Empty (Short (length file)) lengths.0)
  where
    above : (a : ℕ) → (a == 0) ≡ false → 0 < a
    above a is = search rules

not_less : (a b : ℕ) → nat_lt a b ≡ false → b ≤ a
not_less a b is = search rules

-- and a whole page
pub open_long : (keys : FileKeys) (file : List ℕ) (n : ℕ) → counted_pages (file_opened keys file) ≡ Some n → keys.profile.page_size ≤ length file
open_long keys file n is =
    let was = counted_open (file_opened keys file) n is in
    let lengths = both_past (first_broken (length_rules keys.profile.page_size file)) _ (record { header = was.0; count = n }) was.1 in
    not_less (length file) keys.profile.page_size (second_of (length file == 0) (nat_lt (length file) keys.profile.page_size) Empty (Short (length file)) lengths.0)

-- ---- a file of just its pages has as many

passed : (a b c : Bool) (x y z : CountRefusal) (v n : ℕ) → unless_broken ((a, x) ∷ (b, y) ∷ (c, z) ∷ []) v ≡ Ok n
    → (a ≡ false) × (b ≡ false) × (c ≡ false) × (v ≡ n)
passed true b c x y z v n is = cc
passed false true c x y z v n is = cc
passed false false true x y z v n is = cc
passed false false false x y z v n is = (refl, refl, refl, cc)

unbroken : (a b c : Bool) (x y z : CountRefusal) (v : ℕ) → a ≡ false → b ≡ false → c ≡ false
    → unless_broken ((a, x) ∷ (b, y) ∷ (c, z) ∷ []) v ≡ Ok v
unbroken a b c x y z v no_a no_b no_c = rw (no_a, no_b, no_c) refl

is_zero : (a : ℕ) → a ≡ 0 → (a == 0) ≡ true
is_zero a is = rw is refl

no_less : (a b : ℕ) → nat_lt a b ≡ false → b ≤ a
no_less a b is = search rules

no_more : (a b : ℕ) → b ≤ a → nat_lt a b ≡ false
no_more a b le = search (rules, le)

-- of as many bytes as the counted pages have, so many are counted
whole_count : (h : Header) (len n : ℕ) → 1 ≤ h.page_size → count_of_pages h len ≡ Ok n → count_of_pages h (n * h.page_size) ≡ Ok n
whole_count h len n size is =
    unbroken _ _ _ (Ragged whole) (TooLarge (pages_by h whole)) (LengthShort whole) (pages_by h whole) not_ragged not_large not_short ∙ ap (λ (k : ℕ). Ok k) same
  where
    whole : ℕ
    whole = n * h.page_size

    past : (((not (size_counts h) && not (len % h.page_size == 0)) ≡ false) × (nat_lt largest_database (pages_by h len * h.page_size) ≡ false)
        × (nat_lt len (pages_by h len * h.page_size) ≡ false) × (pages_by h len ≡ n))
    past = passed (not (size_counts h) && not (len % h.page_size == 0)) (nat_lt largest_database (pages_by h len * h.page_size)) (nat_lt len (pages_by h len * h.page_size))
        (Ragged len) (TooLarge (pages_by h len)) (LengthShort len) (pages_by h len) n is

    small : n * h.page_size ≤ largest_database
    small = subst (λ (k : ℕ). k * h.page_size ≤ largest_database) past.3 (no_less largest_database (pages_by h len * h.page_size) past.1)

    same : pages_by h whole ≡ n
    same = (elim (size_counts h) as (λ b. (if b then h.size_field else len / h.page_size) ≡ n → (if b then h.size_field else n * h.page_size / h.page_size) ≡ n) [
      | true ↦ λ counts. counts
      | false ↦ λ counts. mul-div_cancel n {n = h.page_size} size
    ]) past.3

    not_ragged : (not (size_counts h) && not (whole % h.page_size == 0)) ≡ false
    not_ragged = (elim (size_counts h) as (λ b. (not b && not (whole % h.page_size == 0)) ≡ false) [
      | true ↦ refl
      | false ↦ ap not (is_zero (whole % h.page_size) (mul-mod_left n h.page_size))
    ])

    not_large : nat_lt largest_database (pages_by h whole * h.page_size) ≡ false
    not_large = no_more largest_database (pages_by h whole * h.page_size) (subst (λ (k : ℕ). k * h.page_size ≤ largest_database) (sym same) small)

    not_short : nat_lt whole (pages_by h whole * h.page_size) ≡ false
    not_short = no_more whole (pages_by h whole * h.page_size) (subst (λ (k : ℕ). k * h.page_size ≤ whole) (sym same) (omega arith))

more_than : (a b : ℕ) → a ≤ b → nat_lt b a ≡ false
more_than a b le = search (rules, le)

pub whole_counts : (keys : FileKeys) (file : List ℕ) (n : ℕ) → counted_pages (file_opened keys file) ≡ Some n → 1 ≤ keys.profile.page_size → 1 ≤ n
    → count_by keys (page_stored keys file 1) (n * keys.profile.page_size) ≡ Some n
whole_counts keys file n is size some =
    let was = counted_open (file_opened keys file) n is in
    let x : Opened = record { header = was.0; count = n } in
    let page_size = keys.profile.page_size in
    let lengths = both_past (first_broken (length_rules page_size file)) _ x was.1 in
    let key = both_past (first_broken (key_rules keys file)) _ x lengths.1 in
    let read = header_of keys file x was.1 in
    let sized : was.0.page_size ≡ page_size = header_size keys.profile.reads_log (opened keys 1 (first_page keys.profile file)) page_size keys.profile.reserve was.0 read in
    let counts : count_of_pages was.0 (n * page_size) ≡ Ok n =
    ap (λ (k : ℕ). count_of_pages was.0 (n * k)) (sym sized) ∙ whole_count was.0 (length file) n (subst (λ (k : ℕ). 1 ≤ k) (sym sized) size) (with_counts (length file) (file_header keys file) x key.1) in
    let long : nat_lt (n * page_size) page_size ≡ false = more_than page_size (n * page_size) (one_page n page_size some) in
    rw long (ap (λ (r : Result Header HeaderRefusal). counted (n * page_size) r) read ∙ ap ok_count counts)
