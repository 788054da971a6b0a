-- What is known of a file that opens.
use Rattle.std.proofs.Common.{◌≡◌, ◌==◌, ◌≤◌, ◌<◌, ℕ, zero, suc, Bool, true, false, not, List, [], ◌∷◌, length, Option, Some, None, Result, Ok, Err, refl, sym, ap, ◌∙◌, arith, rules}
use Rattle.std.specs.Prelude.{◌&&◌, ◌||◌, if◌then◌else◌, nat_lt, IsTrue}
use Rattle.cipher_profile.proofs.Layouts.{IsListed-laid_out}
use Rattle.cipher_profile.specs.Profile.{IsListed, is_clear, is_plain}
use Rattle.db_format.specs.Bytes.{u16_at}
use Rattle.db_format.specs.Count.{count_of_pages}
use Rattle.db_format.specs.Header.{header_fields, header_read_as, header_rules_as, page_size_of}
use Rattle.db_format.specs.Rules.{Rule, unless_broken}
use Rattle.db_format.specs.declared.count.CountRefusal.{CountRefusal}
use Rattle.db_format.specs.declared.header.Header.{Header}
use Rattle.db_format.specs.declared.header.HeaderRefusal.{HeaderRefusal}
use Rattle.db_format.specs.declared.header.HeaderRefusal.TheVariants.{HeaderFault}
use Rattle.page_codec.specs.Page.{FileKeys, accepts, bears_sign, begins_with_magic, fits, opened}
use Rattle.page_codec.proofs.TagPlace.{accepts-no_tag}
use Rattle.pager.specs.Database.{count_of, counted, ok_count}
use Rattle.pager.specs.File.{first_page, page_stored}
use Rattle.pager.specs.Opening.{Opened, file_header, file_opened, first_broken, key_rules, length_rules, unless, with_count, with_header}
use Rattle.pager.specs.declared.opening.OpenError.{OpenError}
use Rattle.pager.specs.declared.opening.OpenError.TheVariants.{Empty, Short}
use Rattle.rekey_job.proofs.Checked.{not_not}
use Rattle.sqlcipher_tool.proofs.ChangedFields.{none_broken}
use Rattle.sqlcipher_tool.proofs.Numbers.{no_less}

pub record IsOpen (keys : FileKeys) (file : List ℕ) (header : Header) (n : ℕ) : Type 0 where
  pub long : keys.profile.page_size ≤ length file
  pub fit : fits keys (page_stored keys file 1) ≡ true
  pub read : header_read_as keys.profile.reads_log (opened keys 1 (page_stored keys file 1)) keys.profile.page_size keys.profile.reserve ≡ Ok header
  pub counts : count_of_pages header (length file) ≡ Ok n

pub past : (o : Option OpenError) (r : Result Opened OpenError) (x : Opened) → unless o r ≡ Ok x → (o ≡ None) × (r ≡ Ok x)
past None r x is = (refl, is)
past (Some error) r x is = cc

second_of : (a b : Bool) (x y : OpenError) → first_broken ((a, x) ∷ (b, y) ∷ []) ≡ None → b ≡ false
second_of true b x y is = cc
second_of false true x y is = cc
second_of false false x y is = refl

first_is : (a : Bool) (x : OpenError) → first_broken ((a, x) ∷ []) ≡ None → a ≡ false
first_is true x is = cc
first_is false x is = refl

with_its_count : (header : Header) (c : Result ℕ CountRefusal) (x : Opened) → with_count header c ≡ Ok x → (header ≡ x.header) × (c ≡ Ok x.count)
with_its_count header (Ok n) x is = (cc, cc)
with_its_count header (Err refusal) x is = cc

pub with_both : (len : ℕ) (r : Result Header HeaderRefusal) (x : Opened) → with_header len r ≡ Ok x → (r ≡ Ok x.header) × (count_of_pages x.header len ≡ Ok x.count)
with_both len (Ok header) x is =
    let both = with_its_count header (count_of_pages header len) x is in
    (ap (λ (h : Header). Ok h) both.0, ap (λ (h : Header). count_of_pages h len) (sym both.0) ∙ both.1)
with_both len (Err refusal) x is = cc

pub open_parts : (keys : FileKeys) (file : List ℕ) (header : Header) (n : ℕ) → file_opened keys file ≡ Ok (record { header = header; count = n })
    → IsOpen keys file header n
open_parts keys file header n is =
    let x : Opened = record { header = header; count = n } in
    let size = keys.profile.page_size in
    let lengths = past (first_broken (length_rules size file)) _ x is in
    let key = past (first_broken (key_rules keys file)) _ x lengths.1 in
    let both = with_both (length file) (file_header keys file) x key.1 in record {
      long = no_less (length file) size (second_of (length file == 0) (nat_lt (length file) size) Empty (Short (length file)) lengths.0);
      fit = not_not (fits keys (first_page keys.profile file)) (first_is (not (fits keys (first_page keys.profile file))) _ key.0);
      read = both.0;
      counts = both.1;
    }

-- it has so many pages
pub open_count : (keys : FileKeys) (file : List ℕ) (header : Header) (n : ℕ) → IsOpen keys file header n → count_of keys file ≡ Some n
open_count keys file header n is_open =
    let long : nat_lt (length file) keys.profile.page_size ≡ false = more (length file) keys.profile.page_size is_open.long in
    rw long (ap (λ (r : Result Header HeaderRefusal). counted (length file) r) is_open.read ∙ ap ok_count is_open.counts)
  where
    more : (a b : ℕ) → b ≤ a → nat_lt a b ≡ false
    more a b le = search (rules, le)

-- by the tag of page 1, behind a plain header that begins with the magic
abbrev pub keyed : FileKeys → List ℕ → Bool
keyed keys first = if nat_lt 0 keys.profile.plain_header then begins_with_magic first && accepts keys 1 first else accepts keys 1 first

-- of an encrypted file the key fits by the tag of page 1, or by its sign
pub ciphered_fits : (keys : FileKeys) (first : List ℕ) → is_plain keys.profile ≡ false
    → fits keys first ≡ (if keys.profile.tag_len == 0 then bears_sign keys.profile (opened keys 1 first) else keyed keys first)
ciphered_fits keys first ciphered =
    ap (λ (b : Bool). if b then begins_with_magic first else (if keys.profile.tag_len == 0 then bears_sign keys.profile (opened keys 1 first) else keyed keys first)) ciphered

-- and of a plain one by the magic
pub plain_fits : (keys : FileKeys) (first : List ℕ) → is_plain keys.profile ≡ true → fits keys first ≡ begins_with_magic first
plain_fits keys first plain =
    ap (λ (b : Bool). if b then begins_with_magic first else (if keys.profile.tag_len == 0 then bears_sign keys.profile (opened keys 1 first) else keyed keys first)) plain

-- the tag is right in either case, and a page with a plain header begins with the magic
pub keyed_accepts : (keys : FileKeys) (first : List ℕ) → keyed keys first ≡ true → accepts keys 1 first ≡ true
keyed_accepts keys first is = by_header (nat_lt 0 keys.profile.plain_header) (begins_with_magic first) (accepts keys 1 first) is
  where
    by_header : (headed begins accepted : Bool) → (if headed then begins && accepted else accepted) ≡ true → accepted ≡ true
    by_header true true accepted is = is
    by_header true false accepted is = cc
    by_header false begins accepted is = is

pub keyed_of : (keys : FileKeys) (first : List ℕ) → (is_clear keys.profile ≡ true → begins_with_magic first ≡ true) → accepts keys 1 first ≡ true → keyed keys first ≡ true
keyed_of keys first begins accepted = by_header (nat_lt 0 keys.profile.plain_header) refl
  where
    clear : (plain headed : Bool) → headed ≡ true → (plain || headed) ≡ true
    clear true headed is = refl
    clear false headed is = is

    by_header : (headed : Bool) → nat_lt 0 keys.profile.plain_header ≡ headed → (if headed then begins_with_magic first && accepts keys 1 first else accepts keys 1 first) ≡ true
    by_header true some =
        let begun = begins (clear (is_plain keys.profile) (nat_lt 0 keys.profile.plain_header) some) in
        ap (λ (b : Bool). b && accepts keys 1 first) begun ∙ accepted
    by_header false none = accepted

-- page 1 of a file whose key fits is accepted
pub fits_accepts : (keys : FileKeys) (first : List ℕ) → IsListed keys.profile → fits keys first ≡ true → accepts keys 1 first ≡ true
fits_accepts keys first listed fit = by_tag (keys.profile.tag_len == 0) refl
  where
    zero_is : (a : ℕ) → (a == 0) ≡ true → a ≡ 0
    zero_is a is = search rules

    some_is : (a : ℕ) → (a == 0) ≡ false → 0 < a
    some_is zero is = cc
    some_is (suc a) is = omega arith

    by_tag : (b : Bool) → (keys.profile.tag_len == 0) ≡ b → accepts keys 1 first ≡ true
    by_tag true none = accepts-no_tag keys 1 first (zero_is keys.profile.tag_len none)
    by_tag false some =
        let ciphered = (IsListed-laid_out keys.profile listed).tagged (some_is keys.profile.tag_len some) in
        let inner : (if keys.profile.tag_len == 0 then bears_sign keys.profile (opened keys 1 first) else keyed keys first) ≡ true =
        sym (ciphered_fits keys first ciphered) ∙ fit in
        keyed_accepts keys first (ap (λ (b : Bool). if b then bears_sign keys.profile (opened keys 1 first) else keyed keys first) (sym some) ∙ inner)

-- so is that of a file that opens
pub open_accepts : (keys : FileKeys) (file : List ℕ) (header : Header) (n : ℕ) → IsListed keys.profile → IsOpen keys file header n
    → IsTrue (accepts keys 1 (page_stored keys file 1))
open_accepts keys file header n listed is_open = fits_accepts keys (page_stored keys file 1) listed is_open.fit

-- the page size in a header that is read is the file's
pub header_size : (passes : Bool) (plain : List ℕ) (size reserve : ℕ) (h : Header) → header_read_as passes plain size reserve ≡ Ok h → (header_fields plain ≡ h) × (h.page_size ≡ size)
header_size passes plain size reserve h is =
    let fields = none_broken (header_rules_as passes plain size reserve) (header_fields plain) h (header_fields plain) is in
    let first = first_passed (not (page_size_of (u16_at plain 16) == size)) (HeaderFault 16 (u16_at plain 16)) (later_of (header_rules_as passes plain size reserve)) (header_fields plain) h is in
    (fields.0, ap (λ (h : Header). h.page_size) (sym fields.0) ∙ same (page_size_of (u16_at plain 16)) size (not_not (page_size_of (u16_at plain 16) == size) first))
  where
    later_of : List (Rule HeaderRefusal) → List (Rule HeaderRefusal)
    later_of [] = []
    later_of (rule ∷ later) = later

    first_passed : {V E : Type 0} (b : Bool) (e : E) (later : List (Rule E)) (v x : V) → unless_broken ((b, e) ∷ later) v ≡ Ok x → b ≡ false
    first_passed true e later v x is = cc
    first_passed false e later v x is = refl

    same : (a b : ℕ) → (a == b) ≡ true → a ≡ b
    same a b is = search rules

-- the same of keys, a file, a header and a count that are these
pub opened_same : (keys now : FileKeys) (file main : List ℕ) (header found : Header) (n count : ℕ) → now ≡ keys → main ≡ file → found ≡ header → count ≡ n
    → file_opened keys file ≡ Ok (record { header = header; count = n }) → file_opened now main ≡ Ok (record { header = found; count = count })
opened_same keys now file main header found n count one two three four is =
    ap (λ (k : FileKeys). file_opened k main) one
    ∙ ap (λ (l : List ℕ). file_opened keys l) two
    ∙ is
    ∙ ap (λ (h : Header). Ok (record { header = h; count = n })) (sym three)
    ∙ ap (λ (m : ℕ). Ok (record { header = found; count = m })) (sym four)
