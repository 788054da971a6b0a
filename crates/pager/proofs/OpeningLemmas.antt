-- What a file has that opens.
use Rattle.std.proofs.Common.{◌≡◌, ℕ, ◌*◌, ◌≤◌, Bool, true, false, List, [], ◌∷◌, length, Option, Some, None, Result, Ok, Err, if◌then◌else◌, refl, sym, ap, ◌∙◌, rules, subst}
use Rattle.std.specs.Prelude.{◌==◌, ◌%◌, ◌&&◌, nat_lt, not}
use Rattle.std.specs.List.{AllByRecursion}
use Rattle.db_format.specs.Count.{count_of_pages, largest_database, page_count, size_counts}
use Rattle.db_format.specs.Rules.{unless_broken}
use Rattle.db_format.specs.declared.count.CountRefusal.{CountRefusal}
use Rattle.db_format.specs.declared.count.CountRefusal.TheVariants.{Ragged, TooLarge, Short}
use Rattle.db_format.specs.declared.header.Header.{Header}
use Rattle.db_format.specs.declared.header.HeaderRefusal.{HeaderRefusal}
use Rattle.page_codec.specs.Page.{FileKeys, fits}
use Rattle.page_cache.specs.Pages.{Page}
use Rattle.pager.specs.File.{first_page}
use Rattle.pager.specs.Opening.{Opened, file_header, file_opened, first_broken, first_opened, key_rules, length_rules, unless, with_count, with_header}
use Rattle.pager.specs.declared.opening.OpenError.{OpenError}
use Rattle.pager.specs.declared.opening.OpenError.TheVariants.{KeyRefused}

-- no rule is broken
unless_ok : (o : Option OpenError) (r : Result Opened OpenError) (x : Opened) → unless o r ≡ Ok x → r ≡ Ok x
unless_ok None r x is = is
unless_ok (Some error) r x is = cc

counted : (header : Header) (c : Result ℕ CountRefusal) (x : Opened) → with_count header c ≡ Ok x → (x.header ≡ header) × (c ≡ Ok x.count)
counted header (Ok n) x is = (cc, cc)
counted header (Err refusal) x is = cc

headed : (len : ℕ) (r : Result Header HeaderRefusal) (x : Opened) → with_header len r ≡ Ok x → count_of_pages x.header len ≡ Ok x.count
headed len (Ok header) x is =
    let found = counted header (count_of_pages header len) x is in
    ap (λ (h : Header). count_of_pages h len) found.0 ∙ found.1
headed len (Err refusal) x is = cc

passed : (a b c : Bool) (x y z : CountRefusal) (v n : ℕ) → unless_broken ((a, x) ∷ (b, y) ∷ (c, z) ∷ []) v ≡ Ok n → (c ≡ false) × (v ≡ n)
passed true b c x y z v n is = cc
passed false true c x y z v n is = cc
passed false false true x y z v n is = cc
passed false false false x y z v n is = (refl, cc)

no_less : (a b : ℕ) → nat_lt a b ≡ false → b ≤ a
no_less a b is = search rules

-- the counted pages are in the file
whole_by : (header : Header) (len n : ℕ) → count_of_pages header len ≡ Ok n → n * header.page_size ≤ len
whole_by header len n is =
    let pages = page_count header len in
    let past = passed (not (size_counts header) && not (len % header.page_size == 0)) (nat_lt largest_database (pages * header.page_size))
    (nat_lt len (pages * header.page_size)) (Ragged len) (TooLarge pages) (Short len) pages n is in
    subst (λ (k : ℕ). k * header.page_size ≤ len) past.1 (no_less len (page_count header len * header.page_size) past.0)

pub opened_whole : (keys : FileKeys) (file : List ℕ) (header : Header) (n : ℕ) → file_opened keys file ≡ Ok (record { header = header; count = n })
    → header.page_size ≡ keys.profile.page_size → n * keys.profile.page_size ≤ length file
opened_whole keys file header n is layout =
    let x : Opened = record { header = header; count = n } in
    let inner = unless_ok (first_broken (length_rules keys.profile.page_size file)) _ x is in
    let last = unless_ok (first_broken (key_rules keys file)) _ x inner in
    subst (λ (size : ℕ). n * size ≤ length file) layout (whole_by header (length file) n (headed (length file) (file_header keys file) x last))

by_key : (refused : Bool) (r : Result Opened OpenError) → unless (first_broken ((refused, KeyRefused) ∷ [])) r ≡ (if refused then Err KeyRefused else r)
by_key true r = refl
by_key false r = refl

-- a file whose length is served opens as its page 1 says
pub opened_by : (keys : FileKeys) (file first : List ℕ) (len : ℕ) → first_broken (length_rules keys.profile.page_size file) ≡ None
    → first ≡ first_page keys.profile file → len ≡ length file → file_opened keys file ≡ first_opened keys first len
opened_by keys file first len passed is long =
    ap (λ (o : Option OpenError). unless o (unless (first_broken (key_rules keys file)) (with_header (length file) (file_header keys file)))) passed
    ∙ by_key (not (fits keys (first_page keys.profile file))) (with_header (length file) (file_header keys file))
    ∙ ap (λ (l : List ℕ). first_opened keys l (length file)) (sym is)
    ∙ ap (λ (n : ℕ). first_opened keys first n) (sym long)

-- nothing is held
pub none_held : (P : Page → Type 0) (held : List Page) → length held ≡ 0 → AllByRecursion P held
none_held P [] none = tt
none_held P (page ∷ pages) none = cc
