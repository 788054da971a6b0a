-- The pages of the schema of a made database.
use Rattle.std.proofs.Common.{subst, sym, ◌≡◌, ◌≤◌, ◌<◌, ◌+◌, ◌-◌, ◌*◌, ◌%◌, ◌/◌, ◌^◌, ℕ, Bool, true, List, [], ◌∷◌, length, refl, ap, ◌∙◌, arith, rules, if◌then◌else◌}
use Rattle.std.specs.Prelude.{Err, IfErr, Ok, OnErr, Result, codes, nat_le, sum}
use Rattle.std.specs.Result.{IsErrAnd}
use Rattle.std.proofs.Math.Nat.{min-le_left}
use Rattle.btree_page.specs.Payload.{local_len}
use Rattle.btree_page.specs.declared.kind.Family.TheVariants.{Table}
use Rattle.bulk_load.specs.Bound.{tree_pages, weights}
use Rattle.bulk_load.specs.Count.{overflow_pages, pages_for}
use Rattle.bulk_load.specs.Few.{TookFew, load_pages}
use Rattle.bulk_load.specs.declared.loader.Loader.{Loader}
use Rattle.btree_model.specs.Content.{Entry}
use Rattle.db_format.specs.Row.{record_bytes}
use Rattle.db_maker.specs.Pages.{schema_pages}
use Rattle.db_maker.specs.Parts.{part_values, schema_entries, view_values}
use Rattle.db_maker.specs.declared.part.Part.{Part}
use Rattle.db_maker.specs.declared.part.Part.TheVariants.{Items, Names, Codes}
use Rattle.db_maker.proofs.RowLaws.{row_short}

pub no_pages : (size : ℕ) → 1 ≤ size → pages_for size 0 ≡ 0
no_pages size some =
    let whole : 0 / size ≡ 0 = omega arith in
    let rest : 0 % size ≡ 0 = omega arith in
    rw whole (rw rest refl)

pub local_whole : (len most other : ℕ) → len ≤ most → (if nat_le len most then len else other) ≡ len
local_whole len most other few =
    let within : nat_le len most ≡ true = search (rules, few) in
    ap (λ (b : Bool). if b then len else other) within

-- a payload that fits stays in its cell
fits_whole : (usable len : ℕ) → 480 ≤ usable → len ≤ 445 → overflow_pages Table usable len ≡ 0
fits_whole usable len large few = whole (local_len Table usable len) (local_whole len (usable - 35) _ (omega arith))
  where
    whole : (local : ℕ) → local ≡ len → pages_for (usable - 4) (len - local) ≡ 0
    whole local is = let none : len - local ≡ 0 = omega arith in ap (pages_for (usable - 4)) none ∙ no_pages (usable - 4) (omega arith)

part_short : (part : Part) (root : ℕ) → root < 2 ^ 63 → length (record_bytes (part_values part root)) ≤ 445
part_short Items root small =
    omega (arith, row_short (codes "table") (codes "items") (codes "items") (codes "CREATE TABLE items(id INTEGER PRIMARY KEY, name TEXT, data BLOB, size INTEGER)") root small)
part_short Names root small = omega (arith, row_short (codes "index") (codes "items_name") (codes "items") (codes "CREATE INDEX items_name ON items(name)") root small)
part_short Codes root small =
    omega (arith, row_short (codes "table") (codes "codes") (codes "codes") (codes "CREATE TABLE codes(code TEXT PRIMARY KEY, item INTEGER) WITHOUT ROWID") root small)

view_short : length (record_bytes view_values) ≤ 445
view_short = omega (arith, row_short (codes "view") (codes "names") (codes "names") (codes "CREATE VIEW names AS SELECT name FROM items") 0 (omega arith))

-- its four rows want no overflow page
pub schema_few : (usable items names codes_root : ℕ) → 480 ≤ usable → items < 2 ^ 63 → names < 2 ^ 63 → codes_root < 2 ^ 63
    → load_pages Table usable (schema_entries items names codes_root) ≤ schema_pages
schema_few usable items names codes_root large one two three =
    counted (overflow_pages Table usable (length (record_bytes (part_values Items items)))) (overflow_pages Table usable (length (record_bytes (part_values Names names))))
    (overflow_pages Table usable (length (record_bytes (part_values Codes codes_root)))) (overflow_pages Table usable (length (record_bytes view_values)))
    (tree_pages Table usable (schema_entries items names codes_root))
    (fits_whole usable _ large (part_short Items items one)) (fits_whole usable _ large (part_short Names names two))
    (fits_whole usable _ large (part_short Codes codes_root three)) (fits_whole usable _ large view_short)
    (min-le_left 9 (3 * weights Table usable (schema_entries items names codes_root) / usable + 64))
  where
    counted : (a b d e tree : ℕ) → a ≡ 0 → b ≡ 0 → d ≡ 0 → e ≡ 0 → tree ≤ 9 → tree + sum (a ∷ b ∷ d ∷ e ∷ []) ≤ 9
    counted a b d e tree p q r s most = omega arith

-- what was taken, where the usable size is written otherwise
pub took_at : (one other from to : ℕ) (entries : List Entry) (loader : Loader) → one ≡ other → TookFew Table one from entries to loader → TookFew Table other from entries to loader
took_at one other from to entries loader same = subst (λ (u : ℕ). TookFew Table u from entries to loader) same

-- what holds whatever was answered
pub always_err : {A E Q : Type 0} (r : Result A E) → Q → OnErr r Q
always_err (Ok x) q = tt
always_err (Err e) q = q

-- what is told of an error is told of the answer that hands it on
pub err_to : {B E : Type 0} (P : E → Type 0) (last : Result B E) (why : E) → IsErrAnd last (λ e. e ≡ why) → P why → IfErr last P
err_to P (Ok b) why same told = tt
err_to P (Err e) why same told = subst P (sym same) told
