-- What stops a check of the tags, and what its pages are after it.
use Rattle.std.proofs.Common.{◌≡◌, ◌≢◌, inl, inr, ℕ, ◌+◌, ◌≤◌, Bool, true, false, IsTrue, refl, sym, ap, subst, ◌∙◌, arith}
use Rattle.std.proofs.lemmas.Bool.{cases_lt}
use Rattle.btree_model.specs.Parts.{is_database}
use Rattle.btree_model.specs.Plain.{is_leaf}
use Rattle.btree_walk.specs.Causes.{IsGivenBy, IsWalkStop}
use Rattle.btree_walk.specs.declared.error.WalkError.{WalkError}
use Rattle.btree_walk.specs.declared.error.WalkError.TheVariants.{Defect as WalkDefect, Source, OutOfMemory as WalkMemory}
use Rattle.db_format.specs.Pages.{Pages, Test, is_page}
use Rattle.edge_model.specs.Files.{Files, main_of}
use Rattle.page_codec.specs.Page.{FileKeys}
use Rattle.pager.specs.Causes.{IsReadRefusal, MayRefuse}
use Rattle.pager.specs.Pages.{is_page_number, opened_pages}
use Rattle.pager.proofs.Refusals.{read_refusal}
use Rattle.pager.specs.declared.fill.PageError.{PageError}
use Rattle.pager.specs.declared.fill.PageError.TheVariants.{OutOfRange, TagRefused, DiskFault, EntropyFault, AllPinned}
use Rattle.rekey_job.specs.Stops.{IsFirstRefused, IsRekeyShown, rekey_page_error}
use Rattle.rekey_job.specs.declared.error.RekeyError.TheVariants.{LayoutDiffers, EntropyFault as RekeyEntropy}

-- a page that is refused behind a census is the first in use
pub tags_shown : (pages : Pages) (passed : Test) (error : PageError) → is_database pages ≡ true → passed ≡ is_leaf pages
    → ((n : ℕ) → error ≡ TagRefused n → IsFirstRefused pages passed n) → IsRekeyShown pages (rekey_page_error error)
tags_shown pages passed OutOfRange sound same first = tt
tags_shown pages passed (TagRefused n) sound same first = inr (sound, subst (λ (test : Test). IsFirstRefused pages test n) same (first n refl))
tags_shown pages passed DiskFault sound same first = tt
tags_shown pages passed EntropyFault sound same first = tt
tags_shown pages passed AllPinned sound same first = tt

-- whether a refusal names a page, and which
is_tag : PageError → Bool
is_tag OutOfRange = false
is_tag (TagRefused page) = true
is_tag DiskFault = false
is_tag EntropyFault = false
is_tag AllPinned = false

refused_number : PageError → ℕ
refused_number OutOfRange = 0
refused_number (TagRefused page) = page
refused_number DiskFault = 0
refused_number EntropyFault = 0
refused_number AllPinned = 0

-- a page that is refused behind those that were accepted is the first
pub first_refused : (tells : Bool) (pages : Pages) (passed : Test) (done : ℕ) (error : PageError)
    → ((m : ℕ) → 1 ≤ m → m ≤ done → passed m ≡ false → pages.accepts m ≡ true) → passed (done + 1) ≡ false
    → MayRefuse tells pages (done + 1) error → (n : ℕ) → error ≡ TagRefused n → IsTrue tells → IsFirstRefused pages passed n
unfolding is_tag refused_number
first_refused tells pages passed done OutOfRange before used refused n is told = let no : false ≡ true = ap is_tag is in cc
first_refused tells pages passed done (TagRefused page) before used refused n is told =
    let e : done + 1 ≡ n = sym refused.1 ∙ ap refused_number is in
    record {
      range = ap (is_page pages) (sym e) ∙ refused.0;
      used = ap passed (sym e) ∙ used;
      refused = ap pages.accepts (sym e) ∙ refused.2 told;
      first = λ m some less. before m some (omega (arith, less, e));
    }
first_refused tells pages passed done DiskFault before used refused n is told = let no : false ≡ true = ap is_tag is in cc
first_refused tells pages passed done EntropyFault before used refused n is told = absurd refused
first_refused tells pages passed done AllPinned before used refused n is told = let no : false ≡ true = ap is_tag is in cc

-- one page more is accepted
pub accepted_more : (pages : Pages) (passed : Test) (done : ℕ) → ((m : ℕ) → 1 ≤ m → m ≤ done → passed m ≡ false → pages.accepts m ≡ true)
    → (passed (done + 1) ≡ false → pages.accepts (done + 1) ≡ true)
    → (m : ℕ) → 1 ≤ m → m ≤ done + 1 → passed m ≡ false → pages.accepts m ≡ true
accepted_more pages passed done before next m some most used = elim (cases_lt m (done + 1)) as (λ _. pages.accepts m ≡ true) [
  | inl lt ↦ before m some (omega (arith, lt)) used
  | inr le ↦
      let e : done + 1 ≡ m = omega (arith, most, le) in
      ap pages.accepts (sym e) ∙ next (ap passed e ∙ used)
]

-- a walk that stopped, over pages that keep their count while they are read
pub given_stop : {T : Type 0} (tells : Bool) (read : T → T → Type 0) (plain : T → Pages) (before : T) (error : WalkError PageError)
    → ((s t : T) → read s t → (plain t).count ≡ (plain s).count) → IsGivenBy read plain (MayRefuse tells) before error → IsWalkStop IsReadRefusal error
given_stop tells read plain before (WalkDefect d) same given = tt
given_stop tells read plain before (Source error) same given =
    read_refusal tells (plain given.state) given.page error
    (subst (λ (count : ℕ). is_page_number count given.page ≡ true) (sym (same before given.state given.since)) given.range) given.refused
given_stop tells read plain before WalkMemory same given = tt

-- and says nothing of the layout or of the entropy
pub reading_error : (error : PageError) → IsReadRefusal error → (rekey_page_error error ≢ LayoutDiffers) × (rekey_page_error error ≢ RekeyEntropy)
reading_error OutOfRange reads = absurd reads
reading_error (TagRefused page) reads = (λ is. cc, λ is. cc)
reading_error DiskFault reads = (λ is. cc, λ is. cc)
reading_error EntropyFault reads = absurd reads
reading_error AllPinned reads = (λ is. cc, λ is. cc)

-- the same pages, by other names
pub pages_same : (keys keys_now : FileKeys) (files files_now : Files) (count count_now : ℕ) → keys_now ≡ keys → files_now ≡ files → count_now ≡ count
    → opened_pages keys_now (main_of files_now) count_now ≡ opened_pages keys (main_of files) count
pages_same keys keys_now files files_now count count_now k f c =
    ap (λ (x : FileKeys). opened_pages x (main_of files_now) count_now) k
    ∙ ap (λ (x : Files). opened_pages keys (main_of x) count_now) f
    ∙ ap (λ (x : ℕ). opened_pages keys (main_of files) x) c
