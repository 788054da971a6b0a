-- What is written for each page of a clean file.
use Rattle.std.proofs.Common.{◌≡◌, ◌∙◌, ℕ, zero, suc, ◌≤◌, ◌&&◌, Bool, true, false, IsTrue, List, replicate, Result, Ok, Err, if◌then◌else◌, refl, sym, ap, arith, rules}
use Rattle.std.specs.Prelude.{OnOk, nat_lt, not}
use Rattle.btree_model.specs.Parts.{is_database}
use Rattle.btree_model.specs.Plain.{is_leaf, with_zeros}
use Rattle.db_format.specs.Pages.{Pages}
use Rattle.db_format.specs.Seen.{marked}
use Rattle.page_codec.specs.Page.{FileKeys, accepts}
use Rattle.pager.specs.File.{page_stored}
use Rattle.pager.specs.Pages.{is_page_number, opened_pages}
use Rattle.pager.specs.UnderWay.{HasNewPages, Start}
use Rattle.pager.proofs.BatchLemmas.{and_true, number_in}
use Rattle.page_plan.proofs.Planning.{new_as}
use Rattle.page_plan.specs.Stops.{is_begun, is_fault}
use Rattle.page_plan.specs.declared.error.WriteError.{WriteError}
use Rattle.page_plan.specs.declared.error.WriteError.TheVariants.{LayoutDiffers, OutOfMemory, TagRefused, DiskFault, EntropyFault}
use Rattle.rekey_job.specs.Rewritten.{is_zeroed, rewritten}
use Rattle.rekey_job.specs.Stops.{AreClean, IsLateRekey, rekey_write_error}
use Rattle.rekey_job.specs.declared.error.RekeyError.TheVariants.{LayoutDiffers as RekeyLayout, OutOfMemory as RekeyMemory, EntropyFault as RekeyEntropy}
use Rattle.rekey_job.proofs.Checked.{first_used}

-- of a database without a defect, what becomes zeros are the leaves
pub zeroed_is : (pages : Pages) (leaves : List Bool) (n : ℕ) → is_database pages ≡ true → 1 ≤ n → marked leaves n ≡ is_leaf pages n → is_zeroed leaves n ≡ is_leaf pages n
zeroed_is pages leaves zero sound one is = absurd (omega (arith, one))
zeroed_is pages leaves (suc zero) sound one is = let no : is_zeroed leaves 1 ≡ false = refl in no ∙ sym (first_used pages sound)
zeroed_is pages leaves (suc (suc m)) sound one is =
    let more : nat_lt 1 (suc (suc m)) ≡ true = search rules in
    ap (λ (b : Bool). b && marked leaves (suc (suc m))) more ∙ is

-- what is written: the plain pages, and zeros for the leaves
pub all_plain : (start : Start) (read write : FileKeys) (file : List ℕ) (count usable : ℕ) (leaves : List Bool) (tells : Bool) (drawn main : List ℕ)
    → usable ≡ (opened_pages read file count).usable → count ≡ start.base.pages → is_database (opened_pages read file count) ≡ true
    → ((n : ℕ) → marked leaves n ≡ is_leaf (opened_pages read file count) n)
    → HasNewPages start write (λ n. true) (λ n. rewritten leaves usable n ((opened_pages read file count).page n)) tells drawn main
    → HasNewPages start write (λ n. true) (with_zeros (opened_pages read file count)).page tells drawn main
all_plain start read write file count usable leaves tells drawn main size whole sound leafs has =
    let pages = opened_pages read file count in
    new_as start write (λ n. true) (λ n. true) (λ n. rewritten leaves usable n (pages.page n)) (with_zeros pages).page tells drawn main (λ n num. refl)
    (λ n num is. ap (λ (b : Bool). if b then replicate usable 0 else pages.page n) (zeroed_is pages leaves n sound (number_in start.base.pages n num).0 (leafs n))
    ∙ ap (λ (u : ℕ). if is_leaf pages n then replicate u 0 else pages.page n) size) has

-- a page that does not become zeros is accepted
pub all_accepted : (read : FileKeys) (file : List ℕ) (count : ℕ) (leaves : List Bool) → AreClean (opened_pages read file count)
    → ((n : ℕ) → marked leaves n ≡ is_leaf (opened_pages read file count) n)
    → (n : ℕ) → is_page_number count n ≡ true → not (is_zeroed leaves n) ≡ true → accepts read n (page_stored read file n) ≡ true
all_accepted read file count leaves clean leafs n num unzeroed =
    let pages = opened_pages read file count in
    (and_true (is_page_number count n) (accepts read n (page_stored read file n))
    (clean.accepted n num (sym (zeroed_is pages leaves n clean.sound (number_in count n num).0 (leafs n)) ∙ unzeroed_is (is_zeroed leaves n) unzeroed))).1
  where
    unzeroed_is : (b : Bool) → not b ≡ true → b ≡ false
    unzeroed_is true is = cc
    unzeroed_is false is = refl

-- ---- results

-- where a plan was begun and the disk tells, a call failed
pub late_stop : (tells : Bool) (error : WriteError) → (is_begun error ≡ true → IsTrue tells → is_fault error ≡ true) → IsTrue tells → (error ≡ LayoutDiffers → ⊥) → IsLateRekey (rekey_write_error error)
late_stop tells LayoutDiffers fault told alike = absurd (alike refl)
late_stop tells OutOfMemory fault told alike = tt
late_stop tells (TagRefused page) fault told alike = let no : false ≡ true = fault refl told in cc
late_stop tells DiskFault fault told alike = tt
late_stop tells EntropyFault fault told alike = tt

pub ok_at : {T E A : Type 0} (r : Result T E) (t : T) → r ≡ Ok t → OnOk r A → A
ok_at (Ok x) t is a = a
ok_at (Err e) t is a = cc

pub err_same : {T E : Type 0} (a b : E) → ◌≡◌ {A = Result T E} (Err a) (Err b) → a ≡ b
err_same a b is = cc

-- which error of the plan it was
pub was_layout : (error : WriteError) → rekey_write_error error ≡ RekeyLayout → error ≡ LayoutDiffers
was_layout LayoutDiffers is = refl
was_layout OutOfMemory is = cc
was_layout (TagRefused page) is = cc
was_layout DiskFault is = cc
was_layout EntropyFault is = cc

pub was_memory : (error : WriteError) → rekey_write_error error ≡ RekeyMemory → is_begun error ≡ false
was_memory LayoutDiffers is = refl
was_memory OutOfMemory is = refl
was_memory (TagRefused page) is = cc
was_memory DiskFault is = cc
was_memory EntropyFault is = cc

pub was_entropy : (error : WriteError) → rekey_write_error error ≡ RekeyEntropy → error ≡ EntropyFault
was_entropy LayoutDiffers is = cc
was_entropy OutOfMemory is = cc
was_entropy (TagRefused page) is = cc
was_entropy DiskFault is = cc
was_entropy EntropyFault is = refl
