-- Results by other words.
use Rattle.std.proofs.Common.{◌≡◌, ℕ, ◌-◌, Bool, true, false, IsTrue, Result, Ok, Err, refl, sym, ap, subst, ◌∙◌}
use Rattle.std.specs.Prelude.{IfErr, IsErrAnd, OnOk}
use Rattle.cipher_profile.specs.Profile.{usable}
use Rattle.page_codec.specs.Page.{FileKeys}
use Rattle.page_plan.specs.Stops.{is_fault, page_stop}
use Rattle.page_plan.specs.declared.error.WriteError.{WriteError}
use Rattle.pager.specs.Changed.{same_layout}
use Rattle.pager.specs.UnderWay.{is_failure}
use Rattle.pager.specs.declared.fill.PageError.{PageError}
use Rattle.pager.specs.declared.fill.PageError.TheVariants.{OutOfRange, TagRefused, DiskFault, EntropyFault, AllPinned}
use Rattle.pager.proofs.TxnLemmas.{layout_same}

-- where a call failed, the plan stops by a fault
pub page_failed : (error : PageError) → (is_failure error ≡ false → ⊥) → is_fault (page_stop error) ≡ true
page_failed OutOfRange failed = absurd (failed refl)
page_failed (TagRefused page) failed = absurd (failed refl)
page_failed DiskFault failed = refl
page_failed EntropyFault failed = refl
page_failed AllPinned failed = absurd (failed refl)

pub err_at : {T E : Type 0} (P : E → Type 0) (r : Result T E) (e : E) → r ≡ Err e → IfErr r P → P e
err_at P r e is p = subst (λ (x : Result _ _). IfErr x P) is p

pub err_told : {T : Type 0} (tells : Bool) (r : Result T WriteError) (error : WriteError) → (IsTrue tells → r ≡ Err error) → (IsTrue tells → is_fault error ≡ true)
    → IfErr r (λ e. IsTrue tells → is_fault e ≡ true)
err_told tells (Ok x) error is failed = tt
err_told tells (Err e) error is failed = λ told. err_at (λ (x : WriteError). is_fault x ≡ true) (Err error) e (sym (is told)) (failed told)

pub err_both : {T E : Type 0} {P Q R : E → Type 0} (r : Result T E) → IfErr r P → IfErr r Q → ((e : E) → P e → Q e → R e) → IfErr r R
err_both (Ok x) p q f = p
err_both (Err e) p q f = f e p q

pub err_map : {T E : Type 0} (P Q : E → Type 0) (r : Result T E) → ((e : E) → P e → Q e) → IfErr r P → IfErr r Q
err_map P Q (Ok x) gives p = p
err_map P Q (Err e) gives p = gives e p

never_both : {T E : Type 0} (P : E → Type 0) (r : Result T E) (t : T) → r ≡ Ok t → IsErrAnd r P → ⊥
never_both P (Ok x) t is found = found
never_both P (Err e) t is found = cc

-- a transaction that was begun is under a codec of the same layout
pub begun_layout : {T E : Type 0} (P : E → Type 0) (b : Bool) (r : Result T E) (t : T) → r ≡ Ok t → (b ≡ false → IsErrAnd r P) → b ≡ true
begun_layout P true r t is differs = refl
begun_layout P false r t is differs = absurd (never_both P r t is (differs refl))

pub usable_same : (read write : FileKeys) → same_layout read write ≡ true → usable write.profile ≡ usable read.profile
usable_same read write same =
    let sizes = layout_same read write same in
    ap (λ (s : ℕ). s - write.profile.reserve) sizes.0 ∙ ap (λ (r : ℕ). read.profile.page_size - r) sizes.1
