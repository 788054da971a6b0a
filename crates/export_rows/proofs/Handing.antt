-- Causes that are handed on.
use Rattle.std.proofs.Common.{◌≡◌, ◌≢◌, ◌≤◌, ℕ, Bool, false, Result, Ok, Err, refl, sym, subst}
use Rattle.std.specs.Prelude.{IfErr, IsTrue}
use Rattle.db_format.specs.Pages.{Pages, nothing}
use Rattle.btree_model.specs.Parts.{parts}
use Rattle.btree_model.specs.Records.{tree_part}
use Rattle.btree_model.specs.Tree.{root_family}
use Rattle.db_format.specs.Source.{Rose}
use Rattle.btree_walk.specs.Causes.{IsAmong, IsGivenBy, is_failure}
use Rattle.btree_walk.proofs.CauseLemmas.{given_later, rose_later}
use Rattle.btree_walk.specs.declared.error.WalkError.{WalkError}
use Rattle.btree_walk.specs.declared.error.WalkError.TheVariants.{Defect, Source, OutOfMemory}
use Rattle.schema_map.specs.Parts.{IsEarliest}
use Rattle.export_rows.specs.Causes.{IfWalk, IsLateWalk, after_check, is_export_defect}
use Rattle.export_rows.specs.declared.error.ExportError.{ExportError}
use Rattle.export_rows.specs.declared.error.ExportError.TheVariants.{Walk, OutputFault}

-- what was given after a state that was only read was given after the first one too
pub walk_given_later : {T R : Type 0} (read : T → T → Type 0) (plain : T → Pages) (refuses : Pages → ℕ → R → Type 0) (before middle : T) (error : ExportError R)
    → ((s t u : T) → read s t → read t u → read s u) → (plain middle).count ≡ (plain before).count → read before middle
    → IfWalk (IsGivenBy read plain refuses middle) error → IfWalk (IsGivenBy read plain refuses before) error
walk_given_later read plain refuses before middle (Walk error) on same first given = given_later read plain refuses before middle error on same first given
walk_given_later read plain refuses before middle OutputFault on same first given = tt

pub if_given_later : {T R A : Type 0} (read : T → T → Type 0) (plain : T → Pages) (refuses : Pages → ℕ → R → Type 0) (before middle : T) (result : Result A (ExportError R))
    → ((s t u : T) → read s t → read t u → read s u) → (plain middle).count ≡ (plain before).count → read before middle
    → IfErr result (IfWalk (IsGivenBy read plain refuses middle)) → IfErr result (IfWalk (IsGivenBy read plain refuses before))
if_given_later read plain refuses before middle (Ok value) on same first given = tt
if_given_later read plain refuses before middle (Err error) on same first given = walk_given_later read plain refuses before middle error on same first given

-- a count that rose after a later state rose after the first one too
pub walk_fault_later : {R : Type 0} (is_fault : R → Bool) (before middle now : ℕ) (error : ExportError R) → before ≤ middle
    → IfWalk (λ e. IsTrue (is_failure is_fault e) → Rose middle now) error → IfWalk (λ e. IsTrue (is_failure is_fault e) → Rose before now) error
walk_fault_later is_fault before middle now (Walk error) less fault = λ failed. rose_later before middle now less (fault failed)
walk_fault_later is_fault before middle now OutputFault less fault = tt

-- a stop within a tree of the same pages
pub if_among_later : {R A : Type 0} (refuses : Pages → ℕ → R → Type 0) (before middle : Pages) (tells : Type 0) (root : ℕ) (result : Result A (ExportError R))
    → (tells → middle ≡ before) → (root ≡ 0 → ⊥)
    → IfErr result (IfWalk (λ error. tells → IsAmong refuses middle (tree_part middle (root_family root (middle.page root)) nothing root) error))
    → IfErr result (IfWalk (λ error. tells → (root ≢ 0) × IsAmong refuses before (tree_part before (root_family root (before.page root)) nothing root) error))
if_among_later refuses before middle tells root (Ok value) same some among = tt
if_among_later refuses before middle tells root (Err (Walk error)) same some among = λ told. (
  some,
  subst (λ p. IsAmong refuses p (tree_part p (root_family root (p.page root)) nothing root) error) (same told) (among told),
)
if_among_later refuses before middle tells root (Err OutputFault) same some among = tt

-- ---- after the check

-- what holds of a stop holds of it after the check too, where it holds of want of memory
walk_checked : {R : Type 0} (P : WalkError R → Type 0) (error checked : ExportError R) → P OutOfMemory → checked ≡ after_check error → IfWalk P error → IfWalk P checked
walk_checked P (Walk (Defect d)) checked starved same is = subst (IfWalk P) (sym same) starved
walk_checked P (Walk (Source refusal)) checked starved same is = subst (IfWalk P) (sym same) is
walk_checked P (Walk OutOfMemory) checked starved same is = subst (IfWalk P) (sym same) is
walk_checked P OutputFault checked starved same is = subst (IfWalk P) (sym same) tt

pub late_checked : {R : Type 0} (refuses : Pages → ℕ → R → Type 0) (pages : Pages) (tells : Type 0) (error checked : ExportError R) → checked ≡ after_check error
    → IfWalk (λ e. tells → IsLateWalk refuses pages e) error → IfWalk (λ e. tells → IsLateWalk refuses pages e) checked
late_checked refuses pages tells error checked = walk_checked (λ e. tells → IsLateWalk refuses pages e) error checked (λ told. tt)

pub given_checked : {T R : Type 0} (read : T → T → Type 0) (plain : T → Pages) (refuses : Pages → ℕ → R → Type 0) (before : T) (error checked : ExportError R) → checked ≡ after_check error
    → IfWalk (IsGivenBy read plain refuses before) error → IfWalk (IsGivenBy read plain refuses before) checked
given_checked read plain refuses before error checked = walk_checked (IsGivenBy read plain refuses before) error checked tt

pub fault_checked : {R : Type 0} (is_fault : R → Bool) (before now : ℕ) (error checked : ExportError R) → checked ≡ after_check error
    → IfWalk (λ e. IsTrue (is_failure is_fault e) → Rose before now) error → IfWalk (λ e. IsTrue (is_failure is_fault e) → Rose before now) checked
fault_checked is_fault before now error checked = walk_checked (λ e. IsTrue (is_failure is_fault e) → Rose before now) error checked (λ failed. cc)

pub none_checked : {R : Type 0} (error : ExportError R) → is_export_defect (after_check error) ≡ false
none_checked (Walk (Defect d)) = refl
none_checked (Walk (Source refusal)) = refl
none_checked (Walk OutOfMemory) = refl
none_checked OutputFault = refl

abbrev failed : {R : Type 0} → ExportError R → Result ℕ (ExportError R)
failed error = Err error

pub output_checked : {R : Type 0} (error checked : ExportError R) → checked ≡ after_check error → failed checked ≡ Err OutputFault → failed error ≡ Err OutputFault
output_checked (Walk (Defect d)) checked same is = cc
output_checked (Walk (Source refusal)) checked same is = cc
output_checked (Walk OutOfMemory) checked same is = cc
output_checked OutputFault checked same is = refl

-- what stops after the check is a stop of the earliest part too
pub earliest : {R A : Type 0} (refuses : Pages → ℕ → R → Type 0) (before middle : Pages) (tells : Type 0) (result : Result A (ExportError R)) → (tells → middle ≡ before)
    → IfErr result (IfWalk (λ error. tells → IsLateWalk refuses middle error)) → IfErr result (IfWalk (λ error. tells → IsEarliest refuses before (parts before) error))
earliest refuses before middle tells (Ok value) same late = tt
earliest refuses before middle tells (Err (Walk (Defect d))) same late = λ told. absurd (late told)
earliest refuses before middle tells (Err (Walk (Source refusal))) same late = λ told.
    subst (λ p. IsEarliest refuses p (parts p) (Source refusal)) (same told) (late told)
earliest refuses before middle tells (Err (Walk OutOfMemory)) same late = λ told. tt
earliest refuses before middle tells (Err OutputFault) same late = tt
