-- What a commit writes, as a plan.
use Rattle.std.proofs.Common.{◌≡◌, ◌≢◌, inl, ℕ, ◌+◌, ◌==◌, ◌||◌, Bool, true, false, IsTrue, List, [], ◌++◌, length, take, drop, replicate, append-nil, Option, Some, None, is_some, Result, Ok, Err, if◌then◌else◌, refl, sym, ap, ◌∙◌, arith}
use Rattle.std.specs.Bool.{beq}
use Rattle.std.specs.Prelude.{IfErr, OnOk, not}
use Rattle.std.proofs.lemmas.List.{drop_all, length-replicate}
use Rattle.std.proofs.lemmas.Bool.{eqb-true}
use Rattle.cipher_profile.specs.Profile.{is_clear}
use Rattle.cipher_profile.specs.declared.profile.Profile.{Profile}
use Rattle.page_codec.specs.Page.{FileKeys}
use Rattle.page_plan.specs.Stops.{is_begun, is_fault}
use Rattle.page_plan.specs.declared.error.WriteError.{WriteError}
use Rattle.page_plan.specs.declared.error.WriteError.TheVariants.{LayoutDiffers, OutOfMemory as WriteMemory, TagRefused as PageRefused, DiskFault as WriteDisk, EntropyFault as WriteEntropy}
use Rattle.pager.specs.Changed.{with_bytes}
use Rattle.session_hall.specs.Commit.{put_change}
use Rattle.session_hall.specs.Machine.{is_sealed}
use Rattle.session_hall.specs.Session.{Session, change_of}
use Rattle.session_hall.specs.Writing.{IsChangeAnswer, write_answer}
use Rattle.session_hall.specs.declared.step.Answer.TheVariants.{OutOfMemory, EntropyFault}
use Rattle.atomic_commit.specs.Commit.{LeavesChanged}
use Rattle.atomic_commit.specs.Database.{Base, HoldsOld}
use Rattle.atomic_commit.proofs.Behind.{changed_weaker}
use Rattle.edge_model.specs.Files.{Files}
use Rattle.edge_model.specs.Images.{LeavesOnly}

-- ---- one page

-- page 1: the changed part, as it is cut out of the changed page
pub put_first : (n : ℕ) (bytes changed page : List ℕ) → n ≡ 1 → bytes ≡ drop 100 changed → put_change n (Some changed) page ≡ with_bytes 100 bytes page
put_first n bytes changed page first cut =
    ap (λ (k : ℕ). if k == 1 then with_bytes 100 (drop 100 changed) page else changed) first
    ∙ ap (λ (l : List ℕ). with_bytes 100 l page) (sym cut)

-- every other one: the changed page, over zeros
pub put_whole : (n : ℕ) (changed page : List ℕ) → n ≢ 1 → put_change n (Some changed) page ≡ with_bytes 0 changed (replicate (length changed) 0)
put_whole n changed page other =
    ap (λ (b : Bool). if b then with_bytes 100 (drop 100 changed) page else changed) (by_number (n == 1) refl)
    ∙ sym (over_zeros changed)
  where
    by_number : (b : Bool) → (n == 1) ≡ b → (n == 1) ≡ false
    by_number true same = absurd (other (eqb-true n 1 same))
    by_number false is = is

    over_zeros : (page : List ℕ) → with_bytes 0 page (replicate (length page) 0) ≡ page
    over_zeros page =
        ap (λ (l : List ℕ). take 0 (replicate (length page) 0) ++ (page ++ l)) (drop_all (0 + length page) (replicate (length page) 0) (omega (arith, length-replicate {A = ℕ} (length page) 0)))
        ∙ append-nil page

or_true : (a b : Bool) → b ≡ true → (a || b) ≡ true
or_true true b is = refl
or_true false b is = is

pub changed_sealed : (session : Session) (n : ℕ) (page : List ℕ) → change_of n session.changes ≡ Some page → is_sealed session n ≡ true
changed_sealed session n page is = or_true (is_some session.new_access) (is_some (change_of n session.changes)) (ap is_some is)

pub rekeyed_sealed : (session : Session) (n : ℕ) → is_some session.new_access ≡ true → is_sealed session n ≡ true
rekeyed_sealed session n is = ap (λ (b : Bool). b || is_some (change_of n session.changes)) is

pub unsealed : (session : Session) (n : ℕ) → is_some session.new_access ≡ false → change_of n session.changes ≡ None → is_sealed session n ≡ false
unsealed session n no_key none = ap (λ (b : Bool). b || is_some (change_of n session.changes)) no_key ∙ ap is_some none

-- files that were found to begin alike do
pub begin_alike : (read write : FileKeys) (old new : Profile) (was is : Bool) → old ≡ read.profile → new ≡ write.profile → was ≡ is_clear old → is ≡ is_clear new → not (beq was is) ≡ false
    → is_clear write.profile ≡ is_clear read.profile
begin_alike read write old new was is one other first second same =
    sym (second ∙ ap (λ (p : Profile). is_clear p) other) ∙ sym (equal was is same) ∙ (first ∙ ap (λ (p : Profile). is_clear p) one)
  where
    equal : (a b : Bool) → not (beq a b) ≡ false → a ≡ b
    equal true true same = refl
    equal false false same = refl
    equal true false same = cc
    equal false true same = cc

-- ---- results

-- where a plan was begun and the disk tells, a call failed
pub change_stop : (tells : Bool) (error : WriteError) → (is_begun error ≡ true → IsTrue tells → is_fault error ≡ true) → IsTrue tells → IsChangeAnswer (write_answer error)
change_stop tells LayoutDiffers fault told = tt
change_stop tells WriteMemory fault told = tt
change_stop tells (PageRefused page) fault told = let no : false ≡ true = fault refl told in cc
change_stop tells WriteDisk fault told = tt
change_stop tells WriteEntropy fault told = tt

-- which error of the plan it was
pub was_memory : (error : WriteError) → write_answer error ≡ OutOfMemory → is_begun error ≡ false
was_memory LayoutDiffers is = refl
was_memory WriteMemory is = refl
was_memory (PageRefused page) is = cc
was_memory WriteDisk is = cc
was_memory WriteEntropy is = cc

pub was_entropy : (error : WriteError) → write_answer error ≡ EntropyFault → error ≡ WriteEntropy
was_entropy LayoutDiffers is = cc
was_entropy WriteMemory is = cc
was_entropy (PageRefused page) is = cc
was_entropy WriteDisk is = cc
was_entropy WriteEntropy is = refl

-- a plan that was written is under a codec of the same layout
pub layout_of : (b : Bool) (r : Result (Unit {0}) WriteError) (t : Unit {0}) → r ≡ Ok t → (b ≡ false → r ≡ Err LayoutDiffers) → b ≡ true
layout_of true r t is differs = refl
layout_of false r t is differs = let no : ◌≡◌ {A = Result (Unit {0}) WriteError} (Ok t) (Err LayoutDiffers) = sym is ∙ differs refl in cc

-- under another one nothing was written
pub written_moments : {D : Type 0} {moment : D → ℕ} {since : D → ℕ → Files → Type 0} {base : Base} {P Q : List ℕ → Type 0} {old new : D} (same : Bool)
    → (same ≡ true → (main : List ℕ) → P main → Q main) → (same ≡ false → LeavesOnly moment since old new (HoldsOld base))
    → LeavesChanged moment since base P old new → LeavesChanged moment since base Q old new
written_moments true gives still run = changed_weaker (gives refl) run
written_moments false gives still run = inl (still refl)

pub ok_at : {T E A : Type 0} (r : Result T E) (t : T) → r ≡ Ok t → OnOk r A → A
ok_at (Ok x) t is a = a
ok_at (Err e) t is a = cc

pub err_same : {T E : Type 0} (a b : E) → ◌≡◌ {A = Result T E} (Err a) (Err b) → a ≡ b
err_same a b is = cc

pub err_case : {T E : Type 0} (P Q : E → Type 0) (r : Result T E) → ((e : E) → r ≡ Err e → P e → Q e) → IfErr r P → IfErr r Q
err_case P Q (Ok x) gives p = p
err_case P Q (Err e) gives p = gives e refl p

pub ok_both : {T E : Type 0} {A B C : Type 0} (r : Result T E) → (A → B → C) → OnOk r A → OnOk r B → OnOk r C
ok_both (Ok x) gives a b = gives a b
ok_both (Err e) gives a b = a
