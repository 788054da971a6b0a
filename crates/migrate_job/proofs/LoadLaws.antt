-- Rows that are pushed one after another.
use Rattle.std.proofs.Common.{◌≡◌, ◌≤◌, ◌^◌, ℕ, Bool, true, false, List, [], Result, Ok, Err, inl, inr, ap, refl, subst, ◌∙◌}
use Rattle.std.specs.Prelude.{OnErr}
use Rattle.db_format.specs.Pages.{Pages, Test}
use Rattle.btree_page.specs.declared.kind.Family.TheVariants.{Table}
use Rattle.btree_model.specs.Content.{Entry}
use Rattle.bulk_load.specs.Few.{TookFew}
use Rattle.bulk_load.specs.Loader.{IsLoader, Loaded, family_of_loader}
use Rattle.bulk_load.specs.Out.{Faults, Follows, HasCause, HasEndCause, is_load_refusal}
use Rattle.bulk_load.specs.Own.{Covers, only}
use Rattle.bulk_load.specs.declared.error.LoadError.{LoadError}
use Rattle.bulk_load.specs.declared.error.LoadError.TheVariants.{RowidOrder, Out, OutOfMemory, TooDeep}
use Rattle.bulk_load.specs.declared.loader.Loader.{Loader}
use Rattle.bulk_load.specs.declared.out.OutError.{OutError}
use Rattle.bulk_load.specs.declared.out.OutError.TheVariants.{TooManyPages, DiskFault, EntropyFault}
use Rattle.migrate_job.specs.Copied.{HasRowsCause}
use Rattle.migrate_job.specs.declared.rows.RowsError.{RowsError}
use Rattle.migrate_job.specs.declared.rows.RowsError.TheVariants.{TooLong, Load}
use Rattle.migrate_job.proofs.CopyLaws.{rose_since}

-- these entries were pushed, and this is known of them
pub record AreLoaded {S : Type 0} (pages : S → Pages) (limit : S → ℕ) (faults : S → Faults) (well : ℕ → S → Type 0) (only_fresh : S → S → Type 0)
    (old new : S) (before after : Loader) (pushed : List Entry) (known : Type 0) : Type 0 where
  pub loaded : (start : ℕ) → well start old → (own : Test) → Covers false own (pages old) (pages new)
      → Loaded (only own (pages old)) before [] → Loaded (only own (pages new)) after pushed
  pub few : (from : ℕ) → TookFew Table (pages old).usable from [] (pages old).count before → TookFew Table (pages old).usable from pushed (pages new).count after
  pub ready : IsLoader after (pages new).usable
  pub family : family_of_loader after ≡ Table
  pub at_one : after.at_one ≡ before.at_one
  pub follows : Follows pages limit faults well false old new
  pub fresh : only_fresh old new
  pub knows : known

-- what holds anyway holds after an error
pub on_any_err : {A E P : Type 0} (result : Result A E) → P → OnErr result P
on_any_err (Ok value) holds = tt
on_any_err (Err error) holds = holds

-- the error of a load that is told of the rows
pub is_refused : (error : LoadError) (limit : ℕ) → Load error ≡ Load (Out (TooManyPages limit)) → is_load_refusal error ≡ true
is_refused error limit is = ap refusal is
  where
    refusal : RowsError → Bool
    refusal TooLong = false
    refusal (Load why) = is_load_refusal why

-- why the end of a tree failed is why its rows were not loaded, also since an earlier state
pub cause_since : {S : Type 0} (pages : S → Pages) (limit : S → ℕ) (faults : S → Faults) (old mid new : S) (error : LoadError) → limit mid ≡ limit old
    → (faults old).disk ≤ (faults mid).disk → (faults old).entropy ≤ (faults mid).entropy → HasEndCause pages limit faults mid new error
    → (error ≡ TooDeep → 2 ^ 28 ≤ (pages new).count) → HasRowsCause pages limit faults old new (Load error)
cause_since pages limit faults old mid new RowidOrder same disk entropy cause deep = tt
cause_since pages limit faults old mid new (Out (TooManyPages n)) same disk entropy (inl is) deep = cc
cause_since pages limit faults old mid new (Out (TooManyPages n)) same disk entropy (inr at) deep = (at.0 ∙ same, subst (λ m. m ≤ (pages new).count) same at.1)
cause_since pages limit faults old mid new (Out DiskFault) same disk entropy (inl is) deep = cc
cause_since pages limit faults old mid new (Out DiskFault) same disk entropy (inr rose) deep = rose_since _ _ _ disk rose
cause_since pages limit faults old mid new (Out EntropyFault) same disk entropy (inl is) deep = cc
cause_since pages limit faults old mid new (Out EntropyFault) same disk entropy (inr rose) deep = rose_since _ _ _ entropy rose
cause_since pages limit faults old mid new OutOfMemory same disk entropy cause deep = tt
cause_since pages limit faults old mid new TooDeep same disk entropy cause deep = deep refl

-- and why an entry was not pushed
pub push_cause : {S A : Type 0} (pages : S → Pages) (limit : S → ℕ) (faults : S → Faults) (old new : S) (error : LoadError)
    → ((why : OutError) → ◌≡◌ {A = Result A LoadError} (Err error) (Err (Out why)) → HasCause pages limit faults old new why)
    → (◌≡◌ {A = Result A LoadError} (Err error) (Err TooDeep) → ⊥) → HasRowsCause pages limit faults old new (Load error)
push_cause pages limit faults old new RowidOrder cause flat = tt
push_cause pages limit faults old new (Out why) cause flat = cause why refl
push_cause pages limit faults old new OutOfMemory cause flat = tt
push_cause pages limit faults old new TooDeep cause flat = absurd (flat refl)

-- a tree was too deep only where there are 2^28 pages
pub rows_deep : {S : Type 0} (pages : S → Pages) (limit : S → ℕ) (faults : S → Faults) (old new : S) (error : RowsError)
    → HasRowsCause pages limit faults old new error → error ≡ Load TooDeep → 2 ^ 28 ≤ (pages new).count
rows_deep pages limit faults old new error cause is = subst (λ e. HasRowsCause pages limit faults old new e) is cause
