-- Why a load fails, and why not.
use Rattle.std.proofs.Common.{◌≡◌, ℕ, inl, inr, subst}
use Rattle.db_format.specs.Pages.{Pages}
use Rattle.bulk_load.specs.Out.{Faults, HasEndCause}
use Rattle.bulk_load.specs.declared.error.LoadError.{LoadError}
use Rattle.bulk_load.specs.declared.error.LoadError.TheVariants.{RowidOrder}

-- the end of a tree finds no rowid out of order
pub in_order : {S : Type 0} (pages : S → Pages) (limit : S → ℕ) (faults : S → Faults) (old new : S) (error : LoadError) → HasEndCause pages limit faults old new error
    → error ≡ RowidOrder → ⊥
in_order pages limit faults old new error cause is = never (subst (λ e. HasEndCause pages limit faults old new e) is cause)
  where
    never : HasEndCause pages limit faults old new RowidOrder → ⊥
    never (inl same) = cc
    never (inr h) = h
