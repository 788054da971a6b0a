-- Calls that only read, before and after one that does not.
use Rattle.std.proofs.Common.{inl, inr, ⊎_elim, ℕ, ◌≤◌, arith}
use Rattle.edge_model.specs.Files.{Files}
use Rattle.edge_model.specs.Images.{Follows, SameImages, Passes}

pub same_then : {a b c : Files → Type 0} → SameImages a b → SameImages b c → SameImages a c
same_then first next = record { no_more = λ f now. first.no_more f (next.no_more f now); no_fewer = λ f was. next.no_fewer f (first.no_fewer f was) }

pub follows_same : {step : Files → Files → Type 0} {a b c : Files → Type 0} → SameImages a b → Follows step b c → Follows step a c
follows_same same follows f left = let from = follows f left in (from.0, same.no_more from.0 from.1, from.2)

module _ {D : Type 0} {images : D → Files → Type 0} {moment : D → ℕ} {since : D → ℕ → Files → Type 0} where
  -- calls that only read, and then any
  pub passes_then : (counts_now : (disk : D) (t : ℕ) (c : Files) → t ≤ moment disk → images disk c → since disk t c) {a b c : D}
      → SameImages (images a) (images b) → Passes images moment since a b → Passes images moment since b c → Passes images moment since a c
  passes_then counts_now {a} {b} {c} same first next = record {
    later = omega (arith, first.later, next.later);
    nothing_else = λ t f le left.
        ⊎_elim (λ was. ⊎_elim (λ old. inl old) (λ mid. inl (counts_now a t f le (same.no_more f mid))) (first.nothing_else t f le was)) (λ new. inr new)
        (next.nothing_else t f (omega (arith, le, first.later)) left);
    keeps = λ t f le left. next.keeps t f (omega (arith, le, first.later)) (first.keeps t f le left);
  }

-- the run of what holds the disk
pub held_passes : {D F : Type 0} {images : D → Files → Type 0} {moment : D → ℕ} {since : D → ℕ → Files → Type 0} (inner : F → D) {a b : F}
    → Passes images moment since (inner a) (inner b) → Passes (λ f. images (inner f)) (λ f. moment (inner f)) (λ f. since (inner f)) a b
held_passes inner run = record { later = run.later; nothing_else = run.nothing_else; keeps = run.keeps }
