-- A call of the open files behind looks, as a call of what holds them.
use Rattle.std.proofs.Common.{inl, inr, ⊎_elim, ℕ, ◌≤◌, Bool, IsTrue, arith}
use Rattle.edge_model.specs.Files.{Files}
use Rattle.edge_model.specs.Images.{Passes}
use Rattle.system_calls.specs.System.{System}
use Rattle.edge_files.specs.Around.{OnlyLooked}

module _ {C D F : Type 0} {tells : Bool} {system : C → System} {images : C → Files → Type 0} {moment : C → ℕ} {since : C → ℕ → Files → Type 0} {next : C → ℕ} where
  pub around_time : (counts_now : (c : C) (t : ℕ) (f : Files) → t ≤ moment c → images c f → since c t f) (calls : D → C) (files : F → D) (old new : F) (mid : D)
      → IsTrue tells → OnlyLooked tells system images moment since next (calls (files old)) (calls mid)
      → Passes (λ d. images (calls d)) (λ d. moment (calls d)) (λ d. since (calls d)) mid (files new)
      → Passes (λ f. images (calls (files f))) (λ f. moment (calls (files f))) (λ f. since (calls (files f))) old new
  around_time counts_now calls files old new mid told looked call = record {
    later = omega (arith, (looked.time told).later, call.later);
    nothing_else = λ t f le left.
        ⊎_elim (λ was. ⊎_elim (λ old. inl old) (λ now. inl (counts_now (calls (files old)) t f le ((looked.crash told).no_more f now))) ((looked.time told).nothing_else t f le was))
        (λ now. inr now) (call.nothing_else t f (omega (arith, le, (looked.time told).later)) left);
    keeps = λ t f le left. call.keeps t f (omega (arith, le, (looked.time told).later)) ((looked.time told).keeps t f le left);
  }
