-- Page 1 written several times in a transaction.
use Rattle.std.proofs.Common.{◌≡◌, ◌==◌, ℕ, Bool, true, false, List, if◌then◌else◌, refl, ap, ◌∙◌}
use Rattle.std.specs.Int.{w32, to_be_bytes}
use Rattle.pager.specs.Changed.{with_bytes}
use Rattle.sqlcipher_tool.specs.FirstPage.{with_field}

-- a number in its bytes
pub field_of : (at value : ℕ) (bytes plain page : List ℕ) → bytes ≡ to_be_bytes w32 value → page ≡ with_bytes at bytes plain → page ≡ with_field at value plain
field_of at value bytes plain page same is = is ∙ ap (λ (b : List ℕ). with_bytes at b plain) same

-- a page that is changed again
pub again : (m : ℕ) (a b d : Bool) → a ≡ (if m == 1 then true else b) → b ≡ (if m == 1 then true else d) → a ≡ (if m == 1 then true else d)
again m a b d one two = one ∙ ap (λ (b : Bool). if m == 1 then true else b) two ∙ both (m == 1)
  where
    both : (is : Bool) → (if is then true else (if is then true else d)) ≡ (if is then true else d)
    both true = refl
    both false = refl
