-- What a contract sees of an `Hmac`.
use Rattle.std.specs.Prelude.{ℕ, List, ◌++◌}
use Rattle.hmac_core.specs.Hmac.{xor_each}
use Rattle.hmac_core.specs.declared.mac.Hmac.{Hmac}

-- the mac has this key block and has taken this message, where `holds` says what its hashers took
pub record HoldsMac {H : Type 0} (holds : H → List ℕ → Type 0) (mac : Hmac H) (k0 message : List ℕ)
    : Type 0 where
  pub inner : holds mac.inner (xor_each 0x36 k0 ++ message)
  pub outer : holds mac.outer (xor_each 0x5c k0)
