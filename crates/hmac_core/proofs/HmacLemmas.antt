-- For callers: an HMAC is as long as the hash.
use Rattle.std.proofs.Common.{◌≡◌, ℕ, List, length}
use Rattle.hmac_core.specs.Hmac.{hmac_of_block}

pub length-hmac_of_block : (hash : List ℕ → List ℕ) (out : ℕ) → ((m : List ℕ) → length (hash m) ≡ out)
    → (k0 message : List ℕ) → length (hmac_of_block hash k0 message) ≡ out
unfolding hmac_of_block
length-hmac_of_block hash out sized k0 message = sized _
