-- What a session opens the file with.
use Rattle.std.specs.Prelude.{ℕ, Bool, not, ◌&&◌, List, if◌then◌else◌}
use Rattle.cipher_profile.specs.Profile.{is_clear, is_plain}
use Rattle.cipher_profile.specs.declared.keys.Secret.{Secret}
use Rattle.cipher_profile.specs.declared.keys.Secret.TheVariants.{Raw, Pass, SaltedRaw, SaltedPass, NoKey}
use Rattle.cipher_profile.specs.declared.profile.Profile.{Profile}
use Rattle.page_codec.specs.Page.{FileKeys, keys_of, keys_with_salt, magic}

pub record Access : Type 0 where
  pub profile : Profile
  pub secret : Secret

-- the secret is one for files of the profile: a plain file has no key, every other one has one, and the salt comes with it where the file
-- does not begin with it
abbrev pub is_key_for : Profile → Secret → Bool
is_key_for profile (Raw key) = not (is_clear profile)
is_key_for profile (Pass passphrase) = not (is_clear profile)
is_key_for profile (SaltedRaw key salt) = is_clear profile && not (is_plain profile)
is_key_for profile (SaltedPass passphrase salt) = is_clear profile && not (is_plain profile)
is_key_for profile NoKey = is_plain profile

-- what stands for the salt of a file that begins with these 16 bytes: the magic, where page 1 begins as it is stored
abbrev pub salt_in : Profile → List ℕ → List ℕ
salt_in profile first = if is_clear profile then magic else first

-- its codec for a file that begins with these 16 bytes
abbrev pub codec_at : Access → List ℕ → FileKeys
codec_at access first = keys_with_salt access.profile access.secret (salt_in access.profile first)

-- its codec for this file
abbrev pub codec_of : Access → List ℕ → FileKeys
codec_of access file = keys_of access.profile access.secret file
