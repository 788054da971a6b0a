-- The profiles that a file is tried with where none is named.
use Rattle.std.specs.Prelude.{◌≡◌, ℕ, List, [], ◌∷◌, slice_get, Some, false}
use Rattle.cipher_profile.specs.declared.profile.Profile.{Profile}
use Rattle.cipher_profile.specs.declared.profile.HashKind.TheVariants.{Sha1, Sha512}
use Rattle.cipher_profile.specs.Profile.{sqlcipher_1, sqlcipher_2, sqlcipher_3, sqlcipher_4, sqlcipher_4_of}
use Rattle.profile_word.specs.Word.{profile_named}
use Rattle.profile_word.specs.Wording.{word_of}

-- version 1, 2 and 3 with pages of 4,096 bytes
abbrev pub sqlcipher_1_at_4096 : Profile
sqlcipher_1_at_4096 = record { version = 1; page_size = 4096; reserve = 16; hash = Sha1; kdf = Sha1; rounds = 4000; tag_len = 0; plain_header = 0; hex_key = false; reads_log = false }

abbrev pub sqlcipher_2_at_4096 : Profile
sqlcipher_2_at_4096 = record { version = 2; page_size = 4096; reserve = 48; hash = Sha1; kdf = Sha1; rounds = 4000; tag_len = 20; plain_header = 0; hex_key = false; reads_log = false }

abbrev pub sqlcipher_3_at_4096 : Profile
sqlcipher_3_at_4096 = record { version = 3; page_size = 4096; reserve = 48; hash = Sha1; kdf = Sha1; rounds = 64000; tag_len = 20; plain_header = 0; hex_key = false; reads_log = false }

-- `3:4096:rounds=1`, said to be that of Signal on Android
abbrev pub one_round : Profile
one_round = record { version = 3; page_size = 4096; reserve = 48; hash = Sha1; kdf = Sha1; rounds = 1; tag_len = 20; plain_header = 0; hex_key = false; reads_log = false }

-- `4:rounds=4000:hmac=sha1`, said to be that of QQ NT
abbrev pub short_tags : Profile
short_tags = record { version = 4; page_size = 4096; reserve = 48; hash = Sha1; kdf = Sha512; rounds = 4000; tag_len = 20; plain_header = 0; hex_key = false; reads_log = false }

-- in the order in which they are tried. Those that stretch a passphrase alike stand one behind another
abbrev pub probed_profiles : List Profile
probed_profiles =
    sqlcipher_4 ∷ sqlcipher_4_of 1024 ∷ sqlcipher_4_of 2048 ∷ sqlcipher_4_of 8192 ∷ sqlcipher_4_of 16384
    ∷ sqlcipher_4_of 32768 ∷ sqlcipher_4_of 65536 ∷ sqlcipher_3 ∷ sqlcipher_3_at_4096 ∷ sqlcipher_2 ∷ sqlcipher_2_at_4096
    ∷ sqlcipher_1 ∷ sqlcipher_1_at_4096 ∷ one_round ∷ short_tags ∷ []

-- one of them
pub record IsTried (profile : Profile) : Type 0 where
  pub place : ℕ
  pub there : slice_get probed_profiles place ≡ Some profile

-- the profile is what its word names
abbrev pub IsNamedByItsWord : Profile → Type 0
IsNamedByItsWord profile = profile_named (word_of profile) ≡ Some profile
