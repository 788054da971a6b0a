-- The word of a profile.
use Rattle.std.specs.Prelude.{ℕ, ◌==◌, ◌&&◌, Bool, true, false, List, [], ◌++◌, codes, decimal, if◌then◌else◌}
use Rattle.cipher_profile.specs.declared.profile.HashKind.{HashKind}
use Rattle.cipher_profile.specs.declared.profile.HashKind.TheVariants.{Sha1, Sha256, Sha512}
use Rattle.cipher_profile.specs.declared.profile.Profile.{Profile}
use Rattle.cipher_profile.specs.Profile.{sqlcipher_1, sqlcipher_2, sqlcipher_3, sqlcipher_4}

abbrev pub hash_word : HashKind → List ℕ
hash_word Sha1 = codes "sha1"
hash_word Sha256 = codes "sha256"
hash_word Sha512 = codes "sha512"

abbrev pub same_hash : HashKind → HashKind → Bool
same_hash Sha1 Sha1 = true
same_hash Sha1 Sha256 = false
same_hash Sha1 Sha512 = false
same_hash Sha256 Sha1 = false
same_hash Sha256 Sha256 = true
same_hash Sha256 Sha512 = false
same_hash Sha512 Sha1 = false
same_hash Sha512 Sha256 = false
same_hash Sha512 Sha512 = true

-- the version as it is by itself
abbrev pub version_base : ℕ → Profile
version_base version =
    if version == 1 then sqlcipher_1
    else (if version == 2 then sqlcipher_2
    else (if version == 3 then sqlcipher_3 else sqlcipher_4))

-- the settings in which an encrypted profile differs from this one, its version
abbrev pub size_text : Profile → Profile → List ℕ
size_text base profile = if profile.page_size == base.page_size then [] else codes ":" ++ decimal profile.page_size

abbrev pub rounds_text : Profile → Profile → List ℕ
rounds_text base profile = if profile.rounds == base.rounds then [] else codes ":rounds=" ++ decimal profile.rounds

abbrev pub kdf_text : Profile → Profile → List ℕ
kdf_text base profile = if same_hash profile.kdf base.kdf then [] else codes ":kdf=" ++ hash_word profile.kdf

abbrev pub tags_text : Profile → Profile → List ℕ
tags_text base profile =
    if profile.tag_len == base.tag_len && same_hash profile.hash base.hash then []
    else (if profile.tag_len == 0 then codes ":hmac=off" else codes ":hmac=" ++ hash_word profile.hash)

-- how much of page 1 stands in the clear, and how the key line has the passphrase
abbrev pub header_text : Profile → List ℕ
header_text profile = if profile.plain_header == 0 then [] else codes ":plain-header=" ++ decimal profile.plain_header

abbrev pub key_text : Profile → List ℕ
key_text profile = if profile.hex_key then codes ":key=hex" else []

abbrev pub log_text : Profile → List ℕ
log_text profile = if profile.reads_log then codes ":wal" else []

abbrev pub version_text : Profile → List ℕ
version_text profile =
    let base = version_base profile.version in
    decimal profile.version ++ (size_text base profile ++ (rounds_text base profile ++ (kdf_text base profile
    ++ (tags_text base profile ++ (header_text profile ++ key_text profile)))))

-- the word of a profile: its version, and what is not as the version has it by itself; of a plain file the size
abbrev pub word_of : Profile → List ℕ
word_of profile =
    (if profile.version == 0 then codes "plain:" ++ decimal profile.page_size else version_text profile) ++ log_text profile
