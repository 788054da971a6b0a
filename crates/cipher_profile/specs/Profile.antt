-- Profiles: the page layouts and key derivations of SQLCipher's versions (SQLCipher API, "cipher_compatibility") with settings of
-- their own (the same, "cipher_page_size", "kdf_iter", "cipher_kdf_algorithm", "cipher_hmac_algorithm", "cipher_use_hmac",
-- "cipher_plaintext_header_size"), and plain files
-- of SQLite.
use Rattle.std.specs.Prelude.{◌≡◌, ◌⊎◌, ◌≤◌, ℕ, ◌+◌, ◌-◌, ◌*◌, ◌/◌, ◌%◌, ◌<◌, ◌==◌, ◌||◌, nat_lt, Bool, true, false, Option, Some, None, if◌then◌else◌}
use Rattle.cipher_profile.specs.declared.profile.LineForm.{LineForm}
use Rattle.cipher_profile.specs.declared.profile.Profile.{Profile}
use Rattle.cipher_profile.specs.declared.profile.HashKind.TheVariants.{Sha1, Sha512}
use Rattle.cipher_profile.specs.Hashes.{digest_len}

-- compatibility 1: pages of 1,024 bytes without a tag
abbrev pub sqlcipher_1 : Profile
sqlcipher_1 = record { version = 1; page_size = 1024; reserve = 16; hash = Sha1; kdf = Sha1; rounds = 4000; tag_len = 0; plain_header = 0; hex_key = false; reads_log = false }

-- compatibility 2: HMAC-SHA-1, PBKDF2 with 4,000 rounds
abbrev pub sqlcipher_2 : Profile
sqlcipher_2 = record { version = 2; page_size = 1024; reserve = 48; hash = Sha1; kdf = Sha1; rounds = 4000; tag_len = 20; plain_header = 0; hex_key = false; reads_log = false }

-- compatibility 3: as 2, with 64,000 rounds
abbrev pub sqlcipher_3 : Profile
sqlcipher_3 = record { version = 3; page_size = 1024; reserve = 48; hash = Sha1; kdf = Sha1; rounds = 64000; tag_len = 20; plain_header = 0; hex_key = false; reads_log = false }

-- compatibility 4 with pages of this size (SQLCipher API, "cipher_page_size"): HMAC-SHA-512, PBKDF2 with 256,000 rounds
abbrev pub sqlcipher_4_of : ℕ → Profile
sqlcipher_4_of size = record { version = 4; page_size = size; reserve = 80; hash = Sha512; kdf = Sha512; rounds = 256000; tag_len = 64; plain_header = 0; hex_key = false; reads_log = false }

-- and as it is by itself: pages of 4,096 bytes
abbrev pub sqlcipher_4 : Profile
sqlcipher_4 = sqlcipher_4_of 4096

-- the sizes of encrypted pages, in bytes: from 1,024 on, since pages of 512 with a tag would have too few bytes for content
abbrev pub IsSize : ℕ → Type 0
IsSize size =
    (size ≡ 1024) ⊎ (size ≡ 2048) ⊎ (size ≡ 4096) ⊎ (size ≡ 8192) ⊎ (size ≡ 16384) ⊎ (size ≡ 32768) ⊎ (size ≡ 65536)

-- a plain file with pages of this size: nothing of a page is reserved, and the hashes and their rounds serve nothing
abbrev pub plain_of : ℕ → Profile
plain_of size = record { version = 0; page_size = size; reserve = 0; hash = Sha1; kdf = Sha1; rounds = 1; tag_len = 0; plain_header = 0; hex_key = false; reads_log = false }

-- the sizes of pages that SQLite knows, in bytes (SQLite file format, 1.3.2)
abbrev pub IsPlainSize : ℕ → Type 0
IsPlainSize size = (size ≡ 512) ⊎ IsSize size

-- whether files of this profile are plain: nothing in them is encrypted
abbrev pub is_plain : Profile → Bool
is_plain profile = profile.version == 0

-- a profile with this setting: whether a file is read with its log, and only read
abbrev pub set_log : Bool → Profile → Profile
set_log reads profile = record {
  version = profile.version;
  page_size = profile.page_size;
  reserve = profile.reserve;
  hash = profile.hash;
  kdf = profile.kdf;
  rounds = profile.rounds;
  tag_len = profile.tag_len;
  plain_header = profile.plain_header;
  hex_key = profile.hex_key;
  reads_log = reads;
}

-- with it, and without
abbrev pub with_log : Profile → Profile
with_log profile = set_log true profile

abbrev pub without_log : Profile → Profile
without_log profile = set_log false profile

-- what an IV and a tag of this length take of a page: whole blocks of the cipher
abbrev pub reserve_for : ℕ → ℕ
reserve_for tag_len = (tag_len + 31) / 16 * 16

-- the first bytes of page 1 stand in the clear (SQLCipher API, "cipher_plaintext_header_size"): whole blocks of the cipher, no more than the
-- database's own header, and only where a tag tells whether the key fits
pub record IsPlainHeader (profile : Profile) : Type 0 where
  pub tagged : 0 < profile.tag_len
  pub blocks : profile.plain_header % 16 ≡ 0
  pub some : 16 ≤ profile.plain_header
  pub most : profile.plain_header ≤ 96

-- whether page 1 begins as it is stored, with the magic: in a plain file, and where there is a plain header
abbrev pub is_clear : Profile → Bool
is_clear profile = profile.version == 0 || nat_lt 0 profile.plain_header

-- what the key line of a file holds: of a plain one there is none; the salt comes with the key where page 1 does not begin with it
abbrev pub form_of : Profile → Option LineForm
form_of profile = if is_plain profile then None else Some (record { hex = profile.hex_key; salted = nat_lt 0 profile.plain_header })

-- an encrypted file: a version, whose settings may be others. Its pages have no tag, or the whole HMAC
pub record IsEncrypted (profile : Profile) : Type 0 where
  pub version : 1 ≤ profile.version
  pub size : IsSize profile.page_size
  pub rounds : 1 ≤ profile.rounds
  pub tags : (profile.tag_len ≡ 0) ⊎ (profile.tag_len ≡ digest_len profile.hash)
  pub reserve : profile.reserve ≡ reserve_for profile.tag_len
  pub header : (profile.plain_header ≡ 0) ⊎ IsPlainHeader profile

-- one of the profiles, read with the log or without. What holds of each of them is in `IsLaidOut`
unfoldable pub IsListed : Profile → Type 0
IsListed profile = IsEncrypted profile ⊎ (IsPlainSize profile.page_size × (without_log profile ≡ plain_of profile.page_size))

-- U: how many bytes of a stored page hold content
abbrev pub usable : Profile → ℕ
usable profile = profile.page_size - profile.reserve

-- how the lengths of a profile go together: an encrypted page has room for its content, an IV and a tag, and both are whole blocks of
-- the cipher, of which page 1 gives the first to the salt, or some to its plain header; a plain page is all content
pub record IsLaidOut (profile : Profile) : Type 0 where
  pub sizes : IsPlainSize profile.page_size
  pub least : 512 ≤ profile.page_size
  pub most : profile.page_size ≤ 65536
  pub content : 480 ≤ usable profile
  pub roomy : 512 ≤ usable profile
  pub reserve : profile.reserve ≤ 255
  pub whole : usable profile + profile.reserve ≡ profile.page_size
  pub room : is_plain profile ≡ false → usable profile + 16 + profile.tag_len ≤ profile.page_size
  pub unreserved : is_plain profile ≡ true → profile.reserve ≡ 0
  pub blocks : usable profile % 16 ≡ 0
  pub stride : profile.page_size % 16 ≡ 0
  pub salt : 16 ≤ usable profile
  pub tag : profile.tag_len ≤ digest_len profile.hash
  pub tagged : 0 < profile.tag_len → is_plain profile ≡ false
  pub rounds : 1 ≤ profile.rounds
  pub header_blocks : profile.plain_header % 16 ≡ 0
  pub header_some : 0 < profile.plain_header → 16 ≤ profile.plain_header
  pub header_most : profile.plain_header ≤ 96
  pub header_tagged : 0 < profile.plain_header → 0 < profile.tag_len
