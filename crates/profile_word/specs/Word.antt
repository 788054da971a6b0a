-- Words of the command line that name profiles: a version, and settings behind colons, in any order, each name at most once.
--
-- word    = version {":" setting}            version = "1" | "2" | "3" | "4" | "plain"
--
-- What a word does not give is the version's; no version has a plain header or a key line in hex by itself. A plain header is given only where
-- pages have tags. A plain file has no setting but the size, which has to be given, and `wal`.
use Rattle.std.specs.Prelude.{ℕ, ◌==◌, ◌&&◌, ◌||◌, nat_le, nat_lt, not, Bool, true, List, [], ◌∷◌, length, filter, filter_map, is_some, Option, Some, None, codes, if◌then◌else◌, slice_get}
use Rattle.std.specs.Option.{is_none, option_and_then, option_map, unwrap_or}
use Rattle.std.specs.Str.{bytes_eq}
use Rattle.cipher_profile.specs.declared.profile.HashKind.{HashKind}
use Rattle.cipher_profile.specs.declared.profile.Profile.{Profile}
use Rattle.profile_word.specs.declared.word.Settings.{Settings}
use Rattle.profile_word.specs.declared.setting.Setting.{Setting}
use Rattle.profile_word.specs.declared.setting.Setting.TheVariants.{Size, Rounds, Kdf, Hmac, PlainHeader, HexKey, Wal}
use Rattle.profile_word.specs.declared.setting.Tags.{Tags}
use Rattle.profile_word.specs.declared.setting.Tags.TheVariants.{Off, With}
use Rattle.cipher_profile.specs.Hashes.{digest_len}
use Rattle.cipher_profile.specs.Profile.{plain_of, reserve_for, set_log, sqlcipher_1, sqlcipher_2, sqlcipher_3, sqlcipher_4}
use Rattle.profile_word.specs.Parts.{parts}
use Rattle.profile_word.specs.Setting.{is_hex, is_wal, kdf_of, plain_header_of, rounds_of, setting_named, size_of, tags_of}

-- ---- the settings of a word

-- the settings that the parts name, where each of them names one
abbrev pub all_named : List (List ℕ) → Option (List Setting)
all_named [] = Some []
all_named (part ∷ later) = option_and_then (λ setting. option_map (λ others. setting ∷ others) (all_named later)) (setting_named part)

-- no more than one value
abbrev pub at_most_one : {T : Type 0} → List T → Bool
at_most_one values = nat_le (length values) 1

-- each name is given at most once
abbrev pub are_apart : List Setting → Bool
are_apart given =
    at_most_one (filter_map size_of given) && at_most_one (filter_map rounds_of given) && at_most_one (filter_map kdf_of given)
    && at_most_one (filter_map tags_of given) && at_most_one (filter_map plain_header_of given) && at_most_one (filter is_hex given)
    && at_most_one (filter is_wal given)

-- what is given under each name
abbrev pub gathered : List Setting → Settings
gathered given = record {
  size = slice_get (filter_map size_of given) 0;
  rounds = slice_get (filter_map rounds_of given) 0;
  kdf = slice_get (filter_map kdf_of given) 0;
  tags = slice_get (filter_map tags_of given) 0;
  plain_header = slice_get (filter_map plain_header_of given) 0;
  hex_key = is_some (slice_get (filter is_hex given) 0);
  reads_log = is_some (slice_get (filter is_wal given) 0);
}

abbrev pub gathered_apart : List Setting → Option Settings
gathered_apart given = if are_apart given then Some (gathered given) else None

-- the settings that these parts give
abbrev pub settings_of : List (List ℕ) → Option Settings
settings_of later = option_and_then gathered_apart (all_named later)

-- ---- the profile

abbrev pub is_size : ℕ → Bool
is_size size =
    size == 1024 || size == 2048 || size == 4096 || size == 8192 || size == 16384 || size == 32768 || size == 65536

-- rounds are at least one, and no more than the product's own number for them holds
abbrev pub are_rounds : ℕ → Bool
are_rounds n = nat_le 1 n && nat_le n 2147483647

-- a plain header is whole blocks of the cipher, one at least, and no more than the database's own header has
abbrev pub is_header : ℕ → Bool
is_header n = n == 16 || n == 32 || n == 48 || n == 64 || n == 80 || n == 96

-- whether a word may give this beside tags of this length: a plain header only where there are tags
abbrev pub takes_header : ℕ → Option ℕ → Bool
takes_header tag_len None = true
takes_header tag_len (Some n) = nat_lt 0 tag_len && is_header n

abbrev pub version_named : List ℕ → Option Profile
version_named word =
    if bytes_eq word (codes "1") then Some sqlcipher_1
    else (if bytes_eq word (codes "2") then Some sqlcipher_2
    else (if bytes_eq word (codes "3") then Some sqlcipher_3
    else (if bytes_eq word (codes "4") then Some sqlcipher_4 else None)))

-- the hash of the tags and their length, where a word says so, or as the version has them
abbrev pub tags_hash : Profile → Option Tags → HashKind
tags_hash base None = base.hash
tags_hash base (Some Off) = base.hash
tags_hash base (Some (With hash)) = hash

abbrev pub tags_len : Profile → Option Tags → ℕ
tags_len base None = base.tag_len
tags_len base (Some Off) = 0
tags_len base (Some (With hash)) = digest_len hash

-- a version with these settings
abbrev pub version_with : Profile → Settings → Option Profile
version_with base s =
    if is_size (unwrap_or s.size base.page_size) && are_rounds (unwrap_or s.rounds base.rounds) && takes_header (tags_len base s.tags) s.plain_header
    then Some (record {
      version = base.version;
      page_size = unwrap_or s.size base.page_size;
      reserve = reserve_for (tags_len base s.tags);
      hash = tags_hash base s.tags;
      kdf = unwrap_or s.kdf base.kdf;
      rounds = unwrap_or s.rounds base.rounds;
      tag_len = tags_len base s.tags;
      plain_header = unwrap_or s.plain_header 0;
      hex_key = s.hex_key;
      reads_log = s.reads_log;
    }) else None

-- a plain file with pages of this size
abbrev pub plain_sized : Bool → ℕ → Option Profile
plain_sized reads_log size = if size == 512 || is_size size then Some (set_log reads_log (plain_of size)) else None

abbrev pub plain_with : Settings → Option Profile
plain_with s =
    if is_none s.rounds && is_none s.kdf && is_none s.tags && is_none s.plain_header && not s.hex_key
    then option_and_then (plain_sized s.reads_log) s.size else None

-- what the first part names, with the settings of the others
unfoldable pub profile_from : List ℕ → Settings → Option Profile
profile_from version s =
    if bytes_eq version (codes "plain") then plain_with s else option_and_then (λ base. version_with base s) (version_named version)

abbrev pub profile_of_parts : List (List ℕ) → Option Profile
profile_of_parts [] = None
profile_of_parts (version ∷ later) = option_and_then (profile_from version) (settings_of later)

-- the profile that a word names. Every one is listed (`named_listed`)
unfoldable pub profile_named : List ℕ → Option Profile
profile_named word = profile_of_parts (parts word)

-- and only such a profile whose file is not read with its log
abbrev pub without_log_setting : Profile → Option Profile
without_log_setting profile = if profile.reads_log then None else Some profile

unfoldable pub named_without_log : List ℕ → Option Profile
named_without_log word = option_and_then without_log_setting (profile_named word)

-- ---- one setting more, which has not been given yet

abbrev pub with_size : Settings → ℕ → Option Settings
with_size s n =
    if is_none s.size
    then Some (record { size = Some n; rounds = s.rounds; kdf = s.kdf; tags = s.tags; plain_header = s.plain_header; hex_key = s.hex_key; reads_log = s.reads_log }) else None

abbrev pub with_rounds : Settings → ℕ → Option Settings
with_rounds s n =
    if is_none s.rounds
    then Some (record { size = s.size; rounds = Some n; kdf = s.kdf; tags = s.tags; plain_header = s.plain_header; hex_key = s.hex_key; reads_log = s.reads_log }) else None

abbrev pub with_kdf : Settings → HashKind → Option Settings
with_kdf s hash =
    if is_none s.kdf
    then Some (record { size = s.size; rounds = s.rounds; kdf = Some hash; tags = s.tags; plain_header = s.plain_header; hex_key = s.hex_key; reads_log = s.reads_log }) else None

abbrev pub with_tags : Settings → Tags → Option Settings
with_tags s tags =
    if is_none s.tags
    then Some (record { size = s.size; rounds = s.rounds; kdf = s.kdf; tags = Some tags; plain_header = s.plain_header; hex_key = s.hex_key; reads_log = s.reads_log }) else None

abbrev pub with_plain_header : Settings → ℕ → Option Settings
with_plain_header s n =
    if is_none s.plain_header
    then Some (record { size = s.size; rounds = s.rounds; kdf = s.kdf; tags = s.tags; plain_header = Some n; hex_key = s.hex_key; reads_log = s.reads_log }) else None

abbrev pub with_hex_key : Settings → Option Settings
with_hex_key s =
    if s.hex_key then None
    else Some (record { size = s.size; rounds = s.rounds; kdf = s.kdf; tags = s.tags; plain_header = s.plain_header; hex_key = true; reads_log = s.reads_log })

abbrev pub with_wal : Settings → Option Settings
with_wal s =
    if s.reads_log then None
    else Some (record { size = s.size; rounds = s.rounds; kdf = s.kdf; tags = s.tags; plain_header = s.plain_header; hex_key = s.hex_key; reads_log = true })

abbrev pub with_setting : Settings → Setting → Option Settings
with_setting s (Size n) = with_size s n
with_setting s (Rounds n) = with_rounds s n
with_setting s (Kdf hash) = with_kdf s hash
with_setting s (Hmac tags) = with_tags s tags
with_setting s (PlainHeader n) = with_plain_header s n
with_setting s HexKey = with_hex_key s
with_setting s Wal = with_wal s
