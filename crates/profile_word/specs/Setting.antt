-- One setting of a word:
--
-- setting = SIZE | "rounds=" N | "kdf=" hash | "hmac=" (hash | "off") | "plain-header=" N | "key=hex" | "wal"
-- hash    = "sha1" | "sha256" | "sha512"
use Rattle.std.specs.Prelude.{ℕ, Bool, true, false, List, take, Option, Some, None, codes, if◌then◌else◌}
use Rattle.std.specs.Option.{option_map}
use Rattle.std.specs.Str.{bytes_eq}
use Rattle.text_lines.specs.Numbers.{number_named}
use Rattle.cipher_profile.specs.declared.profile.HashKind.{HashKind}
use Rattle.cipher_profile.specs.declared.profile.HashKind.TheVariants.{Sha1, Sha256, Sha512}
use Rattle.profile_word.specs.declared.setting.Setting.{Setting}
use Rattle.profile_word.specs.declared.setting.Setting.TheVariants.{Size, Rounds, Kdf, Hmac, PlainHeader, HexKey, Wal}
use Rattle.profile_word.specs.declared.setting.Tags.{Tags}
use Rattle.profile_word.specs.declared.setting.Tags.TheVariants.{Off, With}
use Rattle.profile_word.specs.Parts.{value_behind}

-- a number of one to ten digits, the first of them no zero
abbrev pub number_of_setting : List ℕ → Option ℕ
number_of_setting word = if bytes_eq (take 1 word) (codes "0") then None else number_named word

abbrev pub hash_named : List ℕ → Option HashKind
hash_named word =
    if bytes_eq word (codes "sha1") then Some Sha1
    else (if bytes_eq word (codes "sha256") then Some Sha256
    else (if bytes_eq word (codes "sha512") then Some Sha512 else None))

abbrev pub tags_named : List ℕ → Option Tags
tags_named word = if bytes_eq word (codes "off") then Some Off else option_map With (hash_named word)

-- what the value gives where the part has this name, or else what another name gives
abbrev pub or_else : Option (List ℕ) → (List ℕ → Option Setting) → Option Setting → Option Setting
or_else None of other = other
or_else (Some value) of other = of value

-- the setting that a part names
unfoldable pub setting_named : List ℕ → Option Setting
setting_named part =
    if bytes_eq part (codes "wal") then Some Wal
    else (if bytes_eq part (codes "key=hex") then Some HexKey
    else or_else (value_behind (codes "rounds=") part) (λ value. option_map Rounds (number_of_setting value))
    (or_else (value_behind (codes "kdf=") part) (λ value. option_map Kdf (hash_named value))
    (or_else (value_behind (codes "hmac=") part) (λ value. option_map Hmac (tags_named value))
    (or_else (value_behind (codes "plain-header=") part) (λ value. option_map PlainHeader (number_of_setting value))
    (option_map Size (number_of_setting part))))))

-- what a setting says under each of the names
abbrev pub size_of : Setting → Option ℕ
size_of (Size n) = Some n
size_of (Rounds n) = None
size_of (Kdf hash) = None
size_of (Hmac tags) = None
size_of (PlainHeader n) = None
size_of HexKey = None
size_of Wal = None

abbrev pub rounds_of : Setting → Option ℕ
rounds_of (Size n) = None
rounds_of (Rounds n) = Some n
rounds_of (Kdf hash) = None
rounds_of (Hmac tags) = None
rounds_of (PlainHeader n) = None
rounds_of HexKey = None
rounds_of Wal = None

abbrev pub kdf_of : Setting → Option HashKind
kdf_of (Size n) = None
kdf_of (Rounds n) = None
kdf_of (Kdf hash) = Some hash
kdf_of (Hmac tags) = None
kdf_of (PlainHeader n) = None
kdf_of HexKey = None
kdf_of Wal = None

abbrev pub tags_of : Setting → Option Tags
tags_of (Size n) = None
tags_of (Rounds n) = None
tags_of (Kdf hash) = None
tags_of (Hmac tags) = Some tags
tags_of (PlainHeader n) = None
tags_of HexKey = None
tags_of Wal = None

abbrev pub plain_header_of : Setting → Option ℕ
plain_header_of (Size n) = None
plain_header_of (Rounds n) = None
plain_header_of (Kdf hash) = None
plain_header_of (Hmac tags) = None
plain_header_of (PlainHeader n) = Some n
plain_header_of HexKey = None
plain_header_of Wal = None

abbrev pub is_hex : Setting → Bool
is_hex (Size n) = false
is_hex (Rounds n) = false
is_hex (Kdf hash) = false
is_hex (Hmac tags) = false
is_hex (PlainHeader n) = false
is_hex HexKey = true
is_hex Wal = false

abbrev pub is_wal : Setting → Bool
is_wal (Size n) = false
is_wal (Rounds n) = false
is_wal (Kdf hash) = false
is_wal (Hmac tags) = false
is_wal (PlainHeader n) = false
is_wal HexKey = false
is_wal Wal = true
