-- Settings that are gathered one by one are those that a list gives.
use Rattle.std.proofs.Common.{◌≡◌, ◌∙◌, ℕ, Bool, true, false, List, [], ◌∷◌, Option, Some, None, ap, refl, sym, rules}
use Rattle.std.specs.Prelude.{◌&&◌, is_some, slice_get, if◌then◌else◌}
use Rattle.std.specs.List.{cons_option, filter, filter_map}
use Rattle.std.specs.Option.{option_and_then, option_map}
use Rattle.cipher_profile.specs.declared.profile.HashKind.{HashKind}
use Rattle.profile_word.specs.declared.word.Settings.{Settings}
use Rattle.profile_word.specs.declared.setting.Setting.{Setting}
use Rattle.profile_word.specs.declared.setting.Setting.TheVariants.{Size, Rounds, Kdf, Hmac, PlainHeader, HexKey, Wal}
use Rattle.profile_word.specs.declared.setting.Tags.{Tags}
use Rattle.profile_word.specs.Setting.{is_hex, is_wal, kdf_of, plain_header_of, rounds_of, setting_named, size_of, tags_of}
use Rattle.profile_word.specs.Word.{all_named, at_most_one, settings_of, with_setting}

-- what these values give, under the seven names
of_values : List ℕ → List ℕ → List HashKind → List Tags → List ℕ → List Setting → List Setting → Option Settings
of_values sizes rounds kdfs tags headers hexes logs =
    if at_most_one sizes && at_most_one rounds && at_most_one kdfs && at_most_one tags && at_most_one headers && at_most_one hexes && at_most_one logs then Some (record {
      size = slice_get sizes 0;
      rounds = slice_get rounds 0;
      kdf = slice_get kdfs 0;
      tags = slice_get tags 0;
      plain_header = slice_get headers 0;
      hex_key = is_some (slice_get hexes 0);
      reads_log = is_some (slice_get logs 0);
    }) else None

-- a setting without a value that was given before
given_before : Setting → Bool → List Setting → List Setting
given_before setting true later = setting ∷ later
given_before setting false later = later

-- what was given before, with what these settings give
beside : Settings → List Setting → Option Settings
beside s given =
    of_values (cons_option s.size (filter_map size_of given)) (cons_option s.rounds (filter_map rounds_of given)) (cons_option s.kdf (filter_map kdf_of given))
    (cons_option s.tags (filter_map tags_of given)) (cons_option s.plain_header (filter_map plain_header_of given))
    (given_before HexKey s.hex_key (filter is_hex given)) (given_before Wal s.reads_log (filter is_wal given))

-- two values under one name
two_sizes : (a b : ℕ) (sizes rounds : List ℕ) (kdfs : List HashKind) (tags : List Tags) (headers : List ℕ) (hexes logs : List Setting)
    → of_values (a ∷ b ∷ sizes) rounds kdfs tags headers hexes logs ≡ None
unfolding of_values
two_sizes a b sizes rounds kdfs tags headers hexes logs = search rules

two_rounds : (a b : ℕ) (sizes rounds : List ℕ) (kdfs : List HashKind) (tags : List Tags) (headers : List ℕ) (hexes logs : List Setting)
    → of_values sizes (a ∷ b ∷ rounds) kdfs tags headers hexes logs ≡ None
unfolding of_values
two_rounds a b sizes rounds kdfs tags headers hexes logs = search rules

two_kdfs : (a b : HashKind) (sizes rounds : List ℕ) (kdfs : List HashKind) (tags : List Tags) (headers : List ℕ) (hexes logs : List Setting)
    → of_values sizes rounds (a ∷ b ∷ kdfs) tags headers hexes logs ≡ None
unfolding of_values
two_kdfs a b sizes rounds kdfs tags headers hexes logs = search rules

two_tags : (a b : Tags) (sizes rounds : List ℕ) (kdfs : List HashKind) (tags : List Tags) (headers : List ℕ) (hexes logs : List Setting)
    → of_values sizes rounds kdfs (a ∷ b ∷ tags) headers hexes logs ≡ None
unfolding of_values
two_tags a b sizes rounds kdfs tags headers hexes logs = search rules

two_headers : (a b : ℕ) (sizes rounds : List ℕ) (kdfs : List HashKind) (tags : List Tags) (headers : List ℕ) (hexes logs : List Setting)
    → of_values sizes rounds kdfs tags (a ∷ b ∷ headers) hexes logs ≡ None
unfolding of_values
two_headers a b sizes rounds kdfs tags headers hexes logs = search rules

two_hexes : (a b : Setting) (sizes rounds : List ℕ) (kdfs : List HashKind) (tags : List Tags) (headers : List ℕ) (hexes logs : List Setting)
    → of_values sizes rounds kdfs tags headers (a ∷ b ∷ hexes) logs ≡ None
unfolding of_values
two_hexes a b sizes rounds kdfs tags headers hexes logs = search rules

two_logs : (a b : Setting) (sizes rounds : List ℕ) (kdfs : List HashKind) (tags : List Tags) (headers : List ℕ) (hexes logs : List Setting)
    → of_values sizes rounds kdfs tags headers hexes (a ∷ b ∷ logs) ≡ None
unfolding of_values
two_logs a b sizes rounds kdfs tags headers hexes logs = search rules

-- one setting more
step : (s : Settings) (setting : Setting) (given : List Setting)
    → option_and_then (λ (next : Settings). beside next given) (with_setting s setting) ≡ beside s (setting ∷ given)
unfolding beside given_before
step s (Size n) given = by_before s.size
  where
    rounds : List ℕ
    rounds = cons_option s.rounds (filter_map rounds_of given)

    kdfs : List HashKind
    kdfs = cons_option s.kdf (filter_map kdf_of given)

    tags : List Tags
    tags = cons_option s.tags (filter_map tags_of given)

    headers : List ℕ
    headers = cons_option s.plain_header (filter_map plain_header_of given)

    hexes : List Setting
    hexes = given_before HexKey s.hex_key (filter is_hex given)

    logs : List Setting
    logs = given_before Wal s.reads_log (filter is_wal given)

    by_before : (before : Option ℕ)
        → option_and_then (λ (next : Settings). beside next given) (with_setting (record { size = before; rounds = s.rounds; kdf = s.kdf; tags = s.tags; plain_header = s.plain_header; hex_key = s.hex_key; reads_log = s.reads_log }) (Size n))
        ≡ of_values (cons_option before (n ∷ filter_map size_of given)) rounds kdfs tags headers hexes logs
    by_before None = refl
    by_before (Some other) = sym (two_sizes other n (filter_map size_of given) rounds kdfs tags headers hexes logs)
step s (Rounds n) given = by_before s.rounds
  where
    sizes : List ℕ
    sizes = cons_option s.size (filter_map size_of given)

    kdfs : List HashKind
    kdfs = cons_option s.kdf (filter_map kdf_of given)

    tags : List Tags
    tags = cons_option s.tags (filter_map tags_of given)

    headers : List ℕ
    headers = cons_option s.plain_header (filter_map plain_header_of given)

    hexes : List Setting
    hexes = given_before HexKey s.hex_key (filter is_hex given)

    logs : List Setting
    logs = given_before Wal s.reads_log (filter is_wal given)

    by_before : (before : Option ℕ)
        → option_and_then (λ (next : Settings). beside next given) (with_setting (record { size = s.size; rounds = before; kdf = s.kdf; tags = s.tags; plain_header = s.plain_header; hex_key = s.hex_key; reads_log = s.reads_log }) (Rounds n))
        ≡ of_values sizes (cons_option before (n ∷ filter_map rounds_of given)) kdfs tags headers hexes logs
    by_before None = refl
    by_before (Some other) = sym (two_rounds other n sizes (filter_map rounds_of given) kdfs tags headers hexes logs)
step s (Kdf n) given = by_before s.kdf
  where
    sizes : List ℕ
    sizes = cons_option s.size (filter_map size_of given)

    rounds : List ℕ
    rounds = cons_option s.rounds (filter_map rounds_of given)

    tags : List Tags
    tags = cons_option s.tags (filter_map tags_of given)

    headers : List ℕ
    headers = cons_option s.plain_header (filter_map plain_header_of given)

    hexes : List Setting
    hexes = given_before HexKey s.hex_key (filter is_hex given)

    logs : List Setting
    logs = given_before Wal s.reads_log (filter is_wal given)

    by_before : (before : Option HashKind)
        → option_and_then (λ (next : Settings). beside next given) (with_setting (record { size = s.size; rounds = s.rounds; kdf = before; tags = s.tags; plain_header = s.plain_header; hex_key = s.hex_key; reads_log = s.reads_log }) (Kdf n))
        ≡ of_values sizes rounds (cons_option before (n ∷ filter_map kdf_of given)) tags headers hexes logs
    by_before None = refl
    by_before (Some other) = sym (two_kdfs other n sizes rounds (filter_map kdf_of given) tags headers hexes logs)
step s (Hmac n) given = by_before s.tags
  where
    sizes : List ℕ
    sizes = cons_option s.size (filter_map size_of given)

    rounds : List ℕ
    rounds = cons_option s.rounds (filter_map rounds_of given)

    kdfs : List HashKind
    kdfs = cons_option s.kdf (filter_map kdf_of given)

    headers : List ℕ
    headers = cons_option s.plain_header (filter_map plain_header_of given)

    hexes : List Setting
    hexes = given_before HexKey s.hex_key (filter is_hex given)

    logs : List Setting
    logs = given_before Wal s.reads_log (filter is_wal given)

    by_before : (before : Option Tags)
        → option_and_then (λ (next : Settings). beside next given) (with_setting (record { size = s.size; rounds = s.rounds; kdf = s.kdf; tags = before; plain_header = s.plain_header; hex_key = s.hex_key; reads_log = s.reads_log }) (Hmac n))
        ≡ of_values sizes rounds kdfs (cons_option before (n ∷ filter_map tags_of given)) headers hexes logs
    by_before None = refl
    by_before (Some other) = sym (two_tags other n sizes rounds kdfs (filter_map tags_of given) headers hexes logs)
step s (PlainHeader n) given = by_before s.plain_header
  where
    sizes : List ℕ
    sizes = cons_option s.size (filter_map size_of given)

    rounds : List ℕ
    rounds = cons_option s.rounds (filter_map rounds_of given)

    kdfs : List HashKind
    kdfs = cons_option s.kdf (filter_map kdf_of given)

    tags : List Tags
    tags = cons_option s.tags (filter_map tags_of given)

    hexes : List Setting
    hexes = given_before HexKey s.hex_key (filter is_hex given)

    logs : List Setting
    logs = given_before Wal s.reads_log (filter is_wal given)

    by_before : (before : Option ℕ)
        → option_and_then (λ (next : Settings). beside next given) (with_setting (record { size = s.size; rounds = s.rounds; kdf = s.kdf; tags = s.tags; plain_header = before; hex_key = s.hex_key; reads_log = s.reads_log }) (PlainHeader n))
        ≡ of_values sizes rounds kdfs tags (cons_option before (n ∷ filter_map plain_header_of given)) hexes logs
    by_before None = refl
    by_before (Some other) = sym (two_headers other n sizes rounds kdfs tags (filter_map plain_header_of given) hexes logs)
step s HexKey given = by_before s.hex_key
  where
    sizes : List ℕ
    sizes = cons_option s.size (filter_map size_of given)

    rounds : List ℕ
    rounds = cons_option s.rounds (filter_map rounds_of given)

    kdfs : List HashKind
    kdfs = cons_option s.kdf (filter_map kdf_of given)

    tags : List Tags
    tags = cons_option s.tags (filter_map tags_of given)

    headers : List ℕ
    headers = cons_option s.plain_header (filter_map plain_header_of given)

    logs : List Setting
    logs = given_before Wal s.reads_log (filter is_wal given)

    by_before : (before : Bool)
        → option_and_then (λ (next : Settings). beside next given) (with_setting (record { size = s.size; rounds = s.rounds; kdf = s.kdf; tags = s.tags; plain_header = s.plain_header; hex_key = before; reads_log = s.reads_log }) HexKey)
        ≡ of_values sizes rounds kdfs tags headers (given_before HexKey before (HexKey ∷ filter is_hex given)) logs
    by_before false = refl
    by_before true = sym (two_hexes HexKey HexKey sizes rounds kdfs tags headers (filter is_hex given) logs)
step s Wal given = by_before s.reads_log
  where
    sizes : List ℕ
    sizes = cons_option s.size (filter_map size_of given)

    rounds : List ℕ
    rounds = cons_option s.rounds (filter_map rounds_of given)

    kdfs : List HashKind
    kdfs = cons_option s.kdf (filter_map kdf_of given)

    tags : List Tags
    tags = cons_option s.tags (filter_map tags_of given)

    headers : List ℕ
    headers = cons_option s.plain_header (filter_map plain_header_of given)

    hexes : List Setting
    hexes = given_before HexKey s.hex_key (filter is_hex given)

    by_before : (before : Bool)
        → option_and_then (λ (next : Settings). beside next given) (with_setting (record { size = s.size; rounds = s.rounds; kdf = s.kdf; tags = s.tags; plain_header = s.plain_header; hex_key = s.hex_key; reads_log = before }) Wal)
        ≡ of_values sizes rounds kdfs tags headers hexes (given_before Wal before (Wal ∷ filter is_wal given))
    by_before false = refl
    by_before true = sym (two_logs Wal Wal sizes rounds kdfs tags headers hexes (filter is_wal given))

-- no setting more
last : (s : Settings) → Some s ≡ beside s []
unfolding beside of_values given_before
last s = by_each s.size s.rounds s.kdf s.tags s.plain_header s.hex_key s.reads_log
  where
    of : Option ℕ → Option ℕ → Option HashKind → Option Tags → Option ℕ → Bool → Bool → Settings
    of size rounds kdf tags header hex log = record { size = size; rounds = rounds; kdf = kdf; tags = tags; plain_header = header; hex_key = hex; reads_log = log }

    by_log : (size rounds : Option ℕ) (kdf : Option HashKind) (tags : Option Tags) (header : Option ℕ) (hex log : Bool)
        → at_most_one (cons_option size []) ≡ true → at_most_one (cons_option rounds []) ≡ true → at_most_one (cons_option kdf []) ≡ true → at_most_one (cons_option tags []) ≡ true
        → at_most_one (cons_option header []) ≡ true
        → slice_get (cons_option size []) 0 ≡ size → slice_get (cons_option rounds []) 0 ≡ rounds → slice_get (cons_option kdf []) 0 ≡ kdf → slice_get (cons_option tags []) 0 ≡ tags
        → slice_get (cons_option header []) 0 ≡ header
        → Some (of size rounds kdf tags header hex log) ≡ beside (of size rounds kdf tags header hex log) []
    by_log size rounds kdf tags header true true a b d e f g h i j k = cc
    by_log size rounds kdf tags header true false a b d e f g h i j k = cc
    by_log size rounds kdf tags header false true a b d e f g h i j k = cc
    by_log size rounds kdf tags header false false a b d e f g h i j k = cc

    one : {T : Type 0} (o : Option T) → at_most_one (cons_option o []) ≡ true
    one None = refl
    one (Some x) = refl

    same : {T : Type 0} (o : Option T) → slice_get (cons_option o []) 0 ≡ o
    same None = refl
    same (Some x) = refl

    by_each : (size rounds : Option ℕ) (kdf : Option HashKind) (tags : Option Tags) (header : Option ℕ) (hex log : Bool) → Some (of size rounds kdf tags header hex log) ≡ beside (of size rounds kdf tags header hex log) []
    by_each size rounds kdf tags header hex log =
        by_log size rounds kdf tags header hex log (one size) (one rounds) (one kdf) (one tags) (one header) (same size) (same rounds) (same kdf) (same tags) (same header)

-- the settings so far, and what these parts give
pub with_parts : List (List ℕ) → Settings → Option Settings
with_parts later s = option_and_then (beside s) (all_named later)

pub none_left : (s : Settings) → with_parts [] s ≡ Some s
unfolding with_parts
none_left s = sym (last s)

pub one_refused : (part : List ℕ) (later : List (List ℕ)) (s : Settings) → setting_named part ≡ None → with_parts (part ∷ later) s ≡ None
unfolding with_parts
one_refused part later s none =
    ap (λ (o : Option Setting). option_and_then (beside s) (option_and_then (λ setting. option_map (λ others. setting ∷ others) (all_named later)) o)) none

-- a part that names a setting, before others
pub one_given : (part : List ℕ) (later : List (List ℕ)) (s : Settings) (setting : Setting) → setting_named part ≡ Some setting
    → with_parts (part ∷ later) s ≡ option_and_then (with_parts later) (with_setting s setting)
unfolding with_parts
one_given part later s setting is =
    ap (λ (o : Option Setting). option_and_then (beside s) (option_and_then (λ setting. option_map (λ others. setting ∷ others) (all_named later)) o)) is
    ∙ by_others (all_named later)
  where
    refused : (o : Option Settings) → ◌≡◌ {A = Option Settings} None (option_and_then (λ (next : Settings). None) o)
    refused None = refl
    refused (Some next) = refl

    by_others : (others : Option (List Setting))
        → option_and_then (beside s) (option_map (λ (l : List Setting). setting ∷ l) others) ≡ option_and_then (λ (next : Settings). option_and_then (beside next) others) (with_setting s setting)
    by_others None = refused (with_setting s setting)
    by_others (Some given) = sym (step s setting given)

-- and where none was given before
pub none_before : (later : List (List ℕ)) → with_parts later (record { size = None; rounds = None; kdf = None; tags = None; plain_header = None; hex_key = false; reads_log = false }) ≡ settings_of later
unfolding with_parts beside of_values given_before
none_before later = refl
