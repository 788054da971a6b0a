-- A word names a profile that is listed.
use Rattle.std.proofs.Common.{◌≡◌, ◌⊎◌, ◌+◌, ◌*◌, ◌/◌, ◌≤◌, ◌<◌, ℕ, Bool, true, false, List, [], ◌∷◌, length, Option, Some, None, IfSome, ap, refl, sym, inl, inr, lit≤, subst, arith}
use Rattle.std.specs.Prelude.{◌==◌, ◌&&◌, ◌||◌, not, nat_lt, codes, if◌then◌else◌}
use Rattle.std.specs.Option.{is_none, option_and_then, unwrap_or}
use Rattle.std.specs.Str.{bytes_eq}
use Rattle.std.proofs.lemmas.Bool.{and_parts}
use Rattle.std.proofs.lemmas.Bool.Decides.{nat_tests}
use Rattle.cipher_profile.specs.declared.profile.Profile.{Profile}
use Rattle.profile_word.specs.declared.word.Settings.{Settings}
use Rattle.profile_word.specs.declared.setting.Tags.{Tags}
use Rattle.profile_word.specs.declared.setting.Tags.TheVariants.{Off, With}
use Rattle.cipher_profile.specs.Hashes.{digest_len}
use Rattle.cipher_profile.specs.Profile.{IsListed, IsPlainHeader, IsPlainSize, IsSize, plain_of, set_log, sqlcipher_1, sqlcipher_2, sqlcipher_3, sqlcipher_4}
use Rattle.profile_word.specs.Parts.{first_part, parts, parts_from}
use Rattle.profile_word.specs.Word.{are_rounds, is_header, is_size, plain_sized, plain_with, profile_from, profile_named, profile_of_parts, settings_of, tags_hash, tags_len, takes_header, version_named, version_with}
use Rattle.profile_word.proofs.PartLaws.{named_by}

-- none, or a profile that is listed
abbrev MaybeListed : Option Profile → Type 0
MaybeListed None = Unit {0}
MaybeListed (Some profile) = IsListed profile

size_listed : (size : ℕ) → is_size size ≡ true → IsSize size
size_listed size is = grind (arith, nat_tests)

plain_size_listed : (size : ℕ) → (size == 512 || is_size size) ≡ true → IsPlainSize size
plain_size_listed size is = grind (arith, nat_tests)

rounds_some : (n : ℕ) → are_rounds n ≡ true → 1 ≤ n
rounds_some n is = grind (arith, nat_tests)

-- a plain header is none, or fits beside the tags
header_fits : (profile : Profile) (given : Option ℕ) → profile.plain_header ≡ unwrap_or given 0 → takes_header profile.tag_len given ≡ true
    → (profile.plain_header ≡ 0) ⊎ IsPlainHeader profile
header_fits profile None is fits = inl is
header_fits profile (Some n) is fits =
    let both = and_parts (nat_lt 0 profile.tag_len) (is_header n) fits in
    let tagged : 0 < profile.tag_len = grind (arith, nat_tests, both.0) in
    inr (header_of profile tagged (subst (λ (k : ℕ). is_header k ≡ true) (sym is) both.1))
  where
    header_of : (profile : Profile) → 0 < profile.tag_len → is_header profile.plain_header ≡ true → IsPlainHeader profile
    header_of profile tagged one = record {
      tagged = tagged;
      blocks = grind (arith, nat_tests, one);
      some = grind (arith, nat_tests, one);
      most = grind (arith, nat_tests, one);
    }

-- the tags of a version with settings are none or whole
tags_whole : (base : Profile) (tags : Option Tags) → (base.tag_len ≡ 0) ⊎ (base.tag_len ≡ digest_len base.hash)
    → (tags_len base tags ≡ 0) ⊎ (tags_len base tags ≡ digest_len (tags_hash base tags))
tags_whole base None whole = whole
tags_whole base (Some Off) whole = inl refl
tags_whole base (Some (With hash)) whole = inr refl

-- what a version has
record IsVersion (base : Profile) : Type 0 where
  version : 1 ≤ base.version
  tags : (base.tag_len ≡ 0) ⊎ (base.tag_len ≡ digest_len base.hash)

version_listed : (base : Profile) (s : Settings) → IsVersion base → MaybeListed (version_with base s)
unfolding IsListed
version_listed base s is = by_test (is_size size && are_rounds rounds && takes_header tag_len s.plain_header) refl
  where
    size : ℕ
    size = unwrap_or s.size base.page_size

    rounds : ℕ
    rounds = unwrap_or s.rounds base.rounds

    tag_len : ℕ
    tag_len = tags_len base s.tags

    with_settings : Profile
    with_settings = record {
      version = base.version;
      page_size = size;
      reserve = (tag_len + 31) / 16 * 16;
      hash = tags_hash base s.tags;
      kdf = unwrap_or s.kdf base.kdf;
      rounds = rounds;
      tag_len = tag_len;
      plain_header = unwrap_or s.plain_header 0;
      hex_key = s.hex_key;
      reads_log = s.reads_log;
    }

    by_test : (b : Bool) → (is_size size && are_rounds rounds && takes_header tag_len s.plain_header) ≡ b → MaybeListed (if b then Some with_settings else None)
    by_test true fit =
        let all = and_parts (is_size size && are_rounds rounds) (takes_header tag_len s.plain_header) fit in
        let both = and_parts (is_size size) (are_rounds rounds) all.0 in
        inl (record {
          version = is.version;
          size = size_listed size both.0;
          rounds = rounds_some rounds both.1;
          tags = tags_whole base s.tags is.tags;
          reserve = refl;
          header = header_fits with_settings s.plain_header refl all.1;
        })
    by_test false none = tt

is_version_1 : IsVersion sqlcipher_1
is_version_1 = record { version = lit≤ tt; tags = inl refl }

is_version_2 : IsVersion sqlcipher_2
is_version_2 = record { version = lit≤ tt; tags = inr refl }

is_version_3 : IsVersion sqlcipher_3
is_version_3 = record { version = lit≤ tt; tags = inr refl }

is_version_4 : IsVersion sqlcipher_4
is_version_4 = record { version = lit≤ tt; tags = inr refl }

plain_set : (reads : Bool) (size : ℕ) → IsPlainSize size → IsListed (set_log reads (plain_of size))
unfolding IsListed
plain_set reads size one = inr (one, refl)

plain_listed : (s : Settings) → MaybeListed (plain_with s)
plain_listed s = by_none (is_none s.rounds && is_none s.kdf && is_none s.tags && is_none s.plain_header && not s.hex_key)
  where
    by_size : (size : ℕ) (b : Bool) → (size == 512 || is_size size) ≡ b → MaybeListed (if b then Some (set_log s.reads_log (plain_of size)) else None)
    by_size size true fits = plain_set s.reads_log size (plain_size_listed size fits)
    by_size size false none = tt

    of_size : (size : Option ℕ) → MaybeListed (option_and_then (plain_sized s.reads_log) size)
    of_size None = tt
    of_size (Some size) = by_size size (size == 512 || is_size size) refl

    by_none : (b : Bool) → MaybeListed (if b then option_and_then (plain_sized s.reads_log) s.size else None)
    by_none true = of_size s.size
    by_none false = tt

either : (b : Bool) (one other : Option Profile) → MaybeListed one → MaybeListed other → MaybeListed (if b then one else other)
either true one other first second = first
either false one other first second = second

from_listed : (version : List ℕ) (s : Settings) → MaybeListed (profile_from version s)
unfolding profile_from
from_listed version s =
    either (bytes_eq version (codes "plain")) (plain_with s) (option_and_then of (version_named version)) (plain_listed s)
    (by_version (bytes_eq version (codes "1")) (bytes_eq version (codes "2")) (bytes_eq version (codes "3")) (bytes_eq version (codes "4")))
  where
    of : Profile → Option Profile
    of base = version_with base s

    by_version : (a b d e : Bool)
        → MaybeListed (option_and_then of (if a then Some sqlcipher_1 else (if b then Some sqlcipher_2 else (if d then Some sqlcipher_3 else (if e then Some sqlcipher_4 else None)))))
    by_version true b d e = version_listed sqlcipher_1 s is_version_1
    by_version false true d e = version_listed sqlcipher_2 s is_version_2
    by_version false false true e = version_listed sqlcipher_3 s is_version_3
    by_version false false false true = version_listed sqlcipher_4 s is_version_4
    by_version false false false false = tt

parts_listed : (all : List (List ℕ)) → MaybeListed (profile_of_parts all)
parts_listed [] = tt
parts_listed (version ∷ later) = of_settings (settings_of later)
  where
    of_settings : (given : Option Settings) → MaybeListed (option_and_then (profile_from version) given)
    of_settings None = tt
    of_settings (Some s) = from_listed version s

pub named_listed : (word : List ℕ) (profile : Profile) → profile_named word ≡ Some profile → IsListed profile
unfolding profile_named
named_listed word profile is = subst MaybeListed is (parts_listed (parts word))

-- what a word names is listed, where it names a profile
pub maybe_listed : (o : Option Profile) (word : List ℕ) → o ≡ profile_named word → IfSome o IsListed
maybe_listed None word is = tt
maybe_listed (Some profile) word is = named_listed word profile (sym is)

-- what a word names, by its first part and the others
pub named_parts : (word : List ℕ) → profile_named word ≡ option_and_then (profile_from (first_part word)) (settings_of (parts_from word (length (first_part word) + 1)))
unfolding profile_named
named_parts word = ap profile_of_parts (named_by word)
