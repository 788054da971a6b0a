-- What holds of each of the profiles.
use Rattle.std.proofs.Common.{◌≤◌, ◌≡◌, ◌+◌, ◌%◌, ◌<◌, ◌==◌, ℕ, false, arith, refl, inl, inr, lit≤, subst, sym}
use Rattle.std.proofs.lemmas.Bool.Decides.{nat_tests}
use Rattle.cipher_profile.specs.declared.profile.HashKind.{HashKind}
use Rattle.cipher_profile.specs.declared.profile.HashKind.TheVariants.{Sha1, Sha256, Sha512}
use Rattle.cipher_profile.specs.declared.profile.Profile.{Profile}
use Rattle.cipher_profile.specs.Hashes.{digest_len}
use Rattle.cipher_profile.specs.Profile.{IsEncrypted, IsLaidOut, IsListed, IsPlainSize, IsSize, is_plain, plain_of, reserve_for, without_log}

-- what the sizes of encrypted pages have in common
record IsSized (size : ℕ) : Type 0 where
  least : 1024 ≤ size
  most : size ≤ 65536
  blocks : size % 16 ≡ 0

sized : (size : ℕ) → IsSize size → IsSized size
sized size one = elim one [
  | inl is ↦ record { least = omega (arith, is); most = omega (arith, is); blocks = omega (arith, is) }
  | inr (inl is) ↦ record { least = omega (arith, is); most = omega (arith, is); blocks = omega (arith, is) }
  | inr (inr (inl is)) ↦ record { least = omega (arith, is); most = omega (arith, is); blocks = omega (arith, is) }
  | inr (inr (inr (inl is))) ↦ record { least = omega (arith, is); most = omega (arith, is); blocks = omega (arith, is) }
  | inr (inr (inr (inr (inl is)))) ↦ record { least = omega (arith, is); most = omega (arith, is); blocks = omega (arith, is) }
  | inr (inr (inr (inr (inr (inl is))))) ↦ record { least = omega (arith, is); most = omega (arith, is); blocks = omega (arith, is) }
  | inr (inr (inr (inr (inr (inr is))))) ↦ record { least = omega (arith, is); most = omega (arith, is); blocks = omega (arith, is) }
]

-- and the sizes of plain files
record IsPlainSized (size : ℕ) : Type 0 where
  least : 512 ≤ size
  most : size ≤ 65536
  blocks : size % 16 ≡ 0

plain_sized : (size : ℕ) → IsPlainSize size → IsPlainSized size
plain_sized size one = elim one [
  | inl is ↦ record { least = omega (arith, is); most = omega (arith, is); blocks = omega (arith, is) }
  | inr one ↦ let is : IsSized size = sized size one in record { least = omega (arith, is.least); most = is.most; blocks = is.blocks }
]

-- a digest has 64 bytes at most
digest_short : (hash : HashKind) → digest_len hash ≤ 64
digest_short Sha1 = lit≤ tt
digest_short Sha256 = lit≤ tt
digest_short Sha512 = lit≤ tt

-- a tag has no bytes or those of a digest
tag_within : (profile : Profile) → IsEncrypted profile → profile.tag_len ≤ digest_len profile.hash
tag_within profile is = elim is.tags [
  | inl none ↦ omega (arith, none)
  | inr whole ↦ omega (arith, whole)
]

-- the reserve has room for an IV and the tag
record IsReserve (tag_len reserve : ℕ) : Type 0 where
  least : tag_len + 16 ≤ reserve
  most : reserve ≤ 80
  blocks : reserve % 16 ≡ 0

reserved : (tag_len reserve : ℕ) → tag_len ≤ 64 → reserve ≡ reserve_for tag_len → IsReserve tag_len reserve
reserved tag_len reserve short is = record {
  least = omega (arith, short, is);
  most = omega (arith, short, is);
  blocks = omega (arith, short, is);
}

-- what a plain header has, of no bytes as well
record IsHeader (profile : Profile) : Type 0 where
  blocks : profile.plain_header % 16 ≡ 0
  some : 0 < profile.plain_header → 16 ≤ profile.plain_header
  most : profile.plain_header ≤ 96
  tagged : 0 < profile.plain_header → 0 < profile.tag_len

headed : (profile : Profile) → IsEncrypted profile → IsHeader profile
headed profile is = elim is.header [
  | inl none ↦ record {
    blocks = omega (arith, none);
    some = λ some. absurd (omega (arith, none, some));
    most = omega (arith, none);
    tagged = λ some. absurd (omega (arith, none, some));
  }
  | inr header ↦ record { blocks = header.blocks; some = λ _. header.some; most = header.most; tagged = λ _. header.tagged }
]

-- the version of an encrypted file is not 0
ciphered : (version : ℕ) → 1 ≤ version → (version == 0) ≡ false
ciphered version some = grind (arith, nat_tests, some)

laid_out_encrypted : (profile : Profile) → IsEncrypted profile → IsLaidOut profile
laid_out_encrypted profile is =
    let size : IsSized profile.page_size = sized profile.page_size is.size in
    let within : profile.tag_len ≤ digest_len profile.hash = tag_within profile is in
    let of : IsReserve profile.tag_len profile.reserve = reserved profile.tag_len profile.reserve (omega (arith, within, digest_short profile.hash)) is.reserve in
    let not_plain : is_plain profile ≡ false = ciphered profile.version is.version in
    let header : IsHeader profile = headed profile is in
    record {
      sizes = inr is.size;
      least = omega (arith, size.least);
      most = size.most;
      content = omega (arith, size.least, of.most);
      roomy = omega (arith, size.least, of.most);
      reserve = omega (arith, of.most);
      whole = omega (arith, size.least, of.most);
      room = λ _. omega (arith, size.least, of.least, of.most);
      unreserved = λ plain. cc (plain, not_plain);
      blocks = omega (arith, size.least, size.blocks, of.most, of.blocks);
      stride = size.blocks;
      salt = omega (arith, size.least, of.most);
      tag = within;
      tagged = λ _. not_plain;
      rounds = is.rounds;
      header_blocks = header.blocks;
      header_some = header.some;
      header_most = header.most;
      header_tagged = header.tagged;
    }

laid_out_plain : (size : ℕ) → IsPlainSize size → IsLaidOut (plain_of size)
laid_out_plain size one =
    let is : IsPlainSized size = plain_sized size one in
    record {
      sizes = one;
      least = is.least;
      most = is.most;
      content = omega (arith, is.least);
      roomy = omega (arith, is.least);
      reserve = lit≤ tt;
      whole = omega arith;
      room = λ ciphered. cc;
      unreserved = λ plain. refl;
      blocks = omega (arith, is.blocks);
      stride = is.blocks;
      salt = omega (arith, is.least);
      tag = lit≤ tt;
      tagged = λ some. absurd (omega (arith, some));
      rounds = lit≤ tt;
      header_blocks = refl;
      header_some = λ some. absurd (omega (arith, some));
      header_most = lit≤ tt;
      header_tagged = λ some. absurd (omega (arith, some));
    }

-- the setting of the log changes none of it
laid_out_set : (profile : Profile) → IsLaidOut (without_log profile) → IsLaidOut profile
laid_out_set profile is = record {
  sizes = is.sizes;
  least = is.least;
  most = is.most;
  content = is.content;
  roomy = is.roomy;
  reserve = is.reserve;
  whole = is.whole;
  room = is.room;
  unreserved = is.unreserved;
  blocks = is.blocks;
  stride = is.stride;
  salt = is.salt;
  tag = is.tag;
  tagged = is.tagged;
  rounds = is.rounds;
  header_blocks = is.header_blocks;
  header_some = is.header_some;
  header_most = is.header_most;
  header_tagged = is.header_tagged;
}

pub IsListed-laid_out : (profile : Profile) → IsListed profile → IsLaidOut profile
unfolding IsListed
IsListed-laid_out profile listed = elim listed [
  | inl is ↦ laid_out_encrypted profile is
  | inr both ↦ laid_out_set profile (subst IsLaidOut (sym both.1) (laid_out_plain profile.page_size both.0))
]

-- what holds of each size of a page, one by one, holds of the size of each profile
pub IsListed-size : (P : ℕ → Type 0) → P 512 → P 1024 → P 2048 → P 4096 → P 8192 → P 16384 → P 32768 → P 65536
    → (profile : Profile) → IsListed profile → P profile.page_size
IsListed-size P a b d e f g h i profile listed = elim (IsListed-laid_out profile listed).sizes [
  | inl is ↦ subst P (sym is) a
  | inr (inl is) ↦ subst P (sym is) b
  | inr (inr (inl is)) ↦ subst P (sym is) d
  | inr (inr (inr (inl is))) ↦ subst P (sym is) e
  | inr (inr (inr (inr (inl is)))) ↦ subst P (sym is) f
  | inr (inr (inr (inr (inr (inl is))))) ↦ subst P (sym is) g
  | inr (inr (inr (inr (inr (inr (inl is)))))) ↦ subst P (sym is) h
  | inr (inr (inr (inr (inr (inr (inr is)))))) ↦ subst P (sym is) i
]

-- a profile has no tags exactly where its reserve has room for an IV at most
abbrev HasFew : Profile → Type 0
HasFew p = p.tag_len ≡ 0 → p.reserve ≤ 16

pub untagged_reserve : (profile : Profile) → IsListed profile → profile.tag_len ≡ 0 → profile.reserve ≤ 16
unfolding IsListed
untagged_reserve profile listed = elim listed [
  | inl is ↦ λ none. omega (arith, is.reserve, none)
  | inr both ↦ subst HasFew (sym both.1) (λ none. lit≤ tt)
]

abbrev HasNone : Profile → Type 0
HasNone p = p.reserve ≤ 16 → p.tag_len ≡ 0

pub reserve_untagged : (profile : Profile) → IsListed profile → profile.reserve ≤ 16 → profile.tag_len ≡ 0
unfolding IsListed
reserve_untagged profile listed = elim listed [
  | inl is ↦ λ few. omega (arith, is.reserve, few)
  | inr both ↦ subst HasNone (sym both.1) (λ few. refl)
]
