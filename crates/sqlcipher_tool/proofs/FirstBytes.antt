-- The first 16 bytes of a file, where its salt stands, and those of page 1, sealed and with other fields.
use Rattle.std.proofs.Common.{◌≡◌, ◌≤◌, ◌+◌, ◌++◌, ℕ, Bool, true, false, List, length, take, drop, refl, sym, ap, ◌∙◌, arith, length-take, if◌then◌else◌}
use Rattle.std.proofs.lemmas.List.{take-append-le, take-take}
use Rattle.std.specs.Int.{w32, to_be_bytes}
use Rattle.cipher_profile.proofs.Layouts.{IsListed-laid_out}
use Rattle.cipher_profile.specs.declared.keys.Secret.{Secret}
use Rattle.cipher_profile.specs.declared.profile.Profile.{Profile}
use Rattle.cipher_profile.specs.Profile.{IsListed, is_clear}
use Rattle.page_codec.specs.Page.{FileKeys, codec_salt, fits, keys_of, magic, salt_of}
use Rattle.pager.specs.Changed.{with_bytes}
use Rattle.pager.specs.File.{first_page}
use Rattle.pager.proofs.Resealed.{starts}
use Rattle.sqlcipher_tool.specs.FirstPage.{with_field}
use Rattle.session_hall.proofs.Counting.{clear_magic}
use Rattle.sqlcipher_tool.proofs.ChangedFields.{bytes_length, field_length}

-- ---- the salt

-- of a file that begins with it
pub hidden_salt : (profile : Profile) (file : List ℕ) → is_clear profile ≡ false → salt_of file ≡ codec_salt profile file
hidden_salt profile file hidden = sym (ap (λ (b : Bool). if b then magic else salt_of file) hidden)

-- a file whose key fits begins with the salt of its codec, also where that is the magic
pub fitting_salt : (profile : Profile) (secret : Secret) (file : List ℕ) → IsListed profile → fits (keys_of profile secret file) (first_page profile file) ≡ true
    → codec_salt profile file ≡ salt_of file
fitting_salt profile secret file listed fit = by_clear (is_clear profile) refl
  where
    keys : FileKeys
    keys = keys_of profile secret file

    first : List ℕ
    first = first_page profile file

    large : 16 ≤ profile.page_size
    large = let least = (IsListed-laid_out profile listed).least in omega (arith, least)

    by_clear : (b : Bool) → is_clear profile ≡ b → codec_salt profile file ≡ salt_of file
    by_clear false hidden = sym (hidden_salt profile file hidden)
    by_clear true clear =
        ap (λ (b : Bool). if b then magic else salt_of file) clear
        ∙ sym (clear_magic keys first (IsListed-laid_out profile listed) clear fit)
        ∙ sym (starts profile.page_size file large)

-- ---- page 1 with other bytes

pub bytes_first : (at : ℕ) (bytes page : List ℕ) → 16 ≤ at → at ≤ length page → take 16 (with_bytes at bytes page) ≡ take 16 page
bytes_first at bytes page from long =
    take-append-le 16 (take at page) (bytes ++ drop (at + length bytes) page) (omega (arith, from, long, length-take at page))
    ∙ take-take 16 at page from

pub changed_first : (at : ℕ) (bytes : List ℕ) (count change : ℕ) (plain : List ℕ) → 16 ≤ at → at + length bytes ≤ 92 → 100 ≤ length plain
    → take 16 (with_field 92 change (with_field 28 count (with_field 24 change (with_bytes at bytes plain)))) ≡ take 16 plain
changed_first at bytes count change plain low high long =
    let one = with_bytes at bytes plain in
    let one_long : length one ≡ length plain = bytes_length at bytes plain (omega (arith, high, long)) in
    let two = with_field 24 change one in
    let two_long : length two ≡ length one = field_length 24 change one (omega (arith, one_long, long)) in
    let three = with_field 28 count two in
    let three_long : length three ≡ length two = field_length 28 count two (omega (arith, two_long, one_long, long)) in
    bytes_first 92 (to_be_bytes w32 change) three (omega arith) (omega (arith, three_long, two_long, one_long, long))
    ∙ (bytes_first 28 (to_be_bytes w32 count) two (omega arith) (omega (arith, two_long, one_long, long))
    ∙ (bytes_first 24 (to_be_bytes w32 change) one (omega arith) (omega (arith, one_long, long))
    ∙ bytes_first at bytes plain low (omega (arith, high, long))))
