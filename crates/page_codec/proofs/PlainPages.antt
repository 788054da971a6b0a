-- Every page that opens is a plain page.
use Rattle.std.proofs.Common.{◌≡◌, ◌≤◌, ◌+◌, ◌-◌, ◌%◌, ℕ, List, ◌++◌, [], ◌∷◌, zero, suc, length, take, drop, refl, arith, sym, ◌∙◌}
use Rattle.std.specs.Prelude.{Bool, true, false, slice_range, if◌then◌else◌}
use Rattle.std.proofs.lemmas.List.{length-append, length-drop, length-take-le, take-append-le, take-take}
use Rattle.std.proofs.Math.Seq.{take-append_seam}
use Rattle.std.proofs.lemmas.Grind.{common_steps}
use Rattle.aes_block.specs.Aes.{AreBytes, IsBlock, IsKey}
use Rattle.cbc_mode.specs.Cbc.{IsRoundTrip, IsText, cbc_decrypted}
use Rattle.cipher_profile.specs.declared.profile.Profile.{Profile}
use Rattle.cipher_profile.specs.Profile.{IsLaidOut, is_plain, usable}
use Rattle.page_codec.specs.Page.{FileKeys, IsPlainPage, begun, ciphertext, cipher_start, deciphered, magic, opened, plain_head, stored_iv}
use Rattle.page_codec.proofs.Parts.{head_long, head_short}

-- ---- bytes

AreBytes-append : (a b : List ℕ) → AreBytes a → AreBytes b → AreBytes (a ++ b)
AreBytes-append [] b ha hb i = hb i
AreBytes-append (x ∷ a) b ha hb zero = ha 0
AreBytes-append (x ∷ a) b ha hb (suc i) = AreBytes-append a b (λ k. ha (suc k)) hb i

AreBytes-drop : (n : ℕ) (a : List ℕ) → AreBytes a → AreBytes (drop n a)
AreBytes-drop zero a h = h
AreBytes-drop (suc n) [] h = h
AreBytes-drop (suc n) (x ∷ a) h = AreBytes-drop n a (λ k. h (suc k))

AreBytes-take : (n : ℕ) (a : List ℕ) → AreBytes a → AreBytes (take n a)
AreBytes-take zero a h i = omega arith
AreBytes-take (suc n) [] h i = h i
AreBytes-take (suc n) (x ∷ a) h zero = h 0
AreBytes-take (suc n) (x ∷ a) h (suc i) = AreBytes-take n a (λ k. h (suc k)) i

AreBytes-range : (a : List ℕ) (i j : ℕ) → AreBytes a → AreBytes (slice_range a i j)
AreBytes-range a i j h = AreBytes-take (j - i) (drop i a) (AreBytes-drop i a h)

AreBytes-magic : AreBytes magic
AreBytes-magic i = grind (arith, common_steps)

-- ---- the parts of a page

length-range : (a : List ℕ) (i j : ℕ) → j ≤ length a → length (slice_range a i j) ≡ j - i
length-range a i j within =
    length-take-le (j - i) (drop i a) (omega (arith, length-drop i a))

-- the ciphertext begins at a whole block
start_blocks : (profile : Profile) (n : ℕ) → IsLaidOut profile → cipher_start profile n % 16 ≡ 0
start_blocks profile n laid_out = let blocks = laid_out.header_blocks in grind (arith, common_steps, blocks)

-- every page of an encrypted file, where decryption takes text to text
deciphered_plain : (file : FileKeys) (n : ℕ) (stored : List ℕ) → IsLaidOut file.profile → is_plain file.profile ≡ false → IsKey file.keys.enc
    → length stored ≡ file.profile.page_size → AreBytes stored
    → ((key iv text : List ℕ) → IsKey key → IsBlock iv → IsText text → IsRoundTrip key iv text)
    → IsPlainPage file.profile n (deciphered file n stored)
unfolding deciphered
deciphered_plain file n stored laid_out ciphered key size bytes law =
    let u : ℕ = usable file.profile in
    let start : ℕ = cipher_start file.profile n in
    let short : start ≤ 96 = head_short file.profile n laid_out in
    let iv : List ℕ = stored_iv file.profile stored in
    let text : List ℕ = ciphertext file.profile n stored in
    let room : u + 16 ≤ length stored = omega (arith, laid_out.room ciphered, size) in
    let iv_block : IsBlock iv =
    (omega (arith, length-range stored u (u + 16) room), AreBytes-range stored u (u + 16) bytes) in
    let text_long : length text ≡ u - start = length-range stored start u (omega (arith, room)) in
    let whole : length text % 16 ≡ 0 =
    omega (arith, text_long, laid_out.content, laid_out.blocks, short, start_blocks file.profile n laid_out) in
    let trip = law file.keys.enc iv text key iv_block (record { whole = whole; bytes = AreBytes-range stored start u bytes }) in
    let begins : List ℕ = begun magic stored in
    let begun_long : start ≤ length begins = omega (arith, short, room, laid_out.content, length-append magic (drop 16 stored), length-drop 16 stored) in
    let head : List ℕ = plain_head file.profile n stored in
    let head_is : length head ≡ start = length-take-le start begins begun_long in
    record {
      size = omega (arith, length-append head (cbc_decrypted file.keys.enc iv text), head_is, text_long, trip.decrypted_length, laid_out.content, short);
      bytes = AreBytes-append head (cbc_decrypted file.keys.enc iv text)
          (AreBytes-take start begins (AreBytes-append magic (drop 16 stored) AreBytes-magic (AreBytes-drop 16 stored bytes))) trip.decrypted_bytes;
      begins = λ first encrypted.
          let long : 16 ≤ start = head_long file.profile n laid_out first in
          take-append-le 16 head (cbc_decrypted file.keys.enc iv text) (omega (arith, head_is, long))
          ∙ take-take 16 start begins long
          ∙ take-append_seam magic (drop 16 stored);
    }

-- every page that opens: a page of a plain file is all content
pub opened_plain : (file : FileKeys) (n : ℕ) (stored : List ℕ) → IsLaidOut file.profile → IsKey file.keys.enc
    → length stored ≡ file.profile.page_size → AreBytes stored
    → ((key iv text : List ℕ) → IsKey key → IsBlock iv → IsText text → IsRoundTrip key iv text)
    → IsPlainPage file.profile n (opened file n stored)
unfolding opened
opened_plain file n stored laid_out key size bytes law = either (is_plain file.profile) refl
  where
    either : (plain : Bool) → is_plain file.profile ≡ plain → IsPlainPage file.profile n (if plain then stored else deciphered file n stored)
    either true is = record {
      size = omega (arith, size, laid_out.unreserved is);
      bytes = bytes;
      begins = λ first encrypted. let both : true ≡ false = sym is ∙ encrypted in cc;
    }
    either false is = deciphered_plain file n stored laid_out is key size bytes law
