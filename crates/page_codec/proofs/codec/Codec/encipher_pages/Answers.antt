use Rattle.std.proofs.Common.{◌≡◌, ◌≤◌, ◌+◌, ◌*◌, ◌/◌, ℕ, List, length, take, drop, arith, ap, ◌∙◌, sym, subst, rules}
use Rattle.std.proofs.lemmas.List.{length-drop, length-take-le}
use Rattle.aes_block.specs.Aes.{AreBytes, IsBlock, IsKey}
use Rattle.aes_block.proofs.ByteFacts.{AreBytes-drop, AreBytes-take}
use Rattle.cbc_mode.specs.Cbc.{IsText}
use Rattle.cbc_mode.specs.Records.{encrypted_record}
use Rattle.cipher_profile.specs.Profile.{IsLaidOut, is_plain, usable}
use Rattle.page_codec.specs.Page.{FileKeys, deciphered}
use Rattle.page_codec.specs.Pages.{nth_page}
use Rattle.page_codec.proofs.PageFacts.{encrypted_page, ends_by, length-page, opened_untagged, page_is_record, size_blocks, whole_blocks}
use Rattle.page_codec.proofs.codec.Codec.encipher_pages.Goals as goal

pub cbc_encrypt_records-requires : goal.cbc_encrypt_records-requires
cbc_encrypt_records-requires c =
    let file = c.args.self.now in
    let layout = c.usable-text.ensures.laid_out in
    let size : c.self.inside.profile.page_size ≡ file.profile.page_size = ap (λ (f : FileKeys). f.profile.page_size) c.self.view_is in
    record {
      iv = omega (arith, layout.room (ap is_plain (ap (λ (f : FileKeys). f.profile) c.self.view_is) ∙ c.requires.ciphered), layout.blocks, c.usable-text.ensures.value, size_blocks c.self.inside.profile layout);
      most = c.requires.most;
      size = c.requires.size ∙ ap (λ (s : ℕ). s * c.args.count) (sym size)
          ∙ whole_blocks c.self.inside.profile.page_size (c.self.inside.profile.page_size / 16) c.args.count (size_blocks c.self.inside.profile layout);
    }

pub returns-clause-value : goal.returns-clause-value
returns-clause-value c i n hi le =
    let file = c.args.self.now in
    let layout = c.usable-text.ensures.laid_out in
    let stride : ℕ = c.self.inside.profile.page_size / 16 in
    let text : ℕ = c.usable-text.result / 16 in
    let blocks : 16 * stride ≡ file.profile.page_size =
    size_blocks c.self.inside.profile layout ∙ ap (λ (f : FileKeys). f.profile.page_size) c.self.view_is in
    let used : c.usable-text.result ≡ usable file.profile =
    c.usable-text.ensures.value ∙ ap (λ (f : FileKeys). usable f.profile) c.self.view_is in
    let whole : 16 * text ≡ usable file.profile = omega (arith, layout.blocks, c.usable-text.ensures.value, used) in
    let cipher : c.self.inside.cipher ≡ file.keys.enc = c.self.invariant.ciphers ∙ ap (λ (f : FileKeys). f.keys.enc) c.self.view_is in
    page_is_record file.profile.page_size stride c.cbc_encrypt_records.new.records i blocks
    ∙ c.cbc_encrypt_records.ensures.value i hi
    ∙ (λ k. encrypted_record (cipher k) text (sym (page_is_record file.profile.page_size stride c.args.pages.now i blocks) k))
    ∙ encrypted_page file text n (nth_page file.profile.page_size c.args.pages.now i) whole le

pub returns-clause-opens_to : goal.returns-clause-opens_to
returns-clause-opens_to c i n hi le =
    let file = c.args.self.now in
    let size : ℕ = file.profile.page_size in
    let old : List ℕ = c.args.pages.now in
    let page : List ℕ = nth_page size old i in
    let layout : IsLaidOut file.profile = subst IsLaidOut (ap (λ (f : FileKeys). f.profile) c.self.view_is) c.usable-text.ensures.laid_out in
    let u : ℕ = usable file.profile in
    let within : size * i + size ≤ length old = omega (arith, ends_by size i c.args.count hi, c.requires.size) in
    let long : length page ≡ size = length-page size i old within in
    let bytes : AreBytes old = search rules in
    let page_bytes : AreBytes page = AreBytes-take size (drop (size * i) old) (AreBytes-drop (size * i) old bytes) in
    let plain : List ℕ = take u page in
    let draw : List ℕ = drop u page in
    let plain_long : length plain ≡ u = length-take-le u page (omega (arith, long, layout.room c.requires.ciphered)) in
    let key : IsKey file.keys.enc = subst IsKey (ap (λ (f : FileKeys). f.keys.enc) c.self.view_is) c.key_law.ensures in
    let iv : IsBlock (take 16 draw) = (
      length-take-le 16 draw (omega (arith, long, layout.room c.requires.ciphered, length-drop u page)),
      AreBytes-take 16 draw (AreBytes-drop u page page_bytes),
    ) in
    let text : IsText plain = record { whole = omega (arith, plain_long, layout.blocks); bytes = AreBytes-take u page page_bytes } in
    ap (deciphered file n) (returns-clause-value c i n hi le)
    ∙ opened_untagged file n plain draw le plain_long (c.cbc_round_trip_law.ensures file.keys.enc (take 16 draw) plain key iv text)
