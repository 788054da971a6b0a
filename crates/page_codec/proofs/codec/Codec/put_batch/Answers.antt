use Rattle.std.proofs.Common.{◌≡◌, ◌≤◌, ◌<◌, ◌+◌, ◌-◌, ◌*◌, ℕ, List, length, take, drop, arith, ap, sym, ◌∙◌, subst, slice_index}
use Rattle.std.proofs.lemmas.List.{length-drop, length-take-le, take_all}
use Rattle.std.proofs.lemmas.List.Elements.{All-get_or}
use Rattle.hmac_core.specs.Hmac.{hmac_of_block, key_block}
use Rattle.hash_lanes.specs.Messages.{message, piece}
use Rattle.cipher_profile.specs.declared.profile.Profile.{Profile}
use Rattle.cipher_profile.specs.Hashes.{block_len, digest, digest_len}
use Rattle.cipher_profile.specs.Profile.{IsLaidOut, usable}
use Rattle.page_codec.specs.MacKey.{MacKey, at_once}
use Rattle.page_codec.specs.Page.{FileKeys, tag}
use Rattle.page_codec.specs.Pages.{AreTagged, IsTagged, nth_page}
use Rattle.page_codec.proofs.PageFacts.{ends_by, replaced, tagged_one, tagged_then}
use Rattle.page_codec.proofs.SideBySide.{batch_within, cut_mac, cut_page, page_behind, side_tag}
use Rattle.page_codec.proofs.codec.Codec.put_batch.Goals as goal

pub slice_bounds-place_tag-end-in-pages : goal.slice_bounds-place_tag-end-in-pages
slice_bounds-place_tag-end-in-pages c =
    let size : ℕ = c.args.self.now.profile.page_size in
    let i : ℕ = c.args.at + c.pages.j in
    let s : ℕ = c.self.inside.profile.page_size in
    let inner : s ≡ size = ap (λ (f : FileKeys). f.profile.page_size) c.self.view_is in
    let place : s * i ≡ size * i = ap (λ (n : ℕ). n * i) inner in
    let count : c.at_once-count.result ≡ at_once c.args.self.now.profile.hash =
    c.at_once-count.ensures.value ∙ ap (λ (f : FileKeys). at_once f.profile.hash) c.self.view_is in
    omega (
      arith,
      place,
      inner,
      ends_by size i (length c.args.numbers.now) (omega (arith, c.pages-test.true, c.requires.within, count)),
      c.pages.invariant.length_kept,
      c.requires.size,
    )

pub tags-tags-requires-clause-pages : goal.tags-tags-requires-clause-pages
tags-tags-requires-clause-pages c =
    let file = c.args.self.now in
    let size : ℕ = file.profile.page_size in
    let at : ℕ = c.args.at in
    let old : List ℕ = c.args.pages.now in
    let s : ℕ = c.self.inside.profile.page_size in
    let inner : s ≡ size = ap (λ (f : FileKeys). f.profile.page_size) c.self.view_is in
    let start : s * at ≡ size * at = ap (λ (m : ℕ). m * at) inner in
    let hash : at_once c.args.key.now.hash ≡ at_once file.profile.hash = ap (λ (k : MacKey). at_once k.hash) c.requires.key in
    let room : s * at_once c.args.key.now.hash ≡ size * at_once file.profile.hash = (λ t. inner t * hash t) in
    omega (
      arith,
      start,
      room,
      batch_within size at (at_once file.profile.hash) (length c.args.numbers.now) c.requires.within,
      c.requires.size,
      length-drop (s * at) old,
      length-take-le (length old - s * at) (drop (s * at) old) (omega (arith, length-drop (s * at) old)),
    )

pub pages-preserved : goal.pages-preserved
pages-preserved c =
    let file = c.args.self.now in
    let numbers : List ℕ = c.args.numbers.now in
    let pages : List ℕ = c.pages.pages in
    let size : ℕ = file.profile.page_size in
    let i : ℕ = c.args.at + c.pages.j in
    let s : ℕ = c.self.inside.profile.page_size in
    let inner : s ≡ size = ap (λ (f : FileKeys). f.profile.page_size) c.self.view_is in
    let place : s * i ≡ size * i = ap (λ (n : ℕ). n * i) inner in
    let count : c.at_once-count.result ≡ at_once file.profile.hash =
    c.at_once-count.ensures.value ∙ ap (λ (f : FileKeys). at_once f.profile.hash) c.self.view_is in
    let within : size * i + size ≤ length pages = omega (
      arith,
      ends_by size i (length numbers) (omega (arith, c.pages-test.true, c.requires.within, count)),
      c.pages.invariant.length_kept,
      c.requires.size,
    ) in
    let whole : s * i + s - s * i ≡ size = omega (arith, place, inner) in
    let page = cut_page pages size i (s * i) (s * i + s - s * i) place whole in
    let tagged : IsTagged file (slice_index numbers i) (nth_page size pages i) c.place_tag.new.stored =
    subst (λ (l : List ℕ). IsTagged file (slice_index numbers i) l c.place_tag.new.stored) page (record {
      is = c.place_tag.ensures.value;
      accepted = c.place_tag.ensures.accepted;
      opens_as_before = c.place_tag.ensures.opens_as_before;
    }) in
    let next : i + 1 ≡ c.args.at + (c.pages.j + 1) = omega arith in
    rw inner (subst (λ (to : ℕ). AreTagged file numbers c.args.at to c.args.pages.now (replaced size i pages c.place_tag.new.stored)) next
    (tagged_then file numbers c.args.at i (i + 1) c.args.pages.now pages (replaced size i pages c.place_tag.new.stored)
    (omega arith) (omega arith) c.pages.invariant
    (tagged_one file numbers i pages c.place_tag.new.stored within (omega (arith, inner, within, whole)) tagged)))

pub place_tag-requires-clause-tag : goal.place_tag-requires-clause-tag
place_tag-requires-clause-tag c =
    let file = c.args.self.now in
    let numbers : List ℕ = c.args.numbers.now in
    let old : List ℕ = c.args.pages.now in
    let size : ℕ = file.profile.page_size in
    let at : ℕ = c.args.at in
    let j : ℕ = c.pages.j in
    let i : ℕ = at + j in
    let n : ℕ = slice_index numbers i in
    let ends : List ℕ = c.numbers_at-ends.result in
    let tags : List ℕ = c.tags-tags.result in
    let s : ℕ = c.self.inside.profile.page_size in
    let same : c.self.inside.profile ≡ file.profile = ap (λ (f : FileKeys). f.profile) c.self.view_is in
    let inner : s ≡ size = ap (λ (p : Profile). p.page_size) same in
    let from : s * i ≡ size * i = ap (λ (m : ℕ). m * i) inner in
    let start : s * at ≡ size * at = ap (λ (m : ℕ). m * at) inner in
    let rest : List ℕ = drop (size * at) old in
    let text : take (length old - s * at) (drop (s * at) old) ≡ rest =
    take_all _ _ (omega (arith, length-drop (s * at) old)) ∙ ap (λ (m : ℕ). drop m old) start in
    let whole : s * i + s - s * i ≡ size = omega (arith, from, inner) in
    let laid_out : IsLaidOut file.profile = subst IsLaidOut same c.usable-tag_at.ensures.laid_out in
    let used : c.usable-tag_at.result ≡ usable file.profile = c.usable-tag_at.ensures.value ∙ ap usable same in
    let within : usable file.profile + 16 ≤ size = omega (arith, laid_out.room c.requires.ciphered) in
    let count : c.at_once-count.result ≡ at_once file.profile.hash = c.at_once-count.ensures.value ∙ ap (λ (p : Profile). at_once p.hash) same in
    let less : j < at_once file.profile.hash = omega (arith, c.pages-test.true, count) in
    let later : 2 ≤ n = All-get_or (λ (m : ℕ). 2 ≤ m) numbers i 0 (omega (arith, less, c.requires.within)) c.requires.numbers in
    let mac : List ℕ = piece tags 64 64 j in
    let under : MacKey → Type 0 = λ k. (m : ℕ) → m < at_once k.hash → take (digest_len k.hash) (piece tags 64 64 m)
    ≡ hmac_of_block (digest k.hash) k.block
    (message (take (length old - s * at) (drop (s * at) old)) s (c.usable-tag_at.result + 16) ends 4 m) in
    let hashed = subst under c.requires.key c.tags-tags.ensures j less in
    let block : List ℕ = key_block (digest file.profile.hash) (block_len file.profile.hash) file.keys.mac in
    let lane : take file.profile.tag_len mac ≡ tag file n (nth_page size rest j) =
    side_tag file rest ends mac n j later within laid_out.tag (c.numbers_at-ends.ensures j c.pages-test.true)
    (hashed ∙ (λ t. hmac_of_block (digest file.profile.hash) block (message (text t) (inner t) (used t + 16) ends 4 j))) in
    let page : nth_page size rest j ≡ take (s * i + s - s * i) (drop (s * i) c.pages.pages) =
    page_behind size at j old ∙ sym (c.pages.invariant.left i (omega arith))
    ∙ sym (cut_page c.pages.pages size i (s * i) (s * i + s - s * i) from whole) in
    ap (take file.profile.tag_len) (cut_mac tags j) ∙ lane ∙ ap (tag file n) page
