use Rattle.std.proofs.Common.{◌≡◌, ◌≤◌, ◌<◌, ◌+◌, ◌-◌, ◌*◌, ℕ, List, length, take, drop, arith, ap, ◌∙◌, subst}
use Rattle.std.specs.Str.{bytes_eq}
use Rattle.std.proofs.lemmas.List.{length-drop, length-take-le, take_all}
use Rattle.hmac_core.specs.Hmac.{hmac_of_block, key_block}
use Rattle.hash_lanes.specs.Messages.{message, piece}
use Rattle.cipher_profile.specs.declared.profile.Profile.{Profile}
use Rattle.cipher_profile.specs.Hashes.{block_len, digest, digest_len}
use Rattle.cipher_profile.specs.Profile.{IsLaidOut, usable}
use Rattle.page_codec.specs.MacKey.{MacKey, at_once}
use Rattle.page_codec.specs.Page.{FileKeys, accepts, stored_tag, tag}
use Rattle.page_codec.specs.Pages.{AreAnswered, nth_page}
use Rattle.page_codec.proofs.PageFacts.{ends_by}
use Rattle.page_codec.proofs.SideBySide.{answered_more, answered_none, batch_within, cut_mac, cut_page, page_behind, side_tag}
use Rattle.page_codec.proofs.codec.Codec.later_hold.Goals as goal

pub slice_bounds-bears-end : goal.slice_bounds-bears-end
slice_bounds-bears-end c =
    let size : ℕ = c.args.self.now.profile.page_size in
    let i : ℕ = c.args.at + c.pages.j in
    let s : ℕ = c.self.inside.profile.page_size in
    let inner : s ≡ size = ap (λ (f : FileKeys). f.profile.page_size) c.self.view_is in
    let place : s * i ≡ size * i = ap (λ (n : ℕ). n * i) inner in
    let count : c.at_once-count.result ≡ at_once c.args.self.now.profile.hash =
    c.at_once-count.ensures.value ∙ ap (λ (f : FileKeys). at_once f.profile.hash) c.self.view_is in
    omega (
      arith,
      place,
      inner,
      ends_by size i (length c.args.held.now) (omega (arith, c.pages-test.true, c.requires.within, count)),
      c.requires.size,
    )

pub pages-init : goal.pages-init
pages-init c = λ number ends.
    let none : c.args.at ≡ c.args.at + 0 = omega arith in
    rw (← none) (answered_none c.args.self.now number c.args.pages.now c.args.at c.args.held.now)

pub tags-tags-requires-clause-pages : goal.tags-tags-requires-clause-pages
tags-tags-requires-clause-pages c =
    let file = c.args.self.now in
    let size : ℕ = file.profile.page_size in
    let at : ℕ = c.args.at in
    let pages : List ℕ = c.args.pages.now in
    let s : ℕ = c.self.inside.profile.page_size in
    let inner : s ≡ size = ap (λ (f : FileKeys). f.profile.page_size) c.self.view_is in
    let start : s * at ≡ size * at = ap (λ (m : ℕ). m * at) inner in
    let hash : at_once c.args.key.now.hash ≡ at_once file.profile.hash = ap (λ (k : MacKey). at_once k.hash) c.requires.key in
    let room : s * at_once c.args.key.now.hash ≡ size * at_once file.profile.hash = (λ t. inner t * hash t) in
    omega (
      arith,
      start,
      room,
      batch_within size at (at_once file.profile.hash) (length c.args.held.now) c.requires.within,
      c.requires.size,
      length-drop (s * at) pages,
      length-take-le (length pages - s * at) (drop (s * at) pages) (omega (arith, length-drop (s * at) pages)),
    )

pub pages-preserved : goal.pages-preserved
unfolding accepts
pages-preserved c = λ number known.
    let file = c.args.self.now in
    let pages : List ℕ = c.args.pages.now in
    let size : ℕ = file.profile.page_size in
    let at : ℕ = c.args.at in
    let j : ℕ = c.pages.j in
    let i : ℕ = at + j in
    let n : ℕ = number i in
    let numbers : List ℕ = c.args.ends.now in
    let tags : List ℕ = c.tags-tags.result in
    let s : ℕ = c.self.inside.profile.page_size in
    let same : c.self.inside.profile ≡ file.profile = ap (λ (f : FileKeys). f.profile) c.self.view_is in
    let inner : s ≡ size = ap (λ (p : Profile). p.page_size) same in
    let from : s * i ≡ size * i = ap (λ (m : ℕ). m * i) inner in
    let start : s * at ≡ size * at = ap (λ (m : ℕ). m * at) inner in
    let rest : List ℕ = drop (size * at) pages in
    let text : take (length pages - s * at) (drop (s * at) pages) ≡ rest =
    take_all _ _ (omega (arith, length-drop (s * at) pages)) ∙ ap (λ (m : ℕ). drop m pages) start in
    let whole : s * i + s - s * i ≡ size = omega (arith, from, inner) in
    let laid_out : IsLaidOut file.profile = subst IsLaidOut same c.usable-tag_at.ensures.laid_out in
    let used : c.usable-tag_at.result ≡ usable file.profile = c.usable-tag_at.ensures.value ∙ ap usable same in
    let within : usable file.profile + 16 ≤ size = omega (arith, laid_out.room (laid_out.tagged c.requires.tagged)) in
    let count : c.at_once-count.result ≡ at_once file.profile.hash = c.at_once-count.ensures.value ∙ ap (λ (p : Profile). at_once p.hash) same in
    let less : j < at_once file.profile.hash = omega (arith, c.pages-test.true, count) in
    let mac : List ℕ = piece tags 64 64 j in
    let under : MacKey → Type 0 = λ k. (m : ℕ) → m < at_once k.hash → take (digest_len k.hash) (piece tags 64 64 m)
    ≡ hmac_of_block (digest k.hash) k.block
    (message (take (length pages - s * at) (drop (s * at) pages)) s (c.usable-tag_at.result + 16) numbers 4 m) in
    let hashed = subst under c.requires.key c.tags-tags.ensures j less in
    let block : List ℕ = key_block (digest file.profile.hash) (block_len file.profile.hash) file.keys.mac in
    let lane : take file.profile.tag_len mac ≡ tag file n (nth_page size rest j) =
    side_tag file rest numbers mac n j (known j less).0 within laid_out.tag (known j less).1
    (hashed ∙ (λ t. hmac_of_block (digest file.profile.hash) block (message (text t) (inner t) (used t + 16) numbers 4 j))) in
    let own = ap (λ (l : List ℕ). take file.profile.tag_len l) (cut_mac tags j) ∙ lane ∙ ap (tag file n) (page_behind size at j pages) in
    let cut = cut_page pages size i (s * i) (s * i + s - s * i) from whole in
    let next : i + 1 ≡ at + (j + 1) = omega arith in
    rw (← next) (answered_more file number pages at i c.args.held.now c.pages.held c.bears.result (omega arith)
    (omega (arith, less, c.requires.within)) (c.pages.invariant number known)
    (c.bears.ensures ∙ (λ t. bytes_eq (stored_tag file.profile (cut t)) (own t))))

pub returns : goal.returns
returns c = λ number known.
    let file = c.args.self.now in
    let count : c.at_once-count.result ≡ at_once file.profile.hash =
    c.at_once-count.ensures.value ∙ ap (λ (f : FileKeys). at_once f.profile.hash) c.self.view_is in
    let all : c.args.at + c.pages.j ≡ c.args.at + at_once file.profile.hash = omega (arith, count, c.pages-test.false, c.pages.auto.j-end) in
    subst (λ (to : ℕ). AreAnswered file number c.args.pages.now c.args.at to c.args.held.now c.pages.held) all (c.pages.invariant number known)
