-- The tags of pages that stand one after another, pages that are cut out of others, and answers for them.
use Rattle.std.proofs.Common.{◌≡◌, ◌≤◌, ◌<◌, ◌+◌, ◌-◌, ◌*◌, ℕ, zero, suc, List, ◌++◌, length, take, drop, ap, sym, ◌∙◌, arith, refl, mul_comm, inl, inr, length-set}
use Rattle.std.proofs.Math.Nat.{mul-le-mul_left, mul-suc}
use Rattle.std.proofs.lemmas.List.{drop-drop, get_or-set_other, get_or-set_same, take-take}
use Rattle.std.proofs.lemmas.Bool.{cases_lt}
use Rattle.std.specs.Prelude.{Bool, false, slice_index_or, slice_set}
use Rattle.std.specs.Int.{w32, to_le_bytes}
use Rattle.hmac_core.specs.Hmac.{hmac_of_block, key_block}
use Rattle.hash_lanes.specs.Messages.{message, piece}
use Rattle.cipher_profile.specs.Hashes.{block_len, digest, digest_len}
use Rattle.cipher_profile.specs.Profile.{usable}
use Rattle.page_codec.specs.Page.{FileKeys, accepts, cipher_start, covered, tag}
use Rattle.page_codec.specs.Pages.{AreAnswered, nth_page}
use Rattle.page_codec.proofs.PageFacts.{start_later}

-- pages that begin after i and then j others
pub pages_sum : (size i j : ℕ) → size * (i + j) ≡ size * i + size * j
pages_sum size i zero =
    let none : i + 0 ≡ i = omega arith in
    ap (λ (k : ℕ). size * k) none ∙ omega arith
pages_sum size i (suc j) =
    let more : i + suc j ≡ suc (i + j) = omega arith in
    ap (λ (k : ℕ). size * k) more ∙ omega (arith, mul-suc size (i + j), pages_sum size i j, mul-suc size j)

-- page j of the pages from page i on
pub page_behind : (size i j : ℕ) (pages : List ℕ) → nth_page size (drop (size * i) pages) j ≡ nth_page size pages (i + j)
page_behind size i j pages =
    ap (take size) (drop-drop (size * j) (size * i) pages ∙ ap (λ (k : ℕ). drop k pages) (sym (pages_sum size i j)))

-- the HMAC of a piece of pages, and of a number, is a page's tag
pub side_tag : (file : FileKeys) (pages ends mac : List ℕ) (n i : ℕ) → 2 ≤ n → usable file.profile + 16 ≤ file.profile.page_size
    → file.profile.tag_len ≤ digest_len file.profile.hash → piece ends 4 4 i ≡ to_le_bytes w32 n
    → take (digest_len file.profile.hash) mac
    ≡ hmac_of_block (digest file.profile.hash) (key_block (digest file.profile.hash) (block_len file.profile.hash) file.keys.mac)
    (message pages file.profile.page_size (usable file.profile + 16) ends 4 i)
    → take file.profile.tag_len mac ≡ tag file n (nth_page file.profile.page_size pages i)
side_tag file pages ends mac n i later within short number is =
    let size : ℕ = file.profile.page_size in
    let at : ℕ = usable file.profile + 16 in
    let len : ℕ = file.profile.tag_len in
    let hash : List ℕ → List ℕ = digest file.profile.hash in
    let page : List ℕ = nth_page size pages i in
    let start : cipher_start file.profile n ≡ 0 = start_later file.profile n later in
    let whole : at ≡ at - 0 = omega arith in
    let body : piece pages size at i ≡ covered file.profile n page =
    ap (λ (k : ℕ). take at (drop k pages)) (mul_comm i size)
    ∙ sym (take-take at size (drop (size * i) pages) within)
    ∙ ap (λ (k : ℕ). take k page) whole
    ∙ ap (λ (s : ℕ). take (at - s) (drop s page)) (sym start) in
    sym (take-take len (digest_len file.profile.hash) mac short)
    ∙ ap (take len) is
    ∙ (λ t. take len (hmac_of_block hash (key_block hash (block_len file.profile.hash) file.keys.mac) (body t ++ number t)))

-- a page that is cut out
pub cut_page : (pages : List ℕ) (size i from long : ℕ) → from ≡ size * i → long ≡ size → take long (drop from pages) ≡ nth_page size pages i
cut_page pages size i from long place whole = λ t. take (whole t) (drop (place t) pages)

-- one of several HMACs, that is cut out
pub cut_mac : (tags : List ℕ) (j : ℕ) → take (64 * j + 64 - 64 * j) (drop (64 * j) tags) ≡ piece tags 64 64 j
cut_mac tags j =
    let long : 64 * j + 64 - 64 * j ≡ 64 = omega arith in
    let place : 64 * j ≡ j * 64 = omega arith in
    λ t. take (long t) (drop (place t) tags)

-- so many pages from page `at` on end within all of them
pub batch_within : (size at k count : ℕ) → at + k ≤ count → size * at + size * k ≤ size * count
batch_within size at k count fits = omega (arith, pages_sum size at k, mul-le-mul_left size fits)

-- ---- answers, one for each page

pub answered_none : (file : FileKeys) (number : ℕ → ℕ) (pages : List ℕ) (at : ℕ) (held : List Bool) → AreAnswered file number pages at at held held
answered_none file number pages at held = record {
  length_kept = refl;
  done = λ k from to. absurd (omega arith);
  before = λ k lt. refl;
}

-- one answer more
pub answered_more : (file : FileKeys) (number : ℕ → ℕ) (pages : List ℕ) (from i : ℕ) (old held : List Bool) (x : Bool) → from ≤ i → i < length old
    → AreAnswered file number pages from i old held → x ≡ accepts file (number i) (nth_page file.profile.page_size pages i)
    → AreAnswered file number pages from (i + 1) old (slice_set held i x)
answered_more file number pages from i old held x after less h is =
    let value : ℕ → Bool = λ k. accepts file (number k) (nth_page file.profile.page_size pages k) in
    record {
      length_kept = length-set held i x ∙ h.length_kept;
      done = λ k begins ends. elim (cases_lt k i) as (λ _. slice_index_or (slice_set held i x) k false ≡ value k) [
        | inl lt ↦ get_or-set_other held i k x false (omega arith) ∙ h.done k begins lt
        | inr le ↦
            let e : i ≡ k = omega arith in
            rw (← e) (get_or-set_same held i x false (omega (arith, h.length_kept)) ∙ is)
      ];
      before = λ k lt. get_or-set_other held i k x false (omega arith) ∙ h.before k lt;
    }

pub answered_then : (file : FileKeys) (number : ℕ → ℕ) (pages : List ℕ) (from mid to : ℕ) (old between new : List Bool) → from ≤ mid → mid ≤ to
    → AreAnswered file number pages from mid old between → AreAnswered file number pages mid to between new
    → AreAnswered file number pages from to old new
answered_then file number pages from mid to old between new one two f s =
    let value : ℕ → Bool = λ k. accepts file (number k) (nth_page file.profile.page_size pages k) in
    record {
      length_kept = s.length_kept ∙ f.length_kept;
      done = λ k begins ends. elim (cases_lt k mid) as (λ _. slice_index_or new k false ≡ value k) [
        | inl lt ↦ s.before k lt ∙ f.done k begins lt
        | inr le ↦ s.done k le ends
      ];
      before = λ k lt. s.before k (omega arith) ∙ f.before k lt;
    }
