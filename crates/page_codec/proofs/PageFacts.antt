-- Pages that stand one after another, each replaced where it stands.
use Rattle.std.proofs.Common.{◌≡◌, ◌≤◌, ◌<◌, inl, inr, ◌+◌, ◌-◌, ◌*◌, ◌/◌, ℕ, List, [], ◌++◌, suc, length, take, drop, arith, ap, sym, ◌∙◌, refl, subst}
use Rattle.std.proofs.Math.Nat.{mul-le-mul_left, mul-suc, mul_assoc}
use Rattle.std.proofs.lemmas.Bool.{cases_lt}
use Rattle.std.proofs.lemmas.Grind.{common_steps}
use Rattle.std.proofs.lemmas.List.{length-append, length-drop, length-take-le}
use Rattle.std.proofs.lemmas.Slice.{between-put_mid, drop-put_mid}
use Rattle.std.specs.Prelude.{slice_index, slice_range}
use Rattle.cbc_mode.specs.Cbc.{IsRoundTrip, cbc_decrypted, cbc_encrypted}
use Rattle.cbc_mode.specs.Records.{encrypted_record, cbc_text_at}
use Rattle.cipher_profile.specs.declared.profile.Profile.{Profile}
use Rattle.cipher_profile.specs.Profile.{IsLaidOut, usable}
use Rattle.page_codec.specs.Page.{FileKeys, begun, cipher_start, deciphered, magic, stored_iv, untagged}
use Rattle.page_codec.specs.Pages.{AreTagged, IsTagged, nth_page}
use Rattle.page_codec.proofs.Parts.{part_after, part_before, part_between}
use borrow.Rule.Slice.PartMut.{put_mid}

-- page i ends where page i + 1 begins, and no later than page k
pub ends_by : (size i k : ℕ) → i < k → size * i + size ≤ size * k
ends_by size i k lt =
    let h : size * suc i ≤ size * k = mul-le-mul_left size (omega arith) in
    omega (arith, h, mul-suc size i)

-- ---- one page replaced

abbrev pub replaced : ℕ → ℕ → List ℕ → List ℕ → List ℕ
replaced size i pages page = put_mid (size * i) (size * i + size - size * i) pages page

module _ (size i : ℕ) (pages page : List ℕ) (within : size * i + size ≤ length pages) (long : length page ≡ size) where
  whole : size * i + size - size * i ≡ size
  whole = omega arith

  same_size : replaced size i pages page ≡ put_mid (size * i) size pages page
  same_size = ap (λ (n : ℕ). put_mid (size * i) n pages page) whole

  pub length-replaced : length (replaced size i pages page) ≡ length pages
  length-replaced =
      let n : ℕ = size * i + size - size * i in
      let rest : List ℕ = drop n (drop (size * i) pages) in
      length-append (take (size * i) pages) (page ++ rest) ∙ omega (
        arith,
        whole,
        within,
        long,
        length-append page rest,
        length-take-le (size * i) pages (omega (arith, within)),
        length-drop n (drop (size * i) pages),
        length-drop (size * i) pages,
      )

  pub there : nth_page size (replaced size i pages page) i ≡ page
  there =
      ap (λ (l : List ℕ). nth_page size l i) same_size
      ∙ ap (λ (n : ℕ). take n (drop (size * i) (put_mid (size * i) size pages page))) (sym whole)
      ∙ between-put_mid (size * i) size pages page (size * i + size) (omega (arith, within)) (omega (arith, long, whole))

  pub earlier : (k : ℕ) → k < i → nth_page size (replaced size i pages page) k ≡ nth_page size pages k
  earlier k lt =
      let e : size * k + size - size * k ≡ size = omega arith in
      ap (λ (l : List ℕ). nth_page size l k) same_size
      ∙ ap (λ (n : ℕ). take n (drop (size * k) (put_mid (size * i) size pages page))) (sym e)
      ∙ part_before (size * i) size pages page (size * k) (size * k + size) (ends_by size k i lt) (omega (arith, within))
      ∙ ap (λ (n : ℕ). take n (drop (size * k) pages)) e

  pub later : (k : ℕ) → i < k → nth_page size (replaced size i pages page) k ≡ nth_page size pages k
  later k lt =
      ap (λ (l : List ℕ). nth_page size l k) same_size
      ∙ ap (take size) (drop-put_mid (size * i) size pages page (size * k) (ends_by size i k lt) (omega (arith, within)) long)

-- P holds of pages 0 to i - 1, and the others are as they were
pub record PagesUpTo (P : ℕ → List ℕ → Type 0) (size : ℕ) (old pages : List ℕ) (i : ℕ) : Type 0 where
  pub length_kept : length pages ≡ length old
  pub done : (k : ℕ) → k < i → P k (nth_page size pages k)
  pub left : (k : ℕ) → i ≤ k → nth_page size pages k ≡ nth_page size old k

pub pages_more : (P : ℕ → List ℕ → Type 0) (size : ℕ) (old pages page : List ℕ) (i : ℕ) → PagesUpTo P size old pages i
    → size * i + size ≤ length pages → length page ≡ size → P i page
    → PagesUpTo P size old (replaced size i pages page) (i + 1)
pages_more P size old pages page i h within long is = record {
  length_kept = length-replaced size i pages page within long ∙ h.length_kept;
  done = λ k less. elim (cases_lt k i) as (λ _. P k (nth_page size (replaced size i pages page) k)) [
    | inl lt ↦ subst (P k) (sym (earlier size i pages page within long k lt)) (h.done k lt)
    | inr le ↦
        let e : i ≡ k = omega arith in
        subst (λ (m : ℕ). P m (nth_page size (replaced size i pages page) m)) e (subst (P i) (sym (there size i pages page within long)) is)
  ];
  left = λ k le. later size i pages page within long k (omega arith) ∙ h.left k (omega arith);
}

-- ---- pages that have their tags

pub tagged_one : (file : FileKeys) (numbers : List ℕ) (i : ℕ) (old page : List ℕ)
    → file.profile.page_size * i + file.profile.page_size ≤ length old → length page ≡ file.profile.page_size
    → IsTagged file (slice_index numbers i) (nth_page file.profile.page_size old i) page
    → AreTagged file numbers i (i + 1) old (replaced file.profile.page_size i old page)
tagged_one file numbers i old page within long is =
    let size : ℕ = file.profile.page_size in
    record {
      length_kept = length-replaced size i old page within long;
      done = λ k from to.
          let e : i ≡ k = omega arith in
          subst (λ (m : ℕ). IsTagged file (slice_index numbers m) (nth_page size old m) (nth_page size (replaced size i old page) m)) e
          (subst (IsTagged file (slice_index numbers i) (nth_page size old i)) (sym (there size i old page within long)) is);
      before = λ k lt. earlier size i old page within long k lt;
      left = λ k le. later size i old page within long k (omega arith);
    }

pub tagged_then : (file : FileKeys) (numbers : List ℕ) (from mid to : ℕ) (old between new : List ℕ) → from ≤ mid → mid ≤ to
    → AreTagged file numbers from mid old between → AreTagged file numbers mid to between new → AreTagged file numbers from to old new
tagged_then file numbers from mid to old between new first second f s =
    let size : ℕ = file.profile.page_size in
    record {
      length_kept = s.length_kept ∙ f.length_kept;
      done = λ k begins ends. elim (cases_lt k mid) as
          (λ _. IsTagged file (slice_index numbers k) (nth_page size old k) (nth_page size new k)) [
            | inl lt ↦ subst (IsTagged file (slice_index numbers k) (nth_page size old k)) (sym (s.before k lt)) (f.done k begins lt)
            | inr le ↦
                subst (λ (page : List ℕ). IsTagged file (slice_index numbers k) page (nth_page size new k)) (f.left k (omega arith))
                (s.done k (omega arith) ends)
          ];
      before = λ k lt. s.before k (omega arith) ∙ f.before k lt;
      left = λ k le. s.left k le ∙ f.left k (omega arith);
    }

pub length-page : (size i : ℕ) (pages : List ℕ) → size * i + size ≤ length pages → length (nth_page size pages i) ≡ size
length-page size i pages within = length-take-le size (drop (size * i) pages) (omega (arith, within, length-drop (size * i) pages))

-- ---- pages as records of blocks

pub start_later : (profile : Profile) (n : ℕ) → 2 ≤ n → cipher_start profile n ≡ 0
start_later profile n le = grind (arith, common_steps)

pub whole_blocks : (size stride count : ℕ) → 16 * stride ≡ size → size * count ≡ 16 * (stride * count)
whole_blocks size stride count e = ap (λ (s : ℕ). s * count) (sym e) ∙ mul_assoc 16 stride count

pub size_blocks : (profile : Profile) → IsLaidOut profile → 16 * (profile.page_size / 16) ≡ profile.page_size
size_blocks profile h = omega (arith, h.stride)

pub page_is_record : (size stride : ℕ) (pages : List ℕ) (i : ℕ) → 16 * stride ≡ size → nth_page size pages i ≡ cbc_text_at stride pages i
page_is_record size stride pages i e =
    (λ k. take (sym e k) (drop (whole_blocks size stride i e k) pages))

-- a page with its text encrypted is a page without its tag
pub encrypted_page : (file : FileKeys) (text n : ℕ) (page : List ℕ) → 16 * text ≡ usable file.profile → 2 ≤ n
    → encrypted_record file.keys.enc text page ≡ untagged file n (take (usable file.profile) page) (drop (usable file.profile) page)
unfolding untagged
encrypted_page file text n page e le =
    let key : List ℕ = file.keys.enc in
    let u : ℕ = usable file.profile in
    ap (λ (m : ℕ). cbc_encrypted key (take 16 (drop m page)) (take m page) ++ drop m page) e
    ∙ ap (λ (s : ℕ). take s (begun file.salt (take u page)) ++ cbc_encrypted key (take 16 (drop u page)) (drop s (take u page)) ++ drop u page)
    (sym (start_later file.profile n le))

-- a page without its tag is decrypted to its content
pub opened_untagged : (file : FileKeys) (n : ℕ) (plain draw : List ℕ) → 2 ≤ n → length plain ≡ usable file.profile
    → IsRoundTrip file.keys.enc (take 16 draw) plain → deciphered file n (untagged file n plain draw) ≡ plain
unfolding deciphered untagged
opened_untagged file n plain draw le size back =
    let key : List ℕ = file.keys.enc in
    let u : ℕ = usable file.profile in
    let text : List ℕ = cbc_encrypted key (take 16 draw) plain in
    let page : List ℕ = text ++ draw in
    let none : cipher_start file.profile n ≡ 0 = start_later file.profile n le in
    let long : length text ≡ u = back.encrypted_length ∙ size in
    let iv : stored_iv file.profile page ≡ take 16 draw = part_after text draw u (u + 16) 16 long refl in
    let body : slice_range page 0 u ≡ text = part_between [] text draw 0 u refl (omega (arith, long)) in
    ap (deciphered file n) (ap (λ (s : ℕ). take s (begun file.salt plain) ++ cbc_encrypted key (take 16 draw) (drop s plain) ++ draw) none)
    ∙ ap (λ (s : ℕ). take s (begun magic page) ++ cbc_decrypted key (stored_iv file.profile page) (slice_range page s u)) none
    ∙ (λ k. cbc_decrypted key (iv k) (body k))
    ∙ back.decrypts_back
