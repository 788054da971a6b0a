use Rattle.std.proofs.Common.{◌≡◌, ◌≤◌, ◌<◌, ◌*◌, ℕ, Bool, true, false, List, length, take, drop, arith, ap, sym, subst, ◌∙◌, slice_index}
use Rattle.std.specs.Prelude.{if◌then◌else◌}
use Rattle.std.proofs.lemmas.List.{take_all}
use Rattle.std.proofs.lemmas.List.Elements.{All-get_or}
use Rattle.cipher_profile.specs.declared.profile.Profile.{Profile}
use Rattle.cipher_profile.specs.Profile.{IsListed, is_plain, usable}
use Rattle.cipher_profile.proofs.Layouts.{IsListed-laid_out}
use Rattle.page_codec.specs.Page.{FileKeys, enciphered, sealed, tag, with_tag}
use Rattle.page_codec.specs.Pages.{nth_page, sealed_page}
use Rattle.page_codec.proofs.PageFacts.{ends_by, length-page}
use Rattle.page_codec.proofs.Parts.{opened_ciphered, opened_whole}
use Rattle.page_codec.proofs.TagPlace.{accepts-no_tag, plain_untagged}
use Rattle.page_codec.proofs.codec.Codec.seal_pages.Goals as goal

-- a page of a plain file is its own sealed page
sealed_whole : (file : FileKeys) (n : ℕ) (page : List ℕ) → is_plain file.profile ≡ true → length page ≡ usable file.profile
    → page ≡ sealed_page file n page
unfolding sealed
sealed_whole file n page plain long =
    let u : ℕ = usable file.profile in
    sym (take_all u page (omega arith))
    ∙ sym (ap (λ (b : Bool). if b then take u page else enciphered file n (take u page) (drop u page)) plain)

sealed_ciphered : (file : FileKeys) (n : ℕ) (plain draw page : List ℕ) → is_plain file.profile ≡ false → page ≡ enciphered file n plain draw
    → page ≡ sealed file n plain draw
unfolding sealed
sealed_ciphered file n plain draw page ciphered is =
    is ∙ sym (ap (λ (b : Bool). if b then plain else enciphered file n plain draw) ciphered)

-- the pages of a plain file that stand here are whole
page_whole : (profile : Profile) (pages : List ℕ) (i count : ℕ) → IsListed profile → is_plain profile ≡ true → i < count
    → length pages ≡ profile.page_size * count → length (nth_page profile.page_size pages i) ≡ usable profile
page_whole profile pages i count listed plain less size =
    let laid_out = IsListed-laid_out profile listed in
    length-page profile.page_size i pages (omega (arith, ends_by profile.page_size i count less, size)) ∙ omega (arith, laid_out.whole, laid_out.unreserved plain)

pub returns-then-is_plain-clause-value : goal.returns-then-is_plain-clause-value
returns-then-is_plain-clause-value c i hi =
    let file = c.args.self.now in
    let same : c.self.inside.profile ≡ file.profile = ap (λ (f : FileKeys). f.profile) c.self.view_is in
    let listed : IsListed file.profile = subst (λ (p : Profile). IsListed p) same c.self.invariant.listed in
    let plain : is_plain file.profile ≡ true = sym (ap is_plain same) ∙ sym c.is_plain.ensures ∙ c.if-is_plain.true in
    sealed_whole file (slice_index c.args.numbers.now i) (nth_page file.profile.page_size c.args.pages.now i) plain
    (page_whole file.profile c.args.pages.now i (length c.args.numbers.now) listed plain hi c.requires.size)

pub returns-then-is_plain-clause-accepted : goal.returns-then-is_plain-clause-accepted
returns-then-is_plain-clause-accepted c i hi =
    let file = c.args.self.now in
    let same : c.self.inside.profile ≡ file.profile = ap (λ (f : FileKeys). f.profile) c.self.view_is in
    let listed : IsListed file.profile = subst (λ (p : Profile). IsListed p) same c.self.invariant.listed in
    let plain : is_plain file.profile ≡ true = sym (ap is_plain same) ∙ sym c.is_plain.ensures ∙ c.if-is_plain.true in
    accepts-no_tag file (slice_index c.args.numbers.now i) (nth_page file.profile.page_size c.args.pages.now i)
    (plain_untagged file.profile (IsListed-laid_out file.profile listed) plain)

pub returns-then-is_plain-clause-opens_to : goal.returns-then-is_plain-clause-opens_to
returns-then-is_plain-clause-opens_to c i hi =
    let file = c.args.self.now in
    let same : c.self.inside.profile ≡ file.profile = ap (λ (f : FileKeys). f.profile) c.self.view_is in
    let listed : IsListed file.profile = subst (λ (p : Profile). IsListed p) same c.self.invariant.listed in
    let plain : is_plain file.profile ≡ true = sym (ap is_plain same) ∙ sym c.is_plain.ensures ∙ c.if-is_plain.true in
    sym (opened_whole file (slice_index c.args.numbers.now i) (nth_page file.profile.page_size c.args.pages.now i) plain
    (page_whole file.profile c.args.pages.now i (length c.args.numbers.now) listed plain hi c.requires.size))

pub returns-clause-value : goal.returns-clause-value
unfolding enciphered
returns-clause-value c i hi =
    let file = c.args.self.now in
    let same : c.self.inside.profile ≡ file.profile = ap (λ (f : FileKeys). f.profile) c.self.view_is in
    let ciphered : is_plain file.profile ≡ false = sym (ap is_plain same) ∙ sym c.is_plain.ensures ∙ c.if-is_plain.false in
    let n : ℕ = slice_index c.args.numbers.now i in
    let number : 2 ≤ n = All-get_or (λ (m : ℕ). 2 ≤ m) c.args.numbers.now i 0 hi c.requires.numbers in
    let old : List ℕ = nth_page file.profile.page_size c.args.pages.now i in
    sealed_ciphered file n (take (usable file.profile) old) (drop (usable file.profile) old) _ ciphered
    ((c.put_tags.ensures.pages i hi).is
    ∙ ap (λ (page : List ℕ). with_tag file.profile (tag file n page) page) (c.encipher_pages.ensures.value i n hi number))

pub returns-clause-accepted : goal.returns-clause-accepted
returns-clause-accepted c i hi = (c.put_tags.ensures.pages i hi).accepted

pub returns-clause-opens_to : goal.returns-clause-opens_to
returns-clause-opens_to c i hi =
    let file = c.args.self.now in
    let same : c.self.inside.profile ≡ file.profile = ap (λ (f : FileKeys). f.profile) c.self.view_is in
    let ciphered : is_plain file.profile ≡ false = sym (ap is_plain same) ∙ sym c.is_plain.ensures ∙ c.if-is_plain.false in
    let n : ℕ = slice_index c.args.numbers.now i in
    let number : 2 ≤ n = All-get_or (λ (m : ℕ). 2 ≤ m) c.args.numbers.now i 0 hi c.requires.numbers in
    opened_ciphered file n _ ciphered ∙ (c.put_tags.ensures.pages i hi).opens_as_before ∙ c.encipher_pages.ensures.opens_to i n hi number
