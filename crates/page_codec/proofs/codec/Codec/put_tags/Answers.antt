use Rattle.std.proofs.Common.{◌≡◌, ◌≤◌, ◌+◌, ◌-◌, ◌*◌, ℕ, List, length, arith, ap, subst, slice_index}
use Rattle.page_codec.specs.Page.{FileKeys}
use Rattle.page_codec.specs.Pages.{IsTagged, nth_page}
use Rattle.page_codec.proofs.PageFacts.{ends_by, tagged_one, tagged_then}
use Rattle.page_codec.proofs.SideBySide.{cut_page}
use Rattle.page_codec.proofs.codec.Codec.put_tags.Goals as goal

pub rest-preserved : goal.rest-preserved
rest-preserved c =
    let file = c.args.self.now in
    let numbers : List ℕ = c.args.numbers.now in
    let pages : List ℕ = c.rest.pages in
    let size : ℕ = file.profile.page_size in
    let i : ℕ = c.rest.i in
    let s : ℕ = c.self.inside.profile.page_size in
    let inner : s ≡ size = ap (λ (f : FileKeys). f.profile.page_size) c.self.view_is in
    let place : s * i ≡ size * i = ap (λ (n : ℕ). n * i) inner in
    let within : size * i + size ≤ length pages = omega
    (arith, ends_by size i (length numbers) c.rest-test.true, c.rest.invariant.length_kept, c.requires.size) in
    let whole : s * i + s - s * i ≡ size = omega (arith, place, inner) in
    let page = cut_page pages size i (s * i) (s * i + s - s * i) place whole in
    let tagged : IsTagged file (slice_index numbers i) (nth_page size pages i) c.put_tag.new.stored =
    subst (λ (l : List ℕ). IsTagged file (slice_index numbers i) l c.put_tag.new.stored) page (record {
      is = c.put_tag.ensures.value;
      accepted = c.put_tag.ensures.accepted;
      opens_as_before = c.put_tag.ensures.opens_as_before;
    }) in
    rw inner (tagged_then file numbers 0 i (i + 1) c.args.pages.now pages _ (omega arith) (omega arith) c.rest.invariant
    (tagged_one file numbers i pages c.put_tag.new.stored within (omega (arith, inner, within, whole)) tagged))
