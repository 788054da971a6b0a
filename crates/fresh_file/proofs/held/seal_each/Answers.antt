use Rattle.std.proofs.Common.{◌≡◌, ◌∙◌, ◌≤◌, ◌<◌, ◌+◌, ◌-◌, ◌*◌, ℕ, List, length, take, drop, slice_index, ap, subst, arith}
use Rattle.cipher_profile.specs.declared.profile.Profile.{Profile}
use Rattle.page_codec.specs.Pages.{nth_page}
use Rattle.page_codec.proofs.PageFacts.{ends_by, pages_more}
use Rattle.fresh_file.specs.Held.{IsSealedAs}
use Rattle.fresh_file.proofs.held.seal_each.Goals as goal

pub sealing-preserved : goal.sealing-preserved
sealing-preserved c =
    let keys = c.args.codec.now in
    let numbers : List ℕ = c.args.numbers.now in
    let room : List ℕ = c.args.room.now in
    let old : List ℕ = c.args.stored.now in
    let size : ℕ = keys.profile.page_size in
    let k : ℕ = c.sealing.k in
    let inner : c.profile.result.now.page_size ≡ size = ap (λ (p : Profile). p.page_size) c.profile.ensures.value in
    let less : k < length numbers = omega (arith, c.sealing-test.true, c.requires.count) in
    let within : size * k + size ≤ length c.sealing.stored = omega
    (arith, ends_by size k (length numbers) less, c.sealing.invariant.length_kept, c.requires.size, c.requires.room) in
    let whole : size * k + size - size * k ≡ size = omega arith in
    let part : take (c.profile.result.now.page_size * k + c.profile.result.now.page_size - c.profile.result.now.page_size * k) (drop (c.profile.result.now.page_size * k) room) ≡ nth_page size room k =
    ap (λ (s : ℕ). take (s * k + s - s * k) (drop (s * k) room)) inner ∙ ap (λ (n : ℕ). take n (drop (size * k) room)) whole in
    let sealed : IsSealedAs keys (slice_index numbers k) (nth_page size room k) c.seal_one.new.stored =
    subst (λ (l : List ℕ). IsSealedAs keys (slice_index numbers k) l c.seal_one.new.stored) part c.seal_one.ensures.sealed in
    rw inner (pages_more (λ (i : ℕ) (l : List ℕ). IsSealedAs keys (slice_index numbers i) (nth_page size room i) l) size old c.sealing.stored c.seal_one.new.stored k c.sealing.invariant within
    (c.seal_one.ensures.size) sealed)
