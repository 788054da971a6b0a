use Rattle.std.proofs.Common.{◌≡◌, ◌∙◌, ◌≤◌, ◌<◌, ◌+◌, ◌-◌, ◌*◌, ◌++◌, ℕ, List, length, take, drop, sym, ap, arith}
use Rattle.cipher_profile.specs.declared.profile.Profile.{Profile}
use Rattle.page_codec.proofs.PageFacts.{ends_by, pages_more}
use Rattle.pager.specs.Changed.{IsLaid, draw_of}
use Rattle.pager.proofs.sealing.lay_out.Goals as goal

pub laying-preserved : goal.laying-preserved
laying-preserved c =
    let keys = c.args.codec.now in
    let changed = c.args.changed.now in
    let draws : List ℕ = c.args.draws.now in
    let old : List ℕ = c.args.pages.now in
    let size : ℕ = keys.profile.page_size in
    let reserve : ℕ = keys.profile.reserve in
    let k : ℕ = c.laying.k in
    let inner : c.profile.result.now.page_size ≡ size = ap (λ (p : Profile). p.page_size) c.profile.ensures.value in
    let behind : c.profile-2.result.now.reserve ≡ reserve = ap (λ (p : Profile). p.reserve) c.profile-2.ensures.value in
    let less : k < length changed.numbers = omega (arith, c.laying-test.true, c.len-k-end.ensures.value) in
    let within : size * k + size ≤ length c.laying.pages = omega
    (arith, ends_by size k (length changed.numbers) less, c.laying.invariant.length_kept, c.requires.size) in
    let whole : size * k + size - size * k ≡ size = omega arith in
    let part : k * reserve + reserve - k * reserve ≡ reserve = omega arith in
    let draw : take (k * c.profile-2.result.now.reserve + c.profile-2.result.now.reserve - k * c.profile-2.result.now.reserve)
    (drop (k * c.profile-2.result.now.reserve) draws) ≡ draw_of reserve draws k =
    ap (λ (r : ℕ). take (k * r + r - k * r) (drop (k * r) draws)) behind ∙ ap (λ (n : ℕ). take n (drop (k * reserve) draws)) part in
    let laid : IsLaid keys changed draws k c.lay.new.page = record {
      is = c.lay.ensures ∙ (λ i. c.page.ensures.value i ++ draw i);
      plain = ap (λ (l : List ℕ). length l) (sym c.page.ensures.value) ∙ c.page.ensures.size ∙ c.requires.plain;
    } in
    rw inner (pages_more (λ (i : ℕ) (l : List ℕ). IsLaid keys changed draws i l) size old c.laying.pages c.lay.new.page k c.laying.invariant within
    (omega (arith, inner, within, whole)) laid)
