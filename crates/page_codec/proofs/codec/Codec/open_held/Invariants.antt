use Rattle.std.proofs.Common.{ℕ, List}
use Rattle.std.specs.Prelude.{false, slice_index, slice_index_or}
use Rattle.page_codec.proofs.PageFacts.{PagesUpTo}
use Rattle.page_codec.specs.Pages.{IsOpenedIf, nth_page}
use Rattle.page_codec.proofs.codec.Codec.open_held.Given as goal

abbrev pub invariant-pages : goal.invariant-pages
invariant-pages l = PagesUpTo (λ (k : ℕ) (page : List ℕ). IsOpenedIf l.self (slice_index l.numbers k) (slice_index_or l.held k false)
    (nth_page l.self.profile.page_size l.fn.pages k) page) l.self.profile.page_size l.fn.pages l.pages l.i
