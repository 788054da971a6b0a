use Rattle.std.proofs.Common.{ℕ, List}
use Rattle.std.specs.Prelude.{slice_index}
use Rattle.page_codec.proofs.PageFacts.{PagesUpTo}
use Rattle.page_codec.specs.Pages.{nth_page}
use Rattle.fresh_file.specs.Held.{IsSealedAs}
use Rattle.fresh_file.proofs.held.seal_each.Given as goal

abbrev pub invariant-sealing : goal.invariant-sealing
invariant-sealing l =
    PagesUpTo (λ (k : ℕ) (page : List ℕ). IsSealedAs l.codec (slice_index l.numbers k) (nth_page l.codec.profile.page_size l.room k) page)
    l.codec.profile.page_size l.fn.stored l.stored l.k
