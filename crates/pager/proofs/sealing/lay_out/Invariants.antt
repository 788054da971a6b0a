use Rattle.std.proofs.Common.{ℕ, List}
use Rattle.page_codec.proofs.PageFacts.{PagesUpTo}
use Rattle.pager.specs.Changed.{IsLaid}
use Rattle.pager.proofs.sealing.lay_out.Given as goal

abbrev pub invariant-laying : goal.invariant-laying
invariant-laying l = PagesUpTo (λ (k : ℕ) (page : List ℕ). IsLaid l.codec l.changed l.draws k page) l.codec.profile.page_size l.fn.pages l.pages l.k
