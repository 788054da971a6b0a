use Rattle.std.proofs.Common.{ℕ, ◌+◌}
use Rattle.page_codec.specs.MacKey.{at_once}
use Rattle.page_codec.specs.Pages.{AreAnswered, AreEnds}
use Rattle.page_codec.proofs.codec.Codec.later_hold.Given as goal

abbrev pub invariant-pages : goal.invariant-pages
invariant-pages l = (number : ℕ → ℕ) → AreEnds number l.at (at_once l.self.profile.hash) l.ends
    → AreAnswered l.self number l.pages l.at (l.at + l.j) l.fn.held l.held
