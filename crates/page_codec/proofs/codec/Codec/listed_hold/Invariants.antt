use Rattle.page_codec.specs.Pages.{AreAnswered, listed}
use Rattle.page_codec.proofs.codec.Codec.listed_hold.Given as goal

abbrev pub invariant-rest : goal.invariant-rest
invariant-rest l = AreAnswered l.self (listed l.numbers) l.pages 0 l.i l.fn.held l.held
