use Rattle.page_codec.specs.Pages.{AreAnswered, listed}
use Rattle.page_codec.proofs.codec.Codec.take_each.Given as goal

abbrev pub invariant-pages : goal.invariant-pages
invariant-pages l = AreAnswered l.self (listed l.numbers) l.pages 0 l.i l.fn.held l.held
