use Rattle.page_codec.specs.Pages.{AreAnswered, run_from}
use Rattle.page_codec.proofs.codec.Codec.each_holds.Given as goal

abbrev pub invariant-pages : goal.invariant-pages
invariant-pages l = AreAnswered l.self (run_from l.first) l.pages l.from l.i l.fn.held l.held
