use Rattle.page_codec.specs.Pages.{AreTagged}
use Rattle.page_codec.proofs.codec.Codec.put_tags.Given as goal

abbrev pub invariant-rest : goal.invariant-rest
invariant-rest l = AreTagged l.self l.numbers 0 l.i l.fn.pages l.pages
