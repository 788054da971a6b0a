use Rattle.std.proofs.Common.{◌+◌}
use Rattle.page_codec.specs.Pages.{AreTagged}
use Rattle.page_codec.proofs.codec.Codec.put_batch.Given as goal

abbrev pub invariant-pages : goal.invariant-pages
invariant-pages l = AreTagged l.self l.numbers l.at (l.at + l.j) l.fn.pages l.pages
