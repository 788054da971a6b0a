use Rattle.pager.specs.Reads.{then_read}
use Rattle.sqlcipher_tool.proofs.salvage.codec_to_salvage.Goals as goal

pub returns-clause-only_read : goal.returns-clause-only_read
returns-clause-only_read g c = λ told. then_read (c.in_ok-length.ensures.only_read told) (c.in_ok-codec.ensures.only_read told)
