use Rattle.page_codec.proofs.TagPlace.{accepts-no_tag}
use Rattle.page_codec.proofs.laws.no_tag_law.Goals as goal

pub returns : goal.returns
returns c = accepts-no_tag
