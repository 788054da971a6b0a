use Rattle.page_codec.specs.Page.{keys_of}
use Rattle.sqlcipher_tool.proofs.RekeyedFile.{magic_stands, rekeyed_opens}
use Rattle.sqlcipher_tool.proofs.laws.rekey_opens_law.Goals as goal

pub returns : goal.returns
returns c = λ old_keys profile secret count old new old_listed listed sizes reserves.
    rekeyed_opens old_keys (keys_of profile secret new) count old new old_listed listed sizes reserves (magic_stands profile secret new)
