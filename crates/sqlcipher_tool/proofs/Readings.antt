-- What holds of the answers to each reading of a file.
use Rattle.std.proofs.Common.{List, ℕ}
use Rattle.cipher_profile.specs.declared.keys.Secret.{Secret}
use Rattle.cipher_profile.specs.declared.profile.Profile.{Profile}
use Rattle.page_codec.specs.Page.{keys_of}
use Rattle.pager.specs.Pages.{opened_pages}
use Rattle.sqlcipher_tool.specs.Opening.{opened_with}
use Rattle.sqlcipher_tool.specs.Reading.{reading_answers}
use Rattle.sqlcipher_tool.specs.declared.reading.Reading.{Reading}
use Rattle.sqlcipher_tool.specs.declared.reading.Reading.TheVariants.{Tags, Header, Salvage, OnPages}
use Rattle.sqlcipher_tool.proofs.Recoveries.{header_of_file, tags_of_file}
use Rattle.sqlcipher_tool.proofs.Salvaging.{salvage_of_file}
use Rattle.sqlcipher_tool.proofs.VerifiedFile.{AreOfFile, opened_of_file}

-- none is that to a recovery
pub reading_of_file : (reading : Reading) (profile : Profile) (secret : Secret) (file : List ℕ) → AreOfFile (reading_answers reading profile secret file)
reading_of_file Tags profile secret file = (tags_of_file profile secret file, tt)
reading_of_file Header profile secret file = (header_of_file profile secret file, tt)
reading_of_file Salvage profile secret file = (salvage_of_file profile secret file, tt)
reading_of_file (OnPages job) profile secret file =
    opened_of_file job (opened_with profile secret file) (λ n. opened_pages (keys_of profile secret file) file n)
