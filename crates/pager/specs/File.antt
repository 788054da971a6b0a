-- The pages of Main, as they are stored.
use Rattle.std.specs.Prelude.{ℕ, ◌/◌, List, length}
use Rattle.cipher_profile.specs.declared.profile.Profile.{Profile}
use Rattle.page_codec.specs.Page.{FileKeys, stored_page}

-- how many whole pages a file has by its length
abbrev pub whole_pages : Profile → List ℕ → ℕ
whole_pages profile file = length file / profile.page_size

-- page 1 of a file, as it is stored
abbrev pub first_page : Profile → List ℕ → List ℕ
first_page profile file = stored_page profile.page_size 1 file

-- page n of a file, as it is stored
abbrev pub page_stored : FileKeys → List ℕ → ℕ → List ℕ
page_stored keys file n = stored_page keys.profile.page_size n file
