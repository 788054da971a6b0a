-- The names of a file that are near that of `find`: they are it but for the case of ASCII letters.
use Rattle.std.specs.Prelude.{ℕ, List, [], Result, Ok, Err}
use Rattle.cipher_profile.specs.declared.keys.Secret.{Secret}
use Rattle.cipher_profile.specs.declared.profile.Profile.{Profile}
use Rattle.db_format.specs.Pages.{Pages}
use Rattle.page_codec.specs.Page.{keys_of}
use Rattle.pager.specs.Opening.{Opened}
use Rattle.pager.specs.Pages.{opened_pages}
use Rattle.pager.specs.declared.opening.OpenError.{OpenError}
use Rattle.schema_names.specs.Near.{near_names, schema_rows}
use Rattle.schema_names.specs.declared.near.NearName.{NearName}
use Rattle.sqlcipher_tool.specs.Opening.{opened_with}

-- those of the schema of these pages, ten at most
abbrev pub names_in : List ℕ → Pages → List NearName
names_in name pages = near_names name (schema_rows pages)

-- those of a file that opens; of another there are none
abbrev pub opened_names : Result Opened OpenError → (ℕ → List NearName) → List NearName
opened_names (Ok opened) names = names opened.count
opened_names (Err error) names = []

-- of this file, opened with this secret
abbrev pub names_of : Profile → Secret → List ℕ → List ℕ → List NearName
names_of profile secret name file =
    opened_names (opened_with profile secret file) (λ count. names_in name (opened_pages (keys_of profile secret file) file count))
