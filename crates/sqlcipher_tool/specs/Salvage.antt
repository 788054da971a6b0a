-- What `salvage` answers: the rows of every sound leaf of a table, and the pages that are not accepted, whatever became of the schema,
-- the freelist, the header and page 1.
use Rattle.std.specs.Prelude.{ℕ, ◌&&◌, not, nat_lt, Bool, List, ◌++◌, unwrap_or, if◌then◌else◌}
use Rattle.std.specs.List.{list_all, range_with_len}
use Rattle.cipher_profile.specs.declared.keys.Secret.{Secret}
use Rattle.cipher_profile.specs.declared.profile.Profile.{Profile}
use Rattle.page_codec.specs.Page.{FileKeys, keys_of}
use Rattle.pager.specs.File.{whole_pages}
pub use Rattle.salvage_scan.specs.Salvage.{pages_of_file as file_pages}
use Rattle.salvage_scan.specs.Salvage.{salvage_lines}
use Rattle.salvage_scan.specs.Text.{salvage_report}
use Rattle.sqlcipher_tool.specs.Answer.{Answer, Cause, done, first_answer, key_refused}
use Rattle.sqlcipher_tool.specs.Opening.{length_causes, size_causes}

-- the profile has tags, and no page is accepted
abbrev pub opens_none : FileKeys → List ℕ → Bool
opens_none keys file =
    nat_lt 0 keys.profile.tag_len && list_all (λ n. not ((file_pages keys file).accepts n)) (range_with_len 1 (whole_pages keys.profile file))

-- a key that opens no page is refused; else there is a line for each row and for each page that is not accepted
abbrev pub salvaged_answer : FileKeys → List ℕ → Answer
salvaged_answer keys file = if opens_none keys file then key_refused else done (salvage_report (salvage_lines (file_pages keys file)))

-- what stands in the way of it, in order
abbrev pub salvage_causes : Profile → List ℕ → List Cause
salvage_causes profile file = length_causes profile file ++ size_causes profile file

-- the answer to `salvage` on this file with this secret
abbrev pub salvage_answer : Profile → Secret → List ℕ → Answer
salvage_answer profile secret file = unwrap_or (first_answer (salvage_causes profile file)) (salvaged_answer (keys_of profile secret file) file)
