-- What `probe` answers: the first profile whose key fits. It recovers nothing.
use Rattle.std.specs.Prelude.{ℕ, ◌==◌, ◌&&◌, nat_le, Bool, List, [], ◌∷◌, length, is_some, unwrap_or, find, Option, Some, None}
use Rattle.edge_model.specs.Files.{Files, main_of}
use Rattle.cipher_profile.specs.declared.keys.Secret.{Secret}
use Rattle.cipher_profile.specs.declared.profile.Profile.{Profile}
use Rattle.profile_word.specs.Tried.{probed_profiles}
use Rattle.page_codec.specs.Page.{FileKeys, fits, keys_of}
use Rattle.sqlcipher_tool.specs.Answer.{Answer, Cause, first_answer, done, refused, key_refused}
use Rattle.sqlcipher_tool.specs.declared.status.Refusal.TheVariants.{JournalThere, Empty}
use Rattle.pager.specs.File.{first_page}
use Rattle.sqlcipher_tool.specs.Text.{probe_report}

-- the file has a page of the keys' profile, and the key fits it
abbrev pub fits_file : FileKeys → List ℕ → Bool
fits_file keys file = nat_le keys.profile.page_size (length file) && fits keys (first_page keys.profile file)

-- and so with the keys that the secret gives for the file in this profile
abbrev pub is_fitting : Secret → List ℕ → Profile → Bool
is_fitting secret file profile = fits_file (keys_of profile secret file) file

-- what stands in the way of `probe`, in order
abbrev pub probe_causes : Files → List Cause
probe_causes files =
    record { holds = is_some files.journal; answer = refused JournalThere }
    ∷ record { holds = length (main_of files) == 0; answer = refused Empty }
    ∷ []

-- the answer for the profile that was found
abbrev pub found_answer : Option Profile → Answer
found_answer None = key_refused
found_answer (Some profile) = done (probe_report profile)

-- the first profile that does, in the order in which they are tried
unfoldable pub first_fitting : Secret → List ℕ → Option Profile
first_fitting secret file = find (is_fitting secret file) probed_profiles

-- the answer to `probe` with this secret
abbrev pub probe_answer : Secret → Files → Answer
probe_answer secret files = unwrap_or (first_answer (probe_causes files)) (found_answer (first_fitting secret (main_of files)))
