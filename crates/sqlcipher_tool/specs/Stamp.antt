-- What `stamp` answers, and what it makes of a file: page 1 has another number in one field, and changes as `specs/FirstPage.antt` says.
--
-- | offset | field             | becomes                         |
-- | 60     | user version      | the number, where it is stamped |
-- | 68     | application id    | the number, where it is stamped |
use Rattle.std.specs.Prelude.{ℕ, List, Result, Ok, Err}
use Rattle.std.specs.Int.{w32, to_be_bytes}
use Rattle.cipher_profile.specs.declared.keys.Secret.{Secret}
use Rattle.cipher_profile.specs.declared.profile.Profile.{Profile}
use Rattle.page_codec.specs.Page.{FileKeys}
use Rattle.pager.specs.Opening.{Opened}
use Rattle.pager.specs.declared.opening.OpenError.{OpenError}
use Rattle.sqlcipher_tool.specs.Answer.{Answer, done}
use Rattle.sqlcipher_tool.specs.FirstPage.{IsFirstChanged}
use Rattle.sqlcipher_tool.specs.Opening.{open_answer, opened_with}
use Rattle.sqlcipher_tool.specs.Text.{stamped_report}
use Rattle.sqlcipher_tool.specs.declared.command.Field.{Field}
use Rattle.sqlcipher_tool.specs.declared.command.Field.TheVariants.{UserVersion, ApplicationId}

-- where the field stands
abbrev pub field_at : Field → ℕ
field_at UserVersion = 60
field_at ApplicationId = 68

-- the file `after` is the file `before` with this number in the field
abbrev pub IsStamped : FileKeys → Field → ℕ → List ℕ → List ℕ → Type 0
IsStamped keys field value before after = IsFirstChanged keys (field_at field) (to_be_bytes w32 value) before after

-- the answer on a file that opens, or to one that does not
abbrev pub stamped_answer : Result Opened OpenError → Answer
stamped_answer (Ok opened) = done stamped_report
stamped_answer (Err error) = open_answer error

-- the answer to `stamp` on this file with this secret
abbrev pub stamp_answer : Profile → Secret → List ℕ → Answer
stamp_answer profile secret file = stamped_answer (opened_with profile secret file)
