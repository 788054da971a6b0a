-- What the state of a new file says of Fresh and of what was drawn.
use Rattle.std.specs.Prelude.{ℕ, ◌+◌, ◌/◌, ◌^◌, Bool, List, Option, ◌==◌, if◌then◌else◌}
use Rattle.cipher_profile.specs.Profile.{usable}
use Rattle.cipher_profile.specs.declared.profile.Profile.{Profile}
use Rattle.db_format.specs.Pages.{Pages}
use Rattle.db_format.specs.Seen.{marked}
use Rattle.fresh_file.specs.declared.state.FreshState.{FreshState}
use Rattle.fresh_file.specs.Fresh.{fresh_page}
use Rattle.fresh_file.specs.Held.{IsWellOnce, held_or, plain_at}
use Rattle.page_codec.specs.Page.{FileKeys}
use Rattle.fresh_file.specs.declared.held.HeldPages.{HeldPages}

-- what a page reads as that would read as these bytes in the file: the last that is held of it, or else they
abbrev pub page_as_held : FileKeys → HeldPages → ℕ → List ℕ → List ℕ
page_as_held keys held n other = held_or held.numbers.items (plain_at keys held.room.items) held.count n other

-- Its pages: their count is one more than that of the numbers that were taken, and those are accepted that were put.
abbrev pub fresh_pages : FreshState → Option (List ℕ) → Pages
fresh_pages state fresh = record {
  count = state.taken + 1;
  usable = usable state.codec.profile;
  page = fresh_page state.codec state.first.items (marked state.put) (page_as_held state.codec state.held) fresh;
  accepts = λ n. if n == 1 then state.has_first else marked state.put n;
}

-- Fresh and the held pages stand as the last call left them
abbrev pub IsWellAs : FreshState → ℕ → Bool → Bool → Option (List ℕ) → List ℕ → Type 0
IsWellAs state start tells draws_tell fresh drawn =
    IsWellOnce state.codec state.held.numbers.items state.held.room.items state.held.count (marked state.put) (state.taken + 1) start tells draws_tell fresh drawn

-- how many pages a file of this profile may have: those of 2^30 bytes
abbrev pub most_pages : Profile → ℕ
most_pages profile = 2 ^ 30 / profile.page_size
