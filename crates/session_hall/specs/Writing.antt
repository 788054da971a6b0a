-- Why the writing of a commit stops.
use Rattle.std.specs.Prelude.{ℕ, Bool, true, false, List, ⊤, ◌≡◌}
use Rattle.cipher_profile.specs.Profile.{is_clear}
use Rattle.page_codec.specs.Page.{FileKeys}
use Rattle.pager.specs.Changed.{same_layout}
use Rattle.pager.specs.UnderWay.{HasNewPages, Start}
use Rattle.page_plan.specs.declared.error.WriteError.{WriteError}
use Rattle.page_plan.specs.declared.error.WriteError.TheVariants.{LayoutDiffers, OutOfMemory as WriteMemory, TagRefused as PageRefused, DiskFault as WriteDisk, EntropyFault as WriteEntropy}
use Rattle.session_hall.specs.Machine.{is_sealed}
use Rattle.session_hall.specs.Session.{Session}
use Rattle.session_hall.specs.declared.step.Answer.{Answer}
use Rattle.session_hall.specs.declared.step.Answer.TheVariants.{Done, Page, Busy, Refused, TagRefused, Misuse, Down, DiskFault, EntropyFault, OutOfMemory}

-- Main with the pages that the session's commit seals anew, by a codec of the same layout, of files that begin alike.
abbrev pub HasWritten : Start → FileKeys → FileKeys → Session → (ℕ → List ℕ) → Bool → List ℕ → List ℕ → Type 0
HasWritten start read write session plain tells drawn main =
    (is_clear write.profile ≡ is_clear read.profile) × (same_layout read write ≡ true) × HasNewPages start write (is_sealed session) plain tells drawn main

-- how a plan that is not written stops a commit: both codecs have the hall's layout, so that memory alone is wanted
abbrev pub write_answer : WriteError → Answer
write_answer LayoutDiffers = OutOfMemory
write_answer WriteMemory = OutOfMemory
write_answer (PageRefused page) = TagRefused page
write_answer WriteDisk = DiskFault
write_answer WriteEntropy = EntropyFault

-- a commit stops so where the disk tells, and no other program changed the file
abbrev pub IsChangeAnswer : Answer → Type 0
IsChangeAnswer Done = ⊥
IsChangeAnswer Page = ⊥
IsChangeAnswer Busy = ⊥
IsChangeAnswer (Refused error) = ⊥
IsChangeAnswer (TagRefused page) = ⊥
IsChangeAnswer Misuse = ⊥
IsChangeAnswer Down = ⊥
IsChangeAnswer DiskFault = ⊤
IsChangeAnswer EntropyFault = ⊤
IsChangeAnswer OutOfMemory = ⊤
