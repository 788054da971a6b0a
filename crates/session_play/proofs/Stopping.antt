-- What a step leaves of the disk, as its state tells.
use Rattle.std.proofs.Common.{◌≡◌, ◌<◌, ◌∙◌, ℕ, Bool, true, false, IsTrue, List, length, Option, Some, None, inl, inr, ⊎_elim, refl}
use Rattle.edge_model.specs.Files.{Files, main_of}
use Rattle.edge_model.specs.Images.{Each, LeavesOnly}
use Rattle.edge_model.specs.Moments.{and_then, started, weaker}
use Rattle.cipher_profile.specs.declared.profile.Profile.{Profile}
use Rattle.session_hall.specs.Commit.{Commitment, MayHaveWritten, StepLeaves}
use Rattle.session_hall.specs.Draws.{TellsDraws}
use Rattle.session_hall.specs.Kept.{IsHallSettled, StandsAsRead}
use Rattle.session_hall.specs.Machine.{state}
use Rattle.session_hall.specs.Session.{Session, session_at}
use Rattle.session_hall.specs.declared.step.Answer.{Answer}
use Rattle.session_hall.specs.declared.step.Answer.TheVariants.{Done, Page, Busy, Refused, TagRefused, Misuse, Down, DiskFault, EntropyFault, OutOfMemory}
use Rattle.session_play.specs.Draws.{MadeDraws}
use Rattle.session_play.specs.Moments.{HasMain, IsBeforeCommit, IsInAnswered, IsInCommit, IsInStep, StandsAs}
use Rattle.session_play.specs.declared.script.ScriptStep.{ScriptStep}

-- an image that stands as the disk reads has Main alone
has_main : (now image : Files) → (0 < length (main_of now) → now.journal ≡ None) → StandsAsRead now image → HasMain (main_of now) image
has_main now image alone stands = record { main = rw stands.main refl; alone = λ some. stands.journal ∙ alone some }

-- a settled disk leaves Main as it reads
pub settled_main : (now : Files) (images : Files → Type 0) → IsHallSettled now images → Each images (HasMain (main_of now))
settled_main now images settled = λ c here. has_main now c settled.alone (settled.stands c here)

-- so it stands as Main reads
pub stands_as : (now : Files) (images : Files → Type 0) → IsHallSettled now images → StandsAs (main_of now) now images
stands_as now images settled = record { main = refl; settled = settled }

module _ {D : Type 0} (reads : D → Files) (images : D → Files → Type 0) (moment : D → ℕ) (since : D → ℕ → Files → Type 0) where
  -- before the first step
  pub begun_leaves : (only_now : (disk : D) (c : Files) → since disk (moment disk) c → images disk c) (disk : D) → IsHallSettled (reads disk) (images disk)
      → LeavesOnly moment since disk disk (HasMain (main_of (reads disk)))
  begun_leaves only_now disk settled = started only_now disk (HasMain (main_of (reads disk))) (settled_main (reads disk) (images disk) settled)

  -- one step after another
  pub joined : (old mid new : D) (P Q R : Files → Type 0) → ((c : Files) → P c → R c) → ((c : Files) → Q c → R c) → LeavesOnly moment since old mid P
      → LeavesOnly moment since mid new Q → LeavesOnly moment since old new R
  joined old mid new P Q R p q first next = and_then (weaker p first) (weaker q next)

  -- the file that a commit makes
  abbrev committed_file : {old new : D} {session : Session} {file before after : List ℕ} {told : Type 0} → Commitment moment since session file told before after old new → Option (List ℕ)
  committed_file (inl stays) = None
  committed_file (inr changed) = Some changed.0

  -- what a commit leaves, where the entropy did not fail
  committing : (old new : D) (session : Session) {told : Type 0} {before after : List ℕ} (commitment : Commitment moment since session (main_of (reads old)) told before after old new)
      → LeavesOnly moment since old new (IsInCommit session (main_of (reads old)) (committed_file commitment))
  committing old new session (inl stays) = weaker (λ c has. inl has) stays
  committing old new session (inr changed) = weaker (λ c has. ⊎_elim (λ was. inl was) (λ now. inr (changed.1.changes, now)) has) changed.2

  answered : (old new : D) (session : Session) (answer : Answer) (made : Option (List ℕ)) → MayHaveWritten answer → LeavesOnly moment since old new (IsInCommit session (main_of (reads old)) made)
      → (answer ≡ EntropyFault → LeavesOnly moment since old new (IsBeforeCommit session (main_of (reads old))))
      → LeavesOnly moment since old new (IsInAnswered answer session (main_of (reads old)) made)
  answered old new session Done made may leaves only_old = leaves
  answered old new session Page made may leaves only_old = absurd may
  answered old new session Busy made may leaves only_old = absurd may
  answered old new session (Refused error) made may leaves only_old = absurd may
  answered old new session (TagRefused page) made may leaves only_old = absurd may
  answered old new session Misuse made may leaves only_old = absurd may
  answered old new session Down made may leaves only_old = absurd may
  answered old new session DiskFault made may leaves only_old = leaves
  answered old new session EntropyFault made may leaves only_old = only_old refl
  answered old new session OutOfMemory made may leaves only_old = absurd may

  module _ (old new : D) (layout : Profile) (sessions : List Session) (page : List ℕ) (entry : ScriptStep) (answer : Answer) (entropy : Bool) (before after : List ℕ) where
    abbrev Leaves : Type 0
    Leaves = StepLeaves reads moment since entry.step answer (session_at sessions entry.session) (TellsDraws entropy layout) before after old new

    -- the file that a step makes, if it is a commit
    abbrev step_file : Leaves → Option (List ℕ)
    step_file (inl stands) = None
    step_file (inr commit) = committed_file commit.2

    -- and where the disk may not tell
    abbrev pub made_file : (tells : Bool) → (IsTrue tells → Leaves) → Option (List ℕ)
    made_file true leaves = step_file (leaves refl)
    made_file false leaves = None

    step_draws : (leaves : Leaves) → IsTrue entropy → MadeDraws layout (session_at sessions entry.session) (step_file leaves) before after
    step_draws (inl stands) draws = tt
    step_draws (inr commit) draws = of_commit commit.2
      where
        of_commit : (commitment : Commitment moment since (session_at sessions entry.session) (main_of (reads old)) (TellsDraws entropy layout) before after old new)
            → MadeDraws layout (session_at sessions entry.session) (committed_file commitment) before after
        of_commit (inl stays) = tt
        of_commit (inr changed) = λ other. changed.1.draws (draws, other)

    -- its pages have bytes of their own
    pub made_draws : (tells : Bool) (leaves : IsTrue tells → Leaves) → IsTrue entropy → MadeDraws layout (session_at sessions entry.session) (made_file tells leaves) before after
    made_draws true leaves draws = step_draws (leaves refl) draws
    made_draws false leaves draws = tt

    abbrev Only : Type 0
    Only = answer ≡ EntropyFault → LeavesOnly moment since old new (IsBeforeCommit (session_at sessions entry.session) (main_of (reads old)))

    step_leaves : IsHallSettled (reads old) (images old) → (leaves : Leaves) → Only → LeavesOnly moment since old new (IsInStep (Some entry) answer (step_file leaves) (state (reads old) layout sessions page))
    step_leaves settled (inl stands) only_old = weaker (λ c as_read. inl (has_main (reads old) c settled.alone as_read)) stands
    step_leaves settled (inr commit) only_old =
        weaker (λ c has. inr (commit.0, has)) (answered old new (session_at sessions entry.session) answer (committed_file commit.2) commit.1 (committing old new (session_at sessions entry.session) commit.2) only_old)

    -- what a step leaves, with one file for all moments of a commit
    pub made_leaves : (tells : Bool) (leaves : IsTrue tells → Leaves) → IsTrue tells → IsHallSettled (reads old) (images old) → Only
        → LeavesOnly moment since old new (IsInStep (Some entry) answer (made_file tells leaves) (state (reads old) layout sessions page))
    made_leaves true leaves told settled only_old = step_leaves settled (leaves refl) only_old
    made_leaves false leaves told settled only_old = absurd (never told)
      where
        never : IsTrue false → ⊥
        never is = cc
