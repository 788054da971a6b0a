use Rattle.std.proofs.Common.{◌≡◌, ◌∙◌, ℕ, Bool, List, [], Option, None, Some, if◌then◌else◌, replicate, sym, ap}
use Rattle.cipher_profile.specs.Profile.{usable}
use Rattle.page_plan.proofs.Planning.{written_none}
use Rattle.pager.specs.Changed.{with_bytes}
use Rattle.session_hall.specs.Commit.{put_change}
use Rattle.session_hall.proofs.Written.{changed_sealed, rekeyed_sealed, unsealed}
use Rattle.session_hall.proofs.writing.SessionPlan.over.Goals as goal

-- a page that the session changed
pub returns-in-Some-clause-becomes : goal.returns-in-Some-clause-becomes
returns-in-Some-clause-becomes c = λ old.
    let over = c.over_changed.result in
    ap (λ (o : Option (List ℕ)). put_change c.args.n o old) (sym c.in-Some.ensures.value)
    ∙ c.over_changed.ensures.becomes old
    ∙ ap (λ (size : ℕ). with_bytes over.at over.bytes.now (if over.zeroed then replicate size 0 else old)) c.in-Some.ensures.size

pub returns-in-Some-clause-written : goal.returns-in-Some-clause-written
returns-in-Some-clause-written c = changed_sealed c.args.self.now c.args.n c.in-Some.page.now (sym c.in-Some.ensures.value)

pub returns-in-Some-clause-opens : goal.returns-in-Some-clause-opens
returns-in-Some-clause-opens c = λ unzeroed. changed_sealed c.args.self.now c.args.n c.in-Some.page.now (sym c.in-Some.ensures.value)
