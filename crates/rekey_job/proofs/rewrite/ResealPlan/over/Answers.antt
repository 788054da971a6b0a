use Rattle.std.proofs.Common.{◌∙◌, ℕ, Bool, if◌then◌else◌, replicate, sym, ap}
use Rattle.page_plan.proofs.Planning.{written_none}
use Rattle.rekey_job.proofs.rewrite.ResealPlan.over.Goals as goal

-- no byte over a page leaves it as it is
pub returns-clause-becomes : goal.returns-clause-becomes
returns-clause-becomes c = λ page.
    let zeros = replicate c.args.self.now.usable 0 in
    ap (λ (b : Bool). if b then zeros else page) (sym c.is_zeroed.ensures)
    ∙ sym (written_none 16 (if c.is_zeroed.result then zeros else page))
