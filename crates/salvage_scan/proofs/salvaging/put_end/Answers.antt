use Rattle.salvage_scan.proofs.AnswerSteps.{flushed, flushed_part}
use Rattle.salvage_scan.proofs.salvaging.put_end.Goals as goal

pub returns-in-Err-flush-clause-part : goal.returns-in-Err-flush-clause-part
returns-in-Err-flush-clause-part g c told = flushed_part (c.in-Ok.ensures.done told) (c.in-Err-flush.ensures.part told)

pub returns-in-Ok-flush-clause-text : goal.returns-in-Ok-flush-clause-text
returns-in-Ok-flush-clause-text g c told = flushed (c.in-Ok.ensures.done told) (c.in-Ok-flush.ensures.done told) c.in-Ok-flush.ensures.empty
