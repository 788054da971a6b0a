use Rattle.std.proofs.Common.{◌≡◌, List, ℕ, ap, ◌∙◌, drop, replicate}
use Rattle.rollback_journal.specs.contracts.writer.JournalWriter.{the_view}
use Rattle.rollback_journal.proofs.WrittenBytes.{sector_marked, sector_plain}
use Rattle.rollback_journal.proofs.writer.JournalWriter.first_sector.Goals as goal

pub returns-then-self-eq0 : goal.returns-then-self-eq0
returns-then-self-eq0 c =
    let zeros : c.split_at_mut-front.result.1.now ≡ replicate 484 0 = c.split_at_mut-front.ensures.back in
    let fewer : c.split_at_mut-mark.result.1.now ≡ replicate 468 0 = c.split_at_mut-mark.ensures.back ∙ ap (λ (l : List ℕ). drop 16 l) zeros in
    sector_marked (the_view c.self.inside) c.args.self.now c.copy_from_slice.new.self c.copy_from_slice-then-self-eq0.new.self c.split_at_mut-mark.result.1.now c.self.view_is c.if-self-eq0.true
    (c.copy_from_slice.ensures.after ∙ c.write_header.ensures.bytes) c.copy_from_slice-then-self-eq0.ensures.after fewer

pub returns-else-self-eq0 : goal.returns-else-self-eq0
returns-else-self-eq0 c =
    let zeros : c.split_at_mut-front.result.1.now ≡ replicate 484 0 = c.split_at_mut-front.ensures.back in
    sector_plain (the_view c.self.inside) c.args.self.now c.copy_from_slice.new.self c.split_at_mut-front.result.1.now c.self.view_is c.if-self-eq0.false (c.copy_from_slice.ensures.after ∙ c.write_header.ensures.bytes) zeros
