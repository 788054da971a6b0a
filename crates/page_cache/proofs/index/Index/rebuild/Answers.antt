use Rattle.std.proofs.Common.{arith, ◌≡◌, Some, length, ◌∷◌, ◌∙◌, ap, subst}
use Rattle.std.specs.Option.{option_or}
use Rattle.page_cache.specs.Index.{named}
use Rattle.page_cache.specs.Frames.{HaveDistinctPages, frame_at}
use Rattle.page_cache.proofs.Naming.{named_next}
use Rattle.page_cache.proofs.index.Index.rebuild.Goals as goal

pub loop-frame-preserved-in-Some-held : goal.loop-frame-preserved-in-Some-held
loop-frame-preserved-in-Some-held c =
    let rest = c.next.new.self in
    let first : c.loop-frame.frame-iterator ≡ (c.in-Some.frame.now, Some c.in-Some-held.held) ∷ rest = c.in-Some.ensures.steps ∙ ap (λ v. (c.in-Some.frame.now, v) ∷ rest) c.in-Some-held.is in
    let kept = c.loop-frame.invariant in
    let apart : HaveDistinctPages ((c.in-Some.frame.now, Some c.in-Some-held.held) ∷ rest) = subst HaveDistinctPages first kept.2 in
    let was = kept.3 in let left = kept.4 in let room = c.set.ensures.room in let spare = c.set.ensures.spare in let one = ap length first in (
      tt,
      tt,
      apart.1,
      omega arith,
      omega arith,
      λ m. named_next m c.in-Some.frame.now c.in-Some-held.held rest _ _ _ apart.0 (subst (λ es. frame_at m c.args.table.now.entries ≡ option_or (frame_at m es) (named c.loop-frame.self.frames m)) first (kept.5 m)) (c.set.ensures.named m),
    )
