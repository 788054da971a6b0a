use Rattle.std.proofs.Common.{arith, ◌≡◌, ◌∙◌, ℕ, ◌+◌, ◌&&◌, nat_le, if◌then◌else◌, Option, IfSome, IsTrue, ap, subst, refl}
use Rattle.log_format.specs.Frames.{frame_page}
use Rattle.log_format.specs.Logs.{frame_bytes_at}
use Rattle.log_recovery.specs.Laying.{log_of}
use Rattle.log_recovery.proofs.FrameSteps.{left_none}
use Rattle.rollback_journal.specs.Laying.{page_start, reach}
use Rattle.log_view.proofs.IndexSteps.{noted_next, reached_next}
use Rattle.log_view.proofs.Steps.{then_read}
use Rattle.log_view.proofs.indexing.index_frames.Goals as goal

pub loop-k-preserved : goal.loop-k-preserved
loop-k-preserved g c =
    let found : IsTrue g.D.Disk.tells → c.in-Some.page ≡ frame_page (frame_bytes_at c.args.reading.now.page_size (log_of (g.D.Disk.reads c.loop-k.disk)) c.loop-k.k)
    = subst (λ (s : Option ℕ). IfSome s (λ (n : ℕ). IsTrue g.D.Disk.tells → n ≡ frame_page (frame_bytes_at c.args.reading.now.page_size (log_of (g.D.Disk.reads c.loop-k.disk)) c.loop-k.k)))
    c.in-Some.is c.in_ok-page.ensures.page in
    record {
      len = c.note-page_end.ensures.len ∙ c.loop-k.invariant.len;
      faults = omega (arith, c.loop-k.invariant.faults, c.page_of.ensures.cause.later);
      only = λ told. then_read (c.loop-k.invariant.only told) (c.page_of.ensures.only told);
      noted = λ told p low high. noted_next c.args.reading.now.page_size c.args.reading.now.frames c.loop-k.k p c.in-Some.page _ _ _ _
          (log_of (g.D.Disk.reads c.args.disk.now)) (log_of (g.D.Disk.reads c.loop-k.disk)) c.loop-k-test.true
          (ap log_of (c.loop-k.invariant.only told).stays) ((found told)) refl
          (c.note-page_end.ensures.noted p low (omega (arith, high, c.loop-k.invariant.len))) (c.loop-k.invariant.noted told p low high);
      reached = λ told. reached_next c.args.reading.now.page_size c.args.reading.now.pages c.args.reading.now.frames c.loop-k.k c.in-Some.page c.note-page_end.result c.loop-k.end c.max-end.result _
          (log_of (g.D.Disk.reads c.args.disk.now)) (log_of (g.D.Disk.reads c.loop-k.disk)) c.loop-k-test.true
          (ap log_of (c.loop-k.invariant.only told).stays) ((found told))
          (c.note-page_end.ensures.end ∙ ap (λ (n : ℕ). if nat_le 1 c.in-Some.page && nat_le c.in-Some.page n then page_start c.args.reading.now.page_size c.in-Some.page + c.args.reading.now.page_size else 0) (c.loop-k.invariant.len ∙ c.requires.table))
          c.max-end.ensures (c.loop-k.invariant.reached told);
    }

pub returns-clause-end : goal.returns-clause-end
returns-clause-end g c told =
    let none = ap (reach c.args.reading.now.page_size) (left_none c.args.reading.now.page_size c.args.reading.now.pages c.args.reading.now.frames c.loop-k.k (log_of (g.D.Disk.reads c.args.disk.now)) (omega (arith, c.loop-k-test.false))) in
    omega (arith, none, c.loop-k.invariant.reached told)
