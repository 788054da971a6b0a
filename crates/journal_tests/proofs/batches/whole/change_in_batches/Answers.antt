use Rattle.std.proofs.Common.{◌≡◌, false, length, sym, ◌∙◌, ap, rules}
use Rattle.std.proofs.lemmas.List.{length-replicate}
use Rattle.rollback_journal.specs.Writing.{Writing, at_first}
use Rattle.atomic_commit.specs.Marks.{marked_count}
use Rattle.atomic_commit.proofs.Batched.{count_none, ready_first, batches_first}
use Rattle.journal_tests.proofs.batches.whole.change_in_batches.Goals as goal

pub write_batch-requires : goal.write_batch-requires
write_batch-requires g c κs lives =
    let r = c.requires.1.1 in
    let none : marked_count c.args.recorded.now ≡ 0 = ap marked_count r.0.1 ∙ count_none g.base.pages in (
      lives.0,
      (
        search rules,
        (
          lives.1,
          (
            (ap (λ (w : Writing). w.page_size) r.0.0, ap (λ (w : Writing). w.initial) r.0.0),
            (
              ap length r.0.1 ∙ length-replicate g.base.pages false,
              (
                ready_first c.args.recorded.now _ _ _ _ _ none (r.0.0 ∙ sym (ap (λ (w : Writing). at_first w.page_size w.initial) r.0.0)),
                (
                  λ told. batches_first g.base c.args.recorded.now _ _ _ _ _ _ none (r.1.1.1.1.1.1 told),
                  (
                    r.1.1.0.0,
                    (r.1.1.1.1.1.0.0, r.1.1.1.1.1.0.1, r.1.1.0.1),
                  ),
                ),
              ),
            ),
          ),
        ),
      ),
    )

pub write_batch-requires-2 : goal.write_batch-requires-2
write_batch-requires-2 g c κs lives =
    let r = c.requires.1.1 in
    let marks = ap length r.0.1 ∙ length-replicate g.base.pages false in (
      lives.0,
      (
        search rules,
        (
          lives.1,
          (
            c.write_batch.ensures.sizes,
            (
              c.in_ok-write_batch.ensures.marks.as_many ∙ marks,
              (
                c.in_ok-write_batch.ensures.ready,
                (
                  c.in_ok-write_batch.ensures.batches,
                  (
                    r.1.1.1.0.0,
                    (c.write_batch.ensures.buffer ∙ r.1.1.1.1.1.0.0, r.1.1.1.1.1.0.1, r.1.1.1.0.1),
                  ),
                ),
              ),
            ),
          ),
        ),
      ),
    )

pub end_batches-requires : goal.end_batches-requires
end_batches-requires g c κs lives =
    let r = c.requires.1.1 in
    let marks = ap length r.0.1 ∙ length-replicate g.base.pages false in (
      lives.0,
      (
        search rules,
        (
          lives.1,
          (
            c.write_batch-2.ensures.sizes,
            (
              c.in_ok-write_batch-2.ensures.marks.as_many ∙ c.in_ok-write_batch.ensures.marks.as_many ∙ marks,
              (
                c.in_ok-write_batch-2.ensures.ready,
                (
                  c.in_ok-write_batch-2.ensures.batches,
                  (
                    r.1.0,
                    (
                      r.1.1.1.1.0.0,
                      (c.write_batch-2.ensures.buffer ∙ c.write_batch.ensures.buffer ∙ r.1.1.1.1.1.0.0, r.1.1.1.1.1.0.1, r.1.1.1.1.0.1),
                    ),
                  ),
                ),
              ),
            ),
          ),
        ),
      ),
    )
