use Rattle.std.proofs.Common.{◌≡◌, ◌-◌, ◌+◌, Option, Some, ℕ, length, take, drop, List, sym, ◌∙◌, ap, subst, arith, rules, length-drop}
use Rattle.std.proofs.lemmas.List.{length-take}
use Rattle.edge_model.specs.Files.{Files, written, main_of}
use Rattle.edge_model.specs.Moments.{then_from}
use Rattle.journal_format.specs.Records.{Place, image_of, record_bytes_at, record_at}
use Rattle.journal_format.specs.Segments.{played}
use Rattle.rollback_journal.proofs.RecordSteps.{low_is, high_is, one_at}
use Rattle.rollback_journal.specs.Laying.{page_start, IsOneOf}
use Rattle.rollback_journal.specs.Playing.{journal_of, IsReadBack}
use Rattle.rollback_journal.proofs.Kept.{keeps_joins}
use Rattle.rollback_journal.proofs.ReadSteps.{read_size, image_is, still_in_play, only_read}
use Rattle.rollback_journal.proofs.playback.take_record.Goals as goal

pub lay_image-requires-clause-size : goal.lay_image-requires-clause-size
lay_image-requires-clause-size g c =
    (c.requires.size.0, c.requires.size.1, omega (arith, length-take (4 + c.args.page_size - 4) (drop 4 c.read_record.new.buffer), length-drop 4 c.read_record.new.buffer, c.requires.size.2, c.read_record.auto.buffer), search rules)

pub lay_image-requires-clause-in_play : goal.lay_image-requires-clause-in_play
lay_image-requires-clause-in_play g c told f left = still_in_play c.args.page_size _ _ f (c.read_record.ensures.same told)
    (c.requires.in_play told f (c.read_record.ensures.crash told f left))

pub returns-in_err-lay_image-clause-any_moment : goal.returns-in_err-lay_image-clause-any_moment
returns-in_err-lay_image-clause-any_moment g c told =
    then_from g.met.D.Disk.counts_now (keeps_joins c.args.page_size)
    (only_read g.D.Disk.images c.args.page_size (c.read_record.ensures.any_moment told)) (c.lay_image.ensures.any_moment told)

pub returns-clause-any_moment : goal.returns-clause-any_moment
returns-clause-any_moment g c told =
    then_from g.met.D.Disk.counts_now (keeps_joins c.args.page_size)
    (only_read g.D.Disk.images c.args.page_size (c.read_record.ensures.any_moment told)) (c.lay_image.ensures.any_moment told)

pub returns-clause-did : goal.returns-clause-did
returns-clause-did g c told =
    let j = journal_of (g.D.Disk.reads c.args.disk.now) in
    let place : Place = record { nonce = c.args.nonce; at = c.args.at } in
    let first = read_size c.args.page_size (length c.args.buffer.now) j place c.read_record.new.buffer c.in_ok-page.field-0 c.requires.size.2
    (c.in_ok-page.ensures.read told) in
    let read : IsReadBack c.args.page_size j place c.read_record.new.buffer (Some c.in-Some.page) = subst
    (λ (p : Option ℕ). IsReadBack c.args.page_size j place c.read_record.new.buffer p) c.in-Some.is first in
    let len : length c.read_record.new.buffer ≡ c.args.page_size + 8 = c.read_record.auto.buffer ∙ c.requires.size.2 in
    let image = image_is c.args.page_size c.read_record.new.buffer (record_bytes_at c.args.page_size j place) len read.2 in (
      read.0,
      low_is c.in-Some.page _ c.args.initial _ read.1 (c.requires.initial told) (omega (arith, c.if-page-initial.false)),
      c.in_ok-lay_image.ensures.laid told
          ∙ ap
          (λ (x : Files). written (page_start c.args.page_size c.in-Some.page) (take (4 + c.args.page_size - 4) (drop 4 c.read_record.new.buffer)) (main_of x))
          (c.read_record.ensures.same told)
          ∙ ap (λ (b : List ℕ). written (page_start c.args.page_size c.in-Some.page) b (main_of (g.D.Disk.reads c.args.disk.now))) image
          ∙ ap
          (λ (n : ℕ). written (page_start c.args.page_size n) (image_of (record_bytes_at c.args.page_size j place)) (main_of (g.D.Disk.reads c.args.disk.now))) read.1,
    )

pub returns-then-page-initial-clause-did : goal.returns-then-page-initial-clause-did
returns-then-page-initial-clause-did g c told =
    let j = journal_of (g.D.Disk.reads c.args.disk.now) in
    let place : Place = record { nonce = c.args.nonce; at = c.args.at } in
    let first = read_size c.args.page_size (length c.args.buffer.now) j place c.read_record.new.buffer c.in_ok-page.field-0 c.requires.size.2
    (c.in_ok-page.ensures.read told) in
    let read : IsReadBack c.args.page_size j place c.read_record.new.buffer (Some c.in-Some.page) = subst
    (λ (p : Option ℕ). IsReadBack c.args.page_size j place c.read_record.new.buffer p) c.in-Some.is first in
    (read.0, high_is c.in-Some.page _ c.args.initial _ read.1 (c.requires.initial told) (omega (arith, c.if-page-initial.true)), ap main_of (c.read_record.ensures.same told))

pub lay_image-requires-clause-one : goal.lay_image-requires-clause-one
lay_image-requires-clause-one g c told =
    let j = journal_of (g.D.Disk.reads c.args.disk.now) in
    let place : Place = record { nonce = c.args.nonce; at = c.args.at } in
    let first = read_size c.args.page_size (length c.args.buffer.now) j place c.read_record.new.buffer c.in_ok-page.field-0 c.requires.size.2
    (c.in_ok-page.ensures.read told) in
    let read : IsReadBack c.args.page_size j place c.read_record.new.buffer (Some c.in-Some.page) = subst
    (λ (p : Option ℕ). IsReadBack c.args.page_size j place c.read_record.new.buffer p) c.in-Some.is first in
    let low = low_is c.in-Some.page _ c.args.initial _ read.1 (c.requires.initial told) (omega (arith, c.if-page-initial.false)) in
    let one = one_at c.args.page_size c.in-Some.page (take (4 + c.args.page_size - 4) (drop 4 c.read_record.new.buffer))
    (record_at c.args.page_size j place) (played c.args.page_size j) read.1 (c.requires.one told read.0 low) in
    subst
    (λ (x : Files). IsOneOf c.args.page_size (record { page = c.in-Some.page; image = take (4 + c.args.page_size - 4) (drop 4 c.read_record.new.buffer) }) (played c.args.page_size (journal_of x)))
    (sym (c.read_record.ensures.same told)) one
