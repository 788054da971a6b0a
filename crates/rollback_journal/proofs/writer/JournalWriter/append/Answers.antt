use Rattle.std.proofs.Common.{◌≡◌, ◌<◌, ◌≤◌, ◌∷◌, [], ◌++◌, List, ℕ, length, ap, sym, ◌∙◌, subst, arith}
use Rattle.edge_model.specs.Files.{Files, Torn, with_file_bytes, written, contents}
use Rattle.edge_model.specs.Images.{From, LeavesOnly, Changes}
use Rattle.edge_model.specs.Moments.{started_from, goes_from}
use Rattle.edge_model.specs.declared.role.Role.TheVariants.{Journal}
use Rattle.journal_format.specs.Records.{journal_record_bytes}
use Rattle.rollback_journal.specs.contracts.writer.JournalWriter.{the_view}
use Rattle.rollback_journal.specs.Plays.{PlaysAsBefore}
use Rattle.rollback_journal.specs.Writing.{Writing, WriterStands, end_at, all_records}
use Rattle.rollback_journal.proofs.Beside.{as_before_none, as_before_joins}
use Rattle.rollback_journal.proofs.WrittenBytes.{items_full, record_size}
use Rattle.rollback_journal.proofs.WriterSteps.{behind_keeps, appended_records, appended_stands}
use Rattle.rollback_journal.proofs.writer.JournalWriter.append.Goals as goal

pub returns-in_err-write_at-clause-any_moment : goal.returns-in_err-write_at-clause-any_moment
returns-in_err-write_at-clause-any_moment g c told =
    let v = the_view c.self.inside in
    let old = g.D.Disk.reads c.args.disk.now in
    let images = g.D.Disk.images c.args.disk.now in
    let stands = subst (λ (u : Writing). WriterStands u old images) (sym c.self.view_is) (c.requires.stands told) in
    let stage = ap (λ (u : Writing). u.stage) c.self.view_is ∙ c.requires.stage in
    subst (λ (u : Writing). LeavesOnly g.D.Disk.moment g.D.Disk.since c.args.disk.now c.write_at.new.self (From (PlaysAsBefore u.page_size) images)) c.self.view_is
    (goes_from g.met.D.Disk.counts_now (as_before_joins v.page_size) (λ d f here step. behind_keeps v old images stage stands (end_at v) (length c.deref.result.now) d f here (omega arith) step)
    (started_from g.met.D.Disk.only_now c.args.disk.now (PlaysAsBefore v.page_size) (as_before_none v.page_size)) (c.write_at.ensures.time told) (c.write_at.ensures.crash told))

pub returns-clause-any_moment : goal.returns-clause-any_moment
returns-clause-any_moment g c told =
    let v = the_view c.self.inside in
    let old = g.D.Disk.reads c.args.disk.now in
    let images = g.D.Disk.images c.args.disk.now in
    let stands = subst (λ (u : Writing). WriterStands u old images) (sym c.self.view_is) (c.requires.stands told) in
    let stage = ap (λ (u : Writing). u.stage) c.self.view_is ∙ c.requires.stage in
    subst (λ (u : Writing). LeavesOnly g.D.Disk.moment g.D.Disk.since c.args.disk.now c.write_at.new.self (From (PlaysAsBefore u.page_size) images)) c.self.view_is
    (goes_from g.met.D.Disk.counts_now (as_before_joins v.page_size) (λ d f here step. behind_keeps v old images stage stands (end_at v) (length c.deref.result.now) d f here (omega arith) step)
    (started_from g.met.D.Disk.only_now c.args.disk.now (PlaysAsBefore v.page_size) (as_before_none v.page_size)) (c.write_at.ensures.time told) (c.write_at.ensures.crash told))

pub returns-clause-stands : goal.returns-clause-stands
returns-clause-stands g c told =
    let v = the_view c.self.inside in
    let old = g.D.Disk.reads c.args.disk.now in
    let images = g.D.Disk.images c.args.disk.now in
    let stands = subst (λ (u : Writing). WriterStands u old images) (sym c.self.view_is) (c.requires.stands told) in
    let stage = ap (λ (u : Writing). u.stage) c.self.view_is ∙ c.requires.stage in
    let new = g.D.Disk.reads c.write_at.new.self in
    let size = subst (λ (u : Writing). length c.args.image.now ≡ u.page_size) (sym c.self.view_is) c.requires.page.2 in
    let bytes : c.deref.result.now ≡ journal_record_bytes v.nonce c.args.n c.args.image.now =
    c.deref.ensures.value ∙ items_full c.self.inside.buffer.len c.write_record.new.out c.self.inside.buffer.items (record_size v.nonce c.args.n c.args.image.now c.write_record.new.out v.page_size c.self.inside.buffer.items c.write_record.ensures.bytes size c.self.invariant.1) c.self.inside.buffer.ok.0 ∙ c.write_record.ensures.bytes in
    let most = subst (λ (u : Writing). c.args.n ≤ u.initial) (sym c.self.view_is) c.requires.page.1 in
    let room = subst (λ (u : Writing). u.total < u.initial) (sym c.self.view_is) c.requires.room in
    let done = subst (λ (b : List ℕ). new.journal ≡ with_file_bytes (written (end_at v) b) old.journal) bytes (ap (λ (f : Files). f.journal) (c.in_ok-write_at.ensures.done told)) in
    appended_stands v old images stage stands c.args.n c.args.image.now c.requires.page.0 most size room new done (g.D.Disk.images c.write_at.new.self)
    (subst (λ (b : List ℕ). (f : Files) → g.D.Disk.images c.write_at.new.self f → From (Changes Journal (Torn (end_at v) (length b)) old) images f) bytes (c.write_at.ensures.crash told))

pub returns-clause-one_more : goal.returns-clause-one_more
returns-clause-one_more g c told =
    let v = the_view c.self.inside in
    let old = g.D.Disk.reads c.args.disk.now in
    let images = g.D.Disk.images c.args.disk.now in
    let stands = subst (λ (u : Writing). WriterStands u old images) (sym c.self.view_is) (c.requires.stands told) in
    let stage = ap (λ (u : Writing). u.stage) c.self.view_is ∙ c.requires.stage in
    let new = g.D.Disk.reads c.write_at.new.self in
    let size = subst (λ (u : Writing). length c.args.image.now ≡ u.page_size) (sym c.self.view_is) c.requires.page.2 in
    let bytes : c.deref.result.now ≡ journal_record_bytes v.nonce c.args.n c.args.image.now =
    c.deref.ensures.value ∙ items_full c.self.inside.buffer.len c.write_record.new.out c.self.inside.buffer.items (record_size v.nonce c.args.n c.args.image.now c.write_record.new.out v.page_size c.self.inside.buffer.items c.write_record.ensures.bytes size c.self.invariant.1) c.self.inside.buffer.ok.0 ∙ c.write_record.ensures.bytes in
    let most = subst (λ (u : Writing). c.args.n ≤ u.initial) (sym c.self.view_is) c.requires.page.1 in
    let room = subst (λ (u : Writing). u.total < u.initial) (sym c.self.view_is) c.requires.room in
    let done = subst (λ (b : List ℕ). new.journal ≡ with_file_bytes (written (end_at v) b) old.journal) bytes (ap (λ (f : Files). f.journal) (c.in_ok-write_at.ensures.done told)) in
    appended_records v old images stage stands c.args.n c.args.image.now c.requires.page.0 most size room new done
    ∙ ap (λ (u : Writing). all_records u (contents old.journal) ++ record { page = c.args.n; image = c.args.image.now } ∷ []) c.self.view_is
