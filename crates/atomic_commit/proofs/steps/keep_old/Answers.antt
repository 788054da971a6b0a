use Rattle.std.proofs.Common.{◌≡◌, inl, ℕ, List, [], ◌∷◌, ◌++◌, refl, sym, ◌∙◌, ap, subst, append_assoc}
use Rattle.edge_model.specs.Files.{Files, main_of}
use Rattle.edge_model.specs.Moments.{at_exit, started, started_from, goes_less, and_then, then_from}
use Rattle.journal_format.specs.Records.{Record}
use Rattle.rollback_journal.specs.Laying.{IsGivenByte}
use Rattle.rollback_journal.specs.Playing.{journal_of}
use Rattle.atomic_commit.specs.Database.{stored_page, HoldsOld}
use Rattle.atomic_commit.specs.Facts.{AreOld, HaveOneEach, SameFresh}
use Rattle.atomic_commit.proofs.Recovered.{facts_hold_old}
use Rattle.atomic_commit.proofs.Kept.{page_unchanged, old_one_more, apart_one_more, facts_moved, plays_sized, old_run, fresh_run}
use Rattle.atomic_commit.proofs.steps.keep_old.Goals as goal

-- the conditions, by their places: stage, small, room, sizes, page, fresh, facts, left
pub returns-in_err-read_page-clause-any_moment : goal.returns-in_err-read_page-clause-any_moment
returns-in_err-read_page-clause-any_moment g c told =
    let a = c.requires.1.1.1.1.1 in
    let read = c.read_page.ensures.only_read told in
    goes_less g.met.D.Disk.counts_now (started g.met.D.Disk.only_now c.args.disk.now (HoldsOld g.base) (λ d here. facts_hold_old g.base _ _ _ _ (a.1.1.1.0 told) d here)) read.time read.same_images.no_more

pub returns-in_err-append-clause-any_moment : goal.returns-in_err-append-clause-any_moment
returns-in_err-append-clause-any_moment g c told =
    let a = c.requires.1.1.1.1.1 in
    let read = c.read_page.ensures.only_read told in
    and_then
    (goes_less g.met.D.Disk.counts_now (started g.met.D.Disk.only_now c.args.disk.now (HoldsOld g.base) (λ d here. facts_hold_old g.base _ _ _ _ (a.1.1.1.0 told) d here)) read.time read.same_images.no_more)
    (old_run g.D.Disk.images g.base _ _ _ a.0.0 (λ d here. facts_hold_old g.base _ _ _ _ (a.1.1.1.0 told) d (read.same_images.no_more d here)) (c.append.ensures.any_moment told))

pub returns-in_err-append-clause-fresh : goal.returns-in_err-append-clause-fresh
returns-in_err-append-clause-fresh g c told =
    let read = c.read_page.ensures.only_read told in
    then_from g.met.D.Disk.counts_now (λ a b d ab bd. bd ∙ ab)
    (goes_less g.met.D.Disk.counts_now (started_from g.met.D.Disk.only_now c.args.disk.now SameFresh (λ d. refl)) read.time read.same_images.no_more)
    (fresh_run g.D.Disk.images _ _ _ (λ d f step. step.recovers.fresh) (c.append.ensures.any_moment told))

pub returns-clause-any_moment : goal.returns-clause-any_moment
returns-clause-any_moment g c told =
    let a = c.requires.1.1.1.1.1 in
    let read = c.read_page.ensures.only_read told in
    and_then
    (goes_less g.met.D.Disk.counts_now (started g.met.D.Disk.only_now c.args.disk.now (HoldsOld g.base) (λ d here. facts_hold_old g.base _ _ _ _ (a.1.1.1.0 told) d here)) read.time read.same_images.no_more)
    (old_run g.D.Disk.images g.base _ _ _ a.0.0 (λ d here. facts_hold_old g.base _ _ _ _ (a.1.1.1.0 told) d (read.same_images.no_more d here)) (c.append.ensures.any_moment told))

pub returns-clause-fresh : goal.returns-clause-fresh
returns-clause-fresh g c told =
    let read = c.read_page.ensures.only_read told in
    then_from g.met.D.Disk.counts_now (λ a b d ab bd. bd ∙ ab)
    (goes_less g.met.D.Disk.counts_now (started_from g.met.D.Disk.only_now c.args.disk.now SameFresh (λ d. refl)) read.time read.same_images.no_more)
    (fresh_run g.D.Disk.images _ _ _ (λ d f step. step.recovers.fresh) (c.append.ensures.any_moment told))

pub returns-clause-one_more : goal.returns-clause-one_more
returns-clause-one_more g c told =
    let a = c.requires.1.1.1.1.1 in
    let facts = a.1.1.1.0 told in
    let read = c.read_page.ensures.only_read told in
    let now = g.D.Disk.reads c.args.disk.now in
    let w = c.args.writer.now in
    let safe = g.W.RecordWriter.safe w (journal_of now) in
    let waiting = g.W.RecordWriter.waiting w (journal_of now) in
    let more = g.W.RecordWriter.safe c.append.new.self (journal_of (g.D.Disk.reads c.append.new.disk)) in
    let next = g.W.RecordWriter.waiting c.append.new.self (journal_of (g.D.Disk.reads c.append.new.disk)) in
    let image_is : c.read_page.new.buffer ≡ stored_page g.base.size c.args.n g.base.start =
    c.in_ok-read_page.ensures.read told ∙ ap (λ (s : ℕ). stored_page s c.args.n (main_of now)) a.1.0.2
    ∙ page_unchanged g.base safe waiting now c.args.n facts.base_is facts.old_bytes (facts.guarded now (g.met.D.Disk.reads_now c.args.disk.now)) (a.1.1.0 told) a.1.0.0 a.1.0.1 in
    let es : more ≡ safe = c.in_ok-append.ensures.safe told ∙ ap (λ (x : Files). g.W.RecordWriter.safe w (journal_of x)) read.stays in
    let ew : next ≡ waiting ++ record { page = c.args.n; image = stored_page g.base.size c.args.n g.base.start } ∷ [] =
    c.in_ok-append.ensures.one_more told ∙ ap (λ (x : Files). g.W.RecordWriter.waiting w (journal_of x) ++ record { page = c.args.n; image = c.read_page.new.buffer } ∷ []) read.stays
    ∙ ap (λ (l : List ℕ). waiting ++ record { page = c.args.n; image = l } ∷ []) image_is in
    ap (λ (x : List Record). x ++ next) es ∙ ap (λ (x : List Record). safe ++ x) ew ∙ sym (append_assoc safe waiting (record { page = c.args.n; image = stored_page g.base.size c.args.n g.base.start } ∷ []))

pub returns-clause-facts : goal.returns-clause-facts
returns-clause-facts g c told =
    let a = c.requires.1.1.1.1.1 in
    let facts = a.1.1.1.0 told in
    let read = c.read_page.ensures.only_read told in
    let left = c.in_ok-append.ensures.left told in
    let w = c.args.writer.now in
    let now = g.D.Disk.reads c.args.disk.now in
    let safe = g.W.RecordWriter.safe w (journal_of now) in
    let waiting = g.W.RecordWriter.waiting w (journal_of now) in
    let more = g.W.RecordWriter.safe c.append.new.self (journal_of (g.D.Disk.reads c.append.new.disk)) in
    let next = g.W.RecordWriter.waiting c.append.new.self (journal_of (g.D.Disk.reads c.append.new.disk)) in
    let entry : Record = record { page = c.args.n; image = stored_page g.base.size c.args.n g.base.start } in
    let es : more ≡ safe = c.in_ok-append.ensures.safe told ∙ ap (λ (x : Files). g.W.RecordWriter.safe w (journal_of x)) read.stays in
    let all : more ++ next ≡ (safe ++ waiting) ++ entry ∷ [] = returns-clause-one_more g c told in
    facts_moved g.base safe waiting more next now _ (g.D.Disk.images c.args.disk.now) _ facts (c.append.ensures.main told ∙ ap (λ (x : Files). x.main) read.stays)
    (λ f here. let from = at_exit g.met.D.Disk.counts_now (c.append.ensures.any_moment told) f here in (from.0, read.same_images.no_more from.0 from.1, from.2.same.main))
    (λ i given. subst (λ (rs : List Record). IsGivenByte g.base.size rs i) (sym es) given)
    (subst (AreOld g.base) (sym all) (old_one_more g.base (safe ++ waiting) entry facts.old_bytes a.1.0.0 a.1.0.1 refl))
    (subst HaveOneEach (sym all) (apart_one_more (safe ++ waiting) entry facts.one_each (a.1.1.0 told)))
    (λ f here. plays_sized _ _ g.base _ _ (c.append.ensures.page_size ∙ a.0.0) (c.append.ensures.initial ∙ a.0.1) (g.met.W.RecordWriter.plays_left _ _ f left.0 (left.1 f here) (inl c.in_ok-append.ensures.stage.0)))
