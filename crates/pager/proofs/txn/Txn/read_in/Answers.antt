use Rattle.std.proofs.Common.{◌≡◌, ◌*◌, ◌≤◌, ◌∙◌, ℕ, List, true, false, length, ap, sym, subst, arith, rules}
use Rattle.page_codec.specs.Page.{opened}
use Rattle.pager.specs.File.{page_stored}
use Rattle.edge_model.specs.Files.{Files, main_of}
use Rattle.pager.specs.Ahead.{IsAhead}
use Rattle.pager.proofs.BatchLemmas.{number_is}
use Rattle.pager.proofs.UnderWayLemmas.{batches_long, laid_whole, ok_map, same_main, seen_free, there_page, under_way_read}
use Rattle.pager.proofs.txn.Txn.read_in.Goals as goal

-- the conditions, by their places: number, free, sizes, ready, under_way
pub read_plain-requires-clause-there : goal.read_plain-requires-clause-there
read_plain-requires-clause-there g c told =
    let r = c.requires.1.1 in
    let s = c.args.self.now in
    let now = g.D.Disk.reads s.disk.now in
    subst (λ (l : List ℕ). c.args.n * s.write.profile.page_size ≤ length l) (sym (same_main now))
    (there_page c.args.n s.write.profile.page_size s.count g.start.base (main_of now) r.0.1 r.1.1.0.1 (r.1.1.0.0) (batches_long g.start.base _ _ _ _ _ now (g.D.Disk.images s.disk.now) (g.met.D.Disk.reads_now s.disk.now) (r.1.1.1.1 told).batches))

pub read_plain_ahead-requires-clause-there : goal.read_plain_ahead-requires-clause-there
read_plain_ahead-requires-clause-there g c told =
    let r = c.requires.1.1 in
    let s = c.args.self.now in
    let now = g.D.Disk.reads s.disk.now in
    subst (λ (l : List ℕ). c.args.n * s.read.profile.page_size ≤ length l) (sym (same_main now))
    (there_page c.args.n s.read.profile.page_size s.count g.start.base (main_of now) r.0.1 r.1.1.0.1 (sym s.layout.0 ∙ r.1.1.0.0) (batches_long g.start.base _ _ _ _ _ now (g.D.Disk.images s.disk.now) (g.met.D.Disk.reads_now s.disk.now) (r.1.1.1.1 told).batches))

pub read_plain_ahead-requires-clause-whole : goal.read_plain_ahead-requires-clause-whole
read_plain_ahead-requires-clause-whole g c told =
    let r = c.requires.1.1 in
    let s = c.args.self.now in
    let now = g.D.Disk.reads s.disk.now in
    let last = c.last_wanted-last.result in
    subst (λ (l : List ℕ). last * s.read.profile.page_size ≤ length l) (sym (same_main now))
    (there_page last s.read.profile.page_size s.count g.start.base (main_of now) c.last_wanted-last.ensures.within r.1.1.0.1 (sym s.layout.0 ∙ r.1.1.0.0) (batches_long g.start.base _ _ _ _ _ now (g.D.Disk.images s.disk.now) (g.met.D.Disk.reads_now s.disk.now) (r.1.1.1.1 told).batches))

pub invariant_of-self-2-clause-before : goal.invariant_of-self-2-clause-before
invariant_of-self-2-clause-before g c = λ told.
    let s = c.args.self.now in
    let new = c.read_plain_ahead.new in
    let long : length new.pages ≡ s.ahead.len = search (rules, arith, c.read_plain_ahead.auto, c.read_plain_ahead.ensures.room, c.deref_mut-2.ensures, c.deref_mut-3.ensures, c.deref_mut-4.ensures) in
    subst (λ (l : List ℕ). IsAhead s.read (main_of (g.D.Disk.reads new.disk)) new.window l) (sym (laid_whole s.ahead.len new.pages s.ahead.items long))
    (subst (λ (f : Files). IsAhead s.read (main_of f) new.window new.pages) (sym (c.read_plain_ahead.ensures.only_read told).stays) (c.read_plain_ahead.ensures.ahead told))

pub invariant_of-self-clause-before : goal.invariant_of-self-clause-before
invariant_of-self-clause-before g c = λ told.
    let s = c.args.self.now in
    subst (λ (f : Files). IsAhead s.read (main_of f) s.window s.ahead.items) (sym (c.read_plain.ensures.only_read told).stays) (s.before told)

pub returns-then-has-clause-under_way : goal.returns-then-has-clause-under_way
returns-then-has-clause-under_way g c told =
    let r = c.requires.1.1 in
    let s = c.args.self.now in
    let only = c.read_plain.ensures.only_read told in
    under_way_read g.start s.write s.recorded s.written s.writer (g.D.Disk.reads s.disk.now) (g.D.Disk.reads c.read_plain.new.disk) (g.D.Disk.images s.disk.now) (g.D.Disk.images c.read_plain.new.disk) g.E.Entropy.tells (g.E.Entropy.drawn s.entropy.now)
    only.stays only.same_images.no_more (r.1.1.1.1 told)

pub returns-clause-under_way : goal.returns-clause-under_way
returns-clause-under_way g c told =
    let r = c.requires.1.1 in
    let s = c.args.self.now in
    let only = c.read_plain_ahead.ensures.only_read told in
    under_way_read g.start s.write s.recorded s.written s.writer (g.D.Disk.reads s.disk.now) (g.D.Disk.reads c.read_plain_ahead.new.disk) (g.D.Disk.images s.disk.now) (g.D.Disk.images c.read_plain_ahead.new.disk) g.E.Entropy.tells (g.E.Entropy.drawn s.entropy.now)
    only.stays only.same_images.no_more (r.1.1.1.1 told)

pub returns-then-has-clause-told : goal.returns-then-has-clause-told
returns-then-has-clause-told g c =
    let r = c.requires.1.1 in
    let s = c.args.self.now in
    let now = g.D.Disk.reads s.disk.now in
    let n = c.args.n in
    let long : length c.read_plain.new.plain ≡ s.plain.len = search (rules, arith, c.read_plain.auto, c.deref_mut-then-has.ensures, c.deref_mut.ensures) in
    ok_map c.read_plain.result c.read_plain.ensures.plain (λ has told.
    laid_whole s.plain.len c.read_plain.new.plain s.plain.items long
    ∙ has told
    ∙ ap (λ (l : List ℕ). opened s.write n (page_stored s.write l n)) (same_main now)
    ∙ seen_free s.read s.write (main_of now) s.count n s.written s.changed.held true (number_is s.count n r.0.0 r.0.1) r.1.0 (sym c.has.ensures.answer ∙ c.if-has.true))

pub returns-clause-told : goal.returns-clause-told
returns-clause-told g c =
    let r = c.requires.1.1 in
    let s = c.args.self.now in
    let now = g.D.Disk.reads s.disk.now in
    let n = c.args.n in
    let long : length c.read_plain_ahead.new.plain ≡ s.plain.len = search (rules, arith, c.read_plain_ahead.auto, c.deref_mut-2.ensures, c.deref_mut-3.ensures, c.deref_mut-4.ensures) in
    ok_map c.read_plain_ahead.result c.read_plain_ahead.ensures.plain (λ has told.
    laid_whole s.plain.len c.read_plain_ahead.new.plain s.plain.items long
    ∙ has told
    ∙ ap (λ (l : List ℕ). opened s.read n (page_stored s.read l n)) (same_main now)
    ∙ seen_free s.read s.write (main_of now) s.count n s.written s.changed.held false (number_is s.count n r.0.0 r.0.1) r.1.0 (sym c.has.ensures.answer ∙ c.if-has.false))
