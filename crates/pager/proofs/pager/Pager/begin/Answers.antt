use Rattle.std.proofs.Common.{◌≡◌, ◌∙◌, ◌*◌, ◌<◌, ◌≤◌, ℕ, Bool, List, true, false, replicate, length, sym, ap, subst, arith, rules}
use Rattle.std.proofs.lemmas.List.{length-replicate}
use Rattle.cipher_profile.specs.Profile.{usable}
use Rattle.cipher_profile.specs.declared.profile.Profile.{Profile}
use Rattle.rollback_journal.specs.Writing.{Writing, at_first}
use Rattle.atomic_commit.specs.Marks.{marked_count}
use Rattle.atomic_commit.proofs.Batched.{count_none, ready_first}
use Rattle.pager.specs.Changed.{Changed, same_layout}
use Rattle.pager.specs.UnderWay.{IsUnderWay}
use Rattle.pager.proofs.EndingLemmas.{listed_small}
use Rattle.pager.proofs.TxnLemmas.{count_small, layout_same, listed_large}
use Rattle.pager.proofs.UnderWayLemmas.{none_touched, under_way_first}
use Rattle.pager.proofs.pager.Pager.begin.Goals.{then-self-frames, else-self-frames}
use Rattle.pager.proofs.pager.Pager.begin.Goals as goal

-- the conditions, by their places: frames, sizes, drawn, begun
pub new-requires-4 : goal.new-requires-4
new-requires-4 g c =
    let p = c.profile.result.now in
    let some : 0 < c.args.self.codec.profile.page_size = omega (arith, c.args.self.lendable.least) in
    (listed_large p c.profile.ensures.listed, listed_small p c.profile.ensures.listed, count_small c.args.self.count c.args.self.codec.profile.page_size some c.args.self.largest)

pub invariant_of-result-clause-layout : goal.invariant_of-result-clause-layout
invariant_of-result-clause-layout g c =
    let yes : same_layout c.args.self.codec c.args.write ≡ true = search (rules, c.is_same_layout.ensures, c.if-not-is_same_layout.false) in
    layout_same c.args.self.codec c.args.write yes

pub invariant_of-result-clause-fits : goal.invariant_of-result-clause-fits
invariant_of-result-clause-fits g c =
    let frames : 1 ≤ c.if-self-frames.frames = elim c.if-self-frames.branch [
      | then-self-frames w ↦ omega (arith, w.frames-is, c.args.self.some)
      | else-self-frames w ↦ omega (arith, w.frames-is, c.requires.1.1.0.0)
    ] in (
      ap (λ (v : Changed). v.usable) c.in-Ok.ensures ∙ c.usable.ensures.value ∙ ap (λ (p : Profile). usable p) c.profile.ensures.value,
      ap (λ (v : Changed). v.pages) c.in-Ok.ensures,
      subst (λ (k : ℕ). 1 ≤ k) (sym (ap (λ (v : Changed). v.frames) c.in-Ok.ensures)) frames,
    )

pub invariant_of-result-clause-few : goal.invariant_of-result-clause-few
invariant_of-result-clause-few g c =
    let frames : c.if-self-frames.frames ≤ 64 = elim c.if-self-frames.branch [
      | then-self-frames w ↦ omega (arith, w.frames-is, w.if-self-frames.true, c.requires.1.1.0.1)
      | else-self-frames w ↦ omega (arith, w.frames-is, c.requires.1.1.0.1)
    ] in
    let none : length c.in-Ok.changed.numbers ≡ 0 = ap (λ (v : Changed). length v.numbers) c.in-Ok.ensures in (
      omega (arith, none),
      subst (λ (k : ℕ). k ≤ 64) (sym (ap (λ (v : Changed). v.frames) c.in-Ok.ensures)) frames,
    )

pub invariant_of-result-clause-room : goal.invariant_of-result-clause-room
invariant_of-result-clause-room g c =
    c.in-Ok-vec.ensures.len
    ∙ ap (λ (p : Profile). c.if-self-frames.frames * p.reserve) c.profile.ensures.value
    ∙ ap (λ (v : Changed). v.frames * c.args.write.profile.reserve) (sym c.in-Ok.ensures)

pub invariant_of-result-clause-buffers : goal.invariant_of-result-clause-buffers
invariant_of-result-clause-buffers g c =
    (c.in-Ok-vec-2.ensures.len ∙ ap (λ (p : Profile). p.page_size) c.profile.ensures.value, c.in-Ok-vec-3.ensures.len ∙ c.usable-2.ensures.value ∙ ap (λ (p : Profile). usable p) c.profile.ensures.value)

pub invariant_of-result-clause-long : goal.invariant_of-result-clause-long
invariant_of-result-clause-long g c =
    let yes : same_layout c.args.self.codec c.args.write ≡ true = search (rules, c.is_same_layout.ensures, c.if-not-is_same_layout.false) in
    let layout = layout_same c.args.self.codec c.args.write yes in
    omega (arith, c.args.self.lendable.least, layout.0, layout.1)

pub returns-clause-ready : goal.returns-clause-ready
returns-clause-ready g c =
    let recorded = c.in-Ok-new.ensures in
    let writer = c.in-Ok-new-3.ensures in
    let none : marked_count c.in-Ok-new.recorded ≡ 0 = ap marked_count recorded ∙ count_none c.args.self.count in (
      ap length recorded ∙ length-replicate c.args.self.count false ∙ sym (ap (λ (w : Writing). w.initial) writer),
      ready_first c.in-Ok-new.recorded _ _ _ _ _ none (writer ∙ sym (ap (λ (w : Writing). at_first w.page_size w.initial) writer)),
    )

pub returns-clause-under_way : goal.returns-clause-under_way
returns-clause-under_way g c told =
    let r = c.requires.1.1 in
    let self = c.args.self in
    let yes : same_layout self.codec c.args.write ≡ true = search (rules, c.is_same_layout.ensures, c.if-not-is_same_layout.false) in
    let layout = layout_same self.codec c.args.write yes in
    let marks = c.in-Ok-new.ensures ∙ ap (λ (n : ℕ). replicate n false) r.1.0.1 in
    let written = c.in-Ok-new-2.ensures ∙ ap (λ (n : ℕ). replicate n false) r.1.0.1 in
    subst (λ (ws : List Bool). IsUnderWay g.start c.args.write c.in-Ok-new.recorded ws c.in-Ok-new-3.writer (g.D.Disk.reads self.disk.now) (g.D.Disk.images self.disk.now) g.E.Entropy.tells (g.E.Entropy.drawn self.entropy.now)) (sym written)
    (subst (λ (ms : List Bool). IsUnderWay g.start c.args.write ms (replicate g.start.base.pages false) c.in-Ok-new-3.writer (g.D.Disk.reads self.disk.now) (g.D.Disk.images self.disk.now) g.E.Entropy.tells (g.E.Entropy.drawn self.entropy.now)) (sym marks)
    (under_way_first g.start c.args.write c.in-Ok-new-3.writer (g.D.Disk.reads self.disk.now) (g.D.Disk.images self.disk.now) g.E.Entropy.tells (g.E.Entropy.drawn self.entropy.now) (layout.0 ∙ r.1.0.0) r.1.1.0 (g.met.D.Disk.reads_now self.disk.now) (r.1.1.1 told)))

pub returns-clause-untouched : goal.returns-clause-untouched
returns-clause-untouched g c n = none_touched c.args.self.count n c.in-Ok-new-2.written c.in-Ok.changed.held c.in-Ok-new-2.ensures (ap (λ (v : Changed). v.held) c.in-Ok.ensures)

pub invariant_of-result-clause-marks : goal.invariant_of-result-clause-marks
invariant_of-result-clause-marks g c = ap length c.in-Ok-new-2.ensures ∙ length-replicate c.args.self.count false

pub returns-clause-room : goal.returns-clause-room
returns-clause-room g c = elim c.if-self-frames.branch [
  | then-self-frames w ↦ omega (arith, w.frames-is, w.if-self-frames.true, ap (λ (v : Changed). v.frames) c.in-Ok.ensures)
  | else-self-frames w ↦ omega (arith, w.frames-is, ap (λ (v : Changed). v.frames) c.in-Ok.ensures)
]
