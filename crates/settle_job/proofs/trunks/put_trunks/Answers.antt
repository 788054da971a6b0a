use Rattle.std.proofs.Common.{◌≡◌, ◌∙◌, ◌<◌, ◌+◌, Bool, List, ℕ, true, false, ap, arith, refl, rules, subst, sym}
use Rattle.std.proofs.lemmas.Bool.{eq-eqb}
use Rattle.edge_model.specs.Files.{main_of}
use Rattle.edge_model.specs.Moments.{and_then, started, started_from, then_from}
use Rattle.cipher_profile.specs.Profile.{usable}
use Rattle.page_codec.specs.Page.{FileKeys}
use Rattle.pager.specs.Pages.{is_page_number}
use Rattle.pager.specs.UnderWay.{is_touched, seen_pages}
use Rattle.pager.proofs.BatchLemmas.{number_is}
use Rattle.atomic_commit.specs.Database.{HoldsOld}
use Rattle.atomic_commit.specs.Facts.{SameFresh}
use Rattle.atomic_commit.proofs.Batched.{batches_hold_old}
use Rattle.map_pages.specs.Maps.{map_count, map_number}
use Rattle.map_pages.specs.Trunks.{is_new_trunk, map_trunk}
use Rattle.settle_job.proofs.AllTrunks.{extended, more_others, more_trunks, no_trunk_before, other_number, same_trunks, touched_at, touched_by}
use Rattle.settle_job.proofs.TrunkPage.{less_by, number_there}
use Rattle.settle_job.proofs.trunks.put_trunks.Goals as goal

-- the conditions, by their places: usable, sizes, ready, under_way
pub loop-k-init : goal.loop-k-init
loop-k-init g c =
    let t = c.args.txn.now in
    record {
      trunks = λ told j less. absurd (omega (arith, less));
      others = λ told m none. refl;
      touched = λ j less. absurd (omega (arith, less));
      untouched = λ m num none. refl;
      ready = c.requires.1.1.1.1.0;
      under_way = c.requires.1.1.1.1.1;
      any_moment = λ told. started g.met.D.Disk.only_now t.disk.now (HoldsOld g.start.base) (λ d here. batches_hold_old g.start.base _ _ _ _ _ _ _ (c.requires.1.1.1.1.1 told).batches d here);
      fresh = λ told. started_from g.met.D.Disk.only_now t.disk.now SameFresh (λ d. refl);
      names = (refl, refl);
      later = (omega arith, omega arith);
      file = (refl, refl, refl);
    }

pub loop-k-preserved-then-not-is_new_trunk : goal.loop-k-preserved-then-not-is_new_trunk
loop-k-preserved-then-not-is_new_trunk g c =
    let t = c.args.txn.now in
    let m = c.loop-k.txn in
    let k : ℕ = c.loop-k.k in
    let size : ℕ = usable t.write.profile in
    let inv = c.loop-k.invariant in
    let read : is_new_trunk c.usable-usable.result c.loop-k.k ≡ false = search rules in
    let none : is_new_trunk (usable c.args.txn.now.write.profile) c.loop-k.k ≡ false = subst (λ (u : ℕ). is_new_trunk u c.loop-k.k ≡ false) c.usable-usable.ensures read in
    record {
      trunks = λ told. same_trunks size k
          (λ j. (seen_pages m.read m.write (main_of (g.D.Disk.reads m.disk.now)) m.count m.written m.changed.held).page (map_number size j) ≡ map_trunk size (map_count size t.count) c.args.old_first j)
          none (inv.trunks told);
      others = λ told n none_to. inv.others told n (no_trunk_before size k n none_to);
      touched = same_trunks size k (λ j. is_touched m.written m.changed.held (map_number size j) ≡ true) none inv.touched;
      untouched = λ n num none_to. inv.untouched n num (no_trunk_before size k n none_to);
      ready = inv.ready;
      under_way = inv.under_way;
      any_moment = inv.any_moment;
      fresh = inv.fresh;
      names = inv.names;
      later = inv.later;
      file = inv.file;
    }

pub loop-k-preserved : goal.loop-k-preserved
loop-k-preserved g c =
    let t = c.args.txn.now in
    let m = c.loop-k.txn in
    let n = c.put_trunk.new.txn in
    let k : ℕ = c.loop-k.k in
    let size : ℕ = usable t.write.profile in
    let inv = c.loop-k.invariant in
    let ok = c.in-Ok.ensures in
    let old : ℕ → List ℕ = (seen_pages t.read t.write (main_of (g.D.Disk.reads t.disk.now)) t.count t.written t.changed.held).page in
    let mid : ℕ → List ℕ = (seen_pages m.read m.write (main_of (g.D.Disk.reads m.disk.now)) m.count m.written m.changed.held).page in
    let new : ℕ → List ℕ = (seen_pages n.read n.write (main_of (g.D.Disk.reads n.disk.now)) n.count n.written n.changed.held).page in
    let was : ℕ → Bool = λ j. is_touched m.written m.changed.held j in
    let now : ℕ → Bool = λ j. is_touched n.written n.changed.held j in
    let sized : usable c.loop-k.txn.write.profile ≡ usable c.args.txn.now.write.profile = ap (λ (keys : FileKeys). usable keys.profile) inv.file.1 in
    let read : is_new_trunk c.usable-usable.result c.loop-k.k ≡ true = search rules in
    let some : is_new_trunk (usable c.args.txn.now.write.profile) c.loop-k.k ≡ true = subst (λ (u : ℕ). is_new_trunk u c.loop-k.k ≡ true) c.usable-usable.ensures read in
    let maps : c.map_count-maps.result ≡ map_count (usable c.args.txn.now.write.profile) c.args.txn.now.count =
    c.map_count-maps.ensures ∙ ap (λ (u : ℕ). map_count u c.pages.result) c.usable-usable.ensures ∙ ap (λ (p : ℕ). map_count (usable c.args.txn.now.write.profile) p) c.pages.ensures in
    let number : (j : ℕ) → j < c.loop-k.k + 1 → is_page_number c.loop-k.txn.count (map_number (usable c.args.txn.now.write.profile) j) ≡ true =
    λ j less. number_is m.count (map_number size j) (omega arith) (omega (arith, number_there size t.count j (omega (arith, less, c.loop-k-test.true, maps)), inv.file.2)) in
    record {
      trunks = λ told. more_trunks size (usable m.write.profile) t.count m.count c.args.old_first k sized inv.file.2 new mid (ok.seen told) (inv.trunks told);
      others = λ told. more_others size (usable m.write.profile) t.count m.count c.args.old_first k sized inv.file.2 new mid (ok.seen told) old some (inv.others told);
      touched = extended (λ j. is_new_trunk size j ≡ true → now (map_number size j) ≡ true) k
          (λ j less is. touched_by size (usable m.write.profile) k sized now was (map_number size j) (other_number size j k less) (ok.touched (map_number size j) (number j (omega (arith, less)))) ∙ inv.touched j less is)
          (λ is. touched_at size (usable m.write.profile) k sized now was (map_number size k) (eq-eqb (map_number size k) (map_number size k) refl) (ok.touched (map_number size k) (number k (omega arith))));
      untouched = λ j num none. touched_by size (usable m.write.profile) k sized now was j (none k (omega arith) some) (ok.touched j (subst (λ (p : ℕ). is_page_number p j ≡ true) (sym inv.file.2) num))
          ∙ inv.untouched j num (no_trunk_before size k j none);
      ready = ok.ready;
      under_way = ok.under_way;
      any_moment = λ told. and_then (inv.any_moment told) (c.put_trunk.ensures.any_moment told);
      fresh = λ told. then_from g.met.D.Disk.counts_now (λ a b d ab bd. bd ∙ ab) (inv.fresh told) (c.put_trunk.ensures.fresh told);
      names = (c.put_trunk.ensures.names.0 ∙ inv.names.0, c.put_trunk.ensures.names.1 ∙ inv.names.1);
      later = (omega (arith, inv.later.0, c.put_trunk.ensures.later.0), omega (arith, inv.later.1, c.put_trunk.ensures.later.1));
      file = (c.put_trunk.ensures.file.0 ∙ inv.file.0, c.put_trunk.ensures.file.1 ∙ inv.file.1, c.put_trunk.ensures.file.2 ∙ inv.file.2);
    }

pub returns-in-Err-clause-any_moment : goal.returns-in-Err-clause-any_moment
returns-in-Err-clause-any_moment g c told = and_then (c.loop-k.invariant.any_moment told) (c.put_trunk.ensures.any_moment told)

pub returns-in-Err-clause-fresh : goal.returns-in-Err-clause-fresh
returns-in-Err-clause-fresh g c told = then_from g.met.D.Disk.counts_now (λ a b d ab bd. bd ∙ ab) (c.loop-k.invariant.fresh told) (c.put_trunk.ensures.fresh told)

pub returns-clause-trunks : goal.returns-clause-trunks
returns-clause-trunks g c told j less is =
    let t = c.args.txn.now in
    let there = less_by (usable t.write.profile) t.count c.usable-usable.result c.pages.result j c.usable-usable.ensures c.pages.ensures less in
    c.loop-k.invariant.trunks told j (omega (arith, there, c.loop-k-test.false, c.map_count-maps.ensures)) is

pub returns-clause-others : goal.returns-clause-others
returns-clause-others g c told m none =
    let maps : c.map_count-maps.result ≡ map_count (usable c.args.txn.now.write.profile) c.args.txn.now.count =
    c.map_count-maps.ensures ∙ ap (λ (u : ℕ). map_count u c.pages.result) c.usable-usable.ensures ∙ ap (λ (p : ℕ). map_count (usable c.args.txn.now.write.profile) p) c.pages.ensures in
    c.loop-k.invariant.others told m (λ j less is. none j (omega (arith, less, c.loop-k.auto.k-end, maps)) is)
