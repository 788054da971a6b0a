use Rattle.std.proofs.Common.{ℕ, sym, subst}
use Rattle.pager.specs.UnderWay.{HasNewPages, is_touched, seen_pages}
use Rattle.edge_model.specs.Files.{main_of}
use Rattle.atomic_commit.specs.Commit.{LeavesChanged}
use Rattle.pager.proofs.UnderWayLemmas.{ok_map}
use Rattle.pager.proofs.txn.Txn.end.Goals as goal

-- the conditions, by their places: sizes, base_is, ready, under_way
pub returns-clause-changed : goal.returns-clause-changed
returns-clause-changed g c =
    let s = c.args.self in
    ok_map c.end_frames-done.result c.end_frames-done.ensures.changed (λ has told.
    subst (λ (p : ℕ). HasNewPages g.start s.write (is_touched s.written s.changed.held) (λ n. (seen_pages s.read s.write (main_of (g.D.Disk.reads s.disk.now)) p s.written s.changed.held).page n)
    g.E.Entropy.tells (g.E.Entropy.drawn c.end_frames-done.new.entropy) (main_of (g.D.Disk.reads c.end_frames-done.new.disk))) (sym c.requires.1.1.0.1) (has told s.read s.layout.0))

pub returns-clause-any_moment : goal.returns-clause-any_moment
returns-clause-any_moment g c = λ told.
    let s = c.args.self in
    subst (λ (p : ℕ). LeavesChanged g.D.Disk.moment g.D.Disk.since g.start.base (HasNewPages g.start s.write (is_touched s.written s.changed.held) (λ n. (seen_pages s.read s.write (main_of (g.D.Disk.reads s.disk.now)) p s.written s.changed.held).page n)
    g.E.Entropy.tells (g.E.Entropy.drawn c.end_frames-done.new.entropy)) s.disk.now c.end_frames-done.new.disk) (sym c.requires.1.1.0.1) (c.end_frames-done.ensures.any_moment told s.read s.layout.0)
