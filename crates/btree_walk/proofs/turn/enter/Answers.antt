use Rattle.std.proofs.Common.{◌∷◌, []}
use Rattle.db_format.specs.Seen.{marked}
use Rattle.btree_walk.proofs.MarkLemmas.{keeps_also}
use Rattle.btree_walk.proofs.turn.enter.Goals as goal

pub returns-then-not-mark-clause-kept : goal.returns-then-not-mark-clause-kept
returns-then-not-mark-clause-kept g c = keeps_also (c.args.c ∷ []) (marked c.args.seen.now) (marked c.mark.new.self) c.mark.ensures.after

pub returns-then-depth-ge-MAX_PATH-clause-kept : goal.returns-then-depth-ge-MAX_PATH-clause-kept
returns-then-depth-ge-MAX_PATH-clause-kept g c = keeps_also (c.args.c ∷ []) (marked c.args.seen.now) (marked c.mark.new.self) c.mark.ensures.after

pub returns-clause-kept : goal.returns-clause-kept
returns-clause-kept g c = keeps_also (c.args.c ∷ []) (marked c.args.seen.now) (marked c.mark.new.self) c.mark.ensures.after
