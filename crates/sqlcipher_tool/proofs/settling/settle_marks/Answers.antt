use Rattle.std.proofs.Common.{Bool, [], drop, length, not, ap, sym, ◌∙◌}
use Rattle.sqlcipher_tool.specs.Holding.{disk_run}
use Rattle.sqlcipher_tool.specs.declared.change.Change.TheVariants.{Settle}
use Rattle.sqlcipher_tool.proofs.PlainDraws.{plain_safely}
use Rattle.sqlcipher_tool.proofs.settling.settle_marks.Goals as goal

pub returns-then-is_plain-clause-changes : goal.returns-then-is_plain-clause-changes
returns-then-is_plain-clause-changes g c = λ told.
    let d = g.D.Disk in
    let drawn = drop (length (g.E.Entropy.drawn c.args.entropy.now)) (g.E.Entropy.drawn c.args.entropy.now) in
    let run = disk_run d.reads d.images d.moment d.since c.args.disk.now c.change_file.new.disk in
    plain_safely c.change_file.result c.args.profile (Settle c.args.frames) c.args.secrets.now.first c.args.secrets.now.second g.E.Entropy.tells [] drawn run
    (ap (λ (plain : Bool). not plain) (sym c.is_plain.ensures ∙ c.if-is_plain.true)) (c.change_file.ensures.changes told)
