use Rattle.std.proofs.Common.{◌-◌, length, drop, sym, arith, length-drop}
use Rattle.std.proofs.lemmas.List.{take_all}
use Rattle.session_hall.proofs.Written.{put_first, put_whole}
use Rattle.session_hall.proofs.writing.over_changed.Goals as goal

pub returns-then-n-eq1-clause-becomes : goal.returns-then-n-eq1-clause-becomes
returns-then-n-eq1-clause-becomes c = λ old.
    let page = c.args.page.now in
    put_first c.args.n _ page old c.if-n-eq1.true (take_all (length page - 100) (drop 100 page) (omega (arith, length-drop 100 page)))

pub returns-clause-becomes : goal.returns-clause-becomes
returns-clause-becomes c = λ old. put_whole c.args.n c.args.page.now old c.if-n-eq1.false
