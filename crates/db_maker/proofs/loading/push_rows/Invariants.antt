use Rattle.db_maker.proofs.LoadLaws.{IsPushed}
use Rattle.db_maker.proofs.loading.push_rows.Given as goal

abbrev pub invariant-loop-before : goal.invariant-loop-before
invariant-loop-before g l =
    IsPushed g.P.PageOut.pages g.P.PageOut.limit g.P.PageOut.faults g.P.PageOut.well g.P.PageOut.only_fresh l.part l.fn.out l.out l.fn.loader l.loader l.before
