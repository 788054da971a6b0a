use Rattle.std.proofs.Common.{◌≡◌}
use Rattle.job_tests.proofs.new_file.put_many.Given as goal

abbrev pub invariant-pages : goal.invariant-pages
invariant-pages g l = (g.P.PageOut.pages l.out).usable ≡ (g.P.PageOut.pages l.fn.out).usable
