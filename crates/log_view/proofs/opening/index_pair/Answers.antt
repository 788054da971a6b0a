use Rattle.std.proofs.Common.{arith, ◌≡◌, sym, subst}
use Rattle.edge_model.specs.Files.{Files, length_of}
use Rattle.log_recovery.specs.Finding.{IsLogFound}
use Rattle.log_view.specs.Refused.{IsViewRefused, IsViewTaken}
use Rattle.log_view.specs.View.{IsIndexed, viewed}
use Rattle.log_view.proofs.Refusing.{err_as}
use Rattle.log_view.proofs.Steps.{then_leaves}
use Rattle.log_view.proofs.opening.index_pair.Goals as goal

pub index_found-requires-clause-found : goal.index_found-requires-clause-found
index_found-requires-clause-found g c told =
    subst (λ (f : Files). IsLogFound c.args.page_size f c.in_ok-found.found) (sym (c.look.ensures.same told)) (c.in_ok-found.ensures.found told)

pub returns-clause-len : goal.returns-clause-len
returns-clause-len g c told =
    subst (λ (f : Files). c.in_ok-index.index.len ≡ length_of (viewed c.args.page_size f).main) (sym (c.in_ok-index.ensures.only told).stays) (c.in_ok-index.ensures.len told)

pub returns-clause-indexed : goal.returns-clause-indexed
returns-clause-indexed g c told =
    subst (λ (f : Files). IsIndexed c.args.page_size c.in_ok-index.index.table.items f) (sym (c.in_ok-index.ensures.only told).stays) (c.in_ok-index.ensures.indexed told)

pub returns-clause-crash : goal.returns-clause-crash
returns-clause-crash g c told f left = c.look.ensures.crash told f ((c.index_found.ensures.only told).same_images.no_more f left)

pub returns-clause-any_moment : goal.returns-clause-any_moment
returns-clause-any_moment g c told = then_leaves g.met.D.Disk.only_now (c.look.ensures.any_moment told) (c.look.ensures.crash told) (c.index_found.ensures.only told)

pub returns-in_err-index-clause-crash : goal.returns-in_err-index-clause-crash
returns-in_err-index-clause-crash g c told f left = c.look.ensures.crash told f ((c.index_found.ensures.only told).same_images.no_more f left)

pub returns-in_err-index-clause-any_moment : goal.returns-in_err-index-clause-any_moment
returns-in_err-index-clause-any_moment g c told = then_leaves g.met.D.Disk.only_now (c.look.ensures.any_moment told) (c.look.ensures.crash told) (c.index_found.ensures.only told)

pub returns-in_err-index-clause-refused : goal.returns-in_err-index-clause-refused
returns-in_err-index-clause-refused g c =
    err_as _ c.from_residual-in_err-index.result c.in_err-index.field-0.0 c.from_residual-in_err-index.ensures.1 (λ told.
    subst (λ (f : Files). IsViewRefused c.args.page_size c.args.most f c.in_err-index.field-0.0) (c.look.ensures.same told) (c.in_err-index.ensures.refused told))

pub returns-in_err-index-clause-fault : goal.returns-in_err-index-clause-fault
returns-in_err-index-clause-fault g c =
    err_as _ c.from_residual-in_err-index.result c.in_err-index.field-0.0 c.from_residual-in_err-index.ensures.1 (λ is.
    omega (arith, c.look.ensures.cause.later, c.in_err-index.ensures.fault is))

pub returns-clause-taken : goal.returns-clause-taken
returns-clause-taken g c told =
    subst (λ (f : Files). IsViewTaken c.args.page_size c.args.most f) (c.look.ensures.same told) (c.in_ok-index.ensures.taken told)
