use Rattle.std.proofs.Common.{ℕ, ◌≤◌, sym, subst}
use Rattle.std.specs.Prelude.{IfOk}
use Rattle.std.specs.List.{All}
use Rattle.btree_walk.proofs.CauseLemmas.{if_given_later}
use Rattle.schema_map.specs.Census.{IsCensusBegun, IsCensus}
use Rattle.schema_map.specs.declared.counts.Census.{Census}
use Rattle.schema_map.specs.declared.schema.SchemaRow.{SchemaRow}
use Rattle.schema_map.proofs.WholeLemmas.{free_stop}
use Rattle.schema_map.proofs.whole.census.Goals as goal

pub returns-in-Err-clause-found : goal.returns-in-Err-clause-found
returns-in-Err-clause-found g c told =
    free_stop (g.S.PageSource.plain c.args.source.now) g.S.PageSource.refuses c.in-Err.error (c.in-Err.ensures.found told)

pub finish-requires-clause-begun : goal.finish-requires-clause-begun
finish-requires-clause-begun g c told =
    subst (λ p. IsCensusBegun p c.in-Ok.started) (sym (g.met.S.PageSource.same_pages c.args.source.now c.start.new.source c.in-Ok.ensures.reads told)) (c.in-Ok.ensures.found told)

pub returns-in-Ok-clause-found : goal.returns-in-Ok-clause-found
returns-in-Ok-clause-found g c told =
    subst (λ p. IsCensus g.S.PageSource.refuses p c.finish.result) (g.met.S.PageSource.same_pages c.args.source.now c.start.new.source c.in-Ok.ensures.reads told) (c.finish.ensures.found told)

pub returns-in-Ok-clause-given : goal.returns-in-Ok-clause-given
returns-in-Ok-clause-given g c =
    if_given_later g.S.PageSource.only_read g.S.PageSource.plain g.S.PageSource.refuses c.args.source.now c.start.new.source c.finish.result g.met.S.PageSource.transitive
    (g.met.S.PageSource.same_count c.args.source.now c.start.new.source c.in-Ok.ensures.reads) c.in-Ok.ensures.reads c.finish.ensures.given

pub returns-in-Ok-clause-roots : goal.returns-in-Ok-clause-roots
returns-in-Ok-clause-roots g c =
    subst (λ (count : ℕ). IfOk c.finish.result (λ (census : Census). All (λ (row : SchemaRow). row.root ≤ count) census.schema))
    (g.met.S.PageSource.same_count c.args.source.now c.start.new.source c.in-Ok.ensures.reads) c.finish.ensures.roots
