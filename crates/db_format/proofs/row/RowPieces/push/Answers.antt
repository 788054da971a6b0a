use Rattle.db_format.specs.Value.{datum_of}
use Rattle.db_format.proofs.RowLemmas.{pushed}
use Rattle.db_format.proofs.row.RowPieces.push.Goals as goal

pub invariant_of-self : goal.invariant_of-self
invariant_of-self c =
    (pushed c.push_column.result c.self.inside.types.items c.self.inside.body.items _ _ (datum_of c.args.value.now) c.self.invariant
    c.push_column.ensures.types c.push_column.ensures.body c.push_column.ensures.storable c.push_column.ensures.err).0

pub returns-clause-ok : goal.returns-clause-ok
returns-clause-ok c =
    rw (← c.self.view_is)
    (pushed c.push_column.result c.self.inside.types.items c.self.inside.body.items _ _ (datum_of c.args.value.now) c.self.invariant
    c.push_column.ensures.types c.push_column.ensures.body c.push_column.ensures.storable c.push_column.ensures.err).1
