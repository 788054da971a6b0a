use Rattle.std.proofs.Common.{◌≡◌, [], length, sym, ap, ◌∙◌}
use Rattle.std.proofs.lemmas.Bool.{eqb-true}
use Rattle.std.specs.Prelude.{unwrap_or}
use Rattle.db_format.specs.Values.{values_left}
use Rattle.db_format.proofs.RecordLemmas.{values_in-end}
use Rattle.db_format.proofs.values.ValuesIterator.next.Goals as goal

pub returns-then-is_empty-clause-steps : goal.returns-then-is_empty-clause-steps
returns-then-is_empty-clause-steps c =
    let none : length c.args.self.now.types.now ≡ 0 = eqb-true _ _ (sym c.is_empty.ensures ∙ c.if-is_empty.true) in
    let empty : values_left c.args.self.now ≡ [] =
    ap (λ read. unwrap_or read []) (values_in-end c.args.self.now.types.now c.args.self.now.body.now none) in
    (empty, empty)
