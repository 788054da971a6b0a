use Rattle.std.proofs.Common.{◌≤◌, ◌<◌, ℕ, List, [], ◌∷◌, ◌++◌, length, ap, sym, subst, ◌∙◌, rules}
use Rattle.db_format.specs.Record.{columns}
use Rattle.schema_names.specs.declared.near.NearName.{NearName}
use Rattle.schema_names.specs.Near.{near_row}
use Rattle.schema_names.proofs.NearSteps.{ended, kept, none_near, passed}
use Rattle.schema_names.proofs.near.near_rows.Goals as goal

pub loop-row-init : goal.loop-row-init
loop-row-init c = c.new-found.ensures.items ∙ sym (none_near c.args.name.now)

pub returns-then-len-ge-MOST_NAMES : goal.returns-then-len-ge-MOST_NAMES
returns-then-len-ge-MOST_NAMES c =
    let many : 10 ≤ length c.loop-row.found.items = search rules in
    c.loop-row.invariant
    ∙ sym (ended c.args.name.now c.args.rows.now c.loop-row.row-index (subst (λ (l : List NearName). 10 ≤ length l) c.loop-row.invariant many))

pub loop-row-preserved-in-Ok-None : goal.loop-row-preserved-in-Ok-None
loop-row-preserved-in-Ok-None c =
    let row = c.row-item.result in
    let none = sym (ap (λ (p : List ℕ). near_row c.args.name.now row.root (columns p)) c.as_slice.ensures)
    ∙ sym c.in-Ok-None.ensures ∙ c.in-Ok-None.field-0-is in
    c.loop-row.invariant
    ∙ sym (passed c.args.name.now c.args.rows.now c.loop-row.row-index row c.loop-row-test.true c.row-item.is none)

pub loop-row-preserved : goal.loop-row-preserved
loop-row-preserved c =
    let row = c.row-item.result in
    let near = c.in-Ok-Some.near in
    let some = sym (ap (λ (p : List ℕ). near_row c.args.name.now row.root (columns p)) c.as_slice.ensures)
    ∙ sym c.in-Ok-Some.ensures ∙ c.in-Ok-Some.field-0-is in
    let few : length c.loop-row.found.items < 10 = search rules in
    c.in_ok-push-in-Ok-Some.ensures.items
    ∙ ap (λ (l : List NearName). l ++ near ∷ []) c.loop-row.invariant
    ∙ sym (kept c.args.name.now c.args.rows.now c.loop-row.row-index row c.loop-row-test.true c.row-item.is near some
    (subst (λ (l : List NearName). length l < 10) c.loop-row.invariant few))
