use Rattle.std.proofs.Common.{◌≡◌, ℤ, true, ◌++◌, [], MatchResult, w64, rules, sym, subst, ◌∙◌, refl, to_z, of_z}
use Rattle.std.specs.List.{Contains}
use Rattle.std.proofs.lemmas.Int.{to_z-of_z}
use Rattle.db_format.specs.declared.defect.Defect.TheVariants.{SchemaRow as SchemaFault, RootFault}
use Rattle.db_format.specs.Pages.{Pages}
use Rattle.db_format.specs.Record.{columns}
use Rattle.btree_model.specs.Finding.{Row, faults}
use Rattle.btree_model.specs.Records.{record_fault}
use Rattle.btree_model.specs.Schema.{root_of, rowid_or_0, schema_fault}
use Rattle.btree_walk.specs.declared.error.WalkError.TheVariants.{OutOfMemory}
use Rattle.schema_map.proofs.SchemaLemmas.{shown_missing, shown_out, shown_none, shown_at, row_fault, row_kept, read_by, root_by_result}
use Rattle.schema_map.proofs.schema.read_row.Goals as goal

pub returns-in-Missing-clause-read : goal.returns-in-Missing-clause-read
returns-in-Missing-clause-read g c pages same =
    let is : to_z w64 (of_z w64 c.rowid_or_0-rowid.result) ≡ c.rowid_or_0-rowid.result = to_z-of_z w64 c.rowid_or_0-rowid.result (search rules) in
    subst (λ r. Contains (faults (record_fault c.args.page (columns c.args.payload.now) ++ schema_fault pages (rowid_or_0 c.args.rowid) (columns c.args.payload.now))) (SchemaFault r)) (sym (is ∙ c.rowid_or_0-rowid.ensures))
    (row_fault pages c.args.page (rowid_or_0 c.args.rowid) c.args.payload.now c.in-Ok.record (SchemaFault (rowid_or_0 c.args.rowid)) c.in-Ok.ensures.read
    (shown_missing pages (rowid_or_0 c.args.rowid) (root_of c.in-Ok.record) (c.in-Missing.ensures pages same)))

pub returns-in-OutOfRange-clause-read : goal.returns-in-OutOfRange-clause-read
returns-in-OutOfRange-clause-read g c pages same =
    let is : to_z w64 (of_z w64 c.rowid_or_0-rowid.result) ≡ c.rowid_or_0-rowid.result = to_z-of_z w64 c.rowid_or_0-rowid.result (search rules) in
    subst (λ r. Contains (faults (record_fault c.args.page (columns c.args.payload.now) ++ schema_fault pages (rowid_or_0 c.args.rowid) (columns c.args.payload.now))) (RootFault r)) (sym (is ∙ c.rowid_or_0-rowid.ensures))
    (row_fault pages c.args.page (rowid_or_0 c.args.rowid) c.args.payload.now c.in-Ok.record (RootFault (rowid_or_0 c.args.rowid)) c.in-Ok.ensures.read
    (shown_out pages (rowid_or_0 c.args.rowid) (root_of c.in-Ok.record) (c.in-OutOfRange.ensures pages same)))

pub returns-in-NoTree-clause-read : goal.returns-in-NoTree-clause-read
returns-in-NoTree-clause-read g c pages same =
    let is : to_z w64 (of_z w64 c.rowid_or_0-rowid.result) ≡ c.rowid_or_0-rowid.result = to_z-of_z w64 c.rowid_or_0-rowid.result (search rules) in
    let row : Row = record { rowid = c.args.rowid; payload = c.args.payload.now; page = c.args.page } in
    read_by pages row (record { rowid = rowid_or_0 c.args.rowid; root = 0; payload = c.args.payload.now }) c.keep_row.result
    (subst (λ (r : ℤ). MatchResult c.keep_row.result (λ got. got ≡ record { rowid = r; root = 0; payload = c.args.payload.now }) (λ error. error ≡ OutOfMemory)) (is ∙ c.rowid_or_0-rowid.ensures) c.keep_row.ensures)
    (row_kept pages row 0 c.in-Ok.record c.in-Ok.ensures.read (shown_none pages (rowid_or_0 c.args.rowid) (root_of c.in-Ok.record) (c.in-NoTree.ensures pages same)))

pub returns-in-At-clause-read : goal.returns-in-At-clause-read
returns-in-At-clause-read g c pages same =
    let is : to_z w64 (of_z w64 c.rowid_or_0-rowid.result) ≡ c.rowid_or_0-rowid.result = to_z-of_z w64 c.rowid_or_0-rowid.result (search rules) in
    let row : Row = record { rowid = c.args.rowid; payload = c.args.payload.now; page = c.args.page } in
    let shown = shown_at pages (rowid_or_0 c.args.rowid) (root_of c.in-Ok.record) c.in-At.root (c.in-At.ensures pages same) in
    read_by pages row (record { rowid = rowid_or_0 c.args.rowid; root = c.in-At.root; payload = c.args.payload.now }) c.keep_row-in-At.result
    (subst (λ (r : ℤ). MatchResult c.keep_row-in-At.result (λ got. got ≡ record { rowid = r; root = c.in-At.root; payload = c.args.payload.now }) (λ error. error ≡ OutOfMemory)) (is ∙ c.rowid_or_0-rowid.ensures) c.keep_row-in-At.ensures)
    (row_kept pages row c.in-At.root c.in-Ok.record c.in-Ok.ensures.read (shown.0, shown.1))

pub returns-in-At-clause-root : goal.returns-in-At-clause-root
returns-in-At-clause-root g c =
    let pages : Pages = record { count = c.args.count; usable = 0; page = λ n. []; accepts = λ n. true } in
    let shown = shown_at pages (rowid_or_0 c.args.rowid) (root_of c.in-Ok.record) c.in-At.root (c.in-At.ensures pages refl) in
    root_by_result (record { rowid = to_z w64 (of_z w64 c.rowid_or_0-rowid.result); root = c.in-At.root; payload = c.args.payload.now }) c.args.count c.keep_row-in-At.result c.keep_row-in-At.ensures shown.2
