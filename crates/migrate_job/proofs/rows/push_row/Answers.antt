use Rattle.std.proofs.Common.{◌≡◌, ◌≤◌, ◌<◌, ◌+◌, ◌∷◌, ◌++◌, [], ℕ, ℤ, List, OnOk, IfErr, Some, length, subst, ◌∙◌, ap, arith, rules}
use Rattle.std.specs.Prelude.{OnErr}
use Rattle.std.specs.Int.{w64}
use Rattle.std.proofs.lemmas.Int.{to_z-of_z}
use Rattle.std.proofs.lemmas.Result.{on_ok_weaker}
use Rattle.btree_page.specs.Payload.{max_payload}
use Rattle.btree_page.specs.declared.kind.Family.TheVariants.{Table}
use Rattle.btree_model.specs.Content.{Entry}
use Rattle.bulk_load.specs.Few.{TookFew, load_pages}
use Rattle.bulk_load.specs.Loader.{Loaded}
use Rattle.bulk_load.specs.Own.{only}
use Rattle.bulk_load.proofs.FewLemmas.{few_late}
use Rattle.migrate_job.specs.Copied.{payload_with}
use Rattle.migrate_job.specs.declared.rows.RowsError.{RowsError}
use Rattle.migrate_job.proofs.EntryLaws.{payload_named, payload_stays, renamed_none, renamed_some}
use Rattle.migrate_job.proofs.LoadLaws.{on_any_err}
use Rattle.migrate_job.proofs.rows.push_row.Goals as goal

pub returns-then-old-eq0-clause-loaded : goal.returns-then-old-eq0-clause-loaded
returns-then-old-eq0-clause-loaded g c start well own covers pushed loaded =
    let none : c.args.old ≡ 0 = omega (arith, c.if-old-eq0.true) in
    let named = ap (λ (z : ℤ). record { rowid = Some z; payload = c.args.payload.now }) (to_z-of_z w64 c.args.rowid c.ranges.rowid)
    ∙ ap (λ (p : List ℕ). record { rowid = Some c.args.rowid; payload = p }) (payload_stays c.args.payload.now c.args.old c.args.new none) in
    subst (λ (e : Entry). OnOk c.push_payload.result (Loaded (only own (g.P.PageOut.pages c.push_payload.new.out)) c.push_payload.new.loader (pushed ++ e ∷ [])))
    named (c.push_payload.ensures.loaded start well own covers pushed loaded)

pub returns-in_err-renamed-clause-too_long : goal.returns-in_err-renamed-clause-too_long
returns-in_err-renamed-clause-too_long g c =
    let some : c.args.old ≡ 0 → ⊥ = λ none. grind (arith, none, c.if-old-eq0.false) in
    subst (λ (p : List ℕ). IfErr c.from_residual.result (λ error. error ≡ RowsError.TooLong → max_payload < length p))
    (payload_named c.args.payload.now c.args.old c.args.new some) (search rules)

pub returns-clause-loaded : goal.returns-clause-loaded
returns-clause-loaded g c start well own covers pushed loaded =
    let some : c.args.old ≡ 0 → ⊥ = λ none. grind (arith, none, c.if-old-eq0.false) in
    let named = ap (λ (z : ℤ). record { rowid = Some z; payload = c.deref.result.now }) (to_z-of_z w64 c.args.rowid c.ranges.rowid)
    ∙ ap (λ (p : List ℕ). record { rowid = Some c.args.rowid; payload = p })
    (c.deref.ensures.value ∙ c.in_ok-renamed.ensures.bytes ∙ payload_named c.args.payload.now c.args.old c.args.new some) in
    subst (λ (e : Entry). OnOk c.push_payload-2.result (Loaded (only own (g.P.PageOut.pages c.push_payload-2.new.out)) c.push_payload-2.new.loader (pushed ++ e ∷ [])))
    named (c.push_payload-2.ensures.loaded start well own covers pushed loaded)

pub returns-then-old-eq0-clause-renamed : goal.returns-then-old-eq0-clause-renamed
returns-then-old-eq0-clause-renamed g c =
    let none : c.args.old ≡ 0 = omega (arith, c.if-old-eq0.true) in
    on_ok_weaker c.push_payload.result (λ ready. renamed_none c.args.payload.now c.args.old c.args.new none) c.push_payload.ensures.ready

pub returns-clause-renamed : goal.returns-clause-renamed
returns-clause-renamed g c =
    let some : c.args.old ≡ 0 → ⊥ = λ none. grind (arith, none, c.if-old-eq0.false) in
    on_ok_weaker c.push_payload-2.result (λ ready. renamed_some c.args.payload.now c.args.old c.args.new c.in_ok-renamed.renamed.items some c.in_ok-renamed.ensures.long c.in_ok-renamed.ensures.bytes c.in_ok-renamed.ensures.reads) c.push_payload-2.ensures.ready

pub returns-then-old-eq0-clause-pushed : goal.returns-then-old-eq0-clause-pushed
returns-then-old-eq0-clause-pushed g c from list few =
    let pages = g.P.PageOut.pages in
    let none : c.args.old ≡ 0 = omega (arith, c.if-old-eq0.true) in
    let named = ap (λ (z : ℤ). record { rowid = Some z; payload = c.args.payload.now }) (to_z-of_z w64 c.args.rowid c.ranges.rowid)
    ∙ ap (λ (p : List ℕ). record { rowid = Some c.args.rowid; payload = p }) (payload_stays c.args.payload.now c.args.old c.args.new none) in
    subst (λ (e : Entry). OnOk c.push_payload.result (TookFew Table (pages c.args.out.now).usable from (list ++ e ∷ []) (pages c.push_payload.new.out).count c.push_payload.new.loader))
    named (c.push_payload.ensures.pushed from list few)

pub returns-then-old-eq0-clause-asked : goal.returns-then-old-eq0-clause-asked
returns-then-old-eq0-clause-asked g c from list few =
    let pages = g.P.PageOut.pages in
    let none : c.args.old ≡ 0 = omega (arith, c.if-old-eq0.true) in
    let named = ap (λ (z : ℤ). record { rowid = Some z; payload = c.args.payload.now }) (to_z-of_z w64 c.args.rowid c.ranges.rowid)
    ∙ ap (λ (p : List ℕ). record { rowid = Some c.args.rowid; payload = p }) (payload_stays c.args.payload.now c.args.old c.args.new none) in
    subst (λ (e : Entry). OnErr c.push_payload.result ((pages c.push_payload.new.out).count + 1 ≤ from + load_pages Table (pages c.args.out.now).usable (list ++ e ∷ [])))
    named (c.push_payload.ensures.asked from list few)

pub returns-in_err-renamed-clause-asked : goal.returns-in_err-renamed-clause-asked
returns-in_err-renamed-clause-asked g c from list few =
    let pages = g.P.PageOut.pages in
    let least = c.requires.ready.usable_is.least in
    on_any_err c.from_residual.result
    (few_late Table (pages c.args.out.now).usable from (pages c.args.out.now).count list
    (record { rowid = Some c.args.rowid; payload = payload_with c.args.payload.now c.args.old c.args.new }) c.args.loader.now (omega arith) few)

pub returns-clause-pushed : goal.returns-clause-pushed
returns-clause-pushed g c from list few =
    let pages = g.P.PageOut.pages in
    let some : c.args.old ≡ 0 → ⊥ = λ none. grind (arith, none, c.if-old-eq0.false) in
    let named = ap (λ (z : ℤ). record { rowid = Some z; payload = c.deref.result.now }) (to_z-of_z w64 c.args.rowid c.ranges.rowid)
    ∙ ap (λ (p : List ℕ). record { rowid = Some c.args.rowid; payload = p })
    (c.deref.ensures.value ∙ c.in_ok-renamed.ensures.bytes ∙ payload_named c.args.payload.now c.args.old c.args.new some) in
    subst (λ (e : Entry). OnOk c.push_payload-2.result (TookFew Table (pages c.args.out.now).usable from (list ++ e ∷ []) (pages c.push_payload-2.new.out).count c.push_payload-2.new.loader))
    named (c.push_payload-2.ensures.pushed from list few)

pub returns-clause-asked : goal.returns-clause-asked
returns-clause-asked g c from list few =
    let pages = g.P.PageOut.pages in
    let some : c.args.old ≡ 0 → ⊥ = λ none. grind (arith, none, c.if-old-eq0.false) in
    let named = ap (λ (z : ℤ). record { rowid = Some z; payload = c.deref.result.now }) (to_z-of_z w64 c.args.rowid c.ranges.rowid)
    ∙ ap (λ (p : List ℕ). record { rowid = Some c.args.rowid; payload = p })
    (c.deref.ensures.value ∙ c.in_ok-renamed.ensures.bytes ∙ payload_named c.args.payload.now c.args.old c.args.new some) in
    subst (λ (e : Entry). OnErr c.push_payload-2.result ((pages c.push_payload-2.new.out).count + 1 ≤ from + load_pages Table (pages c.args.out.now).usable (list ++ e ∷ [])))
    named (c.push_payload-2.ensures.asked from list few)

pub returns-then-payload-gt-LONGEST_PAYLOAD-clause-asked : goal.returns-then-payload-gt-LONGEST_PAYLOAD-clause-asked
returns-then-payload-gt-LONGEST_PAYLOAD-clause-asked g c from list few =
    let pages = g.P.PageOut.pages in
    let least = c.requires.ready.usable_is.least in
    few_late Table (pages c.args.out.now).usable from (pages c.args.out.now).count list
    (record { rowid = Some c.args.rowid; payload = payload_with c.args.payload.now c.args.old c.args.new }) c.args.loader.now (omega arith) few
