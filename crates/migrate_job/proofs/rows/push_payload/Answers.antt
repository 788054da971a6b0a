use Rattle.std.proofs.Common.{to_z, of_z, ◌≤◌, ◌+◌, ◌∷◌, ◌++◌, [], ℕ, ℤ, List, Some, sym, subst, ap}
use Rattle.std.specs.Int.{w64}
use Rattle.std.proofs.lemmas.Int.{to_z-of_z}
use Rattle.btree_page.specs.declared.kind.Family.{Family}
use Rattle.btree_page.specs.declared.kind.Family.TheVariants.{Table}
use Rattle.btree_model.specs.Content.{Entry}
use Rattle.bulk_load.specs.Few.{TookFew, load_pages}
use Rattle.migrate_job.proofs.LoadLaws.{push_cause}
use Rattle.migrate_job.proofs.rows.push_payload.Goals as goal

pub returns-in-Ok-clause-pushed : goal.returns-in-Ok-clause-pushed
returns-in-Ok-clause-pushed g c from list few =
    let pages = g.P.PageOut.pages in
    let size : ℕ = (pages c.args.out.now).usable in
    let found : List Entry = list ++ record { rowid = Some (to_z w64 (of_z w64 c.args.rowid)); payload = c.args.payload.now } ∷ [] in
    let named = ap (λ (z : ℤ). list ++ record { rowid = Some z; payload = c.args.payload.now } ∷ []) (to_z-of_z w64 c.args.rowid c.ranges.rowid) in
    subst (λ (more : List Entry). TookFew Table size from more (pages c.push.new.out).count c.push.new.self) named
    (subst (λ (family : Family). TookFew family size from found (pages c.push.new.out).count c.push.new.self) c.requires.family
    (c.in-Ok.ensures.pushed from list (subst (λ (family : Family). TookFew family size from list (pages c.args.out.now).count c.args.loader.now) (sym c.requires.family) few)))

pub returns-in-Err-clause-asked : goal.returns-in-Err-clause-asked
returns-in-Err-clause-asked g c from list few =
    let pages = g.P.PageOut.pages in
    let size : ℕ = (pages c.args.out.now).usable in
    let found : List Entry = list ++ record { rowid = Some (to_z w64 (of_z w64 c.args.rowid)); payload = c.args.payload.now } ∷ [] in
    let named = ap (λ (z : ℤ). list ++ record { rowid = Some z; payload = c.args.payload.now } ∷ []) (to_z-of_z w64 c.args.rowid c.ranges.rowid) in
    subst (λ (more : List Entry). (pages c.push.new.out).count + 1 ≤ from + load_pages Table size more) named
    (subst (λ (family : Family). (pages c.push.new.out).count + 1 ≤ from + load_pages family size found) c.requires.family
    (c.in-Err.ensures.few from list (subst (λ (family : Family). TookFew family size from list (pages c.args.out.now).count c.args.loader.now) (sym c.requires.family) few)))

pub returns-in-Err-clause-cause : goal.returns-in-Err-clause-cause
returns-in-Err-clause-cause g c =
    let p = g.P.PageOut in push_cause p.pages p.limit p.faults c.args.out.now c.push.new.out c.in-Err.error c.in-Err.ensures.cause c.in-Err.ensures.flat
