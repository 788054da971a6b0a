use Rattle.std.proofs.Common.{◌≡◌, ◌≤◌, ◌+◌, ◌^◌, ◌∙◌, Some, true, ap, arith, refl, rules, sym}
use Rattle.std.specs.Prelude.{◌⊎◌}
use Rattle.btree_page.specs.declared.kind.Family.TheVariants.{Table}
use Rattle.bulk_load.specs.Few.{load_pages}
use Rattle.bulk_load.specs.Found.{HasTree}
use Rattle.bulk_load.specs.Out.{Follows}
use Rattle.bulk_load.specs.Own.{CoversNew, only}
use Rattle.cipher_profile.specs.Profile.{usable}
use Rattle.fresh_file.specs.State.{IsWellAs, fresh_pages}
use Rattle.fresh_file.specs.declared.state.FreshState.{FreshState}
use Rattle.migrate_job.specs.Copied.{HasLongRow, new_entries, rows_error}
use Rattle.migrate_job.specs.Copying.{IsTargetWell, target_faults, target_limit, target_pages}
use Rattle.migrate_job.specs.declared.error.MigrateError.TheVariants.{TooManyPages}
use Rattle.migrate_job.proofs.AskedLaws.{schema_refused}
use Rattle.migrate_job.proofs.LoadLaws.{rows_deep}
use Rattle.migrate_job.proofs.TargetLaws.{follows_along, moved, moved_one}
use Rattle.migrate_job.proofs.database.load_schema.Goals as goal

pub returns-in-Ok-clause-tree : goal.returns-in-Ok-clause-tree
returns-in-Ok-clause-tree g c start was own =
    let side = g.T.Side in
    let out = c.out-out.result in
    let to = c.load_rows.new.out in
    let same = c.out-out.ensures.same in
    let listed = new_entries c.args.rows.now c.args.roots.now in
    let well = moved (λ state t. IsWellAs state start side.tells side.draws_tell (side.fresh t) (side.drawn t)) _ out.state.now _ out.side.now same.0 same.1 was in
    moved
    (λ state t. CoversNew true own (fresh_pages c.args.state.now (side.fresh c.args.side.now)) (fresh_pages state (side.fresh t))
    → HasTree (only own (fresh_pages state (side.fresh t))) Table 1 listed)
    to.state.now c.state-1.given.0 to.side.now c.side-1.given.0 (search rules) (search rules)
    (λ covered. c.in-Ok.ensures.tree start well own
    (moved (λ state t. CoversNew true own (fresh_pages state (side.fresh t)) (fresh_pages to.state.now (side.fresh to.side.now))) _ out.state.now _ out.side.now same.0 same.1 covered))

pub returns-in-Ok-clause-follows : goal.returns-in-Ok-clause-follows
returns-in-Ok-clause-follows g c =
    let side = g.T.Side in
    let out = c.out-out.result in
    let to = c.load_rows.new.out in
    let same = c.out-out.ensures.same in
    moved
    (λ state t. Follows (target_pages side.fresh) target_limit (target_faults side.disk_faults side.draw_faults) (IsTargetWell side.tells side.draws_tell side.fresh side.drawn) true
    (record { state = c.args.state.now; side = c.args.side.now }) (record { state = state; side = t }))
    to.state.now _ to.side.now _ (search rules) (search rules)
    (moved
    (λ state t. Follows (target_pages side.fresh) target_limit (target_faults side.disk_faults side.draw_faults) (IsTargetWell side.tells side.draws_tell side.fresh side.drawn) true
    (record { state = state; side = t }) (record { state = to.state.now; side = to.side.now }))
    out.state.now _ out.side.now _ (sym same.0) (sym same.1)
    (follows_along side.tells side.draws_tell side.fresh side.drawn side.disk_faults side.draw_faults (λ s. record { state = s.state.now; side = s.side.now }) out to c.in-Ok.ensures.follows))

pub returns-in-Err-clause-asked : goal.returns-in-Err-clause-asked
returns-in-Err-clause-asked g c limit is =
    let side = g.T.Side in
    let out = c.out-out.result in
    let to = c.load_rows.new.out in
    let same = c.out-out.ensures.same in
    let error = c.in-Err.error in
    let listed = new_entries c.args.rows.now c.args.roots.now in
    let long = HasLongRow c.args.rows.now c.args.roots.now in
    let why : rows_error c.page_limit-limit.result error ≡ Some (TooManyPages limit) = c.rows_error.ensures ∙ ap Some (search (rules, is)) in
    moved_one (λ (state : FreshState). long ⊎ (state.limit ≤ state.taken + load_pages Table (usable state.codec.profile) listed)) out.state.now c.args.state.now (sym same.0)
    (schema_refused (λ s. fresh_pages s.state.now (side.fresh s.side.now)) (λ s. s.state.now.limit) (λ s. record { disk = side.disk_faults s.side.now; entropy = side.draw_faults s.side.now }) out to long out.state.now.taken (load_pages Table (usable out.state.now.codec.profile) listed) c.page_limit-limit.result limit error refl why
    c.in-Err.ensures.cause c.in-Err.ensures.too_long c.in-Err.ensures.asked)

-- so deep a tree has more pages than a file may have
pub rows_error-requires : goal.rows_error-requires
rows_error-requires g c is =
    let side = g.T.Side in
    let to = c.load_rows.new.out in
    let many : 2 ^ 28 ≤ to.state.now.taken + 1 =
    rows_deep (λ s. fresh_pages s.state.now (side.fresh s.side.now)) (λ s. s.state.now.limit) (λ s. record { disk = side.disk_faults s.side.now; entropy = side.draw_faults s.side.now })
    c.out-out.result to c.in-Err.error c.in-Err.ensures.cause is in
    absurd (omega (arith, many, to.state.now.within, to.state.now.limit_small))
