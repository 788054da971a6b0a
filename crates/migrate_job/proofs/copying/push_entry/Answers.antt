use Rattle.std.proofs.Common.{◌≡◌, ◌≤◌, ◌+◌, ◌++◌, ◌∷◌, [], true, false, List, Err, arith, rules, ap, sym}
use Rattle.edge_model.specs.Causes.{Rose}
use Rattle.btree_model.specs.Content.{Entry}
use Rattle.bulk_load.specs.declared.out.OutError.TheVariants.{TooManyPages as NoNumber, DiskFault as NotWritten, EntropyFault as NotDrawn}
use Rattle.bulk_load.specs.Depth.{IsShallow}
use Rattle.bulk_load.specs.Few.{TookFew, load_pages}
use Rattle.bulk_load.specs.Loader.{Loaded, family_of_loader, is_late}
use Rattle.bulk_load.proofs.FewLemmas.{few_late}
use Rattle.cipher_profile.specs.Profile.{usable}
use Rattle.bulk_load.specs.Own.{Covers, only}
use Rattle.fresh_file.specs.State.{IsWellAs, fresh_pages}
use Rattle.fresh_file.specs.declared.state.FreshState.{FreshState}
use Rattle.migrate_job.specs.Copying.{FollowsTarget, KeepsTarget}
use Rattle.migrate_job.proofs.TargetLaws.{disk_of, entropy_of, follows_along, keeps_along, limit_of, moved, moved_one}
use Rattle.migrate_job.proofs.copying.push_entry.Goals as goal

pub returns-in-Ok-clause-pushed : goal.returns-in-Ok-clause-pushed
returns-in-Ok-clause-pushed g c start was own =
    let side = g.T.Side in
    let out = c.out-out.result in
    let to = c.push.new.out in
    let same = c.out-out.ensures.same in
    let entry : Entry = record { rowid = c.args.rowid; payload = c.args.payload.now } in
    let well = moved (λ state t. IsWellAs state start side.tells side.draws_tell (side.fresh t) (side.drawn t)) _ out.state.now _ out.side.now same.0 same.1 was in
    moved
    (λ state t. Covers false own (fresh_pages c.args.fresh.now (side.fresh c.args.side.now)) (fresh_pages state (side.fresh t)) → (pushed : List Entry)
    → Loaded (only own (fresh_pages c.args.fresh.now (side.fresh c.args.side.now))) c.args.loader.now pushed
    → Loaded (only own (fresh_pages state (side.fresh t))) c.push.new.self (pushed ++ entry ∷ []))
    to.state.now c.fresh-1.given.0 to.side.now c.side-1.given.0 (search rules) (search rules)
    (λ covered pushed loaded. c.in-Ok.ensures.loaded start well own
    (moved (λ state t. Covers false own (fresh_pages state (side.fresh t)) (fresh_pages to.state.now (side.fresh to.side.now))) _ out.state.now _ out.side.now same.0 same.1 covered) pushed
    (moved (λ state t. Loaded (only own (fresh_pages state (side.fresh t))) c.args.loader.now pushed) _ out.state.now _ out.side.now same.0 same.1 loaded))

pub returns-in-Ok-clause-keeps : goal.returns-in-Ok-clause-keeps
returns-in-Ok-clause-keeps g c =
    let side = g.T.Side in
    let out = c.out-out.result in
    let to = c.push.new.out in
    let same = c.out-out.ensures.same in
    moved (λ state t. KeepsTarget side.tells side.draws_tell side.fresh side.drawn side.disk_faults side.draw_faults (record { state = c.args.fresh.now; side = c.args.side.now }) (record { state = state; side = t }))
    to.state.now _ to.side.now _ (search rules) (search rules)
    (moved (λ state t. KeepsTarget side.tells side.draws_tell side.fresh side.drawn side.disk_faults side.draw_faults (record { state = state; side = t }) (record { state = to.state.now; side = to.side.now }))
    out.state.now _ out.side.now _ (sym same.0) (sym same.1)
    (keeps_along side.tells side.draws_tell side.fresh side.drawn side.disk_faults side.draw_faults (λ s. record { state = s.state.now; side = s.side.now }) out to c.in-Ok.ensures.keeps))

pub returns-in-Ok-clause-follows : goal.returns-in-Ok-clause-follows
returns-in-Ok-clause-follows g c =
    let side = g.T.Side in
    let out = c.out-out.result in
    let to = c.push.new.out in
    let same = c.out-out.ensures.same in
    moved (λ state t. FollowsTarget side.tells side.draws_tell side.fresh side.drawn side.disk_faults side.draw_faults (record { state = c.args.fresh.now; side = c.args.side.now }) (record { state = state; side = t }))
    to.state.now _ to.side.now _ (search rules) (search rules)
    (moved (λ state t. FollowsTarget side.tells side.draws_tell side.fresh side.drawn side.disk_faults side.draw_faults (record { state = state; side = t }) (record { state = to.state.now; side = to.side.now }))
    out.state.now _ out.side.now _ (sym same.0) (sym same.1)
    (follows_along side.tells side.draws_tell side.fresh side.drawn side.disk_faults side.draw_faults (λ s. record { state = s.state.now; side = s.side.now }) out to c.in-Ok.ensures.follows))

pub returns-in-Err-clause-limit : goal.returns-in-Err-clause-limit
returns-in-Err-clause-limit g c limit is =
    let side = g.T.Side in
    let out = c.out-out.result in
    let to = c.push.new.out in
    let same = c.out-out.ensures.same in
    let cause = c.in-Err.ensures.cause (NoNumber limit) (ap Err (limit_of c.load_error.result c.in-Err.error c.load_error.ensures limit is)) in
    moved_one (λ (state : FreshState). (limit ≡ c.args.fresh.now.limit) × (c.args.fresh.now.limit ≤ state.taken + 1)) to.state.now c.fresh-1.given.0 (search rules)
    (moved_one (λ (state : FreshState). (limit ≡ state.limit) × (state.limit ≤ to.state.now.taken + 1)) out.state.now c.args.fresh.now (sym same.0) cause)

pub returns-in-Err-clause-disk_fault : goal.returns-in-Err-clause-disk_fault
returns-in-Err-clause-disk_fault g c is =
    let side = g.T.Side in
    let out = c.out-out.result in
    let to = c.push.new.out in
    let same = c.out-out.ensures.same in
    let cause = c.in-Err.ensures.cause NotWritten (ap Err (disk_of c.load_error.result c.in-Err.error c.load_error.ensures is)) in
    moved_one (λ t. Rose (side.disk_faults c.args.side.now) (side.disk_faults t)) to.side.now _ (search rules)
    (moved_one (λ t. Rose (side.disk_faults t) (side.disk_faults to.side.now)) out.side.now _ (sym same.1) cause)

pub returns-in-Err-clause-entropy_fault : goal.returns-in-Err-clause-entropy_fault
returns-in-Err-clause-entropy_fault g c is =
    let side = g.T.Side in
    let out = c.out-out.result in
    let to = c.push.new.out in
    let same = c.out-out.ensures.same in
    let cause = c.in-Err.ensures.cause NotDrawn (ap Err (entropy_of c.load_error.result c.in-Err.error c.load_error.ensures is)) in
    moved_one (λ t. Rose (side.draw_faults c.args.side.now) (side.draw_faults t)) to.side.now _ (search rules)
    (moved_one (λ t. Rose (side.draw_faults t) (side.draw_faults to.side.now)) out.side.now _ (sym same.1) cause)

pub returns-in-Err-clause-keeps : goal.returns-in-Err-clause-keeps
returns-in-Err-clause-keeps g c =
    let side = g.T.Side in
    let out = c.out-out.result in
    let to = c.push.new.out in
    let same = c.out-out.ensures.same in
    moved (λ state t. KeepsTarget side.tells side.draws_tell side.fresh side.drawn side.disk_faults side.draw_faults (record { state = c.args.fresh.now; side = c.args.side.now }) (record { state = state; side = t }))
    to.state.now _ to.side.now _ (search rules) (search rules)
    (moved (λ state t. KeepsTarget side.tells side.draws_tell side.fresh side.drawn side.disk_faults side.draw_faults (record { state = state; side = t }) (record { state = to.state.now; side = to.side.now }))
    out.state.now _ out.side.now _ (sym same.0) (sym same.1)
    (keeps_along side.tells side.draws_tell side.fresh side.drawn side.disk_faults side.draw_faults (λ s. record { state = s.state.now; side = s.side.now }) out to c.in-Err.ensures.keeps))

pub returns-then-not-is_for-clause-few : goal.returns-then-not-is_for-clause-few
returns-then-not-is_for-clause-few g c from list few =
    few_late (family_of_loader c.args.loader.now) (usable c.args.fresh.now.codec.profile) from (c.args.fresh.now.taken + 1) list (record { rowid = c.args.rowid; payload = c.args.payload.now }) c.args.loader.now
    (let least = c.requires.loader.usable_is.least in omega arith) few

pub returns-in-Ok-clause-took : goal.returns-in-Ok-clause-took
returns-in-Ok-clause-took g c from list few =
    let out = c.out-out.result in
    let to = c.push.new.out in
    let same = c.out-out.ensures.same in
    let family = family_of_loader c.args.loader.now in
    let more : List Entry = list ++ record { rowid = c.args.rowid; payload = c.args.payload.now } ∷ [] in
    moved_one (λ (state : FreshState). TookFew family (usable c.args.fresh.now.codec.profile) from more (state.taken + 1) c.push.new.self) to.state.now c.fresh-1.given.0 (search rules)
    (moved_one (λ (state : FreshState). TookFew family (usable state.codec.profile) from more (to.state.now.taken + 1) c.push.new.self) out.state.now c.args.fresh.now (sym same.0)
    (c.in-Ok.ensures.pushed from list (moved_one (λ (state : FreshState). TookFew family (usable state.codec.profile) from list (state.taken + 1) c.args.loader.now) c.args.fresh.now out.state.now same.0 few)))

pub returns-in-Err-clause-few : goal.returns-in-Err-clause-few
returns-in-Err-clause-few g c from list few =
    let out = c.out-out.result in
    let to = c.push.new.out in
    let same = c.out-out.ensures.same in
    let family = family_of_loader c.args.loader.now in
    let more : List Entry = list ++ record { rowid = c.args.rowid; payload = c.args.payload.now } ∷ [] in
    moved_one (λ (state : FreshState). state.taken + 1 + 1 ≤ from + load_pages family (usable c.args.fresh.now.codec.profile) more) to.state.now c.fresh-1.given.0 (search rules)
    (moved_one (λ (state : FreshState). to.state.now.taken + 1 + 1 ≤ from + load_pages family (usable state.codec.profile) more) out.state.now c.args.fresh.now (sym same.0)
    (c.in-Err.ensures.few from list (moved_one (λ (state : FreshState). TookFew family (usable state.codec.profile) from list (state.taken + 1) c.args.loader.now) c.args.fresh.now out.state.now same.0 few)))

pub returns-in-Ok-clause-shallow : goal.returns-in-Ok-clause-shallow
returns-in-Ok-clause-shallow g c from shallow =
    let out = c.out-out.result in
    let to = c.push.new.out in
    let same = c.out-out.ensures.same in
    moved_one (λ (state : FreshState). IsShallow (usable c.args.fresh.now.codec.profile) from (state.taken + 1) c.push.new.self) to.state.now c.fresh-1.given.0 (search rules)
    (moved_one (λ (state : FreshState). IsShallow (usable state.codec.profile) from (to.state.now.taken + 1) c.push.new.self) out.state.now c.args.fresh.now (sym same.0)
    (c.in-Ok.ensures.shallow from (moved_one (λ (state : FreshState). IsShallow (usable state.codec.profile) from (state.taken + 1) c.args.loader.now) c.args.fresh.now out.state.now same.0 shallow)))

pub load_error-requires-clause-in_order : goal.load_error-requires-clause-in_order
load_error-requires-clause-in_order g c is =
    let late : is_late c.args.loader.now c.args.rowid ≡ true = c.in-Err.ensures.order.0 (ap Err is) in
    let early : is_late c.args.loader.now c.args.rowid ≡ false = c.requires.above in
    cc

pub load_error-requires-clause-shallow : goal.load_error-requires-clause-shallow
load_error-requires-clause-shallow g c is = c.in-Err.ensures.flat (ap Err is)
