use Rattle.std.proofs.Common.{◌≤◌, ◌+◌, ◌^◌, false, List, Err, arith, rules, ap, sym, subst}
use Rattle.btree_model.specs.Content.{Entry}
use Rattle.bulk_load.specs.Loader.{Loaded, family_of_loader}
use Rattle.bulk_load.proofs.CauseLemmas.{in_order}
use Rattle.bulk_load.specs.Found.{HasTree}
use Rattle.bulk_load.specs.Depth.{IsShallow}
use Rattle.bulk_load.specs.Few.{TookFew, load_pages}
use Rattle.cipher_profile.specs.Profile.{usable}
use Rattle.fresh_file.specs.declared.state.FreshState.{FreshState}
use Rattle.migrate_job.proofs.FewLaws.{asks_refusal}
use Rattle.bulk_load.specs.Own.{Covers, only}
use Rattle.fresh_file.specs.State.{IsWellAs, fresh_pages}
use Rattle.migrate_job.specs.Copying.{FollowsTarget, KeepsTarget, asked_by}
use Rattle.migrate_job.proofs.TargetLaws.{follows_along, follows_without, keeps_along, keeps_without, moved, moved_one}
use Rattle.migrate_job.proofs.tree.finish_tree.Goals as goal

pub returns-in-Ok-clause-tree : goal.returns-in-Ok-clause-tree
returns-in-Ok-clause-tree g c start was own =
    let side = g.T.Side in
    let out = c.out-out.result in
    let to = c.finish.new.out in
    let same = c.out-out.ensures.same in
    let well = moved (λ state t. IsWellAs state start side.tells side.draws_tell (side.fresh t) (side.drawn t)) _ out.state.now _ out.side.now same.0 same.1 was in
    moved
    (λ state t. Covers false own (fresh_pages c.args.state.now (side.fresh c.args.side.now)) (fresh_pages state (side.fresh t)) → (pushed : List Entry)
    → Loaded (only own (fresh_pages c.args.state.now (side.fresh c.args.side.now))) c.args.loader pushed
    → HasTree (only own (fresh_pages state (side.fresh t))) (family_of_loader c.args.loader) c.in-Ok.root pushed)
    to.state.now c.state-1.given.0 to.side.now c.side-1.given.0 (search rules) (search rules)
    (λ covered pushed loaded. c.in-Ok.ensures.tree start well own
    (subst (λ first. Covers first own (fresh_pages out.state.now (side.fresh out.side.now)) (fresh_pages to.state.now (side.fresh to.side.now))) (sym c.requires.at_one)
    (moved (λ state t. Covers false own (fresh_pages state (side.fresh t)) (fresh_pages to.state.now (side.fresh to.side.now))) _ out.state.now _ out.side.now same.0 same.1 covered)) pushed
    (moved (λ state t. Loaded (only own (fresh_pages state (side.fresh t))) c.args.loader pushed) _ out.state.now _ out.side.now same.0 same.1 loaded))

pub returns-in-Ok-clause-keeps : goal.returns-in-Ok-clause-keeps
returns-in-Ok-clause-keeps g c =
    let side = g.T.Side in
    let out = c.out-out.result in
    let to = c.finish.new.out in
    let same = c.out-out.ensures.same in
    moved (λ state t. KeepsTarget side.tells side.draws_tell side.fresh side.drawn side.disk_faults side.draw_faults (record { state = c.args.state.now; side = c.args.side.now }) (record { state = state; side = t }))
    to.state.now _ to.side.now _ (search rules) (search rules)
    (moved (λ state t. KeepsTarget side.tells side.draws_tell side.fresh side.drawn side.disk_faults side.draw_faults (record { state = state; side = t }) (record { state = to.state.now; side = to.side.now }))
    out.state.now _ out.side.now _ (sym same.0) (sym same.1)
    (keeps_along side.tells side.draws_tell side.fresh side.drawn side.disk_faults side.draw_faults (λ s. record { state = s.state.now; side = s.side.now }) out to
    (keeps_without out to c.requires.at_one c.in-Ok.ensures.keeps)))

pub returns-in-Ok-clause-follows : goal.returns-in-Ok-clause-follows
returns-in-Ok-clause-follows g c =
    let side = g.T.Side in
    let out = c.out-out.result in
    let to = c.finish.new.out in
    let same = c.out-out.ensures.same in
    moved (λ state t. FollowsTarget side.tells side.draws_tell side.fresh side.drawn side.disk_faults side.draw_faults (record { state = c.args.state.now; side = c.args.side.now }) (record { state = state; side = t }))
    to.state.now _ to.side.now _ (search rules) (search rules)
    (moved (λ state t. FollowsTarget side.tells side.draws_tell side.fresh side.drawn side.disk_faults side.draw_faults (record { state = state; side = t }) (record { state = to.state.now; side = to.side.now }))
    out.state.now _ out.side.now _ (sym same.0) (sym same.1)
    (follows_along side.tells side.draws_tell side.fresh side.drawn side.disk_faults side.draw_faults (λ s. record { state = s.state.now; side = s.side.now }) out to
    (follows_without out to c.requires.at_one c.in-Ok.ensures.follows)))

pub returns-in-Err-clause-keeps : goal.returns-in-Err-clause-keeps
returns-in-Err-clause-keeps g c =
    let side = g.T.Side in
    let out = c.out-out.result in
    let to = c.finish.new.out in
    let same = c.out-out.ensures.same in
    moved (λ state t. KeepsTarget side.tells side.draws_tell side.fresh side.drawn side.disk_faults side.draw_faults (record { state = c.args.state.now; side = c.args.side.now }) (record { state = state; side = t }))
    to.state.now _ to.side.now _ (search rules) (search rules)
    (moved (λ state t. KeepsTarget side.tells side.draws_tell side.fresh side.drawn side.disk_faults side.draw_faults (record { state = state; side = t }) (record { state = to.state.now; side = to.side.now }))
    out.state.now _ out.side.now _ (sym same.0) (sym same.1)
    (keeps_along side.tells side.draws_tell side.fresh side.drawn side.disk_faults side.draw_faults (λ s. record { state = s.state.now; side = s.side.now }) out to
    (keeps_without out to c.requires.at_one c.in-Err.ensures.keeps)))

pub returns-in-Ok-clause-few : goal.returns-in-Ok-clause-few
returns-in-Ok-clause-few g c from list few =
    let out = c.out-out.result in
    let to = c.finish.new.out in
    let same = c.out-out.ensures.same in
    let family = family_of_loader c.args.loader in
    let took = moved_one (λ (state : FreshState). TookFew family (usable state.codec.profile) from list (state.taken + 1) c.args.loader) c.args.state.now out.state.now same.0 few in
    moved_one (λ (state : FreshState). state.taken + 1 ≤ from + load_pages family (usable c.args.state.now.codec.profile) list) to.state.now c.state-1.given.0 (search rules)
    (moved_one (λ (state : FreshState). to.state.now.taken + 1 ≤ from + load_pages family (usable state.codec.profile) list) out.state.now c.args.state.now (sym same.0) (c.in-Ok.ensures.few from list took))

pub returns-in-Err-clause-few : goal.returns-in-Err-clause-few
returns-in-Err-clause-few g c from list few =
    let out = c.out-out.result in
    let to = c.finish.new.out in
    let same = c.out-out.ensures.same in
    let family = family_of_loader c.args.loader in
    let took = moved_one (λ (state : FreshState). TookFew family (usable state.codec.profile) from list (state.taken + 1) c.args.loader) c.args.state.now out.state.now same.0 few in
    moved_one (λ (state : FreshState). state.taken + 1 ≤ from + load_pages family (usable c.args.state.now.codec.profile) list) to.state.now c.state-1.given.0 (search rules)
    (moved_one (λ (state : FreshState). to.state.now.taken + 1 ≤ from + load_pages family (usable state.codec.profile) list) out.state.now c.args.state.now (sym same.0) (c.in-Err.ensures.few from list took))

pub returns-in-Err-clause-asked : goal.returns-in-Err-clause-asked
returns-in-Err-clause-asked g c from list few =
    let out = c.out-out.result in
    let to = c.finish.new.out in
    let same = c.out-out.ensures.same in
    let family = family_of_loader c.args.loader in
    let took = moved_one (λ (state : FreshState). TookFew family (usable state.codec.profile) from list (state.taken + 1) c.args.loader) c.args.state.now out.state.now same.0 few in
    moved_one (λ (state : FreshState). state.taken + 1 + asked_by c.load_error.result ≤ from + load_pages family (usable c.args.state.now.codec.profile) list) to.state.now c.state-1.given.0 (search rules)
    (moved_one (λ (state : FreshState). to.state.now.taken + 1 + asked_by c.load_error.result ≤ from + load_pages family (usable state.codec.profile) list) out.state.now c.args.state.now (sym same.0)
    (asks_refusal c.in-Err.error c.load_error.result (to.state.now.taken + 1) (from + load_pages family (usable out.state.now.codec.profile) list) c.load_error.ensures
    (c.in-Err.ensures.few from list took) (c.in-Err.ensures.asked from list took)))

-- so deep a tree has more pages than a file may have
pub load_error-requires-clause-shallow : goal.load_error-requires-clause-shallow
load_error-requires-clause-shallow g c is =
    let state : FreshState = c.out-out.result.state.now in
    let shallow = moved_one (λ (s : FreshState). IsShallow (usable s.codec.profile) 0 (s.taken + 1) c.args.loader) c.args.state.now state c.out-out.ensures.same.0 c.requires.shallow in
    let many : 2 ^ 28 + 0 ≤ state.taken + 1 = c.in-Err.ensures.deep 0 shallow (ap Err is) in
    absurd (omega (arith, state.within, state.limit_small))

pub load_error-requires-clause-in_order : goal.load_error-requires-clause-in_order
load_error-requires-clause-in_order g c is =
    let side = g.T.Side in
    in_order (λ s. fresh_pages s.state.now (side.fresh s.side.now)) (λ s. s.state.now.limit) (λ s. record { disk = side.disk_faults s.side.now; entropy = side.draw_faults s.side.now })
    c.out-out.result c.finish.new.out c.in-Err.error c.in-Err.ensures.cause is
