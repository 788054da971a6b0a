use Rattle.std.proofs.Common.{◌≡◌, ◌<◌, ℕ, Err, ap, rules, subst, ◌∙◌, length}
use Rattle.cipher_profile.specs.Profile.{IsListed, usable}
use Rattle.db_maker.specs.Pages.{made_pages}
use Rattle.fresh_file.specs.State.{most_pages}
use Rattle.page_codec.specs.Page.{FileKeys}
use Rattle.make_job.proofs.MadeLaws.{drawn_for, rose_later, written}
use Rattle.make_job.proofs.writing.write_rows.Goals as goal

pub returns-in_err-made-clause-limit : goal.returns-in_err-made-clause-limit
returns-in_err-made-clause-limit g c limit is =
    let told = c.fill_state.ensures.limit limit (search rules) in
    let at_most : limit ≡ most_pages c.args.codec.profile = told.0 ∙ c.in-Ok.ensures.limit in (
      at_most,
      subst (λ (k : FileKeys). most_pages c.args.codec.profile < made_pages (usable k.profile) c.args.rows) c.in-Ok.ensures.codec
          (subst (λ (m : ℕ). m < made_pages (usable c.in-Ok.state.codec.profile) c.args.rows) at_most told.1),
    )

pub returns-in-Ok-finish-clause-written : goal.returns-in-Ok-finish-clause-written
returns-in-Ok-finish-clause-written g c told =
    let side = g.T.Side in
    let start = length (side.drawn c.args.side.now) in
    let filled = c.in_ok-made.ensures in
    let well = filled.well start (c.in-Ok.ensures.well told) in
    written c.args.codec _ c.fill_state.new.state c.args.rows start side.draws_tell (side.fresh c.fill_state.new.side) _ _ (subst (λ x. IsListed x) c.profile.ensures.value c.profile.ensures.listed) (filled.same.0 ∙ c.in-Ok.ensures.codec)
    (filled.same.1 ∙ c.in-Ok.ensures.limit) (search rules) (c.in-Ok-finish.ensures.file start well) c.finish.ensures.reads_back
    (filled.made start (c.in-Ok.ensures.well told)) (filled.tight start (c.in-Ok.ensures.well told))

pub returns-in-Ok-finish-clause-own_draws : goal.returns-in-Ok-finish-clause-own_draws
returns-in-Ok-finish-clause-own_draws g c told tell file is =
    let side = g.T.Side in
    let start = length (side.drawn c.args.side.now) in
    let filled = c.in_ok-made.ensures in
    let well = filled.well start (c.in-Ok.ensures.well told) in
    drawn_for c.args.codec _ c.fill_state.new.state c.args.rows start side.draws_tell (side.fresh c.fill_state.new.side) _ _ (subst (λ x. IsListed x) c.profile.ensures.value c.profile.ensures.listed) (filled.same.0 ∙ c.in-Ok.ensures.codec)
    (filled.same.1 ∙ c.in-Ok.ensures.limit) (search rules) (c.in-Ok-finish.ensures.file start well) tell file is

pub returns-in-Ok-finish-clause-kept : goal.returns-in-Ok-finish-clause-kept
returns-in-Ok-finish-clause-kept g c =
    let t = g.met.T.Side in
    t.joins c.args.side.now c.fill_state.new.side c.finish.new.side
    (t.joins c.args.side.now c.start.new.side c.fill_state.new.side c.in-Ok.ensures.kept c.in_ok-made.ensures.kept) c.in-Ok-finish.ensures.kept

pub returns-in-Err-DiskFault-finish-clause-kept : goal.returns-in-Err-DiskFault-finish-clause-kept
returns-in-Err-DiskFault-finish-clause-kept g c =
    let t = g.met.T.Side in
    t.joins c.args.side.now c.fill_state.new.side c.finish.new.side
    (t.joins c.args.side.now c.start.new.side c.fill_state.new.side c.in-Ok.ensures.kept c.in_ok-made.ensures.kept) c.finish.ensures.kept

pub returns-clause-kept : goal.returns-clause-kept
returns-clause-kept g c =
    let t = g.met.T.Side in
    t.joins c.args.side.now c.fill_state.new.side c.finish.new.side
    (t.joins c.args.side.now c.start.new.side c.fill_state.new.side c.in-Ok.ensures.kept c.in_ok-made.ensures.kept) c.finish.ensures.kept

pub returns-in-Err-DiskFault-finish-clause-disk_fault : goal.returns-in-Err-DiskFault-finish-clause-disk_fault
returns-in-Err-DiskFault-finish-clause-disk_fault g c is =
    let faults = g.T.Side.disk_faults in
    let first = faults c.args.side.now in
    let mid = faults c.start.new.side in
    let last = faults c.fill_state.new.side in
    let end = faults c.finish.new.side in
    rose_later first mid end c.in-Ok.ensures.disk_later (rose_later mid last end c.fill_state.ensures.disk_later (c.in-Err-DiskFault-finish.ensures.disk (ap (λ e. Err e) c.in-Err-DiskFault-finish.field-0-is)))
