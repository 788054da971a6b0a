use Rattle.std.proofs.Common.{◌≡◌, ◌∙◌, List, ℕ, true, false, Err, refl, sym, ap, subst, arith, rules}
use Rattle.cipher_profile.specs.Profile.{usable}
use Rattle.edge_model.specs.Files.{main_of}
use Rattle.page_codec.specs.Page.{FileKeys, accepts}
use Rattle.page_plan.proofs.Results.{err_at}
use Rattle.page_plan.specs.declared.error.WriteError.{WriteError}
use Rattle.pager.specs.File.{page_stored}
use Rattle.pager.specs.Pages.{opened_pages}
use Rattle.atomic_commit.proofs.Behind.{changed_weaker}
use Rattle.rekey_job.specs.Stops.{IsLateRekey}
use Rattle.rekey_job.proofs.Rewriting.{all_accepted, all_plain, err_same, late_stop, ok_at, was_entropy, was_layout, was_memory}
use Rattle.rekey_job.proofs.rewrite.rewrite_pages.Goals as goal

-- the conditions, by their places: layout, sizes, drawn, base_is, begun, same, clean, leaves
pub write_plan-disk-requires : goal.write_plan-disk-requires
write_plan-disk-requires g c κs within =
    let d = g.D.Disk in
    let p = c.args.pager in
    let r = c.requires.1.1 in
    let size : c.usable-usable.result ≡ usable p.codec.profile = c.usable-usable.ensures.value ∙ ap usable (c.profile.ensures.value ∙ ap (λ (k : FileKeys). k.profile) c.codec.ensures) in (
      within.0,
      (
        within.1,
        (
          search rules,
          (
            (omega arith, omega arith),
            (
              r.1.0,
              (
                r.1.1.0,
                (
                  r.1.1.1.0,
                  (
                    r.1.1.1.1.0,
                    (
                      sym size,
                      λ told n num unzeroed. subst (λ (l : List ℕ). accepts p.codec n (page_stored p.codec l n) ≡ true) (sym (r.1.1.1.1.1.0 told))
                          (all_accepted p.codec (main_of (d.reads p.disk.now)) p.count c.args.leaves.now.leaves (r.1.1.1.1.1.1.0 told) (r.1.1.1.1.1.1.1 told) n num unzeroed),
                    ),
                  ),
                ),
              ),
            ),
          ),
        ),
      ),
    )

pub returns-in-Ok-clause-changed : goal.returns-in-Ok-clause-changed
returns-in-Ok-clause-changed g c = λ told.
    let d = g.D.Disk in
    let p = c.args.pager in
    let r = c.requires.1.1 in
    let size : c.usable-usable.result ≡ usable p.codec.profile = c.usable-usable.ensures.value ∙ ap usable (c.profile.ensures.value ∙ ap (λ (k : FileKeys). k.profile) c.codec.ensures) in
    all_plain g.start p.codec c.args.write (main_of (d.reads p.disk.now)) p.count c.usable-usable.result c.args.leaves.now.leaves g.E.Entropy.tells _ _
    size r.1.0.1 (r.1.1.1.1.1.1.0 told).sound (r.1.1.1.1.1.1.1 told) (ok_at c.write_plan-disk.result.2 _ c.in-Ok.is c.write_plan-disk.ensures.changed told)

pub returns-in-Ok-clause-any_moment : goal.returns-in-Ok-clause-any_moment
returns-in-Ok-clause-any_moment g c = λ told.
    let d = g.D.Disk in
    let p = c.args.pager in
    let r = c.requires.1.1 in
    let size : c.usable-usable.result ≡ usable p.codec.profile = c.usable-usable.ensures.value ∙ ap usable (c.profile.ensures.value ∙ ap (λ (k : FileKeys). k.profile) c.codec.ensures) in
    changed_weaker (λ main has. all_plain g.start p.codec c.args.write (main_of (d.reads p.disk.now)) p.count c.usable-usable.result c.args.leaves.now.leaves g.E.Entropy.tells _ main
    size r.1.0.1 (r.1.1.1.1.1.1.0 told).sound (r.1.1.1.1.1.1.1 told) has) (c.write_plan-disk.ensures.any_moment told)

pub returns-in-Err-clause-any_moment : goal.returns-in-Err-clause-any_moment
returns-in-Err-clause-any_moment g c = λ told.
    let d = g.D.Disk in
    let p = c.args.pager in
    let r = c.requires.1.1 in
    let size : c.usable-usable.result ≡ usable p.codec.profile = c.usable-usable.ensures.value ∙ ap usable (c.profile.ensures.value ∙ ap (λ (k : FileKeys). k.profile) c.codec.ensures) in
    changed_weaker (λ main has. all_plain g.start p.codec c.args.write (main_of (d.reads p.disk.now)) p.count c.usable-usable.result c.args.leaves.now.leaves g.E.Entropy.tells _ main
    size r.1.0.1 (r.1.1.1.1.1.1.0 told).sound (r.1.1.1.1.1.1.1 told) has) (c.write_plan-disk.ensures.any_moment told)

pub returns-in-Err-clause-only_old : goal.returns-in-Err-clause-only_old
returns-in-Err-clause-only_old g c = λ is told.
    c.write_plan-disk.ensures.only_old (c.in-Err.is ∙ ap (λ (e : WriteError). Err e) (was_entropy c.in-Err.error (sym c.write_error.ensures ∙ err_same _ _ is))) told

pub returns-in-Err-clause-unwritten : goal.returns-in-Err-clause-unwritten
returns-in-Err-clause-unwritten g c = λ is told.
    err_at _ c.write_plan-disk.result.2 c.in-Err.error c.in-Err.is c.write_plan-disk.ensures.unbegun (was_memory c.in-Err.error (sym c.write_error.ensures ∙ err_same _ _ is))

pub returns-in-Err-clause-layout : goal.returns-in-Err-clause-layout
returns-in-Err-clause-layout g c = λ is.
    let no : true ≡ false = sym c.requires.1.1.0 ∙ c.write_plan-disk.ensures.layout (c.in-Err.is ∙ ap (λ (e : WriteError). Err e) (was_layout c.in-Err.error (sym c.write_error.ensures ∙ err_same _ _ is))) in
    cc

pub returns-in-Err-clause-late : goal.returns-in-Err-clause-late
returns-in-Err-clause-late g c = λ told.
    subst IsLateRekey (sym c.write_error.ensures)
    (late_stop g.D.Disk.tells c.in-Err.error (err_at _ c.write_plan-disk.result.2 c.in-Err.error c.in-Err.is c.write_plan-disk.ensures.stopped) told
    (λ is. let no : true ≡ false = sym c.requires.1.1.0 ∙ c.write_plan-disk.ensures.layout (c.in-Err.is ∙ ap (λ (e : WriteError). Err e) is) in cc))
