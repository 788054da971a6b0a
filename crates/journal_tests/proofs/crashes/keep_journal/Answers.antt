use Rattle.std.proofs.Common.{◌≡◌, inl, inr, ℕ, refl, ap, ◌∙◌}
use Rattle.edge_model.specs.Files.{Files, created}
use Rattle.edge_model.specs.Images.{Renames}
use Rattle.edge_model.specs.Moments.{started_from, goes_from, goes_less}
use Rattle.edge_model.specs.declared.role.Role.TheVariants.{Journal}
use Rattle.journal_tests.proofs.crashes.keep_journal.Goals as goal

abbrev SameMain : Files → Files → Type 0
SameMain d c = c.main ≡ d.main

created_main : {number : ℕ} {now d c : Files} → Renames (created Journal number) now d c → SameMain d c
created_main (inl same) = ap (λ (f : Files). f.main) same
created_main (inr made) = ap (λ (f : Files). f.main) made.1

pub returns-in_err-sync-clause-any_moment : goal.returns-in_err-sync-clause-any_moment
returns-in_err-sync-clause-any_moment g c told =
    let start = started_from g.met.D.Disk.only_now c.args.disk.now SameMain (λ d. refl) in
    let made =
    goes_from g.met.D.Disk.counts_now (λ a b d ab bd. bd ∙ ab) (λ d f here step. created_main step) start (c.create.ensures.time told)
    (c.create.ensures.crash told) in
    let wrote =
    goes_from g.met.D.Disk.counts_now (λ a b d ab bd. bd ∙ ab) (λ d f here step. step.0) made (c.write_at.ensures.time told)
    (c.write_at.ensures.crash told) in
    goes_less g.met.D.Disk.counts_now wrote (c.sync.ensures.time told) (c.sync.ensures.crash told)

pub returns-clause-any_moment : goal.returns-clause-any_moment
returns-clause-any_moment g c told =
    let start = started_from g.met.D.Disk.only_now c.args.disk.now SameMain (λ d. refl) in
    let made =
    goes_from g.met.D.Disk.counts_now (λ a b d ab bd. bd ∙ ab) (λ d f here step. created_main step) start (c.create.ensures.time told)
    (c.create.ensures.crash told) in
    let wrote =
    goes_from g.met.D.Disk.counts_now (λ a b d ab bd. bd ∙ ab) (λ d f here step. step.0) made (c.write_at.ensures.time told)
    (c.write_at.ensures.crash told) in
    let synced = goes_less g.met.D.Disk.counts_now wrote (c.sync.ensures.time told) (c.sync.ensures.crash told) in
    goes_less g.met.D.Disk.counts_now synced (c.sync_folder.ensures.time told) (c.sync_folder.ensures.crash told)
