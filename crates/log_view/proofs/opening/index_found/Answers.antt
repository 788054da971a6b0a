use Rattle.std.proofs.Common.{ℕ, subst}
use Rattle.log_recovery.specs.declared.looking.LogFound.{LogFound}
use Rattle.log_recovery.specs.declared.looking.LogFound.TheVariants.{Live}
use Rattle.log_recovery.specs.Finding.{IsLogFound, IsLogRefusable}
use Rattle.log_view.specs.View.{IsHeldByLog, IsIndexed}
use Rattle.log_view.proofs.Taken.{empty_taken}
use Rattle.log_view.proofs.opening.index_found.Goals as goal

pub returns-in_ok-index-in-Live-clause-indexed : goal.returns-in_ok-index-in-Live-clause-indexed
returns-in_ok-index-in-Live-clause-indexed g c told =
    let sound : IsLogRefusable c.args.page_size (Live c.in-Live.reading) = subst (λ (x : LogFound). IsLogRefusable c.args.page_size x) c.in-Live.is c.requires.sound in
    subst (λ (n : ℕ). IsIndexed n c.in_ok-index-in-Live.index.table.items (g.D.Disk.reads c.args.disk.now)) sound.1 (c.in_ok-index-in-Live.ensures.indexed told)

pub returns-in_ok-index-in-Live-clause-held : goal.returns-in_ok-index-in-Live-clause-held
returns-in_ok-index-in-Live-clause-held g c told =
    let sound : IsLogRefusable c.args.page_size (Live c.in-Live.reading) = subst (λ (x : LogFound). IsLogRefusable c.args.page_size x) c.in-Live.is c.requires.sound in
    subst (λ (n : ℕ). IsHeldByLog n c.in_ok-index-in-Live.index.table.items (g.D.Disk.reads c.args.disk.now)) sound.1 (c.in_ok-index-in-Live.ensures.held told)

pub returns-in_ok-index-in-Empty-clause-taken : goal.returns-in_ok-index-in-Empty-clause-taken
returns-in_ok-index-in-Empty-clause-taken g c told = empty_taken c.args.page_size c.args.most (g.D.Disk.reads c.args.disk.now)
    (subst (λ (x : LogFound). IsLogFound c.args.page_size (g.D.Disk.reads c.args.disk.now) x) c.in-Empty.is (c.requires.found told))
