use Rattle.std.proofs.Common.{◌≤◌, ◌∙◌, ◌==◌, if◌then◌else◌, List, ℕ, ap, arith, length, subst, sym}
use Rattle.edge_model.specs.Files.{main_of}
use Rattle.edge_model.specs.Moments.{started}
use Rattle.cipher_profile.specs.Profile.{usable}
use Rattle.pager.specs.UnderWay.{seen_pages}
use Rattle.pager.proofs.BatchLemmas.{number_is}
use Rattle.atomic_commit.specs.Database.{HoldsOld}
use Rattle.atomic_commit.proofs.Batched.{batches_hold_old}
use Rattle.map_pages.specs.Maps.{map_number}
use Rattle.map_pages.proofs.TrunkPages.{number_small}
use Rattle.settle_job.specs.Put.{filled}
use Rattle.settle_job.proofs.TrunkPage.{less_by, number_there, page_filled}
use Rattle.settle_job.proofs.trunks.put_trunk.Goals as goal

-- the conditions, by their places: there, usable, sizes, ready, under_way
pub returns-in-Err-clause-any_moment : goal.returns-in-Err-clause-any_moment
returns-in-Err-clause-any_moment g c told =
    started g.met.D.Disk.only_now c.args.txn.now.disk.now (HoldsOld g.start.base) (λ d here. batches_hold_old g.start.base _ _ _ _ _ _ _ (c.requires.1.1.1.1.1.1 told).batches d here)

pub map_number-requires : goal.map_number-requires
map_number-requires g c =
    let t = c.args.txn.now in
    number_small c.usable-usable.result c.pages.result c.pages.type_inv c.args.k
    (less_by (usable t.write.profile) t.count c.usable-usable.result c.pages.result c.args.k c.usable-usable.ensures c.pages.ensures c.requires.1.1.0)

pub fill_page-requires : goal.fill_page-requires
fill_page-requires g c κs within =
    let t = c.args.txn.now in
    let r = c.requires.1.1 in
    let there =
    number_there c.usable-usable.result c.pages.result c.args.k
    (less_by (usable t.write.profile) t.count c.usable-usable.result c.pages.result c.args.k c.usable-usable.ensures c.pages.ensures r.0) in (
      within.0,
      (
        within.1,
        (
          λ one. omega (arith, one, c.map_number.ensures),
          (
            number_is t.count c.map_number.result (omega (arith, c.map_number.ensures)) (omega (arith, c.map_number.ensures, there, c.pages.ensures)),
            (
              subst (λ (l : List ℕ). length l ≤ usable t.write.profile) (sym c.deref.ensures.value) (omega (arith, c.in-Ok.ensures.fits, c.usable-usable.ensures)),
              r.1.1,
            ),
          ),
        ),
      ),
    )

pub returns-in-Ok-fill_page-clause-seen : goal.returns-in-Ok-fill_page-clause-seen
returns-in-Ok-fill_page-clause-seen g c told m =
    let t = c.args.txn.now in
    let size : ℕ = usable t.write.profile in
    let old : List ℕ = (seen_pages t.read t.write (main_of (g.D.Disk.reads t.disk.now)) t.count t.written t.changed.held).page m in
    c.in-Ok-fill_page.ensures.seen told m
    ∙ ap (λ (n : ℕ). if m == n then filled size c.deref.result.now else old) (c.map_number.ensures ∙ ap (λ (u : ℕ). map_number u c.args.k) c.usable-usable.ensures)
    ∙ ap (λ (l : List ℕ). if m == map_number size c.args.k then l else old)
    (page_filled size t.count c.usable-usable.result c.pages.result c.args.old_first c.args.k c.deref.result.now c.in-Ok.head.items c.deref.ensures.value c.in-Ok.ensures.bytes
    c.usable-usable.ensures c.pages.ensures)
