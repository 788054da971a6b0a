use Rattle.std.proofs.Common.{◌≡◌, ◌∙◌, ℕ, List, [], true, ap, sym, subst}
use Rattle.page_cache.specs.Pages.{Page}
use Rattle.pager.specs.Changed.{Changed}
use Rattle.pager.specs.Pages.{is_page_number}
use Rattle.pager.specs.UnderWay.{is_touched, seen_pages}
use Rattle.edge_model.specs.Files.{main_of}
use Rattle.pager.proofs.EndingLemmas.{are_changes}
use Rattle.pager.proofs.UnderWayLemmas.{seen_after, touched_after}
use Rattle.pager.proofs.txn.Txn.spill.Goals as goal

-- the conditions, by their places: some, sizes, ready, under_way
pub returns-in-Ok-clause-seen : goal.returns-in-Ok-clause-seen
returns-in-Ok-clause-seen g c told m =
    let r = c.requires.1.1 in
    let s = c.args.self.now in
    let old = main_of (g.D.Disk.reads s.disk.now) in
    let new = main_of (g.D.Disk.reads c.write_frames-written.new.disk) in
    let marks = c.write_frames-written.new.written in
    let w = c.in-Ok.ensures.written told in
    let listing = c.len-listed.ensures.listing in
    let free : c.free.new.self.held ≡ [] = ap (λ (v : Changed). v.held) c.free.ensures in
    subst (λ (p : ℕ). (seen_pages s.read s.write new p marks c.free.new.self.held).page m ≡ (seen_pages s.read s.write old p s.written s.changed.held).page m) (sym r.1.0.1)
    (subst (λ (hs : List Page). (seen_pages s.read s.write new g.start.base.pages marks hs).page m ≡ (seen_pages s.read s.write old g.start.base.pages s.written s.changed.held).page m) (sym free)
    (seen_after g.start s.read s.write s.written s.changed w.0 old new s.layout.0 r.1.0.0 listing (are_changes s.changed g.start.base.pages listing (s.fits.1 ∙ r.1.0.1) r.0) w.1 marks c.in-Ok.ensures.marks m))

pub returns-in-Ok-clause-touched : goal.returns-in-Ok-clause-touched
returns-in-Ok-clause-touched g c m num =
    let r = c.requires.1.1 in
    let s = c.args.self.now in
    let marks = c.write_frames-written.new.written in
    let listing = c.len-listed.ensures.listing in
    let free : c.free.new.self.held ≡ [] = ap (λ (v : Changed). v.held) c.free.ensures in
    subst (λ (hs : List Page). is_touched marks hs m ≡ is_touched s.written s.changed.held m) (sym free)
    (touched_after g.start.base.pages s.written marks s.changed listing c.in-Ok.ensures.marks m (subst (λ (p : ℕ). is_page_number p m ≡ true) r.1.0.1 num))
