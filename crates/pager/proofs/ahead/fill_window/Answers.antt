use Rattle.std.proofs.Common.{◌≡◌, ◌*◌, ◌<◌, ℕ, true, false, List, ◌++◌, drop, sym, ap, ◌∙◌, arith, refl, subst}
use Rattle.std.specs.Prelude.{Bool, slice_index, slice_index_or}
use Rattle.std.proofs.lemmas.List.{get_or_append_left}
use Rattle.page_codec.proofs.PageFacts.{ends_by}
use Rattle.page_codec.specs.Pages.{nth_page}
use Rattle.edge_model.specs.Files.{main_of}
use Rattle.pager.specs.Ahead.{IsReadAhead}
use Rattle.pager.proofs.AheadLemmas.{page_in_front}
use Rattle.pager.proofs.ahead.fill_window.Goals as goal

pub returns-then-open_listed-clause-ahead : goal.returns-then-open_listed-clause-ahead
returns-then-open_listed-clause-ahead g c = λ told i within held.
    let keys = c.args.codec.now in
    let main : List ℕ = main_of (g.D.Disk.reads c.args.disk.now) in
    let size : ℕ = keys.profile.page_size in
    let e = c.filled.ensures in
    let less : i < c.args.wanted.now.count = omega (arith, within, e.1) in
    let there : slice_index_or c.open_listed.new.held i false ≡ true =
    sym (get_or_append_left c.open_listed.new.held _ false i (omega (arith, less, c.open_listed.ensures.sizes.1)))
    ∙ ap (λ (l : List Bool). slice_index_or l i false) (sym e.2) ∙ held in
    let read = c.if-open_listed.ensures.ahead refl told i less there in
    let rest : List ℕ = drop (c.profile-2.result.now.page_size * c.args.wanted.now.count) c.args.pages.now in
    let page = page_in_front size i c.open_listed.new.pages rest (omega (arith, ends_by size i c.args.wanted.now.count less, c.open_listed.ensures.sizes.0)) in
    let number : slice_index c.args.wanted.now.numbers i ≡ slice_index c.filled.result.numbers i = ap (λ (l : List ℕ). slice_index l i) (sym e.0) in
    subst (λ (m : ℕ). IsReadAhead keys main m (nth_page size (c.open_listed.new.pages ++ rest) i)) number
    (subst (IsReadAhead keys main (slice_index c.args.wanted.now.numbers i)) (sym page) read)
