use Rattle.std.proofs.Common.{◌≡◌, ◌≤◌, ◌+◌, ◌-◌, ◌*◌, ℕ, List, length, sym, ap, ◌∙◌, arith, refl, subst, slice_index, IsTrue}
use Rattle.edge_model.specs.Files.{Files, main_of}
use Rattle.page_codec.specs.Page.{stored_page}
use Rattle.page_codec.proofs.PageFacts.{ends_by, length-page, pages_more}
use Rattle.page_codec.proofs.SideBySide.{cut_page}
use Rattle.pager.specs.Reads.{then_read}
use Rattle.pager.proofs.ahead.read_each.Goals as goal

pub pages-preserved : goal.pages-preserved
pages-preserved g c =
    let numbers : List ℕ = c.args.numbers.now in
    let size : ℕ = c.args.size in
    let i : ℕ = c.pages.i in
    let n : ℕ = slice_index numbers i in
    let main : List ℕ = main_of (g.D.Disk.reads c.args.disk.now) in
    let pages : List ℕ = c.pages.pages in
    let page : List ℕ = c.read_page.new.page in
    let before = c.pages.invariant in
    let whole : size * i + size - size * i ≡ size = omega arith in
    let within : size * i + size ≤ length pages = omega (arith, ends_by size i (length numbers) c.pages-test.true, before.read.length_kept, c.requires.long) in
    let long : length page ≡ size = c.read_page.auto.page
    ∙ ap (λ (l : List ℕ). length l) (cut_page pages size i (size * i) (size * i + size - size * i) refl whole) ∙ length-page size i pages within in
    record {
      read = pages_more (λ (k : ℕ) (l : List ℕ). IsTrue g.D.Disk.tells → l ≡ stored_page size (slice_index numbers k) main)
          size c.args.pages.now pages page i before.read within long
          (λ told.
          let same = (before.only_read told).stays in
          let there : n * length page ≤ length main = subst (λ (m : ℕ). n * m ≤ length main) (sym long) (c.requires.whole told i c.pages-test.true) in
          let fits = subst (λ (f : Files). n * length page ≤ length (main_of f)) (sym same) there in
          c.in-Ok.ensures.told told fits ∙ (λ t. stored_page (long t) n (main_of (same t))));
      later = let first = before.later in let more = c.read_page.ensures.cause.later in omega (arith, first, more);
      only_read = λ told. then_read (before.only_read told) (c.read_page.ensures.only_read told);
    }
