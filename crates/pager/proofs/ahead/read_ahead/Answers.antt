use Rattle.std.proofs.Common.{ℕ, List, length, ◌∙◌, refl}
use Rattle.edge_model.specs.Files.{main_of}
use Rattle.pager.specs.Reads.{then_read}
use Rattle.pager.proofs.AheadLemmas.{page_ahead}
use Rattle.pager.proofs.ahead.read_ahead.Goals as goal

pub returns-then-copy_page-2-clause-accepted : goal.returns-then-copy_page-2-clause-accepted
returns-then-copy_page-2-clause-accepted g c = λ told.
    let keys = c.args.codec.now in
    let main : List ℕ = main_of (g.D.Disk.reads c.args.disk.now) in
    let w = c.fill_window.new.window in
    let given = c.if-copy_page-2.ensures.given refl in
    (page_ahead keys main w.numbers w.count w.held c.fill_window.new.pages c.args.n given.0 (length c.copy_page.new.page) c.copy_page-2.new.page
    (c.fill_window.ensures.ahead told) given.1 given.2 given.3 (c.copy_page.ensures.size ∙ c.requires.size) given.4).accepted

pub returns-then-copy_page-2-clause-plain : goal.returns-then-copy_page-2-clause-plain
returns-then-copy_page-2-clause-plain g c = λ told.
    let keys = c.args.codec.now in
    let main : List ℕ = main_of (g.D.Disk.reads c.args.disk.now) in
    let w = c.fill_window.new.window in
    let given = c.if-copy_page-2.ensures.given refl in
    (page_ahead keys main w.numbers w.count w.held c.fill_window.new.pages c.args.n given.0 (length c.copy_page.new.page) c.copy_page-2.new.page
    (c.fill_window.ensures.ahead told) given.1 given.2 given.3 (c.copy_page.ensures.size ∙ c.requires.size) given.4).plain

pub returns-clause-only_read : goal.returns-clause-only_read
returns-clause-only_read g c = λ told. then_read (c.fill_window.ensures.only_read told) (c.read_opened-2.ensures.only_read told)
