use Rattle.std.proofs.Common.{◌≡◌, List, take, arith, ap, sym, subst, ◌∙◌}
use Rattle.cipher_profile.specs.declared.profile.Profile.{Profile}
use Rattle.cipher_profile.specs.Profile.{usable}
use Rattle.db_format.specs.Pages.{Pages}
use Rattle.edge_model.specs.Files.{Files}
use Rattle.pager.specs.Reads.{then_read}
use Rattle.salvage_scan.specs.Room.{room_bytes}
use Rattle.salvage_scan.specs.Salvage.{Line, file_pages, leaf_lines, page_lines}
use Rattle.salvage_scan.specs.Scan.{IsSalvaged}
use Rattle.salvage_scan.specs.Text.{counts_shown}
use Rattle.salvage_scan.proofs.PageSteps.{page_opened, page_refused}
use Rattle.salvage_scan.proofs.ScanSteps.{causes_later, none_put, out_causes}
use Rattle.salvage_scan.proofs.page.put_page.Goals as goal

pub open-requires-clause-high : goal.open-requires-clause-high
open-requires-clause-high g c told = let all = c.requires.pages told in let high = c.requires.high in omega (arith, all, high)

pub returns-in-Err-clause-on : goal.returns-in-Err-clause-on
returns-in-Err-clause-on g c told =
    none_put g.K.Sink.tells (page_lines (file_pages c.args.codec.now (g.D.Disk.reads c.args.disk.now)) c.args.n)
    (record { taken = g.K.Sink.taken c.args.out.now; waits = c.args.scan.now.line; counts = counts_shown c.args.scan.now.counts })

pub returns-in-Ok-false-clause-on : goal.returns-in-Ok-false-clause-on
returns-in-Ok-false-clause-on g c told =
    subst (λ (lines : List Line). IsSalvaged g.K.Sink.tells lines
    (record { taken = g.K.Sink.taken c.args.out.now; waits = c.args.scan.now.line; counts = counts_shown c.args.scan.now.counts })
    (record { taken = g.K.Sink.taken c.refuse_page.new.out; waits = c.refuse_page.new.scan.line; counts = counts_shown c.refuse_page.new.scan.counts }) c.refuse_page.result)
    (sym (page_refused (file_pages c.args.codec.now (g.D.Disk.reads c.args.disk.now)) c.args.n (sym (c.in-Ok-false.ensures.accepted told) ∙ c.in-Ok-false.field-0-test)))
    c.refuse_page.ensures.on

pub returns-in-Ok-false-clause-cause : goal.returns-in-Ok-false-clause-cause
returns-in-Ok-false-clause-cause g c =
    out_causes (g.D.Disk.faults c.args.disk.now) (g.D.Disk.faults c.open.new.disk) (g.K.Sink.faults c.args.out.now) (g.K.Sink.faults c.refuse_page.new.out) c.refuse_page.result c.refuse_page.ensures.cause

pub returns-in-Err-to_vec-clause-on : goal.returns-in-Err-to_vec-clause-on
returns-in-Err-to_vec-clause-on g c told =
    none_put g.K.Sink.tells (page_lines (file_pages c.args.codec.now (g.D.Disk.reads c.args.disk.now)) c.args.n)
    (record { taken = g.K.Sink.taken c.args.out.now; waits = c.args.scan.now.line; counts = counts_shown c.args.scan.now.counts })

pub put_leaf-requires-clause-pages : goal.put_leaf-requires-clause-pages
put_leaf-requires-clause-pages g c told =
    let same : g.D.Disk.reads c.open.new.disk ≡ g.D.Disk.reads c.args.disk.now = (c.in-Ok-true.ensures.only_read told).stays in
    c.requires.pages told ∙ ap (λ (files : Files). (file_pages c.args.codec.now files).count) (sym same)

pub returns-in-Ok-clause-on : goal.returns-in-Ok-clause-on
returns-in-Ok-clause-on g c told =
    let pages : Pages = file_pages c.args.codec.now (g.D.Disk.reads c.args.disk.now) in
    let same : g.D.Disk.reads c.open.new.disk ≡ g.D.Disk.reads c.args.disk.now = (c.in-Ok-true.ensures.only_read told).stays in
    let body : c.as_slice.result.now ≡ pages.page c.args.n =
    c.as_slice.ensures.value ∙ c.in-Ok.ensures.items_if_clones_equal (λ x y is. is) ∙ c.plain.ensures.bytes ∙ ap (λ k. take k (room_bytes c.open.new.self c.args.n)) (c.usable.ensures.value ∙ ap (λ (p : Profile). usable p) c.profile.ensures.value)
    ∙ c.in-Ok-true.ensures.opened told c.in-Ok-true.field-0-test in
    subst (λ (lines : List Line). IsSalvaged g.K.Sink.tells lines
    (record { taken = g.K.Sink.taken c.args.out.now; waits = c.args.scan.now.line; counts = counts_shown c.args.scan.now.counts })
    (record { taken = g.K.Sink.taken c.put_leaf.new.out; waits = c.put_leaf.new.scan.line; counts = counts_shown c.put_leaf.new.scan.counts }) c.put_leaf.result)
    (ap (λ (files : Files). leaf_lines (file_pages c.args.codec.now files) c.args.n c.as_slice.result.now) same
    ∙ page_opened pages c.args.n c.as_slice.result.now (sym (c.in-Ok-true.ensures.accepted told) ∙ c.in-Ok-true.field-0-test) body)
    (c.put_leaf.ensures.on told)

pub returns-in-Ok-clause-cause : goal.returns-in-Ok-clause-cause
returns-in-Ok-clause-cause g c =
    causes_later (g.D.Disk.faults c.args.disk.now) (g.D.Disk.faults c.open.new.disk) (g.D.Disk.faults c.put_leaf.new.disk) (g.K.Sink.faults c.args.out.now) (g.K.Sink.faults c.put_leaf.new.out)
    c.put_leaf.result c.in-Ok-true.ensures.cause.later c.put_leaf.ensures.cause

pub returns-in-Ok-clause-only_read : goal.returns-in-Ok-clause-only_read
returns-in-Ok-clause-only_read g c told = then_read (c.in-Ok-true.ensures.only_read told) (c.put_leaf.ensures.only_read told)
