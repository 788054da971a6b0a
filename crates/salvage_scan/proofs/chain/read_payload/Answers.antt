use Rattle.std.proofs.Common.{◌+◌, ◌-◌, ◌/◌, Bool, arith, ap, subst, ◌∙◌}
use Rattle.cipher_profile.specs.declared.profile.Profile.{Profile}
use Rattle.cipher_profile.specs.Profile.{usable}
use Rattle.db_format.specs.Pages.{Pages}
use Rattle.salvage_scan.specs.Chain.{IsChainFollowed}
use Rattle.salvage_scan.specs.Salvage.{file_pages}
use Rattle.salvage_scan.proofs.ChainSteps.{fits_is, links_are, long_is, payload_cut, payload_long, payload_read}
use Rattle.salvage_scan.proofs.chain.read_payload.Goals as goal

pub returns-then-needed-pages-clause-on : goal.returns-then-needed-pages-clause-on
returns-then-needed-pages-clause-on g c told =
    let pages : Pages = file_pages c.args.codec.now (g.D.Disk.reads c.args.disk.now) in
    let more = c.if-needed-pages.true in
    let all = c.requires.pages told in
    payload_long pages (record { size = c.args.size; local = c.args.payload.now.items; first = c.args.first }) _
    (links_are pages.usable c.usable-usable.result c.args.size c.len.result c.saturating_sub-missing.result c.args.payload.now.items c.args.first (c.usable-usable.ensures.value ∙ ap (λ (p : Profile). usable p) c.profile.ensures.value) (c.len.ensures ∙ c.args.payload.now.ok.0) c.saturating_sub-missing.ensures)
    c.args.payload.now.items (long_is _ pages.count (omega (arith, more, all)))

pub returns-in-Ok-false-clause-on : goal.returns-in-Ok-false-clause-on
returns-in-Ok-false-clause-on g c told =
    let pages : Pages = file_pages c.args.codec.now (g.D.Disk.reads c.args.disk.now) in
    let few = c.if-needed-pages.false in
    let all = c.requires.pages told in
    payload_cut pages (record { size = c.args.size; local = c.args.payload.now.items; first = c.args.first }) _
    (links_are pages.usable c.usable-usable.result c.args.size c.len.result c.saturating_sub-missing.result c.args.payload.now.items c.args.first (c.usable-usable.ensures.value ∙ ap (λ (p : Profile). usable p) c.profile.ensures.value) (c.len.ensures ∙ c.args.payload.now.ok.0) c.saturating_sub-missing.ensures)
    (fits_is _ pages.count (omega (arith, few, all))) c.read_links.new.payload.items
    (subst (λ (b : Bool). IsChainFollowed pages ((c.saturating_sub-missing.result + (c.usable-usable.result - 5)) / (c.usable-usable.result - 4)) c.args.first c.args.payload.now.items b c.read_links.new.payload.items) c.in-Ok-false.field-0-test (c.in-Ok-false.ensures.on told))

pub returns-in-Ok-true-clause-on : goal.returns-in-Ok-true-clause-on
returns-in-Ok-true-clause-on g c told =
    let pages : Pages = file_pages c.args.codec.now (g.D.Disk.reads c.args.disk.now) in
    let few = c.if-needed-pages.false in
    let all = c.requires.pages told in
    rw c.truncate.ensures.items
    (payload_read pages (record { size = c.args.size; local = c.args.payload.now.items; first = c.args.first }) _
    (links_are pages.usable c.usable-usable.result c.args.size c.len.result c.saturating_sub-missing.result c.args.payload.now.items c.args.first (c.usable-usable.ensures.value ∙ ap (λ (p : Profile). usable p) c.profile.ensures.value) (c.len.ensures ∙ c.args.payload.now.ok.0) c.saturating_sub-missing.ensures)
    (fits_is _ pages.count (omega (arith, few, all))) c.read_links.new.payload.items
    (subst (λ (b : Bool). IsChainFollowed pages ((c.saturating_sub-missing.result + (c.usable-usable.result - 5)) / (c.usable-usable.result - 4)) c.args.first c.args.payload.now.items b c.read_links.new.payload.items) c.in-Ok-true.field-0-test (c.in-Ok-true.ensures.on told)))
