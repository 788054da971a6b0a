use Rattle.std.proofs.Common.{◌∙◌, ap, sym, take, Bool}
use Rattle.std.specs.Prelude.{if◌then◌else◌}
use Rattle.cipher_profile.specs.Profile.{usable}
use Rattle.db_format.specs.Source.{one_more}
use Rattle.page_cache.specs.Pages.{HeldPages}
use Rattle.edge_model.specs.Files.{main_of}
use Rattle.pager.specs.Held.{plain_of_page, pins_of}
use Rattle.pager.proofs.Filling.{opened_pins}
use Rattle.pager.proofs.Pins.{bytes_pinned, pins_more}
use Rattle.pager.proofs.source.PagerPageSource.pin.Goals as goal

pub invariant_of-self-clause-opened : goal.invariant_of-self-clause-opened
invariant_of-self-clause-opened g c = λ told.
    rw c.pin.ensures.more (opened_pins c.args.self.now.codec (main_of (g.D.Disk.reads c.args.self.now.disk.now)) c.args.n c.args.self.now.cache.held (c.args.self.now.opened told)).0

pub returns-clause-pins : goal.returns-clause-pins
returns-clause-pins g c =
    ap (λ (p : HeldPages). pins_of p.held) c.pin.ensures.more ∙ pins_more c.args.n c.args.self.now.cache.held
    ∙ ap (λ (b : Bool). if b then one_more c.args.n (pins_of c.args.self.now.cache.held) else pins_of c.args.self.now.cache.held) (sym c.pin.ensures.value)

pub returns-clause-at_hand : goal.returns-clause-at_hand
returns-clause-at_hand g c =
    ap (λ (p : HeldPages). plain_of_page c.args.self.now.codec.profile c.args.self.now.last p.held) c.pin.ensures.more ∙ ap (take (usable c.args.self.now.codec.profile)) (bytes_pinned c.args.n c.args.self.now.last c.args.self.now.cache.held)
