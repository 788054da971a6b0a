use Rattle.std.proofs.Common.{◌∙◌, ap, sym, take, Bool}
use Rattle.std.specs.Prelude.{if◌then◌else◌}
use Rattle.cipher_profile.specs.Profile.{usable}
use Rattle.db_format.specs.Source.{one_less}
use Rattle.page_cache.specs.Pages.{HeldPages}
use Rattle.edge_model.specs.Files.{main_of}
use Rattle.pager.specs.Held.{plain_of_page, pins_of}
use Rattle.pager.proofs.Filling.{opened_pins}
use Rattle.pager.proofs.Pins.{bytes_unpinned, has_pins, pins_less}
use Rattle.pager.proofs.source.PagerPageSource.unpin.Goals as goal

pub invariant_of-self-clause-opened : goal.invariant_of-self-clause-opened
invariant_of-self-clause-opened g c = λ told.
    rw c.unpin.ensures.less (opened_pins c.args.self.now.codec (main_of (g.D.Disk.reads c.args.self.now.disk.now)) c.args.n c.args.self.now.cache.held (c.args.self.now.opened told)).1

pub returns-clause-value : goal.returns-clause-value
returns-clause-value g c = c.unpin.ensures.value ∙ has_pins c.args.n c.args.self.now.cache.held

pub returns-clause-pins : goal.returns-clause-pins
returns-clause-pins g c =
    ap (λ (p : HeldPages). pins_of p.held) c.unpin.ensures.less ∙ pins_less c.args.n c.args.self.now.cache.held
    ∙ ap (λ (b : Bool). if b then one_less c.args.n (pins_of c.args.self.now.cache.held) else pins_of c.args.self.now.cache.held) (sym c.unpin.ensures.value)

pub returns-clause-at_hand : goal.returns-clause-at_hand
returns-clause-at_hand g c =
    ap (λ (p : HeldPages). plain_of_page c.args.self.now.codec.profile c.args.self.now.last p.held) c.unpin.ensures.less ∙ ap (take (usable c.args.self.now.codec.profile)) (bytes_unpinned c.args.n c.args.self.now.last c.args.self.now.cache.held)
