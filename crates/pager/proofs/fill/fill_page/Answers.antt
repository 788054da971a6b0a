use Rattle.std.proofs.Common.{◌≡◌, ◌∙◌, ℕ, List, length, sym, ap, true}
use Rattle.page_cache.specs.Pages.{HeldPages, is_held}
use Rattle.page_cache.proofs.CallerLemmas.{held_first, all_moved_first}
use Rattle.edge_model.specs.Files.{main_of}
use Rattle.pager.specs.Held.{IsPageOpened, pins_of}
use Rattle.pager.proofs.Filling.{opened_after, opened_gone, absent_gone, held_sized, new_bytes}
use Rattle.pager.proofs.Pins.{pins_moved_first, pins_filled, pins_gone}
use Rattle.pager.proofs.fill.fill_page.Goals as goal

pub returns-then-touch-clause-held : goal.returns-then-touch-clause-held
returns-then-touch-clause-held g c =
    rw c.touch.ensures.first (held_first c.args.n c.args.cache.now.held (sym c.touch.ensures.value ∙ c.if-touch.true))

pub returns-then-touch-clause-opened : goal.returns-then-touch-clause-opened
returns-then-touch-clause-opened g c = λ told.
    rw c.touch.ensures.first (all_moved_first (IsPageOpened c.args.codec.now (main_of (g.D.Disk.reads c.args.disk.now))) c.args.n c.args.cache.now.held (c.requires.opened told))

pub returns-then-touch-clause-sized : goal.returns-then-touch-clause-sized
returns-then-touch-clause-sized g c =
    let held : is_held c.args.n c.touch.new.self.held ≡ true = rw c.touch.ensures.first (held_first c.args.n c.args.cache.now.held (sym c.touch.ensures.value ∙ c.if-touch.true)) in
    held_sized c.touch.new.self.usable c.args.n c.touch.new.self.held held c.touch.ensures.sound.sized
    ∙ ap (λ (p : HeldPages). p.usable) c.touch.ensures.first

pub returns-then-touch-clause-pins : goal.returns-then-touch-clause-pins
returns-then-touch-clause-pins g c =
    ap (λ (p : HeldPages). pins_of p.held) c.touch.ensures.first ∙ pins_moved_first c.args.n c.args.cache.now.held

pub returns-in-Ok-clause-opened : goal.returns-in-Ok-clause-opened
returns-in-Ok-clause-opened g c = λ told.
    let keys = c.args.codec.now in
    let main = main_of (g.D.Disk.reads c.args.disk.now) in
    opened_after keys main c.args.n c.touch.new.self c.make_room.new.cache c.read_ahead.new.page c.in_ok-make_room.ensures.room
    (rw c.touch.ensures.first (all_moved_first (IsPageOpened keys main) c.args.n c.args.cache.now.held (c.requires.opened told)))
    (c.read_ahead.auto.page ∙ c.at_mut.ensures.size ∙ ap (λ (p : HeldPages). p.usable) c.in_ok-make_room.ensures.room.placed)
    (c.in-Ok.ensures.accepted told) (c.in-Ok.ensures.plain told)

pub returns-in-Ok-clause-sized : goal.returns-in-Ok-clause-sized
returns-in-Ok-clause-sized g c =
    let room = c.in_ok-make_room.ensures.room in
    let long = c.read_ahead.auto.page ∙ c.at_mut.ensures.size ∙ ap (λ (p : HeldPages). p.usable) room.placed in
    ap (λ (l : List ℕ). length l) (new_bytes c.args.n c.touch.new.self c.make_room.new.cache c.read_ahead.new.page room long)
    ∙ long ∙ ap (λ (p : HeldPages). p.usable) c.touch.ensures.first

pub returns-in-Ok-clause-pins : goal.returns-in-Ok-clause-pins
returns-in-Ok-clause-pins g c =
    pins_filled c.args.n c.touch.new.self c.make_room.new.cache c.read_ahead.new.page c.in_ok-make_room.ensures.room c.touch.ensures.sound.distinct
    ∙ ap (λ (p : HeldPages). pins_of p.held) c.touch.ensures.first ∙ pins_moved_first c.args.n c.args.cache.now.held

pub returns-in-Err-clause-opened : goal.returns-in-Err-clause-opened
returns-in-Err-clause-opened g c = λ told.
    let keys = c.args.codec.now in
    let main = main_of (g.D.Disk.reads c.args.disk.now) in
    rw c.discard.ensures.gone (opened_gone keys main c.args.n c.touch.new.self c.make_room.new.cache c.read_ahead.new.page c.in_ok-make_room.ensures.room
    (rw c.touch.ensures.first (all_moved_first (IsPageOpened keys main) c.args.n c.args.cache.now.held (c.requires.opened told))))

pub returns-in-Err-clause-pins : goal.returns-in-Err-clause-pins
returns-in-Err-clause-pins g c =
    ap (λ (p : HeldPages). pins_of p.held) c.discard.ensures.gone
    ∙ pins_gone c.args.n c.touch.new.self c.make_room.new.cache c.read_ahead.new.page c.in_ok-make_room.ensures.room c.touch.ensures.sound.distinct
    ∙ ap (λ (p : HeldPages). pins_of p.held) c.touch.ensures.first ∙ pins_moved_first c.args.n c.args.cache.now.held

pub returns-in-Err-clause-gone : goal.returns-in-Err-clause-gone
returns-in-Err-clause-gone g c =
    rw c.discard.ensures.gone (absent_gone c.args.n c.touch.new.self c.make_room.new.cache c.read_ahead.new.page c.in_ok-make_room.ensures.room)
