-- A pager that has read nothing yet.
use Rattle.std.proofs.Common.{◌≡◌, List, [], ◌∷◌, length, refl, arith}
use Rattle.std.proofs.Math.Path.{fun_ext}
use Rattle.db_format.specs.Source.{no_pins}
use Rattle.page_cache.specs.Pages.{Page}
use Rattle.pager.specs.Held.{pins_of}

-- frames that hold nothing have no pin
pub no_held_pins : (held : List Page) → length held ≡ 0 → pins_of held ≡ no_pins
no_held_pins [] none = fun_ext (λ n. refl)
no_held_pins (page ∷ pages) none = absurd (omega (arith, none))
