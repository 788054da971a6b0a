-- What a caller leaves in a page that was lent to it.
use Rattle.std.specs.Prelude.{ℕ, List, ◌∷◌, Option, Result}
use Rattle.std.specs.Borrow.{Lends, LendsIf, LendsIfOk, MutBor, Fml, Array, u8}
use Rattle.page_cache.specs.Lending.{laid_over}
use Rattle.page_cache.specs.Pages.{HeldPages, Page, changed, fresh_frame}
use Rattle.page_cache.specs.contracts.cache.Cache.{the_row}

-- a page with new bytes over its old ones
abbrev pub written_over : List ℕ → Page → Page
written_over bytes page = record page { bytes = laid_over page.bytes bytes }

-- the cache ends with the last bytes behind r in page n
abbrev pub LendsPage : MutBor HeldPages → ℕ → MutBor (List ℕ) → Fml
LendsPage s n r = Lends the_row (Array u8 0) s r (λ w. record s.now { held = changed n (written_over w) s.now.held })

-- the same where page n is held, and the cache stays at `None`
abbrev pub LendsHeld : MutBor HeldPages → ℕ → Option (MutBor (List ℕ)) → Fml
LendsHeld s n r = LendsIf the_row (Array u8 0) s r (λ w. record s.now { held = changed n (written_over w) s.now.held }) s.now

-- the cache ends with page n first, of the last bytes behind r, and stays at `Err`
abbrev pub LendsPlaced : {E : Type 0} → MutBor HeldPages → ℕ → Result (MutBor (List ℕ)) E → Fml
LendsPlaced s n r = LendsIfOk the_row (Array u8 0) s r (λ w. record s.now { held = written_over w (fresh_frame n s.now.usable) ∷ s.now.held }) s.now
