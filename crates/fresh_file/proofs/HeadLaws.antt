-- A finished file begins with the header that was written.
use Rattle.std.proofs.Common.{◌≡◌, ◌++◌, ◌∙◌, ℕ, Bool, List, Option, ap, drop, length, refl}
use Rattle.std.specs.Prelude.{take}
use Rattle.db_format.specs.Header.{header_bytes}
use Rattle.db_format.specs.Pages.{Pages}
use Rattle.db_format.specs.declared.header.Header.{Header}
use Rattle.fresh_file.specs.Fresh.{IsFinished, sized_page}
use Rattle.fresh_file.specs.Head.{BeginsWith}
use Rattle.page_codec.specs.Page.{FileKeys}

taken : (header : Header) (rest : List ℕ) → take 100 (header_bytes header ++ rest) ≡ header_bytes header
taken header rest = refl

pub begins : (keys : FileKeys) (header : Header) (pages : Pages) (start : ℕ) (draws_tell : Bool) (fresh : Option (List ℕ)) (drawn : List ℕ)
    → (done : IsFinished keys header pages start draws_tell fresh drawn) → BeginsWith keys (sized_page header pages.count) done.file
begins keys header pages start draws_tell fresh drawn done =
    let head = header_bytes (sized_page header pages.count) in
    ap (λ (l : List ℕ). take 100 l) done.first ∙ taken (sized_page header pages.count) (drop (length head) (pages.page 1))
