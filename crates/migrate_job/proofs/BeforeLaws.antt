-- The old pages, while the new file is written beside.
use Rattle.std.proofs.Common.{◌≡◌, ℕ, [], ap, ◌∙◌}
use Rattle.std.specs.Prelude.{unwrap_or}
use Rattle.fresh_disk.specs.OnlyFresh.{OnlyFresh}
use Rattle.edge_model.specs.Files.{Files, bytes_of, main_of}
use Rattle.page_codec.specs.Page.{FileKeys}
use Rattle.pager.specs.Pages.{opened_pages}

-- they stay
pub before_same : (old new : Files) (keys again : FileKeys) (count other : ℕ) → OnlyFresh old new → again ≡ keys → other ≡ count
    → opened_pages again (main_of new) other ≡ opened_pages keys (main_of old) count
before_same old new keys again count other only same counts =
    ap (λ file. opened_pages again (unwrap_or (bytes_of file) []) other) only.main ∙ ap (λ k. opened_pages k (main_of old) other) same
    ∙ ap (opened_pages keys (main_of old)) counts
