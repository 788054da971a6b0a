-- Pages ahead while the disk is only read.
use Rattle.std.proofs.Common.{◌≡◌, ◌≤◌, ◌*◌, ◌++◌, ℕ, List, length, take, drop, ap, sym, subst, ◌∙◌}
use Rattle.std.proofs.Math.Seq.{take-append_seam}
use Rattle.edge_model.specs.Files.{Files, main_of}
use Rattle.page_codec.specs.Page.{FileKeys}
use Rattle.pager.specs.Ahead.{IsAhead}
use Rattle.salvage_scan.specs.Ahead.{AreAhead}
use Rattle.salvage_scan.specs.declared.ahead.PagesAhead.{PagesAhead}

-- these bytes behind a loan of a buffer of as many
pub lent_back : (len : ℕ) (new old : List ℕ) → length new ≡ len → take len (new ++ drop (length new) old) ≡ new
lent_back len new old is = ap (λ (k : ℕ). take k (new ++ drop (length new) old)) (sym is) ∙ take-append_seam new (drop (length new) old)

-- pages that were read ahead
pub read_ahead_of : (keys : FileKeys) (old new : Files) (ahead : PagesAhead) (bytes : List ℕ) → new ≡ old → ahead.bytes.items ≡ bytes
    → IsAhead keys (main_of old) ahead.window bytes → ahead.last * keys.profile.page_size ≤ length (main_of old) → AreAhead keys (main_of new) ahead
read_ahead_of keys old new ahead bytes same laid opened last =
    subst (λ (files : Files). AreAhead keys (main_of files) ahead) (sym same)
    (record { opened = subst (λ (l : List ℕ). IsAhead keys (main_of old) ahead.window l) (sym laid) opened; last = last })
