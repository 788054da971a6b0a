-- A transaction under way. A page that it changed stands in a frame; once it has left that, it stands in Main, sealed under the
-- codec for writing, and is marked as written.
use Rattle.std.specs.Prelude.{ℕ, ◌≡◌, ◌++◌, ◌*◌, ◌&&◌, ◌||◌, Bool, true, false, List, length, replicate, unwrap_or, IsTrue, if◌then◌else◌}
use Rattle.cipher_profile.specs.Profile.{usable}
use Rattle.db_format.specs.Pages.{Pages as Plain}
use Rattle.edge_model.specs.Causes.{Rose}
use Rattle.edge_model.specs.Files.{Files, main_of}
use Rattle.page_cache.specs.Pages.{Page, held_bytes, is_held}
use Rattle.page_codec.specs.Page.{FileKeys, accepts, opened, sealed}
use Rattle.pager.specs.File.{page_stored}
use Rattle.pager.specs.Pages.{is_page_number, opened_pages}
use Rattle.pager.specs.declared.fill.PageError.{PageError}
use Rattle.pager.specs.declared.fill.PageError.TheVariants.{OutOfRange, TagRefused, DiskFault, EntropyFault, AllPinned}
use Rattle.rollback_journal.specs.Writing.{Writing, IsSmall, IsLeft, IsLeftBeside, at_first, safe_records, waiting_records}
use Rattle.atomic_commit.specs.Batches.{HasBatches, IsBatchReady}
use Rattle.atomic_commit.specs.Database.{Base}
use Rattle.atomic_commit.specs.Draws.{OwnDraws}
use Rattle.atomic_commit.specs.Marks.{is_marked}

-- what a transaction begins with: the database, and all that was drawn before
pub record Start : Type 0 where
  pub base : Base
  pub drawn : List ℕ

-- the codec that page n stands under in Main
abbrev pub keys_at : FileKeys → FileKeys → List Bool → ℕ → FileKeys
keys_at read write marks n = if is_marked n marks then write else read

-- the pages as the transaction sees them: out of their frames, else out of Main
abbrev pub seen_pages : FileKeys → FileKeys → List ℕ → ℕ → List Bool → List Page → Plain
seen_pages read write file count marks held = record {
  count = count;
  usable = usable read.profile;
  page = λ n. unwrap_or (held_bytes n held) ((opened_pages (keys_at read write marks n) file count).page n);
  accepts = λ n. is_held n held || (opened_pages (keys_at read write marks n) file count).accepts n;
}

-- the transaction changed page n
abbrev pub is_touched : List Bool → List Page → ℕ → Bool
is_touched marks held n = is_held n held || is_marked n marks

-- Main with these pages, which the transaction changed: each is whole, is accepted and opens to its plain page, and is sealed with bytes of
-- its own that were drawn since the start. Every other page has the stored bytes of the start.
pub record HasNewPages (start : Start) (keys : FileKeys) (touched : ℕ → Bool) (plain : ℕ → List ℕ) (tells : Bool) (drawn main : List ℕ) : Type 0 where
  pub draws : List ℕ
  pub since : IsTrue tells → drawn ≡ start.drawn ++ draws
  pub own : OwnDraws keys.profile.reserve 0 draws (λ n. is_page_number start.base.pages n && touched n)
      (λ n draw. page_stored keys main n ≡ sealed keys n (plain n) draw)
  pub whole : (n : ℕ) → is_page_number start.base.pages n ≡ true → touched n ≡ true → length (page_stored keys main n) ≡ keys.profile.page_size
  pub sizes : (n : ℕ) → is_page_number start.base.pages n ≡ true → touched n ≡ true → length (plain n) ≡ usable keys.profile
  pub accepted : (n : ℕ) → is_page_number start.base.pages n ≡ true → touched n ≡ true → accepts keys n (page_stored keys main n) ≡ true
  pub opens : (n : ℕ) → is_page_number start.base.pages n ≡ true → touched n ≡ true → opened keys n (page_stored keys main n) ≡ plain n
  pub others : (n : ℕ) → is_page_number start.base.pages n ≡ true → touched n ≡ false → page_stored keys main n ≡ page_stored keys start.base.start n

-- each page has a mark or none, and the writer of the journal can take the next batch
abbrev pub IsReadyFor : List Bool → Writing → Type 0
IsReadyFor marks w = (length marks ≡ w.initial) × IsBatchReady marks (w ≡ at_first w.page_size w.initial) w.stage w.count w.total (IsSmall w)

-- The disk between two calls of a transaction, none of which answered a fault. In each image the old database alone is recovered; the pages
-- of `recorded` have a record behind an open gate, whether they were written or not; those of `written` stand in Main as they were changed
-- last, and the others as at the start.
pub record IsUnderWay (start : Start) (keys : FileKeys) (recorded written : List Bool) (w : Writing) (now : Files) (images : Files → Type 0) (tells : Bool) (drawn : List ℕ) : Type 0 where
  pub batches : HasBatches start.base recorded (safe_records w) (waiting_records w) (λ n. IsLeft w n.journal)
      (λ n c. IsLeftBeside w n.journal c.journal) now images
  pub pages : HasNewPages start keys (λ n. is_marked n written) (λ n. opened keys n (page_stored keys (main_of now) n)) tells drawn (main_of now)

-- Page n of these pages is refused so, while the counts of faults of the disk and of the entropy went from one number to the other.
abbrev pub IsRefusedAs : Bool → Plain → ℕ → ℕ → ℕ → ℕ → ℕ → PageError → Type 0
IsRefusedAs tells seen n disk disk_now entropy entropy_now OutOfRange = is_page_number seen.count n ≡ false
IsRefusedAs tells seen n disk disk_now entropy entropy_now (TagRefused page) =
    (is_page_number seen.count n ≡ true) × (page ≡ n) × (IsTrue tells → seen.accepts n ≡ false)
IsRefusedAs tells seen n disk disk_now entropy entropy_now DiskFault = Rose disk disk_now
IsRefusedAs tells seen n disk disk_now entropy entropy_now EntropyFault = Rose entropy entropy_now
IsRefusedAs tells seen n disk disk_now entropy entropy_now AllPinned = ⊥

-- the same, where nothing is said of the counts
abbrev pub MayRefuseAs : Bool → Plain → ℕ → PageError → Type 0
MayRefuseAs tells seen n OutOfRange = is_page_number seen.count n ≡ false
MayRefuseAs tells seen n (TagRefused page) = (is_page_number seen.count n ≡ true) × (page ≡ n) × (IsTrue tells → seen.accepts n ≡ false)
MayRefuseAs tells seen n DiskFault = Unit {0}
MayRefuseAs tells seen n EntropyFault = Unit {0}
MayRefuseAs tells seen n AllPinned = ⊥

-- no call failed: what the transaction was before the refusal, it still is
abbrev pub is_failure : PageError → Bool
is_failure OutOfRange = false
is_failure (TagRefused page) = false
is_failure DiskFault = true
is_failure EntropyFault = true
is_failure AllPinned = false

-- the page that is lent: out of its frame, else as it was read last
abbrev pub lent_out : ℕ → List Page → List ℕ → List ℕ
lent_out n held plain = unwrap_or (held_bytes n held) plain

-- a database of zeros
abbrev pub zeros : ℕ → ℕ → Base
zeros size pages = record { size = size; pages = pages; start = replicate (pages * size) 0; counts = λ n. true }
