-- Pages that are put into memory.
use Rattle.std.specs.Prelude.{ℕ, Bool, false, List, slice_index_or}
use Rattle.db_format.specs.Pages.{Pages}
use Rattle.db_format.specs.Source.{page_at}

-- pages of this size in a row, of which those with a mark were put; `last` is the last number that was given
abbrev pub mem_pages : ℕ → List ℕ → List Bool → ℕ → Pages
mem_pages usable bytes put last = record {
  count = last;
  usable = usable;
  page = page_at usable bytes;
  accepts = λ n. slice_index_or put n false;
}
