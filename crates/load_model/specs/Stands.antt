-- What a loader and the pages that it put stand for.
use Rattle.std.specs.Prelude.{ℕ, ◌≡◌, true, false, ℤ, Bool, List, [], ◌∷◌, ◌++◌, map, Option, Some, None, int_le, ◌==◌}
use Rattle.std.specs.List.{list_all, list_any}
use Rattle.std.specs.Option.{option_map_or}
use Rattle.btree_page.specs.declared.kind.Family.{Family}
use Rattle.btree_page.specs.Cell.{StoredCell}
use Rattle.db_format.specs.Pages.{Pages, nothing}
use Rattle.btree_model.specs.Range.{is_in_range}
use Rattle.btree_model.specs.Finding.{Finding, place, entries, places, keys, is_sound}
use Rattle.btree_model.specs.Walk.{chain, chain_of, chain_bytes, payload_of, is_met}
use Rattle.btree_model.specs.Content.{Entry, entry_of}
use Rattle.load_model.specs.Open.{Open, open_found}

-- one page more was put, which had not been put before; every other page stays
pub record IsPut (old new : Pages) (m : ℕ) : Type 0 where
  pub fresh : old.accepts m ≡ false
  pub put : new.accepts m ≡ true
  pub size : new.usable ≡ old.usable
  pub range : (n : ℕ) → is_in_range old n ≡ true → is_in_range new n ≡ true
  pub stays : (n : ℕ) → (m == n) ≡ false → new.page n ≡ old.page n
  pub stays_put : (n : ℕ) → (m == n) ≡ false → new.accepts n ≡ old.accepts n

-- r is at most the last rowid
abbrev pub is_at_most : Option ℤ → ℤ → Bool
is_at_most last r = option_map_or (λ l. int_le r l) last false

-- no page was put
abbrev pub IsNonePut : Pages → Type 0
IsNonePut pages = (n : ℕ) → pages.accepts n ≡ false

-- The open pages, with what was put below them, give these entries in order, and this is the last rowid. Each page that was put is one of
-- those that they lead to, but for these loose ones, to which nothing leads yet.
pub record StandsBut (loose : List ℕ) (pages : Pages) (family : Family) (last : Option ℤ) (todo : List Open) (pushed : List Entry) : Type 0 where
  pub sound : (slack : ℕ) → is_sound (open_found pages family slack [] todo) ≡ true
  pub gives : (slack : ℕ) → map entry_of (entries (open_found pages family slack [] todo)) ≡ pushed
  pub put : (slack : ℕ) → list_all pages.accepts (places (open_found pages family slack [] todo)) ≡ true
  pub order : (slack : ℕ) → list_all (is_at_most last) (keys (open_found pages family slack [] todo)) ≡ true
  pub whole : (slack n : ℕ) → pages.accepts n ≡ true → list_any (λ m. m == n) (loose ++ places (open_found pages family slack [] todo)) ≡ true

-- the same without a loose page
abbrev pub OpenPagesStand : Pages → Family → Option ℤ → List Open → List Entry → Type 0
OpenPagesStand pages family last todo pushed = StandsBut [] pages family last todo pushed

abbrev pub placements : List ℕ → List Finding
placements [] = []
placements (n ∷ ns) = place n ∷ placements ns

-- the pages of this chain, each put, and its payload
pub record IsChain (pages : Pages) (stored : StoredCell) (ns : List ℕ) (payload : List ℕ) : Type 0 where
  pub walk : (met : List Finding) (holder : ℕ) → list_any (is_met nothing met) ns ≡ false → chain_of pages nothing met holder stored ≡ placements ns
  pub bytes : payload_of pages stored ≡ payload
  pub put : list_all pages.accepts ns ≡ true

-- a chain of `more` pages from page n on, each put; it is written from its end
pub record IsLinks (pages : Pages) (more n : ℕ) (ns bytes : List ℕ) : Type 0 where
  pub walk : (met : List Finding) (holder : ℕ) → list_any (is_met nothing met) ns ≡ false → chain pages nothing met more holder n ≡ placements ns
  pub bytes_are : chain_bytes pages more n ≡ bytes
  pub put : list_all pages.accepts ns ≡ true
