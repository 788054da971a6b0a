-- An entry is pushed: its chain, its cell, and in a table the key behind a closed leaf.
use Rattle.std.proofs.Common.{◌≡◌, ℕ, zero, suc, ℤ, Bool, true, false, List, [], ◌∷◌, ◌++◌, ◌||◌, ◌&&◌, ◌==◌, if◌then◌else◌, take, drop, Option, Some, map, refl, ap, sym, subst, ◌∙◌}
use Rattle.std.specs.List.{list_any, list_all}
use Rattle.std.specs.Option.{option_to_list}
use Rattle.std.proofs.Math.Dec.{eqb-suc-zero}
use Rattle.std.proofs.lemmas.List.{append-nil, map-append}
use Rattle.std.proofs.lemmas.List.Folds.{list_all-append}
use Rattle.btree_page.specs.declared.kind.Family.{Family}
use Rattle.db_format.specs.declared.defect.Defect.TheVariants.{ChainLong}
use Rattle.db_format.specs.Bytes.{u32_at}
use Rattle.btree_page.specs.Cell.{StoredCell}
use Rattle.db_format.specs.Pages.{Pages, nothing}
use Rattle.btree_model.specs.Range.{is_in_range}
use Rattle.btree_model.specs.Finding.{Row, Finding, place, entry, key, fault, places, entries, keys, is_sound}
use Rattle.btree_model.specs.Walk.{is_met, given, chain, chain_bytes, links_needed, late_faults}
use Rattle.btree_page.specs.Step.{divider, entry as cell}
use Rattle.btree_model.specs.Content.{Entry, entry_of, last_after}
use Rattle.btree_model.proofs.FindingLemmas.{places-append, entries-append, is_sound-append}
use Rattle.btree_model.proofs.UnmarkedLemmas.{or_left, or_right}
use Rattle.btree_model.proofs.ProperLemmas.{keys-append}
use Rattle.btree_model.proofs.KeptLemmas.{AreSame, chain_kept, chain_bytes_kept}
use Rattle.load_model.specs.Open.{Open, open_found}
use Rattle.load_model.specs.Stands.{IsPut, OpenPagesStand, StandsBut, IsChain, IsLinks, placements, is_at_most}
use Rattle.load_model.proofs.AlikeLemmas.{met-append}
use Rattle.load_model.proofs.OpenLemmas.{open-append}
use Rattle.load_model.proofs.StandsLemmas.{any_turned, not_among, same_pages, still_put}
use Rattle.load_model.proofs.RowidLemmas.{IsAbove, no_order_fault, up_to_after, none_late, key_up_to}

pub links_sound : (ns : List ℕ) → is_sound (placements ns) ≡ true
links_sound [] = refl
links_sound (n ∷ ns) = links_sound ns

pub links_places : (ns : List ℕ) → places (placements ns) ≡ ns
links_places [] = refl
links_places (n ∷ ns) = ap (λ l. n ∷ l) (links_places ns)

links_entries : (ns : List ℕ) → entries (placements ns) ≡ []
links_entries [] = refl
links_entries (n ∷ ns) = links_entries ns

links_keys : (ns : List ℕ) → keys (placements ns) ≡ []
links_keys [] = refl
links_keys (n ∷ ns) = links_keys ns

-- an entry behind all that the open pages have, to whose chain nothing has led
module _ (pages : Pages) (family : Family) (last : Option ℤ) (todo : List Open) (pushed : List Entry) (h : ℕ) (rowid : Option ℤ) (stored : StoredCell)
    (ns payload : List ℕ) (s : StandsBut ns pages family last todo pushed) (above : IsAbove last rowid) (is : IsChain pages stored ns payload)
    (apart : (slack : ℕ) → list_any (is_met nothing (open_found pages family slack [] todo)) ns ≡ false) where
  abbrev found : ℕ → List Finding
  found slack = open_found pages family slack [] todo

  abbrev row : Row
  row = record { rowid = rowid; payload = payload; page = 0 }

  abbrev behind : List Finding
  behind = placements ns ++ entry row ∷ []

  it : (slack : ℕ) → open_found pages family slack [] (todo ++ record { height = h; leads = cell rowid stored } ∷ []) ≡ found slack ++ behind
  it slack =
      open-append pages family slack [] todo (record { height = h; leads = cell rowid stored } ∷ [])
      ∙ ap (λ l. found slack ++ l)
      (append-nil (given pages nothing (found slack) 0 rowid stored)
      ∙ rw (no_order_fault last rowid (found slack) 0 above (s.order slack), is.walk (found slack) 0 (apart slack), is.bytes, links_sound ns) refl)

  pub cell_places : (slack : ℕ) → places (open_found pages family slack [] (todo ++ record { height = h; leads = cell rowid stored } ∷ [])) ≡ places (found slack) ++ ns
  cell_places slack =
      ap places (it slack) ∙ places-append (found slack) behind
      ∙ ap (λ l. places (found slack) ++ l) (places-append (placements ns) (entry row ∷ []) ∙ append-nil (places (placements ns)) ∙ links_places ns)

  pub cell_stands : OpenPagesStand pages family (last_after last rowid) (todo ++ record { height = h; leads = cell rowid stored } ∷ [])
      (pushed ++ record { rowid = rowid; payload = payload } ∷ [])
  cell_stands = record {
    sound = λ slack.
        ap is_sound (it slack) ∙ is_sound-append (found slack) behind ∙ ap (λ b. b && is_sound behind) (s.sound slack)
        ∙ is_sound-append (placements ns) (entry row ∷ []) ∙ ap (λ b. b && true) (links_sound ns);
    gives = λ slack.
        ap (λ l. map entry_of (entries l)) (it slack) ∙ ap (map entry_of) (entries-append (found slack) behind)
        ∙ map-append entry_of (entries (found slack)) (entries behind) ∙ ap (λ l. l ++ map entry_of (entries behind)) (s.gives slack)
        ∙ ap (λ l. pushed ++ map entry_of l) (entries-append (placements ns) (entry row ∷ []) ∙ ap (λ l. l ++ row ∷ []) (links_entries ns));
    put = λ slack.
        ap (list_all pages.accepts) (cell_places slack) ∙ list_all-append pages.accepts (places (found slack)) ns
        ∙ ap (λ b. b && list_all pages.accepts ns) (s.put slack) ∙ is.put;
    order = λ slack.
        ap (λ l. list_all (is_at_most (last_after last rowid)) (keys l)) (it slack)
        ∙ ap (list_all (is_at_most (last_after last rowid)))
        (keys-append (found slack) behind ∙ ap (λ l. keys (found slack) ++ l) (keys-append (placements ns) (entry row ∷ []) ∙ ap (λ l. l ++ (option_to_list rowid ++ [])) (links_keys ns) ∙ append-nil (option_to_list rowid)))
        ∙ up_to_after last rowid (keys (found slack)) above (s.order slack);
    whole = λ slack n put. ap (list_any (λ k. k == n)) (cell_places slack) ∙ any_turned (λ k. k == n) (places (found slack)) ns ∙ s.whole slack n put;
  }

-- in a table, the last rowid as a key behind all that the open pages have
module _ (pages : Pages) (family : Family) (k : ℤ) (todo : List Open) (pushed : List Entry) (h : ℕ) (s : OpenPagesStand pages family (Some k) todo pushed) where
  abbrev met : ℕ → List Finding
  met slack = open_found pages family slack [] todo

  key_found : (slack : ℕ) → open_found pages family slack [] (todo ++ record { height = h; leads = divider k } ∷ []) ≡ met slack ++ key k ∷ []
  key_found slack =
      open-append pages family slack [] todo (record { height = h; leads = divider k } ∷ [])
      ∙ ap (λ l. met slack ++ (key k ∷ l)) (append-nil (late_faults k (entries (met slack))) ∙ none_late k (met slack) (s.order slack))

  pub key_stands : OpenPagesStand pages family (Some k) (todo ++ record { height = h; leads = divider k } ∷ []) pushed
  key_stands = record {
    sound = λ slack. ap is_sound (key_found slack) ∙ is_sound-append (met slack) (key k ∷ []) ∙ ap (λ b. b && true) (s.sound slack);
    gives = λ slack.
        ap (λ l. map entry_of (entries l)) (key_found slack) ∙ ap (map entry_of) (entries-append (met slack) (key k ∷ []) ∙ append-nil (entries (met slack))) ∙ s.gives slack;
    put = λ slack.
        ap (λ l. list_all pages.accepts (places l)) (key_found slack)
        ∙ ap (list_all pages.accepts) (places-append (met slack) (key k ∷ []) ∙ append-nil (places (met slack))) ∙ s.put slack;
    order = λ slack.
        ap (λ l. list_all (is_at_most (Some k)) (keys l)) (key_found slack)
        ∙ ap (list_all (is_at_most (Some k))) (keys-append (met slack) (key k ∷ [])) ∙ key_up_to k (keys (met slack)) (s.order slack);
    whole = λ slack n put.
        ap (λ l. list_any (λ m. m == n) (places l)) (key_found slack)
        ∙ ap (list_any (λ m. m == n)) (places-append (met slack) (key k ∷ []) ∙ append-nil (places (met slack))) ∙ s.whole slack n put;
  }

pub no_links : (pages : Pages) → IsLinks pages 0 0 [] []
no_links pages = record { walk = λ met holder none. refl; bytes_are = refl; put = refl }

none_met : (ns : List ℕ) → list_any (is_met nothing []) ns ≡ false
none_met [] = refl
none_met (n ∷ ns) = none_met ns

-- a chain of no page
pub no_chain : (pages : Pages) (n : ℕ) (ns bytes : List ℕ) → IsLinks pages 0 n ns bytes → ns ≡ []
no_chain pages n [] bytes is = refl
no_chain pages n (k ∷ ns) bytes is = absurd (never (n == 0) (is.walk [] 0 (none_met (k ∷ ns))))
  where
    never : (b : Bool) → (if b then [] else fault (ChainLong 0) ∷ []) ≡ placements (k ∷ ns) → ⊥
    never true same = cc
    never false same = cc

-- after a place that is none of these
met_one_more : (m : ℕ) (met : List Finding) (ns : List ℕ) → list_any (λ n. m == n) ns ≡ false → list_any (is_met nothing met) ns ≡ false
    → list_any (is_met nothing (met ++ place m ∷ [])) ns ≡ false
met_one_more m met [] other none = refl
met_one_more m met (n ∷ ns) other none =
    let here : is_met nothing (met ++ place m ∷ []) n ≡ false =
    met-append nothing met (place m ∷ []) n ∙ ap (λ b. b || ((m == n) || false)) (or_left (is_met nothing met n) _ none) ∙ ap (λ b. b || false) (or_left (m == n) _ other)
    in
    ap (λ b. b || list_any (is_met nothing (met ++ place m ∷ [])) ns) here ∙ met_one_more m met ns (or_right (m == n) _ other) (or_right (is_met nothing met n) _ none)

not_first : (pages : Pages) (m : ℕ) → is_in_range pages m ≡ true → (m == 0) ≡ false
not_first pages zero h = cc
not_first pages (suc m) h = eqb-suc-zero m

-- a page that goes before a chain
module _ (old new : Pages) (more n : ℕ) (ns bytes : List ℕ) (m : ℕ) (put : IsPut old new m) (range : is_in_range new m ≡ true) (next : u32_at (new.page m) 0 ≡ n)
    (is : IsLinks old more n ns bytes) where
  other : list_any (λ k. m == k) ns ≡ false
  other = not_among old.accepts m ns put.fresh is.put

  kept : (met : List Finding) (holder : ℕ) → list_any (is_met nothing met) ns ≡ false → chain new nothing met more holder n ≡ placements ns
  kept met holder none =
      let was : chain old nothing met more holder n ≡ placements ns = is.walk met holder none in
      chain_kept old new put.size put.range nothing met more holder n (ap is_sound was ∙ links_sound ns)
      (subst (λ l. AreSame old new (places l)) (sym was) (subst (λ l. AreSame old new l) (sym (links_places ns)) (same_pages old new m put ns is.put other)))
      ∙ was

  kept_bytes : chain_bytes new more n ≡ bytes
  kept_bytes =
      let was : chain old nothing [] more 0 n ≡ placements ns = is.walk [] 0 (none_met ns) in
      chain_bytes_kept old new put.size put.range nothing [] more 0 n (ap is_sound was ∙ links_sound ns)
      (subst (λ l. AreSame old new (places l)) (sym was) (subst (λ l. AreSame old new l) (sym (links_places ns)) (same_pages old new m put ns is.put other)))
      ∙ is.bytes_are

  pub links_grow : IsLinks new (suc more) m (m ∷ ns) (drop 4 (new.page m) ++ bytes)
  links_grow = record {
    walk = λ met holder none.
        rw (not_first new m range, range, or_left (is_met nothing met m) _ none, put.put, next)
        (ap (λ l. place m ∷ l) (kept (met ++ place m ∷ []) m (met_one_more m met ns other (or_right (is_met nothing met m) _ none))));
    bytes_are = rw next (ap (λ l. drop 4 (new.page m) ++ l) kept_bytes);
    put = ap (λ b. b && list_all new.accepts ns) put.put ∙ still_put old new m put ns is.put;
  }

-- a payload that goes on: its chain begins at the page that its cell names
pub chain_is : (pages : Pages) (stored : StoredCell) (more : ℕ) (ns bytes : List ℕ) → IsLinks pages (suc more) stored.first ns bytes
    → links_needed pages.usable stored ≡ suc more → is_in_range pages stored.first ≡ true
    → IsChain pages stored ns (take stored.size (stored.local ++ bytes))
chain_is pages stored more ns bytes is needed range = record {
  walk = λ met holder none. rw (needed, eqb-suc-zero more, not_first pages stored.first range) (rw (not_first pages stored.first range) at (is.walk met holder none));
  bytes = rw needed (ap (λ l. take stored.size (stored.local ++ l)) is.bytes_are);
  put = is.put;
}

-- a payload that is whole in its cell
pub whole_is : (pages : Pages) (stored : StoredCell) → links_needed pages.usable stored ≡ 0 → IsChain pages stored [] (take stored.size (stored.local ++ []))
whole_is pages stored needed = record { walk = λ met holder none. rw needed refl; bytes = rw needed refl; put = refl }
