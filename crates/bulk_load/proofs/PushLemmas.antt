-- An entry of an index is pushed: its chain, then its cell.
use Rattle.std.proofs.Common.{◌≡◌, ◌≤◌, ◌<◌, ◌+◌, ◌-◌, ◌*◌, ◌/◌, ◌⊎◌, inl, inr, ℕ, zero, suc, ℤ, Bool, true, false, List, [], ◌∷◌, ◌++◌, ◌||◌, length, take, drop, Option, Some, None, nat_le, if◌then◌else◌, refl, ap, sym, subst, ◌∙◌, arith}
use Rattle.std.specs.List.{list_any, list_all}
use Rattle.std.proofs.lemmas.List.{append_assoc, append-nil, take-append-drop}
use Rattle.std.proofs.lemmas.Grind.{common_steps}
use Rattle.std.proofs.Math.Nat.{div-eq_of_lt}
use Rattle.std.proofs.lemmas.Nat.{div-mul-add}
use Rattle.btree_page.specs.declared.kind.Family.{Family}
use Rattle.btree_page.specs.declared.kind.Family.TheVariants.{Index}
use Rattle.btree_page.specs.declared.kind.Kind.{Kind}
use Rattle.btree_page.specs.declared.kind.Kind.TheVariants.{IndexLeaf, IndexInterior}
use Rattle.btree_page.specs.Cell.{StoredCell}
use Rattle.btree_page.specs.Payload.{local_len}
use Rattle.db_format.specs.Pages.{Pages, Test, nothing}
use Rattle.btree_model.specs.Range.{is_in_range}
use Rattle.btree_model.specs.Finding.{Finding, places}
use Rattle.btree_page.specs.Step.{Step, entry as cell}
use Rattle.btree_model.specs.Walk.{is_met, links_needed}
use Rattle.btree_model.specs.Content.{Entry}
use Rattle.btree_model.proofs.UnmarkedLemmas.{or_left, or_right}
use Rattle.load_model.specs.Open.{Open, at_height, open_found}
use Rattle.load_model.specs.Stands.{OpenPagesStand, StandsBut, IsChain, IsLinks}
use Rattle.btree_page.specs.Kind.{family_of}
use Rattle.load_model.proofs.EntryLemmas.{cell_stands, chain_is, no_chain, whole_is}
use Rattle.load_model.proofs.StandsLemmas.{not_met}
use Rattle.bulk_load.specs.declared.pair.Pair.{Pair}
use Rattle.bulk_load.specs.declared.level.Level.{Level}
use Rattle.bulk_load.specs.Chain.{IsPutChain}
use Rattle.bulk_load.specs.Settle.{IsPair, on}
use Rattle.bulk_load.specs.Level.{HoldsLevel, IsEntryIn}
use Rattle.bulk_load.specs.Levels.{opened, HoldLevels, AreOpen}
use Rattle.bulk_load.specs.Loader.{LoadedAs, stored_as}
use Rattle.bulk_load.proofs.LevelsLemmas.{Enters, Climbs}

-- the quotient, rounded up
rounded : (a s m p : ℕ) → 0 < s → m * s ≡ a + p → p < s → (a + (s - 1)) / s ≡ m
rounded a s m p some is short =
    let sum : a + (s - 1) ≡ m * s + (s - 1 - p) = omega arith in
    let less : s - 1 - p < s = omega arith in
    ap (λ n. n / s) sum ∙ div-mul-add m s (s - 1 - p) less

zero_times : (s : ℕ) → 0 * s ≡ 0
zero_times s = omega arith

-- a chain of new pages meets none of the old ones
pub chain_apart : (old : Test) (met : List Finding) (ns : List ℕ) → list_any old ns ≡ false → list_all old (places met) ≡ true → list_any (is_met nothing met) ns ≡ false
chain_apart old met [] fresh all = refl
chain_apart old met (n ∷ ns) fresh all =
    ap (λ b. b || list_any (is_met nothing met) ns) (not_met old n met (or_left (old n) _ fresh) all) ∙ chain_apart old met ns (or_right (old n) _ fresh) all

le_is : (a b : ℕ) (t : Bool) → nat_le a b ≡ t → t ≡ true → a ≤ b
le_is a b t is so = grind arith

not_le : (a b : ℕ) → nat_le a b ≡ false → b < a
not_le a b h = grind arith

-- the payload of a chain that was put
module _ (old new : Pages) (family : Family) (payload : List ℕ) (n : ℕ) (large : 480 ≤ old.usable)
    (is : IsPutChain old new n (drop (local_len family old.usable (length payload)) payload)) (most : local_len family old.usable (length payload) ≤ length payload) where
  abbrev local : ℕ
  local = local_len family old.usable (length payload)

  abbrev stored : StoredCell
  stored = stored_as family old.usable payload n

  long_local : length (take local payload) ≡ local
  long_local = took local payload most
    where
      took : (k : ℕ) (xs : List ℕ) → k ≤ length xs → length (take k xs) ≡ k
      took k xs h = grind (arith, common_steps)

  long_rest : length (drop local payload) ≡ length payload - local
  long_rest = dropped local payload
    where
      dropped : (k : ℕ) (xs : List ℕ) → length (drop k xs) ≡ length xs - k
      dropped k xs = grind (arith, common_steps)

  needed : links_needed new.usable stored ≡ is.more
  needed =
      let size : new.usable ≡ old.usable = is.size in
      let a : length payload - length (take local payload) ≡ length (drop local payload) = ap (λ k. length payload - k) long_local ∙ sym long_rest in
      let s : old.usable - 5 ≡ old.usable - 4 - 1 = omega arith in
      ap (λ u. (length payload - length (take local payload) + (u - 5)) / (u - 4)) size
      ∙ ap (λ k. (k + (old.usable - 5)) / (old.usable - 4)) a ∙ ap (λ k. (length (drop local payload) + k) / (old.usable - 4)) s
      ∙ rounded (length (drop local payload)) (old.usable - 4) is.more (length is.pad) (omega arith) is.count is.short

  whole_payload : (pad : List ℕ) → take (length payload) (take local payload ++ (drop local payload ++ pad)) ≡ payload
  whole_payload pad =
      ap (take (length payload)) (sym (append_assoc (take local payload) (drop local payload) pad) ∙ ap (λ l. l ++ pad) (take-append-drop local payload)) ∙ took payload pad
    where
      took : (xs ys : List ℕ) → take (length xs) (xs ++ ys) ≡ xs
      took xs ys = grind (arith, common_steps)

  none_needed : (k s : ℕ) → 0 < s → k ≡ 0 → (k + (s - 1)) / s ≡ 0
  none_needed k s some none = div-eq_of_lt (omega arith)

  -- the chain is all that was put
  pub chain_put : (ns : List ℕ) × IsChain new stored ns payload × (list_any old.accepts ns ≡ false) × (is.ns ≡ ns)
  chain_put = by_size (nat_le (length payload) local) refl
    where
      links_more : (more : ℕ) → is.more ≡ more → local < length payload → nat_le (length payload) local ≡ false → (ns : List ℕ) × IsChain new stored ns payload × (list_any old.accepts ns ≡ false) × (is.ns ≡ ns)
      links_more zero none less over =
          let c : is.more * (old.usable - 4) ≡ length (drop local payload) + length is.pad = is.count in
          let z : is.more * (old.usable - 4) ≡ 0 = ap (λ m. m * (old.usable - 4)) none ∙ zero_times (old.usable - 4) in
          let a : length (drop local payload) ≡ length payload - local = long_rest in
          absurd (omega arith)
      links_more (suc more) so less over =
          let first : stored.first ≡ n = ap (λ b. if b then 0 else n) over in
          let range : is_in_range new stored.first ≡ true = ap (is_in_range new) first ∙ in_range is.first in (
            is.ns,
            subst (λ l. IsChain new stored is.ns l) (whole_payload is.pad)
                (chain_is new stored more is.ns (drop local payload ++ is.pad)
                (subst (λ f. IsLinks new (suc more) f is.ns (drop local payload ++ is.pad)) (sym first) (subst (λ m. IsLinks new m n is.ns (drop local payload ++ is.pad)) so is.links))
                (needed ∙ so) range),
            is.fresh,
            refl,
          )
        where
          in_range : (is.more ≡ 0) ⊎ (is_in_range new n ≡ true) → is_in_range new n ≡ true
          in_range (inl none) = let no : suc more ≡ 0 = sym so ∙ none in absurd (omega arith)
          in_range (inr inside) = inside

      by_size : (b : Bool) → nat_le (length payload) local ≡ b → (ns : List ℕ) × IsChain new stored ns payload × (list_any old.accepts ns ≡ false) × (is.ns ≡ ns)
      by_size true whole =
          let le : length payload ≤ local = le_is (length payload) local true whole refl in
          let a : length (drop local payload) ≡ length payload - local = long_rest in
          let size : new.usable ≡ old.usable = is.size in
          let b : length payload - length (take local payload) ≡ 0 = let t : length (take local payload) ≡ local = long_local in omega arith in
          let s : new.usable - 5 ≡ new.usable - 4 - 1 = omega arith in
          let zero_links : links_needed new.usable stored ≡ 0 =
          ap (λ k. (length payload - length (take local payload) + k) / (new.usable - 4)) s ∙ none_needed (length payload - length (take local payload)) (new.usable - 4) (omega arith) b
          in (
            [],
            subst (λ l. IsChain new stored [] l) (all_local (omega arith)) (whole_is new stored zero_links),
            refl,
            no_chain new n is.ns (drop local payload ++ is.pad)
                (subst (λ m. IsLinks new m n is.ns (drop local payload ++ is.pad)) (sym needed ∙ zero_links) is.links),
          )
        where
          all_local : length payload ≤ local → take (length payload) (take local payload ++ []) ≡ payload
          all_local le = took local payload le
            where
              took : (k : ℕ) (xs : List ℕ) → length xs ≤ k → take (length xs) (take k xs ++ []) ≡ xs
              took k xs h = grind (arith, common_steps)
      by_size false over = links_more is.more refl (not_le (length payload) local over) over

-- the entry stands behind all others
pub entry_stands : (old mid : Pages) (leaf : Level) (levels : List Level) (last : Option ℤ) (pushed : List Entry) (payload : List ℕ) (n : ℕ) → 480 ≤ old.usable
    → IsPutChain old mid n (drop (local_len Index old.usable (length payload)) payload) → local_len Index old.usable (length payload) ≤ length payload
    → (l : LoadedAs old leaf levels IndexLeaf last pushed)
    → OpenPagesStand mid Index last (opened 1 l.todos ++ (at_height 0 l.todo ++ (record { height = 0; leads = cell None (stored_as Index old.usable payload n) } ∷ [])))
    (pushed ++ record { rowid = None; payload = payload } ∷ [])
entry_stands old mid leaf levels last pushed payload n large is most l =
    let stored : StoredCell = stored_as Index old.usable payload n in
    let todo : List Open = opened 1 l.todos ++ (at_height 0 l.todo ++ []) in
    let one : List Open = record { height = 0; leads = cell None stored } ∷ [] in
    let c = chain_put old mid Index payload n large is most in
    let now : StandsBut c.0 mid Index last todo pushed = subst (λ ns. StandsBut ns mid Index last todo pushed) c.3 (is.keeps Index last todo pushed l.stands) in
    subst (λ t. OpenPagesStand mid Index last t (pushed ++ record { rowid = None; payload = payload } ∷ []))
    (ap (λ t. (opened 1 l.todos ++ t) ++ one) (append-nil (at_height 0 l.todo)) ∙ append_assoc (opened 1 l.todos) (at_height 0 l.todo) one)
    (cell_stands mid Index last todo pushed 0 None stored c.0 payload now refl c.1
    (λ slack. chain_apart old.accepts (open_found mid Index slack [] todo) c.0 c.2
    (ap (λ f. list_all old.accepts (places f)) (is.same Index last todo pushed l.stands slack) ∙ l.stands.put slack)))

-- the leaf was entered
entered : (mid new : Pages) (leaf after : Level) (pair : Pair) (answer : Option Pair) (usable : ℕ) (kind : Kind) (todo : List Step) (s : Step) (front : List Open) (last : Option ℤ) (pushed : List Entry)
    → Enters mid new leaf after pair answer → leaf.page.kind ≡ kind → mid.usable ≡ usable → HoldsLevel leaf usable todo → IsPair pair kind usable s
    → OpenPagesStand mid (family_of kind) last (front ++ (at_height 0 todo ++ (at_height 0 (on kind pair.child s) ++ []))) pushed
    → IsEntryIn new after usable kind 0 front [] last pushed answer
entered mid new leaf after pair answer usable kind todo s front last pushed enters same size hold is_pair st =
    subst
    (λ u. HoldsLevel leaf u todo → IsPair pair kind u s → IsEntryIn new after u kind 0 front [] last pushed answer) size
    (λ hold' pair'. subst
    (λ k. IsPair pair k mid.usable s → OpenPagesStand mid (family_of k) last (front ++ (at_height 0 todo ++ (at_height 0 (on k pair.child s) ++ []))) pushed
    → IsEntryIn new after mid.usable k 0 front [] last pushed answer) same
    (λ pair'' stands'. enters todo s 0 front [] last pushed hold' pair'' stands') pair' st) hold is_pair

pub push_none : (mid new : Pages) (leaf after : Level) (levels : List Level) (pair : Pair) (answer : Option Pair) (usable : ℕ) (todo : List Step) (todos : List (List Step)) (s : Step) (last : Option ℤ) (pushed : List Entry)
    → Enters mid new leaf after pair answer → leaf.page.kind ≡ IndexLeaf → after.page.kind ≡ leaf.page.kind → mid.usable ≡ usable → new.usable ≡ usable → HoldsLevel leaf usable todo → IsPair pair IndexLeaf usable s
    → HoldLevels levels usable IndexInterior todos → OpenPagesStand mid Index last (opened 1 todos ++ (at_height 0 todo ++ (record { height = 0; leads = s } ∷ []))) pushed → answer ≡ None
    → LoadedAs new after levels IndexLeaf last pushed
push_none mid new leaf after levels pair answer usable todo todos s last pushed enters same kept size size' hold is_pair above st none =
    let e : IsEntryIn new after usable IndexLeaf 0 (opened 1 todos) [] last pushed None =
    subst (λ a. IsEntryIn new after usable IndexLeaf 0 (opened 1 todos) [] last pushed a) none
    (entered mid new leaf after pair answer usable IndexLeaf todo s (opened 1 todos) last pushed enters same size hold is_pair st)
    in
    record {
      todo = e.0;
      todos = todos;
      is_kind = kept ∙ same;
      hold = subst (λ u. HoldsLevel after u e.0) (sym size') e.1;
      above = subst (λ u. HoldLevels levels u IndexInterior todos) (sym size') above;
      stands = e.2;
    }

pub push_some : (mid new top : Pages) (leaf after : Level) (levels levels' : List Level) (pair up : Pair) (answer : Option Pair) (usable : ℕ) (todo : List Step) (todos : List (List Step)) (s : Step) (last : Option ℤ) (pushed : List Entry)
    → Enters mid new leaf after pair answer → leaf.page.kind ≡ IndexLeaf → after.page.kind ≡ leaf.page.kind → mid.usable ≡ usable → new.usable ≡ usable → top.usable ≡ usable → HoldsLevel leaf usable todo → IsPair pair IndexLeaf usable s
    → HoldLevels levels usable IndexInterior todos → OpenPagesStand mid Index last (opened 1 todos ++ (at_height 0 todo ++ (record { height = 0; leads = s } ∷ []))) pushed → answer ≡ Some up
    → Climbs new top levels levels' IndexInterior up → LoadedAs top after levels' IndexLeaf last pushed
push_some mid new top leaf after levels levels' pair up answer usable todo todos s last pushed enters same kept size size' size'' hold is_pair above st some climbs =
    let e : IsEntryIn new after usable IndexLeaf 0 (opened 1 todos) [] last pushed (Some up) =
    subst (λ a. IsEntryIn new after usable IndexLeaf 0 (opened 1 todos) [] last pushed a) some
    (entered mid new leaf after pair answer usable IndexLeaf todo s (opened 1 todos) last pushed enters same size hold is_pair st)
    in
    let o : AreOpen top levels' usable IndexInterior 1 (at_height 0 e.0 ++ []) last pushed =
    subst (λ u. AreOpen top levels' u IndexInterior 1 (at_height 0 e.0 ++ []) last pushed) size'
    (climbs todos e.1 1 (at_height 0 e.0 ++ []) last pushed refl (subst (λ u. HoldLevels levels u IndexInterior todos) (sym size') above)
    (subst (λ u. IsPair up IndexInterior u e.1) (sym size') e.3) e.4)
    in
    record {
      todo = e.0;
      todos = o.todos;
      is_kind = kept ∙ same;
      hold = subst (λ u. HoldsLevel after u e.0) (sym size'') e.2;
      above = subst (λ u. HoldLevels levels' u IndexInterior o.todos) (sym size'') o.hold;
      stands = o.stands;
    }
