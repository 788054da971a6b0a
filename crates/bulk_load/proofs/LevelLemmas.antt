-- The children that wait at a level.
use Rattle.std.proofs.Common.{◌≡◌, ◌≤◌, ◌+◌, ◌-◌, ◌*◌, ℕ, ℤ, Bool, Option, None, subst, List, [], ◌∷◌, ◌++◌, length, drop, get_or, refl, ap, sym, ◌∙◌, arith, length-append, length-drop}
use Rattle.std.proofs.lemmas.List.{append_assoc, append-nil}
use Rattle.btree_page.specs.declared.kind.Kind.{Kind}
use Rattle.db_format.specs.Pages.{Pages}
use Rattle.btree_page.specs.Cell.{Cell}
use Rattle.btree_page.specs.Step.{Step, steps}
use Rattle.btree_model.specs.Content.{Entry}
use Rattle.load_model.specs.Stands.{OpenPagesStand}
use Rattle.btree_page.specs.Kind.{family_of}
use Rattle.page_build.specs.Draft.{Draft}
use Rattle.load_model.specs.Open.{Open, at_height}
use Rattle.bulk_load.specs.declared.pair.Pair.{Pair}
use Rattle.page_build.specs.Written.{four_bytes}
use Rattle.bulk_load.specs.Settle.{IsNamed, IsPair, IsLevelSettled, on}
use Rattle.bulk_load.specs.Close.{HasCells}
use Rattle.bulk_load.specs.Level.{AreNamed, ArePairs, waiting_steps}
use Rattle.bulk_load.proofs.SettleLemmas.{at_height-append}

pub pairs_more : (ps : List Pair) (kind : Kind) (usable : ℕ) (ss : List Step) (p : Pair) (s : Step) → ArePairs ps kind usable ss → IsPair p kind usable s
    → ArePairs (ps ++ p ∷ []) kind usable (ss ++ s ∷ [])
pairs_more [] kind usable [] p s h g = (g, tt)
pairs_more [] kind usable (x ∷ ss) p s h g = absurd h
pairs_more (q ∷ ps) kind usable [] p s h g = absurd h
pairs_more (q ∷ ps) kind usable (x ∷ ss) p s h g = (h.0, pairs_more ps kind usable ss p s h.1 g)

pub waiting_more : (ps : List Pair) (kind : Kind) (usable : ℕ) (ss : List Step) (p : Pair) (s : Step) → ArePairs ps kind usable ss
    → waiting_steps kind (ps ++ p ∷ []) (ss ++ s ∷ []) ≡ waiting_steps kind ps ss ++ on kind p.child s
waiting_more [] kind usable [] p s h = append-nil (on kind p.child s)
waiting_more [] kind usable (x ∷ ss) p s h = absurd h
waiting_more (q ∷ ps) kind usable [] p s h = absurd h
waiting_more (q ∷ ps) kind usable (x ∷ ss) p s h =
    ap (λ l. on kind q.child x ++ l) (waiting_more ps kind usable ss p s h.1) ∙ sym (append_assoc (on kind q.child x) (waiting_steps kind ps ss) (on kind p.child s))

pub named_more : (usable : ℕ) (ps : List Pair) (p : Pair) → AreNamed usable ps → IsNamed usable p → AreNamed usable (ps ++ p ∷ [])
named_more usable [] p h g = (g, tt)
named_more usable (q ∷ ps) p h g = (h.0, named_more usable ps p h.1 g)

-- the same behind another child is as long
pub renamed : (usable m : ℕ) (old new : Pair) → new.cell.items ≡ four_bytes m ++ drop 4 old.cell.items → IsNamed usable old → IsNamed usable new
renamed usable m old new is named =
    let both : length new.cell.items ≡ 4 + length (drop 4 old.cell.items) = ap length is ∙ length-append (four_bytes m) (drop 4 old.cell.items) in
    let rest : length (drop 4 old.cell.items) ≡ length old.cell.items - 4 = length-drop 4 old.cell.items in
    let least : 4 ≤ length old.cell.items = named.least in
    let short : 3 * (length old.cell.items + 2) + 12 ≤ usable = named.short in
    record { least = omega arith; short = omega arith }

-- the oldest, and the others
pub split : (items rest : List Pair) (first : Pair) → 1 ≤ length items → first ≡ get_or items 0 first → rest ≡ drop 1 items → items ≡ first ∷ rest
split [] rest first h is others = absurd (none h)
  where
    none : 1 ≤ 0 → ⊥
    none h = omega arith
split (p ∷ items) rest first h is others = ap (λ q. q ∷ items) (sym is) ∙ ap (λ l. first ∷ l) (sym others)

pub first_pair : (p : Pair) (rest : List Pair) (kind : Kind) (usable : ℕ) (between : List Step) → ArePairs (p ∷ rest) kind usable between
    → (s : Step) × (ss : List Step) × (between ≡ s ∷ ss) × IsPair p kind usable s × ArePairs rest kind usable ss
first_pair p rest kind usable [] h = absurd h
first_pair p rest kind usable (s ∷ ss) h = (s, ss, refl, h.0, h.1)

-- one pair more behind a list of steps
pub wait_list : (todo more : List Step) (h : ℕ) (front back : List Open)
    → front ++ (at_height h todo ++ (at_height h more ++ back)) ≡ front ++ (at_height h (todo ++ more) ++ back)
wait_list todo more h front back =
    ap (λ l. front ++ l) (sym (append_assoc (at_height h todo) (at_height h more) back) ∙ ap (λ l. l ++ back) (sym (at_height-append h todo more)))

-- the oldest pair is next, and the others wait behind it
pub next_list : (begun first waits : List Step) (h : ℕ) (front back : List Open)
    → front ++ (at_height h (begun ++ (first ++ waits)) ++ back) ≡ front ++ (at_height h begun ++ (at_height h first ++ (at_height h waits ++ back)))
next_list begun first waits h front back =
    ap (λ l. front ++ l)
    (ap (λ l. l ++ back) (at_height-append h begun (first ++ waits) ∙ ap (λ l. at_height h begun ++ l) (at_height-append h first waits))
    ∙ append_assoc (at_height h begun) (at_height h first ++ at_height h waits) back
    ∙ ap (λ l. at_height h begun ++ l) (append_assoc (at_height h first) (at_height h waits) back))

-- what `settle` ensures
abbrev pub Settles : Pages → Pages → Draft → Draft → Pair → Pair → Bool → Type 0
Settles old new page after pair named answer =
    (cells : List Cell) (s : Step) (h : ℕ) (front back : List Open) (last : Option ℤ) (pushed : List Entry)
    → HasCells page old.usable cells → IsPair pair page.kind old.usable s
    → OpenPagesStand old (family_of page.kind) last (front ++ (at_height h (steps cells None) ++ (at_height h (on page.kind pair.child s) ++ back))) pushed
    → IsLevelSettled new after named old.usable page.kind pair.child cells s h front back last pushed answer

-- the oldest pair was settled: the page has it, and the others wait
pub record IsNext (new : Pages) (after : Draft) (named : Pair) (rest : List Pair) (usable : ℕ) (kind : Kind) (h : ℕ) (front back : List Open) (last : Option ℤ) (pushed : List Entry) (answer : Bool) : Type 0 where
  pub cells : List Cell
  pub between : List Step
  pub s : Step
  pub n : ℕ
  pub pairs : ArePairs rest kind usable between
  pub is : IsLevelSettled new after named usable kind n cells s h front (at_height h (waiting_steps kind rest between) ++ back) last pushed answer

pub next_is : (old new : Pages) (page after : Draft) (items rest : List Pair) (first named : Pair) (answer : Bool) (cells : List Cell) (between todo : List Step) (h : ℕ)
    (front back : List Open) (last : Option ℤ) (pushed : List Entry) → Settles old new page after first named answer → items ≡ first ∷ rest → HasCells page old.usable cells
    → ArePairs items page.kind old.usable between → todo ≡ steps cells None ++ waiting_steps page.kind items between
    → OpenPagesStand old (family_of page.kind) last (front ++ (at_height h todo ++ back)) pushed
    → IsNext new after named rest old.usable page.kind h front back last pushed answer
next_is old new page after items rest first named answer cells between todo h front back last pushed settles parts has pairs is st =
    let kind = page.kind in
    let f = first_pair first rest kind old.usable between (subst (λ l. ArePairs l kind old.usable between) parts pairs) in
    let waits : List Step = waiting_steps kind rest f.1 in
    let whole : todo ≡ steps cells None ++ (on kind first.child f.0 ++ waits) =
    is ∙ ap (λ l. steps cells None ++ waiting_steps kind l between) parts ∙ ap (λ l. steps cells None ++ waiting_steps kind (first ∷ rest) l) f.2
    in
    record {
      cells = cells;
      between = f.1;
      s = f.0;
      n = first.child;
      pairs = f.4;
      is =
          settles cells f.0 h front (at_height h waits ++ back) last pushed has f.3
          (subst (λ l. OpenPagesStand old (family_of kind) last l pushed)
          (ap (λ l. front ++ (at_height h l ++ back)) whole ∙ next_list (steps cells None) (on kind first.child f.0) waits h front back) st);
    }
