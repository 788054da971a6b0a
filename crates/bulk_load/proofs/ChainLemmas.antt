-- A chain grows by a page at its front.
use Rattle.std.proofs.Common.{◌≡◌, ◌≤◌, ◌<◌, ℕ, zero, suc, ◌+◌, ◌-◌, ◌*◌, ◌/◌, ◌%◌, ◌⊎◌, inl, inr, Bool, true, false, List, [], ◌∷◌, ◌++◌, ◌||◌, ◌==◌, length, take, drop, refl, ap, sym, subst, ◌∙◌, arith, length-append, length-drop}
use Rattle.std.specs.List.{list_any}
use Rattle.std.proofs.lemmas.List.{append_assoc, append-nil, take-append-drop}
use Rattle.std.proofs.lemmas.Bool.{eqb-true}
use Rattle.std.proofs.lemmas.Grind.{common_steps}
use Rattle.db_format.specs.Bytes.{u32_at}
use Rattle.db_format.specs.Pages.{Pages}
use Rattle.load_model.specs.Stands.{IsPut, IsLinks}
use Rattle.load_model.proofs.EntryLemmas.{no_links, links_grow}
use Rattle.load_model.proofs.StandsLemmas.{put_stands, put_found}
use Rattle.page_build.specs.Draft.{laid}
use Rattle.page_build.specs.Written.{four_bytes}
use Rattle.page_build.proofs.Append.{four_back}
use Rattle.bulk_load.specs.Chain.{IsLink, IsPutChain}
use Rattle.bulk_load.specs.Out.{IsPutAs}
use Rattle.bulk_load.proofs.PutLemmas.{unput}

-- the page that was put is a link: the number of the next page, these bytes, and what the page had behind them
pub link_is : (old new : Pages) (n next : ℕ) (page piece bytes : List ℕ) → IsPutAs old new n bytes → bytes ≡ laid 4 piece (laid 0 (four_bytes next) page)
    → length page ≡ old.usable → 4 + length piece ≤ length page → IsLink old new n next piece
link_is old new n next page piece bytes put is size fits =
    let rest : List ℕ = drop (4 + length piece) (four_bytes next ++ drop 4 page) in
    let here : new.page n ≡ four_bytes next ++ (piece ++ rest) = put.here ∙ is in
    let behind : length rest ≡ length (four_bytes next ++ drop 4 page) - (4 + length piece) = length-drop (4 + length piece) (four_bytes next ++ drop 4 page) in
    let both : length (four_bytes next ++ drop 4 page) ≡ 4 + length (drop 4 page) = length-append (four_bytes next) (drop 4 page) in
    let cut : length (drop 4 page) ≡ length page - 4 = length-drop 4 page in
    record {
      put = put.put;
      range = put.range;
      names = ap (λ l. u32_at l 0) here ∙ four_back next (piece ++ rest);
      rest = rest;
      bytes = ap (drop 4) here;
      long = omega arith;
    }

pub chain_start : (pages : Pages) → 4 < pages.usable → IsPutChain pages pages 0 []
chain_start pages large = record {
  more = 0;
  ns = [];
  pad = [];
  links = no_links pages;
  first = inl refl;
  count = omega arith;
  short = omega arith;
  size = refl;
  fresh = refl;
  stays = λ n h. h;
  keeps = λ family last todo pushed s. s;
  same = λ family last todo pushed s slack. refl;
}

still : (old new : Pages) (m : ℕ) → IsPut old new m → (n : ℕ) → old.accepts n ≡ true → new.accepts n ≡ true
still old new m put n h = here (m == n) refl
  where
    here : (b : Bool) → (m == n) ≡ b → new.accepts n ≡ true
    here false is = put.stays_put n is ∙ h
    here true is = ap new.accepts (sym (eqb-true m n is)) ∙ put.put

-- a list of no length
empty : (xs : List ℕ) → length xs ≡ 0 → xs ≡ []
empty [] h = refl
empty (x ∷ xs) h = absurd (none (length xs) h)
  where
    none : (n : ℕ) → suc n ≡ 0 → ⊥
    none n h = omega arith

suc_times : (m s : ℕ) → suc m * s ≡ m * s + s
suc_times m s = omega arith

-- fewer bytes than one page, and no others: no page
no_page : (more s n : ℕ) → more * s ≡ n → n < s → n ≡ 0
no_page zero s n h g = let z : zero * s ≡ 0 = omega arith in omega arith
no_page (suc m) s n h g = let z : suc m * s ≡ m * s + s = suc_times m s in absurd (omega arith)

join_full : (piece bytes pad page rest : List ℕ) → page ≡ piece ++ rest → length rest ≡ 0 → page ++ (bytes ++ pad) ≡ (piece ++ bytes) ++ (rest ++ pad)
join_full piece bytes pad page rest is none =
    ap (λ l. l ++ (bytes ++ pad)) (is ∙ ap (λ l. piece ++ l) (empty rest none) ∙ append-nil piece) ∙ sym (append_assoc piece bytes pad)
    ∙ ap (λ l. (piece ++ bytes) ++ (l ++ pad)) (sym (empty rest none))

join_first : (piece bytes pad page rest : List ℕ) → page ≡ piece ++ rest → bytes ≡ [] → page ++ (bytes ++ pad) ≡ (piece ++ bytes) ++ (rest ++ pad)
join_first piece bytes pad page rest is none =
    ap (λ l. l ++ (bytes ++ pad)) is ∙ ap (λ l. (piece ++ rest) ++ (l ++ pad)) none ∙ append_assoc piece rest pad
    ∙ ap (λ l. l ++ (rest ++ pad)) (sym (append-nil piece) ∙ ap (λ l. piece ++ l) (sym none))

-- one page in front; either it is full, or it is the first that is put
module _ (old mid new : Pages) (next n : ℕ) (piece bytes : List ℕ) (was : IsPutChain old mid next bytes) (link : IsLink mid new n next piece) (large : 4 < old.usable) where
  grown : (pad : List ℕ) → drop 4 (new.page n) ++ (bytes ++ was.pad) ≡ (piece ++ bytes) ++ pad → suc was.more * (old.usable - 4) ≡ length (piece ++ bytes) + length pad
      → length pad < old.usable - 4 → IsPutChain old new n (piece ++ bytes)
  grown pad joined counted short =
      record {
        more = suc was.more;
        ns = n ∷ was.ns;
        pad = pad;
        links =
            subst (λ l. IsLinks new (suc was.more) n (n ∷ was.ns) l) joined
            (links_grow mid new was.more next was.ns (bytes ++ was.pad) n link.put link.range link.names was.links);
        first = inr link.range;
        count = counted;
        short = short;
        size = link.put.size ∙ was.size;
        fresh = ap (λ b. b || list_any old.accepts was.ns) (unput old mid n was.stays link.put.fresh) ∙ was.fresh;
        stays = λ k h. still mid new n link.put k (was.stays k h);
        keeps = λ family last todo pushed s. put_stands was.ns mid new family last todo pushed n link.put (was.keeps family last todo pushed s);
        same = λ family last todo pushed s slack. put_found was.ns mid new family last todo pushed n link.put (was.keeps family last todo pushed s) slack ∙ was.same family last todo pushed s slack;
      }

  sizes : length (piece ++ bytes) ≡ length piece + length bytes
  sizes = length-append piece bytes

  pads : length (link.rest ++ was.pad) ≡ length link.rest + length was.pad
  pads = length-append link.rest was.pad

  times : suc was.more * (old.usable - 4) ≡ was.more * (old.usable - 4) + (old.usable - 4)
  times = suc_times was.more (old.usable - 4)

  whole : length piece + length link.rest + 4 ≡ old.usable
  whole = link.long ∙ was.size

  pub chain_full : length piece + 4 ≡ old.usable → IsPutChain old new n (piece ++ bytes)
  chain_full full =
      let none : length link.rest ≡ 0 = let w : length piece + length link.rest + 4 ≡ old.usable = whole in omega arith in
      let a : length (piece ++ bytes) ≡ length piece + length bytes = sizes in
      let b : length (link.rest ++ was.pad) ≡ length link.rest + length was.pad = pads in
      let d : suc was.more * (old.usable - 4) ≡ was.more * (old.usable - 4) + (old.usable - 4) = times in
      let e : was.more * (old.usable - 4) ≡ length bytes + length was.pad = was.count in
      let f : length was.pad < old.usable - 4 = was.short in
      grown (link.rest ++ was.pad) (join_full piece bytes was.pad (drop 4 (new.page n)) link.rest link.bytes none) (omega arith) (omega arith)

  pub chain_first : bytes ≡ [] → 0 < length piece → IsPutChain old new n (piece ++ bytes)
  chain_first none some =
      let a : length (piece ++ bytes) ≡ length piece + length bytes = sizes in
      let b : length (link.rest ++ was.pad) ≡ length link.rest + length was.pad = pads in
      let d : suc was.more * (old.usable - 4) ≡ was.more * (old.usable - 4) + (old.usable - 4) = times in
      let z : length bytes ≡ 0 = ap length none in
      let e : was.more * (old.usable - 4) ≡ length was.pad = was.count ∙ ap (λ k. k + length was.pad) z ∙ zero_plus (length was.pad) in
      let f : length was.pad < old.usable - 4 = was.short in
      let y : length was.pad ≡ 0 = no_page was.more (old.usable - 4) (length was.pad) e f in
      let w : length piece + length link.rest + 4 ≡ old.usable = whole in
      grown (link.rest ++ was.pad) (join_first piece bytes was.pad (drop 4 (new.page n)) link.rest link.bytes none) (omega arith) (omega arith)
    where
      zero_plus : (k : ℕ) → 0 + k ≡ k
      zero_plus k = omega arith

pub whole_pages : (n s : ℕ) → 0 < s → n ≡ n / s * s + n % s
whole_pages n s h = omega arith

pub less_page : (pages s : ℕ) → 0 < pages * s → pages * s - s ≡ (pages - 1) * s
less_page zero s h = let z : zero * s ≡ 0 = omega arith in absurd (omega arith)
less_page (suc k) s h = let z : suc k * s ≡ k * s + s = suc_times k s in (let y : suc k - 1 ≡ k = omega arith in ap (λ n. n - s) z ∙ cut (k * s) s ∙ ap (λ n. n * s) (sym y))
  where
    cut : (a b : ℕ) → a + b - b ≡ a
    cut a b = omega arith

take_none : (n : ℕ) → take {A = ℕ} n [] ≡ []
take_none zero = refl
take_none (suc n) = refl

pub piece_drop : (xs : List ℕ) (a e : ℕ) → a ≤ e → take (e - a) (drop a xs) ++ drop e xs ≡ drop a xs
piece_drop xs zero e h = ap (λ n. take n xs ++ drop e xs) (same e) ∙ take-append-drop e xs
  where
    same : (e : ℕ) → e - 0 ≡ e
    same e = omega arith
piece_drop xs (suc a) zero h = absurd (omega arith)
piece_drop [] (suc a) (suc e) h = ap (λ l. l ++ []) (take_none (suc e - suc a))
piece_drop (x ∷ xs) (suc a) (suc e) h = ap (λ n. take n (drop a xs) ++ drop e xs) (less e a) ∙ piece_drop xs a e (omega arith)
  where
    less : (e a : ℕ) → suc e - suc a ≡ e - a
    less e a = omega arith

pub page_fits : (pages s n : ℕ) → n ≡ pages * s → 0 < n → s ≤ n
page_fits zero s n h g = let z : zero * s ≡ 0 = omega arith in absurd (omega arith)
page_fits (suc k) s n h g = let z : suc k * s ≡ k * s + s = suc_times k s in omega arith

pub only_first : (left end long : ℕ) → (left ≡ 0) ⊎ (end ≡ long) → 0 < left → end ≡ long
only_first left end long (inl none) h = absurd (omega arith)
only_first left end long (inr whole) h = whole

pub piece_long : (xs : List ℕ) (a e : ℕ) → a ≤ e → e ≤ length xs → length (take (e - a) (drop a xs)) ≡ e - a
piece_long xs a e h g = grind (arith, common_steps)

pub not_zero : (n : ℕ) → 0 < n → (n == 0) ≡ false
not_zero n h = grind arith

-- one page more, and one whole piece fewer
pub counted_down : (before after whole size total : ℕ) → after ≡ before + 1 → 0 < whole * size → before + (whole + 0) ≡ total → after + (whole - 1 + 0) ≡ total
counted_down before after zero size total one some was = let z : zero * size ≡ 0 = omega arith in absurd (omega arith)
counted_down before after (suc whole) size total one some was = omega arith
