use Rattle.std.proofs.Common.{rules, ◌+◌, ◌*◌, Option, ◌≡◌, ◌≤◌, ◌-◌, ℕ, List, [], ◌∷◌, ◌++◌, None, false, length, take, drop, ap, sym, subst, ◌∙◌, arith}
use Rattle.std.proofs.lemmas.Slice.{between_to_end}
use Rattle.db_format.specs.Pages.{Pages}
use Rattle.btree_page.specs.declared.kind.Family.TheVariants.{Index}
use Rattle.btree_page.specs.declared.kind.Kind.TheVariants.{IndexLeaf}
use Rattle.std.proofs.lemmas.List.{length-take-le}
use Rattle.btree_page.specs.Payload.{local_len, most_local}
use Rattle.btree_page.specs.Step.{Step, entry as cell}
use Rattle.btree_model.specs.Content.{Entry}
use Rattle.bulk_load.specs.declared.level.Level.{Level}
use Rattle.bulk_load.specs.Chain.{IsPutChain}
use Rattle.bulk_load.specs.Loader.{LoadedAs, stored_as}
use Rattle.bulk_load.specs.Settle.{IsNamed, IsPair}
use Rattle.bulk_load.specs.Own.{Covers, only}
use Rattle.std.specs.Option.{option_to_list}
use Rattle.bulk_load.specs.declared.pair.Pair.{Pair}
use Rattle.bulk_load.specs.Bound.{cell_len, entry_weight}
use Rattle.bulk_load.specs.Count.{overflow_pages}
use Rattle.bulk_load.specs.Volume.{leaf_volume, level_volume, price, sizes, volume, volumes}
use Rattle.bulk_load.proofs.CellLemmas.{entry_named, pair_is, pair_len}
use Rattle.bulk_load.proofs.VolumeLemmas.{leaf_index, price_more}
use Rattle.bulk_load.proofs.PushLemmas.{entry_stands, push_none, push_some}
use Rattle.bulk_load.proofs.PutLemmas.{covers_before, covers_behind, follows_all, keeps_after}
use Rattle.bulk_load.proofs.RowLemmas.{own_kind}
use Rattle.bulk_load.proofs.loader.Loader.push_entry.Goals as goal

pub enter-requires-clause-named : goal.enter-requires-clause-named
enter-requires-clause-named g c =
    let old : Pages = g.P.PageOut.pages c.args.out.now in
    let payload : List ℕ = c.args.payload.now in
    let k : ℕ = c.local_len-local.result in
    let long : length (take k payload) ≡ k = length-take-le k payload c.local_len-local.ensures.some in
    let most : k ≤ most_local Index old.usable = subst (λ u. k ≤ most_local Index u) c.usable-usable.ensures.value c.local_len-local.ensures.most in
    subst (λ u. IsNamed u c.in_ok-pair.pair) (sym c.in_ok-first.ensures.keeps.size)
    (entry_named old.usable c.in_ok-pair.pair (record { size = length payload; local = take k payload; first = c.in_ok-first.first }) c.requires.ready.usable_is.least c.requires.short
    (omega arith) c.in_ok-pair.ensures.cell)

pub returns-in-None-clause-loaded : goal.returns-in-None-clause-loaded
returns-in-None-clause-loaded g c start well own covers pushed loaded =
    let p = g.P.PageOut in
    let old : Pages = only own (p.pages c.args.out.now) in
    let mid : Pages = only own (p.pages c.chain_of.new.out) in
    let new : Pages = only own (p.pages c.enter.new.out) in
    let payload : List ℕ = c.args.payload.now in
    let first : ℕ = c.in_ok-first.first in
    let leaf : Level = c.args.self.now.leaf in
    let levels : List Level = c.args.self.now.levels.items in
    let last = c.args.self.now.last in
    let entries : List Entry = pushed ++ record { rowid = None; payload = payload } ∷ [] in
    let size : c.usable-usable.result ≡ old.usable = c.usable-usable.ensures.value in
    let k : ℕ = c.local_len-local.result in
    let local : k ≡ local_len Index old.usable (length payload) = c.local_len-local.ensures.value ∙ ap (λ u. local_len Index u (length payload)) size in
    let some : k ≤ length payload = c.local_len-local.ensures.some in
    let most : local_len Index old.usable (length payload) ≤ length payload = rw (sym local) some in
    let rest : List ℕ = take (length payload - k) (drop k payload) in
    let all : rest ≡ drop k payload = between_to_end payload k (length payload) (omega arith) in
    let chain : IsPutChain old mid first (drop (local_len Index old.usable (length payload)) payload) =
    subst (λ j. IsPutChain old mid first (drop j payload)) local (subst (λ r. IsPutChain old mid first r) all (c.in_ok-first.ensures.chain start well own (covers_before _ own _ _ _ c.in_ok-enter.ensures.keeps.count covers)))
    in
    let s : Step = cell None (stored_as Index old.usable payload first) in
    let pair : IsPair c.in_ok-pair.pair IndexLeaf old.usable s =
    pair_is old.usable payload rest k first c.in_ok-pair.pair local some c.requires.short all c.in_ok-first.ensures.none c.in_ok-first.ensures.some
    c.in_ok-pair.ensures.child c.in_ok-pair.ensures.cell
    in
    let before : LoadedAs old leaf levels IndexLeaf last pushed = subst (λ q. LoadedAs old leaf levels q last pushed) c.requires.kind loaded in
    let told = c.in_ok-first.ensures.follows.told start well in
    own_kind new c.enter.new.self levels IndexLeaf last entries
    (push_none mid new leaf c.enter.new.self levels c.in_ok-pair.pair c.in_ok-enter.field-0 old.usable before.todo before.todos s last
    entries (c.in_ok-enter.ensures.entered start told own (covers_behind _ own _ _ _ c.in_ok-first.ensures.keeps.count covers)) before.is_kind c.in_ok-enter.ensures.kind chain.size (c.in_ok-enter.ensures.keeps.size ∙ chain.size) before.hold pair before.above
    (entry_stands old mid leaf levels last pushed payload first c.requires.ready.usable_is.least chain most before) c.in-None.is)

pub returns-in_ok-climb-in-Some-clause-loaded : goal.returns-in_ok-climb-in-Some-clause-loaded
returns-in_ok-climb-in-Some-clause-loaded g c start well own covers pushed loaded =
    let p = g.P.PageOut in
    let first_two : Covers false own (p.pages c.args.out.now) (p.pages c.enter.new.out) =
    covers_before false own _ _ (p.pages c.climb.new.out) c.in_ok-climb-in-Some.ensures.keeps.count covers in
    let last_two : Covers false own (p.pages c.chain_of.new.out) (p.pages c.climb.new.out) =
    covers_behind false own (p.pages c.args.out.now) _ _ c.in_ok-first.ensures.keeps.count covers in
    let old : Pages = only own (p.pages c.args.out.now) in
    let mid : Pages = only own (p.pages c.chain_of.new.out) in
    let new : Pages = only own (p.pages c.enter.new.out) in
    let payload : List ℕ = c.args.payload.now in
    let first : ℕ = c.in_ok-first.first in
    let leaf : Level = c.args.self.now.leaf in
    let levels : List Level = c.args.self.now.levels.items in
    let last = c.args.self.now.last in
    let entries : List Entry = pushed ++ record { rowid = None; payload = payload } ∷ [] in
    let size : c.usable-usable.result ≡ old.usable = c.usable-usable.ensures.value in
    let k : ℕ = c.local_len-local.result in
    let local : k ≡ local_len Index old.usable (length payload) = c.local_len-local.ensures.value ∙ ap (λ u. local_len Index u (length payload)) size in
    let some : k ≤ length payload = c.local_len-local.ensures.some in
    let most : local_len Index old.usable (length payload) ≤ length payload = rw (sym local) some in
    let rest : List ℕ = take (length payload - k) (drop k payload) in
    let all : rest ≡ drop k payload = between_to_end payload k (length payload) (omega arith) in
    let chain : IsPutChain old mid first (drop (local_len Index old.usable (length payload)) payload) =
    subst (λ j. IsPutChain old mid first (drop j payload)) local (subst (λ r. IsPutChain old mid first r) all (c.in_ok-first.ensures.chain start well own (covers_before _ own _ _ _ c.in_ok-enter.ensures.keeps.count first_two)))
    in
    let s : Step = cell None (stored_as Index old.usable payload first) in
    let pair : IsPair c.in_ok-pair.pair IndexLeaf old.usable s =
    pair_is old.usable payload rest k first c.in_ok-pair.pair local some c.requires.short all c.in_ok-first.ensures.none c.in_ok-first.ensures.some
    c.in_ok-pair.ensures.child c.in_ok-pair.ensures.cell
    in
    let before : LoadedAs old leaf levels IndexLeaf last pushed = subst (λ q. LoadedAs old leaf levels q last pushed) c.requires.kind loaded in
    let told = c.in_ok-first.ensures.follows.told start well in
    let top : Pages = only own (p.pages c.climb.new.out) in
    own_kind top c.enter.new.self c.climb.new.levels.items IndexLeaf last entries
    (push_some mid new top leaf c.enter.new.self levels c.climb.new.levels.items c.in_ok-pair.pair c.in-Some.up c.in_ok-enter.field-0 old.usable before.todo before.todos s last
    entries (c.in_ok-enter.ensures.entered start told own (covers_behind _ own _ _ _ c.in_ok-first.ensures.keeps.count first_two)) before.is_kind c.in_ok-enter.ensures.kind chain.size (c.in_ok-enter.ensures.keeps.size ∙ chain.size)
    (c.in_ok-climb-in-Some.ensures.keeps.size ∙ c.in_ok-enter.ensures.keeps.size ∙ chain.size) before.hold pair before.above
    (entry_stands old mid leaf levels last pushed payload first c.requires.ready.usable_is.least chain most before) c.in-Some.is
    (c.in_ok-climb-in-Some.ensures.climbed start (c.in_ok-enter.ensures.follows.told start told) own (covers_behind _ own _ _ _ c.in_ok-enter.ensures.keeps.count last_two)))

pub returns-in-None-clause-follows : goal.returns-in-None-clause-follows
returns-in-None-clause-follows g c =
    let p = g.P.PageOut in
    follows_all p.pages p.limit p.faults p.well false c.args.out.now c.chain_of.new.out c.enter.new.out c.in_ok-first.ensures.follows c.in_ok-enter.ensures.follows

pub returns-in_ok-climb-in-Some-clause-keeps : goal.returns-in_ok-climb-in-Some-clause-keeps
returns-in_ok-climb-in-Some-clause-keeps g c =
    let p = g.P.PageOut in
    keeps_after p.pages p.limit p.faults p.well false c.args.out.now c.chain_of.new.out c.climb.new.out c.in_ok-first.ensures.follows
    (keeps_after p.pages p.limit p.faults p.well false c.chain_of.new.out c.enter.new.out c.climb.new.out c.in_ok-enter.ensures.follows c.in_ok-climb-in-Some.ensures.keeps)

pub returns-in_ok-climb-in-Some-clause-follows : goal.returns-in_ok-climb-in-Some-clause-follows
returns-in_ok-climb-in-Some-clause-follows g c =
    let p = g.P.PageOut in
    follows_all p.pages p.limit p.faults p.well false c.args.out.now c.chain_of.new.out c.climb.new.out c.in_ok-first.ensures.follows
    (follows_all p.pages p.limit p.faults p.well false c.chain_of.new.out c.enter.new.out c.climb.new.out c.in_ok-enter.ensures.follows c.in_ok-climb-in-Some.ensures.follows)

pub returns-in-None-clause-paid : goal.returns-in-None-clause-paid
returns-in-None-clause-paid g c =
    let p = g.P.PageOut.pages in
    let usable : ℕ = (p c.args.out.now).usable in
    let old : ℕ = (p c.args.out.now).count in
    let payload : List ℕ = c.args.payload.now in
    let chain : ℕ = overflow_pages Index usable (length payload) in
    let entry : Entry = record { rowid = None; payload = payload } in
    let levels : List Level = c.args.self.now.levels.items in
    let before : leaf_volume c.args.self.now.leaf.page.kind c.args.self.now.leaf ≡ level_volume c.args.self.now.leaf = leaf_index c.args.self.now.leaf c.requires.kind in
    let size : c.usable-usable.result ≡ usable = c.usable-usable.ensures.value in
    let k : ℕ = c.local_len-local.result in
    let local : k ≡ local_len Index usable (length payload) = c.local_len-local.ensures.value ∙ ap (λ u. local_len Index u (length payload)) size in
    let some : k ≤ length payload = c.local_len-local.ensures.some in
    let rest : List ℕ = take (length payload - k) (drop k payload) in
    let all : rest ≡ drop k payload = between_to_end payload k (length payload) (omega arith) in
    let long : length c.in_ok-pair.pair.cell.items ≡ 4 + cell_len Index usable entry =
    pair_len usable payload rest k c.in_ok-first.first c.in_ok-pair.pair local some c.requires.short all c.in_ok-first.ensures.none c.in_ok-first.ensures.some c.in_ok-pair.ensures.cell in
    let taken : (p c.chain_of.new.out).count ≡ old + chain = search rules in
    let same : (p c.chain_of.new.out).usable ≡ usable = c.in_ok-first.ensures.keeps.size in
    let mid : ℕ = (p c.enter.new.out).count in
    let up : ℕ = 6 * sizes (option_to_list c.in_ok-enter.field-0) in
    let entered : price usable mid + (level_volume c.enter.new.self + up) ≤ price usable (old + chain) + (level_volume c.args.self.now.leaf + 6 * (length c.in_ok-pair.pair.cell.items + 2)) =
    subst (λ n. price usable mid + (level_volume c.enter.new.self + up) ≤ price usable n + (level_volume c.args.self.now.leaf + 6 * (length c.in_ok-pair.pair.cell.items + 2))) taken
    (subst (λ u. price u mid + (level_volume c.enter.new.self + up) ≤ price u (p c.chain_of.new.out).count + (level_volume c.args.self.now.leaf + 6 * (length c.in_ok-pair.pair.cell.items + 2))) same
    c.in_ok-enter.ensures.paid) in
    let after : leaf_volume c.enter.new.self.page.kind c.enter.new.self ≡ level_volume c.enter.new.self = leaf_index c.enter.new.self (c.in_ok-enter.ensures.kind ∙ c.requires.kind) in
    omega arith

pub returns-in_ok-climb-in-Some-clause-paid : goal.returns-in_ok-climb-in-Some-clause-paid
returns-in_ok-climb-in-Some-clause-paid g c =
    let p = g.P.PageOut.pages in
    let usable : ℕ = (p c.args.out.now).usable in
    let old : ℕ = (p c.args.out.now).count in
    let payload : List ℕ = c.args.payload.now in
    let chain : ℕ = overflow_pages Index usable (length payload) in
    let entry : Entry = record { rowid = None; payload = payload } in
    let levels : List Level = c.args.self.now.levels.items in
    let before : leaf_volume c.args.self.now.leaf.page.kind c.args.self.now.leaf ≡ level_volume c.args.self.now.leaf = leaf_index c.args.self.now.leaf c.requires.kind in
    let size : c.usable-usable.result ≡ usable = c.usable-usable.ensures.value in
    let k : ℕ = c.local_len-local.result in
    let local : k ≡ local_len Index usable (length payload) = c.local_len-local.ensures.value ∙ ap (λ u. local_len Index u (length payload)) size in
    let some : k ≤ length payload = c.local_len-local.ensures.some in
    let rest : List ℕ = take (length payload - k) (drop k payload) in
    let all : rest ≡ drop k payload = between_to_end payload k (length payload) (omega arith) in
    let long : length c.in_ok-pair.pair.cell.items ≡ 4 + cell_len Index usable entry =
    pair_len usable payload rest k c.in_ok-first.first c.in_ok-pair.pair local some c.requires.short all c.in_ok-first.ensures.none c.in_ok-first.ensures.some c.in_ok-pair.ensures.cell in
    let taken : (p c.chain_of.new.out).count ≡ old + chain = search rules in
    let same : (p c.chain_of.new.out).usable ≡ usable = c.in_ok-first.ensures.keeps.size in
    let mid : ℕ = (p c.enter.new.out).count in
    let up : ℕ = 6 * sizes (option_to_list c.in_ok-enter.field-0) in
    let entered : price usable mid + (level_volume c.enter.new.self + up) ≤ price usable (old + chain) + (level_volume c.args.self.now.leaf + 6 * (length c.in_ok-pair.pair.cell.items + 2)) =
    subst (λ n. price usable mid + (level_volume c.enter.new.self + up) ≤ price usable n + (level_volume c.args.self.now.leaf + 6 * (length c.in_ok-pair.pair.cell.items + 2))) taken
    (subst (λ u. price u mid + (level_volume c.enter.new.self + up) ≤ price u (p c.chain_of.new.out).count + (level_volume c.args.self.now.leaf + 6 * (length c.in_ok-pair.pair.cell.items + 2))) same
    c.in_ok-enter.ensures.paid) in
    let one : up ≡ 6 * (length c.in-Some.up.cell.items + 2 + 0) = ap (λ (o : Option Pair). 6 * sizes (option_to_list o)) c.in-Some.is in
    let next : (p c.enter.new.out).usable ≡ usable = c.in_ok-enter.ensures.keeps.size ∙ same in
    let after : leaf_volume c.enter.new.self.page.kind c.enter.new.self ≡ level_volume c.enter.new.self = leaf_index c.enter.new.self (c.in_ok-enter.ensures.kind ∙ c.requires.kind) in
    let climbed : price usable (p c.climb.new.out).count + volumes c.climb.new.levels.items ≤ price usable mid + (volumes levels + 6 * (length c.in-Some.up.cell.items + 2)) =
    subst (λ u. price u (p c.climb.new.out).count + volumes c.climb.new.levels.items ≤ price u mid + (volumes levels + 6 * (length c.in-Some.up.cell.items + 2))) next
    c.in_ok-climb-in-Some.ensures.paid in
    omega arith

pub returns-in_err-climb-in-Some-clause-spent : goal.returns-in_err-climb-in-Some-clause-spent
returns-in_err-climb-in-Some-clause-spent g c =
    let p = g.P.PageOut.pages in
    let usable : ℕ = (p c.args.out.now).usable in
    let old : ℕ = (p c.args.out.now).count in
    let payload : List ℕ = c.args.payload.now in
    let chain : ℕ = overflow_pages Index usable (length payload) in
    let entry : Entry = record { rowid = None; payload = payload } in
    let levels : List Level = c.args.self.now.levels.items in
    let before : leaf_volume c.args.self.now.leaf.page.kind c.args.self.now.leaf ≡ level_volume c.args.self.now.leaf = leaf_index c.args.self.now.leaf c.requires.kind in
    let size : c.usable-usable.result ≡ usable = c.usable-usable.ensures.value in
    let k : ℕ = c.local_len-local.result in
    let local : k ≡ local_len Index usable (length payload) = c.local_len-local.ensures.value ∙ ap (λ u. local_len Index u (length payload)) size in
    let some : k ≤ length payload = c.local_len-local.ensures.some in
    let rest : List ℕ = take (length payload - k) (drop k payload) in
    let all : rest ≡ drop k payload = between_to_end payload k (length payload) (omega arith) in
    let long : length c.in_ok-pair.pair.cell.items ≡ 4 + cell_len Index usable entry =
    pair_len usable payload rest k c.in_ok-first.first c.in_ok-pair.pair local some c.requires.short all c.in_ok-first.ensures.none c.in_ok-first.ensures.some c.in_ok-pair.ensures.cell in
    let taken : (p c.chain_of.new.out).count ≡ old + chain = search rules in
    let same : (p c.chain_of.new.out).usable ≡ usable = c.in_ok-first.ensures.keeps.size in
    let mid : ℕ = (p c.enter.new.out).count in
    let up : ℕ = 6 * sizes (option_to_list c.in_ok-enter.field-0) in
    let entered : price usable mid + (level_volume c.enter.new.self + up) ≤ price usable (old + chain) + (level_volume c.args.self.now.leaf + 6 * (length c.in_ok-pair.pair.cell.items + 2)) =
    subst (λ n. price usable mid + (level_volume c.enter.new.self + up) ≤ price usable n + (level_volume c.args.self.now.leaf + 6 * (length c.in_ok-pair.pair.cell.items + 2))) taken
    (subst (λ u. price u mid + (level_volume c.enter.new.self + up) ≤ price u (p c.chain_of.new.out).count + (level_volume c.args.self.now.leaf + 6 * (length c.in_ok-pair.pair.cell.items + 2))) same
    c.in_ok-enter.ensures.paid) in
    let one : up ≡ 6 * (length c.in-Some.up.cell.items + 2 + 0) = ap (λ (o : Option Pair). 6 * sizes (option_to_list o)) c.in-Some.is in
    let next : (p c.enter.new.out).usable ≡ usable = c.in_ok-enter.ensures.keeps.size ∙ same in
    let climbed : price usable (p c.climb.new.out).count ≤ price usable (mid + 1) + (volumes levels + 6 * (length c.in-Some.up.cell.items + 2)) =
    subst (λ u. price u (p c.climb.new.out).count ≤ price u (mid + 1) + (volumes levels + 6 * (length c.in-Some.up.cell.items + 2))) next (search rules) in
    let here : price usable (mid + 1) ≡ price usable mid + price usable 1 = price_more usable mid 1 in
    let there : price usable (old + chain + 1) ≡ price usable (old + chain) + price usable 1 = price_more usable (old + chain) 1 in
    let all : price usable (p c.climb.new.out).count ≤ price usable (old + chain + 1) + (volume c.args.self.now + 6 * entry_weight Index usable entry) = omega arith in
    search rules

pub returns-in_err-climb-in-Some-clause-keeps : goal.returns-in_err-climb-in-Some-clause-keeps
returns-in_err-climb-in-Some-clause-keeps g c =
    let p = g.P.PageOut in
    keeps_after p.pages p.limit p.faults p.well false c.args.out.now c.chain_of.new.out c.climb.new.out c.in_ok-first.ensures.follows
    (keeps_after p.pages p.limit p.faults p.well false c.chain_of.new.out c.enter.new.out c.climb.new.out c.in_ok-enter.ensures.follows c.climb.ensures.keeps)
