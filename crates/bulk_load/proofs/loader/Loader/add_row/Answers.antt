use Rattle.std.proofs.Common.{◌≡◌, ◌-◌, ℤ, Option, Some, ℕ, List, [], ◌∷◌, ◌++◌, length, take, drop, refl, ap, sym, subst, ◌∙◌, arith}
use Rattle.std.specs.Int.{w64}
use Rattle.std.proofs.lemmas.Int.{to_z-of_z}
use Rattle.std.proofs.lemmas.Slice.{between_to_end}
use Rattle.db_format.specs.Pages.{Pages}
use Rattle.btree_page.specs.declared.kind.Kind.TheVariants.{TableLeaf}
use Rattle.btree_model.specs.Content.{Entry}
use Rattle.page_build.specs.Draft.{with_cell}
use Rattle.bulk_load.specs.declared.level.Level.{Level}
use Rattle.bulk_load.specs.Cells.{row_len}
use Rattle.bulk_load.specs.Chain.{IsPutChain}
use Rattle.bulk_load.specs.Loader.{LoadedAs}
use Rattle.bulk_load.specs.Own.{only}
use Rattle.bulk_load.proofs.CellLemmas.{IsRow, row_is}
use Rattle.bulk_load.proofs.RowLemmas.{own_kind, row_added, rows_loaded, rows_of}
use Rattle.bulk_load.proofs.VolumeLemmas.{row_volume}
use Rattle.bulk_load.proofs.loader.Loader.add_row.Goals as goal

pub add-requires : goal.add-requires
add-requires g c =
    let old : Pages = g.P.PageOut.pages c.args.out.now in
    let payload : List ℕ = c.args.payload.now in
    let k : ℕ = c.args.local in
    let rest : List ℕ = take (length payload - k) (drop k payload) in
    let all : rest ≡ drop k payload = between_to_end payload k (length payload) (omega arith) in
    let row : IsRow old.usable payload c.write_row.new.cell.items k c.in_ok-first.first c.args.rowid =
    row_is old.usable payload c.write_row.new.cell.items rest k c.in_ok-first.first c.args.rowid _ c.requires.local c.requires.some c.requires.short c.ranges.rowid
    (to_z-of_z w64 c.args.rowid c.ranges.rowid) all c.in_ok-first.ensures.none c.in_ok-first.ensures.some c.in_ok-write_row.ensures.ok in
    rw (c.deref.ensures.value, row.long) c.requires.fits

pub returns-clause-loaded : goal.returns-clause-loaded
returns-clause-loaded g c start well own covers pushed loaded =
    let old : Pages = only own (g.P.PageOut.pages c.args.out.now) in
    let mid : Pages = only own (g.P.PageOut.pages c.chain_of.new.out) in
    let payload : List ℕ = c.args.payload.now in
    let first : ℕ = c.in_ok-first.first in
    let k : ℕ = c.args.local in
    let rest : List ℕ = take (length payload - k) (drop k payload) in
    let all : rest ≡ drop k payload = between_to_end payload k (length payload) (omega arith) in
    let r : ℤ = c.args.rowid in
    let raw : List ℕ = c.write_row.new.cell.items in
    let row : IsRow old.usable payload raw k first r =
    row_is old.usable payload raw rest k first r _ c.requires.local c.requires.some c.requires.short c.ranges.rowid
    (to_z-of_z w64 r c.ranges.rowid) all c.in_ok-first.ensures.none c.in_ok-first.ensures.some c.in_ok-write_row.ensures.ok in
    let chain : IsPutChain old mid first (drop k payload) = subst (λ l. IsPutChain old mid first l) all (c.in_ok-first.ensures.chain start well own covers) in
    let leaf : Level = c.args.self.now.leaf in
    let after : Level = record { page = c.add.new.self; waiting = c.args.self.now.leaf.waiting } in
    let levels : List Level = c.args.self.now.levels.items in
    let last : Option ℤ = c.args.self.now.last in
    let entries : List Entry = pushed ++ record { rowid = Some r; payload = payload } ∷ [] in
    let is_add : c.add.new.self ≡ with_cell leaf.page raw = c.add.ensures ∙ ap (with_cell leaf.page) c.deref.ensures.value in
    let before : LoadedAs old leaf levels TableLeaf last pushed = subst (λ q. LoadedAs old leaf levels q last pushed) c.requires.kind loaded in
    subst (λ i. LoadedAs mid after levels c.add.new.self.kind (Some i) entries) (sym (to_z-of_z w64 r c.ranges.rowid))
    (own_kind mid after levels TableLeaf (Some r) entries
    (rows_loaded mid after levels (Some r) entries
    (row_added old mid leaf after levels last r pushed payload raw first c.requires.ready.usable_is.least
    (subst (λ j. IsPutChain old mid first (drop j payload)) c.requires.local chain) (rw (sym c.requires.local) c.requires.some) c.requires.above row.written
    is_add (ap (λ d. d.kind) is_add) refl (rows_of old leaf levels last pushed before))))

pub returns-clause-paid : goal.returns-clause-paid
returns-clause-paid g c =
    let old : Pages = g.P.PageOut.pages c.args.out.now in
    let payload : List ℕ = c.args.payload.now in
    let k : ℕ = c.args.local in
    let rest : List ℕ = take (length payload - k) (drop k payload) in
    let all : rest ≡ drop k payload = between_to_end payload k (length payload) (omega arith) in
    let raw : List ℕ = c.write_row.new.cell.items in
    let row : IsRow old.usable payload raw k c.in_ok-first.first c.args.rowid =
    row_is old.usable payload raw rest k c.in_ok-first.first c.args.rowid _ c.requires.local c.requires.some c.requires.short c.ranges.rowid
    (to_z-of_z w64 c.args.rowid c.ranges.rowid) all c.in_ok-first.ensures.none c.in_ok-first.ensures.some c.in_ok-write_row.ensures.ok in
    let leaf : Level = c.args.self.now.leaf in
    let after : Level = record { page = c.add.new.self; waiting = c.args.self.now.leaf.waiting } in
    row_volume leaf after c.args.self.now.levels.items raw (row_len (length payload) c.args.rowid k) c.requires.kind
    (c.add.ensures ∙ ap (with_cell leaf.page) c.deref.ensures.value) row.long
