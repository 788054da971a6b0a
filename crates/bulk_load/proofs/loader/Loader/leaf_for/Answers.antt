use Rattle.std.proofs.Common.{false, ℤ, List, Some, refl, ap, sym, subst, ◌∙◌}
use Rattle.std.specs.Int.{w64}
use Rattle.std.proofs.lemmas.Int.{to_z-of_z}
use Rattle.db_format.specs.Pages.{Pages}
use Rattle.btree_page.specs.declared.kind.Kind.TheVariants.{TableInterior, TableLeaf}
use Rattle.btree_page.specs.Step.{divider}
use Rattle.page_build.specs.CellBytes.{cell_bytes}
use Rattle.btree_page.specs.Cell.{table_interior}
use Rattle.bulk_load.specs.declared.level.Level.{Level}
use Rattle.bulk_load.specs.declared.pair.Pair.{Pair}
use Rattle.bulk_load.specs.Loader.{LoadedAs}
use Rattle.bulk_load.specs.Settle.{IsPair}
use Rattle.bulk_load.specs.Own.{only}
use Rattle.bulk_load.proofs.PutLemmas.{covers_before, covers_behind, follows_all, keeps_after}
use Rattle.bulk_load.proofs.CellLemmas.{key_is}
use Rattle.bulk_load.proofs.RowLemmas.{own_kind, room_none, room_some, rows_loaded, rows_of}
use Rattle.bulk_load.proofs.loader.Loader.leaf_for.Goals as goal

pub returns-in-Ok-None-clause-loaded : goal.returns-in-Ok-None-clause-loaded
returns-in-Ok-None-clause-loaded g c start well own covers pushed l =
    let old : Pages = only own (g.P.PageOut.pages c.args.out.now) in
    let new : Pages = only own (g.P.PageOut.pages c.make_room.new.out) in
    let leaf : Level = c.args.self.now.leaf in
    let levels : List Level = c.args.self.now.levels.items in
    let after : Level = record { page = c.make_room.new.leaf; waiting = c.args.self.now.leaf.waiting } in
    let k : ℤ = c.in-Some.last in
    let before : LoadedAs old leaf levels TableLeaf (Some k) pushed =
    subst (λ q. LoadedAs old leaf levels q (Some k) pushed) c.requires.kind (subst (λ o. LoadedAs old leaf levels leaf.page.kind o pushed) c.in-Some.is l) in
    own_kind new after levels TableLeaf c.args.self.now.last pushed
    (subst (λ o. LoadedAs new after levels TableLeaf o pushed) (sym c.in-Some.is)
    (rows_loaded new after levels (Some k) pushed
    (room_none old new leaf after levels k pushed c.in-Ok-None.field-0 (c.in-Ok-None.ensures.room start well own covers k) (rows_of old leaf levels (Some k) pushed before)
    c.in-Ok-None.field-0-is c.in-Ok-None.ensures.shape.kind refl c.in-Ok-None.ensures.keeps.size)))

pub returns-in_ok-climb-in-Ok-Some-clause-loaded : goal.returns-in_ok-climb-in-Ok-Some-clause-loaded
returns-in_ok-climb-in-Ok-Some-clause-loaded g c start well own covers pushed l =
    let old : Pages = only own (g.P.PageOut.pages c.args.out.now) in
    let mid : Pages = only own (g.P.PageOut.pages c.make_room.new.out) in
    let new : Pages = only own (g.P.PageOut.pages c.climb.new.out) in
    let leaf : Level = c.args.self.now.leaf in
    let levels : List Level = c.args.self.now.levels.items in
    let after : Level = record { page = c.make_room.new.leaf; waiting = c.args.self.now.leaf.waiting } in
    let k : ℤ = c.in-Some.last in
    let pair : Pair = c.in_ok-pair-in-Ok-Some.pair in
    let before : LoadedAs old leaf levels TableLeaf (Some k) pushed =
    subst (λ q. LoadedAs old leaf levels q (Some k) pushed) c.requires.kind (subst (λ o. LoadedAs old leaf levels leaf.page.kind o pushed) c.in-Some.is l) in
    let is_pair : IsPair pair TableInterior old.usable (divider k) =
    key_is old.usable c.in-Ok-Some.m k pair (c.requires.ready.range k c.in-Some.is) c.in_ok-pair-in-Ok-Some.ensures.child
    (c.in_ok-pair-in-Ok-Some.ensures.cell ∙ ap (λ i. cell_bytes (table_interior c.in-Ok-Some.m i)) (to_z-of_z w64 k (c.requires.ready.range k c.in-Some.is)))
    in
    own_kind new after c.climb.new.levels.items TableLeaf c.args.self.now.last pushed
    (subst (λ o. LoadedAs new after c.climb.new.levels.items TableLeaf o pushed) (sym c.in-Some.is)
    (rows_loaded new after c.climb.new.levels.items (Some k) pushed
    (room_some old mid new leaf after levels c.climb.new.levels.items k pushed c.in-Ok-Some.field-0 c.in-Ok-Some.m pair (c.in-Ok-Some.ensures.room start well own (covers_before _ own _ _ _ c.in_ok-climb-in-Ok-Some.ensures.keeps.count covers) k)
    (rows_of old leaf levels (Some k) pushed before) c.in-Ok-Some.field-0-is
    c.in-Ok-Some.ensures.shape.kind refl c.in-Ok-Some.ensures.keeps.size (c.in_ok-climb-in-Ok-Some.ensures.keeps.size ∙ c.in-Ok-Some.ensures.keeps.size)
    c.in_ok-pair-in-Ok-Some.ensures.child is_pair
    (c.in_ok-climb-in-Ok-Some.ensures.climbed start (c.in-Ok-Some.ensures.follows.told start well) own (covers_behind _ own _ _ _ c.in-Ok-Some.ensures.keeps.count covers)))))

pub returns-in_err-climb-in-Ok-Some-clause-keeps : goal.returns-in_err-climb-in-Ok-Some-clause-keeps
returns-in_err-climb-in-Ok-Some-clause-keeps g c =
    let p = g.P.PageOut in
    keeps_after p.pages p.limit p.faults p.well false c.args.out.now c.make_room.new.out c.climb.new.out c.in-Ok-Some.ensures.follows c.climb.ensures.keeps

pub returns-in_ok-climb-in-Ok-Some-clause-keeps : goal.returns-in_ok-climb-in-Ok-Some-clause-keeps
returns-in_ok-climb-in-Ok-Some-clause-keeps g c =
    let p = g.P.PageOut in
    keeps_after p.pages p.limit p.faults p.well false c.args.out.now c.make_room.new.out c.climb.new.out c.in-Ok-Some.ensures.follows c.in_ok-climb-in-Ok-Some.ensures.keeps

pub returns-in_ok-climb-in-Ok-Some-clause-follows : goal.returns-in_ok-climb-in-Ok-Some-clause-follows
returns-in_ok-climb-in-Ok-Some-clause-follows g c =
    let p = g.P.PageOut in
    follows_all p.pages p.limit p.faults p.well false c.args.out.now c.make_room.new.out c.climb.new.out c.in-Ok-Some.ensures.follows c.in_ok-climb-in-Ok-Some.ensures.follows
