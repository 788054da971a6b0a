use Rattle.std.proofs.Common.{rules, ℕ, ◌≡◌, ◌-◌, ◌≤◌, ◌+◌, ℤ, [], ◌∷◌, ◌++◌, Some, length, false, arith, subst}
use Rattle.std.specs.Int.{w64, cast_signed, cast_unsigned}
use Rattle.std.proofs.lemmas.Int.{to_z-of_z}
use Rattle.bulk_load.specs.Cells.{row_len}
use Rattle.bulk_load.specs.Loader.{Loaded}
use Rattle.bulk_load.specs.Own.{only}
use Rattle.bulk_load.proofs.CellLemmas.{row_len-most}
use Rattle.bulk_load.proofs.PutLemmas.{covers_before, covers_behind, follows_all, keeps_after}
use Rattle.btree_page.specs.declared.kind.Family.TheVariants.{Table}
use Rattle.bulk_load.specs.Count.{overflow_pages}
use Rattle.bulk_load.specs.Volume.{price}
use Rattle.bulk_load.proofs.VolumeLemmas.{price_le, price_more}
use Rattle.bulk_load.proofs.loader.Loader.push_row.Goals as goal

pub leaf_for-requires-clause-fits : goal.leaf_for-requires-clause-fits
leaf_for-requires-clause-fits g c =
    let same : c.usable-usable.result ≡ (g.P.PageOut.pages c.args.out.now).usable = c.usable-usable.ensures.value in
    let most : c.local_len-local.result ≤ c.usable-usable.result - 35 = c.local_len-local.ensures.most in
    let r : ℤ = cast_signed w64 (cast_unsigned w64 c.args.rowid) in
    let least : row_len (length c.args.payload.now) r c.local_len-local.result + 17 ≤ c.usable-usable.result =
    row_len-most c.usable-usable.result (length c.args.payload.now) c.local_len-local.result r c.usable-usable.ensures.range.least c.requires.short most in
    let is : c.row_len-len.result ≡ row_len (length c.args.payload.now) r c.local_len-local.result = c.row_len-len.ensures in
    omega arith

pub returns-clause-keeps : goal.returns-clause-keeps
returns-clause-keeps g c =
    let p = g.P.PageOut in
    keeps_after p.pages p.limit p.faults p.well false c.args.out.now c.leaf_for.new.out c.add_row.new.out c.in_ok-leaf_for.ensures.follows c.in_ok-add_row.ensures.keeps

pub returns-clause-follows : goal.returns-clause-follows
returns-clause-follows g c =
    let p = g.P.PageOut in
    follows_all p.pages p.limit p.faults p.well false c.args.out.now c.leaf_for.new.out c.add_row.new.out c.in_ok-leaf_for.ensures.follows c.in_ok-add_row.ensures.follows

pub returns-in_err-add_row-clause-keeps : goal.returns-in_err-add_row-clause-keeps
returns-in_err-add_row-clause-keeps g c =
    let p = g.P.PageOut in
    keeps_after p.pages p.limit p.faults p.well false c.args.out.now c.leaf_for.new.out c.add_row.new.out c.in_ok-leaf_for.ensures.follows c.add_row.ensures.keeps

pub returns-clause-loaded : goal.returns-clause-loaded
returns-clause-loaded g c start well own covers pushed loaded =
    subst (λ r. Loaded (only own (g.P.PageOut.pages c.add_row.new.out)) c.add_row.new.self (pushed ++ record { rowid = Some r; payload = c.args.payload.now } ∷ []))
    (to_z-of_z w64 c.args.rowid c.ranges.rowid)
    (c.in_ok-add_row.ensures.loaded start (c.in_ok-leaf_for.ensures.follows.told start well) own (covers_behind _ own _ _ _ c.in_ok-leaf_for.ensures.keeps.count covers) pushed
    (c.in_ok-leaf_for.ensures.loaded start well own (covers_before _ own _ _ _ c.in_ok-add_row.ensures.keeps.count covers) pushed loaded))

pub returns-in_err-add_row-clause-spent : goal.returns-in_err-add_row-clause-spent
returns-in_err-add_row-clause-spent g c =
    let p = g.P.PageOut.pages in
    let usable : ℕ = (p c.args.out.now).usable in
    let old : ℕ = (p c.args.out.now).count in
    let mid : ℕ = (p c.leaf_for.new.out).count in
    let new : ℕ = (p c.add_row.new.out).count in
    let chain : ℕ = overflow_pages Table usable (length c.args.payload.now) in
    let few : new ≤ mid + chain = search rules in
    let most : price usable new ≤ price usable (mid + chain) = price_le usable new (mid + chain) few in
    let here : price usable (mid + chain) ≡ price usable mid + price usable chain = price_more usable mid chain in
    let there : price usable (old + chain + 1) ≡ price usable (old + chain) + price usable 1 = price_more usable (old + chain) 1 in
    let then : price usable (old + chain) ≡ price usable old + price usable chain = price_more usable old chain in
    search rules
