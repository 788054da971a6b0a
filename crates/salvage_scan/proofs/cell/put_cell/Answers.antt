use Rattle.std.proofs.Common.{rules, ◌≡◌, ◌⊎◌, ◌∷◌, [], inl, inr, ℕ, ℤ, List, ap, sym, subst, ◌∙◌, to_z, of_z}
use Rattle.std.specs.Borrow.{Bor}
use mir.Syntax.{w64}
use Rattle.btree_page.specs.Cell.{StoredCell}
use Rattle.btree_page.specs.Shown.{cell_shown}
use Rattle.btree_page.specs.declared.cell.Cell.{Cell}
use Rattle.db_format.specs.Pages.{Pages}
use Rattle.salvage_scan.specs.Salvage.{Line, cell_lines, file_pages, payload_line}
use Rattle.salvage_scan.specs.Scan.{IsPutLine, IsSalvaged, ScanState}
use Rattle.salvage_scan.specs.Text.{counts_shown}
use Rattle.salvage_scan.proofs.ScanSteps.{nothing_put}
use Rattle.salvage_scan.proofs.cell.put_cell.Goals as goal

pub returns-in-TableLeaf-clause-on : goal.returns-in-TableLeaf-clause-on
returns-in-TableLeaf-clause-on g c told =
    let pages : Pages = file_pages c.args.codec.now (g.D.Disk.reads c.args.disk.now) in
    let stored : StoredCell = record { size = c.in-TableLeaf.length; local = c.in-TableLeaf.local.now; first = c.in-TableLeaf.first } in
    let named : to_z w64 (of_z w64 c.in-TableLeaf.rowid) ≡ c.in-TableLeaf.rowid = search rules in
    subst (λ (lines : List Line). IsSalvaged g.K.Sink.tells lines
    (record { taken = g.K.Sink.taken c.args.out.now; waits = c.args.scan.now.line; counts = counts_shown c.args.scan.now.counts })
    (record { taken = g.K.Sink.taken c.put_row_cell.new.out; waits = c.put_row_cell.new.scan.line; counts = counts_shown c.put_row_cell.new.scan.counts }) c.put_row_cell.result)
    (ap (λ (z : ℤ). payload_line pages c.args.n z stored ∷ []) named ∙ ap (λ (x : Cell). cell_lines pages c.args.n (cell_shown x)) (sym c.in-TableLeaf.is))
    (c.put_row_cell.ensures.on told)

-- no other cell is a row
rowless : (pages : Pages) (n : ℕ) (cell : Cell)
    → ((x : ℕ) × (key : ℤ) × (cell ≡ Cell.TableInterior x key))
    ⊎ (((x : ℕ) × (local : Bor (List ℕ)) × (y : ℕ) × (cell ≡ Cell.IndexLeaf x local y))
    ⊎ ((x : ℕ) × (y : ℕ) × (local : Bor (List ℕ)) × (z : ℕ) × (cell ≡ Cell.IndexInterior x y local z)))
    → [] ≡ cell_lines pages n (cell_shown cell)
rowless pages n cell (inl (x, key, is)) = ap (λ (c : Cell). cell_lines pages n (cell_shown c)) (sym is)
rowless pages n cell (inr (inl (x, local, y, is))) = ap (λ (c : Cell). cell_lines pages n (cell_shown c)) (sym is)
rowless pages n cell (inr (inr (x, y, local, z, is))) = ap (λ (c : Cell). cell_lines pages n (cell_shown c)) (sym is)

pub returns-in-TableInterior-clause-on : goal.returns-in-TableInterior-clause-on
returns-in-TableInterior-clause-on g c told =
    let s : ScanState = record { taken = g.K.Sink.taken c.args.out.now; waits = c.args.scan.now.line; counts = counts_shown c.args.scan.now.counts } in
    subst (λ (lines : List Line). IsPutLine g.K.Sink.tells lines s s)
    (rowless (file_pages c.args.codec.now (g.D.Disk.reads c.args.disk.now)) c.args.n c.args.cell.now c.in-TableInterior.is) (nothing_put g.K.Sink.tells s)

pub returns-in-TableInterior-2-clause-on : goal.returns-in-TableInterior-2-clause-on
returns-in-TableInterior-2-clause-on g c told =
    let s : ScanState = record { taken = g.K.Sink.taken c.args.out.now; waits = c.args.scan.now.line; counts = counts_shown c.args.scan.now.counts } in
    subst (λ (lines : List Line). IsPutLine g.K.Sink.tells lines s s)
    (rowless (file_pages c.args.codec.now (g.D.Disk.reads c.args.disk.now)) c.args.n c.args.cell.now c.in-TableInterior.is) (nothing_put g.K.Sink.tells s)

pub returns-in-TableInterior-3-clause-on : goal.returns-in-TableInterior-3-clause-on
returns-in-TableInterior-3-clause-on g c told =
    let s : ScanState = record { taken = g.K.Sink.taken c.args.out.now; waits = c.args.scan.now.line; counts = counts_shown c.args.scan.now.counts } in
    subst (λ (lines : List Line). IsPutLine g.K.Sink.tells lines s s)
    (rowless (file_pages c.args.codec.now (g.D.Disk.reads c.args.disk.now)) c.args.n c.args.cell.now c.in-TableInterior.is) (nothing_put g.K.Sink.tells s)
