use Rattle.std.proofs.Common.{◌≡◌, ◌<◌, ℕ, false}
use Rattle.std.specs.Prelude.{is_none}
use Rattle.btree_page.specs.Page.{cell_at}
use Rattle.btree_page.proofs.page.PageView.read.Given as goal

-- the cells so far are there
abbrev pub invariant-loop-index : goal.invariant-loop-index
invariant-loop-index l = (k : ℕ) → k < l.index → is_none (cell_at l.array.kind l.array.bytes.now l.array.header k) ≡ false
