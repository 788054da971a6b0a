use Rattle.std.proofs.Common.{◌≡◌, ◌≤◌, ◌<◌, ◌++◌, ◌∷◌, [], ℤ, true, false, List, length, take, arith, ap, sym, ◌∙◌}
use Rattle.std.specs.Prelude.{filter, nat_lt}
use Rattle.std.specs.Int.{w64}
use Rattle.std.proofs.lemmas.Int.{to_z-of_z}
use Rattle.std.proofs.lemmas.List.{length-append}
use Rattle.index_check.specs.Window.{is_above, room}
use Rattle.index_check.proofs.WindowLemmas.{full_more, full_rowids, next_more, next_rowids, stays}
use Rattle.index_check.proofs.window.Window.take.Goals as goal

pub returns-then-not-is_above-clause-window : goal.returns-then-not-is_above-clause-window
returns-then-not-is_above-clause-window c rows is =
    let under : is_above c.args.self.now.above c.args.rowid ≡ false =
    ap (is_above c.args.self.now.above) (sym (to_z-of_z w64 c.args.rowid c.ranges.rowid)) ∙ sym c.is_above.ensures ∙ c.if-not-is_above.true in
    record {
      rows_are = omega (arith, is.rows_are, length-append rows (c.args.rowid ∷ []));
      rowids_are = is.rowids_are ∙ ap (take room) (sym (stays c.args.self.now.above rows c.args.rowid under));
      more_is = is.more_is ∙ ap (λ (l : List ℤ). nat_lt room (length l)) (sym (stays c.args.self.now.above rows c.args.rowid under));
    }

pub returns-then-len-ge-ROOM-clause-window : goal.returns-then-len-ge-ROOM-clause-window
returns-then-len-ge-ROOM-clause-window c rows is =
    let over : is_above c.args.self.now.above c.args.rowid ≡ true =
    ap (is_above c.args.self.now.above) (sym (to_z-of_z w64 c.args.rowid c.ranges.rowid)) ∙ sym c.is_above.ensures ∙ c.if-not-is_above.false in
    let full : room ≤ length (take room (filter (is_above c.args.self.now.above) rows)) = omega (arith, c.len.ensures, c.if-len-ge-ROOM.true, ap length is.rowids_are) in
    record {
      rows_are = omega (arith, is.rows_are, length-append rows (c.args.rowid ∷ []));
      rowids_are = is.rowids_are ∙ sym (full_rowids c.args.self.now.above rows c.args.rowid over full);
      more_is = sym (full_more c.args.self.now.above rows c.args.rowid over full);
    }

pub returns-in-Ok-clause-window : goal.returns-in-Ok-clause-window
returns-in-Ok-clause-window c rows is =
    let over : is_above c.args.self.now.above c.args.rowid ≡ true =
    ap (is_above c.args.self.now.above) (sym (to_z-of_z w64 c.args.rowid c.ranges.rowid)) ∙ sym c.is_above.ensures ∙ c.if-not-is_above.false in
    let short : length (take room (filter (is_above c.args.self.now.above) rows)) < room = omega (arith, c.len.ensures, c.if-len-ge-ROOM.false, ap length is.rowids_are) in
    record {
      rows_are = omega (arith, is.rows_are, length-append rows (c.args.rowid ∷ []));
      rowids_are = c.in-Ok.ensures.items ∙ ap (λ x. c.args.self.now.rowids.items ++ x ∷ []) (to_z-of_z w64 c.args.rowid c.ranges.rowid) ∙ ap (λ l. l ++ c.args.rowid ∷ []) is.rowids_are
          ∙ sym (next_rowids c.args.self.now.above rows c.args.rowid over short);
      more_is = is.more_is ∙ sym (next_more c.args.self.now.above rows c.args.rowid over short);
    }
