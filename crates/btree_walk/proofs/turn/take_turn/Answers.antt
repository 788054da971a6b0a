use Rattle.std.proofs.Common.{true, false, w64, ◌-◌, ◌+◌, ◌≤◌, ◌<◌, length, min, take, [], ◌∷◌, ◌++◌, subst, slice_set, ◌≡◌, ◌∙◌, ap, sym, refl, rules, arith}
use Rattle.std.proofs.lemmas.Int.{to_z-of_z}
use Rattle.std.proofs.lemmas.List.{length-append, length-take}
use Rattle.db_format.specs.Seen.{marked}
use Rattle.btree_model.specs.Walk.{chain_of}
use Rattle.btree_model.specs.Range.{is_in_range}
use Rattle.btree_walk.specs.Causes.{IsMarked}
use Rattle.btree_walk.specs.Chain.{IsCut, IsPaid}
use Rattle.btree_walk.specs.Pins.{path_pins}
use Rattle.db_format.specs.Source.{one_more}
use Rattle.btree_walk.specs.Order.{IsCovered, late_of, raised_of}
use Rattle.btree_walk.specs.Turn.{IsEnterStop, IsEntered, IsInside, IsNode}
use Rattle.btree_walk.proofs.CauseLemmas.{given_later}
use Rattle.btree_walk.proofs.OrderSteps.{covered_entry, covered_key}
use Rattle.btree_walk.proofs.PathLemmas.{inside_pop, inside_push, inside_set, inside_top, number_is_page, length_set, not_empty, pins_pop, pins_push, pins_set}
use Rattle.btree_walk.proofs.TurnLemmas.{top_node, turn_up, turn_key, turn_late, turn_low, turn_cell, turn_cut, turn_down, turn_enter, turn_unread, turn_stays, turn_named, turn_cut_marked}
use Rattle.btree_walk.proofs.turn.take_turn.Goals as goal

pub returns-then-is_late-clause-on : goal.returns-then-is_late-clause-on
returns-then-is_late-clause-on g c told taken given at =
    let node : IsNode (g.S.PageSource.plain c.args.source.now) c.args.cursor.now.family c.top-top.result.page = (top_node (g.S.PageSource.plain c.args.source.now) c.args.cursor.now.family c.args.cursor.now.root taken given c.args.cursor.now.path c.top-top.result c.args.cursor.now.floor c.args.cursor.now.last c.args.cursor.now.last_page (marked c.args.seen.now) (length c.args.cursor.now.path) refl c.requires.begun c.top-top.ensures at) in
    (turn_late (g.S.PageSource.plain c.args.source.now) c.args.cursor.now.family c.args.cursor.now.root taken given c.args.cursor.now.path c.top-top.result c.args.cursor.now.floor c.args.cursor.now.last c.args.cursor.now.last_page (marked c.args.seen.now) (length c.args.cursor.now.path) refl c.requires.begun c.top-top.ensures at
    c.in-Ok-Key.key (rw c.in-Ok-Key.field-0-is at (c.in-Ok-Key.ensures.value c.args.cursor.now.family node.body told node.reads)) (subst (λ k. late_of c.args.cursor.now.last k ≡ true) (to_z-of_z w64 c.in-Ok-Key.key (search rules)) (sym c.if-is_late.ensures)))

pub returns-then-is_low-clause-on : goal.returns-then-is_low-clause-on
returns-then-is_low-clause-on g c told taken given at =
    let node : IsNode (g.S.PageSource.plain c.args.source.now) c.args.cursor.now.family c.top-top.result.page = (top_node (g.S.PageSource.plain c.args.source.now) c.args.cursor.now.family c.args.cursor.now.root taken given c.args.cursor.now.path c.top-top.result c.args.cursor.now.floor c.args.cursor.now.last c.args.cursor.now.last_page (marked c.args.seen.now) (length c.args.cursor.now.path) refl c.requires.begun c.top-top.ensures at) in
    (turn_low (g.S.PageSource.plain c.args.source.now) c.args.cursor.now.family c.args.cursor.now.root taken given c.args.cursor.now.path c.top-top.result c.args.cursor.now.floor c.args.cursor.now.last c.args.cursor.now.last_page (marked c.args.seen.now) (length c.args.cursor.now.path) refl c.requires.begun c.top-top.ensures at
    c.in-Ok-Cell.rowid _ (rw c.in-Ok-Cell.field-0-is at (c.in-Ok-Cell.ensures.value c.args.cursor.now.family node.body told node.reads)) (sym c.if-is_low.ensures))

pub returns-in-Err-clause-on : goal.returns-in-Err-clause-on
returns-in-Err-clause-on g c told taken given at =
    let node : IsNode (g.S.PageSource.plain c.args.source.now) c.args.cursor.now.family c.top-top.result.page = (top_node (g.S.PageSource.plain c.args.source.now) c.args.cursor.now.family c.args.cursor.now.root taken given c.args.cursor.now.path c.top-top.result c.args.cursor.now.floor c.args.cursor.now.last c.args.cursor.now.last_page (marked c.args.seen.now) (length c.args.cursor.now.path) refl c.requires.begun c.top-top.ensures at) in
    let inside : (1 ≤ c.top-top.result.page) × (c.top-top.result.page ≤ (g.S.PageSource.plain c.args.source.now).count) = inside_top (g.S.PageSource.plain c.args.source.now).count c.args.cursor.now.path c.top-top.result c.requires.begun c.top-top.ensures c.requires.ready.inside in
    (turn_unread (g.S.PageSource.plain c.args.source.now) c.args.cursor.now.family c.args.cursor.now.root taken given c.args.cursor.now.path c.top-top.result c.args.cursor.now.floor c.args.cursor.now.last c.args.cursor.now.last_page (marked c.args.seen.now) (length c.args.cursor.now.path) refl c.requires.begun c.top-top.ensures at
    g.S.PageSource.refuses c.in-Err.error (number_is_page (g.S.PageSource.plain c.args.source.now) c.top-top.result.page inside.0 inside.1) (c.in-Err.ensures.unread c.args.cursor.now.family node.body told node.reads))

pub returns-in-Ok-End-clause-ready : goal.returns-in-Ok-End-clause-ready
returns-in-Ok-End-clause-ready g c =
    record {
      low = c.requires.ready.low;
      high = c.requires.ready.high;
      marks = c.requires.ready.marks;
      short = let n : length (take (length c.args.cursor.now.path - 1) c.args.cursor.now.path) ≡ min (length c.args.cursor.now.path - 1) (length c.args.cursor.now.path) = length-take (length c.args.cursor.now.path - 1) c.args.cursor.now.path in
          let few : length c.args.cursor.now.path ≤ 20 = c.requires.ready.short in rw c.pop.ensures (omega (arith, n, few));
      pinned = rw c.pop.ensures
          (pins_pop c.args.cursor.now.path c.top-top.result c.requires.begun c.top-top.ensures (g.S.PageSource.pins c.take_step.new.source) (g.S.PageSource.pins c.unpin.new.self)
          (c.in-Ok-End.ensures.pins ∙ c.requires.ready.pinned) c.unpin.result c.unpin.ensures.value c.unpin.ensures.pins);
      inside = rw c.pop.ensures (inside_pop _ c.args.cursor.now.path c.requires.ready.inside);
      begun = λ new. absurd (not_empty c.args.cursor.now.path c.requires.begun (c.requires.ready.begun new));
      covered = c.requires.ready.covered;
    }

pub returns-in-Ok-End-clause-on : goal.returns-in-Ok-End-clause-on
returns-in-Ok-End-clause-on g c told taken given at =
    let node : IsNode (g.S.PageSource.plain c.args.source.now) c.args.cursor.now.family c.top-top.result.page = (top_node (g.S.PageSource.plain c.args.source.now) c.args.cursor.now.family c.args.cursor.now.root taken given c.args.cursor.now.path c.top-top.result c.args.cursor.now.floor c.args.cursor.now.last c.args.cursor.now.last_page (marked c.args.seen.now) (length c.args.cursor.now.path) refl c.requires.begun c.top-top.ensures at) in
    rw c.pop.ensures (turn_up (g.S.PageSource.plain c.args.source.now) c.args.cursor.now.family c.args.cursor.now.root taken given c.args.cursor.now.path c.top-top.result c.args.cursor.now.floor c.args.cursor.now.last c.args.cursor.now.last_page (marked c.args.seen.now) (length c.args.cursor.now.path) refl c.requires.begun c.top-top.ensures at (rw c.in-Ok-End.field-0-is at (c.in-Ok-End.ensures.value c.args.cursor.now.family node.body told node.reads)))

pub returns-in-Err-enter-clause-given : goal.returns-in-Err-enter-clause-given
returns-in-Err-enter-clause-given g c =
    given_later g.S.PageSource.only_read g.S.PageSource.plain g.S.PageSource.refuses c.args.source.now c.take_step.new.source c.in-Err-enter.error g.met.S.PageSource.transitive
    (g.met.S.PageSource.same_count c.args.source.now c.take_step.new.source c.in-Ok-Child.ensures.reads) c.in-Ok-Child.ensures.reads c.in-Err-enter.ensures.given

pub returns-in-Err-enter-clause-on : goal.returns-in-Err-enter-clause-on
returns-in-Err-enter-clause-on g c told taken given at =
    let node : IsNode (g.S.PageSource.plain c.args.source.now) c.args.cursor.now.family c.top-top.result.page = (top_node (g.S.PageSource.plain c.args.source.now) c.args.cursor.now.family c.args.cursor.now.root taken given c.args.cursor.now.path c.top-top.result c.args.cursor.now.floor c.args.cursor.now.last c.args.cursor.now.last_page (marked c.args.seen.now) (length c.args.cursor.now.path) refl c.requires.begun c.top-top.ensures at) in
    let same : g.S.PageSource.plain c.take_step.new.source ≡ g.S.PageSource.plain c.args.source.now = g.met.S.PageSource.same_pages c.args.source.now c.take_step.new.source c.in-Ok-Child.ensures.reads told in
    let depth : c.depth-depth.result ≡ length c.args.cursor.now.path - 1 + 1 = let n : c.depth-depth.result ≡ length c.args.cursor.now.path = c.depth-depth.ensures.value in omega (arith, n, c.requires.begun) in
    (turn_enter (g.S.PageSource.plain c.args.source.now) c.args.cursor.now.family c.args.cursor.now.root taken given c.args.cursor.now.path c.top-top.result c.args.cursor.now.floor c.args.cursor.now.last c.args.cursor.now.last_page (marked c.args.seen.now) (length c.args.cursor.now.path) refl c.requires.begun c.top-top.ensures at
    g.S.PageSource.refuses c.in-Ok-Child.c c.in-Err-enter.error (rw c.in-Ok-Child.field-0-is at (c.in-Ok-Child.ensures.value c.args.cursor.now.family node.body told node.reads))
    (subst (λ k. IsEnterStop g.S.PageSource.refuses (g.S.PageSource.plain c.args.source.now) c.args.cursor.now.family (marked c.args.seen.now) k c.top-top.result.page c.in-Ok-Child.c c.in-Err-enter.error) depth
    (subst (λ p. IsEnterStop g.S.PageSource.refuses p c.args.cursor.now.family (marked c.args.seen.now) c.depth-depth.result c.top-top.result.page c.in-Ok-Child.c c.in-Err-enter.error) same
    (c.in-Err-enter.ensures.stop told))))

pub returns-in-Ok-clause-ready : goal.returns-in-Ok-clause-ready
returns-in-Ok-clause-ready g c =
    let count : (g.S.PageSource.plain c.take_step.new.source).count ≡ (g.S.PageSource.plain c.args.source.now).count = g.met.S.PageSource.same_count c.args.source.now c.take_step.new.source c.in-Ok-Child.ensures.reads in
    let longer : length ((slice_set c.args.cursor.now.path (length c.args.cursor.now.path - 1) (record { page = c.top-top.result.page; done = c.top-top.result.done + 1 })) ++ record { page = c.in-Ok-Child.c; done = 0 } ∷ []) ≡ length (slice_set c.args.cursor.now.path (length c.args.cursor.now.path - 1) (record { page = c.top-top.result.page; done = c.top-top.result.done + 1 })) + 1 = length-append (slice_set c.args.cursor.now.path (length c.args.cursor.now.path - 1) (record { page = c.top-top.result.page; done = c.top-top.result.done + 1 })) (record { page = c.in-Ok-Child.c; done = 0 } ∷ []) in
    let kept : length (slice_set c.args.cursor.now.path (length c.args.cursor.now.path - 1) (record { page = c.top-top.result.page; done = c.top-top.result.done + 1 })) ≡ length c.args.cursor.now.path = length_set c.args.cursor.now.path c.top-top.result (record { page = c.top-top.result.page; done = c.top-top.result.done + 1 }) c.requires.begun c.top-top.ensures in
    let room : c.depth-depth.result < 20 = c.in-Ok.ensures.shallow in
    let depth : c.depth-depth.result ≡ length c.args.cursor.now.path = c.depth-depth.ensures.value in
    record {
      low = c.requires.ready.low;
      high = c.requires.ready.high;
      marks = c.in-Ok.ensures.seen_length ∙ c.requires.ready.marks;
      short = rw (c.push.ensures, c.step.ensures) (omega (arith, longer, kept, room, depth));
      pinned =
          c.in-Ok.ensures.pins ∙ ap (one_more c.in-Ok-Child.c) (c.in-Ok-Child.ensures.pins ∙ c.requires.ready.pinned ∙ sym (pins_set c.args.cursor.now.path c.top-top.result (record { page = c.top-top.result.page; done = c.top-top.result.done + 1 }) c.requires.begun c.top-top.ensures refl))
          ∙ sym (pins_push (slice_set c.args.cursor.now.path (length c.args.cursor.now.path - 1) (record { page = c.top-top.result.page; done = c.top-top.result.done + 1 })) (record { page = c.in-Ok-Child.c; done = 0 })) ∙ ap path_pins (ap (λ l. l ++ record { page = c.in-Ok-Child.c; done = 0 } ∷ []) (sym c.step.ensures) ∙ sym c.push.ensures);
      inside = rw (c.push.ensures, c.step.ensures)
          (inside_push (g.S.PageSource.plain c.args.source.now).count (slice_set c.args.cursor.now.path (length c.args.cursor.now.path - 1) (record { page = c.top-top.result.page; done = c.top-top.result.done + 1 })) (record { page = c.in-Ok-Child.c; done = 0 }) (inside_set (g.S.PageSource.plain c.args.source.now).count c.args.cursor.now.path c.top-top.result (record { page = c.top-top.result.page; done = c.top-top.result.done + 1 }) c.requires.begun c.top-top.ensures refl c.requires.ready.inside) c.in-Ok.ensures.low (subst (λ k. c.in-Ok-Child.c ≤ k) count c.in-Ok.ensures.high));
      begun = λ new. absurd (not_empty c.args.cursor.now.path c.requires.begun (c.requires.ready.begun new));
      covered = c.requires.ready.covered;
    }

pub returns-in-Ok-clause-on : goal.returns-in-Ok-clause-on
returns-in-Ok-clause-on g c told taken given at =
    let node : IsNode (g.S.PageSource.plain c.args.source.now) c.args.cursor.now.family c.top-top.result.page = (top_node (g.S.PageSource.plain c.args.source.now) c.args.cursor.now.family c.args.cursor.now.root taken given c.args.cursor.now.path c.top-top.result c.args.cursor.now.floor c.args.cursor.now.last c.args.cursor.now.last_page (marked c.args.seen.now) (length c.args.cursor.now.path) refl c.requires.begun c.top-top.ensures at) in
    let same : g.S.PageSource.plain c.take_step.new.source ≡ g.S.PageSource.plain c.args.source.now = g.met.S.PageSource.same_pages c.args.source.now c.take_step.new.source c.in-Ok-Child.ensures.reads told in
    let shallow : length c.args.cursor.now.path - 1 + 1 < 20 = let room : c.depth-depth.result < 20 = c.in-Ok.ensures.shallow in let depth : c.depth-depth.result ≡ length c.args.cursor.now.path = c.depth-depth.ensures.value in omega (arith, room, depth, c.requires.begun) in
    rw (c.push.ensures, c.step.ensures, c.in-Ok.ensures.marks)
    (turn_down (g.S.PageSource.plain c.args.source.now) c.args.cursor.now.family c.args.cursor.now.root taken given c.args.cursor.now.path c.top-top.result c.args.cursor.now.floor c.args.cursor.now.last c.args.cursor.now.last_page (marked c.args.seen.now) (length c.args.cursor.now.path) refl c.requires.begun c.top-top.ensures at
    c.in-Ok-Child.c (rw c.in-Ok-Child.field-0-is at (c.in-Ok-Child.ensures.value c.args.cursor.now.family node.body told node.reads))
    (subst (λ p. IsEntered p c.args.cursor.now.family (marked c.args.seen.now) c.in-Ok-Child.c) same (c.in-Ok.ensures.entered told)) shallow)

pub returns-else-is_late-clause-ready : goal.returns-else-is_late-clause-ready
returns-else-is_late-clause-ready g c =
    record {
      low = c.requires.ready.low;
      high = c.requires.ready.high;
      marks = c.requires.ready.marks;
      short = rw c.step-in-Ok-Key.ensures (subst (λ k. k ≤ 20) (sym (length_set c.args.cursor.now.path c.top-top.result (record { page = c.top-top.result.page; done = c.top-top.result.done + 1 }) c.requires.begun c.top-top.ensures)) c.requires.ready.short);
      pinned = c.in-Ok-Key.ensures.pins ∙ c.requires.ready.pinned ∙ sym (pins_set c.args.cursor.now.path c.top-top.result (record { page = c.top-top.result.page; done = c.top-top.result.done + 1 }) c.requires.begun c.top-top.ensures refl) ∙ ap path_pins (sym c.step-in-Ok-Key.ensures);
      inside = rw c.step-in-Ok-Key.ensures (inside_set (g.S.PageSource.plain c.args.source.now).count c.args.cursor.now.path c.top-top.result (record { page = c.top-top.result.page; done = c.top-top.result.done + 1 }) c.requires.begun c.top-top.ensures refl c.requires.ready.inside);
      begun = λ new. absurd (not_empty c.args.cursor.now.path c.requires.begun (c.requires.ready.begun new));
      covered = subst (IsCovered c.args.cursor.now.last) (sym c.raised-cursor.ensures) (covered_key c.args.cursor.now.last c.args.cursor.now.floor _ c.requires.ready.covered);
    }

pub returns-else-is_late-clause-on : goal.returns-else-is_late-clause-on
returns-else-is_late-clause-on g c told taken given at =
    let node : IsNode (g.S.PageSource.plain c.args.source.now) c.args.cursor.now.family c.top-top.result.page = (top_node (g.S.PageSource.plain c.args.source.now) c.args.cursor.now.family c.args.cursor.now.root taken given c.args.cursor.now.path c.top-top.result c.args.cursor.now.floor c.args.cursor.now.last c.args.cursor.now.last_page (marked c.args.seen.now) (length c.args.cursor.now.path) refl c.requires.begun c.top-top.ensures at) in
    rw c.step-in-Ok-Key.ensures
    (subst (λ f. IsInside (g.S.PageSource.plain c.args.source.now) c.args.cursor.now.family c.args.cursor.now.root taken given (slice_set c.args.cursor.now.path (length c.args.cursor.now.path - 1) (record { page = c.top-top.result.page; done = c.top-top.result.done + 1 })) f c.args.cursor.now.last c.args.cursor.now.last_page (marked c.args.seen.now))
    (sym (subst (λ k. c.raised-cursor.result ≡ raised_of c.args.cursor.now.floor k) (to_z-of_z w64 c.in-Ok-Key.key (search rules)) c.raised-cursor.ensures))
    (turn_key (g.S.PageSource.plain c.args.source.now) c.args.cursor.now.family c.args.cursor.now.root taken given c.args.cursor.now.path c.top-top.result c.args.cursor.now.floor c.args.cursor.now.last c.args.cursor.now.last_page (marked c.args.seen.now) (length c.args.cursor.now.path) refl c.requires.begun c.top-top.ensures at
    c.in-Ok-Key.key (rw c.in-Ok-Key.field-0-is at (c.in-Ok-Key.ensures.value c.args.cursor.now.family node.body told node.reads)) (subst (λ k. late_of c.args.cursor.now.last k ≡ false) (to_z-of_z w64 c.in-Ok-Key.key (search rules)) (sym c.if-is_late.ensures))))

pub returns-in-Err-read_payload-clause-given : goal.returns-in-Err-read_payload-clause-given
returns-in-Err-read_payload-clause-given g c =
    given_later g.S.PageSource.only_read g.S.PageSource.plain g.S.PageSource.refuses c.args.source.now c.take_step.new.source c.in-Err-read_payload.error g.met.S.PageSource.transitive
    (g.met.S.PageSource.same_count c.args.source.now c.take_step.new.source c.in-Ok-Cell.ensures.reads) c.in-Ok-Cell.ensures.reads c.in-Err-read_payload.ensures.given

pub returns-in-Err-read_payload-clause-on : goal.returns-in-Err-read_payload-clause-on
returns-in-Err-read_payload-clause-on g c told taken given at =
    let node : IsNode (g.S.PageSource.plain c.args.source.now) c.args.cursor.now.family c.top-top.result.page = (top_node (g.S.PageSource.plain c.args.source.now) c.args.cursor.now.family c.args.cursor.now.root taken given c.args.cursor.now.path c.top-top.result c.args.cursor.now.floor c.args.cursor.now.last c.args.cursor.now.last_page (marked c.args.seen.now) (length c.args.cursor.now.path) refl c.requires.begun c.top-top.ensures at) in
    let same : g.S.PageSource.plain c.take_step.new.source ≡ g.S.PageSource.plain c.args.source.now = g.met.S.PageSource.same_pages c.args.source.now c.take_step.new.source c.in-Ok-Cell.ensures.reads told in
    (turn_cut (g.S.PageSource.plain c.args.source.now) c.args.cursor.now.family c.args.cursor.now.root taken given c.args.cursor.now.path c.top-top.result c.args.cursor.now.floor c.args.cursor.now.last c.args.cursor.now.last_page (marked c.args.seen.now) (length c.args.cursor.now.path) refl c.requires.begun c.top-top.ensures at
    g.S.PageSource.refuses c.in-Ok-Cell.rowid (record { size = c.in-Ok-Cell.length; local = c.take_step.new.local.items; first = c.in-Ok-Cell.first }) c.in-Err-read_payload.error (rw c.in-Ok-Cell.field-0-is at (c.in-Ok-Cell.ensures.value c.args.cursor.now.family node.body told node.reads)) (sym c.if-is_low.ensures)
    (λ met marks. subst (λ p. IsCut g.S.PageSource.refuses p (chain_of p taken met c.top-top.result.page (record { size = c.in-Ok-Cell.length; local = c.take_step.new.local.items; first = c.in-Ok-Cell.first })) c.in-Err-read_payload.error) same (c.in-Err-read_payload.ensures.on told taken met marks)))

pub returns-in-Ok-read_payload-clause-ready : goal.returns-in-Ok-read_payload-clause-ready
returns-in-Ok-read_payload-clause-ready g c =
    record {
      low = c.requires.ready.low;
      high = c.requires.ready.high;
      marks = c.in-Ok-read_payload.ensures.seen_length ∙ c.requires.ready.marks;
      short = rw c.step-in-Ok-read_payload.ensures (subst (λ k. k ≤ 20) (sym (length_set c.args.cursor.now.path c.top-top.result (record { page = c.top-top.result.page; done = c.top-top.result.done + 1 }) c.requires.begun c.top-top.ensures)) c.requires.ready.short);
      pinned = c.in-Ok-read_payload.ensures.pins ∙ c.in-Ok-Cell.ensures.pins ∙ c.requires.ready.pinned ∙ sym (pins_set c.args.cursor.now.path c.top-top.result (record { page = c.top-top.result.page; done = c.top-top.result.done + 1 }) c.requires.begun c.top-top.ensures refl) ∙ ap path_pins (sym c.step-in-Ok-read_payload.ensures);
      inside = rw c.step-in-Ok-read_payload.ensures (inside_set (g.S.PageSource.plain c.args.source.now).count c.args.cursor.now.path c.top-top.result (record { page = c.top-top.result.page; done = c.top-top.result.done + 1 }) c.requires.begun c.top-top.ensures refl c.requires.ready.inside);
      begun = λ new. absurd (not_empty c.args.cursor.now.path c.requires.begun (c.requires.ready.begun new));
      covered = rw (c.last_of-cursor-in-Ok-read_payload.ensures, c.last_of-cursor.ensures) (covered_entry c.args.cursor.now.last c.args.cursor.now.floor c.in-Ok-Cell.rowid c.requires.ready.covered);
    }

pub returns-in-Ok-read_payload-clause-on : goal.returns-in-Ok-read_payload-clause-on
returns-in-Ok-read_payload-clause-on g c told taken given at =
    let node : IsNode (g.S.PageSource.plain c.args.source.now) c.args.cursor.now.family c.top-top.result.page = (top_node (g.S.PageSource.plain c.args.source.now) c.args.cursor.now.family c.args.cursor.now.root taken given c.args.cursor.now.path c.top-top.result c.args.cursor.now.floor c.args.cursor.now.last c.args.cursor.now.last_page (marked c.args.seen.now) (length c.args.cursor.now.path) refl c.requires.begun c.top-top.ensures at) in
    let same : g.S.PageSource.plain c.take_step.new.source ≡ g.S.PageSource.plain c.args.source.now = g.met.S.PageSource.same_pages c.args.source.now c.take_step.new.source c.in-Ok-Cell.ensures.reads told in
    rw (c.step-in-Ok-read_payload.ensures, c.last_of-cursor.ensures, c.last_of-cursor-in-Ok-read_payload.ensures, c.page_of-cursor.ensures)
    (turn_cell (g.S.PageSource.plain c.args.source.now) c.args.cursor.now.family c.args.cursor.now.root taken given c.args.cursor.now.path c.top-top.result c.args.cursor.now.floor c.args.cursor.now.last c.args.cursor.now.last_page (marked c.args.seen.now) (length c.args.cursor.now.path) refl c.requires.begun c.top-top.ensures at
    c.in-Ok-Cell.rowid (record { size = c.in-Ok-Cell.length; local = c.take_step.new.local.items; first = c.in-Ok-Cell.first }) c.read_payload.new.payload.items (marked c.read_payload.new.seen) (rw c.in-Ok-Cell.field-0-is at (c.in-Ok-Cell.ensures.value c.args.cursor.now.family node.body told node.reads)) (sym c.if-is_low.ensures)
    (λ met marks. subst (λ p. IsPaid p taken met c.top-top.result.page (record { size = c.in-Ok-Cell.length; local = c.take_step.new.local.items; first = c.in-Ok-Cell.first }) c.read_payload.new.payload.items (marked c.args.seen.now) (marked c.read_payload.new.seen)) same (c.in-Ok-read_payload.ensures.on told taken met marks)))

pub returns-then-is_late-clause-marks : goal.returns-then-is_late-clause-marks
returns-then-is_late-clause-marks g c told taken given at =
    (turn_stays (g.S.PageSource.plain c.args.source.now) c.args.cursor.now.family c.args.cursor.now.root taken given c.args.cursor.now.path c.top-top.result c.args.cursor.now.floor c.args.cursor.now.last c.args.cursor.now.last_page (marked c.args.seen.now) (length c.args.cursor.now.path) refl c.requires.begun c.top-top.ensures at)

pub returns-then-is_low-clause-marks : goal.returns-then-is_low-clause-marks
returns-then-is_low-clause-marks g c told taken given at =
    (turn_stays (g.S.PageSource.plain c.args.source.now) c.args.cursor.now.family c.args.cursor.now.root taken given c.args.cursor.now.path c.top-top.result c.args.cursor.now.floor c.args.cursor.now.last c.args.cursor.now.last_page (marked c.args.seen.now) (length c.args.cursor.now.path) refl c.requires.begun c.top-top.ensures at)

pub returns-in-Err-clause-marks : goal.returns-in-Err-clause-marks
returns-in-Err-clause-marks g c told taken given at =
    (turn_stays (g.S.PageSource.plain c.args.source.now) c.args.cursor.now.family c.args.cursor.now.root taken given c.args.cursor.now.path c.top-top.result c.args.cursor.now.floor c.args.cursor.now.last c.args.cursor.now.last_page (marked c.args.seen.now) (length c.args.cursor.now.path) refl c.requires.begun c.top-top.ensures at)

pub returns-in-Err-enter-clause-marks : goal.returns-in-Err-enter-clause-marks
returns-in-Err-enter-clause-marks g c told taken given at =
    let node : IsNode (g.S.PageSource.plain c.args.source.now) c.args.cursor.now.family c.top-top.result.page = (top_node (g.S.PageSource.plain c.args.source.now) c.args.cursor.now.family c.args.cursor.now.root taken given c.args.cursor.now.path c.top-top.result c.args.cursor.now.floor c.args.cursor.now.last c.args.cursor.now.last_page (marked c.args.seen.now) (length c.args.cursor.now.path) refl c.requires.begun c.top-top.ensures at) in
    let same : g.S.PageSource.plain c.take_step.new.source ≡ g.S.PageSource.plain c.args.source.now = g.met.S.PageSource.same_pages c.args.source.now c.take_step.new.source c.in-Ok-Child.ensures.reads told in
    (turn_named (g.S.PageSource.plain c.args.source.now) c.args.cursor.now.family c.args.cursor.now.root taken given c.args.cursor.now.path c.top-top.result c.args.cursor.now.floor c.args.cursor.now.last c.args.cursor.now.last_page (marked c.args.seen.now) (length c.args.cursor.now.path) refl c.requires.begun c.top-top.ensures at
    c.in-Ok-Child.c (marked c.enter.new.seen) (rw c.in-Ok-Child.field-0-is at (c.in-Ok-Child.ensures.value c.args.cursor.now.family node.body told node.reads)) _ (ap (λ p. is_in_range p c.in-Ok-Child.c) (sym same)) c.in-Err-enter.ensures.named)

pub returns-in-Err-read_payload-clause-marks : goal.returns-in-Err-read_payload-clause-marks
returns-in-Err-read_payload-clause-marks g c told taken given at =
    let node : IsNode (g.S.PageSource.plain c.args.source.now) c.args.cursor.now.family c.top-top.result.page = (top_node (g.S.PageSource.plain c.args.source.now) c.args.cursor.now.family c.args.cursor.now.root taken given c.args.cursor.now.path c.top-top.result c.args.cursor.now.floor c.args.cursor.now.last c.args.cursor.now.last_page (marked c.args.seen.now) (length c.args.cursor.now.path) refl c.requires.begun c.top-top.ensures at) in
    let same : g.S.PageSource.plain c.take_step.new.source ≡ g.S.PageSource.plain c.args.source.now = g.met.S.PageSource.same_pages c.args.source.now c.take_step.new.source c.in-Ok-Cell.ensures.reads told in
    (turn_cut_marked (g.S.PageSource.plain c.args.source.now) c.args.cursor.now.family c.args.cursor.now.root taken given c.args.cursor.now.path c.top-top.result c.args.cursor.now.floor c.args.cursor.now.last c.args.cursor.now.last_page (marked c.args.seen.now) (length c.args.cursor.now.path) refl c.requires.begun c.top-top.ensures at
    c.in-Ok-Cell.rowid (record { size = c.in-Ok-Cell.length; local = c.take_step.new.local.items; first = c.in-Ok-Cell.first }) (marked c.read_payload.new.seen) (rw c.in-Ok-Cell.field-0-is at (c.in-Ok-Cell.ensures.value c.args.cursor.now.family node.body told node.reads)) (sym c.if-is_low.ensures)
    (λ met marks. subst (λ p. IsMarked (chain_of p taken met c.top-top.result.page (record { size = c.in-Ok-Cell.length; local = c.take_step.new.local.items; first = c.in-Ok-Cell.first })) (marked c.args.seen.now) (marked c.read_payload.new.seen)) same (c.in-Err-read_payload.ensures.marks told taken met marks)))
