use Rattle.std.proofs.Common.{◌≡◌, ◌≤◌, ◌+◌, ℕ, Bool, List, length, arith, Ok, Err, refl, subst}
use mir.Val.{of_z, to_z}
use mir.Syntax.{w64}
use Rattle.db_format.specs.Pages.{nothing}
use Rattle.db_format.specs.Seen.{marked, open_count}
use Rattle.rowid_find.proofs.OnceLemmas.{open_most}
use Rattle.rowid_find.specs.Reach.{reach_range}
use Rattle.rowid_find.specs.Search.{IsSearched, State}
use Rattle.rowid_find.proofs.FindSteps.{count_lost, cut_off, end_lost, end_put, stop_flushed}
use Rattle.rowid_find.proofs.WantedSteps.{passed2}
use Rattle.rowid_find.proofs.search.find_rows.Goals as goal

pub returns-in-Err-OutputFault-clause-on : goal.returns-in-Err-OutputFault-clause-on
returns-in-Err-OutputFault-clause-on g c told =
    let pages = g.S.PageSource.plain c.args.source.now.source.now in
    let before : State = record { taken = g.K.Sink.taken c.args.out.now; waits = c.in-Ok.line; rows = 0; reads = c.args.source.now.reads; marks = nothing } in
    let after : State = record { taken = g.K.Sink.taken c.visit_range.new.out; waits = c.visit_range.new.found.line; rows = c.visit_range.new.found.rows; reads = c.visit_range.new.source.reads; marks = marked c.visit_range.new.found.seen } in
    let came : IsSearched g.S.PageSource.refuses pages g.K.Sink.tells (reach_range pages c.args.low c.args.high c.args.root) before after (Err c.in-Err-OutputFault.field-0) =
    subst (λ l. IsSearched g.S.PageSource.refuses pages g.K.Sink.tells l before after (Err c.in-Err-OutputFault.field-0)) (passed2 (λ a b. reach_range pages a b c.args.root) c.args.low c.args.high c.ranges.low c.ranges.high) (subst (λ m. IsSearched g.S.PageSource.refuses pages g.K.Sink.tells (reach_range pages (to_z w64 (of_z w64 c.args.low)) (to_z w64 (of_z w64 c.args.high)) c.args.root) (record { taken = g.K.Sink.taken c.args.out.now; waits = c.in-Ok.line; rows = 0; reads = c.args.source.now.reads; marks = m }) after (Err c.in-Err-OutputFault.field-0)) c.in-Ok-new.ensures.none (c.in-Err-OutputFault.ensures.on told)) in
    cut_off g.K.Sink.tells (reach_range pages c.args.low c.args.high c.args.root) before c.in-Ok.ensures after
    (subst (λ e. IsSearched g.S.PageSource.refuses pages g.K.Sink.tells (reach_range pages c.args.low c.args.high c.args.root) before after (Err e)) c.in-Err-OutputFault.field-0-is came)

pub returns-in-Err-Walk-clause-on : goal.returns-in-Err-Walk-clause-on
returns-in-Err-Walk-clause-on g c told =
    let pages = g.S.PageSource.plain c.args.source.now.source.now in
    let before : State = record { taken = g.K.Sink.taken c.args.out.now; waits = c.in-Ok.line; rows = 0; reads = c.args.source.now.reads; marks = nothing } in
    let after : State = record { taken = g.K.Sink.taken c.visit_range.new.out; waits = c.visit_range.new.found.line; rows = c.visit_range.new.found.rows; reads = c.visit_range.new.source.reads; marks = marked c.visit_range.new.found.seen } in
    let came : IsSearched g.S.PageSource.refuses pages g.K.Sink.tells (reach_range pages c.args.low c.args.high c.args.root) before after (Err c.in-Err-Walk.field-0) =
    subst (λ l. IsSearched g.S.PageSource.refuses pages g.K.Sink.tells l before after (Err c.in-Err-Walk.field-0)) (passed2 (λ a b. reach_range pages a b c.args.root) c.args.low c.args.high c.ranges.low c.ranges.high) (subst (λ m. IsSearched g.S.PageSource.refuses pages g.K.Sink.tells (reach_range pages (to_z w64 (of_z w64 c.args.low)) (to_z w64 (of_z w64 c.args.high)) c.args.root) (record { taken = g.K.Sink.taken c.args.out.now; waits = c.in-Ok.line; rows = 0; reads = c.args.source.now.reads; marks = m }) after (Err c.in-Err-Walk.field-0)) c.in-Ok-new.ensures.none (c.in-Err-Walk.ensures.on told)) in
    rw c.after_flush.ensures
    (stop_flushed g.K.Sink.tells (reach_range pages c.args.low c.args.high c.args.root) before c.in-Ok.ensures g.S.PageSource.refuses pages after c.in-Err-Walk.error c.flush-flushed.result
    (g.K.Sink.taken c.flush-flushed.new.out) c.flush-flushed.new.self
    (subst (λ e. IsSearched g.S.PageSource.refuses pages g.K.Sink.tells (reach_range pages c.args.low c.args.high c.args.root) before after (Err e)) c.in-Err-Walk.field-0-is came)
    c.flush-flushed.ensures.empty c.flush-flushed.ensures.done c.flush-flushed.ensures.part)

pub returns-in-Err-put_count-clause-on : goal.returns-in-Err-put_count-clause-on
returns-in-Err-put_count-clause-on g c told =
    let pages = g.S.PageSource.plain c.args.source.now.source.now in
    let before : State = record { taken = g.K.Sink.taken c.args.out.now; waits = c.in-Ok.line; rows = 0; reads = c.args.source.now.reads; marks = nothing } in
    let after : State = record { taken = g.K.Sink.taken c.visit_range.new.out; waits = c.visit_range.new.found.line; rows = c.visit_range.new.found.rows; reads = c.visit_range.new.source.reads; marks = marked c.visit_range.new.found.seen } in
    let came : IsSearched g.S.PageSource.refuses pages g.K.Sink.tells (reach_range pages c.args.low c.args.high c.args.root) before after (Ok c.in-Ok-visit_range.field-0) =
    subst (λ l. IsSearched g.S.PageSource.refuses pages g.K.Sink.tells l before after (Ok c.in-Ok-visit_range.field-0)) (passed2 (λ a b. reach_range pages a b c.args.root) c.args.low c.args.high c.ranges.low c.ranges.high) (subst (λ m. IsSearched g.S.PageSource.refuses pages g.K.Sink.tells (reach_range pages (to_z w64 (of_z w64 c.args.low)) (to_z w64 (of_z w64 c.args.high)) c.args.root) (record { taken = g.K.Sink.taken c.args.out.now; waits = c.in-Ok.line; rows = 0; reads = c.args.source.now.reads; marks = m }) after (Ok c.in-Ok-visit_range.field-0)) c.in-Ok-new.ensures.none (c.in-Ok-visit_range.ensures.on told)) in
    count_lost g.K.Sink.tells (reach_range pages c.args.low c.args.high c.args.root) before c.in-Ok.ensures refl after came (g.K.Sink.taken c.put_count.new.out) c.in-Err-put_count.ensures.part

pub returns-in-Err-flush-clause-on : goal.returns-in-Err-flush-clause-on
returns-in-Err-flush-clause-on g c told =
    let pages = g.S.PageSource.plain c.args.source.now.source.now in
    let before : State = record { taken = g.K.Sink.taken c.args.out.now; waits = c.in-Ok.line; rows = 0; reads = c.args.source.now.reads; marks = nothing } in
    let after : State = record { taken = g.K.Sink.taken c.visit_range.new.out; waits = c.visit_range.new.found.line; rows = c.visit_range.new.found.rows; reads = c.visit_range.new.source.reads; marks = marked c.visit_range.new.found.seen } in
    let came : IsSearched g.S.PageSource.refuses pages g.K.Sink.tells (reach_range pages c.args.low c.args.high c.args.root) before after (Ok c.in-Ok-visit_range.field-0) =
    subst (λ l. IsSearched g.S.PageSource.refuses pages g.K.Sink.tells l before after (Ok c.in-Ok-visit_range.field-0)) (passed2 (λ a b. reach_range pages a b c.args.root) c.args.low c.args.high c.ranges.low c.ranges.high) (subst (λ m. IsSearched g.S.PageSource.refuses pages g.K.Sink.tells (reach_range pages (to_z w64 (of_z w64 c.args.low)) (to_z w64 (of_z w64 c.args.high)) c.args.root) (record { taken = g.K.Sink.taken c.args.out.now; waits = c.in-Ok.line; rows = 0; reads = c.args.source.now.reads; marks = m }) after (Ok c.in-Ok-visit_range.field-0)) c.in-Ok-new.ensures.none (c.in-Ok-visit_range.ensures.on told)) in
    end_lost g.K.Sink.tells (reach_range pages c.args.low c.args.high c.args.root) before c.in-Ok.ensures refl after came (g.K.Sink.taken c.put_count.new.out) c.put_count.new.line c.in-Ok-put_count.ensures.done
    (g.K.Sink.taken c.flush.new.out) c.in-Err-flush.ensures.part

pub returns-clause-on : goal.returns-clause-on
returns-clause-on g c told =
    let pages = g.S.PageSource.plain c.args.source.now.source.now in
    let before : State = record { taken = g.K.Sink.taken c.args.out.now; waits = c.in-Ok.line; rows = 0; reads = c.args.source.now.reads; marks = nothing } in
    let after : State = record { taken = g.K.Sink.taken c.visit_range.new.out; waits = c.visit_range.new.found.line; rows = c.visit_range.new.found.rows; reads = c.visit_range.new.source.reads; marks = marked c.visit_range.new.found.seen } in
    let came : IsSearched g.S.PageSource.refuses pages g.K.Sink.tells (reach_range pages c.args.low c.args.high c.args.root) before after (Ok c.in-Ok-visit_range.field-0) =
    subst (λ l. IsSearched g.S.PageSource.refuses pages g.K.Sink.tells l before after (Ok c.in-Ok-visit_range.field-0)) (passed2 (λ a b. reach_range pages a b c.args.root) c.args.low c.args.high c.ranges.low c.ranges.high) (subst (λ m. IsSearched g.S.PageSource.refuses pages g.K.Sink.tells (reach_range pages (to_z w64 (of_z w64 c.args.low)) (to_z w64 (of_z w64 c.args.high)) c.args.root) (record { taken = g.K.Sink.taken c.args.out.now; waits = c.in-Ok.line; rows = 0; reads = c.args.source.now.reads; marks = m }) after (Ok c.in-Ok-visit_range.field-0)) c.in-Ok-new.ensures.none (c.in-Ok-visit_range.ensures.on told)) in
    end_put g.K.Sink.tells (reach_range pages c.args.low c.args.high c.args.root) before c.in-Ok.ensures refl after came (g.K.Sink.taken c.put_count.new.out) c.put_count.new.line c.in-Ok-put_count.ensures.done
    (g.K.Sink.taken c.flush.new.out) c.flush.new.self c.in-Ok-flush.ensures.empty c.in-Ok-flush.ensures.done

-- each page that was read has lost its open mark
read_once : (seen : List Bool) (before now left pages count : ℕ) → now + left ≤ before + open_count seen → length seen ≡ pages + 1 → pages ≡ count → now ≤ before + count + 1
read_once seen before now left pages count once long same = let most = open_most seen in omega (arith, once, long, same, most)

pub returns-in-Err-OutputFault-clause-once : goal.returns-in-Err-OutputFault-clause-once
returns-in-Err-OutputFault-clause-once g c = read_once c.in-Ok-new.seen c.args.source.now.reads c.visit_range.new.source.reads (open_count c.visit_range.new.found.seen) _ _ c.in-Err-OutputFault.ensures.once c.in-Ok-new.ensures.length c.pages.ensures

pub returns-in-Err-Walk-clause-once : goal.returns-in-Err-Walk-clause-once
returns-in-Err-Walk-clause-once g c = read_once c.in-Ok-new.seen c.args.source.now.reads c.visit_range.new.source.reads (open_count c.visit_range.new.found.seen) _ _ c.in-Err-Walk.ensures.once c.in-Ok-new.ensures.length c.pages.ensures

pub returns-in-Err-put_count-clause-once : goal.returns-in-Err-put_count-clause-once
returns-in-Err-put_count-clause-once g c = read_once c.in-Ok-new.seen c.args.source.now.reads c.visit_range.new.source.reads (open_count c.visit_range.new.found.seen) _ _ c.in-Ok-visit_range.ensures.once c.in-Ok-new.ensures.length c.pages.ensures

pub returns-in-Err-flush-clause-once : goal.returns-in-Err-flush-clause-once
returns-in-Err-flush-clause-once g c = read_once c.in-Ok-new.seen c.args.source.now.reads c.visit_range.new.source.reads (open_count c.visit_range.new.found.seen) _ _ c.in-Ok-visit_range.ensures.once c.in-Ok-new.ensures.length c.pages.ensures

pub returns-clause-once : goal.returns-clause-once
returns-clause-once g c = read_once c.in-Ok-new.seen c.args.source.now.reads c.visit_range.new.source.reads (open_count c.visit_range.new.found.seen) _ _ c.in-Ok-visit_range.ensures.once c.in-Ok-new.ensures.length c.pages.ensures
