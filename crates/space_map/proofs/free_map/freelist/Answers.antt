use Rattle.std.proofs.Common.{refl, sym}
use Rattle.db_format.specs.Pages.{Pages, Test}
use Rattle.db_format.specs.Seen.{marked}
use Rattle.btree_model.specs.Freelist.{lists_of, freelist_walk}
use Rattle.space_map.specs.Walk.{IsFreeWalkAt, IsDone, IsStopped}
use Rattle.space_map.proofs.TrunkLemmas.{lists_at, lists_out, freelist_done, freelist_miscounted, first_for, marked_joined, marked_met}
use Rattle.space_map.proofs.free_map.freelist.Goals as goal

pub walk_trunks-requires-clause-first : goal.walk_trunks-requires-clause-first
walk_trunks-requires-clause-first g c =
    c.is_number.ensures.number (g.S.PageSource.plain c.args.source.now) (sym c.pages-count.ensures) c.if-not-is_number.false

pub returns-then-not-is_number-clause-found : goal.returns-then-not-is_number-clause-found
returns-then-not-is_number-clause-found g c told =
    lists_out (g.S.PageSource.plain c.args.source.now) (marked c.args.seen.now) c.args.header.now.first_trunk (c.requires.first told)
    (sym (c.if-not-is_number.ensures.test (g.S.PageSource.plain c.args.source.now) (sym c.pages-count.ensures)))

pub returns-in-Err-walk_trunks-clause-found : goal.returns-in-Err-walk_trunks-clause-found
returns-in-Err-walk_trunks-clause-found g c told =
    let pages : Pages = g.S.PageSource.plain c.args.source.now in
    let taken : Test = marked c.args.seen.now in
    let at : IsFreeWalkAt pages (lists_of pages taken) taken pages.count c.args.header.now.first_trunk 0 taken (marked c.in-Ok.leaves) =
    lists_at pages taken c.args.header.now.first_trunk (marked c.in-Ok.leaves) (c.requires.first told) c.in-Ok.ensures.none (sym (c.if-not-is_number.ensures.test pages (sym c.pages-count.ensures)))
    in
    let stopped : IsStopped g.S.PageSource.refuses pages (lists_of pages taken) taken (marked c.walk_trunks.new.seen) c.in-Err-walk_trunks.stop =
    c.in-Err-walk_trunks.ensures.on told (lists_of pages taken) taken at
    in
    first_for g.S.PageSource.refuses pages (lists_of pages taken) _ c.in-Err-walk_trunks.stop stopped.first

pub returns-in-Err-walk_trunks-clause-marked : goal.returns-in-Err-walk_trunks-clause-marked
returns-in-Err-walk_trunks-clause-marked g c told =
    let pages : Pages = g.S.PageSource.plain c.args.source.now in
    let taken : Test = marked c.args.seen.now in
    let at : IsFreeWalkAt pages (lists_of pages taken) taken pages.count c.args.header.now.first_trunk 0 taken (marked c.in-Ok.leaves) =
    lists_at pages taken c.args.header.now.first_trunk (marked c.in-Ok.leaves) (c.requires.first told) c.in-Ok.ensures.none (sym (c.if-not-is_number.ensures.test pages (sym c.pages-count.ensures)))
    in
    let stopped : IsStopped g.S.PageSource.refuses pages (lists_of pages taken) taken (marked c.walk_trunks.new.seen) c.in-Err-walk_trunks.stop =
    c.in-Err-walk_trunks.ensures.on told (lists_of pages taken) taken at
    in
    marked_joined (lists_of pages taken) _ taken (marked c.walk_trunks.new.seen) stopped.marks

pub returns-then-found-header-clause-marked : goal.returns-then-found-header-clause-marked
returns-then-found-header-clause-marked g c told =
    let pages : Pages = g.S.PageSource.plain c.args.source.now in
    let taken : Test = marked c.args.seen.now in
    let at : IsFreeWalkAt pages (lists_of pages taken) taken pages.count c.args.header.now.first_trunk 0 taken (marked c.in-Ok.leaves) =
    lists_at pages taken c.args.header.now.first_trunk (marked c.in-Ok.leaves) (c.requires.first told) c.in-Ok.ensures.none (sym (c.if-not-is_number.ensures.test pages (sym c.pages-count.ensures)))
    in
    let done : IsDone (lists_of pages taken) taken c.in-Ok-walk_trunks.found (marked c.walk_trunks.new.seen) (marked c.walk_trunks.new.free) =
    c.in-Ok-walk_trunks.ensures.on told (lists_of pages taken) taken at
    in
    marked_met (freelist_walk pages taken) (lists_of pages taken) _ taken (marked c.walk_trunks.new.seen) refl done.marks

pub returns-else-found-header-clause-marked : goal.returns-else-found-header-clause-marked
returns-else-found-header-clause-marked g c told =
    let pages : Pages = g.S.PageSource.plain c.args.source.now in
    let taken : Test = marked c.args.seen.now in
    let at : IsFreeWalkAt pages (lists_of pages taken) taken pages.count c.args.header.now.first_trunk 0 taken (marked c.in-Ok.leaves) =
    lists_at pages taken c.args.header.now.first_trunk (marked c.in-Ok.leaves) (c.requires.first told) c.in-Ok.ensures.none (sym (c.if-not-is_number.ensures.test pages (sym c.pages-count.ensures)))
    in
    let done : IsDone (lists_of pages taken) taken c.in-Ok-walk_trunks.found (marked c.walk_trunks.new.seen) (marked c.walk_trunks.new.free) =
    c.in-Ok-walk_trunks.ensures.on told (lists_of pages taken) taken at
    in
    marked_met (freelist_walk pages taken) (lists_of pages taken) _ taken (marked c.walk_trunks.new.seen) refl done.marks

pub returns-then-found-header-clause-found : goal.returns-then-found-header-clause-found
returns-then-found-header-clause-found g c told =
    let pages : Pages = g.S.PageSource.plain c.args.source.now in
    let taken : Test = marked c.args.seen.now in
    let at : IsFreeWalkAt pages (lists_of pages taken) taken pages.count c.args.header.now.first_trunk 0 taken (marked c.in-Ok.leaves) =
    lists_at pages taken c.args.header.now.first_trunk (marked c.in-Ok.leaves) (c.requires.first told) c.in-Ok.ensures.none (sym (c.if-not-is_number.ensures.test pages (sym c.pages-count.ensures)))
    in
    let done : IsDone (lists_of pages taken) taken c.in-Ok-walk_trunks.found (marked c.walk_trunks.new.seen) (marked c.walk_trunks.new.free) =
    c.in-Ok-walk_trunks.ensures.on told (lists_of pages taken) taken at
    in
    let all : IsDone (freelist_walk pages taken) taken c.in-Ok-walk_trunks.found (marked c.walk_trunks.new.seen) (marked c.walk_trunks.new.free) =
    freelist_done pages taken c.args.header.now.free_count c.in-Ok-walk_trunks.found (marked c.walk_trunks.new.seen) (marked c.walk_trunks.new.free) (c.requires.kept told) c.if-found-header.true done
    in
    record { sound = all.sound; leafs = all.leafs; count = all.count; marks = all.marks }

pub returns-else-found-header-clause-found : goal.returns-else-found-header-clause-found
returns-else-found-header-clause-found g c told =
    let pages : Pages = g.S.PageSource.plain c.args.source.now in
    let taken : Test = marked c.args.seen.now in
    let at : IsFreeWalkAt pages (lists_of pages taken) taken pages.count c.args.header.now.first_trunk 0 taken (marked c.in-Ok.leaves) =
    lists_at pages taken c.args.header.now.first_trunk (marked c.in-Ok.leaves) (c.requires.first told) c.in-Ok.ensures.none (sym (c.if-not-is_number.ensures.test pages (sym c.pages-count.ensures)))
    in
    let done : IsDone (lists_of pages taken) taken c.in-Ok-walk_trunks.found (marked c.walk_trunks.new.seen) (marked c.walk_trunks.new.free) =
    c.in-Ok-walk_trunks.ensures.on told (lists_of pages taken) taken at
    in
    freelist_miscounted pages taken c.args.header.now.free_count c.in-Ok-walk_trunks.found (marked c.walk_trunks.new.seen) (marked c.walk_trunks.new.free) (c.requires.kept told) c.if-found-header.false done
