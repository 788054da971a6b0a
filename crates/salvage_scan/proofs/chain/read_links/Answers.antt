use Rattle.std.proofs.Common.{◌≡◌, ◌≤◌, ◌+◌, ◌-◌, ℕ, suc, zero, List, drop, ◌++◌, take, arith, refl, ap, sym, subst, ◌∙◌}
use Rattle.db_format.specs.Bytes.{u32_at}
use Rattle.db_format.specs.Pages.{Pages}
use Rattle.btree_walk.proofs.ChainLemmas.{cut_all}
use Rattle.cipher_profile.specs.declared.profile.Profile.{Profile}
use Rattle.cipher_profile.specs.Profile.{usable}
use Rattle.edge_model.specs.Files.{Files}
use Rattle.pager.specs.Reads.{not_read, then_read}
use Rattle.salvage_scan.specs.Chain.{IsOnPayloadChain}
use Rattle.salvage_scan.specs.Room.{room_bytes}
use Rattle.salvage_scan.specs.Salvage.{file_pages}
use Rattle.salvage_scan.proofs.ChainSteps.{chain_done, chain_next, chain_out, chain_refused, chain_start}
use Rattle.salvage_scan.proofs.chain.read_links.Goals as goal

-- the same with another count of pages that are left
counted_as : (pages : Pages) (needed first n : ℕ) (local got : List ℕ) {more left : ℕ} → more ≡ left
    → IsOnPayloadChain pages needed first more n local got → IsOnPayloadChain pages needed first left n local got
counted_as pages needed first n local got is at = subst (λ k. IsOnPayloadChain pages needed first k n local got) is at

pub loop-turn-init : goal.loop-turn-init
loop-turn-init g c =
    record {
      rooms = c.requires.rooms;
      later = omega arith;
      only_read = λ told. not_read c.args.disk.now;
      on = λ told.
          let e : c.args.needed - 0 ≡ c.args.needed = omega arith in
          rw e (chain_start (file_pages c.args.codec.now (g.D.Disk.reads c.args.disk.now)) c.args.needed c.args.first c.args.payload.now.items);
    }

pub returns-then-not-is_in_range-clause-on : goal.returns-then-not-is_in_range-clause-on
returns-then-not-is_in_range-clause-on g c told =
    let pages : Pages = file_pages c.args.codec.now (g.D.Disk.reads c.args.disk.now) in
    let less = c.loop-turn-test.true in
    let more : c.args.needed - c.loop-turn.turn ≡ suc (c.args.needed - (c.loop-turn.turn + 1)) = omega arith in
    chain_out pages c.args.needed c.args.first c.args.payload.now.items (c.args.needed - (c.loop-turn.turn + 1)) c.loop-turn.n c.loop-turn.payload.items
    (counted_as pages _ _ _ _ _ more (c.loop-turn.invariant.on told))
    (sym (c.if-not-is_in_range.ensures.value pages (sym (c.requires.pages told))))

pub open-requires-clause-high : goal.open-requires-clause-high
open-requires-clause-high g c told =
    let same : g.D.Disk.reads c.loop-turn.disk ≡ g.D.Disk.reads c.args.disk.now = (c.loop-turn.invariant.only_read told).stays in
    let all = c.requires.pages told in
    let high = c.if-not-is_in_range.ensures.high refl in
    subst (λ (files : Files). c.loop-turn.n ≤ (file_pages c.args.codec.now files).count) (sym same) (omega (arith, all, high))

pub returns-in-Ok-false-clause-on : goal.returns-in-Ok-false-clause-on
returns-in-Ok-false-clause-on g c told =
    let pages : Pages = file_pages c.args.codec.now (g.D.Disk.reads c.args.disk.now) in
    let same : g.D.Disk.reads c.loop-turn.disk ≡ g.D.Disk.reads c.args.disk.now = (c.loop-turn.invariant.only_read told).stays in
    let less = c.loop-turn-test.true in
    let more : c.args.needed - c.loop-turn.turn ≡ suc (c.args.needed - (c.loop-turn.turn + 1)) = omega arith in
    chain_refused pages c.args.needed c.args.first c.args.payload.now.items (c.args.needed - (c.loop-turn.turn + 1)) c.loop-turn.n c.loop-turn.payload.items
    (counted_as pages _ _ _ _ _ more (c.loop-turn.invariant.on told))
    (sym (c.if-not-is_in_range.ensures.value pages (sym (c.requires.pages told))))
    (ap (λ (files : Files). (file_pages c.args.codec.now files).accepts c.loop-turn.n) (sym same) ∙ sym (c.in-Ok-false.ensures.accepted told) ∙ c.in-Ok-false.field-0-test)

pub loop-turn-preserved : goal.loop-turn-preserved
loop-turn-preserved g c =
    record {
      rooms = c.in-Ok-true.ensures.rooms;
      later = let before = c.loop-turn.invariant.later in let more = c.in-Ok-true.ensures.cause.later in omega (arith, before, more);
      only_read = λ told. then_read (c.loop-turn.invariant.only_read told) (c.in-Ok-true.ensures.only_read told);
      on = λ told.
          let pages : Pages = file_pages c.args.codec.now (g.D.Disk.reads c.args.disk.now) in
          let same : g.D.Disk.reads c.loop-turn.disk ≡ g.D.Disk.reads c.args.disk.now = (c.loop-turn.invariant.only_read told).stays in
          let less = c.loop-turn-test.true in
          let more : c.args.needed - c.loop-turn.turn ≡ suc (c.args.needed - (c.loop-turn.turn + 1)) = omega arith in
          let body : c.plain-bytes.result.now ≡ pages.page c.loop-turn.n =
          c.plain-bytes.ensures.bytes ∙ ap (λ k. take k (room_bytes c.open.new.self c.loop-turn.n)) (c.usable-usable.ensures.value ∙ ap (λ (p : Profile). usable p) c.profile.ensures.value)
          ∙ c.in-Ok-true.ensures.opened told c.in-Ok-true.field-0-test ∙ ap (λ (files : Files). (file_pages c.args.codec.now files).page c.loop-turn.n) same in
          let next : c.u32_at-n.result ≡ u32_at (pages.page c.loop-turn.n) 0 = c.u32_at-n.ensures ∙ ap (λ l. u32_at l 0) body in
          let grown : c.extend_from_slice.new.self.items ≡ c.loop-turn.payload.items ++ drop 4 (pages.page c.loop-turn.n) =
          c.in-Ok.ensures.items ∙ ap (λ l. c.loop-turn.payload.items ++ l) (cut_all 4 c.plain-bytes.result.now)
          ∙ ap (λ l. c.loop-turn.payload.items ++ drop 4 l) body in
          rw (next, grown)
          (chain_next pages c.args.needed c.args.first c.args.payload.now.items (c.args.needed - (c.loop-turn.turn + 1)) c.loop-turn.n c.loop-turn.payload.items
          (counted_as pages _ _ _ _ _ more (c.loop-turn.invariant.on told))
          (sym (c.if-not-is_in_range.ensures.value pages (sym (c.requires.pages told))))
          (ap (λ (files : Files). (file_pages c.args.codec.now files).accepts c.loop-turn.n) (sym same) ∙ sym (c.in-Ok-true.ensures.accepted told) ∙ c.in-Ok-true.field-0-test));
    }

pub returns-clause-on : goal.returns-clause-on
returns-clause-on g c told =
    let pages : Pages = file_pages c.args.codec.now (g.D.Disk.reads c.args.disk.now) in
    let none : c.args.needed - c.loop-turn.turn ≡ zero = omega arith in
    chain_done pages c.args.needed c.args.first c.args.payload.now.items c.loop-turn.n c.loop-turn.payload.items
    (counted_as pages _ _ _ _ _ none (c.loop-turn.invariant.on told))

pub returns-in-Err-clause-only_read : goal.returns-in-Err-clause-only_read
returns-in-Err-clause-only_read g c told = then_read (c.loop-turn.invariant.only_read told) (c.in-Err.ensures.only_read told)

pub returns-in-Ok-false-clause-only_read : goal.returns-in-Ok-false-clause-only_read
returns-in-Ok-false-clause-only_read g c told = then_read (c.loop-turn.invariant.only_read told) (c.in-Ok-false.ensures.only_read told)

pub returns-in-Err-extend_from_slice-clause-only_read : goal.returns-in-Err-extend_from_slice-clause-only_read
returns-in-Err-extend_from_slice-clause-only_read g c told = then_read (c.loop-turn.invariant.only_read told) (c.in-Ok-true.ensures.only_read told)
