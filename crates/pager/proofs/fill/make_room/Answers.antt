use Rattle.std.proofs.Common.{◌≡◌, ◌∙◌, sym, ap, refl, inl, inr, length, Some, is_some}
use Rattle.page_cache.specs.Pages.{without, last_unpinned}
use Rattle.page_cache.proofs.CallerLemmas.{absent_without, not_held}
use Rattle.pager.proofs.Filling.{on_err, on_ok, never_full}
use Rattle.pager.proofs.fill.make_room.Goals as goal

pub hold-requires-2 : goal.hold-requires-2
hold-requires-2 c =
    rw c.discard.ensures.gone (rw (on_err c.hold.result (sym c.if-is_ok.ensures.value) c.hold.ensures.kept)
    (ap is_some (absent_without c.args.n c.in-Some.victim c.args.cache.now.held (not_held c.args.n c.args.cache.now.held c.requires))))

pub returns-then-is_ok-clause-room : goal.returns-then-is_ok-clause-room
returns-then-is_ok-clause-room c = record {
  rest = c.args.cache.now.held;
  placed = on_ok c.hold.result (sym c.if-is_ok.ensures.value) c.hold.ensures.placed;
  others = inl refl;
  absent = not_held c.args.n c.args.cache.now.held c.requires;
}

pub returns-in-Ok-clause-room : goal.returns-in-Ok-clause-room
returns-in-Ok-clause-room c =
    let kept = on_err c.hold.result (sym c.if-is_ok.ensures.value) c.hold.ensures.kept in
    let last : last_unpinned c.hold.new.self.held ≡ Some c.in-Some.victim = sym c.victim.ensures ∙ c.in-Some.is in
    record {
      rest = without c.in-Some.victim c.args.cache.now.held;
      placed = rw c.in-Ok.ensures.placed (rw c.discard.ensures.gone (rw kept refl));
      others = inr (c.in-Some.victim, sym (ap (λ p. last_unpinned p.held) kept) ∙ last, refl);
      absent = absent_without c.args.n c.in-Some.victim c.args.cache.now.held (not_held c.args.n c.args.cache.now.held c.requires);
    }

pub returns-in-Err-clause-pinned : goal.returns-in-Err-clause-pinned
returns-in-Err-clause-pinned c =
    let kept = on_err c.hold.result (sym c.if-is_ok.ensures.value) c.hold.ensures.kept in
    let last : last_unpinned c.hold.new.self.held ≡ Some c.in-Some.victim = sym c.victim.ensures ∙ c.in-Some.is in
    let full = on_err c.hold.result (sym c.if-is_ok.ensures.value) c.hold.ensures.full in
    absurd (never_full c.hold.new.self c.discard.new.self c.in-Some.victim c.discard.ensures.gone last
    (ap (λ p. length p.held) kept ∙ full ∙ sym (ap (λ p. p.frames) kept)) c.in-Err.ensures.full)

pub returns-in-Err-clause-kept : goal.returns-in-Err-clause-kept
returns-in-Err-clause-kept c =
    let kept = on_err c.hold.result (sym c.if-is_ok.ensures.value) c.hold.ensures.kept in
    let last : last_unpinned c.hold.new.self.held ≡ Some c.in-Some.victim = sym c.victim.ensures ∙ c.in-Some.is in
    let full = on_err c.hold.result (sym c.if-is_ok.ensures.value) c.hold.ensures.full in
    absurd (never_full c.hold.new.self c.discard.new.self c.in-Some.victim c.discard.ensures.gone last
    (ap (λ p. length p.held) kept ∙ full ∙ sym (ap (λ p. p.frames) kept)) c.in-Err.ensures.full)
