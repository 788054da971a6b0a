use Rattle.std.proofs.Common.{◌≡◌, ◌∙◌, ◌*◌, ◌≤◌, ℕ, List, length, true, Bool, arith, rules, ap, subst, sym, IsTrue}
use Rattle.std.specs.Prelude.{◌&&◌, []}
use Rattle.std.specs.Prelude.{if◌then◌else◌}
use Rattle.page_codec.specs.Page.{accepts, opened}
use Rattle.pager.specs.File.{page_stored}
use Rattle.pager.specs.Pages.{is_page_number}
use Rattle.pager.specs.Held.{AreOpened}
use Rattle.pager.proofs.Filling.{held_opened}
use Rattle.pager.proofs.UnderWayLemmas.{laid_whole}
use Rattle.pager.proofs.pager.Pager.bring_in.Goals as goal
use Rattle.edge_model.specs.Files.{Files, main_of}
use Rattle.pager.specs.Ahead.{IsAhead}

pub returns-in-Ok-clause-told : goal.returns-in-Ok-clause-told
returns-in-Ok-clause-told g c = λ told.
    let keys = c.args.self.now.codec in
    let n = c.args.n in
    let main = main_of (g.D.Disk.reads c.args.self.now.disk.now) in
    let number : is_page_number c.args.self.now.count n ≡ true = search rules in
    (held_opened keys main n c.fill_page.new.cache.held c.in-Ok.ensures.held (c.fill_page.ensures.opened told)).1
    ∙ sym (ap (λ (b : Bool). if b then opened keys n (page_stored keys main n) else []) number)

pub returns-in-Ok-clause-accepted : goal.returns-in-Ok-clause-accepted
returns-in-Ok-clause-accepted g c = λ told.
    let keys = c.args.self.now.codec in
    let n = c.args.n in
    let main = main_of (g.D.Disk.reads c.args.self.now.disk.now) in
    let number : is_page_number c.args.self.now.count n ≡ true = search rules in
    ap (λ (b : Bool). b && accepts keys n (page_stored keys main n)) number
    ∙ (held_opened keys main n c.fill_page.new.cache.held c.in-Ok.ensures.held (c.fill_page.ensures.opened told)).0

pub invariant_of-self : goal.invariant_of-self
invariant_of-self g c =
    let s = c.args.self.now in
    let same = λ (told : IsTrue g.D.Disk.tells). sym (c.fill_page.ensures.only_read told).stays in
    let long : length c.fill_page.new.pages ≡ s.ahead.len = search (rules, arith, c.fill_page.auto, c.fill_page.ensures.room, c.deref_mut.ensures) in
    record {
      whole = λ told. subst (λ (f : Files). s.count * s.codec.profile.page_size ≤ length (main_of f)) (same told) (s.whole told);
      limits = s.limits;
      some = s.some;
      largest = s.largest;
      fits = c.fill_page.ensures.frames.0 ∙ s.fits;
      lendable = s.lendable;
      opened = λ told. subst (λ (f : Files). AreOpened s.codec (main_of f) c.fill_page.new.cache.held) (same told) (c.fill_page.ensures.opened told);
      before = λ told.
          subst (λ (l : List ℕ). IsAhead s.codec (main_of (g.D.Disk.reads c.fill_page.new.disk)) c.fill_page.new.window l)
          (sym (laid_whole s.ahead.len c.fill_page.new.pages s.ahead.items long))
          (subst (λ (f : Files). IsAhead s.codec (main_of f) c.fill_page.new.window c.fill_page.new.pages) (same told) (c.fill_page.ensures.ahead told));
    }

pub invariant_of-self-in-Err-1 : goal.invariant_of-self-in-Err-1
invariant_of-self-in-Err-1 g c =
    let s = c.args.self.now in
    let same = λ (told : IsTrue g.D.Disk.tells). sym (c.fill_page.ensures.only_read told).stays in
    let long : length c.fill_page.new.pages ≡ s.ahead.len = search (rules, arith, c.fill_page.auto, c.fill_page.ensures.room, c.deref_mut.ensures) in
    record {
      whole = λ told. subst (λ (f : Files). s.count * s.codec.profile.page_size ≤ length (main_of f)) (same told) (s.whole told);
      limits = s.limits;
      some = s.some;
      largest = s.largest;
      fits = c.fill_page.ensures.frames.0 ∙ s.fits;
      lendable = s.lendable;
      opened = λ told. subst (λ (f : Files). AreOpened s.codec (main_of f) c.fill_page.new.cache.held) (same told) (c.fill_page.ensures.opened told);
      before = λ told.
          subst (λ (l : List ℕ). IsAhead s.codec (main_of (g.D.Disk.reads c.fill_page.new.disk)) c.fill_page.new.window l)
          (sym (laid_whole s.ahead.len c.fill_page.new.pages s.ahead.items long))
          (subst (λ (f : Files). IsAhead s.codec (main_of f) c.fill_page.new.window c.fill_page.new.pages) (same told) (c.fill_page.ensures.ahead told));
    }
