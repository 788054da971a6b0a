use Rattle.std.proofs.Common.{◌≡◌, ◌<◌, ◌+◌, ◌∷◌, ℕ, List, [], drop, length, refl, sym, ◌∙◌, ap, subst, arith}
use Rattle.std.specs.Prelude.{slice_index}
use Rattle.std.proofs.lemmas.List.{at_drop_more, drop_all}
use Rattle.page_cache.specs.Pages.{Page, HeldPages}
use Rattle.pager.specs.Changed.{AreListed}
use Rattle.pager.proofs.ChangedLemmas.{emptied, listed_without, listed_none}
use Rattle.pager.proofs.changed.release.Goals as goal

pub loop-k-init : goal.loop-k-init
loop-k-init c = record { left = c.requires; sizes = (refl, refl) }

pub loop-k-preserved : goal.loop-k-preserved
loop-k-preserved c =
    let numbers = c.args.numbers.now in
    let k = c.loop-k.k in
    let lt : k < length numbers = omega arith in
    let split : drop k numbers ≡ slice_index numbers k ∷ drop (k + 1) numbers = at_drop_more (λ (l : List ℕ). l) numbers k 0 lt in
    record {
      left = subst (λ (ps : List Page). AreListed (drop (k + 1) numbers) ps) (sym (ap (λ (p : HeldPages). p.held) c.discard.ensures.gone))
          (listed_without (slice_index numbers k) (drop (k + 1) numbers) c.loop-k.cache.held (subst (λ (ms : List ℕ). AreListed ms c.loop-k.cache.held) split c.loop-k.invariant.left));
      sizes = (ap (λ (p : HeldPages). p.frames) c.discard.ensures.gone ∙ c.loop-k.invariant.sizes.0, ap (λ (p : HeldPages). p.usable) c.discard.ensures.gone ∙ c.loop-k.invariant.sizes.1);
    }

pub returns : goal.returns
returns c =
    let numbers = c.args.numbers.now in
    let none : drop c.loop-k.k numbers ≡ [] = drop_all c.loop-k.k numbers (omega arith) in
    emptied c.loop-k.cache c.args.cache.now (listed_none c.loop-k.cache.held (subst (λ (ms : List ℕ). AreListed ms c.loop-k.cache.held) none c.loop-k.invariant.left)) c.loop-k.invariant.sizes.0 c.loop-k.invariant.sizes.1
