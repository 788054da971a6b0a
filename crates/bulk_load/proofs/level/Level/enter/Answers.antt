use Rattle.std.proofs.Common.{◌≡◌, ℕ, ◌≤◌, true, false, List, [], ◌∷◌, ◌++◌, length, None, ap, sym, subst, ◌∙◌, arith}
use Rattle.std.proofs.lemmas.List.{append_assoc}
use Rattle.btree_page.specs.Step.{Step, steps}
use Rattle.load_model.specs.Open.{at_height}
use Rattle.load_model.specs.Stands.{OpenPagesStand}
use Rattle.btree_page.specs.Kind.{family_of}
use Rattle.bulk_load.specs.declared.pair.Pair.{Pair}
use Rattle.bulk_load.specs.Settle.{on, cell_on, IsLevelSettled}
use Rattle.bulk_load.specs.Level.{AreNamed, ArePairs, waiting_steps}
use Rattle.bulk_load.specs.Own.{only}
use Rattle.bulk_load.proofs.LevelLemmas.{pairs_more, waiting_more, named_more, split, wait_list, next_is, IsNext}
use Rattle.bulk_load.proofs.level.Level.enter.Goals.{in-Ok, in-Err}
use Rattle.bulk_load.proofs.level.Level.enter.Goals as goal

pub returns-then-len-lt2-clause-entered : goal.returns-then-len-lt2-clause-entered
returns-then-len-lt2-clause-entered g c start well own covers todo s h front back last pushed hold pair st =
    let out = only own (g.P.PageOut.pages c.args.out.now) in
    let kind = c.args.self.now.page.kind in
    let before : List Pair = c.args.self.now.waiting.items in
    let n : ℕ = c.args.pair.child in
    elim c.match-push.branch [
      | in-Ok w ↦
          let items : c.push.new.self.items ≡ before ++ c.args.pair ∷ [] = w.in-Ok.ensures.items in
          rw w.result-is (
            todo ++ on kind n s,
            record {
              cells = hold.cells;
              between = hold.between ++ s ∷ [];
              has = hold.has;
              pairs = rw items (pairs_more before kind out.usable hold.between c.args.pair s hold.pairs pair);
              is =
                  rw items
                  (ap (λ l. l ++ on kind n s) hold.is ∙ append_assoc (steps hold.cells None) (waiting_steps kind before hold.between) (on kind n s)
                  ∙ ap (λ l. steps hold.cells None ++ l) (sym (waiting_more before kind out.usable hold.between c.args.pair s hold.pairs)));
            },
            subst (λ l. OpenPagesStand out (family_of kind) last l pushed) (wait_list todo (on kind n s) h front back) st,
          )
      | in-Err w ↦ rw w.result-is tt
    ]

pub returns-in-Ok-true-clause-ready : goal.returns-in-Ok-true-clause-ready
returns-in-Ok-true-clause-ready g c =
    let usable : ℕ = (g.P.PageOut.pages c.args.out.now).usable in
    let before : List Pair = c.args.self.now.waiting.items in
    let some : 1 ≤ length before = omega (arith, c.len.ensures, c.args.self.now.waiting.ok.0) in
    let items : before ≡ c.remove-first.result ∷ c.remove-first.new.self.items = split before c.remove-first.new.self.items c.remove-first.result some c.remove-first.ensures.value c.remove-first.ensures.items in
    let named : AreNamed usable (c.remove-first.result ∷ c.remove-first.new.self.items) = subst (λ l. AreNamed usable l) items c.requires.ready.named in
    record {
      size = c.in-Ok-true.ensures.shape.usable ∙ c.requires.ready.size;
      plain = c.in-Ok-true.ensures.shape.header ∙ c.requires.ready.plain;
      named = rw c.in-Ok-push.ensures.items (named_more usable c.remove-first.new.self.items c.args.pair named.1 c.requires.named);
    }

pub returns-in-Ok-false-clause-ready : goal.returns-in-Ok-false-clause-ready
returns-in-Ok-false-clause-ready g c =
    let usable : ℕ = (g.P.PageOut.pages c.args.out.now).usable in
    let before : List Pair = c.args.self.now.waiting.items in
    let some : 1 ≤ length before = omega (arith, c.len.ensures, c.args.self.now.waiting.ok.0) in
    let items : before ≡ c.remove-first.result ∷ c.remove-first.new.self.items = split before c.remove-first.new.self.items c.remove-first.result some c.remove-first.ensures.value c.remove-first.ensures.items in
    let named : AreNamed usable (c.remove-first.result ∷ c.remove-first.new.self.items) = subst (λ l. AreNamed usable l) items c.requires.ready.named in
    record {
      size = c.in-Ok-false.ensures.shape.usable ∙ c.requires.ready.size;
      plain = c.in-Ok-false.ensures.shape.header ∙ c.requires.ready.plain;
      named = rw c.in-Ok-push.ensures.items (named_more usable c.remove-first.new.self.items c.args.pair named.1 c.requires.named);
    }

pub returns-in-Ok-true-clause-entered : goal.returns-in-Ok-true-clause-entered
returns-in-Ok-true-clause-entered g c start well own covers todo s h front back last pushed hold pair st =
    let old = only own (g.P.PageOut.pages c.args.out.now) in
    let new = only own (g.P.PageOut.pages c.settle.new.out) in
    let kind = c.args.self.now.page.kind in
    let before : List Pair = c.args.self.now.waiting.items in
    let first : Pair = c.remove-first.result in
    let rest : List Pair = c.remove-first.new.self.items in
    let n : ℕ = c.args.pair.child in
    let some : 1 ≤ length before = omega (arith, c.len.ensures, c.args.self.now.waiting.ok.0) in
    let items : before ++ c.args.pair ∷ [] ≡ first ∷ (rest ++ c.args.pair ∷ []) = ap (λ l. l ++ c.args.pair ∷ []) (split before rest first some c.remove-first.ensures.value c.remove-first.ensures.items) in
    let next : IsNext new c.settle.new.page c.settle.new.pair (rest ++ c.args.pair ∷ []) old.usable kind h front back last pushed true =
    subst (λ b. IsNext new c.settle.new.page c.settle.new.pair (rest ++ c.args.pair ∷ []) old.usable kind h front back last pushed b) c.in-Ok-true.field-0-test
    (next_is old new c.args.self.now.page c.settle.new.page (before ++ c.args.pair ∷ []) (rest ++ c.args.pair ∷ []) first c.settle.new.pair c.in-Ok-true.field-0 hold.cells (hold.between ++ s ∷ []) (todo ++ on kind n s) h front back last pushed
    (c.in-Ok-true.ensures.settled start well own covers) items hold.has (pairs_more before kind old.usable hold.between c.args.pair s hold.pairs pair)
    (ap (λ l. l ++ on kind n s) hold.is ∙ append_assoc (steps hold.cells None) (waiting_steps kind before hold.between) (on kind n s)
    ∙ ap (λ l. steps hold.cells None ++ l) (sym (waiting_more before kind old.usable hold.between c.args.pair s hold.pairs)))
    (subst (λ l. OpenPagesStand old (family_of kind) last l pushed) (wait_list todo (on kind n s) h front back) st))
    in
    let waits : List Step = waiting_steps kind (rest ++ c.args.pair ∷ []) next.between in
    let pairs : ArePairs c.push-2.new.self.items c.settle.new.page.kind old.usable next.between =
    subst (λ l. ArePairs l c.settle.new.page.kind old.usable next.between) (sym c.in-Ok-push.ensures.items)
    (subst (λ k. ArePairs (rest ++ c.args.pair ∷ []) k old.usable next.between) (sym c.in-Ok-true.ensures.shape.kind) next.pairs)
    in
    let same : waits ≡ waiting_steps c.settle.new.page.kind c.push-2.new.self.items next.between =
    ap (λ k. waiting_steps k (rest ++ c.args.pair ∷ []) next.between) (sym c.in-Ok-true.ensures.shape.kind)
    ∙ ap (λ l. waiting_steps c.settle.new.page.kind l next.between) (sym c.in-Ok-push.ensures.items)
    in
    let settled : IsLevelSettled new c.settle.new.page c.settle.new.pair old.usable kind next.n next.cells next.s h front (at_height h waits ++ back) last pushed true = next.is in (
      waits,
      next.s,
      record { cells = []; between = next.between; has = settled.0; pairs = pairs; is = same },
      settled.1,
      settled.2,
    )

pub returns-in-Ok-false-clause-entered : goal.returns-in-Ok-false-clause-entered
returns-in-Ok-false-clause-entered g c start well own covers todo s h front back last pushed hold pair st =
    let old = only own (g.P.PageOut.pages c.args.out.now) in
    let new = only own (g.P.PageOut.pages c.settle.new.out) in
    let kind = c.args.self.now.page.kind in
    let before : List Pair = c.args.self.now.waiting.items in
    let first : Pair = c.remove-first.result in
    let rest : List Pair = c.remove-first.new.self.items in
    let n : ℕ = c.args.pair.child in
    let some : 1 ≤ length before = omega (arith, c.len.ensures, c.args.self.now.waiting.ok.0) in
    let items : before ++ c.args.pair ∷ [] ≡ first ∷ (rest ++ c.args.pair ∷ []) = ap (λ l. l ++ c.args.pair ∷ []) (split before rest first some c.remove-first.ensures.value c.remove-first.ensures.items) in
    let next : IsNext new c.settle.new.page c.settle.new.pair (rest ++ c.args.pair ∷ []) old.usable kind h front back last pushed false =
    subst (λ b. IsNext new c.settle.new.page c.settle.new.pair (rest ++ c.args.pair ∷ []) old.usable kind h front back last pushed b) c.in-Ok-false.field-0-test
    (next_is old new c.args.self.now.page c.settle.new.page (before ++ c.args.pair ∷ []) (rest ++ c.args.pair ∷ []) first c.settle.new.pair c.in-Ok-false.field-0 hold.cells (hold.between ++ s ∷ []) (todo ++ on kind n s) h front back last pushed
    (c.in-Ok-false.ensures.settled start well own covers) items hold.has (pairs_more before kind old.usable hold.between c.args.pair s hold.pairs pair)
    (ap (λ l. l ++ on kind n s) hold.is ∙ append_assoc (steps hold.cells None) (waiting_steps kind before hold.between) (on kind n s)
    ∙ ap (λ l. steps hold.cells None ++ l) (sym (waiting_more before kind old.usable hold.between c.args.pair s hold.pairs)))
    (subst (λ l. OpenPagesStand old (family_of kind) last l pushed) (wait_list todo (on kind n s) h front back) st))
    in
    let waits : List Step = waiting_steps kind (rest ++ c.args.pair ∷ []) next.between in
    let pairs : ArePairs c.push-2.new.self.items c.settle.new.page.kind old.usable next.between =
    subst (λ l. ArePairs l c.settle.new.page.kind old.usable next.between) (sym c.in-Ok-push.ensures.items)
    (subst (λ k. ArePairs (rest ++ c.args.pair ∷ []) k old.usable next.between) (sym c.in-Ok-false.ensures.shape.kind) next.pairs)
    in
    let same : waits ≡ waiting_steps c.settle.new.page.kind c.push-2.new.self.items next.between =
    ap (λ k. waiting_steps k (rest ++ c.args.pair ∷ []) next.between) (sym c.in-Ok-false.ensures.shape.kind)
    ∙ ap (λ l. waiting_steps c.settle.new.page.kind l next.between) (sym c.in-Ok-push.ensures.items)
    in
    let settled : IsLevelSettled new c.settle.new.page c.settle.new.pair old.usable kind next.n next.cells next.s h front (at_height h waits ++ back) last pushed false = next.is in
    let begun : List Step = steps (next.cells ++ cell_on kind next.n next.s ∷ []) None in (
      begun ++ waits,
      record { cells = next.cells ++ cell_on kind next.n next.s ∷ []; between = next.between; has = settled.0; pairs = pairs; is = ap (λ l. begun ++ l) same },
      subst (λ l. OpenPagesStand new (family_of kind) last l pushed) (wait_list begun waits h front back) settled.1,
    )
