use Rattle.std.proofs.Common.{rules, ◌≡◌, ℕ, [], ◌∷◌, ◌++◌, sym, subst, arith}
use Rattle.bulk_load.specs.Few.{TookFew}
use Rattle.bulk_load.specs.Loader.{family_of_loader}
use Rattle.bulk_load.proofs.FewLemmas.{few_late}
use Rattle.db_maker.specs.Parts.{entry_in, family_in}
use Rattle.db_maker.proofs.loading.push_row.Goals as goal

pub returns-in-Err-clause-few : goal.returns-in-Err-clause-few
returns-in-Err-clause-few g c from entries few =
    few_late (family_in c.args.part) (g.P.PageOut.pages c.args.out.now).usable from (g.P.PageOut.pages c.args.out.now).count entries (entry_in c.args.part c.args.i) c.args.loader.now
    (omega (arith, c.requires.ready.usable_is.least)) few

pub returns-clause-pushed : goal.returns-clause-pushed
returns-clause-pushed g c from entries few =
    let p = g.P.PageOut.pages in
    let usable : ℕ = (p c.args.out.now).usable in
    let old : ℕ = (p c.args.out.now).count in
    let same : family_of_loader c.args.loader.now ≡ family_in c.args.part = c.requires.family in
    let small : TookFew (family_of_loader c.args.loader.now) usable from entries old c.args.loader.now = subst (λ f. TookFew f usable from entries old c.args.loader.now) (sym same) few in
    subst (λ f. TookFew f usable from (entries ++ entry_in c.args.part c.args.i ∷ []) (p c.push.new.out).count c.push.new.self) same
    (subst (λ e. TookFew (family_of_loader c.args.loader.now) usable from (entries ++ e ∷ []) (p c.push.new.out).count c.push.new.self) (search rules) (c.in_ok-push.ensures.pushed from entries small))
