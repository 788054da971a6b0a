use Rattle.std.proofs.Common.{rules, ◌≡◌, ℕ, sym, subst, ◌∷◌, [], ◌++◌, Some}
use Rattle.btree_model.specs.Content.{Entry}
use Rattle.btree_page.specs.declared.kind.Family.TheVariants.{Table}
use Rattle.bulk_load.specs.Few.{TookFew}
use Rattle.bulk_load.specs.Loader.{family_of_loader}
use Rattle.db_maker.proofs.schema.push.Goals as goal

pub returns-clause-pushed : goal.returns-clause-pushed
returns-clause-pushed g c from entries few =
    let p = g.P.PageOut.pages in
    let usable : ℕ = (p c.args.out.now).usable in
    let old : ℕ = (p c.args.out.now).count in
    let same : family_of_loader c.args.loader.now ≡ Table = c.requires.family in
    let small : TookFew (family_of_loader c.args.loader.now) usable from entries old c.args.loader.now = subst (λ f. TookFew f usable from entries old c.args.loader.now) (sym same) few in
    let entry : Entry = record { rowid = Some c.args.rowid; payload = c.args.row.now } in
    subst (λ f. TookFew f usable from (entries ++ entry ∷ []) (p c.push.new.out).count c.push.new.self) same
    (subst (λ e. TookFew (family_of_loader c.args.loader.now) usable from (entries ++ e ∷ []) (p c.push.new.out).count c.push.new.self) (search rules) (c.in_ok-push.ensures.pushed from entries small))
