use Rattle.std.proofs.Common.{ℤ, rules, ◌≡◌, ◌≤◌, ◌+◌, ℕ, [], ◌∷◌, ◌++◌, Some, None, OnErr, OnOk, ap, sym, subst, ◌∙◌, arith}
use Rattle.std.specs.Int.{w64, cast_signed, cast_unsigned}
use Rattle.std.proofs.lemmas.Int.{to_z-of_z}
use Rattle.btree_page.specs.Kind.{family_of}
use Rattle.btree_page.specs.declared.kind.Family.TheVariants.{Index, Table}
use Rattle.btree_page.specs.declared.kind.Kind.TheVariants.{IndexLeaf, TableLeaf}
use Rattle.bulk_load.specs.Few.{TookFew, load_pages}
use Rattle.bulk_load.specs.Loader.{family_of_loader}
use Rattle.bulk_load.proofs.DepthLemmas.{shallow_ok}
use Rattle.bulk_load.proofs.FewLemmas.{few_err, few_late, took_ok}
use Rattle.bulk_load.proofs.loader.Loader.push.Goals as goal

pub returns-then-is_at_most-clause-few : goal.returns-then-is_at_most-clause-few
returns-then-is_at_most-clause-few g c from entries few =
    few_late (family_of_loader c.args.self.now) (g.P.PageOut.pages c.args.out.now).usable from (g.P.PageOut.pages c.args.out.now).count entries _ c.args.self.now
    (omega (arith, c.requires.ready.usable_is.least)) few

pub returns-in-None-clause-pushed : goal.returns-in-None-clause-pushed
returns-in-None-clause-pushed g c from entries few =
    let p = g.P.PageOut.pages in
    let usable : ℕ = (p c.args.out.now).usable in
    let kind : c.args.self.now.leaf.page.kind ≡ IndexLeaf = search rules in
    let family : family_of_loader c.args.self.now ≡ Index = ap family_of kind in
    let small : TookFew Index usable from entries (p c.args.out.now).count c.args.self.now = subst (λ f. TookFew f usable from entries (p c.args.out.now).count c.args.self.now) family few in
    subst (λ f. OnOk c.push_entry.result (TookFew f usable from (entries ++ record { rowid = c.args.rowid; payload = c.args.payload.now } ∷ []) (p c.push_entry.new.out).count c.push_entry.new.self)) (sym family)
    (subst (λ r. OnOk c.push_entry.result (TookFew Index usable from (entries ++ record { rowid = r; payload = c.args.payload.now } ∷ []) (p c.push_entry.new.out).count c.push_entry.new.self)) (sym c.in-None.is)
    (took_ok Index usable entries (record { rowid = None; payload = c.args.payload.now }) from (p c.args.out.now).count (p c.push_entry.new.out).count c.args.self.now small
    c.push_entry.result c.push_entry.new.self
    (shallow_ok c.push_entry.result usable from (p c.args.out.now).count (p c.push_entry.new.out).count c.args.self.now c.push_entry.new.self small.shallow
    (c.push_entry.ensures.back small.shallow.back) (c.push_entry.ensures.short small.shallow.short) (c.push_entry.ensures.deep small.shallow.short))
    c.push_entry.ensures.count c.push_entry.ensures.paid))

pub returns-in-None-clause-few : goal.returns-in-None-clause-few
returns-in-None-clause-few g c from entries few =
    let p = g.P.PageOut.pages in
    let usable : ℕ = (p c.args.out.now).usable in
    let kind : c.args.self.now.leaf.page.kind ≡ IndexLeaf = search rules in
    let family : family_of_loader c.args.self.now ≡ Index = ap family_of kind in
    let small : TookFew Index usable from entries (p c.args.out.now).count c.args.self.now = subst (λ f. TookFew f usable from entries (p c.args.out.now).count c.args.self.now) family few in
    subst (λ f. OnErr c.push_entry.result ((p c.push_entry.new.out).count + 1 ≤ from + load_pages f usable (entries ++ record { rowid = c.args.rowid; payload = c.args.payload.now } ∷ []))) (sym family)
    (subst (λ r. OnErr c.push_entry.result ((p c.push_entry.new.out).count + 1 ≤ from + load_pages Index usable (entries ++ record { rowid = r; payload = c.args.payload.now } ∷ []))) (sym c.in-None.is)
    (few_err c.push_entry.result Index usable from (p c.args.out.now).count (p c.push_entry.new.out).count entries (record { rowid = None; payload = c.args.payload.now }) c.args.self.now 2
    (omega (arith, c.requires.ready.usable_is.least)) (omega arith) small c.push_entry.ensures.refused c.push_entry.ensures.spent))

pub returns-else-is_at_most-clause-pushed : goal.returns-else-is_at_most-clause-pushed
returns-else-is_at_most-clause-pushed g c from entries few =
    let p = g.P.PageOut.pages in
    let usable : ℕ = (p c.args.out.now).usable in
    let rowid : ℤ = cast_signed w64 (cast_unsigned w64 c.in-Some.rowid) in
    let same : Some rowid ≡ c.args.rowid = ap Some (to_z-of_z w64 c.in-Some.rowid (search rules)) ∙ sym c.in-Some.is in
    let kind : c.args.self.now.leaf.page.kind ≡ TableLeaf = search rules in
    let family : family_of_loader c.args.self.now ≡ Table = ap family_of kind in
    let small : TookFew Table usable from entries (p c.args.out.now).count c.args.self.now = subst (λ f. TookFew f usable from entries (p c.args.out.now).count c.args.self.now) family few in
    subst (λ f. OnOk c.push_row.result (TookFew f usable from (entries ++ record { rowid = c.args.rowid; payload = c.args.payload.now } ∷ []) (p c.push_row.new.out).count c.push_row.new.self)) (sym family)
    (subst (λ r. OnOk c.push_row.result (TookFew Table usable from (entries ++ record { rowid = r; payload = c.args.payload.now } ∷ []) (p c.push_row.new.out).count c.push_row.new.self)) same
    (took_ok Table usable entries (record { rowid = Some rowid; payload = c.args.payload.now }) from (p c.args.out.now).count (p c.push_row.new.out).count c.args.self.now small
    c.push_row.result c.push_row.new.self
    (shallow_ok c.push_row.result usable from (p c.args.out.now).count (p c.push_row.new.out).count c.args.self.now c.push_row.new.self small.shallow
    (c.push_row.ensures.back small.shallow.back) (c.push_row.ensures.short small.shallow.short) (c.push_row.ensures.deep small.shallow.short))
    c.push_row.ensures.count c.push_row.ensures.paid))

pub returns-else-is_at_most-clause-few : goal.returns-else-is_at_most-clause-few
returns-else-is_at_most-clause-few g c from entries few =
    let p = g.P.PageOut.pages in
    let usable : ℕ = (p c.args.out.now).usable in
    let rowid : ℤ = cast_signed w64 (cast_unsigned w64 c.in-Some.rowid) in
    let same : Some rowid ≡ c.args.rowid = ap Some (to_z-of_z w64 c.in-Some.rowid (search rules)) ∙ sym c.in-Some.is in
    let kind : c.args.self.now.leaf.page.kind ≡ TableLeaf = search rules in
    let family : family_of_loader c.args.self.now ≡ Table = ap family_of kind in
    let small : TookFew Table usable from entries (p c.args.out.now).count c.args.self.now = subst (λ f. TookFew f usable from entries (p c.args.out.now).count c.args.self.now) family few in
    subst (λ f. OnErr c.push_row.result ((p c.push_row.new.out).count + 1 ≤ from + load_pages f usable (entries ++ record { rowid = c.args.rowid; payload = c.args.payload.now } ∷ []))) (sym family)
    (subst (λ r. OnErr c.push_row.result ((p c.push_row.new.out).count + 1 ≤ from + load_pages Table usable (entries ++ record { rowid = r; payload = c.args.payload.now } ∷ []))) same
    (few_err c.push_row.result Table usable from (p c.args.out.now).count (p c.push_row.new.out).count entries (record { rowid = Some rowid; payload = c.args.payload.now }) c.args.self.now 1
    (omega (arith, c.requires.ready.usable_is.least)) (omega arith) small c.push_row.ensures.refused c.push_row.ensures.spent))

pub returns-in-None-clause-shallow : goal.returns-in-None-clause-shallow
returns-in-None-clause-shallow g c from shallow =
    let p = g.P.PageOut.pages in
    shallow_ok c.push_entry.result (p c.args.out.now).usable from (p c.args.out.now).count (p c.push_entry.new.out).count c.args.self.now c.push_entry.new.self shallow
    (c.push_entry.ensures.back shallow.back) (c.push_entry.ensures.short shallow.short) (c.push_entry.ensures.deep shallow.short)

pub returns-else-is_at_most-clause-shallow : goal.returns-else-is_at_most-clause-shallow
returns-else-is_at_most-clause-shallow g c from shallow =
    let p = g.P.PageOut.pages in
    shallow_ok c.push_row.result (p c.args.out.now).usable from (p c.args.out.now).count (p c.push_row.new.out).count c.args.self.now c.push_row.new.self shallow
    (c.push_row.ensures.back shallow.back) (c.push_row.ensures.short shallow.short) (c.push_row.ensures.deep shallow.short)
