use Rattle.std.proofs.Common.{◌≡◌, ◌≤◌, ◌+◌, ◌^◌, ℕ, true, false, List, [], Err, IfErr, IsErrAnd, ap, sym, subst, ◌∙◌, arith, rules}
use Rattle.bulk_load.specs.Depth.{IsShallow}
use Rattle.bulk_load.specs.declared.error.LoadError.TheVariants.{TooDeep}
use Rattle.btree_model.specs.Content.{Entry}
use Rattle.btree_page.specs.declared.kind.Family.{Family}
use Rattle.bulk_load.specs.Few.{TookFew, load_pages}
use Rattle.bulk_load.specs.Loader.{family_of_loader}
use Rattle.bulk_load.specs.Out.{Follows, KeepsPages, is_load_refusal}
use Rattle.bulk_load.proofs.FewLemmas.{asked_all, asked_as}
use Rattle.db_maker.proofs.SchemaLaws.{err_to, schema_few, took_at}
use Rattle.btree_page.specs.declared.kind.Family.TheVariants.{Table}
use Rattle.bulk_load.specs.Own.{Covers, only}
use Rattle.bulk_load.proofs.PutLemmas.{covers_before, covers_behind, follows_all, keeps_after, still_free}
use Rattle.bulk_load.specs.Found.{HasTree}
use Rattle.bulk_load.specs.declared.error.LoadError.{LoadError}
use Rattle.db_maker.specs.Pages.{schema_pages}
use Rattle.db_maker.specs.Parts.{schema_entries}
use Rattle.db_maker.proofs.schema.load_schema.Goals as goal

pub returns-clause-tree : goal.returns-clause-tree
returns-clause-tree g c start well own covers =
    let p = g.P.PageOut.pages in
    let listed = schema_entries c.args.items c.args.names c.args.codes in
    let pushed = c.in_ok-push_schema.ensures in
    let at_one : c.push_schema.new.loader.at_one ≡ true = pushed.at_one ∙ c.in_ok-loader.ensures.at_one in
    let first : Covers false own (p c.args.out.now) (p c.push_schema.new.out) =
    covers_before true own _ _ (p c.finish.new.out) c.in_ok-finish.ensures.keeps.count covers.covers in
    let last : Covers true own (p c.push_schema.new.out) (p c.finish.new.out) = covers_behind true own (p c.args.out.now) _ _ pushed.keeps.count covers.covers in
    subst (λ root. HasTree (only own (p c.finish.new.out)) Table root listed) (c.in_ok-finish.ensures.one at_one)
    (subst (λ family. HasTree (only own (p c.finish.new.out)) family c.in_ok-finish.field-0 listed) pushed.family
    (c.in_ok-finish.ensures.tree start (pushed.follows.told start well) own
    (subst (λ first. Covers first own (p c.push_schema.new.out) (p c.finish.new.out)) (sym at_one) last) listed
    (pushed.loaded start well own first (c.in_ok-loader.ensures.empty (only own (p c.args.out.now)) (sym c.usable.ensures.value) covers.none))))

pub returns-in_err-push_schema-clause-few : goal.returns-in_err-push_schema-clause-few
returns-in_err-push_schema-clause-few g c =
    let p = g.P.PageOut.pages in
    let usable : ℕ = (p c.args.out.now).usable in
    let from : ℕ = (p c.args.out.now).count in
    let listed : List Entry = schema_entries c.args.items c.args.names c.args.codes in
    let large : 480 ≤ usable = subst (λ (u : ℕ). 480 ≤ u) c.usable.ensures.value c.usable.ensures.range.least in
    let most : load_pages Table usable listed ≤ schema_pages =
    schema_few usable c.args.items c.args.names c.args.codes large (omega (arith, c.ranges.items.fits)) (omega (arith, c.ranges.names.fits)) (omega (arith, c.ranges.codes.fits)) in
    let none : TookFew Table usable from [] from c.in_ok-loader.loader = took_at c.usable.result usable from from [] c.in_ok-loader.loader c.usable.ensures.value (c.in_ok-loader.ensures.none from) in
    let told = c.push_schema.ensures.few none in
    let here : (p c.push_schema.new.out).count + 1 ≤ from + load_pages Table usable listed = search (rules, told) in
    omega (arith, here, most)

pub returns-in_err-push_schema-clause-asked : goal.returns-in_err-push_schema-clause-asked
returns-in_err-push_schema-clause-asked g c =
    let p = g.P.PageOut.pages in
    let usable : ℕ = (p c.args.out.now).usable in
    let from : ℕ = (p c.args.out.now).count in
    let listed : List Entry = schema_entries c.args.items c.args.names c.args.codes in
    let large : 480 ≤ usable = subst (λ (u : ℕ). 480 ≤ u) c.usable.ensures.value c.usable.ensures.range.least in
    let most : load_pages Table usable listed ≤ schema_pages =
    schema_few usable c.args.items c.args.names c.args.codes large (omega (arith, c.ranges.items.fits)) (omega (arith, c.ranges.names.fits)) (omega (arith, c.ranges.codes.fits)) in
    let none : TookFew Table usable from [] from c.in_ok-loader.loader = took_at c.usable.result usable from from [] c.in_ok-loader.loader c.usable.ensures.value (c.in_ok-loader.ensures.none from) in
    let told = c.push_schema.ensures.few none in
    let here : (p c.push_schema.new.out).count + 1 ≤ from + load_pages Table usable listed = search (rules, told) in
    let all : (p c.push_schema.new.out).count + 1 ≤ from + schema_pages = omega (arith, here, most) in
    asked_all _ all

pub finish-requires-clause-free : goal.finish-requires-clause-free
finish-requires-clause-free g c is =
    let p = g.P.PageOut in
    still_free p.pages p.limit p.faults p.well c.args.out.now c.push_schema.new.out (g.met.P.PageOut.counted c.args.out.now) c.in_ok-push_schema.ensures.keeps c.requires.free

pub returns-in_err-finish-clause-few : goal.returns-in_err-finish-clause-few
returns-in_err-finish-clause-few g c =
    let p = g.P.PageOut.pages in
    let usable : ℕ = (p c.args.out.now).usable in
    let from : ℕ = (p c.args.out.now).count in
    let listed : List Entry = schema_entries c.args.items c.args.names c.args.codes in
    let large : 480 ≤ usable = subst (λ (u : ℕ). 480 ≤ u) c.usable.ensures.value c.usable.ensures.range.least in
    let most : load_pages Table usable listed ≤ schema_pages =
    schema_few usable c.args.items c.args.names c.args.codes large (omega (arith, c.ranges.items.fits)) (omega (arith, c.ranges.names.fits)) (omega (arith, c.ranges.codes.fits)) in
    let none : TookFew Table usable from [] from c.in_ok-loader.loader = took_at c.usable.result usable from from [] c.in_ok-loader.loader c.usable.ensures.value (c.in_ok-loader.ensures.none from) in
    let pushed = c.in_ok-push_schema.ensures in
    let loader = c.push_schema.new.loader in
    let there = p c.push_schema.new.out in
    let size : there.usable ≡ usable = pushed.keeps.size in
    let took : TookFew (family_of_loader loader) there.usable from listed there.count loader =
    subst (λ (f : Family). TookFew f there.usable from listed there.count loader) (sym pushed.family)
    (took_at usable there.usable from there.count listed loader (sym size) (pushed.pushed none)) in
    let few = c.finish.ensures.few from listed took in
    let here : (p c.finish.new.out).count ≤ from + load_pages Table usable listed = subst (λ (u : ℕ). (p c.finish.new.out).count ≤ from + load_pages Table u listed) size
    (subst (λ (f : Family). (p c.finish.new.out).count ≤ from + load_pages f there.usable listed) pushed.family few) in
    omega (arith, here, most)

pub returns-in_err-finish-clause-asked : goal.returns-in_err-finish-clause-asked
returns-in_err-finish-clause-asked g c =
    let p = g.P.PageOut.pages in
    let usable : ℕ = (p c.args.out.now).usable in
    let from : ℕ = (p c.args.out.now).count in
    let listed : List Entry = schema_entries c.args.items c.args.names c.args.codes in
    let large : 480 ≤ usable = subst (λ (u : ℕ). 480 ≤ u) c.usable.ensures.value c.usable.ensures.range.least in
    let most : load_pages Table usable listed ≤ schema_pages =
    schema_few usable c.args.items c.args.names c.args.codes large (omega (arith, c.ranges.items.fits)) (omega (arith, c.ranges.names.fits)) (omega (arith, c.ranges.codes.fits)) in
    let none : TookFew Table usable from [] from c.in_ok-loader.loader = took_at c.usable.result usable from from [] c.in_ok-loader.loader c.usable.ensures.value (c.in_ok-loader.ensures.none from) in
    let pushed = c.in_ok-push_schema.ensures in
    let loader = c.push_schema.new.loader in
    let there = p c.push_schema.new.out in
    let size : there.usable ≡ usable = pushed.keeps.size in
    let took : TookFew (family_of_loader loader) there.usable from listed there.count loader =
    subst (λ (f : Family). TookFew f there.usable from listed there.count loader) (sym pushed.family)
    (took_at usable there.usable from there.count listed loader (sym size) (pushed.pushed none)) in
    let told : IfErr c.finish.result (λ error. is_load_refusal error ≡ true → (p c.finish.new.out).count + 1 ≤ from + schema_pages) =
    asked_as c.finish.result (λ few. let here : (p c.finish.new.out).count + 1 ≤ from + load_pages Table usable listed = subst (λ (u : ℕ). (p c.finish.new.out).count + 1 ≤ from + load_pages Table u listed) size
    (subst (λ (f : Family). (p c.finish.new.out).count + 1 ≤ from + load_pages f there.usable listed) pushed.family few) in omega (arith, here, most)) (c.finish.ensures.asked from listed took) in
    let why : LoadError = c.in_err-finish.field-0.0 in
    let stopped : c.finish.result ≡ Err why = search (rules, c.in_err-finish.was) in
    err_to (λ error. is_load_refusal error ≡ true → (p c.finish.new.out).count + 1 ≤ from + schema_pages) c.from_residual-in_err-finish.result why c.from_residual-in_err-finish.ensures.1
    (subst (λ r. IfErr r (λ error. is_load_refusal error ≡ true → (p c.finish.new.out).count + 1 ≤ from + schema_pages)) stopped told)

pub returns-clause-few : goal.returns-clause-few
returns-clause-few g c =
    let p = g.P.PageOut.pages in
    let usable : ℕ = (p c.args.out.now).usable in
    let from : ℕ = (p c.args.out.now).count in
    let listed : List Entry = schema_entries c.args.items c.args.names c.args.codes in
    let large : 480 ≤ usable = subst (λ (u : ℕ). 480 ≤ u) c.usable.ensures.value c.usable.ensures.range.least in
    let most : load_pages Table usable listed ≤ schema_pages =
    schema_few usable c.args.items c.args.names c.args.codes large (omega (arith, c.ranges.items.fits)) (omega (arith, c.ranges.names.fits)) (omega (arith, c.ranges.codes.fits)) in
    let none : TookFew Table usable from [] from c.in_ok-loader.loader = took_at c.usable.result usable from from [] c.in_ok-loader.loader c.usable.ensures.value (c.in_ok-loader.ensures.none from) in
    let pushed = c.in_ok-push_schema.ensures in
    let loader = c.push_schema.new.loader in
    let there = p c.push_schema.new.out in
    let size : there.usable ≡ usable = pushed.keeps.size in
    let took : TookFew (family_of_loader loader) there.usable from listed there.count loader =
    subst (λ (f : Family). TookFew f there.usable from listed there.count loader) (sym pushed.family)
    (took_at usable there.usable from there.count listed loader (sym size) (pushed.pushed none)) in
    let few = c.in_ok-finish.ensures.few from listed took in
    let here : (p c.finish.new.out).count ≤ from + load_pages Table usable listed = subst (λ (u : ℕ). (p c.finish.new.out).count ≤ from + load_pages Table u listed) size
    (subst (λ (f : Family). (p c.finish.new.out).count ≤ from + load_pages f there.usable listed) pushed.family few) in
    omega (arith, here, most)

pub returns-in_err-finish-clause-keeps : goal.returns-in_err-finish-clause-keeps
returns-in_err-finish-clause-keeps g c =
    let p = g.P.PageOut in
    let pushed = c.in_ok-push_schema.ensures in
    let at_one : c.push_schema.new.loader.at_one ≡ true = pushed.at_one ∙ c.in_ok-loader.ensures.at_one in
    keeps_after p.pages p.limit p.faults p.well true c.args.out.now c.push_schema.new.out c.finish.new.out pushed.follows
    (subst (λ first. KeepsPages p.pages p.limit p.faults p.well first c.push_schema.new.out c.finish.new.out) at_one c.finish.ensures.keeps)

pub returns-clause-keeps : goal.returns-clause-keeps
returns-clause-keeps g c =
    let p = g.P.PageOut in
    let pushed = c.in_ok-push_schema.ensures in
    let at_one : c.push_schema.new.loader.at_one ≡ true = pushed.at_one ∙ c.in_ok-loader.ensures.at_one in
    keeps_after p.pages p.limit p.faults p.well true c.args.out.now c.push_schema.new.out c.finish.new.out pushed.follows
    (subst (λ first. KeepsPages p.pages p.limit p.faults p.well first c.push_schema.new.out c.finish.new.out) at_one c.in_ok-finish.ensures.keeps)

pub returns-clause-follows : goal.returns-clause-follows
returns-clause-follows g c =
    let p = g.P.PageOut in
    let pushed = c.in_ok-push_schema.ensures in
    let at_one : c.push_schema.new.loader.at_one ≡ true = pushed.at_one ∙ c.in_ok-loader.ensures.at_one in
    follows_all p.pages p.limit p.faults p.well true c.args.out.now c.push_schema.new.out c.finish.new.out pushed.follows
    (subst (λ first. Follows p.pages p.limit p.faults p.well first c.push_schema.new.out c.finish.new.out) at_one c.in_ok-finish.ensures.follows)

pub returns-in_err-finish-clause-deep : goal.returns-in_err-finish-clause-deep
returns-in_err-finish-clause-deep g c is =
    let p = g.P.PageOut.pages in
    let from : ℕ = (p c.args.out.now).count in
    let there = p c.push_schema.new.out in
    let loader = c.push_schema.new.loader in
    let pushed = c.in_ok-push_schema.ensures in
    let none : TookFew Table (p c.args.out.now).usable from [] from c.in_ok-loader.loader =
    took_at c.usable.result (p c.args.out.now).usable from from [] c.in_ok-loader.loader c.usable.ensures.value (c.in_ok-loader.ensures.none from) in
    let shallow : IsShallow there.usable from there.count loader = subst (λ (u : ℕ). IsShallow u from there.count loader) (sym pushed.keeps.size) (pushed.pushed none).shallow in
    let why : LoadError = c.in_err-finish.field-0.0 in
    let stopped : c.finish.result ≡ Err why = search (rules, c.in_err-finish.was) in
    let same : TooDeep ≡ why = subst (λ r. IsErrAnd r (λ e. e ≡ why)) is c.from_residual-in_err-finish.ensures.1 in
    let many : 2 ^ 28 + from ≤ there.count = c.finish.ensures.deep from shallow (stopped ∙ ap Err (sym same)) in
    let later : there.count ≤ (p c.finish.new.out).count = c.finish.ensures.keeps.count in
    omega arith
