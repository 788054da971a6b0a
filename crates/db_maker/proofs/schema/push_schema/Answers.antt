use Rattle.std.proofs.Common.{◌≡◌, ◌≤◌, ◌+◌, ℕ, false, [], ◌∷◌, sym, subst, ◌∙◌, arith, rules}
use Rattle.btree_model.specs.Content.{Entry}
use Rattle.btree_page.specs.declared.kind.Family.TheVariants.{Table}
use Rattle.bulk_load.specs.Few.{TookFew, load_pages}
use Rattle.bulk_load.proofs.FewLemmas.{load_pages-more}
use Rattle.db_maker.specs.Parts.{part_values, schema_entries, schema_entry, view_values}
use Rattle.db_maker.specs.declared.part.Part.TheVariants.{Items, Names, Codes}
use Rattle.db_maker.proofs.SchemaLaws.{always_err, took_at}
use Rattle.bulk_load.specs.Own.{Covers}
use Rattle.bulk_load.proofs.PutLemmas.{covers_before, covers_behind, follows_all}
use Rattle.db_maker.proofs.schema.push_schema.Goals as goal

pub returns-clause-loaded : goal.returns-clause-loaded
returns-clause-loaded g c start well own covers empty =
    let p = g.P.PageOut.pages in
    let items = c.in_ok-push_part.ensures in
    let names = c.in_ok-push_part-2.ensures in
    let codes = c.in_ok-push_part-3.ensures in
    let view = c.in_ok-push_view.ensures in
    let to_codes : Covers false own (p c.args.out.now) (p c.push_part-3.new.out) = covers_before false own _ _ (p c.push_view.new.out) view.keeps.count covers in
    let to_names : Covers false own (p c.args.out.now) (p c.push_part-2.new.out) = covers_before false own _ _ (p c.push_part-3.new.out) codes.keeps.count to_codes in
    let to_items : Covers false own (p c.args.out.now) (p c.push_part.new.out) = covers_before false own _ _ (p c.push_part-2.new.out) names.keeps.count to_names in
    let from_items : Covers false own (p c.push_part.new.out) (p c.push_view.new.out) = covers_behind false own (p c.args.out.now) _ _ items.keeps.count covers in
    let from_names : Covers false own (p c.push_part-2.new.out) (p c.push_view.new.out) = covers_behind false own (p c.push_part.new.out) _ _ names.keeps.count from_items in
    let of_view : Covers false own (p c.push_part-3.new.out) (p c.push_view.new.out) = covers_behind false own (p c.push_part-2.new.out) _ _ codes.keeps.count from_names in
    let of_codes : Covers false own (p c.push_part-2.new.out) (p c.push_part-3.new.out) = covers_before false own _ _ (p c.push_view.new.out) view.keeps.count from_names in
    let of_names : Covers false own (p c.push_part.new.out) (p c.push_part-2.new.out) =
    covers_behind false own (p c.args.out.now) _ _ items.keeps.count to_names in
    let after_items = items.follows.told start well in
    let after_names = names.follows.told start after_items in
    let after_codes = codes.follows.told start after_names in
    view.loaded start after_codes own of_view _
    (codes.loaded start after_names own of_codes _
    (names.loaded start after_items own of_names _
    (items.loaded start well own to_items [] empty)))

pub returns-clause-follows : goal.returns-clause-follows
returns-clause-follows g c =
    let p = g.P.PageOut in
    follows_all p.pages p.limit p.faults p.well false c.args.out.now c.push_part.new.out c.push_view.new.out c.in_ok-push_part.ensures.follows
    (follows_all p.pages p.limit p.faults p.well false c.push_part.new.out c.push_part-2.new.out c.push_view.new.out c.in_ok-push_part-2.ensures.follows
    (follows_all p.pages p.limit p.faults p.well false c.push_part-2.new.out c.push_part-3.new.out c.push_view.new.out c.in_ok-push_part-3.ensures.follows
    c.in_ok-push_view.ensures.follows))

pub returns-clause-fresh : goal.returns-clause-fresh
returns-clause-fresh g c =
    let p = g.met.P.PageOut in
    p.joins c.args.out.now c.push_part.new.out c.push_view.new.out c.in_ok-push_part.ensures.fresh
    (p.joins c.push_part.new.out c.push_part-2.new.out c.push_view.new.out c.in_ok-push_part-2.ensures.fresh
    (p.joins c.push_part-2.new.out c.push_part-3.new.out c.push_view.new.out c.in_ok-push_part-3.ensures.fresh c.in_ok-push_view.ensures.fresh))

pub returns-in_err-push_part-clause-few : goal.returns-in_err-push_part-clause-few
returns-in_err-push_part-clause-few g c none =
    let p = g.P.PageOut.pages in
    let usable : ℕ = (p c.args.out.now).usable in
    let from : ℕ = (p c.args.out.now).count in
    let entry_1 : Entry = schema_entry 1 (part_values Items c.args.items) in
    let entry_2 : Entry = schema_entry 2 (part_values Names c.args.names) in
    let entry_3 : Entry = schema_entry 3 (part_values Codes c.args.codes) in
    let entry_4 : Entry = schema_entry 4 view_values in
    let told = c.push_part.ensures.few from [] none in
    let here : (p c.push_part.new.out).count + 1 ≤ from + load_pages Table usable (entry_1 ∷ []) = search (rules, told) in
    let more : load_pages Table usable (entry_1 ∷ []) ≤ load_pages Table usable (schema_entries c.args.items c.args.names c.args.codes) = load_pages-more Table usable (entry_1 ∷ []) (entry_2 ∷ entry_3 ∷ entry_4 ∷ []) (omega (arith, c.requires.ready.usable_is.least)) in
    let all : (p c.push_part.new.out).count + 1 ≤ from + load_pages Table usable (schema_entries c.args.items c.args.names c.args.codes) = omega (arith, here, more) in
    always_err _ all

pub returns-in_err-push_part-2-clause-few : goal.returns-in_err-push_part-2-clause-few
returns-in_err-push_part-2-clause-few g c none =
    let p = g.P.PageOut.pages in
    let usable : ℕ = (p c.args.out.now).usable in
    let from : ℕ = (p c.args.out.now).count in
    let entry_1 : Entry = schema_entry 1 (part_values Items c.args.items) in
    let entry_2 : Entry = schema_entry 2 (part_values Names c.args.names) in
    let entry_3 : Entry = schema_entry 3 (part_values Codes c.args.codes) in
    let entry_4 : Entry = schema_entry 4 view_values in
    let took_1 : TookFew Table usable from (entry_1 ∷ []) (p c.push_part.new.out).count c.push_part.new.loader = c.in_ok-push_part.ensures.pushed from [] none in
    let size_1 : (p c.push_part.new.out).usable ≡ usable = c.in_ok-push_part.ensures.follows.keeps.size in
    let told = c.push_part-2.ensures.few from (entry_1 ∷ []) (took_at usable (p c.push_part.new.out).usable from (p c.push_part.new.out).count (entry_1 ∷ []) c.push_part.new.loader (sym size_1) took_1) in
    let there : (p c.push_part-2.new.out).count + 1 ≤ from + load_pages Table (p c.push_part.new.out).usable (entry_1 ∷ entry_2 ∷ []) = search (rules, told) in
    let here : (p c.push_part-2.new.out).count + 1 ≤ from + load_pages Table usable (entry_1 ∷ entry_2 ∷ []) = subst (λ (u : ℕ). (p c.push_part-2.new.out).count + 1 ≤ from + load_pages Table u (entry_1 ∷ entry_2 ∷ [])) size_1 there in
    let more : load_pages Table usable (entry_1 ∷ entry_2 ∷ []) ≤ load_pages Table usable (schema_entries c.args.items c.args.names c.args.codes) = load_pages-more Table usable (entry_1 ∷ entry_2 ∷ []) (entry_3 ∷ entry_4 ∷ []) (omega (arith, c.requires.ready.usable_is.least)) in
    let all : (p c.push_part-2.new.out).count + 1 ≤ from + load_pages Table usable (schema_entries c.args.items c.args.names c.args.codes) = omega (arith, here, more) in
    always_err _ all

pub returns-in_err-push_part-3-clause-few : goal.returns-in_err-push_part-3-clause-few
returns-in_err-push_part-3-clause-few g c none =
    let p = g.P.PageOut.pages in
    let usable : ℕ = (p c.args.out.now).usable in
    let from : ℕ = (p c.args.out.now).count in
    let entry_1 : Entry = schema_entry 1 (part_values Items c.args.items) in
    let entry_2 : Entry = schema_entry 2 (part_values Names c.args.names) in
    let entry_3 : Entry = schema_entry 3 (part_values Codes c.args.codes) in
    let entry_4 : Entry = schema_entry 4 view_values in
    let took_1 : TookFew Table usable from (entry_1 ∷ []) (p c.push_part.new.out).count c.push_part.new.loader = c.in_ok-push_part.ensures.pushed from [] none in
    let size_1 : (p c.push_part.new.out).usable ≡ usable = c.in_ok-push_part.ensures.follows.keeps.size in
    let took_2 : TookFew Table usable from (entry_1 ∷ entry_2 ∷ []) (p c.push_part-2.new.out).count c.push_part-2.new.loader =
    took_at (p c.push_part.new.out).usable usable from (p c.push_part-2.new.out).count (entry_1 ∷ entry_2 ∷ []) c.push_part-2.new.loader size_1 (c.in_ok-push_part-2.ensures.pushed from (entry_1 ∷ []) (took_at usable (p c.push_part.new.out).usable from (p c.push_part.new.out).count (entry_1 ∷ []) c.push_part.new.loader (sym size_1) took_1)) in
    let size_2 : (p c.push_part-2.new.out).usable ≡ usable = c.in_ok-push_part-2.ensures.follows.keeps.size ∙ size_1 in
    let told = c.push_part-3.ensures.few from (entry_1 ∷ entry_2 ∷ []) (took_at usable (p c.push_part-2.new.out).usable from (p c.push_part-2.new.out).count (entry_1 ∷ entry_2 ∷ []) c.push_part-2.new.loader (sym size_2) took_2) in
    let there : (p c.push_part-3.new.out).count + 1 ≤ from + load_pages Table (p c.push_part-2.new.out).usable (entry_1 ∷ entry_2 ∷ entry_3 ∷ []) = search (rules, told) in
    let here : (p c.push_part-3.new.out).count + 1 ≤ from + load_pages Table usable (entry_1 ∷ entry_2 ∷ entry_3 ∷ []) = subst (λ (u : ℕ). (p c.push_part-3.new.out).count + 1 ≤ from + load_pages Table u (entry_1 ∷ entry_2 ∷ entry_3 ∷ [])) size_2 there in
    let more : load_pages Table usable (entry_1 ∷ entry_2 ∷ entry_3 ∷ []) ≤ load_pages Table usable (schema_entries c.args.items c.args.names c.args.codes) = load_pages-more Table usable (entry_1 ∷ entry_2 ∷ entry_3 ∷ []) (entry_4 ∷ []) (omega (arith, c.requires.ready.usable_is.least)) in
    let all : (p c.push_part-3.new.out).count + 1 ≤ from + load_pages Table usable (schema_entries c.args.items c.args.names c.args.codes) = omega (arith, here, more) in
    always_err _ all

pub returns-in_err-push_view-clause-few : goal.returns-in_err-push_view-clause-few
returns-in_err-push_view-clause-few g c none =
    let p = g.P.PageOut.pages in
    let usable : ℕ = (p c.args.out.now).usable in
    let from : ℕ = (p c.args.out.now).count in
    let entry_1 : Entry = schema_entry 1 (part_values Items c.args.items) in
    let entry_2 : Entry = schema_entry 2 (part_values Names c.args.names) in
    let entry_3 : Entry = schema_entry 3 (part_values Codes c.args.codes) in
    let entry_4 : Entry = schema_entry 4 view_values in
    let took_1 : TookFew Table usable from (entry_1 ∷ []) (p c.push_part.new.out).count c.push_part.new.loader = c.in_ok-push_part.ensures.pushed from [] none in
    let size_1 : (p c.push_part.new.out).usable ≡ usable = c.in_ok-push_part.ensures.follows.keeps.size in
    let took_2 : TookFew Table usable from (entry_1 ∷ entry_2 ∷ []) (p c.push_part-2.new.out).count c.push_part-2.new.loader =
    took_at (p c.push_part.new.out).usable usable from (p c.push_part-2.new.out).count (entry_1 ∷ entry_2 ∷ []) c.push_part-2.new.loader size_1 (c.in_ok-push_part-2.ensures.pushed from (entry_1 ∷ []) (took_at usable (p c.push_part.new.out).usable from (p c.push_part.new.out).count (entry_1 ∷ []) c.push_part.new.loader (sym size_1) took_1)) in
    let size_2 : (p c.push_part-2.new.out).usable ≡ usable = c.in_ok-push_part-2.ensures.follows.keeps.size ∙ size_1 in
    let took_3 : TookFew Table usable from (entry_1 ∷ entry_2 ∷ entry_3 ∷ []) (p c.push_part-3.new.out).count c.push_part-3.new.loader =
    took_at (p c.push_part-2.new.out).usable usable from (p c.push_part-3.new.out).count (entry_1 ∷ entry_2 ∷ entry_3 ∷ []) c.push_part-3.new.loader size_2 (c.in_ok-push_part-3.ensures.pushed from (entry_1 ∷ entry_2 ∷ []) (took_at usable (p c.push_part-2.new.out).usable from (p c.push_part-2.new.out).count (entry_1 ∷ entry_2 ∷ []) c.push_part-2.new.loader (sym size_2) took_2)) in
    let size_3 : (p c.push_part-3.new.out).usable ≡ usable = c.in_ok-push_part-3.ensures.follows.keeps.size ∙ size_2 in
    let told = c.push_view.ensures.few from (entry_1 ∷ entry_2 ∷ entry_3 ∷ []) (took_at usable (p c.push_part-3.new.out).usable from (p c.push_part-3.new.out).count (entry_1 ∷ entry_2 ∷ entry_3 ∷ []) c.push_part-3.new.loader (sym size_3) took_3) in
    let there : (p c.push_view.new.out).count + 1 ≤ from + load_pages Table (p c.push_part-3.new.out).usable (entry_1 ∷ entry_2 ∷ entry_3 ∷ entry_4 ∷ []) = search (rules, told) in
    let here : (p c.push_view.new.out).count + 1 ≤ from + load_pages Table usable (entry_1 ∷ entry_2 ∷ entry_3 ∷ entry_4 ∷ []) = subst (λ (u : ℕ). (p c.push_view.new.out).count + 1 ≤ from + load_pages Table u (entry_1 ∷ entry_2 ∷ entry_3 ∷ entry_4 ∷ [])) size_3 there in
    always_err _ here

pub returns-clause-pushed : goal.returns-clause-pushed
returns-clause-pushed g c none =
    let p = g.P.PageOut.pages in
    let usable : ℕ = (p c.args.out.now).usable in
    let from : ℕ = (p c.args.out.now).count in
    let entry_1 : Entry = schema_entry 1 (part_values Items c.args.items) in
    let entry_2 : Entry = schema_entry 2 (part_values Names c.args.names) in
    let entry_3 : Entry = schema_entry 3 (part_values Codes c.args.codes) in
    let entry_4 : Entry = schema_entry 4 view_values in
    let took_1 : TookFew Table usable from (entry_1 ∷ []) (p c.push_part.new.out).count c.push_part.new.loader = c.in_ok-push_part.ensures.pushed from [] none in
    let size_1 : (p c.push_part.new.out).usable ≡ usable = c.in_ok-push_part.ensures.follows.keeps.size in
    let took_2 : TookFew Table usable from (entry_1 ∷ entry_2 ∷ []) (p c.push_part-2.new.out).count c.push_part-2.new.loader =
    took_at (p c.push_part.new.out).usable usable from (p c.push_part-2.new.out).count (entry_1 ∷ entry_2 ∷ []) c.push_part-2.new.loader size_1 (c.in_ok-push_part-2.ensures.pushed from (entry_1 ∷ []) (took_at usable (p c.push_part.new.out).usable from (p c.push_part.new.out).count (entry_1 ∷ []) c.push_part.new.loader (sym size_1) took_1)) in
    let size_2 : (p c.push_part-2.new.out).usable ≡ usable = c.in_ok-push_part-2.ensures.follows.keeps.size ∙ size_1 in
    let took_3 : TookFew Table usable from (entry_1 ∷ entry_2 ∷ entry_3 ∷ []) (p c.push_part-3.new.out).count c.push_part-3.new.loader =
    took_at (p c.push_part-2.new.out).usable usable from (p c.push_part-3.new.out).count (entry_1 ∷ entry_2 ∷ entry_3 ∷ []) c.push_part-3.new.loader size_2 (c.in_ok-push_part-3.ensures.pushed from (entry_1 ∷ entry_2 ∷ []) (took_at usable (p c.push_part-2.new.out).usable from (p c.push_part-2.new.out).count (entry_1 ∷ entry_2 ∷ []) c.push_part-2.new.loader (sym size_2) took_2)) in
    let size_3 : (p c.push_part-3.new.out).usable ≡ usable = c.in_ok-push_part-3.ensures.follows.keeps.size ∙ size_2 in
    let took_4 : TookFew Table usable from (entry_1 ∷ entry_2 ∷ entry_3 ∷ entry_4 ∷ []) (p c.push_view.new.out).count c.push_view.new.loader =
    took_at (p c.push_part-3.new.out).usable usable from (p c.push_view.new.out).count (entry_1 ∷ entry_2 ∷ entry_3 ∷ entry_4 ∷ []) c.push_view.new.loader size_3 (c.in_ok-push_view.ensures.pushed from (entry_1 ∷ entry_2 ∷ entry_3 ∷ []) (took_at usable (p c.push_part-3.new.out).usable from (p c.push_part-3.new.out).count (entry_1 ∷ entry_2 ∷ entry_3 ∷ []) c.push_part-3.new.loader (sym size_3) took_3)) in
    took_4
