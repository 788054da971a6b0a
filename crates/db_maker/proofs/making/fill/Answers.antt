use Rattle.std.proofs.Common.{◌≡◌, ◌≤◌, ◌<◌, ◌+◌, ◌^◌, ℕ, IfErr, true, false, subst, ◌∙◌, arith, rules}
use Rattle.bulk_load.specs.Out.{is_load_refusal, is_new}
use Rattle.bulk_load.proofs.FewLemmas.{asked_as}
use Rattle.bulk_load.proofs.PutLemmas.{all_put, keeps_after, keeps_more}
use Rattle.bulk_load.proofs.TakenLemmas.{of_schema, took, took_first}
use Rattle.db_maker.proofs.MakingLaws.{all_follow, made_of, none_first, tight_of}
use Rattle.db_maker.specs.Pages.{filled_pages, part_pages, schema_pages}
use Rattle.db_maker.specs.declared.part.Part.TheVariants.{Items, Names, Codes}
use Rattle.db_maker.proofs.making.fill.Goals as goal

pub returns-clause-made : goal.returns-clause-made
returns-clause-made g c start well =
    let p = g.P.PageOut in
    let items = c.in_ok-items.ensures in
    let names = c.in_ok-names.ensures in
    let codes = c.in_ok-codes.ensures in
    let schema = c.in_ok-load_schema.ensures in
    let items_few : c.in_ok-items.items < 2 ^ 32 = search rules in
    let names_few : c.in_ok-names.names < 2 ^ 32 = search rules in
    let codes_few : c.in_ok-codes.codes < 2 ^ 32 = search rules in
    let a = c.args.out.now in
    let b = c.load_part.new.out in
    let d = c.load_part-2.new.out in
    let e = c.load_part-3.new.out in
    let f = c.load_schema.new.out in
    let after_items = items.follows.told start well in
    let after_names = names.follows.told start after_items in
    let after_codes = codes.follows.told start after_names in
    let first : (p.pages e).accepts 1 ≡ false =
    none_first p.pages p.limit p.faults p.well a b d e (g.met.P.PageOut.counted a) items.follows.keeps names.follows.keeps codes.follows.keeps c.requires.free in
    made_of p.pages p.limit p.faults p.well a b d e f start well (g.met.P.PageOut.counted a) items.follows names.follows codes.follows schema.keeps c.args.n
    c.in_ok-items.items c.in_ok-names.names c.in_ok-codes.codes (omega (arith, c.ranges.n.fits)) items_few names_few codes_few
    (items.tree start well (is_new (p.pages a) (p.pages b)) (took (p.pages a) (p.pages b) items.follows.keeps.free))
    (names.tree start after_items (is_new (p.pages b) (p.pages d)) (took (p.pages b) (p.pages d) names.follows.keeps.free))
    (codes.tree start after_names (is_new (p.pages d) (p.pages e)) (took (p.pages d) (p.pages e) codes.follows.keeps.free))
    (schema.tree start after_codes (of_schema (p.pages e) (p.pages f)) (took_first (p.pages e) (p.pages f) schema.keeps.free first))

pub returns-clause-tight : goal.returns-clause-tight
returns-clause-tight g c start well none =
    let p = g.P.PageOut in
    let items = c.in_ok-items.ensures in
    let names = c.in_ok-names.ensures in
    let codes = c.in_ok-codes.ensures in
    let schema = c.in_ok-load_schema.ensures in
    let items_few : c.in_ok-items.items < 2 ^ 32 = search rules in
    let names_few : c.in_ok-names.names < 2 ^ 32 = search rules in
    let codes_few : c.in_ok-codes.codes < 2 ^ 32 = search rules in
    let a = c.args.out.now in
    let b = c.load_part.new.out in
    let d = c.load_part-2.new.out in
    let e = c.load_part-3.new.out in
    let f = c.load_schema.new.out in
    let after_items = items.follows.told start well in
    let after_names = names.follows.told start after_items in
    let after_codes = codes.follows.told start after_names in
    let first : (p.pages e).accepts 1 ≡ false =
    none_first p.pages p.limit p.faults p.well a b d e (g.met.P.PageOut.counted a) items.follows.keeps names.follows.keeps codes.follows.keeps c.requires.free in
    tight_of p.pages p.limit p.faults p.well a b d e f start well (g.met.P.PageOut.counted a) items.follows names.follows codes.follows schema.keeps c.args.n
    c.in_ok-items.items c.in_ok-names.names c.in_ok-codes.codes (omega (arith, c.ranges.n.fits)) items_few names_few codes_few
    (items.tree start well (is_new (p.pages a) (p.pages b)) (took (p.pages a) (p.pages b) items.follows.keeps.free))
    (names.tree start after_items (is_new (p.pages b) (p.pages d)) (took (p.pages b) (p.pages d) names.follows.keeps.free))
    (codes.tree start after_names (is_new (p.pages d) (p.pages e)) (took (p.pages d) (p.pages e) codes.follows.keeps.free))
    (schema.tree start after_codes (of_schema (p.pages e) (p.pages f)) (took_first (p.pages e) (p.pages f) schema.keeps.free first))
    none
    (all_put p.pages p.limit p.faults p.well a f none (all_follow p.pages p.limit p.faults p.well a b d e f items.follows names.follows codes.follows schema.follows))

pub returns-clause-follows : goal.returns-clause-follows
returns-clause-follows g c =
    let p = g.P.PageOut in
    all_follow p.pages p.limit p.faults p.well c.args.out.now c.load_part.new.out c.load_part-2.new.out c.load_part-3.new.out c.load_schema.new.out
    c.in_ok-items.ensures.follows c.in_ok-names.ensures.follows c.in_ok-codes.ensures.follows c.in_ok-load_schema.ensures.follows

pub returns-clause-whole : goal.returns-clause-whole
returns-clause-whole g c none =
    let p = g.P.PageOut in
    all_put p.pages p.limit p.faults p.well c.args.out.now c.load_schema.new.out none
    (all_follow p.pages p.limit p.faults p.well c.args.out.now c.load_part.new.out c.load_part-2.new.out c.load_part-3.new.out c.load_schema.new.out
    c.in_ok-items.ensures.follows c.in_ok-names.ensures.follows c.in_ok-codes.ensures.follows c.in_ok-load_schema.ensures.follows)

pub returns-clause-fresh : goal.returns-clause-fresh
returns-clause-fresh g c =
    let p = g.met.P.PageOut in
    p.joins c.args.out.now c.load_part.new.out c.load_schema.new.out c.in_ok-items.ensures.fresh
    (p.joins c.load_part.new.out c.load_part-2.new.out c.load_schema.new.out c.in_ok-names.ensures.fresh
    (p.joins c.load_part-2.new.out c.load_part-3.new.out c.load_schema.new.out c.in_ok-codes.ensures.fresh c.in_ok-load_schema.ensures.fresh))

pub returns-clause-keeps : goal.returns-clause-keeps
returns-clause-keeps g c =
    let p = g.P.PageOut in
    let a = c.args.out.now in
    let b = c.load_part.new.out in
    let d = c.load_part-2.new.out in
    let e = c.load_part-3.new.out in
    let f = c.load_schema.new.out in
    keeps_after p.pages p.limit p.faults p.well true a b f c.in_ok-items.ensures.follows
    (keeps_after p.pages p.limit p.faults p.well true b d f c.in_ok-names.ensures.follows
    (keeps_after p.pages p.limit p.faults p.well true d e f c.in_ok-codes.ensures.follows c.in_ok-load_schema.ensures.keeps))

pub returns-in_err-codes-clause-keeps : goal.returns-in_err-codes-clause-keeps
returns-in_err-codes-clause-keeps g c =
    let p = g.P.PageOut in
    let a = c.args.out.now in
    let b = c.load_part.new.out in
    let d = c.load_part-2.new.out in
    let e = c.load_part-3.new.out in
    keeps_after p.pages p.limit p.faults p.well true a b e c.in_ok-items.ensures.follows
    (keeps_after p.pages p.limit p.faults p.well true b d e c.in_ok-names.ensures.follows
    (keeps_more p.pages p.limit p.faults p.well true d e c.load_part-3.ensures.keeps))

pub returns-in_err-load_schema-clause-keeps : goal.returns-in_err-load_schema-clause-keeps
returns-in_err-load_schema-clause-keeps g c =
    let p = g.P.PageOut in
    let a = c.args.out.now in
    let b = c.load_part.new.out in
    let d = c.load_part-2.new.out in
    let e = c.load_part-3.new.out in
    let f = c.load_schema.new.out in
    keeps_after p.pages p.limit p.faults p.well true a b f c.in_ok-items.ensures.follows
    (keeps_after p.pages p.limit p.faults p.well true b d f c.in_ok-names.ensures.follows
    (keeps_after p.pages p.limit p.faults p.well true d e f c.in_ok-codes.ensures.follows c.load_schema.ensures.keeps))

pub returns-in_err-load_schema-clause-fresh : goal.returns-in_err-load_schema-clause-fresh
returns-in_err-load_schema-clause-fresh g c =
    let p = g.met.P.PageOut in
    let a = c.args.out.now in
    let b = c.load_part.new.out in
    let d = c.load_part-2.new.out in
    let e = c.load_part-3.new.out in
    let f = c.load_schema.new.out in
    p.joins a b f c.in_ok-items.ensures.fresh (p.joins b d f c.in_ok-names.ensures.fresh (p.joins d e f c.in_ok-codes.ensures.fresh c.load_schema.ensures.fresh))

pub returns-in_err-load_schema-clause-few : goal.returns-in_err-load_schema-clause-few
returns-in_err-load_schema-clause-few g c =
    let p = g.P.PageOut.pages in
    let a = p c.args.out.now in
    let b = p c.load_part.new.out in
    let d = p c.load_part-2.new.out in
    let e = p c.load_part-3.new.out in
    let f = p c.load_schema.new.out in
    let n : ℕ = c.args.n in
    let size_b : b.usable ≡ a.usable = c.in_ok-items.ensures.follows.keeps.size in
    let size_d : d.usable ≡ a.usable = c.in_ok-names.ensures.follows.keeps.size ∙ size_b in
    let size_e : e.usable ≡ a.usable = c.in_ok-codes.ensures.follows.keeps.size ∙ size_d in
    let items : b.count ≤ a.count + part_pages a.usable Items n = c.in_ok-items.ensures.few in
    let names : d.count ≤ b.count + part_pages a.usable Names n = subst (λ (u : ℕ). d.count ≤ b.count + part_pages u Names n) size_b c.in_ok-names.ensures.few in
    let codes : e.count ≤ d.count + part_pages a.usable Codes n = subst (λ (u : ℕ). e.count ≤ d.count + part_pages u Codes n) size_d c.in_ok-codes.ensures.few in
    let schema : f.count ≤ e.count + schema_pages = c.load_schema.ensures.few in
    let all : f.count ≤ a.count + filled_pages a.usable n = omega (arith, items, names, codes, schema) in
    all

pub returns-clause-few : goal.returns-clause-few
returns-clause-few g c =
    let p = g.P.PageOut.pages in
    let a = p c.args.out.now in
    let b = p c.load_part.new.out in
    let d = p c.load_part-2.new.out in
    let e = p c.load_part-3.new.out in
    let f = p c.load_schema.new.out in
    let n : ℕ = c.args.n in
    let size_b : b.usable ≡ a.usable = c.in_ok-items.ensures.follows.keeps.size in
    let size_d : d.usable ≡ a.usable = c.in_ok-names.ensures.follows.keeps.size ∙ size_b in
    let size_e : e.usable ≡ a.usable = c.in_ok-codes.ensures.follows.keeps.size ∙ size_d in
    let items : b.count ≤ a.count + part_pages a.usable Items n = c.in_ok-items.ensures.few in
    let names : d.count ≤ b.count + part_pages a.usable Names n = subst (λ (u : ℕ). d.count ≤ b.count + part_pages u Names n) size_b c.in_ok-names.ensures.few in
    let codes : e.count ≤ d.count + part_pages a.usable Codes n = subst (λ (u : ℕ). e.count ≤ d.count + part_pages u Codes n) size_d c.in_ok-codes.ensures.few in
    let schema : f.count ≤ e.count + schema_pages = c.in_ok-load_schema.ensures.few in
    let all : f.count ≤ a.count + filled_pages a.usable n = omega (arith, items, names, codes, schema) in
    all

pub returns-in_err-load_schema-clause-asked : goal.returns-in_err-load_schema-clause-asked
returns-in_err-load_schema-clause-asked g c =
    let p = g.P.PageOut.pages in
    let a = p c.args.out.now in
    let b = p c.load_part.new.out in
    let d = p c.load_part-2.new.out in
    let e = p c.load_part-3.new.out in
    let f = p c.load_schema.new.out in
    let n : ℕ = c.args.n in
    let size_b : b.usable ≡ a.usable = c.in_ok-items.ensures.follows.keeps.size in
    let size_d : d.usable ≡ a.usable = c.in_ok-names.ensures.follows.keeps.size ∙ size_b in
    let size_e : e.usable ≡ a.usable = c.in_ok-codes.ensures.follows.keeps.size ∙ size_d in
    let items : b.count ≤ a.count + part_pages a.usable Items n = c.in_ok-items.ensures.few in
    let names : d.count ≤ b.count + part_pages a.usable Names n = subst (λ (u : ℕ). d.count ≤ b.count + part_pages u Names n) size_b c.in_ok-names.ensures.few in
    let codes : e.count ≤ d.count + part_pages a.usable Codes n = subst (λ (u : ℕ). e.count ≤ d.count + part_pages u Codes n) size_d c.in_ok-codes.ensures.few in
    let told : IfErr c.load_schema.result (λ error. is_load_refusal error ≡ true → f.count + 1 ≤ a.count + filled_pages a.usable n) =
    asked_as c.load_schema.result (λ schema. omega (arith, items, names, codes, schema)) c.load_schema.ensures.asked in
    search (rules, told)
