use Rattle.std.proofs.Common.{to_z, of_z, ◌≡◌, ◌≤◌, ◌<◌, ◌+◌, ◌∷◌, ◌++◌, [], ℕ, ℤ, List, Some, false, take, length, refl, subst, sym, IfErr, ◌∙◌, ap, arith, rules}
use Rattle.std.specs.Int.{w64}
use Rattle.std.specs.Prelude.{slice_index_or}
use Rattle.std.proofs.lemmas.Int.{to_z-of_z}
use Rattle.std.proofs.lemmas.Result.{IfErr-weaker}
use mir.Val.{SFits}
use Rattle.btree_page.specs.Payload.{max_payload}
use Rattle.btree_page.specs.declared.kind.Family.TheVariants.{Table}
use Rattle.btree_model.specs.Content.{Entry}
use Rattle.bulk_load.specs.Few.{TookFew, load_pages}
use Rattle.bulk_load.specs.Loader.{Loaded}
use Rattle.bulk_load.specs.Own.{Covers, only}
use Rattle.bulk_load.proofs.PutLemmas.{covers_before, covers_behind, follows_all}
use Rattle.migrate_job.specs.Copied.{HasLongRow, IsRenamed, new_entries, payload_with}
use Rattle.migrate_job.specs.declared.rows.RowsError.{RowsError}
use Rattle.migrate_job.proofs.EntryLaws.{entries_more, entries_whole, long_row, asked_of_all, renamed_more, renamed_whole}
use Rattle.migrate_job.proofs.LoadLaws.{on_any_err}
use Rattle.migrate_job.proofs.rows.push_rows.Goals as goal

pub loop-i-preserved : goal.loop-i-preserved
loop-i-preserved g c =
    let p = g.P.PageOut in
    let i = c.loop-i.invariant in
    let row = c.in_ok-push_row.ensures in
    let old = c.index-rows-i.result in
    let n : ℕ = c.loop-i.i in
    let root : ℕ = slice_index_or c.args.roots.now n 0 in
    let there : n < length c.args.roots.now = omega (arith, c.requires.each, c.loop-i-test.true) in
    let fits : SFits w64 old.rowid = search rules in
    record {
      loaded = λ start well own covers empty.
          let first : Covers false own (p.pages c.args.out.now) (p.pages c.loop-i.out) =
          covers_before false own _ _ (p.pages c.push_row.new.out) row.keeps.count covers in
          let last : Covers false own (p.pages c.loop-i.out) (p.pages c.push_row.new.out) =
          covers_behind false own (p.pages c.args.out.now) _ _ i.follows.keeps.count covers in
          let named = ap (λ (z : ℤ). record { rowid = Some z; payload = payload_with c.as_slice.result.now old.root root }) (to_z-of_z w64 old.rowid fits)
          ∙ ap (λ (l : List ℕ). record { rowid = Some old.rowid; payload = payload_with l old.root root }) c.as_slice.ensures in
          subst (λ l. Loaded (only own (p.pages c.push_row.new.out)) c.push_row.new.loader l)
          (ap (λ (e : Entry). new_entries (take n c.args.rows.now) (take n c.args.roots.now) ++ e ∷ []) named
          ∙ entries_more n c.args.rows.now c.args.roots.now old root 0 c.loop-i-test.true there c.index-rows-i.is refl)
          (row.loaded start (i.follows.told start well) own last (new_entries (take n c.args.rows.now) (take n c.args.roots.now)) (i.loaded start well own first empty));
      few = λ from none.
          let size : ℕ = (p.pages c.args.out.now).usable in
          let listed : List Entry = new_entries (take n c.args.rows.now) (take n c.args.roots.now) in
          let named = ap (λ (z : ℤ). record { rowid = Some z; payload = payload_with c.as_slice.result.now old.root root }) (to_z-of_z w64 old.rowid fits)
          ∙ ap (λ (l : List ℕ). record { rowid = Some old.rowid; payload = payload_with l old.root root }) c.as_slice.ensures in
          let found : List Entry = listed ++ record { rowid = Some (to_z w64 (of_z w64 old.rowid)); payload = payload_with c.as_slice.result.now old.root root } ∷ [] in
          subst (λ l. TookFew Table size from l (p.pages c.push_row.new.out).count c.push_row.new.loader)
          (ap (λ (e : Entry). listed ++ e ∷ []) named
          ∙ entries_more n c.args.rows.now c.args.roots.now old root 0 c.loop-i-test.true there c.index-rows-i.is refl)
          (subst (λ u. TookFew Table u from found (p.pages c.push_row.new.out).count c.push_row.new.loader) i.follows.keeps.size
          (row.pushed from listed (subst (λ u. TookFew Table u from listed (p.pages c.loop-i.out).count c.loop-i.loader) (sym i.follows.keeps.size) (i.few from none))));
      ready = row.ready;
      family = row.family;
      at_one = row.at_one ∙ i.at_one;
      follows = follows_all p.pages p.limit p.faults p.well false c.args.out.now c.loop-i.out c.push_row.new.out i.follows row.follows;
      fresh = g.met.P.PageOut.joins c.args.out.now c.loop-i.out c.push_row.new.out i.fresh row.fresh;
      knows = renamed_more n c.args.rows.now c.args.roots.now old root 0 c.loop-i-test.true there c.index-rows-i.is refl i.knows
          (subst (λ (l : List ℕ). IsRenamed l old.root root) c.as_slice.ensures row.renamed);
    }

pub returns-clause-loaded : goal.returns-clause-loaded
returns-clause-loaded g c start well own covers empty =
    let whole : c.loop-i.i ≡ length c.args.rows.now = omega (arith, c.loop-i-test.false, c.loop-i.auto.i-end) in
    subst (λ l. Loaded (only own (g.P.PageOut.pages c.loop-i.out)) c.loop-i.loader l)
    (entries_whole c.loop-i.i c.args.rows.now c.args.roots.now whole c.requires.each)
    (c.loop-i.invariant.loaded start well own covers empty)

pub returns-clause-renamed : goal.returns-clause-renamed
returns-clause-renamed g c =
    let whole : c.loop-i.i ≡ length c.args.rows.now = omega (arith, c.loop-i-test.false, c.loop-i.auto.i-end) in
    renamed_whole c.loop-i.i c.args.rows.now c.args.roots.now whole c.requires.each c.loop-i.invariant.knows

pub returns-clause-pushed : goal.returns-clause-pushed
returns-clause-pushed g c from none =
    let whole : c.loop-i.i ≡ length c.args.rows.now = omega (arith, c.loop-i-test.false, c.loop-i.auto.i-end) in
    subst (λ l. TookFew Table (g.P.PageOut.pages c.args.out.now).usable from l (g.P.PageOut.pages c.loop-i.out).count c.loop-i.loader)
    (entries_whole c.loop-i.i c.args.rows.now c.args.roots.now whole c.requires.each)
    (c.loop-i.invariant.few from none)

pub returns-in_err-push_row-clause-asked : goal.returns-in_err-push_row-clause-asked
returns-in_err-push_row-clause-asked g c from none =
    let p = g.P.PageOut.pages in
    let i = c.loop-i.invariant in
    let row = c.in_err-push_row.ensures in
    let old = c.index-rows-i.result in
    let n : ℕ = c.loop-i.i in
    let root : ℕ = slice_index_or c.args.roots.now n 0 in
    let there : n < length c.args.roots.now = omega (arith, c.requires.each, c.loop-i-test.true) in
    let fits : SFits w64 old.rowid = search rules in
    let size : ℕ = (p c.args.out.now).usable in
    let some : 1 ≤ size = let least = c.requires.ready.usable_is.least in omega arith in
    let count : ℕ = (p c.push_row.new.out).count in
    let listed : List Entry = new_entries (take n c.args.rows.now) (take n c.args.roots.now) in
    let named = ap (λ (z : ℤ). record { rowid = Some z; payload = payload_with c.as_slice.result.now old.root root }) (to_z-of_z w64 old.rowid fits)
    ∙ ap (λ (l : List ℕ). record { rowid = Some old.rowid; payload = payload_with l old.root root }) c.as_slice.ensures in
    let found : List Entry = listed ++ record { rowid = Some (to_z w64 (of_z w64 old.rowid)); payload = payload_with c.as_slice.result.now old.root root } ∷ [] in
    let first : count + 1 ≤ from + load_pages Table size (new_entries (take (n + 1) c.args.rows.now) (take (n + 1) c.args.roots.now)) =
    subst (λ l. count + 1 ≤ from + load_pages Table size l)
    (ap (λ (e : Entry). listed ++ e ∷ []) named
    ∙ entries_more n c.args.rows.now c.args.roots.now old root 0 c.loop-i-test.true there c.index-rows-i.is refl)
    (subst (λ u. count + 1 ≤ from + load_pages Table u found) i.follows.keeps.size
    (row.asked from listed (subst (λ u. TookFew Table u from listed (p c.loop-i.out).count c.loop-i.loader) (sym i.follows.keeps.size) (i.few from none)))) in
    on_any_err c.from_residual.result (asked_of_all size (n + 1) (count + 1) from c.args.rows.now c.args.roots.now some first)

pub returns-in_err-push_row-clause-too_long : goal.returns-in_err-push_row-clause-too_long
returns-in_err-push_row-clause-too_long g c =
    let old = c.index-rows-i.result in
    let n : ℕ = c.loop-i.i in
    let root : ℕ = slice_index_or c.args.roots.now n 0 in
    let there : n < length c.args.roots.now = omega (arith, c.requires.each, c.loop-i-test.true) in
    let told : IfErr c.from_residual.result (λ error. error ≡ RowsError.TooLong → max_payload < length (payload_with c.as_slice.result.now old.root root)) = search rules in
    IfErr-weaker c.from_residual.result (λ error. error ≡ RowsError.TooLong → max_payload < length (payload_with c.as_slice.result.now old.root root))
    (λ error. error ≡ RowsError.TooLong → HasLongRow c.args.rows.now c.args.roots.now)
    (λ error long is. long_row n c.args.rows.now c.args.roots.now old root 0 c.loop-i-test.true there c.index-rows-i.is refl
    (subst (λ (l : List ℕ). max_payload < length (payload_with l old.root root)) c.as_slice.ensures (long is))) told
