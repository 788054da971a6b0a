-- How many pages a copied tree takes.
use Rattle.std.proofs.Common.{◌≡◌, ◌≤◌, ◌+◌, ◌++◌, ◌∷◌, ℕ, true, List, [], Some, Result, Ok, Err, IfErr, map, arith, refl, ap, sym, subst, ◌∙◌}
use Rattle.std.proofs.lemmas.List.{append_assoc, map-append}
use Rattle.btree_page.specs.declared.kind.Family.{Family}
use Rattle.btree_model.specs.Content.{Entry, entry_of}
use Rattle.btree_model.specs.Finding.{Row, entries}
use Rattle.btree_walk.specs.declared.cursor.Cursor.{Cursor}
use Rattle.btree_walk.specs.Cursor.{IsCursorAt, walked}
use Rattle.btree_walk.specs.declared.error.WalkError.{WalkError}
use Rattle.btree_walk.specs.declared.error.WalkError.TheVariants.{Defect as Found, Source, OutOfMemory as NoRoomToWalk}
use Rattle.bulk_load.specs.Out.{is_load_refusal}
use Rattle.bulk_load.specs.declared.error.LoadError.{LoadError}
use Rattle.bulk_load.specs.declared.error.LoadError.TheVariants.{RowidOrder, Out, OutOfMemory as NoRoomToLoad, TooDeep}
use Rattle.bulk_load.specs.declared.out.OutError.TheVariants.{TooManyPages as NoNumber, DiskFault as NotWritten, EntropyFault as NotDrawn}
use Rattle.bulk_load.specs.declared.loader.Loader.{Loader}
use Rattle.bulk_load.specs.Few.{TookFew, load_pages}
use Rattle.bulk_load.proofs.FewLemmas.{few_pushed, load_pages-more}
use Rattle.db_format.specs.Pages.{Pages, Test}
use Rattle.pager.specs.declared.fill.PageError.{PageError}
use Rattle.pager.specs.declared.fill.PageError.TheVariants.{OutOfRange, TagRefused, DiskFault as NotRead, EntropyFault as NotSealed, AllPinned}
use Rattle.migrate_job.specs.declared.error.MigrateError.{MigrateError}
use Rattle.migrate_job.specs.declared.error.MigrateError.TheVariants.{PageTag, Defect, TooManyPages, DiskFault, EntropyFault, OutOfMemory}
use Rattle.migrate_job.specs.Copying.{asked_by, migrate_load_error, migrate_walk_error}

-- these entries of the walk were given and pushed, and so many numbers given
pub record IsFewSoFar (before : Pages) (taken : Test) (cursor : Cursor) (seen : Test) (family : Family) (usable from count : ℕ) (loader : Loader) : Type 0 where
  pub given : List Row
  pub more : List Row
  pub at : IsCursorAt before taken given cursor seen
  pub order : entries (walked before taken cursor) ≡ given ++ more
  pub took : TookFew family usable from (map entry_of given) count loader

-- a walk asks for no page of the new file
pub walk_asks : (error : WalkError PageError) → asked_by (migrate_walk_error error) ≡ 0
walk_asks (Found defect) = refl
walk_asks (Source OutOfRange) = refl
walk_asks (Source (TagRefused n)) = refl
walk_asks (Source NotRead) = refl
walk_asks (Source NotSealed) = refl
walk_asks (Source AllPinned) = refl
walk_asks NoRoomToWalk = refl

pub asks_one : (error : MigrateError) → asked_by error ≤ 1
asks_one (PageTag n) = omega arith
asks_one (Defect defect) = omega arith
asks_one (TooManyPages limit) = omega arith
asks_one DiskFault = omega arith
asks_one EntropyFault = omega arith
asks_one OutOfMemory = omega arith

-- where no page was taken, one more was asked for
pub asks_refusal : (error : LoadError) (stops : MigrateError) (count most : ℕ) → migrate_load_error error ≡ Some stops → count ≤ most → (is_load_refusal error ≡ true → count + 1 ≤ most)
    → count + asked_by stops ≤ most
asks_refusal RowidOrder stops count most is few asked = cc
asks_refusal (Out (NoNumber limit)) stops count most is few asked =
    let same : TooManyPages limit ≡ stops = cc in subst (λ s. count + asked_by s ≤ most) same (asked refl)
asks_refusal (Out NotWritten) stops count most is few asked =
    let same : DiskFault ≡ stops = cc in subst (λ s. count + asked_by s ≤ most) same (omega arith)
asks_refusal (Out NotDrawn) stops count most is few asked =
    let same : EntropyFault ≡ stops = cc in subst (λ s. count + asked_by s ≤ most) same (omega arith)
asks_refusal NoRoomToLoad stops count most is few asked =
    let same : OutOfMemory ≡ stops = cc in subst (λ s. count + asked_by s ≤ most) same (omega arith)
asks_refusal TooDeep stops count most is few asked = cc

module _ (family : Family) (usable from count : ℕ) (rows given more : List Row) where
  -- before an entry
  pub few_before : (loader : Loader) → 1 ≤ usable → rows ≡ given ++ more → TookFew family usable from (map entry_of given) count loader
      → count ≤ from + load_pages family usable (map entry_of rows)
  few_before loader some order few =
      let first : count ≤ from + load_pages family usable (map entry_of given) = few_pushed family usable from count (map entry_of given) loader some few in
      let all : map entry_of given ++ map entry_of more ≡ map entry_of rows = sym (map-append entry_of given more) ∙ ap (map entry_of) (sym order) in
      let whole : load_pages family usable (map entry_of given) ≤ load_pages family usable (map entry_of rows) =
      subst (λ l. load_pages family usable (map entry_of given) ≤ load_pages family usable l) all (load_pages-more family usable (map entry_of given) (map entry_of more) some) in
      omega arith

  -- at an entry
  pub few_at : (row : Row) → 1 ≤ usable → rows ≡ given ++ row ∷ more → count ≤ from + load_pages family usable (map entry_of given ++ entry_of row ∷ [])
      → count ≤ from + load_pages family usable (map entry_of rows)
  few_at row some order few =
      let list : List Entry = map entry_of given ++ entry_of row ∷ [] in
      let all : list ++ map entry_of more ≡ map entry_of rows =
      append_assoc (map entry_of given) (entry_of row ∷ []) (map entry_of more) ∙ sym (map-append entry_of given (row ∷ more)) ∙ ap (map entry_of) (sym order) in
      let whole : load_pages family usable list ≤ load_pages family usable (map entry_of rows) =
      subst (λ l. load_pages family usable list ≤ load_pages family usable l) all (load_pages-more family usable list (map entry_of more) some) in
      omega arith

-- what is told of an error
pub if_err_told : {A E : Type 0} (result : Result A E) (T : Type 0) (X : E → Type 0) → (T → IfErr result X) → IfErr result (λ error. T → X error)
if_err_told (Ok value) T X holds = tt
if_err_told (Err error) T X holds = holds

pub if_err_at : {A E : Type 0} (result : Result A E) (error : E) (P : E → Type 0) → result ≡ Err error → IfErr result P → P error
if_err_at result error P is holds = subst (λ r. IfErr r P) is holds
