-- What `migrate` answers, and a new file in the place of Main, as its disk shows it.
use Rattle.std.proofs.Common.{◌≡◌, ◌⊎◌, ⊎_elim, inl, inr, ◌≤◌, ◌<◌, ◌*◌, ◌/◌, ℕ, Bool, true, false, List, [], ◌∷◌, length, Option, Some, Result, Ok, Err, if◌then◌else◌, refl, sym, ap, subst, ◌∙◌, arith}
use Rattle.std.specs.Prelude.{IfOk, unwrap_or}
use Rattle.std.specs.List.{Contains}
use Rattle.std.proofs.Math.Nat.{mul-div_cancel}
use Rattle.btree_model.specs.Content.{Content, content}
use Rattle.btree_model.specs.Parts.{first_faults, first_refusals, is_database, parts}
use Rattle.btree_model.specs.Plain.{with_zeros}
use Rattle.cipher_profile.specs.Profile.{usable}
use Rattle.cipher_profile.specs.declared.keys.Secret.{Secret}
use Rattle.cipher_profile.specs.declared.profile.Profile.{Profile}
use Rattle.db_format.specs.Pages.{Pages}
use Rattle.db_format.specs.declared.header.Header.{Header}
use Rattle.fresh_disk.specs.OnlyFresh.{IsOld}
use Rattle.fresh_disk.specs.Place.{LeavesOld, MayTakePlace, TakesPlace}
use Rattle.fresh_disk.specs.Published.{IsAlone, IsOldOrPublished, IsPublished}
use Rattle.edge_model.specs.Files.{File, Files, bytes_of}
use Rattle.edge_model.specs.Images.{Each}
use Rattle.edge_model.specs.Moments.{weaker}
use Rattle.export_rows.proofs.Zeros.{zeros_content}
use Rattle.fresh_file.specs.State.{most_pages}
use Rattle.migrate_job.specs.Bound.{pages_at_most}
use Rattle.migrate_job.specs.Migrated.{IsMigratedUnder, migrated_header}
use Rattle.migrate_job.specs.Stops.{IsMigrateShown}
use Rattle.migrate_job.specs.declared.error.MigrateError.{MigrateError}
use Rattle.migrate_job.specs.declared.error.MigrateError.TheVariants.{PageTag as MigrateTag, Defect as MigrateDefect, TooManyPages as PagesEnd, DiskFault as DiskFails, EntropyFault as DrawFails, OutOfMemory as MemoryEnds}
use Rattle.page_codec.specs.Page.{FileKeys, keys_of}
use Rattle.sqlcipher_tool.specs.Answer.{Answer, done, refused}
use Rattle.sqlcipher_tool.specs.Change.{Commits, IsLateChange, KeepsOld, KeepsOrCommits, change_answer, change_status}
use Rattle.sqlcipher_tool.specs.Holding.{HoldsOnly, held_by}
use Rattle.sqlcipher_tool.specs.Migrate.{migrate_due, migrate_error, too_many}
use Rattle.sqlcipher_tool.specs.Opening.{page_count_of}
use Rattle.sqlcipher_tool.specs.Text.{migrated_report}
use Rattle.sqlcipher_tool.specs.Verify.{stop_answers}
use Rattle.sqlcipher_tool.specs.declared.status.Refusal.TheVariants.{PageTag, Defect as RefusedDefect, TooManyPages}
use Rattle.sqlcipher_tool.specs.declared.status.Status.{Status}
use Rattle.sqlcipher_tool.specs.declared.status.Status.TheVariants.{Done, DiskFault}
use Rattle.sqlcipher_tool.proofs.Changing.{commits_done, commits_failed, error_not_done}
use Rattle.sqlcipher_tool.proofs.Databases.{alone_holds}
use Rattle.sqlcipher_tool.proofs.OpenedParts.{open_count, open_parts}
use Rattle.sqlcipher_tool.proofs.Rekeying.{no_parts}
use Rattle.sqlcipher_tool.proofs.Verified.{among_pages, among_stops, else_left, some_is}
use Rattle.sqlcipher_tool.proofs.Numbers.{lt_true}

-- ---- what is due

-- of pages without a defect nothing but the report is, and where the bound is above the limit that there are too many
pub whole_pages_due : (profile : Profile) (count : ℕ) (pages : Pages) → is_database pages ≡ true
    → migrate_due profile count pages ≡ done (migrated_report count) ∷ too_many profile (content (with_zeros pages))
whole_pages_due profile count pages whole = no_parts pages _ whole

pub above_due : (limit : ℕ) (first : Answer) (b : Bool) → b ≡ true → Contains (first ∷ (if b then refused (TooManyPages limit) ∷ [] else [])) (refused (TooManyPages limit))
above_due limit first true is = (1, omega arith, refl)
above_due limit first false is = cc

-- what stopped a migration is due
pub unmigrated_due : (profile : Profile) (count : ℕ) (pages : Pages) (error : MigrateError) (answer : Answer) → IsMigrateShown profile pages error
    → ((limit : ℕ) → error ≡ PagesEnd limit → limit ≡ most_pages profile) → change_answer (Err (migrate_error error)) ≡ Some answer → Contains (migrate_due profile count pages) answer
unmigrated_due profile count pages (MigrateTag n) answer shown most is = subst (λ (a : Answer). Contains (migrate_due profile count pages) a) (some_is (refused (PageTag n)) answer is)
    (else_left (stop_answers (first_faults (parts pages)) (first_refusals (parts pages))) _ (refused (PageTag n)) (among_pages (first_faults (parts pages)) (first_refusals (parts pages)) n shown))
unmigrated_due profile count pages (MigrateDefect d) answer shown most is = subst (λ (a : Answer). Contains (migrate_due profile count pages) a) (some_is (refused (RefusedDefect d)) answer is)
    (else_left (stop_answers (first_faults (parts pages)) (first_refusals (parts pages))) _ (refused (RefusedDefect d)) (among_stops (first_faults (parts pages)) (first_refusals (parts pages)) d shown))
unmigrated_due profile count pages (PagesEnd limit) answer shown most is =
    subst (λ (a : Answer). Contains (migrate_due profile count pages) a) (ap (λ (n : ℕ). refused (TooManyPages n)) (sym (most limit refl)) ∙ some_is (refused (TooManyPages limit)) answer is)
    (subst (λ (l : List Answer). Contains l (refused (TooManyPages (most_pages profile)))) (sym (whole_pages_due profile count pages shown.0))
    (above_due (most_pages profile) (done (migrated_report count)) _ (lt_true (most_pages profile) _
    (subst (λ (c : Content). most_pages profile < pages_at_most (usable profile) (most_pages profile) c) (sym (zeros_content pages shown.0)) shown.1))))
unmigrated_due profile count pages DiskFails answer shown most is = cc
unmigrated_due profile count pages DrawFails answer shown most is = cc
unmigrated_due profile count pages MemoryEnds answer shown most is = cc

-- and so is the report of a new file of so many pages
pub migrated_due : (profile : Profile) (count given : ℕ) (pages : Pages) (answer : Answer) → is_database pages ≡ true → given ≡ count
    → Some (done (migrated_report given)) ≡ Some answer → Contains (migrate_due profile count pages) answer
migrated_due profile count given pages answer whole same is = subst (λ (a : Answer). Contains (migrate_due profile count pages) a) (some_is (done (migrated_report given)) answer is)
    (subst (λ (l : List Answer). Contains l (done (migrated_report given))) (sym (whole_pages_due profile count pages whole))
    (0, omega arith, ap (λ (n : ℕ). done (migrated_report n)) (sym same)))

-- a file that is so many pages long has so many
pub migrated_count : (keys : FileKeys) (old : Header) (before : Pages) (file : List ℕ) (given : ℕ) → 1 ≤ keys.profile.page_size → IsMigratedUnder keys old before file
    → length file ≡ given * keys.profile.page_size → given ≡ page_count_of keys file
migrated_count keys old before file given size is counts =
    let header = migrated_header keys.profile old is.count in
    same given is.count keys.profile.page_size size (sym counts ∙ is.size)
    ∙ sym (ap (λ (o : Option ℕ). unwrap_or o 0) (open_count keys file header is.count (open_parts keys file header is.count is.opens)))
  where
    same : (a b size : ℕ) → 1 ≤ size → a * size ≡ b * size → a ≡ b
    same a b size some is = sym (mul-div_cancel a {n = size} some) ∙ ap (λ (n : ℕ). n / size) is ∙ mul-div_cancel b {n = size} some

-- ---- how it stops

pub was_done : {A E : Type 0} (P : A → Type 0) (r : Result A E) (a : A) → r ≡ Ok a → IfOk r P → P a
was_done {A} {E} P r a is holds = subst (λ (r : Result A E). IfOk r P) is holds

pub migrate_late : (error : MigrateError) → IsLateChange (migrate_error error)
migrate_late (MigrateTag page) = refl
migrate_late (MigrateDefect defect) = refl
migrate_late (PagesEnd limit) = refl
migrate_late DiskFails = tt
migrate_late DrawFails = tt
migrate_late MemoryEnds = tt

-- ---- the disk

-- each image at the start has the old file alone
module _ {D : Type 0} (reads : D → Files) (images : D → Files → Type 0) (moment : D → ℕ) (since : D → ℕ → Files → Type 0)
    (counts_now : (disk : D) (t : ℕ) (c : Files) → t ≤ moment disk → images disk c → since disk t c)
    (only_now : (disk : D) (c : Files) → since disk (moment disk) c → images disk c) (keys : FileKeys) (file : List ℕ) (profile : Profile) (secret : Secret)
    (old new : D) (alone : Each (images old) (IsAlone file)) where
  abbrev pub Old : Files → Type 0
  Old = HoldsOnly (held_by keys file)

  abbrev pub New : List ℕ → Files → Type 0
  New n image = HoldsOnly (held_by (keys_of profile secret n) n) image

  was_old : (image : Files) → IsOld (images old) image → Old image
  was_old image from = alone_holds keys file image (record {
    main = ap (λ (f : Option File). bytes_of f) from.2.main ∙ (alone from.0 from.1).main;
    journal = from.2.journal ∙ (alone from.0 from.1).journal;
  })

  is_new : (f : File) (image : Files) → IsPublished (images old) (Some f) image → IsAlone f.bytes image
  is_new f image at = record { main = ap (λ (f : Option File). bytes_of f) at.main; journal = at.journal ∙ (alone at.was at.is_image).journal }

  has_new : (f : File) (image : Files) → IsPublished (images old) (Some f) image → New f.bytes image
  has_new f image at = alone_holds (keys_of profile secret f.bytes) f.bytes image (is_new f image at)

  old_or_new : (f : File) (image : Files) → IsOldOrPublished (images old) (Some f) image → Old image ⊎ New f.bytes image
  old_or_new f image is = ⊎_elim (λ was. inl (was_old image was)) (λ at. inr (has_new f image at)) is

  kept : (status : Status) → (status ≡ Done → ⊥) → LeavesOld reads images moment since old new → KeepsOld moment since status Old old new
  kept status never stays = record { any_moment = weaker was_old stays.any_moment; not_done = never }

  -- it has taken Main's place
  pub migrated_there : {is_one : List ℕ → Type 0} → TakesPlace reads images moment since is_one old new → Commits reads images moment since Done is_one Old New old new
  migrated_there {is_one} there = commits_done reads images moment since counts_now only_now there.may.file.bytes there.may.is
      (weaker (old_or_new there.may.file) there.may.any_moment)
      (λ c here. let at = there.at_exit c here in (has_new there.may.file c at, (is_new there.may.file c at).journal))
      (ap (λ (f : Files). bytes_of f.main) there.reads_so)

  -- it was stopped
  pub stopped_migrate : {is_one : List ℕ → Type 0} (error : MigrateError) → ((error ≡ DiskFails → ⊥) → LeavesOld reads images moment since old new)
      → LeavesOld reads images moment since old new ⊎ MayTakePlace images moment since is_one old new
      → KeepsOrCommits reads images moment since (change_status (Err (migrate_error error))) is_one Old New old new
  stopped_migrate {is_one} DiskFails stays may = ⊎_elim (λ was. inl (kept DiskFault (error_not_done (migrate_error DiskFails)) was))
      (λ has. inr (commits_failed reads images moment since counts_now only_now has.file.bytes has.is (weaker (old_or_new has.file) has.any_moment))) may
  stopped_migrate (MigrateTag page) stays may = inl (kept _ (error_not_done (migrate_error (MigrateTag page))) (stays (λ is. cc)))
  stopped_migrate (MigrateDefect defect) stays may = inl (kept _ (error_not_done (migrate_error (MigrateDefect defect))) (stays (λ is. cc)))
  stopped_migrate (PagesEnd limit) stays may = inl (kept _ (error_not_done (migrate_error (PagesEnd limit))) (stays (λ is. cc)))
  stopped_migrate DrawFails stays may = inl (kept _ (error_not_done (migrate_error DrawFails)) (stays (λ is. cc)))
  stopped_migrate MemoryEnds stays may = inl (kept _ (error_not_done (migrate_error MemoryEnds)) (stays (λ is. cc)))
