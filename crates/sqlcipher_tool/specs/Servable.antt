-- Where nothing stands in the way of a command, so that Done alone is due to it.
use Rattle.std.specs.Prelude.{◌≡◌, ◌⊎◌, ◌<◌, ◌≤◌, ◌*◌, ℕ, true, false, List, [], ◌∷◌, IsOk, Option, Some, None, Ok}
use Rattle.btree_model.specs.Content.{Content}
use Rattle.btree_model.specs.Finding.{is_sound}
use Rattle.btree_model.specs.Parts.{is_database}
use Rattle.btree_model.specs.Records.{tree_part}
use Rattle.btree_model.specs.Schema.{schema_part}
use Rattle.btree_page.specs.declared.kind.Family.TheVariants.{Table}
use Rattle.cipher_profile.specs.declared.keys.Secret.{Secret}
use Rattle.cipher_profile.specs.declared.profile.Profile.{Profile}
use Rattle.cipher_profile.specs.Profile.{usable, with_log}
use Rattle.db_format.specs.Count.{largest_database}
use Rattle.db_format.specs.Pages.{nothing}
use Rattle.edge_model.specs.Causes.{Rose}
use Rattle.edge_model.specs.Files.{File, Files, main_of}
use Rattle.db_maker.specs.Pages.{made_pages}
use Rattle.fresh_file.specs.State.{most_pages}
use Rattle.migrate_job.specs.Bound.{pages_at_most}
use Rattle.page_codec.specs.Page.{accepts, fits, keys_of}
use Rattle.pager.specs.File.{page_stored, whole_pages}
use Rattle.pager.specs.Opening.{Opened}
use Rattle.pager.specs.Pages.{is_page_number, opened_pages}
use Rattle.rowid_find.specs.Table.{at_root, schema_rows, table_of}
use Rattle.sqlcipher_tool.specs.Agree.{is_agreeing}
use Rattle.sqlcipher_tool.specs.Answer.{Answer, done}
use Rattle.sqlcipher_tool.specs.declared.command.Command.{Command}
use Rattle.sqlcipher_tool.specs.declared.command.Command.TheVariants.{Probe, Recover, Read, Change as ChangeFile, Make}
use Rattle.sqlcipher_tool.specs.declared.change.Change.{Change}
use Rattle.sqlcipher_tool.specs.declared.change.Change.TheVariants.{Stamp, Settle, Rekey, Migrate}
use Rattle.sqlcipher_tool.specs.declared.reading.Job.TheVariants.{Verify, Export, Agree, Find}
use Rattle.sqlcipher_tool.specs.declared.reading.Reading.{Reading}
use Rattle.sqlcipher_tool.specs.declared.reading.Reading.TheVariants.{Tags, Header, Salvage, OnPages}
use Rattle.sqlcipher_tool.specs.declared.status.Status.{Status}
use Rattle.sqlcipher_tool.specs.declared.status.Status.TheVariants.{Done, OutOfMemory}
use Rattle.sqlcipher_tool.specs.Due.{key_lines, word_refusal}
use Rattle.sqlcipher_tool.specs.Opening.{opened_with}
use Rattle.sqlcipher_tool.specs.Plain.{IsClean, Opens}
use Rattle.profile_word.specs.Tried.{IsTried}
use Rattle.sqlcipher_tool.specs.Probe.{is_fitting}
use Rattle.sqlcipher_tool.specs.Recovered.{recovered_main, recovery_of}
use Rattle.sqlcipher_tool.specs.Salvage.{opens_none}
use Rattle.sqlcipher_tool.specs.Words.{form, asked_keys}

-- ---- what each command asks of the files

-- a fact on the secret of the one key line
abbrev pub ForOne : List Secret → (Secret → Type 0) → Type 0
ForOne [] P = ⊥
ForOne (secret ∷ rest) P = P secret

-- on those of two
abbrev pub ForTwo : List Secret → (Secret → Secret → Type 0) → Type 0
ForTwo [] P = ⊥
ForTwo (first ∷ []) P = ⊥
ForTwo (first ∷ second ∷ rest) P = P first second

-- the recovery is not refused, and this holds of the recovered file
pub record AfterRecovery (profile : Profile) (files : Files) (P : List ℕ → Type 0) : Type 0 where
  pub recovers : IsOk (recovery_of profile files)
  pub holds : P (recovered_main profile files)

-- the file has a page, and no more than are served; the key fits, and every page is accepted
pub record HasTags (profile : Profile) (secret : Secret) (file : List ℕ) : Type 0 where
  pub some : 0 < whole_pages profile file
  pub few : whole_pages profile file * profile.page_size ≤ largest_database
  pub fit : fits (keys_of profile secret file) (page_stored (keys_of profile secret file) file 1) ≡ true
  pub accepted : (n : ℕ) → is_page_number (whole_pages profile file) n ≡ true
      → accepts (keys_of profile secret file) n (page_stored (keys_of profile secret file) file n) ≡ true

-- the file has a page, and no more than are served; where the profile has tags a page is accepted
pub record HasServablePages (profile : Profile) (secret : Secret) (file : List ℕ) : Type 0 where
  pub some : 0 < whole_pages profile file
  pub few : whole_pages profile file * profile.page_size ≤ largest_database
  pub opens : opens_none (keys_of profile secret file) file ≡ false

-- no journal is there, and the key fits under one of the profiles that are tried
pub record IsProbed (secret : Secret) (files : Files) : Type 0 where
  pub no_journal : files.journal ≡ None
  pub profile : Profile
  pub tried : IsTried profile
  pub fit : is_fitting secret (main_of files) profile ≡ true

-- a new file of this content has no more pages than are served
abbrev pub HasFewPages : Profile → Content → Type 0
HasFewPages new held = pages_at_most (usable new) (most_pages new) held ≤ most_pages new

-- neither Main nor Journal is there, and the bound on the pages is within the limit
pub record CanMake (profile : Profile) (rows : ℕ) (files : Files) : Type 0 where
  pub no_main : files.main ≡ None
  pub no_journal : files.journal ≡ None
  pub few : made_pages (usable profile) rows ≤ most_pages profile

-- the file opens, its schema has no defect and a table of this name, and the tree of that has no defect
pub record HasTable (profile : Profile) (secret : Secret) (name : List ℕ) (file : List ℕ) : Type 0 where
  pub opened : Opened
  pub opens : opened_with profile secret file ≡ Ok opened
  pub schema : is_sound (schema_part (opened_pages (keys_of profile secret file) file opened.count) nothing) ≡ true
  pub root : ℕ
  pub table : table_of (opened_pages (keys_of profile secret file) file opened.count) name (schema_rows (opened_pages (keys_of profile secret file) file opened.count)) ≡ at_root root
  pub tree : is_sound (tree_part (opened_pages (keys_of profile secret file) file opened.count) Table nothing root) ≡ true

-- the file opens, no part of its database has a defect, and each index that is checked agrees with its table
pub record HasAgreeingIndexes (profile : Profile) (secret : Secret) (file : List ℕ) : Type 0 where
  pub opened : Opened
  pub opens : opened_with profile secret file ≡ Ok opened
  pub sound : is_database (opened_pages (keys_of profile secret file) file opened.count) ≡ true
  pub agree : is_agreeing (opened_pages (keys_of profile secret file) file opened.count) ≡ true

-- nothing stands in the way of a reading of the recovered file
abbrev pub IsReadable : Reading → Profile → Secret → List ℕ → Type 0
IsReadable Tags profile secret file = HasTags profile secret file
IsReadable Header profile secret file = IsOk (opened_with profile secret file)
IsReadable Salvage profile secret file = HasServablePages profile secret file
IsReadable (OnPages Verify) profile secret file = IsClean (keys_of profile secret file) file
IsReadable (OnPages Export) profile secret file = (held : Content) × Opens (keys_of profile secret file) file held
IsReadable (OnPages Agree) profile secret file = HasAgreeingIndexes profile secret file
IsReadable (OnPages (Find name low high)) profile secret file = HasTable profile secret name file

-- nor of a change of it
abbrev pub IsChangeable : Change → Profile → Secret → List ℕ → Type 0
IsChangeable (Stamp field value) profile secret file = IsOk (opened_with profile secret file)
IsChangeable (Settle frames) profile secret file = IsOk (opened_with (with_log profile) secret file)
IsChangeable (Rekey new) profile secret file = IsClean (keys_of profile secret file) file
IsChangeable (Migrate new) profile secret file = (held : Content) × Opens (keys_of profile secret file) file held × HasFewPages new held

-- nothing stands in the way of the command
abbrev pub IsServable : Command → List Secret → Files → Type 0
IsServable Probe secrets files = ForOne secrets (λ secret. IsProbed secret files)
IsServable (Recover profile) secrets files = IsOk (recovery_of profile files)
IsServable (Read profile reading) secrets files = ForOne secrets (λ secret. AfterRecovery profile files (IsReadable reading profile secret))
IsServable (ChangeFile profile change) secrets files = ForTwo secrets (λ first second. AfterRecovery profile files (IsChangeable change profile first))
IsServable (Make profile rows) secrets files = ForOne secrets (λ secret. CanMake profile rows files)

-- The words make a command that they don't refuse, its key lines give their secrets, and nothing stands in its way.
pub record CanBeServed (words : List (List ℕ)) (left : List ℕ) (files : Files) : Type 0 where
  pub command : Command
  pub is_form : form words ≡ Some command
  pub no_refusal : word_refusal command ≡ None
  pub secrets : List Secret
  pub gave : key_lines (asked_keys command) left ≡ Ok secrets
  pub servable : IsServable command secrets files

-- ---- a file that stands alone

-- Main is this file, and no journal is there
abbrev pub standing : File → Option File → Files
standing file fresh = record { main = Some file; journal = None; fresh = fresh }

-- the command is on a file of this profile, and whether it can be carried out rests on no size of the content; `probe` finds what it tries
abbrev pub IsForAnySize : Profile → Command → Type 0
IsForAnySize profile Probe = IsTried profile
IsForAnySize profile (Recover other) = other ≡ profile
IsForAnySize profile (Read other Tags) = other ≡ profile
IsForAnySize profile (Read other Header) = other ≡ profile
IsForAnySize profile (Read other Salvage) = other ≡ profile
IsForAnySize profile (Read other (OnPages Verify)) = other ≡ profile
IsForAnySize profile (Read other (OnPages Export)) = other ≡ profile
IsForAnySize profile (Read other (OnPages Agree)) = ⊥
IsForAnySize profile (Read other (OnPages (Find name low high))) = ⊥
IsForAnySize profile (ChangeFile old (Stamp field value)) = old ≡ profile
IsForAnySize profile (ChangeFile old (Settle frames)) = (old ≡ profile) × (profile.reads_log ≡ false)
IsForAnySize profile (ChangeFile old (Rekey new)) = old ≡ profile
IsForAnySize profile (ChangeFile old (Migrate new)) = ⊥
IsForAnySize profile (Make other rows) = ⊥

-- ---- what follows

-- one answer is due, which is Done with a report
abbrev pub IsDoneAlone : List Answer → Type 0
IsDoneAlone answers = (report : List ℕ) × (answers ≡ done report ∷ [])

-- none of these counts rose, from before to now
abbrev pub NoneRose : List (ℕ × ℕ) → Type 0
NoneRose [] = Unit {0}
NoneRose ((before, now) ∷ rest) = (Rose before now → ⊥) × NoneRose rest

abbrev pub IsDoneOrStarved : Status → Type 0
IsDoneOrStarved status = (status ≡ Done) ⊎ (status ≡ OutOfMemory)
