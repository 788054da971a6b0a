-- Nothing stands in the way of a command that reads a made file, nor of a recovery where no file is.
use Rattle.std.proofs.Common.{List, ◌≡◌, ℕ, Bool, Ok, ◌≤◌, ◌*◌, ◌/◌, true, false, [], ◌∷◌, length, Option, Result, refl, sym, ap, subst, ◌∙◌, arith}
use Rattle.std.proofs.Math.Nat.{mul-div_cancel}
use Rattle.std.proofs.lemmas.Nat.{le-div}
use Rattle.std.specs.Prelude.{IsOk, codes, is_ok}
use Rattle.std.specs.Cmp.Derive.{both_true}
use Rattle.cipher_profile.specs.declared.keys.Secret.{Secret}
use Rattle.cipher_profile.specs.declared.keys.Secret.TheVariants.{NoKey}
use Rattle.cipher_profile.specs.declared.profile.Profile.{Profile}
use Rattle.cipher_profile.specs.Profile.{IsListed, sqlcipher_4, with_log}
use Rattle.profile_word.specs.Parts.{parts}
use Rattle.profile_word.specs.Tried.{IsTried}
use Rattle.profile_word.specs.Word.{profile_from, profile_named}
use Rattle.db_format.specs.Count.{largest_database}
use Rattle.edge_model.specs.Files.{File, no_files}
use Rattle.make_job.specs.Made.{IsMade, made_header}
use Rattle.page_codec.specs.Page.{FileKeys, keys_of}
use Rattle.db_format.specs.Header.{header_read, header_read_as}
use Rattle.pager.specs.File.{whole_pages}
use Rattle.pager.specs.Opening.{Opened, file_opened}
use Rattle.pager.specs.Pages.{is_page_number}
use Rattle.pager.specs.declared.opening.OpenError.{OpenError}
use Rattle.pager.proofs.BatchLemmas.{number_is}
use Rattle.sqlcipher_tool.specs.declared.command.Command.{Command}
use Rattle.sqlcipher_tool.specs.declared.command.Command.TheVariants.{Probe, Recover, Read, Change as ChangeFile, Make}
use Rattle.sqlcipher_tool.specs.declared.change.Change.TheVariants.{Stamp, Settle, Rekey, Migrate}
use Rattle.sqlcipher_tool.specs.declared.reading.Job.TheVariants.{Verify, Export, Agree, Find}
use Rattle.sqlcipher_tool.specs.declared.reading.Reading.TheVariants.{Tags, Header, Salvage, OnPages}
use Rattle.sqlcipher_tool.specs.Opening.{opened_with}
use Rattle.sqlcipher_tool.specs.Plain.{IsClean}
use Rattle.sqlcipher_tool.specs.Maps.{first_plain}
use Rattle.sqlcipher_tool.specs.Servable.{CanBeServed, HasServablePages, HasTags, IsProbed, IsForAnySize, IsServable, standing}
use Rattle.sqlcipher_tool.proofs.Completeness.{listed_some}
use Rattle.sqlcipher_tool.proofs.Databases.{counted_pages}
use Rattle.sqlcipher_tool.proofs.MadeFile.{made_clean}
use Rattle.sqlcipher_tool.proofs.Numbers.{le_true}
use Rattle.sqlcipher_tool.proofs.OpenedParts.{IsOpen, open_parts}
use Rattle.sqlcipher_tool.proofs.Salvaging.{page_opened}
use Rattle.sqlcipher_tool.proofs.Unmarked.{file_set, keys_set_of}

module _ (profile : Profile) (secret : Secret) (rows : ℕ) (file : File) (fresh : Option File) (listed : IsListed profile) (made : IsMade profile secret rows file.bytes) where
  abbrev keys : FileKeys
  keys = keys_of profile secret file.bytes

  is_open : IsOpen keys file.bytes (made_header profile made.count) made.count
  is_open = open_parts keys file.bytes (made_header profile made.count) made.count made.opens

  whole : whole_pages profile file.bytes ≡ made.count
  whole = ap (λ (n : ℕ). n / profile.page_size) made.size ∙ mul-div_cancel made.count {n = profile.page_size} (listed_some profile listed)

  has_tags : HasTags profile secret file.bytes
  has_tags = record {
    some = omega (arith, le-div 1 (length file.bytes) profile.page_size (listed_some profile listed) (omega (arith, is_open.long)));
    few = subst (λ (n : ℕ). n * profile.page_size ≤ largest_database) (sym whole) (counted_pages (made_header profile made.count) (length file.bytes) made.count is_open.counts).small;
    fit = is_open.fit;
    accepted = λ n number. made.accepted n (subst (λ (count : ℕ). is_page_number count n ≡ true) whole number);
  }

  has_pages : HasServablePages profile secret file.bytes
  has_pages =
      let first : is_page_number (whole_pages profile file.bytes) 1 ≡ true = number_is (whole_pages profile file.bytes) 1 (omega arith) (omega (arith, has_tags.some)) in
      record { some = has_tags.some; few = has_tags.few; opens = page_opened keys file.bytes 1 first (has_tags.accepted 1 first) }

  opens : IsOk (opened_with profile secret file.bytes)
  opens = ap (λ (r : Result Opened OpenError). is_ok r) made.opens

  clean : IsClean keys file.bytes
  clean = (made_clean profile secret rows file.bytes made).0

  probed : IsTried profile → IsProbed secret (standing file fresh)
  probed tried = record {
    no_journal = refl;
    profile = profile;
    tried = tried;
    fit = both_true (le_true profile.page_size (length file.bytes) is_open.long) is_open.fit;
  }

  -- it has no marks, so that `settle` opens it too
  settles : profile.reads_log ≡ false → IsOk (opened_with (with_log profile) secret file.bytes)
  settles unset =
      let read : header_read (first_plain keys file.bytes) profile.page_size profile.reserve ≡ Ok (made_header profile made.count) =
      subst (λ (b : Bool). header_read_as b (first_plain keys file.bytes) profile.page_size profile.reserve ≡ Ok (made_header profile made.count)) unset is_open.read in
      let set = keys_set_of true profile.reads_log profile secret file.bytes in
      let as_made : file_opened (keys_of (with_log profile) secret file.bytes) file.bytes ≡ file_opened keys file.bytes =
      ap (λ (k : FileKeys). file_opened k file.bytes) (sym set) ∙ file_set true keys file.bytes (made_header profile made.count) read in
      ap (λ (r : Result Opened OpenError). is_ok r) (as_made ∙ made.opens)

  pub made_servable : (second : Secret) (command : Command) → IsForAnySize profile command → IsServable command (secret ∷ second ∷ []) (standing file fresh)
  made_servable second Probe is = probed is
  made_servable second (Recover other) is = refl
  made_servable second (Read other Tags) is =
      subst (λ (p : Profile). IsServable (Read p Tags) (secret ∷ second ∷ []) (standing file fresh)) (sym is) (record { recovers = refl; holds = has_tags })
  made_servable second (Read other Header) is =
      subst (λ (p : Profile). IsServable (Read p Header) (secret ∷ second ∷ []) (standing file fresh)) (sym is) (record { recovers = refl; holds = opens })
  made_servable second (Read other Salvage) is =
      subst (λ (p : Profile). IsServable (Read p Salvage) (secret ∷ second ∷ []) (standing file fresh)) (sym is) (record { recovers = refl; holds = has_pages })
  made_servable second (Read other (OnPages Verify)) is =
      subst (λ (p : Profile). IsServable (Read p (OnPages Verify)) (secret ∷ second ∷ []) (standing file fresh)) (sym is) (record { recovers = refl; holds = clean })
  made_servable second (Read other (OnPages Export)) is =
      subst (λ (p : Profile). IsServable (Read p (OnPages Export)) (secret ∷ second ∷ []) (standing file fresh)) (sym is) (record { recovers = refl; holds = (clean.held, clean.opens) })
  made_servable second (Read other (OnPages Agree)) is = absurd is
  made_servable second (Read other (OnPages (Find name low high))) is = absurd is
  made_servable second (ChangeFile other (Stamp field value)) is =
      subst (λ (p : Profile). IsServable (ChangeFile p (Stamp field value)) (secret ∷ second ∷ []) (standing file fresh)) (sym is) (record { recovers = refl; holds = opens })
  made_servable second (ChangeFile other (Settle frames)) is =
      subst (λ (p : Profile). IsServable (ChangeFile p (Settle frames)) (secret ∷ second ∷ []) (standing file fresh)) (sym is.0) (record { recovers = refl; holds = settles is.1 })
  made_servable second (ChangeFile other (Rekey new)) is =
      subst (λ (p : Profile). IsServable (ChangeFile p (Rekey new)) (secret ∷ second ∷ []) (standing file fresh)) (sym is) (record { recovers = refl; holds = clean })
  made_servable second (ChangeFile other (Migrate new)) is = absurd is
  made_servable second (Make other count) is = absurd is

-- where no file is there, `recover` has nothing to do
pub nothing_servable : (left : List ℕ) → CanBeServed (codes "recover" ∷ codes "4" ∷ []) left no_files
unfolding profile_named profile_from parts
nothing_servable left = record { command = Recover sqlcipher_4; is_form = refl; no_refusal = refl; secrets = NoKey ∷ NoKey ∷ []; gave = refl; servable = refl }
