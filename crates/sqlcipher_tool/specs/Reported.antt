-- What a report says of the file on which it is due.
use Rattle.std.specs.Prelude.{◌≡◌, ◌++◌, ℕ, Bool, IsTrue, List}
use Rattle.btree_model.specs.Content.{Content}
use Rattle.btree_model.specs.Parts.{counts}
use Rattle.cipher_profile.specs.declared.keys.Secret.{Secret}
use Rattle.cipher_profile.specs.declared.profile.Profile.{Profile}
use Rattle.edge_model.specs.Files.{Files}
use Rattle.export_rows.specs.Report.{export_report}
use Rattle.index_report.specs.Report.{index_text}
use Rattle.page_codec.specs.Page.{FileKeys, keys_of}
use Rattle.pager.specs.Pages.{opened_pages}
use Rattle.sqlcipher_tool.specs.Plain.{IsClean, Opens}
use Rattle.sqlcipher_tool.specs.Recovered.{recovered_main}
use Rattle.sqlcipher_tool.specs.Servable.{HasAgreeingIndexes}
use Rattle.sqlcipher_tool.specs.Text.{migrated_report, rekeyed_report, verify_report}

-- a text was printed, of which this holds and the recovered file
abbrev pub Reports : Profile → Files → (List ℕ → List ℕ → Type 0) → Bool → List ℕ → List ℕ → Type 0
Reports profile files says tells before after = (text : List ℕ) × says (recovered_main profile files) text × (IsTrue tells → after ≡ before ++ text)

-- the file is clean, and the text has its counts
abbrev pub IsVerified : FileKeys → List ℕ → List ℕ → Type 0
IsVerified keys file text = (clean : IsClean keys file) × (text ≡ verify_report (counts (opened_pages keys file clean.opens.count)))

-- the file opens, and the text is that of its content
abbrev pub IsExported : FileKeys → List ℕ → List ℕ → Type 0
IsExported keys file text = (held : Content) × Opens keys file held × (text ≡ export_report held)

-- the file opens, its indexes agree with their tables, and the text says so
abbrev pub IsAgreed : Profile → Secret → List ℕ → List ℕ → Type 0
IsAgreed profile secret file text = (has : HasAgreeingIndexes profile secret file) × (text ≡ index_text (opened_pages (keys_of profile secret file) file has.opened.count))

-- the file is clean, and the text has the count of its pages
abbrev pub CanBeRekeyed : FileKeys → List ℕ → List ℕ → Type 0
CanBeRekeyed keys file text = (clean : IsClean keys file) × (text ≡ rekeyed_report clean.opens.count)

-- the file opens, and the text has the count of the new file's pages
abbrev pub CanBeMigrated : FileKeys → List ℕ → ℕ → List ℕ → Type 0
CanBeMigrated keys file count text = (held : Content) × Opens keys file held × (text ≡ migrated_report count)
