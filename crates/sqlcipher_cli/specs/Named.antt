-- The commands by their names, and which command words are of: that of the name in front. They are those behind FILE. Where `run` carries
-- a command out, it is the one of that name.
use Rattle.std.specs.Prelude.{ℕ, Bool, true, false, List, [], ◌∷◌, Option, Some, None, codes, if◌then◌else◌}
use Rattle.std.specs.Str.{bytes_eq}
use Rattle.sqlcipher_cli.specs.declared.commands.Word.{Word}
use Rattle.sqlcipher_cli.specs.declared.commands.Word.TheVariants.{Tags, Header, Verify, Export, Agree, Salvage, Find, Probe, Recover, Settle, Stamp, Rekey, Migrate, Make, Play}
use Rattle.sqlcipher_tool.specs.declared.change.Change.{Change}
use Rattle.sqlcipher_tool.specs.declared.change.Change.TheVariants.{Stamp as StampChange, Settle as SettleChange, Rekey as RekeyChange, Migrate as MigrateChange}
use Rattle.sqlcipher_tool.specs.declared.command.Command.{Command}
use Rattle.sqlcipher_tool.specs.declared.command.Command.TheVariants.{Probe as ProbeFile, Recover as RecoverFile, Read as ReadFile, Change as ChangeFile, Make as MakeFile}
use Rattle.sqlcipher_tool.specs.declared.reading.Job.{Job}
use Rattle.sqlcipher_tool.specs.declared.reading.Job.TheVariants.{Verify as VerifyJob, Export as ExportJob, Agree as AgreeJob, Find as FindJob}
use Rattle.sqlcipher_tool.specs.declared.reading.Reading.{Reading}
use Rattle.sqlcipher_tool.specs.declared.reading.Reading.TheVariants.{Tags as ReadTags, Header as ReadHeader, Salvage as ReadSalvage, OnPages}

-- ---- by their names

-- each command behind its name
abbrev pub commands : List (List ℕ × Word)
commands =
    (codes "tags", Tags)
    ∷ (codes "header", Header)
    ∷ (codes "verify", Verify)
    ∷ (codes "export", Export)
    ∷ (codes "agree", Agree)
    ∷ (codes "salvage", Salvage)
    ∷ (codes "find", Find)
    ∷ (codes "probe", Probe)
    ∷ (codes "recover", Recover)
    ∷ (codes "settle", Settle)
    ∷ (codes "stamp", Stamp)
    ∷ (codes "rekey", Rekey)
    ∷ (codes "migrate", Migrate)
    ∷ (codes "make", Make)
    ∷ (codes "play", Play)
    ∷ []

-- the first of these whose name the text is
abbrev pub named_in : List (List ℕ × Word) → List ℕ → Option Word
named_in [] text = None
named_in (command ∷ commands) text = if bytes_eq text command.0 then Some command.1 else named_in commands text

-- the command whose name the text is
abbrev pub word_named : List ℕ → Option Word
word_named text = named_in commands text

-- the command of which the words are
abbrev pub command_of : List (List ℕ) → Option Word
command_of [] = None
command_of (name ∷ rest) = word_named name

-- ---- those that `run` carries out

abbrev pub word_of_job : Job → Word
word_of_job VerifyJob = Verify
word_of_job ExportJob = Export
word_of_job AgreeJob = Agree
word_of_job (FindJob name low high) = Find

abbrev pub word_of_reading : Reading → Word
word_of_reading ReadTags = Tags
word_of_reading ReadHeader = Header
word_of_reading ReadSalvage = Salvage
word_of_reading (OnPages job) = word_of_job job

abbrev pub word_of_change : Change → Word
word_of_change (StampChange field value) = Stamp
word_of_change (SettleChange frames) = Settle
word_of_change (RekeyChange new) = Rekey
word_of_change (MigrateChange new) = Migrate

abbrev pub word_of : Command → Word
word_of ProbeFile = Probe
word_of (RecoverFile profile) = Recover
word_of (ReadFile profile reading) = word_of_reading reading
word_of (ChangeFile profile change) = word_of_change change
word_of (MakeFile profile rows) = Make

-- it only reads the file, which it may do with its log
abbrev pub reads : Command → Bool
reads ProbeFile = false
reads (RecoverFile profile) = false
reads (ReadFile profile reading) = true
reads (ChangeFile profile change) = false
reads (MakeFile profile rows) = false

-- ---- what they do

abbrev pub only_reads : Word → Bool
only_reads Tags = true
only_reads Header = true
only_reads Verify = true
only_reads Export = true
only_reads Agree = true
only_reads Salvage = true
only_reads Find = true
only_reads Probe = false
only_reads Recover = false
only_reads Settle = false
only_reads Stamp = false
only_reads Rekey = false
only_reads Migrate = false
only_reads Make = false
only_reads Play = false

abbrev pub changes_file : Word → Bool
changes_file Tags = false
changes_file Header = false
changes_file Verify = false
changes_file Export = false
changes_file Agree = false
changes_file Salvage = false
changes_file Find = false
changes_file Probe = false
changes_file Recover = false
changes_file Settle = true
changes_file Stamp = true
changes_file Rekey = true
changes_file Migrate = true
changes_file Make = true
changes_file Play = true
