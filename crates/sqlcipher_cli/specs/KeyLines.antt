-- The lines of standard input that words take, and which key lines these are. The words are those behind FILE.
use Rattle.std.specs.Prelude.{ℕ, Bool, true, false, List, [], ◌∷◌, codes}
use Rattle.sqlcipher_cli.specs.declared.commands.Lines.{Lines}
use Rattle.sqlcipher_cli.specs.declared.commands.Lines.TheVariants.{Nothing, Script, Old, New, Both, OldAlone, NewAlone}
use Rattle.sqlcipher_cli.specs.declared.commands.Word.{Word}
use Rattle.sqlcipher_cli.specs.declared.commands.Word.TheVariants.{Tags, Header, Verify, Export, Agree, Salvage, Find, Probe, Recover, Settle, Stamp, Rekey, Migrate, Make, Play}

-- the second of the words, a version; 4 where there is none
abbrev pub version_of : List (List ℕ) → List ℕ
version_of [] = codes "4"
version_of (name ∷ []) = codes "4"
version_of (name ∷ version ∷ rest) = version

-- the third of them
abbrev pub third_of : List (List ℕ) → List ℕ
third_of [] = []
third_of (name ∷ []) = []
third_of (name ∷ version ∷ []) = []
third_of (name ∷ version ∷ third ∷ rest) = third

-- the lines of a command on one file, by whether it is plain
abbrev pub lines_of_one : Lines → Bool → Lines
lines_of_one lines true = Nothing
lines_of_one lines false = lines

-- those of one with a new file, by whether the old one is plain, and the new one
abbrev pub lines_of_two : Bool → Bool → Lines
lines_of_two true true = Nothing
lines_of_two true false = NewAlone
lines_of_two false true = OldAlone
lines_of_two false false = Both

-- those of this command
abbrev pub lines_of : Word → Bool → Bool → Lines
lines_of Tags plain other = lines_of_one Old plain
lines_of Header plain other = lines_of_one Old plain
lines_of Verify plain other = lines_of_one Old plain
lines_of Export plain other = lines_of_one Old plain
lines_of Agree plain other = lines_of_one Old plain
lines_of Salvage plain other = lines_of_one Old plain
lines_of Find plain other = lines_of_one Old plain
lines_of Probe plain other = Old
lines_of Recover plain other = Nothing
lines_of Settle plain other = lines_of_one Old plain
lines_of Stamp plain other = lines_of_one Old plain
lines_of Rekey plain other = lines_of_two plain other
lines_of Migrate plain other = lines_of_two plain other
lines_of Make plain other = lines_of_one New plain
lines_of Play plain other = Script

-- whether the key of the file is among them, or of the one that is made; and whether a second one is, of the new file
abbrev pub taken : Lines → List Bool
taken Nothing = false ∷ false ∷ []
taken Script = false ∷ false ∷ []
taken Old = true ∷ false ∷ []
taken New = true ∷ false ∷ []
taken Both = true ∷ true ∷ []
taken OldAlone = true ∷ false ∷ []
taken NewAlone = false ∷ true ∷ []
