-- Where the clauses of a key line speak.
use Rattle.std.specs.Prelude.{Result, Ok, Err}
use Rattle.cipher_profile.specs.declared.key_line.KeyError.{KeyError}
use Rattle.cipher_profile.specs.declared.key_line.KeyError.TheVariants.{KeyMissing, KeyEmpty, KeyTooLong, KeyForm, KeyUnsalted, KeyNotHex, SourceFault}

-- a fact for every answer but that the source failed
abbrev pub UnlessFault : {T : Type 0} → Result T KeyError → Type 0 → Type 0
UnlessFault (Ok _) P = P
UnlessFault (Err KeyMissing) P = P
UnlessFault (Err KeyEmpty) P = P
UnlessFault (Err KeyTooLong) P = P
UnlessFault (Err KeyForm) P = P
UnlessFault (Err KeyUnsalted) P = P
UnlessFault (Err KeyNotHex) P = P
UnlessFault (Err SourceFault) P = Unit {0}
