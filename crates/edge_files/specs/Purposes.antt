-- What a run is for.
use Rattle.std.specs.Prelude.{Bool, true, false}
use Rattle.edge_files.specs.declared.purpose.Purpose.{Purpose}
use Rattle.edge_files.specs.declared.purpose.Purpose.TheVariants.{Command, Probe, ReadLog, LayLog, RecoverBesideLog}

-- whether the role Journal is that of the log
abbrev pub is_on_log : Purpose → Bool
is_on_log ReadLog = true
is_on_log LayLog = true
is_on_log Command = false
is_on_log Probe = false
is_on_log RecoverBesideLog = false
