use Rattle.std.proofs.Common.{◌≡◌, ◌++◌, take}
use Rattle.std.specs.Io.{StartsWith}
use Rattle.std.specs.List.{flat_map}
use Rattle.db_format.proofs.TextLemmas.{hex_of}
use Rattle.db_format.proofs.value_text.append_hex.Given as goal

-- the text before, and the digits so far
abbrev pub invariant-loop-byte : goal.invariant-loop-byte
invariant-loop-byte l =
    record {
      begins : StartsWith l.out.items l.fn.out.items;
      whole : l.out.items ≡ l.fn.out.items ++ flat_map hex_of (take l.byte-index l.bytes);
    }
