use Rattle.std.proofs.Common.{◌≡◌, map, string_bytes, take}
use Rattle.sqlcipher_tool.specs.Words.{texts}
use Rattle.sqlcipher_cli.proofs.borrowed.Given as goal

abbrev pub invariant-loop-word : goal.invariant-loop-word
invariant-loop-word l = texts l.list.items ≡ map string_bytes (take l.word-index l.words)
