-- A census that has come through the freelist, as contracts see it.
use Rattle.std.specs.Prelude.{Bool, List}
use Rattle.space_map.specs.FreeMap.{FreePages}

-- the marks, and the freelist
pub record FreeMarks : Type 0 where
  pub marks : List Bool
  pub free : FreePages
