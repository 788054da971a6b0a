-- Whether the text of an index is one of those that the grammar reads: an index over plain columns, without WHERE.
use Rattle.std.specs.Prelude.{Bool, true, false, Result, Ok, Err}
use Rattle.sqlite_ast.specs.declared.Statement.{Statement}
use Rattle.sqlite_ast.specs.declared.Statement.TheVariants.{CreateIndex}
pub use Rattle.sqlite_syntax.specs.Statement.{parse}
use Rattle.sqlite_syntax.specs.declared.error.ParseError.{ParseError}
use Rattle.sqlite_syntax.specs.declared.statement.Parsed.{Parsed}

-- the statement makes an index
abbrev pub is_index : Statement → Bool
is_index (CreateIndex index) = true
is_index _ = false

-- what reading a text came to is such a statement
abbrev pub reads_as_index : Result Parsed ParseError → Bool
reads_as_index (Ok parsed) = is_index parsed.statement
reads_as_index (Err error) = false
