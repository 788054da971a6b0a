-- Why an export stops.
use Rattle.std.specs.Prelude.{ℕ, Bool, true, false, ⊤}
use Rattle.db_format.specs.Pages.{Pages}
use Rattle.btree_model.specs.Parts.{parts}
use Rattle.btree_walk.specs.declared.error.WalkError.{WalkError}
use Rattle.btree_walk.specs.declared.error.WalkError.TheVariants.{Defect, Source, OutOfMemory}
use Rattle.schema_map.specs.Parts.{IsRefusedEarly}
use Rattle.export_rows.specs.declared.error.ExportError.{ExportError}
use Rattle.export_rows.specs.declared.error.ExportError.TheVariants.{Walk, OutputFault}

-- this holds of the error, where it is one of the walk
abbrev pub IfWalk : {R : Type 0} → (WalkError R → Type 0) → ExportError R → Type 0
IfWalk P (Walk error) = P error
IfWalk P OutputFault = ⊤

-- after the whole database was checked: no defect is found, and a refusal is one of a page of its parts
abbrev pub IsLateWalk : {R : Type 0} → (Pages → ℕ → R → Type 0) → Pages → WalkError R → Type 0
IsLateWalk refuses pages (Defect defect) = ⊥
IsLateWalk refuses pages (Source refusal) = IsRefusedEarly refuses pages (parts pages) refusal
IsLateWalk refuses pages OutOfMemory = ⊤

-- the error is a defect
abbrev pub is_export_defect : {R : Type 0} → ExportError R → Bool
is_export_defect (Walk (Defect defect)) = true
is_export_defect (Walk (Source refusal)) = false
is_export_defect (Walk OutOfMemory) = false
is_export_defect OutputFault = false

-- why an export stops whose database was checked, and had no defect
abbrev pub after_check : {R : Type 0} → ExportError R → ExportError R
after_check (Walk (Defect defect)) = Walk OutOfMemory
after_check (Walk (Source refusal)) = Walk (Source refusal)
after_check (Walk OutOfMemory) = Walk OutOfMemory
after_check OutputFault = OutputFault
