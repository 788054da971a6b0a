-- What looks told of a folder holds as long as the same is noted.
use Rattle.std.proofs.Common.{◌≡◌, ◌∙◌, ℕ, IsTrue, None, OnOk, Option, Result, Ok, Err, ap, false, is_some, subst, sym, true≢false}
use Rattle.std.proofs.lemmas.Result.{on_ok_weaker}
use Rattle.edge_files.specs.Looks.{IsAsLeft, IsGuarded, IsStillNamed, Looks, SameNotes, looks_at, mark_at}
use Rattle.edge_files.specs.Purposes.{is_on_log}
use Rattle.edge_files.specs.declared.folder.Folder.{Folder}
use Rattle.edge_files.specs.declared.role_file.RoleFile.{RoleFile}
use Rattle.system_calls.specs.System.{System}
use Rattle.system_calls.specs.declared.found.Found.{Found}
use Rattle.system_calls.specs.declared.found.Identity.{Identity}

pub is_open : (old new : RoleFile) → new ≡ old → IsTrue (is_some old.identity) → IsTrue (is_some new.identity)
is_open old new same there = subst (λ (file : RoleFile). IsTrue (is_some file.identity)) (sym same) there

pub guarded_then : (looks : Looks) (old new : Folder) → IsGuarded looks old → SameNotes old new → IsGuarded looks new
guarded_then looks old new guarded same =
    record {
      named = subst (λ (file : RoleFile). IsStillNamed looks file) (sym same.main) guarded.named;
      unwritten = ap (λ (file : RoleFile). mark_at looks file) same.main ∙ guarded.unwritten ∙ sym same.mark;
      journal = subst (λ (file : RoleFile). IsStillNamed looks file) (sym same.journal) guarded.journal;
      left = λ off.
          subst (λ (file : RoleFile). IsAsLeft looks file new.gate) (sym same.journal)
          (subst (λ (gate : Option ℕ). IsAsLeft looks old.journal gate) (sym same.gate) (guarded.left (ap is_on_log (sym same.purpose) ∙ off)));
      log = λ lays.
          let seen = guarded.log (sym same.purpose ∙ lays) in
          (seen.0, same.seen seen.0 seen.1, ap (λ (file : RoleFile). mark_at looks file) same.journal ∙ seen.2);
    }

pub is_open_still : (old new : Option Identity) → new ≡ old → IsTrue (is_some old) → IsTrue (is_some new)
is_open_still old new same there = subst (λ (it : Option Identity). IsTrue (is_some it)) (sym same) there

-- behind what was done, whatever comes of the call that is the last
pub on_ok_of : {T E P : Type 0} (r : Result T E) → P → OnOk r P
on_ok_of (Ok x) p = p
on_ok_of (Err e) p = tt

-- an outcome that is handed on as it is
pub handed_on : {T E P Q : Type 0} (r done : Result T E) → done ≡ r → (P → Q) → OnOk r P → OnOk done Q
handed_on {T = T} {E = E} {Q = Q} r done is weaker held = subst (λ (it : Result T E). OnOk it Q) (sym is) (on_ok_weaker r weaker held)

-- The journal is as it was left with the byte that was noted before, as long as the same is noted.
pub left_then : (looks : Looks) (old new : Folder) (byte gate : Option ℕ) → byte ≡ gate → SameNotes old new → (is_on_log old.purpose ≡ false → IsAsLeft looks old.journal byte)
    → is_on_log new.purpose ≡ false → IsAsLeft looks new.journal gate
left_then looks old new byte gate is same left off =
    subst (λ (file : RoleFile). IsAsLeft looks file gate) (sym same.journal)
    (subst (λ (it : Option ℕ). IsAsLeft looks old.journal it) is (left (ap is_on_log (sym same.purpose) ∙ off)))

-- of a journal that is begun no first byte is known
pub guarded_ungated : (looks : Looks) (old new : Folder) → new.main ≡ old.main → new.journal ≡ old.journal → new.mark ≡ old.mark → new.purpose ≡ old.purpose → new.seen ≡ old.seen
    → new.gate ≡ None → IsGuarded looks old → IsGuarded looks new
guarded_ungated looks old new main journal mark purpose seen none guarded =
    record {
      named = subst (λ (file : RoleFile). IsStillNamed looks file) (sym main) guarded.named;
      unwritten = ap (λ (file : RoleFile). mark_at looks file) main ∙ guarded.unwritten ∙ sym mark;
      journal = subst (λ (file : RoleFile). IsStillNamed looks file) (sym journal) guarded.journal;
      left = λ off it first is gate. absurd (true≢false (sym (ap (λ (byte : Option ℕ). is_some byte) (sym none ∙ gate))));
      log = λ lays.
          let log = guarded.log (sym purpose ∙ lays) in
          (log.0, seen ∙ log.1, ap (λ (file : RoleFile). mark_at looks file) journal ∙ log.2);
    }

-- The file that is open is not opened again, and nothing else of what is noted changes.
pub attended : (old new : Folder) → new.main ≡ old.main → new.journal ≡ old.journal → new.fresh ≡ old.fresh → new.mark ≡ old.mark → new.gate ≡ old.gate → new.purpose ≡ old.purpose
    → new.seen ≡ old.seen → new.is_entered ≡ old.is_entered → SameNotes old new
attended old new main journal fresh mark gate purpose seen entered =
    record { main = main; journal = journal; fresh = fresh; mark = mark; gate = gate; purpose = purpose; seen = λ log is. seen ∙ is; entered = entered }

module _ {C F : Type 0} (system : C → System) (found : C → ℕ → Found) (calls : F → C) where
  -- where the open files are the very same
  pub guarded_again : {files next : F} {old new : Folder} → next ≡ files → SameNotes old new → IsGuarded (looks_at system found (calls files)) old
      → IsGuarded (looks_at system found (calls next)) new
  guarded_again {files = files} {next = next} {old = old} {new = new} again same guarded =
      subst (λ (it : F). IsGuarded (looks_at system found (calls it)) new) (sym again) (guarded_then (looks_at system found (calls files)) old new guarded same)

  -- The journal is as it was left with the byte that was noted before, where the open files are the very same.
  pub left_again : {files next : F} {folder : Folder} (gate : Option ℕ) → next ≡ files → folder.gate ≡ gate → IsGuarded (looks_at system found (calls files)) folder
      → is_on_log folder.purpose ≡ false → IsAsLeft (looks_at system found (calls next)) folder.journal gate
  left_again {files = files} {next = next} {folder = folder} gate again same guarded off =
      subst (λ (it : F). IsAsLeft (looks_at system found (calls it)) folder.journal gate) (sym again)
      (subst (λ (it : Option ℕ). IsAsLeft (looks_at system found (calls files)) folder.journal it) same (guarded.left off))
