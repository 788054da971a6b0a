-- The three picks are images.
use Rattle.std.proofs.Common.{◌≡◌, ◌⊎◌, inl, inr, ⊎_elim, ℕ, ◌+◌, ◌-◌, ◌≤◌, List, [], ◌∷◌, ◌++◌, length, take, map, replicate, Option, Some, None, Bool, true, false, if◌then◌else◌, ◌==◌, refl, sym, ◌∙◌, ap, subst, arith, eq-eqb, max, length-append}
use Rattle.std.proofs.Math.ListN.{get_or-append}
use Rattle.std.proofs.lemmas.List.{length-replicate, length-map}
use Rattle.std.proofs.lemmas.Bool.{eqb-true}
use Rattle.edge_model.specs.Files.{File, Files, file_at, put_at, number_of, bytes_of, with_file_bytes, spliced, written, Torn, Shorter}
use Rattle.edge_model.specs.Images.{MayStep, Changes, IsAsRead, HasSynced, SameNames}
use Rattle.edge_model.specs.Bytes.{shorter_cut, torn_not, length-spliced, spliced_below, spliced_above}
use Rattle.edge_memory.specs.Log.{shown_of, files_of, reads_after, ImagesAfter}
use Rattle.edge_memory.specs.LogLaws.{changes_none, changes_names, changed_whole, same_names, same_file, reads_now_after}
use Rattle.edge_memory.specs.Picks.{as_read, as_synced, bare_after, lost_after, torn_write, torn_after, picked}
use Rattle.edge_memory.specs.declared.pick.ImagePick.{ImagePick}
use Rattle.edge_memory.specs.declared.pick.ImagePick.TheVariants.{Lost, Kept, Torn as TornPick}
use Rattle.edge_memory.proofs.AsRead.{put_same, both_none, role_as_read, moved_as_read, main_is_not_fresh}
use Rattle.edge_memory.proofs.Names.{journal_apart, others_apart}
use Rattle.edge_memory.specs.declared.mem_disk.contents.Contents.{Contents}
use Rattle.edge_memory.specs.declared.mem_disk.contents.Call.{Call}
use Rattle.edge_memory.specs.declared.mem_disk.contents.Call.TheVariants.{Write, Cut, Sync, Create, Remove, Rename, SyncFolder}
use Rattle.edge_model.specs.declared.role.Role.{Role}
use Rattle.edge_model.specs.declared.role.Role.TheVariants.{Main, Journal, Fresh}

-- it is the file as it was, or the one that is read
choose : (now file : Option File) → (as_read now file ≡ file) ⊎ ((number_of file ≡ number_of now) × (as_read now file ≡ now))
choose None file = inl refl
choose (Some now) None = inl refl
choose (Some now) (Some file) = go (now.number == file.number) refl
  where
    go : (b : Bool) → (now.number == file.number) ≡ b
        → ((if now.number == file.number then Some now else Some file) ≡ Some file) ⊎ ((Some file.number ≡ Some now.number) × ((if now.number == file.number then Some now else Some file) ≡ Some now))
    go true is = inr (ap (λ (n : ℕ). Some n) (sym (eqb-true now.number file.number is)), ap (λ (b : Bool). if b then Some now else Some file) is)
    go false is = inl (ap (λ (b : Bool). if b then Some now else Some file) is)

as_read_number : (now file : Option File) → number_of (as_read now file) ≡ number_of file
as_read_number now file = ⊎_elim (λ same. ap number_of same) (λ both. ap number_of both.1 ∙ sym both.0) (choose now file)

as_read_is : (now file : Option File) → IsAsRead now (as_read now file)
as_read_is None file same = both_none file None same refl
as_read_is (Some now) None same = cc
as_read_is (Some now) (Some file) same = go (now.number == file.number) refl
  where
    go : (b : Bool) → (now.number == file.number) ≡ b → (if now.number == file.number then Some now else Some file) ≡ Some now
    go true is = ap (λ (b : Bool). if b then Some now else Some file) is
    go false is = let e : now.number ≡ file.number = cc in let yes_is = eq-eqb now.number file.number e in cc

module _ (start : Contents) where
  synced_image : (role : Role) (calls : List Call) (c : Files) → ImagesAfter (files_of start) calls c
      → ImagesAfter (files_of start) calls (as_synced role (reads_after (files_of start) calls) c)
  synced_image Journal calls c left =
      let now = reads_after (files_of start) calls in
      let file = as_read now.journal c.journal in
      ⊎_elim
      (λ same. subst (ImagesAfter (files_of start) calls) (sym (put_same c Journal file (sym same))) left)
      (λ both. subst (λ (f : Option File). ImagesAfter (files_of start) calls (put_at c Journal f)) (sym both.1) (role_as_read start Journal calls c left both.0))
      (choose now.journal c.journal)
  synced_image Fresh calls c left =
      let now = reads_after (files_of start) calls in
      let file = as_read now.fresh c.fresh in
      ⊎_elim
      (λ same. subst (ImagesAfter (files_of start) calls) (sym (put_same c Fresh file (sym same))) left)
      (λ both. subst (λ (f : Option File). ImagesAfter (files_of start) calls (put_at c Fresh f)) (sym both.1) (role_as_read start Fresh calls c left both.0))
      (choose now.fresh c.fresh)
  synced_image Main calls c left =
      let now = reads_after (files_of start) calls in
      let file = as_read now.main c.main in
      let moved = as_read now.main c.fresh in
      let first : ImagesAfter (files_of start) calls (put_at c Main file) = ⊎_elim
      (λ same. subst (ImagesAfter (files_of start) calls) (sym (put_same c Main file (sym same))) left)
      (λ both. subst (λ (f : Option File). ImagesAfter (files_of start) calls (put_at c Main f)) (sym both.1) (role_as_read start Main calls c left both.0))
      (choose now.main c.main) in
      ⊎_elim
      (λ same. subst (ImagesAfter (files_of start) calls) (sym (put_same (put_at c Main file) Fresh moved (sym same))) first)
      (λ both. subst (λ (f : Option File). ImagesAfter (files_of start) calls (put_at (put_at c Main file) Fresh f)) (sym both.1) (moved_as_read start calls (put_at c Main file) first both.0))
      (choose now.main c.fresh)

  synced_has : (role : Role) (calls : List Call) (c : Files) → ImagesAfter (files_of start) calls c
      → HasSynced role (reads_after (files_of start) calls) (as_synced role (reads_after (files_of start) calls) c)
  synced_has Main calls c left = record {
    main = as_read_is (reads_after (files_of start) calls).main c.main;
    journal = same_file (reads_after (files_of start) calls).main c.journal (others_apart start calls c left).0;
    fresh = as_read_is (reads_after (files_of start) calls).main c.fresh;
  }
  synced_has Journal calls c left = record {
    main = same_file (reads_after (files_of start) calls).journal c.main (journal_apart start calls c left).0;
    journal = as_read_is (reads_after (files_of start) calls).journal c.journal;
    fresh = same_file (reads_after (files_of start) calls).journal c.fresh (journal_apart start calls c left).1;
  }
  synced_has Fresh calls c left = record {
    main = same_file (reads_after (files_of start) calls).fresh c.main (main_is_not_fresh start calls c left);
    journal = same_file (reads_after (files_of start) calls).fresh c.journal (others_apart start calls c left).1;
    fresh = as_read_is (reads_after (files_of start) calls).fresh c.fresh;
  }

synced_names : (role : Role) (names now c : Files) → SameNames names c → SameNames names (as_synced role now c)
synced_names Main names now c same =
    record { main = as_read_number now.main c.main ∙ same.main; journal = same.journal; fresh = as_read_number now.main c.fresh ∙ same.fresh }
synced_names Journal names now c same = record { main = same.main; journal = as_read_number now.journal c.journal ∙ same.journal; fresh = same.fresh }
synced_names Fresh names now c same = record { main = same.main; journal = same.journal; fresh = as_read_number now.fresh c.fresh ∙ same.fresh }

put_names : (role : Role) (file other : Option File) (now c : Files) → number_of other ≡ number_of file → SameNames now c
    → SameNames (put_at now role file) (put_at c role other)
put_names Main file other now c is same = record { main = is; journal = same.journal; fresh = same.fresh }
put_names Journal file other now c is same = record { main = same.main; journal = is; fresh = same.fresh }
put_names Fresh file other now c is same = record { main = same.main; journal = same.journal; fresh = is }

changed_now : (change : List ℕ → List ℕ) (role : Role) (now c : Files) → SameNames now c → SameNames (put_at now role (with_file_bytes change (file_at now role))) c
changed_now change role now c same =
    let names =
    changes_names (λ a b. b ≡ change a) role now now (put_at now role (with_file_bytes change (file_at now role)))
    (changed_whole (λ a b. b ≡ change a) change (λ b. refl) role now) in
    record { main = same.main ∙ sym names.main; journal = same.journal ∙ sym names.journal; fresh = same.fresh ∙ sym names.fresh }

pub bare_image : (start : Contents) (calls : List Call)
    → ImagesAfter (files_of start) calls (bare_after (files_of start) calls) × SameNames (reads_after (files_of start) calls) (bare_after (files_of start) calls)
bare_image start [] = (refl, same_names (files_of start))
bare_image start (Write role at bytes ∷ earlier) =
    let before = bare_image start earlier in
    ((bare_after (files_of start) earlier, before.0, changes_none _ role _ _), changed_now (written at bytes.items) role _ _ before.1)
bare_image start (Cut role len ∷ earlier) =
    let before = bare_image start earlier in
    ((bare_after (files_of start) earlier, before.0, changes_none _ role _ _), changed_now (take len) role _ _ before.1)
bare_image start (Sync role ∷ earlier) =
    let before = bare_image start earlier in
    ((synced_image start role earlier _ before.0, synced_has start role earlier _ before.0), synced_names role _ _ _ before.1)
bare_image start (Create role ∷ earlier) =
    let before = bare_image start earlier in
    ((bare_after (files_of start) earlier, before.0, inr (before.1, refl)), put_names role _ _ _ _ refl before.1)
bare_image start (Remove role ∷ earlier) =
    let before = bare_image start earlier in
    ((bare_after (files_of start) earlier, before.0, inr (before.1, refl)), put_names role _ _ _ _ refl before.1)
bare_image start (Rename ∷ earlier) =
    let before = bare_image start earlier in
    ((bare_after (files_of start) earlier, before.0, inr (before.1, refl)), record { main = before.1.fresh; journal = before.1.journal; fresh = refl })
bare_image start (SyncFolder ∷ earlier) = let before = bare_image start earlier in ((before.0, before.1), before.1)

-- nothing since the last syncs
pub lost_image : (start : Contents) (calls : List Call) → ImagesAfter (files_of start) calls (lost_after (files_of start) calls)
lost_image start [] = refl
lost_image start (Write role at bytes ∷ earlier) = (lost_after (files_of start) earlier, lost_image start earlier, changes_none _ role _ _)
lost_image start (Cut role len ∷ earlier) = (lost_after (files_of start) earlier, lost_image start earlier, changes_none _ role _ _)
lost_image start (Sync role ∷ earlier) =
    let before = lost_image start earlier in (synced_image start role earlier _ before, synced_has start role earlier _ before)
lost_image start (Create role ∷ earlier) = (lost_after (files_of start) earlier, lost_image start earlier, inl refl)
lost_image start (Remove role ∷ earlier) = (lost_after (files_of start) earlier, lost_image start earlier, inl refl)
lost_image start (Rename ∷ earlier) = (lost_after (files_of start) earlier, lost_image start earlier, inl refl)
lost_image start (SyncFolder ∷ earlier) = let before = bare_image start earlier in (before.0, before.1)

torn_filled_by : (filler at end : ℕ) (bytes old : List ℕ) → end ≡ at + length bytes
    → Torn at (length bytes) old (spliced at bytes (old ++ replicate (end - length old) filler))
torn_filled_by filler at end bytes old is =
    let long : length (old ++ replicate (end - length old) filler) ≡ max (length old) end =
    omega (arith, length-append old (replicate (end - length old) filler), length-replicate {A = ℕ} (end - length old) filler) in
    let within : at + length bytes ≤ length (old ++ replicate (end - length old) filler) = omega (arith, long) in
    let size = length-spliced at bytes (old ++ replicate (end - length old) filler) within in
    record {
      no_shorter = omega (arith, size, long);
      no_longer = omega (arith, size, long);
      below =
          λ i lt before. spliced_below at bytes (old ++ replicate (end - length old) filler) i within before
          ∙ get_or-append old (replicate (end - length old) filler) 0 i lt;
      above =
          λ i lt behind. spliced_above at bytes (old ++ replicate (end - length old) filler) i within behind
          ∙ get_or-append old (replicate (end - length old) filler) 0 i lt;
    }

torn_takes : (at : ℕ) (bytes old : List ℕ) → Torn at (length bytes) old (torn_write at bytes old)
torn_takes at [] old = torn_not at 0 old
torn_takes at (byte ∷ bytes) old =
    let all = map (λ (b : ℕ). 255 - b) (byte ∷ bytes) in
    let same : length all ≡ length (byte ∷ bytes) = length-map (byte ∷ bytes) (λ (b : ℕ). 255 - b) in
    subst (λ (n : ℕ). Torn at n old (torn_write at (byte ∷ bytes) old)) same (torn_filled_by 255 at (at + length all) all old refl)

-- a step of the file in the role, in an image with all names
step_whole : (step : List ℕ → List ℕ → Type 0) (change : List ℕ → List ℕ) → ((b : List ℕ) → step b (change b))
    → (role : Role) (now d : Files) → SameNames now d → Changes role step now d (put_at d role (with_file_bytes change (file_at d role)))
step_whole step change takes Main now d same = (may_change now.main d.main same.main, refl, inl refl)
  where
    may_change : (now file : Option File) → number_of file ≡ number_of now → MayStep step now file (with_file_bytes change file)
    may_change now None same = inl refl
    may_change now (Some f) same =
        inr (record { number = f.number; before = f.bytes; after = change f.bytes; is_now = sym same; was = refl; is = refl; took = takes f.bytes })
step_whole step change takes Journal now d same = (refl, may_change now.journal d.journal same.journal, refl)
  where
    may_change : (now file : Option File) → number_of file ≡ number_of now → MayStep step now file (with_file_bytes change file)
    may_change now None same = inl refl
    may_change now (Some f) same =
        inr (record { number = f.number; before = f.bytes; after = change f.bytes; is_now = sym same; was = refl; is = refl; took = takes f.bytes })
step_whole step change takes Fresh now d same = (refl, refl, may_change now.fresh d.fresh same.fresh)
  where
    may_change : (now file : Option File) → number_of file ≡ number_of now → MayStep step now file (with_file_bytes change file)
    may_change now None same = inl refl
    may_change now (Some f) same =
        inr (record { number = f.number; before = f.bytes; after = change f.bytes; is_now = sym same; was = refl; is = refl; took = takes f.bytes })

changed_image : (change : List ℕ → List ℕ) (role : Role) (now c : Files) → SameNames now c → SameNames now (put_at c role (with_file_bytes change (file_at c role)))
changed_image change role now c same =
    let names =
    changes_names (λ a b. b ≡ change a) role c c (put_at c role (with_file_bytes change (file_at c role)))
    (changed_whole (λ a b. b ≡ change a) change (λ b. refl) role c) in
    record { main = names.main ∙ same.main; journal = names.journal ∙ same.journal; fresh = names.fresh ∙ same.fresh }

-- all that was done, with each unsynced byte turned
pub torn_image : (start : Contents) (calls : List Call)
    → ImagesAfter (files_of start) calls (torn_after (files_of start) calls) × SameNames (reads_after (files_of start) calls) (torn_after (files_of start) calls)
torn_image start [] = (refl, same_names (files_of start))
torn_image start (Write role at bytes ∷ earlier) =
    let before = torn_image start earlier in (
      (torn_after (files_of start) earlier, before.0, step_whole (Torn at (length bytes.items)) (torn_write at bytes.items) (torn_takes at bytes.items) role _ _ before.1),
      changed_now (written at bytes.items) role _ _ (changed_image (torn_write at bytes.items) role _ _ before.1),
    )
torn_image start (Cut role len ∷ earlier) =
    let before = torn_image start earlier in (
      (torn_after (files_of start) earlier, before.0, step_whole (Shorter len) (take len) (shorter_cut len) role _ _ before.1),
      changed_now (take len) role _ _ (changed_image (take len) role _ _ before.1),
    )
torn_image start (Sync role ∷ earlier) =
    let before = torn_image start earlier in
    ((synced_image start role earlier _ before.0, synced_has start role earlier _ before.0), synced_names role _ _ _ before.1)
torn_image start (Create role ∷ earlier) =
    let before = torn_image start earlier in
    ((torn_after (files_of start) earlier, before.0, inr (before.1, refl)), put_names role _ _ _ _ refl before.1)
torn_image start (Remove role ∷ earlier) =
    let before = torn_image start earlier in
    ((torn_after (files_of start) earlier, before.0, inr (before.1, refl)), put_names role _ _ _ _ refl before.1)
torn_image start (Rename ∷ earlier) =
    let before = torn_image start earlier in
    ((torn_after (files_of start) earlier, before.0, inr (before.1, refl)), record { main = before.1.fresh; journal = before.1.journal; fresh = refl })
torn_image start (SyncFolder ∷ earlier) = let before = torn_image start earlier in ((before.0, before.1), before.1)

-- each pick is an image
pub picked_image : (pick : ImagePick) (start : Contents) (calls : List Call) → ImagesAfter (files_of start) calls (picked pick (files_of start) calls)
picked_image Lost start calls = lost_image start calls
picked_image Kept start calls = reads_now_after start calls
picked_image TornPick start calls = (torn_image start calls).0

pub shown_same : (a b : Files) → bytes_of a.main ≡ bytes_of b.main → bytes_of a.journal ≡ bytes_of b.journal
    → bytes_of a.fresh ≡ bytes_of b.fresh → shown_of a ≡ shown_of b
shown_same a b main journal fresh = cc
