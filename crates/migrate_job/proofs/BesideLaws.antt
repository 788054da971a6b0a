-- A database that is copied while only Fresh changes.
use Rattle.std.proofs.Common.{◌≡◌, ◌<◌, ℕ, Bool, true, false, List, [], ◌++◌, length, drop, Option, Some, Result, Ok, Err, ap, refl, sym, subst, ◌∙◌}
use Rattle.std.specs.Io.{StartsWith}
use Rattle.std.specs.Borrow.{MutBor}
use Rattle.std.specs.Prelude.{IsTrue, OnOk, unwrap_or}
use Rattle.btree_model.specs.Content.{content}
use Rattle.btree_model.specs.Parts.{is_database}
use Rattle.cipher_profile.specs.Profile.{is_clear, usable}
use Rattle.cipher_profile.specs.declared.keys.Secret.{Secret}
use Rattle.cipher_profile.specs.declared.profile.Profile.{Profile}
use Rattle.db_format.specs.Pages.{Pages}
use Rattle.db_format.specs.declared.header.Header.{Header}
use Rattle.fresh_disk.specs.Place.{LeavesOld}
use Rattle.edge_model.specs.Files.{File, Files, bytes_of, main_of}
use Rattle.fresh_disk.specs.Beside.{IsNewBeside, IsNewWritten}
use Rattle.fresh_file.specs.Salted.{IsSalted}
use Rattle.fresh_file.specs.Draws.{AreOwnDraws, HasOwnDraws}
use Rattle.fresh_file.specs.State.{most_pages}
use Rattle.fresh_file.proofs.DrawLaws.{drawn_with, keys_are}
use Rattle.migrate_job.specs.Bound.{pages_at_most}
use Rattle.migrate_job.specs.Migrated.{IsMigrated}
use Rattle.migrate_job.specs.Stops.{IsMigrateShown, is_early_stop}
use Rattle.migrate_job.specs.declared.error.MigrateError.{MigrateError}
use Rattle.migrate_job.specs.declared.error.MigrateError.TheVariants.{PageTag, Defect, TooManyPages, DiskFault, EntropyFault, OutOfMemory}
use Rattle.page_codec.specs.Page.{FileKeys, keys_of, keys_with_salt, magic, salt_of}
use Rattle.pager.specs.Beside.{Beside}
use Rattle.pager.specs.Pages.{opened_pages}

-- the same pages, where Main reads as before
pub pages_beside : (keys keys_now : FileKeys) (files files_now : Files) (count count_now : ℕ) → keys_now ≡ keys → files_now.main ≡ files.main → count_now ≡ count
    → opened_pages keys_now (main_of files_now) count_now ≡ opened_pages keys (main_of files) count
pages_beside keys keys_now files files_now count count_now k f c =
    ap (λ (x : FileKeys). opened_pages x (main_of files_now) count_now) k
    ∙ ap (λ (x : Option File). opened_pages keys (unwrap_or (bytes_of x) []) count_now) f
    ∙ ap (λ (x : ℕ). opened_pages keys (main_of files) x) c

-- the bound, by other names
pub few_as : (pages now : Pages) (keys keys_now : FileKeys) (limit : ℕ) → now ≡ pages → keys_now ≡ keys → limit ≡ most_pages keys.profile
    → limit < pages_at_most (usable keys_now.profile) limit (content now)
    → most_pages keys.profile < pages_at_most (usable keys.profile) (most_pages keys.profile) (content pages)
few_as pages now keys keys_now limit same k l few =
    subst (λ (n : ℕ). n < pages_at_most (usable keys.profile) n (content pages)) l
    (subst (λ (x : Pages). limit < pages_at_most (usable keys.profile) limit (content x)) same
    (subst (λ (x : FileKeys). limit < pages_at_most (usable x.profile) limit (content now)) k few))

-- what stops a copy of a database without a defect
pub late_shown : (profile : Profile) (pages : Pages) (e : MigrateError) → is_early_stop e ≡ false → is_database pages ≡ true
    → ((limit : ℕ) → e ≡ TooManyPages limit → most_pages profile < pages_at_most (usable profile) (most_pages profile) (content pages))
    → (is_early_stop e ≡ false) × IsMigrateShown profile pages e
late_shown profile pages (PageTag n) late sound few = cc
late_shown profile pages (Defect d) late sound few = cc
late_shown profile pages (TooManyPages limit) late sound few = (refl, (sound, few limit refl))
late_shown profile pages DiskFault late sound few = (refl, tt)
late_shown profile pages EntropyFault late sound few = (refl, tt)
late_shown profile pages OutOfMemory late sound few = (refl, tt)

-- ---- the new file, by its salt

-- a file beside Main that is one kind of file is one of another
pub beside_as : {D : Type 0} (reads : D → Files) (images : D → Files → Type 0) (is_new is_wanted : List ℕ → Type 0) (disk : D)
    → ((file : List ℕ) → is_new file → is_wanted file) → IsNewBeside reads images is_new disk → IsNewBeside reads images is_wanted disk
beside_as reads images is_new is_wanted disk gives there = record { file = there.file; is = there.is; made = gives there.file.bytes there.made; synced = there.synced }

-- the same kind, by other names
pub migrated_as : (profile : Profile) (secret : Secret) (h now_h : Header) (pages now : Pages) → now_h ≡ h → now ≡ pages → (file : List ℕ)
    → IsMigrated profile secret now_h now file → IsMigrated profile secret h pages file
migrated_as profile secret h now_h pages now same_h same file is =
    subst (λ (x : Header). IsMigrated profile secret x pages file) same_h (subst (λ (x : Pages). IsMigrated profile secret now_h x file) same is)

-- the file that was written begins with its salt
pub written_salt : (keys : FileKeys) (is_new : List ℕ → Type 0) (fresh : Option (List ℕ)) (file : List ℕ) → IsNewWritten (IsSalted keys is_new) fresh → fresh ≡ Some file
    → salt_of file ≡ keys.salt
written_salt keys is_new fresh file written is = subst (λ (l : List ℕ). salt_of l ≡ keys.salt) (some_is (sym written.is ∙ is)) written.made.salt
  where
    some_is : {A : Type 0} {x y : A} → Some x ≡ Some y → x ≡ y
    some_is same = cc

-- its pages were sealed with bytes of their own, behind the salt
pub own_as : (profile : Profile) (secret : Secret) (salt : List ℕ) (keys : FileKeys) (file before mid after : List ℕ) → keys ≡ keys_with_salt profile secret salt
    → (is_clear profile ≡ true → salt ≡ magic) → length salt ≡ 16 → salt_of file ≡ keys.salt → (is_clear profile ≡ false → mid ≡ before ++ salt)
    → (is_clear profile ≡ true → mid ≡ before) → StartsWith after mid → AreOwnDraws keys file (length mid) after
    → HasOwnDraws (keys_of profile secret file) file (drop (length before) after)
own_as profile secret salt keys file before mid after is plainly long begins drew bare grown own =
    subst (λ (k : FileKeys). HasOwnDraws k file (drop (length before) after)) (keys_are profile secret salt file keys is plainly begins)
    (drawn_with keys file salt before mid after long (ap (λ (k : FileKeys). k.salt) is) begins
    (λ hidden. drew (sym (ap (λ (k : FileKeys). is_clear k.profile) is) ∙ hidden)) (λ clear. bare (sym (ap (λ (k : FileKeys). is_clear k.profile) is) ∙ clear)) grown own)

-- what follows from two facts of an Ok
pub ok_both : {T E : Type 0} {A B C : Type 0} (r : Result T E) → (A → B → C) → OnOk r A → OnOk r B → OnOk r C
ok_both (Ok x) f a b = f a b
ok_both (Err e) f a b = a

-- what is written beside leaves the old files
pub left_beside : {tells draws_tell : Bool} {D E : Type 0} (reads : D → Files) (images : D → Files → Type 0) (moment : D → ℕ) (since : D → ℕ → Files → Type 0) {drawn : E → List ℕ}
    {d now : MutBor D} {e e' : MutBor E} → IsTrue tells → Beside tells draws_tell reads images moment since drawn d now e e' → LeavesOld reads images moment since d.now now.now
left_beside reads images moment since told beside = record { stays = beside.only_fresh told; any_moment = beside.any_moment told }
