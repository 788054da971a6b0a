-- A settled file is clean where the old one was, and holds the same, whatever was to be done.
use Rattle.std.proofs.Common.{◌≡◌, ⊎_elim, ℕ, Bool, true, List, [], Option, Some, refl, sym, ap, subst, ◌∙◌}
use Rattle.std.specs.Prelude.{unwrap_or}
use Rattle.cipher_profile.specs.Profile.{IsListed, with_log}
use Rattle.cipher_profile.specs.declared.keys.Secret.{Secret}
use Rattle.cipher_profile.specs.declared.profile.Profile.{Profile}
use Rattle.db_format.specs.Pages.{Pages}
use Rattle.edge_model.specs.Files.{Files, main_of}
use Rattle.page_codec.specs.Page.{FileKeys, keys_of, salt_of}
use Rattle.pager.specs.Database.{count_of}
use Rattle.pager.specs.File.{page_stored}
use Rattle.pager.specs.Pages.{opened_pages}
use Rattle.sqlcipher_tool.specs.Crash.{StaysOrRenews}
use Rattle.sqlcipher_tool.specs.Holding.{DiskRun}
use Rattle.sqlcipher_tool.specs.Maps.{AreMapsFreed}
use Rattle.sqlcipher_tool.specs.Plain.{IsClean}
use Rattle.sqlcipher_tool.specs.ReadAlike.{AreReadAlike}
use Rattle.sqlcipher_tool.specs.Renewal.{IsNewDrawn, renewed}
use Rattle.sqlcipher_tool.specs.Settle.{IsSettledFrom, IsUnmarked, WasUnmarked, keys_set}
use Rattle.sqlcipher_tool.specs.Settling.{CanBeLaid, CanLoseMaps}
use Rattle.sqlcipher_tool.specs.declared.change.Change.TheVariants.{Settle as SettleBy}
use Rattle.sqlcipher_tool.specs.declared.command.Command.TheVariants.{Change as ChangeFile}
use Rattle.sqlcipher_tool.specs.declared.status.Status.TheVariants.{Done}
use Rattle.sqlcipher_tool.proofs.FreedClean.{freed_clean}
use Rattle.sqlcipher_tool.proofs.SettledClean.{clean_alike, clean_now, few_pages, pages_set, themselves}
use Rattle.sqlcipher_tool.proofs.SettledFile.{listed_set}
use Rattle.sqlcipher_tool.proofs.Stamping.{same_keys}
use Rattle.sqlcipher_tool.proofs.Unmarked.{fits_set, keys_set_of}

pub settled_clean : (profile : Profile) (secret : Secret) (before after : List ℕ) → IsListed profile
    → IsSettledFrom (keys_of (with_log profile) secret before) (keys_of profile secret after) before after → (clean : IsClean (keys_of (with_log profile) secret before) before)
    → CanLoseMaps (opened_pages (keys_of (with_log profile) secret before) before clean.opens.count)
    → (now : IsClean (keys_of profile secret after) after) × (now.held ≡ clean.held)
settled_clean profile secret before after listed from clean may = ⊎_elim by_change (λ rest. ⊎_elim by_none by_maps rest) from
  where
    new_keys : salt_of after ≡ salt_of before → keys_of profile secret after ≡ keys_set profile.reads_log (keys_of (with_log profile) secret before)
    new_keys salt = same_keys profile secret after before salt ∙ sym (keys_set_of profile.reads_log true profile secret before)

    by_change : IsUnmarked (keys_of (with_log profile) secret before) (keys_of profile secret after) before after → (now : IsClean (keys_of profile secret after) after) × (now.held ≡ clean.held)
    by_change unmarked =
        let same = new_keys unmarked.salt in
        subst (λ (k : FileKeys). (now : IsClean k after) × (now.held ≡ clean.held)) (sym same)
        (clean_now profile.reads_log (keys_of (with_log profile) secret before) before after (listed_set true profile listed) clean.opens.fit
        (λ n is. few_pages (keys_of (with_log profile) secret before) before n (listed_set true profile listed) is)
        (subst (λ (k : FileKeys). IsUnmarked (keys_of (with_log profile) secret before) k before after) same unmarked) clean)

    by_none : WasUnmarked (keys_of (with_log profile) secret before) (keys_of profile secret after) before after → (now : IsClean (keys_of profile secret after) after) × (now.held ≡ clean.held)
    by_none was =
        let same = new_keys (ap (λ (l : List ℕ). salt_of l) was.same) in
        let set = keys_set profile.reads_log (keys_of (with_log profile) secret before) in
        let is : count_of set before ≡ Some was.count = subst (λ (l : List ℕ). count_of set l ≡ Some was.count) was.same (subst (λ (k : FileKeys). count_of k after ≡ Some was.count) same was.is) in
        let alike = subst (λ (p : Pages). AreReadAlike (opened_pages (keys_of (with_log profile) secret before) before was.count) p)
        (sym (pages_set profile.reads_log (keys_of (with_log profile) secret before) before was.count)) (themselves (opened_pages (keys_of (with_log profile) secret before) before was.count)) in
        let now = clean_alike (keys_of (with_log profile) secret before) set before before was.count alike was.was is
        (fits_set profile.reads_log (keys_of (with_log profile) secret before) (page_stored (keys_of (with_log profile) secret before) before 1) ∙ clean.opens.fit) clean in
        subst (λ (k : FileKeys). (now : IsClean k after) × (now.held ≡ clean.held)) (sym same) (subst (λ (l : List ℕ). (now : IsClean set l) × (now.held ≡ clean.held)) (sym was.same) now)

    by_maps : AreMapsFreed (keys_of (with_log profile) secret before) (keys_of profile secret after) before after → (now : IsClean (keys_of profile secret after) after) × (now.held ≡ clean.held)
    by_maps freed =
        let same = new_keys freed.salt in
        subst (λ (k : FileKeys). (now : IsClean k after) × (now.held ≡ clean.held)) (sym same)
        (freed_clean profile.reads_log (keys_of (with_log profile) secret before) before after (listed_set true profile listed)
        (λ n is. few_pages (keys_of (with_log profile) secret before) before n (listed_set true profile listed) is)
        (subst (λ (k : FileKeys). AreMapsFreed (keys_of (with_log profile) secret before) k before after) same freed) clean may)

-- after Done of a run that settles a file which was checked
pub settle_done : (profile : Profile) (first second : Secret) (frames : ℕ) (tells : Bool) (drawn before : List ℕ) (old_one : Files → Type 0) (new_one : List ℕ → Files → Type 0) (run : DiskRun)
    → IsListed profile → StaysOrRenews Done (IsNewDrawn (ChangeFile profile (SettleBy frames)) (renewed profile (SettleBy frames) first second) tells drawn before) old_one new_one run
    → (laid : CanBeLaid profile first before) → (now : IsClean (keys_of profile first (main_of run.after)) (main_of run.after)) × (now.held ≡ laid.clean.held)
settle_done profile first second frames tells drawn before old_one new_one run listed ended laid = ⊎_elim
    (λ stays. absurd (stays.not_done refl))
    (λ renews.
    let main : main_of run.after ≡ renews.file = ap (λ (o : Option (List ℕ)). unwrap_or o []) (renews.is_main refl) in
    subst (λ (l : List ℕ). (now : IsClean (keys_of profile first l) l) × (now.held ≡ laid.clean.held)) (sym main)
    (settled_clean profile first before renews.file listed renews.is_new.0 laid.clean laid.maps)) ended
