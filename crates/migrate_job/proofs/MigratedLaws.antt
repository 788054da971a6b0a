-- A new file that was written to its end is a migrated one.
use Rattle.std.proofs.Common.{◌≡◌, ◌+◌, ◌*◌, length, ℕ, Bool, true, false, List, [], ◌∷◌, Option, Some, Ok, arith, ap, refl, sym, subst, ◌∙◌}
use Rattle.std.specs.Prelude.{IsTrue}
use Rattle.std.proofs.Math.Path.{subst₂}
use Rattle.btree_model.specs.Content.{HoldsContent, content, kept_fields}
use Rattle.btree_model.specs.Parts.{is_database}
use Rattle.bulk_load.specs.Found.{HoldsItems, IsTightBehind}
use Rattle.bulk_load.proofs.FreeLemmas.{header_free}
use Rattle.cipher_profile.specs.Profile.{IsListed, usable}
use Rattle.db_format.specs.Header.{header_bytes, header_fields, header_read, header_rules}
use Rattle.db_format.specs.Pages.{Pages}
use Rattle.db_format.specs.Rules.{Rule, unless_broken}
use Rattle.db_format.specs.declared.header.Header.{Header}
use Rattle.fresh_disk.specs.Beside.{IsNewWritten}
use Rattle.fresh_file.specs.Salted.{IsSalted}
use Rattle.fresh_file.specs.Draws.{AreOwnDraws}
use Rattle.fresh_file.specs.Fresh.{IsFinished, sized_page}
use Rattle.fresh_file.specs.State.{most_pages, fresh_pages}
use Rattle.fresh_file.specs.declared.state.FreshState.{FreshState}
use Rattle.fresh_file.proofs.HeadLaws.{begins}
use Rattle.fresh_file.proofs.OpeningLaws.{IsHeaderFor, accepted, is_headed, opens, own_draws}
use Rattle.migrate_job.specs.Migrated.{IsMigratedUnder, migrated_header}
use Rattle.page_codec.specs.Page.{FileKeys}
use Rattle.pager.specs.Pages.{opened_pages}

-- what no rule breaks is the value
value_is : {V E : Type 0} (rules : List (Rule E)) (v x : V) → unless_broken rules v ≡ Ok x → v ≡ x
value_is [] v x is = cc
value_is ((true, refusal) ∷ later) v x is = cc
value_is ((false, refusal) ∷ later) v x is = value_is later v x is

-- the fields that a content keeps, of a header
abbrev kept_of : Header → List ℕ
kept_of h = h.cookie ∷ h.format ∷ h.cache ∷ h.encoding ∷ h.user_version ∷ h.application_id ∷ h.sqlite_number ∷ []

kept_read : (page : List ℕ) → kept_fields page ≡ kept_of (header_fields page)
kept_read page = refl

-- of a header that is read back
kept_is : (h : Header) (size reserve : ℕ) → header_read (header_bytes h) size reserve ≡ Ok h → kept_fields (header_bytes h) ≡ kept_of h
kept_is h size reserve read =
    kept_read (header_bytes h) ∙ ap (λ (k : Header). kept_of k) (value_is (header_rules (header_bytes h) size reserve) (header_fields (header_bytes h)) h read)

-- of a page whose fields were read
kept_as : (h : Header) (page : List ℕ) → h ≡ header_fields page → kept_of h ≡ kept_fields page
kept_as h page is = ap (λ (k : Header). kept_of k) is ∙ sym (kept_read page)

-- the state of a new file whose pages were all put
module _ (keys : FileKeys) (old header : Header) (before : Pages) (state : FreshState) (start : ℕ) (draws_tell : Bool) (was fresh : Option (List ℕ)) (drawn : List ℕ)
    (listed : IsListed keys.profile) (codec : state.codec ≡ keys) (limit : state.limit ≡ most_pages keys.profile)
    (head : header ≡ migrated_header keys.profile old 0)
    (done : IsFinished state.codec header (fresh_pages state was) start draws_tell fresh drawn) where
  abbrev pages : Pages
  pages = fresh_pages state was

  abbrev new_header : Header
  new_header = migrated_header keys.profile old 0

  ended : IsFinished keys new_header pages start draws_tell fresh drawn
  ended = subst₂ (λ k h. IsFinished k h pages start draws_tell fresh drawn) codec head done

  for_profile : IsHeaderFor keys.profile (migrated_header keys.profile old 0)
  for_profile = record { page_size = refl; reserve = refl; counts = refl }

  read_as : header_read (header_bytes (sized_page header (state.taken + 1))) header.page_size header.reserve ≡ Ok (sized_page header (state.taken + 1))
      → header_read (header_bytes (migrated_header keys.profile old pages.count)) keys.profile.page_size keys.profile.reserve ≡ Ok (migrated_header keys.profile old pages.count)
  read_as = subst (λ (h : Header). header_read (header_bytes (sized_page h pages.count)) h.page_size h.reserve ≡ Ok (sized_page h pages.count)) head

  pub written : header_read (header_bytes (sized_page header (state.taken + 1))) header.page_size header.reserve ≡ Ok (sized_page header (state.taken + 1))
      → old ≡ header_fields (before.page 1) → is_database before ≡ true → HoldsItems pages (content before).rows → IsTightBehind pages
      → IsNewWritten (IsSalted keys (IsMigratedUnder keys old before)) fresh
  written read fields sound copied filled =
      let usable_is : pages.usable ≡ usable keys.profile = ap (λ (k : FileKeys). usable k.profile) codec in
      let counted = migrated_header keys.profile old pages.count in
      let whole = opened_pages keys ended.file pages.count in
      record {
        file = ended.file;
        is = ended.is;
        made = record {
          salt = ended.salt;
          is_new = record {
            sound = sound;
            count = pages.count;
            opens =
                opens keys new_header start pages draws_tell fresh drawn listed ended state.counted for_profile (read_as read)
                (omega (arith, state.within, limit));
            begins = begins keys new_header pages start draws_tell fresh drawn ended;
            size = ended.size;
            accepted = accepted keys new_header start pages draws_tell fresh drawn listed ended state.counted;
            holds =
                subst (λ (kept : List ℕ). HoldsContent whole (record { kept = kept; rows = (content before).rows }))
                (kept_is counted keys.profile.page_size keys.profile.reserve (read_as read) ∙ kept_as old (before.page 1) fields)
                (copied (header_bytes counted) whole (header_free counted refl refl)
                (is_headed keys new_header start pages draws_tell fresh drawn listed ended state.counted usable_is));
            tight =
                filled (header_bytes counted) whole (header_free counted refl refl)
                (is_headed keys new_header start pages draws_tell fresh drawn listed ended state.counted usable_is);
          };
        };
      }

  pub drawn_for : IsTrue draws_tell → (file : List ℕ) → fresh ≡ Some file → AreOwnDraws keys file start drawn
  drawn_for = own_draws keys new_header start pages draws_tell fresh drawn listed ended state.counted

  same_file : (file : List ℕ) → fresh ≡ Some file → ended.file ≡ file
  same_file file is = some_is (sym ended.is ∙ is)
    where
      some_is : {A : Type 0} {x y : A} → Some x ≡ Some y → x ≡ y
      some_is same = cc

  pub sized_as : (count : ℕ) → count ≡ state.taken + 1 → (file : List ℕ) → fresh ≡ Some file → length file ≡ count * keys.profile.page_size
  sized_as count counted file is =
      ap (λ (l : List ℕ). length l) (sym (same_file file is)) ∙ ended.size ∙ ap (λ (n : ℕ). n * keys.profile.page_size) (sym counted)
