-- A new file that was written to its end is the made one.
use Rattle.std.proofs.Common.{◌≡◌, ◌≤◌, ◌+◌, ℕ, Bool, List, [], ◌∷◌, Option, Some, None, Ok, arith, ap, refl, subst}
use Rattle.std.specs.Prelude.{IsTrue}
use Rattle.std.proofs.Math.Path.{subst₂}
use Rattle.btree_model.specs.Content.{HoldsContent, kept_fields}
use Rattle.cipher_profile.specs.Profile.{IsListed, usable}
use Rattle.db_format.specs.Header.{header_bytes, header_read}
use Rattle.db_format.specs.Pages.{Pages}
use Rattle.db_format.specs.declared.header.Header.{Header}
use Rattle.db_maker.specs.Made.{IsFilled, made_items}
use Rattle.bulk_load.specs.Found.{IsTightBehind}
use Rattle.bulk_load.proofs.FreeLemmas.{header_free}
use Rattle.edge_model.specs.Causes.{Rose}
use Rattle.edge_model.specs.Files.{File, Files}
use Rattle.fresh_file.specs.Draws.{AreOwnDraws}
use Rattle.fresh_file.specs.Fresh.{IsFinished, sized_page}
use Rattle.fresh_file.specs.State.{most_pages, fresh_pages}
use Rattle.fresh_file.specs.declared.state.FreshState.{FreshState}
use Rattle.fresh_file.proofs.HeadLaws.{begins}
use Rattle.fresh_file.proofs.OpeningLaws.{IsHeaderFor, accepted, is_headed, opens, own_draws}
use Rattle.make_job.specs.Made.{made_header}
use Rattle.make_job.specs.Stops.{in_the_way}
use Rattle.make_job.specs.Written.{IsMadeWritten}
use Rattle.page_codec.specs.Page.{FileKeys}
use Rattle.pager.specs.Pages.{opened_pages}

-- a count that rose after a later state rose after the first one too
pub rose_later : (before middle now : ℕ) → before ≤ middle → Rose middle now → Rose before now
rose_later before middle now less rose = omega arith

-- where nothing stands in the way there is no journal
pub no_journal : (files : Files) → in_the_way files ≡ None → files.journal ≡ None
no_journal files = of_roles files.main files.journal files.fresh
  where
    of_roles : (main journal fresh : Option File) → in_the_way (record { main = main; journal = journal; fresh = fresh }) ≡ None → journal ≡ None
    of_roles main None fresh is = refl
    of_roles None (Some file) fresh is = cc
    of_roles (Some other) (Some file) fresh is = cc

-- the state of a new file whose pages were all put
module _ (keys : FileKeys) (header : Header) (state : FreshState) (rows start : ℕ) (draws_tell : Bool) (before fresh : Option (List ℕ)) (drawn : List ℕ)
    (listed : IsListed keys.profile) (codec : state.codec ≡ keys) (limit : state.limit ≡ most_pages keys.profile)
    (head : header ≡ made_header keys.profile 0)
    (done : IsFinished state.codec header (fresh_pages state before) start draws_tell fresh drawn) where
  abbrev pages : Pages
  pages = fresh_pages state before

  ended : IsFinished keys (made_header keys.profile 0) pages start draws_tell fresh drawn
  ended = subst₂ (λ k h. IsFinished k h pages start draws_tell fresh drawn) codec head done

  for_profile : IsHeaderFor keys.profile (made_header keys.profile 0)
  for_profile = record { page_size = refl; reserve = refl; counts = refl }

  kept : kept_fields (header_bytes (made_header keys.profile pages.count)) ≡ 1 ∷ 4 ∷ 0 ∷ 1 ∷ 0 ∷ 0 ∷ 3045000 ∷ []
  kept = refl

  read_as : header_read (header_bytes (sized_page header (state.taken + 1))) header.page_size header.reserve ≡ Ok (sized_page header (state.taken + 1))
      → header_read (header_bytes (made_header keys.profile pages.count)) keys.profile.page_size keys.profile.reserve ≡ Ok (made_header keys.profile pages.count)
  read_as = subst (λ (h : Header). header_read (header_bytes (sized_page h pages.count)) h.page_size h.reserve ≡ Ok (sized_page h pages.count)) head

  pub written : header_read (header_bytes (sized_page header (state.taken + 1))) header.page_size header.reserve ≡ Ok (sized_page header (state.taken + 1))
      → IsFilled pages rows → IsTightBehind pages → IsMadeWritten keys rows fresh
  written read made filled =
      let usable_is : pages.usable ≡ usable keys.profile = ap (λ (k : FileKeys). usable k.profile) codec in
      record {
        file = ended.file;
        is = ended.is;
        made = record {
          salt = ended.salt;
          is_new = record {
            count = pages.count;
            opens =
                opens keys (made_header keys.profile 0) start pages draws_tell fresh drawn listed ended state.counted for_profile (read_as read)
                (omega (arith, state.within, limit));
            begins = begins keys (made_header keys.profile 0) pages start draws_tell fresh drawn ended;
            size = ended.size;
            accepted = accepted keys (made_header keys.profile 0) start pages draws_tell fresh drawn listed ended state.counted;
            holds =
                subst (λ (fields : List ℕ). HoldsContent (opened_pages keys ended.file pages.count) (record { kept = fields; rows = made_items rows })) kept
                (made (header_bytes (made_header keys.profile pages.count)) (opened_pages keys ended.file pages.count) (header_free (made_header keys.profile pages.count) refl refl)
                (is_headed keys (made_header keys.profile 0) start pages draws_tell fresh drawn listed ended state.counted usable_is));
            tight =
                filled (header_bytes (made_header keys.profile pages.count)) (opened_pages keys ended.file pages.count) (header_free (made_header keys.profile pages.count) refl refl)
                (is_headed keys (made_header keys.profile 0) start pages draws_tell fresh drawn listed ended state.counted usable_is);
          };
        };
      }

  pub drawn_for : IsTrue draws_tell → (file : List ℕ) → fresh ≡ Some file → AreOwnDraws keys file start drawn
  drawn_for = own_draws keys (made_header keys.profile 0) start pages draws_tell fresh drawn listed ended state.counted
