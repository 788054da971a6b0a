-- A file that a transaction left whose pages are all sealed under other keys is a rekeyed file.
use Rattle.std.proofs.Common.{◌≡◌, inl, inr, ℕ, ◌*◌, ◌≤◌, ◌&&◌, Bool, true, false, IsTrue, List, length, take, drop, replicate, if◌then◌else◌, refl, sym, ap, subst, ◌∙◌, arith, length-take}
use Rattle.std.proofs.Math.Seq.{drop-append_seam}
use Rattle.std.proofs.lemmas.List.{take-take}
use Rattle.edge_model.specs.Files.{Files}
use Rattle.edge_model.specs.Images.{LeavesOnly}
use Rattle.btree_model.specs.Plain.{is_leaf, with_zeros}
use Rattle.cipher_profile.specs.Profile.{IsLaidOut, is_plain}
use Rattle.page_codec.specs.Page.{FileKeys, accepts, opened, salt_of, sealed}
use Rattle.pager.specs.Base.{base_of}
use Rattle.pager.specs.Changed.{same_layout}
use Rattle.pager.specs.Database.{count_by, count_of}
use Rattle.pager.specs.File.{page_stored}
use Rattle.pager.specs.Pages.{is_page_number, opened_pages}
use Rattle.pager.specs.UnderWay.{HasNewPages}
use Rattle.pager.proofs.Bases.{some_is}
use Rattle.pager.proofs.BatchLemmas.{number_in, number_is}
use Rattle.pager.proofs.Cutting.{cut_page, cut_pages, one_page}
use Rattle.pager.proofs.Resealed.{counts_same as kept_counts, main_long as whole_main, main_salt as kept_salt, new_salt as anew_salt, plain_alike}
use Rattle.pager.proofs.TxnLemmas.{layout_same}
use Rattle.pager.proofs.UnderWayLemmas.{opened_at}
use Rattle.atomic_commit.specs.Commit.{LeavesChanged}
use Rattle.atomic_commit.specs.Database.{HoldsEither, stored_page, stored_pages}
use Rattle.atomic_commit.specs.Draws.{drawn_at}
use Rattle.atomic_commit.specs.Facts.{IsBase}
use Rattle.rekey_job.specs.Draws.{AreDrawn, FileDraws}
use Rattle.rekey_job.specs.Rekeyed.{IsRekeyed}
use Rattle.rekey_job.specs.Stops.{AreClean}
use Rattle.rekey_job.proofs.Checked.{first_used}

-- ---- the new file

-- a rekeyed file, each of whose pages has bytes of its own, where the draws are told
abbrev pub IsResealed : FileKeys → FileKeys → ℕ → List ℕ → Bool → List ℕ → List ℕ → Type 0
IsResealed keys write count old tells drawn file = IsRekeyed keys write count old file × (IsTrue tells → FileDraws write file (is_page_number count) 0 drawn)

module _ (keys write : FileKeys) (count : ℕ) (old : List ℕ) (tells : Bool) (before after : List ℕ) (layout : same_layout keys write ≡ true) (some : 1 ≤ count) (room : 100 ≤ keys.profile.page_size)
    (salt : is_plain write.profile ≡ true → write.salt ≡ salt_of old) (salt_long : length write.salt ≡ 16) (clean : AreClean (opened_pages keys old count))
    (base : IsBase (base_of keys old count)) (was : (base_of keys old count).counts (length old) ≡ true)
    (laid_out : IsLaidOut write.profile × IsLaidOut keys.profile) where
  abbrev plain : ℕ → List ℕ
  plain = (with_zeros (opened_pages keys old count)).page

  -- what the transaction left
  abbrev pub HasNew : List ℕ → Type 0
  HasNew main = HasNewPages (record { base = base_of keys old count; drawn = before }) write (λ n. true) plain tells after main

  first : is_leaf (opened_pages keys old count) 1 ≡ false
  first = first_used (opened_pages keys old count) clean.sound

  sizes : (write.profile.page_size ≡ keys.profile.page_size) × (write.profile.reserve ≡ keys.profile.reserve)
  sizes = layout_same keys write layout

  one : is_page_number count 1 ≡ true
  one = number_is count 1 (omega arith) some

  module _ (main : List ℕ) (has : HasNew main) where
    sealed_at : (n : ℕ) → is_page_number count n ≡ true → (is_page_number count n && true) ≡ true
    sealed_at n num = ap (λ (b : Bool). b && true) num

    -- plain page 1 stays
    first_opened : opened write 1 (page_stored write main 1) ≡ opened keys 1 (page_stored keys old 1)
    first_opened =
        has.opens 1 one refl
        ∙ ap (λ (b : Bool). if b then replicate (opened_pages keys old count).usable 0 else (opened_pages keys old count).page 1) first
        ∙ opened_at keys old count 1 one

    -- the pages before have their bytes
    long : count * keys.profile.page_size ≤ length old
    long = base.within

    first_kept : take 100 (plain 1) ≡ take 100 (opened keys 1 (page_stored keys old 1))
    first_kept = ap (take 100) (sym (has.opens 1 one refl) ∙ first_opened)

    all_touched : true ≡ false → write ≡ keys
    all_touched is = cc

    main_long : count * keys.profile.page_size ≤ length main
    main_long = whole_main keys write count old (λ n. true) plain tells before after main layout some room long laid_out.0 (λ is. first_kept) all_touched has

    main_salt : take 16 main ≡ write.salt
    main_salt = by_kind (is_plain write.profile) refl
      where
        by_kind : (b : Bool) → is_plain write.profile ≡ b → take 16 main ≡ write.salt
        by_kind false ciphered =
            anew_salt keys write count old (λ n. true) plain tells before after main layout some room long laid_out.0 (λ is. first_kept) all_touched has salt_long ciphered refl
        by_kind true is =
            kept_salt keys write count old (λ n. true) plain tells before after main layout some room long laid_out.0 (λ is. first_kept) all_touched has
            (λ ciphered. let both : true ≡ false = sym is ∙ ciphered in cc) (plain_alike keys.profile write.profile laid_out.1 laid_out.0 sizes) ∙ sym (salt is)

    counts_same : (len : ℕ) → count_by write (page_stored write main 1) len ≡ count_by keys (page_stored keys old 1) len
    counts_same = kept_counts keys write count old (λ n. true) plain tells before after main layout some room long laid_out.0 (λ is. first_kept) all_touched has

    -- a file with its pages, which counts them
    with_pages : (file : List ℕ) → ((n : ℕ) → is_page_number count n ≡ true → page_stored write file n ≡ page_stored write main n) → take 16 file ≡ take 16 main
        → (base_of keys old count).counts (length file) ≡ true → IsRekeyed keys write count old file
    with_pages file same begins is = record {
      salt = begins ∙ main_salt;
      was = some_is count (count_of keys old) was;
      clean = clean;
      is = ap (λ (l : List ℕ). count_by write l (length file)) (same 1 one) ∙ counts_same (length file) ∙ some_is count _ is;
      accepted = λ n num. ap (λ (l : List ℕ). accepts write n l) (same n num) ∙ has.accepted n num refl;
      first = ap (λ (l : List ℕ). opened write 1 l) (same 1 one) ∙ first_opened;
      plain = λ n num. ap (λ (l : List ℕ). opened write n l) (same n num) ∙ has.opens n num refl;
    }

    -- Main itself
    pub is_rekeyed : (base_of keys old count).counts (length main) ≡ true → IsRekeyed keys write count old main
    is_rekeyed is = with_pages main (λ n num. refl) refl is

    abbrev cut : List ℕ
    cut = take (count * keys.profile.page_size) main

    -- its pages are those of Main
    cut_stored : (n : ℕ) → is_page_number count n ≡ true → page_stored write cut n ≡ page_stored write main n
    cut_stored n num =
        let within = number_in count n num in
        subst (λ (s : ℕ). stored_page s n cut ≡ stored_page s n main) (sym sizes.0) (cut_page n count keys.profile.page_size main within.0 within.1 main_long)

    -- and what Main has without what stands behind its pages
    pub cut_rekeyed : IsRekeyed keys write count old cut
    cut_rekeyed = with_pages cut
        cut_stored
        (take-take 16 (count * keys.profile.page_size) main (omega (arith, room, one_page count keys.profile.page_size some)))
        (subst (λ (k : ℕ). (base_of keys old count).counts k ≡ true) (sym (cut_length)) base.whole)
      where
        cut_length : length cut ≡ count * keys.profile.page_size
        cut_length = omega (arith, main_long, length-take (count * keys.profile.page_size) main)

    pub cut_same : stored_pages keys.profile.page_size count main ≡ stored_pages keys.profile.page_size count cut
    cut_same = sym (cut_pages count keys.profile.page_size main main_long)

    pub own_draws : IsTrue tells → FileDraws write main (is_page_number count) 0 (drop (length before) after)
    own_draws told ciphered = subst (λ (l : List ℕ). AreDrawn write main (is_page_number count) 0 l) (sym drawn) (record {
      place = has.own.place;
      later = λ n num. has.own.later n (sealed_at n num);
      within = λ n num. has.own.within n (sealed_at n num);
      is_sealed = λ n num. subst (λ (l : List ℕ). page_stored write main n ≡ sealed write n l (drawn_at write.profile.reserve (has.own.place n) has.draws)) (sym (has.opens n num refl)) (has.own.is_sealed n (sealed_at n num));
      apart = λ m n other is_m is_n. has.own.apart m n other (sealed_at m is_m) (sealed_at n is_n);
    })
      where
        drawn : drop (length before) after ≡ has.draws
        drawn = ap (λ (l : List ℕ). drop (length before) l) (has.since told) ∙ drop-append_seam before has.draws

    pub cut_draws : IsTrue tells → FileDraws write cut (is_page_number count) 0 (drop (length before) after)
    cut_draws told ciphered =
        let own = own_draws told ciphered in
        record {
          place = own.place;
          later = own.later;
          within = own.within;
          is_sealed = λ n num. subst (λ (l : List ℕ). l ≡ sealed write n (opened write n l) (drawn_at write.profile.reserve (own.place n) (drop (length before) after)))
              (sym (cut_stored n num)) (own.is_sealed n num);
          apart = own.apart;
        }

  -- at each moment
  pub leaves_rekeyed : {D : Type 0} (moment : D → ℕ) (since : D → ℕ → Files → Type 0) (old_disk new_disk : D)
      → LeavesChanged moment since (base_of keys old count) HasNew old_disk new_disk
      → LeavesChanged moment since (base_of keys old count) (IsResealed keys write count old tells (drop (length before) after)) old_disk new_disk
  leaves_rekeyed moment since old_disk new_disk (inl run) = inl run
  leaves_rekeyed moment since old_disk new_disk (inr new) = inr (
    take (count * keys.profile.page_size) new.0,
    (cut_rekeyed new.0 new.1, cut_draws new.0 new.1),
    subst (λ (db : List (List ℕ)). LeavesOnly moment since old_disk new_disk (HoldsEither (base_of keys old count) db)) (cut_same new.0 new.1) new.2,
  )
