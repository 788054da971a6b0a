-- What a session's transaction leaves is the file with its changes.
use Rattle.std.proofs.Common.{◌≡◌, ◌≢◌, inl, inr, ℕ, ◌-◌, ◌*◌, ◌≤◌, ◌==◌, ◌||◌, Bool, true, false, IsTrue, List, length, take, drop, Option, Some, None, is_some, if◌then◌else◌, refl, sym, ap, subst, ◌∙◌, arith, length-take}
use Rattle.std.specs.Prelude.{unwrap_or}
use Rattle.std.proofs.lemmas.Bool.{eqb-true}
use Rattle.std.proofs.lemmas.List.{take-take}
use Rattle.edge_model.specs.Files.{Files, main_of}
use Rattle.edge_model.specs.Images.{Each, LeavesOnly}
use Rattle.edge_model.specs.Moments.{goes_less, started}
use Rattle.edge_model.specs.OnlyRead.{OnlyRead}
use Rattle.cipher_profile.proofs.Layouts.{IsListed-laid_out}
use Rattle.cipher_profile.specs.Profile.{IsLaidOut, IsListed, is_clear, is_plain, usable}
use Rattle.std.proofs.Common.{Result, Ok, Err}
use Rattle.page_codec.specs.Page.{FileKeys, accepts, magic, opened, salt_of, sealed}
use Rattle.pager.specs.Changed.{same_layout, with_bytes}
use Rattle.pager.specs.Database.{count_by, count_of}
use Rattle.pager.specs.File.{first_page, page_stored}
use Rattle.pager.specs.Pages.{is_page_number, opened_pages}
use Rattle.pager.specs.UnderWay.{HasNewPages}
use Rattle.pager.proofs.Bases.{some_is}
use Rattle.pager.proofs.BatchLemmas.{and_true, number_in, number_is}
use Rattle.pager.proofs.Cutting.{committed_counts, cut_page, cut_pages, one_page}
use Rattle.pager.proofs.Resealed.{counts_same as kept_counts, main_long as whole_main, main_salt as kept_salt, plain_alike, starts}
use Rattle.pager.proofs.TxnLemmas.{layout_same}
use Rattle.pager.proofs.UnderWayLemmas.{opened_at}
use Rattle.atomic_commit.specs.Commit.{IsCommitted, LeavesChanged}
use Rattle.atomic_commit.specs.Database.{Base, HoldsEither, HoldsOld, stored_page, stored_pages}
use Rattle.atomic_commit.specs.Draws.{drawn_at}
use Rattle.session_hall.specs.Commit.{StopsCommit, base_by, put_change, put_over}
use Rattle.session_hall.specs.Draws.{HasDrawn, IsMadeBy, OwnDrawsBy}
use Rattle.session_hall.specs.Kept.{IsHallSettled, IsSessionSound}
use Rattle.session_hall.specs.Key.{Access, codec_at, codec_of}
use Rattle.session_hall.specs.Machine.{HasSessionChanges, committed_page, else_page, is_sealed, unopened_answer, opened_by, counted_pages, seen_page, write_access}
use Rattle.session_hall.specs.Session.{HasPlainPages, Session, change_of}
use Rattle.session_hall.specs.Writing.{HasWritten, IsChangeAnswer}
use Rattle.session_hall.specs.declared.step.Answer.{Answer}
use Rattle.session_hall.specs.declared.step.Answer.TheVariants.{Done as AnswerDone, Page as AnswerPage, Busy as AnswerBusy, Refused as AnswerRefused, TagRefused as AnswerTag, Misuse as AnswerMisuse, Down as AnswerDown, DiskFault as AnswerDisk, EntropyFault as AnswerDraws, OutOfMemory as AnswerMemory}
use Rattle.pager.specs.Opening.{IsRefusedBy, Opened}
use Rattle.pager.specs.declared.opening.OpenError.{OpenError}
use Rattle.pager.specs.declared.opening.OpenError.TheVariants.{Empty as IsEmpty, Short as IsShort, KeyRefused as NoKey, HeaderFault as AtFault, WalMode as IsWal, AutoVacuum as IsVacuum, Ragged as IsRagged, TooLarge as IsLarge, DiskFault as DiskFails, OutOfMemory as MemoryEnds}
use Rattle.session_hall.proofs.Counting.{clear_magic, count_whole, open_count, open_fits, open_some}
use Rattle.session_hall.proofs.PutOver.{put_back_is}
use Rattle.session_hall.proofs.Standing.{alone_old, base_begins, stands_alone}

-- ---- profiles

-- the salt of a codec of a file that begins with it is that of the file
hidden_salt : (access : Access) (file : List ℕ) → is_clear access.profile ≡ false → (codec_of access file).salt ≡ salt_of file
hidden_salt access file hidden = ap (λ (b : Bool). if b then magic else salt_of file) hidden

-- ---- a session

no_key : (o : Option Access) (access : Access) → is_some o ≡ false → unwrap_or o access ≡ access
no_key None access is = refl
no_key (Some key) access is = cc

or_false : (a b : Bool) → (a || b) ≡ false → a ≡ false
or_false true b is = cc
or_false false b is = refl

-- a commit that leaves a page as it is rekeys nothing
pub same_access : (x : Session) (n : ℕ) → is_sealed x n ≡ false → write_access x ≡ x.access
same_access x n is = no_key x.new_access x.access (or_false (is_some x.new_access) (is_some (change_of n x.changes)) is)

module _ (x : Session) (file : List ℕ) (listed : IsListed x.access.profile) (write_listed : IsListed (write_access x).profile) (plains : HasPlainPages x.access x.changes)
    (sound : IsSessionSound file x) (opens : counted_pages (opened_by x.access file) ≡ Some x.pages) (some : 1 ≤ x.pages)
    (layout : same_layout (codec_of x.access file) (codec_of (write_access x) file) ≡ true) (tells : Bool) (before after : List ℕ) where
  abbrev keys : FileKeys
  keys = codec_of x.access file

  abbrev write : FileKeys
  write = codec_of (write_access x) file

  abbrev count : ℕ
  count = x.pages

  -- page n as it was committed
  abbrev old_plain : ℕ → List ℕ
  old_plain n = opened keys n (page_stored keys file n)

  abbrev plain : ℕ → List ℕ
  plain n = put_over x n ((opened_pages keys file count).page n)

  -- what the transaction left
  abbrev pub HasNew : List ℕ → Type 0
  HasNew main = HasWritten (record { base = base_by x file; drawn = before }) keys write x plain tells after main

  size_is : (write.profile.page_size ≡ keys.profile.page_size) × (write.profile.reserve ≡ keys.profile.reserve)
  size_is = layout_same keys write layout

  usable_is : usable write.profile ≡ usable keys.profile
  usable_is = ap (λ (s : ℕ). s - write.profile.reserve) size_is.0 ∙ ap (λ (r : ℕ). keys.profile.page_size - r) size_is.1

  large : 512 ≤ keys.profile.page_size
  large = (IsListed-laid_out x.access.profile listed).least

  long : count * keys.profile.page_size ≤ length file
  long = count_whole keys file count opens

  first : is_page_number count 1 ≡ true
  first = number_is count 1 (omega arith) some

  laid_out : IsLaidOut write.profile
  laid_out = IsListed-laid_out write.profile write_listed

  read_laid : IsLaidOut keys.profile
  read_laid = IsListed-laid_out keys.profile listed

  header : 100 ≤ keys.profile.page_size
  header = omega (arith, large)

  -- the file begins with the salt of the new codec
  write_salt : is_clear write.profile ≡ is_clear keys.profile → write.salt ≡ salt_of file
  write_salt alike = by_kind (is_clear write.profile) refl
    where
      by_kind : (b : Bool) → is_clear write.profile ≡ b → write.salt ≡ salt_of file
      by_kind true clear =
          ap (λ (b : Bool). if b then magic else salt_of file) clear
          ∙ sym (starts keys.profile.page_size file (omega (arith, large))
          ∙ clear_magic keys (first_page keys.profile file) read_laid (sym alike ∙ clear) (open_fits keys file count opens))
      by_kind false hidden = hidden_salt (write_access x) file hidden

  was_plain : is_plain write.profile ≡ true → is_plain keys.profile ≡ true
  was_plain = plain_alike keys.profile write.profile read_laid laid_out size_is

  -- where page 1 stays as it is, the file keeps its key
  same_codec : is_sealed x 1 ≡ false → write ≡ keys
  same_codec is = ap (λ (access : Access). codec_of access file) (same_access x 1 is)

  abbrev base : Base
  base = base_by x file

  base_counts : (len : ℕ) → base.counts len ≡ true → count_by keys (page_stored keys file 1) len ≡ Some count
  base_counts len is = some_is count (count_by keys (page_stored keys file 1) len) is

  module _ (main : List ℕ) (new : HasNew main) where
    abbrev has : HasNewPages (record { base = base_by x file; drawn = before }) write (is_sealed x) plain tells after main
    has = new.2

    -- ---- plain pages

    plain_is : (n : ℕ) (page : List ℕ) → is_page_number count n ≡ true → change_of n x.changes ≡ Some page → plain n ≡ page
    plain_is n page num is = written ∙ by_number (n == 1) refl
      where
        o : List ℕ
        o = (opened_pages keys file count).page n

        over : List ℕ
        over = with_bytes 100 (drop 100 page) o

        written : plain n ≡ (if n == 1 then over else page)
        written = ap (λ (c : Option (List ℕ)). put_change n c o) is

        or_true : (a : Bool) → (a || true) ≡ true
        or_true true = refl
        or_true false = refl

        here : length page ≡ usable keys.profile
        here = plains n page is

        sized : length (plain n) ≡ length page
        sized = has.sizes n num (ap (λ (c : Option (List ℕ)). is_some x.new_access || is_some c) is ∙ or_true (is_some x.new_access)) ∙ (usable_is ∙ sym here)

        by_number : (b : Bool) → (n == 1) ≡ b → (if n == 1 then over else page) ≡ page
        by_number true first =
            let one : n ≡ 1 = eqb-true n 1 first in
            let cut : (if n == 1 then over else page) ≡ over = ap (λ (b : Bool). if b then over else page) first in
            let begins : take 100 o ≡ take 100 page = ap (take 100) (opened_at keys file count n num ∙ ap old_plain one) ∙ sym (sound.header page (subst (λ (m : ℕ). change_of m x.changes ≡ Some page) one is)) in
            cut ∙ put_back_is 100 page o (omega (arith, (IsListed-laid_out x.access.profile listed).content, here)) begins (ap length (sym (written ∙ cut)) ∙ sized)
        by_number false other = ap (λ (b : Bool). if b then over else page) other

    unchanged_is : (n : ℕ) → is_page_number count n ≡ true → change_of n x.changes ≡ None → plain n ≡ old_plain n
    unchanged_is n num is =
        ap (λ (c : Option (List ℕ)). put_change n c ((opened_pages keys file count).page n)) is ∙ opened_at keys file count n num

    -- page 1 keeps its header
    header_kept : take 100 (plain 1) ≡ take 100 (old_plain 1)
    header_kept = by_change (change_of 1 x.changes) refl
      where
        by_change : (c : Option (List ℕ)) → change_of 1 x.changes ≡ c → take 100 (plain 1) ≡ take 100 (old_plain 1)
        by_change None is = ap (take 100) (unchanged_is 1 first is)
        by_change (Some page) is = ap (take 100) (plain_is 1 page first is) ∙ sound.header page is

    -- ---- stored pages

    -- one that was not sealed anew stands as it was
    other_stored : (n : ℕ) → is_page_number count n ≡ true → is_sealed x n ≡ false → page_stored write main n ≡ page_stored write file n
    other_stored n num is = has.others n num is

    -- all pages are there
    main_long : count * keys.profile.page_size ≤ length main
    main_long = whole_main keys write count file (is_sealed x) plain tells before after main layout some header long laid_out (λ is. header_kept) same_codec has

    -- the first bytes stay
    main_salt : take 16 main ≡ salt_of file
    main_salt = kept_salt keys write count file (is_sealed x) plain tells before after main layout some header long laid_out (λ is. header_kept) same_codec has (λ ciphered. write_salt new.0) was_plain

    -- a length counts as many pages as before
    counts_same : (len : ℕ) → count_by write (page_stored write main 1) len ≡ count_by keys (page_stored keys file 1) len
    counts_same = kept_counts keys write count file (is_sealed x) plain tells before after main layout some header long laid_out (λ is. header_kept) same_codec has

    -- ---- the new file

    -- a file with its pages, which counts them
    with_pages : (g : List ℕ) → ((n : ℕ) → is_page_number count n ≡ true → page_stored write g n ≡ page_stored write main n) → take 16 g ≡ take 16 main
        → base.counts (length g) ≡ true → HasSessionChanges x file g
    with_pages g same begins is = record {
      salt = salt_is;
      counted = ap (λ (k : FileKeys). count_of k g) codec_is ∙ (ap (λ (l : List ℕ). count_by write l (length g)) (same 1 first) ∙ (counts_same (length g) ∙ base_counts (length g) is));
      seen = λ n num anew. ap (λ (k : FileKeys). committed_page k g n) codec_is ∙ (given n num anew ∙ sym (seen_is n num anew (change_of n x.changes) refl));
      others = λ n num is_other. subst (λ (s : ℕ). stored_page s n g ≡ stored_page s n file) size_is.0 (same n num ∙ other_stored n num is_other);
    }
      where
        salt_is : salt_of g ≡ salt_of file
        salt_is = begins ∙ main_salt

        codec_is : codec_of (write_access x) g ≡ write
        codec_is = ap (codec_at (write_access x)) salt_is

        given : (n : ℕ) → is_page_number count n ≡ true → is_sealed x n ≡ true → committed_page write g n ≡ Some (plain n)
        given n num anew =
            ap (λ (l : List ℕ). if accepts write n l then Some (opened write n l) else None) (same n num)
            ∙ ap (λ (b : Bool). if b then Some (opened write n (page_stored write main n)) else None) (has.accepted n num anew)
            ∙ ap (λ (l : List ℕ). Some l) (has.opens n num anew)

        seen_is : (n : ℕ) → is_page_number count n ≡ true → is_sealed x n ≡ true → (c : Option (List ℕ)) → change_of n x.changes ≡ c → seen_page x file n ≡ Some (plain n)
        seen_is n num anew (Some page) is =
            ap (λ (o : Option (List ℕ)). else_page o (committed_page keys file n)) is ∙ ap (λ (l : List ℕ). Some l) (sym (plain_is n page num is))
        seen_is n num anew None is =
            ap (λ (o : Option (List ℕ)). else_page o (committed_page keys file n)) is
            ∙ ap (λ (b : Bool). if b then Some (old_plain n) else None) (sound.accepted n num anew)
            ∙ ap (λ (l : List ℕ). Some l) (sym (unchanged_is n num is))

    -- and its pages that were sealed anew have bytes of their own
    drawn_with : (g : List ℕ) → ((n : ℕ) → is_page_number count n ≡ true → page_stored write g n ≡ page_stored write main n) → take 16 g ≡ take 16 main
        → IsTrue tells → HasDrawn x g before after
    drawn_with g same begins told = record {
      drawn = has.draws;
      behind = has.since told;
      own = subst (λ (k : FileKeys). OwnDrawsBy k x g has.draws) (sym codec_is) (record {
        place = has.own.place;
        later = has.own.later;
        within = has.own.within;
        is_sealed = λ n num.
            let two = and_true (is_page_number count n) (is_sealed x n) num in
            let draw = drawn_at write.profile.reserve (has.own.place n) has.draws in
            subst (λ (l : List ℕ). l ≡ sealed write n (opened write n l) draw) (sym (same n two.0))
            (subst (λ (l : List ℕ). page_stored write main n ≡ sealed write n l draw) (sym (has.opens n two.0 two.1)) (has.own.is_sealed n num));
        apart = has.own.apart;
      });
    }
      where
        codec_is : codec_of (write_access x) g ≡ write
        codec_is = ap (codec_at (write_access x)) (begins ∙ main_salt)

    -- Main itself
    pub main_changes : base.counts (length main) ≡ true → HasSessionChanges x file main
    main_changes is = with_pages main (λ n num. refl) refl is

    abbrev cut : List ℕ
    cut = take (count * keys.profile.page_size) main

    cut_stored : (n : ℕ) → is_page_number count n ≡ true → page_stored write cut n ≡ page_stored write main n
    cut_stored n num =
        let within = number_in count n num in
        subst (λ (s : ℕ). stored_page s n cut ≡ stored_page s n main) (sym size_is.0) (cut_page n count keys.profile.page_size main within.0 within.1 main_long)

    cut_begins : take 16 cut ≡ take 16 main
    cut_begins = take-take 16 (count * keys.profile.page_size) main (omega (arith, large, one_page count keys.profile.page_size some))

    -- and what Main has without what stands behind its pages
    cut_changes : HasSessionChanges x file cut
    cut_changes = with_pages cut cut_stored cut_begins
        (subst (λ (k : ℕ). base.counts k ≡ true) (sym cut_length) (base_begins keys file count opens large some).whole)
      where
        cut_length : length cut ≡ count * keys.profile.page_size
        cut_length = omega (arith, main_long, length-take (count * keys.profile.page_size) main)

    pub cut_made : IsMadeBy x file (IsTrue tells) before after cut
    cut_made = record { changes = cut_changes; draws = drawn_with cut cut_stored cut_begins }

    pub cut_same : stored_pages keys.profile.page_size count main ≡ stored_pages keys.profile.page_size count cut
    cut_same = sym (cut_pages count keys.profile.page_size main main_long)

    pub has_drawn : IsTrue tells → HasDrawn x main before after
    has_drawn = drawn_with main (λ n num. refl) refl

  -- where each image has this Main, and no journal
  pub done_changes : (files : Files) (left : Files → Type 0) → left files → HasNew (main_of files) → Each left (IsCommitted base (main_of files)) → HasSessionChanges x file (main_of files)
  done_changes files left here new each = main_changes (main_of files) new (committed_counts base (main_of files) files (each files here))

  -- at each moment
  pub leaves_changes : {D : Type 0} (moment : D → ℕ) (since : D → ℕ → Files → Type 0) (old_disk new_disk : D)
      → LeavesChanged moment since base HasNew old_disk new_disk
      → LeavesChanged moment since base (IsMadeBy x file (IsTrue tells) before after) old_disk new_disk
  leaves_changes moment since old_disk new_disk (inl run) = inl run
  leaves_changes moment since old_disk new_disk (inr new) = inr (
    take (count * keys.profile.page_size) new.0,
    cut_made new.0 new.1,
    subst (λ (db : List (List ℕ)). LeavesOnly moment since old_disk new_disk (HoldsEither base db)) (cut_same new.0 new.1) new.2,
  )

-- ---- the disk

unrefused : (r : Result Opened OpenError) (x : Opened) (error : OpenError) → r ≡ Ok x → error ≢ DiskFails → error ≢ MemoryEnds → IsRefusedBy r error → ⊥
unrefused r x error ok disk memory (inl is) = disk is
unrefused r x error ok disk memory (inr (inl is)) = memory is.0
unrefused r x error ok disk memory (inr (inr is)) = differ x error (sym ok ∙ is)
  where
    differ : (x : Opened) (error : OpenError) → ◌≡◌ {A = Result Opened OpenError} (Ok x) (Err error) → ⊥
    differ x error is = cc

-- a run that only reads a settled disk leaves the old pages
pub old_read : {D : Type 0} (reads : D → Files) (images : D → Files → Type 0) (moment : D → ℕ) (since : D → ℕ → Files → Type 0)
    (counts_now : (disk : D) (t : ℕ) (c : Files) → t ≤ moment disk → images disk c → since disk t c)
    (only_now : (disk : D) (c : Files) → since disk (moment disk) c → images disk c) (x : Session) (old new : D)
    → IsHallSettled (reads old) (images old) → counted_pages (opened_by x.access (main_of (reads old))) ≡ Some x.pages → OnlyRead reads images moment since old new
    → LeavesOnly moment since old new (HoldsOld (base_by x (main_of (reads old))))
old_read reads images moment since counts_now only_now x old new settled opens read =
    goes_less counts_now (started only_now old (HoldsOld (base_by x (main_of (reads old)))) (λ image here. alone_old (codec_of x.access (main_of (reads old))) (main_of (reads old)) x.pages image
    (open_count (codec_of x.access (main_of (reads old))) (main_of (reads old)) x.pages opens)
    (stands_alone (reads old) (images old) settled (open_some (codec_of x.access (main_of (reads old))) (main_of (reads old)) x.pages opens) image here)))
    read.time (λ c now. read.same_images.no_more c now)

-- a file that opens is refused by the disk or for memory alone
pub refused_stops : {D : Type 0} (reads : D → Files) (images : D → Files → Type 0) (moment : D → ℕ) (since : D → ℕ → Files → Type 0) (old new : D) (r : Result Opened OpenError) (x : Opened) (error : OpenError)
    → r ≡ Ok x → IsRefusedBy r error → OnlyRead reads images moment since old new → StopsCommit reads images moment since old new (unopened_answer error)
refused_stops reads images moment since old new r x DiskFails ok refused read = tt
refused_stops reads images moment since old new r x MemoryEnds ok refused read = read
refused_stops reads images moment since old new r x IsEmpty ok refused read = absurd (unrefused r x IsEmpty ok (λ is. cc) (λ is. cc) refused)
refused_stops reads images moment since old new r x (IsShort len) ok refused read = absurd (unrefused r x (IsShort len) ok (λ is. cc) (λ is. cc) refused)
refused_stops reads images moment since old new r x NoKey ok refused read = absurd (unrefused r x NoKey ok (λ is. cc) (λ is. cc) refused)
refused_stops reads images moment since old new r x (AtFault at found) ok refused read = absurd (unrefused r x (AtFault at found) ok (λ is. cc) (λ is. cc) refused)
refused_stops reads images moment since old new r x IsWal ok refused read = absurd (unrefused r x IsWal ok (λ is. cc) (λ is. cc) refused)
refused_stops reads images moment since old new r x IsVacuum ok refused read = absurd (unrefused r x IsVacuum ok (λ is. cc) (λ is. cc) refused)
refused_stops reads images moment since old new r x (IsRagged len) ok refused read = absurd (unrefused r x (IsRagged len) ok (λ is. cc) (λ is. cc) refused)
refused_stops reads images moment since old new r x (IsLarge pages) ok refused read = absurd (unrefused r x (IsLarge pages) ok (λ is. cc) (λ is. cc) refused)

-- why a commit stops that was begun
pub change_stops : {D : Type 0} (reads : D → Files) (images : D → Files → Type 0) (moment : D → ℕ) (since : D → ℕ → Files → Type 0) (old new : D) (answer : Answer) → IsChangeAnswer answer
    → (answer ≡ AnswerMemory → OnlyRead reads images moment since old new) → StopsCommit reads images moment since old new answer
change_stops reads images moment since old new AnswerDone is read = absurd is
change_stops reads images moment since old new AnswerPage is read = absurd is
change_stops reads images moment since old new AnswerBusy is read = absurd is
change_stops reads images moment since old new (AnswerRefused error) is read = absurd is
change_stops reads images moment since old new (AnswerTag page) is read = absurd is
change_stops reads images moment since old new AnswerMisuse is read = absurd is
change_stops reads images moment since old new AnswerDown is read = absurd is
change_stops reads images moment since old new AnswerDisk is read = tt
change_stops reads images moment since old new AnswerDraws is read = tt
change_stops reads images moment since old new AnswerMemory is read = read refl
