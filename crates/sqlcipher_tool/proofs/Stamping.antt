-- A transaction that changes page 1 alone, as its disk shows it.
use Rattle.std.proofs.Common.{◌≡◌, ◌≤◌, ◌*◌, ℕ, Bool, List, [], length, drop, Some, Result, Ok, Err, IsTrue, refl, sym, ap, subst, ◌∙◌, arith, rules}
use Rattle.std.specs.Bool.{beq}
use Rattle.std.specs.Prelude.{OnOk, if◌then◌else◌, ◌&&◌, ◌==◌, true, false}
use Rattle.fresh_disk.specs.Published.{IsAlone}
use Rattle.cipher_profile.specs.Profile.{IsListed, is_clear, usable}
use Rattle.cipher_profile.specs.declared.profile.Profile.{Profile}
use Rattle.cipher_profile.proofs.Layouts.{IsListed-laid_out}
use Rattle.db_format.specs.declared.header.Header.{Header}
use Rattle.edge_model.specs.Files.{Files, main_of}
use Rattle.edge_model.specs.Images.{Each, LeavesOnly}
use Rattle.db_format.specs.Pages.{Pages}
use Rattle.page_cache.specs.Pages.{Page}
use Rattle.cipher_profile.specs.declared.keys.Secret.{Secret}
use Rattle.edge_model.specs.Causes.{Rose}
use Rattle.page_codec.specs.Page.{FileKeys, accepts, keys_of, keys_with_salt, magic, opened, salt_of}
use Rattle.pager.specs.Base.{base_of}
use Rattle.pager.specs.Changed.{same_layout, with_bytes}
use Rattle.pager.specs.Database.{count_by}
use Rattle.pager.specs.File.{page_stored}
use Rattle.pager.specs.Opening.{file_opened}
use Rattle.pager.specs.declared.opening.OpenError.{OpenError}
use Rattle.pager.specs.declared.opening.OpenError.TheVariants.{Empty as IsEmpty, Short as IsShort, KeyRefused as NoKey, HeaderFault as AtFault, WalMode as IsWal, AutoVacuum as IsVacuum, Ragged as IsRagged, TooLarge as IsLarge, DiskFault as DiskFails, OutOfMemory as MemoryEnds}
use Rattle.pager.specs.Pages.{is_page_number, opened_pages}
use Rattle.pager.specs.declared.fill.PageError.{PageError}
use Rattle.pager.specs.declared.fill.PageError.TheVariants.{OutOfRange, TagRefused, DiskFault as PageFault, EntropyFault as DrawFault, AllPinned}
use Rattle.atomic_commit.specs.Commit.{IsCommitted, LeavesChanged}
use Rattle.pager.specs.UnderWay.{HasNewPages, Start, is_touched, seen_pages, IsRefusedAs}
use Rattle.atomic_commit.specs.Database.{HoldsEither, HoldsOld, stored_pages}
use Rattle.atomic_commit.specs.Facts.{IsBase}
use Rattle.atomic_commit.specs.Marks.{is_marked}
use Rattle.sqlcipher_tool.specs.Answer.{IsFault}
use Rattle.sqlcipher_tool.specs.Change.{Commits, IsLateChange, KeepsOrCommits, change_status, IsStopOf}
use Rattle.sqlcipher_tool.specs.Stop.{IsLateStop, stop_of}
use Rattle.rekey_job.specs.Draws.{FileDraws}
use Rattle.sqlcipher_tool.specs.Holding.{HoldsOnly, held_by}
use Rattle.sqlcipher_tool.specs.Renewal.{WithDraws}
use Rattle.sqlcipher_tool.specs.FirstPage.{IsFirstChanged, IsHarmless, changed_page, next_change, with_field}
use Rattle.sqlcipher_tool.specs.declared.opening.Stop.TheVariants.{DiskFault as StopDisk}
use Rattle.sqlcipher_tool.specs.declared.opening.ChangeError.{ChangeError}
use Rattle.sqlcipher_tool.specs.declared.status.Status.TheVariants.{Done, DiskFault}
use Rattle.sqlcipher_tool.proofs.Databases.{any_base, counted_pages, is_base, start_of, whole_count}
use Rattle.sqlcipher_tool.proofs.OpenedParts.{IsOpen, header_size, open_accepts, open_parts}
use Rattle.sqlcipher_tool.proofs.Committed.{broke, ended, made_new}
use Rattle.sqlcipher_tool.proofs.ChangedPages.{is_changed, new_count, new_long, own_draws, count_read}

-- what holds where a call was done
pub was_ok : {A E : Type 0} {P : Type 0} (r : Result A E) (a : A) → r ≡ Ok a → OnOk r P → P
was_ok {P = P} r a is on = subst (λ (r : Result _ _). OnOk r P) is on

-- a file of just its pages has as many
pub whole_counts : (keys : FileKeys) (file : List ℕ) (header : Header) (n : ℕ) → IsOpen keys file header n → 1 ≤ keys.profile.page_size → 1 ≤ n
    → count_by keys (page_stored keys file 1) (n * keys.profile.page_size) ≡ Some n
whole_counts keys file header n is_open size some =
    let sized = header_size keys.profile.reads_log (opened keys 1 (page_stored keys file 1)) keys.profile.page_size keys.profile.reserve header is_open.read in
    let long : keys.profile.page_size ≤ n * keys.profile.page_size = one_page n keys.profile.page_size some in
    count_read keys (page_stored keys file 1) (n * keys.profile.page_size) long header n is_open.read
    (ap (λ (k : ℕ). Rattle.db_format.specs.Count.count_of_pages header (n * k)) (sym sized.1) ∙ whole_count header (length file) n (subst (λ (k : ℕ). 1 ≤ k) (sym sized.1) size) is_open.counts)
  where
    one_page : (n size : ℕ) → 1 ≤ n → size ≤ n * size
    one_page n size some =
        let each : size ≤ size * n = Rattle.std.proofs.Math.Nat.le-mul_of_pos_right {m = n} size (omega (arith, some)) in
        omega (arith, each, Rattle.std.proofs.Math.Nat.mul_comm size n)

-- what a transaction of a file that opens starts from
pub starts : (tells : Bool) (keys : FileKeys) (file : List ℕ) (header : Header) (n : ℕ) → 1 ≤ keys.profile.page_size → 1 ≤ n
    → (IsTrue tells → file_opened keys file ≡ Ok (record { header = header; count = n })) → IsBase (any_base tells keys file n)
starts tells keys file header n size some opens = is_base tells keys file n size some (λ told.
    let is_open = open_parts keys file header n (opens told) in
    let sized = header_size keys.profile.reads_log (opened keys 1 (page_stored keys file 1)) keys.profile.page_size keys.profile.reserve header is_open.read in
    (subst (λ (k : ℕ). n * k ≤ length file) sized.1 (counted_pages header (length file) n is_open.counts).within, whole_counts keys file header n is_open size some))

-- ---- what is written, and what a refused page stops

one_number : (n : ℕ) → 1 ≤ n → is_page_number n 1 ≡ true
one_number n some = search (rules, some)

-- a transaction that changed nothing sees page 1 of the file, which is accepted where the file opens
pub record SeesFirst (keys : FileKeys) (file : List ℕ) (seen : Pages) : Type 0 where
  pub page : seen.page 1 ≡ opened keys 1 (page_stored keys file 1)
  pub accepted : seen.accepts 1 ≡ true

pub sees_first : (keys read write : FileKeys) (file main : List ℕ) (header : Header) (n count : ℕ) (marks : List Bool) (held : List Page) → read ≡ keys → main ≡ file → count ≡ n → held ≡ []
    → is_touched marks held 1 ≡ false → 1 ≤ n → IsListed keys.profile → file_opened keys file ≡ Ok (record { header = header; count = n })
    → SeesFirst keys file (seen_pages read write main count marks held)
sees_first keys read write file main header n count marks held one two three free untouched some listed opens =
    subst (λ (k : FileKeys). SeesFirst keys file (seen_pages k write main count marks held)) (sym one)
    (subst (λ (l : List ℕ). SeesFirst keys file (seen_pages keys write l count marks held)) (sym two)
    (subst (λ (i : ℕ). SeesFirst keys file (seen_pages keys write file i marks held)) (sym three)
    (subst (λ (hs : List Page). SeesFirst keys file (seen_pages keys write file n marks hs)) (sym free) sees)))
  where
    unmarked : is_marked 1 marks ≡ false
    unmarked = ap (λ (hs : List Page). is_touched marks hs 1) (sym free) ∙ untouched

    at_one : (b : Bool) → is_marked 1 marks ≡ b → b ≡ false → (if b then write else keys) ≡ keys
    at_one true is not = absurd (differ not)
      where
        differ : true ≡ false → ⊥
        differ is = cc
    at_one false is not = refl

    same : (if is_marked 1 marks then write else keys) ≡ keys
    same = at_one (is_marked 1 marks) refl unmarked

    sees : SeesFirst keys file (seen_pages keys write file n marks [])
    sees = record {
      page = ap (λ (k : FileKeys). (opened_pages k file n).page 1) same ∙ ap (λ (b : Bool). if b then opened keys 1 (page_stored keys file 1) else []) (one_number n some);
      accepted = ap (λ (k : FileKeys). (opened_pages k file n).accepts 1) same
          ∙ (ap (λ (b : Bool). b && accepts keys 1 (page_stored keys file 1)) (one_number n some) ∙ open_accepts keys file header n listed (open_parts keys file header n opens));
    }

-- of a page more than the first nothing was changed
pub one_alone : (m : ℕ) (b : Bool) → b ≡ false → (if m == 1 then true else b) ≡ (m == 1)
one_alone m b is = ap (λ (b : Bool). if m == 1 then true else b) is ∙ alone (m == 1)
  where
    alone : (b : Bool) → (if b then true else false) ≡ b
    alone true = refl
    alone false = refl

-- the page that is written is the changed one
pub page_is : (keys : FileKeys) (file seen : List ℕ) (header fields : Header) (n pages change at : ℕ) (bytes : List ℕ)
    → file_opened keys file ≡ Ok (record { header = header; count = n }) → seen ≡ opened keys 1 (page_stored keys file 1) → fields ≡ header → change ≡ next_change fields.change → pages ≡ n
    → with_field 92 change (with_field 28 pages (with_field 24 change (with_bytes at bytes seen))) ≡ changed_page at bytes n (opened keys 1 (page_stored keys file 1))
page_is keys file seen header fields n pages change at bytes opens first same is all =
    ap (λ (l : List ℕ). with_field 92 change (with_field 28 pages (with_field 24 change (with_bytes at bytes l)))) first
    ∙ (ap (λ (k : ℕ). with_field 92 change (with_field 28 k (with_field 24 change (with_bytes at bytes plain)))) all
    ∙ ap (λ (k : ℕ). with_field 92 k (with_field 28 n (with_field 24 k (with_bytes at bytes plain)))) next)
  where
    plain : List ℕ
    plain = opened keys 1 (page_stored keys file 1)

    next : change ≡ next_change (Rattle.db_format.specs.Bytes.u32_at plain 24)
    next = is ∙ ap (λ (h : Header). next_change h.change)
        (same ∙ sym (header_size keys.profile.reads_log plain keys.profile.page_size keys.profile.reserve header (open_parts keys file header n opens).read).0)

pub differ : true ≡ false → ⊥
differ is = cc

-- where page 1 is accepted, it is refused by a fault
pub page_faults : (tells : Bool) (seen : Pages) (a b d e : ℕ) (error : PageError) (stop : ChangeError) → IsRefusedAs tells seen 1 a b d e error → IsStopOf error stop
    → IsTrue tells → seen.accepts 1 ≡ true → IsFault (change_status (Err stop))
page_faults tells seen a b d e OutOfRange stop was is told accepted = absurd is
page_faults tells seen a b d e (TagRefused page) stop was is told accepted = absurd (differ (sym accepted ∙ was.2 told))
page_faults tells seen a b d e PageFault stop was is told accepted = subst (λ (s : ChangeError). IsFault (change_status (Err s))) (sym is) tt
page_faults tells seen a b d e DrawFault stop was is told accepted = subst (λ (s : ChangeError). IsFault (change_status (Err s))) (sym is) tt
page_faults tells seen a b d e AllPinned stop was is told accepted = absurd is

pub page_late : (error : PageError) (stop : ChangeError) → IsStopOf error stop → IsLateChange stop
page_late OutOfRange stop is = absurd is
page_late (TagRefused page) stop is = subst IsLateChange (sym is) refl
page_late PageFault stop is = subst IsLateChange (sym is) tt
page_late DrawFault stop is = subst IsLateChange (sym is) tt
page_late AllPinned stop is = absurd is

-- what refuses page 1 after an earlier change of it
pub refused_later : (tells : Bool) (first now : Pages) (a b d e f h : ℕ) (error : PageError) → now.count ≡ first.count → (IsTrue tells → now.accepts 1 ≡ true) → a ≤ b → e ≤ f
    → IsRefusedAs tells now 1 b d f h error → IsRefusedAs tells first 1 a d e h error
refused_later tells first now a b d e f h OutOfRange same accepted disk entropy was = subst (λ (k : ℕ). is_page_number k 1 ≡ false) same was
refused_later tells first now a b d e f h (TagRefused page) same accepted disk entropy was =
    (subst (λ (k : ℕ). is_page_number k 1 ≡ true) same was.0, was.1, λ told. absurd (differ (sym (accepted told) ∙ was.2 told)))
refused_later tells first now a b d e f h PageFault same accepted disk entropy was = omega (arith, disk, was)
refused_later tells first now a b d e f h DrawFault same accepted disk entropy was = omega (arith, entropy, was)
refused_later tells first now a b d e f h AllPinned same accepted disk entropy was = was

-- a codec has the layout of itself
pub layout_same : (keys : FileKeys) → same_layout keys keys ≡ true
layout_same keys =
    parts (keys.profile.page_size == keys.profile.page_size) (keys.profile.reserve == keys.profile.reserve) (beq keys.profile.reads_log keys.profile.reads_log)
    (search rules) (search rules) (same_bool keys.profile.reads_log)
  where
    same_bool : (a : Bool) → beq a a ≡ true
    same_bool true = refl
    same_bool false = refl

    parts : (a b d : Bool) → a ≡ true → b ≡ true → d ≡ true → (a && b && d) ≡ true
    parts a b d one two three = search (rules, one, two, three)

-- ---- a file that does not open

pub stop_late : (error : OpenError) → IsLateStop (stop_of error)
stop_late IsEmpty = refl
stop_late (IsShort len) = refl
stop_late NoKey = tt
stop_late (AtFault offset found) = refl
stop_late IsWal = refl
stop_late IsVacuum = refl
stop_late (IsRagged len) = refl
stop_late (IsLarge pages) = refl
stop_late DiskFails = tt
stop_late MemoryEnds = tt

pub disk_stops : (error : OpenError) → stop_of error ≡ StopDisk → error ≡ DiskFails
disk_stops IsEmpty is = cc
disk_stops (IsShort len) is = cc
disk_stops NoKey is = cc
disk_stops (AtFault offset found) is = cc
disk_stops IsWal is = cc
disk_stops IsVacuum is = cc
disk_stops (IsRagged len) is = cc
disk_stops (IsLarge pages) is = cc
disk_stops DiskFails is = refl
disk_stops MemoryEnds is = cc

pub rose_from : (before mid now : ℕ) → before ≤ mid → Rose mid now → Rose before now
rose_from before mid now le rose = omega (arith, le, rose)

-- files with the same salt have the same keys
pub same_keys : (profile : Profile) (secret : Secret) (one two : List ℕ) → salt_of one ≡ salt_of two → keys_of profile secret one ≡ keys_of profile secret two
same_keys profile secret one two same = ap (λ (salt : List ℕ). keys_with_salt profile secret (if is_clear profile then magic else salt)) same

-- ---- the disk

-- A file that opens, alone in each image, and a transaction from it that changed page 1 alone.
module _ {D : Type 0} (reads : D → Files) (images : D → Files → Type 0) (moment : D → ℕ) (since : D → ℕ → Files → Type 0)
    (counts_now : (disk : D) (t : ℕ) (c : Files) → t ≤ moment disk → images disk c → since disk t c)
    (only_now : (disk : D) (c : Files) → since disk (moment disk) c → images disk c)
    (keys : FileKeys) (file : List ℕ) (header : Header) (n : ℕ) (opens : file_opened keys file ≡ Ok (record { header = header; count = n })) (some : 1 ≤ n)
    (start : Start) (is_start : start.base ≡ base_of keys file n) (old mid new : D) (alone : Each (images old) (IsAlone file))
    (run : LeavesOnly moment since old mid (HoldsOld start.base)) (at : ℕ) (bytes : List ℕ) (harmless : IsHarmless keys.profile at bytes) (salt : keys.salt ≡ salt_of file)
    (listed : IsListed keys.profile) (touched : ℕ → Bool) (pages : ℕ → List ℕ) (tells : Bool) (after : List ℕ)
    (is_page : pages 1 ≡ changed_page at bytes n (opened keys 1 (page_stored keys file 1))) (one : (m : ℕ) → is_page_number n m ≡ true → touched m ≡ (m == 1)) where
  abbrev pub IsNew : List ℕ → Type 0
  IsNew = WithDraws (IsFirstChanged keys at bytes file) tells (λ main. FileDraws keys main (λ m. m == 1) 0 (drop (length start.drawn) after))

  abbrev pub HasNew : List ℕ → Type 0
  HasNew main = HasNewPages start keys touched pages tells after main

  abbrev HasPages : List ℕ → Type 0
  HasPages main = HasNewPages (start_of keys file n start.drawn) keys touched pages tells after main

  parts : IsOpen keys file header n
  parts = open_parts keys file header n opens

  room : 120 ≤ usable keys.profile
  room = let content = (IsListed-laid_out keys.profile listed).content in omega (arith, content)

  sized : 1 ≤ keys.profile.page_size
  sized = let least = (IsListed-laid_out keys.profile listed).least in omega (arith, least)

  is_new : (main : List ℕ) → HasPages main → IsNew main
  is_new main has = (
    is_changed keys at bytes harmless n file header parts some salt room listed touched pages tells start.drawn after main is_page one has,
    own_draws keys at bytes harmless n file header parts some salt room listed touched pages tells start.drawn after main is_page one has,
  )

  counts_new : (main : List ℕ) → HasPages main → (len : ℕ) → n * keys.profile.page_size ≤ len → count_by keys (page_stored keys main 1) len ≡ Some n
  counts_new main has = new_count keys at bytes harmless n file header parts some salt room listed touched pages tells start.drawn after main is_page one has

  is_long : (main : List ℕ) → HasPages main → n * keys.profile.page_size ≤ length main
  is_long main has = new_long keys at bytes harmless n file header parts some salt room listed touched pages tells start.drawn after main is_page one has

  -- the commit was done
  pub done : HasNew (main_of (reads new)) → Each (images new) (IsCommitted start.base (main_of (reads new)))
      → LeavesOnly moment since mid new (HoldsEither start.base (stored_pages start.base.size start.base.pages (main_of (reads new))))
      → Commits reads images moment since Done IsNew (λ image. HoldsOnly (held_by keys file) image) (λ main image. HoldsOnly (held_by keys main) image) old new
  done has now either =
      ended reads images moment since counts_now only_now keys file header n opens some start is_start old mid new alone run touched pages tells after IsNew sized is_new counts_new is_long has now either

  -- the disk failed in it
  pub failed : LeavesChanged moment since start.base HasNew mid new
      → KeepsOrCommits reads images moment since DiskFault IsNew (λ image. HoldsOnly (held_by keys file) image) (λ main image. HoldsOnly (held_by keys main) image) old new
  failed broken = broke reads images moment since counts_now only_now keys file header n opens some start is_start old mid new alone run touched pages tells after IsNew sized is_new counts_new is_long broken

  pub draws : IsTrue tells → HasNew (main_of (reads new)) → FileDraws keys (main_of (reads new)) (λ m. m == 1) 0 (drop (length start.drawn) after)
  draws told has =
      (made_new reads images moment since counts_now only_now keys file header n opens some start is_start old mid new alone run touched pages tells after IsNew sized is_new counts_new is_long has).1 told
