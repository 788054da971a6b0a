-- A settling, as its disk shows it.
use Rattle.std.proofs.Common.{◌≡◌, ◌⊎◌, ⊎_elim, inl, inr, ◌==◌, ◌≤◌, ◌<◌, ◌+◌, ◌^◌, ◌&&◌, ℕ, Bool, true, false, List, [], ◌∷◌, length, drop, Option, Some, Result, Ok, Err, IsTrue, refl, sym, ap, subst, ◌∙◌, arith, rules}
use Rattle.std.specs.Prelude.{OnOk, if◌then◌else◌, not, unwrap_or}
use Rattle.cipher_profile.proofs.Layouts.{IsListed-laid_out}
use Rattle.cipher_profile.specs.Profile.{IsListed, IsPlainHeader, set_log, usable, with_log}
use Rattle.cipher_profile.specs.declared.keys.Secret.{Secret}
use Rattle.cipher_profile.specs.declared.profile.Profile.{Profile}
use Rattle.fresh_disk.specs.Published.{IsAlone}
use Rattle.db_format.specs.Bytes.{u8_at, u32_at}
use Rattle.db_format.specs.Header.{header_fields, header_read}
use Rattle.db_format.specs.declared.header.Header.{Header}
use Rattle.edge_model.specs.Files.{Files, bytes_of, main_of}
use Rattle.edge_model.specs.Images.{Each, LeavesOnly}
use Rattle.edge_model.specs.OnlyRead.{OnlyRead}
use Rattle.page_codec.specs.Page.{FileKeys, accepts, deciphered, enciphered, keys_of, opened, salt_of, sealed, untagged}
use Rattle.pager.specs.Database.{count_of}
use Rattle.pager.specs.File.{page_stored}
use Rattle.pager.specs.Opening.{Opened, file_opened}
use Rattle.pager.specs.declared.opening.OpenError.{OpenError}
use Rattle.pager.specs.Pages.{is_page_number, opened_pages}
use Rattle.rekey_job.specs.Draws.{FileDraws}
use Rattle.sqlcipher_tool.specs.Answer.{Answer}
use Rattle.sqlcipher_tool.specs.FirstPage.{IsFirstChanged, next_change}
use Rattle.sqlcipher_tool.specs.Opening.{open_answer, page_count_of, unopened_answer}
use Rattle.sqlcipher_tool.specs.Stop.{IsOutside, stop_answer}
use Rattle.sqlcipher_tool.specs.declared.opening.Stop.{Stop}
use Rattle.sqlcipher_tool.specs.declared.opening.Stop.TheVariants.{Refused as StopRefused, KeyRefused as StopKey, DiskFault as StopDisk, OutOfMemory as StopMemory}
use Rattle.sqlcipher_tool.specs.Change.{KeepsOld, KeepsOrCommits}
use Rattle.sqlcipher_tool.specs.Holding.{HoldsOnly, held_by}
use Rattle.sqlcipher_tool.specs.Renewal.{WithDraws}
use Rattle.sqlcipher_tool.specs.Maps.{AreMapsFreed, first_plain, has_maps, is_rewritten, versions, versions_at, without_maps}
use Rattle.sqlcipher_tool.specs.Settle.{IsMarkStop, IsSettledFrom, IsSettledUnder, SettledDraws, keys_set, marks_of, settled_answer}
use Rattle.sqlcipher_tool.specs.declared.settle.Marks.{Marks}
use Rattle.sqlcipher_tool.specs.declared.settle.Marks.TheVariants.{Maps, Rollback, Wal}
use Rattle.sqlcipher_tool.specs.declared.status.Status.{Status}
use Rattle.sqlcipher_tool.specs.declared.status.Status.TheVariants.{Done}
use Rattle.sqlcipher_tool.proofs.ChangedFields.{changed_read}
use Rattle.sqlcipher_tool.proofs.ChangedPages.{count_few}
use Rattle.sqlcipher_tool.proofs.Changing.{commits_done, read_only}
use Rattle.sqlcipher_tool.proofs.Committed.{some_file}
use Rattle.sqlcipher_tool.proofs.Databases.{alone_holds, counted_pages}
use Rattle.sqlcipher_tool.proofs.MapsPage.{freed_length, freed_read, freed_root}
use Rattle.sqlcipher_tool.proofs.OpenedParts.{IsOpen, header_size, open_accepts, open_count, open_parts}
use Rattle.sqlcipher_tool.proofs.Stamping.{same_keys}
use Rattle.sqlcipher_tool.proofs.Unmarked.{accepts_set, count_set, first_version, holds_set, keys_set_of, maps_kept, opened_set, second_version, unmarked, unmarked_length, unmarked_read, versions_read}
use Rattle.sqlcipher_tool.proofs.Verified.{some_is}
use Rattle.sqlcipher_tool.proofs.VerifiedFile.{outside_none}

-- page 1 is a page of the file
one_number : (n : ℕ) → 1 ≤ n → is_page_number n 1 ≡ true
one_number n some = search (rules, some)

pub first_page_of : (keys : FileKeys) (file : List ℕ) (n : ℕ) → 1 ≤ n → (opened_pages keys file n).page 1 ≡ first_plain keys file
first_page_of keys file n some = ap (λ (b : Bool). if b then opened keys 1 (page_stored keys file 1) else []) (one_number n some)

pub first_accepted : (keys : FileKeys) (file : List ℕ) (n : ℕ) → 1 ≤ n → (opened_pages keys file n).accepts 1 ≡ accepts keys 1 (page_stored keys file 1)
first_accepted keys file n some = ap (λ (b : Bool). b && accepts keys 1 (page_stored keys file 1)) (one_number n some)

-- no bytes are behind all
pub all_dropped : (bytes : List ℕ) → drop (length bytes) bytes ≡ []
all_dropped [] = refl
all_dropped (byte ∷ bytes) = all_dropped bytes

-- what page 1 was found to say
pub marks_given : (keys : FileKeys) (file : List ℕ) (n : ℕ) → 1 ≤ n → (found marks : Marks) → found ≡ marks_of ((opened_pages keys file n).page 1) → found ≡ marks
    → marks_of (first_plain keys file) ≡ marks
marks_given keys file n some found marks is same = sym (ap marks_of (first_page_of keys file n some)) ∙ (sym is ∙ same)

-- of a file that opens page 1 is accepted, so that no answer is due where it is not got
pub marks_stop : (tells : Bool) (keys : FileKeys) (file : List ℕ) (header : Header) (n : ℕ) → 1 ≤ n → IsListed keys.profile → IsTrue tells
    → file_opened keys file ≡ Ok (record { header = header; count = n }) → (stop : Stop) (answer : Answer) → IsMarkStop tells (opened_pages keys file n) stop
    → stop_answer stop ≡ Some answer → ⊥
marks_stop tells keys file header n some listed told opens stop answer was is = by_stop stop was is
  where
    accepted : (opened_pages keys file n).accepts 1 ≡ true
    accepted = first_accepted keys file n some ∙ open_accepts keys file header n listed (open_parts keys file header n opens)

    differ : false ≡ true → ⊥
    differ is = cc

    by_stop : (stop : Stop) → IsMarkStop tells (opened_pages keys file n) stop → stop_answer stop ≡ Some answer → ⊥
    by_stop (StopRefused refusal) was is = differ (sym (was.1 told) ∙ accepted)
    by_stop StopKey was is = was
    by_stop StopDisk was is = cc
    by_stop StopMemory was is = cc

-- Main as it reads
pub some_main : (now was : Files) → now ≡ was → (keys : FileKeys) (header : Header) (n : ℕ) → file_opened keys (main_of was) ≡ Ok (record { header = header; count = n })
    → IsListed keys.profile → bytes_of now.main ≡ Some (main_of was)
some_main now was same keys header n opens listed =
    let long = (open_parts keys (main_of was) header n opens).long in
    let least = (IsListed-laid_out keys.profile listed).least in
    some_file now.main (subst (λ (f : Files). 1 ≤ length (main_of f)) (sym same) (omega (arith, long, least))) ∙ ap (λ (f : Files). Some (main_of f)) same

-- what was done is told of otherwise
pub draws_ok : {T E A B : Type 0} (told drawing : Type 0) (r : Result T E) → OnOk r (told → drawing → A) → (A → B) → OnOk r (told → drawing → B)
draws_ok told drawing (Ok x) was other = λ tells draws. other (was tells draws)
draws_ok told drawing (Err e) was other = was

module _ {D : Type 0} (reads : D → Files) (images : D → Files → Type 0) (moment : D → ℕ) (since : D → ℕ → Files → Type 0)
    (counts_now : (disk : D) (t : ℕ) (c : Files) → t ≤ moment disk → images disk c → since disk t c)
    (only_now : (disk : D) (c : Files) → since disk (moment disk) c → images disk c)
    (keys : FileKeys) (file : List ℕ) (old new : D) (alone : Each (images old) (IsAlone file)) (read : OnlyRead reads images moment since old new) where
  -- the disk was only read
  pub kept_run : LeavesOnly moment since old new (HoldsOnly (held_by keys file))
  kept_run = read_only reads images moment since counts_now only_now (λ c now. alone_holds keys file c (alone c now)) read

  -- and the command was not done
  pub kept : (status : Status) → (status ≡ Done → ⊥) → KeepsOld moment since status (HoldsOnly (held_by keys file)) old new
  kept status never = record {
    any_moment = read_only reads images moment since counts_now only_now (λ c now. alone_holds keys file c (alone c now)) read;
    not_done = never;
  }

  -- it was only read, and is what it was to be
  pub already : (tells : Bool) (drawn : List ℕ) → marks_of (first_plain keys file) ≡ Rollback → drawn ≡ [] → bytes_of (reads new).main ≡ Some file
      → KeepsOrCommits reads images moment since Done (WithDraws (IsSettledUnder keys file) tells (λ f. SettledDraws keys f drawn))
      (HoldsOnly (held_by keys file)) (λ f. HoldsOnly (held_by keys f)) old new
  already tells drawn marks none main =
      inr (commits_done reads images moment since counts_now only_now file (inr (inl (marks, refl)), λ told. inl none)
      (read_only reads images moment since counts_now only_now (λ c now. inl (alone_holds keys file c (alone c now))) read)
      (λ c here. let is = alone c (read.same_images.no_more c here) in (alone_holds keys file c is, is.journal)) main)

-- ---- the settled file

-- the setting changes no profile that is served
pub listed_set : (passes : Bool) (profile : Profile) → IsListed profile → IsListed (set_log passes profile)
unfolding IsListed
listed_set passes profile listed = ⊎_elim
    (λ ciphered. inl (record {
      version = ciphered.version;
      size = ciphered.size;
      rounds = ciphered.rounds;
      tags = ciphered.tags;
      reserve = ciphered.reserve;
      header = ⊎_elim (λ none. inl none) (λ (header : IsPlainHeader profile).
          inr (record { tagged = header.tagged; blocks = header.blocks; some = header.some; most = header.most })) ciphered.header;
    }))
    (λ plain. inr plain) listed

-- a page is sealed alike with the setting and without it
file_draws_set : (passes : Bool) (keys : FileKeys) (main drawn : List ℕ) (test : ℕ → Bool) → FileDraws keys main test 0 drawn → FileDraws (keys_set passes keys) main test 0 drawn
unfolding opened deciphered sealed enciphered untagged
file_draws_set passes keys main drawn test own = own

-- a file that does not open
pub unopened_settle : (usable frames : ℕ) (first : List ℕ) (stop : Stop) (found : Result Opened OpenError) (answer : Answer) → IsOutside stop ⊎ (stop_answer stop ≡ unopened_answer found)
    → stop_answer stop ≡ Some answer → answer ≡ settled_answer usable frames first found
unopened_settle usable frames first stop found answer is same = ⊎_elim (λ outside. absurd (outside_none stop answer outside same)) (λ unopened. by_opened found (sym unopened ∙ same)) is
  where
    by_opened : (found : Result Opened OpenError) → unopened_answer found ≡ Some answer → answer ≡ settled_answer usable frames first found
    by_opened (Ok found) is = cc
    by_opened (Err error) is = sym (some_is (open_answer error) answer is)

-- what is in rollback mode
pub unmarked_is : (plain : List ℕ) → marks_of plain ≡ Rollback → (has_maps plain ≡ false) × (u8_at plain 18 ≡ 1) × (u8_at plain 19 ≡ 1)
unmarked_is plain is =
    let by = by_tests (has_maps plain) (u8_at plain 18 == 1) (u8_at plain 19 == 1) is in
    (by.0, same (u8_at plain 18) by.1, same (u8_at plain 19) by.2)
  where
    by_tests : (a b d : Bool) → (if a then Maps else (if b && d then Rollback else Wal)) ≡ Rollback → (a ≡ false) × (b ≡ true) × (d ≡ true)
    by_tests true b d is = cc
    by_tests false true true is = (refl, refl, refl)
    by_tests false true false is = cc
    by_tests false false true is = cc
    by_tests false false false is = cc

    same : (a : ℕ) → (a == 1) ≡ true → a ≡ 1
    same a is = search rules

-- and what is in WAL mode has no pointer-map pages
pub wal_is : (plain : List ℕ) → marks_of plain ≡ Wal → has_maps plain ≡ false
wal_is plain is = by_tests (has_maps plain) (u8_at plain 18 == 1 && u8_at plain 19 == 1) is
  where
    by_tests : (a b : Bool) → (if a then Maps else (if b then Rollback else Wal)) ≡ Wal → a ≡ false
    by_tests true b is = cc
    by_tests false b is = refl

-- what has map pages says so
pub maps_is : (plain : List ℕ) → marks_of plain ≡ Maps → has_maps plain ≡ true
maps_is plain is = by_tests (has_maps plain) (u8_at plain 18 == 1 && u8_at plain 19 == 1) is
  where
    by_tests : (a b : Bool) → (if a then Maps else (if b then Rollback else Wal)) ≡ Maps → a ≡ true
    by_tests true b is = refl
    by_tests false true is = cc
    by_tests false false is = cc

-- A file that opens where marks pass, and the file that it was settled to.
module _ (profile : Profile) (secret : Secret) (file : List ℕ) (header : Header) (n : ℕ) (some : 1 ≤ n) (listed : IsListed profile)
    (opens : file_opened (keys_of (with_log profile) secret file) file ≡ Ok (record { header = header; count = n })) (main : List ℕ)
    (under : IsSettledUnder (keys_of (with_log profile) secret file) file main) where
  abbrev pub keys : FileKeys
  keys = keys_of (with_log profile) secret file

  abbrev size : ℕ
  size = profile.page_size

  is_open : IsOpen keys file header n
  is_open = open_parts keys file header n opens

  pub same_salt : salt_of main ≡ salt_of file
  same_salt = ⊎_elim (λ changed. changed.1.salt) (λ rest. ⊎_elim (λ same. ap (λ (l : List ℕ). salt_of l) same.1) (λ freed. freed.1.salt) rest) under

  -- the keys without the setting
  pub new_keys : keys_of profile secret main ≡ keys_set profile.reads_log keys
  new_keys = same_keys profile secret main file same_salt ∙ sym (keys_set_of profile.reads_log true profile secret file)

  pub counted : count_of keys main ≡ Some n
  counted = ⊎_elim
      (λ changed. changed.1.is ∙ ap (λ (k : ℕ). Some k) (some_is changed.1.count n (sym changed.1.was ∙ open_count keys file header n is_open)))
      (λ rest. ⊎_elim (λ same. ap (count_of keys) same.1 ∙ open_count keys file header n is_open)
      (λ freed. freed.1.is ∙ ap (λ (k : ℕ). Some k) (some_is freed.1.count n (sym freed.1.was ∙ open_count keys file header n is_open))) rest) under

  few : n < 2 ^ 32
  few =
      let least = (IsListed-laid_out profile listed).least in
      let sized = header_size true (first_plain keys file) size profile.reserve header is_open.read in
      count_few n header.page_size (omega (arith, least, sized.1)) (counted_pages header (length file) n is_open.counts).small

  -- page 1 of it is read by all rules
  pub read_all : (h : Header) × (header_read (first_plain keys main) size profile.reserve ≡ Ok h)
  read_all = ⊎_elim by_change (λ rest. ⊎_elim by_none by_maps rest) under
    where
      by_change : (marks_of (first_plain keys file) ≡ Wal) × IsFirstChanged keys versions_at versions file main → (h : Header) × (header_read (first_plain keys main) size profile.reserve ≡ Ok h)
      by_change changed =
          let plain = first_plain keys file in
          let long = changed.1.header in
          let one = unmarked plain long in
          let same : changed.1.count ≡ n = some_is changed.1.count n (sym changed.1.was ∙ open_count keys file header n is_open) in
          let count = changed.1.count in
          let change = next_change (u32_at plain 24) in
          let was : header_read one size profile.reserve ≡ Ok (header_fields one) =
          unmarked_read one size profile.reserve (header_fields one) (first_version plain long) (second_version plain long)
          (maps_kept plain long ∙ wal_is plain changed.0) (versions_read plain long size profile.reserve header is_open.read) in
          let fits : change < 2 ^ 32 = Rattle.std.proofs.Math.Nat.mod-lt (u32_at plain 24 + 1) (omega arith) in
          let long_one : 100 ≤ length one = omega (arith, long, unmarked_length plain long) in
          let few_count : count < 2 ^ 32 = omega (arith, few, same) in (
            _,
            ap (λ (page : List ℕ). header_read page size profile.reserve) changed.1.first
                ∙ changed_read false count change size profile.reserve one (header_fields one) long_one few_count fits was,
          )

      by_none : (marks_of (first_plain keys file) ≡ Rollback) × (main ≡ file) → (h : Header) × (header_read (first_plain keys main) size profile.reserve ≡ Ok h)
      by_none same =
          let is = unmarked_is (first_plain keys file) same.0 in (
            header,
            ap (λ (l : List ℕ). header_read (first_plain keys l) size profile.reserve) same.1
                ∙ unmarked_read (first_plain keys file) size profile.reserve header is.1 is.2 is.0 is_open.read,
          )

      by_maps : (marks_of (first_plain keys file) ≡ Maps) × AreMapsFreed keys keys file main → (h : Header) × (header_read (first_plain keys main) size profile.reserve ≡ Ok h)
      by_maps freed =
          let plain = first_plain keys file in
          let long = freed.1.header in
          let u = usable keys.profile in
          let count = freed.1.count in
          let same : count ≡ n = some_is count n (sym freed.1.was ∙ open_count keys file header n is_open) in
          let base = without_maps u count plain in
          let long_base : 100 ≤ length base = omega (arith, long, freed_length u count plain long) in
          let one = unmarked base long_base in
          let change = next_change (u32_at plain 24) in
          let none : has_maps base ≡ false = ap (λ (r : ℕ). not (r == 0)) (freed_root u count plain long) in
          let was : header_read one size profile.reserve ≡ Ok (header_fields one) =
          unmarked_read one size profile.reserve (header_fields one) (first_version base long_base) (second_version base long_base) (maps_kept base long_base ∙ none)
          (versions_read base long_base size profile.reserve (header_fields base) (freed_read u count plain long size profile.reserve header is_open.read)) in
          let fits : change < 2 ^ 32 = Rattle.std.proofs.Math.Nat.mod-lt (u32_at plain 24 + 1) (omega arith) in
          let long_one : 100 ≤ length one = omega (arith, long_base, unmarked_length base long_base) in
          let few_count : count < 2 ^ 32 = omega (arith, few, same) in (
            _,
            ap (λ (page : List ℕ). header_read page size profile.reserve) freed.1.first
                ∙ changed_read false count change size profile.reserve one (header_fields one) long_one few_count fits was,
          )

  new_counted : count_of (keys_set profile.reads_log keys) main ≡ count_of keys main
  new_counted = count_set profile.reads_log keys main read_all.0 read_all.1

  settled_set : IsSettledFrom keys (keys_set profile.reads_log keys) file main
  settled_set = ⊎_elim
      (λ changed. inl (record {
        count = changed.1.count;
        was = changed.1.was;
        is = new_counted ∙ changed.1.is;
        salt = changed.1.salt;
        header = changed.1.header;
        no_maps = wal_is (first_plain keys file) changed.0;
        first = opened_set profile.reads_log keys 1 (page_stored keys main 1) ∙ changed.1.first;
        accepted = accepts_set profile.reads_log keys 1 (page_stored keys main 1) ∙ changed.1.accepted;
        others = changed.1.others;
      }))
      (λ rest. inr (⊎_elim
      (λ same. inl (record { same = same.1; count = n; was = open_count keys file header n is_open; is = new_counted ∙ counted }))
      (λ freed. inr (record {
        count = freed.1.count;
        was = freed.1.was;
        some = freed.1.some;
        header = freed.1.header;
        there = freed.1.there;
        is = new_counted ∙ freed.1.is;
        salt = freed.1.salt;
        first = opened_set profile.reads_log keys 1 (page_stored keys main 1) ∙ freed.1.first;
        trunk = λ k less is. opened_set profile.reads_log keys _ _ ∙ freed.1.trunk k less is;
        accepted = λ m from to is. accepts_set profile.reads_log keys m (page_stored keys main m) ∙ freed.1.accepted m from to is;
        others = freed.1.others;
      })) rest)) under

  pub settled_from : IsSettledFrom keys (keys_of profile secret main) file main
  settled_from = subst (λ (k : FileKeys). IsSettledFrom keys k file main) (sym new_keys) settled_set

  pub settled_holds : (image : Files) → HoldsOnly (held_by keys main) image → HoldsOnly (held_by (keys_of profile secret main) main) image
  settled_holds image holds =
      subst (λ (k : FileKeys). HoldsOnly (held_by k main) image) (sym new_keys) (holds_set profile.reads_log keys main n read_all.0 image some counted read_all.1 holds)

  draws_set : (drawn : List ℕ) → SettledDraws keys main drawn → SettledDraws (keys_set profile.reads_log keys) main drawn
  draws_set drawn draws = ⊎_elim (λ none. inl none) (λ rest. inr (⊎_elim
      (λ own. inl (file_draws_set profile.reads_log keys main drawn (λ m. m == 1) own))
      (λ own. inr (subst (λ (o : Option ℕ). FileDraws (keys_set profile.reads_log keys) main (is_rewritten (usable keys.profile) (unwrap_or o 0)) 0 drawn) (sym new_counted)
      (file_draws_set profile.reads_log keys main drawn (is_rewritten (usable keys.profile) (page_count_of keys main)) own))) rest)) draws

  pub settled_draws : (drawn : List ℕ) → SettledDraws keys main drawn → SettledDraws (keys_of profile secret main) main drawn
  settled_draws drawn draws = subst (λ (k : FileKeys). SettledDraws k main drawn) (sym new_keys) (draws_set drawn draws)
