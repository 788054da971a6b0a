-- A transaction that puts the map pages onto the freelist, as its disk shows it.
use Rattle.std.proofs.Common.{◌≡◌, ◌==◌, ◌≤◌, ◌<◌, ◌+◌, ◌*◌, ◌%◌, ◌^◌, ℕ, Bool, true, false, IsTrue, List, length, drop, Option, Ok, Some, refl, sym, ap, subst, ◌∙◌, arith}
use Rattle.std.specs.Prelude.{if◌then◌else◌, unwrap_or}
use Rattle.cipher_profile.specs.Profile.{IsListed, usable}
use Rattle.cipher_profile.proofs.Layouts.{IsListed-laid_out}
use Rattle.db_format.specs.Bytes.{u32_at}
use Rattle.db_format.specs.Header.{header_fields}
use Rattle.db_format.specs.declared.header.Header.{Header}
use Rattle.fresh_disk.specs.Published.{IsAlone}
use Rattle.edge_model.specs.Files.{Files, main_of}
use Rattle.edge_model.specs.Images.{Each, LeavesOnly}
use Rattle.map_pages.specs.Maps.{map_count, map_number}
use Rattle.map_pages.specs.Trunks.{is_new_trunk, map_trunk, trunk_from}
use Rattle.page_codec.specs.Page.{FileKeys, salt_of}
use Rattle.pager.specs.Base.{base_of}
use Rattle.pager.specs.Changed.{with_bytes}
use Rattle.pager.specs.Database.{count_by}
use Rattle.pager.specs.File.{page_stored}
use Rattle.pager.specs.Opening.{file_opened}
use Rattle.pager.specs.Pages.{is_page_number}
use Rattle.pager.specs.UnderWay.{HasNewPages, Start}
use Rattle.pager.proofs.BatchLemmas.{number_is}
use Rattle.atomic_commit.specs.Commit.{IsCommitted, LeavesChanged}
use Rattle.atomic_commit.specs.Database.{HoldsEither, HoldsOld, stored_pages}
use Rattle.rekey_job.specs.Draws.{FileDraws}
use Rattle.settle_job.specs.Put.{IsNoTrunk}
use Rattle.sqlcipher_tool.specs.Change.{Commits, KeepsOrCommits}
use Rattle.sqlcipher_tool.specs.FirstPage.{next_change, with_field}
use Rattle.sqlcipher_tool.specs.Holding.{HoldsOnly, held_by}
use Rattle.sqlcipher_tool.specs.Maps.{AreMapsFreed, first_plain, freed_page, has_maps, is_rewritten, versions, versions_at, without_maps}
use Rattle.sqlcipher_tool.specs.Opening.{page_count_of}
use Rattle.sqlcipher_tool.specs.Renewal.{WithDraws}
use Rattle.sqlcipher_tool.specs.declared.status.Status.TheVariants.{Done, DiskFault}
use Rattle.sqlcipher_tool.proofs.ChangedPages.{all_accepted, all_opened, all_there, counts_all, draws_own, first_changed, long_plain, others_stay, same_salt}
use Rattle.sqlcipher_tool.proofs.Committed.{broke, ended, made_new}
use Rattle.sqlcipher_tool.proofs.Databases.{start_of}
use Rattle.sqlcipher_tool.proofs.MapsPage.{freed_stands}
use Rattle.sqlcipher_tool.proofs.OpenedParts.{IsOpen, header_size, open_count, open_parts}
use Rattle.sqlcipher_tool.proofs.Rewritten.{first_no_trunk, rewritten_within, touched_so, trunk_rewritten}
use Rattle.sqlcipher_tool.proofs.Stamping.{one_alone}
use Rattle.sqlcipher_tool.proofs.Unmarked.{versions_harmless}

-- the page that is written is the changed one, by the header's fields
pub freed_is : (keys : FileKeys) (file seen : List ℕ) (header fields : Header) (n pages u : ℕ) → file_opened keys file ≡ Ok (record { header = header; count = n })
    → seen ≡ first_plain keys file → fields ≡ header → pages ≡ n
    → with_field 92 (next_change fields.change) (with_field 28 pages (with_field 24 (next_change fields.change) (with_bytes versions_at versions
    (with_field 64 0 (with_field 52 0 (with_field 36 ((fields.free_count + map_count u pages) % 2 ^ 32) (with_field 32 (trunk_from u (map_count u pages) fields.first_trunk 0) seen)))))))
    ≡ freed_page u n (first_plain keys file)
freed_is keys file seen header fields n pages u opens first same all =
    ap (λ (h : Header). with_field 92 (next_change h.change) (with_field 28 pages (with_field 24 (next_change h.change) (with_bytes versions_at versions
    (with_field 64 0 (with_field 52 0 (with_field 36 ((h.free_count + map_count u pages) % 2 ^ 32) (with_field 32 (trunk_from u (map_count u pages) h.first_trunk 0) seen)))))))) by_plain
    ∙ (ap (λ (l : List ℕ). with_field 92 (next_change (u32_at plain 24)) (with_field 28 pages (with_field 24 (next_change (u32_at plain 24)) (with_bytes versions_at versions
    (with_field 64 0 (with_field 52 0 (with_field 36 ((u32_at plain 36 + map_count u pages) % 2 ^ 32) (with_field 32 (trunk_from u (map_count u pages) (u32_at plain 32) 0) l)))))))) first
    ∙ ap (λ (p : ℕ). with_field 92 (next_change (u32_at plain 24)) (with_field 28 p (with_field 24 (next_change (u32_at plain 24)) (with_bytes versions_at versions (without_maps u p plain))))) all)
  where
    plain : List ℕ
    plain = first_plain keys file

    by_plain : fields ≡ header_fields plain
    by_plain = same ∙ sym (header_size keys.profile.reads_log plain keys.profile.page_size keys.profile.reserve header (open_parts keys file header n opens).read).0

-- What a transaction did to the pages of a file: it changed page 1 and the new trunks.
pub record AreWritten (keys : FileKeys) (file : List ℕ) (n : ℕ) (touched : ℕ → Bool) (pages : ℕ → List ℕ) : Type 0 where
  pub first : pages 1 ≡ freed_page (usable keys.profile) n (first_plain keys file)
  pub among : (m : ℕ) → is_page_number n m ≡ true → touched m ≡ is_rewritten (usable keys.profile) n m
  pub trunks : (k : ℕ) → k < map_count (usable keys.profile) n → is_new_trunk (usable keys.profile) k ≡ true
      → pages (map_number (usable keys.profile) k) ≡ map_trunk (usable keys.profile) (map_count (usable keys.profile) n) (u32_at (first_plain keys file) 32) k

-- so it is where page 1 was written first, and the trunks behind it
pub are_written : (keys : FileKeys) (file : List ℕ) (header fields : Header) (n size pages_before : ℕ) (touched mid start : ℕ → Bool) (pages first : ℕ → List ℕ)
    → file_opened keys file ≡ Ok (record { header = header; count = n }) → 1 ≤ n → size ≡ usable keys.profile → pages_before ≡ n → fields ≡ header
    → first 1 ≡ freed_page (usable keys.profile) n (first_plain keys file)
    → ((m : ℕ) → start m ≡ false)
    → ((m : ℕ) → is_page_number pages_before m ≡ true → mid m ≡ (if m == 1 then true else start m))
    → ((k : ℕ) → k < map_count size pages_before → is_new_trunk size k ≡ true → pages (map_number size k) ≡ map_trunk size (map_count size pages_before) fields.first_trunk k)
    → ((m : ℕ) → IsNoTrunk size (map_count size pages_before) m → pages m ≡ first m)
    → ((k : ℕ) → k < map_count size pages_before → is_new_trunk size k ≡ true → touched (map_number size k) ≡ true)
    → ((m : ℕ) → is_page_number pages_before m ≡ true → IsNoTrunk size (map_count size pages_before) m → touched m ≡ mid m)
    → AreWritten keys file n touched pages
are_written keys file header fields n size pages_before touched mid start pages first opens some sized counted same first_is none mid_is trunks others touches stays = record {
  first = others 1 (first_no_trunk size pages_before) ∙ first_is;
  among = subst (λ (p : ℕ). (m : ℕ) → is_page_number p m ≡ true → touched m ≡ is_rewritten (usable keys.profile) p m) counted
      (subst (λ (u : ℕ). (m : ℕ) → is_page_number pages_before m ≡ true → touched m ≡ is_rewritten u pages_before m) sized
      (touched_so size pages_before touched mid (omega (arith, some, counted)) (λ m num. mid_is m num ∙ one_alone m (start m) (none m)) touches stays));
  trunks = λ k less is.
      let was = subst (λ (p : ℕ). k < map_count p pages_before) (sym sized) (subst (λ (p : ℕ). k < map_count (usable keys.profile) p) (sym counted) less) in
      let so = subst (λ (u : ℕ). is_new_trunk u k ≡ true) (sym sized) is in
      ap (λ (u : ℕ). pages (map_number u k)) (sym sized)
      ∙ (trunks k was so
      ∙ (ap (λ (u : ℕ). map_trunk u (map_count u pages_before) fields.first_trunk k) sized
      ∙ (ap (λ (p : ℕ). map_trunk (usable keys.profile) (map_count (usable keys.profile) p) fields.first_trunk k) counted
      ∙ ap (λ (h : Header). map_trunk (usable keys.profile) (map_count (usable keys.profile) n) h.first_trunk k)
      (same ∙ sym (header_size keys.profile.reads_log (first_plain keys file) keys.profile.page_size keys.profile.reserve header (open_parts keys file header n opens).read).0))));
}

-- A file that opens where marks pass, alone in each image, and a transaction from it that changed page 1 and the new trunks.
module _ {D : Type 0} (reads : D → Files) (images : D → Files → Type 0) (moment : D → ℕ) (since : D → ℕ → Files → Type 0)
    (counts_now : (disk : D) (t : ℕ) (c : Files) → t ≤ moment disk → images disk c → since disk t c)
    (only_now : (disk : D) (c : Files) → since disk (moment disk) c → images disk c)
    (keys : FileKeys) (file : List ℕ) (header : Header) (n : ℕ) (opens : file_opened keys file ≡ Ok (record { header = header; count = n })) (some : 1 ≤ n)
    (start : Start) (is_start : start.base ≡ base_of keys file n) (old mid new : D) (alone : Each (images old) (IsAlone file))
    (run : LeavesOnly moment since old mid (HoldsOld start.base)) (passes : keys.profile.reads_log ≡ true) (there : has_maps (first_plain keys file) ≡ true) (salt : keys.salt ≡ salt_of file)
    (listed : IsListed keys.profile) (touched : ℕ → Bool) (pages : ℕ → List ℕ) (tells : Bool) (after : List ℕ)
    (written : AreWritten keys file n touched pages) where
  abbrev u : ℕ
  u = usable keys.profile

  abbrev plain : List ℕ
  plain = first_plain keys file

  abbrev base : List ℕ
  base = without_maps u n plain

  abbrev change : ℕ
  change = next_change (u32_at plain 24)

  fits : change < 2 ^ 32
  fits = Rattle.std.proofs.Math.Nat.mod-lt (u32_at plain 24 + 1) (omega arith)

  abbrev pub IsNew : List ℕ → Type 0
  IsNew = WithDraws (AreMapsFreed keys keys file) tells (λ main. FileDraws keys main (is_rewritten u (page_count_of keys main)) 0 (drop (length start.drawn) after))

  abbrev pub HasNew : List ℕ → Type 0
  HasNew main = HasNewPages start keys touched pages tells after main

  abbrev HasPages : List ℕ → Type 0
  HasPages main = HasNewPages (start_of keys file n start.drawn) keys touched pages tells after main

  parts : IsOpen keys file header n
  parts = open_parts keys file header n opens

  room : 120 ≤ u
  room = let content = (IsListed-laid_out keys.profile listed).content in omega (arith, content)

  sized : 1 ≤ keys.profile.page_size
  sized = let least = (IsListed-laid_out keys.profile listed).least in omega (arith, least)

  counts_new : (main : List ℕ) → HasPages main → (len : ℕ) → n * keys.profile.page_size ≤ len → count_by keys (page_stored keys main 1) len ≡ Some n
  counts_new main has = counts_all keys versions_at versions (versions_harmless keys.profile passes) n file header parts some salt room listed base change fits (freed_stands u n keys.profile plain passes)
      (is_rewritten u n) refl touched pages tells start.drawn after main written.first written.among has

  is_long : (main : List ℕ) → HasPages main → n * keys.profile.page_size ≤ length main
  is_long main has = all_there keys versions_at versions (versions_harmless keys.profile passes) n file header parts some salt room listed base change fits (freed_stands u n keys.profile plain passes)
      (is_rewritten u n) refl touched pages tells start.drawn after main written.first written.among has

  trunk_page : (k : ℕ) → k < map_count u n → is_new_trunk u k ≡ true → is_page_number n (map_number u k) ≡ true
  trunk_page k less is = rewritten_within u n (map_number u k) some (trunk_rewritten u n k less is)

  are_freed : (main : List ℕ) → HasPages main → AreMapsFreed keys keys file main
  are_freed main has = record {
    count = n;
    was = open_count keys file header n parts;
    some = some;
    there = there;
    header = long_plain keys versions_at versions (versions_harmless keys.profile passes) n file header parts some salt room listed base change fits (freed_stands u n keys.profile plain passes)
        (is_rewritten u n) refl touched pages tells start.drawn after main written.first written.among has;
    is = counts_new main has (length main) (is_long main has);
    salt = same_salt keys versions_at versions (versions_harmless keys.profile passes) n file header parts some salt room listed base change fits (freed_stands u n keys.profile plain passes)
        (is_rewritten u n) refl touched pages tells start.drawn after main written.first written.among has;
    first = first_changed keys versions_at versions (versions_harmless keys.profile passes) n file header parts some salt room listed base change fits (freed_stands u n keys.profile plain passes)
        (is_rewritten u n) refl touched pages tells start.drawn after main written.first written.among has;
    trunk = λ k less is. all_opened keys versions_at versions (versions_harmless keys.profile passes) n file header parts some salt room listed base change fits (freed_stands u n keys.profile plain passes)
        (is_rewritten u n) refl touched pages tells start.drawn after main written.first written.among has (map_number u k) (trunk_page k less is) (trunk_rewritten u n k less is) ∙ written.trunks k less is;
    accepted = λ m from to is. all_accepted keys versions_at versions (versions_harmless keys.profile passes) n file header parts some salt room listed base change fits (freed_stands u n keys.profile plain passes)
        (is_rewritten u n) refl touched pages tells start.drawn after main written.first written.among has m (number_is n m from to) is;
    others = others_stay keys versions_at versions (versions_harmless keys.profile passes) n file header parts some salt room listed base change fits (freed_stands u n keys.profile plain passes)
        (is_rewritten u n) refl touched pages tells start.drawn after main written.first written.among has;
  }

  -- it has as many pages
  pages_now : (main : List ℕ) → HasPages main → n ≡ page_count_of keys main
  pages_now main has = sym (ap (λ (o : Option ℕ). unwrap_or o 0) (counts_new main has (length main) (is_long main has)))

  is_new : (main : List ℕ) → HasPages main → IsNew main
  is_new main has = (
    are_freed main has,
    λ told. subst (λ (count : ℕ). FileDraws keys main (is_rewritten u count) 0 (drop (length start.drawn) after)) (pages_now main has)
        (draws_own keys versions_at versions (versions_harmless keys.profile passes) n file header parts some salt room listed base change fits (freed_stands u n keys.profile plain passes)
        (is_rewritten u n) refl touched pages tells start.drawn after main written.first written.among has (λ m is. rewritten_within u n m some is) told),
  )

  -- the commit was done
  pub done : HasNew (main_of (reads new)) → Each (images new) (IsCommitted start.base (main_of (reads new)))
      → LeavesOnly moment since mid new (HoldsEither start.base (stored_pages start.base.size start.base.pages (main_of (reads new))))
      → Commits reads images moment since Done IsNew (λ image. HoldsOnly (held_by keys file) image) (λ main image. HoldsOnly (held_by keys main) image) old new
  done has now either =
      ended reads images moment since counts_now only_now keys file header n opens some start is_start old mid new alone run touched pages tells after IsNew sized is_new counts_new is_long has now either

  -- the disk failed in it
  pub failed : LeavesChanged moment since start.base HasNew mid new
      → KeepsOrCommits reads images moment since DiskFault IsNew (λ image. HoldsOnly (held_by keys file) image) (λ main image. HoldsOnly (held_by keys main) image) old new
  failed broken = broke reads images moment since counts_now only_now keys file header n opens some start is_start old mid new alone run touched pages tells after IsNew sized is_new counts_new is_long broken

  pub draws : IsTrue tells → HasNew (main_of (reads new)) → FileDraws keys (main_of (reads new)) (is_rewritten u (page_count_of keys (main_of (reads new)))) 0 (drop (length start.drawn) after)
  draws told has =
      (made_new reads images moment since counts_now only_now keys file header n opens some start is_start old mid new alone run touched pages tells after IsNew sized is_new counts_new is_long has).1 told
