-- A settled disk, and what each of its images recovers to.
use Rattle.std.proofs.Common.{◌≡◌, ◌≤◌, ◌<◌, ◌*◌, ◌∙◌, ℕ, List, length, Option, Some, None, refl, sym, ap, subst, arith}
use Rattle.fresh_disk.specs.Published.{IsAlone}
use Rattle.edge_model.specs.Files.{File, Files, bytes_of, contents, main_of}
use Rattle.edge_model.specs.Images.{Each}
use Rattle.page_codec.specs.Page.{FileKeys}
use Rattle.pager.specs.Base.{base_of}
use Rattle.pager.proofs.Bases.{is_some_is}
use Rattle.pager.specs.Database.{count_by, count_of}
use Rattle.pager.specs.File.{page_stored}
use Rattle.pager.specs.Opening.{HasNoJournal, file_opened}
use Rattle.rollback_journal.specs.Recovery.{Recovers, RecoversTo}
use Rattle.atomic_commit.specs.Database.{stored_pages, IsDatabase, HoldsOld}
use Rattle.atomic_commit.specs.Facts.{IsBase, IsCommitBegun}
use Rattle.session_hall.specs.Kept.{IsHallSettled}
use Rattle.session_hall.specs.Machine.{counted_pages}
use Rattle.session_hall.proofs.Counting.{count_whole, open_count, whole_counts}

-- ---- Main alone

some_file : (o : Option File) → 0 < length (contents o) → bytes_of o ≡ Some (contents o)
some_file None some = absurd (omega (arith, some))
some_file (Some file) some = refl

pub stands_alone : (now : Files) (images : Files → Type 0) → IsHallSettled now images → 0 < length (main_of now) → Each images (IsAlone (main_of now))
stands_alone now images settled some = λ c here. record {
  main = ap bytes_of (settled.stands c here).main ∙ some_file now.main some;
  journal = (settled.stands c here).journal ∙ settled.alone some;
}

-- a settled disk has no journal beside a Main with a byte
pub settled_bare : (now : Files) (images : Files → Type 0) → IsHallSettled now images → 0 < length (main_of now) → Each images HasNoJournal
settled_bare now images settled some = λ c here. (settled.stands c here).journal ∙ settled.alone some

-- where each image has Main as it reads, and none a journal
pub each_settled : (now : Files) (images : Files → Type 0) → images now → Each images (λ c. c.main ≡ now.main) → Each images (λ c. c.journal ≡ None) → IsHallSettled now images
each_settled now images here main none = record {
  stands = λ c is. record { main = main c is; journal = none c is ∙ sym (none now here) };
  alone = λ some. none now here;
}

-- ---- what is recovered

recovers_main : (size : ℕ) (file : List ℕ) (image : Files) → IsAlone file image → Recovers size image file
recovers_main size file image alone = subst (λ (m : Option (List ℕ)). RecoversTo size m (bytes_of image.journal) file) (sym alone.main)
    (subst (λ (j : Option File). RecoversTo size (Some file) (bytes_of j) file) (sym alone.journal) refl)

recovers_only : (size : ℕ) (file other : List ℕ) (image : Files) → IsAlone file image → Recovers size image other → other ≡ file
recovers_only size file other image alone to = subst (λ (j : Option File). RecoversTo size (Some file) (bytes_of j) other) alone.journal
    (subst (λ (m : Option (List ℕ)). RecoversTo size m (bytes_of image.journal) other) alone.main to)

-- such an image holds the pages of Main
pub alone_old : (keys : FileKeys) (file : List ℕ) (n : ℕ) (image : Files) → count_of keys file ≡ Some n → IsAlone file image → HoldsOld (base_of keys file n) image
alone_old keys file n image is alone = record {
  some = (file, recovers_main keys.profile.page_size file image alone);
  only = λ other to. subst (λ (f : List ℕ). IsDatabase (base_of keys file n) (stored_pages keys.profile.page_size n file) f) (sym (recovers_only keys.profile.page_size file other image alone to))
      (record { pages_are = refl; counted = is_some_is n (count_of keys file) is });
}

-- ---- what a transaction starts from

pub base_begins : (keys : FileKeys) (file : List ℕ) (n : ℕ) → counted_pages (file_opened keys file) ≡ Some n → 512 ≤ keys.profile.page_size → 1 ≤ n → IsBase (base_of keys file n)
base_begins keys file n opens large some = record {
  size = omega (arith, large);
  pages = some;
  within = count_whole keys file n opens;
  whole = is_some_is n (count_by keys (page_stored keys file 1) (n * keys.profile.page_size)) (whole_counts keys file n opens (omega (arith, large)) some);
}

-- a settled disk, of a file that opens, is one from which a transaction begins
pub settled_begun : (keys : FileKeys) (file : List ℕ) (n : ℕ) (images : Files → Type 0) → counted_pages (file_opened keys file) ≡ Some n → 512 ≤ keys.profile.page_size → 1 ≤ n
    → Each images (IsAlone file) → IsCommitBegun (base_of keys file n) images
settled_begun keys file n images opens large some alone = record {
  base_is = base_begins keys file n opens large some;
  no_journal = λ c now. (alone c now).journal;
  holds = λ c now. alone_old keys file n c (open_count keys file n opens) (alone c now);
}
