-- A transaction of a file that opens, as its disk shows it: not begun, not ended, broken, or committed.
use Rattle.std.proofs.Common.{◌≡◌, ◌≤◌, ◌*◌, ℕ, Bool, List, length, Option, Some, None, Ok, refl, sym, subst, arith}
use Rattle.fresh_disk.specs.Published.{IsAlone}
use Rattle.edge_model.specs.Files.{File, Files, bytes_of, contents, main_of}
use Rattle.edge_model.specs.Images.{Each, LeavesOnly}
use Rattle.edge_model.specs.Moments.{and_then, started, weaker}
use Rattle.db_format.specs.declared.header.Header.{Header}
use Rattle.page_codec.specs.Page.{FileKeys}
use Rattle.pager.specs.Base.{base_of}
use Rattle.pager.specs.Database.{count_by, count_of}
use Rattle.pager.specs.File.{page_stored}
use Rattle.pager.specs.Opening.{file_opened}
use Rattle.pager.specs.UnderWay.{HasNewPages, Start}
use Rattle.pager.proofs.UnderWayLemmas.{same_main}
use Rattle.atomic_commit.specs.Commit.{IsCommitted, LeavesChanged}
use Rattle.atomic_commit.specs.Database.{Base, HoldsEither, HoldsOld, HoldsPages, stored_pages}
use Rattle.atomic_commit.specs.Facts.{IsBase, IsCommitBegun}
use Rattle.sqlcipher_tool.specs.Change.{Commits, KeepsOld, KeepsOrCommits}
use Rattle.sqlcipher_tool.specs.Holding.{HoldsOnly, held_by}
use Rattle.sqlcipher_tool.specs.declared.status.Status.{Status}
use Rattle.sqlcipher_tool.specs.declared.status.Status.TheVariants.{Done, DiskFault}
use Rattle.sqlcipher_tool.proofs.Changing.{broken, committed}
use Rattle.sqlcipher_tool.proofs.Databases.{alone_old, holds_new, holds_old, start_of}
use Rattle.sqlcipher_tool.proofs.OpenedParts.{IsOpen, open_count, open_parts}

pub some_file : (o : Option File) → 1 ≤ length (contents o) → bytes_of o ≡ Some (contents o)
some_file None some = absurd (omega (arith, some))
some_file (Some file) some = refl

-- A file that opens, alone in each image, and a transaction from it.
module _ {D : Type 0} (reads : D → Files) (images : D → Files → Type 0) (moment : D → ℕ) (since : D → ℕ → Files → Type 0)
    (counts_now : (disk : D) (t : ℕ) (c : Files) → t ≤ moment disk → images disk c → since disk t c)
    (only_now : (disk : D) (c : Files) → since disk (moment disk) c → images disk c)
    (keys : FileKeys) (file : List ℕ) (header : Header) (n : ℕ) (opens : file_opened keys file ≡ Ok (record { header = header; count = n })) (some : 1 ≤ n)
    (start : Start) (is_start : start.base ≡ base_of keys file n) (old mid new : D) (alone : Each (images old) (IsAlone file)) where
  abbrev pub Old : Files → Type 0
  Old image = HoldsOnly (held_by keys file) image

  abbrev pub New : List ℕ → Files → Type 0
  New main image = HoldsOnly (held_by keys main) image

  parts : IsOpen keys file header n
  parts = open_parts keys file header n opens

  counts : count_of keys file ≡ Some n
  counts = open_count keys file header n parts

  was_old : (c : Files) → HoldsOld start.base c → Old c
  was_old c holds = holds_old keys file n c some counts (subst (λ (b : Base). HoldsOld b c) is_start holds)

  -- what the transaction asks of the images
  pub begun : IsBase start.base → IsCommitBegun start.base (images old)
  begun is = record {
    base_is = is;
    no_journal = λ c now. (alone c now).journal;
    holds = λ c now. subst (λ (b : Base). HoldsOld b c) (sym is_start) (alone_old keys file n c counts (alone c now));
  }

  -- it was not begun
  pub unbegun : (status : Status) → (status ≡ Done → ⊥) → new ≡ old → KeepsOld moment since status Old old new
  unbegun status never same = record {
    any_moment = subst (λ (d : D). LeavesOnly moment since old d Old) (sym same) (started only_now old Old (λ c now. holds_old keys file n c some counts (alone_old keys file n c counts (alone c now))));
    not_done = never;
  }

  module _ (run : LeavesOnly moment since old mid (HoldsOld start.base)) where
    before : LeavesOnly moment since old mid Old
    before = weaker was_old run

    -- it was not ended
    pub unended : (status : Status) → (status ≡ Done → ⊥) → new ≡ mid → KeepsOld moment since status Old old new
    unended status never same = record { any_moment = subst (λ (d : D). LeavesOnly moment since old d Old) (sym same) before; not_done = never }

    -- it was not committed
    pub unwritten : (status : Status) → (status ≡ Done → ⊥) → LeavesOnly moment since mid new (HoldsOld start.base) → KeepsOld moment since status Old old new
    unwritten status never next = record { any_moment = and_then before (weaker was_old next); not_done = never }

    -- What it makes of the file: `is_new` says of each Main with its pages that it is a new file, counts as many pages and has them.
    module _ (touched : ℕ → Bool) (pages : ℕ → List ℕ) (tells : Bool) (after : List ℕ) (IsNew : List ℕ → Type 0) (sized : 1 ≤ keys.profile.page_size)
        (is_new : (main : List ℕ) → HasNewPages (start_of keys file n start.drawn) keys touched pages tells after main → IsNew main)
        (counts_new : (main : List ℕ) → HasNewPages (start_of keys file n start.drawn) keys touched pages tells after main
        → (len : ℕ) → n * keys.profile.page_size ≤ len → count_by keys (page_stored keys main 1) len ≡ Some n)
        (is_long : (main : List ℕ) → HasNewPages (start_of keys file n start.drawn) keys touched pages tells after main → n * keys.profile.page_size ≤ length main) where
      abbrev pub HasNew : List ℕ → Type 0
      HasNew main = HasNewPages start keys touched pages tells after main

      as_file : (main : List ℕ) → HasNew main → HasNewPages (start_of keys file n start.drawn) keys touched pages tells after main
      as_file main has = subst (λ (b : Base). HasNewPages (record { base = b; drawn = start.drawn }) keys touched pages tells after main) is_start has

      now_new : (main : List ℕ) → HasNew main → IsNew main
      now_new main has = is_new main (as_file main has)

      holds : (main : List ℕ) → HasNew main → (image : Files) → HoldsPages start.base (stored_pages start.base.size start.base.pages main) image → New main image
      holds main has image is =
          holds_new keys file main n image some (counts_new main (as_file main has)) (is_long main (as_file main has))
          (subst (λ (b : Base). HoldsPages b (stored_pages b.size b.pages main) image) is_start is)

      -- the commit was done
      pub ended : HasNew (main_of (reads new)) → Each (images new) (IsCommitted start.base (main_of (reads new)))
          → LeavesOnly moment since mid new (HoldsEither start.base (stored_pages start.base.size start.base.pages (main_of (reads new))))
          → Commits reads images moment since Done IsNew Old New old new
      ended has now either =
          let main = main_of (reads new) in
          committed reads images moment since counts_now only_now start.base HasNew was_old now_new holds before main has now either
          (some_file (reads new).main (omega (arith, sized, one_at n keys.profile.page_size (length main) some (is_long main (as_file main has)))))
        where
          one_at : (n size len : ℕ) → 1 ≤ n → n * size ≤ len → size ≤ len
          one_at n size len some le =
              let each : size ≤ size * n = Rattle.std.proofs.Math.Nat.le-mul_of_pos_right {m = n} size (omega (arith, some)) in
              omega (arith, each, le, Rattle.std.proofs.Math.Nat.mul_comm size n)

      -- the disk failed in it
      pub broke : LeavesChanged moment since start.base HasNew mid new → KeepsOrCommits reads images moment since DiskFault IsNew Old New old new
      broke run = broken reads images moment since counts_now only_now start.base HasNew was_old now_new holds before run

      pub made_new : HasNew (main_of (reads new)) → IsNew (main_of (reads new))
      made_new has = subst IsNew (sym (same_main (reads new))) (now_new (main_of (reads new)) has)
