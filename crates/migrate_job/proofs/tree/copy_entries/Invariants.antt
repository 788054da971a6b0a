use Rattle.std.proofs.Common.{◌≡◌, ◌+◌, ◌++◌, ℕ, false, List, map}
use Rattle.std.specs.Prelude.{IsTrue}
use Rattle.db_format.specs.Pages.{Test}
use Rattle.db_format.specs.Seen.{marked}
use Rattle.edge_model.specs.Files.{bytes_of, main_of}
use Rattle.cipher_profile.specs.Profile.{usable}
use Rattle.btree_model.specs.Content.{entry_of}
use Rattle.btree_model.specs.Finding.{Row, entries}
use Rattle.btree_walk.specs.Cursor.{IsCursorAt, IsCursorReady, IsSameTree, walked}
use Rattle.btree_walk.specs.Turn.{work}
use Rattle.bulk_load.specs.Loader.{IsLoader, Loaded, family_of_loader}
use Rattle.bulk_load.specs.Own.{Covers, only}
use Rattle.fresh_file.specs.State.{IsWellAs, fresh_pages}
use Rattle.pager.specs.Beside.{Beside}
use Rattle.pager.specs.Held.{pins_of}
use Rattle.pager.specs.Pages.{opened_pages}
use Rattle.migrate_job.specs.Copying.{FollowsBeside, beside_main}
use Rattle.bulk_load.specs.Depth.{IsShallow}
use Rattle.bulk_load.specs.Few.{TookFew}
use Rattle.migrate_job.proofs.CopyLaws.{IsSoFar}
use Rattle.migrate_job.proofs.FewLaws.{IsFewSoFar}
use Rattle.migrate_job.proofs.tree.copy_entries.Given as goal

-- the entries that were given were pushed behind those of before
abbrev pub invariant-entries : goal.invariant-entries
invariant-entries g l =
    record {
      ready : IsCursorReady l.pager.count (pins_of l.pager.cache.held) l.seen l.cursor;
      loader : IsLoader l.loader (usable l.fn.state.codec.profile);
      last : l.loader.last ≡ l.cursor.last;
      same_tree : IsSameTree l.fn.cursor l.cursor;
      family : family_of_loader l.loader ≡ family_of_loader l.fn.loader;
      at_one : l.loader.at_one ≡ l.fn.loader.at_one;
      codec : l.state.codec ≡ l.fn.state.codec;
      beside : Beside g.D.Disk.tells g.E.Entropy.tells g.D.Disk.reads g.D.Disk.images g.D.Disk.moment g.D.Disk.since g.E.Entropy.drawn l.fn.pager.disk l.pager.disk l.fn.pager.entropy l.pager.entropy;
      same_codec : l.pager.codec ≡ l.fn.pager.codec;
      same_header : l.pager.header ≡ l.fn.pager.header;
      same_count : l.pager.count ≡ l.fn.pager.count;
      follows : FollowsBeside g.D.Disk.tells g.E.Entropy.tells g.D.Disk.reads g.E.Entropy.drawn g.D.Disk.faults g.E.Entropy.faults
          (beside_main l.fn.state l.fn.pager.disk.now l.fn.pager.entropy.now) (beside_main l.state l.pager.disk.now l.pager.entropy.now);
      on : IsTrue g.D.Disk.tells → (taken : Test) (given : List Row)
          → IsCursorAt (opened_pages l.fn.pager.codec (main_of (g.D.Disk.reads l.fn.pager.disk.now)) l.fn.pager.count) taken given l.fn.cursor (marked l.fn.seen)
          → IsSoFar (opened_pages l.fn.pager.codec (main_of (g.D.Disk.reads l.fn.pager.disk.now)) l.fn.pager.count) taken l.cursor (marked l.seen)
          (λ pushed. (start : ℕ) → IsWellAs l.fn.state start g.D.Disk.tells g.E.Entropy.tells (bytes_of (g.D.Disk.reads l.fn.pager.disk.now).fresh) (g.E.Entropy.drawn l.fn.pager.entropy.now)
          → (own : Test) → Covers false own (fresh_pages l.fn.state (bytes_of (g.D.Disk.reads l.fn.pager.disk.now).fresh)) (fresh_pages l.state (bytes_of (g.D.Disk.reads l.pager.disk.now).fresh))
          → Loaded (only own (fresh_pages l.fn.state (bytes_of (g.D.Disk.reads l.fn.pager.disk.now).fresh))) l.fn.loader (map entry_of given)
          → Loaded (only own (fresh_pages l.state (bytes_of (g.D.Disk.reads l.pager.disk.now).fresh))) l.loader pushed);
      shallow : (from : ℕ) → IsShallow (usable l.fn.state.codec.profile) from (l.fn.state.taken + 1) l.fn.loader → IsShallow (usable l.fn.state.codec.profile) from (l.state.taken + 1) l.loader;
      few : IsTrue g.D.Disk.tells → (taken : Test) (given more : List Row)
          → IsCursorAt (opened_pages l.fn.pager.codec (main_of (g.D.Disk.reads l.fn.pager.disk.now)) l.fn.pager.count) taken given l.fn.cursor (marked l.fn.seen)
          → entries (walked (opened_pages l.fn.pager.codec (main_of (g.D.Disk.reads l.fn.pager.disk.now)) l.fn.pager.count) taken l.fn.cursor) ≡ given ++ more
          → (from : ℕ) → TookFew (family_of_loader l.fn.loader) (usable l.fn.state.codec.profile) from (map entry_of given) (l.fn.state.taken + 1) l.fn.loader
          → IsFewSoFar (opened_pages l.fn.pager.codec (main_of (g.D.Disk.reads l.fn.pager.disk.now)) l.fn.pager.count) taken l.cursor (marked l.seen)
          (family_of_loader l.fn.loader) (usable l.fn.state.codec.profile) from (l.state.taken + 1) l.loader;
    }

abbrev pub decreases-entries : goal.decreases-entries
decreases-entries g l = work l.seen l.cursor.path
