use Rattle.std.proofs.Common.{◌≡◌, IsTrue, IfOk, ap, subst}
use Rattle.db_format.specs.Pages.{Pages}
use Rattle.pager.proofs.UnreadLemmas.{no_held_pins}
use Rattle.rekey_job.proofs.Stopped.{pages_same}
use Rattle.sqlcipher_tool.specs.Names.{names_in}
use Rattle.sqlcipher_tool.proofs.names.near_in_file.Goals as goal

pub near_in_pages-found-requires : goal.near_in_pages-found-requires
near_in_pages-found-requires g c = record { unpinned = no_held_pins c.into_pager-pager.result.cache.held c.into_pager-pager.ensures.unread.0 }

pub returns-clause-found : goal.returns-clause-found
returns-clause-found g c =
    let file = c.args.file in
    let made = c.into_pager-pager in
    let reads = g.D.Disk.reads in
    let same = pages_same file.codec made.result.codec (reads c.args.disk.now) (reads made.result.disk.now) file.count made.result.count
    made.ensures.file.0 (ap reads made.ensures.disk.1) made.ensures.file.2 in
    subst (λ (p : Pages). IfOk c.near_in_pages-found.result (λ list. IsTrue g.D.Disk.tells → list.items ≡ names_in c.args.name.now p)) same
    c.near_in_pages-found.ensures.found
