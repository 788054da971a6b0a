use Rattle.std.proofs.Common.{◌≡◌, ◌≤◌, ℕ, List, true, sym, ap, subst, ◌∙◌, rules}
use Rattle.cipher_profile.specs.Profile.{with_log}
use Rattle.edge_model.specs.Files.{Files, main_of}
use Rattle.edge_model.specs.OnlyRead.{OnlyRead}
use Rattle.page_codec.specs.Page.{FileKeys, keys_of}
use Rattle.pager.proofs.UnreadLemmas.{no_held_pins}
use Rattle.pager.specs.Pages.{opened_pages}
use Rattle.pager.specs.Reads.{then_read}
use Rattle.sqlcipher_tool.specs.Settling.{IsChecked}
use Rattle.sqlcipher_tool.proofs.CheckedPair.{laid_if}
use Rattle.sqlcipher_tool.proofs.OpenedParts.{opened_same}
use Rattle.sqlcipher_tool.proofs.SettledFile.{listed_set}
use Rattle.sqlcipher_tool.proofs.VerifiedFile.{opened_header}
use Rattle.sqlcipher_tool.proofs.settling.check_recovered.Goals as goal

pub open_main-requires-clause-listed : goal.open_main-requires-clause-listed
open_main-requires-clause-listed g c = listed_set true c.args.profile c.requires.listed

pub check_pages-outcome-requires-clause-header : goal.check_pages-outcome-requires-clause-header
check_pages-outcome-requires-clause-header g c = λ told some.
    let d = g.D.Disk in
    let p = c.into_pager-pager.result in
    let made = c.into_pager-pager.ensures in
    let main = main_of (d.reads p.disk.now) in
    let file = main_of (d.reads c.args.disk.now) in
    let keys = keys_of (with_log c.args.profile) c.args.secrets.now.first file in
    let same : main ≡ file = ap (λ (x : _). main_of (d.reads x)) made.disk.1 ∙ ap (λ (files : Files). main_of files) (c.open_main.ensures.only_read told).stays in
    opened_header p.codec main p.header p.count
    (opened_same keys p.codec file main _ p.header _ p.count (made.file.0 ∙ c.in-Ok.ensures.codec told) same made.file.1 made.file.2 (c.in-Ok.ensures.opens told)) some

pub check_pages-outcome-requires-clause-unpinned : goal.check_pages-outcome-requires-clause-unpinned
check_pages-outcome-requires-clause-unpinned g c = no_held_pins c.into_pager-pager.result.cache.held c.into_pager-pager.ensures.unread.0

pub returns-in-Ok-outcome-clause-clean : goal.returns-in-Ok-outcome-clause-clean
returns-in-Ok-outcome-clause-clean g c = λ told.
    let d = g.D.Disk in
    let p = c.into_pager-pager.result in
    let made = c.into_pager-pager.ensures in
    let file = main_of (d.reads c.args.disk.now) in
    let secret = c.args.secrets.now.first in
    let keys = keys_of (with_log c.args.profile) secret file in
    let same : main_of (d.reads p.disk.now) ≡ file = ap (λ (x : _). main_of (d.reads x)) made.disk.1 ∙ ap (λ (files : Files). main_of files) (c.open_main.ensures.only_read told).stays in
    let one = subst (λ (k : FileKeys). IsChecked (opened_pages k (main_of (d.reads p.disk.now)) p.count)) (made.file.0 ∙ c.in-Ok.ensures.codec told) (c.in-Ok-outcome.ensures.checked told) in
    let two = subst (λ (l : List ℕ). IsChecked (opened_pages keys l p.count)) same one in
    laid_if c.args.profile secret file c.in-Ok.file.header c.in-Ok.file.count (subst (λ (n : ℕ). 1 ≤ n) made.file.2 made.some) (c.in-Ok.ensures.opens told)
    (subst (λ (n : ℕ). IsChecked (opened_pages keys file n)) made.file.2 two)

pub returns-in-Ok-outcome-clause-only_read : goal.returns-in-Ok-outcome-clause-only_read
returns-in-Ok-outcome-clause-only_read g c = λ told.
    let d = g.D.Disk in
    let p = c.into_pager-pager.result in
    let end = c.into_parts-disk.result.0.now in
    let last : c.disk-1.given.0 ≡ end = search rules in
    let first = subst (λ (x : _). OnlyRead d.reads d.images d.moment d.since c.args.disk.now x) (sym c.into_pager-pager.ensures.disk.1) (c.open_main.ensures.only_read told) in
    let next = subst (λ (x : _). OnlyRead d.reads d.images d.moment d.since p.disk.now x) (sym c.into_parts-disk.ensures.disk.1) (c.check_pages-outcome.ensures.disk.only_read told) in
    rw last (then_read first next)

pub returns-in-Err-outcome-clause-only_read : goal.returns-in-Err-outcome-clause-only_read
returns-in-Err-outcome-clause-only_read g c = λ told.
    let d = g.D.Disk in
    let p = c.into_pager-pager.result in
    let end = c.into_parts-disk.result.0.now in
    let last : c.disk-1.given.0 ≡ end = search rules in
    let first = subst (λ (x : _). OnlyRead d.reads d.images d.moment d.since c.args.disk.now x) (sym c.into_pager-pager.ensures.disk.1) (c.open_main.ensures.only_read told) in
    let next = subst (λ (x : _). OnlyRead d.reads d.images d.moment d.since p.disk.now x) (sym c.into_parts-disk.ensures.disk.1) (c.check_pages-outcome.ensures.disk.only_read told) in
    rw last (then_read first next)
