use Rattle.std.proofs.Common.{◌≡◌, ◌∙◌, IsTrue, ap}
use Rattle.edge_model.specs.Causes.{Rose}
use Rattle.edge_model.specs.Files.{main_of}
use Rattle.pager.specs.Pages.{opened_pages}
use Rattle.pager.specs.Reads.{then_read}
use Rattle.sqlcipher_tool.specs.Names.{names_in, names_of}
use Rattle.sqlcipher_tool.specs.declared.opening.Stop.TheVariants.{DiskFault}
use Rattle.sqlcipher_tool.proofs.NearNames.{if_failed, if_told, names_opened, rose_after}
use Rattle.sqlcipher_tool.proofs.names.near_in_main.Goals as goal

pub returns-in-Ok-clause-found : goal.returns-in-Ok-clause-found
returns-in-Ok-clause-found g c =
    let start = main_of (g.D.Disk.reads c.args.disk.now) in
    let now = main_of (g.D.Disk.reads c.open_main.new.disk) in
    let file = c.in-Ok.file in
    let name = c.args.name.now in
    if_told (IsTrue g.D.Disk.tells) c.near_in_file.result
    (λ list. list.items ≡ names_in name (opened_pages file.codec now file.count))
    (λ list. list.items ≡ names_of c.args.profile c.args.secret.now name start)
    (λ told list is. is
    ∙ names_opened c.args.profile c.args.secret.now name start now file.codec (record { header = file.header; count = file.count })
    (c.in-Ok.ensures.opens told) (c.in-Ok.ensures.codec told) (ap main_of (c.in-Ok.ensures.only_read told).stays))
    c.near_in_file.ensures.found

pub returns-in-Ok-clause-cause : goal.returns-in-Ok-clause-cause
returns-in-Ok-clause-cause g c =
    let faults = g.D.Disk.faults in
    if_failed c.near_in_file.result (λ stop. stop ≡ DiskFault → Rose (faults c.open_main.new.disk) (faults c.near_in_file.new.disk))
    (λ stop. stop ≡ DiskFault → Rose (faults c.args.disk.now) (faults c.near_in_file.new.disk))
    (λ stop rose is. rose_after (faults c.args.disk.now) (faults c.open_main.new.disk) (faults c.near_in_file.new.disk) c.in-Ok.ensures.later (rose is))
    c.near_in_file.ensures.cause

pub returns-in-Ok-clause-only_read : goal.returns-in-Ok-clause-only_read
returns-in-Ok-clause-only_read g c = λ told. then_read (c.in-Ok.ensures.only_read told) (c.near_in_file.ensures.only_read told)
