use Rattle.std.proofs.Common.{rules, ◌++◌, ◌≡◌}
use Rattle.journal_format.specs.Records.{journal_record_bytes}
use Rattle.journal_format.proofs.ReadBack.{record_back}
use Rattle.journal_format.proofs.record.write_record.Goals as goal

pub returns-clause-reads_back : goal.returns-clause-reads_back
returns-clause-reads_back c =
    let is :
    (c.copy_from_slice.new.self ++ (c.copy_from_slice-2.new.self ++ c.copy_from_slice-3.new.self)) ≡ journal_record_bytes c.args.nonce c.args.n c.args.image.now = search rules in
    record_back c.args.nonce c.args.n c.args.image.now _ c.requires.0 c.ranges.n.fits is
