use Rattle.std.proofs.Common.{◌≡◌, ◌≤◌, ◌-◌, ◌+◌, ◌*◌, ◌/◌, ℕ, length, List, true, if◌then◌else◌, sym, ◌∙◌, ap, subst, arith}
use Rattle.journal_format.specs.Header.{head_at, has_header, is_header, sector_at, HasFields}
use Rattle.rollback_journal.specs.Playing.{journal_of, is_whole}
use Rattle.rollback_journal.proofs.SegmentSteps.{no_header, segment_none, segment_past, segment_found, count_bound}
use Rattle.rollback_journal.proofs.segments.read_segment.Goals as goal

pub returns-then-room-lt28-clause-segment : goal.returns-then-room-lt28-clause-segment
returns-then-room-lt28-clause-segment g c told =
    let j = journal_of (g.D.Disk.reads c.args.disk.now) in
    let read = c.requires.read told in
    segment_none c.args.reading.now.page_size c.args.at j (no_header c.args.at j (omega (arith, read.len, c.if-room-lt28.true)))

pub returns-then-room-sector-clause-segment : goal.returns-then-room-sector-clause-segment
returns-then-room-sector-clause-segment g c told =
    let j = journal_of (g.D.Disk.reads c.args.disk.now) in
    let read = c.requires.read told in
    let head : c.read_full.new.buffer ≡ head_at c.args.at j = c.in_ok-read_full.ensures.filled told (c.requires.there told)
    (omega (arith, read.len, c.if-room-lt28.false)) in
    let has : has_header c.args.at j ≡ true = ap (λ (b : List ℕ). is_header b) (sym head) ∙ c.in-Some.ensures.0 in
    segment_past c.args.reading.now.page_size c.args.at j (omega (arith, read.sector, c.requires.reading.sector_low))
    (omega (arith, read.len, c.if-room-lt28.false)) (omega (arith, read.len, read.sector, c.if-room-sector.true)) has

pub returns-clause-segment : goal.returns-clause-segment
returns-clause-segment g c told =
    let j = journal_of (g.D.Disk.reads c.args.disk.now) in
    let read = c.requires.read told in
    let size = c.args.reading.now.page_size in
    let at = c.args.at in
    let head : c.read_full.new.buffer ≡ head_at c.args.at j = c.in_ok-read_full.ensures.filled told (c.requires.there told)
    (omega (arith, read.len, c.if-room-lt28.false)) in
    let has : has_header c.args.at j ≡ true = ap (λ (b : List ℕ). is_header b) (sym head) ∙ c.in-Some.ensures.0 in
    let fields : HasFields (head_at at j) c.in-Some.header = subst (λ (b : List ℕ). HasFields b c.in-Some.header) head c.in-Some.ensures.1 in
    let fits : ℕ = (c.args.reading.now.len - c.args.at - c.args.reading.now.sector) / (c.args.reading.now.page_size + 8) in
    let fits_is : (c.args.reading.now.len - c.args.at - c.args.reading.now.sector) / (c.args.reading.now.page_size + 8) ≡
    (length j - (at + sector_at 0 j)) / (size + 8) =
    ap (λ (n : ℕ). n / (c.args.reading.now.page_size + 8))
    (let e : c.args.reading.now.len - c.args.at - c.args.reading.now.sector ≡ length j - (at + sector_at 0 j) = omega (arith, read.len, read.sector) in e) in
    segment_found size at c.in-Some.header.count fits j c.segment_of.result (omega (arith, read.sector, c.requires.reading.sector_low))
    (omega (arith, read.len, c.if-room-lt28.false))
    (omega (arith, read.len, read.sector, c.if-room-sector.false, c.if-room-lt28.false, c.requires.within)) has fields.0 fits_is
    (c.segment_of.ensures.first ∙ ap (λ (n : ℕ). at + n) read.sector)
    (c.segment_of.ensures.nonce ∙ fields.1) c.segment_of.ensures.count c.segment_of.ensures.last

pub returns-clause-bounds : goal.returns-clause-bounds
returns-clause-bounds g c =
    let room : ℕ = c.args.reading.now.len - c.args.at - c.args.reading.now.sector in
    let step : ℕ = c.args.reading.now.page_size + 8 in
    let bound :
    (if is_whole c.in-Some.header.count ((c.args.reading.now.len - c.args.at - c.args.reading.now.sector) / (c.args.reading.now.page_size + 8)) then c.in-Some.header.count else (c.args.reading.now.len - c.args.at - c.args.reading.now.sector) / (c.args.reading.now.page_size + 8)) *
    (c.args.reading.now.page_size + 8) ≤ c.args.reading.now.len - c.args.at - c.args.reading.now.sector = count_bound c.in-Some.header.count room step
    (omega arith) in
    let count : c.segment_of.result.count *
    (c.args.reading.now.page_size + 8) ≤ c.args.reading.now.len - c.args.at - c.args.reading.now.sector = subst
    (λ (n : ℕ). n * (c.args.reading.now.page_size + 8) ≤ c.args.reading.now.len - c.args.at - c.args.reading.now.sector)
    (sym c.segment_of.ensures.count) bound in
    (omega (arith, c.segment_of.ensures.first, c.requires.reading.sector_low), omega (arith, c.segment_of.ensures.first, count, c.if-room-sector.false, c.if-room-lt28.false, c.requires.within))
