use Rattle.std.proofs.Common.{◌≡◌, ◌<◌, ◌≤◌, ℕ, List, true, length, take, sym, ◌∙◌, ap, arith}
use Rattle.edge_model.specs.Files.{Files}
use Rattle.log_format.specs.Header.{HasLogFields, is_log_head, log_page_size}
use Rattle.log_format.specs.Logs.{committed_frames, log_header, logged_count}
use Rattle.log_format.proofs.Whole.{header_is}
use Rattle.rollback_journal.proofs.LaidBack.{there_contents}
use Rattle.rollback_journal.proofs.Looks.{reads_on}
use Rattle.rollback_journal.proofs.MainSteps.{makes_byte}
use Rattle.log_recovery.specs.Laying.{log_of}
use Rattle.log_recovery.proofs.Looks.{answer_size, answer_version, empty_no_commit, empty_no_head, frames_are, over_commit, read_fields, read_head, taken_is}
use Rattle.log_recovery.proofs.looking.look_at.Goals as goal

pub returns-in_default-clause-found : goal.returns-in_default-clause-found
returns-in_default-clause-found g c told =
    let now = g.D.Disk.reads c.args.disk.now in
    let at = c.requires.told told in
    let long : 32 ≤ length (log_of now) = omega (arith, at.2, c.if-len-lt32.false) in
    let head : c.read_full.new.buffer ≡ take 32 (log_of now) = c.in_ok-read_full.ensures.filled told at.1 long in
    (at.0, empty_no_head now at.0 at.1 (sym (read_head (log_of now) c.read_full.new.buffer head long) ∙ c.in_default.ensures.fields))

pub returns-then-header-ne3007000-clause-found : goal.returns-then-header-ne3007000-clause-found
returns-then-header-ne3007000-clause-found g c told =
    let now = g.D.Disk.reads c.args.disk.now in
    let at = c.requires.told told in
    let long : 32 ≤ length (log_of now) = omega (arith, at.2, c.if-len-lt32.false) in
    let head : c.read_full.new.buffer ≡ take 32 (log_of now) = c.in_ok-read_full.ensures.filled told at.1 long in
    let has : is_log_head (log_of now) ≡ true = sym (read_head (log_of now) c.read_full.new.buffer head long) ∙ c.in-Some.ensures.fields.0 in
    let fields : HasLogFields (log_of now) c.in-Some.header =
    read_fields (log_of now) c.read_full.new.buffer c.in-Some.header head long c.in-Some.ensures.fields.1 in
    answer_version c.args.page_size c.in-Some.header.version now at.0 at.1 has fields.1 c.if-header-ne3007000.true

pub find_end-requires-clause-header : goal.find_end-requires-clause-header
find_end-requires-clause-header g c told =
    let now = g.D.Disk.reads c.args.disk.now in
    let at = c.requires.told told in
    let long : 32 ≤ length (log_of now) = omega (arith, at.2, c.if-len-lt32.false) in
    let head : c.read_full.new.buffer ≡ take 32 (log_of now) = c.in_ok-read_full.ensures.filled told at.1 long in
    let fields : HasLogFields (log_of now) c.in-Some.header =
    read_fields (log_of now) c.read_full.new.buffer c.in-Some.header head long c.in-Some.ensures.fields.1 in
    header_is (log_of now) c.in-Some.header fields ∙ ap (λ (x : Files). log_header (log_of x)) (sym (c.read_full.ensures.same told))

pub returns-then-end-eq0-clause-found : goal.returns-then-end-eq0-clause-found
returns-then-end-eq0-clause-found g c told =
    let now = g.D.Disk.reads c.args.disk.now in
    let at = c.requires.told told in
    let long : 32 ≤ length (log_of now) = omega (arith, at.2, c.if-len-lt32.false) in
    let head : c.read_full.new.buffer ≡ take 32 (log_of now) = c.in_ok-read_full.ensures.filled told at.1 long in
    let fields : HasLogFields (log_of now) c.in-Some.header =
    read_fields (log_of now) c.read_full.new.buffer c.in-Some.header head long c.in-Some.ensures.fields.1 in
    let frames = frames_are c.in-Some.header.page_size c.in_ok-end.end.frames (log_of now) (log_of (g.D.Disk.reads c.read_full.new.disk))
    (ap log_of (c.read_full.ensures.same told)) fields.2 (c.in_ok-end.ensures.frames told) in
    (at.0, empty_no_commit now at.0 at.1 (sym fields.1 ∙ c.if-header-ne3007000.false) (sym frames ∙ c.if-end-eq0.true))

pub returns-then-header-page_size-clause-found : goal.returns-then-header-page_size-clause-found
returns-then-header-page_size-clause-found g c told =
    let now = g.D.Disk.reads c.args.disk.now in
    let at = c.requires.told told in
    let long : 32 ≤ length (log_of now) = omega (arith, at.2, c.if-len-lt32.false) in
    let head : c.read_full.new.buffer ≡ take 32 (log_of now) = c.in_ok-read_full.ensures.filled told at.1 long in
    let has : is_log_head (log_of now) ≡ true = sym (read_head (log_of now) c.read_full.new.buffer head long) ∙ c.in-Some.ensures.fields.0 in
    let fields : HasLogFields (log_of now) c.in-Some.header =
    read_fields (log_of now) c.read_full.new.buffer c.in-Some.header head long c.in-Some.ensures.fields.1 in
    let frames = frames_are c.in-Some.header.page_size c.in_ok-end.end.frames (log_of now) (log_of (g.D.Disk.reads c.read_full.new.disk))
    (ap log_of (c.read_full.ensures.same told)) fields.2 (c.in_ok-end.ensures.frames told) in
    let some : 0 < committed_frames (log_page_size (log_of now)) (log_of now) = omega (arith, frames, c.if-end-eq0.false) in
    answer_size c.args.page_size c.in-Some.header.page_size now at.0 at.1 (over_commit now at.0 has some) (sym fields.1 ∙ c.if-header-ne3007000.false) fields.2
    c.if-header-page_size.true

pub returns-then-header-page_size-clause-crash : goal.returns-then-header-page_size-clause-crash
returns-then-header-page_size-clause-crash g c told f left = c.read_full.ensures.crash told f (c.find_end.ensures.crash told f left)

pub returns-then-header-page_size-clause-any_moment : goal.returns-then-header-page_size-clause-any_moment
returns-then-header-page_size-clause-any_moment g c told = reads_on g.D.Disk.images (c.read_full.ensures.any_moment told) (c.read_full.ensures.crash told)
    (c.find_end.ensures.any_moment told)

pub returns-clause-crash : goal.returns-clause-crash
returns-clause-crash g c told f left = c.read_full.ensures.crash told f (c.find_end.ensures.crash told f left)

pub returns-clause-any_moment : goal.returns-clause-any_moment
returns-clause-any_moment g c told = reads_on g.D.Disk.images (c.read_full.ensures.any_moment told) (c.read_full.ensures.crash told)
    (c.find_end.ensures.any_moment told)

pub returns-clause-found : goal.returns-clause-found
returns-clause-found g c told =
    let now = g.D.Disk.reads c.args.disk.now in
    let at = c.requires.told told in
    let long : 32 ≤ length (log_of now) = omega (arith, at.2, c.if-len-lt32.false) in
    let head : c.read_full.new.buffer ≡ take 32 (log_of now) = c.in_ok-read_full.ensures.filled told at.1 long in
    let has : is_log_head (log_of now) ≡ true = sym (read_head (log_of now) c.read_full.new.buffer head long) ∙ c.in-Some.ensures.fields.0 in
    let fields : HasLogFields (log_of now) c.in-Some.header =
    read_fields (log_of now) c.read_full.new.buffer c.in-Some.header head long c.in-Some.ensures.fields.1 in
    let mid = log_of (g.D.Disk.reads c.read_full.new.disk) in
    let same = ap log_of (c.read_full.ensures.same told) in
    let frames = frames_are c.in-Some.header.page_size c.in_ok-end.end.frames (log_of now) (log_of (g.D.Disk.reads c.read_full.new.disk))
    (ap log_of (c.read_full.ensures.same told)) fields.2 (c.in_ok-end.ensures.frames told) in
    let some : 0 < c.in_ok-end.end.frames = omega (arith, c.if-end-eq0.false) in
    let size_is : c.in-Some.header.page_size ≡ c.args.page_size = omega (arith, c.if-header-page_size.false) in (
      taken_is c.args.page_size now at.0 (makes_byte now.journal (log_of now) (there_contents now.journal at.1) (omega (arith, long))) has
          (sym fields.1 ∙ c.if-header-ne3007000.false) (sym fields.2 ∙ size_is) (omega (arith, frames, some)),
      record {
        frames = c.in_ok-end.ensures.frames told ∙ ap (λ (l : List ℕ). committed_frames c.in-Some.header.page_size l) (ap log_of (c.read_full.ensures.same told))
            ∙ ap (λ (n : ℕ). committed_frames n (log_of now)) size_is;
        pages = c.in_ok-end.ensures.pages told some
            ∙ ap (λ (l : List ℕ). logged_count c.in-Some.header.page_size l) (ap log_of (c.read_full.ensures.same told))
            ∙ ap (λ (n : ℕ). logged_count n (log_of now)) size_is;
        len = at.2;
      },
    )
