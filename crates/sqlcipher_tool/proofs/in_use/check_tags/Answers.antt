use Rattle.std.proofs.Common.{◌≡◌, ◌+◌, ◌++◌, List, ℕ, IsTrue, Option, Err, arith, rules, sym, ap, ◌∙◌, append-nil}
use Rattle.std.specs.Prelude.{slice_get, option_to_list}
use Rattle.std.specs.Option.{option_or}
use Rattle.db_format.specs.Pages.{Pages}
use Rattle.db_format.specs.Seen.{marked}
use Rattle.edge_model.specs.Files.{main_of}
use Rattle.pager.specs.Pages.{opened_pages}
use Rattle.rekey_job.proofs.Stopped.{pages_same}
use Rattle.sqlcipher_tool.specs.Plain.{is_left}
use Rattle.sqlcipher_tool.specs.Tags.{number_where, numbers_where}
use Rattle.sqlcipher_tool.specs.Text.{tag_lines}
use Rattle.sqlcipher_tool.proofs.RefusedPages.{more_pages, first_of_both, lines_more}
use Rattle.sqlcipher_tool.proofs.Verified.{none_of_both, part_of_stop}
use Rattle.sqlcipher_tool.proofs.in_use.check_tags.Goals as goal

pub returns-in-Err-clause-part : goal.returns-in-Err-clause-part
returns-in-Err-clause-part g c = λ printed told.
    let start = c.args.pager.now in
    let now = c.loop-done.pager in
    let n = c.loop-done.done in
    let passed = marked c.args.leaves.now.leaves in
    let pages = opened_pages start.codec (main_of (g.D.Disk.reads start.disk.now)) start.count in
    let same : opened_pages now.codec (main_of (g.D.Disk.reads now.disk.now)) now.count ≡ pages =
    pages_same start.codec now.codec (g.D.Disk.reads start.disk.now) (g.D.Disk.reads now.disk.now) start.count now.count
    c.loop-done.invariant.codec (c.loop-done.invariant.disk.only_read told).stays c.loop-done.invariant.count in
    part_of_stop (is_left pages passed) n start.count (omega arith) c.in-Err.status c.in-Err.ensures.fault
    (g.S.Sink.taken c.args.out.now) (g.S.Sink.taken c.loop-done.out) (g.S.Sink.taken c.check_one.new.out)
    (c.loop-done.invariant.text printed told)
    (λ is. ap g.S.Sink.taken (c.in-Err.ensures.unread is))
    (λ is. ap (λ (p : Pages). number_where (is_left p passed) (n + 1)) (sym same) ∙ c.in-Err.ensures.is_refused (ap Err is) told)
    (λ is. c.in-Err.ensures.part (ap Err is) printed)

pub loop-done-preserved : goal.loop-done-preserved
loop-done-preserved g c =
    let start = c.args.pager.now in
    let now = c.loop-done.pager in
    let n = c.loop-done.done in
    let passed = marked c.args.leaves.now.leaves in
    let pages = opened_pages start.codec (main_of (g.D.Disk.reads start.disk.now)) start.count in
    let test = is_left pages passed in
    let same : IsTrue g.D.Disk.tells → opened_pages now.codec (main_of (g.D.Disk.reads now.disk.now)) now.count ≡ pages = λ told.
    pages_same start.codec now.codec (g.D.Disk.reads start.disk.now) (g.D.Disk.reads now.disk.now) start.count now.count
    c.loop-done.invariant.codec (c.loop-done.invariant.disk.only_read told).stays c.loop-done.invariant.count in
    let refused = c.in-Ok.refused in
    let l_first = c.loop-done.first in
    let now_out = c.loop-done.out in
    let found : IsTrue g.D.Disk.tells → refused ≡ number_where test (n + 1) = λ told.
    c.in-Ok.ensures.refused told ∙ ap (λ (p : Pages). number_where (is_left p passed) (n + 1)) (same told) in
    record {
      first = λ told. c.or-first.ensures
          ∙ ap (λ (first : Option ℕ). option_or first refused) (c.loop-done.invariant.first told)
          ∙ ap (λ (last : Option ℕ). option_or (slice_get (numbers_where test n) 0) last) (found told)
          ∙ sym (first_of_both (numbers_where test n) (number_where test (n + 1)))
          ∙ ap (λ (l : List ℕ). slice_get l 0) (sym (more_pages test n));
      text = λ printed told. c.in-Ok.ensures.text printed
          ∙ ap (λ (l : List ℕ). l ++ tag_lines (option_to_list refused)) (c.loop-done.invariant.text printed told)
          ∙ ap (λ (last : Option ℕ). (g.S.Sink.taken c.args.out.now ++ tag_lines (numbers_where test n)) ++ tag_lines (option_to_list last)) (found told)
          ∙ lines_more test n (g.S.Sink.taken c.args.out.now);
      unprinted = λ none printed.
          let both = none_of_both l_first refused (sym c.or-first.ensures ∙ none) in
          c.in-Ok.ensures.text printed
          ∙ ap (λ (last : Option ℕ). g.S.Sink.taken now_out ++ tag_lines (option_to_list last)) both.1
          ∙ append-nil (g.S.Sink.taken now_out) ∙ c.loop-done.invariant.unprinted both.0 printed;
      disk = search rules;
      entropy = search rules;
      codec = search rules;
      count = search rules;
      output_later = search rules;
    }
