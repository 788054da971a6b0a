use Rattle.std.proofs.Common.{◌≡◌, ◌+◌, ◌++◌, List, ℕ, IsTrue, Option, Some, arith, rules, sym, ap, ◌∙◌, subst}
use Rattle.std.specs.Prelude.{slice_get, option_to_list}
use Rattle.std.specs.Option.{option_or}
use Rattle.edge_model.specs.Files.{main_of}
use Rattle.pager.specs.Reads.{then_read}
use Rattle.sqlcipher_tool.specs.Tags.{AreKnown, is_refused, refused_page, refused_pages}
use Rattle.sqlcipher_tool.specs.Text.{tag_lines}
use Rattle.sqlcipher_tool.proofs.Batches.{known_page}
use Rattle.sqlcipher_tool.proofs.RefusedPages.{more_pages, first_of_both, lines_more, part_of_lines, part_of_next}
use Rattle.sqlcipher_tool.proofs.tags.check_pages.Goals as goal

pub returns-in-Err-clause-part : goal.returns-in-Err-clause-part
returns-in-Err-clause-part g c = λ printed told.
    let main = main_of (g.D.Disk.reads c.args.disk.now) in
    part_of_lines (is_refused c.args.codec.now main) c.loop-done.done c.args.pages (omega arith) (g.S.Sink.taken c.args.out.now) (g.S.Sink.taken c.loop-done.out)
    (c.loop-done.invariant.text printed told)

pub returns-in-Err-check_page-clause-part : goal.returns-in-Err-check_page-clause-part
returns-in-Err-check_page-clause-part g c = λ printed told.
    let keys = c.args.codec.now in
    let main = main_of (g.D.Disk.reads c.args.disk.now) in
    let n = c.loop-done.done in
    let stays = ap main_of (c.loop-done.invariant.only_read told).stays in
    let batch = c.in-Ok.loaded in
    let refused : refused_page keys main (n + 1) ≡ Some (n + 1) =
    sym (known_page keys batch.start batch.end n _ c.load_batch.new.held main (main_of (g.D.Disk.reads c.loop-done.disk)) c.place_of.ensures.value
    stays c.in-Ok.ensures.here.0 c.in-Ok.ensures.here.1 (c.in-Ok.ensures.known told)) ∙ c.in-Err-check_page.ensures.is_refused in
    part_of_next (is_refused keys main) n c.args.pages (omega arith) refused (g.S.Sink.taken c.args.out.now) (g.S.Sink.taken c.loop-done.out)
    (g.S.Sink.taken c.check_page.new.out) (c.loop-done.invariant.text printed told) (c.in-Err-check_page.ensures.part printed)

pub loop-done-preserved : goal.loop-done-preserved
loop-done-preserved g c =
    let keys = c.args.codec.now in
    let n = c.loop-done.done in
    let batch = c.in-Ok.loaded in
    let held = c.load_batch.new.held in
    let main = main_of (g.D.Disk.reads c.args.disk.now) in
    let mid = main_of (g.D.Disk.reads c.loop-done.disk) in
    let stays : IsTrue g.D.Disk.tells → mid ≡ main = λ told. ap main_of (c.loop-done.invariant.only_read told).stays in
    let refused = c.in-Ok-check_page.refused in
    let found : IsTrue g.D.Disk.tells → refused ≡ refused_page keys main (n + 1) = λ told.
    c.in-Ok-check_page.ensures.refused
    ∙ known_page keys batch.start batch.end n _ held main mid c.place_of.ensures.value (stays told) c.in-Ok.ensures.here.0 c.in-Ok.ensures.here.1
    (c.in-Ok.ensures.known told) in
    record {
      first = λ told. c.or-first.ensures
          ∙ ap (λ (first : Option ℕ). option_or first refused) (c.loop-done.invariant.first told)
          ∙ ap (λ (last : Option ℕ). option_or (slice_get (refused_pages keys main n) 0) last) (found told)
          ∙ sym (first_of_both (refused_pages keys main n) (refused_page keys main (n + 1)))
          ∙ ap (λ (l : List ℕ). slice_get l 0) (sym (more_pages (is_refused keys main) n));
      text = λ printed told. c.in-Ok-check_page.ensures.text printed
          ∙ ap (λ (l : List ℕ). l ++ tag_lines (option_to_list refused)) (c.loop-done.invariant.text printed told)
          ∙ ap (λ (last : Option ℕ). (g.S.Sink.taken c.args.out.now ++ tag_lines (refused_pages keys main n)) ++ tag_lines (option_to_list last)) (found told)
          ∙ lines_more (is_refused keys main) n (g.S.Sink.taken c.args.out.now);
      before = omega (arith, c.in-Ok.ensures.here.0);
      bounded = c.in-Ok.ensures.bounded;
      known = λ told. subst (λ (l : List ℕ). AreKnown keys batch.start batch.end held l) (stays told) (c.in-Ok.ensures.known told);
      only_read = λ told. then_read (c.loop-done.invariant.only_read told) (c.load_batch.ensures.only_read told);
      disk_later = search rules;
      output_later = search rules;
    }
