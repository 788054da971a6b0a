use Rattle.std.proofs.Common.{◌≡◌, inl, inr, ⊎_elim, ◌++◌, List, ℕ, None, Some, sym, ap, ◌∙◌, subst}
use Rattle.std.specs.Prelude.{slice_get}
use Rattle.sqlcipher_tool.specs.Answer.{Answer, Puts, IsFault}
use Rattle.edge_model.specs.Files.{main_of}
use Rattle.sqlcipher_tool.specs.Tags.{refused_pages, pages_answer}
use Rattle.sqlcipher_tool.proofs.PagesAnswer.{all_accepted, none_printed, some_refused, part_of_answer, part_of_begun}
use Rattle.sqlcipher_tool.proofs.tags.tags_of_pages.Goals as goal

pub returns-in-Ok-None-clause-status : goal.returns-in-Ok-None-clause-status
returns-in-Ok-None-clause-status g c = λ told.
    let codec = c.args.codec.now in
    let pages = refused_pages codec (main_of (g.D.Disk.reads c.args.disk.now)) c.args.pages in
    let none : None ≡ slice_get pages 0 = sym c.in-Ok-None.field-0-is ∙ c.in-Ok-None.ensures.first told in
    ⊎_elim
    (λ (is : _). inl (is ∙ sym (ap (λ (a : Answer). a.status) (all_accepted c.args.pages pages none))))
    (λ (is : _). inr (subst IsFault (sym is) tt))
    c.conclude.ensures.status

pub returns-in-Ok-None-clause-text : goal.returns-in-Ok-None-clause-text
returns-in-Ok-None-clause-text g c = λ printed told.
    let codec = c.args.codec.now in
    let pages = refused_pages codec (main_of (g.D.Disk.reads c.args.disk.now)) c.args.pages in
    let none : None ≡ slice_get pages 0 = sym c.in-Ok-None.field-0-is ∙ c.in-Ok-None.ensures.first told in
    let before = none_printed pages (g.S.Sink.taken c.args.out.now) (g.S.Sink.taken c.check_pages.new.out) none (c.in-Ok-None.ensures.text printed told) in
    let after = g.S.Sink.taken c.conclude.new.out in
    let text : c.tags_report.result ≡ (pages_answer c.args.pages pages).text =
    c.tags_report.ensures ∙ sym (ap (λ (a : Answer). a.text) (all_accepted c.args.pages pages none)) in
    subst (λ (text : List ℕ). Puts c.conclude.result text (g.S.Sink.taken c.args.out.now) after) text
    (subst (λ (start : List ℕ). Puts c.conclude.result c.tags_report.result start after) before (c.conclude.ensures.text printed))

pub returns-in-Ok-Some-clause-status : goal.returns-in-Ok-Some-clause-status
returns-in-Ok-Some-clause-status g c = λ told.
    let codec = c.args.codec.now in
    let pages = refused_pages codec (main_of (g.D.Disk.reads c.args.disk.now)) c.args.pages in
    let some : Some c.in-Ok-Some.page ≡ slice_get pages 0 = sym c.in-Ok-Some.field-0-is ∙ c.in-Ok-Some.ensures.first told in
    inl (sym (ap (λ (a : Answer). a.status) (some_refused c.args.pages pages c.in-Ok-Some.page some)))

pub returns-in-Ok-Some-clause-text : goal.returns-in-Ok-Some-clause-text
returns-in-Ok-Some-clause-text g c = λ printed told.
    let codec = c.args.codec.now in
    let pages = refused_pages codec (main_of (g.D.Disk.reads c.args.disk.now)) c.args.pages in
    let some : Some c.in-Ok-Some.page ≡ slice_get pages 0 = sym c.in-Ok-Some.field-0-is ∙ c.in-Ok-Some.ensures.first told in
    c.in-Ok-Some.ensures.text printed told
    ∙ ap (λ (l : List ℕ). g.S.Sink.taken c.args.out.now ++ l) (sym (ap (λ (a : Answer). a.text) (some_refused c.args.pages pages c.in-Ok-Some.page some)))

pub returns-in-Err-Disk-clause-text : goal.returns-in-Err-Disk-clause-text
returns-in-Err-Disk-clause-text g c = λ printed told. part_of_answer _ _ _ _ (c.in-Err-Disk.ensures.part printed told)

pub returns-in-Err-Output-clause-text : goal.returns-in-Err-Output-clause-text
returns-in-Err-Output-clause-text g c = λ printed told. part_of_answer _ _ _ _ (c.in-Err-Output.ensures.part printed told)

pub returns-in-Err-Disk-clause-disk_text : goal.returns-in-Err-Disk-clause-disk_text
returns-in-Err-Disk-clause-disk_text g c = λ printed told is. part_of_begun _ _ _ _ (c.in-Err-Disk.ensures.part printed told)
