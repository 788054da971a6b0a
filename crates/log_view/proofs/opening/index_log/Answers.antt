use Rattle.std.proofs.Common.{rules, arith, ◌≡◌, ◌∙◌, ℕ, ◌*◌, ◌≤◌, max, List, length, Option, IfSome, IsTrue, unwrap_or, sym, ap, subst}
use Rattle.std.proofs.lemmas.List.{take_at}
use Rattle.edge_model.specs.Files.{Files, length_of}
use Rattle.log_format.specs.Logs.{logged, logged_count}
use Rattle.log_recovery.specs.Laying.{log_of}
use Rattle.log_view.specs.View.{IsHeldByLog, IsIndexed, IsTable}
use Rattle.log_view.proofs.Indexed.{end_reached, taken_held, taken_indexed, taken_long}
use Rattle.log_view.proofs.Steps.{then_read}
use Rattle.rollback_journal.specs.Laying.{reach}
use Rattle.log_view.proofs.opening.index_log.Goals as goal

pub returns-clause-len : goal.returns-clause-len
returns-clause-len g c told =
    let now = g.D.Disk.reads c.args.disk.now in
    let size = c.args.reading.now.page_size in
    let main : c.unwrap_or-main.result ≡ unwrap_or (length_of now.main) 0 = c.unwrap_or-main.ensures
    ∙ ap (λ (l : Option ℕ). unwrap_or l 0) (c.in_ok-length.ensures.told told ∙ ap (λ (f : Files). length_of f.main) (c.index_frames.ensures.only told).stays) in
    let found : IsTrue g.D.Disk.tells → c.in-Some.end ≡ reach size (logged size (log_of now))
    = subst (λ (s : Option ℕ). IfSome s (λ (n : ℕ). IsTrue g.D.Disk.tells → n ≡ reach size (logged size (log_of now)))) c.in-Some.is c.in_ok-end.ensures.end in
    let wholes : c.args.reading.now.pages * size ≡ logged_count size (log_of now) * size = ap (λ (n : ℕ). n * size) (c.requires.read told).pages in
    let le : c.args.reading.now.pages * size ≤ max c.unwrap_or-main.result c.in-Some.end = omega (arith, c.max-reached.ensures, c.if-reached-whole.false) in
    taken_long size (c.args.reading.now.pages * size) now c.requires.reading.page_low (c.requires.taken told) wholes
    (end_reached size c.unwrap_or-main.result c.in-Some.end (c.args.reading.now.pages * size) now main (found told) wholes le)

pub returns-clause-indexed : goal.returns-clause-indexed
returns-clause-indexed g c told =
    let now = g.D.Disk.reads c.args.disk.now in
    let size = c.args.reading.now.page_size in
    let long : length c.index_frames.new.table ≡ c.args.table.len = search rules in
    let pages : length c.index_frames.new.table ≡ c.args.reading.now.pages = search rules in
    let noted : IsTrue g.D.Disk.tells → IsTable size c.index_frames.new.table (log_of now) c.args.reading.now.frames
    = subst (λ (s : Option ℕ). IfSome s (λ (n : ℕ). IsTrue g.D.Disk.tells → IsTable size c.index_frames.new.table (log_of now) c.args.reading.now.frames))
    c.in-Some.is c.in_ok-end.ensures.table in
    subst (λ (t : List ℕ). IsIndexed c.args.reading.now.page_size t now) (sym (take_at c.index_frames.new.table _ c.args.table.len long))
    (taken_indexed c.args.reading.now.page_size c.index_frames.new.table now c.requires.reading.page_low (c.requires.taken told)
    (pages ∙ (c.requires.read told).pages)
    (subst (λ (n : ℕ). IsTable c.args.reading.now.page_size c.index_frames.new.table (log_of now) n) (c.requires.read told).frames (noted told)))

pub returns-clause-held : goal.returns-clause-held
returns-clause-held g c told =
    let now = g.D.Disk.reads c.args.disk.now in
    let size = c.args.reading.now.page_size in
    let long : length c.index_frames.new.table ≡ c.args.table.len = search rules in
    let noted : IsTrue g.D.Disk.tells → IsTable size c.index_frames.new.table (log_of now) c.args.reading.now.frames
    = subst (λ (s : Option ℕ). IfSome s (λ (n : ℕ). IsTrue g.D.Disk.tells → IsTable size c.index_frames.new.table (log_of now) c.args.reading.now.frames))
    c.in-Some.is c.in_ok-end.ensures.table in
    subst (λ (t : List ℕ). IsHeldByLog c.args.reading.now.page_size t now) (sym (take_at c.index_frames.new.table _ c.args.table.len long))
    (taken_held c.args.reading.now.page_size c.index_frames.new.table now (c.requires.taken told)
    (subst (λ (n : ℕ). IsTable c.args.reading.now.page_size c.index_frames.new.table (log_of now) n) (c.requires.read told).frames (noted told)))

pub returns-clause-only : goal.returns-clause-only
returns-clause-only g c told = then_read (c.index_frames.ensures.only told)
    (record { stays = c.length.ensures.same told; same_images = c.length.ensures.crash told; time = c.length.ensures.time told })
