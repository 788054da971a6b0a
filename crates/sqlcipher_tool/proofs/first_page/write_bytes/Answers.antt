use Rattle.std.proofs.Common.{◌≡◌, ◌||◌, ℕ, Bool, true, false, List, Result, Ok, Err, if◌then◌else◌, refl, sym, ap, ◌∙◌}
use Rattle.std.specs.Prelude.{◌&&◌}
use Rattle.atomic_commit.specs.Marks.{is_marked}
use Rattle.edge_model.specs.Files.{main_of}
use Rattle.page_cache.specs.Pages.{is_held}
use Rattle.page_codec.specs.Page.{FileKeys, accepts}
use Rattle.pager.specs.File.{page_stored}
use Rattle.pager.specs.Pages.{is_page_number, opened_pages}
use Rattle.pager.specs.UnderWay.{keys_at}
use Rattle.pager.specs.declared.fill.PageError.{PageError}
use Rattle.pager.specs.declared.fill.PageError.TheVariants.{OutOfRange}
use Rattle.sqlcipher_tool.proofs.first_page.write_bytes.Goals as goal

no_refusal : {T : Type 0} (done : T) (r : Result T PageError) → r ≡ Ok done → r ≡ Err OutOfRange → ⊥
no_refusal done r ok is = cc

holds : (b : Bool) → (b ≡ false → ⊥) → b ≡ true
holds true never = refl
holds false never = absurd (never refl)

either : (held marked b : Bool) → held || marked ≡ true → (marked ≡ true → b ≡ true) → held || b ≡ true
either true marked b touched written = refl
either false marked b touched written = written touched

-- a page that was written is accepted, as the transaction sees it
written_accepted : (read write : FileKeys) (file : List ℕ) (count : ℕ) (marks : List Bool) → is_page_number count 1 ≡ true → is_marked 1 marks ≡ true
    → accepts write 1 (page_stored write file 1) ≡ true → (opened_pages (keys_at read write marks 1) file count).accepts 1 ≡ true
written_accepted read write file count marks number mark accepted =
    (λ t. number t && accepts (if mark t then write else read) 1 (page_stored (if mark t then write else read) file 1)) ∙ accepted

pub returns-clause-written : goal.returns-clause-written
returns-clause-written g c = λ told.
    c.in_ok-write.ensures.changed told 1

pub returns-clause-accepted : goal.returns-clause-accepted
returns-clause-accepted g c = λ told.
    let s = c.args.txn.now in
    let n = c.write.new.self in
    let ok = c.in_ok-write.ensures in
    let number : is_page_number s.count 1 ≡ true = holds (is_page_number s.count 1)
    (λ out. no_refusal c.in_ok-write.field-0 c.write.result c.in_ok-write.was (c.write.ensures.out_of_range out)) in
    let now : is_page_number n.count 1 ≡ true = ap (λ (k : ℕ). is_page_number k 1) ok.file.2 ∙ number in
    let based : is_page_number g.start.base.pages 1 ≡ true = ap (λ (k : ℕ). is_page_number k 1) (sym c.requires.1.1.1.1.0.1) ∙ number in
    either (is_held 1 n.changed.held) (is_marked 1 n.written) _ (ok.touched 1 number)
    (λ mark. written_accepted n.read n.write (main_of (g.D.Disk.reads n.disk.now)) n.count n.written now mark ((ok.under_way told).pages.accepted 1 based mark))
