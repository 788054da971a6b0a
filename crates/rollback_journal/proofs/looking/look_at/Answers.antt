use Rattle.std.proofs.Common.{◌≡◌, Bool, true, false, ℕ, List, sym, ◌∙◌, ap, subst, arith, rules, refl}
use Rattle.std.specs.Prelude.{IsFalse}
use Rattle.edge_model.specs.Files.{Files, main_of}
use Rattle.journal_format.specs.Header.{head_at, has_header, is_header, is_sector, sector_at, HasFields}
use Rattle.journal_format.specs.Segments.{names_super}
use Rattle.rollback_journal.specs.Playing.{journal_of}
use Rattle.rollback_journal.proofs.SegmentSteps.{no_header}
use Rattle.rollback_journal.proofs.MainSteps.{some_contents, has_byte, makes_byte}
use Rattle.rollback_journal.proofs.LaidBack.{there_contents}
use Rattle.rollback_journal.proofs.Closed.{no_header_cold}
use Rattle.rollback_journal.proofs.Looks.{is_hot_by, answer_size, answer_taken, reads_on}
use Rattle.rollback_journal.proofs.looking.look_at.Goals as goal

pub returns-then-len-lt28-clause-found : goal.returns-then-len-lt28-clause-found
returns-then-len-lt28-clause-found g c told =
    let now = g.D.Disk.reads c.args.disk.now in
    let at = c.requires.told told in
    (at.0, record { main = some_contents now.main at.0; journal = there_contents now.journal at.1; cold = no_header_cold (main_of now) (journal_of now) (no_header 0 (journal_of now) (omega (arith, at.2, c.if-len-lt28.true))) })

pub returns-then-header-page_size-clause-found : goal.returns-then-header-page_size-clause-found
returns-then-header-page_size-clause-found g c told =
    let now = g.D.Disk.reads c.args.disk.now in
    let at = c.requires.told told in
    let head : c.read_full.new.buffer ≡ head_at 0 (journal_of now) = c.in_ok-read_full.ensures.filled told at.1 (omega (arith, at.2, c.if-len-lt28.false)) in
    let has : has_header 0 (journal_of now) ≡ true = ap (λ (b : List ℕ). is_header b) (sym head) ∙ c.in-Some.ensures.0 in
    let fields : HasFields (head_at 0 (journal_of now)) c.in-Some.header = subst (λ (b : List ℕ). HasFields b c.in-Some.header) head c.in-Some.ensures.1 in
    let sector : is_sector (sector_at 0 (journal_of now)) ≡ true = ap (λ (n : ℕ). is_sector n) (sym fields.3) ∙ sym c.sector_ok.ensures.answer
    ∙ c.if-not-sector_ok.false in
    let hot = is_hot_by (main_of now) (journal_of now) (has_byte now.main at.0) has sector in
    answer_size c.args.page_size c.in-Some.header.page_size now at.0 at.1 hot fields.4 c.if-header-page_size.true

pub returns-then-named-clause-found : goal.returns-then-named-clause-found
returns-then-named-clause-found g c told =
    let now = g.D.Disk.reads c.args.disk.now in
    let at = c.requires.told told in
    let head : c.read_full.new.buffer ≡ head_at 0 (journal_of now) = c.in_ok-read_full.ensures.filled told at.1 (omega (arith, at.2, c.if-len-lt28.false)) in
    let has : has_header 0 (journal_of now) ≡ true = ap (λ (b : List ℕ). is_header b) (sym head) ∙ c.in-Some.ensures.0 in
    let fields : HasFields (head_at 0 (journal_of now)) c.in-Some.header = subst (λ (b : List ℕ). HasFields b c.in-Some.header) head c.in-Some.ensures.1 in
    let sector : is_sector (sector_at 0 (journal_of now)) ≡ true = ap (λ (n : ℕ). is_sector n) (sym fields.3) ∙ sym c.sector_ok.ensures.answer
    ∙ c.if-not-sector_ok.false in
    let hot = is_hot_by (main_of now) (journal_of now) (has_byte now.main at.0) has sector in
    let named : true ≡ names_super (journal_of now) = sym c.if-named.true ∙ c.in_ok-named.ensures.answer told
    ∙ ap (λ (x : Files). names_super (journal_of x)) (c.read_full.ensures.same told) in
    answer_taken c.args.page_size now true at.0 at.1 hot (sym fields.4 ∙ (search rules)) named

pub returns-then-named-clause-any_moment : goal.returns-then-named-clause-any_moment
returns-then-named-clause-any_moment g c told = reads_on g.D.Disk.images (c.read_full.ensures.any_moment told) (c.read_full.ensures.crash told)
    (c.is_super.ensures.any_moment told)

pub returns-clause-any_moment : goal.returns-clause-any_moment
returns-clause-any_moment g c told = reads_on g.D.Disk.images (c.read_full.ensures.any_moment told) (c.read_full.ensures.crash told)
    (c.is_super.ensures.any_moment told)

pub returns-clause-found : goal.returns-clause-found
returns-clause-found g c told =
    let now = g.D.Disk.reads c.args.disk.now in
    let at = c.requires.told told in
    let head : c.read_full.new.buffer ≡ head_at 0 (journal_of now) = c.in_ok-read_full.ensures.filled told at.1 (omega (arith, at.2, c.if-len-lt28.false)) in
    let has : has_header 0 (journal_of now) ≡ true = ap (λ (b : List ℕ). is_header b) (sym head) ∙ c.in-Some.ensures.0 in
    let fields : HasFields (head_at 0 (journal_of now)) c.in-Some.header = subst (λ (b : List ℕ). HasFields b c.in-Some.header) head c.in-Some.ensures.1 in
    let sector : is_sector (sector_at 0 (journal_of now)) ≡ true = ap (λ (n : ℕ). is_sector n) (sym fields.3) ∙ sym c.sector_ok.ensures.answer
    ∙ c.if-not-sector_ok.false in
    let hot = is_hot_by (main_of now) (journal_of now) (has_byte now.main at.0) has sector in
    let named : false ≡ names_super (journal_of now) = sym c.if-named.false ∙ c.in_ok-named.ensures.answer told
    ∙ ap (λ (x : Files). names_super (journal_of x)) (c.read_full.ensures.same told) in (
      record { main = at.0; journal = makes_byte now.journal (journal_of now) (there_contents now.journal at.1) (omega (arith, at.2, c.if-len-lt28.false)); hot = hot; page_size = sym fields.4 ∙ (search rules); no_super = subst (λ (b : Bool). IsFalse b) named refl },
      record { initial = fields.2; sector = fields.3; len = at.2 },
    )
