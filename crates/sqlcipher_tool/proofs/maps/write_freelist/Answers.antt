use Rattle.std.proofs.Common.{◌≡◌, ℕ, true, List, Err, sym, ap, subst, ◌∙◌, arith, rules}
use Rattle.pager.specs.Pages.{is_page_number}
use Rattle.pager.specs.UnderWay.{seen_pages}
use Rattle.edge_model.specs.Files.{main_of}
use Rattle.edge_model.specs.Moments.{and_then, then_from}
use Rattle.sqlcipher_tool.specs.FirstPage.{with_field}
use Rattle.sqlcipher_tool.proofs.FieldsWritten.{again, field_of}
use Rattle.sqlcipher_tool.proofs.Stamping.{refused_later}
use Rattle.sqlcipher_tool.proofs.maps.write_freelist.Goals as goal

pub returns-in_err-write_bytes-2-clause-any_moment : goal.returns-in_err-write_bytes-2-clause-any_moment
returns-in_err-write_bytes-2-clause-any_moment g c = λ told. and_then (c.write_bytes.ensures.any_moment told) (c.write_bytes-2.ensures.any_moment told)

pub returns-in_err-write_bytes-2-clause-fresh : goal.returns-in_err-write_bytes-2-clause-fresh
returns-in_err-write_bytes-2-clause-fresh g c = λ told. then_from g.met.D.Disk.counts_now (λ a b d ab bd. bd ∙ ab) (c.write_bytes.ensures.fresh told) (c.write_bytes-2.ensures.fresh told)

pub returns-in_err-write_bytes-3-clause-any_moment : goal.returns-in_err-write_bytes-3-clause-any_moment
returns-in_err-write_bytes-3-clause-any_moment g c = λ told. and_then (and_then (c.write_bytes.ensures.any_moment told) (c.write_bytes-2.ensures.any_moment told)) (c.write_bytes-3.ensures.any_moment told)

pub returns-in_err-write_bytes-3-clause-fresh : goal.returns-in_err-write_bytes-3-clause-fresh
returns-in_err-write_bytes-3-clause-fresh g c = λ told. then_from g.met.D.Disk.counts_now (λ a b d ab bd. bd ∙ ab) (then_from g.met.D.Disk.counts_now (λ a b d ab bd. bd ∙ ab) (c.write_bytes.ensures.fresh told) (c.write_bytes-2.ensures.fresh told)) (c.write_bytes-3.ensures.fresh told)

pub returns-in_err-write_bytes-4-clause-any_moment : goal.returns-in_err-write_bytes-4-clause-any_moment
returns-in_err-write_bytes-4-clause-any_moment g c = λ told. and_then (and_then (and_then (c.write_bytes.ensures.any_moment told) (c.write_bytes-2.ensures.any_moment told)) (c.write_bytes-3.ensures.any_moment told)) (c.write_bytes-4.ensures.any_moment told)

pub returns-in_err-write_bytes-4-clause-fresh : goal.returns-in_err-write_bytes-4-clause-fresh
returns-in_err-write_bytes-4-clause-fresh g c = λ told. then_from g.met.D.Disk.counts_now (λ a b d ab bd. bd ∙ ab) (then_from g.met.D.Disk.counts_now (λ a b d ab bd. bd ∙ ab) (then_from g.met.D.Disk.counts_now (λ a b d ab bd. bd ∙ ab) (c.write_bytes.ensures.fresh told) (c.write_bytes-2.ensures.fresh told)) (c.write_bytes-3.ensures.fresh told)) (c.write_bytes-4.ensures.fresh told)

pub returns-clause-any_moment : goal.returns-clause-any_moment
returns-clause-any_moment g c = λ told. and_then (and_then (and_then (c.write_bytes.ensures.any_moment told) (c.write_bytes-2.ensures.any_moment told)) (c.write_bytes-3.ensures.any_moment told)) (c.write_bytes-4.ensures.any_moment told)

pub returns-clause-fresh : goal.returns-clause-fresh
returns-clause-fresh g c = λ told. then_from g.met.D.Disk.counts_now (λ a b d ab bd. bd ∙ ab) (then_from g.met.D.Disk.counts_now (λ a b d ab bd. bd ∙ ab) (then_from g.met.D.Disk.counts_now (λ a b d ab bd. bd ∙ ab) (c.write_bytes.ensures.fresh told) (c.write_bytes-2.ensures.fresh told)) (c.write_bytes-3.ensures.fresh told)) (c.write_bytes-4.ensures.fresh told)

changed_by : (seen one two three four : List ℕ) (first free : ℕ) → one ≡ with_field 32 first seen → two ≡ with_field 36 free one
    → three ≡ with_field 52 0 two → four ≡ with_field 64 0 three → four ≡ with_field 64 0 (with_field 52 0 (with_field 36 free (with_field 32 first seen)))
changed_by seen one two three four first free one_is two_is three_is four_is =
    four_is
    ∙ ap (λ (l : List ℕ). with_field 64 0 l) three_is
    ∙ ap (λ (l : List ℕ). with_field 64 0 (with_field 52 0 l)) two_is
    ∙ ap (λ (l : List ℕ). with_field 64 0 (with_field 52 0 (with_field 36 free l))) one_is

pub returns-clause-changed : goal.returns-clause-changed
returns-clause-changed g c = λ told.
    changed_by _ _ _ _ _ c.args.first c.args.free
    (field_of 32 c.args.first _ _ _ c.u32_bytes.ensures (c.in_ok-write_bytes.ensures.written told))
    (field_of 36 c.args.free _ _ _ c.u32_bytes-2.ensures (c.in_ok-write_bytes-2.ensures.written told))
    (field_of 52 0 _ _ _ c.u32_bytes-3.ensures (c.in_ok-write_bytes-3.ensures.written told))
    (field_of 64 0 _ _ _ c.u32_bytes-4.ensures (c.in_ok-write_bytes-4.ensures.written told))

pub returns-clause-touched : goal.returns-clause-touched
returns-clause-touched g c = λ m num.
    let two = subst (λ (k : ℕ). is_page_number k m ≡ true) (sym c.write_bytes.ensures.file.2) num in
    let three = subst (λ (k : ℕ). is_page_number k m ≡ true) (sym c.write_bytes-2.ensures.file.2) two in
    let four = subst (λ (k : ℕ). is_page_number k m ≡ true) (sym c.write_bytes-3.ensures.file.2) three in
    again m _ _ _ (c.in_ok-write_bytes-4.ensures.touched m four)
    (again m _ _ _ (c.in_ok-write_bytes-3.ensures.touched m three) (again m _ _ _ (c.in_ok-write_bytes-2.ensures.touched m two) (c.in_ok-write_bytes.ensures.touched m num)))

-- page 1 as it was changed so far has its tag, so each refusal is one of page 1 at the start
pub returns-in_err-write_bytes-2-clause-refused : goal.returns-in_err-write_bytes-2-clause-refused
returns-in_err-write_bytes-2-clause-refused g c =
    let d = g.D.Disk in
    let n = g.E.Entropy in
    let first = c.args.txn.now in
    let before = c.write_bytes.new.txn in
    let after = c.write_bytes-2.new.txn in
    let is : c.from_residual-in_err-write_bytes-2.result ≡ Err c.in_err-write_bytes-2.field-0.0 = search rules in
    rw is (refused_later d.tells (seen_pages first.read first.write (main_of (d.reads first.disk.now)) first.count first.written first.changed.held)
    (seen_pages before.read before.write (main_of (d.reads before.disk.now)) before.count before.written before.changed.held)
    (d.faults first.disk.now) (d.faults before.disk.now) (d.faults after.disk.now) (n.faults first.entropy.now) (n.faults before.entropy.now) (n.faults after.entropy.now) c.in_err-write_bytes-2.field-0.0
    c.write_bytes.ensures.file.2 c.in_ok-write_bytes.ensures.accepted c.write_bytes.ensures.later.0 c.write_bytes.ensures.later.1 c.in_err-write_bytes-2.ensures.refused)

pub returns-in_err-write_bytes-3-clause-refused : goal.returns-in_err-write_bytes-3-clause-refused
returns-in_err-write_bytes-3-clause-refused g c =
    let d = g.D.Disk in
    let n = g.E.Entropy in
    let first = c.args.txn.now in
    let before = c.write_bytes-2.new.txn in
    let after = c.write_bytes-3.new.txn in
    let is : c.from_residual-in_err-write_bytes-3.result ≡ Err c.in_err-write_bytes-3.field-0.0 = search rules in
    rw is (refused_later d.tells (seen_pages first.read first.write (main_of (d.reads first.disk.now)) first.count first.written first.changed.held)
    (seen_pages before.read before.write (main_of (d.reads before.disk.now)) before.count before.written before.changed.held)
    (d.faults first.disk.now) (d.faults before.disk.now) (d.faults after.disk.now) (n.faults first.entropy.now) (n.faults before.entropy.now) (n.faults after.entropy.now) c.in_err-write_bytes-3.field-0.0
    (c.write_bytes-2.ensures.file.2 ∙ c.write_bytes.ensures.file.2) c.in_ok-write_bytes-2.ensures.accepted
    (omega (arith, c.write_bytes.ensures.later.0, c.write_bytes-2.ensures.later.0)) (omega (arith, c.write_bytes.ensures.later.1, c.write_bytes-2.ensures.later.1)) c.in_err-write_bytes-3.ensures.refused)

pub returns-in_err-write_bytes-4-clause-refused : goal.returns-in_err-write_bytes-4-clause-refused
returns-in_err-write_bytes-4-clause-refused g c =
    let d = g.D.Disk in
    let n = g.E.Entropy in
    let first = c.args.txn.now in
    let before = c.write_bytes-3.new.txn in
    let after = c.write_bytes-4.new.txn in
    let is : c.from_residual-in_err-write_bytes-4.result ≡ Err c.in_err-write_bytes-4.field-0.0 = search rules in
    rw is (refused_later d.tells (seen_pages first.read first.write (main_of (d.reads first.disk.now)) first.count first.written first.changed.held)
    (seen_pages before.read before.write (main_of (d.reads before.disk.now)) before.count before.written before.changed.held)
    (d.faults first.disk.now) (d.faults before.disk.now) (d.faults after.disk.now) (n.faults first.entropy.now) (n.faults before.entropy.now) (n.faults after.entropy.now) c.in_err-write_bytes-4.field-0.0
    (c.write_bytes-3.ensures.file.2 ∙ (c.write_bytes-2.ensures.file.2 ∙ c.write_bytes.ensures.file.2)) c.in_ok-write_bytes-3.ensures.accepted
    (omega (arith, c.write_bytes.ensures.later.0, c.write_bytes-2.ensures.later.0, c.write_bytes-3.ensures.later.0)) (omega (arith, c.write_bytes.ensures.later.1, c.write_bytes-2.ensures.later.1, c.write_bytes-3.ensures.later.1)) c.in_err-write_bytes-4.ensures.refused)
