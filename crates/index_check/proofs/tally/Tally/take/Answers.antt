use Rattle.std.proofs.Common.{◌≡◌, ◌<◌, ◌++◌, ◌∷◌, ◌||◌, [], ℕ, ℤ, List, Option, Some, true, false, length, slice_index_or, arith, rules, ap, sym, subst, ◌∙◌}
use Rattle.std.specs.Prelude.{filter}
use Rattle.std.specs.Int.{w64}
use mir.Val.{SFits, to_z, of_z}
use Rattle.std.proofs.lemmas.Int.{to_z-of_z}
use Rattle.std.proofs.lemmas.List.{length-append}
use Rattle.db_format.specs.Seen.{marked}
use Rattle.index_check.specs.Agree.{has_entry, has_row, is_of, nameless, strangers}
use Rattle.index_check.specs.Checked.{AreCounted}
use Rattle.index_check.specs.Window.{covers, is_within}
use Rattle.index_check.proofs.RowLemmas.{entry_on, named_on, passed_more}
use Rattle.index_check.proofs.tally.Tally.take.Goals as goal

pub returns-then-is_within-clause-tally : goal.returns-then-is_within-clause-tally
returns-then-is_within-clause-tally c owners is =
    let rows : List ℤ = c.args.window.now.rowids.items in
    let rowid : ℤ = c.in-Some.rowid in
    let fits : SFits w64 c.in-Some.rowid = search rules in
    let back : to_z w64 (of_z w64 c.in-Some.rowid) ≡ c.in-Some.rowid = to_z-of_z w64 c.in-Some.rowid fits in
    let stranger : has_row rows (Some rowid) ≡ false =
    ap (λ (z : ℤ). has_row rows (Some z)) (sym back) ∙ ap (λ (l : List ℤ). has_row l (Some (to_z w64 (of_z w64 c.in-Some.rowid)))) (sym c.as_slice.ensures.value)
    ∙ sym c.meet.ensures.row ∙ c.if-meet.false in
    let over : covers c.args.window.now rowid ≡ true =
    ap (λ (h : Option ℤ). is_within c.args.window.now.above h rowid) (sym c.requires.upto) ∙ ap (is_within c.args.window.now.above c.args.upto) (sym back)
    ∙ sym c.is_within.ensures ∙ c.if-is_within.true in
    let marks : (k : ℕ) (d : ℤ) → k < length rows → marked c.meet.new.met k ≡ (is_of (slice_index_or rows k d) (Some (to_z w64 (of_z w64 c.in-Some.rowid))) || marked c.args.self.now.met k) =
    subst (λ (l : List ℤ). (k : ℕ) (d : ℤ) → k < length l → marked c.meet.new.met k ≡ (is_of (slice_index_or l k d) (Some (to_z w64 (of_z w64 c.in-Some.rowid))) || marked c.args.self.now.met k))
    c.as_slice.ensures.value c.meet.ensures.marks in
    record {
      entries_are = omega (arith, is.entries_are, length-append owners (c.args.owner ∷ []));
      nameless_are = is.nameless_are ∙ ap length (sym (ap (λ (o : Option ℤ). nameless (owners ++ o ∷ [])) c.in-Some.is ∙ named_on owners rowid));
      strangers_are = subst (λ (l : List ℤ). AreCounted l c.add.new.self)
          (ap (λ (z : ℤ). filter (covers c.args.window.now) (strangers rows owners) ++ z ∷ []) back
          ∙ sym (ap (λ (o : Option ℤ). filter (covers c.args.window.now) (strangers rows (owners ++ o ∷ []))) c.in-Some.is ∙ passed_more (covers c.args.window.now) rows owners rowid stranger over))
          (c.add.ensures.counted (filter (covers c.args.window.now) (strangers rows owners)) is.strangers_are);
      met_are = λ k d l.
          marks k d l
          ∙ ap (λ (z : ℤ). is_of (slice_index_or rows k d) (Some z) || marked c.args.self.now.met k) back
          ∙ ap (λ b. is_of (slice_index_or rows k d) (Some rowid) || b) (is.met_are k d l)
          ∙ sym (ap (λ (o : Option ℤ). has_entry (owners ++ o ∷ []) (slice_index_or rows k d)) c.in-Some.is ∙ entry_on owners (Some rowid) (slice_index_or rows k d));
    }
