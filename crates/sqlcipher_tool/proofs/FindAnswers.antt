-- What `find` answers, by what its search came to.
use Rattle.std.proofs.Common.{◌≡◌, ◌⊎◌, ⊎_elim, inl, inr, ℕ, ℤ, Bool, true, false, IsTrue, List, [], ◌∷◌, ◌++◌, length, Option, Some, None, Err, refl, sym, ap, ◌∙◌, subst, arith, append-nil, append_assoc}
use Rattle.std.specs.List.{Contains}
use mir.Val.{SFits, of_z, to_z}
use mir.Syntax.{w64}
use Rattle.std.proofs.lemmas.Int.{to_z-of_z}
use Rattle.db_format.specs.Pages.{Pages, nothing}
use Rattle.db_format.specs.declared.defect.Defect.{Defect as FormatDefect}
use Rattle.btree_page.specs.declared.kind.Family.TheVariants.{Table as TableFamily}
use Rattle.btree_model.specs.Finding.{Finding, place, leaf, entry, key, fault, refused as refused_page, entries, faults, refusals, is_sound}
use Rattle.btree_model.specs.Records.{tree_part}
use Rattle.btree_model.specs.Schema.{schema_part}
use Rattle.btree_walk.specs.Causes.{IsAmong}
use Rattle.btree_walk.specs.declared.error.WalkError.{WalkError}
use Rattle.btree_walk.specs.declared.error.WalkError.TheVariants.{Defect as Found, Source, OutOfMemory as MemoryEnds}
use Rattle.pager.specs.Causes.{MayRefuse}
use Rattle.pager.specs.declared.fill.PageError.{PageError}
use Rattle.pager.specs.declared.fill.PageError.TheVariants.{OutOfRange, TagRefused, DiskFault as PageFault, EntropyFault as DrawFault, AllPinned}
use Rattle.rowid_find.specs.Causes.{IfWalk}
use Rattle.rowid_find.specs.declared.error.FindError.{FindError}
use Rattle.rowid_find.specs.declared.error.FindError.TheVariants.{Walk}
use Rattle.rowid_find.specs.Found.{found_rows}
use Rattle.rowid_find.specs.Lines.{count_line, found_report, found_rows_text}
use Rattle.rowid_find.specs.Reach.{reach_all}
use Rattle.rowid_find.specs.Search.{IsAllFound, IsSearchCut, IsCutOff}
use Rattle.rowid_find.specs.Table.{IsSearchedSchema, IsTableRead, IsTableStop, Table, at_root, unaccepted, no_kind, schema_rows, table_of}
use Rattle.rowid_find.proofs.SearchSteps.{text_both}
use Rattle.rowid_find.proofs.SoundFound.{sound_reach}
use Rattle.schema_map.proofs.SoundParts.{sound_faults, sound_refusals}
use Rattle.text_lines.specs.Text.{PutsPart}
use Rattle.sqlcipher_tool.specs.Answer.{Answer, IsFault, Puts, PutsLine, done, is_defect_status, refused}
use Rattle.sqlcipher_tool.specs.Find.{before_stop, ended_answer, find_answers, first_stop, met_answer, table_answer}
use Rattle.sqlcipher_tool.specs.Promises.{AnswersOne, PutsSo}
use Rattle.sqlcipher_tool.specs.Stop.{stop_answer}
use Rattle.sqlcipher_tool.specs.Text.{refusal_line}
use Rattle.sqlcipher_tool.specs.Verify.{else_answers, stop_answers}
use Rattle.sqlcipher_tool.specs.Walked.{walk_stop}
use Rattle.sqlcipher_tool.specs.declared.opening.Stop.{Stop}
use Rattle.sqlcipher_tool.specs.declared.opening.Stop.TheVariants.{DiskFault as StopDisk, OutOfMemory as StopMemory}
use Rattle.sqlcipher_tool.specs.declared.status.Refusal.{Refusal}
use Rattle.sqlcipher_tool.specs.declared.status.Refusal.TheVariants.{PageTag, Defect as RefusedDefect}
use Rattle.sqlcipher_tool.specs.declared.status.Status.{Status}
use Rattle.sqlcipher_tool.specs.declared.status.Status.TheVariants.{Done, Refused, DiskFault, OutputFault, OutOfMemory}
use Rattle.sqlcipher_tool.proofs.Verified.{among_pages, among_stops, some_is}

-- ---- what is passed to a call

-- numbers that are passed to a call are the same there
pub passed : {X : Type 0} (f : ℤ → ℤ → X) (a b : ℤ) → SFits w64 a → SFits w64 b → f (to_z w64 (of_z w64 a)) (to_z w64 (of_z w64 b)) ≡ f a b
passed f a b p q = ap (λ (z : ℤ). f z (to_z w64 (of_z w64 b))) (to_z-of_z w64 a p) ∙ ap (λ (z : ℤ). f a z) (to_z-of_z w64 b q)

-- ---- the first findings, and what comes next

abbrev text_of : List Finding → List ℕ
text_of found = found_rows_text (entries found)

more_before : (found more : List Finding) → is_sound found ≡ true → before_stop (found ++ more) ≡ found ++ before_stop more
more_before [] more sound = refl
more_before (place n ∷ rest) more sound = ap (λ (l : List Finding). place n ∷ l) (more_before rest more sound)
more_before (leaf n ∷ rest) more sound = ap (λ (l : List Finding). leaf n ∷ l) (more_before rest more sound)
more_before (entry row ∷ rest) more sound = ap (λ (l : List Finding). entry row ∷ l) (more_before rest more sound)
more_before (key k ∷ rest) more sound = ap (λ (l : List Finding). key k ∷ l) (more_before rest more sound)
more_before (fault d ∷ rest) more sound = cc
more_before (refused_page n ∷ rest) more sound = cc

more_stop : (found more : List Finding) → is_sound found ≡ true → first_stop (found ++ more) ≡ first_stop more
more_stop [] more sound = refl
more_stop (place n ∷ rest) more sound = more_stop rest more sound
more_stop (leaf n ∷ rest) more sound = more_stop rest more sound
more_stop (entry row ∷ rest) more sound = more_stop rest more sound
more_stop (key k ∷ rest) more sound = more_stop rest more sound
more_stop (fault d ∷ rest) more sound = cc
more_stop (refused_page n ∷ rest) more sound = cc

met_next : (all found more : List Finding) → all ≡ found ++ more → is_sound found ≡ true → met_answer all ≡ ended_answer (found ++ before_stop more) (first_stop more)
met_next all found more whole sound =
    ap met_answer whole
    ∙ ap (λ (l : List Finding). ended_answer l (first_stop (found ++ more))) (more_before found more sound)
    ∙ ap (ended_answer (found ++ before_stop more)) (more_stop found more sound)

met_done : (all : List Finding) → is_sound all ≡ true → met_answer all ≡ done (found_report (entries all))
met_done all sound = met_next all all [] (sym (append-nil all)) sound ∙ ap (λ (l : List Finding). ended_answer l None) (append-nil all)

met_fault : (all found more later : List Finding) (d : FormatDefect) → all ≡ found ++ more → is_sound found ≡ true → more ≡ fault d ∷ later
    → met_answer all ≡ ended_answer found (Some (RefusedDefect d))
met_fault all found more later d whole sound next =
    met_next all found more whole sound ∙ ap (λ (m : List Finding). ended_answer (found ++ before_stop m) (first_stop m)) next
    ∙ ap (λ (l : List Finding). ended_answer l (Some (RefusedDefect d))) (append-nil found)

met_refused : (all found more later : List Finding) (n : ℕ) → all ≡ found ++ more → is_sound found ≡ true → more ≡ refused_page n ∷ later
    → met_answer all ≡ ended_answer found (Some (PageTag n))
met_refused all found more later n whole sound next =
    met_next all found more whole sound ∙ ap (λ (m : List Finding). ended_answer (found ++ before_stop m) (first_stop m)) next
    ∙ ap (λ (l : List Finding). ended_answer l (Some (PageTag n))) (append-nil found)

-- ---- a part of what is due

longer_part : (text more longer before after : List ℕ) → longer ≡ text ++ more → PutsPart text before after → PutsPart longer before after
longer_part text more longer before after is part =
    record {
      put = part.put;
      rest = part.rest ++ more;
      whole = is ∙ ap (λ (l : List ℕ). l ++ more) part.whole ∙ append_assoc part.put part.rest more;
      appended = part.appended;
    }

report_part : (found rest : List Finding) (last : List ℕ) → text_of (found ++ rest) ++ last ≡ text_of found ++ (text_of rest ++ last)
report_part found rest last = ap (λ (l : List ℕ). l ++ last) (sym (text_both found rest)) ∙ append_assoc (text_of found) (text_of rest) last

ended_text : (found rest : List Finding) (stop : Option Refusal) (before after : List ℕ) → PutsPart (text_of found) before after
    → PutsPart (ended_answer (found ++ rest) stop).text before after
ended_text found rest None before after part =
    longer_part (text_of found) (text_of rest ++ count_line (length (entries (found ++ rest)))) _ before after (report_part found rest (count_line (length (entries (found ++ rest))))) part
ended_text found rest (Some refusal) before after part =
    longer_part (text_of found) (text_of rest ++ refusal_line refusal) _ before after (report_part found rest (refusal_line refusal)) part

ended_begun : (found rest : List Finding) (stop : Option Refusal) (before after : List ℕ) → PutsPart (text_of found) before after
    → PutsPart (ended_answer (found ++ rest) stop).begun before after
ended_begun found rest None before after part =
    longer_part (text_of found) (text_of rest ++ count_line (length (entries (found ++ rest)))) _ before after (report_part found rest (count_line (length (entries (found ++ rest))))) part
ended_begun found rest (Some refusal) before after part =
    longer_part (text_of found) (text_of rest) _ before after (sym (text_both found rest)) part

met_text : (all found more : List Finding) (before after : List ℕ) → all ≡ found ++ more → is_sound found ≡ true → PutsPart (text_of found) before after
    → PutsPart (met_answer all).text before after
met_text all found more before after whole sound part =
    subst (λ (a : Answer). PutsPart a.text before after) (sym (met_next all found more whole sound)) (ended_text found (before_stop more) (first_stop more) before after part)

met_begun : (all found more : List Finding) (before after : List ℕ) → all ≡ found ++ more → is_sound found ≡ true → PutsPart (text_of found) before after
    → PutsPart (met_answer all).begun before after
met_begun all found more before after whole sound part =
    subst (λ (a : Answer). PutsPart a.begun before after) (sym (met_next all found more whole sound)) (ended_begun found (before_stop more) (first_stop more) before after part)

whole_part : (text before after : List ℕ) → after ≡ before ++ text → PutsPart text before after
whole_part text before after put = record { put = text; rest = []; whole = sym (append-nil text); appended = put }

-- ---- what the search came to

alone : (answer : Answer) → Contains (answer ∷ []) answer
alone answer = (0, omega arith, refl)

pub found_one : (tells : Bool) (all : List Finding) (before after : List ℕ) (reads later rows : ℕ) → IsAllFound tells all before after reads later rows
    → AnswersOne (met_answer all ∷ []) Done tells before after
found_one tells all before after reads later rows found =
    let is = met_done all found.sound in
    record {
      answer = met_answer all;
      is_due = alone (met_answer all);
      answered = inl (sym (ap (λ (a : Answer). a.status) is));
      puts = λ told. found.text told ∙ ap (λ (a : Answer). before ++ a.text) (sym is);
    }

-- the sink failed
pub cut_one : (tells : Bool) (all : List Finding) (before after : List ℕ) (reads later : ℕ) → IsCutOff tells all before after reads later
    → AnswersOne (met_answer all ∷ []) OutputFault tells before after
cut_one tells all before after reads later cut =
    record { answer = met_answer all; is_due = alone (met_answer all); answered = inr tt; puts = λ told. by_end cut.ends (moved told) }
  where
    moved : IsTrue tells → PutsPart (text_of cut.found ++ cut.last) before after
    moved told = let part = cut.text told in record { put = part.moves.put; rest = part.lost; whole = part.moves.whole; appended = part.moves.given }

    by_end : (cut.last ≡ []) ⊎ ((cut.more ≡ []) × (cut.last ≡ count_line (length (entries cut.found)))) → PutsPart (text_of cut.found ++ cut.last) before after
        → PutsPart (met_answer all).text before after
    by_end (inl none) part =
        met_text all cut.found cut.more before after cut.whole cut.sound
        (subst (λ (l : List ℕ). PutsPart l before after) (ap (λ (l : List ℕ). text_of cut.found ++ l) none ∙ append-nil (text_of cut.found)) part)
    by_end (inr ends) part =
        let same : all ≡ cut.found = cut.whole ∙ ap (λ (l : List Finding). cut.found ++ l) ends.0 ∙ append-nil cut.found in
        let is : met_answer all ≡ done (found_report (entries cut.found)) = ap met_answer same ∙ met_done cut.found cut.sound in
        subst (λ (a : Answer). PutsPart a.text before after) (sym is)
        (subst (λ (l : List ℕ). PutsPart (text_of cut.found ++ l) before after) ends.1 part)

-- the line of a stop was put behind the rows
stopped_puts : (status : Status) (refusal : Refusal) (rows before mid after : List ℕ) → (status ≡ Refused refusal) ⊎ (status ≡ OutputFault) → mid ≡ before ++ rows
    → Puts status (refusal_line refusal) mid after → (begun : List ℕ)
    → PutsSo status (record { status = Refused refusal; text = rows ++ refusal_line refusal; begun = begun }) before after
stopped_puts status refusal rows before mid after is rows_put put begun =
    ⊎_elim (λ (same : status ≡ Refused refusal).
    subst (λ (s : Status). PutsSo s (record { status = Refused refusal; text = rows ++ refusal_line refusal; begun = begun }) before after) (sym same)
    (let line : after ≡ mid ++ refusal_line refusal = subst (λ (s : Status). Puts s (refusal_line refusal) mid after) same put in
    line ∙ ap (λ (l : List ℕ). l ++ refusal_line refusal) rows_put ∙ append_assoc before rows (refusal_line refusal)))
    (λ (same : status ≡ OutputFault).
    subst (λ (s : Status). PutsSo s (record { status = Refused refusal; text = rows ++ refusal_line refusal; begun = begun }) before after) (sym same)
    (let part : PutsPart (refusal_line refusal) mid after = subst (λ (s : Status). Puts s (refusal_line refusal) mid after) same put in
    record {
      put = rows ++ part.put;
      rest = part.rest;
      whole = ap (λ (l : List ℕ). rows ++ l) part.whole ∙ sym (append_assoc rows part.put part.rest);
      appended = part.appended ∙ ap (λ (l : List ℕ). l ++ part.put) rows_put ∙ append_assoc before rows part.put;
    })) is

ended_one : (all found : List Finding) (refusal : Refusal) (status : Status) (tells : Bool) (before mid after : List ℕ) → met_answer all ≡ ended_answer found (Some refusal)
    → (status ≡ Refused refusal) ⊎ (status ≡ OutputFault) → (IsTrue tells → mid ≡ before ++ text_of found) → (IsTrue tells → Puts status (refusal_line refusal) mid after)
    → AnswersOne (met_answer all ∷ []) status tells before after
ended_one all found refusal status tells before mid after due is rows put =
    record {
      answer = met_answer all;
      is_due = alone (met_answer all);
      answered = ⊎_elim (λ (same : status ≡ Refused refusal). inl (same ∙ sym (ap (λ (a : Answer). a.status) due)))
          (λ (same : status ≡ OutputFault). inr (subst IsFault (sym same) tt)) is;
      puts = λ told.
          subst (λ (a : Answer). PutsSo status a before after) (sym due) (stopped_puts status refusal (text_of found) before mid after is (rows told) (put told) (text_of found));
    }

-- something outside failed, or memory ran out
outside_one : (all found more : List Finding) (status failed : Status) (tells : Bool) (before mid after : List ℕ) → all ≡ found ++ more → is_sound found ≡ true
    → (failed ≡ DiskFault) ⊎ (failed ≡ OutOfMemory) → (status ≡ failed) × (after ≡ mid) → (IsTrue tells → mid ≡ before ++ text_of found)
    → AnswersOne (met_answer all ∷ []) status tells before after
outside_one all found more status failed tells before mid after whole sound kind is rows =
    let part : IsTrue tells → PutsPart (met_answer all).begun before after =
    λ told. met_begun all found more before after whole sound (whole_part (text_of found) before after (is.1 ∙ rows told)) in
    subst (λ (s : Status). AnswersOne (met_answer all ∷ []) s tells before after) (sym is.0)
    (⊎_elim (λ (same : failed ≡ DiskFault). subst (λ (s : Status). AnswersOne (met_answer all ∷ []) s tells before after) (sym same)
    (record { answer = met_answer all; is_due = alone (met_answer all); answered = inr tt; puts = part }))
    (λ (same : failed ≡ OutOfMemory). subst (λ (s : Status). AnswersOne (met_answer all ∷ []) s tells before after) (sym same)
    (record { answer = met_answer all; is_due = alone (met_answer all); answered = inr tt; puts = part })) kind)

stopped_by : (told_disk : Bool) (pages : Pages) (all : List Finding) (error : WalkError PageError) (status : Status) (tells : Bool) (before mid after : List ℕ) (reads later : ℕ)
    → IsTrue told_disk → IsSearchCut (MayRefuse told_disk) pages tells all before mid reads later error
    → ((answer : Answer) → stop_answer (walk_stop error) ≡ Some answer → (status ≡ answer.status) ⊎ (status ≡ OutputFault))
    → ((answer : Answer) → stop_answer (walk_stop error) ≡ Some answer → IsTrue tells → Puts status answer.text mid after)
    → (walk_stop error ≡ StopDisk → (status ≡ DiskFault) × (after ≡ mid)) → (walk_stop error ≡ StopMemory → (status ≡ OutOfMemory) × (after ≡ mid))
    → AnswersOne (met_answer all ∷ []) status tells before after
stopped_by told_disk pages all (Found d) status tells before mid after reads later told cut is text disk memory =
    ended_one all cut.found (RefusedDefect d) status tells before mid after (met_fault all cut.found cut.more cut.cause.0 d cut.whole cut.sound cut.cause.1)
    (is (refused (RefusedDefect d)) refl) cut.text (text (refused (RefusedDefect d)) refl)
stopped_by told_disk pages all (Source (TagRefused page)) status tells before mid after reads later told cut is text disk memory =
    let next = cut.cause.next (cut.cause.refuses_it.2 told) in
    ended_one all cut.found (PageTag page) status tells before mid after
    (met_refused all cut.found cut.more cut.cause.later cut.cause.page cut.whole cut.sound next ∙ ap (λ (n : ℕ). ended_answer cut.found (Some (PageTag n))) (sym cut.cause.refuses_it.1))
    (is (refused (PageTag page)) refl) cut.text (text (refused (PageTag page)) refl)
stopped_by told_disk pages all (Source OutOfRange) status tells before mid after reads later told cut is text disk memory =
    outside_one all cut.found cut.more status OutOfMemory tells before mid after cut.whole cut.sound (inr refl) (memory refl) cut.text
stopped_by told_disk pages all (Source PageFault) status tells before mid after reads later told cut is text disk memory =
    outside_one all cut.found cut.more status DiskFault tells before mid after cut.whole cut.sound (inl refl) (disk refl) cut.text
stopped_by told_disk pages all (Source DrawFault) status tells before mid after reads later told cut is text disk memory =
    outside_one all cut.found cut.more status OutOfMemory tells before mid after cut.whole cut.sound (inr refl) (memory refl) cut.text
stopped_by told_disk pages all (Source AllPinned) status tells before mid after reads later told cut is text disk memory =
    outside_one all cut.found cut.more status OutOfMemory tells before mid after cut.whole cut.sound (inr refl) (memory refl) cut.text
stopped_by told_disk pages all MemoryEnds status tells before mid after reads later told cut is text disk memory =
    outside_one all cut.found cut.more status OutOfMemory tells before mid after cut.whole cut.sound (inr refl) (memory refl) cut.text

pub stopped_one : (told_disk : Bool) (pages : Pages) (all : List Finding) (error : WalkError PageError) (stop : Stop) (status : Status) (tells : Bool) (before mid after : List ℕ) (reads later : ℕ)
    → IsTrue told_disk → stop ≡ walk_stop error → IsSearchCut (MayRefuse told_disk) pages tells all before mid reads later error
    → ((answer : Answer) → stop_answer stop ≡ Some answer → (status ≡ answer.status) ⊎ (status ≡ OutputFault))
    → ((answer : Answer) → stop_answer stop ≡ Some answer → IsTrue tells → Puts status answer.text mid after)
    → (stop ≡ StopDisk → (status ≡ DiskFault) × (after ≡ mid)) → (stop ≡ StopMemory → (status ≡ OutOfMemory) × (after ≡ mid))
    → AnswersOne (met_answer all ∷ []) status tells before after
stopped_one told_disk pages all error stop status tells before mid after reads later told same cut is text disk memory =
    stopped_by told_disk pages all error status tells before mid after reads later told cut
    (λ answer h. is answer (ap stop_answer same ∙ h)) (λ answer h. text answer (ap stop_answer same ∙ h)) (λ h. disk (same ∙ h)) (λ h. memory (same ∙ h))

-- ---- the schema, and the table of the name

sound_else : (pages : Pages) (name : List ℕ) (low high : ℤ) → is_sound (schema_part pages nothing) ≡ true
    → find_answers pages name low high ≡ table_answer pages low high (table_of pages name (schema_rows pages)) ∷ []
sound_else pages name low high sound =
    let schema = schema_part pages nothing in
    let last = table_answer pages low high (table_of pages name (schema_rows pages)) ∷ [] in
    ap (λ (l : List FormatDefect). else_answers (stop_answers l (refusals schema)) last) (sound_faults schema sound)
    ∙ ap (λ (l : List ℕ). else_answers (stop_answers [] l) last) (sound_refusals schema sound)

-- a table that was found, or none
pub table_due : (pages : Pages) (name : List ℕ) (low high : ℤ) (found : Table) → is_sound (schema_part pages nothing) ≡ true → table_of pages name (schema_rows pages) ≡ found
    → find_answers pages name low high ≡ table_answer pages low high found ∷ []
table_due pages name low high found sound is = sound_else pages name low high sound ∙ ap (λ (t : Table). table_answer pages low high t ∷ []) is

-- Done alone, with the rows of the range
pub find_done : (pages : Pages) (name : List ℕ) (root : ℕ) (low high : ℤ) → is_sound (schema_part pages nothing) ≡ true → table_of pages name (schema_rows pages) ≡ at_root root
    → is_sound (tree_part pages TableFamily nothing root) ≡ true → find_answers pages name low high ≡ done (found_report (found_rows pages root low high)) ∷ []
find_done pages name root low high schema table tree =
    let rows = sound_reach pages root low high tree in
    table_due pages name low high (at_root root) schema table
    ∙ ap (λ (a : Answer). a ∷ []) (met_done (reach_all pages low high root) rows.sound ∙ ap (λ l. done (found_report l)) rows.are)

one_last : (x y : Answer) (xs : List Answer) → xs ≡ x ∷ [] → x ≡ y → Contains xs y
one_last x y xs is same = subst (λ (l : List Answer). Contains l y) (sym (is ∙ ap (λ (a : Answer). a ∷ []) same)) (alone y)

else_first : (xs ys : List Answer) (answer : Answer) → Contains xs answer → Contains (else_answers xs ys) answer
else_first [] ys answer h = absurd (omega (arith, h.1))
else_first (x ∷ xs) ys answer h = h

-- why there was no search
table_stop_due : (told_disk : Bool) (pages : Pages) (name : List ℕ) (low high : ℤ) (error : WalkError PageError) → IsTrue told_disk
    → is_sound (schema_part pages nothing) ≡ true → IsTableStop (MayRefuse told_disk) pages (table_of pages name (schema_rows pages)) error
    → (answer : Answer) → stop_answer (walk_stop error) ≡ Some answer → Contains (find_answers pages name low high) answer
table_stop_due told_disk pages name low high (Found d) told sound stop answer same =
    one_last _ answer _ (table_due pages name low high (no_kind stop.0) sound stop.1)
    (ap (λ (e : FormatDefect). refused (RefusedDefect e)) (sym stop.2) ∙ some_is (refused (RefusedDefect d)) answer same)
table_stop_due told_disk pages name low high (Source (TagRefused page)) told sound stop answer same =
    one_last _ answer _ (table_due pages name low high (unaccepted stop.page) sound (stop.listed (stop.refused.2 told)))
    (ap (λ (n : ℕ). refused (PageTag n)) (sym stop.refused.1) ∙ some_is (refused (PageTag page)) answer same)
table_stop_due told_disk pages name low high (Source OutOfRange) told sound stop answer same = cc
table_stop_due told_disk pages name low high (Source PageFault) told sound stop answer same = cc
table_stop_due told_disk pages name low high (Source DrawFault) told sound stop answer same = cc
table_stop_due told_disk pages name low high (Source AllPinned) told sound stop answer same = cc
table_stop_due told_disk pages name low high MemoryEnds told sound stop answer same = cc

schema_stop_due : (told_disk : Bool) (pages : Pages) (name : List ℕ) (low high : ℤ) (error : WalkError PageError) → IsTrue told_disk
    → IsAmong (MayRefuse told_disk) pages (schema_part pages nothing) error
    → (answer : Answer) → stop_answer (walk_stop error) ≡ Some answer → Contains (find_answers pages name low high) answer
schema_stop_due told_disk pages name low high (Found d) told among answer same =
    let schema = schema_part pages nothing in
    subst (λ (a : Answer). Contains (find_answers pages name low high) a) (some_is (refused (RefusedDefect d)) answer same)
    (else_first (stop_answers (faults schema) (refusals schema)) (table_answer pages low high (table_of pages name (schema_rows pages)) ∷ []) (refused (RefusedDefect d))
    (among_stops (faults schema) (refusals schema) d among))
schema_stop_due told_disk pages name low high (Source (TagRefused page)) told among answer same =
    let schema = schema_part pages nothing in
    subst (λ (a : Answer). Contains (find_answers pages name low high) a) (some_is (refused (PageTag page)) answer same)
    (else_first (stop_answers (faults schema) (refusals schema)) (table_answer pages low high (table_of pages name (schema_rows pages)) ∷ []) (refused (PageTag page))
    (among_pages (faults schema) (refusals schema) page
    (subst (λ (n : ℕ). Contains (refusals schema) n) (sym among.refused.1) (among.listed (among.refused.2 told)))))
schema_stop_due told_disk pages name low high (Source OutOfRange) told among answer same = cc
schema_stop_due told_disk pages name low high (Source PageFault) told among answer same = cc
schema_stop_due told_disk pages name low high (Source DrawFault) told among answer same = cc
schema_stop_due told_disk pages name low high (Source AllPinned) told among answer same = cc
schema_stop_due told_disk pages name low high MemoryEnds told among answer same = cc

pub unread_due : (told_disk : Bool) (pages : Pages) (name : List ℕ) (low high : ℤ) (error : WalkError PageError) (stop : Stop) → IsTrue told_disk → stop ≡ walk_stop error
    → IsTableRead (MayRefuse told_disk) pages name (Err error) → (answer : Answer) → stop_answer stop ≡ Some answer → Contains (find_answers pages name low high) answer
unread_due told_disk pages name low high error stop told same read answer is =
    ⊎_elim (λ (among : IsAmong (MayRefuse told_disk) pages (schema_part pages nothing) error). schema_stop_due told_disk pages name low high error told among answer (sym (ap stop_answer same) ∙ is))
    (λ (searched : IsSearchedSchema (MayRefuse told_disk) pages name (Err error)).
    table_stop_due told_disk pages name low high error told searched.sound searched.found answer (sym (ap stop_answer same) ∙ is)) read

-- ---- the line of a refusal, whatever the disk tells

no_line : (status other : Status) (before after : List ℕ) → status ≡ other → PutsLine other before after → PutsLine status before after
no_line status other before after is put = subst (λ (s : Status). PutsLine s before after) (sym is) put

line_by : (error : WalkError PageError) (status : Status) (before after : List ℕ) → is_defect_status status ≡ false
    → ((answer : Answer) → stop_answer (walk_stop error) ≡ Some answer → (status ≡ answer.status) ⊎ (status ≡ OutputFault))
    → (walk_stop error ≡ StopDisk → status ≡ DiskFault) → (walk_stop error ≡ StopMemory → status ≡ OutOfMemory) → PutsLine status before after
line_by (Found d) status before after none is disk memory =
    ⊎_elim (λ (same : status ≡ Refused (RefusedDefect d)). let no : true ≡ false = sym (ap is_defect_status same) ∙ none in cc)
    (λ (same : status ≡ OutputFault). no_line status OutputFault before after same (λ line h. cc)) (is (refused (RefusedDefect d)) refl)
line_by (Source (TagRefused page)) status before after none is disk memory =
    ⊎_elim (λ (same : status ≡ Refused (PageTag page)). no_line status (Refused (PageTag page)) before after same (λ line h. cc))
    (λ (same : status ≡ OutputFault). no_line status OutputFault before after same (λ line h. cc)) (is (refused (PageTag page)) refl)
line_by (Source OutOfRange) status before after none is disk memory = no_line status OutOfMemory before after (memory refl) (λ line h. cc)
line_by (Source PageFault) status before after none is disk memory = no_line status DiskFault before after (disk refl) (λ line h. cc)
line_by (Source DrawFault) status before after none is disk memory = no_line status OutOfMemory before after (memory refl) (λ line h. cc)
line_by (Source AllPinned) status before after none is disk memory = no_line status OutOfMemory before after (memory refl) (λ line h. cc)
line_by MemoryEnds status before after none is disk memory = no_line status OutOfMemory before after (memory refl) (λ line h. cc)

pub line_one : (error : WalkError PageError) (stop : Stop) (status : Status) (before after : List ℕ) → stop ≡ walk_stop error → is_defect_status status ≡ false
    → ((answer : Answer) → stop_answer stop ≡ Some answer → (status ≡ answer.status) ⊎ (status ≡ OutputFault))
    → (stop ≡ StopDisk → status ≡ DiskFault) → (stop ≡ StopMemory → status ≡ OutOfMemory) → PutsLine status before after
line_one error stop status before after same none is disk memory =
    line_by error status before after none (λ answer h. is answer (ap stop_answer same ∙ h)) (λ h. disk (same ∙ h)) (λ h. memory (same ∙ h))

-- what holds of an error of the walk holds of the walk's
pub of_walk : (P : WalkError PageError → Type 0) (stopped : FindError PageError) (error : WalkError PageError) → stopped ≡ Walk error → IfWalk P stopped → P error
of_walk P stopped error is holds = subst (IfWalk P) is holds
