-- The answer of `tags`, by the first page that is not accepted.
use Rattle.std.proofs.Common.{◌≡◌, ◌++◌, ℕ, List, [], ◌∷◌, Some, None, refl, sym, ap, ◌∙◌, append-nil}
use Rattle.std.specs.Prelude.{slice_get}
use Rattle.text_lines.specs.Text.{PutsPart}
use Rattle.sqlcipher_tool.specs.Answer.{done}
use Rattle.sqlcipher_tool.specs.declared.status.Refusal.TheVariants.{PageTag}
use Rattle.sqlcipher_tool.specs.declared.status.Status.TheVariants.{Refused}
use Rattle.sqlcipher_tool.specs.Tags.{pages_answer}
use Rattle.sqlcipher_tool.specs.Text.{tag_lines, tags_report}

-- a list without a first is empty
pub none_empty : (pages : List ℕ) → None ≡ slice_get pages 0 → pages ≡ []
none_empty [] none = refl
none_empty (page ∷ rest) none = cc

-- all pages are accepted
pub all_accepted : (count : ℕ) (pages : List ℕ) → None ≡ slice_get pages 0 → pages_answer count pages ≡ done (tags_report count)
all_accepted count pages none = ap (λ (l : List ℕ). pages_answer count l) (none_empty pages none)

-- and no line was printed for one
pub none_printed : (pages before after : List ℕ) → None ≡ slice_get pages 0 → after ≡ before ++ tag_lines pages → after ≡ before
none_printed pages before after none put = put ∙ ap (λ (l : List ℕ). before ++ tag_lines l) (none_empty pages none) ∙ append-nil before

-- this page is the first that is not accepted
pub some_refused : (count : ℕ) (pages : List ℕ) (page : ℕ) → Some page ≡ slice_get pages 0
    → pages_answer count pages ≡ record { status = Refused (PageTag page); text = tag_lines pages; begun = tag_lines pages }
some_refused count [] page first = cc
some_refused count (other ∷ rest) page first =
    let same : page ≡ other = cc in ap (λ (n : ℕ). record { status = Refused (PageTag n); text = tag_lines (other ∷ rest); begun = tag_lines (other ∷ rest) }) (sym same)

-- a part of nothing is nothing
pub empty_part : (put rest : List ℕ) → [] ≡ put ++ rest → put ≡ []
empty_part [] rest whole = refl
empty_part (byte ∷ put) rest whole = cc

-- a part of the lines for pages is a part of the answer
pub part_of_answer : (count : ℕ) (pages before after : List ℕ) → PutsPart (tag_lines pages) before after → PutsPart (pages_answer count pages).text before after
part_of_answer count [] before after part =
    record {
      put = [];
      rest = tags_report count;
      whole = refl;
      appended = part.appended ∙ ap (λ (l : List ℕ). before ++ l) (empty_part part.put part.rest part.whole);
    }
part_of_answer count (page ∷ rest) before after part = part

-- and so it is of what may be printed before a file fails
pub part_of_begun : (count : ℕ) (pages before after : List ℕ) → PutsPart (tag_lines pages) before after
    → PutsPart (pages_answer count pages).begun before after
part_of_begun count [] before after part =
    record {
      put = [];
      rest = tags_report count;
      whole = refl;
      appended = part.appended ∙ ap (λ (l : List ℕ). before ++ l) (empty_part part.put part.rest part.whole);
    }
part_of_begun count (page ∷ rest) before after part = part
