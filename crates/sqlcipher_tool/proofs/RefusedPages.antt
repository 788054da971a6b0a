-- One page more.
use Rattle.std.proofs.Common.{◌≡◌, ◌+◌, ◌-◌, ◌<◌, ◌≤◌, arith, ◌++◌, ℕ, zero, suc, Bool, true, false, List, [], ◌∷◌, filter, append-nil, refl, sym, ap, ◌∙◌, add-one, add-zero, add-suc, append_assoc}
use Rattle.std.specs.Prelude.{slice_get, Option, Some, None, option_to_list}
use Rattle.std.specs.Option.{option_or}
use Rattle.std.proofs.lemmas.List.Elements.{filter-append}
use Rattle.std.proofs.lemmas.List.Concat.{flat_map-append}
use Rattle.db_format.specs.Pages.{Test}
use Rattle.text_lines.specs.Text.{PutsPart}
use Rattle.sqlcipher_tool.specs.Tags.{page_numbers, number_where, numbers_where}
use Rattle.sqlcipher_tool.specs.Text.{tag_line, tag_lines}

one_page : (test : Test) (n : ℕ) (is : Bool) → test n ≡ is → filter test (n ∷ []) ≡ option_to_list (number_where test n)
one_page test n true same = rw same refl
one_page test n false same = rw same refl

pub more_pages : (test : Test) (n : ℕ) → numbers_where test (n + 1) ≡ numbers_where test n ++ option_to_list (number_where test (n + 1))
more_pages test n =
    rw add-one (filter-append test (page_numbers n) (suc n ∷ []) ∙ ap (λ (l : List ℕ). numbers_where test n ++ l) (one_page test (suc n) _ refl))

-- the first of two lists
pub first_of_both : (xs : List ℕ) (last : Option ℕ) → slice_get (xs ++ option_to_list last) 0 ≡ option_or (slice_get xs 0) last
first_of_both [] None = refl
first_of_both [] (Some n) = refl
first_of_both (x ∷ xs) last = refl

-- the lines of one page more
pub tag_lines-append : (xs ys : List ℕ) → tag_lines (xs ++ ys) ≡ tag_lines xs ++ tag_lines ys
tag_lines-append xs ys = flat_map-append tag_line xs ys

-- the pages up to a number are the first of those up to a later one
pub record LaterPages (test : Test) (n m : ℕ) : Type 0 where
  pub others : List ℕ
  pub joined : numbers_where test m ≡ numbers_where test n ++ others

pub later_pages : (test : Test) (n k : ℕ) → LaterPages test n (n + k)
later_pages test n zero = record { others = []; joined = rw add-zero (sym (append-nil (numbers_where test n))) }
later_pages test n (suc k) =
    let earlier = later_pages test n k in
    let more = filter (test) (suc (n + k) ∷ []) in
    record {
      others = earlier.others ++ more;
      joined =
          rw add-suc (filter-append (test) (page_numbers (n + k)) (suc (n + k) ∷ []))
          ∙ ap (λ (l : List ℕ). l ++ more) earlier.joined ∙ append_assoc (numbers_where test n) earlier.others more;
    }

-- the lines of one page more
pub lines_more : (test : Test) (n : ℕ) (before : List ℕ)
    → (before ++ tag_lines (numbers_where test n)) ++ tag_lines (option_to_list (number_where test (n + 1))) ≡ before ++ tag_lines (numbers_where test (n + 1))
lines_more test n before =
    let pages = numbers_where test n in
    let page = option_to_list (number_where test (n + 1)) in
    append_assoc before (tag_lines pages) (tag_lines page)
    ∙ ap (λ (l : List ℕ). before ++ l) (sym (tag_lines-append pages page) ∙ ap tag_lines (sym (more_pages test n)))

-- what was put, and then a part of what follows
pub part_joined : {text before mid after : List ℕ} (first next later : List ℕ) → text ≡ first ++ (next ++ later) → mid ≡ before ++ first
    → PutsPart next mid after → PutsPart text before after
part_joined {text} {before} first next later whole put part = record {
  put = first ++ part.put;
  rest = part.rest ++ later;
  whole =
      whole ∙ ap (λ (l : List ℕ). first ++ (l ++ later)) part.whole
      ∙ ap (λ (l : List ℕ). first ++ l) (append_assoc part.put part.rest later)
      ∙ sym (append_assoc first part.put (part.rest ++ later));
  appended = part.appended ∙ ap (λ (l : List ℕ). l ++ part.put) put ∙ append_assoc before first part.put;
}

-- the lines of the pages up to a number are the first of those up to a later one
later_lines : (test : Test) (n count : ℕ) → n ≤ count
    → (later : List ℕ) × (tag_lines (numbers_where test count) ≡ tag_lines (numbers_where test n) ++ later)
later_lines test n count within =
    let there : n + (count - n) ≡ count = omega arith in
    let more = later_pages test n (count - n) in (
      tag_lines more.others,
      ap (λ (m : ℕ). tag_lines (numbers_where test m)) (sym there) ∙ ap tag_lines more.joined ∙ tag_lines-append (numbers_where test n) more.others,
    )

-- the lines so far are a part of all
pub part_of_lines : (test : Test) (n count : ℕ) → n ≤ count → (before after : List ℕ)
    → after ≡ before ++ tag_lines (numbers_where test n) → PutsPart (tag_lines (numbers_where test count)) before after
part_of_lines test n count within before after put =
    let later = later_lines test n count within in
    record { put = tag_lines (numbers_where test n); rest = later.0; whole = later.1; appended = put }

-- and so are the lines so far and a part of the next page's
pub part_of_next : (test : Test) (n count : ℕ) → n < count → number_where test (n + 1) ≡ Some (n + 1)
    → (before mid after : List ℕ) → mid ≡ before ++ tag_lines (numbers_where test n) → PutsPart (tag_lines ((n + 1) ∷ [])) mid after
    → PutsPart (tag_lines (numbers_where test count)) before after
part_of_next test n count within refused before mid after put part =
    let later = later_lines test (n + 1) count (omega arith) in
    let pages = numbers_where test n in
    let next : tag_lines (numbers_where test (n + 1)) ≡ tag_lines pages ++ tag_lines ((n + 1) ∷ []) =
    ap tag_lines (more_pages test n ∙ ap (λ (o : Option ℕ). pages ++ option_to_list o) refused) ∙ tag_lines-append pages ((n + 1) ∷ []) in
    part_joined (tag_lines pages) (tag_lines ((n + 1) ∷ [])) later.0
    (later.1 ∙ ap (λ (l : List ℕ). l ++ later.0) next ∙ append_assoc (tag_lines pages) (tag_lines ((n + 1) ∷ [])) later.0) put part
