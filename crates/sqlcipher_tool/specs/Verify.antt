-- What `verify` answers: the freelist, the tags of all pages in use, and then the schema and the trees. A walk may answer any
-- defect of the earliest part that has one.
use Rattle.std.specs.Prelude.{ℕ, List, [], ◌∷◌, ◌++◌, map, Result, Ok, Err}
use Rattle.db_format.specs.Pages.{Pages, nothing}
use Rattle.db_format.specs.declared.defect.Defect.{Defect}
use Rattle.btree_model.specs.Finding.{faults, refusals}
use Rattle.btree_model.specs.Freelist.{freelist_walk}
use Rattle.btree_model.specs.Parts.{counts, first_faults, first_refusals, parts}
use Rattle.pager.specs.Opening.{Opened}
use Rattle.pager.specs.declared.opening.OpenError.{OpenError}
use Rattle.sqlcipher_tool.specs.Answer.{Answer, done, refused}
use Rattle.sqlcipher_tool.specs.Opening.{open_answer}
use Rattle.sqlcipher_tool.specs.Plain.{refused_in_use}
use Rattle.sqlcipher_tool.specs.Tags.{tags_of}
use Rattle.sqlcipher_tool.specs.Text.{verify_report}
use Rattle.sqlcipher_tool.specs.declared.status.Refusal.TheVariants.{PageTag, Defect as RefusedDefect}

-- the answers to a job on the pages of a file, where it opens
abbrev pub opened_answers : Result Opened OpenError → (ℕ → List Answer) → List Answer
opened_answers (Ok opened) job = job opened.count
opened_answers (Err error) job = open_answer error ∷ []

-- ---- the parts of the database

-- each of these defects and refused pages
abbrev pub stop_answers : List Defect → List ℕ → List Answer
stop_answers defects pages = map (λ d. refused (RefusedDefect d)) defects ++ map (λ n. refused (PageTag n)) pages

-- these answers, or where there are none those
abbrev pub else_answers : List Answer → List Answer → List Answer
else_answers [] answers = answers
else_answers (first ∷ rest) answers = first ∷ rest

-- the lines of all these pages, or where there are none these answers
abbrev pub tags_or : List ℕ → List Answer → List Answer
tags_or [] answers = answers
tags_or (page ∷ rest) answers = tags_of page rest ∷ []

-- a defect or a refused page of the earliest part that has one, or where none has one this answer
abbrev pub parts_answers : Pages → Answer → List Answer
parts_answers pages answer = else_answers (stop_answers (first_faults (parts pages)) (first_refusals (parts pages))) (answer ∷ [])

-- the schema and the trees
abbrev pub rest_answers : Pages → List Answer
rest_answers pages = parts_answers pages (done (verify_report (counts pages)))

-- the freelist, then all tags, then the rest
abbrev pub pages_answers : Pages → List Answer
pages_answers pages =
    let freelist = freelist_walk pages nothing in
    else_answers (stop_answers (faults freelist) (refusals freelist)) (tags_or (refused_in_use pages) (rest_answers pages))
