use Rattle.std.proofs.Common.{◌++◌, List, ℕ, codes, decimal, sym, ap, ◌∙◌, append_assoc}
use Rattle.sqlcipher_tool.specs.Text.{defect_text}
use Rattle.sqlcipher_tool.proofs.text.defect_text.Goals as goal

pub returns-in-BadCell-clause-text : goal.returns-in-BadCell-clause-text
returns-in-BadCell-clause-text c =
    c.push_number-in-BadCell.ensures.text
    ∙ ap (λ (l : List ℕ). l ++ decimal c.in-BadCell.index) c.push_page-in-BadCell.ensures.text
    ∙ ap (λ (l : List ℕ). codes "page " ++ l) (append_assoc (decimal c.in-BadCell.page) (codes ": bad cell ") (decimal c.in-BadCell.index))
    ∙ ap defect_text (sym c.in-BadCell.is)

pub returns-in-ChildOutOfRange-clause-text : goal.returns-in-ChildOutOfRange-clause-text
returns-in-ChildOutOfRange-clause-text c = c.push_page-in-ChildOutOfRange.ensures.text ∙ ap defect_text (sym c.in-ChildOutOfRange.is)

pub returns-in-PageTwice-clause-text : goal.returns-in-PageTwice-clause-text
returns-in-PageTwice-clause-text c = c.push_page-in-PageTwice.ensures.text ∙ ap defect_text (sym c.in-PageTwice.is)

pub returns-in-ChainShort-clause-text : goal.returns-in-ChainShort-clause-text
returns-in-ChainShort-clause-text c = c.push_page-in-ChainShort.ensures.text ∙ ap defect_text (sym c.in-ChainShort.is)
