-- The lines of a tree, entry by entry.
use Rattle.std.proofs.Common.{◌≡◌, ℕ, ◌+◌, Bool, List, [], ◌∷◌, ◌++◌, Some, None, length, unwrap_or, refl, sym, ap, subst, ◌∙◌, append_assoc}
use Rattle.std.specs.Prelude.{IsTrue}
use Rattle.std.specs.List.{flat_map}
use Rattle.std.proofs.lemmas.List.{append-nil, length-append}
use Rattle.std.proofs.lemmas.List.Concat.{flat_map-append}
use Rattle.db_format.specs.Pages.{Pages, Test, nothing}
use Rattle.db_format.specs.Record.{columns}
use Rattle.db_format.specs.Value.{Datum}
use Rattle.btree_model.specs.Finding.{Row, entries}
use Rattle.btree_model.specs.Tree.{root_family, tree_walk}
use Rattle.btree_walk.specs.declared.cursor.Cursor.{Cursor}
use Rattle.btree_walk.specs.Cursor.{IsCursorAt, IsCursorMade, IsNext, walked}
use Rattle.btree_walk.proofs.CursorLemmas.{at_made}
use Rattle.row_text.specs.Lines.{entry_line}
use Rattle.row_text.specs.Out.{Moves, MovesPart}
use Rattle.row_text.specs.Lines.{row_text}
use Rattle.schema_map.specs.Alone.{tree_rows}
use Rattle.row_text.proofs.Moving.{cut, restated, restated_part, then, then_part, waits}

-- the cursor gave these entries of the tree, and their lines are moved
pub record IsSoFar (pages : Pages) (root : ℕ) (cursor : Cursor) (seen : Test) (rows : ℕ) (told : Bool) (before waiting after left : List ℕ) : Type 0 where
  pub given : List Row
  pub more : List Row
  pub order : tree_rows pages root ≡ given ++ more
  pub at : IsCursorAt pages nothing given cursor seen
  pub count : rows ≡ length given
  pub moved : IsTrue told → Moves (flat_map row_text given) before waiting after left

pub so_far_made : (pages : Pages) (root : ℕ) (cursor : Cursor) (seen : Test) (told : Bool) (before waiting : List ℕ) → IsCursorMade root None cursor → seen ≡ nothing
    → IsSoFar pages root cursor seen 0 told before waiting before waiting
so_far_made pages root cursor seen told before waiting made none =
    record {
      given = [];
      more = tree_rows pages root;
      order = refl;
      at = subst (λ t. IsCursorAt pages nothing [] cursor t) (sym none) (at_made root None cursor made pages nothing);
      count = refl;
      moved = λ t. waits before (sym (append-nil waiting));
    }

-- the text of one entry more
text_more : (given : List Row) (row : Row) (values : List Datum) → columns row.payload ≡ Some values
    → flat_map row_text given ++ entry_line row.rowid values ≡ flat_map row_text (given ++ row ∷ [])
text_more given row values is =
    ap (λ read. flat_map row_text given ++ entry_line row.rowid (unwrap_or read [])) (sym is)
    ∙ ap (λ l. flat_map row_text given ++ l) (sym (append-nil (row_text row)))
    ∙ sym (flat_map-append row_text given (row ∷ []))

module _ (pages : Pages) (root : ℕ) (cursor : Cursor) (seen : Test) (rows : ℕ) (told : Bool) (before waiting after left : List ℕ)
    (so : IsSoFar pages root cursor seen rows told before waiting after left) where
  -- a failure before the next entry
  pub so_far_stopped : IsTrue told → MovesPart (flat_map row_text (tree_rows pages root)) before waiting after
  so_far_stopped t =
      restated_part (sym (ap (flat_map row_text) so.order ∙ flat_map-append row_text so.given so.more))
      (cut (flat_map row_text so.more) (record { lost = left; moves = so.moved t }))

  -- the end
  pub so_far_all : tree_rows pages root ≡ so.given → IsTrue told → Moves (flat_map row_text (tree_rows pages root)) before waiting after left
  so_far_all whole t = restated (ap (flat_map row_text) (sym whole)) (so.moved t)

  pub so_far_count : tree_rows pages root ≡ so.given → rows ≡ length (tree_rows pages root)
  so_far_count whole = so.count ∙ ap length (sym whole)

  module _ (next : Cursor) (later : Test) (row : Row) (values : List Datum) (gives : IsNext pages nothing so.given next later row)
      (same : walked pages nothing next ≡ tree_walk pages (root_family root (pages.page root)) nothing root) where
    pub row_order : tree_rows pages root ≡ so.given ++ row ∷ gives.more
    row_order = ap entries (sym same) ∙ gives.order

    -- the line of the next entry
    pub so_far_on : columns row.payload ≡ Some values → (after' left' : List ℕ) → (IsTrue told → Moves (entry_line row.rowid values) after left after' left')
        → IsSoFar pages root next later (rows + 1) told before waiting after' left'
    so_far_on is after' left' moved =
        record {
          given = so.given ++ row ∷ [];
          more = gives.more;
          order = row_order ∙ sym (append_assoc so.given (row ∷ []) gives.more);
          at = gives.at;
          count = ap (λ k. k + 1) so.count ∙ sym (length-append so.given (row ∷ []));
          moved = λ t. restated (text_more so.given row values is) (then (so.moved t) (moved t));
        }

    -- a failure in it
    pub so_far_failed : columns row.payload ≡ Some values → (after' : List ℕ) → (IsTrue told → MovesPart (entry_line row.rowid values) after left after')
        → IsTrue told → MovesPart (flat_map row_text (tree_rows pages root)) before waiting after'
    so_far_failed is after' part t =
        restated_part (
        ap (λ l. l ++ flat_map row_text gives.more) (text_more so.given row values is)
        ∙ sym (flat_map-append row_text (so.given ++ row ∷ []) gives.more)
        ∙ ap (flat_map row_text) (append_assoc so.given (row ∷ []) gives.more ∙ sym row_order)
        ) (cut (flat_map row_text gives.more) (then_part (so.moved t) (part t)))

-- nothing was put
pub none_put : (text before waiting : List ℕ) → MovesPart text before waiting before
none_put text before waiting = record { lost = waiting ++ text; moves = waits before refl }

-- no byte waited at first
pub from_empty : {text before waiting after left : List ℕ} → waiting ≡ [] → Moves text before waiting after left → Moves text before [] after left
from_empty {text} {before} {waiting} {after} {left} none moved = subst (λ w. Moves text before w after left) none moved

pub part_from_empty : {text before waiting after : List ℕ} → waiting ≡ [] → MovesPart text before waiting after → MovesPart text before [] after
part_from_empty {text} {before} {waiting} {after} none part = subst (λ w. MovesPart text before w after) none part

-- nothing is left at last
pub all_put : {text before after left : List ℕ} → left ≡ [] → Moves text before [] after left → after ≡ before ++ text
all_put {text} {before} {after} {left} none moved =
    moved.given ∙ ap (λ (l : List ℕ). before ++ l) (sym (moved.whole ∙ ap (λ (l : List ℕ). moved.put ++ l) none ∙ append-nil moved.put))
