-- The near names of the first rows, and those of one row more.
use Rattle.std.proofs.Common.{◌≡◌, ◌≤◌, ◌<◌, ◌+◌, ℕ, suc, List, [], ◌∷◌, ◌++◌, take, drop, length, Option, Some, None, ap, sym, ◌∙◌, arith}
use Rattle.std.specs.Prelude.{slice_index_or}
use Rattle.std.specs.List.{cons_option}
use Rattle.std.proofs.lemmas.List.{append-nil, length-append, length-take, take-append-drop, take_all}
use Rattle.std.proofs.lemmas.List.Elements.{filter_map-append}
use Rattle.std.proofs.Math.Seq.{take-append-le, take-nil, take-suc}
use Rattle.db_format.specs.Record.{columns}
use Rattle.schema_map.specs.declared.schema.SchemaRow.{SchemaRow}
use Rattle.schema_names.specs.declared.near.NearName.{NearName}
use Rattle.schema_names.specs.Near.{all_near, near_names, near_row}

-- a front that is full, and one that has room
take_full : {A : Type 0} (n : ℕ) (xs more : List A) → n ≤ length (take n xs) → take n (xs ++ more) ≡ take n xs
take_full n xs more full =
    let e = length-take n xs in
    take-append-le n xs more (grind (arith, e, full))

take_room : {A : Type 0} (n : ℕ) (xs : List A) (x : A) → length (take n xs) < n → take n (xs ++ x ∷ []) ≡ take n xs ++ x ∷ []
take_room {A = A} n xs x room =
    let e = length-take n xs in
    let short : length xs < n = grind (arith, e, room) in
    let grown : length (xs ++ x ∷ []) ≡ length xs + 1 = length-append xs (x ∷ []) in
    take_all n (xs ++ x ∷ []) (omega (arith, grown, short)) ∙ sym (ap (λ (l : List A). l ++ x ∷ []) (take_all n xs (omega (arith, short))))

near_append : (name : List ℕ) (rows more : List SchemaRow) → all_near name (rows ++ more) ≡ all_near name rows ++ all_near name more
near_append name rows more = filter_map-append (λ (r : SchemaRow). near_row name r.root (columns r.payload)) rows more

pub none_near : (name : List ℕ) → near_names name [] ≡ []
unfolding near_names
none_near name = take-nil 10

module _ (name : List ℕ) (rows : List SchemaRow) (i : ℕ) where
  -- ten names are enough
  pub ended : 10 ≤ length (near_names name (take i rows)) → near_names name rows ≡ near_names name (take i rows)
  unfolding near_names
  ended many =
      sym (ap (λ (l : List SchemaRow). take 10 (all_near name l)) (take-append-drop i rows))
      ∙ ap (take 10) (near_append name (take i rows) (drop i rows))
      ∙ take_full 10 (all_near name (take i rows)) (all_near name (drop i rows)) many

  module _ (row : SchemaRow) (less : i < length rows) (is : row ≡ slice_index_or rows i row) where
    one_more : all_near name (take (i + 1) rows) ≡ all_near name (take i rows) ++ cons_option (near_row name row.root (columns row.payload)) []
    one_more =
        let e : suc i ≡ i + 1 = omega arith in
        sym (ap (λ k. all_near name (take k rows)) e)
        ∙ ap (all_near name) (take-suc rows i row less ∙ ap (λ (r : SchemaRow). take i rows ++ r ∷ []) (sym is))
        ∙ near_append name (take i rows) (row ∷ [])

    pub passed : near_row name row.root (columns row.payload) ≡ None → near_names name (take (i + 1) rows) ≡ near_names name (take i rows)
    unfolding near_names
    passed none =
        ap (take 10) (one_more ∙ ap (λ (o : Option NearName). all_near name (take i rows) ++ cons_option o []) none ∙ append-nil (all_near name (take i rows)))

    pub kept : (near : NearName) → near_row name row.root (columns row.payload) ≡ Some near → length (near_names name (take i rows)) < 10
        → near_names name (take (i + 1) rows) ≡ near_names name (take i rows) ++ near ∷ []
    unfolding near_names
    kept near some room =
        ap (take 10) (one_more ∙ ap (λ (o : Option NearName). all_near name (take i rows) ++ cons_option o []) some)
        ∙ take_room 10 (all_near name (take i rows)) near room
