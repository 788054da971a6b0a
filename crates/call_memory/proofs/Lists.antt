-- A file of a list of files is changed.
use Rattle.std.proofs.Common.{◌≡◌, ◌<◌, ℕ, List, [], length, map, get_or, set, Vec, Result, Ok, Err, OnOk, OnErr, sym, ◌∙◌, ap}
use Rattle.std.proofs.lemmas.List.{map-set, get_or-map}
use Rattle.std.proofs.Math.Seq.{map-set_same}
use Rattle.std.specs.declared.alloc.Global.{Global}
use Rattle.call_memory.specs.Folder.{lists_of}

pub put_changed : (files : Vec (Vec ℕ Global) Global) (n : ℕ) (was new : Vec ℕ Global) (change : List ℕ → List ℕ) → n < length files.items
    → was ≡ get_or files.items n was → new.items ≡ change was.items
    → map (λ (file : Vec ℕ Global). file.items) (set files.items n new) ≡ set (lists_of files) n (change (get_or (lists_of files) n []))
put_changed files n was new change made there is =
    map-set (λ (file : Vec ℕ Global). file.items) files.items n new
    ∙ ap (λ (l : List ℕ). set (lists_of files) n l)
    (is ∙ ap (λ (file : Vec ℕ Global). change file.items) there ∙ ap change (sym (get_or-map (λ (file : Vec ℕ Global). file.items) files.items n was [] made)))

pub put_same : (files : Vec (Vec ℕ Global) Global) (n : ℕ) (was new : Vec ℕ Global) → was ≡ get_or files.items n was → new.items ≡ was.items
    → map (λ (file : Vec ℕ Global). file.items) (set files.items n new) ≡ lists_of files
put_same files n was new there is =
    map-set_same (λ (file : Vec ℕ Global). file.items) files.items n new was (is ∙ ap (λ (file : Vec ℕ Global). file.items) there)

pub on_ok : {T E : Type 0} {P Q : Type 0} (r : Result T E) → (P → Q) → OnOk r P → OnOk r Q
on_ok (Ok x) go p = go p
on_ok (Err e) go p = p

pub on_err : {T E : Type 0} {P Q : Type 0} (r : Result T E) → (P → Q) → OnErr r P → OnErr r Q
on_err (Ok x) go p = p
on_err (Err e) go p = go p
