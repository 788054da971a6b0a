-- The file of a journal is never under another name.
use Rattle.std.proofs.Common.{◌≡◌, ◌⊎◌, inl, inr, ⊎_elim, ℕ, ◌<◌, List, [], ◌∷◌, Some, sym, ◌∙◌, subst, arith}
use Rattle.edge_model.specs.Files.{Files, number_of, created, removed, renamed}
use Rattle.edge_model.specs.Images.{Renames, SameNames, AreApart}
use Rattle.edge_memory.specs.Log.{files_of, next_number, reads_after, ImagesAfter}
use Rattle.edge_memory.specs.LogLaws.{changes_names, numbered_after, file_number, reads_now_after}
use Rattle.edge_memory.specs.declared.mem_disk.contents.Contents.{Contents}
use Rattle.edge_memory.specs.declared.mem_disk.contents.Call.{Call}
use Rattle.edge_memory.specs.declared.mem_disk.contents.Call.TheVariants.{Write, Cut, Sync, Create, Remove, Rename, SyncFolder}
use Rattle.edge_model.specs.declared.role.Role.TheVariants.{Main, Journal, Fresh}

-- the number of a file that was created as a journal
abbrev IsJournal : List Call → ℕ → Type 0
IsJournal [] n = n ≡ 1
IsJournal (Create Journal ∷ earlier) n = (n ≡ next_number earlier) ⊎ IsJournal earlier n
IsJournal (Create Main ∷ earlier) n = IsJournal earlier n
IsJournal (Create Fresh ∷ earlier) n = IsJournal earlier n
IsJournal (Write role at bytes ∷ earlier) n = IsJournal earlier n
IsJournal (Cut role len ∷ earlier) n = IsJournal earlier n
IsJournal (Sync role ∷ earlier) n = IsJournal earlier n
IsJournal (Remove role ∷ earlier) n = IsJournal earlier n
IsJournal (Rename ∷ earlier) n = IsJournal earlier n
IsJournal (SyncFolder ∷ earlier) n = IsJournal earlier n

journal_below : (calls : List Call) (n : ℕ) → IsJournal calls n → n < next_number calls
journal_below [] n is = omega arith
journal_below (Create Journal ∷ earlier) n (inl new) = omega arith
journal_below (Create Journal ∷ earlier) n (inr old) = let lt = journal_below earlier n old in omega arith
journal_below (Create Main ∷ earlier) n is = let lt = journal_below earlier n is in omega arith
journal_below (Create Fresh ∷ earlier) n is = let lt = journal_below earlier n is in omega arith
journal_below (Write role at bytes ∷ earlier) n is = let lt = journal_below earlier n is in omega arith
journal_below (Cut role len ∷ earlier) n is = let lt = journal_below earlier n is in omega arith
journal_below (Sync role ∷ earlier) n is = let lt = journal_below earlier n is in omega arith
journal_below (Remove role ∷ earlier) n is = let lt = journal_below earlier n is in omega arith
journal_below (Rename ∷ earlier) n is = let lt = journal_below earlier n is in omega arith
journal_below (SyncFolder ∷ earlier) n is = let lt = journal_below earlier n is in omega arith

record Kinds (kind : ℕ → Type 0) (c : Files) : Type 0 where
  journal : (n : ℕ) → number_of c.journal ≡ Some n → kind n
  main : (n : ℕ) → number_of c.main ≡ Some n → kind n → ⊥
  fresh : (n : ℕ) → number_of c.fresh ≡ Some n → kind n → ⊥

kinds_same : (kind : ℕ → Type 0) (d c : Files) → SameNames d c → Kinds kind d → Kinds kind c
kinds_same kind d c same kinds = record {
  journal = λ n is. kinds.journal n (sym same.journal ∙ is);
  main = λ n is. kinds.main n (sym same.main ∙ is);
  fresh = λ n is. kinds.fresh n (sym same.fresh ∙ is);
}

new_is : {k n : ℕ} → Some k ≡ Some n → k ≡ n
new_is is = cc

kinds_either : (kind : ℕ → Type 0) (change : Files → Files) (now d c : Files) → Kinds kind d → Kinds kind (change d) → Renames change now d c → Kinds kind c
kinds_either kind change now d c before after (inl stays) = subst (Kinds kind) (sym stays) before
kinds_either kind change now d c before after (inr made) = subst (Kinds kind) (sym made.1) after

kinds_after : (start : Contents) (calls : List Call) (c : Files) → ImagesAfter (files_of start) calls c → Kinds (IsJournal calls) c
kinds_after start [] c left = subst (Kinds (IsJournal [])) (sym left) (record {
  journal = λ n is. sym (file_number 1 start.journal n is);
  main = λ n is kind. let e = file_number 0 start.main n is in omega (arith, e, kind);
  fresh = λ n is kind. let e = file_number 2 start.fresh n is in omega (arith, e, kind);
})
kinds_after start (Write role at bytes ∷ earlier) c left =
    kinds_same (IsJournal earlier) left.0 c (changes_names _ role _ left.0 c left.2) (kinds_after start earlier left.0 left.1)
kinds_after start (Cut role len ∷ earlier) c left =
    kinds_same (IsJournal earlier) left.0 c (changes_names _ role _ left.0 c left.2) (kinds_after start earlier left.0 left.1)
kinds_after start (Sync role ∷ earlier) c left = kinds_after start earlier c left.0
kinds_after start (Create Main ∷ earlier) c left =
    let before = kinds_after start earlier left.0 left.1 in
    kinds_either (IsJournal earlier) (created Main (next_number earlier)) _ left.0 c before
    (record {
      journal = before.journal;
      main = λ n is kind. let e = new_is is in let lt = journal_below earlier n kind in omega (arith, e, lt);
      fresh = before.fresh;
    }) left.2
kinds_after start (Create Fresh ∷ earlier) c left =
    let before = kinds_after start earlier left.0 left.1 in
    kinds_either (IsJournal earlier) (created Fresh (next_number earlier)) _ left.0 c before
    (record {
      journal = before.journal;
      main = before.main;
      fresh = λ n is kind. let e = new_is is in let lt = journal_below earlier n kind in omega (arith, e, lt);
    }) left.2
kinds_after start (Create Journal ∷ earlier) c left =
    let before = kinds_after start earlier left.0 left.1 in
    let below = numbered_after start earlier left.0 left.1 in
    let main : (n : ℕ) → number_of left.0.main ≡ Some n → IsJournal (Create Journal ∷ earlier) n → ⊥ =
    λ n is kind. ⊎_elim (λ new. let lt = below.main n is in omega (arith, lt, new)) (before.main n is) kind in
    let fresh : (n : ℕ) → number_of left.0.fresh ≡ Some n → IsJournal (Create Journal ∷ earlier) n → ⊥ =
    λ n is kind. ⊎_elim (λ new. let lt = below.fresh n is in omega (arith, lt, new)) (before.fresh n is) kind in
    kinds_either (IsJournal (Create Journal ∷ earlier)) (created Journal (next_number earlier)) _ left.0 c
    (record { journal = λ n is. inr (before.journal n is); main = main; fresh = fresh })
    (record { journal = λ n is. inl (sym (new_is is)); main = main; fresh = fresh }) left.2
kinds_after start (Remove Main ∷ earlier) c left =
    let before = kinds_after start earlier left.0 left.1 in
    kinds_either (IsJournal earlier) (removed Main) _ left.0 c before (record { journal = before.journal; main = λ n is. cc; fresh = before.fresh }) left.2
kinds_after start (Remove Journal ∷ earlier) c left =
    let before = kinds_after start earlier left.0 left.1 in
    kinds_either (IsJournal earlier) (removed Journal) _ left.0 c before (record { journal = λ n is. cc; main = before.main; fresh = before.fresh }) left.2
kinds_after start (Remove Fresh ∷ earlier) c left =
    let before = kinds_after start earlier left.0 left.1 in
    kinds_either (IsJournal earlier) (removed Fresh) _ left.0 c before (record { journal = before.journal; main = before.main; fresh = λ n is. cc }) left.2
kinds_after start (Rename ∷ earlier) c left =
    let before = kinds_after start earlier left.0 left.1 in
    kinds_either (IsJournal earlier) renamed _ left.0 c before (record { journal = before.journal; main = before.fresh; fresh = λ n is. cc }) left.2
kinds_after start (SyncFolder ∷ earlier) c left = kinds_after start earlier c left.0

-- what reads as a journal is under no other name in any image, and the other way round
pub journal_apart : (start : Contents) (calls : List Call) (c : Files) → ImagesAfter (files_of start) calls c
    → AreApart (reads_after (files_of start) calls).journal c.main × AreApart (reads_after (files_of start) calls).journal c.fresh
journal_apart start calls c left =
    let mine = kinds_after start calls _ (reads_now_after start calls) in
    let its = kinds_after start calls c left in
    (λ n is too. its.main n too (mine.journal n is), λ n is too. its.fresh n too (mine.journal n is))

pub others_apart : (start : Contents) (calls : List Call) (c : Files) → ImagesAfter (files_of start) calls c
    → AreApart (reads_after (files_of start) calls).main c.journal × AreApart (reads_after (files_of start) calls).fresh c.journal
others_apart start calls c left =
    let mine = kinds_after start calls _ (reads_now_after start calls) in
    let its = kinds_after start calls c left in
    (λ n is too. mine.main n is (its.journal n too), λ n is too. mine.fresh n is (its.journal n too))
