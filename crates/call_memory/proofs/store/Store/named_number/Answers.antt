use Rattle.std.proofs.Common.{◌≡◌, ◌<◌, ◌∙◌, ℕ, Option, Some, None, IfSome, Vec, sym, ap, arith, length, List, refl}
use Rattle.std.proofs.lemmas.List.{length-map}
use Rattle.std.specs.declared.alloc.Global.{Global}
use Rattle.system_calls.specs.System.{Names, name_at}
use Rattle.call_memory.specs.Folder.{lists_of, state_of, shown_in}
use Rattle.call_memory.specs.Log.{newest_first, state_after}
use Rattle.call_memory.specs.LogLaws.{name_made, numbered_log, reads_now_log}
use Rattle.call_memory.proofs.store.Store.named_number.Goals as goal

if_some : (number : Option ℕ) (k : ℕ) → ((n : ℕ) → number ≡ Some n → n < k) → IfSome number (λ n. n < k)
if_some None k below = tt
if_some (Some n) k below = below n refl

pub returns-clause-made : goal.returns-clause-made
returns-clause-made c =
    let store = c.args.self.now in
    let start = state_of store.start in
    let s = state_after start (newest_first store.log.items) in
    let numbered = numbered_log start store.start_is store.log.items (shown_in s) (reads_now_log start store.log.items) in
    if_some c.at.result (length store.current.files.items)
    (λ n is.
    let made = name_made c.args.name s numbered n (ap (λ (names : Names). name_at names c.args.name) store.names_are ∙ sym c.at.ensures ∙ is) in
    let size = ap (λ (lists : List (List ℕ)). length lists) store.files_are in
    let same : length (lists_of store.current.files) ≡ length store.current.files.items = length-map store.current.files.items (λ (file : Vec ℕ Global). file.items) in
    omega (arith, made, size, same))
