use Rattle.std.proofs.Common.{rules, ◌≡◌, ◌∙◌, ◌+◌, ◌-◌, ◌*◌, ◌^◌, ◌≤◌, ℕ, List, length, min, drop, take, take_at, ap, arith, subst, sym}
use Rattle.edge_model.specs.Files.{Torn, read_from}
use Rattle.edge_files.specs.Parts.{main_bytes, part_of}
use Rattle.edge_files.specs.PutBack.{from_of, next_from, next_place}
use Rattle.edge_files.proofs.PutBack.{next_room, part_stays, places_apart}
use Rattle.edge_files.proofs.undo.Undo.keep.Goals as goal

pub returns-clause-before : goal.returns-clause-before
returns-clause-before g c = λ tells.
    let undo = c.turn_to.new.self in
    let count = c.args.length in
    let stood = c.in_ok-stood.stood in
    let new = c.read_into-outcome.new.room in
    let file = main_bytes (g.C.Calls.system c.args.calls.now) in
    let size : undo.size ≡ count = c.turn_to.ensures.length in
    let room = next_room undo in
    let from : c.saturating_mul-from.result ≡ next_from undo =
    c.saturating_mul-from.ensures ∙ ap (λ (place : ℕ). min (place * count) (2 ^ 64 - 1)) c.next_place-place.ensures ∙ ap (λ (n : ℕ). min (next_place undo * n) (2 ^ 64 - 1)) (sym size) in
    let long : length c.deref_mut-2.result.now ≡ length undo.before.items = ap (λ (l : List ℕ). length l) c.deref_mut-2.ensures.value in
    let told : c.saturating_mul-from.result + count ≤ length c.deref_mut-2.result.now → take stood (part_of new c.saturating_mul-from.result count) ≡ read_from c.args.at count file = search rules in
    ap (λ (l : List ℕ). take stood (part_of l (next_from undo) count)) (take_at new (drop (length new) undo.before.items) undo.before.len (omega (arith, c.read_into-outcome.ensures.long, long)))
    ∙ subst (λ (n : ℕ). take stood (part_of new n count) ≡ read_from c.args.at count file) from (told (omega (arith, from, size, room.before, long)))

pub returns-clause-stays : goal.returns-clause-stays
returns-clause-stays g c = λ there place other.
    let undo = c.turn_to.new.self in
    let count = c.args.length in
    let new = c.read_into-outcome.new.room in
    let size : undo.size ≡ count = c.turn_to.ensures.length in
    let from : c.saturating_mul-from.result ≡ next_from undo =
    c.saturating_mul-from.ensures ∙ ap (λ (place : ℕ). min (place * count) (2 ^ 64 - 1)) c.next_place-place.ensures ∙ ap (λ (n : ℕ). min (next_place undo * n) (2 ^ 64 - 1)) (sym size) in
    let long : length c.deref_mut-2.result.now ≡ length undo.before.items = ap (λ (l : List ℕ). length l) c.deref_mut-2.ensures.value in
    let torn : Torn (next_from undo) undo.size undo.before.items new =
    subst (λ (l : List ℕ). Torn (next_from undo) undo.size l new) c.deref_mut-2.ensures.value
    (subst (λ (n : ℕ). Torn (next_from undo) n c.deref_mut-2.result.now new) (sym size)
    (subst (λ (n : ℕ). Torn n count c.deref_mut-2.result.now new) from c.read_into-outcome.ensures.elsewhere)) in
    let same : undo.before.items ≡ c.args.self.now.before.items = search rules in
    ap (λ (l : List ℕ). part_of l (from_of undo place) count) (take_at new (drop (length new) undo.before.items) undo.before.len (omega (arith, c.read_into-outcome.ensures.long, long)))
    ∙ subst (λ (n : ℕ). part_of new (from_of undo place) n ≡ part_of undo.before.items (from_of undo place) n) size
    (part_stays (next_from undo) undo.size (from_of undo place) undo.size undo.before.items new (omega (arith, c.read_into-outcome.ensures.long, long)) torn
    (λ within. places_apart undo place other (omega (arith, within, undo.rooms.0))))
    ∙ ap (λ (l : List ℕ). part_of l (from_of undo place) count) same
