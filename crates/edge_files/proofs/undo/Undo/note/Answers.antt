use Rattle.std.proofs.Common.{◌≡◌, ◌∙◌, ◌-◌, ◌*◌, ◌^◌, ℕ, List, length, min, drop, take_at, ap, arith, subst}
use Rattle.edge_model.specs.Files.{Torn}
use Rattle.edge_files.specs.Parts.{part_of}
use Rattle.edge_files.specs.PutBack.{from_of, next_from}
use Rattle.edge_files.proofs.PutBack.{next_room, part_stays, places_apart}
use Rattle.edge_files.proofs.undo.Undo.note.Goals as goal

pub returns-clause-after : goal.returns-clause-after
returns-clause-after c = λ same some.
    let undo = c.args.self.now in
    let bytes = c.args.bytes.now in
    let new = c.copy_into.new.room in
    let room = next_room undo in
    let from : c.saturating_mul-from.result ≡ next_from undo = c.saturating_mul-from.ensures ∙ ap (λ (place : ℕ). min (place * undo.size) (2 ^ 64 - 1)) c.next_place-place.ensures in
    let long : length c.deref_mut.result.now ≡ length undo.after.items = ap (λ (l : List ℕ). length l) c.deref_mut.ensures.value in
    let copied : part_of new c.saturating_mul-from.result (length bytes) ≡ bytes = c.copy_into.ensures.copied (omega (arith, from, same, room.after, long)) in
    ap (λ (l : List ℕ). part_of l (next_from undo) undo.size) (take_at new (drop (length new) undo.after.items) undo.after.len (omega (arith, c.copy_into.ensures.long, long)))
    ∙ subst (λ (n : ℕ). part_of new (next_from undo) n ≡ bytes) same (subst (λ (n : ℕ). part_of new n (length bytes) ≡ bytes) from copied)

pub returns-clause-stays : goal.returns-clause-stays
returns-clause-stays c = λ same place other.
    let undo = c.args.self.now in
    let new = c.copy_into.new.room in
    let from : c.saturating_mul-from.result ≡ next_from undo = c.saturating_mul-from.ensures ∙ ap (λ (place : ℕ). min (place * undo.size) (2 ^ 64 - 1)) c.next_place-place.ensures in
    let long : length c.deref_mut.result.now ≡ length undo.after.items = ap (λ (l : List ℕ). length l) c.deref_mut.ensures.value in
    let torn : Torn (next_from undo) undo.size undo.after.items new =
    subst (λ (l : List ℕ). Torn (next_from undo) undo.size l new) c.deref_mut.ensures.value
    (subst (λ (n : ℕ). Torn (next_from undo) n c.deref_mut.result.now new) same
    (subst (λ (n : ℕ). Torn n (length c.args.bytes.now) c.deref_mut.result.now new) from c.copy_into.ensures.elsewhere)) in
    ap (λ (l : List ℕ). part_of l (from_of undo place) undo.size) (take_at new (drop (length new) undo.after.items) undo.after.len (omega (arith, c.copy_into.ensures.long, long)))
    ∙ part_stays (next_from undo) undo.size (from_of undo place) undo.size undo.after.items new (omega (arith, c.copy_into.ensures.long, long)) torn
    (λ within. places_apart undo place other (omega (arith, within, undo.rooms.1)))
