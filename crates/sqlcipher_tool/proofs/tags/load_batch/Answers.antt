use Rattle.std.proofs.Common.{◌≡◌, ◌+◌, ◌*◌, ◌≤◌, List, ℕ, ◌++◌, length, take, drop, ap, ◌∙◌, subst, arith}
use Rattle.std.proofs.lemmas.List.{get_or_append_left, length-take-le, take_at}
use Rattle.std.specs.Prelude.{Bool, false}
use Rattle.cipher_profile.specs.declared.profile.Profile.{Profile}
use Rattle.page_codec.specs.Page.{accepts}
use Rattle.page_codec.specs.Pages.{nth_page}
use Rattle.edge_model.specs.Files.{main_of}
use Rattle.sqlcipher_tool.proofs.Batches.{batch_known}
use Rattle.sqlcipher_tool.proofs.tags.load_batch.Goals as goal

pub returns-clause-known : goal.returns-clause-known
returns-clause-known g c = λ told.
    let keys = c.args.codec.now in
    let size : ℕ = keys.profile.page_size in
    let main : List ℕ = main_of (g.D.Disk.reads c.args.disk.now) in
    let count : ℕ = c.pages_at_once-count.result in
    let inside : ℕ = c.profile.result.now.page_size in
    let inner : inside ≡ size = ap (λ (p : Profile). p.page_size) c.profile.ensures.value in
    let new : List ℕ = c.read_main.new.bytes in
    let bytes : count * inside ≡ count * size = ap (λ (s : ℕ). count * s) inner in
    let few : count * inside ≤ 65536 = c.pages_at_once-count.ensures.bounded in
    let long : length new ≡ count * size =
    c.read_main.auto.bytes ∙ length-take-le (count * inside) c.args.buffer.now (omega (arith, few, c.requires.room)) ∙ bytes in
    let left : c.args.done + count ≤ c.args.pages = omega (arith, c.pages_at_once-count.ensures.value, c.requires.more) in
    let read : take (count * inside) (new ++ drop (count * inside) c.args.buffer.now) ≡ new =
    take_at new _ _ (omega (arith, long, bytes)) in
    let held : List Bool = c.tags_hold.new.held in
    let places : length held ≡ count = c.tags_hold.ensures.count ∙ length-take-le count c.args.held.now
    (omega (arith, c.pages_at_once-count.ensures.most, c.requires.places)) in
    batch_known keys c.args.pages c.args.done count new main _ left long (c.requires.whole told)
    (subst (λ (s : ℕ). c.args.done * s + length new ≤ length main → new ≡ take (length new) (drop (c.args.done * s) main)) inner
    (c.in_ok-read_main.ensures.told told))
    (λ i lt. get_or_append_left held _ false i (omega (arith, places, lt)) ∙ c.tags_hold.ensures.value i (omega (arith, places, lt))
    ∙ ap (λ (l : List ℕ). accepts keys (c.args.done + 1 + i) (nth_page size l i)) read)
