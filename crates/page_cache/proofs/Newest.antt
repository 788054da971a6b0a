-- The page that was used last.
use Rattle.std.proofs.Common.{◌≡◌, ◌∙◌, ◌==◌, ℕ, Bool, true, cond, List, [], ◌∷◌, Some, ap, rules}
use Rattle.std.specs.Prelude.{slice_get}
use Rattle.page_cache.specs.Frames.{FrameEntry, frame_at}
use Rattle.page_cache.specs.declared.table.Held.{Held}

pub newest_frame : (n frame : ℕ) (held : Held) (es : List FrameEntry) → slice_get es 0 ≡ Some (frame, Some held) → held.page ≡ n → frame_at n es ≡ Some frame
newest_frame n frame held [] is same = cc
newest_frame n frame held (e ∷ es) is same =
    let first : e ≡ (frame, Some held) = cc in
    let here : (held.page == n) ≡ true = search (rules, same) in
    ap (λ (x : FrameEntry). frame_at n (x ∷ es)) first ∙ ap (λ (b : Bool). cond b (Some frame) (frame_at n es)) here
