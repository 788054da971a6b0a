-- What the cache holds while a page is brought in.
use Rattle.std.proofs.Common.{◌≡◌, ◌==◌, ℕ, ◌⊎◌, inl, inr, true, false, List, [], ◌∷◌, ◌++◌, length, take, drop, replicate, Option, Some, None, Result, Ok, Err, OnOk, OnErr, is_ok, is_some, refl, sym, ap, subst, ◌∙◌, arith, rules}
use Rattle.std.specs.Prelude.{unwrap_or}
use Rattle.std.specs.List.{AllByRecursion}
use Rattle.std.specs.Option.{option_map}
use Rattle.std.proofs.lemmas.List.{length-replicate}
use Rattle.std.proofs.Math.Seq.{take-append_seam}
use Rattle.cipher_profile.specs.Profile.{usable}
use Rattle.page_codec.specs.Page.{FileKeys, accepts, opened}
use Rattle.page_cache.specs.Lending.{laid_over}
use Rattle.page_cache.specs.Cache.{written_over}
use Rattle.page_cache.specs.Pages.{Page, HeldPages, held_page, is_held, without, changed, last_unpinned, fresh_frame, pin_more, pin_less}
use Rattle.page_cache.proofs.CallerLemmas.{less_without, victim_there, all_without, all_page_at, all_changed, number_of, changed_fresh, without_fresh}
use Rattle.pager.specs.File.{page_stored}
use Rattle.pager.specs.Held.{IsPageOpened, AreOpened, HasRoom, bytes_of_page, plain_of_page}

pub on_err : {T E : Type 0} {P : Type 0} (r : Result T E) → is_ok r ≡ false → OnErr r P → P
on_err (Ok x) bad holds = cc
on_err (Err e) bad holds = holds

pub on_ok : {T E : Type 0} {P : Type 0} (r : Result T E) → is_ok r ≡ true → OnOk r P → P
on_ok (Ok x) good holds = holds
on_ok (Err e) good holds = cc

-- once a page has left, a frame is free
pub never_full : (old left : HeldPages) (v : ℕ) → left ≡ record old { held = without v old.held } → last_unpinned old.held ≡ Some v → length old.held ≡ old.frames → length left.held ≡ left.frames → ⊥
never_full old left v gone last full still =
    let less = less_without v old.held (victim_there v old.held last) in
    let now : length (without v old.held) ≡ old.frames = rw gone at still in
    omega (arith, less, full, now)

by_others : (keys : FileKeys) (file : List ℕ) (held rest : List Page) → (rest ≡ held) ⊎ ((v : ℕ) × (last_unpinned held ≡ Some v) × (rest ≡ without v held)) → AreOpened keys file held → AreOpened keys file rest
by_others keys file held rest (inl same) all = rw same all
by_others keys file held rest (inr gone) all = rw gone.2 (all_without (IsPageOpened keys file) gone.0 held all)

rest_opened : (keys : FileKeys) (file : List ℕ) (n : ℕ) (old new : HeldPages) (room : HasRoom n old new) → AreOpened keys file old.held → AreOpened keys file room.rest
rest_opened keys file n old new room all = by_others keys file old.held room.rest room.others all

laid_same : (m : ℕ) (w : List ℕ) → length w ≡ m → laid_over (replicate m 0) w ≡ w
laid_same m w same = rw (length-replicate {A = ℕ} m 0) (subst (λ k. take k (w ++ drop (length w) (replicate m 0)) ≡ w) same (take-append_seam w (drop (length w) (replicate m 0))))

-- the held pages once page n is in its frame
pub changed_new : (n : ℕ) (old new : HeldPages) (w : List ℕ) (room : HasRoom n old new) → changed n (written_over w) new.held ≡ written_over w (fresh_frame n old.usable) ∷ room.rest
changed_new n old new w room = ap (λ (p : HeldPages). changed n (written_over w) p.held) room.placed ∙ changed_fresh n old.usable (written_over w) room.rest room.absent

pub opened_after : (keys : FileKeys) (file : List ℕ) (n : ℕ) (old new : HeldPages) (w : List ℕ) → HasRoom n old new → AreOpened keys file old.held → length w ≡ old.usable → accepts keys n (page_stored keys file n) ≡ true → take (usable keys.profile) w ≡ opened keys n (page_stored keys file n) → AreOpened keys file (changed n (written_over w) new.held)
opened_after keys file n old new w room all size accepted plain =
    subst (AreOpened keys file) (sym (changed_new n old new w room))
    (record { accepted = accepted; plain = ap (take (usable keys.profile)) (laid_same old.usable w size) ∙ plain }, rest_opened keys file n old new room all)

-- and once it is out again
pub gone_again : (n : ℕ) (old new : HeldPages) (w : List ℕ) (room : HasRoom n old new) → without n (changed n (written_over w) new.held) ≡ room.rest
gone_again n old new w room =
    ap (λ (ps : List Page). without n ps) (changed_new n old new w room)
    ∙ without_fresh n (written_over w (fresh_frame n old.usable)) room.rest refl room.absent

pub opened_gone : (keys : FileKeys) (file : List ℕ) (n : ℕ) (old new : HeldPages) (w : List ℕ) → HasRoom n old new → AreOpened keys file old.held → AreOpened keys file (without n (changed n (written_over w) new.held))
opened_gone keys file n old new w room all = subst (AreOpened keys file) (sym (gone_again n old new w room)) (rest_opened keys file n old new room all)

-- page n is not held then
pub absent_gone : (n : ℕ) (old new : HeldPages) (w : List ℕ) → HasRoom n old new → is_held n (without n (changed n (written_over w) new.held)) ≡ false
absent_gone n old new w room = ap (λ (ps : List Page). is_held n ps) (gone_again n old new w room) ∙ ap is_some room.absent

pub same_number : (a b : ℕ) → (a == b) ≡ true → a ≡ b
same_number a b e = search rules

-- the pins of a page are no part of what it holds
pub opened_pins : (keys : FileKeys) (file : List ℕ) (n : ℕ) (held : List Page) → AreOpened keys file held → AreOpened keys file (changed n pin_more held) × AreOpened keys file (changed n pin_less held)
opened_pins keys file n held all = (
  all_changed (IsPageOpened keys file) n pin_more (λ p is. record { accepted = is.accepted; plain = is.plain }) held all,
  all_changed (IsPageOpened keys file) n pin_less (λ p is. record { accepted = is.accepted; plain = is.plain }) held all,
)

held_facts : (keys : FileKeys) (file : List ℕ) (n : ℕ) (held : List Page) (o : Option Page) → held_page n held ≡ o → is_some o ≡ true → AreOpened keys file held
    → (accepts keys n (page_stored keys file n) ≡ true) × (take (usable keys.profile) (unwrap_or (option_map (λ page. page.bytes) o) []) ≡ opened keys n (page_stored keys file n))
held_facts keys file n held None same there all = cc
held_facts keys file n held (Some p) same there all =
    let page = all_page_at (IsPageOpened keys file) n held all p same in
    let number = same_number p.number n (number_of n held p same) in
    (subst (λ m. accepts keys m (page_stored keys file m) ≡ true) number page.accepted, subst (λ m. take (usable keys.profile) p.bytes ≡ opened keys m (page_stored keys file m)) number page.plain)

-- a held page is accepted, and its plain page is in front
pub held_opened : (keys : FileKeys) (file : List ℕ) (n : ℕ) (held : List Page) → is_held n held ≡ true → AreOpened keys file held
    → (accepts keys n (page_stored keys file n) ≡ true) × (plain_of_page keys.profile n held ≡ opened keys n (page_stored keys file n))
held_opened keys file n held there all = held_facts keys file n held (held_page n held) refl there all

held_long : (usable n : ℕ) (held : List Page) (o : Option Page) → held_page n held ≡ o → is_some o ≡ true → AllByRecursion (λ page. length page.bytes ≡ usable) held
    → length (unwrap_or (option_map (λ page. page.bytes) o) []) ≡ usable
held_long usable n held None same there all = cc
held_long usable n held (Some p) same there all = all_page_at (λ page. length page.bytes ≡ usable) n held all p same

-- and it has the length of a page
pub held_sized : (usable n : ℕ) (held : List Page) → is_held n held ≡ true → AllByRecursion (λ page. length page.bytes ≡ usable) held → length (bytes_of_page n held) ≡ usable
held_sized usable n held there all = held_long usable n held (held_page n held) refl there all

eqb-refl : (a : ℕ) → (a == a) ≡ true
eqb-refl a = search rules

-- the page that was read just now
pub new_bytes : (n : ℕ) (old new : HeldPages) (w : List ℕ) → HasRoom n old new → length w ≡ old.usable → bytes_of_page n (changed n (written_over w) new.held) ≡ w
new_bytes n old new w room size =
    ap (λ (ps : List Page). bytes_of_page n ps) (changed_new n old new w room)
    ∙ rw (eqb-refl n) (laid_same old.usable w size)

pub new_held : (n : ℕ) (old new : HeldPages) (w : List ℕ) → HasRoom n old new → is_held n (changed n (written_over w) new.held) ≡ true
new_held n old new w room = ap (λ (ps : List Page). is_held n ps) (changed_new n old new w room) ∙ rw (eqb-refl n) refl
