-- A transaction: what it begins with, and the first bytes of page 1.
use Rattle.std.proofs.Common.{◌≡◌, ◌≢◌, ◌==◌, ℕ, ◌+◌, ◌*◌, ◌<◌, ◌≤◌, Bool, true, false, List, [], ◌++◌, length, take, drop, Option, Some, is_some, refl, sym, ap, subst, ◌∙◌, arith, rules, ne_eqb, length-take, take-take}
use Rattle.std.specs.Prelude.{◌&&◌, unwrap_or, if◌then◌else◌}
use Rattle.std.specs.Bool.{beq}
use Rattle.std.proofs.Math.Nat.{le-mul_of_pos_right}
use Rattle.std.proofs.lemmas.List.{take-append-le}
use Rattle.cipher_profile.specs.Profile.{IsListed, is_plain}
use Rattle.cipher_profile.specs.declared.profile.Profile.{Profile}
use Rattle.cipher_profile.proofs.Layouts.{IsListed-laid_out}
use Rattle.db_format.specs.Count.{largest_database}
use Rattle.page_cache.specs.Pages.{Page, held_bytes, is_held}
use Rattle.page_codec.specs.Page.{FileKeys, magic}
use Rattle.pager.specs.Changed.{HasMagic, same_layout, with_bytes}
use Rattle.pager.specs.Held.{bytes_of_page}
use Rattle.pager.proofs.ChangedLemmas.{is_there, page_is}
use Rattle.pager.proofs.Filling.{same_number}

pub layout_same : (read write : FileKeys) → same_layout read write ≡ true
    → (write.profile.page_size ≡ read.profile.page_size) × (write.profile.reserve ≡ read.profile.reserve)
layout_same read write same = search (rules, same)

pub setting_same : (read write : FileKeys) → same_layout read write ≡ true → write.profile.reads_log ≡ read.profile.reads_log
setting_same read write same =
    one read.profile.reads_log write.profile.reads_log
    (third (read.profile.page_size == write.profile.page_size) (read.profile.reserve == write.profile.reserve) (beq read.profile.reads_log write.profile.reads_log) same)
  where
    one : (a b : Bool) → beq a b ≡ true → b ≡ a
    one true true is = refl
    one true false is = is
    one false true is = sym is
    one false false is = refl

    third : (a b d : Bool) → (a && b && d) ≡ true → d ≡ true
    third false b d is = cc
    third true false d is = cc
    third true true false is = cc
    third true true true is = refl

pub listed_large : (p : Profile) → IsListed p → 512 ≤ p.page_size
listed_large p listed = let least = (IsListed-laid_out p listed).least in omega (arith, least)

pub count_small : (count size : ℕ) → 0 < size → count * size ≤ largest_database → count < 4294967295
count_small count size some largest =
    let within : count * size ≤ 1073741824 = largest in
    let each : count ≤ count * size = le-mul_of_pos_right {m = size} count some in
    omega (arith, within, each)

magic_as : (old new : List Page) → held_bytes 1 new ≡ held_bytes 1 old → HasMagic old → HasMagic new
magic_as old new same begins = λ held.
    ap (λ (o : Option (List ℕ)). take 16 (unwrap_or o [])) same
    ∙ begins (sym (is_there 1 old) ∙ ap (λ (o : Option (List ℕ)). is_some o) (sym same) ∙ is_there 1 new ∙ held)

-- another page is written
pub magic_other : (n : ℕ) (w : List ℕ) (old new : List Page) → n ≢ 1 → ((m : ℕ) → held_bytes m new ≡ (if m == n then Some w else held_bytes m old))
    → HasMagic old → HasMagic new
magic_other n w old new other each begins =
    let apart : (1 == n) ≡ false = ne_eqb 1 n (λ is. other (sym is)) in
    magic_as old new (each 1 ∙ ap (λ (b : Bool). if b then Some w else held_bytes 1 old) apart) begins

first_bytes : (at : ℕ) (src page : List ℕ) → 16 ≤ at → 16 ≤ length page → take 16 (take at page ++ (src ++ drop (at + length src) page)) ≡ take 16 page
first_bytes at src page le long =
    take-append-le 16 (take at page) (src ++ drop (at + length src) page) (omega (arith, le, long, length-take at page))
    ∙ take-take 16 at page le

-- page 1 is written from byte 16 on
pub magic_put : (n at : ℕ) (src : List ℕ) (old new : List Page) → (n ≡ 1 → 16 ≤ at) → is_held n old ≡ true
    → ((m : ℕ) → held_bytes m new ≡ (if m == n then Some (with_bytes at src (bytes_of_page n old)) else held_bytes m old)) → HasMagic old → HasMagic new
magic_put n at src old new first there each begins = λ held. (elim (1 == n) as (λ b. (1 == n) ≡ b → take 16 (bytes_of_page 1 new) ≡ magic) [
  | true ↦ λ t.
      let is : 1 ≡ n = same_number 1 n t in
      let begun : take 16 (bytes_of_page 1 old) ≡ magic = begins (subst (λ (k : ℕ). is_held k old ≡ true) (sym is) there) in
      let sixteen : length (take 16 (bytes_of_page 1 old)) ≡ 16 = ap (λ (l : List ℕ). length l) begun in
      let long : 16 ≤ length (bytes_of_page 1 old) = omega (arith, sixteen, length-take 16 (bytes_of_page 1 old)) in
      let now : held_bytes 1 new ≡ Some (with_bytes at src (bytes_of_page n old)) =
      each 1 ∙ ap (λ (b : Bool). if b then Some (with_bytes at src (bytes_of_page n old)) else held_bytes 1 old) t in
      ap (λ (l : List ℕ). take 16 l) (page_is 1 (with_bytes at src (bytes_of_page n old)) new now)
      ∙ ap (λ (k : ℕ). take 16 (with_bytes at src (bytes_of_page k old))) (sym is)
      ∙ first_bytes at src (bytes_of_page 1 old) (first (sym is)) long
      ∙ begun
  | false ↦ λ t. magic_as old new (each 1 ∙ ap (λ (b : Bool). if b then Some (with_bytes at src (bytes_of_page n old)) else held_bytes 1 old) t) begins held
]) refl

-- codecs with pages of one length and one reserve are both plain, or both not: an encrypted page has a reserve
pub ciphered_alike : (read write : Profile) → IsListed read → IsListed write → write.page_size ≡ read.page_size → write.reserve ≡ read.reserve
    → is_plain write ≡ false → is_plain read ≡ false
ciphered_alike read write read_listed write_listed size reserve ciphered =
    let room = (IsListed-laid_out write write_listed).room ciphered in
    let whole = (IsListed-laid_out write write_listed).whole in
    decide (is_plain read) (λ plain.
    let none = (IsListed-laid_out read read_listed).unreserved plain in
    omega (arith, room, whole, size, reserve, none))
  where
    decide : (b : Bool) → (b ≡ true → ⊥) → b ≡ false
    decide true not = absurd (not refl)
    decide false not = refl
