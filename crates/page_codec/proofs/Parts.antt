-- Parts of a list that is joined of others, or that has others written into it.
use Rattle.std.proofs.Common.{◌≡◌, ◌≤◌, ◌+◌, ◌-◌, ◌==◌, refl, rules, ℕ, List, ◌++◌, length, take, drop, ap, sym, ◌∙◌, arith}
use Rattle.std.specs.Prelude.{Bool, true, false, nat_le, slice_range, if◌then◌else◌}
use Rattle.std.proofs.lemmas.List.{append_assoc, drop-take, drop_at, length-append, take-append-drop, take-append-le, take-take, take_all, take_at}
use Rattle.std.proofs.Math.Seq.{take-append-add}
use Rattle.std.proofs.lemmas.Bool.Decides.{nat_tests}
use Rattle.std.proofs.lemmas.Grind.{common_steps}
use Rattle.std.proofs.lemmas.Slice.{between_is, take-put_mid_below}
use Rattle.cbc_mode.specs.Cbc.{cbc_decrypted}
use Rattle.cipher_profile.specs.declared.profile.Profile.{Profile}
use Rattle.cipher_profile.specs.Profile.{IsLaidOut, is_plain, usable}
use Rattle.page_codec.specs.Page.{FileKeys, begun, cipher_start, deciphered, magic, opened, plain_head, stored_head, stored_iv}
use borrow.Rule.Slice.PartMut.{put_mid}

-- what lies between a head and a rest
pub part_between : (head text rest : List ℕ) (i j : ℕ) → length head ≡ i → length head + length text ≡ j
    → slice_range (head ++ text ++ rest) i j ≡ text
part_between head text rest i j from to =
    let whole : length (head ++ text) ≡ j = length-append head text ∙ to in
    between_is (head ++ text ++ rest) i j
    ∙ ap (drop i) (take_at (head ++ text) rest j whole)
    ∙ drop_at head text i from

-- the first of what lies behind a head
pub part_after : (head rest : List ℕ) (i j k : ℕ) → length head ≡ i → j ≡ i + k
    → slice_range (head ++ rest) i j ≡ take k rest
part_after head rest i j k from to =
    let long : j - i ≡ k = omega arith in
    ap (take (j - i)) (drop_at head rest i from) ∙ ap (λ (m : ℕ). take m rest) long

-- what lies before the part that is written
pub part_before : (at len : ℕ) (old new : List ℕ) (i j : ℕ) → j ≤ at → at ≤ length old
    → slice_range (put_mid at len old new) i j ≡ slice_range old i j
part_before at len old new i j before within =
    between_is (put_mid at len old new) i j
    ∙ ap (drop i) (take-put_mid_below at len old new j before within)
    ∙ sym (between_is old i j)

-- where the ciphertext of page 1 begins, and of the others
pub head_none : (profile : Profile) (n : ℕ) → (n ≡ 1 → ⊥) → cipher_start profile n ≡ 0
head_none profile n other = grind (arith, common_steps, other)

-- on page 1 it is behind the first 16 bytes
pub head_long : (profile : Profile) (n : ℕ) → IsLaidOut profile → n ≡ 1 → 16 ≤ cipher_start profile n
head_long profile n laid_out first = let some = laid_out.header_some in grind (arith, common_steps, some, first)

-- the head of a page has no more bytes than a page has content
pub head_short : (profile : Profile) (n : ℕ) → IsLaidOut profile → cipher_start profile n ≤ 96
head_short profile n laid_out = let most = laid_out.header_most in grind (arith, common_steps, most)

-- the first bytes of a page that was begun otherwise go by the first bytes of that page
pub begun_kept : (first : List ℕ) (start u : ℕ) (page : List ℕ) → length first ≡ 16 → start ≤ u → take start (begun first (take u page)) ≡ take start (begun first page)
begun_kept first start u page long within = by_length (nat_le 16 u) refl
  where
    rest : ℕ
    rest = u - 16

    by_length : (b : Bool) → nat_le 16 u ≡ b → take start (begun first (take u page)) ≡ take start (begun first page)
    by_length true is =
        let more : 16 + rest ≡ u = grind (arith, nat_tests, is) in
        let all : length first + rest ≡ u = omega (arith, long, more) in
        ap (λ (k : ℕ). take start (first ++ drop 16 (take k page))) (sym more)
        ∙ ap (λ (l : List ℕ). take start (first ++ l)) (drop-take 16 rest page)
        ∙ ap (take start) (sym (take-append-add first (drop 16 page) rest))
        ∙ ap (λ (k : ℕ). take start (take k (begun first page))) all
        ∙ take-take start u (begun first page) within
    by_length false is =
        let less : start ≤ length first = grind (arith, nat_tests, is, long, within) in
        take-append-le start first (drop 16 (take u page)) less ∙ sym (take-append-le start first (drop 16 page) less)

-- begun twice is begun so
pub begun_twice : (first other page : List ℕ) → length other ≡ 16 → begun first (begun other page) ≡ begun first page
begun_twice first other page long = ap (λ (l : List ℕ). first ++ l) (drop_at other (drop 16 page) 16 long)

-- and begun as it was is the page
pub begun_own : (first page : List ℕ) → take 16 page ≡ first → begun first page ≡ page
begun_own first page is = ap (λ (l : List ℕ). l ++ drop 16 page) (sym is) ∙ take-append-drop 16 page

-- a plain page is what it begins with and the rest
pub magic_first : (profile : Profile) (n : ℕ) (plain : List ℕ) → (n ≡ 1 → take 16 plain ≡ magic)
    → plain_head profile n plain ++ drop (cipher_start profile n) plain ≡ plain
magic_first profile n plain begins = by_number (n == 1) refl
  where
    start : ℕ
    start = cipher_start profile n

    by_number : (b : Bool) → (n == 1) ≡ b → take start (begun magic plain) ++ drop start plain ≡ plain
    by_number true is =
        let first : n ≡ 1 = search (rules, is) in
        ap (λ (l : List ℕ). take start l ++ drop start plain) (begun_own magic plain (begins first)) ∙ take-append-drop start plain
    by_number false is =
        let some : n ≡ 1 → ⊥ = λ one. search (rules, is, one) in
        ap (λ (k : ℕ). take k (begun magic plain) ++ drop k plain) (head_none profile n some)

-- what is stored before the ciphertext opens to what the plain page begins with
pub head_opens : (file : FileKeys) (n : ℕ) (plain text rest : List ℕ) → length file.salt ≡ 16 → length (stored_head file n plain) ≡ cipher_start file.profile n
    → plain_head file.profile n (stored_head file n plain ++ text ++ rest) ≡ plain_head file.profile n plain
head_opens file n plain text rest salt long =
    let start = cipher_start file.profile n in
    let head = stored_head file n plain in
    let page = head ++ text ++ rest in
    let first : take start page ≡ head = ap (take start) (append_assoc head text rest) ∙ take_at head (text ++ rest) start long in
    sym (begun_kept magic start start page refl (omega arith))
    ∙ ap (λ (l : List ℕ). take start (begun magic l)) first
    ∙ begun_kept magic start start (begun file.salt plain) refl (omega arith)
    ∙ ap (take start) (begun_twice magic file.salt plain salt)

-- what a page is decrypted to, by its IV and its content
pub opened_of : (file : FileKeys) (n : ℕ) (stored iv content : List ℕ) → cipher_start file.profile n ≤ usable file.profile → iv ≡ stored_iv file.profile stored → content ≡ take (usable file.profile) stored
    → plain_head file.profile n content ++ cbc_decrypted file.keys.enc iv (drop (cipher_start file.profile n) content) ≡ deciphered file n stored
unfolding deciphered
opened_of file n stored iv content within first body =
    let start = cipher_start file.profile n in
    let u = usable file.profile in
    let head : plain_head file.profile n content ≡ plain_head file.profile n stored =
    ap (λ (l : List ℕ). take start (begun magic l)) body ∙ begun_kept magic start u stored refl within in
    let text : drop start content ≡ slice_range stored start u = ap (drop start) body ∙ sym (between_is stored start u) in
    λ k. head k ++ cbc_decrypted file.keys.enc (first k) (text k)

-- a page of an encrypted file opens to what it is decrypted to
pub opened_ciphered : (file : FileKeys) (n : ℕ) (page : List ℕ) → is_plain file.profile ≡ false → opened file n page ≡ deciphered file n page
unfolding opened
opened_ciphered file n page ciphered = ap (λ (b : Bool). if b then page else deciphered file n page) ciphered

-- a stored page of a plain file opens to itself, and all of it is content
pub opened_plain_file : (file : FileKeys) (n : ℕ) (stored : List ℕ) → is_plain file.profile ≡ true → opened file n stored ≡ stored
unfolding opened
opened_plain_file file n stored plain = ap (λ (b : Bool). if b then stored else deciphered file n stored) plain

pub opened_whole : (file : FileKeys) (n : ℕ) (stored : List ℕ) → is_plain file.profile ≡ true → length stored ≡ usable file.profile
    → take (usable file.profile) stored ≡ opened file n stored
opened_whole file n stored plain long = take_all (usable file.profile) stored (omega arith) ∙ sym (opened_plain_file file n stored plain)
