use Rattle.std.proofs.Common.{◌≡◌, ◌==◌, ◌∙◌, ℕ, true, false, List, Some, if◌then◌else◌, ap, sym, arith, take}
use Rattle.cipher_profile.specs.declared.profile.Profile.{Profile}
use Rattle.cipher_profile.specs.Profile.{is_plain}
use Rattle.page_cache.specs.Pages.{held_bytes, is_held}
use Rattle.pager.proofs.UnderWayLemmas.{first_put, held_again, held_put}
use Rattle.pager.proofs.txn.Txn.place.Goals as goal

pub put-requires-clause-within : goal.put-requires-clause-within
put-requires-clause-within g c = omega (arith, c.bring.ensures.sizes.1, c.args.self.now.fits.0, c.args.self.now.long)

pub returns-then-not-is_plain-clause-bytes : goal.returns-then-not-is_plain-clause-bytes
returns-then-not-is_plain-clause-bytes g c begins m =
    let is : c.args.n ≡ 1 = omega (arith, c.requires.number, c.if-n-gt1.false) in
    let same = c.deref.ensures.value in
    let ciphered : is_plain c.args.self.now.write.profile ≡ false =
    sym (ap (λ (p : Profile). is_plain p) c.profile.ensures.value) ∙ sym c.is_plain.ensures ∙ c.if-not-is_plain.true in
    first_put c.args.n c.deref.result.now c.args.self.now.changed.held c.bring.new.self.held c.put.new.self.held is (ap (λ (l : List ℕ). take 16 l) same ∙ begins is ciphered) c.bring.ensures.bytes c.put.ensures.bytes m
    ∙ ap (λ (l : List ℕ). if m == c.args.n then Some l else held_bytes m c.args.self.now.changed.held) same

pub returns-then-not-is_plain-clause-listed : goal.returns-then-not-is_plain-clause-listed
returns-then-not-is_plain-clause-listed g c m =
    let s = c.args.self.now in
    let first : 1 ≡ c.args.n = omega (arith, c.requires.number, c.if-n-gt1.false) in
    let here : is_held 1 c.bring.new.self.held ≡ true =
    held_put s.changed.held c.bring.new.self.held c.args.n _ c.bring.ensures.bytes 1
    ∙ ap (λ (k : ℕ). if 1 == k then true else is_held 1 s.changed.held) {x = c.args.n} {y = 1} (sym first) in
    let brought = held_put s.changed.held c.bring.new.self.held c.args.n _ c.bring.ensures.bytes in
    held_again c.bring.new.self.held c.put.new.self.held 1 _ here c.put.ensures.bytes m ∙ brought m

pub returns-then-n-gt1-clause-listed : goal.returns-then-n-gt1-clause-listed
returns-then-n-gt1-clause-listed g c m = held_put c.args.self.now.changed.held c.bring.new.self.held c.args.n _ c.bring.ensures.bytes m

pub returns-else-not-is_plain-clause-listed : goal.returns-else-not-is_plain-clause-listed
returns-else-not-is_plain-clause-listed g c m = held_put c.args.self.now.changed.held c.bring.new.self.held c.args.n _ c.bring.ensures.bytes m
