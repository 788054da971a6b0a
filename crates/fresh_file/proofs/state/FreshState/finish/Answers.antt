use Rattle.std.proofs.Common.{◌≡◌, ◌∙◌, ◌+◌, ◌≤◌, ℕ, true, List, [], ◌∷◌, length, Ok, ap, arith, rules, subst, sym}
use Rattle.cipher_profile.specs.Profile.{IsLaidOut, is_clear, usable}
use Rattle.cipher_profile.specs.declared.profile.Profile.{Profile}
use Rattle.cipher_profile.proofs.Layouts.{IsListed-laid_out}
use Rattle.db_format.specs.Header.{header_read}
use Rattle.db_format.specs.Seen.{marked}
use Rattle.db_format.specs.Pages.{also}
use Rattle.page_codec.specs.Page.{FileKeys, magic}
use Rattle.fresh_file.specs.Fresh.{IsFinished, IsWell, fresh_contents, sized_page, with_head}
use Rattle.fresh_file.specs.Held.{held_or, plain_at}
use Rattle.fresh_file.specs.Sealed.{plain_page}
use Rattle.fresh_file.specs.State.{page_as_held, fresh_pages}
use Rattle.fresh_file.proofs.FreshLaws.{all_marked, finished, page_here}
use Rattle.fresh_file.proofs.state.FreshState.finish.Goals as goal

pub returns-clause-file : goal.returns-clause-file
returns-clause-file g c start was =
    let side = g.T.Side in
    let old = c.args.self.now in
    let fresh = side.fresh c.args.side.now in
    let written = c.write_held.new.self in
    let whole = side.fresh c.write_held.new.side in
    let mid = c.put_first.new.side in
    let new = c.sync_side.new.side in
    let page : ℕ → List ℕ = (fresh_pages old fresh).page in
    let accepts = (fresh_pages old fresh).accepts in
    let header = c.args.header.now in
    let well = c.in_ok-write_held.ensures.well start was in
    let same = c.write_held.ensures in
    let all : (n : ℕ) → 2 ≤ n → n ≤ old.taken + 1 → marked written.put n ≡ true =
    (λ n high le. ap (λ marks. marked marks n) same.put ∙ all_marked old.has_first (marked old.put) (old.taken + 1) c.requires.put n high le) in
    subst (λ (keys : FileKeys). IsFinished keys header (record { count = old.taken + 1; usable = usable keys.profile; page = page; accepts = accepts }) start side.draws_tell (side.fresh new) (side.drawn new))
    same.codec
    (finished written.codec header page c.write_header.new.out (marked written.put) accepts (old.taken + 1) (usable written.codec.profile) start
    side.tells side.draws_tell (side.fresh mid) (side.fresh new) (side.drawn mid) (side.drawn new) (omega arith)
    (subst (λ (n : ℕ). IsWell written.codec (also (1 ∷ []) (marked written.put)) (n + 1) start side.tells side.draws_tell (side.fresh mid) (side.drawn mid)) same.taken.0
    (c.in_ok-put_first.ensures.well start well))
    (c.in_ok-put_first.ensures.here start well ∙ ap (λ (l : List ℕ). with_head c.write_header.new.out l) same.first.1)
    (λ m has other.
    c.in_ok-put_first.ensures.others start well m has other
    ∙ sym (page_here written.codec written.first.items (marked written.put) (page_as_held written.codec written.held) whole m other has
    ∙ ap (λ (h : ℕ). held_or written.held.numbers.items (plain_at written.codec written.held.room.items) h m (plain_page written.codec m (fresh_contents whole))) c.in_ok-write_held.ensures.none)
    ∙ same.pages start was m)
    c.write_header.ensures.bytes
    all
    (subst (λ (keys : FileKeys). length keys.salt ≡ 16) (sym same.codec) (search rules))
    (subst (λ (keys : FileKeys). 16 ≤ keys.profile.page_size) (sym same.codec) (search arith))
    (subst (λ (keys : FileKeys). is_clear keys.profile ≡ true → keys.salt ≡ magic) (sym same.codec)
    (λ clear. sym c.salt-salt.ensures.value ∙ c.salt-salt.ensures.clear clear))
    (subst (λ (keys : FileKeys). IsLaidOut keys.profile) (sym same.codec)
    (subst (λ (profile : Profile). IsLaidOut profile) c.profile-listed.ensures.value (IsListed-laid_out c.profile-listed.result.now c.profile-listed.ensures.listed)))
    (c.sync_side.ensures.same was.told)
    c.sync_side.ensures.drawn)

pub returns-clause-reads_back : goal.returns-clause-reads_back
returns-clause-reads_back g c =
    let header = c.args.header.now in
    subst (λ (bytes : List ℕ). header_read bytes header.page_size header.reserve ≡ Ok (sized_page header (c.args.self.now.taken + 1))) c.write_header.ensures.bytes c.write_header.ensures.reads_back
