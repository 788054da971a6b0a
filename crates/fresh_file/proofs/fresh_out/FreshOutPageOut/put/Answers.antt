use Rattle.std.proofs.Common.{◌∙◌, ◌+◌, ◌==◌, ℕ, Bool, ap, arith, if◌then◌else◌}
use Rattle.cipher_profile.specs.Profile.{usable}
use Rattle.db_format.specs.Seen.{marked}
use Rattle.page_codec.specs.Page.{FileKeys}
use Rattle.fresh_file.specs.State.{page_as_held}
use Rattle.fresh_file.proofs.FreshLaws.{accepts_here, accepts_others}
use Rattle.fresh_file.proofs.HeldLaws.{once_as, page_as, page_but_first}
use Rattle.fresh_file.proofs.fresh_out.FreshOutPageOut.put.Goals as goal

pub returns-in-Ok-clause-put : goal.returns-in-Ok-clause-put
returns-in-Ok-clause-put g c = accepts_here _ _ _ c.args.n (omega arith) c.in-Ok.ensures.put

pub returns-in-Ok-clause-page : goal.returns-in-Ok-clause-page
returns-in-Ok-clause-page g c start was = c.in-Ok.ensures.here

pub returns-in-Ok-clause-well : goal.returns-in-Ok-clause-well
returns-in-Ok-clause-well g c start was = c.in-Ok.ensures.well start was

pub returns-in-Ok-clause-marks : goal.returns-in-Ok-clause-marks
returns-in-Ok-clause-marks g c = record {
  count = ap (λ (n : ℕ). n + 1) c.put_page.ensures.taken.0;
  size = ap (λ (k : FileKeys). usable k.profile) c.put_page.ensures.codec;
  others = λ k apart.
      ap (λ (b : Bool). if k == 1 then b else marked c.put_page.new.self.put k) c.put_page.ensures.first.0
      ∙ accepts_others _ _ _ c.args.n k c.in-Ok.ensures.put apart;
  stays = λ had. accepts_here _ _ _ c.args.n (omega arith) c.in-Ok.ensures.put;
}

pub returns-in-Ok-clause-told : goal.returns-in-Ok-clause-told
returns-in-Ok-clause-told g c start was k apart = c.put_page.ensures.others start was k apart

pub returns-in-Err-DiskFault-clause-told : goal.returns-in-Err-DiskFault-clause-told
returns-in-Err-DiskFault-clause-told g c start was k apart = c.put_page.ensures.others start was k apart

pub returns-in-Err-EntropyFault-clause-told : goal.returns-in-Err-EntropyFault-clause-told
returns-in-Err-EntropyFault-clause-told g c start was k apart = c.put_page.ensures.others start was k apart

pub returns-then-n-eq1-clause-well : goal.returns-then-n-eq1-clause-well
returns-then-n-eq1-clause-well g c start was =
    let old = c.args.self.now.state.now in
    let new = c.keep_first.new.self in
    let same = c.keep_first.ensures in
    once_as old.codec new.codec old.held new.held old.put new.put same.codec same.held same.put (old.taken + 1) (new.taken + 1) start _ _ _ _ (omega (arith, same.taken.0)) was

pub returns-then-n-eq1-clause-told : goal.returns-then-n-eq1-clause-told
returns-then-n-eq1-clause-told g c start was k apart =
    let old = c.args.self.now.state.now in
    let new = c.keep_first.new.self in
    let same = c.keep_first.ensures in
    let fresh = g.T.Side.fresh c.args.self.now.side.now in
    page_as old.codec new.codec old.held new.held old.put new.put same.codec same.held same.put new.first.items fresh k
    ∙ page_but_first old.codec old.first.items new.first.items (marked old.put) (page_as_held old.codec old.held) fresh c.args.n k (omega arith) apart
