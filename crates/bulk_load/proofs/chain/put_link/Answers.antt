use Rattle.std.proofs.Common.{ap, ◌∙◌}
use Rattle.std.proofs.lemmas.Result.{IfOk-weaker}
use Rattle.page_build.specs.Draft.{laid}
use Rattle.bulk_load.specs.Own.{only}
use Rattle.bulk_load.proofs.ChainLemmas.{link_is}
use Rattle.bulk_load.proofs.chain.put_link.Goals as goal

pub returns-clause-link : goal.returns-clause-link
returns-clause-link g c start well own covers =
    let old = only own (g.P.PageOut.pages c.args.out.now) in
    let new = only own (g.P.PageOut.pages c.put_next.new.out) in
    let piece = c.args.piece.now in
    IfOk-weaker c.put_next.result _ _ (λ n is.
    link_is old new n c.args.next c.args.page.now.items piece c.deref.result.now is
    (c.deref.ensures.value ∙ c.lay-2.ensures ∙ ap (laid 4 piece) (c.lay.ensures ∙ ap (λ four. laid 0 four c.args.page.now.items) c.four_bytes.ensures))
    c.requires.size c.requires.fits)
    (c.put_next.ensures.put start well own covers)
