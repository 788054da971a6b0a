use Rattle.std.proofs.Common.{rules, ◌∙◌, arith}
use Rattle.fresh_file.proofs.FreshLaws.{head_first, here_next, laid_start, others_stay, well_next}
use Rattle.fresh_file.proofs.state.FreshState.put_first.Goals as goal

pub seal_page_to-requires-clause-magic : goal.seal_page_to-requires-clause-magic
seal_page_to-requires-clause-magic g c one = head_first c.args.head.now _ c.deref.result.now _ (search rules) (c.deref.ensures.value ∙ c.lay.ensures) c.requires.magic

pub returns-clause-well : goal.returns-clause-well
returns-clause-well g c start was =
    well_next c.args.self.now.codec _ 1 _ _ _ _ c.in_ok-seal_page_to.ensures.sealing (c.in_ok-seal_page_to.ensures.done was.told) _ start _ _ _ _ (omega arith) c.in_ok-seal_page_to.ensures.own was

pub returns-clause-here : goal.returns-clause-here
returns-clause-here g c start was =
    here_next c.args.self.now.codec _ 1 _ _ _ _ c.in_ok-seal_page_to.ensures.sealing (c.in_ok-seal_page_to.ensures.done was.told) _ was.paged
    ∙ c.deref.ensures.value
    ∙ c.lay.ensures
    ∙ laid_start c.args.head.now c.args.self.now.first.items

pub returns-clause-others : goal.returns-clause-others
returns-clause-others g c start was =
    others_stay c.args.self.now.codec _ _ 1 _ _ (omega arith) (c.seal_page_to.ensures.torn was.told) was.paged
