use Rattle.std.proofs.Common.{◌∙◌}
use Rattle.fresh_file.proofs.state.FreshState.put_page.Goals as goal

pub returns-clause-well : goal.returns-clause-well
returns-clause-well g c start was = c.hold.ensures.well start (c.in_ok-make_room.ensures.well start was)

pub returns-clause-others : goal.returns-clause-others
returns-clause-others g c start was k apart = c.hold.ensures.others was.told k apart ∙ c.make_room.ensures.pages start was k

pub returns-in_err-make_room-clause-others : goal.returns-in_err-make_room-clause-others
returns-in_err-make_room-clause-others g c start was k apart = c.make_room.ensures.pages start was k
