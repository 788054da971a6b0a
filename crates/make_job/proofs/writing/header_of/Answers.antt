use Rattle.cipher_profile.proofs.Layouts.{IsListed-laid_out}
use Rattle.pager.proofs.FirstPage.{listed_page_size}
use Rattle.make_job.proofs.writing.header_of.Goals as goal

pub returns-clause-page_size : goal.returns-clause-page_size
returns-clause-page_size c = listed_page_size c.args.profile.now c.requires

pub returns-clause-reserve : goal.returns-clause-reserve
returns-clause-reserve c = (IsListed-laid_out c.args.profile.now c.requires).reserve
