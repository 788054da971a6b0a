use Rattle.std.proofs.Common.{◌≡◌, rules, subst, sym}
use Rattle.cipher_profile.specs.Profile.{IsListed}
use Rattle.db_format.specs.Header.{IsPageSize}
use Rattle.pager.proofs.FirstPage.{listed_page_size}
use Rattle.pager.proofs.opening.open_first.Goals as goal

pub count_main-requires-clause-size : goal.count_main-requires-clause-size
count_main-requires-clause-size c =
    let layout : c.in-Ok.header.page_size ≡ c.args.codec.now.profile.page_size = search rules in
    subst IsPageSize (sym layout)
    (listed_page_size c.args.codec.now.profile (subst (λ x. IsListed x) c.profile-profile.ensures.value c.profile-profile.ensures.listed))
