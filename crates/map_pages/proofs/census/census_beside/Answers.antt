use Rattle.std.proofs.Common.{inr, refl, subst}
use Rattle.schema_map.specs.Census.{IsWhole}
use Rattle.map_pages.specs.Beside.{without_maps}
use Rattle.map_pages.proofs.Censuses.{some_leaf, no_leaves}
use Rattle.map_pages.proofs.census.census_beside.Goals as goal

pub returns-in-Some-clause-found : goal.returns-in-Some-clause-found
returns-in-Some-clause-found g c told =
    inr
    (some_leaf (g.S.PageSource.plain c.args.source.now) c.usable-usable.result c.pages-count.result c.in-Some.page c.in-Ok.found
    (subst (λ s. IsWhole (without_maps (g.S.PageSource.plain s)) c.in-Ok.found) c.new-beside.ensures.source (c.in-Ok.ensures.found told))
    c.usable-usable.ensures.value c.pages-count.ensures c.in-Some.ensures.map c.in-Some.ensures.there c.in-Some.ensures.leaf)

pub returns-in-None-clause-found : goal.returns-in-None-clause-found
returns-in-None-clause-found g c told =
    no_leaves (g.S.PageSource.plain c.args.source.now) c.usable-usable.result c.pages-count.result c.in-Ok.found
    (subst (λ s. IsWhole (without_maps (g.S.PageSource.plain s)) c.in-Ok.found) c.new-beside.ensures.source (c.in-Ok.ensures.found told))
    c.usable-usable.ensures.value c.pages-count.ensures c.pages-count.type_inv (c.in-None.ensures.none refl)
