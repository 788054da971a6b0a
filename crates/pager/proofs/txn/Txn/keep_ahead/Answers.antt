use Rattle.std.proofs.Common.{◌∙◌, Option, ap, arith, rules, subst, sym}
use Rattle.edge_model.specs.Files.{File, contents}
use Rattle.atomic_commit.specs.Marks.{is_marked}
use Rattle.page_codec.specs.Page.{opened}
use Rattle.pager.specs.File.{page_stored}
use Rattle.pager.specs.UnderWay.{HasNewPages}
use Rattle.pager.proofs.UnderWayLemmas.{ok_map_two}
use Rattle.cipher_profile.specs.declared.profile.Profile.{Profile}
use Rattle.pager.proofs.EndingLemmas.{listed_small}
use Rattle.pager.proofs.txn.Txn.keep_ahead.Goals as goal

-- the conditions, by their places: pages, sizes, ready, under_way
pub guard_ahead-requires : goal.guard_ahead-requires
guard_ahead-requires g c κs within =
    let r = c.requires.1.1 in
    let s = c.args.self.now in (
      within,
      (
        search rules,
        (
          (r.0.0, omega (arith, r.0.1, r.1.0.1), omega (arith, r.0.1, c.pages-pages.type_inv, c.pages-pages.ensures)),
          (
            (s.journal.0 ∙ r.1.0.0, s.journal.1 ∙ r.1.0.1),
            (
              r.1.1.0.0 ∙ s.journal.1 ∙ r.1.0.1,
              (
                r.1.1.0.1,
                (
                  λ told. (r.1.1.1 told).batches,
                  (c.deref_mut.ensures.len ∙ s.buffers.0 ∙ r.1.0.0, omega (arith, listed_small c.profile-listed.result.now c.profile-listed.ensures.listed, ap (λ (p : Profile). p.page_size) c.profile-listed.ensures.value, r.1.0.0)),
                ),
              ),
            ),
          ),
        ),
      ),
    )

pub returns-clause-under_way : goal.returns-clause-under_way
returns-clause-under_way g c =
    let s = c.args.self.now in
    ok_map_two c.guard_ahead.result c.guard_ahead.ensures.batches c.guard_ahead.ensures.main (λ batches main told. record {
      batches = batches told;
      pages = subst (λ (o : Option File). HasNewPages g.start s.write (λ n. is_marked n s.written)
          (λ n. opened s.write n (page_stored s.write (contents o) n)) g.E.Entropy.tells (g.E.Entropy.drawn s.entropy.now) (contents o))
          (sym (main told)) (c.requires.1.1.1.1.1 told).pages;
    })
