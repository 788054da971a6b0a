use Rattle.std.proofs.Common.{◌≡◌, length, refl, rules, sym, ap, subst, ◌∙◌, arith}
use Rattle.cipher_profile.specs.declared.profile.Profile.{Profile}
use Rattle.cipher_profile.specs.Profile.{IsLaidOut, IsListed}
use Rattle.cipher_profile.proofs.Layouts.{IsListed-laid_out}
use Rattle.page_codec.specs.Page.{FileKeys}
use Rattle.edge_model.specs.Files.{main_of}
use Rattle.pager.proofs.UnderWayLemmas.{ok_map}
use Rattle.atomic_commit.specs.Database.{Base}
use Rattle.atomic_commit.specs.Facts.{IsCommitBegun}
use Rattle.rollback_journal.proofs.WriterRuns.{ok_two}
use Rattle.rekey_job.proofs.Committed.{at_moments, now_drawn, now_rekeyed, told_new, told_old, told_one}
use Rattle.pager.proofs.Bases.{base_sizes, is_base, told_base}
use Rattle.rekey_job.proofs.job.rekey_clean.Goals as goal

-- the conditions, by their places: layout, salt, begun, clean, leaves
pub rewrite_pages-requires : goal.rewrite_pages-requires
rewrite_pages-requires g c κs within =
    let p = c.args.pager in
    let file = main_of (g.D.Disk.reads p.disk.now) in
    let r = c.requires in (
      within.0,
      (
        within.1,
        (
          r.layout,
          (
            base_sizes g.D.Disk.tells p.codec file p.count,
            (
              refl,
              (
                is_base g.D.Disk.tells p.codec file p.count (omega (arith, p.lendable.least)) p.some (λ told. (r.begun told).base_is),
                (
                  λ told. subst (λ (b : Base). IsCommitBegun b (g.D.Disk.images p.disk.now)) (sym (told_base g.D.Disk.tells p.codec file p.count told)) (r.begun told),
                  (λ told. ap (λ (b : Base). b.start) (told_base g.D.Disk.tells p.codec file p.count told), (r.clean, r.leaves)),
                ),
              ),
            ),
          ),
        ),
      ),
    )

pub returns-clause-rekeyed : goal.returns-clause-rekeyed
returns-clause-rekeyed g c =
    let p = c.args.pager in
    let r = c.requires in
    let salt_long : length c.args.write.salt ≡ 16 = search rules in
    let laid_out : IsLaidOut c.args.write.profile × IsLaidOut p.codec.profile = (
      IsListed-laid_out c.args.write.profile (subst (λ (q : Profile). IsListed q) c.profile-new.ensures.value c.profile-new.ensures.listed),
      IsListed-laid_out p.codec.profile (subst (λ (q : Profile). IsListed q) (c.profile-old.ensures.value ∙ ap (λ (k : FileKeys). k.profile) c.codec.ensures) c.profile-old.ensures.listed),
    ) in
    let end = c.rewrite_pages.result.0.now in
    ok_two c.rewrite_pages.result.2 (λ changed new told. now_rekeyed g.D.Disk.tells p.codec c.args.write p.count (g.D.Disk.reads p.disk.now) (g.D.Disk.images p.disk.now)
    g.E.Entropy.tells (g.E.Entropy.drawn p.entropy.now) (g.E.Entropy.drawn c.rewrite_pages.result.1.now) r.layout p.some (omega (arith, p.lendable.least)) told (g.met.D.Disk.reads_now p.disk.now)
    (r.salt told) salt_long (r.begun told) (r.clean told) laid_out (g.D.Disk.reads end) (g.D.Disk.images end) (g.met.D.Disk.reads_now end) (changed told) (new told))
    c.rewrite_pages.ensures.changed c.rewrite_pages.ensures.new

pub returns-clause-own_draws : goal.returns-clause-own_draws
returns-clause-own_draws g c =
    let p = c.args.pager in
    let r = c.requires in
    let salt_long : length c.args.write.salt ≡ 16 = search rules in
    let laid_out : IsLaidOut c.args.write.profile × IsLaidOut p.codec.profile = (
      IsListed-laid_out c.args.write.profile (subst (λ (q : Profile). IsListed q) c.profile-new.ensures.value c.profile-new.ensures.listed),
      IsListed-laid_out p.codec.profile (subst (λ (q : Profile). IsListed q) (c.profile-old.ensures.value ∙ ap (λ (k : FileKeys). k.profile) c.codec.ensures) c.profile-old.ensures.listed),
    ) in
    ok_map c.rewrite_pages.result.2 c.rewrite_pages.ensures.changed (λ changed told. now_drawn g.D.Disk.tells p.codec c.args.write p.count (g.D.Disk.reads p.disk.now) (g.D.Disk.images p.disk.now)
    g.E.Entropy.tells (g.E.Entropy.drawn p.entropy.now) (g.E.Entropy.drawn c.rewrite_pages.result.1.now) r.layout p.some (omega (arith, p.lendable.least)) told (g.met.D.Disk.reads_now p.disk.now)
    (r.salt told) salt_long (r.begun told) (r.clean told) laid_out (g.D.Disk.reads c.rewrite_pages.result.0.now) (changed told))

pub returns-clause-new : goal.returns-clause-new
returns-clause-new g c =
    let p = c.args.pager in
    let end = c.rewrite_pages.result.0.now in
    ok_map c.rewrite_pages.result.2 c.rewrite_pages.ensures.new
    (λ new told. told_new g.D.Disk.tells p.codec p.count (main_of (g.D.Disk.reads p.disk.now)) (g.D.Disk.images end) (g.D.Disk.reads end) told (new told))

pub returns-clause-any_moment : goal.returns-clause-any_moment
returns-clause-any_moment g c told =
    let p = c.args.pager in
    let r = c.requires in
    let salt_long : length c.args.write.salt ≡ 16 = search rules in
    let laid_out : IsLaidOut c.args.write.profile × IsLaidOut p.codec.profile = (
      IsListed-laid_out c.args.write.profile (subst (λ (q : Profile). IsListed q) c.profile-new.ensures.value c.profile-new.ensures.listed),
      IsListed-laid_out p.codec.profile (subst (λ (q : Profile). IsListed q) (c.profile-old.ensures.value ∙ ap (λ (k : FileKeys). k.profile) c.codec.ensures) c.profile-old.ensures.listed),
    ) in
    at_moments g.D.Disk.tells p.codec c.args.write p.count (g.D.Disk.reads p.disk.now) (g.D.Disk.images p.disk.now)
    g.E.Entropy.tells (g.E.Entropy.drawn p.entropy.now) (g.E.Entropy.drawn c.rewrite_pages.result.1.now) r.layout p.some (omega (arith, p.lendable.least)) told (g.met.D.Disk.reads_now p.disk.now)
    (r.salt told) salt_long (r.begun told) (r.clean told) laid_out g.D.Disk.moment g.D.Disk.since p.disk.now c.rewrite_pages.result.0.now (c.rewrite_pages.ensures.any_moment told)

pub returns-clause-one_new : goal.returns-clause-one_new
returns-clause-one_new g c =
    let p = c.args.pager in
    let end = c.rewrite_pages.result.0.now in
    ok_map c.rewrite_pages.result.2 c.rewrite_pages.ensures.one_new
    (λ one told. told_one g.D.Disk.tells p.codec p.count (main_of (g.D.Disk.reads p.disk.now)) g.D.Disk.moment g.D.Disk.since p.disk.now end (g.D.Disk.reads end) told (one told))

pub returns-clause-only_old : goal.returns-clause-only_old
returns-clause-only_old g c is told =
    let p = c.args.pager in
    told_old g.D.Disk.tells p.codec p.count (main_of (g.D.Disk.reads p.disk.now)) g.D.Disk.moment g.D.Disk.since p.disk.now c.rewrite_pages.result.0.now told (c.rewrite_pages.ensures.only_old is told)
