use Rattle.std.proofs.Common.{◌≡◌, ◌==◌, ⊎_elim, inl, inr, ℕ, List, [], drop, length, IsTrue, sym, ap, subst, ◌∙◌}
use Rattle.cipher_profile.specs.Profile.{IsListed, usable}
use Rattle.map_pages.specs.Maps.{map_count}
use Rattle.cipher_profile.specs.declared.profile.Profile.{Profile}
use Rattle.fresh_disk.specs.Published.{IsAlone}
use Rattle.edge_model.specs.Files.{Files, main_of}
use Rattle.edge_model.specs.Images.{From, LeavesOnly}
use Rattle.edge_model.specs.Moments.{then_from}
use Rattle.page_codec.specs.Page.{FileKeys, salt_of}
use Rattle.pager.specs.Base.{base_of}
use Rattle.rekey_job.specs.Draws.{FileDraws}
use Rattle.atomic_commit.specs.Facts.{SameFresh}
use Rattle.sqlcipher_tool.specs.Answer.{done}
use Rattle.sqlcipher_tool.specs.Change.{KeepsOrCommits, change_answer, change_status}
use Rattle.sqlcipher_tool.specs.FirstPage.{IsFirstChanged}
use Rattle.sqlcipher_tool.specs.Holding.{HoldsOnly, held_by}
use Rattle.sqlcipher_tool.specs.Opening.{page_count_of}
use Rattle.sqlcipher_tool.specs.Renewal.{WithDraws}
use Rattle.sqlcipher_tool.specs.Maps.{AreMapsFreed, first_plain, has_maps, is_rewritten, versions, versions_at}
use Rattle.sqlcipher_tool.specs.Settle.{IsSettledUnder, SettledDraws, marked_answer}
use Rattle.sqlcipher_tool.specs.Text.{settled_report}
use Rattle.sqlcipher_tool.specs.declared.opening.ChangeError.TheVariants.{Stopped}
use Rattle.sqlcipher_tool.specs.declared.settle.Marks.{Marks}
use Rattle.sqlcipher_tool.specs.declared.settle.Marks.TheVariants.{Maps, Wal, Rollback}
use Rattle.sqlcipher_tool.proofs.Behind.{read_stays, unrefused}
use Rattle.sqlcipher_tool.proofs.Changed.{fault_none}
use Rattle.sqlcipher_tool.proofs.Changing.{after_old, error_not_done, read_fresh, said_so}
use Rattle.sqlcipher_tool.proofs.OpenedParts.{opened_same}
use Rattle.sqlcipher_tool.proofs.SettledFile.{all_dropped, already, draws_ok, kept, kept_run, maps_is, marks_given, marks_stop, some_main}
use Rattle.sqlcipher_tool.proofs.Unmarked.{versions_harmless}
use Rattle.sqlcipher_tool.proofs.Verified.{some_is}
use Rattle.sqlcipher_tool.proofs.settle.settle_pages.Goals as goal

-- the conditions, by their places: base, base_is, sizes, drawn, write, listed, salt, opened, alone, harmless
pub change_first-requires : goal.change_first-requires
change_first-requires g c κs within =
    let d = g.D.Disk in
    let p = c.args.pager in
    let q = c.read_marks.new.pager in
    let r = c.requires.1.1 in
    let file = c.read_marks.ensures.file in
    let read = c.read_marks.ensures.disk.only_read in
    let main : IsTrue d.tells → main_of (d.reads q.disk.now) ≡ main_of (d.reads p.disk.now) = λ told. ap (λ (files : Files). main_of files) (read told).stays in
    let profile : q.codec.profile ≡ p.codec.profile = ap (λ (k : FileKeys). k.profile) file.0 in (
      within.0,
      (
        within.1,
        (
          λ told. r.0 told ∙ sym (ap (λ (k : FileKeys). base_of k (main_of (d.reads q.disk.now)) q.count) file.0
              ∙ ap (λ (l : List ℕ). base_of p.codec l q.count) (main told) ∙ ap (λ (n : ℕ). base_of p.codec (main_of (d.reads p.disk.now)) n) file.2),
          (
            r.1.0,
            (
              (ap (λ (k : Profile). k.page_size) profile ∙ r.1.1.0.0, file.2 ∙ r.1.1.0.1),
              (
                r.1.1.1.0 ∙ sym (ap g.E.Entropy.drawn c.read_marks.ensures.entropy.value),
                (
                  c.again-write.ensures ∙ c.codec.ensures,
                  (
                    subst (λ (k : Profile). IsListed k) (sym profile) r.1.1.1.1.0,
                    (
                      λ told. ap (λ (k : FileKeys). k.salt) file.0 ∙ (r.1.1.1.1.1.1.0 told ∙ sym (ap (λ (l : List ℕ). salt_of l) (main told))),
                      (
                        λ told. opened_same p.codec q.codec (main_of (d.reads p.disk.now)) (main_of (d.reads q.disk.now)) p.header q.header p.count q.count file.0 (main told) file.1 file.2 (r.1.1.1.1.1.1.1.0 told),
                        (
                          λ told image now. subst (λ (l : List ℕ). IsAlone l image) (sym (main told)) (r.1.1.1.1.1.1.1.1 told image ((read told).same_images.no_more image now)),
                          versions_harmless q.codec.profile (ap (λ (k : Profile). k.reads_log) profile ∙ r.1.1.1.1.1.0),
                        ),
                      ),
                    ),
                  ),
                ),
              ),
            ),
          ),
        ),
      ),
    )

pub returns-in-Ok-Wal-clause-told : goal.returns-in-Ok-Wal-clause-told
returns-in-Ok-Wal-clause-told g c = λ told answer same.
    let p = c.args.pager in
    let file = main_of (g.D.Disk.reads p.disk.now) in
    let marks = marks_given p.codec file p.count p.some c.in-Ok-Wal.field-0 Wal (c.in-Ok-Wal.ensures.told told) c.in-Ok-Wal.field-0-is in
    ⊎_elim
    (λ fault. absurd (fault_none c.change_first.result.2 answer fault same))
    (λ is. some_is answer (done c.settled_report-report.result) (sym same ∙ ap change_answer is) ∙ ap (λ (l : List ℕ). done l) c.settled_report-report.ensures
    ∙ ap (λ (m : Marks). marked_answer c.args.frames (map_count (usable p.codec.profile) p.count) m) (sym marks))
    (c.change_first.ensures.told told)

pub returns-in-Ok-Wal-clause-safely : goal.returns-in-Ok-Wal-clause-safely
returns-in-Ok-Wal-clause-safely g c = λ told.
    let d = g.D.Disk in
    let n = g.E.Entropy in
    let p = c.args.pager in
    let q = c.read_marks.new.pager in
    let r = c.requires.1.1 in
    let file = main_of (d.reads p.disk.now) in
    let read = c.read_marks.ensures.disk.only_read told in
    let alone = r.1.1.1.1.1.1.1.1 told in
    let main : main_of (d.reads q.disk.now) ≡ file = ap (λ (files : Files). main_of files) read.stays in
    let marks = marks_given p.codec file p.count p.some c.in-Ok-Wal.field-0 Wal (c.in-Ok-Wal.ensures.told told) c.in-Ok-Wal.field-0-is in
    let status = change_status c.change_first.result.2 in
    let end = c.change_first.result.0.now in
    let after = n.drawn c.change_first.result.1.now in
    let one = subst (λ (k : FileKeys). KeepsOrCommits d.reads d.images d.moment d.since status
    (WithDraws (IsFirstChanged k versions_at versions (main_of (d.reads q.disk.now))) n.tells (λ m. FileDraws k m (λ i. i == 1) 0 (drop (length (n.drawn q.entropy.now)) after)))
    (HoldsOnly (held_by k (main_of (d.reads q.disk.now)))) (λ m. HoldsOnly (held_by k m)) q.disk.now end) c.read_marks.ensures.file.0 (c.change_first.ensures.safely told) in
    let two = subst (λ (l : List ℕ). KeepsOrCommits d.reads d.images d.moment d.since status
    (WithDraws (IsFirstChanged p.codec versions_at versions l) n.tells (λ m. FileDraws p.codec m (λ i. i == 1) 0 (drop (length (n.drawn q.entropy.now)) after)))
    (HoldsOnly (held_by p.codec l)) (λ m. HoldsOnly (held_by p.codec m)) q.disk.now end) main one in
    let three = said_so d.reads d.images d.moment d.since g.met.D.Disk.counts_now g.met.D.Disk.only_now {R = λ m. HoldsOnly (held_by p.codec m)}
    {is_other = WithDraws (IsSettledUnder p.codec file) n.tells (λ m. SettledDraws p.codec m (drop (length (n.drawn p.entropy.now)) after))} status
    (λ m is. (
      inl (marks, is.0),
      λ drawing. inr (inl (subst (λ (x : _). FileDraws p.codec m (λ i. i == 1) 0 (drop (length (n.drawn x)) after)) c.read_marks.ensures.entropy.value (is.1 drawing))),
    ))
    (λ m is image holds. holds) two in
    after_old d.reads d.images d.moment d.since g.met.D.Disk.counts_now g.met.D.Disk.only_now status
    (kept_run d.reads d.images d.moment d.since g.met.D.Disk.counts_now g.met.D.Disk.only_now p.codec file p.disk.now q.disk.now alone read) three

pub returns-in-Ok-Wal-clause-fresh : goal.returns-in-Ok-Wal-clause-fresh
returns-in-Ok-Wal-clause-fresh g c = λ told.
    let d = g.D.Disk in
    then_from g.met.D.Disk.counts_now (λ a b e ab be. be ∙ ab)
    (read_fresh d.reads d.images d.moment d.since g.met.D.Disk.counts_now g.met.D.Disk.only_now (c.read_marks.ensures.disk.only_read told)) (c.change_first.ensures.fresh told)

pub returns-in-Ok-Wal-clause-stays : goal.returns-in-Ok-Wal-clause-stays
returns-in-Ok-Wal-clause-stays g c = unrefused _ c.change_first.result.2 c.settled_report-report.result c.change_first.ensures.told

pub returns-in-Ok-Wal-clause-own_draws : goal.returns-in-Ok-Wal-clause-own_draws
returns-in-Ok-Wal-clause-own_draws g c =
    let n = g.E.Entropy in
    let main = main_of (g.D.Disk.reads c.change_first.result.0.now) in
    let after = n.drawn c.change_first.result.1.now in
    draws_ok (IsTrue g.D.Disk.tells) (IsTrue n.tells) c.change_first.result.2 c.change_first.ensures.own_draws (λ draws.
    inr (inl (subst (λ (x : _). FileDraws c.args.pager.codec main (λ i. i == 1) 0 (drop (length (n.drawn x)) after)) c.read_marks.ensures.entropy.value
    (subst (λ (k : FileKeys). FileDraws k main (λ i. i == 1) 0 (drop (length (n.drawn c.read_marks.new.pager.entropy.now)) after)) c.read_marks.ensures.file.0 draws))))

pub returns-in-Ok-Rollback-clause-safely : goal.returns-in-Ok-Rollback-clause-safely
returns-in-Ok-Rollback-clause-safely g c = λ told.
    let d = g.D.Disk in
    let n = g.E.Entropy in
    let p = c.args.pager in
    let r = c.requires.1.1 in
    let file = main_of (d.reads p.disk.now) in
    let q = c.read_marks.new.pager in
    let end = c.into_parts-disk.result in
    let marks = marks_given p.codec file p.count p.some c.in-Ok-Rollback.field-0 Rollback (c.in-Ok-Rollback.ensures.told told) c.in-Ok-Rollback.field-0-is in
    let undrawn : n.drawn end.1.now ≡ n.drawn p.entropy.now = ap n.drawn (c.into_parts-disk.ensures.entropy.1 ∙ c.read_marks.ensures.entropy.value) in
    let read = subst (λ (x : _). Rattle.edge_model.specs.OnlyRead.OnlyRead d.reads d.images d.moment d.since p.disk.now x) (sym c.into_parts-disk.ensures.disk.1) (c.read_marks.ensures.disk.only_read told) in
    let none : drop (length (n.drawn p.entropy.now)) (n.drawn end.1.now) ≡ [] =
    ap (λ (l : List ℕ). drop (length (n.drawn p.entropy.now)) l) undrawn ∙ all_dropped (n.drawn p.entropy.now) in
    already d.reads d.images d.moment d.since g.met.D.Disk.counts_now g.met.D.Disk.only_now p.codec file p.disk.now end.0.now (r.1.1.1.1.1.1.1.1 told) read n.tells
    (drop (length (n.drawn p.entropy.now)) (n.drawn end.1.now)) marks none
    (some_main (d.reads end.0.now) (d.reads p.disk.now) read.stays p.codec p.header p.count (r.1.1.1.1.1.1.1.0 told) r.1.1.1.1.0)

pub returns-in-Ok-Rollback-clause-fresh : goal.returns-in-Ok-Rollback-clause-fresh
returns-in-Ok-Rollback-clause-fresh g c = λ told.
    let d = g.D.Disk in
    let p = c.args.pager in
    subst (λ (x : _). LeavesOnly d.moment d.since p.disk.now x (From SameFresh (d.images p.disk.now))) (sym c.into_parts-disk.ensures.disk.1)
    (read_fresh d.reads d.images d.moment d.since g.met.D.Disk.counts_now g.met.D.Disk.only_now (c.read_marks.ensures.disk.only_read told))

-- the conditions, by their places: base, base_is, sizes, drawn, write, listed, salt, opened, alone, passes
pub free_maps-requires : goal.free_maps-requires
free_maps-requires g c κs within =
    let d = g.D.Disk in
    let p = c.args.pager in
    let q = c.read_marks.new.pager in
    let r = c.requires.1.1 in
    let file = c.read_marks.ensures.file in
    let read = c.read_marks.ensures.disk.only_read in
    let main : IsTrue d.tells → main_of (d.reads q.disk.now) ≡ main_of (d.reads p.disk.now) = λ told. ap (λ (files : Files). main_of files) (read told).stays in
    let profile : q.codec.profile ≡ p.codec.profile = ap (λ (k : FileKeys). k.profile) file.0 in (
      within.0,
      (
        within.1,
        (
          λ told. r.0 told ∙ sym (ap (λ (k : FileKeys). base_of k (main_of (d.reads q.disk.now)) q.count) file.0
              ∙ ap (λ (l : List ℕ). base_of p.codec l q.count) (main told) ∙ ap (λ (n : ℕ). base_of p.codec (main_of (d.reads p.disk.now)) n) file.2),
          (
            r.1.0,
            (
              (ap (λ (k : Profile). k.page_size) profile ∙ r.1.1.0.0, file.2 ∙ r.1.1.0.1),
              (
                r.1.1.1.0 ∙ sym (ap g.E.Entropy.drawn c.read_marks.ensures.entropy.value),
                (
                  c.again-write-in-Ok-Maps.ensures ∙ c.codec-in-Ok-Maps.ensures,
                  (
                    subst (λ (k : Profile). IsListed k) (sym profile) r.1.1.1.1.0,
                    (
                      λ told. ap (λ (k : FileKeys). k.salt) file.0 ∙ (r.1.1.1.1.1.1.0 told ∙ sym (ap (λ (l : List ℕ). salt_of l) (main told))),
                      (
                        λ told. opened_same p.codec q.codec (main_of (d.reads p.disk.now)) (main_of (d.reads q.disk.now)) p.header q.header p.count q.count file.0 (main told) file.1 file.2 (r.1.1.1.1.1.1.1.0 told),
                        (
                          λ told image now. subst (λ (l : List ℕ). IsAlone l image) (sym (main told)) (r.1.1.1.1.1.1.1.1 told image ((read told).same_images.no_more image now)),
                          (
                            ap (λ (k : Profile). k.reads_log) profile ∙ r.1.1.1.1.1.0,
                            λ told. ap (λ (k : FileKeys). has_maps (first_plain k (main_of (d.reads q.disk.now)))) file.0 ∙ (ap (λ (l : List ℕ). has_maps (first_plain p.codec l)) (main told)
                                ∙ maps_is (first_plain p.codec (main_of (d.reads p.disk.now))) (marks_given p.codec (main_of (d.reads p.disk.now)) p.count p.some c.in-Ok-Maps.field-0 Maps (c.in-Ok-Maps.ensures.told told) c.in-Ok-Maps.field-0-is)),
                          ),
                        ),
                      ),
                    ),
                  ),
                ),
              ),
            ),
          ),
        ),
      ),
    )

pub returns-in-Ok-Maps-clause-told : goal.returns-in-Ok-Maps-clause-told
returns-in-Ok-Maps-clause-told g c = λ told answer same.
    let p = c.args.pager in
    let file = main_of (g.D.Disk.reads p.disk.now) in
    let marks = marks_given p.codec file p.count p.some c.in-Ok-Maps.field-0 Maps (c.in-Ok-Maps.ensures.told told) c.in-Ok-Maps.field-0-is in
    let counted : map_count c.usable.result c.pages.result ≡ map_count (usable p.codec.profile) p.count =
    ap (λ (u : ℕ). map_count u c.pages.result) c.usable.ensures.value ∙ ap (λ (n : ℕ). map_count (usable p.codec.profile) n) c.pages.ensures in
    ⊎_elim
    (λ fault. absurd (fault_none c.free_maps.result.2 answer fault same))
    (λ is. some_is answer (done c.settled_report-freed.result) (sym same ∙ ap change_answer is) ∙ ap (λ (l : List ℕ). done l) c.settled_report-freed.ensures ∙ ap (λ (n : ℕ). done (settled_report c.args.frames n)) (c.from.ensures ∙ (c.map_count-maps.ensures ∙ counted))
    ∙ ap (λ (m : Marks). marked_answer c.args.frames (map_count (usable p.codec.profile) p.count) m) (sym marks))
    (c.free_maps.ensures.told told)

pub returns-in-Ok-Maps-clause-safely : goal.returns-in-Ok-Maps-clause-safely
returns-in-Ok-Maps-clause-safely g c = λ told.
    let d = g.D.Disk in
    let n = g.E.Entropy in
    let p = c.args.pager in
    let q = c.read_marks.new.pager in
    let r = c.requires.1.1 in
    let file = main_of (d.reads p.disk.now) in
    let read = c.read_marks.ensures.disk.only_read told in
    let alone = r.1.1.1.1.1.1.1.1 told in
    let main : main_of (d.reads q.disk.now) ≡ file = ap (λ (files : Files). main_of files) read.stays in
    let marks = marks_given p.codec file p.count p.some c.in-Ok-Maps.field-0 Maps (c.in-Ok-Maps.ensures.told told) c.in-Ok-Maps.field-0-is in
    let status = change_status c.free_maps.result.2 in
    let end = c.free_maps.result.0.now in
    let after = n.drawn c.free_maps.result.1.now in
    let one = subst (λ (k : FileKeys). KeepsOrCommits d.reads d.images d.moment d.since status
    (WithDraws (AreMapsFreed k k (main_of (d.reads q.disk.now))) n.tells (λ m. FileDraws k m (is_rewritten (usable k.profile) (page_count_of k m)) 0 (drop (length (n.drawn q.entropy.now)) after)))
    (HoldsOnly (held_by k (main_of (d.reads q.disk.now)))) (λ m. HoldsOnly (held_by k m)) q.disk.now end) c.read_marks.ensures.file.0 (c.free_maps.ensures.safely told) in
    let two = subst (λ (l : List ℕ). KeepsOrCommits d.reads d.images d.moment d.since status
    (WithDraws (AreMapsFreed p.codec p.codec l) n.tells (λ m. FileDraws p.codec m (is_rewritten (usable p.codec.profile) (page_count_of p.codec m)) 0 (drop (length (n.drawn q.entropy.now)) after)))
    (HoldsOnly (held_by p.codec l)) (λ m. HoldsOnly (held_by p.codec m)) q.disk.now end) main one in
    let three = said_so d.reads d.images d.moment d.since g.met.D.Disk.counts_now g.met.D.Disk.only_now {R = λ m. HoldsOnly (held_by p.codec m)}
    {is_other = WithDraws (IsSettledUnder p.codec file) n.tells (λ m. SettledDraws p.codec m (drop (length (n.drawn p.entropy.now)) after))} status
    (λ m is. (
      inr (inr (marks, is.0)),
      λ drawing. inr (inr (subst (λ (x : _). FileDraws p.codec m (is_rewritten (usable p.codec.profile) (page_count_of p.codec m)) 0 (drop (length (n.drawn x)) after)) c.read_marks.ensures.entropy.value (is.1 drawing))),
    ))
    (λ m is image holds. holds) two in
    after_old d.reads d.images d.moment d.since g.met.D.Disk.counts_now g.met.D.Disk.only_now status
    (kept_run d.reads d.images d.moment d.since g.met.D.Disk.counts_now g.met.D.Disk.only_now p.codec file p.disk.now q.disk.now alone read) three

pub returns-in-Ok-Maps-clause-fresh : goal.returns-in-Ok-Maps-clause-fresh
returns-in-Ok-Maps-clause-fresh g c = λ told.
    let d = g.D.Disk in
    then_from g.met.D.Disk.counts_now (λ a b e ab be. be ∙ ab)
    (read_fresh d.reads d.images d.moment d.since g.met.D.Disk.counts_now g.met.D.Disk.only_now (c.read_marks.ensures.disk.only_read told)) (c.free_maps.ensures.fresh told)

pub returns-in-Ok-Maps-clause-stays : goal.returns-in-Ok-Maps-clause-stays
returns-in-Ok-Maps-clause-stays g c = unrefused _ c.free_maps.result.2 c.settled_report-freed.result c.free_maps.ensures.told

pub returns-in-Ok-Maps-clause-own_draws : goal.returns-in-Ok-Maps-clause-own_draws
returns-in-Ok-Maps-clause-own_draws g c =
    let n = g.E.Entropy in
    let main = main_of (g.D.Disk.reads c.free_maps.result.0.now) in
    let after = n.drawn c.free_maps.result.1.now in
    draws_ok (IsTrue g.D.Disk.tells) (IsTrue n.tells) c.free_maps.result.2 c.free_maps.ensures.own_draws (λ draws.
    inr (inr (subst (λ (x : _). FileDraws c.args.pager.codec main (is_rewritten (usable c.args.pager.codec.profile) (page_count_of c.args.pager.codec main)) 0 (drop (length (n.drawn x)) after)) c.read_marks.ensures.entropy.value
    (subst (λ (k : FileKeys). FileDraws k main (is_rewritten (usable k.profile) (page_count_of k main)) 0 (drop (length (n.drawn c.read_marks.new.pager.entropy.now)) after)) c.read_marks.ensures.file.0 draws))))

pub returns-in-Err-clause-told : goal.returns-in-Err-clause-told
returns-in-Err-clause-told g c = λ told answer same.
    let p = c.args.pager in
    let r = c.requires.1.1 in
    absurd (marks_stop g.D.Disk.tells p.codec (main_of (g.D.Disk.reads p.disk.now)) p.header p.count p.some r.1.1.1.1.0 told (r.1.1.1.1.1.1.1.0 told) c.in-Err.stop answer c.in-Err.ensures.stop same)

pub returns-in-Err-clause-safely : goal.returns-in-Err-clause-safely
returns-in-Err-clause-safely g c = λ told.
    let d = g.D.Disk in
    let p = c.args.pager in
    let read = subst (λ (x : _). Rattle.edge_model.specs.OnlyRead.OnlyRead d.reads d.images d.moment d.since p.disk.now x) (sym c.into_parts-disk-in-Err.ensures.disk.1) (c.read_marks.ensures.disk.only_read told) in
    inl (kept d.reads d.images d.moment d.since g.met.D.Disk.counts_now g.met.D.Disk.only_now p.codec (main_of (d.reads p.disk.now)) p.disk.now _
    (c.requires.1.1.1.1.1.1.1.1.1.1 told) read _ (error_not_done (Stopped c.in-Err.stop)))

pub returns-in-Err-clause-fresh : goal.returns-in-Err-clause-fresh
returns-in-Err-clause-fresh g c = λ told.
    let d = g.D.Disk in
    let p = c.args.pager in
    subst (λ (x : _). LeavesOnly d.moment d.since p.disk.now x (From SameFresh (d.images p.disk.now))) (sym c.into_parts-disk-in-Err.ensures.disk.1)
    (read_fresh d.reads d.images d.moment d.since g.met.D.Disk.counts_now g.met.D.Disk.only_now (c.read_marks.ensures.disk.only_read told))

pub returns-in-Err-clause-stays : goal.returns-in-Err-clause-stays
returns-in-Err-clause-stays g c = λ refused told image now.
    let d = g.D.Disk in
    read_stays (c.read_marks.ensures.disk.only_read told) image (subst (λ (x : _). d.images x image) c.into_parts-disk-in-Err.ensures.disk.1 now)
