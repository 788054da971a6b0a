use Rattle.std.proofs.Common.{◌≡◌, ⊎_elim, inl, ◌≤◌, ◌==◌, ℕ, List, [], drop, length, Option, Result, Ok, Err, IsTrue, refl, sym, ap, subst, ◌∙◌, arith, rules}
use Rattle.std.specs.Int.{w32, to_be_bytes}
use Rattle.std.specs.Prelude.{OnOk, unwrap_or}
use Rattle.fresh_disk.specs.Published.{IsAlone}
use Rattle.edge_model.specs.Files.{Files, main_of}
use Rattle.edge_model.specs.Images.{From, LeavesOnly}
use Rattle.edge_model.specs.Moments.{then_from}
use Rattle.cipher_profile.specs.Profile.{IsListed}
use Rattle.cipher_profile.specs.declared.profile.Profile.{Profile}
use Rattle.page_codec.specs.Page.{FileKeys, keys_of, salt_of}
use Rattle.pager.specs.Opening.{file_opened}
use Rattle.atomic_commit.specs.Facts.{SameFresh}
use Rattle.sqlcipher_tool.specs.Answer.{done}
use Rattle.sqlcipher_tool.specs.Change.{KeepsOrCommits, change_answer, change_status}
use Rattle.sqlcipher_tool.specs.Holding.{HoldsOnly, held_by}
use Rattle.sqlcipher_tool.specs.Opening.{opened_with}
use Rattle.rekey_job.specs.Draws.{FileDraws}
use Rattle.sqlcipher_tool.specs.Renewal.{WithDraws}
use Rattle.sqlcipher_tool.specs.FirstPage.{IsFirstChanged, IsHarmless}
use Rattle.sqlcipher_tool.specs.Stamp.{IsStamped, field_at, stamped_answer}
use Rattle.sqlcipher_tool.specs.Text.{stamped_report}
use Rattle.sqlcipher_tool.specs.declared.status.Status.{Status}
use Rattle.sqlcipher_tool.specs.declared.status.Status.TheVariants.{Done}
use Rattle.sqlcipher_tool.proofs.Behind.{read_stays, unrefused}
use Rattle.sqlcipher_tool.proofs.Changing.{after_old, read_fresh, read_only, said_so, stop_not_done}
use Rattle.sqlcipher_tool.proofs.OpenedParts.{open_parts, opened_same}
use Rattle.sqlcipher_tool.proofs.Databases.{told_base}
use Rattle.sqlcipher_tool.proofs.FirstBytes.{fitting_salt}
use Rattle.sqlcipher_tool.proofs.Harmless.{field_harmless}
use Rattle.sqlcipher_tool.proofs.Stamping.{same_keys, starts}
use Rattle.sqlcipher_tool.proofs.Changed.{fault_none}
use Rattle.sqlcipher_tool.proofs.Verified.{some_is}
use Rattle.sqlcipher_tool.proofs.VerifiedFile.{unopened_stamp}
use Rattle.sqlcipher_tool.proofs.LeftAlone.{is_opened}
use Rattle.sqlcipher_tool.proofs.stamp.stamp_file.Goals as goal

pub returns-in-Err-clause-told : goal.returns-in-Err-clause-told
returns-in-Err-clause-told g c = λ told answer same.
    unopened_stamp c.in-Err.stop (opened_with c.args.profile c.args.secret.now (main_of (g.D.Disk.reads c.args.disk.now))) answer (c.in-Err.ensures.stop told) same

pub returns-in-Err-clause-safely : goal.returns-in-Err-clause-safely
returns-in-Err-clause-safely g c = λ told start.
    let d = g.D.Disk in
    inl (record {
      any_moment = read_only d.reads d.images d.moment d.since g.met.D.Disk.counts_now g.met.D.Disk.only_now start (c.open_main.ensures.only_read told);
      not_done = stop_not_done c.in-Err.stop;
    })

pub returns-in-Err-clause-fresh : goal.returns-in-Err-clause-fresh
returns-in-Err-clause-fresh g c = λ told.
    let d = g.D.Disk in
    read_fresh d.reads d.images d.moment d.since g.met.D.Disk.counts_now g.met.D.Disk.only_now (c.open_main.ensures.only_read told)

-- the conditions, by their places: base, base_is, sizes, drawn, write, listed, salt, opened, alone, harmless
pub change_first-disk-requires : goal.change_first-disk-requires
change_first-disk-requires g c κs within =
    let d = g.D.Disk in
    let p = c.into_pager-pager.result in
    let made = c.into_pager-pager.ensures in
    let main = main_of (d.reads p.disk.now) in
    let file = main_of (d.reads c.args.disk.now) in
    let keys = keys_of c.args.profile c.args.secret.now file in
    let codec : IsTrue d.tells → p.codec ≡ keys = λ told. made.file.0 ∙ c.in-Ok.ensures.codec told in
    let same : IsTrue d.tells → main ≡ file = λ told. ap (λ (x : _). main_of (d.reads x)) made.disk.1 ∙ ap (λ (files : Files). main_of files) (c.open_main.ensures.only_read told).stays in
    let opened : IsTrue d.tells → file_opened p.codec main ≡ Ok (record { header = p.header; count = p.count }) = λ told.
    opened_same keys p.codec file main _ p.header _ p.count (codec told) (same told) made.file.1 made.file.2 (c.in-Ok.ensures.opens told) in
    let sized : 1 ≤ p.codec.profile.page_size = omega (arith, p.lendable.least) in (
      within.0,
      (
        within.1,
        (
          λ told. told_base d.tells p.codec main p.count told,
          (
            starts d.tells p.codec main p.header p.count sized made.some opened,
            (
              (refl, refl),
              (
                refl,
                (
                  search rules,
                  (
                    subst (λ (profile : Profile). IsListed profile) (sym (ap (λ (k : FileKeys). k.profile) made.file.0 ∙ c.in-Ok.ensures.profile)) c.requires.listed,
                    (
                      λ told.
                          let is_open = open_parts keys file _ _ (c.in-Ok.ensures.opens told) in
                          ap (λ (k : FileKeys). k.salt) (codec told)
                          ∙ (fitting_salt c.args.profile c.args.secret.now file c.requires.listed is_open.fit ∙ ap (λ (l : List ℕ). salt_of l) (sym (same told))),
                      (
                        opened,
                        (
                          λ told image now.
                              let read = c.open_main.ensures.only_read told in
                              let is_open = open_parts keys file _ _ (c.in-Ok.ensures.opens told) in
                              let at_first = read.same_images.no_more image (subst (λ (x : _). d.images x image) made.disk.1 now) in
                              subst (λ (l : List ℕ). IsAlone l image) (sym (same told)) (c.requires.alone told is_open.long image at_first),
                          subst (λ (k : ℕ). IsHarmless p.codec.profile k c.u32_bytes-bytes.result) (sym c.field_at.ensures.value)
                              (subst (λ (l : List ℕ). IsHarmless p.codec.profile (field_at c.args.field) l) (sym c.u32_bytes-bytes.ensures) (field_harmless p.codec.profile c.args.field c.args.value)),
                        ),
                      ),
                    ),
                  ),
                ),
              ),
            ),
          ),
        ),
      ),
    )

pub returns-clause-told : goal.returns-clause-told
returns-clause-told g c = λ told answer same. ⊎_elim
    (λ fault. absurd (fault_none c.change_first-disk.result.2 answer fault same))
    (λ is. some_is answer (done stamped_report) (sym same ∙ ap change_answer (is ∙ ap (λ (l : List ℕ). Ok l) c.stamped_report-report.ensures)) ∙ sym (ap stamped_answer (c.in-Ok.ensures.opens told)))
    (c.change_first-disk.ensures.told told)

pub returns-clause-safely : goal.returns-clause-safely
returns-clause-safely g c = λ told start.
    let d = g.D.Disk in
    let p = c.into_pager-pager.result in
    let read = c.open_main.ensures.only_read told in
    let made = c.into_pager-pager.ensures.disk.1 in
    let file = main_of (d.reads c.args.disk.now) in
    let secret = c.args.secret.now in
    let profile = c.args.profile in
    let keys = keys_of profile secret file in
    let status = change_status c.change_first-disk.result.2 in
    let end = c.change_first-disk.result.0.now in
    let n = g.E.Entropy in
    let after = n.drawn c.change_first-disk.result.1.now in
    let own : FileKeys → List ℕ → Type 0 = λ k m. FileDraws k m (λ i. i == 1) 0 (drop (length (n.drawn p.entropy.now)) after) in
    let drawn = drop (length (n.drawn c.args.entropy.now)) after in
    let codec : p.codec ≡ keys = c.into_pager-pager.ensures.file.0 ∙ c.in-Ok.ensures.codec told in
    let same : main_of (d.reads p.disk.now) ≡ file = ap (λ (x : _). main_of (d.reads x)) made ∙ ap (λ (files : Files). main_of files) read.stays in
    let bytes = subst (λ (l : List ℕ). KeepsOrCommits d.reads d.images d.moment d.since status (WithDraws (IsFirstChanged p.codec c.field_at.result l (main_of (d.reads p.disk.now))) n.tells (own p.codec))
    (HoldsOnly (held_by p.codec (main_of (d.reads p.disk.now)))) (λ m. HoldsOnly (held_by p.codec m)) p.disk.now end) c.u32_bytes-bytes.ensures (c.change_first-disk.ensures.safely told) in
    let zero = subst (λ (k : ℕ). KeepsOrCommits d.reads d.images d.moment d.since status (WithDraws (IsFirstChanged p.codec k (to_be_bytes w32 c.args.value) (main_of (d.reads p.disk.now))) n.tells (own p.codec))
    (HoldsOnly (held_by p.codec (main_of (d.reads p.disk.now)))) (λ m. HoldsOnly (held_by p.codec m)) p.disk.now end) c.field_at.ensures.value bytes in
    let one = subst (λ (k : FileKeys). KeepsOrCommits d.reads d.images d.moment d.since status (WithDraws (IsStamped k c.args.field c.args.value (main_of (d.reads p.disk.now))) n.tells (own k))
    (HoldsOnly (held_by k (main_of (d.reads p.disk.now)))) (λ m. HoldsOnly (held_by k m)) p.disk.now end) codec zero in
    let two = subst (λ (l : List ℕ). KeepsOrCommits d.reads d.images d.moment d.since status (WithDraws (IsStamped keys c.args.field c.args.value l) n.tells (own keys))
    (HoldsOnly (held_by keys l)) (λ m. HoldsOnly (held_by keys m)) p.disk.now end) same one in
    let three = said_so d.reads d.images d.moment d.since g.met.D.Disk.counts_now g.met.D.Disk.only_now {R = λ m. HoldsOnly (held_by (keys_of profile secret m) m)}
    {is_other = WithDraws (IsStamped keys c.args.field c.args.value file) n.tells (λ m. FileDraws (keys_of profile secret m) m (λ i. i == 1) 0 drawn)} status
    (λ m is. (
      is.0,
      λ drawing. subst (λ (k : FileKeys). FileDraws k m (λ i. i == 1) 0 drawn) (sym (same_keys profile secret m file is.0.salt))
          (subst (λ (x : _). FileDraws keys m (λ i. i == 1) 0 (drop (length (n.drawn x)) after)) c.into_pager-pager.ensures.entropy.1 (is.1 drawing)),
    ))
    (λ m is image holds. subst (λ (k : FileKeys). HoldsOnly (held_by k m) image) (sym (same_keys profile secret m file is.0.salt)) holds) two in
    let first : LeavesOnly d.moment d.since c.args.disk.now p.disk.now (HoldsOnly (held_by keys file)) =
    rw made (read_only d.reads d.images d.moment d.since g.met.D.Disk.counts_now g.met.D.Disk.only_now start read) in
    let last : c.disk-1.given.0 ≡ end = search rules in
    let drawn_last : c.entropy-1.given.0 ≡ c.change_first-disk.result.1.now = search rules in
    rw (last, drawn_last) (after_old d.reads d.images d.moment d.since g.met.D.Disk.counts_now g.met.D.Disk.only_now status first three)

pub returns-clause-fresh : goal.returns-clause-fresh
returns-clause-fresh g c = λ told.
    let d = g.D.Disk in
    let p = c.into_pager-pager.result in
    let made = c.into_pager-pager.ensures.disk.1 in
    let end = c.change_first-disk.result.0.now in
    let first : LeavesOnly d.moment d.since c.args.disk.now p.disk.now (From SameFresh (d.images c.args.disk.now)) =
    rw made (read_fresh d.reads d.images d.moment d.since g.met.D.Disk.counts_now g.met.D.Disk.only_now (c.open_main.ensures.only_read told)) in
    let last : c.disk-1.given.0 ≡ end = search rules in
    rw last (then_from g.met.D.Disk.counts_now (λ a b e ab be. be ∙ ab) first (c.change_first-disk.ensures.fresh told))

pub returns-in-Err-clause-unopened : goal.returns-in-Err-clause-unopened
returns-in-Err-clause-unopened g c = λ told err. c.open_main.ensures.only_read told

pub returns-clause-unopened : goal.returns-clause-unopened
returns-clause-unopened g c = λ told err. is_opened _ _ (c.in-Ok.ensures.opens told) err

pub returns-in-Err-clause-stays : goal.returns-in-Err-clause-stays
returns-in-Err-clause-stays g c = λ refused told. read_stays (c.open_main.ensures.only_read told)

pub returns-clause-stays : goal.returns-clause-stays
returns-clause-stays g c = unrefused _ c.change_first-disk.result.2 c.stamped_report-report.result c.change_first-disk.ensures.told

-- after Done Main is the new file
committed_new : {D : Type 0} (reads : D → Files) (images : D → Files → Type 0) (moment : D → ℕ) (since : D → ℕ → Files → Type 0) (status : Status) (new_file : List ℕ → Type 0)
    (old_one : Files → Type 0) (new_one : List ℕ → Files → Type 0) (old new : D) → status ≡ Done → KeepsOrCommits reads images moment since status new_file old_one new_one old new
    → new_file (main_of (reads new))
committed_new reads images moment since status new_file old_one new_one old new is run = ⊎_elim (λ kept. absurd (kept.not_done is))
    (λ commits. subst new_file (sym (ap (λ (o : Option (List ℕ)). unwrap_or o []) (commits.is_main is))) commits.is_new) run

ok_with : {T E : Type 0} {A C : Type 0} (r : Result T E) → OnOk r A → ((x : T) → r ≡ Ok x → A → C) → OnOk r C
ok_with (Ok x) a f = f x refl a
ok_with (Err e) a f = a

pub returns-clause-own_draws : goal.returns-clause-own_draws
returns-clause-own_draws g c =
    let d = g.D.Disk in
    let n = g.E.Entropy in
    let p = c.into_pager-pager.result in
    let made = c.into_pager-pager.ensures in
    let profile = c.args.profile in
    let secret = c.args.secret.now in
    let file = main_of (d.reads c.args.disk.now) in
    let keys = keys_of profile secret file in
    let end = c.change_first-disk.result.0.now in
    let after = c.change_first-disk.result.1.now in
    let main = main_of (d.reads end) in
    let last : c.disk-1.given.0 ≡ end = search rules in
    let drawn_last : c.entropy-1.given.0 ≡ after = search rules in
    rw (last, drawn_last) (ok_with c.change_first-disk.result.2 c.change_first-disk.ensures.own_draws (λ report is draws told drawing.
    let codec : p.codec ≡ keys = made.file.0 ∙ c.in-Ok.ensures.codec told in
    let same : main_of (d.reads p.disk.now) ≡ file = ap (λ (x : _). main_of (d.reads x)) made.disk.1 ∙ ap (λ (files : Files). main_of files) (c.open_main.ensures.only_read told).stays in
    let stamped : IsFirstChanged p.codec c.field_at.result c.u32_bytes-bytes.result (main_of (d.reads p.disk.now)) main =
    (committed_new d.reads d.images d.moment d.since (change_status c.change_first-disk.result.2) _ _ _ p.disk.now end (ap change_status is) (c.change_first-disk.ensures.safely told)).0 in
    let key : p.codec ≡ keys_of profile secret main = codec ∙ sym (same_keys profile secret main file (stamped.salt ∙ ap (λ (l : List ℕ). salt_of l) same)) in
    subst (λ (k : FileKeys). FileDraws k main (λ i. i == 1) 0 (drop (length (n.drawn c.args.entropy.now)) (n.drawn after))) key
    (subst (λ (x : _). FileDraws p.codec main (λ i. i == 1) 0 (drop (length (n.drawn x)) (n.drawn after))) made.entropy.1 (draws told drawing))))
