use Rattle.std.proofs.Common.{◌≡◌, ⊎_elim, inl, ◌≤◌, ℕ, List, [], drop, length, Option, Result, Ok, Err, true, IsTrue, refl, sym, ap, subst, ◌∙◌, arith, rules}
use Rattle.std.specs.Prelude.{OnOk, unwrap_or}
use Rattle.fresh_disk.specs.Published.{IsAlone}
use Rattle.edge_model.specs.Files.{Files, main_of}
use Rattle.edge_model.specs.Images.{From, LeavesOnly}
use Rattle.edge_model.specs.Moments.{then_from}
use Rattle.cipher_profile.specs.Profile.{IsListed, usable, with_log}
use Rattle.map_pages.specs.Maps.{map_count}
use Rattle.cipher_profile.specs.declared.profile.Profile.{Profile}
use Rattle.page_codec.specs.Page.{FileKeys, keys_of, salt_of}
use Rattle.pager.specs.Opening.{file_opened}
use Rattle.atomic_commit.specs.Facts.{SameFresh}
use Rattle.sqlcipher_tool.specs.Behind.{IsRefusedChange}
use Rattle.sqlcipher_tool.specs.Change.{KeepsOrCommits, change_status}
use Rattle.sqlcipher_tool.specs.Holding.{HoldsOnly, held_by}
use Rattle.sqlcipher_tool.specs.Opening.{opened_with}
use Rattle.sqlcipher_tool.specs.Renewal.{WithDraws}
use Rattle.sqlcipher_tool.specs.Maps.{first_plain}
use Rattle.sqlcipher_tool.specs.Settle.{IsSettledFrom, IsSettledUnder, SettledDraws, marked_answer, marks_of, settled_answer}
use Rattle.sqlcipher_tool.specs.declared.status.Status.{Status}
use Rattle.sqlcipher_tool.specs.declared.status.Status.TheVariants.{Done}
use Rattle.sqlcipher_tool.proofs.Behind.{after_read, read_stays}
use Rattle.sqlcipher_tool.proofs.Changing.{after_old, read_fresh, read_only, said_so, stop_not_done}
use Rattle.sqlcipher_tool.proofs.Databases.{told_base}
use Rattle.sqlcipher_tool.proofs.FirstBytes.{fitting_salt}
use Rattle.sqlcipher_tool.proofs.LeftAlone.{is_opened}
use Rattle.sqlcipher_tool.proofs.OpenedParts.{open_parts, opened_same}
use Rattle.sqlcipher_tool.proofs.SettledFile.{listed_set, settled_draws, settled_from, settled_holds, unopened_settle}
use Rattle.sqlcipher_tool.proofs.Stamping.{starts}
use Rattle.sqlcipher_tool.proofs.settle.settle_file.Goals as goal

pub open_main-requires-clause-listed : goal.open_main-requires-clause-listed
open_main-requires-clause-listed g c = listed_set true c.args.profile c.requires.listed

pub returns-in-Err-clause-told : goal.returns-in-Err-clause-told
returns-in-Err-clause-told g c = λ told answer same.
    let file = main_of (g.D.Disk.reads c.args.disk.now) in
    let keys = keys_of (with_log c.args.profile) c.args.secret.now file in
    unopened_settle (usable c.args.profile) c.args.frames (first_plain keys file) c.in-Err.stop (opened_with (with_log c.args.profile) c.args.secret.now file) answer (c.in-Err.ensures.stop told) same

pub returns-in-Err-clause-safely : goal.returns-in-Err-clause-safely
returns-in-Err-clause-safely g c = λ told start.
    let d = g.D.Disk in
    inl (record {
      any_moment = read_only d.reads d.images d.moment d.since g.met.D.Disk.counts_now g.met.D.Disk.only_now start (c.open_main.ensures.only_read told);
      not_done = stop_not_done c.in-Err.stop;
    })

pub returns-in-Err-clause-fresh : goal.returns-in-Err-clause-fresh
returns-in-Err-clause-fresh g c = λ told.
    let d = g.D.Disk in
    read_fresh d.reads d.images d.moment d.since g.met.D.Disk.counts_now g.met.D.Disk.only_now (c.open_main.ensures.only_read told)

pub returns-in-Err-clause-unopened : goal.returns-in-Err-clause-unopened
returns-in-Err-clause-unopened g c = λ told err. c.open_main.ensures.only_read told

pub returns-in-Err-clause-stays : goal.returns-in-Err-clause-stays
returns-in-Err-clause-stays g c = λ refused told. read_stays (c.open_main.ensures.only_read told)

-- the conditions, by their places: base, base_is, sizes, drawn, listed, passes, salt, opened, alone
pub settle_pages-disk-requires : goal.settle_pages-disk-requires
settle_pages-disk-requires g c κs within =
    let d = g.D.Disk in
    let p = c.into_pager-pager.result in
    let made = c.into_pager-pager.ensures in
    let main = main_of (d.reads p.disk.now) in
    let file = main_of (d.reads c.args.disk.now) in
    let passing = with_log c.args.profile in
    let keys = keys_of passing c.args.secret.now file in
    let codec : IsTrue d.tells → p.codec ≡ keys = λ told. made.file.0 ∙ c.in-Ok.ensures.codec told in
    let profile : p.codec.profile ≡ passing = ap (λ (k : FileKeys). k.profile) made.file.0 ∙ c.in-Ok.ensures.profile in
    let same : IsTrue d.tells → main ≡ file = λ told. ap (λ (x : _). main_of (d.reads x)) made.disk.1 ∙ ap (λ (files : Files). main_of files) (c.open_main.ensures.only_read told).stays in
    let opened : IsTrue d.tells → file_opened p.codec main ≡ Ok (record { header = p.header; count = p.count }) = λ told.
    opened_same keys p.codec file main _ p.header _ p.count (codec told) (same told) made.file.1 made.file.2 (c.in-Ok.ensures.opens told) in
    let sized : 1 ≤ p.codec.profile.page_size = omega (arith, p.lendable.least) in
    let listed = listed_set true c.args.profile c.requires.listed in (
      within.0,
      (
        within.1,
        (
          λ told. told_base d.tells p.codec main p.count told,
          (
            starts d.tells p.codec main p.header p.count sized made.some opened,
            (
              (refl, refl),
              (
                refl,
                (
                  subst (λ (k : Profile). IsListed k) (sym profile) listed,
                  (
                    ap (λ (k : Profile). k.reads_log) profile,
                    (
                      λ told.
                          let is_open = open_parts keys file _ _ (c.in-Ok.ensures.opens told) in
                          ap (λ (k : FileKeys). k.salt) (codec told)
                          ∙ (fitting_salt passing c.args.secret.now file listed is_open.fit ∙ ap (λ (l : List ℕ). salt_of l) (sym (same told))),
                      (
                        opened,
                        λ told image now.
                            let read = c.open_main.ensures.only_read told in
                            let is_open = open_parts keys file _ _ (c.in-Ok.ensures.opens told) in
                            let at_first = read.same_images.no_more image (subst (λ (x : _). d.images x image) made.disk.1 now) in
                            subst (λ (l : List ℕ). IsAlone l image) (sym (same told)) (c.requires.alone told is_open.long image at_first),
                      ),
                    ),
                  ),
                ),
              ),
            ),
          ),
        ),
      ),
    )

pub returns-clause-told : goal.returns-clause-told
returns-clause-told g c = λ told answer is.
    let d = g.D.Disk in
    let p = c.into_pager-pager.result in
    let made = c.into_pager-pager.ensures in
    let file = main_of (d.reads c.args.disk.now) in
    let keys = keys_of (with_log c.args.profile) c.args.secret.now file in
    let codec : p.codec ≡ keys = made.file.0 ∙ c.in-Ok.ensures.codec told in
    let same : main_of (d.reads p.disk.now) ≡ file = ap (λ (x : _). main_of (d.reads x)) made.disk.1 ∙ ap (λ (files : Files). main_of files) (c.open_main.ensures.only_read told).stays in
    c.settle_pages-disk.ensures.told told answer is
    ∙ ap (λ (k : FileKeys). marked_answer c.args.frames (map_count (usable k.profile) p.count) (marks_of (first_plain k (main_of (d.reads p.disk.now))))) codec
    ∙ ap (λ (l : List ℕ). marked_answer c.args.frames (map_count (usable keys.profile) p.count) (marks_of (first_plain keys l))) same
    ∙ ap (λ (n : ℕ). marked_answer c.args.frames (map_count (usable keys.profile) n) (marks_of (first_plain keys file))) made.file.2
    ∙ sym (ap (settled_answer (usable c.args.profile) c.args.frames (first_plain keys file)) (c.in-Ok.ensures.opens told))

pub returns-clause-safely : goal.returns-clause-safely
returns-clause-safely g c = λ told start.
    let d = g.D.Disk in
    let n = g.E.Entropy in
    let p = c.into_pager-pager.result in
    let read = c.open_main.ensures.only_read told in
    let made = c.into_pager-pager.ensures in
    let file = main_of (d.reads c.args.disk.now) in
    let secret = c.args.secret.now in
    let profile = c.args.profile in
    let keys = keys_of (with_log profile) secret file in
    let status = change_status c.settle_pages-disk.result.2 in
    let end = c.settle_pages-disk.result.0.now in
    let after = n.drawn c.settle_pages-disk.result.1.now in
    let drawn = drop (length (n.drawn c.args.entropy.now)) after in
    let codec : p.codec ≡ keys = made.file.0 ∙ c.in-Ok.ensures.codec told in
    let same : main_of (d.reads p.disk.now) ≡ file = ap (λ (x : _). main_of (d.reads x)) made.disk.1 ∙ ap (λ (files : Files). main_of files) read.stays in
    let one = subst (λ (k : FileKeys). KeepsOrCommits d.reads d.images d.moment d.since status
    (WithDraws (IsSettledUnder k (main_of (d.reads p.disk.now))) n.tells (λ m. SettledDraws k m (drop (length (n.drawn p.entropy.now)) after)))
    (HoldsOnly (held_by k (main_of (d.reads p.disk.now)))) (λ m. HoldsOnly (held_by k m)) p.disk.now end) codec (c.settle_pages-disk.ensures.safely told) in
    let two = subst (λ (l : List ℕ). KeepsOrCommits d.reads d.images d.moment d.since status
    (WithDraws (IsSettledUnder keys l) n.tells (λ m. SettledDraws keys m (drop (length (n.drawn p.entropy.now)) after)))
    (HoldsOnly (held_by keys l)) (λ m. HoldsOnly (held_by keys m)) p.disk.now end) same one in
    let opens = c.in-Ok.ensures.opens told in
    let some = made.some in
    let three = said_so d.reads d.images d.moment d.since g.met.D.Disk.counts_now g.met.D.Disk.only_now {R = λ m. HoldsOnly (held_by (keys_of profile secret m) m)}
    {is_other = WithDraws (λ m. IsSettledFrom keys (keys_of profile secret m) file m) n.tells (λ m. SettledDraws (keys_of profile secret m) m drawn)} status
    (λ m is. (
      settled_from profile secret file _ _ (subst (λ (k : ℕ). 1 ≤ k) made.file.2 some) c.requires.listed opens m is.0,
      λ drawing. settled_draws profile secret file _ _ (subst (λ (k : ℕ). 1 ≤ k) made.file.2 some) c.requires.listed opens m is.0 drawn
          (subst (λ (x : _). SettledDraws keys m (drop (length (n.drawn x)) after)) made.entropy.1 (is.1 drawing)),
    ))
    (λ m is image holds. settled_holds profile secret file _ _ (subst (λ (k : ℕ). 1 ≤ k) made.file.2 some) c.requires.listed opens m is.0 image holds) two in
    let first : LeavesOnly d.moment d.since c.args.disk.now p.disk.now (HoldsOnly (held_by keys file)) =
    rw made.disk.1 (read_only d.reads d.images d.moment d.since g.met.D.Disk.counts_now g.met.D.Disk.only_now start read) in
    let last : c.disk-1.given.0 ≡ end = search rules in
    let drawn_last : c.entropy-1.given.0 ≡ c.settle_pages-disk.result.1.now = search rules in
    rw (last, drawn_last) (after_old d.reads d.images d.moment d.since g.met.D.Disk.counts_now g.met.D.Disk.only_now status first three)

pub returns-clause-fresh : goal.returns-clause-fresh
returns-clause-fresh g c = λ told.
    let d = g.D.Disk in
    let p = c.into_pager-pager.result in
    let made = c.into_pager-pager.ensures.disk.1 in
    let end = c.settle_pages-disk.result.0.now in
    let first : LeavesOnly d.moment d.since c.args.disk.now p.disk.now (From SameFresh (d.images c.args.disk.now)) =
    rw made (read_fresh d.reads d.images d.moment d.since g.met.D.Disk.counts_now g.met.D.Disk.only_now (c.open_main.ensures.only_read told)) in
    let last : c.disk-1.given.0 ≡ end = search rules in
    rw last (then_from g.met.D.Disk.counts_now (λ a b e ab be. be ∙ ab) first (c.settle_pages-disk.ensures.fresh told))

pub returns-clause-unopened : goal.returns-clause-unopened
returns-clause-unopened g c = λ told err. is_opened _ _ (c.in-Ok.ensures.opens told) err

pub returns-clause-stays : goal.returns-clause-stays
returns-clause-stays g c =
    let d = g.D.Disk in
    let p = c.into_pager-pager.result in
    let end = c.settle_pages-disk.result.0.now in
    let last : c.disk-1.given.0 ≡ end = search rules in
    rw last (after_read IsRefusedChange (d.images end) c.settle_pages-disk.result.2
    (λ told image now. (c.open_main.ensures.only_read told).same_images.no_more image (subst (λ (x : _). d.images x image) c.into_pager-pager.ensures.disk.1 now))
    c.settle_pages-disk.ensures.stays)

-- after Done Main is the new file
committed_new : {D : Type 0} (reads : D → Files) (images : D → Files → Type 0) (moment : D → ℕ) (since : D → ℕ → Files → Type 0) (status : Status) (new_file : List ℕ → Type 0)
    (old_one : Files → Type 0) (new_one : List ℕ → Files → Type 0) (old new : D) → status ≡ Done → KeepsOrCommits reads images moment since status new_file old_one new_one old new
    → new_file (main_of (reads new))
committed_new reads images moment since status new_file old_one new_one old new is run = ⊎_elim (λ kept. absurd (kept.not_done is))
    (λ commits. subst new_file (sym (ap (λ (o : Option (List ℕ)). unwrap_or o []) (commits.is_main is))) commits.is_new) run

ok_with : {T E : Type 0} {A C : Type 0} (r : Result T E) → OnOk r A → ((x : T) → r ≡ Ok x → A → C) → OnOk r C
ok_with (Ok x) a f = f x refl a
ok_with (Err e) a f = a

pub returns-clause-own_draws : goal.returns-clause-own_draws
returns-clause-own_draws g c =
    let d = g.D.Disk in
    let n = g.E.Entropy in
    let p = c.into_pager-pager.result in
    let made = c.into_pager-pager.ensures in
    let profile = c.args.profile in
    let secret = c.args.secret.now in
    let file = main_of (d.reads c.args.disk.now) in
    let keys = keys_of (with_log profile) secret file in
    let end = c.settle_pages-disk.result.0.now in
    let after = n.drawn c.settle_pages-disk.result.1.now in
    let main = main_of (d.reads end) in
    let last : c.disk-1.given.0 ≡ end = search rules in
    let drawn_last : c.entropy-1.given.0 ≡ c.settle_pages-disk.result.1.now = search rules in
    rw (last, drawn_last) (ok_with c.settle_pages-disk.result.2 c.settle_pages-disk.ensures.own_draws (λ report is draws told drawing.
    let codec : p.codec ≡ keys = made.file.0 ∙ c.in-Ok.ensures.codec told in
    let same : main_of (d.reads p.disk.now) ≡ file = ap (λ (x : _). main_of (d.reads x)) made.disk.1 ∙ ap (λ (files : Files). main_of files) (c.open_main.ensures.only_read told).stays in
    let under : IsSettledUnder p.codec (main_of (d.reads p.disk.now)) main =
    (committed_new d.reads d.images d.moment d.since (change_status c.settle_pages-disk.result.2) _ _ _ p.disk.now end (ap change_status is) (c.settle_pages-disk.ensures.safely told)).0 in
    let under_keys = subst (λ (l : List ℕ). IsSettledUnder keys l main) same (subst (λ (k : FileKeys). IsSettledUnder k (main_of (d.reads p.disk.now)) main) codec under) in
    settled_draws profile secret file _ _ (subst (λ (k : ℕ). 1 ≤ k) made.file.2 made.some) c.requires.listed (c.in-Ok.ensures.opens told) main under_keys
    (drop (length (n.drawn c.args.entropy.now)) after)
    (subst (λ (k : FileKeys). SettledDraws k main (drop (length (n.drawn c.args.entropy.now)) after)) codec
    (subst (λ (x : _). SettledDraws p.codec main (drop (length (n.drawn x)) after)) made.entropy.1 (draws told drawing)))))
