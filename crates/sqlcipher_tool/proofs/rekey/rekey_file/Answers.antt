use Rattle.std.proofs.Common.{◌≡◌, inl, ℕ, Bool, true, List, length, drop, Ok, Err, Result, sym, ap, subst, ◌∙◌, arith, rules}
use Rattle.std.specs.List.{Contains}
use Rattle.std.specs.Prelude.{OnOk, nat_lt, ◌||◌, if◌then◌else◌}
use Rattle.fresh_disk.specs.Published.{IsAlone}
use Rattle.edge_model.specs.Causes.{Rose}
use Rattle.edge_model.specs.Files.{Files, main_of}
use Rattle.edge_model.specs.Images.{From, LeavesOnly}
use Rattle.edge_model.specs.Moments.{then_from}
use Rattle.cipher_profile.specs.declared.keys.Secret.{Secret}
use Rattle.cipher_profile.specs.declared.profile.Profile.{Profile}
use Rattle.cipher_profile.specs.Keys.{salt_or}
use Rattle.cipher_profile.specs.Profile.{is_clear, is_plain}
use Rattle.cipher_profile.proofs.Layouts.{IsListed-laid_out}
use Rattle.fresh_file.proofs.DrawLaws.{keys_are}
use Rattle.page_codec.specs.Page.{FileKeys, codec_salt, keys_of, magic, salt_of}
use Rattle.pager.specs.Opening.{Opened}
use Rattle.pager.specs.Pages.{is_page_number, opened_pages}
use Rattle.pager.specs.declared.opening.OpenError.{OpenError}
use Rattle.pager.proofs.Resealed.{plain_alike}
use Rattle.pager.proofs.UnreadLemmas.{no_held_pins}
use Rattle.rekey_job.specs.Rekeyed.{IsRekeyed}
use Rattle.atomic_commit.specs.Facts.{SameFresh}
use Rattle.sqlcipher_tool.specs.Change.{KeepsOrCommits, change_status}
use Rattle.rekey_job.specs.Draws.{FileDraws}
use Rattle.sqlcipher_tool.specs.Holding.{HoldsOnly, held_by}
use Rattle.sqlcipher_tool.specs.Opening.{opened_with, page_count_of}
use Rattle.sqlcipher_tool.specs.Rekey.{rekey_due, rekeyed_salt}
use Rattle.sqlcipher_tool.specs.Renewal.{IsRekeyedSo, WithDraws}
use Rattle.sqlcipher_tool.specs.Verify.{opened_answers}
use Rattle.sqlcipher_tool.specs.Behind.{IsRefusedChange}
use Rattle.sqlcipher_tool.proofs.Behind.{after_read, read_stays}
use Rattle.sqlcipher_tool.proofs.Changing.{after_old, read_fresh, read_only, said_so, stop_not_done}
use Rattle.sqlcipher_tool.proofs.OpenedParts.{open_parts}
use Rattle.sqlcipher_tool.proofs.RekeyedFile.{rekeyed_so}
use Rattle.sqlcipher_tool.proofs.FirstBytes.{fitting_salt}
use Rattle.sqlcipher_tool.proofs.Rekeying.{rekeyed_draws}
use Rattle.sqlcipher_tool.proofs.Stamping.{rose_from}
use Rattle.sqlcipher_tool.proofs.VerifiedFile.{unopened_due}
use Rattle.sqlcipher_tool.proofs.LeftAlone.{is_opened}
use Rattle.sqlcipher_tool.proofs.rekey.rekey_file.Goals as goal

pub returns-in-Err-clause-told : goal.returns-in-Err-clause-told
returns-in-Err-clause-told g c = λ told answer is.
    let file = main_of (g.D.Disk.reads c.args.disk.now) in
    unopened_due (opened_with c.args.old c.args.first.now file) (λ n. rekey_due (opened_pages (keys_of c.args.old c.args.first.now file) file n)) c.in-Err.stop (c.in-Err.ensures.stop told) answer is

pub returns-in-Err-clause-safely : goal.returns-in-Err-clause-safely
returns-in-Err-clause-safely g c = λ told start.
    let d = g.D.Disk in
    inl (record {
      any_moment = read_only d.reads d.images d.moment d.since g.met.D.Disk.counts_now g.met.D.Disk.only_now start (c.open_main.ensures.only_read told);
      not_done = stop_not_done c.in-Err.stop;
    })

pub returns-in-Err-clause-fresh : goal.returns-in-Err-clause-fresh
returns-in-Err-clause-fresh g c = λ told.
    let d = g.D.Disk in
    read_fresh d.reads d.images d.moment d.since g.met.D.Disk.counts_now g.met.D.Disk.only_now (c.open_main.ensures.only_read told)

pub rekey_pages-disk-requires-clause-layout : goal.rekey_pages-disk-requires-clause-layout
rekey_pages-disk-requires-clause-layout g c =
    let write = c.of_secret-write.ensures in
    let profile = ap (λ (k : FileKeys). k.profile) c.into_pager-pager.ensures.file.0 ∙ c.in-Ok.ensures.profile in (
      ap (λ (k : FileKeys). k.profile.page_size) write ∙ (c.requires.layout.0 ∙ sym (ap (λ (p : Profile). p.page_size) profile)),
      ap (λ (k : FileKeys). k.profile.reserve) write ∙ (c.requires.layout.1 ∙ sym (ap (λ (p : Profile). p.reserve) profile)),
      ap (λ (k : FileKeys). k.profile.reads_log) write ∙ (c.requires.layout.2 ∙ sym (ap (λ (p : Profile). p.reads_log) profile)),
    )

-- the magic is given to a file that holds no salt
plainly : (new : Profile) (first : Secret) (salt given : List ℕ) → given ≡ (if is_clear new then magic else salt_or first salt) → is_clear new ≡ true → given ≡ magic
plainly new first salt given is clear = is ∙ ap (λ (b : Bool). if b then magic else salt_or first salt) clear

pub of_secret-write-requires-clause-clear : goal.of_secret-write-requires-clause-clear
of_secret-write-requires-clause-clear g c = plainly c.args.new c.args.first.now _ _ c.rekeyed_salt-salt.ensures

-- a plain file was plain, and begins with the magic
pub rekey_pages-disk-requires-clause-salt : goal.rekey_pages-disk-requires-clause-salt
rekey_pages-disk-requires-clause-salt g c = λ told is_plainly.
    let d = g.D.Disk in
    let old = c.args.old in
    let new = c.args.new in
    let file = main_of (d.reads c.args.disk.now) in
    let opened = open_parts (keys_of old c.args.first.now file) file _ _ (c.in-Ok.ensures.opens told) in
    let same = ap (λ (x : _). main_of (d.reads x)) c.into_pager-pager.ensures.disk.1 ∙ ap (λ (files : Files). main_of files) (c.open_main.ensures.only_read told).stays in
    let write = c.of_secret-write.ensures in
    let plain : is_plain new ≡ true = sym (ap (λ (k : FileKeys). is_plain k.profile) write) ∙ is_plainly in
    let was : is_plain old ≡ true = plain_alike old new (IsListed-laid_out old c.requires.listed.0) (IsListed-laid_out new c.requires.listed.1) (c.requires.layout.0, c.requires.layout.1) plain in
    ap (λ (k : FileKeys). k.salt) write ∙ plainly new c.args.first.now _ _ c.rekeyed_salt-salt.ensures (clear_plain new plain)
    ∙ sym (ap (λ (b : Bool). if b then magic else salt_of file) (clear_plain old was))
    ∙ fitting_salt old c.args.first.now file c.requires.listed.0 opened.fit ∙ ap (λ (l : List ℕ). salt_of l) (sym same)
  where
    clear_plain : (profile : Profile) → is_plain profile ≡ true → is_clear profile ≡ true
    clear_plain profile is = ap (λ (b : Bool). b || nat_lt 0 profile.plain_header) is

pub rekey_pages-disk-requires-clause-unpinned : goal.rekey_pages-disk-requires-clause-unpinned
rekey_pages-disk-requires-clause-unpinned g c = no_held_pins c.into_pager-pager.result.cache.held c.into_pager-pager.ensures.unread.0

pub rekey_pages-disk-requires-clause-alone : goal.rekey_pages-disk-requires-clause-alone
rekey_pages-disk-requires-clause-alone g c = λ told image now.
    let d = g.D.Disk in
    let read = c.open_main.ensures.only_read told in
    let file = main_of (d.reads c.args.disk.now) in
    let keys = keys_of c.args.old c.args.first.now file in
    let made = c.into_pager-pager.ensures.disk.1 in
    let opened = open_parts keys file _ _ (c.in-Ok.ensures.opens told) in
    let at_first = read.same_images.no_more image (subst (λ (x : _). d.images x image) made now) in
    subst (λ (x : _). IsAlone (main_of (d.reads x)) image) (sym made)
    (subst (λ (files : Files). IsAlone (main_of files) image) (sym read.stays) (c.requires.alone told opened.long image at_first))

pub returns-clause-told : goal.returns-clause-told
returns-clause-told g c = λ told answer is.
    let d = g.D.Disk in
    let p = c.into_pager-pager.result in
    let file = main_of (d.reads c.args.disk.now) in
    let keys = keys_of c.args.old c.args.first.now file in
    let codec : p.codec ≡ keys = c.into_pager-pager.ensures.file.0 ∙ c.in-Ok.ensures.codec told in
    let same : main_of (d.reads p.disk.now) ≡ file = ap (λ (x : _). main_of (d.reads x)) c.into_pager-pager.ensures.disk.1 ∙ ap (λ (files : Files). main_of files) (c.open_main.ensures.only_read told).stays in
    let one = subst (λ (k : FileKeys). Contains (rekey_due (opened_pages k (main_of (d.reads p.disk.now)) p.count)) answer) codec (c.rekey_pages-disk.ensures.told told answer is) in
    let two = subst (λ (l : List ℕ). Contains (rekey_due (opened_pages keys l p.count)) answer) same one in
    let three = subst (λ (n : ℕ). Contains (rekey_due (opened_pages keys file n)) answer) c.into_pager-pager.ensures.file.2 two in
    subst (λ (o : Result Opened OpenError). Contains (opened_answers o (λ n. rekey_due (opened_pages keys file n))) answer) (sym (c.in-Ok.ensures.opens told)) three

pub returns-clause-safely : goal.returns-clause-safely
returns-clause-safely g c =
    let last : c.disk-1.given.0 ≡ c.rekey_pages-disk.result.0.now = search rules in
    let drawn_last : c.entropy-1.given.0 ≡ c.rekey_pages-disk.result.1.now = search rules in λ told start.
    let d = g.D.Disk in
    let p = c.into_pager-pager.result in
    let read = c.open_main.ensures.only_read told in
    let made = c.into_pager-pager.ensures.disk.1 in
    let file = main_of (d.reads c.args.disk.now) in
    let keys = keys_of c.args.old c.args.first.now file in
    let write = c.of_secret-write.result in
    let opened = open_parts keys file _ _ (c.in-Ok.ensures.opens told) in
    let status = change_status c.rekey_pages-disk.result.2 in
    let end = c.rekey_pages-disk.result.0.now in
    let n = g.E.Entropy in
    let after = n.drawn c.rekey_pages-disk.result.1.now in
    let own : List ℕ → Type 0 = λ m. FileDraws write m (is_page_number p.count) 0 (drop (length (n.drawn p.entropy.now)) after) in
    let drawn = drop (length (n.drawn c.args.entropy.now)) after in
    let codec : p.codec ≡ keys = c.into_pager-pager.ensures.file.0 ∙ c.in-Ok.ensures.codec told in
    let same : main_of (d.reads p.disk.now) ≡ file = ap (λ (x : _). main_of (d.reads x)) made ∙ ap (λ (files : Files). main_of files) read.stays in
    let one = subst (λ (k : FileKeys). KeepsOrCommits d.reads d.images d.moment d.since status (WithDraws (IsRekeyed k write p.count (main_of (d.reads p.disk.now))) n.tells own)
    (HoldsOnly (held_by k (main_of (d.reads p.disk.now)))) (λ m. HoldsOnly (held_by write m)) p.disk.now end) codec (c.rekey_pages-disk.ensures.safely told) in
    let two = subst (λ (l : List ℕ). KeepsOrCommits d.reads d.images d.moment d.since status (WithDraws (IsRekeyed keys write p.count l) n.tells own)
    (HoldsOnly (held_by keys l)) (λ m. HoldsOnly (held_by write m)) p.disk.now end) same one in
    let given : salt_or c.args.first.now (codec_salt c.args.old file) ≡ salt_or c.args.first.now c.salt.result =
    ap (λ (l : List ℕ). salt_or c.args.first.now l) (sym (c.salt.ensures.value ∙ ap (λ (k : FileKeys). k.salt) (c.codec.ensures ∙ codec))) in
    let salt : write.salt ≡ rekeyed_salt c.args.old c.args.first.now c.args.new file =
    ap (λ (k : FileKeys). k.salt) c.of_secret-write.ensures ∙ c.rekeyed_salt-salt.ensures ∙ ap (λ (l : List ℕ). if is_clear c.args.new then magic else l) (sym given) in
    let is_key : (m : List ℕ) → salt_of m ≡ write.salt → write ≡ keys_of c.args.new c.args.second.now m = λ m begins.
    keys_are c.args.new c.args.second.now _ m write c.of_secret-write.ensures (plainly c.args.new c.args.first.now _ _ c.rekeyed_salt-salt.ensures) begins in
    let three = said_so d.reads d.images d.moment d.since g.met.D.Disk.counts_now g.met.D.Disk.only_now {R = λ m. HoldsOnly (held_by (keys_of c.args.new c.args.second.now m) m)}
    {is_other = WithDraws (λ m. IsRekeyedSo keys (keys_of c.args.new c.args.second.now m) (rekeyed_salt c.args.old c.args.first.now c.args.new file) file m) n.tells
    (λ m. FileDraws (keys_of c.args.new c.args.second.now m) m (is_page_number (page_count_of (keys_of c.args.new c.args.second.now m) m)) 0 drawn)} status
    (λ m is. (
      rekeyed_so keys c.args.new c.args.second.now p.count _ file m c.requires.listed.0 c.requires.listed.1 c.requires.layout.0 c.requires.layout.1
          opened.fit (subst (λ (k : FileKeys). IsRekeyed keys k p.count file m) (is_key m is.0.salt) is.0) (is.0.salt ∙ salt),
      λ drawing. rekeyed_draws keys write p.count file m drawn c.args.new c.args.second.now is.0 (is_key m is.0.salt)
          (subst (λ (x : _). FileDraws write m (is_page_number p.count) 0 (drop (length (n.drawn x)) after)) c.into_pager-pager.ensures.entropy.1 (is.1 drawing)),
    ))
    (λ m is image holds. subst (λ (k : FileKeys). HoldsOnly (held_by k m) image) (is_key m is.0.salt) holds) two in
    let first : LeavesOnly d.moment d.since c.args.disk.now p.disk.now (HoldsOnly (held_by keys file)) =
    rw made (read_only d.reads d.images d.moment d.since g.met.D.Disk.counts_now g.met.D.Disk.only_now start read) in
    rw (last, drawn_last) (after_old d.reads d.images d.moment d.since g.met.D.Disk.counts_now g.met.D.Disk.only_now status first three)

pub returns-clause-fresh : goal.returns-clause-fresh
returns-clause-fresh g c = λ told.
    let d = g.D.Disk in
    let p = c.into_pager-pager.result in
    let made = c.into_pager-pager.ensures.disk.1 in
    let end = c.rekey_pages-disk.result.0.now in
    let first : LeavesOnly d.moment d.since c.args.disk.now p.disk.now (From SameFresh (d.images c.args.disk.now)) =
    rw made (read_fresh d.reads d.images d.moment d.since g.met.D.Disk.counts_now g.met.D.Disk.only_now (c.open_main.ensures.only_read told)) in
    let last : c.disk-1.given.0 ≡ end = search rules in
    rw last (then_from g.met.D.Disk.counts_now (λ a b e ab be. be ∙ ab) first (c.rekey_pages-disk.ensures.fresh told))

-- what holds where both hold
ok_both : {T E : Type 0} {A B C : Type 0} (r : Result T E) → OnOk r A → OnOk r B → (A → B → C) → OnOk r C
ok_both (Ok x) a b f = f a b
ok_both (Err e) a b f = a

pub returns-clause-own_draws : goal.returns-clause-own_draws
returns-clause-own_draws g c =
    let d = g.D.Disk in
    let p = c.into_pager-pager.result in
    let made = c.into_pager-pager.ensures in
    let write = c.of_secret-write.result in
    let end = c.rekey_pages-disk.result.0.now in
    let after = c.rekey_pages-disk.result.1.now in
    let main = main_of (d.reads end) in
    let last : c.disk-1.given.0 ≡ end = search rules in
    let drawn_last : c.entropy-1.given.0 ≡ after = search rules in
    rw (last, drawn_last) (ok_both c.rekey_pages-disk.result.2 c.rekey_pages-disk.ensures.rekeyed c.rekey_pages-disk.ensures.own_draws (λ rekeyed draws told drawing.
    let is = rekeyed told in
    rekeyed_draws p.codec write p.count (main_of (d.reads p.disk.now)) main (drop (length (g.E.Entropy.drawn c.args.entropy.now)) (g.E.Entropy.drawn after)) c.args.new c.args.second.now is
    (keys_are c.args.new c.args.second.now _ main write c.of_secret-write.ensures (plainly c.args.new c.args.first.now _ _ c.rekeyed_salt-salt.ensures) is.salt)
    (subst (λ (x : _). FileDraws write main (is_page_number p.count) 0 (drop (length (g.E.Entropy.drawn x)) (g.E.Entropy.drawn after))) made.entropy.1 (draws told drawing))))

pub returns-clause-disk_later : goal.returns-clause-disk_later
returns-clause-disk_later g c =
    let last : c.disk-1.given.0 ≡ c.rekey_pages-disk.result.0.now = search rules in
    rw last (omega (arith, c.open_main.ensures.later, ap g.D.Disk.faults c.into_pager-pager.ensures.disk.1, c.rekey_pages-disk.ensures.disk_later))

pub returns-clause-entropy_later : goal.returns-clause-entropy_later
returns-clause-entropy_later g c =
    let last : c.entropy-1.given.0 ≡ c.rekey_pages-disk.result.1.now = search rules in
    rw last (omega (arith, ap g.E.Entropy.faults c.into_pager-pager.ensures.entropy.1, c.rekey_pages-disk.ensures.entropy_later))

pub returns-clause-disk_fault : goal.returns-clause-disk_fault
returns-clause-disk_fault g c = λ is.
    let faults = g.D.Disk.faults in
    let after = c.rekey_pages-disk.result.0.now in
    let last : c.disk-1.given.0 ≡ after = search rules in
    rw last (rose_from (faults c.args.disk.now) (faults c.into_pager-pager.result.disk.now) (faults after)
    (omega (arith, c.open_main.ensures.later, ap faults c.into_pager-pager.ensures.disk.1)) (c.rekey_pages-disk.ensures.disk_fault is))

pub returns-clause-entropy_fault : goal.returns-clause-entropy_fault
returns-clause-entropy_fault g c = λ is.
    let after = c.rekey_pages-disk.result.1.now in
    let last : c.entropy-1.given.0 ≡ after = search rules in
    rw last (subst (λ (x : _). Rose (g.E.Entropy.faults x) (g.E.Entropy.faults after)) c.into_pager-pager.ensures.entropy.1 (c.rekey_pages-disk.ensures.entropy_fault is))

pub returns-in-Err-clause-unopened : goal.returns-in-Err-clause-unopened
returns-in-Err-clause-unopened g c = λ told err. c.open_main.ensures.only_read told

pub returns-clause-unopened : goal.returns-clause-unopened
returns-clause-unopened g c = λ told err. is_opened _ _ (c.in-Ok.ensures.opens told) err

pub returns-in-Err-clause-stays : goal.returns-in-Err-clause-stays
returns-in-Err-clause-stays g c = λ refused told. read_stays (c.open_main.ensures.only_read told)

pub returns-clause-stays : goal.returns-clause-stays
returns-clause-stays g c =
    let d = g.D.Disk in
    let made = c.into_pager-pager.ensures.disk.1 in
    let last : c.disk-1.given.0 ≡ c.rekey_pages-disk.result.0.now = search rules in
    rw last (after_read IsRefusedChange (d.images c.rekey_pages-disk.result.0.now) c.rekey_pages-disk.result.2
    (λ told image now. (c.open_main.ensures.only_read told).same_images.no_more image (subst (λ (x : _). d.images x image) made now)) c.rekey_pages-disk.ensures.stays)
