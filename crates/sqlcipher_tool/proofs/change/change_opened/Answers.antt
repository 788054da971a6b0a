use Rattle.std.proofs.Common.{◌≡◌, true, false, length, drop, refl, sym, ap, subst, ◌∙◌}
use Rattle.std.specs.List.{Contains}
use Rattle.std.specs.Prelude.{IsErr, OnOk, IsTrue}
use Rattle.edge_model.specs.Files.{main_of}
use Rattle.edge_model.specs.Images.{Each}
use Rattle.page_codec.specs.Page.{keys_of}
use Rattle.sqlcipher_tool.specs.Change.{KeepsOrCommits, change_status}
use Rattle.sqlcipher_tool.specs.Due.{change_answers}
use Rattle.sqlcipher_tool.specs.Holding.{HoldsOnly, held_by}
use Rattle.sqlcipher_tool.specs.Opening.{opened_with}
use Rattle.sqlcipher_tool.specs.Renewal.{AreDrawnBy, IsNewDrawn, renewed, secret_after}
use Rattle.sqlcipher_tool.specs.Words.{changes_layout, is_in_place, profile_after, profile_before}
use Rattle.sqlcipher_tool.specs.declared.change.Change.{Change}
use Rattle.sqlcipher_tool.specs.declared.change.Change.TheVariants.{Stamp, Settle, Rekey, Migrate}
use Rattle.sqlcipher_tool.specs.declared.command.Command.TheVariants.{Change as ChangeFile}
use Rattle.sqlcipher_tool.proofs.Asked.{same_layout}
use Rattle.sqlcipher_tool.proofs.Changed.{the_only}
use Rattle.sqlcipher_tool.proofs.change.change_opened.Goals as goal

-- ---- a stamp keeps the key

pub returns-in-Stamp-clause-told : goal.returns-in-Stamp-clause-told
returns-in-Stamp-clause-told g c = λ told answer is.
    let file = main_of (g.D.Disk.reads c.args.disk.now) in
    let after = main_of (g.D.Disk.reads c.stamp_file.new.disk) in
    subst (λ (ch : Change). Contains (change_answers ch (renewed c.args.profile ch c.args.secrets.now.first c.args.secrets.now.second) file after) answer) (sym c.in-Stamp.is)
    (the_only _ answer (sym (c.stamp_file.ensures.told told answer is)))

pub returns-in-Stamp-clause-safely : goal.returns-in-Stamp-clause-safely
returns-in-Stamp-clause-safely g c = λ told start.
    let d = g.D.Disk in
    let file = main_of (d.reads c.args.disk.now) in
    let tells = g.E.Entropy.tells in
    let drawn = drop (length (g.E.Entropy.drawn c.args.entropy.now)) (g.E.Entropy.drawn c.stamp_file.new.entropy) in
    let old = c.args.profile in
    let first = c.args.secrets.now.first in
    let second = c.args.secrets.now.second in
    subst (λ (ch : Change). KeepsOrCommits d.reads d.images d.moment d.since (change_status c.stamp_file.result)
    (IsNewDrawn (ChangeFile old ch) (renewed old ch first second) tells drawn file)
    (HoldsOnly (held_by (keys_of (profile_before old ch) first file) file)) (λ n. HoldsOnly (held_by (keys_of (profile_after old ch) (secret_after ch first second) n) n)) c.args.disk.now c.stamp_file.new.disk)
    (sym c.in-Stamp.is) (c.stamp_file.ensures.safely told (subst (λ (ch : Change). Each (d.images c.args.disk.now) (HoldsOnly (held_by (keys_of (profile_before old ch) first file) file))) c.in-Stamp.is start))

pub returns-in-Stamp-clause-own_draws : goal.returns-in-Stamp-clause-own_draws
returns-in-Stamp-clause-own_draws g c =
    let d = g.D.Disk in
    let main = main_of (d.reads c.stamp_file.new.disk) in
    let drawn = drop (length (g.E.Entropy.drawn c.args.entropy.now)) (g.E.Entropy.drawn c.stamp_file.new.entropy) in
    let old = c.args.profile in
    subst (λ (ch : Change). OnOk c.stamp_file.result (IsTrue d.tells → IsTrue g.E.Entropy.tells
    → AreDrawnBy (ChangeFile old ch) (renewed old ch c.args.secrets.now.first c.args.secrets.now.second) main drawn)) (sym c.in-Stamp.is) c.stamp_file.ensures.own_draws

-- ---- and so does a settling

pub returns-in-Settle-clause-told : goal.returns-in-Settle-clause-told
returns-in-Settle-clause-told g c = λ told answer is.
    let file = main_of (g.D.Disk.reads c.args.disk.now) in
    let after = main_of (g.D.Disk.reads c.settle_file.new.disk) in
    subst (λ (ch : Change). Contains (change_answers ch (renewed c.args.profile ch c.args.secrets.now.first c.args.secrets.now.second) file after) answer) (sym c.in-Settle.is)
    (the_only _ answer (sym (c.settle_file.ensures.told told answer is)))

pub returns-in-Settle-clause-safely : goal.returns-in-Settle-clause-safely
returns-in-Settle-clause-safely g c = λ told start.
    let d = g.D.Disk in
    let file = main_of (d.reads c.args.disk.now) in
    let tells = g.E.Entropy.tells in
    let drawn = drop (length (g.E.Entropy.drawn c.args.entropy.now)) (g.E.Entropy.drawn c.settle_file.new.entropy) in
    let old = c.args.profile in
    let first = c.args.secrets.now.first in
    let second = c.args.secrets.now.second in
    subst (λ (ch : Change). KeepsOrCommits d.reads d.images d.moment d.since (change_status c.settle_file.result)
    (IsNewDrawn (ChangeFile old ch) (renewed old ch first second) tells drawn file)
    (HoldsOnly (held_by (keys_of (profile_before old ch) first file) file)) (λ n. HoldsOnly (held_by (keys_of (profile_after old ch) (secret_after ch first second) n) n)) c.args.disk.now c.settle_file.new.disk)
    (sym c.in-Settle.is) (c.settle_file.ensures.safely told (subst (λ (ch : Change). Each (d.images c.args.disk.now) (HoldsOnly (held_by (keys_of (profile_before old ch) first file) file))) c.in-Settle.is start))

pub returns-in-Settle-clause-own_draws : goal.returns-in-Settle-clause-own_draws
returns-in-Settle-clause-own_draws g c =
    let d = g.D.Disk in
    let main = main_of (d.reads c.settle_file.new.disk) in
    let drawn = drop (length (g.E.Entropy.drawn c.args.entropy.now)) (g.E.Entropy.drawn c.settle_file.new.entropy) in
    let old = c.args.profile in
    subst (λ (ch : Change). OnOk c.settle_file.result (IsTrue d.tells → IsTrue g.E.Entropy.tells
    → AreDrawnBy (ChangeFile old ch) (renewed old ch c.args.secrets.now.first c.args.secrets.now.second) main drawn)) (sym c.in-Settle.is) c.settle_file.ensures.own_draws

-- ---- a rekey keeps the layout

pub rekey_file-requires-clause-layout : goal.rekey_file-requires-clause-layout
rekey_file-requires-clause-layout g c =
    same_layout c.args.profile c.in-Rekey.new (subst (λ (ch : Change). changes_layout c.args.profile ch ≡ false) c.in-Rekey.is c.requires.layout)

pub returns-in-Rekey-clause-told : goal.returns-in-Rekey-clause-told
returns-in-Rekey-clause-told g c = λ told answer is.
    let file = main_of (g.D.Disk.reads c.args.disk.now) in
    let after = main_of (g.D.Disk.reads c.rekey_file.new.disk) in
    subst (λ (ch : Change). Contains (change_answers ch (renewed c.args.profile ch c.args.secrets.now.first c.args.secrets.now.second) file after) answer) (sym c.in-Rekey.is)
    (c.rekey_file.ensures.told told answer is)

pub returns-in-Rekey-clause-safely : goal.returns-in-Rekey-clause-safely
returns-in-Rekey-clause-safely g c = λ told start.
    let d = g.D.Disk in
    let file = main_of (d.reads c.args.disk.now) in
    let tells = g.E.Entropy.tells in
    let drawn = drop (length (g.E.Entropy.drawn c.args.entropy.now)) (g.E.Entropy.drawn c.rekey_file.new.entropy) in
    let old = c.args.profile in
    let first = c.args.secrets.now.first in
    let second = c.args.secrets.now.second in
    subst (λ (ch : Change). KeepsOrCommits d.reads d.images d.moment d.since (change_status c.rekey_file.result)
    (IsNewDrawn (ChangeFile old ch) (renewed old ch first second) tells drawn file)
    (HoldsOnly (held_by (keys_of (profile_before old ch) first file) file)) (λ n. HoldsOnly (held_by (keys_of (profile_after old ch) (secret_after ch first second) n) n)) c.args.disk.now c.rekey_file.new.disk)
    (sym c.in-Rekey.is) (c.rekey_file.ensures.safely told (subst (λ (ch : Change). Each (d.images c.args.disk.now) (HoldsOnly (held_by (keys_of (profile_before old ch) first file) file))) c.in-Rekey.is start))

pub returns-in-Rekey-clause-own_draws : goal.returns-in-Rekey-clause-own_draws
returns-in-Rekey-clause-own_draws g c =
    let d = g.D.Disk in
    let main = main_of (d.reads c.rekey_file.new.disk) in
    let drawn = drop (length (g.E.Entropy.drawn c.args.entropy.now)) (g.E.Entropy.drawn c.rekey_file.new.entropy) in
    let old = c.args.profile in
    subst (λ (ch : Change). OnOk c.rekey_file.result (IsTrue d.tells → IsTrue g.E.Entropy.tells
    → AreDrawnBy (ChangeFile old ch) (renewed old ch c.args.secrets.now.first c.args.secrets.now.second) main drawn)) (sym c.in-Rekey.is) c.rekey_file.ensures.own_draws

-- ---- a migration keeps neither

pub returns-in-Migrate-clause-told : goal.returns-in-Migrate-clause-told
returns-in-Migrate-clause-told g c = λ told answer is.
    let file = main_of (g.D.Disk.reads c.args.disk.now) in
    let after = main_of (g.D.Disk.reads c.migrate_file.new.disk) in
    subst (λ (ch : Change). Contains (change_answers ch (renewed c.args.profile ch c.args.secrets.now.first c.args.secrets.now.second) file after) answer) (sym c.in-Migrate.is)
    (c.migrate_file.ensures.told told answer is)

pub returns-in-Migrate-clause-safely : goal.returns-in-Migrate-clause-safely
returns-in-Migrate-clause-safely g c = λ told start.
    let d = g.D.Disk in
    let file = main_of (d.reads c.args.disk.now) in
    let tells = g.E.Entropy.tells in
    let drawn = drop (length (g.E.Entropy.drawn c.args.entropy.now)) (g.E.Entropy.drawn c.migrate_file.new.entropy) in
    let old = c.args.profile in
    let first = c.args.secrets.now.first in
    let second = c.args.secrets.now.second in
    subst (λ (ch : Change). KeepsOrCommits d.reads d.images d.moment d.since (change_status c.migrate_file.result)
    (IsNewDrawn (ChangeFile old ch) (renewed old ch first second) tells drawn file)
    (HoldsOnly (held_by (keys_of (profile_before old ch) first file) file)) (λ n. HoldsOnly (held_by (keys_of (profile_after old ch) (secret_after ch first second) n) n)) c.args.disk.now c.migrate_file.new.disk)
    (sym c.in-Migrate.is) (c.migrate_file.ensures.safely told (subst (λ (ch : Change). Each (d.images c.args.disk.now) (HoldsOnly (held_by (keys_of (profile_before old ch) first file) file))) c.in-Migrate.is start))

pub returns-in-Migrate-clause-own_draws : goal.returns-in-Migrate-clause-own_draws
returns-in-Migrate-clause-own_draws g c =
    let d = g.D.Disk in
    let main = main_of (d.reads c.migrate_file.new.disk) in
    let drawn = drop (length (g.E.Entropy.drawn c.args.entropy.now)) (g.E.Entropy.drawn c.migrate_file.new.entropy) in
    let old = c.args.profile in
    subst (λ (ch : Change). OnOk c.migrate_file.result (IsTrue d.tells → IsTrue g.E.Entropy.tells
    → AreDrawnBy (ChangeFile old ch) (renewed old ch c.args.secrets.now.first c.args.secrets.now.second) main drawn)) (sym c.in-Migrate.is) c.migrate_file.ensures.own_draws

-- a new file in Main's place is no change in place
not_in_place : (change kind : Change) → change ≡ kind → is_in_place kind ≡ false → is_in_place change ≡ true → ⊥
not_in_place change kind is beside holds = let none = sym beside ∙ (sym (ap is_in_place is) ∙ holds) in cc

pub returns-in-Migrate-clause-fresh : goal.returns-in-Migrate-clause-fresh
returns-in-Migrate-clause-fresh g c = λ told in_place. absurd (not_in_place c.args.change (Migrate c.in-Migrate.new) c.in-Migrate.is refl in_place)

-- a change in place writes nothing beside
none_beside : (change kind : Change) → change ≡ kind → is_in_place kind ≡ true → is_in_place change ≡ false → ⊥
none_beside change kind is in_place beside = let none = sym in_place ∙ (sym (ap is_in_place is) ∙ beside) in cc

pub returns-in-Stamp-clause-fresh_gone : goal.returns-in-Stamp-clause-fresh_gone
returns-in-Stamp-clause-fresh_gone g c = λ told beside. absurd (none_beside c.args.change (Stamp c.in-Stamp.field c.in-Stamp.value) c.in-Stamp.is refl beside)

pub returns-in-Settle-clause-fresh_gone : goal.returns-in-Settle-clause-fresh_gone
returns-in-Settle-clause-fresh_gone g c = λ told beside. absurd (none_beside c.args.change (Settle c.in-Settle.frames) c.in-Settle.is refl beside)

pub returns-in-Rekey-clause-fresh_gone : goal.returns-in-Rekey-clause-fresh_gone
returns-in-Rekey-clause-fresh_gone g c = λ told beside. absurd (none_beside c.args.change (Rekey c.in-Rekey.new) c.in-Rekey.is refl beside)

pub returns-in-Migrate-clause-fresh_gone : goal.returns-in-Migrate-clause-fresh_gone
returns-in-Migrate-clause-fresh_gone g c = λ told beside. c.migrate_file.ensures.fresh_gone told

pub returns-in-Stamp-clause-unopened : goal.returns-in-Stamp-clause-unopened
returns-in-Stamp-clause-unopened g c = λ told err.
    let file = main_of (g.D.Disk.reads c.args.disk.now) in
    c.stamp_file.ensures.unopened told (subst (λ (ch : Change). IsErr (opened_with (profile_before c.args.profile ch) c.args.secrets.now.first file)) c.in-Stamp.is err)

pub returns-in-Settle-clause-unopened : goal.returns-in-Settle-clause-unopened
returns-in-Settle-clause-unopened g c = λ told err.
    let file = main_of (g.D.Disk.reads c.args.disk.now) in
    c.settle_file.ensures.unopened told (subst (λ (ch : Change). IsErr (opened_with (profile_before c.args.profile ch) c.args.secrets.now.first file)) c.in-Settle.is err)

pub returns-in-Rekey-clause-unopened : goal.returns-in-Rekey-clause-unopened
returns-in-Rekey-clause-unopened g c = λ told err.
    let file = main_of (g.D.Disk.reads c.args.disk.now) in
    c.rekey_file.ensures.unopened told (subst (λ (ch : Change). IsErr (opened_with (profile_before c.args.profile ch) c.args.secrets.now.first file)) c.in-Rekey.is err)

pub returns-in-Migrate-clause-unopened : goal.returns-in-Migrate-clause-unopened
returns-in-Migrate-clause-unopened g c = λ told err.
    let file = main_of (g.D.Disk.reads c.args.disk.now) in
    c.migrate_file.ensures.unopened told (subst (λ (ch : Change). IsErr (opened_with (profile_before c.args.profile ch) c.args.secrets.now.first file)) c.in-Migrate.is err)
