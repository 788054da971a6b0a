use Rattle.std.proofs.Common.{◌≡◌, false, List, drop, length, refl, sym, ap, subst}
use Rattle.cipher_profile.specs.declared.keys.Secret.{Secret}
use Rattle.edge_model.specs.Files.{main_of}
use Rattle.sqlcipher_tool.specs.Crash.{IsDrawnFor, IsSafely, MakesWith}
use Rattle.sqlcipher_tool.specs.Holding.{disk_run}
use Rattle.sqlcipher_tool.specs.Probe.{probe_answer}
use Rattle.sqlcipher_tool.specs.Promises.{secrets_of}
use Rattle.sqlcipher_tool.specs.Recovered.{recovery_answer, recovery_of}
use Rattle.sqlcipher_tool.specs.Renewal.{renewed_with, same_key}
use Rattle.sqlcipher_tool.specs.Words.{is_in_place, lacks_tags, layouts_differ}
use Rattle.sqlcipher_tool.specs.declared.command.Command.{Command as Asked}
use Rattle.sqlcipher_tool.specs.declared.command.Command.TheVariants.{Probe, Recover, Read, Change as ChangeFile, Make}
use Rattle.sqlcipher_tool.proofs.Answered.{answers_one, keeps_held}
use Rattle.sqlcipher_tool.proofs.Asked.{change_keeps, none_refused, not_in_place, undrawn}
use Rattle.sqlcipher_tool.proofs.Behind.{no_reading}
use Rattle.sqlcipher_tool.proofs.Carrying.{carries_as}
use Rattle.sqlcipher_tool.proofs.Conclusions.{no_part}
use Rattle.sqlcipher_tool.proofs.Making.{read_stays}
use Rattle.sqlcipher_tool.proofs.top.carry_out.Goals as goal

-- ---- probe

pub returns-in-Probe : goal.returns-in-Probe
returns-in-Probe g c =
    let d = g.D.Disk in
    let files = d.reads c.args.disk.now in
    let before = g.S.Sink.taken c.args.out.now in
    let after = g.S.Sink.taken c.probe.new.out in
    let did = c.probe.ensures in
    let faults = g.E.Entropy.faults c.args.entropy.now in
    carries_as c.args.command Probe (secrets_of c.args.secrets.now) c.probe.result _ _ _ c.in-Probe.is
    (record {
      answer = λ told. answers_one (probe_answer c.args.secrets.now.first files) c.probe.result g.S.Sink.tells before after
          (did.status told) (λ printed. did.text printed told) (λ printed is. no_part _ _ _ (ap g.S.Sink.taken (did.disk_text is)))
          (λ is. absurd (did.memory is)) did.causes.input did.causes.entropy;
      line = λ printed way. did.line printed;
      memory = λ is. absurd (did.memory is);
      causes = undrawn c.probe.result false _ _ _ _ faults faults did.causes refl;
      drawn = record { draws = λ none. refl; undrawn = λ told there. refl; own_draws = λ told drawing done secrets gave. tt };
      leaves = λ told. record {
        unrecovered = λ is. (did.only_read told).stays;
        recovered = tt;
        untouched = tt;
        fresh_gone = λ done beside. cc;
        keeps = read_stays d.reads d.images d.moment d.since g.met.D.Disk.counts_now g.met.D.Disk.only_now (did.only_read told);
        changes = tt;
      };
    })

-- ---- recover

pub returns-in-Recover : goal.returns-in-Recover
returns-in-Recover g c =
    let d = g.D.Disk in
    let files = d.reads c.args.disk.now in
    let before = g.S.Sink.taken c.args.out.now in
    let after = g.S.Sink.taken c.report_recovery.new.out in
    let profile = c.in-Recover.profile in
    let did = c.report_recovery.ensures in
    let faults = g.E.Entropy.faults c.args.entropy.now in
    carries_as c.args.command (Recover profile) (secrets_of c.args.secrets.now) c.report_recovery.result _ _ _ c.in-Recover.is
    (record {
      answer = λ told. answers_one (recovery_answer (recovery_of profile files)) c.report_recovery.result g.S.Sink.tells before after
          (did.status told) (λ printed. did.text printed told) (λ printed is. no_part _ _ _ (ap g.S.Sink.taken (did.disk_text is)))
          (λ is. ap g.S.Sink.taken (did.memory_text is)) did.causes.input did.causes.entropy;
      line = λ printed way. did.line printed;
      memory = λ is. refl;
      causes = undrawn c.report_recovery.result false _ _ _ _ faults faults did.causes refl;
      drawn = record { draws = λ none. refl; undrawn = λ told there. refl; own_draws = λ told drawing done secrets gave. tt };
      leaves = λ told. record {
        unrecovered = did.unrecovered told;
        recovered = (did.recovered told, λ reads. did.left told);
        untouched = did.untouched told;
        fresh_gone = λ done beside. cc;
        keeps = keeps_held profile.page_size (disk_run d.reads d.images d.moment d.since c.args.disk.now c.report_recovery.new.disk) (λ image ever. (did.keeps told).each image ever);
        changes = tt;
      };
    })

-- ---- a reading

pub read_file-requires-clause-tagged : goal.read_file-requires-clause-tagged
read_file-requires-clause-tagged g c = subst (λ (command : Asked). lacks_tags command ≡ false) c.in-Read.is (none_refused c.args.command c.requires.unrefused).0

pub returns-in-Read : goal.returns-in-Read
returns-in-Read g c =
    let d = g.D.Disk in
    let profile = c.in-Read.profile in
    let did = c.read_file.ensures in
    carries_as c.args.command (Read profile c.in-Read.reading) (secrets_of c.args.secrets.now) c.read_file.result _ _ _ c.in-Read.is
    (record {
      answer = did.answer;
      line = did.line;
      memory = λ is. refl;
      causes = undrawn c.read_file.result false _ _ _ _ (g.E.Entropy.faults c.args.entropy.now) (g.E.Entropy.faults c.read_file.new.entropy) did.causes (ap g.E.Entropy.faults did.draws);
      drawn = record { draws = λ none. did.draws; undrawn = λ told there. did.draws; own_draws = λ told drawing done secrets gave. tt };
      leaves = λ told. record {
        unrecovered = did.unrecovered told;
        recovered = (did.recovered told, λ reads. did.left told);
        untouched = did.untouched told;
        fresh_gone = λ done beside. cc;
        keeps = keeps_held profile.page_size (disk_run d.reads d.images d.moment d.since c.args.disk.now c.read_file.new.disk) (λ image ever. (did.keeps told).each image ever);
        changes = tt;
      };
    })

-- ---- a change

pub change_file-requires-clause-layout : goal.change_file-requires-clause-layout
change_file-requires-clause-layout g c = subst (λ (command : Asked). layouts_differ command ≡ false) c.in-Change.is (none_refused c.args.command c.requires.unrefused).1

pub returns-in-Change : goal.returns-in-Change
returns-in-Change g c =
    let d = g.D.Disk in
    let run = disk_run d.reads d.images d.moment d.since c.args.disk.now c.change_file.new.disk in
    let file = main_of (d.reads c.change_file.new.disk) in
    let tells = g.E.Entropy.tells in
    let drawn = drop (length (g.E.Entropy.drawn c.args.entropy.now)) (g.E.Entropy.drawn c.change_file.new.entropy) in
    let profile = c.in-Change.profile in
    let change = c.in-Change.change in
    let command = ChangeFile profile change in
    let did = c.change_file.ensures in
    carries_as c.args.command command (secrets_of c.args.secrets.now) c.change_file.result _ _ _ c.in-Change.is
    (record {
      answer = did.answer;
      line = λ printed way. did.line printed;
      memory = λ is. refl;
      causes = did.causes;
      drawn = record {
        draws = λ none. no_reading none;
        undrawn = λ told there. cc;
        own_draws = λ told drawing done secrets gave.
            subst (λ (l : List Secret). IsDrawnFor command (renewed_with profile change l) file drawn) (sym gave) (did.own_draws told drawing done);
      };
      leaves = λ told. record {
        unrecovered = did.unrecovered told;
        recovered = (did.recovered told, λ reads. no_reading reads);
        untouched = did.untouched told;
        fresh_gone = λ done beside. did.fresh_gone told done (not_in_place (is_in_place change) beside);
        keeps = change_keeps profile change run (λ in_place image ever. (did.fresh told in_place).each image ever);
        changes = λ secrets gave. subst (λ (l : List Secret). IsSafely c.change_file.result command tells drawn run (renewed_with profile change l)) (sym gave) (did.changes told);
      };
    })

-- ---- make

pub returns-in-Make : goal.returns-in-Make
returns-in-Make g c =
    let d = g.D.Disk in
    let run = disk_run d.reads d.images d.moment d.since c.args.disk.now c.make_file.new.disk in
    let file = main_of (d.reads c.make_file.new.disk) in
    let tells = g.E.Entropy.tells in
    let drawn = drop (length (g.E.Entropy.drawn c.args.entropy.now)) (g.E.Entropy.drawn c.make_file.new.entropy) in
    let profile = c.in-Make.profile in
    let rows = c.in-Make.rows in
    let command = Make profile rows in
    let did = c.make_file.ensures in
    carries_as c.args.command command (secrets_of c.args.secrets.now) c.make_file.result _ _ _ c.in-Make.is
    (record {
      answer = did.answer;
      line = λ printed way. did.line printed;
      memory = λ is. refl;
      causes = did.causes;
      drawn = record {
        draws = λ none. no_reading none;
        undrawn = did.undrawn;
        own_draws = λ told drawing done secrets gave.
            subst (λ (l : List Secret). IsDrawnFor command (same_key profile l) file drawn) (sym gave) (did.own_draws told drawing done);
      };
      leaves = λ told. record {
        unrecovered = did.unrecovered told;
        recovered = tt;
        untouched = tt;
        fresh_gone = λ done beside. did.fresh_gone told done;
        keeps = record {
          in_the_way = λ there. read_stays d.reads d.images d.moment d.since g.met.D.Disk.counts_now g.met.D.Disk.only_now (did.only_read told there);
          journal = λ image ever. (did.journal told).each image ever;
        };
        changes = λ secrets gave. subst (λ (l : List Secret). MakesWith c.make_file.result profile rows tells drawn run l) (sym gave) (did.changes told);
      };
    })
