use Rattle.std.proofs.Common.{◌≡◌, ◌++◌, ℕ, List, refl, sym, ap, subst, ◌∙◌}
use Rattle.std.specs.Prelude.{◌||◌, Bool, IsTrue, slice_index}
use Rattle.edge_model.specs.Images.{LeavesOnly}
use Rattle.session_hall.specs.Faults.{is_fault_answer}
use Rattle.session_hall.specs.Machine.{state}
use Rattle.session_hall.specs.declared.step.Answer.TheVariants.{DiskFault as DiskFails, EntropyFault as EntropyFails, OutOfMemory as MemoryEnds}
use Rattle.session_play.specs.AnswerText.{answer_line}
use Rattle.session_play.specs.declared.playing.PlayError.TheVariants.{DiskFault, EntropyFault, OutOfMemory}
use Rattle.session_play.proofs.Progress.{failed, printed_answer, printed_fault, put}
use Rattle.session_play.proofs.Stopping.{made_draws, made_file, made_leaves}
use Rattle.text_lines.specs.Text.{PutsPart}
use Rattle.session_play.proofs.playing.play_line.Goals as goal

pub returns-in-DiskFault-clause-carried : goal.returns-in-DiskFault-clause-carried
returns-in-DiskFault-clause-carried g c =
    let d = g.D.Disk in
    let old = c.args.hall.now in
    let new = c.step-answer.new.self in
    let entry = c.in-Some.entry in (
      failed c.args.layout.now c.args.line.now d.tells g.E.Entropy.tells (LeavesOnly d.moment d.since old.disk.now new.disk.now)
          (g.E.Entropy.drawn old.entropy.now) (g.E.Entropy.drawn new.entropy.now) (state (d.reads old.disk.now) old.layout old.sessions.items old.page) (state (d.reads new.disk.now) new.layout new.sessions.items new.page)
          entry DiskFails (made_file d.reads d.images d.moment d.since old.disk.now new.disk.now old.layout old.sessions.items old.page entry DiskFails g.E.Entropy.tells (g.E.Entropy.drawn old.entropy.now) (g.E.Entropy.drawn new.entropy.now) d.tells (λ told. c.in-DiskFault.ensures.any_moment told c.requires.up)) DiskFault (sym c.in-Some.ensures.value) (λ tells. c.in-DiskFault.ensures.told tells c.requires.up) (λ tells draws. (c.in-DiskFault.ensures.drawn tells draws c.requires.up, made_draws d.reads d.images d.moment d.since old.disk.now new.disk.now old.layout old.sessions.items old.page entry DiskFails g.E.Entropy.tells (g.E.Entropy.drawn old.entropy.now) (g.E.Entropy.drawn new.entropy.now) d.tells (λ told. c.in-DiskFault.ensures.any_moment told c.requires.up) draws))
          (λ tells. made_leaves d.reads d.images d.moment d.since old.disk.now new.disk.now old.layout old.sessions.items old.page entry DiskFails g.E.Entropy.tells (g.E.Entropy.drawn old.entropy.now) (g.E.Entropy.drawn new.entropy.now) d.tells (λ told. c.in-DiskFault.ensures.any_moment told c.requires.up) tells (c.requires.kept tells).settled (λ failed. c.in-DiskFault.ensures.only_old failed tells c.requires.up))
          refl,
      λ tells. refl,
    )

pub returns-in-EntropyFault-clause-carried : goal.returns-in-EntropyFault-clause-carried
returns-in-EntropyFault-clause-carried g c =
    let d = g.D.Disk in
    let old = c.args.hall.now in
    let new = c.step-answer.new.self in
    let entry = c.in-Some.entry in (
      failed c.args.layout.now c.args.line.now d.tells g.E.Entropy.tells (LeavesOnly d.moment d.since old.disk.now new.disk.now)
          (g.E.Entropy.drawn old.entropy.now) (g.E.Entropy.drawn new.entropy.now) (state (d.reads old.disk.now) old.layout old.sessions.items old.page) (state (d.reads new.disk.now) new.layout new.sessions.items new.page)
          entry EntropyFails (made_file d.reads d.images d.moment d.since old.disk.now new.disk.now old.layout old.sessions.items old.page entry EntropyFails g.E.Entropy.tells (g.E.Entropy.drawn old.entropy.now) (g.E.Entropy.drawn new.entropy.now) d.tells (λ told. c.in-EntropyFault.ensures.any_moment told c.requires.up)) EntropyFault (sym c.in-Some.ensures.value) (λ tells. c.in-EntropyFault.ensures.told tells c.requires.up) (λ tells draws. (c.in-EntropyFault.ensures.drawn tells draws c.requires.up, made_draws d.reads d.images d.moment d.since old.disk.now new.disk.now old.layout old.sessions.items old.page entry EntropyFails g.E.Entropy.tells (g.E.Entropy.drawn old.entropy.now) (g.E.Entropy.drawn new.entropy.now) d.tells (λ told. c.in-EntropyFault.ensures.any_moment told c.requires.up) draws))
          (λ tells. made_leaves d.reads d.images d.moment d.since old.disk.now new.disk.now old.layout old.sessions.items old.page entry EntropyFails g.E.Entropy.tells (g.E.Entropy.drawn old.entropy.now) (g.E.Entropy.drawn new.entropy.now) d.tells (λ told. c.in-EntropyFault.ensures.any_moment told c.requires.up) tells (c.requires.kept tells).settled (λ failed. c.in-EntropyFault.ensures.only_old failed tells c.requires.up))
          refl,
      λ tells. refl,
    )

pub returns-in-OutOfMemory-clause-carried : goal.returns-in-OutOfMemory-clause-carried
returns-in-OutOfMemory-clause-carried g c =
    let d = g.D.Disk in
    let old = c.args.hall.now in
    let new = c.step-answer.new.self in
    let entry = c.in-Some.entry in (
      failed c.args.layout.now c.args.line.now d.tells g.E.Entropy.tells (LeavesOnly d.moment d.since old.disk.now new.disk.now)
          (g.E.Entropy.drawn old.entropy.now) (g.E.Entropy.drawn new.entropy.now) (state (d.reads old.disk.now) old.layout old.sessions.items old.page) (state (d.reads new.disk.now) new.layout new.sessions.items new.page)
          entry MemoryEnds (made_file d.reads d.images d.moment d.since old.disk.now new.disk.now old.layout old.sessions.items old.page entry MemoryEnds g.E.Entropy.tells (g.E.Entropy.drawn old.entropy.now) (g.E.Entropy.drawn new.entropy.now) d.tells (λ told. c.in-OutOfMemory.ensures.any_moment told c.requires.up)) OutOfMemory (sym c.in-Some.ensures.value) (λ tells. c.in-OutOfMemory.ensures.told tells c.requires.up) (λ tells draws. (c.in-OutOfMemory.ensures.drawn tells draws c.requires.up, made_draws d.reads d.images d.moment d.since old.disk.now new.disk.now old.layout old.sessions.items old.page entry MemoryEnds g.E.Entropy.tells (g.E.Entropy.drawn old.entropy.now) (g.E.Entropy.drawn new.entropy.now) d.tells (λ told. c.in-OutOfMemory.ensures.any_moment told c.requires.up) draws))
          (λ tells. made_leaves d.reads d.images d.moment d.since old.disk.now new.disk.now old.layout old.sessions.items old.page entry MemoryEnds g.E.Entropy.tells (g.E.Entropy.drawn old.entropy.now) (g.E.Entropy.drawn new.entropy.now) d.tells (λ told. c.in-OutOfMemory.ensures.any_moment told c.requires.up) tells (c.requires.kept tells).settled (λ failed. c.in-OutOfMemory.ensures.only_old failed tells c.requires.up))
          refl,
      λ tells. refl,
    )

pub returns-in-Ok-clause-carried : goal.returns-in-Ok-clause-carried
returns-in-Ok-clause-carried g c =
    let d = g.D.Disk in
    let old = c.args.hall.now in
    let new = c.step-answer.new.self in
    let entry = c.in-Some.entry in
    let answer = c.step-answer.result in
    let others = c.in_default-answer in
    let text : c.answer_line.result ≡ answer_line (slice_index new.page entry.at) answer =
    c.answer_line.ensures ∙ ap (λ (b : ℕ). answer_line b answer) (c.byte_at-byte.ensures ∙ ap (λ (p : List ℕ). slice_index p entry.at) c.last.ensures) in
    put c.args.layout.now c.args.line.now d.tells g.E.Entropy.tells (LeavesOnly d.moment d.since old.disk.now new.disk.now)
    (g.E.Entropy.drawn old.entropy.now) (g.E.Entropy.drawn new.entropy.now) (state (d.reads old.disk.now) old.layout old.sessions.items old.page) (state (d.reads new.disk.now) new.layout new.sessions.items new.page)
    entry answer (made_file d.reads d.images d.moment d.since old.disk.now new.disk.now old.layout old.sessions.items old.page entry answer g.E.Entropy.tells (g.E.Entropy.drawn old.entropy.now) (g.E.Entropy.drawn new.entropy.now) d.tells (λ told. c.step-answer.ensures.any_moment told c.requires.up)) (λ text. IsTrue g.S.Sink.tells → g.S.Sink.taken c.put.new.out ≡ g.S.Sink.taken c.args.out.now ++ text)
    (sym c.in-Some.ensures.value) (λ tells. c.step-answer.ensures.told tells c.requires.up) (λ tells draws. (c.step-answer.ensures.drawn tells draws c.requires.up, made_draws d.reads d.images d.moment d.since old.disk.now new.disk.now old.layout old.sessions.items old.page entry answer g.E.Entropy.tells (g.E.Entropy.drawn old.entropy.now) (g.E.Entropy.drawn new.entropy.now) d.tells (λ told. c.step-answer.ensures.any_moment told c.requires.up) draws))
    (λ tells. made_leaves d.reads d.images d.moment d.since old.disk.now new.disk.now old.layout old.sessions.items old.page entry answer g.E.Entropy.tells (g.E.Entropy.drawn old.entropy.now) (g.E.Entropy.drawn new.entropy.now) d.tells (λ told. c.step-answer.ensures.any_moment told c.requires.up) tells (c.requires.kept tells).settled (λ failed. c.step-answer.ensures.only_old failed tells c.requires.up))
    (printed_answer answer others.not-DiskFault others.not-EntropyFault others.not-OutOfMemory others.not-Down)
    (λ tells. c.in-Ok.ensures.done tells ∙ ap (λ (t : List ℕ). g.S.Sink.taken c.args.out.now ++ t) text)

pub returns-in-Ok-clause-up : goal.returns-in-Ok-clause-up
returns-in-Ok-clause-up g c = λ goes.
    let answer = c.step-answer.result in
    let others = c.in_default-answer in
    let printed = printed_answer answer others.not-DiskFault others.not-EntropyFault others.not-OutOfMemory others.not-Down in
    c.step-answer.ensures.falls ∙ (ap (λ (b : Bool). b || is_fault_answer answer) c.requires.up ∙ printed_fault answer printed)

pub returns-in-Err-clause-carried : goal.returns-in-Err-clause-carried
returns-in-Err-clause-carried g c =
    let d = g.D.Disk in
    let old = c.args.hall.now in
    let new = c.step-answer.new.self in
    let entry = c.in-Some.entry in
    let answer = c.step-answer.result in
    let others = c.in_default-answer in
    let text : c.answer_line.result ≡ answer_line (slice_index new.page entry.at) answer =
    c.answer_line.ensures ∙ ap (λ (b : ℕ). answer_line b answer) (c.byte_at-byte.ensures ∙ ap (λ (p : List ℕ). slice_index p entry.at) c.last.ensures) in
    put c.args.layout.now c.args.line.now d.tells g.E.Entropy.tells (LeavesOnly d.moment d.since old.disk.now new.disk.now)
    (g.E.Entropy.drawn old.entropy.now) (g.E.Entropy.drawn new.entropy.now) (state (d.reads old.disk.now) old.layout old.sessions.items old.page) (state (d.reads new.disk.now) new.layout new.sessions.items new.page)
    entry answer (made_file d.reads d.images d.moment d.since old.disk.now new.disk.now old.layout old.sessions.items old.page entry answer g.E.Entropy.tells (g.E.Entropy.drawn old.entropy.now) (g.E.Entropy.drawn new.entropy.now) d.tells (λ told. c.step-answer.ensures.any_moment told c.requires.up)) (λ text. IsTrue g.S.Sink.tells → PutsPart text (g.S.Sink.taken c.args.out.now) (g.S.Sink.taken c.put.new.out))
    (sym c.in-Some.ensures.value) (λ tells. c.step-answer.ensures.told tells c.requires.up) (λ tells draws. (c.step-answer.ensures.drawn tells draws c.requires.up, made_draws d.reads d.images d.moment d.since old.disk.now new.disk.now old.layout old.sessions.items old.page entry answer g.E.Entropy.tells (g.E.Entropy.drawn old.entropy.now) (g.E.Entropy.drawn new.entropy.now) d.tells (λ told. c.step-answer.ensures.any_moment told c.requires.up) draws))
    (λ tells. made_leaves d.reads d.images d.moment d.since old.disk.now new.disk.now old.layout old.sessions.items old.page entry answer g.E.Entropy.tells (g.E.Entropy.drawn old.entropy.now) (g.E.Entropy.drawn new.entropy.now) d.tells (λ told. c.step-answer.ensures.any_moment told c.requires.up) tells (c.requires.kept tells).settled (λ failed. c.step-answer.ensures.only_old failed tells c.requires.up))
    (printed_answer answer others.not-DiskFault others.not-EntropyFault others.not-OutOfMemory others.not-Down)
    (λ tells. subst (λ (t : List ℕ). PutsPart t (g.S.Sink.taken c.args.out.now) (g.S.Sink.taken c.put.new.out)) text (c.in-Err.ensures.part tells))

pub returns-in-Err-clause-up : goal.returns-in-Err-clause-up
returns-in-Err-clause-up g c = λ goes.
    let answer = c.step-answer.result in
    let others = c.in_default-answer in
    let printed = printed_answer answer others.not-DiskFault others.not-EntropyFault others.not-OutOfMemory others.not-Down in
    c.step-answer.ensures.falls ∙ (ap (λ (b : Bool). b || is_fault_answer answer) c.requires.up ∙ printed_fault answer printed)
