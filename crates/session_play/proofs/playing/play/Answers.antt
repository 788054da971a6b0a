use Rattle.std.proofs.Common.{◌≡◌, ◌≤◌, ◌<◌, ◌+◌, ℕ, List, length, take, drop, false, refl, sym, ap, subst, ◌∙◌, arith}
use Rattle.std.specs.Prelude.{Err}
use Rattle.std.proofs.lemmas.List.{drop-drop, length-take}
use Rattle.cipher_profile.specs.Profile.{is_plain}
use Rattle.edge_model.specs.Files.{Files}
use Rattle.edge_model.specs.Images.{Each, LeavesOnly}
use Rattle.edge_model.specs.Moments.{at_exit, started_from}
use Rattle.atomic_commit.specs.Facts.{SameFresh}
use Rattle.session_hall.specs.Machine.{state}
use Rattle.session_play.specs.Moments.{disk_told}
use Rattle.session_play.specs.Script.{script_lines}
use Rattle.session_play.specs.declared.playing.PlayError.TheVariants.{InputFault}
use Rattle.session_play.specs.declared.line.Ending.TheVariants.{End, More, SourceFault}
use Rattle.session_play.proofs.Progress.{begun, broken, goes_on, limited, stops}
use Rattle.session_hall.proofs.Fresh.{then_fresh}
use Rattle.session_play.proofs.Stopping.{begun_leaves, joined, stands_as}
use Rattle.session_play.proofs.playing.play.Goals as goal

pub loop-carried-init : goal.loop-carried-init
loop-carried-init g c =
    let d = g.D.Disk in
    let old = c.args.hall.now in
    record {
      playing = begun c.args.layout.now g.K.Source.tells g.S.Sink.tells d.tells g.E.Entropy.tells (LeavesOnly d.moment d.since old.disk.now old.disk.now)
          (disk_told d.reads d.images d.moment d.since) old.disk.now (g.K.Source.left c.args.input.now) (g.S.Sink.taken c.args.out.now) (g.E.Entropy.drawn old.entropy.now) (state (d.reads old.disk.now) old.layout old.sessions.items old.page)
          (λ tells. begun_leaves d.reads d.images d.moment d.since g.met.D.Disk.only_now old.disk.now (c.requires.kept tells).settled);
      fresh = λ tells. started_from g.met.D.Disk.only_now old.disk.now SameFresh (λ image. refl);
      up = c.requires.up;
      kept = c.requires.kept;
      taken = λ tells. (0, refl);
      input_later = omega arith;
      output_later = omega arith;
      disk_later = omega arith;
      entropy_later = omega arith;
      layout = refl;
      undrawn = λ plain. refl;
      disk_name = refl;
      entropy_name = refl;
    }

pub loop-carried-preserved : goal.loop-carried-preserved
loop-carried-preserved g c =
    let d = g.D.Disk in
    let left = g.K.Source.left in
    let taken = g.S.Sink.taken in
    let old = c.args.hall.now in
    let loop = c.loop-carried in
    let now = loop.hall in
    let told = disk_told d.reads d.images d.moment d.since in
    let leaves = LeavesOnly d.moment d.since old.disk.now now.disk.now in
    let start = state (d.reads old.disk.now) old.layout old.sessions.items old.page in
    let mid = state (d.reads now.disk.now) now.layout now.sessions.items now.page in
    let new = c.play_line.new.hall in
    let leaves_step = LeavesOnly d.moment d.since now.disk.now new.disk.now in
    let have : (Files → Type 0) → Type 0 = Each (d.images new.disk.now) in
    let leaves_new = LeavesOnly d.moment d.since old.disk.now new.disk.now in
    let end = state (d.reads new.disk.now) new.layout new.sessions.items new.page in
    let line : List ℕ = take c.in-Line.len c.take_line.new.line in
    let short : length line ≤ 1100 = omega (arith, length-take c.in-Line.len c.take_line.new.line, c.in-Line.ensures.short) in
    let up : new.is_down ≡ false = c.in-Ok.ensures.up tt in
    record {
      playing = goes_on c.args.layout.now g.K.Source.tells g.S.Sink.tells d.tells g.E.Entropy.tells leaves leaves_step leaves_new have told old.disk.now now.disk.now new.disk.now (left c.args.input.now) (left loop.input) (taken c.args.out.now) (taken loop.out)
          (g.E.Entropy.drawn old.entropy.now) (g.E.Entropy.drawn now.entropy.now) start mid loop.carried loop.invariant.playing
          line (left c.take_line.new.source) (taken c.play_line.new.out) (g.E.Entropy.drawn new.entropy.now) end
          (joined d.reads d.images d.moment d.since old.disk.now now.disk.now new.disk.now) (λ P run. run)
          (λ tells. stands_as (d.reads new.disk.now) (d.images new.disk.now) (c.in-Ok.ensures.kept tells up).settled)
          short (λ tells. c.in-Line.ensures.found tells) c.in-Ok.ensures.carried;
      up = up;
      fresh = λ tells. then_fresh g.met.D.Disk.counts_now (loop.invariant.fresh tells) (c.in-Ok.ensures.fresh tells);
      kept = λ tells. c.in-Ok.ensures.kept tells up;
      taken = λ tells.
          let so_far = loop.invariant.taken tells in
          let more = c.in-Line.ensures.at_most tells in
          (so_far.0 + more.0, more.2 ∙ (ap (drop more.0) so_far.1 ∙ drop-drop more.0 so_far.0 (left c.args.input.now)));
      input_later = omega (arith, loop.invariant.input_later, c.in-Line.ensures.later);
      output_later = omega (arith, loop.invariant.output_later, c.in-Ok.ensures.output_later);
      disk_later = omega (arith, loop.invariant.disk_later, c.in-Ok.ensures.later.0);
      entropy_later = omega (arith, loop.invariant.entropy_later, c.in-Ok.ensures.later.1);
      layout = c.in-Ok.ensures.layout ∙ loop.invariant.layout;
      undrawn = λ plain. (c.in-Ok.ensures.undrawn (ap is_plain loop.invariant.layout ∙ plain)).0 ∙ loop.invariant.undrawn plain;
      disk_name = c.in-Ok.ensures.names.0 ∙ loop.invariant.disk_name;
      entropy_name = c.in-Ok.ensures.names.1 ∙ loop.invariant.entropy_name;
    }

-- A line is not carried out to its end.
pub returns-in-Err-clause-played : goal.returns-in-Err-clause-played
returns-in-Err-clause-played g c =
    let d = g.D.Disk in
    let left = g.K.Source.left in
    let taken = g.S.Sink.taken in
    let old = c.args.hall.now in
    let loop = c.loop-carried in
    let now = loop.hall in
    let told = disk_told d.reads d.images d.moment d.since in
    let leaves = LeavesOnly d.moment d.since old.disk.now now.disk.now in
    let start = state (d.reads old.disk.now) old.layout old.sessions.items old.page in
    let mid = state (d.reads now.disk.now) now.layout now.sessions.items now.page in
    let new = c.play_line.new.hall in
    let leaves_step = LeavesOnly d.moment d.since now.disk.now new.disk.now in
    let have : (Files → Type 0) → Type 0 = Each (d.images new.disk.now) in
    let leaves_new = LeavesOnly d.moment d.since old.disk.now new.disk.now in
    let end = state (d.reads new.disk.now) new.layout new.sessions.items new.page in
    let line : List ℕ = take c.in-Line.len c.take_line.new.line in
    let short : length line ≤ 1100 = omega (arith, length-take c.in-Line.len c.take_line.new.line, c.in-Line.ensures.short) in
    let few : loop.carried < 100000 = omega arith in
    broken c.args.layout.now g.K.Source.tells g.S.Sink.tells d.tells g.E.Entropy.tells leaves leaves_step leaves_new have told old.disk.now now.disk.now new.disk.now (left c.args.input.now) (left loop.input) (taken c.args.out.now) (taken loop.out)
    (g.E.Entropy.drawn old.entropy.now) (g.E.Entropy.drawn now.entropy.now) start mid loop.carried loop.invariant.playing
    c.in-Err.error line (left c.take_line.new.source) (taken c.play_line.new.out) (g.E.Entropy.drawn new.entropy.now) end
    (joined d.reads d.images d.moment d.since old.disk.now now.disk.now new.disk.now)
    (λ P run x here. at_exit g.met.D.Disk.counts_now run x here) (λ P run. run)
    (λ stays tells. stands_as (d.reads new.disk.now) (d.images new.disk.now) (c.in-Err.ensures.kept tells (c.in-Err.ensures.up stays)).settled)
    few short (λ tells. c.in-Line.ensures.found tells)
    (λ n is P has. subst (λ (x : _). LeavesOnly d.moment d.since old.disk.now x P) (sym (c.in-Err.ensures.unmoved n (ap Err is))) has)
    (λ n is. c.in-Err.ensures.unmoved n (ap Err is))
    c.in-Err.ensures.carried

-- The source failed within a line.
pub returns-in-SourceFault-clause-played : goal.returns-in-SourceFault-clause-played
returns-in-SourceFault-clause-played g c =
    let d = g.D.Disk in
    let left = g.K.Source.left in
    let taken = g.S.Sink.taken in
    let old = c.args.hall.now in
    let loop = c.loop-carried in
    let now = loop.hall in
    let told = disk_told d.reads d.images d.moment d.since in
    let have : (Files → Type 0) → Type 0 = Each (d.images now.disk.now) in
    let leaves = LeavesOnly d.moment d.since old.disk.now now.disk.now in
    let start = state (d.reads old.disk.now) old.layout old.sessions.items old.page in
    let mid = state (d.reads now.disk.now) now.layout now.sessions.items now.page in
    let few : loop.carried ≤ 100000 = omega arith in
    stops c.args.layout.now g.K.Source.tells g.S.Sink.tells d.tells g.E.Entropy.tells leaves leaves leaves have told old.disk.now now.disk.now now.disk.now (left c.args.input.now) (left loop.input) (taken c.args.out.now) (taken loop.out)
    (g.E.Entropy.drawn old.entropy.now) (g.E.Entropy.drawn now.entropy.now) start mid loop.carried loop.invariant.playing
    (Err InputFault) (left c.take_line.new.source) (script_lines (left loop.input)) mid few (λ all. all) (λ text all. all) (λ tells. refl) (λ tells. tt) refl

pub returns-in-End-clause-played : goal.returns-in-End-clause-played
returns-in-End-clause-played g c =
    let d = g.D.Disk in
    let left = g.K.Source.left in
    let taken = g.S.Sink.taken in
    let old = c.args.hall.now in
    let loop = c.loop-carried in
    let now = loop.hall in
    let told = disk_told d.reads d.images d.moment d.since in
    let have : (Files → Type 0) → Type 0 = Each (d.images now.disk.now) in
    let leaves = LeavesOnly d.moment d.since old.disk.now now.disk.now in
    let start = state (d.reads old.disk.now) old.layout old.sessions.items old.page in
    let mid = state (d.reads now.disk.now) now.layout now.sessions.items now.page in
    let all : loop.carried ≡ 100000 = omega arith in
    limited c.args.layout.now g.K.Source.tells g.S.Sink.tells d.tells g.E.Entropy.tells leaves leaves leaves have told old.disk.now now.disk.now now.disk.now (left c.args.input.now) (left loop.input) (taken c.args.out.now) (taken loop.out)
    (g.E.Entropy.drawn old.entropy.now) (g.E.Entropy.drawn now.entropy.now) start mid loop.carried loop.invariant.playing
    End (left c.take_ending.new.source) all (λ tells. c.in-End.ensures.found tells)

pub returns-in-More-clause-played : goal.returns-in-More-clause-played
returns-in-More-clause-played g c =
    let d = g.D.Disk in
    let left = g.K.Source.left in
    let taken = g.S.Sink.taken in
    let old = c.args.hall.now in
    let loop = c.loop-carried in
    let now = loop.hall in
    let told = disk_told d.reads d.images d.moment d.since in
    let have : (Files → Type 0) → Type 0 = Each (d.images now.disk.now) in
    let leaves = LeavesOnly d.moment d.since old.disk.now now.disk.now in
    let start = state (d.reads old.disk.now) old.layout old.sessions.items old.page in
    let mid = state (d.reads now.disk.now) now.layout now.sessions.items now.page in
    let all : loop.carried ≡ 100000 = omega arith in
    limited c.args.layout.now g.K.Source.tells g.S.Sink.tells d.tells g.E.Entropy.tells leaves leaves leaves have told old.disk.now now.disk.now now.disk.now (left c.args.input.now) (left loop.input) (taken c.args.out.now) (taken loop.out)
    (g.E.Entropy.drawn old.entropy.now) (g.E.Entropy.drawn now.entropy.now) start mid loop.carried loop.invariant.playing
    More (left c.take_ending.new.source) all (λ tells. c.in-More.ensures.found tells)

pub returns-in-SourceFault-take_ending-clause-played : goal.returns-in-SourceFault-take_ending-clause-played
returns-in-SourceFault-take_ending-clause-played g c =
    let d = g.D.Disk in
    let left = g.K.Source.left in
    let taken = g.S.Sink.taken in
    let old = c.args.hall.now in
    let loop = c.loop-carried in
    let now = loop.hall in
    let told = disk_told d.reads d.images d.moment d.since in
    let have : (Files → Type 0) → Type 0 = Each (d.images now.disk.now) in
    let leaves = LeavesOnly d.moment d.since old.disk.now now.disk.now in
    let start = state (d.reads old.disk.now) old.layout old.sessions.items old.page in
    let mid = state (d.reads now.disk.now) now.layout now.sessions.items now.page in
    let all : loop.carried ≡ 100000 = omega arith in
    limited c.args.layout.now g.K.Source.tells g.S.Sink.tells d.tells g.E.Entropy.tells leaves leaves leaves have told old.disk.now now.disk.now now.disk.now (left c.args.input.now) (left loop.input) (taken c.args.out.now) (taken loop.out)
    (g.E.Entropy.drawn old.entropy.now) (g.E.Entropy.drawn now.entropy.now) start mid loop.carried loop.invariant.playing
    SourceFault (left c.take_ending.new.source) all (λ tells. c.in-SourceFault-take_ending.ensures.found tells)

pub returns-in-Err-clause-undrawn : goal.returns-in-Err-clause-undrawn
returns-in-Err-clause-undrawn g c = λ plain.
    let still = c.in-Err.ensures.undrawn (ap is_plain c.loop-carried.invariant.layout ∙ plain) in
    (still.0 ∙ c.loop-carried.invariant.undrawn plain, still.1)

pub returns-in-Err-clause-fresh : goal.returns-in-Err-clause-fresh
returns-in-Err-clause-fresh g c = λ tells. then_fresh g.met.D.Disk.counts_now (c.loop-carried.invariant.fresh tells) (c.in-Err.ensures.fresh tells)
