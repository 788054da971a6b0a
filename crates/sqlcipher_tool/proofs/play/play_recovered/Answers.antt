use Rattle.std.proofs.Common.{◌≡◌, ◌∙◌, sym, ap, subst, rules}
use Rattle.atomic_commit.specs.Facts.{SameFresh}
use Rattle.edge_model.specs.Files.{main_of}
use Rattle.edge_model.specs.Images.{From, LeavesOnly}
use Rattle.session_hall.specs.Machine.{state}
use Rattle.session_play.specs.Moments.{disk_told}
use Rattle.sqlcipher_tool.specs.Play.{IsScriptPlayedIn}
use Rattle.sqlcipher_tool.proofs.play.play_recovered.Goals as goal

pub returns-clause-played : goal.returns-clause-played
returns-clause-played g c =
    let d = g.D.Disk in
    let hall = c.on-hall.result in
    let end = c.play_in-disk.result.0.now in
    let begun : hall.disk.now ≡ c.args.disk.now = c.on-hall.ensures.disk.1 in
    let last : c.disk-1.given.0 ≡ end = search rules in
    let bytes : c.entropy-1.given.0 ≡ c.play_in-disk.result.1.now = search rules in
    rw (last, bytes) (record {
      played = c.play_in-disk.result.2;
      shown = g.S.Sink.taken c.play_in-disk.new.out;
      hall = state (d.reads hall.disk.now) hall.layout hall.sessions.items hall.page;
      opened = λ told. record {
        main = ap (λ (x : _). main_of (d.reads x)) begun;
        laid = c.on-hall.ensures.layout ∙ c.requires.layout;
        many = c.on-hall.ensures.many;
        all_closed = c.on-hall.ensures.all_closed;
        no_page = c.on-hall.ensures.no_page;
      };
      script = subst
          (λ (x : _). IsScriptPlayedIn c.args.profile c.play_in-disk.result.2 g.K.Source.tells g.S.Sink.tells d.tells g.E.Entropy.tells (LeavesOnly d.moment d.since x end) (disk_told d.reads d.images d.moment d.since) x end (d.reads end) (d.images end)
          (g.K.Source.left c.args.input.now) (g.K.Source.left c.play_in-disk.new.input) (g.S.Sink.taken c.args.out.now) (g.S.Sink.taken c.play_in-disk.new.out)
          (g.E.Entropy.drawn c.args.entropy.now) (g.E.Entropy.drawn c.play_in-disk.result.1.now)
          (state (d.reads hall.disk.now) hall.layout hall.sessions.items hall.page))
          begun (subst (λ (y : _). IsScriptPlayedIn c.args.profile c.play_in-disk.result.2 g.K.Source.tells g.S.Sink.tells d.tells g.E.Entropy.tells (LeavesOnly d.moment d.since hall.disk.now end) (disk_told d.reads d.images d.moment d.since) hall.disk.now end (d.reads end) (d.images end)
          (g.K.Source.left c.args.input.now) (g.K.Source.left c.play_in-disk.new.input) (g.S.Sink.taken c.args.out.now) (g.S.Sink.taken c.play_in-disk.new.out)
          (g.E.Entropy.drawn y) (g.E.Entropy.drawn c.play_in-disk.result.1.now)
          (state (d.reads hall.disk.now) hall.layout hall.sessions.items hall.page)) c.on-hall.ensures.entropy.1 c.play_in-disk.ensures.played);
      ends = c.conclude_script-status.ensures.ends;
    })

pub returns-clause-fresh : goal.returns-clause-fresh
returns-clause-fresh g c = λ told.
    let d = g.D.Disk in
    let end = c.play_in-disk.result.0.now in
    let last : c.disk-1.given.0 ≡ end = search rules in
    subst (λ (y : _). LeavesOnly d.moment d.since c.args.disk.now y (From SameFresh (d.images c.args.disk.now))) (sym last)
    (subst (λ (x : _). LeavesOnly d.moment d.since x end (From SameFresh (d.images x))) c.on-hall.ensures.disk.1 (c.play_in-disk.ensures.fresh told))
