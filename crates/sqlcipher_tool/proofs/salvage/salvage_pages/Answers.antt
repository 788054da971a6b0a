use Rattle.std.proofs.Common.{◌≡◌, ◌<◌, List, ℕ, Err, ap, subst}
use Rattle.db_format.specs.Pages.{Pages}
use Rattle.edge_model.specs.Files.{main_of}
use Rattle.salvage_scan.specs.Answer.{IsKeyAnswered, IsStop}
use Rattle.salvage_scan.specs.Salvage.{IsNoneAccepted, file_pages}
use Rattle.salvage_scan.specs.declared.error.SalvageError.{SalvageError}
use Rattle.salvage_scan.specs.declared.error.SalvageError.TheVariants.{KeyRefused}
use Rattle.sqlcipher_tool.specs.Answer.{Puts}
use Rattle.sqlcipher_tool.specs.declared.status.Status.TheVariants.{DiskFault, OutputFault, OutOfMemory}
use Rattle.sqlcipher_tool.proofs.Salvaging.{refused_one, salvaged_one, stopped_one}
use Rattle.sqlcipher_tool.proofs.salvage.salvage_pages.Goals as goal

pub returns-in-Ok-clause-answer : goal.returns-in-Ok-clause-answer
returns-in-Ok-clause-answer g c = λ told.
    salvaged_one c.args.codec.now (main_of (g.D.Disk.reads c.args.disk.now)) g.S.Sink.tells (g.S.Sink.taken c.args.out.now) (g.S.Sink.taken c.salvage.new.out)
    (c.in-Ok.ensures.key told) (c.in-Ok.ensures.on told).text

-- why the key was refused, and that nothing was put
key_of : (tag_len : ℕ) (pages : Pages) (error : SalvageError) → error ≡ KeyRefused → IsKeyAnswered tag_len pages (Err error) → (0 < tag_len) × IsNoneAccepted pages
key_of tag_len pages error is key = subst (λ (e : SalvageError). IsKeyAnswered tag_len pages (Err e)) is key

stop_of : (tag_len a b d e : ℕ) (same : Type 0) (error : SalvageError) → error ≡ KeyRefused → IsStop tag_len a b d e same error → (0 < tag_len) × same
stop_of tag_len a b d e same error is stop = subst (λ (x : SalvageError). IsStop tag_len a b d e same x) is stop

pub returns-in-Err-KeyRefused-clause-answer : goal.returns-in-Err-KeyRefused-clause-answer
returns-in-Err-KeyRefused-clause-answer g c = λ told.
    let files = g.D.Disk.reads c.args.disk.now in
    let key = key_of c.args.codec.now.profile.tag_len (file_pages c.args.codec.now files) c.in-Err-KeyRefused.field-0 c.in-Err-KeyRefused.field-0-is
    (c.in-Err-KeyRefused.ensures.key told) in
    let same = (stop_of c.args.codec.now.profile.tag_len _ _ _ _ _ c.in-Err-KeyRefused.field-0 c.in-Err-KeyRefused.field-0-is c.in-Err-KeyRefused.ensures.stop).1 in
    refused_one c.args.codec.now (main_of files) g.S.Sink.tells (g.S.Sink.taken c.args.out.now) (g.S.Sink.taken c.conclude.new.out) c.conclude.result key.0 key.1
    c.conclude.ensures.status
    (λ printed. subst (λ (text : List ℕ). Puts c.conclude.result text (g.S.Sink.taken c.args.out.now) (g.S.Sink.taken c.conclude.new.out)) c.key_refused_line.ensures
    (subst (λ (start : List ℕ). Puts c.conclude.result c.key_refused_line.result start (g.S.Sink.taken c.conclude.new.out)) (ap g.S.Sink.taken same)
    (c.conclude.ensures.text printed)))

pub returns-in-Err-DiskFault-clause-answer : goal.returns-in-Err-DiskFault-clause-answer
returns-in-Err-DiskFault-clause-answer g c = λ told.
    stopped_one c.args.codec.now (main_of (g.D.Disk.reads c.args.disk.now)) g.S.Sink.tells (g.S.Sink.taken c.args.out.now) (g.S.Sink.taken c.salvage.new.out) DiskFault tt
    (λ tagged none. ap g.S.Sink.taken (c.in-Err-DiskFault.ensures.unopened told tagged none)) (c.in-Err-DiskFault.ensures.on told)

pub returns-in-Err-OutputFault-clause-answer : goal.returns-in-Err-OutputFault-clause-answer
returns-in-Err-OutputFault-clause-answer g c = λ told.
    stopped_one c.args.codec.now (main_of (g.D.Disk.reads c.args.disk.now)) g.S.Sink.tells (g.S.Sink.taken c.args.out.now) (g.S.Sink.taken c.salvage.new.out) OutputFault tt
    (λ tagged none. ap g.S.Sink.taken (c.in-Err-OutputFault.ensures.unopened told tagged none)) (c.in-Err-OutputFault.ensures.on told)

pub returns-in-Err-OutOfMemory-clause-answer : goal.returns-in-Err-OutOfMemory-clause-answer
returns-in-Err-OutOfMemory-clause-answer g c = λ told.
    stopped_one c.args.codec.now (main_of (g.D.Disk.reads c.args.disk.now)) g.S.Sink.tells (g.S.Sink.taken c.args.out.now) (g.S.Sink.taken c.salvage.new.out) OutOfMemory tt
    (λ tagged none. ap g.S.Sink.taken (c.in-Err-OutOfMemory.ensures.unopened told tagged none)) (c.in-Err-OutOfMemory.ensures.on told)
