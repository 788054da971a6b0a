use Rattle.std.proofs.Common.{◌≡◌, ◌∙◌, ◌+◌, ◌≤◌, length, ℕ, Bool, true, List, Option, Some, Result, Ok, ⊎_elim, sym, ap, subst, arith}
use Rattle.std.specs.Prelude.{IsSome}
use Rattle.std.proofs.lemmas.Bool.{cases_eq}
use Rattle.edge_model.specs.declared.role.Failed.{Failed}
use Rattle.edge_model.specs.Files.{main_of}
use Rattle.pager.specs.Reads.{then_read}
use Rattle.pager.proofs.BatchLemmas.{number_is}
use Rattle.cipher_profile.specs.declared.profile.Profile.{Profile}
use Rattle.session_hall.specs.Key.{codec_of}
use Rattle.session_hall.specs.Machine.{IsFirstUnseen, SeesUpTo, seen_page}
use Rattle.pager.proofs.Cutting.{one_page}
use Rattle.session_hall.specs.Session.{Session}
use Rattle.session_hall.proofs.reading.first_unseen.Goals as goal

some_same : (a b : ℕ) → ◌≡◌ {A = Result (Option ℕ) Failed} (Ok (Some a)) (Ok (Some b)) → a ≡ b
some_same a b is = cc

pub returns-in-Ok-false-clause-only_read : goal.returns-in-Ok-false-clause-only_read
returns-in-Ok-false-clause-only_read g c = λ told. then_read (then_read (c.codec_of_main.ensures.only_read told) (c.loop-done.invariant.read told)) (c.sees.ensures.only_read told)

pub returns-in-Err-clause-only_read : goal.returns-in-Err-clause-only_read
returns-in-Err-clause-only_read g c = λ told. then_read (then_read (c.codec_of_main.ensures.only_read told) (c.loop-done.invariant.read told)) (c.sees.ensures.only_read told)

pub returns-in-Ok-false-clause-first : goal.returns-in-Ok-false-clause-first
returns-in-Ok-false-clause-first g c = λ n is told.
    let d = g.D.Disk in
    let s = c.args.session.now in
    let done = c.loop-done.done in
    let file = main_of (d.reads c.args.disk.now) in
    let first = c.codec_of_main.new in
    let inv = c.loop-done.invariant in
    let at_first : main_of (d.reads first.disk) ≡ file = ap main_of (c.codec_of_main.ensures.only_read told).stays in
    let at_now : main_of (d.reads c.loop-done.disk) ≡ file = ap main_of (inv.read told).stays ∙ at_first in
    let seen : SeesUpTo s file done = subst (λ (l : List ℕ). SeesUpTo s l done) at_first (subst (λ (x : Session). SeesUpTo x (main_of (d.reads first.disk)) done) c.codec_of_main.ensures.same (inv.seen told)) in
    subst (λ (k : ℕ). IsFirstUnseen s file k) (some_same (done + 1) n is) (record {
      number = number_is s.pages (done + 1) (omega arith) (omega (arith, c.loop-done-test.true, c.pages-pages.ensures, ap (λ (x : Session). x.pages) c.codec_of_main.ensures.same));
      earlier = λ m one le. seen m one (omega (arith, le));
      unseen = subst (λ (l : List ℕ). seen_page s l (done + 1) ≡ Rattle.std.proofs.Common.None) at_now
          (subst (λ (x : Session). seen_page x (main_of (d.reads c.loop-done.disk)) (done + 1) ≡ Rattle.std.proofs.Common.None) c.codec_of_main.ensures.same
          (c.sees.ensures.no (c.in-Ok-false.is ∙ ap (λ (b : Bool). Ok b) c.in-Ok-false.field-0-test) told));
    })

pub loop-done-preserved : goal.loop-done-preserved
loop-done-preserved g c =
    let d = g.D.Disk in
    let inv = c.loop-done.invariant in
    let x = c.codec_of_main.new.session in
    record {
      read = λ told. then_read (inv.read told) (c.sees.ensures.only_read told);
      later = omega (arith, inv.later, c.sees.ensures.cause.later);
      seen = λ told m one le. ⊎_elim
          (λ same. subst (λ (k : ℕ). IsSome (seen_page x (main_of (d.reads c.codec_of_main.new.disk)) k)) (sym same)
          (subst (λ (l : List ℕ). IsSome (seen_page x l (c.loop-done.done + 1))) (ap main_of (inv.read told).stays)
          (c.sees.ensures.yes (c.in-Ok-true.is ∙ ap (λ (b : Bool). Ok b) c.in-Ok-true.field-0-test) told)))
          (λ other. inv.seen told m one (omega (arith, le, other))) (cases_eq m (c.loop-done.done + 1));
    }

pub sees-requires-clause-codec : goal.sees-requires-clause-codec
sees-requires-clause-codec g c = λ told.
    let d = g.D.Disk in
    let s = c.args.session.now in
    let file = main_of (d.reads c.args.disk.now) in
    let first = c.codec_of_main.new in
    let same = c.codec_of_main.ensures.same in
    let least = c.usable-usable.ensures.laid_out.least in
    let sized : c.profile-profile.result.page_size ≡ s.access.profile.page_size = ap (λ (p : Profile). p.page_size) (c.profile-profile.ensures.value ∙ ap (λ (x : Session). x.access.profile) same) in
    let some : 1 ≤ s.pages = omega (arith, c.loop-done-test.true, c.pages-pages.ensures, ap (λ (x : Session). x.pages) same) in
    let whole = one_page s.pages s.access.profile.page_size some in
    let long : 16 ≤ length file = omega (arith, c.requires.there told, whole, least, sized) in
    let at_first : main_of (d.reads first.disk) ≡ file = ap main_of (c.codec_of_main.ensures.only_read told).stays in
    let at_now : main_of (d.reads c.loop-done.disk) ≡ file = ap main_of (c.loop-done.invariant.read told).stays ∙ at_first in
    c.in_ok-codec.ensures.codec told long
    ∙ ap (λ (l : List ℕ). codec_of s.access l) (sym at_now)
    ∙ ap (λ (x : Session). codec_of x.access (main_of (d.reads c.loop-done.disk))) (sym same)
