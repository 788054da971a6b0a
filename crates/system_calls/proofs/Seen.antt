-- What the calls of a system are as steps of three files.
use Rattle.std.proofs.Common.{◌≡◌, inl, inr, ⊎_elim, ℕ, ◌<◌, List, [], Option, Some, None, refl, sym, ◌∙◌, ap, subst, arith, rules, Result, Ok, Err, OnOk, OnErr, IfOk, IsErr, is_ok, Bool, true, false}
use Rattle.edge_model.specs.Files.{File, Files, file_at, put_at, with_file_bytes, bytes_of, number_of, contents, created, removed}
use Rattle.edge_model.specs.Images.{MayStep, Changes, Renames, SameNames, AreApart, IsNumbered, Each, Follows, SameImages}
use Rattle.edge_model.specs.declared.role.Role.{Role}
use Rattle.edge_model.specs.declared.role.Role.TheVariants.{Main, Journal, Fresh}
use Rattle.system_calls.specs.System.{Names, name_at, System, file_of, seen, opened, opening, closing, naming, making, OneStep, Becomes, FileSteps, IsNamed, IsHome, IsAt}

pub some_is : {k n : ℕ} → Some k ≡ Some n → k ≡ n
some_is is = cc

-- ---- the open file is the one with the name

pub seen_at : (role : Role) (s : System) → file_at (seen s) role ≡ file_of s.held (name_at s.names role)
seen_at Main s = refl
seen_at Journal s = refl
seen_at Fresh s = refl

pub opened_seen : (role : Role) (n : ℕ) (s : System) → IsAt role n s → opened s role ≡ file_at (seen s) role
opened_seen role n s at = ap (file_of s.held) (at.0 ∙ sym at.1) ∙ sym (seen_at role s)

-- ---- a write or a cut, as it is read

stays : (held after : ℕ → List ℕ) (number : Option ℕ) → ((m : ℕ) → number ≡ Some m → after m ≡ held m) → file_of after number ≡ file_of held number
stays held after None same = refl
stays held after (Some m) same = ap (λ (l : List ℕ). Some (record { number = m; bytes = l })) (same m refl)

becomes : (change : List ℕ → List ℕ) (held after : ℕ → List ℕ) (number : Option ℕ) → ((m : ℕ) → number ≡ Some m → after m ≡ change (held m))
    → file_of after number ≡ with_file_bytes change (file_of held number)
becomes change held after None same = refl
becomes change held after (Some m) same = ap (λ (l : List ℕ). Some (record { number = m; bytes = l })) (same m refl)

number_is : (held : ℕ → List ℕ) (number : Option ℕ) → number_of (file_of held number) ≡ number
number_is held None = refl
number_is held (Some n) = refl

files_same : (a b : Files) → a.main ≡ b.main → a.journal ≡ b.journal → a.fresh ≡ b.fresh → a ≡ b
files_same a b main journal fresh =
    ap (λ (f : Option File). record { main = f; journal = a.journal; fresh = a.fresh }) main
    ∙ ap (λ (f : Option File). record { main = b.main; journal = f; fresh = a.fresh }) journal
    ∙ ap (λ (f : Option File). record { main = b.main; journal = b.journal; fresh = f }) fresh

-- these names are not of one file
differ : (held : ℕ → List ℕ) (mine other place : Option ℕ) → place ≡ mine → AreApart (file_of held mine) (file_of held other) → (m : ℕ) → other ≡ Some m
    → place ≡ Some m → ⊥
differ held mine other place is apart m at here =
    apart m (number_is held mine ∙ sym is ∙ here) (number_is held other ∙ at)

apart_back : (file other : Option File) → AreApart file other → AreApart other file
apart_back file other apart n is too = apart n too is

pub step_seen : (change : List ℕ → List ℕ) (role : Role) (n next : ℕ) (s new : System) → IsAt role n s → IsNumbered next (seen s)
    → OneStep (Becomes change) role s new → seen new ≡ put_at (seen s) role (with_file_bytes change (file_at (seen s) role))
step_seen change Main n next s new at numbered step =
    files_same (seen new) _
    (ap (λ (k : Names). file_of new.held k.main) step.names ∙ becomes change s.held new.held s.names.main (λ m is. step.it m (at.0 ∙ sym at.1 ∙ is)))
    (ap (λ (k : Names). file_of new.held k.journal) step.names
    ∙ stays s.held new.held s.names.journal (λ m is. step.others m (differ s.held s.names.main s.names.journal _ (at.0 ∙ sym at.1) numbered.main_journal m is)))
    (ap (λ (k : Names). file_of new.held k.fresh) step.names
    ∙ stays s.held new.held s.names.fresh (λ m is. step.others m (differ s.held s.names.main s.names.fresh _ (at.0 ∙ sym at.1) numbered.main_fresh m is)))
step_seen change Journal n next s new at numbered step =
    files_same (seen new) _
    (ap (λ (k : Names). file_of new.held k.main) step.names
    ∙ stays s.held new.held s.names.main (λ m is. step.others m (differ s.held s.names.journal s.names.main _ (at.0 ∙ sym at.1) (apart_back _ _ numbered.main_journal) m is)))
    (ap (λ (k : Names). file_of new.held k.journal) step.names ∙ becomes change s.held new.held s.names.journal (λ m is. step.it m (at.0 ∙ sym at.1 ∙ is)))
    (ap (λ (k : Names). file_of new.held k.fresh) step.names
    ∙ stays s.held new.held s.names.fresh (λ m is. step.others m (differ s.held s.names.journal s.names.fresh _ (at.0 ∙ sym at.1) numbered.journal_fresh m is)))
step_seen change Fresh n next s new at numbered step =
    files_same (seen new) _
    (ap (λ (k : Names). file_of new.held k.main) step.names
    ∙ stays s.held new.held s.names.main (λ m is. step.others m (differ s.held s.names.fresh s.names.main _ (at.0 ∙ sym at.1) (apart_back _ _ numbered.main_fresh) m is)))
    (ap (λ (k : Names). file_of new.held k.journal) step.names
    ∙ stays s.held new.held s.names.journal (λ m is. step.others m (differ s.held s.names.fresh s.names.journal _ (at.0 ∙ sym at.1) (apart_back _ _ numbered.journal_fresh) m is)))
    (ap (λ (k : Names). file_of new.held k.fresh) step.names ∙ becomes change s.held new.held s.names.fresh (λ m is. step.it m (at.0 ∙ sym at.1 ∙ is)))

-- ---- the same, where it may be done in part

may : (step : List ℕ → List ℕ → Type 0) (held after : ℕ → List ℕ) (number : Option ℕ) → ((m : ℕ) → number ≡ Some m → step (held m) (after m))
    → MayStep step (file_of held number) (file_of held number) (file_of after number)
may step held after None took = inl refl
may step held after (Some m) took =
    inr (record { number = m; before = held m; after = after m; is_now = refl; was = refl; is = refl; took = took m refl })

pub step_changes : (step : List ℕ → List ℕ → Type 0) (role : Role) (n next : ℕ) (s new : System) → IsAt role n s → IsNumbered next (seen s)
    → OneStep step role s new → Changes role step (seen s) (seen s) (seen new)
step_changes step Main n next s new at numbered took = (
  subst (λ (k : Names). MayStep step (seen s).main (seen s).main (file_of new.held k.main)) (sym took.names)
      (may step s.held new.held s.names.main (λ m is. took.it m (at.0 ∙ sym at.1 ∙ is))),
  ap (λ (k : Names). file_of new.held k.journal) took.names
      ∙ stays s.held new.held s.names.journal (λ m is. took.others m (differ s.held s.names.main s.names.journal _ (at.0 ∙ sym at.1) numbered.main_journal m is)),
  inl (ap (λ (k : Names). file_of new.held k.fresh) took.names
      ∙ stays s.held new.held s.names.fresh (λ m is. took.others m (differ s.held s.names.main s.names.fresh _ (at.0 ∙ sym at.1) numbered.main_fresh m is))),
)
step_changes step Journal n next s new at numbered took = (
  ap (λ (k : Names). file_of new.held k.main) took.names
      ∙ stays s.held new.held s.names.main (λ m is. took.others m (differ s.held s.names.journal s.names.main _ (at.0 ∙ sym at.1) (apart_back _ _ numbered.main_journal) m is)),
  subst (λ (k : Names). MayStep step (seen s).journal (seen s).journal (file_of new.held k.journal)) (sym took.names)
      (may step s.held new.held s.names.journal (λ m is. took.it m (at.0 ∙ sym at.1 ∙ is))),
  ap (λ (k : Names). file_of new.held k.fresh) took.names
      ∙ stays s.held new.held s.names.fresh (λ m is. took.others m (differ s.held s.names.journal s.names.fresh _ (at.0 ∙ sym at.1) numbered.journal_fresh m is)),
)
step_changes step Fresh n next s new at numbered took = (
  ap (λ (k : Names). file_of new.held k.main) took.names
      ∙ stays s.held new.held s.names.main (λ m is. took.others m (differ s.held s.names.fresh s.names.main _ (at.0 ∙ sym at.1) (apart_back _ _ numbered.main_fresh) m is)),
  ap (λ (k : Names). file_of new.held k.journal) took.names
      ∙ stays s.held new.held s.names.journal (λ m is. took.others m (differ s.held s.names.fresh s.names.journal _ (at.0 ∙ sym at.1) (apart_back _ _ numbered.journal_fresh) m is)),
  subst (λ (k : Names). MayStep step (seen s).fresh (seen s).fresh (file_of new.held k.fresh)) (sym took.names)
      (may step s.held new.held s.names.fresh (λ m is. took.it m (at.0 ∙ sym at.1 ∙ is))),
)

-- ---- the same in an image

-- a file that is apart from the open one stays
step_not : (step : List ℕ → List ℕ → Type 0) (now old new : Option File) → AreApart now old → MayStep step now old new → new ≡ old
step_not step now old new apart (inl same) = same
step_not step now old new apart (inr took) = absurd (apart took.number took.is_now (ap number_of took.was))

pub image_changes : (step : List ℕ → List ℕ → Type 0) (role : Role) (n : ℕ) (s : System) (d c : Files) → IsAt role n s → IsHome (seen s) d
    → FileSteps step (opened s role) d c → Changes role step (seen s) d c
image_changes step Main n s d c at home took =
    let same = opened_seen Main n s at in (
      subst (λ (f : Option File). MayStep step f d.main c.main) same took.0,
      step_not step _ d.journal c.journal home.main_journal (subst (λ (f : Option File). MayStep step f d.journal c.journal) same took.1),
      subst (λ (f : Option File). MayStep step f d.fresh c.fresh) same took.2,
    )
image_changes step Journal n s d c at home took =
    let same = opened_seen Journal n s at in (
      step_not step _ d.main c.main home.journal_main (subst (λ (f : Option File). MayStep step f d.main c.main) same took.0),
      subst (λ (f : Option File). MayStep step f d.journal c.journal) same took.1,
      step_not step _ d.fresh c.fresh home.journal_fresh (subst (λ (f : Option File). MayStep step f d.fresh c.fresh) same took.2),
    )
image_changes step Fresh n s d c at home took =
    let same = opened_seen Fresh n s at in (
      step_not step _ d.main c.main home.fresh_main (subst (λ (f : Option File). MayStep step f d.main c.main) same took.0),
      step_not step _ d.journal c.journal home.fresh_journal (subst (λ (f : Option File). MayStep step f d.journal c.journal) same took.1),
      subst (λ (f : Option File). MayStep step f d.fresh c.fresh) same took.2,
    )

-- ---- names

pub removed_seen : (role : Role) (s : System) → seen (naming role None s) ≡ removed role (seen s)
removed_seen Main s = refl
removed_seen Journal s = refl
removed_seen Fresh s = refl

created_file : (held : ℕ → List ℕ) (next : ℕ) → held next ≡ [] → file_of held (Some next) ≡ Some (record { number = next; bytes = [] })
created_file held next empty = ap (λ (l : List ℕ). Some (record { number = next; bytes = l })) empty

pub created_seen : (role : Role) (next : ℕ) (s : System) → s.held next ≡ [] → seen (naming role (Some next) s) ≡ created role next (seen s)
created_seen Main next s empty = files_same (seen (naming Main (Some next) s)) _ (created_file s.held next empty) refl refl
created_seen Journal next s empty = files_same (seen (naming Journal (Some next) s)) _ refl (created_file s.held next empty) refl
created_seen Fresh next s empty = files_same (seen (naming Fresh (Some next) s)) _ refl refl (created_file s.held next empty)

pub made_seen : (role : Role) (next : ℕ) (s : System) → s.held next ≡ [] → seen (making role next s) ≡ created role next (seen s)
made_seen Main next s empty = created_seen Main next s empty
made_seen Journal next s empty = created_seen Journal next s empty
made_seen Fresh next s empty = created_seen Fresh next s empty

-- ---- what is open is what its name leads to

pub named_opening : (role : Role) (s : System) → IsNamed s → IsNamed (opening role s)
named_opening Main s named = record { main = λ n is. is; journal = named.journal; fresh = named.fresh }
named_opening Journal s named = record { main = named.main; journal = λ n is. is; fresh = named.fresh }
named_opening Fresh s named = record { main = named.main; journal = named.journal; fresh = λ n is. is }

pub named_closing : (role : Role) (s : System) → IsNamed s → IsNamed (closing role s)
named_closing Main s named = record { main = λ n is. cc; journal = named.journal; fresh = named.fresh }
named_closing Journal s named = record { main = named.main; journal = λ n is. cc; fresh = named.fresh }
named_closing Fresh s named = record { main = named.main; journal = named.journal; fresh = λ n is. cc }

pub named_closed : (role : Role) (s : System) → IsNamed s → IsNamed (closing role (naming role None s))
named_closed Main s named = record { main = λ n is. cc; journal = named.journal; fresh = named.fresh }
named_closed Journal s named = record { main = named.main; journal = λ n is. cc; fresh = named.fresh }
named_closed Fresh s named = record { main = named.main; journal = named.journal; fresh = λ n is. cc }

pub named_made : (role : Role) (next : ℕ) (s : System) → IsNamed s → IsNamed (making role next s)
named_made Main next s named = record { main = λ n is. is; journal = named.journal; fresh = named.fresh }
named_made Journal next s named = record { main = named.main; journal = λ n is. is; fresh = named.fresh }
named_made Fresh next s named = record { main = named.main; journal = named.journal; fresh = λ n is. is }

pub named_at : (role : Role) (n : ℕ) (s : System) → IsNamed s → name_at s.places role ≡ Some n → IsAt role n s
named_at Main n s named is = (is, named.main n is)
named_at Journal n s named is = (is, named.journal n is)
named_at Fresh n s named is = (is, named.fresh n is)

pub opened_at : (role : Role) (n : ℕ) (s : System) → name_at s.names role ≡ Some n → IsAt role n (opening role s)
opened_at Main n s is = (is, is)
opened_at Journal n s is = (is, is)
opened_at Fresh n s is = (is, is)

-- ---- files keep their names in the images

-- a step keeps the numbers
step_number : {step : List ℕ → List ℕ → Type 0} {now old new : Option File} → MayStep step now old new → number_of new ≡ number_of old
step_number (inl same) = ap number_of same
step_number (inr took) = ap number_of took.is ∙ sym (ap number_of took.was)

changes_names : (step : List ℕ → List ℕ → Type 0) (role : Role) (now d c : Files) → Changes role step now d c → SameNames d c
changes_names step Main now d c changes = record { main = step_number changes.0; journal = ap number_of changes.1; fresh = step_number changes.2 }
changes_names step Journal now d c changes = record { main = ap number_of changes.0; journal = step_number changes.1; fresh = ap number_of changes.2 }
changes_names step Fresh now d c changes = record { main = ap number_of changes.0; journal = ap number_of changes.1; fresh = step_number changes.2 }

pub home_removed : (role : Role) (now d : Files) → IsHome now d → IsHome (removed role now) d
home_removed Main now d home = record { main_journal = λ n is too. cc; journal_main = home.journal_main; journal_fresh = home.journal_fresh; fresh_main = home.fresh_main; fresh_journal = home.fresh_journal }
home_removed Journal now d home = record { main_journal = home.main_journal; journal_main = λ n is too. cc; journal_fresh = λ n is too. cc; fresh_main = home.fresh_main; fresh_journal = home.fresh_journal }
home_removed Fresh now d home = record { main_journal = home.main_journal; journal_main = home.journal_main; journal_fresh = home.journal_fresh; fresh_main = λ n is too. cc; fresh_journal = λ n is too. cc }

pub home_removed_too : (role : Role) (now d : Files) → IsHome now d → IsHome (removed role now) (removed role d)
home_removed_too Main now d home = record { main_journal = λ n is too. cc; journal_main = λ n is too. cc; journal_fresh = home.journal_fresh; fresh_main = λ n is too. cc; fresh_journal = home.fresh_journal }
home_removed_too Journal now d home = record { main_journal = λ n is too. cc; journal_main = λ n is too. cc; journal_fresh = λ n is too. cc; fresh_main = home.fresh_main; fresh_journal = λ n is too. cc }
home_removed_too Fresh now d home = record { main_journal = home.main_journal; journal_main = home.journal_main; journal_fresh = λ n is too. cc; fresh_main = λ n is too. cc; fresh_journal = λ n is too. cc }

pub home_remove : (role : Role) (now : Files) (old after : Files → Type 0) → Each old (IsHome now) → Follows (Renames (removed role) now) old after
    → Each after (IsHome (removed role now))
home_remove role now old after home follows c left =
    let from = follows c left in
    ⊎_elim (λ same. subst (IsHome (removed role now)) (sym same) (home_removed role now from.0 (home from.0 from.1)))
    (λ done. subst (IsHome (removed role now)) (sym done.1) (home_removed_too role now from.0 (home from.0 from.1))) from.2

-- a new file is apart from all others
new_apart : (next : ℕ) (other : Option File) → ((n : ℕ) → number_of other ≡ Some n → n < next) → AreApart (Some (record { number = next; bytes = [] })) other
new_apart next other below n is too = let same = some_is is in let lt = below n too in omega (arith, same, lt)

apart_new : (next : ℕ) (other : Option File) → ((n : ℕ) → number_of other ≡ Some n → n < next) → AreApart other (Some (record { number = next; bytes = [] }))
apart_new next other below n is too = new_apart next other below n too is

home_created : (role : Role) (next : ℕ) (now d : Files) → IsNumbered next d → IsHome now d → IsHome (created role next now) d
home_created Main next now d its home = record { main_journal = new_apart next d.journal its.journal; journal_main = home.journal_main; journal_fresh = home.journal_fresh; fresh_main = home.fresh_main; fresh_journal = home.fresh_journal }
home_created Journal next now d its home = record { main_journal = home.main_journal; journal_main = new_apart next d.main its.main; journal_fresh = new_apart next d.fresh its.fresh; fresh_main = home.fresh_main; fresh_journal = home.fresh_journal }
home_created Fresh next now d its home = record { main_journal = home.main_journal; journal_main = home.journal_main; journal_fresh = home.journal_fresh; fresh_main = new_apart next d.main its.main; fresh_journal = new_apart next d.journal its.journal }

home_created_too : (role : Role) (next : ℕ) (now d : Files) → IsNumbered next now → IsNumbered next d → IsHome now d
    → IsHome (created role next now) (created role next d)
home_created_too Main next now d mine its home = record { main_journal = new_apart next d.journal its.journal; journal_main = apart_new next now.journal mine.journal; journal_fresh = home.journal_fresh; fresh_main = apart_new next now.fresh mine.fresh; fresh_journal = home.fresh_journal }
home_created_too Journal next now d mine its home = record { main_journal = apart_new next now.main mine.main; journal_main = new_apart next d.main its.main; journal_fresh = new_apart next d.fresh its.fresh; fresh_main = home.fresh_main; fresh_journal = apart_new next now.fresh mine.fresh }
home_created_too Fresh next now d mine its home = record { main_journal = home.main_journal; journal_main = home.journal_main; journal_fresh = apart_new next now.journal mine.journal; fresh_main = new_apart next d.main its.main; fresh_journal = new_apart next d.journal its.journal }

pub home_create : (role : Role) (next : ℕ) (now : Files) (old after : Files → Type 0) → IsNumbered next now → Each old (IsNumbered next) → Each old (IsHome now)
    → Follows (Renames (created role next) now) old after → Each after (IsHome (created role next now))
home_create role next now old after mine its home follows c left =
    let from = follows c left in
    ⊎_elim (λ same. subst (IsHome (created role next now)) (sym same) (home_created role next now from.0 (its from.0 from.1) (home from.0 from.1)))
    (λ done. subst (IsHome (created role next now)) (sym done.1) (home_created_too role next now from.0 mine (its from.0 from.1) (home from.0 from.1))) from.2

-- ---- the file that was opened

pub same_answer : {T U E F : Type 0} (P : Type 0) (r : Result T E) (was : Result U F) → is_ok r ≡ is_ok was → OnOk was P → OnOk r P
same_answer P (Ok x) (Ok y) same p = p
same_answer P (Ok x) (Err e) same p = cc
same_answer P (Err e) was same p = search rules

one_is : (number : Option ℕ) → (number ≡ None → ⊥) → (n : ℕ) × (number ≡ Some n)
one_is None not = absurd (not refl)
one_is (Some n) not = (n, refl)

no_error : {T : Type 0} (E : Type 0) (x : T) → IsErr {T = T} {E = E} (Ok x) → ⊥
no_error E x is = cc

pub opened_role : {T E : Type 0} (told : Type 0) (r : Result T E) (role : Role) (s new : System) → OnOk r (told → new ≡ opening role s)
    → (told → name_at s.names role ≡ None → IsErr r) → OnOk r (told → (n : ℕ) × IsAt role n new)
opened_role {E = E} told (Ok x) role s new done absent = λ tells.
    let one = one_is (name_at s.names role) (λ none. no_error E x (absent tells none)) in
    (one.0, subst (IsAt role one.0) (sym (done tells)) (opened_at role one.0 s one.1))
opened_role told (Err e) role s new done absent = search rules

-- ---- a whole call

-- a write or a cut of the file of a role
pub whole_step : {T E : Type 0} (told : Type 0) (r : Result T E) (change : List ℕ → List ℕ) (role : Role) (before : Files) (s new : System) (next : ℕ)
    → (told → (n : ℕ) × IsAt role n s) → (told → seen s ≡ before) → (told → IsNumbered next (seen s)) → OnOk r (told → OneStep (Becomes change) role s new)
    → OnOk r (told → seen new ≡ put_at before role (with_file_bytes change (file_at before role)))
whole_step told (Ok x) change role before s new next at same numbered took = λ tells.
    let one = at tells in
    subst (λ (f : Files). seen new ≡ put_at f role (with_file_bytes change (file_at f role))) (same tells)
    (step_seen change role one.0 next s new one.1 (numbered tells) (took tells))
whole_step told (Err e) change role before s new next at same numbered took = search rules

pub part_step : (step : List ℕ → List ℕ → Type 0) (role : Role) (before : Files) (s new : System) (next : ℕ)
    → ((n : ℕ) × IsAt role n s) → seen s ≡ before → IsNumbered next (seen s) → OneStep step role s new
    → Changes role step before before (seen new)
part_step step role before s new next one same numbered took =
    subst (λ (f : Files). Changes role step f f (seen new)) same (step_changes step role one.0 next s new one.1 numbered took)

pub image_step : (step : List ℕ → List ℕ → Type 0) (role : Role) (before : Files) (s : System) (start old after : Files → Type 0)
    → ((n : ℕ) × IsAt role n s) → seen s ≡ before → Each old (IsHome (seen s)) → SameImages start old
    → Follows (FileSteps step (opened s role)) old after → Follows (Changes role step before) start after
image_step step role before s start old after one same home less follows c left =
    let from = follows c left in
    (from.0, less.no_more from.0 from.1, subst (λ (f : Files). Changes role step f from.0 c) same (image_changes step role one.0 s from.0 c one.1 (home from.0 from.1) from.2))

-- ---- the invariant, by role

pub home_make : (told : Type 0) (role : Role) (next : ℕ) (s new : System) (old after : Files → Type 0) → s.held next ≡ [] → new ≡ making role next s
    → old (seen s) → Each old (IsNumbered next) → Each old (IsHome (seen s)) → Follows (Renames (created role next) (seen s)) old after
    → Each after (IsHome (seen new))
home_make told role next s new old after empty is here its home follows c left =
    subst (λ (f : Files). IsHome f c) (sym (ap seen is ∙ made_seen role next s empty)) (home_create role next (seen s) old after (its (seen s) here) its home follows c left)

pub home_drop : (role : Role) (s gone closed : System) (old after shut : Files → Type 0) → gone ≡ naming role None s → closed ≡ closing role gone
    → Each old (IsHome (seen s)) → Follows (Renames (removed role) (seen s)) old after → SameImages after shut → Each shut (IsHome (seen closed))
home_drop role s gone closed old after shut is closes home follows same c left =
    subst (λ (f : Files). IsHome f c) (sym (ap seen closes ∙ ap seen is ∙ removed_seen role s))
    (home_remove role (seen s) old after home follows c (same.no_more c left))

-- what was answered Ok was done
pub done_ok : {T U E F : Type 0} (P : Type 0) (r : Result T E) (x : T) (was : Result U F) → r ≡ Ok x → is_ok r ≡ is_ok was → OnOk was P → P
done_ok P (Ok y) x (Ok z) is same p = p
done_ok P (Ok y) x (Err e) is same p = absurd (let no : ⊥ = cc same in no)
done_ok P (Err e) x was is same p = absurd (let no : ⊥ = cc is in no)

-- a change that did not fail was done
pub done_where : {T U E F : Type 0} (P : Type 0) (r : Result T E) (was : Result U F) (stuck : Bool) → is_ok r ≡ is_ok was → OnErr r (stuck ≡ true)
    → stuck ≡ false → OnOk was P → P
done_where P (Ok x) (Ok y) stuck same err free p = p
done_where P (Ok x) (Err e) stuck same err free p = cc
done_where P (Err e) was stuck same err free p = absurd (let no : ⊥ = cc (err, free) in no)

-- ---- a read

pub same_value : {T E F : Type 0} (P : T → Type 0) (r : Result T E) (was : Result T F) → is_ok r ≡ is_ok was → IfOk r (λ v. IfOk was (λ w. v ≡ w))
    → IfOk was P → IfOk r P
same_value P (Ok x) (Ok y) same value p = subst P (sym value) p
same_value P (Ok x) (Err e) same value p = cc
same_value P (Err e) was same value p = search rules

bytes_read : (change : List ℕ → List ℕ) (role : Role) (n : ℕ) (s : System) → IsAt role n s
    → bytes_of (with_file_bytes change (file_at (seen s) role)) ≡ Some (change (contents (opened s role)))
bytes_read change role n s at =
    ap (λ (f : Option File). bytes_of (with_file_bytes change f)) (seen_at role s ∙ ap (file_of s.held) at.1)
    ∙ ap (λ (f : Option File). Some (change (contents f))) (sym (ap (file_of s.held) at.0))

pub whole_read : {T E : Type 0} (told : Type 0) (change : List ℕ → List ℕ) (role : Role) (before : Files) (s : System) (got : T → List ℕ) (r : Result T E)
    → (told → (n : ℕ) × IsAt role n s) → (told → seen s ≡ before) → IfOk r (λ count. told → got count ≡ change (contents (opened s role)))
    → IfOk r (λ count. told → bytes_of (with_file_bytes change (file_at before role)) ≡ Some (got count))
whole_read told change role before s got (Ok count) at same read = λ tells.
    let one = at tells in
    subst (λ (f : Files). bytes_of (with_file_bytes change (file_at f role)) ≡ Some (got count)) (same tells)
    (bytes_read change role one.0 s one.1 ∙ ap (λ (l : List ℕ). Some l) (sym (read tells)))
whole_read told change role before s got (Err e) at same read = search rules
