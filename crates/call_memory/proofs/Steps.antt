-- One change more, as the clauses of the calls have it.
use Rattle.std.proofs.Common.{◌≡◌, ◌<◌, inl, ℕ, true, false, Option, List, [], ◌∷◌, ◌++◌, length, Some, Vec, Result, Ok, Err, OnOk, OnErr, IsTrue, is_ok, refl, sym, ◌∙◌, ap, subst, rules}
use Rattle.std.proofs.lemmas.List.{reverse-append}
use Rattle.std.specs.declared.alloc.Global.{Global}
use Rattle.edge_model.specs.Files.{File, Files, written, Torn}
use Rattle.edge_model.specs.Images.{From, Follows, Renames, Each}
use Rattle.edge_model.specs.Bytes.{torn_written, torn_not}
use Rattle.edge_model.specs.declared.role.Role.{Role}
use Rattle.system_calls.specs.System.{Names, System, file_of, name_at, put_name, opened, making, OneStep, FileSynced}
use Rattle.call_memory.specs.Folder.{State, held_in, shown_in, system_in, names_of, state_of}
use Rattle.call_memory.specs.Log.{changing, after, LeftBy, state_after, ImagesAfter, newest_first}
use Rattle.call_memory.specs.LogLaws.{held_changed, held_other, held_made}
use Rattle.call_memory.specs.declared.folder.Folder.{Folder}
use Rattle.call_memory.specs.declared.folder.Slots.{Slots}
use Rattle.call_memory.specs.declared.done.Done.{Done}
use Rattle.call_memory.specs.declared.done.Done.TheVariants.{Write, Sync, Create}

-- ---- what was done, of an answer that is handed on

no_way : true ≡ false → ⊥
no_way is = cc

pub same_ok : {T E U F : Type 0} (P : Type 0) (r : Result T E) (s : Result U F) → is_ok s ≡ is_ok r → OnOk r P → OnOk s P
same_ok P (Ok x) (Ok y) same p = p
same_ok P (Ok x) (Err f) same p = search rules
same_ok P (Err e) (Ok y) same p = absurd (no_way same)
same_ok P (Err e) (Err f) same p = search rules

pub from_ok : {T E P : Type 0} (r : Result T E) → true ≡ is_ok r → OnOk r P → P
from_ok (Ok x) same p = p
from_ok (Err e) same p = absurd (no_way same)

pub ok_map : {T E : Type 0} {P Q : Type 0} (r : Result T E) → (P → Q) → OnOk r P → OnOk r Q
ok_map (Ok x) go p = go p
ok_map (Err e) go p = p

-- ---- the log

abbrev pub StateOf : Folder → List Done → State
StateOf start log = state_after (state_of start) (newest_first log)

abbrev pub ImagesOf : Folder → List Done → Files → Type 0
ImagesOf start log = ImagesAfter (state_of start) (newest_first log)

one_more : (old new : List Done) (last : Done) → new ≡ old ++ last ∷ [] → newest_first new ≡ last ∷ newest_first old
one_more old new last is = ap newest_first is ∙ reverse-append old (last ∷ [])

state_more : (start later : Folder) (old new : List Done) (last : Done) → later ≡ start → new ≡ old ++ last ∷ []
    → StateOf later new ≡ after last (StateOf start old)
state_more start later old new last same is =
    ap (λ (f : Folder). StateOf f new) same ∙ ap (λ (l : List Done). state_after (state_of start) l) (one_more old new last is)

state_same : (start later : Folder) (old new : List Done) → later ≡ start → new ≡ old → StateOf later new ≡ StateOf start old
state_same start later old new same is = ap (λ (f : Folder). StateOf f new) same ∙ ap (λ (l : List Done). StateOf start l) is

left_more : (start later : Folder) (old new : List Done) (last : Done) → later ≡ start → new ≡ old ++ last ∷ [] → (c : Files) → ImagesOf later new c
    → LeftBy last (StateOf start old) (ImagesOf start old) c
left_more start later old new last same is c left =
    subst (λ (l : List Done). ImagesAfter (state_of start) l c) (one_more old new last is) (subst (λ (f : Folder). ImagesOf f new c) same left)

left_same : (start later : Folder) (old new : List Done) → later ≡ start → new ≡ old → (c : Files) → ImagesOf later new c → ImagesOf start old c
left_same start later old new same is c left =
    subst (λ (l : List Done). ImagesOf start l c) is (subst (λ (f : Folder). ImagesOf f new c) same left)

-- ---- changes of names

-- a change of names that is not made
pub no_rename : (change : Files → Files) (now : Files) (images : Files → Type 0) → Follows (Renames change now) images images
no_rename change now images c left = (c, left, inl refl)

pub rename_follows : {T E : Type 0} (r : Result T E) (start later : Folder) (old new : List Done) (last : Done) (change : Files → Files) → later ≡ start
    → OnOk r (new ≡ old ++ last ∷ []) → OnErr r (new ≡ old)
    → ((c : Files) → LeftBy last (StateOf start old) (ImagesOf start old) c → From (Renames change (shown_in (StateOf start old))) (ImagesOf start old) c)
    → Follows (Renames change (shown_in (StateOf start old))) (ImagesOf start old) (ImagesOf later new)
rename_follows (Ok x) start later old new last change same ok err from c left = from c (left_more start later old new last same ok c left)
rename_follows (Err e) start later old new last change same ok err from c left = (c, left_same start later old new same err c left, inl refl)

pub renamed_done : {T E U F : Type 0} (r : Result T E) (s : Result U F) → is_ok s ≡ is_ok r → (start later : Folder) (old new : List Done) (last : Done)
    (places behind : Slots) (is : System) → later ≡ start → behind ≡ places → OnOk r (new ≡ old ++ last ∷ [])
    → system_in (after last (StateOf start old)) (names_of places) ≡ is
    → OnOk s (IsTrue true → system_in (StateOf later new) (names_of behind) ≡ is)
renamed_done r s same start later old new last places behind is folder at_place ok there =
    same_ok _ r s same (ok_map r (λ more told.
    ap (λ (p : Slots). system_in (StateOf later new) (names_of p)) at_place
    ∙ ap (λ (t : State). system_in t (names_of places)) (state_more start later old new last folder more)
    ∙ there) ok)

-- a new file is open
made_system : (name : Role) (s : State) (places behind : Names) → behind ≡ put_name places name (Some (length s.lists))
    → system_in (after (Create name) s) behind ≡ making name (length s.lists) (system_in s places)
made_system name s places behind at_place =
    ap (λ (p : Names). system_in (after (Create name) s) p) at_place
    ∙ ap (λ (h : ℕ → List ℕ). record { names = put_name s.names name (Some (length s.lists)); places = put_name places name (Some (length s.lists)); held = h }) (held_made name s)

pub created_done : {T E U F : Type 0} (r : Result T E) (s : Result U F) → is_ok s ≡ is_ok r → (start later : Folder) (old new : List Done) (name : Role)
    (places behind : Slots) (lists : List (List ℕ)) → later ≡ start → (StateOf start old).lists ≡ lists
    → OnOk r (names_of behind ≡ put_name (names_of places) name (Some (length lists))) → OnOk r (new ≡ old ++ Create name ∷ [])
    → OnOk s (IsTrue true → system_in (StateOf later new) (names_of behind) ≡ making name (length (StateOf start old).lists) (system_in (StateOf start old) (names_of places)))
created_done (Ok x) (Ok y) same start later old new name places behind lists folder files at_place ok =
    λ told.
    ap (λ (t : State). system_in t (names_of behind)) (state_more start later old new (Create name) folder ok)
    ∙ made_system name (StateOf start old) (names_of places) (names_of behind)
    (at_place ∙ ap (λ (l : List (List ℕ)). put_name (names_of places) name (Some (length l))) (sym files))
created_done (Ok x) (Err f) same start later old new name places behind lists folder files at_place ok = search rules
created_done (Err e) (Ok y) same start later old new name places behind lists folder files at_place ok = absurd (no_way same)
created_done (Err e) (Err f) same start later old new name places behind lists folder files at_place ok = search rules

-- ---- changes of bytes

some_is : {k n : ℕ} → Some k ≡ Some n → k ≡ n
some_is is = cc

-- the file that is open in the place is changed, and no other
one_step : (step : List ℕ → List ℕ → Type 0) (change : List ℕ → List ℕ) → ((b : List ℕ) → step b (change b)) → (place : Role) (s : State) (places : Names) (n : ℕ)
    → name_at places place ≡ Some n → n < length s.lists → OneStep step place (system_in s places) (system_in (changing change n s) places)
one_step step change takes place s places n there made =
    record {
      names = refl;
      places = refl;
      others = λ m not. held_other change n s m (λ is. not (there ∙ ap (λ (k : ℕ). Some k) is));
      it = λ m is.
          subst (λ (k : ℕ). step (held_in s k) (held_in (changing change n s) k)) (some_is (sym there ∙ is))
          (subst (step (held_in s n)) (sym (held_changed change n s made)) (takes (held_in s n)));
    }

no_step : (step : List ℕ → List ℕ → Type 0) → ((b : List ℕ) → step b b) → (place : Role) (system : System) → OneStep step place system system
no_step step stays place system = record { names = refl; places = refl; others = λ m not. refl; it = λ m is. stays (system.held m) }

pub write_others : {T E : Type 0} (r : Result T E) (start later : Folder) (old new : List Done) (places behind : Slots) (lists : List (List ℕ)) (place : Role)
    (n at : ℕ) (bytes : List ℕ) → later ≡ start → behind ≡ places → (StateOf start old).lists ≡ lists → OnOk r (name_at (names_of places) place ≡ Some n)
    → OnOk r (n < length lists) → OnOk r ((b : Vec ℕ Global) × (b.items ≡ bytes) × (new ≡ old ++ Write n at b ∷ [])) → OnErr r (new ≡ old)
    → OneStep (Torn at (length bytes)) place (system_in (StateOf start old) (names_of places)) (system_in (StateOf later new) (names_of behind))
write_others (Ok x) start later old new places behind lists place n at bytes folder at_place files there made ok err =
    let s = StateOf start old in
    let is = ap (λ (p : Slots). system_in (StateOf later new) (names_of p)) at_place
    ∙ ap (λ (t : State). system_in t (names_of places)) (state_more start later old new (Write n at ok.0) folder ok.2) in
    subst (λ (t : System). OneStep (Torn at (length bytes)) place (system_in s (names_of places)) t) (sym is)
    (one_step (Torn at (length bytes)) (written at ok.0.items)
    (λ b. subst (λ (l : List ℕ). Torn at (length bytes) b (written at l b)) (sym ok.1) (torn_written at bytes b)) place s (names_of places) n there
    (subst (λ (l : List (List ℕ)). n < length l) (sym files) made))
write_others (Err e) start later old new places behind lists place n at bytes folder at_place files there made ok err =
    let s = StateOf start old in
    let is = ap (λ (p : Slots). system_in (StateOf later new) (names_of p)) at_place
    ∙ ap (λ (t : State). system_in t (names_of places)) (state_same start later old new folder err) in
    subst (λ (t : System). OneStep (Torn at (length bytes)) place (system_in s (names_of places)) t) (sym is)
    (no_step (Torn at (length bytes)) (torn_not at (length bytes)) place (system_in s (names_of places)))

-- ---- a sync

pub synced_each : (start later : Folder) (old new : List Done) (places : Slots) (place : Role) (n : ℕ) → later ≡ start → name_at (names_of places) place ≡ Some n
    → new ≡ old ++ Sync n ∷ [] → Each (ImagesOf later new) (FileSynced (opened (system_in (StateOf start old) (names_of places)) place))
synced_each start later old new places place n folder there more c left =
    subst (λ (file : Option File). FileSynced file c) (ap (file_of (held_in (StateOf start old))) (sym there)) (left_more start later old new (Sync n) folder more c left).1
