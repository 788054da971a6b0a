-- One call more of a disk in memory.
use Rattle.std.proofs.Common.{◌≡◌, inl, ℕ, List, [], ◌∷◌, ◌++◌, length, take, Vec, Result, Ok, Err, OnOk, OnErr, refl, sym, ◌∙◌, ap, subst, arith}
use Rattle.std.specs.declared.alloc.Global.{Global}
use Rattle.std.proofs.lemmas.List.{reverse-append, length-reverse}
use Rattle.edge_model.specs.Files.{Files, written, created, removed, Torn, Shorter}
use Rattle.edge_model.specs.Images.{Follows, Changes, Renames}
use Rattle.edge_model.specs.Bytes.{torn_written, shorter_cut}
use Rattle.edge_memory.specs.Log.{files_of, next_number, newest_first, reads_after, ImagesAfter}
use Rattle.edge_memory.specs.LogLaws.{changed_whole, changes_none}
use Rattle.edge_memory.specs.declared.mem_disk.contents.Contents.{Contents}
use Rattle.edge_memory.specs.declared.mem_disk.contents.Call.{Call}
use Rattle.edge_memory.specs.declared.mem_disk.contents.Call.TheVariants.{Write, Cut, Create, Remove}
use Rattle.edge_model.specs.declared.role.Role.{Role}

one_more : (old new : List Call) (call : Call) → new ≡ old ++ call ∷ [] → newest_first new ≡ call ∷ newest_first old
one_more old new call is = ap newest_first is ∙ reverse-append old (call ∷ [])

next_same : (old : List Call) → next_number (newest_first old) ≡ next_number old
next_same old = omega (arith, length-reverse old)

-- what is read, and what a crash may leave
abbrev Reads : Contents → List Call → Files
Reads start calls = reads_after (files_of start) (newest_first calls)

abbrev Images : Contents → List Call → Files → Type 0
Images start calls = ImagesAfter (files_of start) (newest_first calls)

pub create_follows : {T E : Type 0} (r : Result T E) (start later : Contents) (old new : List Call) (role : Role) → later ≡ start
    → OnOk r (new ≡ old ++ Create role ∷ []) → OnErr r (new ≡ old)
    → Follows (Renames (created role (next_number old)) (Reads start old)) (Images start old) (Images later new)
create_follows (Ok x) start later old new role same ok err c left =
    let here : Images start new c = subst (λ (s : Contents). Images s new c) same left in
    let gone : ImagesAfter (files_of start) (Create role ∷ newest_first old) c =
    subst (λ (l : List Call). ImagesAfter (files_of start) l c) (one_more old new (Create role) ok) here in
    (gone.0, gone.1, subst (λ (n : ℕ). Renames (created role n) (Reads start old) gone.0 c) (next_same old) gone.2)
create_follows (Err e) start later old new role same ok err c left =
    let here : Images start new c = subst (λ (s : Contents). Images s new c) same left in
    (c, subst (λ (l : List Call). Images start l c) err here, inl refl)

pub remove_follows : {T E : Type 0} (r : Result T E) (start later : Contents) (old new : List Call) (role : Role) → later ≡ start
    → OnOk r (new ≡ old ++ Remove role ∷ []) → OnErr r (new ≡ old)
    → Follows (Renames (removed role) (Reads start old)) (Images start old) (Images later new)
remove_follows (Ok x) start later old new role same ok err c left =
    let here : Images start new c = subst (λ (s : Contents). Images s new c) same left in
    subst (λ (l : List Call). ImagesAfter (files_of start) l c) (one_more old new (Remove role) ok) here
remove_follows (Err e) start later old new role same ok err c left =
    let here : Images start new c = subst (λ (s : Contents). Images s new c) same left in
    (c, subst (λ (l : List Call). Images start l c) err here, inl refl)

reads_more : (start later : Contents) (old new : List Call) (call : Call) → later ≡ start → new ≡ old ++ call ∷ []
    → reads_after (files_of start) (call ∷ newest_first old) ≡ Reads later new
reads_more start later old new call same is =
    sym (ap (λ (s : Contents). Reads s new) same ∙ ap (λ (l : List Call). reads_after (files_of start) l) (one_more old new call is))

reads_same : (start later : Contents) (old new : List Call) → later ≡ start → new ≡ old → Reads start old ≡ Reads later new
reads_same start later old new same is = sym (ap (λ (s : Contents). Reads s new) same ∙ ap (λ (l : List Call). Reads start l) is)

pub write_changes : {T E : Type 0} (r : Result T E) (start later : Contents) (old new : List Call) (role : Role) (at : ℕ) (bytes : List ℕ) → later ≡ start
    → OnOk r ((b : Vec ℕ Global) × (b.items ≡ bytes) × (new ≡ old ++ Write role at b ∷ [])) → OnErr r (new ≡ old)
    → Changes role (Torn at (length bytes)) (Reads start old) (Reads start old) (Reads later new)
write_changes (Ok x) start later old new role at bytes same ok err =
    subst (λ (f : Files). Changes role (Torn at (length bytes)) (Reads start old) (Reads start old) f)
    (reads_more start later old new (Write role at ok.0) same ok.2)
    (changed_whole (Torn at (length bytes)) (written at ok.0.items) (λ b. subst (λ (l : List ℕ). Torn at (length bytes) b (written at l b)) (sym ok.1) (torn_written at bytes b)) role (Reads start old))
write_changes (Err e) start later old new role at bytes same ok err =
    subst (λ (f : Files). Changes role (Torn at (length bytes)) (Reads start old) (Reads start old) f) (reads_same start later old new same err)
    (changes_none (Torn at (length bytes)) role (Reads start old) (Reads start old))

pub cut_changes : {T E : Type 0} (r : Result T E) (start later : Contents) (old new : List Call) (role : Role) (len : ℕ) → later ≡ start
    → OnOk r (new ≡ old ++ Cut role len ∷ []) → OnErr r (new ≡ old)
    → Changes role (Shorter len) (Reads start old) (Reads start old) (Reads later new)
cut_changes (Ok x) start later old new role len same ok err =
    subst (λ (f : Files). Changes role (Shorter len) (Reads start old) (Reads start old) f) (reads_more start later old new (Cut role len) same ok)
    (changed_whole (Shorter len) (take len) (shorter_cut len) role (Reads start old))
cut_changes (Err e) start later old new role len same ok err =
    subst (λ (f : Files). Changes role (Shorter len) (Reads start old) (Reads start old) f) (reads_same start later old new same err)
    (changes_none (Shorter len) role (Reads start old) (Reads start old))
