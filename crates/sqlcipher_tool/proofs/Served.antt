-- The command that words make is of a profile that is served.
use Rattle.std.proofs.Common.{◌≡◌, ℕ, Bool, true, false, List, [], ◌∷◌, Option, Some, None, if◌then◌else◌, refl, subst}
use Rattle.std.specs.Prelude.{codes}
use Rattle.std.specs.Option.{option_map, option_and_then}
use Rattle.std.specs.Str.{bytes_eq}
use Rattle.cipher_profile.specs.declared.profile.Profile.{Profile}
use Rattle.cipher_profile.specs.Profile.{IsListed}
use Rattle.profile_word.specs.Word.{profile_named}
use Rattle.profile_word.proofs.Listing.{named_listed}
use Rattle.text_lines.specs.Numbers.{number_named}
use Rattle.sqlcipher_tool.specs.declared.command.Command.{Command}
use Rattle.sqlcipher_tool.specs.declared.command.Command.TheVariants.{Probe, Recover, Read, Change as ChangeFile}
use Rattle.sqlcipher_tool.specs.declared.change.Change.{Change}
use Rattle.sqlcipher_tool.specs.declared.change.Change.TheVariants.{Settle, Rekey, Migrate}
use Rattle.sqlcipher_tool.specs.declared.reading.Job.TheVariants.{Verify, Export, Agree}
use Rattle.sqlcipher_tool.specs.declared.reading.Reading.TheVariants.{Tags, Header, Salvage, OnPages}
use Rattle.sqlcipher_tool.specs.Words.{IsChangeServed, IsServed, field_named, find_form, form, make_form, rowid_named, stamp_form, two_profiles}

-- none, or a command that is served
abbrev MaybeServed : Option Command → Type 0
MaybeServed None = Unit {0}
MaybeServed (Some command) = IsServed command

mapped : {X : Type 0} (f : X → Command) (o : Option X) → ((x : X) → o ≡ Some x → IsServed (f x)) → MaybeServed (option_map f o)
mapped f None served = tt
mapped f (Some x) served = served x refl

followed : {X : Type 0} (f : X → Option Command) (o : Option X) → ((x : X) → o ≡ Some x → MaybeServed (f x)) → MaybeServed (option_and_then f o)
followed f None served = tt
followed f (Some x) served = served x refl

either : (b : Bool) (one other : Option Command) → MaybeServed one → MaybeServed other → MaybeServed (if b then one else other)
either true one other first second = first
either false one other first second = second

stamp_served : (first second third : List ℕ) → MaybeServed (stamp_form first second third)
stamp_served first second third =
    followed _ (profile_named first) (λ profile named. followed _ (field_named second) (λ field is. mapped _ (number_named third) (λ value known. (named_listed first profile named, tt))))

find_served : (first second third fourth : List ℕ) → MaybeServed (find_form first second third fourth)
find_served first second third fourth =
    followed _ (profile_named first) (λ profile named. followed _ (rowid_named third) (λ low is. mapped _ (rowid_named fourth) (λ high known. named_listed first profile named)))

two_served : (change : Profile → Change) → ((new : Profile) → IsListed new → IsChangeServed (change new)) → (first second : List ℕ)
    → MaybeServed (two_profiles change first second)
two_served change served first second =
    followed _ (profile_named first)
    (λ old named. mapped _ (profile_named second) (λ new other. (named_listed first old named, served new (named_listed second new other))))

make_served : (first second : List ℕ) → MaybeServed (make_form first second)
make_served first second =
    followed _ (profile_named first) (λ profile named. mapped _ (number_named second) (λ rows known. named_listed first profile named))

maybe_served : (words : List (List ℕ)) → MaybeServed (form words)
maybe_served [] = tt
maybe_served (name ∷ []) = either (bytes_eq name (codes "probe")) (Some Probe) None tt tt
maybe_served (name ∷ word ∷ []) =
    let listed = named_listed word in
    let profile = profile_named word in
    either (bytes_eq name (codes "tags")) _ _ (mapped (λ p. Read p Tags) profile listed)
    (either (bytes_eq name (codes "header")) _ _ (mapped (λ p. Read p Header) profile listed)
    (either (bytes_eq name (codes "verify")) _ _ (mapped (λ p. Read p (OnPages Verify)) profile listed)
    (either (bytes_eq name (codes "export")) _ _ (mapped (λ p. Read p (OnPages Export)) profile listed)
    (either (bytes_eq name (codes "agree")) _ _ (mapped (λ p. Read p (OnPages Agree)) profile listed)
    (either (bytes_eq name (codes "salvage")) _ _ (mapped (λ p. Read p Salvage) profile listed)
    (either (bytes_eq name (codes "recover")) _ _ (mapped Recover profile listed)
    (either (bytes_eq name (codes "settle")) _ _ (mapped (λ p. ChangeFile p (Settle 0)) profile (λ p named. (listed p named, tt))) tt)))))))
maybe_served (name ∷ first ∷ second ∷ []) =
    either (bytes_eq name (codes "rekey")) _ _ (two_served Rekey (λ new listed. listed) first second)
    (either (bytes_eq name (codes "migrate")) _ _ (two_served Migrate (λ new listed. listed) first second)
    (either (bytes_eq name (codes "make")) _ _ (make_served first second) tt))
maybe_served (name ∷ first ∷ second ∷ third ∷ []) = either (bytes_eq name (codes "stamp")) _ _ (stamp_served first second third) tt
maybe_served (name ∷ first ∷ second ∷ third ∷ fourth ∷ []) = either (bytes_eq name (codes "find")) _ _ (find_served first second third fourth) tt
maybe_served (name ∷ first ∷ second ∷ third ∷ fourth ∷ fifth ∷ rest) = tt

pub form_served : (words : List (List ℕ)) (command : Command) → form words ≡ Some command → IsServed command
form_served words command is = subst MaybeServed is (maybe_served words)
