-- The names near that of `find`, in a file that was opened.
use Rattle.std.proofs.Common.{◌≡◌, ◌≤◌, ◌∙◌, ℕ, List, Result, Ok, Err, IfOk, IfErr, ap, sym, arith}
use Rattle.cipher_profile.specs.declared.keys.Secret.{Secret}
use Rattle.cipher_profile.specs.declared.profile.Profile.{Profile}
use Rattle.edge_model.specs.Causes.{Rose}
use Rattle.page_codec.specs.Page.{FileKeys, keys_of}
use Rattle.pager.specs.Opening.{Opened}
use Rattle.pager.specs.Pages.{opened_pages}
use Rattle.pager.specs.declared.opening.OpenError.{OpenError}
use Rattle.sqlcipher_tool.specs.Names.{names_in, names_of, opened_names}
use Rattle.sqlcipher_tool.specs.Opening.{opened_with}

-- what is known of a result where something is told
pub if_told : {A E : Type 0} (told : Type 0) (result : Result A E) (P Q : A → Type 0) → (told → (value : A) → P value → Q value)
    → IfOk result (λ value. told → P value) → IfOk result (λ value. told → Q value)
if_told told (Ok value) P Q on held = λ is. on is value (held is)
if_told told (Err error) P Q on held = tt

pub if_failed : {A E : Type 0} (result : Result A E) (P Q : E → Type 0) → ((error : E) → P error → Q error) → IfErr result P → IfErr result Q
if_failed (Ok value) P Q on held = tt
if_failed (Err error) P Q on held = on error held

-- a count that rose after it did not fall
pub rose_after : (before middle now : ℕ) → before ≤ middle → Rose middle now → Rose before now
rose_after before middle now less rose = omega arith

-- the names in the pages of an opened file are those of the file
pub names_opened : (profile : Profile) (secret : Secret) (name start main : List ℕ) (codec : FileKeys) (opened : Opened)
    → opened_with profile secret start ≡ Ok opened → codec ≡ keys_of profile secret start → main ≡ start
    → names_in name (opened_pages codec main opened.count) ≡ names_of profile secret name start
names_opened profile secret name start main codec opened opens keys same =
    ap (λ (k : FileKeys). names_in name (opened_pages k main opened.count)) keys
    ∙ ap (λ (m : List ℕ). names_in name (opened_pages (keys_of profile secret start) m opened.count)) same
    ∙ sym (ap (λ (r : Result Opened OpenError). opened_names r (λ count. names_in name (opened_pages (keys_of profile secret start) start count))) opens)
