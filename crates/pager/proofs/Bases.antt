-- What a transaction starts from, where the disk tells and where it doesn't.
use Rattle.std.proofs.Common.{◌≡◌, ◌<◌, ◌*◌, ◌==◌, ℕ, Bool, true, false, IsTrue, List, Option, Some, None, refl, ap, arith, rules}
use Rattle.std.specs.Prelude.{replicate}
use Rattle.std.proofs.lemmas.List.{length-replicate}
use Rattle.page_codec.specs.Page.{FileKeys}
use Rattle.pager.specs.Base.{base_of, is_some_of}
use Rattle.atomic_commit.specs.Database.{Base}
use Rattle.atomic_commit.specs.Facts.{IsBase}

-- of a file that may not be told
abbrev pub any_base : Bool → FileKeys → List ℕ → ℕ → Base
any_base true keys file count = base_of keys file count
any_base false keys file count = record { size = keys.profile.page_size; pages = count; start = replicate (count * keys.profile.page_size) 0; counts = λ len. true }

pub told_base : (tells : Bool) (keys : FileKeys) (file : List ℕ) (count : ℕ) → IsTrue tells → any_base tells keys file count ≡ base_of keys file count
told_base tells keys file count told = ap (λ (b : Bool). any_base b keys file count) told

pub is_base : (tells : Bool) (keys : FileKeys) (file : List ℕ) (count : ℕ) → 0 < keys.profile.page_size → 0 < count
    → (IsTrue tells → IsBase (base_of keys file count)) → IsBase (any_base tells keys file count)
is_base true keys file count size some told = told refl
is_base false keys file count size some told = record { size = size; pages = some; within = omega (arith, length-replicate {A = ℕ} (count * keys.profile.page_size) 0); whole = refl }

pub base_sizes : (tells : Bool) (keys : FileKeys) (file : List ℕ) (count : ℕ) → (keys.profile.page_size ≡ (any_base tells keys file count).size) × (count ≡ (any_base tells keys file count).pages)
base_sizes true keys file count = (refl, refl)
base_sizes false keys file count = (refl, refl)

-- ---- a count of pages

pub some_is : (n : ℕ) (o : Option ℕ) → is_some_of n o ≡ true → o ≡ Some n
some_is n None is = cc
some_is n (Some m) is = ap (λ (k : ℕ). Some k) (search rules)

pub is_some_is : (n : ℕ) (o : Option ℕ) → o ≡ Some n → is_some_of n o ≡ true
is_some_is n o is = rw is (itself n)
  where
    itself : (a : ℕ) → (a == a) ≡ true
    itself a = search rules
