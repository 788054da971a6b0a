-- What does not depend on the page of a row.
use Rattle.std.proofs.Common.{◌≡◌, List, [], ◌∷◌, ◌++◌, map, refl, ap}
use Rattle.btree_model.specs.Finding.{Finding, place, leaf, entry, key, fault, refused, entries, places, keys, is_sound}
use Rattle.btree_model.specs.Content.{entry_of}
use Rattle.std.specs.Option.{option_to_list}
use Rattle.load_model.specs.Open.{plain}

pub plain-append : (xs ys : List Finding) → plain (xs ++ ys) ≡ plain xs ++ plain ys
plain-append [] ys = refl
plain-append (key k ∷ xs) ys = ap (λ l. key k ∷ l) (plain-append xs ys)
plain-append (place n ∷ xs) ys = ap (λ l. place n ∷ l) (plain-append xs ys)
plain-append (leaf n ∷ xs) ys = ap (λ l. leaf n ∷ l) (plain-append xs ys)
plain-append (entry r ∷ xs) ys = ap (λ l. entry (record { rowid = r.rowid; payload = r.payload; page = 0 }) ∷ l) (plain-append xs ys)
plain-append (fault d ∷ xs) ys = ap (λ l. fault d ∷ l) (plain-append xs ys)
plain-append (refused n ∷ xs) ys = ap (λ l. refused n ∷ l) (plain-append xs ys)

pub sound-plain : (xs : List Finding) → is_sound (plain xs) ≡ is_sound xs
sound-plain [] = refl
sound-plain (key k ∷ xs) = sound-plain xs
sound-plain (place n ∷ xs) = sound-plain xs
sound-plain (leaf n ∷ xs) = sound-plain xs
sound-plain (entry r ∷ xs) = sound-plain xs
sound-plain (fault d ∷ xs) = refl
sound-plain (refused n ∷ xs) = refl

pub places-plain : (xs : List Finding) → places (plain xs) ≡ places xs
places-plain [] = refl
places-plain (key k ∷ xs) = places-plain xs
places-plain (place n ∷ xs) = ap (λ l. n ∷ l) (places-plain xs)
places-plain (leaf n ∷ xs) = ap (λ l. n ∷ l) (places-plain xs)
places-plain (entry r ∷ xs) = places-plain xs
places-plain (fault d ∷ xs) = places-plain xs
places-plain (refused n ∷ xs) = places-plain xs

pub keys-plain : (xs : List Finding) → keys (plain xs) ≡ keys xs
keys-plain [] = refl
keys-plain (key k ∷ xs) = ap (λ l. k ∷ l) (keys-plain xs)
keys-plain (place n ∷ xs) = keys-plain xs
keys-plain (leaf n ∷ xs) = keys-plain xs
keys-plain (entry r ∷ xs) = ap (λ l. option_to_list r.rowid ++ l) (keys-plain xs)
keys-plain (fault d ∷ xs) = keys-plain xs
keys-plain (refused n ∷ xs) = keys-plain xs

pub entries-plain : (xs : List Finding) → map entry_of (entries (plain xs)) ≡ map entry_of (entries xs)
entries-plain [] = refl
entries-plain (key k ∷ xs) = entries-plain xs
entries-plain (place n ∷ xs) = entries-plain xs
entries-plain (leaf n ∷ xs) = entries-plain xs
entries-plain (entry r ∷ xs) = ap (λ l. entry_of r ∷ l) (entries-plain xs)
entries-plain (fault d ∷ xs) = entries-plain xs
entries-plain (refused n ∷ xs) = entries-plain xs

pub rowids-plain : (xs : List Finding) → map (λ row. row.rowid) (entries (plain xs)) ≡ map (λ row. row.rowid) (entries xs)
rowids-plain [] = refl
rowids-plain (key k ∷ xs) = rowids-plain xs
rowids-plain (place n ∷ xs) = rowids-plain xs
rowids-plain (leaf n ∷ xs) = rowids-plain xs
rowids-plain (entry r ∷ xs) = ap (λ l. r.rowid ∷ l) (rowids-plain xs)
rowids-plain (fault d ∷ xs) = rowids-plain xs
rowids-plain (refused n ∷ xs) = rowids-plain xs
