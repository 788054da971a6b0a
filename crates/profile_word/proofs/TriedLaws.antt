-- Each profile that is tried is listed, and is what its word names.
use Rattle.std.proofs.Common.{◌≡◌, ◌<◌, ℕ, zero, suc, List, [], ◌∷◌, length, slice_index_or, drop, refl, inl, inr, lit≤, arith}
use Rattle.std.specs.Fmt.{digits}
use Rattle.cipher_profile.specs.declared.profile.Profile.{Profile}
use Rattle.cipher_profile.specs.Profile.{IsListed, sqlcipher_1, sqlcipher_2, sqlcipher_3, sqlcipher_4, sqlcipher_4_of}
use Rattle.profile_word.specs.Parts.{parts}
use Rattle.profile_word.specs.Setting.{setting_named}
use Rattle.profile_word.specs.Tried.{IsNamedByItsWord, one_round, probed_profiles, short_tags, sqlcipher_1_at_4096, sqlcipher_2_at_4096, sqlcipher_3_at_4096}
use Rattle.profile_word.specs.Word.{profile_from, profile_named}

-- what holds of each profile of a list, one by one
module _ (P : Profile → Type 0) where
  none_hold : (k : ℕ) (d : Profile) → k < 0 → P (slice_index_or [] k d)
  none_hold k d less = absurd (omega (arith, less))

  first_holds : (first : Profile) (later : List Profile) → P first → ((k : ℕ) (d : Profile) → k < length later → P (slice_index_or later k d))
      → (k : ℕ) (d : Profile) → k < length (first ∷ later) → P (slice_index_or (first ∷ later) k d)
  first_holds first later one others zero d less = one
  first_holds first later one others (suc k) d less = others k d (omega (arith, less))

listed_4 : IsListed sqlcipher_4
unfolding IsListed
listed_4 = inl (record { version = lit≤ tt; size = inr (inr (inl refl)); rounds = lit≤ tt; tags = inr refl; reserve = refl; header = inl refl })

named_4 : IsNamedByItsWord sqlcipher_4
unfolding profile_named profile_from parts setting_named digits
named_4 = refl

listed_4_1024 : IsListed (sqlcipher_4_of 1024)
unfolding IsListed
listed_4_1024 = inl (record { version = lit≤ tt; size = inl refl; rounds = lit≤ tt; tags = inr refl; reserve = refl; header = inl refl })

named_4_1024 : IsNamedByItsWord (sqlcipher_4_of 1024)
unfolding profile_named profile_from parts setting_named digits
named_4_1024 = refl

listed_4_2048 : IsListed (sqlcipher_4_of 2048)
unfolding IsListed
listed_4_2048 = inl (record { version = lit≤ tt; size = inr (inl refl); rounds = lit≤ tt; tags = inr refl; reserve = refl; header = inl refl })

named_4_2048 : IsNamedByItsWord (sqlcipher_4_of 2048)
unfolding profile_named profile_from parts setting_named digits
named_4_2048 = refl

listed_4_8192 : IsListed (sqlcipher_4_of 8192)
unfolding IsListed
listed_4_8192 = inl (record { version = lit≤ tt; size = inr (inr (inr (inl refl))); rounds = lit≤ tt; tags = inr refl; reserve = refl; header = inl refl })

named_4_8192 : IsNamedByItsWord (sqlcipher_4_of 8192)
unfolding profile_named profile_from parts setting_named digits
named_4_8192 = refl

listed_4_16384 : IsListed (sqlcipher_4_of 16384)
unfolding IsListed
listed_4_16384 = inl (record { version = lit≤ tt; size = inr (inr (inr (inr (inl refl)))); rounds = lit≤ tt; tags = inr refl; reserve = refl; header = inl refl })

named_4_16384 : IsNamedByItsWord (sqlcipher_4_of 16384)
unfolding profile_named profile_from parts setting_named digits
named_4_16384 = refl

listed_4_32768 : IsListed (sqlcipher_4_of 32768)
unfolding IsListed
listed_4_32768 = inl (record { version = lit≤ tt; size = inr (inr (inr (inr (inr (inl refl))))); rounds = lit≤ tt; tags = inr refl; reserve = refl; header = inl refl })

named_4_32768 : IsNamedByItsWord (sqlcipher_4_of 32768)
unfolding profile_named profile_from parts setting_named digits
named_4_32768 = refl

listed_4_65536 : IsListed (sqlcipher_4_of 65536)
unfolding IsListed
listed_4_65536 = inl (record { version = lit≤ tt; size = inr (inr (inr (inr (inr (inr refl))))); rounds = lit≤ tt; tags = inr refl; reserve = refl; header = inl refl })

named_4_65536 : IsNamedByItsWord (sqlcipher_4_of 65536)
unfolding profile_named profile_from parts setting_named digits
named_4_65536 = refl

listed_3 : IsListed sqlcipher_3
unfolding IsListed
listed_3 = inl (record { version = lit≤ tt; size = inl refl; rounds = lit≤ tt; tags = inr refl; reserve = refl; header = inl refl })

named_3 : IsNamedByItsWord sqlcipher_3
unfolding profile_named profile_from parts setting_named digits
named_3 = refl

listed_3_4096 : IsListed sqlcipher_3_at_4096
unfolding IsListed
listed_3_4096 = inl (record { version = lit≤ tt; size = inr (inr (inl refl)); rounds = lit≤ tt; tags = inr refl; reserve = refl; header = inl refl })

named_3_4096 : IsNamedByItsWord sqlcipher_3_at_4096
unfolding profile_named profile_from parts setting_named digits
named_3_4096 = refl

listed_2 : IsListed sqlcipher_2
unfolding IsListed
listed_2 = inl (record { version = lit≤ tt; size = inl refl; rounds = lit≤ tt; tags = inr refl; reserve = refl; header = inl refl })

named_2 : IsNamedByItsWord sqlcipher_2
unfolding profile_named profile_from parts setting_named digits
named_2 = refl

listed_2_4096 : IsListed sqlcipher_2_at_4096
unfolding IsListed
listed_2_4096 = inl (record { version = lit≤ tt; size = inr (inr (inl refl)); rounds = lit≤ tt; tags = inr refl; reserve = refl; header = inl refl })

named_2_4096 : IsNamedByItsWord sqlcipher_2_at_4096
unfolding profile_named profile_from parts setting_named digits
named_2_4096 = refl

listed_1 : IsListed sqlcipher_1
unfolding IsListed
listed_1 = inl (record { version = lit≤ tt; size = inl refl; rounds = lit≤ tt; tags = inl refl; reserve = refl; header = inl refl })

named_1 : IsNamedByItsWord sqlcipher_1
unfolding profile_named profile_from parts setting_named digits
named_1 = refl

listed_1_4096 : IsListed sqlcipher_1_at_4096
unfolding IsListed
listed_1_4096 = inl (record { version = lit≤ tt; size = inr (inr (inl refl)); rounds = lit≤ tt; tags = inl refl; reserve = refl; header = inl refl })

named_1_4096 : IsNamedByItsWord sqlcipher_1_at_4096
unfolding profile_named profile_from parts setting_named digits
named_1_4096 = refl

listed_one_round : IsListed one_round
unfolding IsListed
listed_one_round = inl (record { version = lit≤ tt; size = inr (inr (inl refl)); rounds = lit≤ tt; tags = inr refl; reserve = refl; header = inl refl })

named_one_round : IsNamedByItsWord one_round
unfolding profile_named profile_from parts setting_named digits
named_one_round = refl

listed_short_tags : IsListed short_tags
unfolding IsListed
listed_short_tags = inl (record { version = lit≤ tt; size = inr (inr (inl refl)); rounds = lit≤ tt; tags = inr refl; reserve = refl; header = inl refl })

named_short_tags : IsNamedByItsWord short_tags
unfolding profile_named profile_from parts setting_named digits
named_short_tags = refl

pub each_listed : (k : ℕ) (d : Profile) → k < 15 → IsListed (slice_index_or probed_profiles k d)
each_listed =
    first_holds IsListed sqlcipher_4 (drop 1 probed_profiles) listed_4
    (first_holds IsListed (sqlcipher_4_of 1024) (drop 2 probed_profiles) listed_4_1024
    (first_holds IsListed (sqlcipher_4_of 2048) (drop 3 probed_profiles) listed_4_2048
    (first_holds IsListed (sqlcipher_4_of 8192) (drop 4 probed_profiles) listed_4_8192
    (first_holds IsListed (sqlcipher_4_of 16384) (drop 5 probed_profiles) listed_4_16384
    (first_holds IsListed (sqlcipher_4_of 32768) (drop 6 probed_profiles) listed_4_32768
    (first_holds IsListed (sqlcipher_4_of 65536) (drop 7 probed_profiles) listed_4_65536
    (first_holds IsListed sqlcipher_3 (drop 8 probed_profiles) listed_3
    (first_holds IsListed sqlcipher_3_at_4096 (drop 9 probed_profiles) listed_3_4096
    (first_holds IsListed sqlcipher_2 (drop 10 probed_profiles) listed_2
    (first_holds IsListed sqlcipher_2_at_4096 (drop 11 probed_profiles) listed_2_4096
    (first_holds IsListed sqlcipher_1 (drop 12 probed_profiles) listed_1
    (first_holds IsListed sqlcipher_1_at_4096 (drop 13 probed_profiles) listed_1_4096
    (first_holds IsListed one_round (drop 14 probed_profiles) listed_one_round
    (first_holds IsListed short_tags [] listed_short_tags
    (none_hold IsListed)))))))))))))))

pub each_named : (k : ℕ) (d : Profile) → k < 15 → IsNamedByItsWord (slice_index_or probed_profiles k d)
each_named =
    first_holds IsNamedByItsWord sqlcipher_4 (drop 1 probed_profiles) named_4
    (first_holds IsNamedByItsWord (sqlcipher_4_of 1024) (drop 2 probed_profiles) named_4_1024
    (first_holds IsNamedByItsWord (sqlcipher_4_of 2048) (drop 3 probed_profiles) named_4_2048
    (first_holds IsNamedByItsWord (sqlcipher_4_of 8192) (drop 4 probed_profiles) named_4_8192
    (first_holds IsNamedByItsWord (sqlcipher_4_of 16384) (drop 5 probed_profiles) named_4_16384
    (first_holds IsNamedByItsWord (sqlcipher_4_of 32768) (drop 6 probed_profiles) named_4_32768
    (first_holds IsNamedByItsWord (sqlcipher_4_of 65536) (drop 7 probed_profiles) named_4_65536
    (first_holds IsNamedByItsWord sqlcipher_3 (drop 8 probed_profiles) named_3
    (first_holds IsNamedByItsWord sqlcipher_3_at_4096 (drop 9 probed_profiles) named_3_4096
    (first_holds IsNamedByItsWord sqlcipher_2 (drop 10 probed_profiles) named_2
    (first_holds IsNamedByItsWord sqlcipher_2_at_4096 (drop 11 probed_profiles) named_2_4096
    (first_holds IsNamedByItsWord sqlcipher_1 (drop 12 probed_profiles) named_1
    (first_holds IsNamedByItsWord sqlcipher_1_at_4096 (drop 13 probed_profiles) named_1_4096
    (first_holds IsNamedByItsWord one_round (drop 14 probed_profiles) named_one_round
    (first_holds IsNamedByItsWord short_tags [] named_short_tags
    (none_hold IsNamedByItsWord)))))))))))))))

-- the list, where the sizes of version 4 are made one by one
pub tried_same : (a b e f g h : Profile) → a ≡ sqlcipher_4_of 1024 → b ≡ sqlcipher_4_of 2048 → e ≡ sqlcipher_4_of 8192 → f ≡ sqlcipher_4_of 16384 → g ≡ sqlcipher_4_of 32768 → h ≡ sqlcipher_4_of 65536
    → ◌≡◌ {A = List Profile} (sqlcipher_4 ∷ a ∷ b ∷ e ∷ f ∷ g ∷ h ∷ sqlcipher_3 ∷ sqlcipher_3_at_4096 ∷ sqlcipher_2 ∷ sqlcipher_2_at_4096 ∷ sqlcipher_1 ∷ sqlcipher_1_at_4096 ∷ one_round ∷ short_tags ∷ []) probed_profiles
tried_same a b e f g h is_a is_b is_e is_f is_g is_h =
    (λ t. sqlcipher_4 ∷ is_a t ∷ is_b t ∷ is_e t ∷ is_f t ∷ is_g t ∷ is_h t ∷ sqlcipher_3 ∷ sqlcipher_3_at_4096 ∷ sqlcipher_2 ∷ sqlcipher_2_at_4096 ∷ sqlcipher_1 ∷ sqlcipher_1_at_4096 ∷ one_round ∷ short_tags ∷ [])
