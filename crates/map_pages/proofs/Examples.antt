-- The definitions computed: files that the trial table names, and a small database by hand.
use Rattle.std.proofs.Common.{◌≡◌, [], ◌∷◌, replicate, refl}
use Rattle.btree_model.specs.Finding.{place, leaf}
use Rattle.map_pages.specs.Maps.{map_count}
use Rattle.map_pages.specs.Trunks.{findings_from, map_trunk, numbers_from}

-- pages of 1,024 bytes of version 3, which keep 48
count_774 : map_count 976 774 ≡ 4
count_774 = refl

count_477 : map_count 976 477 ≡ 3
count_477 = refl

count_1021 : map_count 976 1021 ≡ 6
count_1021 = refl

-- plain pages of 512 bytes
count_3065 : map_count 512 3065 ≡ 30
count_3065 = refl

count_1441 : map_count 512 1441 ≡ 14
count_1441 = refl

-- pages of 4,096 bytes of version 4, which keep 80
count_220 : map_count 4016 220 ≡ 1
count_220 = refl

-- a page 1 alone has no map page, page 2 is the first
count_1 : map_count 512 1 ≡ 0
count_1 = refl

count_2 : map_count 512 2 ≡ 1
count_2 = refl

-- 30 pages of 40 bytes: a map page every nine pages, and room for two leaves in a trunk
small_count : map_count 40 30 ≡ 4
small_count = refl

small_numbers : numbers_from 40 0 4 ≡ 2 ∷ 11 ∷ 20 ∷ 29 ∷ []
small_numbers = refl

small_freelist : findings_from 40 0 4 ≡ place 2 ∷ leaf 11 ∷ leaf 20 ∷ place 29 ∷ []
small_freelist = refl

first_trunk_page : map_trunk 40 4 7 0 ≡ 0 ∷ 0 ∷ 0 ∷ 29 ∷ 0 ∷ 0 ∷ 0 ∷ 2 ∷ 0 ∷ 0 ∷ 0 ∷ 11 ∷ 0 ∷ 0 ∷ 0 ∷ 20 ∷ replicate 24 0
first_trunk_page = refl

-- the last one names the old first trunk
last_trunk_page : map_trunk 40 4 7 3 ≡ 0 ∷ 0 ∷ 0 ∷ 7 ∷ replicate 36 0
last_trunk_page = refl
