-- Small checksums by hand, and a small log whose checksums another program made, computed from the definitions.
use Rattle.std.specs.Prelude.{ℕ, ◌≡◌, false, true, List, [], ◌∷◌, ◌++◌, map, replicate, take, refl}
use Rattle.journal_format.specs.Records.{Record}
use Rattle.log_format.specs.Header.{is_log_head}
use Rattle.log_format.specs.Frames.{frame_sum}
use Rattle.log_format.specs.Logs.{committed_frames, is_live, logged, logged_count}
use Rattle.log_format.specs.Sums.{log_sum, no_sum}

-- the words 1 and 2, and then 0 and 0: 1, 3, and 1 + 0 + 3, 3 + 0 + 4
two_words : log_sum true no_sum (0 ∷ 0 ∷ 0 ∷ 1 ∷ 0 ∷ 0 ∷ 0 ∷ 2 ∷ []) ≡ record { first = 1; second = 3 }
two_words = refl

four_words : log_sum true no_sum (0 ∷ 0 ∷ 0 ∷ 1 ∷ 0 ∷ 0 ∷ 0 ∷ 2 ∷ replicate 8 0) ≡ record { first = 4; second = 7 }
four_words = refl

-- the same words, the least significant byte first
turned : log_sum false no_sum (1 ∷ 0 ∷ 0 ∷ 0 ∷ 2 ∷ 0 ∷ 0 ∷ 0 ∷ replicate 8 0) ≡ record { first = 4; second = 7 }
turned = refl

-- past 2^32: ffffffff and 0, and then 1 and 0
wraps : log_sum true no_sum (255 ∷ 255 ∷ 255 ∷ 255 ∷ 0 ∷ 0 ∷ 0 ∷ 0 ∷ 0 ∷ 0 ∷ 0 ∷ 1 ∷ 0 ∷ 0 ∷ 0 ∷ 0 ∷ [])
    ≡ record { first = 4294967295; second = 4294967294 }
wraps = refl

-- a header that names pages of 512 bytes, with the salts 1 and 2; and frames of pages of 8 bytes, so that the log is short
abbrev salts : List ℕ
salts = 0 ∷ 0 ∷ 0 ∷ 1 ∷ 0 ∷ 0 ∷ 0 ∷ 2 ∷ []

abbrev head : List ℕ
head =
    55 ∷ 127 ∷ 6 ∷ 130 ∷ 0 ∷ 45 ∷ 226 ∷ 24 ∷ 0 ∷ 0 ∷ 2 ∷ 0 ∷ 0 ∷ 0 ∷ 0 ∷ 0 ∷ []
    ++ salts ++ 213 ∷ 203 ∷ 3 ∷ 19 ∷ 143 ∷ 164 ∷ 218 ∷ 184 ∷ []

-- page 1; page 2, which ends a commit of two pages; page 3, behind the last commit
abbrev first : List ℕ
first = 0 ∷ 0 ∷ 0 ∷ 1 ∷ 0 ∷ 0 ∷ 0 ∷ 0 ∷ [] ++ salts ++ 99 ∷ 139 ∷ 157 ∷ 85 ∷ 96 ∷ 167 ∷ 92 ∷ 223 ∷ [] ++ replicate 8 7

abbrev second : List ℕ
second = 0 ∷ 0 ∷ 0 ∷ 2 ∷ 0 ∷ 0 ∷ 0 ∷ 2 ∷ [] ++ salts ++ 248 ∷ 22 ∷ 90 ∷ 80 ∷ 41 ∷ 249 ∷ 186 ∷ 108 ∷ [] ++ replicate 8 9

abbrev third : List ℕ
third = 0 ∷ 0 ∷ 0 ∷ 3 ∷ 0 ∷ 0 ∷ 0 ∷ 0 ∷ [] ++ salts ++ 121 ∷ 30 ∷ 232 ∷ 233 ∷ 205 ∷ 45 ∷ 189 ∷ 22 ∷ [] ++ replicate 8 5

begins : (is_log_head head ≡ true) × (is_log_head (take 31 head) ≡ false)
begins = (refl, refl)

commits : committed_frames 8 (head ++ first ++ second ++ third) ≡ 2
unfolding frame_sum
commits = refl

count : logged_count 8 (head ++ first ++ second ++ third) ≡ 2
unfolding frame_sum
count = refl

pages : map (λ (r : Record). r.page) (logged 8 (head ++ first ++ second ++ third)) ≡ 1 ∷ 2 ∷ []
unfolding frame_sum
pages = refl

-- the last commit is not whole
torn : is_live 8 (head ++ first ++ take 31 second) ≡ false
unfolding frame_sum
torn = refl

-- another log's frames
other : is_live 8 (head ++ second ++ first) ≡ false
unfolding frame_sum
other = refl
