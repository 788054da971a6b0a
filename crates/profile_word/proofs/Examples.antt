-- The words of the versions as they are by themselves, and of plain files: the grammar gives each what it has always named, and with `:wal`
-- the same read with its log. A plain header and a key line in hex. And what is no word.
use Rattle.std.proofs.Common.{◌≡◌, true, false, Some, None, refl}
use Rattle.std.specs.Prelude.{codes}
use Rattle.std.specs.Fmt.{digits}
use Rattle.cipher_profile.specs.declared.profile.HashKind.TheVariants.{Sha512}
use Rattle.cipher_profile.specs.Profile.{plain_of, sqlcipher_1, sqlcipher_2, sqlcipher_3, sqlcipher_4, sqlcipher_4_of, with_log}
use Rattle.profile_word.specs.Parts.{parts}
use Rattle.profile_word.specs.Setting.{setting_named}
use Rattle.profile_word.specs.Word.{profile_from, profile_named}
use Rattle.profile_word.specs.Wording.{word_of}

names_1 : profile_named (codes "1") ≡ Some sqlcipher_1
unfolding profile_named profile_from parts setting_named
names_1 = refl

names_1_wal : profile_named (codes "1:wal") ≡ Some (with_log sqlcipher_1)
unfolding profile_named profile_from parts setting_named
names_1_wal = refl

names_2 : profile_named (codes "2") ≡ Some sqlcipher_2
unfolding profile_named profile_from parts setting_named
names_2 = refl

names_2_wal : profile_named (codes "2:wal") ≡ Some (with_log sqlcipher_2)
unfolding profile_named profile_from parts setting_named
names_2_wal = refl

names_3 : profile_named (codes "3") ≡ Some sqlcipher_3
unfolding profile_named profile_from parts setting_named
names_3 = refl

names_3_wal : profile_named (codes "3:wal") ≡ Some (with_log sqlcipher_3)
unfolding profile_named profile_from parts setting_named
names_3_wal = refl

names_4 : profile_named (codes "4") ≡ Some sqlcipher_4
unfolding profile_named profile_from parts setting_named
names_4 = refl

names_4_wal : profile_named (codes "4:wal") ≡ Some (with_log sqlcipher_4)
unfolding profile_named profile_from parts setting_named
names_4_wal = refl

names_4_4096 : profile_named (codes "4:4096") ≡ Some sqlcipher_4
unfolding profile_named profile_from parts setting_named
names_4_4096 = refl

names_4_4096_wal : profile_named (codes "4:4096:wal") ≡ Some (with_log sqlcipher_4)
unfolding profile_named profile_from parts setting_named
names_4_4096_wal = refl

names_4_1024 : profile_named (codes "4:1024") ≡ Some (sqlcipher_4_of 1024)
unfolding profile_named profile_from parts setting_named
names_4_1024 = refl

names_4_1024_wal : profile_named (codes "4:1024:wal") ≡ Some (with_log (sqlcipher_4_of 1024))
unfolding profile_named profile_from parts setting_named
names_4_1024_wal = refl

names_4_2048 : profile_named (codes "4:2048") ≡ Some (sqlcipher_4_of 2048)
unfolding profile_named profile_from parts setting_named
names_4_2048 = refl

names_4_2048_wal : profile_named (codes "4:2048:wal") ≡ Some (with_log (sqlcipher_4_of 2048))
unfolding profile_named profile_from parts setting_named
names_4_2048_wal = refl

names_4_8192 : profile_named (codes "4:8192") ≡ Some (sqlcipher_4_of 8192)
unfolding profile_named profile_from parts setting_named
names_4_8192 = refl

names_4_8192_wal : profile_named (codes "4:8192:wal") ≡ Some (with_log (sqlcipher_4_of 8192))
unfolding profile_named profile_from parts setting_named
names_4_8192_wal = refl

names_4_16384 : profile_named (codes "4:16384") ≡ Some (sqlcipher_4_of 16384)
unfolding profile_named profile_from parts setting_named
names_4_16384 = refl

names_4_16384_wal : profile_named (codes "4:16384:wal") ≡ Some (with_log (sqlcipher_4_of 16384))
unfolding profile_named profile_from parts setting_named
names_4_16384_wal = refl

names_4_32768 : profile_named (codes "4:32768") ≡ Some (sqlcipher_4_of 32768)
unfolding profile_named profile_from parts setting_named
names_4_32768 = refl

names_4_32768_wal : profile_named (codes "4:32768:wal") ≡ Some (with_log (sqlcipher_4_of 32768))
unfolding profile_named profile_from parts setting_named
names_4_32768_wal = refl

names_4_65536 : profile_named (codes "4:65536") ≡ Some (sqlcipher_4_of 65536)
unfolding profile_named profile_from parts setting_named
names_4_65536 = refl

names_4_65536_wal : profile_named (codes "4:65536:wal") ≡ Some (with_log (sqlcipher_4_of 65536))
unfolding profile_named profile_from parts setting_named
names_4_65536_wal = refl

names_4_header : profile_named (codes "4:plain-header=32") ≡ Some (record { version = 4; page_size = 4096; reserve = 80; hash = Sha512; kdf = Sha512; rounds = 256000; tag_len = 64; plain_header = 32; hex_key = false; reads_log = false })
unfolding profile_named profile_from parts setting_named
names_4_header = refl

names_4_hex : profile_named (codes "4:key=hex") ≡ Some (record { version = 4; page_size = 4096; reserve = 80; hash = Sha512; kdf = Sha512; rounds = 256000; tag_len = 64; plain_header = 0; hex_key = true; reads_log = false })
unfolding profile_named profile_from parts setting_named
names_4_hex = refl

names_4_header_hex_wal : profile_named (codes "4:wal:key=hex:plain-header=96") ≡ Some (record { version = 4; page_size = 4096; reserve = 80; hash = Sha512; kdf = Sha512; rounds = 256000; tag_len = 64; plain_header = 96; hex_key = true; reads_log = true })
unfolding profile_named profile_from parts setting_named
names_4_header_hex_wal = refl

prints_4_header_hex_wal : word_of (record { version = 4; page_size = 4096; reserve = 80; hash = Sha512; kdf = Sha512; rounds = 256000; tag_len = 64; plain_header = 96; hex_key = true; reads_log = true })
    ≡ codes "4:plain-header=96:key=hex:wal"
unfolding digits
prints_4_header_hex_wal = refl

names_plain_512 : profile_named (codes "plain:512") ≡ Some (plain_of 512)
unfolding profile_named profile_from parts setting_named
names_plain_512 = refl

names_plain_512_wal : profile_named (codes "plain:512:wal") ≡ Some (with_log (plain_of 512))
unfolding profile_named profile_from parts setting_named
names_plain_512_wal = refl

names_plain_1024 : profile_named (codes "plain:1024") ≡ Some (plain_of 1024)
unfolding profile_named profile_from parts setting_named
names_plain_1024 = refl

names_plain_1024_wal : profile_named (codes "plain:1024:wal") ≡ Some (with_log (plain_of 1024))
unfolding profile_named profile_from parts setting_named
names_plain_1024_wal = refl

names_plain_2048 : profile_named (codes "plain:2048") ≡ Some (plain_of 2048)
unfolding profile_named profile_from parts setting_named
names_plain_2048 = refl

names_plain_2048_wal : profile_named (codes "plain:2048:wal") ≡ Some (with_log (plain_of 2048))
unfolding profile_named profile_from parts setting_named
names_plain_2048_wal = refl

names_plain_4096 : profile_named (codes "plain:4096") ≡ Some (plain_of 4096)
unfolding profile_named profile_from parts setting_named
names_plain_4096 = refl

names_plain_4096_wal : profile_named (codes "plain:4096:wal") ≡ Some (with_log (plain_of 4096))
unfolding profile_named profile_from parts setting_named
names_plain_4096_wal = refl

names_plain_8192 : profile_named (codes "plain:8192") ≡ Some (plain_of 8192)
unfolding profile_named profile_from parts setting_named
names_plain_8192 = refl

names_plain_8192_wal : profile_named (codes "plain:8192:wal") ≡ Some (with_log (plain_of 8192))
unfolding profile_named profile_from parts setting_named
names_plain_8192_wal = refl

names_plain_16384 : profile_named (codes "plain:16384") ≡ Some (plain_of 16384)
unfolding profile_named profile_from parts setting_named
names_plain_16384 = refl

names_plain_16384_wal : profile_named (codes "plain:16384:wal") ≡ Some (with_log (plain_of 16384))
unfolding profile_named profile_from parts setting_named
names_plain_16384_wal = refl

names_plain_32768 : profile_named (codes "plain:32768") ≡ Some (plain_of 32768)
unfolding profile_named profile_from parts setting_named
names_plain_32768 = refl

names_plain_32768_wal : profile_named (codes "plain:32768:wal") ≡ Some (with_log (plain_of 32768))
unfolding profile_named profile_from parts setting_named
names_plain_32768_wal = refl

names_plain_65536 : profile_named (codes "plain:65536") ≡ Some (plain_of 65536)
unfolding profile_named profile_from parts setting_named
names_plain_65536 = refl

names_plain_65536_wal : profile_named (codes "plain:65536:wal") ≡ Some (with_log (plain_of 65536))
unfolding profile_named profile_from parts setting_named
names_plain_65536_wal = refl

no_word_1 : profile_named (codes "") ≡ None
unfolding profile_named profile_from parts setting_named
no_word_1 = refl

no_word_2 : profile_named (codes "5") ≡ None
unfolding profile_named profile_from parts setting_named
no_word_2 = refl

no_word_3 : profile_named (codes "04") ≡ None
unfolding profile_named profile_from parts setting_named
no_word_3 = refl

no_word_4 : profile_named (codes "4:") ≡ None
unfolding profile_named profile_from parts setting_named
no_word_4 = refl

no_word_5 : profile_named (codes "4:04096") ≡ None
unfolding profile_named profile_from parts setting_named
no_word_5 = refl

no_word_6 : profile_named (codes "4:512") ≡ None
unfolding profile_named profile_from parts setting_named
no_word_6 = refl

no_word_7 : profile_named (codes "4:4096:4096") ≡ None
unfolding profile_named profile_from parts setting_named
no_word_7 = refl

no_word_8 : profile_named (codes "plain") ≡ None
unfolding profile_named profile_from parts setting_named
no_word_8 = refl

no_word_9 : profile_named (codes "plain:256") ≡ None
unfolding profile_named profile_from parts setting_named
no_word_9 = refl

no_word_10 : profile_named (codes "plain:4096:rounds=1") ≡ None
unfolding profile_named profile_from parts setting_named
no_word_10 = refl

no_word_11 : profile_named (codes "4:rounds=0") ≡ None
unfolding profile_named profile_from parts setting_named
no_word_11 = refl

no_word_12 : profile_named (codes "4:rounds=2147483648") ≡ None
unfolding profile_named profile_from parts setting_named
no_word_12 = refl

no_word_13 : profile_named (codes "4:hmac=sha2") ≡ None
unfolding profile_named profile_from parts setting_named
no_word_13 = refl

no_word_14 : profile_named (codes "4:kdf=off") ≡ None
unfolding profile_named profile_from parts setting_named
no_word_14 = refl

no_word_15 : profile_named (codes "4:wal:wal") ≡ None
unfolding profile_named profile_from parts setting_named
no_word_15 = refl

no_word_16 : profile_named (codes "4:WAL") ≡ None
unfolding profile_named profile_from parts setting_named
no_word_16 = refl

no_word_17 : profile_named (codes " 4") ≡ None
unfolding profile_named profile_from parts setting_named
no_word_17 = refl

no_word_18 : profile_named (codes "4: 1024") ≡ None
unfolding profile_named profile_from parts setting_named
no_word_18 = refl

no_word_19 : profile_named (codes "4:plain-header=0") ≡ None
unfolding profile_named profile_from parts setting_named
no_word_19 = refl

no_word_20 : profile_named (codes "4:plain-header=20") ≡ None
unfolding profile_named profile_from parts setting_named
no_word_20 = refl

no_word_21 : profile_named (codes "4:plain-header=112") ≡ None
unfolding profile_named profile_from parts setting_named
no_word_21 = refl

no_word_22 : profile_named (codes "4:plain-header=032") ≡ None
unfolding profile_named profile_from parts setting_named
no_word_22 = refl

no_word_23 : profile_named (codes "4:plain-header=") ≡ None
unfolding profile_named profile_from parts setting_named
no_word_23 = refl

no_word_24 : profile_named (codes "1:plain-header=32") ≡ None
unfolding profile_named profile_from parts setting_named
no_word_24 = refl

no_word_25 : profile_named (codes "3:hmac=off:plain-header=32") ≡ None
unfolding profile_named profile_from parts setting_named
no_word_25 = refl

no_word_26 : profile_named (codes "4:plain-header=32:plain-header=32") ≡ None
unfolding profile_named profile_from parts setting_named
no_word_26 = refl

no_word_27 : profile_named (codes "4:key=") ≡ None
unfolding profile_named profile_from parts setting_named
no_word_27 = refl

no_word_28 : profile_named (codes "4:key=text") ≡ None
unfolding profile_named profile_from parts setting_named
no_word_28 = refl

no_word_29 : profile_named (codes "4:key=hex:key=hex") ≡ None
unfolding profile_named profile_from parts setting_named
no_word_29 = refl

no_word_30 : profile_named (codes "plain:4096:plain-header=32") ≡ None
unfolding profile_named profile_from parts setting_named
no_word_30 = refl

no_word_31 : profile_named (codes "plain:4096:key=hex") ≡ None
unfolding profile_named profile_from parts setting_named
no_word_31 = refl

any_order : profile_named (codes "4:kdf=sha1:1024:wal:rounds=4000") ≡ profile_named (codes "4:rounds=4000:kdf=sha1:wal:1024")
unfolding profile_named profile_from parts setting_named
any_order = refl

its_own_size : profile_named (codes "3:1024") ≡ Some sqlcipher_3
unfolding profile_named profile_from parts setting_named
its_own_size = refl
