use Rattle.std.proofs.Common.{◌<◌, ℕ, List, slice_index_or, subst, sym}
use Rattle.cipher_profile.specs.declared.profile.Profile.{Profile}
use Rattle.cipher_profile.specs.Profile.{IsListed}
use Rattle.profile_word.specs.Tried.{IsNamedByItsWord}
use Rattle.profile_word.proofs.TriedLaws.{each_listed, each_named, tried_same}
use Rattle.profile_word.proofs.tried.probed_profiles.Goals as goal

pub returns-clause-listed : goal.returns-clause-listed
returns-clause-listed c = subst (λ (l : List Profile). (k : ℕ) (d : Profile) → k < 15 → IsListed (slice_index_or l k d))
    (sym (tried_same c.sqlcipher_4_of.result c.sqlcipher_4_of-2.result c.sqlcipher_4_of-3.result c.sqlcipher_4_of-4.result c.sqlcipher_4_of-5.result c.sqlcipher_4_of-6.result
    c.sqlcipher_4_of.ensures c.sqlcipher_4_of-2.ensures c.sqlcipher_4_of-3.ensures c.sqlcipher_4_of-4.ensures c.sqlcipher_4_of-5.ensures c.sqlcipher_4_of-6.ensures))
    each_listed

pub returns-clause-named : goal.returns-clause-named
returns-clause-named c = subst (λ (l : List Profile). (k : ℕ) (d : Profile) → k < 15 → IsNamedByItsWord (slice_index_or l k d))
    (sym (tried_same c.sqlcipher_4_of.result c.sqlcipher_4_of-2.result c.sqlcipher_4_of-3.result c.sqlcipher_4_of-4.result c.sqlcipher_4_of-5.result c.sqlcipher_4_of-6.result
    c.sqlcipher_4_of.ensures c.sqlcipher_4_of-2.ensures c.sqlcipher_4_of-3.ensures c.sqlcipher_4_of-4.ensures c.sqlcipher_4_of-5.ensures c.sqlcipher_4_of-6.ensures))
    each_named
