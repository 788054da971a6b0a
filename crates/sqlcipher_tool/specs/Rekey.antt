-- What `rekey` answers: a defect or a refused page of the earliest part that has one; behind the trees a page in use that is refused,
-- whether a tree has it or not; else how many pages were sealed.
use Rattle.std.specs.Prelude.{ℕ, List, [], ◌∷◌, if◌then◌else◌}
use Rattle.cipher_profile.specs.declared.keys.Secret.{Secret}
use Rattle.cipher_profile.specs.declared.profile.Profile.{Profile}
use Rattle.cipher_profile.specs.Keys.{salt_or}
use Rattle.cipher_profile.specs.Profile.{is_clear}
use Rattle.btree_model.specs.Parts.{first_faults, first_refusals, parts}
use Rattle.db_format.specs.Pages.{Pages}
use Rattle.page_codec.specs.Page.{codec_salt, keys_of, magic}
use Rattle.pager.specs.Pages.{opened_pages}
use Rattle.sqlcipher_tool.specs.Answer.{Answer, done}
use Rattle.sqlcipher_tool.specs.Opening.{opened_with}
use Rattle.sqlcipher_tool.specs.Plain.{refused_in_use}
use Rattle.sqlcipher_tool.specs.Text.{rekeyed_report}
use Rattle.sqlcipher_tool.specs.Verify.{else_answers, opened_answers, stop_answers}

-- the answers on these pages
abbrev pub rekey_due : Pages → List Answer
rekey_due pages =
    else_answers (stop_answers (first_faults (parts pages)) (first_refusals (parts pages)))
    (else_answers (stop_answers [] (refused_in_use pages)) (done (rekeyed_report pages.count) ∷ []))

-- the answers to `rekey` on this file with its secret
abbrev pub rekey_answers : Profile → Secret → List ℕ → List Answer
rekey_answers profile secret file =
    opened_answers (opened_with profile secret file) (λ count. rekey_due (opened_pages (keys_of profile secret file) file count))

-- what the rekeyed file begins with: the salt of the old keys, which stands in the old file or comes with its secret; or the magic, where the
-- new file holds no salt
abbrev pub rekeyed_salt : Profile → Secret → Profile → List ℕ → List ℕ
rekeyed_salt old first new file = if is_clear new then magic else salt_or first (codec_salt old file)
