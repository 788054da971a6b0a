-- What a command that reads the recovered file answers.
use Rattle.std.specs.Prelude.{ℕ, List, [], ◌∷◌}
use Rattle.cipher_profile.specs.declared.keys.Secret.{Secret}
use Rattle.cipher_profile.specs.declared.profile.Profile.{Profile}
use Rattle.db_format.specs.Pages.{Pages}
use Rattle.page_codec.specs.Page.{keys_of}
use Rattle.pager.specs.Pages.{opened_pages}
use Rattle.sqlcipher_tool.specs.Agree.{agree_answers}
use Rattle.sqlcipher_tool.specs.Answer.{Answer}
use Rattle.sqlcipher_tool.specs.Export.{content_answers}
use Rattle.sqlcipher_tool.specs.Find.{find_answers}
use Rattle.sqlcipher_tool.specs.Header.{header_answer}
use Rattle.sqlcipher_tool.specs.Opening.{opened_with}
use Rattle.sqlcipher_tool.specs.Salvage.{salvage_answer}
use Rattle.sqlcipher_tool.specs.Tags.{tags_answer}
use Rattle.sqlcipher_tool.specs.Verify.{opened_answers, pages_answers}
use Rattle.sqlcipher_tool.specs.declared.reading.Job.{Job}
use Rattle.sqlcipher_tool.specs.declared.reading.Job.TheVariants.{Verify, Export, Agree, Find}
use Rattle.sqlcipher_tool.specs.declared.reading.Reading.{Reading}
use Rattle.sqlcipher_tool.specs.declared.reading.Reading.TheVariants.{Tags, Header, Salvage, OnPages}

-- the answers to a job on these pages
abbrev pub job_due : Job → Pages → List Answer
job_due Verify pages = pages_answers pages
job_due Export pages = content_answers pages
job_due Agree pages = agree_answers pages
job_due (Find name low high) pages = find_answers pages name low high

-- the answers to a job on this file with this secret
abbrev pub job_answers : Job → Profile → Secret → List ℕ → List Answer
job_answers job profile secret file =
    opened_answers (opened_with profile secret file) (λ count. job_due job (opened_pages (keys_of profile secret file) file count))

-- the answers to a reading of this file with this secret
abbrev pub reading_answers : Reading → Profile → Secret → List ℕ → List Answer
reading_answers Tags profile secret file = tags_answer profile secret file ∷ []
reading_answers Header profile secret file = header_answer profile secret file ∷ []
reading_answers Salvage profile secret file = salvage_answer profile secret file ∷ []
reading_answers (OnPages job) profile secret file = job_answers job profile secret file
