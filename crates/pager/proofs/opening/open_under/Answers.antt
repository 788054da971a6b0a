use Rattle.std.proofs.Common.{◌≡◌, ◌⊎◌, ◌∙◌, List, ℕ, None, Result, Ok, Err, IfErr, IfOk, IsTrue, inr, ap, subst}
use Rattle.cipher_profile.specs.declared.profile.Profile.{Profile}
use Rattle.edge_model.specs.Files.{main_of}
use Rattle.page_codec.specs.Page.{FileKeys}
use Rattle.pager.specs.declared.opening.Counted.{Counted}
use Rattle.pager.specs.declared.opening.OpenError.{OpenError}
use Rattle.pager.specs.declared.opening.OpenError.TheVariants.{DiskFault}
use Rattle.pager.specs.File.{first_page}
use Rattle.pager.specs.Opening.{file_opened, first_broken, first_opened, length_rules}
use Rattle.pager.proofs.OpeningLemmas.{opened_by}
use Rattle.pager.proofs.opening.open_under.Goals as goal

-- what page 1 comes to is what the file comes to
refused_so : (keys : FileKeys) (main page : List ℕ) (len : ℕ) (told : Type 0) (r : Result Counted OpenError)
    → (told → file_opened keys main ≡ first_opened keys page len) → IfErr r (λ error. first_opened keys page len ≡ Err error)
    → IfErr r (λ error. told → (error ≡ DiskFault) ⊎ (file_opened keys main ≡ Err error))
refused_so keys main page len told (Ok found) same is = tt
refused_so keys main page len told (Err error) same is = λ t. inr (same t ∙ is)

pub returns-clause-refused : goal.returns-clause-refused
returns-clause-refused g c =
    let keys = c.args.codec.now in
    let main = main_of (g.D.Disk.reads c.args.disk.now) in
    let page = c.read_first.new.page in
    let read = c.in_ok-len.ensures in
    let own = c.profile-profile.ensures.value in
    refused_so keys main page c.in_ok-len.len (IsTrue g.D.Disk.tells) c.open_first.result
    (λ told. opened_by keys main page c.in_ok-len.len
    (subst (λ (p : Profile). first_broken (length_rules p.page_size main) ≡ None) own (read.passed told))
    (read.read told ∙ ap (λ (p : Profile). first_page p main) own) (read.told told))
    c.open_first.ensures.refused

opened_so : (keys : FileKeys) (main page : List ℕ) (len : ℕ) (told : Type 0) (r : Result Counted OpenError)
    → (told → file_opened keys main ≡ first_opened keys page len)
    → IfOk r (λ found. first_opened keys page len ≡ Ok (record { header = found.header; count = found.count }))
    → IfOk r (λ found. told → file_opened keys main ≡ Ok (record { header = found.header; count = found.count }))
opened_so keys main page len told (Ok found) same is = λ t. same t ∙ is
opened_so keys main page len told (Err error) same is = tt

pub returns-clause-opens : goal.returns-clause-opens
returns-clause-opens g c =
    let keys = c.args.codec.now in
    let main = main_of (g.D.Disk.reads c.args.disk.now) in
    let page = c.read_first.new.page in
    let read = c.in_ok-len.ensures in
    let own = c.profile-profile.ensures.value in
    opened_so keys main page c.in_ok-len.len (IsTrue g.D.Disk.tells) c.open_first.result
    (λ told. opened_by keys main page c.in_ok-len.len
    (subst (λ (p : Profile). first_broken (length_rules p.page_size main) ≡ None) own (read.passed told))
    (read.read told ∙ ap (λ (p : Profile). first_page p main) own) (read.told told))
    c.open_first.ensures.opens
