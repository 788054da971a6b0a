use Rattle.std.proofs.Common.{◌≡◌, ◌≤◌, ℕ, Bool, true, false, Option, Some, None, length, not, unwrap_or, refl, sym, ap, subst, ◌∙◌, arith}
use lib.Pointwise.{bytes_decides, pointwise}
use lib.Dec.{eqb}
use Rattle.edge_model.specs.Files.{File, Files, contents, length_of, main_of}
use Rattle.page_codec.specs.Page.{FileKeys, codec_salt, fits, keys_of}
use Rattle.pager.specs.File.{first_page}
use Rattle.pager.specs.Reads.{then_read}
use Rattle.sqlcipher_tool.proofs.settling.has_other_salt.Goals as goal

own_length : (file : Option File) → unwrap_or (length_of file) 0 ≡ length (contents file)
own_length None = refl
own_length (Some file) = refl

not_both : (b : Bool) → b ≡ true → not b ≡ true → ⊥
not_both true one two = cc
not_both false one two = cc

not_not : (b : Bool) → not b ≡ false → b ≡ true
not_not true is = refl
not_not false is = cc

pub begins_with-requires : goal.begins_with-requires
begins_with-requires g c = record {
  long = λ told.
      let files = g.D.Disk.reads c.args.disk.now in
      let len : c.unwrap_or-length.result ≡ length (main_of files) =
      c.unwrap_or-length.ensures ∙ (ap (λ (o : Option ℕ). unwrap_or o 0) (c.in_ok-file_length.ensures.told told) ∙ own_length files.main) in
      let long : 16 ≤ length (main_of files) = omega (arith, len, c.if-length-from.false, c.from.ensures, c.usable-usable.ensures.laid_out.least) in
      subst (λ (f : Files). 16 ≤ length (main_of f)) (sym (c.file_length.ensures.only_read told).stays) long;
}

pub returns-then-fits-clause-other : goal.returns-then-fits-clause-other
returns-then-fits-clause-other g c = λ told is.
    let d = g.D.Disk in
    let files = d.reads c.args.disk.now in
    let later = d.reads c.begins_with.new.disk in
    let same : later ≡ files = (c.begins_with.ensures.only_read told).stays ∙ (c.file_length.ensures.only_read told).stays in
    let keys = λ (f : Files). keys_of c.args.profile c.args.secret.now (main_of f) in
    let len : c.unwrap_or-length.result ≡ length (main_of files) =
    c.unwrap_or-length.ensures ∙ (ap (λ (o : Option ℕ). unwrap_or o 0) (c.in_ok-file_length.ensures.told told) ∙ own_length files.main) in
    let given : c.as_slice.result.now ≡ codec_salt c.args.profile (main_of files) =
    c.as_slice.ensures ∙ (c.salt.ensures.value ∙ (ap (λ (k : FileKeys). k.salt) (c.in_ok-codec.ensures.codec told) ∙ ap (λ (f : Files). (keys f).salt) same)) in
    record {
      has_page = omega (arith, len, c.if-length-from.false, c.from.ensures);
      opens = sym (c.in_ok-codec.ensures.fits told ∙ ap (λ (f : Files). fits (keys f) (first_page c.args.profile (main_of f))) same) ∙ c.if-fits.true;
      differs = λ equal. not_both (pointwise eqb c.as_slice.result.now c.as_slice-then-fits.result.now)
          ((bytes_decides c.as_slice.result.now c.as_slice-then-fits.result.now).1 (given ∙ (equal ∙ sym c.as_slice-then-fits.ensures))) (sym c.ne.ensures ∙ is);
    }

pub returns-then-fits-clause-own : goal.returns-then-fits-clause-own
returns-then-fits-clause-own g c = λ told is other.
    let d = g.D.Disk in
    let files = d.reads c.args.disk.now in
    let later = d.reads c.begins_with.new.disk in
    let same : later ≡ files = (c.begins_with.ensures.only_read told).stays ∙ (c.file_length.ensures.only_read told).stays in
    let keys = λ (f : Files). keys_of c.args.profile c.args.secret.now (main_of f) in
    let given : c.as_slice.result.now ≡ codec_salt c.args.profile (main_of files) =
    c.as_slice.ensures ∙ (c.salt.ensures.value ∙ (ap (λ (k : FileKeys). k.salt) (c.in_ok-codec.ensures.codec told) ∙ ap (λ (f : Files). (keys f).salt) same)) in
    let equal = (bytes_decides c.as_slice.result.now c.as_slice-then-fits.result.now).0
    (not_not (pointwise eqb c.as_slice.result.now c.as_slice-then-fits.result.now) (sym c.ne.ensures ∙ is)) in
    other.differs (sym given ∙ (equal ∙ c.as_slice-then-fits.ensures))

pub returns-else-fits-clause-only_read : goal.returns-else-fits-clause-only_read
returns-else-fits-clause-only_read g c = λ told.
    then_read (then_read (c.file_length.ensures.only_read told) (c.begins_with.ensures.only_read told)) (c.codec_of.ensures.only_read told)
