use Rattle.std.proofs.Common.{ℕ, List, [], ◌∷◌, ◌++◌, replicate, codes, ap, ◌∙◌}
use Rattle.std.specs.Int.{w16, w32, to_be_bytes}
use Rattle.std.specs.List.{splice}
use Rattle.db_format.proofs.HeaderLemmas.{FitsWords, header_read-header_bytes}
use Rattle.db_format.proofs.header.write_header.Goals as goal

-- the writes one over another, from the last to the first; then both sides compute to the same hundred bytes
pub returns-clause-bytes : goal.returns-clause-bytes
returns-clause-bytes c =
    let header = c.args.header.now in
    c.put_u32-12.ensures.bytes ∙ ap (λ (o : List ℕ). splice o 96 100 (to_be_bytes w32 header.sqlite_number)) (
    c.put_u32-11.ensures.bytes ∙ ap (λ (o : List ℕ). splice o 92 96 (to_be_bytes w32 header.valid_for)) (
    c.put_u32-10.ensures.bytes ∙ ap (λ (o : List ℕ). splice o 68 72 (to_be_bytes w32 header.application_id)) (
    c.put_u32-9.ensures.bytes ∙ ap (λ (o : List ℕ). splice o 60 64 (to_be_bytes w32 header.user_version)) (
    c.put_u32-8.ensures.bytes ∙ ap (λ (o : List ℕ). splice o 56 60 (to_be_bytes w32 header.encoding)) (
    c.put_u32-7.ensures.bytes ∙ ap (λ (o : List ℕ). splice o 48 52 (to_be_bytes w32 header.cache)) (
    c.put_u32-6.ensures.bytes ∙ ap (λ (o : List ℕ). splice o 44 48 (to_be_bytes w32 header.format)) (
    c.put_u32-5.ensures.bytes ∙ ap (λ (o : List ℕ). splice o 40 44 (to_be_bytes w32 header.cookie)) (
    c.put_u32-4.ensures.bytes ∙ ap (λ (o : List ℕ). splice o 36 40 (to_be_bytes w32 header.free_count)) (
    c.put_u32-3.ensures.bytes ∙ ap (λ (o : List ℕ). splice o 32 36 (to_be_bytes w32 header.first_trunk)) (
    c.put_u32-2.ensures.bytes ∙ ap (λ (o : List ℕ). splice o 28 32 (to_be_bytes w32 header.size_field)) (
    c.put_u32.ensures.bytes ∙ ap (λ (o : List ℕ). splice o 24 28 (to_be_bytes w32 header.change)) (
    c.put-2.ensures ∙ ap (λ (o : List ℕ). splice o 18 24 (1 ∷ 1 ∷ header.reserve ∷ 64 ∷ 32 ∷ 32 ∷ [])) (
    c.put_u16.ensures ∙ ap (λ (o : List ℕ). splice o 16 18 (to_be_bytes w16 c.stored_page_size.result)) c.put.ensures
    ∙ ap (λ (n : ℕ). splice (splice (replicate 100 0) 0 16 (codes "SQLite format 3" ++ 0 ∷ [])) 16 18 (to_be_bytes w16 n))
    c.stored_page_size.ensures)))))))))))))

pub returns-clause-reads_back : goal.returns-clause-reads_back
returns-clause-reads_back c =
    let fits : FitsWords c.args.header.now = record {
      change = c.put_u32.ensures.fits;
      size_field = c.put_u32-2.ensures.fits;
      first_trunk = c.put_u32-3.ensures.fits;
      free_count = c.put_u32-4.ensures.fits;
      cookie = c.put_u32-5.ensures.fits;
      format = c.put_u32-6.ensures.fits;
      cache = c.put_u32-7.ensures.fits;
      encoding = c.put_u32-8.ensures.fits;
      user_version = c.put_u32-9.ensures.fits;
      application_id = c.put_u32-10.ensures.fits;
      valid_for = c.put_u32-11.ensures.fits;
      sqlite_number = c.put_u32-12.ensures.fits;
    } in
    let back = header_read-header_bytes c.args.header.now c.requires.page_size fits c.requires.format c.requires.encoding in
    rw (returns-clause-bytes c) back
