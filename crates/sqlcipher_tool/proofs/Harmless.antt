-- Bytes that may stand in page 1.
use Rattle.std.proofs.Common.{◌≡◌, inl, ◌≤◌, ◌<◌, ◌+◌, ℕ, List, length, Ok, ap, ◌∙◌, arith}
use Rattle.std.specs.Prelude.{slice_index}
use Rattle.std.specs.Int.{w32, to_be_bytes}
use Rattle.cipher_profile.specs.declared.profile.Profile.{Profile}
use Rattle.db_format.specs.Bytes.{u32_at}
use Rattle.db_format.specs.Header.{header_fields, header_read_as, header_rules_as}
use Rattle.db_format.specs.Rules.{Rule, unless_broken}
use Rattle.db_format.specs.declared.header.Header.{Header}
use Rattle.db_format.specs.declared.header.HeaderRefusal.{HeaderRefusal}
use Rattle.pager.specs.Changed.{with_bytes}
use Rattle.sqlcipher_tool.specs.FirstPage.{IsHarmless}
use Rattle.sqlcipher_tool.specs.Stamp.{field_at}
use Rattle.sqlcipher_tool.specs.declared.command.Field.{Field}
use Rattle.sqlcipher_tool.specs.declared.command.Field.TheVariants.{UserVersion, ApplicationId}
use Rattle.sqlcipher_tool.proofs.ChangedFields.{byte_kept, field_kept, none_broken, rules_same}

-- ---- a stamped field

pub field_place : (field : Field) → (60 ≤ field_at field) × (field_at field ≤ 68)
field_place UserVersion = (omega arith, omega arith)
field_place ApplicationId = (omega arith, omega arith)

-- bytes behind the rules of the header break none
module _ (profile : Profile) (at : ℕ) (bytes plain : List ℕ) (header : Header) (from : 60 ≤ at) (to : at + length bytes ≤ 92) (long : 100 ≤ length plain)
    (was : header_read_as profile.reads_log plain profile.page_size profile.reserve ≡ Ok header) where
  enough : at + length bytes ≤ length plain
  enough = omega (arith, to, long)

  abbrev pub page : List ℕ
  page = with_bytes at bytes plain

  byte : (k : ℕ) → k < 60 → slice_index page k ≡ slice_index plain k
  byte k less = byte_kept at bytes plain enough k (inl (omega (arith, less, from)))

  field : (k : ℕ) → k + 4 ≤ 60 → u32_at page k ≡ u32_at plain k
  field k less = field_kept at bytes plain enough k (inl (omega (arith, less, from)))

  same_rules : header_rules_as profile.reads_log page profile.page_size profile.reserve ≡ header_rules_as profile.reads_log plain profile.page_size profile.reserve
  same_rules =
      let b16 = byte 16 (omega arith) in
      let b17 = byte 17 (omega arith) in
      let b18 = byte 18 (omega arith) in
      let b19 = byte 19 (omega arith) in
      let b20 = byte 20 (omega arith) in
      let b21 = byte 21 (omega arith) in
      let b22 = byte 22 (omega arith) in
      let b23 = byte 23 (omega arith) in
      let f44 = field 44 (omega arith) in
      let f52 = field 52 (omega arith) in
      let f56 = field 56 (omega arith) in
      rules_same profile.reads_log page plain profile.page_size profile.reserve b16 b17 b18 b19 b20 b21 b22 b23 f44 f52 f56

  pub read_behind : header_read_as profile.reads_log page profile.page_size profile.reserve ≡ Ok (header_fields page)
  read_behind =
      ap (λ (rules : List (Rule HeaderRefusal)). unless_broken rules (header_fields page)) same_rules
      ∙ (none_broken (header_rules_as profile.reads_log plain profile.page_size profile.reserve) (header_fields plain) header (header_fields page) was).1

pub field_harmless : (profile : Profile) (field : Field) (value : ℕ) → IsHarmless profile (field_at field) (to_be_bytes w32 value)
field_harmless profile field value =
    let place = field_place field in record {
      low = omega (arith, place.0);
      high = omega (arith, place.1);
      reads = λ plain header long was.
          let high : field_at field + length (to_be_bytes w32 value) ≤ 92 = omega (arith, place.1) in
          (header_fields (with_bytes (field_at field) (to_be_bytes w32 value) plain), read_behind profile (field_at field) (to_be_bytes w32 value) plain header place.0 high long was);
    }
