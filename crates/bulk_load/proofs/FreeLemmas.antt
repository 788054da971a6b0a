-- A header that is written without a freelist.
use Rattle.std.proofs.Common.{◌≡◌, refl, ap}
use Rattle.std.specs.Int.{w32, to_be_bytes}
use Rattle.db_format.specs.declared.header.Header.{Header}
use Rattle.db_format.specs.Bytes.{u32_at}
use Rattle.db_format.specs.Header.{header_bytes}
use Rattle.bulk_load.specs.Found.{HasNoFreelist}

pub header_free : (header : Header) → header.first_trunk ≡ 0 → header.free_count ≡ 0 → HasNoFreelist (header_bytes header)
header_free header trunk count = record {
  long = refl;
  trunk = ap (λ n. u32_at (to_be_bytes w32 n) 0) trunk;
  count = ap (λ n. u32_at (to_be_bytes w32 n) 0) count;
}
