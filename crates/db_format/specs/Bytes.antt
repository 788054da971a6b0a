-- Big-endian numbers by their place in a list of bytes.
pub use Rattle.number_fields.specs.Fields.{u8_at, u16_at, u32_at}
