-- Numbers by their bytes, in hexadecimal as the format's documents write them.
use Rattle.std.specs.Prelude.{◌≡◌, [], ◌∷◌, pos, negsuc, Ok, Err}
use Rattle.codec.specs.declared.parse.fault.NumberFault.TheVariants.{Overlong}
use Rattle.codec.specs.Leb128.{uleb, sleb, read_unsigned, read_signed}

pub record Numbers : Type 0 where
  pub unsigned_127 : uleb 127 ≡ 0x7F ∷ []
  pub unsigned_128 : uleb 128 ≡ 0x80 ∷ 0x01 ∷ []
  pub unsigned_overlong : read_unsigned (0x80 ∷ 0x00 ∷ []) ≡ Err Overlong
  pub signed_63 : sleb (pos 63) ≡ 0x3F ∷ []
  pub signed_64 : sleb (pos 64) ≡ 0xC0 ∷ 0x00 ∷ []
  pub signed_minus_64 : sleb (negsuc 63) ≡ 0x40 ∷ []
  pub signed_minus_65 : sleb (negsuc 64) ≡ 0xBF ∷ 0x7F ∷ []
  pub read_127 : read_unsigned (0x7F ∷ []) ≡ Ok (127, 1)
  pub read_128 : read_unsigned (0x80 ∷ 0x01 ∷ []) ≡ Ok (128, 2)
  pub read_64 : read_signed (0xC0 ∷ 0x00 ∷ []) ≡ Ok (pos 64, 2)
  pub read_minus_65 : read_signed (0xBF ∷ 0x7F ∷ []) ≡ Ok (negsuc 64, 2)
