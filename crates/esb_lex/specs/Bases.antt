-- The digits of a base.
use Rattle.std.specs.Prelude.{ℕ, Bool}
use Rattle.esb_token.specs.Characters.{is_digit, is_hex_digit}
use Rattle.esb_token.specs.Numbers.{is_octal_digit, is_binary_digit}
use Rattle.esb_lex.specs.declared.number.Base.{Base}
use Rattle.esb_lex.specs.declared.number.Base.TheVariants as base

abbrev pub is_digit_of : Base → ℕ → Bool
is_digit_of base.Binary c = is_binary_digit c
is_digit_of base.Octal c = is_octal_digit c
is_digit_of base.Decimal c = is_digit c
is_digit_of base.Hexadecimal c = is_hex_digit c
