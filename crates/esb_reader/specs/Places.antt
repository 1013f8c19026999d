-- The token at a place of a text.
use Rattle.std.specs.Prelude.{ℕ, false, if◌then◌else◌, nat_le, List, length, Option, Some, None, Result, Ok, Err}
use Rattle.esb_token.specs.declared.kind.Kind.TheVariants as k
use Rattle.esb_token.specs.declared.token.Token.{Token}
use Rattle.esb_token.specs.declared.goal.Goal.{Goal}
use Rattle.esb_token.specs.Tokens.{next}

-- the bytes of a text
abbrev pub Text : Type 0
Text = List ℕ

abbrev pub if_read : Result Token ℕ → Option Token
if_read (Ok t) = Some t
if_read (Err at) = None

-- the next token from a place of a text on, if one of the goal stands there
unfoldable pub token_at : Text → Goal → ℕ → Option Token
token_at text g at = if nat_le at (length text) then if_read (next text at g) else None

-- what is seen where there is no token
abbrev pub nothing : Token
nothing = record { kind = k.End; start = 0; end = 0; after_line = false }

abbrev pub or_nothing : Option Token → Token
or_nothing None = nothing
or_nothing (Some t) = t

-- the token that is seen from a place under a goal
unfoldable pub peek : Text → Goal → ℕ → Token
peek text g at = or_nothing (token_at text g at)
