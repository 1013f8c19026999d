-- The last token of tokens.
use Rattle.std.specs.Prelude.{[], ◌∷◌}
use Rattle.esb_token.specs.declared.token.Token.{Token}
use Rattle.esb_tree.specs.Yields.{Tokens}

-- the last of tokens that stand behind one
abbrev pub last_or : Token → Tokens → Token
last_or before [] = before
last_or before (t ∷ ts) = last_or t ts
