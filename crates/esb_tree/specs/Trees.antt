-- The tokens of a module, with the semicolons that were left out and without them.
use Rattle.std.specs.Prelude.{false, [], ◌∷◌, Some, None}
use Rattle.esb_token.specs.declared.kind.Kind.TheVariants as k
use Rattle.esb_token.specs.declared.token.Token.{Token}
use Rattle.esb_tree.specs.Yields.{Marking}

-- what stands for a semicolon that was left out
abbrev pub left_out : Token
left_out = record { kind = k.Semicolon; start = 0; end = 0; after_line = false }

-- the tokens that the text spells
abbrev pub written : Marking
written None = []
written (Some t) = t ∷ []

-- these, with each semicolon that was left out
abbrev pub completed : Marking
completed None = left_out ∷ []
completed (Some t) = t ∷ []
