-- The word `let` alone, before a name.
use Rattle.std.specs.Prelude.{Bool, false, ◌&&◌, ◌||◌}
use Rattle.esb_token.specs.declared.token.Token.{Token}
use Rattle.esb_tree.specs.declared.classes.ClassElement.TheOpen.{Expression-F}
use Rattle.esb_tree.specs.declared.expressions.Expression.{Expression, out-Expression}
use Rattle.esb_grammar.specs.declared.context.Context.{Context}
use Rattle.esb_grammar.specs.Kinds.{is_binding, is_let}
use Rattle.esb_value_laws.specs.Commas.{ends_expression}
use Rattle.esb_value_laws.specs.Covers.{Expression_layer}

abbrev pub let_layer : Expression_layer → Bool
let_layer (Expression-F.Primary t) = is_let t.kind
let_layer _ = false

unfoldable pub is_let_word : Expression → Bool
is_let_word x = let_layer (out-Expression x)

-- what ends an Expression, and a name behind `let`, with which a declaration would begin
abbrev pub ends_with_let : Context → Expression → Token → Bool
ends_with_let c x t = ends_expression c x t || (is_let_word x && is_binding t.kind)
