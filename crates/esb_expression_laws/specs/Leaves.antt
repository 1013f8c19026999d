-- Expressions of one token (ECMA-262, 12.1 and 12.2).
use Rattle.std.specs.Prelude.{◌≡◌, Bool, true, ◌||◌}
use Rattle.esb_token.specs.declared.kind.Kind.{Kind}
use Rattle.esb_token.specs.declared.goal.Goal.TheVariants as goal
use Rattle.esb_tree.specs.declared.expressions.Expression.{Expression}
use Rattle.esb_tree.specs.declared.expressions.Expression.TheVariants as e
use Rattle.esb_tree.specs.Levels.{depth_of_expression}
use Rattle.esb_tree.specs.Trees.{written}
use Rattle.esb_tree.specs.Yields.{tokens_of_expression}
use Rattle.esb_grammar.specs.declared.context.Context.{Context}
use Rattle.esb_grammar.specs.Edges.{is_token}
use Rattle.esb_grammar.specs.Grammar.{IsPrimary}
use Rattle.esb_grammar.specs.Kinds.{is_reference, is_literal}
use Rattle.esb_reader.specs.declared.node.Node.{Node}
use Rattle.esb_reader.specs.Places.{Text}
use Rattle.esb_reader.specs.Reader.{Reader}
use Rattle.esb_reader.specs.Parts.{made, token_in}
use Rattle.esb_reader.specs.Stands.{Syntax}

-- expressions of some sort, with the tokens that their text spells
abbrev pub expressions : (Expression → Type 0) → Syntax Expression
expressions Good = record { yields = tokens_of_expression written; levels_of = depth_of_expression; Good = Good }

-- `this`, a name, a literal, a regular expression, a template without substitutions
abbrev pub is_leaf : Context → Kind → Bool
is_leaf c kind = is_reference c kind || is_literal kind

-- a PrimaryExpression of one token
abbrev pub IsLeaf : Text → Context → Expression → Type 0
IsLeaf text c x = IsPrimary text c x × (is_token x ≡ true)

abbrev pub leaves : Text → Context → Syntax Expression
leaves text c = expressions (IsLeaf text c)

unfoldable pub leaf : Text → Context → Reader (Node Expression)
leaf text c = made e.Primary 0 (token_in text goal.RegExp (λ t. is_leaf c t.kind))
