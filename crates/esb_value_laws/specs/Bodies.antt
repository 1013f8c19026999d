-- Bodies of arrow functions (ECMA-262, 14.2), over readers of a block and of an AssignmentExpression.
use Rattle.std.specs.Prelude.{ℕ, Bool, not}
use Rattle.esb_token.specs.declared.token.Token.{Token}
use Rattle.esb_tree.specs.declared.expressions.Expression.{Expression}
use Rattle.esb_tree.specs.declared.functions.ConciseBody.{ConciseBody}
use Rattle.esb_tree.specs.declared.functions.ConciseBody.TheVariants as cb
use Rattle.esb_tree.specs.declared.statements.Block.{Block}
use Rattle.esb_tree.specs.Levels.{depth_of_concise_body}
use Rattle.esb_tree.specs.Trees.{written}
use Rattle.esb_tree.specs.Yields.{tokens_of_concise_body}
use Rattle.esb_grammar.specs.declared.context.Context.{Context}
use Rattle.esb_grammar.specs.Grammar.{IsConciseBody}
use Rattle.esb_grammar.specs.Kinds.{is_left_brace}
use Rattle.esb_reader.specs.declared.node.Node.{Node}
use Rattle.esb_reader.specs.Places.{Text}
use Rattle.esb_reader.specs.Reader.{Reader}
use Rattle.esb_reader.specs.Parts.{behind, made, choice}
use Rattle.esb_reader.specs.Stands.{Syntax}
use Rattle.esb_literal_laws.specs.Forks.{guard}

abbrev pub bodies : Text → Context → Syntax ConciseBody
bodies text c = record { yields = tokens_of_concise_body written; levels_of = depth_of_concise_body; Good = IsConciseBody text c }

abbrev pub begins_block : Token → Bool
begins_block t = is_left_brace t.kind

abbrev pub before_no_block : Text → ℕ → Bool
before_no_block text i = not (begins_block (behind text i))

-- a block where `{` is seen, and else a value, which one doesn't begin with
unfoldable pub concise : Text → Reader (Node Block) → Reader (Node Expression) → Reader (Node ConciseBody)
concise text block value = choice text begins_block (made cb.ConciseBlock 0 block) (made cb.ConciseValue 0 (guard (before_no_block text) value))
