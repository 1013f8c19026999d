-- What is seen where an expression stands.
use Rattle.std.specs.Prelude.{◌≡◌, ℕ, Bool, true, false, ◌||◌}
use Rattle.esb_token.specs.declared.kind.Kind.{Kind}
use Rattle.esb_token.specs.Tokens.{SpelledBetween}
use Rattle.esb_tree.specs.declared.expressions.Expression.{Expression}
use Rattle.esb_tree.specs.Trees.{written}
use Rattle.esb_tree.specs.Yields.{tokens_of_expression}
use Rattle.esb_grammar.specs.declared.context.Context.{Context}
use Rattle.esb_grammar.specs.Grammar.{IsLeftHandSide, IsAssignment}
use Rattle.esb_reader.specs.Places.{Text}
use Rattle.esb_reader.specs.Parts.{behind}
use Rattle.esb_expression_laws.specs.Lists.{ends_element, is_dots}
use Rattle.esb_operator_laws.specs.Unary.{begins_prefix}
use Rattle.esb_first_tokens.specs.First.{shows}

-- where an expression of some sort stands, such a token is seen
abbrev pub Shows : (Context → Kind → Bool) → (Text → Context → Expression → Type 0) → Type 0
Shows begins Good = (text : Text) (c : Context) (x : Expression) (i j : ℕ) → Good text c x → SpelledBetween text i (tokens_of_expression written x) j → shows (begins c) (behind text i).kind ≡ true

-- none that ends an element of a list, nor `...`
abbrev pub ValueIsNoEnd : Type 0
ValueIsNoEnd = (text : Text) (c : Context) (x : Expression) (i j : ℕ) → IsAssignment text c x → SpelledBetween text i (tokens_of_expression written x) j → (ends_element (behind text i) || is_dots (behind text i).kind) ≡ false

-- and no operator before an operand, where it is a LeftHandSideExpression
abbrev pub LeftIsNoPrefix : Type 0
LeftIsNoPrefix = (text : Text) (c : Context) (x : Expression) (i j : ℕ) → IsLeftHandSide text c x → SpelledBetween text i (tokens_of_expression written x) j → begins_prefix c (behind text i) ≡ false
