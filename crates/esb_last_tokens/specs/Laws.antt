-- How expressions end, and what ends them.
use Rattle.std.specs.Prelude.{◌≡◌, ◌||◌, true, false, List, [], ◌∷◌, ℕ}
use Rattle.esb_token.specs.declared.kind.Kind.TheVariants as k
use Rattle.esb_token.specs.declared.token.Token.{Token}
use Rattle.esb_tree.specs.declared.expressions.Expression.{Expression}
use Rattle.esb_tree.specs.declared.expressions.Expression.TheVariants as e
use Rattle.esb_tree.specs.Trees.{written}
use Rattle.esb_tree.specs.Yields.{tokens_of_expression}
use Rattle.esb_grammar.specs.declared.context.Context.{Context}
use Rattle.esb_grammar.specs.Edges.{ends_assignment}
use Rattle.esb_grammar.specs.Grammar.{IsAssignment, IsExpression}
use Rattle.esb_grammar.specs.Kinds.{is_comma, is_update}
use Rattle.esb_grammar.specs.Semicolons.{ends_with, expression_goes_on}
use Rattle.esb_operator_laws.specs.Postfix.{ends_postfix}
use Rattle.esb_assignment_laws.specs.Values.{ends_value}
use Rattle.esb_statement_laws.specs.Marks.{ends_expression}

-- where the last token is `++` or `--`, it is a postfix operator
abbrev pub UpdateIsPostfix : Type 0
UpdateIsPostfix = (text : List ℕ) (c : Context) (x : Expression) → IsExpression text c x → ends_assignment x ≡ false → ends_with is_update (tokens_of_expression written x) ≡ true → ends_postfix x ≡ true

-- A token of the next line ends an AssignmentExpression where it does not go on with it.
abbrev pub NextLineEnds : Type 0
NextLineEnds = (text : List ℕ) (c : Context) (x : Expression) (t : Token) → IsAssignment text c x → t.after_line ≡ true → expression_goes_on x t ≡ false → ends_value c x t ≡ true

-- Closing brackets, `;`, `:`, `,` and the end end each.
abbrev pub KindEnds : Type 0
KindEnds = (c : Context) (x : Expression) (t : Token) → ends_expression t.kind || is_comma t.kind ≡ true → ends_value c x t ≡ true

-- the name `let` alone
abbrev pub LetAlone : Type 0
LetAlone = (text : List ℕ) (c : Context) (x : Expression) (t : Token) → IsExpression text c x → tokens_of_expression written x ≡ t ∷ [] → t.kind ≡ k.Let → x ≡ e.Primary t
