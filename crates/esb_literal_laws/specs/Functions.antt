-- Functions by the word `function` (ECMA-262, 14.1, 14.4, 14.5, 14.7).
use Rattle.std.specs.Prelude.{ℕ, Bool, true, false, List, Option, Some, None}
use Rattle.esb_token.specs.declared.kind.Kind.TheVariants as k
use Rattle.esb_token.specs.declared.token.Token.{Token}
use Rattle.esb_token.specs.declared.goal.Goal.TheVariants as goal
use Rattle.esb_tree.specs.declared.expressions.Expression.{Expression}
use Rattle.esb_tree.specs.declared.functions.Function.{Function, roll-Function}
use Rattle.esb_tree.specs.declared.patterns.Bracketed.{Bracketed}
use Rattle.esb_tree.specs.declared.statements.Block.{Block}
use Rattle.esb_tree.specs.declared.statements.Statement.{Statement}
use Rattle.esb_grammar.specs.declared.context.Context.{Context}
use Rattle.esb_grammar.specs.Kinds.{is_binding, is_star}
use Rattle.esb_grammar.specs.Words.{is_async}
use Rattle.esb_reader.specs.declared.node.Node.{Node}
use Rattle.esb_reader.specs.Places.{Text}
use Rattle.esb_reader.specs.Reader.{Reader, choose}
use Rattle.esb_reader.specs.Parts.{behind, token, token_in, both, made, optional}
use Rattle.esb_literal_laws.specs.Forks.{fork, guard, second, on_one_line}
use Rattle.esb_literal_laws.specs.Bindings.{parameters}
use Rattle.esb_literal_laws.specs.Methods.{function_context, block}

-- a name that may be absent, parameters and a body
abbrev pub Rest : Type 0
Rest = Option Token × (Bracketed × Block)

abbrev pub make_function : Token × Rest → Function
make_function p = roll-Function (record { async_word = None; word = p.0; star = None; name = p.1.0; parameters = p.1.1.0; body = p.1.1.1 })

abbrev pub make_generator : Token × (Token × Rest) → Function
make_generator p = roll-Function (record { async_word = None; word = p.0; star = Some p.1.0; name = p.1.1.0; parameters = p.1.1.1.0; body = p.1.1.1.1 })

abbrev pub make_async : Token × (Token × Rest) → Function
make_async p = roll-Function (record { async_word = Some p.0; word = p.1.0; star = None; name = p.1.1.0; parameters = p.1.1.1.0; body = p.1.1.1.1 })

abbrev pub make_async_generator : Token × (Token × (Token × Rest)) → Function
make_async_generator p = roll-Function (record { async_word = Some p.0; word = p.1.0; star = Some p.1.1.0; name = p.1.1.1.0; parameters = p.1.1.1.1.0; body = p.1.1.1.1.1 })

-- a name where it has to be there, and else one that may be absent
unfoldable pub own_name : Text → Bool → Reader (Node (Option Token))
own_name text is_named = choose is_named (made Some 0 (token_in text goal.Div (λ t. is_binding t.kind))) (optional text (λ t. is_binding t.kind) (token_in text goal.Div (λ t. is_binding t.kind)))

-- the token behind the next two
abbrev pub third : Text → ℕ → Token
third text i = behind text (second text i).end

module _ (text : Text) (values : Context → ℕ → Reader (Node Expression)) (items : Context → ℕ → Reader (Node (List Statement))) where
  unfoldable pub function_rest : Bool → Context → ℕ → Reader (Node Rest)
  function_rest is_named own n = both (own_name text is_named) (both (parameters text values own n) (block text values items own n))

  unfoldable pub plain_function : Bool → ℕ → Reader (Node Function)
  plain_function is_named n = made make_function 0 (both (token text k.Function) (function_rest is_named (function_context false false) n))

  unfoldable pub generator_function : Bool → ℕ → Reader (Node Function)
  generator_function is_named n = made make_generator 0 (both (token text k.Function) (both (token text k.Star) (function_rest is_named (function_context false true) n)))

  unfoldable pub async_function : Bool → ℕ → Reader (Node Function)
  async_function is_named n = made make_async 0 (both (token_in text goal.Div (is_async text)) (guard (on_one_line text) (both (token text k.Function) (function_rest is_named (function_context true false) n))))

  unfoldable pub async_generator_function : Bool → ℕ → Reader (Node Function)
  async_generator_function is_named n =
      made make_async_generator 0 (both (token_in text goal.Div (is_async text)) (guard (on_one_line text) (both (token text k.Function) (both (token text k.Star) (function_rest is_named (function_context true true) n)))))

  -- FunctionExpression and FunctionDeclaration and their kinds; the flag says that the name has to be there
  unfoldable pub function : Bool → ℕ → Reader (Node Function)
  function is_named n =
      fork (λ i. is_async text (behind text i)) (fork (λ i. is_star (third text i).kind) (async_generator_function is_named n) (async_function is_named n))
      (fork (λ i. is_star (second text i).kind) (generator_function is_named n) (plain_function is_named n))
