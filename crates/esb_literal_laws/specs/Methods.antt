-- Methods (ECMA-262, 14.3 to 14.5, 14.7), and bodies of functions.
use Rattle.std.specs.Prelude.{ℕ, Bool, true, false, ◌&&◌, ◌||◌, List, Some, None, codes}
use Rattle.esb_token.specs.declared.kind.Kind.TheVariants as k
use Rattle.esb_token.specs.declared.token.Token.{Token}
use Rattle.esb_token.specs.declared.goal.Goal.TheVariants as goal
use Rattle.esb_tree.specs.declared.expressions.Expression.{Expression}
use Rattle.esb_tree.specs.declared.functions.Method.{Method, roll-Method}
use Rattle.esb_tree.specs.declared.patterns.Bracketed.{Bracketed}
use Rattle.esb_tree.specs.declared.patterns.PropertyName.{PropertyName}
use Rattle.esb_tree.specs.declared.statements.Block.{Block, roll-Block}
use Rattle.esb_tree.specs.declared.statements.Statement.{Statement}
use Rattle.esb_grammar.specs.declared.context.Context.{Context}
use Rattle.esb_grammar.specs.Kinds.{is_property_word, is_left_bracket, is_star}
use Rattle.esb_grammar.specs.Words.{is_word, is_async}
use Rattle.esb_reader.specs.declared.node.Node.{Node}
use Rattle.esb_reader.specs.Places.{Text}
use Rattle.esb_reader.specs.Reader.{Reader}
use Rattle.esb_reader.specs.Parts.{behind, token, token_in, both, made, above, choice}
use Rattle.esb_literal_laws.specs.Forks.{fork, guard, second, on_one_line}
use Rattle.esb_literal_laws.specs.Names.{property_name}
use Rattle.esb_literal_laws.specs.Bindings.{parameters}

-- the context of a function that is async, and of a generator
abbrev pub function_context : Bool → Bool → Context
function_context is_async_function is_generator = record { has_in = true; has_yield = is_generator; has_await = is_async_function }

-- `get` or `set`
abbrev pub is_accessor : List ℕ → Token → Bool
is_accessor text t = is_word text (codes "get") t || is_word text (codes "set") t

-- what goes on with a method behind its word
abbrev pub begins_name : Token → Bool
begins_name t = is_property_word t.kind || (is_left_bracket t.kind || is_star t.kind)

abbrev pub make_block : Token × (List Statement × Token) → Block
make_block p = roll-Block (record { begin = p.0; body = p.1.0; ending = p.1.1 })

-- a name, parameters and a body
abbrev pub Definition : Type 0
Definition = PropertyName × (Bracketed × Block)

abbrev pub make_plain : Definition → Method
make_plain p = roll-Method (record { word = None; star = None; name = p.0; parameters = p.1.0; body = p.1.1 })

abbrev pub make_starred : Token × Definition → Method
make_starred p = roll-Method (record { word = None; star = Some p.0; name = p.1.0; parameters = p.1.1.0; body = p.1.1.1 })

abbrev pub make_worded : Token × Definition → Method
make_worded p = roll-Method (record { word = Some p.0; star = None; name = p.1.0; parameters = p.1.1.0; body = p.1.1.1 })

abbrev pub make_worded_starred : Token × (Token × Definition) → Method
make_worded_starred p = roll-Method (record { word = Some p.0; star = Some p.1.0; name = p.1.1.0; parameters = p.1.1.1.0; body = p.1.1.1.1 })

-- whether a method with a word before its name stands at a place
unfoldable pub at_word : Text → ℕ → Bool
at_word text i = (is_async text (behind text i) || is_accessor text (behind text i)) && begins_name (second text i)

-- ---- the readers, where `items` reads a StatementList in a context within the levels below a number

module _ (text : Text) (values : Context → ℕ → Reader (Node Expression)) (items : Context → ℕ → Reader (Node (List Statement))) where
  unfoldable pub block : Context → ℕ → Reader (Node Block)
  block c n = made make_block 0 (both (token text k.LeftBrace) (both (items c n) (token text k.RightBrace)))

  -- a name in the one context, and parameters and a body in the other
  unfoldable pub definition : Context → Context → ℕ → Reader (Node Definition)
  definition c own n = both (property_name text values c n) (both (parameters text values own n) (block own n))

  unfoldable pub plain_method : Context → ℕ → Reader (Node Method)
  plain_method c n = above n make_plain (definition c (function_context false false) n)

  unfoldable pub generator_method : Context → ℕ → Reader (Node Method)
  generator_method c n = above n make_starred (both (token text k.Star) (definition c (function_context false true) n))

  unfoldable pub accessor : Context → ℕ → Reader (Node Method)
  accessor c n = above n make_worded (both (token_in text goal.Div (is_accessor text)) (definition c (function_context false false) n))

  unfoldable pub async_method : Context → ℕ → Reader (Node Method)
  async_method c n = above n make_worded (both (token_in text goal.Div (is_async text)) (guard (on_one_line text) (definition c (function_context true false) n)))

  unfoldable pub async_generator_method : Context → ℕ → Reader (Node Method)
  async_generator_method c n =
      above n make_worded_starred (both (token_in text goal.Div (is_async text)) (guard (on_one_line text) (both (token text k.Star) (definition c (function_context true true) n))))

  unfoldable pub worded_method : Context → ℕ → Reader (Node Method)
  worded_method c n = fork (λ i. is_async text (behind text i)) (fork (λ i. is_star (second text i).kind) (async_generator_method c n) (async_method c n)) (accessor c n)

  -- MethodDefinition
  unfoldable pub method : Context → ℕ → Reader (Node Method)
  method c n = fork (at_word text) (worded_method c n) (choice text (λ t. is_star t.kind) (generator_method c n) (plain_method c n))
