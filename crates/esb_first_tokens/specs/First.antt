-- Which tokens expressions begin with.
use Rattle.std.specs.Prelude.{◌≡◌, Bool, true, false, ◌||◌, List, ◌∷◌}
use Rattle.esb_token.specs.declared.kind.Kind.{Kind}
use Rattle.esb_token.specs.declared.kind.Kind.TheVariants as k
use Rattle.esb_token.specs.declared.token.Token.{Token}
use Rattle.esb_token.specs.Goals.{is_division}
use Rattle.esb_grammar.specs.declared.context.Context.{Context}
use Rattle.esb_expression_laws.specs.Leaves.{is_leaf}
use Rattle.esb_operator_laws.specs.Unary.{is_prefix}

-- PrimaryExpressions of more than one token; an async function begins with a name
abbrev pub opens_primary : Kind → Bool
opens_primary k.LeftParenthesis = true
opens_primary k.LeftBracket = true
opens_primary k.LeftBrace = true
opens_primary k.TemplateHead = true
opens_primary k.Function = true
opens_primary k.Class = true
opens_primary _ = false

-- a PrimaryExpression (12.2)
abbrev pub begins_primary : Context → Kind → Bool
begins_primary c kind = is_leaf c kind || opens_primary kind

abbrev pub opens_left : Kind → Bool
opens_left k.New = true
opens_left k.Import = true
opens_left k.Super = true
opens_left _ = false

-- a LeftHandSideExpression (12.3)
abbrev pub begins_left : Context → Kind → Bool
begins_left c kind = begins_primary c kind || opens_left kind

abbrev pub is_yield_in : Context → Kind → Bool
is_yield_in c k.Yield = c.has_yield
is_yield_in c _ = false

-- a UnaryExpression (12.5)
abbrev pub begins_unary : Context → Kind → Bool
begins_unary c kind = begins_left c kind || is_prefix c kind

-- an AssignmentExpression (12.15)
abbrev pub begins_value : Context → Kind → Bool
begins_value c kind = begins_unary c kind || is_yield_in c kind

-- tokens of which the first passes a test
pub record Begins (test : Kind → Bool) (ts : List Token) : Type 0 where
  pub first : Token
  pub rest : List Token
  pub is : ts ≡ first ∷ rest
  pub kind : test first.kind ≡ true

-- the kinds that are seen under Div where tokens stand of which the first passes a test
abbrev pub shows : (Kind → Bool) → Kind → Bool
shows test kind = is_division kind || test kind
