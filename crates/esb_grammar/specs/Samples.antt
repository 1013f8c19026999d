-- Small trees that the grammar has, and others that it has not. They are over names without places.
use Rattle.std.specs.Prelude.{ℕ, true, false, List, [], ◌∷◌}
use Rattle.esb_token.specs.declared.kind.Kind.{Kind}
use Rattle.esb_token.specs.declared.kind.Kind.TheVariants as k
use Rattle.esb_token.specs.declared.token.Token.{Token}
use Rattle.esb_tree.specs.declared.expressions.Expression.{Expression}
use Rattle.esb_tree.specs.declared.expressions.Expression.TheVariants as e
use Rattle.esb_tree.specs.declared.expressions.Link.TheVariants as l
use Rattle.esb_tree.specs.declared.expressions.Operand.{Operand, roll-Operand}
use Rattle.esb_tree.specs.declared.functions.ConciseBody.TheVariants as cb
use Rattle.esb_tree.specs.declared.patterns.Bracketed.{Bracketed, roll-Bracketed}
use Rattle.esb_tree.specs.declared.patterns.Element.{Element}
use Rattle.esb_tree.specs.declared.patterns.Element.TheVariants as el
use Rattle.esb_tree.specs.declared.patterns.Elements.{roll-Elements}
use Rattle.esb_tree.specs.declared.patterns.NextElement.{NextElement, roll-NextElement}
use Rattle.esb_grammar.specs.declared.context.Context.{Context}
use Rattle.esb_grammar.specs.declared.form.Form.{Form}
use Rattle.esb_grammar.specs.declared.form.Form.TheVariants as f
use Rattle.esb_grammar.specs.Contexts.{of_module, without_in}
use Rattle.esb_grammar.specs.Forms.{opener, closer}
use Rattle.esb_grammar.specs.Grammar.{IsAssignment}

abbrev pub t : Kind → Token
t kind = record { kind = kind; start = 0; end = 0; after_line = false }

-- behind a line terminator
abbrev pub line : Kind → Token
line kind = record { kind = kind; start = 0; end = 0; after_line = true }

-- any name
abbrev pub a : Expression
a = e.Primary (t k.Name)

abbrev pub number : Expression
number = e.Primary (t k.Number)

abbrev pub by : Kind → Expression → Operand
by kind x = roll-Operand (record { operator = t kind; value = x })

-- a list in the brackets of a form
abbrev pub listed : Form → Element → List NextElement → Bracketed
listed form first rest = roll-Bracketed (record { begin = t (opener form); list = roll-Elements (record { first = first; rest = rest }); ending = t (closer form) })

abbrev pub then : Element → NextElement
then x = roll-NextElement (record { comma = t k.Comma; element = x })

-- `a.a`
abbrev pub a_member : Expression
a_member = e.Member a (l.Dot (t k.Dot) (t k.Name) ∷ [])

abbrev pub arrow : Expression → Token → Expression
arrow parameters sign = e.Arrow parameters sign (cb.ConciseValue a)

abbrev pub of_generator : Context
of_generator = record { has_in = true; has_yield = true; has_await = false }

abbrev pub of_async : Context
of_async = record { has_in = true; has_yield = false; has_await = true }

-- a tree that a text of any bytes may have
abbrev pub Has : Context → Expression → Type 0
Has c x = (text : List ℕ) → IsAssignment text c x

-- one that no text has
abbrev pub HasNot : Context → Expression → Type 0
HasNot c x = (text : List ℕ) → IsAssignment text c x → ⊥

abbrev pub power_of_minus : Expression
power_of_minus = e.Binary (e.Unary (t k.Minus) a) (by k.StarStar a ∷ [])

pub record HasExpressions : Type 0 where
  -- a ? a : a
  pub conditional : Has of_module (e.Conditional a (t k.Question) a (t k.Colon) a)
  -- a + a - a
  pub sums : Has of_module (e.Binary a (by k.Plus a ∷ by k.Minus a ∷ []))
  -- a ** -a
  pub power : Has of_module (e.Binary a (by k.StarStar (e.Unary (t k.Minus) a) ∷ []))
  -- (-a) ** a
  pub power_of_parentheses : Has of_module (e.Binary (e.Parenthesized (listed f.Values (el.Value (e.Unary (t k.Minus) a)) [])) (by k.StarStar a ∷ []))
  -- a ?? a ?? a
  pub coalesce : Has of_module (e.Binary a (by k.QuestionQuestion a ∷ by k.QuestionQuestion a ∷ []))
  -- a || a && a
  pub or_and : Has of_module (e.Binary a (by k.BarBar (e.Binary a (by k.AndAnd a ∷ [])) ∷ []))
  -- a in a
  pub in_operator : Has of_module (e.Binary a (by k.In a ∷ []))
  -- () => a
  pub arrow_of_none : Has of_module (arrow (e.Parenthesized (listed f.Parameters el.Hole [])) (t k.Arrow))
  -- (a, ...a) => a
  pub arrow_of_rest : Has of_module (arrow (e.Parenthesized (listed f.Parameters (el.Value a) (then (el.Spread (t k.Ellipsis) a) ∷ []))) (t k.Arrow))
  -- [a, , ...a]
  pub array : Has of_module (e.ArrayLiteral (listed f.Array (el.Value a) (then el.Hole ∷ then (el.Spread (t k.Ellipsis) a) ∷ [])))
  -- {a, a = 1,}, which may be a pattern
  pub object : Has of_module (e.ObjectLiteral (listed f.Object (el.Shorthand (t k.Name)) (then (el.Initialized (t k.Name) (t k.Assign) number) ∷ then el.Hole ∷ [])))
  -- a.a(a)[a]
  pub members : Has of_module (e.Member a (l.Dot (t k.Dot) (t k.Name) ∷ l.Call (listed f.Arguments (el.Value a) []) ∷ l.Index (t k.LeftBracket) a (t k.RightBracket) ∷ []))
  -- a?.a.a
  pub optional : Has of_module (e.Member a (l.OptionalDot (t k.QuestionDot) (t k.Name) ∷ l.Dot (t k.Dot) (t k.Name) ∷ []))
  -- new a.a()
  pub new_member : Has of_module (e.New (t k.New) a_member (listed f.Arguments el.Hole []))
  -- super.a
  pub super_property : Has of_module (e.Member (e.Primary (t k.Super)) (l.Dot (t k.Dot) (t k.Name) ∷ []))
  -- 1 = a, which has no target
  pub assignment : Has of_module (e.Assignment number (t k.Assign) a)
  -- yield, where it is an operator
  pub yield_alone : Has of_generator (e.Yield (t k.Yield))
  -- await a, where it is an operator
  pub awaited : Has of_async (e.Await (t k.Await) a)
  -- await, where it is none
  pub await_name : Has of_module (e.Primary (t k.Await))

pub record HasNoExpressions : Type 0 where
  -- -a ** a
  pub power : HasNot of_module power_of_minus
  -- a ?? a || a
  pub mixed : HasNot of_module (e.Binary a (by k.QuestionQuestion (e.Binary a (by k.BarBar a ∷ [])) ∷ []))
  -- a in a, in the head of a `for`
  pub in_operator : HasNot (without_in of_module) (e.Binary a (by k.In a ∷ []))
  -- ()
  pub no_value : HasNot of_module (e.Parenthesized (listed f.Values el.Hole []))
  -- (a,)
  pub comma : HasNot of_module (e.Parenthesized (listed f.Values (el.Value a) (then el.Hole ∷ [])))
  -- (...a)
  pub spread : HasNot of_module (e.Parenthesized (listed f.Values (el.Spread (t k.Ellipsis) a) []))
  -- (1) => a
  pub parameter : HasNot of_module (arrow (e.Parenthesized (listed f.Parameters (el.Value number) [])) (t k.Arrow))
  -- (...a, a) => a
  pub rest_first : HasNot of_module (arrow (e.Parenthesized (listed f.Parameters (el.Spread (t k.Ellipsis) a) (then (el.Value a) ∷ []))) (t k.Arrow))
  -- a, a line terminator, => a
  pub arrow_on_next_line : HasNot of_module (arrow a (line k.Arrow))
  -- a + a = a
  pub target : HasNot of_module (e.Assignment (e.Binary a (by k.Plus a ∷ [])) (t k.Assign) a)
  -- yield, where it is no operator
  pub yield_alone : HasNot of_module (e.Yield (t k.Yield))
  -- await a, where it is none
  pub awaited : HasNot of_module (e.Await (t k.Await) a)
  -- {,}
  pub holes : HasNot of_module (e.ObjectLiteral (listed f.Object el.Hole (then el.Hole ∷ [])))
  -- a(,)
  pub arguments : HasNot of_module (e.Member a (l.Call (listed f.Arguments el.Hole (then el.Hole ∷ [])) ∷ []))
  -- a?.a, and a template
  pub tagged : HasNot of_module (e.Member a (l.OptionalDot (t k.QuestionDot) (t k.Name) ∷ l.Tagged (t k.TemplateWhole) ∷ []))
  -- new a?.a
  pub new_optional : HasNot of_module (e.NewPlain (t k.New) (e.Member a (l.OptionalDot (t k.QuestionDot) (t k.Name) ∷ [])))
  -- super
  pub super_alone : HasNot of_module (e.Primary (t k.Super))
  -- a, a line terminator, ++
  pub update_on_next_line : HasNot of_module (e.PostfixUpdate a (line k.PlusPlus))
