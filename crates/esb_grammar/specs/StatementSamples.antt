-- Small statements that the grammar has, and others that it has not.
use Rattle.std.specs.Prelude.{ℕ, List, [], ◌∷◌, Option, Some, None}
use Rattle.esb_token.specs.declared.kind.Kind.{Kind}
use Rattle.esb_token.specs.declared.kind.Kind.TheVariants as k
use Rattle.esb_token.specs.declared.token.Token.{Token}
use Rattle.esb_tree.specs.declared.classes.Class.{Class, roll-Class}
use Rattle.esb_tree.specs.declared.classes.Heritage.TheVariants as he
use Rattle.esb_tree.specs.declared.expressions.Expression.{Expression}
use Rattle.esb_tree.specs.declared.expressions.Expression.TheVariants as e
use Rattle.esb_tree.specs.declared.functions.Function.{Function, roll-Function}
use Rattle.esb_tree.specs.declared.patterns.Element.TheVariants as el
use Rattle.esb_tree.specs.declared.patterns.Elements.{roll-Elements}
use Rattle.esb_tree.specs.declared.statements.Block.{Block, roll-Block}
use Rattle.esb_tree.specs.declared.statements.CaseClause.TheVariants as cc
use Rattle.esb_tree.specs.declared.statements.Declaration.{Declaration, roll-Declaration}
use Rattle.esb_tree.specs.declared.statements.Else.TheVariants as ot
use Rattle.esb_tree.specs.declared.statements.ElseIf.{roll-ElseIf}
use Rattle.esb_tree.specs.declared.statements.Finalizer.TheVariants as fi
use Rattle.esb_tree.specs.declared.statements.ForStart.TheVariants as fs
use Rattle.esb_tree.specs.declared.statements.Handler.TheVariants as ha
use Rattle.esb_tree.specs.declared.statements.IfClause.{IfClause, roll-IfClause}
use Rattle.esb_tree.specs.declared.statements.MaybeExpression.TheVariants as me
use Rattle.esb_tree.specs.declared.statements.Statement.{Statement}
use Rattle.esb_tree.specs.declared.statements.Statement.TheVariants as s
use Rattle.esb_grammar.specs.declared.form.Form.TheVariants as f
use Rattle.esb_grammar.specs.Contexts.{of_module}
use Rattle.esb_grammar.specs.Grammar.{IsItem, IsStatement}
use Rattle.esb_grammar.specs.Samples.{t, line, a, number, listed}

abbrev pub semicolon : Option Token
semicolon = Some (t k.Semicolon)

-- `;`
abbrev pub nothing : Statement
nothing = s.Empty (t k.Semicolon)

-- `{}`
abbrev pub block : Block
block = roll-Block (record { begin = t k.LeftBrace; body = []; ending = t k.RightBrace })

-- a word and one binding
abbrev pub bound : Kind → Expression → Declaration
bound kind x = roll-Declaration (record { word = t kind; bindings = roll-Elements (record { first = el.Value x; rest = [] }) })

-- `function a() {}`
abbrev pub function : Function
function = roll-Function (record { async_word = None; word = t k.Function; star = None; name = Some (t k.Name); parameters = listed f.Parameters el.Hole []; body = block })

-- `function () {}`
abbrev pub nameless : Function
nameless = roll-Function (record { async_word = None; word = t k.Function; star = None; name = None; parameters = listed f.Parameters el.Hole []; body = block })

-- `class a {}`
abbrev pub class : Class
class = roll-Class (record { word = t k.Class; name = Some (t k.Name); heritage = he.NoHeritage; begin = t k.LeftBrace; elements = []; ending = t k.RightBrace })

-- `if (a)` and a statement
abbrev pub clause : Statement → IfClause
clause body = roll-IfClause (record { word = t k.If; begin = t k.LeftParenthesis; condition = a; ending = t k.RightParenthesis; body = body })

-- a statement that a text of any bytes may have
abbrev pub Has : Statement → Type 0
Has x = (text : List ℕ) → IsStatement text of_module x

-- a statement or a declaration
abbrev pub HasItem : Statement → Type 0
HasItem x = (text : List ℕ) → IsItem text of_module x

abbrev pub HasNot : Statement → Type 0
HasNot x = (text : List ℕ) → IsStatement text of_module x → ⊥

abbrev pub HasNoItem : Statement → Type 0
HasNoItem x = (text : List ℕ) → IsItem text of_module x → ⊥

pub record HasStatements : Type 0 where
  -- a;
  pub expression : Has (s.ExpressionStatement a semicolon)
  -- if (a) ; else if (a) ; else ;
  pub if_chain : Has (s.If (clause nothing) (roll-ElseIf (record { else_word = t k.Else; clause = clause nothing }) ∷ []) (ot.Otherwise (t k.Else) nothing))
  -- for (;;) ;
  pub for_ever : Has (s.For (t k.For) (t k.LeftParenthesis) fs.NoStart (t k.Semicolon) me.Absent (t k.Semicolon) me.Absent (t k.RightParenthesis) nothing)
  -- for (let a in a) ;
  pub for_in : Has (s.ForEach (t k.For) None (t k.LeftParenthesis) (fs.StartDeclaration (bound k.Let a)) (t k.In) a (t k.RightParenthesis) nothing)
  -- while (a) {}
  pub loop : Has (s.While (t k.While) (t k.LeftParenthesis) a (t k.RightParenthesis) (s.BlockStatement block))
  -- try {} catch {}
  pub handled : Has (s.Try (t k.Try) block (ha.Catch (t k.Catch) block) fi.NoFinalizer)
  -- switch (a) { default: case a: }
  pub switch : Has (s.Switch (t k.Switch) (t k.LeftParenthesis) a (t k.RightParenthesis) (t k.LeftBrace) (cc.Default (t k.Default) (t k.Colon) [] ∷ cc.Case (t k.Case) a (t k.Colon) [] ∷ []) (t k.RightBrace))
  -- a: ;
  pub labelled : Has (s.Labelled (t k.Name) (t k.Colon) nothing)
  -- return;, also outside a function
  pub returns : Has (s.Return (t k.Return) me.Absent semicolon)
  -- break a;
  pub breaks : Has (s.Break (t k.Break) (Some (t k.Name)) semicolon)
  -- let a = 1;
  pub declared : HasItem (s.Variables (bound k.Let (e.Assignment a (t k.Assign) number)) semicolon)
  -- function a() {}
  pub function_declaration : HasItem (s.FunctionDeclaration function)
  -- class a {}
  pub class_declaration : HasItem (s.ClassDeclaration class)

pub record HasNoStatements : Type 0 where
  -- {}; as an expression
  pub brace : HasNot (s.ExpressionStatement (e.ObjectLiteral (listed f.Object el.Hole [])) semicolon)
  -- a function, a class or `let` in place of a statement
  pub function_declaration : HasNot (s.FunctionDeclaration function)
  pub class_declaration : HasNot (s.ClassDeclaration class)
  pub declared : HasNot (s.Variables (bound k.Let a) semicolon)
  -- if (a) if (a) ; else ;, with the `else` of the first `if`
  pub far_else : HasNot (s.If (clause (s.If (clause nothing) [] ot.NoElse)) [] (ot.Otherwise (t k.Else) nothing))
  -- if (a) ; else if (a) ;, as an `if` behind an `else`
  pub nested_if : HasNot (s.If (clause nothing) [] (ot.Otherwise (t k.Else) (s.If (clause nothing) [] ot.NoElse)))
  -- try {}
  pub unhandled : HasNot (s.Try (t k.Try) block ha.NoHandler fi.NoFinalizer)
  -- switch (a) { default: default: }
  pub two_defaults : HasNot (s.Switch (t k.Switch) (t k.LeftParenthesis) a (t k.RightParenthesis) (t k.LeftBrace) (cc.Default (t k.Default) (t k.Colon) [] ∷ cc.Default (t k.Default) (t k.Colon) [] ∷ []) (t k.RightBrace))
  -- throw, a line terminator, a;
  pub throw_on_next_line : HasNot (s.Throw (t k.Throw) (e.Primary (line k.Name)) semicolon)
  -- break, a line terminator, a;
  pub label_on_next_line : HasNot (s.Break (t k.Break) (Some (line k.Name)) semicolon)
  -- let [];, whose pattern has no value
  pub pattern_without_value : HasNoItem (s.Variables (bound k.Let (e.ArrayLiteral (listed f.ArrayPattern el.Hole []))) semicolon)
  -- function () {}, without a name
  pub nameless_function : HasNoItem (s.FunctionDeclaration nameless)
