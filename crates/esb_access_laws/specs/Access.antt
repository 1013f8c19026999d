-- Members, calls, `new`, optional chains and what they begin with (ECMA-262, 12.3), over readers of what stands in them.
use Rattle.std.specs.Prelude.{ℕ, zero, suc, Bool, true, false, not, ◌&&◌, ◌||◌, ◌⊎◌, List, [], ◌∷◌, codes}
use mathlib.Core.Logic.{inl, inr}
use Rattle.esb_token.specs.declared.kind.Kind.{Kind}
use Rattle.esb_token.specs.declared.kind.Kind.TheVariants as k
use Rattle.esb_token.specs.declared.token.Token.{Token}
use Rattle.esb_token.specs.declared.goal.Goal.TheVariants as goal
use Rattle.esb_tree.specs.declared.classes.ClassElement.TheOpen.{Expression-F}
use Rattle.esb_tree.specs.declared.classes.Class.{Class}
use Rattle.esb_tree.specs.declared.classes.ClassElement.{ClassElement}
use Rattle.esb_tree.specs.declared.classes.Heritage.{Heritage}
use Rattle.esb_tree.specs.declared.expressions.Expression.{Expression, out-Expression}
use Rattle.esb_tree.specs.declared.expressions.Expression.TheVariants as e
use Rattle.esb_tree.specs.declared.expressions.Link.{Link}
use Rattle.esb_tree.specs.declared.expressions.Operand.{Operand}
use Rattle.esb_tree.specs.declared.expressions.Substitution.{Substitution}
use Rattle.esb_tree.specs.declared.expressions.Substitutions.{Substitutions}
use Rattle.esb_tree.specs.declared.functions.ConciseBody.{ConciseBody}
use Rattle.esb_tree.specs.declared.functions.Function.{Function}
use Rattle.esb_tree.specs.declared.functions.Method.{Method}
use Rattle.esb_tree.specs.declared.patterns.Bracketed.{Bracketed}
use Rattle.esb_tree.specs.declared.patterns.Element.{Element}
use Rattle.esb_tree.specs.declared.patterns.Elements.{Elements}
use Rattle.esb_tree.specs.declared.patterns.NextElement.{NextElement}
use Rattle.esb_tree.specs.declared.patterns.PropertyName.{PropertyName}
use Rattle.esb_tree.specs.declared.statements.Block.{Block}
use Rattle.esb_tree.specs.declared.statements.CaseClause.{CaseClause}
use Rattle.esb_tree.specs.declared.statements.Declaration.{Declaration}
use Rattle.esb_tree.specs.declared.statements.Else.{Else}
use Rattle.esb_tree.specs.declared.statements.ElseIf.{ElseIf}
use Rattle.esb_tree.specs.declared.statements.Finalizer.{Finalizer}
use Rattle.esb_tree.specs.declared.statements.ForStart.{ForStart}
use Rattle.esb_tree.specs.declared.statements.Handler.{Handler}
use Rattle.esb_tree.specs.declared.statements.IfClause.{IfClause}
use Rattle.esb_tree.specs.declared.statements.MaybeExpression.{MaybeExpression}
use Rattle.esb_tree.specs.declared.statements.Statement.{Statement}
use Rattle.esb_grammar.specs.Edges.{follows_super}
use Rattle.esb_grammar.specs.Kinds.{is_function}
use Rattle.esb_grammar.specs.Words.{is_word}
use Rattle.esb_reader.specs.declared.node.Node.{Node}
use Rattle.esb_reader.specs.Places.{Text}
use Rattle.esb_reader.specs.Reader.{Reader, fail}
use Rattle.esb_reader.specs.Parts.{token, token_in, both, made, such, above, choice, empty, is_empty}
use Rattle.esb_operator_laws.specs.Forks.{fork}
use Rattle.esb_operator_laws.specs.Suffixes.{extended}
use Rattle.esb_access_laws.specs.Links.{is_dot, is_left_parenthesis, begins_link_in, templates_fit, links}

abbrev pub is_new : Kind → Bool
is_new k.New = true
is_new _ = false

abbrev pub is_import : Kind → Bool
is_import k.Import = true
is_import _ = false

abbrev pub is_super : Kind → Bool
is_super k.Super = true
is_super _ = false

-- ---- what is on the outside

abbrev pub new_layer : Expression-F ClassElement Heritage Expression Link ConciseBody Element PropertyName CaseClause Else Finalizer ForStart Handler MaybeExpression Statement Class Operand Substitution Substitutions Function Method Bracketed Elements NextElement Block Declaration ElseIf IfClause → Bool
new_layer (Expression-F.NewPlain word callee) = true
new_layer _ = false

-- a NewExpression without arguments
unfoldable pub is_new_alone : Expression → Bool
is_new_alone x = new_layer (out-Expression x)

abbrev pub super_word_layer : Expression-F ClassElement Heritage Expression Link ConciseBody Element PropertyName CaseClause Else Finalizer ForStart Handler MaybeExpression Statement Class Operand Substitution Substitutions Function Method Bracketed Elements NextElement Block Declaration ElseIf IfClause → Bool
super_word_layer (Expression-F.Primary t) = is_super t.kind
super_word_layer _ = false

-- the word `super`
unfoldable pub is_super_word : Expression → Bool
is_super_word x = super_word_layer (out-Expression x)

-- ---- what ends it

-- Behind a callee without arguments a list of them would be its own.
abbrev pub ends_access : Bool → Expression → Token → Bool
ends_access calls x t = not ((begins_link_in calls t.kind || (is_function t.kind && not t.after_line)) || (is_new_alone x && is_left_parenthesis t.kind))

-- ---- what is made of parts

abbrev pub make_new : Token × ((Token × Token) ⊎ (Expression × (Bracketed ⊎ Unit {0}))) → Expression
make_new (word, inl p) = e.MetaProperty word p.0 p.1
make_new (word, inr (callee, inl arguments)) = e.New word callee arguments
make_new (word, inr (callee, inr _)) = e.NewPlain word callee

abbrev pub new_fits : Token × ((Token × Token) ⊎ (Expression × (Bracketed ⊎ Unit {0}))) → Bool
new_fits (word, inl p) = true
new_fits (word, inr (callee, inl arguments)) = not (is_new_alone callee)
new_fits (word, inr (callee, inr _)) = true

abbrev pub make_import : Token × ((Token × Token) ⊎ ((Token × Expression) × Token)) → Expression
make_import (word, inl p) = e.MetaProperty word p.0 p.1
make_import (word, inr p) = e.ImportCall word p.0.0 p.0.1 p.1

abbrev pub import_fits : Bool → Token × ((Token × Token) ⊎ ((Token × Expression) × Token)) → Bool
import_fits calls (word, inl p) = true
import_fits calls (word, inr p) = calls

-- the first link behind `super` (12.3.7)
abbrev pub first_follows : List Link → Bool
first_follows [] = false
first_follows (x ∷ xs) = follows_super x

abbrev pub links_fit : Expression → List Link → Bool
links_fit object xs = not (is_empty xs) && (templates_fit false xs && (not (is_super_word object) || first_follows xs))

-- ---- the readers, within n levels

module _ (text : Text) (n : ℕ) (primary : Reader (Node Expression)) (arguments : Reader (Node Bracketed)) (template : Reader (Node Substitutions)) (values value : Reader (Node Expression)) where
  -- `new.target`, and `new` with a callee, which `callee` reads one level down
  unfoldable pub new_expression : Reader (Node Expression) → Reader (Node Expression)
  new_expression callee =
      above n make_new
      (such
      (both (token text k.New)
      (fork text (λ t. is_dot t.kind) (both (token text k.Dot) (token_in text goal.Div (is_word text (codes "target"))))
      (both callee (fork text (λ t. is_left_parenthesis t.kind) arguments (empty tt)))))
      new_fits)

  -- `import.meta`, and `import` with what it takes
  unfoldable pub import_expression : Bool → Reader (Node Expression)
  import_expression calls =
      above n make_import
      (such
      (both (token text k.Import)
      (fork text (λ t. is_dot t.kind) (both (token text k.Dot) (token_in text goal.Div (is_word text (codes "meta"))))
      (both (both (token text k.LeftParenthesis) value) (token text k.RightParenthesis))))
      (import_fits calls))

  unfoldable pub origin : Bool → Reader (Node Expression) → Reader (Node Expression)
  origin calls callee =
      choice text (λ t. is_new t.kind) (new_expression callee)
      (choice text (λ t. is_import t.kind) (import_expression calls)
      (choice text (λ t. is_super t.kind) (made e.Primary 0 (token text k.Super)) primary))

  -- an origin and its links
  unfoldable pub accessed : Bool → Reader (Node Expression) → Reader (Node Expression)
  accessed calls start =
      such (extended text n e.Member (λ t. begins_link_in calls t.kind) (λ x. not (is_new_alone x)) start (λ x. such (links text arguments template values calls) (links_fit x)))
      (λ x. not (is_super_word x))

-- A LeftHandSideExpression, and without calls a MemberExpression or a NewExpression. The readers of what stands in them are
-- told how many levels there may be.
module _ (text : Text) (primary : ℕ → Reader (Node Expression)) (arguments : ℕ → Reader (Node Bracketed)) (template : ℕ → Reader (Node Substitutions)) (values value : ℕ → Reader (Node Expression)) where
  unfoldable pub left : Bool → ℕ → Reader (Node Expression)
  left calls zero = accessed text zero (primary zero) (arguments zero) (template zero) (values zero) (value zero) calls (origin text zero (primary zero) (arguments zero) (template zero) (values zero) (value zero) calls fail)
  left calls (suc n) = accessed text (suc n) (primary (suc n)) (arguments (suc n)) (template (suc n)) (values (suc n)) (value (suc n)) calls (origin text (suc n) (primary (suc n)) (arguments (suc n)) (template (suc n)) (values (suc n)) (value (suc n)) calls (left false n))
