-- `var`, `let` and `const` with their bindings (ECMA-262, 13.3.1 and 13.3.2).
use Rattle.std.specs.Prelude.{◌≡◌, ℕ, ◌⊎◌, Bool, true, false, not, ◌&&◌, ◌||◌, List, [], ◌∷◌, Option, Some, None}
use Rattle.esb_token.specs.declared.kind.Kind.{Kind}
use Rattle.esb_token.specs.declared.kind.Kind.TheVariants as k
use Rattle.esb_token.specs.declared.token.Token.{Token}
use Rattle.esb_token.specs.declared.goal.Goal.TheVariants as goal
use Rattle.esb_tree.specs.declared.classes.ClassElement.{ClassElement}
use Rattle.esb_tree.specs.declared.classes.ClassElement.TheOpen.{Expression-F}
use Rattle.esb_tree.specs.declared.classes.Class.{Class}
use Rattle.esb_tree.specs.declared.classes.Heritage.{Heritage}
use Rattle.esb_tree.specs.declared.expressions.Expression.{Expression, out-Expression}
use Rattle.esb_tree.specs.declared.expressions.Expression.TheVariants as e
use Rattle.esb_tree.specs.declared.expressions.Link.{Link}
use Rattle.esb_tree.specs.declared.expressions.Operand.{Operand}
use Rattle.esb_tree.specs.declared.expressions.Substitution.{Substitution}
use Rattle.esb_tree.specs.declared.expressions.Substitutions.{Substitutions}
use Rattle.esb_tree.specs.declared.functions.ConciseBody.{ConciseBody}
use Rattle.esb_tree.specs.declared.functions.Function.{Function}
use Rattle.esb_tree.specs.declared.functions.Method.{Method}
use Rattle.esb_tree.specs.declared.patterns.Bracketed.{Bracketed}
use Rattle.esb_tree.specs.declared.patterns.Element.{Element, out-Element}
use Rattle.esb_tree.specs.declared.patterns.Element.TheVariants as el
use Rattle.esb_tree.specs.declared.patterns.Elements.{Elements, roll-Elements}
use Rattle.esb_tree.specs.declared.patterns.NextElement.{NextElement, roll-NextElement, out-NextElement}
use Rattle.esb_tree.specs.declared.patterns.PropertyName.{PropertyName}
use Rattle.esb_tree.specs.declared.statements.Block.{Block}
use Rattle.esb_tree.specs.declared.statements.CaseClause.{CaseClause}
use Rattle.esb_tree.specs.declared.statements.Declaration.{Declaration, roll-Declaration, out-Declaration}
use Rattle.esb_tree.specs.declared.statements.Else.{Else}
use Rattle.esb_tree.specs.declared.statements.ElseIf.{ElseIf}
use Rattle.esb_tree.specs.declared.statements.Finalizer.{Finalizer}
use Rattle.esb_tree.specs.declared.statements.ForStart.{ForStart}
use Rattle.esb_tree.specs.declared.statements.Handler.{Handler}
use Rattle.esb_tree.specs.declared.statements.IfClause.{IfClause}
use Rattle.esb_tree.specs.declared.statements.MaybeExpression.{MaybeExpression}
use Rattle.esb_tree.specs.declared.statements.Statement.{Statement}
use Rattle.esb_tree.specs.declared.statements.Statement.TheVariants as s
use Rattle.esb_tree.specs.Trees.{written}
use Rattle.esb_tree.specs.Yields.{tokens_of_expression}
use Rattle.esb_grammar.specs.declared.context.Context.{Context}
use Rattle.esb_grammar.specs.Edges.{value_layer}
use Rattle.esb_grammar.specs.Grammar.{IsTarget, IsAssignment}
use Rattle.esb_grammar.specs.Kinds.{is_comma}
use Rattle.esb_grammar.specs.Semicolons.{lets_end, binding_goes_on, bindings_go_on}
use Rattle.esb_reader.specs.declared.node.Node.{Node}
use Rattle.esb_reader.specs.Places.{Text}
use Rattle.esb_reader.specs.Reader.{Reader}
use Rattle.esb_reader.specs.Parts.{token, token_in, both, made, above, such, many}
use Rattle.esb_reader.specs.Stands.{Rule}
use Rattle.esb_statement_laws.specs.Endings.{LeftOut, closed}
use Rattle.esb_statement_laws.specs.Marks.{ends_expression, begins_target}
use Rattle.esb_statement_laws.specs.Handed.{Handed, expressions, Begins}

-- ---- bindings

-- what is bound, and its value
pub record IsValued (text : Text) (c : Context) (x : Expression) : Type 0 where
  pub target : Expression
  pub sign : Token
  pub value : Expression
  pub is : x ≡ e.Assignment target sign value
  pub bound : IsTarget text c target
  pub assign : sign.kind ≡ k.Assign
  pub valued : IsAssignment text c value

-- a binding, of which it is not asked that a pattern has a value: before `in` and `of` it has none
abbrev pub IsLoose : Text → Context → Expression → Type 0
IsLoose text c x = IsTarget text c x ⊎ IsValued text c x

-- Bindings are read exactly.
pub record ReadsBindings (text : Text) (c : Context) (n : ℕ) (read : Reader (Node Expression)) : Type 0 where
  pub stops : Expression → Token → Bool
  pub rule : Rule text (expressions (IsLoose text c)) n n stops read
  pub begins : (x : Expression) → IsLoose text c x → Begins begins_target (tokens_of_expression written x)
  pub ends : (x : Expression) (t : Token) → IsLoose text c x → ends_expression t.kind || is_comma t.kind ≡ true → stops x t ≡ true
  pub next_line : (x : Expression) (t : Token) → IsLoose text c x → t.after_line ≡ true → binding_goes_on (Some x) t ≡ false → stops x t ≡ true

abbrev pub pattern_layer : Expression-F ClassElement Heritage Expression Link ConciseBody Element PropertyName CaseClause Else Finalizer ForStart Handler MaybeExpression Statement Class Operand Substitution Substitutions Function Method Bracketed Elements NextElement Block Declaration ElseIf IfClause → Bool
pattern_layer (Expression-F.ArrayLiteral list) = true
pattern_layer (Expression-F.ObjectLiteral list) = true
pattern_layer _ = false

-- a pattern alone, which has no value
unfoldable pub is_pattern : Expression → Bool
is_pattern x = pattern_layer (out-Expression x)

abbrev pub binds : Option Expression → Bool
binds None = false
binds (Some x) = not (is_pattern x)

-- a binding that is no pattern without a value
unfoldable pub is_bound : Element → Bool
is_bound y = binds (value_layer (out-Element y))

abbrev pub all_bound : List NextElement → Bool
all_bound [] = true
all_bound (o ∷ os) = is_bound (out-NextElement o).element && all_bound os

abbrev pub are_bound : Expression × List NextElement → Bool
are_bound p = is_bound (el.Value p.0) && all_bound p.1

-- ---- nodes of their parts

abbrev pub make_next : Token × Expression → NextElement
make_next p = roll-NextElement (record { comma = p.0; element = el.Value p.1 })

abbrev pub make_bindings : Expression × List NextElement → Elements
make_bindings p = roll-Elements (record { first = el.Value p.0; rest = p.1 })

abbrev pub make_declaration : Token × Elements → Declaration
make_declaration p = roll-Declaration (record { word = p.0; bindings = p.1 })

abbrev pub make_variables : Declaration × Option Token → Statement
make_variables p = s.Variables p.0 p.1

abbrev pub behind_bindings : Declaration → LeftOut
behind_bindings d = lets_end (bindings_go_on (out-Declaration d).bindings)

-- ---- the readers

module _ (text : Text) (c : Context) (n : ℕ) (r : Handed) where
  unfoldable pub next_binding : Reader (Node NextElement)
  next_binding = made make_next 0 (both (token text k.Comma) (r.binding c))

  abbrev pub loose_list : Reader (Node (Expression × List NextElement))
  loose_list = both (r.binding c) (many text (λ t. is_comma t.kind) next_binding)

  -- BindingList (13.3.1) and VariableDeclarationList (13.3.2)
  unfoldable pub bindings : Reader (Node Elements)
  bindings = made make_bindings 0 (such loose_list are_bound)

  -- behind a word that passes a test
  unfoldable pub declaration : (Kind → Bool) → Reader (Node Declaration)
  declaration test = made make_declaration 0 (both (token_in text goal.Div (λ t. test t.kind)) bindings)

  -- VariableStatement (13.3.2), LexicalDeclaration (13.3.1)
  unfoldable pub variables : (Kind → Bool) → Reader (Node Statement)
  variables test = above n make_variables (closed text behind_bindings (declaration test))
