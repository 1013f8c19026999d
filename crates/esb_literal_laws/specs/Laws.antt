-- Literals are read exactly, where what stands in them is.
use Rattle.std.specs.Prelude.{◌≡◌, ℕ, suc, ◌≤◌, Bool, true, false, List, map, Option, Some, None}
use Rattle.esb_token.specs.declared.token.Token.{Token}
use Rattle.esb_tree.specs.declared.classes.Class.{Class}
use Rattle.esb_tree.specs.declared.functions.Function.{Function}
use Rattle.std.specs.List.{flat_map}
use Rattle.esb_tree.specs.declared.expressions.Expression.{Expression}
use Rattle.esb_tree.specs.declared.expressions.Substitutions.{Substitutions}
use Rattle.esb_tree.specs.declared.functions.Method.{Method}
use Rattle.esb_tree.specs.declared.expressions.Expression.TheVariants as e
use Rattle.esb_tree.specs.declared.patterns.Element.{Element}
use Rattle.esb_tree.specs.declared.patterns.Element.TheVariants as el
use Rattle.esb_tree.specs.declared.patterns.Elements.{Elements}
use Rattle.esb_tree.specs.declared.patterns.PropertyName.{PropertyName}
use Rattle.esb_tree.specs.declared.statements.Block.{Block}
use Rattle.esb_tree.specs.declared.statements.Statement.{Statement}
use Rattle.esb_tree.specs.Levels.{most, depth_of_substitutions, depth_of_elements, depth_of_property_name, depth_of_block, depth_of_method, depth_of_function, depth_of_class, depth_of_statement}
use Rattle.esb_tree.specs.Trees.{written}
use Rattle.esb_tree.specs.Yields.{maybe_token, tokens_of_elements, tokens_of_class, tokens_of_function, tokens_of_substitutions, tokens_of_property_name, tokens_of_block, tokens_of_method, tokens_of_statement}
use Rattle.esb_grammar.specs.declared.context.Context.{Context}
use Rattle.esb_grammar.specs.declared.form.Form.{Form}
use Rattle.esb_grammar.specs.declared.form.Form.TheVariants as f
use Rattle.esb_grammar.specs.Contexts.{inside}
use Rattle.esb_grammar.specs.Grammar.{IsAssignment, IsExpression, IsTarget, IsTemplate, IsPropertyName, IsBlock, IsMethod, IsFunction, IsClass, IsLeftHandSide, AreItems, AreElements}
use Rattle.esb_grammar.specs.Kinds.{is_comma, is_assign, is_binding, is_left_brace, is_right_brace}
use Rattle.esb_reader.specs.declared.node.Node.{Node}
use Rattle.esb_reader.specs.Places.{Text}
use Rattle.esb_reader.specs.Reader.{Reader}
use Rattle.esb_reader.specs.Stands.{Syntax, Rule}
use Rattle.esb_expression_laws.specs.Leaves.{expressions}
use Rattle.esb_expression_laws.specs.Lists.{ends_element}
use Rattle.esb_expression_laws.specs.Laws.{lists}
use Rattle.esb_literal_laws.specs.Templates.{template}
use Rattle.esb_literal_laws.specs.ElementLists.{ends_elements}
use Rattle.esb_literal_laws.specs.Bindings.{target, parameters, bindings}
use Rattle.esb_literal_laws.specs.Methods.{method}
use Rattle.esb_literal_laws.specs.Objects.{object}
use Rattle.esb_literal_laws.specs.Functions.{function}
use Rattle.esb_literal_laws.specs.Classes.{class}

abbrev pub templates : Text → Context → Syntax Substitutions
templates text c = record { yields = tokens_of_substitutions written; levels_of = depth_of_substitutions; Good = IsTemplate text c }

abbrev pub names : Text → Context → Syntax PropertyName
names text c = record { yields = tokens_of_property_name written; levels_of = depth_of_property_name; Good = IsPropertyName text c }

-- Where the Expressions in templates are read exactly, as far as a closing brace ends them, so are SubstitutionTemplates, whatever follows.
abbrev pub TemplateRule : Type 0
TemplateRule =
    (text : Text) (c : Context) (n : ℕ) (inner : Reader (Node Expression)) → Rule text (expressions (IsExpression text (inside c))) n n (λ _ t. is_right_brace t.kind) inner
    → Rule text (templates text c) n n (λ _ _. true) (template text inner)

-- Where AssignmentExpressions within at most so many levels are read exactly, as far as what ends an element ends them,
pub record ReadsWithin (text : Text) (most_levels : ℕ) (values : Context → ℕ → Reader (Node Expression)) : Type 0 where
  pub rule : (c : Context) (n : ℕ) → n ≤ most_levels → Rule text (expressions (IsAssignment text c)) n n (λ _. ends_element) (values c n)

abbrev pub statement_lists : Text → Context → Syntax (List Statement)
statement_lists text c = record { yields = flat_map (tokens_of_statement written); levels_of = λ xs. most (map depth_of_statement xs); Good = AreItems text c }

abbrev pub targets : Text → Context → Syntax Expression
targets text c = expressions (IsTarget text c)

-- names and patterns that are bound are read exactly, whatever follows,
abbrev pub TargetRule : Type 0
TargetRule =
    (text : Text) (values : Context → ℕ → Reader (Node Expression)) (c : Context) (n : ℕ) → ReadsWithin text n values
    → Rule text (targets text c) n (suc n) (λ _ _. true) (target text values c n)

-- and so are FormalParameters in their parentheses.
abbrev pub ParametersRule : Type 0
ParametersRule =
    (text : Text) (values : Context → ℕ → Reader (Node Expression)) (c : Context) (n : ℕ) → ReadsWithin text n values
    → Rule text (lists text f.Parameters c) n n (λ _ _. true) (parameters text values c n)

-- Where in addition StatementLists are read exactly, as far as a closing brace ends them,
pub record ReadsBodies (text : Text) (most_levels : ℕ) (items : Context → ℕ → Reader (Node (List Statement))) : Type 0 where
  pub rule : (c : Context) (n : ℕ) → n ≤ most_levels → Rule text (statement_lists text c) n n (λ _ t. is_right_brace t.kind) (items c n)

abbrev pub blocks : Text → Context → Syntax Block
blocks text c = record { yields = tokens_of_block written; levels_of = depth_of_block; Good = IsBlock text c }

abbrev pub methods : Text → Context → Syntax Method
methods text c = record { yields = tokens_of_method written; levels_of = depth_of_method; Good = IsMethod text c }

-- MethodDefinitions are read exactly, whatever follows,
abbrev pub MethodRule : Type 0
MethodRule =
    (text : Text) (values : Context → ℕ → Reader (Node Expression)) (items : Context → ℕ → Reader (Node (List Statement))) (c : Context) (n : ℕ) → ReadsWithin text n values → ReadsBodies text n items
    → Rule text (methods text c) n n (λ _ _. true) (method text values items c n)

-- and so are ObjectLiterals.
abbrev pub ObjectRule : Type 0
ObjectRule =
    (text : Text) (values : Context → ℕ → Reader (Node Expression)) (items : Context → ℕ → Reader (Node (List Statement))) (c : Context) (n : ℕ) → ReadsWithin text n values → ReadsBodies text n items
    → Rule text (lists text f.Object c) n n (λ _ _. true) (object text values items c n)

-- a name that has to be there, or may be absent
abbrev pub Own_name : Bool → Option Token → Type 0
Own_name is_named (Some t) = is_binding t.kind ≡ true
Own_name true None = ⊥
Own_name false None = Unit {0}

abbrev pub own_names : Bool → Syntax (Option Token)
own_names is_named = record { yields = maybe_token; levels_of = λ x. 0; Good = Own_name is_named }

abbrev pub functions : Text → Bool → Syntax Function
functions text is_named = record { yields = tokens_of_function written; levels_of = depth_of_function; Good = IsFunction text is_named }

-- Under the same premises FunctionExpressions and FunctionDeclarations are read exactly, and those of generators and async functions.
abbrev pub FunctionRule : Type 0
FunctionRule =
    (text : Text) (values : Context → ℕ → Reader (Node Expression)) (items : Context → ℕ → Reader (Node (List Statement))) (is_named : Bool) (n : ℕ) → ReadsWithin text n values → ReadsBodies text n items
    → Rule text (functions text is_named) n n (λ _ _. true) (function text values items is_named n)

-- Where LeftHandSideExpressions are read exactly, as far as an opening brace ends them,
pub record ReadsHeads (text : Text) (most_levels : ℕ) (heads : Context → ℕ → Reader (Node Expression)) : Type 0 where
  pub rule : (c : Context) (n : ℕ) → n ≤ most_levels → Rule text (expressions (IsLeftHandSide text c)) n n (λ _ t. is_left_brace t.kind) (heads c n)

abbrev pub classes : Text → Bool → Context → Syntax Class
classes text is_named c = record { yields = tokens_of_class written; levels_of = depth_of_class; Good = IsClass text is_named c }

-- ClassExpressions and ClassDeclarations are read exactly, whatever follows.
abbrev pub ClassRule : Type 0
ClassRule =
    (text : Text) (values heads : Context → ℕ → Reader (Node Expression)) (items : Context → ℕ → Reader (Node (List Statement))) (is_named : Bool) (c : Context) (n : ℕ) → ReadsWithin text n values → ReadsBodies text n items → ReadsHeads text n heads
    → Rule text (classes text is_named c) n n (λ _ _. true) (class text values heads items is_named c n)

-- What ends a binding of a declaration: it ends the value; behind a name alone no `=` stands; and a comma ends each.
pub record EndsBindings (stops : Expression → Token → Bool) (ends : Element → Token → Bool) : Type 0 where
  pub comma : (x : Element) (t : Token) → is_comma t.kind ≡ true → ends x t ≡ true
  pub valued : (target : Expression) (sign : Token) (x : Expression) (t : Token) → ends (el.Value (e.Assignment target sign x)) t ≡ true → stops x t ≡ true
  pub bare : (name t : Token) → ends (el.Value (e.Primary name)) t ≡ true → is_assign t.kind ≡ false

abbrev pub element_lists : Text → Form → Context → Syntax Elements
element_lists text form c = record { yields = tokens_of_elements written; levels_of = depth_of_elements; Good = AreElements text form c }

-- Where the values of bindings are read exactly, as far as something ends them, so are BindingLists and VariableDeclarationLists.
abbrev pub BindingsRule : Type 0
BindingsRule =
    (text : Text) (values : Context → ℕ → Reader (Node Expression)) (c : Context) (n : ℕ) (stops : Expression → Token → Bool) (ends : Element → Token → Bool) → ReadsWithin text n values
    → Rule text (expressions (IsAssignment text c)) n n stops (values c n) → EndsBindings stops ends
    → Rule text (element_lists text f.Bindings c) n n (ends_elements ends) (bindings text values c n)
