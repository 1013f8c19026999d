-- Behind `import` an expression goes on with `(` or `.`.
use Rattle.std.proofs.Common.{◌≡◌, ◌⊎◌, inl, inr, ℕ, Bool, true, false, not, ◌||◌, List, [], ◌∷◌, ◌++◌, Option, Some, None, refl, ap, ◌∙◌}
use Rattle.esb_token.specs.declared.kind.Kind.{Kind}
use Rattle.esb_token.specs.declared.kind.Kind.TheVariants as k
use Rattle.esb_token.specs.declared.token.Token.{Token}
use Rattle.esb_tree.specs.declared.classes.Class.{Class}
use Rattle.esb_tree.specs.declared.expressions.Expression.{Expression}
use Rattle.esb_tree.specs.declared.expressions.Expression.TheVariants as e
use Rattle.esb_tree.specs.declared.expressions.Link.TheVariants as l
use Rattle.esb_tree.specs.declared.expressions.Substitutions.{Substitutions}
use Rattle.esb_tree.specs.declared.functions.Function.{Function}
use Rattle.esb_tree.specs.declared.patterns.Bracketed.{Bracketed}
use Rattle.esb_tree.specs.Operators.{is_unary}
use Rattle.esb_tree.specs.Trees.{written}
use Rattle.esb_tree.specs.Yields.{maybe_token, tokens_of_expression, tokens_of_bracketed, tokens_of_substitutions, tokens_of_function, tokens_of_class}
use Rattle.esb_tree.proofs.TokenLines.{tokens_Primary, tokens_MetaProperty, tokens_ArrayLiteral, tokens_ObjectLiteral, tokens_Parenthesized, tokens_TemplateLiteral, tokens_FunctionExpression, tokens_ClassExpression, tokens_Member, tokens_New, tokens_NewPlain, tokens_ImportCall, tokens_PrefixUpdate, tokens_PostfixUpdate, tokens_Unary, tokens_Await, tokens_Binary, tokens_Conditional, tokens_Assignment, tokens_Arrow, tokens_AsyncArrow, tokens_Yield, tokens_YieldValue, tokens_YieldEach, tokens_Function, tokens_Class, tokens_Substitutions, tokens_Bracketed}
use Rattle.esb_grammar.specs.declared.context.Context.{Context}
use Rattle.esb_grammar.specs.declared.form.Form.{Form}
use Rattle.esb_grammar.specs.declared.form.Form.TheVariants as f
use Rattle.esb_grammar.specs.Forms.{opener}
use Rattle.esb_grammar.specs.Grammar.{IsPrimary, identifier_reference, literal, array_literal, object_literal, parenthesized, template_literal, function_expression, class_expression, IsTemplate, substitution_template, IsOrigin, primary_expression, new_target, import_meta, new_with_arguments, import_call, IsAccess, origin, member, super_member, IsLeftHandSide, access, new_without_arguments, IsUpdate, left_hand_side, postfix, prefix, IsUnary, update, unary, await, IsBinary, unary_expression, exponentiation, IsConditional, short_circuit, conditional, IsAssignment, conditional_expression, assignment, yield_alone, yield_value, yield_each, arrow_function, async_arrow_function, async_arrow_of_name, IsArrowHead, arrow_name, arrow_parameters, IsAsyncArrowHead, async_arrow_parameters, IsExpression, assignment_expression, commas, IsBracketed, bracketed, IsFunction, nameless_function, named_function, IsClass, nameless_class, named_class}
use Rattle.esb_grammar.specs.Kinds.{is_reference, is_literal, is_update}
use Rattle.esb_grammar.specs.Words.{is_async, if_there}
use Rattle.esb_module_laws.proofs.Small.{word_kind}

abbrev pub is_import : Kind → Bool
is_import k.Import = true
is_import _ = false

abbrev pub follows_import : Kind → Bool
follows_import k.LeftParenthesis = true
follows_import k.Dot = true
follows_import _ = false

-- where `import` is first, `(` or `.` is next (12.3)
abbrev pub import_leads : List Token → Bool
import_leads [] = true
import_leads (t ∷ []) = not (is_import t.kind)
import_leads (t ∷ u ∷ ts) = not (is_import t.kind) || follows_import u.kind

-- tokens that begin with `import` before `(` or `.`, or with another token
abbrev Leads : List Token → Type 0
Leads ts = (t : Token) × (rest : List Token) × (ts ≡ t ∷ rest) × ((is_import t.kind ≡ false) ⊎ ((u : Token) × (us : List Token) × (rest ≡ u ∷ us) × (follows_import u.kind ≡ true)))

no_import : (ts : List Token) (t : Token) (rest : List Token) → ts ≡ t ∷ rest → is_import t.kind ≡ false → Leads ts
no_import ts t rest is h = (t, rest, is, inl h)

other_kind : (ts : List Token) (t : Token) (rest : List Token) (kind : Kind) → ts ≡ t ∷ rest → t.kind ≡ kind → is_import kind ≡ false → Leads ts
other_kind ts t rest kind is same h = no_import ts t rest is (ap is_import same ∙ h)

-- more tokens behind them
more : (ts us vs : List Token) → vs ≡ ts ++ us → Leads ts → Leads vs
more ts us vs is (t, rest, first, inl h) = (t, rest ++ us, is ∙ ap (λ xs. xs ++ us) first, inl h)
more ts us vs is (t, rest, first, inr b) = (t, rest ++ us, is ∙ ap (λ xs. xs ++ us) first, inr (b.0, b.1 ++ us, ap (λ xs. xs ++ us) b.2, b.3))

same : (ts vs : List Token) → vs ≡ ts → Leads ts → Leads vs
same ts vs is (t, rest, first, b) = (t, rest, is ∙ first, b)

reference_other : (c : Context) (kind : Kind) → is_reference c kind ≡ true → is_import kind ≡ false
reference_other c k.Import h = cc
reference_other c _ h = refl

literal_other : (kind : Kind) → is_literal kind ≡ true → is_import kind ≡ false
literal_other k.Import h = cc
literal_other _ h = refl

update_other : (kind : Kind) → is_update kind ≡ true → is_import kind ≡ false
update_other k.Import h = cc
update_other _ h = refl

unary_other : (kind : Kind) → is_unary kind ≡ true → is_import kind ≡ false
unary_other k.Import h = cc
unary_other _ h = refl

opener_other : (form : Form) → is_import (opener form) ≡ false
opener_other f.Array = refl
opener_other f.ArrayPattern = refl
opener_other f.Object = refl
opener_other f.ObjectPattern = refl
opener_other _ = refl

module _ (text : List ℕ) where
  abbrev LeadsOf : Expression → Type 0
  LeadsOf x = Leads (tokens_of_expression written x)

  list_leads : {form : Form} {c : Context} {list : Bracketed} → IsBracketed text form c list → Leads (tokens_of_bracketed written list)
  list_leads {form} (bracketed begin list ending h1 h2 h3) = other_kind _ begin _ (opener form) (tokens_Bracketed written begin list ending) h1 (opener_other form)

  template_leads : {c : Context} {template : Substitutions} → IsTemplate text c template → Leads (tokens_of_substitutions written template)
  template_leads (substitution_template begin first rest ending h1 h2 h3 h4) = other_kind _ begin _ k.TemplateHead (tokens_Substitutions written begin first rest ending) h1 refl

  function_at : (a : Option Token) (word : Token) (rest vs : List Token) → if_there (is_async text) a ≡ true → word.kind ≡ k.Function → vs ≡ maybe_token a ++ (word ∷ rest) → Leads vs
  function_at None word rest vs h is e = other_kind vs word rest k.Function e is refl
  function_at (Some t) word rest vs h is e = other_kind vs t (word ∷ rest) k.Name e (word_kind text _ t h) refl

  function_leads : {is_named : Bool} {function : Function} → IsFunction text is_named function → Leads (tokens_of_function written function)
  function_leads (nameless_function a word star parameters body h1 h2 h3 h4 h5 h6) = function_at a word _ _ h1 h2 (tokens_Function written a word star None parameters body)
  function_leads (named_function a word star name parameters body h1 h2 h3 h4 h5 h6 h7) = function_at a word _ _ h1 h2 (tokens_Function written a word star (Some name) parameters body)

  class_leads : {is_named : Bool} {c : Context} {class : Class} → IsClass text is_named c class → Leads (tokens_of_class written class)
  class_leads (nameless_class word heritage begin members ending h1 h2 h3 h4 h5) = other_kind _ word _ k.Class (tokens_Class written word None heritage begin members ending) h1 refl
  class_leads (named_class word name heritage begin members ending h1 h2 h3 h4 h5 h6) = other_kind _ word _ k.Class (tokens_Class written word (Some name) heritage begin members ending) h1 refl

  token_leads : (t : Token) → is_import t.kind ≡ false → LeadsOf (e.Primary t)
  token_leads t h = no_import _ t [] (tokens_Primary written t) h

  primary_leads : {c : Context} {x : Expression} → IsPrimary text c x → LeadsOf x
  primary_leads {c} (identifier_reference {t = t} h) = token_leads t (reference_other c t.kind h)
  primary_leads (literal {t = t} h) = token_leads t (literal_other t.kind h)
  primary_leads (array_literal {list = list} h) = same _ _ (tokens_ArrayLiteral written list) (list_leads h)
  primary_leads (object_literal {list = list} h) = same _ _ (tokens_ObjectLiteral written list) (list_leads h)
  primary_leads (parenthesized {list = list} h) = same _ _ (tokens_Parenthesized written list) (list_leads h)
  primary_leads (template_literal {template = template} h) = same _ _ (tokens_TemplateLiteral written template) (template_leads h)
  primary_leads (function_expression {function = function} h) = same _ _ (tokens_FunctionExpression written function) (function_leads h)
  primary_leads (class_expression {class = class} h) = same _ _ (tokens_ClassExpression written class) (class_leads h)

  origin_leads : {calls : Bool} {c : Context} {x : Expression} → IsOrigin text calls c x → LeadsOf x
  origin_leads (primary_expression h) = primary_leads h
  origin_leads (new_target {word = word} {dot = dot} {name = name} h1 h2 h3) = other_kind _ word _ k.New (tokens_MetaProperty written word dot name) h1 refl
  origin_leads (import_meta {word = word} {dot = dot} {name = name} h1 h2 h3) = (word, _, tokens_MetaProperty written word dot name, inr (dot, _, refl, ap follows_import h2))
  origin_leads (new_with_arguments {word = word} {callee = callee} {arguments = arguments} h1 h2 h3) = other_kind _ word _ k.New (tokens_New written word callee arguments) h1 refl
  origin_leads (import_call {word = word} {begin = begin} {x = x} {ending = ending} h1 h2 h3 h4) = (word, _, tokens_ImportCall written word begin x ending, inr (begin, _, refl, ap follows_import h2))

  access_leads : {calls : Bool} {c : Context} {x : Expression} → IsAccess text calls c x → LeadsOf x
  access_leads (origin h) = origin_leads h
  access_leads (member object first rest h1 h2) = more _ _ _ (tokens_Member written object (first ∷ rest)) (origin_leads h1)
  access_leads (super_member word first rest h1 h2 h3) = more _ _ _ (tokens_Member written (e.Primary word) (first ∷ rest)) (token_leads word (ap is_import h1))

  left_leads : {c : Context} {x : Expression} → IsLeftHandSide text c x → LeadsOf x
  left_leads (access h) = access_leads h
  left_leads (new_without_arguments {word = word} {callee = callee} h1 h2) = other_kind _ word _ k.New (tokens_NewPlain written word callee) h1 refl

  update_leads : {c : Context} {x : Expression} → IsUpdate text c x → LeadsOf x
  update_leads (left_hand_side h) = left_leads h
  update_leads (postfix {x = x} {operator = operator} h is line) = more _ _ _ (tokens_PostfixUpdate written x operator) (left_leads h)
  update_leads (prefix {operator = operator} {x = x} is h) = no_import _ operator _ (tokens_PrefixUpdate written operator x) (update_other operator.kind is)

  unary_leads : {c : Context} {x : Expression} → IsUnary text c x → LeadsOf x
  unary_leads (update h) = update_leads h
  unary_leads (unary {operator = operator} {x = x} is h) = no_import _ operator _ (tokens_Unary written operator x) (unary_other operator.kind is)
  unary_leads (await {word = word} {x = x} may is h) = other_kind _ word _ k.Await (tokens_Await written word x) is refl

  binary_leads : {level : ℕ} {c : Context} {x : Expression} → IsBinary text level c x → LeadsOf x
  binary_leads (unary_expression h) = unary_leads h
  binary_leads (exponentiation first second rest low h powers) = more _ _ _ (tokens_Binary written first (second ∷ rest)) (update_leads h)
  binary_leads (IsBinary.operators own first second rest low high h others) = more _ _ _ (tokens_Binary written first (second ∷ rest)) (binary_leads h)

  head_leads : {c : Context} {x : Expression} → IsArrowHead text c x → LeadsOf x
  head_leads {c} (arrow_name {t = t} h) = token_leads t (reference_other c t.kind h)
  head_leads (arrow_parameters {list = list} h1 h2) = same _ _ (tokens_Parenthesized written list) (list_leads h1)

  async_leads : {c : Context} {x : Expression} → IsAsyncArrowHead text c x → LeadsOf x
  async_leads (async_arrow_parameters word list h1 h2 h3 h4) = more _ _ _ (tokens_Member written (e.Primary word) (l.Call list ∷ [])) (token_leads word (ap is_import (word_kind text _ word h1)))

  conditional_leads : {c : Context} {x : Expression} → IsConditional text c x → LeadsOf x
  conditional_leads (short_circuit h) = binary_leads h
  conditional_leads (conditional {test = test} {question = question} {x = x} {colon = colon} {other = other} h1 h2 h3 h4 h5) = more _ _ _ (tokens_Conditional written test question x colon other) (binary_leads h1)

  value_leads : {c : Context} {x : Expression} → IsAssignment text c x → LeadsOf x
  value_leads (conditional_expression h) = conditional_leads h
  value_leads (assignment {target = target} {operator = operator} {x = x} h1 h2 h3) = more _ _ _ (tokens_Assignment written target operator x) (left_leads h1)
  value_leads (yield_alone {word = word} h1 h2) = other_kind _ word _ k.Yield (tokens_Yield written word) h2 refl
  value_leads (yield_value {word = word} {x = x} h1 h2 h3 h4) = other_kind _ word _ k.Yield (tokens_YieldValue written word x) h2 refl
  value_leads (yield_each {word = word} {star = star} {x = x} h1 h2 h3 h4 h5) = other_kind _ word _ k.Yield (tokens_YieldEach written word star x) h2 refl
  value_leads (arrow_function {parameters = parameters} {arrow = arrow} {body = body} h1 h2 h3 h4) = more _ _ _ (tokens_Arrow written parameters arrow body) (head_leads h1)
  value_leads (async_arrow_function {parameters = parameters} {arrow = arrow} {body = body} h1 h2 h3 h4) = more _ _ _ (tokens_Arrow written parameters arrow body) (async_leads h1)
  value_leads (async_arrow_of_name {word = word} {name = name} {arrow = arrow} {body = body} h1 h2 h3 h4 h5 h6) = other_kind _ word _ k.Name (tokens_AsyncArrow written word name arrow body) (word_kind text _ word h1) refl

  expression_leads : {c : Context} {x : Expression} → IsExpression text c x → LeadsOf x
  expression_leads (assignment_expression h) = value_leads h
  expression_leads (commas first second rest h others) = more _ _ _ (tokens_Binary written first (second ∷ rest)) (value_leads h)

  leads_on : (t : Token) (rest : List Token) → (is_import t.kind ≡ false) ⊎ ((u : Token) × (us : List Token) × (rest ≡ u ∷ us) × (follows_import u.kind ≡ true)) → import_leads (t ∷ rest) ≡ true
  leads_on t [] (inl h) = ap not h
  leads_on t (v ∷ vs) (inl h) = ap (λ b. not b || follows_import v.kind) h
  leads_on t rest (inr b) = ap (λ us. import_leads (t ∷ us)) b.2 ∙ or_second (not (is_import t.kind)) (follows_import b.0.kind) b.3
    where
      or_second : (p q : Bool) → q ≡ true → (p || q) ≡ true
      or_second true q h = refl
      or_second false q h = h

  pub imports_lead : (c : Context) (x : Expression) → IsExpression text c x → import_leads (tokens_of_expression written x) ≡ true
  imports_lead c x h = let b = expression_leads h in ap import_leads b.2 ∙ leads_on b.0 b.1 b.3
