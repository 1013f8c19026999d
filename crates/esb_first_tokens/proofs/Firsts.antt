-- What expressions begin with, by their productions.
use Rattle.std.proofs.Common.{◌≡◌, ℕ, Bool, true, List, [], ◌∷◌, ◌++◌, Option, Some, None, refl, ap, ◌∙◌}
use Rattle.esb_token.specs.declared.kind.Kind.{Kind}
use Rattle.esb_token.specs.declared.kind.Kind.TheVariants as k
use Rattle.esb_token.specs.declared.token.Token.{Token}
use Rattle.esb_tree.specs.declared.classes.Class.{Class}
use Rattle.esb_tree.specs.declared.expressions.Expression.{Expression}
use Rattle.esb_tree.specs.declared.expressions.Expression.TheVariants as e
use Rattle.esb_tree.specs.declared.expressions.Link.TheVariants as l
use Rattle.esb_tree.specs.declared.expressions.Substitutions.{Substitutions}
use Rattle.esb_tree.specs.declared.functions.Function.{Function}
use Rattle.esb_tree.specs.declared.patterns.Bracketed.{Bracketed}
use Rattle.esb_tree.specs.Trees.{written}
use Rattle.esb_tree.specs.Yields.{maybe_token, tokens_of_expression, tokens_of_bracketed, tokens_of_substitutions, tokens_of_function, tokens_of_class}
use Rattle.esb_tree.proofs.TokenLines.{tokens_Primary, tokens_MetaProperty, tokens_ArrayLiteral, tokens_ObjectLiteral, tokens_Parenthesized, tokens_TemplateLiteral, tokens_FunctionExpression, tokens_ClassExpression, tokens_Member, tokens_New, tokens_NewPlain, tokens_ImportCall, tokens_PrefixUpdate, tokens_PostfixUpdate, tokens_Unary, tokens_Await, tokens_Binary, tokens_Conditional, tokens_Assignment, tokens_Arrow, tokens_AsyncArrow, tokens_Yield, tokens_YieldValue, tokens_YieldEach, tokens_Function, tokens_Class, tokens_Substitutions, tokens_Bracketed}
use Rattle.esb_grammar.specs.declared.context.Context.{Context}
use Rattle.esb_grammar.specs.declared.form.Form.{Form}
use Rattle.esb_grammar.specs.declared.form.Form.TheVariants as f
use Rattle.esb_grammar.specs.Forms.{opener}
use Rattle.esb_grammar.specs.Grammar.{IsPrimary, identifier_reference, literal, array_literal, object_literal, parenthesized, template_literal, function_expression, class_expression, IsTemplate, substitution_template, IsOrigin, primary_expression, new_target, import_meta, new_with_arguments, import_call, IsAccess, origin, member, super_member, IsNew, member_expression, new_expression, IsLeftHandSide, access, new_without_arguments, IsUpdate, left_hand_side, postfix, prefix, IsUnary, update, unary, await, IsBinary, unary_expression, exponentiation, IsConditional, short_circuit, conditional, IsAssignment, conditional_expression, assignment, yield_alone, yield_value, yield_each, arrow_function, async_arrow_function, async_arrow_of_name, IsArrowHead, arrow_name, arrow_parameters, IsAsyncArrowHead, async_arrow_parameters, IsExpression, assignment_expression, commas, IsBracketed, bracketed, IsFunction, nameless_function, named_function, IsClass, nameless_class, named_class}
use Rattle.esb_grammar.specs.Kinds.{is_name, is_reference, is_update}
use Rattle.esb_grammar.specs.Words.{is_word, is_async, if_there}
use Rattle.esb_expression_laws.specs.Leaves.{is_leaf}
use Rattle.esb_operator_laws.specs.Unary.{is_prefix}
use Rattle.esb_operator_laws.proofs.TokenTests.{and_left, or_left, or_right}
use Rattle.esb_first_tokens.specs.First.{opens_primary, begins_primary, opens_left, begins_left, is_yield_in, begins_unary, begins_value, Begins}

begins_with : (test : Kind → Bool) (ts : List Token) (first : Token) (rest : List Token) → ts ≡ first ∷ rest → test first.kind ≡ true → Begins test ts
begins_with test ts first rest is kind = record { first = first; rest = rest; is = is; kind = kind }

-- more tokens behind the first
begins_more : (test : Kind → Bool) (ts us vs : List Token) → vs ≡ ts ++ us → Begins test ts → Begins test vs
begins_more test ts us vs is b = record { first = b.first; rest = b.rest ++ us; is = is ∙ ap (λ xs. xs ++ us) b.is; kind = b.kind }

begins_same : (test : Kind → Bool) (ts vs : List Token) → vs ≡ ts → Begins test ts → Begins test vs
begins_same test ts vs is b = record { first = b.first; rest = b.rest; is = is ∙ b.is; kind = b.kind }

-- fewer tests
begins_also : (test wider : Kind → Bool) (ts : List Token) → ((kind : Kind) → test kind ≡ true → wider kind ≡ true) → Begins test ts → Begins wider ts
begins_also test wider ts more b = record { first = b.first; rest = b.rest; is = b.is; kind = more b.first.kind b.kind }

name_is : (kind : Kind) → is_name kind ≡ true → kind ≡ k.Name
name_is k.Name h = refl
name_is _ h = cc

word_is : (text word : List ℕ) (t : Token) → is_word text word t ≡ true → t.kind ≡ k.Name
unfolding is_word
word_is text word t h = name_is t.kind (and_left _ _ h)

module _ (text : List ℕ) where
  abbrev Left : Context → Expression → Type 0
  Left c x = Begins (begins_left c) (tokens_of_expression written x)

  abbrev Primary : Context → Expression → Type 0
  Primary c x = Begins (begins_primary c) (tokens_of_expression written x)

  opened : (c : Context) (kind : Kind) (t : Token) → t.kind ≡ kind → opens_primary kind ≡ true → begins_primary c t.kind ≡ true
  opened c kind t is h = or_right (is_leaf c t.kind) _ (ap opens_primary is ∙ h)

  opener_opens : (form : Form) → opens_primary (opener form) ≡ true
  opener_opens f.Array = refl
  opener_opens f.ArrayPattern = refl
  opener_opens f.Object = refl
  opener_opens f.ObjectPattern = refl
  opener_opens _ = refl

  list_begins : (d : Context) {form : Form} {c : Context} {list : Bracketed} → IsBracketed text form c list → Begins (begins_primary d) (tokens_of_bracketed written list)
  list_begins d {form} {c} (bracketed begin list ending first h last) = begins_with (begins_primary d) _ begin _ (tokens_Bracketed written begin list ending) (opened d (opener form) begin first (opener_opens form))

  template_begins : (d : Context) {c : Context} {template : Substitutions} → IsTemplate text c template → Begins (begins_primary d) (tokens_of_substitutions written template)
  template_begins d (substitution_template begin first rest ending is h more last) = begins_with (begins_primary d) _ begin _ (tokens_Substitutions written begin first rest ending) (opened d k.TemplateHead begin is refl)

  leaf_of_name : (c : Context) (t : Token) → t.kind ≡ k.Name → begins_primary c t.kind ≡ true
  leaf_of_name c t is = ap (begins_primary c) is

  function_at : (d : Context) (async_word : Option Token) (word : Token) (rest vs : List Token) → if_there (is_async text) async_word ≡ true → word.kind ≡ k.Function → vs ≡ maybe_token async_word ++ (word ∷ rest) → Begins (begins_primary d) vs
  function_at d None word rest vs h is e = begins_with (begins_primary d) vs word rest e (opened d k.Function word is refl)
  function_at d (Some t) word rest vs h is e = begins_with (begins_primary d) vs t (word ∷ rest) e (leaf_of_name d t (word_is text _ t h))

  function_begins : (d : Context) {is_named : Bool} {function : Function} → IsFunction text is_named function → Begins (begins_primary d) (tokens_of_function written function)
  function_begins d (nameless_function async_word word star parameters body h1 h2 h3 h4 h5 h6) = function_at d async_word word _ _ h1 h2 (tokens_Function written async_word word star None parameters body)
  function_begins d (named_function async_word word star name parameters body h1 h2 h3 h4 h5 h6 h7) = function_at d async_word word _ _ h1 h2 (tokens_Function written async_word word star (Some name) parameters body)

  class_begins : (d : Context) {is_named : Bool} {c : Context} {class : Class} → IsClass text is_named c class → Begins (begins_primary d) (tokens_of_class written class)
  class_begins d (nameless_class word heritage begin members ending h1 h2 h3 h4 h5) = begins_with (begins_primary d) _ word _ (tokens_Class written word None heritage begin members ending) (opened d k.Class word h1 refl)
  class_begins d (named_class word name heritage begin members ending h1 h2 h3 h4 h5 h6) = begins_with (begins_primary d) _ word _ (tokens_Class written word (Some name) heritage begin members ending) (opened d k.Class word h1 refl)

  leaf_begins : (c : Context) (t : Token) → is_leaf c t.kind ≡ true → Primary c (e.Primary t)
  leaf_begins c t h = begins_with (begins_primary c) _ t [] (tokens_Primary written t) (or_left _ _ h)

  pub primary_begins : {c : Context} {x : Expression} → IsPrimary text c x → Primary c x
  primary_begins {c} (identifier_reference {t = t} h) = leaf_begins c t (or_left _ _ h)
  primary_begins {c} (literal {t = t} h) = leaf_begins c t (or_right (is_reference c t.kind) _ h)
  primary_begins {c} (array_literal {list = list} h) = begins_same (begins_primary c) _ _ (tokens_ArrayLiteral written list) (list_begins c h)
  primary_begins {c} (object_literal {list = list} h) = begins_same (begins_primary c) _ _ (tokens_ObjectLiteral written list) (list_begins c h)
  primary_begins {c} (parenthesized {list = list} h) = begins_same (begins_primary c) _ _ (tokens_Parenthesized written list) (list_begins c h)
  primary_begins {c} (template_literal {template = template} h) = begins_same (begins_primary c) _ _ (tokens_TemplateLiteral written template) (template_begins c h)
  primary_begins {c} (function_expression {function = function} h) = begins_same (begins_primary c) _ _ (tokens_FunctionExpression written function) (function_begins c h)
  primary_begins {c} (class_expression {class = class} h) = begins_same (begins_primary c) _ _ (tokens_ClassExpression written class) (class_begins c h)

  primary_left : (c : Context) (ts : List Token) → Begins (begins_primary c) ts → Begins (begins_left c) ts
  primary_left c ts b = begins_also (begins_primary c) (begins_left c) ts (λ kind h. or_left _ _ h) b

  word_begins : (c : Context) (kind : Kind) (word : Token) (rest vs : List Token) → vs ≡ word ∷ rest → word.kind ≡ kind → opens_left kind ≡ true → Begins (begins_left c) vs
  word_begins c kind word rest vs is h opens = begins_with (begins_left c) vs word rest is (or_right (begins_primary c word.kind) _ (ap opens_left h ∙ opens))

  origin_begins : {calls : Bool} {c : Context} {x : Expression} → IsOrigin text calls c x → Left c x
  origin_begins {c = c} (primary_expression h) = primary_left c _ (primary_begins h)
  origin_begins {c = c} (new_target {word = word} {dot = dot} {name = name} h1 h2 h3) = word_begins c k.New word _ _ (tokens_MetaProperty written word dot name) h1 refl
  origin_begins {c = c} (import_meta {word = word} {dot = dot} {name = name} h1 h2 h3) = word_begins c k.Import word _ _ (tokens_MetaProperty written word dot name) h1 refl
  origin_begins {c = c} (new_with_arguments {word = word} {callee = callee} {arguments = arguments} h1 h2 h3) = word_begins c k.New word _ _ (tokens_New written word callee arguments) h1 refl
  origin_begins {c = c} (import_call {word = word} {begin = begin} {x = x} {ending = ending} h1 h2 h3 h4) = word_begins c k.Import word _ _ (tokens_ImportCall written word begin x ending) h1 refl

  access_begins : {calls : Bool} {c : Context} {x : Expression} → IsAccess text calls c x → Left c x
  access_begins (origin h) = origin_begins h
  access_begins {c = c} (member object first rest h1 h2) = begins_more (begins_left c) _ _ _ (tokens_Member written object (first ∷ rest)) (origin_begins h1)
  access_begins {c = c} (super_member word first rest h1 h2 h3) = begins_more (begins_left c) _ _ _ (tokens_Member written (e.Primary word) (first ∷ rest)) (word_begins c k.Super word [] _ (tokens_Primary written word) h1 refl)

  pub new_begins : {c : Context} {x : Expression} → IsNew text c x → Left c x
  new_begins (member_expression h) = access_begins h
  new_begins {c} (new_expression {word = word} {callee = callee} h1 h2) = word_begins c k.New word _ _ (tokens_NewPlain written word callee) h1 refl

  pub left_begins : {c : Context} {x : Expression} → IsLeftHandSide text c x → Left c x
  left_begins (access h) = access_begins h
  left_begins {c = c} (new_without_arguments {word = word} {callee = callee} h1 h2) = word_begins c k.New word _ _ (tokens_NewPlain written word callee) h1 refl

  -- ---- operators

  abbrev Unary : Context → Expression → Type 0
  Unary c x = Begins (begins_unary c) (tokens_of_expression written x)

  left_unary : (c : Context) (ts : List Token) → Begins (begins_left c) ts → Begins (begins_unary c) ts
  left_unary c ts b = begins_also (begins_left c) (begins_unary c) ts (λ kind h. or_left _ _ h) b

  prefixed : (c : Context) (t : Token) (rest vs : List Token) → vs ≡ t ∷ rest → is_prefix c t.kind ≡ true → Begins (begins_unary c) vs
  prefixed c t rest vs is h = begins_with (begins_unary c) vs t rest is (or_right (begins_left c t.kind) _ h)

  update_begins : {c : Context} {x : Expression} → IsUpdate text c x → Unary c x
  update_begins {c} (left_hand_side h) = left_unary c _ (left_begins h)
  update_begins {c} (postfix {x = x} {operator = operator} h is line) = begins_more (begins_unary c) _ _ _ (tokens_PostfixUpdate written x operator) (left_unary c _ (left_begins h))
  update_begins {c} (prefix {operator = operator} {x = x} is h) = prefixed c operator _ _ (tokens_PrefixUpdate written operator x) (or_left _ _ is)

  pub unary_begins : {c : Context} {x : Expression} → IsUnary text c x → Unary c x
  unary_begins (update h) = update_begins h
  unary_begins {c} (unary {operator = operator} {x = x} is h) = prefixed c operator _ _ (tokens_Unary written operator x) (or_right (is_update operator.kind) _ (or_left _ _ is))
  unary_begins {c} (await {word = word} {x = x} may is h) = prefixed c word _ _ (tokens_Await written word x) (ap (is_prefix c) is ∙ may)

  pub binary_begins : {level : ℕ} {c : Context} {x : Expression} → IsBinary text level c x → Unary c x
  binary_begins (unary_expression h) = unary_begins h
  binary_begins {c = c} (exponentiation first second rest low h powers) = begins_more (begins_unary c) _ _ _ (tokens_Binary written first (second ∷ rest)) (update_begins h)
  binary_begins {c = c} (IsBinary.operators own first second rest low high h others) = begins_more (begins_unary c) _ _ _ (tokens_Binary written first (second ∷ rest)) (binary_begins h)

  -- ---- AssignmentExpressions

  abbrev Value : Context → Expression → Type 0
  Value c x = Begins (begins_value c) (tokens_of_expression written x)

  unary_value : (c : Context) (ts : List Token) → Begins (begins_unary c) ts → Begins (begins_value c) ts
  unary_value c ts b = begins_also (begins_unary c) (begins_value c) ts (λ kind h. or_left _ _ h) b

  yields : (c : Context) (t : Token) (rest vs : List Token) → vs ≡ t ∷ rest → c.has_yield ≡ true → t.kind ≡ k.Yield → Begins (begins_value c) vs
  yields c t rest vs is may h = begins_with (begins_value c) vs t rest is (or_right (begins_unary c t.kind) _ (ap (is_yield_in c) h ∙ may))

  named : (c : Context) (t : Token) (rest vs : List Token) → vs ≡ t ∷ rest → t.kind ≡ k.Name → Begins (begins_value c) vs
  named c t rest vs is h = begins_with (begins_value c) vs t rest is (ap (begins_value c) h)

  head_begins : {c : Context} {x : Expression} → IsArrowHead text c x → Value c x
  head_begins {c} (arrow_name {t = t} h) = unary_value c _ (left_unary c _ (primary_left c _ (leaf_begins c t (or_left _ _ h))))
  head_begins {c} (arrow_parameters {list = list} h1 h2) = unary_value c _ (left_unary c _ (primary_left c _ (begins_same (begins_primary c) _ _ (tokens_Parenthesized written list) (list_begins c h1))))

  async_begins : {c : Context} {x : Expression} → IsAsyncArrowHead text c x → Value c x
  async_begins {c} (async_arrow_parameters word list h1 h2 h3 h4) = begins_more (begins_value c) _ _ _ (tokens_Member written (e.Primary word) (l.Call list ∷ [])) (named c word [] _ (tokens_Primary written word) (word_is text _ word h1))

  pub conditional_begins : {c : Context} {x : Expression} → IsConditional text c x → Value c x
  conditional_begins {c} (short_circuit h) = unary_value c _ (binary_begins h)
  conditional_begins {c} (conditional {test = test} {question = question} {x = x} {colon = colon} {other = other} h1 h2 h3 h4 h5) = begins_more (begins_value c) _ _ _ (tokens_Conditional written test question x colon other) (unary_value c _ (binary_begins h1))

  pub value_begins : {c : Context} {x : Expression} → IsAssignment text c x → Value c x
  value_begins (conditional_expression h) = conditional_begins h
  value_begins {c} (assignment {target = target} {operator = operator} {x = x} h1 h2 h3) = begins_more (begins_value c) _ _ _ (tokens_Assignment written target operator x) (unary_value c _ (left_unary c _ (left_begins h1)))
  value_begins {c} (yield_alone {word = word} h1 h2) = yields c word _ _ (tokens_Yield written word) h1 h2
  value_begins {c} (yield_value {word = word} {x = x} h1 h2 h3 h4) = yields c word _ _ (tokens_YieldValue written word x) h1 h2
  value_begins {c} (yield_each {word = word} {star = star} {x = x} h1 h2 h3 h4 h5) = yields c word _ _ (tokens_YieldEach written word star x) h1 h2
  value_begins {c} (arrow_function {parameters = parameters} {arrow = arrow} {body = body} h1 h2 h3 h4) = begins_more (begins_value c) _ _ _ (tokens_Arrow written parameters arrow body) (head_begins h1)
  value_begins {c} (async_arrow_function {parameters = parameters} {arrow = arrow} {body = body} h1 h2 h3 h4) = begins_more (begins_value c) _ _ _ (tokens_Arrow written parameters arrow body) (async_begins h1)
  value_begins {c} (async_arrow_of_name {word = word} {name = name} {arrow = arrow} {body = body} h1 h2 h3 h4 h5 h6) = named c word _ _ (tokens_AsyncArrow written word name arrow body) (word_is text _ word h1)

  pub expression_begins : {c : Context} {x : Expression} → IsExpression text c x → Value c x
  expression_begins (assignment_expression h) = value_begins h
  expression_begins {c} (commas first second rest h others) = begins_more (begins_value c) _ _ _ (tokens_Binary written first (second ∷ rest)) (value_begins h)
