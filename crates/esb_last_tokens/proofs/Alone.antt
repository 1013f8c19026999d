-- No expression but a name is the token `let` alone: all others have a token of another kind.
use Rattle.std.proofs.Common.{◌≡◌, ◌<◌, ℕ, Bool, true, false, List, [], ◌∷◌, ◌++◌, Option, Some, None, refl, sym, ap, ◌∙◌, arith}
use Rattle.std.specs.List.{flat_map}
use Rattle.esb_token.specs.declared.kind.Kind.TheVariants as k
use Rattle.esb_token.specs.declared.token.Token.{Token}
use Rattle.esb_tree.specs.declared.expressions.Expression.{Expression}
use Rattle.esb_tree.specs.declared.expressions.Expression.TheVariants as e
use Rattle.esb_tree.specs.declared.expressions.Operand.{Operand, out-Operand, roll-out-Operand}
use Rattle.esb_tree.specs.declared.functions.Function.{Function}
use Rattle.esb_tree.specs.declared.patterns.Bracketed.{Bracketed}
use Rattle.esb_tree.specs.Operators.{level_of, is_unary, is_assignment}
use Rattle.esb_tree.specs.Trees.{written}
use Rattle.esb_tree.specs.Yields.{Tokens, maybe_token, tokens_of_expression, tokens_of_bracketed, tokens_of_function, tokens_of_operand}
use Rattle.esb_tree.proofs.TokenLines.{tokens_Primary, tokens_MetaProperty, tokens_ArrayLiteral, tokens_ObjectLiteral, tokens_Parenthesized, tokens_TemplateLiteral, tokens_FunctionExpression, tokens_ClassExpression, tokens_Member, tokens_New, tokens_NewPlain, tokens_ImportCall, tokens_PrefixUpdate, tokens_PostfixUpdate, tokens_Unary, tokens_Await, tokens_Binary, tokens_Conditional, tokens_Assignment, tokens_Arrow, tokens_AsyncArrow, tokens_Yield, tokens_YieldValue, tokens_YieldEach, tokens_Function, tokens_Class, tokens_Operand, tokens_Substitutions, tokens_Bracketed}
use Rattle.esb_grammar.specs.declared.context.Context.{Context}
use Rattle.esb_grammar.specs.declared.form.Form.{Form}
use Rattle.esb_grammar.specs.declared.form.Form.TheVariants as f
use Rattle.esb_grammar.specs.Forms.{opener}
use Rattle.esb_grammar.specs.Grammar.{IsPrimary, identifier_reference, literal, array_literal, object_literal, parenthesized, template_literal, function_expression, class_expression, substitution_template, primary_expression, new_target, import_meta, new_with_arguments, import_call, origin, member, super_member, IsLeftHandSide, access, new_without_arguments, IsUpdate, left_hand_side, postfix, prefix, IsUnary, update, unary, await, IsBinary, unary_expression, exponentiation, ArePowers, last_power, more_powers, AreOperands, more_operands, short_circuit, conditional, IsAssignment, conditional_expression, assignment, yield_alone, yield_value, yield_each, arrow_function, async_arrow_function, async_arrow_of_name, IsExpression, assignment_expression, commas, AreCommaOperands, comma_operand, IsBracketed, bracketed, IsFunction, nameless_function, named_function, nameless_class, named_class}
use Rattle.esb_grammar.specs.Kinds.{is_name, is_update}
use Rattle.esb_grammar.specs.Words.{is_word, is_async, if_there}
use Rattle.esb_operator_laws.proofs.TokenTests.{and_left}
use Rattle.esb_last_tokens.specs.Laws.{LetAlone}
use Rattle.esb_last_tokens.proofs.Edges.{Ends, origin_ends, links_end, word_ends}

abbrev first_of : Token → Tokens → Token
first_of t [] = t
first_of t (u ∷ us) = u

abbrev rest_of : Tokens → Tokens
rest_of [] = []
rest_of (t ∷ ts) = ts

-- tokens that are `let` alone
record IsLet (t : Token) (ts : Tokens) : Type 0 where
  is : ts ≡ t ∷ []
  kind : t.kind ≡ k.Let

let_same : (t : Token) (ts us : Tokens) → ts ≡ us → IsLet t ts → IsLet t us
let_same t ts us same h = record { is = sym same ∙ h.is; kind = h.kind }

first_is : (u t : Token) (us ts : Tokens) → ts ≡ u ∷ us → IsLet t ts → u ≡ t
first_is u t us ts is h = ap (first_of t) (sym is ∙ h.is)

-- the first token is of the kind
first_kind : (u t : Token) (us ts : Tokens) → ts ≡ u ∷ us → IsLet t ts → u.kind ≡ k.Let
first_kind u t us ts is h = ap (λ x. x.kind) (first_is u t us ts is h) ∙ h.kind

no_more : (ts : Tokens) (u : Token) (us : Tokens) → ts ++ (u ∷ us) ≡ [] → ⊥
no_more [] u us h = cc
no_more (t ∷ ts) u us h = cc

-- and so is any token in them, which is the first
later_kind : (before : Tokens) (u t : Token) (us ts : Tokens) → ts ≡ before ++ (u ∷ us) → IsLet t ts → u.kind ≡ k.Let
later_kind [] u t us ts is h = first_kind u t us ts is h
later_kind (x ∷ xs) u t us ts is h = elim (no_more xs u us (ap rest_of (sym is ∙ h.is))) [ ]

-- Two parts with tokens are more than one token.
two_parts : (t : Token) (front back ts : Tokens) → ts ≡ front ++ back → Ends front → Ends back → IsLet t ts → ⊥
two_parts t front back ts is a b h = apart a.before b.before (ap (λ xs. xs ++ back) (sym a.is) ∙ sym is ∙ h.is) b.is
  where
    apart : (xs ys : Tokens) → (xs ++ (a.last ∷ [])) ++ back ≡ t ∷ [] → back ≡ ys ++ (b.last ∷ []) → ⊥
    apart [] ys e g = no_more ys b.last [] (sym g ∙ ap rest_of e)
    apart (x ∷ []) ys e g = let bad : a.last ∷ back ≡ [] = ap rest_of e in cc
    apart (x ∷ y ∷ xs) ys e g = let bad : y ∷ ((xs ++ (a.last ∷ [])) ++ back) ≡ [] = ap rest_of e in cc

no_name : (text word : List ℕ) (t : Token) → is_word text word t ≡ true → t.kind ≡ k.Let → ⊥
unfolding is_word
no_name text word t h g = let bad : false ≡ true = sym (ap is_name g) ∙ and_left _ _ h in cc

no_opener : (form : Form) → opener form ≡ k.Let → ⊥
no_opener f.Array h = cc
no_opener f.ArrayPattern h = cc
no_opener f.Object h = cc
no_opener f.ObjectPattern h = cc
no_opener _ h = cc

module _ (text : List ℕ) (t : Token) where
  abbrev Alone : Expression → Type 0
  Alone x = IsLet t (tokens_of_expression written x)

  leaf_is : (u : Token) → Alone (e.Primary u) → e.Primary u ≡ e.Primary t
  leaf_is u h = ap e.Primary (first_is u t [] _ (tokens_Primary written u) h)

  no_list : {form : Form} {c : Context} {list : Bracketed} → IsBracketed text form c list → IsLet t (tokens_of_bracketed written list) → ⊥
  no_list {form} (bracketed begin list ending first g last) h = no_opener form (sym first ∙ first_kind begin t _ _ (tokens_Bracketed written begin list ending) h)

  no_function_at : (async_word : Option Token) (word : Token) (rest ts : Tokens) → if_there (is_async text) async_word ≡ true → word.kind ≡ k.Function → ts ≡ maybe_token async_word ++ (word ∷ rest) → IsLet t ts → ⊥
  no_function_at None word rest ts g is e h = let bad : k.Function ≡ k.Let = sym is ∙ first_kind word t rest ts e h in cc
  no_function_at (Some u) word rest ts g is e h = no_name text _ u g (first_kind u t (word ∷ rest) ts e h)

  no_function : {is_named : Bool} {function : Function} → IsFunction text is_named function → IsLet t (tokens_of_function written function) → ⊥
  no_function (nameless_function async_word word star parameters body h1 h2 h3 h4 h5 h6) h = no_function_at async_word word _ _ h1 h2 (tokens_Function written async_word word star None parameters body) h
  no_function (named_function async_word word star name parameters body h1 h2 h3 h4 h5 h6 h7) h = no_function_at async_word word _ _ h1 h2 (tokens_Function written async_word word star (Some name) parameters body) h

  primary_alone : {c : Context} {x : Expression} → IsPrimary text c x → Alone x → x ≡ e.Primary t
  primary_alone (identifier_reference {t = u} g) h = leaf_is u h
  primary_alone (literal {t = u} g) h = leaf_is u h
  primary_alone (array_literal {list = list} g) h = elim (no_list g (let_same t _ _ (tokens_ArrayLiteral written list) h)) [ ]
  primary_alone (object_literal {list = list} g) h = elim (no_list g (let_same t _ _ (tokens_ObjectLiteral written list) h)) [ ]
  primary_alone (parenthesized {list = list} g) h = elim (no_list g (let_same t _ _ (tokens_Parenthesized written list) h)) [ ]
  primary_alone (template_literal {template = template} (substitution_template begin first rest ending is more others last)) h =
      let bad : k.TemplateHead ≡ k.Let = sym is ∙ first_kind begin t _ _ (tokens_Substitutions written begin first rest ending) (let_same t _ _ (tokens_TemplateLiteral written _) h) in cc
  primary_alone (function_expression {function = function} g) h = elim (no_function g (let_same t _ _ (tokens_FunctionExpression written function) h)) [ ]
  primary_alone (class_expression {class = class} (nameless_class word heritage begin members ending h1 h2 h3 h4 h5)) h =
      let bad : k.Class ≡ k.Let = sym h1 ∙ first_kind word t _ _ (tokens_Class written word None heritage begin members ending) (let_same t _ _ (tokens_ClassExpression written _) h) in cc
  primary_alone (class_expression {class = class} (named_class word name heritage begin members ending h1 h2 h3 h4 h5 h6)) h =
      let bad : k.Class ≡ k.Let = sym h1 ∙ first_kind word t _ _ (tokens_Class written word (Some name) heritage begin members ending) (let_same t _ _ (tokens_ClassExpression written _) h) in cc

  left_alone : {c : Context} {x : Expression} → IsLeftHandSide text c x → Alone x → x ≡ e.Primary t
  left_alone (access (origin (primary_expression g))) h = primary_alone g h
  left_alone (access (origin (new_target {word = word} {dot = dot} {name = name} h1 h2 h3))) h = let bad : k.New ≡ k.Let = sym h1 ∙ first_kind word t _ _ (tokens_MetaProperty written word dot name) h in cc
  left_alone (access (origin (import_meta {word = word} {dot = dot} {name = name} h1 h2 h3))) h = let bad : k.Import ≡ k.Let = sym h1 ∙ first_kind word t _ _ (tokens_MetaProperty written word dot name) h in cc
  left_alone (access (origin (new_with_arguments {word = word} {callee = callee} {arguments = arguments} h1 h2 h3))) h = let bad : k.New ≡ k.Let = sym h1 ∙ first_kind word t _ _ (tokens_New written word callee arguments) h in cc
  left_alone (access (origin (import_call {word = word} {begin = begin} {x = x} {ending = ending} h1 h2 h3 h4))) h = let bad : k.Import ≡ k.Let = sym h1 ∙ first_kind word t _ _ (tokens_ImportCall written word begin x ending) h in cc
  left_alone (access (member object first rest h1 h2)) h = elim (two_parts t _ _ _ (tokens_Member written object (first ∷ rest)) (origin_ends text h1) (links_end text first rest h2) h) [ ]
  left_alone (access (super_member word first rest h1 h2 h3)) h = elim (two_parts t _ _ _ (tokens_Member written (e.Primary word) (first ∷ rest)) (word_ends text word h1) (links_end text first rest h3) h) [ ]
  left_alone (new_without_arguments {word = word} {callee = callee} h1 h2) h = let bad : k.New ≡ k.Let = sym h1 ∙ first_kind word t _ _ (tokens_NewPlain written word callee) h in cc

  update_alone : {c : Context} {x : Expression} → IsUpdate text c x → Alone x → x ≡ e.Primary t
  update_alone (left_hand_side g) h = left_alone g h
  update_alone (postfix {x = x} {operator = operator} h1 h2 h3) h = let bad : false ≡ true = sym (ap is_update (later_kind (tokens_of_expression written x) operator t _ _ (tokens_PostfixUpdate written x operator) h)) ∙ h2 in cc
  update_alone (prefix {operator = operator} {x = x} h1 h2) h = let bad : false ≡ true = sym (ap is_update (first_kind operator t _ _ (tokens_PrefixUpdate written operator x) h)) ∙ h1 in cc

  unary_alone : {c : Context} {x : Expression} → IsUnary text c x → Alone x → x ≡ e.Primary t
  unary_alone (update g) h = update_alone g h
  unary_alone (unary {operator = operator} {x = x} h1 h2) h = let bad : false ≡ true = sym (ap is_unary (first_kind operator t _ _ (tokens_Unary written operator x) h)) ∙ h1 in cc
  unary_alone (await {word = word} {x = x} h1 h2 h3) h = let bad : k.Await ≡ k.Let = sym h2 ∙ first_kind word t _ _ (tokens_Await written word x) h in cc

  -- the operator behind the first operand
  operator_kind : (first : Expression) (second : Operand) (rest : List Operand) → Alone (e.Binary first (second ∷ rest)) → (out-Operand second).operator.kind ≡ k.Let
  operator_kind first second rest h =
      let o = out-Operand second in
      let is : tokens_of_operand written second ≡ o.operator ∷ tokens_of_expression written o.value = ap (tokens_of_operand written) (sym (roll-out-Operand second)) ∙ tokens_Operand written o.operator o.value in
      later_kind (tokens_of_expression written first) o.operator t _ _ (tokens_Binary written first (second ∷ rest) ∙ ap (λ ts. tokens_of_expression written first ++ (ts ++ flat_map (tokens_of_operand written) rest)) is) h

  no_power : {c : Context} {o : Operand} {os : List Operand} → ArePowers text c (o ∷ os) → (out-Operand o).operator.kind ≡ k.Let → ⊥
  no_power (last_power h1 h2) h = let bad : k.StarStar ≡ k.Let = sym h1 ∙ h in cc
  no_power (more_powers h1 h2 more) h = let bad : k.StarStar ≡ k.Let = sym h1 ∙ h in cc

  no_level : (has_in : Bool) → level_of has_in k.Let ≡ 0
  no_level has_in = refl

  no_operator : {own : ℕ} {c : Context} {o : Operand} {os : List Operand} → 1 < own → AreOperands text own c (o ∷ os) → (out-Operand o).operator.kind ≡ k.Let → ⊥
  no_operator {own} {c} low (more_operands level g more) h = let none : own ≡ 0 = sym level ∙ ap (level_of c.has_in) h ∙ no_level c.has_in in omega arith

  no_comma : {c : Context} {o : Operand} {os : List Operand} → AreCommaOperands text c (o ∷ os) → (out-Operand o).operator.kind ≡ k.Let → ⊥
  no_comma (comma_operand h1 h2 more) h = let bad : k.Comma ≡ k.Let = sym h1 ∙ h in cc

  binary_alone : {level : ℕ} {c : Context} {x : Expression} → IsBinary text level c x → Alone x → x ≡ e.Primary t
  binary_alone (unary_expression g) h = unary_alone g h
  binary_alone (exponentiation first second rest low g powers) h = elim (no_power powers (operator_kind first second rest h)) [ ]
  binary_alone (IsBinary.operators own first second rest low high g others) h = elim (no_operator low others (operator_kind first second rest h)) [ ]

  assignment_alone : {c : Context} {x : Expression} → IsAssignment text c x → Alone x → x ≡ e.Primary t
  assignment_alone (conditional_expression (short_circuit g)) h = binary_alone g h
  assignment_alone (conditional_expression (conditional {test = test} {question = question} {x = x} {colon = colon} {other = other} h1 h2 h3 h4 h5)) h =
      let bad : k.Question ≡ k.Let = sym h2 ∙ later_kind (tokens_of_expression written test) question t _ _ (tokens_Conditional written test question x colon other) h in cc
  assignment_alone (assignment {target = target} {operator = operator} {x = x} h1 h2 h3) h =
      let bad : false ≡ true = sym (ap is_assignment (later_kind (tokens_of_expression written target) operator t _ _ (tokens_Assignment written target operator x) h)) ∙ h2 in cc
  assignment_alone (yield_alone {word = word} h1 h2) h = let bad : k.Yield ≡ k.Let = sym h2 ∙ first_kind word t _ _ (tokens_Yield written word) h in cc
  assignment_alone (yield_value {word = word} {x = x} h1 h2 h3 h4) h = let bad : k.Yield ≡ k.Let = sym h2 ∙ first_kind word t _ _ (tokens_YieldValue written word x) h in cc
  assignment_alone (yield_each {word = word} {star = star} {x = x} h1 h2 h3 h4 h5) h = let bad : k.Yield ≡ k.Let = sym h2 ∙ first_kind word t _ _ (tokens_YieldEach written word star x) h in cc
  assignment_alone (arrow_function {parameters = head} {arrow = arrow} {body = body} h1 h2 h3 h4) h = let bad : k.Arrow ≡ k.Let = sym h2 ∙ later_kind (tokens_of_expression written head) arrow t _ _ (tokens_Arrow written head arrow body) h in cc
  assignment_alone (async_arrow_function {parameters = head} {arrow = arrow} {body = body} h1 h2 h3 h4) h = let bad : k.Arrow ≡ k.Let = sym h2 ∙ later_kind (tokens_of_expression written head) arrow t _ _ (tokens_Arrow written head arrow body) h in cc
  assignment_alone (async_arrow_of_name {word = word} {name = name} {arrow = arrow} {body = body} h1 h2 h3 h4 h5 h6) h = elim (no_name text _ word h1 (first_kind word t _ _ (tokens_AsyncArrow written word name arrow body) h)) [ ]

  expression_alone : {c : Context} {x : Expression} → IsExpression text c x → Alone x → x ≡ e.Primary t
  expression_alone (assignment_expression g) h = assignment_alone g h
  expression_alone (commas first second rest g others) h = elim (no_comma others (operator_kind first second rest h)) [ ]

pub let_alone : LetAlone
let_alone text c x t good is kind = expression_alone text t good (record { is = is; kind = kind })
