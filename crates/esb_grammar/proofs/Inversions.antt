-- Which production a node is of, by what it is on the outside.
use Rattle.std.proofs.Common.{◌≡◌, ℕ, Bool, true, false, List, ◌⊎◌, inl, inr, refl, ap, sym, ◌∙◌, subst, Option, Some, None, unwrap_or}
use Rattle.esb_token.specs.declared.token.Token.{Token}
use Rattle.esb_tree.specs.declared.classes.ClassElement.TheOpen.{Expression-F}
use Rattle.esb_tree.specs.declared.expressions.Expression.{Expression, out-Expression, out-roll-Expression}
use Rattle.esb_tree.specs.declared.expressions.Expression.TheVariants as e
use Rattle.esb_tree.specs.declared.functions.ConciseBody.{ConciseBody}
use Rattle.esb_tree.specs.declared.patterns.Bracketed.{Bracketed}
use Rattle.esb_grammar.specs.declared.context.Context.{Context}
use Rattle.esb_grammar.specs.declared.form.Form.TheVariants as f
use Rattle.esb_grammar.specs.Grammar.{IsPrimary, identifier_reference, literal, array_literal, object_literal, parenthesized, template_literal, function_expression, class_expression, IsOrigin, primary_expression, new_target, import_meta, new_with_arguments, import_call, IsAccess, IsLeftHandSide, access, new_without_arguments, IsUpdate, left_hand_side, postfix, prefix, IsNew, member_expression, new_expression, unary_expression, exponentiation, operators, short_circuit, conditional, IsAssignment, conditional_expression, assignment, yield_alone, yield_value, yield_each, arrow_function, async_arrow_function, async_arrow_of_name, IsArrowHead, arrow_name, arrow_parameters, IsAsyncArrowHead, IsBracketed}
use Rattle.esb_grammar.specs.Words.{is_async}
use Rattle.esb_grammar.proofs.Shapes.{Layer, some_first, some_second, is_left_layer, is_access_layer, is_unary_layer, is_update_layer, unary_shape, left_shape, access_shape}

abbrev pub is_primary_layer : Layer → Bool
is_primary_layer (Expression-F.MetaProperty word dot name) = false
is_primary_layer (Expression-F.New word callee arguments) = false
is_primary_layer (Expression-F.ImportCall word begin x ending) = false
is_primary_layer _ = true

pub primary_of : {text : List ℕ} {calls : Bool} {c : Context} {x : Expression} → IsOrigin text calls c x → is_primary_layer (out-Expression x) ≡ true → IsPrimary text c x
unfolding out-Expression denote.Hole.Carrier.out
primary_of (primary_expression h) is = h
primary_of (new_target h1 h2 h3) is = cc
primary_of (import_meta h1 h2 h3) is = cc
primary_of (new_with_arguments h1 h2 h3) is = cc
primary_of (import_call h1 h2 h3 h4) is = cc

-- ---- lists

pub out_parenthesized : (list : Bracketed) → out-Expression (e.Parenthesized list) ≡ Expression-F.Parenthesized list
out_parenthesized list = ap out-Expression (sym (e.rolls-Parenthesized list)) ∙ out-roll-Expression (Expression-F.Parenthesized list)

pub out_object : (list : Bracketed) → out-Expression (e.ObjectLiteral list) ≡ Expression-F.ObjectLiteral list
out_object list = ap out-Expression (sym (e.rolls-ObjectLiteral list)) ∙ out-roll-Expression (Expression-F.ObjectLiteral list)

abbrev pub list_layer : Bracketed → Layer → Bracketed
list_layer other (Expression-F.Parenthesized list) = list
list_layer other (Expression-F.ObjectLiteral list) = list
list_layer other _ = other

pub parenthesized_list : {text : List ℕ} {c : Context} {x : Expression} (list : Bracketed) → IsPrimary text c x → out-Expression x ≡ Expression-F.Parenthesized list → IsBracketed text f.Values c list
unfolding out-Expression denote.Hole.Carrier.out
parenthesized_list {text} {c} list (parenthesized {list = own} h) is = subst (IsBracketed text f.Values c) (ap (list_layer own) (sym (out_parenthesized own) ∙ is)) h
parenthesized_list list (identifier_reference h) is = cc
parenthesized_list list (literal h) is = cc
parenthesized_list list (array_literal h) is = cc
parenthesized_list list (object_literal h) is = cc
parenthesized_list list (template_literal h) is = cc
parenthesized_list list (function_expression h) is = cc
parenthesized_list list (class_expression h) is = cc

pub object_list : {text : List ℕ} {c : Context} {x : Expression} (list : Bracketed) → IsPrimary text c x → out-Expression x ≡ Expression-F.ObjectLiteral list → IsBracketed text f.Object c list
unfolding out-Expression denote.Hole.Carrier.out
object_list {text} {c} list (object_literal {list = own} h) is = subst (IsBracketed text f.Object c) (ap (list_layer own) (sym (out_object own) ∙ is)) h
object_list list (identifier_reference h) is = cc
object_list list (literal h) is = cc
object_list list (array_literal h) is = cc
object_list list (parenthesized h) is = cc
object_list list (template_literal h) is = cc
object_list list (function_expression h) is = cc
object_list list (class_expression h) is = cc

-- ---- arrow functions

pub record IsArrow (Head : Expression → Type 0) (x : Expression) (arrow : Token) : Type 0 where
  pub parameters : Head x
  pub on_line : arrow.after_line ≡ false

out_arrow : (parameters : Expression) (arrow : Token) (body : ConciseBody) → out-Expression (e.Arrow parameters arrow body) ≡ Expression-F.Arrow parameters arrow body
out_arrow parameters arrow body = ap out-Expression (sym (e.rolls-Arrow parameters arrow body)) ∙ out-roll-Expression (Expression-F.Arrow parameters arrow body)

abbrev pub arrow_layer : Layer → Option (Expression × Token)
arrow_layer (Expression-F.Arrow parameters arrow body) = Some (parameters, arrow)
arrow_layer _ = None

no_arrow : {p : Expression × Token} (x : Layer) → is_unary_layer x ≡ true → arrow_layer x ≡ Some p → ⊥
no_arrow (Expression-F.Arrow parameters arrow body) h is = let is : false ≡ true = h in cc
no_arrow _ h is = cc

arrow_at : (text : List ℕ) (c : Context) (x parameters : Expression) (arrow : Token) → IsAssignment text c x → arrow_layer (out-Expression x) ≡ Some (parameters, arrow) → IsArrow (IsArrowHead text c) parameters arrow ⊎ IsArrow (IsAsyncArrowHead text c) parameters arrow
unfolding out-Expression denote.Hole.Carrier.out
arrow_at text c x parameters arrow (arrow_function {parameters = p} {arrow = q} {body = body} h1 h2 h3 h4) is =
    let same = sym (ap arrow_layer (out_arrow p q body)) ∙ is in
    inl (record { parameters = subst (IsArrowHead text c) (some_first same) h1; on_line = subst (λ o. o.after_line ≡ false) (some_second same) h3 })
arrow_at text c x parameters arrow (async_arrow_function {parameters = p} {arrow = q} {body = body} h1 h2 h3 h4) is =
    let same = sym (ap arrow_layer (out_arrow p q body)) ∙ is in
    inr (record { parameters = subst (IsAsyncArrowHead text c) (some_first same) h1; on_line = subst (λ o. o.after_line ≡ false) (some_second same) h3 })
arrow_at text c x parameters arrow (conditional_expression (short_circuit (unary_expression h))) is = absurd (no_arrow (out-Expression x) (unary_shape h) is)
arrow_at text c x parameters arrow (conditional_expression (short_circuit (exponentiation first second rest h1 h2 h3))) is = cc
arrow_at text c x parameters arrow (conditional_expression (short_circuit (operators own first second rest h1 h2 h3 h4))) is = cc
arrow_at text c x parameters arrow (conditional_expression (conditional h1 h2 h3 h4 h5)) is = cc
arrow_at text c x parameters arrow (assignment h1 h2 h3) is = cc
arrow_at text c x parameters arrow (yield_alone h1 h2) is = cc
arrow_at text c x parameters arrow (yield_value h1 h2 h3 h4) is = cc
arrow_at text c x parameters arrow (yield_each h1 h2 h3 h4 h5) is = cc
arrow_at text c x parameters arrow (async_arrow_of_name h1 h2 h3 h4 h5 h6) is = cc

pub arrow_of : {text : List ℕ} {c : Context} (parameters : Expression) (arrow : Token) (body : ConciseBody) → IsAssignment text c (e.Arrow parameters arrow body) → IsArrow (IsArrowHead text c) parameters arrow ⊎ IsArrow (IsAsyncArrowHead text c) parameters arrow
arrow_of {text} {c} parameters arrow body h = arrow_at text c (e.Arrow parameters arrow body) parameters arrow h (ap arrow_layer (out_arrow parameters arrow body))

head_list : {text : List ℕ} {c : Context} {x : Expression} (list : Bracketed) → IsArrowHead text c x → out-Expression x ≡ Expression-F.Parenthesized list → IsBracketed text f.Parameters c list
unfolding out-Expression denote.Hole.Carrier.out
head_list {text} {c} list (arrow_parameters {list = own} h1 h2) is = subst (IsBracketed text f.Parameters c) (ap (list_layer own) (sym (out_parenthesized own) ∙ is)) h2
head_list list (arrow_name h) is = cc

pub parameters_of : {text : List ℕ} {c : Context} (list : Bracketed) → IsArrowHead text c (e.Parenthesized list) → IsBracketed text f.Parameters c list
parameters_of list h = head_list list h (out_parenthesized list)

-- ---- assignments and `yield`

out_assignment : (target : Expression) (operator : Token) (x : Expression) → out-Expression (e.Assignment target operator x) ≡ Expression-F.Assignment target operator x
out_assignment target operator x = ap out-Expression (sym (e.rolls-Assignment target operator x)) ∙ out-roll-Expression (Expression-F.Assignment target operator x)

abbrev pub target_layer : Layer → Option Expression
target_layer (Expression-F.Assignment target operator x) = Some target
target_layer _ = None

abbrev pub yield_layer : Layer → Bool
yield_layer (Expression-F.Yield word) = true
yield_layer _ = false

no_assignment : {p : Expression} (x : Layer) → is_unary_layer x ≡ true → target_layer x ≡ Some p → ⊥
no_assignment (Expression-F.Assignment target operator x) h is = let is : false ≡ true = h in cc
no_assignment _ h is = cc

no_yield : (x : Layer) → is_unary_layer x ≡ true → yield_layer x ≡ true → ⊥
no_yield (Expression-F.Yield word) h is = let is : false ≡ true = h in cc
no_yield _ h is = cc

target_at : (text : List ℕ) (c : Context) (x target : Expression) → IsAssignment text c x → target_layer (out-Expression x) ≡ Some target → IsLeftHandSide text c target
unfolding out-Expression denote.Hole.Carrier.out
target_at text c x target (assignment {target = own} {operator = operator} {x = y} h1 h2 h3) is = subst (IsLeftHandSide text c) (ap (λ o. unwrap_or o own) (sym (ap target_layer (out_assignment own operator y)) ∙ is)) h1
target_at text c x target (conditional_expression (short_circuit (unary_expression h))) is = absurd (no_assignment (out-Expression x) (unary_shape h) is)
target_at text c x target (conditional_expression (short_circuit (exponentiation first second rest h1 h2 h3))) is = cc
target_at text c x target (conditional_expression (short_circuit (operators own first second rest h1 h2 h3 h4))) is = cc
target_at text c x target (conditional_expression (conditional h1 h2 h3 h4 h5)) is = cc
target_at text c x target (yield_alone h1 h2) is = cc
target_at text c x target (yield_value h1 h2 h3 h4) is = cc
target_at text c x target (yield_each h1 h2 h3 h4 h5) is = cc
target_at text c x target (arrow_function h1 h2 h3 h4) is = cc
target_at text c x target (async_arrow_function h1 h2 h3 h4) is = cc
target_at text c x target (async_arrow_of_name h1 h2 h3 h4 h5 h6) is = cc

pub target_of : {text : List ℕ} {c : Context} (target : Expression) (operator : Token) (x : Expression) → IsAssignment text c (e.Assignment target operator x) → IsLeftHandSide text c target
target_of {text} {c} target operator x h = target_at text c (e.Assignment target operator x) target h (ap target_layer (out_assignment target operator x))

yield_at : (text : List ℕ) (c : Context) (x : Expression) → IsAssignment text c x → yield_layer (out-Expression x) ≡ true → c.has_yield ≡ true
unfolding out-Expression denote.Hole.Carrier.out
yield_at text c x (yield_alone h1 h2) is = h1
yield_at text c x (conditional_expression (short_circuit (unary_expression h))) is = absurd (no_yield (out-Expression x) (unary_shape h) is)
yield_at text c x (conditional_expression (short_circuit (exponentiation first second rest h1 h2 h3))) is = cc
yield_at text c x (conditional_expression (short_circuit (operators own first second rest h1 h2 h3 h4))) is = cc
yield_at text c x (conditional_expression (conditional h1 h2 h3 h4 h5)) is = cc
yield_at text c x (assignment h1 h2 h3) is = cc
yield_at text c x (yield_value h1 h2 h3 h4) is = cc
yield_at text c x (yield_each h1 h2 h3 h4 h5) is = cc
yield_at text c x (arrow_function h1 h2 h3 h4) is = cc
yield_at text c x (async_arrow_function h1 h2 h3 h4) is = cc
yield_at text c x (async_arrow_of_name h1 h2 h3 h4 h5 h6) is = cc

pub yield_context : {text : List ℕ} {c : Context} (word : Token) → IsAssignment text c (e.Yield word) → c.has_yield ≡ true
unfolding out-Expression denote.Hole.Carrier.out
yield_context {text} {c} word h = yield_at text c (e.Yield word) h refl

-- ---- `await`, `new`, `++`

abbrev pub is_await_layer : Layer → Bool
is_await_layer (Expression-F.Await word x) = true
is_await_layer _ = false

pub not_update_of_await : (x : Layer) → is_await_layer x ≡ true → is_update_layer x ≡ true → ⊥
not_update_of_await (Expression-F.Await word x) is h = let is : false ≡ true = h in cc
not_update_of_await _ is h = cc

pub member_callee : {text : List ℕ} {c : Context} (x : Expression) → is_access_layer (out-Expression x) ≡ true → IsNew text c x → IsAccess text false c x
unfolding out-Expression denote.Hole.Carrier.out
member_callee x shape (member_expression h) = h
member_callee x shape (new_expression h1 h2) = cc

pub out_new : (word : Token) (callee : Expression) → out-Expression (e.NewPlain word callee) ≡ Expression-F.NewPlain word callee
out_new word callee = ap out-Expression (sym (e.rolls-NewPlain word callee)) ∙ out-roll-Expression (Expression-F.NewPlain word callee)

abbrev pub callee_layer : Expression → Layer → Expression
callee_layer other (Expression-F.NewPlain word callee) = callee
callee_layer other _ = other

no_new : (x : Layer) (word : Token) (callee : Expression) → is_access_layer x ≡ true → x ≡ Expression-F.NewPlain word callee → ⊥
no_new x word callee shape is = let never : false ≡ true = sym (ap is_access_layer is) ∙ shape in cc

pub new_callee : {text : List ℕ} {c : Context} (x : Expression) (word : Token) (callee : Expression) → out-Expression x ≡ Expression-F.NewPlain word callee → IsLeftHandSide text c x → IsNew text c callee
new_callee x word callee is (access h) = absurd (no_new (out-Expression x) word callee (access_shape h) is)
new_callee {text} {c} x word callee is (new_without_arguments {word = other} {callee = own} h1 h2) = subst (IsNew text c) (ap (callee_layer own) (sym (out_new other own) ∙ is)) h2

abbrev pub operator_layer : Layer → Option Token
operator_layer (Expression-F.PostfixUpdate x operator) = Some operator
operator_layer _ = None

no_postfix : {p : Token} (x : Layer) → is_left_layer x ≡ true → operator_layer x ≡ Some p → ⊥
no_postfix (Expression-F.PostfixUpdate x operator) h is = let is : false ≡ true = h in cc
no_postfix _ h is = cc

pub postfix_line : {text : List ℕ} {c : Context} (x : Expression) (operator : Token) → operator_layer (out-Expression x) ≡ Some operator → IsUpdate text c x → operator.after_line ≡ false
unfolding out-Expression denote.Hole.Carrier.out
postfix_line x operator is (postfix {operator = own} h1 h2 h3) = subst (λ o. o.after_line ≡ false) (ap (λ o. unwrap_or o own) is) h3
postfix_line x operator is (prefix h1 h2) = cc
postfix_line x operator is (left_hand_side h) = absurd (no_postfix (out-Expression x) (left_shape h) is)

-- ---- async arrow functions of one name

out_async : (word name arrow : Token) (body : ConciseBody) → out-Expression (e.AsyncArrow word name arrow body) ≡ Expression-F.AsyncArrow word name arrow body
out_async word name arrow body = ap out-Expression (sym (e.rolls-AsyncArrow word name arrow body)) ∙ out-roll-Expression (Expression-F.AsyncArrow word name arrow body)

abbrev pub async_layer : Layer → Option (Token × Token)
async_layer (Expression-F.AsyncArrow word name arrow body) = Some (word, name)
async_layer _ = None

no_async : {p : Token × Token} (x : Layer) → is_unary_layer x ≡ true → async_layer x ≡ Some p → ⊥
no_async (Expression-F.AsyncArrow word name arrow body) h is = let is : false ≡ true = h in cc
no_async _ h is = cc

async_at : (text : List ℕ) (c : Context) (x : Expression) (p : Token × Token) → IsAssignment text c x → async_layer (out-Expression x) ≡ Some p → (is_async text p.0 ≡ true) × (p.1.after_line ≡ false)
unfolding out-Expression denote.Hole.Carrier.out
async_at text c x p (async_arrow_of_name {word = word} {name = name} {arrow = arrow} {body = body} h1 h2 h3 h4 h5 h6) is =
    let same = sym (ap async_layer (out_async word name arrow body)) ∙ is in
    (subst (λ t. is_async text t ≡ true) (some_first same) h1, subst (λ t. t.after_line ≡ false) (some_second same) h3)
async_at text c x p (conditional_expression (short_circuit (unary_expression h))) is = absurd (no_async (out-Expression x) (unary_shape h) is)
async_at text c x p (conditional_expression (short_circuit (exponentiation first second rest h1 h2 h3))) is = cc
async_at text c x p (conditional_expression (short_circuit (operators own first second rest h1 h2 h3 h4))) is = cc
async_at text c x p (conditional_expression (conditional h1 h2 h3 h4 h5)) is = cc
async_at text c x p (assignment h1 h2 h3) is = cc
async_at text c x p (yield_alone h1 h2) is = cc
async_at text c x p (yield_value h1 h2 h3 h4) is = cc
async_at text c x p (yield_each h1 h2 h3 h4 h5) is = cc
async_at text c x p (arrow_function h1 h2 h3 h4) is = cc
async_at text c x p (async_arrow_function h1 h2 h3 h4) is = cc

pub async_of : (text : List ℕ) (c : Context) (word name arrow : Token) (body : ConciseBody) → IsAssignment text c (e.AsyncArrow word name arrow body) → (is_async text word ≡ true) × (name.after_line ≡ false)
async_of text c word name arrow body h = async_at text c (e.AsyncArrow word name arrow body) (word, name) h (ap async_layer (out_async word name arrow body))
