-- The trees of the samples that the grammar has not.
use Rattle.std.proofs.Common.{◌≡◌, ℕ, Bool, true, false, List, [], ◌∷◌, inl, inr, ◌||◌, refl, ap, sym, ◌∙◌, subst, arith}
use Rattle.esb_token.specs.declared.kind.Kind.{Kind}
use Rattle.esb_token.specs.declared.kind.Kind.TheVariants as k
use Rattle.esb_token.specs.declared.token.Token.{Token}
use Rattle.esb_tree.specs.declared.expressions.Expression.{Expression, out-Expression}
use Rattle.esb_tree.specs.declared.expressions.Expression.TheVariants as e
use Rattle.esb_tree.specs.declared.expressions.Link.{Link, out-Link}
use Rattle.esb_tree.specs.declared.expressions.Link.TheVariants as l
use Rattle.esb_tree.specs.declared.functions.ConciseBody.TheVariants as cb
use Rattle.esb_tree.specs.declared.patterns.Bracketed.{Bracketed}
use Rattle.esb_tree.specs.declared.patterns.Element.{Element}
use Rattle.esb_tree.specs.declared.patterns.Element.TheVariants as el
use Rattle.esb_tree.specs.Operators.{level_of}
use Rattle.esb_grammar.specs.declared.context.Context.{Context}
use Rattle.esb_grammar.specs.declared.form.Form.{Form}
use Rattle.esb_grammar.specs.declared.form.Form.TheVariants as f
use Rattle.esb_grammar.specs.Contexts.{of_module, without_in}
use Rattle.esb_grammar.specs.Edges.{is_optional}
use Rattle.esb_grammar.specs.Forms.{takes_hole}
use Rattle.esb_grammar.specs.Grammar.{identifier_reference, literal, IsOrigin, primary_expression, IsAccess, AreLinks, more_links, call, IsNew, IsLeftHandSide, IsUpdate, IsUnary, update, unary, await, IsBinary, ArePowers, last_power, AreOperands, more_operands, IsAssignment, IsAsyncArrowHead, IsBracketed, AreNextElements, more_elements, IsElement, operand_level, hole, value, spread, binding_element, rest_element, IsBindingElement, without_default, binding_identifier}
use Rattle.esb_grammar.specs.Samples.{t, line, a, number, by, listed, then, arrow, power_of_minus, HasNot, HasNoExpressions}
use Rattle.esb_grammar.proofs.Lists.{first_at, rest_at}
use Rattle.esb_grammar.proofs.Inversions.{primary_of, is_primary_layer, out_parenthesized, out_object, parenthesized_list, object_list, arrow_of, parameters_of, target_of, yield_context, is_await_layer, not_update_of_await, member_callee, out_new, new_callee, postfix_line}
use Rattle.esb_grammar.proofs.Shapes.{is_left_layer, is_access_layer, out_binary, out_member, access_shape, origin_in, access_in, unary_of, update_of, left_of, update_shape, left_shape, links_of, chain_of, chain_within}

-- ---- operators

no_update_of_unary : {text : List ℕ} {c : Context} (o : Token) (x : Expression) → IsUpdate text c (e.Unary o x) → ⊥
unfolding out-Expression denote.Hole.Carrier.out
no_update_of_unary o x h = let shape = update_shape h in cc

-- the level of the operators of a chain
level_is : {text : List ℕ} {own : ℕ} {c : Context} (kind : Kind) (x : Expression) → AreOperands text own c (by kind x ∷ []) → level_of c.has_in kind ≡ own
level_is kind x (more_operands same h1 h2) = same

power_kind : {text : List ℕ} {c : Context} (kind : Kind) (x : Expression) → ArePowers text c (by kind x ∷ []) → kind ≡ k.StarStar
power_kind kind x (last_power is h) = is

minus_power : HasNot of_module power_of_minus
minus_power text h =
    elim (chain_of text of_module (e.Unary (t k.Minus) a) (by k.StarStar a ∷ []) h) [
      | inl p ↦ no_update_of_unary (t k.Minus) a p.base
      | inr p ↦ absurd (omega (arith, p.above, level_is k.StarStar a p.operands))
    ]

-- an operand that is an operator of a looser level
or_is_loose : (text : List ℕ) (c : Context) → IsBinary text 9 c (e.Binary a (by k.BarBar a ∷ [])) → ⊥
or_is_loose text c h =
    elim (chain_within text 9 c a (by k.BarBar a ∷ []) h) [
      | inl p ↦ let is = power_kind k.BarBar a p.powers in cc
      | inr p ↦ absurd (omega (arith, p.within, level_is k.BarBar a p.operands))
    ]

operand_is : {text : List ℕ} {own : ℕ} {c : Context} (kind : Kind) (x : Expression) → AreOperands text own c (by kind x ∷ []) → IsBinary text (operand_level own) c x
operand_is kind x (more_operands same h1 h2) = h1

mixed : HasNot of_module (e.Binary a (by k.QuestionQuestion (e.Binary a (by k.BarBar a ∷ [])) ∷ []))
mixed text h =
    let other = e.Binary a (by k.BarBar a ∷ []) in
    elim (chain_of text of_module a (by k.QuestionQuestion other ∷ []) h) [
      | inl p ↦ let is = power_kind k.QuestionQuestion other p.powers in cc
      | inr p ↦ or_is_loose text of_module (subst (λ own. IsBinary text (operand_level own) of_module other) (sym (level_is k.QuestionQuestion other p.operands)) (operand_is k.QuestionQuestion other p.operands))
    ]

in_is_none : HasNot (without_in of_module) (e.Binary a (by k.In a ∷ []))
in_is_none text h =
    elim (chain_of text (without_in of_module) a (by k.In a ∷ []) h) [
      | inl p ↦ let is = power_kind k.In a p.powers in cc
      | inr p ↦ absurd (omega (arith, p.above, level_is k.In a p.operands))
    ]

-- ---- lists in parentheses

values_of : {text : List ℕ} {calls : Bool} {c : Context} (list : Bracketed) → IsOrigin text calls c (e.Parenthesized list) → IsBracketed text f.Values c list
values_of list h = parenthesized_list list (primary_of h (ap is_primary_layer (out_parenthesized list))) (out_parenthesized list)

no_hole : {text : List ℕ} {last : Bool} {c : Context} → IsElement text f.Values last c el.Hole → ⊥
no_hole (hole h) = cc

no_spread : {text : List ℕ} {last : Bool} {c : Context} (dots : Token) (x : Expression) → IsElement text f.Values last c (el.Spread dots x) → ⊥
no_spread dots x (spread h1 h2 h3) = cc
no_spread dots x (rest_element h1 h2 h3) = cc

parenthesized_is : (text : List ℕ) (list : Bracketed) → IsAssignment text of_module (e.Parenthesized list) → IsBracketed text f.Values of_module list
unfolding out-Expression denote.Hole.Carrier.out
parenthesized_is text list h = values_of list (origin_in h refl)

no_value : HasNot of_module (e.Parenthesized (listed f.Values el.Hole []))
no_value text h = no_hole (first_at text f.Values of_module _ _ el.Hole [] (parenthesized_is text _ h))

second_of : {text : List ℕ} {form : Form} {c : Context} (x : Element) → AreNextElements text form c (then x ∷ []) → IsElement text form true c x
second_of x (more_elements h1 h2 h3) = h2

no_comma : HasNot of_module (e.Parenthesized (listed f.Values (el.Value a) (then el.Hole ∷ [])))
no_comma text h = no_hole (second_of el.Hole (rest_at text f.Values of_module _ _ (el.Value a) _ (parenthesized_is text _ h)))

no_rest : HasNot of_module (e.Parenthesized (listed f.Values (el.Spread (t k.Ellipsis) a) []))
no_rest text h = no_spread (t k.Ellipsis) a (first_at text f.Values of_module _ _ (el.Spread (t k.Ellipsis) a) [] (parenthesized_is text _ h))

-- ---- arrow functions

no_async_head : {text : List ℕ} {c : Context} (list : Bracketed) → IsAsyncArrowHead text c (e.Parenthesized list) → ⊥
no_async_head list h = elim h [ ]

no_binding_of_number : {text : List ℕ} {c : Context} → IsBindingElement text c number → ⊥
no_binding_of_number (without_default (binding_identifier h)) = cc

no_parameter_of_number : {text : List ℕ} {last : Bool} {c : Context} → IsElement text f.Parameters last c (el.Value number) → ⊥
no_parameter_of_number (value h1 h2) = cc
no_parameter_of_number (binding_element h1 h2) = no_binding_of_number h2

arrow_parameters_are : (text : List ℕ) (list : Bracketed) → IsAssignment text of_module (arrow (e.Parenthesized list) (t k.Arrow)) → IsBracketed text f.Parameters of_module list
arrow_parameters_are text list h =
    elim (arrow_of (e.Parenthesized list) (t k.Arrow) (cb.ConciseValue a) h) [
      | inl p ↦ parameters_of list p.parameters
      | inr p ↦ absurd (no_async_head list p.parameters)
    ]

no_parameter : HasNot of_module (arrow (e.Parenthesized (listed f.Parameters (el.Value number) [])) (t k.Arrow))
no_parameter text h = no_parameter_of_number (first_at text f.Parameters of_module _ _ (el.Value number) [] (arrow_parameters_are text _ h))

no_first_rest : {text : List ℕ} {c : Context} (dots : Token) (x : Expression) → IsElement text f.Parameters false c (el.Spread dots x) → ⊥
no_first_rest dots x (spread h1 h2 h3) = cc

rest_first : HasNot of_module (arrow (e.Parenthesized (listed f.Parameters (el.Spread (t k.Ellipsis) a) (then (el.Value a) ∷ []))) (t k.Arrow))
rest_first text h = no_first_rest (t k.Ellipsis) a (first_at text f.Parameters of_module _ _ (el.Spread (t k.Ellipsis) a) (then (el.Value a) ∷ []) (arrow_parameters_are text _ h))

next_line_arrow : HasNot of_module (arrow a (line k.Arrow))
next_line_arrow text h =
    elim (arrow_of a (line k.Arrow) (cb.ConciseValue a) h) [
      | inl p ↦ let on_line = p.on_line in cc
      | inr p ↦ let on_line = p.on_line in cc
    ]

-- ---- others

no_target : HasNot of_module (e.Assignment (e.Binary a (by k.Plus a ∷ [])) (t k.Assign) a)
no_target text h = let shape : false ≡ true = sym (ap is_left_layer (out_binary a (by k.Plus a ∷ []))) ∙ left_shape (target_of (e.Binary a (by k.Plus a ∷ [])) (t k.Assign) a h) in cc

no_yield : HasNot of_module (e.Yield (t k.Yield))
no_yield text h = let operator = yield_context (t k.Yield) h in cc

not_awaited : {text : List ℕ} (x : Expression) → is_await_layer (out-Expression x) ≡ true → IsUnary text of_module x → ⊥
unfolding out-Expression denote.Hole.Carrier.out
not_awaited x is (await h1 h2 h3) = cc
not_awaited x is (unary h1 h2) = cc
not_awaited x is (update h) = not_update_of_await (out-Expression x) is (update_shape h)

no_await : HasNot of_module (e.Await (t k.Await) a)
unfolding out-Expression denote.Hole.Carrier.out
no_await text h = not_awaited (e.Await (t k.Await) a) refl (unary_of h refl)

no_first_hole : {text : List ℕ} {form : Form} {c : Context} → takes_hole form false ≡ false → IsElement text form false c el.Hole → ⊥
no_first_hole none (hole h) = cc

object_of : {text : List ℕ} {calls : Bool} {c : Context} (list : Bracketed) → IsOrigin text calls c (e.ObjectLiteral list) → IsBracketed text f.Object c list
object_of list h = object_list list (primary_of h (ap is_primary_layer (out_object list))) (out_object list)

no_holes : HasNot of_module (e.ObjectLiteral (listed f.Object el.Hole (then el.Hole ∷ [])))
unfolding out-Expression denote.Hole.Carrier.out
no_holes text h = no_first_hole refl (first_at text f.Object of_module _ _ el.Hole (then el.Hole ∷ []) (object_of _ (origin_in h refl)))

links_in : (text : List ℕ) (object : Expression) (links : List Link) → IsAssignment text of_module (e.Member object links) → AreLinks text true false of_module links
links_in text object links h = links_of text true of_module object links (access_in h (ap is_access_layer (out_member object links)))

call_of : {text : List ℕ} {calls optional : Bool} {c : Context} {rest : List Link} (list : Bracketed) → AreLinks text calls optional c (l.Call list ∷ rest) → IsBracketed text f.Arguments c list
call_of list (more_links (call h) more) = h

no_arguments : HasNot of_module (e.Member a (l.Call (listed f.Arguments el.Hole (then el.Hole ∷ [])) ∷ []))
no_arguments text h = no_first_hole refl (first_at text f.Arguments of_module _ _ el.Hole (then el.Hole ∷ []) (call_of _ (links_in text a _ h)))

not_tagged : {text : List ℕ} {c : Context} {calls : Bool} {rest : List Link} (template : Token) → AreLinks text calls true c (l.Tagged template ∷ rest) → ⊥
not_tagged template (more_links h more) = elim h [ ]

behind : {text : List ℕ} {calls optional : Bool} {c : Context} {first : Link} {rest : List Link} → AreLinks text calls optional c (first ∷ rest) → AreLinks text calls (optional || is_optional first) c rest
behind (more_links h more) = more

no_tagged : HasNot of_module (e.Member a (l.OptionalDot (t k.QuestionDot) (t k.Name) ∷ l.Tagged (t k.TemplateWhole) ∷ []))
unfolding is_optional out-Link denote.Hole.Carrier.out
no_tagged text h = not_tagged (t k.TemplateWhole) (behind (links_in text a _ h))

not_optional : {text : List ℕ} {optional : Bool} {c : Context} {rest : List Link} (dot name : Token) → AreLinks text false optional c (l.OptionalDot dot name ∷ rest) → ⊥
not_optional dot name (more_links h more) = elim h [ ]

callee_of : {text : List ℕ} {c : Context} (object : Expression) (links : List Link) → IsNew text c (e.Member object links) → IsAccess text false c (e.Member object links)
callee_of object links h = member_callee (e.Member object links) (ap is_access_layer (out_member object links)) h

not_access : {text : List ℕ} {calls : Bool} {c : Context} (word : Token) (x : Expression) → IsAccess text calls c (e.NewPlain word x) → ⊥
unfolding out-Expression denote.Hole.Carrier.out
not_access word x h = let shape = access_shape h in cc

new_of : {text : List ℕ} {c : Context} (word : Token) (x : Expression) → IsLeftHandSide text c (e.NewPlain word x) → IsNew text c x
new_of word x h = new_callee (e.NewPlain word x) word x (out_new word x) h

new_in : (text : List ℕ) (word : Token) (x : Expression) → IsAssignment text of_module (e.NewPlain word x) → IsNew text of_module x
unfolding out-Expression denote.Hole.Carrier.out
new_in text word x h = new_of word x (left_of (update_of (unary_of h refl) refl) refl)

no_new : HasNot of_module (e.NewPlain (t k.New) (e.Member a (l.OptionalDot (t k.QuestionDot) (t k.Name) ∷ [])))
no_new text h = let links = l.OptionalDot (t k.QuestionDot) (t k.Name) ∷ [] in not_optional (t k.QuestionDot) (t k.Name) (links_of text false of_module a links (callee_of a links (new_in text (t k.New) (e.Member a links) h)))

not_super : {text : List ℕ} {calls : Bool} {c : Context} → IsOrigin text calls c (e.Primary (t k.Super)) → ⊥
not_super (primary_expression (identifier_reference h)) = cc
not_super (primary_expression (literal h)) = cc

no_super : HasNot of_module (e.Primary (t k.Super))
unfolding out-Expression denote.Hole.Carrier.out
no_super text h = not_super (origin_in h refl)

not_postfix : {text : List ℕ} {c : Context} → IsUpdate text c (e.PostfixUpdate a (line k.PlusPlus)) → ⊥
unfolding out-Expression denote.Hole.Carrier.out
not_postfix h = let on_line = postfix_line (e.PostfixUpdate a (line k.PlusPlus)) (line k.PlusPlus) refl h in cc

no_postfix : HasNot of_module (e.PostfixUpdate a (line k.PlusPlus))
unfolding out-Expression denote.Hole.Carrier.out
no_postfix text h = not_postfix (update_of (unary_of h refl) refl)

pub has_no_expressions : HasNoExpressions
has_no_expressions =
    record {
      power = minus_power;
      mixed = mixed;
      in_operator = in_is_none;
      no_value = no_value;
      comma = no_comma;
      spread = no_rest;
      parameter = no_parameter;
      rest_first = rest_first;
      arrow_on_next_line = next_line_arrow;
      target = no_target;
      yield_alone = no_yield;
      awaited = no_await;
      holes = no_holes;
      arguments = no_arguments;
      tagged = no_tagged;
      new_optional = no_new;
      super_alone = no_super;
      update_on_next_line = no_postfix;
    }
