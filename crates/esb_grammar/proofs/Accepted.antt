-- The trees of the samples that the grammar has.
use Rattle.std.proofs.Common.{◌≡◌, ℕ, Bool, true, false, List, [], ◌∷◌, refl, ap, lit<, lit≤}
use Rattle.esb_token.specs.declared.kind.Kind.TheVariants as k
use Rattle.esb_tree.specs.declared.expressions.Expression.{Expression}
use Rattle.esb_tree.specs.declared.expressions.Expression.TheVariants as e
use Rattle.esb_tree.specs.declared.expressions.Link.{out-Link}
use Rattle.esb_tree.specs.declared.expressions.Link.TheVariants as l
use Rattle.esb_tree.specs.declared.patterns.Element.{Element}
use Rattle.esb_tree.specs.declared.patterns.Element.TheVariants as el
use Rattle.esb_tree.specs.declared.patterns.NextElement.{NextElement}
use Rattle.esb_tree.specs.Trees.{written}
use Rattle.esb_tree.proofs.TokenLines.{tokens_is_Primary}
use Rattle.esb_grammar.specs.declared.context.Context.{Context}
use Rattle.esb_grammar.specs.declared.form.Form.{Form}
use Rattle.esb_grammar.specs.declared.form.Form.TheVariants as f
use Rattle.esb_grammar.specs.Contexts.{of_module, of_arrow}
use Rattle.esb_grammar.specs.Edges.{follows_super}
use Rattle.esb_grammar.specs.Forms.{is_empty}
use Rattle.esb_grammar.specs.Grammar.{IsPrimary, identifier_reference, literal, array_literal, object_literal, parenthesized, primary_expression, new_with_arguments, IsAccess, origin, member, super_member, no_links, more_links, dot_name, index, call, optional_dot, IsLeftHandSide, access, left_hand_side, IsUnary, update, unary, await, IsBinary, unary_expression, exponentiation, operators, last_power, no_operands, more_operands, IsLink, assignment_expression, short_circuit, conditional, IsAssignment, conditional_expression, assignment, yield_alone, arrow_function, arrow_parameters, concise_value, IsBracketed, bracketed, elements, AreNextElements, no_elements, more_elements, IsElement, hole, value, spread, shorthand, cover_initialized_name, binding_element, rest_element, binding_identifier, without_default}
use Rattle.esb_grammar.specs.Words.{begins_brace}
use Rattle.esb_grammar.specs.Samples.{t, a, number, by, listed, then, a_member, arrow, of_async, HasExpressions}

follows_dot : follows_super (l.Dot (t k.Dot) (t k.Name)) ≡ true
unfolding follows_super out-Link denote.Hole.Carrier.out
follows_dot = refl

module _ (text : List ℕ) where
  -- a primary expression as each expression above it
  as_left : (c : Context) (x : Expression) → IsPrimary text c x → IsLeftHandSide text c x
  as_left c x p = access (origin (primary_expression p))

  as_unary : (c : Context) (x : Expression) → IsPrimary text c x → IsUnary text c x
  as_unary c x p = update (left_hand_side (as_left c x p))

  as_binary : (n : ℕ) (c : Context) (x : Expression) → IsPrimary text c x → IsBinary text n c x
  as_binary n c x p = unary_expression (as_unary c x p)

  from_binary : (c : Context) (x : Expression) → IsBinary text 12 c x → IsAssignment text c x
  from_binary c x b = conditional_expression (short_circuit b)

  from_access : (c : Context) (x : Expression) → IsAccess text true c x → IsAssignment text c x
  from_access c x b = from_binary c x (unary_expression (update (left_hand_side (access b))))

  as_assignment : (c : Context) (x : Expression) → IsPrimary text c x → IsAssignment text c x
  as_assignment c x p = from_binary c x (as_binary 12 c x p)

  name : (c : Context) → IsPrimary text c a
  name c = identifier_reference refl

  pub a_is : (c : Context) → IsAssignment text c a
  a_is c = as_assignment c a (name c)

  a_at : (n : ℕ) (c : Context) → IsBinary text n c a
  a_at n c = as_binary n c a (name c)

  in_brackets : (form : Form) (c : Context) (first : Element) (rest : List NextElement) → IsElement text form (is_empty rest) c first → AreNextElements text form c rest → IsBracketed text form c (listed form first rest)
  in_brackets form c first rest x xs = bracketed _ _ _ refl (elements first rest x xs) refl

  minus : (c : Context) → IsUnary text c (e.Unary (t k.Minus) a)
  minus c = unary refl (as_unary c a (name c))

  -- ---- operators

  conditional_is : IsAssignment text of_module (e.Conditional a (t k.Question) a (t k.Colon) a)
  conditional_is = conditional_expression (conditional (a_at 12 of_module) refl (a_is of_module) refl (a_is of_module))

  sums_are : IsAssignment text of_module (e.Binary a (by k.Plus a ∷ by k.Minus a ∷ []))
  sums_are = from_binary of_module _ (operators 3 a (by k.Plus a) (by k.Minus a ∷ []) (lit< tt) (lit≤ tt) (a_at 2 of_module) (more_operands refl (a_at 2 of_module) (more_operands refl (a_at 2 of_module) no_operands)))

  power_is : IsAssignment text of_module (e.Binary a (by k.StarStar (e.Unary (t k.Minus) a) ∷ []))
  power_is = from_binary of_module _ (exponentiation a (by k.StarStar (e.Unary (t k.Minus) a)) [] (lit≤ tt) (left_hand_side (as_left of_module a (name of_module))) (last_power refl (minus of_module)))

  parentheses_power : IsAssignment text of_module (e.Binary (e.Parenthesized (listed f.Values (el.Value (e.Unary (t k.Minus) a)) [])) (by k.StarStar a ∷ []))
  parentheses_power =
      from_binary of_module _ (exponentiation _ (by k.StarStar a) [] (lit≤ tt)
      (left_hand_side (as_left of_module _ (parenthesized (in_brackets f.Values of_module _ [] (value refl (from_binary of_module _ (unary_expression (minus of_module)))) no_elements))))
      (last_power refl (as_unary of_module a (name of_module))))

  coalesce_is : IsAssignment text of_module (e.Binary a (by k.QuestionQuestion a ∷ by k.QuestionQuestion a ∷ []))
  coalesce_is = from_binary of_module _ (operators 12 a (by k.QuestionQuestion a) (by k.QuestionQuestion a ∷ []) (lit< tt) (lit≤ tt) (a_at 9 of_module) (more_operands refl (a_at 9 of_module) (more_operands refl (a_at 9 of_module) no_operands)))

  and_is : IsBinary text 10 of_module (e.Binary a (by k.AndAnd a ∷ []))
  and_is = operators 10 a (by k.AndAnd a) [] (lit< tt) (lit≤ tt) (a_at 9 of_module) (more_operands refl (a_at 9 of_module) no_operands)

  or_and_is : IsAssignment text of_module (e.Binary a (by k.BarBar (e.Binary a (by k.AndAnd a ∷ [])) ∷ []))
  or_and_is = from_binary of_module _ (operators 11 a (by k.BarBar (e.Binary a (by k.AndAnd a ∷ []))) [] (lit< tt) (lit≤ tt) (a_at 10 of_module) (more_operands refl and_is no_operands))

  in_is : IsAssignment text of_module (e.Binary a (by k.In a ∷ []))
  in_is = from_binary of_module _ (operators 5 a (by k.In a) [] (lit< tt) (lit≤ tt) (a_at 4 of_module) (more_operands refl (a_at 4 of_module) no_operands))

  -- ---- functions

  arrow_is : (first : Element) (rest : List NextElement) → IsElement text f.Arguments (is_empty rest) of_module first → AreNextElements text f.Arguments of_module rest → IsElement text f.Parameters (is_empty rest) of_module first → AreNextElements text f.Parameters of_module rest → IsAssignment text of_module (arrow (e.Parenthesized (listed f.Parameters first rest)) (t k.Arrow))
  arrow_is first rest x xs y ys = arrow_function (arrow_parameters (bracketed _ _ _ refl (elements first rest x xs) refl) (in_brackets f.Parameters of_module first rest y ys)) refl refl (concise_value {x = a} (ap begins_brace (tokens_is_Primary written a (t k.Name) refl)) (a_is (of_arrow of_module false)))

  arrow_of_none_is : IsAssignment text of_module (arrow (e.Parenthesized (listed f.Parameters el.Hole [])) (t k.Arrow))
  arrow_of_none_is = arrow_is el.Hole [] (hole refl) no_elements (hole refl) no_elements

  target : IsElement text f.Parameters false of_module (el.Value a)
  target = binding_element refl (without_default (binding_identifier refl))

  arrow_of_rest_is : IsAssignment text of_module (arrow (e.Parenthesized (listed f.Parameters (el.Value a) (then (el.Spread (t k.Ellipsis) a) ∷ []))) (t k.Arrow))
  arrow_of_rest_is = arrow_is (el.Value a) (then (el.Spread (t k.Ellipsis) a) ∷ []) (value refl (a_is of_module)) (more_elements refl (spread refl refl (a_is of_module)) no_elements) target (more_elements refl (rest_element refl refl (binding_identifier refl)) no_elements)

  -- ---- lists

  array_is : IsAssignment text of_module (e.ArrayLiteral (listed f.Array (el.Value a) (then el.Hole ∷ then (el.Spread (t k.Ellipsis) a) ∷ [])))
  array_is = as_assignment of_module _ (array_literal (in_brackets f.Array of_module _ _ (value refl (a_is of_module)) (more_elements refl (hole refl) (more_elements refl (spread refl refl (a_is of_module)) no_elements))))

  pub number_is : (c : Context) → IsAssignment text c number
  number_is c = as_assignment c number (literal refl)

  object_is : IsAssignment text of_module (e.ObjectLiteral (listed f.Object (el.Shorthand (t k.Name)) (then (el.Initialized (t k.Name) (t k.Assign) number) ∷ then el.Hole ∷ [])))
  object_is = as_assignment of_module _ (object_literal (in_brackets f.Object of_module _ _ (shorthand refl) (more_elements refl (cover_initialized_name refl refl (number_is of_module)) (more_elements refl (hole refl) no_elements))))

  -- ---- members and calls

  dot_is : (calls optional : Bool) → IsLink text calls optional of_module (l.Dot (t k.Dot) (t k.Name))
  dot_is calls optional = dot_name refl refl

  members_are : IsAssignment text of_module (e.Member a (l.Dot (t k.Dot) (t k.Name) ∷ l.Call (listed f.Arguments (el.Value a) []) ∷ l.Index (t k.LeftBracket) a (t k.RightBracket) ∷ []))
  members_are =
      from_access of_module _ (member a _ _ (primary_expression (name of_module))
      (more_links (dot_is true false) (more_links (call (in_brackets f.Arguments of_module _ [] (value refl (a_is of_module)) no_elements)) (more_links (index refl (assignment_expression (a_is of_module)) refl) no_links))))

  optional_is : IsAssignment text of_module (e.Member a (l.OptionalDot (t k.QuestionDot) (t k.Name) ∷ l.Dot (t k.Dot) (t k.Name) ∷ []))
  optional_is = from_access of_module _ (member a _ _ (primary_expression (name of_module)) (more_links (optional_dot refl refl) (more_links (dot_is true _) no_links)))

  new_is : IsAssignment text of_module (e.New (t k.New) a_member (listed f.Arguments el.Hole []))
  new_is = from_access of_module _ (origin (new_with_arguments refl (member a _ _ (primary_expression (name of_module)) (more_links (dot_is false false) no_links)) (in_brackets f.Arguments of_module el.Hole [] (hole refl) no_elements)))

  super_is : IsAssignment text of_module (e.Member (e.Primary (t k.Super)) (l.Dot (t k.Dot) (t k.Name) ∷ []))
  super_is = from_access of_module _ (super_member (t k.Super) (l.Dot (t k.Dot) (t k.Name)) [] refl follows_dot (more_links (dot_is true false) no_links))

  assignment_is : IsAssignment text of_module (e.Assignment number (t k.Assign) a)
  assignment_is = assignment (as_left of_module number (literal refl)) refl (a_is of_module)

  awaited_is : IsAssignment text of_async (e.Await (t k.Await) a)
  awaited_is = from_binary of_async _ (unary_expression (await refl refl (as_unary of_async a (name of_async))))

pub has_expressions : HasExpressions
has_expressions =
    record {
      conditional = conditional_is;
      sums = sums_are;
      power = power_is;
      power_of_parentheses = parentheses_power;
      coalesce = coalesce_is;
      or_and = or_and_is;
      in_operator = in_is;
      arrow_of_none = arrow_of_none_is;
      arrow_of_rest = arrow_of_rest_is;
      array = array_is;
      object = object_is;
      members = members_are;
      optional = optional_is;
      new_member = new_is;
      super_property = super_is;
      assignment = assignment_is;
      yield_alone = λ text. yield_alone refl refl;
      awaited = awaited_is;
      await_name = λ text. as_assignment text of_module (e.Primary (t k.Await)) (identifier_reference refl);
    }
