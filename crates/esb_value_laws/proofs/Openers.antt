-- What stands where an expression begins with `(`: a ParenthesizedExpression.
use Rattle.std.proofs.Common.{◌≡◌, ◌⊎◌, inl, inr, ℕ, ◌+◌, ◌<◌, Bool, true, false, List, [], ◌∷◌, ◌++◌, Option, Some, None, refl, ap, sym, ◌∙◌, subst, arith}
use Rattle.std.specs.List.{flat_map}
use Rattle.esb_token.specs.declared.kind.Kind.{Kind}
use Rattle.esb_token.specs.declared.kind.Kind.TheVariants as k
use Rattle.esb_token.specs.declared.token.Token.{Token}
use Rattle.esb_token.specs.declared.goal.Goal.TheVariants as goal
use Rattle.esb_token.specs.Goals.{goal_of, is_division, is_tail}
use Rattle.esb_token.specs.Tokens.{SpelledBetween, next}
use Rattle.std.specs.Prelude.{Ok}
use Rattle.esb_tree.specs.declared.classes.Class.{Class}
use Rattle.esb_tree.specs.declared.expressions.Expression.{Expression}
use Rattle.esb_tree.specs.declared.expressions.Expression.TheVariants as e
use Rattle.esb_tree.specs.declared.expressions.Substitutions.{Substitutions}
use Rattle.esb_tree.specs.declared.functions.Function.{Function}
use Rattle.esb_tree.specs.declared.patterns.Bracketed.{Bracketed}
use Rattle.esb_tree.specs.Levels.{depth_of_expression, depth_of_bracketed}
use Rattle.esb_tree.specs.Operators.{is_unary}
use Rattle.esb_tree.specs.Trees.{written}
use Rattle.esb_tree.specs.Yields.{maybe_token, tokens_of_expression, tokens_of_bracketed, tokens_of_substitutions, tokens_of_function, tokens_of_class, tokens_of_link, tokens_of_operand}
use Rattle.esb_tree.proofs.LevelLines.{levels_Parenthesized, levels_Member, levels_PostfixUpdate, levels_Binary, levels_Conditional, levels_Assignment}
use Rattle.esb_tree.proofs.TokenLines.{tokens_Primary, tokens_MetaProperty, tokens_ArrayLiteral, tokens_ObjectLiteral, tokens_Parenthesized, tokens_TemplateLiteral, tokens_FunctionExpression, tokens_ClassExpression, tokens_Member, tokens_New, tokens_NewPlain, tokens_ImportCall, tokens_PrefixUpdate, tokens_PostfixUpdate, tokens_Unary, tokens_Await, tokens_Binary, tokens_Conditional, tokens_Assignment, tokens_Function, tokens_Class, tokens_Substitutions, tokens_Bracketed}
use Rattle.esb_grammar.specs.declared.context.Context.{Context}
use Rattle.esb_grammar.specs.declared.form.Form.{Form}
use Rattle.esb_grammar.specs.declared.form.Form.TheVariants as f
use Rattle.esb_grammar.specs.Forms.{opener}
use Rattle.esb_grammar.specs.Grammar.{IsPrimary, identifier_reference, literal, array_literal, object_literal, parenthesized, template_literal, function_expression, class_expression, IsTemplate, substitution_template, IsOrigin, primary_expression, new_target, import_meta, new_with_arguments, import_call, IsAccess, origin, member, super_member, IsLeftHandSide, access, new_without_arguments, IsUpdate, left_hand_side, postfix, prefix, IsUnary, update, unary, await, IsBinary, unary_expression, exponentiation, IsConditional, short_circuit, conditional, IsBracketed, bracketed, IsFunction, nameless_function, named_function, IsClass, nameless_class, named_class}
use Rattle.esb_grammar.specs.Kinds.{is_reference, is_literal, is_update}
use Rattle.esb_grammar.specs.Words.{is_async, if_there}
use Rattle.esb_reader.specs.Kinds.{agrees}
use Rattle.esb_reader.specs.Places.{Text}
use Rattle.esb_reader.specs.Parts.{behind}
use Rattle.esb_reader.proofs.Agreeing.{tail-shows_brace}
use Rattle.esb_reading_laws.proofs.Steps.{spelled_split}
use Rattle.esb_assignment_laws.specs.Laws.{IsAssigned, assigns}
use Rattle.esb_literal_laws.proofs.Seen.{sees}
use Rattle.esb_value_laws.proofs.ArrowKinds.{async_is}
use Rattle.esb_value_laws.proofs.Places.{slash_seen}

abbrev pub opens : Kind → Bool
opens k.LeftParenthesis = true
opens _ = false

-- ---- what is seen is `(` only where it is the first token

data Sort (kind : Kind) : Type 0 where
  same : agrees goal.Div kind ≡ true → Sort kind
  reg_exp : kind ≡ k.RegExp → Sort kind
  tail : is_tail kind ≡ true → goal_of kind ≡ goal.TemplateTail → Sort kind
  at_end : kind ≡ k.End → Sort kind

sort_of : (kind : Kind) → Sort kind
sort_of k.End = at_end refl
sort_of k.RegExp = reg_exp refl
sort_of k.TemplateMiddle = tail refl refl
sort_of k.TemplateTail = tail refl refl
sort_of _ = same refl

division_no_opener : (kind : Kind) → is_division kind ≡ true → opens kind ≡ false
division_no_opener k.LeftParenthesis h = cc
division_no_opener _ h = refl

not_opened : (text : Text) (i : ℕ) (t : Token) (ts : List Token) (j : ℕ) → SpelledBetween text i (t ∷ ts) j → opens t.kind ≡ false → opens (behind text i).kind ≡ false
not_opened text i t ts j h none = by_sort (sort_of t.kind)
  where
    by_sort : Sort t.kind → opens (behind text i).kind ≡ false
    by_sort (same agreed) = ap (λ (u : Token). opens u.kind) (sees text i t ts j h agreed) ∙ none
    by_sort (reg_exp is) = division_no_opener _ (slash_seen text i t h.0 is)
    by_sort (tail is goes) = ap opens (tail-shows_brace text i t (subst (λ g. next text i g ≡ Ok t) goes h.0) is)
    by_sort (at_end is) = absurd (h.1 is)

reference_opens : (c : Context) (kind : Kind) → is_reference c kind ≡ true → opens kind ≡ false
reference_opens c k.LeftParenthesis h = cc
reference_opens c _ h = refl

literal_opens : (kind : Kind) → is_literal kind ≡ true → opens kind ≡ false
literal_opens k.LeftParenthesis h = cc
literal_opens _ h = refl

update_opens : (kind : Kind) → is_update kind ≡ true → opens kind ≡ false
update_opens k.LeftParenthesis h = cc
update_opens _ h = refl

unary_opens : (kind : Kind) → is_unary kind ≡ true → opens kind ≡ false
unary_opens k.LeftParenthesis h = cc
unary_opens _ h = refl

-- ---- the list

-- a list in parentheses that stands at a place, in a node of so many levels
pub record Opened (text : Text) (c : Context) (i levels : ℕ) : Type 0 where
  pub list : Bracketed
  pub to : ℕ
  pub good : IsBracketed text f.Values c list
  pub spelled : SpelledBetween text i (tokens_of_bracketed written list) to
  pub low : depth_of_bracketed list < levels

more_levels : {text : Text} {c : Context} {i : ℕ} (a b : ℕ) → a < b + 1 → Opened text c i a → Opened text c i b
more_levels a b h o = record { list = o.list; to = o.to; good = o.good; spelled = o.spelled; low = let l = o.low in omega (arith, l, h) }

module _ (text : Text) (c : Context) (i : ℕ) (seen : opens (behind text i).kind ≡ true) where
  abbrev Opening : Expression → Type 0
  Opening x = Opened text c i (depth_of_expression x)

  not_first : {A : Type 0} (ts us : List Token) (t : Token) (j : ℕ) → SpelledBetween text i ts j → ts ≡ t ∷ us → opens t.kind ≡ false → A
  not_first ts us t j h is none = let bad : true ≡ false = sym seen ∙ not_opened text i t us j (subst (λ vs. SpelledBetween text i vs j) is h) none in cc

  list_opens : {form : Form} {list : Bracketed} {A : Type 0} (j : ℕ) → IsBracketed text form c list → opens (opener form) ≡ false → SpelledBetween text i (tokens_of_bracketed written list) j → A
  list_opens j (bracketed begin list ending first h last) none spelled = not_first _ _ begin j spelled (tokens_Bracketed written begin list ending) (ap opens first ∙ none)

  template_opens : {A : Type 0} {template : Substitutions} (j : ℕ) → IsTemplate text c template → SpelledBetween text i (tokens_of_substitutions written template) j → A
  template_opens j (substitution_template begin first rest ending is h more last) spelled = not_first _ _ begin j spelled (tokens_Substitutions written begin first rest ending) (ap opens is)

  function_at : {A : Type 0} (async_word : Option Token) (word : Token) (rest vs : List Token) (j : ℕ) → if_there (is_async text) async_word ≡ true → word.kind ≡ k.Function → vs ≡ maybe_token async_word ++ (word ∷ rest) → SpelledBetween text i vs j → A
  function_at None word rest vs j h is e spelled = not_first vs rest word j spelled e (ap opens is)
  function_at (Some t) word rest vs j h is e spelled = not_first vs (word ∷ rest) t j spelled e (ap opens (async_is text t h))

  function_opens : {A : Type 0} {is_named : Bool} {function : Function} (j : ℕ) → IsFunction text is_named function → SpelledBetween text i (tokens_of_function written function) j → A
  function_opens j (nameless_function async_word word star parameters body h1 h2 h3 h4 h5 h6) spelled = function_at async_word word _ _ j h1 h2 (tokens_Function written async_word word star None parameters body) spelled
  function_opens j (named_function async_word word star name parameters body h1 h2 h3 h4 h5 h6 h7) spelled = function_at async_word word _ _ j h1 h2 (tokens_Function written async_word word star (Some name) parameters body) spelled

  class_opens : {A : Type 0} {is_named : Bool} {class : Class} (j : ℕ) → IsClass text is_named c class → SpelledBetween text i (tokens_of_class written class) j → A
  class_opens j (nameless_class word heritage begin members ending h1 h2 h3 h4 h5) spelled = not_first _ _ word j spelled (tokens_Class written word None heritage begin members ending) (ap opens h1)
  class_opens j (named_class word name heritage begin members ending h1 h2 h3 h4 h5 h6) spelled = not_first _ _ word j spelled (tokens_Class written word (Some name) heritage begin members ending) (ap opens h1)

  with_tokens : (ts us : List Token) (j : ℕ) → ts ≡ us → SpelledBetween text i ts j → SpelledBetween text i us j
  with_tokens ts us j is h = subst (λ vs. SpelledBetween text i vs j) is h

  primary_opens : (x : Expression) (j : ℕ) → IsPrimary text c x → SpelledBetween text i (tokens_of_expression written x) j → Opening x
  primary_opens x j (identifier_reference {t = t} h) spelled = not_first _ [] t j spelled (tokens_Primary written t) (reference_opens c t.kind h)
  primary_opens x j (literal {t = t} h) spelled = not_first _ [] t j spelled (tokens_Primary written t) (literal_opens t.kind h)
  primary_opens x j (array_literal {list = list} h) spelled = list_opens j h refl (with_tokens _ _ j (tokens_ArrayLiteral written list) spelled)
  primary_opens x j (object_literal {list = list} h) spelled = list_opens j h refl (with_tokens _ _ j (tokens_ObjectLiteral written list) spelled)
  primary_opens x j (parenthesized {list = list} h) spelled =
      let deep = levels_Parenthesized list in
      record { list = list; to = j; good = h; spelled = with_tokens _ _ j (tokens_Parenthesized written list) spelled; low = omega (arith, deep) }
  primary_opens x j (template_literal {template = template} h) spelled = template_opens j h (with_tokens _ _ j (tokens_TemplateLiteral written template) spelled)
  primary_opens x j (function_expression {function = function} h) spelled = function_opens j h (with_tokens _ _ j (tokens_FunctionExpression written function) spelled)
  primary_opens x j (class_expression {class = class} h) spelled = class_opens j h (with_tokens _ _ j (tokens_ClassExpression written class) spelled)

  origin_opens : {calls : Bool} (x : Expression) (j : ℕ) → IsOrigin text calls c x → SpelledBetween text i (tokens_of_expression written x) j → Opening x
  origin_opens x j (primary_expression h) spelled = primary_opens x j h spelled
  origin_opens x j (new_target {word = word} {dot = dot} {name = name} h1 h2 h3) spelled = not_first _ _ word j spelled (tokens_MetaProperty written word dot name) (ap opens h1)
  origin_opens x j (import_meta {word = word} {dot = dot} {name = name} h1 h2 h3) spelled = not_first _ _ word j spelled (tokens_MetaProperty written word dot name) (ap opens h1)
  origin_opens x j (new_with_arguments {word = word} {callee = callee} {arguments = arguments} h1 h2 h3) spelled = not_first _ _ word j spelled (tokens_New written word callee arguments) (ap opens h1)
  origin_opens x j (import_call {word = word} {begin = begin} {x = y} {ending = ending} h1 h2 h3 h4) spelled = not_first _ _ word j spelled (tokens_ImportCall written word begin y ending) (ap opens h1)

  access_opens : {calls : Bool} (x : Expression) (j : ℕ) → IsAccess text calls c x → SpelledBetween text i (tokens_of_expression written x) j → Opening x
  access_opens x j (origin h) spelled = origin_opens x j h spelled
  access_opens x j (member object first rest h1 h2) spelled =
      let cut = spelled_split text i (tokens_of_expression written object) (flat_map (tokens_of_link written) (first ∷ rest)) j (with_tokens _ _ j (tokens_Member written object (first ∷ rest)) spelled) in
      let deep = levels_Member object (first ∷ rest) in
      more_levels (depth_of_expression object) (depth_of_expression (e.Member object (first ∷ rest))) (omega (arith, deep)) (origin_opens object cut.0 h1 cut.1)
  access_opens x j (super_member word first rest h1 h2 h3) spelled =
      not_first _ _ word j spelled (tokens_Member written (e.Primary word) (first ∷ rest) ∙ ap (λ ts. ts ++ flat_map (tokens_of_link written) (first ∷ rest)) (tokens_Primary written word)) (ap opens h1)

  left_opens : (x : Expression) (j : ℕ) → IsLeftHandSide text c x → SpelledBetween text i (tokens_of_expression written x) j → Opening x
  left_opens x j (access h) spelled = access_opens x j h spelled
  left_opens x j (new_without_arguments {word = word} {callee = callee} h1 h2) spelled = not_first _ _ word j spelled (tokens_NewPlain written word callee) (ap opens h1)

  op_update : (x : Expression) (j : ℕ) → IsUpdate text c x → SpelledBetween text i (tokens_of_expression written x) j → Opening x
  op_update x j (left_hand_side h) spelled = left_opens x j h spelled
  op_update x j (postfix {x = y} {operator = operator} h is line) spelled =
      let cut = spelled_split text i (tokens_of_expression written y) (operator ∷ []) j (with_tokens _ _ j (tokens_PostfixUpdate written y operator) spelled) in
      let deep = levels_PostfixUpdate y operator in
      more_levels (depth_of_expression y) (depth_of_expression (e.PostfixUpdate y operator)) (omega (arith, deep)) (left_opens y cut.0 h cut.1)
  op_update x j (prefix {operator = operator} {x = y} is h) spelled = not_first _ _ operator j spelled (tokens_PrefixUpdate written operator y) (update_opens operator.kind is)

  op_unary : (x : Expression) (j : ℕ) → IsUnary text c x → SpelledBetween text i (tokens_of_expression written x) j → Opening x
  op_unary x j (update h) spelled = op_update x j h spelled
  op_unary x j (unary {operator = operator} {x = y} is h) spelled = not_first _ _ operator j spelled (tokens_Unary written operator y) (unary_opens operator.kind is)
  op_unary x j (await {word = word} {x = y} may is h) spelled = not_first _ _ word j spelled (tokens_Await written word y) (ap opens is)

  op_binary : {level : ℕ} (x : Expression) (j : ℕ) → IsBinary text level c x → SpelledBetween text i (tokens_of_expression written x) j → Opening x
  op_binary x j (unary_expression h) spelled = op_unary x j h spelled
  op_binary x j (exponentiation first second rest low h powers) spelled =
      let cut = spelled_split text i (tokens_of_expression written first) (flat_map (tokens_of_operand written) (second ∷ rest)) j (with_tokens _ _ j (tokens_Binary written first (second ∷ rest)) spelled) in
      let deep = levels_Binary first (second ∷ rest) in
      more_levels (depth_of_expression first) (depth_of_expression (e.Binary first (second ∷ rest))) (omega (arith, deep)) (op_update first cut.0 h cut.1)
  op_binary x j (IsBinary.operators own first second rest low high h others) spelled =
      let cut = spelled_split text i (tokens_of_expression written first) (flat_map (tokens_of_operand written) (second ∷ rest)) j (with_tokens _ _ j (tokens_Binary written first (second ∷ rest)) spelled) in
      let deep = levels_Binary first (second ∷ rest) in
      more_levels (depth_of_expression first) (depth_of_expression (e.Binary first (second ∷ rest))) (omega (arith, deep)) (op_binary first cut.0 h cut.1)

  op_conditional : (x : Expression) (j : ℕ) → IsConditional text c x → SpelledBetween text i (tokens_of_expression written x) j → Opening x
  op_conditional x j (short_circuit h) spelled = op_binary x j h spelled
  op_conditional x j (conditional {test = test} {question = question} {x = y} {colon = colon} {other = other} h1 h2 h3 h4 h5) spelled =
      let cut = spelled_split text i (tokens_of_expression written test) _ j (with_tokens _ _ j (tokens_Conditional written test question y colon other) spelled) in
      let deep = levels_Conditional test question y colon other in
      more_levels (depth_of_expression test) (depth_of_expression (e.Conditional test question y colon other)) (omega (arith, deep)) (op_binary test cut.0 h1 cut.1)

  pub plain_opens : (x : Expression) (j : ℕ) → IsConditional text c x ⊎ IsAssigned text c x → SpelledBetween text i (tokens_of_expression written x) j → Opening x
  plain_opens x j (inl h) spelled = op_conditional x j h spelled
  plain_opens x j (inr (assigns {target = target} {operator = operator} {x = y} h1 h2 h3)) spelled =
      let cut = spelled_split text i (tokens_of_expression written target) _ j (with_tokens _ _ j (tokens_Assignment written target operator y) spelled) in
      let deep = levels_Assignment target operator y in
      more_levels (depth_of_expression target) (depth_of_expression (e.Assignment target operator y)) (omega (arith, deep)) (left_opens target cut.0 h1 cut.1)
