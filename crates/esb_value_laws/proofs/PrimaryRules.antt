-- PrimaryExpressions are read exactly.
use Rattle.std.proofs.Common.{◌≡◌, ◌⊎◌, inl, inr, ℕ, suc, ◌+◌, true, false, ◌&&◌, List, [], ◌∷◌, ◌++◌, Option, Some, None, refl, ap, sym, ◌∙◌, subst, arith}
use Rattle.esb_token.specs.declared.kind.Kind.{Kind}
use Rattle.esb_token.specs.declared.kind.Kind.TheVariants as k
use Rattle.esb_token.specs.declared.token.Token.{Token}
use Rattle.esb_token.specs.declared.goal.Goal.TheVariants as goal
use Rattle.esb_token.specs.Goals.{is_division}
use Rattle.esb_token.specs.Tokens.{SpelledBetween}
use Rattle.esb_tree.specs.declared.classes.Class.{Class}
use Rattle.esb_tree.specs.declared.expressions.Expression.{Expression, out-Expression}
use Rattle.esb_tree.specs.declared.expressions.Expression.TheVariants as e
use Rattle.esb_tree.specs.declared.expressions.Substitutions.{Substitutions}
use Rattle.esb_tree.specs.declared.functions.Function.{Function}
use Rattle.esb_tree.specs.declared.patterns.Bracketed.{Bracketed}
use Rattle.esb_tree.specs.Levels.{depth_of_expression}
use Rattle.esb_tree.specs.Trees.{written}
use Rattle.esb_tree.specs.Yields.{maybe_token, tokens_of_expression, tokens_of_bracketed, tokens_of_class, tokens_of_function, tokens_of_substitutions}
use Rattle.esb_tree.proofs.LevelLines.{levels_ArrayLiteral, levels_ObjectLiteral, levels_Parenthesized, levels_TemplateLiteral, levels_FunctionExpression, levels_ClassExpression}
use Rattle.esb_tree.proofs.TokenLines.{tokens_Primary, tokens_ArrayLiteral, tokens_ObjectLiteral, tokens_Parenthesized, tokens_TemplateLiteral, tokens_FunctionExpression, tokens_ClassExpression, tokens_Bracketed, tokens_Class, tokens_Function, tokens_Substitutions}
use Rattle.esb_grammar.specs.declared.context.Context.{Context}
use Rattle.esb_grammar.specs.declared.form.Form.{Form}
use Rattle.esb_grammar.specs.declared.form.Form.TheVariants as f
use Rattle.esb_grammar.specs.Edges.{is_token}
use Rattle.esb_grammar.specs.Forms.{opener}
use Rattle.esb_grammar.specs.Grammar.{IsPrimary, identifier_reference, literal, array_literal, object_literal, parenthesized, template_literal, function_expression, class_expression, IsTemplate, substitution_template, IsBracketed, bracketed, IsFunction, nameless_function, named_function, IsClass, nameless_class, named_class}
use Rattle.esb_grammar.specs.Kinds.{is_class, is_function, is_left_brace, is_left_bracket, is_name}
use Rattle.esb_grammar.specs.Words.{is_async, if_there, on_line_behind}
use Rattle.esb_reader.specs.declared.node.Node.{Node}
use Rattle.esb_reader.specs.Kinds.{agrees}
use Rattle.esb_reader.specs.Places.{Text}
use Rattle.esb_reader.specs.Reader.{Reader}
use Rattle.esb_reader.specs.Parts.{behind, above}
use Rattle.esb_reader.specs.Stands.{Syntax, Stands, Rule, Made}
use Rattle.esb_reading_laws.proofs.Composed.{above_rule, choice_rule, same_rule}
use Rattle.esb_expression_laws.specs.Laws.{lists}
use Rattle.esb_expression_laws.specs.Leaves.{expressions, is_leaf, IsLeaf, leaf}
use Rattle.esb_expression_laws.proofs.SingleTokens.{leaf_rule}
use Rattle.esb_operator_laws.proofs.TokenTests.{and_left, and_right, and_both, or_left, or_right, neither, not_true}
use Rattle.esb_access_laws.specs.Laws.{ends_primary, templates}
use Rattle.esb_access_laws.specs.Links.{is_left_parenthesis, is_head}
use Rattle.esb_first_tokens.specs.First.{opens_primary}
use Rattle.esb_literal_laws.specs.Forks.{second}
use Rattle.esb_literal_laws.specs.Laws.{functions, classes}
use Rattle.esb_literal_laws.proofs.AnyLists.{opener_agrees}
use Rattle.esb_literal_laws.proofs.Forks.{fork_rule}
use Rattle.esb_literal_laws.proofs.Seen.{sees, sees_kind}
use Rattle.esb_value_laws.specs.Laws.{PrimaryRule}
use Rattle.esb_value_laws.specs.Primaries.{is_function_on_line, at_function, bracket_or_leaf, primary}
use Rattle.esb_value_laws.proofs.ArrowKinds.{async_is, async_agrees}
use Rattle.esb_value_laws.proofs.Places.{second_at, second_seen, slash_seen}
use Rattle.esb_value_laws.proofs.Stuck.{refuted}

-- ---- kinds

leaf_agrees : (c : Context) (kind : Kind) → is_leaf c kind ≡ true → (agrees goal.Div kind ≡ true) ⊎ (kind ≡ k.RegExp)
leaf_agrees c k.End h = cc
leaf_agrees c k.RegExp h = inr refl
leaf_agrees c k.TemplateMiddle h = cc
leaf_agrees c k.TemplateTail h = cc
leaf_agrees c _ h = inl refl

leaf_opens : (c : Context) (kind : Kind) → is_leaf c kind ≡ true → opens_primary kind ≡ false
leaf_opens c k.LeftParenthesis h = cc
leaf_opens c k.LeftBracket h = cc
leaf_opens c k.LeftBrace h = cc
leaf_opens c k.TemplateHead h = cc
leaf_opens c k.Function h = cc
leaf_opens c k.Class h = cc
leaf_opens c _ h = refl

division_opens : (kind : Kind) → is_division kind ≡ true → opens_primary kind ≡ false
division_opens k.Slash h = refl
division_opens k.SlashAssign h = refl
division_opens _ h = cc

division_no_name : (kind : Kind) → is_division kind ≡ true → kind ≡ k.Name → ⊥
division_no_name kind h e = let bad : false ≡ true = sym (ap is_division e) ∙ h in cc

record Opens_none (kind : Kind) : Type 0 where
  pub parenthesis : is_left_parenthesis kind ≡ false
  pub bracket : is_left_bracket kind ≡ false
  pub brace : is_left_brace kind ≡ false
  pub class : is_class kind ≡ false
  pub head : is_head kind ≡ false
  pub function : is_function kind ≡ false

opens_none : (kind : Kind) → opens_primary kind ≡ false → Opens_none kind
opens_none k.LeftParenthesis h = cc
opens_none k.LeftBracket h = cc
opens_none k.LeftBrace h = cc
opens_none k.TemplateHead h = cc
opens_none k.Function h = cc
opens_none k.Class h = cc
opens_none _ h = record { parenthesis = refl; bracket = refl; brace = refl; class = refl; head = refl; function = refl }

token_is : (t : Token) → is_token (e.Primary t) ≡ true
unfolding is_token out-Expression denote.Hole.Carrier.out
token_is t = refl

-- the token of a leaf
record Leaf_token (c : Context) (x : Expression) : Type 0 where
  pub token : Token
  pub is : x ≡ e.Primary token
  pub kind : is_leaf c token.kind ≡ true

leaf_token : (text : Text) (c : Context) (x : Expression) → IsPrimary text c x → is_token x ≡ true → Leaf_token c x
unfolding is_token out-Expression denote.Hole.Carrier.out
leaf_token text c x (identifier_reference {t = t} h) is = record { token = t; is = refl; kind = or_left _ _ h }
leaf_token text c x (literal {t = t} h) is = record { token = t; is = refl; kind = or_right _ _ h }
leaf_token text c x (array_literal h) is = cc
leaf_token text c x (object_literal h) is = cc
leaf_token text c x (parenthesized h) is = cc
leaf_token text c x (template_literal h) is = cc
leaf_token text c x (function_expression h) is = cc
leaf_token text c x (class_expression h) is = cc

-- ---- what is seen

module _ (text : Text) (c : Context) where
  list_kind : (form : Form) (x : Bracketed) (i j : ℕ) → IsBracketed text form c x → SpelledBetween text i (tokens_of_bracketed written x) j → (behind text i).kind ≡ opener form
  list_kind form x i j (bracketed begin list ending first good last) h =
      let spelled = subst (λ ts. SpelledBetween text i ts j) (tokens_Bracketed written begin list ending) h in
      ap (λ (t : Token). t.kind) (sees_kind text i begin _ j (opener form) spelled first (opener_agrees form)) ∙ first

  word_kind : (kind : Kind) (t : Token) (ts us : List Token) (i j : ℕ) → us ≡ t ∷ ts → t.kind ≡ kind → agrees goal.Div kind ≡ true → SpelledBetween text i us j → (behind text i).kind ≡ kind
  word_kind kind t ts us i j e is same h = ap (λ (u : Token). u.kind) (sees_kind text i t ts j kind (subst (λ vs. SpelledBetween text i vs j) e h) is same) ∙ is

  class_kind : (x : Class) (i j : ℕ) → IsClass text false c x → SpelledBetween text i (tokens_of_class written x) j → (behind text i).kind ≡ k.Class
  class_kind x i j (nameless_class word heritage begin members ending h1 h2 h3 h4 h5) h = word_kind k.Class word _ _ i j (tokens_Class written word None heritage begin members ending) h1 refl h
  class_kind x i j (named_class word name heritage begin members ending h1 h2 h3 h4 h5 h6) h = word_kind k.Class word _ _ i j (tokens_Class written word (Some name) heritage begin members ending) h1 refl h

  template_kind : (x : Substitutions) (i j : ℕ) → IsTemplate text c x → SpelledBetween text i (tokens_of_substitutions written x) j → (behind text i).kind ≡ k.TemplateHead
  template_kind x i j (substitution_template begin first rest ending is good more last) h =
      ap (λ (t : Token). t.kind) (sees_kind text i begin _ j k.TemplateHead (subst (λ ts. SpelledBetween text i ts j) (tokens_Substitutions written begin first rest ending) h) is refl) ∙ is

  leaf_none : (t : Token) (i j : ℕ) → is_leaf c t.kind ≡ true → SpelledBetween text i (t ∷ []) j → opens_primary (behind text i).kind ≡ false
  leaf_none t i j good h = by_kind (leaf_agrees c t.kind good)
    where
      by_kind : (agrees goal.Div t.kind ≡ true) ⊎ (t.kind ≡ k.RegExp) → opens_primary (behind text i).kind ≡ false
      by_kind (inl same) = ap (λ (u : Token). opens_primary u.kind) (sees text i t [] j h same) ∙ leaf_opens c t.kind good
      by_kind (inr is) = division_opens (behind text i).kind (slash_seen text i t h.0 is)

  -- ---- functions

  function_word : (async_word : Option Token) (word : Token) (rest vs : List Token) (i j : ℕ) → if_there (is_async text) async_word ≡ true → word.kind ≡ k.Function → on_line_behind async_word (word ∷ []) ≡ true → vs ≡ maybe_token async_word ++ (word ∷ rest) → SpelledBetween text i vs j → at_function text i ≡ true
  unfolding at_function
  function_word None word rest vs i j h is line e spelled =
      or_left _ _ (ap (λ (t : Token). is_function t.kind) (sees_kind text i word rest j k.Function (subst (λ ts. SpelledBetween text i ts j) e spelled) is refl) ∙ ap is_function is)
  function_word (Some w) word rest vs i j h is line e spelled =
      let tokens = subst (λ ts. SpelledBetween text i ts j) e spelled in
      let agreed = async_agrees text w h in
      or_right (is_function (behind text i).kind) _
      (and_both _ _ (ap (is_async text) (sees text i w (word ∷ rest) j tokens agreed) ∙ h)
      (ap is_function_on_line (second_seen text i w word rest j tokens agreed (ap (agrees goal.Div) is)) ∙ and_both _ _ (ap is_function is) line))

  function_seen : (x : Function) (i j : ℕ) → IsFunction text false x → SpelledBetween text i (tokens_of_function written x) j → at_function text i ≡ true
  function_seen x i j (nameless_function async_word word star parameters body h1 h2 h3 h4 h5 h6) h = function_word async_word word _ _ i j h1 h2 h3 (tokens_Function written async_word word star None parameters body) h
  function_seen x i j (named_function async_word word star name parameters body h1 h2 h3 h4 h5 h6 h7) h = function_word async_word word _ _ i j h1 h2 h3 (tokens_Function written async_word word star (Some name) parameters body) h

  no_function : (i : ℕ) → is_function (behind text i).kind ≡ false → ((behind text i).kind ≡ k.Name → is_function_on_line (second text i) ≡ false) → at_function text i ≡ false
  unfolding at_function
  no_function i none second_none = neither _ _ none (refuted (is_async text (behind text i) && is_function_on_line (second text i)) (λ h. let bad : false ≡ true = sym (second_none (async_is text (behind text i) (and_left _ _ h))) ∙ and_right (is_async text (behind text i)) _ h in cc))

  kind_no_function : (i : ℕ) (kind : Kind) → (behind text i).kind ≡ kind → is_function kind ≡ false → is_name kind ≡ false → at_function text i ≡ false
  kind_no_function i kind is none no_name = no_function i (ap is_function is ∙ none) (λ e. let bad : false ≡ true = sym no_name ∙ ap is_name (sym is ∙ e) in cc)

  leaf_no_function : (t : Token) (i j : ℕ) → is_leaf c t.kind ≡ true → SpelledBetween text i (t ∷ []) j → ends_primary (behind text j) ≡ true → at_function text i ≡ false
  leaf_no_function t i j good h stop = no_function i none (by_kind (leaf_agrees c t.kind good))
    where
      none : is_function (behind text i).kind ≡ false
      none = (opens_none (behind text i).kind (leaf_none t i j good h)).function

      by_kind : (agrees goal.Div t.kind ≡ true) ⊎ (t.kind ≡ k.RegExp) → (behind text i).kind ≡ k.Name → is_function_on_line (second text i) ≡ false
      by_kind (inl same) name = ap is_function_on_line (second_at text i t [] j h same ∙ ap (behind text) h.2) ∙ not_true _ stop
      by_kind (inr is) name = absurd (division_no_name (behind text i).kind (slash_seen text i t h.0 is) name)

-- ---- the law

module _ (text : Text) (c : Context) (n : ℕ) (values array object : Reader (Node Bracketed)) (template : Reader (Node Substitutions)) (function : Reader (Node Function)) (class : Reader (Node Class))
    (values_rule : Rule text (lists text f.Values c) n n (λ _ _. true) values) (array_rule : Rule text (lists text f.Array c) n n (λ _ _. true) array) (object_rule : Rule text (lists text f.Object c) n n (λ _ _. true) object)
    (template_rule : Rule text (templates text c) n n (λ _ _. true) template) (function_rule : Rule text (functions text false) n n (λ _ _. true) function) (class_rule : Rule text (classes text false c) n n (λ _ _. true) class) where
  abbrev Any : Syntax Expression
  Any = expressions (λ x. Unit {0})

  abbrev Grouped : Expression → Type 0
  Grouped = Made (lists text f.Values c) e.Parenthesized

  abbrev Arrays : Expression → Type 0
  Arrays = Made (lists text f.Array c) e.ArrayLiteral

  abbrev Objects : Expression → Type 0
  Objects = Made (lists text f.Object c) e.ObjectLiteral

  abbrev Classes : Expression → Type 0
  Classes = Made (classes text false c) e.ClassExpression

  abbrev Templates : Expression → Type 0
  Templates = Made (templates text c) e.TemplateLiteral

  abbrev Functions : Expression → Type 0
  Functions = Made (functions text false) e.FunctionExpression

  abbrev Leaves : Expression → Type 0
  Leaves = IsLeaf text c

  abbrev Seen : Expression → ℕ → ℕ → Kind → Type 0
  Seen x i j kind = SpelledBetween text i (tokens_of_expression written x) j → (behind text i).kind ≡ kind

  grouped_seen : (x : Expression) (i j : ℕ) → Grouped x → Seen x i j k.LeftParenthesis
  grouped_seen x i j (y, is, good) h = list_kind text c f.Values y i j good (subst (λ ts. SpelledBetween text i ts j) (ap (tokens_of_expression written) is ∙ tokens_Parenthesized written y) h)

  array_seen : (x : Expression) (i j : ℕ) → Arrays x → Seen x i j k.LeftBracket
  array_seen x i j (y, is, good) h = list_kind text c f.Array y i j good (subst (λ ts. SpelledBetween text i ts j) (ap (tokens_of_expression written) is ∙ tokens_ArrayLiteral written y) h)

  object_seen : (x : Expression) (i j : ℕ) → Objects x → Seen x i j k.LeftBrace
  object_seen x i j (y, is, good) h = list_kind text c f.Object y i j good (subst (λ ts. SpelledBetween text i ts j) (ap (tokens_of_expression written) is ∙ tokens_ObjectLiteral written y) h)

  class_seen : (x : Expression) (i j : ℕ) → Classes x → Seen x i j k.Class
  class_seen x i j (y, is, good) h = class_kind text c y i j good (subst (λ ts. SpelledBetween text i ts j) (ap (tokens_of_expression written) is ∙ tokens_ClassExpression written y) h)

  template_seen : (x : Expression) (i j : ℕ) → Templates x → Seen x i j k.TemplateHead
  template_seen x i j (y, is, good) h = template_kind text c y i j good (subst (λ ts. SpelledBetween text i ts j) (ap (tokens_of_expression written) is ∙ tokens_TemplateLiteral written y) h)

  leaf_spelled : (x : Expression) (i j : ℕ) (l : Leaf_token c x) → SpelledBetween text i (tokens_of_expression written x) j → SpelledBetween text i (l.token ∷ []) j
  leaf_spelled x i j l h = subst (λ ts. SpelledBetween text i ts j) (ap (tokens_of_expression written) l.is ∙ tokens_Primary written l.token) h

  leaf_seen : (x : Expression) (i j : ℕ) → Leaves x → SpelledBetween text i (tokens_of_expression written x) j → Opens_none (behind text i).kind
  leaf_seen x i j good h = let l = leaf_token text c x good.0 good.1 in opens_none _ (leaf_none text c l.token i j l.kind (leaf_spelled x i j l h))

  -- ---- sorts that are left

  abbrev Rest_head : Expression → Type 0
  Rest_head x = Templates x ⊎ Leaves x

  abbrev Rest_class : Expression → Type 0
  Rest_class x = Classes x ⊎ Rest_head x

  abbrev Rest_brace : Expression → Type 0
  Rest_brace x = Objects x ⊎ Rest_class x

  abbrev Rest_bracket : Expression → Type 0
  Rest_bracket x = Arrays x ⊎ Rest_brace x

  abbrev Rest : Expression → Type 0
  Rest x = Grouped x ⊎ Rest_bracket x

  no_class : (x : Expression) (i j : ℕ) → Rest_head x → SpelledBetween text i (tokens_of_expression written x) j → is_class (behind text i).kind ≡ false
  no_class x i j (inl good) h = ap is_class (template_seen x i j good h)
  no_class x i j (inr good) h = (leaf_seen x i j good h).class

  no_brace : (x : Expression) (i j : ℕ) → Rest_class x → SpelledBetween text i (tokens_of_expression written x) j → is_left_brace (behind text i).kind ≡ false
  no_brace x i j (inl good) h = ap is_left_brace (class_seen x i j good h)
  no_brace x i j (inr (inl good)) h = ap is_left_brace (template_seen x i j good h)
  no_brace x i j (inr (inr good)) h = (leaf_seen x i j good h).brace

  no_bracket : (x : Expression) (i j : ℕ) → Rest_brace x → SpelledBetween text i (tokens_of_expression written x) j → is_left_bracket (behind text i).kind ≡ false
  no_bracket x i j (inl good) h = ap is_left_bracket (object_seen x i j good h)
  no_bracket x i j (inr (inl good)) h = ap is_left_bracket (class_seen x i j good h)
  no_bracket x i j (inr (inr (inl good))) h = ap is_left_bracket (template_seen x i j good h)
  no_bracket x i j (inr (inr (inr good))) h = (leaf_seen x i j good h).bracket

  no_parenthesis : (x : Expression) (i j : ℕ) → Rest_bracket x → SpelledBetween text i (tokens_of_expression written x) j → is_left_parenthesis (behind text i).kind ≡ false
  no_parenthesis x i j (inl good) h = ap is_left_parenthesis (array_seen x i j good h)
  no_parenthesis x i j (inr (inl good)) h = ap is_left_parenthesis (object_seen x i j good h)
  no_parenthesis x i j (inr (inr (inl good))) h = ap is_left_parenthesis (class_seen x i j good h)
  no_parenthesis x i j (inr (inr (inr (inl good)))) h = ap is_left_parenthesis (template_seen x i j good h)
  no_parenthesis x i j (inr (inr (inr (inr good)))) h = (leaf_seen x i j good h).parenthesis

  no_function_here : (x : Expression) (i j : ℕ) → Rest x → SpelledBetween text i (tokens_of_expression written x) j → ends_primary (behind text j) ≡ true → at_function text i ≡ false
  no_function_here x i j (inl good) h stop = kind_no_function text c i k.LeftParenthesis (grouped_seen x i j good h) refl refl
  no_function_here x i j (inr (inl good)) h stop = kind_no_function text c i k.LeftBracket (array_seen x i j good h) refl refl
  no_function_here x i j (inr (inr (inl good))) h stop = kind_no_function text c i k.LeftBrace (object_seen x i j good h) refl refl
  no_function_here x i j (inr (inr (inr (inl good)))) h stop = kind_no_function text c i k.Class (class_seen x i j good h) refl refl
  no_function_here x i j (inr (inr (inr (inr (inl good))))) h stop = kind_no_function text c i k.TemplateHead (template_seen x i j good h) refl refl
  no_function_here x i j (inr (inr (inr (inr (inr good))))) h stop = let l = leaf_token text c x good.0 good.1 in leaf_no_function text c l.token i j l.kind (leaf_spelled x i j l h) stop

  -- ---- together

  one_above : {A : Type 0} (S : Syntax A) (make : A → Expression) (read : Reader (Node A)) → Rule text S n n (λ _ _. true) read → ((a : A) → tokens_of_expression written (make a) ≡ S.yields a) → ((a : A) → depth_of_expression (make a) ≡ S.levels_of a + 1) → Rule text (expressions (Made S make)) n (suc n) (λ _. ends_primary) (above n make read)
  one_above S make read rule spells deep = above_rule text S (tokens_of_expression written) depth_of_expression n n (λ _ _. true) (λ _. ends_primary) make read rule (omega arith) spells deep (λ a t h. refl)

  leaves_read : Rule text (expressions Leaves) n (suc n) (λ _. ends_primary) (leaf text c)
  leaves_read = same_rule text (expressions Leaves) (expressions Leaves) n (suc n) (λ _ _. true) (λ _. ends_primary) (leaf text c) (leaf_rule text c n (suc n)) refl refl (λ x h. h) (λ x h. h) (λ x t good h. refl)

  rest_read : Rule text (expressions Rest) n (suc n) (λ _. ends_primary) (bracket_or_leaf text c n values array object template function class)
  unfolding bracket_or_leaf
  rest_read =
      choice_rule text Any Grouped Rest_bracket n (suc n) (λ _. ends_primary) (λ t. is_left_parenthesis t.kind) (above n e.Parenthesized values) _
      (one_above (lists text f.Values c) e.Parenthesized values values_rule (λ a. tokens_Parenthesized written a) (λ a. levels_Parenthesized a))
      (choice_rule text Any Arrays Rest_brace n (suc n) (λ _. ends_primary) (λ t. is_left_bracket t.kind) (above n e.ArrayLiteral array) _
      (one_above (lists text f.Array c) e.ArrayLiteral array array_rule (λ a. tokens_ArrayLiteral written a) (λ a. levels_ArrayLiteral a))
      (choice_rule text Any Objects Rest_class n (suc n) (λ _. ends_primary) (λ t. is_left_brace t.kind) (above n e.ObjectLiteral object) _
      (one_above (lists text f.Object c) e.ObjectLiteral object object_rule (λ a. tokens_ObjectLiteral written a) (λ a. levels_ObjectLiteral a))
      (choice_rule text Any Classes Rest_head n (suc n) (λ _. ends_primary) (λ t. is_class t.kind) (above n e.ClassExpression class) _
      (one_above (classes text false c) e.ClassExpression class class_rule (λ a. tokens_ClassExpression written a) (λ a. levels_ClassExpression a))
      (choice_rule text Any Templates Leaves n (suc n) (λ _. ends_primary) (λ t. is_head t.kind) (above n e.TemplateLiteral template) (leaf text c)
      (one_above (templates text c) e.TemplateLiteral template template_rule (λ a. tokens_TemplateLiteral written a) (λ a. levels_TemplateLiteral a))
      leaves_read
      (λ x i j good h. ap is_head (template_seen x i j good h)) (λ x i j good h stop. (leaf_seen x i j good h).head))
      (λ x i j good h. ap is_class (class_seen x i j good h)) (λ x i j good h stop. no_class x i j good h))
      (λ x i j good h. ap is_left_brace (object_seen x i j good h)) (λ x i j good h stop. no_brace x i j good h))
      (λ x i j good h. ap is_left_bracket (array_seen x i j good h)) (λ x i j good h stop. no_bracket x i j good h))
      (λ x i j good h. ap is_left_parenthesis (grouped_seen x i j good h)) (λ x i j good h stop. no_parenthesis x i j good h)

  primaries_there : (x : Expression) → Functions x ⊎ Rest x → IsPrimary text c x
  primaries_there x (inl (y, is, good)) = subst (IsPrimary text c) (sym is) (function_expression good)
  primaries_there x (inr (inl (y, is, good))) = subst (IsPrimary text c) (sym is) (parenthesized good)
  primaries_there x (inr (inr (inl (y, is, good)))) = subst (IsPrimary text c) (sym is) (array_literal good)
  primaries_there x (inr (inr (inr (inl (y, is, good))))) = subst (IsPrimary text c) (sym is) (object_literal good)
  primaries_there x (inr (inr (inr (inr (inl (y, is, good)))))) = subst (IsPrimary text c) (sym is) (class_expression good)
  primaries_there x (inr (inr (inr (inr (inr (inl (y, is, good))))))) = subst (IsPrimary text c) (sym is) (template_literal good)
  primaries_there x (inr (inr (inr (inr (inr (inr good)))))) = good.0

  primaries_back : (x : Expression) → IsPrimary text c x → Functions x ⊎ Rest x
  primaries_back x (identifier_reference {t = t} h) = inr (inr (inr (inr (inr (inr (identifier_reference h, token_is t))))))
  primaries_back x (literal {t = t} h) = inr (inr (inr (inr (inr (inr (literal h, token_is t))))))
  primaries_back x (array_literal {list = y} h) = inr (inr (inl (y, refl, h)))
  primaries_back x (object_literal {list = y} h) = inr (inr (inr (inl (y, refl, h))))
  primaries_back x (parenthesized {list = y} h) = inr (inl (y, refl, h))
  primaries_back x (template_literal {template = y} h) = inr (inr (inr (inr (inr (inl (y, refl, h))))))
  primaries_back x (function_expression {function = y} h) = inl (y, refl, h)
  primaries_back x (class_expression {class = y} h) = inr (inr (inr (inr (inl (y, refl, h)))))

  primary_read : Rule text (expressions (IsPrimary text c)) n (suc n) (λ _. ends_primary) (primary text c n values array object template function class)
  unfolding primary
  primary_read =
      same_rule text (expressions (λ x. Functions x ⊎ Rest x)) (expressions (IsPrimary text c)) n (suc n) (λ _. ends_primary) (λ _. ends_primary) (primary text c n values array object template function class)
      (fork_rule text Any Functions Rest n (suc n) (λ _. ends_primary) (at_function text) (above n e.FunctionExpression function) (bracket_or_leaf text c n values array object template function class)
      (one_above (functions text false) e.FunctionExpression function function_rule (λ a. tokens_FunctionExpression written a) (λ a. levels_FunctionExpression a))
      rest_read
      (λ i x j s low stop. function_at i x j s)
      (λ i x j s low stop. no_function_here x.tree i j s.good s.spelled stop))
      refl refl primaries_there primaries_back (λ x t good h. h)
    where
      function_at : (i : ℕ) (x : Node Expression) (j : ℕ) → Stands text (expressions Functions) n x i j → at_function text i ≡ true
      function_at i x j s = let g = s.good in function_seen text c g.0 i j g.2 (subst (λ ts. SpelledBetween text i ts j) (ap (tokens_of_expression written) g.1 ∙ tokens_FunctionExpression written g.0) s.spelled)

pub primary_rule : PrimaryRule
primary_rule text c n values array object template function class = primary_read text c n values array object template function class
