-- What expressions end with, by their productions.
use Rattle.std.proofs.Common.{◌≡◌, ℕ, Bool, true, false, not, List, [], ◌∷◌, ◌++◌, map, Option, Some, None, refl, sym, ap, ◌∙◌, append_assoc, append-nil}
use Rattle.std.specs.List.{flat_map}
use Rattle.esb_token.specs.declared.kind.Kind.{Kind}
use Rattle.esb_token.specs.declared.kind.Kind.TheVariants as k
use Rattle.esb_token.specs.declared.token.Token.{Token}
use Rattle.esb_tree.specs.declared.classes.Class.{Class}
use Rattle.esb_tree.specs.declared.classes.ClassElement.TheFolds.{fold-roll-Operand}
use Rattle.esb_tree.specs.declared.expressions.Expression.{Expression}
use Rattle.esb_tree.specs.declared.expressions.Expression.TheVariants as e
use Rattle.esb_tree.specs.declared.expressions.Link.{Link}
use Rattle.esb_tree.specs.declared.expressions.Operand.{Operand, roll-Operand}
use Rattle.esb_tree.specs.declared.expressions.Substitutions.{Substitutions}
use Rattle.esb_tree.specs.declared.functions.ConciseBody.{ConciseBody}
use Rattle.esb_tree.specs.declared.functions.Function.{Function}
use Rattle.esb_tree.specs.declared.patterns.Bracketed.{Bracketed}
use Rattle.esb_tree.specs.declared.statements.Block.{Block}
use Rattle.esb_tree.specs.Trees.{written}
use Rattle.esb_tree.specs.Yields.{Tokens, maybe_token, tokens_of_expression, tokens_of_bracketed, tokens_of_substitutions, tokens_of_substitution, tokens_of_function, tokens_of_class, tokens_of_class_element, tokens_of_heritage, tokens_of_link, tokens_of_operand, tokens_of_block, tokens_of_statement, tokens_of_elements, tokens_of_concise_body}
use Rattle.esb_tree.proofs.TokenLines.{tokens_Primary, tokens_MetaProperty, tokens_ArrayLiteral, tokens_ObjectLiteral, tokens_Parenthesized, tokens_TemplateLiteral, tokens_FunctionExpression, tokens_ClassExpression, tokens_Member, tokens_New, tokens_NewPlain, tokens_ImportCall, tokens_PrefixUpdate, tokens_Unary, tokens_Await, tokens_Binary, tokens_Conditional, tokens_Assignment, tokens_Arrow, tokens_AsyncArrow, tokens_YieldValue, tokens_YieldEach, tokens_Dot, tokens_Index, tokens_Call, tokens_Tagged, tokens_TaggedTemplate, tokens_OptionalDot, tokens_OptionalIndex, tokens_OptionalCall, tokens_ConciseValue, tokens_Function, tokens_Class, tokens_Operand, tokens_Substitutions, tokens_Bracketed, tokens_Block}
use Rattle.esb_grammar.specs.declared.context.Context.{Context}
use Rattle.esb_grammar.specs.declared.form.Form.{Form}
use Rattle.esb_grammar.specs.declared.form.Form.TheVariants as f
use Rattle.esb_grammar.specs.Edges.{last_of, arrow_edge, body_edge, operand_edge, ends_assignment, body_ends_assignment, operand_ends_assignment}
use Rattle.esb_grammar.specs.Forms.{closer}
use Rattle.esb_grammar.specs.Grammar.{IsPrimary, identifier_reference, literal, array_literal, object_literal, parenthesized, template_literal, function_expression, class_expression, IsTemplate, substitution_template, IsOrigin, primary_expression, new_target, import_meta, new_with_arguments, import_call, IsAccess, origin, member, super_member, AreLinks, more_links, IsLink, dot_name, index, call, tagged, tagged_template, optional_dot, optional_index, optional_call, IsNew, member_expression, new_expression, IsLeftHandSide, access, new_without_arguments, IsUpdate, left_hand_side, postfix, prefix, IsUnary, update, unary, await, IsBinary, unary_expression, exponentiation, ArePowers, last_power, more_powers, AreOperands, more_operands, IsConditional, short_circuit, conditional, IsAssignment, conditional_expression, assignment, yield_alone, yield_value, yield_each, arrow_function, async_arrow_function, async_arrow_of_name, IsConciseBody, concise_value, concise_block, IsExpression, assignment_expression, commas, AreCommaOperands, comma_operand, IsBracketed, bracketed, IsFunction, nameless_function, named_function, IsClass, nameless_class, named_class, IsBlock, braces}
use Rattle.esb_grammar.specs.Kinds.{is_name, is_reference, is_update, is_identifier_name}
use Rattle.esb_grammar.specs.Semicolons.{ends_with}
use Rattle.esb_grammar.specs.Words.{is_word}
use Rattle.esb_grammar.proofs.EdgeLines.{ends_Binary, ends_Conditional, ends_Assignment, ends_Arrow, ends_AsyncArrow, ends_Yield, ends_YieldValue, ends_YieldEach, ends_ConciseValue, ends_ConciseBlock}
use Rattle.esb_expression_laws.specs.Leaves.{is_leaf}
use Rattle.esb_operator_laws.specs.Postfix.{ends_postfix, body_ends_postfix, operand_ends_postfix}
use Rattle.esb_operator_laws.proofs.PostfixLines.{postfix_PrefixUpdate, postfix_PostfixUpdate, postfix_Unary, postfix_Await, postfix_Binary, postfix_Conditional, postfix_Assignment, postfix_Arrow, postfix_AsyncArrow, postfix_YieldValue, postfix_YieldEach, postfix_ConciseValue, postfix_Operand}
use Rattle.esb_operator_laws.proofs.TokenTests.{and_left, or_left, or_right}
use Rattle.esb_last_tokens.specs.Laws.{UpdateIsPostfix}

-- ---- tokens of which the last is neither `++` nor `--`

abbrev pub closed : Kind → Bool
closed kind = not (is_update kind)

pub record Ends (ts : Tokens) : Type 0 where
  pub before : Tokens
  pub last : Token
  pub is : ts ≡ before ++ (last ∷ [])
  pub kind : closed last.kind ≡ true

ends_at : (before : Tokens) (last : Token) (ts : Tokens) → ts ≡ before ++ (last ∷ []) → closed last.kind ≡ true → Ends ts
ends_at before last ts is kind = record { before = before; last = last; is = is; kind = kind }

ends_same : (ts us : Tokens) → ts ≡ us → Ends us → Ends ts
ends_same ts us is b = record { before = b.before; last = b.last; is = is ∙ b.is; kind = b.kind }

-- what stands behind other tokens
ends_behind : (before us ts : Tokens) → ts ≡ before ++ us → Ends us → Ends ts
ends_behind before us ts is b = record { before = before ++ b.before; last = b.last; is = is ∙ ap (λ x. before ++ x) b.is ∙ sym (append_assoc before b.before (b.last ∷ [])); kind = b.kind }

ends_next : (t : Token) (us ts : Tokens) → ts ≡ t ∷ us → Ends us → Ends ts
ends_next t us ts is b = ends_behind (t ∷ []) us ts is b

ends_part : (before us : Tokens) → Ends us → Ends (before ++ us)
ends_part before us b = ends_behind before us (before ++ us) refl b

ends_alone : (us : Tokens) → Ends us → Ends (us ++ [])
ends_alone us b = ends_same (us ++ []) us (append-nil us) b

last_is : (test : Kind → Bool) (before : Tokens) (last : Token) → ends_with test (before ++ (last ∷ [])) ≡ test last.kind
last_is test [] last = refl
last_is test (b ∷ []) last = refl
last_is test (b ∷ c ∷ bs) last = last_is test (c ∷ bs) last

pub no_update : (ts : Tokens) → Ends ts → ends_with is_update ts ≡ false
no_update ts b = ap (ends_with is_update) b.is ∙ last_is is_update b.before b.last ∙ plain (is_update b.last.kind) b.kind
  where
    plain : (b : Bool) → not b ≡ true → b ≡ false
    plain true h = cc
    plain false h = refl

-- ---- operands

ends_Operand : (operator : Token) (value : Expression) → operand_ends_assignment (roll-Operand (record { operator = operator; value = value })) ≡ ends_assignment value
unfolding ends_assignment operand_ends_assignment
ends_Operand operator value = fold-roll-Operand (Unit {0}) (Unit {0}) Bool (Unit {0}) Bool (Unit {0}) (Unit {0}) (Unit {0}) (Unit {0}) (Unit {0}) (Unit {0}) (Unit {0}) (Unit {0}) (Unit {0}) (Unit {0}) Bool (Unit {0}) (Unit {0}) (Unit {0}) (Unit {0}) (Unit {0}) (Unit {0}) (Unit {0}) (Unit {0}) (Unit {0}) (Unit {0}) (Unit {0}) (λ _. tt) (λ _. tt) arrow_edge (λ _. tt) body_edge (λ _. tt) (λ _. tt) (λ _. tt) (λ _. tt) (λ _. tt) (λ _. tt) (λ _. tt) (λ _. tt) (λ _. tt) (λ _. tt) operand_edge (λ _. tt) (λ _. tt) (λ _. tt) (λ _. tt) (λ _. tt) (λ _. tt) (λ _. tt) (λ _. tt) (λ _. tt) (λ _. tt) (λ _. tt) (record { operator = operator; value = value })

-- ---- kinds

leaf_closed : (c : Context) (kind : Kind) → is_leaf c kind ≡ true → closed kind ≡ true
leaf_closed c k.PlusPlus h = cc
leaf_closed c k.MinusMinus h = cc
leaf_closed c _ h = refl

name_closed : (kind : Kind) → is_identifier_name kind ≡ true → closed kind ≡ true
name_closed k.PlusPlus h = cc
name_closed k.MinusMinus h = cc
name_closed _ h = refl

word_closed : (text word : List ℕ) (t : Token) → is_word text word t ≡ true → closed t.kind ≡ true
unfolding is_word
word_closed text word t h = plain t.kind (and_left _ _ h)
  where
    plain : (kind : Kind) → is_name kind ≡ true → closed kind ≡ true
    plain k.Name g = refl
    plain _ g = cc

closer_closed : (form : Form) → closed (closer form) ≡ true
closer_closed f.Array = refl
closer_closed f.ArrayPattern = refl
closer_closed f.Object = refl
closer_closed f.ObjectPattern = refl
closer_closed _ = refl

module _ (text : List ℕ) where
  abbrev pub Closed : Expression → Type 0
  Closed x = Ends (tokens_of_expression written x)

  list_ends : {form : Form} {c : Context} {list : Bracketed} → IsBracketed text form c list → Ends (tokens_of_bracketed written list)
  list_ends {form} {c} (bracketed begin list ending first h last) = ends_at (begin ∷ tokens_of_elements written list) ending _ (tokens_Bracketed written begin list ending) (ap closed last ∙ closer_closed form)

  template_ends : {c : Context} {template : Substitutions} → IsTemplate text c template → Ends (tokens_of_substitutions written template)
  template_ends (substitution_template begin first rest ending is h more last) =
      ends_next begin _ _ (tokens_Substitutions written begin first rest ending)
      (ends_part (tokens_of_expression written first) _ (ends_at (flat_map (tokens_of_substitution written) rest) ending _ refl (ap closed last)))

  block_ends : {c : Context} {block : Block} → IsBlock text c block → Ends (tokens_of_block written block)
  block_ends (braces begin body ending h1 h2 h3) = ends_at (begin ∷ flat_map (tokens_of_statement written) body) ending _ (tokens_Block written begin body ending) (ap closed h3)

  body_behind : (async_word : Option Token) (word : Token) (star name : Option Token) (parameters : Bracketed) (body : Block) (ts : Tokens)
      → ts ≡ maybe_token async_word ++ (word ∷ (maybe_token star ++ (maybe_token name ++ (tokens_of_bracketed written parameters ++ (tokens_of_block written body)))))
      → Ends (tokens_of_block written body) → Ends ts
  body_behind async_word word star name parameters body ts is b =
      ends_behind (maybe_token async_word) _ ts is
      (ends_next word _ _ refl (ends_part (maybe_token star) _ (ends_part (maybe_token name) _ (ends_part (tokens_of_bracketed written parameters) _ b))))

  function_ends : {is_named : Bool} {function : Function} → IsFunction text is_named function → Ends (tokens_of_function written function)
  function_ends (nameless_function async_word word star parameters body h1 h2 h3 h4 h5 h6) = body_behind async_word word star None parameters body _ (tokens_Function written async_word word star None parameters body) (block_ends h6)
  function_ends (named_function async_word word star name parameters body h1 h2 h3 h4 h5 h6 h7) = body_behind async_word word star (Some name) parameters body _ (tokens_Function written async_word word star (Some name) parameters body) (block_ends h7)

  class_ends : {is_named : Bool} {c : Context} {class : Class} → IsClass text is_named c class → Ends (tokens_of_class written class)
  class_ends (nameless_class word heritage begin members ending h1 h2 h3 h4 h5) =
      ends_next word _ _ (tokens_Class written word None heritage begin members ending)
      (ends_part (tokens_of_heritage written heritage) _ (ends_at (begin ∷ flat_map (tokens_of_class_element written) members) ending _ refl (ap closed h5)))
  class_ends (named_class word name heritage begin members ending h1 h2 h3 h4 h5 h6) =
      ends_next word _ _ (tokens_Class written word (Some name) heritage begin members ending)
      (ends_next name _ _ refl (ends_part (tokens_of_heritage written heritage) _ (ends_at (begin ∷ flat_map (tokens_of_class_element written) members) ending _ refl (ap closed h6))))

  leaf_ends : (c : Context) (t : Token) → is_leaf c t.kind ≡ true → Closed (e.Primary t)
  leaf_ends c t h = ends_at [] t _ (tokens_Primary written t) (leaf_closed c t.kind h)

  primary_ends : {c : Context} {x : Expression} → IsPrimary text c x → Closed x
  primary_ends {c} (identifier_reference {t = t} h) = leaf_ends c t (or_left _ _ h)
  primary_ends {c} (literal {t = t} h) = leaf_ends c t (or_right (is_reference c t.kind) _ h)
  primary_ends (array_literal {list = list} h) = ends_same _ _ (tokens_ArrayLiteral written list) (list_ends h)
  primary_ends (object_literal {list = list} h) = ends_same _ _ (tokens_ObjectLiteral written list) (list_ends h)
  primary_ends (parenthesized {list = list} h) = ends_same _ _ (tokens_Parenthesized written list) (list_ends h)
  primary_ends (template_literal {template = template} h) = ends_same _ _ (tokens_TemplateLiteral written template) (template_ends h)
  primary_ends (function_expression {function = function} h) = ends_same _ _ (tokens_FunctionExpression written function) (function_ends h)
  primary_ends (class_expression {class = class} h) = ends_same _ _ (tokens_ClassExpression written class) (class_ends h)

  pub word_ends : (word : Token) → word.kind ≡ k.Super → Closed (e.Primary word)
  word_ends word h = ends_at [] word _ (tokens_Primary written word) (ap closed h)

  -- ---- members and calls

  link_ends : {calls optional : Bool} {c : Context} {x : Link} → IsLink text calls optional c x → Ends (tokens_of_link written x)
  link_ends (dot_name {dot = dot} {name = name} h1 h2) = ends_at (dot ∷ []) name _ (tokens_Dot written dot name) (name_closed name.kind h2)
  link_ends (index {begin = begin} {x = x} {ending = ending} h1 h2 h3) = ends_at (begin ∷ tokens_of_expression written x) ending _ (tokens_Index written begin x ending) (ap closed h3)
  link_ends (call {arguments = arguments} h) = ends_same _ _ (tokens_Call written arguments) (list_ends h)
  link_ends (tagged {template = template} h) = ends_at [] template _ (tokens_Tagged written template) (ap closed h)
  link_ends (tagged_template {template = template} h) = ends_same _ _ (tokens_TaggedTemplate written template) (template_ends h)
  link_ends (optional_dot {dot = dot} {name = name} h1 h2) = ends_at (dot ∷ []) name _ (tokens_OptionalDot written dot name) (name_closed name.kind h2)
  link_ends (optional_index {dot = dot} {begin = begin} {x = x} {ending = ending} h1 h2 h3 h4) = ends_at (dot ∷ begin ∷ tokens_of_expression written x) ending _ (tokens_OptionalIndex written dot begin x ending) (ap closed h4)
  link_ends (optional_call {dot = dot} {arguments = arguments} h1 h2) = ends_next dot _ _ (tokens_OptionalCall written dot arguments) (list_ends h2)

  pub links_end : {calls : Bool} {c : Context} (first : Link) (rest : List Link) {optional : Bool} → AreLinks text calls optional c (first ∷ rest) → Ends (flat_map (tokens_of_link written) (first ∷ rest))
  links_end first [] (more_links h more) = ends_alone _ (link_ends h)
  links_end first (second ∷ rest) (more_links h more) = ends_part (tokens_of_link written first) _ (links_end second rest more)

  mutual
    pub origin_ends : {calls : Bool} {c : Context} {x : Expression} → IsOrigin text calls c x → Closed x
    origin_ends (primary_expression h) = primary_ends h
    origin_ends (new_target {word = word} {dot = dot} {name = name} h1 h2 h3) = ends_at (word ∷ dot ∷ []) name _ (tokens_MetaProperty written word dot name) (word_closed text _ name h3)
    origin_ends (import_meta {word = word} {dot = dot} {name = name} h1 h2 h3) = ends_at (word ∷ dot ∷ []) name _ (tokens_MetaProperty written word dot name) (word_closed text _ name h3)
    origin_ends (new_with_arguments {word = word} {callee = callee} {arguments = arguments} h1 h2 h3) = ends_next word _ _ (tokens_New written word callee arguments) (ends_part (tokens_of_expression written callee) _ (list_ends h3))
    origin_ends (import_call {word = word} {begin = begin} {x = x} {ending = ending} h1 h2 h3 h4) = ends_at (word ∷ begin ∷ tokens_of_expression written x) ending _ (tokens_ImportCall written word begin x ending) (ap closed h4)

    access_ends : {calls : Bool} {c : Context} {x : Expression} → IsAccess text calls c x → Closed x
    access_ends (origin h) = origin_ends h
    access_ends (member object first rest h1 h2) = ends_behind (tokens_of_expression written object) _ _ (tokens_Member written object (first ∷ rest)) (links_end first rest h2)
    access_ends (super_member word first rest h1 h2 h3) = ends_behind (tokens_of_expression written (e.Primary word)) _ _ (tokens_Member written (e.Primary word) (first ∷ rest)) (links_end first rest h3)

  new_ends : {c : Context} {x : Expression} → IsNew text c x → Closed x
  new_ends (member_expression h) = access_ends h
  new_ends (new_expression {word = word} {callee = callee} h1 h2) = ends_next word _ _ (tokens_NewPlain written word callee) (new_ends h2)

  pub left_ends : {c : Context} {x : Expression} → IsLeftHandSide text c x → Closed x
  left_ends (access h) = access_ends h
  left_ends (new_without_arguments {word = word} {callee = callee} h1 h2) = ends_next word _ _ (tokens_NewPlain written word callee) (new_ends h2)

  -- ---- operators

  -- an expression that ends with a postfix operator, or with neither `++` nor `--`
  data Tail (postfix_edge : Bool) (ts : Tokens) : Type 0 where
    updated : postfix_edge ≡ true → Tail postfix_edge ts
    plain : Ends ts → Tail postfix_edge ts

  tail_next : (a b : Bool) (t : Token) (us ts : Tokens) → b ≡ a → ts ≡ t ∷ us → Tail a us → Tail b ts
  tail_next a b t us ts same is (updated h) = updated (same ∙ h)
  tail_next a b t us ts same is (plain h) = plain (ends_next t us ts is h)

  tail_behind : (a b : Bool) (before us ts : Tokens) → b ≡ a → ts ≡ before ++ us → Tail a us → Tail b ts
  tail_behind a b before us ts same is (updated h) = updated (same ∙ h)
  tail_behind a b before us ts same is (plain h) = plain (ends_behind before us ts is h)

  tail_alone : (a : Bool) (us : Tokens) → Tail a us → Tail a (us ++ [])
  tail_alone a us (updated h) = updated h
  tail_alone a us (plain h) = plain (ends_alone us h)

  abbrev TailOf : Expression → Type 0
  TailOf x = Tail (ends_postfix x) (tokens_of_expression written x)

  mutual
    update_tail : {c : Context} {x : Expression} → IsUpdate text c x → TailOf x
    update_tail (left_hand_side h) = plain (left_ends h)
    update_tail (postfix {x = x} {operator = operator} h1 h2 h3) = updated (postfix_PostfixUpdate x operator)
    update_tail (prefix {operator = operator} {x = x} h1 h2) = tail_next _ _ operator _ _ (postfix_PrefixUpdate operator x) (tokens_PrefixUpdate written operator x) (unary_tail h2)

    unary_tail : {c : Context} {x : Expression} → IsUnary text c x → TailOf x
    unary_tail (update h) = update_tail h
    unary_tail (unary {operator = operator} {x = x} h1 h2) = tail_next _ _ operator _ _ (postfix_Unary operator x) (tokens_Unary written operator x) (unary_tail h2)
    unary_tail (await {word = word} {x = x} h1 h2 h3) = tail_next _ _ word _ _ (postfix_Await word x) (tokens_Await written word x) (unary_tail h3)

  abbrev TailOfAll : List Operand → Type 0
  TailOfAll os = Tail (last_of (map operand_ends_postfix os)) (flat_map (tokens_of_operand written) os)

  -- the last operand
  operand_tail : (operator : Token) (x : Expression) → TailOf x → TailOfAll (roll-Operand (record { operator = operator; value = x }) ∷ [])
  operand_tail operator x tail = tail_alone _ _ (tail_next _ _ operator _ _ (postfix_Operand operator x) (tokens_Operand written operator x) tail)

  more_tail : (o p : Operand) (os : List Operand) → TailOfAll (p ∷ os) → TailOfAll (o ∷ p ∷ os)
  more_tail o p os tail = tail_behind _ _ (tokens_of_operand written o) _ _ refl refl tail

  powers_tail : {c : Context} (o : Operand) (os : List Operand) → ArePowers text c (o ∷ os) → TailOfAll (o ∷ os)
  powers_tail o [] (last_power {operator = t} {x = x} h1 h2) = operand_tail t x (unary_tail h2)
  powers_tail o (p ∷ os) (more_powers h1 h2 more) = more_tail o p os (powers_tail p os more)

  mutual
    binary_tail : {level : ℕ} {c : Context} {x : Expression} → IsBinary text level c x → TailOf x
    binary_tail (unary_expression h) = unary_tail h
    binary_tail (exponentiation first second rest low h powers) = tail_behind _ _ (tokens_of_expression written first) _ _ (postfix_Binary first (second ∷ rest)) (tokens_Binary written first (second ∷ rest)) (powers_tail second rest powers)
    binary_tail (IsBinary.operators own first second rest low high h others) = tail_behind _ _ (tokens_of_expression written first) _ _ (postfix_Binary first (second ∷ rest)) (tokens_Binary written first (second ∷ rest)) (operands_tail second rest others)

    operands_tail : {own : ℕ} {c : Context} (o : Operand) (os : List Operand) → AreOperands text own c (o ∷ os) → TailOfAll (o ∷ os)
    operands_tail o [] (more_operands {operator = t} {x = x} level h more) = operand_tail t x (binary_tail h)
    operands_tail o (p ∷ os) (more_operands level h more) = more_tail o p os (operands_tail p os more)

  -- ---- AssignmentExpressions

  -- an expression that ends with the block of an arrow function or with a `yield` alone, or otherwise
  data Edge (block : Bool) (postfix_edge : Bool) (ts : Tokens) : Type 0 where
    blocked : block ≡ true → Edge block postfix_edge ts
    tailed : Tail postfix_edge ts → Edge block postfix_edge ts

  edge_behind : (a b c d : Bool) (before us ts : Tokens) → c ≡ a → d ≡ b → ts ≡ before ++ us → Edge a b us → Edge c d ts
  edge_behind a b c d before us ts same also is (blocked h) = blocked (same ∙ h)
  edge_behind a b c d before us ts same also is (tailed h) = tailed (tail_behind b d before us ts also is h)

  edge_alone : (a b : Bool) (us : Tokens) → Edge a b us → Edge a b (us ++ [])
  edge_alone a b us (blocked h) = blocked h
  edge_alone a b us (tailed h) = tailed (tail_alone b us h)

  abbrev EdgeOf : Expression → Type 0
  EdgeOf x = Edge (ends_assignment x) (ends_postfix x) (tokens_of_expression written x)

  abbrev EdgeOfBody : ConciseBody → Type 0
  EdgeOfBody x = Edge (body_ends_assignment x) (body_ends_postfix x) (tokens_of_concise_body written x)

  apart : (a : Tokens) (t : Token) (b : Tokens) (u : Token) (d : Tokens) → a ++ (t ∷ (b ++ (u ∷ d))) ≡ (a ++ (t ∷ (b ++ (u ∷ [])))) ++ d
  apart a t b u d = ap (λ x. a ++ (t ∷ x)) (sym (append_assoc b (u ∷ []) d)) ∙ sym (append_assoc a (t ∷ (b ++ (u ∷ []))) d)

  arrow_edges : (head : Expression) (arrow : Token) (body : ConciseBody) → EdgeOfBody body → EdgeOf (e.Arrow head arrow body)
  arrow_edges head arrow body edge =
      edge_behind _ _ _ _ (tokens_of_expression written head ++ (arrow ∷ [])) _ _ (ends_Arrow head arrow body) (postfix_Arrow head arrow body)
      (tokens_Arrow written head arrow body ∙ sym (append_assoc (tokens_of_expression written head) (arrow ∷ []) (tokens_of_concise_body written body))) edge

  mutual
    conditional_edge : {c : Context} {x : Expression} → IsConditional text c x → EdgeOf x
    conditional_edge (short_circuit h) = tailed (binary_tail h)
    conditional_edge (conditional {test = test} {question = question} {x = x} {colon = colon} {other = other} h1 h2 h3 h4 h5) =
        edge_behind _ _ _ _ (tokens_of_expression written test ++ (question ∷ (tokens_of_expression written x ++ (colon ∷ [])))) _ _
        (ends_Conditional test question x colon other) (postfix_Conditional test question x colon other)
        (tokens_Conditional written test question x colon other ∙ apart (tokens_of_expression written test) question (tokens_of_expression written x) colon (tokens_of_expression written other)) (assignment_edge h5)

    assignment_edge : {c : Context} {x : Expression} → IsAssignment text c x → EdgeOf x
    assignment_edge (conditional_expression h) = conditional_edge h
    assignment_edge (assignment {target = target} {operator = operator} {x = x} h1 h2 h3) =
        edge_behind _ _ _ _ (tokens_of_expression written target ++ (operator ∷ [])) _ _ (ends_Assignment target operator x) (postfix_Assignment target operator x)
        (tokens_Assignment written target operator x ∙ sym (append_assoc (tokens_of_expression written target) (operator ∷ []) (tokens_of_expression written x))) (assignment_edge h3)
    assignment_edge (yield_alone {word = word} h1 h2) = blocked (ends_Yield word)
    assignment_edge (yield_value {word = word} {x = x} h1 h2 h3 h4) = edge_behind _ _ _ _ (word ∷ []) _ _ (ends_YieldValue word x) (postfix_YieldValue word x) (tokens_YieldValue written word x) (assignment_edge h4)
    assignment_edge (yield_each {word = word} {star = star} {x = x} h1 h2 h3 h4 h5) = edge_behind _ _ _ _ (word ∷ star ∷ []) _ _ (ends_YieldEach word star x) (postfix_YieldEach word star x) (tokens_YieldEach written word star x) (assignment_edge h5)
    assignment_edge (arrow_function {parameters = head} {arrow = arrow} {body = body} h1 h2 h3 h4) = arrow_edges head arrow body (body_edges h4)
    assignment_edge (async_arrow_function {parameters = head} {arrow = arrow} {body = body} h1 h2 h3 h4) = arrow_edges head arrow body (body_edges h4)
    assignment_edge (async_arrow_of_name {word = word} {name = name} {arrow = arrow} {body = body} h1 h2 h3 h4 h5 h6) =
        edge_behind _ _ _ _ (word ∷ name ∷ arrow ∷ []) _ _ (ends_AsyncArrow word name arrow body) (postfix_AsyncArrow word name arrow body) (tokens_AsyncArrow written word name arrow body) (body_edges h6)

    body_edges : {c : Context} {x : ConciseBody} → IsConciseBody text c x → EdgeOfBody x
    body_edges (concise_value {x = x} h1 h2) = edge_behind _ _ _ _ [] _ _ (ends_ConciseValue x) (postfix_ConciseValue x) (tokens_ConciseValue written x) (assignment_edge h2)
    body_edges (concise_block {block = block} h) = blocked (ends_ConciseBlock block)

  -- ---- Expressions

  abbrev EdgeOfAll : List Operand → Type 0
  EdgeOfAll os = Edge (last_of (map operand_ends_assignment os)) (last_of (map operand_ends_postfix os)) (flat_map (tokens_of_operand written) os)

  commas_edge : {c : Context} (o : Operand) (os : List Operand) → AreCommaOperands text c (o ∷ os) → EdgeOfAll (o ∷ os)
  commas_edge o [] (comma_operand {comma = t} {x = x} h1 h2 more) = edge_alone _ _ _ (edge_behind _ _ _ _ (t ∷ []) _ _ (ends_Operand t x) (postfix_Operand t x) (tokens_Operand written t x) (assignment_edge h2))
  commas_edge o (p ∷ os) (comma_operand h1 h2 more) = edge_behind _ _ _ _ (tokens_of_operand written o) _ _ refl refl refl (commas_edge p os more)

  expression_edge : {c : Context} {x : Expression} → IsExpression text c x → EdgeOf x
  expression_edge (assignment_expression h) = assignment_edge h
  expression_edge (commas first second rest h others) = edge_behind _ _ _ _ (tokens_of_expression written first) _ _ (ends_Binary first (second ∷ rest)) (postfix_Binary first (second ∷ rest)) (tokens_Binary written first (second ∷ rest)) (commas_edge second rest others)

  -- ---- what the last token says

  by_edge : (a b : Bool) (ts : Tokens) → Edge a b ts → a ≡ false → ends_with is_update ts ≡ true → b ≡ true
  by_edge a b ts (blocked h) none last = cc
  by_edge a b ts (tailed (updated h)) none last = h
  by_edge a b ts (tailed (plain h)) none last = let other : ends_with is_update ts ≡ false = no_update ts h in cc

  pub postfix_of : {c : Context} {x : Expression} → IsExpression text c x → ends_assignment x ≡ false → ends_with is_update (tokens_of_expression written x) ≡ true → ends_postfix x ≡ true
  postfix_of h none last = by_edge _ _ _ (expression_edge h) none last

pub update_is_postfix : UpdateIsPostfix
update_is_postfix text c x good none last = postfix_of text good none last
