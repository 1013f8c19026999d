-- The links of members, calls and optional chains are read exactly.
use Rattle.std.proofs.Common.{◌≡◌, ℕ, ◌<◌, ◌≤◌, ◌⊎◌, inl, inr, max, Bool, true, false, ◌&&◌, ◌||◌, List, [], ◌∷◌, length, refl, ap, sym, ◌∙◌, subst, arith}
use Rattle.std.specs.List.{AllByRecursion}
use Rattle.esb_token.specs.declared.kind.Kind.{Kind}
use Rattle.esb_token.specs.declared.kind.Kind.TheVariants as k
use Rattle.esb_token.specs.declared.token.Token.{Token}
use Rattle.esb_token.specs.declared.goal.Goal.TheVariants as goal
use Rattle.esb_token.specs.Tokens.{SpelledBetween}
use Rattle.esb_tree.specs.declared.expressions.Expression.{Expression}
use Rattle.esb_tree.specs.declared.expressions.Link.{Link, out-Link}
use Rattle.esb_tree.specs.declared.expressions.Link.TheVariants as l
use Rattle.esb_tree.specs.declared.expressions.Substitutions.{Substitutions}
use Rattle.esb_tree.specs.declared.patterns.Bracketed.{Bracketed}
use Rattle.esb_tree.specs.Levels.{depth_of_expression, depth_of_link, depth_of_bracketed}
use Rattle.esb_tree.specs.Trees.{written}
use Rattle.esb_tree.specs.Yields.{tokens_of_link, tokens_of_bracketed, tokens_of_substitutions}
use Rattle.esb_tree.proofs.TokenLines.{tokens_Dot, tokens_Index, tokens_Call, tokens_Tagged, tokens_TaggedTemplate, tokens_OptionalDot, tokens_OptionalIndex, tokens_OptionalCall, tokens_Bracketed, tokens_Substitutions}
use Rattle.esb_tree.proofs.LevelLines.{levels_Dot, levels_Index, levels_Call, levels_Tagged, levels_TaggedTemplate, levels_OptionalDot, levels_OptionalIndex, levels_OptionalCall}
use Rattle.esb_grammar.specs.declared.context.Context.{Context}
use Rattle.esb_grammar.specs.declared.form.Form.TheVariants as f
use Rattle.esb_grammar.specs.Contexts.{inside}
use Rattle.esb_grammar.specs.Edges.{is_optional}
use Rattle.esb_grammar.specs.Grammar.{IsTemplate, substitution_template, IsExpression, IsBracketed, bracketed, AreLinks, no_links, more_links, IsLink, dot_name, tagged, tagged_template, optional_dot, optional_index, optional_call}
use Rattle.esb_grammar.specs.Kinds.{is_identifier_name, begins_link, is_left_bracket}
use Rattle.esb_reader.specs.declared.node.Node.{Node}
use Rattle.esb_reader.specs.Kinds.{agrees}
use Rattle.esb_reader.specs.Places.{Text}
use Rattle.esb_reader.specs.Reader.{Reader, fail}
use Rattle.esb_reader.specs.Parts.{behind, both, token, token_in, made, choice}
use Rattle.esb_reader.specs.Stands.{Syntax, Rule, Made, tokens, tokens_in, pairs, row, list_stops}
use Rattle.esb_reading_laws.specs.Laws.{Repeats}
use Rattle.esb_reading_laws.proofs.Composed.{token_rule, token_in_rule, both_rule, plain_rule, choice_rule, same_rule}
use Rattle.esb_reading_laws.proofs.Rows.{many_rule}
use Rattle.esb_expression_laws.specs.Laws.{lists}
use Rattle.esb_expression_laws.specs.Leaves.{expressions}
use Rattle.esb_operator_laws.specs.Forks.{fork, forks, fork_stops}
use Rattle.esb_operator_laws.proofs.Forking.{fork_rule}
use Rattle.esb_operator_laws.proofs.TokenTests.{and_left, and_right, and_both, not_true, false_not}
use Rattle.esb_access_laws.specs.Links as read
use Rattle.esb_access_laws.specs.Links.{is_dot, is_left_parenthesis, is_whole, is_head, begins_member, begins_link_in, make_dot, make_index, make_optional, template_layer, is_template, templates_fit}
use Rattle.esb_access_laws.specs.Laws.{templates, is_right_bracket, ReadsParts}
use Rattle.esb_access_laws.proofs.FirstKinds.{First, first_of, kind_seen, kind_moves, token_seen}

name_agrees : (kind : Kind) → is_identifier_name kind ≡ true → agrees goal.Div kind ≡ true
name_agrees k.End h = cc
name_agrees k.RegExp h = cc
name_agrees k.TemplateMiddle h = cc
name_agrees k.TemplateTail h = cc
name_agrees _ h = refl

name_no_bracket : (kind : Kind) → is_identifier_name kind ≡ true → is_left_bracket kind ≡ false
name_no_bracket k.LeftBracket h = cc
name_no_bracket _ h = refl

name_no_parenthesis : (kind : Kind) → is_identifier_name kind ≡ true → is_left_parenthesis kind ≡ false
name_no_parenthesis k.LeftParenthesis h = cc
name_no_parenthesis _ h = refl

and_false : (b : Bool) → (b && false) ≡ false
and_false true = refl
and_false false = refl

-- no node is read by what always fails
pub fail_rule : {A : Type 0} (text : Text) (yields : A → List Token) (levels_of : A → ℕ) (n top : ℕ) (stops : A → Token → Bool) → Rule text (record { yields = yields; levels_of = levels_of; Good = λ x. ⊥ }) n top stops fail
fail_rule text yields levels_of n top stops = record { sound = λ i x j h. cc; complete = λ i x j stands low stop. absurd stands.good }

module _ (text : Text) (c : Context) where
  abbrev Values : Syntax Expression
  Values = expressions (IsExpression text (inside c))

  abbrev Arguments : Syntax Bracketed
  Arguments = lists text f.Arguments c

  abbrev pub Brackets : Syntax ((Token × Expression) × Token)
  Brackets = pairs (pairs (tokens k.LeftBracket) Values) (tokens k.RightBracket)

  abbrev Names : Syntax Token
  Names = tokens_in (λ t. is_identifier_name t.kind)

  abbrev Optionals : Syntax (Token × (((Token × Expression) × Token) ⊎ (Bracketed ⊎ Token)))
  Optionals = pairs (tokens k.QuestionDot) (forks Brackets (forks Arguments Names))

  abbrev of_links : (Link → Type 0) → Syntax Link
  of_links Good = record { yields = tokens_of_link written; levels_of = depth_of_link; Good = Good }

  abbrev IsDot : Link → Type 0
  IsDot = Made (pairs (tokens k.Dot) Names) make_dot

  abbrev IsIndex : Link → Type 0
  IsIndex = Made Brackets make_index

  abbrev IsTagged : Link → Type 0
  IsTagged = Made (tokens k.TemplateWhole) l.Tagged

  abbrev IsTemplated : Link → Type 0
  IsTemplated = Made (templates text c) l.TaggedTemplate

  abbrev IsCall : Link → Type 0
  IsCall = Made Arguments l.Call

  abbrev IsOptionalLink : Link → Type 0
  IsOptionalLink = Made Optionals make_optional

  abbrev IsCalled : Bool → Link → Type 0
  IsCalled true x = IsCall x ⊎ IsOptionalLink x
  IsCalled false x = ⊥

  abbrev Linked : Bool → Link → Type 0
  Linked calls x = IsDot x ⊎ (IsIndex x ⊎ (IsTagged x ⊎ (IsTemplated x ⊎ IsCalled calls x)))

  -- ---- what they are

  pub arguments_first : (list : Bracketed) → IsBracketed text f.Arguments c list → First k.LeftParenthesis (tokens_of_bracketed written list)
  arguments_first list (bracketed begin elements ending first h last) = first_of k.LeftParenthesis begin _ _ (tokens_Bracketed written begin elements ending) first

  template_first : (template : Substitutions) → IsTemplate text c template → First k.TemplateHead (tokens_of_substitutions written template)
  template_first template (substitution_template begin first rest ending is h more last) = first_of k.TemplateHead begin _ _ (tokens_Substitutions written begin first rest ending) is

  first_same : (kind : Kind) (ts us : List Token) → us ≡ ts → First kind ts → First kind us
  first_same kind ts us is f = record { first = f.first; rest = f.rest; is = is ∙ f.is; same = f.same }

  dot_first : (x : Link) → IsDot x → First k.Dot (tokens_of_link written x)
  dot_first x h = first_of k.Dot h.0.0 _ _ (ap (tokens_of_link written) h.1 ∙ tokens_Dot written h.0.0 h.0.1) h.2.0

  index_first : (x : Link) → IsIndex x → First k.LeftBracket (tokens_of_link written x)
  index_first x h = first_of k.LeftBracket h.0.0.0 _ _ (ap (tokens_of_link written) h.1 ∙ tokens_Index written h.0.0.0 h.0.0.1 h.0.1) h.2.0.0

  tagged_first : (x : Link) → IsTagged x → First k.TemplateWhole (tokens_of_link written x)
  tagged_first x h = first_of k.TemplateWhole h.0 _ _ (ap (tokens_of_link written) h.1 ∙ tokens_Tagged written h.0) h.2

  templated_first : (x : Link) → IsTemplated x → First k.TemplateHead (tokens_of_link written x)
  templated_first x h = first_same k.TemplateHead _ _ (ap (tokens_of_link written) h.1 ∙ tokens_TaggedTemplate written h.0) (template_first h.0 h.2)

  call_first : (x : Link) → IsCall x → First k.LeftParenthesis (tokens_of_link written x)
  call_first x h = first_same k.LeftParenthesis _ _ (ap (tokens_of_link written) h.1 ∙ tokens_Call written h.0) (arguments_first h.0 h.2)

  optional_tokens : (p : Token × (((Token × Expression) × Token) ⊎ (Bracketed ⊎ Token))) → tokens_of_link written (make_optional p) ≡ Optionals.yields p
  optional_tokens (dot, inl q) = tokens_OptionalIndex written dot q.0.0 q.0.1 q.1
  optional_tokens (dot, inr (inl list)) = tokens_OptionalCall written dot list
  optional_tokens (dot, inr (inr name)) = tokens_OptionalDot written dot name

  optional_levels : (p : Token × (((Token × Expression) × Token) ⊎ (Bracketed ⊎ Token))) → depth_of_link (make_optional p) ≡ Optionals.levels_of p
  optional_levels (dot, inl q) = levels_OptionalIndex dot q.0.0 q.0.1 q.1 ∙ (let e : depth_of_expression q.0.1 ≡ max 0 (max (max 0 (depth_of_expression q.0.1)) 0) = omega arith in e)
  optional_levels (dot, inr (inl list)) = levels_OptionalCall dot list ∙ (let e : depth_of_bracketed list ≡ max 0 (depth_of_bracketed list) = omega arith in e)
  optional_levels (dot, inr (inr name)) = levels_OptionalDot dot name

  optional_first : (x : Link) → IsOptionalLink x → First k.QuestionDot (tokens_of_link written x)
  optional_first x h = first_of k.QuestionDot h.0.0 _ _ (ap (tokens_of_link written) h.1 ∙ optional_tokens h.0) h.2.0

  -- ---- the families

  called_link : (calls : Bool) (x : Link) → IsCalled calls x → IsLink text calls false c x
  called_link true x (inl h) = subst (IsLink text true false c) (sym h.1) (IsLink.call h.2)
  called_link true x (inr h) = optional_link h.0 x h.1 h.2
    where
      optional_link : (p : Token × (((Token × Expression) × Token) ⊎ (Bracketed ⊎ Token))) (x : Link) → x ≡ make_optional p → Optionals.Good p → IsLink text true false c x
      optional_link (dot, inl q) x is good = subst (IsLink text true false c) (sym is) (optional_index good.0 good.1.0.0 good.1.0.1 good.1.1)
      optional_link (dot, inr (inl list)) x is good = subst (IsLink text true false c) (sym is) (optional_call good.0 good.1)
      optional_link (dot, inr (inr name)) x is good = subst (IsLink text true false c) (sym is) (optional_dot good.0 good.1)
  called_link false x h = absurd h

  link_there : (calls : Bool) (x : Link) → Linked calls x → IsLink text calls false c x
  link_there calls x (inl h) = subst (IsLink text calls false c) (sym h.1) (dot_name h.2.0 h.2.1)
  link_there calls x (inr (inl h)) = subst (IsLink text calls false c) (sym h.1) (IsLink.index h.2.0.0 h.2.0.1 h.2.1)
  link_there calls x (inr (inr (inl h))) = subst (IsLink text calls false c) (sym h.1) (tagged h.2)
  link_there calls x (inr (inr (inr (inl h)))) = subst (IsLink text calls false c) (sym h.1) (tagged_template h.2)
  link_there calls x (inr (inr (inr (inr h)))) = called_link calls x h

  link_back : {calls optional : Bool} (x : Link) → IsLink text calls optional c x → Linked calls x
  link_back x (dot_name {dot = dot} {name = name} h1 h2) = inl ((dot, name), refl, (h1, h2))
  link_back x (IsLink.index {begin = begin} {x = y} {ending = ending} h1 h2 h3) = inr (inl (((begin, y), ending), refl, ((h1, h2), h3)))
  link_back x (tagged {template = t} h) = inr (inr (inl (t, refl, h)))
  link_back x (tagged_template {template = t} h) = inr (inr (inr (inl (t, refl, h))))
  link_back x (IsLink.call {arguments = list} h) = inr (inr (inr (inr (inl (list, refl, h)))))
  link_back x (optional_dot {dot = dot} {name = name} h1 h2) = inr (inr (inr (inr (inr ((dot, inr (inr name)), refl, (h1, h2))))))
  link_back x (optional_index {dot = dot} {begin = begin} {x = y} {ending = ending} h1 h2 h3 h4) = inr (inr (inr (inr (inr ((dot, inl ((begin, y), ending)), refl, (h1, ((h2, h3), h4)))))))
  link_back x (optional_call {dot = dot} {arguments = list} h1 h2) = inr (inr (inr (inr (inr ((dot, inr (inl list)), refl, (h1, h2))))))

  -- where an optional chain has begun there is no template
  no_template : {calls optional : Bool} (x : Link) → IsLink text calls optional c x → (optional && is_template x) ≡ false
  unfolding is_template out-Link denote.Hole.Carrier.out
  no_template {optional = optional} x (dot_name h1 h2) = and_false optional
  no_template {optional = optional} x (IsLink.index h1 h2 h3) = and_false optional
  no_template x (tagged h) = refl
  no_template x (tagged_template h) = refl
  no_template {optional = optional} x (IsLink.call h) = and_false optional
  no_template {optional = optional} x (optional_dot h1 h2) = and_false optional
  no_template {optional = optional} x (optional_index h1 h2 h3 h4) = and_false optional
  no_template {optional = optional} x (optional_call h1 h2) = and_false optional

  in_chain : {calls : Bool} (optional : Bool) (x : Link) → IsLink text calls false c x → (optional && is_template x) ≡ false → IsLink text calls optional c x
  unfolding is_template out-Link denote.Hole.Carrier.out
  in_chain optional x (dot_name h1 h2) free = dot_name h1 h2
  in_chain optional x (IsLink.index h1 h2 h3) free = IsLink.index h1 h2 h3
  in_chain false x (tagged h) free = tagged h
  in_chain true x (tagged h) free = let never : true ≡ false = free in cc
  in_chain false x (tagged_template h) free = tagged_template h
  in_chain true x (tagged_template h) free = let never : true ≡ false = free in cc
  in_chain optional x (IsLink.call h) free = IsLink.call h
  in_chain optional x (optional_dot h1 h2) free = optional_dot h1 h2
  in_chain optional x (optional_index h1 h2 h3 h4) free = optional_index h1 h2 h3 h4
  in_chain optional x (optional_call h1 h2) free = optional_call h1 h2

  pub links_of : (calls optional : Bool) (xs : List Link) → AllByRecursion (IsLink text calls false c) xs → templates_fit optional xs ≡ true → AreLinks text calls optional c xs
  links_of calls optional [] h fits = no_links
  links_of calls optional (x ∷ xs) h fits = more_links (in_chain optional x h.0 (not_true _ (and_left _ _ fits))) (links_of calls (optional || is_optional x) xs h.1 (and_right _ _ fits))

  pub all_links : (calls optional : Bool) (xs : List Link) → AreLinks text calls optional c xs → AllByRecursion (IsLink text calls false c) xs × (templates_fit optional xs ≡ true)
  all_links calls optional [] h = (tt, refl)
  all_links calls optional (x ∷ xs) (more_links h more) =
      let rest = all_links calls (optional || is_optional x) xs more in
      ((link_there calls x (link_back x h), rest.0), and_both _ _ (false_not _ (no_template x h)) rest.1)

  -- ---- the readers

  module _ (n : ℕ) (primary : Reader (Node Expression)) (arguments : Reader (Node Bracketed)) (template : Reader (Node Substitutions)) (values value : Reader (Node Expression)) (r : ReadsParts text c n primary arguments template values value) where
    names_rule : Rule text Names n n (λ _ _. true) (token_in text goal.Div (λ t. is_identifier_name t.kind))
    names_rule = token_in_rule text n n goal.Div (λ t. is_identifier_name t.kind) (λ t h. name_agrees t.kind h)

    dot_rule : Rule text (of_links IsDot) n n (λ _ _. true) (read.dot text arguments template values)
    unfolding read.dot
    dot_rule =
        plain_rule text (pairs (tokens k.Dot) Names) (tokens_of_link written) depth_of_link n n (λ _ _. true) (λ _ _. true) make_dot (both (token text k.Dot) (token_in text goal.Div (λ t. is_identifier_name t.kind)))
        (both_rule text (tokens k.Dot) Names n n (λ _ _. true) (λ _ _. true) (λ _ _. true) (token text k.Dot) (token_in text goal.Div (λ t. is_identifier_name t.kind)) (token_rule text n n k.Dot refl) names_rule (λ a b t h. refl) (λ a b m j ga gb h stop. refl))
        (λ p. tokens_Dot written p.0 p.1) (λ p. levels_Dot p.0 p.1) (λ p t h. refl)

    bracket_rule : Rule text Brackets n n (λ _ _. true) (read.bracket text arguments template values)
    bracket_rule =
        both_rule text (pairs (tokens k.LeftBracket) Values) (tokens k.RightBracket) n n (λ _ t. is_right_bracket t.kind) (λ _ _. true) (λ _ _. true) (both (token text k.LeftBracket) values) (token text k.RightBracket)
        (both_rule text (tokens k.LeftBracket) Values n n (λ _ _. true) (λ _ t. is_right_bracket t.kind) (λ _ t. is_right_bracket t.kind) (token text k.LeftBracket) values (token_rule text n n k.LeftBracket refl) r.inner (λ a b t h. h) (λ a b m j ga gb h stop. refl))
        (token_rule text n n k.RightBracket refl) (λ a b t h. refl)
        (λ a b m j ga gb h stop. ap (λ (t : Token). is_right_bracket t.kind) (token_seen text b [] m j (ap (agrees goal.Div) gb) h) ∙ ap is_right_bracket gb)

    index_rule : Rule text (of_links IsIndex) n n (λ _ _. true) (read.index text arguments template values)
    unfolding read.index
    index_rule =
        plain_rule text Brackets (tokens_of_link written) depth_of_link n n (λ _ _. true) (λ _ _. true) make_index (read.bracket text arguments template values) bracket_rule
        (λ p. tokens_Index written p.0.0 p.0.1 p.1) (λ p. levels_Index p.0.0 p.0.1 p.1 ∙ (let e : depth_of_expression p.0.1 ≡ max (max 0 (depth_of_expression p.0.1)) 0 = omega arith in e)) (λ p t h. refl)

    bracket_seen : (p : (Token × Expression) × Token) (i j : ℕ) → Brackets.Good p → SpelledBetween text i (Brackets.yields p) j → (behind text i).kind ≡ k.LeftBracket
    bracket_seen p i j good h = kind_seen text k.LeftBracket _ i j (first_of k.LeftBracket p.0.0 _ _ refl good.0.0) refl h

    arguments_seen : (list : Bracketed) (i j : ℕ) → IsBracketed text f.Arguments c list → SpelledBetween text i (tokens_of_bracketed written list) j → (behind text i).kind ≡ k.LeftParenthesis
    arguments_seen list i j good h = kind_seen text k.LeftParenthesis _ i j (arguments_first list good) refl h

    name_seen : (name : Token) (i j : ℕ) → is_identifier_name name.kind ≡ true → SpelledBetween text i (name ∷ []) j → behind text i ≡ name
    name_seen name i j good h = token_seen text name [] i j (name_agrees name.kind good) h

    no_bracket : (b : Bracketed ⊎ Token) (i j : ℕ) → (forks Arguments Names).Good b → SpelledBetween text i ((forks Arguments Names).yields b) j → is_left_bracket (behind text i).kind ≡ false
    no_bracket (inl list) i j good h = ap is_left_bracket (arguments_seen list i j good h)
    no_bracket (inr name) i j good h = ap (λ (t : Token). is_left_bracket t.kind) (name_seen name i j good h) ∙ name_no_bracket name.kind good

    tail_rule : Rule text (forks Brackets (forks Arguments Names)) n n (fork_stops (λ _ _. true) (fork_stops (λ _ _. true) (λ _ _. true)))
        (fork text (λ t. is_left_bracket t.kind) (read.bracket text arguments template values) (fork text (λ t. is_left_parenthesis t.kind) arguments (token_in text goal.Div (λ t. is_identifier_name t.kind))))
    tail_rule =
        fork_rule text Brackets (forks Arguments Names) n n (λ _ _. true) (fork_stops (λ _ _. true) (λ _ _. true)) (λ t. is_left_bracket t.kind) (read.bracket text arguments template values) (fork text (λ t. is_left_parenthesis t.kind) arguments (token_in text goal.Div (λ t. is_identifier_name t.kind)))
        bracket_rule
        (fork_rule text Arguments Names n n (λ _ _. true) (λ _ _. true) (λ t. is_left_parenthesis t.kind) arguments (token_in text goal.Div (λ t. is_identifier_name t.kind)) r.lists_of names_rule
        (λ a i j good h. ap is_left_parenthesis (arguments_seen a i j good h)) (λ b i j good h stop. ap (λ (t : Token). is_left_parenthesis t.kind) (name_seen b i j good h) ∙ name_no_parenthesis b.kind good))
        (λ a i j good h. ap is_left_bracket (bracket_seen a i j good h)) (λ b i j good h stop. no_bracket b i j good h)

    tail_stops : (b : ((Token × Expression) × Token) ⊎ (Bracketed ⊎ Token)) (t : Token) → fork_stops {A = (Token × Expression) × Token} (λ _ _. true) (fork_stops {A = Bracketed} {B = Token} (λ _ _. true) (λ _ _. true)) b t ≡ true
    tail_stops (inl p) t = refl
    tail_stops (inr (inl list)) t = refl
    tail_stops (inr (inr name)) t = refl

    optional_rule : Rule text (of_links IsOptionalLink) n n (λ _ _. true) (read.optional text arguments template values)
    unfolding read.optional
    optional_rule =
        plain_rule text Optionals (tokens_of_link written) depth_of_link n n (λ _ _. true) (λ _ _. true) make_optional (both (token text k.QuestionDot) (fork text (λ t. is_left_bracket t.kind) (read.bracket text arguments template values) (fork text (λ t. is_left_parenthesis t.kind) arguments (token_in text goal.Div (λ t. is_identifier_name t.kind)))))
        (both_rule text (tokens k.QuestionDot) (forks Brackets (forks Arguments Names)) n n (λ _ _. true) (fork_stops (λ _ _. true) (fork_stops (λ _ _. true) (λ _ _. true))) (λ _ _. true) (token text k.QuestionDot) _ (token_rule text n n k.QuestionDot refl) tail_rule (λ a b t h. tail_stops b t) (λ a b m j ga gb h stop. refl))
        optional_tokens optional_levels (λ p t h. refl)

    call_rule : Rule text (of_links IsCall) n n (λ _ _. true) (made l.Call 0 arguments)
    call_rule = plain_rule text Arguments (tokens_of_link written) depth_of_link n n (λ _ _. true) (λ _ _. true) l.Call arguments r.lists_of (λ p. tokens_Call written p) levels_Call (λ p t h. refl)

    called_rule : (calls : Bool) → Rule text (of_links (IsCalled calls)) n n (λ _ _. true) (read.called text arguments template values calls)
    unfolding read.called
    called_rule false = fail_rule text (tokens_of_link written) depth_of_link n n (λ _ _. true)
    called_rule true =
        choice_rule text (of_links (λ x. Unit {0})) IsCall IsOptionalLink n n (λ _ _. true) (λ t. is_left_parenthesis t.kind) (made l.Call 0 arguments) (read.optional text arguments template values) call_rule optional_rule
        (λ x i j good h. ap is_left_parenthesis (kind_seen text k.LeftParenthesis _ i j (call_first x good) refl h)) (λ x i j good h stop. ap is_left_parenthesis (kind_seen text k.QuestionDot _ i j (optional_first x good) refl h))

    -- what a link shows
    record Shows (calls : Bool) (x : Link) : Type 0 where
      kind : Kind
      first : First kind (tokens_of_link written x)
      agreed : agrees goal.Div kind ≡ true
      begun : begins_link_in calls kind ≡ true

    begun_member : (calls : Bool) (kind : Kind) → begins_member kind ≡ true → begins_link kind ≡ true → begins_link_in calls kind ≡ true
    begun_member true kind h g = g
    begun_member false kind h g = h

    shows : (calls : Bool) (x : Link) → Linked calls x → Shows calls x
    shows calls x (inl h) = record { kind = k.Dot; first = dot_first x h; agreed = refl; begun = begun_member calls k.Dot refl refl }
    shows calls x (inr (inl h)) = record { kind = k.LeftBracket; first = index_first x h; agreed = refl; begun = begun_member calls k.LeftBracket refl refl }
    shows calls x (inr (inr (inl h))) = record { kind = k.TemplateWhole; first = tagged_first x h; agreed = refl; begun = begun_member calls k.TemplateWhole refl refl }
    shows calls x (inr (inr (inr (inl h)))) = record { kind = k.TemplateHead; first = templated_first x h; agreed = refl; begun = begun_member calls k.TemplateHead refl refl }
    shows true x (inr (inr (inr (inr (inl h))))) = record { kind = k.LeftParenthesis; first = call_first x h; agreed = refl; begun = refl }
    shows true x (inr (inr (inr (inr (inr h))))) = record { kind = k.QuestionDot; first = optional_first x h; agreed = refl; begun = refl }
    shows false x (inr (inr (inr (inr h)))) = absurd h

    -- a later sort shows none of the kinds of an earlier one
    called_not : (test : Kind → Bool) → test k.LeftParenthesis ≡ false → test k.QuestionDot ≡ false → (calls : Bool) (x : Link) (i j : ℕ) → IsCalled calls x → SpelledBetween text i (tokens_of_link written x) j → test (behind text i).kind ≡ false
    called_not test a b true x i j (inl h) spelled = ap test (kind_seen text k.LeftParenthesis _ i j (call_first x h) refl spelled) ∙ a
    called_not test a b true x i j (inr h) spelled = ap test (kind_seen text k.QuestionDot _ i j (optional_first x h) refl spelled) ∙ b
    called_not test a b false x i j h spelled = absurd h

    templated_not : (test : Kind → Bool) → test k.TemplateHead ≡ false → test k.LeftParenthesis ≡ false → test k.QuestionDot ≡ false → (calls : Bool) (x : Link) (i j : ℕ) → IsTemplated x ⊎ IsCalled calls x → SpelledBetween text i (tokens_of_link written x) j → test (behind text i).kind ≡ false
    templated_not test d a b calls x i j (inl h) spelled = ap test (kind_seen text k.TemplateHead _ i j (templated_first x h) refl spelled) ∙ d
    templated_not test d a b calls x i j (inr h) spelled = called_not test a b calls x i j h spelled

    tagged_not : (test : Kind → Bool) → test k.TemplateWhole ≡ false → test k.TemplateHead ≡ false → test k.LeftParenthesis ≡ false → test k.QuestionDot ≡ false → (calls : Bool) (x : Link) (i j : ℕ) → IsTagged x ⊎ (IsTemplated x ⊎ IsCalled calls x) → SpelledBetween text i (tokens_of_link written x) j → test (behind text i).kind ≡ false
    tagged_not test w d a b calls x i j (inl h) spelled = ap test (kind_seen text k.TemplateWhole _ i j (tagged_first x h) refl spelled) ∙ w
    tagged_not test w d a b calls x i j (inr h) spelled = templated_not test d a b calls x i j h spelled

    index_not : (calls : Bool) (x : Link) (i j : ℕ) → IsIndex x ⊎ (IsTagged x ⊎ (IsTemplated x ⊎ IsCalled calls x)) → SpelledBetween text i (tokens_of_link written x) j → is_dot (behind text i).kind ≡ false
    index_not calls x i j (inl h) spelled = ap is_dot (kind_seen text k.LeftBracket _ i j (index_first x h) refl spelled)
    index_not calls x i j (inr h) spelled = tagged_not is_dot refl refl refl refl calls x i j h spelled

    tagged_rule : Rule text (of_links IsTagged) n n (λ _ _. true) (made l.Tagged 0 (token text k.TemplateWhole))
    tagged_rule = plain_rule text (tokens k.TemplateWhole) (tokens_of_link written) depth_of_link n n (λ _ _. true) (λ _ _. true) l.Tagged (token text k.TemplateWhole) (token_rule text n n k.TemplateWhole refl) (λ p. tokens_Tagged written p) levels_Tagged (λ p t h. refl)

    templated_rule : Rule text (of_links IsTemplated) n n (λ _ _. true) (made l.TaggedTemplate 0 template)
    templated_rule = plain_rule text (templates text c) (tokens_of_link written) depth_of_link n n (λ _ _. true) (λ _ _. true) l.TaggedTemplate template r.templates_of (λ p. tokens_TaggedTemplate written p) levels_TaggedTemplate (λ p t h. refl)

    link_rule : (calls : Bool) → Rule text (of_links (Linked calls)) n n (λ _ _. true) (read.link text arguments template values calls)
    unfolding read.link
    link_rule calls =
        let S = of_links (λ x. Unit {0}) in
        let q4 = read.called text arguments template values calls in
        let q3 = choice text (λ t. is_head t.kind) (made l.TaggedTemplate 0 template) q4 in
        let q2 = choice text (λ t. is_whole t.kind) (made l.Tagged 0 (token text k.TemplateWhole)) q3 in
        let q1 = choice text (λ t. is_left_bracket t.kind) (read.index text arguments template values) q2 in
        choice_rule text S IsDot (λ x. IsIndex x ⊎ (IsTagged x ⊎ (IsTemplated x ⊎ IsCalled calls x))) n n (λ _ _. true) (λ t. is_dot t.kind) (read.dot text arguments template values) q1 dot_rule
        (choice_rule text S IsIndex (λ x. IsTagged x ⊎ (IsTemplated x ⊎ IsCalled calls x)) n n (λ _ _. true) (λ t. is_left_bracket t.kind) (read.index text arguments template values) q2 index_rule
        (choice_rule text S IsTagged (λ x. IsTemplated x ⊎ IsCalled calls x) n n (λ _ _. true) (λ t. is_whole t.kind) (made l.Tagged 0 (token text k.TemplateWhole)) q3 tagged_rule
        (choice_rule text S IsTemplated (IsCalled calls) n n (λ _ _. true) (λ t. is_head t.kind) (made l.TaggedTemplate 0 template) q4 templated_rule (called_rule calls)
        (λ x i j good h. ap is_head (kind_seen text k.TemplateHead _ i j (templated_first x good) refl h)) (λ x i j good h stop. called_not is_head refl refl calls x i j good h))
        (λ x i j good h. ap is_whole (kind_seen text k.TemplateWhole _ i j (tagged_first x good) refl h)) (λ x i j good h stop. templated_not is_whole refl refl refl calls x i j good h))
        (λ x i j good h. ap is_left_bracket (kind_seen text k.LeftBracket _ i j (index_first x good) refl h)) (λ x i j good h stop. tagged_not is_left_bracket refl refl refl refl calls x i j good h))
        (λ x i j good h. ap is_dot (kind_seen text k.Dot _ i j (dot_first x good) refl h)) (λ x i j good h stop. index_not calls x i j good h)

    pub link_starts : (calls : Bool) (x : Link) (i j : ℕ) → IsLink text calls false c x → SpelledBetween text i (tokens_of_link written x) j → begins_link_in calls (behind text i).kind ≡ true
    link_starts calls x i j good h = let s = shows calls x (link_back x good) in ap (begins_link_in calls) (kind_seen text s.kind _ i j s.first s.agreed h) ∙ s.begun

    link_moves : (calls : Bool) (x : Link) (i j : ℕ) → IsLink text calls false c x → SpelledBetween text i (tokens_of_link written x) j → (i < j) × (j ≤ length text)
    link_moves calls x i j good h = let s = shows calls x (link_back x good) in kind_moves text s.kind _ i j s.first h

    repeats : (calls : Bool) → Repeats text (of_links (IsLink text calls false c)) n n (λ i. begins_link_in calls (behind text i).kind) (λ _ _. true) (read.link text arguments template values calls)
    repeats calls = record {
      rule = same_rule text (of_links (Linked calls)) (of_links (IsLink text calls false c)) n n (λ _ _. true) (λ _ _. true) (read.link text arguments template values calls) (link_rule calls) refl refl (link_there calls) (λ x h. link_back x h) (λ x t good h. refl);
      starts = link_starts calls;
      moves = link_moves calls;
      apart = λ x i good h. refl;
    }

    pub links_rule : (calls : Bool) → Rule text (row (of_links (IsLink text calls false c))) n n (list_stops (λ _ _. true) (λ t. begins_link_in calls t.kind)) (read.links text arguments template values calls)
    unfolding read.links
    links_rule calls = many_rule text (of_links (IsLink text calls false c)) n n (λ t. begins_link_in calls t.kind) (λ _ _. true) (read.link text arguments template values calls) (repeats calls)
