-- Names of properties are read exactly.
use Rattle.std.proofs.Common.{◌≡◌, ◌⊎◌, inl, inr, ℕ, max, Bool, true, false, ◌||◌, List, [], ◌∷◌, ◌++◌, refl, ap, sym, ◌∙◌, subst, arith}
use Rattle.esb_token.specs.declared.kind.Kind.{Kind}
use Rattle.esb_token.specs.declared.kind.Kind.TheVariants as k
use Rattle.esb_token.specs.declared.token.Token.{Token}
use Rattle.esb_token.specs.declared.goal.Goal.TheVariants as goal
use Rattle.esb_token.specs.Tokens.{SpelledBetween}
use Rattle.esb_tree.specs.declared.expressions.Expression.{Expression}
use Rattle.esb_tree.specs.declared.patterns.PropertyName.{PropertyName}
use Rattle.esb_tree.specs.declared.patterns.PropertyName.TheVariants as pn
use Rattle.esb_tree.specs.Levels.{depth_of_expression, depth_of_property_name}
use Rattle.esb_tree.specs.Trees.{written}
use Rattle.esb_tree.specs.Yields.{tokens_of_property_name}
use Rattle.esb_tree.proofs.TokenLines.{tokens_Named, tokens_Computed}
use Rattle.esb_tree.proofs.LevelLines.{levels_Named, levels_Computed}
use Rattle.esb_grammar.specs.declared.context.Context.{Context}
use Rattle.esb_grammar.specs.Contexts.{inside}
use Rattle.esb_grammar.specs.Grammar.{IsAssignment, IsPropertyName, literal_property_name, computed_property_name}
use Rattle.esb_grammar.specs.Kinds.{is_comma, is_property_word, is_left_bracket}
use Rattle.esb_reader.specs.declared.node.Node.{Node}
use Rattle.esb_reader.specs.Kinds.{agrees}
use Rattle.esb_reader.specs.Places.{Text}
use Rattle.esb_reader.specs.Reader.{Reader}
use Rattle.esb_reader.specs.Parts.{behind, both, token, token_in, choice}
use Rattle.esb_reader.specs.Stands.{Syntax, Rule, Made, tokens, tokens_in, pairs}
use Rattle.esb_reading_laws.proofs.Composed.{token_in_rule, plain_rule, same_rule, choice_rule}
use Rattle.esb_expression_laws.specs.Leaves.{expressions}
use Rattle.esb_expression_laws.specs.Lists.{is_closer, ends_element}
use Rattle.esb_literal_laws.specs.Forks.{second}
use Rattle.esb_literal_laws.specs.Names as read
use Rattle.esb_literal_laws.specs.Names.{make_computed}
use Rattle.esb_literal_laws.specs.Laws.{names}
use Rattle.esb_literal_laws.proofs.Seen.{sees, sees_kind}
use Rattle.esb_literal_laws.proofs.Sequences.{lead_rule, close_rule}

pub word_agrees : (kind : Kind) → is_property_word kind ≡ true → agrees goal.Div kind ≡ true
word_agrees k.End h = cc
word_agrees k.RegExp h = cc
word_agrees k.TemplateMiddle h = cc
word_agrees k.TemplateTail h = cc
word_agrees _ h = refl

word_no_bracket : (kind : Kind) → is_property_word kind ≡ true → is_left_bracket kind ≡ false
word_no_bracket k.LeftBracket h = cc
word_no_bracket _ h = refl

pub kind_ends : (t : Token) (kind : Kind) → t.kind ≡ kind → (is_comma kind || is_closer kind) ≡ true → ends_element t ≡ true
kind_ends t kind e h = ap (λ x. is_comma x || is_closer x) e ∙ h

-- what a name that stands before a token shows: the name and that token, or a bracket
abbrev pub Named_before : Text → Token → ℕ → Type 0
Named_before text u i = ((is_property_word (behind text i).kind ≡ true) × (second text i ≡ u)) ⊎ ((behind text i).kind ≡ k.LeftBracket)

pub name_seen : (text : Text) (c : Context) (x : PropertyName) (u : Token) (us : List Token) (i j : ℕ) → IsPropertyName text c x → agrees goal.Div u.kind ≡ true → SpelledBetween text i (tokens_of_property_name written x ++ u ∷ us) j → Named_before text u i
name_seen text c x u us i j (literal_property_name {t = t} word) same h =
    let spelled = subst (λ ts. SpelledBetween text i (ts ++ u ∷ us) j) (tokens_Named written t) h in
    let here = sees text i t (u ∷ us) j spelled (word_agrees t.kind word) in
    let next = sees text t.end u us j spelled.2 same in
    inl (ap (λ (v : Token). is_property_word v.kind) here ∙ word, ap (λ (v : Token). behind text v.end) here ∙ next)
name_seen text c x u us i j (computed_property_name {begin = t} {x = y} {ending = v} h1 h2 h3) same h =
    let spelled = subst (λ ts. SpelledBetween text i (ts ++ u ∷ us) j) (tokens_Computed written t y v) h in
    inr (ap (λ (w : Token). w.kind) (sees_kind text i t _ j k.LeftBracket spelled h1 refl) ∙ h1)

module _ (text : Text) (values : Context → ℕ → Reader (Node Expression)) (c : Context) (n : ℕ) (rule : Rule text (expressions (IsAssignment text (inside c))) n n (λ _. ends_element) (values (inside c) n)) where
  abbrev Values : Syntax Expression
  Values = expressions (IsAssignment text (inside c))

  abbrev words : Token → Bool
  words t = is_property_word t.kind

  abbrev of_names : (PropertyName → Type 0) → Syntax PropertyName
  of_names Good = record { yields = tokens_of_property_name written; levels_of = depth_of_property_name; Good = Good }

  abbrev Computed : Syntax (Token × (Expression × Token))
  Computed = pairs (tokens k.LeftBracket) (pairs Values (tokens k.RightBracket))

  abbrev IsComputed : PropertyName → Type 0
  IsComputed = Made Computed make_computed

  abbrev IsNamed : PropertyName → Type 0
  IsNamed = Made (tokens_in words) pn.Named

  same_max : (m : ℕ) → m ≡ max 0 (max m 0)
  same_max m = omega arith

  computed_rule : Rule text (of_names IsComputed) n n (λ _ _. true) (read.computed_name text values c n)
  unfolding read.computed_name
  computed_rule =
      plain_rule text Computed (tokens_of_property_name written) depth_of_property_name n n (λ _ _. true) (λ _ _. true) make_computed (both (token text k.LeftBracket) (both (values (inside c) n) (token text k.RightBracket)))
      (lead_rule text (pairs Values (tokens k.RightBracket)) n k.LeftBracket (λ _ _. true) (both (values (inside c) n) (token text k.RightBracket)) refl
      (close_rule text Values n k.RightBracket (λ _. ends_element) (values (inside c) n) refl rule (λ a t e. kind_ends t k.RightBracket e refl)))
      (λ p. tokens_Computed written p.0 p.1.0 p.1.1) (λ p. levels_Computed p.0 p.1.0 p.1.1 ∙ same_max (depth_of_expression p.1.0)) (λ p t h. refl)

  named_rule : Rule text (of_names IsNamed) n n (λ _ _. true) (read.literal_name text)
  unfolding read.literal_name
  named_rule =
      plain_rule text (tokens_in words) (tokens_of_property_name written) depth_of_property_name n n (λ _ _. true) (λ _ _. true) pn.Named (token_in text goal.Div words)
      (token_in_rule text n n goal.Div words (λ t h. word_agrees t.kind h)) (λ t. tokens_Named written t) levels_Named (λ p t h. refl)

  computed_shows : (x : PropertyName) (i j : ℕ) → IsComputed x → SpelledBetween text i (tokens_of_property_name written x) j → is_left_bracket (behind text i).kind ≡ true
  computed_shows x i j good h =
      let spelled = subst (λ ts. SpelledBetween text i ts j) (ap (tokens_of_property_name written) good.1 ∙ tokens_Computed written good.0.0 good.0.1.0 good.0.1.1) h in
      ap (λ (t : Token). is_left_bracket t.kind) (sees_kind text i good.0.0 _ j k.LeftBracket spelled good.2.0 refl) ∙ ap is_left_bracket good.2.0

  named_shows : (x : PropertyName) (i j : ℕ) → IsNamed x → SpelledBetween text i (tokens_of_property_name written x) j → is_left_bracket (behind text i).kind ≡ false
  named_shows x i j good h =
      let spelled = subst (λ ts. SpelledBetween text i ts j) (ap (tokens_of_property_name written) good.1 ∙ tokens_Named written good.0) h in
      ap (λ (t : Token). is_left_bracket t.kind) (sees text i good.0 [] j spelled (word_agrees good.0.kind good.2)) ∙ word_no_bracket good.0.kind good.2

  there : (x : PropertyName) → IsComputed x ⊎ IsNamed x → IsPropertyName text c x
  there x (inl h) = subst (IsPropertyName text c) (sym h.1) (computed_property_name h.2.0 h.2.1.0 h.2.1.1)
  there x (inr h) = subst (IsPropertyName text c) (sym h.1) (literal_property_name h.2)

  back : (x : PropertyName) → IsPropertyName text c x → IsComputed x ⊎ IsNamed x
  back x (literal_property_name {t = t} word) = inr (t, refl, word)
  back x (computed_property_name {begin = t} {x = y} {ending = v} h1 h2 h3) = inl ((t, (y, v)), refl, (h1, (h2, h3)))

  pub name_rule : Rule text (names text c) n n (λ _ _. true) (read.property_name text values c n)
  unfolding read.property_name
  name_rule =
      same_rule text (of_names (λ x. IsComputed x ⊎ IsNamed x)) (names text c) n n (λ _ _. true) (λ _ _. true) (choice text (λ t. is_left_bracket t.kind) (read.computed_name text values c n) (read.literal_name text))
      (choice_rule text (names text c) IsComputed IsNamed n n (λ _ _. true) (λ t. is_left_bracket t.kind) (read.computed_name text values c n) (read.literal_name text) computed_rule named_rule
      computed_shows (λ x i j good h stop. named_shows x i j good h))
      refl refl there back (λ x t good h. refl)
