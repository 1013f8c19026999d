-- Template literals with substitutions are read exactly.
use Rattle.std.proofs.Common.{◌≡◌, ℕ, max, Bool, true, false, Option, Some, None, List, [], ◌∷◌, ◌++◌, map, refl, ap, sym, ◌∙◌, subst, arith}
use Rattle.std.specs.List.{flat_map, AllByRecursion}
use Rattle.esb_token.specs.declared.kind.Kind.{Kind}
use Rattle.esb_token.specs.declared.kind.Kind.TheVariants as k
use Rattle.esb_token.specs.declared.token.Token.{Token}
use Rattle.esb_token.specs.declared.goal.Goal.TheVariants as goal
use Rattle.esb_token.specs.Goals.{is_tail}
use Rattle.esb_token.specs.Tokens.{SpelledBetween}
use Rattle.esb_tree.specs.declared.expressions.Expression.{Expression}
use Rattle.esb_tree.specs.declared.expressions.Substitution.{Substitution}
use Rattle.esb_tree.specs.declared.expressions.Substitutions.{Substitutions}
use Rattle.esb_tree.specs.Levels.{most, depth_of_expression, depth_of_substitution, depth_of_substitutions}
use Rattle.esb_tree.specs.Trees.{written}
use Rattle.esb_tree.specs.Yields.{tokens_of_expression, tokens_of_substitution, tokens_of_substitutions}
use Rattle.esb_tree.proofs.TokenLines.{tokens_Substitution, tokens_Substitutions}
use Rattle.esb_tree.proofs.LevelLines.{levels_Substitution, levels_Substitutions}
use Rattle.esb_grammar.specs.declared.context.Context.{Context}
use Rattle.esb_grammar.specs.Contexts.{inside}
use Rattle.esb_grammar.specs.Grammar.{IsExpression, IsTemplate, substitution_template, AreSubstitutions, no_substitutions, template_middle}
use Rattle.esb_grammar.specs.Kinds.{is_right_brace}
use Rattle.esb_reader.specs.declared.node.Node.{Node}
use Rattle.esb_reader.specs.Kinds.{agrees}
use Rattle.esb_reader.specs.Places.{Text, or_nothing, token_at, peek}
use Rattle.esb_reader.specs.Reader.{Reader}
use Rattle.esb_reader.specs.Parts.{behind, both, token, token_in, made}
use Rattle.esb_reader.specs.Stands.{Syntax, Rule, Made, tokens, tokens_in, pairs, row}
use Rattle.esb_reader.proofs.Agreeing.{seen, spelled-is_read, read_is_next, tail-shows_brace}
use Rattle.esb_reading_laws.specs.Laws.{Repeats}
use Rattle.esb_reading_laws.proofs.Composed.{token_rule, token_in_rule, both_rule, plain_rule, same_rule}
use Rattle.esb_reading_laws.proofs.Steps.{spelled_split}
use Rattle.esb_expression_laws.specs.Leaves.{expressions}
use Rattle.esb_expression_laws.proofs.OperatorChains.{spelled_moves}
use Rattle.esb_literal_laws.specs.Templates as read
use Rattle.esb_literal_laws.specs.Templates.{is_middle, is_ending, at_middle, make_substitution, make_template}
use Rattle.esb_literal_laws.specs.Laws.{templates, TemplateRule}
use Rattle.esb_literal_laws.proofs.Forks.{ended_rule}
use Rattle.esb_literal_laws.proofs.Seen.{max_zero}

-- ---- kinds

middle_is : (kind : Kind) → is_middle kind ≡ true → kind ≡ k.TemplateMiddle
middle_is k.TemplateMiddle h = refl
middle_is _ h = cc

ending_is : (kind : Kind) → is_ending kind ≡ true → kind ≡ k.TemplateTail
ending_is k.TemplateTail h = refl
ending_is _ h = cc

middle_agrees : (kind : Kind) → is_middle kind ≡ true → agrees goal.TemplateTail kind ≡ true
middle_agrees kind h = ap (agrees goal.TemplateTail) (middle_is kind h)

ending_agrees : (kind : Kind) → is_ending kind ≡ true → agrees goal.TemplateTail kind ≡ true
ending_agrees kind h = ap (agrees goal.TemplateTail) (ending_is kind h)

-- ---- places

-- a later part of a template is seen under its own goal
sees_tail : (text : Text) (i : ℕ) (t : Token) (ts : List Token) (j : ℕ) → SpelledBetween text i (t ∷ ts) j → agrees goal.TemplateTail t.kind ≡ true → peek text goal.TemplateTail i ≡ t
sees_tail text i t ts j h same = seen text goal.TemplateTail i t (spelled-is_read text goal.TemplateTail i t h.0 same)

-- and a brace under the goal of operators
shows_brace : (text : Text) (i : ℕ) (t : Token) (ts : List Token) (j : ℕ) → SpelledBetween text i (t ∷ ts) j → agrees goal.TemplateTail t.kind ≡ true → is_tail t.kind ≡ true → is_right_brace (behind text i).kind ≡ true
shows_brace text i t ts j h same is = ap is_right_brace (tail-shows_brace text i t (read_is_next text goal.TemplateTail i t (spelled-is_read text goal.TemplateTail i t h.0 same)) is)

middle_shows : (text : Text) (i : ℕ) → at_middle text i ≡ true → is_right_brace (behind text i).kind ≡ true
unfolding at_middle peek
middle_shows text i h = by_token (token_at text goal.TemplateTail i) refl h
  where
    by_token : (o : Option Token) → token_at text goal.TemplateTail i ≡ o → is_middle (or_nothing o).kind ≡ true → is_right_brace (behind text i).kind ≡ true
    by_token None e g = cc
    by_token (Some t) e g = ap is_right_brace (tail-shows_brace text i t (read_is_next text goal.TemplateTail i t e) (ap is_tail (middle_is t.kind g)))

module _ (text : Text) (c : Context) (n : ℕ) (inner : Reader (Node Expression)) (rule : Rule text (expressions (IsExpression text (inside c))) n n (λ _ t. is_right_brace t.kind) inner) where
  abbrev Values : Syntax Expression
  Values = expressions (IsExpression text (inside c))

  abbrev brace : Token → Bool
  brace t = is_right_brace t.kind

  abbrev middles : Token → Bool
  middles t = is_middle t.kind

  abbrev endings : Token → Bool
  endings t = is_ending t.kind

  abbrev Parts : Syntax (Token × Expression)
  Parts = pairs (tokens_in middles) Values

  abbrev Substs : Syntax Substitution
  Substs = record { yields = tokens_of_substitution written; levels_of = depth_of_substitution; Good = Made Parts make_substitution }

  substitution_rule : Rule text Substs n n (λ _. brace) (read.substitution text inner)
  unfolding read.substitution
  substitution_rule =
      plain_rule text Parts (tokens_of_substitution written) depth_of_substitution n n (λ _. brace) (λ _. brace) make_substitution (both (token_in text goal.TemplateTail middles) inner)
      (both_rule text (tokens_in middles) Values n n (λ _ _. true) (λ _. brace) (λ _. brace) (token_in text goal.TemplateTail middles) inner
      (token_in_rule text n n goal.TemplateTail middles (λ t h. middle_agrees t.kind h)) rule (λ a b t h. h) (λ a b m j ga gb h stop. refl))
      (λ p. tokens_Substitution written p.0 p.1) (λ p. levels_Substitution p.0 p.1 ∙ max_zero (depth_of_expression p.1)) (λ p t h. h)

  spelled_substitution : (o : Substitution) (i j : ℕ) (good : Substs.Good o) → SpelledBetween text i (tokens_of_substitution written o) j → SpelledBetween text i (good.0.0 ∷ tokens_of_expression written good.0.1) j
  spelled_substitution o i j good h = subst (λ ts. SpelledBetween text i ts j) (ap (tokens_of_substitution written) good.1 ∙ tokens_Substitution written good.0.0 good.0.1) h

  starts : (o : Substitution) (i j : ℕ) → Substs.Good o → SpelledBetween text i (tokens_of_substitution written o) j → at_middle text i ≡ true
  unfolding at_middle
  starts o i j good h =
      ap (λ (t : Token). is_middle t.kind) (sees_tail text i good.0.0 _ j (spelled_substitution o i j good h) (middle_agrees good.0.0.kind good.2.0)) ∙ good.2.0

  repeats : Repeats text Substs n n (at_middle text) (λ _. brace) (read.substitution text inner)
  repeats = record {
    rule = substitution_rule;
    starts = starts;
    moves = λ o i j good h. spelled_moves text i good.0.0 _ j (spelled_substitution o i j good h);
    apart = λ o i good h. middle_shows text i h;
  }

  ending_not_middle : (kind : Kind) → is_ending kind ≡ true → is_middle kind ≡ false
  ending_not_middle k.TemplateTail h = refl
  ending_not_middle _ h = cc

  no_middle : (t : Token) (m j : ℕ) → is_ending t.kind ≡ true → SpelledBetween text m (t ∷ []) j → at_middle text m ≡ false
  unfolding at_middle
  no_middle t m j is h = ap (λ (u : Token). is_middle u.kind) (sees_tail text m t [] j h (ending_agrees t.kind is)) ∙ ending_not_middle t.kind is

  ending_shows : (t : Token) (m j : ℕ) → is_ending t.kind ≡ true → SpelledBetween text m (t ∷ []) j → brace (behind text m) ≡ true
  ending_shows t m j is h = shows_brace text m t [] j h (ending_agrees t.kind is) (ap is_tail (ending_is t.kind is))

  rest_rule : Rule text (pairs (row Substs) (tokens_in endings)) n n (λ _ _. true) (both (read.substitutions text inner) (token_in text goal.TemplateTail endings))
  unfolding read.substitutions
  rest_rule =
      ended_rule text Substs (tokens_in endings) n n (at_middle text) (λ _. brace) (λ _ _. true) (read.substitution text inner) (token_in text goal.TemplateTail endings)
      repeats (token_in_rule text n n goal.TemplateTail endings (λ t h. ending_agrees t.kind h)) (λ t m j is h. no_middle t m j is h) (λ a t m j good is h. ending_shows t m j is h)

  -- what follows the first value
  first_ends : (os : List Substitution) (t : Token) (m j : ℕ) → AllByRecursion Substs.Good os → is_ending t.kind ≡ true → SpelledBetween text m (flat_map (tokens_of_substitution written) os ++ t ∷ []) j → brace (behind text m) ≡ true
  first_ends [] t m j good is h = ending_shows t m j is h
  first_ends (o ∷ os) t m j good is h =
      let cut = spelled_split text m (flat_map (tokens_of_substitution written) (o ∷ os)) (t ∷ []) j h in
      let one = spelled_split text m (tokens_of_substitution written o) (flat_map (tokens_of_substitution written) os) cut.0 cut.1 in
      middle_shows text m (starts o m one.0 good.0 one.1)

  abbrev Whole : Syntax ((Token × Expression) × (List Substitution × Token))
  Whole = pairs (pairs (tokens k.TemplateHead) Values) (pairs (row Substs) (tokens_in endings))

  all_substitutions : (os : List Substitution) → AreSubstitutions text c os → AllByRecursion Substs.Good os
  all_substitutions [] h = tt
  all_substitutions (o ∷ os) (template_middle {middle = t} {x = x} kind good more) = (((t, x), refl, (ap is_middle kind, good)), all_substitutions os more)

  are_substitutions : (os : List Substitution) → AllByRecursion Substs.Good os → AreSubstitutions text c os
  are_substitutions [] h = no_substitutions
  are_substitutions (o ∷ os) h =
      let made = h.0 in
      subst (λ y. AreSubstitutions text c (y ∷ os)) (sym made.1) (template_middle (middle_is made.0.0.kind made.2.0) made.2.1 (are_substitutions os h.1))

  there : (x : Substitutions) → Made Whole make_template x → IsTemplate text c x
  there x h =
      subst (IsTemplate text c) (sym h.1)
      (substitution_template h.0.0.0 h.0.0.1 h.0.1.0 h.0.1.1 h.2.0.0 h.2.0.1 (are_substitutions h.0.1.0 h.2.1.0) (ending_is h.0.1.1.kind h.2.1.1))

  back : (x : Substitutions) → IsTemplate text c x → Made Whole make_template x
  back x (substitution_template begin first rest ending h1 h2 h3 h4) = (((begin, first), (rest, ending)), refl, ((h1, h2), (all_substitutions rest h3, ap is_ending h4)))

  same_depth : (a b : ℕ) → max a b ≡ max (max 0 a) (max b 0)
  same_depth a b = omega arith

  template_read : Rule text (templates text c) n n (λ _ _. true) (read.template text inner)
  unfolding read.template
  template_read =
      same_rule text (record { yields = tokens_of_substitutions written; levels_of = depth_of_substitutions; Good = Made Whole make_template }) (templates text c) n n (λ _ _. true) (λ _ _. true)
      (made make_template 0 (both (both (token text k.TemplateHead) inner) (both (read.substitutions text inner) (token_in text goal.TemplateTail endings))))
      (plain_rule text Whole (tokens_of_substitutions written) depth_of_substitutions n n (λ _ _. true) (λ _ _. true) make_template
      (both (both (token text k.TemplateHead) inner) (both (read.substitutions text inner) (token_in text goal.TemplateTail endings)))
      (both_rule text (pairs (tokens k.TemplateHead) Values) (pairs (row Substs) (tokens_in endings)) n n (λ _. brace) (λ _ _. true) (λ _ _. true)
      (both (token text k.TemplateHead) inner) (both (read.substitutions text inner) (token_in text goal.TemplateTail endings))
      (both_rule text (tokens k.TemplateHead) Values n n (λ _ _. true) (λ _. brace) (λ _. brace) (token text k.TemplateHead) inner (token_rule text n n k.TemplateHead refl) rule (λ a b t h. h) (λ a b m j ga gb h stop. refl))
      rest_rule (λ a b t h. refl) (λ a b m j ga gb h stop. first_ends b.0 b.1 m j gb.0 gb.1 h))
      (λ p. tokens_Substitutions written p.0.0 p.0.1 p.1.0 p.1.1) (λ p. levels_Substitutions p.0.0 p.0.1 p.1.0 p.1.1 ∙ same_depth (depth_of_expression p.0.1) (most (map depth_of_substitution p.1.0))) (λ p t h. refl))
      refl refl there back (λ x t good h. refl)

pub template_rule : TemplateRule
template_rule text c n inner rule = template_read text c n inner rule
