-- Lists of bindings of declarations are read exactly.
use Rattle.std.proofs.Common.{◌≡◌, ◌⊎◌, inl, inr, ℕ, suc, ◌+◌, ◌<◌, max, Bool, true, false, ◌∷◌, refl, ap, sym, ◌∙◌, subst, arith}
use Rattle.esb_token.specs.declared.kind.Kind.TheVariants as k
use Rattle.esb_token.specs.declared.token.Token.{Token}
use Rattle.esb_token.specs.declared.goal.Goal.TheVariants as goal
use Rattle.esb_token.specs.Tokens.{SpelledBetween}
use Rattle.esb_tree.specs.declared.expressions.Expression.{Expression}
use Rattle.esb_tree.specs.declared.expressions.Expression.TheVariants as e
use Rattle.esb_tree.specs.declared.patterns.Element.{Element}
use Rattle.esb_tree.specs.declared.patterns.Element.TheVariants as el
use Rattle.esb_tree.specs.Levels.{depth_of_expression, depth_of_element}
use Rattle.esb_tree.specs.Trees.{written}
use Rattle.esb_tree.specs.Yields.{tokens_of_expression, tokens_of_element}
use Rattle.esb_tree.proofs.TokenLines.{tokens_Primary, tokens_Assignment, tokens_Value}
use Rattle.esb_tree.proofs.LevelLines.{levels_Primary, levels_Assignment, levels_Value}
use Rattle.esb_grammar.specs.declared.context.Context.{Context}
use Rattle.esb_grammar.specs.declared.form.Form.TheVariants as f
use Rattle.esb_grammar.specs.Grammar.{IsAssignment, IsElement, hole, binding_element, rest_element, binding, IsTarget, binding_identifier, IsBinding, without_value, with_value}
use Rattle.esb_grammar.specs.Kinds.{is_binding, is_assign}
use Rattle.esb_reader.specs.declared.node.Node.{Node}
use Rattle.esb_reader.specs.Places.{Text}
use Rattle.esb_reader.specs.Reader.{Reader, node}
use Rattle.esb_reader.specs.Parts.{behind, both, token, token_in}
use Rattle.esb_reader.specs.Stands.{Syntax, Stands, Rule, Made, tokens, tokens_in, pairs}
use Rattle.esb_reading_laws.proofs.Composed.{token_in_rule, plain_rule, above_rule, same_rule}
use Rattle.esb_reading_laws.proofs.Steps.{spelled_split}
use Rattle.esb_expression_laws.specs.Leaves.{expressions}
use Rattle.esb_expression_laws.specs.Lists.{fits_place, list_fits}
use Rattle.esb_literal_laws.specs.Forks.{fork, reads_before}
use Rattle.esb_literal_laws.specs.ElementLists.{ends_elements}
use Rattle.esb_literal_laws.specs.Bindings as read
use Rattle.esb_literal_laws.specs.Bindings.{make_assignment}
use Rattle.esb_literal_laws.specs.Laws.{ReadsWithin, targets, element_lists, EndsBindings, BindingsRule}
use Rattle.esb_literal_laws.proofs.Forks.{fork_rule, lower_rule}
use Rattle.esb_literal_laws.proofs.Seen.{sees_kind}
use Rattle.esb_literal_laws.proofs.Sequences.{free_rule, lead_rule, sees_before}
use Rattle.esb_literal_laws.proofs.AnyLists.{elements_in, list_rule}
use Rattle.esb_literal_laws.proofs.TargetParts.{binding_agrees, assign_is, full_fits, value_no_hole, lists_placed, below_rule}

module _ (text : Text) (values : Context → ℕ → Reader (Node Expression)) (c : Context) (n : ℕ) (stops : Expression → Token → Bool) (ends : Element → Token → Bool) (r : ReadsWithin text n values)
    (rule : Rule text (expressions (IsAssignment text c)) n n stops (values c n)) (b : EndsBindings stops ends) where
  abbrev Values : Syntax Expression
  Values = expressions (IsAssignment text c)

  abbrev below : Reader (Node Expression)
  below = read.target_below text values c n

  target_rule : Rule text (targets text c) n n (λ _ _. true) below
  target_rule = below_rule text values c n r

  abbrev ended : Expression → Token → Bool
  ended x t = ends (el.Value x) t

  abbrev Parts : Syntax (Expression × (Token × Expression))
  Parts = pairs (targets text c) (pairs (tokens k.Assign) Values)

  abbrev IsValued : Expression → Type 0
  IsValued = Made Parts make_assignment

  abbrev bounds : Token → Bool
  bounds t = is_binding t.kind

  abbrev IsBare : Expression → Type 0
  IsBare = Made (tokens_in bounds) e.Primary

  abbrev signs : Token → Bool
  signs t = is_assign t.kind

  one_above : (a d : ℕ) → max a d + 1 ≡ max a (max 0 d) + 1
  one_above a d = omega arith

  valued_rule : Rule text (expressions IsValued) n (suc n) ended (read.with_value text values c n)
  unfolding read.with_value
  valued_rule =
      above_rule text Parts (tokens_of_expression written) depth_of_expression n n (λ p. stops p.1.1) ended make_assignment (both below (both (token text k.Assign) (values c n)))
      (free_rule text (targets text c) (pairs (tokens k.Assign) Values) n (λ q. stops q.1) below (both (token text k.Assign) (values c n)) target_rule (lead_rule text Values n k.Assign stops (values c n) refl rule))
      (omega arith) (λ p. tokens_Assignment written p.0 p.1.0 p.1.1) (λ p. levels_Assignment p.0 p.1.0 p.1.1 ∙ one_above (depth_of_expression p.0) (depth_of_expression p.1.1)) (λ p t h. b.valued p.0 p.1.0 p.1.1 t h)

  bare_rule : Rule text (expressions IsBare) n n ended (read.bound_name text)
  unfolding read.bound_name
  bare_rule =
      plain_rule text (tokens_in bounds) (tokens_of_expression written) depth_of_expression n n (λ _ _. true) ended e.Primary (token_in text goal.Div bounds) (token_in_rule text n n goal.Div bounds (λ t h. binding_agrees t.kind h))
      (λ t. tokens_Primary written t) levels_Primary (λ x t h. refl)

  sign_seen : (i : ℕ) (x : Node Expression) (j : ℕ) → Stands text (expressions IsValued) n x i j → reads_before text signs below i ≡ true
  sign_seen i x j s =
      let made = s.good in
      let y = made.0.0 in
      let t = made.0.1.0 in
      let v = made.0.1.1 in
      let spelled = subst (λ ts. SpelledBetween text i ts j) (ap (tokens_of_expression written) made.1 ∙ tokens_Assignment written y t v) s.spelled in
      let cut = spelled_split text i (tokens_of_expression written y) (t ∷ tokens_of_expression written v) j spelled in
      let deep : x.levels ≡ max (depth_of_expression y) (depth_of_expression v) + 1 = sym s.levels ∙ ap depth_of_expression made.1 ∙ levels_Assignment y t v in
      let fits = s.fits in
      let stands : Stands text (targets text c) n (node y (depth_of_expression y)) i cut.0 = record { good = made.2.0; levels = refl; fits = omega (arith, deep, fits); spelled = cut.1 } in
      sees_before text signs below i (node y (depth_of_expression y)) cut.0 (target_rule.complete i (node y (depth_of_expression y)) cut.0 stands (omega (arith, deep, fits)) refl)
      ∙ ap signs (sees_kind text cut.0 t _ j k.Assign cut.2 made.2.1.0 refl) ∙ assign_is t.kind made.2.1.0

  no_sign : (i : ℕ) (x : Node Expression) (j : ℕ) → Stands text (expressions IsBare) n x i j → x.levels < n → ended x.tree (behind text j) ≡ true → reads_before text signs below i ≡ false
  no_sign i x j s low stop =
      let made = s.good in
      let stands : Stands text (targets text c) n x i j = record { good = subst (IsTarget text c) (sym made.1) (binding_identifier made.2); levels = s.levels; fits = s.fits; spelled = s.spelled } in
      sees_before text signs below i x j (target_rule.complete i x j stands low refl) ∙ b.bare made.0 (behind text j) (subst (λ y. ended y (behind text j) ≡ true) made.1 stop)

  there : (x : Expression) → IsValued x ⊎ IsBare x → IsBinding text c x
  there x (inl h) = subst (IsBinding text c) (sym h.1) (with_value h.2.0 h.2.1.0 h.2.1.1)
  there x (inr h) = subst (IsBinding text c) (sym h.1) (without_value h.2)

  back : (x : Expression) → IsBinding text c x → IsValued x ⊎ IsBare x
  back x (without_value {t = t} h) = inr (t, refl, h)
  back x (with_value {target = y} {sign = t} {x = v} h1 h2 h3) = inl ((y, (t, v)), refl, (h1, (h2, h3)))

  abbrev choice_reader : Reader (Node Expression)
  choice_reader = fork (reads_before text signs below) (read.with_value text values c n) (read.bound_name text)

  one_rule : Rule text (expressions (IsBinding text c)) n n ended choice_reader
  one_rule =
      same_rule text (expressions (λ x. IsValued x ⊎ IsBare x)) (expressions (IsBinding text c)) n n ended ended choice_reader
      (fork_rule text (expressions (IsBinding text c)) IsValued IsBare n n ended (reads_before text signs below) (read.with_value text values c n) (read.bound_name text)
      (lower_rule text (expressions IsValued) n ended (read.with_value text values c n) valued_rule) bare_rule
      (λ i x j s low stop. sign_seen i x j s) (λ i x j s low stop. no_sign i x j s low stop))
      refl refl there back (λ x t good h. h)

  abbrev IsSlot : Element → Type 0
  IsSlot = Made (expressions (IsBinding text c)) el.Value

  slot_rule : Rule text (elements_in IsSlot) n n ends (read.binding text values c n)
  unfolding read.binding
  slot_rule = plain_rule text (expressions (IsBinding text c)) (tokens_of_element written) depth_of_element n n ended ends el.Value choice_reader one_rule (λ x. tokens_Value written x) levels_Value (λ x t h. h)

  slot_there : (last : Bool) (x : Element) → IsSlot x → fits_place f.Bindings last x ≡ true → IsElement text f.Bindings last c x
  slot_there last x h fits = subst (IsElement text f.Bindings last c) (sym h.1) (binding h.2)

  slot_back : (last : Bool) (x : Element) → IsElement text f.Bindings last c x → IsSlot x × (fits_place f.Bindings last x ≡ true)
  slot_back last x (hole h) = cc
  slot_back last x (IsElement.value h good) = cc
  slot_back last x (IsElement.spread h dots good) = cc
  slot_back last x (binding_element h good) = cc
  slot_back last x (rest_element h dots good) = cc
  slot_back last x (binding {x = y} h) = ((y, refl, h), full_fits f.Bindings last (el.Value y) (value_no_hole y))

  bindings_read : Rule text (element_lists text f.Bindings c) n n (ends_elements ends) (read.bindings text values c n)
  unfolding read.bindings
  bindings_read = list_rule text f.Bindings c n (read.binding text values c n) IsSlot (fits_place f.Bindings) (list_fits f.Bindings) ends (lists_placed f.Bindings) slot_rule b.comma slot_there slot_back

pub bindings_rule : BindingsRule
bindings_rule text values c n stops ends r rule b = bindings_read text values c n stops ends r rule b
