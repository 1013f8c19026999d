-- Object literals are read exactly.
use Rattle.std.proofs.Common.{◌≡◌, ◌⊎◌, inl, inr, ℕ, ◌<◌, max, Bool, true, false, not, ◌&&◌, ◌||◌, List, [], ◌∷◌, ◌++◌, refl, ap, sym, ◌∙◌, subst, arith}
use Rattle.esb_token.specs.declared.kind.Kind.{Kind}
use Rattle.esb_token.specs.declared.kind.Kind.TheVariants as k
use Rattle.esb_token.specs.declared.token.Token.{Token}
use Rattle.esb_token.specs.declared.goal.Goal.TheVariants as goal
use Rattle.esb_token.specs.Tokens.{SpelledBetween}
use Rattle.esb_tree.specs.declared.expressions.Expression.{Expression}
use Rattle.esb_tree.specs.declared.functions.Method.{Method}
use Rattle.esb_tree.specs.declared.patterns.Element.{Element, out-Element, out-roll-Element}
use Rattle.esb_tree.specs.declared.patterns.Element.TheVariants as el
use Rattle.esb_tree.specs.declared.patterns.PropertyName.{PropertyName}
use Rattle.esb_tree.specs.declared.classes.ClassElement.TheOpen.{Element-F}
use Rattle.esb_tree.specs.declared.statements.Statement.{Statement}
use Rattle.esb_tree.specs.Levels.{depth_of_expression, depth_of_element, depth_of_property_name, depth_of_method}
use Rattle.esb_tree.specs.Trees.{written}
use Rattle.esb_tree.specs.Yields.{tokens_of_expression, tokens_of_element, tokens_of_property_name, tokens_of_method}
use Rattle.esb_tree.proofs.TokenLines.{tokens_Hole, tokens_Spread, tokens_Shorthand, tokens_Initialized, tokens_Property, tokens_MethodProperty}
use Rattle.esb_tree.proofs.LevelLines.{levels_Hole, levels_Spread, levels_Shorthand, levels_Initialized, levels_Property, levels_MethodProperty}
use Rattle.esb_grammar.specs.declared.context.Context.{Context}
use Rattle.esb_grammar.specs.declared.form.Form.TheVariants as f
use Rattle.esb_grammar.specs.Contexts.{inside}
use Rattle.esb_grammar.specs.Grammar.{IsAssignment, IsPropertyName, IsMethod, IsElement, hole, shorthand, cover_initialized_name, property, method_property, binding_element, rest_element}
use Rattle.esb_grammar.specs.Kinds.{is_comma, is_reference, is_assign, is_star, is_property_word, is_left_bracket}
use Rattle.esb_reader.specs.declared.node.Node.{Node}
use Rattle.esb_reader.specs.Kinds.{agrees}
use Rattle.esb_reader.specs.Places.{Text}
use Rattle.esb_reader.specs.Reader.{Reader, node}
use Rattle.esb_reader.specs.Parts.{behind, both, token, token_in, made, choice, empty}
use Rattle.esb_reader.specs.Stands.{Syntax, Stands, Rule, Made, tokens, tokens_in, pairs}
use Rattle.esb_reading_laws.proofs.Composed.{token_in_rule, plain_rule, choice_rule, empty_rule}
use Rattle.esb_reading_laws.proofs.Steps.{spelled_split}
use Rattle.esb_expression_laws.specs.Leaves.{expressions}
use Rattle.esb_expression_laws.specs.Lists.{is_closer, ends_element, begins_element, is_dots, make_spread, hole_layer, is_hole, fits_place, list_fits}
use Rattle.esb_expression_laws.specs.Laws.{lists}
use Rattle.esb_literal_laws.specs.Forks.{fork, second, reads_before}
use Rattle.esb_literal_laws.specs.Names.{property_name}
use Rattle.esb_literal_laws.specs.Bindings.{make_initialized, make_property, stands_alone, before_sign}
use Rattle.esb_literal_laws.specs.Methods.{begins_name, at_word, worded_method, generator_method, plain_method}
use Rattle.esb_literal_laws.specs.Objects as read
use Rattle.esb_literal_laws.specs.Objects.{is_colon, at_shorthand}
use Rattle.esb_literal_laws.specs.Laws.{ReadsWithin, ReadsBodies, names, ObjectRule}
use Rattle.esb_literal_laws.proofs.Forks.{fork_rule}
use Rattle.esb_literal_laws.proofs.Seen.{and_of, and_false, or_right, max_zero, sees, sees_kind}
use Rattle.esb_literal_laws.proofs.Sequences.{free_rule, lead_rule, lead_in_rule, sees_before}
use Rattle.esb_literal_laws.proofs.AnyLists.{elements_in, bracketed_rule}
use Rattle.esb_literal_laws.proofs.NameParts.{Named_before, name_seen, name_rule}
use Rattle.esb_literal_laws.proofs.TargetParts.{ends_no_sign, assign_is, spread_no_hole, shorthand_no_hole, initialized_no_hole, property_no_hole, full_fits, hole_fits, lists_placed, comma_ends_element, closer_ends_element}
use Rattle.esb_literal_laws.proofs.MethodParts as m

-- ---- kinds

reference_agrees : (c : Context) (kind : Kind) → is_reference c kind ≡ true → agrees goal.Div kind ≡ true
reference_agrees c k.End h = cc
reference_agrees c k.RegExp h = cc
reference_agrees c k.TemplateMiddle h = cc
reference_agrees c k.TemplateTail h = cc
reference_agrees c _ h = refl

reference_begins : (c : Context) (kind : Kind) → is_reference c kind ≡ true → not (is_comma kind || is_closer kind) ≡ true
reference_begins c k.Comma h = cc
reference_begins c k.RightParenthesis h = cc
reference_begins c k.RightBracket h = cc
reference_begins c k.RightBrace h = cc
reference_begins c _ h = refl

reference_no_dots : (c : Context) (kind : Kind) → is_reference c kind ≡ true → is_dots kind ≡ false
reference_no_dots c k.Ellipsis h = cc
reference_no_dots c _ h = refl

-- what begins a name is neither an end nor `=`
name_not_alone : (kind : Kind) → (is_property_word kind || (is_left_bracket kind || is_star kind)) ≡ true → ((is_comma kind || is_closer kind) || is_assign kind) ≡ false
name_not_alone k.Comma h = cc
name_not_alone k.RightParenthesis h = cc
name_not_alone k.RightBracket h = cc
name_not_alone k.RightBrace h = cc
name_not_alone k.Assign h = cc
name_not_alone _ h = refl

word_begins : (kind : Kind) → is_property_word kind ≡ true → not (is_comma kind || is_closer kind) ≡ true
word_begins k.Comma h = cc
word_begins k.RightParenthesis h = cc
word_begins k.RightBracket h = cc
word_begins k.RightBrace h = cc
word_begins _ h = refl

word_no_dots : (kind : Kind) → is_property_word kind ≡ true → is_dots kind ≡ false
word_no_dots k.Ellipsis h = cc
word_no_dots _ h = refl

-- what stands alone begins no name
alone_no_name : (kind : Kind) → ((is_comma kind || is_closer kind) || is_assign kind) ≡ true → (is_property_word kind || (is_left_bracket kind || is_star kind)) ≡ false
alone_no_name k.Comma h = refl
alone_no_name k.RightParenthesis h = refl
alone_no_name k.RightBracket h = refl
alone_no_name k.RightBrace h = refl
alone_no_name k.Assign h = refl
alone_no_name _ h = cc

method_no_hole : (method : Method) → is_hole (el.MethodProperty method) ≡ false
unfolding is_hole
method_no_hole method = ap hole_layer (ap out-Element (sym (el.rolls-MethodProperty method)) ∙ out-roll-Element (Element-F.MethodProperty method))

module _ (text : Text) (values : Context → ℕ → Reader (Node Expression)) (items : Context → ℕ → Reader (Node (List Statement))) (c : Context) (n : ℕ) (r : ReadsWithin text n values) (b : ReadsBodies text n items) where
  abbrev Values : Syntax Expression
  Values = expressions (IsAssignment text (inside c))

  value_rule : Rule text Values n n (λ _. ends_element) (values (inside c) n)
  value_rule = r.rule (inside c) n (omega arith)

  abbrev references : Token → Bool
  references t = is_reference c t.kind

  references_agree : (t : Token) → references t ≡ true → agrees goal.Div t.kind ≡ true
  references_agree t h = reference_agrees c t.kind h

  -- ---- the sorts

  abbrev Spread_parts : Syntax (Token × Expression)
  Spread_parts = pairs (tokens k.Ellipsis) Values

  abbrev IsSpread : Element → Type 0
  IsSpread = Made Spread_parts make_spread

  abbrev IsShort : Element → Type 0
  IsShort = Made (tokens_in references) el.Shorthand

  abbrev Initialized_parts : Syntax (Token × (Token × Expression))
  Initialized_parts = pairs (tokens_in references) (pairs (tokens k.Assign) Values)

  abbrev IsInitialized : Element → Type 0
  IsInitialized = Made Initialized_parts make_initialized

  abbrev Property_parts : Syntax (PropertyName × (Token × Expression))
  Property_parts = pairs (names text c) (pairs (tokens k.Colon) Values)

  abbrev IsProperty : Element → Type 0
  IsProperty = Made Property_parts make_property

  abbrev Methods_of : (Method → Type 0) → Syntax Method
  Methods_of Good = record { yields = tokens_of_method written; levels_of = depth_of_method; Good = Good }

  abbrev Worded : Method → Type 0
  Worded = m.IsWorded text values items c n r b

  abbrev Generators : Method → Type 0
  Generators = m.IsGenerator text values items c n r b

  abbrev Plain : Method → Type 0
  Plain = m.IsPlain text values items c n r b

  abbrev IsMethodOf : (Method → Type 0) → Element → Type 0
  IsMethodOf Good = Made (Methods_of Good) el.MethodProperty

  -- ---- their readers

  spread_rule : Rule text (elements_in IsSpread) n n (λ _. ends_element) (read.spread_properties text values items c n)
  unfolding read.spread_properties
  spread_rule =
      plain_rule text Spread_parts (tokens_of_element written) depth_of_element n n (λ _. ends_element) (λ _. ends_element) make_spread (both (token text k.Ellipsis) (values (inside c) n))
      (lead_rule text Values n k.Ellipsis (λ _. ends_element) (values (inside c) n) refl value_rule)
      (λ p. tokens_Spread written p.0 p.1) (λ p. levels_Spread p.0 p.1 ∙ max_zero (depth_of_expression p.1)) (λ p t h. h)

  short_rule : Rule text (elements_in IsShort) n n (λ _. ends_element) (read.shorthand text c)
  unfolding read.shorthand
  short_rule =
      plain_rule text (tokens_in references) (tokens_of_element written) depth_of_element n n (λ _ _. true) (λ _. ends_element) el.Shorthand (token_in text goal.Div references) (token_in_rule text n n goal.Div references references_agree)
      (λ t. tokens_Shorthand written t) levels_Shorthand (λ p t h. refl)

  two_zeros : (l : ℕ) → l ≡ max 0 (max 0 l)
  two_zeros l = omega arith

  initialized_rule : Rule text (elements_in IsInitialized) n n (λ _. ends_element) (read.cover_initialized_name text values items c n)
  unfolding read.cover_initialized_name
  initialized_rule =
      plain_rule text Initialized_parts (tokens_of_element written) depth_of_element n n (λ _. ends_element) (λ _. ends_element) make_initialized (both (token_in text goal.Div references) (both (token text k.Assign) (values (inside c) n)))
      (lead_in_rule text (pairs (tokens k.Assign) Values) n references (λ _. ends_element) (both (token text k.Assign) (values (inside c) n)) references_agree
      (lead_rule text Values n k.Assign (λ _. ends_element) (values (inside c) n) refl value_rule))
      (λ p. tokens_Initialized written p.0 p.1.0 p.1.1) (λ p. levels_Initialized p.0 p.1.0 p.1.1 ∙ two_zeros (depth_of_expression p.1.1)) (λ p t h. h)

  right_zero : (a d : ℕ) → max a d ≡ max a (max 0 d)
  right_zero a d = omega arith

  property_rule : Rule text (elements_in IsProperty) n n (λ _. ends_element) (read.property text values items c n)
  unfolding read.property
  property_rule =
      plain_rule text Property_parts (tokens_of_element written) depth_of_element n n (λ _. ends_element) (λ _. ends_element) make_property (both (property_name text values c n) (both (token text k.Colon) (values (inside c) n)))
      (free_rule text (names text c) (pairs (tokens k.Colon) Values) n (λ _. ends_element) (property_name text values c n) (both (token text k.Colon) (values (inside c) n)) (name_rule text values c n value_rule)
      (lead_rule text Values n k.Colon (λ _. ends_element) (values (inside c) n) refl value_rule))
      (λ p. tokens_Property written p.0 p.1.0 p.1.1) (λ p. levels_Property p.0 p.1.0 p.1.1 ∙ right_zero (depth_of_property_name p.0) (depth_of_expression p.1.1)) (λ p t h. h)

  method_of_rule : (Good : Method → Type 0) (p : Reader (Node Method)) → Rule text (Methods_of Good) n n (λ _ _. true) p → Rule text (elements_in (IsMethodOf Good)) n n (λ _. ends_element) (made el.MethodProperty 0 p)
  method_of_rule Good p rule = plain_rule text (Methods_of Good) (tokens_of_element written) depth_of_element n n (λ _ _. true) (λ _. ends_element) el.MethodProperty p rule (λ x. tokens_MethodProperty written x) levels_MethodProperty (λ x t h. refl)

  -- ---- what each shows

  spread_seen : (x : Element) (i j : ℕ) → IsSpread x → SpelledBetween text i (tokens_of_element written x) j → (behind text i).kind ≡ k.Ellipsis
  spread_seen x i j good h =
      let spelled = subst (λ ts. SpelledBetween text i ts j) (ap (tokens_of_element written) good.1 ∙ tokens_Spread written good.0.0 good.0.1) h in
      ap (λ (u : Token). u.kind) (sees_kind text i good.0.0 _ j k.Ellipsis spelled good.2.0 refl) ∙ good.2.0

  -- a name alone or with `=`
  pub record Alone (i : ℕ) (sign : Bool) : Type 0 where
    pub name : is_reference c (behind text i).kind ≡ true
    pub alone : stands_alone (second text i) ≡ true
    pub signed : before_sign text i ≡ sign

  short_seen : (x : Element) (i j : ℕ) → IsShort x → SpelledBetween text i (tokens_of_element written x) j → ends_element (behind text j) ≡ true → Alone i false
  short_seen x i j good h stop =
      let t = good.0 in
      let spelled = subst (λ ts. SpelledBetween text i ts j) (ap (tokens_of_element written) good.1 ∙ tokens_Shorthand written t) h in
      let here = sees text i t [] j spelled (references_agree t good.2) in
      let next : second text i ≡ behind text j = ap (λ (u : Token). behind text u.end) here ∙ ap (behind text) spelled.2 in
      record { name = ap references here ∙ good.2; alone = ap stands_alone next ∙ ap (λ a. a || is_assign (behind text j).kind) stop; signed = ap (λ (u : Token). is_assign u.kind) next ∙ ends_no_sign (behind text j).kind stop }

  initialized_seen : (x : Element) (i j : ℕ) → IsInitialized x → SpelledBetween text i (tokens_of_element written x) j → Alone i true
  initialized_seen x i j good h =
      let t = good.0.0 in
      let sign = good.0.1.0 in
      let spelled = subst (λ ts. SpelledBetween text i ts j) (ap (tokens_of_element written) good.1 ∙ tokens_Initialized written t sign good.0.1.1) h in
      let here = sees text i t (sign ∷ tokens_of_expression written good.0.1.1) j spelled (references_agree t good.2.0) in
      let next : second text i ≡ sign = ap (λ (u : Token). behind text u.end) here ∙ sees_kind text t.end sign _ j k.Assign spelled.2 good.2.1.0 refl in
      let is = ap (λ (u : Token). is_assign u.kind) next ∙ assign_is sign.kind good.2.1.0 in
      record { name = ap references here ∙ good.2.0; alone = or_right (ends_element (second text i)) _ is; signed = is }

  spelled_method : (Good : Method → Type 0) (x : Element) (i j : ℕ) (good : IsMethodOf Good x) → SpelledBetween text i (tokens_of_element written x) j → SpelledBetween text i (tokens_of_method written good.0) j
  spelled_method Good x i j good h = subst (λ ts. SpelledBetween text i ts j) (ap (tokens_of_element written) good.1 ∙ tokens_MethodProperty written good.0) h

  property_before : (x : Element) (i j : ℕ) (good : IsProperty x) → SpelledBetween text i (tokens_of_element written x) j → Named_before text good.0.1.0 i
  property_before x i j good h =
      let sign = good.0.1.0 in
      let spelled = subst (λ ts. SpelledBetween text i ts j) (ap (tokens_of_element written) good.1 ∙ tokens_Property written good.0.0 sign good.0.1.1) h in
      name_seen text c good.0.0 sign _ i j good.2.0 (ap (agrees goal.Div) good.2.1.0) spelled

  -- what a property or a method of a name alone shows
  pub record Named (i : ℕ) : Type 0 where
    pub begins : begins_element (behind text i) ≡ true
    pub no_dots : is_dots (behind text i).kind ≡ false
    pub no_short : at_shorthand text c i ≡ false
    pub no_word : at_word text i ≡ false
    pub no_star : is_star (behind text i).kind ≡ false

  named : (u : Token) (i : ℕ) → stands_alone u ≡ false → begins_name u ≡ false → Named_before text u i → Named i
  unfolding at_shorthand
  named u i other none (inl h) =
      let w = m.no_word_before text values items c n r b u i none (inl h) in
      record { begins = word_begins (behind text i).kind h.0; no_dots = word_no_dots (behind text i).kind h.0; no_short = and_false (is_reference c (behind text i).kind) _ (ap stands_alone h.1 ∙ other); no_word = w.0; no_star = w.1 }
  named u i other none (inr h) =
      let w = m.no_word_before text values items c n r b u i none (inr h) in
      record { begins = ap (λ kind. not (is_comma kind || is_closer kind)) h; no_dots = ap is_dots h; no_short = ap (λ kind. is_reference c kind && stands_alone (second text i)) h; no_word = w.0; no_star = w.1 }

  named_by : (u : Token) (i : ℕ) (kind : Kind) → u.kind ≡ kind → ((is_comma kind || is_closer kind) || is_assign kind) ≡ false → (is_property_word kind || (is_left_bracket kind || is_star kind)) ≡ false → Named_before text u i → Named i
  named_by u i kind e other none before =
      named u i (ap (λ x. (is_comma x || is_closer x) || is_assign x) e ∙ other) (ap (λ x. is_property_word x || (is_left_bracket x || is_star x)) e ∙ none) before

  property_seen : (x : Element) (i j : ℕ) → IsProperty x → SpelledBetween text i (tokens_of_element written x) j → Named i
  property_seen x i j good h = named_by good.0.1.0 i k.Colon good.2.1.0 refl refl (property_before x i j good h)

  plain_seen : (x : Element) (i j : ℕ) → IsMethodOf Plain x → SpelledBetween text i (tokens_of_element written x) j → Named i
  plain_seen x i j good h =
      let p = m.plain_before text values items c n r b good.0 i j good.2 (spelled_method Plain x i j good h) in
      named_by p.0 i k.LeftParenthesis p.1 refl refl p.2

  named_seen : (x : Element) (i j : ℕ) → IsProperty x ⊎ IsMethodOf Plain x → SpelledBetween text i (tokens_of_element written x) j → Named i
  named_seen x i j (inl good) h = property_seen x i j good h
  named_seen x i j (inr good) h = plain_seen x i j good h

  generator_seen : (x : Element) (i j : ℕ) → IsMethodOf Generators x → SpelledBetween text i (tokens_of_element written x) j → (behind text i).kind ≡ k.Star
  generator_seen x i j good h = m.generator_seen text values items c n r b good.0 i j good.2 (spelled_method Generators x i j good h)

  -- what stands behind the dots, behind names alone, and behind methods with words
  abbrev IsStarred : Element → Type 0
  IsStarred x = IsMethodOf Generators x ⊎ (IsProperty x ⊎ IsMethodOf Plain x)

  abbrev IsUnnamed : Element → Type 0
  IsUnnamed x = IsMethodOf Worded x ⊎ IsStarred x

  abbrev IsUndotted : Element → Type 0
  IsUndotted x = (IsInitialized x ⊎ IsShort x) ⊎ IsUnnamed x

  abbrev IsDefinition : Element → Type 0
  IsDefinition x = IsSpread x ⊎ IsUndotted x

  abbrev IsSlot : Element → Type 0
  IsSlot x = IsDefinition x ⊎ (x ≡ el.Hole)

  no_short_by : (i : ℕ) (kind : Kind) → (behind text i).kind ≡ kind → is_reference c kind ≡ false → at_shorthand text c i ≡ false
  unfolding at_shorthand
  no_short_by i kind e h = ap (λ a. a && stands_alone (second text i)) (ap (is_reference c) e ∙ h)

  starred_seen : (x : Element) (i j : ℕ) → IsStarred x → SpelledBetween text i (tokens_of_element written x) j → (begins_element (behind text i) ≡ true) × (is_dots (behind text i).kind ≡ false) × (at_shorthand text c i ≡ false) × (at_word text i ≡ false)
  starred_seen x i j (inl good) h =
      let e = generator_seen x i j good h in
      (ap (λ kind. not (is_comma kind || is_closer kind)) e, ap is_dots e, no_short_by i k.Star e refl, m.other_seen text values items c n r b good.0 i j (inl good.2) (spelled_method Generators x i j good h))
  starred_seen x i j (inr good) h = let s = named_seen x i j good h in (s.begins, s.no_dots, s.no_short, s.no_word)

  worded_seen : (x : Element) (i j : ℕ) → IsMethodOf Worded x → SpelledBetween text i (tokens_of_element written x) j → ((behind text i).kind ≡ k.Name) × (at_word text i ≡ true) × (at_shorthand text c i ≡ false)
  unfolding at_shorthand
  worded_seen x i j good h =
      let s = m.worded_seen text values items c n r b good.0 i j good.2 (spelled_method Worded x i j good h) in
      (s.0, s.1, and_false (is_reference c (behind text i).kind) _ (name_not_alone (second text i).kind s.2))

  unnamed_seen : (x : Element) (i j : ℕ) → IsUnnamed x → SpelledBetween text i (tokens_of_element written x) j → (begins_element (behind text i) ≡ true) × (is_dots (behind text i).kind ≡ false) × (at_shorthand text c i ≡ false)
  unnamed_seen x i j (inl good) h = let s = worded_seen x i j good h in (ap (λ kind. not (is_comma kind || is_closer kind)) s.0, ap is_dots s.0, s.2)
  unnamed_seen x i j (inr good) h = let s = starred_seen x i j good h in (s.0, s.1, s.2)

  alone_seen : (i : ℕ) (sign : Bool) → Alone i sign → (begins_element (behind text i) ≡ true) × (is_dots (behind text i).kind ≡ false) × (at_shorthand text c i ≡ true)
  unfolding at_shorthand
  alone_seen i sign s = (reference_begins c (behind text i).kind s.name, reference_no_dots c (behind text i).kind s.name, and_of _ _ s.name s.alone)

  short_shown : (x : Element) (i j : ℕ) → IsInitialized x ⊎ IsShort x → SpelledBetween text i (tokens_of_element written x) j → ends_element (behind text j) ≡ true → (begins_element (behind text i) ≡ true) × (is_dots (behind text i).kind ≡ false) × (at_shorthand text c i ≡ true)
  short_shown x i j (inl good) h stop = alone_seen i true (initialized_seen x i j good h)
  short_shown x i j (inr good) h stop = alone_seen i false (short_seen x i j good h stop)

  undotted_seen : (x : Element) (i j : ℕ) → IsUndotted x → SpelledBetween text i (tokens_of_element written x) j → ends_element (behind text j) ≡ true → (begins_element (behind text i) ≡ true) × (is_dots (behind text i).kind ≡ false)
  undotted_seen x i j (inl good) h stop = let s = short_shown x i j good h stop in (s.0, s.1)
  undotted_seen x i j (inr good) h stop = let s = unnamed_seen x i j good h in (s.0, s.1)

  definition_seen : (x : Element) (i j : ℕ) → IsDefinition x → SpelledBetween text i (tokens_of_element written x) j → ends_element (behind text j) ≡ true → begins_element (behind text i) ≡ true
  definition_seen x i j (inl good) h stop = ap (λ kind. not (is_comma kind || is_closer kind)) (spread_seen x i j good h)
  definition_seen x i j (inr good) h stop = (undotted_seen x i j good h stop).0

  nothing_seen : (x : Element) (i j : ℕ) → x ≡ el.Hole → SpelledBetween text i (tokens_of_element written x) j → ends_element (behind text j) ≡ true → begins_element (behind text i) ≡ false
  nothing_seen x i j e h stop =
      let here : i ≡ j = subst (λ ts. SpelledBetween text i ts j) (ap (tokens_of_element written) e ∙ tokens_Hole written) h in
      ap (λ k. begins_element (behind text k)) here ∙ ap not stop

  -- ---- a property or a method behind a name

  abbrev colons : Token → Bool
  colons t = is_colon t.kind

  abbrev of_name : Reader (Node PropertyName)
  of_name = property_name text values c n

  -- the name is read, and the token behind it seen
  name_before : (test : Token → Bool) (i : ℕ) (name : PropertyName) (u : Token) (us : List Token) (j : ℕ) → IsPropertyName text c name → depth_of_property_name name < n → agrees goal.Div u.kind ≡ true → SpelledBetween text i (tokens_of_property_name written name ++ u ∷ us) j
      → reads_before text test of_name i ≡ test u
  name_before test i name u us j good low same h =
      let cut = spelled_split text i (tokens_of_property_name written name) (u ∷ us) j h in
      let one = node name (depth_of_property_name name) in
      let stands : Stands text (names text c) n one i cut.0 = record { good = good; levels = refl; fits = omega (arith, low); spelled = cut.1 } in
      sees_before text test of_name i one cut.0 ((name_rule text values c n value_rule).complete i one cut.0 stands low refl) ∙ ap test (sees text cut.0 u us j cut.2 same)

  left_less : (a d l : ℕ) → l ≡ max a d → l < n → a < n
  left_less a d l e low = omega (arith, e, low)

  colon_seen : (i : ℕ) (x : Node Element) (j : ℕ) → Stands text (elements_in IsProperty) n x i j → x.levels < n → reads_before text colons of_name i ≡ true
  colon_seen i x j s low =
      let good = s.good in
      let sign = good.0.1.0 in
      let v = good.0.1.1 in
      let spelled = subst (λ ts. SpelledBetween text i ts j) (ap (tokens_of_element written) good.1 ∙ tokens_Property written good.0.0 sign v) s.spelled in
      let deep = sym s.levels ∙ ap depth_of_element good.1 ∙ levels_Property good.0.0 sign v in
      name_before colons i good.0.0 sign _ j good.2.0 (left_less (depth_of_property_name good.0.0) (depth_of_expression v) x.levels deep low) (ap (agrees goal.Div) good.2.1.0) spelled ∙ ap is_colon good.2.1.0

  named_rule : Rule text (elements_in (λ x. IsProperty x ⊎ IsMethodOf Plain x)) n n (λ _. ends_element) (read.named_property text values items c n)
  unfolding read.named_property
  named_rule =
      fork_rule text (elements_in IsDefinition) IsProperty (IsMethodOf Plain) n n (λ _. ends_element) (reads_before text colons of_name) (read.property text values items c n) (made el.MethodProperty 0 (plain_method text values items c n))
      property_rule (method_of_rule Plain (plain_method text values items c n) (m.plain_method_rule text values items c n r b))
      (λ i x j s low stop. colon_seen i x j s low) (λ i x j s low stop. no_colon i x j s low)
    where
      no_colon : (i : ℕ) (x : Node Element) (j : ℕ) → Stands text (elements_in (IsMethodOf Plain)) n x i j → x.levels < n → reads_before text colons of_name i ≡ false
      no_colon i x j s low =
          let good = s.good in
          let deep = sym s.levels ∙ ap depth_of_element good.1 ∙ levels_MethodProperty good.0 in
          m.plain_name_before text values items c n r b colons good.0 x.levels i j good.2 deep low (spelled_method Plain x.tree i j good s.spelled) (λ u e. ap is_colon e)

  -- ---- from the innermost choice

  abbrev alone_reader : Reader (Node Element)
  alone_reader = fork (before_sign text) (read.cover_initialized_name text values items c n) (read.shorthand text c)

  abbrev starred_reader : Reader (Node Element)
  starred_reader = choice text (λ t. is_star t.kind) (made el.MethodProperty 0 (generator_method text values items c n)) (read.named_property text values items c n)

  abbrev unnamed_reader : Reader (Node Element)
  unnamed_reader = fork (at_word text) (made el.MethodProperty 0 (worded_method text values items c n)) starred_reader

  abbrev undotted_reader : Reader (Node Element)
  undotted_reader = fork (at_shorthand text c) alone_reader unnamed_reader

  alone_rule : Rule text (elements_in (λ x. IsInitialized x ⊎ IsShort x)) n n (λ _. ends_element) alone_reader
  alone_rule =
      fork_rule text (elements_in IsDefinition) IsInitialized IsShort n n (λ _. ends_element) (before_sign text) (read.cover_initialized_name text values items c n) (read.shorthand text c) initialized_rule short_rule
      (λ i x j s low stop. (initialized_seen x.tree i j s.good s.spelled).signed) (λ i x j s low stop. (short_seen x.tree i j s.good s.spelled stop).signed)

  starred_rule : Rule text (elements_in IsStarred) n n (λ _. ends_element) starred_reader
  starred_rule =
      choice_rule text (elements_in IsDefinition) (IsMethodOf Generators) (λ x. IsProperty x ⊎ IsMethodOf Plain x) n n (λ _. ends_element) (λ t. is_star t.kind) (made el.MethodProperty 0 (generator_method text values items c n)) (read.named_property text values items c n)
      (method_of_rule Generators (generator_method text values items c n) (m.generator_method_rule text values items c n r b)) named_rule
      (λ x i j good h. ap is_star (generator_seen x i j good h)) (λ x i j good h stop. (named_seen x i j good h).no_star)

  unnamed_rule : Rule text (elements_in IsUnnamed) n n (λ _. ends_element) unnamed_reader
  unnamed_rule =
      fork_rule text (elements_in IsDefinition) (IsMethodOf Worded) IsStarred n n (λ _. ends_element) (at_word text) (made el.MethodProperty 0 (worded_method text values items c n)) starred_reader
      (method_of_rule Worded (worded_method text values items c n) (m.worded_rule text values items c n r b)) starred_rule
      (λ i x j s low stop. (worded_seen x.tree i j s.good s.spelled).1) (λ i x j s low stop. (starred_seen x.tree i j s.good s.spelled).3)

  undotted_rule : Rule text (elements_in IsUndotted) n n (λ _. ends_element) undotted_reader
  undotted_rule =
      fork_rule text (elements_in IsDefinition) (λ x. IsInitialized x ⊎ IsShort x) IsUnnamed n n (λ _. ends_element) (at_shorthand text c) alone_reader unnamed_reader alone_rule unnamed_rule
      (λ i x j s low stop. (short_shown x.tree i j s.good s.spelled stop).2) (λ i x j s low stop. (unnamed_seen x.tree i j s.good s.spelled).2)

  definition_rule : Rule text (elements_in IsDefinition) n n (λ _. ends_element) (read.property_definition text values items c n)
  unfolding read.property_definition
  definition_rule =
      choice_rule text (elements_in IsDefinition) IsSpread IsUndotted n n (λ _. ends_element) (λ t. is_dots t.kind) (read.spread_properties text values items c n) undotted_reader spread_rule undotted_rule
      (λ x i j good h. ap is_dots (spread_seen x i j good h)) (λ x i j good h stop. (undotted_seen x i j good h stop).1)

  slot_rule : Rule text (elements_in IsSlot) n n (λ _. ends_element) (read.object_slot text values items c n)
  unfolding read.object_slot
  slot_rule =
      fork_rule text (elements_in IsSlot) IsDefinition (λ x. x ≡ el.Hole) n n (λ _. ends_element) (λ i. begins_element (behind text i)) (read.property_definition text values items c n) (empty el.Hole) definition_rule
      (empty_rule text (tokens_of_element written) depth_of_element n n (λ _. ends_element) el.Hole (tokens_Hole written) levels_Hole)
      (λ i x j s low stop. definition_seen x.tree i j s.good s.spelled stop) (λ i x j s low stop. nothing_seen x.tree i j s.good s.spelled stop)

  -- ---- the family

  any_of : (x : Method) → Worded x ⊎ (Generators x ⊎ Plain x) → IsMethod text c x
  any_of x h = m.method_there text values items c n r b x h

  slot_there : (last : Bool) (x : Element) → IsSlot x → fits_place f.Object last x ≡ true → IsElement text f.Object last c x
  slot_there last x (inl (inl h)) fits = subst (IsElement text f.Object last c) (sym h.1) (IsElement.spread refl h.2.0 h.2.1)
  slot_there last x (inl (inr (inl (inl h)))) fits = subst (IsElement text f.Object last c) (sym h.1) (cover_initialized_name h.2.0 h.2.1.0 h.2.1.1)
  slot_there last x (inl (inr (inl (inr h)))) fits = subst (IsElement text f.Object last c) (sym h.1) (shorthand h.2)
  slot_there last x (inl (inr (inr (inl h)))) fits = subst (IsElement text f.Object last c) (sym h.1) (method_property (any_of h.0 (inl h.2)))
  slot_there last x (inl (inr (inr (inr (inl h))))) fits = subst (IsElement text f.Object last c) (sym h.1) (method_property (any_of h.0 (inr (inl h.2))))
  slot_there last x (inl (inr (inr (inr (inr (inl h)))))) fits = subst (IsElement text f.Object last c) (sym h.1) (property h.2.0 h.2.1.0 h.2.1.1)
  slot_there last x (inl (inr (inr (inr (inr (inr h)))))) fits = subst (IsElement text f.Object last c) (sym h.1) (method_property (any_of h.0 (inr (inr h.2))))
  slot_there last x (inr h) fits = subst (IsElement text f.Object last c) (sym h) (hole (sym (hole_fits f.Object last) ∙ subst (λ y. fits_place f.Object last y ≡ true) h fits))

  method_sort : (x : Method) → Worded x ⊎ (Generators x ⊎ Plain x) → IsSlot (el.MethodProperty x)
  method_sort x (inl g) = inl (inr (inr (inl (x, refl, g))))
  method_sort x (inr (inl g)) = inl (inr (inr (inr (inl (x, refl, g)))))
  method_sort x (inr (inr g)) = inl (inr (inr (inr (inr (inr (x, refl, g))))))

  slot_back : (last : Bool) (x : Element) → IsElement text f.Object last c x → IsSlot x × (fits_place f.Object last x ≡ true)
  slot_back last x (hole h) = (inr refl, hole_fits f.Object last ∙ h)
  slot_back last x (IsElement.value h good) = cc
  slot_back last x (IsElement.spread {dots = t} {x = y} h dots good) = (inl (inl ((t, y), refl, (dots, good))), full_fits f.Object last (el.Spread t y) (spread_no_hole t y))
  slot_back last x (binding_element h good) = cc
  slot_back last x (rest_element h dots good) = cc
  slot_back last x (shorthand {name = t} h) = (inl (inr (inl (inr (t, refl, h)))), full_fits f.Object last (el.Shorthand t) (shorthand_no_hole t))
  slot_back last x (cover_initialized_name {name = t} {sign = u} {x = y} h1 h2 h3) = (inl (inr (inl (inl ((t, (u, y)), refl, (h1, (h2, h3)))))), full_fits f.Object last (el.Initialized t u y) (initialized_no_hole t u y))
  slot_back last x (property {name = q} {colon = u} {x = y} h1 h2 h3) = (inl (inr (inr (inr (inr (inl ((q, (u, y)), refl, (h1, (h2, h3)))))))), full_fits f.Object last (el.Property q u y) (property_no_hole q u y))
  slot_back last x (method_property {method = q} h) = (method_sort q (m.method_back text values items c n r b q h), full_fits f.Object last (el.MethodProperty q) (method_no_hole q))

  object_read : Rule text (lists text f.Object c) n n (λ _ _. true) (read.object text values items c n)
  unfolding read.object
  object_read =
      bracketed_rule text f.Object c n (read.object_slot text values items c n) IsSlot (fits_place f.Object) (list_fits f.Object) (λ _. ends_element) (lists_placed f.Object) slot_rule comma_ends_element slot_there slot_back closer_ends_element

pub object_rule : ObjectRule
object_rule text values items c n r b = object_read text values items c n r b
