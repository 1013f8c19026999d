-- The first part of a `for` is read exactly where what follows it goes on so.
use Rattle.std.proofs.Common.{◌≡◌, ◌⊎◌, inl, inr, ℕ, ◌+◌, ◌<◌, Bool, true, false, not, ◌&&◌, ◌||◌, List, [], ◌∷◌, ◌++◌, Some, refl, ap, sym, ◌∙◌, subst, arith}
use Rattle.std.specs.List.{flat_map}
use Rattle.esb_token.specs.declared.kind.Kind.{Kind}
use Rattle.esb_token.specs.declared.kind.Kind.TheVariants as k
use Rattle.esb_token.specs.declared.token.Token.{Token}
use Rattle.esb_token.specs.declared.goal.Goal.TheVariants as goal
use Rattle.esb_token.specs.Goals.{is_other_than_slash, is_other_than_brace, is_division}
use Rattle.esb_token.specs.Tokens.{SpelledBetween}
use Rattle.esb_tree.specs.declared.classes.ClassElement.TheOpen.{Expression-F, ForStart-F}
use Rattle.esb_tree.specs.declared.expressions.Expression.{Expression, out-Expression, out-roll-Expression}
use Rattle.esb_tree.specs.declared.expressions.Expression.TheVariants as e
use Rattle.esb_tree.specs.declared.patterns.Element.{out-Element}
use Rattle.esb_tree.specs.declared.patterns.Element.TheVariants as el
use Rattle.esb_tree.specs.declared.patterns.Elements.{Elements, out-roll-Elements}
use Rattle.esb_tree.specs.declared.patterns.NextElement.{NextElement}
use Rattle.esb_tree.specs.declared.statements.Declaration.{Declaration, out-Declaration, out-roll-Declaration}
use Rattle.esb_tree.specs.declared.statements.ForStart.{ForStart, out-ForStart, out-roll-ForStart}
use Rattle.esb_tree.specs.declared.statements.ForStart.TheVariants as fs
use Rattle.esb_tree.specs.Levels.{depth_of_expression, depth_of_elements, depth_of_declaration, depth_of_for_start}
use Rattle.esb_tree.specs.Trees.{written}
use Rattle.esb_tree.specs.Yields.{tokens_of_expression, tokens_of_elements, tokens_of_declaration, tokens_of_for_start}
use Rattle.esb_tree.proofs.TokenLines.{tokens_Primary, tokens_Declaration, tokens_NoStart, tokens_StartExpression, tokens_StartDeclaration}
use Rattle.esb_tree.proofs.LevelLines.{levels_Primary, levels_Declaration, levels_NoStart, levels_StartExpression, levels_StartDeclaration}
use Rattle.esb_grammar.specs.declared.context.Context.{Context}
use Rattle.esb_grammar.specs.Contexts.{without_in}
use Rattle.esb_grammar.specs.Edges.{value_layer}
use Rattle.esb_grammar.specs.Forms.{is_empty}
use Rattle.esb_grammar.specs.Grammar.{is_variable, IsTarget, IsLeftHandSide, IsExpression, assignment_expression, commas, assignment, yield_alone, yield_value, yield_each, arrow_function, async_arrow_function, async_arrow_of_name, conditional_expression, conditional, short_circuit, unary_expression, exponentiation, operators, update, unary, await, left_hand_side, postfix, prefix, access, origin, primary_expression, identifier_reference}
use Rattle.esb_grammar.specs.Kinds.{is_reference, is_semicolon, is_comma, is_let, is_left_bracket, is_binding, is_left_brace}
use Rattle.esb_grammar.specs.Words.{begins_let, begins_let_bracket}
use Rattle.esb_grammar.proofs.Shapes.{Layer, is_left_layer, left_shape}
use Rattle.esb_reader.specs.declared.node.Node.{Node}
use Rattle.esb_reader.specs.Kinds.{agrees}
use Rattle.esb_reader.specs.Places.{Text}
use Rattle.esb_reader.specs.Reader.{Reader, choose, node}
use Rattle.esb_reader.specs.Parts.{behind, both, token_in, made, empty}
use Rattle.esb_reader.specs.Stands.{Syntax, Stands, Rule, Made, pairs, tokens_in, which}
use Rattle.esb_reading_laws.proofs.Composed.{token_in_rule, both_rule, plain_rule}
use Rattle.esb_reading_laws.proofs.Steps.{then_some, some_is, then_goes, if_goes, if_not}
use Rattle.esb_statement_laws.specs.Marks.{is_in, is_of, is_arrow, begins_expression, ends_expression, begins_target}
use Rattle.esb_statement_laws.specs.Handed.{Handed, expressions, Begins}
use Rattle.esb_statement_laws.specs.Declarations.{IsLoose, make_bindings, make_declaration, loose_list}
use Rattle.esb_statement_laws.specs.Loops as read
use Rattle.esb_statement_laws.specs.Loops.{ReadsHeads, left_layer, is_left, list_bound, valueless_layer, valueless, one_target, classic_layer, is_classic, each_layer, is_each, of_layer, is_of_each, declares, declares_at}
use Rattle.esb_statement_laws.proofs.Followed.{sees}
use Rattle.esb_statement_laws.proofs.Shown.{Shown}
use Rattle.esb_statement_laws.proofs.Ended.{value_seen}
use Rattle.esb_statement_laws.proofs.Declared as declared
use Rattle.esb_statement_laws.proofs.ForRests.{of_name, no_end_shown}
use Rattle.esb_statement_laws.proofs.Told.{same_token, target_is, bracket_no_end}
use Rattle.esb_statement_laws.proofs.Small.{and_of, first_of, second_of, or_first, or_second, zero_max, let_kind, bracket_kind, target_agrees}

semicolon_is : (kind : Kind) → is_semicolon kind ≡ true → kind ≡ k.Semicolon
semicolon_is k.Semicolon h = refl
semicolon_is _ h = cc

in_is : (kind : Kind) → is_in kind ≡ true → kind ≡ k.In
in_is k.In h = refl
in_is _ h = cc

-- ---- what the first part is

out_start_expression : (x : Expression) → out-ForStart (fs.StartExpression x) ≡ ForStart-F.StartExpression x
out_start_expression x = ap out-ForStart (sym (fs.rolls-StartExpression x)) ∙ out-roll-ForStart (ForStart-F.StartExpression x)

out_start_declaration : (x : Declaration) → out-ForStart (fs.StartDeclaration x) ≡ ForStart-F.StartDeclaration x
out_start_declaration x = ap out-ForStart (sym (fs.rolls-StartDeclaration x)) ∙ out-roll-ForStart (ForStart-F.StartDeclaration x)

out_no_start : out-ForStart fs.NoStart ≡ ForStart-F.NoStart
out_no_start = ap out-ForStart (sym fs.rolls-NoStart) ∙ out-roll-ForStart (ForStart-F.NoStart)

pub classic_nothing : is_classic fs.NoStart ≡ true
unfolding is_classic
classic_nothing = ap classic_layer out_no_start

pub classic_expression : (x : Expression) → is_classic (fs.StartExpression x) ≡ true
unfolding is_classic
classic_expression x = ap classic_layer (out_start_expression x)

pub classic_declaration : (x : Declaration) → is_classic (fs.StartDeclaration x) ≡ list_bound (out-Declaration x).bindings
unfolding is_classic
classic_declaration x = ap classic_layer (out_start_declaration x)

pub each_nothing : is_each fs.NoStart ≡ false
unfolding is_each
each_nothing = ap each_layer out_no_start

pub each_expression : (x : Expression) → is_each (fs.StartExpression x) ≡ is_left x
unfolding is_each
each_expression x = ap each_layer (out_start_expression x)

pub each_declaration : (x : Declaration) → is_each (fs.StartDeclaration x) ≡ one_target (out-Declaration x).bindings
unfolding is_each
each_declaration x = ap each_layer (out_start_declaration x)

pub of_is_each : (x : ForStart) → is_of_each x ≡ true → is_each x ≡ true
unfolding is_of_each
of_is_each x h = first_of _ _ h

pub of_expression : (x : Expression) → is_of_each (fs.StartExpression x) ≡ (is_left x && not (begins_let (tokens_of_expression written x)))
unfolding is_of_each
of_expression x = ap (λ b. b && of_layer (out-ForStart (fs.StartExpression x))) (each_expression x) ∙ ap (λ l. is_left x && of_layer l) (out_start_expression x)

pub of_declaration : (x : Declaration) → is_each (fs.StartDeclaration x) ≡ true → is_of_each (fs.StartDeclaration x) ≡ true
unfolding is_of_each
of_declaration x h = and_of _ _ h (ap of_layer (out_start_declaration x))

left_of_layer : (x : Layer) → is_left_layer x ≡ true → left_layer x ≡ true
left_of_layer (Expression-F.PrefixUpdate operator x) h = let bad : false ≡ true = h in cc
left_of_layer (Expression-F.PostfixUpdate x operator) h = let bad : false ≡ true = h in cc
left_of_layer (Expression-F.Unary operator x) h = let bad : false ≡ true = h in cc
left_of_layer (Expression-F.Await word x) h = let bad : false ≡ true = h in cc
left_of_layer (Expression-F.Binary first rest) h = let bad : false ≡ true = h in cc
left_of_layer (Expression-F.Conditional test question x colon other) h = let bad : false ≡ true = h in cc
left_of_layer (Expression-F.Assignment target operator x) h = let bad : false ≡ true = h in cc
left_of_layer (Expression-F.Arrow parameters arrow body) h = let bad : false ≡ true = h in cc
left_of_layer (Expression-F.AsyncArrow word name arrow body) h = let bad : false ≡ true = h in cc
left_of_layer (Expression-F.Yield word) h = let bad : false ≡ true = h in cc
left_of_layer (Expression-F.YieldValue word x) h = let bad : false ≡ true = h in cc
left_of_layer (Expression-F.YieldEach word star x) h = let bad : false ≡ true = h in cc
left_of_layer _ h = refl

pub left_is : (text : Text) (c : Context) (x : Expression) → IsLeftHandSide text c x → is_left x ≡ true
unfolding is_left
left_is text c x h = left_of_layer (out-Expression x) (left_shape h)

pub left_of : (text : Text) (c : Context) (x : Expression) → IsExpression text c x → is_left x ≡ true → IsLeftHandSide text c x
unfolding is_left out-Expression denote.Hole.Carrier.out
left_of text c x (assignment_expression (conditional_expression (short_circuit (unary_expression (update (left_hand_side h)))))) is = h
left_of text c x (assignment_expression (conditional_expression (short_circuit (unary_expression (update (postfix h1 h2 h3)))))) is = cc
left_of text c x (assignment_expression (conditional_expression (short_circuit (unary_expression (update (prefix h1 h2)))))) is = cc
left_of text c x (assignment_expression (conditional_expression (short_circuit (unary_expression (unary h1 h2))))) is = cc
left_of text c x (assignment_expression (conditional_expression (short_circuit (unary_expression (await h1 h2 h3))))) is = cc
left_of text c x (assignment_expression (conditional_expression (short_circuit (exponentiation first second rest h1 h2 h3)))) is = cc
left_of text c x (assignment_expression (conditional_expression (short_circuit (operators own first second rest h1 h2 h3 h4)))) is = cc
left_of text c x (assignment_expression (conditional_expression (conditional h1 h2 h3 h4 h5))) is = cc
left_of text c x (assignment_expression (assignment h1 h2 h3)) is = cc
left_of text c x (assignment_expression (yield_alone h1 h2)) is = cc
left_of text c x (assignment_expression (yield_value h1 h2 h3 h4)) is = cc
left_of text c x (assignment_expression (yield_each h1 h2 h3 h4 h5)) is = cc
left_of text c x (assignment_expression (arrow_function h1 h2 h3 h4)) is = cc
left_of text c x (assignment_expression (async_arrow_function h1 h2 h3 h4)) is = cc
left_of text c x (assignment_expression (async_arrow_of_name h1 h2 h3 h4 h5 h6)) is = cc
left_of text c x (commas first second rest h1 h2) is = cc

pub expression_of_left : (text : Text) (c : Context) (x : Expression) → IsLeftHandSide text c x → IsExpression text c x
expression_of_left text c x h = assignment_expression (conditional_expression (short_circuit (unary_expression (update (left_hand_side h)))))

valued_has_value : (target : Expression) (sign : Token) (x : Expression) → valueless_layer (out-Expression (e.Assignment target sign x)) ≡ false
valued_has_value target sign x = ap valueless_layer (ap out-Expression (sym (e.rolls-Assignment target sign x)) ∙ out-roll-Expression (Expression-F.Assignment target sign x))

-- a binding without a value is what is bound
pub target_of : (text : Text) (c : Context) (x : Expression) → IsLoose text c x → valueless_layer (out-Expression x) ≡ true → IsTarget text c x
target_of text c x (inl h) is = h
target_of text c x (inr h) is = let bad : false ≡ true = sym (ap (λ y. valueless_layer (out-Expression y)) h.is ∙ valued_has_value h.target h.sign h.value) ∙ is in cc

-- ---- nodes made of one part

made_goes : {A B : Type 0} (f : A → B) (p : Reader (Node A)) (i : ℕ) (a : A) (l m : ℕ) → p i ≡ Some (node a l, m) → made f 0 p i ≡ Some (node (f a) l, m)
made_goes f p i a l m h = then_goes (p i) (λ x j. Some (node (f x.tree) (x.levels + 0), j)) (node a l) m h ∙ ap (λ q. Some (node (f a) q, m)) (let same : l + 0 ≡ l = omega arith in same)

record MadeOf {A B : Type 0} (f : A → B) (p : Reader (Node A)) (i : ℕ) (x : Node B) (m : ℕ) : Type 0 where
  part : Node A
  read : p i ≡ Some (part, m)
  tree : x.tree ≡ f part.tree
  levels : x.levels ≡ part.levels

made_some : {A B : Type 0} (f : A → B) (p : Reader (Node A)) (i : ℕ) (x : Node B) (m : ℕ) → made f 0 p i ≡ Some (x, m) → MadeOf f p i x m
made_some f p i x m h =
    let one = then_some (p i) _ (x, m) h in
    let same = some_is _ _ one.2 in
    let here : one.0.1 ≡ m = ap (λ q. q.1) same in
    record {
      part = one.0.0;
      read = one.1 ∙ ap (λ z. Some (one.0.0, z)) here;
      tree = sym (ap (λ q. q.0.tree) same);
      levels = let same_levels = ap (λ q. q.0.levels) same in omega (arith, same_levels);
    }

module _ (text : Text) (c : Context) (n : ℕ) (r : Handed) (heads : ReadsHeads text c n r) where
  abbrev pub bare : Context
  bare = without_in c

  abbrev pub Bare : Expression → Type 0
  Bare = IsExpression text bare

  abbrev value : Reader (Node Expression)
  value = r.expression true bare

  -- ---- a declaration

  abbrev pub Lists : Syntax (Expression × List NextElement)
  Lists = declared.Lists text bare n r heads.bindings

  abbrev pub element_lists : (Elements → Type 0) → Syntax Elements
  element_lists Good = record { yields = tokens_of_elements written; levels_of = depth_of_elements; Good = Good }

  abbrev elements_end : Elements → Token → Bool
  elements_end = declared.elements_end text bare n r heads.bindings

  abbrev lists : Reader (Node Elements)
  lists = made make_bindings 0 (loose_list text bare n r)

  lists_rule : Rule text (element_lists (Made Lists make_bindings)) n n elements_end lists
  lists_rule =
      plain_rule text Lists (tokens_of_elements written) depth_of_elements n n (declared.list_ends text bare n r heads.bindings) elements_end make_bindings (loose_list text bare n r) (declared.loose_rule text bare n r heads.bindings)
      (declared.bindings_yields text bare n r heads.bindings) (declared.bindings_levels text bare n r heads.bindings) (λ p t h. sym (declared.list_stops_in text bare n r heads.bindings p t) ∙ h)

  abbrev pub Declareds : Syntax (Token × Elements)
  Declareds = pairs (tokens_in (λ t. is_variable t.kind)) (element_lists (Made Lists make_bindings))

  abbrev pub declarations : (Declaration → Type 0) → Syntax Declaration
  declarations Good = record { yields = tokens_of_declaration written; levels_of = depth_of_declaration; Good = Good }

  abbrev pub IsDeclared : Declaration → Type 0
  IsDeclared = Made Declareds make_declaration

  list_is : (p : Token × Elements) → (out-Declaration (make_declaration p)).bindings ≡ p.1
  list_is p = ap (λ o. o.bindings) (out-roll-Declaration (record { word = p.0; bindings = p.1 }))

  abbrev declaration_ends : Declaration → Token → Bool
  declaration_ends d t = elements_end (out-Declaration d).bindings t

  variable_agrees : (kind : Kind) → is_variable kind ≡ true → agrees goal.Div kind ≡ true
  variable_agrees k.Var h = refl
  variable_agrees k.Let h = refl
  variable_agrees k.Const h = refl
  variable_agrees _ h = cc

  abbrev declaration : Reader (Node Declaration)
  declaration = made make_declaration 0 (both (token_in text goal.Div (λ t. is_variable t.kind)) lists)

  declaration_rule : Rule text (declarations IsDeclared) n n declaration_ends declaration
  declaration_rule =
      plain_rule text Declareds (tokens_of_declaration written) depth_of_declaration n n (λ p. elements_end p.1) declaration_ends make_declaration (both (token_in text goal.Div (λ t. is_variable t.kind)) lists)
      (both_rule text (tokens_in (λ t. is_variable t.kind)) (element_lists (Made Lists make_bindings)) n n (λ _ _. true) elements_end (λ p. elements_end p.1) (token_in text goal.Div (λ t. is_variable t.kind)) lists
      (token_in_rule text n n goal.Div (λ t. is_variable t.kind) (λ t h. variable_agrees t.kind h)) lists_rule (λ a l t h. h) (λ a l m j ga gl h stop. refl))
      (λ p. tokens_Declaration written p.0 p.1) (λ p. levels_Declaration p.0 p.1 ∙ zero_max (depth_of_elements p.1)) (λ p t h. ap (λ l. elements_end l t) (sym (list_is p)) ∙ h)

  -- ---- the first part

  abbrev pub IsPlain : Expression → Type 0
  IsPlain x = Bare x × (begins_let_bracket (tokens_of_expression written x) ≡ false)

  abbrev pub IsStart : ForStart → Type 0
  IsStart a = (a ≡ fs.NoStart) ⊎ (Made (declarations IsDeclared) fs.StartDeclaration a ⊎ Made (which (expressions Bare) IsPlain) fs.StartExpression a)

  abbrev pub Starts : Syntax ForStart
  Starts = record { yields = tokens_of_for_start written; levels_of = depth_of_for_start; Good = IsStart }

  -- `let [` is seen as a declaration
  bracket_declares : (i : ℕ) (t : Token) (ts : List Token) (m : ℕ) → SpelledBetween text i (t ∷ ts) m → begins_let_bracket (t ∷ ts) ≡ true → declares_at text i ≡ true
  bracket_declares i t [] m h bracket = let bad : false ≡ true = sym (no_bracket (is_let t.kind)) ∙ bracket in cc
    where
      no_bracket : (b : Bool) → (b && false) ≡ false
      no_bracket true = refl
      no_bracket false = refl
  bracket_declares i t (u ∷ us) m h bracket =
      let first = let_kind t.kind (first_of _ _ bracket) in
      let second = bracket_kind u.kind (second_of (is_let t.kind) _ bracket) in
      let here = sees text i t (u ∷ us) m h (ap (agrees goal.Div) first) in
      let there = sees text t.end u us m h.2 (ap (agrees goal.Div) second) in
      ap (λ (v : Token). declares v.kind (behind text v.end).kind) here ∙ ap (λ (v : Token). declares t.kind v.kind) there ∙ ap (λ q. declares q u.kind) first ∙ ap (declares k.Let) second

  plain_here : (x : Expression) (i m : ℕ) → Bare x → SpelledBetween text i (tokens_of_expression written x) m → declares_at text i ≡ false → begins_let_bracket (tokens_of_expression written x) ≡ false
  plain_here x i m good h seen = by_test (begins_let_bracket (tokens_of_expression written x)) refl
    where
      by_test : (b : Bool) → begins_let_bracket (tokens_of_expression written x) ≡ b → b ≡ false
      by_test false g = refl
      by_test true g =
          let b = heads.bare.begins x good in
          sym (bracket_declares i b.first b.rest m (subst (λ ts. SpelledBetween text i ts m) b.is h) (ap begins_let_bracket (sym b.is) ∙ g)) ∙ seen

  abbrev others : Reader (Node ForStart)
  others = λ i. choose (declares_at text i) (read.declared_start text c n r) (read.valued_start text c n r) i

  other_some : (i : ℕ) (x : Node ForStart) (m : ℕ) → others i ≡ Some (x, m) → Stands text Starts n x i m
  other_some i x m h = by_test (declares_at text i) refl h
    where
      by_test : (b : Bool) → declares_at text i ≡ b → choose b (read.declared_start text c n r) (read.valued_start text c n r) i ≡ Some (x, m) → Stands text Starts n x i m
      by_test true seen g =
          let d = made_some fs.StartDeclaration declaration i x m g in
          let s = declaration_rule.sound i d.part m d.read in
          record {
            good = inr (inl (d.part.tree, d.tree, s.good));
            levels = ap depth_of_for_start d.tree ∙ levels_StartDeclaration d.part.tree ∙ s.levels ∙ sym d.levels;
            fits = let f = s.fits in let l = d.levels in omega (arith, f, l);
            spelled = subst (λ ts. SpelledBetween text i ts m) (sym (ap (tokens_of_for_start written) d.tree ∙ tokens_StartDeclaration written d.part.tree)) s.spelled;
          }
      by_test false seen g =
          let d = made_some fs.StartExpression value i x m g in
          let s = heads.bare.rule.sound i d.part m d.read in
          record {
            good = inr (inr (d.part.tree, d.tree, (s.good, plain_here d.part.tree i m s.good s.spelled seen)));
            levels = ap depth_of_for_start d.tree ∙ levels_StartExpression d.part.tree ∙ s.levels ∙ sym d.levels;
            fits = let f = s.fits in let l = d.levels in omega (arith, f, l);
            spelled = subst (λ ts. SpelledBetween text i ts m) (sym (ap (tokens_of_for_start written) d.tree ∙ tokens_StartExpression written d.part.tree)) s.spelled;
          }

  pub start_some : (i : ℕ) (x : Node ForStart) (m : ℕ) → read.start text c n r i ≡ Some (x, m) → Stands text Starts n x i m
  unfolding read.start
  start_some i x m h = by_test (is_semicolon (behind text i).kind) h
    where
      by_test : (b : Bool) → choose b (empty fs.NoStart) others i ≡ Some (x, m) → Stands text Starts n x i m
      by_test true g =
          subst (λ p. Stands text Starts n p.0 i p.1) (some_is _ _ g)
          (record { good = inl refl; levels = levels_NoStart; fits = omega arith; spelled = subst (λ ts. SpelledBetween text i ts i) (sym (tokens_NoStart written)) refl })
      by_test false g = other_some i x m g

  -- ---- forwards

  -- how it may go on behind a first part
  abbrev pub GoesOn : ForStart → ℕ → Type 0
  GoesOn a m =
      ((is_semicolon (behind text m).kind ≡ true) × (is_classic a ≡ true))
      ⊎ (((is_in (behind text m).kind ≡ true) × (is_each a ≡ true)) ⊎ ((is_of text (behind text m) ≡ true) × (is_of_each a ≡ true) × (is_arrow (behind text (behind text m).end).kind ≡ false)))

  nothing_goes : (i m : ℕ) → i ≡ m → GoesOn fs.NoStart m → read.start text c n r i ≡ Some (node fs.NoStart 0, m)
  unfolding read.start
  nothing_goes i m here (inl g) = if_goes _ _ _ (ap (λ p. is_semicolon (behind text p).kind) here ∙ g.0) ∙ ap (λ p. Some (node fs.NoStart 0, p)) here
  nothing_goes i m here (inr (inl g)) = let bad : false ≡ true = sym each_nothing ∙ g.1 in cc
  nothing_goes i m here (inr (inr g)) = let bad : false ≡ true = sym each_nothing ∙ of_is_each fs.NoStart g.1 in cc

  -- a declaration
  pub loose_target : (p : Expression × List NextElement) → Lists.Good p → one_target (make_bindings p) ≡ true → (is_empty p.1 ≡ true) × IsTarget text bare p.0
  loose_target p good h =
      let out = out-roll-Elements (record { first = el.Value p.0; rest = p.1 }) in
      let parts : (is_empty p.1 && valueless (value_layer (out-Element (el.Value p.0)))) ≡ true = ap (λ o. is_empty o.rest && valueless (value_layer (out-Element o.first))) (sym out) ∙ h in
      (first_of _ _ parts, target_of text bare p.0 good.0 (ap valueless (sym (declared.out_value p.0)) ∙ second_of (is_empty p.1) _ parts))

  target_stops : (x : Expression) (os : List NextElement) (t : Token) → is_empty os ≡ true → heads.bindings.stops x t ≡ true → not (is_comma t.kind) ≡ true → declared.list_ends text bare n r heads.bindings (x, os) t ≡ true
  target_stops x [] t h stop other = and_of _ _ (declared.value_stops text bare n r heads.bindings x t ∙ stop) other
  target_stops x (o ∷ os) t h stop other = cc

  last_stops : (x : Expression) (os : List NextElement) (t : Token) → Lists.Good (x, os) → is_semicolon t.kind ≡ true → declared.list_ends text bare n r heads.bindings (x, os) t ≡ true
  last_stops x os t good h =
      let last = declared.last_bound text bare n r heads.bindings x os good.0 good.1 in
      let kind = semicolon_is t.kind h in
      and_of _ _ (ap (λ o. declared.maybe_stops text bare n r heads.bindings o t) last.is ∙ heads.bindings.ends last.value t last.loose (or_first _ _ (ap ends_expression kind))) (ap (λ q. not (is_comma q)) kind)

  list_goes_on : (l : Elements) (t : Token) → Made Lists make_bindings l → ((is_semicolon t.kind ≡ true)) ⊎ ((is_in t.kind || is_of text t ≡ true) × (one_target l ≡ true)) → elements_end l t ≡ true
  list_goes_on l t good (inl h) =
      let p = good.0 in
      ap (λ z. elements_end z t) good.1 ∙ declared.list_stops_in text bare n r heads.bindings p t ∙ last_stops p.0 p.1 t good.2 h
  list_goes_on l t good (inr h) =
      let p = good.0 in
      let one = loose_target p good.2 (ap one_target (sym good.1) ∙ h.1) in
      ap (λ z. elements_end z t) good.1 ∙ declared.list_stops_in text bare n r heads.bindings p t
      ∙ target_stops p.0 p.1 t one.0 (heads.target_ends p.0 t one.1 h.0) (no_comma (is_in t.kind) (is_of text t) refl refl h.0)
    where
      no_comma : (a b : Bool) → is_in t.kind ≡ a → is_of text t ≡ b → (a || b) ≡ true → not (is_comma t.kind) ≡ true
      no_comma true b seen other g = ap (λ q. not (is_comma q)) (in_is t.kind seen)
      no_comma false true seen other g = ap (λ q. not (is_comma q)) (of_name text t other)
      no_comma false false seen other g = cc

  declared_ends : (d : Declaration) (m : ℕ) → IsDeclared d → GoesOn (fs.StartDeclaration d) m → declaration_ends d (behind text m) ≡ true
  declared_ends d m good goes =
      let list = (out-Declaration d).bindings in
      let same : list ≡ good.0.1 = ap (λ z. (out-Declaration z).bindings) good.1 ∙ list_is good.0 in
      ap (λ l. elements_end l (behind text m)) same ∙ list_goes_on good.0.1 (behind text m) good.2.1 (by_case same goes)
    where
      by_case : (out-Declaration d).bindings ≡ good.0.1 → GoesOn (fs.StartDeclaration d) m → (is_semicolon (behind text m).kind ≡ true) ⊎ ((is_in (behind text m).kind || is_of text (behind text m) ≡ true) × (one_target good.0.1 ≡ true))
      by_case same (inl g) = inl g.0
      by_case same (inr (inl g)) = inr (or_first _ _ g.0, ap one_target (sym same) ∙ sym (each_declaration d) ∙ g.1)
      by_case same (inr (inr g)) = inr (or_second (is_in (behind text m).kind) _ g.0, ap one_target (sym same) ∙ sym (each_declaration d) ∙ of_is_each (fs.StartDeclaration d) g.1)

  list_begins : (l : Elements) → Made Lists make_bindings l → Begins begins_target (tokens_of_elements written l)
  list_begins l good =
      let p = good.0 in
      let b = heads.bindings.begins p.0 good.2.0 in
      record {
        first = b.first;
        rest = b.rest ++ flat_map (declared.Nexts text bare n r heads.bindings).yields p.1;
        is = ap (tokens_of_elements written) good.1 ∙ declared.bindings_yields text bare n r heads.bindings p ∙ ap (λ ts. ts ++ flat_map (declared.Nexts text bare n r heads.bindings).yields p.1) b.is;
        kind = b.kind;
      }

  variable_declares : (kind u : Kind) → is_variable kind ≡ true → begins_target u ≡ true → (declares kind u ≡ true) × (is_semicolon kind ≡ false)
  variable_declares k.Var u h g = (refl, refl)
  variable_declares k.Const u h g = (refl, refl)
  variable_declares k.Let u h g = (g, refl)
  variable_declares _ u h g = cc

  declared_seen : (d : Declaration) (i m : ℕ) → IsDeclared d → SpelledBetween text i (tokens_of_declaration written d) m → (declares_at text i ≡ true) × (is_semicolon (behind text i).kind ≡ false)
  declared_seen d i m good h =
      let word = good.0.0 in
      let list = good.0.1 in
      let spelled = subst (λ ts. SpelledBetween text i ts m) (ap (tokens_of_declaration written) good.1 ∙ tokens_Declaration written word list) h in
      let b = list_begins list good.2.1 in
      let second = subst (λ ts. SpelledBetween text word.end ts m) b.is spelled.2 in
      let here = sees text i word (tokens_of_elements written list) m spelled (variable_agrees word.kind good.2.0) in
      let there = sees text word.end b.first b.rest m second (target_agrees b.first.kind b.kind) in
      let both = variable_declares word.kind b.first.kind good.2.0 b.kind in
      (ap (λ (v : Token). declares v.kind (behind text v.end).kind) here ∙ ap (λ (v : Token). declares word.kind v.kind) there ∙ both.0, ap (λ (v : Token). is_semicolon v.kind) here ∙ both.1)

  declared_goes : (d : Declaration) (i m : ℕ) → IsDeclared d → depth_of_declaration d < n → SpelledBetween text i (tokens_of_declaration written d) m → GoesOn (fs.StartDeclaration d) m → read.start text c n r i ≡ Some (node (fs.StartDeclaration d) (depth_of_declaration d), m)
  unfolding read.start
  declared_goes d i m good low h goes =
      let seen = declared_seen d i m good h in
      let stands : Stands text (declarations IsDeclared) n (node d (depth_of_declaration d)) i m = record { good = good; levels = refl; fits = omega (arith, low); spelled = h } in
      if_not _ _ _ seen.1 ∙ if_goes _ _ _ seen.0 ∙ made_goes fs.StartDeclaration declaration i d (depth_of_declaration d) m (declaration_rule.complete i (node d (depth_of_declaration d)) m stands low (declared_ends d m good goes))

  -- an expression
  value_ends : (x : Expression) (i m : ℕ) → Bare x → SpelledBetween text i (tokens_of_expression written x) m → depth_of_expression x < n → GoesOn (fs.StartExpression x) m → value i ≡ Some (node x (depth_of_expression x), m)
  value_ends x i m good h low (inl g) = heads.bare.rule.complete i (node x (depth_of_expression x)) m (record { good = good; levels = refl; fits = omega (arith, low); spelled = h }) low (heads.bare.ends x (behind text m) good (ap ends_expression (semicolon_is (behind text m).kind g.0)))
  value_ends x i m good h low (inr (inl g)) = heads.bare.rule.complete i (node x (depth_of_expression x)) m (record { good = good; levels = refl; fits = omega (arith, low); spelled = h }) low (heads.bare_in x (behind text m) good (in_is (behind text m).kind g.0))
  value_ends x i m good h low (inr (inr g)) =
      let left = left_of text bare x good (sym (each_expression x) ∙ of_is_each (fs.StartExpression x) g.1) in
      heads.bare_of i (node x (depth_of_expression x)) m (record { good = left; levels = refl; fits = omega (arith, low); spelled = h }) low g.0 g.2

  no_semicolon : (x : Expression) (i m : ℕ) → Bare x → SpelledBetween text i (tokens_of_expression written x) m → is_semicolon (behind text i).kind ≡ false
  no_semicolon x i m good h =
      let b = heads.bare.begins x good in
      by_kind (behind text i).kind (no_end_shown text i b.first (value_seen text Bare n value heads.bare x i m good h) b.kind)
    where
      by_kind : (kind : Kind) → ends_expression kind ≡ false → is_semicolon kind ≡ false
      by_kind k.Semicolon h = cc
      by_kind _ h = refl

  division_declares : (kind u : Kind) → is_division kind ≡ true → declares kind u ≡ false
  division_declares k.Slash u h = refl
  division_declares k.SlashAssign u h = refl
  division_declares _ u h = cc

  begins_declares : (kind u : Kind) → begins_expression kind ≡ true → (kind ≡ k.Let → begins_target u ≡ false) → declares kind u ≡ false
  begins_declares k.Var u h g = cc
  begins_declares k.Const u h g = cc
  begins_declares k.Let u h g = g refl
  begins_declares _ u h g = refl

  -- what follows `let` alone is nothing that is bound
  follows_target : (x : Expression) (t : Token) (m : ℕ) → tokens_of_expression written x ≡ t ∷ [] → t.kind ≡ k.Let → GoesOn (fs.StartExpression x) m → begins_target (behind text m).kind ≡ false
  follows_target x t m is name (inl g) = ap begins_target (semicolon_is (behind text m).kind g.0)
  follows_target x t m is name (inr (inl g)) = ap begins_target (in_is (behind text m).kind g.0)
  follows_target x t m is name (inr (inr g)) =
      let begins : begins_let (tokens_of_expression written x) ≡ true = ap begins_let is ∙ ap is_let name in
      let other : not (begins_let (tokens_of_expression written x)) ≡ true = second_of (is_left x) _ (sym (of_expression x) ∙ g.1) in
      let bad : false ≡ true = sym (ap not begins) ∙ other in
      cc

  name_alone : (t : Token) (u : Token) (us : List Token) → tokens_of_expression written (e.Primary t) ≡ t ∷ (u ∷ us) → ⊥
  name_alone t u us h = let bad : t ∷ [] ≡ t ∷ (u ∷ us) = sym (tokens_Primary written t) ∙ h in cc

  let_follows : (x : Expression) (i m : ℕ) (t : Token) (ts : List Token) → IsPlain x → tokens_of_expression written x ≡ t ∷ ts → SpelledBetween text i (t ∷ ts) m → depth_of_expression x < n → GoesOn (fs.StartExpression x) m → t.kind ≡ k.Let → begins_target (behind text t.end).kind ≡ false
  let_follows x i m t [] good is h low goes name =
      let here : t.end ≡ m = h.2 in
      ap (λ p. begins_target (behind text p).kind) here ∙ follows_target x t m is name goes
  let_follows x i m t (u ∷ us) good is h low goes name = by_test _ refl
    where
      by_kind : ((behind text t.end).kind ≡ k.LeftBracket) ⊎ ((is_binding (behind text t.end).kind || is_left_brace (behind text t.end).kind) ≡ true) → ⊥
      by_kind (inl kind) =
          let same : u ≡ behind text t.end = same_token text t.end u us m h.2 (bracket_no_end _ kind) (ap is_other_than_slash kind) (ap is_other_than_brace kind) in
          let bracket : begins_let_bracket (t ∷ (u ∷ us)) ≡ true = and_of _ _ (ap is_let name) (ap is_left_bracket (ap (λ (v : Token). v.kind) same ∙ kind)) in
          let bad : true ≡ false = sym (ap begins_let_bracket is ∙ bracket) ∙ good.1 in
          cc
      by_kind (inr bound) =
          let alone : Stands text (expressions Bare) n (node (e.Primary t) 0) i t.end = record {
            good = expression_of_left text bare (e.Primary t) (access (origin (primary_expression (identifier_reference (ap (is_reference bare) name)))));
            levels = levels_Primary t;
            fits = omega arith;
            spelled = subst (λ us. SpelledBetween text i us t.end) (sym (tokens_Primary written t)) (h.0, h.1, refl);
          } in
          let a = value_ends x i m good.0 (subst (λ vs. SpelledBetween text i vs m) (sym is) h) low goes in
          let b = heads.bare.rule.complete i (node (e.Primary t) 0) t.end alone (omega (arith, low)) (heads.bare.let_ends t (behind text t.end) name bound) in
          let same : x ≡ e.Primary t = ap (λ p. p.0.tree) (some_is _ _ (sym a ∙ b)) in
          name_alone t u us (ap (tokens_of_expression written) (sym same) ∙ is)

      by_test : (b : Bool) → begins_target (behind text t.end).kind ≡ b → b ≡ false
      by_test false g = refl
      by_test true g = absurd (by_kind (target_is _ g))

  value_declares : (x : Expression) (i m : ℕ) → IsPlain x → SpelledBetween text i (tokens_of_expression written x) m → depth_of_expression x < n → GoesOn (fs.StartExpression x) m → declares_at text i ≡ false
  value_declares x i m good h low goes = by_shown (value_seen text Bare n value heads.bare x i m good.0 h)
    where
      by_shown : Shown text i (heads.bare.begins x good.0).first → declares_at text i ≡ false
      by_shown (inl same) =
          let b = heads.bare.begins x good.0 in
          ap (λ (v : Token). declares v.kind (behind text v.end).kind) same
          ∙ begins_declares b.first.kind (behind text b.first.end).kind b.kind (let_follows x i m b.first b.rest good b.is (subst (λ ts. SpelledBetween text i ts m) b.is h) low goes)
      by_shown (inr g) = division_declares (behind text i).kind (behind text (behind text i).end).kind g.1

  valued_goes : (x : Expression) (i m : ℕ) → IsPlain x → SpelledBetween text i (tokens_of_expression written x) m → depth_of_expression x < n → GoesOn (fs.StartExpression x) m → read.start text c n r i ≡ Some (node (fs.StartExpression x) (depth_of_expression x), m)
  unfolding read.start
  valued_goes x i m good h low goes =
      if_not _ _ _ (no_semicolon x i m good.0 h) ∙ if_not _ _ _ (value_declares x i m good h low goes) ∙ made_goes fs.StartExpression value i x (depth_of_expression x) m (value_ends x i m good.0 h low goes)

  -- the first part is read where what follows goes on so
  pub start_goes : (a : ForStart) (i m : ℕ) → IsStart a → SpelledBetween text i (tokens_of_for_start written a) m → depth_of_for_start a < n → GoesOn a m → read.start text c n r i ≡ Some (node a (depth_of_for_start a), m)
  start_goes a i m (inl e) h low goes =
      let here : i ≡ m = subst (λ ts. SpelledBetween text i ts m) (ap (tokens_of_for_start written) e ∙ tokens_NoStart written) h in
      nothing_goes i m here (subst (λ z. GoesOn z m) e goes) ∙ ap (λ l. Some (node fs.NoStart l, m)) (sym (ap depth_of_for_start e ∙ levels_NoStart)) ∙ ap (λ z. Some (node z (depth_of_for_start a), m)) (sym e)
  start_goes a i m (inr (inl good)) h low goes =
      let d = good.0 in
      let deep = ap depth_of_for_start good.1 ∙ levels_StartDeclaration d in
      declared_goes d i m good.2 (subst (λ l. l < n) deep low) (subst (λ ts. SpelledBetween text i ts m) (ap (tokens_of_for_start written) good.1 ∙ tokens_StartDeclaration written d) h) (subst (λ z. GoesOn z m) good.1 goes)
      ∙ ap (λ l. Some (node (fs.StartDeclaration d) l, m)) (sym deep) ∙ ap (λ z. Some (node z (depth_of_for_start a), m)) (sym good.1)
  start_goes a i m (inr (inr good)) h low goes =
      let x = good.0 in
      let deep = ap depth_of_for_start good.1 ∙ levels_StartExpression x in
      valued_goes x i m good.2 (subst (λ ts. SpelledBetween text i ts m) (ap (tokens_of_for_start written) good.1 ∙ tokens_StartExpression written x) h) (subst (λ l. l < n) deep low) (subst (λ z. GoesOn z m) good.1 goes)
      ∙ ap (λ l. Some (node (fs.StartExpression x) l, m)) (sym deep) ∙ ap (λ z. Some (node z (depth_of_for_start a), m)) (sym good.1)
