-- Classes are read exactly.
use Rattle.std.proofs.Common.{◌≡◌, ◌⊎◌, inl, inr, ℕ, ◌<◌, ◌≤◌, max, Bool, true, false, not, ◌&&◌, ◌||◌, List, [], ◌∷◌, ◌++◌, map, length, Option, Some, None, refl, ap, sym, ◌∙◌, subst, arith}
use Rattle.std.specs.List.{AllByRecursion}
use Rattle.esb_token.specs.declared.kind.Kind.{Kind}
use Rattle.esb_token.specs.declared.kind.Kind.TheVariants as k
use Rattle.esb_token.specs.declared.token.Token.{Token}
use Rattle.esb_token.specs.declared.goal.Goal.TheVariants as goal
use Rattle.esb_token.specs.Tokens.{SpelledBetween}
use Rattle.esb_tree.specs.declared.classes.Class.{Class}
use Rattle.esb_tree.specs.declared.classes.ClassElement.{ClassElement}
use Rattle.esb_tree.specs.declared.classes.ClassElement.TheVariants as ce
use Rattle.esb_tree.specs.declared.classes.Heritage.{Heritage}
use Rattle.esb_tree.specs.declared.classes.Heritage.TheVariants as he
use Rattle.esb_tree.specs.declared.expressions.Expression.{Expression}
use Rattle.esb_tree.specs.declared.functions.Method.{Method}
use Rattle.esb_tree.specs.declared.statements.Statement.{Statement}
use Rattle.esb_tree.specs.Levels.{most, depth_of_expression, depth_of_method, depth_of_heritage, depth_of_class_element, depth_of_class}
use Rattle.esb_tree.specs.Trees.{written}
use Rattle.esb_tree.specs.Yields.{tokens_of_method, tokens_of_heritage, tokens_of_class_element, tokens_of_class}
use Rattle.esb_tree.proofs.TokenLines.{tokens_NoHeritage, tokens_Extends, tokens_ClassMethod, tokens_EmptyElement, tokens_Class}
use Rattle.esb_tree.proofs.LevelLines.{levels_NoHeritage, levels_Extends, levels_ClassMethod, levels_EmptyElement, levels_Class}
use Rattle.esb_grammar.specs.declared.context.Context.{Context}
use Rattle.esb_grammar.specs.Grammar.{IsLeftHandSide, IsMethod, IsClass, nameless_class, named_class, IsHeritage, no_heritage, class_heritage, AreClassElements, no_class_elements, class_method, class_semicolon}
use Rattle.esb_grammar.specs.Kinds.{is_binding, is_left_brace, is_right_brace, is_semicolon, is_static, is_property_word, is_left_bracket, is_star}
use Rattle.esb_reader.specs.declared.node.Node.{Node}
use Rattle.esb_reader.specs.Kinds.{agrees}
use Rattle.esb_reader.specs.Places.{Text}
use Rattle.esb_reader.specs.Reader.{Reader}
use Rattle.esb_reader.specs.Parts.{behind, both, token, token_in, made, choice, empty, many}
use Rattle.esb_reader.specs.Stands.{Syntax, Rule, Made, tokens, tokens_in, pairs, row, last_stops, list_stops}
use Rattle.esb_reading_laws.specs.Laws.{Repeats}
use Rattle.esb_reading_laws.proofs.Composed.{token_rule, both_rule, plain_rule, choice_rule, empty_rule, same_rule}
use Rattle.esb_reading_laws.proofs.Rows.{many_rule}
use Rattle.esb_expression_laws.specs.Leaves.{expressions}
use Rattle.esb_expression_laws.proofs.OperatorChains.{spelled_moves}
use Rattle.esb_literal_laws.specs.Forks.{fork, second}
use Rattle.esb_literal_laws.specs.Methods.{begins_name, method}
use Rattle.esb_literal_laws.specs.Functions.{own_name}
use Rattle.esb_literal_laws.specs.Classes as read
use Rattle.esb_literal_laws.specs.Classes.{is_extends, make_heritage, make_static, make_member, make_class, at_static, begins_member}
use Rattle.esb_literal_laws.specs.Laws.{ReadsWithin, ReadsBodies, ReadsHeads, Own_name, own_names, methods, classes, ClassRule}
use Rattle.esb_literal_laws.proofs.Forks.{fork_rule, fewer_rule}
use Rattle.esb_literal_laws.proofs.Seen.{and_of, and_false, max_zero, sees_kind}
use Rattle.esb_literal_laws.proofs.Sequences.{lead_rule, lead_in_rule, close_rule}
use Rattle.esb_literal_laws.proofs.NameParts.{Named_before}
use Rattle.esb_literal_laws.proofs.MethodParts as m
use Rattle.esb_literal_laws.proofs.FunctionParts.{own_name_rule}

-- ---- kinds

brace_no_extends : (kind : Kind) → is_left_brace kind ≡ true → is_extends kind ≡ false
brace_no_extends k.LeftBrace h = refl
brace_no_extends _ h = cc

static_is : (kind : Kind) → is_static kind ≡ true → kind ≡ k.Static
static_is k.Static h = refl
static_is _ h = cc

-- what may follow the name of a class
abbrev follows_name : Kind → Bool
follows_name k.LeftBrace = true
follows_name k.Extends = true
follows_name _ = false

follows_apart : (kind : Kind) → follows_name kind ≡ true → is_binding kind ≡ false
follows_apart k.LeftBrace h = refl
follows_apart k.Extends h = refl
follows_apart _ h = cc

word_no_semicolon : (kind : Kind) → is_property_word kind ≡ true → is_semicolon kind ≡ false
word_no_semicolon k.Semicolon h = cc
word_no_semicolon _ h = refl

word_no_brace : (kind : Kind) → is_property_word kind ≡ true → is_right_brace kind ≡ false
word_no_brace k.RightBrace h = cc
word_no_brace _ h = refl

-- tokens that spell something take a byte
moves : (text : Text) (i j : ℕ) (ts : List Token) → SpelledBetween text i ts j → (t : Token) × (us : List Token) × (ts ≡ t ∷ us) → (i < j) × (j ≤ length text)
moves text i j ts h w = spelled_moves text i w.0 w.1 j (subst (λ us. SpelledBetween text i us j) w.2 h)

module _ (text : Text) (values heads : Context → ℕ → Reader (Node Expression)) (items : Context → ℕ → Reader (Node (List Statement))) (c : Context) (n : ℕ) (r : ReadsWithin text n values) (b : ReadsBodies text n items) (l : ReadsHeads text n heads) where
  -- ---- the heritage

  abbrev Heads : Syntax Expression
  Heads = expressions (IsLeftHandSide text c)

  abbrev of_heritages : (Heritage → Type 0) → Syntax Heritage
  of_heritages Good = record { yields = tokens_of_heritage written; levels_of = depth_of_heritage; Good = Good }

  abbrev IsExtended : Heritage → Type 0
  IsExtended = Made (pairs (tokens k.Extends) Heads) make_heritage

  abbrev brace : Token → Bool
  brace t = is_left_brace t.kind

  abbrev extended : Token → Bool
  extended t = is_extends t.kind

  extended_rule : Rule text (of_heritages IsExtended) n n (λ _. brace) (read.extended text values heads items c n)
  unfolding read.extended
  extended_rule =
      plain_rule text (pairs (tokens k.Extends) Heads) (tokens_of_heritage written) depth_of_heritage n n (λ _. brace) (λ _. brace) make_heritage (both (token text k.Extends) (heads c n))
      (lead_rule text Heads n k.Extends (λ _. brace) (heads c n) refl (l.rule c n (omega arith)))
      (λ p. tokens_Extends written p.0 p.1) (λ p. levels_Extends p.0 p.1 ∙ max_zero (depth_of_expression p.1)) (λ p t h. h)

  extended_shows : (x : Heritage) (us : List Token) (i j : ℕ) → IsExtended x → SpelledBetween text i (tokens_of_heritage written x ++ us) j → (behind text i).kind ≡ k.Extends
  extended_shows x us i j good h =
      let spelled = subst (λ ts. SpelledBetween text i (ts ++ us) j) (ap (tokens_of_heritage written) good.1 ∙ tokens_Extends written good.0.0 good.0.1) h in
      ap (λ (t : Token). t.kind) (sees_kind text i good.0.0 _ j k.Extends spelled good.2.0 refl) ∙ good.2.0

  append_none : (ts : List Token) → ts ++ [] ≡ ts
  append_none [] = refl
  append_none (t ∷ ts) = ap (λ us. t ∷ us) (append_none ts)

  shows_extends : (x : Heritage) (i j : ℕ) → IsExtended x → SpelledBetween text i (tokens_of_heritage written x) j → extended (behind text i) ≡ true
  shows_extends x i j good h = ap is_extends (extended_shows x [] i j good (subst (λ ts. SpelledBetween text i ts j) (sym (append_none (tokens_of_heritage written x))) h))

  none_shows : (x : Heritage) (i j : ℕ) → x ≡ he.NoHeritage → SpelledBetween text i (tokens_of_heritage written x) j → brace (behind text j) ≡ true → extended (behind text i) ≡ false
  none_shows x i j e h stop =
      let here : i ≡ j = subst (λ ts. SpelledBetween text i ts j) (ap (tokens_of_heritage written) e ∙ tokens_NoHeritage written) h in
      ap (λ m. extended (behind text m)) here ∙ brace_no_extends (behind text j).kind stop

  heritage_there : (x : Heritage) → IsExtended x ⊎ (x ≡ he.NoHeritage) → IsHeritage text c x
  heritage_there x (inl h) = subst (IsHeritage text c) (sym h.1) (class_heritage h.2.0 h.2.1)
  heritage_there x (inr h) = subst (IsHeritage text c) (sym h) no_heritage

  heritage_back : (x : Heritage) → IsHeritage text c x → IsExtended x ⊎ (x ≡ he.NoHeritage)
  heritage_back x no_heritage = inr refl
  heritage_back x (class_heritage {word = t} {x = y} h1 h2) = inl ((t, y), refl, (h1, h2))

  abbrev Heritages : Syntax Heritage
  Heritages = of_heritages (IsHeritage text c)

  heritage_rule : Rule text Heritages n n (λ _. brace) (read.heritage text values heads items c n)
  unfolding read.heritage
  heritage_rule =
      same_rule text (of_heritages (λ x. IsExtended x ⊎ (x ≡ he.NoHeritage))) Heritages n n (λ _. brace) (λ _. brace) (choice text extended (read.extended text values heads items c n) (empty he.NoHeritage))
      (choice_rule text Heritages IsExtended (λ x. x ≡ he.NoHeritage) n n (λ _. brace) extended (read.extended text values heads items c n) (empty he.NoHeritage) extended_rule
      (empty_rule text (tokens_of_heritage written) depth_of_heritage n n (λ _. brace) he.NoHeritage (tokens_NoHeritage written) levels_NoHeritage) shows_extends none_shows)
      refl refl heritage_there heritage_back (λ x t good h. h)

  -- ---- the elements

  abbrev of_members : (ClassElement → Type 0) → Syntax ClassElement
  of_members Good = record { yields = tokens_of_class_element written; levels_of = depth_of_class_element; Good = Good }

  abbrev statics : Token → Bool
  statics t = is_static t.kind

  abbrev IsEmpty : ClassElement → Type 0
  IsEmpty = Made (tokens k.Semicolon) ce.EmptyElement

  abbrev IsStatic : ClassElement → Type 0
  IsStatic = Made (pairs (tokens_in statics) (methods text c)) make_static

  abbrev IsPlain : ClassElement → Type 0
  IsPlain = Made (methods text c) make_member

  statics_agree : (t : Token) → statics t ≡ true → agrees goal.Div t.kind ≡ true
  statics_agree t h = ap (agrees goal.Div) (static_is t.kind h)

  empty_member_rule : Rule text (of_members IsEmpty) n n (λ _ _. true) (read.empty_member text)
  unfolding read.empty_member
  empty_member_rule =
      plain_rule text (tokens k.Semicolon) (tokens_of_class_element written) depth_of_class_element n n (λ _ _. true) (λ _ _. true) ce.EmptyElement (token text k.Semicolon) (token_rule text n n k.Semicolon refl)
      (λ t. tokens_EmptyElement written t) levels_EmptyElement (λ x t h. refl)

  static_rule : Rule text (of_members IsStatic) n n (λ _ _. true) (read.static_member text values heads items c n)
  unfolding read.static_member
  static_rule =
      plain_rule text (pairs (tokens_in statics) (methods text c)) (tokens_of_class_element written) depth_of_class_element n n (λ _ _. true) (λ _ _. true) make_static (both (token_in text goal.Div statics) (method text values items c n))
      (lead_in_rule text (methods text c) n statics (λ _ _. true) (method text values items c n) statics_agree (m.method_rule text values items c n r b))
      (λ p. tokens_ClassMethod written (Some p.0) p.1) (λ p. levels_ClassMethod (Some p.0) p.1 ∙ max_zero (depth_of_method p.1)) (λ x t h. refl)

  plain_member_rule : Rule text (of_members IsPlain) n n (λ _ _. true) (made make_member 0 (method text values items c n))
  plain_member_rule =
      plain_rule text (methods text c) (tokens_of_class_element written) depth_of_class_element n n (λ _ _. true) (λ _ _. true) make_member (method text values items c n) (m.method_rule text values items c n r b)
      (λ x. tokens_ClassMethod written None x) (λ x. levels_ClassMethod None x) (λ x t h. refl)

  -- what a method shows: what begins a name or `*`, and behind `static` no further name
  pub record Shows (i : ℕ) : Type 0 where
    pub begins : begins_name (behind text i) ≡ true
    pub no_static : at_static text i ≡ false

  name_begins_name : (kind : Kind) → kind ≡ k.Name → (is_property_word kind || (is_left_bracket kind || is_star kind)) ≡ true
  name_begins_name kind e = ap (λ x. is_property_word x || (is_left_bracket x || is_star x)) e

  no_static_by : (i : ℕ) (kind : Kind) → (behind text i).kind ≡ kind → is_static kind ≡ false → at_static text i ≡ false
  unfolding at_static
  no_static_by i kind e h = ap (λ a. a && begins_name (second text i)) (ap is_static e ∙ h)

  other_shows : (i : ℕ) (u : Token) → begins_name u ≡ false → Named_before text u i → Shows i
  unfolding at_static
  other_shows i u other (inl h) =
      record { begins = ap (λ a. a || (is_left_bracket (behind text i).kind || is_star (behind text i).kind)) h.0; no_static = and_false (is_static (behind text i).kind) _ (ap begins_name h.1 ∙ other) }
  other_shows i u other (inr h) =
      record { begins = ap (λ x. is_property_word x || (is_left_bracket x || is_star x)) h; no_static = ap (λ x. is_static x && begins_name (second text i)) h }

  method_shows : (x : Method) (i j : ℕ) → IsMethod text c x → SpelledBetween text i (tokens_of_method written x) j → Shows i
  method_shows x i j good h = by_sort (m.method_back text values items c n r b x good)
    where
      by_sort : m.IsAny text values items c n r b x → Shows i
      by_sort (inl g) = let s = m.worded_seen text values items c n r b x i j g h in record { begins = name_begins_name (behind text i).kind s.0; no_static = no_static_by i k.Name s.0 refl }
      by_sort (inr (inl g)) = let e = m.generator_seen text values items c n r b x i j g h in record { begins = ap (λ y. is_property_word y || (is_left_bracket y || is_star y)) e; no_static = no_static_by i k.Star e refl }
      by_sort (inr (inr g)) = let p = m.plain_before text values items c n r b x i j g h in other_shows i p.0 (ap (λ y. is_property_word y || (is_left_bracket y || is_star y)) p.1) p.2

  static_shows : (x : ClassElement) (i j : ℕ) → IsStatic x → SpelledBetween text i (tokens_of_class_element written x) j → ((behind text i).kind ≡ k.Static) × (at_static text i ≡ true)
  unfolding at_static
  static_shows x i j good h =
      let t = good.0.0 in
      let e = static_is t.kind good.2.0 in
      let spelled = subst (λ ts. SpelledBetween text i ts j) (ap (tokens_of_class_element written) good.1 ∙ tokens_ClassMethod written (Some t) good.0.1) h in
      let here = sees_kind text i t (tokens_of_method written good.0.1) j k.Static spelled e refl in
      let kind = ap (λ (u : Token). u.kind) here ∙ e in
      let next = ap (λ (u : Token). begins_name (behind text u.end)) here ∙ (method_shows good.0.1 t.end j good.2.1 spelled.2).begins in
      (kind, and_of _ _ (ap is_static kind) next)

  plain_shows : (x : ClassElement) (i j : ℕ) → IsPlain x → SpelledBetween text i (tokens_of_class_element written x) j → Shows i
  plain_shows x i j good h = method_shows good.0 i j good.2 (subst (λ ts. SpelledBetween text i ts j) (ap (tokens_of_class_element written) good.1 ∙ tokens_ClassMethod written None good.0) h)

  empty_shows : (x : ClassElement) (i j : ℕ) → IsEmpty x → SpelledBetween text i (tokens_of_class_element written x) j → (behind text i).kind ≡ k.Semicolon
  empty_shows x i j good h =
      let spelled = subst (λ ts. SpelledBetween text i ts j) (ap (tokens_of_class_element written) good.1 ∙ tokens_EmptyElement written good.0) h in
      ap (λ (u : Token). u.kind) (sees_kind text i good.0 [] j k.Semicolon spelled good.2 refl) ∙ good.2

  name_no_semicolon : (kind : Kind) → (is_property_word kind || (is_left_bracket kind || is_star kind)) ≡ true → (is_semicolon kind ≡ false) × (not (is_right_brace kind) ≡ true)
  name_no_semicolon k.Semicolon h = cc
  name_no_semicolon k.RightBrace h = cc
  name_no_semicolon _ h = (refl, refl)

  abbrev IsMember : ClassElement → Type 0
  IsMember x = IsEmpty x ⊎ (IsStatic x ⊎ IsPlain x)

  method_member : (x : ClassElement) (i j : ℕ) → IsStatic x ⊎ IsPlain x → SpelledBetween text i (tokens_of_class_element written x) j → (is_semicolon (behind text i).kind ≡ false) × (begins_member (behind text i) ≡ true)
  method_member x i j (inl good) h = let e = (static_shows x i j good h).0 in (ap is_semicolon e, ap (λ kind. not (is_right_brace kind)) e)
  method_member x i j (inr good) h = name_no_semicolon (behind text i).kind (plain_shows x i j good h).begins

  member_shows : (x : ClassElement) (i j : ℕ) → IsMember x → SpelledBetween text i (tokens_of_class_element written x) j → begins_member (behind text i) ≡ true
  member_shows x i j (inl good) h = ap (λ kind. not (is_right_brace kind)) (empty_shows x i j good h)
  member_shows x i j (inr good) h = (method_member x i j good h).1

  abbrev Members : Syntax ClassElement
  Members = of_members IsMember

  member_rule : Rule text Members n n (λ _ _. true) (read.member text values heads items c n)
  unfolding read.member
  member_rule =
      choice_rule text Members IsEmpty (λ x. IsStatic x ⊎ IsPlain x) n n (λ _ _. true) (λ t. is_semicolon t.kind) (read.empty_member text) (fork (at_static text) (read.static_member text values heads items c n) (made make_member 0 (method text values items c n))) empty_member_rule
      (fork_rule text Members IsStatic IsPlain n n (λ _ _. true) (at_static text) (read.static_member text values heads items c n) (made make_member 0 (method text values items c n)) static_rule plain_member_rule
      (λ i x j s low stop. (static_shows x.tree i j s.good s.spelled).1) (λ i x j s low stop. (plain_shows x.tree i j s.good s.spelled).no_static))
      (λ x i j good h. ap is_semicolon (empty_shows x i j good h)) (λ x i j good h stop. (method_member x i j good h).0)

  -- a method has a first token
  member_moves : (x : ClassElement) (i j : ℕ) → IsMember x → SpelledBetween text i (tokens_of_class_element written x) j → (i < j) × (j ≤ length text)
  member_moves x i j (inl good) h = moves text i j (tokens_of_class_element written x) h (good.0, [], ap (tokens_of_class_element written) good.1 ∙ tokens_EmptyElement written good.0)
  member_moves x i j (inr (inl good)) h = moves text i j (tokens_of_class_element written x) h (good.0.0, tokens_of_method written good.0.1, ap (tokens_of_class_element written) good.1 ∙ tokens_ClassMethod written (Some good.0.0) good.0.1)
  member_moves x i j (inr (inr good)) h =
      let first = m.method_first text values items c n r b good.0 good.2 in
      moves text i j (tokens_of_class_element written x) h (first.0, first.1, ap (tokens_of_class_element written) good.1 ∙ tokens_ClassMethod written None good.0 ∙ first.2)

  repeats : Repeats text Members n n (λ i. begins_member (behind text i)) (λ _ _. true) (read.member text values heads items c n)
  repeats = record {
    rule = member_rule;
    starts = member_shows;
    moves = member_moves;
    apart = λ x i good h. refl;
  }

  member_of : (x : ClassElement) (xs : List ClassElement) → IsMember x → AreClassElements text c xs → AreClassElements text c (x ∷ xs)
  member_of x xs (inl g) rest = subst (λ y. AreClassElements text c (y ∷ xs)) (sym g.1) (class_semicolon g.2 rest)
  member_of x xs (inr (inl g)) rest = subst (λ y. AreClassElements text c (y ∷ xs)) (sym g.1) (class_method g.2.0 g.2.1 rest)
  member_of x xs (inr (inr g)) rest = subst (λ y. AreClassElements text c (y ∷ xs)) (sym g.1) (class_method refl g.2 rest)

  are_members : (xs : List ClassElement) → AllByRecursion IsMember xs → AreClassElements text c xs
  are_members [] h = no_class_elements
  are_members (x ∷ xs) h = member_of x xs h.0 (are_members xs h.1)

  all_members : (xs : List ClassElement) → AreClassElements text c xs → AllByRecursion IsMember xs
  all_members [] h = tt
  all_members (x ∷ xs) (class_method {word = None} {method = y} own good more) = (inr (inr (y, refl, good)), all_members xs more)
  all_members (x ∷ xs) (class_method {word = Some t} {method = y} own good more) = (inr (inl ((t, y), refl, (own, good))), all_members xs more)
  all_members (x ∷ xs) (class_semicolon {semicolon = t} e more) = (inl (t, refl, e), all_members xs more)

  abbrev closes : Token → Bool
  closes t = is_right_brace t.kind

  last_true : (xs : List ClassElement) (t : Token) → last_stops (λ _ _. true) xs t ≡ true
  last_true [] t = refl
  last_true (x ∷ []) t = refl
  last_true (x ∷ y ∷ xs) t = last_true (y ∷ xs) t

  twice_not : (a : Bool) → a ≡ true → not (not a) ≡ true
  twice_not true h = refl
  twice_not false h = cc

  abbrev Member_lists : Syntax (List ClassElement)
  Member_lists = row Members

  members_rule : Rule text Member_lists n n (λ _. closes) (read.members text values heads items c n)
  unfolding read.members
  members_rule =
      fewer_rule text Member_lists n n (list_stops (λ _ _. true) begins_member) (λ _. closes) (many text begins_member (read.member text values heads items c n))
      (many_rule text Members n n begins_member (λ _ _. true) (read.member text values heads items c n) repeats)
      (λ xs t good h. and_of _ _ (last_true xs t) (twice_not (is_right_brace t.kind) h))

  -- ---- the whole

  abbrev Body : Syntax (Token × (List ClassElement × Token))
  Body = pairs (tokens k.LeftBrace) (pairs Member_lists (tokens k.RightBrace))

  abbrev Tail : Syntax (Heritage × (Token × (List ClassElement × Token)))
  Tail = pairs Heritages Body

  body_rule : Rule text Body n n (λ _ _. true) (both (token text k.LeftBrace) (both (read.members text values heads items c n) (token text k.RightBrace)))
  body_rule =
      lead_rule text (pairs Member_lists (tokens k.RightBrace)) n k.LeftBrace (λ _ _. true) (both (read.members text values heads items c n) (token text k.RightBrace)) refl
      (close_rule text Member_lists n k.RightBrace (λ _. closes) (read.members text values heads items c n) refl members_rule (λ a t e. ap is_right_brace e))

  abbrev body_reader : Reader (Node (Token × (List ClassElement × Token)))
  body_reader = both (token text k.LeftBrace) (both (read.members text values heads items c n) (token text k.RightBrace))

  tail_rule : Rule text Tail n n (λ _ _. true) (both (read.heritage text values heads items c n) body_reader)
  tail_rule =
      both_rule text Heritages Body n n (λ _. brace) (λ _ _. true) (λ _ _. true) (read.heritage text values heads items c n) body_reader heritage_rule body_rule
      (λ a d t h. refl) (λ a d i j ga gd h stop. ap brace (sees_kind text i d.0 _ j k.LeftBrace h gd.0 refl) ∙ ap is_left_brace gd.0)

  tail_follows : (d : Heritage × (Token × (List ClassElement × Token))) (i j : ℕ) → Tail.Good d → SpelledBetween text i (Tail.yields d) j → follows_name (behind text i).kind ≡ true
  tail_follows d i j good h = by_sort (heritage_back d.0 good.0)
    where
      by_sort : IsExtended d.0 ⊎ (d.0 ≡ he.NoHeritage) → follows_name (behind text i).kind ≡ true
      by_sort (inl g) = ap follows_name (extended_shows d.0 (Body.yields d.1) i j g h)
      by_sort (inr e) =
          let spelled = subst (λ ts. SpelledBetween text i (ts ++ Body.yields d.1) j) (ap (tokens_of_heritage written) e ∙ tokens_NoHeritage written) h in
          ap (λ (t : Token). follows_name t.kind) (sees_kind text i d.1.0 _ j k.LeftBrace spelled good.1.0 refl) ∙ ap follows_name good.1.0

  abbrev follows : Token → Bool
  follows t = follows_name t.kind

  abbrev Parts : Bool → Syntax (Token × (Option Token × (Heritage × (Token × (List ClassElement × Token)))))
  Parts is_named = pairs (tokens k.Class) (pairs (own_names is_named) Tail)

  there : (is_named : Bool) (x : Class) → Made (Parts is_named) make_class x → IsClass text is_named c x
  there is_named x h = subst (IsClass text is_named c) (sym h.1) (by_name is_named h.0.1.0 h.2.1.0)
    where
      by_name : (named : Bool) (name : Option Token) → Own_name named name → IsClass text named c (make_class (h.0.0, (name, h.0.1.1)))
      by_name named (Some t) own = named_class h.0.0 t h.0.1.1.0 h.0.1.1.1.0 h.0.1.1.1.1.0 h.0.1.1.1.1.1 h.2.0 own (h.2.1.1.0) h.2.1.1.1.0 (are_members h.0.1.1.1.1.0 h.2.1.1.1.1.0) h.2.1.1.1.1.1
      by_name false None own = nameless_class h.0.0 h.0.1.1.0 h.0.1.1.1.0 h.0.1.1.1.1.0 h.0.1.1.1.1.1 h.2.0 (h.2.1.1.0) h.2.1.1.1.0 (are_members h.0.1.1.1.1.0 h.2.1.1.1.1.0) h.2.1.1.1.1.1
      by_name true None own = absurd own

  back : (is_named : Bool) (x : Class) → IsClass text is_named c x → Made (Parts is_named) make_class x
  back is_named x (nameless_class word heritage begin elements ending h1 h2 h3 h4 h5) = ((word, (None, (heritage, (begin, (elements, ending))))), refl, (h1, (tt, (h2, (h3, (all_members elements h4, h5))))))
  back is_named x (named_class word name heritage begin elements ending h1 own h2 h3 h4 h5) = ((word, (Some name, (heritage, (begin, (elements, ending))))), refl, (h1, (own, (h2, (h3, (all_members elements h4, h5))))))

  class_levels : (a d : ℕ) → max a d ≡ max 0 (max 0 (max a (max 0 (max d 0))))
  class_levels a d = omega arith

  class_read : (is_named : Bool) → Rule text (classes text is_named c) n n (λ _ _. true) (read.class text values heads items is_named c n)
  unfolding read.class
  class_read is_named =
      same_rule text (record { yields = tokens_of_class written; levels_of = depth_of_class; Good = Made (Parts is_named) make_class }) (classes text is_named c) n n (λ _ _. true) (λ _ _. true)
      (made make_class 0 (both (token text k.Class) (both (own_name text is_named) (both (read.heritage text values heads items c n) body_reader))))
      (plain_rule text (Parts is_named) (tokens_of_class written) depth_of_class n n (λ _ _. true) (λ _ _. true) make_class (both (token text k.Class) (both (own_name text is_named) (both (read.heritage text values heads items c n) body_reader)))
      (lead_rule text (pairs (own_names is_named) Tail) n k.Class (λ _ _. true) (both (own_name text is_named) (both (read.heritage text values heads items c n) body_reader)) refl
      (both_rule text (own_names is_named) Tail n n (λ _. follows) (λ _ _. true) (λ _ _. true) (own_name text is_named) (both (read.heritage text values heads items c n) body_reader)
      (own_name_rule text n follows (λ t h. follows_apart t.kind h) is_named) tail_rule (λ a d t h. refl) (λ a d i j ga gd h stop. tail_follows d i j gd h)))
      (λ p. tokens_Class written p.0 p.1.0 p.1.1.0 p.1.1.1.0 p.1.1.1.1.0 p.1.1.1.1.1) (λ p. levels_Class p.0 p.1.0 p.1.1.0 p.1.1.1.0 p.1.1.1.1.0 p.1.1.1.1.1 ∙ class_levels (depth_of_heritage p.1.1.0) (most (map depth_of_class_element p.1.1.1.1.0))) (λ x t h. refl))
      refl refl (there is_named) (back is_named) (λ x t good h. refl)

pub class_rule : ClassRule
class_rule text values heads items is_named c n r b l = class_read text values heads items c n r b l is_named
