-- Members, calls, `new` and optional chains are read exactly.
use Rattle.std.proofs.Common.{◌≡◌, ℕ, zero, suc, ◌+◌, ◌⊎◌, inl, inr, max, Bool, true, false, not, ◌&&◌, ◌||◌, List, [], ◌∷◌, refl, ap, sym, ◌∙◌, subst, append-nil, arith}
use Rattle.std.specs.Prelude.{codes}
use Rattle.std.specs.List.{flat_map, AllByRecursion}
use Rattle.esb_token.specs.declared.kind.Kind.{Kind}
use Rattle.esb_token.specs.declared.kind.Kind.TheVariants as k
use Rattle.esb_token.specs.declared.token.Token.{Token}
use Rattle.esb_token.specs.declared.goal.Goal.TheVariants as goal
use Rattle.esb_token.specs.Tokens.{SpelledBetween}
use Rattle.esb_tree.specs.declared.expressions.Expression.{Expression, out-Expression, out-roll-Expression}
use Rattle.esb_tree.specs.declared.expressions.Expression.TheVariants as e
use Rattle.esb_tree.specs.declared.expressions.Link.{Link}
use Rattle.esb_tree.specs.declared.expressions.Substitutions.{Substitutions}
use Rattle.esb_tree.specs.declared.patterns.Bracketed.{Bracketed}
use Rattle.esb_tree.specs.Levels.{depth_of_expression, depth_of_link, depth_of_bracketed}
use Rattle.esb_tree.specs.Trees.{written}
use Rattle.esb_tree.specs.Yields.{tokens_of_expression, tokens_of_link}
use Rattle.esb_tree.proofs.TokenLines.{tokens_Primary, tokens_MetaProperty, tokens_New, tokens_NewPlain, tokens_ImportCall, tokens_Member}
use Rattle.esb_tree.proofs.LevelLines.{levels_Primary, levels_MetaProperty, levels_New, levels_NewPlain, levels_ImportCall, levels_Member}
use Rattle.esb_grammar.specs.declared.context.Context.{Context}
use Rattle.esb_grammar.specs.declared.form.Form.TheVariants as f
use Rattle.esb_grammar.specs.Contexts.{inside}
use Rattle.esb_grammar.specs.Edges.{follows_super}
use Rattle.esb_grammar.specs.Grammar.{IsPrimary, identifier_reference, literal, array_literal, object_literal, parenthesized, template_literal, function_expression, class_expression, IsAssignment, IsOrigin, primary_expression, new_target, import_meta, new_with_arguments, import_call, IsAccess, origin, member, super_member, AreLinks, IsLink, IsNew, member_expression, new_expression, IsLeftHandSide, access, new_without_arguments}
use Rattle.esb_tree.specs.declared.classes.ClassElement.TheOpen.{Expression-F}
use Rattle.esb_grammar.proofs.Shapes.{Layer}
use Rattle.esb_grammar.specs.Kinds.{is_name, is_function, is_reference}
use Rattle.esb_grammar.specs.Words.{is_word}
use Rattle.esb_reader.specs.declared.node.Node.{Node}
use Rattle.esb_reader.specs.Kinds.{agrees}
use Rattle.esb_reader.specs.Places.{Text}
use Rattle.esb_reader.specs.Reader.{Reader, fail}
use Rattle.esb_reader.specs.Parts.{behind, both, token, token_in, made, such, choice, empty}
use Rattle.esb_reader.specs.Stands.{Syntax, Rule, Made, tokens, tokens_in, pairs, row, which, last_stops, list_stops}
use Rattle.esb_reading_laws.proofs.Composed.{token_rule, token_in_rule, both_rule, plain_rule, such_rule, above_rule, choice_rule, empty_rule, same_rule}
use Rattle.esb_reading_laws.proofs.Steps.{spelled_split}
use Rattle.esb_expression_laws.specs.Laws.{lists}
use Rattle.esb_expression_laws.specs.Leaves.{expressions, is_leaf}
use Rattle.esb_operator_laws.specs.Forks.{fork, forks, fork_stops}
use Rattle.esb_operator_laws.specs.Suffixes.{extended, WithSuffix}
use Rattle.esb_operator_laws.proofs.Forking.{fork_rule}
use Rattle.esb_operator_laws.proofs.Suffixing.{extended_rule}
use Rattle.esb_operator_laws.proofs.Below.{none_below, rule_below}
use Rattle.esb_operator_laws.proofs.TokenTests.{and_left, and_right, and_both, or_left, or_right, neither, neither_left, neither_right, not_true, false_not}
use Rattle.esb_first_tokens.specs.First.{begins_primary, begins_left, shows}
use Rattle.esb_first_tokens.proofs.Seen.{primary_shows, new_shows}
use Rattle.esb_access_laws.specs.Links.{is_dot, is_left_parenthesis, begins_member, begins_link_in, templates_fit, links}
use Rattle.esb_access_laws.specs.Access as read
use Rattle.esb_access_laws.specs.Access.{is_new, is_import, is_super, new_layer, is_new_alone, super_word_layer, is_super_word, ends_access, make_new, new_fits, make_import, import_fits, first_follows, links_fit}
use Rattle.esb_access_laws.specs.Laws.{is_right_parenthesis, ends_primary, ReadsParts, AccessRule}
use Rattle.esb_access_laws.proofs.FirstKinds.{First, first_of, kind_seen, token_seen}
use Rattle.esb_access_laws.proofs.LinkRules.{arguments_first, links_rule, link_starts, links_of, all_links}

-- ---- kinds

name_kind : (kind : Kind) → is_name kind ≡ true → kind ≡ k.Name
name_kind k.Name h = refl
name_kind _ h = cc

word_kind : (text word : Text) (t : Token) → is_word text word t ≡ true → t.kind ≡ k.Name
unfolding is_word
word_kind text word t h = name_kind t.kind (and_left _ _ h)

link_no_function : (calls : Bool) (kind : Kind) → begins_link_in calls kind ≡ true → is_function kind ≡ false
link_no_function true k.Function h = cc
link_no_function true _ h = refl
link_no_function false k.Function h = cc
link_no_function false _ h = refl

-- what a primary expression shows
primary_no_word : (c : Context) (kind : Kind) → shows (begins_primary c) kind ≡ true → ((is_new kind || is_import kind) || is_super kind) ≡ false
primary_no_word c k.New h = cc
primary_no_word c k.Import h = cc
primary_no_word c k.Super h = cc
primary_no_word c _ h = refl

-- a member of a shorter chain goes on with one of a longer one
member_link : (calls : Bool) (kind : Kind) → begins_link_in calls kind ≡ false → begins_member kind ≡ false
member_link false kind h = h
member_link true k.Dot h = cc
member_link true k.LeftBracket h = cc
member_link true k.TemplateWhole h = cc
member_link true k.TemplateHead h = cc
member_link true _ h = refl

-- ---- the outside of nodes

new_alone : (word : Token) (callee : Expression) → is_new_alone (e.NewPlain word callee) ≡ true
unfolding is_new_alone out-Expression denote.Hole.Carrier.out
new_alone word callee = refl

leaf_no_super : (c : Context) (kind : Kind) → is_leaf c kind ≡ true → is_super kind ≡ false
leaf_no_super c k.Super h = cc
leaf_no_super c _ h = refl

module _ {text : Text} where
  primary_alone : {c : Context} {x : Expression} → IsPrimary text c x → is_new_alone x ≡ false
  unfolding is_new_alone out-Expression denote.Hole.Carrier.out
  primary_alone (identifier_reference h) = refl
  primary_alone (literal h) = refl
  primary_alone (array_literal h) = refl
  primary_alone (object_literal h) = refl
  primary_alone (parenthesized h) = refl
  primary_alone (template_literal h) = refl
  primary_alone (function_expression h) = refl
  primary_alone (class_expression h) = refl

  access_alone : {calls : Bool} {c : Context} {x : Expression} → IsAccess text calls c x → is_new_alone x ≡ false
  unfolding is_new_alone out-Expression denote.Hole.Carrier.out
  access_alone (origin (primary_expression h)) = primary_alone h
  access_alone (origin (new_target h1 h2 h3)) = refl
  access_alone (origin (import_meta h1 h2 h3)) = refl
  access_alone (origin (new_with_arguments h1 h2 h3)) = refl
  access_alone (origin (import_call h1 h2 h3 h4)) = refl
  access_alone (member object first rest h1 h2) = refl
  access_alone (super_member word first rest h1 h2 h3) = refl

  callee_access : {c : Context} {x : Expression} → IsNew text c x → is_new_alone x ≡ false → IsAccess text false c x
  callee_access (member_expression h) alone = h
  callee_access (new_expression {word = word} {callee = callee} h1 h2) alone = let bad : true ≡ false = sym (new_alone word callee) ∙ alone in cc

  primary_no_super : {c : Context} {x : Expression} → IsPrimary text c x → is_super_word x ≡ false
  unfolding is_super_word out-Expression denote.Hole.Carrier.out
  primary_no_super {c} (identifier_reference {t = t} h) = leaf_no_super c t.kind (or_left _ _ h)
  primary_no_super {c} (literal {t = t} h) = leaf_no_super c t.kind (or_right (is_reference c t.kind) _ h)
  primary_no_super (array_literal h) = refl
  primary_no_super (object_literal h) = refl
  primary_no_super (parenthesized h) = refl
  primary_no_super (template_literal h) = refl
  primary_no_super (function_expression h) = refl
  primary_no_super (class_expression h) = refl

  access_no_super : {calls : Bool} {c : Context} {x : Expression} → IsAccess text calls c x → is_super_word x ≡ false
  unfolding is_super_word out-Expression denote.Hole.Carrier.out
  access_no_super (origin (primary_expression h)) = primary_no_super h
  access_no_super (origin (new_target h1 h2 h3)) = refl
  access_no_super (origin (import_meta h1 h2 h3)) = refl
  access_no_super (origin (new_with_arguments h1 h2 h3)) = refl
  access_no_super (origin (import_call h1 h2 h3 h4)) = refl
  access_no_super (member object first rest h1 h2) = refl
  access_no_super (super_member word first rest h1 h2 h3) = refl

super_word_is : (t : Token) → is_super_word (e.Primary t) ≡ is_super t.kind
unfolding is_super_word out-Expression denote.Hole.Carrier.out
super_word_is t = refl

new_no_super : (word : Token) (callee : Expression) → is_super_word (e.NewPlain word callee) ≡ false
unfolding is_super_word out-Expression denote.Hole.Carrier.out
new_no_super word callee = refl

super_is : (kind : Kind) → is_super kind ≡ true → kind ≡ k.Super
super_is k.Super h = refl
super_is _ h = cc

-- ---- what ends what a chain begins with

abbrev new_ends_layer : Layer → Token → Bool
new_ends_layer (Expression-F.New word callee arguments) t = not (is_new_alone callee)
new_ends_layer (Expression-F.NewPlain word callee) t = ends_access false callee t && not (is_left_parenthesis t.kind)
new_ends_layer _ t = true

abbrev new_ends : Expression → Token → Bool
new_ends x t = new_ends_layer (out-Expression x) t

ends_New : (word : Token) (callee : Expression) (list : Bracketed) (t : Token) → new_ends (e.New word callee list) t ≡ not (is_new_alone callee)
ends_New word callee list t = ap (λ l. new_ends_layer l t) (ap out-Expression (sym (e.rolls-New word callee list)) ∙ out-roll-Expression (Expression-F.New word callee list))

ends_NewPlain : (word : Token) (callee : Expression) (t : Token) → new_ends (e.NewPlain word callee) t ≡ (ends_access false callee t && not (is_left_parenthesis t.kind))
ends_NewPlain word callee t = ap (λ l. new_ends_layer l t) (ap out-Expression (sym (e.rolls-NewPlain word callee)) ∙ out-roll-Expression (Expression-F.NewPlain word callee))

abbrev start_ends : Expression → Token → Bool
start_ends x t = ends_primary t && new_ends x t

-- behind a callee that has no arguments a list of them is its own
parenthesis_ends : (alone l : Bool) (kind : Kind) → kind ≡ k.LeftParenthesis → not alone ≡ true → not ((begins_member kind || (is_function kind && l)) || (alone && is_left_parenthesis kind)) ≡ true
parenthesis_ends true l kind is h = cc
parenthesis_ends false l kind is h = ap (λ m. not ((begins_member m || (is_function m && l)) || false)) is

abbrev callee_stops : Expression × (Bracketed ⊎ Unit {0}) → Token → Bool
callee_stops (x, inl list) t = not (is_new_alone x)
callee_stops (x, inr u) t = ends_access false x t && not (is_left_parenthesis t.kind)

left_no_dot : (c : Context) (kind : Kind) → shows (begins_left c) kind ≡ true → is_dot kind ≡ false
left_no_dot c k.Dot h = cc
left_no_dot c _ h = refl

module _ (text : Text) (c : Context) where
  abbrev Arguments : Syntax Bracketed
  Arguments = lists text f.Arguments c

  abbrev Nothing : Syntax (Unit {0})
  Nothing = record { yields = λ _. []; levels_of = λ _. 0; Good = λ x. x ≡ tt }

  abbrev Words : List ℕ → Syntax (Token × Token)
  Words word = pairs (tokens k.Dot) (tokens_in (is_word text word))

  abbrev Callees : Syntax (Expression × (Bracketed ⊎ Unit {0}))
  Callees = pairs (expressions (IsNew text c)) (forks Arguments Nothing)

  abbrev NewParts : Syntax (Token × ((Token × Token) ⊎ (Expression × (Bracketed ⊎ Unit {0}))))
  NewParts = pairs (tokens k.New) (forks (Words (codes "target")) Callees)

  abbrev News : Syntax (Token × ((Token × Token) ⊎ (Expression × (Bracketed ⊎ Unit {0}))))
  News = which NewParts (λ p. NewParts.Good p × (new_fits p ≡ true))

  abbrev IsNewMade : Expression → Type 0
  IsNewMade = Made News make_new

  abbrev Imported : Syntax ((Token × Expression) × Token)
  Imported = pairs (pairs (tokens k.LeftParenthesis) (expressions (IsAssignment text (inside c)))) (tokens k.RightParenthesis)

  abbrev ImportParts : Syntax (Token × ((Token × Token) ⊎ ((Token × Expression) × Token)))
  ImportParts = pairs (tokens k.Import) (forks (Words (codes "meta")) Imported)

  abbrev Imports : Bool → Syntax (Token × ((Token × Token) ⊎ ((Token × Expression) × Token)))
  Imports calls = which ImportParts (λ p. ImportParts.Good p × (import_fits calls p ≡ true))

  abbrev IsImportMade : Bool → Expression → Type 0
  IsImportMade calls = Made (Imports calls) make_import

  abbrev IsSuper : Expression → Type 0
  IsSuper = Made (tokens k.Super) e.Primary

  abbrev IsStart : Bool → Expression → Type 0
  IsStart calls x = IsNewMade x ⊎ (IsImportMade calls x ⊎ (IsSuper x ⊎ IsPrimary text c x))

  -- ---- tokens and levels

  new_tokens : (p : Token × ((Token × Token) ⊎ (Expression × (Bracketed ⊎ Unit {0})))) → tokens_of_expression written (make_new p) ≡ NewParts.yields p
  new_tokens (word, inl q) = tokens_MetaProperty written word q.0 q.1
  new_tokens (word, inr (x, inl list)) = tokens_New written word x list
  new_tokens (word, inr (x, inr u)) = tokens_NewPlain written word x ∙ ap (λ ts. word ∷ ts) (sym (append-nil (tokens_of_expression written x)))

  new_levels : (p : Token × ((Token × Token) ⊎ (Expression × (Bracketed ⊎ Unit {0})))) → depth_of_expression (make_new p) ≡ NewParts.levels_of p + 1
  new_levels (word, inl q) = levels_MetaProperty word q.0 q.1
  new_levels (word, inr (x, inl list)) = levels_New word x list ∙ (let e : max (depth_of_expression x) (depth_of_bracketed list) + 1 ≡ max 0 (max (depth_of_expression x) (depth_of_bracketed list)) + 1 = omega arith in e)
  new_levels (word, inr (x, inr u)) = levels_NewPlain word x ∙ (let e : depth_of_expression x + 1 ≡ max 0 (max (depth_of_expression x) 0) + 1 = omega arith in e)

  new_stops : (p : Token × ((Token × Token) ⊎ (Expression × (Bracketed ⊎ Unit {0})))) (t : Token) → new_ends (make_new p) t ≡ true → fork_stops {A = Token × Token} (λ _ _. true) callee_stops p.1 t ≡ true
  new_stops (word, inl q) t h = refl
  new_stops (word, inr (x, inl list)) t h = sym (ends_New word x list t) ∙ h
  new_stops (word, inr (x, inr u)) t h = sym (ends_NewPlain word x t) ∙ h

  import_tokens : (p : Token × ((Token × Token) ⊎ ((Token × Expression) × Token))) → tokens_of_expression written (make_import p) ≡ ImportParts.yields p
  import_tokens (word, inl q) = tokens_MetaProperty written word q.0 q.1
  import_tokens (word, inr q) = tokens_ImportCall written word q.0.0 q.0.1 q.1

  import_levels : (p : Token × ((Token × Token) ⊎ ((Token × Expression) × Token))) → depth_of_expression (make_import p) ≡ ImportParts.levels_of p + 1
  import_levels (word, inl q) = levels_MetaProperty word q.0 q.1
  import_levels (word, inr q) = levels_ImportCall word q.0.0 q.0.1 q.1 ∙ (let e : depth_of_expression q.0.1 + 1 ≡ max 0 (max (max 0 (depth_of_expression q.0.1)) 0) + 1 = omega arith in e)

  -- ---- first tokens

  new_first : (x : Expression) → IsNewMade x → First k.New (tokens_of_expression written x)
  new_first x h = first_of k.New h.0.0 _ _ (ap (tokens_of_expression written) h.1 ∙ new_tokens h.0) h.2.0.0

  import_first : (calls : Bool) (x : Expression) → IsImportMade calls x → First k.Import (tokens_of_expression written x)
  import_first calls x h = first_of k.Import h.0.0 _ _ (ap (tokens_of_expression written) h.1 ∙ import_tokens h.0) h.2.0.0

  super_first : (x : Expression) → IsSuper x → First k.Super (tokens_of_expression written x)
  super_first x h = first_of k.Super h.0 _ _ (ap (tokens_of_expression written) h.1 ∙ tokens_Primary written h.0) h.2

  word_agrees : (word : List ℕ) (t : Token) → is_word text word t ≡ true → agrees goal.Div t.kind ≡ true
  word_agrees word t h = ap (agrees goal.Div) (word_kind text word t h)

  words_rule : (n : ℕ) (word : List ℕ) → Rule text (Words word) n n (λ _ _. true) (both (token text k.Dot) (token_in text goal.Div (is_word text word)))
  words_rule n word =
      both_rule text (tokens k.Dot) (tokens_in (is_word text word)) n n (λ _ _. true) (λ _ _. true) (λ _ _. true) (token text k.Dot) (token_in text goal.Div (is_word text word)) (token_rule text n n k.Dot refl) (token_in_rule text n n goal.Div (is_word text word) (word_agrees word)) (λ a b t h. refl) (λ a b m j ga gb h stop. refl)

  words_seen : (word : List ℕ) (p : Token × Token) (i j : ℕ) → (Words word).Good p → SpelledBetween text i ((Words word).yields p) j → is_dot (behind text i).kind ≡ true
  words_seen word p i j good h = ap is_dot (kind_seen text k.Dot (p.0 ∷ p.1 ∷ []) i j (first_of k.Dot p.0 (p.1 ∷ []) (p.0 ∷ p.1 ∷ []) refl good.0) refl h)

  module _ (n : ℕ) (primary : Reader (Node Expression)) (arguments : Reader (Node Bracketed)) (template : Reader (Node Substitutions)) (values value : Reader (Node Expression)) (r : ReadsParts text c n primary arguments template values value)
      (callee : Reader (Node Expression)) (callee_rule : Rule text (expressions (IsNew text c)) n n (ends_access false) callee) where
    abbrev tail : Reader (Node (Bracketed ⊎ Unit {0}))
    tail = fork text (λ t. is_left_parenthesis t.kind) arguments (empty tt)

    tail_rule : Rule text (forks Arguments Nothing) n n (fork_stops (λ _ _. true) (λ _ t. not (is_left_parenthesis t.kind))) tail
    tail_rule =
        fork_rule text Arguments Nothing n n (λ _ _. true) (λ _ t. not (is_left_parenthesis t.kind)) (λ t. is_left_parenthesis t.kind) arguments (empty tt) r.lists_of
        (empty_rule text (λ _. []) (λ _. 0) n n (λ _ t. not (is_left_parenthesis t.kind)) tt refl refl)
        (λ a i j good h. ap is_left_parenthesis (kind_seen text k.LeftParenthesis _ i j (arguments_first text c a good) refl h))
        (λ b i j good h stop. let here : i ≡ j = h in ap (λ m. is_left_parenthesis (behind text m).kind) here ∙ not_true _ stop)

    tail_ends : (x : Expression) (b : Bracketed ⊎ Unit {0}) (t : Token) → callee_stops (x, b) t ≡ true → fork_stops {A = Bracketed} {B = Unit {0}} (λ _ _. true) (λ _ t. not (is_left_parenthesis t.kind)) b t ≡ true
    tail_ends x (inl list) t h = refl
    tail_ends x (inr u) t h = and_right (ends_access false x t) _ h

    callee_ends : (x : Expression) (b : Bracketed ⊎ Unit {0}) (m j : ℕ) → (forks Arguments Nothing).Good b → SpelledBetween text m ((forks Arguments Nothing).yields b) j → callee_stops (x, b) (behind text j) ≡ true → ends_access false x (behind text m) ≡ true
    callee_ends x (inl list) m j good h stop = parenthesis_ends (is_new_alone x) (not (behind text m).after_line) (behind text m).kind (kind_seen text k.LeftParenthesis _ m j (arguments_first text c list good) refl h) stop
    callee_ends x (inr u) m j good h stop = let here : m ≡ j = h in ap (λ i. ends_access false x (behind text i)) here ∙ and_left _ _ stop

    callees_rule : Rule text Callees n n callee_stops (both callee tail)
    callees_rule = both_rule text (expressions (IsNew text c)) (forks Arguments Nothing) n n (ends_access false) (fork_stops (λ _ _. true) (λ _ t. not (is_left_parenthesis t.kind))) callee_stops callee tail callee_rule tail_rule tail_ends (λ x b m j ga gb h stop. callee_ends x b m j gb h stop)

    callee_no_dot : (p : Expression × (Bracketed ⊎ Unit {0})) (i j : ℕ) → Callees.Good p → SpelledBetween text i (Callees.yields p) j → is_dot (behind text i).kind ≡ false
    callee_no_dot p i j good h =
        let cut = spelled_split text i (tokens_of_expression written p.0) _ j h in
        left_no_dot c (behind text i).kind (new_shows text c p.0 i cut.0 good.0 cut.1)

    new_rule : Rule text (expressions IsNewMade) n (suc n) new_ends (read.new_expression text n primary arguments template values value callee)
    unfolding read.new_expression
    new_rule =
        above_rule text News (tokens_of_expression written) depth_of_expression n n (λ p. fork_stops (λ _ _. true) callee_stops p.1) new_ends make_new _
        (such_rule text NewParts n n (λ p. fork_stops (λ _ _. true) callee_stops p.1) new_fits _
        (both_rule text (tokens k.New) (forks (Words (codes "target")) Callees) n n (λ _ _. true) (fork_stops (λ _ _. true) callee_stops) (λ p. fork_stops (λ _ _. true) callee_stops p.1) (token text k.New) _ (token_rule text n n k.New refl)
        (fork_rule text (Words (codes "target")) Callees n n (λ _ _. true) callee_stops (λ t. is_dot t.kind) _ (both callee tail) (words_rule n (codes "target")) callees_rule (words_seen (codes "target")) (λ b i j good h stop. callee_no_dot b i j good h))
        (λ a b t h. h) (λ a b m j ga gb h stop. refl)))
        (omega arith) new_tokens new_levels new_stops

    imported_rule : Rule text Imported n n (λ _ _. true) (both (both (token text k.LeftParenthesis) value) (token text k.RightParenthesis))
    imported_rule =
        both_rule text (pairs (tokens k.LeftParenthesis) (expressions (IsAssignment text (inside c)))) (tokens k.RightParenthesis) n n (λ _ t. is_right_parenthesis t.kind) (λ _ _. true) (λ _ _. true) (both (token text k.LeftParenthesis) value) (token text k.RightParenthesis)
        (both_rule text (tokens k.LeftParenthesis) (expressions (IsAssignment text (inside c))) n n (λ _ _. true) (λ _ t. is_right_parenthesis t.kind) (λ _ t. is_right_parenthesis t.kind) (token text k.LeftParenthesis) value (token_rule text n n k.LeftParenthesis refl) r.imported (λ a b t h. h) (λ a b m j ga gb h stop. refl))
        (token_rule text n n k.RightParenthesis refl) (λ a b t h. refl)
        (λ a b m j ga gb h stop. ap (λ (t : Token). is_right_parenthesis t.kind) (token_seen text b [] m j (ap (agrees goal.Div) gb) h) ∙ ap is_right_parenthesis gb)

    all_stop : (b : (Token × Token) ⊎ ((Token × Expression) × Token)) (t : Token) → fork_stops {A = Token × Token} {B = (Token × Expression) × Token} (λ _ _. true) (λ _ _. true) b t ≡ true
    all_stop (inl p) t = refl
    all_stop (inr p) t = refl

    import_rule : (calls : Bool) → Rule text (expressions (IsImportMade calls)) n (suc n) (λ _ _. true) (read.import_expression text n primary arguments template values value calls)
    unfolding read.import_expression
    import_rule calls =
        above_rule text (Imports calls) (tokens_of_expression written) depth_of_expression n n (λ _ _. true) (λ _ _. true) make_import _
        (such_rule text ImportParts n n (λ _ _. true) (import_fits calls) _
        (both_rule text (tokens k.Import) (forks (Words (codes "meta")) Imported) n n (λ _ _. true) (fork_stops (λ _ _. true) (λ _ _. true)) (λ _ _. true) (token text k.Import) _ (token_rule text n n k.Import refl)
        (fork_rule text (Words (codes "meta")) Imported n n (λ _ _. true) (λ _ _. true) (λ t. is_dot t.kind) _ _ (words_rule n (codes "meta")) imported_rule (words_seen (codes "meta")) (λ p i j good h stop. ap is_dot (kind_seen text k.LeftParenthesis _ i j (first_of k.LeftParenthesis p.0.0 _ _ refl good.0.0) refl h)))
        (λ a b t h. all_stop b t) (λ a b m j ga gb h stop. refl)))
        (omega arith) import_tokens import_levels (λ p t h. refl)

    super_rule : Rule text (expressions IsSuper) n (suc n) (λ _ _. true) (made e.Primary 0 (token text k.Super))
    super_rule = plain_rule text (tokens k.Super) (tokens_of_expression written) depth_of_expression n (suc n) (λ _ _. true) (λ _ _. true) e.Primary (token text k.Super) (token_rule text n (suc n) k.Super refl) (λ t. tokens_Primary written t) levels_Primary (λ a t h. refl)

    -- ---- what a chain begins with

    no_word : (x : Expression) (i j : ℕ) → IsPrimary text c x → SpelledBetween text i (tokens_of_expression written x) j → ((is_new (behind text i).kind || is_import (behind text i).kind) || is_super (behind text i).kind) ≡ false
    no_word x i j good h = primary_no_word c (behind text i).kind (primary_shows text c x i j good h)

    super_not : (x : Expression) (i j : ℕ) → IsPrimary text c x → SpelledBetween text i (tokens_of_expression written x) j → is_super (behind text i).kind ≡ false
    super_not x i j good h = neither_right _ _ (no_word x i j good h)

    import_not : (x : Expression) (i j : ℕ) → IsSuper x ⊎ IsPrimary text c x → SpelledBetween text i (tokens_of_expression written x) j → is_import (behind text i).kind ≡ false
    import_not x i j (inl good) h = ap is_import (kind_seen text k.Super _ i j (super_first x good) refl h)
    import_not x i j (inr good) h = neither_right _ _ (neither_left _ _ (no_word x i j good h))

    new_not : (calls : Bool) (x : Expression) (i j : ℕ) → IsImportMade calls x ⊎ (IsSuper x ⊎ IsPrimary text c x) → SpelledBetween text i (tokens_of_expression written x) j → is_new (behind text i).kind ≡ false
    new_not calls x i j (inl good) h = ap is_new (kind_seen text k.Import _ i j (import_first calls x good) refl h)
    new_not calls x i j (inr (inl good)) h = ap is_new (kind_seen text k.Super _ i j (super_first x good) refl h)
    new_not calls x i j (inr (inr good)) h = neither_left _ _ (neither_left _ _ (no_word x i j good h))

    weaker : (Good : Expression → Type 0) (stops : Expression → Token → Bool) (p : Reader (Node Expression)) → Rule text (expressions Good) n (suc n) stops p → ((x : Expression) (t : Token) → Good x → start_ends x t ≡ true → stops x t ≡ true) → Rule text (expressions Good) n (suc n) start_ends p
    weaker Good stops p rule fewer = same_rule text (expressions Good) (expressions Good) n (suc n) stops start_ends p rule refl refl (λ x h. h) (λ x h. h) fewer

    start_rule : (calls : Bool) → Rule text (expressions (IsStart calls)) n (suc n) start_ends (read.origin text n primary arguments template values value calls callee)
    unfolding read.origin
    start_rule calls =
        let S = expressions (λ x. Unit {0}) in
        let q2 = choice text (λ t. is_super t.kind) (made e.Primary 0 (token text k.Super)) primary in
        let q1 = choice text (λ t. is_import t.kind) (read.import_expression text n primary arguments template values value calls) q2 in
        choice_rule text S IsNewMade (λ x. IsImportMade calls x ⊎ (IsSuper x ⊎ IsPrimary text c x)) n (suc n) start_ends (λ t. is_new t.kind) (read.new_expression text n primary arguments template values value callee) q1
        (weaker IsNewMade new_ends _ new_rule (λ x t good h. and_right (ends_primary t) _ h))
        (choice_rule text S (IsImportMade calls) (λ x. IsSuper x ⊎ IsPrimary text c x) n (suc n) start_ends (λ t. is_import t.kind) (read.import_expression text n primary arguments template values value calls) q2
        (weaker (IsImportMade calls) (λ _ _. true) _ (import_rule calls) (λ x t good h. refl))
        (choice_rule text S IsSuper (IsPrimary text c) n (suc n) start_ends (λ t. is_super t.kind) (made e.Primary 0 (token text k.Super)) primary
        (weaker IsSuper (λ _ _. true) _ super_rule (λ x t good h. refl)) (weaker (IsPrimary text c) (λ _. ends_primary) primary r.primaries (λ x t good h. and_left _ _ h))
        (λ x i j good h. ap is_super (kind_seen text k.Super _ i j (super_first x good) refl h)) (λ x i j good h stop. super_not x i j good h))
        (λ x i j good h. ap is_import (kind_seen text k.Import _ i j (import_first calls x good) refl h)) (λ x i j good h stop. import_not x i j good h))
        (λ x i j good h. ap is_new (kind_seen text k.New _ i j (new_first x good) refl h)) (λ x i j good h stop. new_not calls x i j good h)

  -- ---- the families

  abbrev Links : Bool → Syntax Link
  Links calls = record { yields = tokens_of_link written; levels_of = depth_of_link; Good = IsLink text calls false c }

  abbrev Behind : Bool → Expression → Syntax (List Link)
  Behind calls x = which (row (Links calls)) (λ ls. AllByRecursion (IsLink text calls false c) ls × (links_fit x ls ≡ true))

  abbrev Chains : Bool → Expression → Type 0
  Chains calls = WithSuffix (Behind calls) (IsStart calls) (λ x. not (is_new_alone x)) e.Member

  abbrev Left : Bool → Expression → Type 0
  Left true x = IsLeftHandSide text c x
  Left false x = IsNew text c x

  from_access : (calls : Bool) (x : Expression) → IsAccess text calls c x → Left calls x
  from_access true x h = access h
  from_access false x h = member_expression h

  from_new : (calls : Bool) (word : Token) (callee : Expression) → word.kind ≡ k.New → IsNew text c callee → Left calls (e.NewPlain word callee)
  from_new true word callee is h = new_without_arguments is h
  from_new false word callee is h = new_expression is h

  start_of : (calls : Bool) (x : Expression) → IsOrigin text calls c x → IsStart calls x
  start_of calls x (primary_expression h) = inr (inr (inr h))
  start_of calls x (new_target {word = word} {dot = dot} {name = name} h1 h2 h3) = inl ((word, inl (dot, name)), refl, ((h1, (h2, h3)), refl))
  start_of calls x (import_meta {word = word} {dot = dot} {name = name} h1 h2 h3) = inr (inl ((word, inl (dot, name)), refl, ((h1, (h2, h3)), refl)))
  start_of calls x (new_with_arguments {word = word} {callee = callee} {arguments = list} h1 h2 h3) = inl ((word, inr (callee, inl list)), refl, ((h1, (member_expression h2, h3)), false_not _ (access_alone h2)))
  start_of calls x (import_call {word = word} {begin = begin} {x = y} {ending = ending} h1 h2 h3 h4) = inr (inl ((word, inr ((begin, y), ending)), refl, ((h1, ((h2, h3), h4)), refl)))

  new_made_super : (p : Token × ((Token × Token) ⊎ (Expression × (Bracketed ⊎ Unit {0})))) → is_super_word (make_new p) ≡ false
  unfolding is_super_word out-Expression denote.Hole.Carrier.out
  new_made_super (word, inl q) = refl
  new_made_super (word, inr (x, inl list)) = refl
  new_made_super (word, inr (x, inr u)) = refl

  import_made_super : (p : Token × ((Token × Token) ⊎ ((Token × Expression) × Token))) → is_super_word (make_import p) ≡ false
  unfolding is_super_word out-Expression denote.Hole.Carrier.out
  import_made_super (word, inl q) = refl
  import_made_super (word, inr q) = refl

  import_made_alone : (p : Token × ((Token × Token) ⊎ ((Token × Expression) × Token))) → is_new_alone (make_import p) ≡ false
  unfolding is_new_alone out-Expression denote.Hole.Carrier.out
  import_made_alone (word, inl q) = refl
  import_made_alone (word, inr q) = refl

  primary_word_alone : (t : Token) → is_new_alone (e.Primary t) ≡ false
  unfolding is_new_alone out-Expression denote.Hole.Carrier.out
  primary_word_alone t = refl

  both_ways : {A : Type 0} (b : Bool) → b ≡ true → b ≡ false → A
  both_ways true h g = cc
  both_ways false h g = cc

  new_origin : (calls : Bool) (p : Token × ((Token × Token) ⊎ (Expression × (Bracketed ⊎ Unit {0})))) → News.Good p → is_new_alone (make_new p) ≡ false → IsOrigin text calls c (make_new p)
  new_origin calls (word, inl q) good alone = new_target good.0.0 good.0.1.0 good.0.1.1
  new_origin calls (word, inr (x, inl list)) good alone = new_with_arguments good.0.0 (callee_access good.0.1.0 (not_true _ good.1)) good.0.1.1
  new_origin calls (word, inr (x, inr u)) good alone = both_ways (is_new_alone (e.NewPlain word x)) (new_alone word x) alone

  import_origin : (calls : Bool) (p : Token × ((Token × Token) ⊎ ((Token × Expression) × Token))) → (Imports calls).Good p → IsOrigin text calls c (make_import p)
  import_origin calls (word, inl q) good = import_meta good.0.0 good.0.1.0 good.0.1.1
  import_origin true (word, inr q) good = import_call good.0.0 good.0.1.0.0 good.0.1.0.1 good.0.1.1
  import_origin false (word, inr q) good = let bad : false ≡ true = good.1 in cc

  origin_of : (calls : Bool) (x : Expression) → IsStart calls x → is_new_alone x ≡ false → is_super_word x ≡ false → IsOrigin text calls c x
  origin_of calls x (inl h) alone plain = subst (IsOrigin text calls c) (sym h.1) (new_origin calls h.0 h.2 (ap is_new_alone (sym h.1) ∙ alone))
  origin_of calls x (inr (inl h)) alone plain = subst (IsOrigin text calls c) (sym h.1) (import_origin calls h.0 h.2)
  origin_of calls x (inr (inr (inl h))) alone plain = both_ways (is_super_word x) (ap is_super_word h.1 ∙ super_word_is h.0 ∙ ap is_super h.2) plain
  origin_of calls x (inr (inr (inr h))) alone plain = primary_expression h

  new_left : (calls : Bool) (p : Token × ((Token × Token) ⊎ (Expression × (Bracketed ⊎ Unit {0})))) → News.Good p → Left calls (make_new p)
  new_left calls (word, inl q) good = from_access calls _ (origin (new_target good.0.0 good.0.1.0 good.0.1.1))
  new_left calls (word, inr (x, inl list)) good = from_access calls _ (origin (new_with_arguments good.0.0 (callee_access good.0.1.0 (not_true _ good.1)) good.0.1.1))
  new_left calls (word, inr (x, inr u)) good = from_new calls word x good.0.0 good.0.1.0

  alone_left : (calls : Bool) (x : Expression) → IsStart calls x → is_super_word x ≡ false → Left calls x
  alone_left calls x (inl h) plain = subst (Left calls) (sym h.1) (new_left calls h.0 h.2)
  alone_left calls x (inr (inl h)) plain = subst (Left calls) (sym h.1) (from_access calls _ (origin (import_origin calls h.0 h.2)))
  alone_left calls x (inr (inr (inl h))) plain = both_ways (is_super_word x) (ap is_super_word h.1 ∙ super_word_is h.0 ∙ ap is_super h.2) plain
  alone_left calls x (inr (inr (inr h))) plain = from_access calls x (origin (primary_expression h))

  super_chain : (calls : Bool) (x : Expression) (y : Link) (ys : List Link) → IsStart calls x → is_super_word x ≡ true → follows_super y ≡ true → AreLinks text calls false c (y ∷ ys) → IsAccess text calls c (e.Member x (y ∷ ys))
  super_chain calls x y ys (inl h) is follows more = both_ways (is_super_word x) is (ap is_super_word h.1 ∙ new_made_super h.0)
  super_chain calls x y ys (inr (inl h)) is follows more = both_ways (is_super_word x) is (ap is_super_word h.1 ∙ import_made_super h.0)
  super_chain calls x y ys (inr (inr (inl h))) is follows more = subst (λ o. IsAccess text calls c (e.Member o (y ∷ ys))) (sym h.1) (super_member h.0 y ys h.2 follows more)
  super_chain calls x y ys (inr (inr (inr h))) is follows more = both_ways (is_super_word x) is (primary_no_super h)

  chain_of : (calls : Bool) (x : Expression) (ls : List Link) → IsStart calls x → not (is_new_alone x) ≡ true → (Behind calls x).Good ls → IsAccess text calls c (e.Member x ls)
  chain_of calls x [] start alone good = let bad : false ≡ true = good.1 in cc
  chain_of calls x (y ∷ ys) start alone good = by_word (is_super_word x) refl
    where
      by_word : (b : Bool) → is_super_word x ≡ b → IsAccess text calls c (e.Member x (y ∷ ys))
      by_word true is = super_chain calls x y ys start is (second_or _ _ (and_right (templates_fit false (y ∷ ys)) _ good.1) (ap not is)) (links_of text c calls false (y ∷ ys) good.0 (and_left _ _ good.1))
        where
          second_or : (a b : Bool) → (a || b) ≡ true → a ≡ false → b ≡ true
          second_or true b h g = cc
          second_or false b h g = h
      by_word false is = member x y ys (origin_of calls x start (not_true _ alone) is) (links_of text c calls false (y ∷ ys) good.0 (and_left _ _ good.1))

  left_there : (calls : Bool) (x : Expression) → Chains calls x × (not (is_super_word x) ≡ true) → Left calls x
  left_there calls x (inl h, plain) = alone_left calls x h (not_true _ plain)
  left_there calls x (inr s, plain) = subst (Left calls) (sym s.is) (from_access calls _ (chain_of calls s.first s.second s.head s.may s.good))

  origin_alone : (calls : Bool) (x : Expression) → IsOrigin text calls c x → not (is_new_alone x) ≡ true
  origin_alone calls x h = false_not _ (access_alone {calls = calls} (origin h))

  access_back : (calls : Bool) (x : Expression) → IsAccess text calls c x → Chains calls x × (not (is_super_word x) ≡ true)
  access_back calls x (origin h) = (inl (start_of calls x h), false_not _ (access_no_super {calls = calls} (origin h)))
  access_back calls x (member object first rest h more) =
      let all = all_links text c calls false (first ∷ rest) more in
      (inr (record { first = object; second = first ∷ rest; is = refl; head = start_of calls object h; may = origin_alone calls object h; good = (all.0, and_both _ _ all.1 (or_left _ _ (false_not _ (access_no_super {calls = calls} (origin h))))) }), false_not _ (access_no_super {calls = calls} (member object first rest h more)))
  access_back calls x (super_member word first rest is follows more) =
      let all = all_links text c calls false (first ∷ rest) more in
      (inr (record { first = e.Primary word; second = first ∷ rest; is = refl; head = inr (inr (inl (word, refl, is))); may = false_not _ (primary_word_alone word); good = (all.0, and_both _ _ all.1 (or_right (not (is_super_word (e.Primary word))) _ follows)) }), false_not _ (access_no_super {calls = calls} (super_member word first rest is follows more)))

  plain_back : (calls : Bool) (word : Token) (callee : Expression) → word.kind ≡ k.New → IsNew text c callee → Chains calls (e.NewPlain word callee) × (not (is_super_word (e.NewPlain word callee)) ≡ true)
  plain_back calls word callee is h = (inl (inl ((word, inr (callee, inr tt)), refl, ((is, (h, refl)), refl))), false_not _ (new_no_super word callee))

  left_back : (calls : Bool) (x : Expression) → Left calls x → Chains calls x × (not (is_super_word x) ≡ true)
  left_back true x (access h) = access_back true x h
  left_back true x (new_without_arguments {word = word} {callee = callee} is h) = plain_back true word callee is h
  left_back false x (member_expression h) = access_back false x h
  left_back false x (new_expression {word = word} {callee = callee} is h) = plain_back false word callee is h

  -- ---- what ends them

  new_made_ends : (p : Token × ((Token × Token) ⊎ (Expression × (Bracketed ⊎ Unit {0})))) (t : Token) → new_fits p ≡ true → ((word : Token) (callee : Expression) → make_new p ≡ e.NewPlain word callee → new_ends (e.NewPlain word callee) t ≡ true) → new_ends (make_new p) t ≡ true
  unfolding out-Expression denote.Hole.Carrier.out
  new_made_ends (word, inl q) t fits alone = refl
  new_made_ends (word, inr (x, inl list)) t fits alone = ends_New word x list t ∙ fits
  new_made_ends (word, inr (x, inr u)) t fits alone = alone word x refl

  import_made_ends : (p : Token × ((Token × Token) ⊎ ((Token × Expression) × Token))) (t : Token) → new_ends (make_import p) t ≡ true
  unfolding out-Expression denote.Hole.Carrier.out
  import_made_ends (word, inl q) t = refl
  import_made_ends (word, inr q) t = refl

  word_ends : (u t : Token) → new_ends (e.Primary u) t ≡ true
  unfolding out-Expression denote.Hole.Carrier.out
  word_ends u t = refl

  primary_ends : (x : Expression) (t : Token) → IsPrimary text c x → new_ends x t ≡ true
  unfolding out-Expression denote.Hole.Carrier.out
  primary_ends x t (identifier_reference h) = refl
  primary_ends x t (literal h) = refl
  primary_ends x t (array_literal h) = refl
  primary_ends x t (object_literal h) = refl
  primary_ends x t (parenthesized h) = refl
  primary_ends x t (template_literal h) = refl
  primary_ends x t (function_expression h) = refl
  primary_ends x t (class_expression h) = refl

  start_new : (calls : Bool) (x : Expression) (t : Token) → IsStart calls x → ((word : Token) (callee : Expression) → x ≡ e.NewPlain word callee → new_ends (e.NewPlain word callee) t ≡ true) → new_ends x t ≡ true
  start_new calls x t (inl h) alone = subst (λ y. new_ends y t ≡ true) (sym h.1) (new_made_ends h.0 t h.2.1 (λ word callee is. alone word callee (h.1 ∙ is)))
  start_new calls x t (inr (inl h)) alone = subst (λ y. new_ends y t ≡ true) (sym h.1) (import_made_ends h.0 t)
  start_new calls x t (inr (inr (inl h))) alone = subst (λ y. new_ends y t ≡ true) (sym h.1) (word_ends h.0 t)
  start_new calls x t (inr (inr (inr h))) alone = primary_ends x t h

  start_apart : (calls : Bool) (x : Expression) (t : Token) → IsStart calls x → not (is_new_alone x) ≡ true → begins_link_in calls t.kind ≡ true → start_ends x t ≡ true
  start_apart calls x t start alone h =
      and_both _ _ (ap (λ b. not (b && not t.after_line)) (link_no_function calls t.kind h))
      (start_new calls x t start (λ word callee is. both_ways (is_new_alone x) (ap is_new_alone is ∙ new_alone word callee) (not_true _ alone)))

  no_link : (calls : Bool) (x : Expression) (t : Token) → ends_access calls x t ≡ true → begins_link_in calls t.kind ≡ false
  no_link calls x t h = neither_left _ _ (neither_left _ _ (not_true _ h))

  no_function : (calls : Bool) (x : Expression) (t : Token) → ends_access calls x t ≡ true → (is_function t.kind && not t.after_line) ≡ false
  no_function calls x t h = neither_right (begins_link_in calls t.kind) _ (neither_left _ _ (not_true _ h))

  plain_ends : (calls : Bool) (word : Token) (callee : Expression) (t : Token) → ends_access calls (e.NewPlain word callee) t ≡ true → new_ends (e.NewPlain word callee) t ≡ true
  plain_ends calls word callee t h =
      let none : is_left_parenthesis t.kind ≡ false = second_and _ _ (neither_right _ _ (not_true _ h)) (new_alone word callee) in
      ends_NewPlain word callee t ∙ and_both _ _ (false_not _ (neither _ _ (neither _ _ (member_link calls t.kind (no_link calls _ t h)) (no_function calls _ t h)) (and_none (is_new_alone callee) _ none))) (false_not _ none)
    where
      second_and : (a b : Bool) → (a && b) ≡ false → a ≡ true → b ≡ false
      second_and true b h g = h
      second_and false b h g = cc

      and_none : (a b : Bool) → b ≡ false → (a && b) ≡ false
      and_none true b h = h
      and_none false b h = refl

  head_ends : (calls : Bool) (x : Expression) (t : Token) → IsStart calls x → ends_access calls x t ≡ true → start_ends x t ≡ true
  head_ends calls x t start h =
      and_both _ _ (false_not _ (no_function calls x t h)) (start_new calls x t start (λ word callee is. plain_ends calls word callee t (subst (λ y. ends_access calls y t ≡ true) is h)))

  last_always : (ls : List Link) (t : Token) → last_stops (λ _ _. true) ls t ≡ true
  last_always [] t = refl
  last_always (y ∷ []) t = refl
  last_always (y ∷ z ∷ zs) t = last_always (z ∷ zs) t

  module _ (n : ℕ) (primary : Reader (Node Expression)) (arguments : Reader (Node Bracketed)) (template : Reader (Node Substitutions)) (values value : Reader (Node Expression)) (r : ReadsParts text c n primary arguments template values value)
      (callee : Reader (Node Expression)) (callee_rule : Rule text (expressions (IsNew text c)) n n (ends_access false) callee) where
    links_start : (calls : Bool) (x : Expression) (ls : List Link) (i j : ℕ) → (Behind calls x).Good ls → SpelledBetween text i (flat_map (tokens_of_link written) ls) j → begins_link_in calls (behind text i).kind ≡ true
    links_start calls x [] i j good h = let bad : false ≡ true = good.1 in cc
    links_start calls x (y ∷ ys) i j good h =
        let cut = spelled_split text i (tokens_of_link written y) (flat_map (tokens_of_link written) ys) j h in
        link_starts text c n primary arguments template values value r calls y i cut.0 good.0.0 cut.1

    pub accessed_rule : (calls : Bool) → Rule text (expressions (Left calls)) n (suc n) (ends_access calls) (read.accessed text n primary arguments template values value calls (read.origin text n primary arguments template values value calls callee))
    unfolding read.accessed
    accessed_rule calls =
        let start = read.origin text n primary arguments template values value calls callee in
        let more : Expression → Reader (Node (List Link)) = λ x. such (links text arguments template values calls) (links_fit x) in
        let whole = extended text n e.Member (λ t. begins_link_in calls t.kind) (λ x. not (is_new_alone x)) start more in
        same_rule text (expressions (λ x. Chains calls x × (not (is_super_word x) ≡ true))) (expressions (Left calls)) n (suc n) (ends_access calls) (ends_access calls) (such whole (λ x. not (is_super_word x)))
        (such_rule text (expressions (Chains calls)) n (suc n) (ends_access calls) (λ x. not (is_super_word x)) whole
        (extended_rule text n n (expressions (λ x. Unit {0})) (Behind calls) (IsStart calls) (λ x. not (is_new_alone x)) e.Member (λ t. begins_link_in calls t.kind) start_ends (λ x. list_stops (λ _ _. true) (λ t. begins_link_in calls t.kind)) (ends_access calls) start more
        (start_rule n primary arguments template values value r callee callee_rule calls)
        (λ x good may. such_rule text (row (Links calls)) n n (list_stops (λ _ _. true) (λ t. begins_link_in calls t.kind)) (links_fit x) (links text arguments template values calls) (links_rule text c n primary arguments template values value r calls))
        (omega arith)
        (record {
          yields = λ x ls. tokens_Member written x ls;
          levels_of = λ x ls. levels_Member x ls;
          starts = links_start calls;
          head_apart = λ x t good may h. start_apart calls x t good may h;
          head_ends = λ x t good h. head_ends calls x t good h;
          part_ends = λ x ls t good more h. and_both _ _ (last_always ls t) (false_not _ (no_link calls (e.Member x ls) t h));
          none_begins = λ x t good may h. no_link calls x t h;
        })))
        refl refl (left_there calls) (left_back calls) (λ x t good h. h)

  module _ (primary : ℕ → Reader (Node Expression)) (arguments : ℕ → Reader (Node Bracketed)) (template : ℕ → Reader (Node Substitutions)) (values value : ℕ → Reader (Node Expression)) (r : (n : ℕ) → ReadsParts text c n (primary n) (arguments n) (template n) (values n) (value n)) where
    pub left_rule : (n : ℕ) (calls : Bool) → Rule text (expressions (Left calls)) n (suc n) (ends_access calls) (read.left text primary arguments template values value calls n)
    unfolding read.left
    left_rule zero calls = accessed_rule zero (primary zero) (arguments zero) (template zero) (values zero) (value zero) (r zero) fail (none_below text (expressions (IsNew text c)) (ends_access false)) calls
    left_rule (suc n) calls = accessed_rule (suc n) (primary (suc n)) (arguments (suc n)) (template (suc n)) (values (suc n)) (value (suc n)) (r (suc n)) (read.left text primary arguments template values value false n) (rule_below text (expressions (IsNew text c)) n (ends_access false) (read.left text primary arguments template values value false n) (left_rule n false)) calls

pub access_rule : AccessRule
access_rule text c primary arguments template values value r n = (left_rule text c primary arguments template values value r n true, left_rule text c primary arguments template values value r n false)
