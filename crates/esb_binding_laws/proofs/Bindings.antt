-- What a declaration binds, with a value or without, is read exactly.
use Rattle.std.proofs.Common.{◌≡◌, ◌⊎◌, inl, inr, ℕ, suc, ◌+◌, ◌<◌, max, Bool, true, false, not, ◌&&◌, ◌||◌, if◌then◌else◌, List, [], ◌∷◌, ◌++◌, Some, refl, ap, sym, ◌∙◌, subst, arith}
use Rattle.esb_token.specs.declared.kind.Kind.{Kind}
use Rattle.esb_token.specs.declared.kind.Kind.TheVariants as k
use Rattle.esb_token.specs.declared.token.Token.{Token}
use Rattle.esb_token.specs.Tokens.{SpelledBetween}
use Rattle.esb_tree.specs.declared.classes.ClassElement.TheOpen.{Expression-F}
use Rattle.esb_tree.specs.declared.expressions.Expression.{Expression, out-Expression, out-roll-Expression}
use Rattle.esb_tree.specs.declared.expressions.Expression.TheVariants as e
use Rattle.esb_tree.specs.declared.patterns.Bracketed.{Bracketed}
use Rattle.esb_tree.specs.Levels.{depth_of_expression}
use Rattle.esb_tree.specs.Trees.{written}
use Rattle.esb_tree.specs.Yields.{Tokens, tokens_of_expression, tokens_of_bracketed}
use Rattle.esb_tree.proofs.TokenLines.{tokens_Primary, tokens_ArrayLiteral, tokens_ObjectLiteral, tokens_Assignment, tokens_Bracketed}
use Rattle.esb_tree.proofs.LevelLines.{levels_Assignment}
use Rattle.esb_grammar.specs.declared.context.Context.{Context}
use Rattle.esb_grammar.specs.declared.form.Form.{Form}
use Rattle.esb_grammar.specs.declared.form.Form.TheVariants as f
use Rattle.esb_grammar.specs.Edges.{ends_assignment, is_token}
use Rattle.esb_grammar.specs.Forms.{opener}
use Rattle.esb_grammar.specs.Grammar.{IsAssignment, IsBracketed, bracketed, IsTarget, binding_identifier, array_pattern, object_pattern}
use Rattle.esb_grammar.specs.Kinds.{is_binding, is_assign, is_comma, is_update, goes_on, begins_link}
use Rattle.esb_grammar.specs.Semicolons.{ends_with, expression_goes_on, binding_goes_on}
use Rattle.esb_grammar.proofs.EdgeLines.{ends_ArrayLiteral, ends_ObjectLiteral, ends_Assignment}
use Rattle.esb_reader.specs.declared.node.Node.{Node}
use Rattle.esb_reader.specs.Places.{Text}
use Rattle.esb_reader.specs.Reader.{Reader, node}
use Rattle.esb_reader.specs.Parts.{behind, both, token}
use Rattle.esb_reader.specs.Stands.{Syntax, Stands, Rule, Made, tokens, pairs}
use Rattle.esb_reading_laws.proofs.Composed.{above_rule, same_rule}
use Rattle.esb_reading_laws.proofs.Steps.{spelled_split}
use Rattle.esb_expression_laws.specs.Leaves.{expressions}
use Rattle.esb_first_tokens.proofs.Firsts.{value_begins}
use Rattle.esb_literal_laws.specs.Forks.{reads_before}
use Rattle.esb_literal_laws.specs.Bindings as read
use Rattle.esb_literal_laws.specs.Bindings.{make_assignment}
use Rattle.esb_literal_laws.specs.Laws.{ReadsWithin, targets}
use Rattle.esb_literal_laws.proofs.Forks.{fork_rule, lower_rule, fewer_rule}
use Rattle.esb_literal_laws.proofs.Seen.{sees_kind}
use Rattle.esb_literal_laws.proofs.Sequences.{free_rule, lead_rule, sees_before}
use Rattle.esb_literal_laws.proofs.TargetParts.{assign_is, below_rule}
use Rattle.esb_statement_laws.specs.Handed.{Begins}
use Rattle.esb_statement_laws.specs.Marks.{begins_target, ends_expression}
use Rattle.esb_statement_laws.specs.Declarations.{IsValued, IsLoose}
use Rattle.esb_binding_laws.specs.Loose.{loose_layer, loose_stops, loose}
use Rattle.esb_binding_laws.specs.Laws.{EndsValues, ReadsLoose, LooseRule}

-- ---- what ends a binding, by its form

stops_Primary : (stops : Expression → Token → Bool) (u t : Token) → loose_stops stops (e.Primary u) t ≡ not (is_assign t.kind)
unfolding loose_stops
stops_Primary stops u t = ap (loose_layer stops t) (ap out-Expression (sym (e.rolls-Primary u)) ∙ out-roll-Expression (Expression-F.Primary u))

stops_Array : (stops : Expression → Token → Bool) (list : Bracketed) (t : Token) → loose_stops stops (e.ArrayLiteral list) t ≡ not (is_assign t.kind)
unfolding loose_stops
stops_Array stops list t = ap (loose_layer stops t) (ap out-Expression (sym (e.rolls-ArrayLiteral list)) ∙ out-roll-Expression (Expression-F.ArrayLiteral list))

stops_Object : (stops : Expression → Token → Bool) (list : Bracketed) (t : Token) → loose_stops stops (e.ObjectLiteral list) t ≡ not (is_assign t.kind)
unfolding loose_stops
stops_Object stops list t = ap (loose_layer stops t) (ap out-Expression (sym (e.rolls-ObjectLiteral list)) ∙ out-roll-Expression (Expression-F.ObjectLiteral list))

stops_Valued : (stops : Expression → Token → Bool) (target : Expression) (sign : Token) (x : Expression) (t : Token) → loose_stops stops (e.Assignment target sign x) t ≡ stops x t
unfolding loose_stops
stops_Valued stops target sign x t = ap (loose_layer stops t) (ap out-Expression (sym (e.rolls-Assignment target sign x)) ∙ out-roll-Expression (Expression-F.Assignment target sign x))

pub stops_target : {text : List ℕ} (stops : Expression → Token → Bool) {c : Context} {x : Expression} (t : Token) → IsTarget text c x → loose_stops stops x t ≡ not (is_assign t.kind)
stops_target stops t (binding_identifier {t = u} h) = stops_Primary stops u t
stops_target stops t (array_pattern {list = list} h) = stops_Array stops list t
stops_target stops t (object_pattern {list = list} h) = stops_Object stops list t

-- ---- kinds

implied : (a b : Bool) → (not a || b) ≡ true → a ≡ true → b ≡ true
implied true b h g = h
implied false b h g = cc

either : (a b : Bool) → (a || b) ≡ true → a ≡ false → b ≡ true
either true b h g = cc
either false b h g = h

closing_no_sign : (kind : Kind) → (not (ends_expression kind || is_comma kind) || not (is_assign kind)) ≡ true
closing_no_sign k.Assign = refl
closing_no_sign _ = refl

plain_no_sign : (kind : Kind) → (goes_on kind || not (is_assign kind)) ≡ true
plain_no_sign k.Assign = refl
plain_no_sign _ = refl

linked_no_sign : (kind : Kind) → ((goes_on kind && not (begins_link kind)) || not (is_assign kind)) ≡ true
linked_no_sign k.Assign = refl
linked_no_sign _ = refl

block_no_sign : (b u : Bool) (kind : Kind) → (if b then is_comma kind else (if u then goes_on kind && not (begins_link kind) else goes_on kind)) ≡ false → b ≡ false → not (is_assign kind) ≡ true
block_no_sign true u kind h none = cc
block_no_sign false true kind h none = either _ _ (linked_no_sign kind) h
block_no_sign false false kind h none = either _ _ (plain_no_sign kind) h

no_comma_no_sign : (kind : Kind) → (is_comma kind || is_assign kind) ≡ false → not (is_assign kind) ≡ true
no_comma_no_sign k.Comma h = refl
no_comma_no_sign k.Assign h = cc
no_comma_no_sign _ h = refl

-- ---- what goes on with a binding without a value

token_next : (u t : Token) → binding_goes_on (Some (e.Primary u)) t ≡ false → (is_comma t.kind || is_assign t.kind) ≡ false
unfolding is_token out-Expression denote.Hole.Carrier.out
token_next u t g = g

array_next : (list : Bracketed) (t : Token) → binding_goes_on (Some (e.ArrayLiteral list)) t ≡ false → not (is_assign t.kind) ≡ true
unfolding is_token out-Expression denote.Hole.Carrier.out expression_goes_on
array_next list t g = block_no_sign (ends_assignment (e.ArrayLiteral list)) (ends_with is_update (tokens_of_expression written (e.ArrayLiteral list))) t.kind g (ends_ArrayLiteral list)

object_next : (list : Bracketed) (t : Token) → binding_goes_on (Some (e.ObjectLiteral list)) t ≡ false → not (is_assign t.kind) ≡ true
unfolding is_token out-Expression denote.Hole.Carrier.out expression_goes_on
object_next list t g = block_no_sign (ends_assignment (e.ObjectLiteral list)) (ends_with is_update (tokens_of_expression written (e.ObjectLiteral list))) t.kind g (ends_ObjectLiteral list)

-- ---- the last token of a binding with a value is that of the value

more_last : (test : Kind → Bool) (before : Tokens) (u : Token) (us : Tokens) → ends_with test (before ++ (u ∷ us)) ≡ ends_with test (u ∷ us)
more_last test [] u us = refl
more_last test (t ∷ []) u us = refl
more_last test (t ∷ s ∷ ts) u us = more_last test (s ∷ ts) u us

sign_last : (before : Tokens) (sign : Token) (ts : Tokens) (first : Token) (rest : Tokens) → ts ≡ first ∷ rest → ends_with is_update (before ++ (sign ∷ ts)) ≡ ends_with is_update ts
sign_last before sign ts first rest is = more_last is_update before sign ts ∙ ap (λ us. ends_with is_update (sign ∷ us)) is ∙ ap (ends_with is_update) (sym is)

-- how tokens go on, by how they end
abbrev tokens_go_by : Bool → Bool → Kind → Bool
tokens_go_by block updated kind = if block then is_comma kind else (if updated then goes_on kind && not (begins_link kind) else goes_on kind)

module _ (text : Text) (values : Context → ℕ → Reader (Node Expression)) (c : Context) (n : ℕ) (stops : Expression → Token → Bool) (r : ReadsWithin text n values)
    (rule : Rule text (expressions (IsAssignment text c)) n n stops (values c n)) (b : EndsValues text c stops) where
  abbrev Values : Syntax Expression
  Values = expressions (IsAssignment text c)

  abbrev below : Reader (Node Expression)
  below = read.target_below text values c n

  abbrev ended : Expression → Token → Bool
  ended = loose_stops stops

  target_rule : Rule text (targets text c) n n (λ _ _. true) below
  target_rule = below_rule text values c n r

  abbrev Parts : Syntax (Expression × (Token × Expression))
  Parts = pairs (targets text c) (pairs (tokens k.Assign) Values)

  abbrev Valued : Expression → Type 0
  Valued = Made Parts make_assignment

  abbrev signs : Token → Bool
  signs t = is_assign t.kind

  one_above : (a d : ℕ) → max a d + 1 ≡ max a (max 0 d) + 1
  one_above a d = omega arith

  valued_rule : Rule text (expressions Valued) n (suc n) ended (read.with_value text values c n)
  unfolding read.with_value
  valued_rule =
      above_rule text Parts (tokens_of_expression written) depth_of_expression n n (λ p. stops p.1.1) ended make_assignment (both below (both (token text k.Assign) (values c n)))
      (free_rule text (targets text c) (pairs (tokens k.Assign) Values) n (λ q. stops q.1) below (both (token text k.Assign) (values c n)) target_rule (lead_rule text Values n k.Assign stops (values c n) refl rule))
      (omega arith) (λ p. tokens_Assignment written p.0 p.1.0 p.1.1) (λ p. levels_Assignment p.0 p.1.0 p.1.1 ∙ one_above (depth_of_expression p.0) (depth_of_expression p.1.1)) (λ p t h. sym (stops_Valued stops p.0 p.1.0 p.1.1 t) ∙ h)

  bare_rule : Rule text (targets text c) n n ended below
  bare_rule = fewer_rule text (targets text c) n n (λ _ _. true) ended below target_rule (λ x t good h. refl)

  sign_seen : (i : ℕ) (x : Node Expression) (j : ℕ) → Stands text (expressions Valued) n x i j → reads_before text signs below i ≡ true
  sign_seen i x j s =
      let made = s.good in
      let y = made.0.0 in
      let t = made.0.1.0 in
      let v = made.0.1.1 in
      let spelled = subst (λ ts. SpelledBetween text i ts j) (ap (tokens_of_expression written) made.1 ∙ tokens_Assignment written y t v) s.spelled in
      let cut = spelled_split text i (tokens_of_expression written y) (t ∷ tokens_of_expression written v) j spelled in
      let deep : x.levels ≡ max (depth_of_expression y) (depth_of_expression v) + 1 = sym s.levels ∙ ap depth_of_expression made.1 ∙ levels_Assignment y t v in
      let fits = s.fits in
      let stands : Stands text (targets text c) n (node y (depth_of_expression y)) i cut.0 = record { good = made.2.0; levels = refl; fits = omega (arith, deep, fits); spelled = cut.1 } in
      sees_before text signs below i (node y (depth_of_expression y)) cut.0 (target_rule.complete i (node y (depth_of_expression y)) cut.0 stands (omega (arith, deep, fits)) refl)
      ∙ ap signs (sees_kind text cut.0 t _ j k.Assign cut.2 made.2.1.0 refl) ∙ assign_is t.kind made.2.1.0

  not_true : (a : Bool) → not a ≡ true → a ≡ false
  not_true true h = cc
  not_true false h = refl

  no_sign : (i : ℕ) (x : Node Expression) (j : ℕ) → Stands text (targets text c) n x i j → x.levels < n → ended x.tree (behind text j) ≡ true → reads_before text signs below i ≡ false
  no_sign i x j s low stop = sees_before text signs below i x j (target_rule.complete i x j s low refl) ∙ not_true _ (sym (stops_target stops (behind text j) s.good) ∙ stop)

  there : (x : Expression) → Valued x ⊎ IsTarget text c x → IsLoose text c x
  there x (inl h) = inr (record { target = h.0.0; sign = h.0.1.0; value = h.0.1.1; is = h.1; bound = h.2.0; assign = h.2.1.0; valued = h.2.1.1 })
  there x (inr h) = inl h

  back : (x : Expression) → IsLoose text c x → Valued x ⊎ IsTarget text c x
  back x (inl h) = inr h
  back x (inr h) = inl ((h.target, (h.sign, h.value)), h.is, (h.bound, (h.assign, h.valued)))

  loose_read : Rule text (expressions (IsLoose text c)) n n ended (loose text values c n)
  unfolding loose
  loose_read =
      same_rule text (expressions (λ x. Valued x ⊎ IsTarget text c x)) (expressions (IsLoose text c)) n n ended ended (loose text values c n)
      (fork_rule text (expressions (IsLoose text c)) Valued (IsTarget text c) n n ended (reads_before text signs below) (read.with_value text values c n) below
      (lower_rule text (expressions Valued) n ended (read.with_value text values c n) valued_rule) bare_rule
      (λ i x j s low stop. sign_seen i x j s) (λ i x j s low stop. no_sign i x j s low stop))
      refl refl there back (λ x t good h. h)

  -- ---- first tokens

  opens_list : (form : Form) (list : Bracketed) (ts : Tokens) → ts ≡ tokens_of_bracketed written list → IsBracketed text form c list → begins_target (opener form) ≡ true → Begins begins_target ts
  opens_list form list ts is (bracketed begin inner ending first h last) opens = record { first = begin; rest = _; is = is ∙ tokens_Bracketed written begin inner ending; kind = ap begins_target first ∙ opens }

  name_begins : (kind : Kind) → is_binding kind ≡ true → begins_target kind ≡ true
  name_begins k.LeftBracket h = cc
  name_begins k.LeftBrace h = cc
  name_begins _ h = h

  target_begins : {x : Expression} → IsTarget text c x → Begins begins_target (tokens_of_expression written x)
  target_begins (binding_identifier {t = t} h) = record { first = t; rest = []; is = tokens_Primary written t; kind = name_begins t.kind h }
  target_begins (array_pattern {list = list} h) = opens_list f.ArrayPattern list _ (tokens_ArrayLiteral written list) h refl
  target_begins (object_pattern {list = list} h) = opens_list f.ObjectPattern list _ (tokens_ObjectLiteral written list) h refl

  valued_begins : (target : Expression) (sign : Token) (value x : Expression) → x ≡ e.Assignment target sign value → Begins begins_target (tokens_of_expression written target) → Begins begins_target (tokens_of_expression written x)
  valued_begins target sign value x is h =
      record { first = h.first; rest = h.rest ++ (sign ∷ tokens_of_expression written value); is = ap (tokens_of_expression written) is ∙ tokens_Assignment written target sign value ∙ ap (λ ts. ts ++ (sign ∷ tokens_of_expression written value)) h.is; kind = h.kind }

  begins : (x : Expression) → IsLoose text c x → Begins begins_target (tokens_of_expression written x)
  begins x (inl h) = target_begins h
  begins x (inr h) = valued_begins h.target h.sign h.value x h.is (target_begins h.bound)

  -- ---- what ends a binding

  valued_stops : (x : Expression) (t : Token) (h : IsValued text c x) → ended x t ≡ stops h.value t
  valued_stops x t h = ap (λ y. ended y t) h.is ∙ stops_Valued stops h.target h.sign h.value t

  closes : (x : Expression) (t : Token) → IsLoose text c x → ends_expression t.kind || is_comma t.kind ≡ true → ended x t ≡ true
  closes x t (inl h) g = stops_target stops t h ∙ implied _ _ (closing_no_sign t.kind) g
  closes x t (inr h) g = valued_stops x t h ∙ b.ends h.value t h.valued g

  -- a pattern has brackets, so it goes on as an expression that is one
  target_next : {x : Expression} (t : Token) → IsTarget text c x → binding_goes_on (Some x) t ≡ false → not (is_assign t.kind) ≡ true
  target_next t (binding_identifier {t = u} h) none = no_comma_no_sign t.kind (token_next u t none)
  target_next t (array_pattern {list = list} h) none = array_next list t none
  target_next t (object_pattern {list = list} h) none = object_next list t none

  valued_next : (target : Expression) (sign : Token) (value : Expression) (t : Token) → IsAssignment text c value → binding_goes_on (Some (e.Assignment target sign value)) t ≡ false → expression_goes_on value t ≡ false
  unfolding is_token out-Expression denote.Hole.Carrier.out expression_goes_on
  valued_next target sign value t good g =
      let first = value_begins text good in
      let last : ends_with is_update (tokens_of_expression written (e.Assignment target sign value)) ≡ ends_with is_update (tokens_of_expression written value)
      = ap (ends_with is_update) (tokens_Assignment written target sign value) ∙ sign_last (tokens_of_expression written target) sign (tokens_of_expression written value) first.first first.rest first.is in
      sym (ap (λ a. tokens_go_by a (ends_with is_update (tokens_of_expression written (e.Assignment target sign value))) t.kind) (ends_Assignment target sign value) ∙ ap (λ u. tokens_go_by (ends_assignment value) u t.kind) last) ∙ g

  lines : (x : Expression) (t : Token) → IsLoose text c x → t.after_line ≡ true → binding_goes_on (Some x) t ≡ false → ended x t ≡ true
  lines x t (inl h) line none = stops_target stops t h ∙ target_next t h none
  lines x t (inr h) line none = valued_stops x t h ∙ b.next_line h.value t h.valued line (valued_next h.target h.sign h.value t h.valued (subst (λ y. binding_goes_on (Some y) t ≡ false) h.is none))

  reads : ReadsLoose text values c n stops
  reads = record { reads = record { stops = ended; rule = loose_read; begins = begins; ends = closes; next_line = lines }; stop = λ x t. refl }

pub loose_rule : LooseRule
loose_rule text values c n stops r rule b = reads text values c n stops r rule b
