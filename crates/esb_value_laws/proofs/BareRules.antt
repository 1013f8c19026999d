-- Operands before a name are read exactly, unless an arrow function begins there.
use Rattle.std.proofs.Common.{◌≡◌, ◌⊎◌, inl, inr, ℕ, suc, ◌<◌, ◌≤◌, Bool, true, false, not, ◌&&◌, ◌||◌, List, [], Some, refl, ap, sym, ◌∙◌, subst, arith}
use Rattle.esb_token.specs.declared.kind.Kind.{Kind}
use Rattle.esb_token.specs.declared.kind.Kind.TheVariants as k
use Rattle.esb_token.specs.declared.token.Token.{Token}
use Rattle.esb_token.specs.Tokens.{SpelledBetween}
use Rattle.esb_tree.specs.declared.classes.ClassElement.TheOpen.{Expression-F}
use Rattle.esb_tree.specs.declared.expressions.Expression.{Expression, out-Expression}
use Rattle.esb_tree.specs.declared.expressions.Expression.TheVariants as e
use Rattle.esb_tree.specs.declared.functions.ConciseBody.{ConciseBody}
use Rattle.esb_tree.specs.declared.patterns.Bracketed.{Bracketed}
use Rattle.esb_tree.specs.Levels.{depth_of_expression}
use Rattle.esb_tree.specs.Trees.{written}
use Rattle.esb_tree.specs.Yields.{tokens_of_expression}
use Rattle.esb_tree.proofs.LevelLines.{levels_Primary}
use Rattle.esb_tree.proofs.TokenLines.{tokens_Primary}
use Rattle.esb_grammar.specs.declared.context.Context.{Context}
use Rattle.esb_grammar.specs.declared.form.Form.TheVariants as f
use Rattle.esb_grammar.specs.Contexts.{of_arrow}
use Rattle.esb_grammar.specs.Grammar.{loosest, IsPrimary, identifier_reference, literal, array_literal, object_literal, parenthesized, template_literal, function_expression, class_expression, primary_expression, origin, access, IsUpdate, update, IsBinary, unary_expression, IsConditional, short_circuit, IsAssignment, IsExpression, assignment_expression, commas}
use Rattle.esb_grammar.specs.Kinds.{is_binding, is_comma, is_let, is_literal, is_reference}
use Rattle.esb_grammar.specs.Words.{is_async}
use Rattle.esb_grammar.proofs.Inversions.{is_primary_layer, primary_of}
use Rattle.esb_grammar.proofs.Shapes.{Layer, is_origin_layer, origin_in}
use Rattle.esb_reader.specs.declared.node.Node.{Node}
use Rattle.esb_reader.specs.Places.{Text}
use Rattle.esb_reader.specs.Reader.{Reader, node, none}
use Rattle.esb_reader.specs.Parts.{behind, over}
use Rattle.esb_reader.specs.Stands.{Stands, Rule}
use Rattle.esb_reading_laws.proofs.Rows.{no_items}
use Rattle.esb_reading_laws.proofs.Steps.{some_is, then_goes, if_not}
use Rattle.esb_expression_laws.specs.Laws.{lists}
use Rattle.esb_expression_laws.specs.Leaves.{expressions}
use Rattle.esb_operator_laws.proofs.TokenTests.{and_left, and_right, and_both}
use Rattle.esb_assignment_laws.specs.Assignments.{assigned}
use Rattle.esb_assignment_laws.specs.Laws.{IsAssigned}
use Rattle.esb_assignment_laws.specs.Values.{is_arrow, ends_value, ends_choice}
use Rattle.esb_literal_laws.specs.Forks.{second}
use Rattle.esb_literal_laws.proofs.Seen.{sees_kind}
use Rattle.esb_value_laws.specs.Arrows.{third, head_list, head_call, at_async_name, at_name, before_arrow}
use Rattle.esb_value_laws.specs.Bodies.{bodies}
use Rattle.esb_value_laws.specs.Commas.{begins_comma, ends_expression, comma_operands, comma_operand, expression}
use Rattle.esb_value_laws.specs.Ends.{ends_body}
use Rattle.esb_value_laws.specs.Laws.{BareRule, LetRule}
use Rattle.esb_value_laws.specs.Lets.{let_layer, is_let_word}
use Rattle.esb_value_laws.specs.Whole.{list_or_plain, value}
use Rattle.esb_value_laws.proofs.ArrowKinds.{arrow_is, async_is}
use Rattle.esb_value_laws.proofs.Assembled.{value_rule}
use Rattle.esb_value_laws.proofs.CommaRules.{expression_rule}
use Rattle.esb_value_laws.proofs.Stuck.{refuted, Bare, arrow_bare, name_bare, stuck_read}
use Rattle.esb_value_laws.proofs.Unary.{plain_shows}
use Rattle.esb_value_laws.proofs.ValueRules.{unary_no_yield, async_tests, Before_arrow, name_good, name_spelled, name_before, call_before, list_before}

binding_no_arrow : (kind : Kind) → is_binding kind ≡ true → is_arrow kind ≡ true → ⊥
binding_no_arrow kind h a = let bad : false ≡ true = sym (ap is_binding (arrow_is kind a)) ∙ h in cc

binding_no_comma : (kind : Kind) → is_binding kind ≡ true → is_comma kind ≡ false
binding_no_comma k.Comma h = cc
binding_no_comma _ h = refl

module _ (text : Text) (c : Context) (n : ℕ) (target below : Reader (Node Expression)) (arguments : Reader (Node Bracketed)) (body : Bool → Reader (Node ConciseBody)) (covers : Bracketed → Bool)
    (target_rule : Rule text (expressions (IsConditional text c)) n (suc n) (ends_choice c) target) (below_rule : Rule text (expressions (IsAssignment text c)) n n (ends_value c) below)
    (arguments_rule : Rule text (lists text f.Arguments c) n n (λ _ _. true) arguments) (body_rule : (is_async_body : Bool) → Rule text (bodies text (of_arrow c is_async_body)) n n (ends_body (of_arrow c is_async_body)) (body is_async_body)) where
  abbrev Before : ℕ → Type 0
  Before i = Before_arrow text c n target below arguments body covers target_rule below_rule arguments_rule body_rule i

  module _ (i : ℕ) (x : Node Expression) (m : ℕ) (stands : Stands text (expressions (IsBinary text loosest c)) n x i m) (name : is_binding (behind text m).kind ≡ true) (no_arrow : (is_async text (behind text i) && is_arrow (behind text (behind text m).end).kind) ≡ false) where
    plain_stands : Stands text (expressions (λ y. IsConditional text c y ⊎ IsAssigned text c y)) n x i m
    plain_stands = record { good = inl (short_circuit stands.good); levels = stands.levels; fits = stands.fits; spelled = stands.spelled }

    reads_it : assigned text n target below i ≡ Some (x, m)
    reads_it =
        let deep = stands.levels in
        let fits = stands.fits in
        stuck_read text c n target below target_rule below_rule x.tree i m stands.good (omega (arith, deep, fits)) stands.spelled (name_bare c.has_in (not (behind text m).after_line) (behind text m).kind name)
        ∙ ap (λ l. Some (node x.tree l, m)) stands.levels

    -- no other operand before a token that goes on with none
    only : (y : Expression) (j : ℕ) → IsBinary text loosest c y → depth_of_expression y ≤ n → SpelledBetween text i (tokens_of_expression written y) j → Bare c.has_in (not (behind text j).after_line) (behind text j).kind → j ≡ m
    only y j good low spelled bare =
        let same : (node y (depth_of_expression y), j) ≡ (x, m) = some_is _ _ (sym (stuck_read text c n target below target_rule below_rule y i j good low spelled bare) ∙ reads_it) in
        ap (λ p. p.1) same

    no_arrow_there : Before i → ⊥
    no_arrow_there b =
        let sign : is_arrow (behind text b.to).kind ≡ true = and_left (is_arrow (behind text b.to).kind) _ b.sign in
        let same = only b.operand b.to b.good b.low b.spelled (arrow_bare c.has_in (not (behind text b.to).after_line) (behind text b.to).kind sign) in
        binding_no_arrow (behind text m).kind name (ap (λ j. is_arrow (behind text j).kind) (sym same) ∙ sign)

    no_async_there : at_async_name text i ≡ true → ⊥
    no_async_there h =
        let t = behind text i in
        let tests = async_tests text i h in
        let refers : is_reference c t.kind ≡ true = ap (is_reference c) (async_is text t tests.0) in
        let deep = levels_Primary t in
        let same = only (e.Primary t) t.end (name_good text c n target below arguments body covers target_rule below_rule arguments_rule body_rule t refers) (omega (arith, deep)) (name_spelled text c n target below arguments body covers target_rule below_rule arguments_rule body_rule i refers) (name_bare c.has_in (not (second text i).after_line) (second text i).kind (and_left (is_binding (second text i).kind) _ tests.1)) in
        let arrow : is_arrow (behind text (behind text m).end).kind ≡ true = ap (λ j. is_arrow (behind text (behind text j).end).kind) (sym same) ∙ and_left (is_arrow (third text i).kind) _ tests.2 in
        let bad : false ≡ true = sym no_arrow ∙ and_both _ _ tests.0 arrow in
        cc

    bare_value : value text c n target below arguments body covers i ≡ Some (x, m)
    unfolding value list_or_plain
    bare_value =
        if_not _ _ _ (unary_no_yield c (behind text i).kind (plain_shows text c x.tree i m (inl (short_circuit stands.good)) stands.spelled))
        ∙ if_not _ _ _ (refuted _ no_async_there)
        ∙ if_not _ _ _ (refuted (at_name text c i) (λ h. no_arrow_there (name_before text c n target below arguments body covers target_rule below_rule arguments_rule body_rule i h)))
        ∙ if_not _ _ _ (refuted (before_arrow text (head_list n arguments) i) (λ h. no_arrow_there (list_before text c n target below arguments body covers target_rule below_rule arguments_rule body_rule i h x m plain_stands)))
        ∙ if_not _ _ _ (refuted (before_arrow text (head_call text n arguments) i) (λ h. no_arrow_there (call_before text c n target below arguments body covers target_rule below_rule arguments_rule body_rule i h)))
        ∙ reads_it

alone_read : (text : Text) (n : ℕ) (value : Reader (Node Expression)) (i : ℕ) (x : Node Expression) (m : ℕ) → value i ≡ Some (x, m) → begins_comma (behind text m) ≡ false → expression text n value i ≡ Some (x, m)
unfolding expression comma_operands
alone_read text n value i x m h none_there =
    then_goes (value i) _ x m h ∙ then_goes (comma_operands text value m) (λ rest. over n e.Binary x rest) none m (no_items text begins_comma (comma_operand text value) m none_there)

pub bare_rule : BareRule
bare_rule text c n target below arguments body covers target_rule below_rule arguments_rule body_rule i x m stands name no_arrow =
    let read = bare_value text c n target below arguments body covers target_rule below_rule arguments_rule body_rule i x m stands name no_arrow in
    (read, alone_read text n (value text c n target below arguments body covers) i x m read (binding_no_comma (behind text m).kind name))

-- ---- `let`

let_origin : (x : Layer) → let_layer x ≡ true → is_origin_layer x ≡ true
let_origin (Expression-F.Primary t) h = refl
let_origin _ h = cc

let_primary : (x : Layer) → let_layer x ≡ true → is_primary_layer x ≡ true
let_primary (Expression-F.Primary t) h = refl
let_primary _ h = cc

literal_no_let : (kind : Kind) → is_literal kind ≡ true → is_let kind ≡ true → ⊥
literal_no_let k.Let h e = let bad : false ≡ true = h in cc
literal_no_let _ h e = let bad : false ≡ true = e in cc

let_is : (kind : Kind) → is_let kind ≡ true → kind ≡ k.Let
let_is k.Let h = refl
let_is _ h = cc

-- the word alone
pub record Let_word (c : Context) (x : Expression) : Type 0 where
  pub word : Token
  pub is : x ≡ e.Primary word
  pub kind : word.kind ≡ k.Let
  pub refers : is_reference c word.kind ≡ true

module _ (text : Text) (c : Context) where
  let_of : (x : Expression) → IsPrimary text c x → let_layer (out-Expression x) ≡ true → Let_word c x
  unfolding out-Expression denote.Hole.Carrier.out
  let_of x (identifier_reference {t = t} h) g = record { word = t; is = refl; kind = let_is t.kind g; refers = h }
  let_of x (literal {t = t} h) g = absurd (literal_no_let t.kind h g)
  let_of x (array_literal h) g = cc
  let_of x (object_literal h) g = cc
  let_of x (parenthesized h) g = cc
  let_of x (template_literal h) g = cc
  let_of x (function_expression h) g = cc
  let_of x (class_expression h) g = cc

  pub let_in : (x : Expression) → IsExpression text c x → is_let_word x ≡ true → Let_word c x
  unfolding is_let_word out-Expression denote.Hole.Carrier.out
  let_in x (assignment_expression h) g = let_of x (primary_of (origin_in h (let_origin (out-Expression x) g)) (let_primary (out-Expression x) g)) g
  let_in x (commas first second rest h others) g = cc

pub not_async : (text : List ℕ) (t : Token) → t.kind ≡ k.Let → is_async text t ≡ false
not_async text t h = refuted (is_async text t) (λ a. let bad : k.Let ≡ k.Name = sym h ∙ async_is text t a in cc)

or_cases : (a b : Bool) → (a || b) ≡ true → (a ≡ true) ⊎ (b ≡ true)
or_cases true b h = inl refl
or_cases false b h = inr h

pub let_rule : LetRule
let_rule text c n target below arguments body covers target_rule below_rule arguments_rule body_rule cover = record {
  sound = rule.sound;
  complete = λ i x j s low stop. by_case i x j s low (or_cases (ends_expression c x.tree (behind text j)) (is_let_word x.tree && is_binding (behind text j).kind) stop);
}
  where
    rule : Rule text (expressions (IsExpression text c)) n (suc n) (ends_expression c) (expression text n (value text c n target below arguments body covers))
    rule = expression_rule text c n (value text c n target below arguments body covers) (value_rule text c n target below arguments body covers target_rule below_rule arguments_rule body_rule cover)

    by_case : (i : ℕ) (x : Node Expression) (j : ℕ) → Stands text (expressions (IsExpression text c)) n x i j → x.levels < suc n → (ends_expression c x.tree (behind text j) ≡ true) ⊎ ((is_let_word x.tree && is_binding (behind text j).kind) ≡ true) → expression text n (value text c n target below arguments body covers) i ≡ Some (x, j)
    by_case i x j s low (inl stop) = rule.complete i x j s low stop
    by_case i x j s low (inr h) =
        let w = let_in text c x.tree s.good (and_left (is_let_word x.tree) _ h) in
        let good : IsBinary text loosest c x.tree = subst (IsBinary text loosest c) (sym w.is) (unary_expression (update (IsUpdate.left_hand_side (access (origin (primary_expression (identifier_reference w.refers))))))) in
        let stands : Stands text (expressions (IsBinary text loosest c)) n x i j = record { good = good; levels = s.levels; fits = s.fits; spelled = s.spelled } in
        let spelled = subst (λ ts. SpelledBetween text i ts j) (ap (tokens_of_expression written) w.is ∙ tokens_Primary written w.word) s.spelled in
        let seen : (behind text i).kind ≡ k.Let = ap (λ (t : Token). t.kind) (sees_kind text i w.word [] j k.Let spelled w.kind refl) ∙ w.kind in
        (bare_rule text c n target below arguments body covers target_rule below_rule arguments_rule body_rule i x j stands (and_right (is_let_word x.tree) _ h) (ap (λ b. b && is_arrow (behind text (behind text j).end).kind) (not_async text (behind text i) seen))).1
