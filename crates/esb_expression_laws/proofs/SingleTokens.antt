-- Expressions of one token are read exactly.
use Rattle.std.proofs.Common.{ℕ, Result, ◌≡◌, Bool, true, false, ◌||◌, refl, ap, sym, ◌∙◌, subst, ◌⊎◌, inl, inr}
use Rattle.esb_token.specs.declared.kind.Kind.{Kind}
use Rattle.esb_token.specs.declared.kind.Kind.TheVariants as k
use Rattle.esb_token.specs.declared.token.Token.{Token}
use Rattle.esb_token.specs.declared.goal.Goal.TheVariants as goal
use Rattle.esb_tree.specs.declared.expressions.Expression.{Expression, out-Expression, out-roll-Expression}
use Rattle.esb_tree.specs.declared.classes.ClassElement.TheOpen.{Expression-F}
use Rattle.esb_tree.specs.declared.expressions.Expression.TheVariants as e
use Rattle.esb_tree.specs.Levels.{depth_of_expression}
use Rattle.esb_tree.specs.Trees.{written}
use Rattle.esb_tree.specs.Yields.{tokens_of_expression}
use Rattle.esb_tree.proofs.TokenLines.{tokens_Primary}
use Rattle.esb_tree.proofs.LevelLines.{levels_Primary}
use Rattle.esb_grammar.specs.declared.context.Context.{Context}
use Rattle.esb_grammar.specs.Edges.{plain_layer, is_token}
use Rattle.esb_grammar.specs.Grammar.{IsPrimary, identifier_reference, literal, array_literal, object_literal, parenthesized, template_literal, function_expression, class_expression}
use Rattle.esb_grammar.specs.Kinds.{is_reference, is_literal}
use Rattle.esb_reader.specs.declared.fault.Fault.{Fault}
use Rattle.esb_reader.specs.declared.node.Node.{Node}
use Rattle.esb_reader.specs.Reader.{Gives}
use Rattle.esb_reader.specs.Kinds.{agrees}
use Rattle.esb_reader.specs.Places.{Text}
use Rattle.esb_reader.specs.Parts.{made, token_in}
use Rattle.esb_reader.specs.Stands.{Finds, FindsEach, Made, tokens_in}
use Rattle.esb_reading_laws.proofs.Composed.{token_in_rule, plain_rule, same_rule}
use Rattle.esb_reading_laws.proofs.Gains.{finds, finds_each}
use Rattle.esb_expression_laws.specs.Leaves.{leaves, expressions, is_leaf, IsLeaf, leaf}
use Rattle.esb_expression_laws.specs.Laws.{LeafRule}

-- each is read where an operand may begin
leaf_agrees : (c : Context) (kind : Kind) → is_leaf c kind ≡ true → agrees goal.RegExp kind ≡ true
leaf_agrees c k.End h = cc
leaf_agrees c k.Slash h = cc
leaf_agrees c k.SlashAssign h = cc
leaf_agrees c k.TemplateMiddle h = cc
leaf_agrees c k.TemplateTail h = cc
leaf_agrees c _ h = refl

or_left : (a b : Bool) → a ≡ true → (a || b) ≡ true
or_left true b h = refl
or_left false b h = cc

or_right : (a b : Bool) → b ≡ true → (a || b) ≡ true
or_right true b h = refl
or_right false b h = h

either_of : (a b : Bool) → (a || b) ≡ true → (a ≡ true) ⊎ (b ≡ true)
either_of true b h = inl refl
either_of false b h = inr h

primary_is_token : (t : Token) → is_token (e.Primary t) ≡ true
unfolding is_token
primary_is_token t = ap plain_layer (ap out-Expression (sym (e.rolls-Primary t)) ∙ out-roll-Expression (Expression-F.Primary t))

abbrev Made_leaf : Context → Expression → Type 0
Made_leaf c x = Made (tokens_in (λ t. is_leaf c t.kind)) e.Primary x

there : (text : Text) (c : Context) (x : Expression) → Made_leaf c x → IsLeaf text c x
there text c x h = subst (IsLeaf text c) (sym h.1) (by_kind (either_of (is_reference c h.0.kind) (is_literal h.0.kind) h.2), primary_is_token h.0)
  where
    by_kind : (is_reference c h.0.kind ≡ true) ⊎ (is_literal h.0.kind ≡ true) → IsPrimary text c (e.Primary h.0)
    by_kind (inl is) = identifier_reference is
    by_kind (inr is) = literal is

of_primary : (text : Text) (c : Context) (x : Expression) → IsPrimary text c x → is_token x ≡ true → Made_leaf c x
unfolding is_token out-Expression denote.Hole.Carrier.out
of_primary text c x (identifier_reference {t = t} h) is = (t, refl, or_left _ _ h)
of_primary text c x (literal {t = t} h) is = (t, refl, or_right (is_reference c t.kind) _ h)
of_primary text c x (array_literal h) is = cc
of_primary text c x (object_literal h) is = cc
of_primary text c x (parenthesized h) is = cc
of_primary text c x (template_literal h) is = cc
of_primary text c x (function_expression h) is = cc
of_primary text c x (class_expression h) is = cc

pub leaf_rule : LeafRule
unfolding leaf
leaf_rule text c n top =
    let test : Token → Bool = λ t. is_leaf c t.kind in
    same_rule text (record { yields = tokens_of_expression written; levels_of = depth_of_expression; Good = Made_leaf c }) (expressions (IsLeaf text c)) n top (λ _ _. true) (λ _ _. true) (made e.Primary 0 (token_in text goal.RegExp test))
    (plain_rule text (tokens_in test) (tokens_of_expression written) depth_of_expression n top (λ _ _. true) (λ _ _. true) e.Primary (token_in text goal.RegExp test)
    (token_in_rule text n top goal.RegExp test (λ t h. leaf_agrees c t.kind h)) (λ t. tokens_Primary written t) levels_Primary (λ a t h. refl))
    refl refl (there text c) (λ x h. of_primary text c x h.0 h.1) (λ x t good h. refl)

pub leaf_finds : (text : Text) (c : Context) (at : ℕ) (r : Result (Node Expression × ℕ) Fault) → Gives r (leaf text c at) → Finds text (leaves text c) 0 at r
leaf_finds text c at r h = finds text (leaves text c) 0 (λ _ _. true) (leaf text c) (leaf_rule text c 0 1) at r h

pub leaf_finds_each : (text : Text) (c : Context) (at : ℕ) (r : Result (Node Expression × ℕ) Fault) → Gives r (leaf text c at) → FindsEach text (leaves text c) 0 (λ _ _. true) at r
leaf_finds_each text c at r h = finds_each text (leaves text c) 0 (λ _ _. true) (leaf text c) (leaf_rule text c 0 1) at r h
