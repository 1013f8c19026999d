-- Patterns and parameters over the lists of their elements, and bindings over what they bind.
use Rattle.std.proofs.Common.{◌≡◌, ℕ, zero, suc, Bool, refl}
use Rattle.esb_tree.specs.declared.expressions.Expression.{Expression}
use Rattle.esb_tree.specs.declared.expressions.Expression.TheVariants as e
use Rattle.esb_tree.specs.declared.patterns.Element.TheVariants as el
use Rattle.esb_grammar.specs.declared.context.Context.{Context}
use Rattle.esb_grammar.specs.declared.form.Form.TheVariants as f
use Rattle.esb_grammar.specs.Kinds.{is_left_bracket, is_left_brace}
use Rattle.esb_reader.specs.declared.node.Node.{Node}
use Rattle.esb_reader.specs.Places.{Text}
use Rattle.esb_reader.specs.Reader.{Reader}
use Rattle.esb_reader.specs.Parts.{above, choice, made}
use Rattle.esb_literal_laws.specs.Bindings.{bound_name, pattern, target, target_below, parameters, binding, bindings_fit}
use Rattle.esb_literal_laws.specs.ElementLists.{bracketed_of}
use Rattle.esb_literals.specs.Handed.{values}
use Rattle.esb_literals.specs.Pieces.{binding_of, bound}

module _ (text : Text) (read : Bool → Context → Text → ℕ → Reader (Node Expression)) where
  pub target_same : (c : Context) (n i : ℕ) → target text (values read text) c n i ≡ choice text (λ t. is_left_bracket t.kind) (above n e.ArrayLiteral (bracketed_of text (binding_of text read f.ArrayPattern c n) f.ArrayPattern (bindings_fit f.ArrayPattern))) (choice text (λ t. is_left_brace t.kind) (above n e.ObjectLiteral (bracketed_of text (binding_of text read f.ObjectPattern c n) f.ObjectPattern (bindings_fit f.ObjectPattern))) (bound_name text)) i
  unfolding target target_below pattern binding_of
  target_same c zero i = refl
  target_same c (suc n) i = refl

  pub parameters_same : (c : Context) (n i : ℕ) → parameters text (values read text) c n i ≡ bracketed_of text (binding_of text read f.Parameters c n) f.Parameters (bindings_fit f.Parameters) i
  unfolding parameters binding_of
  parameters_same c n i = refl

  pub binding_same : (c : Context) (n i : ℕ) → binding text (values read text) c n i ≡ made el.Value 0 (bound text read c n) i
  unfolding binding bound
  binding_same c n i = refl
