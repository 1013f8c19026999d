-- What is read has no more levels than it may have.
use Rattle.std.proofs.Common.{◌≡◌, ℕ, ◌≤◌, Bool, true, false, List, Some, Result, Ok, Err, IfOk}
use Rattle.esb_tree.specs.declared.expressions.Expression.{Expression}
use Rattle.esb_tree.specs.declared.statements.Statement.{Statement}
use Rattle.esb_grammar.specs.declared.context.Context.{Context}
use Rattle.esb_reader.specs.declared.node.Node.{Node}
use Rattle.esb_reader.specs.declared.fault.Fault.{Fault}
use Rattle.esb_reader.specs.Places.{Text}
use Rattle.esb_reader.specs.Reader.{Found, Gives}
use Rattle.esb_statement_laws.specs.Within.{ItemsExact}
use Rattle.esb_statement_laws.proofs.Levelled.{items_exact}
use Rattle.esb_value_laws.proofs.HandedRules.{handed_rule}
use Rattle.esb_parse_laws.specs.Readers.{value_below, values_below, head_below, items_below, readers, parts}
use Rattle.esb_parse_laws.proofs.Below.{Below, exact_below}
use Rattle.esb_parse_laws.proofs.Parts.{handed_read}
use Rattle.esb_parse_laws.proofs.Turns.{knot_rule}
use Rattle.esb_parse.specs.Knot.{expression, items}

module _ (text : Text) where
  lists_exact : (n : ℕ) → ItemsExact text (parts text) n
  lists_exact = items_exact text (parts text) (handed_read text (readers text) (knot_rule text))

  exact : (n : ℕ) → Below text (readers text) (knot_rule text) n
  exact n = exact_below text (readers text) (knot_rule text) n (λ m low. lists_exact m)

  pub expression_fits : (commas : Bool) (c : Context) (n i : ℕ) (x : Node Expression) (j : ℕ) → expression commas c text n i ≡ Some (x, j) → x.levels ≤ n
  expression_fits false c n i x j h = ((handed_rule text (value_below text) (values_below text) (head_below text) (items_below text) n (exact n) c).1.sound i x j h).fits
  expression_fits true c n i x j h = ((handed_rule text (value_below text) (values_below text) (head_below text) (items_below text) n (exact n) c).2.sound i x j h).fits

  pub items_fit : (c : Context) (n i : ℕ) (x : Node (List Statement)) (j : ℕ) → items c text n i ≡ Some (x, j) → x.levels ≤ n
  items_fit c n i x j h = ((lists_exact n c).sound i x j h).fits

-- ---- of what was returned

pub room : {A : Type 0} (r : Result (Node A × ℕ) Fault) (f : Found (Node A)) (n : ℕ) → Gives r f → ((x : Node A) (j : ℕ) → f ≡ Some (x, j) → x.levels ≤ n) → IfOk r (λ p. p.0.levels ≤ n)
room (Ok p) f n gives fits = fits p.0 p.1 gives
room (Err e) f n gives fits = tt
