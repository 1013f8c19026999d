-- Where `(` is seen and no Arguments are, no links go on with a name.
use Rattle.std.proofs.Common.{◌≡◌, ℕ, zero, suc, Bool, true, false, not, List, length, Some, None, refl, ap, sym, ◌∙◌}
use Rattle.esb_token.specs.declared.kind.Kind.TheVariants as k
use Rattle.esb_token.specs.declared.token.Token.{Token}
use Rattle.esb_tree.specs.declared.classes.ClassElement.TheOpen.{Expression-F}
use Rattle.esb_tree.specs.declared.expressions.Expression.{Expression, out-Expression, out-roll-Expression}
use Rattle.esb_tree.specs.declared.expressions.Expression.TheVariants as e
use Rattle.esb_tree.specs.declared.expressions.Link.{Link}
use Rattle.esb_tree.specs.declared.expressions.Substitutions.{Substitutions}
use Rattle.esb_tree.specs.declared.patterns.Bracketed.{Bracketed}
use Rattle.esb_reader.specs.declared.node.Node.{Node}
use Rattle.esb_reader.specs.Places.{Text}
use Rattle.esb_reader.specs.Reader.{Reader, pure, node, none, repeated}
use Rattle.esb_reader.specs.Parts.{behind, such}
use Rattle.esb_access_laws.specs.Links as read
use Rattle.esb_access_laws.specs.Links.{begins_link_in}
use Rattle.esb_access_laws.specs.Access as whole
use Rattle.esb_access_laws.specs.Access.{is_new_alone, links_fit}

not_new : (t : Token) → is_new_alone (e.Primary t) ≡ false
unfolding is_new_alone
not_new t = ap whole.new_layer (ap out-Expression (sym (e.rolls-Primary t)) ∙ out-roll-Expression (Expression-F.Primary t))

no_items : (test : ℕ → Bool) (item : Reader (Node Link)) (x : Expression) (turns i : ℕ) → test i ≡ true → item i ≡ None → such (repeated test item turns none) (links_fit x) i ≡ None
unfolding repeated
no_items test item x zero i holds h = refl
no_items test item x (suc turns) i holds h = rw (holds, h) refl

module _ (text : Text) (n : ℕ) (primary : Reader (Node Expression)) (arguments : Reader (Node Bracketed)) (template : Reader (Node Substitutions)) (values value : Reader (Node Expression)) where
  no_link : (i : ℕ) → (behind text i).kind ≡ k.LeftParenthesis → arguments i ≡ None → read.link text arguments template values true i ≡ None
  unfolding read.link read.called
  no_link i seen h = rw (seen, h) refl

  no_chain : (x : Expression) (i : ℕ) → (behind text i).kind ≡ k.LeftParenthesis → arguments i ≡ None → such (read.links text arguments template values true) (links_fit x) i ≡ None
  unfolding read.links
  no_chain x i seen h = no_items (λ at. begins_link_in true (behind text at).kind) (read.link text arguments template values true) x (length text) i (ap (begins_link_in true) seen) (no_link i seen h)

  pub no_links : (t : Token) (levels i : ℕ) → (behind text i).kind ≡ k.LeftParenthesis → arguments i ≡ None → whole.accessed text n primary arguments template values value true (pure (node (e.Primary t) levels)) i ≡ None
  unfolding whole.accessed
  no_links t levels i seen h = rw (seen, not_new t, no_chain (e.Primary t) i seen h) refl
