-- A unary expression is told by its first token.
use Rattle.std.proofs.Common.{◌≡◌, ℕ, zero, suc, true, false, Result, ap, sym, ◌∙◌, subst}
use Rattle.esb_tree.specs.declared.expressions.Expression.{Expression}
use Rattle.esb_grammar.specs.declared.context.Context.{Context}
use Rattle.esb_reader.specs.declared.fault.Fault.{Fault}
use Rattle.esb_reader.specs.declared.node.Node.{Node}
use Rattle.esb_reader.specs.Places.{Text}
use Rattle.esb_reader.specs.Reader.{Found, Reader, choose, fail, Gives}
use Rattle.esb_reader.specs.Parts.{behind}
use Rattle.esb_operator_laws.specs.Unary.{begins_prefix, prefixed, postfixed, unary}
use Rattle.esb_expressions.specs.Prefixes.{unary_below}

module _ (text : Text) (c : Context) (left : ℕ → Reader (Node Expression)) (i : ℕ) where
  plain : (n : ℕ) → begins_prefix c (behind text i) ≡ false → unary text c left n i ≡ postfixed text n (left n) i
  unfolding unary
  plain zero h = ap (λ b. choose b (prefixed text c zero fail) (postfixed text zero (left zero)) i) h
  plain (suc n) h = ap (λ b. choose b (prefixed text c (suc n) (unary text c left n)) (postfixed text (suc n) (left (suc n))) i) h

  begun : (n : ℕ) → begins_prefix c (behind text i) ≡ true → unary text c left n i ≡ prefixed text c n (unary_below text c left n) i
  unfolding unary unary_below
  begun zero h = ap (λ b. choose b (prefixed text c zero fail) (postfixed text zero (left zero)) i) h
  begun (suc n) h = ap (λ b. choose b (prefixed text c (suc n) (unary text c left n)) (postfixed text (suc n) (left (suc n))) i) h

  pub plain_gives : (r : Result (Node Expression × ℕ) Fault) (n : ℕ) → begins_prefix c (behind text i) ≡ false → Gives r (postfixed text n (left n) i) → Gives r (unary text c left n i)
  plain_gives r n h gives = subst (λ (p : Found (Node Expression)). Gives r p) (sym (plain n h)) gives

  pub begun_gives : (r : Result (Node Expression × ℕ) Fault) (n : ℕ) → begins_prefix c (behind text i) ≡ true → Gives r (prefixed text c n (unary_below text c left n) i) → Gives r (unary text c left n i)
  begun_gives r n h gives = subst (λ (p : Found (Node Expression)). Gives r p) (sym (begun n h)) gives
