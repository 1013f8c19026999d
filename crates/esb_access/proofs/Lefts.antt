-- A LeftHandSideExpression is what it begins with, and the links behind it.
use Rattle.std.proofs.Common.{◌≡◌, ℕ, zero, suc, ◌-◌, ◌<◌, Bool, false, Some, None, Result, Err, refl, sym, subst, arith}
use Rattle.esb_tree.specs.declared.expressions.Expression.{Expression}
use Rattle.esb_tree.specs.declared.expressions.Substitutions.{Substitutions}
use Rattle.esb_tree.specs.declared.patterns.Bracketed.{Bracketed}
use Rattle.esb_reader.specs.declared.fault.Fault.{Fault}
use Rattle.esb_reader.specs.declared.fault.Fault.TheVariants as fault
use Rattle.esb_reader.specs.declared.node.Node.{Node}
use Rattle.esb_reader.specs.Places.{Text}
use Rattle.esb_reader.specs.Reader.{Found, Reader, pure, Gives}
use Rattle.esb_inner.specs.Inner.{below}
use Rattle.esb_access_laws.specs.Access as whole

pub left_is : (text : Text) (primary : ℕ → Reader (Node Expression)) (arguments : ℕ → Reader (Node Bracketed)) (template : ℕ → Reader (Node Substitutions)) (values value : ℕ → Reader (Node Expression)) (calls : Bool) (n i : ℕ)
    → whole.left text primary arguments template values value calls n i
    ≡ whole.accessed text n (primary n) (arguments n) (template n) (values n) (value n) calls (whole.origin text n (primary n) (arguments n) (template n) (values n) (value n) calls (below (λ _ m. whole.left text primary arguments template values value false m) text n)) i
unfolding whole.left below
left_is text primary arguments template values value calls zero i = refl
left_is text primary arguments template values value calls (suc n) i = refl

pub left_gives : (text : Text) (primary : ℕ → Reader (Node Expression)) (arguments : ℕ → Reader (Node Bracketed)) (template : ℕ → Reader (Node Substitutions)) (values value : ℕ → Reader (Node Expression)) (calls : Bool) (n i : ℕ) (r : Result (Node Expression × ℕ) Fault)
    → Gives r (whole.accessed text n (primary n) (arguments n) (template n) (values n) (value n) calls (whole.origin text n (primary n) (arguments n) (template n) (values n) (value n) calls (below (λ _ m. whole.left text primary arguments template values value false m) text n)) i)
    → Gives r (whole.left text primary arguments template values value calls n i)
left_gives text primary arguments template values value calls n i r given = subst (λ (p : Found (Node Expression)). Gives r p) (sym (left_is text primary arguments template values value calls n i)) given

-- behind what a chain begins with, its links are read
module _ (text : Text) (n : ℕ) (primary : Reader (Node Expression)) (arguments : Reader (Node Bracketed)) (template : Reader (Node Substitutions)) (values value : Reader (Node Expression)) (calls : Bool) (start : Reader (Node Expression)) (i : ℕ) where
  accessed_goes : (x : Node Expression) (m : ℕ) → start i ≡ Some (x, m) → whole.accessed text n primary arguments template values value calls start i ≡ whole.accessed text n primary arguments template values value calls (pure x) m
  unfolding whole.accessed
  accessed_goes x m h = rw h refl

  accessed_none : start i ≡ None → whole.accessed text n primary arguments template values value calls start i ≡ None
  unfolding whole.accessed
  accessed_none h = rw h refl

  pub accessed_gives : (r : Result (Node Expression × ℕ) Fault) (x : Node Expression) (m : ℕ) → start i ≡ Some (x, m) → Gives r (whole.accessed text n primary arguments template values value calls (pure x) m) → Gives r (whole.accessed text n primary arguments template values value calls start i)
  accessed_gives r x m h given = subst (λ (p : Found (Node Expression)). Gives r p) (sym (accessed_goes x m h)) given

  pub accessed_fails : (e : Fault) → Gives (Err e) (start i) → Gives (Err e) (whole.accessed text n primary arguments template values value calls start i)
  accessed_fails fault.Memory h = tt
  accessed_fails (fault.NoTree at) h = accessed_none h

-- one level down, where there is one
pub below_gives : {A : Type 0} (read : Text → ℕ → Reader (Node A)) (text : Text) (n i : ℕ) (r : Result (Node A × ℕ) Fault) → 0 < n → Gives r (read text (n - 1) i) → Gives r (below read text n i)
unfolding below
below_gives read text zero i r some given = absurd (omega (arith, some))
below_gives read text (suc n) i r some given =
    let same : suc n - 1 ≡ n = omega arith in
    subst (λ m. Gives r (read text m i)) same given
