-- Steps of loops.
use Rattle.std.proofs.Common.{◌≡◌, ℕ, suc, ◌+◌, ◌-◌, ◌<◌, Bool, true, false, not, ◌&&◌, ◌||◌, List, length, drop, get_or, Some, None, Result, Err, refl, ap, sym, subst, ◌∙◌, arith}
use Rattle.std.proofs.lemmas.List.{at_drop_more}
use Rattle.esb_tree.specs.declared.expressions.Link.{Link}
use Rattle.esb_grammar.specs.Edges.{is_optional}
use Rattle.esb_token.specs.declared.token.Token.{Token}
use Rattle.esb_reader.specs.declared.fault.Fault.{Fault}
use Rattle.esb_reader.specs.declared.fault.Fault.TheVariants as fault
use Rattle.esb_reader.specs.declared.node.Node.{Node}
use Rattle.esb_reader.specs.Reader.{Found, Reader, Gives, repeated}
use Rattle.esb_access_laws.specs.Links.{is_template, begins_link_in, templates_fit}

-- a recursion on a count of turns, beside a loop that counts up
pub one_more : {X : Type 0} {x : X} (f : ℕ → X) (n at : ℕ) → at < n → x ≡ f (n - at) → x ≡ f (suc (n - (at + 1)))
one_more f n at below e = let turn : n - at ≡ suc (n - (at + 1)) = omega (arith, below) in e ∙ ap f turn

pub fit_at : (xs : List Link) (i : ℕ) (begun : Bool) (x : Link) → x ≡ get_or xs i x → i < length xs
    → templates_fit begun (drop i xs) ≡ (not (begun && is_template x) && templates_fit (begun || is_optional x) (drop (i + 1) xs))
fit_at xs i begun x e h =
    at_drop_more (templates_fit begun) xs i x h
    ∙ ap (λ y. not (begun && is_template y) && templates_fit (begun || is_optional y) (drop (i + 1) xs)) (sym e)

pub seen_in : (calls : Bool) (seen t : Token) (b v : Bool) → seen ≡ t → b ≡ begins_link_in calls seen.kind → b ≡ v → begins_link_in calls t.kind ≡ v
seen_in calls seen t b v same e is = ap (λ (x : Token). begins_link_in calls x.kind) (sym same) ∙ (sym e ∙ is)

-- items are read until none begins, or one of them fails
module _ {A : Type 0} (test : ℕ → Bool) (item : Reader (Node A)) (found : Node (List A)) (i : ℕ) where
  ends : (turns : ℕ) → test i ≡ false → repeated test item (suc turns) found i ≡ Some (found, i)
  unfolding repeated
  ends turns e = rw e refl

  pub turn_ends : (n at : ℕ) → at < n → test i ≡ false → repeated test item (n - at) found i ≡ Some (found, i)
  turn_ends n at below e =
      let turn : n - at ≡ suc (n - (at + 1)) = omega (arith, below) in
      ap (λ m. repeated test item m found i) turn ∙ ends (n - (at + 1)) e

  fails : (turns : ℕ) → test i ≡ true → item i ≡ None → repeated test item (suc turns) found i ≡ None
  unfolding repeated
  fails turns e nothing = rw (e, nothing) refl

  turn_none : (n at : ℕ) → at < n → test i ≡ true → item i ≡ None → repeated test item (n - at) found i ≡ None
  turn_none n at below e nothing =
      let turn : n - at ≡ suc (n - (at + 1)) = omega (arith, below) in
      ap (λ m. repeated test item m found i) turn ∙ fails (n - (at + 1)) e nothing

  pub turn_fails : (n at : ℕ) (whole : Found (Node (List A))) (r : Result (Node A × ℕ) Fault) (e : Fault) → at < n → whole ≡ repeated test item (n - at) found i → test i ≡ true → Gives r (item i) → r ≡ Err e → Gives (Err e) whole
  turn_fails n at whole r fault.Memory below same t h is = tt
  turn_fails n at whole r (fault.NoTree p) below same t h is =
      let given : Gives (Err (fault.NoTree p)) (item i) = subst (λ (q : Result (Node A × ℕ) Fault). Gives q (item i)) is h in
      same ∙ turn_none n at below t given
