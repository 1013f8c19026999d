-- What a reader does behind a first node that was read.
use Rattle.std.proofs.Common.{◌≡◌, ℕ, zero, suc, ◌+◌, ◌<◌, ◌≤◌, ◌⊎◌, inl, inr, Bool, false, List, length, Result, Some, None, Err, refl, sym, ap, subst, ◌∙◌, add-one, arith}
use Rattle.std.proofs.lemmas.Bool.{cases_lt}
use Rattle.esb_tree.specs.declared.expressions.Expression.{Expression}
use Rattle.esb_tree.specs.declared.expressions.Expression.TheVariants as e
use Rattle.esb_tree.specs.declared.expressions.Operand.{Operand}
use Rattle.esb_grammar.specs.declared.context.Context.{Context}
use Rattle.esb_reader.specs.declared.fault.Fault.{Fault}
use Rattle.esb_reader.specs.declared.fault.Fault.TheVariants as fault
use Rattle.esb_reader.specs.declared.node.Node.{Node}
use Rattle.esb_reader.specs.Places.{Text}
use Rattle.esb_reader.specs.Reader.{Found, Reader, and_then, choose, pure, fail, none, repeated, Gives}
use Rattle.esb_reader.specs.Parts.{behind, over}
use Rattle.esb_grammar.specs.Contexts.{inside}
use Rattle.esb_grammar.specs.Grammar.{loosest}
use Rattle.esb_assignment_laws.specs.Assignments.{chosen, assigned}
use Rattle.esb_expressions.specs.Values.{valued}
use Rattle.esb_expression_laws.specs.Operators.{is_operator, operand}
use Rattle.esb_operator_laws.specs.Ladder.{at_operator, fits_level, items, joined, ladder, step, binary}

again : {A : Type 0} (p : Found A) → p ≡ and_then p (λ x j. Some (x, j))
again None = refl
again (Some p) = refl

regroup : {A B C D : Type 0} (p : Found A) (f : A → Reader B) (g : B → Reader C) (h : C → Reader D) → and_then (and_then (and_then p f) g) h ≡ and_then p (λ x j. and_then (and_then (f x j) g) h)
regroup None f g h = refl
regroup (Some p) f g h = refl

-- where one reader gives nothing, nor does the other: so a fault of the first is one of the second
pub fails_too : {A B : Type 0} (e : Fault) (p : Found A) (q : Found B) → (p ≡ None → q ≡ None) → Gives (Err e) p → Gives (Err e) q
fails_too fault.Memory p q f h = tt
fails_too (fault.NoTree at) p q f h = f h

-- a list ends where its test fails
repeated_ends : {A : Type 0} (test : ℕ → Bool) (item : Reader (Node A)) (turns : ℕ) (found : Node (List A)) (i : ℕ) → test i ≡ false → repeated test item turns found i ≡ Some (found, i)
unfolding repeated
repeated_ends test item zero found i h = refl
repeated_ends test item (suc turns) found i h = rw h refl

items_end : (text : Text) (c : Context) (own : ℕ) (tighter : Reader (Node Expression)) (i : ℕ) → at_operator text c own i ≡ false → items text c own tighter i ≡ Some (none, i)
unfolding items
items_end text c own tighter i h = repeated_ends (at_operator text c own) (operand text c own tighter) (length text) none i h

module _ (text : Text) (n : ℕ) (c : Context) (unary : Reader (Node Expression)) where
  pub behind_first : (first : Reader (Node Expression)) (level i : ℕ) → ladder text n c unary first level i ≡ and_then (first i) (λ x j. ladder text n c unary (pure x) level j)
  unfolding ladder
  behind_first first zero i = again (first i)
  behind_first first (suc level) i =
      rw (behind_first first level i) (regroup (first i) (λ x j. ladder text n c unary (pure x) level j) (λ f m. and_then (items text c (suc level) (ladder text n c unary unary level) m) (λ rest. over n e.Binary f rest)) (λ a j. choose (fits_level (suc level) a.tree) (pure a) fail j))

  -- behind what was read up to a level, the next level is read
  next_level : (first : Reader (Node Expression)) (level i : ℕ) (x : Node Expression) (j : ℕ) → ladder text n c unary first level i ≡ Some (x, j) → ladder text n c unary first (suc level) i ≡ step text n c (suc level) (pure x) (binary text n c unary level) j
  unfolding ladder
  next_level first level i x j h = rw h refl

  none_above : (first : Reader (Node Expression)) (level i : ℕ) → ladder text n c unary first level i ≡ None → ladder text n c unary first (suc level) i ≡ None
  unfolding ladder
  none_above first level i h = rw h refl

  -- where operators up to a level are not read, no looser ones are
  none_looser : (first : Reader (Node Expression)) (low level i : ℕ) → low ≤ level → ladder text n c unary first low i ≡ None → ladder text n c unary first level i ≡ None
  none_looser first low zero i le h = let same : low ≡ zero = omega (arith, le) in subst (λ (k : ℕ). ladder text n c unary first k i ≡ None) same h
  none_looser first low (suc level) i le h =
      elim (cases_lt level low) [
        | inl less ↦ (let same : low ≡ suc level = omega (arith, le, less) in subst (λ (k : ℕ). ladder text n c unary first k i ≡ None) same h)
        | inr more ↦ none_above first level i (none_looser first low level i more h)
      ]

  pub level_fails : (fault : Fault) (first : Reader (Node Expression)) (tight level i : ℕ) (x : Node Expression) (j : ℕ) → tight < level → ladder text n c unary first tight i ≡ Some (x, j)
      → Gives (Err fault) (step text n c (suc tight) (pure x) (binary text n c unary tight) j) → Gives (Err fault) (ladder text n c unary first level i)
  level_fails fault first tight level i x j below so_far h =
      fails_too fault (step text n c (suc tight) (pure x) (binary text n c unary tight) j) (ladder text n c unary first level i)
      (λ none. none_looser first (suc tight) level i (omega (arith, below)) (next_level first tight i x j so_far ∙ none)) h

  -- behind what was read up to a level, the operators of the next level and their operands
  pub step_gives : (r : Result (Node Expression × ℕ) Fault) (tight i : ℕ) (x : Node Expression) (rest : Node (List Operand)) (j : ℕ) → items text c (suc tight) (binary text n c unary tight) i ≡ Some (rest, j)
      → Gives r (joined n (tight + 1) x rest j) → Gives r (step text n c (suc tight) (pure x) (binary text n c unary tight) i)
  step_gives r tight i x rest j some h =
      let same : Gives r (joined n (suc tight) x rest j) = subst (λ (own : ℕ). Gives r (joined n own x rest j)) (add-one tight) h in
      rw some same

  -- where no operator of the next level stands, the node has to be what that level takes
  pub step_skips : (r : Result (Node Expression × ℕ) Fault) (tight i : ℕ) (x : Node Expression) → is_operator c (suc tight) (behind text i) ≡ false
      → Gives r (choose (fits_level (tight + 1) x.tree) (pure x) fail i) → Gives r (step text n c (suc tight) (pure x) (binary text n c unary tight) i)
  unfolding at_operator
  step_skips r tight i x not_there h =
      let none_read : items text c (suc tight) (binary text n c unary tight) i ≡ Some (none, i) = items_end text c (suc tight) (binary text n c unary tight) i not_there in
      let same : Gives r (choose (fits_level (suc tight) x.tree) (pure x) fail i) = subst (λ (own : ℕ). Gives r (choose (fits_level own x.tree) (pure x) fail i)) (add-one tight) h in
      rw none_read same

  after : (level : ℕ) → Found (Node Expression) → Found (Node Expression)
  after level p = and_then p (λ x j. ladder text n c unary (pure x) level j)

  pub first_fails : (fault : Fault) (first : Reader (Node Expression)) (level i : ℕ) → Gives (Err fault) (first i) → Gives (Err fault) (ladder text n c unary first level i)
  unfolding after
  first_fails fault first level i h = fails_too fault (first i) (ladder text n c unary first level i) (λ none. behind_first first level i ∙ ap (after level) none) h

  pub first_gives : (r : Result (Node Expression × ℕ) Fault) (first : Reader (Node Expression)) (level i : ℕ) (x : Node Expression) (j : ℕ) → first i ≡ Some (x, j) → Gives r (ladder text n c unary (pure x) level j) → Gives r (ladder text n c unary first level i)
  unfolding after
  first_gives r first level i x j some h = subst (λ (p : Found (Node Expression)). Gives r p) (sym (behind_first first level i ∙ ap (after level) some)) h

module _ (text : Text) (n : ℕ) (c : Context) (unary : Reader (Node Expression)) (value : Context → Reader (Node Expression)) where
  pub valued_behind : (first : Reader (Node Expression)) (i : ℕ) → valued text n c unary value first i ≡ and_then (first i) (λ x j. valued text n c unary value (pure x) j)
  unfolding valued chosen assigned
  valued_behind first i =
      rw (behind_first text n c unary first loosest i) (regroup (first i) (λ x j. ladder text n c unary (pure x) loosest j) (λ x m. chosen text n (pure x) (value (inside c)) (value c) m) (λ x m. assigned text n (pure x) (value c) m))

  pub valued_goes : (first : Reader (Node Expression)) (i : ℕ) (x : Node Expression) (j : ℕ) → first i ≡ Some (x, j) → valued text n c unary value first i ≡ valued text n c unary value (pure x) j
  valued_goes first i x j h = valued_behind first i ∙ ap (λ p. and_then p (λ y k. valued text n c unary value (pure y) k)) h

  pub valued_none : (first : Reader (Node Expression)) (i : ℕ) → first i ≡ None → valued text n c unary value first i ≡ None
  valued_none first i h = valued_behind first i ∙ ap (λ p. and_then p (λ y k. valued text n c unary value (pure y) k)) h

  pub valued_fails : (fault : Fault) (first : Reader (Node Expression)) (i : ℕ) → Gives (Err fault) (first i) → Gives (Err fault) (valued text n c unary value first i)
  valued_fails fault first i h = fails_too fault (first i) (valued text n c unary value first i) (valued_none first i) h

  pub valued_gives : (r : Result (Node Expression × ℕ) Fault) (first : Reader (Node Expression)) (i : ℕ) (x : Node Expression) (j : ℕ) → first i ≡ Some (x, j) → Gives r (valued text n c unary value (pure x) j) → Gives r (valued text n c unary value first i)
  valued_gives r first i x j some h = subst (λ (p : Found (Node Expression)). Gives r p) (sym (valued_goes first i x j some)) h

  abbrev chosen_of : Reader (Node Expression) → Reader (Node Expression)
  chosen_of test = chosen text n test (value (inside c)) (value c)

  chosen_goes : (test : Reader (Node Expression)) (i : ℕ) (x : Node Expression) (j : ℕ) → test i ≡ Some (x, j) → chosen_of test i ≡ chosen_of (pure x) j
  unfolding chosen
  chosen_goes test i x j h = rw h refl

  chosen_none : (test : Reader (Node Expression)) (i : ℕ) → test i ≡ None → chosen_of test i ≡ None
  unfolding chosen
  chosen_none test i h = rw h refl

  assigned_goes : (target : Reader (Node Expression)) (i : ℕ) (x : Node Expression) (j : ℕ) → target i ≡ Some (x, j) → assigned text n target (value c) i ≡ assigned text n (pure x) (value c) j
  unfolding assigned
  assigned_goes target i x j h = rw h refl

  assigned_none : (target : Reader (Node Expression)) (i : ℕ) → target i ≡ None → assigned text n target (value c) i ≡ None
  unfolding assigned
  assigned_none target i h = rw h refl

  pub operators_fail : (fault : Fault) (first : Reader (Node Expression)) (i : ℕ) → Gives (Err fault) (ladder text n c unary first loosest i) → Gives (Err fault) (valued text n c unary value first i)
  unfolding valued
  operators_fail fault first i h =
      fails_too fault (ladder text n c unary first loosest i) (assigned text n (chosen_of (ladder text n c unary first loosest)) (value c) i)
      (λ none. assigned_none (chosen_of (ladder text n c unary first loosest)) i (chosen_none (ladder text n c unary first loosest) i none)) h

  pub choice_fails : (fault : Fault) (first : Reader (Node Expression)) (i : ℕ) (x : Node Expression) (j : ℕ) → ladder text n c unary first loosest i ≡ Some (x, j) → Gives (Err fault) (chosen_of (pure x) j) → Gives (Err fault) (valued text n c unary value first i)
  unfolding valued
  choice_fails fault first i x j some h =
      fails_too fault (chosen_of (pure x) j) (assigned text n (chosen_of (ladder text n c unary first loosest)) (value c) i)
      (λ none. assigned_none (chosen_of (ladder text n c unary first loosest)) i (chosen_goes (ladder text n c unary first loosest) i x j some ∙ none)) h

  pub assigned_gives : (r : Result (Node Expression × ℕ) Fault) (first : Reader (Node Expression)) (i : ℕ) (x : Node Expression) (j : ℕ) (y : Node Expression) (k : ℕ) → ladder text n c unary first loosest i ≡ Some (x, j) → chosen_of (pure x) j ≡ Some (y, k)
      → Gives r (assigned text n (pure y) (value c) k) → Gives r (valued text n c unary value first i)
  unfolding valued
  assigned_gives r first i x j y k operators choice h =
      subst (λ (p : Found (Node Expression)). Gives r p) (sym (assigned_goes (chosen_of (ladder text n c unary first loosest)) i y k (chosen_goes (ladder text n c unary first loosest) i x j operators ∙ choice))) h
