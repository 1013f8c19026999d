-- Names that were read, and those that stand there twice.
use Rattle.std.proofs.Common.{◌≡◌, ℕ, ◌+◌, ◌<◌, ◌≤◌, Bool, true, false, cond, not, ◌||◌, length, drop, get_or, List, [], ◌∷◌, ◌++◌, refl, sym, ap, ◌∙◌, arith}
use Rattle.std.specs.Prelude.{nat_eq}
use Rattle.std.specs.BTreeMap.{is_at}
use Rattle.std.specs.BTreeSet.{BTreeSet, contains, Updates}
use Rattle.std.specs.Cmp.Lexicographic.{pointwise, texts_ties}
use Rattle.std.specs.List.{list_any}
use Rattle.std.proofs.lemmas.List.{drop_all, drop_more}
use Rattle.std.proofs.Math.Path.{ap₂}
use Rattle.esb_token.specs.declared.token.Token.{Token}
use Rattle.esb_early_checks.specs.declared.found.Found.{Found}
use Rattle.esb_early_checks.specs.Findings.{Finds, breach_if}
use Rattle.esb_names.specs.Names.{bytes_of, points, is_same_name}
use Rattle.esb_early.specs.Parameters.{has_name, repeated_behind, repeated_breaches, by_points, Holds, Adds}
use Rattle.esb_early_checks.proofs.Steps.{finds_both, finds_is, finds_nothing, finds_of}

-- ---- the set of names

pub holds_none : {K : Type 0} (items : K → List ℕ) (text : List ℕ) (set : BTreeSet K) → set.keys ≡ [] → Holds items text set []
unfolding Holds
holds_none items text set none name key is = ap (list_any (is_at (by_points items key))) none

is_either : (a b : Bool) → cond a true b ≡ a || b
is_either true b = refl
is_either false b = refl

either : (a b c d : Bool) → a ≡ b → c ≡ d → cond a true c ≡ b || d
either a b c d same other = ap₂ (λ x y. cond x true y) same other ∙ is_either b d

pub adds_name : {K : Type 0} (items : K → List ℕ) (text : List ℕ) (name : Token) (key : K) (before after : BTreeSet K) (is_new : Bool)
    → items key ≡ points (bytes_of text name) → is_new ≡ not (contains (by_points items) before key) → Updates (by_points items) before after key true
    → Adds items text name before after is_new
unfolding Adds Holds is_same_name
adds_name items text name key before after is_new is told updates names holds = (
  told ∙ ap not (holds name key is),
  λ other other_key other_is. updates.0 other_key ∙ either _ _ _ _ (sym (texts_ties (items key) (items other_key)) ∙ ap₂ (pointwise nat_eq) is other_is) (holds other other_key other_is),
)

-- ---- names one after another

not_new : (is_new is_old : Bool) → is_new ≡ not is_old → not is_new ≡ is_old
not_new is_new true same = ap not same
not_new is_new false same = ap not same

repeated_next : (text : List ℕ) (names : List Token) (i : ℕ) (none : Token) (before : List Token) (broken : Bool) (a b c d : Found)
    → broken ≡ has_name text (get_or names i none) before → i < length names
    → (Finds (repeated_behind text before (drop i names)) b d → Finds (repeated_breaches text names) a d)
    → Finds (breach_if broken (get_or names i none).start 9) b c → Finds (repeated_behind text (get_or names i none ∷ before) (drop (i + 1) names)) c d → Finds (repeated_breaches text names) a d
repeated_next text names i none before broken a b c d told within goes_on step rest =
    let x = get_or names i none in
    goes_on (finds_is (λ labels. breach_if (has_name text x before) x.start 9 labels ++ repeated_behind text (x ∷ before) (drop (i + 1) names) labels) (repeated_behind text before (drop i names)) b d (ap (repeated_behind text before) (drop_more names i none within))
    (finds_both (breach_if (has_name text x before) x.start 9) (repeated_behind text (x ∷ before) (drop (i + 1) names)) b c d (finds_of (λ k. breach_if k x.start 9) (has_name text x before) broken b c told step) rest))

-- a turn of the loop, at the name of a place
pub repeated_turn : {K : Type 0} (items : K → List ℕ) (text : List ℕ) (names : List Token) (i : ℕ) (none : Token) (before : List Token) (is_new : Bool) (seen after : BTreeSet K) (a b c : Found)
    → Holds items text seen before → Adds items text (get_or names i none) seen after is_new → i < length names
    → ((end : Found) → Finds (repeated_behind text before (drop i names)) b end → Finds (repeated_breaches text names) a end)
    → Finds (breach_if (not is_new) (get_or names i none).start 9) b c
    → (more : List Token) × Holds items text after more × ((end : Found) → Finds (repeated_behind text more (drop (i + 1) names)) c end → Finds (repeated_breaches text names) a end)
unfolding Adds
repeated_turn items text names i none before is_new seen after a b c holds adds within goes_on step =
    let added = adds before holds in
    (get_or names i none ∷ before, added.1, λ end rest. repeated_next text names i none before (not is_new) a b c end (not_new is_new _ added.0) within (goes_on end) step rest)

pub repeated_end : (text : List ℕ) (names : List Token) (i : ℕ) (before : List Token) (a b : Found)
    → length names ≤ i → (Finds (repeated_behind text before (drop i names)) b b → Finds (repeated_breaches text names) a b) → Finds (repeated_breaches text names) a b
repeated_end text names i before a b ended goes_on = goes_on (finds_is (λ labels. []) (repeated_behind text before (drop i names)) b b (ap (repeated_behind text before) (drop_all i names ended)) (finds_nothing b))

-- one name alone isn't repeated
pub repeated_few : (text : List ℕ) (names : List Token) → length names < 2 → repeated_breaches text names ≡ (λ labels. [])
repeated_few text [] few = refl
repeated_few text (x ∷ []) few = refl
repeated_few text (x ∷ y ∷ rest) few = absurd (omega (arith, few))
