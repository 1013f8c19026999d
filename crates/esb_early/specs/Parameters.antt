-- The names of parameters that stand there twice (ECMA-262, 14.1.2, 14.2.1, 14.3.1, 14.8.1).
use Rattle.std.specs.Prelude.{◌≡◌, ℕ, Bool, false, ◌||◌, not, List, [], ◌∷◌, ◌++◌}
use Rattle.std.specs.declared.cmp.Ordering.{Ordering}
use Rattle.std.specs.BTreeSet.{BTreeSet, contains}
use Rattle.std.specs.Cmp.Lexicographic.{slice_cmp}
use Rattle.std.specs.Ordering.{nat_cmp}
use Rattle.esb_token.specs.declared.token.Token.{Token}
use Rattle.esb_early_checks.specs.Findings.{Finding, breach_if}
use Rattle.esb_names.specs.Names.{bytes_of, is_same_name, points}

-- lists one behind another
abbrev pub joined : List (List Token) → List Token
joined [] = []
joined (x ∷ xs) = x ++ joined xs

-- whether a name is among some, however each is written
abbrev pub has_name : List ℕ → Token → List Token → Bool
has_name text name [] = false
has_name text name (x ∷ xs) = is_same_name text x name || has_name text name xs

-- each name that is one of those before it, in the list or among those that were read already
abbrev pub repeated_behind : List ℕ → List Token → List Token → Finding
repeated_behind text before [] labels = []
repeated_behind text before (name ∷ names) labels = breach_if (has_name text name before) name.start 9 labels ++ repeated_behind text (name ∷ before) names labels

-- the names of parameters that are those of earlier ones
abbrev pub repeated_breaches : List ℕ → List Token → Finding
repeated_breaches text names = repeated_behind text [] names

-- ---- how the names that were read are kept: in a set, by the order of what they stand for

-- the order of two keys by their code points
abbrev pub by_points : {K : Type 0} → (K → List ℕ) → K → K → Ordering
by_points items x y = slice_cmp nat_cmp (items x) (items y)

-- the set has the names of the list, and no others
unfoldable pub Holds : {K : Type 0} → (K → List ℕ) → List ℕ → BTreeSet K → List Token → Type 0
Holds {K} items text set names = (name : Token) (key : K) → items key ≡ points (bytes_of text name) → contains (by_points items) set key ≡ has_name text name names

-- a name is added, which was not there or was
unfoldable pub Adds : {K : Type 0} → (K → List ℕ) → List ℕ → Token → BTreeSet K → BTreeSet K → Bool → Type 0
Adds items text name before after is_new = (names : List Token) → Holds items text before names → (is_new ≡ not (has_name text name names)) × Holds items text after (name ∷ names)
