-- Breaches by their places, and what a step of the walk finds.
use Rattle.std.specs.Prelude.{◌≡◌, ℕ, Bool, false, ◌&&◌, ◌||◌, ◌==◌, if◌then◌else◌, nat_lt, List, [], ◌∷◌, ◌++◌, Option, Some, None}
use Rattle.esb_early_checks.specs.declared.breach.Breach.{Breach}
use Rattle.esb_early_checks.specs.declared.found.Found.{Found}
use Rattle.esb_early_checks.specs.declared.label.Label.{Label}

-- whether a breach counts before another: by its place, and at one place by the number of its rule
abbrev pub is_before : Breach → Breach → Bool
is_before a b = nat_lt a.at b.at || (a.at == b.at && nat_lt a.rule b.rule)

abbrev pub earlier : Option Breach → Breach → Option Breach
earlier None b = Some b
earlier (Some a) b = if is_before b a then Some b else Some a

-- the first of some breaches, and of one that was found before
abbrev pub first_of : Option Breach → List Breach → Option Breach
first_of best [] = best
first_of best (b ∷ bs) = first_of (earlier best b) bs

-- breaches in a place, by the labels round it
abbrev pub Finding : Type 0
Finding = List Label → List Breach

abbrev pub breach : ℕ → ℕ → Breach
breach at rule = record { at = at; rule = rule }

-- a rule that is broken at a place if the test says so
abbrev pub breach_if : Bool → ℕ → ℕ → Finding
breach_if broken at rule labels = if broken then breach at rule ∷ [] else []

-- the breaches of some parts
unfoldable pub together : List Finding → Finding
together [] labels = []
together (f ∷ fs) labels = f labels ++ together fs labels

-- the breaches of parts of a text in one setting
abbrev pub each : {S : Type 0} → List ℕ → S → List (List ℕ → S → Finding) → Finding
each text setting [] labels = []
each text setting (f ∷ fs) labels = f text setting labels ++ each text setting fs labels

-- behind a label
abbrev pub behind : Label → Finding → Finding
behind label finding labels = finding (labels ++ label ∷ [])

-- in the body of a function, where the labels round it count no more
abbrev pub unlabelled : Finding → Finding
unlabelled finding labels = finding []

-- Where memory was not refused by the end of a step, it was not before, the labels are as they were, and the first breach is that
-- of those before and of those in the part.
unfoldable pub Finds : Finding → Found → Found → Type 0
Finds finding before after = after.refused ≡ false → (before.refused ≡ false) × (after.labels ≡ before.labels) × (after.first ≡ first_of before.first (finding before.labels))

-- a label is round what follows
unfoldable pub Enters : Label → Found → Found → Type 0
Enters label before after = after.refused ≡ false → (before.refused ≡ false) × (after.labels ≡ before.labels ++ label ∷ []) × (after.first ≡ before.first)

-- and no more
unfoldable pub Leaves : Found → Found → Type 0
Leaves before after = (after.refused ≡ before.refused) × (after.first ≡ before.first) × ((labels : List Label) (label : Label) → before.labels ≡ labels ++ label ∷ [] → after.labels ≡ labels)

-- the labels are set aside
unfoldable pub SetsAside : List Label → Found → Found → Type 0
SetsAside outer before after = (after.refused ≡ before.refused) × (after.first ≡ before.first) × (after.labels ≡ []) × (outer ≡ before.labels)

-- and are there again
unfoldable pub PutsBack : List Label → Found → Found → Type 0
PutsBack outer before after = (after.refused ≡ before.refused) × (after.first ≡ before.first) × (after.labels ≡ outer)
