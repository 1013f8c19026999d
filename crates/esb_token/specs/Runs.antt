-- Runs of parts. A part is given by a function that tells how many bytes the part at the front of a text has, 0 where none is there.
use Rattle.std.specs.Prelude.{ℕ, zero, suc, ◌+◌, ◌-◌, Bool, false, ◌||◌, if◌then◌else◌, ◌==◌, List, [], ◌∷◌}

-- how many bytes the longest run of parts at the front has; `inside` bytes at the front belong to a part that was begun
abbrev pub run_from : (List ℕ → ℕ) → ℕ → List ℕ → ℕ
run_from part inside [] = 0
run_from part (suc inside) (b ∷ rest) = 1 + run_from part inside rest
run_from part zero (b ∷ rest) = if part (b ∷ rest) == 0 then 0 else 1 + run_from part (part (b ∷ rest) - 1) rest

unfoldable pub run : (List ℕ → ℕ) → List ℕ → ℕ
run part text = run_from part 0 text

-- whether a part of that run passes a test on the text from it on
abbrev pub any_from : (List ℕ → ℕ) → (List ℕ → Bool) → ℕ → List ℕ → Bool
any_from part test inside [] = false
any_from part test (suc inside) (b ∷ rest) = any_from part test inside rest
any_from part test zero (b ∷ rest) = if part (b ∷ rest) == 0 then false else test (b ∷ rest) || any_from part test (part (b ∷ rest) - 1) rest

unfoldable pub run_any : (List ℕ → ℕ) → (List ℕ → Bool) → List ℕ → Bool
run_any part test text = any_from part test 0 text
