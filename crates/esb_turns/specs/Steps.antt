-- What the lock's steps tell.
use Rattle.std.specs.Prelude.{◌≡◌, ◌≢◌, ◌⊎◌, ℕ, ◌%◌, ◌^◌, List, [], ◌∷◌, ◌++◌, length, Option, Some}
use mathlib.Core.List.{IsPrefix}
use Rattle.atomic_table.specs.Table.{Me}
use Rattle.esb_turns.specs.declared.view.Stage.TheVariants.{Waiting}
use Rattle.esb_turns.specs.declared.view.View.{View}
use Rattle.esb_turns.specs.Views.{waiting, serving, left_with, informed}

-- what a seat knows, and the slots that it has
abbrev pub Seated : Type 0 → Type 0 → Type 0
Seated E B = Me (Option B) (View E)

module _ {E B : Type 0} where
  -- the caller drew the ticket n, of which it was told what fits a word
  abbrev pub Draws : Seated E B → ℕ → Seated E B → Type 0
  Draws m r m' = (n : ℕ) × (r ≡ n % 2 ^ 64) × (m' ≡ (waiting n m.0, m.1))

  module _ (entries : B → List E) (is_at_rest : B → Type 0) where
    -- the caller has the turn and the book, and has seen all of the list
    pub record IsCalled (m m' : Seated E B) : Type 0 where
      pub book : B
      pub now : m' ≡ (serving (entries book) m.0, (0, Some book) ∷ m.1)
      pub rest : is_at_rest book
      pub seen : IsPrefix m.0.seen (entries book)

    -- the word is the caller's ticket and it is called, or nothing changed
    abbrev pub Watches : Seated E B → ℕ → Seated E B → Type 0
    Watches m r m' = (n : ℕ) → m.0.stage ≡ Waiting n → (r ≡ n % 2 ^ 64 → IsCalled m m') × (r ≢ n % 2 ^ 64 → m' ≡ m)

  -- the caller gave the book back with one entry more, and its turn is over: the entry went last
  abbrev pub PassesWith : (B → List E) → Seated E B → ℕ → Seated E B → Type 0
  PassesWith entries m r m' =
      (book : B) (entry : E) → m.1 ≡ (0, Some book) ∷ [] → entries book ≡ m.0.seen ++ entry ∷ []
      → m' ≡ (left_with (m.0.seen ++ entry ∷ []) ((length m.0.seen, entry) ∷ []) m.0, [])

  -- the caller's turn is over
  abbrev pub Passes : Seated E B → ℕ → Seated E B → Type 0
  Passes m r m' = m' ≡ (left_with m.0.seen [] m.0, [])

  -- what the caller was told and what it had seen are beginnings of what it has seen now, which is one of the two
  abbrev pub Compares : Seated E B → ℕ → Seated E B → Type 0
  Compares m r m' = (list : List E) × IsPrefix m.0.seen list × IsPrefix m.0.told list × ((list ≡ m.0.seen) ⊎ (list ≡ m.0.told)) × (m' ≡ (informed list m.0, m.1))
