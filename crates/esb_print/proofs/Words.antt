-- Names and reserved words, with other bytes behind them.
use Rattle.std.proofs.Common.{◌≡◌, ℕ, ◌+◌, ◌<◌, ◌≤◌, Bool, true, false, ◌||◌, eqb, nat_lt, nat_le, List, [], ◌∷◌, ◌++◌, length, take, drop, Some, None, refl, sym, ap, ◌∙◌, subst, arith, append_assoc, length-append}
use Rattle.std.proofs.lemmas.List.{drop_at, take_at}
use Rattle.std.proofs.lemmas.Bool.{ne_eqb, or_parts, both_ways, cond-false, cond-true, leb-false, lt-ltb, true_from_ne_false}
use Rattle.std.proofs.lemmas.Bool.Decides.{nat_tests}
use Rattle.esb_token.specs.declared.goal.Goal.{Goal}
use Rattle.esb_token.specs.Runs.{run}
use Rattle.esb_token.specs.Characters.{width, code_point, is_digit, is_letter, is_identifier_start, is_identifier_part}
use Rattle.esb_token.specs.Gaps.{separator}
use Rattle.esb_token.specs.Names.{name, reserved, word_kind, identifier_start, identifier_part}
use Rattle.esb_token.specs.Punctuators.{punctuator, operator}
use Rattle.esb_token.specs.Tokens.{token}
use Rattle.esb_token.specs.Grammar.{joined, IsPart, AreParts}
use Rattle.esb_token.proofs.Parts.{run_closed}
use Rattle.esb_print.proofs.Wide.{Whole, whole_behind}
use Rattle.esb_print.proofs.Pieces.{piece-same, piece-wide, separator-same}
use Rattle.esb_print.proofs.Behind.{is_joint, joint-no_part, Kept, parts_keep}

-- ---- the first byte of a name

abbrev pub begins_name : ℕ → Bool
begins_name b = eqb b 92 || (nat_le 128 b || ((is_letter b || eqb b 36) || eqb b 95))

no_name : (b : ℕ) (rest : List ℕ) → begins_name b ≡ false → identifier_start (b ∷ rest) ≡ 0
unfolding identifier_start code_point
no_name b rest h =
    let slash = (or_parts _ _ h).0 in
    let wide = (or_parts _ _ (or_parts _ _ h).1).0 in
    let others = (or_parts _ _ (or_parts _ _ h).1).1 in
    let small : nat_lt b 128 ≡ true = lt-ltb b 128 (leb-false 128 b wide) in
    let point : code_point (b ∷ rest) ≡ b = cond-true (nat_lt b 128) b _ small in
    let not_start : is_identifier_start b ≡ false = cond-true (nat_lt b 128) _ _ small ∙ others in
    cond-false (eqb b 92) _ _ slash ∙ cond-false (is_identifier_start (code_point (b ∷ rest))) _ 0 (ap is_identifier_start point ∙ not_start)

pub first_of_name : (b : ℕ) (rest : List ℕ) → 0 < identifier_start (b ∷ rest) → begins_name b ≡ true
first_of_name b rest some = true_from_ne_false (begins_name b) (λ h. let none = no_name b rest h in omega (arith, none, some))

pub name_other : (b c : ℕ) → begins_name b ≡ true → begins_name c ≡ false → eqb b c ≡ false
name_other b c h none = ne_eqb b c (λ e. both_ways (begins_name c) none (subst (λ x. begins_name x ≡ true) e h))

pub name_no_digit : (b : ℕ) → begins_name b ≡ true → is_digit b ≡ false
name_no_digit b h = grind (arith, nat_tests)

no_punctuator : (b : ℕ) (rest : List ℕ) → begins_name b ≡ true → punctuator (b ∷ rest) ≡ None
unfolding punctuator operator
no_punctuator b rest h =
    rw (name_other b 40 h refl, name_other b 41 h refl, name_other b 44 h refl, name_other b 46 h refl, name_other b 58 h refl, name_other b 59 h refl, name_other b 91 h refl, name_other b 93 h refl, name_other b 123 h refl, name_other b 126 h refl)
    (rw (name_other b 43 h refl, name_other b 45 h refl, name_other b 38 h refl, name_other b 124 h refl, name_other b 42 h refl, name_other b 60 h refl, name_other b 62 h refl, name_other b 61 h refl, name_other b 33 h refl, name_other b 63 h refl, name_other b 37 h refl, name_other b 94 h refl) refl)

token_name : (g : Goal) (b : ℕ) (rest : List ℕ) → begins_name b ≡ true → token g (b ∷ rest) ≡ name (b ∷ rest)
unfolding token
token_name g b rest h =
    let none = no_punctuator b rest h in
    rw (name_other b 47 h refl, name_other b 125 h refl, name_other b 96 h refl, name_other b 34 h refl, name_other b 39 h refl, name_no_digit b h, name_other b 46 h refl, none) refl

-- ---- pieces

start_same : (bytes r y z : List ℕ) → Whole (bytes ++ (r ++ y)) → 0 < length bytes → identifier_start (bytes ++ (r ++ y)) ≡ length bytes → identifier_start (bytes ++ (r ++ z)) ≡ length bytes
unfolding identifier_start
start_same bytes r y z whole some h = piece-same is_identifier_start bytes (r ++ y) (r ++ z) refl whole some h

part_same : (y z p r : List ℕ) → Whole (p ++ (r ++ y)) → 0 < length p → identifier_part (p ++ (r ++ y)) ≡ length p → identifier_part (p ++ (r ++ z)) ≡ length p
unfolding identifier_part
part_same y z p r whole some h = piece-same is_identifier_part p (r ++ y) (r ++ z) refl whole some h

start_wide : (b : ℕ) (bs y : List ℕ) → Whole (b ∷ (bs ++ y)) → identifier_start (b ∷ (bs ++ y)) ≡ length (b ∷ bs) → width b ≤ length (b ∷ bs)
unfolding identifier_start
start_wide b bs y whole h = piece-wide is_identifier_start b bs y refl whole h

-- ---- names

name-is : (start : List ℕ) (parts : List (List ℕ)) (z : List ℕ) → 0 < length start → identifier_start (start ++ (joined parts ++ z)) ≡ length start → AreParts identifier_part parts z → identifier_part z ≡ 0
    → name (start ++ (joined parts ++ z)) ≡ Some (word_kind (reserved (start ++ joined parts)), length (start ++ joined parts))
unfolding name
name-is start parts z some first each none =
    let rest = joined parts ++ z in
    let text = start ++ rest in
    let begun : eqb (identifier_start text) 0 ≡ false = ne_eqb _ _ (λ e. absurd (omega (arith, e, first, some))) in
    let moved : run identifier_part (drop (identifier_start text) text) ≡ run identifier_part rest = ap (run identifier_part) (drop_at start rest (identifier_start text) (sym first)) in
    let count : run identifier_part rest ≡ length (joined parts) = run_closed identifier_part parts z each none in
    let size : identifier_start text + run identifier_part (drop (identifier_start text) text) ≡ length (start ++ joined parts) = omega (arith, first, moved, count, length-append start (joined parts)) in
    let word : take (length (start ++ joined parts)) text ≡ start ++ joined parts = ap (take (length (start ++ joined parts))) (sym (append_assoc start (joined parts) z)) ∙ take_at (start ++ joined parts) z _ refl in
    cond-false _ None _ begun ∙ ap (λ n. Some (word_kind (reserved (take n text)), n)) size ∙ ap (λ w. Some (word_kind (reserved w), length (start ++ joined parts))) word

name-read : (g : Goal) (start : List ℕ) (parts : List (List ℕ)) (z : List ℕ) → 0 < length start → identifier_start (start ++ (joined parts ++ z)) ≡ length start → AreParts identifier_part parts z → identifier_part z ≡ 0
    → token g (start ++ (joined parts ++ z)) ≡ Some (word_kind (reserved (start ++ joined parts)), length (start ++ joined parts))
name-read g [] parts z some first each none = absurd (omega (arith, some))
name-read g (b ∷ s) parts z some first each none = token_name g b (s ++ (joined parts ++ z)) (first_of_name b (s ++ (joined parts ++ z)) (omega (arith, first, some))) ∙ name-is (b ∷ s) parts z some first each none

-- the first character is no white space, whatever stands behind it
name-solid : (start r y z : List ℕ) → Whole (start ++ (r ++ y)) → 0 < length start → identifier_start (start ++ (r ++ y)) ≡ length start → separator (start ++ (r ++ y)) ≡ 0 → separator (start ++ (r ++ z)) ≡ 0
name-solid [] r y z whole some h solid = absurd (omega (arith, some))
name-solid (b ∷ s) r y z whole some h solid =
    let begins = first_of_name b (s ++ (r ++ y)) (omega (arith, h)) in
    sym (separator-same b s (r ++ y) (r ++ z) (start_wide b s (r ++ y) whole h) (name_other b 47 begins refl)) ∙ solid

pub name-keep : (g : Goal) (start : List ℕ) (parts : List (List ℕ)) (y : List ℕ) (d : ℕ) (z : List ℕ)
    → IsPart identifier_start start (joined parts ++ y) → AreParts identifier_part parts y → Whole ((start ++ joined parts) ++ y) → separator ((start ++ joined parts) ++ y) ≡ 0 → is_joint d ≡ true
    → Kept g (word_kind (reserved (start ++ joined parts))) (start ++ joined parts) (d ∷ z)
name-keep g start parts y d z h each whole solid joint =
    let moved : Whole (start ++ (joined parts ++ y)) = subst Whole (append_assoc start (joined parts) y) whole in
    let first = start_same start (joined parts) y (d ∷ z) moved h.0 h.1 in
    let later = parts_keep identifier_part y (d ∷ z) Whole whole_behind (part_same y (d ∷ z)) parts (whole_behind start (joined parts ++ y) moved) each in
    record {
      read = ap (token g) (append_assoc start (joined parts) (d ∷ z)) ∙ name-read g start parts (d ∷ z) h.0 first later (joint-no_part d z joint);
      solid = ap separator (append_assoc start (joined parts) (d ∷ z)) ∙ name-solid start (joined parts) y (d ∷ z) moved h.0 h.1 (ap separator (sym (append_assoc start (joined parts) y)) ∙ solid);
    }
