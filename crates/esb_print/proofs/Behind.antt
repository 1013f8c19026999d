-- Bytes that may stand behind a token.
use Rattle.std.proofs.Common.{◌≡◌, inl, inr, ℕ, ◌<◌, ◌≤◌, Bool, true, false, not, ◌||◌, eqb, nat_lt, List, [], ◌∷◌, ◌++◌, length, Some, refl, sym, subst, arith, append_assoc}
use Rattle.std.proofs.lemmas.Bool.{eqb-true, ne_eqb, or_cases, both_ways, lt-ltb}
use Rattle.esb_token.specs.declared.kind.Kind.{Kind}
use Rattle.esb_token.specs.declared.kind.Kind.TheVariants as k
use Rattle.esb_token.specs.declared.goal.Goal.{Goal}
use Rattle.esb_token.specs.Characters.{code_point, is_digit, at_line_end}
use Rattle.esb_token.specs.Gaps.{separator, comment}
use Rattle.esb_token.specs.Grammar.{joined, AreParts}
use Rattle.esb_token.specs.Names.{identifier_start, identifier_part, identifier_character}
use Rattle.esb_token.specs.Tokens.{token}

-- ---- bytes of a list

abbrev pub is_among : ℕ → List ℕ → Bool
is_among d [] = false
is_among d (c ∷ cs) = eqb d c || is_among d cs

abbrev pub Each : (ℕ → Type 0) → List ℕ → Type 0
Each P [] = Unit {0}
Each P (c ∷ cs) = P c × Each P cs

pub among : (P : ℕ → Type 0) (cs : List ℕ) (d : ℕ) → is_among d cs ≡ true → Each P cs → P d
among P [] d h each = cc
among P (c ∷ cs) d h each = elim (or_cases (eqb d c) (is_among d cs) h) [
  | inl e ↦ subst P (sym (eqb-true d c e)) each.0
  | inr e ↦ among P cs d e each.1
]

-- a space, a line feed, and what stands directly behind any token: `)`, `]`, `;`, `,`, `:`, `}`, `(` and `[`
abbrev pub quiet_bytes : List ℕ
quiet_bytes = 32 ∷ 10 ∷ 41 ∷ 93 ∷ 59 ∷ 44 ∷ 58 ∷ 125 ∷ 40 ∷ 91 ∷ []

abbrev pub is_quiet : ℕ → Bool
is_quiet d = is_among d quiet_bytes

-- those, with the first bytes of `.` and `?.`
abbrev pub joint_bytes : List ℕ
joint_bytes = 46 ∷ 63 ∷ quiet_bytes

abbrev pub is_joint : ℕ → Bool
is_joint d = is_among d joint_bytes

pub quiet_joint : (d : ℕ) → is_quiet d ≡ true → is_joint d ≡ true
quiet_joint d h = among (λ x. is_joint x ≡ true) quiet_bytes d h (refl, (refl, (refl, (refl, (refl, (refl, (refl, (refl, (refl, (refl, tt))))))))))

pub joint_other : (d c : ℕ) → is_joint d ≡ true → is_joint c ≡ false → eqb d c ≡ false
joint_other d c h none = ne_eqb d c (λ e. both_ways (is_joint c) none (subst (λ x. is_joint x ≡ true) e h))

pub quiet_other : (d c : ℕ) → is_quiet d ≡ true → is_quiet c ≡ false → eqb d c ≡ false
quiet_other d c h none = ne_eqb d c (λ e. both_ways (is_quiet c) none (subst (λ x. is_quiet x ≡ true) e h))

-- none of them goes on with a name
pub joint-no_part : (d : ℕ) (z : List ℕ) → is_joint d ≡ true → identifier_part (d ∷ z) ≡ 0
unfolding identifier_part code_point
joint-no_part d z h = among (λ x. identifier_part (x ∷ z) ≡ 0) joint_bytes d h (refl, (refl, (refl, (refl, (refl, (refl, (refl, (refl, (refl, (refl, (refl, (refl, tt))))))))))))

pub joint-no_start : (d : ℕ) (z : List ℕ) → is_joint d ≡ true → identifier_start (d ∷ z) ≡ 0
unfolding identifier_start code_point
joint-no_start d z h = among (λ x. identifier_start (x ∷ z) ≡ 0) joint_bytes d h (refl, (refl, (refl, (refl, (refl, (refl, (refl, (refl, (refl, (refl, (refl, (refl, tt))))))))))))

pub joint-no_flag : (d : ℕ) (z : List ℕ) → is_joint d ≡ true → identifier_character (d ∷ z) ≡ 0
unfolding identifier_character code_point
joint-no_flag d z h = among (λ x. identifier_character (x ∷ z) ≡ 0) joint_bytes d h (refl, (refl, (refl, (refl, (refl, (refl, (refl, (refl, (refl, (refl, (refl, (refl, tt))))))))))))

-- ---- bytes that may follow a token of a kind, so that it isn't longer

abbrev pub follows : Kind → ℕ → Bool
follows k.Number d = is_quiet d
follows k.BigInt d = is_quiet d
follows k.Question d = is_quiet d
follows k.Dot d = not (is_digit d || eqb d 46)
follows k.QuestionDot d = not (is_digit d)
follows k.LeftParenthesis d = true
follows k.LeftBracket d = true
follows k.Ellipsis d = true
follows k.TemplateHead d = true
follows k.TemplateMiddle d = true
follows _ d = is_joint d

-- ---- what is read

-- these bytes are read as a token of a kind, with the others behind them, and as no white space or comment
pub record Kept (g : Goal) (kind : Kind) (bytes z : List ℕ) : Type 0 where
  pub read : token g (bytes ++ z) ≡ Some (kind, length bytes)
  pub solid : separator (bytes ++ z) ≡ 0

-- a byte that separates no tokens
pub plain-solid : (b : ℕ) (x : List ℕ) → 32 < b → b < 127 → eqb b 47 ≡ false → separator (b ∷ x) ≡ 0
unfolding separator comment at_line_end code_point
plain-solid b x low high slash =
    let other : (c : ℕ) → c ≤ 32 → eqb b c ≡ false = λ c small. ne_eqb b c (λ e. absurd (omega (arith, e, low, small))) in
    let wide : eqb b 226 ≡ false = ne_eqb b 226 (λ e. absurd (omega (arith, e, high))) in
    let small : nat_lt b 128 ≡ true = lt-ltb b 128 (omega (arith, high)) in
    rw (other 10 (omega arith), other 13 (omega arith), wide, small, small, other 32 (omega arith), other 9 (omega arith), other 11 (omega arith), other 12 (omega arith), slash) refl

-- ---- parts in a row, with other bytes behind them

pub parts_keep : (part : List ℕ → ℕ) (y z : List ℕ) (Good : List ℕ → Type 0) → ((xs ys : List ℕ) → Good (xs ++ ys) → Good ys)
    → ((p r : List ℕ) → Good (p ++ (r ++ y)) → 0 < length p → part (p ++ (r ++ y)) ≡ length p → part (p ++ (r ++ z)) ≡ length p)
    → (ps : List (List ℕ)) → Good (joined ps ++ y) → AreParts part ps y → AreParts part ps z
parts_keep part y z Good later same [] good h = tt
parts_keep part y z Good later same (p ∷ ps) good h =
    let moved : Good (p ++ (joined ps ++ y)) = subst Good (append_assoc p (joined ps) y) good in
    ((h.0.0, same p (joined ps) moved h.0.0 h.0.1), parts_keep part y z Good later same ps (later p (joined ps ++ y) moved) h.1)
