-- Punctuators, with other bytes behind them.
use Rattle.std.proofs.Common.{◌≡◌, ℕ, ◌<◌, Bool, true, false, cond, not, eqb, nat_eq, List, [], ◌∷◌, Some, refl, sym, ap, ◌∙◌, subst, arith}
use Rattle.std.proofs.lemmas.Bool.{eqb-true, and_parts, or_parts}
use Rattle.std.specs.Cmp.Lexicographic.{pointwise}
use Rattle.esb_token.specs.declared.kind.Kind.{Kind}
use Rattle.esb_token.specs.declared.kind.Kind.TheVariants as k
use Rattle.esb_token.specs.declared.goal.Goal.TheVariants as goal
use Rattle.esb_token.specs.Goals.{goal_of}
use Rattle.esb_token.specs.Characters.{code_point, is_digit, at_line_end}
use Rattle.esb_token.specs.Gaps.{separator, comment}
use Rattle.esb_token.specs.Names.{word_in}
use Rattle.esb_token.specs.Punctuators.{punctuator, operator, star, less, greater, equals, exclamation, question, dot}
use Rattle.esb_token.specs.Tokens.{division, slash, right_brace, token}
use Rattle.esb_token.specs.Grammar.{punctuators}
use Rattle.esb_print.proofs.Behind.{is_joint, is_quiet, joint_other, quiet_other, follows, plain-solid, Kept}

-- ---- what holds of each entry of a table

abbrev pub Entries : (List ℕ → Kind → Type 0) → List (List ℕ × Kind) → Type 0
Entries P [] = Unit {0}
Entries P (e ∷ es) = P e.0 e.1 × Entries P es

same_bytes : (xs ys : List ℕ) → pointwise nat_eq xs ys ≡ true → xs ≡ ys
same_bytes [] [] h = refl
same_bytes [] (y ∷ ys) h = cc
same_bytes (x ∷ xs) [] h = cc
same_bytes (x ∷ xs) (y ∷ ys) h =
    let b = and_parts _ _ h in
    ap (λ n. n ∷ xs) (eqb-true x y b.0) ∙ ap (λ zs. y ∷ zs) (same_bytes xs ys b.1)

some_is : (a b : Kind) → Some a ≡ Some b → a ≡ b
some_is a b h = cc

pub entry-of : (P : List ℕ → Kind → Type 0) (table : List (List ℕ × Kind)) (bytes : List ℕ) (kind : Kind) → word_in table bytes ≡ Some kind → Entries P table → P bytes kind
entry-of P [] bytes kind h all = cc
entry-of P (e ∷ es) bytes kind h all = by (λ later. entry-of P es bytes kind later all.1) (pointwise nat_eq bytes e.0) refl h
  where
    by : (word_in es bytes ≡ Some kind → P bytes kind) → (t : Bool) → pointwise nat_eq bytes e.0 ≡ t → cond t (Some e.1) (word_in es bytes) ≡ Some kind → P bytes kind
    by later true is found = subst (λ x. P x kind) (sym (same_bytes bytes e.0 is)) (subst (λ x. P e.0 x) (some_is e.1 kind found) all.0)
    by later false is found = later found

-- ---- punctuators

-- a punctuator is read whatever it is that may follow it
abbrev pub Stays : List ℕ → Kind → Type 0
Stays bytes kind = (d : ℕ) (z : List ℕ) → follows kind d ≡ true → Kept (goal_of kind) kind bytes (d ∷ z)

solid : (b : ℕ) (x : List ℕ) → 32 < b → b < 127 → eqb b 47 ≡ false → separator (b ∷ x) ≡ 0
solid = plain-solid

-- how each is read: what may follow makes none longer
read_dot : (d : ℕ) (z : List ℕ) → follows k.Dot d ≡ true → token goal.Div (46 ∷ d ∷ z) ≡ Some (k.Dot, 1)
unfolding token punctuator dot
read_dot d z h = let no = or_parts (is_digit d) (eqb d 46) (not_true _ h) in rw (no.0, no.1) refl
  where
    not_true : (t : Bool) → not t ≡ true → t ≡ false
    not_true true e = cc
    not_true false e = refl

read_question_dot : (d : ℕ) (z : List ℕ) → follows k.QuestionDot d ≡ true → token goal.Div (63 ∷ 46 ∷ d ∷ z) ≡ Some (k.QuestionDot, 2)
unfolding token punctuator operator question
read_question_dot d z h = rw (h) refl

read_question : (d : ℕ) (z : List ℕ) → is_quiet d ≡ true → token goal.Div (63 ∷ d ∷ z) ≡ Some (k.Question, 1)
unfolding token punctuator operator question
read_question d z h = rw (quiet_other d 63 h refl, quiet_other d 46 h refl) refl

read_slash : (d : ℕ) (z : List ℕ) → is_joint d ≡ true → token goal.Div (47 ∷ d ∷ z) ≡ Some (k.Slash, 1)
unfolding token slash division
read_slash d z h = rw (joint_other d 42 h refl, joint_other d 61 h refl) refl

solid_slash : (d : ℕ) (z : List ℕ) → eqb d 47 ≡ false → eqb d 42 ≡ false → separator (47 ∷ d ∷ z) ≡ 0
unfolding separator comment at_line_end code_point
solid_slash d z slash star = rw (slash, star) refl

pub stays : Entries Stays punctuators
unfolding token slash division right_brace punctuator operator star less greater equals exclamation question dot
stays = (
  λ d z h. record { read = refl; solid = solid 123 _ (omega arith) (omega arith) refl },
  (
    λ d z h. record { read = refl; solid = solid 125 _ (omega arith) (omega arith) refl },
    (
      λ d z h. record { read = refl; solid = solid 40 _ (omega arith) (omega arith) refl },
      (
        λ d z h. record { read = refl; solid = solid 41 _ (omega arith) (omega arith) refl },
        (
          λ d z h. record { read = refl; solid = solid 91 _ (omega arith) (omega arith) refl },
          (
            λ d z h. record { read = refl; solid = solid 93 _ (omega arith) (omega arith) refl },
            (
              λ d z h. record { read = read_dot d z h; solid = solid 46 _ (omega arith) (omega arith) refl },
              (
                λ d z h. record { read = refl; solid = solid 46 _ (omega arith) (omega arith) refl },
                (
                  λ d z h. record { read = refl; solid = solid 59 _ (omega arith) (omega arith) refl },
                  (
                    λ d z h. record { read = refl; solid = solid 44 _ (omega arith) (omega arith) refl },
                    (
                      λ d z h. record { read = refl; solid = solid 58 _ (omega arith) (omega arith) refl },
                      (
                        λ d z h. record { read = refl; solid = solid 126 _ (omega arith) (omega arith) refl },
                        (
                          λ d z h. record { read = rw (joint_other d 60 h refl, joint_other d 61 h refl) refl; solid = solid 60 _ (omega arith) (omega arith) refl },
                          (
                            λ d z h. record { read = refl; solid = solid 60 _ (omega arith) (omega arith) refl },
                            (
                              λ d z h. record { read = rw (joint_other d 61 h refl) refl; solid = solid 60 _ (omega arith) (omega arith) refl },
                              (
                                λ d z h. record { read = refl; solid = solid 60 _ (omega arith) (omega arith) refl },
                                (
                                  λ d z h. record { read = rw (joint_other d 62 h refl, joint_other d 61 h refl) refl; solid = solid 62 _ (omega arith) (omega arith) refl },
                                  (
                                    λ d z h. record { read = refl; solid = solid 62 _ (omega arith) (omega arith) refl },
                                    (
                                      λ d z h. record { read = rw (joint_other d 62 h refl, joint_other d 61 h refl) refl; solid = solid 62 _ (omega arith) (omega arith) refl },
                                      (
                                        λ d z h. record { read = refl; solid = solid 62 _ (omega arith) (omega arith) refl },
                                        (
                                          λ d z h. record { read = rw (joint_other d 61 h refl) refl; solid = solid 62 _ (omega arith) (omega arith) refl },
                                          (
                                            λ d z h. record { read = refl; solid = solid 62 _ (omega arith) (omega arith) refl },
                                            (
                                              λ d z h. record { read = rw (joint_other d 61 h refl, joint_other d 62 h refl) refl; solid = solid 61 _ (omega arith) (omega arith) refl },
                                              (
                                                λ d z h. record { read = rw (joint_other d 61 h refl) refl; solid = solid 61 _ (omega arith) (omega arith) refl },
                                                (
                                                  λ d z h. record { read = refl; solid = solid 61 _ (omega arith) (omega arith) refl },
                                                  (
                                                    λ d z h. record { read = refl; solid = solid 61 _ (omega arith) (omega arith) refl },
                                                    (
                                                      λ d z h. record { read = rw (joint_other d 61 h refl) refl; solid = solid 33 _ (omega arith) (omega arith) refl },
                                                      (
                                                        λ d z h. record { read = rw (joint_other d 61 h refl) refl; solid = solid 33 _ (omega arith) (omega arith) refl },
                                                        (
                                                          λ d z h. record { read = refl; solid = solid 33 _ (omega arith) (omega arith) refl },
                                                          (
                                                            λ d z h. record { read = rw (joint_other d 43 h refl, joint_other d 61 h refl) refl; solid = solid 43 _ (omega arith) (omega arith) refl },
                                                            (
                                                              λ d z h. record { read = refl; solid = solid 43 _ (omega arith) (omega arith) refl },
                                                              (
                                                                λ d z h. record { read = refl; solid = solid 43 _ (omega arith) (omega arith) refl },
                                                                (
                                                                  λ d z h. record { read = rw (joint_other d 45 h refl, joint_other d 61 h refl) refl; solid = solid 45 _ (omega arith) (omega arith) refl },
                                                                  (
                                                                    λ d z h. record { read = refl; solid = solid 45 _ (omega arith) (omega arith) refl },
                                                                    (
                                                                      λ d z h. record { read = refl; solid = solid 45 _ (omega arith) (omega arith) refl },
                                                                      (
                                                                        λ d z h. record { read = rw (joint_other d 42 h refl, joint_other d 61 h refl) refl; solid = solid 42 _ (omega arith) (omega arith) refl },
                                                                        (
                                                                          λ d z h. record { read = refl; solid = solid 42 _ (omega arith) (omega arith) refl },
                                                                          (
                                                                            λ d z h. record { read = rw (joint_other d 61 h refl) refl; solid = solid 42 _ (omega arith) (omega arith) refl },
                                                                            (
                                                                              λ d z h. record { read = refl; solid = solid 42 _ (omega arith) (omega arith) refl },
                                                                              (
                                                                                λ d z h. record { read = read_slash d z h; solid = solid_slash d z (joint_other d 47 h refl) (joint_other d 42 h refl) },
                                                                                (
                                                                                  λ d z h. record { read = refl; solid = solid_slash 61 (d ∷ z) refl refl },
                                                                                  (
                                                                                    λ d z h. record { read = rw (joint_other d 61 h refl) refl; solid = solid 37 _ (omega arith) (omega arith) refl },
                                                                                    (
                                                                                      λ d z h. record { read = refl; solid = solid 37 _ (omega arith) (omega arith) refl },
                                                                                      (
                                                                                        λ d z h. record { read = rw (joint_other d 38 h refl, joint_other d 61 h refl) refl; solid = solid 38 _ (omega arith) (omega arith) refl },
                                                                                        (
                                                                                          λ d z h. record { read = refl; solid = solid 38 _ (omega arith) (omega arith) refl },
                                                                                          (
                                                                                            λ d z h. record { read = refl; solid = solid 38 _ (omega arith) (omega arith) refl },
                                                                                            (
                                                                                              λ d z h. record { read = rw (joint_other d 124 h refl, joint_other d 61 h refl) refl; solid = solid 124 _ (omega arith) (omega arith) refl },
                                                                                              (
                                                                                                λ d z h. record { read = refl; solid = solid 124 _ (omega arith) (omega arith) refl },
                                                                                                (
                                                                                                  λ d z h. record { read = refl; solid = solid 124 _ (omega arith) (omega arith) refl },
                                                                                                  (
                                                                                                    λ d z h. record { read = rw (joint_other d 61 h refl) refl; solid = solid 94 _ (omega arith) (omega arith) refl },
                                                                                                    (
                                                                                                      λ d z h. record { read = refl; solid = solid 94 _ (omega arith) (omega arith) refl },
                                                                                                      (
                                                                                                        λ d z h. record { read = read_question d z h; solid = solid 63 _ (omega arith) (omega arith) refl },
                                                                                                        (
                                                                                                          λ d z h. record { read = refl; solid = solid 63 _ (omega arith) (omega arith) refl },
                                                                                                          (
                                                                                                            λ d z h. record { read = read_question_dot d z h; solid = solid 63 _ (omega arith) (omega arith) refl },
                                                                                                            (
                                                                                                                tt),
                                                                                                          ),
                                                                                                        ),
                                                                                                      ),
                                                                                                    ),
                                                                                                  ),
                                                                                                ),
                                                                                              ),
                                                                                            ),
                                                                                          ),
                                                                                        ),
                                                                                      ),
                                                                                    ),
                                                                                  ),
                                                                                ),
                                                                              ),
                                                                            ),
                                                                          ),
                                                                        ),
                                                                      ),
                                                                    ),
                                                                  ),
                                                                ),
                                                              ),
                                                            ),
                                                          ),
                                                        ),
                                                      ),
                                                    ),
                                                  ),
                                                ),
                                              ),
                                            ),
                                          ),
                                        ),
                                      ),
                                    ),
                                  ),
                                ),
                              ),
                            ),
                          ),
                        ),
                      ),
                    ),
                  ),
                ),
              ),
            ),
          ),
        ),
      ),
    ),
  ),
)
