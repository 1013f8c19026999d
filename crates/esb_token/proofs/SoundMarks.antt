-- Punctuators that the lexer takes are punctuators by the table.
use Rattle.std.proofs.Common.{◌≡◌, ℕ, ◌+◌, ◌<◌, Bool, true, false, cond, not, ◌&&◌, eqb, List, [], ◌∷◌, ◌++◌, length, slice_index, Some, None, refl, sym, ap, ◌∙◌, subst, arith, append_assoc, length-append}
use Rattle.std.proofs.lemmas.Bool.{eqb-true, and_parts, not_from_false}
use Rattle.esb_token.specs.declared.kind.Kind.{Kind}
use Rattle.esb_token.specs.declared.kind.Kind.TheVariants as k
use Rattle.esb_token.specs.Characters.{is_digit}
use Rattle.esb_token.specs.Names.{Piece, word_in}
use Rattle.esb_token.specs.Punctuators.{with_equals, twice_or_equals, punctuator, operator, star, less, greater, equals, exclamation, question, dot}
use Rattle.esb_token.specs.Tokens.{division}
use Rattle.esb_token.specs.Grammar.{punctuators, may_precede}
use Rattle.esb_token.proofs.Sound.{first_is, at_rest_first}

-- a punctuator with the kind and the bytes of a pair
pub record IsMark (text : List ℕ) (p : Kind × ℕ) : Type 0 where
  pub bytes : List ℕ
  pub after : List ℕ
  pub split : text ≡ bytes ++ after
  pub size : length bytes ≡ p.1
  pub entry : word_in punctuators bytes ≡ Some p.0
  pub may : may_precede p.0 after ≡ true

mark : (kind : Kind) (bytes after : List ℕ) → word_in punctuators bytes ≡ Some kind → may_precede kind after ≡ true → IsMark (bytes ++ after) (kind, length bytes)
mark kind bytes after e m = record { bytes = bytes; after = after; split = refl; size = refl; entry = e; may = m }

pick : (text : List ℕ) (t : Bool) (x y : Kind × ℕ) → (t ≡ true → IsMark text x) → (t ≡ false → IsMark text y) → IsMark text (cond t x y)
pick text true x y hx hy = hx refl
pick text false x y hx hy = hy refl

-- the byte behind a punctuator, where it is known
next_byte : (P : List ℕ → Type 0) (b : ℕ) (text : List ℕ) → eqb (slice_index text 0) b ≡ true → 0 < b → ((rest : List ℕ) → P (b ∷ rest)) → P text
next_byte P b text e some h = let f = first_is b text (eqb-true _ _ e) some in subst P (sym f.is) (h f.rest)

-- a punctuator, or with a `=` another
signs : (plain assigned : Kind) (bytes rest : List ℕ) → word_in punctuators bytes ≡ Some plain → word_in punctuators (bytes ++ 61 ∷ []) ≡ Some assigned → may_precede plain rest ≡ true → ((after : List ℕ) → may_precede assigned after ≡ true)
    → IsMark (bytes ++ rest) (with_equals plain assigned (length bytes) (bytes ++ rest))
signs plain assigned bytes rest e f m n =
    pick (bytes ++ rest) (eqb (slice_index (bytes ++ rest) (length bytes)) 61) (assigned, length bytes + 1) (plain, length bytes)
    (λ is. let r = first_is 61 rest (sym (at_rest_first bytes rest (length bytes) refl) ∙ eqb-true _ _ is) (omega arith) in
    record { bytes = bytes ++ 61 ∷ []; after = r.rest; split = ap (λ x. bytes ++ x) r.is ∙ sym (append_assoc bytes (61 ∷ []) r.rest); size = omega (arith, length-append bytes (61 ∷ [])); entry = f; may = n r.rest })
    (λ _. mark plain bytes rest e m)

doubles : (plain twice assigned : Kind) (b : ℕ) (rest : List ℕ) → 0 < b → word_in punctuators (b ∷ []) ≡ Some plain → word_in punctuators (b ∷ b ∷ []) ≡ Some twice → word_in punctuators (b ∷ 61 ∷ []) ≡ Some assigned
    → ((after : List ℕ) → may_precede plain after ≡ true) → ((after : List ℕ) → may_precede twice after ≡ true) → ((after : List ℕ) → may_precede assigned after ≡ true) → IsMark (b ∷ rest) (twice_or_equals plain twice assigned (b ∷ rest))
doubles plain twice assigned b rest some e f h m n o =
    pick (b ∷ rest) (eqb (slice_index rest 0) b) (twice, 2) (with_equals plain assigned 1 (b ∷ rest))
    (λ is. next_byte (λ x. IsMark (b ∷ x) (twice, 2)) b rest is some (λ u. mark twice (b ∷ b ∷ []) u f (n u)))
    (λ _. signs plain assigned (b ∷ []) rest e h (m rest) o)

less_mark : (rest : List ℕ) → IsMark (60 ∷ rest) (less (60 ∷ rest))
unfolding less
less_mark rest =
    pick (60 ∷ rest) (eqb (slice_index rest 0) 60) (with_equals k.ShiftLeft k.ShiftLeftAssign 2 (60 ∷ rest)) (with_equals k.Less k.LessEqual 1 (60 ∷ rest))
    (λ is. next_byte (λ x. IsMark (60 ∷ x) (with_equals k.ShiftLeft k.ShiftLeftAssign 2 (60 ∷ x))) 60 rest is (omega arith) (λ u. signs k.ShiftLeft k.ShiftLeftAssign (60 ∷ 60 ∷ []) u refl refl refl (λ _. refl)))
    (λ _. signs k.Less k.LessEqual (60 ∷ []) rest refl refl refl (λ _. refl))

star_mark : (rest : List ℕ) → IsMark (42 ∷ rest) (star (42 ∷ rest))
unfolding star
star_mark rest =
    pick (42 ∷ rest) (eqb (slice_index rest 0) 42) (with_equals k.StarStar k.StarStarAssign 2 (42 ∷ rest)) (with_equals k.Star k.StarAssign 1 (42 ∷ rest))
    (λ is. next_byte (λ x. IsMark (42 ∷ x) (with_equals k.StarStar k.StarStarAssign 2 (42 ∷ x))) 42 rest is (omega arith) (λ u. signs k.StarStar k.StarStarAssign (42 ∷ 42 ∷ []) u refl refl refl (λ _. refl)))
    (λ _. signs k.Star k.StarAssign (42 ∷ []) rest refl refl refl (λ _. refl))

right_shift_mark : (rest : List ℕ) → IsMark (62 ∷ 62 ∷ rest) (cond (eqb (slice_index rest 0) 62) (with_equals k.ShiftRightUnsigned k.ShiftRightUnsignedAssign 3 (62 ∷ 62 ∷ rest)) (with_equals k.ShiftRight k.ShiftRightAssign 2 (62 ∷ 62 ∷ rest)))
right_shift_mark rest =
    pick (62 ∷ 62 ∷ rest) (eqb (slice_index rest 0) 62) (with_equals k.ShiftRightUnsigned k.ShiftRightUnsignedAssign 3 (62 ∷ 62 ∷ rest)) (with_equals k.ShiftRight k.ShiftRightAssign 2 (62 ∷ 62 ∷ rest))
    (λ is. next_byte (λ x. IsMark (62 ∷ 62 ∷ x) (with_equals k.ShiftRightUnsigned k.ShiftRightUnsignedAssign 3 (62 ∷ 62 ∷ x))) 62 rest is (omega arith) (λ u. signs k.ShiftRightUnsigned k.ShiftRightUnsignedAssign (62 ∷ 62 ∷ 62 ∷ []) u refl refl refl (λ _. refl)))
    (λ _. signs k.ShiftRight k.ShiftRightAssign (62 ∷ 62 ∷ []) rest refl refl refl (λ _. refl))

greater_mark : (rest : List ℕ) → IsMark (62 ∷ rest) (greater (62 ∷ rest))
unfolding greater
greater_mark rest =
    pick (62 ∷ rest) (eqb (slice_index rest 0) 62) (cond (eqb (slice_index rest 1) 62) (with_equals k.ShiftRightUnsigned k.ShiftRightUnsignedAssign 3 (62 ∷ rest)) (with_equals k.ShiftRight k.ShiftRightAssign 2 (62 ∷ rest))) (with_equals k.Greater k.GreaterEqual 1 (62 ∷ rest))
    (λ is. next_byte (λ x. IsMark (62 ∷ x) (cond (eqb (slice_index x 1) 62) (with_equals k.ShiftRightUnsigned k.ShiftRightUnsignedAssign 3 (62 ∷ x)) (with_equals k.ShiftRight k.ShiftRightAssign 2 (62 ∷ x)))) 62 rest is (omega arith) right_shift_mark)
    (λ _. signs k.Greater k.GreaterEqual (62 ∷ []) rest refl refl refl (λ _. refl))

equals_mark : (rest : List ℕ) → IsMark (61 ∷ rest) (equals (61 ∷ rest))
unfolding equals
equals_mark rest =
    pick (61 ∷ rest) (eqb (slice_index rest 0) 61) (with_equals k.Equal k.StrictEqual 2 (61 ∷ rest)) (cond (eqb (slice_index rest 0) 62) (k.Arrow, 2) (k.Assign, 1))
    (λ is. next_byte (λ x. IsMark (61 ∷ x) (with_equals k.Equal k.StrictEqual 2 (61 ∷ x))) 61 rest is (omega arith) (λ u. signs k.Equal k.StrictEqual (61 ∷ 61 ∷ []) u refl refl refl (λ _. refl)))
    (λ _. pick (61 ∷ rest) (eqb (slice_index rest 0) 62) (k.Arrow, 2) (k.Assign, 1)
    (λ is. next_byte (λ x. IsMark (61 ∷ x) (k.Arrow, 2)) 62 rest is (omega arith) (λ u. mark k.Arrow (61 ∷ 62 ∷ []) u refl refl))
    (λ _. mark k.Assign (61 ∷ []) rest refl refl))

exclamation_mark : (rest : List ℕ) → IsMark (33 ∷ rest) (exclamation (33 ∷ rest))
unfolding exclamation
exclamation_mark rest =
    pick (33 ∷ rest) (eqb (slice_index rest 0) 61) (with_equals k.NotEqual k.StrictNotEqual 2 (33 ∷ rest)) (k.Exclamation, 1)
    (λ is. next_byte (λ x. IsMark (33 ∷ x) (with_equals k.NotEqual k.StrictNotEqual 2 (33 ∷ x))) 61 rest is (omega arith) (λ u. signs k.NotEqual k.StrictNotEqual (33 ∷ 61 ∷ []) u refl refl refl (λ _. refl)))
    (λ _. mark k.Exclamation (33 ∷ []) rest refl refl)

question_mark : (rest : List ℕ) → IsMark (63 ∷ rest) (question (63 ∷ rest))
unfolding question
question_mark rest =
    pick (63 ∷ rest) (eqb (slice_index rest 0) 63) (k.QuestionQuestion, 2) (cond (eqb (slice_index rest 0) 46 && not (is_digit (slice_index rest 1))) (k.QuestionDot, 2) (k.Question, 1))
    (λ is. next_byte (λ x. IsMark (63 ∷ x) (k.QuestionQuestion, 2)) 63 rest is (omega arith) (λ u. mark k.QuestionQuestion (63 ∷ 63 ∷ []) u refl refl))
    (λ _. pick (63 ∷ rest) (eqb (slice_index rest 0) 46 && not (is_digit (slice_index rest 1))) (k.QuestionDot, 2) (k.Question, 1)
    (λ both. let b = and_parts _ _ both in (next_byte (λ x. not (is_digit (slice_index x 1)) ≡ true → IsMark (63 ∷ x) (k.QuestionDot, 2)) 46 rest b.0 (omega arith) (λ u may. mark k.QuestionDot (63 ∷ 46 ∷ []) u refl may)) b.1)
    (λ _. mark k.Question (63 ∷ []) rest refl refl))

dot_mark : (rest : List ℕ) → IsMark (46 ∷ rest) (dot (46 ∷ rest))
unfolding dot
dot_mark rest =
    pick (46 ∷ rest) (eqb (slice_index rest 0) 46 && eqb (slice_index rest 1) 46) (k.Ellipsis, 3) (k.Dot, 1)
    (λ both. let b = and_parts _ _ both in (next_byte (λ x. eqb (slice_index x 1) 46 ≡ true → IsMark (46 ∷ x) (k.Ellipsis, 3)) 46 rest b.0 (omega arith)
    (λ u second. next_byte (λ x. IsMark (46 ∷ 46 ∷ x) (k.Ellipsis, 3)) 46 u second (omega arith) (λ v. mark k.Ellipsis (46 ∷ 46 ∷ 46 ∷ []) v refl refl))) b.1)
    (λ _. mark k.Dot (46 ∷ []) rest refl refl)

-- ---- each punctuator

-- each piece that is given is a punctuator
unfoldable pub AllMarks : List ℕ → Piece → Type 0
AllMarks text piece = (p : Kind × ℕ) → piece ≡ Some p → IsMark text p

same_given : (p q : Kind × ℕ) → Some p ≡ Some q → p ≡ q
same_given p q e = cc

no_mark : (text : List ℕ) → AllMarks text None
unfolding AllMarks
no_mark text p e = cc

one_mark : (text : List ℕ) (p : Kind × ℕ) → IsMark text p → AllMarks text (Some p)
unfolding AllMarks
one_mark text p h q e = subst (λ (x : Kind × ℕ). IsMark text x) (same_given p q e) h

choose : (text : List ℕ) (t : Bool) (x y : Piece) → (t ≡ true → AllMarks text x) → (t ≡ false → AllMarks text y) → AllMarks text (cond t x y)
choose text true x y hx hy = hx refl
choose text false x y hx hy = hy refl

-- a text whose first byte is one of a punctuator
by_byte : (P : ℕ → Type 0) (b c : ℕ) → eqb b c ≡ true → P c → P b
by_byte P b c e h = subst P (sym (eqb-true b c e)) h

always : Kind → Type 0
always kind = (after : List ℕ) → may_precede kind after ≡ true

operator_marks : (b : ℕ) (rest : List ℕ) → AllMarks (b ∷ rest) (operator (b ∷ rest))
unfolding operator
operator_marks b rest =
    choose (b ∷ rest) (eqb b 43) _ _ (λ e. by_byte (λ x. AllMarks (x ∷ rest) (Some (twice_or_equals k.Plus k.PlusPlus k.PlusAssign (x ∷ rest)))) b 43 e (one_mark (43 ∷ rest) _ (doubles k.Plus k.PlusPlus k.PlusAssign 43 rest (omega arith) refl refl refl (λ _. refl) (λ _. refl) (λ _. refl)))) (λ _.
    choose (b ∷ rest) (eqb b 45) _ _ (λ e. by_byte (λ x. AllMarks (x ∷ rest) (Some (twice_or_equals k.Minus k.MinusMinus k.MinusAssign (x ∷ rest)))) b 45 e (one_mark (45 ∷ rest) _ (doubles k.Minus k.MinusMinus k.MinusAssign 45 rest (omega arith) refl refl refl (λ _. refl) (λ _. refl) (λ _. refl)))) (λ _.
    choose (b ∷ rest) (eqb b 38) _ _ (λ e. by_byte (λ x. AllMarks (x ∷ rest) (Some (twice_or_equals k.Ampersand k.AndAnd k.AmpersandAssign (x ∷ rest)))) b 38 e (one_mark (38 ∷ rest) _ (doubles k.Ampersand k.AndAnd k.AmpersandAssign 38 rest (omega arith) refl refl refl (λ _. refl) (λ _. refl) (λ _. refl)))) (λ _.
    choose (b ∷ rest) (eqb b 124) _ _ (λ e. by_byte (λ x. AllMarks (x ∷ rest) (Some (twice_or_equals k.Bar k.BarBar k.BarAssign (x ∷ rest)))) b 124 e (one_mark (124 ∷ rest) _ (doubles k.Bar k.BarBar k.BarAssign 124 rest (omega arith) refl refl refl (λ _. refl) (λ _. refl) (λ _. refl)))) (λ _.
    choose (b ∷ rest) (eqb b 42) _ _ (λ e. by_byte (λ x. AllMarks (x ∷ rest) (Some (star (x ∷ rest)))) b 42 e (one_mark (42 ∷ rest) _ (star_mark rest))) (λ _.
    choose (b ∷ rest) (eqb b 60) _ _ (λ e. by_byte (λ x. AllMarks (x ∷ rest) (Some (less (x ∷ rest)))) b 60 e (one_mark (60 ∷ rest) _ (less_mark rest))) (λ _.
    choose (b ∷ rest) (eqb b 62) _ _ (λ e. by_byte (λ x. AllMarks (x ∷ rest) (Some (greater (x ∷ rest)))) b 62 e (one_mark (62 ∷ rest) _ (greater_mark rest))) (λ _.
    choose (b ∷ rest) (eqb b 61) _ _ (λ e. by_byte (λ x. AllMarks (x ∷ rest) (Some (equals (x ∷ rest)))) b 61 e (one_mark (61 ∷ rest) _ (equals_mark rest))) (λ _.
    choose (b ∷ rest) (eqb b 33) _ _ (λ e. by_byte (λ x. AllMarks (x ∷ rest) (Some (exclamation (x ∷ rest)))) b 33 e (one_mark (33 ∷ rest) _ (exclamation_mark rest))) (λ _.
    choose (b ∷ rest) (eqb b 63) _ _ (λ e. by_byte (λ x. AllMarks (x ∷ rest) (Some (question (x ∷ rest)))) b 63 e (one_mark (63 ∷ rest) _ (question_mark rest))) (λ _.
    choose (b ∷ rest) (eqb b 37) _ _ (λ e. by_byte (λ x. AllMarks (x ∷ rest) (Some (with_equals k.Percent k.PercentAssign 1 (x ∷ rest)))) b 37 e (one_mark (37 ∷ rest) _ (signs k.Percent k.PercentAssign (37 ∷ []) rest refl refl refl (λ _. refl)))) (λ _.
    choose (b ∷ rest) (eqb b 94) _ _ (λ e. by_byte (λ x. AllMarks (x ∷ rest) (Some (with_equals k.Caret k.CaretAssign 1 (x ∷ rest)))) b 94 e (one_mark (94 ∷ rest) _ (signs k.Caret k.CaretAssign (94 ∷ []) rest refl refl refl (λ _. refl)))) (λ _. no_mark (b ∷ rest)))))))))))))

-- a punctuator of one byte, whatever follows
single : (b c : ℕ) (kind : Kind) (rest : List ℕ) → eqb b c ≡ true → word_in punctuators (c ∷ []) ≡ Some kind → may_precede kind rest ≡ true → AllMarks (b ∷ rest) (Some (kind, 1))
single b c kind rest e h m = by_byte (λ x. AllMarks (x ∷ rest) (Some (kind, 1))) b c e (one_mark (c ∷ rest) _ (mark kind (c ∷ []) rest h m))

pub punctuator_marks : (b : ℕ) (rest : List ℕ) → AllMarks (b ∷ rest) (punctuator (b ∷ rest))
unfolding punctuator
punctuator_marks b rest =
    choose (b ∷ rest) (eqb b 40) _ _ (λ e. single b 40 k.LeftParenthesis rest e refl refl) (λ _.
    choose (b ∷ rest) (eqb b 41) _ _ (λ e. single b 41 k.RightParenthesis rest e refl refl) (λ _.
    choose (b ∷ rest) (eqb b 44) _ _ (λ e. single b 44 k.Comma rest e refl refl) (λ _.
    choose (b ∷ rest) (eqb b 46) _ _ (λ e. by_byte (λ x. AllMarks (x ∷ rest) (Some (dot (x ∷ rest)))) b 46 e (one_mark (46 ∷ rest) _ (dot_mark rest))) (λ _.
    choose (b ∷ rest) (eqb b 58) _ _ (λ e. single b 58 k.Colon rest e refl refl) (λ _.
    choose (b ∷ rest) (eqb b 59) _ _ (λ e. single b 59 k.Semicolon rest e refl refl) (λ _.
    choose (b ∷ rest) (eqb b 91) _ _ (λ e. single b 91 k.LeftBracket rest e refl refl) (λ _.
    choose (b ∷ rest) (eqb b 93) _ _ (λ e. single b 93 k.RightBracket rest e refl refl) (λ _.
    choose (b ∷ rest) (eqb b 123) _ _ (λ e. single b 123 k.LeftBrace rest e refl refl) (λ _.
    choose (b ∷ rest) (eqb b 126) _ _ (λ e. single b 126 k.Tilde rest e refl refl) (λ _. operator_marks b rest))))))))))

pub division_marks : (rest : List ℕ) → AllMarks (47 ∷ rest) (division (47 ∷ rest))
unfolding division
division_marks rest =
    choose (47 ∷ rest) (eqb (slice_index rest 0) 42) None _ (λ _. no_mark (47 ∷ rest))
    (λ may. one_mark (47 ∷ rest) _ (signs k.Slash k.SlashAssign (47 ∷ []) rest refl refl (not_from_false _ may) (λ _. refl)))
