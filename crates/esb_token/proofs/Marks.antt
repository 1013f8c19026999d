-- Punctuators: what the lexer takes has at least the bytes of each punctuator at the front.
use Rattle.std.proofs.Common.{◌≡◌, ℕ, ◌+◌, ◌≤◌, Bool, true, false, cond, not, ◌&&◌, eqb, List, [], ◌∷◌, ◌++◌, length, slice_index, nat_eq, codes, Some, None, refl, sym, ap, ◌∙◌, subst, arith, lit≤}
use Rattle.std.specs.Cmp.Lexicographic.{pointwise}
use Rattle.std.proofs.lemmas.Bool.{and_parts, eqb-true, cond-false, not-true}
use Rattle.esb_token.specs.declared.kind.Kind.{Kind}
use Rattle.esb_token.specs.declared.kind.Kind.TheVariants as k
use Rattle.esb_token.specs.declared.goal.Goal.{Goal}
use Rattle.esb_token.specs.declared.goal.Goal.TheVariants as goal
use Rattle.esb_token.specs.Characters.{is_digit}
use Rattle.esb_token.specs.Names.{Piece, word_in}
use Rattle.esb_token.specs.Numbers.{numeric, decimal, integer_part, digits_at}
use Rattle.esb_token.specs.Punctuators.{with_equals, twice_or_equals, punctuator, operator, star, less, greater, equals, exclamation, question, dot}
use Rattle.esb_token.specs.Tokens.{token, slash, division, right_brace}
use Rattle.esb_token.specs.Grammar.{punctuators, may_precede, is_under}
use Rattle.esb_token.proofs.Covering.{Covers, covers_by, reads}

-- a pair of a length that is large enough
pub record Long (n : ℕ) (p : Kind × ℕ) : Type 0 where
  pub holds : n ≤ p.1

pub long : (n m : ℕ) (kind : Kind) → n ≤ m → Long n (kind, m)
long n m kind h = record { holds = h }

pub either : (n : ℕ) (t : Bool) (x y : Kind × ℕ) → Long n x → Long n y → Long n (cond t x y)
either n true x y h e = h
either n false x y h e = e

pub first : (n : ℕ) (t : Bool) (x y : Kind × ℕ) → t ≡ true → Long n x → Long n (cond t x y)
first n true x y is h = h
first n false x y is h = cc

takes : (piece : Piece) (p : Kind × ℕ) (n : ℕ) → piece ≡ Some p → Long n p → Covers piece n
takes piece p n e h = covers_by piece p n e h.holds

-- a punctuator, and a longer one with a `=`
signed : (n : ℕ) (plain assigned : Kind) (size : ℕ) (text : List ℕ) → n ≤ size → Long n (with_equals plain assigned size text)
signed n plain assigned size text h = either n (eqb (slice_index text size) 61) (assigned, size + 1) (plain, size) (long n (size + 1) assigned (omega (arith, h))) (long n size plain h)

doubled : (plain twice assigned : Kind) (text : List ℕ) → Long 1 (twice_or_equals plain twice assigned text)
doubled plain twice assigned text = either 1 (eqb (slice_index text 1) (slice_index text 0)) (twice, 2) (with_equals plain assigned 1 text) (long 1 2 twice (lit≤ tt)) (signed 1 plain assigned 1 text (lit≤ tt))

less_long : (text : List ℕ) → Long 1 (less text)
unfolding less
less_long text = either 1 (eqb (slice_index text 1) 60) (with_equals k.ShiftLeft k.ShiftLeftAssign 2 text) (with_equals k.Less k.LessEqual 1 text) (signed 1 _ _ 2 text (lit≤ tt)) (signed 1 _ _ 1 text (lit≤ tt))

star_long : (text : List ℕ) → Long 1 (star text)
unfolding star
star_long text = either 1 (eqb (slice_index text 1) 42) (with_equals k.StarStar k.StarStarAssign 2 text) (with_equals k.Star k.StarAssign 1 text) (signed 1 _ _ 2 text (lit≤ tt)) (signed 1 _ _ 1 text (lit≤ tt))

right_shifts : (n : ℕ) (text : List ℕ) → n ≤ 2 → Long n (cond (eqb (slice_index text 2) 62) (with_equals k.ShiftRightUnsigned k.ShiftRightUnsignedAssign 3 text) (with_equals k.ShiftRight k.ShiftRightAssign 2 text))
right_shifts n text h = either n (eqb (slice_index text 2) 62) (with_equals k.ShiftRightUnsigned k.ShiftRightUnsignedAssign 3 text) (with_equals k.ShiftRight k.ShiftRightAssign 2 text) (signed n _ _ 3 text (omega (arith, h))) (signed n _ _ 2 text h)

greater_long : (text : List ℕ) → Long 1 (greater text)
unfolding greater
greater_long text = either 1 (eqb (slice_index text 1) 62) (cond (eqb (slice_index text 2) 62) (with_equals k.ShiftRightUnsigned k.ShiftRightUnsignedAssign 3 text) (with_equals k.ShiftRight k.ShiftRightAssign 2 text)) (with_equals k.Greater k.GreaterEqual 1 text) (right_shifts 1 text (lit≤ tt)) (signed 1 _ _ 1 text (lit≤ tt))

equals_long : (text : List ℕ) → Long 1 (equals text)
unfolding equals
equals_long text = either 1 (eqb (slice_index text 1) 61) (with_equals k.Equal k.StrictEqual 2 text) (cond (eqb (slice_index text 1) 62) (k.Arrow, 2) (k.Assign, 1)) (signed 1 _ _ 2 text (lit≤ tt)) (either 1 (eqb (slice_index text 1) 62) (k.Arrow, 2) (k.Assign, 1) (long 1 2 _ (lit≤ tt)) (long 1 1 _ (lit≤ tt)))

exclamation_long : (text : List ℕ) → Long 1 (exclamation text)
unfolding exclamation
exclamation_long text = either 1 (eqb (slice_index text 1) 61) (with_equals k.NotEqual k.StrictNotEqual 2 text) (k.Exclamation, 1) (signed 1 _ _ 2 text (lit≤ tt)) (long 1 1 _ (lit≤ tt))

question_long : (text : List ℕ) → Long 1 (question text)
unfolding question
question_long text = either 1 (eqb (slice_index text 1) 63) (k.QuestionQuestion, 2) (cond (eqb (slice_index text 1) 46 && not (is_digit (slice_index text 2))) (k.QuestionDot, 2) (k.Question, 1)) (long 1 2 _ (lit≤ tt)) (either 1 (eqb (slice_index text 1) 46 && not (is_digit (slice_index text 2))) (k.QuestionDot, 2) (k.Question, 1) (long 1 2 _ (lit≤ tt)) (long 1 1 _ (lit≤ tt)))

dot_long : (text : List ℕ) → Long 1 (dot text)
unfolding dot
dot_long text = either 1 (eqb (slice_index text 1) 46 && eqb (slice_index text 2) 46) (k.Ellipsis, 3) (k.Dot, 1) (long 1 3 _ (lit≤ tt)) (long 1 1 _ (lit≤ tt))

-- what holds of the bytes and the kind of each entry of a table
Each : (List ℕ → Kind → Type 0) → List (List ℕ × Kind) → Type 0
Each P [] = Unit {0}
Each P (entry ∷ more) = P entry.0 entry.1 × Each P more

same_bytes : (xs ys : List ℕ) → pointwise nat_eq xs ys ≡ true → xs ≡ ys
same_bytes [] [] h = refl
same_bytes [] (y ∷ ys) h = cc
same_bytes (x ∷ xs) [] h = cc
same_bytes (x ∷ xs) (y ∷ ys) h =
    let parts = and_parts _ _ h in
    ap (λ a. a ∷ xs) (eqb-true x y parts.0) ∙ ap (λ l. y ∷ l) (same_bytes xs ys parts.1)

some_kind : (x y : Kind) → Some x ≡ Some y → x ≡ y
some_kind x y e = cc

entry_of : (P : List ℕ → Kind → Type 0) (table : List (List ℕ × Kind)) → Each P table → (bytes : List ℕ) (kind : Kind) → word_in table bytes ≡ Some kind → P bytes kind
unfolding Each
entry_of P [] each bytes kind h = cc
entry_of P (entry ∷ more) each bytes kind h = go (entry_of P more each.1 bytes kind) (pointwise nat_eq bytes entry.0) refl h
  where
    go : (word_in more bytes ≡ Some kind → P bytes kind) → (t : Bool) → pointwise nat_eq bytes entry.0 ≡ t → cond t (Some entry.1) (word_in more bytes) ≡ Some kind → P bytes kind
    go later true is found = subst (λ x. P x kind) (sym (same_bytes _ _ is)) (subst (λ x. P entry.0 x) (some_kind _ _ found) each.0)
    go later false is found = later found

-- what the lexer takes has these bytes or more
abbrev Taken : List ℕ → Kind → Type 0
Taken bytes kind = (g : Goal) (after : List ℕ) → may_precede kind after ≡ true → is_under g kind ≡ true → Covers (reads g (bytes ++ after)) (length bytes)

brace_covers : Taken (codes "}") k.RightBrace
unfolding token right_brace
brace_covers goal.Div after may under = takes _ _ _ refl (long _ _ _ (lit≤ tt))
brace_covers goal.RegExp after may under = takes _ _ _ refl (long _ _ _ (lit≤ tt))
brace_covers goal.TemplateTail after may under = cc

dot_token : (g : Goal) (after : List ℕ) → is_digit (slice_index after 0) ≡ false → Covers (token g (46 ∷ after)) 1
unfolding token punctuator dot
dot_token g after none = takes _ (dot (46 ∷ after)) _ (cond-false (is_digit (slice_index after 0)) _ _ none) (dot_long (46 ∷ after))

dot_number : (after : List ℕ) → 1 ≤ (numeric (46 ∷ after)).1
unfolding numeric decimal integer_part digits_at
dot_number after = omega arith

dot_covers : Taken (codes ".") k.Dot
dot_covers g after may under = go (is_digit (slice_index after 0)) refl
  where
    go : (t : Bool) → is_digit (slice_index after 0) ≡ t → Covers (cond t (Some (numeric (46 ∷ after))) (token g (46 ∷ after))) 1
    go true is = covers_by _ _ _ refl (dot_number after)
    go false is = dot_token g after is

slash_division : (after : List ℕ) → may_precede k.Slash after ≡ true → Covers (division (47 ∷ after)) 1
unfolding division
slash_division after may = takes _ (with_equals k.Slash k.SlashAssign 1 (47 ∷ after)) _ (cond-false _ None _ (not-true _ may)) (signed 1 k.Slash k.SlashAssign 1 (47 ∷ after) (lit≤ tt))

slash_covers : Taken (codes "/") k.Slash
unfolding token slash
slash_covers goal.Div after may under = slash_division after may
slash_covers goal.RegExp after may under = cc
slash_covers goal.TemplateTail after may under = slash_division after may

slash_assign_covers : Taken (codes "/=") k.SlashAssign
unfolding token slash division
slash_assign_covers goal.Div after may under = takes _ _ _ refl (long _ _ _ (lit≤ tt))
slash_assign_covers goal.RegExp after may under = cc
slash_assign_covers goal.TemplateTail after may under = takes _ _ _ refl (long _ _ _ (lit≤ tt))

chain_covers : Taken (codes "?.") k.QuestionDot
unfolding token punctuator operator question
chain_covers g after may under = takes _ (cond (not (is_digit (slice_index after 0))) (k.QuestionDot, 2) (k.Question, 1)) _ refl (first 2 _ (k.QuestionDot, 2) (k.Question, 1) may (long 2 2 _ (lit≤ tt)))

left_brace_taken : Taken (codes "{") k.LeftBrace
unfolding token punctuator operator star less greater equals exclamation question dot
left_brace_taken g after may under = takes _ _ _ refl (long _ _ _ (lit≤ tt))

left_parenthesis_taken : Taken (codes "(") k.LeftParenthesis
unfolding token punctuator operator star less greater equals exclamation question dot
left_parenthesis_taken g after may under = takes _ _ _ refl (long _ _ _ (lit≤ tt))

right_parenthesis_taken : Taken (codes ")") k.RightParenthesis
unfolding token punctuator operator star less greater equals exclamation question dot
right_parenthesis_taken g after may under = takes _ _ _ refl (long _ _ _ (lit≤ tt))

left_bracket_taken : Taken (codes "[") k.LeftBracket
unfolding token punctuator operator star less greater equals exclamation question dot
left_bracket_taken g after may under = takes _ _ _ refl (long _ _ _ (lit≤ tt))

right_bracket_taken : Taken (codes "]") k.RightBracket
unfolding token punctuator operator star less greater equals exclamation question dot
right_bracket_taken g after may under = takes _ _ _ refl (long _ _ _ (lit≤ tt))

ellipsis_taken : Taken (codes "...") k.Ellipsis
unfolding token punctuator operator star less greater equals exclamation question dot
ellipsis_taken g after may under = takes _ _ _ refl (long _ _ _ (lit≤ tt))

semicolon_taken : Taken (codes ";") k.Semicolon
unfolding token punctuator operator star less greater equals exclamation question dot
semicolon_taken g after may under = takes _ _ _ refl (long _ _ _ (lit≤ tt))

comma_taken : Taken (codes ",") k.Comma
unfolding token punctuator operator star less greater equals exclamation question dot
comma_taken g after may under = takes _ _ _ refl (long _ _ _ (lit≤ tt))

colon_taken : Taken (codes ":") k.Colon
unfolding token punctuator operator star less greater equals exclamation question dot
colon_taken g after may under = takes _ _ _ refl (long _ _ _ (lit≤ tt))

tilde_taken : Taken (codes "~") k.Tilde
unfolding token punctuator operator star less greater equals exclamation question dot
tilde_taken g after may under = takes _ _ _ refl (long _ _ _ (lit≤ tt))

less_taken : Taken (codes "<") k.Less
unfolding token punctuator operator star less greater equals exclamation question dot
less_taken g after may under = takes _ (less (codes "<" ++ after)) _ refl (less_long (codes "<" ++ after))

less_equal_taken : Taken (codes "<=") k.LessEqual
unfolding token punctuator operator star less greater equals exclamation question dot
less_equal_taken g after may under = takes _ _ _ refl (long _ _ _ (lit≤ tt))

shift_left_taken : Taken (codes "<<") k.ShiftLeft
unfolding token punctuator operator star less greater equals exclamation question dot
shift_left_taken g after may under = takes _ (with_equals k.ShiftLeft k.ShiftLeftAssign 2 (codes "<<" ++ after)) _ refl (signed 2 k.ShiftLeft k.ShiftLeftAssign 2 (codes "<<" ++ after) (lit≤ tt))

shift_left_assign_taken : Taken (codes "<<=") k.ShiftLeftAssign
unfolding token punctuator operator star less greater equals exclamation question dot
shift_left_assign_taken g after may under = takes _ _ _ refl (long _ _ _ (lit≤ tt))

greater_taken : Taken (codes ">") k.Greater
unfolding token punctuator operator star less greater equals exclamation question dot
greater_taken g after may under = takes _ (greater (codes ">" ++ after)) _ refl (greater_long (codes ">" ++ after))

greater_equal_taken : Taken (codes ">=") k.GreaterEqual
unfolding token punctuator operator star less greater equals exclamation question dot
greater_equal_taken g after may under = takes _ _ _ refl (long _ _ _ (lit≤ tt))

shift_right_taken : Taken (codes ">>") k.ShiftRight
unfolding token punctuator operator star less greater equals exclamation question dot
shift_right_taken g after may under = takes _ (cond (eqb (slice_index after 0) 62) (with_equals k.ShiftRightUnsigned k.ShiftRightUnsignedAssign 3 (codes ">>" ++ after)) (with_equals k.ShiftRight k.ShiftRightAssign 2 (codes ">>" ++ after))) _ refl (right_shifts 2 (codes ">>" ++ after) (lit≤ tt))

shift_right_assign_taken : Taken (codes ">>=") k.ShiftRightAssign
unfolding token punctuator operator star less greater equals exclamation question dot
shift_right_assign_taken g after may under = takes _ _ _ refl (long _ _ _ (lit≤ tt))

shift_right_unsigned_taken : Taken (codes ">>>") k.ShiftRightUnsigned
unfolding token punctuator operator star less greater equals exclamation question dot
shift_right_unsigned_taken g after may under = takes _ (with_equals k.ShiftRightUnsigned k.ShiftRightUnsignedAssign 3 (codes ">>>" ++ after)) _ refl (signed 3 k.ShiftRightUnsigned k.ShiftRightUnsignedAssign 3 (codes ">>>" ++ after) (lit≤ tt))

shift_right_unsigned_assign_taken : Taken (codes ">>>=") k.ShiftRightUnsignedAssign
unfolding token punctuator operator star less greater equals exclamation question dot
shift_right_unsigned_assign_taken g after may under = takes _ _ _ refl (long _ _ _ (lit≤ tt))

assign_taken : Taken (codes "=") k.Assign
unfolding token punctuator operator star less greater equals exclamation question dot
assign_taken g after may under = takes _ (equals (codes "=" ++ after)) _ refl (equals_long (codes "=" ++ after))

equal_taken : Taken (codes "==") k.Equal
unfolding token punctuator operator star less greater equals exclamation question dot
equal_taken g after may under = takes _ (with_equals k.Equal k.StrictEqual 2 (codes "==" ++ after)) _ refl (signed 2 k.Equal k.StrictEqual 2 (codes "==" ++ after) (lit≤ tt))

strict_equal_taken : Taken (codes "===") k.StrictEqual
unfolding token punctuator operator star less greater equals exclamation question dot
strict_equal_taken g after may under = takes _ _ _ refl (long _ _ _ (lit≤ tt))

arrow_taken : Taken (codes "=>") k.Arrow
unfolding token punctuator operator star less greater equals exclamation question dot
arrow_taken g after may under = takes _ _ _ refl (long _ _ _ (lit≤ tt))

exclamation_taken : Taken (codes "!") k.Exclamation
unfolding token punctuator operator star less greater equals exclamation question dot
exclamation_taken g after may under = takes _ (exclamation (codes "!" ++ after)) _ refl (exclamation_long (codes "!" ++ after))

not_equal_taken : Taken (codes "!=") k.NotEqual
unfolding token punctuator operator star less greater equals exclamation question dot
not_equal_taken g after may under = takes _ (with_equals k.NotEqual k.StrictNotEqual 2 (codes "!=" ++ after)) _ refl (signed 2 k.NotEqual k.StrictNotEqual 2 (codes "!=" ++ after) (lit≤ tt))

strict_not_equal_taken : Taken (codes "!==") k.StrictNotEqual
unfolding token punctuator operator star less greater equals exclamation question dot
strict_not_equal_taken g after may under = takes _ _ _ refl (long _ _ _ (lit≤ tt))

plus_taken : Taken (codes "+") k.Plus
unfolding token punctuator operator star less greater equals exclamation question dot
plus_taken g after may under = takes _ (twice_or_equals k.Plus k.PlusPlus k.PlusAssign (codes "+" ++ after)) _ refl (doubled k.Plus k.PlusPlus k.PlusAssign (codes "+" ++ after))

plus_plus_taken : Taken (codes "++") k.PlusPlus
unfolding token punctuator operator star less greater equals exclamation question dot
plus_plus_taken g after may under = takes _ _ _ refl (long _ _ _ (lit≤ tt))

plus_assign_taken : Taken (codes "+=") k.PlusAssign
unfolding token punctuator operator star less greater equals exclamation question dot
plus_assign_taken g after may under = takes _ _ _ refl (long _ _ _ (lit≤ tt))

minus_taken : Taken (codes "-") k.Minus
unfolding token punctuator operator star less greater equals exclamation question dot
minus_taken g after may under = takes _ (twice_or_equals k.Minus k.MinusMinus k.MinusAssign (codes "-" ++ after)) _ refl (doubled k.Minus k.MinusMinus k.MinusAssign (codes "-" ++ after))

minus_minus_taken : Taken (codes "--") k.MinusMinus
unfolding token punctuator operator star less greater equals exclamation question dot
minus_minus_taken g after may under = takes _ _ _ refl (long _ _ _ (lit≤ tt))

minus_assign_taken : Taken (codes "-=") k.MinusAssign
unfolding token punctuator operator star less greater equals exclamation question dot
minus_assign_taken g after may under = takes _ _ _ refl (long _ _ _ (lit≤ tt))

star_taken : Taken (codes "*") k.Star
unfolding token punctuator operator star less greater equals exclamation question dot
star_taken g after may under = takes _ (star (codes "*" ++ after)) _ refl (star_long (codes "*" ++ after))

star_assign_taken : Taken (codes "*=") k.StarAssign
unfolding token punctuator operator star less greater equals exclamation question dot
star_assign_taken g after may under = takes _ _ _ refl (long _ _ _ (lit≤ tt))

star_star_taken : Taken (codes "**") k.StarStar
unfolding token punctuator operator star less greater equals exclamation question dot
star_star_taken g after may under = takes _ (with_equals k.StarStar k.StarStarAssign 2 (codes "**" ++ after)) _ refl (signed 2 k.StarStar k.StarStarAssign 2 (codes "**" ++ after) (lit≤ tt))

star_star_assign_taken : Taken (codes "**=") k.StarStarAssign
unfolding token punctuator operator star less greater equals exclamation question dot
star_star_assign_taken g after may under = takes _ _ _ refl (long _ _ _ (lit≤ tt))

percent_taken : Taken (codes "%") k.Percent
unfolding token punctuator operator star less greater equals exclamation question dot
percent_taken g after may under = takes _ (with_equals k.Percent k.PercentAssign 1 (codes "%" ++ after)) _ refl (signed 1 k.Percent k.PercentAssign 1 (codes "%" ++ after) (lit≤ tt))

percent_assign_taken : Taken (codes "%=") k.PercentAssign
unfolding token punctuator operator star less greater equals exclamation question dot
percent_assign_taken g after may under = takes _ _ _ refl (long _ _ _ (lit≤ tt))

ampersand_taken : Taken (codes "&") k.Ampersand
unfolding token punctuator operator star less greater equals exclamation question dot
ampersand_taken g after may under = takes _ (twice_or_equals k.Ampersand k.AndAnd k.AmpersandAssign (codes "&" ++ after)) _ refl (doubled k.Ampersand k.AndAnd k.AmpersandAssign (codes "&" ++ after))

and_and_taken : Taken (codes "&&") k.AndAnd
unfolding token punctuator operator star less greater equals exclamation question dot
and_and_taken g after may under = takes _ _ _ refl (long _ _ _ (lit≤ tt))

ampersand_assign_taken : Taken (codes "&=") k.AmpersandAssign
unfolding token punctuator operator star less greater equals exclamation question dot
ampersand_assign_taken g after may under = takes _ _ _ refl (long _ _ _ (lit≤ tt))

bar_taken : Taken (codes "|") k.Bar
unfolding token punctuator operator star less greater equals exclamation question dot
bar_taken g after may under = takes _ (twice_or_equals k.Bar k.BarBar k.BarAssign (codes "|" ++ after)) _ refl (doubled k.Bar k.BarBar k.BarAssign (codes "|" ++ after))

bar_bar_taken : Taken (codes "||") k.BarBar
unfolding token punctuator operator star less greater equals exclamation question dot
bar_bar_taken g after may under = takes _ _ _ refl (long _ _ _ (lit≤ tt))

bar_assign_taken : Taken (codes "|=") k.BarAssign
unfolding token punctuator operator star less greater equals exclamation question dot
bar_assign_taken g after may under = takes _ _ _ refl (long _ _ _ (lit≤ tt))

caret_taken : Taken (codes "^") k.Caret
unfolding token punctuator operator star less greater equals exclamation question dot
caret_taken g after may under = takes _ (with_equals k.Caret k.CaretAssign 1 (codes "^" ++ after)) _ refl (signed 1 k.Caret k.CaretAssign 1 (codes "^" ++ after) (lit≤ tt))

caret_assign_taken : Taken (codes "^=") k.CaretAssign
unfolding token punctuator operator star less greater equals exclamation question dot
caret_assign_taken g after may under = takes _ _ _ refl (long _ _ _ (lit≤ tt))

question_taken : Taken (codes "?") k.Question
unfolding token punctuator operator star less greater equals exclamation question dot
question_taken g after may under = takes _ (question (codes "?" ++ after)) _ refl (question_long (codes "?" ++ after))

question_question_taken : Taken (codes "??") k.QuestionQuestion
unfolding token punctuator operator star less greater equals exclamation question dot
question_question_taken g after may under = takes _ _ _ refl (long _ _ _ (lit≤ tt))

each_taken : Each Taken punctuators
unfolding Each
each_taken = (left_brace_taken, (brace_covers, (left_parenthesis_taken, (right_parenthesis_taken, (left_bracket_taken, (right_bracket_taken, (dot_covers, (ellipsis_taken, (semicolon_taken, (comma_taken, (colon_taken, (tilde_taken, (less_taken, (less_equal_taken, (shift_left_taken, (shift_left_assign_taken, (greater_taken, (greater_equal_taken, (shift_right_taken, (shift_right_assign_taken, (shift_right_unsigned_taken, (shift_right_unsigned_assign_taken, (assign_taken, (equal_taken, (strict_equal_taken, (arrow_taken, (exclamation_taken, (not_equal_taken, (strict_not_equal_taken, (plus_taken, (plus_plus_taken, (plus_assign_taken, (minus_taken, (minus_minus_taken, (minus_assign_taken, (star_taken, (star_assign_taken, (star_star_taken, (star_star_assign_taken, (slash_covers, (slash_assign_covers, (percent_taken, (percent_assign_taken, (ampersand_taken, (and_and_taken, (ampersand_assign_taken, (bar_taken, (bar_bar_taken, (bar_assign_taken, (caret_taken, (caret_assign_taken, (question_taken, (question_question_taken, (chain_covers, tt))))))))))))))))))))))))))))))))))))))))))))))))))))))

pub punctuator_covers : (g : Goal) (kind : Kind) (bytes after : List ℕ) → word_in punctuators bytes ≡ Some kind → may_precede kind after ≡ true → is_under g kind ≡ true → Covers (reads g (bytes ++ after)) (length bytes)
punctuator_covers g kind bytes after h may under = entry_of Taken punctuators each_taken bytes kind h g after may under
