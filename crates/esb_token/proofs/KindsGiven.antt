-- Which kinds each part of the lexer gives.
use Rattle.std.proofs.Common.{◌≡◌, ℕ, ◌+◌, Bool, true, false, cond, ◌&&◌, eqb, List, [], ◌∷◌, slice_index, nat_eq, codes, Option, Some, None, refl, subst}
use Rattle.std.specs.Cmp.Lexicographic.{pointwise}
use Rattle.esb_token.specs.declared.kind.Kind.{Kind}
use Rattle.esb_token.specs.declared.kind.Kind.TheVariants as k
use Rattle.esb_token.specs.Goals.{is_division}
use Rattle.esb_token.specs.Characters.{is_hex_digit}
use Rattle.esb_token.specs.Names.{Piece, reserved, words_from, word_in, word_kind, name}
use Rattle.esb_token.specs.Numbers.{with_suffix, based, decimal, numeric, number, integer_part, exponent, digits_at, is_octal_digit, is_binary_digit}
use Rattle.esb_token.specs.Strings.{string}
use Rattle.esb_token.specs.Templates.{template}
use Rattle.esb_token.specs.RegExps.{regular_expression}
use Rattle.esb_token.specs.Punctuators.{with_equals, twice_or_equals, star, less, greater, equals, exclamation, question, dot, operator, punctuator}
use Rattle.esb_token.specs.Tokens.{division, or_else}

-- kinds that are the same under every goal, but for string literals, the end and what a goal decides
abbrev pub is_ordinary : Kind → Bool
is_ordinary k.End = false
is_ordinary k.Text = false
is_ordinary k.RegExp = false
is_ordinary k.TemplateWhole = false
is_ordinary k.TemplateHead = false
is_ordinary k.TemplateMiddle = false
is_ordinary k.TemplateTail = false
is_ordinary k.Slash = false
is_ordinary k.SlashAssign = false
is_ordinary k.RightBrace = false
is_ordinary _ = true

-- what a piece gives has kinds that pass a test
abbrev pub Gives : (Kind → Bool) → Piece → Type 0
Gives test piece = (p : Kind × ℕ) → piece ≡ Some p → test p.0 ≡ true

some_is : (p q : Kind × ℕ) → Some p ≡ Some q → p ≡ q
some_is p q e = cc

pub gives_some : (test : Kind → Bool) (p : Kind × ℕ) → test p.0 ≡ true → Gives test (Some p)
gives_some test p h q e = subst (λ (x : Kind × ℕ). test x.0 ≡ true) (some_is p q e) h

pub gives_none : (test : Kind → Bool) → Gives test None
gives_none test p e = cc

pub gives_cond : (test : Kind → Bool) (t : Bool) (x y : Piece) → Gives test x → Gives test y → Gives test (cond t x y)
gives_cond test true x y hx hy = hx
gives_cond test false x y hx hy = hy

record Ordinary (p : Kind × ℕ) : Type 0 where
  holds : is_ordinary p.0 ≡ true

plain : (kind : Kind) (n : ℕ) → is_ordinary kind ≡ true → Ordinary (kind, n)
plain kind n h = record { holds = h }

ordinary_cond : (t : Bool) (x y : Kind × ℕ) → Ordinary x → Ordinary y → Ordinary (cond t x y)
ordinary_cond true x y hx hy = hx
ordinary_cond false x y hx hy = hy

equals_pair : (plain assigned : Kind) (size : ℕ) (text : List ℕ) → is_ordinary plain ≡ true → is_ordinary assigned ≡ true → Ordinary (with_equals plain assigned size text)
equals_pair plain assigned size text hp ha = ordinary_cond (eqb (slice_index text size) 61) (assigned, size + 1) (plain, size) (record { holds = ha }) (record { holds = hp })

twice_pair : (plain twice assigned : Kind) (text : List ℕ) → is_ordinary plain ≡ true → is_ordinary twice ≡ true → is_ordinary assigned ≡ true → Ordinary (twice_or_equals plain twice assigned text)
twice_pair plain twice assigned text hp ht ha = ordinary_cond (eqb (slice_index text 1) (slice_index text 0)) (twice, 2) (with_equals plain assigned 1 text) (record { holds = ht }) (equals_pair plain assigned 1 text hp ha)

star_ordinary : (text : List ℕ) → Ordinary (star text)
unfolding star
star_ordinary text = ordinary_cond _ _ _ (equals_pair k.StarStar k.StarStarAssign 2 text refl refl) (equals_pair k.Star k.StarAssign 1 text refl refl)

less_ordinary : (text : List ℕ) → Ordinary (less text)
unfolding less
less_ordinary text = ordinary_cond _ _ _ (equals_pair k.ShiftLeft k.ShiftLeftAssign 2 text refl refl) (equals_pair k.Less k.LessEqual 1 text refl refl)

greater_ordinary : (text : List ℕ) → Ordinary (greater text)
unfolding greater
greater_ordinary text = ordinary_cond _ _ _ (ordinary_cond _ _ _ (equals_pair k.ShiftRightUnsigned k.ShiftRightUnsignedAssign 3 text refl refl) (equals_pair k.ShiftRight k.ShiftRightAssign 2 text refl refl)) (equals_pair k.Greater k.GreaterEqual 1 text refl refl)

equals_ordinary : (text : List ℕ) → Ordinary (equals text)
unfolding equals
equals_ordinary text = ordinary_cond _ _ _ (equals_pair k.Equal k.StrictEqual 2 text refl refl) (ordinary_cond _ (k.Arrow, 2) (k.Assign, 1) (plain _ _ refl) (plain _ _ refl))

exclamation_ordinary : (text : List ℕ) → Ordinary (exclamation text)
unfolding exclamation
exclamation_ordinary text = ordinary_cond _ _ (k.Exclamation, 1) (equals_pair k.NotEqual k.StrictNotEqual 2 text refl refl) (plain _ _ refl)

question_ordinary : (text : List ℕ) → Ordinary (question text)
unfolding question
question_ordinary text = ordinary_cond _ (k.QuestionQuestion, 2) _ (plain _ _ refl) (ordinary_cond _ (k.QuestionDot, 2) (k.Question, 1) (plain _ _ refl) (plain _ _ refl))

dot_ordinary : (text : List ℕ) → Ordinary (dot text)
unfolding dot
dot_ordinary text = ordinary_cond _ (k.Ellipsis, 3) (k.Dot, 1) (plain _ _ refl) (plain _ _ refl)

ordinary_some : (p : Kind × ℕ) → Ordinary p → Gives is_ordinary (Some p)
ordinary_some p h = gives_some is_ordinary p h.holds

one_of : (t : Bool) (x y : Piece) → Gives is_ordinary x → Gives is_ordinary y → Gives is_ordinary (cond t x y)
one_of = gives_cond is_ordinary

operator_ordinary : (text : List ℕ) → Gives is_ordinary (operator text)
unfolding operator
operator_ordinary text =
    one_of _ _ _ (ordinary_some _ (twice_pair k.Plus k.PlusPlus k.PlusAssign text refl refl refl)) (
    one_of _ _ _ (ordinary_some _ (twice_pair k.Minus k.MinusMinus k.MinusAssign text refl refl refl)) (
    one_of _ _ _ (ordinary_some _ (twice_pair k.Ampersand k.AndAnd k.AmpersandAssign text refl refl refl)) (
    one_of _ _ _ (ordinary_some _ (twice_pair k.Bar k.BarBar k.BarAssign text refl refl refl)) (
    one_of _ _ _ (ordinary_some _ (star_ordinary text)) (
    one_of _ _ _ (ordinary_some _ (less_ordinary text)) (
    one_of _ _ _ (ordinary_some _ (greater_ordinary text)) (
    one_of _ _ _ (ordinary_some _ (equals_ordinary text)) (
    one_of _ _ _ (ordinary_some _ (exclamation_ordinary text)) (
    one_of _ _ _ (ordinary_some _ (question_ordinary text)) (
    one_of _ _ _ (ordinary_some _ (equals_pair k.Percent k.PercentAssign 1 text refl refl)) (
    one_of _ _ _ (ordinary_some _ (equals_pair k.Caret k.CaretAssign 1 text refl refl)) (
    (gives_none is_ordinary)))))))))))))

pub punctuator_ordinary : (text : List ℕ) → Gives is_ordinary (punctuator text)
unfolding punctuator
punctuator_ordinary text =
    one_of _ _ _ (ordinary_some _ (plain k.LeftParenthesis 1 refl)) (
    one_of _ _ _ (ordinary_some _ (plain k.RightParenthesis 1 refl)) (
    one_of _ _ _ (ordinary_some _ (plain k.Comma 1 refl)) (
    one_of _ _ _ (ordinary_some _ (dot_ordinary text)) (
    one_of _ _ _ (ordinary_some _ (plain k.Colon 1 refl)) (
    one_of _ _ _ (ordinary_some _ (plain k.Semicolon 1 refl)) (
    one_of _ _ _ (ordinary_some _ (plain k.LeftBracket 1 refl)) (
    one_of _ _ _ (ordinary_some _ (plain k.RightBracket 1 refl)) (
    one_of _ _ _ (ordinary_some _ (plain k.LeftBrace 1 refl)) (
    one_of _ _ _ (ordinary_some _ (plain k.Tilde 1 refl)) (
    (operator_ordinary text)))))))))))

-- ---- names

abbrev all_ordinary : List (List ℕ × Kind) → Bool
all_ordinary [] = true
all_ordinary (entry ∷ more) = is_ordinary entry.1 && all_ordinary more

and_left : (a b : Bool) → (a && b) ≡ true → a ≡ true
and_left true b h = refl
and_left false b h = cc

and_right : (a b : Bool) → (a && b) ≡ true → b ≡ true
and_right true b h = h
and_right false b h = cc

abbrev OrdinaryWord : Option Kind → Type 0
OrdinaryWord o = is_ordinary (word_kind o) ≡ true

word_cond : (t : Bool) (x y : Option Kind) → OrdinaryWord x → OrdinaryWord y → OrdinaryWord (cond t x y)
word_cond true x y hx hy = hx
word_cond false x y hx hy = hy

word_in_ordinary : (table : List (List ℕ × Kind)) (word : List ℕ) → all_ordinary table ≡ true → OrdinaryWord (word_in table word)
word_in_ordinary [] word h = refl
word_in_ordinary (entry ∷ more) word h =
    word_cond (pointwise nat_eq word entry.0) (Some entry.1) (word_in more word) (and_left _ _ h) (word_in_ordinary more word (and_right (is_ordinary entry.1) _ h))

record OrdinaryTable (table : List (List ℕ × Kind)) : Type 0 where
  all : all_ordinary table ≡ true

table : (entries : List (List ℕ × Kind)) → all_ordinary entries ≡ true → OrdinaryTable entries
table entries h = record { all = h }

table_cond : (t : Bool) (x y : List (List ℕ × Kind)) → OrdinaryTable x → OrdinaryTable y → OrdinaryTable (cond t x y)
table_cond true x y hx hy = hx
table_cond false x y hx hy = hy

words_ordinary : (b : ℕ) → OrdinaryTable (words_from b)
words_ordinary b =
    table_cond (eqb b 97) ((codes "await", k.Await) ∷ []) _ (table _ refl) (
    table_cond (eqb b 98) ((codes "break", k.Break) ∷ []) _ (table _ refl) (
    table_cond (eqb b 99) ((codes "case", k.Case) ∷ (codes "catch", k.Catch) ∷ (codes "class", k.Class) ∷ (codes "const", k.Const) ∷ (codes "continue", k.Continue) ∷ []) _ (table _ refl) (
    table_cond (eqb b 100) ((codes "debugger", k.Debugger) ∷ (codes "default", k.Default) ∷ (codes "delete", k.Delete) ∷ (codes "do", k.Do) ∷ []) _ (table _ refl) (
    table_cond (eqb b 101) ((codes "else", k.Else) ∷ (codes "enum", k.Enum) ∷ (codes "export", k.Export) ∷ (codes "extends", k.Extends) ∷ []) _ (table _ refl) (
    table_cond (eqb b 102) ((codes "false", k.False) ∷ (codes "finally", k.Finally) ∷ (codes "for", k.For) ∷ (codes "function", k.Function) ∷ []) _ (table _ refl) (
    table_cond (eqb b 105) ((codes "if", k.If) ∷ (codes "implements", k.Implements) ∷ (codes "import", k.Import) ∷ (codes "in", k.In) ∷ (codes "instanceof", k.Instanceof) ∷ (codes "interface", k.Interface) ∷ []) _ (table _ refl) (
    table_cond (eqb b 108) ((codes "let", k.Let) ∷ []) _ (table _ refl) (
    table_cond (eqb b 110) ((codes "new", k.New) ∷ (codes "null", k.Null) ∷ []) _ (table _ refl) (
    table_cond (eqb b 112) ((codes "package", k.Package) ∷ (codes "private", k.Private) ∷ (codes "protected", k.Protected) ∷ (codes "public", k.Public) ∷ []) _ (table _ refl) (
    table_cond (eqb b 114) ((codes "return", k.Return) ∷ []) _ (table _ refl) (
    table_cond (eqb b 115) ((codes "static", k.Static) ∷ (codes "super", k.Super) ∷ (codes "switch", k.Switch) ∷ []) _ (table _ refl) (
    table_cond (eqb b 116) ((codes "this", k.This) ∷ (codes "throw", k.Throw) ∷ (codes "true", k.True) ∷ (codes "try", k.Try) ∷ (codes "typeof", k.Typeof) ∷ []) _ (table _ refl) (
    table_cond (eqb b 118) ((codes "var", k.Var) ∷ (codes "void", k.Void) ∷ []) _ (table _ refl) (
    table_cond (eqb b 119) ((codes "while", k.While) ∷ (codes "with", k.With) ∷ []) _ (table _ refl) (
    table_cond (eqb b 121) ((codes "yield", k.Yield) ∷ []) _ (table _ refl) (table [] refl))))))))))))))))

reserved_ordinary : (word : List ℕ) → OrdinaryWord (reserved word)
unfolding reserved
reserved_ordinary word = word_in_ordinary (words_from (slice_index word 0)) word (words_ordinary (slice_index word 0)).all

pub name_ordinary : (text : List ℕ) → Gives is_ordinary (name text)
unfolding name
name_ordinary text = gives_cond is_ordinary _ None _ (gives_none is_ordinary) (ordinary_some _ (plain _ _ (reserved_ordinary _)))

-- ---- numbers

suffix_ordinary : (text : List ℕ) (size : ℕ) → Ordinary (with_suffix text size)
suffix_ordinary text size = ordinary_cond _ (k.BigInt, size + 1) (k.Number, size) (plain _ _ refl) (plain _ _ refl)

based_ordinary : (digit : ℕ → Bool) (text : List ℕ) → Ordinary (based digit text)
unfolding based
based_ordinary digit text = ordinary_cond _ (k.Number, 1) _ (plain _ _ refl) (suffix_ordinary text _)

decimal_ordinary : (text : List ℕ) → Ordinary (decimal text)
unfolding decimal
decimal_ordinary text =
    let whole = integer_part text in
    let fraction = whole + 1 + digits_at text (whole + 1) in
    ordinary_cond (eqb (slice_index text whole) 46) (k.Number, fraction + exponent text fraction) _ (plain _ _ refl)
    (ordinary_cond (eqb (exponent text whole) 0) (with_suffix text whole) (k.Number, whole + exponent text whole) (suffix_ordinary text whole) (plain _ _ refl))

numeric_ordinary : (text : List ℕ) → Ordinary (numeric text)
unfolding numeric
numeric_ordinary text =
    ordinary_cond _ _ _ (ordinary_cond _ _ _ (based_ordinary is_hex_digit text) (ordinary_cond _ _ _ (based_ordinary is_octal_digit text) (ordinary_cond _ _ _ (based_ordinary is_binary_digit text) (decimal_ordinary text)))) (decimal_ordinary text)

pub number_ordinary : (text : List ℕ) → Gives is_ordinary (number text)
unfolding number
number_ordinary text = gives_cond is_ordinary _ None _ (gives_none is_ordinary) (ordinary_some _ (numeric_ordinary text))

-- ---- what begins with a byte of its own

abbrev pub is_text : Kind → Bool
is_text k.Text = true
is_text _ = false

pub string_text : (text : List ℕ) → Gives is_text (string text)
unfolding string
string_text text = gives_cond is_text _ _ None (gives_some is_text _ refl) (gives_none is_text)

pub template_kind : (test : Kind → Bool) (closed opened : Kind) (text : List ℕ) → test closed ≡ true → test opened ≡ true → Gives test (template closed opened text)
unfolding template
template_kind test closed opened text hc ho = gives_cond test _ _ _ (gives_some test _ hc) (gives_cond test _ _ None (gives_some test _ ho) (gives_none test))

abbrev pub is_regexp : Kind → Bool
is_regexp k.RegExp = true
is_regexp _ = false

pub regular_expression_kind : (text : List ℕ) → Gives is_regexp (regular_expression text)
unfolding regular_expression
regular_expression_kind text = gives_cond is_regexp _ None _ (gives_none is_regexp) (gives_cond is_regexp _ _ None (gives_some is_regexp _ refl) (gives_none is_regexp))

division_pair : (t : Bool) (size : ℕ) → is_division (cond {A = Kind × ℕ} t (k.SlashAssign, size + 1) (k.Slash, size)).0 ≡ true
division_pair true size = refl
division_pair false size = refl

pub division_kind : (text : List ℕ) → Gives is_division (division text)
unfolding division
division_kind text = gives_cond is_division _ None _ (gives_none is_division) (gives_some is_division _ (division_pair (eqb (slice_index text 1) 61) 1))

pub gives_either : (test : Kind → Bool) (x y : Piece) → Gives test x → Gives test y → Gives test (or_else x y)
gives_either test None y hx hy = hy
gives_either test (Some p) y hx hy = hx
