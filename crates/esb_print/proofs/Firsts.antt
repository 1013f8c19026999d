-- The first bytes of tokens, and which tokens may stand behind which.
use Rattle.std.proofs.Common.{◌≡◌, inl, inr, ℕ, Bool, true, false, cond, not, ◌&&◌, ◌||◌, eqb, nat_eq, codes, List, [], ◌∷◌, ◌++◌, slice_index, Option, Some, refl, sym, subst, arith}
use Rattle.std.proofs.lemmas.Bool.{eqb-true, or_cases, or_from, and_parts, not_from_false}
use Rattle.std.specs.Cmp.Lexicographic.{pointwise}
use Rattle.esb_token.specs.declared.kind.Kind.{Kind}
use Rattle.esb_token.specs.declared.kind.Kind.TheVariants as k
use Rattle.esb_token.specs.declared.goal.Goal.{Goal}
use Rattle.esb_token.specs.Characters.{is_digit}
use Rattle.esb_token.specs.Names.{reserved, words_from, word_in, word_kind, identifier_start}
use Rattle.esb_token.specs.Grammar.{joined, punctuators, IsPart, IsNumeric, IsToken}
use Rattle.esb_token.proofs.Covering.{starts_number}
use Rattle.esb_print.specs.Gaps.{opens, closes, is_link, is_number, begins_list, is_joined, has_gap}
use Rattle.esb_print.specs.Lines.{gap}
use Rattle.esb_print.specs.Again.{may_follow}
use Rattle.esb_print.proofs.Behind.{among, quiet_bytes, is_quiet, is_joint, quiet_joint, follows}
use Rattle.esb_print.proofs.Words.{first_of_name, name_other, name_no_digit}
use Rattle.esb_print.proofs.Signs.{Entries, entry-of}
use Rattle.esb_print.proofs.Numerals.{numeric_starts, number_kind}

-- what the first byte of a token of a kind may be
abbrev pub first_fits : Kind → ℕ → Bool
first_fits k.RightParenthesis b = eqb b 41
first_fits k.RightBracket b = eqb b 93
first_fits k.Semicolon b = eqb b 59
first_fits k.Comma b = eqb b 44
first_fits k.Colon b = eqb b 58
first_fits k.TemplateMiddle b = eqb b 125
first_fits k.TemplateTail b = eqb b 125
first_fits k.Dot b = eqb b 46
first_fits k.Ellipsis b = eqb b 46
first_fits k.QuestionDot b = eqb b 63
first_fits k.LeftParenthesis b = eqb b 40
first_fits k.LeftBracket b = eqb b 91
first_fits k.Number b = true
first_fits k.BigInt b = true
first_fits _ b = not (is_digit b || eqb b 46)

pub record Begins (kind : Kind) (bytes : List ℕ) : Type 0 where
  pub first : ℕ
  pub rest : List ℕ
  pub is : bytes ≡ first ∷ rest
  pub fits : first_fits kind first ≡ true

-- ---- punctuators

abbrev begins_well : List ℕ → Kind → Bool
begins_well [] kind = false
begins_well (b ∷ bs) kind = first_fits kind b

abbrev all_begin : List (List ℕ × Kind) → Bool
all_begin [] = true
all_begin (e ∷ es) = begins_well e.0 e.1 && all_begin es

each_begins : (table : List (List ℕ × Kind)) → all_begin table ≡ true → Entries (λ bytes kind. begins_well bytes kind ≡ true) table
each_begins [] h = tt
each_begins (e ∷ es) h = let b = and_parts _ _ h in (b.0, each_begins es b.1)

begun : (kind : Kind) (bytes : List ℕ) → begins_well bytes kind ≡ true → Begins kind bytes
begun kind [] h = cc
begun kind (b ∷ bs) h = record { first = b; rest = bs; is = refl; fits = h }

sign_begins : (bytes : List ℕ) (kind : Kind) → word_in punctuators bytes ≡ Some kind → Begins kind bytes
sign_begins bytes kind h = begun kind bytes (entry-of (λ x y. begins_well x y ≡ true) punctuators bytes kind h (each_begins punctuators refl))

-- ---- names

-- kinds of which nothing is said but that no digit and no `.` begins them, and that what may stand behind a name may stand behind them
abbrev is_word : Kind → Bool
is_word k.RightParenthesis = false
is_word k.RightBracket = false
is_word k.Semicolon = false
is_word k.Comma = false
is_word k.Colon = false
is_word k.TemplateHead = false
is_word k.TemplateMiddle = false
is_word k.TemplateTail = false
is_word k.Dot = false
is_word k.Ellipsis = false
is_word k.Question = false
is_word k.QuestionDot = false
is_word k.LeftParenthesis = false
is_word k.LeftBracket = false
is_word k.Number = false
is_word k.BigInt = false
is_word _ = true

word_fits : (kind : Kind) (b : ℕ) → is_word kind ≡ true → not (is_digit b || eqb b 46) ≡ true → first_fits kind b ≡ true
word_fits k.RightParenthesis b is h = cc
word_fits k.RightBracket b is h = cc
word_fits k.Semicolon b is h = cc
word_fits k.Comma b is h = cc
word_fits k.Colon b is h = cc
word_fits k.TemplateMiddle b is h = cc
word_fits k.TemplateTail b is h = cc
word_fits k.Dot b is h = cc
word_fits k.Ellipsis b is h = cc
word_fits k.QuestionDot b is h = cc
word_fits k.LeftParenthesis b is h = cc
word_fits k.LeftBracket b is h = cc
word_fits k.Number b is h = refl
word_fits k.BigInt b is h = refl
word_fits _ b is h = h

word_joint : (kind : Kind) (d : ℕ) → is_word kind ≡ true → follows kind d ≡ true → is_joint d ≡ true
word_joint k.TemplateHead d is h = cc
word_joint k.TemplateMiddle d is h = cc
word_joint k.Dot d is h = cc
word_joint k.Ellipsis d is h = cc
word_joint k.Question d is h = cc
word_joint k.QuestionDot d is h = cc
word_joint k.LeftParenthesis d is h = cc
word_joint k.LeftBracket d is h = cc
word_joint k.Number d is h = cc
word_joint k.BigInt d is h = cc
word_joint _ d is h = h

abbrev all_words : List (List ℕ × Kind) → Bool
all_words [] = true
all_words (e ∷ es) = is_word e.1 && all_words es

record OfWords (table : List (List ℕ × Kind)) : Type 0 where
  all : all_words table ≡ true

words : (table : List (List ℕ × Kind)) → all_words table ≡ true → OfWords table
words table h = record { all = h }

word_if : (t : Bool) (x y : List (List ℕ × Kind)) → OfWords x → OfWords y → OfWords (cond t x y)
word_if true x y hx hy = hx
word_if false x y hx hy = hy

words_are : (b : ℕ) → OfWords (words_from b)
words_are b =
    word_if (eqb b 97) ((codes "await", k.Await) ∷ []) _ (words _ refl) (
    word_if (eqb b 98) ((codes "break", k.Break) ∷ []) _ (words _ refl) (
    word_if (eqb b 99) ((codes "case", k.Case) ∷ (codes "catch", k.Catch) ∷ (codes "class", k.Class) ∷ (codes "const", k.Const) ∷ (codes "continue", k.Continue) ∷ []) _ (words _ refl) (
    word_if (eqb b 100) ((codes "debugger", k.Debugger) ∷ (codes "default", k.Default) ∷ (codes "delete", k.Delete) ∷ (codes "do", k.Do) ∷ []) _ (words _ refl) (
    word_if (eqb b 101) ((codes "else", k.Else) ∷ (codes "enum", k.Enum) ∷ (codes "export", k.Export) ∷ (codes "extends", k.Extends) ∷ []) _ (words _ refl) (
    word_if (eqb b 102) ((codes "false", k.False) ∷ (codes "finally", k.Finally) ∷ (codes "for", k.For) ∷ (codes "function", k.Function) ∷ []) _ (words _ refl) (
    word_if (eqb b 105) ((codes "if", k.If) ∷ (codes "implements", k.Implements) ∷ (codes "import", k.Import) ∷ (codes "in", k.In) ∷ (codes "instanceof", k.Instanceof) ∷ (codes "interface", k.Interface) ∷ []) _ (words _ refl) (
    word_if (eqb b 108) ((codes "let", k.Let) ∷ []) _ (words _ refl) (
    word_if (eqb b 110) ((codes "new", k.New) ∷ (codes "null", k.Null) ∷ []) _ (words _ refl) (
    word_if (eqb b 112) ((codes "package", k.Package) ∷ (codes "private", k.Private) ∷ (codes "protected", k.Protected) ∷ (codes "public", k.Public) ∷ []) _ (words _ refl) (
    word_if (eqb b 114) ((codes "return", k.Return) ∷ []) _ (words _ refl) (
    word_if (eqb b 115) ((codes "static", k.Static) ∷ (codes "super", k.Super) ∷ (codes "switch", k.Switch) ∷ []) _ (words _ refl) (
    word_if (eqb b 116) ((codes "this", k.This) ∷ (codes "throw", k.Throw) ∷ (codes "true", k.True) ∷ (codes "try", k.Try) ∷ (codes "typeof", k.Typeof) ∷ []) _ (words _ refl) (
    word_if (eqb b 118) ((codes "var", k.Var) ∷ (codes "void", k.Void) ∷ []) _ (words _ refl) (
    word_if (eqb b 119) ((codes "while", k.While) ∷ (codes "with", k.With) ∷ []) _ (words _ refl) (
    word_if (eqb b 121) ((codes "yield", k.Yield) ∷ []) _ (words _ refl) (words [] refl))))))))))))))))

found_word : (t : Bool) (x y : Option Kind) → is_word (word_kind x) ≡ true → is_word (word_kind y) ≡ true → is_word (word_kind (cond t x y)) ≡ true
found_word true x y hx hy = hx
found_word false x y hx hy = hy

word_of : (table : List (List ℕ × Kind)) (word : List ℕ) → all_words table ≡ true → is_word (word_kind (word_in table word)) ≡ true
word_of [] word h = refl
word_of (e ∷ es) word h = let b = and_parts _ _ h in found_word (pointwise nat_eq word e.0) (Some e.1) (word_in es word) b.0 (word_of es word b.1)

reserved_word : (word : List ℕ) → is_word (word_kind (reserved word)) ≡ true
unfolding reserved
reserved_word word = word_of (words_from (slice_index word 0)) word (words_are (slice_index word 0)).all

pub name_joint : (word : List ℕ) (d : ℕ) → follows (word_kind (reserved word)) d ≡ true → is_joint d ≡ true
name_joint word d h = word_joint (word_kind (reserved word)) d (reserved_word word) h

name_begins : (start more after : List ℕ) → IsPart identifier_start start after → Begins (word_kind (reserved (start ++ more))) (start ++ more)
name_begins [] more after h = absurd (omega (arith, h.0))
name_begins (b ∷ s) more after h =
    let begins = first_of_name b (s ++ after) (omega (arith, h.0, h.1)) in
    record {
      first = b;
      rest = s ++ more;
      is = refl;
      fits = word_fits (word_kind (reserved (b ∷ (s ++ more)))) b (reserved_word (b ∷ (s ++ more))) (not_from_false _ (or_from _ _ (name_no_digit b begins) (name_other b 46 begins refl)));
    }

-- ---- the others

number_fits : (kind : Kind) (bytes : List ℕ) (b : ℕ) → IsNumeric kind bytes → first_fits kind b ≡ true
number_fits kind bytes b is = elim (number_kind kind bytes is) [
  | inl e ↦ subst (λ x. first_fits x b ≡ true) (sym e) refl
  | inr e ↦ subst (λ x. first_fits x b ≡ true) (sym e) refl
]

number_begins : (kind : Kind) (bytes : List ℕ) → IsNumeric kind bytes → Begins kind bytes
number_begins kind [] is = let bad : starts_number [] ≡ true = numeric_starts kind [] [] is in cc
number_begins kind (b ∷ bs) is = record { first = b; rest = bs; is = refl; fits = number_fits kind (b ∷ bs) b is }

quote_fits : (quote : ℕ) → (eqb quote 34 || eqb quote 39) ≡ true → first_fits k.Text quote ≡ true
quote_fits quote h = elim (or_cases (eqb quote 34) (eqb quote 39) h) [
  | inl e ↦ subst (λ x. first_fits k.Text x ≡ true) (sym (eqb-true quote 34 e)) refl
  | inr e ↦ subst (λ x. first_fits k.Text x ≡ true) (sym (eqb-true quote 39 e)) refl
]

pub token-begins : (g : Goal) (kind : Kind) (bytes after : List ℕ) → IsToken g kind bytes after → Begins kind bytes
token-begins g kind bytes after (IsToken.punctuator _ _ _ h may under) = sign_begins bytes kind h
token-begins g kind bytes after (IsToken.name start parts _ h more) = name_begins start (joined parts) _ h
token-begins g kind bytes after (IsToken.number _ _ _ h) = number_begins kind bytes h
token-begins g kind bytes after (IsToken.string quote pieces _ is h) = record { first = quote; rest = joined pieces ++ quote ∷ []; is = refl; fits = quote_fits quote is }
token-begins g kind bytes after (IsToken.template_whole pieces _ h) = record { first = 96; rest = joined pieces ++ 96 ∷ []; is = refl; fits = refl }
token-begins g kind bytes after (IsToken.template_head pieces _ h) = record { first = 96; rest = joined pieces ++ 36 ∷ 123 ∷ []; is = refl; fits = refl }
token-begins g kind bytes after (IsToken.template_middle pieces _ is h) = record { first = 125; rest = joined pieces ++ 36 ∷ 123 ∷ []; is = refl; fits = refl }
token-begins g kind bytes after (IsToken.template_tail pieces _ is h) = record { first = 125; rest = joined pieces ++ 96 ∷ []; is = refl; fits = refl }
token-begins g kind bytes after (IsToken.regular_expression body flags _ is some star h more) = record { first = 47; rest = joined body ++ 47 ∷ joined flags; is = refl; fits = refl }

-- ---- pairs

pub quiet_follows : (p : Kind) (d : ℕ) → is_quiet d ≡ true → follows p d ≡ true
quiet_follows k.Number d h = h
quiet_follows k.BigInt d h = h
quiet_follows k.Question d h = h
quiet_follows k.Dot d h = among (λ x. follows k.Dot x ≡ true) quiet_bytes d h (refl, (refl, (refl, (refl, (refl, (refl, (refl, (refl, (refl, (refl, tt))))))))))
quiet_follows k.QuestionDot d h = among (λ x. follows k.QuestionDot x ≡ true) quiet_bytes d h (refl, (refl, (refl, (refl, (refl, (refl, (refl, (refl, (refl, (refl, tt))))))))))
quiet_follows k.LeftParenthesis d h = refl
quiet_follows k.LeftBracket d h = refl
quiet_follows k.Ellipsis d h = refl
quiet_follows k.TemplateHead d h = refl
quiet_follows k.TemplateMiddle d h = refl
quiet_follows _ d h = quiet_joint d h

at_byte : (P : ℕ → Type 0) (b c : ℕ) → eqb b c ≡ true → P c → P b
at_byte P b c e h = subst P (sym (eqb-true b c e)) h

dot_follows : (n : Kind) (b : ℕ) → may_follow k.Dot n ≡ true → first_fits n b ≡ true → follows k.Dot b ≡ true
dot_follows k.Number b may h = cc
dot_follows k.BigInt b may h = cc
dot_follows k.Dot b may h = cc
dot_follows k.Ellipsis b may h = cc
dot_follows k.RightParenthesis b may h = at_byte (λ x. follows k.Dot x ≡ true) b 41 h refl
dot_follows k.RightBracket b may h = at_byte (λ x. follows k.Dot x ≡ true) b 93 h refl
dot_follows k.Semicolon b may h = at_byte (λ x. follows k.Dot x ≡ true) b 59 h refl
dot_follows k.Comma b may h = at_byte (λ x. follows k.Dot x ≡ true) b 44 h refl
dot_follows k.Colon b may h = at_byte (λ x. follows k.Dot x ≡ true) b 58 h refl
dot_follows k.TemplateMiddle b may h = at_byte (λ x. follows k.Dot x ≡ true) b 125 h refl
dot_follows k.TemplateTail b may h = at_byte (λ x. follows k.Dot x ≡ true) b 125 h refl
dot_follows k.QuestionDot b may h = at_byte (λ x. follows k.Dot x ≡ true) b 63 h refl
dot_follows k.LeftParenthesis b may h = at_byte (λ x. follows k.Dot x ≡ true) b 40 h refl
dot_follows k.LeftBracket b may h = at_byte (λ x. follows k.Dot x ≡ true) b 91 h refl
dot_follows _ b may h = h

no_digit : (b : ℕ) → not (is_digit b || eqb b 46) ≡ true → not (is_digit b) ≡ true
no_digit b h = by (is_digit b) h
  where
    by : (t : Bool) → not (t || eqb b 46) ≡ true → not t ≡ true
    by true h = h
    by false h = refl

question_dot_follows : (n : Kind) (b : ℕ) → may_follow k.QuestionDot n ≡ true → first_fits n b ≡ true → follows k.QuestionDot b ≡ true
question_dot_follows k.Number b may h = cc
question_dot_follows k.BigInt b may h = cc
question_dot_follows k.Dot b may h = at_byte (λ x. follows k.QuestionDot x ≡ true) b 46 h refl
question_dot_follows k.Ellipsis b may h = at_byte (λ x. follows k.QuestionDot x ≡ true) b 46 h refl
question_dot_follows k.RightParenthesis b may h = at_byte (λ x. follows k.QuestionDot x ≡ true) b 41 h refl
question_dot_follows k.RightBracket b may h = at_byte (λ x. follows k.QuestionDot x ≡ true) b 93 h refl
question_dot_follows k.Semicolon b may h = at_byte (λ x. follows k.QuestionDot x ≡ true) b 59 h refl
question_dot_follows k.Comma b may h = at_byte (λ x. follows k.QuestionDot x ≡ true) b 44 h refl
question_dot_follows k.Colon b may h = at_byte (λ x. follows k.QuestionDot x ≡ true) b 58 h refl
question_dot_follows k.TemplateMiddle b may h = at_byte (λ x. follows k.QuestionDot x ≡ true) b 125 h refl
question_dot_follows k.TemplateTail b may h = at_byte (λ x. follows k.QuestionDot x ≡ true) b 125 h refl
question_dot_follows k.QuestionDot b may h = at_byte (λ x. follows k.QuestionDot x ≡ true) b 63 h refl
question_dot_follows k.LeftParenthesis b may h = at_byte (λ x. follows k.QuestionDot x ≡ true) b 40 h refl
question_dot_follows k.LeftBracket b may h = at_byte (λ x. follows k.QuestionDot x ≡ true) b 91 h refl
question_dot_follows _ b may h = no_digit b h

opens_follows : (p n : Kind) (b : ℕ) → opens p ≡ true → may_follow p n ≡ true → first_fits n b ≡ true → follows p b ≡ true
opens_follows k.Dot n b h may fits = dot_follows n b may fits
opens_follows k.QuestionDot n b h may fits = question_dot_follows n b may fits
opens_follows k.LeftParenthesis n b h may fits = refl
opens_follows k.LeftBracket n b h may fits = refl
opens_follows k.Ellipsis n b h may fits = refl
opens_follows k.TemplateHead n b h may fits = refl
opens_follows k.TemplateMiddle n b h may fits = refl
opens_follows _ n b h may fits = cc

quiet_byte : (b c : ℕ) → eqb b c ≡ true → is_quiet c ≡ true → is_quiet b ≡ true
quiet_byte b c e h = at_byte (λ x. is_quiet x ≡ true) b c e h

closes_quiet : (n : Kind) (b : ℕ) → closes n ≡ true → first_fits n b ≡ true → is_quiet b ≡ true
closes_quiet k.RightParenthesis b h fits = quiet_byte b 41 fits refl
closes_quiet k.RightBracket b h fits = quiet_byte b 93 fits refl
closes_quiet k.Semicolon b h fits = quiet_byte b 59 fits refl
closes_quiet k.Comma b h fits = quiet_byte b 44 fits refl
closes_quiet k.Colon b h fits = quiet_byte b 58 fits refl
closes_quiet k.TemplateMiddle b h fits = quiet_byte b 125 fits refl
closes_quiet k.TemplateTail b h fits = quiet_byte b 125 fits refl
closes_quiet _ b h fits = cc

list_quiet : (n : Kind) (b : ℕ) → begins_list n ≡ true → first_fits n b ≡ true → is_quiet b ≡ true
list_quiet k.LeftParenthesis b h fits = quiet_byte b 40 fits refl
list_quiet k.LeftBracket b h fits = quiet_byte b 91 fits refl
list_quiet _ b h fits = cc

behind_dot : (p : Kind) → not (is_number p) ≡ true → may_follow p k.Dot ≡ true → follows p 46 ≡ true
behind_dot k.Number h may = cc
behind_dot k.BigInt h may = cc
behind_dot k.Question h may = cc
behind_dot k.Dot h may = cc
behind_dot _ h may = refl

behind_question_dot : (p : Kind) → not (is_number p) ≡ true → may_follow p k.QuestionDot ≡ true → follows p 63 ≡ true
behind_question_dot k.Number h may = cc
behind_question_dot k.BigInt h may = cc
behind_question_dot k.Question h may = cc
behind_question_dot _ h may = refl

link_follows : (p n : Kind) (b : ℕ) → is_link n ≡ true → not (is_number p) ≡ true → may_follow p n ≡ true → first_fits n b ≡ true → follows p b ≡ true
link_follows p k.Dot b h number may fits = at_byte (λ x. follows p x ≡ true) b 46 fits (behind_dot p number may)
link_follows p k.QuestionDot b h number may fits = at_byte (λ x. follows p x ≡ true) b 63 fits (behind_question_dot p number may)
link_follows p _ b h number may fits = cc

-- where no space stands between two tokens that may follow one another, the first isn't longer for the second
joined_follows : (p n : Kind) (b : ℕ) → is_joined p n ≡ true → may_follow p n ≡ true → first_fits n b ≡ true → follows p b ≡ true
joined_follows p n b h may fits = elim (or_cases ((opens p || closes n) || (is_link n && not (is_number p))) _ h) [
  | inr lists ↦ quiet_follows p b (list_quiet n b (and_parts _ _ lists).0 fits)
  | inl others ↦ (elim (or_cases (opens p || closes n) _ others) [
    | inr links ↦ link_follows p n b (and_parts _ _ links).0 (and_parts _ _ links).1 may fits
    | inl ends ↦ (elim (or_cases (opens p) (closes n) ends) [
      | inl first ↦ opens_follows p n b first may fits
      | inr second ↦ quiet_follows p b (closes_quiet n b second fits)
    ])
  ])
]

-- a text that begins with a byte that may follow a token of a kind
pub record Next (p : Kind) (text : List ℕ) : Type 0 where
  pub first : ℕ
  pub rest : List ℕ
  pub is : text ≡ first ∷ rest
  pub fits : follows p first ≡ true

pub gap-next : (p n : Kind) (b : ℕ) (x : List ℕ) → may_follow p n ≡ true → first_fits n b ≡ true → Next p (gap (Some p) n ++ b ∷ x)
unfolding gap has_gap
gap-next p n b x may fits = by (is_joined p n) refl
  where
    by : (t : Bool) → is_joined p n ≡ t → Next p (cond (not t) (32 ∷ []) [] ++ b ∷ x)
    by true is = record { first = b; rest = x; is = refl; fits = joined_follows p n b is may fits }
    by false is = record { first = 32; rest = b ∷ x; is = refl; fits = quiet_follows p 32 refl }
