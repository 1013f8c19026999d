-- What it is that printed text reads again as the tokens that it was printed of.
use Rattle.std.specs.Prelude.{◌≡◌, ◌≢◌, ◌⊎◌, ℕ, Bool, true, false, not, ◌&&◌, List, [], ◌∷◌, ◌++◌, IsUtf8, Ok}
use Rattle.esb_token.specs.declared.kind.Kind.{Kind}
use Rattle.esb_token.specs.declared.kind.Kind.TheVariants as k
use Rattle.esb_token.specs.declared.token.Token.{Token}
use Rattle.esb_token.specs.Goals.{goal_of}
use Rattle.esb_token.specs.Tokens.{next, Spelled}
use Rattle.esb_print.specs.Gaps.{is_link, is_number}
use Rattle.esb_print.specs.Lines.{between, spelling, text_of}

-- ---- what may be printed

-- a token that the contents spell at some place, under the goal of its kind
abbrev pub Stands : List ℕ → Token → Type 0
Stands contents t = (at : ℕ) × (next contents at (goal_of t.kind) ≡ Ok t) × (t.kind ≢ k.End)

-- a semicolon that was left out
abbrev pub IsLeftOut : Token → Type 0
IsLeftOut t = (t.kind ≡ k.Semicolon) × (t.start ≡ t.end)

abbrev pub AreTokens : List ℕ → List Token → Type 0
AreTokens contents [] = Unit {0}
AreTokens contents (t ∷ ts) = (Stands contents t ⊎ IsLeftOut t) × AreTokens contents ts

-- `.` and `...`
abbrev pub is_dots : Kind → Bool
is_dots k.Dot = true
is_dots k.Ellipsis = true
is_dots _ = false

-- Which kinds may follow one another in a line. In a module any others do not: behind a `.` stands a name, behind a `?.` a name or a
-- bracket, and behind a `?` an expression.
abbrev pub may_follow : Kind → Kind → Bool
may_follow k.Dot n = not (is_number n) && not (is_dots n)
may_follow k.QuestionDot n = not (is_number n)
may_follow k.Question n = not (is_link n)
may_follow _ n = true

abbrev pub FollowWell : List Token → Type 0
FollowWell [] = Unit {0}
FollowWell (p ∷ []) = Unit {0}
FollowWell (p ∷ n ∷ ts) = (may_follow p.kind n.kind ≡ true) × FollowWell (n ∷ ts)

abbrev pub ArePrintable : List ℕ → List (List Token) → Type 0
ArePrintable contents [] = Unit {0}
ArePrintable contents (tokens ∷ lines) = AreTokens contents tokens × FollowWell tokens × ArePrintable contents lines

-- ---- what is read

-- a token of the printed text with the kind and the spelling of one of the contents
abbrev pub IsAlike : List ℕ → Token → List ℕ → Token → Type 0
IsAlike contents t text u = (u.kind ≡ t.kind) × (between text u.start u.end ≡ spelling contents t)

-- tokens like those behind a line's first: on its line
abbrev pub AreAlikeOnLine : List ℕ → List Token → List ℕ → List Token → Type 0
AreAlikeOnLine contents [] text [] = Unit {0}
AreAlikeOnLine contents (t ∷ ts) text (u ∷ us) = IsAlike contents t text u × (u.after_line ≡ false) × AreAlikeOnLine contents ts text us
AreAlikeOnLine contents _ text _ = ⊥

abbrev pub AreAlike : List ℕ → List Token → List ℕ → List Token → Type 0
AreAlike contents [] text [] = Unit {0}
AreAlike contents (t ∷ ts) text (u ∷ us) = IsAlike contents t text u × AreAlikeOnLine contents ts text us
AreAlike contents _ text _ = ⊥

abbrev pub AreLinesAlike : List ℕ → List (List Token) → List ℕ → List (List Token) → Type 0
AreLinesAlike contents [] text [] = Unit {0}
AreLinesAlike contents (ts ∷ lines) text (us ∷ read) = AreAlike contents ts text us × AreLinesAlike contents lines text read
AreLinesAlike contents _ text _ = ⊥

abbrev pub joined : List (List Token) → List Token
joined [] = []
joined (ts ∷ lines) = ts ++ joined lines

-- The text is the same tokens, line by line: each is read under the goal of its kind and has its spelling, none is joined with its
-- neighbour or cut, and nothing else stands in the text.
abbrev pub ReadsAgain : List ℕ → List (List Token) → List ℕ → Type 0
ReadsAgain contents lines text = (read : List (List Token)) × Spelled text (joined read) × AreLinesAlike contents lines text read

-- so is what is printed of tokens that may follow one another
abbrev pub PrintedIsRead : Type 0
PrintedIsRead = (contents : List ℕ) (lines : List (List Token)) → IsUtf8 contents → ArePrintable contents lines → ReadsAgain contents lines (text_of contents lines)
