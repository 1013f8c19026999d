-- What is printed: a line for each list of tokens.
use Rattle.std.specs.Prelude.{ℕ, ◌-◌, if◌then◌else◌, ◌==◌, List, [], ◌∷◌, ◌++◌, take, drop, Option, Some, None}
use Rattle.std.specs.List.{flat_map}
use Rattle.esb_token.specs.declared.kind.Kind.{Kind}
use Rattle.esb_token.specs.declared.token.Token.{Token}
use Rattle.esb_print.specs.Gaps.{has_gap}

-- the bytes of the contents from one place up to another
abbrev pub between : List ℕ → ℕ → ℕ → List ℕ
between contents start end = take (end - start) (drop start contents)

-- the spelling of a token: `;` where it is one that no bytes spell, which stands for a semicolon that was left out
unfoldable pub spelling : List ℕ → Token → List ℕ
spelling contents t = if t.start == t.end then 59 ∷ [] else between contents t.start t.end

-- what stands between a token of a kind, if there is one, and the next token
unfoldable pub gap : Option Kind → Kind → List ℕ
gap None n = []
gap (Some p) n = if has_gap p n then 32 ∷ [] else []

-- the rest of a line, behind a token of a kind or at its begin
abbrev pub rest_of_line : List ℕ → Option Kind → List Token → List ℕ
rest_of_line contents last [] = 10 ∷ []
rest_of_line contents last (t ∷ ts) = gap last t.kind ++ (spelling contents t ++ rest_of_line contents (Some t.kind) ts)

-- the spellings of the tokens with the gaps between them, and a line feed
unfoldable pub line : List ℕ → List Token → List ℕ
line contents tokens = rest_of_line contents None tokens

unfoldable pub text_of : List ℕ → List (List Token) → List ℕ
text_of contents lines = flat_map (line contents) lines
