-- What the lexer answers.
use Rattle.std.specs.Prelude.{◌≡◌, ℕ, ◌≤◌, List, length, Result, Ok, Err}
use Rattle.esb_token.specs.declared.token.Token.{Token}
use Rattle.esb_token.specs.declared.goal.Goal.{Goal}
use Rattle.esb_token.specs.Longest.{IsNoToken}
use Rattle.esb_lex.specs.declared.read.LexFault.{LexFault}
use Rattle.esb_lex.specs.declared.read.LexFault.TheVariants.{BadToken}

-- the token, or the place where none can be read
abbrev pub answer : Result Token ℕ → Result Token LexFault
answer (Ok token) = Ok token
answer (Err at) = Err (BadToken at)

-- a token that stands between two places
abbrev pub IsWithin : ℕ → ℕ → Token → Type 0
IsWithin from to token = (from ≤ token.start) × (token.start ≤ token.end) × (token.end ≤ to)

-- a place between two others
abbrev pub IsPlace : ℕ → ℕ → LexFault → Type 0
IsPlace from to (BadToken at) = (from ≤ at) × (at ≤ to)

-- a token at the end of a text
abbrev pub IsLast : List ℕ → Token → Type 0
IsLast contents token = (token.start ≡ length contents) × (token.end ≡ length contents)

-- neither the end nor a token of a goal stands at the place
abbrev pub IsRefusal : Goal → List ℕ → LexFault → Type 0
IsRefusal g contents (BadToken at) = IsNoToken g contents at
