-- Tokens take bytes of the text.
use Rattle.std.proofs.Common.{◌≡◌, inl, inr, ℕ, ◌+◌, ◌-◌, ◌<◌, List, [], ◌∷◌, ◌++◌, length, drop, Some, ap, arith, length-append, length-drop}
use Rattle.esb_token.specs.declared.kind.Kind.{Kind}
use Rattle.esb_token.specs.declared.token.Token.{Token}
use Rattle.esb_token.specs.declared.goal.Goal.{Goal}
use Rattle.esb_token.specs.Gaps.{gap}
use Rattle.esb_token.specs.Tokens.{skipped}
use Rattle.esb_token.specs.Names.{word_in}
use Rattle.esb_token.specs.Grammar.{joined, punctuators, IsInteger, IsNumeric, whole, fraction, point, big, based, based_big, IsToken, punctuator, name, number, string, template_whole, template_head, template_middle, template_tail, regular_expression}
use Rattle.esb_token.specs.Goals.{goal_of}
use Rattle.esb_token.proofs.TokenKinds.{found}
use Rattle.esb_token.proofs.Maximal.{next_spelled}
use Rattle.esb_reader.specs.Laws.{TokenMoves, TokensMove}

-- ---- a token of the grammar has a byte

longer : (xs ys : List ℕ) → 0 < length xs → 0 < length (xs ++ ys)
longer xs ys some = let all = length-append xs ys in omega (arith, all, some)

integer_some : (bytes : List ℕ) → IsInteger bytes → 0 < length bytes
integer_some bytes (inl is) = let size = ap length is in omega (arith, size)
integer_some bytes (inr digits) = digits.0

behind_integer : (integer rest : List ℕ) → IsInteger integer → 0 < length (integer ++ rest)
behind_integer integer rest h = longer integer rest (integer_some integer h)

number_some : {kind : Kind} {bytes : List ℕ} → IsNumeric kind bytes → 0 < length bytes
number_some (whole integer exponent h more) = behind_integer integer exponent h
number_some (fraction integer digits exponent h all more) = behind_integer integer _ h
number_some (point digits exponent some all more) = omega arith
number_some (big integer h) = behind_integer integer _ h
number_some (based letter digits some all) = omega arith
number_some (based_big letter digits some all) = omega arith

punctuator_some : (kind : Kind) (bytes : List ℕ) → word_in punctuators bytes ≡ Some kind → 0 < length bytes
punctuator_some kind [] h = cc
punctuator_some kind (b ∷ bytes) h = omega arith

token_some : {g : Goal} {kind : Kind} {bytes after : List ℕ} → IsToken g kind bytes after → 0 < length bytes
token_some (punctuator kind bytes after entry may under) = punctuator_some kind bytes entry
token_some (name start parts after first more) = longer start (joined parts) first.0
token_some (number kind bytes after h) = number_some h
token_some (string quote pieces after h parts) = omega arith
token_some (template_whole pieces after parts) = omega arith
token_some (template_head pieces after parts) = omega arith
token_some (template_middle pieces after under parts) = omega arith
token_some (template_tail pieces after under parts) = omega arith
token_some (regular_expression body flags after under some star parts marks) = omega arith

-- ---- so has one that is read

pub token-moves : TokenMoves
token-moves text g at t h some =
    let f = found text at g t h in
    let from = at + skipped text at in
    let start_is : t.start ≡ from + gap (drop from text) = ap (λ (x : Token). x.start) f.2 in
    let s = next_spelled text at g t h some in
    let bytes = s.0 in
    let after = s.1 in
    let split : drop t.start text ≡ bytes ++ after = s.2 in
    let size : length bytes ≡ t.end - t.start = s.3 in
    let long = token_some s.4 in
    let whole_length = ap length split in
    let cut = length-drop t.start text in
    let all = length-append bytes after in
    (omega (arith, start_is), omega (arith, size, long), omega (arith, size, long, whole_length, cut, all))

pub tokens-move : TokensMove
tokens-move text at [] to h = (let e : at ≡ to = h in omega (arith, e), λ within. let e : at ≡ to = h in omega (arith, e, within))
tokens-move text at (t ∷ ts) to h =
    let here = token-moves text (goal_of t.kind) at t h.0 h.1 in
    let rest = tokens-move text t.end ts to h.2 in
    (omega (arith, here.0, here.1, rest.0), λ within. rest.1 here.2)
