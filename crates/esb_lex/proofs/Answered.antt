-- What the kind of an answered token tells.
use Rattle.std.proofs.Common.{◌≡◌, ◌≢◌, ℕ, ◌≤◌, List, length, Result, Ok, Err, IfOk, IfErr, sym}
use Rattle.esb_token.specs.declared.kind.Kind.TheVariants as k
use Rattle.esb_token.specs.declared.token.Token.{Token}
use Rattle.esb_token.specs.declared.goal.Goal.{Goal}
use Rattle.esb_token.specs.Tokens.{next, IsStringLiteral}
use Rattle.esb_token.specs.Longest.{IsLongest, IsTokenAt}
use Rattle.esb_token.proofs.TokenKinds.{text-is_literal, end-is_last}
use Rattle.esb_token.proofs.Maximal.{next_longest, next_refused, next_spelled}
use Rattle.esb_lex.specs.declared.read.LexFault.{LexFault}
use Rattle.esb_lex.specs.declared.read.LexFault.TheVariants.{BadToken}
use Rattle.esb_lex.specs.Answers.{answer, IsLast, IsRefusal}

answer-ok : (x : Result Token ℕ) (t : Token) → answer x ≡ Ok t → x ≡ Ok t
answer-ok (Ok u) t h = cc
answer-ok (Err at) t h = cc

pub answered_literal : (contents : List ℕ) (at : ℕ) (g : Goal) (r : Result Token LexFault) → r ≡ answer (next contents at g) → IfOk r (λ token. token.kind ≡ k.Text → IsStringLiteral contents token)
answered_literal contents at g (Ok t) h = λ is. text-is_literal contents at g t (answer-ok (next contents at g) t (sym h)) is
answered_literal contents at g (Err f) h = tt

pub answered_last : (contents : List ℕ) (at : ℕ) (g : Goal) (r : Result Token LexFault) → at ≤ length contents → r ≡ answer (next contents at g) → IfOk r (λ token. token.kind ≡ k.End → IsLast contents token)
answered_last contents at g (Ok t) within h = λ is. end-is_last contents at g t within (answer-ok (next contents at g) t (sym h)) is
answered_last contents at g (Err f) within h = tt

pub answered_longest : (contents : List ℕ) (at : ℕ) (g : Goal) (r : Result Token LexFault) → r ≡ answer (next contents at g) → IfOk r (λ token. IsLongest g contents token)
answered_longest contents at g (Ok t) h = next_longest contents at g t (answer-ok (next contents at g) t (sym h))
answered_longest contents at g (Err f) h = tt

answer-err : (x : Result Token ℕ) (place : ℕ) → answer x ≡ Err (BadToken place) → x ≡ Err place
answer-err (Ok t) place h = cc
answer-err (Err at) place h = cc

pub answered_refusal : (contents : List ℕ) (at : ℕ) (g : Goal) (r : Result Token LexFault) → r ≡ answer (next contents at g) → IfErr r (IsRefusal g contents)
answered_refusal contents at g (Ok t) h = tt
answered_refusal contents at g (Err (BadToken place)) h = next_refused contents at g place (answer-err (next contents at g) place (sym h))

pub answered_spelled : (contents : List ℕ) (at : ℕ) (g : Goal) (r : Result Token LexFault) → r ≡ answer (next contents at g) → IfOk r (λ token. token.kind ≢ k.End → IsTokenAt g contents token)
answered_spelled contents at g (Ok t) h = λ some. next_spelled contents at g t (answer-ok (next contents at g) t (sym h)) some
answered_spelled contents at g (Err f) h = tt
