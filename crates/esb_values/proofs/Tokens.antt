-- What a reader of one token does where it is seen, or isn't.
use Rattle.std.proofs.Common.{◌≡◌, ℕ, Bool, true, false, ◌&&◌, Option, Some, None, refl, ap, ◌∙◌}
use Rattle.esb_token.specs.declared.kind.Kind.{Kind}
use Rattle.esb_token.specs.declared.kind.Kind.TheVariants as k
use Rattle.esb_token.specs.declared.token.Token.{Token}
use Rattle.esb_token.specs.declared.goal.Goal.TheVariants as goal
use Rattle.esb_grammar.specs.declared.context.Context.{Context}
use Rattle.esb_grammar.specs.Kinds.{is_name, is_reference, is_binding}
use Rattle.esb_grammar.specs.Words.{is_word, is_async}
use Rattle.esb_reader.specs.Places.{Text, token_at, peek, nothing, or_nothing}
use Rattle.esb_reader.specs.Reader.{and_then, with_end, take, choose, pure, fail, node}
use Rattle.esb_reader.specs.Parts.{behind, token_in}
use Rattle.esb_access_laws.specs.Links.{is_left_parenthesis}
use Rattle.esb_first_tokens.specs.First.{is_yield_in}

refused_of : (test : Token → Bool) (o : Option Token) (i : ℕ) → test (or_nothing o) ≡ false → and_then (with_end o) (λ t j. choose (test t) (pure (node t 0)) fail j) ≡ None
refused_of test None i h = refl
refused_of test (Some t) i h = ap (λ b. choose b (pure (node t 0)) fail t.end) h

pub refused : (text : Text) (test : Token → Bool) (i : ℕ) → test (behind text i) ≡ false → token_in text goal.Div test i ≡ None
unfolding take peek
refused text test i h = refused_of test (token_at text goal.Div i) i h

accepted_of : (test : Token → Bool) (o : Option Token) → test nothing ≡ false → test (or_nothing o) ≡ true → and_then (with_end o) (λ t j. choose (test t) (pure (node t 0)) fail j) ≡ Some (node (or_nothing o) 0, (or_nothing o).end)
accepted_of test None absent h = cc
accepted_of test (Some t) absent h = ap (λ b. choose b (pure (node t 0)) fail t.end) h

pub accepted : (text : Text) (test : Token → Bool) (i : ℕ) → test nothing ≡ false → test (behind text i) ≡ true → token_in text goal.Div test i ≡ Some (node (behind text i) 0, (behind text i).end)
unfolding take peek
accepted text test i absent h = accepted_of test (token_at text goal.Div i) absent h

-- ---- kinds

pub is_parenthesis : (kind : Kind) → is_left_parenthesis kind ≡ true → kind ≡ k.LeftParenthesis
is_parenthesis k.LeftParenthesis h = refl
is_parenthesis _ h = cc

is_name_of : (kind : Kind) → is_name kind ≡ true → kind ≡ k.Name
is_name_of k.Name h = refl
is_name_of _ h = cc

pub and_first : (a b : Bool) → (a && b) ≡ true → a ≡ true
and_first true b h = refl
and_first false b h = cc

pub and_second : (a b : Bool) → (a && b) ≡ true → b ≡ true
and_second true b h = h
and_second false b h = cc

pub none_first : (a b : Bool) → a ≡ false → (a && b) ≡ false
none_first a b h = ap (λ x. x && b) h

pub none_second : (a b : Bool) → b ≡ false → (a && b) ≡ false
none_second true b h = h
none_second false b h = refl

pub async_kind : (text : Text) (t : Token) → is_async text t ≡ true → t.kind ≡ k.Name
unfolding is_word
async_kind text t h = is_name_of t.kind (and_first _ _ h)

pub no_async : (text : Text) (t : Token) → is_name t.kind ≡ false → is_async text t ≡ false
unfolding is_word
no_async text t h = none_first _ _ h

pub async_nothing : (text : Text) → is_async text nothing ≡ false
async_nothing text = no_async text nothing refl
