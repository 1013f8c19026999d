-- Directive prologues (ECMA-262, 14.1.1).
use Rattle.std.specs.Prelude.{ℕ, Bool, if◌then◌else◌, nat_eq, List, [], ◌∷◌, Option, Some, None, codes}
use Rattle.std.specs.Cmp.Lexicographic.{pointwise}
use Rattle.esb_token.specs.declared.token.Token.{Token}
use Rattle.esb_names.specs.Keys.{inside, is_text}
use Rattle.esb_names.specs.Names.{bytes_of}

-- the directive of a statement whose expression is this token alone
abbrev pub directive_of : Option Token → Option Token
directive_of None = None
directive_of (Some t) = if is_text t.kind then Some t else None

-- the Use Strict Directive, which has no escape and no line continuation
abbrev pub is_use_strict : List ℕ → Token → Bool
is_use_strict text t = pointwise nat_eq (inside (bytes_of text t)) (codes "use strict")

-- the first Use Strict Directive of a body, whose prologue ends at the first statement that is no directive
abbrev pub use_strict : List ℕ → List (Option Token) → Option Token
use_strict text [] = None
use_strict text (None ∷ rest) = None
use_strict text (Some t ∷ rest) = if is_use_strict text t then Some t else use_strict text rest
