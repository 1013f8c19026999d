-- Properties' names that mean something.
use Rattle.std.specs.Prelude.{ℕ, ◌-◌, Bool, true, false, if◌then◌else◌, nat_eq, List, length, take, drop, Option, Some, None, codes}
use Rattle.std.specs.Cmp.Lexicographic.{pointwise}
use Rattle.esb_token.specs.declared.kind.Kind.{Kind}
use Rattle.esb_token.specs.declared.kind.Kind.TheVariants as k
use Rattle.esb_token.specs.declared.token.Token.{Token}
use Rattle.esb_token.specs.Strings.{string_value}
use Rattle.esb_names.specs.Names.{is_spelled}

abbrev pub is_text : Kind → Bool
is_text k.Text = true
is_text _ = false

-- what stands in the quotes of a string
abbrev pub inside : List ℕ → List ℕ
inside text = take (length text - 2) (drop 1 text)

-- whether a key is this name of ASCII characters, as a name or as a string (PropName, 12.2.6.5)
abbrev pub is_key : List ℕ → List ℕ → Token → Bool
is_key text word t = if is_text t.kind then pointwise nat_eq (string_value (drop t.start text)) word else is_spelled text word t

-- whether a key is `constructor`; a computed one is not
abbrev pub is_constructor : List ℕ → Option Token → Bool
is_constructor text None = false
is_constructor text (Some t) = is_key text (codes "constructor") t

-- whether a key is `__proto__`
abbrev pub is_proto_in : List ℕ → Option Token → Bool
is_proto_in text None = false
is_proto_in text (Some t) = is_key text (codes "__proto__") t
