-- The test of kinds.
use Rattle.std.proofs.Common.{◌≡◌, true, refl, rules}
use denote.Enum.Bare.{same_true}
use Rattle.esb_token.specs.contracts.kind.Kind.{the_type}
use Rattle.esb_token.specs.declared.kind.Kind.{Kind}
use Rattle.esb_token.specs.declared.kind.Kind.TheVariants as k
use Rattle.esb_reader.specs.Kinds.{same_kind}

pub same_kind-is : (a b : Kind) → same_kind a b ≡ true → a ≡ b
unfolding same_kind
same_kind-is a b h = same_true the_type (search rules) a b h

pub same_kind-refl : (a : Kind) → same_kind a a ≡ true
unfolding same_kind
same_kind-refl k.Name = refl
same_kind-refl _ = refl
