-- As what expressions and lists stand (ECMA-262, 12.4.1, 12.15.1, 12.15.5, 13.3.3, 14.2, 14.8).
use Rattle.std.specs.Prelude.{ℕ, Bool, true, false, Option, Some, None}
use Rattle.esb_token.specs.declared.kind.Kind.{Kind}
use Rattle.esb_token.specs.declared.kind.Kind.TheVariants as k
use Rattle.esb_token.specs.declared.token.Token.{Token}
use Rattle.esb_early_checks.specs.declared.roles.ListRole.{ListRole}
use Rattle.esb_early_checks.specs.declared.roles.ListRole.TheVariants as lr
use Rattle.esb_early_checks.specs.declared.roles.Place.{Place}
use Rattle.esb_early_checks.specs.declared.roles.Role.{Role}
use Rattle.esb_early_checks.specs.declared.roles.Role.TheVariants as r

abbrev pub placed : ListRole → ℕ → Bool → Place
placed role begin is_last = record { role = role; begin = begin; is_last = is_last }

-- an array literal that stands so
abbrev pub array_role : Role → ListRole
array_role r.Value = lr.Values
array_role r.Simple = lr.Values
array_role _ = lr.ArrayPattern

-- an object literal
abbrev pub object_role : Role → ListRole
object_role r.Value = lr.Values
object_role r.Simple = lr.Values
object_role _ = lr.ObjectPattern

-- a list in parentheses
abbrev pub parenthesized_role : Role → ListRole
parenthesized_role r.Parameters = lr.ArrayPattern
parenthesized_role _ = lr.Values

-- the left side of an assignment (12.15.1): of `=` it may be a pattern
abbrev pub assigned_role : Kind → Role
assigned_role k.Assign = r.Target
assigned_role _ = r.Simple

-- an element, or the value of a property: in a pattern it may have a default (12.15.5)
abbrev pub role_of_element : ListRole → Role
role_of_element lr.Values = r.Value
role_of_element _ = r.TargetOrDefault

abbrev pub element_role : Place → Role
element_role place = role_of_element place.role

-- what stands behind `...`: in a pattern it has no default, and in that of an object it is no pattern (12.15.5.1)
abbrev pub role_of_spread : ListRole → Role
role_of_spread lr.Values = r.Value
role_of_spread lr.ArrayPattern = r.Target
role_of_spread lr.ObjectPattern = r.Simple

abbrev pub spread_role : Place → Role
spread_role place = role_of_spread place.role

-- whether something is assigned or bound
abbrev pub is_target : Role → Bool
is_target r.Value = false
is_target _ = true

-- and is no list of parameters
abbrev pub is_assigned : Role → Bool
is_assigned r.Value = false
is_assigned r.Parameters = false
is_assigned _ = true

abbrev pub is_simple : Role → Bool
is_simple r.Simple = true
is_simple _ = false

abbrev pub may_have_default : Role → Bool
may_have_default r.TargetOrDefault = true
may_have_default _ = false

abbrev pub is_pattern : ListRole → Bool
is_pattern lr.Values = false
is_pattern _ = true

-- whether a method of a class is not static
abbrev pub is_prototype_method : Option Token → Bool
is_prototype_method None = true
is_prototype_method (Some static_word) = false
