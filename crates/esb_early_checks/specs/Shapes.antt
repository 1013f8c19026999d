-- What nodes are from outside, as far as the early rules ask (ECMA-262, 12.2.10.3, 12.3.1.6, 14.1.13).
use Rattle.std.specs.Prelude.{ℕ, Bool, true, false, not, ◌&&◌, ◌||◌, if◌then◌else◌, List, fold, Option, Some, None}
use Rattle.esb_token.specs.declared.token.Token.{Token}
use Rattle.esb_grammar.specs.Kinds.{is_binding}
use Rattle.esb_early_checks.specs.declared.shapes.BracketedShape.{BracketedShape}
use Rattle.esb_early_checks.specs.declared.shapes.ElementShape.{ElementShape}
use Rattle.esb_early_checks.specs.declared.shapes.ElementsShape.{ElementsShape}
use Rattle.esb_early_checks.specs.declared.shapes.ExpressionShape.{ExpressionShape}
use Rattle.esb_early_checks.specs.declared.shapes.LinkShape.{LinkShape}
use Rattle.esb_early_checks.specs.declared.shapes.LinksShape.{LinksShape}
use Rattle.esb_early_checks.specs.declared.shapes.PropertyNameShape.{PropertyNameShape}

-- an expression that is no name, no member, and no list in parentheses
abbrev pub other_shape : ℕ → ExpressionShape
other_shape start = record { start = start; token = None; name = None; is_simple = false; is_plain = false }

-- an expression of one token
abbrev pub primary_shape : Token → ExpressionShape
primary_shape t = record { start = t.start; token = Some t; name = if is_binding t.kind then Some t else None; is_simple = is_binding t.kind; is_plain = is_binding t.kind }

-- a list in parentheses
abbrev pub parenthesized_shape : BracketedShape → ExpressionShape
parenthesized_shape list = record { start = list.start; token = None; name = list.name; is_simple = list.is_simple; is_plain = list.is_plain }

-- a chain of members and calls: it may be assigned to where a member is at its end and no part of it is optional
abbrev pub member_shape : ℕ → LinksShape → ExpressionShape
member_shape start links = record { start = start; token = None; name = None; is_simple = links.ends_with_access && not links.has_optional; is_plain = links.is_plain }

abbrev pub access_link : LinkShape
access_link = record { is_access = true; is_optional = false; is_call = false; is_plain = false }

abbrev pub call_link : Bool → LinkShape
call_link is_plain = record { is_access = false; is_optional = false; is_call = true; is_plain = is_plain }

abbrev pub template_link : LinkShape
template_link = record { is_access = false; is_optional = false; is_call = false; is_plain = false }

abbrev pub optional_link : LinkShape
optional_link = record { is_access = false; is_optional = true; is_call = false; is_plain = false }

abbrev pub no_links : LinksShape
no_links = record { has_begun = false; begins_with_call = false; ends_with_access = false; has_optional = false; is_plain = false }

abbrev pub after_link : LinksShape → LinkShape → LinksShape
after_link links link = record { has_begun = true; begins_with_call = if links.has_begun then links.begins_with_call else link.is_call; ends_with_access = link.is_access; has_optional = links.has_optional || link.is_optional; is_plain = link.is_plain }

-- the links of a chain, one after another
abbrev pub links_shape : List LinkShape → LinksShape
links_shape links = fold after_link no_links links

abbrev pub hole_shape : ElementShape
hole_shape = record { is_hole = true; is_value = false; name = None; is_simple = false; is_plain = true; key = None }

abbrev pub value_shape : ExpressionShape → ElementShape
value_shape x = record { is_hole = false; is_value = true; name = x.name; is_simple = x.is_simple; is_plain = x.is_plain; key = None }

abbrev pub other_element : ElementShape
other_element = record { is_hole = false; is_value = false; name = None; is_simple = false; is_plain = false; key = None }

-- a property with a value
abbrev pub property_element : Option Token → ElementShape
property_element key = record { is_hole = false; is_value = false; name = None; is_simple = false; is_plain = false; key = key }

-- the key of a method of a class that is not static
abbrev pub key_of_prototype : Option Token → Option Token → Option Token
key_of_prototype None key = key
key_of_prototype (Some static_word) key = None

-- the first element, whether the others are plain, and whether there are none
abbrev pub elements_shape : ElementShape → Bool → Bool → ElementsShape
elements_shape first are_others_plain is_only = record { name = if is_only then first.name else None; is_simple = is_only && first.is_simple; is_plain = first.is_plain && are_others_plain; is_empty = is_only && first.is_hole; is_one_value = is_only && first.is_value }

abbrev pub bracketed_shape : Token → ElementsShape → BracketedShape
bracketed_shape begin list = record { start = begin.start; name = list.name; is_simple = list.is_simple; is_plain = list.is_plain; is_empty = list.is_empty; is_one_value = list.is_one_value }

abbrev pub named_shape : Token → PropertyNameShape
named_shape name = record { start = name.start; key = Some name }

abbrev pub computed_shape : Token → PropertyNameShape
computed_shape begin = record { start = begin.start; key = None }

abbrev pub start_of_function : Option Token → Token → ℕ
start_of_function None word = word.start
start_of_function (Some async_word) word = async_word.start
