-- The early rules that are tests of one node (ECMA-262, 11th edition).
use Rattle.std.specs.Prelude.{ℕ, Bool, true, false, not, ◌&&◌, ◌||◌, nat_eq, if◌then◌else◌, List, [], ◌∷◌, Option, Some, None, is_some, codes}
use Rattle.std.specs.Cmp.Lexicographic.{pointwise}
use Rattle.esb_token.specs.declared.kind.Kind.{Kind}
use Rattle.esb_token.specs.declared.kind.Kind.TheVariants as k
use Rattle.esb_token.specs.declared.token.Token.{Token}
use Rattle.esb_grammar.specs.Kinds.{is_assign, is_binding, is_name}
use Rattle.esb_early_checks.specs.declared.roles.ListRole.{ListRole}
use Rattle.esb_early_checks.specs.declared.roles.Place.{Place}
use Rattle.esb_early_checks.specs.declared.roles.Role.{Role}
use Rattle.esb_early_checks.specs.declared.setting.Setting.{Setting}
use Rattle.esb_early_checks.specs.declared.shapes.BracketedShape.{BracketedShape}
use Rattle.esb_early_checks.specs.declared.shapes.LinksShape.{LinksShape}
use Rattle.esb_early_checks.specs.Findings.{Finding, breach_if, together}
use Rattle.esb_names.specs.Keys.{is_constructor, is_proto_in}
use Rattle.esb_names.specs.Names.{bytes_of, has_escape, is_spelled}
use Rattle.esb_early_checks.specs.Roles.{is_target, is_assigned, is_simple, may_have_default, is_pattern}

-- ---- names

abbrev pub is_word_to_d : List ℕ → Token → Bool
is_word_to_d text t = is_spelled text (codes "await") t || is_spelled text (codes "break") t || is_spelled text (codes "case") t || is_spelled text (codes "catch") t || is_spelled text (codes "class") t || is_spelled text (codes "const") t || is_spelled text (codes "continue") t || is_spelled text (codes "debugger") t || is_spelled text (codes "default") t || is_spelled text (codes "delete") t || is_spelled text (codes "do") t

abbrev pub is_word_to_h : List ℕ → Token → Bool
is_word_to_h text t = is_spelled text (codes "else") t || is_spelled text (codes "enum") t || is_spelled text (codes "export") t || is_spelled text (codes "extends") t || is_spelled text (codes "false") t || is_spelled text (codes "finally") t || is_spelled text (codes "for") t || is_spelled text (codes "function") t

abbrev pub is_word_to_n : List ℕ → Token → Bool
is_word_to_n text t = is_spelled text (codes "if") t || is_spelled text (codes "implements") t || is_spelled text (codes "import") t || is_spelled text (codes "in") t || is_spelled text (codes "instanceof") t || is_spelled text (codes "interface") t || is_spelled text (codes "let") t || is_spelled text (codes "new") t || is_spelled text (codes "null") t

abbrev pub is_word_to_s : List ℕ → Token → Bool
is_word_to_s text t = is_spelled text (codes "package") t || is_spelled text (codes "private") t || is_spelled text (codes "protected") t || is_spelled text (codes "public") t || is_spelled text (codes "return") t || is_spelled text (codes "static") t || is_spelled text (codes "super") t || is_spelled text (codes "switch") t

abbrev pub is_word_to_z : List ℕ → Token → Bool
is_word_to_z text t = is_spelled text (codes "this") t || is_spelled text (codes "throw") t || is_spelled text (codes "true") t || is_spelled text (codes "try") t || is_spelled text (codes "typeof") t || is_spelled text (codes "var") t || is_spelled text (codes "void") t || is_spelled text (codes "while") t || is_spelled text (codes "with") t || is_spelled text (codes "yield") t

-- whether a name stands for a reserved word, of those that strict mode and modules reserve too (11.6.2, 12.1.1)
abbrev pub is_reserved_word : List ℕ → Token → Bool
is_reserved_word text t = is_word_to_d text t || is_word_to_h text t || is_word_to_n text t || is_word_to_s text t || is_word_to_z text t

-- whether a token that stands for a name is a reserved word, as it is or with escapes
abbrev pub is_reserved : List ℕ → Token → Bool
is_reserved text t = not (is_name t.kind) || (has_escape (bytes_of text t) && is_reserved_word text t)

abbrev pub is_eval_or_arguments : List ℕ → Token → Bool
is_eval_or_arguments text t = is_spelled text (codes "eval") t || is_spelled text (codes "arguments") t

-- IdentifierReference and LabelIdentifier (12.1.1)
abbrev pub reference_breaches : List ℕ → Token → Finding
reference_breaches text t = breach_if (is_reserved text t) t.start 14

-- BindingIdentifier, and a name that is assigned to (12.1.1, 12.1.3)
abbrev pub bound_breaches : List ℕ → Token → Finding
bound_breaches text t = together (reference_breaches text t ∷ breach_if (is_eval_or_arguments text t) t.start 8 ∷ [])

-- the name of a function or a class, which may be absent
abbrev pub declared_breaches : List ℕ → Option Token → Finding
declared_breaches text None = together []
declared_breaches text (Some name) = bound_breaches text name

-- ---- what is assigned to

-- what is no name, no member and no pattern (12.4.1, 12.15.1, 12.15.5.1, 13.7.5.1)
abbrev pub value_breaches : Role → ℕ → Finding
value_breaches role start = breach_if (is_target role) start 7

-- an array or an object, where it may not be a pattern
abbrev pub literal_breaches : Role → ℕ → Finding
literal_breaches role start = breach_if (is_simple role) start 7

abbrev pub primary_breaches : List ℕ → Token → Role → Finding
primary_breaches text t role = if is_binding t.kind then (if is_target role then bound_breaches text t else reference_breaches text t) else value_breaches role t.start

-- a name in parentheses that is assigned to, or something else
abbrev pub covered_breaches : List ℕ → Role → Option Token → Bool → ℕ → Finding
covered_breaches text role None may_be_assigned start = breach_if (is_assigned role && not may_be_assigned) start 7
covered_breaches text role (Some name) may_be_assigned start = breach_if (is_assigned role && is_eval_or_arguments text name) name.start 8

abbrev pub parenthesized_breaches : List ℕ → Role → BracketedShape → Finding
parenthesized_breaches text role list = covered_breaches text role list.name list.is_simple list.start

-- a chain of members and calls (12.3.1.6)
abbrev pub member_breaches : Role → LinksShape → ℕ → Finding
member_breaches role links start = breach_if (is_assigned role && not (links.ends_with_access && not links.has_optional)) start 7

-- an assignment as what is assigned to: in a pattern it is a target and its default
abbrev pub assignment_breaches : Role → Token → ℕ → Finding
assignment_breaches role operator start = breach_if (is_target role && not (may_have_default role && is_assign operator.kind)) start 7

-- `...` in a pattern, which is its last element (12.15.5)
abbrev pub spread_breaches : Place → Finding
spread_breaches place = breach_if (is_pattern place.role && not place.is_last) place.begin 7

-- a method, which no pattern has
abbrev pub method_property_breaches : Place → Finding
method_property_breaches place = breach_if (is_pattern place.role) place.begin 7

-- a property that is one name
abbrev pub shorthand_breaches : List ℕ → Token → Place → Finding
shorthand_breaches text name place = if is_pattern place.role then bound_breaches text name else reference_breaches text name

-- a name, `=` and a default, which no object has (12.2.6.1)
abbrev pub initialized_breaches : List ℕ → Token → Token → Place → Finding
initialized_breaches text name sign place = if is_pattern place.role then bound_breaches text name else together (reference_breaches text name ∷ breach_if true sign.start 17 ∷ [])

-- ---- words and operators

abbrev pub is_super : Kind → Bool
is_super k.Super = true
is_super _ = false

abbrev pub is_new : Kind → Bool
is_new k.New = true
is_new _ = false

abbrev pub is_delete : Kind → Bool
is_delete k.Delete = true
is_delete _ = false

-- `return` (15.2.1.1, 13.10)
abbrev pub return_breaches : Token → Setting → Finding
return_breaches word setting = breach_if (not setting.in_function) word.start 4

-- `super` before a member or a call (14.1.2, 14.3.1, 14.6.1, 15.2.1.1)
abbrev pub super_breaches : Option Token → Bool → Setting → Finding
super_breaches None is_call setting = together []
super_breaches (Some t) is_call setting = breach_if (is_super t.kind && not (if is_call then setting.has_super_call else setting.has_super)) t.start 13

-- `new.target` (15.2.1.1)
abbrev pub meta_breaches : Token → Setting → Finding
meta_breaches word setting = breach_if (is_new word.kind && not setting.has_new_target) word.start 13

-- `delete` of a name (12.5.3.1)
abbrev pub delete_breaches : Token → Option Token → Finding
delete_breaches operator name = breach_if (is_delete operator.kind && is_some name) operator.start 10

-- `yield` and `await` as operators (14.2.1, 14.4.1, 14.5.1, 14.7.1, 14.8.1)
abbrev pub operator_breaches : Token → Setting → Finding
operator_breaches word setting = breach_if setting.in_parameters word.start 15

-- ---- methods and properties

abbrev pub start_of_key : Option Token → ℕ
start_of_key None = 0
start_of_key (Some key) = key.start

-- a constructor that is a getter, a setter, a generator or async (14.6.1)
abbrev pub constructor_breaches : List ℕ → Bool → Option Token → Option Token → Option Token → Finding
constructor_breaches text is_prototype key word star = breach_if (is_prototype && (is_constructor text key && (is_some word || is_some star))) (start_of_key key) 11

-- a second constructor of a class (14.6.1)
abbrev pub second_constructor : List ℕ → Bool → Option Token → Finding
second_constructor text has_constructor key = breach_if (has_constructor && is_constructor text key) (start_of_key key) 11

-- a second `__proto__: v` of an object that is no pattern (B.3.1)
abbrev pub second_proto : List ℕ → ListRole → Bool → Option Token → Finding
second_proto text role has_proto key = breach_if (not (is_pattern role) && (has_proto && is_proto_in text key)) (start_of_key key) 12

-- whether a token is a name that is written so, without escapes
abbrev pub is_exactly : List ℕ → List ℕ → Token → Bool
is_exactly text word t = is_name t.kind && pointwise nat_eq (bytes_of text t) word

abbrev pub getter_breaches : List ℕ → Token → ℕ → Bool → Finding
getter_breaches text word start has_none = breach_if (is_exactly text (codes "get") word && not has_none) start 18

abbrev pub setter_breaches : List ℕ → Token → ℕ → Bool → Finding
setter_breaches text word start has_one = breach_if (is_exactly text (codes "set") word && not has_one) start 18

-- a getter with parameters, and a setter without exactly one (14.3)
abbrev pub accessor_breaches : List ℕ → Option Token → ℕ → Bool → Bool → Finding
accessor_breaches text None start has_none has_one = together []
accessor_breaches text (Some word) start has_none has_one = together (getter_breaches text word start has_none ∷ setter_breaches text word start has_one ∷ [])

-- a Use Strict Directive in the body of a function whose parameters aren't plain names (14.1.2, 14.2.1, 14.3.1, 14.4.1, 14.5.1, 14.7.1, 14.8.1)
abbrev pub strict_breaches : Bool → Option Token → Finding
strict_breaches is_plain None = together []
strict_breaches is_plain (Some directive) = breach_if (not is_plain) directive.start 16
