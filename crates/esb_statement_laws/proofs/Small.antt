-- Small facts of tests, of numbers and of kinds of token.
use Rattle.std.proofs.Common.{◌≡◌, ℕ, ◌+◌, max, Bool, true, false, not, ◌&&◌, ◌||◌, cond, refl, arith}
use Rattle.esb_token.specs.declared.kind.Kind.{Kind}
use Rattle.esb_token.specs.declared.kind.Kind.TheVariants as k
use Rattle.esb_token.specs.declared.token.Token.{Token}
use Rattle.esb_token.specs.declared.goal.Goal.TheVariants as goal
use Rattle.esb_grammar.specs.declared.context.Context.{Context}
use Rattle.esb_grammar.specs.Kinds.{is_reference, is_semicolon, is_right_brace, is_end, is_let, is_left_bracket, is_name}
use Rattle.esb_grammar.specs.Words.{is_word, is_async}
use Rattle.esb_reader.specs.Kinds.{agrees}
use Rattle.esb_reader.specs.Places.{Text}
use Rattle.esb_statement_laws.specs.declared.sort.Sort.TheVariants as o
use Rattle.esb_statement_laws.specs.Marks.{begins_target, ends_expression}

pub and_of : (a b : Bool) → a ≡ true → b ≡ true → (a && b) ≡ true
and_of true b h g = g
and_of false b h g = cc

pub first_of : (a b : Bool) → (a && b) ≡ true → a ≡ true
first_of true b h = refl
first_of false b h = cc

pub second_of : (a b : Bool) → (a && b) ≡ true → b ≡ true
second_of true b h = h
second_of false b h = cc

pub or_first : (a b : Bool) → a ≡ true → (a || b) ≡ true
or_first true b h = refl
or_first false b h = cc

pub or_second : (a b : Bool) → b ≡ true → (a || b) ≡ true
or_second true b h = refl
or_second false b h = h

pub of_not : (b : Bool) → not b ≡ true → b ≡ false
of_not true h = cc
of_not false h = refl

pub zero_max : (m : ℕ) → m ≡ max 0 m
zero_max m = omega arith

pub plus_zero : (m : ℕ) → m + 1 ≡ max m 0 + 1
plus_zero m = omega arith

pub semicolon_ends : (kind : Kind) → is_semicolon kind ≡ true → ends_expression kind ≡ true
semicolon_ends k.Semicolon h = refl
semicolon_ends _ h = cc

pub brace_ends : (kind : Kind) → is_right_brace kind ≡ true → ends_expression kind ≡ true
brace_ends k.RightBrace h = refl
brace_ends _ h = cc

pub end_ends : (kind : Kind) → is_end kind ≡ true → ends_expression kind ≡ true
end_ends k.End h = refl
end_ends _ h = cc

pub let_kind : (kind : Kind) → is_let kind ≡ true → kind ≡ k.Let
let_kind k.Let h = refl
let_kind _ h = cc

pub bracket_kind : (kind : Kind) → is_left_bracket kind ≡ true → kind ≡ k.LeftBracket
bracket_kind k.LeftBracket h = refl
bracket_kind _ h = cc

pub name_kind : (kind : Kind) → is_name kind ≡ true → kind ≡ k.Name
name_kind k.Name h = refl
name_kind _ h = cc

pub target_agrees : (kind : Kind) → begins_target kind ≡ true → agrees goal.Div kind ≡ true
target_agrees k.End h = cc
target_agrees k.RegExp h = cc
target_agrees k.TemplateMiddle h = cc
target_agrees k.TemplateTail h = cc
target_agrees _ h = refl

pub label_agrees : (c : Context) (kind : Kind) → is_reference c kind ≡ true → agrees goal.Div kind ≡ true
label_agrees c k.End h = cc
label_agrees c k.RegExp h = cc
label_agrees c k.TemplateMiddle h = cc
label_agrees c k.TemplateTail h = cc
label_agrees c _ h = refl

pub labels_nothing : (a b d : Bool) → b ≡ false → d ≡ true → cond (a && b) o.Labelled (cond d o.Function o.Expression) ≡ o.Function
labels_nothing true false true h g = refl
labels_nothing false false true h g = refl
labels_nothing a true d h g = cc
labels_nothing a false false h g = cc

pub async_name : (text : Text) (t : Token) → is_async text t ≡ true → t.kind ≡ k.Name
unfolding is_word
async_name text t h = name_kind t.kind (first_of _ _ h)
