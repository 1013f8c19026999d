-- The tokens of arrow functions.
use Rattle.std.proofs.Common.{◌≡◌, true, ℕ, List, refl, ap}
use Rattle.esb_token.specs.declared.kind.Kind.{Kind}
use Rattle.esb_token.specs.declared.kind.Kind.TheVariants as k
use Rattle.esb_token.specs.declared.token.Token.{Token}
use Rattle.esb_token.specs.declared.goal.Goal.TheVariants as goal
use Rattle.esb_grammar.specs.declared.context.Context.{Context}
use Rattle.esb_grammar.specs.Kinds.{is_name, is_reference, is_binding}
use Rattle.esb_grammar.specs.Words.{is_word, is_async}
use Rattle.esb_reader.specs.Kinds.{agrees}
use Rattle.esb_assignment_laws.specs.Values.{is_arrow}
use Rattle.esb_operator_laws.proofs.TokenTests.{and_left}
use Rattle.esb_value_laws.specs.Arrows.{is_arrow_on_line, is_name_on_line}

pub arrow_is : (kind : Kind) → is_arrow kind ≡ true → kind ≡ k.Arrow
arrow_is k.Arrow h = refl
arrow_is _ h = cc

pub arrow_agrees : (t : Token) → is_arrow_on_line t ≡ true → agrees goal.Div t.kind ≡ true
arrow_agrees t h = ap (agrees goal.Div) (arrow_is t.kind (and_left _ _ h))

pub reference_agrees : (c : Context) (kind : Kind) → is_reference c kind ≡ true → agrees goal.Div kind ≡ true
reference_agrees c k.End h = cc
reference_agrees c k.RegExp h = cc
reference_agrees c k.TemplateMiddle h = cc
reference_agrees c k.TemplateTail h = cc
reference_agrees c _ h = refl

binding_agrees : (kind : Kind) → is_binding kind ≡ true → agrees goal.Div kind ≡ true
binding_agrees k.End h = cc
binding_agrees k.RegExp h = cc
binding_agrees k.TemplateMiddle h = cc
binding_agrees k.TemplateTail h = cc
binding_agrees _ h = refl

pub name_agrees : (t : Token) → is_name_on_line t ≡ true → agrees goal.Div t.kind ≡ true
name_agrees t h = binding_agrees t.kind (and_left _ _ h)

name_is : (kind : Kind) → is_name kind ≡ true → kind ≡ k.Name
name_is k.Name h = refl
name_is _ h = cc

pub async_is : (text : List ℕ) (t : Token) → is_async text t ≡ true → t.kind ≡ k.Name
unfolding is_word
async_is text t h = name_is t.kind (and_left _ _ h)

pub async_agrees : (text : List ℕ) (t : Token) → is_async text t ≡ true → agrees goal.Div t.kind ≡ true
async_agrees text t h = ap (agrees goal.Div) (async_is text t h)
